-- What a node has now: its metric.
use Rattle.lisp_statistics.specs.Metric.{Texts, texts}
use Rattle.lisp_statistics.specs.declared.gauge.Figure.{Figure}
use Rattle.lisp_statistics.specs.declared.gauge.Figure.TheVariants.{Records, Rows, Sites, StandingNotices, Replays, LongestSave, Requests, SlowestReply}
use Rattle.lisp_statistics.specs.declared.metrics.TheConstants.{LONGEST_SAVE, RECORDS, REPLAYS, REQUESTS, ROWS, SITES, SLOWEST_REPLY, STANDING_NOTICES}

abbrev pub figure_metric : Figure → Texts
figure_metric Records = texts RECORDS
figure_metric Rows = texts ROWS
figure_metric Sites = texts SITES
figure_metric StandingNotices = texts STANDING_NOTICES
figure_metric Replays = texts REPLAYS
figure_metric LongestSave = texts LONGEST_SAVE
figure_metric Requests = texts REQUESTS
figure_metric SlowestReply = texts SLOWEST_REPLY
