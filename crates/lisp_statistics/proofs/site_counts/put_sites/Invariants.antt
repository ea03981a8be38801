use Rattle.std.proofs.Common.{◌≡◌, ◌++◌, take}
use Rattle.std.specs.List.{flat_map}
use Rattle.std.specs.String.{string_bytes}
use Rattle.lisp_statistics.specs.SiteCounts.{site_text}
use Rattle.lisp_statistics.proofs.site_counts.put_sites.Given as goal

-- the sites so far
abbrev pub invariant-loop-site : goal.invariant-loop-site
invariant-loop-site g l = string_bytes l.text ≡ string_bytes l.fn.text ++ flat_map (site_text l.shape l.node l.counts.entries) (take l.site-index l.sites)
