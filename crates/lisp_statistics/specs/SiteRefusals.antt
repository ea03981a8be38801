-- Refusals by the limits of sites: which line is of one, and the text of how many there were.
use Rattle.std.specs.Prelude.{ℕ, List, ◌++◌, Option, Some, None}
use Rattle.std.specs.List.{flat_map}
use Rattle.lisp_admission.specs.declared.refused.Refused.{Refused}
use Rattle.lisp_admission.specs.declared.refused.Refused.TheVariants as refused
use Rattle.lisp_admission.specs.Refused.{refused_number}
use Rattle.lisp_model.specs.declared.line.Line.{Line}
use Rattle.lisp_model.specs.declared.line.Line.TheVariants as lines
use Rattle.lisp_model.specs.declared.refusal.Refusal.TheVariants as refusals
use Rattle.lisp_turns.specs.declared.outside.Printed.{Printed}
use Rattle.lisp_turns.specs.declared.outside.Printed.TheVariants as printed
use Rattle.lisp_statistics.specs.declared.counts.Format.{Format}
use Rattle.lisp_statistics.specs.declared.metrics.TheConstants.{SITE_REFUSALS}
use Rattle.lisp_statistics.specs.declared.sample.Label.TheVariants.{Limit}
use Rattle.lisp_statistics.specs.declared.site_refusals.SiteRefusal.{SiteRefusal}
use Rattle.lisp_statistics.specs.Metric.{texts}
use Rattle.lisp_statistics.specs.Sample.{count_text, head_text}

-- a limit of a site refuses: on its routers, its sources, its TTLs, its jumps, or on what is held of it
abbrev pub refusal_by_site : Refused → Option SiteRefusal
refusal_by_site (refused.Limited site limit) = Some (record { site = site; number = refused_number (refused.Limited site limit) })
refusal_by_site (refused.Jump site saved) = Some (record { site = site; number = refused_number (refused.Jump site saved) })
refusal_by_site (refused.Full site full) = Some (record { site = site; number = refused_number (refused.Full site full) })
refusal_by_site _ = None

abbrev pub refusal_in_line : Line → Option SiteRefusal
refusal_in_line (lines.Refused node (refusals.Receive why)) = refusal_by_site why
refusal_in_line _ = None

abbrev pub refusal_in : Printed → Option SiteRefusal
refusal_in (printed.Event line) = refusal_in_line line
refusal_in (printed.Heard line from) = refusal_in_line line
refusal_in _ = None

-- how many there were, by Site-IDs and numbers
abbrev pub site_refusals_text : Format → List ℕ → List (SiteRefusal × ℕ) → List ℕ
site_refusals_text format node counts = head_text format (texts SITE_REFUSALS) ++ flat_map (λ count. count_text format (texts SITE_REFUSALS) node (Limit count.0) count.1) counts
