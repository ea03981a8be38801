use Rattle.std.proofs.Common.{◌≡◌, ◌++◌, take}
use Rattle.std.specs.List.{flat_map}
use Rattle.std.specs.String.{string_bytes}
use Rattle.lisp_control.specs.Gathering.{site_unless_in}
use Rattle.lisp_control.proofs.compare.put_sites_unless_in.Given as goal

-- the sites so far
abbrev pub invariant-loop-site : goal.invariant-loop-site
invariant-loop-site l = string_bytes l.text ≡ string_bytes l.fn.text ++ flat_map (site_unless_in l.word l.others) (take l.site-index l.sites)
