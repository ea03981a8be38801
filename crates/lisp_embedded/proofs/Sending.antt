-- What is held may go to another thread if the value may.
use mir.Raw.{raw}
use base.Fraction.{full_share}
use base.Shift.{Keyless}
use denote.Exit.{Exit, unchanged, leaves, hidden, under}
use denote.RattleType.{RattleType}
use denote.Memory.{lone}
use denote.RawPtr.{Ptr, block_ptr, null_ptr}
use denote.Param.Send.{IsSend, Quiet, part_keyless}
use Rattle.std.specs.declared.alloc.Global.{Global}
use Rattle.std.specs.declared.option.Option.{Option}
use Rattle.std.specs.declared.option.Option.TheVariants.{None, Some}
use Rattle.std.proofs.Crossing.{frees}
use Rattle.lisp_embedded.specs.Held.{held}

pub held_sends : (R : RattleType) → IsSend R → (a : Global) (p : Ptr) (x : Option R.Denot) → Keyless (held R a p x)
held_sends R sends a (block_ptr b o) (Some x) = (part_keyless R sends full_share x b o, frees.frees a (raw (lone R.mir)) (block_ptr b o))
held_sends R sends a null_ptr (Some x) = (tt, frees.frees a (raw (lone R.mir)) null_ptr)
held_sends R sends a null_ptr None = tt
held_sends R sends a (block_ptr b o) None = tt

-- a struct that owns more than its fields leaves no more than they do
pub quiet_under : {D X : Type 0} (to : D → X) (e : Exit X) → Quiet e → Quiet (hidden (under to e))
quiet_under to unchanged q = λ x w. tt
quiet_under to (leaves L l S s r) q = λ d. q (to d)
