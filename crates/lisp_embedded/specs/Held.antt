-- What a handle of a program in C owns: nothing at null, or what the box of x owns at p.
use base.Fml.{Fml, ftrue, ffalse}
use denote.RattleType.{RattleType}
use denote.RawPtr.{Ptr, block_ptr, null_ptr}
use Rattle.std.specs.declared.alloc.Global.{Global}
use Rattle.std.specs.contracts.impls.GlobalAllocator.TheImpl.{ghosts}
use Rattle.std.specs.Box.Ownership.{box_owns}
use Rattle.std.specs.declared.option.Option.{Option}
use Rattle.std.specs.declared.option.Option.TheVariants.{None, Some}

abbrev pub held : (R : RattleType) → Global → Ptr → Option R.Denot → Fml
held R a p (Some x) = box_owns (ghosts.dealloc_token a) R p x
held R a null_ptr None = ftrue
held R a (block_ptr b o) None = ffalse
