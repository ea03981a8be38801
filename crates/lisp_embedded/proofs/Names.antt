-- Passes on the names of the logic that walks over raw pointers cite.
pub use Rattle.std.proofs.Common.{◌≡◌, List, [], ◌∷◌, ◌++◌, refl, sym, ap, subst, ◌∙◌, lit<, None, Some, ℕ}
pub use mir.Syntax.{Fn, Args, Body, a_type, dcons, dnil, seq, assign, place, rv_opd, copy, return, Ty, impl, tnil, tcons, ty_ptr, ty_struct}
pub use mir.MapTy.{inst_fn}
pub use mir.Val.{Val, vptr, has_ty, WT, vstruct, of_list, vnil, vcons}
pub use lib.Dec.{T as Holds}
pub use base.Logic.{SProp, ent, id⊢, emp, never, fst∗, via, never_e, snd∗, guard_i}
pub use base.Fml.{ftrue, flft, fsep, Fml}
pub use prog.Wp.{WpFn}
pub use types.Kit.{Item, ‵, raw, ◌⊛◌, some, later, at_ret, ◌$◌, ◌∵◌, !, qed, by, move, keep, drop, use1, split, split3, join, fsplit, fjoin, pick, await, rewrite, suffices, feq_i, use0, fpick, feq_l, Goal, Seq, Step, step, given, learn, fpack}
pub use types.Part.{sub, whole, agg}
pub use types.Run.{stop, fld, of_opd, no_more, and_then, first, blocks, exec, returns, enter, lit, bin, branches}
pub use types.ByLocal.{alloc_all, pass_all, free_all, look_at, get, get_in, sets, lands_last, env, lands_as, sets_last}
pub use contract.Monad.{fact, fact_i, fact_use}
pub use contract.Running.{tables}
pub use denote.Exit.{no, yes}
pub use denote.Param.{bounded, layout}
pub use denote.RattleType.{RattleType, owns, Valss}
pub use denote.RawPtr.{block_ptr, Ptr, RawPtr, null_ptr, ptr_val, in_a_block, tests_null, Testable}
pub use denote.Signature.{types_at, plain, type_at}
pub use denote.Steps.{nothing, only, heard}
pub use denote.Triple.Spec.{triple_of}
pub use denote.Triple.Table.{framed}
pub use denote.Triple.Call.{calls_at_last, calls_at}
pub use denote.Triple.Walked.{Stays, stay_dropped, walk_of, Goes-dropped}
pub use Rattle.std.proofs.alloc.Calls.{Goes-blank, token, handle_tells, Al, Fits}
pub use Rattle.std.proofs.raw_atomic.Walks.{proved_at, leaves}
pub use mir.Raw.{raw as bare}
pub use types.Logic.{sem, Logic}
pub use Rattle.std.specs.Box.Ownership.{box_owns}
pub use types.Match.{live}
pub use Rattle.std.specs.contracts.impls.GlobalAllocator.TheImpl.{ghosts}
pub use Rattle.std.proofs.option.Made.{Some-of, none_of}
