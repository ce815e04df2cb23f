-- The names that walks on entries cite, handed on.
-- for the proofs by hand of wasmi_ordered and wasmi_hashed
pub use Rattle.std.proofs.Common.{◌≡◌, ◌∙◌, [], ◌∷◌, Ok, None, MutBor, refl, ap, subst, lit<}
pub use Rattle.std.proofs.raw_atomic.Walks.{leaves}
pub use Rattle.std.specs.Borrow.{Bor, name_if_ok}
pub use Rattle.std.specs.Fn.{FnOnceReturnsAt}
pub use Rattle.std.specs.Option.{UnwrapsOrElse}
pub use Rattle.std.specs.Prelude.{Some, IfOk, OnErr, unwrap_or}
pub use base.Fml.{GName, fsep, ftrue, flft}
pub use base.Logic.{sep, emp, id⊢}
pub use contract.BorrowLft.{◌⊑◌}
pub use contract.Lifetimes.{toks}
pub use contract.Monad.{fact, fact_i}
pub use contract.Running.{tables}
pub use denote.Exit.{at, yes, no, rest, see, left}
pub use denote.Follow.{follows, follows_if, follows_so, follows_then, lends_Part}
pub use denote.Memory.{mem}
pub use denote.Param.{bounded, layout, param}
pub use denote.Param.Laws.{param_laws}
pub use denote.Ref.{MutRef, mut_vals, mut_Tells}
pub use denote.Signature.{plain, named_lft}
pub use denote.Steps.{nothing, heard, only}
pub use denote.Struct.Tuple.{Tuple, tuple_laws}
pub use denote.Triple.Clauses.{lasts, Lasts}
pub use denote.Triple.Table.{framed}
pub use denote.Triple.Walked.{Stays, walk_of, stay_dropped, Goes-dropped, Goes-spent_ref}
pub use mir.MapTy.{inst_fn}
pub use mir.Syntax.{Args, a_type, dcons, dnil, named}
pub use mir.Val.{Val, vptr}
pub use types.ByLocal.{alloc_all, pass_all, free_all, look_at, get, through, sets, lands_as}
pub use types.Kit.{‵, raw, ◌⊛◌, some, later, ◌$◌, ◌∵◌, !, qed, by, done, move, keep, drop, split, split3, fsplit3, fjoin, frame, group, pick, await, use0, use1, use2, suffices, rewrite}
pub use types.Mut.{open_ref}
pub use types.Run.{enter, addr, fld, stop, of_opd, and_then, no_more, returns}
pub use Rattle.wasmi_arena.proofs.Frame.{let_go, gone}
pub use Rattle.wasmi_map_specs.proofs.HandedOn.{also, calls_on, hands, lends, lends_with, lends_bare, takes, spent, ok_val, told}
pub use Rattle.wasmi_map_specs.proofs.Words.{Good, proved_by, typed_of, one_of, ref_of, all_of, but_last, front, shares, facts, twice}
