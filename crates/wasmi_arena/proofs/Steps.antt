-- What proofs by hand cite of the program logic, in one place.
pub use Rattle.std.proofs.raw_atomic.Walks.{proved}
pub use base.Fml.{Lft, GName, Share, Fml, fsep, flft, fobs, fauth, fbor, fat, ftrue, fobor, froom, Incl-trans}
pub use base.Fraction.{full_share}
pub use base.Logic.{SProp, ent, sep, ex, wand, all, all_e, apply∗, never, id⊢, emp, guard}
pub use contract.BorrowLft.{◌⊑◌}
pub use contract.Lifetimes.{Lfts, Shares}
pub use contract.Monad.{fact}
pub use contract.Running.{tables}
pub use denote.Array.{Array}
pub use denote.Builtin.{usize, RefOf, unit}
pub use denote.Exit.{yes, no}
pub use denote.Follow.{follows, Part, lends_Part, follows_both, follows_both_if}
pub use denote.Index.{row, others, takes, puts, place as nth, place_is}
pub use denote.Laws.{Lawfuls, Is, shows, Tells}
pub use denote.Memory.{part_at, mem, lone, shares, cell_at, hidden_shr, shared_of}
pub use denote.Model.Fields.{view_owns, view_made, plain_out, Plain-in}
pub use denote.Opens.{hide, unhide}
pub use denote.Param.{param, layout, copied, number, bounded, layouts}
pub use denote.Param.Laws.{param_laws, Laws, of_field, Told, array_told, array_laws}
pub use denote.Param.Shared.{copy_shared}
pub use denote.Plain.{uint_Lawful, uint_vals, uint_Tells, uint_Makes}
pub use denote.RattleType.{RattleType, Denots, Valss, owns}
pub use denote.RawPtr.{Ptr, block_ptr, in_a_block, null_ptr, ptr_val, RawPtr}
pub use denote.Ref.{MutBor, MutRef, mut_vals, Bor, ShrRef, shr_vals, NamedLft, mut_Tells, shr_Tells}
pub use denote.SharingLaws.{nothing_shr_laws}
pub use denote.Signature.{plain, named_lft}
pub use denote.Slice.{elements_shared, slice_val, MutSlice}
pub use denote.Steps.{peeks, only, nothing, heard, owned}
pub use denote.Struct.Field.{row_field}
pub use denote.Struct.Laws.{field_copy}
pub use denote.Struct.Lending.{Lends-nothing, of_Lends}
pub use denote.Struct.Members.{Member, rows_of}
pub use denote.Struct.Parts.{PartsBack, shape_of}
pub use denote.Struct.Pick.{rest_at, field_out, field_back}
pub use denote.Struct.Struct.{Struct, Struct-Makes, within, Struct-Tells}
pub use denote.Struct.Tuple.{Tuple, tuple_type}
pub use denote.Triple.Call.{calls_at}
pub use denote.Triple.Clauses.{lasts}
pub use denote.Triple.Spec.{triple_of}
pub use denote.Triple.Table.{framed}
pub use denote.Triple.Walked.{Stays, walk_of, says, stay_dropped, Goes-dropped, Goes-spent_ref, ends_at, stay_ref, Goes-ref}
pub use lib.Dec.{T, eqb, eqb→eq, leb→le, nleb→lt}
pub use lib.ListN.{length, get_or, set, length-set, length-append}
pub use mir.MapTy.{inst_fn}
pub use mir.Syntax.{named, w64, Ty, ty_array, ty_struct, Args, a_type, dcons, dnil}
pub use mir.Val.{Val, vptr, vstruct, vcons, vnil, has_ty, WT, of_list, vint, vunit}
pub use native.Mathlib.Nat.{zero-mul}
pub use native.Mathlib.Omega.{arith}
pub use prog.Capped.{capped_fits}
pub use prog.Memory.{align, up, size, field_at, capped}
pub use seplogic.Ra.Ura.{Ura}
pub use types.ByLocal.{alloc_all, pass_all, free_all, look_at, get, through, sets, is, env, get_in, sets_last, take_at, give_at, lands_as}
pub use types.Follow.{after₂, takes_two, takes_part}
pub use types.Kit.{some, by, ‵, raw, ◌⊛◌, ◌$◌, ◌∵◌, !, qed, done, use1, use2, split, pick, rewrite, show, later, move, keep, split3, fjoin, fjoin3, fpack, feq_i, group, await, now, updating, fsplit, fpick, flt_l, flt_i, frame, each, assume, Item, Goal, Step, prop, ⋆, use0, drop, fsplit3, join, use3, given, learn, check, suffices, at_ret, Sq}
pub use types.Logic.{Logic, sem}
pub use types.Match.{live}
pub use types.Mut.{open_ref}
pub use types.Part.{whole, sub, look_in, agg}
pub use types.Run.{enter, size_word, bin, addr, fld, stop, returns, of_opd, align_word, load, look, unit_lit, assigns_last, first, blocks, exec, size_lit, and_then, no_more, lit, branches, skips, returns_within}
pub use types.SemTy.{SemTy, Body, cells}
