-- `unwrap_mut` lends the value of a `Some`. Assumes `Logic`.
use Rattle.std.proofs.Common.{[], ◌∷◌, Some, refl, ap, MutBor}
use Rattle.wasmi_arena.proofs.Steps.{proved, GName, ftrue, flft, id⊢, named, Args, a_type, inst_fn, vptr, ◌⊑◌, fact, tables, join, use0, use1, ‵, raw, ◌⊛◌, some, later, at_ret, ◌$◌, ◌∵◌, !, qed, done, move, keep, drop, split, group, pick, await, fsplit3, rewrite, frame, suffices, enter, of_opd, bin, align_word, addr, stop, first, blocks, exec, returns, alloc_all, pass_all, free_all, look_at, get, through, sets, sets_last, is, env, open_ref, full_share, no, follows, Part, lends_Part, mem, part_at, layouts, param_laws, MutRef, mut_vals, mut_Tells, plain, heard, Stays, walk_of, says, stay_dropped, Goes-spent_ref, ends_at}
use Rattle.std.specs.Prelude.{IsSome}
use Rattle.core.proofs.mem.Param.{El, R}
use Rattle.std_alloc.proofs.VecSteps.Shapes.{after as rest_of}
use Rattle.wasmi_arena.specs.contracts.raw.option.unwrap_mut as F
use Rattle.wasmi_arena.proofs.raw.option.unwrap_mut.Statement.{statement}
use Rattle.wasmi_arena.proofs.raw.option.unwrap_mut.Code as code
use Rattle.wasmi_arena.proofs.Frame.{let_go, gone}
use Rattle.wasmi_arena.proofs.SomeMemory.{value_of, MaybeT, value_at, behind_tag, Rest, some_out, some_back}

pub unwrap_mut_spec : {M : Type 1} → statement M
unwrap_mut_spec 𝓤 𝓛 𝓜 𝓡 wired X LX =
    let E : El = record { row = X; laws = LX } in let L = param_laws 0 X LX in let MT = MaybeT (R E) L in let args : Args = layouts (a_type ∷ []) (X, tt) in
    let call = F.ended X in let c = F.clauses X 𝓛 𝓜.mem 𝓡.returns in
    let stayed : Stays call.signature.params call.kept = (stay_dropped _ no, tt) in
    let function = inst_fn args code.function in
    let W = walk_of 𝓛 call stayed c in let 𝓣 = tables 𝓤 𝓛.H 𝓜 𝓡 𝓡.env in
    proved 𝓛 call stayed c 𝓜 𝓡 (Goes-spent_ref 𝓛 2 (0 ∷ []) tt (plain (λ _. MT)), tt)
    (F.Key.name args) function (code.unfolded 𝓤 𝓛.H 𝓜 𝓡 wired (X, tt))
    (λ κs. (mut_vals, tt)) (λ κs. (mut_Tells (named 0) κs.0 MT, tt))
    (λ κs qs bounds a _ are.
    let r = a.0 in let b = r.ref_ptr.0 in let o = r.ref_ptr.1 in let κ = κs.0 in let q = qs.0 in let γ = r.ghost_name in let o' = value_at (R E) L o in
    let y : W.Ghost = ((κs, qs, bounds, a, (mut_vals r, tt)), tt) in
    let others_alive = ‵ (flft κs.1.0 qs.1.0) ⊛ ‵ ftrue in
    qed 𝓛 (((‵ (flft κ q) ⊛ others_alive) ⊛ ‵ ((MutRef (named 0) κ MT).own_val r (mut_vals r)) ⊛ ‵ ftrue)
    ∷ (raw (fact 𝓤 (κs.1.0 ⊑ X.lives)) ⊛ raw (fact 𝓤 (IsSome r.now))) ∷ []) ∵
    move ! (1 ∷ []) $ split ! $ drop ! $ heard ! _ (λ is_some. let held = value_of r.now is_some in
    split ! $ split ! $ move ! (2 ∷ []) $ split ! $ fsplit3 ! $ keep ! (1 ∷ 2 ∷ 4 ∷ 5 ∷ []) $
    enter ! _ _ _ _ _ $ alloc_all ! (λ l. pass_all ! refl ((tt, tt), tt) $ first ! $ blocks ! $
    sets ! (addr ! (through ! refl (stop !))) refl (tt, tt) $ sets ! (of_opd ! (get ! refl)) refl (tt, tt) $
    sets ! (is ! (bin ! (get ! refl) (align_word !) tt) (ap (vptr b) (behind_tag (R E) L o))) refl (tt, tt) $ sets ! (of_opd ! (get ! refl)) refl (tt, tt) $
    sets_last ! (addr ! (through ! refl (stop !))) refl (tt, tt) $ exec ! 𝓣.C 𝓣.Λ (env function.locals l) (rest_of 1 function.body) (at_ret _ (W.post y)) $
    sets ! (of_opd ! (get ! refl)) refl (tt, tt) $
    open_ref ! tt (mem MT) {b = b} {o = o} $
    rewrite ! 0 (λ (option : MT.Denot). ‵ (part_at MT full_share option b o)) held.1 refl $
    use1 𝓛 (‵ (part_at (R E) full_share held.0 b o') ⊛ raw (Rest (R E) L 𝓛 held.0 b o)) (some_out (R E) L 𝓛 held.0 b o) $ split ! $
    -- [the value; the rest of the `Some`; the open borrow, in three entries; the other tokens]
    move ! (2 ∷ 3 ∷ 4 ∷ 0 ∷ 1 ∷ []) $ group ! 5 $
    use1 𝓛 (later (some (λ (δ : GName). raw (Part 𝓛 MT (R E) Some (named 0) κ q b o b o' γ (Rest (R E) L 𝓛 held.0 b o) (λ w. some_back (R E) L 𝓛 held.0 w b o) held.0 δ))))
    (lends_Part 𝓛 MT (R E) Some (named 0) κ q b o b o' γ (Rest (R E) L 𝓛 held.0 b o) (λ w. some_back (R E) L 𝓛 held.0 w b o) (MT.coded.code r.now) (MT.coded.code r.now) held.0) $ await ! tt $ pick ! (λ δ.
    let u : MutBor X.Denot = record { ref_ptr = (b, o'); ghost_name = δ; now = held.0 } in
    use1 𝓛 (‵ ((MutRef (named 0) κ (R E)).own_val u (mut_vals u)) ⊛ ‵ (flft κ q) ⊛ ‵ (follows MT (R E) γ δ Some)) (id⊢ 𝓤 _) $
    split ! $ move ! (1 ∷ []) $ split ! $ returns ! (look_at ! 0 refl) $ free_all ! refl $
    -- [the token; what the option is afterwards; the value; the other tokens]
    suffices ! _ (ends_at 𝓛 call stayed c y (vptr b o') u (tt, tt) (tt, tt)) $
    move ! (0 ∷ 3 ∷ []) $ join ! $ use0 𝓛 (‵ (let_go 1)) (gone 𝓛 1) $ move ! (1 ∷ 0 ∷ 3 ∷ 2 ∷ []) $ group ! 3 $ frame ! $ says ! held.1 $ done !))))
