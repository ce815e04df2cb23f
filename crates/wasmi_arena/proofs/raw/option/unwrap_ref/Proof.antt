-- `unwrap_ref` lends the value of a `Some`. Assumes `Logic`.
use Rattle.std.proofs.Common.{List, [], ◌∷◌, refl, ap}
use Rattle.wasmi_arena.proofs.Steps.{proved, ftrue, flft, named, Args, a_type, inst_fn, Val, vptr, ◌⊑◌, fact, tables, join, use0, ‵, raw, ◌⊛◌, at_ret, ◌$◌, ◌∵◌, !, qed, done, move, keep, drop, split, fsplit, fjoin, feq_i, rewrite, suffices, enter, of_opd, bin, align_word, addr, stop, first, blocks, exec, returns, alloc_all, pass_all, free_all, look_at, get, through, sets, sets_last, is, env, yes, RefOf, shared_of, hide, unhide, layouts, param_laws, ShrRef, shr_vals, shr_Tells, plain, heard, Stays, walk_of, says, stay_dropped, Goes-dropped, ends_at}
use Rattle.std.specs.Prelude.{IsSome}
use Rattle.core.proofs.mem.Param.{El, R}
use Rattle.std_alloc.proofs.VecSteps.Shapes.{after as rest_of}
use Rattle.wasmi_arena.specs.contracts.raw.option.unwrap_ref as F
use Rattle.wasmi_arena.proofs.raw.option.unwrap_ref.Statement.{statement}
use Rattle.wasmi_arena.proofs.raw.option.unwrap_ref.Code as code
use Rattle.wasmi_arena.proofs.Frame.{let_go, gone}
use Rattle.wasmi_arena.proofs.SomeMemory.{value_of, MaybeT, value_at, behind_tag}

pub unwrap_ref_spec : {M : Type 1} → statement M
unwrap_ref_spec 𝓤 𝓛 𝓜 𝓡 wired X LX =
    let E : El = record { row = X; laws = LX } in let L = param_laws 0 X LX in let MT = MaybeT (R E) L in let args : Args = layouts (a_type ∷ []) (X, tt) in
    let call = F.ended X in let c = F.clauses X 𝓛 𝓜.mem 𝓡.returns in
    let stayed : Stays call.signature.params call.kept = (stay_dropped _ yes, tt) in
    let function = inst_fn args code.function in
    let W = walk_of 𝓛 call stayed c in let 𝓣 = tables 𝓤 𝓛.H 𝓜 𝓡 𝓡.env in
    let self = RefOf {n = 2} (0 ∷ []) tt (plain (λ _. MT)) (λ _. tt) in
    proved 𝓛 call stayed c 𝓜 𝓡 (Goes-dropped 𝓛 2 self yes (λ κs x w. refl), tt)
    (F.Key.name args) function (code.unfolded 𝓤 𝓛.H 𝓜 𝓡 wired (X, tt))
    (λ κs. (shr_vals, tt)) (λ κs. (shr_Tells (named 0) κs.0 MT, tt))
    (λ κs qs bounds a _ are.
    let r = a.0 in let b = r.ref_ptr.0 in let o = r.ref_ptr.1 in let κ = κs.0 in let q = qs.0 in let o' = value_at (R E) L o in
    let y : W.Ghost = ((κs, qs, bounds, a, (shr_vals r, tt)), tt) in
    let others_alive = ‵ (flft κs.1.0 qs.1.0) ⊛ ‵ ftrue in
    qed 𝓛 (((‵ (flft κ q) ⊛ others_alive) ⊛ ‵ ((ShrRef (named 0) κ MT).own_val r (shr_vals r)) ⊛ ‵ ftrue)
    ∷ (raw (fact 𝓤 (κs.1.0 ⊑ X.lives)) ⊛ raw (fact 𝓤 (IsSome r.now))) ∷ []) ∵
    move ! (1 ∷ []) $ split ! $ drop ! $ heard ! _ (λ is_some. let held = value_of r.now is_some in
    split ! $ split ! $ move ! (2 ∷ []) $ split ! $ fsplit ! $ keep ! (1 ∷ 3 ∷ 4 ∷ []) $
    enter ! _ _ _ _ _ $ alloc_all ! (λ l. pass_all ! refl ((tt, tt), tt) $
    unhide ! $ rewrite ! 0 (λ (option : MT.Denot). ‵ (shared_of MT option b o κ)) held.1 refl $ fsplit ! $ fsplit ! $ drop ! $ fsplit ! $ hide ! $
    move ! (1 ∷ []) $ drop ! $ move ! (1 ∷ []) $ drop ! $ first ! $ blocks ! $
    sets ! (addr ! (through ! refl (stop !))) refl (tt, tt) $ sets ! (of_opd ! (get ! refl)) refl (tt, tt) $
    sets ! (is ! (bin ! (get ! refl) (align_word !) tt) (ap (vptr b) (behind_tag (R E) L o))) refl (tt, tt) $ sets ! (of_opd ! (get ! refl)) refl (tt, tt) $
    sets_last ! (addr ! (through ! refl (stop !))) refl (tt, tt) $ exec ! 𝓣.C 𝓣.Λ (env function.locals l) (rest_of 1 function.body) (at_ret _ (W.post y)) $
    sets ! (of_opd ! (get ! refl)) refl (tt, tt) $
    -- [a `&` to the value; the tokens]
    feq_i ! (List Val) (vptr b o' ∷ []) (vptr b o' ∷ []) refl $ fjoin ! $
    returns ! (look_at ! 0 refl) $ free_all ! refl $ keep ! (0 ∷ 1 ∷ 2 ∷ []) $
    suffices ! _ (ends_at 𝓛 call stayed c y (vptr b o') (record { ref_ptr = (b, o'); now = held.0 }) (tt, tt) (tt, tt)) $ says ! held.1 $
    use0 𝓛 (‵ (let_go 1)) (gone 𝓛 1) $ move ! (2 ∷ 3 ∷ []) $ join ! $ done !)))
