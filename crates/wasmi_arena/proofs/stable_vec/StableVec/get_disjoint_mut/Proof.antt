-- `get_disjoint_mut` hands on what `checked_pair` lends. Assumes `Logic`.
use Rattle.std.proofs.Common.{◌≡◌, ◌<◌, ◌^◌, List, [], ◌∷◌, length, set, Result, refl, sym, ap, ◌∙◌, subst, MutBor}
use Rattle.wasmi_arena.proofs.Steps.{proved, id⊢, emp, GName, Fml, ftrue, flft, ◌⊑◌, fact, tables, named, Args, a_type, dcons, dnil, w64, inst_fn, Val, vptr, vint, vstruct, vcons, vnil, size, alloc_all, pass_all, free_all, look_at, get, get_in, through, sets, lands_as, ‵, raw, ◌⊛◌, some, later, ◌$◌, ◌∵◌, !, qed, done, move, drop, join, split, fsplit, fsplit3, fjoin, fjoin3, fpick, feq_i, use0, use1, use2, pick, rewrite, await, group, suffices, whole, sub, enter, addr, stop, fld, of_opd, and_then, no_more, returns, usize, no, yes, follows_both_if, layout, bounded, uint_vals, uint_Tells, uint_Makes, MutRef, mut_vals, mut_Tells, plain, shows, nothing, heard, owned, peeks, only, calls_at, lasts, triple_of, framed, Stays, walk_of, stay_dropped, Goes-spent_ref, Goes-dropped, ends_at, Array, param_laws, Laws, Told, array_told, array_laws, of_field, copy_shared, Struct-Tells, Tuple, tuple_type}
use contract.Fact.{fact_i}
use Rattle.core.proofs.alloc.Calls.{Al}
use Rattle.core.proofs.mem.Param.{El, R}
use Rattle.wasmi_arena.specs.Pairs.{names_if_ok, with_both}
use Rattle.wasmi_arena.specs.inner.Pairs.{PairAnswer, AreNumbers}
use Rattle.wasmi_arena.specs.declared.error.ArenaError.{ArenaError}
use Rattle.wasmi_arena.specs.contracts.stable_vec.StableVec.get_disjoint_mut as F
use Rattle.wasmi_arena.specs.contracts.stable_vec.StableVec.checked_pair as Call
use Rattle.wasmi_arena.proofs.stable_vec.StableVec.checked_pair.Met as Lends
use Rattle.wasmi_arena.proofs.stable_vec.StableVec.get_disjoint_mut.Statement.{statement}
use Rattle.wasmi_arena.proofs.stable_vec.StableVec.get_disjoint_mut.Code as code
use Rattle.wasmi_arena.proofs.Frame.{let_go, gone}
use Rattle.wasmi_arena.proofs.PairResults.{PairOr, pair_or_laws}
use Rattle.wasmi_arena.proofs.VecMemory.{VecRow}
use denote.Struct.Declared as Declared
use denote.Struct.Field.{usize-field}
use denote.Struct.Laws.{usize-laws, usize-copy}
use Rattle.wasmi_arena.proofs.Answered.{Items, Aliasing, Bounds, Errors, asked-items, asked-aliasing, asked-bounds, asked-writes, answered-errors}
use Rattle.wasmi_arena.specs.contracts.stable_vec.StableVec.with_numbers as Asks
use Rattle.wasmi_arena.proofs.stable_vec.StableVec.with_numbers.Met as Asked

usize_row_laws : Laws usize
usize_row_laws = of_field usize-field usize-laws refl (copy_shared usize-field usize-copy)

pub get_disjoint_mut_spec : {M : Type 1} → statement M
get_disjoint_mut_spec 𝓤 𝓛 𝓜 𝓡 wired X Y LX LY g d dd met md =
    let E : El = record { row = X; laws = LX } in let Z : Al = record { row = Y; laws = LY; g = g; d = d; drops = dd } in
    let args : Args = bounded (a_type ∷ a_type ∷ []) (X, (Y, tt)) (dcons d (dcons dd dnil)) in
    let call = F.ended X Y g d dd in let c = F.clauses X Y g d dd 𝓛 𝓜.mem 𝓡.returns in
    let T = R E in let Self = VecRow E Z in let function = inst_fn args code.function in let Indices = Array usize 2 in
    let spelt : Told Indices = array_told usize (record { val = vint w64; tells = uint_Tells w64 }) 2 in
    let stayed : Stays call.signature.params call.kept = (stay_dropped _ no, (stay_dropped _ yes, tt)) in
    let W = walk_of 𝓛 call stayed c in let 𝓣 = tables 𝓤 𝓛.H 𝓜 𝓡 𝓡.env in
    proved 𝓛 call stayed c 𝓜 𝓡 (Goes-spent_ref 𝓛 3 (0 ∷ []) tt (plain (λ _. Self)), (Goes-dropped 𝓛 3 (plain (λ _. Indices)) yes (λ κs x w. refl), tt))
    (F.Key.name args) function (code.unfolded 𝓤 𝓛.H 𝓜 𝓡 wired (X, (Y, tt)) d dd)
    (λ κs. (mut_vals, ((λ is. spelt.val is ∷ []), tt))) (λ κs. (mut_Tells (named 0) κs.0 Self, (spelt.tells, tt)))
    (λ κs qs bounds a _ are.
    let items = a.0.now in let indices = a.1.0 in let κ = κs.0 in let q = qs.0 in let γ = a.0.ghost_name in let vs = mut_vals a.0 in let w = spelt.val indices in
    let y : W.Ghost = ((κs, qs, bounds, a, (vs, (w ∷ [], tt))), tt) in
    let alive = ‵ (flft κ q) ⊛ ‵ (flft κs.1.0 qs.1.0) ⊛ ‵ (flft κs.1.1.0 qs.1.1.0) ⊛ ‵ ftrue in let Two : Type 0 = MutBor X.Denot × MutBor X.Denot in
    let Ref = MutRef (named 0) κ Self in let Four = Tuple (Ref ∷ usize ∷ usize ∷ usize ∷ []) in
    let typed = (((array_laws usize usize_row_laws 2).lawful 𝓛).typed indices (w ∷ []) are.1.0).0 in
    qed 𝓛 ((alive ⊛ ‵ (Ref.own_val a.0 vs) ⊛ ‵ (Indices.own_val indices (w ∷ [])) ⊛ ‵ ftrue)
    ∷ (raw (fact 𝓤 (κs.1.0 ⊑ X.lives)) ⊛ raw (fact 𝓤 (κs.1.1.0 ⊑ Y.lives)) ⊛ raw (fact 𝓤 (size (layout Self) < 2 ^ 63)) ⊛ ‵ ftrue) ∷ []) ∵
    move ! (1 ∷ []) $ split ! $ heard ! _ (λ in_T. split ! $ heard ! _ (λ in_A. split ! $ heard ! _ (λ small. drop ! $
    -- [what is owned, which is what `with_numbers` takes]
    enter ! _ _ _ _ _ $ alloc_all ! (λ l. pass_all ! refl ((tt, tt), (typed, tt)) $
    sets ! (addr ! (through ! refl (stop !))) refl (tt, tt) $
    let G₁ = triple_of 𝓛 (Asks.signature X Y g d dd) (Asks.spec X Y g d dd 𝓛 𝓜.mem 𝓡.returns) in let z₁ : G₁.Ghost = ((κs, qs, bounds, a, (vs, (w ∷ [], tt))), tt) in
    nothing ! $ use0 𝓛 (raw (fact 𝓤 (size (layout Self) < 2 ^ 63))) (fact_i 𝓤 _ (emp 𝓤) small) $ join ! $
    use0 𝓛 (raw (fact 𝓤 (κs.1.1.0 ⊑ Y.lives))) (fact_i 𝓤 _ (emp 𝓤) in_A) $ join ! $ use0 𝓛 (raw (fact 𝓤 (κs.1.0 ⊑ X.lives))) (fact_i 𝓤 _ (emp 𝓤) in_T) $ join ! $
    move ! (1 ∷ 0 ∷ []) $ use2 𝓛 (raw (G₁.pre z₁)) (id⊢ 𝓤 _) $
    calls_at ! (framed 𝓤 𝓛.H 𝓜 𝓣) G₁ (Asked.met 𝓤 𝓛 𝓜 𝓡 (code.calls-wasmi_arena::stable_vec::StableVec::with_numbers 𝓡.env wired) X Y LX LY g d dd met md) z₁
    (and_then ! (get ! refl) (and_then ! (get ! refl) (no_more !))) (λ v₁.
    use1 𝓛 (later (some (λ (t : Four.Denot). (alive ⊛ ‵ (Four.own_val t (v₁ ∷ []))) ⊛
    some (λ (ws : Unit {0} × (Unit {0} × Unit {0})). ‵ (lasts (Asks.ended X Y g d dd) κs a ws) ⊛ raw (fact 𝓤 (t.0.ghost_name ≡ γ)) ⊛ raw (fact 𝓤 (t.0.now ≡ items))
    ⊛ raw (fact 𝓤 (t.1 ≡ length items)) ⊛ raw (fact 𝓤 (AreNumbers (λ k. k) indices t.2 t.3)))))) (id⊢ 𝓤 _) $
    await ! tt $ pick ! (λ t. split ! $ split ! $ move ! (2 ∷ []) $ pick ! (λ ws. split ! $ drop ! $ split ! $ heard ! _ (λ same. split ! $ heard ! _ (λ now_is. split ! $ heard ! _ (λ counted. heard ! _ (λ numbered.
    move ! (1 ∷ []) $ peeks ! Four _ (shows 𝓛 Four) t (v₁ ∷ []) (λ seen.
    let r = t.0 in let len = t.1 in let i = t.2 in let j = t.3 in
    let fits₁ = seen.1.1.1.0.1 in let fits₂ = seen.1.1.1.1.0.1 in let fits₃ = seen.1.1.1.1.1.0.1 in
    let all : Val = vstruct (vcons (vptr r.ref_ptr.0 r.ref_ptr.1) (vcons (vint w64 len) (vcons (vint w64 i) (vcons (vint w64 j) vnil)))) in
    let e₁ : v₁ ≡ all = ap only (Struct-Tells (Declared.shape (tuple_type (Ref ∷ usize ∷ usize ∷ usize ∷ []))) (mut_vals, (uint_vals w64, (uint_vals w64, (uint_vals w64, tt))))
    (mut_Tells (named 0) κ Self, (uint_Tells w64, (uint_Tells w64, (uint_Tells w64, tt)))) (r, (len, (i, (j, tt)))) (v₁ ∷ []) seen) in
    lands_as ! e₁ refl (tt, (tt, (record { fits = fits₁ }, (record { fits = fits₂ }, (record { fits = fits₃ }, tt))))) $
    sets ! (of_opd ! (get_in ! (fld ! refl (stop !)) (sub ! 0 refl (whole !)))) refl (tt, tt) $
    sets ! (of_opd ! (get_in ! (fld ! refl (stop !)) (sub ! 1 refl (whole !)))) refl (tt, record { fits = fits₁ }) $
    sets ! (of_opd ! (get_in ! (fld ! refl (stop !)) (sub ! 2 refl (whole !)))) refl (tt, record { fits = fits₂ }) $
    sets ! (of_opd ! (get_in ! (fld ! refl (stop !)) (sub ! 3 refl (whole !)))) refl (tt, record { fits = fits₃ }) $
    fpick ! (λ vss. fsplit ! $ drop ! $ fsplit ! $ move ! (1 ∷ []) $ drop ! $ fsplit3 ! $ drop ! $ feq_i ! (List Val) (mut_vals r) (mut_vals r) refl $ fjoin3 ! $
    -- [the reference, as it came back; the tokens]
    sets ! (addr ! (through ! refl (stop !))) refl (tt, tt) $
    let Ends : GName → List X.Denot → Result Two ArenaError → Fml = λ n xs res. follows_both_if Self T T n (names_if_ok res) (λ x y. set (set xs i x) j y) xs in
    let G₂ = triple_of 𝓛 (Call.signature X Y g d dd) (Call.spec X Y g d dd 𝓛 𝓜.mem 𝓡.returns) in
    let z₂ : G₂.Ghost = ((κs, qs, bounds, (r, (len, (i, (j, tt)))), (mut_vals r, (uint_vals w64 len, (uint_vals w64 i, (uint_vals w64 j, tt))))), tt) in
    nothing ! $ owned ! usize _ (uint_Makes 𝓛 w64) j _ (refl, fits₃) $ fjoin ! $ owned ! usize _ (uint_Makes 𝓛 w64) i _ (refl, fits₂) $ fjoin ! $
    owned ! usize _ (uint_Makes 𝓛 w64) len _ (refl, fits₁) $ fjoin ! $ move ! (1 ∷ 0 ∷ []) $ fjoin ! $ move ! (1 ∷ 0 ∷ []) $ join ! $
    use0 𝓛 (raw (fact 𝓤 (len ≡ length r.now))) (fact_i 𝓤 _ (emp 𝓤) (counted ∙ ap length (sym now_is))) $
    use0 𝓛 (raw (fact 𝓤 (size (layout Self) < 2 ^ 63))) (fact_i 𝓤 _ (emp 𝓤) small) $ join ! $
    use0 𝓛 (raw (fact 𝓤 (κs.1.1.0 ⊑ Y.lives))) (fact_i 𝓤 _ (emp 𝓤) in_A) $ join ! $ use0 𝓛 (raw (fact 𝓤 (κs.1.0 ⊑ X.lives))) (fact_i 𝓤 _ (emp 𝓤) in_T) $ join ! $
    move ! (1 ∷ 0 ∷ []) $ use2 𝓛 (raw (G₂.pre z₂)) (id⊢ 𝓤 _) $
    calls_at ! (framed 𝓤 𝓛.H 𝓜 𝓣) G₂ (Lends.met 𝓤 𝓛 𝓜 𝓡 (code.calls-wasmi_arena::stable_vec::StableVec::checked_pair 𝓡.env wired) X Y LX LY g d dd met md) z₂
    (and_then ! (get ! refl) (and_then ! (get ! refl) (and_then ! (get ! refl) (and_then ! (get ! refl) (no_more !))))) (λ v.
    use1 𝓛 (later (some (λ (res : Result Two ArenaError). (alive ⊛ ‵ ((PairOr κ T).own_val res (v ∷ []))) ⊛
    some (λ (ws : Unit {0} × (Unit {0} × (Unit {0} × (Unit {0} × Unit {0})))). ‵ (lasts (Call.ended X Y g d dd) κs (r, (len, (i, (j, tt)))) ws)
    ⊛ ‵ (Ends r.ghost_name r.now res) ⊛ raw (fact 𝓤 (PairAnswer r.now i j res)))))) (id⊢ 𝓤 _) $
    await ! tt $ pick ! (λ res. split ! $ split ! $ move ! (2 ∷ []) $ pick ! (λ ws. split ! $ drop ! $ split ! $ move ! (1 ∷ []) $ heard ! _ (λ answered. move ! (2 ∷ []) $
    let told : PairAnswer items i j res = subst (λ (xs : List X.Denot). PairAnswer xs i j res) now_is answered in
    peeks ! (PairOr κ T) _ (shows 𝓛 (PairOr κ T)) res (v ∷ []) (λ seen'.
    lands_as ! refl refl (((pair_or_laws κ T (param_laws 0 X LX)).lawful 𝓛).typed res (v ∷ []) seen').0 $
    returns ! (look_at ! 0 refl) $ free_all ! refl $
    -- [the result; what is said of the vector; the tokens]
    suffices ! _ (ends_at 𝓛 call stayed c y v res (tt, (tt, tt)) (tt, (tt, tt))) $ move ! (1 ∷ []) $
    rewrite ! 0 (λ (n : GName). ‵ (Ends n r.now res)) same refl $ rewrite ! 0 (λ (xs : List X.Denot). ‵ (Ends γ xs res)) now_is refl $
    let is : (λ x y. set (set items i x) j y) ≡ with_both (λ k. k) items indices = λ k x y. asked-writes (λ k. k) items indices i j numbered are.1.0.1.0.1 x y k in
    rewrite ! 0 (λ (f : X.Denot → X.Denot → List X.Denot). ‵ (follows_both_if Self T T γ (names_if_ok res) f items)) is refl $
    use0 𝓛 (raw (fact 𝓤 (Errors items i j res))) (fact_i 𝓤 _ (emp 𝓤) (answered-errors items i j res told)) $
    use0 𝓛 (raw (fact 𝓤 (Bounds (λ k. k) items indices res))) (fact_i 𝓤 _ (emp 𝓤) (asked-bounds (λ k. k) items indices i j numbered res told)) $
    use0 𝓛 (raw (fact 𝓤 (Aliasing (λ k. k) items indices res))) (fact_i 𝓤 _ (emp 𝓤) (asked-aliasing (λ k. k) items indices i j numbered res told)) $
    use0 𝓛 (raw (fact 𝓤 (Items (λ k. k) items indices res))) (fact_i 𝓤 _ (emp 𝓤) (asked-items (λ k. k) items indices i j numbered res told)) $
    use0 𝓛 (‵ (let_go 2)) (gone 𝓛 2) $ move ! (7 ∷ 0 ∷ 6 ∷ []) $ group ! 3 $ move ! (0 ∷ 5 ∷ []) $ done !)))))))))))))))))))
