-- `without_block` makes the parts of a block that takes no memory, of nothing. Assumes `Logic`.
use Rattle.std.proofs.Common.{◌≡◌, ℕ, ◌+◌, ◌*◌, ◌<◌, ◌^◌, [], ◌∷◌, T, refl, sym, ap, subst, ◌∙◌, arith, w64, not, eqb, lit<}
use Rattle.wasmi_arena.proofs.Steps.{proved, emp, ftrue, fsep, froom, flft, named, ty_array, inst_fn, Val, vcons, vnil, capped, ◌⊑◌, tables, Sq, prop, ‵, raw, at_ret, ◌$◌, ◌∵◌, !, qed, by, keep, use0, use1, use2, rewrite, fjoin, flt_i, suffices, live, agg, enter, lit, bin, size_word, addr, stop, first, branches, skips, exec, returns, returns_within, and_then, no_more, alloc_all, pass_all, free_all, look_at, get, sets, env, usize, RefOf, yes, hidden_shr, layout, uint_vals, uint_Tells, Ptr, block_ptr, shr_vals, shr_Tells, plain, nothing, Stays, walk_of, stay_dropped, Goes-dropped, ends_at}
use Rattle.std.specs.Prelude.{◌==◌, IsSome, IfSome, Some, None, ◌↔◌}
use Rattle.std.specs.Vec.Ownership.{owns_if}
use native.Mathlib.Nat.{mul-zero}
use mir.Raw.{raw as raw_ty}
use types.Run.{from}
use Rattle.core.proofs.alloc.Calls.{Al, token}
use Rattle.core.proofs.mem.Param.{El, R, elτ}
use Rattle.core.proofs.slots.Leases.{args, P}
use Rattle.core.specs.contracts.option.Option as Opt
use Rattle.std_alloc.proofs.RcSteps.{word-Good, some_Good, Some-of, none_of}
use Rattle.std_alloc.proofs.VecSteps.Shapes.{after}
use Rattle.wasmi_arena.specs.inner.Block.{runs}
use Rattle.wasmi_arena.specs.inner.Slots.{IsNewBlock}
use Rattle.wasmi_arena.specs.contracts.raw.block.memory.without_block as F
use Rattle.wasmi_arena.proofs.raw.block.memory.without_block.Statement.{statement}
use Rattle.wasmi_arena.proofs.raw.block.memory.without_block.Code as code
use Rattle.wasmi_arena.proofs.Frame.{says_two}
use Rattle.wasmi_arena.proofs.NewBlock.{Parts, new_parts, parts_val, parts_typed, is_new, parts_made, others, enters_alloc, leaves_alloc}
use Rattle.wasmi_arena.proofs.SlotRuns.{sz, no_size, fresh, weightless}

pub without_block_spec : {M : Type 1} → statement M
without_block_spec 𝓤 𝓛 𝓜 𝓡 wired X Y LX LY g d dd met md =
    let E : El = record { row = X; laws = LX } in let Z : Al = record { row = Y; laws = LY; g = g; d = d; drops = dd } in
    let call = F.ended X Y g d dd in let c = F.clauses X Y g d dd 𝓛 𝓜.mem 𝓡.returns in
    let stayed : Stays call.signature.params call.kept = (stay_dropped _ yes, (stay_dropped _ yes, tt)) in
    let function = inst_fn (args E Z) code.function in
    let W = walk_of 𝓛 call stayed c in
    let 𝓣 = tables 𝓤 𝓛.H 𝓜 𝓡 𝓡.env in
    let self = RefOf {n = 3} (0 ∷ []) tt (plain (λ _. P E Z)) (λ _. tt) in
    proved 𝓛 call stayed c 𝓜 𝓡 (Goes-dropped 𝓛 3 self yes (λ κs x w. refl), (Goes-dropped 𝓛 3 (plain (λ _. usize)) yes (λ κs x w. refl), tt))
    (F.Key.name (args E Z)) function (code.unfolded 𝓤 𝓛.H 𝓜 𝓡 wired (X, (Y, tt)) d dd)
    (λ κs. (shr_vals, (uint_vals w64, tt))) (λ κs. (shr_Tells (named 0) κs.0 (P E Z), (uint_Tells w64, tt)))
    (λ κs qs bounds a _ are.
    let n = a.1.0 in let size = sz E in
    let y : W.Ghost = ((κs, qs, bounds, a, (shr_vals a.0, (uint_vals w64 n, tt))), tt) in
    let κ₁ = κs.1.0 in let κ₂ = κs.1.1.0 in let q₁ = qs.1.0 in let q₂ = qs.1.1.0 in
    let Answer = Opt.the_row (Parts E Z) in
    enters_alloc E Z 𝓛 κs.0 κ₁ κ₂ qs.0 q₁ q₂ a.0 (fsep (usize.own_val n (uint_vals w64 n)) ftrue) (κ₁ ⊑ X.lives) (emp 𝓤) _ (λ within.
    let out : (r : Answer.Denot) (v : Val) → (IsSome r ↔ (size ≡ 0)) → IfSome r (λ b. IsNewBlock b.0 b.1 b.2 n a.0.now)
    → Sq 𝓛 (‵ (Answer.own_val r (v ∷ [])) ∷ ‵ (flft κs.0 qs.0) ∷ others E Z 𝓛 κs.0 κ₁ κ₂ qs.0 q₁ q₂ ∷ []) (prop (W.post y v)) = λ r v some new.
    suffices ! _ (ends_at 𝓛 call stayed c y v r (tt, (tt, tt)) (tt, (tt, tt))) $ says_two ! some new $ by ! (leaves_alloc E Z 𝓛 κs.0 κ₁ κ₂ qs.0 q₁ q₂ 2 Answer r v) in
    qed 𝓛 (‵ (hidden_shr (P E Z) κs.0 a.0.now a.0.ref_ptr.0 a.0.ref_ptr.1) ∷ ‵ (flft κs.0 qs.0) ∷ others E Z 𝓛 κs.0 κ₁ κ₂ qs.0 q₁ q₂ ∷ ‵ (fsep (usize.own_val n (uint_vals w64 n)) ftrue) ∷ raw (emp 𝓤) ∷ []) ∵ keep ! (1 ∷ 2 ∷ []) $
    enter ! _ _ _ _ (W.post y) $ alloc_all ! (λ l. pass_all ! refl ((tt, tt), ((tt, record { fits = are.1.0.1 }), tt)) $
    sets ! (bin ! (size_word !) (lit ! tt) tt) refl (tt, tt) $ first ! $ branches ! (get ! refl)
    (λ sized. sets ! (agg ! (and_then ! (lit ! tt) (no_more !))) refl (tt, (record { fits = lit< tt }, tt)) $ returns_within ! (W.post y) refl (look_at ! 0 refl) $ free_all ! refl $
    use0 𝓛 (‵ (Answer.own_val None (live 0 vnil ∷ []))) (none_of 𝓛 (Parts E Z)) $ out None (live 0 vnil) (λ e. cc, λ zero. absurd (subst (λ k. T (not (eqb (capped k) 0))) zero sized)) tt)
    (λ unsized. skips ! $ exec ! 𝓣.C 𝓣.Λ (env function.locals l) (after 2 function.body) (at_ret _ (W.post y)) $
    let p : Ptr = block_ptr (l 3) 0 in let good = parts_typed E Z (l 3) 0 in
    let zero : size ≡ 0 = no_size size unsized in let no_bytes : n * size ≡ 0 = ap (λ k. n * k) zero ∙ mul-zero n in
    let fits : (0 + 0 + n) * size < 2 ^ 63 = let same : n * size ≡ (0 + 0 + n) * size = ap (λ k. k * size) (omega arith) in subst (λ k. k < 2 ^ 63) (sym no_bytes ∙ same) (lit< tt) in
    sets ! (agg ! (no_more !)) refl (tt, tt) $ sets ! (addr ! (from ! (stop !))) refl (tt, tt) $ sets ! (agg ! (and_then ! (get ! refl) (no_more !))) refl (word-Good [] p) $
    sets ! (agg ! (no_more !)) refl (tt, tt) $ sets ! (agg ! (and_then ! (get ! refl) (no_more !))) refl (tt, (tt, tt)) $
    sets ! (agg ! (no_more !)) refl (tt, tt) $ sets ! (agg ! (and_then ! (get ! refl) (no_more !))) refl (tt, (tt, tt)) $
    sets ! (agg ! (and_then ! (get ! refl) (and_then ! (get ! refl) (and_then ! (get ! refl) (no_more !))))) refl good $
    sets ! (agg ! (and_then ! (lit ! tt) (and_then ! (get ! refl) (no_more !)))) refl (some_Good (layout (Parts E Z)) (parts_val E Z p) good) $
    nothing ! $ rewrite ! 0 (λ (k : ℕ). ‵ (owns_if (not (k == 0)) (token Z a.0.now (raw_ty (ty_array (elτ E) n)) p))) (sym no_bytes) refl $
    use0 𝓛 (‵ (froom (ty_array (elτ E) n) (l 3) 0)) (weightless E 𝓛 (l 3) 0 n no_bytes) $ use1 𝓛 (‵ (runs (R E) (l 3) 0 0 [] n)) (fresh E 𝓛 (l 3) 0 n) $
    flt_i ! ((0 + 0 + n) * size) (2 ^ 63) fits $ fjoin ! $ use2 𝓛 (‵ ((Parts E Z).own_val (new_parts E Z p n a.0.now) (parts_val E Z p ∷ []))) (parts_made E Z 𝓛 p n a.0.now) $
    use1 𝓛 (‵ (Answer.own_val (Some (new_parts E Z p n a.0.now)) (live 1 (vcons (parts_val E Z p) vnil) ∷ []))) (Some-of 𝓛 (Parts E Z) (new_parts E Z p n a.0.now) (parts_val E Z p)) $
    returns ! (look_at ! 0 refl) $ free_all ! refl $
    out (Some (new_parts E Z p n a.0.now)) (live 1 (vcons (parts_val E Z p) vnil)) (λ _. zero, λ _. refl) (is_new E Z p n a.0.now)))))
