-- `deallocate` makes the empty slots room again, and gives it back with the right. Assumes `Logic`.
use Rattle.std.proofs.Common.{◌≡◌, ℕ, ◌+◌, ◌*◌, ◌<◌, ◌^◌, List, [], ◌∷◌, T, refl, sym, ap, subst, ◌∙◌, arith, w64, Bool}
use Rattle.wasmi_arena.proofs.Steps.{proved, never, id⊢, Incl-trans, ftrue, fsep, froom, flft, named, ty_array, inst_fn, Val, vint, vunit, has_ty, WT, align, capped, capped_fits, ◌⊑◌, fact, tables, given, learn, feq_i, flt_l, fsplit3, group, later, await, Sq, prop, ‵, raw, ◌⊛◌, at_ret, ◌$◌, ◌∵◌, !, qed, done, move, keep, use1, rewrite, fsplit, suffices, whole, sub, enter, of_opd, lit, unit_lit, bin, size_word, align_word, stop, fld, first, blocks, branches, skips, exec, returns, and_then, no_more, alloc_all, pass_all, free_all, look_at, get, get_in, sets, is, env, usize, unit, RefOf, yes, no, hidden_shr, uint_vals, uint_Tells, Ptr, block_ptr, ptr_val, in_a_block, shr_vals, shr_Tells, plain, nothing, heard, framed, Stays, walk_of, stay_dropped, Goes-dropped, ends_at}
use Rattle.std.specs.Vec.Ownership.{owns_if}
use mir.Syntax.{ty_unit}
use types.ByLocal.{lands_last}
use denote.Triple.Call.{calls_at_last}
use Rattle.core.proofs.alloc.Calls.{Al, Goes-blank, token, Gives, at_gives, Gives-goes, Gives-Gives}
use Rattle.core.proofs.mem.Param.{El, R, elτ}
use Rattle.core.proofs.slots.Leases.{uncapped, block_ty, block_size, block_align, args, P}
use Rattle.std_alloc.proofs.RcSteps.{word-Good}
use Rattle.std_alloc.proofs.RawLayout.{as_raw}
use Rattle.std_alloc.proofs.Flags.{T_true}
use Rattle.std_alloc.proofs.VecSteps.Shapes.{after}
use Rattle.wasmi_arena.specs.inner.Block.{slots_own, right_owns, takes_memory}
use Rattle.wasmi_arena.specs.inner.Slots.{AreEmptied}
use Rattle.wasmi_arena.specs.contracts.raw.block.memory.deallocate as F
use Rattle.wasmi_arena.proofs.raw.block.memory.deallocate.Statement.{statement}
use Rattle.wasmi_arena.proofs.raw.block.memory.deallocate.Code as code
use Rattle.wasmi_arena.proofs.Frame.{SlotsRow, PtrRow, ptr_vals, ptr_tells, let_go}
use Rattle.wasmi_arena.proofs.NewBlock.{marker, RightRow, slots_tells, right_tells, alloc_tokens, others, enters_alloc, leaves_alloc}
use Rattle.wasmi_arena.proofs.SlotRuns.{sz, spent}

pub deallocate_spec : {M : Type 1} → statement M
deallocate_spec 𝓤 𝓛 𝓜 𝓡 wired X Y LX LY g d dd met md =
    let E : El = record { row = X; laws = LX } in let Z : Al = record { row = Y; laws = LY; g = g; d = d; drops = dd } in
    let call = F.ended X Y g d dd in let c = F.clauses X Y g d dd 𝓛 𝓜.mem 𝓡.returns in
    let stayed : Stays call.signature.params call.kept = (stay_dropped _ yes, (stay_dropped _ no, (stay_dropped _ yes, (stay_dropped _ no, (stay_dropped _ no, tt))))) in
    let function = inst_fn (args E Z) code.function in
    let W = walk_of 𝓛 call stayed c in
    let 𝓣 = tables 𝓤 𝓛.H 𝓜 𝓡 𝓡.env in
    let self = RefOf {n = 3} (0 ∷ []) tt (plain (λ _. P E Z)) (λ _. tt) in
    proved 𝓛 call stayed c 𝓜 𝓡 (
      Goes-dropped 𝓛 3 self yes (λ κs x w. refl),
      (
        Goes-dropped 𝓛 3 (plain (λ _. PtrRow E)) no (λ κs x w. refl),
        (
          Goes-dropped 𝓛 3 (plain (λ _. usize)) yes (λ κs x w. refl),
          (Goes-blank 𝓛 3 (plain (λ _. SlotsRow E)) no (λ κs x w. tt), (Goes-blank 𝓛 3 (plain (λ _. RightRow E Z)) no (λ κs x w. tt), tt)),
        ),
      ),
    )
    (F.Key.name (args E Z)) function (code.unfolded 𝓤 𝓛.H 𝓜 𝓡 wired (X, (Y, tt)) d dd)
    (λ κs. (shr_vals, (ptr_vals E, (uint_vals w64, ((λ s. marker ∷ []), ((λ r. marker ∷ []), tt))))))
    (λ κs. (shr_Tells (named 0) κs.0 (P E Z), (ptr_tells E, (uint_Tells w64, (slots_tells E Z, (right_tells E Z, tt))))))
    (λ κs qs bounds a _ are.
    let self = a.0.now in let ptr = a.1.0 in let n = a.1.1.0 in let s = a.1.1.1.0 in let r = a.1.1.1.1.0 in let size = sz E in let κ = κs.0 in let q = qs.0 in
    let κ₁ = κs.1.0 in let κ₂ = κs.1.1.0 in let q₁ = qs.1.0 in let q₂ = qs.1.1.0 in
    let y : W.Ghost = ((κs, qs, bounds, a, (shr_vals a.0, (ptr_vals E ptr, (uint_vals w64 n, (marker ∷ [], (marker ∷ [], tt)))))), tt) in
    let al = capped (align (elτ E)) in let τ = block_ty E n in
    let Rest = fsep ((PtrRow E).own_val ptr (ptr_vals E ptr)) (fsep (usize.own_val n (uint_vals w64 n)) (fsep ((SlotsRow E).own_val s (marker ∷ [])) (fsep ((RightRow E Z).own_val r (marker ∷ [])) ftrue))) in
    enters_alloc E Z 𝓛 κ κ₁ κ₂ q q₁ q₂ a.0 Rest (κ₁ ⊑ X.lives) (fact 𝓤 (AreEmptied ptr s r n self)) _ (λ within.
    let out : Sq 𝓛 (‵ (flft κ q) ∷ others E Z 𝓛 κ κ₁ κ₂ q q₁ q₂ ∷ []) (prop (W.post y vunit)) =
    suffices ! _ (ends_at 𝓛 call stayed c y vunit tt (tt, (tt, (tt, (tt, (tt, tt))))) (tt, (tt, (tt, (tt, (tt, tt)))))) $
    feq_i ! (List Val) (vunit ∷ []) (vunit ∷ []) refl $ group ! 3 $
    use1 𝓛 (alloc_tokens E Z 𝓛 κ κ₁ κ₂ q q₁ q₂ ⊛ ‵ (let_go 5) ⊛ ‵ (unit.own_val tt (vunit ∷ []))) (leaves_alloc E Z 𝓛 κ κ₁ κ₂ q q₁ q₂ 5 unit tt vunit) $ nothing ! $ move ! (1 ∷ 0 ∷ []) $ done ! in
    qed 𝓛 (‵ (hidden_shr (P E Z) κ self a.0.ref_ptr.0 a.0.ref_ptr.1) ∷ ‵ (flft κ q) ∷ others E Z 𝓛 κ κ₁ κ₂ q q₁ q₂ ∷ ‵ Rest ∷ raw (fact 𝓤 (AreEmptied ptr s r n self)) ∷ []) ∵ move ! (4 ∷ []) $ heard ! _ (λ empty.
    move ! (3 ∷ []) $ fsplit3 ! $ move ! (2 ∷ []) $ fsplit3 ! $ fsplit ! $ move ! (2 ∷ []) $ fsplit ! $ keep ! (3 ∷ 1 ∷ 7 ∷ 8 ∷ 9 ∷ []) $
    enter ! _ _ _ _ (W.post y) $ alloc_all ! (λ l. pass_all ! refl ((tt, tt), (word-Good [] ptr.start, ((tt, record { fits = are.1.1.0.1 }), ((tt, (tt, tt)), ((tt, (tt, tt)), tt))))) $
    rewrite ! 0 (λ (x : Ptr × List X.Denot). ‵ (slots_own (R E) x.0 s.taken x.1 s.free)) (λ i. (empty.one.block i, empty.no_items i)) refl $
    in_a_block ! ptr.start (λ p. slots_own (R E) p s.taken [] s.free) (id⊢ 𝓤 (never 𝓤)) (λ b o at. fsplit ! $ flt_l ! (λ fit.
    let count : s.taken + 0 + s.free ≡ n = let all = empty.all_empty in omega arith in
    let small : n * size < 2 ^ 63 = subst (λ k. k * size < 2 ^ 63) count fit in let bytes : n * size < 2 ^ 64 = omega arith in
    let asked = at_gives Z 𝓛 𝓜.mem 𝓡.returns κ q a.0.ref_ptr self b o (n * size) al τ in
    rewrite ! 1 (λ (x : Y.Denot × Ptr × ℕ). ‵ (right_owns (R E) (token Z x.0) x.1 x.2)) (λ i. (empty.one.right_alloc i, (empty.one.right_block ∙ at) i, empty.one.right_slots i)) refl $
    sets ! (is ! (bin ! (get ! refl) (size_word !) (record { fits = subst (λ (k : ℕ). k < 2 ^ 64) (sym (uncapped n size bytes)) bytes })) (ap (vint w64) (uncapped n size bytes))) refl (tt, record { fits = bytes }) $
    sets ! (bin ! (get ! refl) (lit ! tt) tt) refl (tt, tt) $ first ! $ branches ! (get ! refl)
    (λ sized. use1 𝓛 (‵ (froom (ty_array (elτ E) (s.taken + s.free)) b o)) (spent E 𝓛 b o s.taken s.free) $ rewrite ! 0 (λ (k : ℕ). ‵ (froom (ty_array (elτ E) k) b o)) empty.all_empty refl $
    as_raw ! (ty_array (elτ E) n) b o $ rewrite ! 1 (λ (z : Bool). ‵ (owns_if z (token Z self τ (block_ptr b o)))) (T_true (takes_memory (R E) n) sized) refl $ blocks ! $
    sets ! (is ! (of_opd ! (get_in ! (fld ! refl (stop !)) (sub ! 0 refl (whole !)))) (ap ptr_val at)) refl (tt, tt) $
    group ! 4 $ use1 𝓛 (raw ((Gives Z 𝓛 𝓜.mem 𝓡.returns).pre asked)) (Gives-goes Z 𝓛 𝓜.mem 𝓡.returns κ q a.0.ref_ptr self (Incl-trans bounds.0 within) b o (n * size) al τ (block_size E n bytes) (block_align E n) bytes (capped_fits (align (elτ E)))) $
    calls_at_last ! (framed 𝓤 𝓛.H 𝓜 𝓣) (Gives Z 𝓛 𝓜.mem 𝓡.returns) (met.deallocate dd) asked (and_then ! (get ! refl) (and_then ! (get ! refl) (and_then ! (get ! refl) (and_then ! (align_word !) (no_more !))))) (λ v.
    use1 𝓛 (later (given (v ≡ vunit) (‵ (flft κ q)))) (Gives-Gives Z 𝓛 𝓜.mem 𝓡.returns κ q a.0.ref_ptr self b o (n * size) al τ v) $ await ! tt $ learn ! (λ is_unit.
    lands_last ! refl (subst (λ (z : Val). T (has_ty ty_unit z) × WT z) (sym is_unit) (tt, tt)) $ exec ! 𝓣.C 𝓣.Λ (env function.locals l) (after 3 function.body) (at_ret _ (W.post y)) $
    sets ! (of_opd ! (unit_lit !)) refl (tt, tt) $ returns ! (look_at ! 0 refl) $ free_all ! refl $ keep ! (0 ∷ 1 ∷ []) $ out)))
    (λ unsized. skips ! $ exec ! 𝓣.C 𝓣.Λ (env function.locals l) (after 3 function.body) (at_ret _ (W.post y)) $
    sets ! (of_opd ! (unit_lit !)) refl (tt, tt) $ returns ! (look_at ! 0 refl) $ free_all ! refl $ keep ! (3 ∷ 4 ∷ []) $ out)))))))
