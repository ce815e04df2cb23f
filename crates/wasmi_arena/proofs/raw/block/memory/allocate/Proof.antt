-- `allocate` makes the parts of a block of what the allocator answers. Assumes `Logic`.
use Rattle.std.proofs.Common.{◌≡◌, ℕ, ◌+◌, ◌*◌, ◌<◌, ◌^◌, [], ◌∷◌, refl, sym, ap, subst, arith, w64, Bool, true, false, lit<}
use Rattle.wasmi_arena.proofs.Steps.{proved, sep, Incl-trans, ftrue, fsep, flft, named, ty_array, inst_fn, Val, vint, vstruct, vcons, vnil, align, capped, capped_fits, ◌⊑◌, fact, tables, later, await, split, Sq, prop, ‵, raw, ◌⊛◌, at_ret, ◌$◌, ◌∵◌, !, qed, by, move, keep, use1, use2, rewrite, fjoin, flt_i, suffices, live, whole, agg, enter, of_opd, lit, bin, size_word, align_word, stop, fld, first, exec, returns, and_then, no_more, alloc_all, pass_all, free_all, look_at, get, get_in, sets, sets_last, lands_as, is, env, usize, RefOf, yes, hidden_shr, layout, uint_vals, uint_Tells, Ptr, block_ptr, shr_vals, shr_Tells, plain, Is, heard, owned, Struct, Struct-Makes, calls_at, framed, says, Stays, walk_of, stay_dropped, Goes-dropped, ends_at}
use Rattle.std.specs.Prelude.{IsTrue, IfOk, Ok, Err}
use Rattle.std.specs.Vec.Ownership.{FitsInBlock, owns_if}
use prog.Wp.{Wp, after_seq, at_return}
use types.Kit.{any_q}
use types.Match.{vrt, in_variant}
use types.Run.{switches_on}
use types.ByLocal.{get_tag}
use denote.Struct.Declared as Declared
use Rattle.core.proofs.alloc.Calls.{Al, token, Answer-typed, Takes, at_takes, Answered, Takes-goes, Takes-gives, answers}
use Rattle.core.proofs.mem.Param.{El, R, elτ}
use Rattle.core.proofs.slots.Leases.{uncapped, block_ty, block_size, block_align, args, P}
use Rattle.core.specs.contracts.result.Result as RS
use Rattle.core.specs.contracts.alloc.AllocError as AE
use Rattle.std_alloc.proofs.RcSteps.{word-Good, first_Good}
use Rattle.std_alloc.proofs.ResultValues.{ok_of, err_of}
use Rattle.std_alloc.proofs.RawLayout.{as_written}
use Rattle.std_alloc.proofs.VecSteps.Shapes.{after, head, arm_body}
use Rattle.wasmi_arena.specs.inner.Block.{runs, takes_memory}
use Rattle.wasmi_arena.specs.inner.Slots.{IsNewBlock}
use Rattle.wasmi_arena.specs.contracts.raw.block.memory.allocate as F
use Rattle.wasmi_arena.proofs.raw.block.memory.allocate.Statement.{statement}
use Rattle.wasmi_arena.proofs.raw.block.memory.allocate.Code as code
use Rattle.wasmi_arena.proofs.NewBlock.{Parts, new_parts, parts_val, parts_typed, is_new, parts_made, others, enters_alloc, leaves_alloc}
use Rattle.wasmi_arena.proofs.SlotRuns.{sz, fresh}

pub allocate_spec : {M : Type 1} → statement M
allocate_spec 𝓤 𝓛 𝓜 𝓡 wired X Y LX LY g d dd met md =
    let E : El = record { row = X; laws = LX } in let Z : Al = record { row = Y; laws = LY; g = g; d = d; drops = dd } in
    let call = F.ended X Y g d dd in let c = F.clauses X Y g d dd 𝓛 𝓜.mem 𝓡.returns in
    let stayed : Stays call.signature.params call.kept = (stay_dropped _ yes, (stay_dropped _ yes, tt)) in
    let function = inst_fn (args E Z) code.function in
    let W = walk_of 𝓛 call stayed c in
    let 𝓣 = tables 𝓤 𝓛.H 𝓜 𝓡 𝓡.env in
    let self = RefOf {n = 3} (0 ∷ []) tt (plain (λ _. P E Z)) (λ _. tt) in
    proved 𝓛 call stayed c 𝓜 𝓡 (Goes-dropped 𝓛 3 self yes (λ κs x w. refl), (Goes-dropped 𝓛 3 (plain (λ _. usize)) yes (λ κs x w. refl), tt))
    (F.Key.name (args E Z)) function (code.unfolded 𝓤 𝓛.H 𝓜 𝓡 wired (X, (Y, tt)) d dd)
    (λ κs. (shr_vals, (uint_vals w64, tt))) (λ κs. (shr_Tells (named 0) κs.0 (P E Z), (uint_Tells w64, tt)))
    (λ κs qs bounds a _ are.
    let n = a.1.0 in let size = sz E in let self = a.0.now in let κ = κs.0 in let q = qs.0 in
    let y : W.Ghost = ((κs, qs, bounds, a, (shr_vals a.0, (uint_vals w64 n, tt))), tt) in
    let κ₁ = κs.1.0 in let κ₂ = κs.1.1.0 in let q₁ = qs.1.0 in let q₂ = qs.1.1.0 in
    let Answer = RS.the_row (Parts E Z) AE.the_row in let al = capped (align (elτ E)) in let τ = block_ty E n in
    enters_alloc E Z 𝓛 κ κ₁ κ₂ q q₁ q₂ a.0 (fsep (usize.own_val n (uint_vals w64 n)) ftrue) (κ₁ ⊑ X.lives) (sep 𝓤 (fact 𝓤 (FitsInBlock (R E) n)) (fact 𝓤 (IsTrue (takes_memory (R E) n)))) _ (λ within.
    let out : (r : Answer.Denot) (v : Val) → IfOk r (λ b. IsNewBlock b.0 b.1 b.2 n self)
    → Sq 𝓛 (‵ (Answer.own_val r (v ∷ [])) ∷ ‵ (flft κ q) ∷ others E Z 𝓛 κ κ₁ κ₂ q q₁ q₂ ∷ []) (prop (W.post y v)) = λ r v new.
    suffices ! _ (ends_at 𝓛 call stayed c y v r (tt, (tt, tt)) (tt, (tt, tt))) $ says ! new $ by ! (leaves_alloc E Z 𝓛 κ κ₁ κ₂ q q₁ q₂ 2 Answer r v) in
    qed 𝓛 (‵ (hidden_shr (P E Z) κ self a.0.ref_ptr.0 a.0.ref_ptr.1) ∷ ‵ (flft κ q) ∷ others E Z 𝓛 κ κ₁ κ₂ q q₁ q₂ ∷ ‵ (fsep (usize.own_val n (uint_vals w64 n)) ftrue)
    ∷ (raw (fact 𝓤 (FitsInBlock (R E) n)) ⊛ raw (fact 𝓤 (IsTrue (takes_memory (R E) n)))) ∷ []) ∵ move ! (4 ∷ []) $ split ! $ heard ! _ (λ fits. heard ! _ (λ sized. keep ! (0 ∷ 1 ∷ 2 ∷ []) $
    let small : n * size < 2 ^ 63 = fits.0 in let bytes : n * size < 2 ^ 64 = omega arith in
    let all_fit : (0 + 0 + n) * size < 2 ^ 63 = let same : n ≡ 0 + 0 + n = omega arith in subst (λ k. k * size < 2 ^ 63) same small in
    let asked : (Takes Z 𝓛 𝓜.mem 𝓡.returns).Ghost = at_takes Z 𝓛 𝓜.mem 𝓡.returns κ q a.0.ref_ptr self (n * size) al τ in
    enter ! _ _ _ _ (W.post y) $ alloc_all ! (λ l. pass_all ! refl ((tt, tt), ((tt, record { fits = are.1.0.1 }), tt)) $
    let En = env function.locals l in let arms = head (after 2 function.body) in
    let rest = any_q (after_seq 𝓤 𝓛.H (Wp 𝓤 𝓛.H 𝓣.C 𝓣.Λ En (after 3 function.body) (at_return 𝓤 𝓛.H En (W.post y))) (at_return 𝓤 𝓛.H En (W.post y))) in
    sets ! (is ! (bin ! (get ! refl) (size_word !) (record { fits = subst (λ (k : ℕ). k < 2 ^ 64) (sym (uncapped n size bytes)) bytes })) (ap (vint w64) (uncapped n size bytes))) refl (tt, record { fits = bytes }) $
    use2 𝓛 (raw ((Takes Z 𝓛 𝓜.mem 𝓡.returns).pre asked)) (Takes-goes Z 𝓛 𝓜.mem 𝓡.returns κ q a.0.ref_ptr self (Incl-trans bounds.0 within) (n * size) al τ (block_size E n bytes) (block_align E n) bytes (capped_fits (align (elτ E)))) $
    calls_at ! (framed 𝓤 𝓛.H 𝓜 𝓣) (Takes Z 𝓛 𝓜.mem 𝓡.returns) (met.allocate dd) asked (and_then ! (get ! refl) (and_then ! (get ! refl) (and_then ! (align_word !) (no_more !)))) (λ v.
    use1 𝓛 (later (raw (Answered Z 𝓛 𝓜.mem 𝓡.returns self τ v) ⊛ ‵ (flft κ q))) (Takes-gives Z 𝓛 𝓜.mem 𝓡.returns κ q a.0.ref_ptr self (n * size) al τ v) $ await ! tt $ split ! $
    answers Z ! 𝓜.mem 𝓡.returns self τ v
    (λ b o e. let p : Ptr = block_ptr b o in let good = parts_typed E Z b o in let ok = first_Good (layout (Parts E Z)) (parts_val E Z p) good in
    lands_as ! e refl (Answer-typed true b o) $ first ! $ switches_on ! (get_tag ! (vrt ! refl (fld ! refl (stop !))) (whole !)) $ exec ! 𝓣.C 𝓣.Λ En (arm_body 0 arms) rest $
    sets ! (of_opd ! (get_in ! (vrt ! refl (fld ! refl (stop !))) (in_variant ! 0 0 refl refl (whole !)))) refl (tt, tt) $ sets ! (of_opd ! (get ! refl)) refl (tt, tt) $
    sets ! (agg ! (and_then ! (get ! refl) (no_more !))) refl (word-Good [] p) $
    sets ! (agg ! (no_more !)) refl (tt, tt) $ sets ! (agg ! (and_then ! (get ! refl) (no_more !))) refl (tt, (tt, tt)) $
    sets ! (agg ! (no_more !)) refl (tt, tt) $ sets ! (agg ! (and_then ! (get ! refl) (no_more !))) refl (tt, (tt, tt)) $
    sets ! (agg ! (and_then ! (get ! refl) (and_then ! (get ! refl) (and_then ! (get ! refl) (no_more !))))) refl good $
    sets_last ! (agg ! (and_then ! (lit ! tt) (and_then ! (get ! refl) (no_more !)))) refl ok $
    exec ! 𝓣.C 𝓣.Λ En (after 3 function.body) (at_ret En (W.post y)) $ sets ! (of_opd ! (get ! refl)) refl ok $
    -- [the room; the token; the lifetimes]
    rewrite ! 1 (λ (z : Bool). ‵ (owns_if z (token Z self τ p))) (sym sized) refl $
    as_written ! (ty_array (elτ E) n) b o $ use1 𝓛 (‵ (runs (R E) b o 0 [] n)) (fresh E 𝓛 b o n) $ flt_i ! ((0 + 0 + n) * size) (2 ^ 63) all_fit $ fjoin ! $
    use2 𝓛 (‵ ((Parts E Z).own_val (new_parts E Z p n self) (parts_val E Z p ∷ []))) (parts_made E Z 𝓛 p n self) $
    use1 𝓛 (‵ (Answer.own_val (Ok (new_parts E Z p n self)) (live 0 (vcons (parts_val E Z p) vnil) ∷ []))) (ok_of 𝓛 (Parts E Z) AE.the_row (new_parts E Z p n self) (parts_val E Z p)) $
    returns ! (look_at ! 0 refl) $ free_all ! refl $ out (Ok (new_parts E Z p n self)) (live 0 (vcons (parts_val E Z p) vnil)) (is_new E Z p n self))
    (λ e. let Refusal = Declared.shape AE.the_type in let no : Val = live 1 (vcons (vstruct vnil) vnil) in
    lands_as ! e refl (Answer-typed false 0 0) $ first ! $ switches_on ! (get_tag ! (vrt ! refl (fld ! refl (stop !))) (whole !)) $ exec ! 𝓣.C 𝓣.Λ En (arm_body 1 arms) rest $
    sets ! (of_opd ! (get_in ! (vrt ! refl (fld ! refl (stop !))) (in_variant ! 1 0 refl refl (whole !)))) refl (tt, tt) $
    sets_last ! (agg ! (and_then ! (lit ! tt) (and_then ! (get ! refl) (no_more !)))) refl (tt, (record { fits = lit< tt }, (tt, tt))) $
    exec ! 𝓣.C 𝓣.Λ En (after 3 function.body) (at_ret En (W.post y)) $ sets ! (of_opd ! (get ! refl)) refl (tt, (record { fits = lit< tt }, (tt, tt))) $
    owned ! (Struct Refusal) (Is (Struct Refusal)) (Struct-Makes 𝓛 Refusal tt) tt (vstruct vnil ∷ []) (tt, (refl, tt)) $
    use1 𝓛 (‵ (Answer.own_val (Err (record {})) (no ∷ []))) (err_of 𝓛 (Parts E Z) AE.the_row (record {}) (vstruct vnil)) $
    returns ! (look_at ! 0 refl) $ free_all ! refl $ out (Err (record {})) no tt)))))))
