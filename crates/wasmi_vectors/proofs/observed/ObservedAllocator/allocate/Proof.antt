-- A request is written down, and refused where the log says so. Else the heap of the handle answers it, and the answer is written down.
use Rattle.wasmi_arena.proofs.Steps.{id⊢, Fml, ftrue, flft, named, Val, fact, tables, Item, ‵, raw, ◌⊛◌, some, later, at_ret, ◌$◌, ◌∵◌, !, qed, by, move, keep, drop, use0, use1, split, split3, join, fjoin, rewrite, pick, await, agg, stop, fld, addr, lit, no_more, and_then, first, branches, skips, exec, returns, returns_within, enter, alloc_all, pass_all, free_all, look_at, get, through, sets, lands_as, env, usize, yes, Is, shows, uint_vals, uint_Tells, uint_Makes, owns, shr_vals, shr_Tells, plain, named_lft, nothing, owned, peeks, heard, only, calls_at, lasts, triple_of, framed, Stays, stay_dropped, walk_of, Goes-dropped}
use Rattle.std.proofs.Common.{◌≡◌, [], ◌∷◌, Bool, false, Err, refl, sym, ap, w64}
use Rattle.std.proofs.raw_atomic.Walks.{proved, leaves}
use types.Kit.{feq_l}
use denote.Builtin.{bool}
use denote.Triple.Clauses.{Lasts}
use denote.Triple.Entry.{alive}
use Rattle.std.specs.Allocator.{block_if_ok}
use Rattle.std.proofs.alloc.Calls.{Answer, answer_val, Answer-typed, Answer-err}
use Rattle.std.specs.contracts.impls.GlobalAllocator.TheImpl.{ghosts}
use Rattle.wasmi_vectors.proofs.Handles.{handle, HandleRef, HeapRef, again, heap_of, opened, answer_fits}
use Rattle.wasmi_vectors.specs.contracts.observed.Observed as handle_type
use Rattle.wasmi_vectors.specs.contracts.observed.Observed.refuses as asked
use Rattle.wasmi_vectors.proofs.observed.Observed.refuses.Met.{met as asks}
use Rattle.std.specs.contracts.impls.GlobalAllocator.allocate as taken
use Rattle.std.proofs.impls.GlobalAllocator.allocate.Met.{met as takes}
use Rattle.wasmi_vectors.specs.contracts.observed.Observed.gives as noted
use Rattle.wasmi_vectors.proofs.observed.Observed.gives.Met.{met as notes}
use Rattle.wasmi_vectors.specs.contracts.observed.ObservedAllocator.allocate as f
use Rattle.wasmi_vectors.proofs.observed.ObservedAllocator.allocate.Statement.{statement}
use Rattle.wasmi_vectors.proofs.observed.ObservedAllocator.allocate.Code as code

abbrev stayed : Stays f.ended.signature.params f.ended.kept
stayed = (stay_dropped handle yes, (stay_dropped (plain (λ _. usize)) yes, (stay_dropped (plain (λ _. usize)) yes, tt)))

pub allocate_spec : {M : Type 1} → statement M
allocate_spec 𝓤 𝓛 𝓜 𝓡 wired =
    let c = f.clauses 𝓛 𝓜.mem 𝓡.returns in let W = walk_of 𝓛 f.ended stayed c in
    let 𝓣 = tables 𝓤 𝓛.H 𝓜 𝓡 𝓡.env in let fm = framed 𝓤 𝓛.H 𝓜 𝓣 in
    let number = Goes-dropped 𝓛 2 (plain (λ _. usize)) yes (λ κs x w. refl) in
    proved 𝓛 f.ended stayed c 𝓜 𝓡 (Goes-dropped 𝓛 2 handle yes (λ κs x w. refl), (number, (number, tt)))
    f.Key.name code.function (code.unfolded 𝓤 𝓛.H 𝓜 𝓡 wired)
    (λ κs. (shr_vals, (uint_vals w64, (uint_vals w64, tt)))) (λ κs. (shr_Tells (named 0) κs.0 (handle_type.the_row (named_lft 2 1 tt κs)), (uint_Tells w64, (uint_Tells w64, tt)))) (λ κs qs bounds a τ are.
    let y : W.Ghost = ((κs, qs, bounds, a, (shr_vals a.0, (uint_vals w64 a.1.0, (uint_vals w64 a.1.1.0, tt)))), τ) in
    let r = a.0 in let log = named_lft 2 1 tt κs in let Self = ‵ (HandleRef κs.0 log r) in
    let R = triple_of 𝓛 asked.signature (asked.spec 𝓛 𝓜.mem 𝓡.returns) in
    let z₁ : R.Ghost = ((κs, qs, bounds, (r, (a.1.0, tt)), (shr_vals r, (uint_vals w64 a.1.0, tt))), tt) in
    let G = triple_of 𝓛 taken.signature (taken.spec 𝓛 𝓜.mem 𝓡.returns) in
    let z₂ : G.Ghost = (((κs.0, tt), (qs.0, tt), tt, (heap_of r, a.1), (shr_vals (heap_of r), y.0.4.1)), τ) in
    let N = triple_of 𝓛 noted.signature (noted.spec 𝓛 𝓜.mem 𝓡.returns) in
    let z₃ : Answer.Denot → Val → N.Ghost = λ x v. ((κs, qs, bounds, (r, (x, tt)), (shr_vals r, (v ∷ [], tt))), tt) in
    let Block : Answer.Denot → Fml = block_if_ok (ghosts.dealloc_token r.now.heap) τ in
    let Tokens = raw (alive 𝓛 f.signature κs qs) in
    let Later : Item 𝓤 = ‵ (flft κs.1.0 qs.1.0) ⊛ ‵ ftrue in
    let Sizes = ‵ (owns (usize ∷ usize ∷ []) a.1 y.0.4.1) in
    qed 𝓛 ((Tokens ⊛ Self ⊛ Sizes) ∷ raw ((c κs a).requires τ) ∷ []) ∵
    split3 ! $ move ! (1 ∷ []) $ use1 𝓛 (Self ⊛ Self) (again 𝓛 κs.0 log r) $ split ! $ use1 𝓛 (Self ⊛ Self) (again 𝓛 κs.0 log r) $ split ! $ use1 𝓛 (‵ (HeapRef κs.0 (heap_of r))) (opened 𝓛 κs.0 log r) $ move ! (1 ∷ 2 ∷ 0 ∷ []) $
    -- [the handle, twice; its heap; the tokens; the size and alignment; that they are a type's]
    enter ! _ _ _ _ _ $ alloc_all ! (λ l. pass_all ! refl ((tt, tt), ((tt, record { fits = are.1.0.1 }), ((tt, record { fits = are.1.1.0.1 }), tt))) $
    nothing ! $ owned ! usize _ (uint_Makes 𝓛 w64) a.1.0 _ (refl, are.1.0.1) $ fjoin ! $ move ! (1 ∷ 0 ∷ []) $ fjoin ! $ move ! (3 ∷ 0 ∷ []) $ join ! $ nothing ! $ move ! (1 ∷ 0 ∷ []) $ join ! $ use1 𝓛 (raw (R.pre z₁)) (id⊢ 𝓤 _) $
    calls_at ! fm R (asks 𝓤 𝓛 𝓜 𝓡 (code.calls-wasmi_vectors::observed::Observed::refuses 𝓡.env wired)) z₁ (and_then ! (get ! refl) (and_then ! (get ! refl) (no_more !))) (λ v.
    use1 𝓛 (later (some (λ (refused : Bool). (Tokens ⊛ ‵ (bool.own_val refused (v ∷ []))) ⊛ some (λ (ws : Lasts asked.ended κs z₁.0.3). ‵ (lasts asked.ended κs z₁.0.3 ws) ⊛ ‵ ftrue)))) (id⊢ 𝓤 _) $
    await ! tt $ pick ! (λ refused. split ! $ split ! $ move ! (1 ∷ []) $ feq_l ! (λ e. lands_as ! (ap only e) refl (tt, tt) $
    -- [the tokens; ..; the handle; its heap; the size and alignment; that they are a type's]
    first ! $ branches ! (get ! refl)
    (λ _. sets ! (agg ! (no_more !)) refl (tt, tt) $ sets ! (agg ! (and_then ! (lit ! tt) (and_then ! (get ! refl) (no_more !)))) refl (Answer-typed false 0 0) $
    returns_within ! (W.post y) refl (look_at ! 0 refl) $ free_all ! refl $ keep ! (0 ∷ []) $
    nothing ! $ use0 𝓛 (‵ (Answer.own_val (Err (record {})) (answer_val false 0 0 ∷ []))) (Answer-err 𝓛) $ nothing ! $ nothing ! $ fjoin ! $ nothing ! $ fjoin ! $ nothing ! $ fjoin ! $ move ! (3 ∷ 0 ∷ 1 ∷ 2 ∷ []) $
    by ! (leaves 𝓛 f.ended stayed c y (answer_val false 0 0) (Err (record {})) (tt, (tt, (tt, tt))) (tt, (tt, (tt, tt)))))
    (λ _. skips ! $ exec ! 𝓣.C 𝓣.Λ (env code.Mir.locals l) code.Mir.t-3 (at_ret _ (W.post y)) $
    sets ! (addr ! (through ! refl (fld ! refl (stop !)))) refl (tt, tt) $
    use1 𝓛 (‵ (flft κs.0 qs.0) ⊛ Later) (id⊢ 𝓤 _) $ split ! $ move ! (4 ∷ 5 ∷ []) $ fjoin ! $ nothing ! $ move ! (2 ∷ 0 ∷ []) $ join ! $ join ! $ move ! (0 ∷ 4 ∷ []) $ join ! $ use1 𝓛 (raw (G.pre z₂)) (id⊢ 𝓤 _) $
    calls_at ! fm G (takes 𝓤 𝓛 𝓜 𝓡 (code.calls-std_heap::GlobalAllocator::allocate 𝓡.env wired)) z₂ (and_then ! (get ! refl) (and_then ! (get ! refl) (and_then ! (get ! refl) (no_more !)))) (λ v₂.
    use1 𝓛 (later (some (λ (x : Answer.Denot). ((‵ (flft κs.0 qs.0) ⊛ ‵ ftrue) ⊛ ‵ (Answer.own_val x (v₂ ∷ []))) ⊛ some (λ (ws : Lasts taken.ended z₂.0.0 z₂.0.3). ‵ (lasts taken.ended z₂.0.0 z₂.0.3 ws) ⊛ ‵ (Block x))))) (id⊢ 𝓤 _) $
    await ! tt $ pick ! (λ x. split ! $ split ! $ split ! $ move ! (2 ∷ []) $ peeks ! Answer (Is Answer) (shows 𝓛 Answer) x (v₂ ∷ []) (λ is. lands_as ! refl refl (answer_fits 𝓛 x v₂ is) $
    -- [the answer; the token; ..; the block, if any; the later token; ..; the handle]
    nothing ! $ move ! (1 ∷ 0 ∷ []) $ fjoin ! $ move ! (6 ∷ 0 ∷ []) $ fjoin ! $ move ! (1 ∷ 4 ∷ []) $ join ! $ join ! $ nothing ! $ move ! (1 ∷ 0 ∷ []) $ join ! $ use1 𝓛 (raw (N.pre (z₃ x v₂))) (id⊢ 𝓤 _) $
    calls_at ! fm N (notes 𝓤 𝓛 𝓜 𝓡 (code.calls-wasmi_vectors::observed::Observed::gives 𝓡.env wired)) (z₃ x v₂) (and_then ! (get ! refl) (and_then ! (get ! refl) (no_more !))) (λ v₃.
    use1 𝓛 (later (some (λ (x' : Answer.Denot). (Tokens ⊛ ‵ (Answer.own_val x' (v₃ ∷ []))) ⊛ some (λ (ws : Lasts noted.ended κs (z₃ x v₂).0.3). ‵ (lasts noted.ended κs (z₃ x v₂).0.3 ws) ⊛ raw (fact 𝓤 (x' ≡ x)))))) (id⊢ 𝓤 _) $
    await ! tt $ pick ! (λ x'. split ! $ split ! $ move ! (1 ∷ []) $ peeks ! Answer (Is Answer) (shows 𝓛 Answer) x' (v₃ ∷ []) (λ is'. lands_as ! refl refl (answer_fits 𝓛 x' v₃ is') $
    move ! (2 ∷ []) $ pick ! (λ ws. split ! $ drop ! $ heard ! (x' ≡ x) (λ same. move ! (3 ∷ []) $ pick ! (λ ws'. split ! $ drop ! $ rewrite ! 0 (λ (z : Answer.Denot). ‵ (Block z)) (sym same) refl $
    -- [the block, if any; the answer; the tokens]
    returns ! (look_at ! 0 refl) $ free_all ! refl $ keep ! (0 ∷ 1 ∷ 2 ∷ []) $ nothing ! $ nothing ! $ fjoin ! $ nothing ! $ fjoin ! $ nothing ! $ fjoin ! $ move ! (3 ∷ 0 ∷ 2 ∷ 1 ∷ []) $
    by ! (leaves 𝓛 f.ended stayed c y v₃ x' (tt, (tt, (tt, tt))) (tt, (tt, (tt, tt)))))))))))))))))))
