-- A block comes back: the handle writes it down, and the heap of the handle takes it.
use Rattle.wasmi_arena.proofs.Steps.{id⊢, ftrue, flft, named, Val, vunit, tables, ‵, raw, ◌⊛◌, some, later, ◌$◌, ◌∵◌, !, qed, by, move, keep, use1, split, split3, join, fjoin, feq_i, pick, await, stop, fld, addr, no_more, and_then, of_opd, unit_lit, returns, enter, alloc_all, pass_all, free_all, look_at, get, through, sets, lands_as, usize, unit, yes, uint_vals, uint_Tells, owns, shr_vals, shr_Tells, plain, named_lft, nothing, only, calls_at, lasts, triple_of, framed, Stays, stay_dropped, walk_of, Goes-dropped}
use Rattle.std.proofs.Common.{List, [], ◌∷◌, refl, ap, w64}
use Rattle.std.proofs.raw_atomic.Walks.{proved, leaves}
use types.Kit.{feq_l}
use denote.Builtin.{RawPtr}
use denote.RawPtr.{rawptr_vals, rawptr_Tells, rawptr_Lawful}
use denote.Triple.Clauses.{Lasts}
use denote.Triple.Entry.{alive}
use Rattle.wasmi_vectors.proofs.LoggedHandles.{handle, HandleRef, HeapRef, again, heap_of, opened}
use Rattle.wasmi_vectors.specs.contracts.logged.Logged as handle_type
use Rattle.wasmi_vectors.specs.contracts.logged.Logged.takes_back as noted
use Rattle.wasmi_vectors.proofs.logged.Logged.takes_back.Met.{met as notes}
use Rattle.std.specs.contracts.impls.GlobalAllocator.deallocate as freed
use Rattle.std.proofs.impls.GlobalAllocator.deallocate.Met.{met as frees}
use Rattle.wasmi_vectors.specs.contracts.logged.LoggedAllocator.deallocate as f
use Rattle.wasmi_vectors.proofs.logged.LoggedAllocator.deallocate.Statement.{statement}
use Rattle.wasmi_vectors.proofs.logged.LoggedAllocator.deallocate.Code as code

abbrev stayed : Stays f.ended.signature.params f.ended.kept
stayed = (stay_dropped handle yes, (stay_dropped (plain (λ _. RawPtr)) yes, (stay_dropped (plain (λ _. usize)) yes, (stay_dropped (plain (λ _. usize)) yes, tt))))

pub deallocate_spec : {M : Type 1} → statement M
deallocate_spec 𝓤 𝓛 𝓜 𝓡 wired =
    let c = f.clauses 𝓛 𝓜.mem 𝓡.returns in let W = walk_of 𝓛 f.ended stayed c in
    let fm = framed 𝓤 𝓛.H 𝓜 (tables 𝓤 𝓛.H 𝓜 𝓡 𝓡.env) in
    let number = Goes-dropped 𝓛 2 (plain (λ _. usize)) yes (λ κs x w. refl) in
    proved 𝓛 f.ended stayed c 𝓜 𝓡 (Goes-dropped 𝓛 2 handle yes (λ κs x w. refl), (Goes-dropped 𝓛 2 (plain (λ _. RawPtr)) yes (λ κs x w. refl), (number, (number, tt))))
    f.Key.name code.function (code.unfolded 𝓤 𝓛.H 𝓜 𝓡 wired)
    (λ κs. (shr_vals, (rawptr_vals, (uint_vals w64, (uint_vals w64, tt))))) (λ κs. (shr_Tells (named 0) κs.0 (handle_type.the_row (named_lft 2 1 tt κs)), (rawptr_Tells, (uint_Tells w64, (uint_Tells w64, tt))))) (λ κs qs bounds a τ are.
    let y : W.Ghost = ((κs, qs, bounds, a, (shr_vals a.0, (rawptr_vals a.1.0, (uint_vals w64 a.1.1.0, (uint_vals w64 a.1.1.1.0, tt))))), τ) in
    let r = a.0 in let log = named_lft 2 1 tt κs in let Self = ‵ (HandleRef κs.0 log r) in
    let N = triple_of 𝓛 noted.signature (noted.spec 𝓛 𝓜.mem 𝓡.returns) in
    let z₁ : N.Ghost = ((κs, qs, bounds, (r, tt), (shr_vals r, tt)), tt) in
    let G = triple_of 𝓛 freed.signature (freed.spec 𝓛 𝓜.mem 𝓡.returns) in
    let z₂ : G.Ghost = (((κs.0, tt), (qs.0, tt), tt, (heap_of r, a.1), (shr_vals (heap_of r), y.0.4.1)), τ) in
    let Tokens = raw (alive 𝓛 f.signature κs qs) in
    let Later = ‵ (flft κs.1.0 qs.1.0) ⊛ ‵ ftrue in
    let Sizes = ‵ (owns (RawPtr ∷ usize ∷ usize ∷ []) a.1 y.0.4.1) in
    qed 𝓛 ((Tokens ⊛ Self ⊛ Sizes) ∷ raw ((c κs a).requires τ) ∷ []) ∵
    split3 ! $ move ! (1 ∷ []) $ use1 𝓛 (Self ⊛ Self) (again 𝓛 κs.0 log r) $ split ! $ use1 𝓛 (‵ (HeapRef κs.0 (heap_of r))) (opened 𝓛 κs.0 log r) $ move ! (1 ∷ 0 ∷ []) $
    -- [the handle; its heap; the tokens; the block's pointer, size and alignment; the block]
    enter ! _ _ _ _ _ $ alloc_all ! (λ l. pass_all ! refl ((tt, tt), (((rawptr_Lawful 𝓛).typed a.1.0 _ refl).0, ((tt, record { fits = are.1.1.0.1 }), ((tt, record { fits = are.1.1.1.0.1 }), tt)))) $
    nothing ! $ move ! (1 ∷ 0 ∷ []) $ fjoin ! $ move ! (2 ∷ 0 ∷ []) $ join ! $ nothing ! $ move ! (1 ∷ 0 ∷ []) $ join ! $ use1 𝓛 (raw (N.pre z₁)) (id⊢ 𝓤 _) $
    calls_at ! fm N (notes 𝓤 𝓛 𝓜 𝓡 (code.calls-wasmi_vectors::logged::Logged::takes_back 𝓡.env wired)) z₁ (and_then ! (get ! refl) (no_more !)) (λ v.
    use1 𝓛 (later (some (λ (u : Unit {0}). (Tokens ⊛ ‵ (unit.own_val u (v ∷ []))) ⊛ some (λ (ws : Lasts noted.ended κs z₁.0.3). ‵ (lasts noted.ended κs z₁.0.3 ws) ⊛ ‵ ftrue)))) (id⊢ 𝓤 _) $
    await ! tt $ pick ! (λ u. split ! $ split ! $ move ! (1 ∷ []) $ feq_l ! (λ e. lands_as ! (ap only e) refl (tt, tt) $
    -- [the tokens; ..; its heap; the block's pointer, size and alignment; the block]
    sets ! (addr ! (through ! refl (fld ! refl (stop !)))) refl (tt, tt) $
    use1 𝓛 (‵ (flft κs.0 qs.0) ⊛ Later) (id⊢ 𝓤 _) $ split ! $ move ! (3 ∷ 4 ∷ []) $ fjoin ! $ nothing ! $ move ! (2 ∷ 0 ∷ []) $ join ! $ join ! $ move ! (0 ∷ 3 ∷ []) $ join ! $ use1 𝓛 (raw (G.pre z₂)) (id⊢ 𝓤 _) $
    calls_at ! fm G (frees 𝓤 𝓛 𝓜 𝓡 (code.calls-std_heap::GlobalAllocator::deallocate 𝓡.env wired)) z₂ (and_then ! (get ! refl) (and_then ! (get ! refl) (and_then ! (get ! refl) (and_then ! (get ! refl) (no_more !))))) (λ v'.
    use1 𝓛 (later (some (λ (u' : Unit {0}). ((‵ (flft κs.0 qs.0) ⊛ ‵ ftrue) ⊛ ‵ (unit.own_val u' (v' ∷ []))) ⊛ some (λ (ws : Lasts freed.ended z₂.0.0 z₂.0.3). ‵ (lasts freed.ended z₂.0.0 z₂.0.3 ws) ⊛ ‵ ftrue)))) (id⊢ 𝓤 _) $
    await ! tt $ pick ! (λ u'. split ! $ split ! $ move ! (1 ∷ []) $ feq_l ! (λ e'. split ! $ lands_as ! (ap only e') refl (tt, tt) $
    sets ! (of_opd ! (unit_lit !)) refl (tt, tt) $ returns ! (look_at ! 0 refl) $ free_all ! refl $ keep ! (0 ∷ 3 ∷ []) $ join ! $
    nothing ! $ feq_i ! (List Val) (vunit ∷ []) (vunit ∷ []) refl $ nothing ! $ nothing ! $ fjoin ! $ nothing ! $ fjoin ! $ nothing ! $ fjoin ! $ nothing ! $ fjoin ! $ move ! (3 ∷ 0 ∷ 1 ∷ 2 ∷ []) $
    by ! (leaves 𝓛 f.ended stayed c y vunit tt (tt, (tt, (tt, (tt, tt)))) (tt, (tt, (tt, (tt, tt)))))))))))))
