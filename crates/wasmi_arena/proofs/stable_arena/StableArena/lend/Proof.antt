-- `lend` hands out an arena's buckets, of which only the items can be written. Assumes `Logic`.
use Rattle.std.proofs.Common.{ℕ, ◌*◌, ◌<◌, ◌≤◌, ◌^◌, List, [], ◌∷◌, length, refl, sym, ◌∙◌, ap, subst}
use Rattle.wasmi_arena.proofs.Steps.{proved, full_share, GName, ftrue, flft, fobs, fbor, named, Args, a_type, dcons, dnil, inst_fn, size, ◌⊑◌, fact, join, use0, use1, ‵, raw, ◌⊛◌, some, later, ◌$◌, ◌∵◌, !, qed, done, move, keep, drop, split, split3, group, pick, await, fsplit3, fjoin, frame, flt_i, rewrite, suffices, enter, addr, fld, stop, returns, and_then, no_more, alloc_all, pass_all, free_all, look_at, get, through, sets, takes_part, open_ref, agg, SemTy, Body, no, follows, row, mem, layout, bounded, block_ptr, MutRef, mut_vals, mut_Tells, plain, named_lft, heard, Stays, walk_of, stay_dropped, Goes-spent_ref, ends_at}
use Rattle.core.specs.List.{refill}
use Rattle.std.specs.Mem.{type_size}
use Rattle.core.proofs.alloc.Calls.{Al}
use Rattle.core.proofs.mem.Param.{El, R}
use Rattle.core.proofs.slots.Leases.{P}
use Rattle.core.specs.declared.option.Option.{Option}
use Rattle.wasmi_arena.specs.Bucket.{Bucket}
use Rattle.wasmi_arena.specs.Geometry.{max_len}
use Rattle.wasmi_arena.specs.inner.Loan.{SameBuckets}
use Rattle.wasmi_arena.specs.inner.Table.{items_of, IsTable}
use Rattle.wasmi_arena.specs.contracts.stable_arena.StableArena.lend as F
use Rattle.wasmi_arena.proofs.stable_arena.StableArena.lend.Statement.{statement}
use Rattle.wasmi_arena.proofs.stable_arena.StableArena.lend.Code as code
use Rattle.wasmi_arena.proofs.Frame.{let_go, gone, says_two}
use Rattle.wasmi_arena.proofs.LoanMemory.{LoanRow, loan, loan_val, loan_made}
use Rattle.wasmi_arena.proofs.Refilled.{refilled-own}
use Rattle.wasmi_arena.proofs.TableMemory.{MaybeBucket}
use Rattle.wasmi_arena.proofs.Sizes.{vec_small, array_small}
use Rattle.wasmi_arena.proofs.ArenaMemory.{ArenaRow, Apart, buckets_at, bare, apart, together}

pub lend_spec : {M : Type 1} → statement M
lend_spec 𝓤 𝓛 𝓜 𝓡 wired K X Y LK LX LY copy keys kd clone cd g d dd k_met c_met met md =
    let E : El = record { row = X; laws = LX } in let Z : Al = record { row = Y; laws = LY; g = g; d = d; drops = dd } in
    let args : Args = bounded (a_type ∷ a_type ∷ a_type ∷ []) (K, (X, (Y, tt))) (dcons kd (dcons cd (dcons d (dcons dd dnil)))) in
    let call = F.ended K X Y keys kd clone cd g d dd in let c = F.clauses K X Y keys kd clone cd g d dd 𝓛 𝓜.mem 𝓡.returns in
    let Self = ArenaRow K E Z keys in
    let stayed : Stays call.signature.params call.kept = (stay_dropped _ no, tt) in
    let W = walk_of 𝓛 call stayed c in
    proved 𝓛 call stayed c 𝓜 𝓡 (Goes-spent_ref 𝓛 4 (0 ∷ []) tt (plain (λ _. Self)), tt)
    (F.Key.name args) (inst_fn args code.function) (code.unfolded 𝓤 𝓛.H 𝓜 𝓡 wired (K, (X, (Y, tt))) kd cd d dd)
    (λ κs. (mut_vals, tt)) (λ κs. (mut_Tells (named 0) κs.0 Self, tt))
    (λ κs qs bounds a _ are.
    let items = a.0.now in let b = a.0.ref_ptr.0 in let o = a.0.ref_ptr.1 in let κ = κs.0 in let q = qs.0 in let γ = a.0.ghost_name in let at = buckets_at K E Z keys 𝓛 b o in let ℓ = named_lft 4 0 tt κs in
    let y : W.Ghost = ((κs, qs, bounds, a, (mut_vals a.0, tt)), tt) in
    let others_alive = ‵ (flft κs.1.0 qs.1.0) ⊛ ‵ (flft κs.1.1.0 qs.1.1.0) ⊛ ‵ (flft κs.1.1.1.0 qs.1.1.1.0) ⊛ ‵ ftrue in
    qed 𝓛 (((‵ (flft κ q) ⊛ others_alive) ⊛ ‵ ((MutRef (named 0) κ Self).own_val a.0 (mut_vals a.0)) ⊛ ‵ ftrue)
    ∷ (raw (fact 𝓤 (κs.1.0 ⊑ K.lives)) ⊛ raw (fact 𝓤 (κs.1.1.0 ⊑ X.lives)) ⊛ raw (fact 𝓤 (κs.1.1.1.0 ⊑ Y.lives)) ⊛ raw (fact 𝓤 (size (layout Self) < 2 ^ 63)) ⊛ ‵ ftrue) ∷ []) ∵
    move ! (1 ∷ []) $ split ! $ drop ! $ split ! $ drop ! $ split ! $ drop ! $ split ! $ heard ! _ (λ small. drop ! $
    split ! $ split ! $ move ! (2 ∷ []) $ split ! $ fsplit3 ! $ keep ! (1 ∷ 2 ∷ 4 ∷ 5 ∷ []) $
    enter ! _ _ _ _ _ $ alloc_all ! (λ l. pass_all ! refl ((tt, tt), tt) $
    sets ! (addr ! (through ! refl (fld ! refl (fld ! refl (fld ! refl (stop !)))))) refl (tt, tt) $ sets ! (agg ! (no_more !)) refl (tt, tt) $
    sets ! (agg ! (and_then ! (get ! refl) (and_then ! (get ! refl) (no_more !)))) refl (tt, (tt, (tt, tt))) $
    open_ref ! tt (mem Self) {b = b} {o = o} $
    -- [the arena; the open borrow, in three entries; the other tokens]
    use1 𝓛 (some (λ (x : Apart K E Z keys 𝓛 b o items). ‵ (row (MaybeBucket E Z 27) full_share x.1.0.table.buckets b at) ⊛ raw (bare K E Z keys 𝓛 b o x))) (apart K E Z keys 𝓛 b o items) $ pick ! (λ x. split ! $
    let v = x.1 in let buckets = v.0.table.buckets in let seen = v.1.0 ∙ x.0.1.0 in let held = items_of buckets in let Lent : SemTy = SameBuckets (R E) (P E Z) g buckets in let code = (ArenaRow K E Z keys).coded.code items in
    rewrite ! 0 (λ (bs : List (Option (Bucket X.Denot))). ‵ (row (MaybeBucket E Z 27) full_share bs b at)) (sym (refilled-own buckets)) refl $
    move ! (2 ∷ 3 ∷ 4 ∷ 0 ∷ 1 ∷ []) $ group ! 5 $
    use1 𝓛 (later (some (λ (ν : GName). ‵ (fobs ν (Lent.coded.code held)) ⊛ ‵ (fbor κ (Body Lent b at ν)) ⊛ ‵ (flft κ q) ⊛ ‵ (follows Self Self γ ν (refill (length items) items)))))
    (takes_part 𝓛 (mem Self) Lent (refill (length items) items) κ q b o b at γ (bare K E Z keys 𝓛 b o x) (together K E Z keys 𝓛 b o items x) code code held) $ await ! tt $ pick ! (λ ν.
    split3 ! $ fjoin ! $ flt_i ! (length buckets * type_size (MaybeBucket E Z 27)) (2 ^ 63) (subst (λ (n : ℕ). n * type_size (MaybeBucket E Z 27) < 2 ^ 63) (sym v.1.1.buckets_counted) (array_small E.row Z.row Z.g (vec_small E.row Z.row Z.g K keys small))) $ fjoin ! $
    use1 𝓛 (‵ ((LoanRow ℓ E Z).own_val (loan ℓ E Z (block_ptr b at) buckets ν ν) (loan_val ℓ E Z (block_ptr b at) ∷ []))) (loan_made ℓ E Z 𝓛 (block_ptr b at) buckets ν ν) $
    returns ! (look_at ! 0 refl) $ free_all ! refl $
    -- [the loan; the token, and what the arena is afterwards; the other tokens]
    move ! (1 ∷ []) $ split ! $
    suffices ! _ (ends_at 𝓛 call stayed c y (loan_val ℓ E Z (block_ptr b at)) (loan ℓ E Z (block_ptr b at) buckets ν ν) (tt, tt) (tt, tt)) $
    move ! (0 ∷ 3 ∷ []) $ join ! $ use0 𝓛 (‵ (let_go 1)) (gone 𝓛 1) $ move ! (1 ∷ 0 ∷ 3 ∷ 2 ∷ []) $ group ! 3 $ frame ! $
    says_two ! refl (record { counted = v.1.1.buckets_counted; table = subst (λ (xs : List X.Denot). IsTable 32 xs buckets) seen v.1.1.table; few_items = subst (λ (n : ℕ). n ≤ max_len) (v.1.1.items_counted ∙ ap length seen) v.1.1.few_items }) $ done !)))))
