-- A stable arena in memory is its vector, and a value without bytes. Assumes `Logic`.
use mathlib.Core.Path.{◌≡◌, refl, sym, ap}
use Prim.Native.Nat.{ℕ, zero, ◌+◌}
use Rattle.wasmi_arena.proofs.Steps.{arith, length, Ura, full_share, SProp, ent, sep, ex, align, up, Logic, sem, some, by, ‵, raw, ◌⊛◌, ◌$◌, ◌∵◌, !, qed, done, use1, use2, split, pick, rewrite, show, row, Lawfuls, part_at, mem, lone, view_owns, view_made, plain_out, Plain-in, param, param_laws, RattleType, Denots, Member, rows_of, PartsBack, rest_at, field_out, field_back, Struct}
use mathlib.Core.List.{List, [], ◌∷◌}
use denote.Memory.{part_of}
use denote.Struct.Declared as Declared
use denote.Struct.Struct.{Struct-Lawful}
use Rattle.core.proofs.alloc.Calls.{Al}
use Rattle.core.proofs.mem.Param.{El, R}
use Rattle.core.proofs.slots.Leases.{P}
use Rattle.core.specs.contracts.marker.PhantomData as marker
use Rattle.core.specs.declared.option.Option.{Option}
use Rattle.core.specs.List.{refill, length_refill}
use Rattle.wasmi_arena.specs.Bucket.{Bucket}
use Rattle.wasmi_arena.specs.inner.Loan.{SameBuckets}
use Rattle.wasmi_arena.specs.contracts.stable_arena.StableArena as Arena
use Rattle.wasmi_arena.specs.contracts.stable_arena.StableArena.TheInside as ArenaInside
use Rattle.wasmi_arena.specs.declared.key.ArenaKey as Key
use Rattle.wasmi_arena.proofs.TableMemory.{MaybeBucket}
use Rattle.wasmi_arena.proofs.VecMemory as vec
use Rattle.wasmi_arena.proofs.stable_vec.StableVec.TheLaws as VecLaws

module _ (K : RattleType) (E : El) (Z : Al) (keys : Key.Ghosts K.Denot) where
  abbrev pub ArenaRow : RattleType
  ArenaRow = Arena.the_row (param 0 K) (param 1 E.row) (param 2 Z.row) keys Z.g

  abbrev pub Inside : RattleType
  Inside = ArenaInside.the_row (param 0 K) (param 1 E.row) (param 2 Z.row) keys Z.g

  abbrev Marker : RattleType
  Marker = Struct (Declared.shape (marker.the_type (param 0 K)))

  abbrev fields : List Member
  fields = record { row = vec.VecRow E Z; ty = lone (vec.VecRow E Z).mir } ∷ record { row = Marker; ty = lone Marker.mir } ∷ []

  abbrev view : (Inside).Denot → List E.row.Denot
  view = Arena.the_view (param 0 K) (param 1 E.row) (param 2 Z.row) keys Z.g

  abbrev holds : (Inside).Denot → Type 0
  holds = Arena.the_invariant (param 0 K) (param 1 E.row) (param 2 Z.row) keys Z.g

  -- an arena's fields, at which it is seen as these items
  abbrev pub Seen : List E.row.Denot → Type 0
  Seen items = (a : (Inside).Denot) × ((view a ≡ items) × holds a)

  -- where the vector of an arena at o lies
  abbrev pub vec_at : ℕ → ℕ
  vec_at o = o + up (align (lone (vec.VecRow E Z).mir)) zero

  abbrev values : (Inside).Denot → Denots (rows_of fields)
  values a = (a.items, (tt, tt))

  module _ {M : Type 1} {𝓤 : Ura M} (𝓛 : Logic 𝓤) (b o : ℕ) where
    -- what is left of an arena without its vector
    abbrev pub bare_arena : (Inside).Denot → SProp 𝓤
    bare_arena a = sep 𝓤 (sem 𝓛 (rest_at full_share fields zero (values a) b o zero)) (PartsBack 𝓛 full_share [] fields b o)

    pub arena_out : (items : List E.row.Denot) → ent 𝓤 (sem 𝓛 ((mem ArenaRow).own_at items b o)) (ex 𝓤 (λ (x : Seen items). sep 𝓤 (sem 𝓛 ((mem (vec.VecRow E Z)).own_at x.0.items b (vec_at o))) (bare_arena x.0)))
    unfolding part_of
    arena_out items =
        let lawful : Lawfuls 𝓛 (rows_of fields) = ((VecLaws.the_row_laws (R E) (P E Z) Z.g (param_laws 0 E.row E.laws) (param_laws 1 Z.row Z.laws)).lawful 𝓛, (Struct-Lawful 𝓛 (Declared.shape (marker.the_type (param 0 K))) tt, tt)) in
        qed 𝓛 (‵ (part_at ArenaRow full_share items b o) ∷ []) ∵
        use1 𝓛 (some (λ (x : Seen items). ‵ (part_at Inside full_share x.0 b o))) (plain_out ArenaRow Inside (view_owns Inside (List E.row.Denot) (ArenaRow).coded view holds) 𝓛 full_share items b o) $ pick ! (λ x.
        use1 𝓛 (‵ (part_at (vec.VecRow E Z) full_share x.0.items b (vec_at o)) ⊛ raw (bare_arena x.0)) (field_out 𝓛 full_share [] fields lawful (values x.0) b o zero) $ split ! $
        show ! (λ (y : Seen items). sep 𝓤 (sem 𝓛 ((mem (vec.VecRow E Z)).own_at y.0.items b (vec_at o))) (bare_arena y.0)) x $ done !)

    pub arena_back : (items : List E.row.Denot) (x : Seen items) (new : List E.row.Denot) → length new ≡ length items → ent 𝓤 (sep 𝓤 (sem 𝓛 ((mem (vec.VecRow E Z)).own_at new b (vec_at o))) (bare_arena x.0)) (sem 𝓛 ((mem ArenaRow).own_at new b o))
    unfolding part_of
    arena_back items x new same =
        let a = x.0 in let u : (Inside).Denot = record { items = new; keys = a.keys } in
        let keyed : holds u = let was = x.1.1 in omega (arith, same, was, ap length x.1.0) in
        qed 𝓛 (‵ (part_at (vec.VecRow E Z) full_share new b (vec_at o)) ∷ raw (bare_arena a) ∷ []) ∵
        use2 𝓛 (‵ (part_at Inside full_share u b o)) (field_back 𝓛 full_share [] fields (values u) b o zero) $
        by ! (Plain-in ArenaRow Inside (view_owns Inside (List E.row.Denot) (ArenaRow).coded view holds) 𝓛 full_share new u (view_made Inside (List E.row.Denot) (ArenaRow).coded view holds 𝓛 new u (refl, keyed)) b o)

    -- an arena with its buckets apart, and what is left of it
    abbrev pub Apart : List E.row.Denot → Type 0
    Apart items = (x : Seen items) × vec.Seen E Z x.0.items

    abbrev pub buckets_at : ℕ
    buckets_at = vec.buckets_at E Z (vec_at o)

    abbrev pub bare : {items : List E.row.Denot} → Apart items → SProp 𝓤
    bare x = sep 𝓤 (vec.bare_vec E Z 𝓛 b (vec_at o) x.1.0) (bare_arena x.0.0)

    abbrev buckets_of : {items : List E.row.Denot} → Apart items → List (Option (Bucket E.row.Denot))
    buckets_of x = x.1.0.table.buckets

    pub apart : (items : List E.row.Denot) → ent 𝓤 (sem 𝓛 ((mem ArenaRow).own_at items b o)) (ex 𝓤 (λ (x : Apart items). sep 𝓤 (sem 𝓛 (row (MaybeBucket E Z 27) full_share (buckets_of x) b buckets_at)) (bare x)))
    apart items =
        qed 𝓛 (‵ ((mem ArenaRow).own_at items b o) ∷ []) ∵
        use1 𝓛 (some (λ (x : Seen items). ‵ ((mem (vec.VecRow E Z)).own_at x.0.items b (vec_at o)) ⊛ raw (bare_arena x.0))) (arena_out items) $ pick ! (λ x. split ! $
        use1 𝓛 (some (λ (v : vec.Seen E Z x.0.items). ‵ (row (MaybeBucket E Z 27) full_share v.0.table.buckets b buckets_at) ⊛ raw (vec.bare_vec E Z 𝓛 b (vec_at o) v.0))) (vec.vec_out E Z 𝓛 b (vec_at o) x.0.items) $ pick ! (λ v. split ! $
        show ! (λ (y : Apart items). sep 𝓤 (sem 𝓛 (row (MaybeBucket E Z 27) full_share (buckets_of y) b buckets_at)) (bare y)) (x, v) $ done !))

    pub together : (items : List E.row.Denot) (x : Apart items) (ws : List E.row.Denot)
        → ent 𝓤 (sep 𝓤 (sem 𝓛 ((SameBuckets (R E) (P E Z) Z.g (buckets_of x)).own_at ws b buckets_at)) (bare x)) (sem 𝓛 ((mem ArenaRow).own_at (refill (length items) items ws) b o))
    together items x ws =
        let held = x.0.0.items in let seen : held ≡ items = x.0.1.0 in
        let same : length (refill (length items) items ws) ≡ length items = sym (length_refill (length items) items ws refl) in
        qed 𝓛 (‵ ((SameBuckets (R E) (P E Z) Z.g (buckets_of x)).own_at ws b buckets_at) ∷ raw (vec.bare_vec E Z 𝓛 b (vec_at o) x.1.0) ∷ raw (bare_arena x.0.0) ∷ []) ∵
        use2 𝓛 (‵ ((mem (vec.VecRow E Z)).own_at (refill (length held) held ws) b (vec_at o))) (vec.vec_back E Z 𝓛 b (vec_at o) held x.1 ws) $
        rewrite ! 0 (λ (xs : List E.row.Denot). ‵ ((mem (vec.VecRow E Z)).own_at (refill (length xs) xs ws) b (vec_at o))) seen refl $
        by ! (arena_back items x.0 (refill (length items) items ws) same)
