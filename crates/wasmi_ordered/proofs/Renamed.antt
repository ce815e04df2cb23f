-- An iterator that lends a tree's values owns the same under any name of its loan. Assumes `Logic`.
-- for src/map.rt
use Rattle.wasmi_arena.proofs.Steps.{Ura, Val, ent, GName, ftrue, fsep, ‵, ◌$◌, ◌∵◌, !, qed, done, move, use1, fsplit, fjoin, fpick, fpack, Logic, sem, RattleType, Denots, Valss, owns, NamedLft, Struct, within}
use Prim.Native.Nat.{ℕ}
use mathlib.Core.Path.{◌≡◌}
use mathlib.Core.List.{List, [], ◌∷◌}
use denote.Struct.Declared.{shape}
use denote.Struct.Struct.{Shape}
use Rattle.std_collections.specs.contracts.btree_map.entries_mut.EntriesMut as Entries
use Rattle.std_collections.specs.contracts.btree_map.entries_mut.EntriesMut.TheInside as InEntries
use Rattle.std_collections.specs.contracts.btree_map.entries_mut.SpanMut as Span
use Rattle.std_collections.specs.contracts.btree_map.entries_mut.SpanMut.TheInside as InSpan
use Rattle.std_collections.specs.contracts.btree_map.iter.lent.IterMut as Pairs
use Rattle.std_collections.specs.contracts.btree_map.iter.lent.IterMut.TheInside as InPairs
use Rattle.std_collections.specs.contracts.btree_map.iter.lent.ValuesMut as Values
use Rattle.std_collections.specs.contracts.btree_map.iter.lent.ValuesMut.TheInside as InValues

module _ {M : Type 1} {𝓤 : Ura M} (𝓛 : Logic 𝓤) where
  -- a struct, one of whose fields own the other's
  fields_for : (S : Shape) (x y : Denots S.fields) → ((vss : Valss S.fields) → ent 𝓤 (sem 𝓛 (owns S.fields x vss)) (sem 𝓛 (owns S.fields y vss)))
      → (vs : List Val) → ent 𝓤 (sem 𝓛 ((Struct S).own_val x vs)) (sem 𝓛 ((Struct S).own_val y vs))
  fields_for S x y own vs = qed 𝓛 (‵ ((Struct S).own_val x vs) ∷ []) ∵ fpick ! (λ vss. fsplit ! $ move ! (1 ∷ []) $
      use1 𝓛 (‵ (owns S.fields y vss)) (own vss) $ move ! (1 ∷ 0 ∷ []) $ fjoin ! $ fpack ! (Valss S.fields) (within S y vs) vss $ done !)

  module _ (ℓ : NamedLft) (K V : RattleType) (μ : GName) where
    abbrev Lent : Type 0
    Lent = List (K.Denot × V.Denot) × GName × ℕ

    -- the same, under the other name
    abbrev pub under : Lent → Lent
    under x = (x.0, μ, x.2)

    span_under : (x : Lent) (vs : List Val) → ent 𝓤 (sem 𝓛 ((Span.the_row ℓ K V).own_val x vs)) (sem 𝓛 ((Span.the_row ℓ K V).own_val (under x) vs))
    span_under x vs =
        let Inside : RattleType = InSpan.the_row ℓ K V in
        qed 𝓛 (‵ ((Span.the_row ℓ K V).own_val x vs) ∷ []) ∵ fpick ! (λ a.
        let b : Inside.Denot = record a.0 { range = record a.0.range { lent = record a.0.range.lent { tie = μ } } } in
        fpack ! ((c : Inside.Denot) × ((Span.the_view ℓ K V c ≡ under x) × Span.the_invariant ℓ K V c)) (λ c. fsep (Inside.own_val c.0 vs) ftrue) (b, ((λ i. under (a.1.0 i)), a.1.1)) $ done !)

    entries_under : (x : Lent) (vs : List Val) → ent 𝓤 (sem 𝓛 ((Entries.the_row ℓ K V).own_val x vs)) (sem 𝓛 ((Entries.the_row ℓ K V).own_val (under x) vs))
    entries_under x vs =
        let Inside : RattleType = InEntries.the_row ℓ K V in
        qed 𝓛 (‵ ((Entries.the_row ℓ K V).own_val x vs) ∷ []) ∵ fpick ! (λ a. fsplit ! $
        let b : Inside.Denot = record a.0 { span = under a.0.span } in
        use1 𝓛 (‵ (Inside.own_val b vs)) (fields_for (shape (InEntries.the_type ℓ K V)) (a.0.span, (a.0.len, tt)) (b.span, (b.len, tt)) (λ vss.
        qed 𝓛 (‵ (owns (shape (InEntries.the_type ℓ K V)).fields (a.0.span, (a.0.len, tt)) vss) ∷ []) ∵ fsplit ! $
        use1 𝓛 (‵ ((Span.the_row ℓ K V).own_val b.span vss.0)) (span_under a.0.span vss.0) $ fjoin ! $ done !) vs) $ fjoin ! $
        fpack ! ((c : Inside.Denot) × ((Entries.the_view ℓ K V c ≡ under x) × Entries.the_invariant ℓ K V c)) (λ c. fsep (Inside.own_val c.0 vs) ftrue) (b, ((λ i. under (a.1.0 i)), a.1.1)) $ done !)

    pub pairs_under : (x : Lent) (vs : List Val) → ent 𝓤 (sem 𝓛 ((Pairs.the_row ℓ K V).own_val x vs)) (sem 𝓛 ((Pairs.the_row ℓ K V).own_val (under x) vs))
    pairs_under x vs =
        let Inside : RattleType = InPairs.the_row ℓ K V in
        qed 𝓛 (‵ ((Pairs.the_row ℓ K V).own_val x vs) ∷ []) ∵ fpick ! (λ a. fsplit ! $
        let b : Inside.Denot = record a.0 { inner = under a.0.inner } in
        use1 𝓛 (‵ (Inside.own_val b vs)) (fields_for (shape (InPairs.the_type ℓ K V)) (a.0.inner, tt) (b.inner, tt) (λ vss.
        qed 𝓛 (‵ (owns (shape (InPairs.the_type ℓ K V)).fields (a.0.inner, tt) vss) ∷ []) ∵ fsplit ! $
        use1 𝓛 (‵ ((Entries.the_row ℓ K V).own_val b.inner vss.0)) (entries_under a.0.inner vss.0) $ fjoin ! $ done !) vs) $ fjoin ! $
        fpack ! ((c : Inside.Denot) × ((Pairs.the_view ℓ K V c ≡ under x) × Pairs.the_invariant ℓ K V c)) (λ c. fsep (Inside.own_val c.0 vs) ftrue) (b, ((λ i. under (a.1.0 i)), a.1.1)) $ done !)

    pub values_under : (x : Lent) (vs : List Val) → ent 𝓤 (sem 𝓛 ((Values.the_row ℓ K V).own_val x vs)) (sem 𝓛 ((Values.the_row ℓ K V).own_val (under x) vs))
    values_under x vs =
        let Inside : RattleType = InValues.the_row ℓ K V in
        qed 𝓛 (‵ ((Values.the_row ℓ K V).own_val x vs) ∷ []) ∵ fpick ! (λ a. fsplit ! $
        let b : Inside.Denot = record a.0 { inner = under a.0.inner } in
        use1 𝓛 (‵ (Inside.own_val b vs)) (fields_for (shape (InValues.the_type ℓ K V)) (a.0.inner, tt) (b.inner, tt) (λ vss.
        qed 𝓛 (‵ (owns (shape (InValues.the_type ℓ K V)).fields (a.0.inner, tt) vss) ∷ []) ∵ fsplit ! $
        use1 𝓛 (‵ ((Entries.the_row ℓ K V).own_val b.inner vss.0)) (entries_under a.0.inner vss.0) $ fjoin ! $ done !) vs) $ fjoin ! $
        fpack ! ((c : Inside.Denot) × ((Values.the_view ℓ K V c ≡ under x) × Values.the_invariant ℓ K V c)) (λ c. fsep (Inside.own_val c.0 vs) ftrue) (b, ((λ i. under (a.1.0 i)), a.1.1)) $ done !)
