-- Two filled slots of a run of buckets in memory, of one bucket or of two. Assumes `Logic`.
--     pair_out      the run is opened to the pointers of their buckets and the two items, and closed at other items
use Rattle.std.proofs.Common.{◌≡◌, ◌≢◌, ℕ, ◌+◌, ◌*◌, ◌<◌, ◌^◌, List, [], ◌∷◌, length, get_or, set, Option, Some, None, refl, sym, ap, ◌∙◌, subst, inl, inr, arith}
use Rattle.std.proofs.lemmas.Bool.{cases_lt}
use Rattle.std.proofs.lemmas.List.{length-set}
use Rattle.wasmi_arena.proofs.Steps.{Ura, full_share, SProp, ent, sep, wand, ex, all, all_e, apply∗, id⊢, Share, Fml, fsep, ‵, raw, ◌⊛◌, some, ◌$◌, ◌∵◌, !, qed, done, move, use1, use2, use3, split, split3, fsplit, fjoin, rewrite, pick, show, frame, each, assume, Logic, sem, row, others, takes, puts, nth, place_is, part_at, shares, lone, RattleType, block_ptr}
use base.Share
use Rattle.core.proofs.alloc.Calls.{Al}
use Rattle.core.proofs.mem.Param.{El, R}
use Rattle.core.proofs.ptr.Rows.{times_below}
use Rattle.std_alloc.proofs.RcSteps.{word}
use Rattle.std.specs.Mem.{type_size}
use Rattle.wasmi_arena.specs.Bucket.{Bucket, bucket}
use Rattle.wasmi_arena.specs.inner.Table.{items_in, with_item, write}
use Rattle.wasmi_arena.proofs.BucketMemory.{Block, Cell, Alike, Shut, Open, bucket_out, bucket_back, pointer_at}
use Rattle.wasmi_arena.proofs.Frame.{PtrRow}
use Rattle.wasmi_arena.proofs.Rewritten.{filled_inside, write-apart}
use Rattle.wasmi_arena.proofs.Table.{write-write}
use Rattle.wasmi_arena.proofs.TableMemory.{MaybeBucket}
use Rattle.wasmi_arena.proofs.TwoOfRow.{Back, Backs, two_out}

-- a bucket with an item in a slot is open
opened : {T : Type 0} (place : Option (Bucket T)) (s : ℕ) → s < length (items_in place) → (held : Bucket T) × ((place ≡ Some held) × (s < length held.items))
opened None s filled = absurd (omega (arith, filled))
opened (Some held) s filled = (held, (refl, filled))

module _ (E : El) (Z : Al) where
  abbrev Item : RattleType
  Item = MaybeBucket E Z 27

  abbrev X : Type 0
  X = E.row.Denot

  abbrev Buckets : Type 0
  Buckets = List (Option (Bucket X))

  abbrev size : ℕ
  size = type_size (R E)

  -- the shares of the two pointers, and what they point to
  abbrev pub Where : ℕ → ℕ → Type 0
  Where s t = ((Share × Share) × ((ℕ × ℕ) × (ℕ × ℕ))) × ((s * size < 2 ^ 64) × (t * size < 2 ^ 64))

  slot_fits : (held : Bucket X) (s : ℕ) → s < length held.items → (at : Block E Z held) → s * size < 2 ^ 64
  slot_fits held s filled at = let few = times_below s (length held.items) size (2 ^ 63) (omega arith) at.1.1 in omega arith

  module _ {M : Type 1} {𝓤 : Ura M} (𝓛 : Logic 𝓤) (b o : ℕ) (buckets : Buckets) where
    abbrev pub place : ℕ → ℕ
    place i = i * type_size Item + o

    abbrev Run : Buckets → Fml
    Run bs = row Item full_share bs b o

    abbrev pub Pointer : ℕ → Share → ℕ × ℕ → Fml
    Pointer i q at = Cell E Z 𝓛 b (place i) q at

    abbrev pub ItemIn : ℕ × ℕ → ℕ → X → Fml
    ItemIn at s x = part_at (R E) full_share x at.0 (s * size + at.1)

    abbrev pub Closing : (i s j t : ℕ) → Where s t → X × X → SProp 𝓤
    Closing i s j t w z =
        wand 𝓤 (sem 𝓛 (fsep (fsep (Pointer i w.0.0.0 w.0.1.0) (Pointer j w.0.0.1 w.0.1.1)) (fsep (ItemIn w.0.1.0 s z.0) (ItemIn w.0.1.1 t z.1)))) (sem 𝓛 (Run (write (write buckets i s z.0) j t z.1)))

    abbrev pub Two : (i s j t : ℕ) → X → X → Where s t → SProp 𝓤
    Two i s j t x y w =
        sep 𝓤 (sem 𝓛 (fsep (Pointer i w.0.0.0 w.0.1.0) (Pointer j w.0.0.1 w.0.1.1))) (sep 𝓤 (sem 𝓛 (ItemIn w.0.1.0 s x)) (sep 𝓤 (sem 𝓛 (ItemIn w.0.1.1 t y)) (all 𝓤 (Closing i s j t w))))

    abbrev at_place : ℕ → Option (Bucket X)
    at_place i = get_or buckets i None

    across : (d : X) (i s j t : ℕ) → i ≢ j → s < length (items_in (at_place i)) → t < length (items_in (at_place j))
        → ent 𝓤 (sem 𝓛 (Run buckets)) (ex 𝓤 (Two i s j t (get_or (items_in (at_place i)) s d) (get_or (items_in (at_place j)) t d)))
    across d i s j t apart low high =
        let w = type_size Item in let one = opened (at_place i) s low in let other = opened (at_place j) t high in let B₁ = one.0 in let B₂ = other.0 in
        qed 𝓛 (‵ (Run buckets) ∷ []) ∵
        use1 𝓛 (‵ (part_at Item full_share (at_place i) b (nth w o i)) ⊛ ‵ (part_at Item full_share (at_place j) b (nth w o j)) ⊛ raw (Backs Item 𝓛 b buckets i j o))
        (two_out Item 𝓛 b buckets i j o None apart (filled_inside buckets i s low) (filled_inside buckets j t high)) $ split3 ! $
        rewrite ! 0 (λ (n : ℕ). ‵ (part_at Item full_share (at_place i) b n)) (place_is w o i) refl $ rewrite ! 0 (λ (h : Option (Bucket X)). ‵ (part_at Item full_share h b (place i))) one.1.0 refl $
        rewrite ! 1 (λ (n : ℕ). ‵ (part_at Item full_share (at_place j) b n)) (place_is w o j) refl $ rewrite ! 1 (λ (h : Option (Bucket X)). ‵ (part_at Item full_share h b (place j))) other.1.0 refl $
        use1 𝓛 (some (λ (at : Block E Z B₁). raw (Open E Z 𝓛 b (place i) B₁ at))) (bucket_out E Z 𝓛 b (place i) B₁) $ pick ! (λ at₁. let p₁ : ℕ × ℕ = (at₁.0, at₁.1.0) in
        use1 𝓛 (‵ (Pointer i full_share p₁) ⊛ ‵ (row (R E) full_share B₁.items at₁.0 at₁.1.0) ⊛ raw (all 𝓤 (λ (z : Alike E Z 𝓛 b (place i) B₁). Shut E Z 𝓛 b (place i) B₁ p₁ z.0))) (id⊢ 𝓤 _) $ split3 ! $ move ! (3 ∷ []) $
        use1 𝓛 (some (λ (at : Block E Z B₂). raw (Open E Z 𝓛 b (place j) B₂ at))) (bucket_out E Z 𝓛 b (place j) B₂) $ pick ! (λ at₂. let p₂ : ℕ × ℕ = (at₂.0, at₂.1.0) in
        use1 𝓛 (‵ (Pointer j full_share p₂) ⊛ ‵ (row (R E) full_share B₂.items at₂.0 at₂.1.0) ⊛ raw (all 𝓤 (λ (z : Alike E Z 𝓛 b (place j) B₂). Shut E Z 𝓛 b (place j) B₂ p₂ z.0))) (id⊢ 𝓤 _) $ split3 ! $
        -- [the second bucket, in three entries; the first one, in three; the way back]
        move ! (4 ∷ []) $ use1 𝓛 (‵ (part_at (R E) full_share (get_or B₁.items s d) at₁.0 (nth size at₁.1.0 s)) ⊛ ‵ (others (shares (R E)) full_share B₁.items s at₁.0 at₁.1.0)) (takes (shares (R E)) full_share 𝓛 B₁.items s d at₁.0 at₁.1.0 one.1.1) $ split ! $
        rewrite ! 0 (λ (n : ℕ). ‵ (part_at (R E) full_share (get_or B₁.items s d) at₁.0 n)) (place_is size at₁.1.0 s) refl $
        rewrite ! 0 (λ (h : Option (Bucket X)). ‵ (part_at (R E) full_share (get_or (items_in h) s d) at₁.0 (s * size + at₁.1.0))) (sym one.1.0) refl $
        move ! (3 ∷ []) $ use1 𝓛 (‵ (part_at (R E) full_share (get_or B₂.items t d) at₂.0 (nth size at₂.1.0 t)) ⊛ ‵ (others (shares (R E)) full_share B₂.items t at₂.0 at₂.1.0)) (takes (shares (R E)) full_share 𝓛 B₂.items t d at₂.0 at₂.1.0 other.1.1) $ split ! $
        rewrite ! 0 (λ (n : ℕ). ‵ (part_at (R E) full_share (get_or B₂.items t d) at₂.0 n)) (place_is size at₂.1.0 t) refl $
        rewrite ! 0 (λ (h : Option (Bucket X)). ‵ (part_at (R E) full_share (get_or (items_in h) t d) at₂.0 (t * size + at₂.1.0))) (sym other.1.0) refl $
        -- [the second item; its others; the first item; its others; the second pointer; its bucket's end; the first pointer; its bucket's end; the way back]
        move ! (6 ∷ 4 ∷ []) $ fjoin ! $ move ! (0 ∷ 3 ∷ 1 ∷ []) $
        show ! (Two i s j t (get_or (items_in (at_place i)) s d) (get_or (items_in (at_place j)) t d)) (((full_share, full_share), (p₁, p₂)), (slot_fits B₁ s one.1.1 at₁, slot_fits B₂ t other.1.1 at₂)) $
        frame ! $ frame ! $ frame ! $ each ! (Closing i s j t (((full_share, full_share), (p₁, p₂)), (slot_fits B₁ s one.1.1 at₁, slot_fits B₂ t other.1.1 at₂))) (λ z.
        assume ! (‵ (fsep (fsep (Pointer i full_share p₁) (Pointer j full_share p₂)) (fsep (ItemIn p₁ s z.0) (ItemIn p₂ t z.1)))) $ fsplit ! $ move ! (1 ∷ []) $ fsplit ! $ move ! (2 ∷ []) $ fsplit ! $
        -- [the first pointer; the second; the first item; the second; the second's others; the first's others; the second bucket's end; the first one's; the way back]
        move ! (2 ∷ []) $ rewrite ! 0 (λ (n : ℕ). ‵ (part_at (R E) full_share z.0 at₁.0 n)) (sym (place_is size at₁.1.0 s)) refl $ move ! (0 ∷ 5 ∷ []) $
        use2 𝓛 (‵ (row (R E) full_share (set B₁.items s z.0) at₁.0 at₁.1.0)) (puts (shares (R E)) full_share 𝓛 B₁.items s z.0 at₁.0 at₁.1.0 one.1.1) $
        move ! (3 ∷ []) $ rewrite ! 0 (λ (n : ℕ). ‵ (part_at (R E) full_share z.1 at₂.0 n)) (sym (place_is size at₂.1.0 t)) refl $ move ! (0 ∷ 4 ∷ []) $
        use2 𝓛 (‵ (row (R E) full_share (set B₂.items t z.1) at₂.0 at₂.1.0)) (puts (shares (R E)) full_share 𝓛 B₂.items t z.1 at₂.0 at₂.1.0 other.1.1) $
        -- [the second items; the first ones; the first pointer; the second; the second bucket's end; the first one's; the way back]
        move ! (5 ∷ 2 ∷ 1 ∷ []) $ use3 𝓛 (‵ (part_at Item full_share (Some (bucket (set B₁.items s z.0) B₁.capacity)) b (place i))) (bucket_back E Z 𝓛 b (place i) B₁ at₁ (set B₁.items s z.0, length-set B₁.items s z.0)) $
        move ! (3 ∷ 2 ∷ 1 ∷ []) $ use3 𝓛 (‵ (part_at Item full_share (Some (bucket (set B₂.items t z.1) B₂.capacity)) b (place j))) (bucket_back E Z 𝓛 b (place j) B₂ at₂ (set B₂.items t z.1, length-set B₂.items t z.1)) $
        rewrite ! 0 (λ (n : ℕ). ‵ (part_at Item full_share (with_item (Some B₂) t z.1) b n)) (sym (place_is w o j)) refl $ rewrite ! 1 (λ (n : ℕ). ‵ (part_at Item full_share (with_item (Some B₁) s z.0) b n)) (sym (place_is w o i)) refl $
        move ! (1 ∷ 0 ∷ []) $ fjoin ! $ move ! (1 ∷ []) $
        let made : Option (Bucket X) × Option (Bucket X) = (with_item (Some B₁) s z.0, with_item (Some B₂) t z.1) in
        use1 𝓛 (raw (Back Item 𝓛 b buckets i j o made)) (all_e 𝓤 (Back Item 𝓛 b buckets i j o) made) $ move ! (1 ∷ 0 ∷ []) $
        use2 𝓛 (‵ (Run (set (set buckets i made.0) j made.1))) (apply∗ 𝓤 (sem 𝓛 (fsep (part_at Item full_share made.0 b (nth w o i)) (part_at Item full_share made.1 b (nth w o j)))) (sem 𝓛 (Run (set (set buckets i made.0) j made.1)))) $
        rewrite ! 0 (λ (bs : Buckets). ‵ (Run bs)) (sym (write-apart buckets i s j t z.0 z.1 apart ∙ (λ k. set (set buckets i (with_item (one.1.0 k) s z.0)) j (with_item (other.1.0 k) t z.1)))) refl $ done !)))

    within : (d : X) (i s t : ℕ) → s ≢ t → s < length (items_in (at_place i)) → t < length (items_in (at_place i))
        → ent 𝓤 (sem 𝓛 (Run buckets)) (ex 𝓤 (Two i s i t (get_or (items_in (at_place i)) s d) (get_or (items_in (at_place i)) t d)))
    within d i s t apart low high =
        let w = type_size Item in let one = opened (at_place i) s low in let B = one.0 in let inside = filled_inside buckets i s low in
        let high' : t < length B.items = subst (λ (h : Option (Bucket X)). t < length (items_in h)) one.1.0 high in
        let q₁ = Share.left full_share in let q₂ = Share.right full_share in let half = Share.halves full_share in
        qed 𝓛 (‵ (Run buckets) ∷ []) ∵
        use1 𝓛 (‵ (part_at Item full_share (at_place i) b (nth w o i)) ⊛ ‵ (others (shares Item) full_share buckets i b o)) (takes (shares Item) full_share 𝓛 buckets i None b o inside) $ split ! $
        rewrite ! 0 (λ (n : ℕ). ‵ (part_at Item full_share (at_place i) b n)) (place_is w o i) refl $ rewrite ! 0 (λ (h : Option (Bucket X)). ‵ (part_at Item full_share h b (place i))) one.1.0 refl $
        use1 𝓛 (some (λ (at : Block E Z B). raw (Open E Z 𝓛 b (place i) B at))) (bucket_out E Z 𝓛 b (place i) B) $ pick ! (λ at. let p : ℕ × ℕ = (at.0, at.1.0) in let v = word (block_ptr at.0 at.1.0) in
        use1 𝓛 (‵ (Pointer i full_share p) ⊛ ‵ (row (R E) full_share B.items at.0 at.1.0) ⊛ raw (all 𝓤 (λ (z : Alike E Z 𝓛 b (place i) B). Shut E Z 𝓛 b (place i) B p z.0))) (id⊢ 𝓤 _) $ split3 ! $
        use1 𝓛 (‵ (Pointer i q₁ p) ⊛ ‵ (Pointer i q₂ p)) (𝓛.laws.at_split full_share q₁ q₂ half (lone (PtrRow E).mir) b (pointer_at E Z (place i)) v) $ split ! $ fjoin ! $ move ! (1 ∷ []) $
        use1 𝓛 (‵ (part_at (R E) full_share (get_or B.items s d) at.0 (nth size at.1.0 s)) ⊛ ‵ (part_at (R E) full_share (get_or B.items t d) at.0 (nth size at.1.0 t)) ⊛ raw (Backs (R E) 𝓛 at.0 B.items s t at.1.0))
        (two_out (R E) 𝓛 at.0 B.items s t at.1.0 d apart one.1.1 high') $ split3 ! $
        rewrite ! 0 (λ (n : ℕ). ‵ (part_at (R E) full_share (get_or B.items s d) at.0 n)) (place_is size at.1.0 s) refl $
        rewrite ! 0 (λ (h : Option (Bucket X)). ‵ (part_at (R E) full_share (get_or (items_in h) s d) at.0 (s * size + at.1.0))) (sym one.1.0) refl $
        rewrite ! 1 (λ (n : ℕ). ‵ (part_at (R E) full_share (get_or B.items t d) at.0 n)) (place_is size at.1.0 t) refl $
        rewrite ! 1 (λ (h : Option (Bucket X)). ‵ (part_at (R E) full_share (get_or (items_in h) t d) at.0 (t * size + at.1.0))) (sym one.1.0) refl $
        -- [the first item; the second; the items' way back; the pointers; the bucket's end; the other buckets]
        move ! (3 ∷ []) $
        let found : Where s t = (((q₁, q₂), (p, p)), (slot_fits B s one.1.1 at, slot_fits B t high' at)) in
        show ! (Two i s i t (get_or (items_in (at_place i)) s d) (get_or (items_in (at_place i)) t d)) found $ frame ! $ frame ! $ frame ! $ each ! (Closing i s i t found) (λ z.
        assume ! (‵ (fsep (fsep (Pointer i q₁ p) (Pointer i q₂ p)) (fsep (ItemIn p s z.0) (ItemIn p t z.1)))) $ fsplit ! $ fsplit ! $
        use2 𝓛 (‵ (Pointer i full_share p)) (𝓛.laws.at_join full_share q₁ q₂ half (lone (PtrRow E).mir) b (pointer_at E Z (place i)) v) $ move ! (1 ∷ []) $ fsplit ! $
        -- [the first item; the second; the pointer; the items' way back; the bucket's end; the other buckets]
        rewrite ! 0 (λ (n : ℕ). ‵ (part_at (R E) full_share z.0 at.0 n)) (sym (place_is size at.1.0 s)) refl $ rewrite ! 1 (λ (n : ℕ). ‵ (part_at (R E) full_share z.1 at.0 n)) (sym (place_is size at.1.0 t)) refl $ fjoin ! $ move ! (2 ∷ []) $
        let last = set (set B.items s z.0) t z.1 in
        use1 𝓛 (raw (Back (R E) 𝓛 at.0 B.items s t at.1.0 z)) (all_e 𝓤 (Back (R E) 𝓛 at.0 B.items s t at.1.0) z) $ move ! (1 ∷ 0 ∷ []) $
        use2 𝓛 (‵ (row (R E) full_share last at.0 at.1.0)) (apply∗ 𝓤 (sem 𝓛 (fsep (part_at (R E) full_share z.0 at.0 (nth size at.1.0 s)) (part_at (R E) full_share z.1 at.0 (nth size at.1.0 t)))) (sem 𝓛 (row (R E) full_share last at.0 at.1.0))) $
        move ! (2 ∷ 1 ∷ 0 ∷ []) $ use3 𝓛 (‵ (part_at Item full_share (Some (bucket last B.capacity)) b (place i))) (bucket_back E Z 𝓛 b (place i) B at (last, length-set (set B.items s z.0) t z.1 ∙ length-set B.items s z.0)) $
        let made : Option (Bucket X) = with_item (with_item (Some B) s z.0) t z.1 in
        rewrite ! 0 (λ (n : ℕ). ‵ (part_at Item full_share made b n)) (sym (place_is w o i)) refl $ use2 𝓛 (‵ (Run (set buckets i made))) (puts (shares Item) full_share 𝓛 buckets i made b o inside) $
        rewrite ! 0 (λ (bs : Buckets). ‵ (Run bs)) (sym (write-write buckets i s t z.1 z.0 inside ∙ ap (λ (h : Option (Bucket X)). set buckets i (with_item (with_item h s z.0) t z.1)) one.1.0)) refl $ done !))

    pub pair_out : (d : X) (i s j t : ℕ) → (i ≡ j → s ≢ t) → s < length (items_in (at_place i)) → t < length (items_in (at_place j))
        → ent 𝓤 (sem 𝓛 (Run buckets)) (ex 𝓤 (Two i s j t (get_or (items_in (at_place i)) s d) (get_or (items_in (at_place j)) t d)))
    pair_out d i s j t apart low high = elim (cases_lt i j) [
      | inl less ↦ across d i s j t (λ same. let e = same in absurd (omega arith)) low high
      | inr least ↦ elim (cases_lt j i) [
        | inl more ↦ across d i s j t (λ same. let e = same in absurd (omega arith)) low high
        | inr most ↦ let same : i ≡ j = omega arith in
            subst (λ (k : ℕ). t < length (items_in (at_place k)) → ent 𝓤 (sem 𝓛 (Run buckets)) (ex 𝓤 (Two i s k t (get_or (items_in (at_place i)) s d) (get_or (items_in (at_place k)) t d)))) same (within d i s t (apart same) low) high
      ]
    ]
