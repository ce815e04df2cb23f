-- Facts on a vector that is cloned bucket by bucket.
use Rattle.std.proofs.Common.{◌≡◌, ℕ, ◌+◌, ◌^◌, ◌<◌, ◌≤◌, List, [], ◌∷◌, ◌++◌, length, drop, min, refl, sym, ◌∙◌, ap, subst, add-one, arith, length-append, length-drop, append_assoc, append-nil}
use Rattle.std.proofs.Math.Nat.{le_of_lt}
use Rattle.std.proofs.Math.Seq.{drop-append_seam}
use Rattle.std.proofs.lemmas.List.{length-take, take-append-drop}
use Rattle.std.proofs.lemmas.List.Elements.{All-take, All-drop, length_all_zip}
use Rattle.std.specs.List.{All, AllZip}
use Rattle.wasmi_arena.specs.Geometry.{size, start, max_len, fewest, room}
use Rattle.wasmi_arena.specs.StableVec.{filled_parts}
use Rattle.wasmi_arena.proofs.Doubling.{size_pos, size-suc, size_allowed, below_of_start}
use Rattle.wasmi_arena.proofs.FilledParts.{AreParts, AreParts-filled_parts}
use Rattle.wasmi_arena.proofs.Apart.{fewest_start}

module _ {T : Type 0} (is_clone : T → T → Type 0) where
  AllZip-append : (xs zs ys ws : List T) → AllZip is_clone xs ys → AllZip is_clone zs ws → AllZip is_clone (xs ++ zs) (ys ++ ws)
  AllZip-append [] zs [] ws first then = then
  AllZip-append [] zs (y ∷ ys) ws first then = absurd first
  AllZip-append (x ∷ xs) zs [] ws first then = absurd first
  AllZip-append (x ∷ xs) zs (y ∷ ys) ws first then = (first.0, AllZip-append xs zs ys ws first.1 then)

  -- where each clone is its item, the clones are the items
  pub clones_equal : ((x y : T) → is_clone x y → y ≡ x) → (items clones : List T) → AllZip is_clone items clones → clones ≡ items
  clones_equal same [] [] cloned = refl
  clones_equal same [] (y ∷ ys) cloned = absurd cloned
  clones_equal same (x ∷ xs) [] cloned = absurd cloned
  clones_equal same (x ∷ xs) (y ∷ ys) cloned = let head = same x y cloned.0 in let tail = clones_equal same xs ys cloned.1 in cc

  -- the first of these items have their clones, which fill the first b buckets where items are left, and these are the parts of those
  pub record IsCloned (items : List T) (parts : List (List T)) (made : List T) : Type 0 where
    pub first : List T
    pub rest : List T
    pub whole : items ≡ first ++ rest
    pub few : length items ≤ max_len
    pub clones : AllZip is_clone first made
    pub next : ℕ
    pub parts_are : AreParts (size next) rest parts
    pub full : 0 < length rest → length made ≡ start next

  pub cloned_none : (items : List T) → length items ≤ max_len → IsCloned items (filled_parts items) []
  cloned_none items few = record { first = []; rest = items; whole = refl; few = few; clones = tt; next = 0; parts_are = AreParts-filled_parts items few; full = λ some. refl }

  -- where no part is left all items have their clones
  pub cloned_all : {items : List T} {parts : List (List T)} {made : List T} → IsCloned items parts made → parts ≡ [] → AllZip is_clone items made
  cloned_all {items} {parts} {made} so_far none =
      let no_rest : so_far.rest ≡ [] = subst (AreParts (size so_far.next) so_far.rest) none so_far.parts_are in
      let all : items ≡ so_far.first = so_far.whole ∙ (ap (λ xs. so_far.first ++ xs) no_rest ∙ append-nil so_far.first) in
      rw all so_far.clones

-- another part comes
module _ {T : Type 0} {is_clone : T → T → Type 0} {items part made : List T} {parts left : List (List T)} (so_far : IsCloned is_clone items parts made) (came : parts ≡ part ∷ left) where
  are : AreParts (size so_far.next) so_far.rest (part ∷ left)
  are = subst (AreParts (size so_far.next) so_far.rest) came so_far.parts_are

  length-part : length part ≡ min (size so_far.next) (length so_far.rest)
  length-part = ap length are.1 ∙ length-take (size so_far.next) so_far.rest

  counted : length items ≡ length made + length so_far.rest
  counted = omega (arith, ap length so_far.whole, length-append so_far.first so_far.rest, length_all_zip is_clone so_far.first made so_far.clones)

  begins : length made ≡ start so_far.next
  begins = so_far.full are.0

  bucket_exists : so_far.next < 27
  bucket_exists = let some = are.0 in below_of_start so_far.next 27 (length items) (omega (arith, counted, begins)) so_far.few

  fewest_made : fewest (length made) ≡ so_far.next
  fewest_made = ap fewest begins ∙ fewest_start so_far.next (le_of_lt bucket_exists)

  -- so there are items
  pub part_some : items ≡ [] → ⊥
  part_some none = let some = are.0 in omega (arith, counted, ap length none)

  pub part_bucket : fewest (length made) < 27
  part_bucket = rw fewest_made bucket_exists

  pub part_size : (capacity : ℕ) → capacity ≡ size (fewest (length made)) → (0 < capacity) × (capacity < 2 ^ 63)
  part_size capacity is = size_allowed (fewest (length made)) capacity part_bucket is

  pub part_fits : length part ≤ size (fewest (length made))
  part_fits = rw fewest_made (omega (arith, length-part))

  -- the next bucket holds its clones, and goes behind the others
  pub part_appended : (clones : List T) → AllZip is_clone part clones
      → (room (length made) ≡ 0) × (length made + length part ≤ max_len) × (0 < length part) × (length part ≤ size (fewest (length made))) × (length part ≡ length clones)
  part_appended clones each =
      let some = are.0 in let end : start (fewest (length made)) ≡ start so_far.next = ap start fewest_made in (
        omega (arith, begins),
        omega (arith, counted, length-part, so_far.few),
        omega (arith, length-part, size_pos so_far.next),
        part_fits,
        length_all_zip is_clone part clones each,
      )

  -- what holds of all items holds of those of the part
  pub part_all : (P : T → Type 0) → All P items → All P part
  part_all P all =
      let rest : drop (length so_far.first) items ≡ so_far.rest = ap (drop (length so_far.first)) so_far.whole ∙ drop-append_seam so_far.first so_far.rest in
      subst (All P) (sym are.1) (All-take P (size so_far.next) so_far.rest (subst (All P) rest (All-drop P (length so_far.first) items all)))

  -- and has its clones
  pub cloned_next : (clones : List T) → AllZip is_clone part clones → IsCloned is_clone items left (made ++ clones)
  cloned_next clones each = record {
    first = so_far.first ++ part;
    rest = drop (size so_far.next) so_far.rest;
    whole = so_far.whole ∙ (ap (λ (xs : List T). so_far.first ++ xs) (sym (take-append-drop (size so_far.next) so_far.rest) ∙ ap (λ (xs : List T). xs ++ drop (size so_far.next) so_far.rest) (sym are.1))
        ∙ sym (append_assoc so_far.first part (drop (size so_far.next) so_far.rest)));
    few = so_far.few;
    clones = AllZip-append is_clone so_far.first part made clones so_far.clones each;
    next = so_far.next + 1;
    parts_are = rw (add-one so_far.next, size-suc so_far.next) are.2;
    full = λ some. rw (add-one so_far.next) (omega (arith, begins, length-append made clones, length_all_zip is_clone part clones each, length-part, length-drop (size so_far.next) so_far.rest));
  }
