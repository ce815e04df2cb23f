-- What the keys of a deduplicating arena read, and how values are found by them.
-- for src/arena/dedup.rt, src/arena/dedup/by_text.rt, src/arena/dedup/replace.rt, src/laws/dedup.rt
use Rattle.std.proofs.Common.{All, ◌≡◌, ℕ, zero, suc, ◌+◌, ◌<◌, ◌≤◌, ◌==◌, Bool, true, false, cond, List, [], ◌∷◌, ◌++◌, length, map, Option, Some, None, IfSome, IfOk, OnErr, Result, Ok, Err, option_map, position, get_or, slice_get, refl, sym, ap, subst, ◌∙◌, is_some, true≢false, arith}
use Rattle.std.specs.Cmp.{IsEquivalence}
use Rattle.std.specs.List.{AllByRecursion, IsDistinct, position_from}
use Rattle.std.proofs.lemmas.Bool.{false_from_ne_true}
use Rattle.std.proofs.lemmas.Bool.Decides.{Decides-eqb, same_from_decides}
use Rattle.std.proofs.lemmas.Iterator.Adapters.{position_from-zero}
use Rattle.std.proofs.lemmas.List.{map-append}
use Rattle.std.proofs.lemmas.List.Elements.{All-head, All-tail}
use Rattle.std.proofs.lemmas.List.Quantifiers.{position-Some}
use Rattle.std.proofs.lemmas.Map.Keys.{IsDistinct-head, IsDistinct-tail}
use Rattle.std.proofs.lemmas.Option.{none-some, same_Some, slice_get-get_or}
use Rattle.wasmi_arena.specs.Keys.{Keys, KeyLaw}
use Rattle.wasmi_collections.specs.Dedup.{DedupState, AddsValue}
use Rattle.wasmi_collections.proofs.DedupRuns.{hits}

-- what is found first is there, and passes
pub position-reads : {T : Type 0} (p : T → Bool) (xs : List T) (k : ℕ) → position p xs ≡ Some k → option_map p (slice_get xs k) ≡ Some true
position-reads p xs k is =
    let hit = hits p 0 k xs (sym (position_from-zero p xs) ∙ is) in let at = hit.place in let same : k ≡ hit.before = omega (arith, at) in
    ap (option_map p) (ap (slice_get xs) same ∙ hit.reads) ∙ ap Some hit.passes

-- what an index finds is at the place of the key's number
pub place_of_key : {K T : Type 0} (keys : Keys K) (law : KeyLaw keys) (eq : T → T → Bool) (handed : List T) (value : T) (key : K) → length handed ≤ keys.count
    → option_map keys.key (position (eq value) handed) ≡ Some key → position (eq value) handed ≡ Some (keys.number key)
place_of_key keys law eq handed value key few is = next (position (eq value) handed) refl is
  where
    next : (o : Option ℕ) → position (eq value) handed ≡ o → option_map keys.key o ≡ Some key → o ≡ Some (keys.number key)
    next None at is = absurd (true≢false (sym (ap is_some is)))
    next (Some p) at is =
        let hit = hits (eq value) 0 p handed (sym (position_from-zero (eq value) handed) ∙ at) in let place = hit.place in let low = hit.within in
        ap Some (sym (ap keys.number (sym (same_Some (keys.key p) key is)) ∙ law.numbered p (omega (arith, place, low, few))))

-- so what it finds reads a value that is equal to the one sought
pub reads_key : {K T : Type 0} (keys : Keys K) (law : KeyLaw keys) (eq : T → T → Bool) (handed : List T) (value : T) (found : Option K) → length handed ≤ keys.count
    → found ≡ option_map keys.key (position (eq value) handed) → IfSome found (λ key. option_map (eq value) (slice_get handed (keys.number key)) ≡ Some true)
reads_key keys law eq handed value None few is = tt
reads_key keys law eq handed value (Some key) few is = position-reads (eq value) handed (keys.number key) (place_of_key keys law eq handed value key few (sym is))

-- ---- among distinct values

at_place : {X : Type 0} (P : X → Type 0) (i : ℕ) (x : X) (xs : List X) → AllByRecursion P xs → slice_get xs i ≡ Some x → P x
at_place P i x [] all at = absurd (none-some x at)
at_place P zero x (y ∷ ys) all at = subst P (same_Some y x at) all.0
at_place P (suc i) x (y ∷ ys) all at = at_place P i x ys all.1 at

module _ {T : Type 0} {eq : T → T → Bool} (laws : IsEquivalence eq) (value : T) where
  first_place : (i k : ℕ) (xs : List T) (other : T) → IsDistinct eq xs → slice_get xs k ≡ Some other → eq value other ≡ true → position_from (eq value) i xs ≡ Some (i + k)
  first_place i k [] other distinct at same = absurd (none-some other at)
  first_place i zero (x ∷ xs) other distinct at same =
      let hit : eq value x ≡ true = ap (eq value) (same_Some x other at) ∙ same in
      rw hit (ap Some (omega arith))
  first_place i (suc k) (x ∷ xs) other distinct at same =
      let differ : eq x other ≡ false = at_place (λ y. eq x y ≡ false) k other xs (IsDistinct-head eq x xs distinct) at in
      let miss : eq value x ≡ false = laws.congr value other x same ∙ (laws.symm other x ∙ differ) in
      rw miss (first_place (i + 1) k xs other (IsDistinct-tail eq x xs distinct) at same ∙ ap Some (omega arith))

  -- a value that is equal to one at a place has that place
  pub position-alone : (xs : List T) (k : ℕ) (other : T) → IsDistinct eq xs → slice_get xs k ≡ Some other → eq value other ≡ true → position (eq value) xs ≡ Some k
  position-alone xs k other distinct at same = position_from-zero (eq value) xs ∙ (first_place 0 k xs other distinct at same ∙ ap Some (omega arith))

  module _ (values : List T) (default : T) (distinct : IsDistinct eq values) where
    -- the value at a place is equal to one where the place is that one's
    pub tested_by_place : (place k : ℕ) → position (eq value) values ≡ Some place → k < length values → eq value (get_or values k default) ≡ (place == k)
    tested_by_place place k is below =
        same_from_decides (eq value (get_or values k default)) (place == k) (
          λ same. same_Some place k (sym is ∙ position-alone values k (get_or values k default) distinct (slice_get-get_or values k default below) same),
          λ equal. subst (λ n. eq value (get_or values n default) ≡ true) equal (position-Some (eq value) values place default is).1,
        ) (Decides-eqb place k)

    -- and never where that one has none
    pub no_place_tested : (k : ℕ) → position (eq value) values ≡ None → k < length values → eq value (get_or values k default) ≡ false
    no_place_tested k none below =
        false_from_ne_true (eq value (get_or values k default)) (λ same. none-some k (sym none ∙ position-alone values k (get_or values k default) distinct (slice_get-get_or values k default below) same))

    module _ {K : Type 0} (number : K → ℕ) where
      placed : (place : ℕ) → position (eq value) values ≡ Some place → (i : ℕ) (keys : List K) → All (λ k. number k < length values) keys
          → position_from (eq value) i (map (λ k. get_or values (number k) default) keys) ≡ position_from (λ k. place == number k) i keys
      placed place is i [] within = refl
      placed place is i (k ∷ ks) within =
          rw (tested_by_place place (number k) is (All-head (λ j. number j < length values) k ks within))
          (ap (cond (place == number k) (Some i)) (placed place is (i + 1) ks (All-tail (λ j. number j < length values) k ks within)))

      pub position_by_key : (place : ℕ) → position (eq value) values ≡ Some place → (keys : List K) → All (λ k. number k < length values) keys
          → position (eq value) (map (λ k. get_or values (number k) default) keys) ≡ position (λ k. place == number k) keys
      position_by_key place is keys within =
          position_from-zero (eq value) (map (λ k. get_or values (number k) default) keys)
          ∙ (placed place is 0 keys within ∙ sym (position_from-zero (λ k. place == number k) keys))

-- ---- what was read before

-- what a place reads, it reads with more behind it
pub read_with_more : {X : Type 0} (xs ys : List X) (k : ℕ) (x : X) → slice_get xs k ≡ Some x → slice_get (xs ++ ys) k ≡ Some x
read_with_more [] ys k x at = absurd (none-some x at)
read_with_more (y ∷ xs) ys zero x at = at
read_with_more (y ∷ xs) ys (suc k) x at = read_with_more xs ys k x at

module _ {K T E : Type 0} (keys : Keys K) (eq : T → T → Bool) (clones : T → T → Type 0) (old new : DedupState T) (value : T) where
  pub items_stay : (r : Result K E) → IfOk r (λ key. AddsValue keys eq clones old value key new) → OnErr r (new ≡ old)
      → (place : ℕ) (item : T) → slice_get old.items place ≡ Some item → slice_get new.items place ≡ Some item
  items_stay (Ok key) adds same place item at = rw adds.items_are.2 (read_with_more old.items (adds.items_are.0 ∷ []) place item at)
  items_stay (Err e) adds same place item at = rw same at

  pub values_stay : (r : Result K E) → IfOk r (λ key. AddsValue keys eq clones old value key new) → OnErr r (new ≡ old)
      → (place : ℕ) (other : T) → slice_get old.handed place ≡ Some other → slice_get new.handed place ≡ Some other
  values_stay (Ok key) adds same place other at = rw adds.handed_are (read_with_more old.handed (value ∷ []) place other at)
  values_stay (Err e) adds same place other at = rw same at

  -- the same by what a value is seen as
  pub views_stay : {V : Type 0} (view : T → V) (r : Result K E) → IfOk r (λ key. AddsValue keys eq clones old value key new) → OnErr r (new ≡ old)
      → (place : ℕ) (other : V) → slice_get (map view old.handed) place ≡ Some other → slice_get (map view new.handed) place ≡ Some other
  views_stay view (Ok key) adds same place other at = rw (adds.handed_are, map-append view old.handed (value ∷ [])) (read_with_more (map view old.handed) (view value ∷ []) place other at)
  views_stay view (Err e) adds same place other at = rw same at
