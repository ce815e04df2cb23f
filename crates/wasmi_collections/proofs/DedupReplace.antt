-- A value that takes the place of another among those handed in to a deduplicating arena, and in its index.
-- for src/arena/dedup/replace.rt, src/laws.rt
use Rattle.std.proofs.Common.{◌≡◌, ◌≢◌, ℕ, zero, suc, ◌+◌, ◌<◌, Bool, true, false, cond, not, List, [], ◌∷◌, length, Option, Some, None, option_map, filter, position, slice_get, slice_set, IsPermutation, refl, sym, ap, ◌∙◌, subst, is_some, inl, inr, true≢false, arith}
use Rattle.std.specs.Cmp.{IsEquivalence}
use Rattle.std.specs.List.{AllByRecursion, IsDistinct, position_from}
use Rattle.std.specs.Map.{keys_of, remove_entry}
use Rattle.std.proofs.lemmas.Iterator.Adapters.{position_from-zero}
use Rattle.std.proofs.lemmas.List.Sorted.{IsPermutation-refl, IsPermutation-trans, IsPermutation-sym, IsPermutation-cons, IsPermutation-middle, IsPermutation-map}
use Rattle.std.proofs.lemmas.Option.{same_Some}
use Rattle.std.proofs.lemmas.Map.Keys.{IsDistinct-cons, IsDistinct-head, IsDistinct-tail, IsDistinct-IsPermutation}
use Rattle.wasmi_arena.specs.Keys.{Keys}
use Rattle.wasmi_map_specs.specs.Maps.{value_at, ChangesAt}
use Rattle.wasmi_collections.specs.Dedup.{DedupState, keyed_from, keyed, IsIndex, AllocatesValue, ReplacesValue}
use Rattle.wasmi_collections.proofs.Dedup.{all_differ, position-congr}
use Rattle.wasmi_collections.proofs.DedupRuns.{Hits, hits}
use Rattle.wasmi_collections.proofs.Filtered.{filter-all, filter-IsPermutation, remove_entry-filter}

module _ {T : Type 0} where
  all_set : (P : T → Type 0) (n : ℕ) (xs : List T) (v : T) → AllByRecursion P xs → P v → AllByRecursion P (slice_set xs n v)
  all_set P n [] v all it = tt
  all_set P zero (x ∷ xs) v all it = (it, all.1)
  all_set P (suc n) (x ∷ xs) v all it = (all.0, all_set P n xs v all.1 it)

  all_at : (P : T → Type 0) (n : ℕ) (xs : List T) (x : T) → AllByRecursion P xs → slice_get xs n ≡ Some x → P x
  all_at P n [] x all at = absurd (true≢false (sym (ap is_some at)))
  all_at P zero (y ∷ ys) x all at = subst P (same_Some y x at) all.0
  all_at P (suc n) (y ∷ ys) x all at = all_at P n ys x all.1 at

  pub within : (n : ℕ) (xs : List T) (x : T) → slice_get xs n ≡ Some x → n < length xs
  within n [] x at = absurd (true≢false (sym (ap is_some at)))
  within zero (y ∷ ys) x at = omega arith
  within (suc n) (y ∷ ys) x at = let low = within n ys x at in omega (arith, low)

module _ {T : Type 0} (p : T → Bool) where
  -- where neither the old element nor the new one passes, the first that does stays
  set_missed : (i n : ℕ) (xs : List T) (x v : T) → slice_get xs n ≡ Some x → p x ≡ false → p v ≡ false → position_from p i (slice_set xs n v) ≡ position_from p i xs
  set_missed i n [] x v at old new = refl
  set_missed i zero (y ∷ ys) x v at old new = ap (λ b. cond b (Some i) (position_from p (i + 1) ys)) (new ∙ sym (ap p (same_Some y x at) ∙ old))
  set_missed i (suc n) (y ∷ ys) x v at old new = ap (λ (o : Option ℕ). cond (p y) (Some i) o) (set_missed (i + 1) n ys x v at old new)

  -- where none passed, the new one is found
  set_found : (i n : ℕ) (xs : List T) (v : T) → n < length xs → position_from p i xs ≡ None → p v ≡ true → position_from p i (slice_set xs n v) ≡ Some (i + n)
  set_found i n [] v low none hit = absurd (omega (arith, low))
  set_found i zero (y ∷ ys) v low none hit = ap (λ b. cond b (Some i) (position_from p (i + 1) ys)) hit ∙ ap Some (omega arith)
  set_found i (suc n) (y ∷ ys) v low none hit = next (p y) none (set_found (i + 1) n ys v (omega (arith, low)))
    where
      next : (b : Bool) → cond b (Some i) (position_from p (i + 1) ys) ≡ None
          → (position_from p (i + 1) ys ≡ None → p v ≡ true → position_from p (i + 1) (slice_set ys n v) ≡ Some (i + 1 + n))
          → cond b (Some i) (position_from p (i + 1) (slice_set ys n v)) ≡ Some (i + suc n)
      next true none rest = absurd (true≢false (ap is_some none))
      next false none rest = rest none hit ∙ ap Some (omega arith)

  -- what is found elsewhere stays, where the new one doesn't pass
  set_kept : (i k n : ℕ) (xs : List T) (v : T) → position_from p i xs ≡ Some k → k ≢ i + n → p v ≡ false → position_from p i (slice_set xs n v) ≡ Some k
  set_kept i k n [] v at apart miss = at
  set_kept i k zero (y ∷ ys) v at apart miss = next (p y) at
    where
      next : (b : Bool) → cond b (Some i) (position_from p (i + 1) ys) ≡ Some k → cond (p v) (Some i) (position_from p (i + 1) ys) ≡ Some k
      next true at = absurd (apart (sym (same_Some i k at) ∙ omega arith))
      next false at = ap (λ b. cond b (Some i) (position_from p (i + 1) ys)) miss ∙ at
  set_kept i k (suc n) (y ∷ ys) v at apart miss = next (p y) at (λ below. set_kept (i + 1) k n ys v below (λ same. apart (same ∙ omega arith)) miss)
    where
      next : (b : Bool) → cond b (Some i) (position_from p (i + 1) ys) ≡ Some k
          → (position_from p (i + 1) ys ≡ Some k → position_from p (i + 1) (slice_set ys n v) ≡ Some k)
          → cond b (Some i) (position_from p (i + 1) (slice_set ys n v)) ≡ Some k
      next true at rest = at
      next false at rest = rest at

module _ {T : Type 0} {eq : T → T → Bool} (laws : IsEquivalence eq) where
  distinct_set : (n : ℕ) (xs : List T) (v : T) → IsDistinct eq xs → AllByRecursion (λ x. eq v x ≡ false) xs → IsDistinct eq (slice_set xs n v)
  distinct_set n [] v distinct other = distinct
  distinct_set zero (x ∷ xs) v distinct other = IsDistinct-cons eq v xs other.1 (IsDistinct-tail eq x xs distinct)
  distinct_set (suc n) (x ∷ xs) v distinct other =
      IsDistinct-cons eq x (slice_set xs n v) (all_set (λ y. eq x y ≡ false) n xs v (IsDistinct-head eq x xs distinct) (laws.symm x v ∙ other.0)) (distinct_set n xs v (IsDistinct-tail eq x xs distinct) other.1)

  none_equal : (q x : T) (i : ℕ) (xs : List T) → eq q x ≡ true → AllByRecursion (λ y. eq x y ≡ false) xs → position_from (eq q) i xs ≡ None
  none_equal q x i [] same all = refl
  none_equal q x i (y ∷ ys) same all = ap (λ b. cond b (Some i) (position_from (eq q) (i + 1) ys)) (laws.congr q x y same ∙ all.0) ∙ none_equal q x (i + 1) ys same all.1

  -- an element before an equal one of a distinct list differs from both
  differs : (q x y : T) → eq q x ≡ true → eq y x ≡ false → eq q y ≡ false
  differs q x y same apart = laws.congr q x y same ∙ (laws.symm x y ∙ apart)

  -- of distinct elements, what was equal to the old one is found no more
  set_gone : (q : T) (i n : ℕ) (xs : List T) (x v : T) → IsDistinct eq xs → slice_get xs n ≡ Some x → eq q x ≡ true → eq q v ≡ false → position_from (eq q) i (slice_set xs n v) ≡ None
  set_gone q i n [] x v distinct at same apart = refl
  set_gone q i zero (y ∷ ys) x v distinct at same apart =
      ap (λ b. cond b (Some i) (position_from (eq q) (i + 1) ys)) apart ∙ none_equal q y (i + 1) ys (ap (eq q) (same_Some y x at) ∙ same) (IsDistinct-head eq y ys distinct)
  set_gone q i (suc n) (y ∷ ys) x v distinct at same apart =
      ap (λ b. cond b (Some i) (position_from (eq q) (i + 1) (slice_set ys n v))) (differs q x y same (all_at (λ z. eq y z ≡ false) n ys x (IsDistinct-head eq y ys distinct) at))
      ∙ set_gone q (i + 1) n ys x v (IsDistinct-tail eq y ys distinct) at same apart

module _ {K T : Type 0} (keys : Keys K) {eq : T → T → Bool} (laws : IsEquivalence eq) (old : T) where
  -- whether an entry is of another value
  abbrev is_other : T × K → Bool
  is_other e = not (eq old e.0)

  others_stay : (i : ℕ) (xs : List T) → AllByRecursion (λ y. eq old y ≡ false) xs → AllByRecursion (λ e. is_other e ≡ true) (keyed_from keys i xs)
  others_stay i [] all = tt
  others_stay i (x ∷ xs) all = (ap not all.0, others_stay (i + 1) xs all.1)

  equal_differ : (x : T) (xs : List T) → eq old x ≡ true → AllByRecursion (λ y. eq x y ≡ false) xs → AllByRecursion (λ y. eq old y ≡ false) xs
  equal_differ x [] same all = tt
  equal_differ x (y ∷ ys) same all = (laws.congr old x y same ∙ all.0, equal_differ x ys same all.1)

  -- the entries of the other values with that of the new one are the entries after the write
  entry_moves : (i n : ℕ) (xs : List T) (x v : T) → IsDistinct eq xs → slice_get xs n ≡ Some x → eq old x ≡ true
      → IsPermutation ((v, keys.key (i + n)) ∷ filter is_other (keyed_from keys i xs)) (keyed_from keys i (slice_set xs n v))
  entry_moves i n [] x v distinct at same = absurd (true≢false (sym (ap is_some at)))
  entry_moves i zero (y ∷ ys) x v distinct at same =
      let gone : eq old y ≡ true = ap (eq old) (same_Some y x at) ∙ same in
      let rest = keyed_from keys (i + 1) ys in
      let left : filter is_other (keyed_from keys i (y ∷ ys)) ≡ rest =
      ap (λ b. cond (not b) ((y, keys.key i) ∷ filter is_other rest) (filter is_other rest)) gone
      ∙ filter-all is_other rest (others_stay (i + 1) ys (equal_differ y ys gone (IsDistinct-head eq y ys distinct))) in
      subst (λ es. IsPermutation ((v, keys.key (i + 0)) ∷ es) ((v, keys.key i) ∷ rest)) (sym left)
      (subst (λ k. IsPermutation ((v, keys.key k) ∷ rest) ((v, keys.key i) ∷ rest)) (omega arith) (IsPermutation-refl ((v, keys.key i) ∷ rest)))
  entry_moves i (suc n) (y ∷ ys) x v distinct at same =
      let first : T × K = (y, keys.key i) in let new : T × K = (v, keys.key (i + suc n)) in
      let rest = filter is_other (keyed_from keys (i + 1) ys) in
      let after = keyed_from keys (i + 1) (slice_set ys n v) in
      let stays : eq old y ≡ false = differs laws old x y same (all_at (λ z. eq y z ≡ false) n ys x (IsDistinct-head eq y ys distinct) at) in
      let later : IsPermutation (new ∷ rest) after =
      subst (λ k. IsPermutation ((v, keys.key k) ∷ rest) after) (omega arith) (entry_moves (i + 1) n ys x v (IsDistinct-tail eq y ys distinct) at same) in
      subst (λ b. IsPermutation (new ∷ cond (not b) (first ∷ rest) rest) (first ∷ after)) (sym stays)
      (IsPermutation-trans (new ∷ first ∷ rest) (first ∷ new ∷ rest) (first ∷ after) (IsPermutation-middle (new ∷ []) first rest) (IsPermutation-cons first (new ∷ rest) after later))

keys_of-keyed_from : {K T : Type 0} (keys : Keys K) (i : ℕ) (xs : List T) → keys_of (keyed_from keys i xs) ≡ xs
keys_of-keyed_from keys i [] = refl
keys_of-keyed_from keys i (x ∷ xs) = ap (λ ys. x ∷ ys) (keys_of-keyed_from keys (i + 1) xs)

-- the value put there is found there
pub position-set_new : {T : Type 0} {eq : T → T → Bool} (laws : IsEquivalence eq) (handed : List T) (value : T) (n : ℕ) → n < length handed → position (eq value) handed ≡ None
    → position (eq value) (slice_set handed n value) ≡ Some n
position-set_new {eq = eq} laws handed value n low new =
    position_from-zero (eq value) (slice_set handed n value) ∙ (set_found (eq value) 0 n handed value low (sym (position_from-zero (eq value) handed) ∙ new) (laws.refl value) ∙ ap Some (omega arith))

-- another value that is found stays where it is
pub position-set_kept : {T : Type 0} {eq : T → T → Bool} (laws : IsEquivalence eq) (handed : List T) (value : T) (n : ℕ) → position (eq value) handed ≡ None
    → (q : T) (k : ℕ) → position (eq q) handed ≡ Some k → k ≢ n → position (eq q) (slice_set handed n value) ≡ Some k
position-set_kept {eq = eq} laws handed value n new q k at apart =
    let from_zero : position_from (eq q) 0 handed ≡ Some k = sym (position_from-zero (eq q) handed) ∙ at in
    position_from-zero (eq q) (slice_set handed n value) ∙ set_kept (eq q) 0 k n handed value from_zero (λ same. apart (same ∙ omega arith)) (next (eq value q) refl from_zero)
  where
    next : (b : Bool) → eq value q ≡ b → position_from (eq q) 0 handed ≡ Some k → eq q value ≡ false
    next true same from_zero = absurd (true≢false (sym (ap is_some (sym new ∙ (position_from-zero (eq value) handed ∙ (position-congr laws value q same handed ∙ from_zero))))))
    next false other from_zero = laws.symm q value ∙ other

-- A value that takes the place of the one at n, which `old` is equal to.
module _ {K T : Type 0} (keys : Keys K) {eq : T → T → Bool} (laws : IsEquivalence eq) (handed : List T) (distinct : IsDistinct eq handed)
    (old value : T) (n : ℕ) (there : position (eq old) handed ≡ Some n) (new : position (eq value) handed ≡ None) where
  none_found : position_from (eq value) 0 handed ≡ None
  none_found = sym (position_from-zero (eq value) handed) ∙ new

  others : AllByRecursion (λ x. eq value x ≡ false) handed
  others = all_differ laws value 0 handed none_found

  place : Hits (eq old) 0 n handed
  place = hits (eq old) 0 n handed (sym (position_from-zero (eq old) handed) ∙ there)

  -- what stood at n
  abbrev was : T
  was = place.item

  reads : slice_get handed n ≡ Some was
  reads = ap (slice_get handed) (place.place ∙ omega arith) ∙ place.reads

  value_was : eq value was ≡ false
  value_was = all_at (λ x. eq value x ≡ false) n handed was others reads

  old_value : eq old value ≡ false
  old_value = differs laws old was value place.passes value_was

  -- where a value is found after the write
  pub position-set : (q : T) → position (eq q) (slice_set handed n value) ≡ cond (eq old q) None (cond (eq value q) (Some n) (position (eq q) handed))
  position-set q = position_from-zero (eq q) (slice_set handed n value) ∙ (next (eq old q) (eq value q) refl refl ∙ ap (λ o. cond (eq old q) None (cond (eq value q) (Some n) o)) (sym (position_from-zero (eq q) handed)))
    where
      next : (a b : Bool) → eq old q ≡ a → eq value q ≡ b → position_from (eq q) 0 (slice_set handed n value) ≡ cond a None (cond b (Some n) (position_from (eq q) 0 handed))
      next true true equal same = absurd (true≢false (sym equal ∙ (laws.symm old q ∙ (sym (laws.congr value q old same) ∙ (laws.symm value old ∙ old_value)))))
      next true false equal apart =
          set_gone laws q 0 n handed was value distinct reads (laws.symm q was ∙ (sym (laws.congr old was q place.passes) ∙ equal)) (laws.symm q value ∙ apart)
      next false true apart same =
          set_found (eq q) 0 n handed value (within n handed was reads) (sym (position-congr laws value q same handed) ∙ none_found) (laws.symm q value ∙ same) ∙ ap Some (omega arith)
      next false false apart other =
          set_missed (eq q) 0 n handed was value reads (laws.symm q was ∙ (sym (laws.congr old was q place.passes) ∙ apart)) (laws.symm q value ∙ other)

  -- and what was there isn't found any more
  pub position-set_gone : (q : T) → position (eq q) handed ≡ Some n → position (eq q) (slice_set handed n value) ≡ None
  position-set_gone q at = position-set q ∙ ap (λ b. cond b None (cond (eq value q) (Some n) (position (eq q) handed))) equal
    where
      found : Hits (eq q) 0 n handed
      found = hits (eq q) 0 n handed (sym (position_from-zero (eq q) handed) ∙ at)

      same_item : Some found.item ≡ Some was
      same_item = sym found.reads ∙ (ap (slice_get handed) (sym (found.place ∙ omega arith)) ∙ reads)

      equal : eq old q ≡ true
      equal = laws.congr old was q place.passes ∙ (laws.symm was q ∙ (ap (eq q) (sym (same_Some found.item was same_item)) ∙ found.passes))

  module _ (index mid after : List (T × K)) (is : IsIndex keys eq handed index) (enters : ChangesAt eq index value (Some (keys.key n)) mid)
      (more : IsPermutation ((value, keys.key n) ∷ index) mid) (leaves : ChangesAt eq mid old None after) (less : IsPermutation (remove_entry (eq old) mid) after) where
    finds_set : (q : T) → value_at eq after q ≡ option_map keys.key (position (eq q) (slice_set handed n value))
    finds_set q = leaves q ∙ (ap (λ o. cond (eq old q) None o) (enters q ∙ ap (λ o. cond (eq value q) (Some (keys.key n)) o) (is.finds q)) ∙ (next (eq old q) (eq value q) ∙ ap (option_map keys.key) (sym (position-set q))))
      where
        next : (a b : Bool) → cond a None (cond b (Some (keys.key n)) (option_map keys.key (position (eq q) handed))) ≡ option_map keys.key (cond a None (cond b (Some n) (position (eq q) handed)))
        next true b = refl
        next false true = refl
        next false false = refl

    before_all : IsPermutation ((value, keys.key n) ∷ keyed keys handed) mid
    before_all = IsPermutation-trans ((value, keys.key n) ∷ keyed keys handed) ((value, keys.key n) ∷ index) mid (IsPermutation-cons (value, keys.key n) (keyed keys handed) index is.entries_are) more

    mid_distinct : IsDistinct eq (keys_of mid)
    mid_distinct =
        IsDistinct-IsPermutation eq laws.symm (value ∷ keys_of (keyed keys handed)) (keys_of mid) (IsPermutation-map (λ (e : T × K). e.0) ((value, keys.key n) ∷ keyed keys handed) mid before_all)
        (subst (λ xs. IsDistinct eq (value ∷ xs)) (sym (keys_of-keyed_from keys 0 handed)) (IsDistinct-cons eq value handed others distinct))

    entries_set : IsPermutation (keyed keys (slice_set handed n value)) after
    entries_set =
        let other = is_other keys laws old in
        let new_entry : T × K = (value, keys.key n) in
        let kept : filter other (new_entry ∷ keyed keys handed) ≡ new_entry ∷ filter other (keyed keys handed) =
        ap (λ b. cond (not b) (new_entry ∷ filter other (keyed keys handed)) (filter other (keyed keys handed))) old_value in
        let left : IsPermutation (new_entry ∷ filter other (keyed keys handed)) (remove_entry (eq old) mid) =
        subst (λ es. IsPermutation (new_entry ∷ filter other (keyed keys handed)) es) (sym (remove_entry-filter laws old mid mid_distinct))
        (subst (λ es. IsPermutation es (filter other mid)) kept (filter-IsPermutation other (new_entry ∷ keyed keys handed) mid before_all)) in
        let moves : IsPermutation (new_entry ∷ filter other (keyed keys handed)) (keyed keys (slice_set handed n value)) =
        subst (λ k. IsPermutation ((value, keys.key k) ∷ filter other (keyed keys handed)) (keyed keys (slice_set handed n value))) (omega arith) (entry_moves keys laws old 0 n handed was value distinct reads place.passes) in
        IsPermutation-trans (keyed keys (slice_set handed n value)) (new_entry ∷ filter other (keyed keys handed)) after (IsPermutation-sym (new_entry ∷ filter other (keyed keys handed)) (keyed keys (slice_set handed n value)) moves)
        (IsPermutation-trans (new_entry ∷ filter other (keyed keys handed)) (remove_entry (eq old) mid) after left less)

    -- an index into which the value was put, and out of which the old one was taken
    pub IsIndex-set : IsIndex keys eq (slice_set handed n value) after
    IsIndex-set = record {
      distinct = distinct_set laws n handed value distinct others;
      entries_are = entries_set;
      finds = finds_set;
    }

module _ {K T : Type 0} (keys : Keys K) {eq : T → T → Bool} (laws : IsEquivalence eq) (clones : T → T → Type 0) where
  -- a value that is there keeps its key, and a new one has the next
  pub allocates-there : (state newer : DedupState T) (value : T) (key : K) (n : ℕ) → position (eq value) state.handed ≡ Some n → AllocatesValue keys eq clones state value key newer → (key ≡ keys.key n) × (newer ≡ state)
  allocates-there state newer value key n at (inl found) = (found.2 ∙ ap keys.key (same_Some found.0 n (sym found.1 ∙ at)), found.3)
  allocates-there state newer value key n at (inr adds) = absurd (true≢false (ap is_some (sym at ∙ adds.absent)))

  pub allocates-absent : (state newer : DedupState T) (value : T) (key : K) → position (eq value) state.handed ≡ None → AllocatesValue keys eq clones state value key newer → key ≡ keys.key (length state.handed)
  allocates-absent state newer value key none (inl found) = absurd (true≢false (ap is_some (sym found.1 ∙ none)))
  allocates-absent state newer value key none (inr adds) = adds.key_is

  -- after a value took the place of another, it is found there
  pub replaces-known : (old new : DedupState T) (key : K) (value there : T) → length old.handed ≡ length old.items → ReplacesValue keys eq clones old key value there new → position (eq value) new.handed ≡ Some (keys.number key)
  replaces-known old new key value there same (inl puts) = rw puts.1.handed_are puts.0
  replaces-known old new key value there same (inr moves) =
      let low = within (keys.number key) old.items there moves.there_is in
      rw moves.handed_are (position-set_new laws old.handed value (keys.number key) (omega (arith, low, same)) moves.absent)

  -- and the other is found no more
  pub replaces-gone : (old new : DedupState T) (key : K) (value there was : T) → IsDistinct eq old.handed → ReplacesValue keys eq clones old key value there new
      → position (eq was) old.handed ≡ Some (keys.number key) → eq value was ≡ false → position (eq was) new.handed ≡ None
  replaces-gone old new key value there was distinct (inl puts) at apart =
      let one = hits (eq value) 0 (keys.number key) old.handed (sym (position_from-zero (eq value) old.handed) ∙ puts.0) in
      let other = hits (eq was) 0 (keys.number key) old.handed (sym (position_from-zero (eq was) old.handed) ∙ at) in
      let at_one = one.place in let at_other = other.place in
      let item : one.item ≡ other.item = same_Some one.item other.item (sym one.reads ∙ (ap (slice_get old.handed) (omega (arith, at_one, at_other)) ∙ other.reads)) in
      let equal : eq value was ≡ true = laws.congr value other.item was (ap (eq value) (sym item) ∙ one.passes) ∙ (laws.symm other.item was ∙ other.passes) in
      absurd (true≢false (sym equal ∙ apart))
  replaces-gone old new key value there was distinct (inr moves) at apart =
      rw moves.handed_are (position-set_gone keys laws old.handed distinct was value (keys.number key) at moves.absent was at)
