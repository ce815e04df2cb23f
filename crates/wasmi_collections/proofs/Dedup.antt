-- Facts on the values handed in to a deduplicating arena, and on its index.
-- for src/arena/dedup.rt, src/arena/dedup/, src/laws/strings.rt
use Rattle.std.proofs.Common.{All, ◌≡◌, ℕ, ◌+◌, ◌<◌, ◌≤◌, suc, Bool, true, false, cond, List, [], ◌∷◌, ◌++◌, length, length-append, map, MatchOption, Option, Some, None, option_map, find, filter_map, position, slice_get, nat_eq, IsPermutation, refl, sym, ap, ◌∙◌, subst, is_some, eqb-true, ◌||◌, true≢false, arith}
use Rattle.std.specs.Cmp.{IsEquivalence}
use Rattle.std.specs.Map.{set_value}
use Rattle.std.specs.List.{AllByRecursion, IsDistinct, list_any, position_from, range_with_len, cons_option}
use Rattle.std.proofs.lemmas.Bool.{eqb-false}
use Rattle.std.proofs.lemmas.Iterator.Adapters.{position_from-zero}
use Rattle.std.proofs.lemmas.List.Sorted.{length_permutation, list_any-IsPermutation, All-permutation, IsPermutation-push_more, IsPermutation-refl}
use Rattle.std.proofs.lemmas.List.Elements.{All-nil, All-cons, All-head, All-tail}
use Rattle.std.proofs.lemmas.Map.Keys.{IsDistinct-cons, IsDistinct-head, IsDistinct-tail}
use Rattle.wasmi_arena.specs.Keys.{Keys, KeyLaw}
use Rattle.wasmi_interner.proofs.Symbols.{found_last}
use Rattle.wasmi_map_specs.specs.Maps.{value_at, ChangesAt}
use Rattle.wasmi_collections.specs.Dedup.{keyed_from, keyed, value_numbered, in_order, IsIndex, DedupState, AllocatesValue, AllocatesEach}

-- a value behind a list is found before it where it is
module _ {T : Type 0} (p : T → Bool) (x : T) where
  found_before : (i : ℕ) (xs : List T) → p x ≡ false → position_from p i (xs ++ x ∷ []) ≡ position_from p i xs
  found_before i [] miss = ap (λ b. cond b (Some i) None) miss
  found_before i (y ∷ ys) miss = ap (λ (o : Option ℕ). cond (p y) (Some i) o) (found_before (i + 1) ys miss)

-- values that are equal where their views are, are found where their views are
module _ {T V : Type 0} (eq : V → V → Bool) (view : T → V) (x : T) where
  by_view_from : (i : ℕ) (xs : List T) → position_from (λ y. eq (view x) (view y)) i xs ≡ position_from (eq (view x)) i (map view xs)
  by_view_from i [] = refl
  by_view_from i (y ∷ ys) = ap (cond (eq (view x) (view y)) (Some i)) (by_view_from (i + 1) ys)

  pub position-by_view : (xs : List T) → position (λ y. eq (view x) (view y)) xs ≡ position (eq (view x)) (map view xs)
  position-by_view xs =
      position_from-zero (λ y. eq (view x) (view y)) xs
      ∙ (by_view_from 0 xs ∙ sym (position_from-zero (eq (view x)) (map view xs)))

module _ {T : Type 0} {eq : T → T → Bool} (laws : IsEquivalence eq) where
  -- equal values are found alike
  pub position-congr : (v w : T) → eq v w ≡ true → (xs : List T) → position_from (eq v) 0 xs ≡ position_from (eq w) 0 xs
  position-congr v w same xs = λ i. position_from (λ x. laws.congr v w x same i) 0 xs

  pub all_differ : (v : T) (i : ℕ) (xs : List T) → position_from (eq v) i xs ≡ None → AllByRecursion (λ x. eq v x ≡ false) xs
  all_differ v i [] none = tt
  all_differ v i (x ∷ xs) none = next (eq v x) refl none (all_differ v (i + 1) xs)
    where
      next : (b : Bool) → eq v x ≡ b → cond b (Some i) (position_from (eq v) (i + 1) xs) ≡ None
          → (position_from (eq v) (i + 1) xs ≡ None → AllByRecursion (λ y. eq v y ≡ false) xs)
          → (eq v x ≡ false) × AllByRecursion (λ y. eq v y ≡ false) xs
      next true is none rest = absurd (true≢false (ap is_some none))
      next false is none rest = (is, rest none)

  differs_too : (v x : T) (xs : List T) → eq v x ≡ false → AllByRecursion (λ y. eq x y ≡ false) xs → AllByRecursion (λ y. eq x y ≡ false) (xs ++ v ∷ [])
  differs_too v x [] other all = (laws.symm x v ∙ other, tt)
  differs_too v x (y ∷ ys) other all = (all.0, differs_too v x ys other all.1)

  -- the values stay distinct when one that is new goes to the end
  distinct_push : (v : T) (xs : List T) → IsDistinct eq xs → AllByRecursion (λ x. eq v x ≡ false) xs → IsDistinct eq (xs ++ v ∷ [])
  distinct_push v [] distinct other = IsDistinct-cons eq v [] tt distinct
  distinct_push v (x ∷ xs) distinct other =
      IsDistinct-cons eq x (xs ++ v ∷ []) (differs_too v x xs other.0 (IsDistinct-head eq x xs distinct)) (distinct_push v xs (IsDistinct-tail eq x xs distinct) other.1)

module _ {K T : Type 0} (keys : Keys K) where
  keyed_from-push : (i : ℕ) (xs : List T) (x : T) → keyed_from keys i (xs ++ x ∷ []) ≡ keyed_from keys i xs ++ (x, keys.key (i + length xs)) ∷ []
  keyed_from-push i [] x = ap (λ n. (x, keys.key n) ∷ []) (omega arith)
  keyed_from-push i (y ∷ ys) x =
      ap (λ (es : List (T × K)). (y, keys.key i) ∷ es) (keyed_from-push (i + 1) ys x ∙ ap (λ n. keyed_from keys (i + 1) ys ++ (x, keys.key n) ∷ []) (omega arith))

  length-keyed_from : (i : ℕ) (xs : List T) → length (keyed_from keys i xs) ≡ length xs
  length-keyed_from i [] = refl
  length-keyed_from i (x ∷ xs) = ap suc (length-keyed_from (i + 1) xs)

  module _ (law : KeyLaw keys) (all : List T) where
    -- the entry is beside the key of its place in the whole list
    abbrev IsPlaced : T × K → Type 0
    IsPlaced e = slice_get all (keys.number e.1) ≡ Some e.0

    each_placed : (i : ℕ) (xs : List T) → ((j : ℕ) → slice_get xs j ≡ slice_get all (i + j)) → i + length xs ≤ keys.count → All IsPlaced (keyed_from keys i xs)
    each_placed i [] reads few = All-nil IsPlaced
    each_placed i (x ∷ xs) reads few =
        All-cons IsPlaced (x, keys.key i) (keyed_from keys (i + 1) xs)
        (ap (slice_get all) (law.numbered i (omega (arith, few))) ∙ (ap (slice_get all) (omega arith) ∙ sym (reads 0)))
        (each_placed (i + 1) xs (λ j. reads (suc j) ∙ ap (slice_get all) (omega arith)) (omega (arith, few)))

    has_number : (n i : ℕ) (xs : List T) → i ≤ n → n < i + length xs → i + length xs ≤ keys.count → list_any (λ (e : T × K). nat_eq (keys.number e.1) n) (keyed_from keys i xs) ≡ true
    has_number n i [] low high few = absurd (omega (arith, low, high))
    has_number n i (x ∷ xs) low high few = next (nat_eq (keys.number (keys.key i)) n) refl (has_number n (i + 1) xs)
      where
        next : (b : Bool) → nat_eq (keys.number (keys.key i)) n ≡ b
            → (i + 1 ≤ n → n < i + 1 + length xs → i + 1 + length xs ≤ keys.count → list_any (λ (e : T × K). nat_eq (keys.number e.1) n) (keyed_from keys (i + 1) xs) ≡ true)
            → (b || list_any (λ (e : T × K). nat_eq (keys.number e.1) n) (keyed_from keys (i + 1) xs)) ≡ true
        next true is rest = refl
        next false is rest = rest (let at = law.numbered i (omega (arith, few)) in let other = eqb-false (keys.number (keys.key i)) n is in omega (arith, low, at, other)) (omega (arith, high)) (omega (arith, few))

    numbered_is : (n : ℕ) (es : List (T × K)) → All IsPlaced es → list_any (λ (e : T × K). nat_eq (keys.number e.1) n) es ≡ true → value_numbered keys es n ≡ slice_get all n
    numbered_is n [] placed there = absurd (true≢false (sym there))
    numbered_is n (e ∷ es) placed there = next (nat_eq (keys.number e.1) n) refl there (numbered_is n es (All-tail IsPlaced e es placed))
      where
        next : (b : Bool) → nat_eq (keys.number e.1) n ≡ b → (b || list_any (λ (e : T × K). nat_eq (keys.number e.1) n) es) ≡ true
            → (list_any (λ (e : T × K). nat_eq (keys.number e.1) n) es ≡ true → value_numbered keys es n ≡ slice_get all n)
            → option_map (λ e. e.0) (cond b (Some e) (find (λ e. nat_eq (keys.number e.1) n) es)) ≡ slice_get all n
        next true is there rest = sym (All-head IsPlaced e es placed) ∙ ap (slice_get all) (eqb-true (keys.number e.1) n is)
        next false is there rest = rest there

    gathered : (f : ℕ → Option T) (i : ℕ) (xs : List T) → ((j : ℕ) → j < length xs → f (i + j) ≡ slice_get xs j) → filter_map f (range_with_len i (length xs)) ≡ xs
    gathered f i [] reads = refl
    gathered f i (x ∷ xs) reads =
        ap (λ o. cons_option o (filter_map f (range_with_len (i + 1) (length xs)))) (ap f (omega arith) ∙ reads 0 (omega arith))
        ∙ ap (λ (ys : List T). x ∷ ys) (gathered f (i + 1) xs (λ j low. ap f (omega arith) ∙ reads (suc j) (omega (arith, low))))

    -- an index has the value of each place under its number,
    pub numbered_at : (index : List (T × K)) → IsPermutation (keyed keys all) index → length all ≤ keys.count → (n : ℕ) → n < length all → value_numbered keys index n ≡ slice_get all n
    numbered_at index same few n low =
        numbered_is n index
        (All-permutation IsPlaced (keyed keys all) index same (each_placed 0 all (λ k. ap (slice_get all) (omega arith)) (omega (arith, few))))
        (sym (list_any-IsPermutation (λ (e : T × K). nat_eq (keys.number e.1) n) (keyed keys all) index same) ∙ has_number n 0 all (omega arith) (omega (arith, low)) (omega (arith, few)))

    -- and so has its values in the order of their keys
    pub in_order-keyed : (index : List (T × K)) → IsPermutation (keyed keys all) index → length all ≤ keys.count → in_order keys index ≡ all
    in_order-keyed index same few =
        ap (λ n. filter_map (value_numbered keys index) (range_with_len 0 n)) (length_permutation (keyed keys all) index same ∙ length-keyed_from 0 all)
        ∙ gathered (value_numbered keys index) 0 all (λ j low.
        ap (value_numbered keys index) (omega arith) ∙ numbered_at index same few j low)

-- An index into which a new value was put.
module _ {K T : Type 0} (keys : Keys K) {eq : T → T → Bool} (laws : IsEquivalence eq) (handed : List T) (index : List (T × K)) (value : T)
    (key : K) (is : IsIndex keys eq handed index) (new : position (eq value) handed ≡ None) (next_key : key ≡ keys.key (length handed)) where
  none_found : position_from (eq value) 0 handed ≡ None
  none_found = sym (position_from-zero (eq value) handed) ∙ new

  finds_more : (after : List (T × K)) → ChangesAt eq index value (Some key) after → (q : T) → value_at eq after q ≡ option_map keys.key (position (eq q) (handed ++ value ∷ []))
  finds_more after changes q = changes q ∙ (next (eq value q) refl ∙ ap (option_map keys.key) (sym (position_from-zero (eq q) (handed ++ value ∷ []))))
    where
      next : (b : Bool) → eq value q ≡ b → cond b (Some key) (value_at eq index q) ≡ option_map keys.key (position_from (eq q) 0 (handed ++ value ∷ []))
      next true same = ap Some next_key ∙ (ap (λ n. Some (keys.key n)) (omega arith) ∙ sym (ap (option_map keys.key) (found_last (eq q) value 0 handed (sym (position-congr laws value q same handed) ∙ none_found) (laws.symm q value ∙ same))))
      next false other = is.finds q ∙ ap (option_map keys.key) (position_from-zero (eq q) handed ∙ sym (found_before (eq q) value 0 handed (laws.symm q value ∙ other)))

  pub IsIndex-push : (after : List (T × K)) → ChangesAt eq index value (Some key) after → IsPermutation ((value, key) ∷ index) after → IsIndex keys eq (handed ++ value ∷ []) after
  IsIndex-push after changes more = record {
    distinct = distinct_push laws value handed is.distinct (all_differ laws value 0 handed none_found);
    entries_are = subst (λ es. IsPermutation es after) (sym (keyed_from-push keys 0 handed value ∙ ap (λ k. keyed keys handed ++ (value, k) ∷ []) (ap keys.key (omega arith) ∙ sym next_key))) (IsPermutation-push_more (keyed keys handed) index after (value, key) is.entries_are more);
    finds = finds_more after changes;
  }

-- an index of nothing
pub IsIndex-nil : {K T : Type 0} (keys : Keys K) (eq : T → T → Bool) → IsIndex keys eq [] []
unfolding IsDistinct
IsIndex-nil keys eq = record { distinct = tt; entries_are = IsPermutation-refl []; finds = λ value. refl }

-- a map takes a key that is new to it in among its entries
pub entries-inserted : {K T : Type 0} (eq : T → T → Bool) (index after : List (T × K)) (value : T) (key : K) (old : Option K) → old ≡ value_at eq index value → value_at eq index value ≡ None
    → MatchOption old (IsPermutation ((value, key) ∷ index) after) (λ _. after ≡ set_value (eq value) index key) → IsPermutation ((value, key) ∷ index) after
entries-inserted eq index after value key None is none entered = entered
entries-inserted eq index after value key (Some other) is none entered = absurd (true≢false (ap is_some (is ∙ none)))

-- one more of each
pub length-pushed : {T : Type 0} (xs ys : List T) (x y : T) → length xs ≡ length ys → length (xs ++ x ∷ []) ≡ length (ys ++ y ∷ [])
length-pushed xs ys x y same = omega (arith, same, length-append xs (x ∷ []), length-append ys (y ∷ []))

pub pushed_le : {T : Type 0} (xs : List T) (x : T) (n count : ℕ) → length xs ≡ n → n < count → length (xs ++ x ∷ []) ≤ count
pushed_le xs x n count same low = omega (arith, same, low, length-append xs (x ∷ []))

map-none : {X Y : Type 0} (f : X → Y) (o : Option X) → None ≡ option_map f o → o ≡ None
map-none f None none = refl
map-none f (Some x) none = absurd (true≢false (sym (ap is_some none)))

-- a value that an index doesn't find isn't among those handed in
pub position-absent : {K T : Type 0} (keys : Keys K) (eq : T → T → Bool) (handed : List T) (index : List (T × K)) (value : T) → IsIndex keys eq handed index → value_at eq index value ≡ None → position (eq value) handed ≡ None
position-absent keys eq handed index value is none = map-none keys.key (position (eq value) handed) (sym none ∙ is.finds value)

-- and so of the index of an arena
pub index-absent : {K T : Type 0} (keys : Keys K) (eq : T → T → Bool) (index : List (T × K)) (items : ℕ) (value : T)
    → IsIndex keys eq (in_order keys index) index × (length (in_order keys index) ≡ items) × (items ≤ keys.count) → None ≡ value_at eq index value → position (eq value) (in_order keys index) ≡ None
index-absent keys eq index items value keeps none = position-absent keys eq (in_order keys index) index value keeps.0 (sym none)

module _ {K T : Type 0} (keys : Keys K) (eq : T → T → Bool) (clones : T → T → Type 0) where
  pub AllocatesEach-push : (old : DedupState T) (values : List T) (middle : DedupState T) (value : T) (key : K) (new : DedupState T) → AllocatesEach keys eq clones old values middle
      → AllocatesValue keys eq clones middle value key new → AllocatesEach keys eq clones old (values ++ value ∷ []) new
  AllocatesEach-push old [] middle value key new each more = (key, new, subst (λ state. AllocatesValue keys eq clones state value key new) each more, refl)
  AllocatesEach-push old (v ∷ values) middle value key new each more = (each.0, each.1, each.2, AllocatesEach-push each.1 values middle value key new each.3 more)
