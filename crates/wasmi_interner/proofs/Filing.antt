-- Facts on the index of an interner: the rest in order, and where each text is filed.
-- for src/index.rt, src/sought.rt, src/string_interner.rt
use Rattle.std.proofs.Common.{◌≡◌, ◌≢◌, ℕ, zero, suc, ◌+◌, ◌<◌, ◌≤◌, ◌⊎◌, ◌↔◌, Bool, true, false, true≢false, ◌||◌, List, [], ◌∷◌, ◌++◌, length, take, drop, map, replicate, get_or, set, Some, None, option_map, slice_get, refl, sym, ap, subst, ◌∙◌, inl, inr, arith, Ordering, Less, Equal, Greater, nat_eq}
use Rattle.std.specs.Cmp.{IsTotalOrder, Equal-is, nat_cmp_total, on_total, then_total, unsigned_ties}
use Rattle.std.specs.List.{All, AllByRecursion, Contains, IsDistinct, insert, list_any}
use Rattle.std.specs.List.Sorted.{IsStrictlySortedBy}
use Rattle.std.specs.Ordering.{nat_cmp, eq_by_cmp, ordering_reverse, ordering_then}
use Rattle.std.proofs.lemmas.Bool.{cases_eq, cases_lt, eq-eqb, eqb-true}
use Rattle.std.proofs.lemmas.Bool.Decides.{eqb_tells}
use Rattle.std.proofs.lemmas.List.{get_or_append_left, get_or-set_other, get_or-set_same, get_or_push, length_push, length-append, length-map, length-replicate, length-set, map-append, take-map, drop-map}
use Rattle.std.proofs.lemmas.List.Edits.{get_or-insert_above, get_or-insert_at, get_or-insert_below, length-insert}
use Rattle.std.proofs.lemmas.List.Elements.{All-append, All-cons, All-drop, All-head, All-nil, All-set, All-tail, All-take, All-weaker}
use Rattle.std.proofs.lemmas.Map.Keys.{sorted_head, sorted_tail, IsDistinct-from_sorted, IsDistinct-head, IsDistinct-cons, IsDistinct-tail}
use Rattle.std.proofs.lemmas.Map.Steps.{length-le_from_distinct_below}
use Rattle.std.proofs.lemmas.Option.{none-some, same_Some, slice_get-map, slice_get_within, slice_get-get_or, get_or_from_slice_get}
use Rattle.wasmi_interner.specs.inner.Hash.{hash_of}
use Rattle.wasmi_interner.specs.inner.Index.{hash_cmp, text_at, order_with, orders_with, IsEntryOf, IsSlotOf, IsRestOf, IsFiled, IsIndexOf, IsReady, Inserts, Carries}
use Rattle.wasmi_interner.specs.Interner.{symbol_of, AreDistinctTexts}
use Rattle.wasmi_interner.specs.LenOrder.{len_cmp}
use Rattle.wasmi_interner.proofs.LengthOrder.{len_cmp-Equal}
use Rattle.wasmi_interner.specs.LenOrderLaws.{len_cmp_total}
use Rattle.wasmi_interner.specs.inner.RestBlocks.{RestState}
use Rattle.wasmi_interner.specs.Search.{IsSearchable}
use Rattle.wasmi_interner.specs.inner.HashTable.{HashTableState, IsGap, IsTaken, Puts, is_empty_slot, is_marker, gap, one, rest, says, met_in, with_slot}
use Rattle.wasmi_interner.specs.declared.entry.Entry.{Entry}
use Rattle.wasmi_interner.specs.declared.index.Vacancy.{Vacancy}
use Rattle.wasmi_interner.specs.declared.index.Vacancy.TheVariants.{Gap, Beside, Rest}
use Rattle.wasmi_interner.proofs.Meeting.{found_in, says_one, says_some}
use Rattle.wasmi_interner.proofs.Symbols.{distinct-push, symbol_of-at}

-- ---- texts by hash and length

pub hash_cmp_total : IsTotalOrder hash_cmp
hash_cmp_total = then_total (on_total hash_of nat_cmp_total) len_cmp_total

second_equal : (first second : Ordering) → ordering_then first second ≡ Equal → second ≡ Equal
second_equal Less second is = absurd (cc)
second_equal Equal second is = is
second_equal Greater second is = absurd (cc)

nat_cmp-same : (n : ℕ) → nat_cmp n n ≡ Equal
nat_cmp-same n = (Equal-is (nat_cmp n n)).0 (sym (unsigned_ties n n) ∙ eq-eqb n n refl)

pub hash_cmp-Equal : (x y : List ℕ) → (hash_cmp x y ≡ Equal) ↔ (x ≡ y)
hash_cmp-Equal x y = (
  λ is. (len_cmp-Equal x y).0 (second_equal (nat_cmp (hash_of x) (hash_of y)) (len_cmp x y) is),
  λ same. ap (λ z. hash_cmp x z) (sym same) ∙ (ap (λ o. ordering_then o (len_cmp x x)) (nat_cmp-same (hash_of x)) ∙ (len_cmp-Equal x x).1 refl),
)

-- how each of these texts compares with another
abbrev orders_by : List ℕ → List (List ℕ) → List Ordering
orders_by text texts = map (λ other. hash_cmp other text) texts

turned : (x y : List ℕ) → hash_cmp x y ≡ Less → hash_cmp y x ≡ Greater
turned x y less = hash_cmp_total.antisymm y x ∙ ap ordering_reverse less

turned_back : (x y : List ℕ) → hash_cmp x y ≡ Greater → hash_cmp y x ≡ Less
turned_back x y greater = hash_cmp_total.antisymm y x ∙ ap ordering_reverse greater

module _ (text : List ℕ) where
  -- all of these are greater than the text
  all_greater : (texts : List (List ℕ)) → AllByRecursion (λ other. hash_cmp text other ≡ Less) texts → orders_by text texts ≡ replicate (length texts) Greater
  all_greater [] above = refl
  all_greater (x ∷ xs) above = λ i. turned text x above.0 i ∷ all_greater xs above.1 i

  above_too : (x : List ℕ) (xs : List (List ℕ)) → hash_cmp text x ≡ Less → AllByRecursion (λ other. hash_cmp x other ≡ Less) xs → AllByRecursion (λ other. hash_cmp text other ≡ Less) xs
  above_too x [] less above = tt
  above_too x (y ∷ ys) less above = (hash_cmp_total.trans text x y less above.0, above_too x ys less above.1)

  -- ascending texts can be searched
  searchable : (texts : List (List ℕ)) → IsStrictlySortedBy hash_cmp texts → IsSearchable (orders_by text texts)
  searchable [] sorted = record { less = 0; is_there = false; greater = 0; orders_are = refl }
  searchable (x ∷ xs) sorted =
      next (hash_cmp x text) refl (searchable xs (sorted_tail hash_cmp x xs sorted))
    where
      above : AllByRecursion (λ other. hash_cmp x other ≡ Less) xs
      above = sorted_head hash_cmp x xs sorted

      next : (order : Ordering) → hash_cmp x text ≡ order → IsSearchable (orders_by text xs) → IsSearchable (order ∷ orders_by text xs)
      next Less is others = record {
        less = suc others.less;
        is_there = others.is_there;
        greater = others.greater;
        orders_are = ap (λ (orders : List Ordering). Less ∷ orders) others.orders_are;
      }
      next Equal is others = record {
        less = 0;
        is_there = true;
        greater = length xs;
        orders_are = ap (λ (orders : List Ordering). Equal ∷ orders) (all_greater xs (rw ((hash_cmp-Equal x text).0 is) at above));
      }
      next Greater is others = record {
        less = 0;
        is_there = false;
        greater = suc (length xs);
        orders_are = ap (λ (orders : List Ordering). Greater ∷ orders) (all_greater xs (above_too x xs (turned_back x text is) above));
      }

  above_all : (greater : ℕ) (texts : List (List ℕ)) → orders_by text texts ≡ replicate greater Greater → AllByRecursion (λ other. hash_cmp text other ≡ Less) texts
  above_all greater [] orders = tt
  above_all zero (x ∷ xs) orders = absurd (cc)
  above_all (suc greater) (x ∷ xs) orders = (turned_back x text (cc), above_all greater xs (cc))

  below_too : (x : List ℕ) (less : ℕ) (xs : List (List ℕ)) → hash_cmp x text ≡ Less → AllByRecursion (λ other. hash_cmp x other ≡ Less) xs → AllByRecursion (λ other. hash_cmp x other ≡ Less) (insert xs less text)
  below_too x zero xs less above = (less, above)
  below_too x (suc n) [] less above = (less, above)
  below_too x (suc n) (y ∷ ys) less above = (above.0, below_too x n ys less above.1)

  -- the text goes after those that are less
  ascending_insert : (less greater : ℕ) (texts : List (List ℕ)) → orders_by text texts ≡ replicate less Less ++ replicate greater Greater → IsStrictlySortedBy hash_cmp texts → IsStrictlySortedBy hash_cmp (insert texts less text)
  unfolding IsStrictlySortedBy
  ascending_insert zero greater texts orders sorted = (above_all greater texts orders, sorted)
  ascending_insert (suc less) greater [] orders sorted = absurd (cc)
  ascending_insert (suc less) greater (x ∷ xs) orders sorted =
      (below_too x less xs (cc) sorted.0, ascending_insert less greater xs (cc) sorted.1)

pub no_equal : (less greater i : ℕ) → slice_get (replicate less Less ++ replicate greater Greater) i ≡ Some Equal → ⊥
no_equal zero zero i at = none-some Equal at
no_equal zero (suc greater) zero at = absurd (cc)
no_equal zero (suc greater) (suc i) at = no_equal zero greater i at
no_equal (suc less) greater zero at = absurd (cc)
no_equal (suc less) greater (suc i) at = no_equal less greater i at

-- ---- entries

module _ (texts : List (List ℕ)) (hash : ℕ) (text : List ℕ) where
  -- an entry that doesn't differ from a text is its entry
  pub text_of_equal : (entry : Entry) → entry.symbol < length texts → order_with texts hash text entry ≡ Equal → slice_get texts entry.symbol ≡ Some text
  text_of_equal entry within is =
      slice_get-get_or texts entry.symbol [] within
      ∙ ap Some ((len_cmp-Equal (text_at texts entry) text).0 (second_equal (nat_cmp entry.hash hash) (len_cmp (text_at texts entry) text) is))

  -- and the other way round, where the hashes are one
  pub equal_of_text : (entry : Entry) → entry.hash ≡ hash → slice_get texts entry.symbol ≡ Some text → order_with texts hash text entry ≡ Equal
  equal_of_text entry same at =
      ap (λ h. ordering_then (nat_cmp h hash) (len_cmp (text_at texts entry) text)) same
      ∙ (ap (λ o. ordering_then o (len_cmp (text_at texts entry) text)) (nat_cmp-same hash)
      ∙ (len_cmp-Equal (text_at texts entry) text).1 (get_or_from_slice_get texts entry.symbol text [] at))

  module _ (hashed : hash ≡ hash_of text) where
    -- the hash of an entry is that of its text
    pub orders_are : (entries : List Entry) → All (IsEntryOf texts) entries → orders_with texts hash text entries ≡ orders_by text (map (text_at texts) entries)
    orders_are [] each = refl
    orders_are (e ∷ es) each =
        let head : order_with texts hash text e ≡ hash_cmp (text_at texts e) text =
        (λ i. ordering_then (nat_cmp ((All-head (IsEntryOf texts) e es each).hash i) (hashed i)) (len_cmp (text_at texts e) text)) in
        λ i. head i ∷ orders_are es (All-tail (IsEntryOf texts) e es each) i

    pub rest_searchable : (entries : List Entry) → IsRestOf texts entries → IsSearchable (orders_with texts hash text entries)
    rest_searchable entries is = rw (orders_are entries is.each) (searchable text (map (text_at texts) entries) is.ascending)

    -- an entry goes after those that are less
    pub rest_insert : (entries : List Entry) → IsRestOf texts entries → (entry : Entry) → IsEntryOf texts entry → text_at texts entry ≡ text
        → (less greater : ℕ) → orders_with texts hash text entries ≡ replicate less Less ++ replicate greater Greater → IsRestOf texts (insert entries less entry)
    rest_insert entries is entry its same less greater orders =
        let read : Entry → List ℕ = text_at texts in
        let moved : map read (insert entries less entry) ≡ insert (map read entries) less text =
        map-append read (take less entries) (entry ∷ drop less entries) ∙ (λ i. sym (take-map read less entries) i ++ same i ∷ sym (drop-map read less entries) i) in
        record {
          each = All-append (IsEntryOf texts) (take less entries) (entry ∷ drop less entries) (All-take (IsEntryOf texts) less entries is.each)
              (All-cons (IsEntryOf texts) entry (drop less entries) its (All-drop (IsEntryOf texts) less entries is.each));
          ascending = rw moved (ascending_insert text less greater (map read entries) (sym (orders_are entries is.each) ∙ orders) is.ascending);
        }

    -- where no entry is equal, the text has none
    pub rest_without : (entries : List Entry) → All (IsEntryOf texts) entries → (less greater : ℕ) → orders_with texts hash text entries ≡ replicate less Less ++ replicate greater Greater
        → (s : ℕ) → slice_get texts s ≡ Some text → Contains (map (λ e. e.symbol) entries) s → ⊥
    rest_without entries each less greater orders s at there =
        let within : there.0 < length entries = omega (arith, there.1, length-map entries (λ (e : Entry). e.symbol)) in
        let entry : Entry = get_or entries there.0 (record { hash = 0; symbol = 0 }) in
        let reads : slice_get entries there.0 ≡ Some entry = slice_get-get_or entries there.0 (record { hash = 0; symbol = 0 }) within in
        let symbol : entry.symbol ≡ s = same_Some entry.symbol s (sym (slice_get-map (λ (e : Entry). e.symbol) entries there.0 ∙ ap (option_map (λ (e : Entry). e.symbol)) reads)
        ∙ (slice_get-get_or (map (λ (e : Entry). e.symbol) entries) there.0 s there.1 ∙ ap Some there.2)) in
        let its = each there.0 (record { hash = 0; symbol = 0 }) within in
        let here : slice_get texts entry.symbol ≡ Some text = ap (slice_get texts) symbol ∙ at in
        let same : entry.hash ≡ hash = its.hash ∙ (ap hash_of (get_or_from_slice_get texts entry.symbol text [] here) ∙ sym hashed) in
        no_equal less greater there.0 (ap (λ os. slice_get os there.0) (sym orders)
        ∙ (slice_get-map (order_with texts hash text) entries there.0 ∙ (ap (option_map (order_with texts hash text)) reads ∙ ap Some (equal_of_text entry same here))))

-- ---- one more text

module _ (texts : List (List ℕ)) (text : List ℕ) where
  abbrev more : List (List ℕ)
  more = texts ++ text ∷ []

  -- what was a text stays the same
  kept_text : (symbol : ℕ) → symbol < length texts → get_or more symbol [] ≡ get_or texts symbol []
  kept_text symbol within = get_or_append_left texts (text ∷ []) [] symbol within

  longer : (entry : Entry) → IsEntryOf texts entry → IsEntryOf more entry
  longer entry is = record {
    within = omega (arith, is.within, length_push texts text);
    hash = is.hash ∙ ap hash_of (sym (kept_text entry.symbol is.within));
  }

  texts_kept : (entries : List Entry) → All (IsEntryOf texts) entries → map (text_at more) entries ≡ map (text_at texts) entries
  texts_kept [] each = refl
  texts_kept (e ∷ es) each =
      let first = kept_text e.symbol (All-head (IsEntryOf texts) e es each).within in
      λ i. first i ∷ texts_kept es (All-tail (IsEntryOf texts) e es each) i

  rest_longer : (entries : List Entry) → IsRestOf texts entries → IsRestOf more entries
  rest_longer entries is = record {
    each = All-weaker (IsEntryOf texts) (IsEntryOf more) longer entries is.each;
    ascending = rw (texts_kept entries is.each) is.ascending;
  }

  orders_kept : (hash : ℕ) (other : List ℕ) (entries : List Entry) → All (IsEntryOf texts) entries → orders_with more hash other entries ≡ orders_with texts hash other entries
  orders_kept hash other [] each = refl
  orders_kept hash other (e ∷ es) each =
      let first = ap (λ t. ordering_then (nat_cmp e.hash hash) (len_cmp t other)) (kept_text e.symbol (All-head (IsEntryOf texts) e es each).within) in
      λ i. first i ∷ orders_kept hash other es (All-tail (IsEntryOf texts) e es each) i

  -- the new one
  new_entry : (entry : Entry) → entry.symbol ≡ length texts → entry.hash ≡ hash_of text → IsEntryOf more entry
  new_entry entry last same = record {
    within = omega (arith, last, length_push texts text);
    hash = same ∙ ap hash_of (sym (get_or_push texts text [] entry.symbol (sym last)));
  }

-- ---- no more entries than texts

distinct_by : (read : ℕ → List ℕ) (symbols : List ℕ) → IsDistinct (eq_by_cmp hash_cmp) (map read symbols) → IsDistinct nat_eq symbols
unfolding IsDistinct
distinct_by read [] is = tt
distinct_by read (s ∷ ss) is =
    IsDistinct-cons nat_eq s ss (differs ss (IsDistinct-head (eq_by_cmp hash_cmp) (read s) (map read ss) is)) (distinct_by read ss (IsDistinct-tail (eq_by_cmp hash_cmp) (read s) (map read ss) is))
  where
    differs : (others : List ℕ) → AllByRecursion (λ y. eq_by_cmp hash_cmp (read s) y ≡ false) (map read others) → AllByRecursion (λ o. nat_eq s o ≡ false) others
    differs [] all = tt
    differs (o ∷ os) all = (
      elim (eqb_tells s o) [
        | inl same ↦ absurd (true≢false (sym ((Equal-is (hash_cmp (read s) (read o))).1 ((hash_cmp-Equal (read s) (read o)).1 (ap read same.1))) ∙ all.0))
        | inr other ↦ other.0
      ],
      differs os all.1,
    )

below_all : (n : ℕ) (symbols : List ℕ) → AllByRecursion (λ s. s < n) symbols → (q : ℕ) → list_any (nat_eq q) symbols ≡ true → q < n
below_all n [] all q is = absurd (true≢false (sym is))
below_all n (s ∷ ss) all q is = next (nat_eq q s) refl is (below_all n ss all.1 q)
  where
    next : (b : Bool) → nat_eq q s ≡ b → (b || list_any (nat_eq q) ss) ≡ true → (list_any (nat_eq q) ss ≡ true → q < n) → q < n
    next true same is others = rw (eqb-true q s same) all.0
    next false other is others = others is

symbols_below : (texts : List (List ℕ)) (entries : List Entry) → All (IsEntryOf texts) entries → AllByRecursion (λ s. s < length texts) (map (λ e. e.symbol) entries)
symbols_below texts [] each = tt
symbols_below texts (e ∷ es) each = ((All-head (IsEntryOf texts) e es each).within, symbols_below texts es (All-tail (IsEntryOf texts) e es each))

map_of : (read : ℕ → List ℕ) (entries : List Entry) → map read (map (λ e. e.symbol) entries) ≡ map (λ e. read e.symbol) entries
map_of read [] = refl
map_of read (e ∷ es) = λ i. read e.symbol ∷ map_of read es i

pub rest_few : (texts : List (List ℕ)) (entries : List Entry) → IsRestOf texts entries → length entries ≤ length texts
rest_few texts entries is =
    let read : ℕ → List ℕ = λ s. get_or texts s [] in
    let symbols : List ℕ = map (λ (e : Entry). e.symbol) entries in
    let distinct : IsDistinct nat_eq symbols = distinct_by read symbols (subst (IsDistinct (eq_by_cmp hash_cmp)) (sym (map_of read entries)) (IsDistinct-from_sorted hash_cmp (map (text_at texts) entries) is.ascending)) in
    omega (arith, length-le_from_distinct_below symbols (length texts) distinct (below_all (length texts) symbols (symbols_below texts entries is.each)), length-map entries (λ (e : Entry). e.symbol))

-- ---- where a text is filed

module _ (texts : List (List ℕ)) (table : HashTableState) (entries : List Entry) (is : IsIndexOf texts table entries) (text : List ℕ) where
  filed_hash : (s : ℕ) → slice_get texts s ≡ Some text → (met_in table (hash_of text) ≡ one s) ⊎ ((met_in table (hash_of text) ≡ rest) × Contains (map (λ e. e.symbol) entries) s)
  filed_hash s at =
      let reads : get_or texts s [] ≡ text = get_or_from_slice_get texts s text [] at in
      subst (λ t. (met_in table (hash_of t) ≡ one s) ⊎ ((met_in table (hash_of t) ≡ rest) × Contains (map (λ e. e.symbol) entries) s)) reads (is.filed s (slice_get_within texts s text at))

  -- where nothing is met for its hash, it isn't there
  pub not_at_gap : met_in table (hash_of text) ≡ gap → (s : ℕ) → slice_get texts s ≢ Some text
  not_at_gap met s at = elim (filed_hash s at) [
    | inl there ↦ absurd (cc)
    | inr apart ↦ (let other = apart.0 in absurd (cc))
  ]

  -- where a symbol is, it has no other
  pub only_one : (symbol : ℕ) → met_in table (hash_of text) ≡ one symbol → (s : ℕ) → slice_get texts s ≡ Some text → s ≡ symbol
  only_one symbol met s at = elim (filed_hash s at) [
    | inl there ↦ (cc)
    | inr apart ↦ (let other = apart.0 in absurd (cc))
  ]

  -- else it is in the rest
  pub in_rest : met_in table (hash_of text) ≡ rest → (s : ℕ) → slice_get texts s ≡ Some text → Contains (map (λ e. e.symbol) entries) s
  in_rest met s at = elim (filed_hash s at) [
    | inl there ↦ absurd (cc)
    | inr apart ↦ apart.1
  ]

-- what stands at a place doesn't hang on what would stand there for nothing
get_or_default : (xs : List Entry) (k : ℕ) (d e : Entry) → k < length xs → get_or xs k d ≡ get_or xs k e
get_or_default xs k d e within = same_Some (get_or xs k d) (get_or xs k e) (sym (slice_get-get_or xs k d within) ∙ slice_get-get_or xs k e within)

-- ---- one entry by itself

module _ (texts : List (List ℕ)) (hash : ℕ) (text : List ℕ) where
  -- where the hashes are one, an entry compares as its text does
  pub order_of_text : (entry : Entry) (other : List ℕ) (n : ℕ) → nat_cmp entry.hash hash ≡ Equal → n ≡ entry.symbol → slice_get texts n ≡ Some other → order_with texts hash text entry ≡ len_cmp other text
  order_of_text entry other n same at reads =
      ap (λ o. ordering_then o (len_cmp (text_at texts entry) text)) same
      ∙ ap (λ t. len_cmp t text) (ap (λ k. get_or texts k []) (sym at) ∙ get_or_from_slice_get texts n other [] reads)

-- ---- what a search of the rest finds

module _ (texts : List (List ℕ)) (hash : ℕ) (text : List ℕ) (entries : List Entry) where
  pub found_within : (rank : ℕ) → slice_get (orders_with texts hash text entries) rank ≡ Some Equal → rank < length entries
  found_within rank is = omega (arith, slice_get_within (orders_with texts hash text entries) rank Equal is, length-map entries (order_with texts hash text))

  pub found_text : All (IsEntryOf texts) entries → (rank : ℕ) (entry : Entry) → slice_get (orders_with texts hash text entries) rank ≡ Some Equal → slice_get entries rank ≡ Some entry → slice_get texts entry.symbol ≡ Some text
  found_text each rank entry is at =
      let its : IsEntryOf texts entry = subst (IsEntryOf texts) (get_or_from_slice_get entries rank entry entry at) (each rank entry (slice_get_within entries rank entry at)) in
      text_of_equal texts hash text entry its.within
      (same_Some (order_with texts hash text entry) Equal (sym (slice_get-map (order_with texts hash text) entries rank ∙ ap (option_map (order_with texts hash text)) at) ∙ is))

-- the rank where a text belongs is within
pub rank_within : (texts : List (List ℕ)) (hash : ℕ) (text : List ℕ) (entries : List Entry) (less greater : ℕ) → orders_with texts hash text entries ≡ replicate less Less ++ replicate greater Greater → less ≤ length entries
rank_within texts hash text entries less greater is =
    omega (arith, ap length is, length-append (replicate less Less) (replicate greater Greater), length-replicate less Less, length-map entries (order_with texts hash text))

-- among distinct texts the entry that is found for one's own text is one's own
pub found_own : (texts : List (List ℕ)) (entries : List Entry) → AreDistinctTexts texts → All (IsEntryOf texts) entries → (entry : Entry) → entry.symbol < length texts
    → (rank : ℕ) → slice_get (orders_with texts entry.hash (text_at texts entry) entries) rank ≡ Some Equal → Contains (map (λ e. e.symbol) entries) entry.symbol
found_own texts entries distinct each entry within rank is =
    let text = text_at texts entry in
    let below = found_within texts entry.hash text entries rank is in
    let d : Entry = record { hash = 0; symbol = 0 } in
    let other : Entry = get_or entries rank d in
    let at : slice_get entries rank ≡ Some other = slice_get-get_or entries rank d below in
    let one_place = symbol_of-at text texts entry.symbol distinct (slice_get-get_or texts entry.symbol [] within) in
    let place = symbol_of-at text texts other.symbol distinct (found_text texts entry.hash text entries each rank other is at) in
    let same : other.symbol ≡ entry.symbol = same_Some other.symbol entry.symbol (sym place ∙ one_place) in
    let read : slice_get (map (λ (e : Entry). e.symbol) entries) rank ≡ Some entry.symbol = slice_get-map (λ (e : Entry). e.symbol) entries rank ∙ (ap (option_map (λ (e : Entry). e.symbol)) at ∙ ap Some same) in
    (rank, omega (arith, below, length-map entries (λ (e : Entry). e.symbol)), get_or_from_slice_get (map (λ (e : Entry). e.symbol) entries) rank entry.symbol entry.symbol read)

-- the entry of a slot that is met
pub taken_entry : (texts : List (List ℕ)) (table : HashTableState) (hash place : ℕ) (is : IsTaken table hash place) → All (IsSlotOf texts) table.slots → (slot : Entry) → slice_get table.slots place ≡ Some slot
    → IsEntryOf texts slot × (slot ≡ record { hash = hash; symbol = is.symbol })
taken_entry texts table hash place is each slot at =
    let same : slot ≡ record { hash = hash; symbol = is.symbol } = same_Some slot (record { hash = hash; symbol = is.symbol }) (sym at ∙ is.there) in
    let reads : get_or table.slots place slot ≡ slot = get_or_from_slice_get table.slots place slot slot at in
    (subst (IsEntryOf texts) reads (each place slot is.within (ap is_empty_slot (reads ∙ same) ∙ is.full) (ap is_marker (reads ∙ same) ∙ is.plain)), same)

-- ---- slots that are put into others

-- what is there then was there, or was put there
set_contains : (xs : List Entry) (place : ℕ) (slot x : Entry) → Contains (set xs place slot) x → (x ≡ slot) ⊎ Contains xs x
set_contains xs place slot x there = elim (cases_eq there.0 place) [
  | inl here ↦ inl (sym there.2 ∙ (ap (λ k. get_or (set xs place slot) k x) here ∙ get_or-set_same xs place slot x (omega (arith, there.1, here, length-set xs place slot))))
  | inr elsewhere ↦ inr (there.0, omega (arith, there.1, length-set xs place slot), sym (get_or-set_other xs place there.0 slot x elsewhere) ∙ there.2)
]

pub put_contains : (old : HashTableState) (slot : Entry) (new : HashTableState) → Puts old slot new → (x : Entry) → Contains new.slots x → (x ≡ slot) ⊎ Contains old.slots x
put_contains old slot new puts x there = elim puts.same [
  | inl same ↦ inr (subst (λ (t : HashTableState). Contains t.slots x) same there)
  | inr set_one ↦ set_contains old.slots set_one.0 slot x (subst (λ (t : HashTableState). Contains t.slots x) set_one.1 there)
]

-- what is met for a slot stays so
pub put_kept : (old : HashTableState) (slot : Entry) (new : HashTableState) → Puts old slot new → (other : Entry) → met_in old other.hash ≡ says other → met_in new other.hash ≡ says other
put_kept old slot new puts other is = puts.others other.hash (λ none. says_some other (sym is ∙ none)) ∙ is

-- so a table has what another has, once all slots of that one are put to it, and a marker for each entry of the rest
pub all_carried : (old : HashTableState) (entries : List Entry) (new : HashTableState)
    → ((k : ℕ) (d : Entry) → k < length old.slots → is_empty_slot (get_or old.slots k d) ≡ false → met_in new (get_or old.slots k d).hash ≡ says (get_or old.slots k d))
    → All (λ entry. met_in new entry.hash ≡ rest) entries
    → ((slot : Entry) → is_empty_slot slot ≡ false → is_marker slot ≡ false → Contains new.slots slot → Contains old.slots slot) → Carries old entries new
all_carried old entries new slots rests within = record {
  ones = λ hash symbol is.
      let r = found_in old hash symbol is in
      let at = r.3 r.0 in
      ap (met_in new) (sym (ap (λ (e : Entry). e.hash) at ∙ r.4))
      ∙ (slots r.1 r.0 r.2 (ap is_empty_slot at ∙ r.6) ∙ (ap says at ∙ (says_one r.0 r.7 ∙ ap one r.5)));
  rests = rests;
  slots = within;
}

-- ---- what changes an index

abbrev symbols : List Entry → List ℕ
symbols entries = map (λ e. e.symbol) entries

symbols_insert : (entries : List Entry) (rank : ℕ) (entry : Entry) → symbols (insert entries rank entry) ≡ insert (symbols entries) rank entry.symbol
symbols_insert entries rank entry =
    let read : Entry → ℕ = λ e. e.symbol in
    map-append read (take rank entries) (entry ∷ drop rank entries) ∙ (λ i. sym (take-map read rank entries) i ++ read entry ∷ sym (drop-map read rank entries) i)

-- a symbol that goes in is there, and the others stay
module _ (entries : List Entry) (rank : ℕ) (entry : Entry) (within : rank ≤ length entries) where
  fits : rank ≤ length (symbols entries)
  fits = omega (arith, within, length-map entries (λ (e : Entry). e.symbol))

  pub has_new : Contains (symbols (insert entries rank entry)) entry.symbol
  has_new = rw (symbols_insert entries rank entry) (
    rank,
    omega (arith, fits, length-insert (symbols entries) rank entry.symbol fits),
    get_or-insert_at (symbols entries) rank entry.symbol entry.symbol fits,
  )

  pub has_old : (s : ℕ) → Contains (symbols entries) s → Contains (symbols (insert entries rank entry)) s
  has_old s there = rw (symbols_insert entries rank entry) (elim (cases_lt there.0 rank) [
    | inl before ↦ (there.0, omega (arith, there.1, length-insert (symbols entries) rank entry.symbol fits), get_or-insert_below (symbols entries) rank entry.symbol s there.0 before fits ∙ there.2)
    | inr behind ↦ (there.0 + 1, omega (arith, there.1, length-insert (symbols entries) rank entry.symbol fits), get_or-insert_above (symbols entries) rank entry.symbol s there.0 behind fits ∙ there.2)
  ])

-- a slot with the symbol of a text is no marker
no_marker : (slot : Entry) (n : ℕ) → slot.symbol ≡ n → n < 4294967294 → is_marker slot ≡ false
no_marker slot n is few = elim (eqb_tells slot.symbol 4294967294) [
  | inl same ↦ absurd (omega (arith, same.1, is, few))
  | inr other ↦ other.0
]

not_empty : (slot : Entry) (n : ℕ) → slot.symbol ≡ n → n < 4294967294 → is_empty_slot slot ≡ false
not_empty slot n is few = elim (eqb_tells slot.symbol 4294967295) [
  | inl same ↦ absurd (omega (arith, same.1, is, few))
  | inr other ↦ other.0
]

marker_is_slot : (texts : List (List ℕ)) (slot : Entry) → is_marker slot ≡ true → IsSlotOf texts slot
marker_is_slot texts slot mark = λ full none. absurd (true≢false (sym mark ∙ none))

module _ (texts : List (List ℕ)) (table : HashTableState) (entries : List Entry) (is : IsIndexOf texts table entries) where
  abbrev hash_at : ℕ → ℕ
  hash_at s = hash_of (get_or texts s [])

  -- a marker in place of a symbol that is there sends to the rest
  pub marked_taken : (hash place : ℕ) (is_taken : IsTaken table hash place) (others : List Entry) → IsRestOf texts others
      → ((s : ℕ) → Contains (symbols entries) s → Contains (symbols others) s) → Contains (symbols others) is_taken.symbol
      → (slot : Entry) → slot.hash ≡ hash → is_marker slot ≡ true → IsIndexOf texts (with_slot table place slot) others
  marked_taken hash place is_taken others rest_is old new slot same mark = record {
    distinct = is.distinct;
    slots = All-set (IsSlotOf texts) table.slots place slot (marker_is_slot texts slot mark) is.slots;
    rest = rest_is;
    filed = λ s within. elim (cases_eq (hash_at s) hash) [
      | inl here ↦
          let now : met_in (with_slot table place slot) (hash_at s) ≡ rest = ap (met_in (with_slot table place slot)) here ∙ is_taken.marked slot same mark in
          let was : met_in table (hash_at s) ≡ one is_taken.symbol = ap (met_in table) here ∙ is_taken.now in
          elim (is.filed s within) [
            | inl there ↦ (let which : is_taken.symbol ≡ s = cc in inr (now, subst (Contains (symbols others)) which new))
            | inr apart ↦ (let met = apart.0 in absurd (cc))
          ]
      | inr elsewhere ↦
          let kept = is_taken.others slot (hash_at s) same mark elsewhere in
          elim (is.filed s within) [
            | inl there ↦ inl (kept ∙ there)
            | inr apart ↦ inr (kept ∙ apart.0, old s apart.1)
          ]
    ];
  }

  -- a wider table that has the same
  pub carried : (wider : HashTableState) → Carries table entries wider → IsIndexOf texts wider entries
  carried wider carries = record {
    distinct = is.distinct;
    slots = λ k d within full none.
        let slot = get_or wider.slots k d in
        let from = carries.slots slot full none (k, within, get_or_default wider.slots k slot d within) in
        subst (IsSlotOf texts) from.2 (is.slots from.0 slot from.1) full none;
    rest = is.rest;
    filed = λ s within. elim (is.filed s within) [
      | inl there ↦ inl (carries.ones (hash_at s) s there)
      | inr apart ↦
          let at = apart.1 in
          let d : Entry = record { hash = 0; symbol = 0 } in
          let below : at.0 < length entries = omega (arith, at.1, length-map entries (λ (e : Entry). e.symbol)) in
          let symbol : (get_or entries at.0 d).symbol ≡ s = same_Some _ s (sym (slice_get-map (λ (e : Entry). e.symbol) entries at.0 ∙ ap (option_map (λ (e : Entry). e.symbol)) (slice_get-get_or entries at.0 d below))
          ∙ (slice_get-get_or (symbols entries) at.0 s at.1 ∙ ap Some at.2)) in
          let hash : (get_or entries at.0 d).hash ≡ hash_at s = (is.rest.each at.0 d below).hash ∙ ap hash_at symbol in
          inr (ap (met_in wider) (sym hash) ∙ carries.rests at.0 d below, at)
    ];
  }

  module _ (text : List ℕ) (absent : symbol_of texts text ≡ None) (entry : Entry) (last : entry.symbol ≡ length texts) (hashed : entry.hash ≡ hash_of text) where
    abbrev all : List (List ℕ)
    all = texts ++ text ∷ []

    slots_longer : All (IsSlotOf all) table.slots
    slots_longer = All-weaker (IsSlotOf texts) (IsSlotOf all) (λ slot its full none. longer texts text slot (its full none)) table.slots is.slots

    -- what is filed stays so
    filed_longer : (wider : HashTableState) (others : List Entry) → ((hash : ℕ) → (met_in table hash ≡ gap → ⊥) → met_in wider hash ≡ met_in table hash) → ((s : ℕ) → Contains (symbols entries) s → Contains (symbols others) s)
        → IsFiled all wider others (length texts) → (s : ℕ) → s < length all → IsFiled all wider others s
    filed_longer wider others kept old new s within = elim (cases_lt s (length texts)) [
      | inl before ↦
          let hash : hash_of (get_or all s []) ≡ hash_at s = ap hash_of (kept_text texts text s before) in
          elim (is.filed s before) [
            | inl there ↦ inl (ap (met_in wider) hash ∙ (kept (hash_at s) (λ none. (cc)) ∙ there))
            | inr apart ↦ (let met = apart.0 in inr (ap (met_in wider) hash ∙ (kept (hash_at s) (λ none. (cc)) ∙ met), old s apart.1))
          ]
      | inr at_end ↦
          let here : length texts ≡ s = omega (arith, at_end, within, length_push texts text) in
          subst (IsFiled all wider others) here new
    ]

    new_hash : hash_of (get_or all (length texts) []) ≡ hash_of text
    new_hash = ap hash_of (get_or_push texts text [] (length texts) refl)

    -- a new text goes into an empty slot
    pub filled_gap : (place : ℕ) → IsGap table (hash_of text) place → length texts < 4294967294 → IsIndexOf all (with_slot table place entry) entries
    filled_gap place is_gap few =
        let says_so : met_in (with_slot table place entry) (hash_of text) ≡ one entry.symbol =
        is_gap.filled entry hashed (not_empty entry (length texts) last few) ∙ rw (no_marker entry (length texts) last few) refl in
        record {
          distinct = distinct-push text texts is.distinct absent;
          slots = All-set (IsSlotOf all) table.slots place entry (λ full none. new_entry texts text entry last hashed) slots_longer;
          rest = rest_longer texts text entries is.rest;
          filed = filed_longer (with_slot table place entry) entries (λ hash some. is_gap.others entry hash some) (λ s there. there)
              (inl (ap (met_in (with_slot table place entry)) new_hash ∙ (says_so ∙ ap one last)));
        }

    -- or into the rest
    pub rest_new : met_in table (hash_of text) ≡ rest → (rank greater : ℕ) → rank ≤ length entries
        → orders_with texts (hash_of text) text entries ≡ replicate rank Less ++ replicate greater Greater → IsIndexOf all table (insert entries rank entry)
    rest_new met rank greater within orders = record {
      distinct = distinct-push text texts is.distinct absent;
      slots = slots_longer;
      rest = rest_insert all (hash_of text) text refl entries (rest_longer texts text entries is.rest) entry (new_entry texts text entry last hashed) (get_or_push texts text [] entry.symbol (sym last))
          rank greater (orders_kept texts text (hash_of text) text entries is.rest.each ∙ orders);
      filed = filed_longer table (insert entries rank entry) (λ hash some. refl) (has_old entries rank entry within)
          (inr (ap (met_in table) new_hash ∙ met, subst (Contains (symbols (insert entries rank entry))) last (has_new entries rank entry within)));
    }

-- an index of no texts
pub no_index : (table : HashTableState) (entries : List Entry) → table.slots ≡ [] → entries ≡ [] → IsIndexOf [] table entries
unfolding IsDistinct IsStrictlySortedBy
no_index table entries none without = record {
  distinct = tt;
  slots = rw none (All-nil (IsSlotOf []));
  rest = rw without (record { each = All-nil (IsEntryOf []); ascending = tt });
  filed = λ s within. absurd (omega (arith, within));
}

-- a new text's entry that is put to its place makes an index with that text
pub inserted : (texts : List (List ℕ)) (table : HashTableState) (others : RestState) → IsIndexOf texts table others.entries → (text : List ℕ) → symbol_of texts text ≡ None
    → (entry : Entry) → entry.symbol ≡ length texts → entry.hash ≡ hash_of text → (hash : ℕ) → hash ≡ hash_of text → (place : Vacancy) → IsReady texts table others hash text place
    → (new : HashTableState) (entries : List Entry) → Inserts table others.entries place entry new entries → IsIndexOf (texts ++ text ∷ []) new entries
inserted texts table others is text absent entry last hashed hash same (Gap place) ready new entries puts =
    rw (puts.0, puts.1) (filled_gap texts table others.entries is text absent entry last hashed place (subst (λ h. IsGap table h place) same ready.0) ready.1)
inserted texts table others is text absent entry last hashed hash same (Beside place) ready new entries puts = absurd ready
inserted texts table others is text absent entry last hashed hash same (Rest rank) ready new entries puts =
    rw (puts.0, puts.1) (rest_new texts table others.entries is text absent entry last hashed (ap (met_in table) (sym same) ∙ ready.0) rank ready.4 ready.3
    (ap (λ h. orders_with texts h text others.entries) (sym same) ∙ ready.5))
