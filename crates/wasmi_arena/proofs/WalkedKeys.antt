-- The keys that a walk over an arena gives read its items.
use Rattle.std.proofs.Common.{◌≡◌, ℕ, ◌<◌, ◌≤◌, List, [], ◌∷◌, length, map, sym, ◌∙◌, ap, subst, arith}
use Rattle.std.specs.Borrow.{Bor}
use Rattle.std.specs.Iterator.{Yields, YieldsFirst, YieldsFirstBy}
use Rattle.std.specs.List.{range_with_len}
use Rattle.std.specs.Prelude.{Some, slice_get}
use Rattle.std.proofs.lemmas.Option.{slice_get_within, get_or_from_slice_get}
use Rattle.std.proofs.lemmas.List.FromFn.{length-map-range_with_len, get_or-map-range_with_len}
use Rattle.wasmi_arena.specs.Keys.{Keys, KeyLaw}
use Rattle.wasmi_arena.specs.Arena.{stable_limit}
use Rattle.wasmi_arena.specs.Entries.{entries}
use Rattle.wasmi_arena.proofs.Entries.{entry_read}

-- what comes next stands behind what came
next_at : {A E : Type 0} (view : A → E) (start : List E) (seen : List A) (e : E) (now left : List E) → Yields (YieldsFirstBy view (λ es. es)) start seen now → now ≡ e ∷ left → slice_get start (length seen) ≡ Some e
next_at view start [] e now left gave next = ap (λ (es : List _). slice_get es 0) (gave ∙ next)
next_at view start (x ∷ xs) e now left gave next = ap (λ (es : List _). slice_get es (length (x ∷ xs))) gave.1 ∙ next_at view gave.0 xs e now left gave.2 next

-- what came until there was no more is what there was
pub given_all : {A E : Type 0} (view : A → E) (start : List E) (seen : List A) (now : List E) → Yields (YieldsFirstBy view (λ es. es)) start seen now → now ≡ [] → map view seen ≡ start
given_all view start [] now gave none = sym (gave ∙ none)
given_all view start (x ∷ xs) now gave none = ap (λ (es : List _). view x ∷ es) (given_all view gave.0 xs now gave.2 none) ∙ sym gave.1

module _ {K : Type 0} (keys : Keys K) (law : KeyLaw keys) where
  limit-le_count : (n : ℕ) → n ≤ stable_limit keys → n ≤ keys.count
  limit-le_count n few = omega arith

  pub walked_entry : {T : Type 0} (items : List T) (start : List (K × T)) (seen : List (K × Bor T)) (key : K) (item : T) (now left : List (K × T)) → length items ≤ stable_limit keys → start ≡ entries keys items
      → Yields (YieldsFirstBy (λ entry. (entry.0, entry.1.now)) (λ es. es)) start seen now → now ≡ (key, item) ∷ left → (keys.number key ≡ length seen) × (keys.number key < length items) × (slice_get items (keys.number key) ≡ Some item)
  walked_entry items start seen key item now left few begun gave next =
      let there = next_at (λ (entry : K × Bor _). (entry.0, entry.1.now)) start seen (key, item) now left gave next in
      let read = entry_read keys law items (length seen) (key, item) (limit-le_count (length items) few) (ap (λ (es : List (K × _)). slice_get es (length seen)) (sym begun) ∙ there) in
      (read.1, subst (λ (n : ℕ). n < length items) (sym read.1) read.0, ap (slice_get items) read.1 ∙ read.2)

  pub walked_key : (n : ℕ) (start seen : List K) (key : K) (now left : List K) → n ≤ stable_limit keys → start ≡ map keys.key (range_with_len 0 n)
      → Yields (YieldsFirst (λ ks. ks)) start seen now → now ≡ key ∷ left → keys.number key < n
  walked_key n start seen key now left few begun gave next =
      let i = length seen in
      let there = ap (λ (ks : List K). slice_get ks i) (sym begun) ∙ next_at (λ (k : K). k) start seen key now left gave next in
      let within : i < n = omega (arith, slice_get_within (map keys.key (range_with_len 0 n)) i key there, length-map-range_with_len keys.key 0 n) in
      let is : key ≡ keys.key i = sym (get_or_from_slice_get (map keys.key (range_with_len 0 n)) i key key there) ∙ get_or-map-range_with_len keys.key 0 n i i key within (omega arith) in
      let few_keys = limit-le_count n few in
      subst (λ (m : ℕ). m < n) (sym (ap keys.number is ∙ law.numbered i (omega arith))) within
