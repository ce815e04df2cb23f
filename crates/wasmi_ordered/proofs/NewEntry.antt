-- An entry whose key is new goes in among the others.
-- for src/map.rt, src/map/try_insert.rt
use Rattle.std.proofs.Common.{◌≡◌, arith, length, cond, true≢false, List, [], ◌∷◌, Some, None, is_some, Result, Ok, Err, OnOk, ap, sym, subst, Ordering, Less, Equal, Greater}
use Rattle.std.specs.BTreeMap.{insert_entry}
use Rattle.std.specs.List.Sorted.{IsPermutation}
use Rattle.std.specs.Map.{lookup}
use Rattle.std.specs.Ordering.{eq_by_cmp, is_eq, match_ordering}
use Rattle.std.proofs.lemmas.Option.{none-some, same_Some}
use Rattle.std.proofs.lemmas.List.Sorted.{IsPermutation-cons, IsPermutation-middle, IsPermutation-refl, IsPermutation-trans}

module _ {K V : Type 0} (cmp : K → K → Ordering) (k : K) (v : V) where
  pub entries_with_new : (entries : List (K × V)) → lookup (eq_by_cmp cmp k) entries ≡ None → IsPermutation ((k, v) ∷ entries) (insert_entry cmp entries k v)
  entries_with_new [] none = IsPermutation-refl ((k, v) ∷ [])
  entries_with_new (e ∷ es) none = next (cmp k e.0) none (entries_with_new es)
    where
      next : (o : Ordering) → cond (is_eq o) (Some e.1) (lookup (eq_by_cmp cmp k) es) ≡ None
          → (lookup (eq_by_cmp cmp k) es ≡ None → IsPermutation ((k, v) ∷ es) (insert_entry cmp es k v))
          → IsPermutation ((k, v) ∷ e ∷ es) (match_ordering o ((k, v) ∷ e ∷ es) ((e.0, v) ∷ es) (e ∷ insert_entry cmp es k v))
      next Less none rest = IsPermutation-refl ((k, v) ∷ e ∷ es)
      next Equal none rest = absurd (true≢false (ap is_some none))
      next Greater none rest =
          IsPermutation-trans ((k, v) ∷ e ∷ es) (e ∷ (k, v) ∷ es) (e ∷ insert_entry cmp es k v)
          (IsPermutation-middle ((k, v) ∷ []) e es) (IsPermutation-cons e ((k, v) ∷ es) (insert_entry cmp es k v) (rest none))

-- where a call puts it in, the entries are these
pub put_among : {X R E : Type 0} (r : Result R E) (before inserted after : List X) → OnOk r (after ≡ inserted) → IsPermutation before inserted → OnOk r (IsPermutation before after)
put_among (Ok x) before inserted after is among = subst (IsPermutation before) (sym is) among
put_among (Err e) before inserted after is among = tt

-- a value that is put where it is changes nothing, if there are as many entries afterwards
pub put_again : {K V : Type 0} (cmp : K → K → Ordering) (k : K) (v : V) (entries : List (K × V)) → length (insert_entry cmp entries k v) ≡ length entries → lookup (eq_by_cmp cmp k) entries ≡ Some v → insert_entry cmp entries k v ≡ entries
put_again cmp k v [] many there = absurd (none-some v there)
put_again {K} {V} cmp k v (e ∷ es) many there = next (cmp k e.0) many there (put_again cmp k v es)
  where
    next : (o : Ordering) → length (match_ordering o ((k, v) ∷ e ∷ es) ((e.0, v) ∷ es) (e ∷ insert_entry cmp es k v)) ≡ length (e ∷ es) → cond (is_eq o) (Some e.1) (lookup (eq_by_cmp cmp k) es) ≡ Some v
        → (length (insert_entry cmp es k v) ≡ length es → lookup (eq_by_cmp cmp k) es ≡ Some v → insert_entry cmp es k v ≡ es)
        → match_ordering o ((k, v) ∷ e ∷ es) ((e.0, v) ∷ es) (e ∷ insert_entry cmp es k v) ≡ e ∷ es
    next Less many there rest = absurd (omega (arith, many))
    next Equal many there rest = ap (λ (w : V). (e.0, w) ∷ es) (sym (same_Some e.1 v there))
    next Greater many there rest = ap (λ (xs : List (K × V)). e ∷ xs) (rest (omega (arith, many)) there)
