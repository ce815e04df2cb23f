-- Facts on what is met among slots.
-- for src/hash_table.rt, src/index.rt
use Rattle.std.proofs.Common.{◌≡◌, ℕ, zero, suc, ◌+◌, ◌-◌, ◌/◌, ◌^◌, ◌<◌, ◌≤◌, ◌==◌, Bool, true, false, cond, List, [], ◌∷◌, length, drop, get_or, set, nat_le, Some, slice_range, refl, sym, ap, subst, ◌∙◌, inl, inr, arith, eqb-true, eq-eqb}
use Rattle.std.proofs.lemmas.Bool.{cases_lt, le-leb}
use Rattle.std.proofs.lemmas.Bool.Decides.{eqb_tells, leb_tells}
use Rattle.std.proofs.lemmas.List.{drop-set-add, drop-set-lt, length-drop, length-set, get_or-drop, get_or-take}
use Rattle.std.proofs.lemmas.Option.{same_Some, slice_get-get_or}
use Rattle.wasmi_interner.specs.inner.HashTable.{HashTableState, Meeting, IsGap, IsTaken, is_empty_slot, is_marker, gap, one, rest, says, met, met_from, met_in, with_slot}
use Rattle.wasmi_interner.specs.declared.entry.Entry.{Entry}

-- what is met with a slot in front
abbrev step : Entry → ℕ → Meeting → Meeting
step slot hash further = cond (is_empty_slot slot) gap (cond (slot.hash == hash) (says slot) further)

-- a slot that is passed by: not empty, and of another hash
abbrev pub Passes : ℕ → Entry → Type 0
Passes hash slot = (is_empty_slot slot ≡ false) × ((slot.hash == hash) ≡ false)

passed : (slot : Entry) (hash : ℕ) (further : Meeting) → Passes hash slot → step slot hash further ≡ further
passed slot hash further is = rw (is.0, is.1) refl

-- what is met where a slot says it
at_slot : (slot : Entry) (hash : ℕ) (further : Meeting) → is_empty_slot slot ≡ false → slot.hash ≡ hash → step slot hash further ≡ says slot
at_slot slot hash further full same = rw (full, eq-eqb slot.hash hash same) refl

-- ---- a slot that is set

module _ (hash : ℕ) (slot : Entry) where
  -- where an empty one is set, what was met before is met
  gap_set : (n : ℕ) (slots : List Entry) (i : ℕ) (d : Entry) → i < length slots → is_empty_slot (get_or slots i d) ≡ true → (met n slots hash ≡ gap → ⊥) → met n (set slots i slot) hash ≡ met n slots hash
  unfolding met
  gap_set zero slots i d within empty some = refl
  gap_set (suc n) [] i d within empty some = absurd (omega (arith, within))
  gap_set (suc n) (x ∷ xs) zero d within empty some = absurd (some (rw empty refl))
  gap_set (suc n) (x ∷ xs) (suc i) d within empty some = next (is_empty_slot x) (x.hash == hash) some (gap_set n xs i d (omega (arith, within)) empty)
    where
      next : (b c : Bool) → (cond b gap (cond c (says x) (met n xs hash)) ≡ gap → ⊥) → ((met n xs hash ≡ gap → ⊥) → met n (set xs i slot) hash ≡ met n xs hash)
          → cond b gap (cond c (says x) (met n (set xs i slot) hash)) ≡ cond b gap (cond c (says x) (met n xs hash))
      next true c some further = refl
      next false true some further = refl
      next false false some further = further some

  -- where one of another hash is set, and stays one, all is met as before
  other_set : (n : ℕ) (slots : List Entry) (i : ℕ) (d : Entry) → i < length slots → Passes hash (get_or slots i d) → Passes hash slot → met n (set slots i slot) hash ≡ met n slots hash
  unfolding met
  other_set zero slots i d within was is = refl
  other_set (suc n) [] i d within was is = absurd (omega (arith, within))
  other_set (suc n) (x ∷ xs) zero d within was is = passed slot hash (met n xs hash) is ∙ sym (passed x hash (met n xs hash) was)
  other_set (suc n) (x ∷ xs) (suc i) d within was is = ap (step x hash) (other_set n xs i d (omega (arith, within)) was is)

-- ---- slots that are passed by

-- so many are
abbrev pub ArePassed : ℕ → ℕ → List Entry → Type 0
ArePassed hash n slots = (i : ℕ) (d : Entry) → i < n → Passes hash (get_or slots i d)

pub met_past : (n more : ℕ) (slots : List Entry) (hash : ℕ) → n ≤ length slots → ArePassed hash n slots → met (n + more) slots hash ≡ met more (drop n slots) hash
unfolding met
met_past zero more slots hash within are = ap (λ k. met k slots hash) (omega arith)
met_past (suc n) more [] hash within are = absurd (omega (arith, within))
met_past (suc n) more (x ∷ xs) hash within are =
    let next : suc n + more ≡ suc (n + more) = omega arith in
    ap (λ k. met k (x ∷ xs) hash) next
    ∙ (passed x hash (met (n + more) xs hash) (are 0 x (omega arith)) ∙ met_past n more xs hash (omega (arith, within)) (λ i d less. are (suc i) d (omega (arith, less))))

-- the first that isn't tells what is met
met_at : (n more : ℕ) (slots : List Entry) (hash : ℕ) (slot d : Entry) → n < length slots → ArePassed hash n slots → get_or slots n d ≡ slot → met (n + suc more) slots hash ≡ step slot hash (met more (drop (suc n) slots) hash)
unfolding met
met_at zero more [] hash slot d within are at = absurd (omega (arith, within))
met_at zero more (x ∷ xs) hash slot d within are at = ap (λ k. met k (x ∷ xs) hash) (let e : zero + suc more ≡ suc more = omega arith in e) ∙ ap (λ s. step s hash (met more xs hash)) at
met_at (suc n) more [] hash slot d within are at = absurd (omega (arith, within))
met_at (suc n) more (x ∷ xs) hash slot d within are at =
    let next : suc n + suc more ≡ suc (n + suc more) = omega arith in
    ap (λ k. met k (x ∷ xs) hash) next
    ∙ (passed x hash (met (n + suc more) xs hash) (are 0 x (omega arith)) ∙ met_at n more xs hash slot d (omega (arith, within)) (λ i e less. are (suc i) e (omega (arith, less))) at)

-- ---- what has a symbol

-- a symbol that is met is that of a slot
found : (n : ℕ) (slots : List Entry) (hash symbol : ℕ) → met n slots hash ≡ one symbol
    → (slot : Entry) × (i : ℕ) × (i < length slots) × ((d : Entry) → get_or slots i d ≡ slot) × (slot.hash ≡ hash) × (slot.symbol ≡ symbol) × (is_empty_slot slot ≡ false) × (is_marker slot ≡ false)
unfolding met
found zero slots hash symbol is = absurd (cc)
found (suc n) [] hash symbol is = absurd (cc)
found (suc n) (x ∷ xs) hash symbol is = next (is_empty_slot x) (x.hash == hash) (is_marker x) refl refl refl is (found n xs hash symbol)
  where
    Result : List Entry → Type 0
    Result slots = (slot : Entry) × (i : ℕ) × (i < length slots) × ((d : Entry) → get_or slots i d ≡ slot) × (slot.hash ≡ hash) × (slot.symbol ≡ symbol) × (is_empty_slot slot ≡ false) × (is_marker slot ≡ false)

    next : (b c m : Bool) → is_empty_slot x ≡ b → (x.hash == hash) ≡ c → is_marker x ≡ m → cond b gap (cond c (cond m rest (one x.symbol)) (met n xs hash)) ≡ one symbol → (met n xs hash ≡ one symbol → Result xs) → Result (x ∷ xs)
    next true c m e h k is further = absurd (cc)
    next false true true e h k is further = absurd (cc)
    next false true false e h k is further = (x, 0, omega arith, λ d. refl, eqb-true x.hash hash h, cc, e, k)
    next false false m e h k is further = let r = further is in (r.0, suc r.1, omega (arith, r.2), r.3, r.4, r.5, r.6, r.7)

-- ---- a slot that is met first

-- a marker isn't empty
pub marker_full : (slot : Entry) → is_marker slot ≡ true → is_empty_slot slot ≡ false
marker_full slot is = rw (eqb-true slot.symbol 4294967294 is) refl

-- what is put to the first slot that isn't passed by is met
set_met : (n more : ℕ) (slots : List Entry) (hash : ℕ) (slot : Entry) → n < length slots → ArePassed hash n slots → is_empty_slot slot ≡ false → slot.hash ≡ hash → met (n + suc more) (set slots n slot) hash ≡ says slot
unfolding met
set_met n more [] hash slot within are full same = absurd (omega (arith, within))
set_met zero more (x ∷ xs) hash slot within are full same =
    ap (λ k. met k (slot ∷ xs) hash) (let e : zero + suc more ≡ suc more = omega arith in e) ∙ at_slot slot hash (met more xs hash) full same
set_met (suc n) more (x ∷ xs) hash slot within are full same =
    let next : suc n + suc more ≡ suc (n + suc more) = omega arith in
    ap (λ k. met k (x ∷ set xs n slot) hash) next
    ∙ (passed x hash (met (n + suc more) (set xs n slot) hash) (are 0 x (omega arith)) ∙ set_met n more xs hash slot (omega (arith, within)) (λ i d less. are (suc i) d (omega (arith, less))) full same)

not_le : (a b : ℕ) → b < a → nat_le a b ≡ false
not_le a b less = elim (leb_tells a b) [
  | inl other ↦ absurd (omega (arith, other.1, less))
  | inr past ↦ past.0
]

module _ (slots : List Entry) (home hash : ℕ) where
  reaches : home + 32 ≤ length slots → met_from home slots hash ≡ met 32 (drop home slots) hash
  unfolding met_from
  reaches fits = rw (le-leb (home + 32) (length slots) fits) refl

  pub past_end : length slots < home + 32 → met_from home slots hash ≡ rest
  unfolding met_from
  past_end short = rw (not_le (home + 32) (length slots) short) refl

  -- a slot that is set, and what another hash meets
  module _ (place : ℕ) (slot : Entry) (within : place < length slots) where
    set_reaches : home + 32 ≤ length slots → met_from home (set slots place slot) hash ≡ met 32 (drop home (set slots place slot)) hash
    unfolding met_from
    set_reaches fits = rw (le-leb (home + 32) (length (set slots place slot)) (omega (arith, fits, length-set slots place slot))) refl

    set_past_end : length slots < home + 32 → met_from home (set slots place slot) hash ≡ rest
    unfolding met_from
    set_past_end short = rw (not_le (home + 32) (length (set slots place slot)) (omega (arith, short, length-set slots place slot))) refl

    kept : (home + 32 ≤ length slots → (j : ℕ) → place ≡ home + j → met 32 (set (drop home slots) j slot) hash ≡ met 32 (drop home slots) hash) → met_from home (set slots place slot) hash ≡ met_from home slots hash
    kept same = elim (cases_lt (length slots) (home + 32)) [
      | inl short ↦ set_past_end short ∙ sym (past_end short)
      | inr fits ↦ set_reaches fits ∙ (elim (cases_lt place home) [
        | inl before ↦ ap (λ ys. met 32 ys hash) (drop-set-lt home slots place slot before)
        | inr behind ↦
            let at : place ≡ home + (place - home) = omega (arith, behind) in
            ap (λ k. met 32 (drop home (set slots k slot)) hash) at
            ∙ (ap (λ ys. met 32 ys hash) (drop-set-add home slots (place - home) slot) ∙ same fits (place - home) at)
      ] ∙ sym (reaches fits))
    ]

    pub gap_kept : (d : Entry) → is_empty_slot (get_or slots place d) ≡ true → (met_from home slots hash ≡ gap → ⊥) → met_from home (set slots place slot) hash ≡ met_from home slots hash
    gap_kept d empty some = kept (λ fits j at.
        let here : is_empty_slot (get_or (drop home slots) j d) ≡ true = ap is_empty_slot (get_or-drop home slots j d ∙ ap (λ k. get_or slots k d) (sym at)) ∙ empty in
        gap_set hash slot 32 (drop home slots) j d (omega (arith, at, within, length-drop home slots)) here (λ is. some (reaches fits ∙ is)))

    pub taken_kept : (d : Entry) → Passes hash (get_or slots place d) → Passes hash slot → met_from home (set slots place slot) hash ≡ met_from home slots hash
    taken_kept d was is = kept (λ fits j at.
        let here : get_or slots place d ≡ get_or (drop home slots) j d = ap (λ k. get_or slots k d) at ∙ sym (get_or-drop home slots j d) in
        other_set hash slot 32 (drop home slots) j d (omega (arith, at, within, length-drop home slots)) (subst (Passes hash) here was) is)

-- ---- what a search of a window ends at

apart_from : (other held hash : ℕ) → held ≡ hash → (other ≡ hash → ⊥) → (held == other) ≡ false
apart_from other held hash same apart = elim (eqb_tells held other) [
  | inl alike ↦ absurd (apart (sym alike.1 ∙ same))
  | inr differs ↦ differs.0
]

-- the slots within reach of a home
module _ (table : HashTableState) (hash home : ℕ) (slots window : List Entry) (at : home ≡ hash / 2 ^ table.shift) (same : slots ≡ table.slots) (reach : home + 32 ≤ length slots) (part : window ≡ slice_range slots home (home + 32)) where
  fits : home + 32 ≤ length table.slots
  fits = omega (arith, reach, ap length same)

  is : window ≡ slice_range table.slots home (home + 32)
  is = part ∙ ap (λ ys. slice_range ys home (home + 32)) same

  read : (i : ℕ) (d : Entry) → i < 32 → get_or window i d ≡ get_or (drop home table.slots) i d
  read i d less = ap (λ ys. get_or ys i d) is ∙ get_or-take (home + 32 - home) (drop home table.slots) i d (omega (arith, less))

  here : (i : ℕ) (d : Entry) → i < 32 → get_or window i d ≡ get_or table.slots (home + i) d
  here i d less = read i d less ∙ get_or-drop home table.slots i d

  passed_there : (n : ℕ) → n ≤ 32 → ArePassed hash n window → ArePassed hash n (drop home table.slots)
  passed_there n few are i d less = subst (Passes hash) (read i d (omega (arith, less, few))) (are i d less)

  long : (n : ℕ) → n < 32 → n < length (drop home table.slots)
  long n less = omega (arith, less, fits, length-drop home table.slots)

  all_met : met_in table hash ≡ met 32 (drop home table.slots) hash
  all_met = ap (λ k. met_from k table.slots hash) (sym at) ∙ reaches table.slots home hash fits

  -- nothing but slots that are passed by
  pub none_met : (n : ℕ) → 32 ≤ n → ArePassed hash n window → met_in table hash ≡ rest
  unfolding met
  none_met n all are =
      let past : met (32 + 0) (drop home table.slots) hash ≡ met 0 (drop 32 (drop home table.slots)) hash =
      met_past 32 0 (drop home table.slots) hash (omega (arith, fits, length-drop home table.slots)) (passed_there 32 (omega arith) (λ i d less. are i d (omega (arith, less, all)))) in
      all_met ∙ past

  module _ (n : ℕ) (slot : Entry) (less : n < 32) (are : ArePassed hash n window) (there : slot ≡ get_or window n slot) where
    first : (x : Entry) → get_or (drop home table.slots) n x ≡ slot
    first x =
        let ys = drop home table.slots in
        same_Some (get_or ys n x) slot (sym (slice_get-get_or ys n x (long n less)) ∙ (slice_get-get_or ys n slot (long n less) ∙ ap Some (sym (there ∙ read n slot less))))

    told : met_in table hash ≡ step slot hash (met (31 - n) (drop (suc n) (drop home table.slots)) hash)
    told =
        let parts : 32 ≡ n + suc (31 - n) = omega (arith, less) in
        all_met ∙ (ap (λ k. met k (drop home table.slots) hash) parts ∙ met_at n (31 - n) (drop home table.slots) hash slot slot (long n less) (passed_there n (omega (arith, less)) are) (first slot))

    within : home + n < length table.slots
    within = omega (arith, less, fits)

    stands : (d : Entry) → get_or table.slots (home + n) d ≡ slot
    stands d = sym (get_or-drop home table.slots n d) ∙ first d

    -- what is put there is met
    put_met : (new : Entry) → new.hash ≡ hash → is_empty_slot new ≡ false → met_in (with_slot table (home + n) new) hash ≡ says new
    put_met new has full =
        let parts : 32 ≡ n + suc (31 - n) = omega (arith, less) in
        ap (λ k. met_from k (set table.slots (home + n) new) hash) (sym at)
        ∙ (set_reaches table.slots home hash (home + n) new within fits
        ∙ (ap (λ ys. met 32 ys hash) (drop-set-add home table.slots n new)
        ∙ (ap (λ k. met k (set (drop home table.slots) n new) hash) parts
        ∙ set_met n (31 - n) (drop home table.slots) hash new (long n less) (passed_there n (omega (arith, less)) are) full has)))

    -- the first that isn't passed by is empty
    pub is_gap : is_empty_slot slot ≡ true → IsGap table hash (home + n)
    is_gap empty = record {
      within = within;
      now = told ∙ rw empty refl;
      filled = put_met;
      others = λ new other some. gap_kept table.slots (other / 2 ^ table.shift) other (home + n) new within slot (ap is_empty_slot (stands slot) ∙ empty) some;
    }

    -- or has the hash, and is a marker
    pub is_marked : is_empty_slot slot ≡ false → slot.hash ≡ hash → is_marker slot ≡ true → met_in table hash ≡ rest
    is_marked full has mark = told ∙ (at_slot slot hash _ full has ∙ rw mark refl)

    -- or a symbol
    pub is_taken : is_empty_slot slot ≡ false → slot.hash ≡ hash → is_marker slot ≡ false → IsTaken table hash (home + n)
    is_taken full has none = record {
      within = within;
      symbol = slot.symbol;
      there = slice_get-get_or table.slots (home + n) slot within ∙ ap Some (stands slot ∙ λ i. record { hash = has i; symbol = slot.symbol });
      full = full;
      plain = none;
      now = told ∙ (at_slot slot hash _ full has ∙ rw none refl);
      marked = λ new its mark. put_met new its (marker_full new mark) ∙ rw mark refl;
      others = λ new other its mark apart. taken_kept table.slots (other / 2 ^ table.shift) other (home + n) new within slot
          (subst (Passes other) (sym (stands slot)) (full, apart_from other slot.hash hash has apart)) (marker_full new mark, apart_from other new.hash hash its apart);
    }

-- ---- a symbol that is met

-- is that of a slot
pub found_in : (table : HashTableState) (hash symbol : ℕ) → met_in table hash ≡ one symbol
    → (slot : Entry) × (k : ℕ) × (k < length table.slots) × ((d : Entry) → get_or table.slots k d ≡ slot) × (slot.hash ≡ hash) × (slot.symbol ≡ symbol) × (is_empty_slot slot ≡ false) × (is_marker slot ≡ false)
found_in table hash symbol is =
    let home = hash / 2 ^ table.shift in
    elim (cases_lt (length table.slots) (home + 32)) [
      | inl short ↦ (let none = past_end table.slots home hash short in absurd (cc))
      | inr fits ↦
          let r = found 32 (drop home table.slots) hash symbol (sym (reaches table.slots home hash fits) ∙ is) in
          (r.0, home + r.1, omega (arith, r.2, length-drop home table.slots), λ d. sym (get_or-drop home table.slots r.1 d) ∙ r.3 d, r.4, r.5, r.6, r.7)
    ]

-- a slot says something
pub says_some : (slot : Entry) → says slot ≡ gap → ⊥
says_some slot is = next (is_marker slot) is
  where
    next : (b : Bool) → cond b rest (one slot.symbol) ≡ gap → ⊥
    next true is = absurd (cc)
    next false is = absurd (cc)

pub says_one : (slot : Entry) → is_marker slot ≡ false → says slot ≡ one slot.symbol
says_one slot plain = rw plain refl

pub says_rest : (slot : Entry) → is_marker slot ≡ true → says slot ≡ rest
says_rest slot mark = rw mark refl
