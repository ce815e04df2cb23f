-- Facts on what an iterator has ahead of it, part by part.
use Rattle.std.proofs.Common.{◌≡◌, ℕ, ◌+◌, ◌-◌, ◌<◌, ◌≤◌, List, [], ◌∷◌, ◌++◌, length, Option, Some, None, sym, ◌∙◌, ap, arith, length-append, append_assoc, append-nil}
use Rattle.std.proofs.lemmas.List.{nil_from_length}
use Rattle.std.specs.Option.{MatchOption}
use Rattle.std.specs.Iterator.{YieldsFirstBy, YieldsLastBy, MakesProgress, item_count}
use Rattle.wasmi_arena.specs.inner.Ahead.{joined, AreSome, HasAhead}

module _ {T : Type 0} where
  joined-append : (parts : List (List T)) (part : List T) → joined (parts ++ part ∷ []) ≡ joined parts ++ part
  joined-append [] part = append-nil part
  joined-append (first ∷ parts) part = ap (λ (xs : List T). first ++ xs) (joined-append parts part) ∙ sym (append_assoc first (joined parts) part)

  AreSome-last : (parts : List (List T)) (part : List T) → AreSome (parts ++ part ∷ []) → (0 < length part) × AreSome parts
  AreSome-last [] part some = (some.0, tt)
  AreSome-last (first ∷ parts) part some = let rest = AreSome-last parts part some.1 in (rest.0, (some.0, rest.1))

  -- the last part is entered
  module _ {front back : List T} {parts : List (List T)} (rest : List (List T)) (part : List T) {between : ℕ} (it : HasAhead front parts back between) (last : parts ≡ rest ++ part ∷ []) where
    last_some : (0 < length part) × AreSome rest
    last_some = AreSome-last rest part (rw last at it.filled)

    pub last_counted : between ≡ length (joined rest) + length part
    last_counted = it.counted ∙ (ap (λ (ps : List (List T)). length (joined ps)) last ∙ (ap length (joined-append rest part) ∙ length-append (joined rest) part))

    pub last_ahead : (left : List T) (count : ℕ) → count ≡ length part → length left ≤ count → HasAhead front rest left (between - count)
    last_ahead left count counted fewer = let c = last_counted in let most = it.few in record { filled = last_some.1; counted = omega arith; few = omega arith }

    pub last_yields : {B : Type 0} (now : B → T) (r : Option B) (left : List T) → length back ≡ 0 → MatchOption r ((length part ≡ 0) × (length left ≡ 0)) (λ x. part ≡ left ++ now x ∷ [])
        → YieldsLastBy now (λ (xs : List T). xs) (front ++ joined parts ++ back) r (front ++ joined rest ++ left)
    last_yields now None left none ended = absurd (let some = last_some.0 in let short = ended.0 in omega arith)
    last_yields now (Some x) left none at =
        rw (nil_from_length back none, append-nil (front ++ joined parts)) (ap (λ (ps : List (List T)). front ++ joined ps) last ∙ (ap (λ (xs : List T). front ++ xs) (joined-append rest part ∙ ap (λ (xs : List T). joined rest ++ xs) at)
        ∙ (sym (append_assoc front (joined rest) (left ++ now x ∷ [])) ∙ sym (append_assoc (front ++ joined rest) left (now x ∷ [])))))

  -- the first part is entered
  module _ {front back : List T} {parts rest : List (List T)} {part : List T} {between : ℕ} (it : HasAhead front parts back between) (first : parts ≡ part ∷ rest) where
    first_some : (0 < length part) × AreSome rest
    first_some = rw first at it.filled

    pub first_counted : between ≡ length part + length (joined rest)
    first_counted = it.counted ∙ (ap (λ (ps : List (List T)). length (joined ps)) first ∙ length-append part (joined rest))

    pub first_ahead : {left : List T} → length left ≤ length part → HasAhead left rest back (between - length part)
    first_ahead fewer = let c = first_counted in let most = it.few in record { filled = first_some.1; counted = omega arith; few = omega arith }

    pub first_yields : {B : Type 0} (now : B → T) (r : Option B) (left : List T) → length front ≡ 0 → MatchOption r ((length part ≡ 0) × (length left ≡ 0)) (λ x. part ≡ now x ∷ left)
        → YieldsFirstBy now (λ (xs : List T). xs) (front ++ joined parts ++ back) r (left ++ joined rest ++ back)
    first_yields now None left none ended = absurd (let some = first_some.0 in let short = ended.0 in omega arith)
    first_yields now (Some x) left none at = rw (nil_from_length front none, first, at)

  -- no part is left, and the other end is called
  module _ {B : Type 0} (now : B → T) (front back kept left : List T) (parts rest : List (List T)) (no_parts : parts ≡ []) (no_rest : rest ≡ []) (still : length kept ≡ 0) where
    pub yields_behind : (r : Option B) → length front ≡ 0 → MatchOption r ((length back ≡ 0) × (length left ≡ 0)) (λ x. back ≡ now x ∷ left)
        → YieldsFirstBy now (λ (xs : List T). xs) (front ++ joined parts ++ back) r (kept ++ joined rest ++ left)
    yields_behind None none ended = rw (no_parts, no_rest, nil_from_length front none, nil_from_length kept still) (nil_from_length back ended.0, nil_from_length left ended.1)
    yields_behind (Some x) none at = rw (no_parts, no_rest, nil_from_length front none, nil_from_length kept still) at

    pub yields_before : (r : Option B) → length back ≡ 0 → MatchOption r ((length front ≡ 0) × (length left ≡ 0)) (λ x. front ≡ left ++ now x ∷ [])
        → YieldsLastBy now (λ (xs : List T). xs) (front ++ joined parts ++ back) r (left ++ joined rest ++ kept)
    yields_before None none ended = rw (no_parts, no_rest, nil_from_length back none, nil_from_length kept still) (simp append-nil (nil_from_length front ended.0, nil_from_length left ended.1))
    yields_before (Some x) none at = rw (no_parts, no_rest, nil_from_length back none, nil_from_length kept still) (simp append-nil at)

  -- what is ahead with fewer items left at the ends
  pub ahead_fewer : {front back first last : List T} {parts : List (List T)} {between : ℕ} → HasAhead front parts back between → length first ≤ length front → length last ≤ length back → HasAhead first parts last between
  ahead_fewer it fewer fewer_back = let few = it.few in record { filled = it.filled; counted = it.counted; few = omega arith }

  -- no more is left than there was
  pub fewer_first : {B : Type 0} (now : B → T) (part left : List T) (r : Option B) → MatchOption r ((length part ≡ 0) × (length left ≡ 0)) (λ x. part ≡ now x ∷ left) → length left ≤ length part
  fewer_first now part left None ended = let none = ended.1 in omega arith
  fewer_first now part left (Some x) at = omega (arith, ap length at)

  pub fewer_last : {B : Type 0} (now : B → T) (part left : List T) (r : Option B) → MatchOption r ((length part ≡ 0) × (length left ≡ 0)) (λ x. part ≡ left ++ now x ∷ []) → length left ≤ length part
  fewer_last now part left None ended = let none = ended.1 in omega arith
  fewer_last now part left (Some x) at = omega (arith, ap length at, length-append left (now x ∷ []))

-- a call that yields an item and leaves fewer brings the end nearer
pub progress_fewer : {S B T : Type 0} (rest : S → List T) (can : S → Type 0) → ((s : S) → can s) → (s t : S) (x : B) → length (rest t) < length (rest s) → MakesProgress can (item_count rest) s (Some x) t
progress_fewer rest can all s t x fewer = record { on = λ _. (all t, tt, fewer); keeps = all t; rests = λ _. tt }

-- so does one that yields the last
pub progress_last : {S B T : Type 0} (now : B → T) (rest : S → List T) (can : S → Type 0) → ((s : S) → can s) → (s t : S) (r : Option B) → YieldsLastBy now rest s r t → MakesProgress can (item_count rest) s r t
progress_last now rest can all s t None ended = record { on = λ _. tt; keeps = tt; rests = λ _. tt }
progress_last now rest can all s t (Some x) at = progress_fewer rest can all s t x (omega (arith, ap length at, length-append (rest t) (now x ∷ [])))

-- and one that yields the first
pub progress_first : {S B T : Type 0} (now : B → T) (rest : S → List T) (can : S → Type 0) → ((s : S) → can s) → (s t : S) (r : Option B) → YieldsFirstBy now rest s r t → MakesProgress can (item_count rest) s r t
progress_first now rest can all s t None ended = record { on = λ _. tt; keeps = tt; rests = λ _. tt }
progress_first now rest can all s t (Some x) at = progress_fewer rest can all s t x (omega (arith, ap length at))
