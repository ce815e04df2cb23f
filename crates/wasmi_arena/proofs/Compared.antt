-- Facts on comparisons: of two lists part by part, and of two iterators.
use Rattle.std.proofs.Common.{◌≡◌, ℕ, zero, suc, ◌*◌, ◌≤◌, Bool, true, false, ◌&&◌, List, [], ◌∷◌, length, take, drop, Option, Some, None, refl, sym, ◌∙◌, ap, arith, Ordering, Less, Equal, Greater}
use Rattle.std.proofs.Math.Bool.{and_assoc}
use Rattle.std.specs.Bool.{⊤}
use Rattle.std.specs.Borrow.{Bor}
use Rattle.std.specs.List.{AllZip}
use Rattle.std.specs.Option.{MatchOption, IfSome}
use Rattle.std.specs.Iterator.{Yields, YieldsThen, YieldsFirstBy, ComparesItemsByEq, ComparesItemsByCmp}
use Rattle.std.specs.Iterator.Order.{ComparesItemsByPartialCmp}
use Rattle.std.specs.Cmp.Lexicographic.{pointwise, slice_cmp, slice_partial_cmp}
use Rattle.std.specs.Ordering.{ordering_then, partial_ordering_then, MatchOrdering}
use Rattle.wasmi_arena.specs.Geometry.{max_len}
use Rattle.wasmi_arena.specs.StableVec.{filled_parts}
use Rattle.wasmi_arena.proofs.FilledParts.{AreParts, AreParts-filled_parts}

-- how two answers make one: the first decides, unless it is `tie`
record Joins {R : Type 0} (join : R → R → R) (tie less more : R) : Type 0 where
  assoc : (p q r : R) → join (join p q) r ≡ join p (join q r)
  tied : (q : R) → join tie q ≡ q
  lesser : (q : R) → join less q ≡ less
  greater : (q : R) → join more q ≡ more

-- a comparison of lists from place to place, where `pair` compares two items
record ByPlaces {A R : Type 0} (join : R → R → R) (tie less more : R) (pair : A → A → R) (compare : List A → List A → R) : Type 0 where
  ends : compare [] [] ≡ tie
  shorter : (y : A) (ys : List A) → compare [] (y ∷ ys) ≡ less
  longer : (x : A) (xs : List A) → compare (x ∷ xs) [] ≡ more
  places : (x y : A) (xs ys : List A) → compare (x ∷ xs) (y ∷ ys) ≡ join (pair x y) (compare xs ys)

-- an iterator that shows what it has left, as a list
abbrev pub Shown : {A : Type 0} → List A → Option (Bor A) → List A → Type 0
Shown = YieldsFirstBy (λ x. x.now) (λ items. items)

module _ {R : Type 0} {join : R → R → R} {tie less more : R} (j : Joins join tie less more) where
  module _ {A : Type 0} {pair : A → A → R} {compare : List A → List A → R} (c : ByPlaces join tie less more pair compare) where
    -- the first places decide, and else the others do
    compare-take_drop : (n : ℕ) (xs ys : List A) → compare xs ys ≡ join (compare (take n xs) (take n ys)) (compare (drop n xs) (drop n ys))
    compare-take_drop zero xs ys = sym (ap (λ p. join p (compare xs ys)) c.ends ∙ j.tied (compare xs ys))
    compare-take_drop (suc n) [] [] = sym (ap (λ p. join p (compare [] [])) c.ends ∙ j.tied (compare [] []))
    compare-take_drop (suc n) [] (y ∷ ys) = c.shorter y ys ∙ sym (ap (λ p. join p (compare [] (drop n ys))) (c.shorter y (take n ys)) ∙ j.lesser (compare [] (drop n ys)))
    compare-take_drop (suc n) (x ∷ xs) [] = c.longer x xs ∙ sym (ap (λ p. join p (compare (drop n xs) [])) (c.longer x (take n xs)) ∙ j.greater (compare (drop n xs) []))
    compare-take_drop (suc n) (x ∷ xs) (y ∷ ys) =
        let first = compare (take n xs) (take n ys) in let others = compare (drop n xs) (drop n ys) in
        c.places x y xs ys ∙ (ap (join (pair x y)) (compare-take_drop n xs ys) ∙ (sym (j.assoc (pair x y) first others) ∙ ap (λ p. join p others) (sym (c.places x y (take n xs) (take n ys)))))

    -- so the parts of two lists are compared as the lists are
    module _ {comparing : List (List A) → List (List A) → R} (o : ByPlaces join tie less more compare comparing) where
      comparing-AreParts : (width : ℕ) (xs ys : List A) (ps qs : List (List A)) → AreParts width xs ps → AreParts width ys qs → comparing ps qs ≡ compare xs ys
      comparing-AreParts width xs ys [] [] a b = o.ends ∙ (sym c.ends ∙ (λ i. compare (sym a i) (sym b i)))
      comparing-AreParts width xs [] [] (q ∷ qs) a b = absurd (let some = b.0 in omega arith)
      comparing-AreParts width xs (y ∷ ys) [] (q ∷ qs) a b = o.shorter q qs ∙ (sym (c.shorter y ys) ∙ ap (λ (zs : List A). compare zs (y ∷ ys)) (sym a))
      comparing-AreParts width [] ys (p ∷ ps) [] a b = absurd (let some = a.0 in omega arith)
      comparing-AreParts width (x ∷ xs) ys (p ∷ ps) [] a b = o.longer p ps ∙ (sym (c.longer x xs) ∙ ap (λ (zs : List A). compare (x ∷ xs) zs) (sym b))
      comparing-AreParts width xs ys (p ∷ ps) (q ∷ qs) a b =
          let rest = comparing-AreParts (2 * width) (drop width xs) (drop width ys) ps qs a.2 b.2 in
          o.places p q ps qs ∙ ((λ i. join (compare (a.1 i) (b.1 i)) (rest i)) ∙ sym (compare-take_drop width xs ys))

      comparing-filled_parts : (xs ys : List A) → length xs ≤ max_len → length ys ≤ max_len → comparing (filled_parts xs) (filled_parts ys) ≡ compare xs ys
      comparing-filled_parts xs ys few less_few = comparing-AreParts 32 xs ys (filled_parts xs) (filled_parts ys) (AreParts-filled_parts xs few) (AreParts-filled_parts ys less_few)

    -- two iterators are compared as their lists are: past items that are tied
    past_tied : (cs bs : List (Bor A)) (s t u w : List A) → Yields Shown s cs u → Yields Shown t bs w → AllZip (λ x y. pair x.now y.now ≡ tie) cs bs → compare s t ≡ compare u w
    past_tied [] [] s t u w a b z = λ i. compare (a i) (b i)
    past_tied [] (y ∷ bs) s t u w a b z = absurd z
    past_tied (x ∷ cs) [] s t u w a b z = absurd z
    past_tied (x ∷ cs) (y ∷ bs) s t u w a b z =
        (λ i. compare (a.1 i) (b.1 i)) ∙ (c.places x.now y.now a.0 b.0 ∙ (ap (λ p. join p (compare a.0 b.0)) z.0 ∙ (j.tied (compare a.0 b.0) ∙ past_tied cs bs a.0 b.0 u w a.2 b.2 z.1)))

    -- the answer r once they gave o and p
    abbrev Ends : R → Option (Bor A) → Option (Bor A) → Type 0
    Ends r None None = r ≡ tie
    Ends r None (Some y) = r ≡ less
    Ends r (Some x) None = r ≡ more
    Ends r (Some x) (Some y) = (r ≡ pair x.now y.now) × ((q : R) → join r q ≡ r)

    at_end : (r : R) (o p : Option (Bor A)) (s t u w : List A) → Shown s o u → Shown t p w → Ends r o p → r ≡ compare s t
    at_end r None None s t u w a b e = e ∙ (sym c.ends ∙ (λ i. compare (sym a.0 i) (sym b.0 i)))
    at_end r None (Some y) s t u w a b e = e ∙ (sym (c.shorter y.now w) ∙ (λ i. compare (sym a.0 i) (sym b i)))
    at_end r (Some x) None s t u w a b e = e ∙ (sym (c.longer x.now u) ∙ (λ i. compare (sym a i) (sym b.0 i)))
    at_end r (Some x) (Some y) s t u w a b e = sym (e.1 (compare u w)) ∙ (ap (λ p. join p (compare u w)) e.0 ∙ (sym (c.places x.now y.now u w) ∙ (λ i. compare (sym a i) (sym b i))))

    compare_of_iterators : (r : R) (cs bs : List (Bor A)) (o p : Option (Bor A)) (s t u w : List A) → YieldsThen Shown s cs o u → YieldsThen Shown t bs p w → AllZip (λ x y. pair x.now y.now ≡ tie) cs bs → Ends r o p → r ≡ compare s t
    compare_of_iterators r cs bs o p s t u w a b z e = at_end r o p a.0 b.0 u w a.2 b.2 e ∙ sym (past_tied cs bs s t a.0 b.0 a.1 b.1 z)

-- ---- equality

Joins-and : Joins (λ p q. p && q) true false false
Joins-and = record { assoc = and_assoc; tied = λ q. refl; lesser = λ q. refl; greater = λ q. refl }

module _ {A : Type 0} (E : A → A → Bool) where
  ByPlaces-pointwise : ByPlaces (λ p q. p && q) true false false E (pointwise E)
  ByPlaces-pointwise = record { ends = refl; shorter = λ y ys. refl; longer = λ x xs. refl; places = λ x y xs ys. refl }

  Ends-eq : (r : Bool) (o p : Option (Bor A)) → MatchOption o (MatchOption p (r ≡ true) (λ _. r ≡ false)) (λ x. (r ≡ false) × IfSome p (λ y. E x.now y.now ≡ false)) → Ends Joins-and ByPlaces-pointwise r o p
  Ends-eq r None None h = h
  Ends-eq r None (Some y) h = h
  Ends-eq r (Some x) None h = h.0
  Ends-eq r (Some x) (Some y) h = (h.0 ∙ sym h.1, λ q. ap (λ e. e && q) h.0 ∙ sym h.0)

module _ {T : Type 0} (E : T → T → Bool) (xs ys : List T) (few : length xs ≤ max_len) (less_few : length ys ≤ max_len) where
  pub eq_of_parts : {r : Bool} → ComparesItemsByEq {A = Bor (List T)} Shown (λ s t. t ≡ s) Shown (filled_parts xs) (filled_parts ys) (λ x y. pointwise E x.now y.now) r → r ≡ pointwise E xs ys
  eq_of_parts {r} d =
      compare_of_iterators Joins-and (ByPlaces-pointwise (pointwise E)) r d.1 d.2 d.3 d.4 (filled_parts xs) d.0 d.5 d.6 d.8 d.9 d.10 (Ends-eq (pointwise E) r d.3 d.4 d.11)
      ∙ (ap (pointwise (pointwise E) (filled_parts xs)) d.7 ∙ comparing-filled_parts Joins-and (ByPlaces-pointwise E) (ByPlaces-pointwise (pointwise E)) xs ys few less_few)

-- ---- order

then-assoc : (p q r : Ordering) → ordering_then (ordering_then p q) r ≡ ordering_then p (ordering_then q r)
then-assoc Less q r = refl
then-assoc Equal q r = refl
then-assoc Greater q r = refl

Joins-then : Joins ordering_then Equal Less Greater
Joins-then = record { assoc = then-assoc; tied = λ q. refl; lesser = λ q. refl; greater = λ q. refl }

-- an answer other than `Equal` stands
then-decided : (r : Ordering) → MatchOrdering r ⊤ ⊥ ⊤ → (q : Ordering) → ordering_then r q ≡ r
then-decided Less h q = refl
then-decided Equal h q = absurd h
then-decided Greater h q = refl

module _ {A : Type 0} (C : A → A → Ordering) where
  ByPlaces-slice_cmp : ByPlaces ordering_then Equal Less Greater C (slice_cmp C)
  ByPlaces-slice_cmp = record { ends = refl; shorter = λ y ys. refl; longer = λ x xs. refl; places = λ x y xs ys. refl }

  Ends-cmp : (r : Ordering) (o p : Option (Bor A)) → MatchOption o (MatchOption p (r ≡ Equal) (λ _. r ≡ Less)) (λ x. MatchOption p (r ≡ Greater) (λ y. (r ≡ C x.now y.now) × MatchOrdering r ⊤ ⊥ ⊤)) → Ends Joins-then ByPlaces-slice_cmp r o p
  Ends-cmp r None None h = h
  Ends-cmp r None (Some y) h = h
  Ends-cmp r (Some x) None h = h
  Ends-cmp r (Some x) (Some y) h = (h.0, then-decided r h.1)

module _ {T : Type 0} (C : T → T → Ordering) (xs ys : List T) (few : length xs ≤ max_len) (less_few : length ys ≤ max_len) where
  pub cmp_of_parts : {r : Ordering} → ComparesItemsByCmp {A = Bor (List T)} Shown (λ s t. t ≡ s) Shown (filled_parts xs) (filled_parts ys) (λ x y. slice_cmp C x.now y.now) r → r ≡ slice_cmp C xs ys
  cmp_of_parts {r} d =
      compare_of_iterators Joins-then (ByPlaces-slice_cmp (slice_cmp C)) r d.1 d.2 d.3 d.4 (filled_parts xs) d.0 d.5 d.6 d.8 d.9 d.10 (Ends-cmp (slice_cmp C) r d.3 d.4 d.11)
      ∙ (ap (slice_cmp (slice_cmp C) (filled_parts xs)) d.7 ∙ comparing-filled_parts Joins-then (ByPlaces-slice_cmp C) (ByPlaces-slice_cmp (slice_cmp C)) xs ys few less_few)

-- ---- partial order

partial_then-assoc : (p q r : Option Ordering) → partial_ordering_then (partial_ordering_then p q) r ≡ partial_ordering_then p (partial_ordering_then q r)
partial_then-assoc None q r = refl
partial_then-assoc (Some Less) q r = refl
partial_then-assoc (Some Equal) q r = refl
partial_then-assoc (Some Greater) q r = refl

Joins-partial_then : Joins partial_ordering_then (Some Equal) (Some Less) (Some Greater)
Joins-partial_then = record { assoc = partial_then-assoc; tied = λ q. refl; lesser = λ q. refl; greater = λ q. refl }

partial_then-decided : (r : Option Ordering) → ¬ (r ≡ Some Equal) → (q : Option Ordering) → partial_ordering_then r q ≡ r
partial_then-decided None h q = refl
partial_then-decided (Some Less) h q = refl
partial_then-decided (Some Equal) h q = absurd (h refl)
partial_then-decided (Some Greater) h q = refl

module _ {A : Type 0} (C : A → A → Option Ordering) where
  ByPlaces-slice_partial_cmp : ByPlaces partial_ordering_then (Some Equal) (Some Less) (Some Greater) C (slice_partial_cmp C)
  ByPlaces-slice_partial_cmp = record { ends = refl; shorter = λ y ys. refl; longer = λ x xs. refl; places = λ x y xs ys. refl }

  Ends-partial_cmp : (r : Option Ordering) (o p : Option (Bor A)) → MatchOption o (MatchOption p (r ≡ Some Equal) (λ _. r ≡ Some Less)) (λ x. MatchOption p (r ≡ Some Greater) (λ y. (r ≡ C x.now y.now) × ¬ (r ≡ Some Equal))) → Ends Joins-partial_then ByPlaces-slice_partial_cmp r o p
  Ends-partial_cmp r None None h = h
  Ends-partial_cmp r None (Some y) h = h
  Ends-partial_cmp r (Some x) None h = h
  Ends-partial_cmp r (Some x) (Some y) h = (h.0, partial_then-decided r h.1)

module _ {T : Type 0} (C : T → T → Option Ordering) (xs ys : List T) (few : length xs ≤ max_len) (less_few : length ys ≤ max_len) where
  pub partial_cmp_of_parts : {r : Option Ordering} → ComparesItemsByPartialCmp {A = Bor (List T)} Shown (λ s t. t ≡ s) Shown (filled_parts xs) (filled_parts ys) (λ x y. slice_partial_cmp C x.now y.now) r → r ≡ slice_partial_cmp C xs ys
  partial_cmp_of_parts {r} d =
      compare_of_iterators Joins-partial_then (ByPlaces-slice_partial_cmp (slice_partial_cmp C)) r d.1 d.2 d.3 d.4 (filled_parts xs) d.0 d.5 d.6 d.8 d.9 d.10 (Ends-partial_cmp (slice_partial_cmp C) r d.3 d.4 d.11)
      ∙ (ap (slice_partial_cmp (slice_partial_cmp C) (filled_parts xs)) d.7 ∙ comparing-filled_parts Joins-partial_then (ByPlaces-slice_partial_cmp C) (ByPlaces-slice_partial_cmp (slice_partial_cmp C)) xs ys few less_few)
