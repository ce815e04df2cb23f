-- Lists of names that grow, and stay distinct.
-- for src/check.rt
use Rattle.std.proofs.Common.{◌≡◌, ◌≢◌, ℕ, zero, suc, ◌+◌, ◌<◌, length, List, [], ◌∷◌, ◌++◌, get_or, take, drop, Bor, BTreeSet, Bool, true, false, cond, ◌||◌, not, map, refl, sym, ap, subst, ◌∙◌, inl, inr, arith, length-append}
use Rattle.std.specs.List.{list_any}
use Rattle.std.specs.BTreeSet.{contains_by, contains, Updates}
use Rattle.std.proofs.lemmas.List.{map_push, take_more, take-append-drop, map-append}
use Rattle.wasmi_module.specs.declared.module.Export.{Export}
use Rattle.std.specs.Str.{bytes_eq}
use Rattle.std.specs.Ordering.{is_eq, nat_cmp}
use Rattle.std.specs.Cmp.Lexicographic.{slice_cmp}
use Rattle.std.proofs.lemmas.Bool.{or_parts, or_cases, cases_lt}
use Rattle.std.proofs.lemmas.Bool.Decides.{same_from_decides, Decides-like, not_from_Decides}
use Rattle.std.proofs.lemmas.Slice.Eq.{bytes_eq-Decides}
use Rattle.std.proofs.lemmas.List.Folds.{list_any-append}
use Rattle.std.proofs.lemmas.Map.Text.{is_eq-slice_cmp}
use Rattle.std.proofs.Math.ListN.{get_or-append}
use Rattle.std.proofs.Math.Seq.{get_or-append_seam, drop-cons}
use Rattle.wasmi_module.specs.Valid.{AreDistinct}

bytes_eq-sym : (x y : List ℕ) → bytes_eq x y ≡ bytes_eq y x
bytes_eq-sym x y = same_from_decides (bytes_eq x y) (bytes_eq y x) (Decides-like (bytes_eq x y) (λ e. sym e) (λ e. sym e) (bytes_eq-Decides x y)) (bytes_eq-Decides y x)

-- A name that isn't among these differs from each.
not_among : (x : List ℕ) (names : List (List ℕ)) (i : ℕ) → list_any (bytes_eq x) names ≡ false → i < length names → get_or names i [] ≢ x
not_among x [] i none lt e = absurd (omega arith)
not_among x (y ∷ ys) zero none lt e = not_from_Decides (bytes_eq x y) (bytes_eq-Decides x y) (or_parts (bytes_eq x y) (list_any (bytes_eq x) ys) none).0 (sym e)
not_among x (y ∷ ys) (suc i) none lt e = not_among x ys i (or_parts (bytes_eq x y) (list_any (bytes_eq x) ys) none).1 (omega arith) e

pub distinct_push : (names : List (List ℕ)) (x : List ℕ) → AreDistinct names → list_any (bytes_eq x) names ≡ false → AreDistinct (names ++ x ∷ [])
distinct_push names x distinct none i j lt within e =
    let len : j < length names + 1 = omega (arith, length-append names (x ∷ [])) in
    elim (cases_lt j (length names)) [
      | inl below ↦ distinct i j lt below (sym (get_or-append names (x ∷ []) [] i (omega arith)) ∙ e ∙ get_or-append names (x ∷ []) [] j below)
      | inr above ↦
          let last : j ≡ length names = omega arith in
          let is_x : get_or (names ++ x ∷ []) j [] ≡ x = rw last (get_or-append_seam names x [] []) in
          not_among x names i none (omega arith) (sym (get_or-append names (x ∷ []) [] i (omega arith)) ∙ e ∙ is_x)
    ]

among : (x : List ℕ) (names : List (List ℕ)) → list_any (bytes_eq x) names ≡ true → (j : ℕ) × (j < length names) × (get_or names j [] ≡ x)
among x [] e = absurd cc
among x (y ∷ ys) e = elim (or_cases (bytes_eq x y) (list_any (bytes_eq x) ys) e) [
  | inl here ↦ (0, omega arith, sym ((bytes_eq-Decides x y).0 here))
  | inr there ↦ let r = among x ys there in (suc r.0, omega (arith, r.1), r.2)
]

-- A name that stands before isn't new.
not_distinct : (before after : List (List ℕ)) (x : List ℕ) → list_any (bytes_eq x) before ≡ true → AreDistinct (before ++ x ∷ after) → ⊥
not_distinct before after x known distinct =
    let r = among x before known in
    let within : length before < length (before ++ x ∷ after) = omega (arith, length-append before (x ∷ after)) in
    distinct r.0 (length before) r.1 within (get_or-append before (x ∷ after) [] r.0 r.1 ∙ r.2 ∙ sym (get_or-append_seam before x after []))

cond_or : (b o : Bool) → cond b true o ≡ (o || (b || false))
cond_or true true = refl
cond_or true false = refl
cond_or false true = refl
cond_or false false = refl

-- What a set of these names has, once one more is in.
pub has_one_more : (names : List (List ℕ)) (x q : List ℕ) (old new : Bool) → old ≡ list_any (bytes_eq q) names → new ≡ cond (is_eq (slice_cmp nat_cmp x q)) true old → new ≡ list_any (bytes_eq q) (names ++ x ∷ [])
has_one_more names x q old new was is =
    is ∙ ap (λ (b : Bool). cond b true old) (is_eq-slice_cmp x q ∙ bytes_eq-sym x q) ∙ cond_or (bytes_eq q x) old
    ∙ ap (λ (o : Bool). o || (bytes_eq q x || false)) was ∙ sym (list_any-append (bytes_eq q) names (x ∷ []))

pub list_any-map : {A B : Type 0} (p : B → Bool) (f : A → B) (xs : List A) → list_any p (map f xs) ≡ list_any (λ x. p (f x)) xs
list_any-map p f [] = refl
list_any-map p f (x ∷ xs) = ap (λ b. p (f x) || b) (list_any-map p f xs)

not_true : (b : Bool) → not b ≡ true → b ≡ false
not_true true e = absurd cc
not_true false e = refl

-- ---- over the exports of a module

abbrev pub names : List Export → List (List ℕ)
names exports = map (λ export. export.name.now) exports

-- the set has just these names
abbrev pub HasNames : BTreeSet (Bor (List ℕ)) → List (List ℕ) → Type 0
HasNames set known = (q : List ℕ) → contains_by (λ name. slice_cmp nat_cmp q name.now) set ≡ list_any (bytes_eq q) known

names_more : (exports : List Export) (i : ℕ) (d : Export) → i < length exports → names (take (i + 1) exports) ≡ names (take i exports) ++ (get_or exports i d).name.now ∷ []
names_more exports i d lt = ap names (take_more exports i d lt) ∙ map_push (λ export. export.name.now) (take i exports) (get_or exports i d)

pub HasNames-more : (exports : List Export) (i : ℕ) (d : Export) (old new : BTreeSet (Bor (List ℕ))) → i < length exports → HasNames old (names (take i exports))
    → Updates (λ x y. slice_cmp nat_cmp x.now y.now) old new (get_or exports i d).name true → HasNames new (names (take (i + 1) exports))
HasNames-more exports i d old new lt has updates q =
    let one = has_one_more (names (take i exports)) (get_or exports i d).name.now q _ _ (has q) (updates.0 (record { ref_ptr = (0, 0); now = q })) in
    one ∙ ap (list_any (bytes_eq q)) (sym (names_more exports i d lt))

pub distinct_step : (exports : List Export) (i : ℕ) (d : Export) → i < length exports → AreDistinct (names (take i exports)) → list_any (bytes_eq (get_or exports i d).name.now) (names (take i exports)) ≡ false → AreDistinct (names (take (i + 1) exports))
distinct_step exports i d lt distinct none = subst AreDistinct (sym (names_more exports i d lt)) (distinct_push (names (take i exports)) (get_or exports i d).name.now distinct none)

pub distinct-more : (exports : List Export) (i : ℕ) (d : Export) (old : BTreeSet (Bor (List ℕ))) (added : Bool) → i < length exports → HasNames old (names (take i exports)) → AreDistinct (names (take i exports))
    → added ≡ not (contains (λ x y. slice_cmp nat_cmp x.now y.now) old (get_or exports i d).name) → added ≡ true → AreDistinct (names (take (i + 1) exports))
distinct-more exports i d old added lt has distinct is new =
    distinct_step exports i d lt distinct (sym (has (get_or exports i d).name.now) ∙ not_true _ (sym is ∙ new))

names_at : (exports : List Export) (i : ℕ) (d : Export) → i < length exports → names exports ≡ names (take i exports) ++ (get_or exports i d).name.now ∷ names (drop (suc i) exports)
names_at exports i d lt =
    ap names (sym (take-append-drop i exports)) ∙ map-append (λ (export : Export). export.name.now) (take i exports) (drop i exports)
    ∙ ap (λ es. names (take i exports) ++ names es) (drop-cons exports i d lt)

-- The export at this place has the name of one before it.
pub distinct_none : (exports : List Export) (i : ℕ) (d : Export) → i < length exports → list_any (bytes_eq (get_or exports i d).name.now) (names (take i exports)) ≡ true → AreDistinct (names exports) → ⊥
distinct_none exports i d lt known distinct =
    not_distinct (names (take i exports)) (names (drop (suc i) exports)) (get_or exports i d).name.now known (subst AreDistinct (names_at exports i d lt) distinct)

not_false : (b : Bool) → not b ≡ false → b ≡ true
not_false true e = refl
not_false false e = absurd cc

pub distinct-none : (exports : List Export) (i : ℕ) (d : Export) (old : BTreeSet (Bor (List ℕ))) (added : Bool) → i < length exports → HasNames old (names (take i exports))
    → added ≡ not (contains (λ x y. slice_cmp nat_cmp x.now y.now) old (get_or exports i d).name) → added ≡ false → AreDistinct (names exports) → ⊥
distinct-none exports i d old added lt has is new =
    distinct_none exports i d lt (sym (has (get_or exports i d).name.now) ∙ not_false _ (sym is ∙ new))
