-- Lists that grow at their end, and where an element stands in them.
-- for src/names.rt, src/types.rt, src/item.rt, src/imported.rt, src/linker.rt
use Rattle.std.proofs.Common.{◌≡◌, ◌≢◌, ℕ, zero, suc, ◌+◌, ◌<◌, ◌≤◌, Bool, true, false, not, cond, List, [], ◌∷◌, ◌++◌, length, map, get_or, take, drop, fold, filter, flat_map, find, Contains, All, bytes_eq, Option, Some, None, is_some, IsSome, option_map, option_and_then, position, slice_get, ltb, eqb, refl, sym, ap, ◌∙◌, subst, inl, inr, append-nil, append_assoc, add-zero, eq-eqb, ne_eqb, lt-ltb, le-ltb, ltb-true, true≢false, arith}
use Rattle.std.specs.List.{position_or_len}
use Rattle.std.specs.Option.{option_or}
use Rattle.std.proofs.lemmas.Bool.{cases_lt, cond_both}
use Rattle.std.proofs.lemmas.List.{take_more, map_more, map_push, map-append, length_push, length-map, length-append, take-append-drop, get_or-map}
use Rattle.std.proofs.lemmas.List.Concat.{flat_map-append, get_or-flat_map}
use Rattle.std.proofs.lemmas.List.Elements.{filter-append}
use Rattle.std.proofs.lemmas.List.Folds.{position_or_len_push, find_at, length-flat_map-take}
use Rattle.std.proofs.lemmas.List.Sums.{fold-append, prefix_len-le-length}
use Rattle.std.proofs.lemmas.Option.{slice_get_past, slice_get-map, slice_get_within, slice_get_read, get_or_from_slice_get, cond_some, none-some}
use Rattle.wasmi_module.specs.Modules.{Import, Export}
use Rattle.wasmi_link_lib.specs.Linking.{with_value, without_repetitions, import_names}

-- ---- one more element, as a loop reads it

pub take_read : {X : Type 0} (xs : List X) (i : ℕ) (x : X) → i < length xs → x ≡ get_or xs i x → take (i + 1) xs ≡ take i xs ++ x ∷ []
take_read xs i x in' is = take_more xs i x in' ∙ ap (λ y. take i xs ++ y ∷ []) (sym is)

pub map_read : {X Y : Type 0} (f : X → Y) (xs : List X) (i : ℕ) (x : X) → i < length xs → x ≡ get_or xs i x → map f (take (i + 1) xs) ≡ map f (take i xs) ++ f x ∷ []
map_read f xs i x in' is = ap (map f) (take_read xs i x in' is) ∙ map_push f (take i xs) x

pub flat_map_read : {X Y Z : Type 0} (g : Y → List Z) (f : X → Y) (xs : List X) (i : ℕ) (x : X) → i < length xs → x ≡ get_or xs i x → flat_map g (map f (take (i + 1) xs)) ≡ flat_map g (map f (take i xs)) ++ g (f x)
flat_map_read g f xs i x in' is =
    ap (flat_map g) (map_read f xs i x in' is)
    ∙ flat_map-append g (map f (take i xs)) (f x ∷ [])
    ∙ ap (λ t. flat_map g (map f (take i xs)) ++ t) (append-nil (g (f x)))

pub filter_read : {X Y : Type 0} (p : Y → Bool) (f : X → Y) (xs : List X) (i : ℕ) (x : X) → i < length xs → x ≡ get_or xs i x → filter p (map f (take (i + 1) xs)) ≡ filter p (map f (take i xs)) ++ cond (p (f x)) (f x ∷ []) []
filter_read p f xs i x in' is = ap (filter p) (map_read f xs i x in' is) ∙ filter-append p (map f (take i xs)) (f x ∷ [])

-- what two lists have lies one behind the other
pub parts-append : {X Y Z : Type 0} (g : Y → List Z) (f : X → Y) (xs ys : List X) → flat_map g (map f (xs ++ ys)) ≡ flat_map g (map f xs) ++ flat_map g (map f ys)
parts-append g f xs ys = ap (flat_map g) (map-append f xs ys) ∙ flat_map-append g (map f xs) (map f ys)

pub mapped-append : {X Y Z : Type 0} (g : Y → Z) (f : X → Y) (xs ys : List X) → map g (map f (xs ++ ys)) ≡ map g (map f xs) ++ map g (map f ys)
mapped-append g f xs ys = ap (map g) (map-append f xs ys) ∙ map-append g (map f xs) (map f ys)

-- the same of what is pushed for it
pub mapped_step : {X Y Z W : Type 0} (v : W → Z) (g : Y → Z) (f : X → Y) (old new : List W) (y : W) (xs : List X) (i : ℕ) (x : X) → i < length xs → x ≡ get_or xs i x → map v old ≡ map g (map f (take i xs)) → new ≡ old ++ y ∷ [] → v y ≡ g (f x) → map v new ≡ map g (map f (take (i + 1) xs))
mapped_step v g f old new y xs i x in' is before pushed same =
    ap (map v) pushed ∙ map_push v old y
    ∙ (λ j. before j ++ same j ∷ [])
    ∙ sym (map_push g (map f (take i xs)) (f x)) ∙ ap (map g) (sym (map_read f xs i x in' is))

-- behind others,
pub joined_step : {X Y Z W : Type 0} (v : W → Z) (g : Y → Z) (f : X → Y) (start : List Z) (old new : List W) (y : W) (xs : List X) (i : ℕ) (d : X) → i < length xs → map v old ≡ start ++ map g (map f (take i xs)) → new ≡ old ++ y ∷ [] → v y ≡ g (f (get_or xs i d)) → map v new ≡ start ++ map g (map f (take (i + 1) xs))
joined_step v g f start old new y xs i d in' before pushed same =
    ap (map v) pushed ∙ map_push v old y
    ∙ (λ j. before j ++ same j ∷ [])
    ∙ append_assoc start (map g (map f (take i xs))) (g (f (get_or xs i d)) ∷ [])
    ∙ ap (λ l. start ++ l) (sym (map_push g (map f (take i xs)) (f (get_or xs i d))) ∙ ap (map g) (sym (map_more f xs i d in')))

-- how many parts they have
pub counted_step : {X Y Z : Type 0} (g : Y → List Z) (f : X → Y) (xs : List X) (i : ℕ) (x : X) → i < length xs → x ≡ get_or xs i x → length (flat_map g (map f (take (i + 1) xs))) ≡ length (flat_map g (map f (take i xs))) + length (g (f x))
counted_step g f xs i x in' is = ap length (flat_map_read g f xs i x in' is) ∙ length-append (flat_map g (map f (take i xs))) (g (f x))

pub counted_among : {X Y Z : Type 0} (g : Y → List Z) (f : X → Y) (xs : List X) (i : ℕ) (x : X) → i < length xs → x ≡ get_or xs i x → length (flat_map g (map f (take i xs))) + length (g (f x)) ≤ length (flat_map g (map f xs))
counted_among g f xs i x in' is =
    let rest = flat_map g (map f (drop (i + 1) xs)) in
    let all = ap (λ l. length (flat_map g (map f l))) (sym (take-append-drop (i + 1) xs)) ∙ ap length (parts-append g f (take (i + 1) xs) (drop (i + 1) xs)) ∙ length-append (flat_map g (map f (take (i + 1) xs))) rest in
    omega (arith, all, counted_step g f xs i x in' is)

-- or many at a time
pub pieces_step : {X Y Z : Type 0} (g : Y → List Z) (f : X → Y) (old new : List Z) (xs : List X) (i : ℕ) (x : X) → i < length xs → x ≡ get_or xs i x → old ≡ flat_map g (map f (take i xs)) → new ≡ old ++ g (f x) → new ≡ flat_map g (map f (take (i + 1) xs))
pieces_step g f old new xs i x in' is before pushed = pushed ∙ ap (λ l. l ++ g (f x)) before ∙ sym (flat_map_read g f xs i x in' is)

-- two names of an import were taken,
pub names_step : {X : Type 0} (f : X → Import) (start old next new : List (List ℕ)) (xs : List X) (i : ℕ) (d : X) → i < length xs → old ≡ fold (with_value bytes_eq) start (flat_map import_names (map f (take i xs)))
    → next ≡ with_value bytes_eq old (f (get_or xs i d)).asked → new ≡ with_value bytes_eq next (f (get_or xs i d)).field
    → new ≡ fold (with_value bytes_eq) start (flat_map import_names (map f (take (i + 1) xs)))
names_step f start old next new xs i d in' before first second =
    let x = f (get_or xs i d) in
    second ∙ ap (λ ns. with_value bytes_eq ns x.field) (first ∙ ap (λ ns. with_value bytes_eq ns x.asked) before)
    ∙ sym (fold-append (with_value bytes_eq) start (flat_map import_names (map f (take i xs))) (import_names x))
    ∙ ap (fold (with_value bytes_eq) start) (sym (ap (flat_map import_names) (map_more f xs i d in') ∙ flat_map-append import_names (map f (take i xs)) (x ∷ [])))

-- and the name of an export
pub export_names_step : {X : Type 0} (f : X → Export) (start old new : List (List ℕ)) (xs : List X) (i : ℕ) (d : X) → i < length xs → old ≡ fold (with_value bytes_eq) start (map (λ e. e.name) (map f (take i xs)))
    → new ≡ with_value bytes_eq old (f (get_or xs i d)).name → new ≡ fold (with_value bytes_eq) start (map (λ e. e.name) (map f (take (i + 1) xs)))
export_names_step f start old new xs i d in' before taken =
    let x = f (get_or xs i d) in
    let names : List Export → List (List ℕ) = map (λ e. e.name) in
    taken ∙ ap (λ ns. with_value bytes_eq ns x.name) before
    ∙ sym (fold-append (with_value bytes_eq) start (names (map f (take i xs))) (x.name ∷ []))
    ∙ ap (fold (with_value bytes_eq) start) (sym (ap names (map_more f xs i d in') ∙ map_push (λ e. e.name) (map f (take i xs)) x))

-- ---- what is read of a list with one more, and of two

pub slice_get_last : {X : Type 0} (xs : List X) (y : X) → slice_get (xs ++ y ∷ []) (length xs) ≡ Some y
slice_get_last [] y = refl
slice_get_last (x ∷ xs) y = slice_get_last xs y

pub slice_get_other : {X : Type 0} (xs : List X) (y : X) (i : ℕ) → i ≢ length xs → slice_get (xs ++ y ∷ []) i ≡ slice_get xs i
slice_get_other [] y zero other = absurd (other refl)
slice_get_other [] y (suc i) other = refl
slice_get_other (x ∷ xs) y zero other = refl
slice_get_other (x ∷ xs) y (suc i) other = slice_get_other xs y i (λ e. other (ap suc e))

pub slice_get_left : {X : Type 0} (xs ys : List X) (i : ℕ) (x : X) → slice_get xs i ≡ Some x → slice_get (xs ++ ys) i ≡ Some x
slice_get_left [] ys i x is = absurd (none-some x is)
slice_get_left (y ∷ xs) ys zero x is = is
slice_get_left (y ∷ xs) ys (suc i) x is = slice_get_left xs ys i x is

pub slice_get_right : {X : Type 0} (xs ys : List X) (i j : ℕ) → length xs + j ≡ i → slice_get (xs ++ ys) i ≡ slice_get ys j
slice_get_right [] ys i j e = ap (slice_get ys) (omega (arith, e))
slice_get_right (x ∷ xs) ys zero j e = absurd (omega (arith, e))
slice_get_right (x ∷ xs) ys (suc i) j e = slice_get_right xs ys i j (omega (arith, e))

pub slice_get_map : {X Y : Type 0} (f : X → Y) (xs : List X) (i : ℕ) (o : Option X) → slice_get xs i ≡ o → slice_get (map f xs) i ≡ option_map f o
slice_get_map f xs i o is = slice_get-map f xs i ∙ ap (option_map f) is

pub is_some-map : {X Y : Type 0} (f : X → Y) (o : Option X) → is_some (option_map f o) ≡ is_some o
is_some-map f None = refl
is_some-map f (Some x) = refl

-- what `get` returns
pub got : {X : Type 0} (xs : List X) (i : ℕ) (x : X) → i < length xs → x ≡ get_or xs i x → slice_get xs i ≡ Some x
got xs i x in' is = slice_get_read xs (length xs) i x refl in' is

pub got_at : {X : Type 0} (xs : List X) (i : ℕ) (d : X) → i < length xs → slice_get xs i ≡ Some (get_or xs i d)
got_at [] i d in' = absurd (omega (arith, in'))
got_at (x ∷ xs) zero d in' = refl
got_at (x ∷ xs) (suc i) d in' = got_at xs i d (omega (arith, in'))

-- what is read is there
pub Contains-got : {X : Type 0} (xs : List X) (i : ℕ) (x : X) → slice_get xs i ≡ Some x → Contains xs x
Contains-got xs i x is = (i, slice_get_within xs i x is, get_or_from_slice_get xs i x x is)

-- what holds of each value of a function holds of what is read
pub All_at : {X Y : Type 0} (P : Y → Type 0) (f : X → Y) (xs : List X) (i : ℕ) (d : X) → i < length xs → All P (map f xs) → P (f (get_or xs i d))
All_at P f xs i d in' all = subst P (get_or-map f xs i d (f d) in') (all i (f d) (omega (arith, in', length-map xs f)))

pub All_along : {X Y : Type 0} (P : Y → Type 0) (f : X → Y) (xs ys : List X) → ys ≡ xs → All P (map f xs) → All P (map f ys)
All_along P f xs ys same all = subst (λ l. All P (map f l)) (sym same) all

-- what holds of each element holds of what is read
pub All_get : {X : Type 0} (P : X → Type 0) (xs : List X) (i : ℕ) (x : X) → All P xs → slice_get xs i ≡ Some x → P x
All_get P xs i x all is = subst P (get_or_from_slice_get xs i x x is) (all i x (slice_get_within xs i x is))

-- ---- where an element stands

module _ {X : Type 0} (p : X → Bool) where
  position_in : (xs : List X) → position_or_len p xs < length xs → position p xs ≡ Some (position_or_len p xs)
  position_in xs in' = ap (λ b. cond b (Some (position_or_len p xs)) None) (lt-ltb _ _ in')

  position_out : (xs : List X) → length xs ≤ position_or_len p xs → position p xs ≡ None
  position_out xs out = ap (λ b. cond b (Some (position_or_len p xs)) None) (le-ltb _ _ out)

  last_position : (n : ℕ) (b : Bool) → cond (ltb (n + cond b 0 1) (n + 1)) (Some (n + cond b 0 1)) None ≡ cond b (Some n) None
  last_position n true =
      ap (λ m. cond (ltb m (n + 1)) (Some m) None) (add-zero n) ∙ ap (λ b. cond b (Some n) None) (lt-ltb n (n + 1) (omega arith))
  last_position n false = ap (λ b. cond b (Some (n + 1)) None) (le-ltb (n + 1) (n + 1) (omega arith))

  -- among one more, it stands where it stood, or else at the end
  pub position_push : (xs : List X) (y : X) → position p (xs ++ y ∷ []) ≡ option_or (position p xs) (cond (p y) (Some (length xs)) None)
  position_push xs y =
      let k = position_or_len p xs in
      let moved : position p (xs ++ y ∷ []) ≡ cond (ltb (cond (eqb k (length xs)) (length xs + cond (p y) 0 1) k) (length xs + 1)) (Some (cond (eqb k (length xs)) (length xs + cond (p y) 0 1) k)) None = λ i. cond (ltb (position_or_len_push p xs y i) (length_push xs y i)) (Some (position_or_len_push p xs y i)) None in
      elim (cases_lt k (length xs)) [
        | inl in' ↦
            let stays : cond (eqb k (length xs)) (length xs + cond (p y) 0 1) k ≡ k = ap (λ b. cond b (length xs + cond (p y) 0 1) k) (ne_eqb k (length xs) (λ e. omega (arith, e, in'))) in
            moved ∙ ap (λ m. cond (ltb m (length xs + 1)) (Some m) None) stays
            ∙ ap (λ b. cond b (Some k) None) (lt-ltb k (length xs + 1) (omega (arith, in')))
            ∙ sym (ap (λ o. option_or o (cond (p y) (Some (length xs)) None)) (position_in xs in'))
        | inr out ↦
            let all : k ≡ length xs = omega (arith, out, prefix_len-le-length (λ x. not (p x)) xs) in
            let ends : cond (eqb k (length xs)) (length xs + cond (p y) 0 1) k ≡ length xs + cond (p y) 0 1 = ap (λ b. cond b (length xs + cond (p y) 0 1) k) (eq-eqb k (length xs) all) in
            moved ∙ ap (λ m. cond (ltb m (length xs + 1)) (Some m) None) ends ∙ last_position (length xs) (p y)
            ∙ sym (ap (λ o. option_or o (cond (p y) (Some (length xs)) None)) (position_out xs out))
      ]

  -- what is found is what is read at its position
  pub find_position : (xs : List X) → find p xs ≡ option_and_then (slice_get xs) (position p xs)
  find_position xs =
      elim (cases_lt (position_or_len p xs) (length xs)) [
        | inl in' ↦ find_at p xs ∙ sym (ap (option_and_then (slice_get xs)) (position_in xs in'))
        | inr out ↦ find_at p xs ∙ slice_get_past xs (position_or_len p xs) out ∙ sym (ap (option_and_then (slice_get xs)) (position_out xs out))
      ]

  pub position_within : (xs : List X) (i : ℕ) → position p xs ≡ Some i → i < length xs
  position_within xs i is =
      let parts = cond_some (ltb (position_or_len p xs) (length xs)) (position_or_len p xs) i is in
      subst (λ k. k < length xs) parts.1 (ltb-true _ _ parts.0)

  -- among the values of a function, it stands where the element does that has the value
  pub position-map : {Y : Type 0} (f : Y → X) (ys : List Y) → position p (map f ys) ≡ position (λ y. p (f y)) ys
  position-map {Y} f ys = λ i. cond (ltb (same ys i) (length-map ys f i)) (Some (same ys i)) None
    where
      same : (ys : List Y) → position_or_len p (map f ys) ≡ position_or_len (λ y. p (f y)) ys
      same [] = refl
      same (y ∷ ys) = ap (λ n. cond (not (p (f y))) (1 + n) 0) (same ys)

-- ---- without repetitions

or_some : {X : Type 0} (o z : Option X) → is_some o ≡ true → is_some (option_or o z) ≡ true
or_some None z is = absurd (true≢false (sym is))
or_some (Some x) z is = refl

or_last : {X : Type 0} (o : Option X) (x : X) → is_some (option_or o (Some x)) ≡ true
or_last None x = refl
or_last (Some y) x = refl

module _ {X : Type 0} (eq : X → X → Bool) where
  -- what is found stays where it is
  with_value_same : (p : X → Bool) (seen : List X) (y : X) (k : ℕ) → position p seen ≡ Some k → position p (with_value eq seen y) ≡ Some k
  with_value_same p seen y k is =
      cond_both (is_some (position (eq y) seen)) seen (seen ++ y ∷ []) (λ l. position p l ≡ Some k) (λ _. is)
      (λ _. position_push p seen y ∙ ap (λ o. option_or o (cond (p y) (Some (length seen)) None)) is)

  pub fold_same : (p : X → Bool) (seen ys : List X) (k : ℕ) → position p seen ≡ Some k → position p (fold (with_value eq) seen ys) ≡ Some k
  fold_same p seen [] k is = is
  fold_same p seen (y ∷ ys) k is = fold_same p (with_value eq seen y) ys k (with_value_same p seen y k is)

  -- a new value is one more, and no value makes them fewer
  pub with_value_new : (seen : List X) (y : X) → position (eq y) seen ≡ None → length (with_value eq seen y) ≡ length seen + 1
  with_value_new seen y new = ap (λ (o : Option ℕ). length (cond (is_some o) seen (seen ++ y ∷ []))) new ∙ length_push seen y

  pub with_value_grows : (seen : List X) (y : X) → length seen ≤ length (with_value eq seen y)
  with_value_grows seen y =
      cond_both (is_some (position (eq y) seen)) seen (seen ++ y ∷ []) (λ l. length seen ≤ length l) (λ _. omega arith) (λ _. omega (arith, length_push seen y))

  pub fold_grows : (seen ys : List X) → length seen ≤ length (fold (with_value eq) seen ys)
  fold_grows seen [] = omega arith
  fold_grows seen (y ∷ ys) = omega (arith, with_value_grows seen y, fold_grows (with_value eq seen y) ys)

  -- so more than there are keys after some parts is more after all of them
  module _ {S : Type 0} (parts : List S → List X) (cuts : (xs ys : List S) → parts (xs ++ ys) ≡ parts xs ++ parts ys) where
    pub more_among : (n : ℕ) (start old : List X) (xs : List S) (i : ℕ) (x : S) → take (i + 1) xs ≡ take i xs ++ x ∷ []
        → old ≡ fold (with_value eq) start (parts (take i xs)) → n < length (fold (with_value eq) old (parts (x ∷ []))) → n < length (fold (with_value eq) start (parts xs))
    more_among n start old xs i x reads before more =
        let taken = fold (with_value eq) in
        let rest = parts (drop (i + 1) xs) in
        let with_x : taken start (parts (take (i + 1) xs)) ≡ taken old (parts (x ∷ [])) =
        ap (λ l. taken start (parts l)) reads ∙ ap (taken start) (cuts (take i xs) (x ∷ []))
        ∙ fold-append (with_value eq) start (parts (take i xs)) (parts (x ∷ [])) ∙ ap (λ l. taken l (parts (x ∷ []))) (sym before) in
        let all : taken start (parts xs) ≡ taken (taken old (parts (x ∷ []))) rest =
        ap (λ l. taken start (parts l)) (sym (take-append-drop (i + 1) xs)) ∙ ap (taken start) (cuts (take (i + 1) xs) (drop (i + 1) xs))
        ∙ fold-append (with_value eq) start (parts (take (i + 1) xs)) rest ∙ ap (λ l. taken l rest) with_x in
        subst (λ l. n < length l) (sym all) (omega (arith, more, fold_grows (taken old (parts (x ∷ []))) rest))

  -- what is found is found among one more
  with_value_keeps : (p : X → Bool) (seen : List X) (y : X) → IsSome (position p seen) → IsSome (position p (with_value eq seen y))
  with_value_keeps p seen y is =
      cond_both (is_some (position (eq y) seen)) seen (seen ++ y ∷ []) (λ l. IsSome (position p l)) (λ _. is)
      (λ _. ap is_some (position_push p seen y) ∙ or_some (position p seen) _ is)

  fold_keeps : (p : X → Bool) (seen ys : List X) → IsSome (position p seen) → IsSome (position p (fold (with_value eq) seen ys))
  fold_keeps p seen [] is = is
  fold_keeps p seen (y ∷ ys) is = fold_keeps p (with_value eq seen y) ys (with_value_keeps p seen y is)

  module _ (same : (x : X) → eq x x ≡ true) where
    with_value_has : (seen : List X) (x : X) → IsSome (position (eq x) (with_value eq seen x))
    with_value_has seen x =
        cond_both (is_some (position (eq x) seen)) seen (seen ++ x ∷ []) (λ l. IsSome (position (eq x) l)) (λ is. is)
        (λ _. ap is_some (position_push (eq x) seen x ∙ ap (λ b. option_or (position (eq x) seen) (cond b (Some (length seen)) None)) (same x)) ∙ or_last (position (eq x) seen) (length seen))

    fold_has : (seen xs : List X) (i : ℕ) (d : X) → i < length xs → IsSome (position (eq (get_or xs i d)) (fold (with_value eq) seen xs))
    fold_has seen [] i d in' = absurd (omega (arith, in'))
    fold_has seen (x ∷ xs) zero d in' = fold_keeps (eq x) (with_value eq seen x) xs (with_value_has seen x)
    fold_has seen (x ∷ xs) (suc i) d in' = fold_has (with_value eq seen x) xs i d (omega (arith, in'))

    -- each value is among them without repetitions
    pub without_repetitions_has : (xs : List X) (x : X) → Contains xs x → IsSome (position (eq x) (without_repetitions eq xs))
    without_repetitions_has xs x (i, in', is) = subst (λ y. IsSome (position (eq y) (without_repetitions eq xs))) is (fold_has [] xs i x in')

-- more names than symbols after a name of an import are more after all imports
pub asked_among : {X : Type 0} (f : X → Import) (n : ℕ) (start old : List (List ℕ)) (xs : List X) (i : ℕ) (d : X) → i < length xs → old ≡ fold (with_value bytes_eq) start (flat_map import_names (map f (take i xs)))
    → n < length (with_value bytes_eq old (f (get_or xs i d)).asked) → n < length (fold (with_value bytes_eq) start (flat_map import_names (map f xs)))
asked_among f n start old xs i d in' before more =
    let x = f (get_or xs i d) in
    more_among bytes_eq (λ ys. flat_map import_names (map f ys)) (parts-append import_names f) n start old xs i (get_or xs i d) (take_more xs i d in') before
    (omega (arith, more, with_value_grows bytes_eq (with_value bytes_eq old x.asked) x.field))

pub field_among : {X : Type 0} (f : X → Import) (n : ℕ) (start old next : List (List ℕ)) (xs : List X) (i : ℕ) (d : X) → i < length xs → old ≡ fold (with_value bytes_eq) start (flat_map import_names (map f (take i xs)))
    → next ≡ with_value bytes_eq old (f (get_or xs i d)).asked → n < length (with_value bytes_eq next (f (get_or xs i d)).field) → n < length (fold (with_value bytes_eq) start (flat_map import_names (map f xs)))
field_among f n start old next xs i d in' before first more =
    more_among bytes_eq (λ ys. flat_map import_names (map f ys)) (parts-append import_names f) n start old xs i (get_or xs i d) (take_more xs i d in') before
    (subst (λ ns. n < length (with_value bytes_eq ns (f (get_or xs i d)).field)) first more)

-- what is in a piece is in all of them
pub Contains-flat_map : {X Y : Type 0} (f : X → List Y) (xs : List X) (x : X) (y : Y) → Contains xs x → Contains (f x) y → Contains (flat_map f xs) y
Contains-flat_map {X} {Y} f xs x y (k, in_xs, is_x) (j, in_piece, is_y) =
    let piece : f (get_or xs k x) ≡ f x = ap f is_x in
    let in' : j < length (f (get_or xs k x)) = subst (λ (l : List Y). j < length l) (sym piece) in_piece in
    (length (flat_map f (take k xs)) + j, omega (arith, in', length-flat_map-take f xs k x in_xs), get_or-flat_map f xs k j x y in_xs in' ∙ ap (λ (l : List Y). get_or l j y) piece ∙ is_y)
