-- What tables by symbols have of modules, one more at a time.
-- for src/firsts.rt, src/exports.rt, src/imported.rt, src/linker.rt
use Rattle.std.proofs.Common.{◌≡◌, ◌≢◌, ℕ, ◌+◌, ◌<◌, ◌≤◌, Bool, true, false, cond, List, [], ◌∷◌, ◌++◌, length, map, get_or, take, find, Option, Some, None, option_map, option_and_then, slice_get, bytes_eq, SomeIff, take_all, length-take-le, refl, sym, ap, ◌∙◌, subst, inl, inr, arith}
use Rattle.std.specs.Option.{option_or}
use Rattle.std.proofs.lemmas.Bool.{cases_eq}
use Rattle.std.proofs.lemmas.List.Folds.{find-append}
use Rattle.std.proofs.lemmas.List.{length-map, map_more}
use Rattle.std.proofs.lemmas.Option.{slice_get_past, none-some, same_Some}
use Rattle.wasmi_dense.specs.Components.{component_at}
use Rattle.wasmi_interner.specs.Interner.{symbol_of}
use Rattle.wasmi_module.specs.Modules.{Export}
use Rattle.wasmi_link_lib.specs.declared.exports.Place.{Place}
use Rattle.wasmi_link_lib.specs.Linking.{Named, export_named, module_named}
use Rattle.wasmi_link_lib.specs.inner.Tables.{Notes, first_of, HasFirsts, HasExports, place_in, place_of}
use Rattle.wasmi_link_lib.proofs.Lists.{got, map_read, find_position, position_push, position_within, slice_get_map, slice_get_last, slice_get_other}

-- the key that a number has
pub some_iff : (P : Type 0) (r : Option ℕ) (v x : ℕ) → SomeIff r P v → r ≡ Some x → x ≡ v
some_iff P None v x h is = absurd (none-some x is)
some_iff P (Some y) v x h is = sym (same_Some y x is) ∙ h.1

pub length_so_far : {X Y : Type 0} (f : X → Y) (xs : List X) (i : ℕ) → i < length xs → i ≡ length (map f (take i xs))
length_so_far f xs i in' =
    let few = length-take-le i xs (omega (arith, in')) in
    let same = length-map (take i xs) f in
    omega (arith, few, same)

-- one more module, whose name was noted
pub firsts_more : (names : List (List ℕ)) (old new : List (Option ℕ)) (modules : List Named) (m : Named) (id : ℕ) → id ≡ length modules → HasFirsts names old modules → Notes names (component_at old) m.name id (component_at new) → HasFirsts names new (modules ++ m ∷ [])
firsts_more names old new modules m id last has notes text symbol is =
    notes text symbol is
    ∙ (λ i. option_or (has text symbol is i) (cond (bytes_eq text m.name) (Some (last i)) None))
    ∙ sym (position_push (λ n. bytes_eq text n.name) modules m)

pub firsts_step : {X : Type 0} (f : X → Named) (names : List (List ℕ)) (old new : List (Option ℕ)) (xs : List X) (i id : ℕ) (x : X) → i < length xs → x ≡ get_or xs i x → id ≡ i → HasFirsts names old (map f (take i xs)) → Notes names (component_at old) (f x).name id (component_at new) → HasFirsts names new (map f (take (i + 1) xs))
firsts_step f names old new xs i id x in' is same has notes =
    subst (HasFirsts names new) (sym (map_read f xs i x in' is)) (firsts_more names old new (map f (take i xs)) (f x) id (same ∙ length_so_far f xs i in') has notes)

pub firsts_all : {X : Type 0} (f : X → Named) (names : List (List ℕ)) (firsts : List (Option ℕ)) (xs : List X) (n : ℕ) → length xs ≤ n → HasFirsts names firsts (map f (take n xs)) → HasFirsts names firsts (map f xs)
firsts_all f names firsts xs n all has = subst (HasFirsts names firsts) (ap (map f) (take_all n xs all)) has

-- one more export, whose name was noted
pub places_more : (names : List (List ℕ)) (old new : ℕ → Option Place) (exports : List Export) (e : Export)
    → ((text : List ℕ) (symbol : ℕ) → symbol_of names text ≡ Some symbol → old symbol ≡ option_map place_of (find (λ x. bytes_eq text x.name) exports))
    → Notes names old e.name (place_of e) new
    → (text : List ℕ) (symbol : ℕ) → symbol_of names text ≡ Some symbol → new symbol ≡ option_map place_of (find (λ x. bytes_eq text x.name) (exports ++ e ∷ []))
places_more names old new exports e has notes text symbol is =
    notes text symbol is
    ∙ ap (λ o. option_or o (cond (bytes_eq text e.name) (Some (place_of e)) None)) (has text symbol is)
    ∙ joined (find (λ x. bytes_eq text x.name) exports) (bytes_eq text e.name)
    ∙ sym (ap (option_map place_of) (find-append (λ x. bytes_eq text x.name) exports (e ∷ [])))
  where
    joined : (o : Option Export) (b : Bool) → option_or (option_map place_of o) (cond b (Some (place_of e)) None) ≡ option_map place_of (option_or o (cond b (Some e) None))
    joined (Some x) b = refl
    joined None true = refl
    joined None false = refl

pub places_step : {X : Type 0} (f : X → Export) (names : List (List ℕ)) (old new : ℕ → Option Place) (xs : List X) (i : ℕ) (d : X) → i < length xs
    → ((text : List ℕ) (symbol : ℕ) → symbol_of names text ≡ Some symbol → old symbol ≡ option_map place_of (find (λ x. bytes_eq text x.name) (map f (take i xs))))
    → Notes names old (f (get_or xs i d)).name (place_of (f (get_or xs i d))) new
    → (text : List ℕ) (symbol : ℕ) → symbol_of names text ≡ Some symbol → new symbol ≡ option_map place_of (find (λ x. bytes_eq text x.name) (map f (take (i + 1) xs)))
places_step f names old new xs i d in' has notes text symbol is =
    places_more names old new (map f (take i xs)) (f (get_or xs i d)) has notes text symbol is
    ∙ ap (λ es. option_map place_of (find (λ x. bytes_eq text x.name) es)) (sym (map_more f xs i d in'))

-- no export of a module that is yet to come was noted
pub places_absent : (names : List (List ℕ)) (exports : List ((ℕ × ℕ) × Place)) (modules : List Named) (id : ℕ) → id ≡ length modules → HasExports names exports modules
    → (text : List ℕ) (symbol : ℕ) → symbol_of names text ≡ Some symbol → place_in exports id symbol ≡ None
places_absent names exports modules id last has text symbol is =
    has id symbol text is ∙ ap (option_and_then (λ m. option_map place_of (export_named m.body text))) (slice_get_past modules id (omega (arith, last)))

-- one more module, whose exports were noted
pub exports_more : (names : List (List ℕ)) (old new : List ((ℕ × ℕ) × Place)) (modules : List Named) (m : Named) (id : ℕ) → id ≡ length modules → HasExports names old modules
    → ((text : List ℕ) (symbol : ℕ) → symbol_of names text ≡ Some symbol → place_in new id symbol ≡ option_map place_of (export_named m.body text))
    → ((other symbol : ℕ) → other ≢ id → place_in new other symbol ≡ place_in old other symbol)
    → HasExports names new (modules ++ m ∷ [])
exports_more names old new modules m id last has own others at symbol text is =
    elim (cases_eq at id) [
      | inl here ↦
          ap (λ k. place_in new k symbol) here ∙ own text symbol is
          ∙ sym (ap (option_and_then (λ (n : Named). option_map place_of (export_named n.body text))) (ap (slice_get (modules ++ m ∷ [])) (here ∙ last) ∙ slice_get_last modules m))
      | inr apart ↦
          others at symbol apart ∙ has at symbol text is
          ∙ sym (ap (option_and_then (λ (n : Named). option_map place_of (export_named n.body text))) (slice_get_other modules m at (λ e. apart (e ∙ sym last))))
    ]

pub exports_step : {X : Type 0} (f : X → Named) (names : List (List ℕ)) (old new : List ((ℕ × ℕ) × Place)) (xs : List X) (i id : ℕ) (x : X) → i < length xs → x ≡ get_or xs i x → id ≡ i → HasExports names old (map f (take i xs))
    → ((text : List ℕ) (symbol : ℕ) → symbol_of names text ≡ Some symbol → place_in new id symbol ≡ option_map place_of (export_named (f x).body text))
    → ((other symbol : ℕ) → other ≢ id → place_in new other symbol ≡ place_in old other symbol)
    → HasExports names new (map f (take (i + 1) xs))
exports_step f names old new xs i id x in' is same has own others =
    subst (HasExports names new) (sym (map_read f xs i x in' is)) (exports_more names old new (map f (take i xs)) (f x) id (same ∙ length_so_far f xs i in') has own others)

pub absent_step : {X : Type 0} (f : X → Named) (names : List (List ℕ)) (exports : List ((ℕ × ℕ) × Place)) (xs : List X) (i id : ℕ) → i < length xs → id ≡ i → HasExports names exports (map f (take i xs))
    → (text : List ℕ) (symbol : ℕ) → symbol_of names text ≡ Some symbol → place_in exports id symbol ≡ None
absent_step f names exports xs i id in' same has = places_absent names exports (map f (take i xs)) id (same ∙ length_so_far f xs i in') has

pub exports_all : {X : Type 0} (f : X → Named) (names : List (List ℕ)) (exports : List ((ℕ × ℕ) × Place)) (xs : List X) (n : ℕ) → length xs ≤ n → HasExports names exports (map f (take n xs)) → HasExports names exports (map f xs)
exports_all f names exports xs n all has = subst (HasExports names exports) (ap (map f) (take_all n xs all)) has

-- ---- the first module of a name

pub first_within : {X : Type 0} (f : X → Named) (xs : List X) (name : List ℕ) (id i : ℕ) → Some id ≡ first_of (map f xs) name → i ≡ id → i < length xs
first_within f xs name id i first same =
    let in' : id < length (map f xs) = position_within (λ m. bytes_eq name m.name) (map f xs) id (sym first) in
    let as_many = length-map xs f in
    omega (arith, in', as_many, same)

pub read_first : {X : Type 0} (f : X → Named) (xs : List X) (name : List ℕ) (id i : ℕ) (x : X) → Some id ≡ first_of (map f xs) name → i ≡ id → x ≡ get_or xs i x → slice_get (map f xs) id ≡ Some (f x)
read_first f xs name id i x first same is =
    let in_xs : i < length xs = first_within f xs name id i first same in
    slice_get_map f xs id (Some x) (ap (slice_get xs) (sym same) ∙ got xs i x in_xs is)

pub the_module : (modules : List Named) (name : List ℕ) (id : ℕ) (m : Named) → Some id ≡ first_of modules name → slice_get modules id ≡ Some m → module_named modules name ≡ Some m
the_module modules name id m first is =
    find_position (λ n. bytes_eq name n.name) modules ∙ ap (option_and_then (slice_get modules)) (sym first) ∙ is

pub no_module : (modules : List Named) (name : List ℕ) → None ≡ first_of modules name → module_named modules name ≡ None
no_module modules name first = find_position (λ n. bytes_eq name n.name) modules ∙ ap (option_and_then (slice_get modules)) (sym first)
