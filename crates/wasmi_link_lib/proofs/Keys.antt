-- Types and names have keys, and to compare keys is to compare types.
-- for src/types.rt, src/linker.rt
use Rattle.std.proofs.Common.{◌≡◌, ℕ, Bool, cond, ◌==◌, List, [], ◌∷◌, ◌++◌, map, get_or, Contains, Option, Some, None, IsSome, is_some, position, refl, sym, ap, ◌∙◌, inl, inr, eqb-true, eq-eqb, true≢false}
use Rattle.std.specs.Bool.{one_answer}
use Rattle.std.specs.Option.{option_eq}
use Rattle.std.proofs.lemmas.List.{map-append}
use Rattle.std.proofs.lemmas.List.Elements.{Contains-get_or}
use Rattle.std.proofs.lemmas.List.Quantifiers.{position-Some}
use Rattle.std.proofs.lemmas.Option.{same_Some}
use Rattle.wasmi_arena.specs.Keys.{Keys}
use Rattle.wasmi_collections.specs.Dedup.{DedupState, AllocatesValue}
use Rattle.wasmi_module.specs.Modules.{FuncType}
use Rattle.wasmi_link_lib.specs.Lines.{ItemType, Func, Table, Memory, Global}
use Rattle.wasmi_link_lib.specs.Linking.{Named, func_type_eq, matches, with_value, without_repetitions, all_types}
use Rattle.wasmi_link_lib.specs.inner.Tables.{key_of, HasKeys, keyed, keyed_matches}
use Rattle.wasmi_link_lib.proofs.Lists.{position-map, without_repetitions_has, Contains-flat_map}
use Rattle.wasmi_link_lib.proofs.Matches.{func_type_eq-Decides}

-- each of a module's types has a key
pub has_keys : (types : List FuncType) (modules : List Named) (m : Named) → types ≡ without_repetitions func_type_eq (all_types modules) → Contains modules m → HasKeys types m.body
has_keys types modules m are there k d in' =
    let type = get_or m.body.types k d in
    ap (λ ts. is_some (key_of ts type)) are
    ∙ without_repetitions_has func_type_eq (λ t. (func_type_eq-Decides t t).1 refl) (all_types modules) type (Contains-flat_map (λ n. n.body.types) modules m type there (Contains-get_or m.body.types k d in'))

-- ---- the types that were taken

-- types as they lie in memory, of which `eq` says which are equal, and `view` what they are
module _ {S : Type 0} (eq : S → S → Bool) (view : S → FuncType) (same : (a b : S) → eq a b ≡ func_type_eq (view a) (view b)) where
  pub key_seen : (xs : List S) (x : S) → key_of (map view xs) (view x) ≡ position (eq x) xs
  key_seen xs x = position-map (func_type_eq (view x)) view xs ∙ λ i. position (λ y. sym (same x y) i) xs

  -- a type was taken, and goes to the end where it is new
  pub type_taken : {K : Type 0} (keys : Keys K) (clones : S → S → Type 0) (old new : DedupState S) (x : S) (key : K) → AllocatesValue keys eq clones old x key new → map view new.handed ≡ with_value func_type_eq (map view old.handed) (view x)
  type_taken keys clones old new x key allocates =
      let step : (o : Option ℕ) → key_of (map view old.handed) (view x) ≡ o → cond (is_some o) (map view old.handed) (map view old.handed ++ view x ∷ []) ≡ with_value func_type_eq (map view old.handed) (view x) =
      λ o is. ap (λ (p : Option ℕ). cond (is_some p) (map view old.handed) (map view old.handed ++ view x ∷ [])) (sym is) in
      elim allocates [
        | inl (p, found, key_is, stays) ↦ ap (λ (s : DedupState S). map view s.handed) stays ∙ step (Some p) (key_seen old.handed x ∙ found)
        | inr added ↦ ap (map view) added.handed_are ∙ map-append view old.handed (x ∷ []) ∙ step None (key_seen old.handed x ∙ added.absent)
      ]

-- ---- keys

-- two types with keys are equal where their keys are
keys_decide : (types : List FuncType) (a b : FuncType) (i j : ℕ) → key_of types a ≡ Some i → key_of types b ≡ Some j → (i == j) ≡ func_type_eq a b
keys_decide types a b i j is_a is_b =
    let reads : (t : FuncType) (k : ℕ) → key_of types t ≡ Some k → t ≡ get_or types k t =
    λ t k is. (func_type_eq-Decides t _).0 (position-Some (func_type_eq t) types k t is).1 in
    one_answer (i == j) (func_type_eq a b)
    (λ e. reads a i is_a ∙ ap (λ k. get_or types k a) (eqb-true i j e) ∙ same_default j b is_b, λ e. eq-eqb i j (same_Some i j (sym is_a ∙ ap (key_of types) e ∙ is_b)))
    (func_type_eq-Decides a b)
  where
    same_default : (k : ℕ) (t : FuncType) → key_of types t ≡ Some k → get_or types k a ≡ t
    same_default k t is =
        sym ((func_type_eq-Decides t _).0 (position-Some (func_type_eq t) types k a is).1)

some_key : (o : Option ℕ) → IsSome o → (k : ℕ) × (o ≡ Some k)
some_key None is = absurd (true≢false (sym is))
some_key (Some k) is = (k, refl)

-- a type's key, where it is that of a function, is there
abbrev pub IsKeyed : List FuncType → ItemType → Type 0
IsKeyed types (Func type) = IsSome (key_of types type)
IsKeyed types (Table type) = Unit {0}
IsKeyed types (Memory type) = Unit {0}
IsKeyed types (Global type) = Unit {0}

-- what is compared by keys matches where the types do
pub keyed-matches : (types : List FuncType) (asked given : ItemType) → IsKeyed types asked → IsKeyed types given → keyed_matches (keyed types asked) (keyed types given) ≡ matches asked given
keyed-matches types (Func asked) (Func given) has_asked has_given =
    let a = some_key _ has_asked in
    let b = some_key _ has_given in
    (λ i. option_eq ◌==◌ (a.1 i) (b.1 i)) ∙ keys_decide types asked given a.0 b.0 a.1 b.1
keyed-matches types (Func asked) (Table given) has_asked has_given = refl
keyed-matches types (Func asked) (Memory given) has_asked has_given = refl
keyed-matches types (Func asked) (Global given) has_asked has_given = refl
keyed-matches types (Table asked) (Func given) has_asked has_given = refl
keyed-matches types (Table asked) (Table given) has_asked has_given = refl
keyed-matches types (Table asked) (Memory given) has_asked has_given = refl
keyed-matches types (Table asked) (Global given) has_asked has_given = refl
keyed-matches types (Memory asked) (Func given) has_asked has_given = refl
keyed-matches types (Memory asked) (Table given) has_asked has_given = refl
keyed-matches types (Memory asked) (Memory given) has_asked has_given = refl
keyed-matches types (Memory asked) (Global given) has_asked has_given = refl
keyed-matches types (Global asked) (Func given) has_asked has_given = refl
keyed-matches types (Global asked) (Table given) has_asked has_given = refl
keyed-matches types (Global asked) (Memory given) has_asked has_given = refl
keyed-matches types (Global asked) (Global given) has_asked has_given = refl
