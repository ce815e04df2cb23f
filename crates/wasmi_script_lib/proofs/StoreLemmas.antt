-- What a store shows, after each call.
-- for src/store.rt, src/kinds.rt
use Rattle.std.proofs.Common.{◌≡◌, ◌⊎◌, ℕ, zero, suc, ◌+◌, ◌<◌, ◌≤◌, ◌^◌, Bool, true, false, cond, List, [], ◌∷◌, ◌++◌, length, map, slice_get, slice_set, slice_index_or, Option, Some, None, option_map, Result, Ok, Err, IfErr, IfOk, OnOk, OnErr, IsErrOf, refl, ap, ◌∙◌, subst, sym, inl, inr, arith, length-append, ltb, true≢false}
use Rattle.std.specs.Prelude.{◌≢◌, ◌↔◌, IsSome, is_some, not, ◌&&◌}
use Rattle.std.specs.List.{AllByRecursion, IsDistinct, position_or_len}
use Rattle.std.specs.Str.{bytes_eq}
use Rattle.std.proofs.lemmas.Bool.{lt-ltb, ltb-true}
use Rattle.std.proofs.lemmas.Bool.Decides.{nat_tests}
use Rattle.std.proofs.lemmas.List.{get_or_append_left, get_or_past, get_or-map}
use Rattle.std.proofs.lemmas.Option.{get_or_from_slice_get, none-some, same_Some, slice_get_past, slice_get_within}
use Rattle.std.proofs.lemmas.Slice.Eq.{bytes_eq-Decides}
use Rattle.wasmi_arena.specs.Arena.{stable_limit}
use Rattle.wasmi_arena.specs.Geometry.{max_len}
use Rattle.wasmi_arena.specs.Keys.{own_keys}
use Rattle.wasmi_arena.specs.declared.error.ArenaError.{ArenaError}
use Rattle.wasmi_arena.specs.declared.error.ArenaError.TheVariants.{DuplicateItem, KeyOutOfBounds, NotEnoughKeys, OutOfSystemMemory}
use Rattle.wasmi_collections.specs.Interner.{symbol_of, AreDistinctTexts}
use Rattle.wasmi_dense.specs.Components.{component_at, extent, ChangesAt}
use Rattle.wasmi_script_lib.specs.Distinct.{texts_with, with_new}
use Rattle.wasmi_script_lib.specs.Store.{Entity, Store, with_entity, with_property, with_renamed, IsFullFor, KeepsEntities, entities_with_property, is_other_kind, renamed, with_renamed_kind, shown, all_shown, store_of, IsSound}
use Rattle.wasmi_script_lib.specs.declared.store.Named.{Named}

-- ---- texts

-- more texts, of which these are the first
abbrev pub Grows : List (List ℕ) → List (List ℕ) → Type 0
Grows texts more = (length texts ≤ length more) × ((i : ℕ) → i < length texts → slice_index_or more i [] ≡ slice_index_or texts i [])

pub Grows-with_new : (texts : List (List ℕ)) (text : List ℕ) → Grows texts (with_new texts text)
Grows-with_new texts text = next (symbol_of texts text)
  where
    next : (o : Option ℕ) → Grows texts (texts_with texts text o)
    next (Some place) = (omega arith, λ i low. refl)
    next None = (omega (arith, length-append texts (text ∷ [])), λ i low. get_or_append_left texts (text ∷ []) [] i low)

slice_get-last : (texts : List (List ℕ)) (text : List ℕ) → slice_get (texts ++ text ∷ []) (length texts) ≡ Some text
slice_get-last [] text = refl
slice_get-last (x ∷ xs) text = slice_get-last xs text

-- the number that a call gives a text which keeps it where it is there, and puts it at the end where it is new
pub with_new-reads : {E : Type 0} (result : Result ℕ E) (old new : List (List ℕ)) (text : List ℕ)
    → ((place : ℕ) → symbol_of old text ≡ Some place → (result ≡ Ok place) × (new ≡ old) × (slice_get old place ≡ Some text))
    → (symbol_of old text ≡ None → IfOk result (λ number. (number ≡ length old) × (new ≡ old ++ text ∷ [])))
    → IfOk result (λ number. slice_get new number ≡ Some text)
with_new-reads (Err error) old new text there absent = tt
with_new-reads (Ok number) old new text there absent = next (symbol_of old text) refl
  where
    next : (o : Option ℕ) → symbol_of old text ≡ o → slice_get new number ≡ Some text
    next (Some place) is = let found = there place is in let same : number ≡ place = cc found.0 in rw (found.1, same) found.2
    next None is = let last = absent is in rw (last.1, last.0) (slice_get-last old text)

at_place : {X : Type 0} (P : X → Type 0) (i : ℕ) (x : X) (xs : List X) → AllByRecursion P xs → slice_get xs i ≡ Some x → P x
at_place P i x [] all at = absurd (none-some x at)
at_place P zero x (y ∷ ys) all at = subst P (same_Some y x at) all.0
at_place P (suc i) x (y ∷ ys) all at = at_place P i x ys all.1 at

-- a text that stands among others has a place there
first_before : {X : Type 0} (p : X → Bool) (d : X) (i : ℕ) (xs : List X) → i < length xs → p (slice_index_or xs i d) ≡ true → position_or_len p xs < length xs
first_before p d i [] low at = absurd (omega (arith, low))
first_before p d zero (x ∷ xs) low at = rw at (omega arith)
first_before p d (suc i) (x ∷ xs) low at = next (p x) (first_before p d i xs (omega (arith, low)) at)
  where
    next : (b : Bool) → position_or_len p xs < length xs → cond (not b) (1 + position_or_len p xs) 0 < suc (length xs)
    next true less = omega arith
    next false less = omega (arith, less)

is_text : (texts : List (List ℕ)) (i : ℕ) → i < length texts → IsSome (symbol_of texts (slice_index_or texts i []))
is_text texts i low =
    let text = slice_index_or texts i [] in
    rw (lt-ltb _ _ (first_before (bytes_eq text) [] i texts low ((bytes_eq-Decides text text).1 refl))) refl

-- ---- a kind that is renamed

module _ (old new : List ℕ) where
  other : (kinds : List (List ℕ)) → AllByRecursion (λ kind. bytes_eq old kind ≡ false) kinds → map (renamed old new) kinds ≡ kinds
  other [] all = refl
  other (x ∷ xs) all = rw (all.0, other xs all.1) refl

  -- it alone changes
  pub renamed-set : (kinds : List (List ℕ)) (place : ℕ) → AreDistinctTexts kinds → slice_get kinds place ≡ Some old → slice_set kinds place new ≡ map (renamed old new) kinds
  unfolding IsDistinct
  renamed-set [] place distinct at = refl
  renamed-set (x ∷ xs) zero distinct at =
      let same : x ≡ old = same_Some x old at in
      let here : bytes_eq old x ≡ true = (bytes_eq-Decides old x).1 (sym same) in
      rw here (ap (λ (rest : List (List ℕ)). new ∷ rest) (sym (other xs (subst (λ (text : List ℕ). AllByRecursion (λ kind. bytes_eq text kind ≡ false) xs) same distinct.0))))
  renamed-set (x ∷ xs) (suc place) distinct at =
      let apart : bytes_eq x old ≡ false = at_place (λ kind. bytes_eq x kind ≡ false) place old xs distinct.0 at in
      next (bytes_eq old x) refl apart (renamed-set xs place distinct.1 at)
    where
      next : (b : Bool) → bytes_eq old x ≡ b → bytes_eq x old ≡ false → slice_set xs place new ≡ map (renamed old new) xs → x ∷ slice_set xs place new ≡ cond b new x ∷ map (renamed old new) xs
      next true is apart rest = absurd (true≢false (sym ((bytes_eq-Decides x old).1 (sym ((bytes_eq-Decides old x).0 is))) ∙ apart))
      next false is apart rest = ap (λ (kinds : List (List ℕ)). x ∷ kinds) rest

  same_renamed : (kinds : List (List ℕ)) → map (renamed old old) kinds ≡ kinds
  same_renamed [] = refl
  same_renamed (x ∷ xs) = next (bytes_eq old x) refl (same_renamed xs)
    where
      next : (b : Bool) → bytes_eq old x ≡ b → map (renamed old old) xs ≡ xs → cond b old x ∷ map (renamed old old) xs ≡ x ∷ xs
      next true is rest = λ i. (bytes_eq-Decides old x).0 is i ∷ rest i
      next false is rest = ap (λ (kinds : List (List ℕ)). x ∷ kinds) rest

-- the place that a look-up found, or that it found none
pub place_found : (place : ℕ) (o : Option ℕ) → Some place ≡ option_map (λ n. n) o → o ≡ Some place
place_found place (Some n) is = sym is
place_found place None is = absurd (none-some place (sym is))

pub no_place_found : (o : Option ℕ) → None ≡ option_map (λ n. n) o → o ≡ None
no_place_found (Some n) is = absurd (none-some n is)
no_place_found None is = refl

-- the name of a kind that is given again
pub renamed-again : (kinds : List (List ℕ)) (number : ℕ) (text : List ℕ) → slice_get kinds number ≡ Some text → kinds ≡ map (renamed (slice_index_or kinds number []) text) kinds
renamed-again kinds number text reads = rw (get_or_from_slice_get kinds number text [] reads) (sym (same_renamed text text kinds))

-- what it is for a kind to be another one
pub tells_other : (store : Store) (entity : Entity) (kind : List ℕ) → (is_other_kind store entity kind ≡ true) ↔ ((entity.kind ≢ kind) × IsSome (symbol_of store.kinds kind))
tells_other store entity kind = next (bytes_eq entity.kind kind) refl
  where
    there : Bool
    there = is_some (symbol_of store.kinds kind)

    next : (b : Bool) → bytes_eq entity.kind kind ≡ b → (is_other_kind store entity kind ≡ true) ↔ ((entity.kind ≢ kind) × IsSome (symbol_of store.kinds kind))
    next true is = (λ other. absurd (true≢false (sym other ∙ ap (λ b. not b && there) is)), λ parts. absurd (parts.0 ((bytes_eq-Decides entity.kind kind).0 is)))
    next false is = (
      λ other. (λ same. true≢false (sym ((bytes_eq-Decides entity.kind kind).1 same) ∙ is), sym (ap (λ b. not b && there) is) ∙ other),
      λ parts. ap (λ b. not b && there) is ∙ parts.1,
    )

-- ---- what is shown

not_bound : {T : Type 0} (result : Result T ArenaError) → IfErr result (λ error. (error ≡ DuplicateItem) ⊎ (error ≡ OutOfSystemMemory)) → IsErrOf result KeyOutOfBounds → ⊥
not_bound (Ok x) errors is = cc is
not_bound (Err e) (inl duplicate) is = cc (duplicate, is)
not_bound (Err e) (inr memory) is = cc (memory, is)

module _ (names kinds : List (List ℕ)) (properties : List (Option ℕ)) where
  pub all_shown_length : (number : ℕ) (entities : List Named) → length (all_shown names kinds properties number entities) ≡ length entities
  all_shown_length number [] = refl
  all_shown_length number (e ∷ es) = omega (arith, all_shown_length (number + 1) es)

  pub all_shown_get : (number i : ℕ) (entities : List Named) → slice_get (all_shown names kinds properties number entities) i ≡ option_map (shown names kinds properties (number + i)) (slice_get entities i)
  all_shown_get number i [] = refl
  all_shown_get number zero (e ∷ es) = ap (λ n. Some (shown names kinds properties n e)) (omega arith)
  all_shown_get number (suc i) (e ∷ es) = all_shown_get (number + 1) i es ∙ ap (λ n. option_map (shown names kinds properties n) (slice_get es i)) (omega arith)

  -- the entity of a key
  pub all_shown_at : (key : ℕ) (entities : List Named) (named : Named) → slice_get entities key ≡ Some named → slice_get (all_shown names kinds properties 0 entities) key ≡ Some (shown names kinds properties key named)
  all_shown_at key entities named is =
      all_shown_get 0 key entities ∙ (ap (option_map (shown names kinds properties (0 + key))) is ∙ ap (λ n. Some (shown names kinds properties n named)) (omega arith))

  pub all_shown_read : (key : ℕ) (entities : List Named) (named : Named) (name kind : List ℕ) (slot : Option ℕ) → slice_get entities key ≡ Some named → slice_get names named.name ≡ Some name → slice_get kinds named.kind ≡ Some kind → slot ≡ component_at properties key
      → slice_get (all_shown names kinds properties 0 entities) key ≡ Some (record { name = name; kind = kind; property = slot })
  all_shown_read key entities named name kind slot is name_is kind_is at =
      all_shown_at key entities named is
      ∙ λ i. Some (record { name = get_or_from_slice_get names named.name name [] name_is i; kind = get_or_from_slice_get kinds named.kind kind [] kind_is i; property = sym at i })

  pub all_shown_past : (key : ℕ) (entities : List Named) → length entities ≤ key → slice_get (all_shown names kinds properties 0 entities) key ≡ None
  all_shown_past key entities past = slice_get_past (all_shown names kinds properties 0 entities) key (omega (arith, past, all_shown_length 0 entities))

  -- the property of a key
  pub all_shown_slot : (key : ℕ) (entities : List Named) → key < length entities → option_map (λ (entity : Entity). entity.property) (slice_get (all_shown names kinds properties 0 entities) key) ≡ Some (component_at properties key)
  all_shown_slot key entities low = next (slice_get entities key) refl
    where
      next : (o : Option Named) → slice_get entities key ≡ o → option_map (λ (entity : Entity). entity.property) (slice_get (all_shown names kinds properties 0 entities) key) ≡ Some (component_at properties key)
      next (Some named) is = ap (option_map (λ (entity : Entity). entity.property)) (all_shown_at key entities named is)
      next None is = absurd (none-at entities key low is)
        where
          none-at : (xs : List Named) (k : ℕ) → k < length xs → slice_get xs k ≡ None → ⊥
          none-at [] k low is = omega (arith, low)
          none-at (x ∷ xs) zero low is = none-some x (sym is)
          none-at (x ∷ xs) (suc k) low is = none-at xs k (omega (arith, low)) is

  -- one with a property has a number below the extent
  pub below_extent : (key : ℕ) (entity : Entity) (entities : List Named) → slice_get (all_shown names kinds properties 0 entities) key ≡ Some entity → IsSome entity.property → key < extent properties
  below_extent key entity entities at has =
      let low : key < length entities = omega (arith, slice_get_within (all_shown names kinds properties 0 entities) key entity at, all_shown_length 0 entities) in
      let property : entity.property ≡ component_at properties key = same_Some entity.property (component_at properties key) (sym (ap (option_map (λ (e : Entity). e.property)) at) ∙ all_shown_slot key entities low) in
      next (ltb key (extent properties)) refl property
    where
      next : (b : Bool) → ltb key (extent properties) ≡ b → entity.property ≡ component_at properties key → key < extent properties
      next true low property = ltb-true _ _ low
      next false high property = absurd (true≢false (sym has ∙ ap is_some (property ∙ get_or_past properties key None (grind (arith, nat_tests)))))

  pub all_shown_append : (number : ℕ) (entities : List Named) (last : Named) → all_shown names kinds properties number (entities ++ last ∷ []) ≡ all_shown names kinds properties number entities ++ shown names kinds properties (number + length entities) last ∷ []
  all_shown_append number [] last = ap (λ n. shown names kinds properties n last ∷ []) (omega arith)
  all_shown_append number (e ∷ es) last =
      ap (λ (rest : List Entity). shown names kinds properties number e ∷ rest) (all_shown_append (number + 1) es last ∙ ap (λ n. all_shown names kinds properties (number + 1) es ++ shown names kinds properties n last ∷ []) (omega arith))

  abbrev IsNamed : Named → Type 0
  IsNamed named = (named.name < length names) × (named.kind < length kinds)

  -- each entity's name and kind are among the names and the kinds
  pub listed : (number : ℕ) (entities : List Named) → AllByRecursion IsNamed entities → AllByRecursion (λ (entity : Entity). IsSome (symbol_of names entity.name) × IsSome (symbol_of kinds entity.kind)) (all_shown names kinds properties number entities)
  listed number [] named = tt
  listed number (e ∷ es) named = ((is_text names e.name named.0.0, is_text kinds e.kind named.0.1), listed (number + 1) es named.1)

  -- an entity's name and kind have numbers below theirs
  pub named_at : (key : ℕ) (named : Named) (entities : List Named) → IsSound names kinds properties entities → slice_get entities key ≡ Some named → IsNamed named
  named_at key named entities sound at = at_place IsNamed key named entities sound.named at

  -- a key reads an entity where it reads its numbers
  pub ok_bound : {T U : Type 0} (x : T) (y : U) (key : ℕ) (entities : List Named) → IsErrOf {T = T} {E = ArenaError} (Ok x) KeyOutOfBounds ↔ (length entities ≤ key)
      → IsErrOf {T = U} {E = ArenaError} (Ok y) KeyOutOfBounds ↔ (length (all_shown names kinds properties 0 entities) ≤ key)
  ok_bound x y key entities bound = (λ is. absurd (cc is), λ past. absurd (let same = bound.1 (omega (arith, past, all_shown_length 0 entities)) in cc same))

  pub err_bound : {T U : Type 0} (error : ArenaError) (key : ℕ) (entities : List Named) → IsErrOf {T = T} {E = ArenaError} (Err error) KeyOutOfBounds ↔ (length entities ≤ key)
      → IsErrOf {T = U} {E = ArenaError} (Err error) KeyOutOfBounds ↔ (length (all_shown names kinds properties 0 entities) ≤ key)
  err_bound error key entities bound = (
    λ is. let same : error ≡ KeyOutOfBounds = cc is in omega (arith, bound.0 (ap Err same), all_shown_length 0 entities),
    λ past. let refused = bound.1 (omega (arith, past, all_shown_length 0 entities)) in let same : error ≡ KeyOutOfBounds = cc refused in ap Err same,
  )

  -- a kind's new name is refused for no key
  pub rename_bound : {T : Type 0} (result : Result T ArenaError) (key : ℕ) (named : Named) (entities : List Named) → IfErr result (λ error. (error ≡ DuplicateItem) ⊎ (error ≡ OutOfSystemMemory)) → slice_get entities key ≡ Some named
      → IsErrOf result KeyOutOfBounds ↔ (length (all_shown names kinds properties 0 entities) ≤ key)
  rename_bound result key named entities errors at = (λ is. absurd (not_bound result errors is), λ past. absurd (omega (arith, past, slice_get_within entities key named at, all_shown_length 0 entities)))

  -- other kinds, as many as before
  pub IsSound-kinds : (more : List (List ℕ)) (entities : List Named) → length more ≡ length kinds → IsSound names kinds properties entities → IsSound names more properties entities
  IsSound-kinds more entities same sound = record {
    named = subst (λ (len : ℕ). AllByRecursion (λ (named : Named). (named.name < length names) × (named.kind < len)) entities) (sym same) sound.named;
    few = sound.few;
  }

  -- more names and kinds change no entity
  module _ (more_names more_kinds : List (List ℕ)) (grows : Grows names more_names) (kinds_grow : Grows kinds more_kinds) where
    pub all_shown_more : (number : ℕ) (entities : List Named) → AllByRecursion IsNamed entities → all_shown more_names more_kinds properties number entities ≡ all_shown names kinds properties number entities
    all_shown_more number [] named = refl
    all_shown_more number (e ∷ es) named =
        λ i. record { name = grows.1 e.name named.0.0 i; kind = kinds_grow.1 e.kind named.0.1 i; property = component_at properties number } ∷ all_shown_more (number + 1) es named.1 i

    named_more : (entities : List Named) → AllByRecursion IsNamed entities → AllByRecursion (λ (named : Named). (named.name < length more_names) × (named.kind < length more_kinds)) entities
    named_more [] named = tt
    named_more (e ∷ es) named = let bounds = named.0 in ((omega (arith, bounds, grows.0), omega (arith, bounds, kinds_grow.0)), named_more es named.1)

    pub IsSound-more : (entities : List Named) → IsSound names kinds properties entities → IsSound more_names more_kinds properties entities
    IsSound-more entities sound = record { named = named_more entities sound.named; few = sound.few }

  named_last : (entities : List Named) (last : Named) → AllByRecursion IsNamed entities → IsNamed last → AllByRecursion IsNamed (entities ++ last ∷ [])
  named_last [] last named here = (here, tt)
  named_last (e ∷ es) last named here = (named.0, named_last es last named.1 here)

  pub IsSound-last : (entities : List Named) (last : Named) (name kind : List ℕ) → IsSound names kinds properties entities → slice_get names last.name ≡ Some name → slice_get kinds last.kind ≡ Some kind → IsSound names kinds properties (entities ++ last ∷ [])
  IsSound-last entities last name kind sound name_is kind_is = record {
    named = named_last entities last sound.named (slice_get_within names last.name name name_is, slice_get_within kinds last.kind kind kind_is);
    few = let few = sound.few in omega (arith, few, length-append entities (last ∷ []));
  }

  -- one entity's property changes
  module _ (after : List (Option ℕ)) (slot : Option ℕ) where
    unchanged : (number : ℕ) (entities : List Named) → ((n : ℕ) → number ≤ n → component_at after n ≡ component_at properties n) → all_shown names kinds after number entities ≡ all_shown names kinds properties number entities
    unchanged number [] same = refl
    unchanged number (e ∷ es) same = λ i. record { name = slice_index_or names e.name []; kind = slice_index_or kinds e.kind []; property = same number (omega arith) i } ∷ unchanged (number + 1) es (λ n high. same n (omega (arith, high))) i

    pub all_shown_property : (number place target : ℕ) (entities : List Named) → number + place ≡ target → ChangesAt properties target slot after → all_shown names kinds after number entities ≡ entities_with_property (all_shown names kinds properties number entities) place slot
    all_shown_property number place target [] at changes = refl
    all_shown_property number zero target (e ∷ es) at changes =
        let here : number ≡ target = omega (arith, at) in
        λ i. record { name = slice_index_or names e.name []; kind = slice_index_or kinds e.kind []; property = (ap (component_at after) here ∙ changes.there) i } ∷ unchanged (number + 1) es (λ n high. changes.elsewhere n (λ same. omega (arith, same, at, high))) i
    all_shown_property number (suc place) target (e ∷ es) at changes =
        λ i. record { name = slice_index_or names e.name []; kind = slice_index_or kinds e.kind []; property = changes.elsewhere number (λ same. omega (arith, same, at)) i } ∷ all_shown_property (number + 1) place target es (omega (arith, at)) changes i

  -- a kind is renamed
  pub all_shown_renamed : (old new : List ℕ) (number : ℕ) (entities : List Named) → AllByRecursion IsNamed entities → all_shown names (map (renamed old new) kinds) properties number entities ≡ map (with_renamed_kind old new) (all_shown names kinds properties number entities)
  all_shown_renamed old new number [] named = refl
  all_shown_renamed old new number (e ∷ es) named =
      let bound = named.0.1 in
      λ i. record { name = slice_index_or names e.name []; kind = get_or-map (renamed old new) kinds e.kind [] [] bound i; property = component_at properties number } ∷ all_shown_renamed old new (number + 1) es named.1 i

-- ---- whole stores

module _ (names kinds : List (List ℕ)) (properties : List (Option ℕ)) (entities : List Named) where
  pub shown_property : (after : List (Option ℕ)) (key : ℕ) (slot : Option ℕ) → ChangesAt properties key slot after → store_of names kinds after entities ≡ with_property (store_of names kinds properties entities) key slot
  shown_property after key slot changes =
      ap (λ (shown_ones : List Entity). record { names = names; kinds = kinds; entities = shown_ones }) (all_shown_property names kinds properties after slot 0 key key entities (omega arith) changes)

  pub shown_renamed : (old new : List ℕ) → IsSound names kinds properties entities → store_of names (map (renamed old new) kinds) properties entities ≡ with_renamed (store_of names kinds properties entities) old new
  shown_renamed old new sound =
      ap (λ (shown_ones : List Entity). record { names = names; kinds = map (renamed old new) kinds; entities = shown_ones }) (all_shown_renamed names kinds properties old new 0 entities sound.named)

  module _ (name kind : List ℕ) (sound : IsSound names kinds properties entities) where
    grown : (texts more : List (List ℕ)) (text : List ℕ) → (more ≡ texts) ⊎ (more ≡ with_new texts text) → Grows texts more
    grown texts more text (inl same) = subst (Grows texts) (sym same) (omega arith, λ i low. refl)
    grown texts more text (inr new) = subst (Grows texts) (sym new) (Grows-with_new texts text)

    -- where the name or the kind may have come
    module _ (more_names more_kinds : List (List ℕ)) (names_are : (more_names ≡ names) ⊎ (more_names ≡ with_new names name)) (kinds_are : (more_kinds ≡ kinds) ⊎ (more_kinds ≡ with_new kinds kind)) where
      pub sound_kept : IsSound more_names more_kinds properties entities
      sound_kept = IsSound-more names kinds properties more_names more_kinds (grown names more_names name names_are) (grown kinds more_kinds kind kinds_are) entities sound

      pub shown_kept : KeepsEntities (store_of names kinds properties entities) name kind (store_of more_names more_kinds properties entities)
      shown_kept = record {
        names = names_are;
        kinds = kinds_are;
        entities = all_shown_more names kinds properties more_names more_kinds (grown names more_names name names_are) (grown kinds more_kinds kind kinds_are) 0 entities sound.named;
      }

    -- where both did, and an entity
    module _ (more_names more_kinds : List (List ℕ)) (names_are : more_names ≡ with_new names name) (kinds_are : more_kinds ≡ with_new kinds kind) (last : Named) (name_is : slice_get more_names last.name ≡ Some name) (kind_is : slice_get more_kinds last.kind ≡ Some kind) where
      pub sound_added : IsSound more_names more_kinds properties (entities ++ last ∷ [])
      sound_added = IsSound-last more_names more_kinds properties entities last name kind (sound_kept more_names more_kinds (inr names_are) (inr kinds_are)) name_is kind_is

      pub shown_added : store_of more_names more_kinds properties (entities ++ last ∷ []) ≡ with_entity (store_of names kinds properties entities) name kind
      shown_added =
          let same = all_shown_more names kinds properties more_names more_kinds (grown names more_names name (inr names_are)) (grown kinds more_kinds kind (inr kinds_are)) 0 entities sound.named in
          let none = get_or_past properties (0 + length entities) None (let few = sound.few in omega (arith, few)) in
          let all : all_shown more_names more_kinds properties 0 (entities ++ last ∷ []) ≡ all_shown names kinds properties 0 entities ++ record { name = name; kind = kind; property = None } ∷ [] =
          all_shown_append more_names more_kinds properties 0 entities last ∙ (λ j. same j ++ record { name = get_or_from_slice_get more_names last.name name [] name_is j; kind = get_or_from_slice_get more_kinds last.kind kind [] kind_is j; property = none j } ∷ []) in
          λ i. record { names = names_are i; kinds = kinds_are i; entities = all i }

      -- or there was no memory for it
      module _ {K E : Type 0} (result : Result K E) (after : List Named) (ok : OnOk result (after ≡ entities ++ last ∷ [])) (err : OnErr result (after ≡ entities)) where
        pub sound_pushed : IsSound more_names more_kinds properties after
        sound_pushed = next result ok err
          where
            next : (r : Result K E) → OnOk r (after ≡ entities ++ last ∷ []) → OnErr r (after ≡ entities) → IsSound more_names more_kinds properties after
            next (Ok key) pushed stays = subst (IsSound more_names more_kinds properties) (sym pushed) sound_added
            next (Err error) pushed stays = subst (IsSound more_names more_kinds properties) (sym stays) (sound_kept more_names more_kinds (inr names_are) (inr kinds_are))

  pub keys_left : length entities < stable_limit (own_keys (2 ^ 32)) → max_len ≤ length (all_shown names kinds properties 0 entities) → ⊥
  keys_left low high = omega (arith, low, high, all_shown_length names kinds properties 0 entities)

  -- there are keys left, and the name has a symbol
  pub not_full : (name : List ℕ) (symbol : ℕ) → length entities < stable_limit (own_keys (2 ^ 32)) → ((symbol_of names name ≡ None) × (2 ^ 32 ≤ length names) → IsErrOf {T = ℕ} {E = ArenaError} (Ok symbol) NotEnoughKeys) → IsFullFor (store_of names kinds properties entities) name → ⊥
  not_full name symbol low refused (inl high) = keys_left low high
  not_full name symbol low refused (inr new) = let same = refused new in cc

  pub full : (name : List ℕ) → stable_limit (own_keys (2 ^ 32)) ≤ length entities → IsFullFor (store_of names kinds properties entities) name
  full name high = inl (omega (arith, high, all_shown_length names kinds properties 0 entities))

pub OnErr-of : {T E P : Type 0} (r : Result T E) → P → OnErr r P
OnErr-of (Ok x) p = tt
OnErr-of (Err e) p = p

-- what holds after an `Ok` and after an `Err`
pub either_way : {T E P R : Type 0} {Q : T → Type 0} (r : Result T E) → ((x : T) → Q x → P) → (R → P) → IfOk r Q → OnErr r R → P
either_way (Ok x) ok err q r = ok x q
either_way (Err e) ok err q r = err r

pub on_either : {T E P Q R : Type 0} (r : Result T E) → (Q → P) → (R → P) → OnOk r Q → OnErr r R → P
on_either (Ok x) ok err q r = ok q
on_either (Err e) ok err q r = err r

-- one error more
pub one_more : {T E : Type 0} (P Q : E → Type 0) (r : Result T E) → IfErr r Q → IfErr r (λ error. P error ⊎ Q error)
one_more P Q (Ok x) q = tt
one_more P Q (Err e) q = inr q
