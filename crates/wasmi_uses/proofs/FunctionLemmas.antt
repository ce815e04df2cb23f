-- What a table of functions shows, and under which symbols its keys stand.
-- for src/functions.rt
use Rattle.std.proofs.Common.{◌≡◌, ◌<◌, ℕ, suc, nat_eq, List, [], ◌∷◌, ◌++◌, length, map, Some, slice_get, slice_index_or, option_map, refl, ◌∙◌, arith}
use Rattle.std.proofs.lemmas.Bool.Decides.{nat_tests}
use Rattle.std.proofs.lemmas.List.{length-map, map_push}
use Rattle.std.proofs.lemmas.Option.{slice_get-map, slice_get-get_or, slice_get_cases, slice_get_within, get_or_from_slice_get}
use Rattle.wasmi_map_specs.specs.Maps.{ChangesAt}
use Rattle.wasmi_uses.specs.Functions.{IsFree, shown, symbols_of, IsSound}
use Rattle.wasmi_uses.specs.declared.functions.Function.{Function}
use Rattle.wasmi_uses.proofs.NameLemmas.{slice_get-push, slice_get-push_kept, slice_get-push_last}

-- what a table shows under a key, and the symbol there, by the function there
pub seen_at : (names : List (List ℕ)) (functions : List Function) (key : ℕ) → (slice_get (map (shown names) functions) key ≡ option_map (shown names) (slice_get functions key))
    × (slice_get (symbols_of functions) key ≡ option_map (λ f. f.symbol) (slice_get functions key))
seen_at names functions key = (slice_get-map (shown names) functions key, slice_get-map (λ f. f.symbol) functions key)

pub ruleset seen = (seen_at, slice_get-get_or, slice_get_cases)

-- more names, where each symbol that had a name has it still
module _ (names more : List (List ℕ)) (earlier : (name : List ℕ) (symbol : ℕ) → slice_get names symbol ≡ Some name → slice_get more symbol ≡ Some name) where
  still : (symbol : ℕ) → symbol < length names → slice_get more symbol ≡ Some (slice_index_or names symbol [])
  still symbol below = earlier (slice_index_or names symbol []) symbol (slice_get-get_or names symbol [] below)

  pub still_shown : (functions : List Function) → ((key symbol : ℕ) → slice_get (symbols_of functions) key ≡ Some symbol → symbol < length names) → map (shown more) functions ≡ map (shown names) functions
  still_shown [] named = refl
  still_shown (f ∷ fs) named = λ i. (get_or_from_slice_get more f.symbol (slice_index_or names f.symbol []) [] (still f.symbol (named 0 f.symbol refl)) i, f.value) ∷ still_shown fs (λ key. named (suc key)) i

  -- and one more function at the end, of a name that no other has
  module _ (keys after : List (ℕ × ℕ)) (functions : List Function) (function : Function) (name : List ℕ) (sound : IsSound nat_eq names keys (symbols_of functions)) (reads : slice_get more function.symbol ≡ Some name) where
    pub shown_push : map (shown more) (functions ++ function ∷ []) ≡ map (shown names) functions ++ (name, function.value) ∷ []
    shown_push = map_push (shown more) functions function ∙ λ i. still_shown functions sound.named i ++ (get_or_from_slice_get more function.symbol name [] reads i, function.value) ∷ []

    free : IsFree (map (shown names) functions) name → (key : ℕ) → slice_get (symbols_of functions) key ≡ Some function.symbol → ⊥
    free is_free key at = let same = still function.symbol (sound.named key function.symbol at) in grind (arith, seen, is_free key)

    pub sound_push : IsFree (map (shown names) functions) name → ChangesAt nat_eq keys function.symbol (Some (length functions)) after → IsSound nat_eq more after (symbols_of (functions ++ function ∷ []))
    sound_push is_free changes =
        let was = slice_get-push (symbols_of functions) function.symbol in
        rw (map_push (λ (f : Function). f.symbol) functions function) (record {
          named = λ key s at. grind (arith, was s key at, sound.named key s, slice_get_within more function.symbol name reads, slice_get_within more s (slice_index_or names s []), still s);
          keyed = λ key s. grind (arith, nat_tests, changes s, was s key, slice_get-push_kept (symbols_of functions) function.symbol s key, slice_get-push_last (symbols_of functions) function.symbol, sound.keyed key s, free is_free key, length-map functions (λ (f : Function). f.symbol));
        })
