-- What an interner is: a list of distinct texts, whose positions are the symbols.
use Rattle.std.specs.Prelude.{◌≡◌, ℕ, ◌<◌, ◌≤◌, ◌^◌, ◌⊎◌, List, [], ◌∷◌, ◌++◌, length, Option, None, Some, Result, Ok, Err, position}
use Rattle.std.specs.Borrow.{Bor}
use Rattle.std.specs.Iterator.{Drains, YieldsThen}
use Rattle.std.specs.List.{IsDistinct}
use Rattle.std.specs.Str.{bytes_eq}
use Rattle.wasmi_arena.specs.Entries.{entries_from}
use Rattle.wasmi_arena.specs.Keys.{own_keys}
use Rattle.wasmi_arena.specs.declared.error.ArenaError.{ArenaError}
use Rattle.wasmi_arena.specs.declared.error.ArenaError.TheVariants.{OutOfSystemMemory, NotEnoughKeys}

-- the symbol of a text: its position among these, if it is there.
-- Among b, a: of a it is 1, of c there is none.
abbrev pub symbol_of : List (List ℕ) → List ℕ → Option ℕ
symbol_of texts text = position (bytes_eq text) texts

-- no text stands at two positions.
-- b, a are distinct; b, a, b aren't.
abbrev pub AreDistinctTexts : List (List ℕ) → Type 0
AreDistinctTexts texts = IsDistinct bytes_eq texts

-- each text beside its symbol, where the first has the symbol `from`
abbrev pub with_symbols_from : ℕ → List (List ℕ) → List (ℕ × List ℕ)
with_symbols_from from texts = entries_from (own_keys (2 ^ 32)) from texts

-- each text of an interner beside its symbol.
-- Of b, a: (0, b), (1, a).
abbrev pub with_symbols : List (List ℕ) → List (ℕ × List ℕ)
with_symbols texts = with_symbols_from 0 texts

-- A text is interned under a symbol: under its position, where it is there, and else, where fewer than
-- 2^32 texts are, at their end.
-- From b: b has 0 and leaves b; a has 1 and leaves b, a.
abbrev pub Interns : List (List ℕ) → List ℕ → ℕ → List (List ℕ) → Type 0
Interns old text symbol new =
    ((symbol_of old text ≡ Some symbol) × (new ≡ old))
    ⊎ ((symbol_of old text ≡ None) × (length old < 2 ^ 32) × (symbol ≡ length old)
    × (new ≡ old ++ text ∷ []))

-- A text is refused only where it isn't there: because no symbol is left, where there are 2^32 texts, and else
-- because memory ran out.
abbrev pub RefusesText : List (List ℕ) → List ℕ → ArenaError → Type 0
RefusesText old text error =
    (symbol_of old text ≡ None)
    × (((error ≡ NotEnoughKeys) × (2 ^ 32 ≤ length old))
    ⊎ ((error ≡ OutOfSystemMemory) × (length old < 2 ^ 32)))

-- what a call that interns a text returns, and leaves: the text's symbol, or why it is refused, and then all
-- is as before
abbrev pub Interning : List (List ℕ) → List ℕ → Result ℕ ArenaError → List (List ℕ) → Type 0
Interning old text (Ok symbol) new = Interns old text symbol new
Interning old text (Err error) new = RefusesText old text error × (new ≡ old)

-- all these texts are interned, one after another
abbrev pub InternsEach : List (List ℕ) → List (Bor (List ℕ)) → List (List ℕ) → Type 0
InternsEach old [] new = new ≡ old
InternsEach old (text ∷ texts) new =
    (symbol : ℕ) × (next : List (List ℕ)) × Interns old text.now symbol next × InternsEach next texts new

-- what is made an iterator by `becomes`, which then steps by `steps`
module _ {U S : Type 0} (becomes : U → S → Type 0) (steps : S → Option (Bor (List ℕ)) → S → Type 0) where
  -- all its texts are interned
  abbrev pub InternsAll : U → List (List ℕ) → List (List ℕ) → Type 0
  InternsAll iter old new =
      (it : S) × (texts : List (Bor (List ℕ))) × becomes iter it × Drains steps it texts × InternsEach old texts new

  -- its texts are, up to one that was refused
  abbrev pub InternsUntilRefused : U → List (List ℕ) → List (List ℕ) → ArenaError → Type 0
  InternsUntilRefused iter old new error =
      (it : S) × (texts : List (Bor (List ℕ))) × (text : Bor (List ℕ)) × (rest : S) × becomes iter it
      × YieldsThen steps it texts (Some text) rest × InternsEach old texts new × RefusesText new text.now error
