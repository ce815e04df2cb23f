-- A script at work, and what one line adds to its replies.
use Rattle.std.specs.Prelude.{◌≡◌, ℕ, List, [], ◌∷◌, ◌++◌, String, map, string_bytes}
use Rattle.wasmi_script_lib.specs.declared.texts.ScriptTexts.{ScriptTexts}
use Rattle.wasmi_script_lib.specs.States.{State, empty}
use Rattle.wasmi_script_lib.specs.Store.{Store, no_entities}

module _ {A : Type 0} where
  -- what is kept by a script that has these texts and these entities
  abbrev pub state_of : ScriptTexts A → Store → State
  state_of texts store = record {
    kept = map string_bytes texts.arena;
    deduped = map string_bytes texts.dedup.handed;
    interned = texts.interner;
    store = store;
  }

  -- by one that has texts alone
  abbrev pub with_texts : ScriptTexts A → State
  with_texts texts = state_of texts no_entities

-- what is kept by a script that has entities alone
abbrev pub with_store : Store → State
with_store store = record empty { store = store }

-- this reply and a line feed were added
abbrev pub AddsReply : {A : Type 0} → String A → String A → List ℕ → Type 0
AddsReply old new reply = string_bytes new ≡ string_bytes old ++ (reply ++ 10 ∷ [])
