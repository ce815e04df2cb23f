-- The texts of the replies, without the line feed.
use Rattle.std.specs.Prelude.{ℕ, List, ◌++◌, if◌then◌else◌, Option, Some, None, codes, decimal}
use Rattle.wasmi_arena.specs.Errors.{text_of}
use Rattle.wasmi_arena.specs.declared.error.ArenaError.{ArenaError}
use Rattle.wasmi_arena.specs.declared.error.ArenaError.TheVariants.{DuplicateItem, KeyOutOfBounds, NotEnoughKeys}
use Rattle.wasmi_script_lib.specs.Store.{Entity, Store, is_other_kind}

-- `error` and why
abbrev pub error_reply : ArenaError → List ℕ
error_reply error = codes "error " ++ text_of error

-- `text` and the text that was found, or else this
abbrev pub text_reply : List ℕ → Option (List ℕ) → List ℕ
text_reply otherwise (Some text) = codes "text " ++ text
text_reply otherwise None = otherwise

-- the number that is given, after a word, or that there is none
abbrev pub number_reply : List ℕ → Option ℕ → List ℕ
number_reply word (Some number) = word ++ decimal number
number_reply word None = error_reply NotEnoughKeys

-- a property, or `none`
abbrev pub property_text : Option ℕ → List ℕ
property_text (Some property) = decimal property
property_text None = codes "none"

-- `was` and the property of an entity, before it is given another
abbrev pub was_reply : Option Entity → List ℕ
was_reply (Some entity) = codes "was " ++ property_text entity.property
was_reply None = error_reply KeyOutOfBounds

-- `is` and all of an entity.
-- As `is 7 bob admin`.
abbrev pub is_reply : Option Entity → List ℕ
is_reply (Some entity) =
    codes "is " ++ property_text entity.property ++ codes " " ++ entity.name ++ codes " "
    ++ entity.kind
is_reply None = error_reply KeyOutOfBounds

-- that the kind of an entity of a store was renamed, or why it wasn't
abbrev pub rename_reply : Store → List ℕ → Option Entity → List ℕ
rename_reply store kind (Some entity) =
    if is_other_kind store entity kind then error_reply DuplicateItem else codes "done"
rename_reply store kind None = error_reply KeyOutOfBounds
