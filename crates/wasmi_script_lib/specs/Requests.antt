-- What a line of a script asks for.
use Rattle.std.specs.Prelude.{ℕ, ◌+◌, ◌^◌, ◌==◌, ◌&&◌, List, [], ◌∷◌, length, take, drop, position, if◌then◌else◌, nat_lt, Option, Some, None, codes}
use Rattle.std.specs.Option.{option_map}
use Rattle.std.specs.Str.{all_ascii_digits, bytes_eq}
use Rattle.std.specs.Str.Parse.{digits_value}

-- what a line asks for. `p 32` is `Place 32`
pub data Request : Type 0 where
  -- `a TEXT`: keep the text
  Alloc : List ℕ → Request
  -- `g N`: which text has this key?
  Get : ℕ → Request
  -- `p N`: where does the item of this index lie?
  Place : ℕ → Request
  -- `n`: how much is kept?
  Count : Request
  -- `d TEXT`: keep the text unless an equal one is kept
  Dedup : List ℕ → Request
  -- `i TEXT`: intern the text
  Intern : List ℕ → Request
  -- `r N`: which text has this symbol?
  Resolve : ℕ → Request
  -- `e NAME KIND`: add an entity of this name and kind
  AddEntity : List ℕ → List ℕ → Request
  -- `v N M`: give the entity of this key a property
  SetProperty : ℕ → ℕ → Request
  -- `k N KIND`: rename the kind of the entity of this key
  RenameKind : ℕ → List ℕ → Request
  -- `q N`: what is the entity of this key?
  GetEntity : ℕ → Request

-- the number that one or more ASCII digits name, if it is below 2 ^ 64. Leading zeros are allowed.
-- Of `007`: 7. Of `+0` there is none.
abbrev pub number_of : List ℕ → Option ℕ
number_of [] = None
number_of (d ∷ ds) =
    if all_ascii_digits (d ∷ ds) && nat_lt (digits_value 10 (d ∷ ds)) (2 ^ 64)
    then Some (digits_value 10 (d ∷ ds))
    else None

-- what stands before the first space and what after it, if there is one.
-- Of `ann big cat`: `ann` and `big cat`.
abbrev pub parts_of : List ℕ → Option (List ℕ × List ℕ)
parts_of argument =
    option_map (λ place. (take place argument, drop (place + 1) argument))
    (position (λ b. b == 32) argument)

-- what two parts ask for: a name, which isn't empty, and a kind
abbrev pub add_of : Option (List ℕ × List ℕ) → Option Request
add_of (Some parts) = if length parts.0 == 0 then None else Some (AddEntity parts.0 parts.1)
add_of None = None

-- what two numbers ask for, a key and a property
abbrev pub set_of_numbers : Option ℕ → Option ℕ → Option Request
set_of_numbers (Some key) (Some property) = Some (SetProperty key property)
set_of_numbers (Some key) None = None
set_of_numbers None property = None

-- the same of the parts that tell them
abbrev pub set_of : Option (List ℕ × List ℕ) → Option Request
set_of (Some parts) = set_of_numbers (number_of parts.0) (number_of parts.1)
set_of None = None

-- a key and a kind
abbrev pub rename_of : Option (List ℕ × List ℕ) → Option Request
rename_of (Some parts) = option_map (λ key. RenameKind key parts.1) (number_of parts.0)
rename_of None = None

-- what the first two bytes of a line, a letter and a space, ask for of the rest
abbrev pub request_with : List ℕ → List ℕ → Option Request
request_with head argument =
    if bytes_eq head (codes "a ") then Some (Alloc argument)
    else if bytes_eq head (codes "g ") then option_map Get (number_of argument)
    else if bytes_eq head (codes "p ") then option_map Place (number_of argument)
    else if bytes_eq head (codes "d ") then Some (Dedup argument)
    else if bytes_eq head (codes "i ") then Some (Intern argument)
    else if bytes_eq head (codes "r ") then option_map Resolve (number_of argument)
    else if bytes_eq head (codes "e ") then add_of (parts_of argument)
    else if bytes_eq head (codes "v ") then set_of (parts_of argument)
    else if bytes_eq head (codes "k ") then rename_of (parts_of argument)
    else if bytes_eq head (codes "q ") then option_map GetEntity (number_of argument)
    else None

-- what a line asks for: `n` alone, or a letter, one space and an argument. Any other line asks for
-- nothing.
-- `a ` asks to keep the empty text.
abbrev pub request_of : List ℕ → Option Request
request_of line =
    if bytes_eq line (codes "n") then Some Count else request_with (take 2 line) (drop 2 line)
