-- The hash of a text, by which an interner's index is kept. That it is a function of the text is all that is used.
use Rattle.std.specs.Prelude.{ℕ, ◌/◌, ◌^◌, List}
use Rattle.core.specs.Hash.FoldHasher.{initial, write, finish}

-- the upper half of what the standard library's `FoldHasher` makes of the bytes
unfoldable pub hash_of : List ℕ → ℕ
hash_of text = finish (write initial text) / 2 ^ 32
