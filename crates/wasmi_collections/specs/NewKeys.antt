-- Which keys and symbols a run hands out that weren't there before.
use Rattle.std.specs.Prelude.{ℕ, ◌==◌, nat_le, cond, not, List, [], ◌∷◌, filter, Option, Some, None}
use Rattle.wasmi_arena.specs.Keys.{Keys}
use Rattle.wasmi_collections.specs.declared.run.dedup.DedupReply.{DedupReply}
use Rattle.wasmi_collections.specs.declared.run.dedup.DedupReply.TheVariants.{Key, Old, Has, Done, Refused}
use Rattle.wasmi_collections.specs.declared.run.interner.InternReply.{InternReply}
use Rattle.wasmi_collections.specs.declared.run.interner.InternReply.TheVariants.{Sym, Found, Len, Refused as InternRefused}

-- the numbers from this one on that are among others, each where it comes first.
-- Of 2, 0, 2, 3 from 2 on: 2, 3.
abbrev pub new_numbers : ℕ → List ℕ → List ℕ
new_numbers from [] = []
new_numbers from (n ∷ ns) = cond (nat_le from n) (n ∷ filter (λ m. not (m == n)) (new_numbers from ns)) (new_numbers from ns)

-- the number of the key that a value was given, if the reply has one
abbrev pub number_replied : {K T : Type 0} → Keys K → DedupReply K T → Option ℕ
number_replied keys (Key key) = Some (keys.number key)
number_replied keys (Old there) = None
number_replied keys (Has found) = None
number_replied keys Done = None
number_replied keys (Refused error) = None

-- the symbol under which a text was interned, if the reply has one
abbrev pub symbol_replied : InternReply → Option ℕ
symbol_replied (Sym symbol) = Some symbol
symbol_replied (Found symbol) = None
symbol_replied (Len len) = None
symbol_replied (InternRefused error) = None
