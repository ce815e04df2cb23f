-- What a hashed map, and a hashed set, is once an iterator that took all out of it has ended.
use Rattle.std.specs.Prelude.{[]}
use Rattle.std.specs.Borrow.{Fml, GName, RattleType, MutBor, Array, follows}
use Rattle.std.specs.HashMap.Lent.{HashMembers}
use Rattle.std.specs.declared.alloc.Allocator as alloc
use Rattle.std.specs.declared.hash.Hasher as hasher
use Rattle.std.specs.declared.hash.BuildHasher as builder
use Rattle.wasmi_hashed.specs.Entries.{Entries, Elements}
use Rattle.wasmi_hashed.specs.contracts.map.Map.{the_row as MapRow}
use Rattle.wasmi_hashed.specs.contracts.set.Set.{the_row as SetRow}
use denote.Struct.Field.{unit-field}

module _ (K V S A H : RattleType) (g : HashMembers K.Denot) (b : builder.Ghosts S.Denot H.Denot) (w : hasher.Ghosts H.Denot) (heap : alloc.Ghosts A.Denot) where
  -- the map is empty once the loan of this name ends, and has its state
  abbrev pub empties_map : MutBor (Entries K.Denot V.Denot S.Denot) → GName → Fml
  empties_map map name = follows (MapRow K V S A H (record { eq = g.eq }) (record { hash_input = g.hash_input }) b w heap) (Array V 0) map.ghost_name name
      (λ _. record { entries = []; hasher = map.now.hasher })

module _ (T S A H : RattleType) (g : HashMembers T.Denot) (b : builder.Ghosts S.Denot H.Denot) (w : hasher.Ghosts H.Denot) (heap : alloc.Ghosts A.Denot) where
  -- the set is empty once the loan of this name ends, and has its state
  abbrev pub empties_set : MutBor (Elements T.Denot S.Denot) → GName → Fml
  empties_set set name = follows (SetRow T S A H (record { eq = g.eq }) (record { hash_input = g.hash_input }) b w heap) (Array unit-field.row 0) set.ghost_name name
      (λ _. record { elements = []; hasher = set.now.hasher })
