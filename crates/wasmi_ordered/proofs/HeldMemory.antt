-- The entry of a key that is there is, in memory, the standard library's and a value without bytes. Assumes `Logic`.
-- for src/map/entry/occupied.rt
use Rattle.wasmi_arena.proofs.Steps.{Ura, full_share, SProp, ent, sep, align, up, Logic, sem, Lawfuls, mem, lone, param, Laws, param_laws, RattleType, Denots, NamedLft, Member, rows_of, PartsBack, rest_at, field_out, field_back, Struct}
use Prim.Native.Nat.{ℕ, zero, ◌+◌}
use mathlib.Core.List.{[], ◌∷◌, List}
use denote.Builtin as Builtin
use denote.Memory.{part_of}
use denote.Struct.Declared as Declared
use denote.Struct.Field as Field
use denote.Struct.Struct.{Struct-Lawful}
use Rattle.std.specs.contracts.marker.PhantomData as marker
use Rattle.std.specs.contracts.collections.btree_map.OccupiedEntry as InnerType
use Rattle.std.proofs.collections.btree_map.OccupiedEntry.TheLaws as InnerLaws
use Rattle.std.specs.declared.alloc.Allocator as alloc
use Rattle.std.specs.declared.cmp.PartialEq as eq
use Rattle.std.specs.declared.cmp.Ord as ord
use Rattle.std.specs.declared.cmp.PartialOrd as partial
use Rattle.wasmi_ordered.specs.contracts.map.entry.OccupiedEntry as HeldType

module _ (ℓ : NamedLft) (X Y Z : RattleType) (p : eq.Ghosts X.Denot) (o : ord.Ghosts X.Denot) (q : partial.Ghosts X.Denot) (g : alloc.Ghosts Z.Denot) where
  abbrev pub Held : RattleType
  Held = HeldType.the_row ℓ (param 0 X) (param 1 Y) (param 2 Z) p o q g

  abbrev pub InnerHeld : RattleType
  InnerHeld = InnerType.the_row ℓ (param 0 X) (param 1 Y) (param 2 Z) o p q g

  abbrev Marker : RattleType
  Marker = Struct (Declared.shape (marker.the_type (Field.shr_ref_field ℓ Builtin.unit tt).row))

  abbrev fields : List Member
  fields = record { row = InnerHeld; ty = lone InnerHeld.mir } ∷ record { row = Marker; ty = lone Marker.mir } ∷ []

  abbrev values : Held.Denot → Denots (rows_of fields)
  values held = (held.entry, (tt, tt))

  -- where the entry of the standard library lies
  abbrev pub inner_at : ℕ → ℕ
  inner_at from = from + up (align (lone InnerHeld.mir)) zero

  module _ {M : Type 1} {𝓤 : Ura M} (𝓛 : Logic 𝓤) (b from : ℕ) where
    -- what is left without it
    abbrev pub bare : Held.Denot → SProp 𝓤
    bare held = sep 𝓤 (sem 𝓛 (rest_at full_share fields zero (values held) b from zero)) (PartsBack 𝓛 full_share [] fields b from)

    pub inner_out : (LX : Laws X) (LY : Laws Y) (LZ : Laws Z) (held : Held.Denot)
        → ent 𝓤 (sem 𝓛 ((mem Held).own_at held b from)) (sep 𝓤 (sem 𝓛 ((mem InnerHeld).own_at held.entry b (inner_at from))) (bare held))
    unfolding part_of
    inner_out LX LY LZ held =
        let lawful : Lawfuls 𝓛 (rows_of fields) = (
          (InnerLaws.the_row_laws ℓ (param 0 X) (param 1 Y) (param 2 Z) o p q g (param_laws 0 X LX) (param_laws 1 Y LY) (param_laws 2 Z LZ)).lawful 𝓛,
          (Struct-Lawful 𝓛 (Declared.shape (marker.the_type (Field.shr_ref_field ℓ Builtin.unit tt).row)) tt, tt),
        ) in
        field_out 𝓛 full_share [] fields lawful (values held) b from zero

    pub inner_back : (held : Held.Denot) (last : InnerHeld.Denot) → ent 𝓤 (sep 𝓤 (sem 𝓛 ((mem InnerHeld).own_at last b (inner_at from))) (bare held)) (sem 𝓛 ((mem Held).own_at (record held { entry = last }) b from))
    unfolding part_of
    inner_back held last = field_back 𝓛 full_share [] fields (values (record held { entry = last })) b from zero
