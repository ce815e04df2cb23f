-- The entry of a key that is there is, in memory, the standard library's and a value without bytes. Assumes `Logic`.
-- for src/map/entry/occupied.rt
use Rattle.wasmi_arena.proofs.Steps.{Ura, full_share, SProp, ent, sep, align, up, Logic, sem, Lawfuls, mem, lone, param, Laws, param_laws, RattleType, Denots, NamedLft, Member, rows_of, PartsBack, rest_at, field_out, field_back, Struct}
use Prim.Native.Nat.{ℕ, zero, ◌+◌}
use mathlib.Core.List.{[], ◌∷◌, List}
use denote.Builtin as Builtin
use denote.Memory.{part_of}
use denote.Struct.Declared as Declared
use denote.Struct.Field as Field
use denote.Struct.Struct.{Struct-Lawful}
use Rattle.std.specs.contracts.marker.PhantomData as marker
use Rattle.std.specs.contracts.collections.hash_map.OccupiedEntry as InnerType
use Rattle.std.proofs.collections.hash_map.OccupiedEntry.TheLaws as InnerLaws
use Rattle.std.specs.declared.alloc.Allocator as alloc
use Rattle.std.specs.declared.cmp.PartialEq as eq
use Rattle.std.specs.declared.hash.Hash as hash
use Rattle.std.specs.declared.hash.Hasher as hasher
use Rattle.std.specs.declared.hash.BuildHasher as builder
use Rattle.wasmi_hashed.specs.contracts.map.entry.OccupiedEntry as HeldType

module _ (ℓ : NamedLft) (X Y S Z N : RattleType) (p : eq.Ghosts X.Denot) (h : hash.Ghosts X.Denot)
    (s : builder.Ghosts S.Denot N.Denot) (n : hasher.Ghosts N.Denot) (g : alloc.Ghosts Z.Denot) where
  abbrev pub Held : RattleType
  Held = HeldType.the_row ℓ (param 0 X) (param 1 Y) (param 2 S) (param 3 Z) (param 4 N) p h s n g

  abbrev pub InnerHeld : RattleType
  InnerHeld = InnerType.the_row ℓ (param 0 X) (param 1 Y) (param 2 S) (param 3 Z) (param 4 N) p h s n g

  abbrev Marker : RattleType
  Marker = Struct (Declared.shape (marker.the_type (Field.shr_ref_field ℓ Builtin.unit tt).row))

  abbrev fields : List Member
  fields = record { row = InnerHeld; ty = lone InnerHeld.mir } ∷ record { row = Marker; ty = lone Marker.mir } ∷ []

  abbrev values : Held.Denot → Denots (rows_of fields)
  values held = (held.entry, (tt, tt))

  -- where the entry of the standard library lies
  abbrev pub inner_at : ℕ → ℕ
  inner_at o = o + up (align (lone InnerHeld.mir)) zero

  module _ {M : Type 1} {𝓤 : Ura M} (𝓛 : Logic 𝓤) (b o : ℕ) where
    -- what is left without it
    abbrev pub bare : Held.Denot → SProp 𝓤
    bare held = sep 𝓤 (sem 𝓛 (rest_at full_share fields zero (values held) b o zero)) (PartsBack 𝓛 full_share [] fields b o)

    pub inner_out : (LX : Laws X) (LY : Laws Y) (LS : Laws S) (LZ : Laws Z) (LN : Laws N) (held : Held.Denot)
        → ent 𝓤 (sem 𝓛 ((mem Held).own_at held b o)) (sep 𝓤 (sem 𝓛 ((mem InnerHeld).own_at held.entry b (inner_at o))) (bare held))
    unfolding part_of
    inner_out LX LY LS LZ LN held =
        let lawful : Lawfuls 𝓛 (rows_of fields) = (
          (InnerLaws.the_row_laws ℓ (param 0 X) (param 1 Y) (param 2 S) (param 3 Z) (param 4 N) p h s n g (param_laws 0 X LX) (param_laws 1 Y LY) (param_laws 2 S LS) (param_laws 3 Z LZ) (param_laws 4 N LN)).lawful 𝓛,
          (Struct-Lawful 𝓛 (Declared.shape (marker.the_type (Field.shr_ref_field ℓ Builtin.unit tt).row)) tt, tt),
        ) in
        field_out 𝓛 full_share [] fields lawful (values held) b o zero

    pub inner_back : (held : Held.Denot) (last : InnerHeld.Denot) → ent 𝓤 (sep 𝓤 (sem 𝓛 ((mem InnerHeld).own_at last b (inner_at o))) (bare held)) (sem 𝓛 ((mem Held).own_at (record held { entry = last }) b o))
    unfolding part_of
    inner_back held last = field_back 𝓛 full_share [] fields (values (record held { entry = last })) b o zero
