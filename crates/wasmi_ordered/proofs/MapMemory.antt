-- A map in memory is the standard library's. Assumes `Logic`.
-- for src/map.rt
use Rattle.wasmi_arena.proofs.Steps.{Ura, full_share, SProp, ent, sep, ex, align, up, ‵, raw, ◌⊛◌, some, ◌$◌, ◌∵◌, !, qed, by, done, pick, show, split, use1, use2, Logic, sem, Lawfuls, mem, part_at, lone, view_owns, view_made, plain_out, Plain-in, param, Laws, param_laws, RattleType, Denots, Member, rows_of, PartsBack, rest_at, field_out, field_back}
use Prim.Native.Nat.{ℕ, zero, ◌+◌}
use mathlib.Core.List.{List, [], ◌∷◌}
use mathlib.Core.Path.{◌≡◌, refl}
use denote.Memory.{part_of}
use Rattle.std.proofs.collections.BTreeMap.TheLaws as TreeLaws
use Rattle.std.specs.contracts.collections.BTreeMap as TreeType
use Rattle.std.specs.declared.alloc.Allocator as alloc
use Rattle.std.specs.declared.cmp.Ord as ord
use Rattle.std.specs.declared.cmp.PartialEq as eq
use Rattle.std.specs.declared.cmp.PartialOrd as partial
use Rattle.std.specs.declared.hash.Hash as hash
use Rattle.wasmi_ordered.specs.contracts.map.Map as MapType
use Rattle.wasmi_ordered.specs.contracts.map.Map.TheInside as InMap

module _ (X Y Z : RattleType) (h : hash.Ghosts X.Denot) (p : eq.Ghosts X.Denot) (o : ord.Ghosts X.Denot) (q : partial.Ghosts X.Denot) (g : alloc.Ghosts Z.Denot) where
  abbrev pub Map : RattleType
  Map = MapType.the_row (param 0 X) (param 1 Y) (param 2 Z) h p o q g

  abbrev pub Tree : RattleType
  Tree = TreeType.the_row (param 0 X) (param 1 Y) (param 2 Z) o p q g

  abbrev Inside : RattleType
  Inside = InMap.the_row (param 0 X) (param 1 Y) (param 2 Z) h p o q g

  abbrev fields : List Member
  fields = record { row = Tree; ty = lone Tree.mir } ∷ []

  abbrev values : Inside.Denot → Denots (rows_of fields)
  values a = (a.inner, tt)

  abbrev view : Inside.Denot → List (X.Denot × Y.Denot)
  view = MapType.the_view (param 0 X) (param 1 Y) (param 2 Z) h p o q g

  abbrev holds : Inside.Denot → Type 0
  holds = MapType.the_invariant (param 0 X) (param 1 Y) (param 2 Z) h p o q g

  -- a map's field, at which it is seen as these entries
  abbrev pub Seen : List (X.Denot × Y.Denot) → Type 0
  Seen entries = (a : Inside.Denot) × ((view a ≡ entries) × holds a)

  -- where the tree of a map at `from` lies
  abbrev pub tree_at : ℕ → ℕ
  tree_at from = from + up (align (lone Tree.mir)) zero

  module _ {M : Type 1} {𝓤 : Ura M} (𝓛 : Logic 𝓤) (b from : ℕ) where
    -- what is left without the tree
    abbrev pub bare : Inside.Denot → SProp 𝓤
    bare a = sep 𝓤 (sem 𝓛 (rest_at full_share fields zero (values a) b from zero)) (PartsBack 𝓛 full_share [] fields b from)

    pub tree_out : (LX : Laws X) (LY : Laws Y) (LZ : Laws Z) (entries : List (X.Denot × Y.Denot))
        → ent 𝓤 (sem 𝓛 ((mem Map).own_at entries b from)) (ex 𝓤 (λ (x : Seen entries). sep 𝓤 (sem 𝓛 ((mem Tree).own_at x.0.inner b (tree_at from))) (bare x.0)))
    unfolding part_of
    tree_out LX LY LZ entries =
        let lawful : Lawfuls 𝓛 (rows_of fields) = ((TreeLaws.the_row_laws (param 0 X) (param 1 Y) (param 2 Z) o p q g (param_laws 0 X LX) (param_laws 1 Y LY) (param_laws 2 Z LZ)).lawful 𝓛, tt) in
        qed 𝓛 (‵ (part_at Map full_share entries b from) ∷ []) ∵
        use1 𝓛 (some (λ (x : Seen entries). ‵ (part_at Inside full_share x.0 b from))) (plain_out Map Inside (view_owns Inside (List (X.Denot × Y.Denot)) Map.coded view holds) 𝓛 full_share entries b from) $ pick ! (λ x.
        use1 𝓛 (‵ (part_at Tree full_share x.0.inner b (tree_at from)) ⊛ raw (bare x.0)) (field_out 𝓛 full_share [] fields lawful (values x.0) b from zero) $ split ! $
        show ! (λ (y : Seen entries). sep 𝓤 (sem 𝓛 ((mem Tree).own_at y.0.inner b (tree_at from))) (bare y.0)) x $ done !)

    pub tree_back : (a : Inside.Denot) (last : Tree.Denot) → ent 𝓤 (sep 𝓤 (sem 𝓛 ((mem Tree).own_at last b (tree_at from))) (bare a)) (sem 𝓛 ((mem Map).own_at last.entries b from))
    unfolding part_of
    tree_back a last =
        let c : Inside.Denot = record { inner = last } in
        qed 𝓛 (‵ (part_at Tree full_share last b (tree_at from)) ∷ raw (bare a) ∷ []) ∵
        use2 𝓛 (‵ (part_at Inside full_share c b from)) (field_back 𝓛 full_share [] fields (values c) b from zero) $
        by ! (Plain-in Map Inside (view_owns Inside (List (X.Denot × Y.Denot)) Map.coded view holds) 𝓛 full_share last.entries c (view_made Inside (List (X.Denot × Y.Denot)) Map.coded view holds 𝓛 last.entries c (refl, tt)) b from)
