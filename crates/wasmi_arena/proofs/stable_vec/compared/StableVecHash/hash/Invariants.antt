use Rattle.std.proofs.Common.{◌≡◌}
use Rattle.std.specs.List.{flat_map, fold}
use Rattle.wasmi_arena.proofs.stable_vec.compared.StableVecHash.hash.Given as goal

-- what is left to feed leads to the same state
abbrev pub invariant-loop-items : goal.invariant-loop-items
invariant-loop-items g l =
    fold g.H.Hasher.write l.state (flat_map g.T.Hash.hash_input (flat_map (λ part. part) l.items-iterator))
    ≡ fold g.H.Hasher.write l.initial.state (flat_map g.T.Hash.hash_input (flat_map (λ part. part) l.initial.items-iterator))
