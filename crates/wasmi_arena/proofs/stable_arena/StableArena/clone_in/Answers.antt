use Rattle.std.proofs.lemmas.Bool.{false≢true}
use Rattle.std.proofs.lemmas.List.Elements.{length_all_zip}
use Rattle.wasmi_arena.proofs.stable_arena.StableArena.clone_in.Goals as goal

pub returns-in_err-clone_in-clause-without_size : goal.returns-in_err-clone_in-clause-without_size
returns-in_err-clone_in-clause-without_size g c = λ none items alloc. absurd (false≢true (c.in_err-clone_in.ensures.without_size none (rw c.self.view_is items) alloc))

pub invariant_of-result : goal.invariant_of-result
invariant_of-result g c = rw (← length_all_zip g.T.Clone.is_clone _ _ c.in_ok-clone_in.ensures.items) c.self.invariant
