use Rattle.std.proofs.Common.{◌+◌, ◌≤◌, ◌⊎◌, length, refl, sym, ◌∙◌, inl, inr}
use Rattle.std.proofs.Math.Nat.{lt_of_lt_of_le, not-le_of_lt}
use Rattle.wasmi_arena.specs.Geometry.{start}
use Rattle.wasmi_arena.proofs.LaidOut.{slot_filled, IsLaidOut-swap}
use Rattle.wasmi_arena.proofs.Results.{ok-err}
use Rattle.wasmi_arena.proofs.Sizes.{table_small}
use Rattle.wasmi_arena.proofs.stable_vec.StableVec.swap.Goals as goal
use Rattle.wasmi_arena.proofs.stable_vec.StableVec.swap.Goals.{then-first-self-via-then-first-self, then-first-self-via-else-first-self+then-second-self}

pub swap-requires : goal.swap-requires
swap-requires g c =
    let one = c.place-bucket.ensures.place in let other = c.place-other_bucket.ensures.place in (
      table_small g.row.T g.row.A g.A.Allocator assumption,
      (
        λ same alike. c.if-first-second.false (sym one.index_is ∙ ((λ k. start (same k) + alike k) ∙ other.index_is)),
        (slot_filled c.self.invariant one c.if-first-self.false, slot_filled c.self.invariant other c.if-second-self.false),
      ),
    )

pub invariant_of-self : goal.invariant_of-self
invariant_of-self g c =
    (IsLaidOut-swap c.self.invariant c.place-bucket.ensures.place c.if-first-self.false c.place-other_bucket.ensures.place c.if-second-self.false _ c.swap.ensures).0

pub returns-clause-ok : goal.returns-clause-ok
returns-clause-ok g c =
    rw (← c.self.view_is) (IsLaidOut-swap c.self.invariant c.place-bucket.ensures.place c.if-first-self.false c.place-other_bucket.ensures.place c.if-second-self.false _ c.swap.ensures).1

pub returns-then-first-second-clause-out_of_bounds : goal.returns-then-first-second-clause-out_of_bounds
returns-then-first-second-clause-out_of_bounds g c = (λ refused. cc, λ beyond. absurd (beyond.0 c.if-first-second.true))

pub returns-then-first-self-clause-out_of_bounds : goal.returns-then-first-self-clause-out_of_bounds
returns-then-first-self-clause-out_of_bounds g c =
    let beyond : (length c.args.self.now ≤ c.args.first) ⊎ (length c.args.self.now ≤ c.args.second) = elim c.then-first-self.branch [
      | then-first-self-via-then-first-self w ↦ inl (rw (c.self.invariant.items_counted, c.self.view_is) at w.if-first-self.true)
      | then-first-self-via-else-first-self+then-second-self w ↦ inr (rw (c.self.invariant.items_counted, c.self.view_is) at w.if-second-self.true)
    ] in (λ refused. (c.if-first-second.false, beyond), λ out. refl)

pub place-bucket-requires : goal.place-bucket-requires
place-bucket-requires g c = lt_of_lt_of_le c.if-first-self.false c.self.invariant.few_items

pub place-other_bucket-requires : goal.place-other_bucket-requires
place-other_bucket-requires g c = lt_of_lt_of_le c.if-second-self.false c.self.invariant.few_items

pub returns-clause-out_of_bounds : goal.returns-clause-out_of_bounds
returns-clause-out_of_bounds g c =
    let counted = c.self.invariant.items_counted in (
      λ refused. absurd (ok-err refused),
      λ beyond. absurd (elim beyond.1 [
        | inl one ↦ not-le_of_lt (rw (counted, c.self.view_is) at c.if-first-self.false) one
        | inr other ↦ not-le_of_lt (rw (counted, c.self.view_is) at c.if-second-self.false) other
      ]),
    )
