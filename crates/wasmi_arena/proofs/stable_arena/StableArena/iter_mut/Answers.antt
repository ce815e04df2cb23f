use Rattle.std.proofs.Common.{◌≡◌, ℕ, ◌+◌, ◌≤◌, refl, sym, ◌∙◌, ap, length, arith}
use Rattle.wasmi_arena.specs.Entries.{entries}
use Rattle.wasmi_arena.specs.IterMut.{left}
use Rattle.wasmi_arena.proofs.Entries.{length-entries_from}
use Rattle.wasmi_arena.proofs.Refilled.{length-refill}
use Rattle.wasmi_arena.proofs.FilledParts.{HasBuckets-items, HasBuckets-own}
use Rattle.wasmi_arena.proofs.stable_arena.StableArena.iter_mut.Goals as goal

pub of_whole-requires-clause-buckets : goal.of_whole-requires-clause-buckets
of_whole-requires-clause-buckets g c = HasBuckets-own _ _ c.lend-all.ensures.buckets

pub of_whole-requires-clause-len : goal.of_whole-requires-clause-len
of_whole-requires-clause-len g c = let are = HasBuckets-items _ _ c.lend-all.ensures.buckets in c.len-len.ensures.value ∙ ap length (c.self.view_is ∙ sym are)

from_zero : {n m limit : ℕ} → m ≡ n → n ≤ limit → 0 + m ≤ limit
from_zero same below = omega arith

pub invariant_of-result : goal.invariant_of-result
invariant_of-result g c =
    let are = HasBuckets-items _ _ c.lend-all.ensures.buckets in from_zero (ap length (c.of_whole.ensures.items ∙ (are ∙ sym c.self.view_is))) c.self.invariant

pub returns : goal.returns
returns g c =
    let items = c.of_whole.ensures.items ∙ HasBuckets-items _ _ c.lend-all.ensures.buckets in let keys = g.Key.ArenaKey.keys in (
      (sym c.of_whole.ensures.loan, λ w. refl),
      record {
        writes_back = tt;
        keeps = length-refill _;
        entries = ap (entries keys) items;
        len = length-entries_from keys 0 (left c.of_whole.result) ∙ ap length items;
        bound = c.lend-all.ensures.buckets.few_items;
      },
    )
