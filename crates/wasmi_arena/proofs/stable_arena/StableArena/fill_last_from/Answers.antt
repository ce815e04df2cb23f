use Rattle.std.proofs.Common.{◌≡◌, ℕ, ◌-◌, ◌<◌, ◌≤◌, Option, None, Some, true, arith, length}
use Rattle.std.specs.Option.{SomeIff, is_some}
use Rattle.wasmi_arena.specs.Geometry.{max_len, fewest, slots}
use Rattle.wasmi_arena.specs.Keys.{Keys}
use Rattle.wasmi_arena.specs.Arena.{stable_limit}
use Rattle.wasmi_arena.proofs.Doubling.{start_mono, fewest-le}
use Rattle.wasmi_arena.proofs.stable_arena.StableArena.fill_last_from.Goals as goal

-- what holds exactly where there is a key
has_key : {K P : Type 0} (key : K) (found : Option K) → SomeIff found P key → is_some found ≡ true → P
has_key key None none there = cc
has_key key (Some k) is there = is.0

-- where the last slot has a key, there is one for each item
each_keyed : {K : Type 0} (keys : Keys K) (old new n : ℕ) → new ≤ slots old → n ≡ slots old → n - 1 < keys.count → old ≤ stable_limit keys → new ≤ stable_limit keys
each_keyed keys old new n within is last few =
    let small : old ≤ max_len = omega (arith, few) in omega (arith, within, is, last, start_mono (fewest old) 27 (fewest-le old small))

pub invariant_of-self : goal.invariant_of-self
invariant_of-self g c =
    each_keyed g.Key.ArenaKey.keys (length c.self.inside.items) (length c.fill_last_from.new.self) c.slots-slots.result c.fill_last_from.ensures.within c.slots-slots.ensures.value
    (has_key _ _ c.from_usize.ensures c.if-is_none.ensures) c.self.invariant
