use Rattle.std.proofs.Common.{arith, rules, ◌<◌, length}
use Rattle.wasmi_arena.specs.Geometry.{max_len}
use Rattle.wasmi_arena.proofs.Apart.{next_exists, items_of-next, IsLaidOut-next}
use Rattle.wasmi_arena.proofs.stable_vec.StableVec.append_bucket.Goals as goal

pub bucket_mut-place-requires : goal.bucket_mut-place-requires
bucket_mut-place-requires g c =
    let below : length c.args.self.now < max_len = (let few = c.requires.below in let some = c.requires.some in omega arith) in
    let exists = next_exists c.self.invariant _ c.self.view_is below c.requires.full in search rules

pub overflow_add-self : goal.overflow_add-self
overflow_add-self g c =
    let below : length c.args.self.now < max_len = (let few = c.requires.below in let some = c.requires.some in omega arith) in
    let exists = next_exists c.self.invariant _ c.self.view_is below c.requires.full in omega arith

pub start_of-self-inside-requires : goal.start_of-self-inside-requires
start_of-self-inside-requires g c =
    let below : length c.args.self.now < max_len = (let few = c.requires.below in let some = c.requires.some in omega arith) in
    let exists = next_exists c.self.invariant _ c.self.view_is below c.requires.full in omega arith

pub invariant_of-self : goal.invariant_of-self
invariant_of-self g c =
    let below : length c.args.self.now < max_len = (let few = c.requires.below in let some = c.requires.some in omega arith) in
    rw (c.start_of-self-inside.ensures, c.requires.items)
    (IsLaidOut-next c.self.invariant _ c.self.view_is below c.requires.full c.args.next (rw (← c.requires.items) c.requires.some) (rw (← c.requires.items) c.requires.fits) c.requires.capacity)

pub returns : goal.returns
returns g c =
    let below : length c.args.self.now < max_len = (let few = c.requires.below in let some = c.requires.some in omega arith) in
    items_of-next c.self.invariant _ c.self.view_is below c.requires.full c.args.next (rw (← c.requires.items) c.requires.some) (rw (← c.requires.items) c.requires.fits) c.requires.capacity
