use Rattle.std.proofs.Common.{sym, ◌∙◌}
use Rattle.wasmi_hashed.proofs.NewEntry.{written_again}
use Rattle.wasmi_hashed.proofs.map.try_insert.put_new.Goals as goal

pub returns-in-Occupied-clause-unchanged : goal.returns-in-Occupied-clause-unchanged
returns-in-Occupied-clause-unchanged g c = λ there.
    let named = rw c.in-Occupied.is at c.in_ok-entry.ensures.same_map in let last = c.into_mut.result.now in
    let put = (rw c.in-Occupied.is at c.in_ok-entry.ensures.update).1 last in let old = c.args.inner.now.entries in
    let value = sym (sym c.into_mut.ensures.value ∙ (rw c.in-Occupied.is at c.in_ok-entry.ensures.value)) in
    rw (c.inner-in-Occupied-2-1.given.1 (sym named)) (written_again g.K.PartialEq.eq old _ c.args.key last value put)

pub returns-in-Vacant-clause-changes : goal.returns-in-Vacant-clause-changes
returns-in-Vacant-clause-changes g c = λ absent.
    let named = rw c.in-Vacant.is at c.in_ok-entry.ensures.same_map in
    rw (c.inner-in-Vacant-2-1.given.1 (sym named), c.insert.ensures.value) ((rw c.in-Vacant.is at c.in_ok-entry.ensures.update).0 c.args.value).0
