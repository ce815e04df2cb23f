use Rattle.std.proofs.Common.{◌≡◌, ◌<◌, length, IsOk, None, sym, ◌∙◌, slice_set, position, inr, arith}
use Rattle.std.proofs.Math.Nat.{not-le_of_lt}
use Rattle.std.proofs.lemmas.List.{length-set}
use Rattle.std.proofs.lemmas.Result.{IfOk-weaker}
use Rattle.wasmi_collections.specs.Dedup.{in_order}
use Rattle.wasmi_collections.proofs.Dedup.{in_order-keyed}
use Rattle.wasmi_collections.proofs.DedupReplace.{position-set_new, position-set_kept, within}
use Rattle.wasmi_collections.proofs.Results.{ok_unless, on_ok, when_ok}
use Rattle.wasmi_collections.proofs.arena.dedup.DedupArena.replace.Goals as goal

pub exchange_at_key-requires-clause-within : goal.exchange_at_key-requires-clause-within
exchange_at_key-requires-clause-within g c =
    let low = within (g.Key.ArenaKey.keys.number c.args.key) c.self.inside.items.items c.in_ok-there.there.now c.in_ok-there.ensures.item in
    let same = c.self.invariant.1 in omega (arith, low, same)

is_absent : (g : _) (c : goal.After-put-2 g) → position (g.T.PartialEq.eq c.args.value) (in_order g.Key.ArenaKey.keys c.self.inside.index.entries) ≡ None
is_absent g c = sym c.in_default.ensures

reads_item : (g : _) (c : goal.After-put-2 g) → g.Key.ArenaKey.keys.number c.args.key < length c.self.inside.items.items
reads_item g c = within (g.Key.ArenaKey.keys.number c.args.key) c.self.inside.items.items c.in_ok-there.there.now c.in_ok-there.ensures.item

reads_handed : (g : _) (c : goal.After-put-2 g) → g.Key.ArenaKey.keys.number c.args.key < length (in_order g.Key.ArenaKey.keys c.self.inside.index.entries)
reads_handed g c = let low = reads_item g c in let same = c.self.invariant.1 in omega (arith, low, same)

-- the key reads an item, so the clone takes its place
is_ok : (g : _) (c : goal.After-put-2 g) → IsOk c.put-2.result
is_ok g c = ok_unless c.put-2.result _ c.put-2.ensures.errors (λ refused. not-le_of_lt (reads_item g c) (c.put-2.ensures.out_of_bounds.0 refused))

is_put : (g : _) (c : goal.After-put-2 g) → c.put-2.new.self.items ≡ slice_set c.self.inside.items.items (g.Key.ArenaKey.keys.number c.args.key) c.in_ok-item.item
is_put g c = when_ok c.put-2.result (is_ok g c) c.put-2.ensures.ok

handed_is : (g : _) (c : goal.After-put-2 g) → in_order g.Key.ArenaKey.keys c.exchange_at_key.new.index.entries
    ≡ slice_set (in_order g.Key.ArenaKey.keys c.self.inside.index.entries) (g.Key.ArenaKey.keys.number c.args.key) c.args.value
handed_is g c =
    let keys = g.Key.ArenaKey.keys in let handed = in_order keys c.self.inside.index.entries in let n = keys.number c.args.key in
    in_order-keyed keys g.met.Key.ArenaKey.key_law (slice_set handed n c.args.value) c.exchange_at_key.new.index.entries c.in_ok-exchange_at_key.ensures.ok.entries_are
    (rw (length-set handed n c.args.value) (let same = c.self.invariant.1 in let few = c.self.invariant.2 in omega (arith, same, few)))

pub invariant_of-self-2 : goal.invariant_of-self-2
invariant_of-self-2 g c =
    let keys = g.Key.ArenaKey.keys in let handed = in_order keys c.self.inside.index.entries in let n = keys.number c.args.key in
    let items = c.self.inside.items.items in let same = c.self.invariant.1 in let few = c.self.invariant.2 in
    rw (handed_is g c, is_put g c) (
      c.in_ok-exchange_at_key.ensures.ok,
      length-set handed n c.args.value ∙ (same ∙ sym (length-set items n c.in_ok-item.item)),
      rw (length-set items n c.in_ok-item.item) few,
    )

pub returns-clause-ok : goal.returns-clause-ok
returns-clause-ok g c =
    IfOk-weaker c.put-2.result _ _ (λ there at. inr (record {
      absent = rw (← c.self.view_is) (is_absent g c);
      there_is = rw (← c.self.view_is) at;
      handed_are = rw (← c.self.view_is) (handed_is g c);
      items_are = (c.in_ok-item.item, c.in_ok-item.ensures.cases, rw (← c.self.view_is) (is_put g c));
    })) c.put-2.ensures.old

pub returns-clause-known : goal.returns-clause-known
returns-clause-known g c =
    let handed = in_order g.Key.ArenaKey.keys c.self.inside.index.entries in
    on_ok c.put-2.result (rw (handed_is g c) (position-set_new g.met.T.Eq.laws handed c.args.value (g.Key.ArenaKey.keys.number c.args.key) (reads_handed g c) (is_absent g c)))

pub returns-clause-kept : goal.returns-clause-kept
returns-clause-kept g c = λ other p is apart.
    let handed = in_order g.Key.ArenaKey.keys c.self.inside.index.entries in
    rw (handed_is g c) (position-set_kept g.met.T.Eq.laws handed c.args.value (g.Key.ArenaKey.keys.number c.args.key) (is_absent g c) other p (rw (← c.self.view_is) at is) apart)
