use Rattle.std.proofs.Common.{refl, ◌≡◌, ◌++◌, ◌∷◌, [], ◌<◌, ◌≤◌, length, IsOk, None, option_map, sym, ap, ◌∙◌, position, inr}
use Rattle.std.proofs.lemmas.Result.{IfOk-weaker}
use Rattle.wasmi_collections.specs.Dedup.{IsIndex, in_order}
use Rattle.wasmi_collections.proofs.Dedup.{IsIndex-push, entries-inserted, in_order-keyed, length-pushed, pushed_le}
use Rattle.wasmi_collections.proofs.Results.{when_ok}
use Rattle.wasmi_collections.proofs.DedupRuns.{given-known, position-stays}
use Rattle.wasmi_collections.proofs.arena.dedup.DedupArena.hand_in.Goals as goal

is_absent : (g : _) (c : goal.After-alloc g) → position (g.T.PartialEq.eq c.args.value) (in_order g.Key.ArenaKey.keys c.self.inside.index.entries) ≡ None
is_absent g c = rw (← c.self.view_is) at c.requires.absent

-- so there is a key for one more item
has_key : (g : _) (c : goal.After-alloc g) → length c.self.inside.items.items < g.Key.ArenaKey.keys.count
has_key g c = rw (← c.self.view_is, c.self.invariant.1) at c.requires.has_key

next : (g : _) (c : goal.After-alloc g) → c.args.key ≡ g.Key.ArenaKey.keys.key (length (in_order g.Key.ArenaKey.keys c.self.inside.index.entries))
next g c = rw (← c.self.view_is) at c.requires.next

-- the index has the value behind those that were there
is_pushed : (g : _) (c : goal.After-alloc g) → IsIndex g.Key.ArenaKey.keys g.T.PartialEq.eq (in_order g.Key.ArenaKey.keys c.self.inside.index.entries ++ c.args.value ∷ []) c.insert.new.self.entries
is_pushed g c =
    let keys = g.Key.ArenaKey.keys in let eq = g.T.PartialEq.eq in let index = c.self.inside.index.entries in let after = c.insert.new.self.entries in
    IsIndex-push keys g.met.T.Eq.laws (in_order keys index) index c.args.value c.args.key c.self.invariant.0 (is_absent g c) (next g c) after c.in_ok-insert.ensures.changes
    (entries-inserted eq index after c.args.value c.args.key c.in_ok-insert.field-0 c.in_ok-insert.ensures.old (c.self.invariant.0.finds c.args.value ∙ ap (option_map keys.key) (is_absent g c)) c.in_ok-insert.ensures.entries)

-- an item was reserved a place, so it comes
is_ok : (g : _) (c : goal.After-alloc g) → IsOk c.alloc.result
is_ok g c = c.alloc.ensures.with_room (rw c.in_ok-reserve.ensures.items (has_key g c)) c.in_ok-reserve.ensures.ok

-- and goes to the end of the items
is_added : (g : _) (c : goal.After-alloc g) → c.alloc.new.self.items ≡ c.self.inside.items.items ++ c.in_ok-item.item ∷ []
is_added g c = when_ok c.alloc.result (is_ok g c) c.alloc.ensures.ok ∙ ap (λ items. items ++ c.in_ok-item.item ∷ []) c.in_ok-reserve.ensures.items

handed_is : (g : _) (c : goal.After-alloc g) → in_order g.Key.ArenaKey.keys c.insert.new.self.entries ≡ in_order g.Key.ArenaKey.keys c.self.inside.index.entries ++ c.args.value ∷ []
handed_is g c =
    let handed = in_order g.Key.ArenaKey.keys c.self.inside.index.entries in
    in_order-keyed g.Key.ArenaKey.keys g.met.Key.ArenaKey.key_law (handed ++ c.args.value ∷ []) c.insert.new.self.entries (is_pushed g c).entries_are
    (pushed_le handed c.args.value (length c.self.inside.items.items) g.Key.ArenaKey.keys.count c.self.invariant.1 (has_key g c))

pub invariant_of-self-2 : goal.invariant_of-self-2
invariant_of-self-2 g c =
    let handed = in_order g.Key.ArenaKey.keys c.self.inside.index.entries in let items = c.self.inside.items.items in let item = c.in_ok-item.item in
    rw (handed_is g c, is_added g c) (is_pushed g c, length-pushed handed items c.args.value item c.self.invariant.1, pushed_le items item (length items) g.Key.ArenaKey.keys.count refl (has_key g c))

pub returns-clause-ok : goal.returns-clause-ok
returns-clause-ok g c =
    let same : length c.args.self.now.handed ≡ length c.self.inside.items.items = rw (← c.self.view_is) c.self.invariant.1 in
    IfOk-weaker c.alloc.result _ _ (λ key at. record {
      absent = rw (← c.self.view_is) (is_absent g c);
      has_key = rw same (has_key g c);
      key_is = at ∙ (ap (λ items. g.Key.ArenaKey.keys.key (length items)) c.in_ok-reserve.ensures.items ∙ ap g.Key.ArenaKey.keys.key (sym same));
      handed_are = rw (← c.self.view_is) (handed_is g c);
      items_are = (c.in_ok-item.item, c.in_ok-item.ensures.cases, rw (← c.self.view_is) (is_added g c));
    }) c.alloc.ensures.key

pub returns-clause-known : goal.returns-clause-known
returns-clause-known g c =
    let few : length c.args.self.now.handed ≤ g.Key.ArenaKey.keys.count = rw (← c.self.view_is, c.self.invariant.1) c.self.invariant.2 in
    IfOk-weaker c.alloc.result _ _ (λ key allocates. given-known g.Key.ArenaKey.keys g.met.Key.ArenaKey.key_law g.met.T.Eq.laws g.T.Clone.is_clone c.args.self.now _ c.args.value key few (inr allocates)) (returns-clause-ok g c)

pub returns-clause-kept : goal.returns-clause-kept
returns-clause-kept g c = λ other p is.
    rw (handed_is g c) (position-stays (g.T.PartialEq.eq other) (in_order g.Key.ArenaKey.keys c.self.inside.index.entries) (c.args.value ∷ []) p (rw (← c.self.view_is) at is))
