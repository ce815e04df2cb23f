use Rattle.std.proofs.Common.{rules, ◌≡◌, sym, ap, ◌∙◌, ◌∷◌, [], Some, length, length-append, take}
use Rattle.std.proofs.Math.Seq.{take-length}
use Rattle.std.proofs.lemmas.List.{length-map}
use Rattle.std.proofs.lemmas.Option.{same_Some}
use Rattle.std.specs.Prelude.{slice_get}
use Rattle.wasmi_arena.proofs.Entries.{length-entries_from}
use Rattle.wasmi_uses.proofs.LookupLemmas.{agree_further, begins_with}
use Rattle.wasmi_uses.proofs.lookup.any_differs.Goals as goal

pub returns-then-index-item : goal.returns-then-index-item
returns-then-index-item g c =
    let reads : slice_get c.args.one.now (g.Key.ArenaKey.keys.number c.in-Some.key) ≡ Some c.in-Some.item.now = search rules in
    ((λ _ same. c.if-index-item.true (same_Some _ _ (sym c.index.ensures ∙ begins_with c.args.other.now c.args.one.now _ c.in-Some.item.now c.requires same reads))), λ _. search rules)

pub loop-key-preserved : goal.loop-key-preserved
loop-key-preserved g c =
    let place : g.Key.ArenaKey.keys.number c.in-Some.key ≡ length c.loop-key.yielded = search rules in
    let reads : slice_get c.args.one.now (g.Key.ArenaKey.keys.number c.in-Some.key) ≡ Some c.in-Some.item.now = search rules in
    let there = ap (slice_get c.args.other.now) (sym place) ∙ c.index.ensures ∙ ap Some c.if-index-item.false in
    rw (length-append c.loop-key.yielded ((c.in-Some.key, c.in-Some.item) ∷ [])) (agree_further c.args.other.now c.args.one.now (length c.loop-key.yielded) c.in-Some.item.now there (ap (slice_get c.args.one.now) (sym place) ∙ reads) c.loop-key.invariant)

pub returns : goal.returns
returns g c =
    let all = c.walked_entries_are_all.ensures c.args.one.now _ c.loop-key.yielded _ c.into_iter-key-iterator.ensures.into_iter_gives c.loop-key.yielded_by c.in-None.ensures.steps.0 in
    let seen = sym (length-map c.loop-key.yielded _) ∙ ap length all ∙ length-entries_from g.Key.ArenaKey.keys 0 c.args.one.now in
    let same = ap (λ n. take n c.args.other.now) (sym seen) ∙ c.loop-key.invariant ∙ ap (λ n. take n c.args.one.now) seen ∙ take-length c.args.one.now in
    (λ is. search rules, λ differs. absurd (differs same))
