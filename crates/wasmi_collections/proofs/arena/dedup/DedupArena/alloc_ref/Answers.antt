use Rattle.std.proofs.Common.{◌≡◌, ◌∙◌, true, option_map, slice_get}
use Rattle.std.proofs.lemmas.Result.{IfOk-weaker}
use Rattle.wasmi_collections.proofs.arena.dedup.DedupArena.alloc_ref.Goals as goal

pub returns-clause-reads : goal.returns-clause-reads
returns-clause-reads g c = λ same.
    let eq = g.T.PartialEq.eq in let value = c.args.value.now in let clone = c.in_ok-clone.clone in
    let hit : eq value clone ≡ true = same clone c.in_ok-clone.ensures.cases in
    IfOk-weaker c.alloc.result _ _ (λ key at. (λ i. option_map (λ x. g.met.T.Eq.laws.congr value clone x hit i) (slice_get c.alloc.new.self.handed (g.Key.ArenaKey.keys.number key))) ∙ at) c.alloc.ensures.reads
