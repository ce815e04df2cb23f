use Rattle.std.proofs.Common.{◌≡◌, rules, sym, ◌∙◌, IfOk}
use Rattle.std.proofs.lemmas.Result.{IfOk-weaker}
use Rattle.std.specs.HashMap.{hasher_of}
use Rattle.std.specs.HashMap.Entry.{entry_map_ref}
use Rattle.wasmi_hashed.proofs.NewEntry.{state_with_value}
use Rattle.wasmi_hashed.proofs.map.entry.entry_in.Goals as goal

pub returns : goal.returns
returns g c =
    let state : IfOk c.entry.result (λ there. (last : g.row.V.Denot) → hasher_of (entry_map_ref there).now ≡ hasher_of c.args.inner.now) = IfOk-weaker c.entry.result _ _ (λ there is last. sym (state_with_value there last) ∙ is.3 last) c.entry.ensures.update in
    search (rules, state)
