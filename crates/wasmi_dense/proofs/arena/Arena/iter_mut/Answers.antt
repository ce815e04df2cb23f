use Rattle.std.proofs.Common.{◌≡◌, ◌∙◌, sym, ap, length}
use Rattle.std.specs.Vec.{vec_len, vec_items}
use Rattle.wasmi_arena.specs.Entries.{entries}
use Rattle.wasmi_arena.proofs.Entries.{length-entries_from}
use Rattle.wasmi_dense.specs.ArenaLoan.{left_entries}
use Rattle.wasmi_dense.proofs.ArenaLoans.{state_of-with_items}
use Rattle.wasmi_dense.proofs.arena.Arena.iter_mut.Goals as goal

pub returns : goal.returns
returns g c =
    let keys = g.Key.ArenaKey.keys in
    let counted : vec_len c.self.inside.items ≡ length (vec_items c.self.inside.items) = sym c.as_mut_slice.ensures.len ∙ ap length c.as_mut_slice.ensures.value in
    let whole : left_entries keys c.new.result ≡ entries keys c.args.self.now.items = c.new.ensures.entries ∙ ap (entries keys) (c.as_mut_slice.ensures.value ∙ ap (λ s. s.items) c.self.view_is) in (
      (sym c.new.ensures.name, λ w. rw (← c.self.view_is) (state_of-with_items c.self.inside.items w counted)),
      record {
        writes_back = tt;
        entries = whole;
        ready = c.new.ensures.ready;
        len = ap length whole ∙ length-entries_from keys 0 c.args.self.now.items;
      },
    )
