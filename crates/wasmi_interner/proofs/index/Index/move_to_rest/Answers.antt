use Rattle.std.proofs.Common.{◌≡◌, ◌∙◌, ℕ, ap, arith, length, map, refl, subst, sym}
use Rattle.std.specs.List.{Contains, insert}
use Rattle.wasmi_interner.specs.inner.Index.{IsRestOf, text_at}
use Rattle.wasmi_interner.specs.declared.entry.Entry.{Entry}
use Rattle.wasmi_interner.proofs.Filing.{found_own, has_new, has_old, marked_taken, rank_within, rest_few, rest_insert, taken_entry}
use Rattle.wasmi_interner.proofs.index.Index.move_to_rest.Goals as goal
use Rattle.wasmi_interner.proofs.index.Index.move_to_rest.Goals.{in-Err, in_default}

pub insert-requires-clause-few : goal.insert-requires-clause-few
insert-requires-clause-few g c =
    omega (arith, rest_few c.args.texts.now c.args.self.now.rest.entries c.requires.indexed.rest, c.requires.few, ap length c.in_ok-reserve.ensures.entries)

pub returns-clause-indexed : goal.returns-clause-indexed
returns-clause-indexed g c =
    let texts = c.args.texts.now in let table = c.args.self.now.slots in let entries = c.args.self.now.rest.entries in let more = c.reserve.new.self.entries in
    let is = c.requires.indexed in let taken = c.requires.taken in let entry = c.at-entry.result in
    let its = taken_entry texts table taken.0 c.args.place taken.1 is.slots entry c.at-entry.ensures in
    let symbol : entry.symbol ≡ taken.1.symbol = ap (λ (e : Entry). e.symbol) its.1 in
    let hash : c.marker.result.hash ≡ taken.0 = c.marker.ensures.hash ∙ ap (λ (e : Entry). e.hash) its.1 in
    let rest_is : IsRestOf texts more = subst (IsRestOf texts) (sym c.in_ok-reserve.ensures.entries) is.rest in
    let kept : (s : ℕ) → Contains (map (λ (e : Entry). e.symbol) entries) s → Contains (map (λ (e : Entry). e.symbol) more) s = λ s there. subst (λ es. Contains (map (λ (e : Entry). e.symbol) es) s) (sym c.in_ok-reserve.ensures.entries) there in
    let mark = c.marker.ensures.marks in
    rw c.set.ensures (elim c.match-rank_of.branch [
      | in-Err w ↦
          let rank = w.in-Err.rank in let found = w.in-Err.ensures in
          let within = rank_within texts entry.hash (text_at texts entry) more rank found.0 found.1 in
          let new : Contains (map (λ (e : Entry). e.symbol) (insert more rank entry)) taken.1.symbol = subst (Contains (map (λ (e : Entry). e.symbol) (insert more rank entry))) symbol (has_new more rank entry within) in
          rw (w.self-is, w.insert.ensures) (marked_taken texts table entries is taken.0 c.args.place taken.1 (insert more rank entry)
          (rest_insert texts entry.hash (text_at texts entry) its.0.hash more rest_is entry its.0 refl rank found.0 found.1)
          (λ s there. has_old more rank entry within s (kept s there)) new c.marker.result hash mark)
      | in_default w ↦
          let own = found_own texts more is.distinct rest_is.each entry its.0.within w.in_default.field-0 w.in_default.ensures in
          rw w.self-is (marked_taken texts table entries is taken.0 c.args.place taken.1 more rest_is kept (subst (Contains (map (λ (e : Entry). e.symbol) more)) symbol own) c.marker.result hash mark)
    ])
