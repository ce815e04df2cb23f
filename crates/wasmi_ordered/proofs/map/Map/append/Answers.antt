use Rattle.wasmi_ordered.proofs.map.Map.append.Goals as goal

pub returns-in_err-append-clause-moves : goal.returns-in_err-append-clause-moves
returns-in_err-append-clause-moves g c = rw (← c.self.view_is, ← c.other.view_is) (let m = c.append.ensures.moves in (m.0, m.1, m.2.0))

pub returns-clause-ok : goal.returns-clause-ok
returns-clause-ok g c = rw (← c.self.view_is, ← c.other.view_is) c.in_ok-append.ensures.inserts_all.0

pub returns-clause-moves : goal.returns-clause-moves
returns-clause-moves g c = rw (← c.self.view_is, ← c.other.view_is) (let m = c.append.ensures.moves in (m.0, m.1, m.2.0))
