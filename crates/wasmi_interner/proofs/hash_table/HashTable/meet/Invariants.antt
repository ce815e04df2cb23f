use Rattle.wasmi_interner.proofs.Meeting.{ArePassed}
use Rattle.wasmi_interner.proofs.hash_table.HashTable.meet.Given as goal

-- the slots so far are passed by
abbrev pub invariant-loop-place : goal.invariant-loop-place
invariant-loop-place g l = ArePassed l.hash l.place l.window
