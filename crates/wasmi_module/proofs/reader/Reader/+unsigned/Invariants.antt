use Rattle.wasmi_module.proofs.reader.Reader.+unsigned.Given as goal

abbrev pub decreases-unsigned : goal.decreases-unsigned
decreases-unsigned l = l.limit
