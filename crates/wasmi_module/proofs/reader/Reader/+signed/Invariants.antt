use Rattle.wasmi_module.proofs.reader.Reader.+signed.Given as goal

abbrev pub decreases-signed : goal.decreases-signed
decreases-signed l = l.half
