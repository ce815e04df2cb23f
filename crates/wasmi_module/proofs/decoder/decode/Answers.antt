use Rattle.wasmi_module.proofs.LacksLemmas.{anyhow, passed}
use Rattle.wasmi_module.proofs.LacksModule.{no_header, behind_header}
use Rattle.wasmi_module.proofs.decoder.decode.Goals as goal

pub returns-in_err-header-clause-refused : goal.returns-in_err-header-clause-refused
returns-in_err-header-clause-refused g c = anyhow c.from_residual.result (λ m h valid.
    no_header m c.args.bytes.now c.new-reader.result c.new-reader.ensures c.in_err-header.ensures h)

pub returns-in_err-module-clause-refused : goal.returns-in_err-module-clause-refused
returns-in_err-module-clause-refused g c = passed c.in_err-module.field-0.0 c.from_residual-in_err-module.result c.from_residual-in_err-module.ensures.1 (λ other m h valid.
    c.in_err-module.ensures.refused other m (behind_header m c.args.bytes.now c.new-reader.result c.new-reader.ensures c.in_ok-header.ensures h) valid)

pub returns-in_err-skipped-clause-refused : goal.returns-in_err-skipped-clause-refused
returns-in_err-skipped-clause-refused g c = anyhow c.from_residual-in_err-skipped.result (λ m h valid.
    c.in_err-skipped.ensures.refused (c.in_ok-module.ensures.rest m (behind_header m c.args.bytes.now c.new-reader.result c.new-reader.ensures c.in_ok-header.ensures h)))

pub returns-in_err-end-clause-refused : goal.returns-in_err-end-clause-refused
returns-in_err-end-clause-refused g c = anyhow c.from_residual-in_err-end.result (λ m h valid.
    c.in_err-end.ensures (c.in_ok-skipped.ensures.all (c.in_ok-module.ensures.rest m (behind_header m c.args.bytes.now c.new-reader.result c.new-reader.ensures c.in_ok-header.ensures h))))
