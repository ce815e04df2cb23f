use Rattle.wasmi_module.specs.Format.{IsFuncType}
use Rattle.wasmi_module.proofs.ReadLemmas.{reads-then, reads-byte_then}
use Rattle.wasmi_module.proofs.OnceItems.{func_type_once}
use Rattle.wasmi_module.proofs.LacksLemmas.{only-once, anyhow, passed, lacks-with}
use Rattle.wasmi_module.proofs.LacksItems.{types_read, lacks-func_none, lacks-func_tag, lacks-func_params, lacks-func_results}
use Rattle.wasmi_module.proofs.items.FuncTypeItem.read.Goals as goal

pub returns-clause-written : goal.returns-clause-written
returns-clause-written g c =
    reads-byte_then c.byte.new.self c.if-branch-ne96.false c.in_ok-byte.ensures
    (reads-then c.vector.new.self (types_read c.in_ok-params.params.items c.in_ok-params.ensures.written) (types_read c.in_ok-results.results.items c.in_ok-results.ensures.written))

pub returns-clause-only : goal.returns-clause-only
returns-clause-only g c =
    only-once IsFuncType func_type_once
    (reads-byte_then c.byte.new.self c.if-branch-ne96.false c.in_ok-byte.ensures
    (reads-then c.vector.new.self (types_read c.in_ok-params.params.items c.in_ok-params.ensures.written) (types_read c.in_ok-results.results.items c.in_ok-results.ensures.written)))

pub returns-in_err-byte-clause-lacks : goal.returns-in_err-byte-clause-lacks
returns-in_err-byte-clause-lacks g c = anyhow c.from_residual.result (lacks-with _ (lacks-func_none c.in_err-byte.ensures))

pub returns-then-branch-ne96-clause-lacks : goal.returns-then-branch-ne96-clause-lacks
returns-then-branch-ne96-clause-lacks g c = λ _. lacks-with _ (lacks-func_tag c.in_ok-byte.field-0 c.byte.new.self c.in_ok-byte.ensures c.if-branch-ne96.true)

pub returns-in_err-params-clause-lacks : goal.returns-in_err-params-clause-lacks
returns-in_err-params-clause-lacks g c =
    passed c.in_err-params.field-0.0 c.from_residual-in_err-params.result c.from_residual-in_err-params.ensures.1
    (λ other. lacks-with _ (lacks-func_params c.args.counts.now c.in_ok-byte.field-0 c.byte.new.self c.in_ok-byte.ensures (c.in_err-params.ensures.lacks other)))

pub returns-in_err-results-clause-lacks : goal.returns-in_err-results-clause-lacks
returns-in_err-results-clause-lacks g c =
    passed c.in_err-results.field-0.0 c.from_residual-in_err-results.result c.from_residual-in_err-results.ensures.1
    (λ other. lacks-with _
    (lacks-func_results c.args.counts.now c.in_ok-byte.field-0 c.in_ok-params.params.items c.byte.new.self c.vector.new.self c.in_ok-byte.ensures
    (types_read c.in_ok-params.params.items c.in_ok-params.ensures.written) (c.in_err-results.ensures.lacks other)))
