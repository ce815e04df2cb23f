use Rattle.std.proofs.Common.{◌≡◌, arith, w32, w64, to_z, of_z}
use Rattle.std.proofs.lemmas.Int.{ints}
use Rattle.wasmi_module.proofs.ReadLemmas.{reads-byte_then, reads-bytes}
use Rattle.wasmi_module.proofs.reader.Reader.constant.Goals as goal
use Rattle.std.proofs.lemmas.Result.{MatchResult-from_err}
use Rattle.wasmi_module.proofs.LacksLemmas.{lacks-bytes}
use Rattle.wasmi_module.proofs.LacksConstants.{lacks-constant_none, lacks-constant_tag, lacks-constant_i32, lacks-constant_i64, lacks-constant_f32, lacks-constant_f64, lacks-constant_v128, lacks-constant_null, lacks-constant_func, lacks-constant_get}

pub returns-in_ok-number-in-65 : goal.returns-in_ok-number-in-65
returns-in_ok-number-in-65 c =
    let n = c.in_ok-number-in-65.number in
    let e : to_z w32 (of_z w32 n) ≡ n = omega (arith, ints, c.in_ok-number-in-65.ensures.above, c.in_ok-number-in-65.ensures.below) in
    rw e (reads-byte_then c.byte.new.self c.in-65.is c.in_ok-byte.ensures c.in_ok-number-in-65.ensures.number)

pub returns-in_ok-number-in-66 : goal.returns-in_ok-number-in-66
returns-in_ok-number-in-66 c =
    let n = c.in_ok-number-in-66.number in
    let e : to_z w64 (of_z w64 n) ≡ n = omega (arith, ints, c.in_ok-number-in-66.ensures.above, c.in_ok-number-in-66.ensures.below) in
    rw e (reads-byte_then c.byte.new.self c.in-66.is c.in_ok-byte.ensures c.in_ok-number-in-66.ensures.number)

pub returns-in_ok-bytes-in-67 : goal.returns-in_ok-bytes-in-67
returns-in_ok-bytes-in-67 c =
    let bytes = reads-bytes 4 c.in_ok-bytes-in-67.bytes.now c.byte.new.self c.bytes.new.self c.in_ok-bytes-in-67.ensures.0 c.in_ok-bytes-in-67.ensures.1 in
    reads-byte_then c.byte.new.self c.in-67.is c.in_ok-byte.ensures bytes

pub returns-in_ok-bytes-in-68 : goal.returns-in_ok-bytes-in-68
returns-in_ok-bytes-in-68 c =
    let bytes = reads-bytes 8 c.in_ok-bytes-in-68.bytes.now c.byte.new.self c.bytes-in-68.new.self c.in_ok-bytes-in-68.ensures.0 c.in_ok-bytes-in-68.ensures.1 in
    reads-byte_then c.byte.new.self c.in-68.is c.in_ok-byte.ensures bytes

pub returns-in_ok-bytes-in-253 : goal.returns-in_ok-bytes-in-253
returns-in_ok-bytes-in-253 c =
    reads-byte_then c.byte.new.self c.in-253.is c.in_ok-byte.ensures c.in_ok-bytes-in-253.ensures

pub returns-in_ok-ty-in-208 : goal.returns-in_ok-ty-in-208
returns-in_ok-ty-in-208 c =
    reads-byte_then c.byte.new.self c.in-208.is c.in_ok-byte.ensures c.in_ok-ty-in-208.ensures

pub returns-in_ok-index-in-210 : goal.returns-in_ok-index-in-210
returns-in_ok-index-in-210 c =
    reads-byte_then c.byte.new.self c.in-210.is c.in_ok-byte.ensures c.in_ok-index-in-210.ensures

pub returns-in_ok-index-in-35 : goal.returns-in_ok-index-in-35
returns-in_ok-index-in-35 c =
    reads-byte_then c.byte.new.self c.in-35.is c.in_ok-byte.ensures c.in_ok-index-in-35.ensures

pub returns-in_err-byte : goal.returns-in_err-byte
returns-in_err-byte c = MatchResult-from_err _ _ _ c.from_residual.ensures.0 (λ _. lacks-constant_none c.in_err-byte.ensures)

pub returns-in_err-number-in-65 : goal.returns-in_err-number-in-65
returns-in_err-number-in-65 c =
    MatchResult-from_err _ _ _ c.from_residual-in_err-number-in-65.ensures.0
    (λ _. lacks-constant_i32 c.in_ok-byte.field-0 c.byte.new.self c.in-65.is c.in_ok-byte.ensures c.in_err-number-in-65.ensures.lacks)

pub returns-in_err-number-in-66 : goal.returns-in_err-number-in-66
returns-in_err-number-in-66 c =
    MatchResult-from_err _ _ _ c.from_residual-in_err-number-in-66.ensures.0
    (λ _. lacks-constant_i64 c.in_ok-byte.field-0 c.byte.new.self c.in-66.is c.in_ok-byte.ensures c.in_err-number-in-66.ensures.lacks)

pub returns-in_err-bytes-in-67 : goal.returns-in_err-bytes-in-67
returns-in_err-bytes-in-67 c =
    MatchResult-from_err _ _ _ c.from_residual-in_err-bytes-in-67.ensures.0
    (λ _. lacks-constant_f32 c.in_ok-byte.field-0 c.byte.new.self c.in-67.is c.in_ok-byte.ensures (lacks-bytes 4 c.in_err-bytes-in-67.ensures))

pub returns-in_err-bytes-in-68 : goal.returns-in_err-bytes-in-68
returns-in_err-bytes-in-68 c =
    MatchResult-from_err _ _ _ c.from_residual-in_err-bytes-in-68.ensures.0
    (λ _. lacks-constant_f64 c.in_ok-byte.field-0 c.byte.new.self c.in-68.is c.in_ok-byte.ensures (lacks-bytes 8 c.in_err-bytes-in-68.ensures))

pub returns-in_err-bytes-in-253 : goal.returns-in_err-bytes-in-253
returns-in_err-bytes-in-253 c =
    MatchResult-from_err _ _ _ c.from_residual-in_err-bytes-in-253.ensures.0
    (λ _. lacks-constant_v128 c.in_ok-byte.field-0 c.byte.new.self c.in-253.is c.in_ok-byte.ensures c.in_err-bytes-in-253.ensures)

pub returns-in_err-ty-in-208 : goal.returns-in_err-ty-in-208
returns-in_err-ty-in-208 c =
    MatchResult-from_err _ _ _ c.from_residual-in_err-ty-in-208.ensures.0
    (λ _. lacks-constant_null c.in_ok-byte.field-0 c.byte.new.self c.in-208.is c.in_ok-byte.ensures c.in_err-ty-in-208.ensures)

pub returns-in_err-index-in-210 : goal.returns-in_err-index-in-210
returns-in_err-index-in-210 c =
    MatchResult-from_err _ _ _ c.from_residual-in_err-index-in-210.ensures.0
    (λ _. lacks-constant_func c.in_ok-byte.field-0 c.byte.new.self c.in-210.is c.in_ok-byte.ensures c.in_err-index-in-210.ensures)

pub returns-in_err-index-in-35 : goal.returns-in_err-index-in-35
returns-in_err-index-in-35 c =
    MatchResult-from_err _ _ _ c.from_residual-in_err-index-in-35.ensures.0
    (λ _. lacks-constant_get c.in_ok-byte.field-0 c.byte.new.self c.in-35.is c.in_ok-byte.ensures c.in_err-index-in-35.ensures)

pub returns-in_default : goal.returns-in_default
returns-in_default c =
    lacks-constant_tag c.in_ok-byte.field-0 c.byte.new.self c.in_ok-byte.ensures
    (λ e. absurd (omega arith)) (λ e. absurd (omega arith)) (λ e. absurd (omega arith)) (λ e. absurd (omega arith))
    (λ e. absurd (omega arith)) (λ e. absurd (omega arith)) (λ e. absurd (omega arith)) (λ e. absurd (omega arith))
