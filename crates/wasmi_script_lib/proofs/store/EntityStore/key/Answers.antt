use Rattle.std.proofs.Common.{◌≡◌, ℕ, ◌<◌, ◌^◌, Option, Some, None, IfSome, IfNone, arith}
use Rattle.std.specs.Option.{SomeIff}
use Rattle.wasmi_script_lib.proofs.store.EntityStore.key.Goals as goal

keyed : (o : Option ℕ) (P Q : Type 0) (number : ℕ) → SomeIff o P number → Q → IfSome o (λ key. (key ≡ number) × Q)
keyed (Some key) P Q number some q = (some.1, q)
keyed None P Q number none q = tt

is_there : (o : Option ℕ) (P Q : Type 0) (number : ℕ) → SomeIff o P number → P → IfNone o Q
is_there (Some key) P Q number some p = tt
is_there None P Q number none p = absurd (none p)

pub returns-then-number-len-clause-there : goal.returns-then-number-len-clause-there
returns-then-number-len-clause-there g c =
    let low = c.if-number-len.true in let len = c.len.ensures.value in
    keyed c.from_usize.result _ _ c.args.number c.from_usize.ensures (omega (arith, low, len))

pub returns-then-number-len-clause-absent : goal.returns-then-number-len-clause-absent
returns-then-number-len-clause-absent g c =
    let low = c.if-number-len.true in let len = c.len.ensures.value in let most = c.len.ensures.most in
    let few : c.args.number < 2 ^ 32 = omega (arith, low, len, most) in
    is_there c.from_usize.result _ _ c.args.number c.from_usize.ensures few
