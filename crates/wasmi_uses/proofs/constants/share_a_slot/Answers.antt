use Rattle.std.proofs.Common.{[], ◌∷◌, nat_eq, eqb-true, eq-eqb, refl, arith}
use Rattle.std.specs.Bool.{one_answer}
use Rattle.wasmi_collections.specs.declared.run.dedup.DedupCommand.TheVariants.{Alloc}
use Rattle.wasmi_collections.specs.declared.run.dedup.DedupReply.TheVariants.{Key}
use Rattle.wasmi_uses.proofs.constants.share_a_slot.Goals as goal

pub returns : goal.returns
returns c =
    let one = c.args.one in let other = c.args.other in
    let first = c.in_ok-first.first in let second = c.in_ok-second.second in
    let lists = c.len.ensures.lists in let keyed = c.len.ensures.keyed in
    let law = c.equal_values_share_a_key.ensures c.args.table.now c.alloc-2.new.self (Alloc one ∷ Alloc other ∷ []) (Key first ∷ Key second ∷ []) (omega (arith, lists, keyed))
    (c.alloc.new.self, c.in_ok-first.ensures.ok, (c.alloc-2.new.self, c.in_ok-second.ensures.ok, refl))
    0 1 one other first second (omega arith)
    (record { keeps = λ place high low. absurd (omega (arith, high, low)); replaces_none = λ place key item there high low. absurd (omega (arith, high, low)) })
    (record { command_is = refl; reply_is = refl }) (record { command_is = refl; reply_is = refl }) in
    one_answer (nat_eq first second) (nat_eq one other) (eqb-true first second, eq-eqb first second) (law.1, law.0)
