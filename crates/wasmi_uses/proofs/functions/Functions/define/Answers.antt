use Rattle.std.proofs.Common.{List, ◌∷◌, [], ◌++◌, ◌∙◌, ap, length, arith}
use Rattle.std.proofs.lemmas.List.{length-map}
use Rattle.wasmi_uses.specs.Functions.{shown}
use Rattle.wasmi_uses.specs.declared.functions.Function.{Function}
use Rattle.wasmi_uses.proofs.FunctionLemmas.{still_shown, shown_push, sound_push}
use Rattle.wasmi_uses.proofs.functions.Functions.define.Goals as goal

pub returns-in_err-insert-clause-err : goal.returns-in_err-insert-clause-err
returns-in_err-insert-clause-err c =
    let same = still_shown c.self.inside.names c.get_or_intern.new.self c.in_ok-symbol.ensures.earlier c.self.inside.functions.items c.self.invariant.named in
    grind arith

pub returns-clause-ok : goal.returns-clause-ok
returns-clause-ok c =
    let inside = c.self.inside in
    let function : Function = record { symbol = c.in_ok-symbol.symbol; value = c.args.value } in
    let push = shown_push inside.names c.get_or_intern.new.self c.in_ok-symbol.ensures.earlier inside.by_name.entries c.insert.new.self.entries inside.functions.items function c.args.name.now c.self.invariant c.in_ok-symbol.ensures.reads in
    let len = length-map inside.functions.items (shown inside.names) in
    grind arith

pub invariant_of-self-2 : goal.invariant_of-self-2
invariant_of-self-2 c =
    let inside = c.self.inside in
    let function : Function = record { symbol = c.in_ok-symbol.symbol; value = c.args.value } in
    let items = c.in_ok-alloc.ensures.ok ∙ ap (λ (items : List Function). items ++ function ∷ []) c.reserve.ensures.items in
    let key = c.in_ok-key.ensures.key ∙ ap length c.reserve.ensures.items in
    rw items (sound_push inside.names c.get_or_intern.new.self c.in_ok-symbol.ensures.earlier inside.by_name.entries c.insert.new.self.entries inside.functions.items function c.args.name.now c.self.invariant c.in_ok-symbol.ensures.reads (rw c.self.view_is c.in_default.ensures.absent) (rw (← key) c.in_ok-insert.ensures.changes))
