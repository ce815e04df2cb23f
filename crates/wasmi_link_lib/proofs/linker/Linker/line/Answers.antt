use Rattle.std.proofs.Common.{◌≡◌, ◌∙◌, ap, map}
use Rattle.wasmi_module.specs.Views.{import_of}
use Rattle.wasmi_link_lib.specs.Linking.{answer_by, asked_item, module_named, named_of}
use Rattle.wasmi_link_lib.specs.Lines.{ItemType}
use Rattle.wasmi_link_lib.specs.inner.Tables.{Keyed, keyed_of, signature_of}
use Rattle.wasmi_link_lib.proofs.Asked.{keyed-type}
use Rattle.wasmi_link_lib.proofs.linker.Linker.line.Goals as goal

pub returns : goal.returns
returns g c =
    let i = import_of c.args.import.now in
    let asker = named_of c.args.asker.now in
    let modules = map named_of c.args.modules.now in
    let asked : (keyed_of c.asked-item.result).type ≡ asked_item asker.body i.item =
    ap (λ (k : Keyed). k.type) c.asked-item.ensures ∙ keyed-type (map signature_of c.args.self.now.types.handed) (asked_item asker.body i.item) in
    let type = c.ty.ensures ∙ asked in
    let answer = c.answer-answer.ensures i c.requires.symbols ∙ ap (λ (t : ItemType). answer_by t i.field (module_named modules i.asked)) asked in
    λ j. record { asker = asker.name; asked = i.asked; field = i.field; item = type j; answer = answer j }
