use Rattle.std.proofs.Common.{arith, ◌∙◌, ap, cond, map, option_map, sym}
use Rattle.wasmi_module.specs.Valid.{IsValid}
use Rattle.wasmi_module.specs.Views.{module_of}
use Rattle.wasmi_link_lib.specs.Lines.{Found, Differs}
use Rattle.wasmi_link_lib.specs.Linking.{answer_by, exported, named_of}
use Rattle.wasmi_link_lib.specs.inner.Tables.{keyed_of, signature_of}
use Rattle.wasmi_link_lib.proofs.Asked.{answered, missing}
use Rattle.wasmi_link_lib.proofs.Keys.{has_keys}
use Rattle.wasmi_link_lib.proofs.Lists.{All_get, Contains-got}
use Rattle.wasmi_link_lib.proofs.Noted.{first_within, no_module, read_first, the_module}
use Rattle.wasmi_link_lib.proofs.linker.Linker.answer.Goals as goal

pub returns-in_default : goal.returns-in_default
returns-in_default g c = λ i symbols.
    let modules = map named_of c.args.modules.now in
    sym (ap (answer_by (keyed_of c.args.asked.now).type i.field) (no_module modules i.asked (c.in_default.ensures modules i.asked c.requires.linker symbols.0)))

pub bounds-modules-into_usize : goal.bounds-modules-into_usize
bounds-modules-into_usize g c =
    let i = c.requires.known.0 in
    first_within named_of c.args.modules.now i.asked c.in-Some.id c.into_usize.result (c.in-Some.ensures (map named_of c.args.modules.now) i.asked c.requires.linker c.requires.known.1.0) c.into_usize.ensures.number

pub offset_bounds-modules-into_usize : goal.offset_bounds-modules-into_usize
offset_bounds-modules-into_usize g c =
    let i = c.requires.known.0 in
    let in' = first_within named_of c.args.modules.now i.asked c.in-Some.id c.into_usize.result (c.in-Some.ensures (map named_of c.args.modules.now) i.asked c.requires.linker c.requires.known.1.0) c.into_usize.ensures.number in
    omega (arith, in')

pub exported-requires : goal.exported-requires
exported-requires g c =
    let modules = map named_of c.args.modules.now in
    let named = c.index-modules-into_usize.result in
    let i = c.requires.known.0 in
    let at = read_first named_of c.args.modules.now i.asked c.in-Some.id c.into_usize.result named (c.in-Some.ensures modules i.asked c.requires.linker c.requires.known.1.0) c.into_usize.ensures.number c.index-modules-into_usize.is in
    record {
      linker = c.requires.linker;
      there = ap (option_map (λ m. m.body)) at;
      valid = All_get (λ m. IsValid m.body) modules c.in-Some.id (named_of named) c.requires.valid at;
      keys = has_keys (map signature_of c.args.self.now.types.handed) modules (named_of named) c.requires.linker.has_types (Contains-got modules c.in-Some.id (named_of named) at);
    }

pub returns-then-admits : goal.returns-then-admits
returns-then-admits g c = λ i symbols.
    let modules = map named_of c.args.modules.now in
    let named = c.index-modules-into_usize.result in
    let given = c.in-Some-exported.given in
    let type = (keyed_of c.args.asked.now).type in
    let first = c.in-Some.ensures modules i.asked c.requires.linker symbols.0 in
    let at = read_first named_of c.args.modules.now i.asked c.in-Some.id c.into_usize.result named first c.into_usize.ensures.number c.index-modules-into_usize.is in
    ap (λ b. cond b (Found named.name.now) (Differs named.name.now (keyed_of given).type)) c.if-admits.ensures
    ∙ answered (map signature_of c.args.self.now.types.handed) c.args.asked.now given type c.requires.keyed named.name.now (exported (module_of named.module) i.field) (c.in-Some-exported.ensures i.field symbols.1)
    ∙ sym (ap (answer_by type i.field) (the_module modules i.asked c.in-Some.id (named_of named) first at))

pub returns-else-admits : goal.returns-else-admits
returns-else-admits g c = λ i symbols.
    let modules = map named_of c.args.modules.now in
    let named = c.index-modules-into_usize.result in
    let given = c.in-Some-exported.given in
    let type = (keyed_of c.args.asked.now).type in
    let first = c.in-Some.ensures modules i.asked c.requires.linker symbols.0 in
    let at = read_first named_of c.args.modules.now i.asked c.in-Some.id c.into_usize.result named first c.into_usize.ensures.number c.index-modules-into_usize.is in
    ap (Differs named.name.now) c.ty.ensures
    ∙ ap (λ b. cond b (Found named.name.now) (Differs named.name.now (keyed_of given).type)) c.if-admits.ensures
    ∙ answered (map signature_of c.args.self.now.types.handed) c.args.asked.now given type c.requires.keyed named.name.now (exported (module_of named.module) i.field) (c.in-Some-exported.ensures i.field symbols.1)
    ∙ sym (ap (answer_by type i.field) (the_module modules i.asked c.in-Some.id (named_of named) first at))

pub returns-in-None : goal.returns-in-None
returns-in-None g c = λ i symbols.
    let modules = map named_of c.args.modules.now in
    let named = c.index-modules-into_usize.result in
    let type = (keyed_of c.args.asked.now).type in
    let first = c.in-Some.ensures modules i.asked c.requires.linker symbols.0 in
    let at = read_first named_of c.args.modules.now i.asked c.in-Some.id c.into_usize.result named first c.into_usize.ensures.number c.index-modules-into_usize.is in
    missing (map signature_of c.args.self.now.types.handed) type named.name.now (exported (module_of named.module) i.field) (c.in-None.ensures i.field symbols.1)
    ∙ sym (ap (answer_by type i.field) (the_module modules i.asked c.in-Some.id (named_of named) first at))
