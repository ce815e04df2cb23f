use Rattle.wasmi_module.specs.Views.{func_type_of}
use Rattle.std.proofs.Common.{map}
use Rattle.wasmi_link_lib.specs.inner.Tables.{signature_of}
use Rattle.wasmi_link_lib.proofs.Asked.{key_at}
use Rattle.wasmi_link_lib.proofs.item.func.Goals as goal

pub id_of-id-requires : goal.id_of-id-requires
id_of-id-requires g c = key_at func_type_of (map signature_of c.args.types.now.handed) c.args.body.now.types.items c.args.index c.index-ty.result.now c.requires.keys c.requires.within c.index-ty.ensures
