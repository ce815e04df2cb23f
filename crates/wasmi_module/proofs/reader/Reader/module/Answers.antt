use Rattle.std.proofs.Common.{rules, ◌≡◌, ◌+◌, length, List, refl, subst, map, arith}
use Rattle.std.specs.List.{All}
use Rattle.wasmi_module.specs.declared.counts.Counts.{Counts}
use Rattle.wasmi_module.specs.declared.module.Module as rust_module
use Rattle.wasmi_module.specs.declared.module.Global as rust_global
use Rattle.wasmi_module.specs.declared.module.Export as rust_export
use Rattle.wasmi_module.specs.declared.module.Kind.TheVariants.{Func, Table, Memory, Global}
use Rattle.wasmi_module.specs.Format.{IsTableType, IsMemoryType}
use Rattle.wasmi_module.specs.Numbers.{IsU32}
use Rattle.wasmi_module.specs.Valid.{AreDistinct, IsInitWithin, IsExportWithin}
use Rattle.wasmi_module.specs.Views.{func_type_of, init_of, global_of}
use Rattle.wasmi_module.proofs.ReadLemmas.{reads-then}
use Rattle.wasmi_module.proofs.ModuleLemmas.{next_read, counted, is_valid}
use Rattle.wasmi_module.proofs.LacksLemmas.{anyhow, passed}
use Rattle.wasmi_module.proofs.LacksModule.{found_has, found_skipped, len_same, kind_count, counts_same, imports_valid, functions_valid, globals_valid, exports_distinct}
use Rattle.wasmi_module.proofs.OnceSections.{found_of}
use Rattle.wasmi_module.proofs.OrderLemmas.{has_first}
use Rattle.wasmi_module.proofs.reader.Reader.module.Goals as goal

pub returns-clause-written : goal.returns-clause-written
returns-clause-written g c =
    reads-then c.section.new.self c.in_ok-types.ensures.written
    (reads-then c.section-2.new.self c.in_ok-imports.ensures.written
    (reads-then c.section-3.new.self (next_read IsU32 3 c.in_ok-functions.functions.items c.in_ok-functions.ensures.written)
    (reads-then c.section-4.new.self (next_read IsTableType 4 c.in_ok-tables.tables.items c.in_ok-tables.ensures.written)
    (reads-then c.section-5.new.self (next_read IsMemoryType 5 c.in_ok-memories.memories.items c.in_ok-memories.ensures.written)
    (reads-then c.section-6.new.self c.in_ok-globals.ensures.written c.in_ok-exports.ensures.written)))))

pub returns-clause-valid : goal.returns-clause-valid
returns-clause-valid g c =
    let m : rust_module.Module g.row.A.Denot = record {
      types = c.in_ok-types.types;
      imports = c.in_ok-imports.imports;
      functions = c.in_ok-functions.functions;
      tables = c.in_ok-tables.tables;
      memories = c.in_ok-memories.memories;
      globals = c.in_ok-globals.globals;
      exports = c.in_ok-exports.exports;
    } in
    let early : Counts = record { types = c.len.result; functions = 0; tables = 0; memories = 0; globals = 0 } in
    let late : Counts = record {
      types = c.len.result;
      functions = c.imported.result + c.len-2.result;
      tables = c.imported-2.result + c.len-3.result;
      memories = c.imported-3.result + c.len-4.result;
      globals = c.imported-4.result + c.len-5.result;
    } in
    let len_of_types : c.len.result ≡ length m.types.items = search rules in
    let len_of_functions : c.len-2.result ≡ length m.functions.items = search rules in
    let len_of_tables : c.len-3.result ≡ length m.tables.items = search rules in
    let len_of_memories : c.len-4.result ≡ length m.memories.items = search rules in
    let len_of_globals : c.len-5.result ≡ length m.globals.items = search rules in
    is_valid m early late len_of_types len_of_types
    (record {
      functions = counted m Func _ _ (length m.functions.items) _ c.imported.ensures.count c.deref.ensures.value len_of_functions;
      tables = counted m Table _ _ (length m.tables.items) _ c.imported-2.ensures.count c.deref-2.ensures.value len_of_tables;
      memories = counted m Memory _ _ (length m.memories.items) _ c.imported-3.ensures.count c.deref-3.ensures.value len_of_memories;
      globals = counted m Global _ _ (length m.globals.items) _ c.imported-4.ensures.count c.deref-4.ensures.value len_of_globals;
    })
    c.in_ok-imports.ensures.valid c.in_ok-functions.ensures.valid
    (subst (λ (globals : List rust_global.Global). All (λ item. IsInitWithin late (init_of item.init)) globals) c.deref-5.ensures.value (c.are_inits_within-within.ensures.0 c.in_ok-require.ensures))
    c.in_ok-exports.ensures.valid
    (subst (λ (exports : List rust_export.Export). AreDistinct (map (λ e. e.name.now) exports)) c.deref-6.ensures.value (c.in_ok-distinct.ensures.0 c.in_ok-require-2.ensures))

pub returns-clause-rest : goal.returns-clause-rest
returns-clause-rest g c = λ m h.
    let f = found_of m c.args.self.now h in
    let h1 = found_has m c.args.self.now f in
    let s1 = c.in_ok-types.ensures.only.same f.types m.types _ (has_first 1 refl (omega arith) h1) f.is_types in
    let s2 = c.in_ok-imports.ensures.only.same f.imports m.imports _ (has_first 2 refl (omega arith) s1.1) f.is_imports in
    let s3 = c.in_ok-functions.ensures.only.same f.functions m.functions _ (has_first 3 refl (omega arith) s2.1) f.is_functions in
    let s4 = c.in_ok-tables.ensures.only.same f.tables m.tables _ (has_first 4 refl (omega arith) s3.1) f.is_tables in
    let s5 = c.in_ok-memories.ensures.only.same f.memories m.memories _ (has_first 5 refl (omega arith) s4.1) f.is_memories in
    let s6 = c.in_ok-globals.ensures.only.same f.globals m.globals _ (has_first 6 refl (omega arith) s5.1) f.is_globals in
    let s7 = c.in_ok-exports.ensures.only.same f.exports m.exports _ (has_first 7 refl (omega arith) s6.1) f.is_exports in
    found_skipped m c.args.self.now f c.section-7.new.self s7.1

pub returns-in_err-types-clause-refused : goal.returns-in_err-types-clause-refused
returns-in_err-types-clause-refused g c = passed c.in_err-types.field-0.0 c.from_residual.result c.from_residual.ensures.1 (λ other m h valid.
    let f = found_of m c.args.self.now h in
    let h1 = found_has m c.args.self.now f in
    (c.in_err-types.ensures.lacks other).none f.types m.types _ (has_first 1 refl (omega arith) h1) f.is_types (λ k d lt. tt))

pub returns-in_err-imports-clause-refused : goal.returns-in_err-imports-clause-refused
returns-in_err-imports-clause-refused g c = passed c.in_err-imports.field-0.0 c.from_residual-in_err-imports.result c.from_residual-in_err-imports.ensures.1 (λ other m h valid.
    let f = found_of m c.args.self.now h in
    let h1 = found_has m c.args.self.now f in
    let s1 = c.in_ok-types.ensures.only.same f.types m.types _ (has_first 1 refl (omega arith) h1) f.is_types in
    let types : c.len.result ≡ length c.in_ok-types.types.items = search rules in
    let types_same = len_same func_type_of c.in_ok-types.types.items m.types c.len.result types s1.0 in
    (c.in_err-imports.ensures.lacks other).none f.imports m.imports _ (has_first 2 refl (omega arith) s1.1) f.is_imports (imports_valid m (record { types = c.len.result; functions = 0; tables = 0; memories = 0; globals = 0 }) valid types_same))

pub returns-in_err-functions-clause-refused : goal.returns-in_err-functions-clause-refused
returns-in_err-functions-clause-refused g c = passed c.in_err-functions.field-0.0 c.from_residual-in_err-functions.result c.from_residual-in_err-functions.ensures.1 (λ other m h valid.
    let f = found_of m c.args.self.now h in
    let h1 = found_has m c.args.self.now f in
    let s1 = c.in_ok-types.ensures.only.same f.types m.types _ (has_first 1 refl (omega arith) h1) f.is_types in
    let s2 = c.in_ok-imports.ensures.only.same f.imports m.imports _ (has_first 2 refl (omega arith) s1.1) f.is_imports in
    let types : c.len.result ≡ length c.in_ok-types.types.items = search rules in
    let types_same = len_same func_type_of c.in_ok-types.types.items m.types c.len.result types s1.0 in
    (c.in_err-functions.ensures.lacks other).none f.functions m.functions _ (has_first 3 refl (omega arith) s2.1) f.is_functions (functions_valid m (record { types = c.len.result; functions = 0; tables = 0; memories = 0; globals = 0 }) valid types_same))

pub returns-in_err-tables-clause-refused : goal.returns-in_err-tables-clause-refused
returns-in_err-tables-clause-refused g c = passed c.in_err-tables.field-0.0 c.from_residual-in_err-tables.result c.from_residual-in_err-tables.ensures.1 (λ other m h valid.
    let f = found_of m c.args.self.now h in
    let h1 = found_has m c.args.self.now f in
    let s1 = c.in_ok-types.ensures.only.same f.types m.types _ (has_first 1 refl (omega arith) h1) f.is_types in
    let s2 = c.in_ok-imports.ensures.only.same f.imports m.imports _ (has_first 2 refl (omega arith) s1.1) f.is_imports in
    let s3 = c.in_ok-functions.ensures.only.same f.functions m.functions _ (has_first 3 refl (omega arith) s2.1) f.is_functions in
    (c.in_err-tables.ensures.lacks other).none f.tables m.tables _ (has_first 4 refl (omega arith) s3.1) f.is_tables (λ k d lt. tt))

pub returns-in_err-memories-clause-refused : goal.returns-in_err-memories-clause-refused
returns-in_err-memories-clause-refused g c = passed c.in_err-memories.field-0.0 c.from_residual-in_err-memories.result c.from_residual-in_err-memories.ensures.1 (λ other m h valid.
    let f = found_of m c.args.self.now h in
    let h1 = found_has m c.args.self.now f in
    let s1 = c.in_ok-types.ensures.only.same f.types m.types _ (has_first 1 refl (omega arith) h1) f.is_types in
    let s2 = c.in_ok-imports.ensures.only.same f.imports m.imports _ (has_first 2 refl (omega arith) s1.1) f.is_imports in
    let s3 = c.in_ok-functions.ensures.only.same f.functions m.functions _ (has_first 3 refl (omega arith) s2.1) f.is_functions in
    let s4 = c.in_ok-tables.ensures.only.same f.tables m.tables _ (has_first 4 refl (omega arith) s3.1) f.is_tables in
    (c.in_err-memories.ensures.lacks other).none f.memories m.memories _ (has_first 5 refl (omega arith) s4.1) f.is_memories (λ k d lt. tt))

pub returns-in_err-globals-clause-refused : goal.returns-in_err-globals-clause-refused
returns-in_err-globals-clause-refused g c = passed c.in_err-globals.field-0.0 c.from_residual-in_err-globals.result c.from_residual-in_err-globals.ensures.1 (λ other m h valid.
    let f = found_of m c.args.self.now h in
    let h1 = found_has m c.args.self.now f in
    let s1 = c.in_ok-types.ensures.only.same f.types m.types _ (has_first 1 refl (omega arith) h1) f.is_types in
    let s2 = c.in_ok-imports.ensures.only.same f.imports m.imports _ (has_first 2 refl (omega arith) s1.1) f.is_imports in
    let s3 = c.in_ok-functions.ensures.only.same f.functions m.functions _ (has_first 3 refl (omega arith) s2.1) f.is_functions in
    let s4 = c.in_ok-tables.ensures.only.same f.tables m.tables _ (has_first 4 refl (omega arith) s3.1) f.is_tables in
    let s5 = c.in_ok-memories.ensures.only.same f.memories m.memories _ (has_first 5 refl (omega arith) s4.1) f.is_memories in
    (c.in_err-globals.ensures.lacks other).none f.globals m.globals _ (has_first 6 refl (omega arith) s5.1) f.is_globals (λ k d lt. tt))

pub returns-in_err-exports-clause-refused : goal.returns-in_err-exports-clause-refused
returns-in_err-exports-clause-refused g c = passed c.in_err-exports.field-0.0 c.from_residual-in_err-exports.result c.from_residual-in_err-exports.ensures.1 (λ other m h valid.
    let f = found_of m c.args.self.now h in
    let h1 = found_has m c.args.self.now f in
    let s1 = c.in_ok-types.ensures.only.same f.types m.types _ (has_first 1 refl (omega arith) h1) f.is_types in
    let s2 = c.in_ok-imports.ensures.only.same f.imports m.imports _ (has_first 2 refl (omega arith) s1.1) f.is_imports in
    let s3 = c.in_ok-functions.ensures.only.same f.functions m.functions _ (has_first 3 refl (omega arith) s2.1) f.is_functions in
    let s4 = c.in_ok-tables.ensures.only.same f.tables m.tables _ (has_first 4 refl (omega arith) s3.1) f.is_tables in
    let s5 = c.in_ok-memories.ensures.only.same f.memories m.memories _ (has_first 5 refl (omega arith) s4.1) f.is_memories in
    let s6 = c.in_ok-globals.ensures.only.same f.globals m.globals _ (has_first 6 refl (omega arith) s5.1) f.is_globals in
    let types : c.len.result ≡ length c.in_ok-types.types.items = search rules in
    let types_same = len_same func_type_of c.in_ok-types.types.items m.types c.len.result types s1.0 in
    let len_of_functions : c.len-2.result ≡ length c.in_ok-functions.functions.items = search rules in
    let len_of_tables : c.len-3.result ≡ length c.in_ok-tables.tables.items = search rules in
    let len_of_memories : c.len-4.result ≡ length c.in_ok-memories.memories.items = search rules in
    let len_of_globals : c.len-5.result ≡ length c.in_ok-globals.globals.items = search rules in
    let counts = counts_same m c.len.result (c.imported.result + c.len-2.result) (c.imported-2.result + c.len-3.result) (c.imported-3.result + c.len-4.result) (c.imported-4.result + c.len-5.result) types_same
    (kind_count Func _ _ m.imports _ (length m.functions) _ c.imported.ensures.count c.deref.ensures.value s2.0 (len_same (λ index. index) c.in_ok-functions.functions.items m.functions c.len-2.result len_of_functions s3.0))
    (kind_count Table _ _ m.imports _ (length m.tables) _ c.imported-2.ensures.count c.deref-2.ensures.value s2.0 (len_same (λ ty. ty) c.in_ok-tables.tables.items m.tables c.len-3.result len_of_tables s4.0))
    (kind_count Memory _ _ m.imports _ (length m.memories) _ c.imported-3.ensures.count c.deref-3.ensures.value s2.0 (len_same (λ ty. ty) c.in_ok-memories.memories.items m.memories c.len-4.result len_of_memories s5.0))
    (kind_count Global _ _ m.imports _ (length m.globals) _ c.imported-4.ensures.count c.deref-4.ensures.value s2.0 (len_same global_of c.in_ok-globals.globals.items m.globals c.len-5.result len_of_globals s6.0)) in
    (c.in_err-exports.ensures.lacks other).none f.exports m.exports _ (has_first 7 refl (omega arith) s6.1) f.is_exports (subst (λ (k : Counts). All (IsExportWithin k) m.exports) counts valid.exports))

pub returns-in_err-require-clause-refused : goal.returns-in_err-require-clause-refused
returns-in_err-require-clause-refused g c = anyhow c.from_residual-in_err-require.result (λ m h valid.
    let f = found_of m c.args.self.now h in
    let h1 = found_has m c.args.self.now f in
    let s1 = c.in_ok-types.ensures.only.same f.types m.types _ (has_first 1 refl (omega arith) h1) f.is_types in
    let s2 = c.in_ok-imports.ensures.only.same f.imports m.imports _ (has_first 2 refl (omega arith) s1.1) f.is_imports in
    let s3 = c.in_ok-functions.ensures.only.same f.functions m.functions _ (has_first 3 refl (omega arith) s2.1) f.is_functions in
    let s4 = c.in_ok-tables.ensures.only.same f.tables m.tables _ (has_first 4 refl (omega arith) s3.1) f.is_tables in
    let s5 = c.in_ok-memories.ensures.only.same f.memories m.memories _ (has_first 5 refl (omega arith) s4.1) f.is_memories in
    let s6 = c.in_ok-globals.ensures.only.same f.globals m.globals _ (has_first 6 refl (omega arith) s5.1) f.is_globals in
    let types : c.len.result ≡ length c.in_ok-types.types.items = search rules in
    let types_same = len_same func_type_of c.in_ok-types.types.items m.types c.len.result types s1.0 in
    let len_of_functions : c.len-2.result ≡ length c.in_ok-functions.functions.items = search rules in
    let len_of_tables : c.len-3.result ≡ length c.in_ok-tables.tables.items = search rules in
    let len_of_memories : c.len-4.result ≡ length c.in_ok-memories.memories.items = search rules in
    let len_of_globals : c.len-5.result ≡ length c.in_ok-globals.globals.items = search rules in
    let counts = counts_same m c.len.result (c.imported.result + c.len-2.result) (c.imported-2.result + c.len-3.result) (c.imported-3.result + c.len-4.result) (c.imported-4.result + c.len-5.result) types_same
    (kind_count Func _ _ m.imports _ (length m.functions) _ c.imported.ensures.count c.deref.ensures.value s2.0 (len_same (λ index. index) c.in_ok-functions.functions.items m.functions c.len-2.result len_of_functions s3.0))
    (kind_count Table _ _ m.imports _ (length m.tables) _ c.imported-2.ensures.count c.deref-2.ensures.value s2.0 (len_same (λ ty. ty) c.in_ok-tables.tables.items m.tables c.len-3.result len_of_tables s4.0))
    (kind_count Memory _ _ m.imports _ (length m.memories) _ c.imported-3.ensures.count c.deref-3.ensures.value s2.0 (len_same (λ ty. ty) c.in_ok-memories.memories.items m.memories c.len-4.result len_of_memories s5.0))
    (kind_count Global _ _ m.imports _ (length m.globals) _ c.imported-4.ensures.count c.deref-4.ensures.value s2.0 (len_same global_of c.in_ok-globals.globals.items m.globals c.len-5.result len_of_globals s6.0)) in
    c.in_err-require.ensures (c.are_inits_within-within.ensures.1 (globals_valid m _ c.in_ok-globals.globals.items c.deref-5.result.now valid counts s6.0 c.deref-5.ensures.value)))

pub returns-in_err-require-2-clause-refused : goal.returns-in_err-require-2-clause-refused
returns-in_err-require-2-clause-refused g c = anyhow c.from_residual-in_err-require-2.result (λ m h valid.
    let f = found_of m c.args.self.now h in
    let h1 = found_has m c.args.self.now f in
    let s1 = c.in_ok-types.ensures.only.same f.types m.types _ (has_first 1 refl (omega arith) h1) f.is_types in
    let s2 = c.in_ok-imports.ensures.only.same f.imports m.imports _ (has_first 2 refl (omega arith) s1.1) f.is_imports in
    let s3 = c.in_ok-functions.ensures.only.same f.functions m.functions _ (has_first 3 refl (omega arith) s2.1) f.is_functions in
    let s4 = c.in_ok-tables.ensures.only.same f.tables m.tables _ (has_first 4 refl (omega arith) s3.1) f.is_tables in
    let s5 = c.in_ok-memories.ensures.only.same f.memories m.memories _ (has_first 5 refl (omega arith) s4.1) f.is_memories in
    let s6 = c.in_ok-globals.ensures.only.same f.globals m.globals _ (has_first 6 refl (omega arith) s5.1) f.is_globals in
    let s7 = c.in_ok-exports.ensures.only.same f.exports m.exports _ (has_first 7 refl (omega arith) s6.1) f.is_exports in
    c.in_err-require-2.ensures (c.in_ok-distinct.ensures.1 (exports_distinct m c.in_ok-exports.exports.items c.deref-6.result.now valid s7.0 c.deref-6.ensures.value)))
