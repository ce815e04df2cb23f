-- What the tests of types decide.
-- for src/types.rt, src/laws.rt
use Rattle.std.proofs.Common.{◌≡◌, ℕ, ◌≤◌, Bool, true, false, cond, ◌==◌, Option, Some, None, IfSome, IsSomeAnd, Decides, refl, sym, ap, ◌∙◌, true≢false, eqb-true, eq-eqb, leb-true, le-leb}
use Rattle.std.specs.Bool.{beq}
use Rattle.std.specs.Cmp.Lexicographic.{pointwise}
use Rattle.std.proofs.lemmas.Bool.Decides.{Decides-and, Decides-like}
use Rattle.std.proofs.lemmas.Slice.Eq.{slice_eq-Decides}
use Rattle.wasmi_module.specs.Format.{val_type_code, ref_type_code}
use Rattle.wasmi_module.specs.Matching.{LimitsMatch, TableMatches}
use Rattle.wasmi_module.specs.Modules.{FuncType}
use Rattle.wasmi_module.specs.declared.module.ValType.{ValType}
use Rattle.wasmi_module.specs.declared.module.ValType.TheVariants as val
use Rattle.wasmi_module.specs.declared.module.RefType.{RefType}
use Rattle.wasmi_module.specs.declared.module.RefType.TheVariants as ref
use Rattle.wasmi_module.specs.declared.module.Limits.{Limits}
use Rattle.wasmi_module.specs.declared.module.TableType.{TableType}
use Rattle.wasmi_module.specs.declared.module.GlobalType.{GlobalType}
use Rattle.wasmi_link_lib.specs.Lines.{ItemType, Func, Table, Memory, Global}
use Rattle.wasmi_link_lib.specs.Linking.{val_type_eq, func_type_eq, most_matches, limits_match, matches, Matches}

-- ---- a code is that of one type

val_type_of_code : ℕ → ValType
val_type_of_code n = cond (n == 127) val.I32 (cond (n == 126) val.I64 (cond (n == 125) val.F32 (cond (n == 124) val.F64 (cond (n == 123) val.V128 (cond (n == 112) val.FuncRef val.ExternRef)))))

val_type_back : (type : ValType) → val_type_of_code (val_type_code type) ≡ type
unfolding val_type_of_code
val_type_back val.I32 = refl
val_type_back val.I64 = refl
val_type_back val.F32 = refl
val_type_back val.F64 = refl
val_type_back val.V128 = refl
val_type_back val.FuncRef = refl
val_type_back val.ExternRef = refl

ref_type_of_code : ℕ → RefType
ref_type_of_code n = cond (n == 112) ref.FuncRef ref.ExternRef

ref_type_back : (type : RefType) → ref_type_of_code (ref_type_code type) ≡ type
unfolding ref_type_of_code
ref_type_back ref.FuncRef = refl
ref_type_back ref.ExternRef = refl

pub val_type_eq-Decides : (a b : ValType) → Decides (val_type_eq a b) (a ≡ b)
val_type_eq-Decides a b =
    (λ e. sym (val_type_back a) ∙ ap val_type_of_code (eqb-true _ _ e) ∙ val_type_back b, λ e. eq-eqb _ _ (ap val_type_code e))

ref_type_eq-Decides : (a b : RefType) → Decides (ref_type_code a == ref_type_code b) (a ≡ b)
ref_type_eq-Decides a b =
    (λ e. sym (ref_type_back a) ∙ ap ref_type_of_code (eqb-true _ _ e) ∙ ref_type_back b, λ e. eq-eqb _ _ (ap ref_type_code e))

bool_eq-Decides : (a b : Bool) → Decides (beq a b) (a ≡ b)
bool_eq-Decides true true = (λ _. refl, λ _. refl)
bool_eq-Decides true false = (λ e. sym e, λ e. sym e)
bool_eq-Decides false true = (λ e. e, λ e. e)
bool_eq-Decides false false = (λ _. refl, λ _. refl)

-- ---- types

pub func_type_eq-Decides : (a b : FuncType) → Decides (func_type_eq a b) (a ≡ b)
func_type_eq-Decides a b =
    Decides-like (func_type_eq a b) (λ same. λ i. record { params = same.0 i; results = same.1 i }) (λ e. (ap (λ (t : FuncType). t.params) e, ap (λ (t : FuncType). t.results) e))
    (Decides-and (pointwise val_type_eq a.params b.params) (pointwise val_type_eq a.results b.results)
    (slice_eq-Decides val_type_eq-Decides a.params b.params _ refl) (slice_eq-Decides val_type_eq-Decides a.results b.results _ refl))

most-Decides : (asked given : Option ℕ) → Decides (most_matches asked given) (IfSome asked (λ most. IsSomeAnd given (λ max. max ≤ most)))
most-Decides None given = (λ _. tt, λ _. refl)
most-Decides (Some asked) None = (λ e. absurd (true≢false (sym e)), λ h. absurd h)
most-Decides (Some asked) (Some given) = (leb-true given asked, le-leb given asked)

pub limits-Decides : (asked given : Limits) → Decides (limits_match asked given) (LimitsMatch asked given)
limits-Decides asked given =
    Decides-like (limits_match asked given) (λ h. record { least = h.0; most = h.1 }) (λ h. (h.least, h.most))
    (Decides-and _ _ (leb-true asked.min given.min, le-leb asked.min given.min) (most-Decides asked.max given.max))

pub table-Decides : (asked given : TableType) → Decides (matches (Table asked) (Table given)) (TableMatches asked given)
table-Decides asked given =
    Decides-like (matches (Table asked) (Table given)) (λ h. record { element = h.0; limits = h.1 }) (λ h. (h.element, h.limits))
    (Decides-and _ _ (ref_type_eq-Decides asked.element given.element) (limits-Decides asked.limits given.limits))

pub global-Decides : (asked given : GlobalType) → Decides (matches (Global asked) (Global given)) (asked ≡ given)
global-Decides asked given =
    Decides-like (matches (Global asked) (Global given)) (λ same. λ i. record { value = same.0 i; mutable = same.1 i }) (λ e. (ap (λ (t : GlobalType). t.value) e, ap (λ (t : GlobalType). t.mutable) e))
    (Decides-and _ _ (val_type_eq-Decides asked.value given.value) (bool_eq-Decides asked.mutable given.mutable))

never : Decides false ⊥
never = (λ e. true≢false (sym e), λ h. absurd h)

pub matches-Decides : (asked given : ItemType) → Decides (matches asked given) (Matches asked given)
matches-Decides (Func asked) (Func given) = func_type_eq-Decides asked given
matches-Decides (Table asked) (Table given) = table-Decides asked given
matches-Decides (Memory asked) (Memory given) = limits-Decides asked.limits given.limits
matches-Decides (Global asked) (Global given) = global-Decides asked given
matches-Decides (Func asked) (Table given) = never
matches-Decides (Func asked) (Memory given) = never
matches-Decides (Func asked) (Global given) = never
matches-Decides (Table asked) (Func given) = never
matches-Decides (Table asked) (Memory given) = never
matches-Decides (Table asked) (Global given) = never
matches-Decides (Memory asked) (Func given) = never
matches-Decides (Memory asked) (Table given) = never
matches-Decides (Memory asked) (Global given) = never
matches-Decides (Global asked) (Func given) = never
matches-Decides (Global asked) (Table given) = never
matches-Decides (Global asked) (Memory given) = never
