-- Facts on the length order.
-- for src/index.rt, src/laws.rt, src/sought.rt
use Rattle.std.proofs.Common.{◌≡◌, ℕ, List, sym, ◌∙◌, Equal, ◌↔◌}
use Rattle.std.specs.Cmp.{Equal-is}
use Rattle.std.specs.Cmp.Lexicographic.{bytes_decides}
use Rattle.wasmi_interner.specs.LenOrder.{len_cmp}
use Rattle.wasmi_interner.specs.LenOrderLaws.{len_ties}

-- it tells apart all texts but equal ones
pub len_cmp-Equal : (x y : List ℕ) → (len_cmp x y ≡ Equal) ↔ (x ≡ y)
len_cmp-Equal x y =
    let tied = Equal-is (len_cmp x y) in
    let same = bytes_decides x y in
    (λ e. same.0 (len_ties x y ∙ tied.1 e), λ e. tied.0 (sym (len_ties x y) ∙ same.1 e))
