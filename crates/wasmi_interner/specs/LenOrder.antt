-- The length order of texts.
use Rattle.std.specs.Prelude.{ℕ, List, length}
use Rattle.std.specs.declared.cmp.Ordering.{Ordering}
use Rattle.std.specs.Ordering.{nat_cmp, ordering_then}
use Rattle.std.specs.Cmp.Lexicographic.{slice_cmp}
use Rattle.wasmi_interner.specs.declared.len_order.LenOrder.{LenOrder}

-- Texts are compared by their number of bytes, and if that is the same byte by byte.
-- The empty text, a, b, bb, é ascend: é has the bytes c3 a9. `laws::length_order` says when one is
-- less.
abbrev pub len_cmp : List ℕ → List ℕ → Ordering
len_cmp x y = ordering_then (nat_cmp (length x) (length y)) (slice_cmp nat_cmp x y)

-- the bytes of the text that is compared in this order
abbrev pub text_of : LenOrder → List ℕ
text_of order = order.text.now
