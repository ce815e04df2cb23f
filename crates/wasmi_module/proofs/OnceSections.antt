-- Bytes are a writing of one module at most: their sections are found, each by its number.
-- for src/decoder.rt, src/laws.rt, src/sections.rt
use Rattle.std.proofs.Common.{◌≡◌, ℕ, zero, suc, length, List, [], ◌∷◌, ◌++◌, Option, Some, None, Bool, true, false, cond, map, refl, sym, ap, subst, ◌∙◌, append_assoc, inl, inr}
use Rattle.std.proofs.lemmas.List.{append-nil}
use Rattle.wasmi_module.specs.Texts.{Is, ◌⋅◌, Each}
use Rattle.wasmi_module.specs.Numbers.{IsU32}
use Rattle.wasmi_module.specs.Modules.{Module}
use Rattle.wasmi_module.specs.Format.{IsFuncType, IsImport, IsTableType, IsMemoryType, IsGlobal, IsExport}
use Rattle.wasmi_module.specs.Sections.{IsSection, AreCustoms, IsNext, IsSkipped, AreRead, AreSkipped, IsWritten}
use Rattle.wasmi_module.specs.inner.Order.{AreSections, unless_custom, others, and_part, present, Contents}
use Rattle.wasmi_module.proofs.OnceLemmas.{Once, once_then, byte_once, sized_once, vector_once, u32_once, rest_same}
use Rattle.wasmi_module.proofs.OnceItems.{func_type_once, import_once, table_type_once, memory_type_once, global_once, export_once}

-- a section: its number and its contents
abbrev pub IsPair : ℕ × List ℕ → List ℕ → Type 0
IsPair s = IsSection s.0 s.1

pub pair_once : Once IsPair
pair_once = once_then (λ n. Is (n ∷ [])) (λ bytes. IsU32 (length bytes) ⋅ Is bytes) byte_once sized_once

-- no section is empty
pub not_empty : (s : ℕ × List ℕ) (text : List ℕ) → IsPair s text → text ≡ [] → ⊥
not_empty s text p e =
    let begins : text ≡ s.0 ∷ p.back = p.parts ∙ ap (λ (t : List ℕ). t ++ p.back) p.first in
    absurd (cc)

pub front_empty : (a b : List ℕ) → a ++ b ≡ [] → a ≡ []
front_empty [] b e = refl
front_empty (x ∷ a) b e = absurd cc

sections_once : (ss ts : List (ℕ × List ℕ)) (a b : List ℕ) → AreSections ss a → AreSections ts b → a ≡ b → ss ≡ ts
sections_once [] [] a b p q e = refl
sections_once [] (t ∷ ts) a b p q e =
    let none : q.front ++ q.back ≡ [] = sym q.parts ∙ sym e ∙ p in
    absurd (not_empty t q.front q.first (front_empty q.front q.back none))
sections_once (s ∷ ss) [] a b p q e =
    let none : p.front ++ p.back ≡ [] = sym p.parts ∙ e ∙ q in
    absurd (not_empty s p.front p.first (front_empty p.front p.back none))
sections_once (s ∷ ss) (t ∷ ts) a b p q e =
    let all : p.front ++ p.back ≡ q.front ++ q.back = sym p.parts ∙ e ∙ q.parts in
    let one = pair_once s t p.front q.front p.back q.back p.first q.first all in
    let rest = sections_once ss ts p.back q.back p.second q.second (rest_same p.front q.front p.back q.back all one.1) in
    ap (λ k. k ∷ ss) one.0 ∙ ap (λ ks. t ∷ ks) rest

sections_append : (ss ts : List (ℕ × List ℕ)) (a b : List ℕ) → AreSections ss a → AreSections ts b → AreSections (ss ++ ts) (a ++ b)
sections_append [] ts a b p q = subst (λ (t : List ℕ). AreSections ts (t ++ b)) (sym p) q
sections_append (s ∷ ss) ts a b p q = record {
  front = p.front;
  back = p.back ++ b;
  parts = ap (λ (t : List ℕ). t ++ b) p.parts ∙ append_assoc p.front p.back b;
  first = p.first;
  second = sections_append ss ts p.back b p.second q;
}

-- ---- the contents of the first section of a number

abbrev pub is_number : ℕ → ℕ → Bool
is_number zero zero = true
is_number zero (suc k) = false
is_number (suc n) zero = false
is_number (suc n) (suc k) = is_number n k

abbrev or_else : Option (List ℕ) → Option (List ℕ) → Option (List ℕ)
or_else (Some c) o = Some c
or_else None o = o

abbrev find : ℕ → List (ℕ × List ℕ) → Option (List ℕ)
find k [] = None
find k (s ∷ ss) = or_else (cond (is_number s.0 k) (Some s.1) None) (find k ss)

or_else_assoc : (o p q : Option (List ℕ)) → or_else (or_else o p) q ≡ or_else o (or_else p q)
or_else_assoc (Some c) p q = refl
or_else_assoc None p q = refl

or_else_none : (o : Option (List ℕ)) → or_else o None ≡ o
or_else_none (Some c) = refl
or_else_none None = refl

find_append : (k : ℕ) (ss ts : List (ℕ × List ℕ)) → find k (ss ++ ts) ≡ or_else (find k ss) (find k ts)
find_append k [] ts = refl
find_append k (s ∷ ss) ts = ap (or_else (cond (is_number s.0 k) (Some s.1) None)) (find_append k ss ts) ∙ sym (or_else_assoc (cond (is_number s.0 k) (Some s.1) None) (find k ss) (find k ts))

-- A text has, beside custom sections, at most the section of this number, with these contents.
record Has (number : ℕ) (contents : Option (List ℕ)) (text : List ℕ) : Type 0 where
  pub sections : List (ℕ × List ℕ)
  pub written : AreSections sections text
  pub found : (k : ℕ) → find (suc k) sections ≡ cond (is_number number (suc k)) contents None
  pub order : others sections ≡ and_part number contents []

-- what is found of a number, in the order of these parts
abbrev found_in : List (ℕ × Option (List ℕ)) → ℕ → Option (List ℕ)
found_in [] k = None
found_in (p ∷ ps) k = or_else (cond (is_number p.0 k) p.1 None) (found_in ps k)

-- the same of several
pub record HasAll (parts : List (ℕ × Option (List ℕ))) (text : List ℕ) : Type 0 where
  pub sections : List (ℕ × List ℕ)
  pub written : AreSections sections text
  pub found : (k : ℕ) → find (suc k) sections ≡ found_in parts (suc k)
  pub order : others sections ≡ present parts

and_more : (number : ℕ) (contents : List ℕ) (ss ts : List (ℕ × List ℕ)) → unless_custom number contents (ss ++ ts) ≡ unless_custom number contents ss ++ ts
and_more zero contents ss ts = refl
and_more (suc n) contents ss ts = refl

others_append : (ss ts : List (ℕ × List ℕ)) → others (ss ++ ts) ≡ others ss ++ others ts
others_append [] ts = refl
others_append (s ∷ ss) ts = ap (unless_custom s.0 s.1) (others_append ss ts) ∙ and_more s.0 s.1 (others ss) (others ts)

part_append : (number : ℕ) (o : Option (List ℕ)) (ss : List (ℕ × List ℕ)) → and_part number o [] ++ ss ≡ and_part number o ss
part_append number None ss = refl
part_append number (Some c) ss = sym (and_more number c [] ss)

has_more : (number : ℕ) (o : Option (List ℕ)) (ps : List (ℕ × Option (List ℕ))) (a b : List ℕ) → Has number o a → HasAll ps b → HasAll ((number, o) ∷ ps) (a ++ b)
has_more number o ps a b one rest = record {
  sections = one.sections ++ rest.sections;
  written = sections_append one.sections rest.sections a b one.written rest.written;
  found = λ k. find_append (suc k) one.sections rest.sections ∙ ap (λ x. or_else x (find (suc k) rest.sections)) (one.found k) ∙ ap (or_else (cond (is_number number (suc k)) o None)) (rest.found k);
  order = others_append one.sections rest.sections ∙ ap (λ ss. ss ++ others rest.sections) one.order ∙ ap (λ ss. and_part number o [] ++ ss) rest.order ∙ part_append number o (present ps);
}

-- ---- custom sections

abbrev customs_of : List (List ℕ) → List (ℕ × List ℕ)
customs_of contents = map (λ c. (0, c)) contents

customs_written : (contents : List (List ℕ)) (text : List ℕ) → Each (IsSection 0) contents text → AreSections (customs_of contents) text
customs_written [] text p = p
customs_written (c ∷ cs) text p = record { front = p.front; back = p.back; parts = p.parts; first = p.first; second = customs_written cs p.back p.second }

customs_none : (contents : List (List ℕ)) (k : ℕ) → find (suc k) (customs_of contents) ≡ None
customs_none [] k = refl
customs_none (c ∷ cs) k = customs_none cs k

customs_others : (contents : List (List ℕ)) → others (customs_of contents) ≡ []
customs_others [] = refl
customs_others (c ∷ cs) = customs_others cs

-- custom sections, and then the section of this number if it is there
has_there : (number : ℕ) (customs contents : List ℕ) (a : List ℕ) → AreCustoms customs → IsSection number contents a → Has number (Some contents) (customs ++ a)
has_there number customs contents a before it =
    let one : AreSections ((number, contents) ∷ []) a = record { front = a; back = []; parts = sym (append-nil a); first = it; second = refl } in
    record {
      sections = customs_of before.customs ++ (number, contents) ∷ [];
      written = sections_append (customs_of before.customs) ((number, contents) ∷ []) customs a (customs_written before.customs customs before.written) one;
      found = λ k. find_append (suc k) (customs_of before.customs) ((number, contents) ∷ []) ∙ ap (λ x. or_else x (find (suc k) ((number, contents) ∷ []))) (customs_none before.customs k) ∙ or_else_none (cond (is_number number (suc k)) (Some contents) None);
      order = others_append (customs_of before.customs) ((number, contents) ∷ []) ∙ ap (λ ss. ss ++ others ((number, contents) ∷ [])) (customs_others before.customs);
    }

abbrev no_contents : Option (List ℕ)
no_contents = None

cond_none : (b : Bool) → cond b no_contents no_contents ≡ no_contents
cond_none true = refl
cond_none false = refl

has_not : (number : ℕ) (customs : List ℕ) → AreCustoms customs → Has number None customs
has_not number customs before = record {
  sections = customs_of before.customs;
  written = customs_written before.customs customs before.written;
  found = λ k. customs_none before.customs k ∙ sym (cond_none (is_number number (suc k)));
  order = customs_others before.customs;
}

-- ---- a module's sections

record Part {X : Type 0} (number : ℕ) (W : X → List ℕ → Type 0) (xs : List X) (text : List ℕ) : Type 0 where
  pub contents : Option (List ℕ)
  pub is_contents : Contents W xs contents
  pub has : Has number contents text

part_of : {X : Type 0} (number : ℕ) (W : X → List ℕ → Type 0) (xs : List X) (text : List ℕ) → IsNext number W xs text → Part number W xs text
part_of number W xs text h =
    elim h.second [
      | inl p ↦ record { contents = Some p.contents; is_contents = p.items; has = subst (Has number (Some p.contents)) (sym h.parts) (has_there number h.front p.contents h.back h.first p.written) }
      | inr p ↦
          let alone : h.front ≡ text = sym (append-nil h.front) ∙ ap (λ (t : List ℕ). h.front ++ t) (sym p.1) ∙ sym h.parts in
          record { contents = None; is_contents = p.0; has = subst (Has number None) alone (has_not number h.front h.first) }
    ]

record Skipped (number : ℕ) (text : List ℕ) : Type 0 where
  pub contents : Option (List ℕ)
  pub has : Has number contents text

skipped_of : (number : ℕ) (text : List ℕ) → IsSkipped number text → Skipped number text
skipped_of number text h =
    elim h.second [
      | inl p ↦ record { contents = Some p.0; has = subst (Has number (Some p.0)) (sym h.parts) (has_there number h.front p.0 h.back h.first p.1) }
      | inr p ↦
          let alone : h.front ≡ text = sym (append-nil h.front) ∙ ap (λ (t : List ℕ). h.front ++ t) (sym p) ∙ sym h.parts in
          record { contents = None; has = subst (Has number None) alone (has_not number h.front h.first) }
    ]

has_then : (number : ℕ) (o : Option (List ℕ)) (ps : List (ℕ × Option (List ℕ))) (text a b z : List ℕ) → text ≡ a ++ b → Has number o a → HasAll ps (b ++ z) → HasAll ((number, o) ∷ ps) (text ++ z)
has_then number o ps text a b z parts one rest =
    subst (HasAll ((number, o) ∷ ps)) (sym (append_assoc a b z) ∙ ap (λ (t : List ℕ). t ++ z) (sym parts)) (has_more number o ps a (b ++ z) one rest)

has_last : (number : ℕ) (o : Option (List ℕ)) (ps : List (ℕ × Option (List ℕ))) (text a b : List ℕ) → text ≡ a ++ b → Has number o a → HasAll ps b → HasAll ((number, o) ∷ ps) text
has_last number o ps text a b parts one rest = subst (HasAll ((number, o) ∷ ps)) (sym parts) (has_more number o ps a b one rest)

customs_alone : (text : List ℕ) → AreCustoms text → HasAll [] text
customs_alone text h = record { sections = customs_of h.customs; written = customs_written h.customs text h.written; found = λ k. customs_none h.customs k; order = customs_others h.customs }

-- what a module has in its sections
pub record Found (m : Module) (text : List ℕ) : Type 0 where
  pub types : Option (List ℕ)
  pub imports : Option (List ℕ)
  pub functions : Option (List ℕ)
  pub tables : Option (List ℕ)
  pub memories : Option (List ℕ)
  pub globals : Option (List ℕ)
  pub exports : Option (List ℕ)
  pub skipped : Option (List ℕ) × Option (List ℕ) × Option (List ℕ) × Option (List ℕ) × Option (List ℕ)
  pub is_types : Contents IsFuncType m.types types
  pub is_imports : Contents IsImport m.imports imports
  pub is_functions : Contents IsU32 m.functions functions
  pub is_tables : Contents IsTableType m.tables tables
  pub is_memories : Contents IsMemoryType m.memories memories
  pub is_globals : Contents IsGlobal m.globals globals
  pub is_exports : Contents IsExport m.exports exports
  pub all : HasAll ((1, types) ∷ (2, imports) ∷ (3, functions) ∷ (4, tables) ∷ (5, memories) ∷ (6, globals) ∷ (7, exports)
      ∷ (8, skipped.0) ∷ (9, skipped.1) ∷ (12, skipped.2) ∷ (10, skipped.3) ∷ (11, skipped.4) ∷ []) text

pub found_of : (m : Module) (text : List ℕ) → (AreRead m ⋅ AreSkipped) text → Found m text
found_of m text h =
    let r1 = h.first in
    let r2 = r1.second in
    let r3 = r2.second in
    let r4 = r3.second in
    let r5 = r4.second in
    let r6 = r5.second in
    let p1 = part_of 1 IsFuncType m.types r1.front r1.first in
    let p2 = part_of 2 IsImport m.imports r2.front r2.first in
    let p3 = part_of 3 IsU32 m.functions r3.front r3.first in
    let p4 = part_of 4 IsTableType m.tables r4.front r4.first in
    let p5 = part_of 5 IsMemoryType m.memories r5.front r5.first in
    let p6 = part_of 6 IsGlobal m.globals r6.front r6.first in
    let p7 = part_of 7 IsExport m.exports r6.back r6.second in
    let s1 = h.second in
    let s2 = s1.second in
    let s3 = s2.second in
    let s4 = s3.second in
    let s5 = s4.second in
    let k1 = skipped_of 8 s1.front s1.first in
    let k2 = skipped_of 9 s2.front s2.first in
    let k3 = skipped_of 12 s3.front s3.first in
    let k4 = skipped_of 10 s4.front s4.first in
    let k5 = skipped_of 11 s5.front s5.first in
    let skip5 = has_last 11 k5.contents _ s4.back s5.front s5.back s5.parts k5.has (customs_alone s5.back s5.second) in
    let skip4 = has_last 10 k4.contents _ s3.back s4.front s4.back s4.parts k4.has skip5 in
    let skip3 = has_last 12 k3.contents _ s2.back s3.front s3.back s3.parts k3.has skip4 in
    let skip2 = has_last 9 k2.contents _ s1.back s2.front s2.back s2.parts k2.has skip3 in
    let skip1 = has_last 8 k1.contents _ h.back s1.front s1.back s1.parts k1.has skip2 in
    let read7 = has_more 7 p7.contents _ r6.back h.back p7.has skip1 in
    let read6 = has_then 6 p6.contents _ r5.back r6.front r6.back h.back r6.parts p6.has read7 in
    let read5 = has_then 5 p5.contents _ r4.back r5.front r5.back h.back r5.parts p5.has read6 in
    let read4 = has_then 4 p4.contents _ r3.back r4.front r4.back h.back r4.parts p4.has read5 in
    let read3 = has_then 3 p3.contents _ r2.back r3.front r3.back h.back r3.parts p3.has read4 in
    let read2 = has_then 2 p2.contents _ r1.back r2.front r2.back h.back r2.parts p2.has read3 in
    let read1 = has_then 1 p1.contents _ h.front r1.front r1.back h.back r1.parts p1.has read2 in
    record {
      types = p1.contents;
      imports = p2.contents;
      functions = p3.contents;
      tables = p4.contents;
      memories = p5.contents;
      globals = p6.contents;
      exports = p7.contents;
      skipped = (k1.contents, k2.contents, k3.contents, k4.contents, k5.contents);
      is_types = p1.is_contents;
      is_imports = p2.is_contents;
      is_functions = p3.is_contents;
      is_tables = p4.is_contents;
      is_memories = p5.is_contents;
      is_globals = p6.is_contents;
      is_exports = p7.is_contents;
      all = subst (HasAll _) (sym h.parts) read1;
    }

-- ---- one module

pub same_items : {X : Type 0} (W : X → List ℕ → Type 0) → Once W → (xs ys : List X) (o : Option (List ℕ)) → Contents W xs o → Contents W ys o → xs ≡ ys
same_items W once xs ys None p q = p ∙ sym q
same_items W once xs ys (Some c) p q = (vector_once W once xs ys c c [] [] p q refl).0

same_contents : (o r : Option (List ℕ)) → or_else o None ≡ or_else r None → r ≡ o
same_contents o r e = sym (or_else_none r) ∙ sym e ∙ or_else_none o

found_once : (m n : Module) (text : List ℕ) → Found m text → Found n text → m ≡ n
found_once m n text f g =
    let same = sections_once f.all.sections g.all.sections text text f.all.written g.all.written refl in
    let alike : (k : ℕ) → find (suc k) f.all.sections ≡ find (suc k) g.all.sections = λ k. ap (find (suc k)) same in
    let at = λ (k : ℕ). sym (f.all.found k) ∙ alike k ∙ g.all.found k in
    let types = same_items IsFuncType func_type_once m.types n.types f.types f.is_types (subst (Contents IsFuncType n.types) (same_contents f.types g.types (at 0)) g.is_types) in
    let imports = same_items IsImport import_once m.imports n.imports f.imports f.is_imports (subst (Contents IsImport n.imports) (same_contents f.imports g.imports (at 1)) g.is_imports) in
    let functions = same_items IsU32 u32_once m.functions n.functions f.functions f.is_functions (subst (Contents IsU32 n.functions) (same_contents f.functions g.functions (at 2)) g.is_functions) in
    let tables = same_items IsTableType table_type_once m.tables n.tables f.tables f.is_tables (subst (Contents IsTableType n.tables) (same_contents f.tables g.tables (at 3)) g.is_tables) in
    let memories = same_items IsMemoryType memory_type_once m.memories n.memories f.memories f.is_memories (subst (Contents IsMemoryType n.memories) (same_contents f.memories g.memories (at 4)) g.is_memories) in
    let globals = same_items IsGlobal global_once m.globals n.globals f.globals f.is_globals (subst (Contents IsGlobal n.globals) (same_contents f.globals g.globals (at 5)) g.is_globals) in
    let exports = same_items IsExport export_once m.exports n.exports f.exports f.is_exports (subst (Contents IsExport n.exports) (same_contents f.exports g.exports (at 6)) g.is_exports) in
    ap (λ l. record m { types = l }) types
    ∙ ap (λ l. record m { types = n.types; imports = l }) imports
    ∙ ap (λ l. record m { types = n.types; imports = n.imports; functions = l }) functions
    ∙ ap (λ l. record m { types = n.types; imports = n.imports; functions = n.functions; tables = l }) tables
    ∙ ap (λ l. record n { memories = l; globals = m.globals; exports = m.exports }) memories
    ∙ ap (λ l. record n { globals = l; exports = m.exports }) globals
    ∙ ap (λ l. record n { exports = l }) exports

-- Bytes are a writing of one module at most.
pub written_once : (m n : Module) (bytes : List ℕ) → IsWritten m bytes → IsWritten n bytes → m ≡ n
written_once m n bytes p q =
    let rest = rest_same p.front q.front p.back q.back (sym p.parts ∙ q.parts) (p.first ∙ sym q.first) in
    found_once m n p.back (found_of m p.back p.second) (subst (Found n) (sym rest) (found_of n q.back q.second))
