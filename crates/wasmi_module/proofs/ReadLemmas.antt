-- Reading one text after another.
-- for src/constants.rt, src/decoder.rt, src/item.rt, src/items.rt, src/sections.rt, src/values.rt
use Rattle.std.proofs.Common.{◌≡◌, ℕ, length, List, [], ◌∷◌, ◌++◌, refl, sym, ap, subst, ◌∙◌, append_assoc}
use Rattle.std.proofs.lemmas.List.{append-nil}
use Rattle.std.specs.Str.{IsUtf8}
use Rattle.wasmi_module.specs.Texts.{Is, ◌⋅◌, Each}
use Rattle.wasmi_module.specs.inner.Reading.{Reads}
use Rattle.wasmi_module.specs.Numbers.{IsU32}
use Rattle.wasmi_module.specs.Format.{IsBytes, IsName}

pub reads-is : (text before after : List ℕ) → before ≡ text ++ after → Reads (Is text) before after
reads-is text before after e = record { text = text; is_text = refl; parts = e }

-- Nothing is read.
pub reads-nothing : (P : List ℕ → Type 0) (bytes : List ℕ) → P [] → Reads P bytes bytes
reads-nothing P bytes h = record { text = []; is_text = h; parts = refl }

pub reads-then : {P Q : List ℕ → Type 0} {before : List ℕ} (mid : List ℕ) {after : List ℕ} → Reads P before mid → Reads Q mid after → Reads (P ⋅ Q) before after
reads-then mid {after = after} p q = record {
  text = p.text ++ q.text;
  is_text = record { front = p.text; back = q.text; parts = refl; first = p.is_text; second = q.is_text };
  parts = p.parts ∙ ap (λ (t : List ℕ). p.text ++ t) q.parts ∙ sym (append_assoc p.text q.text after);
}

-- What is a writing in one form is one in another.
pub reads-as : (P Q : List ℕ → Type 0) (before after : List ℕ) → ((text : List ℕ) → P text → Q text) → Reads P before after → Reads Q before after
reads-as P Q before after h p = record { text = p.text; is_text = h p.text p.is_text; parts = p.parts }

each_push : {X : Type 0} (W : X → List ℕ → Type 0) (xs : List X) (x : X) (front back : List ℕ) → Each W xs front → W x back → Each W (xs ++ x ∷ []) (front ++ back)
each_push W [] x front back each one = record { front = back; back = []; parts = ap (λ (t : List ℕ). t ++ back) each ∙ sym (append-nil back); first = one; second = refl }
each_push W (y ∷ xs) x front back each one = record {
  front = each.front;
  back = each.back ++ back;
  parts = ap (λ (t : List ℕ). t ++ back) each.parts ∙ append_assoc each.front each.back back;
  first = each.first;
  second = each_push W xs x each.back back each.second one;
}

-- One more item is read.
pub reads-each_push : {X : Type 0} (W : X → List ℕ → Type 0) (xs : List X) (x : X) (before mid after : List ℕ) → Reads (Each W xs) before mid → Reads (W x) mid after → Reads (Each W (xs ++ x ∷ [])) before after
reads-each_push W xs x before mid after p q = record {
  text = p.text ++ q.text;
  is_text = each_push W xs x p.text q.text p.is_text q.is_text;
  parts = p.parts ∙ ap (λ (t : List ℕ). p.text ++ t) q.parts ∙ sym (append_assoc p.text q.text after);
}

pub reads-byte : (b code : ℕ) (before after : List ℕ) → b ≡ code → before ≡ b ∷ after → Reads (Is (code ∷ [])) before after
reads-byte b code before after is e = record { text = code ∷ []; is_text = refl; parts = e ∙ ap (λ (x : ℕ). x ∷ after) is }

-- a byte, and then what follows
pub reads-byte_then : {Q : List ℕ → Type 0} {b code : ℕ} {before : List ℕ} (mid : List ℕ) {after : List ℕ} → b ≡ code → before ≡ b ∷ mid → Reads Q mid after → Reads (Is (code ∷ []) ⋅ Q) before after
reads-byte_then {b = b} {code = code} {before = before} mid is e q = reads-then mid (reads-byte b code before mid is e) q

pub reads-bytes : (count : ℕ) (bytes before after : List ℕ) → before ≡ bytes ++ after → length bytes ≡ count → Reads (IsBytes count bytes) before after
reads-bytes count bytes before after e len = record { text = bytes; is_text = record { len = len; written = refl }; parts = e }

pub reads-u32_at : (n m : ℕ) (before after : List ℕ) → n ≡ m → Reads (IsU32 n) before after → Reads (IsU32 m) before after
reads-u32_at n m before after e h = subst (λ (k : ℕ). Reads (IsU32 k) before after) e h

pub reads-name : (len : ℕ) (bytes name before mid after : List ℕ) → Reads (IsU32 len) before mid → mid ≡ bytes ++ after → length bytes ≡ len → name ≡ bytes → IsUtf8 bytes → Reads (IsName name) before after
reads-name len bytes name before mid after number e is same utf8 =
    let known = reads-u32_at len (length bytes) before mid (sym is) number in
    let whole = reads-then mid known (reads-is bytes mid after e) in
    let read = reads-as (IsU32 (length bytes) ⋅ Is bytes) (IsName bytes) before after (λ text h. record { utf8 = utf8; written = h }) whole in
    subst (λ (n : List ℕ). Reads (IsName n) before after) (sym same) read
