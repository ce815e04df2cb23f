-- The texts that the replies are written in.
-- for src/texts.rt, src/store_commands.rt
use Rattle.std.proofs.Common.{◌≡◌, ℕ, List, [], ◌∷◌, ◌++◌, append_assoc, codes, ap, Result, Ok, Err, OnOk, subst}
use Rattle.std.specs.Prelude.{◌≢◌, ◌⊎◌}
use Rattle.std.proofs.Common.{inl, inr}
use Rattle.wasmi_arena.specs.declared.error.ArenaError.{ArenaError}
use Rattle.wasmi_arena.specs.declared.error.ArenaError.TheVariants.{NotEnoughKeys, OutOfSystemMemory}

-- after an `Ok` the text is one that equals what was written
pub OnOk-same : {T E : Type 0} (r : Result T E) (now written reply : List ℕ) → written ≡ reply → OnOk r (now ≡ written) → OnOk r (now ≡ reply)
OnOk-same r now written reply e h = subst (λ t. OnOk r (now ≡ t)) e h

-- two facts after an `Ok` give a third
pub OnOk-both : {T E A B C : Type 0} (r : Result T E) → (A → B → C) → OnOk r A → OnOk r B → OnOk r C
OnOk-both (Ok x) f a b = f a b
OnOk-both (Err e) f a b = tt

pub place_text : (old bucket slot : List ℕ) → old ++ (codes "place " ++ (bucket ++ (32 ∷ (slot ++ (10 ∷ []))))) ≡ old ++ ((codes "place " ++ bucket ++ codes " " ++ slot) ++ (10 ∷ []))
place_text old bucket slot = ap (λ t. old ++ t) (simp append_assoc)

pub counts_text : (old kept deduped interned slots : List ℕ)
    → old ++ (codes "counts " ++ (kept ++ (32 ∷ (deduped ++ (32 ∷ (interned ++ (32 ∷ (slots ++ (10 ∷ [])))))))))
    ≡ old ++ ((codes "counts " ++ kept ++ codes " " ++ deduped ++ codes " " ++ interned ++ codes " " ++ slots) ++ (10 ∷ []))
counts_text old kept deduped interned slots = ap (λ t. old ++ t) (simp append_assoc)

-- a word and a text
pub word_text : (old word text : List ℕ) → old ++ (word ++ (text ++ (10 ∷ []))) ≡ old ++ ((word ++ text) ++ (10 ∷ []))
word_text old word text = ap (λ t. old ++ t) (simp append_assoc)

pub is_text : (old property name kind : List ℕ)
    → old ++ (codes "is " ++ (property ++ (32 ∷ (name ++ (32 ∷ (kind ++ (10 ∷ [])))))))
    ≡ old ++ ((codes "is " ++ property ++ codes " " ++ name ++ codes " " ++ kind) ++ (10 ∷ []))
is_text old property name kind = ap (λ t. old ++ t) (simp append_assoc)

pub not_either : {A B : Type 0} → A ⊎ B → (A → ⊥) → (B → ⊥) → ⊥
not_either one a b = elim one [ inl x ↦ a x | inr y ↦ b y ]

-- a call that is refused, but not for memory
pub not_memory : (error : ArenaError) → (error ≡ NotEnoughKeys) ⊎ (error ≡ OutOfSystemMemory) → error ≢ OutOfSystemMemory → error ≡ NotEnoughKeys
not_memory error refused memory = elim refused [ inl keys ↦ keys | inr out ↦ absurd (memory out) ]
