-- What the proofs of calls that lend two items, or fail, share. Assumes `Logic`.
--     Pair, PairOr      two `&mut T`, and these or an `ArenaError`.        pair_told, pair_made, pair_or_laws      which machine value a pair is; that it is made of two; that the result is one
--     error_made, refused      an error, of which one of its variants without fields is made of nothing, and it as the result
use Rattle.std.proofs.Common.{◌≡◌, ◌≢◌, ℕ, List, [], ◌∷◌, refl, ap, subst, MutBor}
use Rattle.std.specs.Prelude.{Err}
use lib.Dec as dec
use Rattle.wasmi_arena.proofs.Steps.{eqb, ent, emp, sep, Lft, Ura, named, Val, of_list, vptr, vstruct, vcons, vnil, Logic, sem, ‵, ◌$◌, ◌∵◌, !, qed, done, move, use0, use1, fjoin, fpack, feq_i, live, RattleType, Valss, owns, Is, Laws, of_field, MutRef, NamedLft, mut_vals, mut_Tells, nothing, only, row_field, Struct-Tells, within, Tuple, tuple_type}
use lib.Dec.{T_not, eqb_refl}
use mathlib.Core.Bool.{not}
use denote.Enum.Row.{tagged_with}
use denote.Enum.Enum.{form_of, in_a_row}
use denote.Enum.Declared.{shape}
use denote.Param.Laws.{is_one}
use denote.Param.Shared.{Sharable, mut_ref_shared}
use denote.Struct.Declared as Declared
use denote.Struct.Field.{mut_ref_field}
use denote.Struct.Laws.{mut_ref_laws}
use denote.Struct.Tuple.{tuple_laws}
use Rattle.core.proofs.once.Made.{err_of}
use Rattle.core.proofs.result.Result.TheLaws as ResultLaws
use Rattle.core.specs.contracts.result.Result as ResultType
use Rattle.wasmi_arena.specs.contracts.error.ArenaError as ErrorType
use Rattle.wasmi_arena.specs.declared.error.ArenaError.{ArenaError}
use Rattle.wasmi_arena.proofs.error.ArenaError.TheLaws as ErrorLaws
use Rattle.wasmi_arena.specs.declared.error.ArenaError.TheVariants.{OutOfSystemMemory, KeyOutOfBounds, NotEnoughKeys, AliasingPairAccess, DuplicateItem}

module _ (κ : Lft) (T : RattleType) where
  abbrev pub Lent : RattleType
  Lent = MutRef (named 0) κ T

  abbrev pub Pair : RattleType
  Pair = Tuple (Lent ∷ Lent ∷ [])

  abbrev pub PairOr : RattleType
  PairOr = ResultType.the_row Pair ErrorType.the_row

-- the machine's value of an error, by the place of its variant
abbrev pub error_val : ℕ → Val
error_val n = live n (of_list [])

-- the variant's place among the errors
abbrev pub place_of : ArenaError → ℕ
place_of OutOfSystemMemory = 0
place_of KeyOutOfBounds = 1
place_of NotEnoughKeys = 2
place_of AliasingPairAccess = 3
place_of DuplicateItem = 4

module _ {M : Type 1} {𝓤 : Ura M} (𝓛 : Logic 𝓤) where
  pub error_made : (e : ArenaError) → ent 𝓤 (emp 𝓤) (sem 𝓛 (ErrorType.the_row.own_val e (error_val (place_of e) ∷ [])))
  error_made OutOfSystemMemory =
      qed 𝓛 [] ∵ nothing ! $ feq_i ! (List Val) [] [] refl $ fjoin ! $ fpack ! (Valss []) (in_a_row [] (owns [] tt) []) tt $ feq_i ! (List Val) (error_val 0 ∷ []) (error_val 0 ∷ []) refl $ fjoin ! $
      fpack ! (List Val) (tagged_with (form_of (shape ErrorType.the_type)) (form_of (shape ErrorType.the_type)).payload (ErrorType.the_type.to OutOfSystemMemory) (error_val 0 ∷ [])) [] $ done !
  error_made KeyOutOfBounds =
      qed 𝓛 [] ∵ nothing ! $ feq_i ! (List Val) [] [] refl $ fjoin ! $ fpack ! (Valss []) (in_a_row [] (owns [] tt) []) tt $ feq_i ! (List Val) (error_val 1 ∷ []) (error_val 1 ∷ []) refl $ fjoin ! $
      fpack ! (List Val) (tagged_with (form_of (shape ErrorType.the_type)) (form_of (shape ErrorType.the_type)).payload (ErrorType.the_type.to KeyOutOfBounds) (error_val 1 ∷ [])) [] $ done !
  error_made NotEnoughKeys =
      qed 𝓛 [] ∵ nothing ! $ feq_i ! (List Val) [] [] refl $ fjoin ! $ fpack ! (Valss []) (in_a_row [] (owns [] tt) []) tt $ feq_i ! (List Val) (error_val 2 ∷ []) (error_val 2 ∷ []) refl $ fjoin ! $
      fpack ! (List Val) (tagged_with (form_of (shape ErrorType.the_type)) (form_of (shape ErrorType.the_type)).payload (ErrorType.the_type.to NotEnoughKeys) (error_val 2 ∷ [])) [] $ done !
  error_made AliasingPairAccess =
      qed 𝓛 [] ∵ nothing ! $ feq_i ! (List Val) [] [] refl $ fjoin ! $ fpack ! (Valss []) (in_a_row [] (owns [] tt) []) tt $ feq_i ! (List Val) (error_val 3 ∷ []) (error_val 3 ∷ []) refl $ fjoin ! $
      fpack ! (List Val) (tagged_with (form_of (shape ErrorType.the_type)) (form_of (shape ErrorType.the_type)).payload (ErrorType.the_type.to AliasingPairAccess) (error_val 3 ∷ [])) [] $ done !
  error_made DuplicateItem =
      qed 𝓛 [] ∵ nothing ! $ feq_i ! (List Val) [] [] refl $ fjoin ! $ fpack ! (Valss []) (in_a_row [] (owns [] tt) []) tt $ feq_i ! (List Val) (error_val 4 ∷ []) (error_val 4 ∷ []) refl $ fjoin ! $
      fpack ! (List Val) (tagged_with (form_of (shape ErrorType.the_type)) (form_of (shape ErrorType.the_type)).payload (ErrorType.the_type.to DuplicateItem) (error_val 4 ∷ [])) [] $ done !

module _ {M : Type 1} {𝓤 : Ura M} (𝓛 : Logic 𝓤) (κ : Lft) (T : RattleType) where
  pub refused : (e : ArenaError) → ent 𝓤 (emp 𝓤) (sem 𝓛 ((PairOr κ T).own_val (Err e) (live 1 (of_list (error_val (place_of e) ∷ [])) ∷ [])))
  refused e =
      qed 𝓛 [] ∵ use0 𝓛 (‵ (ErrorType.the_row.own_val e (error_val (place_of e) ∷ []))) (error_made 𝓛 e) $
      use1 𝓛 (‵ ((PairOr κ T).own_val (Err e) (live 1 (of_list (error_val (place_of e) ∷ [])) ∷ []))) (err_of 𝓛 (Pair κ T) ErrorType.the_row e (error_val (place_of e))) $ done !

-- the machine's value of a pair of references
abbrev pub pair_val : {X : Type 0} → MutBor X × MutBor X → Val
pair_val r = vstruct (vcons (vptr r.0.ref_ptr.0 r.0.ref_ptr.1) (vcons (vptr r.1.ref_ptr.0 r.1.ref_ptr.1) vnil))

module _ (κ : Lft) (T : RattleType) where
  -- what a value that is such a pair is
  pub pair_told : (r : MutBor T.Denot × MutBor T.Denot) (v : Val) → Is (Pair κ T) r (v ∷ []) → v ≡ pair_val r
  pair_told r v seen =
      let told = mut_Tells (named 0) κ T in
      ap only (Struct-Tells (Declared.shape (tuple_type (Lent κ T ∷ Lent κ T ∷ []))) (mut_vals, (mut_vals, tt)) (told, (told, tt)) (r.0, (r.1, tt)) (v ∷ []) seen)

  -- two references are such a pair
  pub pair_made : {M : Type 1} {𝓤 : Ura M} (𝓛 : Logic 𝓤) (r : MutBor T.Denot × MutBor T.Denot)
      → ent 𝓤 (sep 𝓤 (sem 𝓛 ((Lent κ T).own_val r.0 (mut_vals r.0))) (sem 𝓛 ((Lent κ T).own_val r.1 (mut_vals r.1)))) (sem 𝓛 ((Pair κ T).own_val r (pair_val r ∷ [])))
  pair_made 𝓛 r =
      let Shape' = Declared.shape (tuple_type (Lent κ T ∷ Lent κ T ∷ [])) in let v = pair_val r in
      qed 𝓛 (‵ ((Lent κ T).own_val r.0 (mut_vals r.0)) ∷ ‵ ((Lent κ T).own_val r.1 (mut_vals r.1)) ∷ []) ∵
      nothing ! $ move ! (2 ∷ 0 ∷ []) $ fjoin ! $ move ! (1 ∷ 0 ∷ []) $ fjoin ! $ feq_i ! (List Val) (v ∷ []) (v ∷ []) refl $ fjoin ! $
      fpack ! (Valss (Lent κ T ∷ Lent κ T ∷ [])) (within Shape' (r.0, (r.1, tt)) (v ∷ [])) (mut_vals r.0, (mut_vals r.1, tt)) $ done !

module _ (κ : Lft) (T : RattleType) (L : Laws T) where
  lent_laws : Laws (Lent κ T)
  lent_laws =
      let ℓ : NamedLft = record { mir = named 0; lft = κ } in let one = is_one T L in
      let shared : Sharable (row_field T) = record { alone = L.one; single = λ M 𝓤 𝓛. L.single; shares = λ M 𝓤 𝓛. L.shares 𝓛; shr_laws = L.shr_laws } in
      of_field (mut_ref_field ℓ T one) (mut_ref_laws ℓ T one) refl (mut_ref_shared ℓ T one shared)

  pub pair_or_laws : Laws (PairOr κ T)
  pair_or_laws = ResultLaws.the_row_laws (Pair κ T) ErrorType.the_row (tuple_laws (Lent κ T ∷ Lent κ T ∷ []) (lent_laws, (lent_laws, tt))) ErrorLaws.the_row_laws

-- what a test that failed says
pub neqb→neq : (m n : ℕ) → dec.T (not (eqb m n)) → m ≢ n
neqb→neq m n differ e = T_not (eqb m n) differ (subst (λ (k : ℕ). dec.T (eqb m k)) e (eqb_refl m))
