-- The three runs of a block's places: an item goes in at the end and out at the front, and a whole block is one run. Assumes `Logic`.
--     end_out, end_in       the first waiting place is taken out, and put back as the last item
--     front_out, front_in   the first item is taken out, and its place is put back as the last emptied one
--     back_out, back_in     the last item is taken out, and its place is put back as the first waiting one
--     fresh, spent          a block's room is no item and that many waiting places, and with no item the runs are room again
--     weightless            room for items of no size comes from nothing
--     to_cells, of_cells    the items as a slice reference has them, and back
use mathlib.Core.Path.{◌≡◌, refl, sym, ap, subst, ◌∙◌}
use mathlib.Core.Bool.{Bool, true, false, not}
use Rattle.wasmi_arena.proofs.Steps.{T, eqb, eqb→eq, zero-mul, arith, length, length-append, get_or, Ura, full_share, ty_array, Val, SProp, ent, sep, emp, ex, guard, wand, id⊢, Fml, fsep, fat, froom, align, capped, Logic, sem, cells, ‵, raw, ◌⊛◌, some, given, pick, learn, show, check, ◌$◌, ◌∵◌, !, qed, move, use0, use1, use2, split, rewrite, fsplit, fjoin, drop, done, part_at, mem, place_is, row, nothing}
use lib.Dec.{lit<}
use Prim.Native.Nat.{ℕ, suc, ◌+◌, ◌-◌, ◌*◌, ◌<◌, ◌^◌}
use native.Mathlib.Nat.{suc-mul}
use mathlib.Core.List.{List, [], ◌∷◌, ◌++◌}
use lib.ListN.{drop as take_off, take as first_of}
use base.Logic.{mono_r}
use prog.Capped.{capped_is, capped_small}
use prog.Align.{dv_self}
use denote.Index.{place}
use Rattle.core.proofs.mem.Param.{El, R, el_x, elτ, Good}
use Rattle.core.proofs.ptr.Rows as rows
use Rattle.std_alloc.proofs.RawLayout.{as_raw, as_written}
use Rattle.std.specs.Mem.{type_size}
use Rattle.wasmi_arena.specs.inner.Block.{empty, runs}

-- an item that is there is the first one
pub cut_first : {X : Type 0} (xs : List X) → 0 < length xs → (x : X) × (xs ≡ x ∷ take_off 1 xs)
cut_first [] there = absurd (omega arith)
cut_first (x ∷ xs) there = (x, refl)

-- and then there is a last one, behind the others
abbrev pub all_but_last : {X : Type 0} → List X → List X
all_but_last xs = first_of (length xs - 1) xs

pub cut_last : {X : Type 0} (xs : List X) → 0 < length xs → (x : X) × (xs ≡ all_but_last xs ++ x ∷ [])
cut_last xs there =
    let d = (cut_first xs there).0 in let n : length xs ≡ suc (length xs - 1) = omega arith in
    (get_or xs (length xs - 1) d, sym (rows.take_all xs) ∙ (ap (λ k. first_of k xs) n ∙ rows.take_snoc xs (length xs - 1) d (omega arith)))

-- where all n slots take fewer than 2 ^ 63 bytes, so does one, and slot i is within a word
pub offset_fits : (i n size : ℕ) → i < n → n * size < 2 ^ 63 → (size < 2 ^ 64) × (i * size < 2 ^ 64)
offset_fits i n size inside small =
    let one = rows.one_below n size (2 ^ 63) (omega arith) small in let all = rows.times_below i n size (2 ^ 63) (omega arith) small in (omega arith, omega arith)

not-not : (b : Bool) → T (not (not b)) → T b
not-not true t = tt
not-not false t = absurd t

-- a size that a word reads as zero is zero
pub no_size : (n : ℕ) → T (not (not (eqb (capped n) 0))) → n ≡ 0
no_size n zero = let z : capped n ≡ 0 = eqb→eq (capped n) 0 (not-not (eqb (capped n) 0) zero) in let small = capped_small n (subst (λ k. k < 2 ^ 63) (sym z) (lit< tt)) in sym (capped_is n (omega arith)) ∙ z

abbrev pub sz : El → ℕ
sz E = type_size (R E)

abbrev pub as_rows : El → rows.El
as_rows E = record { row = E.row; laws = E.laws }

module _ (E : El) {M : Type 1} {𝓤 : Ura M} (𝓛 : Logic 𝓤) (b o : ℕ) where
  open 𝓛 use {H}

  abbrev s : ℕ
  s = sz E

  abbrev items : ℕ → List (el_x E) → Fml
  items at xs = row (R E) full_share xs b at

  abbrev free : ℕ → ℕ → Fml
  free n at = empty (R E) n b at

  -- the runs but for the first waiting place
  abbrev pub Before : ℕ → List (el_x E) → ℕ → Fml
  Before g xs k = fsep (items (g * s + o) xs) (fsep (free g o) (free k (suc (g + length xs) * s + o)))

  pub end_out : (g : ℕ) (xs : List (el_x E)) (k : ℕ)
      → ent 𝓤 (sem 𝓛 (runs (R E) b o g xs (suc k))) (sep 𝓤 (H.room (elτ E) b ((g + length xs) * s + o)) (sem 𝓛 (Before g xs k)))
  end_out g xs k =
      let at = (g + length xs) * s + o in let next : at + s ≡ suc (g + length xs) * s + o = omega (arith, suc-mul (g + length xs) s) in
      qed 𝓛 (‵ (runs (R E) b o g xs (suc k)) ∷ []) ∵ fsplit ! $ move ! (1 ∷ []) $ fsplit ! $ move ! (1 ∷ []) $
      as_written ! (ty_array (elτ E) (suc k)) b at $ use1 𝓛 (‵ (froom (elτ E) b at) ⊛ ‵ (froom (ty_array (elτ E) k) b (at + s))) (𝓛.laws.room_uncons (elτ E) k b at) $ split ! $
      move ! (1 ∷ []) $ as_raw ! (ty_array (elτ E) k) b (at + s) $ rewrite ! 0 (λ (j : ℕ). ‵ (free k j)) next refl $
      move ! (2 ∷ 0 ∷ []) $ fjoin ! $ move ! (2 ∷ 0 ∷ []) $ fjoin ! $ move ! (1 ∷ 0 ∷ []) $ done !

  pub end_in : (g : ℕ) (xs : List (el_x E)) (k : ℕ) (x : el_x E)
      → ent 𝓤 (sep 𝓤 (sem 𝓛 (part_at (R E) full_share x b ((g + length xs) * s + o))) (sem 𝓛 (Before g xs k))) (sem 𝓛 (runs (R E) b o g (xs ++ x ∷ []) k))
  end_in g xs k x =
      let from = g * s + o in let at = (g + length xs) * s + o in
      let far : at ≡ place s from (length xs) = let sum = rows.add_times g (length xs) s in let is = place_is s from (length xs) in omega arith in
      let long : suc (g + length xs) * s + o ≡ (g + length (xs ++ x ∷ [])) * s + o = let count : suc (g + length xs) ≡ g + length (xs ++ x ∷ []) = omega (arith, length-append xs (x ∷ [])) in ap (λ j. j * s + o) count in
      qed 𝓛 (‵ (part_at (R E) full_share x b at) ∷ ‵ (Before g xs k) ∷ []) ∵
      rewrite ! 0 (λ (j : ℕ). ‵ (part_at (R E) full_share x b j)) far refl $ nothing ! $ move ! (1 ∷ 0 ∷ []) $ fjoin ! $ move ! (1 ∷ []) $ fsplit ! $ move ! (0 ∷ 2 ∷ []) $
      use2 𝓛 (‵ (items from (xs ++ x ∷ []))) (rows.row_glue (as_rows E) 𝓛 full_share xs (x ∷ []) b from) $ move ! (1 ∷ []) $ fsplit ! $ move ! (1 ∷ []) $
      rewrite ! 0 (λ (j : ℕ). ‵ (free k j)) long refl $ move ! (1 ∷ 0 ∷ []) $ fjoin ! $ move ! (1 ∷ 0 ∷ []) $ fjoin ! $ done !

  -- slot i behind the items is empty, and holds one more item once its machine value lies there
  pub fill_out : (i taken : ℕ) (xs : List (el_x E)) (k : ℕ) → i ≡ taken + length xs → 0 < k
      → ent 𝓤 (sem 𝓛 (runs (R E) b o taken xs k)) (sep 𝓤 (H.room (elτ E) b (i * s + o)) (sem 𝓛 (Before taken xs (k - 1))))
  fill_out i taken xs k is more =
      let one_more : k ≡ suc (k - 1) = omega arith in
      qed 𝓛 (‵ (runs (R E) b o taken xs k) ∷ []) ∵ rewrite ! 0 (λ (n : ℕ). ‵ (runs (R E) b o taken xs n)) one_more refl $
      use1 𝓛 (‵ (froom (elτ E) b ((taken + length xs) * s + o)) ⊛ ‵ (Before taken xs (k - 1))) (end_out taken xs (k - 1)) $ split ! $
      rewrite ! 0 (λ (n : ℕ). ‵ (froom (elτ E) b (n * s + o))) (sym is) refl $ done !

  pub fill_in : (i taken : ℕ) (xs : List (el_x E)) (k : ℕ) (x : el_x E) (v : Val) → i ≡ taken + length xs
      → ent 𝓤 (sep 𝓤 (H.at full_share (elτ E) b (i * s + o) v) (sep 𝓤 (sem 𝓛 (E.row.own_val x (v ∷ []))) (sem 𝓛 (Before taken xs k)))) (sem 𝓛 (runs (R E) b o taken (xs ++ x ∷ []) k))
  fill_in i taken xs k x v is =
      qed 𝓛 (‵ (fat full_share (elτ E) b (i * s + o) v) ∷ ‵ (E.row.own_val x (v ∷ [])) ∷ ‵ (Before taken xs k) ∷ []) ∵
      use2 𝓛 (‵ (part_at (R E) full_share x b (i * s + o))) (rows.el_in (as_rows E) 𝓛 full_share x b (i * s + o) v) $
      rewrite ! 0 (λ (n : ℕ). ‵ (part_at (R E) full_share x b (n * s + o))) is refl $ use2 𝓛 (‵ (runs (R E) b o taken (xs ++ x ∷ []) k)) (end_in taken xs k x) $ done !

  -- the runs but for the first item
  abbrev pub Behind : ℕ → List (el_x E) → ℕ → Fml
  Behind g xs k = fsep (items (suc g * s + o) xs) (fsep (free g o) (free k ((suc g + length xs) * s + o)))

  pub front_out : (g : ℕ) (x : el_x E) (xs : List (el_x E)) (k : ℕ)
      → ent 𝓤 (sem 𝓛 (runs (R E) b o g (x ∷ xs) k)) (sep 𝓤 (sem 𝓛 (part_at (R E) full_share x b (g * s + o))) (sem 𝓛 (Behind g xs k)))
  front_out g x xs k =
      let next : g * s + o + s ≡ suc g * s + o = omega (arith, suc-mul g s) in
      let past : (g + length (x ∷ xs)) * s + o ≡ (suc g + length xs) * s + o = let count : g + length (x ∷ xs) ≡ suc g + length xs = omega arith in ap (λ j. j * s + o) count in
      qed 𝓛 (‵ (runs (R E) b o g (x ∷ xs) k) ∷ []) ∵ fsplit ! $ fsplit ! $ move ! (1 ∷ 2 ∷ []) $
      rewrite ! 0 (λ (j : ℕ). ‵ (items j xs)) next refl $ move ! (1 ∷ []) $ fsplit ! $ move ! (1 ∷ []) $ rewrite ! 0 (λ (j : ℕ). ‵ (free k j)) past refl $
      move ! (1 ∷ 0 ∷ []) $ fjoin ! $ move ! (1 ∷ 0 ∷ []) $ fjoin ! $ move ! (1 ∷ 0 ∷ []) $ done !

  pub front_in : (g : ℕ) (xs : List (el_x E)) (k : ℕ)
      → ent 𝓤 (sep 𝓤 (H.room (elτ E) b (g * s + o)) (sem 𝓛 (Behind g xs k))) (sem 𝓛 (runs (R E) b o (suc g) xs k))
  front_in g xs k =
      qed 𝓛 (‵ (froom (elτ E) b (g * s + o)) ∷ ‵ (Behind g xs k) ∷ []) ∵ move ! (1 ∷ []) $ fsplit ! $ move ! (1 ∷ []) $ fsplit ! $
      as_written ! (ty_array (elτ E) g) b o $ move ! (0 ∷ 3 ∷ []) $ use2 𝓛 (‵ (froom (ty_array (elτ E) (suc g)) b o)) (rows.room_snoc (as_rows E) 𝓛 b o g) $ as_raw ! (ty_array (elτ E) (suc g)) b o $
      move ! (0 ∷ 1 ∷ []) $ fjoin ! $ move ! (1 ∷ 0 ∷ []) $ fjoin ! $ done !

  -- the first item's machine value lies in slot i, and the slot is empty once that is moved out
  abbrev TakenOut : ℕ → el_x E → ℕ → List (el_x E) → ℕ → Val → SProp 𝓤
  TakenOut i x taken xs k v = guard 𝓤 (Good E v) (sep 𝓤 (H.at full_share (elτ E) b (i * s + o) v) (sep 𝓤 (sem 𝓛 (E.row.own_val x (v ∷ []))) (sem 𝓛 (Behind taken xs k))))

  pub take_out : (i taken : ℕ) (xs : List (el_x E)) (there : 0 < length xs) (k : ℕ) → i ≡ taken
      → ent 𝓤 (sem 𝓛 (runs (R E) b o taken xs k)) (ex 𝓤 (TakenOut i (cut_first xs there).0 taken (take_off 1 xs) k))
  take_out i taken xs there k is =
      let x = (cut_first xs there).0 in let rest = take_off 1 xs in
      qed 𝓛 (‵ (runs (R E) b o taken xs k) ∷ []) ∵ rewrite ! 0 (λ (ys : List (el_x E)). ‵ (runs (R E) b o taken ys k)) (cut_first xs there).1 refl $
      use1 𝓛 (‵ (part_at (R E) full_share x b (taken * s + o)) ⊛ ‵ (Behind taken rest k)) (front_out taken x rest k) $ split ! $
      rewrite ! 0 (λ (j : ℕ). ‵ (part_at (R E) full_share x b (j * s + o))) (sym is) refl $
      use1 𝓛 (some (λ (v : Val). given (Good E v) (‵ (fat full_share (elτ E) b (i * s + o) v) ⊛ ‵ (E.row.own_val x (v ∷ []))))) (rows.el_out (as_rows E) 𝓛 full_share x b (i * s + o)) $
      pick ! (λ v. learn ! (λ good. split ! $ show ! (TakenOut i x taken rest k) v $ check ! good $ done !))

  pub take_back : (i taken : ℕ) (xs : List (el_x E)) (k : ℕ) (v : Val) → i ≡ taken
      → ent 𝓤 (sep 𝓤 (H.at full_share (elτ E) b (i * s + o) v) (sem 𝓛 (Behind taken xs k))) (sem 𝓛 (runs (R E) b o (taken + 1) xs k))
  take_back i taken xs k v is =
      qed 𝓛 (‵ (fat full_share (elτ E) b (i * s + o) v) ∷ ‵ (Behind taken xs k) ∷ []) ∵
      use1 𝓛 (‵ (froom (elτ E) b (i * s + o))) (𝓛.laws.at_room (elτ E) b (i * s + o) v) $ rewrite ! 0 (λ (j : ℕ). ‵ (froom (elτ E) b (j * s + o))) is refl $
      use2 𝓛 (‵ (runs (R E) b o (suc taken) xs k)) (front_in taken xs k) $ rewrite ! 0 (λ (j : ℕ). ‵ (runs (R E) b o j xs k)) (sym (rows.one_more taken)) refl $ done !

  -- the runs but for the last item, whose place is the first waiting one once it is taken out
  back_out : (g : ℕ) (xs : List (el_x E)) (x : el_x E) (k : ℕ)
      → ent 𝓤 (sem 𝓛 (runs (R E) b o g (xs ++ x ∷ []) k)) (sep 𝓤 (sem 𝓛 (part_at (R E) full_share x b ((g + length xs) * s + o))) (sem 𝓛 (Before g xs k)))
  back_out g xs x k =
      let from = g * s + o in let at = (g + length xs) * s + o in
      let far : place s from (length xs) ≡ at = let sum = rows.add_times g (length xs) s in let is = place_is s from (length xs) in omega arith in
      let long : (g + length (xs ++ x ∷ [])) * s + o ≡ suc (g + length xs) * s + o = let count : g + length (xs ++ x ∷ []) ≡ suc (g + length xs) = omega (arith, length-append xs (x ∷ [])) in ap (λ j. j * s + o) count in
      qed 𝓛 (‵ (runs (R E) b o g (xs ++ x ∷ []) k) ∷ []) ∵ fsplit ! $
      use1 𝓛 (‵ (items from xs) ⊛ ‵ (items (place s from (length xs)) (x ∷ []))) (rows.row_cut (as_rows E) 𝓛 full_share xs (x ∷ []) b from) $ split ! $
      move ! (1 ∷ []) $ fsplit ! $ move ! (1 ∷ []) $ drop ! $ rewrite ! 0 (λ (j : ℕ). ‵ (part_at (R E) full_share x b j)) far refl $
      move ! (2 ∷ []) $ fsplit ! $ move ! (1 ∷ []) $ rewrite ! 0 (λ (j : ℕ). ‵ (free k j)) long refl $
      move ! (1 ∷ 0 ∷ []) $ fjoin ! $ move ! (2 ∷ 0 ∷ []) $ fjoin ! $ move ! (1 ∷ 0 ∷ []) $ done !

  back_in : (g : ℕ) (xs : List (el_x E)) (k : ℕ)
      → ent 𝓤 (sep 𝓤 (H.room (elτ E) b ((g + length xs) * s + o)) (sem 𝓛 (Before g xs k))) (sem 𝓛 (runs (R E) b o g xs (suc k)))
  back_in g xs k =
      let at = (g + length xs) * s + o in let next : suc (g + length xs) * s + o ≡ at + s = omega (arith, suc-mul (g + length xs) s) in
      qed 𝓛 (‵ (froom (elτ E) b at) ∷ ‵ (Before g xs k) ∷ []) ∵ move ! (1 ∷ []) $ fsplit ! $ move ! (1 ∷ []) $ fsplit ! $ move ! (1 ∷ []) $
      rewrite ! 0 (λ (j : ℕ). ‵ (free k j)) next refl $ as_written ! (ty_array (elτ E) k) b (at + s) $
      move ! (3 ∷ 0 ∷ []) $ use2 𝓛 (‵ (froom (ty_array (elτ E) (suc k)) b at)) (𝓛.laws.room_cons (elτ E) k b at) $ as_raw ! (ty_array (elτ E) (suc k)) b at $
      move ! (1 ∷ 0 ∷ []) $ fjoin ! $ move ! (1 ∷ 0 ∷ []) $ fjoin ! $ done !

  -- the last item's machine value lies in slot i, and the slot is free once that is moved out
  abbrev LastOut : ℕ → el_x E → ℕ → List (el_x E) → ℕ → Val → SProp 𝓤
  LastOut i x taken xs k v = guard 𝓤 (Good E v) (sep 𝓤 (H.at full_share (elτ E) b (i * s + o) v) (sep 𝓤 (sem 𝓛 (E.row.own_val x (v ∷ []))) (sem 𝓛 (Before taken xs k))))

  pub last_out : (i taken : ℕ) (xs : List (el_x E)) (there : 0 < length xs) (k : ℕ) → i + 1 ≡ taken + length xs
      → ent 𝓤 (sem 𝓛 (runs (R E) b o taken xs k)) (ex 𝓤 (LastOut i (cut_last xs there).0 taken (all_but_last xs) k))
  last_out i taken xs there k is =
      let x = (cut_last xs there).0 in let rest = all_but_last xs in
      let behind : taken + length rest ≡ i = omega (arith, ap length (cut_last xs there).1, length-append rest (x ∷ [])) in
      qed 𝓛 (‵ (runs (R E) b o taken xs k) ∷ []) ∵ rewrite ! 0 (λ (ys : List (el_x E)). ‵ (runs (R E) b o taken ys k)) (cut_last xs there).1 refl $
      use1 𝓛 (‵ (part_at (R E) full_share x b ((taken + length rest) * s + o)) ⊛ ‵ (Before taken rest k)) (back_out taken rest x k) $ split ! $
      rewrite ! 0 (λ (n : ℕ). ‵ (part_at (R E) full_share x b (n * s + o))) behind refl $
      use1 𝓛 (some (λ (v : Val). given (Good E v) (‵ (fat full_share (elτ E) b (i * s + o) v) ⊛ ‵ (E.row.own_val x (v ∷ []))))) (rows.el_out (as_rows E) 𝓛 full_share x b (i * s + o)) $
      pick ! (λ v. learn ! (λ good. split ! $ show ! (LastOut i x taken rest k) v $ check ! good $ done !))

  pub last_back : (i taken : ℕ) (xs : List (el_x E)) (k : ℕ) (v : Val) → i ≡ taken + length xs
      → ent 𝓤 (sep 𝓤 (H.at full_share (elτ E) b (i * s + o) v) (sem 𝓛 (Before taken xs k))) (sem 𝓛 (runs (R E) b o taken xs (k + 1)))
  last_back i taken xs k v is =
      qed 𝓛 (‵ (fat full_share (elτ E) b (i * s + o) v) ∷ ‵ (Before taken xs k) ∷ []) ∵
      use1 𝓛 (‵ (froom (elτ E) b (i * s + o))) (𝓛.laws.at_room (elτ E) b (i * s + o) v) $ rewrite ! 0 (λ (j : ℕ). ‵ (froom (elτ E) b (j * s + o))) is refl $
      use2 𝓛 (‵ (runs (R E) b o taken xs (suc k))) (back_in taken xs k) $ rewrite ! 0 (λ (j : ℕ). ‵ (runs (R E) b o taken xs j)) (sym (rows.one_more k)) refl $ done !

  pub fresh : (n : ℕ) → ent 𝓤 (H.room (ty_array (elτ E) n) b o) (sem 𝓛 (runs (R E) b o 0 [] n))
  fresh n =
      let start : o ≡ 0 * s + o = omega (arith, zero-mul s) in
      qed 𝓛 (‵ (froom (ty_array (elτ E) n) b o) ∷ []) ∵ as_raw ! (ty_array (elτ E) n) b o $ rewrite ! 0 (λ (j : ℕ). ‵ (free n j)) start refl $
      use0 𝓛 (‵ (froom (ty_array (elτ E) 0) b o)) (𝓛.laws.room_nil (elτ E) b o) $ as_raw ! (ty_array (elτ E) 0) b o $ fjoin ! $ nothing ! $ fjoin ! $ done !

  pub spent : (g k : ℕ) → ent 𝓤 (sem 𝓛 (runs (R E) b o g [] k)) (H.room (ty_array (elτ E) (g + k)) b o)
  spent g k =
      let same : (g + 0) * s + o ≡ o + g * s = let none : g + 0 ≡ g = omega arith in ap (λ j. j * s + o) none ∙ omega arith in
      qed 𝓛 (‵ (runs (R E) b o g [] k) ∷ []) ∵ fsplit ! $ move ! (1 ∷ []) $ fsplit ! $ as_written ! (ty_array (elτ E) g) b o $ move ! (1 ∷ []) $
      rewrite ! 0 (λ (j : ℕ). ‵ (free k j)) same refl $ as_written ! (ty_array (elτ E) k) b (o + g * s) $ move ! (1 ∷ 0 ∷ []) $
      use2 𝓛 (‵ (froom (ty_array (elτ E) (g + k)) b o)) (rows.glued (as_rows E) 𝓛 g k (g + k) b o refl) $ move ! (1 ∷ []) $ drop ! $ done !

  -- places that take no memory are anywhere
  pub weightless : (n : ℕ) → n * s ≡ 0 → ent 𝓤 (emp 𝓤) (H.room (ty_array (elτ E) n) b o)
  weightless n none =
      let none_too : n * s ≡ 0 * s = none ∙ sym (zero-mul s) in
      qed 𝓛 [] ∵ use0 𝓛 (‵ (froom (ty_array (elτ E) 0) b o)) (𝓛.laws.room_nil (elτ E) b o) $
      use1 𝓛 (‵ (froom (ty_array (elτ E) n) b o) ⊛ raw (wand 𝓤 (H.room (ty_array (elτ E) n) b o) (H.room (ty_array (elτ E) 0) b o))) (𝓛.laws.room_as (ty_array (elτ E) 0) (ty_array (elτ E) n) b o none_too (dv_self (align (elτ E)))) $
      split ! $ move ! (1 ∷ []) $ drop ! $ done !

  pub to_cells : (xs : List (el_x E)) (at : ℕ) → ent 𝓤 (sem 𝓛 (items at xs)) (sem 𝓛 (cells (mem (R E)) xs b at))
  to_cells [] at = id⊢ 𝓤 (emp 𝓤)
  to_cells (x ∷ xs) at = mono_r 𝓤 (sem 𝓛 (part_at (R E) full_share x b at)) (to_cells xs (at + s))

  pub of_cells : (xs : List (el_x E)) (at : ℕ) → ent 𝓤 (sem 𝓛 (cells (mem (R E)) xs b at)) (sem 𝓛 (items at xs))
  of_cells [] at = id⊢ 𝓤 (emp 𝓤)
  of_cells (x ∷ xs) at = mono_r 𝓤 (sem 𝓛 (part_at (R E) full_share x b at)) (of_cells xs (at + s))
