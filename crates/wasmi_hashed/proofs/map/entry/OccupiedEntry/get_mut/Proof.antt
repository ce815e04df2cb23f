-- `get_mut` lends the inner entry to the standard library's call. Assumes `Logic`.
use Rattle.std.specs.contracts.collections.hash_map.OccupiedEntry.get_mut as Lends
use Rattle.std.proofs.collections.hash_map.OccupiedEntry.get_mut.Met as Lent
use Rattle.wasmi_map_specs.proofs.Walk.{◌≡◌, [], ◌∷◌, MutBor, refl, leaves, Some, GName, ftrue, flft, emp, id⊢, toks, fact, tables, no, follows, follows_then, lends_Part, mem, bounded, param, MutRef, mut_vals, plain, named_lft, nothing, lasts, Lasts, framed, Stays, walk_of, stay_dropped, Goes-spent_ref, inst_fn, Args, a_type, dcons, dnil, named, Val, vptr, alloc_all, pass_all, free_all, look_at, get, through, sets, lands_as, ‵, raw, ◌⊛◌, some, later, ◌$◌, ◌∵◌, !, qed, done, move, keep, drop, split, split3, fsplit3, group, pick, await, use0, use1, use2, suffices, rewrite, open_ref, enter, addr, fld, stop, and_then, no_more, returns, let_go, gone, calls_on, told, proved_by, ref_of, facts, twice}
use Rattle.wasmi_hashed.specs.contracts.map.entry.OccupiedEntry.get_mut as F
use Rattle.wasmi_hashed.proofs.HeldMemory.{Held, InnerHeld, inner_at, bare, inner_out, inner_back}
use Rattle.wasmi_hashed.proofs.Rows.{entry_value, with_entry_value, IsWritten, Occupied, with_value, alive_in}
use Rattle.wasmi_hashed.proofs.map.entry.OccupiedEntry.get_mut.Code as code
use Rattle.wasmi_hashed.proofs.map.entry.OccupiedEntry.get_mut.Statement.{statement}

pub get_mut_spec : {M : Type 1} → statement M
get_mut_spec 𝓤 𝓛 𝓜 𝓡 wired X Y S Z N LX LY LS LZ LN e de p dp h dh s ds n dn g dg dd dm me mp mh ms mn mg md mm =
    let args : Args = bounded (a_type ∷ a_type ∷ a_type ∷ a_type ∷ a_type ∷ []) (X, (Y, (S, (Z, (N, tt))))) (dcons de (dcons dp (dcons dh (dcons ds (dcons dn (dcons dg (dcons dd (dcons dm dnil)))))))) in let V = param 1 Y in
    let call = F.ended X Y S Z N e de p dp h dh s ds n dn g dg dd dm in let c = F.clauses X Y S Z N e de p dp h dh s ds n dn g dg dd dm 𝓛 𝓜.mem 𝓡.returns in let inner = Lends.ended X Y S Z N e de p dp h dh s ds n dn g dg dd dm in
    let stayed : Stays call.signature.params call.kept = (stay_dropped _ no, tt) in let W = walk_of 𝓛 call stayed c in let 𝓣 = tables 𝓤 𝓛.H 𝓜 𝓡 𝓡.env in
    proved_by 𝓛 call stayed c 𝓜 𝓡 (Goes-spent_ref 𝓛 7 (0 ∷ []) tt (plain (λ κs. Held (named_lft 7 1 tt κs) X Y S Z N p h s n g)), tt)
    (F.Key.name args) (inst_fn args code.function) (code.unfolded 𝓤 𝓛.H 𝓜 𝓡 wired (X, (Y, (S, (Z, (N, tt))))) de dp dh ds dn dg dd dm)
    (λ κs. (ref_of (named 0) κs.0 (Held (named_lft 7 1 tt κs) X Y S Z N p h s n g), tt)) (λ κs qs bounds a _ us good.
    let ℓ = named_lft 7 1 tt κs in let Self = Held ℓ X Y S Z N p h s n g in let Inner = InnerHeld ℓ X Y S Z N p h s n g in let known = alive_in X Y S Z N κs.1 in
    let held = a.0.now in let b = a.0.ref_ptr.0 in let from = a.0.ref_ptr.1 in let κ = κs.0 in let γ = a.0.ghost_name in let at = inner_at ℓ X Y S Z N p h s n g from in
    let y : W.Ghost = ((κs, qs, bounds, a, (mut_vals a.0, tt)), tt) in let put = λ (last : (Inner).Denot). record held { entry = last } in
    qed 𝓛 (((‵ (flft κ qs.0) ⊛ raw (toks 𝓛 6 κs.1 qs.1)) ⊛ ‵ ((MutRef (named 0) κ Self).own_val a.0 (mut_vals a.0)) ⊛ ‵ ftrue) ∷ raw (facts 𝓤 known (emp 𝓤)) ∷ []) ∵
    split ! $ split ! $ move ! (2 ∷ []) $ split ! $ fsplit3 ! $ keep ! (1 ∷ 2 ∷ 4 ∷ 5 ∷ 6 ∷ []) $
    enter ! _ _ _ _ _ $ alloc_all ! (λ l. pass_all ! refl ((tt, tt), tt) $ sets ! (addr ! (through ! refl (fld ! refl (stop !)))) refl (tt, tt) $ open_ref ! tt (mem Self) {b = b} {o = from} $
    -- [the entry; the open borrow, in three entries; the other tokens; the facts]
    use1 𝓛 (‵ ((mem Inner).own_at held.entry b at) ⊛ raw (bare ℓ X Y S Z N p h s n g 𝓛 b from held)) (inner_out ℓ X Y S Z N p h s n g 𝓛 b from LX LY LS LZ LN held) $ split ! $
    move ! (2 ∷ 3 ∷ 4 ∷ 0 ∷ 1 ∷ []) $ group ! 5 $
    let there : GName → MutBor (Inner).Denot = λ ν. record { ref_ptr = (b, at); ghost_name = ν; now = held.entry } in let code_of = (Self).coded.code held in
    use1 𝓛 (later (some (λ (ν : GName). ‵ ((MutRef (named 0) κ Inner).own_val (there ν) (vptr b at ∷ [])) ⊛ ‵ (flft κ qs.0) ⊛ ‵ (follows Self Inner γ ν put))))
    (lends_Part 𝓛 Self Inner put (named 0) κ qs.0 b from b at γ (bare ℓ X Y S Z N p h s n g 𝓛 b from held) (inner_back ℓ X Y S Z N p h s n g 𝓛 b from held) code_of code_of held.entry) $ await ! tt $ pick ! (λ ν. split3 ! $
    -- [the inner entry; the token; what the entry is in the end; the other tokens; the facts]
    move ! (1 ∷ 3 ∷ []) $ use2 𝓛 (raw (toks 𝓛 7 κs qs)) (id⊢ 𝓤 _) $ nothing ! $ move ! (1 ∷ 2 ∷ 0 ∷ 4 ∷ []) $
    calls_on 𝓛 ! (framed 𝓤 𝓛.H 𝓜 𝓣) (twice 𝓤 known) (MutRef (named 0) κ Inner) (MutRef (named 0) κ V) ftrue (there ν) (mut_vals (there ν)) (mut_vals (there ν)) {W = Lasts inner κs (there ν, tt)}
    (λ t ws. ‵ (lasts inner κs (there ν, tt) ws) ⊛ ‵ (follows Inner V ν t.ghost_name (with_entry_value held.entry)) ⊛ raw (fact 𝓤 (entry_value (Occupied held.entry) ≡ Some t.now))
    ⊛ raw (fact 𝓤 ((last : Y.Denot) → IsWritten (Occupied held.entry) last (Occupied (with_entry_value held.entry last)))))
    (Lent.met 𝓤 𝓛 𝓜 𝓡 (code.calls-std::collections::hash_map::OccupiedEntry::get_mut 𝓡.env wired) X Y S Z N LX LY LS LZ LN e de p dp h dh s ds n dn g dg dd dm me mp mh ms mn mg md mm ((κs, qs, bounds, (there ν, tt), (mut_vals (there ν), tt)), tt))
    (and_then ! (get ! refl) (no_more !)) (λ v t ws is. split ! $ drop ! $ split ! $
    -- [what the inner entry is in the end; the clauses; the reference; the tokens; the facts; what the entry is in the end]
    move ! (5 ∷ 0 ∷ []) $ use2 𝓛 (‵ (follows Self V γ t.ghost_name (with_value held))) (follows_then 𝓛 Self Inner V put (with_entry_value held.entry) γ ν t.ghost_name) $
    let ref = told κ V t v is in lands_as ! ref.1 refl (tt, tt) $ rewrite ! 2 (λ (u : Val). ‵ ((MutRef (named 0) κ V).own_val t (u ∷ []))) ref.1 refl $
    returns ! (look_at ! 0 refl) $ free_all ! refl $ suffices ! _ (leaves 𝓛 call stayed c y (vptr ref.0.0 ref.0.1) t (tt, tt) (tt, tt)) $
    use0 𝓛 (‵ (let_go 1)) (gone 𝓛 1) $ keep ! (4 ∷ 0 ∷ 3 ∷ 1 ∷ 2 ∷ []) $ done !))))
