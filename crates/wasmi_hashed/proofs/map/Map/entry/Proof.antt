-- `entry` hands on what the inner map's lends. Assumes `Logic`.
use Rattle.std.specs.HashMap.{hasher_of}
use Rattle.std.specs.contracts.alloc.AllocFailed as FailedType
use Rattle.std.specs.contracts.result.Result as ResultType
use Rattle.std.proofs.alloc.AllocFailed.TheLaws as FailedLaws
use Rattle.std.proofs.result.Result.TheLaws as ResultLaws
use Rattle.wasmi_arena.specs.declared.error.ArenaError.TheVariants.{OutOfSystemMemory}
use Rattle.wasmi_arena.specs.contracts.error.ArenaError as ErrorType
use Rattle.wasmi_arena.proofs.error.ArenaError.TheLaws as ErrorLaws
use Rattle.wasmi_map_specs.specs.Maps.{value_at}
use Rattle.wasmi_map_specs.proofs.Handed.{each_ok}
use Rattle.wasmi_map_specs.proofs.Made.{of_entry, of_absence, of_failure}
use Rattle.wasmi_map_specs.proofs.Walk.{◌≡◌, ◌∙◌, [], ◌∷◌, None, refl, ap, subst, leaves, name_if_ok, IfOk, OnErr, fsep, ftrue, emp, toks, fact, fact_i, tables, no, follows, follows_so, bounded, param, param_laws, MutRef, mut_vals, mut_Tells, plain, named_lft, nothing, heard, only, lasts, Lasts, framed, Stays, walk_of, stay_dropped, Goes-dropped, Goes-spent_ref, inst_fn, Args, a_type, dcons, dnil, named, Val, vptr, alloc_all, pass_all, free_all, look_at, get, through, sets, lands_as, ‵, raw, ◌⊛◌, ◌$◌, ◌∵◌, !, qed, by, move, keep, drop, split, fjoin, frame, use0, use2, suffices, rewrite, enter, addr, stop, of_opd, and_then, no_more, returns, let_go, gone, also, calls_on, proved_by, typed_of, one_of, ref_of, facts, twice}
use Rattle.wasmi_hashed.specs.Entries.{Entries}
use Rattle.wasmi_hashed.specs.contracts.map.Map.{the_row as MapRow}
use Rattle.wasmi_hashed.specs.contracts.map.Map.entry as F
use Rattle.wasmi_hashed.specs.contracts.map.Map.inner_mut as Lends
use Rattle.wasmi_hashed.specs.contracts.map.entry.entry_in as Asks
use Rattle.wasmi_hashed.specs.contracts.map.entry.of_inner as Makes
use Rattle.wasmi_hashed.proofs.LentOn.{lent_on}
use Rattle.wasmi_hashed.proofs.Rows.{entry_map_ref, inner_entry, IsEntryOf, IsOfInner, map_of, inner_rests, entry, alive_in}
use Rattle.wasmi_hashed.proofs.map.Map.inner_mut.Met as Lent
use Rattle.wasmi_hashed.proofs.map.entry.entry_in.Met as Asked
use Rattle.wasmi_hashed.proofs.map.entry.of_inner.Met as Made
use Rattle.wasmi_hashed.proofs.map.Map.entry.Code as code
use Rattle.wasmi_hashed.proofs.map.Map.entry.Statement.{statement}

pub entry_spec : {M : Type 1} → statement M
entry_spec 𝓤 𝓛 𝓜 𝓡 wired X Y S Z N LX LY LS LZ LN e de p dp h dh s ds n dn g dg dd dm cl dcl dk me mp mh ms mn mg md mm mcl mk =
    let args : Args = bounded (a_type ∷ a_type ∷ a_type ∷ a_type ∷ a_type ∷ []) (X, (Y, (S, (Z, (N, tt))))) (dcons de (dcons dp (dcons dh (dcons ds (dcons dn (dcons dg (dcons dd (dcons dm (dcons dcl (dcons dk dnil)))))))))) in
    let call = F.ended X Y S Z N e de p dp h dh s ds n dn g dg dd dm cl dcl dk in let c = F.clauses X Y S Z N e de p dp h dh s ds n dn g dg dd dm cl dcl dk 𝓛 𝓜.mem 𝓡.returns in
    let lends = Lends.ended X Y S Z N e de p dp h dh s ds n dn g dg dd dm in let asks = Asks.ended X Y S Z N e de p dp h dh s ds n dn g dg cl dcl dk dd dm in let makes = Makes.ended X Y S Z N e de p dp h dh s ds n dn g dg dk dd dm in
    let stayed : Stays call.signature.params call.kept = (stay_dropped _ no, (stay_dropped _ no, tt)) in let W = walk_of 𝓛 call stayed c in let 𝓣 = tables 𝓤 𝓛.H 𝓜 𝓡 𝓡.env in
    let K = param 0 X in let P = entry X Y S Z N p h s n g LX LY LS LZ LN in let Self = MapRow (param 0 X) (param 1 Y) (param 2 S) (param 3 Z) (param 4 N) p h s n g in let fm = framed 𝓤 𝓛.H 𝓜 𝓣 in
    proved_by 𝓛 call stayed c 𝓜 𝓡 (Goes-spent_ref 𝓛 6 (0 ∷ []) tt (plain (λ _. Self)), (Goes-dropped 𝓛 6 (plain (λ _. K)) no (λ κs x us. refl), tt))
    (F.Key.name args) (inst_fn args code.function) (code.unfolded 𝓤 𝓛.H 𝓜 𝓡 wired (X, (Y, (S, (Z, (N, tt))))) de dp dh ds dn dg dd dm dcl dk)
    (λ κs. (ref_of (named 0) κs.0 Self, (one_of 𝓛 (param_laws 0 X LX), tt))) (λ κs qs bounds a _ us good.
    let map = a.0 in let key = a.1.0 in let k = us.1.0 in let κ = κs.0 in let γ = map.ghost_name in let ℓ = named_lft 6 0 tt κs in let known = alive_in X Y S Z N κs in
    let y : W.Ghost = ((κs, qs, bounds, a, (mut_vals map, (k ∷ [], tt))), tt) in
    let There = ResultType.the_row (P.There ℓ) (FailedType.the_row K) in let there_laws = ResultLaws.the_row_laws (P.There ℓ) (FailedType.the_row K) (P.there_laws ℓ) (FailedLaws.the_row_laws K (param_laws 0 X LX)) in
    let Here = ResultType.the_row (P.Here ℓ) ErrorType.the_row in let here_laws = ResultLaws.the_row_laws (P.Here ℓ) ErrorType.the_row (P.here_laws ℓ) ErrorLaws.the_row_laws in
    qed 𝓛 ((raw (toks 𝓛 6 κs qs) ⊛ ‵ ((MutRef (named 0) κ Self).own_val map (mut_vals map)) ⊛ ‵ (K.own_val key (k ∷ [])) ⊛ ‵ ftrue) ∷ raw (facts 𝓤 known (emp 𝓤)) ∷ []) ∵
    split ! $ move ! (1 ∷ []) $ split ! $ move ! (1 ∷ []) $ split ! $ move ! (3 ∷ 2 ∷ 1 ∷ 4 ∷ 0 ∷ []) $
    -- [the tokens; the map; nothing; the facts; the key]
    enter ! _ _ _ _ _ $ alloc_all ! (λ l. pass_all ! refl ((tt, tt), (good.1.0, tt)) $ sets ! (addr ! (through ! refl (stop !))) refl (tt, tt) $
    calls_on 𝓛 ! fm (twice 𝓤 known) (MutRef (named 0) κ Self) (MutRef (named 0) κ P.Map) ftrue map (mut_vals map) (mut_vals map) {W = Lasts lends κs (map, tt)}
    (λ t ws. ‵ (lasts lends κs (map, tt) ws) ⊛ ‵ (follows Self P.Map γ t.ghost_name map_of) ⊛ raw (fact 𝓤 (map_of t.now ≡ map.now)))
    (Lent.met 𝓤 𝓛 𝓜 𝓡 (code.calls-wasmi_hashed::map::Map::inner_mut 𝓡.env wired) X Y S Z N LX LY LS LZ LN e de p dp h dh s ds n dn g dg dd dm me mp mh ms mn mg md mm ((κs, qs, bounds, (map, tt), (mut_vals map, tt)), tt))
    (and_then ! (get ! refl) (no_more !)) (λ v₁ t ws₁ is₁. split ! $ drop ! $ split ! $ move ! (1 ∷ []) $ heard ! _ (λ as_map.
    -- [what the map is in the end; the inner map; the tokens; the facts; the key]
    let at : v₁ ≡ vptr t.ref_ptr.0 t.ref_ptr.1 = ap only (mut_Tells (named 0) κ P.Map t (v₁ ∷ []) is₁) in
    lands_as ! at refl (tt, tt) $ rewrite ! 1 (λ (v : Val). ‵ ((MutRef (named 0) κ P.Map).own_val t (v ∷ []))) at refl $ sets ! (of_opd ! (get ! refl)) refl good.1.0 $
    nothing ! $ move ! (5 ∷ 0 ∷ []) $ fjoin ! $ move ! (3 ∷ 2 ∷ 0 ∷ 4 ∷ []) $
    calls_on 𝓛 ! fm (twice 𝓤 known) (MutRef (named 0) κ P.Map) There (fsep (K.own_val key (k ∷ [])) ftrue) t (mut_vals t) (vptr t.ref_ptr.0 t.ref_ptr.1 ∷ k ∷ []) {W = Lasts asks κs (t, (key, tt))}
    (λ r ws. ‵ (lasts asks κs (t, (key, tt)) ws) ⊛ ‵ (inner_rests (param 0 X) (param 1 Y) (param 2 S) (param 3 Z) (param 4 N) g t r) ⊛ raw (fact 𝓤 (IfOk r (λ there. (entry_map_ref there).ghost_name ≡ t.ghost_name)))
    ⊛ raw (fact 𝓤 (IfOk r (IsEntryOf p.eq (map_of t.now) key)))
    ⊛ raw (fact 𝓤 (IfOk r (λ there. (last : Y.Denot) → hasher_of (entry_map_ref there).now ≡ hasher_of t.now))) ⊛ raw (fact 𝓤 (OnErr r (value_at p.eq t.now.entries key ≡ None))))
    (Asked.met 𝓤 𝓛 𝓜 𝓡 (code.calls-wasmi_hashed::map::entry::entry_in 𝓡.env wired) X Y S Z N LX LY LS LZ LN e de p dp h dh s ds n dn g dg cl dcl dk dd dm me mp mh ms mn mg mcl mk md mm ((κs, qs, bounds, (t, (key, tt)), (mut_vals t, (k ∷ [], tt))), tt))
    (and_then ! (get ! refl) (and_then ! (get ! refl) (no_more !))) (λ v₂ r ws₂ is₂. split ! $ drop ! $ split ! $ move ! (1 ∷ []) $
    split ! $ heard ! _ (λ same_map. split ! $ heard ! _ (λ is_place. split ! $ heard ! _ (λ has_state. heard ! _ (λ is_absent.
    -- [how the inner map is left; the answer; the tokens; the facts; what the map is in the end]
    lands_as ! refl refl (typed_of 𝓛 there_laws r (v₂ ∷ []) is₂).0 $ nothing ! $ move ! (3 ∷ 2 ∷ 0 ∷ 4 ∷ []) $
    calls_on 𝓛 ! fm (twice 𝓤 known) There Here ftrue r (v₂ ∷ []) (v₂ ∷ []) {W = Lasts makes κs (r, tt)} (λ res ws. ‵ (lasts makes κs (r, tt) ws) ⊛ raw (fact 𝓤 (IsOfInner r res)))
    (Made.met 𝓤 𝓛 𝓜 𝓡 (code.calls-wasmi_hashed::map::entry::of_inner 𝓡.env wired) X Y S Z N LX LY LS LZ LN e de p dp h dh s ds n dn g dg dk dd dm me mp mh ms mn mg mk md mm ((κs, qs, bounds, (r, tt), (v₂ ∷ [], tt)), tt))
    (and_then ! (get ! refl) (no_more !)) (λ v res ws₃ is₃. split ! $ drop ! $ heard ! _ (λ made.
    -- [the answer; the tokens; the facts; how the inner map is left; what the map is in the end]
    move ! (4 ∷ 3 ∷ []) $ use2 𝓛 (‵ (follows_so Self P.Map γ (name_if_ok (λ entry. (entry_map_ref (inner_entry entry)).ghost_name) res) (λ last new. new ≡ map_of last) (λ new. OnErr res (new.entries ≡ map.now.entries))))
    (lent_on 𝓛 Self P.Map map_of γ t map.now (λ now. now.entries ≡ t.now.entries) (λ new. new.entries ≡ map.now.entries) (λ now same. same ∙ ap (λ (m : Entries X.Denot Y.Denot S.Denot). m.entries) as_map) r res made same_map) $
    lands_as ! refl refl (typed_of 𝓛 here_laws res (v ∷ []) is₃).0 $ returns ! (look_at ! 0 refl) $ free_all ! refl $
    suffices ! _ (leaves 𝓛 call stayed c y v res (tt, (tt, tt)) (tt, (tt, tt))) $
    let is : IfOk res (λ entry. IsEntryOf p.eq map.now key (inner_entry entry)) = subst (λ (m : Entries X.Denot Y.Denot S.Denot). IfOk res (λ entry. IsEntryOf p.eq m key (inner_entry entry))) as_map (of_entry inner_entry OutOfSystemMemory (IsEntryOf p.eq (map_of t.now) key) r res made is_place) in
    use0 𝓛 (‵ (let_go 2)) (gone 𝓛 2) $ keep ! (3 ∷ 0 ∷ 2 ∷ 1 ∷ []) $ frame ! $ frame ! $ frame ! $ frame ! $
    also ! (each_ok res is (λ entry known. known.0)) $ also ! (each_ok res is (λ entry known. known.1)) $ also ! (each_ok res is (λ entry known. known.2)) $ also ! (each_ok res is (λ entry known. known.3)) $
    also ! (each_ok res is (λ entry known. known.4)) $ also ! (each_ok res is (λ entry known. known.5)) $ also ! (each_ok res is (λ entry known. known.6)) $ also ! (subst (λ (m : Entries X.Denot Y.Denot S.Denot). IfOk res (λ entry. (last : Y.Denot) → hasher_of (entry_map_ref (inner_entry entry)).now ≡ m.hasher)) as_map
    (of_entry inner_entry OutOfSystemMemory (λ there. (last : Y.Denot) → hasher_of (entry_map_ref there).now ≡ hasher_of t.now) r res made has_state)) $ also ! (each_ok res is (λ entry known. known.7)) $
    also ! (subst (λ (m : Entries X.Denot Y.Denot S.Denot). OnErr res (value_at p.eq m.entries key ≡ None)) as_map (of_absence inner_entry OutOfSystemMemory _ r res made is_absent)) $
    by ! (fact_i 𝓤 _ (emp 𝓤) (of_failure inner_entry OutOfSystemMemory r res made)))))))))))))
