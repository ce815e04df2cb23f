-- `remove_entry` leaves the inner map without the key. Assumes `Logic`.
use Rattle.std.specs.contracts.collections.hash_map.OccupiedEntry.remove_entry as Calls
use Rattle.std.proofs.collections.hash_map.OccupiedEntry.remove_entry.Met as Called
use Rattle.wasmi_map_specs.proofs.Walk.{◌≡◌, [], ◌∷◌, leaves, Some, ftrue, toks, tables, yes, no, rest, see, left, bounded, layout, param, param_laws, named_lft, Tuple, tuple_laws, lasts, Lasts, framed, Stays, walk_of, stay_dropped, inst_fn, Args, a_type, dcons, dnil, raw, ◌$◌, ◌∵◌, !, qed, enter, hands, takes, spent, Good, proved_by, typed_of, one_of, all_of}
use Rattle.wasmi_hashed.specs.contracts.map.entry.OccupiedEntry.into_inner as Opens
use Rattle.wasmi_hashed.specs.contracts.map.entry.OccupiedEntry.remove_entry as F
use Rattle.wasmi_hashed.proofs.Rows.{IsUnchanged, entry_key, entry_value, map_without_entry, Occupied, inner_without, goes_without, occupied, alive_in}
use Rattle.wasmi_hashed.proofs.map.entry.OccupiedEntry.into_inner.Met as Opened
use Rattle.wasmi_hashed.proofs.map.entry.OccupiedEntry.remove_entry.Code as code
use Rattle.wasmi_hashed.proofs.map.entry.OccupiedEntry.remove_entry.Statement.{statement}

pub remove_entry_spec : {M : Type 1} → statement M
remove_entry_spec 𝓤 𝓛 𝓜 𝓡 wired X Y S Z N LX LY LS LZ LN e de p dp h dh s ds n dn g dg dd dm me mp mh ms mn mg md mm =
    let args : Args = bounded (a_type ∷ a_type ∷ a_type ∷ a_type ∷ a_type ∷ []) (X, (Y, (S, (Z, (N, tt))))) (dcons de (dcons dp (dcons dh (dcons ds (dcons dn (dcons dg (dcons dd (dcons dm dnil)))))))) in
    let call = F.ended X Y S Z N e de p dp h dh s ds n dn g dg dd dm in let c = F.clauses X Y S Z N e de p dp h dh s ds n dn g dg dd dm 𝓛 𝓜.mem 𝓡.returns in
    let opens = Opens.ended X Y S Z N e de p dp h dh s ds n dn g dg dd dm in let calls = Calls.ended X Y S Z N e de p dp h dh s ds n dn g dg dd dm in
    let stayed : Stays call.signature.params call.kept = (stay_dropped _ no, tt) in let W = walk_of 𝓛 call stayed c in let 𝓣 = tables 𝓤 𝓛.H 𝓜 𝓡 𝓡.env in let P = occupied X Y S Z N p h s n g LX LY LS LZ LN in
    proved_by 𝓛 call stayed c 𝓜 𝓡 (spent 𝓛 P 6 (named_lft 6 0 tt), tt)
    (F.Key.name args) (inst_fn args code.function) (code.unfolded 𝓤 𝓛.H 𝓜 𝓡 wired (X, (Y, (S, (Z, (N, tt))))) de dp dh ds dn dg dd dm)
    (λ κs. (one_of 𝓛 (P.here_laws (named_lft 6 0 tt κs)), tt)) (λ κs qs bounds a _ us good.
    let y : W.Ghost = ((κs, qs, bounds, a, (us.0 ∷ [], tt)), tt) in let ℓ = named_lft 6 0 tt κs in let there = P.inner ℓ a.0 in
    qed 𝓛 (raw (W.pre y) ∷ []) ∵ enter ! _ _ _ _ _ $
    hands 𝓛 𝓣.C (framed 𝓤 𝓛.H 𝓜 𝓣) 𝓣.Λ P ℓ a.0 us.0
    (all_of 𝓤 (toks 𝓛 6 κs qs) (alive_in X Y S Z N κs))
    (lasts opens κs (a.0, tt)) (Opened.met 𝓤 𝓛 𝓜 𝓡 (code.calls-wasmi_hashed::map::entry::OccupiedEntry::into_inner 𝓡.env wired) X Y S Z N LX LY LS LZ LN e de p dp h dh s ds n dn g dg dd dm me mp mh ms mn mg md mm ((κs, qs, bounds, (a.0, tt), (us.0 ∷ [], tt)), tt))
    ftrue ! good.0 good.0 (λ v ok. ok)
    (λ v. Called.met 𝓤 𝓛 𝓜 𝓡 (code.calls-std::collections::hash_map::OccupiedEntry::remove_entry 𝓡.env wired) X Y S Z N LX LY LS LZ LN e de p dp h dh s ds n dn g dg dd dm me mp mh ms mn mg md mm ((κs, qs, bounds, (there, a.1), (v ∷ [], tt)), tt))
    (Good (layout (Tuple (param 0 X ∷ param 1 Y ∷ [])))) (λ u ok. ok)
    (λ v u. takes 𝓛 (toks 𝓛 6 κs qs) 1 (Tuple (param 0 X ∷ param 1 Y ∷ [])) {W = Lasts calls κs (there, tt)} (λ ws. left ((P.There ℓ).exit yes) there ws.0) (λ r. ((r.0 ≡ entry_key (Occupied there)) ∷ [])) (λ r. entry_value (Occupied there) ≡ Some r.1) (λ ws. IsUnchanged (map_without_entry (Occupied there)) ((see ((P.There ℓ).exit yes) there ws.0).0.now))
    (inner_without (param 0 X) (param 1 Y) (param 2 S) (param 3 Z) (param 4 N) g (Occupied there)) (λ ws. goes_without 𝓛 (param 0 X) (param 1 Y) (param 2 S) (param 3 Z) (param 4 N) p h s n g ℓ there ws.0) u (λ r is. (typed_of 𝓛 (tuple_laws (param 0 X ∷ param 1 Y ∷ []) (param_laws 0 X LX, (param_laws 1 Y LY, tt))) r (u ∷ []) is).0) (λ r. leaves 𝓛 call stayed c y u r (rest ((P.Here ℓ).exit no) a.0, tt) (tt, tt))))
