-- `into_mut` hands on what the inner entry lends. Assumes `Logic`.
use Rattle.std.specs.contracts.collections.hash_map.OccupiedEntry.into_mut as Calls
use Rattle.std.proofs.collections.hash_map.OccupiedEntry.into_mut.Met as Called
use Rattle.wasmi_map_specs.proofs.Walk.{◌≡◌, [], ◌∷◌, leaves, Some, ftrue, toks, tables, no, rest, bounded, named_lft, lasts, framed, Stays, walk_of, stay_dropped, inst_fn, Args, a_type, dcons, dnil, raw, ◌$◌, ◌∵◌, !, qed, enter, lends_bare, spent, proved_by, one_of, all_of}
use Rattle.wasmi_hashed.specs.contracts.map.entry.OccupiedEntry.into_inner as Opens
use Rattle.wasmi_hashed.specs.contracts.map.entry.OccupiedEntry.into_mut as F
use Rattle.wasmi_hashed.proofs.Rows.{entry_value, Occupied, occupied, alive_in}
use Rattle.wasmi_hashed.proofs.map.entry.OccupiedEntry.into_inner.Met as Opened
use Rattle.wasmi_hashed.proofs.map.entry.OccupiedEntry.into_mut.Code as code
use Rattle.wasmi_hashed.proofs.map.entry.OccupiedEntry.into_mut.Statement.{statement}

pub into_mut_spec : {M : Type 1} → statement M
into_mut_spec 𝓤 𝓛 𝓜 𝓡 wired X Y S Z N LX LY LS LZ LN e de p dp h dh s ds n dn g dg dd dm me mp mh ms mn mg md mm =
    let args : Args = bounded (a_type ∷ a_type ∷ a_type ∷ a_type ∷ a_type ∷ []) (X, (Y, (S, (Z, (N, tt))))) (dcons de (dcons dp (dcons dh (dcons ds (dcons dn (dcons dg (dcons dd (dcons dm dnil)))))))) in
    let call = F.ended X Y S Z N e de p dp h dh s ds n dn g dg dd dm in let c = F.clauses X Y S Z N e de p dp h dh s ds n dn g dg dd dm 𝓛 𝓜.mem 𝓡.returns in
    let opens = Opens.ended X Y S Z N e de p dp h dh s ds n dn g dg dd dm in let calls = Calls.ended X Y S Z N e de p dp h dh s ds n dn g dg dd dm in
    let stayed : Stays call.signature.params call.kept = (stay_dropped _ no, tt) in let W = walk_of 𝓛 call stayed c in let 𝓣 = tables 𝓤 𝓛.H 𝓜 𝓡 𝓡.env in let P = occupied X Y S Z N p h s n g LX LY LS LZ LN in
    proved_by 𝓛 call stayed c 𝓜 𝓡 (spent 𝓛 P 6 (named_lft 6 0 tt), tt)
    (F.Key.name args) (inst_fn args code.function) (code.unfolded 𝓤 𝓛.H 𝓜 𝓡 wired (X, (Y, (S, (Z, (N, tt))))) de dp dh ds dn dg dd dm)
    (λ κs. (one_of 𝓛 (P.here_laws (named_lft 6 0 tt κs)), tt)) (λ κs qs bounds a _ us good.
    let y : W.Ghost = ((κs, qs, bounds, a, (us.0 ∷ [], tt)), tt) in let ℓ = named_lft 6 0 tt κs in let there = P.inner ℓ a.0 in
    qed 𝓛 (raw (W.pre y) ∷ []) ∵ enter ! _ _ _ _ _ $
    lends_bare 𝓛 𝓣.C (framed 𝓤 𝓛.H 𝓜 𝓣) 𝓣.Λ P ℓ a.0 us.0
    (all_of 𝓤 (toks 𝓛 6 κs qs) (alive_in X Y S Z N κs))
    (lasts opens κs (a.0, tt)) (Opened.met 𝓤 𝓛 𝓜 𝓡 (code.calls-wasmi_hashed::map::entry::OccupiedEntry::into_inner 𝓡.env wired) X Y S Z N LX LY LS LZ LN e de p dp h dh s ds n dn g dg dd dm me mp mh ms mn mg md mm ((κs, qs, bounds, (a.0, tt), (us.0 ∷ [], tt)), tt))
    ftrue 1 κs.0 (λ t. entry_value (Occupied there) ≡ Some t.now) (lasts calls κs (there, tt)) ! good.0 good.0 (λ v ok. ok) (λ k o. (tt, tt))
    (λ v. Called.met 𝓤 𝓛 𝓜 𝓡 (code.calls-std::collections::hash_map::OccupiedEntry::into_mut 𝓡.env wired) X Y S Z N LX LY LS LZ LN e de p dp h dh s ds n dn g dg dd dm me mp mh ms mn mg md mm ((κs, qs, bounds, (there, a.1), (v ∷ [], tt)), tt))
    (λ u t. leaves 𝓛 call stayed c y u t (rest ((P.Here ℓ).exit no) a.0, tt) (tt, tt)))
