-- `or_insert_with_key` hands on what the inner entry lends. Assumes `Logic`.
use Rattle.std.specs.contracts.collections.btree_map.Entry.or_insert_with_key as Calls
use Rattle.std.proofs.collections.btree_map.Entry.or_insert_with_key.Met as Called
use Rattle.wasmi_map_specs.proofs.Walk.{◌≡◌, [], ◌∷◌, Ok, None, refl, lit<, leaves, Bor, FnOnceReturnsAt, UnwrapsOrElse, fsep, ftrue, sep, ◌⊑◌, fact, tables, no, rest, bounded, param, param_laws, plain, named_lft, lasts, framed, Stays, walk_of, stay_dropped, Goes-dropped, inst_fn, Args, a_type, dcons, dnil, raw, ◌$◌, ◌∵◌, !, qed, enter, lends_with, spent, ok_val, proved_by, one_of, but_last, front, shares}
use Rattle.wasmi_ordered.specs.contracts.map.entry.Entry.into_inner as Opens
use Rattle.wasmi_ordered.specs.contracts.map.entry.Entry.or_insert_with_key as F
use Rattle.wasmi_ordered.proofs.Rows.{entry_key, entry_value, entry, alive_in}
use Rattle.wasmi_ordered.proofs.map.entry.Entry.into_inner.Met as Opened
use Rattle.wasmi_ordered.proofs.map.entry.Entry.or_insert_with_key.Code as code
use Rattle.wasmi_ordered.proofs.map.entry.Entry.or_insert_with_key.Statement.{statement}

pub or_insert_with_key_spec : {M : Type 1} → statement M
or_insert_with_key_spec 𝓤 𝓛 𝓜 𝓡 wired X Y Z U LX LY LZ LU h dh e de p dp o dt q dq g dg dd f df du mh me mp mo mq mg md mf mu =
    let args : Args = bounded (a_type ∷ a_type ∷ a_type ∷ a_type ∷ []) (X, (Y, (Z, (U, tt)))) (dcons dh (dcons de (dcons dp (dcons dt (dcons dq (dcons dg (dcons dd (dcons df (dcons du dnil))))))))) in
    let call = F.ended X Y Z U h dh e de p dp o dt q dq g dg dd f df du in let c = F.clauses X Y Z U h dh e de p dp o dt q dq g dg dd f df du 𝓛 𝓜.mem 𝓡.returns in
    let opens = Opens.ended X Y Z h dh e de p dp o dt q dq g dg dd in let calls = Calls.ended X Y Z U o dt e de p dp q dq g dg dd f df du in
    let stayed : Stays call.signature.params call.kept = (stay_dropped _ no, (stay_dropped _ no, tt)) in let W = walk_of 𝓛 call stayed c in let 𝓣 = tables 𝓤 𝓛.H 𝓜 𝓡 𝓡.env in let P = entry X Y Z p o q g LX LY LZ in
    proved_by 𝓛 call stayed c 𝓜 𝓡 (spent 𝓛 P 5 (named_lft 5 0 tt), (Goes-dropped 𝓛 5 (plain (λ _. param 3 U)) no (λ κs x us. refl), tt))
    (F.Key.name args) (inst_fn args code.function) (code.unfolded 𝓤 𝓛.H 𝓜 𝓡 wired (X, (Y, (Z, (U, tt)))) dh de dp dt dq dg dd df du)
    (λ κs. (one_of 𝓛 (P.here_laws (named_lft 5 0 tt κs)), (one_of 𝓛 (param_laws 3 U LU), tt))) (λ κs qs bounds a _ us good.
    let y : W.Ghost = ((κs, qs, bounds, a, (us.0 ∷ [], (us.1.0 ∷ [], tt))), tt) in let ℓ = named_lft 5 0 tt κs in let there = P.inner ℓ a.0 in let κs₁ = front 4 κs in
    qed 𝓛 (raw (W.pre y) ∷ []) ∵ enter ! _ _ _ _ _ $
    lends_with 𝓛 𝓣.C (framed 𝓤 𝓛.H 𝓜 𝓣) 𝓣.Λ P ℓ a.0 us.0
    (but_last 𝓛 4 κs qs (alive_in X Y Z κs₁) (sep 𝓤 (fact 𝓤 (κs.1.1.1.1.0 ⊑ U.lives)) (fact 𝓤 (entry_value there ≡ None → (b : Bor X.Denot) → b.now ≡ entry_key there → F.F-pre X Y Z U h dh e de p dp o dt q dq g dg dd f df du a.1.0 b))))
    (lasts opens κs₁ (a.0, tt)) (Opened.met 𝓤 𝓛 𝓜 𝓡 (code.calls-wasmi_ordered::map::entry::Entry::into_inner 𝓡.env wired) X Y Z LX LY LZ h dh e de p dp o dt q dq g dg dd mh me mp mo mq mg md ((κs₁, shares 4 qs, bounds, (a.0, tt), (us.0 ∷ [], tt)), tt))
    (fsep ((param 3 U).own_val a.1.0 (us.1.0 ∷ [])) ftrue) 2 κs.0 (λ t. UnwrapsOrElse (entry_value there) (FnOnceReturnsAt f a.1.0 (entry_key there)) t.now) (lasts calls κs (there, a.1)) !
    good.0 good.0 good.1.0 good.1.0 (λ v ok. ok) (λ k o. ((tt, tt), (tt, (record { fits = lit< tt }, (tt, tt)))))
    (λ v. Called.met 𝓤 𝓛 𝓜 𝓡 (code.calls-std::collections::btree_map::Entry::or_insert_with_key 𝓡.env wired) X Y Z U LX LY LZ LU o dt e de p dp q dq g dg dd f df du mo me mp mq mg md mf mu ((κs, qs, bounds, (there, a.1), (v ∷ [], (us.1.0 ∷ [], tt))), tt))
    (λ u t. leaves 𝓛 call stayed c y (ok_val u) (Ok t) (rest ((P.Here ℓ).exit no) a.0, (tt, tt)) (tt, (tt, tt))))
