use Rattle.std.proofs.Common.{◌≡◌, position, Some, None, String, map, string_bytes, sym, ap, ◌∙◌, refl, inr}
use Rattle.std.specs.Option.{option_map}
use Rattle.std.specs.Prelude.{Option}
use Rattle.std.proofs.lemmas.Result.{IfOk-weaker}
use Rattle.std.specs.Str.{bytes_eq}
use Rattle.wasmi_interner.specs.Interner.{symbol_of}
use Rattle.wasmi_interner.proofs.Symbols.{symbol_of-Some}
use Rattle.wasmi_collections.proofs.DedupReads.{items_stay, values_stay, views_stay}
use Rattle.wasmi_collections.proofs.Dedup.{position-by_view}
use Rattle.std.specs.String.{string_eq}
use Rattle.wasmi_collections.proofs.arena.dedup.by_text.DedupArena+Key+String+B+A.alloc_str.Goals as goal

none_from : {X Y : Type 0} (f : X → Y) (found : Option X) → None ≡ option_map f found → found ≡ None
none_from f None is = refl
none_from f (Some x) is = cc

-- a value with the text is new where no text of a value handed in is this
pub hand_in-requires-clause-absent : goal.hand_in-requires-clause-absent
hand_in-requires-clause-absent g c =
    let handed = c.args.self.now.handed in
    position-by_view bytes_eq string_bytes c.in_ok-value.value handed
    ∙ (ap (symbol_of (map string_bytes handed)) c.in_ok-value.ensures.ok ∙ none_from g.Key.ArenaKey.keys.key (symbol_of (map string_bytes handed) c.args.text.now) c.in_default.ensures.value)

pub returns-clause-new : goal.returns-clause-new
returns-clause-new g c = λ absent.
    IfOk-weaker c.hand_in.result _ _ (λ key adds. (c.in_ok-value.value, c.in_ok-value.ensures.ok, inr adds)) c.hand_in.ensures.ok

pub returns-clause-known : goal.returns-clause-known
returns-clause-known g c =
    let handed = c.hand_in.new.self.handed in
    IfOk-weaker c.hand_in.result (λ key. position (string_eq c.in_ok-value.value) handed ≡ Some (g.Key.ArenaKey.keys.number key)) _ (λ key at. ap (symbol_of (map string_bytes handed)) (sym c.in_ok-value.ensures.ok) ∙ (sym (position-by_view bytes_eq string_bytes c.in_ok-value.value handed) ∙ at)) c.hand_in.ensures.known

pub returns-clause-reads : goal.returns-clause-reads
returns-clause-reads g c =
    IfOk-weaker c.hand_in.result _ _ (λ key at. symbol_of-Some c.args.text.now (map string_bytes c.hand_in.new.self.handed) (g.Key.ArenaKey.keys.number key) at) (returns-clause-known g c)

-- a clone of a string has its bytes
abbrev same_bytes : {Z : Type 0} → String Z → String Z → Type 0
same_bytes one clone = string_bytes clone ≡ string_bytes one

pub returns-clause-earlier : goal.returns-clause-earlier
returns-clause-earlier g c =
    items_stay g.Key.ArenaKey.keys string_eq same_bytes c.args.self.now c.hand_in.new.self c.in_ok-value.value c.hand_in.result c.hand_in.ensures.ok c.hand_in.ensures.err

pub returns-clause-earlier_values : goal.returns-clause-earlier_values
returns-clause-earlier_values g c =
    values_stay g.Key.ArenaKey.keys string_eq same_bytes c.args.self.now c.hand_in.new.self c.in_ok-value.value c.hand_in.result c.hand_in.ensures.ok c.hand_in.ensures.err

pub returns-clause-earlier_texts : goal.returns-clause-earlier_texts
returns-clause-earlier_texts g c =
    views_stay g.Key.ArenaKey.keys string_eq same_bytes c.args.self.now c.hand_in.new.self c.in_ok-value.value string_bytes c.hand_in.result c.hand_in.ensures.ok c.hand_in.ensures.err
