use Rattle.std.proofs.Common.{◌≡◌, false, [], ◌∷◌, sym, ◌∙◌, refl}
use Rattle.std.specs.Str.{bytes_eq}
use Rattle.std.proofs.lemmas.Bool.{false≢true}
use Rattle.wasmi_script_lib.proofs.LineLemmas.{bytes_eq-no_cut}
use Rattle.wasmi_script_lib.proofs.line.Command.parse.Goals as goal

-- a line that can't be cut after two bytes asks for nothing
pub returns-in_err-head : goal.returns-in_err-head
returns-in_err-head c =
    let line = c.args.line.now in
    let no_head = λ (letter : _). bytes_eq-no_cut line letter c.utf8.line (λ cuts. false≢true (c.in_err-head.ensures.variant.1 cuts)) in
    let not_n : bytes_eq line (110 ∷ []) ≡ false = sym c.eq.ensures ∙ c.if-eq.false in
    rw (c.from_residual.ensures, not_n, no_head 97, no_head 103, no_head 112, no_head 100, no_head 105, no_head 114, no_head 101, no_head 118, no_head 107, no_head 113) refl
