-- Where echo is off nothing is shown.
use Rattle.std.proofs.Common.{◌≡◌, ◌∙◌, ◌≤◌, [], length, false, sym, ap, arith, List, ℕ}
use Rattle.std.proofs.lemmas.Bool.{cond-false}
use Rattle.x3_params.specs.Settings.{has_echo}
use Rattle.pad_editing.specs.Echoes.{echo_of_added}
use Rattle.pad_terminal.specs.Output.{Output, with_echo}
use Rattle.pad_terminal.proofs.Echo.{echo_none}
use Rattle.pad_terminal.proofs.output.Output.echo_added.Goals as goal

pub returns-else-has_echo : goal.returns-else-has_echo
returns-else-has_echo c =
    let params : List ℕ = c.args.params.now in
    let now : Output = c.args.self.now in
    let off : has_echo params ≡ false = sym c.has_echo.ensures ∙ c.if-has_echo.false in
    let nothing : echo_of_added params c.args.octet ≡ [] = cond-false _ _ _ off in
    let same : length c.self.inside.text.items ≡ length now.text = ap (λ (o : Output). length o.text) c.self.view_is in
    let within : length now.text ≤ 1024 = omega (arith, same, c.self.invariant.within) in
    sym (ap (λ (xs : List ℕ). with_echo xs params now) nothing ∙ echo_none params now within)
