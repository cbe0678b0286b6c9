-- A plain octet is shown as it stands.
use Rattle.std.proofs.Common.{◌≡◌, true, not, sym, ap, ◌∙◌}
use Rattle.std.proofs.lemmas.Bool.{OnTrue_from, and_from}
use Rattle.pad_editing.specs.Shown.{is_graphic, ends_line}
use Rattle.pad_editing.proofs.LaidOut.{shown_plain}
use Rattle.pad_editing.proofs.display.Display.is_plain.Goals as goal

pub returns-then-is_graphic-clause-shown : goal.returns-then-is_graphic-clause-shown
returns-then-is_graphic-clause-shown c =
    OnTrue_from (not c.ends_line.result) _ (λ inside. let graphic : is_graphic c.args.octet ≡ true = cc in
    let within : not (ends_line c.args.octet c.args.params.now c.args.column) ≡ true = ap not (sym c.ends_line.ensures) ∙ inside in
    shown_plain c.args.octet c.args.params.now c.args.column (and_from _ _ graphic within))
