use Rattle.std.proofs.Common.{[], ◌∷◌, ap, ap₂, sym, ◌∙◌, length, List, ℕ}
use Rattle.std.proofs.lemmas.List.{append-nil}
use Rattle.std.specs.Prelude.{slice_get}
use Rattle.switch_lines.specs.Lines.{SwitchLine, SwitchChannel}
use Rattle.switch_lines.specs.Relay.{relayed_from, legs_at, places_of}
use Rattle.switch_lines.specs.Alone.{relayed_alone}
use Rattle.switch_lines.proofs.Ending.{relinks_no_more, listed_no_more}
use Rattle.switch_lines.proofs.lines.Lines.relink_and_relay.Goals as goal

pub returns-in-None : goal.returns-in-None
returns-in-None c =
    let ls = c.args.self.now in
    let n = c.args.line in
    let routes = c.args.routes.now in
    let none = sym c.to_relink.ensures ∙ c.in-None.is in
    c.relay_line.ensures
    ∙ ap (λ (ps : List SwitchChannel). relayed_from ps ls) (sym (append-nil (legs_at (places_of n (slice_get ls n)) ls)))
    ∙ ap₂ (λ (ns : List ℕ) (xs : List SwitchLine). relayed_alone ns xs)
    (listed_no_more (length ls) routes ls (n ∷ []) none) (relinks_no_more (length ls) routes ls none)
