use Rattle.std.proofs.Common.{◌≡◌, ◌∙◌, [], ap, map, length, List, ℕ}
use Rattle.packet_end.specs.PacketEnd.{settled}
use Rattle.switch_lines.specs.Lines.{SwitchLine}
use Rattle.switch_lines.specs.Switch.{to_relink, all_relinked, lines_first, with_end}
use Rattle.switch_lines.specs.Alone.{offered_alone, relayed_alone}
use Rattle.switch_lines.proofs.Ending.{offered_first}
use Rattle.switch_lines.proofs.Relinking.{none_to_relink}
use Rattle.switch_lines.proofs.lines.Lines.finish.Goals as goal

-- what the lines are before they settle
before : (lines : List ℕ) (ls ms ks : List SwitchLine) → ks ≡ offered_alone [] ms → ms ≡ relayed_alone lines ls →
    ks ≡ offered_alone lines ls
before lines ls ms ks last first =
    last ∙ ap (λ (xs : List SwitchLine). offered_alone [] xs) first ∙ offered_first lines ls

pub settle-requires-clause-relinked : goal.settle-requires-clause-relinked
settle-requires-clause-relinked c =
    let routes = c.args.routes.now in
    let lines = lines_first c.args.line routes c.args.self.now in
    let ls = all_relinked (length c.args.self.now) routes c.args.self.now in
    ap (λ (xs : List SwitchLine). to_relink xs)
    (before lines ls c.relink_and_relay.new.self c.offer_and_relay-all_offered.new.self
    c.offer_and_relay-all_offered.ensures.lines c.relink_and_relay.ensures)
    ∙ none_to_relink routes lines c.args.self.now

pub returns : goal.returns
returns c =
    let routes = c.args.routes.now in
    let lines = lines_first c.args.line routes c.args.self.now in
    let ls = all_relinked (length c.args.self.now) routes c.args.self.now in
    c.settle.ensures
    ∙ ap (λ (xs : List SwitchLine). map (with_end settled) xs)
    (before lines ls c.relink_and_relay.new.self c.offer_and_relay-all_offered.new.self
    c.offer_and_relay-all_offered.ensures.lines c.relink_and_relay.ensures)
