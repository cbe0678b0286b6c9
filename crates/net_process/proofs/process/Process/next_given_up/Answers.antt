use Rattle.std.proofs.Common.{◌≡◌, ◌<◌, ℕ, List, length, position, Some, ap, sym, ◌∙◌, subst}
use Rattle.remote_lines.specs.declared.line.LineEnd.{LineEnd}
use Rattle.remote_lines.specs.declared.line.RemoteLine.{RemoteLine}
use Rattle.net_process.specs.Remote.{given_up_at, is_given_up}
use Rattle.net_process.proofs.Stepping.{event_given_up, once_given_up}
use Rattle.net_process.proofs.process.Process.next_given_up.Goals as goal

pub returns-clause-event : goal.returns-clause-event
returns-clause-event g c =
    event_given_up c.args.self.now _ c.self.view_is c.in_ok-place.place c.index.result.now
    (ap (λ (xs : List RemoteLine). position is_given_up xs) (sym c.as_slice.ensures.value) ∙ sym c.first_given_up.ensures.first
    ∙ c.in_ok-place.was)
    (subst (λ (xs : List RemoteLine). c.in_ok-place.place < length xs) c.as_slice.ensures.value c.in_ok-place.ensures.within)
    c.index.ensures c.gives_up.result (c.gives_up.ensures ∙ ap (λ (end : LineEnd). given_up_at end) c.end-end.ensures)

pub returns-clause-after : goal.returns-clause-after
returns-clause-after g c =
    once_given_up c.args.self.now _ c.self.view_is c.in_ok-place.place c.index_mut.result.now
    (ap (λ (xs : List RemoteLine). position is_given_up xs) (sym c.as_slice.ensures.value) ∙ sym c.first_given_up.ensures.first
    ∙ c.in_ok-place.was)
    (subst (λ (xs : List RemoteLine). c.in_ok-place.place < length xs) c.as_slice.ensures.value c.in_ok-place.ensures.within)
    c.index_mut.ensures.value c.gave_up.new.self c.gave_up.ensures
