use Rattle.std.proofs.Common.{rules, ◌≡◌, ◌++◌, [], ◌∷◌, List, ap, sym, ◌∙◌, refl, append_assoc}
use Rattle.std.proofs.lemmas.List.{append-nil}
use Rattle.std.proofs.lemmas.Result.{err_from_is_err_and}
use Rattle.net_files.specs.Commands.{CommandView, view_of}
use Rattle.net_player.specs.InTurn.InTurn.{nothing}
use Rattle.net_player.specs.InTurn.StopsInTurn.{here}
use Rattle.net_player.specs.Stopping.PlayStops.{in_command, at_the_end}
use Rattle.net_player.proofs.Parts.{stops_behind}
use Rattle.net_player.proofs.Turns.{in_turn_append, in_turn_one}
use Rattle.octet_streams.proofs.Written.{writes_append, writes_nothing, writes_then}
use Rattle.net_player.proofs.player.play.Goals as goal

-- the commands that are done, one more, and those that are left
one_more : (all before rest : List CommandView) (next : List CommandView) (c : CommandView) → all ≡ before ++ rest → rest ≡ c ∷ next
    → all ≡ (before ++ c ∷ []) ++ next
one_more all before rest next c split is =
    split ∙ ap (λ xs. before ++ xs) is ∙ sym (append_assoc before (c ∷ []) next)

-- nothing is left
all_done : (all before rest : List CommandView) → all ≡ before ++ rest → rest ≡ [] → all ≡ before
all_done all before rest split none = split ∙ ap (λ xs. before ++ xs) none ∙ append-nil before

pub loop-command-init : goal.loop-command-init
loop-command-init g c = record {
  can = tt;
  finite = tt;
  done = ([], search rules, writes_nothing _ nothing);
  names = c.as_slice.ensures.value;
  lines = refl;
}

pub loop-command-preserved : goal.loop-command-preserved
loop-command-preserved g c =
    let (before, split, done) = c.loop-command.invariant.done in
    let one = view_of c.in-Some.command in
    record {
      can = tt;
      finite = tt;
      done = (
        before ++ one ∷ [],
        one_more _ before _ c.next.new.self one split c.in-Some.ensures.steps,
        writes_append _ _ _ (λ a b done does. in_turn_append done (one ∷ []) b _ (in_turn_one does)) done
            (rw (c.loop-command.invariant.names, c.loop-command.invariant.lines) at c.in_ok-player.ensures.writes),
      );
      names = c.loop-command.invariant.names;
      lines = c.loop-command.invariant.lines;
    }

pub returns-clause-writes : goal.returns-clause-writes
returns-clause-writes g c =
    let (before, split, done) = c.loop-command.invariant.done in
    let all = all_done _ before _ split c.in-None.ensures.steps.0 in
    writes_then c.end_line.result.now (λ told done. record {
      told = told;
      at_rest = c.at_rest.result;
      rest = c.at_rest.ensures.exact;
      traces = c.loop-command.player.traces;
      commands = rw all done;
      whole = ap (λ w. told ++ w) c.end_line.ensures;
    }) done c.in_ok-write.ensures.writes

pub returns-in_err-player-clause-stops : goal.returns-in_err-player-clause-stops
returns-in_err-player-clause-stops g c =
    let p = err_from_is_err_and c.from_residual.result c.from_residual.ensures.1 in
    let (before, split, done) = c.loop-command.invariant.done in
    let one = view_of c.in-Some.command in
    let whole = split ∙ ap (λ xs. before ++ xs) c.in-Some.ensures.steps in
    rw (p.1, p.2) (writes_append _ _ _
    (λ told part done stops. in_command (rw whole (stops_behind done (one ∷ c.next.new.self) part (here stops))))
    done
    (rw (c.loop-command.invariant.names, c.loop-command.invariant.lines) at c.in_err-player.ensures.stops))

pub returns-in_err-write-clause-stops : goal.returns-in_err-write-clause-stops
returns-in_err-write-clause-stops g c =
    let p = err_from_is_err_and c.from_residual-in_err-write.result c.from_residual-in_err-write.ensures.1 in
    let (before, split, done) = c.loop-command.invariant.done in
    let all = all_done _ before _ split c.in-None.ensures.steps.0 in
    rw (p.1, p.2) (writes_append _ _ _
    (λ told part done stops. at_the_end {t = c.loop-command.net} {traces = c.loop-command.player.traces} {told = told} (rw all done) c.in_err-write.ensures.fault stops)
    done
    (rw (c.end_line.ensures, c.at_rest.ensures.exact) at c.in_err-write.ensures.refused))
