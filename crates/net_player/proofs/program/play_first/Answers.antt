use Rattle.std.proofs.Common.{refl, inl, inr}
use Rattle.std.proofs.lemmas.Result.{err_from_is_err_and}
use Rattle.net_player.specs.Programs.TextsFail.{no_memory, unread, no_network, bad_script, unplayed}
use Rattle.net_player.proofs.Parts.{if_err_as}
use Rattle.octet_streams.proofs.Written.{on_ok_as}
use Rattle.net_player.proofs.program.play_first.Goals as goal

pub returns-in_err-config-clause-failed : goal.returns-in_err-config-clause-failed
returns-in_err-config-clause-failed g c =
    let p = err_from_is_err_and c.from_residual.result c.from_residual.ensures.1 in
    rw (p.1, p.2) (elim c.in_err-config.ensures.spelled [
      | inl is ↦ rw is (no_memory refl)
      | inr none ↦ rw none.0 (no_network _ refl none.1 refl)
    ])

pub returns-in_err-text-clause-failed : goal.returns-in_err-text-clause-failed
returns-in_err-text-clause-failed g c =
    let p = err_from_is_err_and c.from_residual-in_err-text.result c.from_residual-in_err-text.ensures.1 in
    rw (p.1, p.2) (elim c.in_err-text.ensures.faults [
      | inl is ↦ rw is (no_memory refl)
      | inr is ↦ rw is (unread refl)
    ])

pub returns-in_err-script-clause-failed : goal.returns-in_err-script-clause-failed
returns-in_err-script-clause-failed g c =
    let p = err_from_is_err_and c.from_residual-in_err-script.result c.from_residual-in_err-script.ensures.1 in
    rw (p.1, p.2) (bad_script _ c.in_ok-config.config _ refl c.in_ok-config.ensures.spelled c.in_ok-text.ensures.left
    (rw c.as_slice.ensures.value at c.in_err-script.ensures.fault) refl)

pub returns-clause-played : goal.returns-clause-played
returns-clause-played g c =
    on_ok_as c.play_in_memory.result (λ plays. record {
      net = _;
      is_net = refl;
      config = c.in_ok-config.config;
      network = c.in_ok-config.ensures.spelled;
      text = _;
      is_text = c.in_ok-text.ensures.left;
      script = c.in_ok-script.script;
      read = rw c.as_slice.ensures.value at c.in_ok-script.ensures.script;
      plays = plays;
    }) c.play_in_memory.ensures.played

pub returns-clause-failed : goal.returns-clause-failed
returns-clause-failed g c =
    if_err_as c.play_in_memory.result (λ fault fails. unplayed _ c.in_ok-config.config _ c.in_ok-script.script refl
    c.in_ok-config.ensures.spelled c.in_ok-text.ensures.left (rw c.as_slice.ensures.value at c.in_ok-script.ensures.script) fails)
    c.play_in_memory.ensures.failed
