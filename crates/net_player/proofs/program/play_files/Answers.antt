use Rattle.std.proofs.Common.{refl, inl, inr}
use Rattle.std.proofs.lemmas.Result.{err_from_is_err_and}
use Rattle.net_player.specs.Programs.TextsFail.{no_memory, unread, no_text, no_network, bad_script, unplayed}
use Rattle.net_player.proofs.Parts.{if_err_as}
use Rattle.octet_streams.proofs.Written.{on_ok_as}
use Rattle.net_player.proofs.program.play_files.Goals as goal

pub returns-in_err-text-clause-failed : goal.returns-in_err-text-clause-failed
returns-in_err-text-clause-failed g c =
    let p = err_from_is_err_and c.from_residual.result c.from_residual.ensures.1 in
    rw (p.1, p.2) (elim c.in_err-text.ensures.faults [
      | inl is ↦ rw is (no_memory refl)
      | inr is ↦ rw is (unread refl)
    ])

pub returns-in_err-text_of-clause-failed : goal.returns-in_err-text_of-clause-failed
returns-in_err-text_of-clause-failed g c =
    let p = err_from_is_err_and c.from_residual-in_err-text_of.result c.from_residual-in_err-text_of.ensures.1 in
    rw (p.1, p.2, c.in_err-text_of.ensures.0) (no_text c.as_slice.result.now
    (rw (← c.as_slice.ensures.value) at c.in_ok-text.ensures.size)
    c.in_err-text_of.ensures.1 refl)

pub returns-in_err-config-clause-failed : goal.returns-in_err-config-clause-failed
returns-in_err-config-clause-failed g c =
    let p = err_from_is_err_and c.from_residual-in_err-config.result c.from_residual-in_err-config.ensures.1 in
    rw (p.1, p.2) (elim c.in_err-config.ensures.spelled [
      | inl is ↦ rw is (no_memory refl)
      | inr none ↦ rw none.0 (no_network c.in_ok-text_of.field-0.now
          (rw (← c.as_slice.ensures.value, ← c.in_ok-text_of.ensures) at c.in_ok-text.ensures.size) none.1 refl)
    ])

pub returns-in_err-text-2-clause-failed : goal.returns-in_err-text-2-clause-failed
returns-in_err-text-2-clause-failed g c =
    let p = err_from_is_err_and c.from_residual-in_err-text-2.result c.from_residual-in_err-text-2.ensures.1 in
    rw (p.1, p.2) (elim c.in_err-text-2.ensures.faults [
      | inl is ↦ rw is (no_memory refl)
      | inr is ↦ rw is (unread refl)
    ])

pub returns-in_err-script-clause-failed : goal.returns-in_err-script-clause-failed
returns-in_err-script-clause-failed g c =
    let p = err_from_is_err_and c.from_residual-in_err-script.result c.from_residual-in_err-script.ensures.1 in
    rw (p.1, p.2) (bad_script c.in_ok-text_of.field-0.now c.in_ok-config.config c.as_slice-2.result.now
    (rw (← c.as_slice.ensures.value, ← c.in_ok-text_of.ensures) at c.in_ok-text.ensures.size)
    c.in_ok-config.ensures.spelled
    (rw (← c.as_slice-2.ensures.value) at c.in_ok-text-2.ensures.size) c.in_err-script.ensures.fault refl)

pub returns-clause-played : goal.returns-clause-played
returns-clause-played g c =
    on_ok_as c.play_over.result (λ plays. record {
      net = c.in_ok-text_of.field-0.now;
      is_net = rw (← c.as_slice.ensures.value, ← c.in_ok-text_of.ensures) at c.in_ok-text.ensures.size;
      config = c.in_ok-config.config;
      network = c.in_ok-config.ensures.spelled;
      text = c.as_slice-2.result.now;
      is_text = rw (← c.as_slice-2.ensures.value) at c.in_ok-text-2.ensures.size;
      script = c.in_ok-script.script;
      read = c.in_ok-script.ensures.script;
      plays = plays;
    }) c.play_over.ensures.played

pub returns-clause-failed : goal.returns-clause-failed
returns-clause-failed g c =
    if_err_as c.play_over.result (λ fault fails. unplayed c.in_ok-text_of.field-0.now c.in_ok-config.config c.as_slice-2.result.now
    c.in_ok-script.script (rw (← c.as_slice.ensures.value, ← c.in_ok-text_of.ensures) at c.in_ok-text.ensures.size)
    c.in_ok-config.ensures.spelled (rw (← c.as_slice-2.ensures.value) at c.in_ok-text-2.ensures.size)
    c.in_ok-script.ensures.script fails) c.play_over.ensures.failed
