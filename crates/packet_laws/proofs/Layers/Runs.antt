-- The clauses of the law, for one call and for a list of calls, and a run that meets what they ask for.
use Rattle.std.proofs.Common.{ℕ, ◌<◌, Bool, true, List, [], ◌∷◌, refl, sym, subst, arith}
use Rattle.link_timers.specs.declared.role.Role.{Role}
use Rattle.link_timers.specs.declared.role.Role.TheVariants.{Dte}
use Rattle.data_transfer.specs.Flow.{modulus, modulo_8}
use Rattle.data_transfer.specs.declared.flow.Flow.{Flow}
use Rattle.data_transfer.proofs.Windows.{window_below}
use Rattle.packet_layer.specs.Params.{AreParams}
use Rattle.packet_laws.specs.Layers.Acts.{World, Act, start, after, run}
use Rattle.packet_laws.specs.Layers.Counts.{AllCounts, AllAgree}
use Rattle.packet_laws.specs.Layers.NumbersLaw.{CallsLaw, NamedLaw, Always, IsNextNamed, ResetsInTransfer}
use Rattle.packet_laws.specs.Layers.LayerRun.{sends, covers, takes, errs, begins, sent, covered, taken, reset, RunLaw}
use Rattle.packet_laws.proofs.Layers.Layers.{Follows, made_agrees, act_follows, gives}

-- a layer whose window is below the modulus agrees with its epochs
pub record Fits (w : World) : Type 0 where
  pub flow : w.layer.flow.window < modulus w.layer.flow.numbering
  pub agrees : AllAgree w

follows : (w : World) → AllAgree w → Follows w.layer.flow w.layer w.epochs
follows w k = record { window_is = refl; counts = k }

pub calls : CallsLaw
calls w act le k =
    let f = act_follows act w.layer.flow w.layer w.epochs le (follows w k) in
    subst (λ (f : Flow). AllCounts f (after act w).layer.channels (after act w).layer.owed (after act w).epochs) (sym f.window_is) f.counts

pub named : NamedLaw
named w le k = (gives w.layer.flow w.layer w.epochs le (follows w k)).1

after_fits : (act : Act) (w : World) → Fits w → Fits (after act w)
after_fits act w f =
    let g = act_follows act w.layer.flow w.layer w.epochs f.flow (follows w f.agrees) in
    record { flow = subst (λ (v : Flow). v.window < modulus v.numbering) (sym g.window_is) f.flow; agrees = calls w act f.flow f.agrees }

pub run_fits : (acts : List Act) (w : World) → Fits w → Fits (run acts w)
run_fits [] w f = f
run_fits (act ∷ acts) w f = run_fits acts (after act w) (after_fits act w f)

start_fits : (role : Role) (channels : ℕ) (flow : Flow) (standing : Bool) → flow.window < modulus flow.numbering → Fits (start role channels flow standing)
start_fits role channels flow standing le = record { flow = le; agrees = made_agrees role channels flow standing }

always_fits : Always Fits
always_fits role channels flow standing acts params = run_fits acts (start role channels flow standing) (start_fits role channels flow standing (window_below _ params.flow_is))

pub always : Always AllAgree
always role channels flow standing acts params = (always_fits role channels flow standing acts params).agrees

pub always_named : Always IsNextNamed
always_named role channels flow standing acts params =
    let f = always_fits role channels flow standing acts params in
    named (run acts (start role channels flow standing)) f.flow f.agrees

pub resets : Always ResetsInTransfer
resets role channels flow standing acts params c ch found out =
    (((always_fits role channels flow standing acts params).agrees.each c ch found).unused out).not_resetting

-- ---- a run

two : AreParams 1 (modulo_8 2)
two = record { channels_least = omega arith; channels_most = omega arith; flow_is = record { window_least = omega arith; window_most = omega arith; size_is = refl } }

begun_fits : Fits (run begins reset)
begun_fits =
    run_fits begins reset
    (run_fits errs taken (run_fits takes covered (run_fits covers sent (run_fits sends (start Dte 1 (modulo_8 2) true) (start_fits Dte 1 (modulo_8 2) true (window_below _ two.flow_is))))))

pub run_holds : RunLaw
run_holds = record {
  parameters = two;
  second_place = refl;
  one_covered = refl;
  all_covered = refl;
  is_taken = refl;
  one_released = refl;
  covered_past_127 = refl;
  place_past_127 = refl;
  released_past_127 = refl;
  answer_past_127 = refl;
  anew = refl;
  first_place = refl;
  agrees = begun_fits.agrees;
}
