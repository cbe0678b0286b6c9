-- A run with losses, after which all that was offered arrives: computed.
use Rattle.std.specs.Prelude.{◌≡◌, false, List, [], ◌∷◌, ◌++◌}
use Rattle.std.proofs.Common.{refl, sym, ap, ◌∙◌, arith}
use Rattle.link_timers.specs.declared.role.Role.{Role}
use Rattle.link_timers.specs.declared.role.Role.TheVariants.{Dte, Dce}
use Rattle.lapb.specs.declared.phase.Phase.{Phase}
use Rattle.lapb.specs.Machine.{Octets}
use Rattle.lapb.specs.World.{World, Event, Offer, Lose, Relink, Settle, run, opening, widest, Carries}
use Rattle.arrival_laws.specs.Arriving.{Turn, Comes, RunsOut, turn, turns, AllFlow, MayRecover, MayGoOn, AreStarted, IsCalm}
use Rattle.arrival_laws.proofs.Arrived.{turns_lossless}

abbrev comes : List Role → List Event
comes [] = []
comes (to ∷ tos) = turn (Comes to) ++ comes tos

-- the line is set up; each end offers a packet, and of the DTE's frames the I frame is lost
abbrev lossy : Octets → Octets → List Event
lossy p q =
    (Relink Dte [] ∷ Settle Dte [] ∷ Relink Dce [] ∷ Settle Dce [] ∷ []) ++ comes (Dce ∷ Dte ∷ Dte ∷ Dce ∷ Dte ∷ []) ++
    (Offer Dte p ∷ Settle Dte [] ∷ Lose Dce ∷ Offer Dce q ∷ Settle Dce [] ∷ Lose Dte ∷ [])

-- T1 of the DTE, deliveries, T1 of the DCE, deliveries
abbrev recovers : List Turn
recovers =
    RunsOut Dte ∷ Comes Dce ∷ Comes Dte ∷ RunsOut Dce ∷ Comes Dce ∷ Comes Dte ∷ Comes Dte ∷ Comes Dce ∷ Comes Dte ∷
    Comes Dce ∷ []

turns_flow : (ts : List Turn) → AllFlow (turns ts)
turns_flow [] = tt
turns_flow (Comes to ∷ ts) = (refl, (refl, turns_flow ts))
turns_flow (RunsOut at ∷ ts) = (refl, (refl, turns_flow ts))

abbrev missing : Octets → Octets → World
missing p q = run (lossy p q) (opening false widest widest)

abbrev done : Octets → Octets → World
done p q = run (turns recovers) (missing p q)

missing-started : (p q : Octets) → AreStarted (missing p q)
missing-started p q = record { dte = λ e. cc; dce = λ e. absurd (cc) }

missing-act : (p q : Octets) → (missing p q).act ≡ 1
missing-act p q = refl

missing-own : (p q : Octets) → (missing p q).own ≡ 1
missing-own p q = refl

missing-session : (p q : Octets) → (missing p q).session ≡ 1
missing-session p q = refl

missing-dte_polls : (p q : Octets) → (missing p q).dte.polls ≡ 0
missing-dte_polls p q = refl

missing-dce_polls : (p q : Octets) → (missing p q).dce.polls ≡ 0
missing-dce_polls p q = refl

missing-n2 : (p q : Octets) → ((missing p q).dte.n2 ≡ 3) × ((missing p q).dce.n2 ≡ 3)
missing-n2 p q = (refl, refl)

missing-may : (p q : Octets) → MayGoOn (missing p q)
missing-may p q = record {
  are_up = record {
    dte = refl;
    dce = refl;
    own = missing-own p q ∙ sym (missing-act p q);
    session = missing-session p q ∙ sym (missing-act p q);
  };
  dte = let e = missing-dte_polls p q in let f = (missing-n2 p q).0 in omega (arith, e, f);
  dce = let e = missing-dce_polls p q in let f = (missing-n2 p q).1 in omega (arith, e, f);
  up = tt;
  down = tt;
}

done-act : (p q : Octets) → (done p q).act ≡ 1
done-act p q = refl

done-own : (p q : Octets) → (done p q).own ≡ 1
done-own p q = refl

done-session : (p q : Octets) → (done p q).session ≡ 1
done-session p q = refl

done-up : (p q : Octets) → ((done p q).dte.phase ≡ Phase.Up) × ((done p q).dce.phase ≡ Phase.Up)
done-up p q = (refl, refl)

done-at_dce : (p q : Octets) → (done p q).dce_accepted 1 ≡ p ∷ []
done-at_dce p q = refl

done-at_dte : (p q : Octets) → (done p q).dte_accepted 1 ≡ q ∷ []
done-at_dte p q = refl

done-calm : (p q : Octets) → IsCalm (done p q)
done-calm p q = record { up = refl; down = refl; dte = refl; dce = refl }

done-carries : (p q : Octets) → Carries p q (done p q)
done-carries p q = record {
  are_up = record {
    dte = (done-up p q).0;
    dce = (done-up p q).1;
    own = done-own p q ∙ sym (done-act p q);
    session = done-session p q ∙ sym (done-act p q);
  };
  at_dce = ap (done p q).dce_accepted (done-act p q) ∙ done-at_dce p q;
  at_dte = ap (done p q).dte_accepted (done-act p q) ∙ done-at_dte p q;
}

missing-none : (p q : Octets) → (missing p q).dce_accepted 1 ≡ []
missing-none p q = refl

pub may_recover : MayRecover
may_recover p q = (
  lossy p q,
  turns recovers,
  record {
    started = missing-started p q;
    may_go_on = missing-may p q;
    missing = missing-none p q;
    all_lossless = turns_lossless recovers;
    all_flow = turns_flow recovers;
    dte_once = refl;
    dce_once = refl;
    calm = done-calm p q;
    carries = done-carries p q;
  },
)
