-- What an event makes of a state that some events lead to is such a state, and what is known of all of them.
use Rattle.std.specs.Prelude.{◌≡◌, ◌≤◌, Bool, List, [], ◌∷◌, ◌++◌}
use Rattle.std.proofs.Common.{refl, sym, ap, ◌∙◌, subst}
use Rattle.lapb.specs.declared.phase.Phase.{Phase}
use Rattle.lapb.specs.declared.link.LinkParams.{LinkParams}
use Rattle.lapb.specs.World.{World, Event, happens, run, opening, InOrder}
use Rattle.lapb.specs.World.{BeginsFresh}
use Rattle.lapb.specs.Reach.{Reached}
use Rattle.lapb.proofs.Inv.{Inv}
use Rattle.lapb.proofs.LinkLaw.{always-inv, inv-in_order, inv-begins_fresh}

run-snoc : (events : List Event) (event : Event) (w : World) → run (events ++ event ∷ []) w ≡ happens (run events w)
    event
run-snoc [] event w = refl
run-snoc (e ∷ events) event w = run-snoc events event (happens w e)

pub reached_opening : (standing : Bool) (dte dce : LinkParams) → dte.k ≤ 7 → dce.k ≤ 7 → Reached (opening standing dte
    dce)
reached_opening standing dte dce few few' =
    record {
      standing = standing;
      dte = dte;
      dce = dce;
      dte_window = few;
      dce_window = few';
      events = [];
      leads = refl;
    }

pub reached_happens : (w : World) (event : Event) → Reached w → Reached (happens w event)
reached_happens w event r = record {
  standing = r.standing;
  dte = r.dte;
  dce = r.dce;
  dte_window = r.dte_window;
  dce_window = r.dce_window;
  events = r.events ++ event ∷ [];
  leads = run-snoc r.events event (opening r.standing r.dte r.dce) ∙ ap (λ v. happens v event) r.leads;
}

-- ---- what is known of every such state

pub reached_inv : (w : World) → Reached w → Inv w
reached_inv w r = subst Inv r.leads (always-inv r.standing r.dte r.dce r.dte_window r.dce_window r.events)

pub reached_in_order : (w : World) → Reached w → InOrder w
reached_in_order w r = inv-in_order w (reached_inv w r)

pub reached_begins_fresh : (w : World) → Reached w → BeginsFresh w
reached_begins_fresh w r = inv-begins_fresh w (reached_inv w r)

-- a DTE that is up stands in its last act, and the DCE stands in it too
pub reached_up : (w : World) → Reached w → w.dte.phase ≡ Phase.Up → (w.own ≡ w.act) × (w.session ≡ w.act)
reached_up w r up = let j = (reached_inv w r).up_in up in (j.own_is ∙ sym j.act_is, sym j.act_is)
