-- An event that is handled in a process is one of the network, with the same answer.
use Rattle.std.proofs.Common.{◌≡◌, ◌≢◌, ℕ, Bool, true, false, List, [], Option, Some, None, Result, Ok, Err, refl, sym, ap, ap₂, ◌∙◌, subst, inl, inr}
use Rattle.std.specs.Prelude.{◌⊎◌, slice_get, is_some}
use Rattle.std.proofs.lemmas.Option.{same_Some}
use Rattle.link_timers.specs.declared.role.Role.{Role}
use Rattle.link_timers.specs.declared.role.Role.TheVariants.{Dte, Dce}
use Rattle.link_timers.specs.declared.timers.TimerId.{TimerId}
use Rattle.packet_host.specs.declared.request.HostRequest.{HostRequest}
use Rattle.packet_host.specs.declared.request.HostRequest.TheVariants.{Answer as Accept, Refuse, Say, Interrupt, Reset, Clear, Stop, Go}
use Rattle.frame_lines.specs.declared.line.Direction.{Direction}
use Rattle.frame_lines.specs.Lines.{Flights, LineService, lossless_service, flying, without_first}
use Rattle.net_events.specs.AtSwitch.{SwitchEvent, switched}
use Rattle.net_events.specs.AtSwitch as switch_event
use Rattle.net_events.specs.NodeEvents.{NodeEvent, Hears, Expires, Relinks, Restarts, Calls, Takes}
use Rattle.net_events.specs.NodeEvents as node_event
use Rattle.net_events.specs.EventView.{request_event}
use Rattle.net_events.specs.Network.{PlacedNode, PlacedSwitch, NetNode, Switching, NetLine, Network, LostAt, StandsAtLines, place_at, own_role}
use Rattle.net_events.specs.declared.answer.Answer.{Answer}
use Rattle.net_events.specs.declared.event.Event.{Event}
use Rattle.net_events.specs.declared.event.Event.TheVariants.{AtTerminal, Call, Ask, Take, Deliver, Lose, Expire}
use Rattle.net_events.specs.declared.event.Event.TheVariants.{Relink, GivesUp, Restart}
use Rattle.net_events.specs.declared.event.StepFault.{StepFault}
use Rattle.node_events.specs.Switching.{all_puts}
use Rattle.net_nodes.specs.Faults.{step_fault, IsLeftToNode}
use Rattle.net_nodes.specs.Turns.{AtEnd}
use Rattle.net_nodes.specs.Steps.{AtNode, AtSwitch, OnOwnLine, AtSwitchEnd, LoseStep, DeliverStep, ExpireStep, RelinkStep}
use Rattle.net_nodes.specs.Steps.{RestartStep, StepOf, hearer}
use Rattle.net_nodes.specs.Happening.{Happens}
use Rattle.net_nodes.specs.Places.{IsStanding}
use Rattle.parted_laws.specs.Processes.{Processes, PartChanges, SameWires, IsLeftOf, flights_in, flights_at, ends_of, AreOf}
use Rattle.parted_laws.specs.Events.{HasEnd, IsHere, IsCutOff, HasLinesCutOff, MayBe, AreLost, IsNone, IsDone, HappensInOne, EventLaw}
use Rattle.parted_laws.specs.Events.AreLost.{none_is}
use Rattle.parted_laws.proofs.Parts.{SameLine, its_line}
use Rattle.parted_laws.proofs.Users.{IfRestarts, EndInOne, end_in_one}
use Rattle.parted_laws.proofs.Switches.{IfAllRestart, SwitchInOne, switch_in_one}
use Rattle.parted_laws.proofs.Faults.{same_fault}
use Rattle.parted_laws.proofs.Carrying.{lost_in_part, unchanged_in_part}

-- what is asked of a host is no restart
asks_no_restart : (channel : ℕ) (request : HostRequest) (P : Type 0) → IfRestarts (request_event channel request) P
asks_no_restart channel Accept P = tt
asks_no_restart channel Refuse P = tt
asks_no_restart channel (Say octets qualified delivery) P = tt
asks_no_restart channel (Interrupt octets) P = tt
asks_no_restart channel Reset P = tt
asks_no_restart channel Clear P = tt
asks_no_restart channel Stop P = tt
asks_no_restart channel Go P = tt

module _ (L : LineService) (f : L.faithful) (owner : ℕ → ℕ) (k : ℕ) (part : Network) (p q : Processes) (s : Network) (are : AreOf owner p s) (stands : IsStanding (p.parts k))
    (changes : PartChanges k part p q) (wires : SameWires p q) where
  -- the event is one of the network, after some losses
  record InOne (D : Network → Network → Type 0) : Type 0 where
    mid : Network
    are_lost : AreLost s mid
    after : Network
    does : D mid after
    are_parts : AreOf owner q after

  also : (D E : Network → Network → Type 0) → ((x y : Network) → D x y → E x y) → InOne D → InOne E
  also D E follows o = record {
    mid = o.mid;
    are_lost = o.are_lost;
    after = o.after;
    does = follows o.mid o.after o.does;
    are_parts = o.are_parts;
  }

  -- ---- at a node with users

  at_end : (event : NodeEvent) (line : ℕ) (role : Role) (a : Answer) (d : AtEnd L (record { line = line; role = role }) event (p.parts k) a part)
      → owner (place_at role d.happened.line_is) ≡ k → IfRestarts event (IsCutOff owner p k line d.happened.line_is)
      → InOne (λ x y. AtEnd lossless_service (record { line = line; role = role }) event x a y)
  at_end event line role a d own may =
      let u = end_in_one L f owner k part p q s are changes wires event line role a d own may in
      record { mid = u.mid; are_lost = u.are_lost; after = u.after; does = u.does; are_parts = u.are_parts }

  at_node : (event : NodeEvent) (place : ℕ) (a : Answer) (d : AtNode L place event (p.parts k) a part) → owner place ≡ k
      → IfRestarts event (IsCutOff owner p k d.end.line d.does.happened.line_is) → InOne (λ x y. AtNode lossless_service place event x a y)
  at_node event place a d own may =
      let u = end_in_one L f owner k part p q s are changes wires event d.end.line d.end.role a d.does (ap owner d.own_place ∙ own) may in
      record {
        mid = u.mid;
        are_lost = u.are_lost;
        after = u.after;
        does = record {
          end = d.end;
          does = u.does;
          own_line = ap (λ (n : PlacedNode). n.line) u.same_node ∙ d.own_line;
          own_place = u.at_place ∙ d.own_place;
        };
        are_parts = u.are_parts;
      }

  -- ---- at a switch

  abbrev SwitchIsCutOff : (place : ℕ) → Type 0
  SwitchIsCutOff place = (line : ℕ) (l : NetLine) (role : Role) → slice_get (p.parts k).lines line ≡ Some l → place_at role l ≡ place → IsCutOff owner p k line l

  -- the switch is the same one
  record SwitchDoes (place : ℕ) (event : SwitchEvent) (a : Answer) (n : PlacedSwitch) (x y : Network) : Type 0 where
    does : AtSwitch lossless_service place event x a y
    same : does.happened.node ≡ n

  at_switch : (event : SwitchEvent) (place : ℕ) (a : Answer) (d : AtSwitch L place event (p.parts k) a part) → owner place ≡ k → IfAllRestart event (SwitchIsCutOff place)
      → InOne (λ x y. SwitchDoes place event a d.happened.node x y)
  at_switch event place a d own may =
      let u = switch_in_one L f owner k part p q s are changes wires event place d.happened own (stands.nodes place (Switching d.happened.node) d.happened.node_there) may in
      record {
        mid = u.mid;
        are_lost = u.are_lost;
        after = u.after;
        does = record {
          does = record {
            happened = u.happened;
            puts = d.puts ∙ ap (λ (n : PlacedSwitch). all_puts n.lines (switched event n.switch).lines) (sym u.same_node);
            notes = d.notes;
            text = d.text;
            outcome = d.outcome;
          };
          same = u.same_node;
        };
        are_parts = u.are_parts;
      }

  abbrev on_own : (event : ℕ → SwitchEvent) (place line : ℕ) (a : Answer) (d : OnOwnLine L place line event (p.parts k) a part) (x y : Network)
      → SwitchDoes place (event d.own) a d.does.happened.node x y → OnOwnLine lossless_service place line event x a y
  on_own event place line a d x y w =
      record { own = d.own; does = w.does; own_line = ap (λ (n : PlacedSwitch). slice_get n.lines d.own) w.same ∙ d.own_line }

  on_own_line : (event : ℕ → SwitchEvent) (place line : ℕ) (a : Answer) (d : OnOwnLine L place line event (p.parts k) a part) → owner place ≡ k → IfAllRestart (event d.own) (SwitchIsCutOff place)
      → InOne (λ x y. OnOwnLine lossless_service place line event x a y)
  on_own_line event place line a d own may =
      also (λ x y. SwitchDoes place (event d.own) a d.does.happened.node x y) (λ x y. OnOwnLine lossless_service place line event x a y) (on_own event place line a d)
      (at_switch (event d.own) place a d.does own may)

  -- the switch at an end of a line that is of the process
  switch_place : (event : ℕ → SwitchEvent) (line : ℕ) (role : Role) (a : Answer) (d : AtSwitchEnd L line role event (p.parts k) a part) → HasEnd owner k line role (p.parts k) → owner d.place ≡ k
  switch_place event line role a d has =
      let h = d.there.does.happened in
      let st : StandsAtLines (p.parts k).lines d.place h.node = stands.nodes d.place (Switching h.node) h.node_there in
      let x = st.each d.there.own line d.there.own_line in
      ap owner (sym x.at_end ∙ ap (λ (r : Role). place_at r x.line_is) d.role_is) ∙ has x.line_is x.there

  at_switch_end : (event : ℕ → SwitchEvent) (line : ℕ) (role : Role) (a : Answer) (d : AtSwitchEnd L line role event (p.parts k) a part) → owner d.place ≡ k
      → IfAllRestart (event d.there.own) (SwitchIsCutOff d.place) → InOne (λ x y. AtSwitchEnd lossless_service line role event x a y)
  at_switch_end event line role a d own may =
      also (λ x y. SwitchDoes d.place (event d.there.own) a d.there.does.happened.node x y) (λ x y. AtSwitchEnd lossless_service line role event x a y)
      (λ x y w. record {
        place = d.place;
        there = on_own event d.place line a d.there x y w;
        role_is = ap (λ (n : PlacedSwitch). own_role n.switch d.there.own) w.same ∙ d.role_is;
      })
      (at_switch (event d.there.own) d.place a d.there.does own may)

  -- ---- each event

  -- an answered event that is no loss, in the network
  abbrev StepInOne : Event → Answer → Type 0
  StepInOne e a = InOne (λ x y. StepOf lossless_service e x a y)

  abbrev Nothing : Event → Answer → Type 0
  Nothing e a = IsNone e (Ok a) × AreOf owner q s

  -- what a line of the process loses is still in flight in the network
  lost : (line : ℕ) (d : Direction) → LostAt L line d (p.parts k) part → AreOf owner q s
  lost line d w = lost_in_part L f owner k line d part p q s are changes wires w

  delivered : (line : ℕ) (d : Direction) (a : Answer) → HasEnd owner k line (hearer d) (p.parts k) → DeliverStep L line d (p.parts k) a part
      → StepInOne (Deliver line d) a ⊎ Nothing (Deliver line d) a
  delivered line d a has (inl none) = inr (
    record {
      frames = none.nothing.frames;
      notes = none.nothing.notes;
      text = none.nothing.text;
      outcome = none.nothing.answered;
    },
    lost line d none.nothing.lost,
  )
  delivered line d a has (inr (octets, inl x)) =
      inl (also (λ x y. AtEnd lossless_service (record { line = line; role = hearer d }) (Hears octets) x a y) (λ x y. StepOf lossless_service (Deliver line d) x a y)
      (λ x y h. inr (octets, inl h)) (at_end (Hears octets) line (hearer d) a x (has x.happened.line_is x.happened.line_there) tt))
  delivered line d a has (inr (octets, inr x)) =
      inl (also (λ x y. AtSwitchEnd lossless_service line (hearer d) (λ own. switch_event.Hears own octets) x a y) (λ x y. StepOf lossless_service (Deliver line d) x a y)
      (λ x y h. inr (octets, inr h))
      (at_switch_end (λ own. switch_event.Hears own octets) line (hearer d) a x (switch_place (λ own. switch_event.Hears own octets) line (hearer d) a x has) tt))

  expired : (place line : ℕ) (timer : TimerId) (a : Answer) → owner place ≡ k → ExpireStep L place line timer (p.parts k) a part → StepInOne (Expire place line timer) a
  expired place line timer a own (inl x) =
      also (λ x y. AtNode lossless_service place (Expires timer) x a y) (λ x y. StepOf lossless_service (Expire place line timer) x a y)
      (λ x y h. inl h) (at_node (Expires timer) place a x own tt)
  expired place line timer a own (inr x) =
      also (λ x y. OnOwnLine lossless_service place line (λ at. switch_event.Expires at timer) x a y) (λ x y. StepOf lossless_service (Expire place line timer) x a y)
      (λ x y h. inr h) (on_own_line (λ at. switch_event.Expires at timer) place line a x own tt)

  relinked : (line : ℕ) (role : Role) (a : Answer) → HasEnd owner k line role (p.parts k) → RelinkStep L line role (p.parts k) a part
      → InOne (λ x y. RelinkStep lossless_service line role x a y)
  relinked line role a has (inl x) =
      also (λ x y. AtEnd lossless_service (record { line = line; role = role }) Relinks x a y) (λ x y. RelinkStep lossless_service line role x a y)
      (λ x y h. inl h) (at_end Relinks line role a x (has x.happened.line_is x.happened.line_there) tt)
  relinked line role a has (inr x) =
      also (λ x y. AtSwitchEnd lossless_service line role (λ own. switch_event.Relinks own) x a y) (λ x y. RelinkStep lossless_service line role x a y)
      (λ x y h. inr h) (at_switch_end (λ own. switch_event.Relinks own) line role a x (switch_place (λ own. switch_event.Relinks own) line role a x has) tt)

  restarted : (place : ℕ) (a : Answer) → owner place ≡ k → HasLinesCutOff owner p k place → RestartStep L place (p.parts k) a part → StepInOne (Restart place) a
  restarted place a own cut (inl x) =
      also (λ x y. AtNode lossless_service place Restarts x a y) (λ x y. StepOf lossless_service (Restart place) x a y)
      (λ x y h. inl h) (at_node Restarts place a x own (cut x.end.line x.does.happened.line_is x.end.role x.does.happened.line_there x.own_place))
  restarted place a own cut (inr w) =
      also (λ x y. SwitchDoes place switch_event.Restarts a w.happened.node x y) (λ x y. StepOf lossless_service (Restart place) x a y)
      (λ x y h. inr h.does) (at_switch switch_event.Restarts place a w own (λ line l role at e. cut line l role at e))

  steps : (e : Event) (a : Answer) → IsHere owner k e (p.parts k) → MayBe owner p k e → StepOf L e (p.parts k) a part → StepInOne e a ⊎ Nothing e a
  steps (AtTerminal node terminal event) a here may d = inl (at_node (node_event.AtTerminal terminal event) node a d here tt)
  steps (Call node address user_data) a here may d = inl (at_node (Calls address user_data.items) node a d here tt)
  steps (Ask node channel request) a here may d = inl (at_node (request_event channel request) node a d here (asks_no_restart channel request (IsCutOff owner p k d.end.line d.does.happened.line_is)))
  steps (Take node channel) a here may d = inl (at_node (Takes channel) node a d here tt)
  steps (Deliver line d) a here may x = delivered line d a here x
  steps (Lose line d) a here may x = inr (tt, lost line d x.lost)
  steps (Expire node line timer) a here may d = inl (expired node line timer a here d)
  steps (Relink line) a here may d = inl (relinked line Dte a here d)
  steps (GivesUp line) a here may d = inl (relinked line Dce a here d)
  steps (Restart node) a here may d = inl (restarted node a here may d)

  -- ---- answered or refused

  same_fault_then : (e : Event) → IsHere owner k e (p.parts k) → (mid : Network) → AreLost s mid → step_fault e mid ≡ step_fault e (p.parts k)
  same_fault_then e here mid lost = same_fault owner k p s are e here mid lost

  happens_in_one : (e : Event) (r : Result Answer StepFault) → IsHere owner k e (p.parts k) → MayBe owner p k e → Happens L e (p.parts k) r part → HappensInOne owner e r q s
  happens_in_one e (Ok a) here may h = elim (steps e a here may h.1) [
    | inl o ↦ record {
      mid = o.mid;
      lost = o.are_lost;
      after = o.after;
      done = inl (same_fault_then e here o.mid o.are_lost ∙ h.0, o.does);
      are = o.are_parts;
    }
    | inr none ↦ record { mid = s; lost = none_is s; after = s; done = inr (none.0, refl); are = none.1 }
  ]
  happens_in_one e (Err fault) here may h = record {
    mid = s;
    lost = none_is s;
    after = s;
    done =
        inl (
          elim h.0 [
            | inl own ↦ inl (same_fault_then e here s (none_is s) ∙ own)
            | inr want ↦ inr ((want.0.0, subst IsLeftToNode (sym (same_fault_then e here s (none_is s))) want.0.1), want.1)
          ],
          refl,
        );
    are = unchanged_in_part owner k part p q s are changes wires h.1;
  }

pub events_in_one : (L : LineService) → EventLaw L
events_in_one L f owner k e r part p q s are stands here may h changes wires = happens_in_one L f owner k part p q s are stands changes wires e r here may h
