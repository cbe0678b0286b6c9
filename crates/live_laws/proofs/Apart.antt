-- What an event writes into one register, it writes into any other one, and all else is the same.
use Rattle.std.proofs.Common.{◌≡◌, ℕ, false, List, Result, Ok, Err, refl, sym, ap, subst, ◌∙◌, inl, inr}
use Rattle.std.specs.Prelude.{length}
use Rattle.std.proofs.lemmas.List.{length-set}
use Rattle.link_timers.specs.declared.role.Role.{Role}
use Rattle.link_timers.specs.declared.role.Role.TheVariants.{Dte, Dce}
use Rattle.link_timers.specs.declared.timers.TimerId.{TimerId}
use Rattle.call_records.specs.Register.{Register, book_at, with_book}
use Rattle.user_nodes.specs.Node.{NodeState, frames_of}
use Rattle.user_nodes.specs.Notes.{NodeNotes, user_notes}
use Rattle.frame_lines.specs.declared.line.Direction.{Direction}
use Rattle.frame_lines.specs.Lines.{LineService, ArePut}
use Rattle.net_events.specs.OneLine.{direction_of}
use Rattle.net_events.specs.NodeEvents.{NodeEvent, Hears, Expires, Relinks, Restarts, Calls, Takes, turn_of}
use Rattle.net_events.specs.NodeEvents as node_event
use Rattle.net_events.specs.AtSwitch.{SwitchEvent, joins_of, all_handed}
use Rattle.net_events.specs.AtSwitch as switch_event
use Rattle.net_events.specs.EventView.{request_event}
use Rattle.net_events.specs.Network.{PlacedNode, PlacedSwitch, Network, HappenedAt, place_at, own_role, with_turn_at}
use Rattle.net_events.specs.declared.answer.Answer.{Answer}
use Rattle.net_events.specs.declared.answer.Outcome.{Outcome}
use Rattle.net_events.specs.declared.answer.Outcome.TheVariants.{Delivered, Done}
use Rattle.net_events.specs.declared.event.Event.{Event}
use Rattle.net_events.specs.declared.event.Event.TheVariants.{AtTerminal, Call, Ask, Take, Deliver, Lose, Expire}
use Rattle.net_events.specs.declared.event.Event.TheVariants.{Relink, GivesUp, Restart}
use Rattle.net_events.specs.declared.event.StepFault.{StepFault}
use Rattle.node_events.specs.Sends.{ArePutsOf}
use Rattle.net_nodes.specs.Faults.{step_fault, IsLeftToNode}
use Rattle.net_nodes.specs.Turns.{AtEnd}
use Rattle.net_nodes.specs.Steps.{AtNode, AtSwitch, OnOwnLine, AtSwitchEnd, LoseStep, DeliverStep, ExpireStep, RelinkStep}
use Rattle.net_nodes.specs.Steps.{RestartStep, StepOf, hearer}
use Rattle.net_nodes.specs.Happening.{Happens}
use Rattle.line_sim.proofs.Registered.{handed}
use Rattle.live_laws.specs.Registers.{on}
use Rattle.live_laws.specs.Writing.{WritesSo}
use Rattle.live_laws.proofs.Turns.{turns_alike}

-- a relation of networks before and after an event holds with any register, into which the same is written
record Apart (D : Network → Network → Type 0) (s t : Network) : Type 0 where
  write : Register → Register
  here : t.register ≡ write s.register
  lines : (g : Register) → length (write g).lines ≡ length g.lines
  does : (g : Register) → D (on g s) (on (write g) t)

-- a relation that follows from it does so too
also : (D E : Network → Network → Type 0) (s t : Network) → ((x y : Network) → D x y → E x y) → Apart D s t
    → Apart E s t
also D E s t follows a = record {
  write = a.write;
  here = a.here;
  lines = a.lines;
  does = λ g. follows (on g s) (on (a.write g) t) (a.does g);
}

-- ---- at a node with users

abbrev written : NodeEvent → (line : ℕ) → Role → PlacedNode → Register → Register
written event line role n g = with_book line (turn_of event role n.node (book_at line g)).book g

abbrev happened_on : (L : LineService) (event : NodeEvent) (line : ℕ) (role : Role) (g : Register) (s t : Network)
    (h : HappenedAt L event line role s t)
    → HappenedAt L event line role (on g s) (on (written event line role h.node g) t)
happened_on L event line role g s t h =
    let turn = turn_of event role h.node.node (book_at line g) in
    let alike = turns_alike event role h.node.node (book_at line s.register) (book_at line g) in
    record {
      line_is = h.line_is;
      line_there = h.line_there;
      node = h.node;
      node_there = h.node_there;
      is_for = h.is_for;
      between = h.between;
      left = h.left;
      flights = h.flights;
      put =
          λ f. subst (λ (n : NodeState). ArePut L (direction_of role) (frames_of n) h.between h.flights) alike.node (h.put f);
      others =
          ap (on (written event line role h.node g)) h.others
          ∙ ap (λ (n : NodeState). with_turn_at line h.line_is (place_at role h.line_is) h.node (record turn { node = n }) h.flights (on g s)) alike.node;
    }

abbrev end_on : (L : LineService) (end : _) (event : NodeEvent) (g : Register) (s : Network) (a : Answer) (t : Network)
    (d : AtEnd L end event s a t)
    → AtEnd L end event (on g s) a (on (written event end.line end.role d.happened.node g) t)
end_on L end event g s a t d =
    let alike = turns_alike event end.role d.happened.node.node (book_at end.line s.register) (book_at end.line g) in
    record {
      happened = happened_on L event end.line end.role g s t d.happened;
      puts =
          subst (λ (n : NodeState). ArePutsOf (direction_of end.role) end.line (frames_of n) a.frames.items) alike.node d.puts;
      told =
          subst (λ (notes : NodeNotes). a.notes.items ≡ user_notes (place_at end.role d.happened.line_is) notes) alike.notes
          d.told;
      text = d.text;
      outcome = d.outcome;
    }

at_end : (L : LineService) (end : _) (event : NodeEvent) (s : Network) (a : Answer) (t : Network)
    → AtEnd L end event s a t → Apart (λ x y. AtEnd L end event x a y) s t
at_end L end event s a t d = record {
  write = written event end.line end.role d.happened.node;
  here = ap (λ (x : Network). x.register) d.happened.others;
  lines = λ g. length-set g.lines end.line _;
  does = λ g. end_on L end event g s a t d;
}

at_node : (L : LineService) (place : ℕ) (event : NodeEvent) (s : Network) (a : Answer) (t : Network)
    → AtNode L place event s a t → Apart (λ x y. AtNode L place event x a y) s t
at_node L place event s a t d = record {
  write = written event d.end.line d.end.role d.does.happened.node;
  here = ap (λ (x : Network). x.register) d.does.happened.others;
  lines = λ g. length-set g.lines d.end.line _;
  does = λ g. record {
    end = d.end;
    does = end_on L d.end event g s a t d.does;
    own_line = d.own_line;
    own_place = d.own_place;
  };
}

-- ---- at a switch

abbrev handed_on_by : SwitchEvent → PlacedSwitch → Register → Register
handed_on_by event n g = all_handed n.lines (own_role n.switch) (joins_of event n.switch) g

abbrev switched_on : (L : LineService) (place : ℕ) (event : SwitchEvent) (g : Register) (s : Network) (a : Answer)
    (t : Network) (d : AtSwitch L place event s a t)
    → AtSwitch L place event (on g s) a (on (handed_on_by event d.happened.node g) t)
switched_on L place event g s a t d = record {
  happened = record {
    node = d.happened.node;
    node_there = d.happened.node_there;
    has_line = d.happened.has_line;
    nodes = d.happened.nodes;
    lines = d.happened.lines;
    register = refl;
  };
  puts = d.puts;
  notes = d.notes;
  text = d.text;
  outcome = d.outcome;
}

at_switch : (L : LineService) (place : ℕ) (event : SwitchEvent) (s : Network) (a : Answer) (t : Network)
    → AtSwitch L place event s a t → Apart (λ x y. AtSwitch L place event x a y) s t
at_switch L place event s a t d = record {
  write = handed_on_by event d.happened.node;
  here = d.happened.register;
  lines = λ g. handed d.happened.node.lines (own_role d.happened.node.switch) (joins_of event d.happened.node.switch) g;
  does = λ g. switched_on L place event g s a t d;
}

on_own_line : (L : LineService) (place line : ℕ) (event : (own : ℕ) → SwitchEvent) (s : Network) (a : Answer)
    (t : Network) → OnOwnLine L place line event s a t → Apart (λ x y. OnOwnLine L place line event x a y) s t
unfolding at_switch
on_own_line L place line event s a t d =
    let apart = at_switch L place (event d.own) s a t d.does in
    record {
      write = handed_on_by (event d.own) d.does.happened.node;
      here = apart.here;
      lines = apart.lines;
      does = λ g. record {
        own = d.own;
        does = switched_on L place (event d.own) g s a t d.does;
        own_line = d.own_line;
      };
    }

at_switch_end : (L : LineService) (line : ℕ) (role : Role) (event : (own : ℕ) → SwitchEvent) (s : Network) (a : Answer)
    (t : Network) → AtSwitchEnd L line role event s a t → Apart (λ x y. AtSwitchEnd L line role event x a y) s t
unfolding at_switch
at_switch_end L line role event s a t d =
    let apart = at_switch L d.place (event d.there.own) s a t d.there.does in
    record {
      write = handed_on_by (event d.there.own) d.there.does.happened.node;
      here = apart.here;
      lines = apart.lines;
      does = λ g. record {
        place = d.place;
        there = record {
          own = d.there.own;
          does = switched_on L d.place (event d.there.own) g s a t d.there.does;
          own_line = d.there.own_line;
        };
        role_is = d.role_is;
      };
    }

-- ---- on a line

abbrev lost_on : (L : LineService) (line : ℕ) (d : Direction) (outcome : Outcome) (g : Register) (s : Network)
    (a : Answer) (t : Network) → LoseStep L line d outcome s a t → LoseStep L line d outcome (on g s) a (on g t)
lost_on L line d outcome g s a t w = record {
  frames = w.frames;
  notes = w.notes;
  text = w.text;
  answered = w.answered;
  lost = record {
    line_is = w.lost.line_is;
    line_there = w.lost.line_there;
    flights = w.lost.flights;
    rest = w.lost.rest;
    others = ap (on g) w.lost.others;
  };
}

-- ---- each event

delivered : (L : LineService) (line : ℕ) (d : Direction) (s : Network) (a : Answer) (t : Network)
    → DeliverStep L line d s a t → Apart (λ x y. DeliverStep L line d x a y) s t
delivered L line d s a t (inl e) = record {
  write = λ g. g;
  here = ap (λ (x : Network). x.register) e.nothing.lost.others;
  lines = λ g. refl;
  does = λ g. inl (record { nothing = lost_on L line d (Delivered false) g s a t e.nothing; none = e.none });
}
delivered L line d s a t (inr (octets, inl e)) =
    also _ _ s t (λ x y h. inr (octets, inl h)) (at_end L (record { line = line; role = hearer d }) (Hears octets) s a t e)
delivered L line d s a t (inr (octets, inr e)) =
    also _ _ s t (λ x y h. inr (octets, inr h))
    (at_switch_end L line (hearer d) (λ own. switch_event.Hears own octets) s a t e)

expired : (L : LineService) (place line : ℕ) (timer : TimerId) (s : Network) (a : Answer) (t : Network)
    → ExpireStep L place line timer s a t → Apart (λ x y. ExpireStep L place line timer x a y) s t
expired L place line timer s a t (inl e) =
    also _ _ s t (λ x y h. inl h) (at_node L place (Expires timer) s a t e)
expired L place line timer s a t (inr e) =
    also _ _ s t (λ x y h. inr h) (on_own_line L place line (λ own. switch_event.Expires own timer) s a t e)

relinked : (L : LineService) (line : ℕ) (role : Role) (s : Network) (a : Answer) (t : Network)
    → RelinkStep L line role s a t → Apart (λ x y. RelinkStep L line role x a y) s t
relinked L line role s a t (inl e) =
    also _ _ s t (λ x y h. inl h) (at_end L (record { line = line; role = role }) Relinks s a t e)
relinked L line role s a t (inr e) =
    also _ _ s t (λ x y h. inr h) (at_switch_end L line role (λ own. switch_event.Relinks own) s a t e)

restarted : (L : LineService) (place : ℕ) (s : Network) (a : Answer) (t : Network) → RestartStep L place s a t
    → Apart (λ x y. RestartStep L place x a y) s t
restarted L place s a t (inl e) = also _ _ s t (λ x y h. inl h) (at_node L place Restarts s a t e)
restarted L place s a t (inr e) = also _ _ s t (λ x y h. inr h) (at_switch L place switch_event.Restarts s a t e)

steps : (L : LineService) (e : Event) (s : Network) (a : Answer) (t : Network) → StepOf L e s a t
    → Apart (λ x y. StepOf L e x a y) s t
steps L (AtTerminal node terminal event) s a t d = at_node L node (node_event.AtTerminal terminal event) s a t d
steps L (Call node address user_data) s a t d = at_node L node (Calls address user_data.items) s a t d
steps L (Ask node channel request) s a t d = at_node L node (request_event channel request) s a t d
steps L (Take node channel) s a t d = at_node L node (Takes channel) s a t d
steps L (Deliver line direction) s a t d = delivered L line direction s a t d
steps L (Lose line direction) s a t d = record {
  write = λ g. g;
  here = ap (λ (x : Network). x.register) d.lost.others;
  lines = λ g. refl;
  does = λ g. lost_on L line direction Done g s a t d;
}
steps L (Expire node line timer) s a t d = expired L node line timer s a t d
steps L (Relink line) s a t d = relinked L line Dte s a t d
steps L (GivesUp line) s a t d = relinked L line Dce s a t d
steps L (Restart node) s a t d = restarted L node s a t d

-- the register is no reason to refuse an event
same_fault : (e : Event) (g : Register) (s : Network) → step_fault e s ≡ step_fault e (on g s)
same_fault (AtTerminal node terminal event) g s = refl
same_fault (Call node address user_data) g s = refl
same_fault (Ask node channel request) g s = refl
same_fault (Take node channel) g s = refl
same_fault (Deliver line direction) g s = refl
same_fault (Lose line direction) g s = refl
same_fault (Expire node line timer) g s = refl
same_fault (Relink line) g s = refl
same_fault (GivesUp line) g s = refl
same_fault (Restart node) g s = refl

pub happens_apart : (L : LineService) (e : Event) (s : Network) (r : Result Answer StepFault) (t : Network)
    → Happens L e s r t → WritesSo L e s r t
happens_apart L e s (Ok a) t h =
    let apart = steps L e s a t h.1 in
    record {
      write = apart.write;
      here = apart.here;
      lines = apart.lines;
      happens = λ g. (sym (same_fault e g s) ∙ h.0, apart.does g);
    }
happens_apart L e s (Err fault) t h = record {
  write = λ g. g;
  here = ap (λ (x : Network). x.register) h.1;
  lines = λ g. refl;
  happens = λ g. (
    elim h.0 [
      | inl own ↦ inl (sym (same_fault e g s) ∙ own)
      | inr want ↦ inr ((want.0.0, subst IsLeftToNode (same_fault e g s) want.0.1), want.1)
    ],
    ap (on g) h.1,
  );
}
