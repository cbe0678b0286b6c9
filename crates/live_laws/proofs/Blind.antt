-- What happens on any line happens on one of which it is not known whether it is faithful.
use Rattle.std.proofs.Common.{ℕ, false, List, Result, Ok, Err, inl, inr}
use Rattle.link_timers.specs.declared.role.Role.{Role}
use Rattle.link_timers.specs.declared.role.Role.TheVariants.{Dte, Dce}
use Rattle.link_timers.specs.declared.timers.TimerId.{TimerId}
use Rattle.frame_lines.specs.declared.line.Direction.{Direction}
use Rattle.frame_lines.specs.Lines.{LineService}
use Rattle.net_events.specs.AtSwitch.{SwitchEvent, OwnLineServed, switched, waiting_on}
use Rattle.net_events.specs.AtSwitch as switch_event
use Rattle.net_events.specs.NodeEvents.{NodeEvent, Hears, Expires, Relinks, Restarts, Calls, Takes}
use Rattle.net_events.specs.NodeEvents as node_event
use Rattle.net_events.specs.EventView.{request_event}
use Rattle.net_events.specs.Network.{NetLine, Network, HappenedAt, LostAt, own_role}
use Rattle.net_events.specs.declared.answer.Answer.{Answer}
use Rattle.net_events.specs.declared.answer.Outcome.{Outcome}
use Rattle.net_events.specs.declared.answer.Outcome.TheVariants.{Delivered, Done}
use Rattle.net_events.specs.declared.event.Event.{Event}
use Rattle.net_events.specs.declared.event.Event.TheVariants.{AtTerminal, Call, Ask, Take, Deliver, Lose, Expire}
use Rattle.net_events.specs.declared.event.Event.TheVariants.{Relink, GivesUp, Restart}
use Rattle.net_events.specs.declared.event.StepFault.{StepFault}
use Rattle.net_nodes.specs.Carrying.{blind}
use Rattle.net_nodes.specs.Turns.{AtEnd}
use Rattle.net_nodes.specs.Steps.{AtNode, AtSwitch, OnOwnLine, AtSwitchEnd, LoseStep, DeliverStep, ExpireStep, RelinkStep}
use Rattle.net_nodes.specs.Steps.{RestartStep, StepOf, hearer}
use Rattle.net_nodes.specs.Happening.{Happens}
use Rattle.live_laws.specs.Blind.{BlindLaw}

module _ (L : LineService) where
  abbrev happened : (event : NodeEvent) (line : ℕ) (role : Role) (s t : Network) → HappenedAt L event line role s t → HappenedAt (blind L) event line role s t
  happened event line role s t h = record {
    line_is = h.line_is;
    line_there = h.line_there;
    node = h.node;
    node_there = h.node_there;
    is_for = h.is_for;
    between = h.between;
    left = λ none. absurd none;
    flights = h.flights;
    put = λ none. absurd none;
    others = h.others;
  }

  abbrev at_end : (end : _) (event : NodeEvent) (s : Network) (a : Answer) (t : Network) → AtEnd L end event s a t → AtEnd (blind L) end event s a t
  at_end end event s a t d = record {
    happened = happened event end.line end.role s t d.happened;
    puts = d.puts;
    told = d.told;
    text = d.text;
    outcome = d.outcome;
  }

  at_node : (place : ℕ) (event : NodeEvent) (s : Network) (a : Answer) (t : Network) → AtNode L place event s a t → AtNode (blind L) place event s a t
  at_node place event s a t d = record { end = d.end; does = at_end d.end event s a t d.does; own_line = d.own_line; own_place = d.own_place }

  abbrev own_line_served : (event : SwitchEvent) (own line : ℕ) (role : Role) (frames : List (List ℕ)) (before after : List NetLine)
      → OwnLineServed L event own line role frames before after → OwnLineServed (blind L) event own line role frames before after
  own_line_served event own line role frames before after x = record {
    line_is = x.line_is;
    line_there = x.line_there;
    between = x.between;
    left = λ none. absurd none;
    flights = x.flights;
    put = λ none. absurd none;
    after_there = x.after_there;
  }

  abbrev at_switch : (place : ℕ) (event : SwitchEvent) (s : Network) (a : Answer) (t : Network) → AtSwitch L place event s a t → AtSwitch (blind L) place event s a t
  at_switch place event s a t d =
      let h = d.happened in
      record {
        happened = record {
          node = h.node;
          node_there = h.node_there;
          has_line = h.has_line;
          nodes = h.nodes;
          lines = record {
            count = h.lines.count;
            own_lines = λ own line is. own_line_served event own line (own_role h.node.switch own) (waiting_on own (switched event h.node.switch)) s.lines t.lines (h.lines.own_lines own line is);
            others = h.lines.others;
          };
          register = h.register;
        };
        puts = d.puts;
        notes = d.notes;
        text = d.text;
        outcome = d.outcome;
      }

  abbrev on_own_line : (place line : ℕ) (event : ℕ → SwitchEvent) (s : Network) (a : Answer) (t : Network) → OnOwnLine L place line event s a t → OnOwnLine (blind L) place line event s a t
  on_own_line place line event s a t d = record { own = d.own; does = at_switch place (event d.own) s a t d.does; own_line = d.own_line }

  at_switch_end : (line : ℕ) (role : Role) (event : ℕ → SwitchEvent) (s : Network) (a : Answer) (t : Network) → AtSwitchEnd L line role event s a t → AtSwitchEnd (blind L) line role event s a t
  at_switch_end line role event s a t d = record { place = d.place; there = on_own_line d.place line event s a t d.there; role_is = d.role_is }

  pub lost : (line : ℕ) (d : Direction) (s t : Network) → LostAt L line d s t → LostAt (blind L) line d s t
  lost line d s t w = record { line_is = w.line_is; line_there = w.line_there; flights = w.flights; rest = λ none. absurd none; others = w.others }

  abbrev loses : (line : ℕ) (d : Direction) (outcome : Outcome) (s : Network) (a : Answer) (t : Network) → LoseStep L line d outcome s a t → LoseStep (blind L) line d outcome s a t
  loses line d outcome s a t w = record { frames = w.frames; notes = w.notes; text = w.text; answered = w.answered; lost = lost line d s t w.lost }

  -- ---- each event

  delivered : (line : ℕ) (d : Direction) (s : Network) (a : Answer) (t : Network) → DeliverStep L line d s a t → DeliverStep (blind L) line d s a t
  delivered line d s a t (inl e) = inl (record { nothing = loses line d (Delivered false) s a t e.nothing; none = λ none. absurd none })
  delivered line d s a t (inr (octets, inl e)) = inr (octets, inl (at_end (record { line = line; role = hearer d }) (Hears octets) s a t e))
  delivered line d s a t (inr (octets, inr e)) = inr (octets, inr (at_switch_end line (hearer d) (λ own. switch_event.Hears own octets) s a t e))

  expired : (place line : ℕ) (timer : TimerId) (s : Network) (a : Answer) (t : Network) → ExpireStep L place line timer s a t → ExpireStep (blind L) place line timer s a t
  expired place line timer s a t (inl e) = inl (at_node place (Expires timer) s a t e)
  expired place line timer s a t (inr e) = inr (on_own_line place line (λ own. switch_event.Expires own timer) s a t e)

  relinked : (line : ℕ) (role : Role) (s : Network) (a : Answer) (t : Network) → RelinkStep L line role s a t → RelinkStep (blind L) line role s a t
  relinked line role s a t (inl e) = inl (at_end (record { line = line; role = role }) Relinks s a t e)
  relinked line role s a t (inr e) = inr (at_switch_end line role (λ own. switch_event.Relinks own) s a t e)

  restarted : (place : ℕ) (s : Network) (a : Answer) (t : Network) → RestartStep L place s a t → RestartStep (blind L) place s a t
  restarted place s a t (inl e) = inl (at_node place Restarts s a t e)
  restarted place s a t (inr e) = inr (at_switch place switch_event.Restarts s a t e)

  steps : (e : Event) (s : Network) (a : Answer) (t : Network) → StepOf L e s a t → StepOf (blind L) e s a t
  steps (AtTerminal node terminal event) s a t d = at_node node (node_event.AtTerminal terminal event) s a t d
  steps (Call node address user_data) s a t d = at_node node (Calls address user_data.items) s a t d
  steps (Ask node channel request) s a t d = at_node node (request_event channel request) s a t d
  steps (Take node channel) s a t d = at_node node (Takes channel) s a t d
  steps (Deliver line d) s a t x = delivered line d s a t x
  steps (Lose line d) s a t x = loses line d Done s a t x
  steps (Expire node line timer) s a t d = expired node line timer s a t d
  steps (Relink line) s a t d = relinked line Dte s a t d
  steps (GivesUp line) s a t d = relinked line Dce s a t d
  steps (Restart node) s a t d = restarted node s a t d

pub happens_blind : (L : LineService) → BlindLaw L
happens_blind L e s (Ok a) t h = (h.0, steps L e s a t h.1)
happens_blind L e s (Err fault) t h = h
