-- What holds of the relay of a switch, and of its joins, whatever its partners send.
use Rattle.std.specs.Prelude.{◌≡◌, ℕ, ◌≤◌, ◌<◌, Bool, true, false, List, [], ◌∷◌, ◌++◌, length, slice_get, Some, None, is_some}
use Rattle.link_timers.specs.declared.role.Role.{Role}
use Rattle.link_timers.specs.declared.timers.TimerId.{TimerId}
use Rattle.epochs.specs.Item.{all_items}
use Rattle.data_transfer.specs.declared.flow.Flow.{Flow}
use Rattle.data_transfer.specs.Flow.{IsFlow}
use Rattle.data_transfer.specs.Packets.{Body, CallParts, Datum}
use Rattle.packet_channel.specs.Channel.{received, unreadable}
use Rattle.packet_channel.specs.Channel.ChannelState.{Transfer}
use Rattle.packet_layer.specs.Layer.{Layer}
use Rattle.address_routes.specs.Routes.{RouteMap, line_for}
use Rattle.switch_joins.specs.Turning.{nothing_gathered, turned, items_gathered}
use Rattle.switch_joins.specs.Direction.{new_direction}
use Rattle.switch_joins.specs.declared.channels.SwitchChannel.{SwitchChannel}
use Rattle.switch_lines.specs.Lines.{SwitchLine, joined_at, is_trunk}
use Rattle.switch_lines.specs.Relay.{all_relayed, most_moves}
use Rattle.switch_lines.specs.Switch.{Switch, answer, heed_all, on_frame, on_expiry, relink, restart, elapse}
use Rattle.switch_lines.specs.Switch.Answer.{Joins}
use Rattle.switch_laws.specs.Leg.{connected}
use Rattle.switch_laws.specs.Clause.{EndsSequence}
use Rattle.switch_laws.specs.Way.{Way, sizes, Holds, IsRight, IsStuck, freed, moved, relayed}
use Rattle.switch_laws.specs.Join.{Join, IsJoin, IsAtRest, relayed_both, hears, mishears, gives}
use Rattle.packet_end.specs.PacketEnd as end
use Rattle.switch_laws.specs.Calls.{CallsAreJoined, HasCall}
use Rattle.switch_laws.specs.Stays.{OthersStay, relinked_in}
use Rattle.switch_laws.specs.Offers.{HaveSmallLinks, EndsKeepNothingBack}
use Rattle.switch_laws.specs.World.{closed, World, IsWorld, layers_of, shown_at, Act, line_of}
use Rattle.switch_laws.specs.Steps.{acts_of_all}
use Rattle.switch_laws.specs.Steps.Happening.{Brings, RunsOut, Relinks}
use Rattle.switch_laws.specs.EventSteps.{all_relayed_steps, heed_all_steps, event_acts}
use Rattle.switch_laws.specs.Joined.{IsSwitch, Becomes, HasRelayedAll, HasActed, IsTold, notes_made, has_place}

-- one direction: item by item what was sent, with what is gathered behind it, is what was taken; between lines of one
-- size, packet by packet, with M, Q and D. What is gathered is less than a packet of the far line, and no packet of the
-- near line makes more packets due than a queue has places. What ends a sequence leaves nothing gathered. Releasing
-- what may be released and relaying keep the clause, and after the most moves nothing waits that the far leg takes,
-- since no more than a queue of packets and an interrupt can wait on the near leg
pub record RelayLaw : Type 0 where
  pub items : (w : Way) → Holds w
      → all_items w.far.epoch.sent ++ items_gathered w.kept.gathered ≡ all_items w.near.epoch.taken
  pub packets : (w : Way) → Holds w → w.near.flow.size ≡ w.far.flow.size
      → w.far.epoch.sent ≡ w.near.epoch.taken
  pub gathers_little : (w : Way) → Holds w → length w.kept.gathered.octets < w.far.flow.size
  pub makes_few : (w : Way) (d : Datum) → Holds w → length d.octets ≤ w.near.flow.size
      → length (turned (sizes w) w.kept.gathered d).made ≤ 8
  pub ends : (w : Way) (d : Datum) → EndsSequence w.near.flow.size d
      → (turned (sizes w) w.kept.gathered d).left ≡ nothing_gathered
  pub frees : (w : Way) → Holds w → IsRight (freed w)
  pub moves : (w : Way) → IsRight w → IsRight (moved w)
  pub relays : (most : ℕ) (w : Way) → IsRight w → IsRight (relayed most w)
  pub stuck : (w : Way) → IsRight w → IsStuck (relayed most_moves w)

-- both directions: the clause holds when a call is connected, and stays over each relay, after which nothing is kept
-- back, over all that comes on a leg and leaves it in data transfer, and over all that goes to its line
pub record JoinLaw : Type 0 where
  pub begins : (a_role b_role : Role) (a_flow b_flow : Flow) (a_owed b_owed : List Body) → IsFlow a_flow → IsFlow b_flow
      → IsJoin (record {
        a = connected a_role a_flow a_owed;
        b = connected b_role b_flow b_owed;
        there = new_direction;
        back = new_direction;
      })
  pub relays : (j : Join) → IsJoin j → IsJoin (relayed_both most_moves j)
  pub keeps_nothing_back : (j : Join) → IsJoin j → IsAtRest (relayed_both most_moves j)
  pub hears : (c : ℕ) (p : Body) (j : Join)
      → (received j.b.role j.b.flow c j.b.channel p).channel.state ≡ Transfer → IsJoin j → IsJoin (hears c p j)
  pub mishears : (c : ℕ) (unknown : Bool) (j : Join)
      → (unreadable j.b.role c unknown j.b.channel).channel.state ≡ Transfer → IsJoin j
      → IsJoin (mishears c unknown j)
  pub gives : (j : Join) → IsJoin j → IsJoin (gives j)

-- all joins: they hold over the relay on all lines, after which nothing is kept back, and over all that a line brings,
-- once its notes are heeded: packets and what cannot be read, timers, sessions of the link that begin and end. A call
-- that comes in goes on to the line of the longest prefix of its called address, and never back over a trunk
pub record SwitchLaw : Type 0 where
  pub begins : (ls : List SwitchLine) (w : World) → IsWorld (layers_of ls) w
      → ((x : SwitchChannel) → is_some (shown_at (layers_of ls) x) ≡ true → has_place ls x ≡ true)
      → ((x : SwitchChannel) → joined_at ls x ≡ None) → IsSwitch ls w
  pub relays : (ls : List SwitchLine) (w : World) → IsSwitch ls w
      → Becomes (acts_of_all (all_relayed_steps ls) ls) ls w (all_relayed ls)
  pub keeps_nothing_back : (ls : List SwitchLine) (w : World) → IsSwitch ls w → HasRelayedAll (all_relayed ls)
  pub heeds : (routes : RouteMap) (act : Act) (l : Layer) (ls ms : List SwitchLine) (w : World) → IsTold act
      → slice_get (layers_of ls) (line_of act) ≡ Some l → HasActed act ls ms → IsSwitch ls w
      → Becomes (act ∷ acts_of_all (heed_all_steps routes (line_of act) (notes_made act (Some l)) ms) ms) ls w
      (heed_all routes (line_of act) (notes_made act (Some l)) ms)
  pub routes : (routes : RouteMap) (ls : List SwitchLine) (n : ℕ) (parts : CallParts) (q : SwitchChannel)
      → answer routes ls n parts ≡ Joins q → line_for routes parts.called ≡ Some q.line
  pub not_back : (routes : RouteMap) (ls : List SwitchLine) (n : ℕ) (parts : CallParts) (q : SwitchChannel)
      → answer routes ls n parts ≡ Joins q → q.line ≡ n → is_trunk (slice_get ls n) ≡ false

-- whole events: after each of them, by the acts that it is, all joins hold, and nothing is kept back, on legs, in
-- packet layers and at links with a k of at most 7; each channel that has a call is joined; a join of two other lines
-- stays, but for the joins of a line whose link is set up anew in the event; a restart leaves no call
pub record TurnLaw : Type 0 where
  pub frame : (n : ℕ) (octets : List ℕ) (s : Switch) (w : World) → IsSwitch s.lines w
      → Becomes (event_acts s.routes n (Brings octets) s.lines) s.lines w (on_frame n octets s).lines
  pub frame_keeps_nothing_back : (n : ℕ) (octets : List ℕ) (s : Switch) (w : World)
      → IsSwitch s.lines w → HasRelayedAll (on_frame n octets s).lines
  pub timer : (n : ℕ) (id : TimerId) (s : Switch) (w : World) → IsSwitch s.lines w
      → Becomes (event_acts s.routes n (RunsOut id) s.lines) s.lines w (on_expiry n id s).lines
  pub timer_keeps_nothing_back : (n : ℕ) (id : TimerId) (s : Switch) (w : World) → IsSwitch s.lines w
      → HasRelayedAll (on_expiry n id s).lines
  pub relinks : (n : ℕ) (s : Switch) (w : World) → IsSwitch s.lines w
      → Becomes (event_acts s.routes n Relinks s.lines) s.lines w (relink n s).lines
  pub relink_keeps_nothing_back : (n : ℕ) (s : Switch) (w : World) → IsSwitch s.lines w
      → HasRelayedAll (relink n s).lines
  pub frame_offers : (n : ℕ) (octets : List ℕ) (s : Switch) → HaveSmallLinks s.lines
      → EndsKeepNothingBack (on_frame n octets s).lines
  pub timer_offers : (n : ℕ) (id : TimerId) (s : Switch) → HaveSmallLinks s.lines
      → EndsKeepNothingBack (on_expiry n id s).lines
  pub relink_offers : (n : ℕ) (s : Switch) → HaveSmallLinks s.lines → EndsKeepNothingBack (relink n s).lines
  pub frame_joins_calls : (n : ℕ) (octets : List ℕ) (s : Switch) (w : World) → IsSwitch s.lines w
      → CallsAreJoined s.lines → CallsAreJoined (on_frame n octets s).lines
  pub timer_joins_calls : (n : ℕ) (id : TimerId) (s : Switch) (w : World) → IsSwitch s.lines w
      → CallsAreJoined s.lines → CallsAreJoined (on_expiry n id s).lines
  pub relink_joins_calls : (n : ℕ) (s : Switch) (w : World) → IsSwitch s.lines w → CallsAreJoined s.lines
      → CallsAreJoined (relink n s).lines
  pub frame_leaves_others : (n : ℕ) (octets : List ℕ) (s : Switch) (w : World) → IsSwitch s.lines w
      → OthersStay (n ∷ relinked_in n (λ e. end.received e octets) s) s.lines (on_frame n octets s).lines
  pub timer_leaves_others : (n : ℕ) (id : TimerId) (s : Switch) (w : World) → IsSwitch s.lines w
      → OthersStay (n ∷ relinked_in n (λ e. end.after_timer e id) s) s.lines (on_expiry n id s).lines
  pub relink_leaves_others : (n : ℕ) (s : Switch) (w : World) → IsSwitch s.lines w
      → OthersStay (n ∷ relinked_in n end.relinked s) s.lines (relink n s).lines
  pub restarts : (s : Switch) (w : World) → IsSwitch s.lines w → IsSwitch (restart s).lines (λ x. closed (w x))
  pub restart_ends_calls : (s : Switch) (w : World) → IsSwitch s.lines w → (p : SwitchChannel)
      → HasCall (restart s).lines p → ⊥
  pub elapses : (ticks : ℕ) (s : Switch) (w : World) → IsSwitch s.lines w
      → Becomes [] s.lines w (elapse ticks s).lines
