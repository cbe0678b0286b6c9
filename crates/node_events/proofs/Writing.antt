-- What the network writes of an event at a node is the event's turn.
use Rattle.std.proofs.Common.{◌≡◌, ◌≤◌, ◌∙◌, ℕ, true, false, List, refl, sym, ap, subst, arith}
use Rattle.std.specs.Prelude.{Option, Some, None}
use Rattle.link_timers.specs.declared.role.Role.{Role}
use Rattle.link_timers.specs.declared.timers.TimerId.{TimerId}
use Rattle.data_transfer.specs.Traffic.{Taken}
use Rattle.packet_channel.specs.Channel.{Refusal, Request as ask}
use Rattle.packet_layer.specs.Layer.{front_on, channel_given, request_refusal}
use Rattle.packet_end.specs.PacketEnd.{PacketEnd}
use Rattle.packet_host.specs.Host.{call_parts, after_call, after_request, after_refuse, after_say, after_take, taken_as, refuse_refusal}
use Rattle.data_transfer.specs.Cutting.{cut}
use Rattle.packet_host.specs.Saying.{message, say_refusal}
use Rattle.packet_host.specs.Asking.{ask_refusal, after_ask}
use Rattle.packet_host.specs.declared.request.HostRequest.{HostRequest}
use Rattle.packet_host.specs.declared.request.HostRequest.TheVariants.{Answer, Refuse, Say, Interrupt, Reset, Clear, Stop, Go}
use Rattle.x25_pad.specs.Pad.{PadState}
use Rattle.call_records.specs.Book.{Book, places, closes}
use Rattle.call_records.specs.Carried.{carried, unless_refused, placed_on}
use Rattle.call_records.specs.Room.{BookState, opening_notes}
use Rattle.user_nodes.specs.Node.{NodeState, Pad, Host, is_pad}
use Rattle.user_nodes.specs.NodeEvents.{heard, expired, relinked}
use Rattle.user_nodes.specs.Turn.{told, all_sent}
use Rattle.user_nodes.specs.Notes.{at_host}
use Rattle.user_nodes.specs.Terminals.{after_terminal}
use Rattle.user_nodes.specs.declared.terminal.TerminalEvent.{TerminalEvent}
use Rattle.user_nodes.specs.HostTurns.{taken_turn}
use Rattle.user_nodes.specs.Writing.{IsRoomFor, request_written}
use Rattle.user_nodes.proofs.Noted.{expires_told}
use Rattle.node_laws.specs.Quiet.{IsQuiet}
use Rattle.node_laws.proofs.QuietOpens.{opens-calls, opens-asks, opens-refuses, opens-says, opens-takes}
use Rattle.node_laws.proofs.Rooms.{hearing_room, expiry_room, relink_room, terminal_room}
use Rattle.net_events.specs.NodeEvents.{turn_of, Hears, Expires, Relinks, Calls, Takes, AtTerminal}
use Rattle.user_nodes.specs.declared.fault.NodeFault.TheVariants as node_fault
use Rattle.packet_channel.specs.declared.fault.ChannelFault.{ChannelFault}
use Rattle.packet_channel.specs.declared.fault.ChannelFault.TheVariants as channel_fault
use Rattle.packet_layer.specs.RequestView.{refusal_of}
use Rattle.net_events.specs.declared.answer.Outcome.TheVariants.{Done}
use Rattle.net_events.specs.EventView.{request_event}
use Rattle.node_events.specs.Outcomes.{event_fault, channel_fault_of, IsOutcome}
use Rattle.node_events.specs.Served.{IsCalled, taken_written}

-- ---- what comes at the line

kind_heard : (n : NodeState) (octets : List ℕ) → is_pad (heard n octets) ≡ is_pad n
kind_heard (Pad p) octets = refl
kind_heard (Host e) octets = refl

kind_expired : (n : NodeState) (id : TimerId) → is_pad (expired n id) ≡ is_pad n
kind_expired (Pad p) id = refl
kind_expired (Host e) id = refl

kind_relinked : (n : NodeState) → is_pad (relinked n) ≡ is_pad n
kind_relinked (Pad p) = refl
kind_relinked (Host e) = refl

pub called_hears : (role : Role) (n : NodeState) (octets : List ℕ) (s : BookState) → IsQuiet n → 8 ≤ s.room → 1 ≤ s.pairs
    → IsCalled (Hears octets) role n s.book (heard n octets) s
called_hears role n octets s q many some = record {
  reads_so = refl;
  room_for = hearing_room n octets q s.room s.pairs (omega (arith, many)) some;
  kind = kind_heard n octets;
}

pub called_expires : (role : Role) (n : NodeState) (id : TimerId) (s : BookState) → IsQuiet n → 8 ≤ s.room → 1 ≤ s.pairs
    → IsCalled (Expires id) role n s.book (expired n id) s
called_expires role n id s q many some = record {
  reads_so = expires_told role n id s.book q.node.noted q.node.read;
  room_for = expiry_room n id q s.room s.pairs (omega (arith, many)) some;
  kind = kind_expired n id;
}

pub called_relinks : (role : Role) (n : NodeState) (s : BookState) → IsQuiet n → 8 ≤ s.room → 1 ≤ s.pairs
    → IsCalled Relinks role n s.book (relinked n) s
called_relinks role n s q many some = record {
  reads_so = refl;
  room_for = relink_room n q s.room s.pairs (omega (arith, many)) some;
  kind = kind_relinked n;
}

pub called_terminal : (role : Role) (p : PadState) (terminal : ℕ) (event : TerminalEvent) (s : BookState) → IsQuiet (Pad p) → 8 ≤ s.room → 1 ≤ s.pairs
    → IsCalled (AtTerminal terminal event) role (Pad p) s.book (Pad (after_terminal terminal event p)) s
called_terminal role p terminal event s q many some = record {
  reads_so = refl;
  room_for = terminal_room p terminal event q s.room s.pairs (omega (arith, many)) some;
  kind = refl;
}

-- ---- what the user of a host asks

room_for_none : (e : PacketEnd) (room pairs : ℕ) → opening_notes e.notes ≡ 0 → IsRoomFor (Host e) room pairs
room_for_none e room pairs none = (omega (arith, none), omega (arith, none))

pub called_calls : (role : Role) (e : PacketEnd) (address user_data : List ℕ) (channel : ℕ) (b : Book) (room pairs : ℕ) → IsQuiet (Host e)
    → channel_given e.layer e.layer.phase ≡ Some channel
    → IsCalled (Calls address user_data) role (Host e) b (Host (after_call e (call_parts address user_data)))
    (record { book = places role channel address b; room = room; pairs = pairs })
called_calls role e address user_data channel b room pairs q given =
    let parts = call_parts address user_data in
    let e' = after_call e parts in
    record {
      reads_so = ap (λ (o : Option ℕ). told role (Host e') (placed_on role o parts b)) (sym given);
      room_for = room_for_none e' room pairs (opens-calls role e parts b q);
      kind = refl;
    }

accepted : (o : Option Refusal) (done old : Book) → o ≡ None → done ≡ unless_refused o done old
accepted None done old h = refl
accepted (Some r) done old h = absurd (cc)

asked_turn : (role : Role) (e : PacketEnd) (channel : ℕ) (r : HostRequest) (b : Book) → ask_refusal e channel r ≡ None
    → told role (Host (after_ask e channel r)) (request_written e.layer.flow.size role channel r b) ≡ turn_of (request_event channel r) role (Host e) b
asked_turn role e channel Answer b h =
    ap (told role (Host (after_request e channel ask.Accept)))
    (accepted (request_refusal e.layer channel ask.Accept) (carried role channel ask.Accept (front_on e.layer channel) b) b h)
asked_turn role e channel Refuse b h =
    ap (told role (Host (after_refuse e channel))) (accepted (refuse_refusal e channel) (closes role channel b) b h)
asked_turn role e channel (Say octets qualified delivery) b h =
    ap (told role (Host (after_say e channel octets.items qualified delivery)))
    (accepted (say_refusal e.layer channel octets.items qualified) (all_sent role channel (cut e.layer.flow.size (message octets.items qualified delivery)) b) b h)
asked_turn role e channel (Interrupt octets) b h =
    let r = ask.Interrupting octets.items in
    ap (told role (Host (after_request e channel r))) (accepted (request_refusal e.layer channel r) (carried role channel r (front_on e.layer channel) b) b h)
asked_turn role e channel Reset b h =
    let r = ask.Resetting 0 0 in
    ap (told role (Host (after_request e channel r))) (accepted (request_refusal e.layer channel r) (carried role channel r (front_on e.layer channel) b) b h)
asked_turn role e channel Clear b h =
    let r = ask.Clearing 0 0 in
    ap (told role (Host (after_request e channel r))) (accepted (request_refusal e.layer channel r) (carried role channel r (front_on e.layer channel) b) b h)
asked_turn role e channel Stop b h =
    let r = ask.Stopping true in
    ap (told role (Host (after_request e channel r))) (accepted (request_refusal e.layer channel r) (carried role channel r (front_on e.layer channel) b) b h)
asked_turn role e channel Go b h =
    let r = ask.Stopping false in
    ap (told role (Host (after_request e channel r))) (accepted (request_refusal e.layer channel r) (carried role channel r (front_on e.layer channel) b) b h)

asked_none : (role : Role) (e : PacketEnd) (channel : ℕ) (r : HostRequest) (b : Book) → IsQuiet (Host e) → opening_notes (after_ask e channel r).notes ≡ 0
asked_none role e channel Answer b q = opens-asks role e channel ask.Accept b q
asked_none role e channel Refuse b q = opens-refuses role e channel b q
asked_none role e channel (Say octets qualified delivery) b q = opens-says role e channel octets.items qualified delivery b q
asked_none role e channel (Interrupt octets) b q = opens-asks role e channel (ask.Interrupting octets.items) b q
asked_none role e channel Reset b q = opens-asks role e channel (ask.Resetting 0 0) b q
asked_none role e channel Clear b q = opens-asks role e channel (ask.Clearing 0 0) b q
asked_none role e channel Stop b q = opens-asks role e channel (ask.Stopping true) b q
asked_none role e channel Go b q = opens-asks role e channel (ask.Stopping false) b q

pub called_asks : (role : Role) (e : PacketEnd) (channel : ℕ) (r : HostRequest) (b : Book) (room pairs : ℕ) → IsQuiet (Host e)
    → ask_refusal e channel r ≡ None
    → IsCalled (request_event channel r) role (Host e) b (Host (after_ask e channel r)) (record { book = request_written e.layer.flow.size role channel r b; room = room; pairs = pairs })
called_asks role e channel r b room pairs q none = record {
  reads_so = asked_turn role e channel r b none;
  room_for = room_for_none (after_ask e channel r) room pairs (asked_none role e channel r b q);
  kind = refl;
}

taken_none : (role : Role) (e : PacketEnd) (channel : ℕ) (b : Book) → IsQuiet (Host e) → opening_notes (after_take e channel).notes ≡ 0
taken_none role e channel b q = by (front_on e.layer channel) refl
  where
    by : (o : Option Taken) → front_on e.layer channel ≡ o → opening_notes (after_take e channel).notes ≡ 0
    by None is = ap (λ (o : Option Taken). opening_notes (taken_as o channel e).notes) is ∙ ap opening_notes q.node.read
    by (Some x) is =
        let P : Option Taken → Type 0 = λ o. opening_notes (taken_turn o role e channel b).notes.host ≡ 0 in
        subst P is (opens-takes role e channel b q)

taken_reads : (role : Role) (e : PacketEnd) (channel : ℕ) (b : Book) → IsQuiet (Host e)
    → told role (Host (after_take e channel)) (taken_written (front_on e.layer channel) role channel b) ≡ taken_turn (front_on e.layer channel) role e channel b
taken_reads role e channel b q = by (front_on e.layer channel) refl
  where
    by : (o : Option Taken) → front_on e.layer channel ≡ o
        → told role (Host (after_take e channel)) (taken_written o role channel b) ≡ taken_turn o role e channel b
    by None is =
        ap (λ (o : Option Taken). told role (Host (taken_as o channel e)) b) is
        ∙ (λ i. record {
          node = Host (record e { notes = sym q.node.read i });
          book = Rattle.call_records.specs.Book.all_told role (q.node.read i) b;
          notes = at_host (q.node.read i);
        })
    by (Some x) is = refl

pub called_takes : (role : Role) (e : PacketEnd) (channel : ℕ) (b : Book) (room pairs : ℕ) → IsQuiet (Host e)
    → IsCalled (Takes channel) role (Host e) b (Host (after_take e channel))
    (record { book = taken_written (front_on e.layer channel) role channel b; room = room; pairs = pairs })
called_takes role e channel b room pairs q = record {
  reads_so = taken_reads role e channel b q;
  room_for = room_for_none (after_take e channel) room pairs (taken_none role e channel b q);
  kind = refl;
}

-- ---- what is answered

pub asked_fault : (n : NodeState) (e : PacketEnd) (channel : ℕ) (r : HostRequest)
    → event_fault (request_event channel r) (Host e) ≡ channel_fault_of (ask_refusal e channel r)
asked_fault n e channel Answer = refl
asked_fault n e channel Refuse = refl
asked_fault n e channel (Say octets qualified delivery) = refl
asked_fault n e channel (Interrupt octets) = refl
asked_fault n e channel Reset = refl
asked_fault n e channel Clear = refl
asked_fault n e channel Stop = refl
asked_fault n e channel Go = refl

pub asked_done : (n : NodeState) (channel : ℕ) (r : HostRequest) → IsOutcome (request_event channel r) n Done
asked_done n channel Answer = refl
asked_done n channel Refuse = refl
asked_done n channel (Say octets qualified delivery) = refl
asked_done n channel (Interrupt octets) = refl
asked_done n channel Reset = refl
asked_done n channel Clear = refl
asked_done n channel Stop = refl
asked_done n channel Go = refl

pub fault_is : (fault : ChannelFault) → channel_fault_of (Some (refusal_of fault)) ≡ Some (node_fault.Channel fault)
fault_is channel_fault.NoCall = refl
fault_is channel_fault.Resetting = refl
fault_is channel_fault.QueueFull = refl
fault_is channel_fault.TooLong = refl
fault_is channel_fault.InterruptPending = refl
