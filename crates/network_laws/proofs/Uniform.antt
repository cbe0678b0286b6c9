-- A turn of a node does not look at the book: it makes the same node whatever the book, and what it writes is a list of
-- writes.
use Rattle.std.proofs.Common.{◌≡◌, ℕ, Bool, true, false, List, [], ◌∷◌, Option, Some, None, refl}
use Rattle.std.specs.Prelude.{cond}
use Rattle.link_timers.specs.declared.role.Role.{Role}
use Rattle.data_transfer.specs.Traffic.{Taken}
use Rattle.data_transfer.specs.Cutting.{cut}
use Rattle.packet_layer.specs.Layer.{request_refusal, front_on, channel_given}
use Rattle.packet_end.specs.PacketEnd.{PacketEnd}
use Rattle.packet_host.specs.Host.{call_parts, refuse_refusal, after_call, after_request, after_refuse, after_say}
use Rattle.packet_host.specs.Host.{after_take}
use Rattle.packet_host.specs.Saying.{message, say_refusal}
use Rattle.call_records.specs.Book.{Book}
use Rattle.call_records.specs.Writes.{Write, all_written}
use Rattle.call_records.specs.Writes.Write.{Told, Placed, Asked, Said, Took, Cleared, AllClosed}
use Rattle.pad_ports.specs.Notes.{ChannelNote}
use Rattle.pad_ports.specs.Notes as pad
use Rattle.user_nodes.specs.PadWriting.{write_of, writes_of}
use Rattle.record_laws.specs.Registers.Giving.{GivesNone, AllGiveNone}
use Rattle.user_nodes.specs.Node.{NodeState, Pad, Host, end_of}
use Rattle.user_nodes.specs.NodeEvents.{heard, node_runs, expired, relinked}
use Rattle.user_nodes.specs.Turn.{Turn, told, unchanged}
use Rattle.user_nodes.specs.HostTurns.{taken_turn}
use Rattle.user_nodes.specs.Terminals.{after_terminal}
use Rattle.net_events.specs.NodeEvents.{NodeEvent, turn_of}
use Rattle.net_events.specs.NodeEvents.NodeEvent.{Hears, Expires, Relinks, Restarts, Calls, Asks, Refuses, Says}
use Rattle.net_events.specs.NodeEvents.NodeEvent.{Takes, AtTerminal}

pub record IsUniform (role : Role) (turn : Book → Turn) : Type 0 where
  pub node : (b c : Book) → (turn b).node ≡ (turn c).node
  pub writes : List Write
  pub written : (b : Book) → (turn b).book ≡ all_written role writes b

nothing : (role : Role) (n : NodeState) → IsUniform role (unchanged n)
nothing role n = record { node = λ b c. refl; writes = []; written = λ b. refl }

only_told : (role : Role) (n : NodeState) → IsUniform role (λ b. told role n b)
only_told role (Pad p) = record { node = λ b c. refl; writes = writes_of p.line.notes; written = λ b. refl }
only_told role (Host e) = record { node = λ b c. refl; writes = Told e.notes ∷ []; written = λ b. refl }

-- ---- a timer that may not run

if-runs : (role : Role) (v : Bool) (turn : Book → Turn) (n : NodeState) → IsUniform role turn
    → IsUniform role (λ b. cond v (turn b) (unchanged n b))
if-runs role true turn n h = record { node = h.node; writes = h.writes; written = h.written }
if-runs role false turn n h = nothing role n

-- ---- a take

taken : (role : Role) (e : PacketEnd) (channel : ℕ) (front : Option Taken)
    → IsUniform role (λ b. taken_turn front role e channel b)
taken role e channel None = nothing role (Host e)
taken role e channel (Some x) = record {
  node = λ b c. refl;
  writes = Took channel x ∷ Told (after_take e channel).notes ∷ [];
  written = λ b. refl;
}

-- ---- each event

pub uniform : (event : NodeEvent) (role : Role) (n : NodeState) → IsUniform role (λ b. turn_of event role n b)
uniform (Hears octets) role n = only_told role (heard n octets)
uniform (Expires id) role n = if-runs role (node_runs n id) (λ b. told role (expired n id) b) n (only_told role (expired n id))
uniform Relinks role n = only_told role (relinked n)
uniform Restarts role n = record { node = λ b c. refl; writes = AllClosed ∷ []; written = λ b. refl }
uniform (Calls address user_data) role n =
    let e = end_of n in
    record {
      node = λ b c. refl;
      writes = Placed (channel_given e.layer e.layer.phase) (call_parts address user_data)
          ∷ Told (after_call e (call_parts address user_data)).notes ∷ [];
      written = λ b. refl;
    }
uniform (Asks channel r) role n =
    let e = end_of n in
    record {
      node = λ b c. refl;
      writes = Asked (request_refusal e.layer channel r) channel r (front_on e.layer channel)
          ∷ Told (after_request e channel r).notes ∷ [];
      written = λ b. refl;
    }
uniform (Refuses channel) role n =
    let e = end_of n in
    record {
      node = λ b c. refl;
      writes = Cleared (refuse_refusal e channel) channel ∷ Told (after_refuse e channel).notes ∷ [];
      written = λ b. refl;
    }
uniform (Says channel octets q d) role n =
    let e = end_of n in
    record {
      node = λ b c. refl;
      writes = Said (say_refusal e.layer channel octets q) channel (cut e.layer.flow.size (message octets q d))
          ∷ Told (after_say e channel octets q d).notes ∷ [];
      written = λ b. refl;
    }
uniform (Takes channel) role n = taken role (end_of n) channel (front_on (end_of n).layer channel)
uniform (AtTerminal terminal event) role (Pad p) = only_told role (Pad (after_terminal terminal event p))
uniform (AtTerminal terminal event) role (Host e) = nothing role (Host e)

-- ---- no user gives a calling address

note_gives : (note : ChannelNote) → GivesNone (write_of note)
note_gives (pad.Told note) = tt
note_gives (pad.Placed channel address) = refl
note_gives (pad.Accepted channel) = tt
note_gives (pad.Cleared channel) = tt
note_gives (pad.WasReset channel) = tt
note_gives (pad.Edited channel step) = tt
note_gives (pad.Sent channel d) = tt
note_gives (pad.Interrupted channel octets) = tt
note_gives (pad.Took channel x) = tt

notes_give : (notes : List ChannelNote) → AllGiveNone (writes_of notes)
notes_give [] = tt
notes_give (note ∷ notes) = (note_gives note, notes_give notes)

told_gives : (role : Role) (n : NodeState) → AllGiveNone (only_told role n).writes
unfolding only_told
told_gives role (Pad p) = notes_give p.line.notes
told_gives role (Host e) = (tt, tt)

if_gives : (role : Role) (v : Bool) (turn : Book → Turn) (n : NodeState) (h : IsUniform role turn) → AllGiveNone h.writes → AllGiveNone (if-runs role v turn n h).writes
unfolding if-runs nothing
if_gives role true turn n h g = g
if_gives role false turn n h g = tt

taken_gives : (role : Role) (e : PacketEnd) (channel : ℕ) (front : Option Taken) → AllGiveNone (taken role e channel front).writes
unfolding taken nothing
taken_gives role e channel None = tt
taken_gives role e channel (Some x) = (tt, (tt, tt))

pub none_given : (event : NodeEvent) (role : Role) (n : NodeState) → AllGiveNone (uniform event role n).writes
unfolding uniform nothing
none_given (Hears octets) role n = told_gives role (heard n octets)
none_given (Expires id) role n = if_gives role (node_runs n id) (λ b. told role (expired n id) b) n (only_told role (expired n id)) (told_gives role (expired n id))
none_given Relinks role n = told_gives role (relinked n)
none_given Restarts role n = (tt, tt)
none_given (Calls address user_data) role n = (refl, (tt, tt))
none_given (Asks channel r) role n = (tt, (tt, tt))
none_given (Refuses channel) role n = (tt, (tt, tt))
none_given (Says channel octets q d) role n = (tt, (tt, tt))
none_given (Takes channel) role n = taken_gives role (end_of n) channel (front_on (end_of n).layer channel)
none_given (AtTerminal terminal event) role (Pad p) = told_gives role (Pad (after_terminal terminal event p))
none_given (AtTerminal terminal event) role (Host e) = tt
