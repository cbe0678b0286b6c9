-- What a turn makes of a node, and what its users are told, does not depend on the book.
use Rattle.std.proofs.Common.{ℕ, Bool, true, false, Option, Some, None, refl}
use Rattle.std.specs.Prelude.{if◌then◌else◌}
use Rattle.link_timers.specs.declared.role.Role.{Role}
use Rattle.link_timers.specs.declared.timers.TimerId.{TimerId}
use Rattle.data_transfer.specs.Traffic.{Taken}
use Rattle.packet_layer.specs.Layer.{front_on}
use Rattle.packet_end.specs.PacketEnd.{PacketEnd}
use Rattle.call_records.specs.Book.{Book}
use Rattle.user_nodes.specs.Node.{NodeState, Pad, Host, end_of}
use Rattle.user_nodes.specs.NodeEvents.{heard, node_runs, expired, relinked}
use Rattle.user_nodes.specs.Turn.{unchanged, told}
use Rattle.user_nodes.specs.HostTurns.{taken_turn}
use Rattle.net_events.specs.NodeEvents.{NodeEvent, Hears, Expires, Relinks, Restarts, Calls, Asks, Refuses, Says}
use Rattle.net_events.specs.NodeEvents.{Takes, AtTerminal, turn_of}
use Rattle.live_laws.specs.Writing.{AreAlike}

told_alike : (role : Role) (n : NodeState) (b c : Book) → AreAlike (told role n b) (told role n c)
told_alike role (Pad p) b c = record { node = refl; notes = refl }
told_alike role (Host e) b c = record { node = refl; notes = refl }

expired_alike : (runs : Bool) (role : Role) (n : NodeState) (id : TimerId) (b c : Book)
    → AreAlike (if runs then told role (expired n id) b else unchanged n b)
    (if runs then told role (expired n id) c else unchanged n c)
expired_alike true role n id b c = told_alike role (expired n id) b c
expired_alike false role n id b c = record { node = refl; notes = refl }

taken_alike : (taken : Option Taken) (role : Role) (e : PacketEnd) (channel : ℕ) (b c : Book)
    → AreAlike (taken_turn taken role e channel b) (taken_turn taken role e channel c)
taken_alike None role e channel b c = record { node = refl; notes = refl }
taken_alike (Some x) role e channel b c = record { node = refl; notes = refl }

pub turns_alike : (event : NodeEvent) (role : Role) (n : NodeState) (b c : Book)
    → AreAlike (turn_of event role n b) (turn_of event role n c)
turns_alike (AtTerminal terminal event) role (Pad p) b c = record { node = refl; notes = refl }
turns_alike (AtTerminal terminal event) role (Host e) b c = record { node = refl; notes = refl }
turns_alike (Hears octets) role n b c = told_alike role (heard n octets) b c
turns_alike (Expires id) role n b c = expired_alike (node_runs n id) role n id b c
turns_alike Relinks role n b c = told_alike role (relinked n) b c
turns_alike Restarts role n b c = record { node = refl; notes = refl }
turns_alike (Calls address user_data) role n b c = record { node = refl; notes = refl }
turns_alike (Asks channel r) role n b c = record { node = refl; notes = refl }
turns_alike (Refuses channel) role n b c = record { node = refl; notes = refl }
turns_alike (Says channel octets qualified delivery) role n b c = record { node = refl; notes = refl }
turns_alike (Takes channel) role n b c = taken_alike (front_on (end_of n).layer channel) role (end_of n) channel b c
