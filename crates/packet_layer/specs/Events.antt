-- What comes to a packet layer and what it gives, in octets and by the names of timers.
use Rattle.std.specs.Prelude.{◌≡◌, ℕ, Bool, false, List, Option, Some, None, Ok}
use Rattle.link_timers.specs.declared.role.Role.{Role}
use Rattle.link_timers.specs.declared.role.Role.TheVariants.{Dte, Dce}
use Rattle.link_timers.specs.declared.timers.TimerId.{TimerId}
use Rattle.link_timers.specs.declared.timers.TimerId.TheVariants.{T10, T20, T11, T12, T13, T21, T22, T23}
use Rattle.packet_codec.specs.Packet.{spelling}
use Rattle.packet_codec.specs.Reading.{reading}
use Rattle.data_transfer.specs.declared.flow.Flow.{Flow}
use Rattle.data_transfer.specs.Packets.{Packet, Received}
use Rattle.packet_layer.specs.Layer.{Layer, Timer, unread, on_received, on_timer, runs}
use Rattle.data_transfer.specs.Octets.{content_of, heard}

-- ---- octets

abbrev pub after_hearing : Layer → Option Received → Layer
after_hearing l None = l
after_hearing l (Some r) = on_received l r

-- notes that were not read are dropped, and then octets that name no channel are ignored
abbrev pub on_octets : Layer → List ℕ → Layer
on_octets l octets = after_hearing (unread l) (heard l.flow octets)

-- the octets of a packet that goes to the link, or what stood there before where none goes
abbrev pub written_packet : Flow → Option Packet → List ℕ → List ℕ
written_packet flow None old = old
written_packet flow (Some p) old =
    spelling (record { numbering = flow.numbering; channel = p.channel; content = content_of p.body })

abbrev pub ReadsBack : Flow → Option Packet → List ℕ → Type 0
ReadsBack flow None octets = Unit {0}
ReadsBack flow (Some p) octets =
    reading flow.numbering flow.size octets
    ≡ Ok (record { numbering = flow.numbering; channel = p.channel; content = content_of p.body })

-- the far end hears that packet in the octets
abbrev pub IsHeard : Flow → Option Packet → List ℕ → Type 0
IsHeard flow None octets = Unit {0}
IsHeard flow (Some p) octets = heard flow octets ≡ Some (Received.Whole p)

-- ---- timers: T20 to T23 are a DTE's, T10 to T13 a DCE's

abbrev pub timer_named : Role → TimerId → Option Timer
timer_named Dte T20 = Some Timer.RestartTimer
timer_named Dte (T21 channel) = Some (Timer.CallTimer channel)
timer_named Dte (T22 channel) = Some (Timer.ResetTimer channel)
timer_named Dte (T23 channel) = Some (Timer.ClearTimer channel)
timer_named Dce T10 = Some Timer.RestartTimer
timer_named Dce (T11 channel) = Some (Timer.CallTimer channel)
timer_named Dce (T12 channel) = Some (Timer.ResetTimer channel)
timer_named Dce (T13 channel) = Some (Timer.ClearTimer channel)
timer_named role id = None

abbrev pub runs_named : Layer → Option Timer → Bool
runs_named l None = false
runs_named l (Some t) = runs l t

-- an expiry of a timer that is not the layer's changes nothing
abbrev pub on_named : Layer → Option Timer → Layer
on_named l None = l
on_named l (Some t) = on_timer l t
