-- A worked run of a PAD of two terminals, by computation: on a call that stands a terminal types, takes an octet back and ends a block.
use Rattle.std.specs.Prelude.{◌≡◌, ℕ, true, false, List, [], ◌∷◌}
use Rattle.std.proofs.Common.{refl}
use Rattle.pad_editing.specs.Edited.{key, after_key, after_idle}
use Rattle.x3_params.specs.Forwarding.{class_of}
use Rattle.data_transfer.specs.Flow.{modulo_8}
use Rattle.packet_end.specs.PacketEnd.{finished, all_offered}
use Rattle.packet_end.specs.declared.params.EndParams.{EndParams}
use Rattle.pad_ports.specs.PadLine.{datum}
use Rattle.pad_ports.specs.Notes.{Edited, Sent}
use Rattle.pad_ports.specs.Ports as port
use Rattle.x25_pad.specs.Pad.{PadState, terminal_event, all_heard}
use Rattle.x25_pad.specs.Making.{made}
use Rattle.node_laws.specs.Pads.Standing.{drained}

abbrev ends : EndParams
ends = record { k = 7; n2 = 3; channels = 4; flow = modulo_8 2; standing = true }

-- CR ends a block, and DEL takes an octet back
abbrev params : List ℕ
params = 1 ∷ 1 ∷ 2 ∷ 0 ∷ 0 ∷ 1 ∷ 2 ∷ 0 ∷ 0 ∷ 0 ∷ 14 ∷ 1 ∷ 0 ∷ 0 ∷ 1 ∷ 127 ∷ 24 ∷ 18 ∷ []

abbrev before : PadState
before = made (record { line = ends; params = params; terminals = 2 })

abbrev typed : PadState → ℕ → PadState
typed p octet = drained (terminal_event 0 (port.after_key octet) p)

abbrev text : PadState
text = typed (typed (typed (typed before 72) 69) 127) 73

ended_notes : (terminal_event 0 (port.after_key 13) text).line.notes ≡ Edited 1 (key 13 params) ∷ Sent 1 (datum (72 ∷ 73 ∷ 13 ∷ []) false) ∷ []
unfolding finished all_offered after_key after_idle all_heard class_of
ended_notes = refl
