-- The text of an answer.
use Rattle.std.specs.Prelude.{ℕ, ◌+◌, ◌/◌, ◌%◌, ◌==◌, ◌&&◌, Bool, true, false, List, [], ◌∷◌, ◌++◌, Option, Some, None}
use Rattle.std.specs.Prelude.{Result, Ok, Err, String, string_bytes, codes, decimal, slice_get, unwrap_or, nat_lt}
use Rattle.std.specs.Prelude.{nat_le, not, if◌then◌else◌}
use Rattle.std.specs.declared.alloc.Global.{Global}
use Rattle.std.specs.Option.{option_map}
use Rattle.std.specs.List.{flat_map}
use Rattle.packet_layer.specs.declared.fault.CallFault.TheVariants.{NotReady, NoChannel}
use Rattle.packet_channel.specs.declared.fault.ChannelFault.TheVariants.{NoCall, Resetting, QueueFull, TooLong}
use Rattle.packet_channel.specs.declared.fault.ChannelFault.TheVariants.{InterruptPending}
use Rattle.data_transfer.specs.declared.taken.Front.{Front}
use Rattle.data_transfer.specs.declared.taken.Front.TheVariants as front
use Rattle.user_nodes.specs.declared.fault.NodeFault.{NodeFault}
use Rattle.user_nodes.specs.declared.fault.NodeFault.TheVariants.{Call, Channel}
use Rattle.user_nodes.specs.declared.note.CallUser.{CallUser}
use Rattle.user_nodes.specs.declared.note.CallUser.TheVariants as user
use Rattle.user_nodes.specs.declared.note.UserNote.{UserNote}
use Rattle.user_nodes.specs.declared.note.NoteKind.{NoteKind}
use Rattle.user_nodes.specs.declared.note.NoteKind.TheVariants.{Dialled, Incoming, Connected, Cleared, Reset}
use Rattle.x25_pad.specs.declared.answer.PadAnswer.TheVariants.{Dropped}
use Rattle.frame_lines.specs.declared.line.Direction.{Direction}
use Rattle.frame_lines.specs.declared.line.Direction.TheVariants.{FromDte, FromDce}
use Rattle.net_events.specs.declared.answer.Put.{Put}
use Rattle.net_events.specs.declared.event.Event.{Event}
use Rattle.net_events.specs.declared.event.Event.TheVariants as event
use Rattle.net_events.specs.declared.answer.Outcome.{Outcome}
use Rattle.net_events.specs.declared.answer.Outcome.TheVariants.{Typed, Printed, Called, Took}
use Rattle.net_events.specs.declared.answer.Answer.{Answer}
use Rattle.net_events.specs.declared.event.StepFault.{StepFault}
use Rattle.net_events.specs.declared.event.StepFault.TheVariants as fault

-- the names of a network's nodes
abbrev pub Names : Type 0
Names = List (String Global)

-- the hexadecimal digit of a number below 16: 48 is `0`, 65 is `A`
abbrev pub hex_digit : ℕ → ℕ
hex_digit n = if nat_lt n 10 then 48 + n else 55 + n

-- a printable character other than a backslash (92), which stands for itself in a text
abbrev pub is_plain : ℕ → Bool
is_plain octet = nat_le 32 octet && nat_lt octet 127 && not (octet == 92)

-- how an octet stands in a text: a printable character for itself, a backslash (92) doubled, any other octet as a
-- backslash and its two hexadecimal digits
abbrev pub shown : ℕ → List ℕ
shown octet =
    if octet == 92 then 92 ∷ 92 ∷ []
    else if nat_le 32 octet && nat_lt octet 127 then octet ∷ []
    else 92 ∷ hex_digit (octet / 16) ∷ hex_digit (octet % 16) ∷ []

-- octets between quotes (34)
abbrev pub quoted : List ℕ → List ℕ
quoted octets = 34 ∷ flat_map shown octets ++ 34 ∷ []

-- the letter where the bit is set
abbrev pub letter_if : ℕ → Bool → List ℕ
letter_if letter true = letter ∷ []
letter_if letter false = []

-- the letters m, q and d of the bits that are set, or a dash where none is
abbrev pub flags_of : (more qualified delivery : Bool) → List ℕ
flags_of more qualified delivery =
    if more then 109 ∷ letter_if 113 qualified ++ letter_if 100 delivery
    else if qualified then 113 ∷ letter_if 100 delivery
    else if delivery then 100 ∷ [] else 45 ∷ []

-- what was taken, if anything, with these octets
abbrev pub taken_text : Option Front → (octets : List ℕ) → List ℕ
taken_text None octets = codes "none"
taken_text (Some front.Interrupt) octets = codes "int " ++ quoted octets
taken_text (Some (front.«Data» len more qualified delivery)) octets =
    codes "data " ++ (flags_of more qualified delivery ++ (32 ∷ quoted octets))

-- the name of the node at this place
abbrev pub name_of : Names → ℕ → List ℕ
name_of names node = unwrap_or (option_map string_bytes (slice_get names node)) []

-- the line of an outcome: of a call that was placed, of what was taken, of this text that a terminal shows, of what was
-- dropped there
abbrev pub outcome_text : Names → Event → Outcome → (text : List ℕ) → List ℕ
outcome_text names (event.Call node address user_data) (Called channel) text =
    name_of names node ++ (47 ∷ decimal channel ++ (codes " called" ++ 10 ∷ []))
outcome_text names (event.Take node channel) (Took taken) text =
    name_of names node ++ (47 ∷ decimal channel ++ (32 ∷ taken_text taken text ++ 10 ∷ []))
outcome_text names (event.AtTerminal node terminal what) Printed text =
    name_of names node ++ (46 ∷ decimal terminal ++ (32 ∷ quoted text ++ 10 ∷ []))
outcome_text names (event.AtTerminal node terminal what) (Typed Dropped) text = codes "dropped" ++ 10 ∷ []
outcome_text names e o text = []

-- the sign of a direction
abbrev pub way_of : Direction → List ℕ
way_of FromDte = codes ">"
way_of FromDce = codes "<"

-- an octet in hexadecimal, behind a space (32)
abbrev pub spaced : ℕ → List ℕ
spaced octet = 32 ∷ hex_digit (octet / 16) ∷ hex_digit (octet % 16) ∷ []

-- the line of a frame that was put: its line, its direction and its octets
abbrev pub frame_text : Put → List ℕ
frame_text put = decimal put.line ++ (32 ∷ way_of put.direction ++ (flat_map spaced put.octets ++ 10 ∷ []))

-- what happened to a call, with the calling address that it gave, if it came in with one, and with the cause and the
-- diagnostic; what a terminal dialled is no host's
abbrev pub happening : NoteKind → List ℕ
happening (Dialled called) = []
happening (Incoming None called user_data) = codes "incoming"
happening (Incoming (Some digits) called user_data) = codes "incoming " ++ flat_map decimal digits
happening Connected = codes "connected"
happening (Cleared cause diagnostic) = codes "cleared " ++ (decimal cause ++ (32 ∷ decimal diagnostic))
happening (Reset cause diagnostic) = codes "reset " ++ (decimal cause ++ (32 ∷ decimal diagnostic))

-- the line of what the user of a host is told; what a terminal is told has none
abbrev pub text_for : CallUser → Names → UserNote → List ℕ
text_for user.Host names note =
    name_of names note.node ++ (47 ∷ decimal note.channel ++ (32 ∷ happening note.kind ++ 10 ∷ []))
text_for (user.Terminal terminal) names note = []

abbrev pub note_text : Names → UserNote → List ℕ
note_text names note = text_for note.user names note

-- the lines of the frames, if they are traced, and of the notes
abbrev pub frames_text : (traces : Bool) → List Put → List ℕ
frames_text true puts = flat_map frame_text puts
frames_text false puts = []

-- why a node refuses
abbrev pub fault_name : NodeFault → List ℕ
fault_name (Call NotReady) = codes "NotReady"
fault_name (Call NoChannel) = codes "NoChannel"
fault_name (Channel NoCall) = codes "NoCall"
fault_name (Channel Resetting) = codes "Resetting"
fault_name (Channel QueueFull) = codes "QueueFull"
fault_name (Channel TooLong) = codes "TooLong"
fault_name (Channel InterruptPending) = codes "InterruptPending"

abbrev pub node_refusal_text : NodeFault → List ℕ
node_refusal_text reason = codes "refused 4 " ++ fault_name reason ++ 10 ∷ []

-- the line of a refusal: its number and name, and for 4 the name of the node's fault
abbrev pub refusal_text : StepFault → List ℕ
refusal_text fault.NoSuchNode = codes "refused 1 NoSuchNode" ++ 10 ∷ []
refusal_text fault.NoSuchTerminal = codes "refused 2 NoSuchTerminal" ++ 10 ∷ []
refusal_text fault.NoSuchCall = codes "refused 3 NoSuchCall" ++ 10 ∷ []
refusal_text (fault.Refused reason) = node_refusal_text reason
refusal_text fault.OutOfMemory = codes "refused 5 OutOfMemory" ++ 10 ∷ []

-- the line of a check
abbrev pub check_line : (all_match : Bool) → List ℕ
check_line true = codes "check ok" ++ 10 ∷ []
check_line false = codes "check fail" ++ 10 ∷ []

-- the text of an answer or a refusal
abbrev pub answer_text : Names → (traces : Bool) → Event → Result Answer StepFault → List ℕ
answer_text names traces e (Ok answer) =
    frames_text traces answer.frames.items
    ++ (flat_map (note_text names) answer.notes.items ++ outcome_text names e answer.outcome answer.text.items)
answer_text names traces e (Err refusal) = refusal_text refusal
