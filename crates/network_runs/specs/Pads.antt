-- Two runs of a PAD of two terminals and a host at a line. From the making on: the first terminal dials the host and is
-- connected, types with a deletion, the host reads a parameter by a message of X.29 and is answered, and resets the
-- call. And on a call that stands: it is reset while text is held, which goes with what is typed behind the reset; the
-- frame with it is lost, T1 expires, and it is sent again; a break is told by an interrupt and an indication, the
-- command INT sends another interrupt, and the terminal clears the call.
use Rattle.std.specs.Prelude.{◌≡◌, ℕ, Bool, true, false, nat_eq, List, [], ◌∷◌, ◌++◌, map, slice_get}
use Rattle.std.specs.Prelude.{Option, Some, None}
use Rattle.std.specs.Option.{option_map}
use Rattle.std.specs.Cmp.Lexicographic.{pointwise}
use Rattle.link_timers.specs.declared.role.Role.TheVariants.{Dte, Dce}
use Rattle.link_timers.specs.declared.timers.TimerId.TheVariants.{T1}
use Rattle.epochs.specs.Item.{DataPacket}
use Rattle.epochs.specs.Epoch.{SentEpoch, TakenEpoch, nothing_sent, nothing_taken}
use Rattle.pad_editing.specs.Edited.{key}
use Rattle.data_transfer.specs.Flow.{modulo_8}
use Rattle.packet_channel.specs.Channel.{Request}
use Rattle.packet_channel.specs.Channel.Request.{Accept, Resetting}
use Rattle.packet_end.specs.declared.params.EndParams.{EndParams}
use Rattle.call_records.specs.Records.{RecordValue, new_record, with_closed}
use Rattle.frame_lines.specs.declared.line.Direction.TheVariants.{FromDte}
use Rattle.user_nodes.specs.Node.{NodeState, Pad, Host}
use Rattle.user_nodes.specs.Terminals.{text_shown}
use Rattle.user_nodes.specs.declared.terminal.TerminalEvent.{TerminalEvent}
use Rattle.user_nodes.specs.declared.terminal.TerminalEvent.TheVariants.{Key, Break, Print}
use Rattle.net_events.specs.NodeEvents.{Expires, Asks, Says, Takes, AtTerminal}
use Rattle.net_events.specs.Network.{NetNode, User, Switching, Network}
use Rattle.net_config.specs.NetPlan.{NetPlan, NewPad, NewHost, PlannedUser}
use Rattle.pad_terminal.specs.Terminal.{made}
use Rattle.node_laws.specs.Pads.Occasions.{Occasion, TookMessage, HadBreak, HadCommand}
use Rattle.node_laws.specs.Pads.Sending.{HasSaid}
use Rattle.network_runs.specs.Acting.{Act, AtNode, IsLost}
use Rattle.network_runs.specs.Making.{network_of}
use Rattle.network_runs.specs.Runs.{Stage, IsRun, acted_all, passes_of, line_of, is_one}

-- ---- the network: one line of one channel

abbrev pub params : (standing : Bool) → EndParams
params standing = record { k = 7; n2 = 3; channels = 1; flow = modulo_8 2; standing = standing }

-- DLE recalls, CR ends a block, DEL takes an octet back; a break is told by an interrupt and an indication of break,
-- and discards output
abbrev pub values : List ℕ
values = 1 ∷ 1 ∷ 2 ∷ 0 ∷ 0 ∷ 1 ∷ 21 ∷ 0 ∷ 0 ∷ 0 ∷ 14 ∷ 1 ∷ 0 ∷ 0 ∷ 1 ∷ 127 ∷ 24 ∷ 18 ∷ []

abbrev pub plan : (standing : Bool) → NetPlan
plan standing = record {
  nodes =
      PlannedUser (record { line = 0; role = Dte; as_dte = NewPad values 2 })
      ∷ PlannedUser (record { line = 0; role = Dce; as_dte = NewHost }) ∷ [];
  lines = line_of 0 1 [] (params standing) ∷ [];
}

-- ---- what happens: something at the first terminal; the host asks something of the call on channel 1, sends a message
-- of X.29 there, or takes what waits

abbrev pub does : TerminalEvent → Act
does event = AtNode 0 Dte (AtTerminal 0 event)

abbrev pub asked : Request → Act
asked r = AtNode 0 Dce (Asks 1 r)

abbrev pub tells : List ℕ → Act
tells octets = AtNode 0 Dce (Says 1 octets true false)

abbrev pub takes_next : Act
takes_next = AtNode 0 Dce (Takes 1)

abbrev pub rounds : ℕ → List Act
rounds n = passes_of (0 ∷ []) n []

abbrev pub types : List ℕ → List Act
types octets = map (λ octet. does (Key octet)) octets

-- 2 and CR; HX, a deletion, I and CR; N, and O and CR; DLE, INT and CR; DLE, CLR and CR
abbrev pub dialled : List ℕ
dialled = 50 ∷ 13 ∷ []

abbrev pub greeted : List ℕ
greeted = 72 ∷ 88 ∷ 127 ∷ 73 ∷ 13 ∷ []

abbrev pub begun : List ℕ
begun = 78 ∷ []

abbrev pub ended : List ℕ
ended = 79 ∷ 13 ∷ []

abbrev pub commands : List ℕ
commands = 16 ∷ 73 ∷ 78 ∷ 84 ∷ 13 ∷ []

abbrev pub clears : List ℕ
clears = 16 ∷ 67 ∷ 76 ∷ 82 ∷ 13 ∷ []

-- the message that reads parameter 2, and its answer; the indication that a break discards output
abbrev pub read : List ℕ
read = 4 ∷ 2 ∷ 0 ∷ []

abbrev pub answered : List ℕ
answered = 0 ∷ 2 ∷ 1 ∷ []

abbrev pub broken : List ℕ
broken = 3 ∷ 8 ∷ 1 ∷ []

-- link and packet layer come up, the terminal dials, and the host accepts; the terminal types, the host takes it and
-- reads a parameter
abbrev pub connecting : List Act
connecting =
    rounds 6 ++ types dialled ++ rounds 2 ++ asked Accept ∷ rounds 2 ++ types greeted ++ rounds 1
    ++ takes_next ∷ tells read ∷ rounds 3

-- that is answered as the terminal is shown what waits; the host takes the answer, and resets the call
abbrev pub answering : List Act
answering = does Print ∷ rounds 3 ++ takes_next ∷ rounds 3 ++ asked (Resetting 0 0) ∷ rounds 3

-- the call that stands is reset while text is held; what ends the text is typed behind the reset; the frame is lost, and
-- after a poll it is sent again
abbrev pub holding : List Act
holding =
    types begun ++ asked (Resetting 0 0) ∷ rounds 2 ++ types ended ++ IsLost 0 FromDte ∷ AtNode 0 Dte (Expires T1)
    ∷ rounds 2 ++ takes_next ∷ rounds 2

-- a break, of which the host takes the interrupt and the indication; the command, of which it takes the interrupt; and
-- the terminal clears the call
abbrev pub breaking : List Act
breaking =
    does Break ∷ rounds 2 ++ takes_next ∷ takes_next ∷ rounds 2 ++ types commands ++ rounds 2 ++ takes_next ∷ rounds 2
    ++ types clears ++ rounds 2

-- ---- what the terminal is shown as it prints

abbrev pub shown_at : NodeState → List ℕ
shown_at (Pad p) = text_shown 0 Print p
shown_at (Host e) = []

abbrev pub shows : List ℕ → Option NetNode → Bool
shows text None = false
shows text (Some (User n)) = pointwise nat_eq (shown_at n.node) text
shows text (Some (Switching n)) = false

-- service signals, each between CR LF and CR LF: COM, RESET DTE and CLR CONF
abbrev pub line_with : List ℕ → List ℕ
line_with signal = 13 ∷ 10 ∷ signal ++ 13 ∷ 10 ∷ []

abbrev pub connection : List ℕ
connection = line_with (67 ∷ 79 ∷ 77 ∷ [])

abbrev pub reset_dte : List ℕ
reset_dte = line_with (82 ∷ 69 ∷ 83 ∷ 69 ∷ 84 ∷ 32 ∷ 68 ∷ 84 ∷ 69 ∷ [])

abbrev pub clr_conf : List ℕ
clr_conf = line_with (67 ∷ 76 ∷ 82 ∷ 32 ∷ 67 ∷ 79 ∷ 78 ∷ 70 ∷ [])

-- 2 and CR, the connection, and HX with what takes the X back, I and CR
abbrev pub first_text : List ℕ
first_text = dialled ++ connection ++ 72 ∷ 88 ∷ 8 ∷ 32 ∷ 8 ∷ 73 ∷ 13 ∷ []

-- N, the reset, O and CR, INT and CR and that it is done, CLR and CR, and that the call is cleared
abbrev pub second_text : List ℕ
second_text =
    begun ++ reset_dte ++ ended ++ 73 ∷ 78 ∷ 84 ∷ 13 ∷ 13 ∷ 10 ∷ 67 ∷ 76 ∷ 82 ∷ 13 ∷ clr_conf

abbrev pub has_one : Network → Bool
has_one s = is_one s.register.pairs

abbrev pub dialled_stages : List Stage
dialled_stages =
    record { acts = connecting; test = λ s. shows first_text (slice_get s.nodes 0) }
    ∷ record { acts = answering; test = has_one } ∷ []

abbrev pub standing_stages : List Stage
standing_stages =
    record { acts = holding; test = has_one }
    ∷ record { acts = breaking; test = λ s. shows second_text (slice_get s.nodes 0) }
    ∷ record { acts = does Print ∷ []; test = has_one } ∷ []

-- ---- what the register has then

abbrev pub packet : List ℕ → Bool → DataPacket
packet octets qualified = record { octets = octets; more = false; qualified = qualified; delivery = false }

abbrev pub all_sent : List DataPacket → List (List ℕ) → (covered : ℕ) → SentEpoch
all_sent packets interrupts covered = record { packets = packets; interrupts = interrupts; covered = covered }

abbrev pub all_taken : List DataPacket → List (List ℕ) → (released : ℕ) → TakenEpoch
all_taken packets interrupts released = record { packets = packets; interrupts = interrupts; released = released }

abbrev pub greeting : List ℕ
greeting = 72 ∷ 73 ∷ 13 ∷ []

abbrev pub question : List DataPacket
question = packet read true ∷ []

abbrev pub before_reset : List DataPacket
before_reset = packet greeting false ∷ packet answered true ∷ []

abbrev pub behind_reset : List DataPacket
behind_reset = packet (begun ++ ended) false ∷ packet broken true ∷ []

-- an end's record with these epochs, and at the PAD with these keys
abbrev pub with_epochs : List SentEpoch → SentEpoch → List TakenEpoch → TakenEpoch → RecordValue → RecordValue
with_epochs sent_before sent taken_before taken r =
    record r { sent_before = sent_before; sent = sent; taken_before = taken_before; taken = taken }

abbrev pub with_typed : List ℕ → RecordValue → RecordValue
with_typed octets r = record r { steps = map (λ octet. key octet values) octets }

-- of the call that was dialled: one epoch before the reset, and an empty one behind it
abbrev pub dialled_pad : RecordValue
dialled_pad =
    with_typed greeted
    (with_epochs (all_sent before_reset [] 2 ∷ []) nothing_sent (all_taken question [] 1 ∷ []) nothing_taken
    (new_record 0 0 None (Some (2 ∷ [])) None))

abbrev pub dialled_host : RecordValue
dialled_host =
    with_epochs (all_sent question [] 1 ∷ []) nothing_sent (all_taken before_reset [] 2 ∷ []) nothing_taken
    (new_record 1 1 (Some (2 ∷ [])) None (Some 0))

-- of the call that stood: an empty epoch before the reset, and one behind it; it is over for both ends
abbrev pub interrupts : List (List ℕ)
interrupts = (1 ∷ []) ∷ (1 ∷ []) ∷ []

abbrev pub standing_pad : RecordValue
standing_pad =
    with_closed
    (with_typed (begun ++ ended)
    (with_epochs (nothing_sent ∷ []) (all_sent behind_reset interrupts 2) (nothing_taken ∷ []) nothing_taken
    (new_record 0 0 None None None)))

abbrev pub standing_host : RecordValue
standing_host =
    with_closed
    (with_epochs (nothing_sent ∷ []) nothing_sent (nothing_taken ∷ []) (all_taken behind_reset interrupts 2)
    (new_record 1 1 None None (Some 0)))

-- what the PAD had occasion to say of itself: the message that reads a parameter; and the break and the command
abbrev pub dialled_occasions : List Occasion
dialled_occasions = TookMessage read (made values false) ∷ []

abbrev pub standing_occasions : List Occasion
standing_occasions = HadBreak values false ∷ HadCommand ∷ []

abbrev pub records_after : List Act → Network → Option (List RecordValue)
records_after acts s = option_map (λ t. t.register.records) (acted_all acts s)

pub record PadRun : Type 0 where
  pub dialled : IsRun (plan false) dialled_stages
  pub dialled_records : records_after (connecting ++ answering) (network_of (plan false))
      ≡ Some (dialled_pad ∷ dialled_host ∷ [])
  pub dialled_said : HasSaid dialled_occasions dialled_pad
  pub standing : IsRun (plan true) standing_stages
  pub standing_records : records_after (holding ++ breaking ++ does Print ∷ []) (network_of (plan true))
      ≡ Some (standing_pad ∷ standing_host ∷ [])
  pub standing_said : HasSaid standing_occasions standing_pad
