-- A block that is ended is taken by the send queue of the call.
use Rattle.std.proofs.Common.{◌≡◌, ◌≢◌, ℕ, ◌-◌, ◌≤◌, ◌==◌, Bool, true, false, not, ◌&&◌, cond, List, length, Option, Some, None}
use Rattle.std.proofs.Common.{if◌then◌else◌, nat_lt, nat_le, refl, subst, arith}
use Rattle.std.specs.Prelude.{is_some}
use borrow.Author.Tests.{eqb-false}
use Rattle.link_timers.specs.declared.role.Role.{Role}
use Rattle.data_transfer.specs.declared.flow.Flow.{Flow}
use Rattle.pad_editing.specs.Edited.{after_key}
use Rattle.packet_channel.specs.Channel.{Channel, Request, Refusal, refused_if, in_transfer}
use Rattle.packet_layer.specs.Layer.{room_at, channel_of, refusal_at, request_refusal}
use Rattle.pad_terminal.specs.Terminal.{TerminalState, is_present, is_data_transfer, runs_idle_timer}
use Rattle.pad_terminal.specs.Keys.{Input, after_octet, after_data_key, after_command_key, after_ended}
use Rattle.pad_terminal.specs.Keys.{after_idle_time, is_flow_control, is_recall}
use Rattle.pad_terminal.specs.declared.answers.CallCondition.{CallCondition}
use Rattle.pad_terminal.specs.declared.answers.InputAnswer.{InputAnswer}
use Rattle.pad_terminal.specs.declared.answers.InputAnswer.TheVariants.{Dropped, Edited}
use Rattle.x3_params.specs.Settings.{recall_character}
use Rattle.pad_ports.specs.PadLine.{condition, datum}
use Rattle.pad_ports.specs.Ports.{AtLine}
use Rattle.x25_pad.specs.BlocksTaken.{KeyBlocksAreTaken, IdleBlocksAreTaken}

-- ---- the send queue

open_queue : (transfer resetting : Bool) (waiting octets size : ℕ) →
    (cond (transfer && not resetting) (8 - waiting) 0 == 0) ≡ false → octets ≤ size →
    refused_if (not transfer) Refusal.NoCall
    (refused_if resetting Refusal.IsResetting
    (refused_if (nat_le 8 waiting) Refusal.QueueFull (refused_if (nat_lt size octets) Refusal.TooLong None)))
    ≡ None
open_queue false resetting waiting octets size h le = cc
open_queue true true waiting octets size h le = cc
open_queue true false waiting octets size h le =
    let some : 8 - waiting ≢ 0 = eqb-false _ _ h in
    let free : nat_le 8 waiting ≡ false = grind arith in
    let short : nat_lt size octets ≡ false = grind arith in
    rw (free, short) refl

taken_at : (role : Role) (flow : Flow) (found : Option Channel) (block : List ℕ) → (room_at found == 0) ≡ false →
    length block ≤ flow.size → refusal_at role flow (Request.Sending (datum block false)) found ≡ None
taken_at role flow None block h le = cc
taken_at role flow (Some ch) block h le =
    open_queue (in_transfer ch.state) ch.resetting (length ch.traffic.waiting) (length block) flow.size h le

-- ---- a block is ended only where the queue is not full

picked : (P : Type 0) (b : Bool) (x y : Input) (answer : InputAnswer) → (x.answer ≡ answer → P) →
    (y.answer ≡ answer → P) → (if b then x else y).answer ≡ answer → P
picked P true x y answer f g h = f h
picked P false x y answer f g h = g h

edited_with_room : (found : Option (List ℕ)) (full : Bool) (x y : Input) (block : List ℕ) → x.answer ≡ Dropped →
    y.answer ≡ Edited found → (if is_some found && full then x else y).answer ≡ Edited (Some block) → full ≡ false
edited_with_room found false x y block dropped edited h = refl
edited_with_room None true x y block dropped edited h = cc
edited_with_room (Some b) true x y block dropped edited h = cc

not_by_command : (P : Type 0) (ended : Option (List ℕ)) (call : CallCondition) (t : TerminalState) (block : List ℕ) →
    (after_ended ended call t).answer ≡ Edited (Some block) → P
not_by_command P None call t block h = cc
not_by_command P (Some line) call t block h = cc

key_with_room : (o : ℕ) (call : CallCondition) (t : TerminalState) (block : List ℕ) →
    (after_octet o call t).answer ≡ Edited (Some block) → call.queue_full ≡ false
key_with_room o call t block h =
    picked (call.queue_full ≡ false) (is_data_transfer t.mode) (after_data_key o call.queue_full t)
    (if is_present t.mode then after_command_key o call t else record { terminal = t; answer = Dropped }) (Edited (Some block))
    (λ typed.
    picked (call.queue_full ≡ false) (is_flow_control t.settings.params o) _ _ (Edited (Some block)) (λ no. cc)
    (λ other.
    picked (call.queue_full ≡ false) (is_recall (recall_character t.settings.params) o) _ _
    (Edited (Some block)) (λ no. cc)
    (λ edited.
    edited_with_room (after_key t.settings.params o t.held).block call.queue_full _ _ block refl refl edited)
    other)
    typed)
    (λ other.
    picked (call.queue_full ≡ false) (is_present t.mode) (after_command_key o call t) _ (Edited (Some block))
    (λ command. not_by_command (call.queue_full ≡ false) _ call _ block command) (λ no. cc)
    other)
    h

idle_with_room : (full : Bool) (t : TerminalState) (block : List ℕ) →
    (after_idle_time full t).answer ≡ Edited (Some block) → full ≡ false
idle_with_room false t block h = refl
idle_with_room true t block h =
    picked (true ≡ false) (runs_idle_timer t) _ _ (Edited (Some block)) (λ no. cc) (λ no. cc) h

-- ---- both

block_taken : (a : AtLine) (block : List ℕ) (call : ℕ) → a.port.call ≡ Some call →
    length block ≤ a.line.end.layer.flow.size →
    (condition a.port.call a.line).queue_full ≡ false →
    request_refusal a.line.end.layer call (Request.Sending (datum block false)) ≡ None
block_taken a block call is le full =
    let P : Option ℕ → Type 0 = λ found. (condition found a.line).queue_full ≡ false in
    let there : (condition (Some call) a.line).queue_full ≡ false = subst P is full in
    taken_at a.line.end.layer.role a.line.end.layer.flow (channel_of a.line.end.layer call) block there le

pub key_blocks : KeyBlocksAreTaken
key_blocks o a block call answer is le =
    block_taken a block call is le (key_with_room o (condition a.port.call a.line) a.port.terminal block answer)

pub idle_blocks : IdleBlocksAreTaken
idle_blocks a block call answer is le =
    block_taken a block call is le (idle_with_room _ a.port.terminal block answer)
