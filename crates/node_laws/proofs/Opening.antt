-- How many notes of a turn open something.
use Rattle.std.specs.Prelude.{◌≡◌, Bool, true, false, cond, if◌then◌else◌, [], Option, Some, None}
use Rattle.std.proofs.Common.{refl, ap, ◌∙◌, lit≤}
use Rattle.data_transfer.specs.Traffic.{Taken}
use Rattle.packet_channel.specs.Channel.{Request, Refusal}
use Rattle.packet_layer.specs.Layer.{call_refusal, request_refusal, front_on}
use Rattle.packet_end.specs.PacketEnd.{PacketEnd, begun, after_timer, finished, asked, called, runs_at}
use Rattle.packet_host.specs.Host as host
use Rattle.packet_host.specs.Host.{ended, refuse_refusal, let_go, taken_as}
use Rattle.data_transfer.specs.Cutting.{cut}
use Rattle.packet_host.specs.Saying.{message, queued, say_refusal}
use Rattle.x25_pad.specs.Pad as pad
use Rattle.call_records.specs.Room.{opening_notes}
use Rattle.node_laws.proofs.LineRecords.Opening.{frame_opens, expiry_opens, relink_opens, end_opens, read_kept}
use Rattle.user_nodes.specs.Node.{Pad, Host}
use Rattle.user_nodes.specs.Turn.{unchanged, told}
use Rattle.user_nodes.specs.HostTurns.{taken_turn}
use Rattle.node_laws.specs.Opening.{OpensNothing, HearingOpens, ExpiryOpens, RelinkOpens, CallOpens, AskingOpens, RefusalOpens, SayingOpens, TakingOpens}

-- ---- what comes from the line

pub hearing_opens : HearingOpens
hearing_opens role (Host e) octets b = (frame_opens e octets).1
hearing_opens role (Pad p) octets b = lit≤ tt

pub expiry_opens_none : ExpiryOpens
expiry_opens_none s b l role (Host e) id h k = by (runs_at e id)
  where
    by : (v : Bool) → OpensNothing (cond v (told role (Host (cond v (finished (after_timer (begun e) id)) e)) b) (unchanged (Host e) b))
    by true = (expiry_opens e id (ap (λ (x : PacketEnd). x.layer.notes) h.end ∙ read_kept s b l role k)).1
    by false = refl
expiry_opens_none s b l role (Pad p) id h k = by (pad.runs_at p id)
  where
    by : (v : Bool) → OpensNothing (if v then told role (Pad (pad.after_timer p id)) b else unchanged (Pad p) b)
    by true = refl
    by false = refl

pub relink_opens_none : RelinkOpens
relink_opens_none role (Host e) b = (relink_opens e).1
relink_opens_none role (Pad p) b = refl

-- ---- what a user asks

user_none : (o : Option Refusal) (asked_ e : PacketEnd) → e.notes ≡ [] → opening_notes (host.unless_refused o (ended asked_) e).notes ≡ 0
user_none None asked_ e read = end_opens asked_
user_none (Some r) asked_ e read = ap opening_notes read

pub call_opens : CallOpens
call_opens role e parts b h = user_none (call_refusal e.layer e.layer.phase) (called e parts) e h.read

pub asking_opens : AskingOpens
asking_opens role e channel r b h = user_none (request_refusal e.layer channel r) (asked e channel r) e h.read

pub refusal_opens : RefusalOpens
refusal_opens role e channel b h = user_none (refuse_refusal e channel) (asked e channel (Request.Clearing 0 0)) e h.read

pub saying_opens : SayingOpens
saying_opens role e channel octets qualified delivery b h =
    user_none (say_refusal e.layer channel octets qualified) (queued channel (cut e.layer.flow.size (message octets qualified delivery)) e) e h.read

pub taking_opens : TakingOpens
taking_opens role e channel b h = by (front_on e.layer channel) refl
  where
    by : (o : Option Taken) → front_on e.layer channel ≡ o → OpensNothing (taken_turn o role e channel b)
    by None is = refl
    by (Some x) is =
        ap (λ (o : Option Taken). opening_notes (taken_as o channel e).notes) is ∙ end_opens (let_go x channel (asked e channel Request.Taking))
