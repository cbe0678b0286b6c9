-- What happens at the end of a line is some acts of its packet layer, which write what the layer tells.
use Rattle.std.specs.Prelude.{◌≡◌, ℕ, zero, suc, Bool, true, false, cond, if◌then◌else◌, List, [], ◌∷◌, ◌++◌, Option, Some, None, is_some}
use Rattle.std.proofs.Common.{refl, sym, ap, append-nil}
use Rattle.link_timers.specs.declared.role.Role.TheVariants.{Dce}
use Rattle.link_timers.specs.declared.timers.TimerId.{TimerId}
use Rattle.link_timers.specs.declared.timers.TimerId.TheVariants.{T1}
use Rattle.lapb.specs.declared.note.Note as link_note
use Rattle.lapb.specs.declared.note.Note.TheVariants.{Nothing, Up, Down}
use Rattle.lapb.specs.Machine.{Octets, on_t1, can_offer}
use Rattle.lapb.specs.Octets.{on_octets}
use Rattle.line_end.specs.End.{End}
use Rattle.data_transfer.specs.declared.flow.Flow.{Flow}
use Rattle.data_transfer.specs.Packets.{Received, Note}
use Rattle.data_transfer.specs.Octets.{heard}
use Rattle.packet_layer.specs.Layer.{Layer, Timer, unread, link_up, link_down, on_received, next_packet}
use Rattle.packet_layer.specs.Events.{timer_named, on_named, after_hearing}
use Rattle.packet_end.specs.PacketEnd.{PacketEnd, heeded, after_packet, expired, runs_at, offered, all_offered, with_next}
use Rattle.call_records.specs.Book.{Book, told, all_told}
use Rattle.switch_lines.specs.Switch.{quieted}
use Rattle.switch_laws.specs.World.{Act}
use Rattle.switch_laws.specs.Steps.{Happening, does, note_acts, heard_acts, packet_acts, timer_acts, expiry_acts, happening_acts, offer_acts}
use Rattle.switch_laws.specs.Steps.Happening.{Brings, RunsOut, Relinks}
use Rattle.switched_call_laws.proofs.SwitchRecords.Chains.{AllOn, chain, chain_writes, on_append}

-- these acts lead from the one layer to the other, and write these notes
pub record Explains (acts : List Act) (l m : Layer) (notes : List Note) : Type 0 where
  pub layer : chain acts l ≡ m
  pub writes_ : (b : Book) → chain_writes acts l b ≡ all_told Dce notes b

told_append : (before more : List Note) (b : Book) → all_told Dce (before ++ more) b ≡ all_told Dce more (all_told Dce before b)
told_append [] more b = refl
told_append (note ∷ before) more b = told_append before more (told Dce note b)

by_cond : (P : List Act → PacketEnd → Type 0) (v : Bool) (as_ bs : List Act) (e f : PacketEnd) → P as_ e → P bs f → P (if v then as_ else bs) (cond v e f)
by_cond P true as_ bs e f p q = p
by_cond P false as_ bs e f p q = q

-- ---- a session begins or ends, and a packet comes

heard_first : (n : ℕ) (l : Layer) (o : Option Received) → Explains (heard_acts n o) (unread l) (unread (after_hearing (unread l) o)) (after_hearing (unread l) o).notes
heard_first n l None = record { layer = refl; writes_ = λ b. refl }
heard_first n l (Some r) = record { layer = refl; writes_ = λ b. refl }

-- after notes of before
heard_later : (n : ℕ) (l : Layer) (notes : List Note) (o : Option Received) (b : Book) → chain_writes (heard_acts n o) (unread l) (all_told Dce notes b) ≡ all_told Dce (notes ++ (after_hearing (unread l) o).notes) b
heard_later n l notes None b = sym (ap (λ (ns : List Note). all_told Dce ns b) (append-nil notes))
heard_later n l notes (Some r) b = sym (told_append notes (on_received (unread l) r).notes b)

heard_layer : (n : ℕ) (l : Layer) (o : Option Received) → chain (heard_acts n o) (unread l) ≡ unread (after_hearing (unread l) o)
heard_layer n l None = refl
heard_layer n l (Some r) = refl

brought : (n : ℕ) (e : PacketEnd) (to : End) (note : link_note.Note) (accepted : Option Octets)
    → Explains (note_acts n note ++ packet_acts n e.layer.flow accepted) (unread e.layer) (after_packet accepted (heeded note (record (quieted e) { line = to }))).layer (after_packet accepted (heeded note (record (quieted e) { line = to }))).notes
brought n e to Nothing None = record { layer = refl; writes_ = λ b. refl }
brought n e to Nothing (Some octets) = heard_first n e.layer (heard e.layer.flow octets)
brought n e to Up None = record { layer = refl; writes_ = λ b. refl }
brought n e to Up (Some octets) = record { layer = heard_layer n (link_up (unread e.layer)) (heard e.layer.flow octets); writes_ = λ b. heard_later n (link_up (unread e.layer)) (link_up (unread e.layer)).notes (heard e.layer.flow octets) b }
brought n e to Down None = record { layer = refl; writes_ = λ b. refl }
brought n e to Down (Some octets) = record { layer = heard_layer n (link_down (unread e.layer)) (heard e.layer.flow octets); writes_ = λ b. heard_later n (link_down (unread e.layer)) (link_down (unread e.layer)).notes (heard e.layer.flow octets) b }

-- ---- timers

session : (n : ℕ) (e : PacketEnd) (to : End) (note : link_note.Note) → Explains (note_acts n note) (unread e.layer) (heeded note (record (quieted e) { line = to })).layer (heeded note (record (quieted e) { line = to })).notes
session n e to Nothing = record { layer = refl; writes_ = λ b. refl }
session n e to Up = record { layer = refl; writes_ = λ b. refl }
session n e to Down = record { layer = refl; writes_ = λ b. refl }

named : (n : ℕ) (l : Layer) (o : Option Timer) → Explains (timer_acts n o) (unread l) (unread (on_named (unread l) o)) (on_named (unread l) o).notes
named n l None = record { layer = refl; writes_ = λ b. refl }
named n l (Some t) = record { layer = refl; writes_ = λ b. refl }

ran_out : (n : ℕ) (id : TimerId) (e : PacketEnd) → Explains (expiry_acts n id e) (unread e.layer) (expired id (quieted e)).layer (expired id (quieted e)).notes
ran_out n T1 e = session n e _ (on_t1 e.line.link).note
ran_out n id e = named n e.layer (timer_named e.layer.role id)

pub happening_explains : (n : ℕ) (what : Happening) (e : PacketEnd) → Explains (happening_acts n what e) (unread e.layer) (does what (quieted e)).layer (does what (quieted e)).notes
happening_explains n (Brings octets) e = brought n e _ (on_octets e.line.link octets).note (on_octets e.line.link octets).accepted
happening_explains n (RunsOut id) e =
    by_cond (λ (acts : List Act) (y : PacketEnd). Explains acts (unread e.layer) y.layer y.notes) (runs_at (quieted e) id) _ _ _ _ (ran_out n id e) (record { layer = refl; writes_ = λ b. refl })
happening_explains n Relinks e = record { layer = refl; writes_ = λ b. refl }

-- ---- packets go to the link

offer_layer : (most n : ℕ) (e : PacketEnd) → chain (offer_acts most n e) e.layer ≡ (offered most e).layer
offer_layer zero n e = refl
offer_layer (suc most) n e = by (can_offer e.line.link) (is_some (next_packet e.layer).packet) (offer_layer most n (with_next e (next_packet e.layer)))
  where
    by : (room says : Bool) → chain (offer_acts most n (with_next e (next_packet e.layer))) (next_packet e.layer).layer ≡ (offered most (with_next e (next_packet e.layer))).layer
        → chain (if room then (if says then Act.Gives n ∷ offer_acts most n (with_next e (next_packet e.layer)) else []) else []) e.layer ≡ (cond room (cond says (offered most (with_next e (next_packet e.layer))) e) e).layer
    by true true h = h
    by true false h = refl
    by false says h = refl

pub all_offer_layer : (n : ℕ) (e : PacketEnd) → chain (offer_acts 7 n e) e.layer ≡ (all_offered e).layer
unfolding all_offered
all_offer_layer n e = offer_layer 7 n e

pub offer_writes : (most n : ℕ) (e : PacketEnd) (l : Layer) (b : Book) → chain_writes (offer_acts most n e) l b ≡ b
offer_writes zero n e l b = refl
offer_writes (suc most) n e l b = by (can_offer e.line.link) (is_some (next_packet e.layer).packet) (λ m. offer_writes most n (with_next e (next_packet e.layer)) m b)
  where
    by : (room says : Bool) → ((m : Layer) → chain_writes (offer_acts most n (with_next e (next_packet e.layer))) m b ≡ b) → chain_writes (if room then (if says then Act.Gives n ∷ offer_acts most n (with_next e (next_packet e.layer)) else []) else []) l b ≡ b
    by true true h = h (next_packet l).layer
    by true false h = refl
    by false says h = refl

-- ---- all on the line

notes_on : (n : ℕ) (note : link_note.Note) → AllOn n (note_acts n note)
notes_on n Nothing = tt
notes_on n Up = (refl, tt)
notes_on n Down = (refl, tt)

heard_on : (n : ℕ) (o : Option Received) → AllOn n (heard_acts n o)
heard_on n None = tt
heard_on n (Some r) = (refl, tt)

packets_on : (n : ℕ) (flow : Flow) (o : Option Octets) → AllOn n (packet_acts n flow o)
packets_on n flow None = tt
packets_on n flow (Some octets) = heard_on n (heard flow octets)

timers_on : (n : ℕ) (o : Option Timer) → AllOn n (timer_acts n o)
timers_on n None = tt
timers_on n (Some t) = (refl, tt)

expiry_on : (n : ℕ) (id : TimerId) (e : PacketEnd) → AllOn n (expiry_acts n id e)
expiry_on n T1 e = notes_on n (on_t1 e.line.link).note
expiry_on n id e = timers_on n (timer_named e.layer.role id)

if_on : (n : ℕ) (v : Bool) (as_ bs : List Act) → AllOn n as_ → AllOn n bs → AllOn n (if v then as_ else bs)
if_on n true as_ bs p q = p
if_on n false as_ bs p q = q

pub happening_on : (n : ℕ) (what : Happening) (e : PacketEnd) → AllOn n (happening_acts n what e)
happening_on n (Brings octets) e = on_append n (note_acts n (on_octets e.line.link octets).note) (packet_acts n e.layer.flow (on_octets e.line.link octets).accepted) (notes_on n (on_octets e.line.link octets).note) (packets_on n e.layer.flow (on_octets e.line.link octets).accepted)
happening_on n (RunsOut id) e = if_on n (runs_at e id) _ _ (expiry_on n id e) tt
happening_on n Relinks e = (refl, tt)

pub offers_on : (most n : ℕ) (e : PacketEnd) → AllOn n (offer_acts most n e)
offers_on zero n e = tt
offers_on (suc most) n e = if_on n (can_offer e.line.link) _ _ (if_on n (is_some (next_packet e.layer).packet) _ _ (refl, offers_on most n (with_next e (next_packet e.layer))) tt) tt
