-- A switch: its lines and routes, and what each event makes of them.
use Rattle.std.specs.Prelude.{ℕ, zero, suc, ◌*◌, ◌==◌, Bool, true, false, ◌&&◌, if◌then◌else◌, List, [], ◌∷◌, length, map}
use Rattle.std.specs.Prelude.{slice_get}
use Rattle.std.specs.Prelude.{Option, Some, None, unwrap_or}
use Rattle.std.specs.List.{list_any, list_all}
use Rattle.link_timers.specs.declared.timers.TimerId.{TimerId}
use Rattle.lapb.specs.Machine.{Octets}
use Rattle.packet_codec.specs.ClearCause.{invalid_facility, not_obtainable, out_of_order, number_busy}
use Rattle.packet_codec.specs.Diagnostic.{no_information}
use Rattle.data_transfer.specs.Packets.{CallParts, Note}
use Rattle.data_transfer.specs.Packets.Note.{Incoming, Connected, Closed, WasReset, InterruptConfirmed, Covered}
use Rattle.packet_channel.specs.Channel.Request.{Clearing}
use Rattle.packet_layer.specs.Layer.{Phase, channel_given}
use Rattle.packet_layer.specs.Layer.Phase.{PacketReady}
use Rattle.packet_end.specs.PacketEnd.{PacketEnd, begun, received, after_timer, relinked, called, all_offered}
use Rattle.packet_end.specs.PacketEnd.{settled, elapsed, runs_at, due, without_first_frame}
use Rattle.address_routes.specs.Routes.{RouteMap, line_for}
use Rattle.switch_joins.specs.Direction.{new_direction}
use Rattle.switch_lines.specs.Lines.{SwitchChannel, SwitchLine, changed, with_joined, ask, is_trunk}
use Rattle.switch_lines.specs.Relay.{told, relayed_first}
-- what happens at the end of a line, whether its link takes a packet that it has, what a restart leaves of it, and
-- whether it is at rest
pub use Rattle.joined_line.specs.SwitchLine.{with_end, quieted, may_offer, without_joins, line_rests}

pub record Switch : Type 0 where
  pub routes : RouteMap
  pub lines : List SwitchLine

-- ---- a Call Request

-- it is cleared with a cause, or goes on from a channel of another line
pub data Answer : Type 0 where
  Clears : (cause : ℕ) → Answer
  Joins : SwitchChannel → Answer

-- the packet layer of the line is not in r1, or no channel is free
abbrev pub no_channel_cause : Phase → ℕ
no_channel_cause PacketReady = number_busy
no_channel_cause phase = out_of_order

abbrev pub answer_free : (line : ℕ) → Phase → Option ℕ → Answer
answer_free n phase None = Clears (no_channel_cause phase)
answer_free n phase (Some c) = Joins (record { line = n; channel = c })

abbrev pub answer_on : (line : ℕ) → Option SwitchLine → Answer
answer_on n None = Clears not_obtainable
answer_on n (Some l) = answer_free n l.end.layer.phase (channel_given l.end.layer l.end.layer.phase)

abbrev pub answer_by : List SwitchLine → (route : Option ℕ) → Answer
answer_by ls None = Clears not_obtainable
answer_by ls (Some n) = answer_on n (slice_get ls n)

abbrev pub has_any : List ℕ → Bool
has_any [] = false
has_any (x ∷ xs) = true

-- the route of a call that came on a line: one back over a trunk is none
abbrev pub route_from : (line : ℕ) → List SwitchLine → (route : Option ℕ) → Option ℕ
route_from n ls None = None
route_from n ls (Some to) = if (to == n) && is_trunk (slice_get ls n) then None else Some to

-- the causes in their order: a facility, no route, no packet layer in r1, no free channel
abbrev pub answer : RouteMap → List SwitchLine → (line : ℕ) → CallParts → Answer
answer routes ls n parts =
    if has_any parts.facilities then Clears invalid_facility
    else answer_by ls (route_from n ls (line_for routes parts.called))

-- what goes on: the calling address is that of the line that the call came on, on a trunk the one that the call has
abbrev pub address_of : Option SwitchLine → Option (List ℕ)
address_of None = None
address_of (Some l) = l.address

abbrev pub forwarded : List SwitchLine → (line : ℕ) → CallParts → CallParts
forwarded ls n parts = record {
  called = parts.called;
  calling = unwrap_or (address_of (slice_get ls n)) parts.calling;
  facilities = [];
  user_part = parts.user_part;
}

abbrev pub place_call : (line : ℕ) → CallParts → List SwitchLine → List SwitchLine
place_call n parts ls = changed n (λ l. record l { end = called l.end parts }) ls

-- the calls on p, where it came in, and on q are joined
abbrev pub with_join : (p q : SwitchChannel) → List SwitchLine → List SwitchLine
with_join p q ls =
    with_joined q (Some (record { other = p; came_in = false; kept = new_direction }))
    (with_joined p (Some (record { other = q; came_in = true; kept = new_direction })) ls)

abbrev pub answered : Answer → SwitchChannel → CallParts → List SwitchLine → List SwitchLine
answered (Clears cause) p parts ls = ask p (Clearing cause no_information) ls
answered (Joins q) p parts ls = with_join p q (place_call q.line (forwarded ls p.line parts) ls)

-- ---- notes of a line, in order

abbrev pub heed : RouteMap → (line : ℕ) → Note → List SwitchLine → List SwitchLine
heed routes n (Incoming c parts) ls = answered (answer routes ls n parts) (record { line = n; channel = c }) parts ls
heed routes n (Connected c) ls = told (Connected c) (record { line = n; channel = c }) ls
heed routes n (Closed c cause diagnostic reason) ls =
    told (Closed c cause diagnostic reason) (record { line = n; channel = c }) ls
heed routes n (WasReset c cause diagnostic reason) ls =
    told (WasReset c cause diagnostic reason) (record { line = n; channel = c }) ls
heed routes n (InterruptConfirmed c) ls = told (InterruptConfirmed c) (record { line = n; channel = c }) ls
heed routes n (Covered c count) ls = told (Covered c count) (record { line = n; channel = c }) ls

abbrev pub heed_all : RouteMap → (line : ℕ) → List Note → List SwitchLine → List SwitchLine
heed_all routes n [] ls = ls
heed_all routes n (x ∷ xs) ls = heed_all routes n xs (heed routes n x ls)

-- ---- what happens at the end of a line, and the notes that it makes

abbrev pub notes_of : Option SwitchLine → List Note
notes_of None = []
notes_of (Some l) = l.end.notes

abbrev pub without_notes : PacketEnd → PacketEnd
without_notes e = record e { notes = [] }

-- the notes are taken and heeded
abbrev pub notes_heeded : RouteMap → (line : ℕ) → List SwitchLine → List SwitchLine
notes_heeded routes n ls = heed_all routes n (notes_of (slice_get ls n)) (changed n (with_end without_notes) ls)

abbrev pub acted : RouteMap → (line : ℕ) → (PacketEnd → PacketEnd) → List SwitchLine → List SwitchLine
acted routes n f ls = notes_heeded routes n (changed n (with_end (λ e. f (quieted e))) ls)

-- ---- the end of an event: links that have to be set up anew are, which may close calls of other lines; then all that
-- waits is relayed, packets are offered to the links in the order of the lines, and both again until nothing changes

abbrev pub raised : Option ℕ → Option ℕ
raised None = None
raised (Some n) = Some (suc n)

-- the first line whose packet layer asks for it
abbrev pub to_relink : List SwitchLine → Option ℕ
to_relink [] = None
to_relink (l ∷ ls) = if l.end.layer.relink then Some 0 else raised (to_relink ls)

abbrev pub relinked_at : Option ℕ → RouteMap → List SwitchLine → List SwitchLine
relinked_at None routes ls = ls
relinked_at (Some n) routes ls = acted routes n relinked ls

abbrev pub all_relinked : (most : ℕ) → RouteMap → List SwitchLine → List SwitchLine
all_relinked zero routes ls = ls
all_relinked (suc most) routes ls = all_relinked most routes (relinked_at (to_relink ls) routes ls)

-- the lines of which that happens, in order
abbrev pub relinks_of : (most : ℕ) → Option ℕ → RouteMap → List SwitchLine → List ℕ
relinks_of zero o routes ls = []
relinks_of (suc most) None routes ls = []
relinks_of (suc most) (Some n) routes ls =
    n ∷ relinks_of most (to_relink (acted routes n relinked ls)) routes (acted routes n relinked ls)

-- so many lines, from this one on
abbrev pub offered_from : (count line : ℕ) → List SwitchLine → List SwitchLine
offered_from zero n ls = ls
offered_from (suc count) n ls = offered_from count (suc n) (changed n (with_end all_offered) ls)

-- the lines whose links take a packet, from this one on
abbrev pub offering_from : (line : ℕ) → List SwitchLine → List ℕ
offering_from n [] = []
offering_from n (l ∷ ls) = if may_offer l then n ∷ offering_from (suc n) ls else offering_from (suc n) ls

-- first the joins of these lines are relayed, then those of the lines whose links took a packet
abbrev pub rounds : (most : ℕ) → (first : List ℕ) → List SwitchLine → List SwitchLine
rounds zero first ls = relayed_first first ls
rounds (suc most) first ls =
    if list_any may_offer (relayed_first first ls)
    then rounds most (offering_from 0 (relayed_first first ls)) (offered_from (length ls) 0 (relayed_first first ls))
    else relayed_first first ls

-- no line relinks twice, and no link takes more than seven packets
abbrev pub all_offered_on : (first : List ℕ) → List SwitchLine → List SwitchLine
all_offered_on first ls = rounds (7 * length ls) first ls

-- first come the joins of the line of the event, and of those whose links are set up anew
abbrev pub lines_first : (line : ℕ) → RouteMap → List SwitchLine → List ℕ
lines_first n routes ls = n ∷ relinks_of (length ls) (to_relink ls) routes ls

abbrev pub finished : RouteMap → (line : ℕ) → List SwitchLine → List SwitchLine
finished routes n ls =
    map (with_end settled) (all_offered_on (lines_first n routes ls) (all_relinked (length ls) routes ls))

-- ---- events

-- an event begins: the frames of the last one that were not taken are dropped
abbrev pub all_begun : List SwitchLine → List SwitchLine
all_begun ls = map (with_end begun) ls

abbrev pub on_frame : (line : ℕ) → Octets → Switch → Switch
on_frame n octets s = record s {
  lines = finished s.routes n (acted s.routes n (λ e. received e octets) (all_begun s.lines));
}

-- an expiry changes nothing where the timer does not run
abbrev pub timer_runs : Option SwitchLine → TimerId → Bool
timer_runs None id = false
timer_runs (Some l) id = runs_at l.end id

-- a timer that runs expires
abbrev pub on_expiry : (line : ℕ) → TimerId → Switch → Switch
on_expiry n id s = record s {
  lines = finished s.routes n (acted s.routes n (λ e. after_timer e id) (all_begun s.lines));
}

abbrev pub on_timer : (line : ℕ) → TimerId → Switch → Switch
on_timer n id s = if timer_runs (slice_get s.lines n) id then on_expiry n id s else s

-- the link of a line is set up anew
abbrev pub relink : (line : ℕ) → Switch → Switch
relink n s = record s { lines = finished s.routes n (acted s.routes n relinked (all_begun s.lines)) }

-- all links are set up anew, and no call is left
abbrev pub restart : Switch → Switch
restart s = record s { lines = map without_joins s.lines }

abbrev pub elapse : (ticks : ℕ) → Switch → Switch
elapse ticks s = record s { lines = map (with_end (λ e. elapsed e ticks)) s.lines }

-- ---- frames and timers of a line

abbrev pub frames_on : Option SwitchLine → List Octets
frames_on None = []
frames_on (Some l) = l.end.line.frames

abbrev pub without_frame : (line : ℕ) → Switch → Switch
without_frame n s = record s { lines = changed n (with_end without_first_frame) s.lines }

abbrev pub due_on : Option SwitchLine → Option TimerId
due_on None = None
due_on (Some l) = due l.end

-- ---- at rest

abbrev pub switch_rests : Switch → Bool
switch_rests s = list_all line_rests s.lines
