-- What waits on a line of a switch after an event is the frames of its steps, all of them.
use Rattle.std.proofs.Common.{◌≡◌, ℕ, zero, suc, ◌*◌, ◌≤◌, arith, ◌⊎◌, inl, inr, Bool, true, false, cond, ◌==◌, if◌then◌else◌, List, [], ◌∷◌, ◌++◌, map, length, set, Option, Some, None, refl, sym, ap, subst, ◌∙◌, true≢false, append_assoc, append-nil, length-append, option_map}
use Rattle.std.specs.Prelude.{slice_get}
use Rattle.std.specs.List.{list_any}
use Rattle.std.proofs.lemmas.Bool.{eqb-true}
use Rattle.std.proofs.lemmas.List.{length-map}
use Rattle.std.proofs.lemmas.Option.{none-some, same_Some}
use Rattle.link_timers.specs.declared.role.Role.{Role}
use Rattle.link_timers.specs.declared.role.Role.TheVariants.{Dte, Dce}
use Rattle.data_transfer.specs.declared.flow.Flow.{Flow}
use Rattle.link_timers.specs.declared.timers.TimerId.{TimerId}
use Rattle.link_timers.specs.declared.timers.TimerId.TheVariants.{T1}
use Rattle.frame_codec.specs.Spelling.{spelling}
use Rattle.lapb.specs.declared.note.Note as link_note
use Rattle.lapb.specs.declared.note.Note.TheVariants.{Nothing, Up, Down}
use Rattle.lapb.specs.Machine as link
use Rattle.lapb.specs.Machine.{Octets}
use Rattle.lapb.specs.Octets as link_octets
use Rattle.lapb.specs.Out.{with_frames}
use Rattle.line_end.proofs.Frames.{with_frames-fit}
use Rattle.line_end.proofs.Steps.{settles}
use Rattle.line_end.specs.End as line
use Rattle.line_end.specs.End.{End}
use Rattle.data_transfer.specs.Packets.{CallParts}
use Rattle.data_transfer.specs.Traffic.{Taken}
use Rattle.packet_channel.specs.Channel as channel
use Rattle.packet_channel.specs.Channel.{Channel, Request, closed_channel, quiet, requested}
use Rattle.packet_channel.specs.Channel.Request.{Accept, Clearing, Resetting, Sending, Interrupting, Stopping, Taking, Releasing, Confirming}
use Rattle.packet_layer.specs.Layer.{Layer, Phase, channel_of, nth_channel, with_nth, channel_given, after_step, on_found, placed_on, link_down, unread}
use Rattle.packet_layer.specs.Layer.Phase.{NoSession, OwnRestart, PacketReady}
use Rattle.packet_laws.specs.Readable.{Every}
use Rattle.packet_laws.proofs.Line.Lines.{nth_other}
use Rattle.packet_end.specs.PacketEnd.{PacketEnd, heeded, after_packet, expired, runs_at, relinked, settled, all_offered}
use Rattle.address_routes.specs.Routes.{RouteMap}
use Rattle.switch_joins.specs.declared.channels.SwitchChannel.{SwitchChannel}
use Rattle.switch_joins.specs.Joins.{Joined}
use Rattle.switch_lines.specs.Lines.{SwitchLine, changed, joined_at, front_at, sizes_at, takes_at}
use Rattle.switch_lines.specs.Relay.{carried_by, due_at, moved, relayed, places_first, relayed_first, most_moves}
use Rattle.switch_lines.specs.Switch.{Switch, with_end, without_notes, notes_of, quieted, acted, all_begun, to_relink, relinked_at, all_relinked, may_offer, offering_from, offered_from, lines_first, rounds, finished, frames_on, timer_runs, on_expiry}
use Rattle.switch_laws.specs.World.{World, Act, layers_of, layer_after, after_act, after_acts}
use Rattle.switch_laws.specs.World.Act.{Comes, Expires, GoesUp, GoesDown, Calls, Gives, Reads}
use Rattle.switch_laws.specs.Joined.{IsSwitch, Becomes}
use Rattle.switch_laws.specs.Events.{SwitchHolds}
use Rattle.switch_laws.specs.Steps.{Happening, does, Step, lines_after, on_line, acts_of_all, happening_acts}
use Rattle.switch_laws.specs.Steps.Happening.{Brings, RunsOut, Relinks}
use Rattle.switch_laws.specs.Steps.Step.{Asks, Places, Keeps, Happens, Offers, Begins, Settles, Elapses}
use Rattle.switch_laws.specs.EventSteps.{asks_steps, freed_steps, moved_if_steps, moved_front_steps, moved_joined_steps, relayed_steps, relayed_from_steps, relayed_first_steps, heed_all_steps, acted_steps, relinked_steps, all_relinked_steps, offered_steps, rounds_steps, finished_steps, event_steps}
use Rattle.packet_end.specs.Sending.{answer_frames, expiry_frames, relink_frames, last_frames}
use Rattle.packet_end.proofs.Sending.{answer_few, expiry_few, timer_few, relink_few, all_offered_frames}
use Rattle.switch_laws.specs.Sent.{happening_frames, frames_at, step_frames, all_frames, AreAllSent, SentLaw}
use Rattle.switch_laws.proofs.Lists.{not_equal, get_changed, get_map, map_unchanged}
use Rattle.switch_laws.proofs.Frame.{acts_then}
use Rattle.switch_laws.proofs.Rounds.{lines_of, first_lines}
use Rattle.switch_laws.proofs.Leading.{Leads, acted_leads, all_relinked_leads, rounds_leads}
use Rattle.switch_laws.proofs.Turning.{relinked_effect, acted_right}
use Rattle.switch_laws.proofs.Finishing.{happens}
use Rattle.switch_laws.proofs.Offered.{AreSmall, heed_all_lines, all_relinked_ks, act_ks, begun_ks, small_links, does_k}
use Rattle.switch_laws.proofs.SwitchAfterEvents.{links_small, rounds_ks}
use Rattle.switch_laws.proofs.Owing.{IsMild, AreMild, IsAsking, heed_all_asks, asking_mild, acted_mild, OnLine, on_or_not, asks, relink_asks}
use Rattle.switch_laws.proofs.Fitting.{fit_list, fit_each, acted_fits, all_relinked_fits, rounds_fit, begun_fits}
use Rattle.switch_joins.proofs.Apart.{decided}
use Rattle.switch_lines.proofs.Places.{get_unchanged}

-- ---- what waits on a line

abbrev pub waits : List SwitchLine → ℕ → List Octets
waits ls m = frames_on (slice_get ls m)

abbrev of_end : Option End → List Octets
of_end None = []
of_end (Some e) = e.frames

waits_is : (ls : List SwitchLine) (m : ℕ) → waits ls m ≡ of_end (slice_get (lines_of ls) m)
waits_is [] m = refl
waits_is (l ∷ ls) zero = refl
waits_is (l ∷ ls) (suc m) = waits_is ls m

same_waits : (ls ms : List SwitchLine) (m : ℕ) → lines_of ms ≡ lines_of ls → waits ms m ≡ waits ls m
same_waits ls ms m e = waits_is ms m ∙ (ap (λ (es : List End). of_end (slice_get es m)) e ∙ sym (waits_is ls m))

-- ---- steps that send nothing

abbrev IsSilent : Step → Type 0
IsSilent (Happens n what) = ⊥
IsSilent Settles = ⊥
IsSilent step = Unit {0}

silent_then : (as_ bs : List Step) → Every IsSilent as_ → Every IsSilent bs → Every IsSilent (as_ ++ bs)
silent_then [] bs h k = k
silent_then (a ∷ as_) bs h k = (h.0, silent_then as_ bs h.1 k)

none_sent : (m : ℕ) (steps : List Step) (ls : List SwitchLine) → Every IsSilent steps → all_frames m steps ls ≡ []
none_sent m [] ls h = refl
none_sent m (Asks p q ∷ more) ls h = none_sent m more (lines_after (Asks p q) ls) h.1
none_sent m (Places n parts ∷ more) ls h = none_sent m more (lines_after (Places n parts) ls) h.1
none_sent m (Keeps p o ∷ more) ls h = none_sent m more (lines_after (Keeps p o) ls) h.1
none_sent m (Happens n what ∷ more) ls h = absurd h.0
none_sent m (Offers n ∷ more) ls h = none_sent m more (lines_after (Offers n) ls) h.1
none_sent m (Begins ∷ more) ls h = none_sent m more (lines_after Begins ls) h.1
none_sent m (Settles ∷ more) ls h = absurd h.0
none_sent m (Elapses ticks ∷ more) ls h = none_sent m more (lines_after (Elapses ticks) ls) h.1

asking_silent : (steps : List Step) → Every IsAsking steps → Every IsSilent steps
asking_silent [] h = tt
asking_silent (Asks p q ∷ more) h = (tt, asking_silent more h.1)
asking_silent (Places n parts ∷ more) h = (tt, asking_silent more h.1)
asking_silent (Keeps p o ∷ more) h = (tt, asking_silent more h.1)
asking_silent (Happens n what ∷ more) h = absurd h.0
asking_silent (Offers n ∷ more) h = absurd h.0
asking_silent (Begins ∷ more) h = absurd h.0
asking_silent (Settles ∷ more) h = absurd h.0
asking_silent (Elapses ticks ∷ more) h = absurd h.0

asks_silent : (p : SwitchChannel) (qs : List Request) (more : List Step) → Every IsSilent more → Every IsSilent (asks_steps p qs ++ more)
asks_silent p [] more h = h
asks_silent p (q ∷ qs) more h = (tt, asks_silent p qs more h)

if_silent : (b : Bool) (t : Taken) (p : SwitchChannel) (j : Joined) (ls : List SwitchLine) → Every IsSilent (moved_if_steps b t p j ls)
if_silent true t p j ls = (tt, asks_silent j.other (due_at ls p j t) (freed_steps p j (carried_by (sizes_at ls p j.other) t j.kept)) (tt, (tt, tt)))
if_silent false t p j ls = tt

front_silent : (o : Option Taken) (p : SwitchChannel) (j : Joined) (ls : List SwitchLine) → Every IsSilent (moved_front_steps o p j ls)
front_silent None p j ls = tt
front_silent (Some t) p j ls = if_silent (takes_at ls j.other (due_at ls p j t)) t p j ls

joined_silent : (o : Option Joined) (p : SwitchChannel) (ls : List SwitchLine) → Every IsSilent (moved_joined_steps o p ls)
joined_silent None p ls = tt
joined_silent (Some j) p ls = front_silent (front_at ls p) p j ls

relayed_silent : (most : ℕ) (p : SwitchChannel) (ls : List SwitchLine) → Every IsSilent (relayed_steps most p ls)
relayed_silent zero p ls = tt
relayed_silent (suc most) p ls = silent_then (moved_joined_steps (joined_at ls p) p ls) _ (joined_silent (joined_at ls p) p ls) (relayed_silent most p (moved p ls))

from_silent : (ps : List SwitchChannel) (ls : List SwitchLine) → Every IsSilent (relayed_from_steps ps ls)
from_silent [] ls = tt
from_silent (p ∷ ps) ls = silent_then (relayed_steps most_moves p ls) _ (relayed_silent most_moves p ls) (from_silent ps (relayed most_moves p ls))

offers_silent : (count n : ℕ) → Every IsSilent (offered_steps count n)
offers_silent zero n = tt
offers_silent (suc count) n = (tt, offers_silent count (suc n))

rounds_silent : (most : ℕ) (first : List ℕ) (ls : List SwitchLine) → Every IsSilent (rounds_steps most first ls)
rounds_silent zero first ls = from_silent (places_first first ls) ls
rounds_silent (suc most) first ls = silent_then (relayed_first_steps first ls) _ (from_silent (places_first first ls) ls) (by_may (list_any may_offer ms) (rounds_silent most (offering_from 0 ms) (offered_from (length ls) 0 ms)))
  where
    ms : List SwitchLine
    ms = relayed_first first ls

    by_may : (b : Bool) → Every IsSilent (rounds_steps most (offering_from 0 ms) (offered_from (length ls) 0 ms))
        → Every IsSilent (if b then offered_steps (length ls) 0 ++ rounds_steps most (offering_from 0 ms) (offered_from (length ls) 0 ms) else [])
    by_may true more = silent_then (offered_steps (length ls) 0) _ (offers_silent (length ls) 0) more
    by_may false more = tt

-- the frames of steps, one list after the other
frames_lead : (m : ℕ) (as_ bs : List Step) (ls ms : List SwitchLine) → Leads as_ ls ms → all_frames m (as_ ++ bs) ls ≡ all_frames m as_ ls ++ all_frames m bs ms
frames_lead m [] bs ls ms e = ap (λ (xs : List SwitchLine). all_frames m bs xs) e
frames_lead m (a ∷ as_) bs ls ms e =
    ap (λ (fs : List Octets). step_frames m a ls ++ fs) (frames_lead m as_ bs (lines_after a ls) ms e)
    ∙ sym (append_assoc {A = Octets} (step_frames m a ls) (all_frames m as_ (lines_after a ls)) (all_frames m bs ms))

-- ---- what happens at an end

happening_few : (what : Happening) (e : PacketEnd) → length (happening_frames what e) ≤ 1
happening_few (Brings octets) e = answer_few e octets
happening_few (RunsOut id) e = timer_few e id
happening_few Relinks e = relink_few e

brought_line : (note : link_note.Note) (o : Option Octets) (e : PacketEnd) → (after_packet o (heeded note e)).line.frames ≡ e.line.frames
brought_line Nothing None e = refl
brought_line Nothing (Some octets) e = refl
brought_line Up None e = refl
brought_line Up (Some octets) e = refl
brought_line Down None e = refl
brought_line Down (Some octets) e = refl

fit_one : (old new : List Octets) → length old ≤ 8 → length new ≤ 1 → with_frames old new ≡ old ++ new
fit_one old new room few = with_frames-fit old new (omega (arith, room, few))

expired_line : (id : TimerId) (e : PacketEnd) → length e.line.frames ≤ 8 → (expired id (quieted e)).line.frames ≡ e.line.frames ++ expiry_frames id e
expired_line T1 e room =
    brought_line (link.on_t1 e.line.link).note None (record (quieted e) { line = line.expired e.line })
    ∙ fit_one e.line.frames (expiry_frames T1 e) room (expiry_few T1 e)
expired_line id e room = sym (append-nil e.line.frames)

either_line : (b : Bool) (id : TimerId) (e : PacketEnd) → length e.line.frames ≤ 8 → (cond b (expired id (quieted e)) (quieted e)).line.frames ≡ e.line.frames ++ (if b then expiry_frames id e else [])
either_line true id e room = expired_line id e room
either_line false id e room = sym (append-nil e.line.frames)

does_line : (what : Happening) (e : PacketEnd) → length e.line.frames ≤ 8 → (does what (quieted e)).line.frames ≡ e.line.frames ++ happening_frames what e
does_line (Brings octets) e room =
    brought_line (link_octets.on_octets e.line.link octets).note (link_octets.on_octets e.line.link octets).accepted (record (quieted e) { line = line.received e.line octets })
    ∙ fit_one e.line.frames (answer_frames e octets) room (happening_few (Brings octets) e)
does_line (RunsOut id) e room = either_line (runs_at e id) id e room
does_line Relinks e room = fit_one e.line.frames (relink_frames e) room (happening_few Relinks e)

at_few : (what : Happening) (o : Option SwitchLine) → length (frames_at (λ e. happening_frames what e) o) ≤ 1
at_few what None = omega arith
at_few what (Some l) = happening_few what l.end

at_line : (what : Happening) (o : Option SwitchLine) → length (frames_on o) ≤ 8
    → frames_on (option_map (with_end without_notes) (option_map (with_end (λ e. does what (quieted e))) o)) ≡ frames_on o ++ frames_at (λ e. happening_frames what e) o
at_line what None room = refl
at_line what (Some l) room = does_line what l.end room

-- ---- what happens on line n, with its notes

record Sends (m : ℕ) (steps : List Step) (ls ms : List SwitchLine) : Type 0 where
  is : waits ms m ≡ waits ls m ++ all_frames m steps ls
  few : length (all_frames m steps ls) ≤ 1

happens_line : (n m : ℕ) (what : Happening) (ls : List SwitchLine) → length (waits ls m) ≤ 8 → (b : Bool) → (n == m) ≡ b
    → waits (lines_after (Happens n what) ls) m ≡ waits ls m ++ (if b then frames_at (λ e. happening_frames what e) (slice_get ls m) else [])
happens_line n m what ls room true e =
    let same : n ≡ m = eqb-true n m e in
    let l1 = changed n (with_end (λ e. does what (quieted e))) ls in
    ap (λ (k : ℕ). waits (changed k (with_end without_notes) (changed k (with_end (λ e. does what (quieted e))) ls)) m) same
    ∙ (ap (λ (o : Option SwitchLine). frames_on o)
    (get_changed m (with_end without_notes) (changed m (with_end (λ e. does what (quieted e))) ls)
    ∙ ap (λ (o : Option SwitchLine). option_map (with_end without_notes) o) (get_changed m (with_end (λ e. does what (quieted e))) ls))
    ∙ at_line what (slice_get ls m) room)
happens_line n m what ls room false e =
    let ne : m ≡ n → ⊥ = λ h. not_equal n m e (sym h) in
    ap (λ (o : Option SwitchLine). frames_on o)
    (get_unchanged n m (with_end without_notes) (changed n (with_end (λ e. does what (quieted e))) ls) ne ∙ get_unchanged n m (with_end (λ e. does what (quieted e))) ls ne)
    ∙ sym (append-nil (waits ls m))

if_at_few : (b : Bool) (what : Happening) (o : Option SwitchLine) → length (if b then frames_at (λ e. happening_frames what e) o else []) ≤ 1
if_at_few true what o = at_few what o
if_at_few false what o = omega arith

-- its notes send nothing
acted_only : (routes : RouteMap) (n m : ℕ) (what : Happening) (ls : List SwitchLine) → all_frames m (acted_steps routes n what ls) ls ≡ step_frames m (Happens n what) ls
acted_only routes n m what ls =
    let l2 = lines_after (Happens n what) ls in
    let notes = notes_of (slice_get (changed n (with_end (λ e. does what (quieted e))) ls) n) in
    let steps = heed_all_steps routes n notes l2 in
    ap (λ (fs : List Octets). step_frames m (Happens n what) ls ++ fs) (none_sent m steps l2 (asking_silent steps (heed_all_asks routes n notes l2)))
    ∙ append-nil (step_frames m (Happens n what) ls)

acted_sends : (routes : RouteMap) (n m : ℕ) (what : Happening) (ls : List SwitchLine) → length (waits ls m) ≤ 8 → Sends m (acted_steps routes n what ls) ls (acted routes n (does what) ls)
acted_sends routes n m what ls room =
    let l2 = lines_after (Happens n what) ls in
    let only = acted_only routes n m what ls in
    record {
      is = same_waits l2 (acted routes n (does what) ls) m (heed_all_lines routes n (notes_of (slice_get (changed n (with_end (λ e. does what (quieted e))) ls) n)) l2)
          ∙ (happens_line n m what ls room (n == m) refl ∙ ap (λ (fs : List Octets). waits ls m ++ fs) (sym only));
      few = subst (λ (fs : List Octets). length fs ≤ 1) (sym only) (if_at_few (n == m) what (slice_get ls m));
    }

acted_none : (routes : RouteMap) (n m : ℕ) (what : Happening) (ls : List SwitchLine) → (n == m) ≡ false → all_frames m (acted_steps routes n what ls) ls ≡ []
acted_none routes n m what ls e =
    acted_only routes n m what ls ∙ ap (λ (b : Bool). if b then frames_at (λ x. happening_frames what x) (slice_get ls m) else []) e

-- ---- a line whose link was set up anew asks for it no more

record IsDown (l : Layer) : Type 0 where
  phase : l.phase ≡ NoSession
  asks_not : l.relink ≡ false
  closed : (c : ℕ) (ch : Channel) → channel_of l c ≡ Some ch → ch ≡ closed_channel

abbrev DownAt : ℕ → List Layer → Type 0
DownAt m ys = (l : Layer) → slice_get ys m ≡ Some l → IsDown l

closed_nth : (chs : List Channel) (i : ℕ) (ch : Channel) → slice_get (map (λ x. closed_channel) chs) i ≡ Some ch → ch ≡ closed_channel
closed_nth [] i ch e = absurd (none-some ch e)
closed_nth (x ∷ xs) zero ch e = sym (same_Some closed_channel ch e)
closed_nth (x ∷ xs) (suc i) ch e = closed_nth xs i ch e

closed_channels : (chs : List Channel) (c : ℕ) (ch : Channel) → nth_channel (map (λ x. closed_channel) chs) c ≡ Some ch → ch ≡ closed_channel
closed_channels chs zero ch e = absurd (none-some ch e)
closed_channels chs (suc i) ch e = closed_nth chs i ch e

goes_down : (l : Layer) → IsDown (unread (link_down l))
goes_down l = record { phase = refl; asks_not = refl; closed = λ c ch e. closed_channels l.channels c ch e }

-- all that is asked of a channel without a call is refused
refuses : (role : Role) (flow : Flow) (q : Request) → requested role flow closed_channel q ≡ quiet closed_channel
refuses role flow Accept = refuses_accept role
  where
    refuses_accept : (role : Role) → requested role flow closed_channel Accept ≡ quiet closed_channel
    refuses_accept Dte = refl
    refuses_accept Dce = refl
refuses role flow (Clearing cause diagnostic) = refl
refuses role flow (Resetting cause diagnostic) = refl
refuses role flow (Sending d) = refl
refuses role flow (Interrupting octets) = refl
refuses role flow (Stopping b) = refl
refuses role flow Taking = refl
refuses role flow (Releasing n) = refl
refuses role flow Confirming = refl

set_is : (chs : List Channel) (i : ℕ) (x ch : Channel) → slice_get (set chs i x) i ≡ Some ch → ch ≡ x
set_is [] i x ch e = absurd (none-some ch e)
set_is (y ∷ ys) zero x ch e = sym (same_Some x ch e)
set_is (y ∷ ys) (suc i) x ch e = set_is ys i x ch e

nth_is : (chs : List Channel) (c : ℕ) (x ch : Channel) → nth_channel (with_nth chs c x) c ≡ Some ch → ch ≡ x
nth_is chs zero x ch e = absurd (none-some ch e)
nth_is chs (suc i) x ch e = set_is chs i x ch e

quiet_down : (l : Layer) (d : ℕ) → IsDown l → IsDown (after_step l d (quiet closed_channel))
quiet_down l d h = record { phase = h.phase; asks_not = h.asks_not; closed = λ c ch e. by_channel c ch e (decided (c == d)) }
  where
    by_channel : (c : ℕ) (ch : Channel) → nth_channel (with_nth l.channels d closed_channel) c ≡ Some ch → ((c == d) ≡ true) ⊎ ((c == d) ≡ false) → ch ≡ closed_channel
    by_channel c ch e (inl t) = nth_is l.channels d closed_channel ch (ap (λ (k : ℕ). nth_channel (with_nth l.channels d closed_channel) k) (sym (eqb-true c d t)) ∙ e)
    by_channel c ch e (inr f) = h.closed c ch (sym (nth_other l.channels c d closed_channel (not_equal c d f)) ∙ e)

found_down : (l : Layer) (d : ℕ) (q : Request) (o : Option Channel) → channel_of l d ≡ o → IsDown l → IsDown (on_found l d (λ ch. requested l.role l.flow ch q) o)
found_down l d q None e h = h
found_down l d q (Some ch) e h =
    subst (λ (st : channel.Step). IsDown (after_step l d st))
    (sym (ap (λ (x : Channel). requested l.role l.flow x q) (h.closed d ch e) ∙ refuses l.role l.flow q)) (quiet_down l d h)

none_given : (l : Layer) (parts : CallParts) (phase : Phase) → phase ≡ NoSession → placed_on l parts (channel_given l phase) ≡ l
none_given l parts NoSession e = refl
none_given l parts OwnRestart e = absurd (cc)
none_given l parts PacketReady e = absurd (cc)

act_down : (a : Act) (l : Layer) → IsMild a → IsDown l → IsDown (layer_after a l)
act_down (Act.Asks p q) l m h = found_down l p.channel q (channel_of l p.channel) refl h
act_down (Comes n x) l m h = absurd m
act_down (Expires n t) l m h = absurd m
act_down (GoesUp n) l m h = absurd m
act_down (GoesDown n) l m h = absurd m
act_down (Calls n parts) l m h = subst IsDown (sym (none_given l parts l.phase h.phase)) h
act_down (Gives n) l m h = absurd m
act_down (Reads n) l m h = record { phase = h.phase; asks_not = h.asks_not; closed = h.closed }

mapped_down : (a : Act) (o : Option Layer) → IsMild a → ((l : Layer) → o ≡ Some l → IsDown l) → (l : Layer) → option_map (λ x. layer_after a x) o ≡ Some l → IsDown l
mapped_down a None m h l e = absurd (none-some l e)
mapped_down a (Some x) m h l e = subst IsDown (same_Some (layer_after a x) l e) (act_down a x m (h x refl))

acts_down : (m : ℕ) (acts : List Act) (ys : List Layer) → AreMild m acts → DownAt m ys → DownAt m (after_acts acts ys)
acts_down m [] ys mild h = h
acts_down m (a ∷ more) ys mild h = acts_down m more (after_act a ys) mild.1 (by_on (on_or_not a m ys))
  where
    by_on : OnLine a m ys ⊎ (slice_get (after_act a ys) m ≡ slice_get ys m) → DownAt m (after_act a ys)
    by_on (inl on) l e = mapped_down a (slice_get ys m) (mild.0 on.here) h l (sym on.after ∙ e)
    by_on (inr same) l e = h l (sym same ∙ e)

down_asks : (m : ℕ) (ys : List Layer) → DownAt m ys → asks (slice_get ys m) ≡ false
down_asks m ys h = by_layer (slice_get ys m) refl
  where
    by_layer : (o : Option Layer) → slice_get ys m ≡ o → asks o ≡ false
    by_layer None e = refl
    by_layer (Some l) e = (h l e).asks_not

-- a line is down after it was set up anew
mapped_twice : (o : Option Layer) (l : Layer) → option_map (λ x. unread (link_down x)) (option_map (λ x. unread x) o) ≡ Some l → IsDown l
mapped_twice None l e = absurd (none-some l e)
mapped_twice (Some x) l e = subst IsDown (same_Some (unread (link_down (unread x))) l e) (goes_down (unread x))

line_acts : (m : ℕ) (o : Option SwitchLine) (ys : List Layer) → (o ≡ None → slice_get ys m ≡ None) → DownAt m (after_acts (Reads m ∷ on_line (λ e. happening_acts m Relinks e) o) ys)
line_acts m None ys none l e = absurd (none-some l (sym (get_changed m (λ x. unread x) ys ∙ ap (λ (o : Option Layer). option_map (λ x. unread x) o) (none refl)) ∙ e))
line_acts m (Some x) ys none l e =
    mapped_twice (slice_get ys m) l
    (sym (get_changed m (λ y. unread (link_down y)) (changed m (λ y. unread y) ys) ∙ ap (λ (o : Option Layer). option_map (λ y. unread (link_down y)) o) (get_changed m (λ y. unread y) ys)) ∙ e)

none_there : (ls : List SwitchLine) (m : ℕ) → slice_get ls m ≡ None → slice_get (layers_of ls) m ≡ None
none_there [] m e = refl
none_there (l ∷ ls) zero e = absurd (none-some l (sym e))
none_there (l ∷ ls) (suc m) e = none_there ls m e

relinked_down : (routes : RouteMap) (m : ℕ) (ls : List SwitchLine) → DownAt m (after_acts (acts_of_all (acted_steps routes m Relinks ls) ls) (layers_of ls))
relinked_down routes m ls =
    let first = Reads m ∷ on_line (λ e. happening_acts m Relinks e) (slice_get ls m) in
    let l2 = lines_after (Happens m Relinks) ls in
    let steps = heed_all_steps routes m (notes_of (slice_get (changed m (with_end (λ e. does Relinks (quieted e))) ls) m)) l2 in
    subst (λ (ys : List Layer). DownAt m ys) (sym (acts_then first (acts_of_all steps l2) (layers_of ls)))
    (acts_down m (acts_of_all steps l2) (after_acts first (layers_of ls)) (asking_mild m steps l2 (heed_all_asks routes m _ l2)) (line_acts m (slice_get ls m) (layers_of ls) (none_there ls m)))

-- ---- links that are set up anew, each at most once

by_same : (k m : ℕ) (ls : List SwitchLine) → to_relink ls ≡ Some k → asks (slice_get (layers_of ls) m) ≡ false → (k == m) ≡ false
by_same k m ls t f = by_test (decided (k == m))
  where
    by_test : ((k == m) ≡ true) ⊎ ((k == m) ≡ false) → (k == m) ≡ false
    by_test (inr e) = e
    by_test (inl e) = absurd (true≢false (sym (relink_asks ls k t) ∙ (ap (λ (n : ℕ). asks (slice_get (layers_of ls) n)) (eqb-true k m e) ∙ f)))

record SendsNone (m : ℕ) (steps : List Step) (ls ms : List SwitchLine) : Type 0 where
  is : waits ms m ≡ waits ls m
  none : all_frames m steps ls ≡ []

-- on another line
acted_beside : (routes : RouteMap) (k m : ℕ) (ls : List SwitchLine) → (k == m) ≡ false → length (waits ls m) ≤ 8 → SendsNone m (acted_steps routes k Relinks ls) ls (acted routes k relinked ls)
acted_beside routes k m ls e room =
    let a = acted_sends routes k m Relinks ls room in
    let none = acted_none routes k m Relinks ls e in
    record { is = a.is ∙ (ap (λ (fs : List Octets). waits ls m ++ fs) none ∙ append-nil (waits ls m)); none = none }

same_room : (fs gs : List Octets) → gs ≡ fs → length fs ≤ 8 → length gs ≤ 8
same_room fs gs e room = subst (λ (xs : List Octets). length xs ≤ 8) (sym e) room

abbrev RelinkSteps : (most : ℕ) → Option ℕ → RouteMap → List SwitchLine → List Step
RelinkSteps most o routes ls = relinked_steps o routes ls ++ all_relinked_steps most routes (relinked_at o routes ls)

relinks_none : (most : ℕ) (o : Option ℕ) (routes : RouteMap) (ls : List SwitchLine) (w : World) (m : ℕ) → to_relink ls ≡ o → IsSwitch ls w → DownAt m (layers_of ls) → length (waits ls m) ≤ 8
    → SendsNone m (all_relinked_steps most routes ls) ls (all_relinked most routes ls)
relinks_none zero o routes ls w m t i h room = record { is = refl; none = refl }
relinks_none (suc most) None routes ls w m t i h room =
    subst (λ (x : Option ℕ). SendsNone m (RelinkSteps most x routes ls) ls (all_relinked most routes (relinked_at x routes ls))) (sym t) (relinks_none most None routes ls w m t i h room)
relinks_none (suc most) (Some k) routes ls w m t i h room =
    let ms = acted routes k relinked ls in
    let c = acted_right routes k Relinks ls w i (λ line g. relinked_effect k line.end) in
    let ne = by_same k m ls t (down_asks m (layers_of ls) h) in
    let a = acted_beside routes k m ls ne room in
    let down : DownAt m (layers_of ms) =
    subst (λ (ys : List Layer). DownAt m ys) (sym c.reached.layers)
    (acts_down m (acts_of_all (acted_steps routes k Relinks ls) ls) (layers_of ls) (acted_mild routes k m Relinks ls (λ e. not_equal k m ne (sym e))) h) in
    let rest = relinks_none most (to_relink ms) routes ms c.world m refl c.right down (same_room (waits ls m) (waits ms m) a.is room) in
    subst (λ (x : Option ℕ). SendsNone m (RelinkSteps most x routes ls) ls (all_relinked most routes (relinked_at x routes ls))) (sym t)
    (record {
      is = rest.is ∙ a.is;
      none = frames_lead m (acted_steps routes k Relinks ls) (all_relinked_steps most routes ms) ls ms (acted_leads routes k Relinks ls)
          ∙ (ap (λ (fs : List Octets). fs ++ all_frames m (all_relinked_steps most routes ms) ms) a.none ∙ rest.none);
    })

relinks_send : (most : ℕ) (o : Option ℕ) (routes : RouteMap) (ls : List SwitchLine) (w : World) (m : ℕ) → to_relink ls ≡ o → IsSwitch ls w → length (waits ls m) ≤ 7
    → Sends m (all_relinked_steps most routes ls) ls (all_relinked most routes ls)
relinks_send zero o routes ls w m t i room = record { is = sym (append-nil (waits ls m)); few = omega arith }
relinks_send (suc most) None routes ls w m t i room =
    subst (λ (x : Option ℕ). Sends m (RelinkSteps most x routes ls) ls (all_relinked most routes (relinked_at x routes ls))) (sym t) (relinks_send most None routes ls w m t i room)
relinks_send (suc most) (Some k) routes ls w m t i room =
    subst (λ (x : Option ℕ). Sends m (RelinkSteps most x routes ls) ls (all_relinked most routes (relinked_at x routes ls))) (sym t)
    (by_line (decided (k == m)) (λ h. relinks_send most (to_relink ms) routes ms c.world m refl c.right h))
  where
    ms : List SwitchLine
    ms = acted routes k relinked ls

    c : Becomes (acts_of_all (acted_steps routes k Relinks ls) ls) ls w ms
    c = acted_right routes k Relinks ls w i (λ line g. relinked_effect k line.end)

    lead : all_frames m (acted_steps routes k Relinks ls ++ all_relinked_steps most routes ms) ls ≡ all_frames m (acted_steps routes k Relinks ls) ls ++ all_frames m (all_relinked_steps most routes ms) ms
    lead = frames_lead m (acted_steps routes k Relinks ls) (all_relinked_steps most routes ms) ls ms (acted_leads routes k Relinks ls)

    a : Sends m (acted_steps routes k Relinks ls) ls ms
    a = acted_sends routes k m Relinks ls (omega (arith, room))

    -- it is this line: after it nothing more is sent there
    nine : SendsNone m (all_relinked_steps most routes ms) ms (all_relinked most routes ms) → Sends m (acted_steps routes k Relinks ls ++ all_relinked_steps most routes ms) ls (all_relinked most routes ms)
    nine rest =
        let only : all_frames m (acted_steps routes k Relinks ls ++ all_relinked_steps most routes ms) ls ≡ all_frames m (acted_steps routes k Relinks ls) ls =
        lead ∙ (ap (λ (fs : List Octets). all_frames m (acted_steps routes k Relinks ls) ls ++ fs) rest.none ∙ append-nil (all_frames m (acted_steps routes k Relinks ls) ls)) in
        record {
          is = rest.is ∙ (a.is ∙ ap (λ (fs : List Octets). waits ls m ++ fs) (sym only));
          few = subst (λ (fs : List Octets). length fs ≤ 1) (sym only) a.few;
        }

    later : (k == m) ≡ false → Sends m (all_relinked_steps most routes ms) ms (all_relinked most routes ms) → Sends m (acted_steps routes k Relinks ls ++ all_relinked_steps most routes ms) ls (all_relinked most routes ms)
    later e rest =
        let b = acted_beside routes k m ls e (omega (arith, room)) in
        let only : all_frames m (acted_steps routes k Relinks ls ++ all_relinked_steps most routes ms) ls ≡ all_frames m (all_relinked_steps most routes ms) ms =
        lead ∙ ap (λ (fs : List Octets). fs ++ all_frames m (all_relinked_steps most routes ms) ms) b.none in
        record {
          is = rest.is ∙ (ap (λ (fs : List Octets). fs ++ all_frames m (all_relinked_steps most routes ms) ms) b.is ∙ ap (λ (fs : List Octets). waits ls m ++ fs) (sym only));
          few = subst (λ (fs : List Octets). length fs ≤ 1) (sym only) rest.few;
        }

    by_line : ((k == m) ≡ true) ⊎ ((k == m) ≡ false) → (length (waits ms m) ≤ 7 → Sends m (all_relinked_steps most routes ms) ms (all_relinked most routes ms))
        → Sends m (acted_steps routes k Relinks ls ++ all_relinked_steps most routes ms) ls (all_relinked most routes ms)
    by_line (inl t) more = nine (relinks_none most (to_relink ms) routes ms c.world m refl c.right down eight)
      where
        same : k ≡ m
        same = eqb-true k m t

        down : DownAt m (layers_of ms)
        down =
            subst (λ (ys : List Layer). DownAt m ys) (sym c.reached.layers)
            (subst (λ (n : ℕ). DownAt m (after_acts (acts_of_all (acted_steps routes n Relinks ls) ls) (layers_of ls))) (sym same) (relinked_down routes m ls))

        eight : length (waits ms m) ≤ 8
        eight =
            let few = a.few in
            let sum = ap (λ (fs : List Octets). length fs) a.is ∙ length-append (waits ls m) (all_frames m (acted_steps routes k Relinks ls) ls) in
            omega (arith, room, few, sum)
    by_line (inr f) more =
        let beside = (acted_beside routes k m ls f (omega (arith, room))).is in
        later f (more (subst (λ (fs : List Octets). length fs ≤ 7) (sym beside) room))

-- ---- relays, offers and the end of the event

abbrev frames_of : List SwitchLine → List (List Octets)
frames_of ls = map (λ l. l.end.line.frames) ls

all_waits : (ls ms : List SwitchLine) (m : ℕ) → frames_of ms ≡ frames_of ls → waits ms m ≡ waits ls m
all_waits ls ms m e = at_frames ms m ∙ (ap (λ (xs : List (List Octets)). of_frames (slice_get xs m)) e ∙ sym (at_frames ls m))
  where
    of_frames : Option (List Octets) → List Octets
    of_frames None = []
    of_frames (Some fs) = fs

    at_frames : (xs : List SwitchLine) (n : ℕ) → waits xs n ≡ of_frames (slice_get (frames_of xs) n)
    at_frames [] n = refl
    at_frames (x ∷ xs) zero = refl
    at_frames (x ∷ xs) (suc n) = at_frames xs n

offers_frames : (count n : ℕ) (ls : List SwitchLine) → frames_of (offered_from count n ls) ≡ frames_of ls
offers_frames zero n ls = refl
offers_frames (suc count) n ls =
    offers_frames count (suc n) (changed n (with_end all_offered) ls)
    ∙ map_unchanged (λ l. l.end.line.frames) (with_end all_offered) n ls (λ l. all_offered_frames l.end)

lines_frames : (ls ms : List SwitchLine) → lines_of ms ≡ lines_of ls → frames_of ms ≡ frames_of ls
lines_frames ls ms e = sym (fused ms) ∙ (ap (λ (es : List End). map (λ x. x.frames) es) e ∙ fused ls)
  where
    fused : (xs : List SwitchLine) → map (λ x. x.frames) (lines_of xs) ≡ frames_of xs
    fused [] = refl
    fused (x ∷ xs) = ap (λ (fs : List (List Octets)). x.end.line.frames ∷ fs) (fused xs)

rounds_frames : (most : ℕ) (first : List ℕ) (ls : List SwitchLine) → frames_of (rounds most first ls) ≡ frames_of ls
rounds_frames zero first ls = lines_frames ls (relayed_first first ls) (first_lines first ls)
rounds_frames (suc most) first ls = by_may (list_any may_offer ms) (rounds_frames most (offering_from 0 ms) (offered_from (length ls) 0 ms))
  where
    ms : List SwitchLine
    ms = relayed_first first ls

    by_may : (b : Bool) → frames_of (rounds most (offering_from 0 ms) (offered_from (length ls) 0 ms)) ≡ frames_of (offered_from (length ls) 0 ms)
        → frames_of (if b then rounds most (offering_from 0 ms) (offered_from (length ls) 0 ms) else ms) ≡ frames_of ls
    by_may true more = more ∙ (offers_frames (length ls) 0 ms ∙ lines_frames ls ms (first_lines first ls))
    by_may false more = lines_frames ls ms (first_lines first ls)

settled_one : (o : Option SwitchLine) → ((l : SwitchLine) → o ≡ Some l → length l.end.line.link.queue ≤ 7) → length (frames_on o) ≤ 2
    → (frames_on (option_map (with_end settled) o) ≡ frames_on o ++ frames_at (λ e. last_frames e) o) × (length (frames_at (λ e. last_frames e) o) ≤ 7)
settled_one None small room = (refl, omega arith)
settled_one (Some l) small room =
    let few = (settles l.end.line.link).few 7 (small l refl) (omega arith) in
    let many = length-map (link.settle l.end.line.link).frames (spelling l.end.line.link.role) in
    (with_frames-fit l.end.line.frames (last_frames l.end) (omega (arith, room, few, many)), omega (arith, few, many))

-- ---- an event

begun_waits : (ls : List SwitchLine) (m : ℕ) → waits (all_begun ls) m ≡ []
begun_waits [] m = refl
begun_waits (l ∷ ls) zero = refl
begun_waits (l ∷ ls) (suc m) = begun_waits ls m

abbrev SmallQueues : List SwitchLine → Type 0
SmallQueues ls = (n : ℕ) (l : SwitchLine) → slice_get ls n ≡ Some l → length l.end.line.link.queue ≤ 7

event_sends : (n : ℕ) (what : Happening) (s : Switch) (w : World)
    → Becomes (acts_of_all (acted_steps s.routes n what (all_begun s.lines)) (all_begun s.lines)) s.lines w (acted s.routes n (does what) (all_begun s.lines))
    → SmallQueues (rounds (7 * length (all_relinked (length (acted s.routes n (does what) (all_begun s.lines))) s.routes (acted s.routes n (does what) (all_begun s.lines))))
    (lines_first n s.routes (acted s.routes n (does what) (all_begun s.lines)))
    (all_relinked (length (acted s.routes n (does what) (all_begun s.lines))) s.routes (acted s.routes n (does what) (all_begun s.lines))))
    → AreAllSent n what s (record { routes = s.routes; lines = finished s.routes n (acted s.routes n (does what) (all_begun s.lines)) })
event_sends n what s w b small = record { all = λ m. (sent m).0; most = λ m. (sent m).1 }
  where
    bs : List SwitchLine
    bs = all_begun s.lines

    ms : List SwitchLine
    ms = acted s.routes n (does what) bs

    rs : List SwitchLine
    rs = all_relinked (length ms) s.routes ms

    first : List ℕ
    first = lines_first n s.routes ms

    ks_ : List SwitchLine
    ks_ = rounds (7 * length rs) first rs

    sent : (m : ℕ) → (waits (map (with_end settled) ks_) m ≡ all_frames m (event_steps s.routes n what s.lines) s.lines)
        × (length (all_frames m (event_steps s.routes n what s.lines) s.lines) ≤ 9)
    sent m =
        let none = begun_waits s.lines m in
        let a = acted_sends s.routes n m what bs (subst (λ (fs : List Octets). length fs ≤ 8) (sym none) (omega arith)) in
        let own = all_frames m (acted_steps s.routes n what bs) bs in
        let is_own : waits ms m ≡ own = a.is ∙ ap (λ (fs : List Octets). fs ++ own) none in
        let few_own = a.few in
        let r = relinks_send (length ms) (to_relink ms) s.routes ms b.world m refl b.right
        (subst (λ (fs : List Octets). length fs ≤ 7) (sym is_own) (omega (arith, few_own))) in
        let anew = all_frames m (all_relinked_steps (length ms) s.routes ms) ms in
        let is_both : waits rs m ≡ own ++ anew = r.is ∙ ap (λ (fs : List Octets). fs ++ anew) is_own in
        let few_anew = r.few in
        let is_rounds : waits ks_ m ≡ own ++ anew = all_waits rs ks_ m (rounds_frames (7 * length rs) first rs) ∙ is_both in
        let two = length-append own anew in
        let last = frames_at (λ e. last_frames e) (slice_get ks_ m) in
        let settled_ = settled_one (slice_get ks_ m) (λ l e. small m l e) (subst (λ (fs : List Octets). length fs ≤ 2) (sym is_rounds) (omega (arith, two, few_own, few_anew))) in
        let is_last : waits (map (with_end settled) ks_) m ≡ (own ++ anew) ++ last =
        ap (λ (o : Option SwitchLine). frames_on o) (get_map (with_end settled) ks_ m) ∙ (settled_.0 ∙ ap (λ (fs : List Octets). fs ++ last) is_rounds) in
        let quiet_ = none_sent m (rounds_steps (7 * length rs) first rs) rs (rounds_silent (7 * length rs) first rs) in
        let ends : all_frames m (rounds_steps (7 * length rs) first rs ++ Settles ∷ []) rs ≡ last =
        frames_lead m (rounds_steps (7 * length rs) first rs) (Settles ∷ []) rs ks_ (rounds_leads (7 * length rs) first rs)
        ∙ (ap (λ (fs : List Octets). fs ++ (last ++ [])) quiet_ ∙ append-nil last) in
        let all : all_frames m (event_steps s.routes n what s.lines) s.lines ≡ own ++ (anew ++ last) =
        frames_lead m (acted_steps s.routes n what bs) (finished_steps s.routes n ms) bs ms (acted_leads s.routes n what bs)
        ∙ ap (λ (fs : List Octets). own ++ fs)
        (frames_lead m (all_relinked_steps (length ms) s.routes ms) (rounds_steps (7 * length rs) first rs ++ Settles ∷ []) ms rs (all_relinked_leads (length ms) s.routes ms)
        ∙ ap (λ (fs : List Octets). anew ++ fs) ends) in
        let three = length-append own (anew ++ last) in
        let later = length-append anew last in
        let seven = settled_.1 in
        let many = ap (λ (fs : List Octets). length fs) all in (
          is_last ∙ (append_assoc {A = Octets} own anew last ∙ sym all),
          omega (arith, three, later, seven, few_own, few_anew, many),
        )

-- the links are of a switch that holds
small_queues : (n : ℕ) (what : Happening) (s : Switch) (w : World) → SwitchHolds s w
    → SmallQueues (rounds (7 * length (all_relinked (length (acted s.routes n (does what) (all_begun s.lines))) s.routes (acted s.routes n (does what) (all_begun s.lines))))
    (lines_first n s.routes (acted s.routes n (does what) (all_begun s.lines)))
    (all_relinked (length (acted s.routes n (does what) (all_begun s.lines))) s.routes (acted s.routes n (does what) (all_begun s.lines))))
small_queues n what s w h k l e =
    let bs = all_begun s.lines in
    let ms = acted s.routes n (does what) bs in
    let rs = all_relinked (length ms) s.routes ms in
    let xs = rounds (7 * length rs) (lines_first n s.routes ms) rs in
    let fits = fit_each xs (rounds_fit (7 * length rs) (lines_first n s.routes ms) rs (all_relinked_fits (length ms) s.routes ms (acted_fits s.routes n what bs (begun_fits s.lines (fit_list s.lines h.fitting))))) k l e in
    let small = links_small xs
    (subst (λ (ys : List ℕ). AreSmall ys) (sym (rounds_ks (7 * length rs) (lines_first n s.routes ms) rs ∙ (all_relinked_ks (length ms) s.routes ms ∙ (act_ks s.routes n (does what) bs (λ x. does_k what x) ∙ begun_ks s.lines)))) (small_links s.lines h.links)) k l e in
    omega (arith, fits, small)

happening_sends : (n : ℕ) (what : Happening) (s : Switch) (w : World) → SwitchHolds s w → AreAllSent n what s (record s { lines = finished s.routes n (acted s.routes n (does what) (all_begun s.lines)) })
happening_sends n what s w h = event_sends n what s w (happens n what s.routes s.lines w h.joins) (small_queues n what s w h)

timer_sends : (n : ℕ) (id : TimerId) (s : Switch) (w : World) → SwitchHolds s w → (runs : Bool) → runs ≡ true → AreAllSent n (RunsOut id) s (if runs then on_expiry n id s else s)
timer_sends n id s w h true e = happening_sends n (RunsOut id) s w h
timer_sends n id s w h false e = absurd (true≢false (sym e))

pub all_are_sent : SentLaw
all_are_sent = record {
  frame = λ n octets s w h. happening_sends n (Brings octets) s w h;
  timer = λ n id s w h e. timer_sends n id s w h (timer_runs (slice_get s.lines n) id) e;
  relinks = λ n s w h. happening_sends n Relinks s w h;
}
