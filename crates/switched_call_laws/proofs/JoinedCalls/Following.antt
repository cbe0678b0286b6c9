-- What else may be kept beside the joined calls: it stays over acts that place no call, and where a call is joined.
use Rattle.std.specs.Prelude.{◌≡◌, ◌≤◌, ℕ, zero, suc, Bool, true, false, if◌then◌else◌, List, [], ◌∷◌, ◌++◌, length, map, slice_get, Option, Some, None, is_some}
use Rattle.std.proofs.Common.{inl, inr, refl, sym, ap, subst, ◌∙◌, option_map}
use Rattle.std.proofs.lemmas.Option.{none-some, same_Some}
use Rattle.link_timers.specs.declared.role.Role.{Role}
use Rattle.link_timers.specs.declared.role.Role.TheVariants.{Dte, Dce}
use Rattle.link_timers.specs.declared.timers.TimerId.{TimerId}
use Rattle.link_timers.specs.declared.timers.TimerId.TheVariants.{T1}
use Rattle.lapb.specs.declared.note.Note as link_note
use Rattle.lapb.specs.declared.note.Note.TheVariants.{Nothing, Up, Down}
use Rattle.lapb.specs.Machine.{Octets, on_t1, can_offer}
use Rattle.lapb.specs.Octets.{on_octets}
use Rattle.data_transfer.proofs.Windows.{window_below}
use Rattle.data_transfer.specs.declared.flow.Flow.{Flow}
use Rattle.data_transfer.specs.Packets.{CallParts, Note, Packet, Received}
use Rattle.data_transfer.specs.Packets.Note.{Incoming, Connected, Closed, WasReset, InterruptConfirmed, Covered}
use Rattle.data_transfer.specs.Octets.{heard}
use Rattle.packet_channel.specs.Channel.{ChannelState, Channel, Request, may_accept, in_transfer, requested}
use Rattle.packet_channel.specs.Channel.Request.{Accept, Clearing, Resetting, Sending, Interrupting, Stopping, Taking, Releasing, Confirming}
use Rattle.packet_layer.specs.Layer.{Layer, Timer, channel_of, channel_given, next_packet, unread}
use Rattle.packet_layer.specs.Events.{timer_named}
use Rattle.packet_laws.specs.Readable.{Every}
use Rattle.packet_end.specs.PacketEnd.{PacketEnd, runs_at, with_next}
use Rattle.address_routes.specs.Routes.{RouteMap, line_for}
use Rattle.call_records.specs.Records.{RecordValue, PairValue, new_record, with_covered, with_epoch}
use Rattle.call_records.specs.Book.{Book, Slot, side_of, slot_at, told, all_told, address_of, closes, with_record}
use Rattle.record_laws.specs.Books.Told.{World, Move, after_move, after_all, all_callers, made_callers}
use Rattle.record_laws.specs.Books.Headline.{IsPaired, HasCallee, AreAnswered, CallsHold, layer_at}
use Rattle.record_laws.specs.Words.{IsIn}
use Rattle.record_laws.proofs.Books.Basics.{get_last}
use Rattle.record_laws.proofs.Books.BookHolds.{calls_hold, callers_recorded}
use Rattle.record_laws.proofs.Books.Answered.{are_answered}
use Rattle.packet_laws.specs.LayerLine as layers
use Rattle.packet_laws.specs.LayerLine.{Event as layer_event}
use Rattle.packet_laws.specs.LayerLine.Happening.{Here, There}
use Rattle.packet_laws.proofs.Line.Moves.{found_same, placed_same, timer_same}
use Rattle.packet_laws.proofs.Line.Offering.{next_same}
use Rattle.packet_laws.proofs.Line.Arriving.{packet_same}
use Rattle.record_laws.specs.Books.Told.Move.{Happens, Edits}
use Rattle.record_laws.proofs.Books.Writing.{slot_here}
use Rattle.node_laws.specs.Lines.NodeLine.{Line}
use Rattle.switched_call_laws.specs.SwitchRecords.Kept.{Setting, Kept, beginning, end_at}
use Rattle.switched_call_laws.specs.SwitchRecords.Turned.{sight}
use Rattle.switch_joins.specs.declared.channels.SwitchChannel.{SwitchChannel}
use Rattle.switch_joins.specs.Joins.{Joined}
use Rattle.switch_lines.specs.Lines.{SwitchLine, is_trunk, changed, same_place, joined_at}
use Rattle.switch_lines.specs.Switch.{forwarded, with_end, quieted}
use Rattle.switch_laws.specs.World.{Act, Shown, shown_as, shown_on, shown_at, layers_of}
use Rattle.switch_laws.proofs.Lists.{get_map, map_unchanged}
use Rattle.switched_call_laws.proofs.SwitchRecords.Calming.{addresses}
use Rattle.switched_call_laws.specs.SwitchRecords.Kept.{Partners, AreKept, line_of_ends, line_with}
use Rattle.switch_laws.specs.Pairs.{IsNoted}
use Rattle.switch_laws.specs.Steps.{Step, Happening, does, lines_after, lines_after_all, acts_of, happening_acts, note_acts, heard_acts, packet_acts, timer_acts, expiry_acts, offer_acts, on_line}
use Rattle.switch_laws.specs.Steps.Happening.{Brings, RunsOut, Relinks}
use Rattle.switch_laws.specs.Steps.Step.{Asks, Places, Keeps, Offers, Begins, Settles, Elapses}
use Rattle.switch_laws.specs.Steps.{Step as step}
use Rattle.switch_laws.proofs.Outcomes.{AreOf}
use Rattle.switch_laws.proofs.SettingUp.{IsFreePlace}
use Rattle.switched_call_laws.specs.SwitchRecords.Opened.{HasSlot}
use Rattle.switched_call_laws.specs.SwitchRecords.Written.{Books, books_after_all}
use Rattle.switched_call_laws.proofs.SwitchRecords.Cells.{Touches, touches_closed, changes, slot_records}
use Rattle.switched_call_laws.proofs.SwitchRecords.Heads.{comes_opens}
use Rattle.switched_call_laws.specs.JoinedCalls.Calls.{JoinedCall, present_at, books_by, books_by_all, AreCalls}
use Rattle.switched_call_laws.proofs.JoinedCalls.Steady.{OnJoined, IsSteady, AreSteady, Mutual, mutual_stays, steady_same, calls_same}
use Rattle.switched_call_laws.proofs.JoinedCalls.Walking.{Beside, there_step}

-- ---- a call that came in, as it is joined

-- the caller of each record of a book
abbrev pub callers_in : Book → List (Option ℕ)
callers_in b = map (λ r. r.caller) b.records

-- its record is the present one, and that of the end that placed it is the last that this end placed there; it has the
-- addresses of the call, and no other record came from the same one
pub record CameIn (p : SwitchChannel) (parts : CallParts) (bs : Books) : Type 0 where
  pub number : ℕ
  pub caller : ℕ
  pub present : present_at p bs ≡ Some number
  pub came : (slot_at Dce p.channel (bs p.line)).caller ≡ Some caller
  pub last : (slot_at Dte p.channel (bs p.line)).placed ≡ Some caller
  pub it : RecordValue
  pub there : slice_get (bs p.line).records number ≡ Some it
  pub own : it.own ≡ address_of parts.called
  pub far : it.far ≡ address_of parts.calling
  pub alone : (m : ℕ) → slice_get (callers_in (bs p.line)) m ≡ Some (Some caller) → m ≡ number

-- the calls before it, and the two channels; it does not go back over a trunk
pub record Joining (routes : RouteMap) (given : List (Option (List ℕ))) (p q : SwitchChannel) (parts : CallParts) (ls : List SwitchLine) (bs : Books) (cs : List JoinedCall) : Type 0 where
  pub calls : AreCalls ls bs cs
  pub beside : Beside ls bs
  pub came_in : CameIn p parts bs
  pub not_joined : joined_at ls p ≡ None
  pub free : IsFreePlace ls q
  pub routed : line_for routes parts.called ≡ Some q.line
  pub not_back : q.line ≡ p.line → is_trunk (slice_get ls p.line) ≡ false
  pub apart : same_place p q ≡ false
  pub lines : addresses ls ≡ given
  pub there : is_some (shown_at (layers_of ls) p) ≡ true

-- ---- the addresses of the lines

on_ends : (f : PacketEnd → PacketEnd) (ls : List SwitchLine) → addresses (map (with_end f) ls) ≡ addresses ls
on_ends f [] = refl
on_ends f (l ∷ ls) = ap (λ (as_ : List (Option (List ℕ))). l.address ∷ as_) (on_ends f ls)

step_addresses : (s : Step) (ls : List SwitchLine) → addresses (lines_after s ls) ≡ addresses ls
step_addresses (Asks p q) ls = map_unchanged (λ l. l.address) _ p.line ls (λ l. refl)
step_addresses (Places n parts) ls = map_unchanged (λ l. l.address) _ n ls (λ l. refl)
step_addresses (Keeps p o) ls = map_unchanged (λ l. l.address) _ p.line ls (λ l. refl)
step_addresses (step.Happens n what) ls = map_unchanged (λ l. l.address) _ n (changed n (with_end (λ e. does what (quieted e))) ls) (λ l. refl) ∙ map_unchanged (λ l. l.address) _ n ls (λ l. refl)
step_addresses (Offers n) ls = map_unchanged (λ l. l.address) _ n ls (λ l. refl)
step_addresses Begins ls = on_ends _ ls
step_addresses Settles ls = on_ends _ ls
step_addresses (Elapses ticks) ls = on_ends _ ls

pub steps_addresses : (steps : List Step) (ls : List SwitchLine) → addresses (lines_after_all steps ls) ≡ addresses ls
steps_addresses [] ls = refl
steps_addresses (s ∷ more) ls = steps_addresses more (lines_after s ls) ∙ step_addresses s ls

pub addresses_led : (steps : List Step) (ls ms : List SwitchLine) (given : List (Option (List ℕ))) → lines_after_all steps ls ≡ ms → addresses ls ≡ given → addresses ms ≡ given
addresses_led steps ls ms given e f = ap (λ (ks : List SwitchLine). addresses ks) (sym e) ∙ (steps_addresses steps ls ∙ f)

-- ---- what is kept beside

-- a request that sends nothing and accepts no call, and an act that does neither and places no call
abbrev pub IsQuietRequest : Request → Type 0
IsQuietRequest (Sending d) = ⊥
IsQuietRequest (Interrupting octets) = ⊥
IsQuietRequest Accept = ⊥
IsQuietRequest q = Unit {0}

abbrev pub IsQuietAct : Act → Type 0
IsQuietAct (Act.Asks p q) = IsQuietRequest q
IsQuietAct (Act.Calls n parts) = ⊥
IsQuietAct a = Unit {0}

abbrev pub KeptQuietly : (Books → List JoinedCall → Type 0) → Type 0
KeptQuietly R = (acts : List Act) (ys : List Layer) (bs : Books) (cs : List JoinedCall) → Every IsQuietAct acts → R bs cs → R (books_after_all acts ys bs) cs

-- what is sent is sent on joined channels
abbrev pub Sends : Request → Type 0
Sends (Sending d) = Unit {0}
Sends (Interrupting octets) = Unit {0}
Sends q = ⊥

abbrev pub KeptSending : (Books → List JoinedCall → Type 0) → Type 0
KeptSending R = (p : SwitchChannel) (q : Request) (j : Joined) (ls : List SwitchLine) (bs : Books) (cs : List JoinedCall) → Sends q → Mutual ls → AreCalls ls bs cs → joined_at ls p ≡ Some j → R bs cs → R (books_by (Asks p q) ls bs) cs

-- a call that came in is accepted where the one to which it is joined was: the record of this one is in a pair
pub record IsInPair (b : Book) (number : ℕ) : Type 0 where
  pub place : ℕ
  pub pair : PairValue
  pub there : slice_get b.pairs place ≡ Some pair
  pub is_in : IsIn pair number

pub record Connecting (p : SwitchChannel) (j : Joined) (ls : List SwitchLine) (bs : Books) (cs : List JoinedCall) : Type 0 where
  pub calls : AreCalls ls bs cs
  pub pairs : Mutual ls
  pub joined : joined_at ls p ≡ Some j
  pub placed : j.came_in ≡ false
  pub number : ℕ
  pub present : present_at p bs ≡ Some number
  pub answered : IsInPair (bs p.line) number

abbrev pub KeptAccepting : (Books → List JoinedCall → Type 0) → Type 0
KeptAccepting R = (p : SwitchChannel) (j : Joined) (ls : List SwitchLine) (bs : Books) (cs : List JoinedCall) → Connecting p j ls bs cs → R bs cs → R (books_by (Asks j.other Accept) ls bs) cs

abbrev pub KeptJoining : RouteMap → List (Option (List ℕ)) → (Books → List JoinedCall → Type 0) → Type 0
KeptJoining routes given R = (p q : SwitchChannel) (parts : CallParts) (ls : List SwitchLine) (bs : Books) (cs : List JoinedCall) → (j : Joining routes given p q parts ls bs cs) → R bs cs
    → R (books_by (Places q.line (forwarded ls p.line parts)) ls bs) (cs ++ record { near = p; far = q; came_in = j.came_in.number; placed = length (bs q.line).records } ∷ [])

-- one thing and what is kept beside
abbrev pub And : (List SwitchLine → Books → List JoinedCall → Type 0) → (Books → List JoinedCall → Type 0) → List SwitchLine → Books → List JoinedCall → Type 0
And P R ls bs cs = P ls bs cs × R bs cs

-- ---- steps that place no call

if_quiet : (v : Bool) (as_ bs : List Act) → Every IsQuietAct as_ → Every IsQuietAct bs → Every IsQuietAct (if v then as_ else bs)
if_quiet true as_ bs p q = p
if_quiet false as_ bs p q = q

quiet_then : (as_ bs : List Act) → Every IsQuietAct as_ → Every IsQuietAct bs → Every IsQuietAct (as_ ++ bs)
quiet_then [] bs p q = q
quiet_then (a ∷ as_) bs p q = (p.0, quiet_then as_ bs p.1 q)

notes_quiet : (n : ℕ) (note : link_note.Note) → Every IsQuietAct (note_acts n note)
notes_quiet n Nothing = tt
notes_quiet n Up = (tt, tt)
notes_quiet n Down = (tt, tt)

heard_quiet : (n : ℕ) (o : Option Received) → Every IsQuietAct (heard_acts n o)
heard_quiet n None = tt
heard_quiet n (Some r) = (tt, tt)

packets_quiet : (n : ℕ) (flow : Flow) (o : Option Octets) → Every IsQuietAct (packet_acts n flow o)
packets_quiet n flow None = tt
packets_quiet n flow (Some octets) = heard_quiet n (heard flow octets)

timers_quiet : (n : ℕ) (o : Option Timer) → Every IsQuietAct (timer_acts n o)
timers_quiet n None = tt
timers_quiet n (Some t) = (tt, tt)

expiry_quiet : (n : ℕ) (id : TimerId) (e : PacketEnd) → Every IsQuietAct (expiry_acts n id e)
expiry_quiet n T1 e = notes_quiet n (on_t1 e.line.link).note
expiry_quiet n id e = timers_quiet n (timer_named e.layer.role id)

pub happening_quiet : (n : ℕ) (what : Happening) (e : PacketEnd) → Every IsQuietAct (happening_acts n what e)
happening_quiet n (Brings octets) e = quiet_then (note_acts n (on_octets e.line.link octets).note) (packet_acts n e.layer.flow (on_octets e.line.link octets).accepted) (notes_quiet n (on_octets e.line.link octets).note) (packets_quiet n e.layer.flow (on_octets e.line.link octets).accepted)
happening_quiet n (RunsOut id) e = if_quiet (runs_at e id) _ [] (expiry_quiet n id e) tt
happening_quiet n Relinks e = (tt, tt)

offers_quiet : (most n : ℕ) (e : PacketEnd) → Every IsQuietAct (offer_acts most n e)
offers_quiet zero n e = tt
offers_quiet (suc most) n e =
    if_quiet (can_offer e.line.link) _ [] (if_quiet (is_some (next_packet e.layer).packet) (Act.Gives n ∷ offer_acts most n (with_next e (next_packet e.layer))) [] (tt, offers_quiet most n (with_next e (next_packet e.layer))) tt) tt

line_quiet : (f : PacketEnd → List Act) (o : Option SwitchLine) → ((e : PacketEnd) → Every IsQuietAct (f e)) → Every IsQuietAct (on_line f o)
line_quiet f None h = tt
line_quiet f (Some l) h = h l.end

abbrev pub IsQuiet : Step → Type 0
IsQuiet (Asks p q) = IsQuietRequest q
IsQuiet (Places n parts) = ⊥
IsQuiet s = Unit {0}

pub step_quiet : (s : Step) (ls : List SwitchLine) → IsQuiet s → Every IsQuietAct (acts_of s ls)
step_quiet (Asks p q) ls i = (i, tt)
step_quiet (Places n parts) ls i = absurd i
step_quiet (Keeps p o) ls i = tt
step_quiet (step.Happens n what) ls i = (tt, line_quiet (λ e. happening_acts n what e) (slice_get ls n) (λ e. happening_quiet n what e))
step_quiet (Offers n) ls i = line_quiet (λ e. offer_acts 7 n e) (slice_get ls n) (λ e. offers_quiet 7 n e)
step_quiet Begins ls i = tt
step_quiet Settles ls i = tt
step_quiet (Elapses ticks) ls i = tt

pub steps_keep : (R : Books → List JoinedCall → Type 0) → KeptQuietly R → (steps : List Step) (ls : List SwitchLine) (bs : Books) (cs : List JoinedCall) → Every IsQuiet steps → R bs cs → R (books_by_all steps ls bs) cs
steps_keep R k [] ls bs cs i r = r
steps_keep R k (s ∷ more) ls bs cs i r = steps_keep R k more (lines_after s ls) (books_by s ls bs) cs i.1 (k (acts_of s ls) (layers_of ls) bs cs (step_quiet s ls i.0) r)

-- steps that end no call and begin none
module _ (R : Books → List JoinedCall → Type 0) (keeps : KeptQuietly R) (sends : KeptSending R) where
  asked_keeps : (p : SwitchChannel) (q : Request) (ls : List SwitchLine) (bs : Books) (cs : List JoinedCall) → OnJoined q p ls → Mutual ls → AreCalls ls bs cs → R bs cs → R (books_by (Asks p q) ls bs) cs
  asked_keeps p (Sending d) ls bs cs o m a r = sends p (Sending d) o.0 ls bs cs tt m a o.1 r
  asked_keeps p (Interrupting octets) ls bs cs o m a r = sends p (Interrupting octets) o.0 ls bs cs tt m a o.1 r
  asked_keeps p Accept ls bs cs o m a r = absurd o
  asked_keeps p (Clearing cause diagnostic) ls bs cs o m a r = keeps (Act.Asks p (Clearing cause diagnostic) ∷ []) (layers_of ls) bs cs (tt, tt) r
  asked_keeps p (Resetting cause diagnostic) ls bs cs o m a r = keeps (Act.Asks p (Resetting cause diagnostic) ∷ []) (layers_of ls) bs cs (tt, tt) r
  asked_keeps p (Stopping v) ls bs cs o m a r = keeps (Act.Asks p (Stopping v) ∷ []) (layers_of ls) bs cs (tt, tt) r
  asked_keeps p Taking ls bs cs o m a r = keeps (Act.Asks p Taking ∷ []) (layers_of ls) bs cs (tt, tt) r
  asked_keeps p (Releasing n) ls bs cs o m a r = keeps (Act.Asks p (Releasing n) ∷ []) (layers_of ls) bs cs (tt, tt) r
  asked_keeps p Confirming ls bs cs o m a r = keeps (Act.Asks p Confirming ∷ []) (layers_of ls) bs cs (tt, tt) r

  one_keeps : (s : Step) (ls : List SwitchLine) (bs : Books) (cs : List JoinedCall) → IsSteady s ls → Mutual ls → AreCalls ls bs cs → R bs cs → R (books_by s ls bs) cs
  one_keeps (Asks p q) ls bs cs i m a r = asked_keeps p q ls bs cs i.1 m a r
  one_keeps (Places n parts) ls bs cs i m a r = absurd i
  one_keeps (Keeps p o) ls bs cs i m a r = r
  one_keeps (step.Happens n what) ls bs cs i m a r = absurd i
  one_keeps (Offers n) ls bs cs i m a r = keeps (acts_of (Offers n) ls) (layers_of ls) bs cs (step_quiet (Offers n) ls tt) r
  one_keeps Begins ls bs cs i m a r = r
  one_keeps Settles ls bs cs i m a r = r
  one_keeps (Elapses ticks) ls bs cs i m a r = r

  pub steady_keep : (steps : List Step) (ls : List SwitchLine) (bs : Books) (cs : List JoinedCall) → AreSteady steps ls → Mutual ls → AreCalls ls bs cs → R bs cs → R (books_by_all steps ls bs) cs
  steady_keep [] ls bs cs i m a r = r
  steady_keep (s ∷ more) ls bs cs i m a r =
      let same = steady_same s ls bs i.0 in
      steady_keep more (lines_after s ls) (books_by s ls bs) cs i.1 (mutual_stays ls (lines_after s ls) same.joins (λ x. there_step s ls x) m) (calls_same ls (lines_after s ls) bs (books_by s ls bs) cs m same a) (one_keeps s ls bs cs i.0 m a r)

-- ---- a call that comes in is written

-- the present record of a channel is that of a call with these parts, which the other end placed last
pub record WrittenIn (d : ℕ) (parts : CallParts) (b : Book) : Type 0 where
  pub number : ℕ
  pub present : (slot_at Dce d b).present ≡ Some number
  pub caller : (slot_at Dce d b).caller ≡ (slot_at Dte d b).placed
  pub recorded : slice_get (callers_in b) number ≡ Some (slot_at Dte d b).placed
  pub it : RecordValue
  pub there : slice_get b.records number ≡ Some it
  pub own : it.own ≡ address_of parts.called
  pub far : it.far ≡ address_of parts.calling

has_slot : (b b' : Book) (d c : ℕ) → Touches Dce c b b' → HasSlot d b → HasSlot d b'
has_slot b b' d c t h = (h.0, subst (λ (n : ℕ). d ≤ n) (sym (t.size Dce)) h.1)

incoming_written : (d : ℕ) (parts : CallParts) (b : Book) → HasSlot d b → WrittenIn d parts (told Dce (Incoming d parts) b)
incoming_written d parts b h =
    let o = comes_opens d parts b h in
    let z : Slot = record { present = Some (length b.records); placed = (slot_at Dce d b).placed; caller = (slot_at Dte d b).placed } in
    let r : RecordValue = new_record (length b.records) (side_of Dce b).node (address_of parts.called) (address_of parts.calling) (slot_at Dte d b).placed in
    let there : slice_get (told Dce (Incoming d parts) b).records (length b.records) ≡ Some r =
    ap (λ (rs : List RecordValue). slice_get rs (length b.records)) (slot_records Dce d z (with_record r b)) ∙ get_last b.records r in
    record {
      number = length b.records;
      present = o.present;
      caller = ap (λ (s : Slot). s.caller) (slot_here Dce d z (with_record r b) h.0 h.1);
      recorded = get_map (λ (x : RecordValue). x.caller) (told Dce (Incoming d parts) b).records (length b.records) ∙ ap (λ (x : Option RecordValue). option_map (λ y. y.caller) x) there;
      it = r;
      there = there;
      own = refl;
      far = refl;
    }

pub last_written : (d : ℕ) (role : Role) (s : ChannelState) (parts : CallParts) (ns : List Note) (b : Book) → AreOf d role s ns → IsNoted ns d parts → HasSlot d b → WrittenIn d parts (all_told Dce ns b)
last_written d role s parts [] b of n h = absurd n
last_written d role s parts (Incoming c ps ∷ ns) b of n h =
    subst (λ (more : List Note). WrittenIn d parts (all_told Dce (Incoming c ps ∷ more) b)) (sym of.1.1)
    (elim n [
      | inl e ↦ subst (λ (x : Note). WrittenIn d parts (told Dce x b)) (sym e) (incoming_written d parts b h)
      | inr more ↦ absurd (subst (λ (xs : List Note). IsNoted xs d parts) of.1.1 more)
    ])
last_written d role s parts (Connected c ∷ ns) b of n h = last_written d role s parts ns b of.1 (elim n [ inl e ↦ absurd cc | inr more ↦ more ]) h
last_written d role s parts (Closed c cause diagnostic reason ∷ ns) b of n h =
    last_written d role s parts ns (closes Dce c b) of.1 (elim n [ inl e ↦ absurd cc | inr more ↦ more ]) (has_slot b (closes Dce c b) d c (touches_closed Dce c b) h)
last_written d role s parts (WasReset c cause diagnostic reason ∷ ns) b of n h =
    last_written d role s parts ns (told Dce (WasReset c cause diagnostic reason) b) of.1 (elim n [ inl e ↦ absurd cc | inr more ↦ more ]) (has_slot b (told Dce (WasReset c cause diagnostic reason) b) d c (changes Dce c with_epoch b) h)
last_written d role s parts (InterruptConfirmed c ∷ ns) b of n h = last_written d role s parts ns b of.1 (elim n [ inl e ↦ absurd cc | inr more ↦ more ]) h
last_written d role s parts (Covered c k ∷ ns) b of n h =
    last_written d role s parts ns (told Dce (Covered c k) b) of.1 (elim n [ inl e ↦ absurd cc | inr more ↦ more ]) (has_slot b (told Dce (Covered c k) b) d c (changes Dce c (with_covered k) b) h)

-- one that can come in can be accepted
pub noted_accepts : (d : ℕ) (role : Role) (s : ChannelState) (parts : CallParts) (ns : List Note) → AreOf d role s ns → IsNoted ns d parts → may_accept role s ≡ true
noted_accepts d role s parts [] of n = absurd n
noted_accepts d role s parts (Incoming c ps ∷ ns) of n = of.1.0
noted_accepts d role s parts (Connected c ∷ ns) of n = noted_accepts d role s parts ns of.1 (elim n [ inl e ↦ absurd cc | inr more ↦ more ])
noted_accepts d role s parts (Closed c cause diagnostic reason ∷ ns) of n = noted_accepts d role s parts ns of.1 (elim n [ inl e ↦ absurd cc | inr more ↦ more ])
noted_accepts d role s parts (WasReset c cause diagnostic reason ∷ ns) of n = noted_accepts d role s parts ns of.1 (elim n [ inl e ↦ absurd cc | inr more ↦ more ])
noted_accepts d role s parts (InterruptConfirmed c ∷ ns) of n = noted_accepts d role s parts ns of.1 (elim n [ inl e ↦ absurd cc | inr more ↦ more ])
noted_accepts d role s parts (Covered c k ∷ ns) of n = noted_accepts d role s parts ns of.1 (elim n [ inl e ↦ absurd cc | inr more ↦ more ])

-- ---- a call that an end may accept came from one that the other end placed, and one in data transfer is in a pair

-- the layer of an end, but for notes that it has not read
layer_kept : (s : Setting) (role : Role) (b : Book) (l : Line) → (k : Kept s b l) → unread (layer_at role (after_all k.moves (beginning s))) ≡ (end_at role l).layer
layer_kept s Dte b l k = k.joint.mine.layer
layer_kept s Dce b l k = k.joint.yours.layer

kept_answered : (s : Setting) (role : Role) (b : Book) (l : Line) (c : ℕ) (ch : Channel) → Kept s b l → channel_of (end_at role l).layer c ≡ Some ch → may_accept role ch.state ≡ true → is_some (slot_at role c b).caller ≡ true
kept_answered s role b l c ch k e may =
    let a : AreAnswered (after_all k.moves (beginning s)) =
    are_answered s.dte_node s.dce_node s.dte.channels s.dte.flow s.dte.standing k.setting.dte.layer.channels_least (window_below _ k.setting.dte.layer.flow_is) k.moves k.allowed in
    subst (λ (x : Book). is_some (slot_at role c x).caller ≡ true) k.book (a.came role c ch (ap (λ (y : Layer). channel_of y c) (layer_kept s role b l k) ∙ e) may)

-- no two records came in from the same one
kept_once : (s : Setting) (b : Book) (l : Line) → Kept s b l → (m n x : ℕ) → slice_get (callers_in b) m ≡ Some (Some x) → slice_get (callers_in b) n ≡ Some (Some x) → m ≡ n
kept_once s b l k m n x = subst (λ (y : Book). slice_get (callers_in y) m ≡ Some (Some x) → slice_get (callers_in y) n ≡ Some (Some x) → m ≡ n) k.book once
  where
    w : World
    w = after_all k.moves (beginning s)

    are : callers_in w.book ≡ all_callers k.moves (beginning s) (made_callers s.dte.standing)
    are = callers_recorded s.dte_node s.dce_node s.dte.channels s.dte.flow s.dte.standing k.setting.dte.layer.channels_least (window_below _ k.setting.dte.layer.flow_is) k.moves k.allowed

    calls : CallsHold w.book (all_callers k.moves (beginning s) (made_callers s.dte.standing))
    calls = calls_hold s.dte_node s.dce_node s.dte.channels s.dte.flow s.dte.standing k.setting.dte.layer.channels_least (window_below _ k.setting.dte.layer.flow_is) k.moves k.allowed

    once : slice_get (callers_in w.book) m ≡ Some (Some x) → slice_get (callers_in w.book) n ≡ Some (Some x) → m ≡ n
    once e f = calls.once m n x (ap (λ (cs : List (Option ℕ)). slice_get cs m) (sym are) ∙ e) (ap (λ (cs : List (Option ℕ)). slice_get cs n) (sym are) ∙ f)

-- the present record of a channel, in a pair
pub record AnsweredAt (role : Role) (c : ℕ) (b : Book) : Type 0 where
  pub number : ℕ
  pub present : (slot_at role c b).present ≡ Some number
  pub answered : IsInPair b number

abbrev pub Answered : (channel : ℕ) → Book → Type 0
Answered c b = AnsweredAt Dce c b

kept_connected : (s : Setting) (role : Role) (b : Book) (l : Line) (c : ℕ) (ch : Channel) → Kept s b l → channel_of (end_at role l).layer c ≡ Some ch → in_transfer ch.state ≡ true → AnsweredAt role c b
kept_connected s role b l c ch k e up = subst (λ (x : Book). AnsweredAt role c x) k.book (by_caller (is_some (slot_at role c w.book).caller) refl)
  where
    w : World
    w = after_all k.moves (beginning s)

    a : AreAnswered w
    a = are_answered s.dte_node s.dce_node s.dte.channels s.dte.flow s.dte.standing k.setting.dte.layer.channels_least (window_below _ k.setting.dte.layer.flow_is) k.moves k.allowed

    there : channel_of (layer_at role w) c ≡ Some ch
    there = ap (λ (y : Layer). channel_of y c) (layer_kept s role b l k) ∙ e

    by_caller : (v : Bool) → is_some (slot_at role c w.book).caller ≡ v → AnsweredAt role c w.book
    by_caller true f =
        let h : IsPaired (slot_at role c w.book) w.book.pairs = a.paired role c ch there up f in
        record { number = h.callee; present = h.present; answered = record { place = h.place; pair = record { caller = h.caller; callee = h.callee }; there = h.there; is_in = inr refl } }
    by_caller false f =
        let h : HasCallee w.book role c = a.placed role c ch there up f in
        record { number = h.caller; present = h.present; answered = record { place = h.place; pair = record { caller = h.caller; callee = h.callee }; there = h.there; is_in = inl refl } }

up_role : (v : Bool) (n : ℕ) (w : layers.Line) → (if v then record w { me = layers.begun n w.me } else w).me.layer.role ≡ w.me.layer.role
up_role true n w = refl
up_role false n w = refl

offers_role : (o : Option ℕ) (e : layers.End) → (layers.offers o e).layer.role ≡ e.layer.role
offers_role None e = refl
offers_role (Some s) e = (next_same e.layer 0).0

accepts_role : (s : ℕ) (o : Option Packet) (e : layers.End) → (layers.accepts s o e).layer.role ≡ e.layer.role
accepts_role s None e = refl
accepts_role s (Some p) e = (packet_same e.layer 0 p).0

arrives_role : (o : Option ℕ) (w : layers.Line) → (layers.arrives_in o w).me.layer.role ≡ w.me.layer.role
arrives_role None w = refl
arrives_role (Some s) w = accepts_role s (layers.next_of_session w s) w.me

mine_role : (event : layer_event) (w : layers.Line) → (layers.happens event w).me.layer.role ≡ w.me.layer.role
mine_role (layer_event.Up n) w = up_role (layers.may_begin n w) n w
mine_role layer_event.Down w = refl
mine_role (layer_event.Calls parts) w = (placed_same w.me.layer 0 parts (channel_given w.me.layer w.me.layer.phase)).0
mine_role (layer_event.Requests c r) w = (found_same w.me.layer 0 c (λ ch. requested w.me.layer.role w.me.layer.flow ch r) (channel_of w.me.layer c)).0
mine_role (layer_event.Expires t) w = (timer_same w.me.layer 0 t).0
mine_role layer_event.Offers w = offers_role w.me.session w.me
mine_role layer_event.Arrives w = arrives_role w.me.session w

up_other : (v : Bool) (n : ℕ) (w : layers.Line) → (if v then record w { me = layers.begun n w.me } else w).you ≡ w.you
up_other true n w = refl
up_other false n w = refl

arrives_other : (o : Option ℕ) (w : layers.Line) → (layers.arrives_in o w).you ≡ w.you
arrives_other None w = refl
arrives_other (Some s) w = refl

other_stays : (event : layer_event) (w : layers.Line) → (layers.happens event w).you ≡ w.you
other_stays (layer_event.Up n) w = up_other (layers.may_begin n w) n w
other_stays layer_event.Down w = refl
other_stays (layer_event.Calls parts) w = refl
other_stays (layer_event.Requests c r) w = refl
other_stays (layer_event.Expires t) w = refl
other_stays layer_event.Offers w = refl
other_stays layer_event.Arrives w = arrives_other w.me.session w

move_role : (role : Role) (m : Move) (v : World) → (layer_at role (after_move m v)).role ≡ (layer_at role v).role
move_role Dte (Happens (Here event)) v = mine_role event v.line
move_role Dce (Happens (Here event)) v = ap (λ (e : layers.End). e.layer.role) (other_stays event v.line)
move_role Dte (Happens (There event)) v = ap (λ (e : layers.End). e.layer.role) (other_stays event (layers.turned v.line))
move_role Dce (Happens (There event)) v = mine_role event (layers.turned v.line)
move_role Dte (Edits side channel step) v = refl
move_role Dce (Edits side channel step) v = refl

moves_role : (role : Role) (ms : List Move) (v : World) → (layer_at role (after_all ms v)).role ≡ (layer_at role v).role
moves_role role [] v = refl
moves_role role (m ∷ ms) v = moves_role role ms (after_move m v) ∙ move_role role m v

kept_role : (s : Setting) (role : Role) (b : Book) (l : Line) → Kept s b l → (end_at role l).layer.role ≡ role
kept_role s Dte b l k = sym (ap (λ (y : Layer). y.role) (layer_kept s Dte b l k)) ∙ moves_role Dte k.moves (beginning s)
kept_role s Dce b l k = sym (ap (λ (y : Layer). y.role) (layer_kept s Dce b l k)) ∙ moves_role Dce k.moves (beginning s)

-- ---- the same for the switch's end, in its own sight

may_answer : (s : Setting) (role : Role) (b : Book) (l : Line) (c : ℕ) (ch : Channel) → Kept s b l → channel_of (end_at role l).layer c ≡ Some ch → may_accept (end_at role l).layer.role ch.state ≡ true → is_some (slot_at role c b).caller ≡ true
may_answer s role b l c ch k e may = kept_answered s role b l c ch k e (ap (λ (r : Role). may_accept r ch.state) (sym (kept_role s role b l k)) ∙ may)

own_answered : (s : Setting) (role : Role) (b : Book) (e o : PacketEnd) (up down : List Octets) (c : ℕ) (ch : Channel) → Kept s (sight role b) (line_of_ends role e o up down) → channel_of e.layer c ≡ Some ch → may_accept e.layer.role ch.state ≡ true
    → is_some (slot_at Dce c b).caller ≡ true
own_answered s Dte b e o up down c ch k there may = may_answer s Dte (sight Dte b) (line_of_ends Dte e o up down) c ch k there may
own_answered s Dce b e o up down c ch k there may = may_answer s Dce b (line_of_ends Dce e o up down) c ch k there may

own_connected : (s : Setting) (role : Role) (b : Book) (e o : PacketEnd) (up down : List Octets) (c : ℕ) (ch : Channel) → Kept s (sight role b) (line_of_ends role e o up down) → channel_of e.layer c ≡ Some ch → in_transfer ch.state ≡ true → Answered c b
own_connected s Dte b e o up down c ch k there open_ =
    let a : AnsweredAt Dte c (sight Dte b) = kept_connected s Dte (sight Dte b) (line_of_ends Dte e o up down) c ch k there open_ in
    record { number = a.number; present = a.present; answered = record { place = a.answered.place; pair = a.answered.pair; there = a.answered.there; is_in = a.answered.is_in } }
own_connected s Dce b e o up down c ch k there open_ = kept_connected s Dce b (line_of_ends Dce e o up down) c ch k there open_

-- the line of a channel that is there
pub record OnLine (ls : List SwitchLine) (x : SwitchChannel) (shown : Shown) : Type 0 where
  pub line : SwitchLine
  pub there : slice_get ls x.line ≡ Some line
  pub channel : channel_of line.end.layer x.channel ≡ Some shown.channel
  pub role : line.end.layer.role ≡ shown.role

pub line_of_shown : (ls : List SwitchLine) (x : SwitchChannel) (shown : Shown) → shown_at (layers_of ls) x ≡ Some shown → OnLine ls x shown
line_of_shown ls x shown e = by_line (slice_get ls x.line) refl
  where
    layer_is : slice_get (layers_of ls) x.line ≡ option_map (λ l. l.end.layer) (slice_get ls x.line)
    layer_is = get_map (λ l. l.end.layer) ls x.line

    by_channel : (l : SwitchLine) (o : Option Channel) → slice_get ls x.line ≡ Some l → channel_of l.end.layer x.channel ≡ o → OnLine ls x shown
    by_channel l None f g = absurd (none-some shown (sym (ap (λ (y : Option Layer). shown_on y x.channel) (layer_is ∙ ap (λ (o : Option SwitchLine). option_map (λ l. l.end.layer) o) f) ∙ ap (λ (o : Option Channel). shown_as l.end.layer o) g) ∙ e))
    by_channel l (Some ch) f g =
        let is : record { role = l.end.layer.role; flow = l.end.layer.flow; channel = ch } ≡ shown =
        same_Some _ shown (sym (ap (λ (y : Option Layer). shown_on y x.channel) (layer_is ∙ ap (λ (o : Option SwitchLine). option_map (λ l. l.end.layer) o) f) ∙ ap (λ (o : Option Channel). shown_as l.end.layer o) g) ∙ e) in
        record { line = l; there = f; channel = g ∙ ap (λ (y : Shown). Some y.channel) is; role = ap (λ (y : Shown). y.role) is }

    by_line : (o : Option SwitchLine) → slice_get ls x.line ≡ o → OnLine ls x shown
    by_line None f = absurd (none-some shown (sym (ap (λ (y : Option Layer). shown_on y x.channel) (layer_is ∙ ap (λ (o : Option SwitchLine). option_map (λ l. l.end.layer) o) f)) ∙ e))
    by_line (Some l) f = by_channel l (channel_of l.end.layer x.channel) f refl

pub lines_answered : (ps : Partners) (bs : Books) (ls : List SwitchLine) (x : SwitchChannel) (shown : Shown) → AreKept ps bs ls → shown_at (layers_of ls) x ≡ Some shown → may_accept shown.role shown.channel.state ≡ true → is_some (slot_at Dce x.channel (bs x.line)).caller ≡ true
lines_answered ps bs ls x shown k e may =
    let o = line_of_shown ls x shown e in
    let p = ps x.line in
    own_answered p.setting p.role (bs x.line) o.line.end p.other p.up p.down x.channel shown.channel (k x.line o.line o.there) o.channel (ap (λ (r : Role). may_accept r shown.channel.state) o.role ∙ may)

pub lines_once : (ps : Partners) (bs : Books) (ls : List SwitchLine) (x : SwitchChannel) (shown : Shown) → AreKept ps bs ls → shown_at (layers_of ls) x ≡ Some shown → (m n y : ℕ) → slice_get (callers_in (bs x.line)) m ≡ Some (Some y) → slice_get (callers_in (bs x.line)) n ≡ Some (Some y) → m ≡ n
lines_once ps bs ls x shown k e =
    let o = line_of_shown ls x shown e in
    kept_once (ps x.line).setting (sight (ps x.line).role (bs x.line)) (line_with (ps x.line) o.line.end) (k x.line o.line o.there)

pub lines_connected : (ps : Partners) (bs : Books) (ls : List SwitchLine) (x : SwitchChannel) (shown : Shown) → AreKept ps bs ls → shown_at (layers_of ls) x ≡ Some shown → in_transfer shown.channel.state ≡ true → Answered x.channel (bs x.line)
lines_connected ps bs ls x shown k e up =
    let o = line_of_shown ls x shown e in
    let p = ps x.line in
    own_connected p.setting p.role (bs x.line) o.line.end p.other p.up p.down x.channel shown.channel (k x.line o.line o.there) o.channel up
