-- What the register has stays over what is written at the ends of a switch, and over the joins of its calls.
use Rattle.std.specs.Prelude.{◌≡◌, ◌≢◌, ℕ, ◌<◌, ◌⊎◌, Bool, true, false, not, if◌then◌else◌, List, [], ◌∷◌, ◌++◌, length, set, slice_get, Option, Some, None, is_none, unwrap_or}
use Rattle.std.proofs.Common.{inl, inr, refl, sym, ap, ap₂, subst, ◌∙◌, option_map, append_assoc, true≢false}
use Rattle.std.proofs.lemmas.Option.{none-some, same_Some, slice_get_within}
use Rattle.std.proofs.lemmas.Bool.{eq-eqb}
use Rattle.link_timers.specs.declared.role.Role.{Role}
use Rattle.link_timers.specs.declared.role.Role.TheVariants.{Dte, Dce}
use Rattle.link_timers.specs.Role.{other_of}
use Rattle.data_transfer.specs.Packets.{CallParts}
use Rattle.packet_channel.specs.Channel.{Request, Refusal}
use Rattle.packet_channel.specs.Channel.Request.{Accept, Clearing, Resetting, Sending, Interrupting, Stopping, Taking, Releasing, Confirming}
use Rattle.packet_layer.specs.Layer.{Layer, channel_of, front_at, request_refusal}
use Rattle.address_routes.specs.Routes.{RouteMap, line_for}
use Rattle.call_records.specs.Records.{RecordValue, PairValue, with_sent, with_interrupt_sent}
use Rattle.call_records.specs.Book.{Book, places_from, slot_at, changed, with_change, packet_of, address_of}
use Rattle.call_records.specs.Carried.{carried, unless_refused, placed_on}
use Rattle.call_records.specs.Writes.{Write, all_written}
use Rattle.call_records.specs.Writes.Write.{Placed, Asked}
use Rattle.call_records.specs.Register.{Register, book_at, all_written_at}
use Rattle.record_laws.proofs.Books.Basics.{get_before, get_there, get_last, number_is}
use Rattle.record_laws.specs.Registers.Seen.{positions, IsNumbered, LineIsSeen, renumbered, RecordIsSeen, PairIsSeen}
use Rattle.record_laws.specs.Words.{IsIn}
use Rattle.record_laws.proofs.Registers.Positions.{is_place, one_here}
use Rattle.record_laws.proofs.Registers.Steps.{same_place}
use Rattle.switch_joins.specs.declared.channels.SwitchChannel.{SwitchChannel}
use Rattle.switch_joins.specs.Joins.{Joined}
use Rattle.switch_lines.specs.Lines.{SwitchLine, is_trunk, joined_at}
use Rattle.switch_lines.specs.Switch.{forwarded}
use Rattle.switch_lines.specs.Switch as switch
use Rattle.switch_laws.specs.World.{Act, line_of, layers_of, after_act}
use Rattle.switch_laws.specs.Steps.Step.{Asks, Places}
use Rattle.switch_laws.proofs.Lists.{get_map}
use Rattle.switch_laws.proofs.SettingUp.{layer_there}
use Rattle.switched_call_laws.specs.SwitchRecords.Turned.{sight}
use Rattle.packet_laws.specs.Readable.{Every}
use Rattle.switched_call_laws.proofs.SwitchRecords.Turned.{written_seen}
use Rattle.switched_call_laws.specs.SwitchRecords.Written.{Books, asked_writes, act_writes, may_release_on, writes_at, books_after}
pub use Rattle.switched_call_laws.proofs.SwitchRecords.Resting.{act_writes_are}
use Rattle.switched_call_laws.proofs.SwitchRecords.Calming.{addresses}
use Rattle.switched_call_laws.specs.JoinedCalls.Calls.{JoinedCall, present_at, books_by, Stands, StandsOrEnded, AreCalls}
use Rattle.switched_call_laws.proofs.JoinedCalls.Following.{Joining, Sends, IsQuietRequest, IsQuietAct, Connecting, KeptQuietly, KeptSending, KeptAccepting, KeptJoining}
use Rattle.switched_call_laws.proofs.JoinedCalls.Steady.{Paired, Mutual}
use Rattle.switched_call_laws.proofs.SwitchPaths.Accepting.{theirs_stay, pairs_stay, accepted_pair, accepted_records, goes_on_still, accepts_still, accepts_silent, not_of_user, at_switch, user_accepts}
use Rattle.switched_call_laws.proofs.SwitchPaths.Silence.{SentNothing, AllSilent, changed_was, Silent, pushed_silent, nothing_yet, silent_own}
use Rattle.data_transfer.specs.Traffic.{Taken}
use Rattle.switched_call_laws.proofs.JoinedCalls.Closing.{if_apart, records_at}
use Rattle.record_laws.specs.CallPaths.World.{Origin, placing, Join, World, Plan, AreAddressed, Event, after_event, MayHappen, IsSwitchEnd, AllPlaceNone, all_traced, calling_on, with_join}
use Rattle.record_laws.specs.CallPaths.World.Event.{Writes, SwitchWrites, Joins}
use Rattle.record_laws.specs.CallPaths.Seen.{IsMadeAt, Seen, IsJoined}
use Rattle.record_laws.specs.CallPaths.Tree.{IsTree}
use Rattle.record_laws.specs.CallPaths.Paths.{ArePaths}
use Rattle.record_laws.specs.CallPaths.Lines.{LinesSeen}
use Rattle.record_laws.specs.CallPaths.Forwards.{Forwards, AreHandedOn}
use Rattle.record_laws.proofs.CallPaths.SeenAfterEvents.{happens}
use Rattle.record_laws.proofs.CallPaths.Hopping.{paths_go}
use Rattle.record_laws.proofs.CallPaths.Lining.{alone_seen}
use Rattle.record_laws.proofs.CallPaths.Tracing.{traced}
use Rattle.record_laws.proofs.CallPaths.Forwarding.{stays_handed_on}
use Rattle.switched_call_laws.specs.SwitchPaths.Sight.{OwnLines, network_line}
use Rattle.switched_call_laws.specs.SwitchPaths.Network.{channel_end, handed_on, all_handed, PlacedCall, placed_at, of_switch, lines_of, JoinIs, IsJoinAt, AreJoins, IsInJoin, GoesOnAccepted, AcceptsAccepted, SendsOnJoins, AllSeen}
use Rattle.switched_call_laws.proofs.SwitchPaths.Sighted.{own_line_seen}
use Rattle.switched_call_laws.proofs.SwitchPaths.Listing.{less_or_not, AreApart, AreAmong, among_set, among_same, BooksStay, others_same, others_set, others_then, Grows, writes_grow, grows_one, old_or_new, old_origin, own_behind, every_own, ItsJoin, join_at, numbers_stay, lines_last, lines_length, joins_stay, joins_last, join_found}

-- ---- a line of the whole register

pub own_trace : (books : List Book) (line : ℕ) (b : Book) (g : Register) (origins : List Origin) (traces : List (List Origin)) → slice_get books line ≡ Some b → LinesSeen g origins books traces → (own : List Origin) × (slice_get traces line ≡ Some own)
own_trace books line b g origins traces e i = get_there traces line (subst (λ (k : ℕ). line < k) (sym i.count) (slice_get_within books line b e))

-- the books of the lines of the switch at a place, which has these roles, are among all, and the register has what it
-- has of them
pub record IsSeen (plan : Plan) (ats : OwnLines) (place : ℕ) (roles : ℕ → Role) (bs : Books) (all : List PlacedCall) (books : List Book) (w : World) (traces : List (List Origin)) : Type 0 where
  pub among : AreAmong (ats place) roles bs books
  pub seen : Seen plan w
  pub paths : (switches : List ℕ) → IsTree plan switches → ArePaths plan w
  pub lines : LinesSeen w.whole w.origins books traces
  pub joins : AreJoins plan ats w.origins all w.joins
  pub handed : AreHandedOn plan w
  pub sends : SendsOnJoins plan w
  pub accepts : AcceptsAccepted plan w

pub seen_of : (plan : Plan) (ats : OwnLines) (place : ℕ) (roles : ℕ → Role) (bs : Books) (all : List PlacedCall) (books : List Book) (w : World) (traces : List (List Origin)) → IsSeen plan ats place roles bs all books w traces → AllSeen plan ats all books w traces
seen_of plan ats place roles bs all books w traces i = record { seen = i.seen; paths = i.paths; lines = i.lines; joins = i.joins; handed = i.handed; sends = i.sends; accepts = i.accepts }

pub seen_with : (plan : Plan) (ats : OwnLines) (place : ℕ) (roles : ℕ → Role) (bs : Books) (all : List PlacedCall) (books : List Book) (w : World) (traces : List (List Origin)) → AreAmong (ats place) roles bs books → AllSeen plan ats all books w traces → IsSeen plan ats place roles bs all books w traces
seen_with plan ats place roles bs all books w traces among i = record { among = among; seen = i.seen; paths = i.paths; lines = i.lines; joins = i.joins; handed = i.handed; sends = i.sends; accepts = i.accepts }

pub line_there : (plan : Plan) (ats : OwnLines) (place : ℕ) (roles : ℕ → Role) (n : ℕ) (bs : Books) (all : List PlacedCall) (books : List Book) (w : World) (traces : List (List Origin)) → n < length (ats place) → IsSeen plan ats place roles bs all books w traces → network_line (ats place) n < length w.whole.lines
line_there plan ats place roles n bs all books w traces h i = subst (λ (k : ℕ). network_line (ats place) n < k) (sym i.lines.seen.lines) (slice_get_within books (network_line (ats place) n) (sight (roles n) (bs n)) (i.among n h))

pub line_seen : (plan : Plan) (ats : OwnLines) (place : ℕ) (roles : ℕ → Role) (n : ℕ) (bs : Books) (all : List PlacedCall) (books : List Book) (w : World) (traces : List (List Origin)) → n < length (ats place) → (i : IsSeen plan ats place roles bs all books w traces)
    → LineIsSeen (positions (network_line (ats place) n) (lines_of w.origins)) (positions (network_line (ats place) n) i.lines.seen.pair_owners) (bs n) (sight (roles n) (book_at (network_line (ats place) n) w.whole))
line_seen plan ats place roles n bs all books w traces h i =
    let line = network_line (ats place) n in
    let b = sight (roles n) (bs n) in
    let own = own_trace books line b w.whole w.origins traces (i.among n h) i.lines in
    let ns = positions line (lines_of w.origins) in
    let ms = positions line i.lines.seen.pair_owners in
    own_line_seen ns ms (roles n) (bs n) (book_at line w.whole)
    (subst (λ (owners : List ℕ). LineIsSeen (positions line owners) ms b (book_at line w.whole)) (i.lines.lines line own.0 own.1).owners_are
    (i.lines.seen.line line b (i.among n h)))

-- the register after what is written, with what it is then and with the books before it
pub record Moved (plan : Plan) (ats : OwnLines) (place : ℕ) (roles : ℕ → Role) (bs : Books) (all : List PlacedCall) (old : List Book) (old_traces : List (List Origin)) (register : Register) : Type 0 where
  pub books : List Book
  pub world : World
  pub traces : List (List Origin)
  pub is : IsSeen plan ats place roles bs all books world traces
  pub same : world.register ≡ register
  pub others : BooksStay (ats place) old books old_traces traces

pub moved_then : (plan : Plan) (ats : OwnLines) (place : ℕ) (roles : ℕ → Role) (bs bs' : Books) (cs cs' : List PlacedCall) (old : List Book) (old_traces : List (List Origin)) (f g h : Register) → (m : Moved plan ats place roles bs cs old old_traces f) → Moved plan ats place roles bs' cs' m.books m.traces g → g ≡ h → Moved plan ats place roles bs' cs' old old_traces h
moved_then plan ats place roles bs bs' cs cs' old old_traces f g h m x e = record {
  books = x.books;
  world = x.world;
  traces = x.traces;
  is = x.is;
  same = x.same ∙ e;
  others = others_then (ats place) old m.books x.books old_traces m.traces x.traces m.others x.others;
}

-- ---- what the switch sent

joined_more : (js : List Join) (j : Join) (a b : ℕ) → IsJoined js a b → IsJoined (js ++ j ∷ []) a b
joined_more js j a b i = record { place = i.place; there = get_before js (j ∷ []) i.place (record { came_in = a; placed = b }) i.there }

in_more : (js : List Join) (j : Join) (a : ℕ) → IsInJoin js a → IsInJoin (js ++ j ∷ []) a
in_more js j a (inl x) = inl (x.0, joined_more js j a x.0 x.1)
in_more js j a (inr x) = inr (x.0, joined_more js j x.0 a x.1)

-- where what was sent is as it was
silent_sends : (plan : Plan) (line : ℕ) (role : Role) (w v : World) → length w.origins ≡ length w.whole.records → Grows line role w.origins v.origins → ((r : RecordValue) (a : ℕ) → slice_get v.whole.records a ≡ Some r
    → ((x : RecordValue) × ((slice_get w.whole.records a ≡ Some x) × (SentNothing x → SentNothing r))) ⊎ SentNothing r) → ((a : ℕ) → IsInJoin w.joins a → IsInJoin v.joins a) → SendsOnJoins plan w → SendsOnJoins plan v
silent_sends plan line role w v count g silent more s a o r made switch there =
    elim (silent r a there) [
      | inl x ↦
          (let within : a < length w.origins = subst (λ (n : ℕ). a < n) (sym count) (slice_get_within w.whole.records a x.0 x.1.0) in
          elim (s a o x.0 (old_origin line role w.origins v.origins a o g within made) switch x.1.0) [ inl h ↦ inl (x.1.1 h) | inr h ↦ inr (more a h) ])
      | inr h ↦ inl h
    ]

user_sends : (plan : Plan) (line : ℕ) (role : Role) (ws : List Write) (w v : World) → line < length w.whole.lines → plan.has_user line role ≡ true → Seen plan w → Grows line role w.origins v.origins → v.whole ≡ all_written_at line role ws w.whole → v.joins ≡ w.joins
    → SendsOnJoins plan w → SendsOnJoins plan v
user_sends plan line role ws w v h user seen g whole joins s a o r made switch there =
    elim (old_or_new line role w.origins v.origins a o g made) [
      | inr here ↦ absurd (not_of_user plan line role o user switch here)
      | inl old ↦
          (let x = at_switch plan line role w a o h user seen old switch in
          let same : x.value ≡ r = same_Some x.value r (sym (theirs_stay role ws a x.value (book_at line w.whole) x.theirs).there ∙ (ap (λ (y : Register). slice_get y.records a) (sym whole) ∙ there)) in
          elim (s a o r old switch (x.theirs.there ∙ ap (λ (y : RecordValue). Some y) same)) [ inl e ↦ inl e | inr e ↦ inr (subst (λ (js : List Join). IsInJoin js a) (sym joins) e) ])
    ]

-- ---- what is written at an end with a user

pub written_by_user : (plan : Plan) (ats : OwnLines) (line : ℕ) (role : Role) (ws : List Write) (b : Book) (own : List Origin) (all : List PlacedCall) (books : List Book) (w : World) (traces : List (List Origin)) → plan.has_user line role ≡ true → slice_get books line ≡ Some b
    → slice_get traces line ≡ Some own → AllSeen plan ats all books w traces → AllSeen plan ats all (set books line (all_written role ws b)) (after_event (Writes line role ws) w) (set traces line (all_traced line role ws b own))
written_by_user plan ats line role ws b own all books w traces user there trace i =
    let event = Writes line role ws in
    let may : MayHappen plan event w = (subst (λ (k : ℕ). line < k) (sym i.lines.seen.lines) (slice_get_within books line b there), user) in
    record {
      seen = happens plan event w may i.seen;
      paths = λ switches tree. paths_go plan switches event w tree may i.seen (i.paths switches tree);
      lines = traced w.whole w.origins books traces line b own role ws there trace i.lines;
      joins = joins_stay plan ats line role w.origins _ all w.joins (writes_grow line role ws (book_at line w.whole) w.origins) i.joins;
      handed = stays_handed_on plan event w may tt i.seen i.handed;
      sends = user_sends plan line role ws w (after_event event w) may.0 user i.seen (writes_grow line role ws (book_at line w.whole) w.origins) refl refl i.sends;
      accepts = user_accepts plan line role ws w (after_event event w) may.0 user i.seen (writes_grow line role ws (book_at line w.whole) w.origins) refl refl i.accepts;
    }

-- ---- what is written at the switch's ends

-- no line of the switch at a place is two of its own, and it is at its end of each of them
pub record StandsAt (plan : Plan) (place : ℕ) (at : List ℕ) (roles : ℕ → Role) : Type 0 where
  pub apart : AreApart at
  pub switch_end : (n : ℕ) → n < length at → plan.has_user (network_line at n) (roles n) ≡ false
  pub placed : (n : ℕ) → n < length at → plan.node (network_line at n) (roles n) ≡ place

module _ (plan : Plan) (ats : OwnLines) (place : ℕ) (roles : ℕ → Role) (stands : StandsAt plan place (ats place) roles) where
  -- the lines of the switch
  abbrev at : List ℕ
  at = ats place

  -- what these writes leave of what the switch sent, and of what it accepted
  pub record WritesSo (n : ℕ) (ws : List Write) (w : World) : Type 0 where
    pub sends : SendsOnJoins plan w → SendsOnJoins plan (after_event (SwitchWrites (network_line at n) (roles n) ws) w)
    pub accepts : AcceptsAccepted plan w → AcceptsAccepted plan (after_event (SwitchWrites (network_line at n) (roles n) ws) w)

  pub silently : (n : ℕ) (ws : List Write) (w : World) → Seen plan w → AllSilent ws → WritesSo n ws w
  silently n ws w seen i =
      let line = network_line at n in
      let v = after_event (SwitchWrites line (roles n) ws) w in
      let g = writes_grow line (roles n) ws (book_at line w.whole) w.origins in
      let silent : Silent (book_at line w.whole) (all_written (roles n) ws (book_at line w.whole)) = silent_own (roles n) ws (book_at line w.whole) i in
      record {
        sends = λ s. silent_sends plan line (roles n) w v seen.records.count g (λ r a e. silent.records a r e) (λ a h. h) s;
        accepts = λ s. accepts_silent plan line (roles n) w v seen g silent.pairs (λ a b h. h) s;
      }

  pub switch_writes : (n : ℕ) (ws : List Write) (bs bs' : Books) (cs : List PlacedCall) (books : List Book) (w : World) (traces : List (List Origin)) → n < length at → AllPlaceNone ws → WritesSo n ws w → bs' n ≡ all_written Dce ws (bs n)
      → ((k : ℕ) → k ≢ n → bs' k ≡ bs k) → IsSeen plan ats place roles bs cs books w traces → Moved plan ats place roles bs' cs books traces w.register
  switch_writes n ws bs bs' cs books w traces h none so here others i =
      let line = network_line at n in
      let role = roles n in
      let old = sight role (bs n) in
      let event = SwitchWrites line role ws in
      let may : MayHappen plan event w = (record { there = line_there plan ats place roles n bs cs books w traces h i; switch = stands.switch_end n h }, none) in
      let own = own_trace books line old w.whole w.origins traces (i.among n h) i.lines in
      let b = all_written role ws old in
      let trace = all_traced line role ws old own.0 in
      record {
        books = set books line b;
        world = after_event event w;
        traces = set traces line trace;
        is = record {
          among = among_set at roles n bs bs' books b stands.apart h (ap (λ (x : Book). sight role x) here ∙ sym (written_seen role ws (bs n))) others i.among;
          seen = happens plan event w may i.seen;
          paths = λ switches tree. paths_go plan switches event w tree may i.seen (i.paths switches tree);
          lines = traced w.whole w.origins books traces line old own.0 role ws (i.among n h) own.1 i.lines;
          joins = joins_stay plan ats line role w.origins _ cs w.joins (writes_grow line role ws (book_at line w.whole) w.origins) i.joins;
          handed = stays_handed_on plan event w may tt i.seen i.handed;
          sends = so.sends i.sends;
          accepts = so.accepts i.accepts;
        };
        same = refl;
        others = others_set at n books b traces trace h;
      }

  -- ---- acts that place no call

  pub same_books : (bs bs' : Books) (cs : List PlacedCall) (books : List Book) (w : World) (traces : List (List Origin)) → ((k : ℕ) → k < length at → bs' k ≡ bs k) → IsSeen plan ats place roles bs cs books w traces → Moved plan ats place roles bs' cs books traces w.register
  same_books bs bs' cs books w traces h i = record {
    books = books;
    world = w;
    traces = traces;
    is = record { seen = i.seen; paths = i.paths; among = among_same at roles bs bs' books h i.among; lines = i.lines; joins = i.joins; handed = i.handed; sends = i.sends; accepts = i.accepts };
    same = refl;
    others = others_same at books traces;
  }

  asked_none : (c : ℕ) (q : Request) (l : Layer) → AllPlaceNone (asked_writes c q l)
  asked_none c Accept l = (tt, tt)
  asked_none c (Clearing cause diagnostic) l = (tt, tt)
  asked_none c (Resetting cause diagnostic) l = (tt, tt)
  asked_none c (Sending d) l = (tt, tt)
  asked_none c (Interrupting o) l = (tt, tt)
  asked_none c (Stopping v) l = (tt, tt)
  asked_none c Taking l = (tt, tt)
  asked_none c Confirming l = (tt, tt)
  asked_none c (Releasing n) l = by_room (may_release_on (channel_of l c) n)
    where
      by_room : (v : Bool) → AllPlaceNone (if v then Asked (request_refusal l c (Releasing n)) c (Releasing n) (front_at (channel_of l c)) ∷ [] else [])
      by_room true = (tt, tt)
      by_room false = tt

  act_none : (a : Act) (l : Layer) → IsQuietAct a → AllPlaceNone (act_writes a l)
  act_none (Act.Asks p q) l i = asked_none p.channel q l
  act_none (Act.Calls n parts) l i = absurd i
  act_none (Act.Comes n r) l i = (tt, tt)
  act_none (Act.Expires n t) l i = (tt, tt)
  act_none (Act.GoesUp n) l i = (tt, tt)
  act_none (Act.GoesDown n) l i = (tt, tt)
  act_none (Act.Gives n) l i = (tt, tt)
  act_none (Act.Reads n) l i = (tt, tt)

  asked_silent : (c : ℕ) (q : Request) (l : Layer) → IsQuietRequest q → AllSilent (asked_writes c q l)
  asked_silent c Accept l i = absurd i
  asked_silent c (Clearing cause diagnostic) l i = (tt, tt)
  asked_silent c (Resetting cause diagnostic) l i = (tt, tt)
  asked_silent c (Sending d) l i = absurd i
  asked_silent c (Interrupting o) l i = absurd i
  asked_silent c (Stopping v) l i = (tt, tt)
  asked_silent c Taking l i = (tt, tt)
  asked_silent c Confirming l i = (tt, tt)
  asked_silent c (Releasing n) l i = by_room (may_release_on (channel_of l c) n)
    where
      by_room : (v : Bool) → AllSilent (if v then Asked (request_refusal l c (Releasing n)) c (Releasing n) (front_at (channel_of l c)) ∷ [] else [])
      by_room true = (tt, tt)
      by_room false = tt

  act_silent : (a : Act) (l : Layer) → IsQuietAct a → AllSilent (act_writes a l)
  act_silent (Act.Asks p q) l i = asked_silent p.channel q l i
  act_silent (Act.Calls n parts) l i = absurd i
  act_silent (Act.Comes n r) l i = (tt, tt)
  act_silent (Act.Expires n t) l i = (tt, tt)
  act_silent (Act.GoesUp n) l i = (tt, tt)
  act_silent (Act.GoesDown n) l i = (tt, tt)
  act_silent (Act.Gives n) l i = (tt, tt)
  act_silent (Act.Reads n) l i = (tt, tt)

  -- an act with what its writes leave
  act_moves : (a : Act) (ys : List Layer) (bs : Books) (cs : List PlacedCall) (books : List Book) (w : World) (traces : List (List Origin))
      → ((l : Layer) → slice_get ys (line_of a) ≡ Some l → line_of a < length at → AllPlaceNone (act_writes a l) × WritesSo (line_of a) (act_writes a l) w)
      → IsSeen plan ats place roles bs cs books w traces → Moved plan ats place roles (books_after a ys bs) cs books traces w.register
  act_moves a ys bs cs books w traces q i = by_line (less_or_not (line_of a) (length at))
    where
      elsewhere : (k : ℕ) → k ≢ line_of a → books_after a ys bs k ≡ bs k
      elsewhere k ne = if_apart k (line_of a) (writes_at a (slice_get ys k) (bs k)) (bs k) ne

      here : books_after a ys bs (line_of a) ≡ writes_at a (slice_get ys (line_of a)) (bs (line_of a))
      here = ap (λ (v : Bool). if v then writes_at a (slice_get ys (line_of a)) (bs (line_of a)) else bs (line_of a)) (eq-eqb (line_of a) (line_of a) refl)

      by_layer : line_of a < length at → (o : Option Layer) → slice_get ys (line_of a) ≡ o → Moved plan ats place roles (books_after a ys bs) cs books traces w.register
      by_layer h None e =
          same_books bs (books_after a ys bs) cs books w traces
          (λ k g. elim (number_is k (line_of a)) [
            | inl is ↦ ap (λ (n : ℕ). books_after a ys bs n) is ∙ (here ∙ (ap (λ (o : Option Layer). writes_at a o (bs (line_of a))) e ∙ ap (λ (n : ℕ). bs n) (sym is)))
            | inr ne ↦ elsewhere k ne
          ]) i
      by_layer h (Some l) e =
          switch_writes (line_of a) (act_writes a l) bs (books_after a ys bs) cs books w traces h (q l e h).0 (q l e h).1 (here ∙ (ap (λ (o : Option Layer). writes_at a o (bs (line_of a))) e ∙ act_writes_are Dce a l (bs (line_of a)))) elsewhere i

      by_line : (line_of a < length at) ⊎ (line_of a < length at → ⊥) → Moved plan ats place roles (books_after a ys bs) cs books traces w.register
      by_line (inl h) = by_layer h (slice_get ys (line_of a)) refl
      by_line (inr h) = same_books bs (books_after a ys bs) cs books w traces (λ k g. elsewhere k (λ is. h (subst (λ (n : ℕ). n < length at) is g))) i

  -- the calls that the switch joined since, and the register then
  pub record Beyond (old : List PlacedCall) (old_books : List Book) (old_traces : List (List Origin)) (g : Register) (bs : Books) (cs : List JoinedCall) : Type 0 where
    pub new : List JoinedCall
    pub is : cs ≡ of_switch place old ++ new
    pub moved : Moved plan ats place roles bs (old ++ placed_at place new) old_books old_traces (all_handed at roles new g)

  -- its calls are those of the switch among all
  its_own : (old : List PlacedCall) (old_books : List Book) (old_traces : List (List Origin)) (g : Register) (bs : Books) (cs : List JoinedCall) → (b : Beyond old old_books old_traces g bs cs) → of_switch place (old ++ placed_at place b.new) ≡ cs
  its_own old old_books old_traces g bs cs b = own_behind place old b.new ∙ sym b.is

  pub stays_quietly : (old : List PlacedCall) (old_books : List Book) (old_traces : List (List Origin)) (g : Register) → KeptQuietly (Beyond old old_books old_traces g)
  stays_quietly old old_books old_traces g [] ys bs cs q b = b
  stays_quietly old old_books old_traces g (a ∷ more) ys bs cs q b =
      let m = b.moved in
      let all = old ++ placed_at place b.new in
      let x = act_moves a ys bs all m.books m.world m.traces (λ l e h. (act_none a l q.0, silently (line_of a) (act_writes a l) m.world m.is.seen (act_silent a l q.0))) m.is in
      stays_quietly old old_books old_traces g more (after_act a ys) (books_after a ys bs) cs q.1
      (record { new = b.new; is = b.is; moved = moved_then plan ats place roles bs (books_after a ys bs) all all old_books old_traces (all_handed at roles b.new g) m.world.register (all_handed at roles b.new g) m x m.same })

  numbered : (ns : List ℕ) (o p : Option ℕ) (i : ℕ) → IsNumbered ns o p → o ≡ Some i → (m : ℕ) × ((p ≡ Some m) × (slice_get ns i ≡ Some m))
  numbered ns (Some j) (Some m) i h e = (m, (refl, ap (λ (k : ℕ). slice_get ns k) (sym (same_Some j i e)) ∙ h))
  numbered ns (Some j) None i h e = absurd h
  numbered ns None p i h e = absurd (none-some i e)

  -- ---- what is sent on a joined channel

  -- only the present record of the channel changes
  only_present : (role : Role) (o : Option Refusal) (c : ℕ) (f : RecordValue → RecordValue) (b : Book) (a : ℕ) (r : RecordValue) → slice_get (unless_refused o (changed role c f b) b).records a ≡ Some r → (slice_get b.records a ≡ Some r) ⊎ ((slot_at role c b).present ≡ Some a)
  only_present role (Some x) c f b a r e = inl e
  only_present role None c f b a r e = by_present (slot_at role c b).present refl e
    where
      by_present : (p : Option ℕ) → (slot_at role c b).present ≡ p → slice_get (with_change p f b).records a ≡ Some r → (slice_get b.records a ≡ Some r) ⊎ ((slot_at role c b).present ≡ Some a)
      by_present None g h = inl h
      by_present (Some m) g h =
          let k = changed_was b.records m f a r h in
          elim k.1.1 [ inl x ↦ inr (g ∙ ap (λ (n : ℕ). Some n) (sym x.0)) | inr x ↦ inl (k.1.0 ∙ ap (λ (y : RecordValue). Some y) (sym x)) ]

  -- the present record of a joined channel is of a join
  joined_in : (p : SwitchChannel) (j : Joined) (ls : List SwitchLine) (bs : Books) (cs : List JoinedCall) (all : List PlacedCall) (books : List Book) (w : World) (traces : List (List Origin)) (a : ℕ) → p.line < length at → Mutual ls → AreCalls ls bs cs → of_switch place all ≡ cs → joined_at ls p ≡ Some j → IsSeen plan ats place roles bs all books w traces
      → (slot_at (roles p.line) p.channel (book_at (network_line at p.line) w.whole)).present ≡ Some a → IsInJoin w.joins a
  joined_in p j ls bs cs all books w traces a h m calls its e i present = by_side j.came_in refl
    where
      seen : LineIsSeen (positions (network_line at p.line) (lines_of w.origins)) (positions (network_line at p.line) i.lines.seen.pair_owners) (bs p.line) (sight (roles p.line) (book_at (network_line at p.line) w.whole))
      seen = line_seen plan ats place roles p.line bs all books w traces h i

      k : Paired ls p j
      k = m p j e

      number : (n : ℕ) → present_at p bs ≡ Some n → slice_get (positions (network_line at p.line) (lines_of w.origins)) n ≡ Some a
      number n f =
          let x = numbered (positions (network_line at p.line) (lines_of w.origins)) (slot_at Dce p.channel (bs p.line)).present (slot_at (roles p.line) p.channel (book_at (network_line at p.line) w.whole)).present n ((seen.sides Dce).slot p.channel).present f in
          x.1.1 ∙ (sym x.1.0 ∙ present)

      by_side : (v : Bool) → j.came_in ≡ v → IsInJoin w.joins a
      by_side true f =
          let c = calls.all p j e f in
          let x = join_at plan ats place w.origins all w.joins c.0 c.1 i.joins (ap (λ (ds : List JoinedCall). slice_get ds c.0) its ∙ c.2) in
          let near : present_at p bs ≡ Some c.1.came_in = ap (λ (y : SwitchChannel). present_at y bs) (sym c.4) ∙ c.3.near_present in
          let same : x.join.came_in ≡ a = same_Some x.join.came_in a (sym x.is.near.1 ∙ (ap (λ (y : SwitchChannel). slice_get (positions (network_line at y.line) (lines_of w.origins)) c.1.came_in) c.4 ∙ number c.1.came_in near)) in
          inl (x.join.placed, record { place = x.place; there = x.there ∙ ap (λ (n : ℕ). Some (record { came_in = n; placed = x.join.placed })) same })
      by_side false f =
          let c = calls.all j.other k.far k.joined (k.one_came_in ∙ ap not f) in
          let is : c.3.join ≡ k.far = same_Some c.3.join k.far (sym c.3.joined ∙ (ap (λ (y : SwitchChannel). joined_at ls y) c.4 ∙ k.joined)) in
          let far : c.1.far ≡ p = sym c.3.other ∙ (ap (λ (y : Joined). y.other) is ∙ k.back) in
          let x = join_at plan ats place w.origins all w.joins c.0 c.1 i.joins (ap (λ (ds : List JoinedCall). slice_get ds c.0) its ∙ c.2) in
          let there : present_at p bs ≡ Some c.1.placed = ap (λ (y : SwitchChannel). present_at y bs) (sym far) ∙ c.3.far_present in
          let same : x.join.placed ≡ a = same_Some x.join.placed a (sym x.is.far.1 ∙ (ap (λ (y : SwitchChannel). slice_get (positions (network_line at y.line) (lines_of w.origins)) c.1.placed) far ∙ number c.1.placed there)) in
          inr (x.join.came_in, record { place = x.place; there = x.there ∙ ap (λ (n : ℕ). Some (record { came_in = x.join.came_in; placed = n })) same })

  -- and the pairs are the same
  sent_pairs : (role : Role) (o : Option Refusal) (c : ℕ) (f : RecordValue → RecordValue) (b : Book) → (unless_refused o (changed role c f b) b).pairs ≡ b.pairs
  sent_pairs role (Some x) c f b = refl
  sent_pairs role None c f b = by_present (slot_at role c b).present
    where
      by_present : (p : Option ℕ) → (with_change p f b).pairs ≡ b.pairs
      by_present None = refl
      by_present (Some m) = refl

  -- a packet or an interrupt that is sent
  sent_so : (p : SwitchChannel) (j : Joined) (ls : List SwitchLine) (bs : Books) (cs : List JoinedCall) (all : List PlacedCall) (books : List Book) (w : World) (traces : List (List Origin)) (o : Option Refusal) (q : Request) (x : Option Taken) (f : RecordValue → RecordValue) → p.line < length at → Mutual ls → AreCalls ls bs cs → of_switch place all ≡ cs → joined_at ls p ≡ Some j
      → IsSeen plan ats place roles bs all books w traces → ((b : Book) → carried (roles p.line) p.channel q x b ≡ changed (roles p.line) p.channel f b) → WritesSo p.line (Asked o p.channel q x ∷ []) w
  sent_so p j ls bs cs all books w traces o q x f h m calls its e i is =
      let line = network_line at p.line in
      let role = roles p.line in
      let b = book_at line w.whole in
      let ws = Asked o p.channel q x ∷ [] in
      record {
        sends = λ s a origin r made switch there.
            elim (only_present role o p.channel f b a r (ap (λ (y : Book). slice_get (unless_refused o y b).records a) (sym (is b)) ∙ there)) [
              | inl old ↦ s a origin r made switch old
              | inr present ↦ inr (joined_in p j ls bs cs all books w traces a h m calls its e i present)
            ];
        accepts = λ s. accepts_silent plan line role w (after_event (SwitchWrites line role ws) w) i.seen (writes_grow line role ws b w.origins) (ap (λ (y : Book). (unless_refused o y b).pairs) (is b) ∙ sent_pairs role o p.channel f b) (λ a b h. h) s;
      }

  -- ---- a request

  asks : (old : List PlacedCall) (old_books : List Book) (old_traces : List (List Origin)) (g : Register) (p : SwitchChannel) (r : Request) (ls : List SwitchLine) (bs : Books) (cs : List JoinedCall) (b : Beyond old old_books old_traces g bs cs)
      → ((l : Layer) → slice_get (layers_of ls) p.line ≡ Some l → p.line < length at → AllPlaceNone (asked_writes p.channel r l) × WritesSo p.line (asked_writes p.channel r l) b.moved.world) → Beyond old old_books old_traces g (books_by (Asks p r) ls bs) cs
  asks old old_books old_traces g p r ls bs cs b so =
      let all = old ++ placed_at place b.new in
      let x = act_moves (Act.Asks p r) (layers_of ls) bs all b.moved.books b.moved.world b.moved.traces so b.moved.is in
      record { new = b.new; is = b.is; moved = moved_then plan ats place roles bs (books_by (Asks p r) ls bs) all all old_books old_traces (all_handed at roles b.new g) b.moved.world.register (all_handed at roles b.new g) b.moved x b.moved.same }

  pub stays_sending : (old : List PlacedCall) (old_books : List Book) (old_traces : List (List Origin)) (g : Register) → KeptSending (Beyond old old_books old_traces g)
  stays_sending old old_books old_traces g p q j ls bs cs sending m calls e b = by_request q sending
    where
      its : of_switch place (old ++ placed_at place b.new) ≡ cs
      its = its_own old old_books old_traces g bs cs b

      by_request : (r : Request) → Sends r → Beyond old old_books old_traces g (books_by (Asks p r) ls bs) cs
      by_request (Sending d) i =
          asks old old_books old_traces g p (Sending d) ls bs cs b (λ l f h. ((tt, tt), sent_so p j ls bs cs (old ++ placed_at place b.new) b.moved.books b.moved.world b.moved.traces (request_refusal l p.channel (Sending d)) (Sending d) (front_at (channel_of l p.channel)) (with_sent (packet_of d)) h m calls its e b.moved.is (λ y. refl)))
      by_request (Interrupting octets) i =
          asks old old_books old_traces g p (Interrupting octets) ls bs cs b (λ l f h. ((tt, tt), sent_so p j ls bs cs (old ++ placed_at place b.new) b.moved.books b.moved.world b.moved.traces (request_refusal l p.channel (Interrupting octets)) (Interrupting octets) (front_at (channel_of l p.channel)) (with_interrupt_sent octets) h m calls its e b.moved.is (λ y. refl)))
      by_request Accept i = absurd i
      by_request (Clearing cause diagnostic) i = absurd i
      by_request (Resetting cause diagnostic) i = absurd i
      by_request (Stopping v) i = absurd i
      by_request Taking i = absurd i
      by_request (Releasing n) i = absurd i
      by_request Confirming i = absurd i

  -- ---- a call is accepted where the one with which it goes on was

  module _ (p : SwitchChannel) (j : Joined) (ls : List SwitchLine) (bs : Books) (cs : List JoinedCall) (all : List PlacedCall) (its : of_switch place all ≡ cs) (c : Connecting p j ls bs cs) (books : List Book) (w : World) (traces : List (List Origin)) (i : IsSeen plan ats place roles bs all books w traces) where
    -- the channel where the call came in
    abbrev came : SwitchChannel
    came = j.other

    accepted_goes_on : (a : ℕ) → came.line < length at → (slot_at (roles came.line) came.channel (book_at (network_line at came.line) w.whole)).present ≡ Some a → GoesOnAccepted w a
    accepted_goes_on a h present = by_end c.answered.is_in
      where
        k : Paired ls p j
        k = c.pairs p j c.joined

        d : (n : ℕ) × (call : JoinedCall) × (slice_get cs n ≡ Some call) × Stands ls bs call × (call.near ≡ came)
        d = c.calls.all came k.far k.joined (k.one_came_in ∙ ap not c.placed)

        x : ItsJoin at w.origins w.joins d.1
        x = join_at plan ats place w.origins all w.joins d.0 d.1 i.joins (ap (λ (ds : List JoinedCall). slice_get ds d.0) its ∙ d.2)

        far : d.1.far ≡ p
        far =
            let is : d.3.join ≡ k.far = same_Some d.3.join k.far (sym d.3.joined ∙ (ap (λ (y : SwitchChannel). joined_at ls y) d.4 ∙ k.joined)) in
            sym d.3.other ∙ (ap (λ (y : Joined). y.other) is ∙ k.back)

        seen : LineIsSeen (positions (network_line at came.line) (lines_of w.origins)) (positions (network_line at came.line) i.lines.seen.pair_owners) (bs came.line) (sight (roles came.line) (book_at (network_line at came.line) w.whole))
        seen = line_seen plan ats place roles came.line bs all books w traces h i

        came_is : x.join.came_in ≡ a
        came_is =
            let near : present_at came bs ≡ Some d.1.came_in = ap (λ (y : SwitchChannel). present_at y bs) (sym d.4) ∙ d.3.near_present in
            let n = numbered (positions (network_line at came.line) (lines_of w.origins)) (slot_at Dce came.channel (bs came.line)).present (slot_at (roles came.line) came.channel (book_at (network_line at came.line) w.whole)).present d.1.came_in ((seen.sides Dce).slot came.channel).present near in
            same_Some x.join.came_in a (sym x.is.near.1 ∙ (ap (λ (y : SwitchChannel). slice_get (positions (network_line at y.line) (lines_of w.origins)) d.1.came_in) d.4 ∙ (n.1.1 ∙ (sym n.1.0 ∙ present))))

        joined : IsJoined w.joins a x.join.placed
        joined = record { place = x.place; there = x.there ∙ ap (λ (n : ℕ). Some (record { came_in = n; placed = x.join.placed })) came_is }

        -- the record of the far leg, in the whole register
        pl : ℕ
        pl = network_line at p.line

        number_is : c.number ≡ d.1.placed
        number_is = same_Some c.number d.1.placed (sym c.present ∙ (ap (λ (y : SwitchChannel). present_at y bs) (sym far) ∙ d.3.far_present))

        placed_at : slice_get (positions pl (lines_of w.origins)) c.number ≡ Some x.join.placed
        placed_at = ap₂ (λ (y : SwitchChannel) (n : ℕ). slice_get (positions (network_line at y.line) (lines_of w.origins)) n) (sym far) number_is ∙ x.is.far.1

        far_seen : LineIsSeen (positions pl (lines_of w.origins)) (positions pl i.lines.seen.pair_owners) (bs p.line) (sight (roles p.line) (book_at pl w.whole))
        far_seen = line_seen plan ats place roles p.line bs all books w traces (subst (λ (y : SwitchChannel). y.line < length at) far x.is.far.0) i

        whole_place : (n : ℕ) × (slice_get (positions pl i.lines.seen.pair_owners) c.answered.place ≡ Some n)
        whole_place = get_there (positions pl i.lines.seen.pair_owners) c.answered.place (subst (λ (n : ℕ). c.answered.place < n) far_seen.pair_count (slice_get_within (bs p.line).pairs c.answered.place c.answered.pair c.answered.there))

        q : PairIsSeen (positions pl (lines_of w.origins)) (bs p.line).pairs (book_at pl w.whole).pairs c.answered.place whole_place.0
        q = far_seen.pairs c.answered.place whole_place.0 whole_place.1

        own_is : q.own_pair ≡ c.answered.pair
        own_is = same_Some q.own_pair c.answered.pair (sym q.own_there ∙ c.answered.there)

        by_end : IsIn c.answered.pair c.number → GoesOnAccepted w a
        by_end (inl e) =
            let caller : q.seen_pair.caller ≡ x.join.placed = same_Some q.seen_pair.caller x.join.placed (sym q.caller ∙ (ap (λ (n : ℕ). slice_get (positions pl (lines_of w.origins)) n) (ap (λ (y : PairValue). y.caller) own_is ∙ e) ∙ placed_at)) in
            record {
              far = x.join.placed;
              joined = joined;
              place = whole_place.0;
              pair = q.seen_pair;
              there = q.seen_there;
              caller = caller;
            }
        by_end (inr e) =
            let callee : q.seen_pair.callee ≡ x.join.placed = same_Some q.seen_pair.callee x.join.placed (sym q.callee ∙ (ap (λ (n : ℕ). slice_get (positions pl (lines_of w.origins)) n) (ap (λ (y : PairValue). y.callee) own_is ∙ e) ∙ placed_at)) in
            let came_here = i.seen.pairs.came whole_place.0 q.seen_pair q.seen_there in
            let join = i.seen.records.joined a x.join.placed joined in
            let origin : came_here.origin ≡ join.to = same_Some came_here.origin join.to (sym came_here.there ∙ (ap (λ (n : ℕ). slice_get w.origins n) callee ∙ join.to_there)) in
            absurd (none-some q.seen_pair.caller (sym join.placed ∙ (ap (λ (y : Origin). y.caller) (sym origin) ∙ came_here.came)))

    accepted_so : (o : Option Refusal) (x : Option Taken) → came.line < length at → WritesSo came.line (Asked o came.channel Accept x ∷ []) w
    accepted_so o x h =
        let line = network_line at came.line in
        let role = roles came.line in
        let b = book_at line w.whole in
        let ws = Asked o came.channel Accept x ∷ [] in
        let v = after_event (SwitchWrites line role ws) w in
        let g = writes_grow line role ws b w.origins in
        record {
          sends = λ s. silent_sends plan line role w v i.seen.records.count g (λ r a e. inl (r, (ap (λ (rs : List RecordValue). slice_get rs a) (sym (accepted_records role o came.channel b)) ∙ e, λ h. h))) (λ a h. h) s;
          accepts = λ s. accepts_still plan line role w v i.seen g (λ k p e. pairs_stay role ws b k p e) (λ a b h. h)
              (λ k p o' there made switch. elim (accepted_pair role o came.channel b k p there) [
                | inl old ↦ inl old
                | inr present ↦ inr (goes_on_still w v p.callee (λ k p e. pairs_stay role ws b k p e) (λ a b h. h) (accepted_goes_on p.callee h present))
              ]) s;
        }

  pub stays_accepting : (old : List PlacedCall) (old_books : List Book) (old_traces : List (List Origin)) (g : Register) → KeptAccepting (Beyond old old_books old_traces g)
  stays_accepting old old_books old_traces g p j ls bs cs c b =
      asks old old_books old_traces g j.other Accept ls bs cs b (λ l f h. ((tt, tt), accepted_so p j ls bs cs (old ++ placed_at place b.new) (its_own old old_books old_traces g bs cs b) c b.moved.books b.moved.world b.moved.traces b.moved.is (request_refusal l j.other.channel Accept) (front_at (channel_of l j.other.channel)) h))

  -- ---- a call is joined

  module _ (routes : RouteMap) (given : List (Option (List ℕ))) (lines_given : length at ≡ length given) (alike : AreAddressed plan)
      (address : (n : ℕ) (a : Option (List ℕ)) → slice_get given n ≡ Some a → a ≡ address_of (plan.address (network_line at n)))
      (route : (called : List ℕ) (n : ℕ) → n < length at → line_for routes called ≡ Some n → plan.route place (address_of called) ≡ Some (network_line at n)) where
    both_switches : {line : ℕ} (r : Role) → plan.has_user line r ≡ false → plan.has_user line (other_of r) ≡ false → (plan.has_user line Dte ≡ false) ⊎ (plan.has_user line Dce ≡ true)
    both_switches Dte own other = inl own
    both_switches Dce own other = inl other

    module _ (p q : SwitchChannel) (parts : CallParts) (ls : List SwitchLine) (bs : Books) (cs : List JoinedCall) (j : Joining routes given p q parts ls bs cs) (all : List PlacedCall) (its : of_switch place all ≡ cs) (books : List Book) (w : World) (traces : List (List Origin)) (i : IsSeen plan ats place roles bs all books w traces) where
      -- the lines of the network
      abbrev pl : ℕ
      pl = network_line at p.line

      abbrev ql : ℕ
      ql = network_line at q.line

      -- the ends of the switch on them
      abbrev pr : Role
      pr = roles p.line

      abbrev qr : Role
      qr = roles q.line

      abbrev to : CallParts
      to = forwarded ls p.line parts

      abbrev bs' : Books
      bs' = books_by (Places q.line to) ls bs

      abbrev ws : List Write
      ws = Placed (Some q.channel) to ∷ []

      abbrev event : Event
      event = Joins (channel_end at roles p) (channel_end at roles q) to

      -- both lines are there
      line_at : (n : ℕ) (l : SwitchLine) → slice_get ls n ≡ Some l → (n < length at) × (slice_get given n ≡ Some l.address)
      line_at n l e =
          let got : slice_get (addresses ls) n ≡ Some l.address = get_map (λ y. y.address) ls n ∙ ap (λ (o : Option SwitchLine). option_map (λ y. y.address) o) e in
          let within : n < length (addresses ls) = slice_get_within (addresses ls) n l.address got in
          (subst (λ (k : ℕ). n < k) (ap (λ (xs : List (Option (List ℕ))). length xs) j.lines ∙ sym lines_given) within, ap (λ (xs : List (Option (List ℕ))). slice_get xs n) (sym j.lines) ∙ got)

      p_line : (l : SwitchLine) × (slice_get ls p.line ≡ Some l)
      p_line = by_line (slice_get ls p.line) refl
        where
          by_line : (o : Option SwitchLine) → slice_get ls p.line ≡ o → (l : SwitchLine) × (slice_get ls p.line ≡ Some l)
          by_line (Some l) e = (l, e)
          by_line None e = absurd (none-some (records_at ls bs p j.beside j.there).0 (sym (get_map (λ y. y.end.layer) ls p.line ∙ ap (λ (o : Option SwitchLine). option_map (λ y. y.end.layer) o) e) ∙ (records_at ls bs p j.beside j.there).1.0))

      p_less : p.line < length at
      p_less = (line_at p.line p_line.0 p_line.1).0

      q_less : q.line < length at
      q_less = (line_at q.line j.free.line j.free.there).0

      -- what is written
      placed_here : bs' q.line ≡ all_written Dce ws (bs q.line)
      placed_here =
          ap (λ (v : Bool). if v then writes_at (Act.Calls q.line to) (slice_get (layers_of ls) q.line) (bs q.line) else bs q.line) (eq-eqb q.line q.line refl)
          ∙ (ap (λ (o : Option Layer). writes_at (Act.Calls q.line to) o (bs q.line)) (layer_there ls q j.free) ∙ ap (λ (o : Option ℕ). placed_on Dce o to (bs q.line)) j.free.given)

      placed_apart : (k : ℕ) → k ≢ q.line → bs' k ≡ bs k
      placed_apart k ne = if_apart k q.line (writes_at (Act.Calls q.line to) (slice_get (layers_of ls) k) (bs k)) (bs k) ne

      -- the call that came in, in the whole register
      p_seen : LineIsSeen (positions pl (lines_of w.origins)) (positions pl i.lines.seen.pair_owners) (bs p.line) (sight pr (book_at pl w.whole))
      p_seen = line_seen plan ats place roles p.line bs all books w traces p_less i

      present_seen : (m : ℕ) × (((slot_at pr p.channel (book_at pl w.whole)).present ≡ Some m) × (slice_get (positions pl (lines_of w.origins)) j.came_in.number ≡ Some m))
      present_seen = numbered (positions pl (lines_of w.origins)) (slot_at Dce p.channel (bs p.line)).present (slot_at pr p.channel (book_at pl w.whole)).present j.came_in.number ((p_seen.sides Dce).slot p.channel).present j.came_in.present

      caller_seen : (m : ℕ) × (((slot_at pr p.channel (book_at pl w.whole)).caller ≡ Some m) × (slice_get (positions pl (lines_of w.origins)) j.came_in.caller ≡ Some m))
      caller_seen = numbered (positions pl (lines_of w.origins)) (slot_at Dce p.channel (bs p.line)).caller (slot_at pr p.channel (book_at pl w.whole)).caller j.came_in.caller ((p_seen.sides Dce).slot p.channel).caller j.came_in.came

      last_seen : (m : ℕ) × (((slot_at (other_of pr) p.channel (book_at pl w.whole)).placed ≡ Some m) × (slice_get (positions pl (lines_of w.origins)) j.came_in.caller ≡ Some m))
      last_seen = numbered (positions pl (lines_of w.origins)) (slot_at Dte p.channel (bs p.line)).placed (slot_at (other_of pr) p.channel (book_at pl w.whole)).placed j.came_in.caller ((p_seen.sides Dte).slot p.channel).placed j.came_in.last

      -- no join has it yet
      not_yet : (c : JoinedCall) → StandsOrEnded ls bs c → c.near.line ≡ p.line → c.came_in ≡ j.came_in.number → ⊥
      not_yet c (inl s) line number =
          let a = (records_at ls bs p j.beside j.there).1.1.1.apart in
          let near : (slot_at Dce c.near.channel (bs p.line)).present ≡ Some j.came_in.number = ap (λ (k : ℕ). (slot_at Dce c.near.channel (bs k)).present) (sym line) ∙ (s.near_present ∙ ap (λ (k : ℕ). Some k) number) in
          let channel = (a.apart Dce Dce c.near.channel p.channel j.came_in.number near j.came_in.present).1 in
          none-some s.join (sym j.not_joined ∙ (ap₂ (λ (k c : ℕ). joined_at ls (record { line = k; channel = c })) (sym line) (sym channel) ∙ s.joined))
      not_yet c (inr h) line number =
          h.near_rests.not_present Dce p.channel (ap (λ (k : ℕ). (slot_at Dce p.channel (bs k)).present) line ∙ (j.came_in.present ∙ ap (λ (k : ℕ). Some k) (sym number)))

      -- the record came in at the switch
      came_at : IsMadeAt w.origins pl pr (slot_at pr p.channel (book_at pl w.whole)).caller present_seen.0
      came_at = ((i.seen.sides pl pr (line_there plan ats place roles p.line bs all books w traces p_less i)).slot p.channel).present_origin present_seen.0 present_seen.1.0

      came_origin : Origin
      came_origin = record { line = pl; role = pr; placed_here = came_at.placed_here; caller = (slot_at pr p.channel (book_at pl w.whole)).caller }

      -- so a join of it would be of a call of this switch
      first : (k : ℕ) (x : Join) → slice_get w.joins k ≡ Some x → x.came_in ≡ present_seen.0 → ⊥
      unfolding came_origin
      first k x e f =
          let c = join_found plan ats w.origins all w.joins k x i.joins e in
          let from : c.is.from ≡ came_origin = same_Some c.is.from came_origin (sym c.is.from_there ∙ (ap (λ (m : ℕ). slice_get w.origins m) f ∙ came_at.there)) in
          let here : c.call.place ≡ place = sym c.is.at_switch ∙ (ap (λ (o : Origin). plan.node o.line o.role) from ∙ stands.placed p.line p_less) in
          let call = c.call.call in
          let is : JoinIs at w.origins call x = subst (λ (k : ℕ). JoinIs (ats k) w.origins call x) here c.is.is in
          let holds : StandsOrEnded ls bs call = every_own (StandsOrEnded ls bs) place all c.at c.call (subst (λ (ds : List JoinedCall). Every (StandsOrEnded ls bs) ds) (sym its) j.calls.each) c.there here in
          let cl = network_line at call.near.line in
          let near : slice_get (positions cl (lines_of w.origins)) call.came_in ≡ Some present_seen.0 = is.near.1 ∙ ap (λ (m : ℕ). Some m) f in
          let line : cl ≡ pl = same_Some cl pl (sym (is_place cl (lines_of w.origins) call.came_in present_seen.0 near) ∙ is_place pl (lines_of w.origins) j.came_in.number present_seen.0 present_seen.1.1) in
          not_yet call holds (stands.apart call.near.line p.line is.near.0 p_less line)
          (same_place pl (lines_of w.origins) call.came_in j.came_in.number present_seen.0 (ap (λ (n : ℕ). slice_get (positions n (lines_of w.origins)) call.came_in) (sym line) ∙ near) present_seen.1.1)

      -- by the owners of the whole register's records
      own_place : (number m : ℕ) → slice_get (positions pl (lines_of w.origins)) number ≡ Some m → slice_get (positions pl i.lines.seen.owners) number ≡ Some m
      own_place number m e = ap (λ (owners : List ℕ). slice_get (positions pl owners) number) (i.lines.lines pl (p_trace.0) p_trace.1).owners_are ∙ e
        where
          p_trace : (own : List Origin) × (slice_get traces pl ≡ Some own)
          p_trace = own_trace books pl (sight pr (bs p.line)) w.whole w.origins traces (i.among p.line p_less) i.lines

      end_there : (n : ℕ) → n < length at → IsSwitchEnd plan (network_line at n) (roles n) w
      end_there n h = record { there = line_there plan ats place roles n bs all books w traces h i; switch = stands.switch_end n h }

      -- a trunk has no address, and no call goes back over it
      p_address : p_line.0.address ≡ address_of (plan.address pl)
      p_address = address p.line p_line.0.address (line_at p.line p_line.0 p_line.1).1

      not_over_trunk : plan.has_user pl (other_of pr) ≡ false → pl ≡ ql → ⊥
      not_over_trunk switch back =
          let none : p_line.0.address ≡ None = p_address ∙ ap address_of (alike pl (both_switches pr (stands.switch_end p.line p_less) switch)) in
          true≢false (ap (λ (a : Option (List ℕ)). is_none a) (sym none) ∙ (ap (λ (o : Option SwitchLine). is_trunk o) (sym p_line.1) ∙ j.not_back (stands.apart q.line p.line q_less p_less (sym back))))

      may : MayHappen plan event w
      may = record {
        from_end = end_there p.line p_less;
        to_end = end_there q.line q_less;
        one_switch = stands.placed p.line p_less ∙ sym (stands.placed q.line q_less);
        came_in = present_seen.0;
        caller = caller_seen.0;
        present = present_seen.1.0;
        came = caller_seen.1.0;
        last = last_seen.1.0 ∙ (sym last_seen.1.1 ∙ caller_seen.1.1);
        first = first;
        alone = λ a o there came. alone_seen w books traces i.lines pl (sight pr (bs p.line)) (i.among p.line p_less) j.came_in.number j.came_in.caller present_seen.0 caller_seen.0 (own_place j.came_in.number present_seen.0 present_seen.1.1) (own_place j.came_in.caller caller_seen.0 caller_seen.1.1) j.came_in.alone a (record { origin = o; there = there; came = came });
        not_back = not_over_trunk;
      }

      -- its addresses are handed on
      calling_is : (a given : List ℕ) → address_of (unwrap_or (address_of a) given) ≡ calling_on a (address_of given)
      calling_is [] given = refl
      calling_is (digit ∷ digits) given = refl

      forwards : Forwards plan event w
      forwards n came present there =
          let number : n ≡ present_seen.0 = same_Some n present_seen.0 (sym present ∙ present_seen.1.0) in
          let seen : RecordIsSeen (positions pl (lines_of w.origins)) (bs p.line).records (book_at pl w.whole).records j.came_in.number present_seen.0 = p_seen.records j.came_in.number present_seen.0 present_seen.1.1 in
          let value : seen.value ≡ j.came_in.it = same_Some seen.value j.came_in.it (sym seen.own_there ∙ j.came_in.there) in
          let is : came ≡ renumbered present_seen.0 seen.caller seen.value = same_Some came (renumbered present_seen.0 seen.caller seen.value) (sym there ∙ (ap (λ (k : ℕ). slice_get w.whole.records k) number ∙ seen.seen_there)) in
          record {
            called = sym j.came_in.own ∙ (ap (λ (r : RecordValue). r.own) (sym value) ∙ ap (λ (r : RecordValue). r.own) (sym is));
            calling =
                ap (λ (o : Option SwitchLine). address_of (unwrap_or (switch.address_of o) parts.calling)) p_line.1
                ∙ (ap (λ (a : Option (List ℕ)). address_of (unwrap_or a parts.calling)) p_address
                ∙ (calling_is (plan.address pl) parts.calling
                ∙ ap (λ (o : Option (List ℕ)). calling_on (plan.address pl) o) (sym j.came_in.far ∙ (ap (λ (r : RecordValue). r.far) (sym value) ∙ ap (λ (r : RecordValue). r.far) (sym is)))));
            routed = ap (λ (k : ℕ). plan.route k (address_of parts.called)) (stands.placed q.line q_less) ∙ route parts.called q.line q_less j.routed;
          }

      -- the two records are those of the join
      abbrev made : JoinedCall
      made = record { near = p; far = q; came_in = j.came_in.number; placed = length (bs q.line).records }

      q_seen : LineIsSeen (positions ql (lines_of w.origins)) (positions ql i.lines.seen.pair_owners) (bs q.line) (sight qr (book_at ql w.whole))
      q_seen = line_seen plan ats place roles q.line bs all books w traces q_less i

      -- where the new record comes from
      abbrev new : Origin
      new = placing ql qr

      abbrev its_join : Join
      its_join = record { came_in = present_seen.0; placed = length w.whole.records }

      made_is : JoinIs at (w.origins ++ new ∷ []) made its_join
      made_is = record {
        near = (p_less, numbers_stay ql qr w.origins (w.origins ++ new ∷ []) pl j.came_in.number present_seen.0 (grows_one ql qr w.origins new (refl, refl)) present_seen.1.1);
        far = (
          q_less,
          ap (λ (xs : List ℕ). slice_get (positions ql xs) (length (bs q.line).records)) (lines_last w.origins new)
              ∙ (ap (λ (ns : List ℕ). slice_get ns (length (bs q.line).records)) (one_here ql (lines_of w.origins))
              ∙ (ap (λ (k : ℕ). slice_get (positions ql (lines_of w.origins) ++ length (lines_of w.origins) ∷ []) k) q_seen.count
              ∙ (get_last (positions ql (lines_of w.origins)) (length (lines_of w.origins)) ∙ ap (λ (k : ℕ). Some k) (lines_length w.origins ∙ i.lines.owned)))),
        );
      }

      joins_at : IsJoinAt plan ats (w.origins ++ new ∷ []) (record { place = place; call = made }) its_join
      unfolding came_origin
      joins_at = record {
        is = made_is;
        from = came_origin;
        from_there = get_before w.origins (new ∷ []) present_seen.0 came_origin came_at.there;
        at_switch = stands.placed p.line p_less;
      }

      pub join_moves : Moved plan ats place roles bs' (all ++ record { place = place; call = made } ∷ []) books traces (handed_on at roles made w.register)
      join_moves =
          let old = sight qr (bs q.line) in
          let own = own_trace books ql old w.whole w.origins traces (i.among q.line q_less) i.lines in
          let b = all_written qr ws old in
          let silent : Silent (book_at ql w.whole) (places_from qr q.channel to.calling to.called (book_at ql w.whole)) = pushed_silent qr _ _ q.channel (book_at ql w.whole) nothing_yet in
          let trace = all_traced ql qr ws old own.0 in
          record {
            books = set books ql b;
            world = after_event event w;
            traces = set traces ql trace;
            is = record {
              among = among_set at roles q.line bs bs' books b stands.apart q_less (ap (λ (x : Book). sight qr x) placed_here ∙ sym (written_seen qr ws (bs q.line))) placed_apart i.among;
              seen = happens plan event w may i.seen;
              paths = λ switches tree. paths_go plan switches event w tree may i.seen (i.paths switches tree);
              lines = traced w.whole w.origins books traces ql old own.0 qr ws (i.among q.line q_less) own.1 i.lines;
              joins =
                  subst (λ (o : Option ℕ). AreJoins plan ats (w.origins ++ new ∷ []) (all ++ record { place = place; call = made } ∷ []) (with_join o (length w.whole.records) w.joins)) (sym present_seen.1.0)
                  (joins_last plan ats _ all w.joins (record { place = place; call = made }) its_join (joins_stay plan ats ql qr w.origins _ all w.joins (grows_one ql qr w.origins new (refl, refl)) i.joins) joins_at);
              handed = stays_handed_on plan event w may forwards i.seen i.handed;
              sends =
                  silent_sends plan ql qr w (after_event event w) i.lines.owned (grows_one ql qr w.origins new (refl, refl)) (λ r a e. silent.records a r e)
                  (λ a x. subst (λ (o : Option ℕ). IsInJoin (with_join o (length w.whole.records) w.joins) a) (sym present_seen.1.0) (in_more w.joins its_join a x)) i.sends;
              accepts =
                  accepts_silent plan ql qr w (after_event event w) i.seen (grows_one ql qr w.origins new (refl, refl)) silent.pairs
                  (λ a b x. subst (λ (o : Option ℕ). IsJoined (with_join o (length w.whole.records) w.joins) a b) (sym present_seen.1.0) (joined_more w.joins its_join a b x)) i.accepts;
            };
            same = refl;
            others = others_set at q.line books b traces trace q_less;
          }

    all_then : (xs ys : List JoinedCall) (g : Register) → all_handed at roles (xs ++ ys) g ≡ all_handed at roles ys (all_handed at roles xs g)
    all_then [] ys g = refl
    all_then (c ∷ xs) ys g = all_then xs ys (handed_on at roles c g)

    placed_last : (xs : List JoinedCall) (c : JoinedCall) → placed_at place (xs ++ c ∷ []) ≡ placed_at place xs ++ record { place = place; call = c } ∷ []
    placed_last [] c = refl
    placed_last (x ∷ xs) c = ap (λ (ys : List PlacedCall). record { place = place; call = x } ∷ ys) (placed_last xs c)

    pub stays_joining : (old : List PlacedCall) (old_books : List Book) (old_traces : List (List Origin)) (g : Register) → KeptJoining routes given (Beyond old old_books old_traces g)
    stays_joining old old_books old_traces g p q parts ls bs cs j b =
        let v = b.moved in
        let all = old ++ placed_at place b.new in
        let m = join_moves p q parts ls bs cs j all (its_own old old_books old_traces g bs cs b) v.books v.world v.traces v.is in
        let c : JoinedCall = record { near = p; far = q; came_in = j.came_in.number; placed = length (bs q.line).records } in
        let added : all ++ record { place = place; call = c } ∷ [] ≡ old ++ placed_at place (b.new ++ c ∷ []) = append_assoc old (placed_at place b.new) (record { place = place; call = c } ∷ []) ∙ ap (λ (xs : List PlacedCall). old ++ xs) (sym (placed_last b.new c)) in
        record {
          new = b.new ++ c ∷ [];
          is = ap (λ (xs : List JoinedCall). xs ++ c ∷ []) b.is ∙ append_assoc (of_switch place old) b.new (c ∷ []);
          moved = subst (λ (xs : List PlacedCall). Moved plan ats place roles (books_by (Places q.line (forwarded ls p.line parts)) ls bs) xs old_books old_traces (all_handed at roles (b.new ++ c ∷ []) g)) added
              (moved_then plan ats place roles bs _ all (all ++ record { place = place; call = c } ∷ []) old_books old_traces (all_handed at roles b.new g) (handed_on at roles c v.world.register) (all_handed at roles (b.new ++ c ∷ []) g) v m (ap (λ (x : Register). handed_on at roles c x) v.same ∙ sym (all_then b.new (c ∷ []) g)));
        }
