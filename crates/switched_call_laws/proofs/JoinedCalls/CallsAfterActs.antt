-- What happens at the end of one line: once its notes are heeded, each joined call stands or is over.
use Rattle.std.specs.Prelude.{◌≡◌, ◌≢◌, ℕ, suc, ◌⊎◌, Bool, true, false, if◌then◌else◌, List, [], ◌∷◌, ◌++◌, slice_get, Option, Some, None, is_some}
use Rattle.std.proofs.Common.{inl, inr, refl, sym, ap, ap₂, subst, ◌∙◌, true≢false}
use Rattle.std.proofs.lemmas.Option.{none-some, same_Some}
use Rattle.std.proofs.lemmas.Bool.{eq-eqb}
use Rattle.link_timers.specs.declared.role.Role.{Role}
use Rattle.link_timers.specs.declared.role.Role.TheVariants.{Dce}
use Rattle.packet_codec.specs.ClearCause as clear_cause
use Rattle.packet_codec.specs.Diagnostic.{no_information}
use Rattle.data_transfer.specs.Packets.{CallParts, Note, Reason}
use Rattle.data_transfer.specs.Packets.Note.{Incoming, Connected, Closed, WasReset, InterruptConfirmed, Covered}
use Rattle.packet_channel.specs.Channel.{ChannelState, Channel, Step, may_accept, waits_for_call, in_transfer, entered, had_call}
use Rattle.packet_channel.specs.Channel.ChannelState.{Transfer}
use Rattle.packet_channel.specs.Channel.Request.{Accept}
use Rattle.packet_layer.specs.Layer.{Layer, channel_of, closing_notes}
use Rattle.packet_laws.specs.History.{Epoch}
use Rattle.packet_laws.specs.Readable.{Every}
use Rattle.address_routes.specs.Routes.{RouteMap}
use Rattle.call_records.specs.Records.{RecordValue, with_covered, with_epoch}
use Rattle.call_records.specs.Book.{Book, Slot, slot_at, told, all_told, closes}
use Rattle.call_records.specs.Writes.Write.{Told}
use Rattle.record_laws.proofs.Books.Basics.{number_is}
use Rattle.record_laws.proofs.Books.Writing.{slot_changed}
use Rattle.switch_joins.specs.declared.channels.SwitchChannel.{SwitchChannel}
use Rattle.switch_joins.specs.Joins.{Joined}
use Rattle.switch_lines.specs.Lines.{SwitchLine, same_place, changed, joined_at, ask}
use Rattle.switch_lines.specs.Switch.{heed, heed_all, with_end, without_notes, quieted}
use Rattle.switch_laws.specs.Leg.{Leg, stepped}
use Rattle.switch_laws.specs.World.{World, IsWorld, Act, MayHappen, Shown, shown_of, shown_as, shown_on, shown_at, layers_of, after_acts, world_after_all}
use Rattle.switch_laws.specs.Joined.{WaitsFor, IsPair, connected, waiting, IsOver, IsSwitch}
use Rattle.switch_laws.specs.Steps.{Happening, does, lines_after, happening_acts, on_line, acts_of}
use Rattle.switch_laws.specs.Steps as steps
use Rattle.switch_laws.specs.Steps.Step.{Asks, Happens}
use Rattle.switch_laws.specs.EventSteps.{told_steps, heed_steps, heed_all_steps}
use Rattle.switch_laws.proofs.JoinsAfterNotes.{at, never_both}
use Rattle.switch_laws.proofs.Relaying.{waiting_before}
use Rattle.switch_lines.specs.Relay.{told_of}
use Rattle.switch_laws.proofs.Lists.{same_as}
use Rattle.switch_laws.proofs.Leading.{heed_leads}
use Rattle.switch_laws.proofs.Layers.{seen, opened_shown, world_acts_all}
use Rattle.switch_laws.proofs.Outcomes.{AreOf, Outcome}
use Rattle.switch_laws.proofs.Outcomes.Outcome.{ends, connects, waits, goes_on}
use Rattle.switch_laws.proofs.NotesOfJoined.{GoesOn}
use Rattle.switch_laws.proofs.Places.{place_after, some_there}
use Rattle.switch_laws.proofs.Effects.{Effect, IsStep}
use Rattle.switch_laws.proofs.Effects.Effect.{nothing, closes_all, on_one}
use Rattle.switch_laws.proofs.SettingUp.{pair_call}
use Rattle.switch_laws.proofs.Turning.{LineEffect, EndEffect, reads_first, layer_got}
use Rattle.switched_call_laws.specs.SwitchRecords.Records.{AreApart}
use Rattle.switched_call_laws.specs.SwitchRecords.Written.{Books, HaveRecords, books_after_all}
use Rattle.switched_call_laws.specs.SwitchRecords.Rests.{Rests}
use Rattle.switched_call_laws.specs.SwitchRecords.Joined.{JoinsRecords}
use Rattle.switched_call_laws.proofs.SwitchRecords.Cells.{Touches, touches_none, touches_then, touches_closed, touches_new, changes, apart_after}
use Rattle.switched_call_laws.proofs.SwitchRecords.Chains.{books_chain, books_apart}
use Rattle.switched_call_laws.proofs.SwitchRecords.LineEndActs.{happening_explains, happening_on}
use Rattle.switched_call_laws.proofs.SwitchRecords.Relaying.{joins_relay}
use Rattle.switched_call_laws.proofs.SwitchRecords.Resting.{event_rests}
use Rattle.switched_call_laws.proofs.SwitchRecords.Stepping.{step_layers}
use Rattle.switched_call_laws.specs.JoinedCalls.Calls.{JoinedCall, present_at, books_by, books_by_all, calls_of_all, Stands, HasEnded, StandsOrEnded, AreCalls}
use Rattle.switched_call_laws.proofs.JoinedCalls.Steady.{HavePlaces, shape, Same, Mutual, switch_mutual, books_rest, every_map, ended_same, calls_same, steadies_same, steadies_none, accept_same, IsPlain, plains_steady}
use Rattle.switched_call_laws.proofs.JoinedCalls.Walking.{Beside, beside_step, there_step, there_steps, Leads, leads_then, Walked, walked_then, walked_quiet}
use Rattle.switched_call_laws.proofs.SwitchRecords.Calming.{addresses}
use Rattle.switched_call_laws.proofs.JoinedCalls.Following.{addresses_led, CameIn, KeptQuietly, KeptSending, KeptAccepting, KeptJoining, And, WrittenIn, step_quiet, steady_keep, last_written, noted_accepts, Answered, lines_answered, lines_once, lines_connected}
use Rattle.switch_laws.specs.Pairs.{IsNoted}
use Rattle.switched_call_laws.specs.SwitchRecords.Opened.{HasSlot}
use Rattle.switched_call_laws.specs.SwitchRecords.Kept.{Partners, AreKept}
use Rattle.switched_call_laws.proofs.JoinedCalls.Closing.{Side, IsAbsent, TouchesAt, touched_slot, SameEpochs, epochs_itself, epochs_then, relayed_same, closed_there, closed_absent}
use Rattle.switched_call_laws.proofs.JoinedCalls.EndedCalls.{InHand, Marks, Told as ToldOne, closed_told, IsClosing, closings_told, marks_calls}
use Rattle.switched_call_laws.proofs.JoinedCalls.Answering.{alone_walk}
use Rattle.switch_joins.proofs.Apart.{decided, place_is}
use Rattle.switch_lines.proofs.Places.{joined_kept}

-- ---- what notes write

-- notes of one channel
pub of_touches : (d : ℕ) (role : Role) (s : ChannelState) (ns : List Note) (b : Book) → AreOf d role s ns → Touches Dce d b (all_told Dce ns b)
of_touches d role s [] b of = touches_none Dce d b
of_touches d role s (Incoming c parts ∷ ns) b of =
    subst (λ (more : List Note). Touches Dce d b (all_told Dce (Incoming c parts ∷ more) b)) (sym of.1.1)
    (subst (λ (k : ℕ). Touches Dce k b (told Dce (Incoming c parts) b)) of.0 (touches_new Dce c _ _ b refl))
of_touches d role s (Connected c ∷ ns) b of = of_touches d role s ns b of.1
of_touches d role s (Closed c cause diagnostic reason ∷ ns) b of =
    touches_then Dce d b (closes Dce c b) _ (subst (λ (k : ℕ). Touches Dce k b (closes Dce c b)) of.0 (touches_closed Dce c b)) (of_touches d role s ns (closes Dce c b) of.1)
of_touches d role s (WasReset c cause diagnostic reason ∷ ns) b of =
    touches_then Dce d b (told Dce (WasReset c cause diagnostic reason) b) _ (subst (λ (k : ℕ). Touches Dce k b (told Dce (WasReset c cause diagnostic reason) b)) of.0 (changes Dce c with_epoch b)) (of_touches d role s ns (told Dce (WasReset c cause diagnostic reason) b) of.1)
of_touches d role s (InterruptConfirmed c ∷ ns) b of = of_touches d role s ns b of.1
of_touches d role s (Covered c k ∷ ns) b of =
    touches_then Dce d b (told Dce (Covered c k) b) _ (subst (λ (i : ℕ). Touches Dce i b (told Dce (Covered c k) b)) of.0 (changes Dce c (with_covered k) b)) (of_touches d role s ns (told Dce (Covered c k) b) of.1)

-- notes that say that calls are over
pub closed_slots : (ns : List Note) (b : Book) (c : ℕ) (n : ℕ) → Every IsClosing ns → (IsOver n ns (at n c) → ⊥) → (slot_at Dce c (all_told Dce ns b)).present ≡ (slot_at Dce c b).present
closed_slots [] b c n i h = refl
closed_slots (Closed d cause diagnostic reason ∷ ns) b c n i h =
    closed_slots ns (closes Dce d b) c n i.1 (λ o. h (inr o)) ∙ (touches_closed Dce d b).slots Dce c (λ e. h (inl (ap (λ (k : ℕ). at n k) e.1)))
closed_slots (Incoming d parts ∷ ns) b c n i h = absurd i.0
closed_slots (Connected d ∷ ns) b c n i h = absurd i.0
closed_slots (WasReset d cause diagnostic reason ∷ ns) b c n i h = absurd i.0
closed_slots (InterruptConfirmed d ∷ ns) b c n i h = absurd i.0
closed_slots (Covered d k ∷ ns) b c n i h = absurd i.0

-- a record has these epochs
pub record HasEpochs (r : RecordValue) (m : ℕ) (b : Book) : Type 0 where
  pub it : RecordValue
  pub there : slice_get b.records m ≡ Some it
  pub epochs : SameEpochs r it

pub closed_epochs : (ns : List Note) (r : RecordValue) (m : ℕ) (b : Book) → Every IsClosing ns → HasEpochs r m b → HasEpochs r m (all_told Dce ns b)
closed_epochs [] r m b i h = h
closed_epochs (Closed d cause diagnostic reason ∷ ns) r m b i h =
    let c = closed_there d m h.it b h.there in
    closed_epochs ns r m (closes Dce d b) i.1 (record { it = c.it; there = c.there; epochs = epochs_then r h.it c.it h.epochs c.epochs })
closed_epochs (Incoming d parts ∷ ns) r m b i h = absurd i.0
closed_epochs (Connected d ∷ ns) r m b i h = absurd i.0
closed_epochs (WasReset d cause diagnostic reason ∷ ns) r m b i h = absurd i.0
closed_epochs (InterruptConfirmed d ∷ ns) r m b i h = absurd i.0
closed_epochs (Covered d k ∷ ns) r m b i h = absurd i.0

-- a record that was absent stays so
absent_told : (ns : List Note) (m : ℕ) (it : RecordValue) (b : Book) → slice_get b.records m ≡ Some it → IsAbsent m b → IsAbsent m (all_told Dce ns b)
absent_told ns m it b e h = (event_rests Dce (Told ns ∷ []) m it b (record { there = e; not_present = h })).not_present

-- the present record of a channel that is over is of no present call any more
pub closed_gone : (ns : List Note) (r : RecordValue) (m n c : ℕ) (b : Book) → Every IsClosing ns → AreApart b → slice_get b.records m ≡ Some r → (slot_at Dce c b).present ≡ Some m → IsOver n ns (at n c) → IsAbsent m (all_told Dce ns b)
closed_gone [] r m n c b i a there e o = absurd o
closed_gone (Closed d cause diagnostic reason ∷ ns) r m n c b i a there e o = by_channel (number_is c d) (λ rec x apart y z more. closed_gone ns rec m n c x i.1 apart y z more)
  where
    k : HasEpochs r m (closes Dce d b)
    k = let x = closed_there d m r b there in record { it = x.it; there = x.there; epochs = x.epochs }

    later : c ≢ d → (at n c ≡ at n d) ⊎ IsOver n ns (at n c) → ((rec : RecordValue) (x : Book) → AreApart x → slice_get x.records m ≡ Some rec → (slot_at Dce c x).present ≡ Some m → IsOver n ns (at n c) → IsAbsent m (all_told Dce ns x)) → IsAbsent m (all_told Dce ns (closes Dce d b))
    later ne (inl same) onward = absurd (ne (ap (λ (x : SwitchChannel). x.channel) same))
    later ne (inr more) onward = onward k.it (closes Dce d b) (apart_after Dce d b (closes Dce d b) (touches_closed Dce d b) a) k.there ((touches_closed Dce d b).slots Dce c (λ h. ne h.1) ∙ e) more

    by_channel : (c ≡ d) ⊎ (c ≢ d) → ((rec : RecordValue) (x : Book) → AreApart x → slice_get x.records m ≡ Some rec → (slot_at Dce c x).present ≡ Some m → IsOver n ns (at n c) → IsAbsent m (all_told Dce ns x)) → IsAbsent m (all_told Dce ns (closes Dce d b))
    by_channel (inl same) onward = absent_told ns m k.it (closes Dce d b) k.there (closed_absent d m b a (ap (λ (x : ℕ). (slot_at Dce x b).present) (sym same) ∙ e))
    by_channel (inr ne) onward = later ne o onward
closed_gone (Incoming d parts ∷ ns) r m n c b i a there e o = absurd i.0
closed_gone (Connected d ∷ ns) r m n c b i a there e o = absurd i.0
closed_gone (WasReset d cause diagnostic reason ∷ ns) r m n c b i a there e o = absurd i.0
closed_gone (InterruptConfirmed d ∷ ns) r m n c b i a there e o = absurd i.0
closed_gone (Covered d k ∷ ns) r m n c b i a there e o = absurd i.0

-- notes of a call that goes on
pub plain_slots : (ns : List Note) (b : Book) (c : ℕ) → Every IsPlain ns → slot_at Dce c (all_told Dce ns b) ≡ slot_at Dce c b
plain_slots [] b c i = refl
plain_slots (InterruptConfirmed d ∷ ns) b c i = plain_slots ns b c i.1
plain_slots (WasReset d cause diagnostic reason ∷ ns) b c i = plain_slots ns (told Dce (WasReset d cause diagnostic reason) b) c i.1 ∙ slot_changed Dce c (slot_at Dce d b).present with_epoch b
plain_slots (Covered d k ∷ ns) b c i = plain_slots ns (told Dce (Covered d k) b) c i.1 ∙ slot_changed Dce c (slot_at Dce d b).present (with_covered k) b
plain_slots (Incoming d parts ∷ ns) b c i = absurd i.0
plain_slots (Connected d ∷ ns) b c i = absurd i.0
plain_slots (Closed d cause diagnostic reason ∷ ns) b c i = absurd i.0

pub goes_plain : (c : ℕ) (ns : List Note) → Every (GoesOn c) ns → Every IsPlain ns
goes_plain c [] i = tt
goes_plain c (WasReset d cause diagnostic reason ∷ ns) i = (tt, goes_plain c ns i.1)
goes_plain c (InterruptConfirmed d ∷ ns) i = (tt, goes_plain c ns i.1)
goes_plain c (Covered d k ∷ ns) i = (tt, goes_plain c ns i.1)
goes_plain c (Incoming d parts ∷ ns) i = absurd i.0
goes_plain c (Connected d ∷ ns) i = absurd i.0
goes_plain c (Closed d cause diagnostic reason ∷ ns) i = absurd i.0

pub closing_only : (c : ℕ) (reason : Reason) (chs : List Channel) → Every IsClosing (closing_notes c reason chs)
closing_only c reason [] = tt
closing_only c reason (ch ∷ chs) = by_call (had_call ch.state) (closing_only (suc c) reason chs)
  where
    by_call : (v : Bool) → Every IsClosing (closing_notes (suc c) reason chs) → Every IsClosing (if v then Closed c clear_cause.out_of_order no_information reason ∷ closing_notes (suc c) reason chs else closing_notes (suc c) reason chs)
    by_call true i = (tt, i)
    by_call false i = i

-- whether notes say that the call of a channel is over
pub over_or_not : (n : ℕ) (ns : List Note) (x : SwitchChannel) → IsOver n ns x ⊎ (IsOver n ns x → ⊥)
over_or_not n [] x = inr (λ o. o)
over_or_not n (Closed c cause diagnostic reason ∷ ns) x = by_here (decided (same_place x (at n c))) (over_or_not n ns x)
  where
    by_here : (same_place x (at n c) ≡ true) ⊎ (same_place x (at n c) ≡ false) → IsOver n ns x ⊎ (IsOver n ns x → ⊥) → ((x ≡ at n c) ⊎ IsOver n ns x) ⊎ ((x ≡ at n c) ⊎ IsOver n ns x → ⊥)
    by_here (inl t) v = inl (inl (place_is x (at n c) t))
    by_here (inr f) (inl o) = inl (inr o)
    by_here (inr f) (inr h) = inr (λ o. elim o [ inl e ↦ true≢false (sym (same_as x (at n c) e) ∙ f) | inr y ↦ h y ])
over_or_not n (Incoming c parts ∷ ns) x = over_or_not n ns x
over_or_not n (Connected c ∷ ns) x = over_or_not n ns x
over_or_not n (WasReset c cause diagnostic reason ∷ ns) x = over_or_not n ns x
over_or_not n (InterruptConfirmed c ∷ ns) x = over_or_not n ns x
over_or_not n (Covered c k ∷ ns) x = over_or_not n ns x

-- one that is over is on the line
pub over_line : (n : ℕ) (ns : List Note) (x : SwitchChannel) → IsOver n ns x → x.line ≡ n
over_line n [] x o = absurd o
over_line n (Closed c cause diagnostic reason ∷ ns) x (inl e) = ap (λ (y : SwitchChannel). y.line) e
over_line n (Closed c cause diagnostic reason ∷ ns) x (inr o) = over_line n ns x o
over_line n (Incoming c parts ∷ ns) x o = over_line n ns x o
over_line n (Connected c ∷ ns) x o = over_line n ns x o
over_line n (WasReset c cause diagnostic reason ∷ ns) x o = over_line n ns x o
over_line n (InterruptConfirmed c ∷ ns) x o = over_line n ns x o
over_line n (Covered c k ∷ ns) x o = over_line n ns x o

-- ---- a leg that waits for its answer is that of the call that was placed

waiting_placed : (came_in : Bool) (g h : Leg) → WaitsFor came_in g h → waits_for_call g.role g.channel.state ≡ true → came_in ≡ false
waiting_placed true g h i e = absurd (never_both g.role g.channel.state i.can_accept e)
waiting_placed false g h i e = refl

waits_placed : (g h : Leg) (j k : Joined) → IsPair g h j k → waits_for_call g.role g.channel.state ≡ true → j.came_in ≡ false
waits_placed g h j k (waiting a b i) e = waiting_placed j.came_in g h i e
waits_placed g h j k (connected i) e = absurd (true≢false (sym (ap (λ (x : ChannelState). in_transfer x) i.there.holds.near_call) ∙ waiting_before g.role g.channel.state e))

-- ---- what happens at the end of a line

heed_all_lines : (routes : RouteMap) (n : ℕ) (ns : List Note) (ls : List SwitchLine) (bs : Books) → steps.lines_after_all (heed_all_steps routes n ns ls) ls ≡ heed_all routes n ns ls
heed_all_lines routes n [] ls bs = refl
heed_all_lines routes n (x ∷ xs) ls bs =
    let first = heed_steps routes n x ls in
    let ms = heed routes n x ls in
    let one : Leads first ls bs ms (books_by_all first ls bs) (calls_of_all first ls bs) = record { lines = heed_leads routes n x ls; books = refl; calls = refl } in
    let rest = heed_all_steps routes n xs ms in
    let more : Leads rest ms (books_by_all first ls bs) (heed_all routes n xs ms) (books_by_all rest ms (books_by_all first ls bs)) (calls_of_all rest ms (books_by_all first ls bs)) = record { lines = heed_all_lines routes n xs ms (books_by_all first ls bs); books = refl; calls = refl } in
    (leads_then first rest ls ms (heed_all routes n xs ms) bs (books_by_all first ls bs) _ _ _ one more).lines

module _ (routes : RouteMap) (n : ℕ) (what : Happening) (ls : List SwitchLine) (w : World) (bs : Books) (i : IsSwitch ls w) (h : HaveRecords (layers_of ls) w bs)
    (line : SwitchLine) (got : slice_get ls n ≡ Some line) (eff : EndEffect n what line.end) where
  abbrev pub l : Layer
  l = line.end.layer

  abbrev pub notes : List Note
  notes = (does what (quieted line.end)).notes

  abbrev pub l1 : List SwitchLine
  l1 = changed n (with_end (λ e. does what (quieted e))) ls

  abbrev pub ms : List SwitchLine
  ms = lines_after (Happens n what) ls

  abbrev pub acts : List Act
  acts = Act.Reads n ∷ happening_acts n what line.end

  abbrev pub bs1 : Books
  bs1 = books_by (Happens n what) ls bs

  abbrev v : World
  v = world_after_all acts (layers_of ls) w

  pub x : LineEffect acts n l (does what (quieted line.end)).layer notes
  x = reads_first n l (does what (quieted line.end)).layer notes eff

  pub got_layer : slice_get (layers_of ls) n ≡ Some l
  got_layer = layer_got n ls line got

  pub acts_are : acts_of (Happens n what) ls ≡ acts
  acts_are = ap (λ (o : Option SwitchLine). Act.Reads n ∷ on_line (λ e. happening_acts n what e) o) got

  pub here_book : bs1 n ≡ all_told Dce notes (bs n)
  here_book =
      ap (λ (as_ : List Act). books_after_all as_ (layers_of ls) bs n) acts_are
      ∙ (books_chain acts n (layers_of ls) bs l (refl, happening_on n what line.end) got_layer ∙ (happening_explains n what line.end).writes_ (bs n))

  other_book : (k : ℕ) → k ≢ n → bs1 k ≡ bs k
  other_book k ne = ap (λ (as_ : List Act). books_after_all as_ (layers_of ls) bs k) acts_are ∙ books_apart acts n k (layers_of ls) bs (refl, happening_on n what line.end) ne

  pub joined_ms : (y : SwitchChannel) → joined_at ms y ≡ joined_at ls y
  joined_ms y = joined_kept n y.line y.channel (with_end without_notes) l1 (λ z. refl) ∙ joined_kept n y.line y.channel (with_end (λ e. does what (quieted e))) ls (λ z. refl)

  pub beside_ms : Beside ms bs1
  beside_ms = beside_step (Happens n what) ls bs (subst (λ (as_ : List Act). Every MayHappen as_) (sym acts_are) x.may) (record { legs = w; world = i.world; records = h })

  world_ms : IsWorld (layers_of ms) v
  world_ms = subst (λ (ys : List Layer). IsWorld ys v) (sym (step_layers (Happens n what) ls ∙ ap (λ (as_ : List Act). after_acts as_ (layers_of ls)) acts_are)) (world_acts_all acts (layers_of ls) w x.may i.world)

  mutual_ls : Mutual ls
  mutual_ls = switch_mutual ls w i

  pub mutual_ms : Mutual ms
  mutual_ms p j e =
      let k = mutual_ls p j (sym (joined_ms p) ∙ e) in
      record { far = k.far; joined = joined_ms j.other ∙ k.joined; back = k.back; apart = k.apart; one_came_in = k.one_came_in; there = there_step (Happens n what) ls p ∙ k.there }

  places_ms : HavePlaces ms
  places_ms y e =
      place_after n (with_end without_notes) l1 y (λ z. refl) ∙ (place_after n (with_end (λ e. does what (quieted e))) ls y (λ z. refl) ∙ i.places y (sym (there_step (Happens n what) ls y) ∙ e))

  rests_ms : (k m : ℕ) (r : RecordValue) → Rests m r (bs k) → Rests m r (bs1 k)
  rests_ms k m r s = books_rest (acts_of (Happens n what) ls) (layers_of ls) bs k m r s

  same_ms : ((y : SwitchChannel) (j : Joined) → joined_at ls y ≡ Some j → present_at y bs1 ≡ present_at y bs) → Same ls ms bs bs1
  same_ms slots = record { joins = λ y. ap shape (joined_ms y); slots = slots; rests = rests_ms }

  apart_ls : AreApart (bs n)
  apart_ls = (h n l got_layer).apart

  -- ---- with the joined calls

  module _ (cs : List JoinedCall) (a : AreCalls ls bs cs) (given : List (Option (List ℕ))) (same_lines : addresses ls ≡ given) (R : Books → List JoinedCall → Type 0) (keeps : KeptQuietly R) (sends : KeptSending R) (accepts : KeptAccepting R) (joins : KeptJoining routes given R) (kept : R bs cs)
      (ps : Partners) (lines_kept : AreKept ps (books_by (Happens n what) ls bs) (lines_after (Happens n what) ls)) where
    lines_ms : addresses ms ≡ given
    lines_ms = addresses_led (Happens n what ∷ []) ls ms given refl same_lines

    kept1 : R bs1 cs
    kept1 = keeps (acts_of (Happens n what) ls) (layers_of ls) bs cs (step_quiet (Happens n what) ls tt) kept

    -- where nothing is said of a call that is over or comes in
    plainly : Every IsPlain notes → Walked (And AreCalls R) (heed_all_steps routes n notes ms) ms bs1 cs (heed_all routes n notes ms)
    plainly plain =
        let ss = heed_all_steps routes n notes ms in
        let lines = heed_all_lines routes n notes ms bs1 in
        let steady = plains_steady routes n notes ms plain in
        walked_quiet (And AreCalls R) ss ms bs1 cs (heed_all routes n notes ms) lines (steadies_none ss ms bs1 steady) (
          subst (λ (ks : List SwitchLine). AreCalls ks (books_by_all ss ms bs1) cs) lines
              (calls_same ms (steps.lines_after_all ss ms) bs1 (books_by_all ss ms bs1) cs mutual_ms (steadies_same ss ms bs1 steady) (calls_same ls ms bs bs1 cs mutual_ls (same_ms slots) a)),
          steady_keep R keeps sends ss ms bs1 cs steady mutual_ms (calls_same ls ms bs bs1 cs mutual_ls (same_ms slots) a) kept1,
        )
      where
        slots : (y : SwitchChannel) (j : Joined) → joined_at ls y ≡ Some j → present_at y bs1 ≡ present_at y bs
        slots y j e =
            elim (number_is y.line n) [
              | inl is ↦
                  subst (λ (k : ℕ). (slot_at Dce y.channel (bs1 k)).present ≡ (slot_at Dce y.channel (bs k)).present) (sym is)
                  (ap (λ (b : Book). (slot_at Dce y.channel b).present) here_book ∙ ap (λ (s : Slot). s.present) (plain_slots notes (bs n) y.channel plain))
              | inr ne ↦ ap (λ (b : Book). (slot_at Dce y.channel b).present) (other_book y.line ne)
            ]

    -- ---- some calls are over

    -- a side of a call that stood, after it
    record Sided (ns : List Note) (y : SwitchChannel) (m : ℕ) (r : RecordValue) : Type 0 where
      pub it : RecordValue
      pub side : Side n ns bs1 y m it
      pub epochs : SameEpochs r it

    abbrev AllSided : List Note → Type 0
    AllSided ns = (y : SwitchChannel) (m : ℕ) (r : RecordValue) → slice_get (bs y.line).records m ≡ Some r → present_at y bs ≡ Some m → Sided ns y m r

    in_hand : (ns : List Note) → AllSided ns → (c : JoinedCall) → Stands ls bs c → InHand n ns ms bs1 c
    in_hand ns sides c s =
        let r : JoinsRecords bs c.near s.join.other = joins_relay ls w bs i h c.near s.join s.joined in
        let near_is : r.near_there.number ≡ c.came_in = same_Some r.near_there.number c.came_in (sym r.near_there.present ∙ s.near_present) in
        let far_is : r.far_there.number ≡ c.placed = same_Some r.far_there.number c.placed (sym r.far_there.present ∙ (ap (λ (y : SwitchChannel). present_at y bs) s.other ∙ s.far_present)) in
        let x = sides c.near c.came_in r.near (ap (λ (k : ℕ). slice_get (bs c.near.line).records k) (sym near_is) ∙ r.near_there.there) s.near_present in
        let y = sides c.far c.placed r.far (ap₂ (λ (q : SwitchChannel) (k : ℕ). slice_get (bs q.line).records k) (sym s.other) (sym far_is) ∙ r.far_there.there) s.far_present in
        record {
          near_record = x.it;
          far_record = y.it;
          relayed = relayed_same r.near r.far x.it y.it x.epochs y.epochs r.relayed;
          join = s.join;
          joined = joined_ms c.near ∙ s.joined;
          other = s.other;
          came_in_here = s.came_in_here;
          near_side = x.side;
          far_side = y.side;
        }

    marks_from : (ns : List Note) → AllSided ns → Marks n ns ms bs1 cs
    marks_from ns sides = record {
      pairs = mutual_ms;
      places = places_ms;
      beside = beside_ms;
      each = every_map (StandsOrEnded ls bs) (λ c. InHand n ns ms bs1 c ⊎ HasEnded bs1 c) cs (λ c s. elim s [ inl y ↦ inl (in_hand ns sides c y) | inr y ↦ inr (ended_same bs bs1 c rests_ms y) ]) a.each;
      all = λ p j e came. let k = a.all p j (sym (joined_ms p) ∙ e) came in (k.0, k.1, k.2, in_hand ns sides k.1 k.3, k.4);
    }

    -- one elsewhere
    side_apart : (ns : List Note) (y : SwitchChannel) (m : ℕ) (r : RecordValue) → y.line ≢ n → slice_get (bs y.line).records m ≡ Some r → present_at y bs ≡ Some m → Sided ns y m r
    side_apart ns y m r ne there present = record {
      it = r;
      side = record {
        there = ap (λ (b : Book). slice_get b.records m) (other_book y.line ne) ∙ there;
        held = inr ((λ o. ne (over_line n ns y o)), ap (λ (b : Book). (slot_at Dce y.channel b).present) (other_book y.line ne) ∙ present);
      };
      epochs = epochs_itself r;
    }

    -- ---- all notes say that calls are over

    closed_side : Every IsClosing notes → AllSided notes
    closed_side closing y m r there present = elim (number_is y.line n) [ inl is ↦ on_line_n is | inr ne ↦ side_apart notes y m r ne there present ]
      where
        on_line_n : y.line ≡ n → Sided notes y m r
        on_line_n is =
            let there_n : slice_get (bs n).records m ≡ Some r = ap (λ (k : ℕ). slice_get (bs k).records m) (sym is) ∙ there in
            let present_n : (slot_at Dce y.channel (bs n)).present ≡ Some m = ap (λ (k : ℕ). (slot_at Dce y.channel (bs k)).present) (sym is) ∙ present in
            let book : bs1 y.line ≡ all_told Dce notes (bs n) = ap (λ (k : ℕ). bs1 k) is ∙ here_book in
            let e : HasEpochs r m (all_told Dce notes (bs n)) = closed_epochs notes r m (bs n) closing (record { it = r; there = there_n; epochs = epochs_itself r }) in
            record {
              it = e.it;
              side = record {
                there = ap (λ (b : Book). slice_get b.records m) book ∙ e.there;
                held = elim (over_or_not n notes y) [
                  | inl o ↦ inl (o, subst (λ (b : Book). IsAbsent m b) (sym book) (closed_gone notes r m n y.channel (bs n) closing apart_ls there_n present_n (subst (λ (k : ℕ). IsOver n notes (record { line = k; channel = y.channel })) is o)))
                  | inr no_ ↦ inr (no_, ap (λ (b : Book). (slot_at Dce y.channel b).present) book ∙ (closed_slots notes (bs n) y.channel n closing (λ o. no_ (subst (λ (k : ℕ). IsOver n notes (record { line = k; channel = y.channel })) (sym is) o)) ∙ present_n))
                ];
              };
              epochs = e.epochs;
            }

    all_over : Every IsClosing notes → Walked (And AreCalls R) (heed_all_steps routes n notes ms) ms bs1 cs (heed_all routes n notes ms)
    all_over closing =
        let t = closings_told R keeps routes n notes ms bs1 cs closing (marks_from notes (closed_side closing)) kept1 in
        record { after = t.after; new = t.new; leads = t.leads; holds = (marks_calls n (heed_all routes n notes ms) t.after (cs ++ t.new) t.holds.0, t.holds.1) }

    -- ---- notes of one channel

    module _ (d : ℕ) (role : Role) (s : ChannelState) (of : AreOf d role s notes) where
      abbrev p : SwitchChannel
      p = at n d

      touches : TouchesAt p bs bs1
      touches = record { line = subst (λ (b : Book). Touches Dce d (bs n) b) (sym here_book) (of_touches d role s notes (bs n) of); others = other_book }

      one_side : (cause diagnostic : ℕ) (reason : Reason) (rest : List Note) → notes ≡ Closed d cause diagnostic reason ∷ rest → AllSided (Closed d cause diagnostic reason ∷ [])
      one_side cause diagnostic reason rest is y m r there present = by_place (decided (same_place y p))
        where
          first : List Note
          first = Closed d cause diagnostic reason ∷ []

          here_ : y ≡ p → Sided (Closed d cause diagnostic reason ∷ []) y m r
          here_ e =
              let there_n : slice_get (bs n).records m ≡ Some r = ap (λ (z : SwitchChannel). slice_get (bs z.line).records m) (sym e) ∙ there in
              let present_n : (slot_at Dce d (bs n)).present ≡ Some m = ap (λ (z : SwitchChannel). present_at z bs) (sym e) ∙ present in
              let k = closed_there d m r (bs n) there_n in
              let rests : Rests m k.it (all_told Dce rest (closes Dce d (bs n))) = event_rests Dce (Told rest ∷ []) m k.it (closes Dce d (bs n)) (record { there = k.there; not_present = closed_absent d m (bs n) apart_ls present_n }) in
              let book : bs1 y.line ≡ all_told Dce rest (closes Dce d (bs n)) = ap (λ (z : SwitchChannel). bs1 z.line) e ∙ (here_book ∙ ap (λ (ns : List Note). all_told Dce ns (bs n)) is) in
              record {
                it = k.it;
                side = record { there = ap (λ (b : Book). slice_get b.records m) book ∙ rests.there; held = inl (inl e, subst (λ (b : Book). IsAbsent m b) (sym book) rests.not_present) };
                epochs = k.epochs;
              }

          not_over : same_place y p ≡ false → (y ≡ at n d) ⊎ ⊥ → ⊥
          not_over f (inl e) = true≢false (sym (same_as y (at n d) e) ∙ f)
          not_over f (inr z) = z

          by_line : same_place y p ≡ false → (y.line ≡ n) ⊎ (y.line ≢ n) → Sided (Closed d cause diagnostic reason ∷ []) y m r
          by_line f (inr ne) = side_apart (Closed d cause diagnostic reason ∷ []) y m r ne there present
          by_line f (inl e) =
              let there_n : slice_get (bs n).records m ≡ Some r = ap (λ (k : ℕ). slice_get (bs k).records m) (sym e) ∙ there in
              let present_n : (slot_at Dce y.channel (bs n)).present ≡ Some m = ap (λ (k : ℕ). (slot_at Dce y.channel (bs k)).present) (sym e) ∙ present in
              let other : y.channel ≡ d → ⊥ = λ c. not_over f (inl (ap₂ (λ (k c : ℕ). record { line = k; channel = c }) e c)) in
              record {
                it = r;
                side = record {
                  there = ap (λ (k : ℕ). slice_get (bs1 k).records m) e ∙ touches.line.kept m r there_n (λ c. other (apart_ls.apart Dce Dce y.channel d m present_n c).1);
                  held = inr (not_over f, touched_slot p y bs bs1 f touches ∙ present);
                };
                epochs = epochs_itself r;
              }

          by_place : (same_place y p ≡ true) ⊎ (same_place y p ≡ false) → Sided (Closed d cause diagnostic reason ∷ []) y m r
          by_place (inl t) = here_ (place_is y p t)
          by_place (inr f) = by_line f (number_is y.line n)

      -- what is known of the channel where a call may come in
      abbrev Comes : Type 0
      Comes = (parts : CallParts) → IsNoted notes d parts → CameIn p parts bs1

      one_over : (cause diagnostic : ℕ) (reason : Reason) (rest : List Note) → notes ≡ Closed d cause diagnostic reason ∷ rest → is_some (shown_at (layers_of ms) p) ≡ true → Comes
          → Walked (And AreCalls R) (heed_all_steps routes n notes ms) ms bs1 cs (heed_all routes n notes ms)
      one_over cause diagnostic reason rest is there comes =
          subst (λ (ns : List Note). Walked (And AreCalls R) (heed_all_steps routes n ns ms) ms bs1 cs (heed_all routes n ns ms)) (sym is)
          (walked_then (And (ToldOne n d [] bs1) R) (And AreCalls R) (heed_steps routes n first ms) (heed_all_steps routes n rest (heed routes n first ms)) ms (heed routes n first ms) _ bs1 cs
          (closed_told R keeps routes n d cause diagnostic reason [] ms bs1 cs (marks_from (first ∷ []) (one_side cause diagnostic reason rest is)) kept1)
          (λ after all t. alone_walk routes given R keeps joins n d role s rest (heed routes n first ms) after all (subst (λ (ns : List Note). AreOf d role s ns) is of).1 (record {
            pairs = t.0.marks.pairs;
            beside = t.0.marks.beside;
            places = t.0.marks.places;
            calls = marks_calls n (heed routes n first ms) after all t.0.marks;
            none = t.0.alone;
            there = ap (λ (ks : List SwitchLine). is_some (shown_at (layers_of ks) p)) (sym (heed_leads routes n first ms)) ∙ (there_steps (heed_steps routes n first ms) ms p ∙ there);
            came = λ parts noted. t.0.came parts (comes parts (subst (λ (ns : List Note). IsNoted ns d parts) (sym is) (inr noted)));
            lines = addresses_led (heed_steps routes n first ms) ms (heed routes n first ms) given (heed_leads routes n first ms) lines_ms;
            kept = t.1;
          })))
        where
          first : Note
          first = Closed d cause diagnostic reason

      one_alone : joined_at ls p ≡ None → is_some (shown_at (layers_of ms) p) ≡ true → Comes → Walked (And AreCalls R) (heed_all_steps routes n notes ms) ms bs1 cs (heed_all routes n notes ms)
      one_alone none there comes =
          alone_walk routes given R keeps joins n d role s notes ms bs1 cs of (record {
            pairs = mutual_ms;
            beside = beside_ms;
            places = places_ms;
            calls = calls_same ls ms bs bs1 cs mutual_ls (same_ms (λ y j e. touched_slot p y bs bs1 (not_here y j e) touches)) a;
            none = joined_ms p ∙ none;
            there = there;
            came = comes;
            lines = lines_ms;
            kept = kept1;
          })
        where
          not_here : (y : SwitchChannel) (j : Joined) → joined_at ls y ≡ Some j → same_place y p ≡ false
          not_here y j e = by_test (decided (same_place y p))
            where
              by_test : (same_place y p ≡ true) ⊎ (same_place y p ≡ false) → same_place y p ≡ false
              by_test (inl t) = absurd (none-some j (sym none ∙ (ap (λ (z : SwitchChannel). joined_at ls z) (sym (place_is y p t)) ∙ e)))
              by_test (inr f) = f

    -- ---- any effect

    one_step : (d : ℕ) (st : Shown → Step) (e : Leg → Epoch) → IsStep d st e → ((g : Leg) → x.moves d g ≡ stepped (st (shown_of g)) (e g) g) → (ch : Channel) → channel_of l d ≡ Some ch → notes ≡ (st (seen l ch)).notes
        → Walked (And AreCalls R) (heed_all_steps routes n notes ms) ms bs1 cs (heed_all routes n notes ms)
    one_step d st e is leg ch found notes_seen = by_joined (joined_at ls p) refl
      where
        p : SwitchChannel
        p = at n d

        shown_p : shown_at (layers_of ls) (at n d) ≡ Some (seen l ch)
        shown_p = ap (λ (o : Option Layer). shown_on o d) got_layer ∙ ap (λ (o : Option Channel). shown_as l o) found

        agree : seen l ch ≡ shown_of (w (at n d))
        agree = (i.world (at n d) (seen l ch) shown_p).shown

        notes_are : notes ≡ (st (shown_of (w (at n d)))).notes
        notes_are = notes_seen ∙ ap (λ (y : Shown). (st y).notes) agree

        of : AreOf d (w (at n d)).role (st (shown_of (w (at n d)))).channel.state notes
        of = subst (λ (ns : List Note). AreOf d (w (at n d)).role (st (shown_of (w (at n d)))).channel.state ns) (sym notes_are) (is.notes_of_it (shown_of (w (at n d))))

        there : is_some (shown_at (layers_of ms) (at n d)) ≡ true
        there = there_step (Happens n what) ls (at n d) ∙ ap (λ (o : Option Shown). is_some o) shown_p

        leg_is : v (at n d) ≡ stepped (st (shown_of (w (at n d)))) (e (w (at n d))) (w (at n d))
        leg_is = x.here (layers_of ls) w (at n d) got_layer (eq-eqb n n refl) ∙ leg (w (at n d))

        state_is : (v (at n d)).channel.state ≡ (st (shown_of (w (at n d)))).channel.state
        state_is = ap (λ (y : Shown). y.channel.state) (ap (λ (g : Leg). shown_of g) leg_is ∙ opened_shown (st (shown_of (w (at n d)))).owes _)

        role_is : (v (at n d)).role ≡ (w (at n d)).role
        role_is = ap (λ (y : Shown). y.role) (ap (λ (g : Leg). shown_of g) leg_is ∙ opened_shown (st (shown_of (w (at n d)))).owes _)

        comes : (parts : CallParts) → IsNoted notes d parts → CameIn (at n d) parts bs1
        comes parts noted =
            let y = some_there (shown_at (layers_of ms) (at n d)) there in
            let has : HasSlot d (bs n) = (h n l got_layer).slots d (ap (λ (o : Option Channel). is_some o) found) in
            let k : WrittenIn d parts (bs1 n) = subst (λ (b : Book). WrittenIn d parts b) (sym here_book) (last_written d (w (at n d)).role _ parts notes (bs n) of noted has) in
            let may : may_accept y.0.role y.0.channel.state ≡ true =
            ap₂ (λ (r : Role) (c : ChannelState). may_accept r c) (ap (λ (z : Shown). z.role) (world_ms (at n d) y.0 y.1).shown ∙ role_is) (ap (λ (z : Shown). z.channel.state) (world_ms (at n d) y.0 y.1).shown ∙ state_is)
            ∙ noted_accepts d (w (at n d)).role _ parts notes of noted in
            let c = some_there (slot_at Dce d (bs1 n)).caller (lines_answered ps bs1 ms (at n d) y.0 lines_kept y.1 may) in
            record {
              number = k.number;
              caller = c.0;
              present = k.present;
              came = c.1;
              last = sym k.caller ∙ c.1;
              it = k.it;
              there = k.there;
              own = k.own;
              far = k.far;
              alone = λ m e. lines_once ps bs1 ms (at n d) y.0 lines_kept y.1 m k.number c.0 e (k.recorded ∙ ap (λ (o : Option ℕ). Some o) (sym k.caller ∙ c.1));
            }

        -- a call that is connected is accepted where it came from
        accepts_there : (j : Joined) → joined_at ls (at n d) ≡ Some j → waits_for_call (w (at n d)).role (w (at n d)).channel.state ≡ true → st (shown_of (w (at n d))) ≡ record { channel = entered Transfer (w (at n d)).channel; owes = None; notes = Connected d ∷ [] }
            → Walked (And AreCalls R) (heed_all_steps routes n notes ms) ms bs1 cs (heed_all routes n notes ms)
        accepts_there j at_j waiting_ is_ =
            subst (λ (ns : List Note). Walked (And AreCalls R) (heed_all_steps routes n ns ms) ms bs1 cs (heed_all routes n ns ms)) (sym note)
            (subst (λ (o : Option Joined). Walked (And AreCalls R) (told_steps o (Connected d) (at n d) ms ++ []) ms bs1 cs (told_of o (Connected d) (at n d) ms)) (sym here)
            (walked_quiet (And AreCalls R) (Asks j.other Accept ∷ []) ms bs1 cs (ask j.other Accept ms) refl refl (
              calls_same ms (ask j.other Accept ms) bs1 (books_by (Asks j.other Accept) ms bs1) cs mutual_ms (accept_same j.other ms bs1) calls_ms,
              accepts (at n d) j ms bs1 cs (record {
                calls = calls_ms;
                pairs = mutual_ms;
                joined = here;
                placed = placed_there;
                number = answered.number;
                present = answered.present;
                answered = answered.answered;
              }) kept1,
            )))
          where
            note : notes ≡ Connected d ∷ []
            note = notes_are ∙ ap (λ (y : Step). y.notes) is_

            here : joined_at ms (at n d) ≡ Some j
            here = joined_ms (at n d) ∙ at_j

            slots : (y : SwitchChannel) (i : Joined) → joined_at ls y ≡ Some i → present_at y bs1 ≡ present_at y bs
            slots y i e =
                elim (number_is y.line n) [
                  | inl same ↦
                      subst (λ (k : ℕ). (slot_at Dce y.channel (bs1 k)).present ≡ (slot_at Dce y.channel (bs k)).present) (sym same)
                      (ap (λ (b : Book). (slot_at Dce y.channel b).present) (here_book ∙ ap (λ (ns : List Note). all_told Dce ns (bs n)) note))
                  | inr ne ↦ ap (λ (b : Book). (slot_at Dce y.channel b).present) (other_book y.line ne)
                ]

            calls_ms : AreCalls ms bs1 cs
            calls_ms = calls_same ls ms bs bs1 cs mutual_ls (same_ms slots) a

            -- it is the leg of the call that was placed
            placed_there : j.came_in ≡ false
            placed_there =
                let k = i.joined (at n d) j at_j in
                elim k.pair [
                  | inl y ↦ waits_placed (w (at n d)) (w j.other) j k.other y waiting_
                  | inr y ↦ elim y [ inl z ↦ absurd z | inr z ↦ absurd z ]
                ]

            answered : Answered d (bs1 n)
            answered =
                let y = some_there (shown_at (layers_of ms) (at n d)) there in
                lines_connected ps bs1 ms (at n d) y.0 lines_kept y.1
                (ap (λ (z : Shown). in_transfer z.channel.state) (world_ms (at n d) y.0 y.1).shown
                ∙ (ap (λ (c : ChannelState). in_transfer c) state_is ∙ ap (λ (y : Step). in_transfer y.channel.state) is_))

        by_outcome : (j : Joined) → joined_at ls (at n d) ≡ Some j → Outcome d (w (at n d)).role (w (at n d)).channel (st (shown_of (w (at n d)))) → Walked (And AreCalls R) (heed_all_steps routes n notes ms) ms bs1 cs (heed_all routes n notes ms)
        by_outcome j at_j (ends cause diagnostic reason rest f) = one_over d (w (at n d)).role _ of cause diagnostic reason rest (notes_are ∙ f) there comes
        by_outcome j at_j (connects f g) = accepts_there j at_j f g
        by_outcome j at_j (waits f g k) = plainly (subst (λ (ns : List Note). Every IsPlain ns) (sym (notes_are ∙ ap (λ (y : Step). y.notes) g)) tt)
        by_outcome j at_j (goes_on f g k) = plainly (subst (λ (ns : List Note). Every IsPlain ns) (sym notes_are) (goes_plain d _ k))

        by_joined : (o : Option Joined) → joined_at ls (at n d) ≡ o → Walked (And AreCalls R) (heed_all_steps routes n notes ms) ms bs1 cs (heed_all routes n notes ms)
        by_joined None f = one_alone d (w (at n d)).role _ of f there comes
        by_joined (Some j) f = by_outcome j f (is.outcome (shown_of (w (at n d))) call)
          where
            call : had_call (w (at n d)).channel.state ≡ true
            call = let k = i.joined (at n d) j f in elim k.pair [ inl y ↦ pair_call (w (at n d)) (w j.other) j k.other y | inr y ↦ elim y [ inl z ↦ absurd z | inr z ↦ absurd z ] ]

    by_effect : Effect x.moves l notes → Walked (And AreCalls R) (heed_all_steps routes n notes ms) ms bs1 cs (heed_all routes n notes ms)
    by_effect (nothing none legs) = plainly (subst (λ (ns : List Note). Every IsPlain ns) (sym none) tt)
    by_effect (closes_all reason is legs) = all_over (subst (λ (ns : List Note). Every IsClosing ns) (sym is) (closing_only 1 reason l.channels))
    by_effect (on_one d st e is apart leg empty some) = by_channel (channel_of l d) refl
      where
        by_channel : (o : Option Channel) → channel_of l d ≡ o → Walked (And AreCalls R) (heed_all_steps routes n notes ms) ms bs1 cs (heed_all routes n notes ms)
        by_channel None f = plainly (subst (λ (ns : List Note). Every IsPlain ns) (sym (empty f)) tt)
        by_channel (Some ch) f = one_step d st e is leg ch f (some ch f)

    pub heeded_walk : Walked (And AreCalls R) (heed_all_steps routes n notes ms) ms bs1 cs (heed_all routes n notes ms)
    heeded_walk = by_effect x.effect
