-- What leaves the joins, and the present records of joined channels, leaves the joined calls as they are.
use Rattle.std.specs.Prelude.{◌≡◌, ℕ, zero, suc, ◌⊎◌, Bool, true, false, not, ◌==◌, if◌then◌else◌, List, [], ◌∷◌, ◌++◌, length, slice_get, Option, Some, None, is_some}
use Rattle.std.specs.List.{list_any}
use Rattle.std.proofs.Common.{inl, inr, refl, sym, ap, subst, ◌∙◌, option_map}
use Rattle.std.proofs.lemmas.Option.{none-some, same_Some}
use Rattle.link_timers.specs.declared.role.Role.TheVariants.{Dce}
use Rattle.lapb.specs.Machine.{can_offer}
use Rattle.data_transfer.specs.Packets.{Note}
use Rattle.data_transfer.specs.Packets.Note.{Incoming, Connected, Closed, WasReset, InterruptConfirmed, Covered}
use Rattle.data_transfer.specs.Traffic.{Taken}
use Rattle.data_transfer.specs.Traffic.Taken.{TakenInterrupt, TakenPacket}
use Rattle.packet_channel.specs.Channel.{Channel, Request, Refusal}
use Rattle.packet_channel.specs.Channel.Request.{Accept, Clearing, Resetting, Sending, Interrupting, Stopping, Taking, Releasing, Confirming}
use Rattle.packet_layer.specs.Layer.{Layer, channel_of, front_at, request_refusal, next_packet}
use Rattle.packet_end.specs.PacketEnd.{PacketEnd, with_next}
use Rattle.address_routes.specs.Routes.{RouteMap}
use Rattle.packet_laws.specs.Readable.{Every}
use Rattle.call_records.specs.Records.{RecordValue, with_sent, with_interrupt_sent, with_taken, with_interrupt_taken, with_released, with_epoch}
use Rattle.call_records.specs.Book.{Book, Slot, slot_at, with_pair, takes, changed}
use Rattle.call_records.specs.Carried.{carried, unless_refused}
use Rattle.record_laws.proofs.Books.Writing.{slot_changed}
use Rattle.switch_joins.specs.Direction.{new_direction, releasable, covered_by}
use Rattle.joined_line.specs.Causes.{reset_cause, far_diagnostic}
use Rattle.switch_joins.specs.declared.channels.SwitchChannel.{SwitchChannel}
use Rattle.switch_joins.specs.Joins.{Joined}
use Rattle.switch_lines.specs.Lines.{SwitchLine, same_place, joined_at, with_joined, ask, ask_all, sizes_at, takes_at}
use Rattle.switch_lines.specs.Lines as lines
use Rattle.switch_lines.specs.Relay.{carried_by, due_at, moved, relayed, places_first, relayed_first, most_moves}
use Rattle.switch_lines.specs.Switch.{heed, may_offer, offering_from, offered_from}
use Rattle.switch_laws.specs.Joined.{IsSwitch, has_place}
use Rattle.switch_laws.specs.World.{World, Act, layers_of, shown_at, line_of, after_act}
use Rattle.switch_laws.specs.Steps.{Step, lines_after, lines_after_all, acts_of, on_line, offer_acts}
use Rattle.switch_laws.specs.Steps.Step.{Asks, Places, Keeps, Happens, Offers, Begins, Settles, Elapses}
use Rattle.switch_laws.specs.EventSteps.{asks_steps, freed_steps, moved_if_steps, moved_front_steps, moved_joined_steps, relayed_steps, relayed_from_steps, relayed_first_steps, anew_steps, covered_steps, told_joined_steps, told_steps, heed_steps, heed_all_steps, offered_steps, rounds_steps}
use Rattle.switch_laws.proofs.JoinsAfterNotes.{at}
use Rattle.switch_laws.proofs.Leading.{Leads, moved_leads, relayed_leads, relayed_first_leads, offered_leads, heed_leads}
use Rattle.switch_laws.proofs.Places.{joined_here, joined_place}
use Rattle.switch_laws.proofs.JoinsAtEventEnd.{joined_on_ends}
use Rattle.switched_call_laws.specs.SwitchRecords.Written.{Books, may_release_on, request_writes, writes, writes_at, books_after, books_after_all}
use Rattle.switched_call_laws.specs.SwitchRecords.Rests.{Rests}
use Rattle.switched_call_laws.proofs.SwitchRecords.Resting.{acts_rest}
use Rattle.switched_call_laws.specs.JoinedCalls.Calls.{JoinedCall, present_at, made_call, calls_of, books_by, books_by_all, calls_of_all, Stands, HasEnded, StandsOrEnded, AreCalls}
use Rattle.switch_joins.proofs.Apart.{decided, place_is}
use Rattle.switch_lines.proofs.Places.{joined_kept, joined_asked, joined_asks, joined_apart}
use Rattle.switch_lines.proofs.Onward.{IsOnward, AreOnward, sends, interrupts, are_onward}

-- ---- joins, but for what is kept of them

abbrev pub anew : Joined → Joined
anew j = record j { kept = new_direction }

abbrev pub shape : Option Joined → Option Joined
shape o = option_map anew o

pub shape_some : (o p : Option Joined) (j : Joined) → shape p ≡ shape o → o ≡ Some j → (k : Joined) × ((p ≡ Some k) × (anew k ≡ anew j))
shape_some None p j e f = absurd (none-some j f)
shape_some (Some i) None j e f = absurd (none-some (anew i) e)
shape_some (Some i) (Some k) j e f = (k, (refl, same_Some (anew k) (anew i) e ∙ ap anew (same_Some i j f)))

-- ---- lines and books that are the same to the joined calls

pub record Same (ls ms : List SwitchLine) (bs bs' : Books) : Type 0 where
  pub joins : (x : SwitchChannel) → shape (joined_at ms x) ≡ shape (joined_at ls x)
  pub slots : (x : SwitchChannel) (j : Joined) → joined_at ls x ≡ Some j → present_at x bs' ≡ present_at x bs
  pub rests : (k n : ℕ) (r : RecordValue) → Rests n r (bs k) → Rests n r (bs' k)

-- joined channels stay joined, with the same present records
pub record Stay (ls ms : List SwitchLine) (bs bs' : Books) : Type 0 where
  pub joins : (x : SwitchChannel) (j : Joined) → joined_at ls x ≡ Some j → (k : Joined) × ((joined_at ms x ≡ Some k) × (anew k ≡ anew j))
  pub slots : (x : SwitchChannel) (j : Joined) → joined_at ls x ≡ Some j → present_at x bs' ≡ present_at x bs
  pub rests : (k n : ℕ) (r : RecordValue) → Rests n r (bs k) → Rests n r (bs' k)

pub same_stay : (ls ms : List SwitchLine) (bs bs' : Books) → Same ls ms bs bs' → Stay ls ms bs bs'
same_stay ls ms bs bs' s = record { joins = λ x j e. shape_some (joined_at ls x) (joined_at ms x) j (s.joins x) e; slots = s.slots; rests = s.rests }

pub same_itself : (ls : List SwitchLine) (bs : Books) → Same ls ls bs bs
same_itself ls bs = record { joins = λ x. refl; slots = λ x j e. refl; rests = λ k n r i. i }

pub same_then : (ls ms ks : List SwitchLine) (as_ bs cs : Books) → Same ls ms as_ bs → Same ms ks bs cs → Same ls ks as_ cs
same_then ls ms ks as_ bs cs s t = record {
  joins = λ x. t.joins x ∙ s.joins x;
  slots = λ x j e. let k = shape_some (joined_at ls x) (joined_at ms x) j (s.joins x) e in t.slots x k.0 k.1.0 ∙ s.slots x j e;
  rests = λ k n r i. t.rests k n r (s.rests k n r i);
}

-- the two channels of a join are there and joined, each with the other
pub record Paired (ls : List SwitchLine) (p : SwitchChannel) (j : Joined) : Type 0 where
  pub far : Joined
  pub joined : joined_at ls j.other ≡ Some far
  pub back : far.other ≡ p
  pub apart : same_place p j.other ≡ false
  pub one_came_in : far.came_in ≡ not j.came_in
  pub there : is_some (shown_at (layers_of ls) p) ≡ true

abbrev pub Mutual : List SwitchLine → Type 0
Mutual ls = (p : SwitchChannel) (j : Joined) → joined_at ls p ≡ Some j → Paired ls p j

pub switch_mutual : (ls : List SwitchLine) (w : World) → IsSwitch ls w → Mutual ls
switch_mutual ls w i p j e = let k = i.joined p j e in record { far = k.other; joined = k.joined; back = k.back; apart = k.apart; one_came_in = k.one_came_in; there = k.there }

-- there is a place for a join at each channel
abbrev pub HavePlaces : List SwitchLine → Type 0
HavePlaces ls = (x : SwitchChannel) → is_some (shown_at (layers_of ls) x) ≡ true → has_place ls x ≡ true

pub ended_same : (bs bs' : Books) (c : JoinedCall) → ((k n : ℕ) (r : RecordValue) → Rests n r (bs k) → Rests n r (bs' k)) → HasEnded bs c → HasEnded bs' c
ended_same bs bs' c f h = record {
  near_record = h.near_record;
  far_record = h.far_record;
  near_rests = f c.near.line c.came_in h.near_record h.near_rests;
  far_rests = f c.far.line c.placed h.far_record h.far_rests;
  relayed = h.relayed;
}

-- the other channel of a call that stands is joined
pub record FarJoined (ls : List SwitchLine) (bs : Books) (c : JoinedCall) : Type 0 where
  pub far_join : Joined
  pub joined : joined_at ls c.far ≡ Some far_join
  pub back : far_join.other ≡ c.near

pub far_joined : (ls : List SwitchLine) (bs : Books) (c : JoinedCall) → Mutual ls → Stands ls bs c → FarJoined ls bs c
far_joined ls bs c m s =
    let k = m c.near s.join s.joined in
    record { far_join = k.far; joined = ap (λ (x : SwitchChannel). joined_at ls x) (sym s.other) ∙ k.joined; back = k.back }

pub stands_stay : (ls ms : List SwitchLine) (bs bs' : Books) (c : JoinedCall) → Mutual ls → Stay ls ms bs bs' → Stands ls bs c → Stands ms bs' c
stands_stay ls ms bs bs' c m t s =
    let k = t.joins c.near s.join s.joined in
    let f = far_joined ls bs c m s in
    record {
      join = k.0;
      joined = k.1.0;
      other = ap (λ (j : Joined). j.other) k.1.1 ∙ s.other;
      came_in_here = ap (λ (j : Joined). j.came_in) k.1.1 ∙ s.came_in_here;
      near_present = t.slots c.near s.join s.joined ∙ s.near_present;
      far_present = t.slots c.far f.far_join f.joined ∙ s.far_present;
    }

pub one_stays : (ls ms : List SwitchLine) (bs bs' : Books) (c : JoinedCall) → Mutual ls → Stay ls ms bs bs' → StandsOrEnded ls bs c → StandsOrEnded ms bs' c
one_stays ls ms bs bs' c m t (inl s) = inl (stands_stay ls ms bs bs' c m t s)
one_stays ls ms bs bs' c m t (inr h) = inr (ended_same bs bs' c t.rests h)

pub every_map : {X : Type 0} (P Q : X → Type 0) (xs : List X) → ((x : X) → P x → Q x) → Every P xs → Every Q xs
every_map P Q [] f e = tt
every_map P Q (x ∷ xs) f e = (f x e.0, every_map P Q xs f e.1)

pub calls_same : (ls ms : List SwitchLine) (bs bs' : Books) (cs : List JoinedCall) → Mutual ls → Same ls ms bs bs' → AreCalls ls bs cs → AreCalls ms bs' cs
calls_same ls ms bs bs' cs m t a =
    let s = same_stay ls ms bs bs' t in
    record {
      each = every_map (StandsOrEnded ls bs) (StandsOrEnded ms bs') cs (λ c x. one_stays ls ms bs bs' c m s x) a.each;
      all = λ p j e here.
          let k = shape_some (joined_at ms p) (joined_at ls p) j (sym (t.joins p)) e in
          let c = a.all p k.0 k.1.0 (ap (λ (i : Joined). i.came_in) k.1.1 ∙ here) in
          (c.0, c.1, c.2, stands_stay ls ms bs bs' c.1 m s c.3, c.4);
    }

-- ---- what an act writes that ends no call and begins none

abbrev pub IsMild : Request → Type 0
IsMild (Clearing cause diagnostic) = ⊥
IsMild q = Unit {0}

pair_slot : (o p : Option ℕ) (b : Book) (c : ℕ) → slot_at Dce c (with_pair o p b) ≡ slot_at Dce c b
pair_slot None p b c = refl
pair_slot (Some n) None b c = refl
pair_slot (Some n) (Some m) b c = refl

change_slot : (d : ℕ) (f : RecordValue → RecordValue) (b : Book) (c : ℕ) → slot_at Dce c (changed Dce d f b) ≡ slot_at Dce c b
change_slot d f b c = slot_changed Dce c (slot_at Dce d b).present f b

takes_slot : (d : ℕ) (o : Option Taken) (b : Book) (c : ℕ) → slot_at Dce c (takes Dce d o b) ≡ slot_at Dce c b
takes_slot d None b c = refl
takes_slot d (Some (TakenInterrupt octets)) b c = change_slot d (with_interrupt_taken octets) b c
takes_slot d (Some (TakenPacket x)) b c = change_slot d (with_taken x) b c

carried_slot : (d : ℕ) (q : Request) (o : Option Taken) (b : Book) (c : ℕ) → IsMild q → slot_at Dce c (carried Dce d q o b) ≡ slot_at Dce c b
carried_slot d Accept o b c m = pair_slot (slot_at Dce d b).caller (slot_at Dce d b).present b c
carried_slot d (Clearing cause diagnostic) o b c m = absurd m
carried_slot d (Resetting cause diagnostic) o b c m = change_slot d with_epoch b c
carried_slot d (Sending x) o b c m = change_slot d (with_sent x) b c
carried_slot d (Interrupting octets) o b c m = change_slot d (with_interrupt_sent octets) b c
carried_slot d (Stopping v) o b c m = refl
carried_slot d Taking o b c m = takes_slot d o b c
carried_slot d (Releasing n) o b c m = change_slot d (with_released n) b c
carried_slot d Confirming o b c m = refl

refused_slot : (o : Option Refusal) (done b : Book) (c : ℕ) → slot_at Dce c done ≡ slot_at Dce c b → slot_at Dce c (unless_refused o done b) ≡ slot_at Dce c b
refused_slot None done b c e = e
refused_slot (Some r) done b c e = refl

if_slot : (v : Bool) (done b : Book) (c : ℕ) → slot_at Dce c done ≡ slot_at Dce c b → slot_at Dce c (if v then done else b) ≡ slot_at Dce c b
if_slot true done b c e = e
if_slot false done b c e = refl

request_slot : (d : ℕ) (q : Request) (o : Option Channel) (b : Book) (c : ℕ) → IsMild q → slot_at Dce c (request_writes Dce d q o b) ≡ slot_at Dce c b
request_slot d (Releasing n) o b c m = if_slot (may_release_on o n) (carried Dce d (Releasing n) (front_at o) b) b c (carried_slot d (Releasing n) (front_at o) b c tt)
request_slot d Accept o b c m = carried_slot d Accept (front_at o) b c tt
request_slot d (Clearing cause diagnostic) o b c m = absurd m
request_slot d (Resetting cause diagnostic) o b c m = carried_slot d (Resetting cause diagnostic) (front_at o) b c tt
request_slot d (Sending x) o b c m = carried_slot d (Sending x) (front_at o) b c tt
request_slot d (Interrupting octets) o b c m = carried_slot d (Interrupting octets) (front_at o) b c tt
request_slot d (Stopping v) o b c m = refl
request_slot d Taking o b c m = carried_slot d Taking (front_at o) b c tt
request_slot d Confirming o b c m = refl

abbrev pub IsMildAct : Act → Type 0
IsMildAct (Act.Asks p q) = IsMild q
IsMildAct (Act.Gives n) = Unit {0}
IsMildAct (Act.Reads n) = Unit {0}
IsMildAct a = ⊥

act_slot : (a : Act) (l : Layer) (b : Book) (c : ℕ) → IsMildAct a → slot_at Dce c (writes Dce a l b) ≡ slot_at Dce c b
act_slot (Act.Asks p q) l b c m = refused_slot (request_refusal l p.channel q) (request_writes Dce p.channel q (channel_of l p.channel) b) b c (request_slot p.channel q (channel_of l p.channel) b c m)
act_slot (Act.Gives n) l b c m = refl
act_slot (Act.Reads n) l b c m = refl
act_slot (Act.Calls n parts) l b c m = absurd m
act_slot (Act.Comes n r) l b c m = absurd m
act_slot (Act.Expires n t) l b c m = absurd m
act_slot (Act.GoesUp n) l b c m = absurd m
act_slot (Act.GoesDown n) l b c m = absurd m

line_slot : (a : Act) (o : Option Layer) (b : Book) (c : ℕ) → IsMildAct a → slot_at Dce c (writes_at a o b) ≡ slot_at Dce c b
line_slot a None b c m = refl
line_slot a (Some l) b c m = act_slot a l b c m

test_slot : (a : Act) (v : Bool) (o : Option Layer) (b : Book) (c : ℕ) → IsMildAct a → slot_at Dce c (if v then writes_at a o b else b) ≡ slot_at Dce c b
test_slot a true o b c m = line_slot a o b c m
test_slot a false o b c m = refl

pub acts_slots : (acts : List Act) (ys : List Layer) (bs : Books) (x : SwitchChannel) → Every IsMildAct acts → present_at x (books_after_all acts ys bs) ≡ present_at x bs
acts_slots [] ys bs x m = refl
acts_slots (a ∷ more) ys bs x m =
    acts_slots more (after_act a ys) (books_after a ys bs) x m.1
    ∙ ap (λ (s : Slot). s.present) (test_slot a (x.line == line_of a) (slice_get ys x.line) (bs x.line) x.channel m.0)

-- ---- steps that end no call and begin none

-- what is sent is sent on joined channels, and no call is accepted
abbrev pub OnJoined : Request → SwitchChannel → List SwitchLine → Type 0
OnJoined (Sending d) p ls = (j : Joined) × (joined_at ls p ≡ Some j)
OnJoined (Interrupting octets) p ls = (j : Joined) × (joined_at ls p ≡ Some j)
OnJoined Accept p ls = ⊥
OnJoined q p ls = Unit {0}

abbrev pub IsSteady : Step → List SwitchLine → Type 0
IsSteady (Asks p q) ls = IsMild q × OnJoined q p ls
IsSteady (Keeps p (Some j)) ls = (k : Joined) × ((joined_at ls p ≡ Some k) × (anew j ≡ anew k))
IsSteady (Keeps p None) ls = ⊥
IsSteady (Places n parts) ls = ⊥
IsSteady (Happens n what) ls = ⊥
IsSteady s ls = Unit {0}

abbrev pub AreSteady : List Step → List SwitchLine → Type 0
AreSteady [] ls = Unit {0}
AreSteady (s ∷ more) ls = IsSteady s ls × AreSteady more (lines_after s ls)

if_mild : (v : Bool) (as_ bs : List Act) → Every IsMildAct as_ → Every IsMildAct bs → Every IsMildAct (if v then as_ else bs)
if_mild true as_ bs p q = p
if_mild false as_ bs p q = q

offers_mild : (most n : ℕ) (e : PacketEnd) → Every IsMildAct (offer_acts most n e)
offers_mild zero n e = tt
offers_mild (suc most) n e =
    if_mild (can_offer e.line.link) _ [] (if_mild (is_some (next_packet e.layer).packet) (Act.Gives n ∷ offer_acts most n (with_next e (next_packet e.layer))) [] (tt, offers_mild most n (with_next e (next_packet e.layer))) tt) tt

line_mild : (n : ℕ) (o : Option SwitchLine) → Every IsMildAct (on_line (λ e. offer_acts 7 n e) o)
line_mild n None = tt
line_mild n (Some l) = offers_mild 7 n l.end

step_mild : (s : Step) (ls : List SwitchLine) → IsSteady s ls → Every IsMildAct (acts_of s ls)
step_mild (Asks p q) ls i = (i.0, tt)
step_mild (Keeps p o) ls i = tt
step_mild (Places n parts) ls i = absurd i
step_mild (Happens n what) ls i = absurd i
step_mild (Offers n) ls i = line_mild n (slice_get ls n)
step_mild Begins ls i = tt
step_mild Settles ls i = tt
step_mild (Elapses ticks) ls i = tt

kept_shape : (p : SwitchChannel) (j k : Joined) (ls : List SwitchLine) (x : SwitchChannel) → joined_at ls p ≡ Some k → anew j ≡ anew k → shape (joined_at (with_joined p (Some j) ls) x) ≡ shape (joined_at ls x)
kept_shape p j k ls x e f = by_place (decided (same_place x p))
  where
    by_place : (same_place x p ≡ true) ⊎ (same_place x p ≡ false) → shape (joined_at (with_joined p (Some j) ls) x) ≡ shape (joined_at ls x)
    by_place (inl t) =
        ap (λ (y : SwitchChannel). shape (joined_at (with_joined p (Some j) ls) y)) (place_is x p t)
        ∙ (ap shape (joined_here p (Some j) ls (joined_place ls p k e)) ∙ (ap (λ (i : Joined). Some i) f ∙ (sym (ap shape e) ∙ ap (λ (y : SwitchChannel). shape (joined_at ls y)) (sym (place_is x p t)))))
    by_place (inr n) = ap shape (joined_apart p (Some j) x ls n)

step_shape : (s : Step) (ls : List SwitchLine) (x : SwitchChannel) → IsSteady s ls → shape (joined_at (lines_after s ls) x) ≡ shape (joined_at ls x)
step_shape (Asks p q) ls x i = ap shape (joined_asked p q x ls)
step_shape (Keeps p (Some j)) ls x i = kept_shape p j i.0 ls x i.1.0 i.1.1
step_shape (Keeps p None) ls x i = absurd i
step_shape (Places n parts) ls x i = absurd i
step_shape (Happens n what) ls x i = absurd i
step_shape (Offers n) ls x i = ap shape (joined_kept n x.line x.channel _ ls (λ l. refl))
step_shape Begins ls x i = ap shape (joined_on_ends _ ls x.line x.channel)
step_shape Settles ls x i = ap shape (joined_on_ends _ ls x.line x.channel)
step_shape (Elapses ticks) ls x i = ap shape (joined_on_ends _ ls x.line x.channel)

pub books_rest : (acts : List Act) (ys : List Layer) (bs : Books) (k n : ℕ) (r : RecordValue) → Rests n r (bs k) → Rests n r (books_after_all acts ys bs k)
books_rest acts ys bs k n r i = acts_rest acts ys bs k n r i

-- joins stay in pairs
pub mutual_stays : (ls ms : List SwitchLine) → ((x : SwitchChannel) → shape (joined_at ms x) ≡ shape (joined_at ls x)) → ((x : SwitchChannel) → is_some (shown_at (layers_of ms) x) ≡ is_some (shown_at (layers_of ls) x)) → Mutual ls → Mutual ms
mutual_stays ls ms same there m p j e =
    let old = shape_some (joined_at ms p) (joined_at ls p) j (sym (same p)) e in
    let k = m p old.0 old.1.0 in
    let other : old.0.other ≡ j.other = ap (λ (i : Joined). i.other) old.1.1 in
    let now = shape_some (joined_at ls old.0.other) (joined_at ms old.0.other) k.far (same old.0.other) k.joined in
    record {
      far = now.0;
      joined = ap (λ (x : SwitchChannel). joined_at ms x) (sym other) ∙ now.1.0;
      back = ap (λ (i : Joined). i.other) now.1.1 ∙ k.back;
      apart = ap (λ (x : SwitchChannel). same_place p x) (sym other) ∙ k.apart;
      one_came_in = ap (λ (i : Joined). i.came_in) now.1.1 ∙ (k.one_came_in ∙ ap (λ (i : Joined). not i.came_in) old.1.1);
      there = there p ∙ k.there;
    }

pub steady_same : (s : Step) (ls : List SwitchLine) (bs : Books) → IsSteady s ls → Same ls (lines_after s ls) bs (books_by s ls bs)
steady_same s ls bs i = record {
  joins = λ x. step_shape s ls x i;
  slots = λ x j e. acts_slots (acts_of s ls) (layers_of ls) bs x (step_mild s ls i);
  rests = λ k n r h. books_rest (acts_of s ls) (layers_of ls) bs k n r h;
}

-- they join no call
steady_none : (s : Step) (ls : List SwitchLine) (bs : Books) → IsSteady s ls → calls_of s ls bs ≡ []
steady_none (Keeps p (Some j)) ls bs i = ap (λ (o : Option Joined). made_call o p j bs) i.1.0
steady_none (Keeps p None) ls bs i = absurd i
steady_none (Asks p q) ls bs i = refl
steady_none (Places n parts) ls bs i = refl
steady_none (Happens n what) ls bs i = refl
steady_none (Offers n) ls bs i = refl
steady_none Begins ls bs i = refl
steady_none Settles ls bs i = refl
steady_none (Elapses ticks) ls bs i = refl

pub steadies_same : (steps : List Step) (ls : List SwitchLine) (bs : Books) → AreSteady steps ls → Same ls (lines_after_all steps ls) bs (books_by_all steps ls bs)
steadies_same [] ls bs i = same_itself ls bs
steadies_same (s ∷ more) ls bs i =
    same_then ls (lines_after s ls) (lines_after_all more (lines_after s ls)) bs (books_by s ls bs) (books_by_all more (lines_after s ls) (books_by s ls bs)) (steady_same s ls bs i.0) (steadies_same more (lines_after s ls) (books_by s ls bs) i.1)

pub steadies_none : (steps : List Step) (ls : List SwitchLine) (bs : Books) → AreSteady steps ls → calls_of_all steps ls bs ≡ []
steadies_none [] ls bs i = refl
steadies_none (s ∷ more) ls bs i =
    ap (λ (cs : List JoinedCall). cs ++ calls_of_all more (lines_after s ls) (books_by s ls bs)) (steady_none s ls bs i.0) ∙ steadies_none more (lines_after s ls) (books_by s ls bs) i.1

-- ---- lists of steps

pub steady_then : (as_ bs : List Step) (ls ms : List SwitchLine) → Leads as_ ls ms → AreSteady as_ ls → AreSteady bs ms → AreSteady (as_ ++ bs) ls
steady_then [] bs ls ms e i j = subst (λ (ks : List SwitchLine). AreSteady bs ks) (sym e) j
steady_then (a ∷ as_) bs ls ms e i j = (i.0, steady_then as_ bs (lines_after a ls) ms e i.1 j)

-- ---- relay

-- the other channel of a joined one is joined
abbrev pub BothJoined : List SwitchLine → Type 0
BothJoined ls = (p : SwitchChannel) (j : Joined) → joined_at ls p ≡ Some j → (k : Joined) × (joined_at ls j.other ≡ Some k)

pub mutual_both : (ls : List SwitchLine) → Mutual ls → BothJoined ls
mutual_both ls m p j e = let k = m p j e in (k.far, k.joined)

both_stay : (ls ms : List SwitchLine) → ((x : SwitchChannel) → shape (joined_at ms x) ≡ shape (joined_at ls x)) → BothJoined ls → BothJoined ms
both_stay ls ms same b p j e =
    let old = shape_some (joined_at ms p) (joined_at ls p) j (sym (same p)) e in
    let far = b p old.0 old.1.0 in
    let now = shape_some (joined_at ls old.0.other) (joined_at ms old.0.other) far.0 (same old.0.other) far.1 in
    (now.0, ap (λ (x : SwitchChannel). joined_at ms x) (sym (ap (λ (i : Joined). i.other) old.1.1)) ∙ now.1.0)

steadies_shape : (steps : List Step) (ls : List SwitchLine) (x : SwitchChannel) → AreSteady steps ls → shape (joined_at (lines_after_all steps ls) x) ≡ shape (joined_at ls x)
steadies_shape [] ls x i = refl
steadies_shape (s ∷ more) ls x i = steadies_shape more (lines_after s ls) x i.1 ∙ step_shape s ls x i.0

both_after : (steps : List Step) (ls ms : List SwitchLine) → lines_after_all steps ls ≡ ms → AreSteady steps ls → BothJoined ls → BothJoined ms
both_after steps ls ms e i b = subst (λ (ks : List SwitchLine). BothJoined ks) e (both_stay ls (lines_after_all steps ls) (λ x. steadies_shape steps ls x i) b)

onward_steady : (q : Request) (p : SwitchChannel) (k : Joined) (ls : List SwitchLine) → IsOnward q → joined_at ls p ≡ Some k → IsSteady (Asks p q) ls
onward_steady _ p k ls (sends d) e = (tt, (k, e))
onward_steady _ p k ls (interrupts octets) e = (tt, (k, e))

asks_steady : (p : SwitchChannel) (k : Joined) (qs : List Request) (more : List Step) (ls : List SwitchLine) → AreOnward qs → joined_at ls p ≡ Some k → AreSteady more (ask_all p qs ls) → AreSteady (asks_steps p qs ++ more) ls
asks_steady p k [] more ls are e h = h
asks_steady p k (q ∷ qs) more ls are e h = (onward_steady q p k ls are.0 e, asks_steady p k qs more (ask p q ls) are.1 (joined_asked p q p ls ∙ e) h)

if_steady : (b : Bool) (t : Taken) (p : SwitchChannel) (j : Joined) (ls : List SwitchLine) → BothJoined ls → joined_at ls p ≡ Some j → AreSteady (moved_if_steps b t p j ls) ls
if_steady false t p j ls b e = tt
if_steady true t p j ls b e =
    let k = b p j e in
    let sizes = sizes_at ls p j.other in
    let qs = due_at ls p j t in
    let v = carried_by sizes t j.kept in
    let l1 = ask p Taking ls in
    let l2 = ask_all j.other qs l1 in
    let same = joined_asked p (Releasing (releasable v.held)) p l2 ∙ (joined_asks j.other qs p l1 ∙ (joined_asked p Taking p ls ∙ e)) in
    ((tt, tt), asks_steady j.other k.0 qs (freed_steps p j v) l1 (are_onward sizes j.kept.gathered t) (joined_asked p Taking j.other ls ∙ k.1) ((tt, tt), ((j, (same, refl)), tt)))

front_steady : (o : Option Taken) (p : SwitchChannel) (j : Joined) (ls : List SwitchLine) → BothJoined ls → joined_at ls p ≡ Some j → AreSteady (moved_front_steps o p j ls) ls
front_steady None p j ls b e = tt
front_steady (Some t) p j ls b e = if_steady (takes_at ls j.other (due_at ls p j t)) t p j ls b e

moved_steady : (o : Option Joined) (p : SwitchChannel) (ls : List SwitchLine) → BothJoined ls → joined_at ls p ≡ o → AreSteady (moved_joined_steps o p ls) ls
moved_steady None p ls b e = tt
moved_steady (Some j) p ls b e = front_steady (lines.front_at ls p) p j ls b e

relayed_steady : (most : ℕ) (p : SwitchChannel) (ls : List SwitchLine) → BothJoined ls → AreSteady (relayed_steps most p ls) ls
relayed_steady zero p ls b = tt
relayed_steady (suc most) p ls b =
    let one = moved_steady (joined_at ls p) p ls b refl in
    steady_then (moved_joined_steps (joined_at ls p) p ls) (relayed_steps most p (moved p ls)) ls (moved p ls) (moved_leads (joined_at ls p) p ls) one
    (relayed_steady most p (moved p ls) (both_after (moved_joined_steps (joined_at ls p) p ls) ls (moved p ls) (moved_leads (joined_at ls p) p ls) one b))

from_steady : (ps : List SwitchChannel) (ls : List SwitchLine) → BothJoined ls → AreSteady (relayed_from_steps ps ls) ls
from_steady [] ls b = tt
from_steady (p ∷ ps) ls b =
    let one = relayed_steady most_moves p ls b in
    steady_then (relayed_steps most_moves p ls) (relayed_from_steps ps (relayed most_moves p ls)) ls (relayed most_moves p ls) (relayed_leads most_moves p ls) one (from_steady ps (relayed most_moves p ls) (both_after (relayed_steps most_moves p ls) ls (relayed most_moves p ls) (relayed_leads most_moves p ls) one b))

-- ---- rounds

offered_steady : (count n : ℕ) (ls : List SwitchLine) → AreSteady (offered_steps count n) ls
offered_steady zero n ls = tt
offered_steady (suc count) n ls = (tt, offered_steady count (suc n) (lines_after (Offers n) ls))

pub rounds_steady : (most : ℕ) (first : List ℕ) (ls : List SwitchLine) → BothJoined ls → AreSteady (rounds_steps most first ls) ls
rounds_steady zero first ls b = from_steady (places_first first ls) ls b
rounds_steady (suc most) first ls b =
    let ms = relayed_first first ls in
    let one = from_steady (places_first first ls) ls b in
    let xs = offered_from (length ls) 0 ms in
    let after = both_after (offered_steps (length ls) 0) ms xs (offered_leads (length ls) 0 ms) (offered_steady (length ls) 0 ms) (both_after (relayed_first_steps first ls) ls ms (relayed_first_leads first ls) one b) in
    steady_then (relayed_first_steps first ls) _ ls ms (relayed_first_leads first ls) one (by (list_any may_offer ms) (rounds_steady most (offering_from 0 ms) xs after))
  where
    onward : List Step
    onward = rounds_steps most (offering_from 0 (relayed_first first ls)) (offered_from (length ls) 0 (relayed_first first ls))

    by : (v : Bool) → AreSteady onward (offered_from (length ls) 0 (relayed_first first ls)) → AreSteady (if v then offered_steps (length ls) 0 ++ onward else []) (relayed_first first ls)
    by true h =
        let ms = relayed_first first ls in
        steady_then (offered_steps (length ls) 0) onward ms (offered_from (length ls) 0 ms) (offered_leads (length ls) 0 ms) (offered_steady (length ls) 0 ms) h
    by false h = tt

-- ---- a call is accepted

pub accept_same : (q : SwitchChannel) (ls : List SwitchLine) (bs : Books) → Same ls (ask q Accept ls) bs (books_by (Asks q Accept) ls bs)
accept_same q ls bs = record {
  joins = λ x. ap shape (joined_asked q Accept x ls);
  slots = λ x j e. acts_slots (Act.Asks q Accept ∷ []) (layers_of ls) bs x (tt, tt);
  rests = λ k n r h. books_rest (Act.Asks q Accept ∷ []) (layers_of ls) bs k n r h;
}

-- ---- notes of a call that goes on

anew_steady : (o : Option Joined) (q : SwitchChannel) (ls : List SwitchLine) → shape (joined_at ls q) ≡ shape o → AreSteady (anew_steps o q) ls
anew_steady None q ls e = tt
anew_steady (Some k) q ls e = let i = shape_some (Some k) (joined_at ls q) k e refl in ((i.0, (i.1.0, sym i.1.1)), tt)

-- those that say neither that a call is over or connected nor that one comes in
abbrev pub IsPlain : Note → Type 0
IsPlain (Incoming c parts) = ⊥
IsPlain (Connected c) = ⊥
IsPlain (Closed c cause diagnostic reason) = ⊥
IsPlain note = Unit {0}

told_joined_steady : (note : Note) (p : SwitchChannel) (j : Joined) (ls : List SwitchLine) → IsPlain note → joined_at ls p ≡ Some j → AreSteady (told_joined_steps note p j ls) ls
told_joined_steady (Incoming c parts) p j ls i e = absurd i
told_joined_steady (Closed c cause diagnostic reason) p j ls i e = absurd i
told_joined_steady (Connected c) p j ls i e = absurd i
told_joined_steady (InterruptConfirmed c) p j ls i e = ((tt, tt), tt)
told_joined_steady (Covered c n) p j ls i e = covered_steady (joined_at ls j.other) refl
  where
    covered_steady : (o : Option Joined) → joined_at ls j.other ≡ o → AreSteady (covered_steps n o j.other) ls
    covered_steady None f = tt
    covered_steady (Some k) f = ((tt, tt), ((k, (joined_asked j.other (Releasing (releasable (covered_by n k.kept).held)) j.other ls ∙ f, refl)), tt))
told_joined_steady (WasReset c cause diagnostic reason) p j ls i e =
    let r = Resetting (reset_cause reason cause) (far_diagnostic reason diagnostic) in
    let l1 = ask j.other r ls in
    let here : joined_at l1 p ≡ Some j = joined_asked j.other r p ls ∙ e in
    let l2 = with_joined p (Some (record j { kept = new_direction })) l1 in
    ((tt, tt), ((j, (here, refl)), anew_steady (joined_at ls j.other) j.other l2 (kept_shape p (record j { kept = new_direction }) j l1 j.other here refl ∙ ap shape (joined_asked j.other r j.other ls))))

told_steady : (o : Option Joined) (note : Note) (p : SwitchChannel) (ls : List SwitchLine) → IsPlain note → joined_at ls p ≡ o → AreSteady (told_steps o note p ls) ls
told_steady None note p ls i e = tt
told_steady (Some j) note p ls i e = told_joined_steady note p j ls i e

plain_steady : (routes : RouteMap) (n : ℕ) (note : Note) (ls : List SwitchLine) → IsPlain note → AreSteady (heed_steps routes n note ls) ls
plain_steady routes n (Incoming c parts) ls i = absurd i
plain_steady routes n (Closed c cause diagnostic reason) ls i = absurd i
plain_steady routes n (Connected c) ls i = absurd i
plain_steady routes n (WasReset c cause diagnostic reason) ls i = told_steady (joined_at ls (at n c)) (WasReset c cause diagnostic reason) (at n c) ls tt refl
plain_steady routes n (InterruptConfirmed c) ls i = told_steady (joined_at ls (at n c)) (InterruptConfirmed c) (at n c) ls tt refl
plain_steady routes n (Covered c k) ls i = told_steady (joined_at ls (at n c)) (Covered c k) (at n c) ls tt refl

pub plains_steady : (routes : RouteMap) (n : ℕ) (notes : List Note) (ls : List SwitchLine) → Every IsPlain notes → AreSteady (heed_all_steps routes n notes ls) ls
plains_steady routes n [] ls i = tt
plains_steady routes n (x ∷ xs) ls i =
    steady_then (heed_steps routes n x ls) (heed_all_steps routes n xs (heed routes n x ls)) ls (heed routes n x ls) (heed_leads routes n x ls) (plain_steady routes n x ls i.0) (plains_steady routes n xs (heed routes n x ls) i.1)
