-- A step of a channel, by what is asked and by what comes, writes in its record what it makes of its leg.
use Rattle.std.specs.Prelude.{◌≡◌, ℕ, ◌+◌, ◌≤◌, Bool, true, false, cond, ◌==◌, not, List, [], ◌∷◌, ◌++◌, length, Option, Some, None}
use Rattle.std.proofs.Common.{refl, sym, ap, ap₂, subst, ◌∙◌, arith, true≢false}
use Rattle.std.proofs.lemmas.Bool.{eqb-true, le-leb}
use Rattle.link_timers.specs.declared.role.Role.{Role}
use Rattle.link_timers.specs.declared.role.Role.TheVariants.{Dte, Dce}
use Rattle.epochs.specs.Epoch.{SentEpoch, TakenEpoch}
use Rattle.data_transfer.proofs.Windows.{window_below}
use Rattle.data_transfer.specs.Packets.{Body, CallParts, Datum}
use Rattle.data_transfer.specs.Packets.Body.{Call, Accepted, Clear, ClearConfirmation, Data, Interrupt, InterruptConfirmation, ReceiveReady, ReceiveNotReady, Reset, ResetConfirmation}
use Rattle.data_transfer.specs.Packets.Note.{Covered}
use Rattle.data_transfer.specs.Traffic.{Traffic, Taken, Heard, hears as hears_in, front, may_release}
use Rattle.data_transfer.specs.Traffic.Taken.{TakenInterrupt, TakenPacket}
use Rattle.data_transfer.specs.Traffic.Heard.{Keeps, Confirms, Wrong}
use Rattle.packet_channel.specs.Channel.{ChannelState, Step, Request, Refusal, received, unreadable, clear_error, refusal, refused_if, had_call, may_accept, in_transfer, after_heard}
use Rattle.packet_channel.specs.Channel.ChannelState.{Ready, OwnWaiting, FarWaiting, Transfer, Collision, OwnClear}
use Rattle.packet_channel.specs.Channel.Request.{Accept, Clearing, Resetting, Sending, Interrupting, Stopping, Taking, Releasing, Confirming}
use Rattle.packet_laws.specs.History.{Epoch, empty_epoch, logged_heard, with_taken as epoch_with_taken}
use Rattle.packet_laws.specs.Counts.{NamesCounts, NamesAfter}
use Rattle.packet_laws.proofs.Naming.{counts_hold}
use Rattle.packet_laws.proofs.Numbers.{covered_within}
use Rattle.epochs.specs.Counted.{counted}
use Rattle.call_records.specs.Records.{RecordValue, with_sent, with_interrupt_sent, with_taken, with_interrupt_taken, with_released, with_covered, with_epoch, new_record}
use Rattle.call_records.specs.Book.{Book, Slot, side_of, with_slot, with_record, changed, closes, renews, comes, places_from, answers, takes, releases, all_told}
use Rattle.call_records.specs.Carried.{unless_refused}
use Rattle.record_laws.proofs.Books.Writing.{closed_here}
use Rattle.switch_laws.specs.Leg.{Leg, IsLeg, asked_unless, asked, stepped, heard_epoch}
use Rattle.switch_laws.specs.World.{IsCallLeg, MayAsk}
use Rattle.switch_laws.proofs.LegsByState.{leg_in}
use Rattle.switch_laws.proofs.Legs.{not_refused, not_false}
use Rattle.switched_call_laws.specs.SwitchRecords.Records.{sent_of, taken_of, all_sent, all_taken, IsRecordOf, HasRecord, leg_if, Has}
use Rattle.switched_call_laws.specs.SwitchRecords.Written.{request_writes}
use Rattle.switched_call_laws.proofs.SwitchRecords.Cells.{Touches, touches_none, touches_then, changes, has_changed, has_same, touches_closed, touches_new, has_new, touches_answered, has_answered}

-- ---- what is written on a channel, and the leg that it then has

pub record Writes (x : Role) (d : ℕ) (b b' : Book) (o : Option Leg) : Type 0 where
  pub touches : Touches x d b b'
  pub has : Has x d o b'

-- the channel has a slot
pub record IsSlot (x : Role) (d : ℕ) (b : Book) : Type 0 where
  pub least : 1 ≤ d
  pub most : d ≤ length (side_of x b).slots

nothing_written : (x : Role) (d : ℕ) (b : Book) (o : Option Leg) → Has x d o b → Writes x d b b o
nothing_written x d b o h = record { touches = touches_none x d b; has = h }

closed_written : (x : Role) (d : ℕ) (b : Book) → Writes x d b (closes x d b) None
closed_written x d b = record { touches = touches_closed x d b; has = closed_here x d b }

changed_written : (x : Role) (d : ℕ) (f : RecordValue → RecordValue) (b : Book) (g g' : Leg) → ((r : RecordValue) → IsRecordOf g r → IsRecordOf g' (f r)) → HasRecord x d g b → Writes x d b (changed x d f b) (Some g')
changed_written x d f b g g' grows h = record { touches = changes x d f b; has = has_changed x d f b g g' grows h }

-- a leg with the same epochs
same_written : (x : Role) (d : ℕ) (b : Book) (g g' : Leg) → g'.before ≡ g.before → g'.epoch ≡ g.epoch → HasRecord x d g b → Writes x d b b (Some g')
same_written x d b g g' p q h = nothing_written x d b (Some g') (has_same x d b g g' same h)
  where
    same : (r : RecordValue) → IsRecordOf g r → IsRecordOf g' r
    same r i = record {
      sent_before = i.sent_before ∙ ap (λ (es : List Epoch). all_sent es) (sym p);
      sent = i.sent ∙ ap (λ (e : Epoch). sent_of e) (sym q);
      taken_before = i.taken_before ∙ ap (λ (es : List Epoch). all_taken es) (sym p);
      taken = i.taken ∙ ap (λ (e : Epoch). taken_of e) (sym q);
      open_ = i.open_;
    }

-- both lists begin a new epoch
renewed_written : (x : Role) (d : ℕ) (b : Book) (g g' : Leg) → g'.before ≡ g.epoch ∷ g.before → g'.epoch ≡ empty_epoch → HasRecord x d g b → Writes x d b (renews x d b) (Some g')
renewed_written x d b g g' p q h = changed_written x d with_epoch b g g' renewed h
  where
    renewed : (r : RecordValue) → IsRecordOf g r → IsRecordOf g' (with_epoch r)
    renewed r i = record {
      sent_before = ap₂ (λ (es : List SentEpoch) (e : SentEpoch). es ++ e ∷ []) i.sent_before i.sent ∙ ap (λ (es : List Epoch). all_sent es) (sym p);
      sent = ap (λ (e : Epoch). sent_of e) (sym q);
      taken_before = ap₂ (λ (es : List TakenEpoch) (e : TakenEpoch). es ++ e ∷ []) i.taken_before i.taken ∙ ap (λ (es : List Epoch). all_taken es) (sym p);
      taken = ap (λ (e : Epoch). taken_of e) (sym q);
      open_ = i.open_;
    }

-- a new record is that of a leg on which nothing was done
new_written : (x : Role) (d : ℕ) (number node : ℕ) (own far : Option (List ℕ)) (caller : Option ℕ) (z : Slot) (b : Book) (g : Leg) → IsSlot x d b → z.present ≡ Some (length b.records) → g.before ≡ [] → g.epoch ≡ empty_epoch
    → Writes x d b (with_slot x d z (with_record (new_record number node own far caller) b)) (Some g)
new_written x d number node own far caller z b g is e p q = record {
  touches = touches_new x d (new_record number node own far caller) z b e;
  has = has_new x d (new_record number node own far caller) z b g is.least is.most e (record {
    sent_before = ap (λ (es : List Epoch). all_sent es) (sym p);
    sent = ap (λ (u : Epoch). sent_of u) (sym q);
    taken_before = ap (λ (es : List Epoch). all_taken es) (sym p);
    taken = ap (λ (u : Epoch). taken_of u) (sym q);
    open_ = refl;
  });
}

came_written : (x : Role) (d : ℕ) (parts : CallParts) (b : Book) (g : Leg) → IsSlot x d b → g.before ≡ [] → g.epoch ≡ empty_epoch → Writes x d b (comes x d parts b) (Some g)
came_written x d parts b g is p q = new_written x d _ _ _ _ _ _ b g is refl p q

pub placed_written : (x : Role) (d : ℕ) (calling called : List ℕ) (b : Book) (g : Leg) → IsSlot x d b → g.before ≡ [] → g.epoch ≡ empty_epoch → Writes x d b (places_from x d calling called b) (Some g)
placed_written x d calling called b g is p q = new_written x d _ _ _ _ _ _ b g is refl p q

slot_still : (x : Role) (d : ℕ) (b b' : Book) → Touches x d b b' → IsSlot x d b → IsSlot x d b'
slot_still x d b b' t is = record { least = is.least; most = subst (λ (n : ℕ). d ≤ n) (sym (t.size x)) is.most }

written_then : (x : Role) (d : ℕ) (a b c : Book) (o p : Option Leg) → Writes x d a b o → Writes x d b c p → Writes x d a c p
written_then x d a b c o p s t = record { touches = touches_then x d a b c s.touches t.touches; has = t.has }

-- ---- what comes

-- a step with its notes
abbrev pub Tells : Role → ℕ → Step → Epoch → Leg → Book → Type 0
Tells x d st e g b = Writes x d b (all_told x st.notes b) (leg_if (had_call st.channel.state) (stepped st e g))

abbrev Before : Role → ℕ → Leg → Book → Type 0
Before x d g b = Has x d (leg_if (had_call g.channel.state) g) b

-- no more are covered than were sent
counted_all : (all count n : ℕ) → count + n ≤ all → counted all count n ≡ count + n
counted_all all count n h = ap (λ (v : Bool). cond v (count + n) count) (le-leb (count + n) all h)

covered_written : (x : Role) (d n : ℕ) (u : Traffic) (v : Bool) (b : Book) (g g' : Leg) → (n == 0) ≡ v → NamesCounts g.flow u (record g.epoch { covered = g.epoch.covered + n }) → g'.before ≡ g.before
    → g'.epoch ≡ record g.epoch { covered = g.epoch.covered + n } → HasRecord x d g b → Writes x d b (all_told x (cond v [] (Covered d n ∷ [])) b) (Some g')
covered_written x d n u true b g g' z k p q h =
    let none : n ≡ 0 = eqb-true n 0 z in
    let same : g.epoch.covered + n ≡ g.epoch.covered = omega arith in
    same_written x d b g g' p (q ∙ ap (λ (m : ℕ). record g.epoch { covered = m }) same) h
covered_written x d n u false b g g' z k p q h = changed_written x d (with_covered n) b g g' grows h
  where
    within : g.epoch.covered + n ≤ length g.epoch.sent
    within = covered_within g.flow u (record g.epoch { covered = g.epoch.covered + n }) k

    grows : (r : RecordValue) → IsRecordOf g r → IsRecordOf g' (with_covered n r)
    grows r i = record {
      sent_before = i.sent_before ∙ ap (λ (es : List Epoch). all_sent es) (sym p);
      sent =
          ap (λ (s : SentEpoch). record s { covered = counted (length s.packets) s.covered n }) i.sent
          ∙ (ap (λ (m : ℕ). record (sent_of g.epoch) { covered = m }) (counted_all (length g.epoch.sent) g.epoch.covered n within) ∙ ap (λ (e : Epoch). sent_of e) (sym q));
      taken_before = i.taken_before ∙ ap (λ (es : List Epoch). all_taken es) (sym p);
      taken = i.taken ∙ ap (λ (e : Epoch). taken_of e) (sym q);
      open_ = i.open_;
    }

heard_written : (x : Role) (c : ℕ) (h : Heard) (p : Body) (b : Book) (g : Leg) → had_call g.channel.state ≡ true → NamesAfter g.flow h g.channel.traffic g.epoch p → HasRecord x c g b
    → Tells x c (after_heard g.role c g.channel h) (logged_heard h g.epoch) g b
heard_written x c (Keeps n u) p b g call k r =
    subst (λ (v : Bool). Writes x c b (all_told x (cond (n == 0) [] (Covered c n ∷ [])) b) (leg_if v (stepped (after_heard g.role c g.channel (Keeps n u)) (logged_heard (Keeps n u) g.epoch) g))) (sym call)
    (covered_written x c n u (n == 0) b g _ refl k.0 refl refl r)
heard_written x c (Confirms u) p b g call k r =
    subst (λ (v : Bool). Writes x c b b (leg_if v (stepped (after_heard g.role c g.channel (Confirms u)) g.epoch g))) (sym call) (same_written x c b g _ refl refl r)
heard_written x c (Wrong d) p b g call k r =
    subst (λ (v : Bool). Writes x c b (renews x c b) (leg_if v (stepped (after_heard g.role c g.channel (Wrong d)) g.epoch g))) (sym call) (renewed_written x c b g _ refl refl r)

abbrev Comes : Role → ℕ → Body → Book → Leg → Type 0
Comes x c p b g = IsCallLeg g → Before x c g b
    → Tells x c (received g.role g.flow c g.channel p) (heard_epoch g.channel.state g.channel.resetting (hears_in g.flow g.channel.traffic p) g.epoch) g b

in_flow : (x : Role) (c : ℕ) (p : Body) (b : Book) (g : Leg) → IsCallLeg (leg_in Transfer false g) → HasRecord x c (leg_in Transfer false g) b
    → Tells x c (after_heard g.role c (leg_in Transfer false g).channel (hears_in g.flow g.channel.traffic p)) (logged_heard (hears_in g.flow g.channel.traffic p) g.epoch) (leg_in Transfer false g) b
in_flow x c p b g i r = heard_written x c (hears_in g.flow g.channel.traffic p) p b (leg_in Transfer false g) refl (counts_hold.heard g.flow (window_below _ i.leg.flow) g.channel.traffic g.epoch p i.leg.counts) r

d1 : (x : Role) (c : ℕ) (p : Body) (b : Book) (g : Leg) → Comes x c p b (leg_in Transfer false g)
d1 x c (Clear cause diagnostic) b g i r = closed_written x c b
d1 x c (Reset cause diagnostic) b g i r = renewed_written x c b (leg_in Transfer false g) _ refl refl r
d1 x c ResetConfirmation b g i r = renewed_written x c b (leg_in Transfer false g) _ refl refl r
d1 x c (Data send receive d) b g i r = in_flow x c (Data send receive d) b g i r
d1 x c (ReceiveReady receive) b g i r = in_flow x c (ReceiveReady receive) b g i r
d1 x c (ReceiveNotReady receive) b g i r = in_flow x c (ReceiveNotReady receive) b g i r
d1 x c (Interrupt octets) b g i r = in_flow x c (Interrupt octets) b g i r
d1 x c InterruptConfirmation b g i r = in_flow x c InterruptConfirmation b g i r
d1 x c p b g i r = closed_written x c b

own_reset : (x : Role) (c : ℕ) (p : Body) (b : Book) (g : Leg) → Comes x c p b (leg_in Transfer true g)
own_reset x c (Reset cause diagnostic) b g i r = same_written x c b (leg_in Transfer true g) _ refl refl r
own_reset x c ResetConfirmation b g i r = same_written x c b (leg_in Transfer true g) _ refl refl r
own_reset x c (Data send receive d) b g i r = same_written x c b (leg_in Transfer true g) _ refl refl r
own_reset x c (ReceiveReady receive) b g i r = same_written x c b (leg_in Transfer true g) _ refl refl r
own_reset x c (ReceiveNotReady receive) b g i r = same_written x c b (leg_in Transfer true g) _ refl refl r
own_reset x c (Interrupt octets) b g i r = same_written x c b (leg_in Transfer true g) _ refl refl r
own_reset x c InterruptConfirmation b g i r = same_written x c b (leg_in Transfer true g) _ refl refl r
own_reset x c p b g i r = closed_written x c b

ready : (rs : Bool) (x : Role) (c : ℕ) (p : Body) (b : Book) (g : Leg) → IsSlot x c b → Comes x c p b (leg_in Ready rs g)
ready rs x c (Call parts) b g is i r = let a = i.start refl in came_written x c parts b _ is a.before a.epoch
ready rs x c p b g is i r = nothing_written x c b None r

own_waiting : (role : Role) (rs : Bool) (x : Role) (c : ℕ) (p : Body) (b : Book) (g : Leg) → IsSlot x c b → Comes x c p b (record (leg_in OwnWaiting rs g) { role = role })
own_waiting role rs x c Accepted b g is i r = same_written x c b (record (leg_in OwnWaiting rs g) { role = role }) _ refl refl r
own_waiting Dte rs x c (Call parts) b g is i r = same_written x c b (record (leg_in OwnWaiting rs g) { role = Dte }) _ refl refl r
own_waiting Dce rs x c (Call parts) b g is i r =
    let a = i.start refl in
    let z = closed_written x c b in
    written_then x c b (closes x c b) (comes x c parts (closes x c b)) None _ z (came_written x c parts (closes x c b) _ (slot_still x c b (closes x c b) z.touches is) a.before a.epoch)
own_waiting role rs x c p b g is i r = closed_written x c b

far_waiting : (rs : Bool) (x : Role) (c : ℕ) (p : Body) (b : Book) (g : Leg) → Comes x c p b (leg_in FarWaiting rs g)
far_waiting rs x c (Clear cause diagnostic) b g i r = closed_written x c b
far_waiting rs x c p b g i r = closed_written x c b

collision : (role : Role) (rs : Bool) (x : Role) (c : ℕ) (p : Body) (b : Book) (g : Leg) → Comes x c p b (record (leg_in Collision rs g) { role = role })
collision Dte rs x c Accepted b g i r = same_written x c b (record (leg_in Collision rs g) { role = Dte }) _ refl refl r
collision Dte rs x c (Clear cause diagnostic) b g i r = closed_written x c b
collision Dce rs x c (Clear cause diagnostic) b g i r = closed_written x c b
collision role rs x c p b g i r = closed_written x c b

own_clear : (rs : Bool) (x : Role) (c : ℕ) (p : Body) (b : Book) (g : Leg) → Comes x c p b (leg_in OwnClear rs g)
own_clear rs x c (Clear cause diagnostic) b g i r = nothing_written x c b None r
own_clear rs x c ClearConfirmation b g i r = nothing_written x c b None r
own_clear rs x c p b g i r = nothing_written x c b None r

comes_in : (s : ChannelState) (rs : Bool) (x : Role) (c : ℕ) (p : Body) (b : Book) (g : Leg) → IsSlot x c b → Comes x c p b (leg_in s rs g)
comes_in Ready rs x c p b g is i r = ready rs x c p b g is i r
comes_in OwnWaiting rs x c p b g is i r = own_waiting g.role rs x c p b g is i r
comes_in FarWaiting rs x c p b g is i r = far_waiting rs x c p b g i r
comes_in Transfer true x c p b g is i r = own_reset x c p b g i r
comes_in Transfer false x c p b g is i r = d1 x c p b g i r
comes_in Collision rs x c p b g is i r = collision g.role rs x c p b g i r
comes_in OwnClear rs x c p b g is i r = own_clear rs x c p b g i r

pub comes_written : (x : Role) (c : ℕ) (p : Body) (b : Book) (g : Leg) → IsSlot x c b → Comes x c p b g
comes_written x c p b g is i r = comes_in g.channel.state g.channel.resetting x c p b g is i r

-- ---- what cannot be read, and a timer that runs out

abbrev CannotRead : Role → ℕ → Bool → Book → Leg → Type 0
CannotRead x c unknown b g = Before x c g b → Tells x c (unreadable g.role c unknown g.channel) g.epoch g b

cannot_read_in : (s : ChannelState) (rs : Bool) (x : Role) (c : ℕ) (unknown : Bool) (b : Book) (g : Leg) → CannotRead x c unknown b (leg_in s rs g)
cannot_read_in Ready rs x c unknown b g r = nothing_written x c b None r
cannot_read_in OwnClear rs x c unknown b g r = nothing_written x c b None r
cannot_read_in Transfer true x c unknown b g r = closed_written x c b
cannot_read_in Transfer false x c unknown b g r = renewed_written x c b (leg_in Transfer false g) _ refl refl r
cannot_read_in s rs x c unknown b g r = closed_written x c b

pub unreadable_written : (x : Role) (c : ℕ) (unknown : Bool) (b : Book) (g : Leg) → CannotRead x c unknown b g
unreadable_written x c unknown b g r = cannot_read_in g.channel.state g.channel.resetting x c unknown b g r

pub cleared_written : (x : Role) (c diagnostic : ℕ) (b : Book) (g : Leg) → Tells x c (clear_error g.role c diagnostic true g.channel) g.epoch g b
cleared_written x c diagnostic b g = closed_written x c b

-- ---- what is asked

abbrev pub Asked : Role → ℕ → Request → Book → Leg → Type 0
Asked x c q b g = Writes x c b (unless_refused (refusal g.role g.flow g.channel q) (request_writes x c q (Some g.channel) b) b) (leg_if (had_call (asked q g).channel.state) (asked q g))

call_there : (s : ChannelState) → in_transfer s ≡ true → had_call s ≡ true
call_there Transfer e = refl
call_there Ready e = absurd (true≢false (sym e))
call_there OwnWaiting e = absurd (true≢false (sym e))
call_there FarWaiting e = absurd (true≢false (sym e))
call_there Collision e = absurd (true≢false (sym e))
call_there OwnClear e = absurd (true≢false (sym e))

acceptable : (role : Role) (s : ChannelState) → may_accept role s ≡ true → had_call s ≡ true
acceptable role FarWaiting e = refl
acceptable Dce Collision e = refl
acceptable Dte Collision e = refl
acceptable role OwnWaiting e = refl
acceptable role Transfer e = refl
acceptable Dte Ready e = absurd (true≢false (sym e))
acceptable Dce Ready e = absurd (true≢false (sym e))
acceptable Dte OwnClear e = absurd (true≢false (sym e))
acceptable Dce OwnClear e = absurd (true≢false (sym e))

-- not refused
abbrev Done : Role → ℕ → Request → Book → Leg → Type 0
Done x c q b g = Writes x c b (request_writes x c q (Some g.channel) b) (leg_if (had_call (asked_unless None q g).channel.state) (asked_unless None q g))

sent_grows : (d : Datum) (g g' : Leg) → g'.before ≡ g.before → g'.epoch ≡ record g.epoch { sent = g.epoch.sent ++ d ∷ [] } → (r : RecordValue) → IsRecordOf g r → IsRecordOf g' (with_sent d r)
sent_grows d g g' p q r i = record {
  sent_before = i.sent_before ∙ ap (λ (es : List Epoch). all_sent es) (sym p);
  sent = ap (λ (s : SentEpoch). record s { packets = s.packets ++ d ∷ [] }) i.sent ∙ ap (λ (e : Epoch). sent_of e) (sym q);
  taken_before = i.taken_before ∙ ap (λ (es : List Epoch). all_taken es) (sym p);
  taken = i.taken ∙ ap (λ (e : Epoch). taken_of e) (sym q);
  open_ = i.open_;
}

interrupt_grows : (o : List ℕ) (g g' : Leg) → g'.before ≡ g.before → g'.epoch ≡ record g.epoch { interrupts_sent = g.epoch.interrupts_sent ++ o ∷ [] } → (r : RecordValue) → IsRecordOf g r → IsRecordOf g' (with_interrupt_sent o r)
interrupt_grows o g g' p q r i = record {
  sent_before = i.sent_before ∙ ap (λ (es : List Epoch). all_sent es) (sym p);
  sent = ap (λ (s : SentEpoch). record s { interrupts = s.interrupts ++ o ∷ [] }) i.sent ∙ ap (λ (e : Epoch). sent_of e) (sym q);
  taken_before = i.taken_before ∙ ap (λ (es : List Epoch). all_taken es) (sym p);
  taken = i.taken ∙ ap (λ (e : Epoch). taken_of e) (sym q);
  open_ = i.open_;
}

taken_grows : (d : Datum) (g g' : Leg) → g'.before ≡ g.before → g'.epoch ≡ record g.epoch { taken = g.epoch.taken ++ d ∷ [] } → (r : RecordValue) → IsRecordOf g r → IsRecordOf g' (with_taken d r)
taken_grows d g g' p q r i = record {
  sent_before = i.sent_before ∙ ap (λ (es : List Epoch). all_sent es) (sym p);
  sent = i.sent ∙ ap (λ (e : Epoch). sent_of e) (sym q);
  taken_before = i.taken_before ∙ ap (λ (es : List Epoch). all_taken es) (sym p);
  taken = ap (λ (s : TakenEpoch). record s { packets = s.packets ++ d ∷ [] }) i.taken ∙ ap (λ (e : Epoch). taken_of e) (sym q);
  open_ = i.open_;
}

took_grows : (o : List ℕ) (g g' : Leg) → g'.before ≡ g.before → g'.epoch ≡ record g.epoch { interrupts_taken = g.epoch.interrupts_taken ++ o ∷ [] } → (r : RecordValue) → IsRecordOf g r → IsRecordOf g' (with_interrupt_taken o r)
took_grows o g g' p q r i = record {
  sent_before = i.sent_before ∙ ap (λ (es : List Epoch). all_sent es) (sym p);
  sent = i.sent ∙ ap (λ (e : Epoch). sent_of e) (sym q);
  taken_before = i.taken_before ∙ ap (λ (es : List Epoch). all_taken es) (sym p);
  taken = ap (λ (s : TakenEpoch). record s { interrupts = s.interrupts ++ o ∷ [] }) i.taken ∙ ap (λ (e : Epoch). taken_of e) (sym q);
  open_ = i.open_;
}

-- what is taken, by what waits first
takes_written : (x : Role) (c : ℕ) (o : Option Taken) (b : Book) (g g' : Leg) → g'.before ≡ g.before → g'.epoch ≡ epoch_with_taken o g.epoch → HasRecord x c g b → Writes x c b (takes x c o b) (Some g')
takes_written x c None b g g' p q h = same_written x c b g g' p q h
takes_written x c (Some (TakenInterrupt o)) b g g' p q h = changed_written x c (with_interrupt_taken o) b g g' (took_grows o g g' p q) h
takes_written x c (Some (TakenPacket d)) b g g' p q h = changed_written x c (with_taken d) b g g' (taken_grows d g g' p q) h

releases_written : (x : Role) (c n : ℕ) (v : Bool) (b : Book) (g g' : Leg) → may_release n g.channel.traffic ≡ v → IsLeg g → g'.before ≡ g.before
    → g'.epoch ≡ cond v (record g.epoch { released = g.epoch.released + n }) g.epoch → HasRecord x c g b → Writes x c b (cond v (releases x c n b) b) (Some g')
releases_written x c n false b g g' e i p q h = same_written x c b g g' p q h
releases_written x c n true b g g' e i p q h = changed_written x c (with_released n) b g g' grows h
  where
    within : g.epoch.released + n ≤ length g.epoch.taken
    within =
        let k = (counts_hold.asked g.flow (window_below _ i.flow) g.channel.traffic g.epoch (Releasing n) i.counts).released_taken in
        subst (λ (v : Bool). (cond v (record g.epoch { released = g.epoch.released + n }) g.epoch).released ≤ length (cond v (record g.epoch { released = g.epoch.released + n }) g.epoch).taken) e k

    grows : (r : RecordValue) → IsRecordOf g r → IsRecordOf g' (with_released n r)
    grows r j = record {
      sent_before = j.sent_before ∙ ap (λ (es : List Epoch). all_sent es) (sym p);
      sent = j.sent ∙ ap (λ (e : Epoch). sent_of e) (sym q);
      taken_before = j.taken_before ∙ ap (λ (es : List Epoch). all_taken es) (sym p);
      taken =
          ap (λ (s : TakenEpoch). record s { released = counted (length s.packets) s.released n }) j.taken
          ∙ (ap (λ (m : ℕ). record (taken_of g.epoch) { released = m }) (counted_all (length g.epoch.taken) g.epoch.released n within) ∙ ap (λ (e : Epoch). taken_of e) (sym q));
      open_ = j.open_;
    }

-- in a call, of which the record is there
in_call : (x : Role) (c : ℕ) (b : Book) (g : Leg) → had_call g.channel.state ≡ true → Before x c g b → HasRecord x c g b
in_call x c b g e r = subst (λ (v : Bool). Has x c (leg_if v g) b) e r

call_after : (x : Role) (c : ℕ) (b b' : Book) (v : Bool) (g : Leg) → v ≡ true → Writes x c b b' (Some g) → Writes x c b b' (leg_if v g)
call_after x c b b' v g e w = subst (λ (u : Bool). Writes x c b b' (leg_if u g)) (sym e) w

transfers : (g : Leg) (o : Option Refusal) → refused_if (not (in_transfer g.channel.state)) Refusal.NoCall o ≡ None → had_call g.channel.state ≡ true
transfers g o e = call_there g.channel.state (not_false _ (not_refused (not (in_transfer g.channel.state)) _ _ e).0)

done : (x : Role) (c : ℕ) (q : Request) (b : Book) (g : Leg) → MayAsk q → refusal g.role g.flow g.channel q ≡ None → IsCallLeg g → Before x c g b → Done x c q b g
done x c Accept b g m e i r =
    let a = acceptable g.role g.channel.state (not_false _ (not_refused (not (may_accept g.role g.channel.state)) _ _ e).0) in
    record { touches = touches_answered x c b; has = has_same x c (answers x c b) g (asked_unless None Accept g) (λ s j. record { sent_before = j.sent_before; sent = j.sent; taken_before = j.taken_before; taken = j.taken; open_ = j.open_ }) (has_answered x c b g (in_call x c b g a r)) }
done x c (Clearing cause diagnostic) b g m e i r = closed_written x c b
done x c (Resetting cause diagnostic) b g m e i r =
    let t = transfers g _ e in call_after x c b (renews x c b) _ _ t (renewed_written x c b g (asked_unless None (Resetting cause diagnostic) g) refl refl (in_call x c b g t r))
done x c (Sending d) b g m e i r = let t = transfers g _ e in call_after x c b _ _ _ t (changed_written x c (with_sent d) b g (asked_unless None (Sending d) g) (sent_grows d g _ refl refl) (in_call x c b g t r))
done x c (Interrupting o) b g m e i r = let t = transfers g _ e in call_after x c b _ _ _ t (changed_written x c (with_interrupt_sent o) b g (asked_unless None (Interrupting o) g) (interrupt_grows o g _ refl refl) (in_call x c b g t r))
done x c (Stopping v) b g m e i r = absurd m
done x c Taking b g m e i r = let t = transfers g _ e in call_after x c b _ _ _ t (takes_written x c (front g.channel.traffic) b g (asked_unless None Taking g) refl refl (in_call x c b g t r))
done x c (Releasing n) b g m e i r =
    let t = transfers g _ e in call_after x c b _ _ _ t (releases_written x c n (may_release n g.channel.traffic) b g (asked_unless None (Releasing n) g) refl i.leg refl refl (in_call x c b g t r))
done x c Confirming b g m e i r = let t = transfers g _ e in call_after x c b _ _ _ t (same_written x c b g (asked_unless None Confirming g) refl refl (in_call x c b g t r))

by_refusal : (x : Role) (c : ℕ) (q : Request) (b : Book) (g : Leg) (o : Option Refusal) → refusal g.role g.flow g.channel q ≡ o → MayAsk q → IsCallLeg g → Before x c g b
    → Writes x c b (unless_refused o (request_writes x c q (Some g.channel) b) b) (leg_if (had_call (asked_unless o q g).channel.state) (asked_unless o q g))
by_refusal x c q b g None e m i r = done x c q b g m e i r
by_refusal x c q b g (Some f) e m i r = nothing_written x c b _ r

pub asked_written : (x : Role) (c : ℕ) (q : Request) (b : Book) (g : Leg) → MayAsk q → IsCallLeg g → Before x c g b → Asked x c q b g
asked_written x c q b g m i r = by_refusal x c q b g (refusal g.role g.flow g.channel q) refl m i r
