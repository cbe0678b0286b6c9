-- What a packet layer tells, from its definitions.
use Rattle.std.proofs.Common.{◌≡◌, ◌≢◌, ℕ, zero, suc, ◌+◌, ◌<◌, ◌≤◌, arith, Bool, true, false, ◌&&◌, ◌||◌, ◌==◌, nat_le, nat_lt, List, [], ◌∷◌, Option, Some, None, if◌then◌else◌, refl, sym, ap, subst, ◌∙◌}
use Rattle.std.specs.Prelude.{slice_get}
use Rattle.std.proofs.lemmas.Bool.{le-leb, lt-leb, lt-ltb, le-ltb, eq-eqb, ne_eqb, and_left, and_right, true≢false}
use Rattle.std.proofs.lemmas.Option.{none-some, same_Some}
use Rattle.link_timers.specs.declared.role.Role.{Role}
use Rattle.packet_codec.specs.Diagnostic.{no_information, invalid_send_number, invalid_receive_number}
use Rattle.data_transfer.specs.declared.flow.Flow.{Flow}
use Rattle.data_transfer.specs.Flow.{shown, ahead_shown}
use Rattle.data_transfer.specs.Packets.{Datum, Body, Note, Reason}
use Rattle.data_transfer.specs.Packets.Body.{Data, Interrupt, InterruptConfirmation, ReceiveReady, ReceiveNotReady}
use Rattle.data_transfer.specs.Packets.Note.{Covered}
use Rattle.data_transfer.specs.Packets.Reason.{LocalFault}
use Rattle.data_transfer.specs.Traffic.{Traffic, Heard, in_flight, unreleased, interrupted, hears, covers, covering, keeps, arrives, partner_says}
use Rattle.packet_channel.specs.Channel.{Channel, Step, had_call, after_heard, covered_note, in_transfer, waits_for_call, clear_error}
use Rattle.packet_layer.specs.Layer.{Phase, Layer, Timer, channel_of, closing_notes, runs_at, unread, expired, on_found, on_timer, runs}
use Rattle.packet_layer.specs.Layer.Phase.{NoSession, OwnRestart, PacketReady}
use Rattle.packet_layer.specs.Layer.Timer.{RestartTimer, CallTimer, ResetTimer, ClearTimer}
use Rattle.packet_laws.specs.Tables.Notes.{TellsReset, TellsCovered, TellsNumber, TellsData, TellsInterrupt, TellsConfirmation, TellsTransfer, closing, TellsClosing, SessionNotes, TellsExpiry, ExpiryNotes}

-- ---- data transfer

none_noted : (c n : ℕ) → n ≡ 0 → covered_note c n ≡ []
none_noted c n none = ap (λ (b : Bool). if b then [] else Covered c n ∷ []) (eq-eqb n 0 none)

some_noted : (c n : ℕ) → 0 < n → covered_note c n ≡ Covered c n ∷ []
some_noted c n some =
    let apart : n ≢ 0 = omega arith in
    ap (λ (b : Bool). if b then [] else Covered c n ∷ []) (ne_eqb n 0 apart)

-- what is kept of a packet changes nothing of what its P(R) covers
module _ (role : Role) (flow : Flow) (c receive : ℕ) (ch : Channel) (f : Traffic → Traffic)
    (same : (n : ℕ) → (f (covering n ch.traffic)).covered ≡ (covering n ch.traffic).covered) where
  abbrev n : ℕ
  n = ahead_shown flow.numbering ch.traffic.covered receive

  abbrev heard_by : Bool → Step
  heard_by b = after_heard role c ch (keeps f
      (if b then Heard.Keeps n (covering n ch.traffic) else Heard.Wrong invalid_receive_number))

  number_tells : TellsNumber flow c receive ch.traffic (after_heard role c ch (keeps f (covers flow receive ch.traffic)))
  number_tells = record {
    valid = λ within.
        subst (λ (b : Bool). TellsCovered c n ch.traffic (heard_by b)) (sym (le-leb n (in_flight ch.traffic) within))
        (record { counted = same n; none = none_noted c n; some = some_noted c n });
    wrong = λ beyond.
        subst (λ (b : Bool). TellsReset c invalid_receive_number (heard_by b))
        (sym (lt-leb n (in_flight ch.traffic) beyond)) refl;
  }

module _ (role : Role) (flow : Flow) (c send receive : ℕ) (d : Datum) (ch : Channel) where
  abbrev data_by : Bool → Step
  data_by b = after_heard role c ch
      (if b then keeps (λ u. arrives d u) (covers flow receive ch.traffic) else Heard.Wrong invalid_send_number)

  abbrev is_expected : Bool
  is_expected = send == shown flow.numbering ch.traffic.receive_number

  abbrev has_room : Bool
  has_room = nat_lt (unreleased ch.traffic) flow.window

  data_tells : TellsData flow c send receive ch.traffic (after_heard role c ch (hears flow ch.traffic (Data send receive d)))
  data_tells = record {
    expected = λ is room.
        let both : (is_expected && has_room) ≡ true =
        ap (λ (b : Bool). b && has_room) (eq-eqb send (shown flow.numbering ch.traffic.receive_number) is)
        ∙ lt-ltb (unreleased ch.traffic) flow.window room in
        subst (λ (b : Bool). TellsNumber flow c receive ch.traffic (data_by b)) (sym both)
        (number_tells role flow c receive ch (λ u. arrives d u) (λ n. refl));
    unexpected = λ apart.
        subst (λ (b : Bool). TellsReset c invalid_send_number (data_by b))
        (sym (and_left is_expected has_room (ne_eqb send (shown flow.numbering ch.traffic.receive_number) apart))) refl;
    full = λ full.
        subst (λ (b : Bool). TellsReset c invalid_send_number (data_by b))
        (sym (and_right is_expected has_room (le-ltb (unreleased ch.traffic) flow.window full))) refl;
  }

interrupt_tells : (role : Role) (flow : Flow) (c : ℕ) (octets : List ℕ) (ch : Channel) →
    TellsInterrupt c ch.traffic (after_heard role c ch (hears flow ch.traffic (Interrupt octets)))
interrupt_tells role flow c octets ch = record {
  first = λ none. ap (λ (b : Bool). (by b).notes) none;
  second = λ some. ap (λ (b : Bool). (by b).notes) some;
}
  where
    by : Bool → Step
    by b = after_heard role c ch
        (if b then Heard.Wrong no_information
        else Heard.Keeps 0 (record ch.traffic { interrupt_arrived = Some octets }))

confirmation_tells : (role : Role) (flow : Flow) (c : ℕ) (ch : Channel) →
    TellsConfirmation c ch.traffic (after_heard role c ch (hears flow ch.traffic InterruptConfirmation))
confirmation_tells role flow c ch = record {
  waited = λ some. ap (λ (b : Bool). (by b).notes) some;
  unasked = λ none. ap (λ (b : Bool). (by b).notes) none;
}
  where
    by : Bool → Step
    by b = after_heard role c ch
        (if b then Heard.Confirms (record ch.traffic { interrupt_unconfirmed = false })
        else Heard.Wrong no_information)

pub transfer_tells : (role : Role) (flow : Flow) (c : ℕ) (ch : Channel) (body : Body) →
    TellsTransfer flow c ch.traffic body (after_heard role c ch (hears flow ch.traffic body))
transfer_tells role flow c ch (Data send receive d) = data_tells role flow c send receive d ch
transfer_tells role flow c ch (ReceiveReady receive) =
    number_tells role flow c receive ch (λ u. partner_says false u) (λ n. refl)
transfer_tells role flow c ch (ReceiveNotReady receive) =
    number_tells role flow c receive ch (λ u. partner_says true u) (λ n. refl)
transfer_tells role flow c ch (Interrupt octets) = interrupt_tells role flow c octets ch
transfer_tells role flow c ch InterruptConfirmation = confirmation_tells role flow c ch
transfer_tells role flow c ch _ = tt

-- ---- all calls close

none_close : (reason : Reason) (c : ℕ) → TellsClosing reason c [] []
none_close reason c = record {
  each = λ place ch there. absurd (none-some ch there);
  only = λ k note there. absurd (none-some note there);
  rises = λ j k a b less first. absurd (none-some (closing a reason) first);
}

-- a channel in front that has no call
passed : (reason : Reason) (c : ℕ) (ch : Channel) (chs : List Channel) (notes : List Note) → had_call ch.state ≡ false →
    TellsClosing reason (suc c) chs notes → TellsClosing reason c (ch ∷ chs) notes
passed reason c ch chs notes none rest = record {
  each = each;
  only = λ k note there. next (rest.only k note there);
  rises = rest.rises;
}
  where
    each : (place : ℕ) (x : Channel) → slice_get (ch ∷ chs) place ≡ Some x → had_call x.state ≡ true →
        (k : ℕ) × (slice_get notes k ≡ Some (closing (c + place) reason))
    each zero x there some =
        absurd (true≢false (sym some ∙ (ap (λ (y : Channel). had_call y.state) (sym (same_Some ch x there)) ∙ none)))
    each (suc place) x there some =
        let found = rest.each place x there some in
        let at : suc c + place ≡ c + suc place = omega arith in
        (found.0, found.1 ∙ ap (λ (n : ℕ). Some (closing n reason)) at)

    next : {note : Note} → ((place : ℕ) × (x : Channel) × (slice_get chs place ≡ Some x) × (had_call x.state ≡ true)
        × (note ≡ closing (suc c + place) reason))
        → (place : ℕ) × (x : Channel) × (slice_get (ch ∷ chs) place ≡ Some x) × (had_call x.state ≡ true)
        × (note ≡ closing (c + place) reason)
    next (place, x, there, some, is) =
        let at : suc c + place ≡ c + suc place = omega arith in
        (suc place, x, there, some, is ∙ ap (λ (n : ℕ). closing n reason) at)

-- one that has a call
told : (reason : Reason) (c : ℕ) (ch : Channel) (chs : List Channel) (notes : List Note) → had_call ch.state ≡ true →
    TellsClosing reason (suc c) chs notes → TellsClosing reason c (ch ∷ chs) (closing c reason ∷ notes)
told reason c ch chs notes some rest = record { each = each; only = only; rises = rises }
  where
    each : (place : ℕ) (x : Channel) → slice_get (ch ∷ chs) place ≡ Some x → had_call x.state ≡ true →
        (k : ℕ) × (slice_get (closing c reason ∷ notes) k ≡ Some (closing (c + place) reason))
    each zero x there some =
        let at : c ≡ c + 0 = omega arith in (0, ap (λ (n : ℕ). Some (closing n reason)) at)
    each (suc place) x there some =
        let found = rest.each place x there some in
        let at : suc c + place ≡ c + suc place = omega arith in
        (suc found.0, found.1 ∙ ap (λ (n : ℕ). Some (closing n reason)) at)

    only : (k : ℕ) (note : Note) → slice_get (closing c reason ∷ notes) k ≡ Some note →
        (place : ℕ) × (x : Channel) × (slice_get (ch ∷ chs) place ≡ Some x) × (had_call x.state ≡ true)
        × (note ≡ closing (c + place) reason)
    only zero note there =
        let at : c ≡ c + 0 = omega arith in
        (0, ch, refl, some, sym (same_Some (closing c reason) note there) ∙ ap (λ (n : ℕ). closing n reason) at)
    only (suc k) note there =
        let found = rest.only k note there in
        let at : suc c + found.0 ≡ c + suc found.0 = omega arith in
        (suc found.0, found.1, found.2, found.3, found.4 ∙ ap (λ (n : ℕ). closing n reason) at)

    same_number : (a b : ℕ) → closing a reason ≡ closing b reason → a ≡ b
    same_number a b e = cc

    rises : (j k a b : ℕ) → j < k → slice_get (closing c reason ∷ notes) j ≡ Some (closing a reason) →
        slice_get (closing c reason ∷ notes) k ≡ Some (closing b reason) → a < b
    rises j zero a b less first second = absurd (omega (arith, less))
    rises zero (suc k) a b less first second =
        let found = rest.only k (closing b reason) second in
        let one = same_number c a (same_Some (closing c reason) (closing a reason) first) in
        let other = same_number b (suc c + found.0) found.4 in
        omega (arith, one, other)
    rises (suc j) (suc k) a b less first second = rest.rises j k a b (omega (arith, less)) first second

pub closing_tells : (reason : Reason) (c : ℕ) (chs : List Channel) → TellsClosing reason c chs (closing_notes c reason chs)
closing_tells reason c [] = none_close reason c
closing_tells reason c (ch ∷ chs) = by (had_call ch.state) refl (closing_tells reason (suc c) chs)
  where
    by : (b : Bool) → had_call ch.state ≡ b → TellsClosing reason (suc c) chs (closing_notes (suc c) reason chs) →
        TellsClosing reason c (ch ∷ chs)
        (if b then closing c reason ∷ closing_notes (suc c) reason chs else closing_notes (suc c) reason chs)
    by true is rest = told reason c ch chs (closing_notes (suc c) reason chs) is rest
    by false is rest = passed reason c ch chs (closing_notes (suc c) reason chs) is rest

pub session_notes : SessionNotes
session_notes l = (closing_tells _ 1 l.channels, closing_tells _ 1 l.channels)

-- ---- an expiry

-- a timer of a channel runs only where there is the channel
on_there : (test : Channel → Bool) (phase : Phase) (found : Option Channel) → runs_at test phase found ≡ true →
    (ch : Channel) × (found ≡ Some ch)
on_there test PacketReady (Some ch) runs = (ch, refl)
on_there test PacketReady None runs = absurd (cc)
on_there test NoSession found runs = absurd (cc)
on_there test OwnRestart found runs = absurd (cc)

cleared_tells : (l : Layer) (c : ℕ) (ch : Channel) → channel_of l c ≡ Some ch →
    (on_found (unread l) c (λ x. clear_error l.role c no_information true x) (channel_of l c)).notes
    ≡ (clear_error l.role c no_information true ch).notes
cleared_tells l c ch there =
    ap (λ (o : Option Channel). (on_found (unread l) c (λ x. clear_error l.role c no_information true x) o).notes) there

expired_tells : (l : Layer) (t : Timer) → runs l t ≡ true → TellsExpiry l t (expired (unread l) t).notes
expired_tells l RestartTimer is = refl
expired_tells l (CallTimer c) is =
    let found = on_there (λ ch. waits_for_call l.role ch.state) l.phase (channel_of l c) is in
    cleared_tells l c found.0 found.1
expired_tells l (ResetTimer c) is =
    let found = on_there (λ ch. in_transfer ch.state && ch.resetting) l.phase (channel_of l c) is in
    cleared_tells l c found.0 found.1
expired_tells l (ClearTimer c) is = closing_tells LocalFault 1 l.channels

pub expiry_notes : ExpiryNotes
expiry_notes l t is =
    subst (λ (b : Bool). TellsExpiry l t (if b then expired (unread l) t else l).notes) (sym is) (expired_tells l t is)
