-- Each act at the end of a line writes in the records of its channels what it makes of their legs.
use Rattle.std.specs.Prelude.{◌≡◌, ◌≢◌, ℕ, zero, suc, ◌+◌, ◌≤◌, ◌⊎◌, Bool, true, false, cond, if◌then◌else◌, ◌==◌, List, map, Option, Some, None, is_some}
use Rattle.std.proofs.Common.{inl, inr, refl, sym, ap, ap₂, subst, ◌∙◌, arith, true≢false, option_map}
use Rattle.std.proofs.lemmas.Option.{none-some, same_Some}
use Rattle.std.proofs.lemmas.Bool.{eqb-true, eq-eqb}
use Rattle.link_timers.specs.declared.role.Role.{Role}
use Rattle.packet_codec.specs.Diagnostic.{no_information}
use Rattle.data_transfer.specs.Packets.{CallParts, Body, Packet, Received, Reason}
use Rattle.data_transfer.specs.Packets.Body.{Restart, RestartConfirmation}
use Rattle.data_transfer.specs.Packets.Received.{Whole, Unknown, Faulty}
use Rattle.packet_channel.specs.Channel.{ChannelState, Channel, Step, Request, Refusal, received, unreadable, clear_error, refusal, requested, carried_out, unless, owing, closed_channel, had_call, placing, is_free, is_ready}
use Rattle.packet_layer.specs.Layer.{Layer, Phase, Timer, nth_channel, channel_of, with_nth, on_found, on_channel, on_received, on_timer, expired, restart_packet, unread, runs, link_up, link_down, request, request_refusal, refusal_at, placed_on as layer_placed_on, channel_given, next_packet, closing_notes}
use Rattle.packet_layer.specs.Layer.Phase.{NoSession, OwnRestart, PacketReady}
use Rattle.packet_layer.specs.Layer.Timer.{RestartTimer, CallTimer, ResetTimer, ClearTimer}
use Rattle.packet_laws.specs.History.{Epoch, logged}
use Rattle.packet_laws.proofs.Call.Saying.{by_cond, and_parts}
use Rattle.packet_laws.proofs.Line.Lines.{nth_same, nth_other}
use Rattle.packet_laws.proofs.Line.Outcomes.{free_is, given_ready}
use Rattle.call_records.specs.Book.{Book, slot_at, all_told}
use Rattle.call_records.specs.Carried.{unless_refused, placed_on}
use Rattle.record_laws.proofs.Books.Basics.{number_is}
use Rattle.record_laws.proofs.Books.Writing.{Closes, closes_all, closed_all}
use Rattle.switch_laws.specs.Leg.{Leg, asked, asked_unless, stepped, heard, misheard, gave}
use Rattle.switch_laws.specs.World.{Shown, shown_of, shown_as, Agrees, Act, MayHappen, MayAsk, layer_after, leg_after, closed, restarted, came_in, cleared_if, ran_out, is_channel, placed_if, gave_if}
use Rattle.switch_laws.specs.World.Act.{Asks, Comes, Expires, GoesUp, GoesDown, Calls, Gives, Reads}
use Rattle.switch_laws.proofs.Lists.{get_map}
use Rattle.switch_laws.proofs.Layers.{LineAgrees, seen, opened_shown, not_in_transfer}
use Rattle.switch_laws.proofs.Legs.{leg_gave}
use Rattle.switch_laws.proofs.Places.{line_there}
use Rattle.switched_call_laws.specs.SwitchRecords.Records.{sent_of, taken_of, all_sent, all_taken, leg_if, call_on, Has, AreRecords}
use Rattle.switched_call_laws.specs.SwitchRecords.Written.{request_writes, writes}
use Rattle.switched_call_laws.proofs.SwitchRecords.Cells.{apart_after, has_elsewhere, has_same}
use Rattle.switched_call_laws.proofs.SwitchRecords.Notes.{all_apart}
use Rattle.switched_call_laws.proofs.SwitchRecords.Steps.{Writes, IsSlot, comes_written, unreadable_written, cleared_written, asked_written, placed_written}
use Rattle.switch_joins.proofs.Apart.{decided}

-- ---- one channel

-- what is written on channel d, where the other channels and their legs are as before
at_channel : (x : Role) (l m : Layer) (d : ℕ) (legs legs' : ℕ → Leg) (b b' : Book) → ((c : ℕ) → is_some (channel_of m c) ≡ is_some (channel_of l c))
    → ((c : ℕ) → c ≢ d → (channel_of m c ≡ channel_of l c) × (legs' c ≡ legs c)) → Writes x d b b' (call_on (channel_of m d) (legs' d)) → AreRecords x l legs b → AreRecords x m legs' b'
at_channel x l m d legs legs' b b' there others w r = record {
  slots = λ c e. let s = r.slots c (sym (there c) ∙ e) in (s.0, subst (λ (n : ℕ). c ≤ n) (sym (w.touches.size x)) s.1);
  apart = apart_after x d b b' w.touches r.apart;
  has = λ c. elim (number_is c d) [
    | inl e ↦ subst (λ (k : ℕ). Has x k (call_on (channel_of m k) (legs' k)) b') (sym e) w.has
    | inr e ↦
        (let o = others c e in
        subst (λ (p : Option Leg). Has x c p b') (ap₂ (λ (q : Option Channel) (g : Leg). call_on q g) (sym o.0) (sym o.1))
        (has_elsewhere x d b b' x c (call_on (channel_of l c) (legs c)) w.touches r.apart (λ h. e h.1) (r.has c)))
  ];
}

-- the channels, the calls and their epochs are as before
same_lines : (x : Role) (l m : Layer) (legs legs' : ℕ → Leg) (b b' : Book) → b' ≡ b → ((c : ℕ) → channel_of m c ≡ channel_of l c) → ((c : ℕ) → legs' c ≡ legs c) → AreRecords x l legs b → AreRecords x m legs' b'
same_lines x l m legs legs' b b' e channels same r =
    subst (λ (y : Book). AreRecords x m legs' y) (sym e) (record {
      slots = λ c h. r.slots c (ap (λ (o : Option Channel). is_some o) (sym (channels c)) ∙ h);
      apart = r.apart;
      has = λ c. subst (λ (p : Option Leg). Has x c p b) (ap₂ (λ (q : Option Channel) (g : Leg). call_on q g) (sym (channels c)) (sym (same c))) (r.has c);
    })

-- a step of channel d, if there is one
pub stepped_on : (x : Role) (l : Layer) (d : ℕ) (step : Channel → Step) (found : Option Channel) (legs legs' : ℕ → Leg) (b b' : Book) → channel_of l d ≡ found → ((c : ℕ) → c ≢ d → legs' c ≡ legs c)
    → (found ≡ None → b' ≡ b)
    → ((ch : Channel) → found ≡ Some ch → IsSlot x d b → Has x d (leg_if (had_call ch.state) (legs d)) b → Writes x d b b' (leg_if (had_call (step ch).channel.state) (legs' d)))
    → AreRecords x l legs b → AreRecords x (on_found l d step found) legs' b'
stepped_on x l d step None legs legs' b b' e others none some r =
    subst (λ (y : Book). AreRecords x l legs' y) (sym (none refl)) (record {
      slots = r.slots;
      apart = r.apart;
      has = λ c. elim (number_is c d) [
        | inl h ↦
            subst (λ (k : ℕ). Has x k (call_on (channel_of l k) (legs' k)) b) (sym h)
            (subst (λ (o : Option Channel). Has x d (call_on o (legs' d)) b) (sym e) (subst (λ (o : Option Channel). Has x d (call_on o (legs d)) b) e (r.has d)))
        | inr h ↦ subst (λ (g : Leg). Has x c (call_on (channel_of l c) g) b) (sym (others c h)) (r.has c)
      ];
    })
stepped_on x l d step (Some ch) legs legs' b b' e others none some r =
    let here : nth_channel (with_nth l.channels d (owing (step ch))) d ≡ Some (owing (step ch)) = nth_same l.channels d ch (owing (step ch)) e in
    let s = r.slots d (ap (λ (o : Option Channel). is_some o) e) in
    at_channel x l (on_found l d step (Some ch)) d legs legs' b b' (λ c. there c here)
    (λ c h. (nth_other l.channels c d (owing (step ch)) h, others c h))
    (subst (λ (o : Option Channel). Writes x d b b' (call_on o (legs' d))) (sym here)
    (some ch refl (record { least = s.0; most = s.1 }) (subst (λ (o : Option Channel). Has x d (call_on o (legs d)) b) e (r.has d)))) r
  where
    there : (c : ℕ) → nth_channel (with_nth l.channels d (owing (step ch))) d ≡ Some (owing (step ch)) → is_some (nth_channel (with_nth l.channels d (owing (step ch))) c) ≡ is_some (channel_of l c)
    there c here =
        elim (number_is c d) [
          | inl h ↦
              ap (λ (k : ℕ). is_some (nth_channel (with_nth l.channels d (owing (step ch))) k)) h
              ∙ (ap (λ (o : Option Channel). is_some o) here ∙ (ap (λ (o : Option Channel). is_some o) (sym e) ∙ ap (λ (k : ℕ). is_some (channel_of l k)) (sym h)))
          | inr h ↦ ap (λ (o : Option Channel). is_some o) (nth_other l.channels c d (owing (step ch)) h)
        ]

-- the leg of a channel that is there
shown_leg : (l : Layer) (d : ℕ) (ch : Channel) (g : Leg) → channel_of l d ≡ Some ch → LineAgrees l d g → Agrees (seen l ch) g
shown_leg l d ch g e i = i (seen l ch) (ap (λ (o : Option Channel). shown_as l o) e)

if_other : (c d : ℕ) (g h : Leg) → c ≢ d → (if c == d then h else g) ≡ g
if_other c d g h ne = by_test (decided (c == d))
  where
    by_test : ((c == d) ≡ true) ⊎ ((c == d) ≡ false) → (if c == d then h else g) ≡ g
    by_test (inl t) = absurd (ne (eqb-true c d t))
    by_test (inr f) = ap (λ (v : Bool). if v then h else g) f

if_same : (d : ℕ) (g h : Leg) → (if d == d then h else g) ≡ h
if_same d g h = ap (λ (v : Bool). if v then h else g) (eq-eqb d d refl)

-- what a step owes does not change the state of its call
opened_call : (st : Step) (e : Epoch) (g : Leg) → had_call (stepped st e g).channel.state ≡ had_call st.channel.state
opened_call st e g = ap (λ (s : Shown). had_call s.channel.state) (opened_shown st.owes (record g { channel = owing st; epoch = e }))

-- ---- what is asked

line_asks : (x : Role) (l : Layer) (d : ℕ) (q : Request) (legs : ℕ → Leg) (b : Book) → MayAsk q → ((c : ℕ) → LineAgrees l c (legs c)) → AreRecords x l legs b
    → AreRecords x (request l d q) (λ c. if c == d then asked q (legs c) else legs c) (unless_refused (request_refusal l d q) (request_writes x d q (channel_of l d) b) b)
line_asks x l d q legs b m i r =
    stepped_on x l d (λ ch. requested l.role l.flow ch q) (channel_of l d) legs (λ c. if c == d then asked q (legs c) else legs c) b _ refl (λ c ne. if_other c d (legs c) _ ne)
    (λ e. ap (λ (o : Option Channel). unless_refused (refusal_at l.role l.flow q o) (request_writes x d q o b) b) e)
    (λ ch e is h.
    let a = shown_leg l d ch (legs d) e (i d) in
    subst (λ (o : Option Channel). Writes x d b (unless_refused (refusal_at l.role l.flow q o) (request_writes x d q o b) b) (leg_if (had_call (requested l.role l.flow ch q).channel.state) (if d == d then asked q (legs d) else legs d))) (sym e)
    (subst (λ (g : Leg). Writes x d b (unless_refused (refusal l.role l.flow ch q) (request_writes x d q (Some ch) b) b) (leg_if (had_call (requested l.role l.flow ch q).channel.state) g)) (sym (if_same d (legs d) (asked q (legs d))))
    (subst (λ (s : Shown). Writes x d b (unless_refused (refusal s.role s.flow s.channel q) (request_writes x d q (Some s.channel) b) b) (leg_if (had_call (requested s.role s.flow s.channel q).channel.state) (asked q (legs d)))) (sym a.shown)
    (subst (λ (v : Bool). Writes x d b (unless_refused (refusal (legs d).role (legs d).flow (legs d).channel q) (request_writes x d q (Some (legs d).channel) b) b) (leg_if v (asked q (legs d))))
    (asked_call q (legs d))
    (asked_written x d q b (legs d) m a.leg (subst (λ (s : Shown). Has x d (leg_if (had_call s.channel.state) (legs d)) b) a.shown h)))))) r
  where
    asked_by : (o : Option Refusal) (q : Request) (g : Leg) → had_call (asked_unless o q g).channel.state ≡ had_call (unless o (carried_out g.channel q) g.channel).channel.state
    asked_by (Some f) q g = refl
    asked_by None q g = opened_call (carried_out g.channel q) (logged g.channel.traffic q g.epoch) g

    asked_call : (q : Request) (g : Leg) → had_call (asked q g).channel.state ≡ had_call (requested g.role g.flow g.channel q).channel.state
    asked_call q g = asked_by (refusal g.role g.flow g.channel q) q g

-- ---- all calls of the line close

pub line_closes : (x : Role) (l m : Layer) (reason : Reason) (legs : ℕ → Leg) (b : Book) → m.channels ≡ map (λ ch. closed_channel) l.channels → AreRecords x l legs b
    → AreRecords x m (λ c. closed (legs c)) (all_told x (closing_notes 1 reason l.channels) b)
line_closes x l m reason legs b channels r = record {
  slots = λ c e. let s = r.slots c (sym (there c) ∙ e) in (s.0, subst (λ (n : ℕ). c ≤ n) (sym (k.size.size x)) s.1);
  apart = all_apart x (closing_notes 1 reason l.channels) b r.apart;
  has = λ c. subst (λ (o : Option Leg). Has x c o (all_told x (closing_notes 1 reason l.channels) b)) (sym (no_call c)) (none c);
}
  where
    k : Closes x b (all_told x (closing_notes 1 reason l.channels) b)
    k = closes_all x 1 reason l.channels b

    mapped : (c : ℕ) (chs : List Channel) → nth_channel (map (λ ch. closed_channel) chs) c ≡ option_map (λ ch. closed_channel) (nth_channel chs c)
    mapped zero chs = refl
    mapped (suc i) chs = get_map (λ ch. closed_channel) chs i

    closed_on : (c : ℕ) → channel_of m c ≡ option_map (λ ch. closed_channel) (channel_of l c)
    closed_on c = ap (λ (chs : List Channel). nth_channel chs c) channels ∙ mapped c l.channels

    there : (c : ℕ) → is_some (channel_of m c) ≡ is_some (channel_of l c)
    there c = ap (λ (o : Option Channel). is_some o) (closed_on c) ∙ is_there (channel_of l c)
      where
        is_there : (o : Option Channel) → is_some (option_map (λ ch. closed_channel) o) ≡ is_some o
        is_there None = refl
        is_there (Some ch) = refl

    no_call : (c : ℕ) → call_on (channel_of m c) (closed (legs c)) ≡ None
    no_call c = ap (λ (o : Option Channel). call_on o (closed (legs c))) (closed_on c) ∙ is_none (channel_of l c)
      where
        is_none : (o : Option Channel) → call_on (option_map (λ ch. closed_channel) o) (closed (legs c)) ≡ None
        is_none None = refl
        is_none (Some ch) = refl

    -- it had none before
    still : (c : ℕ) → (slot_at x c b).present ≡ None → (slot_at x c (all_told x (closing_notes 1 reason l.channels) b)).present ≡ None
    still c e =
        elim (k.present c) [
          | inl f ↦ f
          | inr f ↦ ap (λ s. s.present) f ∙ e
        ]

    by_call : (c : ℕ) (ch : Channel) (v : Bool) → channel_of l c ≡ Some ch → had_call ch.state ≡ v → Has x c (leg_if v (legs c)) b → (slot_at x c (all_told x (closing_notes 1 reason l.channels) b)).present ≡ None
    by_call c ch false e h p = still c p
    by_call zero ch true e h p = absurd (none-some ch e)
    by_call (suc i) ch true e h p = let n : 1 + i ≡ suc i = omega arith in subst (λ (c : ℕ). (slot_at x c (all_told x (closing_notes 1 reason l.channels) b)).present ≡ None) n (closed_all x 1 reason l.channels b i ch e h)

    by_found : (c : ℕ) (o : Option Channel) → channel_of l c ≡ o → Has x c (call_on o (legs c)) b → (slot_at x c (all_told x (closing_notes 1 reason l.channels) b)).present ≡ None
    by_found c None e p = still c p
    by_found c (Some ch) e p = by_call c ch (had_call ch.state) e refl p

    none : (c : ℕ) → (slot_at x c (all_told x (closing_notes 1 reason l.channels) b)).present ≡ None
    none c = by_found c (channel_of l c) refl (r.has c)

-- ---- what comes

-- a step that is told, of channel d, whose leg moves as the channel does
line_steps : (x : Role) (l : Layer) (d : ℕ) (step : Channel → Step) (h : ℕ → Leg → Leg) (legs : ℕ → Leg) (b : Book) → ((c : ℕ) → LineAgrees l c (legs c)) → ((c : ℕ) → c ≢ d → h c (legs c) ≡ legs c)
    → ((ch : Channel) → IsSlot x d b → Agrees (seen l ch) (legs d) → Has x d (leg_if (had_call (legs d).channel.state) (legs d)) b
    → Writes x d b (all_told x (step ch).notes b) (leg_if (had_call (step ch).channel.state) (h d (legs d))))
    → AreRecords x l legs b → AreRecords x (on_found (unread l) d step (channel_of l d)) (λ c. h c (legs c)) (all_told x (on_found (unread l) d step (channel_of l d)).notes b)
line_steps x l d step h legs b i others writes_ r =
    stepped_on x (unread l) d step (channel_of l d) legs (λ c. h c (legs c)) b _ refl others
    (λ e. ap (λ (o : Option Channel). all_told x (on_found (unread l) d step o).notes b) e)
    (λ ch e is p.
    let a = shown_leg l d ch (legs d) e (i d) in
    subst (λ (o : Option Channel). Writes x d b (all_told x (on_found (unread l) d step o).notes b) (leg_if (had_call (step ch).channel.state) (h d (legs d)))) (sym e)
    (writes_ ch is a (subst (λ (s : Shown). Has x d (leg_if (had_call s.channel.state) (legs d)) b) a.shown p)))
    (record { slots = r.slots; apart = r.apart; has = r.has })

line_hears : (x : Role) (l : Layer) (d : ℕ) (p : Body) (legs : ℕ → Leg) (b : Book) → ((c : ℕ) → LineAgrees l c (legs c)) → AreRecords x l legs b
    → AreRecords x (on_found (unread l) d (λ ch. received l.role l.flow d ch p) (channel_of l d)) (λ c. if c == d then heard c p (legs c) else legs c)
    (all_told x (on_found (unread l) d (λ ch. received l.role l.flow d ch p) (channel_of l d)).notes b)
line_hears x l d p legs b i r =
    line_steps x l d (λ ch. received l.role l.flow d ch p) (λ c g. if c == d then heard c p g else g) legs b i (λ c ne. if_other c d (legs c) _ ne)
    (λ ch is a h.
    subst (λ (g : Leg). Writes x d b (all_told x (received l.role l.flow d ch p).notes b) (leg_if (had_call (received l.role l.flow d ch p).channel.state) g)) (sym (if_same d (legs d) (heard d p (legs d))))
    (subst (λ (s : Shown). Writes x d b (all_told x (received s.role s.flow d s.channel p).notes b) (leg_if (had_call (received s.role s.flow d s.channel p).channel.state) (heard d p (legs d)))) (sym a.shown)
    (comes_written x d p b (legs d) is a.leg h))) r

line_mishears : (x : Role) (l : Layer) (d : ℕ) (unknown : Bool) (legs : ℕ → Leg) (b : Book) → ((c : ℕ) → LineAgrees l c (legs c)) → AreRecords x l legs b
    → AreRecords x (on_found (unread l) d (λ ch. unreadable l.role d unknown ch) (channel_of l d)) (λ c. if c == d then misheard c unknown (legs c) else legs c)
    (all_told x (on_found (unread l) d (λ ch. unreadable l.role d unknown ch) (channel_of l d)).notes b)
line_mishears x l d unknown legs b i r =
    line_steps x l d (λ ch. unreadable l.role d unknown ch) (λ c g. if c == d then misheard c unknown g else g) legs b i (λ c ne. if_other c d (legs c) _ ne)
    (λ ch is a h.
    subst (λ (g : Leg). Writes x d b (all_told x (unreadable l.role d unknown ch).notes b) (leg_if (had_call (unreadable l.role d unknown ch).channel.state) g)) (sym (if_same d (legs d) (misheard d unknown (legs d))))
    (subst (λ (s : Shown). Writes x d b (all_told x (unreadable s.role d unknown s.channel).notes b) (leg_if (had_call (unreadable s.role d unknown s.channel).channel.state) (misheard d unknown (legs d)))) (sym a.shown)
    (unreadable_written x d unknown b (legs d) h))) r

line_clears : (x : Role) (l : Layer) (d : ℕ) (legs : ℕ → Leg) (b : Book) → ((c : ℕ) → LineAgrees l c (legs c)) → AreRecords x l legs b
    → AreRecords x (on_found (unread l) d (λ ch. clear_error l.role d no_information true ch) (channel_of l d)) (λ c. cleared_if (c == d) c (legs c))
    (all_told x (on_found (unread l) d (λ ch. clear_error l.role d no_information true ch) (channel_of l d)).notes b)
line_clears x l d legs b i r =
    line_steps x l d (λ ch. clear_error l.role d no_information true ch) (λ c g. cleared_if (c == d) c g) legs b i (λ c ne. if_other c d (legs c) _ ne)
    (λ ch is a h.
    subst (λ (g : Leg). Writes x d b (all_told x (clear_error l.role d no_information true ch).notes b) (leg_if (had_call (clear_error l.role d no_information true ch).channel.state) g)) (sym (if_same d (legs d) (stepped (clear_error (legs d).role d no_information true (legs d).channel) (legs d).epoch (legs d))))
    (subst (λ (s : Shown). Writes x d b (all_told x (clear_error s.role d no_information true s.channel).notes b) (leg_if (had_call (clear_error s.role d no_information true s.channel).channel.state) (stepped (clear_error (legs d).role d no_information true (legs d).channel) (legs d).epoch (legs d)))) (sym a.shown)
    (cleared_written x d no_information b (legs d)))) r

-- ---- packets

abbrev Kept : Role → Layer → (ℕ → Leg) → Book → Type 0
Kept x m legs b = AreRecords x m legs (all_told x m.notes b)

restart_in_r1 : (x : Role) (p : Body) (l : Layer) (legs : ℕ → Leg) (b : Book) → AreRecords x l legs b → Kept x (restart_packet PacketReady p (unread l)) (λ c. restarted p (legs c)) b
restart_in_r1 x (Restart cause diagnostic) l legs b r = line_closes x l (restart_packet PacketReady (Restart cause diagnostic) (unread l)) _ legs b refl r
restart_in_r1 x RestartConfirmation l legs b r = line_closes x l (restart_packet PacketReady RestartConfirmation (unread l)) _ legs b refl r
restart_in_r1 x _ l legs b r = same_lines x l (unread l) legs legs b b refl (λ c. refl) (λ c. refl) r

restart_in_r2 : (x : Role) (p : Body) (l : Layer) (legs : ℕ → Leg) (b : Book) → AreRecords x l legs b → Kept x (restart_packet OwnRestart p (unread l)) legs b
restart_in_r2 x (Restart cause diagnostic) l legs b r = same_lines x l _ legs legs b b refl (λ c. refl) (λ c. refl) r
restart_in_r2 x RestartConfirmation l legs b r = same_lines x l _ legs legs b b refl (λ c. refl) (λ c. refl) r
restart_in_r2 x _ l legs b r = same_lines x l (unread l) legs legs b b refl (λ c. refl) (λ c. refl) r

unread_same : (x : Role) (l : Layer) (legs : ℕ → Leg) (b : Book) → AreRecords x l legs b → Kept x (unread l) legs b
unread_same x l legs b r = same_lines x l (unread l) legs legs b b refl (λ c. refl) (λ c. refl) r

by_both : (x : Role) (v : Bool) (l m : Layer) (f g : ℕ → Leg) (b : Book) → Kept x l f b → Kept x m g b → Kept x (cond v l m) (λ c. if v then f c else g c) b
by_both x true l m f g b p q = p
by_both x false l m f g b p q = q

whole : (phase : Phase) (x : Role) (p : Packet) (l : Layer) (legs : ℕ → Leg) (b : Book) → ((c : ℕ) → LineAgrees l c (legs c)) → AreRecords x l legs b
    → Kept x (cond (p.channel == 0) (restart_packet phase p.body (unread l)) (on_channel phase (unread l) p.channel (λ ch. received l.role l.flow p.channel ch p.body))) (λ c. came_in phase (Whole p) c (legs c)) b
whole PacketReady x p l legs b i r =
    by_both x (p.channel == 0) _ _ (λ c. restarted p.body (legs c)) (λ c. if c == p.channel then heard c p.body (legs c) else legs c) b (restart_in_r1 x p.body l legs b r) (line_hears x l p.channel p.body legs b i r)
whole OwnRestart x p l legs b i r = by_cond (λ (m : Layer). Kept x m legs b) (p.channel == 0) _ _ (λ h. restart_in_r2 x p.body l legs b r) (λ h. unread_same x l legs b r)
whole NoSession x p l legs b i r = by_cond (λ (m : Layer). Kept x m legs b) (p.channel == 0) _ _ (λ h. unread_same x l legs b r) (λ h. unread_same x l legs b r)

cannot_read : (phase : Phase) (x : Role) (d : ℕ) (unknown : Bool) (l : Layer) (legs : ℕ → Leg) (b : Book) → ((c : ℕ) → LineAgrees l c (legs c)) → AreRecords x l legs b
    → Kept x (on_channel phase (unread l) d (λ ch. unreadable l.role d unknown ch)) (λ c. came_in phase (if unknown then Unknown d else Faulty d) c (legs c)) b
cannot_read PacketReady x d true l legs b i r = line_mishears x l d true legs b i r
cannot_read PacketReady x d false l legs b i r = line_mishears x l d false legs b i r
cannot_read OwnRestart x d true l legs b i r = unread_same x l legs b r
cannot_read OwnRestart x d false l legs b i r = unread_same x l legs b r
cannot_read NoSession x d true l legs b i r = unread_same x l legs b r
cannot_read NoSession x d false l legs b i r = unread_same x l legs b r

comes : (x : Role) (y : Received) (l : Layer) (legs : ℕ → Leg) (b : Book) → ((c : ℕ) → LineAgrees l c (legs c)) → AreRecords x l legs b
    → Kept x (on_received (unread l) y) (λ c. came_in l.phase y c (legs c)) b
comes x (Whole p) l legs b i r = whole l.phase x p l legs b i r
comes x (Unknown d) l legs b i r = cannot_read l.phase x d true l legs b i r
comes x (Faulty d) l legs b i r = cannot_read l.phase x d false l legs b i r

-- ---- timers

ran : (x : Role) (t : Timer) (l : Layer) (legs : ℕ → Leg) (b : Book) → ((c : ℕ) → LineAgrees l c (legs c)) → AreRecords x l legs b → Kept x (expired (unread l) t) (λ c. ran_out t c (legs c)) b
ran x RestartTimer l legs b i r = same_lines x l _ legs legs b b refl (λ c. refl) (λ c. refl) r
ran x (CallTimer d) l legs b i r = line_clears x l d legs b i r
ran x (ResetTimer d) l legs b i r = line_clears x l d legs b i r
ran x (ClearTimer d) l legs b i r = line_closes x l (expired (unread l) (ClearTimer d)) _ legs b refl r

runs_out : (x : Role) (t : Timer) (l : Layer) (legs : ℕ → Leg) (b : Book) → ((c : ℕ) → LineAgrees l c (legs c)) → AreRecords x l legs b
    → Kept x (on_timer (unread l) t) (λ c. if runs l t then ran_out t c (legs c) else legs c) b
runs_out x t l legs b i r = by_both x (runs l t) _ _ (λ c. ran_out t c (legs c)) legs b (ran x t l legs b i r) (unread_same x l legs b r)

-- notes that are read make no difference
pub read : (x : Role) (l m : Layer) (legs : ℕ → Leg) (b : Book) → m ≡ unread l → AreRecords x l legs b → AreRecords x m legs b
read x l m legs b e r = subst (λ (y : Layer). AreRecords x y legs b) (sym e) (record { slots = r.slots; apart = r.apart; has = r.has })

-- ---- a call is placed

places_on : (x : Role) (o : Option ℕ) (parts : CallParts) (l : Layer) (legs : ℕ → Leg) (b : Book) → ((d : ℕ) → o ≡ Some d → (ch : Channel) × ((channel_of l d ≡ Some ch) × (is_free ch ≡ true)))
    → ((c : ℕ) → LineAgrees l c (legs c)) → AreRecords x l legs b → AreRecords x (layer_placed_on l parts o) (λ c. placed_if (is_channel o c) parts (legs c)) (placed_on x o parts b)
places_on x None parts l legs b free i r = r
places_on x (Some d) parts l legs b free i r =
    let f = free d refl in
    stepped_on x l d (λ ch. placing parts ch) (channel_of l d) legs (λ c. placed_if (c == d) parts (legs c)) b _ refl (λ c ne. if_other c d (legs c) _ ne)
    (λ e. absurd (none-some f.0 (sym e ∙ f.1.0)))
    (λ ch e is h.
    let a = shown_leg l d ch (legs d) e (i d) in
    let same : f.0 ≡ ch = same_Some _ _ (sym f.1.0 ∙ e) in
    let ready : is_ready ch.state ≡ true = (and_parts (is_ready ch.state) _ (subst (λ (y : Channel). is_free y ≡ true) same f.1.1)).0 in
    let st = a.leg.start (not_in_transfer (legs d).channel.state (ap (λ (t : Shown). is_ready t.channel.state) (sym a.shown) ∙ ready)) in
    placed_written x d parts.calling parts.called b (if d == d then stepped (placing parts (legs d).channel) (legs d).epoch (legs d) else legs d) is
    (ap (λ (g : Leg). g.before) (if_same d (legs d) (stepped (placing parts (legs d).channel) (legs d).epoch (legs d))) ∙ st.before)
    (ap (λ (g : Leg). g.epoch) (if_same d (legs d) (stepped (placing parts (legs d).channel) (legs d).epoch (legs d))) ∙ st.epoch)) r

-- ---- a packet goes to the link

line_gives : (x : Role) (n : ℕ) (l : Layer) (legs : ℕ → Leg) (b : Book) → ((c : ℕ) → LineAgrees l c (legs c)) → ((c : ℕ) → LineAgrees (layer_after (Gives n) l) c (leg_after (Gives n) (Some l) c (legs c)))
    → AreRecords x l legs b → AreRecords x (layer_after (Gives n) l) (λ c. leg_after (Gives n) (Some l) c (legs c)) b
line_gives x n l legs b i after r = record {
  slots = λ c e. r.slots c (sym (line_there (Gives n) l c) ∙ e);
  apart = r.apart;
  has = λ c. has c (channel_of (layer_after (Gives n) l) c) (channel_of l c) refl refl;
}
  where
    has_call_same : (c : ℕ) (g g' : Leg) (v v' : Bool) → v' ≡ v → g'.before ≡ g.before → g'.epoch ≡ g.epoch → Has x c (leg_if v g) b → Has x c (leg_if v' g') b
    has_call_same c g g' true true e p q h = has_same x c b g g' (λ s j. record { sent_before = j.sent_before ∙ ap (λ es. all_sent es) (sym p); sent = j.sent ∙ ap (λ u. sent_of u) (sym q); taken_before = j.taken_before ∙ ap (λ es. all_taken es) (sym p); taken = j.taken ∙ ap (λ u. taken_of u) (sym q); open_ = j.open_ }) h
    has_call_same c g g' false false e p q h = h
    has_call_same c g g' true false e p q h = absurd (true≢false (sym e))
    has_call_same c g g' false true e p q h = absurd (true≢false e)

    gave_same : (o : Option Packet) (c : ℕ) (g : Leg) → Agrees (shown_of g) g → (had_call (gave_if o c g).channel.state ≡ had_call g.channel.state) × (((gave_if o c g).before ≡ g.before) × ((gave_if o c g).epoch ≡ g.epoch))
    gave_same None c g a = (refl, (refl, refl))
    gave_same (Some p) c g a = by_test (c == p.channel)
      where
        by_test : (v : Bool) → (had_call (if v then gave g else g).channel.state ≡ had_call g.channel.state) × (((if v then gave g else g).before ≡ g.before) × ((if v then gave g else g).epoch ≡ g.epoch))
        by_test true = let k = leg_gave g a.leg.leg in (ap (λ (s : ChannelState). had_call s) k.state, (k.before, k.epoch))
        by_test false = (refl, (refl, refl))

    has : (c : ℕ) (now old : Option Channel) → channel_of (layer_after (Gives n) l) c ≡ now → channel_of l c ≡ old → Has x c (call_on (channel_of (layer_after (Gives n) l) c) (leg_after (Gives n) (Some l) c (legs c))) b
    has c None None e f = subst (λ (o : Option Channel). Has x c (call_on o (leg_after (Gives n) (Some l) c (legs c))) b) (sym e) (subst (λ (o : Option Channel). Has x c (call_on o (legs c)) b) f (r.has c))
    has c None (Some ch) e f = absurd (true≢false (sym (ap (λ (o : Option Channel). is_some o) (sym e) ∙ (line_there (Gives n) l c ∙ ap (λ (o : Option Channel). is_some o) f))))
    has c (Some ch) None e f = absurd (true≢false (ap (λ (o : Option Channel). is_some o) (sym e) ∙ (line_there (Gives n) l c ∙ ap (λ (o : Option Channel). is_some o) f)))
    has c (Some now) (Some old) e f =
        let a = shown_leg l c old (legs c) f (i c) in
        let z = shown_leg (layer_after (Gives n) l) c now (leg_after (Gives n) (Some l) c (legs c)) e (after c) in
        let s = gave_same (next_packet l).packet c (legs c) (record { shown = refl; leg = a.leg }) in
        subst (λ (o : Option Channel). Has x c (call_on o (leg_after (Gives n) (Some l) c (legs c))) b) (sym e)
        (has_call_same c (legs c) (leg_after (Gives n) (Some l) c (legs c)) (had_call old.state) (had_call now.state)
        (ap (λ (t : Shown). had_call t.channel.state) z.shown ∙ (s.0 ∙ ap (λ (t : Shown). had_call t.channel.state) (sym a.shown))) s.1.0 s.1.1
        (subst (λ (o : Option Channel). Has x c (call_on o (legs c)) b) f (r.has c)))

-- ---- acts

pub line_writes : (x : Role) (a : Act) (l : Layer) (legs : ℕ → Leg) (b : Book) → MayHappen a → ((c : ℕ) → LineAgrees l c (legs c))
    → ((c : ℕ) → LineAgrees (layer_after a l) c (leg_after a (Some l) c (legs c))) → AreRecords x l legs b
    → AreRecords x (layer_after a l) (λ c. leg_after a (Some l) c (legs c)) (writes x a l b)
line_writes x (Asks p q) l legs b m i after r = line_asks x l p.channel q legs b m i r
line_writes x (Comes n y) l legs b m i after r = read x (on_received (unread l) y) _ _ _ refl (comes x y l legs b i r)
line_writes x (Expires n t) l legs b m i after r = by_runs (runs l t) refl
  where
    by_runs : (v : Bool) → runs l t ≡ v → AreRecords x (unread (on_timer l t)) (λ c. if runs l t then ran_out t c (legs c) else legs c) (all_told x (on_timer (unread l) t).notes b)
    by_runs true e = read x (on_timer (unread l) t) _ _ _ (ap (λ (w : Bool). unread (cond w (expired (unread l) t) l)) e ∙ ap (λ (w : Bool). unread (cond w (expired (unread l) t) (unread l))) (sym e)) (runs_out x t l legs b i r)
    by_runs false e = read x (on_timer (unread l) t) _ _ _ (ap (λ (w : Bool). unread (cond w (expired (unread l) t) l)) e ∙ ap (λ (w : Bool). unread (cond w (expired (unread l) t) (unread l))) (sym e)) (runs_out x t l legs b i r)
line_writes x (GoesUp n) l legs b m i after r = line_closes x l (unread (link_up l)) _ legs b refl r
line_writes x (GoesDown n) l legs b m i after r = line_closes x l (unread (link_down l)) _ legs b refl r
line_writes x (Calls n parts) l legs b m i after r = places_on x (channel_given l l.phase) parts l legs b (λ d e. free_is l.role l.channels d (given_ready l l.phase d e).1) i r
line_writes x (Gives n) l legs b m i after r = line_gives x n l legs b i after r
line_writes x (Reads n) l legs b m i after r = read x l (unread l) legs b refl r
