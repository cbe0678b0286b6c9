-- Each event at an end of a line keeps the book right.
use Rattle.std.specs.Prelude.{◌≡◌, ◌≢◌, ℕ, ◌⊎◌, Bool, true, false, cond, ◌&&◌, ◌||◌, ◌==◌, nat_lt, List, length, Option, Some, None}
use Rattle.std.proofs.Common.{inl, inr, refl, sym, ap, subst, ◌∙◌, arith, true≢false}
use Rattle.std.proofs.lemmas.Option.{none-some}
use Rattle.std.proofs.lemmas.Bool.{eq-eqb, ne_eqb}
use Rattle.link_timers.specs.declared.role.Role.{Role}
use Rattle.data_transfer.specs.declared.flow.Flow.{Flow}
use Rattle.data_transfer.specs.Packets.{CallParts}
use Rattle.data_transfer.specs.Traffic.{front}
use Rattle.packet_channel.specs.Channel.{Channel, Step, Request, Refusal, requested, carried_out, unless, refusal}
use Rattle.packet_channel.specs.Channel.Request.{Accept, Clearing, Resetting, Sending, Interrupting, Stopping, Taking, Releasing, Confirming}
use Rattle.packet_channel.specs.Channel.ChannelState.{Ready, OwnWaiting}
use Rattle.packet_layer.specs.Layer.{Layer, nth_channel, channel_of, with_nth, on_found, after_step, owing, refusal_at, request_refusal, front_at, front_on}
use Rattle.packet_laws.specs.History.{History, opened, grown_unless, accepted_unless, logged, requested_history, found_history}
use Rattle.packet_laws.specs.LayerLine.{End, told, is_session}
use Rattle.call_records.specs.Book.{Book, slot_at, closes}
use Rattle.record_laws.specs.Books.Told.{carried, unless_refused}
use Rattle.record_laws.proofs.Books.Basics.{number_is, by_true, by_false}
use Rattle.record_laws.proofs.Books.Invariant.{CallStatus, ChannelUse, SlotIs}
use Rattle.record_laws.proofs.Books.Writing.{Closes, closes_none, closes_one, closed_else, closed_here}
use Rattle.record_laws.proofs.Books.Invariant.CallStatus.{Idle, OwnCall, FarCall, Open}
use Rattle.record_laws.proofs.Books.Ending.{IsOver}
use Rattle.record_laws.proofs.Books.EndSteps.{status_of, status_at, within, has_come, view_of, end_step}
use Rattle.record_laws.proofs.Books.Steps.{SameHistory, history_refl}
use Rattle.record_laws.proofs.Books.ChannelSteps.{KeptAt, kept_as, IsEnd, Facts, Arrival, channel_step, sized, slot_of, status_number}
use Rattle.record_laws.proofs.Books.Outcomes.{Outcome, NoCalls, asked}
use Rattle.record_laws.proofs.Books.Outcomes.Outcome.{stays, ends, ends_none, goes, connects, accepts, comes as call_comes, collides}
use Rattle.record_laws.proofs.Books.Layers.{put_here, put_else, put_length, in_range, told_here, told_else, either_way}
use Rattle.record_laws.proofs.Books.Ends.{quiet_step}

-- ---- an end after an event

abbrev pub moved_end : End → Layer → (ℕ → History → History) → (ℕ → ℕ) → End
moved_end e l f acc = record e { layer = l; histories = (told f e).histories; accepted = acc }

abbrev pub Rises : End → (ℕ → ℕ) → Type 0
Rises e acc = (i : ℕ) → nat_lt 0 (e.accepted i) ≡ true → nat_lt 0 (acc i) ≡ true

or_rises : (a b c : Bool) → (b ≡ true → c ≡ true) → (a || b) ≡ true → (a || c) ≡ true
or_rises true b c h e = refl
or_rises false b c h e = h e

and_rises : (a b c v : Bool) → (a ≡ true → b ≡ true) → c ≡ v → (a && c) ≡ true → (b && v) ≡ true
and_rises true b c v h s e = subst (λ (z : Bool). (z && v) ≡ true) (sym (h refl)) (sym s ∙ e)
and_rises false b c v h s e = absurd (true≢false (sym e))

come_rises : (e : End) (acc : ℕ → ℕ) → Rises e acc → (s : ℕ) → has_come e s ≡ true → ((s == 0) || nat_lt 0 (acc s)) ≡ true
come_rises e acc r s h = or_rises (s == 0) (nat_lt 0 (e.accepted s)) (nat_lt 0 (acc s)) (r s) h

pub begun_rises : (x : Role) (e e' : End) → Rises e e'.accepted → length e'.layer.channels ≡ length e.layer.channels → (k : ChannelUse) → (view_of x e 0).begun k ≡ true → (view_of x e' 0).begun k ≡ true
begun_rises x e e' r same k h =
    and_rises (has_come e k.session) (has_come e' k.session) (within (length e.layer.channels) k.channel) (within (length e'.layer.channels) k.channel)
    (come_rises e e'.accepted r k.session) (ap (λ (m : ℕ). within m k.channel) (sym same)) h

pub same_end_is : (n : ℕ) (e e' : End) → IsEnd n e.layer.role e → e'.session ≡ e.session → Rises e e'.accepted → e'.layer.role ≡ e.layer.role → e'.layer.phase ≡ e.layer.phase → length e'.layer.channels ≡ length e.layer.channels → IsEnd n e.layer.role e'
same_end_is n e e' h ses r role phase count = record {
  role = role;
  count = count ∙ h.count;
  up = λ ready. let u = h.up (sym phase ∙ ready) in (u.0, ses ∙ u.1, come_rises e e'.accepted r u.0 u.2);
}

-- ---- a step on one channel

pub on_one : (n : ℕ) (e y : End) (te ty : ℕ) (b : Book) (cs : List (Option ℕ)) (s d : ℕ) (ch ch2 ch' : Channel) (l' : Layer) (f : ℕ → History → History) (acc : ℕ → ℕ) (told_ : History → History) (write : Book → Book) (trace : Book → List (Option ℕ) → List (Option ℕ)) (came : CallParts → Type 0)
    → KeptAt n e.layer.role e y te ty b cs → Facts n e y → e.session ≡ Some s → channel_of e.layer d ≡ Some ch → l'.channels ≡ with_nth e.layer.channels d ch2 → ch2.state ≡ ch'.state → l'.role ≡ e.layer.role → l'.phase ≡ e.layer.phase
    → ((st : History) → f d st ≡ told_ st) → ((c : ℕ) (st : History) → c ≢ d → f c st ≡ st) → Rises e acc
    → ((parts : CallParts) → came parts → (ch.state ≡ Ready) ⊎ (ch.state ≡ OwnWaiting) → Arrival e y s d ty parts) → Outcome e.layer.role d ch ch' told_ write trace came
    → KeptAt n e.layer.role (moved_end e l' f acc) y te ty (write b) (trace b cs)
on_one n e y te ty b cs s d ch ch2 ch' l' f acc told_ write trace came k facts up found chs state role phase here else rises arrival out =
    let e' : End = moved_end e l' f acc in
    let range = in_range e.layer.channels d ch found in
    let count : length l'.channels ≡ length e.layer.channels = ap length chs ∙ put_length e.layer.channels d ch2 in
    channel_step n e.layer.role e e' y te ty b cs s d ch ch' told_ write trace came k facts (record {
      on = record {
        session = refl;
        up = up;
        begun = begun_rises e.layer.role e e' rises count;
        status = λ c h. ap (λ (l : List Channel). status_at e.layer.role (nth_channel l c)) chs ∙ ap (status_at e.layer.role) (put_else e.layer.channels d c ch2 h);
        else = λ i c h. either_history i c h;
      };
      found = found;
      found_after = ap (λ (l : List Channel). status_at e.layer.role (nth_channel l d)) chs ∙ ap (status_at e.layer.role) (put_here e.layer.channels d ch ch2 found) ∙ ap (status_of e.layer.role) state;
      history = told_here e s d f up ∙ here (e.histories s d);
      end_is = same_end_is n e e' k.here refl rises role phase count;
      least = range.0;
      most = let h = range.1 in let c = k.here.count in omega arith;
      arrival = arrival;
    }) out
  where
    either_history : (i c : ℕ) → ((i ≡ s) × (c ≡ d) → ⊥) → (moved_end e l' f acc).histories i c ≡ e.histories i c
    either_history i c h =
        elim (number_is i s) [
          | inl a ↦ subst (λ (j : ℕ). (told f e).histories j c ≡ e.histories j c) (sym a) (told_here e s c f up ∙ else c (e.histories s c) (λ z. h (a, z)))
          | inr a ↦ told_else e s i c f up a
        ]

-- ---- an event that changes no call

pub still : (n : ℕ) (e y : End) (te ty : ℕ) (b : Book) (cs : List (Option ℕ)) (l' : Layer) (f : ℕ → History → History) (acc : ℕ → ℕ) → KeptAt n e.layer.role e y te ty b cs → ((c : ℕ) → status_at e.layer.role (channel_of l' c) ≡ status_at e.layer.role (channel_of e.layer c))
    → ((c : ℕ) (st : History) → SameHistory st (f c st)) → Rises e acc → length l'.channels ≡ length e.layer.channels → IsEnd n e.layer.role (moved_end e l' f acc) → KeptAt n e.layer.role (moved_end e l' f acc) y te ty b cs
still n e y te ty b cs l' f acc k status history rises count end =
    quiet_step n e.layer.role e (moved_end e l' f acc) y te ty b cs k (record {
      session = refl;
      status = status;
      history = λ s c. either_way (λ (z : History). SameHistory (e.histories s c) z) (is_session e.session s) (f c (e.histories s c)) (e.histories s c) (history c (e.histories s c)) (history_refl (e.histories s c));
      begun = begun_rises e.layer.role e (moved_end e l' f acc) rises count;
    }) end

pub same_rises : (e : End) → Rises e e.accepted
same_rises e i h = h

-- ---- the user asks something of a channel

abbrev told_of : Option Refusal → Request → Channel → History → History
told_of o Accept ch st = accepted_unless o st
told_of o r ch st = opened (unless o (carried_out ch r) ch).owes (grown_unless o (λ e. logged ch.traffic r e) st)

told_is : (x : Role) (flow : Flow) (ch : Channel) (r : Request) (st : History) → requested_history x flow ch r st ≡ told_of (refusal x flow ch r) r ch st
told_is x flow ch Accept st = refl
told_is x flow ch (Clearing cause diagnostic) st = refl
told_is x flow ch (Resetting cause diagnostic) st = refl
told_is x flow ch (Sending d) st = refl
told_is x flow ch (Interrupting octets) st = refl
told_is x flow ch (Stopping v) st = refl
told_is x flow ch Taking st = refl
told_is x flow ch (Releasing n) st = refl
told_is x flow ch Confirming st = refl

refused_told : (z : Refusal) (ch : Channel) (r : Request) (st : History) → SameHistory st (told_of (Some z) r ch st)
refused_told z ch Accept st = history_refl st
refused_told z ch (Clearing cause diagnostic) st = history_refl st
refused_told z ch (Resetting cause diagnostic) st = history_refl st
refused_told z ch (Sending d) st = history_refl st
refused_told z ch (Interrupting octets) st = history_refl st
refused_told z ch (Stopping v) st = history_refl st
refused_told z ch Taking st = history_refl st
refused_told z ch (Releasing n) st = history_refl st
refused_told z ch Confirming st = history_refl st

abbrev Asked : Role → ℕ → Channel → Request → Option Refusal → Type 0
Asked x d ch r o = Outcome x d ch (unless o (carried_out ch r) ch).channel (λ st. told_of o r ch st) (λ b. unless_refused o (carried x d r (front ch.traffic) b) b) (λ b l. l) NoCalls

asked_of : (x : Role) (flow : Flow) (d : ℕ) (ch : Channel) (r : Request) → refusal x flow ch r ≡ None → Asked x d ch r None
asked_of x flow d ch Accept e = asked x flow d ch Accept e
asked_of x flow d ch (Clearing cause diagnostic) e = asked x flow d ch (Clearing cause diagnostic) e
asked_of x flow d ch (Resetting cause diagnostic) e = asked x flow d ch (Resetting cause diagnostic) e
asked_of x flow d ch (Sending datum) e = asked x flow d ch (Sending datum) e
asked_of x flow d ch (Interrupting octets) e = asked x flow d ch (Interrupting octets) e
asked_of x flow d ch (Stopping v) e = asked x flow d ch (Stopping v) e
asked_of x flow d ch Taking e = asked x flow d ch Taking e
asked_of x flow d ch (Releasing n) e = asked x flow d ch (Releasing n) e
asked_of x flow d ch Confirming e = asked x flow d ch Confirming e

asked_any : (x : Role) (flow : Flow) (d : ℕ) (ch : Channel) (r : Request) (o : Option Refusal) → refusal x flow ch r ≡ o → Asked x d ch r o
asked_any x flow d ch r None e = asked_of x flow d ch r e
asked_any x flow d ch r (Some z) e = stays refl (λ st. refused_told z ch r st) (λ b. refl) (λ b l. refl)

-- the history of another channel
pub else_history : (c d : ℕ) (a st : History) → c ≢ d → cond (c == d) a st ≡ st
else_history c d a st h = by_false (c == d) a st (ne_eqb c d h)

pub here_history : (d : ℕ) (a st : History) → cond (d == d) a st ≡ a
here_history d a st = by_true (d == d) a st (eq-eqb d d refl)

-- with no session a channel has no call
no_session : (n : ℕ) (e y : End) (te ty : ℕ) (b : Book) (cs : List (Option ℕ)) (d : ℕ) (ch : Channel) → KeptAt n e.layer.role e y te ty b cs → channel_of e.layer d ≡ Some ch → e.session ≡ None → status_of e.layer.role ch.state ≡ Idle
no_session n e y te ty b cs d ch k found none =
    idle_of (status_of e.layer.role ch.state) (subst (λ (o : Option Channel). SlotIs (status_at e.layer.role o) (view_of e.layer.role e te) k.tags e.layer.role d (slot_at e.layer.role d b)) found (slot_of e.layer.role e y te ty b k.tags d k.right))
  where
    idle_of : (m : CallStatus) → SlotIs m (view_of e.layer.role e te) k.tags e.layer.role d (slot_at e.layer.role d b) → m ≡ Idle
    idle_of Idle w = refl
    idle_of OwnCall w = absurd (none-some w.0.session (sym none ∙ w.0.up))
    idle_of FarCall w = absurd (none-some w.0.session (sym none ∙ w.0.up))
    idle_of Open w = absurd (none-some w.0.session (sym none ∙ w.0.up))

told_none : (e : End) (f : ℕ → History → History) (s c : ℕ) → e.session ≡ None → (told f e).histories s c ≡ e.histories s c
told_none e f s c none = ap (λ (o : Option ℕ). cond (is_session o s) (f c (e.histories s c)) (e.histories s c)) none

not_open : Idle ≡ Open → ⊥
not_open e = let h : ◌≡◌ {A = ℕ} 0 3 = ap status_number e in omega arith

not_far : Idle ≡ FarCall → ⊥
not_far e = let h : ◌≡◌ {A = ℕ} 0 2 = ap status_number e in omega arith

not_own : Idle ≡ OwnCall → ⊥
not_own e = let h : ◌≡◌ {A = ℕ} 0 1 = ap status_number e in omega arith

-- what is owed further changes nothing of this
owed_same : (x : Role) (d : ℕ) (ch : Channel) (st : Step) (told_ : History → History) (write : Book → Book) (trace : Book → List (Option ℕ) → List (Option ℕ)) → Outcome x d ch st.channel told_ write trace NoCalls → Outcome x d ch (owing st) told_ write trace NoCalls
owed_same x d ch st told_ write trace (stays m same h j) = stays m same h j
owed_same x d ch st told_ write trace (ends m uses h j) = ends m uses h j
owed_same x d ch st told_ write trace (ends_none m m' uses h j) = ends_none m m' uses h j
owed_same x d ch st told_ write trace (goes change m m' g r h j) = goes change m m' g r h j
owed_same x d ch st told_ write trace (connects m m' s h j) = connects m m' s h j
owed_same x d ch st told_ write trace (accepts m m' s h j) = accepts m m' s h j
owed_same x d ch st told_ write trace (call_comes parts c r m s h j) = absurd c
owed_same x d ch st told_ write trace (collides parts c z o m s h j) = absurd c

module _ (n : ℕ) (e y : End) (te ty : ℕ) (b : Book) (cs : List (Option ℕ)) (d : ℕ) (ch ch' : Channel) (l' : Layer) (f : ℕ → History → History) (k : KeptAt n e.layer.role e y te ty b cs) (none : e.session ≡ None) (idle : status_of e.layer.role ch.state ≡ Idle)
    (found : channel_of e.layer d ≡ Some ch) (chs : l'.channels ≡ with_nth e.layer.channels d ch') (role : l'.role ≡ e.layer.role) (phase : l'.phase ≡ e.layer.phase) where
  abbrev after : End
  after = moved_end e l' f e.accepted

  none_count : length l'.channels ≡ length e.layer.channels
  none_count = ap length chs ∙ put_length e.layer.channels d ch'

  status_else : (c : ℕ) → c ≢ d → status_at e.layer.role (channel_of l' c) ≡ status_at e.layer.role (channel_of e.layer c)
  status_else c h = ap (λ (l : List Channel). status_at e.layer.role (nth_channel l c)) chs ∙ ap (status_at e.layer.role) (put_else e.layer.channels d c ch' h)

  status_there : status_at e.layer.role (channel_of l' d) ≡ status_of e.layer.role ch'.state
  status_there = ap (λ (l : List Channel). status_at e.layer.role (nth_channel l d)) chs ∙ ap (status_at e.layer.role) (put_here e.layer.channels d ch ch' found)

  none_over : (b' : Book) → Closes e.layer.role b b' → ((c : ℕ) → c ≢ d → slot_at e.layer.role c b' ≡ slot_at e.layer.role c b) → (slot_at e.layer.role d b').present ≡ None → status_of e.layer.role ch'.state ≡ Idle → KeptAt n e.layer.role after y te ty b' cs
  none_over b' closed same present status = record {
    tags = k.tags;
    callers = k.callers;
    right = end_step e.layer.role e after y te te ty b b' k.tags (record {
      epochs = λ s c r u g. ap (λ (z : History). z.epochs r u g) (told_none e f s c none);
      begun = begun_rises e.layer.role e after (same_rises e) none_count;
      top = omega arith;
      up = λ s up. absurd (none-some s (sym none ∙ up));
      how = inl (record {
        session = refl;
        channels = λ c. elim (number_is c d) [
          | inl h ↦ inr (subst (λ (m : ℕ). IsOver (view_of e.layer.role e te) (view_of e.layer.role after te) m (slot_at e.layer.role m b) (slot_at e.layer.role m b')) (sym h)
              (record { status = status_there ∙ status; further = λ s up. absurd (none-some s (sym none ∙ up)); present = present }))
          | inr h ↦ inl (record {
            status = status_else c h;
            restart = λ s up. absurd (none-some s (sym none ∙ up));
            uses = λ s up. absurd (none-some s (sym none ∙ up));
            epoch = λ s up. absurd (none-some s (sym none ∙ up));
            slot_is = same c h;
          })
        ];
      });
      closed = closed;
    }) k.right;
    sizes = sized n b b' closed.size k.sizes;
    here = same_end_is n e after k.here refl (same_rises e) role phase none_count;
    there = k.there;
  }

  free_there : (slot_at e.layer.role d b).present ≡ None
  free_there = subst (λ (m : CallStatus). SlotIs m (view_of e.layer.role e te) k.tags e.layer.role d (slot_at e.layer.role d b)) (ap (status_at e.layer.role) found ∙ idle) (slot_of e.layer.role e y te ty b k.tags d k.right)

  pub none_step : (told_ : History → History) (write : Book → Book) (trace : Book → List (Option ℕ) → List (Option ℕ)) → Outcome e.layer.role d ch ch' told_ write trace NoCalls → KeptAt n e.layer.role after y te ty (write b) (trace b cs)
  none_step told_ write trace (stays m same h j) = kept_as n e.layer.role after y te ty _ (write b) _ (trace b cs) (h b) (j b cs) (none_over b (closes_none e.layer.role b) (λ c z. refl) free_there (m ∙ idle))
  none_step told_ write trace (ends m uses h j) = kept_as n e.layer.role after y te ty _ (write b) _ (trace b cs) (h b) (j b cs) (none_over (closes e.layer.role d b) (closes_one e.layer.role d b) (closed_else e.layer.role d b) (closed_here e.layer.role d b) m)
  none_step told_ write trace (ends_none m m' uses h j) = kept_as n e.layer.role after y te ty _ (write b) _ (trace b cs) (h b) (j b cs) (none_over b (closes_none e.layer.role b) (λ c z. refl) free_there m')
  none_step told_ write trace (goes change m m' g r h j) = absurd (not_open (sym idle ∙ m))
  none_step told_ write trace (connects m m' s h j) = absurd (not_own (sym idle ∙ m))
  none_step told_ write trace (accepts m m' s h j) = absurd (not_far (sym idle ∙ m))
  none_step told_ write trace (call_comes parts c r m s h j) = absurd c
  none_step told_ write trace (collides parts c x o m s h j) = absurd c

-- ---- a request

abbrev after_request : End → ℕ → Request → Option Channel → End
after_request e d r o = moved_end e (on_found e.layer d (λ ch. requested e.layer.role e.layer.flow ch r) o) (λ c st. cond (c == d) (found_history o (λ ch z. requested_history e.layer.role e.layer.flow ch r z) st) st) e.accepted

abbrev after_refusal : End → ℕ → Request → Channel → Option Refusal → End
after_refusal e d r ch o = moved_end e (after_step e.layer d (unless o (carried_out ch r) ch)) (λ c st. cond (c == d) (requested_history e.layer.role e.layer.flow ch r st) st) e.accepted

request_on : (n : ℕ) (e y : End) (te ty : ℕ) (b : Book) (cs : List (Option ℕ)) (d : ℕ) (r : Request) (ch : Channel) → KeptAt n e.layer.role e y te ty b cs → Facts n e y → channel_of e.layer d ≡ Some ch → (o : Option Refusal) → refusal e.layer.role e.layer.flow ch r ≡ o
    → (ses : Option ℕ) → e.session ≡ ses → KeptAt n e.layer.role (after_refusal e d r ch o) y te ty (unless_refused o (carried e.layer.role d r (front ch.traffic) b) b) cs
request_on n e y te ty b cs d r ch k facts found o refused (Some s) up =
    on_one n e y te ty b cs s d ch (owing (unless o (carried_out ch r) ch)) (unless o (carried_out ch r) ch).channel (after_step e.layer d (unless o (carried_out ch r) ch)) (λ c st. cond (c == d) (requested_history e.layer.role e.layer.flow ch r st) st) e.accepted
    (λ st. told_of o r ch st) (λ v. unless_refused o (carried e.layer.role d r (front ch.traffic) v) v) (λ v l. l) NoCalls k facts up found refl refl refl refl
    (λ st. here_history d (requested_history e.layer.role e.layer.flow ch r st) st ∙ told_is e.layer.role e.layer.flow ch r st ∙ ap (λ (z : Option Refusal). told_of z r ch st) refused) (λ c st h. else_history c d (requested_history e.layer.role e.layer.flow ch r st) st h) (same_rises e)
    (λ parts c h. absurd c) (asked_any e.layer.role e.layer.flow d ch r o refused)
request_on n e y te ty b cs d r ch k facts found o refused None none =
    none_step n e y te ty b cs d ch (owing (unless o (carried_out ch r) ch)) (after_step e.layer d (unless o (carried_out ch r) ch)) (λ c st. cond (c == d) (requested_history e.layer.role e.layer.flow ch r st) st) k none
    (no_session n e y te ty b cs d ch k found none) found refl refl refl (λ st. told_of o r ch st) (λ v. unless_refused o (carried e.layer.role d r (front ch.traffic) v) v) (λ v l. l)
    (owed_same e.layer.role d ch (unless o (carried_out ch r) ch) (λ st. told_of o r ch st) (λ v. unless_refused o (carried e.layer.role d r (front ch.traffic) v) v) (λ v l. l) (asked_any e.layer.role e.layer.flow d ch r o refused))

request_found : (n : ℕ) (e y : End) (te ty : ℕ) (b : Book) (cs : List (Option ℕ)) (d : ℕ) (r : Request) → KeptAt n e.layer.role e y te ty b cs → Facts n e y → (o : Option Channel) → channel_of e.layer d ≡ o
    → KeptAt n e.layer.role (after_request e d r o) y te ty (unless_refused (refusal_at e.layer.role e.layer.flow r o) (carried e.layer.role d r (front_at o) b) b) cs
request_found n e y te ty b cs d r k facts None found =
    still n e y te ty b cs e.layer (λ c st. cond (c == d) st st) e.accepted k (λ c. refl) (λ c st. either_way (λ (z : History). SameHistory st z) (c == d) st st (history_refl st) (history_refl st)) (same_rises e) refl
    (same_end_is n e (after_request e d r None) k.here refl (same_rises e) refl refl refl)
request_found n e y te ty b cs d r k facts (Some ch) found = request_on n e y te ty b cs d r ch k facts found (refusal e.layer.role e.layer.flow ch r) refl e.session refl

pub requests_kept : (n : ℕ) (e y : End) (te ty : ℕ) (b : Book) (cs : List (Option ℕ)) (d : ℕ) (r : Request) → KeptAt n e.layer.role e y te ty b cs → Facts n e y
    → KeptAt n e.layer.role (after_request e d r (channel_of e.layer d)) y te ty (unless_refused (request_refusal e.layer d r) (carried e.layer.role d r (front_on e.layer d) b) b) cs
requests_kept n e y te ty b cs d r k facts = request_found n e y te ty b cs d r k facts (channel_of e.layer d) refl
