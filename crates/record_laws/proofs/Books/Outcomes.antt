-- What a step of one channel comes to for its call, its history and the book.
use Rattle.std.specs.Prelude.{◌≡◌, ◌≢◌, ℕ, zero, suc, ◌+◌, ◌<◌, ◌≤◌, Bool, true, false, cond, not, ◌&&◌, ◌==◌, nat_le, nat_lt, List, [], ◌∷◌, ◌++◌, length, map, Option, Some, None}
use Rattle.std.proofs.Common.{inl, inr, refl, sym, ap, subst, ◌∙◌, arith, true≢false}
use Rattle.std.proofs.lemmas.Option.{none-some}
use Rattle.std.proofs.lemmas.Bool.{eqb-true, leb-true, le-leb, lt-leb}
use Rattle.link_timers.specs.declared.role.Role.{Role}
use Rattle.link_timers.specs.declared.role.Role.TheVariants.{Dte, Dce}
use Rattle.epochs.specs.Item.{DataPacket}
use Rattle.epochs.specs.Epoch.{SentEpoch, TakenEpoch, nothing_sent, nothing_taken}
use Rattle.data_transfer.specs.Packets.{CallParts, Datum, Body}
use Rattle.data_transfer.specs.Packets.Body.{Call, Accepted, Clear, ClearConfirmation, Data, Interrupt, InterruptConfirmation, ReceiveReady, ReceiveNotReady, Reset, ResetConfirmation}
use Rattle.data_transfer.specs.Packets.Note.{Covered}
use Rattle.data_transfer.specs.Traffic.{Traffic, Heard, Taken, front, may_release, in_flight, unreleased, interrupted, covers, keeps, arrives, partner_says, hears, covering}
use Rattle.data_transfer.specs.Traffic.Heard.{Keeps, Confirms, Wrong}
use Rattle.data_transfer.specs.Traffic.Taken.{TakenInterrupt, TakenPacket}
use Rattle.packet_channel.specs.Channel.{ChannelState, Channel, Request, Refusal, received, received_in, after_heard, in_own_reset, in_flow_ready, carried_out, refusal, refused_if, may_accept, in_transfer}
use Rattle.packet_channel.specs.Channel.Request.{Accept, Clearing, Resetting, Sending, Interrupting, Stopping, Taking, Releasing, Confirming}
use Rattle.packet_channel.specs.Channel.ChannelState.{Ready, OwnWaiting, FarWaiting, Transfer, Collision, OwnClear}
use Rattle.packet_laws.specs.History.{Epoch, History, opened, heard_history, received_history, grown, logged, logged_heard, with_taken, call_accepted, next_use_of, next_epoch_of}
use Rattle.packet_laws.specs.Counts.{NamesCounts}
use Rattle.packet_laws.specs.LayerLineLaw.{epoch_now}
use Rattle.packet_laws.proofs.Numbers.{covered_is_sent, released_is_taken, beyond_taken}
use Rattle.epochs.specs.Counted.{counted}
use Rattle.call_records.specs.Records.{RecordValue, with_sent, with_interrupt_sent, with_interrupt_taken, with_released, with_covered, with_epoch, changed_at}
use Rattle.call_records.specs.Records as records
use Rattle.call_records.specs.Book.{Book, slot_at, with_change, changed, answers, closes, packet_of, all_told}
use Rattle.call_records.specs.Book as book
use Rattle.link_timers.specs.Role.{other_of}
use Rattle.record_laws.specs.Books.Told.{carried, all_came_by}
use Rattle.record_laws.proofs.Books.Invariant.{HasEpochs, HasSent, HasTaken, sent_as, taken_as, own_sent, own_taken, sent_of, taken_of, passed_sent, passed_taken, nth_sent, nth_taken, all_sent, all_taken}
use Rattle.std.proofs.lemmas.List.{length-map}
use Rattle.data_transfer.specs.Flow.{modulus, shown, ahead_shown}
use Rattle.data_transfer.specs.declared.flow.Flow.{Flow}
use Rattle.record_laws.proofs.Books.Invariant.{CallStatus}
use Rattle.record_laws.proofs.Books.Invariant.CallStatus.{Idle, OwnCall, FarCall, Open}
use Rattle.record_laws.proofs.Books.Carrying.{SameHead}
use Rattle.record_laws.proofs.Books.Ending.{Further}
use Rattle.record_laws.proofs.Books.EndSteps.{status_of, HistoryGrows}
use Rattle.record_laws.proofs.Books.Steps.{SameHistory, history_refl}
use Rattle.record_laws.proofs.Books.Histories.{grown_cases, grown_keeps}
use Rattle.record_laws.proofs.Books.Basics.{length_pushed}

-- ---- what a step comes to

pub record EndsUse (st st' : History) : Type 0 where
  pub further : Further st st'
  pub epochs : (r u g : ℕ) → st'.epochs r u g ≡ st.epochs r u g

-- a record has what a history has in the present use of another one
pub record TellsIn (z st : History) (r : RecordValue) : Type 0 where
  pub sent : (g : ℕ) → HasSent (nth_sent (all_sent r) g) (sent_of (z.epochs st.restart st.use_ g))
  pub taken : (g : ℕ) → HasTaken (nth_taken (all_taken r) g) (taken_of (z.epochs st.restart st.use_ g))

-- the numbers of a channel in data transfer name the counts of an epoch
abbrev pub CountsOf : Channel → Epoch → Type 0
CountsOf ch e = in_transfer ch.state ≡ true → (flow : Flow) × (flow.window < modulus flow.numbering) × NamesCounts flow ch.traffic e

pub record RecordGrows (ch : Channel) (st st' : History) (r r' : RecordValue) : Type 0 where
  pub head : SameHead r r'
  pub closed : r'.closed ≡ r.closed
  pub tells : TellsIn st st r → HasEpochs r st.epoch → CountsOf ch (epoch_now st) → TellsIn st' st r'
  pub epochs : HasEpochs r st.epoch → HasEpochs r' st'.epoch

pub data Outcome (x : Role) (d : ℕ) (ch ch' : Channel) (told : History → History) (write : Book → Book) (trace : Book → List (Option ℕ) → List (Option ℕ)) (came : CallParts → Type 0) : Type 0 where
  stays : status_of x ch'.state ≡ status_of x ch.state → ((st : History) → SameHistory st (told st)) → ((b : Book) → write b ≡ b) → ((b : Book) (l : List (Option ℕ)) → trace b l ≡ l) → Outcome x d ch ch' told write trace came
  ends : status_of x ch'.state ≡ Idle → ((st : History) → EndsUse st (told st)) → ((b : Book) → write b ≡ closes x d b) → ((b : Book) (l : List (Option ℕ)) → trace b l ≡ l) → Outcome x d ch ch' told write trace came
  ends_none : status_of x ch.state ≡ Idle → status_of x ch'.state ≡ Idle → ((st : History) → EndsUse st (told st)) → ((b : Book) → write b ≡ b) → ((b : Book) (l : List (Option ℕ)) → trace b l ≡ l) → Outcome x d ch ch' told write trace came
  goes : (change : RecordValue → RecordValue) → status_of x ch.state ≡ Open → status_of x ch'.state ≡ Open → ((st : History) → HistoryGrows st (told st)) → ((st : History) (r : RecordValue) → RecordGrows ch st (told st) r (change r))
      → ((b : Book) → write b ≡ changed x d change b) → ((b : Book) (l : List (Option ℕ)) → trace b l ≡ l) → Outcome x d ch ch' told write trace came
  connects : status_of x ch.state ≡ OwnCall → status_of x ch'.state ≡ Open → ((st : History) → SameHistory st (told st)) → ((b : Book) → write b ≡ b) → ((b : Book) (l : List (Option ℕ)) → trace b l ≡ l) → Outcome x d ch ch' told write trace came
  accepts : status_of x ch.state ≡ FarCall → status_of x ch'.state ≡ Open → ((st : History) → told st ≡ call_accepted st) → ((b : Book) → write b ≡ answers x d b) → ((b : Book) (l : List (Option ℕ)) → trace b l ≡ l) → Outcome x d ch ch' told write trace came
  comes : (parts : CallParts) → came parts → ch.state ≡ Ready → status_of x ch'.state ≡ FarCall → ((st : History) → SameHistory st (told st)) → ((b : Book) → write b ≡ book.comes x d parts b) → ((b : Book) (l : List (Option ℕ)) → trace b l ≡ l ++ (slot_at (other_of x) d b).placed ∷ []) → Outcome x d ch ch' told write trace came
  collides : (parts : CallParts) → came parts → x ≡ Dce → ch.state ≡ OwnWaiting → status_of x ch'.state ≡ FarCall → ((st : History) → SameHistory st (told st)) → ((b : Book) → write b ≡ book.comes x d parts (closes x d b)) → ((b : Book) (l : List (Option ℕ)) → trace b l ≡ l ++ (slot_at (other_of x) d (closes x d b)).placed ∷ []) → Outcome x d ch ch' told write trace came

pub next_use : (st : History) → EndsUse st (next_use_of st)
next_use st = record { further = inr (refl, omega arith); epochs = λ r u g. refl }

-- ---- lists of epochs

nth_more : (es : List SentEpoch) (g : ℕ) → nth_sent (es ++ nothing_sent ∷ []) g ≡ nth_sent es g
nth_more [] zero = refl
nth_more [] (suc g) = refl
nth_more (e ∷ es) zero = refl
nth_more (e ∷ es) (suc g) = nth_more es g

nth_more_taken : (es : List TakenEpoch) (g : ℕ) → nth_taken (es ++ nothing_taken ∷ []) g ≡ nth_taken es g
nth_more_taken [] zero = refl
nth_more_taken [] (suc g) = refl
nth_more_taken (e ∷ es) zero = refl
nth_more_taken (e ∷ es) (suc g) = nth_more_taken es g

pub nth_at : (es : List SentEpoch) (e : SentEpoch) → nth_sent (es ++ e ∷ []) (length es) ≡ passed_sent e
nth_at [] e = refl
nth_at (f ∷ es) e = nth_at es e

pub nth_at_taken : (es : List TakenEpoch) (e : TakenEpoch) → nth_taken (es ++ e ∷ []) (length es) ≡ passed_taken e
nth_at_taken [] e = refl
nth_at_taken (f ∷ es) e = nth_at_taken es e

nth_else : (es : List SentEpoch) (e f : SentEpoch) (g : ℕ) → g ≢ length es → nth_sent (es ++ e ∷ []) g ≡ nth_sent (es ++ f ∷ []) g
nth_else [] e f zero h = absurd (h refl)
nth_else [] e f (suc g) h = refl
nth_else (a ∷ es) e f zero h = refl
nth_else (a ∷ es) e f (suc g) h = nth_else es e f g (λ k. h (ap suc k))

nth_else_taken : (es : List TakenEpoch) (e f : TakenEpoch) (g : ℕ) → g ≢ length es → nth_taken (es ++ e ∷ []) g ≡ nth_taken (es ++ f ∷ []) g
nth_else_taken [] e f zero h = absurd (h refl)
nth_else_taken [] e f (suc g) h = refl
nth_else_taken (a ∷ es) e f zero h = refl
nth_else_taken (a ∷ es) e f (suc g) h = nth_else_taken es e f g (λ k. h (ap suc k))

-- ---- records that grow

-- a reset opens an epoch
pub record OpensEpoch (st st' : History) : Type 0 where
  pub restart : st'.restart ≡ st.restart
  pub uses : st'.use_ ≡ st.use_
  pub epoch : st'.epoch ≡ suc st.epoch
  pub epochs : (r u g : ℕ) → st'.epochs r u g ≡ st.epochs r u g

opens_grows : (st st' : History) → OpensEpoch st st' → HistoryGrows st st'
opens_grows st st' o = record {
  restart = o.restart;
  uses = o.uses;
  calls = λ r u g. (ap (λ (e : Epoch). e.called) (o.epochs r u g), ap (λ (e : Epoch). e.answered) (o.epochs r u g));
  logs = λ r u g h. o.epochs r u g;
}

opens_record : (ch : Channel) (st st' : History) (r : RecordValue) → OpensEpoch st st' → RecordGrows ch st st' r (with_epoch r)
opens_record ch st st' r o = record {
  head = record { number = refl; node = refl; own = refl; far = refl; caller = refl };
  closed = refl;
  tells = λ t h w. record {
    sent = λ g. own_sent _ _ _ (nth_more (all_sent r) g) (sent_as _ _ _ (ap sent_of (o.epochs st.restart st.use_ g)) (t.sent g));
    taken = λ g. own_taken _ _ _ (nth_more_taken (all_taken r) g) (taken_as _ _ _ (ap taken_of (o.epochs st.restart st.use_ g)) (t.taken g));
  };
  epochs = λ h. record {
    sent = length_pushed r.sent_before r.sent ∙ ap suc h.sent ∙ sym o.epoch;
    taken = length_pushed r.taken_before r.taken ∙ ap suc h.taken ∙ sym o.epoch;
  };
}

pub opens : (st : History) → OpensEpoch st (next_epoch_of st)
opens st = record { restart = refl; uses = refl; epoch = omega arith; epochs = λ r u g. refl }

-- what is sent or taken in the present epoch
pub record GrowsBy (ch : Channel) (f : Epoch → Epoch) (change : RecordValue → RecordValue) : Type 0 where
  pub called : (e : Epoch) → (f e).called ≡ e.called
  pub answered : (e : Epoch) → (f e).answered ≡ e.answered
  pub head : (r : RecordValue) → SameHead r (change r)
  pub closed : (r : RecordValue) → (change r).closed ≡ r.closed
  pub sent_before : (r : RecordValue) → (change r).sent_before ≡ r.sent_before
  pub taken_before : (r : RecordValue) → (change r).taken_before ≡ r.taken_before
  pub sent : (r : RecordValue) (e : Epoch) → CountsOf ch e → HasSent (passed_sent r.sent) (sent_of e) → HasSent (passed_sent (change r).sent) (sent_of (f e))
  pub taken : (r : RecordValue) (e : Epoch) → CountsOf ch e → HasTaken (passed_taken r.taken) (taken_of e) → HasTaken (passed_taken (change r).taken) (taken_of (f e))

grown_grows : (ch : Channel) (f : Epoch → Epoch) (change : RecordValue → RecordValue) → GrowsBy ch f change → (st : History) → HistoryGrows st (grown f st)
grown_grows ch f change q st = record {
  restart = refl;
  uses = refl;
  calls = λ r u g. (grown_keeps (λ e. e.called) f st q.called r u g, grown_keeps (λ e. e.answered) f st q.answered r u g);
  logs = λ r u g h. elim (grown_cases f st r u g) [
    | inl a ↦ absurd (h (a.0.0, a.0.1))
    | inr a ↦ a.1
  ];
}

counts_now : (ch : Channel) (st : History) (g : ℕ) → g ≡ st.epoch → CountsOf ch (epoch_now st) → CountsOf ch (st.epochs st.restart st.use_ g)
counts_now ch st g at w = subst (λ (i : ℕ). CountsOf ch (st.epochs st.restart st.use_ i)) (sym at) w

grown_sent : (ch : Channel) (f : Epoch → Epoch) (change : RecordValue → RecordValue) → GrowsBy ch f change → (st : History) (r : RecordValue) → TellsIn st st r → HasEpochs r st.epoch → CountsOf ch (epoch_now st) → (g : ℕ) → HasSent (nth_sent (all_sent (change r)) g) (sent_of ((grown f st).epochs st.restart st.use_ g))
grown_sent ch f change q st r t h w g =
    elim (grown_cases f st st.restart st.use_ g) [
      | inl a ↦
          let at : g ≡ length r.sent_before = a.0.2 ∙ sym h.sent in
          let now : HasSent (passed_sent r.sent) (sent_of (st.epochs st.restart st.use_ g)) = own_sent _ _ _ (sym (nth_at r.sent_before r.sent) ∙ ap (λ (n : ℕ). nth_sent (all_sent r) n) (sym at)) (t.sent g) in
          own_sent (passed_sent (change r).sent) _ _ (ap (λ (l : List SentEpoch). nth_sent (l ++ (change r).sent ∷ []) g) (q.sent_before r) ∙ ap (λ (n : ℕ). nth_sent (r.sent_before ++ (change r).sent ∷ []) n) at ∙ nth_at r.sent_before (change r).sent)
          (sent_as _ _ _ (ap sent_of a.1) (q.sent r (st.epochs st.restart st.use_ g) (counts_now ch st g a.0.2 w) now))
      | inr a ↦
          let other : g ≢ length r.sent_before = λ k. a.0 (refl, refl, k ∙ h.sent) in
          own_sent _ _ _ (ap (λ (l : List SentEpoch). nth_sent (l ++ (change r).sent ∷ []) g) (q.sent_before r) ∙ nth_else r.sent_before (change r).sent r.sent g other)
          (sent_as _ _ _ (ap sent_of a.1) (t.sent g))
    ]

grown_taken : (ch : Channel) (f : Epoch → Epoch) (change : RecordValue → RecordValue) → GrowsBy ch f change → (st : History) (r : RecordValue) → TellsIn st st r → HasEpochs r st.epoch → CountsOf ch (epoch_now st) → (g : ℕ) → HasTaken (nth_taken (all_taken (change r)) g) (taken_of ((grown f st).epochs st.restart st.use_ g))
grown_taken ch f change q st r t h w g =
    elim (grown_cases f st st.restart st.use_ g) [
      | inl a ↦
          let at : g ≡ length r.taken_before = a.0.2 ∙ sym h.taken in
          let now : HasTaken (passed_taken r.taken) (taken_of (st.epochs st.restart st.use_ g)) = own_taken _ _ _ (sym (nth_at_taken r.taken_before r.taken) ∙ ap (λ (n : ℕ). nth_taken (all_taken r) n) (sym at)) (t.taken g) in
          own_taken (passed_taken (change r).taken) _ _ (ap (λ (l : List TakenEpoch). nth_taken (l ++ (change r).taken ∷ []) g) (q.taken_before r) ∙ ap (λ (n : ℕ). nth_taken (r.taken_before ++ (change r).taken ∷ []) n) at ∙ nth_at_taken r.taken_before (change r).taken)
          (taken_as _ _ _ (ap taken_of a.1) (q.taken r (st.epochs st.restart st.use_ g) (counts_now ch st g a.0.2 w) now))
      | inr a ↦
          let other : g ≢ length r.taken_before = λ k. a.0 (refl, refl, k ∙ h.taken) in
          own_taken _ _ _ (ap (λ (l : List TakenEpoch). nth_taken (l ++ (change r).taken ∷ []) g) (q.taken_before r) ∙ nth_else_taken r.taken_before (change r).taken r.taken g other)
          (taken_as _ _ _ (ap taken_of a.1) (t.taken g))
    ]

grown_record : (ch : Channel) (f : Epoch → Epoch) (change : RecordValue → RecordValue) → GrowsBy ch f change → (st : History) (r : RecordValue) → RecordGrows ch st (grown f st) r (change r)
grown_record ch f change q st r = record {
  head = q.head r;
  closed = q.closed r;
  tells = λ t h w. record { sent = grown_sent ch f change q st r t h w; taken = grown_taken ch f change q st r t h w };
  epochs = λ h. record { sent = ap length (q.sent_before r) ∙ h.sent; taken = ap length (q.taken_before r) ∙ h.taken };
}

-- a growth by nothing
grown_same : (f : Epoch → Epoch) → ((e : Epoch) → f e ≡ e) → (st : History) → SameHistory st (grown f st)
grown_same f h st = record { restart = refl; uses = refl; epoch = refl; epochs = grown_keeps (λ e. e) f st h }

map_pushed : (ds : List Datum) (d : Datum) → map packet_of (ds ++ d ∷ []) ≡ map packet_of ds ++ packet_of d ∷ []
map_pushed [] d = refl
map_pushed (x ∷ ds) d = ap (λ (l : List DataPacket). packet_of x ∷ l) (map_pushed ds d)

-- ---- counts

-- a count goes on where it passes no more than there is, and only there
counted_all : (all count n : ℕ) → count + n ≤ all → counted all count n ≡ count + n
counted_all all count n h = ap (λ (v : Bool). cond v (count + n) count) (le-leb (count + n) all h)

counted_none : (all count n : ℕ) → all < count + n → counted all count n ≡ count
counted_none all count n h = ap (λ (v : Bool). cond v (count + n) count) (lt-leb (count + n) all h)

by_sending : (ch : Channel) (d : Datum) → GrowsBy ch (λ e. record e { sent = e.sent ++ d ∷ [] }) (λ r. with_sent (packet_of d) r)
by_sending ch d = record {
  called = λ e. refl;
  answered = λ e. refl;
  head = λ r. record { number = refl; node = refl; own = refl; far = refl; caller = refl };
  closed = λ r. refl;
  sent_before = λ r. refl;
  taken_before = λ r. refl;
  sent = λ r e w h. record {
    packets = ap (λ (l : List DataPacket). l ++ packet_of d ∷ []) h.packets ∙ sym (map_pushed e.sent d);
    interrupts = h.interrupts;
    count = h.count;
  };
  taken = λ r e w h. h;
}

by_interrupting : (ch : Channel) (octets : List ℕ) → GrowsBy ch (λ e. record e { interrupts_sent = e.interrupts_sent ++ octets ∷ [] }) (λ r. with_interrupt_sent octets r)
by_interrupting ch octets = record {
  called = λ e. refl;
  answered = λ e. refl;
  head = λ r. record { number = refl; node = refl; own = refl; far = refl; caller = refl };
  closed = λ r. refl;
  sent_before = λ r. refl;
  taken_before = λ r. refl;
  sent = λ r e w h. record { packets = h.packets; interrupts = ap (λ (l : List (List ℕ)). l ++ octets ∷ []) h.interrupts; count = h.count };
  taken = λ r e w h. h;
}

by_taking : (ch : Channel) (d : Datum) → GrowsBy ch (λ e. record e { taken = e.taken ++ d ∷ [] }) (λ r. records.with_taken (packet_of d) r)
by_taking ch d = record {
  called = λ e. refl;
  answered = λ e. refl;
  head = λ r. record { number = refl; node = refl; own = refl; far = refl; caller = refl };
  closed = λ r. refl;
  sent_before = λ r. refl;
  taken_before = λ r. refl;
  sent = λ r e w h. h;
  taken = λ r e w h. record {
    packets = ap (λ (l : List DataPacket). l ++ packet_of d ∷ []) h.packets ∙ sym (map_pushed e.taken d);
    interrupts = h.interrupts;
    count = h.count;
  };
}

by_interrupt_taken : (ch : Channel) (octets : List ℕ) → GrowsBy ch (λ e. record e { interrupts_taken = e.interrupts_taken ++ octets ∷ [] }) (λ r. with_interrupt_taken octets r)
by_interrupt_taken ch octets = record {
  called = λ e. refl;
  answered = λ e. refl;
  head = λ r. record { number = refl; node = refl; own = refl; far = refl; caller = refl };
  closed = λ r. refl;
  sent_before = λ r. refl;
  taken_before = λ r. refl;
  sent = λ r e w h. h;
  taken = λ r e w h. record { packets = h.packets; interrupts = ap (λ (l : List (List ℕ)). l ++ octets ∷ []) h.interrupts; count = h.count };
}

by_covering : (ch : Channel) (n : ℕ) → in_transfer ch.state ≡ true → n ≤ in_flight ch.traffic → GrowsBy ch (λ e. record e { covered = e.covered + n }) (λ r. with_covered n r)
by_covering ch n open_ fits = record {
  called = λ e. refl;
  answered = λ e. refl;
  head = λ r. record { number = refl; node = refl; own = refl; far = refl; caller = refl };
  closed = λ r. refl;
  sent_before = λ r. refl;
  taken_before = λ r. refl;
  sent = λ r e w h.
      let k = w open_ in
      let within : e.covered + n ≤ length (map packet_of e.sent) = subst (λ (i : ℕ). e.covered + n ≤ i) (sym (length-map e.sent packet_of)) (covered_is_sent k.0 n ch.traffic e k.1 k.2 fits) in
      record {
        packets = h.packets;
        interrupts = h.interrupts;
        count = ap (λ (l : List DataPacket). counted (length l) r.sent.covered n) h.packets
            ∙ ap (λ (i : ℕ). counted (length (map packet_of e.sent)) i n) h.count ∙ counted_all (length (map packet_of e.sent)) e.covered n within;
      };
  taken = λ r e w h. h;
}

by_covering_none : (ch : Channel) (n : ℕ) → n ≡ 0 → GrowsBy ch (λ e. record e { covered = e.covered + n }) (λ r. r)
by_covering_none ch n none = record {
  called = λ e. refl;
  answered = λ e. refl;
  head = λ r. record { number = refl; node = refl; own = refl; far = refl; caller = refl };
  closed = λ r. refl;
  sent_before = λ r. refl;
  taken_before = λ r. refl;
  sent = λ r e w h. record { packets = h.packets; interrupts = h.interrupts; count = let old = h.count in omega arith };
  taken = λ r e w h. h;
}

-- the record counts a release where the packet layer does
by_releasing : (ch : Channel) (v : Bool) (n : ℕ) → in_transfer ch.state ≡ true → may_release n ch.traffic ≡ v → GrowsBy ch (λ e. cond v (record e { released = e.released + n }) e) (λ r. with_released n r)
by_releasing ch true n open_ may = record {
  called = λ e. refl;
  answered = λ e. refl;
  head = λ r. record { number = refl; node = refl; own = refl; far = refl; caller = refl };
  closed = λ r. refl;
  sent_before = λ r. refl;
  taken_before = λ r. refl;
  sent = λ r e w h. h;
  taken = λ r e w h.
      let k = w open_ in
      let within : e.released + n ≤ length (map packet_of e.taken) = subst (λ (i : ℕ). e.released + n ≤ i) (sym (length-map e.taken packet_of)) (released_is_taken k.0 n ch.traffic e k.1 k.2 may) in
      record {
        packets = h.packets;
        interrupts = h.interrupts;
        count = ap (λ (l : List DataPacket). counted (length l) r.taken.released n) h.packets
            ∙ ap (λ (i : ℕ). counted (length (map packet_of e.taken)) i n) h.count ∙ counted_all (length (map packet_of e.taken)) e.released n within;
      };
}
by_releasing ch false n open_ may = record {
  called = λ e. refl;
  answered = λ e. refl;
  head = λ r. record { number = refl; node = refl; own = refl; far = refl; caller = refl };
  closed = λ r. refl;
  sent_before = λ r. refl;
  taken_before = λ r. refl;
  sent = λ r e w h. h;
  taken = λ r e w h.
      let k = w open_ in
      let beyond : length (map packet_of e.taken) < e.released + n = subst (λ (i : ℕ). i < e.released + n) (sym (length-map e.taken packet_of)) (beyond_taken k.0 n ch.traffic e k.1 k.2 may) in
      record {
        packets = h.packets;
        interrupts = h.interrupts;
        count = ap (λ (l : List DataPacket). counted (length l) r.taken.released n) h.packets
            ∙ ap (λ (i : ℕ). counted (length (map packet_of e.taken)) i n) h.count ∙ counted_none (length (map packet_of e.taken)) e.released n beyond;
      };
}

-- ---- a record that does not change

changed_same : (n : ℕ) (rs : List RecordValue) → changed_at n (λ r. r) rs ≡ rs
changed_same n [] = refl
changed_same zero (r ∷ rs) = refl
changed_same (suc n) (r ∷ rs) = ap (λ (l : List RecordValue). r ∷ l) (changed_same n rs)

unchanged : (o : Option ℕ) (b : Book) → b ≡ with_change o (λ r. r) b
unchanged None b = refl
unchanged (Some n) b = ap (λ (l : List RecordValue). record b { records = l }) (sym (changed_same n b.records))

-- ---- a packet that comes in

abbrev Got : ChannelState → Role → Flow → ℕ → Channel → Body → Type 0
Got s x flow d ch body = Outcome x d ch (received_in s x flow d ch body).channel (λ st. opened (received_in s x flow d ch body).owes (heard_history s ch.resetting (hears flow ch.traffic body) st))
    (λ b. all_told x (received_in s x flow d ch body).notes b) (λ b l. all_came_by x (received_in s x flow d ch body).notes b l) (λ parts. body ≡ Call parts)

got_ready : (x : Role) (flow : Flow) (d : ℕ) (ch : Channel) → ch.state ≡ Ready → (body : Body) → Got Ready x flow d ch body
got_ready x flow d ch e (Call parts) = comes parts refl e refl (λ st. history_refl st) (λ b. refl) (λ b l. refl)
got_ready x flow d ch e (Clear cause diagnostic) = ends_none (ap (status_of x) e) (ap (status_of x) e) next_use (λ b. refl) (λ b l. refl)
got_ready x flow d ch e body = ends_none (ap (status_of x) e) refl next_use (λ b. refl) (λ b l. refl)

got_call : (x : Role) (flow : Flow) (d : ℕ) (ch : Channel) → ch.state ≡ OwnWaiting → (parts : CallParts) → Got OwnWaiting x flow d ch (Call parts)
got_call Dte flow d ch e parts = stays (sym (ap (status_of Dte) e)) (λ st. history_refl st) (λ b. refl) (λ b l. refl)
got_call Dce flow d ch e parts = collides parts refl refl e refl (λ st. history_refl st) (λ b. refl) (λ b l. refl)

got_own_waiting : (x : Role) (flow : Flow) (d : ℕ) (ch : Channel) → ch.state ≡ OwnWaiting → (body : Body) → Got OwnWaiting x flow d ch body
got_own_waiting x flow d ch e Accepted = connects (ap (status_of x) e) refl (λ st. history_refl st) (λ b. refl) (λ b l. refl)
got_own_waiting x flow d ch e (Call parts) = got_call x flow d ch e parts
got_own_waiting x flow d ch e (Clear cause diagnostic) = ends refl next_use (λ b. refl) (λ b l. refl)
got_own_waiting x flow d ch e body = ends refl next_use (λ b. refl) (λ b l. refl)

got_far_waiting : (x : Role) (flow : Flow) (d : ℕ) (ch : Channel) → (body : Body) → Got FarWaiting x flow d ch body
got_far_waiting x flow d ch (Clear cause diagnostic) = ends refl next_use (λ b. refl) (λ b l. refl)
got_far_waiting x flow d ch body = ends refl next_use (λ b. refl) (λ b l. refl)

got_collision : (x : Role) (flow : Flow) (d : ℕ) (ch : Channel) → ch.state ≡ Collision → (body : Body) → Got Collision x flow d ch body
got_collision Dte flow d ch e Accepted = connects (ap (status_of Dte) e) refl (λ st. history_refl st) (λ b. refl) (λ b l. refl)
got_collision Dte flow d ch e (Clear cause diagnostic) = ends refl next_use (λ b. refl) (λ b l. refl)
got_collision Dte flow d ch e body = ends refl next_use (λ b. refl) (λ b l. refl)
got_collision Dce flow d ch e (Clear cause diagnostic) = ends refl next_use (λ b. refl) (λ b l. refl)
got_collision Dce flow d ch e body = ends refl next_use (λ b. refl) (λ b l. refl)

got_own_clear : (x : Role) (flow : Flow) (d : ℕ) (ch : Channel) → ch.state ≡ OwnClear → (body : Body) → Got OwnClear x flow d ch body
got_own_clear x flow d ch e (Clear cause diagnostic) = stays (sym (ap (status_of x) e)) (λ st. history_refl st) (λ b. refl) (λ b l. refl)
got_own_clear x flow d ch e ClearConfirmation = stays (sym (ap (status_of x) e)) (λ st. history_refl st) (λ b. refl) (λ b l. refl)
got_own_clear x flow d ch e body = stays refl (λ st. history_refl st) (λ b. refl) (λ b l. refl)

-- in data transfer
abbrev GotIn : Bool → Role → Flow → ℕ → Channel → Body → Type 0
GotIn v x flow d ch body = Outcome x d ch (cond v (in_own_reset x d ch body) (in_flow_ready x flow d ch body)).channel
    (λ st. opened (cond v (in_own_reset x d ch body) (in_flow_ready x flow d ch body)).owes (heard_history Transfer v (hears flow ch.traffic body) st))
    (λ b. all_told x (cond v (in_own_reset x d ch body) (in_flow_ready x flow d ch body)).notes b) (λ b l. all_came_by x (cond v (in_own_reset x d ch body) (in_flow_ready x flow d ch body)).notes b l) (λ parts. body ≡ Call parts)

got_resetting : (x : Role) (flow : Flow) (d : ℕ) (ch : Channel) → (body : Body) → GotIn true x flow d ch body
got_resetting x flow d ch (Clear cause diagnostic) = ends refl next_use (λ b. refl) (λ b l. refl)
got_resetting x flow d ch (Reset cause diagnostic) = stays refl (λ st. history_refl st) (λ b. refl) (λ b l. refl)
got_resetting x flow d ch ResetConfirmation = stays refl (λ st. history_refl st) (λ b. refl) (λ b l. refl)
got_resetting x flow d ch (Data send receive datum) = stays refl (λ st. history_refl st) (λ b. refl) (λ b l. refl)
got_resetting x flow d ch (ReceiveReady receive) = stays refl (λ st. history_refl st) (λ b. refl) (λ b l. refl)
got_resetting x flow d ch (ReceiveNotReady receive) = stays refl (λ st. history_refl st) (λ b. refl) (λ b l. refl)
got_resetting x flow d ch (Interrupt octets) = stays refl (λ st. history_refl st) (λ b. refl) (λ b l. refl)
got_resetting x flow d ch InterruptConfirmation = stays refl (λ st. history_refl st) (λ b. refl) (λ b l. refl)
got_resetting x flow d ch body = ends refl next_use (λ b. refl) (λ b l. refl)

-- a reset, by either end
resets : (x : Role) (d : ℕ) (ch ch' : Channel) (write : Book → Book) (trace : Book → List (Option ℕ) → List (Option ℕ)) (came : CallParts → Type 0) → status_of x ch.state ≡ Open → status_of x ch'.state ≡ Open → ((b : Book) → write b ≡ changed x d with_epoch b)
    → ((b : Book) (l : List (Option ℕ)) → trace b l ≡ l) → Outcome x d ch ch' (λ st. next_epoch_of st) write trace came
resets x d ch ch' write trace came e f h j = goes with_epoch e f (λ st. opens_grows st (next_epoch_of st) (opens st)) (λ st r. opens_record ch st (next_epoch_of st) r (opens st)) h j

-- what is heard covers no more than is in flight
abbrev Fits : Traffic → Heard → Type 0
Fits t (Keeps n u) = n ≤ in_flight t
Fits t (Confirms u) = Unit {0}
Fits t (Wrong diagnostic) = Unit {0}

kept_fits : (t : Traffic) (f : Traffic → Traffic) (h : Heard) → Fits t h → Fits t (keeps f h)
kept_fits t f (Keeps n u) h = h
kept_fits t f (Confirms u) h = h
kept_fits t f (Wrong diagnostic) h = h

covers_fits : (flow : Flow) (receive : ℕ) (t : Traffic) → Fits t (covers flow receive t)
covers_fits flow receive t = by (nat_le (ahead_shown flow.numbering t.covered receive) (in_flight t)) _ (λ h. leb-true (ahead_shown flow.numbering t.covered receive) (in_flight t) h)
  where
    by : (v : Bool) (d : ℕ) → (v ≡ true → ahead_shown flow.numbering t.covered receive ≤ in_flight t)
        → Fits t (cond v (Keeps (ahead_shown flow.numbering t.covered receive) (covering (ahead_shown flow.numbering t.covered receive) t)) (Wrong d))
    by true d h = h refl
    by false d h = tt

if_fits : (t : Traffic) (v : Bool) (a b : Heard) → Fits t a → Fits t b → Fits t (cond v a b)
if_fits t true a b h k = h
if_fits t false a b h k = k

hears_fits : (flow : Flow) (t : Traffic) (body : Body) → Fits t (hears flow t body)
hears_fits flow t (Data send receive datum) =
    if_fits t ((send == shown flow.numbering t.receive_number) && nat_lt (unreleased t) flow.window) (keeps (λ u. arrives datum u) (covers flow receive t)) (Wrong _)
    (kept_fits t (λ u. arrives datum u) (covers flow receive t) (covers_fits flow receive t)) tt
hears_fits flow t (ReceiveReady receive) = kept_fits t (λ u. partner_says false u) (covers flow receive t) (covers_fits flow receive t)
hears_fits flow t (ReceiveNotReady receive) = kept_fits t (λ u. partner_says true u) (covers flow receive t) (covers_fits flow receive t)
hears_fits flow t (Interrupt octets) = if_fits t (interrupted t) (Wrong _) (Keeps 0 (record t { interrupt_arrived = Some octets })) tt (omega arith)
hears_fits flow t InterruptConfirmation = if_fits t t.interrupt_unconfirmed (Confirms (record t { interrupt_unconfirmed = false })) (Wrong _) tt tt
hears_fits flow t body = tt

-- where the status is that of a call in data transfer, so is the state
abbrev is_open : CallStatus → Bool
is_open Open = true
is_open s = false

flows : (x : Role) (s : ChannelState) → status_of x s ≡ Open → in_transfer s ≡ true
flows x Transfer e = refl
flows x Ready e = absurd (true≢false (sym (ap is_open e)))
flows x OwnClear e = absurd (true≢false (sym (ap is_open e)))
flows x OwnWaiting e = absurd (true≢false (sym (ap is_open e)))
flows x FarWaiting e = absurd (true≢false (sym (ap is_open e)))
flows Dte Collision e = absurd (true≢false (sym (ap is_open e)))
flows Dce Collision e = absurd (true≢false (sym (ap is_open e)))

got_keeps : (v : Bool) (x : Role) (d n : ℕ) (ch : Channel) (t : Traffic) (came : CallParts → Type 0) → status_of x ch.state ≡ Open → n ≤ in_flight ch.traffic → (v ≡ true → n ≡ 0)
    → Outcome x d ch (record ch { traffic = t }) (λ st. grown (λ e. logged_heard (Keeps n t) e) st) (λ b. all_told x (cond v [] (Covered d n ∷ [])) b) (λ b l. all_came_by x (cond v [] (Covered d n ∷ [])) b l) came
got_keeps true x d n ch t came e fits z = goes (λ r. r) e e (grown_grows ch (λ z. record z { covered = z.covered + n }) (λ r. r) (by_covering_none ch n (z refl))) (grown_record ch (λ z. record z { covered = z.covered + n }) (λ r. r) (by_covering_none ch n (z refl)))
    (λ b. unchanged (slot_at x d b).present b) (λ b l. refl)
got_keeps false x d n ch t came e fits z = goes (λ r. with_covered n r) e e (grown_grows ch (λ z. record z { covered = z.covered + n }) (λ r. with_covered n r) (by_covering ch n (flows x ch.state e) fits)) (grown_record ch (λ z. record z { covered = z.covered + n }) (λ r. with_covered n r) (by_covering ch n (flows x ch.state e) fits))
    (λ b. refl) (λ b l. refl)

got_heard : (x : Role) (d : ℕ) (ch : Channel) (came : CallParts → Type 0) → status_of x ch.state ≡ Open → (h : Heard) → Fits ch.traffic h
    → Outcome x d ch (after_heard x d ch h).channel (λ st. opened (after_heard x d ch h).owes (heard_history Transfer false h st)) (λ b. all_told x (after_heard x d ch h).notes b) (λ b l. all_came_by x (after_heard x d ch h).notes b l) came
got_heard x d ch came e (Keeps n t) fits = got_keeps (n == 0) x d n ch t came e fits (λ h. eqb-true n 0 h)
got_heard x d ch came e (Confirms t) fits = stays refl (grown_same (λ z. z) (λ z. refl)) (λ b. refl) (λ b l. refl)
got_heard x d ch came e (Wrong diagnostic) fits = resets x d ch (record ch { resetting = true; traffic = Rattle.data_transfer.specs.Traffic.fresh }) (λ b. all_told x (after_heard x d ch (Wrong diagnostic)).notes b) (λ b l. all_came_by x (after_heard x d ch (Wrong diagnostic)).notes b l) came e e (λ b. refl) (λ b l. refl)

got_ready_flow : (x : Role) (flow : Flow) (d : ℕ) (ch : Channel) → status_of x ch.state ≡ Open → (body : Body) → GotIn false x flow d ch body
got_ready_flow x flow d ch e (Clear cause diagnostic) = ends refl next_use (λ b. refl) (λ b l. refl)
got_ready_flow x flow d ch e (Reset cause diagnostic) = resets x d ch (in_flow_ready x flow d ch (Reset cause diagnostic)).channel (λ b. all_told x (in_flow_ready x flow d ch (Reset cause diagnostic)).notes b) (λ b l. all_came_by x (in_flow_ready x flow d ch (Reset cause diagnostic)).notes b l) (λ parts. Reset cause diagnostic ≡ Call parts) e e (λ b. refl) (λ b l. refl)
got_ready_flow x flow d ch e ResetConfirmation = resets x d ch (in_flow_ready x flow d ch ResetConfirmation).channel (λ b. all_told x (in_flow_ready x flow d ch ResetConfirmation).notes b) (λ b l. all_came_by x (in_flow_ready x flow d ch ResetConfirmation).notes b l) (λ parts. ResetConfirmation ≡ Call parts) e e (λ b. refl) (λ b l. refl)
got_ready_flow x flow d ch e (Data send receive datum) = got_heard x d ch (λ parts. Data send receive datum ≡ Call parts) e (hears flow ch.traffic (Data send receive datum)) (hears_fits flow ch.traffic (Data send receive datum))
got_ready_flow x flow d ch e (ReceiveReady receive) = got_heard x d ch (λ parts. ReceiveReady receive ≡ Call parts) e (hears flow ch.traffic (ReceiveReady receive)) (hears_fits flow ch.traffic (ReceiveReady receive))
got_ready_flow x flow d ch e (ReceiveNotReady receive) = got_heard x d ch (λ parts. ReceiveNotReady receive ≡ Call parts) e (hears flow ch.traffic (ReceiveNotReady receive)) (hears_fits flow ch.traffic (ReceiveNotReady receive))
got_ready_flow x flow d ch e (Interrupt octets) = got_heard x d ch (λ parts. Interrupt octets ≡ Call parts) e (hears flow ch.traffic (Interrupt octets)) (hears_fits flow ch.traffic (Interrupt octets))
got_ready_flow x flow d ch e InterruptConfirmation = got_heard x d ch (λ parts. InterruptConfirmation ≡ Call parts) e (hears flow ch.traffic InterruptConfirmation) (hears_fits flow ch.traffic InterruptConfirmation)
got_ready_flow x flow d ch e body = ends refl next_use (λ b. refl) (λ b l. refl)

got_transfer : (v : Bool) (x : Role) (flow : Flow) (d : ℕ) (ch : Channel) → status_of x ch.state ≡ Open → (body : Body) → GotIn v x flow d ch body
got_transfer true x flow d ch e body = got_resetting x flow d ch body
got_transfer false x flow d ch e body = got_ready_flow x flow d ch e body

got_by : (s : ChannelState) (x : Role) (flow : Flow) (d : ℕ) (ch : Channel) → ch.state ≡ s → (body : Body) → Got s x flow d ch body
got_by Ready x flow d ch e body = got_ready x flow d ch e body
got_by OwnWaiting x flow d ch e body = got_own_waiting x flow d ch e body
got_by FarWaiting x flow d ch e body = got_far_waiting x flow d ch body
got_by Transfer x flow d ch e body = got_transfer ch.resetting x flow d ch (ap (status_of x) e) body
got_by Collision x flow d ch e body = got_collision x flow d ch e body
got_by OwnClear x flow d ch e body = got_own_clear x flow d ch e body

pub received_outcome : (x : Role) (flow : Flow) (d : ℕ) (ch : Channel) (body : Body)
    → Outcome x d ch (received x flow d ch body).channel (λ st. received_history x flow d ch body st) (λ b. all_told x (received x flow d ch body).notes b) (λ b l. all_came_by x (received x flow d ch body).notes b l) (λ parts. body ≡ Call parts)
received_outcome x flow d ch body = got_by ch.state x flow d ch refl body

-- ---- a request

transfer_of : (s : ChannelState) (more : Option Refusal) (x : Role) → refused_if (not (in_transfer s)) Refusal.NoCall more ≡ None → status_of x s ≡ Open
transfer_of Transfer more x e = refl
transfer_of Ready more x e = absurd (none-some Refusal.NoCall (sym e))
transfer_of OwnWaiting more x e = absurd (none-some Refusal.NoCall (sym e))
transfer_of FarWaiting more x e = absurd (none-some Refusal.NoCall (sym e))
transfer_of Collision more x e = absurd (none-some Refusal.NoCall (sym e))
transfer_of OwnClear more x e = absurd (none-some Refusal.NoCall (sym e))

accept_of : (x : Role) (s : ChannelState) → refused_if (not (may_accept x s)) Refusal.NoCall None ≡ None → status_of x s ≡ FarCall
accept_of x FarWaiting e = refl
accept_of Dce Collision e = refl
accept_of Dte Collision e = absurd (none-some Refusal.NoCall (sym e))
accept_of x Ready e = absurd (none-some Refusal.NoCall (sym e))
accept_of x OwnWaiting e = absurd (none-some Refusal.NoCall (sym e))
accept_of x Transfer e = absurd (none-some Refusal.NoCall (sym e))
accept_of x OwnClear e = absurd (none-some Refusal.NoCall (sym e))

-- the epoch opened after a growth by nothing
opens_after : (st : History) → OpensEpoch st (next_epoch_of (grown (λ e. e) st))
opens_after st = record { restart = refl; uses = refl; epoch = omega arith; epochs = grown_keeps (λ e. e) (λ e. e) st (λ e. refl) }

ends_after : (st : History) → EndsUse st (next_use_of (grown (λ e. e) st))
ends_after st = record { further = inr (refl, omega arith); epochs = grown_keeps (λ e. e) (λ e. e) st (λ e. refl) }

abbrev pub NoCalls : CallParts → Type 0
NoCalls parts = ⊥

-- what was at the front is taken
asked_taking : (x : Role) (d : ℕ) (ch ch' : Channel) (o : Option Taken) → status_of x ch.state ≡ Open → status_of x ch'.state ≡ Open
    → Outcome x d ch ch' (λ st. grown (λ e. with_taken o e) st) (λ b. book.takes x d o b) (λ b l. l) NoCalls
asked_taking x d ch ch' None e f = stays (f ∙ sym e) (grown_same (λ z. z) (λ z. refl)) (λ b. refl) (λ b l. refl)
asked_taking x d ch ch' (Some (TakenInterrupt octets)) e f =
    goes (λ r. with_interrupt_taken octets r) e f (grown_grows ch (λ z. record z { interrupts_taken = z.interrupts_taken ++ octets ∷ [] }) (λ r. with_interrupt_taken octets r) (by_interrupt_taken ch octets))
    (grown_record ch (λ z. record z { interrupts_taken = z.interrupts_taken ++ octets ∷ [] }) (λ r. with_interrupt_taken octets r) (by_interrupt_taken ch octets)) (λ b. refl) (λ b l. refl)
asked_taking x d ch ch' (Some (TakenPacket datum)) e f =
    goes (λ r. records.with_taken (packet_of datum) r) e f (grown_grows ch (λ z. record z { taken = z.taken ++ datum ∷ [] }) (λ r. records.with_taken (packet_of datum) r) (by_taking ch datum))
    (grown_record ch (λ z. record z { taken = z.taken ++ datum ∷ [] }) (λ r. records.with_taken (packet_of datum) r) (by_taking ch datum)) (λ b. refl) (λ b l. refl)

-- the history of a request that is not refused
abbrev history_of : Channel → Request → History → History
history_of ch Accept st = call_accepted st
history_of ch r st = opened (carried_out ch r).owes (grown (λ e. logged ch.traffic r e) st)

pub asked : (x : Role) (flow : Flow) (d : ℕ) (ch : Channel) (r : Request) → refusal x flow ch r ≡ None
    → Outcome x d ch (carried_out ch r).channel (λ st. history_of ch r st) (λ b. carried x d r (front ch.traffic) b) (λ b l. l) NoCalls
asked x flow d ch Accept e = accepts (accept_of x ch.state e) refl (λ st. refl) (λ b. refl) (λ b l. refl)
asked x flow d ch (Clearing cause diagnostic) e = ends refl ends_after (λ b. refl) (λ b l. refl)
asked x flow d ch (Resetting cause diagnostic) e =
    let open_ = transfer_of ch.state (refused_if ch.resetting Refusal.IsResetting None) x e in
    goes with_epoch open_ open_ (λ st. opens_grows st (next_epoch_of (grown (λ z. z) st)) (opens_after st)) (λ st r. opens_record ch st (next_epoch_of (grown (λ z. z) st)) r (opens_after st)) (λ b. refl) (λ b l. refl)
asked x flow d ch (Sending datum) e =
    let open_ = transfer_of ch.state _ x e in
    goes (λ r. with_sent (packet_of datum) r) open_ open_ (grown_grows ch (λ z. record z { sent = z.sent ++ datum ∷ [] }) (λ r. with_sent (packet_of datum) r) (by_sending ch datum))
    (grown_record ch (λ z. record z { sent = z.sent ++ datum ∷ [] }) (λ r. with_sent (packet_of datum) r) (by_sending ch datum)) (λ b. refl) (λ b l. refl)
asked x flow d ch (Interrupting octets) e =
    let open_ = transfer_of ch.state _ x e in
    goes (λ r. with_interrupt_sent octets r) open_ open_ (grown_grows ch (λ z. record z { interrupts_sent = z.interrupts_sent ++ octets ∷ [] }) (λ r. with_interrupt_sent octets r) (by_interrupting ch octets))
    (grown_record ch (λ z. record z { interrupts_sent = z.interrupts_sent ++ octets ∷ [] }) (λ r. with_interrupt_sent octets r) (by_interrupting ch octets)) (λ b. refl) (λ b l. refl)
asked x flow d ch (Stopping v) e = stays refl (grown_same (λ z. z) (λ z. refl)) (λ b. refl) (λ b l. refl)
asked x flow d ch Taking e = let open_ = transfer_of ch.state None x e in asked_taking x d ch (carried_out ch Taking).channel (front ch.traffic) open_ open_
asked x flow d ch (Releasing n) e =
    let open_ = transfer_of ch.state None x e in
    let v = may_release n ch.traffic in
    goes (λ r. with_released n r) open_ open_ (grown_grows ch (λ z. cond v (record z { released = z.released + n }) z) (λ r. with_released n r) (by_releasing ch v n (flows x ch.state open_) refl))
    (grown_record ch (λ z. cond v (record z { released = z.released + n }) z) (λ r. with_released n r) (by_releasing ch v n (flows x ch.state open_) refl)) (λ b. refl) (λ b l. refl)
asked x flow d ch Confirming e = stays refl (grown_same (λ z. z) (λ z. refl)) (λ b. refl) (λ b l. refl)
