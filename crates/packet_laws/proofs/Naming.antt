-- The numbers of data transfer name counts and places, whatever the partner does.
use Rattle.std.proofs.Common.{◌≡◌, ℕ, zero, suc, ◌+◌, ◌-◌, ◌%◌, ◌<◌, ◌≤◌, Bool, true, false, cond, ◌&&◌, ◌==◌, nat_lt, nat_le, List, [], ◌∷◌, ◌++◌, length, Option, Some, None, refl, sym, ap, subst, ◌∙◌, append_assoc, length-append, arith}
use Rattle.std.specs.Prelude.{◌↔◌}
use Rattle.std.proofs.lemmas.Bool.{leb-true, ltb-true, eqb-true}
use Rattle.data_transfer.specs.Flow.{modulus, shown, ahead_shown}
use Rattle.data_transfer.specs.declared.flow.Flow.{Flow}
use Rattle.data_transfer.proofs.Windows.{below_small}
use Rattle.data_transfer.specs.Packets.{Datum, Body}
use Rattle.data_transfer.specs.Packets.Body.{Data, Interrupt, InterruptConfirmation, ReceiveReady, ReceiveNotReady}
use Rattle.data_transfer.specs.Traffic.{Traffic, Said, queue, Heard, in_flight, unreleased, interrupted, covers, keeps, arrives, partner_says, hears, says, says_interrupt, says_data, says_flow, flow_told, window_open, ready_or_not, taking_of, front_of, may_release, releasing, confirming, covering}
use Rattle.packet_channel.specs.Channel.{Request, traffic_after}
use Rattle.packet_channel.specs.Channel.Request.{Sending, Interrupting, Stopping, Taking, Releasing, Confirming}
use Rattle.packet_laws.specs.History.{Epoch, logged, with_taken}
use Rattle.packet_laws.specs.Counts.{NamesCounts, NamesPlace, NamesAfter, NamesNext, AreDelivered, CountsLaw, or_first, through_delivery}
use Rattle.packet_laws.proofs.Numbers.{more_mod, flight_is, unreleased_is, uncovered_is, shown_is}
use Rattle.packet_laws.proofs.Call.Saying.{by_cond, and_parts}
use Rattle.packet_laws.proofs.Call.Asking.{same_length}

-- ---- up to the last packet with D = 1

through_more : (ds : List Datum) (d : Datum) → through_delivery (ds ++ d ∷ []) ≡ cond d.delivery (suc (length ds)) (through_delivery ds)
through_more [] d = refl
through_more (x ∷ xs) d = by_delivery d.delivery (through_more xs d)
  where
    by_delivery : (b : Bool) → through_delivery (xs ++ d ∷ []) ≡ cond b (suc (length xs)) (through_delivery xs)
        → or_first x.delivery (through_delivery (xs ++ d ∷ [])) ≡ cond b (suc (suc (length xs))) (or_first x.delivery (through_delivery xs))
    by_delivery true e = ap (λ (k : ℕ). or_first x.delivery k) e
    by_delivery false e = ap (λ (k : ℕ). or_first x.delivery k) e

through_at_least : (before after : List Datum) (d : Datum) → d.delivery ≡ true → length before < through_delivery (before ++ d ∷ after)
through_at_least [] after d marked = first d.delivery marked (through_delivery after)
  where
    first : (b : Bool) → b ≡ true → (k : ℕ) → 0 < or_first b k
    first true e zero = omega arith
    first true e (suc k) = omega arith
    first false e k = absurd (cc)
through_at_least (x ∷ before) after d marked = onward (through_delivery (before ++ d ∷ after)) x.delivery (length before) (through_at_least before after d marked)
  where
    onward : (k : ℕ) (b : Bool) (n : ℕ) → n < k → suc n < or_first b k
    onward zero b n lt = absurd (omega arith)
    onward (suc k) b n lt = omega arith

through_covered : (ds : List Datum) (c : ℕ) → ((before after : List Datum) (d : Datum) → before ++ d ∷ after ≡ ds → d.delivery ≡ true → length before < c)
    → through_delivery ds ≤ c
through_covered [] c all = omega arith
through_covered (x ∷ xs) c all =
    onward (through_delivery xs) x.delivery c (through_covered xs (c - 1) rest) (λ marked. all [] xs x refl marked)
  where
    less : (n c : ℕ) → suc n < c → n < c - 1
    less n c lt = omega arith

    rest : (before after : List Datum) (d : Datum) → before ++ d ∷ after ≡ xs → d.delivery ≡ true → length before < c - 1
    rest before after d e marked = less (length before) c (all (x ∷ before) after d (ap (λ (l : List Datum). x ∷ l) e) marked)

    onward : (k : ℕ) (b : Bool) (c : ℕ) → k ≤ c - 1 → (b ≡ true → 0 < c) → or_first b k ≤ c
    onward zero true c le first = let lt = first refl in omega arith
    onward zero false c le first = omega arith
    onward (suc k) b c le first = omega arith

names_delivered : (flow : Flow) (t : Traffic) (e : Epoch) → NamesCounts flow t e → (t.undelivered ≡ 0) ↔ AreDelivered e
names_delivered flow t e n = (all_are, none_left)
  where
    all_are : t.undelivered ≡ 0 → AreDelivered e
    all_are none before after d split marked =
        let far : length before < through_delivery (before ++ d ∷ after) = through_at_least before after d marked in
        let same : through_delivery (before ++ d ∷ after) ≡ through_delivery e.sent = ap (λ (l : List Datum). through_delivery l) split in
        let left = n.undelivered in
        omega arith

    none_left : AreDelivered e → t.undelivered ≡ 0
    none_left all =
        let most : through_delivery e.sent ≤ e.covered = through_covered e.sent e.covered all in
        let left = n.undelivered in
        omega arith

-- ---- the same of the fields that matter, so that a change of the others leaves it as it is

record Counts (flow : Flow) (waiting arrived : List Datum) (send covered expected released undelivered : ℕ) (sent taken : List Datum) (c r : ℕ) : Type 0 where
  gone : List Datum
  sent_is : gone ++ waiting ≡ sent
  send_is : send ≡ length gone % 128
  covered_is : covered ≡ c % 128
  covered_went : c ≤ length gone
  went_within : length gone ≤ c + flow.window
  expected_is : expected ≡ (length taken + length arrived) % 128
  released_is : released ≡ r % 128
  released_taken : r ≤ length taken
  came_within : length taken + length arrived ≤ r + flow.window
  undelivered_is : undelivered ≡ through_delivery sent - c

abbrev Of : Flow → Traffic → Epoch → Type 0
Of flow t e = Counts flow t.waiting t.arrived t.send_number t.covered t.receive_number t.released t.undelivered e.sent e.taken e.covered e.released

into : (flow : Flow) (t : Traffic) (e : Epoch) → NamesCounts flow t e → Of flow t e
into flow t e n = record {
  gone = n.gone;
  sent_is = n.sent;
  send_is = n.send;
  covered_is = n.covered;
  covered_went = n.covered_went;
  went_within = n.went_within;
  expected_is = n.expected;
  released_is = n.released;
  released_taken = n.released_taken;
  came_within = n.came_within;
  undelivered_is = n.undelivered;
}

back : (flow : Flow) (t : Traffic) (e : Epoch) → Of flow t e → NamesCounts flow t e
back flow t e k = record {
  gone = k.gone;
  sent = k.sent_is;
  send = k.send_is;
  covered = k.covered_is;
  covered_went = k.covered_went;
  went_within = k.went_within;
  expected = k.expected_is;
  released = k.released_is;
  released_taken = k.released_taken;
  came_within = k.came_within;
  undelivered = k.undelivered_is;
}

-- ---- asked

asked_take : (flow : Flow) (a : Option (List ℕ)) (ds : List Datum) (t : Traffic) (e : Epoch) → Of flow (record t { interrupt_arrived = a; arrived = ds }) e
    → Of flow (taking_of a ds (record t { interrupt_arrived = a; arrived = ds })) (with_taken (front_of a ds) e)
asked_take flow (Some octets) ds t e k = k
asked_take flow None [] t e k = k
asked_take flow None (d ∷ ds) t e k =
    let same = same_length e.taken ds d in
    let more = length-append e.taken (d ∷ []) in
    let taken = k.released_taken in
    let within = k.came_within in
    record {
      gone = k.gone;
      sent_is = k.sent_is;
      send_is = k.send_is;
      covered_is = k.covered_is;
      covered_went = k.covered_went;
      went_within = k.went_within;
      expected_is = k.expected_is ∙ ap (λ (n : ℕ). n % 128) (sym same);
      released_is = k.released_is;
      released_taken = omega arith;
      came_within = omega arith;
      undelivered_is = k.undelivered_is;
    }

asked_release : (flow : Flow) (n : ℕ) (t : Traffic) (e : Epoch) → flow.window < modulus flow.numbering → Of flow t e
    → Of flow (cond (may_release n t) (releasing n t) t) (cond (may_release n t) (record e { released = e.released + n }) e)
asked_release flow n t e small k = by_test (may_release n t) (λ may. leb-true (n + length t.arrived) (unreleased t) may)
  where
    by_test : (b : Bool) → (b ≡ true → n + length t.arrived ≤ unreleased t) → Of flow (cond b (releasing n t) t) (cond b (record e { released = e.released + n }) e)
    by_test true room =
        let some = room refl in
        let count = unreleased_is flow t e small (back flow t e k) in
        let taken = k.released_taken in
        let within = k.came_within in
        record {
          gone = k.gone;
          sent_is = k.sent_is;
          send_is = k.send_is;
          covered_is = k.covered_is;
          covered_went = k.covered_went;
          went_within = k.went_within;
          expected_is = k.expected_is;
          released_is = more_mod t.released e.released n k.released_is;
          released_taken = omega arith;
          came_within = omega arith;
          undelivered_is = k.undelivered_is;
        }
    by_test false room = k

asked_confirm : (flow : Flow) (b : Bool) (t : Traffic) (e : Epoch) → Of flow t e → Of flow (cond b (confirming t) t) e
asked_confirm flow true t e k = k
asked_confirm flow false t e k = k

asked_send : (flow : Flow) (d : Datum) (t : Traffic) (e : Epoch) → flow.window < modulus flow.numbering → Of flow t e → Of flow (queue d t) (record e { sent = e.sent ++ d ∷ [] })
asked_send flow d t e small k =
    let flight = uncovered_is flow t e small (back flow t e k) in
    let left = k.undelivered_is in
    let more = through_more e.sent d in
    record {
      gone = k.gone;
      sent_is = sym (append_assoc k.gone t.waiting (d ∷ [])) ∙ ap (λ (l : List Datum). l ++ d ∷ []) k.sent_is;
      send_is = k.send_is;
      covered_is = k.covered_is;
      covered_went = k.covered_went;
      went_within = k.went_within;
      expected_is = k.expected_is;
      released_is = k.released_is;
      released_taken = k.released_taken;
      came_within = k.came_within;
      undelivered_is =
          by_delivery d.delivery (in_flight t + length t.waiting + 1) (length e.sent) e.covered (through_delivery e.sent) (omega arith) left
          ∙ ap (λ (n : ℕ). n - e.covered) (sym more);
    }
  where
    by_delivery : (b : Bool) (count all c through : ℕ) → count ≡ suc all - c → t.undelivered ≡ through - c → cond b count t.undelivered ≡ cond b (suc all) through - c
    by_delivery true count all c through e old = e
    by_delivery false count all c through e old = old

names_asked : (flow : Flow) → flow.window < modulus flow.numbering → (t : Traffic) (e : Epoch) (r : Request) → NamesCounts flow t e → NamesCounts flow (traffic_after r t) (logged t r e)
names_asked flow small t e (Sending d) n = back flow _ _ (asked_send flow d t e small (into flow t e n))
names_asked flow small t e (Interrupting octets) n = back flow _ _ (into flow t e n)
names_asked flow small t e (Stopping b) n = back flow _ _ (into flow t e n)
names_asked flow small t e Taking n = back flow _ _ (asked_take flow t.interrupt_arrived t.arrived t e (into flow t e n))
names_asked flow small t e (Releasing m) n = back flow _ _ (asked_release flow m t e small (into flow t e n))
names_asked flow small t e Confirming n = back flow _ _ (asked_confirm flow t.interrupt_taken t e (into flow t e n))
names_asked flow small t e _ n = n

-- ---- said

abbrev Named : Flow → Epoch → Said → Type 0
Named flow e s = Of flow s.traffic e × NamesPlace flow e s.traffic.waiting s.body

named_ready : (flow : Flow) (stop : Bool) (t : Traffic) (e : Epoch) → Of flow t e → Named flow e (record { traffic = record t { untold = false; told_stopped = t.stopped }; body = Some (ready_or_not stop (shown flow.numbering t.released)) })
named_ready flow true t e k = (k, shown_is flow.numbering t.released e.released k.released_is)
named_ready flow false t e k = (k, shown_is flow.numbering t.released e.released k.released_is)

named_flow : (flow : Flow) (t : Traffic) (e : Epoch) → Of flow t e → Named flow e (says_flow flow t)
named_flow flow t e k = by_cond (λ (s : Said). Named flow e s) (flow_told t) _ _ (λ h. (k, tt)) (λ h. named_ready flow t.stopped t e k)

named_datum : (flow : Flow) (d : Datum) (ds : List Datum) (t : Traffic) (e : Epoch) → flow.window < modulus flow.numbering → window_open flow t ≡ true → t.waiting ≡ d ∷ ds → Of flow t e
    → Named flow e (record { traffic = record t { waiting = ds; send_number = (t.send_number + 1) % 128; untold = false }; body = Some (Data (shown flow.numbering t.send_number) (shown flow.numbering t.released) d) })
named_datum flow d ds t e small may w k =
    let whole : k.gone ++ (d ∷ ds) ≡ e.sent = ap (λ (l : List Datum). k.gone ++ l) (sym w) ∙ k.sent_is in
    let len = length-append k.gone (d ∷ []) in
    let number = shown_is flow.numbering t.send_number (length k.gone) k.send_is in
    let went = k.covered_went in
    let flight = flight_is flow t e small (back flow t e k) in
    let most = below_small flow small in
    let room : in_flight t < flow.window = ltb-true (in_flight t) flow.window (and_parts (nat_lt (in_flight t) flow.window) _ may).0 in (
      record {
        gone = k.gone ++ d ∷ [];
        sent_is = append_assoc k.gone (d ∷ []) ds ∙ whole;
        send_is = omega arith;
        covered_is = k.covered_is;
        covered_went = omega arith;
        went_within = omega arith;
        expected_is = k.expected_is;
        released_is = k.released_is;
        released_taken = k.released_taken;
        came_within = k.came_within;
        undelivered_is = k.undelivered_is;
      },
      ((k.gone, (whole, number)), shown_is flow.numbering t.released e.released k.released_is),
    )

named_data : (flow : Flow) (ds : List Datum) (t : Traffic) (e : Epoch) → flow.window < modulus flow.numbering → t.waiting ≡ ds → Of flow t e → Named flow e (says_data flow ds t)
named_data flow [] t e small w k = named_flow flow t e k
named_data flow (d ∷ ds) t e small w k =
    by_cond (λ (s : Said). Named flow e s) (window_open flow t) _ _ (λ h. named_datum flow d ds t e small h w k) (λ h. named_flow flow t e k)

named_interrupt : (flow : Flow) (q : Option (List ℕ)) (t : Traffic) (e : Epoch) → flow.window < modulus flow.numbering → Of flow t e → Named flow e (says_interrupt flow q t)
named_interrupt flow (Some octets) t e small k = (k, tt)
named_interrupt flow None t e small k = named_data flow t.waiting t e small refl k

named_says : (flow : Flow) (t : Traffic) (e : Epoch) → flow.window < modulus flow.numbering → Of flow t e → Named flow e (says flow t)
named_says flow t e small k =
    by_cond (λ (s : Said). Named flow e s) t.confirmation_due _ _ (λ h. (k, tt)) (λ h. named_interrupt flow t.interrupt_waiting t e small k)

names_said : (flow : Flow) → flow.window < modulus flow.numbering → (t : Traffic) (e : Epoch) → NamesCounts flow t e
    → NamesCounts flow (says flow t).traffic e × NamesPlace flow e (says flow t).traffic.waiting (says flow t).body
names_said flow small t e n = let s = named_says flow t e small (into flow t e n) in (back flow _ e s.0, s.1)

-- ---- heard

heard_cover : (flow : Flow) (r : ℕ) (t : Traffic) (e : Epoch) → flow.window < modulus flow.numbering → nat_le (ahead_shown flow.numbering t.covered r) (in_flight t) ≡ true → Of flow t e
    → Of flow (covering (ahead_shown flow.numbering t.covered r) t) (record e { covered = e.covered + ahead_shown flow.numbering t.covered r })
heard_cover flow r t e small valid k =
    let le : ahead_shown flow.numbering t.covered r ≤ in_flight t = leb-true (ahead_shown flow.numbering t.covered r) (in_flight t) valid in
    let flight = flight_is flow t e small (back flow t e k) in
    let within = k.went_within in
    let left = k.undelivered_is in
    record {
      gone = k.gone;
      sent_is = k.sent_is;
      send_is = k.send_is;
      covered_is = more_mod t.covered e.covered (ahead_shown flow.numbering t.covered r) k.covered_is;
      covered_went = omega arith;
      went_within = omega arith;
      expected_is = k.expected_is;
      released_is = k.released_is;
      released_taken = k.released_taken;
      came_within = k.came_within;
      undelivered_is = omega arith;
    }

heard_ready : (flow : Flow) (busy : Bool) (r : ℕ) (t : Traffic) (e : Epoch) (b : Body) → flow.window < modulus flow.numbering → NamesNext flow t e b → Of flow t e
    → NamesAfter flow (keeps (λ u. partner_says busy u) (covers flow r t)) t e b
heard_ready flow busy r t e b small next k =
    by_cond (λ (h : Heard). NamesAfter flow (keeps (λ u. partner_says busy u) h) t e b) (nat_le (ahead_shown flow.numbering t.covered r) (in_flight t)) _ _
    (λ h. (back flow _ _ (heard_cover flow r t e small h k), next)) (λ h. tt)

heard_datum : (flow : Flow) (s r : ℕ) (d : Datum) (t : Traffic) (e : Epoch) → flow.window < modulus flow.numbering → s ≡ shown flow.numbering t.receive_number → unreleased t < flow.window → Of flow t e
    → NamesAfter flow (keeps (λ u. arrives d u) (covers flow r t)) t e (Data s r d)
heard_datum flow s r d t e small number room k =
    by_cond (λ (h : Heard). NamesAfter flow (keeps (λ u. arrives d u) h) t e (Data s r d)) (nat_le (ahead_shown flow.numbering t.covered r) (in_flight t)) _ _
    (λ h.
    let c = heard_cover flow r t e small h k in
    let len = length-append t.arrived (d ∷ []) in
    let expected = k.expected_is in
    let count = unreleased_is flow t e small (back flow t e k) in
    let taken = k.released_taken in (
      back flow _ _ (record {
        gone = c.gone;
        sent_is = c.sent_is;
        send_is = c.send_is;
        covered_is = c.covered_is;
        covered_went = c.covered_went;
        went_within = c.went_within;
        expected_is = omega arith;
        released_is = c.released_is;
        released_taken = c.released_taken;
        came_within = omega arith;
        undelivered_is = c.undelivered_is;
      }),
      number ∙ shown_is flow.numbering t.receive_number (length e.taken + length t.arrived) expected,
    )) (λ h. tt)

names_heard : (flow : Flow) → flow.window < modulus flow.numbering → (t : Traffic) (e : Epoch) (b : Body) → NamesCounts flow t e → NamesAfter flow (hears flow t b) t e b
names_heard flow small t e (Data s r d) n =
    by_cond (λ (h : Heard). NamesAfter flow h t e (Data s r d)) ((s == shown flow.numbering t.receive_number) && nat_lt (unreleased t) flow.window) _ _
    (λ h.
    let both = and_parts (s == shown flow.numbering t.receive_number) (nat_lt (unreleased t) flow.window) h in
    heard_datum flow s r d t e small (eqb-true s (shown flow.numbering t.receive_number) both.0) (ltb-true (unreleased t) flow.window both.1) (into flow t e n)) (λ h. tt)
names_heard flow small t e (ReceiveReady r) n = heard_ready flow false r t e (ReceiveReady r) small tt (into flow t e n)
names_heard flow small t e (ReceiveNotReady r) n = heard_ready flow true r t e (ReceiveNotReady r) small tt (into flow t e n)
names_heard flow small t e (Interrupt octets) n =
    let k = into flow t e n in
    by_cond (λ (h : Heard). NamesAfter flow h t e (Interrupt octets)) (interrupted t) _ _ (λ h. tt)
    (λ h. (back flow _ _ (none_more flow t e k), tt))
  where
    none_more : (flow : Flow) (t : Traffic) (e : Epoch) → Of flow t e → Of flow t (record e { covered = e.covered + 0 })
    none_more flow t e k = let same : e.covered ≡ e.covered + 0 = omega arith in subst (λ (c : ℕ). Of flow t (record e { covered = c })) same k
names_heard flow small t e InterruptConfirmation n =
    by_cond (λ (h : Heard). NamesAfter flow h t e InterruptConfirmation) t.interrupt_unconfirmed _ _ (λ h. back flow _ _ (into flow t e n)) (λ h. tt)
names_heard flow small t e _ n = tt

pub counts_hold : CountsLaw
counts_hold = record {
  begins = λ flow. record {
    gone = [];
    sent = refl;
    send = refl;
    covered = refl;
    covered_went = omega arith;
    went_within = omega arith;
    expected = refl;
    released = refl;
    released_taken = omega arith;
    came_within = omega arith;
    undelivered = refl;
  };
  asked = names_asked;
  said = names_said;
  heard = names_heard;
  delivered = names_delivered;
}
