-- What comes to an end in a call is never a procedure error, and keeps the two ends of the epoch in agreement.
use Rattle.std.proofs.Common.{◌≡◌, ℕ, suc, ◌+◌, ◌<◌, ◌≤◌, Bool, true, false, cond, ◌&&◌, ◌||◌, ◌==◌, nat_lt, List, [], ◌∷◌, ◌++◌, length, Option, Some, None, is_some, refl, sym, ap, subst, ◌∙◌, append_assoc, length-append, arith}
use Rattle.std.proofs.lemmas.Bool.{lt-ltb, le-leb, eq-eqb}
use Rattle.data_transfer.specs.Flow.{shown, ahead_shown}
use Rattle.data_transfer.specs.declared.flow.Flow.{Flow}
use Rattle.data_transfer.proofs.Windows.{below_small}
use Rattle.data_transfer.specs.Packets.{Datum, Body}
use Rattle.data_transfer.specs.Packets.Body.{Data, Interrupt, InterruptConfirmation, ReceiveReady, ReceiveNotReady}
use Rattle.data_transfer.specs.Traffic.{Heard, in_flight, unreleased, interrupted, covers, keeps, arrives, partner_says, hears, covering}
use Rattle.data_transfer.specs.Traffic.Heard.{Keeps, Confirms, Wrong}
use Rattle.packet_laws.proofs.Handshakes.Handshake.{Two, does}
use Rattle.packet_laws.proofs.Call.OneEpoch.{Inner, datas, interrupts, confirmations, Numbers, Acks, one, Waits, wire, Epochs_agree, heard_inner, NotWrong, inner_hears, inner_ok}
use Rattle.packet_laws.specs.LayerLineLaw.{listed}
use Rattle.packet_laws.proofs.Numbers.{apart, more_mod, ahead_is, shown_is}
use Rattle.packet_laws.proofs.Call.Pipes.{acks_le}
use Rattle.packet_laws.proofs.Call.Asking.{pair_of}

-- a P(R) that names a count from the one covered to what was released is valid, and covers up to it
covers_is : (flow : Flow) (n r : ℕ) (x y : Inner) (o b : List Body) → Epochs_agree flow (pair_of x y o b) → r ≡ shown flow.numbering n → x.epoch.covered ≤ n → n ≤ y.epoch.released
    → (covers flow r x.traffic ≡ Keeps (ahead_shown flow.numbering x.traffic.covered r) (covering (ahead_shown flow.numbering x.traffic.covered r) x.traffic)) × (x.epoch.covered + ahead_shown flow.numbering x.traffic.covered r ≡ n)
covers_is flow n r x y o b i is lo hi =
    let s = i.forth.stream in let a = i.forth.acking in
    let rt = a.released_taken in let sm = below_small flow i.small in let iw = a.in_window in
    let sum : ℕ = wire y.epoch.taken y.traffic.arrived o in
    let flight : x.epoch.covered + in_flight x.traffic ≡ sum =
    apart x.traffic.covered x.traffic.send_number x.epoch.covered sum a.covered_is s.next (omega arith) (omega arith) in
    let newly : x.epoch.covered + ahead_shown flow.numbering x.traffic.covered r ≡ n = let below = i.small in ahead_is flow.numbering x.traffic.covered r x.epoch.covered n a.covered_is is lo (omega arith) in (
      ap (λ (c : Bool). cond c (Keeps (ahead_shown flow.numbering x.traffic.covered r) (covering (ahead_shown flow.numbering x.traffic.covered r) x.traffic)) (Wrong 2)) (le-leb (ahead_shown flow.numbering x.traffic.covered r) (in_flight x.traffic) (omega arith)),
      newly,
    )

abbrev Result : Flow → Inner → Inner → List Body → List Body → Heard → Type 0
Result flow x y o ts h = NotWrong h × Epochs_agree flow (pair_of (heard_inner h x) y o ts)

hears_ready : (flow : Flow) (n r : ℕ) (x y : Inner) (o ts : List Body)
    → Numbers flow (length x.epoch.taken + length x.traffic.arrived) ts
    → r ≡ shown flow.numbering n → x.epoch.covered ≤ n → Acks flow n ts y.epoch.released
    → Epochs_agree flow (pair_of x y o (ReceiveReady r ∷ ts)) → Result flow x y o ts (keeps (λ u. partner_says false u) (covers flow r x.traffic))
hears_ready flow n r x y o ts nums is lo acks i =
    let c = covers_is flow n r x y o (ReceiveReady r ∷ ts) i is lo (acks_le flow ts n y.epoch.released acks) in
    let a = i.forth.acking in let u = i.forth.urgent in let s = i.back.stream in let k = i.back.acking in let v = i.back.urgent in
    subst (λ (h : Heard). Result flow x y o ts h) (sym (ap (λ (h : Heard). keeps (λ u. partner_says false u) h) c.0)) (
      tt,
      record {
        small = i.small;
        forth = record {
          stream = i.forth.stream;
          acking = record {
            acks = subst (λ (j : ℕ). Acks flow j ts y.epoch.released) (sym c.1) acks;
            covered_is = more_mod x.traffic.covered x.epoch.covered (ahead_shown flow.numbering x.traffic.covered r) a.covered_is;
            released_is = a.released_is;
            in_window = let e = c.1 in let w = a.in_window in omega arith;
            released_taken = a.released_taken;
          };
          urgent = record { items = u.items; pending = let p = u.pending in omega arith; waits = u.waits };
        };
        back = record {
          stream = record {
            items = s.items;
            numbers = nums;
            expected = s.expected;
            next = s.next;
          };
          acking = record { acks = k.acks; covered_is = k.covered_is; released_is = k.released_is; in_window = k.in_window; released_taken = k.released_taken };
          urgent = record { items = v.items; pending = v.pending; waits = v.waits };
        };
      },
    )

hears_not_ready : (flow : Flow) (n r : ℕ) (x y : Inner) (o ts : List Body)
    → Numbers flow (length x.epoch.taken + length x.traffic.arrived) ts
    → r ≡ shown flow.numbering n → x.epoch.covered ≤ n → Acks flow n ts y.epoch.released
    → Epochs_agree flow (pair_of x y o (ReceiveNotReady r ∷ ts)) → Result flow x y o ts (keeps (λ u. partner_says true u) (covers flow r x.traffic))
hears_not_ready flow n r x y o ts nums is lo acks i =
    let c = covers_is flow n r x y o (ReceiveNotReady r ∷ ts) i is lo (acks_le flow ts n y.epoch.released acks) in
    let a = i.forth.acking in let u = i.forth.urgent in let s = i.back.stream in let k = i.back.acking in let v = i.back.urgent in
    subst (λ (h : Heard). Result flow x y o ts h) (sym (ap (λ (h : Heard). keeps (λ u. partner_says true u) h) c.0)) (
      tt,
      record {
        small = i.small;
        forth = record {
          stream = i.forth.stream;
          acking = record {
            acks = subst (λ (j : ℕ). Acks flow j ts y.epoch.released) (sym c.1) acks;
            covered_is = more_mod x.traffic.covered x.epoch.covered (ahead_shown flow.numbering x.traffic.covered r) a.covered_is;
            released_is = a.released_is;
            in_window = let e = c.1 in let w = a.in_window in omega arith;
            released_taken = a.released_taken;
          };
          urgent = record { items = u.items; pending = let p = u.pending in omega arith; waits = u.waits };
        };
        back = record {
          stream = record {
            items = s.items;
            numbers = nums;
            expected = s.expected;
            next = s.next;
          };
          acking = record { acks = k.acks; covered_is = k.covered_is; released_is = k.released_is; in_window = k.in_window; released_taken = k.released_taken };
          urgent = record { items = v.items; pending = v.pending; waits = v.waits };
        };
      },
    )

hears_datum : (flow : Flow) (n s r : ℕ) (d : Datum) (x y : Inner) (o ts : List Body)
    → s ≡ shown flow.numbering (length x.epoch.taken + length x.traffic.arrived) → Numbers flow (suc (length x.epoch.taken + length x.traffic.arrived)) ts
    → r ≡ shown flow.numbering n → x.epoch.covered ≤ n → Acks flow n ts y.epoch.released
    → Epochs_agree flow (pair_of x y o (Data s r d ∷ ts)) → Result flow x y o ts (hears flow x.traffic (Data s r d))
hears_datum flow n s r d x y o ts s_is nums is lo acks i =
    let c = covers_is flow n r x y o (Data s r d ∷ ts) i is lo (acks_le flow ts n y.epoch.released acks) in
    let a = i.forth.acking in let u = i.forth.urgent in let st = i.back.stream in let k = i.back.acking in let v = i.back.urgent in
    let got : ℕ = length x.epoch.taken + length x.traffic.arrived in
    let rt = k.released_taken in let sm = below_small flow i.small in let iw = k.in_window in
    let le = acks_le flow o y.epoch.covered x.epoch.released k.acks in
    let rest : x.epoch.released + unreleased x.traffic ≡ got =
    apart x.traffic.released x.traffic.receive_number x.epoch.released got k.released_is st.expected (omega arith) (omega arith) in
    let lt : unreleased x.traffic < flow.window = omega arith in
    let test : ((s == shown flow.numbering x.traffic.receive_number) && nat_lt (unreleased x.traffic) flow.window) ≡ true =
    ap (λ (q : Bool). q && nat_lt (unreleased x.traffic) flow.window) (eq-eqb s (shown flow.numbering x.traffic.receive_number) (s_is ∙ sym (shown_is flow.numbering x.traffic.receive_number got st.expected))) ∙ lt-ltb (unreleased x.traffic) flow.window lt in
    let len : length x.epoch.taken + length (x.traffic.arrived ++ d ∷ []) ≡ suc got = let l = length-append x.traffic.arrived (d ∷ []) in omega arith in
    subst (λ (h : Heard). Result flow x y o ts h)
    (sym (ap (λ (q : Bool). cond q (keeps (λ u. arrives d u) (covers flow r x.traffic)) (Wrong 1)) test ∙ ap (λ (h : Heard). keeps (λ u. arrives d u) h) c.0)) (
      tt,
      record {
        small = i.small;
        forth = record {
          stream = i.forth.stream;
          acking = record {
            acks = subst (λ (j : ℕ). Acks flow j ts y.epoch.released) (sym c.1) acks;
            covered_is = more_mod x.traffic.covered x.epoch.covered (ahead_shown flow.numbering x.traffic.covered r) a.covered_is;
            released_is = a.released_is;
            in_window = let e = c.1 in let w = a.in_window in omega arith;
            released_taken = a.released_taken;
          };
          urgent = record { items = u.items; pending = let p = u.pending in omega arith; waits = u.waits };
        };
        back = record {
          stream = record {
            items = ap (λ (l : List Datum). x.epoch.taken ++ l) (append_assoc x.traffic.arrived (d ∷ []) (datas ts ++ y.traffic.waiting)) ∙ st.items;
            numbers = subst (λ (j : ℕ). Numbers flow j ts) (sym len) nums;
            expected = let e = st.expected in omega arith;
            next = let e = st.next in omega arith;
          };
          acking = record { acks = k.acks; covered_is = k.covered_is; released_is = k.released_is; in_window = omega arith; released_taken = k.released_taken };
          urgent = record { items = v.items; pending = v.pending; waits = v.waits };
        };
      },
    )

none_here : (a : Option (List ℕ)) (tk due u : Bool) (p c : ℕ) → one u ≡ suc p + (length (listed a) + (one tk + (one due + c))) → (a ≡ None) × (tk ≡ false) × (due ≡ false)
none_here (Some x) tk due true p c e = let n : ⊥ = omega arith in absurd n
none_here (Some x) tk due false p c e = let n : ⊥ = omega arith in absurd n
none_here None true due true p c e = let n : ⊥ = omega arith in absurd n
none_here None true due false p c e = let n : ⊥ = omega arith in absurd n
none_here None false true true p c e = let n : ⊥ = omega arith in absurd n
none_here None false true false p c e = let n : ⊥ = omega arith in absurd n
none_here None false false u p c e = (refl, refl, refl)

hears_interrupt : (flow : Flow) (octets : List ℕ) (x y : Inner) (o ts : List Body) → Epochs_agree flow (pair_of x y o (Interrupt octets ∷ ts)) → Result flow x y o ts (hears flow x.traffic (Interrupt octets))
hears_interrupt flow octets x y o ts i =
    let v = i.back.urgent in let u = i.forth.urgent in let st = i.back.stream in let a = i.forth.acking in
    let free = none_here x.traffic.interrupt_arrived x.traffic.interrupt_taken x.traffic.confirmation_due y.traffic.interrupt_unconfirmed (length (interrupts ts)) (confirmations o) v.pending in
    let test : interrupted x.traffic ≡ false =
    ap (λ (q : Option (List ℕ)). is_some q || (x.traffic.interrupt_taken || x.traffic.confirmation_due)) free.0
    ∙ ap (λ (q : Bool). q || x.traffic.confirmation_due) free.1 ∙ free.2 in
    let items0 : x.epoch.interrupts_taken ++ (listed None ++ (octets ∷ interrupts ts ++ listed y.traffic.interrupt_waiting)) ≡ y.epoch.interrupts_sent =
    subst (λ (q : Option (List ℕ)). x.epoch.interrupts_taken ++ (listed q ++ (octets ∷ interrupts ts ++ listed y.traffic.interrupt_waiting)) ≡ y.epoch.interrupts_sent) free.0 v.items in
    subst (λ (h : Heard). Result flow x y o ts h)
    (sym (ap (λ (q : Bool). cond q (Wrong 0) (Keeps 0 (record x.traffic { interrupt_arrived = Some octets }))) test)) (
      tt,
      record {
        small = i.small;
        forth = record {
          stream = i.forth.stream;
          acking = record {
            acks = subst (λ (j : ℕ). Acks flow j ts y.epoch.released) (omega arith) a.acks;
            covered_is = let e = a.covered_is in omega arith;
            released_is = a.released_is;
            in_window = let w = a.in_window in omega arith;
            released_taken = a.released_taken;
          };
          urgent = record { items = u.items; pending = let p = u.pending in omega arith; waits = u.waits };
        };
        back = record {
          stream = record { items = st.items; numbers = st.numbers; expected = st.expected; next = st.next };
          acking = i.back.acking;
          urgent = record {
            items = items0;
            pending = let p = v.pending in let l = ap (λ (q : Option (List ℕ)). length (listed q)) free.0 in omega arith;
            waits = v.waits;
          };
        };
      },
    )

unconfirmed_is : (u : Bool) (c p q r s : ℕ) → one u ≡ p + (q + (r + (s + (1 + c)))) → u ≡ true
unconfirmed_is true c p q r s e = refl
unconfirmed_is false c p q r s e = let n : ⊥ = omega arith in absurd n

waits_none : (w : Option (List ℕ)) (u : Bool) → u ≡ true → Waits w u → Waits w false
waits_none None u e h = tt
waits_none (Some x) u e h = refl

hears_confirmation : (flow : Flow) (x y : Inner) (o ts : List Body) → Epochs_agree flow (pair_of x y o (InterruptConfirmation ∷ ts)) → Result flow x y o ts (hears flow x.traffic InterruptConfirmation)
hears_confirmation flow x y o ts i =
    let v = i.back.urgent in let u = i.forth.urgent in let st = i.back.stream in let a = i.forth.acking in
    let test : x.traffic.interrupt_unconfirmed ≡ true = unconfirmed_is x.traffic.interrupt_unconfirmed (confirmations ts) _ _ _ _ u.pending in
    subst (λ (h : Heard). Result flow x y o ts h)
    (sym (ap (λ (q : Bool). cond q (Confirms (record x.traffic { interrupt_unconfirmed = false })) (Wrong 0)) test)) (
      tt,
      record {
        small = i.small;
        forth = record {
          stream = i.forth.stream;
          acking = record { acks = a.acks; covered_is = a.covered_is; released_is = a.released_is; in_window = a.in_window; released_taken = a.released_taken };
          urgent = record { items = u.items; pending = let p = u.pending in let e = ap (λ (q : Bool). one q) test in omega arith; waits = waits_none x.traffic.interrupt_waiting x.traffic.interrupt_unconfirmed test u.waits };
        };
        back = record {
          stream = record { items = st.items; numbers = st.numbers; expected = st.expected; next = st.next };
          acking = i.back.acking;
          urgent = record { items = v.items; pending = v.pending; waits = v.waits };
        };
      },
    )

heard_result : (flow : Flow) (t : Body) (x y : Inner) (o ts : List Body) → Epochs_agree flow (pair_of x y o (t ∷ ts)) → Result flow x y o ts (hears flow x.traffic t)
heard_result flow (Data s r d) x y o ts i =
    let n = i.back.stream.numbers in let a = i.forth.acking.acks in
    hears_datum flow a.0 s r d x y o ts n.0 n.1 a.1.0 a.1.1 a.1.2 i
heard_result flow (ReceiveReady r) x y o ts i =
    let a = i.forth.acking.acks in hears_ready flow a.0 r x y o ts i.back.stream.numbers a.1.0 a.1.1 a.1.2 i
heard_result flow (ReceiveNotReady r) x y o ts i =
    let a = i.forth.acking.acks in hears_not_ready flow a.0 r x y o ts i.back.stream.numbers a.1.0 a.1.1 a.1.2 i
heard_result flow (Interrupt octets) x y o ts i = hears_interrupt flow octets x y o ts i
heard_result flow InterruptConfirmation x y o ts i = hears_confirmation flow x y o ts i
heard_result flow _ x y o ts i = absurd i.back.stream.numbers

pub hearing : (flow : Flow) (v : Two Inner) (t : Body) (ts : List Body) → Epochs_agree flow (record v { back = t ∷ ts }) → inner_ok flow v.me t × Epochs_agree flow (does (record v { back = ts }) (inner_hears flow v.me t))
hearing flow v t ts i = heard_result flow t v.me v.you v.out ts i
