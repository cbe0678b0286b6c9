-- What the user asks in a call keeps the two ends of its epoch in agreement.
use Rattle.std.proofs.Common.{◌≡◌, ℕ, suc, ◌+◌, ◌%◌, ◌≤◌, Bool, true, false, cond, ◌||◌, List, [], ◌∷◌, ◌++◌, length, Option, Some, None, is_some, refl, sym, ap, subst, ◌∙◌, append_assoc, length-append, arith, true≢false}
use Rattle.std.proofs.lemmas.Bool.{leb-true}
use Rattle.data_transfer.specs.declared.flow.Flow.{Flow}
use Rattle.data_transfer.proofs.Windows.{below_small}
use Rattle.data_transfer.specs.Packets.{Datum, Body}
use Rattle.data_transfer.specs.Traffic.{taking_of, front_of, may_release, releasing, confirming, unreleased}
use Rattle.packet_channel.specs.Channel.{Request}
use Rattle.packet_channel.specs.Channel.Request.{Sending, Interrupting, Stopping, Taking, Releasing, Confirming}
use Rattle.packet_laws.specs.History.{with_taken}
use Rattle.packet_laws.proofs.Handshakes.Handshake.{Two}
use Rattle.packet_laws.proofs.Call.OneEpoch.{Inner, datas, interrupts, Numbers, one, Epochs_agree, inner_after, Askable}
use Rattle.packet_laws.specs.LayerLineLaw.{listed}
use Rattle.packet_laws.proofs.Numbers.{apart, more_mod}
use Rattle.packet_laws.proofs.Call.Pipes.{acks_le, acks_more}

abbrev pub pair_of : Inner → Inner → List Body → List Body → Two Inner
pair_of x y o b = record { me = x; you = y; out = o; back = b }

pub push_last : {X : Type 0} (a b c d e : List X) → a ++ (b ++ (c ++ (d ++ e))) ≡ (a ++ (b ++ (c ++ d))) ++ e
push_last a b c d e =
    ap (λ l. a ++ (b ++ l)) (sym (append_assoc c d e)) ∙ ap (λ l. a ++ l) (sym (append_assoc b (c ++ d) e)) ∙ sym (append_assoc a (b ++ (c ++ d)) e)

asks_send : (flow : Flow) (d : Datum) (x y : Inner) (o b : List Body) → Epochs_agree flow (pair_of x y o b) → Epochs_agree flow (pair_of (inner_after (Sending d) x) y o b)
asks_send flow d x y o b i =
    let s = i.forth.stream in
    record {
      small = i.small;
      forth = record {
        stream = record {
          items = push_last y.epoch.taken y.traffic.arrived (datas o) x.traffic.waiting (d ∷ []) ∙ ap (λ (l : List Datum). l ++ d ∷ []) s.items;
          numbers = s.numbers;
          expected = s.expected;
          next = s.next;
        };
        acking = i.forth.acking;
        urgent = i.forth.urgent;
      };
      back = record { stream = i.back.stream; acking = i.back.acking; urgent = i.back.urgent };
    }

none_waits : (o : Option (List ℕ)) (b : Bool) → (is_some o || b) ≡ false → (o ≡ None) × (b ≡ false)
none_waits None true e = absurd (true≢false e)
none_waits None false e = (refl, refl)
none_waits (Some x) b e = absurd (true≢false e)

asks_interrupt : (flow : Flow) (octets : List ℕ) (x y : Inner) (o b : List Body) → Askable (Interrupting octets) x → Epochs_agree flow (pair_of x y o b) → Epochs_agree flow (pair_of (inner_after (Interrupting octets) x) y o b)
asks_interrupt flow octets x y o b a i =
    let u = i.forth.urgent in
    let free = none_waits x.traffic.interrupt_waiting x.traffic.interrupt_unconfirmed a in
    let items0 : y.epoch.interrupts_taken ++ (listed y.traffic.interrupt_arrived ++ (interrupts o ++ [])) ≡ x.epoch.interrupts_sent =
    subst (λ (w : Option (List ℕ)). y.epoch.interrupts_taken ++ (listed y.traffic.interrupt_arrived ++ (interrupts o ++ listed w)) ≡ x.epoch.interrupts_sent) free.0 u.items in
    record {
      small = i.small;
      forth = record {
        stream = i.forth.stream;
        acking = i.forth.acking;
        urgent = record {
          items = push_last y.epoch.interrupts_taken (listed y.traffic.interrupt_arrived) (interrupts o) [] (octets ∷ []) ∙ ap (λ (l : List (List ℕ)). l ++ octets ∷ []) items0;
          pending = u.pending;
          waits = free.1;
        };
      };
      back = record { stream = i.back.stream; acking = i.back.acking; urgent = i.back.urgent };
    }

pub same_length : (taken ds : List Datum) (d : Datum) → length (taken ++ d ∷ []) + length ds ≡ length taken + length (d ∷ ds)
same_length taken ds d = let e = length-append taken (d ∷ []) in omega arith

taken_false : (b u due : Bool) (p q c : ℕ) → one u ≡ p + (suc q + (one b + (one due + c))) → b ≡ false
taken_false true true due p q c e = let n : ⊥ = omega arith in absurd n
taken_false true false due p q c e = let n : ⊥ = omega arith in absurd n
taken_false false u due p q c e = refl

asks_take : (flow : Flow) (a : Option (List ℕ)) (ds : List Datum) (x y : Inner) (o b : List Body)
    → Epochs_agree flow (pair_of (record x { traffic = record x.traffic { interrupt_arrived = a; arrived = ds } }) y o b)
    → Epochs_agree flow (pair_of (record { traffic = taking_of a ds (record x.traffic { interrupt_arrived = a; arrived = ds }); epoch = with_taken (front_of a ds) x.epoch }) y o b)
asks_take flow (Some octets) ds x y o b i =
    let u = i.back.urgent in
    let free = taken_false x.traffic.interrupt_taken y.traffic.interrupt_unconfirmed x.traffic.confirmation_due _ _ _ u.pending in
    record {
      small = i.small;
      forth = record { stream = i.forth.stream; acking = i.forth.acking; urgent = i.forth.urgent };
      back = record {
        stream = i.back.stream;
        acking = i.back.acking;
        urgent = record {
          items = append_assoc x.epoch.interrupts_taken (octets ∷ []) (interrupts b ++ listed y.traffic.interrupt_waiting) ∙ u.items;
          pending = let p = u.pending in let z = ap (λ (t : Bool). one t) free in omega arith;
          waits = u.waits;
        };
      };
    }
asks_take flow None [] x y o b i = record { small = i.small; forth = record { stream = i.forth.stream; acking = i.forth.acking; urgent = i.forth.urgent }; back = record { stream = i.back.stream; acking = i.back.acking; urgent = i.back.urgent } }
asks_take flow None (d ∷ ds) x y o b i =
    let s = i.back.stream in
    let k = i.back.acking in
    let same = sym (same_length x.epoch.taken ds d) in
    let len : length (x.epoch.taken ++ d ∷ []) ≡ length x.epoch.taken + 1 = length-append x.epoch.taken (d ∷ []) in
    record {
      small = i.small;
      forth = record { stream = i.forth.stream; acking = i.forth.acking; urgent = i.forth.urgent };
      back = record {
        stream = record {
          items = append_assoc x.epoch.taken (d ∷ []) (ds ++ (datas b ++ y.traffic.waiting)) ∙ s.items;
          numbers = subst (λ (n : ℕ). Numbers flow n b) same s.numbers;
          expected = s.expected ∙ ap (λ (n : ℕ). n % 128) same;
          next = s.next ∙ ap (λ (n : ℕ). (n + length (datas b)) % 128) same;
        };
        acking = record {
          acks = k.acks;
          covered_is = k.covered_is;
          released_is = k.released_is;
          in_window = let w = k.in_window in omega arith;
          released_taken = let r = k.released_taken in omega arith;
        };
        urgent = i.back.urgent;
      };
    }

asks_release : (flow : Flow) (n : ℕ) (ok : Bool) (x y : Inner) (o b : List Body) → may_release n x.traffic ≡ ok → Epochs_agree flow (pair_of x y o b)
    → Epochs_agree flow (pair_of (record { traffic = cond ok (releasing n x.traffic) x.traffic; epoch = cond ok (record x.epoch { released = x.epoch.released + n }) x.epoch }) y o b)
asks_release flow n false x y o b e i = record { small = i.small; forth = record { stream = i.forth.stream; acking = i.forth.acking; urgent = i.forth.urgent }; back = record { stream = i.back.stream; acking = i.back.acking; urgent = i.back.urgent } }
asks_release flow n true x y o b e i =
    let s = i.back.stream in
    let k = i.back.acking in
    let le : n + length x.traffic.arrived ≤ unreleased x.traffic = leb-true (n + length x.traffic.arrived) (unreleased x.traffic) e in
    let covered_le = acks_le flow o y.epoch.covered x.epoch.released k.acks in
    let got : ℕ = length x.epoch.taken + length x.traffic.arrived in
    let w = k.in_window in let sm = below_small flow i.small in let rt = k.released_taken in
    let rest : x.epoch.released + unreleased x.traffic ≡ got =
    apart x.traffic.released x.traffic.receive_number x.epoch.released got k.released_is s.expected (omega arith) (omega arith) in
    record {
      small = i.small;
      forth = record { stream = i.forth.stream; acking = i.forth.acking; urgent = i.forth.urgent };
      back = record {
        stream = s;
        acking = record {
          acks = acks_more flow o y.epoch.covered x.epoch.released (x.epoch.released + n) (omega arith) k.acks;
          covered_is = k.covered_is;
          released_is = more_mod x.traffic.released x.epoch.released n k.released_is;
          in_window = k.in_window;
          released_taken = omega arith;
        };
        urgent = i.back.urgent;
      };
    }

due_false : (due u : Bool) (p q c : ℕ) → one u ≡ p + (q + (1 + (one due + c))) → due ≡ false
due_false true true p q c e = let n : ⊥ = omega arith in absurd n
due_false true false p q c e = let n : ⊥ = omega arith in absurd n
due_false false u p q c e = refl

asks_confirm : (flow : Flow) (tk : Bool) (x y : Inner) (o b : List Body)
    → Epochs_agree flow (pair_of (record x { traffic = record x.traffic { interrupt_taken = tk } }) y o b)
    → Epochs_agree flow (pair_of (record x { traffic = cond tk (confirming (record x.traffic { interrupt_taken = tk })) (record x.traffic { interrupt_taken = tk }) }) y o b)
asks_confirm flow false x y o b i = i
asks_confirm flow true x y o b i =
    let u = i.back.urgent in
    let free = due_false x.traffic.confirmation_due y.traffic.interrupt_unconfirmed _ _ _ u.pending in
    record {
      small = i.small;
      forth = record { stream = i.forth.stream; acking = i.forth.acking; urgent = i.forth.urgent };
      back = record {
        stream = i.back.stream;
        acking = i.back.acking;
        urgent = record { items = u.items; pending = let p = u.pending in let z = ap (λ (t : Bool). one t) free in omega arith; waits = u.waits };
      };
    }

abbrev again : (flow : Flow) (x x' y : Inner) (o b : List Body) → Type 0
again flow x x' y o b = Epochs_agree flow (pair_of x y o b) → Epochs_agree flow (pair_of x' y o b)

pub asking : (flow : Flow) (r : Request) (x y : Inner) (o b : List Body) → Askable r x → again flow x (inner_after r x) y o b
asking flow (Sending d) x y o b a i = asks_send flow d x y o b i
asking flow (Interrupting octets) x y o b a i = asks_interrupt flow octets x y o b a i
asking flow (Stopping s) x y o b a i = record { small = i.small; forth = record { stream = i.forth.stream; acking = i.forth.acking; urgent = i.forth.urgent }; back = record { stream = i.back.stream; acking = i.back.acking; urgent = i.back.urgent } }
asking flow Taking x y o b a i = asks_take flow x.traffic.interrupt_arrived x.traffic.arrived x y o b i
asking flow (Releasing n) x y o b a i = asks_release flow n (may_release n x.traffic) x y o b refl i
asking flow Confirming x y o b a i = asks_confirm flow x.traffic.interrupt_taken x y o b i
asking flow _ x y o b a i = i
