-- What an end says in a call, by the rules of what goes to the link, keeps the two ends of the epoch in agreement.
use Rattle.std.proofs.Common.{◌≡◌, ℕ, ◌+◌, ◌%◌, ◌<◌, ◌≤◌, Bool, true, false, cond, not, ◌&&◌, nat_lt, List, [], ◌∷◌, ◌++◌, length, Option, Some, None, refl, sym, ap, subst, ◌∙◌, append-nil, append_assoc, length-append, arith, true≢false}
use Rattle.std.proofs.lemmas.Bool.{ltb-true}
use Rattle.data_transfer.specs.Flow.{shown}
use Rattle.data_transfer.specs.declared.flow.Flow.{Flow}
use Rattle.data_transfer.proofs.Windows.{below_small}
use Rattle.data_transfer.specs.Packets.{Datum, Body}
use Rattle.data_transfer.specs.Packets.Body.{Data, Interrupt, InterruptConfirmation, ReceiveReady, ReceiveNotReady}
use Rattle.data_transfer.specs.Traffic.{Said, in_flight, window_open, flow_told, ready_or_not, says_interrupt, says_data, says_flow}
use Rattle.packet_laws.proofs.Handshakes.Handshake.{said}
use Rattle.packet_laws.proofs.Call.OneEpoch.{Inner, datas, interrupts, confirmations, NumberOf, one, Waits, Way, Epochs_agree, inner_says}
use Rattle.packet_laws.specs.LayerLineLaw.{listed}
use Rattle.packet_laws.proofs.Numbers.{apart, shown_is}
use Rattle.packet_laws.proofs.Call.Pipes.{datas_append, interrupts_append, confirmations_append, numbers_push, acks_le, acks_push}
use Rattle.packet_laws.proofs.Call.Asking.{pair_of}

pub by_cond : {X : Type 0} (P : X → Type 0) (b : Bool) (x y : X) → (b ≡ true → P x) → (b ≡ false → P y) → P (cond b x y)
by_cond P true x y f g = f refl
by_cond P false x y f g = g refl

pub and_parts : (a b : Bool) → (a && b) ≡ true → (a ≡ true) × (b ≡ true)
and_parts true b e = (refl, e)
and_parts false b e = absurd (true≢false (sym e))

-- a packet without data and interrupt in the pipe of the data
quiet_forth : (flow : Flow) (x y : Inner) (o b : List Body) (t : Body) → datas (o ++ t ∷ []) ≡ datas o → interrupts (o ++ t ∷ []) ≡ interrupts o
    → ((k : ℕ) → NumberOf flow t k (λ j. Unit {0})) → Way flow x y o b → Way flow x y (o ++ t ∷ []) b
quiet_forth flow x y o b t dq iq nq i =
    let s = i.stream in let u = i.urgent in let k = i.acking in
    record {
      stream = record {
        items = ap (λ (l : List Datum). y.epoch.taken ++ (y.traffic.arrived ++ (l ++ x.traffic.waiting))) dq ∙ s.items;
        numbers = numbers_push flow o (length y.epoch.taken + length y.traffic.arrived) t s.numbers (nq _);
        expected = s.expected;
        next = s.next ∙ ap (λ (l : List Datum). (length y.epoch.taken + length y.traffic.arrived + length l) % 128) (sym dq);
      };
      acking = record {
        acks = k.acks;
        covered_is = k.covered_is;
        released_is = k.released_is;
        in_window = subst (λ (l : List Datum). length y.epoch.taken + length y.traffic.arrived + length l ≤ x.epoch.covered + flow.window) (sym dq) k.in_window;
        released_taken = k.released_taken;
      };
      urgent = record {
        items = ap (λ (l : List (List ℕ)). y.epoch.interrupts_taken ++ (listed y.traffic.interrupt_arrived ++ (l ++ listed x.traffic.interrupt_waiting))) iq ∙ u.items;
        pending = u.pending ∙ ap (λ (l : List (List ℕ)). length l + (length (listed y.traffic.interrupt_arrived) + (one y.traffic.interrupt_taken + (one y.traffic.confirmation_due + confirmations b)))) (sym iq);
        waits = u.waits;
      };
    }

abbrev After : Flow → Inner → Inner → List Body → List Body → Said → Type 0
After flow x y o b s = Epochs_agree flow (pair_of (record x { traffic = s.traffic }) y (said s.body o) b)

says_confirmation : (flow : Flow) (x y : Inner) (o b : List Body) → x.traffic.confirmation_due ≡ true → Epochs_agree flow (pair_of x y o b)
    → After flow x y o b (record { traffic = record x.traffic { confirmation_due = false }; body = Some InterruptConfirmation })
says_confirmation flow x y o b due i =
    let t : Body = InterruptConfirmation in
    let f = quiet_forth flow x y o b t (datas_append o (t ∷ []) ∙ append-nil (datas o)) (interrupts_append o (t ∷ []) ∙ append-nil (interrupts o)) (λ k. tt) i.forth in
    let k = i.back.acking in let u = i.back.urgent in
    record {
      small = i.small;
      forth = record { stream = f.stream; acking = f.acking; urgent = f.urgent };
      back = record {
        stream = i.back.stream;
        acking = record { acks = acks_push flow o y.epoch.covered x.epoch.released t (λ j le. le) k.acks; covered_is = k.covered_is; released_is = k.released_is; in_window = k.in_window; released_taken = k.released_taken };
        urgent = record {
          items = u.items;
          pending = let p = u.pending in let c = confirmations_append o (t ∷ []) in let d = ap (λ (v : Bool). one v) due in omega arith;
          waits = u.waits;
        };
      };
    }

says_an_interrupt : (flow : Flow) (octets : List ℕ) (x y : Inner) (o b : List Body) → x.traffic.interrupt_waiting ≡ Some octets → Epochs_agree flow (pair_of x y o b)
    → After flow x y o b (record { traffic = record x.traffic { interrupt_waiting = None; interrupt_unconfirmed = true }; body = Some (Interrupt octets) })
says_an_interrupt flow octets x y o b w i =
    let t : Body = Interrupt octets in
    let s = i.forth.stream in let a = i.forth.acking in let v = i.forth.urgent in
    let dq : datas (o ++ t ∷ []) ≡ datas o = datas_append o (t ∷ []) ∙ append-nil (datas o) in
    let iq : interrupts (o ++ t ∷ []) ≡ interrupts o ++ octets ∷ [] = interrupts_append o (t ∷ []) in
    let un : x.traffic.interrupt_unconfirmed ≡ false = subst (λ (q : Option (List ℕ)). Waits q x.traffic.interrupt_unconfirmed) w v.waits in
    let k = i.back.acking in let u = i.back.urgent in
    record {
      small = i.small;
      forth = record {
        stream = record {
          items = ap (λ (l : List Datum). y.epoch.taken ++ (y.traffic.arrived ++ (l ++ x.traffic.waiting))) dq ∙ s.items;
          numbers = numbers_push flow o (length y.epoch.taken + length y.traffic.arrived) t s.numbers tt;
          expected = s.expected;
          next = s.next ∙ ap (λ (l : List Datum). (length y.epoch.taken + length y.traffic.arrived + length l) % 128) (sym dq);
        };
        acking = record {
          acks = a.acks;
          covered_is = a.covered_is;
          released_is = a.released_is;
          in_window = subst (λ (l : List Datum). length y.epoch.taken + length y.traffic.arrived + length l ≤ x.epoch.covered + flow.window) (sym dq) a.in_window;
          released_taken = a.released_taken;
        };
        urgent = record {
          items = ap (λ (l : List (List ℕ)). y.epoch.interrupts_taken ++ (listed y.traffic.interrupt_arrived ++ l)) (append-nil (interrupts (o ++ t ∷ [])) ∙ iq)
              ∙ ap (λ (q : Option (List ℕ)). y.epoch.interrupts_taken ++ (listed y.traffic.interrupt_arrived ++ (interrupts o ++ listed q))) (sym w) ∙ v.items;
          pending = let p = v.pending in let z = ap (λ (q : Bool). one q) un in let l = ap (λ (l : List (List ℕ)). length l) iq in let m = length-append (interrupts o) (octets ∷ []) in omega arith;
          waits = tt;
        };
      };
      back = record {
        stream = i.back.stream;
        acking = record { acks = acks_push flow o y.epoch.covered x.epoch.released t (λ j le. le) k.acks; covered_is = k.covered_is; released_is = k.released_is; in_window = k.in_window; released_taken = k.released_taken };
        urgent = record { items = u.items; pending = let p = u.pending in let c = confirmations_append o (t ∷ []) in omega arith; waits = u.waits };
      };
    }

says_ready : (flow : Flow) (stop : Bool) (x y : Inner) (o b : List Body) → Epochs_agree flow (pair_of x y o b)
    → After flow x y o b (record { traffic = record x.traffic { untold = false; told_stopped = x.traffic.stopped }; body = Some (ready_or_not stop (shown flow.numbering x.traffic.released)) })
says_ready flow true x y o b i =
    let t : Body = ReceiveNotReady (shown flow.numbering x.traffic.released) in
    let f = quiet_forth flow x y o b t (datas_append o (t ∷ []) ∙ append-nil (datas o)) (interrupts_append o (t ∷ []) ∙ append-nil (interrupts o)) (λ k. tt) i.forth in
    let k = i.back.acking in let u = i.back.urgent in
    record {
      small = i.small;
      forth = record { stream = f.stream; acking = f.acking; urgent = f.urgent };
      back = record {
        stream = i.back.stream;
        acking = record { acks = acks_push flow o y.epoch.covered x.epoch.released t (λ j le. (x.epoch.released, (shown_is flow.numbering x.traffic.released x.epoch.released k.released_is, le, omega arith))) k.acks; covered_is = k.covered_is; released_is = k.released_is; in_window = k.in_window; released_taken = k.released_taken };
        urgent = record { items = u.items; pending = let p = u.pending in let c = confirmations_append o (t ∷ []) in omega arith; waits = u.waits };
      };
    }
says_ready flow false x y o b i =
    let t : Body = ReceiveReady (shown flow.numbering x.traffic.released) in
    let f = quiet_forth flow x y o b t (datas_append o (t ∷ []) ∙ append-nil (datas o)) (interrupts_append o (t ∷ []) ∙ append-nil (interrupts o)) (λ k. tt) i.forth in
    let k = i.back.acking in let u = i.back.urgent in
    record {
      small = i.small;
      forth = record { stream = f.stream; acking = f.acking; urgent = f.urgent };
      back = record {
        stream = i.back.stream;
        acking = record { acks = acks_push flow o y.epoch.covered x.epoch.released t (λ j le. (x.epoch.released, (shown_is flow.numbering x.traffic.released x.epoch.released k.released_is, le, omega arith))) k.acks; covered_is = k.covered_is; released_is = k.released_is; in_window = k.in_window; released_taken = k.released_taken };
        urgent = record { items = u.items; pending = let p = u.pending in let c = confirmations_append o (t ∷ []) in omega arith; waits = u.waits };
      };
    }

keeps_flow : (flow : Flow) (x y : Inner) (o b : List Body) → Epochs_agree flow (pair_of x y o b) → After flow x y o b (says_flow flow x.traffic)
keeps_flow flow x y o b i =
    by_cond (λ s. After flow x y o b s) (flow_told x.traffic) _ _ (λ e. i) (λ e. says_ready flow x.traffic.stopped x y o b i)

move_waiting : (t a d w : List Datum) (x : Datum) → t ++ (a ++ ((d ++ x ∷ []) ++ w)) ≡ t ++ (a ++ (d ++ (x ∷ w)))
move_waiting t a d w x = ap (λ (l : List Datum). t ++ (a ++ l)) (append_assoc d (x ∷ []) w)

says_a_datum : (flow : Flow) (d : Datum) (ds : List Datum) (x y : Inner) (o b : List Body) → x.traffic.waiting ≡ d ∷ ds → window_open flow x.traffic ≡ true → Epochs_agree flow (pair_of x y o b)
    → After flow x y o b (record { traffic = record x.traffic { waiting = ds; send_number = (x.traffic.send_number + 1) % 128; untold = false }; body = Some (Data (shown flow.numbering x.traffic.send_number) (shown flow.numbering x.traffic.released) d) })
says_a_datum flow d ds x y o b w is_open i =
    let t : Body = Data (shown flow.numbering x.traffic.send_number) (shown flow.numbering x.traffic.released) d in
    let s = i.forth.stream in let a = i.forth.acking in let v = i.forth.urgent in
    let k = i.back.acking in let u = i.back.urgent in
    let dq : datas (o ++ t ∷ []) ≡ datas o ++ d ∷ [] = datas_append o (t ∷ []) in
    let iq : interrupts (o ++ t ∷ []) ≡ interrupts o = interrupts_append o (t ∷ []) ∙ append-nil (interrupts o) in
    let got : ℕ = length y.epoch.taken + length y.traffic.arrived in
    let sum : ℕ = got + length (datas o) in
    let lt : in_flight x.traffic < flow.window = ltb-true (in_flight x.traffic) flow.window (and_parts (nat_lt (in_flight x.traffic) flow.window) (not x.traffic.partner_busy) is_open).0 in
    let covered_le = acks_le flow b x.epoch.covered y.epoch.released a.acks in
    let rt = a.released_taken in let sm = below_small flow i.small in let iw = a.in_window in
    let flight : x.epoch.covered + in_flight x.traffic ≡ sum =
    apart x.traffic.covered x.traffic.send_number x.epoch.covered sum a.covered_is s.next (omega arith) (omega arith) in
    let len : length (datas (o ++ t ∷ [])) ≡ length (datas o) + 1 = ap (λ (l : List Datum). length l) dq ∙ length-append (datas o) (d ∷ []) in
    record {
      small = i.small;
      forth = record {
        stream = record {
          items = ap (λ (l : List Datum). y.epoch.taken ++ (y.traffic.arrived ++ (l ++ ds))) dq
              ∙ move_waiting y.epoch.taken y.traffic.arrived (datas o) ds d
              ∙ ap (λ (l : List Datum). y.epoch.taken ++ (y.traffic.arrived ++ (datas o ++ l))) (sym w) ∙ s.items;
          numbers = numbers_push flow o got t s.numbers (shown_is flow.numbering x.traffic.send_number sum s.next, tt);
          expected = s.expected;
          next = let n = s.next in omega arith;
        };
        acking = record {
          acks = a.acks;
          covered_is = a.covered_is;
          released_is = a.released_is;
          in_window = omega arith;
          released_taken = a.released_taken;
        };
        urgent = record {
          items = ap (λ (l : List (List ℕ)). y.epoch.interrupts_taken ++ (listed y.traffic.interrupt_arrived ++ (l ++ listed x.traffic.interrupt_waiting))) iq ∙ v.items;
          pending = v.pending ∙ ap (λ (l : List (List ℕ)). length l + (length (listed y.traffic.interrupt_arrived) + (one y.traffic.interrupt_taken + (one y.traffic.confirmation_due + confirmations b)))) (sym iq);
          waits = v.waits;
        };
      };
      back = record {
        stream = i.back.stream;
        acking = record { acks = acks_push flow o y.epoch.covered x.epoch.released t (λ j le. (x.epoch.released, (shown_is flow.numbering x.traffic.released x.epoch.released k.released_is, le, omega arith))) k.acks; covered_is = k.covered_is; released_is = k.released_is; in_window = k.in_window; released_taken = k.released_taken };
        urgent = record { items = u.items; pending = let p = u.pending in let c = confirmations_append o (t ∷ []) in omega arith; waits = u.waits };
      };
    }

keeps_data : (flow : Flow) (ds : List Datum) (x y : Inner) (o b : List Body) → x.traffic.waiting ≡ ds → Epochs_agree flow (pair_of x y o b) → After flow x y o b (says_data flow ds x.traffic)
keeps_data flow [] x y o b w i = keeps_flow flow x y o b i
keeps_data flow (d ∷ ds) x y o b w i =
    by_cond (λ s. After flow x y o b s) (window_open flow x.traffic) _ _ (λ e. says_a_datum flow d ds x y o b w e i) (λ e. keeps_flow flow x y o b i)

keeps_interrupt : (flow : Flow) (q : Option (List ℕ)) (x y : Inner) (o b : List Body) → x.traffic.interrupt_waiting ≡ q → Epochs_agree flow (pair_of x y o b) → After flow x y o b (says_interrupt flow q x.traffic)
keeps_interrupt flow (Some octets) x y o b w i = says_an_interrupt flow octets x y o b w i
keeps_interrupt flow None x y o b w i = keeps_data flow x.traffic.waiting x y o b refl i

pub saying : (flow : Flow) (x y : Inner) (o b : List Body) → Epochs_agree flow (pair_of x y o b) → Epochs_agree flow (pair_of (inner_says flow x).end_ y (said (inner_says flow x).says o) b)
saying flow x y o b i =
    by_cond (λ s. After flow x y o b s) x.traffic.confirmation_due _ _ (λ e. says_confirmation flow x y o b e i) (λ e. keeps_interrupt flow x.traffic.interrupt_waiting x y o b refl i)
