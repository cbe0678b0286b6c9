-- What the handshakes of a channel say of the two histories, and of the packet that arrives.
use Rattle.std.proofs.Common.{◌≡◌, ℕ, suc, ◌+◌, ◌≤◌, Bool, true, false, cond, ◌||◌, ◌==◌, List, ◌∷◌, ◌++◌, drop, Option, Some, refl, sym, ap, subst, ◌∙◌, arith}
use Rattle.std.proofs.lemmas.Bool.{eq-eqb}
use Rattle.link_timers.specs.declared.role.Role.{Role}
use Rattle.data_transfer.specs.Packets.{Body, Packet}
use Rattle.data_transfer.specs.Packets.Body.{RestartConfirmation}
use Rattle.packet_channel.specs.Channel.{Channel, received}
use Rattle.packet_layer.specs.Layer.{Phase, Layer, channel_of}
use Rattle.packet_laws.specs.History.{Epoch, History}
use Rattle.packet_laws.specs.LayerLine.{Line, next_of_session, turned}
use Rattle.packet_laws.specs.LayerLineLaw.{Aligned, InStep, Holds, listed, is_request, is_fault_on, is_restart_fault, is_channel_fault}
use Rattle.packet_laws.proofs.Handshakes.Handshake.{Side, at, inner}
use Rattle.packet_laws.proofs.Handshakes.Walks.{walk_above}
use Rattle.packet_laws.proofs.Handshakes.Keeping.{same}
use Rattle.packet_laws.proofs.Call.OneEpoch.{Inner, datas, interrupts, Way}
use Rattle.packet_laws.proofs.Call.Pipes.{acks_le}
use Rattle.packet_laws.proofs.Call.Levels.{restart_kind, clear_kind, reset_kind, Epochs, CallUse, Uses, Whole, GoodEpochs, GoodCall, GoodUses, GoodWhole, whole_turned}
use Rattle.packet_laws.proofs.Line.Stored.{stored, phase_of, shown, Mark, epoch_in, HistoryTie, marked}
use Rattle.packet_laws.proofs.Line.Lines.{on_c, WellOf, Tied, EndTie}
use Rattle.packet_laws.proofs.Line.Arriving.{ties_of, drop_packet, well_get, cond_append, confirmation_unexpected}
use Rattle.packet_laws.proofs.Line.Resting.{tied_rests}
use Rattle.packet_laws.proofs.Line.Calling.{call_known}
use Rattle.packet_laws.proofs.Line.Using.{holds_at}
use Rattle.packet_laws.proofs.Line.Answering.{one_answers, is_accepted}
use Rattle.link_timers.specs.declared.role.Role.TheVariants.{Dte, Dce}
use Rattle.link_timers.specs.Role.{other_of}
use Rattle.data_transfer.specs.declared.flow.Flow.{Flow}

way_aligned : (flow : Flow) (x y : Inner) (p q : Mark) (o b : List Body) → Way flow x y o b → Aligned (marked p x.epoch) (marked q y.epoch)
way_aligned flow x y p q o b w = record {
  packets = (y.traffic.arrived ++ (datas o ++ x.traffic.waiting), w.stream.items);
  interrupts = (listed y.traffic.interrupt_arrived ++ (interrupts o ++ listed x.traffic.interrupt_waiting), w.urgent.items);
  covered_is_released = acks_le flow b x.epoch.covered y.epoch.released w.acking.acks;
  released_is_taken = w.acking.released_taken;
}

-- the two ends of each epoch agree
epoch_agrees : (flow : Flow) (role : Role) (x y : Whole) (o b : List Body) (r u g : ℕ) → GoodWhole flow role (record { me = x; you = y; out = o; back = b })
    → Aligned (epoch_in x r u g) (epoch_in y r u g) × Aligned (epoch_in y r u g) (epoch_in x r u g)
epoch_agrees flow role x y o b r u g i =
    let e = (((i.inners r).inners u).call).inners g in
    (way_aligned flow _ _ _ _ _ _ e.ways.forth, way_aligned flow _ _ _ _ _ _ e.ways.back)

retold : (x y : Whole) (st zt : History) → HistoryTie x st → HistoryTie y zt → (r u g : ℕ) → Aligned (epoch_in x r u g) (epoch_in y r u g) → Aligned (st.epochs r u g) (zt.epochs r u g)
retold x y st zt p q r u g a =
    subst (λ (e : Epoch). Aligned e (zt.epochs r u g)) (sym (p.epochs_are r u g)) (subst (λ (e : Epoch). Aligned (epoch_in x r u g) e) (sym (q.epochs_are r u g)) a)

-- ---- numbers in step

at_now : {I : Type 0} → (s : Side I) (k : ℕ) → k ≡ s.number → at s k ≡ s.now
at_now s k e = ap (λ (b : Bool). cond b s.now (s.past k)) (eq-eqb k s.number e)

whole_step : (flow : Flow) (role : Role) (x y : Whole) (o b : List Body) → GoodWhole flow role (record { me = x; you = y; out = o; back = b }) → (x.number ≤ y.number + 1) × (y.number ≤ x.number + 1)
whole_step flow role x y o b i =
    let p = walk_above restart_kind y.put y.number b x.own x.number (x.came x.number) i.aft.walk in
    let q = walk_above restart_kind x.put x.number o y.own y.number (y.came y.number) i.fore.walk in
    (omega arith, omega arith)

uses_step : (flow : Flow) (role : Role) (x y : Uses) (o b : List Body) → GoodUses flow role (record { me = x; you = y; out = o; back = b }) → (x.number ≤ y.number + 1) × (y.number ≤ x.number + 1)
uses_step flow role x y o b i =
    let p = walk_above clear_kind y.put y.number b x.own x.number (x.came x.number) i.aft.walk in
    let q = walk_above clear_kind x.put x.number o y.own y.number (y.came y.number) i.fore.walk in
    (omega arith, omega arith)

epochs_step : (flow : Flow) (x y : Epochs) (o b : List Body) → GoodEpochs flow (record { me = x; you = y; out = o; back = b }) → (x.number ≤ y.number + 1) × (y.number ≤ x.number + 1)
epochs_step flow x y o b i =
    let p = walk_above reset_kind y.put y.number b x.own x.number (x.came x.number) i.aft.walk in
    let q = walk_above reset_kind x.put x.number o y.own y.number (y.came y.number) i.fore.walk in
    (omega arith, omega arith)

uses_both : (flow : Flow) (role : Role) (x y : Whole) (o b : List Body) → x.number ≡ y.number → GoodWhole flow role (record { me = x; you = y; out = o; back = b })
    → GoodUses flow role (record { me = x.now; you = y.now; out = (inner x y x.number).out; back = (inner x y x.number).back })
uses_both flow role x y o b e i =
    subst (λ (v : Uses). GoodUses flow role (record { me = x.now; you = v; out = (inner x y x.number).out; back = (inner x y x.number).back })) (at_now y x.number e)
    (subst (λ (v : Uses). GoodUses flow role (record { me = v; you = at y x.number; out = (inner x y x.number).out; back = (inner x y x.number).back })) (at_now x x.number refl) (i.inners x.number))

call_both : (flow : Flow) (role : Role) (x y : Uses) (o b : List Body) → x.number ≡ y.number → GoodUses flow role (record { me = x; you = y; out = o; back = b })
    → GoodCall flow role (record { me = x.now; you = y.now; out = (inner x y x.number).out; back = (inner x y x.number).back })
call_both flow role x y o b e i =
    subst (λ (v : CallUse). GoodCall flow role (record { me = x.now; you = v; out = (inner x y x.number).out; back = (inner x y x.number).back })) (at_now y x.number e)
    (subst (λ (v : CallUse). GoodCall flow role (record { me = v; you = at y x.number; out = (inner x y x.number).out; back = (inner x y x.number).back })) (at_now x x.number refl) (i.inners x.number))

abbrev InStepNumbers : ℕ → ℕ → Type 0
InStepNumbers a b = (a ≤ b + 1) × (b ≤ a + 1)

renumber : (a a' b b' : ℕ) → a' ≡ a → b' ≡ b → InStepNumbers a b → InStepNumbers a' b'
renumber a a' b b' e f h = let p = h.0 in let q = h.1 in (omega arith, omega arith)

histories_in_step : (flow : Flow) (role : Role) (x y : Whole) (o b : List Body) (st zt : History) → HistoryTie x st → HistoryTie y zt → GoodWhole flow role (record { me = x; you = y; out = o; back = b }) → InStep st zt
histories_in_step flow role x y o b st zt p q i = record {
  restarts = renumber _ _ _ _ p.restart_is q.restart_is (whole_step flow role x y o b i);
  uses = λ e.
      let e' : x.number ≡ y.number = sym p.restart_is ∙ e ∙ q.restart_is in
      renumber _ _ _ _ p.use_is q.use_is (uses_step flow role x.now y.now _ _ (uses_both flow role x y o b e' i));
  epochs = λ e f.
      let e' : x.number ≡ y.number = sym p.restart_is ∙ e ∙ q.restart_is in
      let f' : x.now.number ≡ y.now.number = sym p.use_is ∙ f ∙ q.use_is in
      renumber _ _ _ _ p.epoch_is q.epoch_is (epochs_step flow x.now.now.call y.now.now.call _ _ (call_both flow role x.now y.now _ _ f' (uses_both flow role x y o b e' i)).call);
}

twice : (r : Role) → other_of (other_of r) ≡ r
twice Dte = refl
twice Dce = refl

pub turned_tied : (flow : Flow) (role : Role) (w : Line) (s c : ℕ) → Tied flow role w s c → Tied flow (other_of role) (turned w) s c
turned_tied flow role w s c t = record {
  x = t.y;
  y = t.x;
  o = t.b;
  b = t.o;
  good = whole_turned flow role _ t.good;
  mine = t.yours;
  yours = subst (λ (r : Role). EndTie flow r w.me (w.you.accepted s) s c t.x t.o) (sym (twice role)) t.mine;
}

pub tied_holds : (flow : Flow) (role : Role) (w : Line) (s c : ℕ) → Tied flow role w s c → Holds w s c
tied_holds flow role w s c t = record {
  forth = λ r u g. retold t.x t.y _ _ t.mine.history t.yours.history r u g (epoch_agrees flow role t.x t.y t.o t.b r u g t.good).0;
  back = λ r u g. retold t.y t.x _ _ t.yours.history t.mine.history r u g (epoch_agrees flow role t.x t.y t.o t.b r u g t.good).1;
  in_step = histories_in_step flow role t.x t.y t.o t.b _ _ t.mine.history t.yours.history t.good;
  at_rest = λ a b q. tied_rests flow role w s c t a b q;
  call_here = λ parts a. call_known flow role w s c parts t a;
  call_there = λ parts a. call_known flow (other_of role) (turned w) s c parts (turned_tied flow role w s c t) a;
  here = holds_at flow role w s c t;
  there = holds_at flow (other_of role) (turned w) s c (turned_tied flow role w s c t);
  answers_here = one_answers flow role t.x t.y t.o t.b _ _ t.mine.history t.yours.history t.good;
  answers_there = one_answers flow (other_of role) t.y t.x t.b t.o _ _ t.yours.history t.mine.history (whole_turned flow role _ t.good);
  accepted_here = is_accepted flow role w s c t;
  accepted_there = is_accepted flow (other_of role) (turned w) s c (turned_tied flow role w s c t);
}

-- ---- no procedure error

back_is : (flow : Flow) (role : Role) (w : Line) (s c : ℕ) (p : Packet) (t : Tied flow role w s c) → next_of_session w s ≡ Some p
    → t.b ≡ cond ((p.channel == 0) || (p.channel == c)) (p.body ∷ (on_c c (drop (suc (w.me.accepted s)) (w.you.offered s)) ++ t.yours.rest)) (on_c c (drop (suc (w.me.accepted s)) (w.you.offered s)) ++ t.yours.rest)
back_is flow role w s c p t got =
    t.yours.out_is ∙ ap (λ (q : List Packet). on_c c q ++ t.yours.rest) (drop_packet (w.you.offered s) (w.me.accepted s) p got)
    ∙ cond_append ((p.channel == 0) || (p.channel == c)) p.body (on_c c (drop (suc (w.me.accepted s)) (w.you.offered s))) t.yours.rest

no_restart_fault : (flow : Flow) (role : Role) (x y : Whole) (o ts : List Body) (b : Body) (own : Bool) → x.own ≡ own → GoodWhole flow role (record { me = x; you = y; out = o; back = b ∷ ts }) → is_restart_fault (phase_of own) b ≡ false
no_restart_fault flow role x y o ts RestartConfirmation false e g = absurd (confirmation_unexpected flow role x y o ts e g)
no_restart_fault flow role x y o ts RestartConfirmation true e g = refl
no_restart_fault flow role x y o ts _ false e g = refl
no_restart_fault flow role x y o ts _ true e g = refl

pub restart_faultless : (flow : Flow) (role : Role) (w : Line) (s c : ℕ) (p : Packet) → w.me.session ≡ Some s → next_of_session w s ≡ Some p → (p.channel == 0) ≡ true → Tied flow role w s c → is_restart_fault w.me.layer.phase p.body ≡ false
restart_faultless flow role w s c p ses got e t =
    let b = back_is flow role w s c p t got ∙ ap (λ (v : Bool). cond (v || (p.channel == c)) (p.body ∷ (on_c c (drop (suc (w.me.accepted s)) (w.you.offered s)) ++ t.yours.rest)) (on_c c (drop (suc (w.me.accepted s)) (w.you.offered s)) ++ t.yours.rest)) e in
    let g = subst (λ (l : List Body). GoodWhole flow role (record { me = t.x; you = t.y; out = t.o; back = l })) b t.good in
    subst (λ (ph : Phase). is_restart_fault ph p.body ≡ false) (sym (t.mine.present ses).phase_is) (no_restart_fault flow role t.x t.y t.o _ p.body t.x.own refl g)

channel_fault_at : (own : Bool) (l : Layer) (p : Packet) → (own ≡ false → is_fault_on l p (channel_of l p.channel) ≡ false) → is_channel_fault (phase_of own) l p ≡ false
channel_fault_at true l p h = refl
channel_fault_at false l p h = h refl

pub channel_faultless : (flow : Flow) (role : Role) (w : Line) (s : ℕ) (p : Packet) → w.me.session ≡ Some s → next_of_session w s ≡ Some p → (p.channel == 0) ≡ false → Tied flow role w s p.channel → is_channel_fault w.me.layer.phase w.me.layer p ≡ false
channel_faultless flow role w s p ses got nz t =
    let c : ℕ = p.channel in
    let l : Layer = w.me.layer in
    let here : (c == c) ≡ true = same c in
    let left : List Body = on_c c (drop (suc (w.me.accepted s)) (w.you.offered s)) ++ t.yours.rest in
    let b : t.b ≡ p.body ∷ left = back_is flow role w s c p t got ∙ ap (λ (v : Bool). cond (v || (c == c)) (p.body ∷ left) left) nz ∙ ap (λ (v : Bool). cond v (p.body ∷ left) left) here in
    let g = subst (λ (q : List Body). GoodWhole flow role (record { me = t.x; you = t.y; out = t.o; back = q })) b t.good in
    let pr = t.mine.present ses in
    let well : WellOf false true p.body = subst (λ (v : Bool). WellOf false v p.body) here (subst (λ (v : Bool). WellOf v (c == c) p.body) nz (well_get c (w.you.offered s) (w.me.accepted s) p got t.yours.well)) in
    subst (λ (ph : Phase). is_channel_fault ph l p ≡ false) (sym pr.phase_is)
    (channel_fault_at t.x.own l p (λ ready.
    subst (λ (found : Option Channel). is_fault_on l p found ≡ false) (sym pr.channel_is)
    (subst (λ (r : Role). is_request (received r l.flow c (shown (stored t.x) pr.owed) p.body).owes ≡ false) (sym t.mine.role_is)
    (subst (λ (f : Flow). is_request (received role f c (shown (stored t.x) pr.owed) p.body).owes ≡ false) (sym t.mine.window_is)
    (ties_of flow role t.x t.y t.o left c pr.owed p.body well ready t.mine.settled g).no_fault))))
