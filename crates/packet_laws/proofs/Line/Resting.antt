-- Where nothing of a channel is on its way, its two ends belong together and nothing is missing.
use Rattle.std.proofs.Common.{◌≡◌, ℕ, Bool, true, false, cond, List, [], ◌∷◌, ◌++◌, length, drop, refl, sym, ap, subst, ◌∙◌, arith}
use Rattle.std.proofs.lemmas.Bool.{eq-eqb}
use Rattle.link_timers.specs.declared.role.Role.{Role}
use Rattle.link_timers.specs.Role.{other_of}
use Rattle.data_transfer.specs.declared.flow.Flow.{Flow}
use Rattle.data_transfer.specs.Packets.{Body, Packet}
use Rattle.data_transfer.specs.Traffic.{Traffic}
use Rattle.packet_channel.specs.Channel.{Channel}
use Rattle.packet_laws.specs.History.{Epoch, History}
use Rattle.packet_laws.specs.LayerLine.{Line}
use Rattle.packet_laws.specs.LayerLineLaw.{Quiet, Together, AtRest, NothingMissing, epoch_now, listed}
use Rattle.packet_laws.proofs.Handshakes.Handshake.{Kind, Side, Two, at, Meets, Inv}
use Rattle.packet_laws.proofs.Call.SetUp.{Stage, Pair, Idle}
use Rattle.packet_laws.proofs.Call.SetUp.Stage.{Free, Placed, Waiting, Collided, Open}
use Rattle.packet_laws.proofs.Call.OneEpoch.{Inner, begun_epoch, Way}
use Rattle.packet_laws.proofs.Call.Delivery.{Agree}
use Rattle.packet_laws.proofs.Call.Levels.{restart_kind, clear_kind, reset_kind, Epochs, CallUse, Uses, Whole, first_epoch, first_call, first_use, GoodCall, GoodUses, GoodWhole}
use Rattle.packet_laws.proofs.Line.Stored.{Stored, stored, stored_call, stored_uses, stored_whole, phase_of, shown, HistoryTie, Mark, mark, look, marked}
use Rattle.packet_laws.proofs.Line.Lines.{on_c, Tied}
use Rattle.packet_laws.proofs.Line.Outcomes.{some_same}

drop_all : {X : Type 0} → (xs : List X) → drop (length xs) xs ≡ []
drop_all [] = refl
drop_all (x ∷ xs) = drop_all xs

-- ---- a handshake with empty pipes

abbrev Rested : (p q : ℕ → List Body) → Bool → Bool → ℕ → ℕ → ℕ → ℕ → Type 0
Rested p q ox oy nx ny cx cy = (ox ≡ false) × (oy ≡ false) × (nx ≡ ny) × (cy ≡ length (p nx)) × (cx ≡ length (q ny))

meets_rest : (p q : ℕ → List Body) (ox oy : Bool) (nx ny cx cy : ℕ) → Meets p nx oy ny cy → Meets q ny ox nx cx → Rested p q ox oy nx ny cx cy
meets_rest p q true true nx ny cx cy f g = let a = f.0 in let b = g.0 in let n : ⊥ = omega arith in absurd n
meets_rest p q true false nx ny cx cy f g = let a = f.0 in let b = g.0 in let n : ⊥ = omega arith in absurd n
meets_rest p q false true nx ny cx cy f g = let a = f.0 in let b = g.0 in let n : ⊥ = omega arith in absurd n
meets_rest p q false false nx ny cx cy f g = (refl, refl, g.0, f.1, g.1)

pub at_number : {I : Type 0} → (s : Side I) (k : ℕ) → k ≡ s.number → at s k ≡ s.now
at_number s k e = ap (λ (b : Bool). cond b s.now (s.past k)) (eq-eqb k s.number e)

record SideRest (I : Type 0) (Good : Two I → Type 0) (x y : Side I) : Type 0 where
  mine : x.own ≡ false
  yours : y.own ≡ false
  numbers : x.number ≡ y.number
  inside : Good (record { me = x.now; you = y.now; out = []; back = [] })

side_rest : (kind : Body → Kind) (I : Type 0) (start : I) (Good : Two I → Type 0) (x y : Side I) → Inv kind I start Good (record { me = x; you = y; out = []; back = [] }) → SideRest I Good x y
side_rest kind I start Good x y i =
    let r = meets_rest x.put y.put x.own y.own x.number y.number (x.came x.number) (y.came y.number) i.fore.walk i.aft.walk in
    let k : ℕ = x.number in
    let out_nil : drop (y.came k) (x.put k) ≡ [] = ap (λ (j : ℕ). drop (y.came j) (x.put k)) r.2 ∙ ap (λ (j : ℕ). drop j (x.put k)) r.3 ∙ drop_all (x.put k) in
    let back_nil : drop (x.came k) (y.put k) ≡ [] = ap (λ (j : ℕ). drop (x.came k) (y.put j)) r.2 ∙ ap (λ (j : ℕ). drop j (y.put y.number)) r.4 ∙ drop_all (y.put y.number) in
    record {
      mine = r.0;
      yours = r.1;
      numbers = r.2;
      inside =
          subst (λ (l : List Body). Good (record { me = x.now; you = y.now; out = []; back = l })) back_nil
          (subst (λ (l : List Body). Good (record { me = x.now; you = y.now; out = l; back = drop (x.came k) (y.put k) })) out_nil
          (subst (λ (e : I). Good (record { me = x.now; you = e; out = drop (y.came k) (x.put k); back = drop (x.came k) (y.put k) })) (at_number y k r.2)
          (subst (λ (e : I). Good (record { me = e; you = at y k; out = drop (y.came k) (x.put k); back = drop (x.came k) (y.put k) })) (at_number x k refl) (i.inners k))));
    }

-- ---- the stages

together_at : (r q : Role) (a b : Stage) (e f : Epochs) → Pair q a b → Pair r b a → Together (stored_call a e).state (stored_call b f).state
together_at r q Free Free e f p s = tt
together_at r q Placed Waiting e f p s = tt
together_at r q Waiting Placed e f p s = tt
together_at r q Collided Collided e f p s = tt
together_at r q (Open m) (Open n) e f p s = tt
together_at r q Free _ e f p s = absurd s
together_at r q Placed Collided e f p s = absurd s
together_at r q Placed (Open n) e f p s = absurd s
together_at r q Placed _ e f p s = absurd p
together_at r q Waiting _ e f p s = absurd p
together_at r q Collided (Open n) e f p s = absurd s
together_at r q Collided _ e f p s = absurd p
together_at r q (Open m) _ e f p s = absurd p

call_traffic : (s : Stage) (e : Epochs) → Idle first_epoch s e → (stored_call s e).traffic ≡ e.now.traffic
call_traffic Free e i = sym (ap (λ (v : Epochs). v.now.traffic) i)
call_traffic Placed e i = sym (ap (λ (v : Epochs). v.now.traffic) i)
call_traffic Waiting e i = sym (ap (λ (v : Epochs). v.now.traffic) i)
call_traffic Collided e i = sym (ap (λ (v : Epochs). v.now.traffic) i)
call_traffic (Open m) e i = refl

call_resetting : (s : Stage) (e : Epochs) → e.own ≡ false → (stored_call s e).resetting ≡ false
call_resetting Free e h = refl
call_resetting Placed e h = refl
call_resetting Waiting e h = refl
call_resetting Collided e h = refl
call_resetting (Open m) e h = h

-- ---- the whole

stored_is : (x : Whole) → x.own ≡ false → x.now.own ≡ false → stored x ≡ stored_call x.now.now.stage x.now.now.call
stored_is x e f = ap (λ (b : Bool). stored_whole b x.now) e ∙ ap (λ (b : Bool). stored_uses b x.now.now) f

pub epoch_is : (x : Whole) (st : History) → HistoryTie x st → epoch_now st ≡ marked (mark x.now.now) x.now.now.call.now.epoch
epoch_is x st t =
    t.epochs_are st.restart st.use_ st.epoch
    ∙ ap (λ (s : Uses). look (at s st.use_) st.epoch) (at_number x st.restart t.restart_is)
    ∙ ap (λ (u : CallUse). look u st.epoch) (at_number x.now st.use_ t.use_is)
    ∙ ap (λ (i : Inner). marked (mark x.now.now) i.epoch) (at_number x.now.now.call st.epoch t.epoch_is)

nothing_missing : (flow : Flow) (i j : Inner) (p q : Mark) (a b : Channel) (e f : Epoch) → Way flow i j [] [] → a.traffic ≡ i.traffic → b.traffic ≡ j.traffic → e ≡ marked p i.epoch → f ≡ marked q j.epoch → NothingMissing e f a b
nothing_missing flow i j p q a b e f w at bt ee fe = record {
  packets = ap (λ (v : Epoch). v.taken ++ (b.traffic.arrived ++ a.traffic.waiting)) fe
      ∙ ap (λ (t : Traffic). j.epoch.taken ++ (t.arrived ++ a.traffic.waiting)) bt ∙ ap (λ (t : Traffic). j.epoch.taken ++ (j.traffic.arrived ++ t.waiting)) at
      ∙ w.stream.items ∙ sym (ap (λ (v : Epoch). v.sent) ee);
  interrupts = ap (λ (v : Epoch). v.interrupts_taken ++ (listed b.traffic.interrupt_arrived ++ listed a.traffic.interrupt_waiting)) fe
      ∙ ap (λ (t : Traffic). j.epoch.interrupts_taken ++ (listed t.interrupt_arrived ++ listed a.traffic.interrupt_waiting)) bt
      ∙ ap (λ (t : Traffic). j.epoch.interrupts_taken ++ (listed j.traffic.interrupt_arrived ++ listed t.interrupt_waiting)) at
      ∙ w.urgent.items ∙ sym (ap (λ (v : Epoch). v.interrupts_sent) ee);
}

pipe_nil : (c a : ℕ) (ps : List Packet) (o rest owed owed_c : List Body) → o ≡ on_c c (drop a ps) ++ rest → a ≡ length ps → rest ≡ owed ++ owed_c → owed ≡ [] → owed_c ≡ [] → o ≡ []
pipe_nil c a ps o rest owed owed_c e len r n m =
    e ∙ ap (λ (k : ℕ). on_c c (drop k ps) ++ rest) len ∙ ap (λ (l : List Packet). on_c c l ++ rest) (drop_all ps) ∙ r ∙ ap (λ (l : List Body). l ++ owed_c) n ∙ m

pub tied_rests : (flow : Flow) (role : Role) (w : Line) (s c : ℕ) → Tied flow role w s c → (a b : Channel) → Quiet w s c a b → AtRest w s c a b
tied_rests flow role w s c t a b q =
    let x : Whole = t.x in let y : Whole = t.y in
    let p = t.mine.present q.up_here in
    let r = t.yours.present q.up_there in
    let a_is : a ≡ shown (stored x) p.owed = some_same a (shown (stored x) p.owed) (sym q.found_here ∙ p.channel_is) in
    let b_is : b ≡ shown (stored y) r.owed = some_same b (shown (stored y) r.owed) (sym q.found_there ∙ r.channel_is) in
    let o_nil : t.o ≡ [] = pipe_nil c (w.you.accepted s) (w.me.offered s) t.o t.mine.rest w.me.layer.owed p.owed t.mine.out_is q.all_came_there (p.rest_is q.no_relink_here) q.no_restart_owed_here (sym (ap (λ (ch : Channel). ch.owed) a_is) ∙ q.nothing_owed_here) in
    let b_nil : t.b ≡ [] = pipe_nil c (w.me.accepted s) (w.you.offered s) t.b t.yours.rest w.you.layer.owed r.owed t.yours.out_is q.all_came_here (r.rest_is q.no_relink_there) q.no_restart_owed_there (sym (ap (λ (ch : Channel). ch.owed) b_is) ∙ q.nothing_owed_there) in
    let g : GoodWhole flow role (record { me = x; you = y; out = []; back = [] }) =
    subst (λ (l : List Body). GoodWhole flow role (record { me = x; you = y; out = []; back = l })) b_nil (subst (λ (l : List Body). GoodWhole flow role (record { me = x; you = y; out = l; back = t.b })) o_nil t.good) in
    let top = side_rest restart_kind Uses first_use (λ u. GoodUses flow role u) x y g in
    let uses = side_rest clear_kind CallUse first_call (λ u. GoodCall flow role u) x.now y.now top.inside in
    let call = uses.inside in
    let ep = side_rest reset_kind Inner begun_epoch (λ u. Agree flow u) x.now.now.call y.now.now.call call.call in
    let fx = stored_is x top.mine uses.mine in
    let fy = stored_is y top.yours uses.yours in
    let ax : a.traffic ≡ x.now.now.call.now.traffic = ap (λ (ch : Channel). ch.traffic) a_is ∙ ap (λ (f : Stored). f.traffic) fx ∙ call_traffic x.now.now.stage x.now.now.call call.idle_me in
    let by : b.traffic ≡ y.now.now.call.now.traffic = ap (λ (ch : Channel). ch.traffic) b_is ∙ ap (λ (f : Stored). f.traffic) fy ∙ call_traffic y.now.now.stage y.now.now.call call.idle_you in
    let ex = epoch_is x (w.me.histories s c) t.mine.history in
    let ey = epoch_is y (w.you.histories s c) t.yours.history in
    record {
      ready_here = p.phase_is ∙ ap (λ (v : Bool). phase_of v) top.mine;
      ready_there = r.phase_is ∙ ap (λ (v : Bool). phase_of v) top.yours;
      together = subst (λ (ch : Channel). Together ch.state b.state) (sym a_is) (subst (λ (ch : Channel). Together (stored x).state ch.state) (sym b_is)
          (subst (λ (f : Stored). Together f.state (stored y).state) (sym fx) (subst (λ (f : Stored). Together (stored_call x.now.now.stage x.now.now.call).state f.state) (sym fy)
          (together_at role (other_of role) x.now.now.stage y.now.now.stage x.now.now.call y.now.now.call call.fore call.aft))));
      no_reset_here = ap (λ (ch : Channel). ch.resetting) a_is ∙ ap (λ (f : Stored). f.resetting) fx ∙ call_resetting x.now.now.stage x.now.now.call ep.mine;
      no_reset_there = ap (λ (ch : Channel). ch.resetting) b_is ∙ ap (λ (f : Stored). f.resetting) fy ∙ call_resetting y.now.now.stage y.now.now.call ep.yours;
      same_restart = t.mine.history.restart_is ∙ top.numbers ∙ sym t.yours.history.restart_is;
      same_use = t.mine.history.use_is ∙ uses.numbers ∙ sym t.yours.history.use_is;
      same_epoch = t.mine.history.epoch_is ∙ ep.numbers ∙ sym t.yours.history.epoch_is;
      forth = nothing_missing flow x.now.now.call.now y.now.now.call.now (mark x.now.now) (mark y.now.now) a b _ _ ep.inside.ways.forth ax by ex ey;
      back = nothing_missing flow y.now.now.call.now x.now.now.call.now (mark y.now.now) (mark x.now.now) b a _ _ ep.inside.ways.back by ax ey ex;
    }
