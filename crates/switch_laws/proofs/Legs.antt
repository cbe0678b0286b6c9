-- What the switch asks of a leg, what comes on it and what goes to its line keeps what always holds of it.
use Rattle.std.proofs.Common.{◌≡◌, ℕ, zero, suc, ◌+◌, ◌≤◌, Bool, true, false, cond, not, ◌&&◌, ◌||◌, List, [], ◌∷◌, length, Option, Some, None, is_some, refl, sym, ap, ap₂, ◌∙◌, arith, true≢false, nat_le, nat_lt, ◌-◌, ◌%◌, ◌==◌}
use Rattle.std.proofs.lemmas.Bool.{leb-true, le-leb}
use Rattle.std.proofs.lemmas.Option.{none-some}
use Rattle.link_timers.specs.declared.role.Role.{Role}
use Rattle.data_transfer.proofs.Windows.{window_below, window_small}
use Rattle.data_transfer.specs.Flow.{IsFlow, shown, ahead_shown}
use Rattle.data_transfer.specs.declared.flow.Flow.{Flow}
use Rattle.data_transfer.specs.Packets.{Datum, Body}
use Rattle.data_transfer.specs.Packets.Body.{Data, Interrupt, InterruptConfirmation, ReceiveReady, ReceiveNotReady}
use Rattle.data_transfer.specs.Traffic.{Traffic, fresh, taking, taking_of, may_release, releasing, confirming, interrupt_pending, unreleased, says, says_interrupt, says_data, says_flow, flow_told, window_open, Said, hears, Heard, covers, keeps, arrives, partner_says, interrupted, in_flight}
use Rattle.data_transfer.specs.Traffic.Heard.{Keeps, Confirms, Wrong}
use Rattle.packet_channel.specs.Channel.{ChannelState, Request, Refusal, refusal, refused_if, in_transfer, moved, next_owed, ChannelNext, has_flow}
use Rattle.packet_channel.specs.Channel.ChannelState.{Transfer}
use Rattle.packet_channel.specs.Channel.Request.{Sending, Interrupting, Taking, Releasing, Confirming}
use Rattle.packet_laws.specs.History.{Epoch, empty_epoch, logged}
use Rattle.packet_laws.proofs.Numbers.{unreleased_is}
use Rattle.packet_laws.proofs.Naming.{counts_hold}
use Rattle.packet_laws.proofs.Call.Saying.{by_cond, and_parts}
use Rattle.switch_laws.specs.Leg.{Leg, IsLeg, asked, asked_unless, gave, connected}

-- the leg with this traffic and this epoch
abbrev pub holding : Traffic → Epoch → Leg → Leg
holding t e g = record g { channel = moved t g.channel; epoch = e }

abbrev pub emptied : Leg → Leg
emptied g = holding fresh empty_epoch g

-- ---- refusals taken apart

pub not_refused : (b : Bool) (r : Refusal) (o : Option Refusal) → refused_if b r o ≡ None → (b ≡ false) × (o ≡ None)
not_refused true r o e = absurd (none-some _ (sym e))
not_refused false r o e = (refl, e)

pub not_false : (b : Bool) → not b ≡ false → b ≡ true
not_false true e = refl
not_false false e = absurd (true≢false e)

pub none_of_or : (a b : Bool) → (a || b) ≡ false → (a ≡ false) × (b ≡ false)
none_of_or true b e = absurd (true≢false e)
none_of_or false b e = (refl, e)

pub asked_as : (q : Request) (g : Leg) → refusal g.role g.flow g.channel q ≡ None → asked q g ≡ asked_unless None q g
asked_as q g e = ap (λ (r : Option Refusal). asked_unless r q g) e

pub taking_allowed : (g : Leg) → g.channel.state ≡ Transfer → refusal g.role g.flow g.channel Taking ≡ None
taking_allowed g e = ap (λ (s : ChannelState). refused_if (not (in_transfer s)) Refusal.NoCall None) e

pub releasing_allowed : (n : ℕ) (g : Leg) → g.channel.state ≡ Transfer → refusal g.role g.flow g.channel (Releasing n) ≡ None
releasing_allowed n g e = ap (λ (s : ChannelState). refused_if (not (in_transfer s)) Refusal.NoCall None) e

pub confirming_allowed : (g : Leg) → g.channel.state ≡ Transfer → refusal g.role g.flow g.channel Confirming ≡ None
confirming_allowed g e = ap (λ (s : ChannelState). refused_if (not (in_transfer s)) Refusal.NoCall None) e

-- ---- counts

pub release_allowed : (n : ℕ) (g : Leg) → IsLeg g → g.epoch.released + n ≤ length g.epoch.taken → may_release n g.channel.traffic ≡ true
release_allowed n g i le =
    let t = g.channel.traffic in
    let count = unreleased_is g.flow t g.epoch (window_below _ i.flow) i.counts in
    le-leb (n + length t.arrived) (unreleased t) (omega arith)

pub arrived_within : (g : Leg) → IsLeg g → length g.channel.traffic.arrived ≤ 32
arrived_within g i =
    let taken = i.counts.released_taken in let within = i.counts.came_within in let small = window_small _ i.flow in omega arith

-- ---- interrupts: what a step that only moves them on keeps of them

pub record Flags (t u : Traffic) : Type 0 where
  pub pending : interrupt_pending u ≡ interrupt_pending t
  pub taken : u.interrupt_taken ≡ t.interrupt_taken
  pub one : (t.interrupt_unconfirmed ≡ true → t.interrupt_waiting ≡ None) → u.interrupt_unconfirmed ≡ true → u.interrupt_waiting ≡ None

same_flags : (t : Traffic) → Flags t t
same_flags t = record { pending = refl; taken = refl; one = λ f. f }

says_flow_flags : (flow : Flow) (t : Traffic) → Flags t (says_flow flow t).traffic
says_flow_flags flow t = by_cond (λ (s : Said). Flags t s.traffic) (flow_told t) _ _ (λ h. same_flags t) (λ h. record { pending = refl; taken = refl; one = λ f. f })

says_data_flags : (flow : Flow) (ds : List Datum) (t : Traffic) → Flags t (says_data flow ds t).traffic
says_data_flags flow [] t = says_flow_flags flow t
says_data_flags flow (d ∷ ds) t = by_cond (λ (s : Said). Flags t s.traffic) (window_open flow t) _ _ (λ h. record { pending = refl; taken = refl; one = λ f. f }) (λ h. says_flow_flags flow t)

says_interrupt_flags : (flow : Flow) (q : Option (List ℕ)) (t : Traffic) → t.interrupt_waiting ≡ q → Flags t (says_interrupt flow q t).traffic
says_interrupt_flags flow (Some octets) t e = record {
  pending = sym (ap (λ (w : Option (List ℕ)). is_some w || t.interrupt_unconfirmed) e);
  taken = refl;
  one = λ f u. refl;
}
says_interrupt_flags flow None t e = says_data_flags flow t.waiting t

pub says_flags : (flow : Flow) (t : Traffic) → Flags t (says flow t).traffic
says_flags flow t =
    by_cond (λ (s : Said). Flags t s.traffic) t.confirmation_due _ _ (λ h. record { pending = refl; taken = refl; one = λ f. f })
    (λ h. says_interrupt_flags flow t.interrupt_waiting t refl)

abbrev pub HearsFlags : Traffic → Heard → Type 0
HearsFlags t (Keeps n u) = Flags t u
HearsFlags t (Confirms u) = (t.interrupt_unconfirmed ≡ true) × (u ≡ record t { interrupt_unconfirmed = false })
HearsFlags t (Wrong d) = Unit {0}

through : (n c : ℕ) (t : Traffic) (u : Traffic) → Flags (record t { covered = c; undelivered = t.undelivered - n }) u → Flags t u
through n c t u i = record { pending = i.pending; taken = i.taken; one = i.one }

covers_flags : (f : Traffic → Traffic) → ((u : Traffic) → Flags u (f u)) → (flow : Flow) (r : ℕ) (t : Traffic) → HearsFlags t (keeps (λ u. f u) (covers flow r t))
covers_flags f same flow r t =
    let newly = ahead_shown flow.numbering t.covered r in
    by_cond (λ (h : Heard). HearsFlags t (keeps (λ u. f u) h)) (nat_le newly (in_flight t)) _ _ (λ h. through newly ((t.covered + newly) % 128) t _ (same _)) (λ h. tt)

arrives_flags : (d : Datum) (u : Traffic) → Flags u (arrives d u)
arrives_flags d u = record { pending = refl; taken = refl; one = λ f. f }

busy_flags : (b : Bool) (u : Traffic) → Flags u (partner_says b u)
busy_flags b u = record { pending = refl; taken = refl; one = λ f. f }

pub hears_flags : (flow : Flow) (t : Traffic) (b : Body) → HearsFlags t (hears flow t b)
hears_flags flow t (Data s r d) =
    by_cond (λ (h : Heard). HearsFlags t h) ((s == shown flow.numbering t.receive_number) && nat_lt (unreleased t) flow.window) _ _ (λ h. covers_flags (λ u. arrives d u) (λ u. arrives_flags d u) flow r t) (λ h. tt)
hears_flags flow t (ReceiveReady r) = covers_flags (λ u. partner_says false u) (λ u. busy_flags false u) flow r t
hears_flags flow t (ReceiveNotReady r) = covers_flags (λ u. partner_says true u) (λ u. busy_flags true u) flow r t
hears_flags flow t (Interrupt octets) =
    by_cond (λ (h : Heard). HearsFlags t h) (interrupted t) _ _ (λ h. tt) (λ h. record { pending = refl; taken = refl; one = λ f. f })
hears_flags flow t InterruptConfirmation = by_cond (λ (h : Heard). HearsFlags t h) t.interrupt_unconfirmed _ _ (λ h. (h, refl)) (λ h. tt)
hears_flags flow t _ = tt

-- ---- what the switch asks

taking_flags : (a : Option (List ℕ)) (ds : List Datum) (t : Traffic) → ((taking_of a ds t).interrupt_unconfirmed ≡ t.interrupt_unconfirmed) × ((taking_of a ds t).interrupt_waiting ≡ t.interrupt_waiting)
taking_flags (Some octets) ds t = (refl, refl)
taking_flags None [] t = (refl, refl)
taking_flags None (d ∷ ds) t = (refl, refl)

pub leg_taken : (g : Leg) → IsLeg g → IsLeg (asked_unless None Taking g)
leg_taken g i =
    let t = g.channel.traffic in
    let f = taking_flags t.interrupt_arrived t.arrived t in
    record {
      flow = i.flow;
      counts = counts_hold.asked g.flow (window_below _ i.flow) t g.epoch Taking i.counts;
      traffic_anew = λ r. ap (λ (u : Traffic). taking u) (i.traffic_anew r);
      epoch_anew = λ r. ap₂ (λ (u : Traffic) (e : Epoch). logged u Taking e) (i.traffic_anew r) (i.epoch_anew r);
      one_interrupt = λ u. f.1 ∙ i.one_interrupt (sym f.0 ∙ u);
    }

releasing_fresh : (n : ℕ) → cond (may_release n fresh) (releasing n fresh) fresh ≡ fresh
releasing_fresh zero = refl
releasing_fresh (suc n) = by_cond (λ (u : Traffic). u ≡ fresh) (may_release (suc n) fresh) _ _ (λ h. let le = leb-true (suc n + 0) 0 h in absurd (omega arith)) (λ h. refl)

releasing_empty : (n : ℕ) → logged fresh (Releasing n) empty_epoch ≡ empty_epoch
releasing_empty zero = refl
releasing_empty (suc n) = by_cond (λ (e : Epoch). e ≡ empty_epoch) (may_release (suc n) fresh) _ _ (λ h. let le = leb-true (suc n + 0) 0 h in absurd (omega arith)) (λ h. refl)

releasing_flags : (b : Bool) (n : ℕ) (t : Traffic) → ((cond b (releasing n t) t).interrupt_unconfirmed ≡ t.interrupt_unconfirmed) × ((cond b (releasing n t) t).interrupt_waiting ≡ t.interrupt_waiting)
releasing_flags true n t = (refl, refl)
releasing_flags false n t = (refl, refl)

pub leg_released : (n : ℕ) (g : Leg) → IsLeg g → IsLeg (asked_unless None (Releasing n) g)
leg_released n g i =
    let t = g.channel.traffic in
    let f = releasing_flags (may_release n t) n t in
    record {
      flow = i.flow;
      counts = counts_hold.asked g.flow (window_below _ i.flow) t g.epoch (Releasing n) i.counts;
      traffic_anew = λ r. ap (λ (u : Traffic). cond (may_release n u) (releasing n u) u) (i.traffic_anew r) ∙ releasing_fresh n;
      epoch_anew = λ r. ap₂ (λ (u : Traffic) (e : Epoch). logged u (Releasing n) e) (i.traffic_anew r) (i.epoch_anew r) ∙ releasing_empty n;
      one_interrupt = λ u. f.1 ∙ i.one_interrupt (sym f.0 ∙ u);
    }

confirming_flags : (b : Bool) (t : Traffic) → ((cond b (confirming t) t).interrupt_unconfirmed ≡ t.interrupt_unconfirmed) × ((cond b (confirming t) t).interrupt_waiting ≡ t.interrupt_waiting)
confirming_flags true t = (refl, refl)
confirming_flags false t = (refl, refl)

pub leg_confirmed : (g : Leg) → IsLeg g → IsLeg (asked_unless None Confirming g)
leg_confirmed g i =
    let t = g.channel.traffic in
    let f = confirming_flags t.interrupt_taken t in
    record {
      flow = i.flow;
      counts = counts_hold.asked g.flow (window_below _ i.flow) t g.epoch Confirming i.counts;
      traffic_anew = λ r. ap (λ (u : Traffic). cond u.interrupt_taken (confirming u) u) (i.traffic_anew r);
      epoch_anew = i.epoch_anew;
      one_interrupt = λ u. f.1 ∙ i.one_interrupt (sym f.0 ∙ u);
    }

pub leg_sent : (d : Datum) (g : Leg) → g.channel.resetting ≡ false → IsLeg g → IsLeg (asked_unless None (Sending d) g)
leg_sent d g clear i = record {
  flow = i.flow;
  counts = counts_hold.asked g.flow (window_below _ i.flow) g.channel.traffic g.epoch (Sending d) i.counts;
  traffic_anew = λ r. absurd (true≢false (sym r ∙ clear));
  epoch_anew = λ r. absurd (true≢false (sym r ∙ clear));
  one_interrupt = i.one_interrupt;
}

pub leg_interrupted : (octets : List ℕ) (g : Leg) → g.channel.resetting ≡ false → g.channel.traffic.interrupt_unconfirmed ≡ false → IsLeg g → IsLeg (asked_unless None (Interrupting octets) g)
leg_interrupted octets g clear none i = record {
  flow = i.flow;
  counts = counts_hold.asked g.flow (window_below _ i.flow) g.channel.traffic g.epoch (Interrupting octets) i.counts;
  traffic_anew = λ r. absurd (true≢false (sym r ∙ clear));
  epoch_anew = λ r. absurd (true≢false (sym r ∙ clear));
  one_interrupt = λ u. absurd (true≢false (sym u ∙ none));
}

-- ---- a reset, begun or learnt

abbrev pub anew : (resetting : Bool) (owed : List Body) → Leg → Leg
anew b owed g = record g { channel = record g.channel { resetting = b; owed = owed; traffic = fresh }; before = g.epoch ∷ g.before; epoch = empty_epoch }

pub leg_anew : (b : Bool) (owed : List Body) (g : Leg) → IsLeg g → IsLeg (anew b owed g)
leg_anew b owed g i = record {
  flow = i.flow;
  counts = counts_hold.begins g.flow;
  traffic_anew = λ r. refl;
  epoch_anew = λ r. refl;
  one_interrupt = λ u. refl;
}

pub leg_connected : (role : Role) (flow : Flow) (owed : List Body) → IsFlow flow → IsLeg (connected role flow owed)
leg_connected role flow owed le = record {
  flow = le;
  counts = counts_hold.begins flow;
  traffic_anew = λ r. refl;
  epoch_anew = λ r. refl;
  one_interrupt = λ u. refl;
}

-- ---- the line takes what the leg has next

-- what goes to the line leaves this of a leg
pub record Gives (g h : Leg) : Type 0 where
  pub leg : IsLeg h
  pub flow : h.flow ≡ g.flow
  pub state : h.channel.state ≡ g.channel.state
  pub flags : Flags g.channel.traffic h.channel.traffic
  pub before : h.before ≡ g.before
  pub epoch : h.epoch ≡ g.epoch

gives_says : (b : Bool) (g : Leg) → IsLeg g → (b ≡ true → g.channel.resetting ≡ false)
    → Gives g (record g { channel = (cond {A = ChannelNext} b (record { channel = moved (says g.flow g.channel.traffic).traffic g.channel; body = (says g.flow g.channel.traffic).body }) (record { channel = g.channel; body = None })).channel })
gives_says true g i clear = record {
  leg = record {
    flow = i.flow;
    counts = (counts_hold.said g.flow (window_below _ i.flow) g.channel.traffic g.epoch i.counts).0;
    traffic_anew = λ r. absurd (true≢false (sym r ∙ clear refl));
    epoch_anew = i.epoch_anew;
    one_interrupt = (says_flags g.flow g.channel.traffic).one i.one_interrupt;
  };
  flow = refl;
  state = refl;
  flags = says_flags g.flow g.channel.traffic;
  before = refl;
  epoch = refl;
}
gives_says false g i clear = record { leg = i; flow = refl; state = refl; flags = same_flags g.channel.traffic; before = refl; epoch = refl }

gives_owed : (owed : List Body) (g : Leg) → IsLeg g → Gives g (record g { channel = (next_owed g.flow owed g.channel).channel })
gives_owed (b ∷ bs) g i = record {
  leg = record { flow = i.flow; counts = i.counts; traffic_anew = i.traffic_anew; epoch_anew = i.epoch_anew; one_interrupt = i.one_interrupt };
  flow = refl;
  state = refl;
  flags = same_flags g.channel.traffic;
  before = refl;
  epoch = refl;
}
gives_owed [] g i = gives_says (has_flow g.channel) g i (λ h. no_reset g.channel.resetting (and_parts (in_transfer g.channel.state) (not g.channel.resetting) h).1)
  where
    no_reset : (b : Bool) → not b ≡ true → b ≡ false
    no_reset true e = absurd (true≢false (sym e))
    no_reset false e = refl

pub leg_gave : (g : Leg) → IsLeg g → Gives g (gave g)
leg_gave g i = gives_owed g.channel.owed g i
