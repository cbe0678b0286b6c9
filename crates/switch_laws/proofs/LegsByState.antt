-- What always holds of the leg of a channel, in each state of its call.
use Rattle.std.proofs.Common.{◌≡◌, ℕ, ◌+◌, Bool, true, false, cond, not, ◌&&◌, List, [], ◌∷◌, Option, Some, None, refl, sym, ap, subst, ◌∙◌, true≢false}
use Rattle.link_timers.specs.declared.role.Role.{Role}
use Rattle.link_timers.specs.declared.role.Role.TheVariants.{Dte, Dce}
use Rattle.data_transfer.proofs.Windows.{window_below}
use Rattle.data_transfer.specs.Flow.{IsFlow}
use Rattle.data_transfer.specs.Packets.{Body}
use Rattle.data_transfer.specs.Packets.Body.{Call, Accepted, Clear, ClearConfirmation, Data, Interrupt, InterruptConfirmation, ReceiveReady, ReceiveNotReady, Reset, ResetConfirmation}
use Rattle.data_transfer.specs.Traffic.{Traffic, fresh, Heard, hears as hears_in, says}
use Rattle.data_transfer.specs.Traffic.Heard.{Keeps, Confirms, Wrong}
use Rattle.packet_channel.specs.Channel.{ChannelState, Request, Refusal, refusal, refused_if, in_transfer, may_accept, after_heard, has_flow, ChannelNext, next_owed, moved as with_traffic}
use Rattle.packet_channel.specs.Channel.ChannelState.{Ready, OwnWaiting, FarWaiting, Transfer, Collision, OwnClear}
use Rattle.packet_channel.specs.Channel.Request.{Accept, Clearing, Resetting, Sending, Interrupting, Stopping, Taking, Releasing, Confirming}
use Rattle.packet_laws.specs.History.{Epoch, logged_heard}
use Rattle.packet_laws.specs.Counts.{NamesCounts, NamesAfter}
use Rattle.packet_laws.proofs.Naming.{counts_hold}
use Rattle.switch_laws.specs.Leg.{Leg, IsLeg, asked, asked_unless, stepped, heard, misheard, gave}
use Rattle.switch_laws.specs.World.{IsAtStart, IsCallLeg, MayAsk}
use Rattle.switch_laws.proofs.Legs.{Flags, HearsFlags, hears_flags, not_refused, not_false, none_of_or, leg_taken, leg_released, leg_confirmed, leg_sent, leg_interrupted, leg_anew, leg_gave}

pub start_good : (g : Leg) → IsFlow g.flow → IsAtStart g → IsCallLeg g
start_good g le a = record {
  leg = record {
    flow = le;
    counts = subst (λ (t : Traffic). NamesCounts g.flow t g.epoch) (sym a.traffic) (subst (λ (e : Epoch). NamesCounts g.flow fresh e) (sym a.epoch) (counts_hold.begins g.flow));
    traffic_anew = λ r. a.traffic;
    epoch_anew = λ r. a.epoch;
    one_interrupt = λ u. ap (λ (t : Traffic). t.interrupt_waiting) a.traffic;
  };
  start = λ e. a;
}

pub transfer_good : (g : Leg) → in_transfer g.channel.state ≡ true → IsLeg g → IsCallLeg g
transfer_good g t i = record { leg = i; start = λ e. absurd (true≢false (sym t ∙ e)) }

-- ---- asked

pub accepts_before : (role : Role) (s : ChannelState) → may_accept role s ≡ true → in_transfer s ≡ false
accepts_before role Ready e = refl
accepts_before role OwnWaiting e = refl
accepts_before role FarWaiting e = refl
accepts_before Dte Transfer e = absurd (true≢false (sym e))
accepts_before Dce Transfer e = absurd (true≢false (sym e))
accepts_before role Collision e = refl
accepts_before role OwnClear e = refl

in_call : (g : Leg) (o : Option Refusal) → refused_if (not (in_transfer g.channel.state)) Refusal.NoCall o ≡ None → in_transfer g.channel.state ≡ true
in_call g o e = not_false _ (not_refused (not (in_transfer g.channel.state)) _ _ e).0

asked_done : (q : Request) (g : Leg) → MayAsk q → refusal g.role g.flow g.channel q ≡ None → IsCallLeg g → IsCallLeg (asked_unless None q g)
asked_done Accept g m e i =
    let a = i.start (accepts_before g.role g.channel.state (not_false _ (not_refused (not (may_accept g.role g.channel.state)) _ _ e).0)) in
    start_good (asked_unless None Accept g) i.leg.flow (record { not_resetting = a.not_resetting; traffic = a.traffic; before = a.before; epoch = a.epoch })
asked_done (Clearing cause diagnostic) g m e i =
    start_good (asked_unless None (Clearing cause diagnostic) g) i.leg.flow (record { not_resetting = refl; traffic = refl; before = refl; epoch = refl })
asked_done (Resetting cause diagnostic) g m e i = transfer_good (asked_unless None (Resetting cause diagnostic) g) (in_call g _ e) (leg_anew true _ g i.leg)
asked_done (Sending d) g m e i =
    let s = not_refused (not (in_transfer g.channel.state)) _ _ e in
    let r = not_refused g.channel.resetting _ _ s.1 in
    transfer_good (asked_unless None (Sending d) g) (in_call g _ e) (leg_sent d g r.0 i.leg)
asked_done (Interrupting octets) g m e i =
    let s = not_refused (not (in_transfer g.channel.state)) _ _ e in
    let r = not_refused g.channel.resetting _ _ s.1 in
    let l = not_refused _ _ _ r.1 in
    let p = not_refused _ _ _ l.1 in
    transfer_good (asked_unless None (Interrupting octets) g) (in_call g _ e) (leg_interrupted octets g r.0 (none_of_or _ g.channel.traffic.interrupt_unconfirmed p.0).1 i.leg)
asked_done (Stopping b) g m e i = absurd m
asked_done Taking g m e i = transfer_good (asked_unless None Taking g) (in_call g _ e) (leg_taken g i.leg)
asked_done (Releasing n) g m e i = transfer_good (asked_unless None (Releasing n) g) (in_call g _ e) (leg_released n g i.leg)
asked_done Confirming g m e i = transfer_good (asked_unless None Confirming g) (in_call g _ e) (leg_confirmed g i.leg)

asked_unless_good : (r : Option Refusal) (q : Request) (g : Leg) → MayAsk q → refusal g.role g.flow g.channel q ≡ r → IsCallLeg g → IsCallLeg (asked_unless r q g)
asked_unless_good (Some r) q g m e i = i
asked_unless_good None q g m e i = asked_done q g m e i

pub asked_good : (q : Request) (g : Leg) → MayAsk q → IsCallLeg g → IsCallLeg (asked q g)
asked_good q g m i = asked_unless_good (refusal g.role g.flow g.channel q) q g m refl i

-- ---- heard

abbrev pub leg_in : ChannelState → Bool → Leg → Leg
leg_in s rs g = record g { channel = record g.channel { state = s; resetting = rs } }

leg_keeps : (n : ℕ) (u : Traffic) (g : Leg) → g.channel.resetting ≡ false → NamesCounts g.flow u (record g.epoch { covered = g.epoch.covered + n }) → Flags g.channel.traffic u
    → IsLeg g → IsLeg (record g { channel = with_traffic u g.channel; epoch = record g.epoch { covered = g.epoch.covered + n } })
leg_keeps n u g clear k f i = record {
  flow = i.flow;
  counts = k;
  traffic_anew = λ r. absurd (true≢false (sym r ∙ clear));
  epoch_anew = λ r. absurd (true≢false (sym r ∙ clear));
  one_interrupt = f.one i.one_interrupt;
}

leg_confirms : (g : Leg) → g.channel.resetting ≡ false → g.channel.traffic.interrupt_unconfirmed ≡ true → NamesCounts g.flow (record g.channel.traffic { interrupt_unconfirmed = false }) g.epoch
    → IsLeg g → IsLeg (record g { channel = with_traffic (record g.channel.traffic { interrupt_unconfirmed = false }) g.channel })
leg_confirms g clear sent k i = record {
  flow = i.flow;
  counts = k;
  traffic_anew = λ r. absurd (true≢false (sym r ∙ clear));
  epoch_anew = λ r. absurd (true≢false (sym r ∙ clear));
  one_interrupt = λ u. i.one_interrupt sent;
}

abbrev After : ℕ → Heard → Leg → Type 0
After c h g = IsCallLeg (stepped (after_heard g.role c g.channel h) (logged_heard h g.epoch) g)

after_good : (c : ℕ) (h : Heard) (p : Body) (g : Leg) → NamesAfter g.flow h g.channel.traffic g.epoch p → HearsFlags g.channel.traffic h → g.channel.resetting ≡ false
    → in_transfer g.channel.state ≡ true → IsLeg g → After c h g
after_good c (Keeps n u) p g k f clear t i = transfer_good (stepped (after_heard g.role c g.channel (Keeps n u)) (logged_heard (Keeps n u) g.epoch) g) t (leg_keeps n u g clear k.0 f i)
after_good c (Confirms u) p g k f clear t i =
    subst (λ (v : Traffic). NamesCounts g.flow v g.epoch → After c (Confirms v) g) (sym f.1)
    (λ n. transfer_good (stepped (after_heard g.role c g.channel (Confirms (record g.channel.traffic { interrupt_unconfirmed = false }))) g.epoch g) t (leg_confirms g clear f.0 n i)) k
after_good c (Wrong d) p g k f clear t i = transfer_good (stepped (after_heard g.role c g.channel (Wrong d)) g.epoch g) t (leg_anew true _ g i)

flow_good : (c : ℕ) (p : Body) (g : Leg) → g.channel.resetting ≡ false → in_transfer g.channel.state ≡ true → IsLeg g → After c (hears_in g.flow g.channel.traffic p) g
flow_good c p g clear t i =
    after_good c (hears_in g.flow g.channel.traffic p) p g (counts_hold.heard g.flow (window_below _ i.flow) g.channel.traffic g.epoch p i.counts) (hears_flags g.flow g.channel.traffic p) clear t i

abbrev Hears : ℕ → Body → Leg → Type 0
Hears c p g = IsCallLeg g → IsCallLeg (heard c p g)

d1_good : (c : ℕ) (p : Body) (g : Leg) → Hears c p (leg_in Transfer false g)
d1_good c (Clear cause diagnostic) g i = start_good (heard c (Clear cause diagnostic) (leg_in Transfer false g)) i.leg.flow (record { not_resetting = refl; traffic = refl; before = refl; epoch = refl })
d1_good c (Reset cause diagnostic) g i = transfer_good (heard c (Reset cause diagnostic) (leg_in Transfer false g)) refl (leg_anew false _ (leg_in Transfer false g) i.leg)
d1_good c ResetConfirmation g i = transfer_good (heard c ResetConfirmation (leg_in Transfer false g)) refl (leg_anew true _ (leg_in Transfer false g) i.leg)
d1_good c (Data send receive d) g i = flow_good c (Data send receive d) (leg_in Transfer false g) refl refl i.leg
d1_good c (ReceiveReady receive) g i = flow_good c (ReceiveReady receive) (leg_in Transfer false g) refl refl i.leg
d1_good c (ReceiveNotReady receive) g i = flow_good c (ReceiveNotReady receive) (leg_in Transfer false g) refl refl i.leg
d1_good c (Interrupt octets) g i = flow_good c (Interrupt octets) (leg_in Transfer false g) refl refl i.leg
d1_good c InterruptConfirmation g i = flow_good c InterruptConfirmation (leg_in Transfer false g) refl refl i.leg
d1_good c p g i = start_good (heard c p (leg_in Transfer false g)) i.leg.flow (record { not_resetting = refl; traffic = refl; before = refl; epoch = refl })

ends_good : (g : Leg) → IsCallLeg (leg_in Transfer true g) → IsCallLeg (leg_in Transfer false g)
ends_good g i = transfer_good (leg_in Transfer false g) refl (record {
  flow = i.leg.flow;
  counts = i.leg.counts;
  traffic_anew = λ r. i.leg.traffic_anew refl;
  epoch_anew = λ r. i.leg.epoch_anew refl;
  one_interrupt = i.leg.one_interrupt;
})

own_reset_good : (c : ℕ) (p : Body) (g : Leg) → Hears c p (leg_in Transfer true g)
own_reset_good c (Clear cause diagnostic) g i = start_good (heard c (Clear cause diagnostic) (leg_in Transfer true g)) i.leg.flow (record { not_resetting = refl; traffic = refl; before = refl; epoch = refl })
own_reset_good c (Reset cause diagnostic) g i = ends_good g i
own_reset_good c ResetConfirmation g i = ends_good g i
own_reset_good c (Data send receive d) g i = i
own_reset_good c (ReceiveReady receive) g i = i
own_reset_good c (ReceiveNotReady receive) g i = i
own_reset_good c (Interrupt octets) g i = i
own_reset_good c InterruptConfirmation g i = i
own_reset_good c p g i = start_good (heard c p (leg_in Transfer true g)) i.leg.flow (record { not_resetting = refl; traffic = refl; before = refl; epoch = refl })

ready_good : (rs : Bool) (c : ℕ) (p : Body) (g : Leg) → Hears c p (leg_in Ready rs g)
ready_good rs c (Call parts) g i = let a = i.start refl in start_good (heard c (Call parts) (leg_in Ready rs g)) i.leg.flow (record { not_resetting = a.not_resetting; traffic = a.traffic; before = a.before; epoch = a.epoch })
ready_good rs c (Clear cause diagnostic) g i = let a = i.start refl in start_good (heard c (Clear cause diagnostic) (leg_in Ready rs g)) i.leg.flow (record { not_resetting = a.not_resetting; traffic = a.traffic; before = refl; epoch = refl })
ready_good rs c p g i = start_good (heard c p (leg_in Ready rs g)) i.leg.flow (record { not_resetting = refl; traffic = refl; before = refl; epoch = refl })

own_waiting_good : (rs : Bool) (c : ℕ) (p : Body) (g : Leg) → Hears c p (leg_in OwnWaiting rs g)
own_waiting_good rs c Accepted g i = let a = i.start refl in start_good (heard c Accepted (leg_in OwnWaiting rs g)) i.leg.flow (record { not_resetting = a.not_resetting; traffic = a.traffic; before = a.before; epoch = a.epoch })
own_waiting_good rs c (Call parts) g i = let a = i.start refl in start_good (heard c (Call parts) (leg_in OwnWaiting rs g)) i.leg.flow (record { not_resetting = a.not_resetting; traffic = a.traffic; before = a.before; epoch = a.epoch })
own_waiting_good rs c p g i = start_good (heard c p (leg_in OwnWaiting rs g)) i.leg.flow (record { not_resetting = refl; traffic = refl; before = refl; epoch = refl })

far_waiting_good : (rs : Bool) (c : ℕ) (p : Body) (g : Leg) → Hears c p (leg_in FarWaiting rs g)
far_waiting_good rs c (Clear cause diagnostic) g i = start_good (heard c (Clear cause diagnostic) (leg_in FarWaiting rs g)) i.leg.flow (record { not_resetting = refl; traffic = refl; before = refl; epoch = refl })
far_waiting_good rs c p g i = start_good (heard c p (leg_in FarWaiting rs g)) i.leg.flow (record { not_resetting = refl; traffic = refl; before = refl; epoch = refl })

abbrev leg_as : Role → ChannelState → Bool → Leg → Leg
leg_as role s rs g = record (leg_in s rs g) { role = role }

collision_good : (role : Role) (rs : Bool) (c : ℕ) (p : Body) (g : Leg) → Hears c p (leg_as role Collision rs g)
collision_good Dte rs c Accepted g i = let a = i.start refl in start_good (heard c Accepted (leg_as Dte Collision rs g)) i.leg.flow (record { not_resetting = a.not_resetting; traffic = a.traffic; before = a.before; epoch = a.epoch })
collision_good Dte rs c (Clear cause diagnostic) g i = start_good (heard c (Clear cause diagnostic) (leg_as Dte Collision rs g)) i.leg.flow (record { not_resetting = refl; traffic = refl; before = refl; epoch = refl })
collision_good Dce rs c (Clear cause diagnostic) g i = start_good (heard c (Clear cause diagnostic) (leg_as Dce Collision rs g)) i.leg.flow (record { not_resetting = refl; traffic = refl; before = refl; epoch = refl })
collision_good role rs c p g i = start_good (heard c p (leg_as role Collision rs g)) i.leg.flow (record { not_resetting = refl; traffic = refl; before = refl; epoch = refl })

own_clear_good : (rs : Bool) (c : ℕ) (p : Body) (g : Leg) → Hears c p (leg_in OwnClear rs g)
own_clear_good rs c (Clear cause diagnostic) g i = let a = i.start refl in start_good (heard c (Clear cause diagnostic) (leg_in OwnClear rs g)) i.leg.flow (record { not_resetting = a.not_resetting; traffic = a.traffic; before = a.before; epoch = a.epoch })
own_clear_good rs c (ClearConfirmation) g i = let a = i.start refl in start_good (heard c (ClearConfirmation) (leg_in OwnClear rs g)) i.leg.flow (record { not_resetting = a.not_resetting; traffic = a.traffic; before = a.before; epoch = a.epoch })
own_clear_good rs c p g i = let a = i.start refl in start_good (heard c p (leg_in OwnClear rs g)) i.leg.flow (record { not_resetting = a.not_resetting; traffic = a.traffic; before = a.before; epoch = a.epoch })

heard_in : (s : ChannelState) (rs : Bool) (c : ℕ) (p : Body) (g : Leg) → Hears c p (leg_in s rs g)
heard_in Ready rs c p g i = ready_good rs c p g i
heard_in OwnWaiting rs c p g i = own_waiting_good rs c p g i
heard_in FarWaiting rs c p g i = far_waiting_good rs c p g i
heard_in Transfer true c p g i = own_reset_good c p g i
heard_in Transfer false c p g i = d1_good c p g i
heard_in Collision rs c p g i = collision_good g.role rs c p g i
heard_in OwnClear rs c p g i = own_clear_good rs c p g i

pub heard_good : (c : ℕ) (p : Body) (g : Leg) → IsCallLeg g → IsCallLeg (heard c p g)
heard_good c p g i = heard_in g.channel.state g.channel.resetting c p g i

misheard_in : (s : ChannelState) (rs : Bool) (c : ℕ) (unknown : Bool) (g : Leg) → IsCallLeg (leg_in s rs g) → IsCallLeg (misheard c unknown (leg_in s rs g))
misheard_in OwnClear rs c unknown g i = i
misheard_in Transfer false c unknown g i = transfer_good (misheard c unknown (leg_in Transfer false g)) refl (leg_anew true _ (leg_in Transfer false g) i.leg)
misheard_in Transfer true c unknown g i = start_good (misheard c unknown (leg_in Transfer true g)) i.leg.flow (record { not_resetting = refl; traffic = refl; before = refl; epoch = refl })
misheard_in s rs c unknown g i = start_good (misheard c unknown (leg_in s rs g)) i.leg.flow (record { not_resetting = refl; traffic = refl; before = refl; epoch = refl })

pub misheard_good : (c : ℕ) (unknown : Bool) (g : Leg) → IsCallLeg g → IsCallLeg (misheard c unknown g)
misheard_good c unknown g i = misheard_in g.channel.state g.channel.resetting c unknown g i

-- ---- given to the line

gave_says : (b : Bool) (g : Leg) → (in_transfer g.channel.state ≡ false → b ≡ false) → in_transfer g.channel.state ≡ false → IsAtStart g
    → IsAtStart (record g { channel = (cond {A = ChannelNext} b (record { channel = with_traffic (says g.flow g.channel.traffic).traffic g.channel; body = (says g.flow g.channel.traffic).body }) (record { channel = g.channel; body = None })).channel })
gave_says true g f t a = absurd (true≢false (f t))
gave_says false g f t a = a

gave_start : (owed : List Body) (g : Leg) → in_transfer g.channel.state ≡ false → IsAtStart g → IsAtStart (record g { channel = (next_owed g.flow owed g.channel).channel })
gave_start (b ∷ bs) g t a = record { not_resetting = a.not_resetting; traffic = a.traffic; before = a.before; epoch = a.epoch }
gave_start [] g t a = gave_says (has_flow g.channel) g (λ e. ap (λ (b : Bool). b && not g.channel.resetting) e) t a

pub gave_good : (g : Leg) → IsCallLeg g → IsCallLeg (gave g)
gave_good g i =
    let k = leg_gave g i.leg in
    record { leg = k.leg; start = λ e. gave_start g.channel.owed g (sym (ap (λ (s : ChannelState). in_transfer s) k.state) ∙ e) (i.start (sym (ap (λ (s : ChannelState). in_transfer s) k.state) ∙ e)) }
