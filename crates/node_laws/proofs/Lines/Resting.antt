-- Both ends at rest: the links accepted all that was offered in the session, so that nothing of a channel is on its way.
use Rattle.std.specs.Prelude.{◌≡◌, ℕ, zero, suc, ◌-◌, ◌≤◌, Bool, true, false, ◌&&◌, not, ◌==◌, List, [], ◌∷◌, ◌++◌, length, drop, is_some, slice_get, Option, Some, None}
use Rattle.std.specs.List.{list_all}
use Rattle.std.proofs.Common.{refl, sym, ap, subst, ◌∙◌, arith, true≢false}
use Rattle.std.proofs.lemmas.Bool.{and_parts, eqb-true}
use Rattle.std.proofs.lemmas.Option.{none-some, same_Some}
use Rattle.std.proofs.lemmas.List.{length-drop}
use Rattle.lapb.specs.declared.phase.Phase.{Phase}
use Rattle.lapb.specs.Machine.{Octets, Link, is_up, is_empty}
use Rattle.lapb.specs.World.{World}
use Rattle.lapb.proofs.Inv.{Inv}
use Rattle.lapb.proofs.Reach.{reached_inv}
use Rattle.data_transfer.specs.declared.flow.Flow.{Flow}
use Rattle.data_transfer.specs.Packets.{Packet, Datum}
use Rattle.data_transfer.specs.Traffic.{Traffic, rests, flow_told}
use Rattle.packet_channel.specs.Channel.{Channel, channel_rests}
use Rattle.packet_layer.specs.Layer.{Layer, channel_of, nth_channel}
use Rattle.packet_laws.specs.History.{Epoch}
use Rattle.packet_laws.specs.LayerLineLaw.{Quiet, AtRest, NothingMissing, listed}
use Rattle.node_laws.specs.Lines.Joint.{AreHeard, session_now}
use Rattle.node_laws.specs.Lines.LineRest.{HasAll, RestLaw}

-- ---- booleans and lists

is_true : (b : Bool) → not b ≡ true → b ≡ false
is_true false e = refl
is_true true e = absurd (true≢false (sym e))

none_waits : {X : Type 0} (xs : List X) → (length xs == 0) ≡ true → xs ≡ []
none_waits [] e = refl
none_waits (x ∷ xs) e = let none = eqb-true (suc (length xs)) 0 e in absurd (omega arith)

nothing_there : {X : Type 0} (o : Option X) → not (is_some o) ≡ true → o ≡ None
nothing_there None e = refl
nothing_there (Some x) e = absurd (true≢false (sym e))

all_at : {A : Type 0} (test : A → Bool) (xs : List A) (i : ℕ) (x : A) → list_all test xs ≡ true → slice_get xs i ≡ Some x → test x ≡ true
all_at test [] i x all e = absurd (none-some x e)
all_at test (y ∷ xs) zero x all e = ap test (sym (same_Some y x e)) ∙ (and_parts (test y) (list_all test xs) all).0
all_at test (y ∷ xs) (suc i) x all e = all_at test xs i x (and_parts (test y) (list_all test xs) all).1 e

rests_at : (chs : List Channel) (c : ℕ) (ch : Channel) → list_all channel_rests chs ≡ true → nth_channel chs c ≡ Some ch → channel_rests ch ≡ true
rests_at chs zero ch all e = absurd (none-some ch e)
rests_at chs (suc c) ch all e = all_at channel_rests chs c ch all e

as_many : (flow : Flow) (xs : List Octets) (ps : List Packet) → AreHeard flow xs ps → length xs ≡ length ps
as_many flow [] [] h = refl
as_many flow (x ∷ xs) (p ∷ ps) h = ap suc (as_many flow xs ps h.1)
as_many flow [] (p ∷ ps) h = absurd h
as_many flow (x ∷ xs) [] h = absurd h

-- ---- the links

up_of : (p : Phase) → is_up p ≡ true → p ≡ Phase.Up
up_of Phase.Up e = refl
up_of Phase.Down e = absurd (true≢false (sym e))
up_of Phase.SettingUp e = absurd (true≢false (sym e))
up_of Phase.Rejecting e = absurd (true≢false (sym e))

empty_of : (q : List Octets) → is_empty q ≡ true → q ≡ []
empty_of [] e = refl
empty_of (x ∷ xs) e = absurd (true≢false (sym e))

-- an end's link is up, and nothing at it is unacknowledged
record LinkRests (l : Link) : Type 0 where
  pub up : l.phase ≡ Phase.Up
  pub none : l.queue ≡ []

link_rests : (l : Link) → (is_up l.phase && is_empty l.queue && not l.polling && not l.owed) ≡ true → LinkRests l
link_rests l e =
    let all = and_parts (is_up l.phase && is_empty l.queue && not l.polling) (not l.owed) e in
    let some = and_parts (is_up l.phase && is_empty l.queue) (not l.polling) all.0 in
    let two = and_parts (is_up l.phase) (is_empty l.queue) some.0 in
    record { up = up_of l.phase two.0; none = empty_of l.queue two.1 }

none_left : (a : ℕ) (q o : List Octets) → q ≡ drop a o → q ≡ [] → length o ≤ a
none_left a q o is none =
    let left : length o - a ≡ 0 = sym (length-drop a o) ∙ ap (λ (l : List Octets). length l) (sym is ∙ none) in omega arith

-- both stand in one session, in which each accepted as many packets as the other one was offered
record AllCame (w : World) : Type 0 where
  pub own : w.own ≡ w.session
  pub at_dce : length (w.dce_accepted w.session) ≡ length (w.dte_offered w.session)
  pub at_dte : length (w.dte_accepted w.session) ≡ length (w.dce_offered w.session)

all_came : (w : World) → Inv w → LinkRests w.dte → LinkRests w.dce → AllCame w
all_came w i dte dce =
    let out = i.out.sends dte.up in
    let back = i.back.sends dce.up in
    let out_least = none_left i.out.a w.dte.queue (w.dte_offered w.session) out.queue_is dte.none in
    let back_least = none_left i.back.a w.dce.queue (w.dce_offered w.session) back.queue_is dce.none in
    let a = i.out.a_le in let b = i.out.acc_le in let c = i.out.m_le in
    let d = i.back.a_le in let e = i.back.acc_le in let f = i.back.m_le in
    record { own = (i.up_in dte.up).own_is; at_dce = omega arith; at_dte = omega arith }

-- ---- a channel

record ChannelRests (ch : Channel) : Type 0 where
  pub nothing_owed : ch.owed ≡ []
  pub none_waits_ : ch.traffic.waiting ≡ []
  pub none_arrived : ch.traffic.arrived ≡ []
  pub no_interrupt_waits : ch.traffic.interrupt_waiting ≡ None
  pub no_interrupt_arrived : ch.traffic.interrupt_arrived ≡ None

traffic_rests : (ch : Channel) → channel_rests ch ≡ true → ChannelRests ch
traffic_rests ch e =
    let both = and_parts (length ch.owed == 0) (rests ch.traffic) e in
    let t : Traffic = ch.traffic in
    let told = and_parts ((length t.waiting == 0) && (length t.arrived == 0) && not (is_some t.interrupt_waiting) && not (is_some t.interrupt_arrived) && not t.confirmation_due) (flow_told t) both.1 in
    let due = and_parts ((length t.waiting == 0) && (length t.arrived == 0) && not (is_some t.interrupt_waiting) && not (is_some t.interrupt_arrived)) (not t.confirmation_due) told.0 in
    let came = and_parts ((length t.waiting == 0) && (length t.arrived == 0) && not (is_some t.interrupt_waiting)) (not (is_some t.interrupt_arrived)) due.0 in
    let sent = and_parts ((length t.waiting == 0) && (length t.arrived == 0)) (not (is_some t.interrupt_waiting)) came.0 in
    let queues = and_parts (length t.waiting == 0) (length t.arrived == 0) sent.0 in
    record {
      nothing_owed = none_waits ch.owed both.0;
      none_waits_ = none_waits t.waiting queues.0;
      none_arrived = none_waits t.arrived queues.1;
      no_interrupt_waits = nothing_there t.interrupt_waiting sent.1;
      no_interrupt_arrived = nothing_there t.interrupt_arrived came.1;
    }

append_none : {X : Type 0} (xs : List X) → xs ++ [] ≡ xs
append_none [] = refl
append_none (x ∷ xs) = ap (λ (l : List _). x ∷ l) (append_none xs)

has_all : (sender taker : Epoch) (a b : Channel) → ChannelRests a → ChannelRests b → NothingMissing sender taker a b → HasAll sender taker
has_all sender taker a b ra rb m = record {
  packets = sym (append_none taker.taken) ∙ ap (λ (l : List Datum). taker.taken ++ (l ++ [])) (sym rb.none_arrived)
      ∙ ap (λ (l : List Datum). taker.taken ++ (b.traffic.arrived ++ l)) (sym ra.none_waits_) ∙ m.packets;
  interrupts = sym (append_none taker.interrupts_taken) ∙ ap (λ (o : Option (List ℕ)). taker.interrupts_taken ++ (listed o ++ [])) (sym rb.no_interrupt_arrived)
      ∙ ap (λ (o : Option (List ℕ)). taker.interrupts_taken ++ (listed b.traffic.interrupt_arrived ++ listed o)) (sym ra.no_interrupt_waits) ∙ m.interrupts;
}

-- ---- both ends

session_up : (l : Link) (s : ℕ) → l.phase ≡ Phase.Up → session_now (is_up l.phase) s ≡ Some s
session_up l s up = ap (λ (p : Phase). session_now (is_up p) s) up

pub nothing_missing : RestLaw
nothing_missing w v dte dce up down j r c h a b at_a at_b =
    let mine = and_parts _ _ r.at_dte in
    let yours = and_parts _ _ r.at_dce in
    let dte_link : LinkRests dte.line.link = link_rests dte.line.link mine.0 in
    let dce_link : LinkRests dce.line.link = link_rests dce.line.link yours.0 in
    let came : AllCame w = all_came w (reached_inv w j.stands.reached)
    (subst (λ (l : Link). LinkRests l) (sym j.stands.dte_is) dte_link) (subst (λ (l : Link). LinkRests l) (sym j.stands.dce_is) dce_link) in
    let dte_layer = and_parts _ _ mine.1 in
    let dce_layer = and_parts _ _ yours.1 in
    let s : ℕ = w.session in
    let ra : ChannelRests a = traffic_rests a (rests_at dte.layer.channels c a dte_layer.1 at_a) in
    let rb : ChannelRests b = traffic_rests b (rests_at dce.layer.channels c b dce_layer.1 at_b) in
    let up_here : v.me.session ≡ Some s = j.mine.session ∙ session_up dte.line.link w.own dte_link.up ∙ ap (λ (n : ℕ). Some n) came.own in
    let up_there : v.you.session ≡ Some s = j.yours.session ∙ session_up dce.line.link s dce_link.up in
    let quiet : Quiet v s c a b = record {
      up_here = up_here;
      up_there = up_there;
      no_relink_here = ap (λ (l : Layer). l.relink) j.mine.layer ∙ r.no_relink_at_dte;
      no_relink_there = ap (λ (l : Layer). l.relink) j.yours.layer ∙ r.no_relink_at_dce;
      all_came_here = j.mine.accepted s ∙ came.at_dte ∙ as_many dce.layer.flow (w.dce_offered s) (v.you.offered s) (j.yours.offered s);
      all_came_there = j.yours.accepted s ∙ came.at_dce ∙ as_many dte.layer.flow (w.dte_offered s) (v.me.offered s) (j.mine.offered s);
      no_restart_owed_here = ap (λ (l : Layer). l.owed) j.mine.layer ∙ none_waits dte.layer.owed dte_layer.0;
      no_restart_owed_there = ap (λ (l : Layer). l.owed) j.yours.layer ∙ none_waits dce.layer.owed dce_layer.0;
      found_here = ap (λ (l : Layer). channel_of l c) j.mine.layer ∙ at_a;
      found_there = ap (λ (l : Layer). channel_of l c) j.yours.layer ∙ at_b;
      nothing_owed_here = ra.nothing_owed;
      nothing_owed_there = rb.nothing_owed;
    } in
    let rest : AtRest v s c a b = (h s).at_rest a b quiet in
    record {
      up_at_dte = up_here;
      up_at_dce = up_there;
      together = rest.together;
      same_restart = rest.same_restart;
      same_use = rest.same_use;
      same_epoch = rest.same_epoch;
      forth = has_all _ _ a b ra rb rest.forth;
      back = has_all _ _ b a rb ra rest.back;
    }
