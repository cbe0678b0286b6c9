-- What of a channel's history the layer stores: the state, the reset state and the traffic of the present epoch; and the history that
-- goes with it.
use Rattle.std.proofs.Common.{◌≡◌, ℕ, suc, ◌+◌, ◌<◌, Bool, true, false, cond, ◌&&◌, ◌==◌, List, refl, sym, ap, subst, ◌∙◌, arith, Option, Some, None}
use Rattle.link_timers.specs.declared.role.Role.{Role}
use Rattle.data_transfer.specs.declared.flow.Flow.{Flow}
use Rattle.data_transfer.specs.Packets.{CallParts, Body}
use Rattle.data_transfer.specs.Traffic.{Traffic, Taken, Heard, fresh, front, may_release}
use Rattle.packet_channel.specs.Channel.{ChannelState, Channel, Request}
use Rattle.packet_channel.specs.Channel.ChannelState.{Ready, OwnWaiting, FarWaiting, Transfer, Collision, OwnClear}
use Rattle.packet_layer.specs.Layer.{Phase}
use Rattle.packet_layer.specs.Layer.Phase.{OwnRestart, PacketReady}
use Rattle.packet_laws.specs.History.{Epoch, History, is_now, grown, next_restart_of, next_epoch_of, in_whole_use, is_use, with_taken, logged, logged_heard}
use Rattle.packet_laws.proofs.Handshakes.Handshake.{at, inner, advanced}
use Rattle.packet_laws.proofs.Handshakes.Keeping.{same, at_next}
use Rattle.packet_laws.proofs.Call.SetUp.{Stage, Idle, answers}
use Rattle.packet_laws.proofs.Call.SetUp.Stage.{Free, Placed, Waiting, Collided, Open}
use Rattle.packet_laws.proofs.Call.OneEpoch.{Inner, begun_epoch}
use Rattle.packet_laws.proofs.Call.Levels.{Epochs, CallUse, Uses, Whole, first_epoch, first_call, first_use, GoodCall, GoodUses, GoodWhole}

pub record Stored : Type 0 where
  pub state : ChannelState
  pub resetting : Bool
  pub traffic : Traffic

abbrev pub stored_call : Stage → Epochs → Stored
stored_call Free e = record { state = Ready; resetting = false; traffic = fresh }
stored_call Placed e = record { state = OwnWaiting; resetting = false; traffic = fresh }
stored_call Waiting e = record { state = FarWaiting; resetting = false; traffic = fresh }
stored_call Collided e = record { state = Collision; resetting = false; traffic = fresh }
stored_call (Open m) e = record { state = Transfer; resetting = e.own; traffic = e.now.traffic }

abbrev pub stored_uses : Bool → CallUse → Stored
stored_uses true u = record { state = OwnClear; resetting = false; traffic = fresh }
stored_uses false u = stored_call u.stage u.call

abbrev pub stored_whole : Bool → Uses → Stored
stored_whole true s = record { state = Ready; resetting = false; traffic = fresh }
stored_whole false s = stored_uses s.own s.now

abbrev pub stored : Whole → Stored
stored n = stored_whole n.own n.now

abbrev pub phase_of : Bool → Phase
phase_of true = OwnRestart
phase_of false = PacketReady

abbrev pub shown : Stored → List Body → Channel
shown f owed = record { state = f.state; resetting = f.resetting; owed = owed; traffic = f.traffic }

-- in the own restart or clear nothing was begun after it
abbrev pub SettledUses : Bool → CallUse → Type 0
SettledUses true u = u ≡ first_call
SettledUses false u = Unit {0}

abbrev pub SettledWhole : Bool → Uses → Type 0
SettledWhole true s = s ≡ first_use
SettledWhole false s = SettledUses s.own s.now

abbrev pub Settled : Whole → Type 0
Settled n = SettledWhole n.own n.now

pub settled_uses : (v : Bool) (s : Uses) → SettledWhole v s → SettledUses s.own s.now
settled_uses true s e = subst (λ (q : Uses). SettledUses q.own q.now) (sym e) tt
settled_uses false s e = e

-- nor in an own clear that a restart ended
abbrev pub Frozen : Whole → Type 0
Frozen n = (k : ℕ) → SettledUses (n.past k).own (n.past k).now

pub frozen_same : (n n' : Whole) → n'.past ≡ n.past → Frozen n → Frozen n'
frozen_same n n' e f k = subst (λ (p : ℕ → Uses). SettledUses (p k).own (p k).now) (sym e) (f k)

frozen_pick : (b : Bool) (x p : Uses) → SettledUses x.own x.now → SettledUses p.own p.now → SettledUses (cond b x p).own (cond b x p).now
frozen_pick true x p h f = h
frozen_pick false x p h f = f

pub frozen_next : (own : Bool) (n : Whole) → Settled n → Frozen n → Frozen (advanced first_use own n)
frozen_next own n s f k = frozen_pick (k == n.number) n.now (n.past k) (settled_uses n.own n.now s) (f k)

-- ---- the history

-- an epoch of a use, with the call that was placed in it, and whether one was accepted
pub record Mark : Type 0 where
  pub called : Option CallParts
  pub answered : Bool

abbrev pub mark : CallUse → Mark
mark v = record { called = v.placed; answered = answers v.stage }

abbrev pub marked : Mark → Epoch → Epoch
marked q e = record e { called = q.called; answered = q.answered }

abbrev pub look : CallUse → ℕ → Epoch
look v g = marked (mark v) (at v.call g).epoch

abbrev pub epoch_in : Whole → ℕ → ℕ → ℕ → Epoch
epoch_in n r u g = look (at (at n r) u) g

pub record HistoryTie (n : Whole) (st : History) : Type 0 where
  pub restart_is : st.restart ≡ n.number
  pub use_is : st.use_ ≡ n.now.number
  pub epoch_is : st.epoch ≡ n.now.now.call.number
  pub epochs_are : (r u g : ℕ) → st.epochs r u g ≡ epoch_in n r u g

-- nothing was done in later numbers, and nothing in a call before it is open
pub record Laters (n : Whole) : Type 0 where
  pub later_restarts : (j : ℕ) → n.number < j → n.past j ≡ first_use
  pub later_uses : (j : ℕ) → n.now.number < j → n.now.past j ≡ first_call
  pub later_epochs : (j : ℕ) → n.now.now.call.number < j → n.now.now.call.past j ≡ begun_epoch
  pub idle : Idle first_epoch n.now.now.stage n.now.now.call

pub uses_now : (flow : Flow) (role : Role) (x y : Whole) (o b : List Body) → GoodWhole flow role (record { me = x; you = y; out = o; back = b })
    → GoodUses flow role (record { me = x.now; you = at y x.number; out = (inner x y x.number).out; back = (inner x y x.number).back })
uses_now flow role x y o b i = subst (λ (c : Bool). GoodUses flow role (record { me = cond c x.now (x.past x.number); you = at y x.number; out = (inner x y x.number).out; back = (inner x y x.number).back })) (same x.number) (i.inners x.number)

pub call_now : (flow : Flow) (role : Role) (x y : Uses) (o b : List Body) → GoodUses flow role (record { me = x; you = y; out = o; back = b })
    → GoodCall flow role (record { me = x.now; you = at y x.number; out = (inner x y x.number).out; back = (inner x y x.number).back })
call_now flow role x y o b i = subst (λ (c : Bool). GoodCall flow role (record { me = cond c x.now (x.past x.number); you = at y x.number; out = (inner x y x.number).out; back = (inner x y x.number).back })) (same x.number) (i.inners x.number)

pub laters : (flow : Flow) (role : Role) (x y : Whole) (o b : List Body) → GoodWhole flow role (record { me = x; you = y; out = o; back = b }) → Laters x
laters flow role x y o b i =
    let u = uses_now flow role x y o b i in
    let c = call_now flow role x.now (at y x.number) (inner x y x.number).out (inner x y x.number).back u in
    record {
      later_restarts = λ j lt. (i.fore.later j lt).2;
      later_uses = λ j lt. (u.fore.later j lt).2;
      later_epochs = λ j lt. (c.call.fore.later j lt).2;
      idle = c.idle_me;
    }

-- ---- an epoch looked up, when something inside changed

pub through_whole : (b : Bool) (x x' p : Uses) (u g : ℕ) → look (at x' u) g ≡ look (at x u) g → look (at (cond b x' p) u) g ≡ look (at (cond b x p) u) g
through_whole true x x' p u g h = h
through_whole false x x' p u g h = refl

pub through_uses : (b : Bool) (y y' q : CallUse) (g : ℕ) → look y' g ≡ look y g → look (cond b y' q) g ≡ look (cond b y q) g
through_uses true y y' q g h = h
through_uses false y y' q g h = refl

pub through_epochs : (b : Bool) (i i' p : Inner) → i'.epoch ≡ i.epoch → (cond b i' p).epoch ≡ (cond b i p).epoch
through_epochs true i i' p h = h
through_epochs false i i' p h = refl

pub kept_history : (n n' : Whole) (st : History) → n'.number ≡ n.number → n'.now.number ≡ n.now.number → n'.now.now.call.number ≡ n.now.now.call.number
    → ((r u g : ℕ) → epoch_in n' r u g ≡ epoch_in n r u g) → HistoryTie n st → HistoryTie n' st
kept_history n n' st a b c e t = record { restart_is = t.restart_is ∙ sym a; use_is = t.use_is ∙ sym b; epoch_is = t.epoch_is ∙ sym c; epochs_are = λ r u g. t.epochs_are r u g ∙ sym (e r u g) }

pub grow_whole : (f : Epoch → Epoch) (b rest : Bool) (x x' p : Uses) (u g : ℕ) → look (at x' u) g ≡ cond rest (f (look (at x u) g)) (look (at x u) g)
    → look (at (cond b x' p) u) g ≡ cond (b && rest) (f (look (at (cond b x p) u) g)) (look (at (cond b x p) u) g)
grow_whole f true rest x x' p u g h = h
grow_whole f false rest x x' p u g h = refl

pub grow_uses : (f : Epoch → Epoch) (b rest : Bool) (y y' q : CallUse) (g : ℕ) → look y' g ≡ cond rest (f (look y g)) (look y g)
    → look (cond b y' q) g ≡ cond (b && rest) (f (look (cond b y q) g)) (look (cond b y q) g)
grow_uses f true rest y y' q g h = h
grow_uses f false rest y y' q g h = refl

pub grow_epochs : (f : Epoch → Epoch) (q : Mark) → ((e : Epoch) → f (marked q e) ≡ marked q (f e)) → (b : Bool) (i i' p : Inner) → i'.epoch ≡ f i.epoch
    → marked q (cond b i' p).epoch ≡ cond b (f (marked q (cond b i p).epoch)) (marked q (cond b i p).epoch)
grow_epochs f q comm true i i' p h = ap (λ (e : Epoch). marked q e) h ∙ sym (comm i.epoch)
grow_epochs f q comm false i i' p h = refl

-- the present epoch grew
pub grown_history : (f : Epoch → Epoch) (n n' : Whole) (st : History) → n'.number ≡ n.number → n'.now.number ≡ n.now.number → n'.now.now.call.number ≡ n.now.now.call.number
    → ((r u g : ℕ) → epoch_in n' r u g ≡ cond ((r == n.number) && ((u == n.now.number) && (g == n.now.now.call.number))) (f (epoch_in n r u g)) (epoch_in n r u g))
    → HistoryTie n st → HistoryTie n' (grown f st)
grown_history f n n' st a b c e t = record {
  restart_is = t.restart_is ∙ sym a;
  use_is = t.use_is ∙ sym b;
  epoch_is = t.epoch_is ∙ sym c;
  epochs_are = λ r u g.
      ap (λ (v : Epoch). cond (is_now st r u g) (f v) v) (t.epochs_are r u g)
      ∙ ap (λ (v : ℕ). cond ((r == v) && ((u == st.use_) && (g == st.epoch))) (f (epoch_in n r u g)) (epoch_in n r u g)) t.restart_is
      ∙ ap (λ (v : ℕ). cond ((r == n.number) && ((u == v) && (g == st.epoch))) (f (epoch_in n r u g)) (epoch_in n r u g)) t.use_is
      ∙ ap (λ (v : ℕ). cond ((r == n.number) && ((u == n.now.number) && (g == v))) (f (epoch_in n r u g)) (epoch_in n r u g)) t.epoch_is
      ∙ sym (e r u g);
}

-- the next restart, use, epoch
pub restart_history_tie : (own : Bool) (n : Whole) (st : History) → Laters n → HistoryTie n st → HistoryTie (advanced first_use own n) (next_restart_of st)
restart_history_tie own n st l t = record {
  restart_is = let e = t.restart_is in omega arith;
  use_is = refl;
  epoch_is = refl;
  epochs_are = λ r u g. t.epochs_are r u g ∙ sym (ap (λ (s : Uses). look (at s u) g) (at_next Uses first_use own n r l.later_restarts));
}

pub use_epochs : (own : Bool) (n : Whole) → Laters n → (u g : ℕ) → look (at (advanced first_call own n.now) u) g ≡ look (at n.now u) g
use_epochs own n l u g = ap (λ (v : CallUse). look v g) (at_next CallUse first_call own n.now u l.later_uses)

pub next_epoch_tie : (n n' : Whole) (st : History) → n'.number ≡ n.number → n'.now.number ≡ n.now.number → n'.now.now.call.number ≡ suc n.now.now.call.number
    → ((r u g : ℕ) → epoch_in n' r u g ≡ epoch_in n r u g) → HistoryTie n st → HistoryTie n' (next_epoch_of st)
next_epoch_tie n n' st a b c e t = record {
  restart_is = t.restart_is ∙ sym a;
  use_is = t.use_is ∙ sym b;
  epoch_is = (let h = t.epoch_is in let z : st.epoch + 1 ≡ suc n.now.now.call.number = omega arith in z) ∙ sym c;
  epochs_are = λ r u g. t.epochs_are r u g ∙ sym (e r u g);
}

-- a change within the present use: the epochs of the call are the same
pub same_in_use : (n : Whole) (y' : CallUse) (own : Bool) (put : ℕ → List Body) (came : ℕ → ℕ) → ((g : ℕ) → look y' g ≡ look n.now.now g) → (r u g : ℕ)
    → look (at (cond (r == n.number) (record n.now { own = own; now = y'; put = put; came = came }) (n.past r)) u) g ≡ epoch_in n r u g
same_in_use n y' own put came e r u g =
    through_whole (r == n.number) n.now (record n.now { own = own; now = y'; put = put; came = came }) (n.past r) u g (through_uses (u == n.now.number) n.now.now y' (n.now.past u) g (e g))

-- the present epoch of the call grew
pub grows_in_use : (f : Epoch → Epoch) (n : Whole) (i' : Inner) (own rs : Bool) (put put' : ℕ → List Body) (came came' : ℕ → ℕ) → ((q : Mark) (e : Epoch) → f (marked q e) ≡ marked q (f e)) → i'.epoch ≡ f n.now.now.call.now.epoch → (r u g : ℕ)
    → look (at (cond (r == n.number) (record n.now { own = own; now = record n.now.now { call = record n.now.now.call { own = rs; now = i'; put = put'; came = came' } }; put = put; came = came }) (n.past r)) u) g
    ≡ cond ((r == n.number) && ((u == n.now.number) && (g == n.now.now.call.number))) (f (epoch_in n r u g)) (epoch_in n r u g)
grows_in_use f n i' own rs put put' came came' comm e r u g =
    let c' : Epochs = record n.now.now.call { own = rs; now = i'; put = put'; came = came' } in
    let y' : CallUse = record n.now.now { call = c' } in
    let s' : Uses = record n.now { own = own; now = y'; put = put; came = came } in
    grow_whole f (r == n.number) ((u == n.now.number) && (g == n.now.now.call.number)) n.now s' (n.past r) u g
    (grow_uses f (u == n.now.number) (g == n.now.now.call.number) n.now.now y' (n.now.past u) g
    (grow_epochs f (mark n.now.now) (λ v. comm (mark n.now.now) v) (g == n.now.now.call.number) n.now.now.call.now i' (n.now.now.call.past g) e))

-- a call was placed in the present use, or accepted
put_use : (f : Epoch → Epoch) (b : Bool) (y y' q : CallUse) (g : ℕ) → look y' g ≡ f (look y g) → look (cond b y' q) g ≡ cond b (f (look (cond b y q) g)) (look (cond b y q) g)
put_use f true y y' q g h = h
put_use f false y y' q g h = refl

pub use_history : (f : Epoch → Epoch) (n n' : Whole) (st : History) → n'.number ≡ n.number → n'.now.number ≡ n.now.number → n'.now.now.call.number ≡ n.now.now.call.number
    → ((r u g : ℕ) → epoch_in n' r u g ≡ cond ((r == n.number) && (u == n.now.number)) (f (epoch_in n r u g)) (epoch_in n r u g))
    → HistoryTie n st → HistoryTie n' (in_whole_use f st)
use_history f n n' st a b c e t = record {
  restart_is = t.restart_is ∙ sym a;
  use_is = t.use_is ∙ sym b;
  epoch_is = t.epoch_is ∙ sym c;
  epochs_are = λ r u g.
      ap (λ (v : Epoch). cond (is_use st r u) (f v) v) (t.epochs_are r u g)
      ∙ ap (λ (v : ℕ). cond ((r == v) && (u == st.use_)) (f (epoch_in n r u g)) (epoch_in n r u g)) t.restart_is
      ∙ ap (λ (v : ℕ). cond ((r == n.number) && (u == v)) (f (epoch_in n r u g)) (epoch_in n r u g)) t.use_is
      ∙ sym (e r u g);
}

pub marks_in_use : (f : Epoch → Epoch) (n : Whole) (y' : CallUse) (put : ℕ → List Body) (came : ℕ → ℕ) → ((g : ℕ) → look y' g ≡ f (look n.now.now g)) → (r u g : ℕ)
    → look (at (cond (r == n.number) (record n.now { now = y'; put = put; came = came }) (n.past r)) u) g ≡ cond ((r == n.number) && (u == n.now.number)) (f (epoch_in n r u g)) (epoch_in n r u g)
marks_in_use f n y' put came e r u g =
    grow_whole f (r == n.number) (u == n.now.number) n.now (record n.now { now = y'; put = put; came = came }) (n.past r) u g
    (put_use f (u == n.now.number) n.now.now y' (n.now.past u) g (e g))

-- what an epoch gains does not touch the call that was placed
taken_marked : (q : Mark) (t : Option Taken) (e : Epoch) → with_taken t (marked q e) ≡ marked q (with_taken t e)
taken_marked q None e = refl
taken_marked q (Some (Taken.TakenInterrupt o)) e = refl
taken_marked q (Some (Taken.TakenPacket d)) e = refl

released_marked : (q : Mark) (b : Bool) (n : ℕ) (e : Epoch) → cond b (record (marked q e) { released = e.released + n }) (marked q e) ≡ marked q (cond b (record e { released = e.released + n }) e)
released_marked q true n e = refl
released_marked q false n e = refl

pub logged_marked : (t : Traffic) (r : Request) (q : Mark) (e : Epoch) → logged t r (marked q e) ≡ marked q (logged t r e)
logged_marked t (Request.Sending d) q e = refl
logged_marked t (Request.Interrupting o) q e = refl
logged_marked t Request.Taking q e = taken_marked q (front t) e
logged_marked t (Request.Releasing n) q e = released_marked q (may_release n t) n e
logged_marked t _ q e = refl

pub heard_marked : (h : Heard) (q : Mark) (e : Epoch) → logged_heard h (marked q e) ≡ marked q (logged_heard h e)
heard_marked (Heard.Keeps n t) q e = refl
heard_marked _ q e = refl
