-- What the user and the timers make of a channel is what its handshakes do by themselves, and so is the history.
use Rattle.std.proofs.Common.{◌≡◌, ℕ, Bool, true, false, cond, ◌==◌, List, Option, Some, None, refl, sym, ap, subst, ◌∙◌, arith, true≢false}
use Rattle.link_timers.specs.declared.role.Role.{Role}
use Rattle.link_timers.specs.declared.role.Role.TheVariants.{Dte, Dce}
use Rattle.data_transfer.specs.declared.flow.Flow.{Flow}
use Rattle.data_transfer.specs.Packets.{CallParts, Body}
use Rattle.data_transfer.specs.Packets.Body.{Call, Accepted, Clear, Reset}
use Rattle.data_transfer.specs.Traffic.{says}
use Rattle.packet_channel.specs.Channel.{Channel, Step, Request, Refusal, requested, refusal, refused_if, carried_out, unless, ended, entered}
use Rattle.packet_channel.specs.Channel.ChannelState.{Transfer, OwnClear}
use Rattle.packet_channel.specs.Channel.Request.{Accept, Clearing, Resetting, Sending, Interrupting, Stopping, Taking, Releasing, Confirming}
use Rattle.packet_layer.specs.Layer.{placing}
use Rattle.packet_laws.specs.History.{Epoch, History, requested_history, grown, grown_unless, opened, logged, next_use_of, next_epoch_of, placed, with_call, with_answer, call_accepted}
use Rattle.packet_laws.proofs.Handshakes.Handshake.{Did, said, at, advanced, SaysPayload}
use Rattle.packet_laws.proofs.Handshakes.Keeping.{at_next}
use Rattle.packet_laws.proofs.Call.SetUp.{Stage, places, accepts_call}
use Rattle.packet_laws.proofs.Call.SetUp.Stage.{Free, Placed, Waiting, Collided, Open}
use Rattle.packet_laws.proofs.Call.OneEpoch.{Inner, begun_epoch, inner_after, inner_says, Askable}
use Rattle.packet_laws.proofs.Call.Levels.{restart_kind, Epochs, CallUse, Whole, first_epoch, first_call, GoodWhole, in_use, in_the_call, in_the_epoch, asked_inner, begins_reset, begins_clear, in_uses, traffic_is, traffic_restart, whole_places, whole_accepts, whole_asked, whole_says, whole_resets, whole_clears}
use Rattle.packet_laws.proofs.Line.Stored.{stored, shown, Settled, HistoryTie, Laters, kept_history, grown_history, next_epoch_tie, same_in_use, grows_in_use, through_whole, through_epochs, mark, look, marked, logged_marked, use_history, marks_in_use}
use Rattle.packet_laws.proofs.Line.Agreement.{in_state}

pub record Act (flow : Flow) (role : Role) (n : Whole) (owed : List Body) (ch : Channel) (o : Option Body) (f : History → History) : Type 0 where
  pub did : Did Whole
  pub channel_is : ch ≡ shown (stored did.end_) owed
  pub owes_is : o ≡ did.says
  pub plain : SaysPayload restart_kind did.says
  pub own_is : did.end_.own ≡ n.own
  pub settled : Settled did.end_
  pub past_is : did.end_.past ≡ n.past
  pub history : (st : History) → HistoryTie n st → HistoryTie did.end_ (f st)
  pub keeps : (y : Whole) (p b : List Body) → GoodWhole flow role (record { me = n; you = y; out = p; back = b }) → GoodWhole flow role (record { me = did.end_; you = y; out = said did.says p; back = b })
  pub idle : n.own ≡ true → (did.end_ ≡ n) × (did.says ≡ None)

pub unchanged : (flow : Flow) (role : Role) (n : Whole) (owed : List Body) → Settled n → Act flow role n owed (shown (stored n) owed) None (λ st. st)
unchanged flow role n owed s = record {
  did = record { end_ = n; says = None };
  channel_is = refl;
  owes_is = refl;
  plain = tt;
  own_is = refl;
  settled = s;
  past_is = refl;
  history = λ st t. t;
  keeps = λ y p b g. g;
  idle = λ e. (refl, refl);
}

pick_same : (b : Bool) (e : Epoch) → cond b e e ≡ e
pick_same true e = refl
pick_same false e = refl

same_history : (n : Whole) (st : History) → HistoryTie n st → HistoryTie n (grown (λ e. e) st)
same_history n st t = record { restart_is = t.restart_is; use_is = t.use_is; epoch_is = t.epoch_is; epochs_are = λ r u g. pick_same _ (st.epochs r u g) ∙ t.epochs_are r u g }

never_own : {T : Type 0} → false ≡ true → T
never_own e = absurd (true≢false (sym e))

-- a clear begun
clear_history : (s : Stage) (rs : Bool) (n : Whole) (cause diagnostic : ℕ) → Laters (in_state false s rs n)
    → (st : History) → HistoryTie (in_state false s rs n) st → HistoryTie (in_uses (begins_clear cause diagnostic (in_state false s rs n).now) (in_state false s rs n)).end_ (next_use_of st)
clear_history s rs n cause diagnostic l st t = record {
  restart_is = t.restart_is;
  use_is = let e = t.use_is in omega arith;
  epoch_is = refl;
  epochs_are = λ r u g. t.epochs_are r u g
      ∙ sym (through_whole (r == n.number) (in_state false s rs n).now _ (n.past r) u g
      (ap (λ (v : CallUse). look v g) (at_next CallUse first_call true (in_state false s rs n).now u l.later_uses)));
}

pub clear_act : (flow : Flow) (role : Role) (s : Stage) (rs : Bool) (n : Whole) (owed : List Body) (cause diagnostic : ℕ) → Laters (in_state false s rs n)
    → Act flow role (in_state false s rs n) owed (ended OwnClear (shown (stored (in_state false s rs n)) owed)) (Some (Clear cause diagnostic)) (λ st. next_use_of st)
clear_act flow role s rs n owed cause diagnostic l = record {
  did = in_uses (begins_clear cause diagnostic (in_state false s rs n).now) (in_state false s rs n);
  channel_is = refl;
  owes_is = refl;
  plain = refl;
  own_is = refl;
  settled = refl;
  past_is = refl;
  history = λ st t. clear_history s rs n cause diagnostic l st t;
  keeps = λ y p b g. whole_clears flow role cause diagnostic (record { me = in_state false s rs n; you = y; out = p; back = b }) refl g;
  idle = λ e. never_own e;
}

with_history : (flow : Flow) (role : Role) (n : Whole) (owed : List Body) (ch : Channel) (o : Option Body) (f h : History → History)
    → ((m : Whole) (st : History) → HistoryTie m (f st) → HistoryTie m (h st)) → Act flow role n owed ch o f → Act flow role n owed ch o h
with_history flow role n owed ch o f h g a = record {
  did = a.did;
  channel_is = a.channel_is;
  owes_is = a.owes_is;
  plain = a.plain;
  own_is = a.own_is;
  settled = a.settled;
  past_is = a.past_is;
  history = λ st t. g a.did.end_ st (a.history st t);
  keeps = a.keeps;
  idle = a.idle;
}

next_use_same : (m : Whole) (st : History) → HistoryTie m (next_use_of st) → HistoryTie m (next_use_of (grown (λ e. e) st))
next_use_same m st t = record { restart_is = t.restart_is; use_is = t.use_is; epoch_is = t.epoch_is; epochs_are = λ r u g. pick_same _ (st.epochs r u g) ∙ t.epochs_are r u g }

request_clears : (flow : Flow) (role : Role) (s : Stage) (rs : Bool) (n : Whole) (owed : List Body) (cause diagnostic : ℕ) → Laters (in_state false s rs n)
    → Act flow role (in_state false s rs n) owed (ended OwnClear (shown (stored (in_state false s rs n)) owed)) (Some (Clear cause diagnostic)) (λ st. next_use_of (grown (λ e. e) st))
request_clears flow role s rs n owed cause diagnostic l =
    with_history flow role (in_state false s rs n) owed _ _ (λ st. next_use_of st) (λ st. next_use_of (grown (λ e. e) st)) (λ m st t. next_use_same m st t) (clear_act flow role s rs n owed cause diagnostic l)

-- a call accepted: nothing was done in it before
accept_waiting : (flow : Flow) (role : Role) (rs : Bool) (n : Whole) (owed : List Body) → Laters (in_state false Waiting rs n)
    → Act flow role (in_state false Waiting rs n) owed (entered Transfer (shown (stored (in_state false Waiting rs n)) owed)) (Some Accepted) (λ st. call_accepted st)
accept_waiting flow role rs n owed l = record {
  did = in_use (accepts_call first_epoch (in_state false Waiting rs n).now.now) (in_state false Waiting rs n);
  channel_is = refl;
  owes_is = refl;
  plain = refl;
  own_is = refl;
  settled = tt;
  past_is = refl;
  history = λ st t. use_history (λ e. with_answer e) (in_state false Waiting rs n) _ st refl refl (sym (ap (λ (v : Epochs). v.number) l.idle))
      (λ r u g. marks_in_use (λ e. with_answer e) (in_state false Waiting rs n) (accepts_call first_epoch (in_state false Waiting rs n).now.now).end_ _ _
      (λ g. ap (λ (v : Epochs). marked (record { called = n.now.now.placed; answered = true }) (at v g).epoch) (sym l.idle)) r u g) t;
  keeps = λ y p b g. whole_accepts flow role (record { me = in_state false Waiting rs n; you = y; out = p; back = b }) tt g;
  idle = λ e. never_own e;
}

accept_collided : (flow : Flow) (rs : Bool) (n : Whole) (owed : List Body) → Laters (in_state false Collided rs n)
    → Act flow Dce (in_state false Collided rs n) owed (entered Transfer (shown (stored (in_state false Collided rs n)) owed)) (Some Accepted) (λ st. call_accepted st)
accept_collided flow rs n owed l = record {
  did = in_use (accepts_call first_epoch (in_state false Collided rs n).now.now) (in_state false Collided rs n);
  channel_is = refl;
  owes_is = refl;
  plain = refl;
  own_is = refl;
  settled = tt;
  past_is = refl;
  history = λ st t. use_history (λ e. with_answer e) (in_state false Collided rs n) _ st refl refl (sym (ap (λ (v : Epochs). v.number) l.idle))
      (λ r u g. marks_in_use (λ e. with_answer e) (in_state false Collided rs n) (accepts_call first_epoch (in_state false Collided rs n).now.now).end_ _ _
      (λ g. ap (λ (v : Epochs). marked (record { called = n.now.now.placed; answered = true }) (at v g).epoch) (sym l.idle)) r u g) t;
  keeps = λ y p b g. whole_accepts flow Dce (record { me = in_state false Collided rs n; you = y; out = p; back = b }) tt g;
  idle = λ e. never_own e;
}

-- a reset begun
reset_act : (flow : Flow) (role : Role) (m : Bool) (n : Whole) (owed : List Body) (cause diagnostic : ℕ) → Laters (in_state false (Open m) false n)
    → Act flow role (in_state false (Open m) false n) owed (requested role flow (shown (stored (in_state false (Open m) false n)) owed) (Resetting cause diagnostic)).channel (Some (Reset cause diagnostic)) (λ st. next_epoch_of (grown (λ e. e) st))
reset_act flow role m n owed cause diagnostic l =
    let N : Whole = in_state false (Open m) false n in
    record {
      did = in_the_call (begins_reset cause diagnostic N.now.now.call) N;
      channel_is = refl;
      owes_is = refl;
      plain = refl;
      own_is = refl;
      settled = tt;
      past_is = refl;
      history = λ st t. next_epoch_tie N _ (grown (λ e. e) st) refl refl refl
          (λ r u g. same_in_use N (record N.now.now { call = advanced begun_epoch true N.now.now.call }) false _ _ (λ g. ap (λ (i : Inner). marked (mark N.now.now) i.epoch) (at_next Inner begun_epoch true N.now.now.call g l.later_epochs)) r u g) (same_history N st t);
      keeps = λ y p b g. whole_resets flow role m cause diagnostic (record { me = N; you = y; out = p; back = b }) refl refl g;
      idle = λ e. never_own e;
    }

-- something asked in a call
inner_act : (flow : Flow) (role : Role) (m rs : Bool) (n : Whole) (owed : List Body) (r : Request) (ch : Channel)
    → let N : Whole = in_state false (Open m) rs n in ch ≡ shown (stored (in_the_epoch (asked_inner r N.now.now.call.now) N).end_) owed → Askable r N.now.now.call.now
    → Act flow role N owed ch None (λ st. grown (λ e. logged N.now.now.call.now.traffic r e) st)
inner_act flow role m rs n owed r ch same a =
    let N : Whole = in_state false (Open m) rs n in
    record {
      did = in_the_epoch (asked_inner r N.now.now.call.now) N;
      channel_is = same;
      owes_is = refl;
      plain = tt;
      own_is = refl;
      settled = tt;
      past_is = refl;
      history = λ st t. grown_history (λ e. logged N.now.now.call.now.traffic r e) N _ st refl refl refl
          (λ x u g. grows_in_use (λ e. logged N.now.now.call.now.traffic r e) N (inner_after r N.now.now.call.now) false rs _ _ _ _ (λ q v. logged_marked N.now.now.call.now.traffic r q v) refl x u g) t;
      keeps = λ y p b g. whole_asked flow role m r (record { me = N; you = y; out = p; back = b }) refl a g;
      idle = λ e. never_own e;
    }

refused_none : (b : Bool) (r : Refusal) (o : Option Refusal) → refused_if b r o ≡ None → (b ≡ false) × (o ≡ None)
refused_none true r o e = absurd cc
refused_none false r o e = (refl, e)

-- a request that may be refused
maybe_act : (flow : Flow) (role : Role) (m : Bool) (n : Whole) (owed : List Body) (r : Request) (o : Option Refusal) (done : Step)
    → let N : Whole = in_state false (Open m) false n in (o ≡ None → Askable r N.now.now.call.now) → done.channel ≡ shown (stored (in_the_epoch (asked_inner r N.now.now.call.now) N).end_) owed → done.owes ≡ None
    → Act flow role N owed (unless o done (shown (stored N) owed)).channel (unless o done (shown (stored N) owed)).owes (λ st. opened (unless o done (shown (stored N) owed)).owes (grown_unless o (λ e. logged N.now.now.call.now.traffic r e) st))
maybe_act flow role m n owed r None done a same none =
    let N : Whole = in_state false (Open m) false n in
    subst (λ (p : Option Body). Act flow role N owed done.channel p (λ st. opened p (grown (λ e. logged N.now.now.call.now.traffic r e) st))) (sym none) (inner_act flow role m false n owed r done.channel same (a refl))
maybe_act flow role m n owed r (Some f) done a same none = unchanged flow role (in_state false (Open m) false n) owed tt

abbrev pub Requested : Flow → Role → Whole → List Body → Request → Type 0
Requested flow role n owed r = Act flow role n owed (requested role flow (shown (stored n) owed) r).channel (requested role flow (shown (stored n) owed) r).owes (λ st. requested_history role flow (shown (stored n) owed) r st)

abbrev pub in_any : Bool → Bool → Stage → Bool → Whole → Whole
in_any rown own s rs n = record n { own = rown; now = record n.now { own = own; now = record n.now.now { stage = s; call = record n.now.now.call { own = rs } } } }

request_at : (flow : Flow) (role : Role) (rown own : Bool) (s : Stage) (rs : Bool) (n : Whole) (owed : List Body) (r : Request) → Laters (in_any rown own s rs n) → Settled (in_any rown own s rs n) → Requested flow role (in_any rown own s rs n) owed r
request_at flow role true own s rs n owed Accept l e = unchanged flow role (in_any true own s rs n) owed e
request_at flow role true own s rs n owed _ l e = unchanged flow role (in_any true own s rs n) owed e
request_at flow role false true s rs n owed Accept l e = unchanged flow role (in_any false true s rs n) owed e
request_at flow role false true s rs n owed _ l e = unchanged flow role (in_any false true s rs n) owed e
request_at flow role false false Free rs n owed Accept l e = unchanged flow role (in_any false false Free rs n) owed e
request_at flow role false false Free rs n owed _ l e = unchanged flow role (in_any false false Free rs n) owed e
request_at flow role false false Placed rs n owed (Clearing x y) l e = request_clears flow role Placed rs n owed x y l
request_at flow role false false Placed rs n owed _ l e = unchanged flow role (in_any false false Placed rs n) owed e
request_at flow role false false Waiting rs n owed Accept l e = accept_waiting flow role rs n owed l
request_at flow role false false Waiting rs n owed (Clearing x y) l e = request_clears flow role Waiting rs n owed x y l
request_at flow role false false Waiting rs n owed _ l e = unchanged flow role (in_any false false Waiting rs n) owed e
request_at flow Dte false false Collided rs n owed Accept l e = unchanged flow Dte (in_any false false Collided rs n) owed e
request_at flow Dce false false Collided rs n owed Accept l e = accept_collided flow rs n owed l
request_at flow role false false Collided rs n owed (Clearing x y) l e = request_clears flow role Collided rs n owed x y l
request_at flow role false false Collided rs n owed _ l e = unchanged flow role (in_any false false Collided rs n) owed e
request_at flow role false false (Open m) true n owed (Clearing x y) l e = request_clears flow role (Open m) true n owed x y l
request_at flow role false false (Open m) true n owed Accept l e = unchanged flow role (in_any false false (Open m) true n) owed e
request_at flow role false false (Open m) true n owed (Resetting x y) l e = unchanged flow role (in_any false false (Open m) true n) owed e
request_at flow role false false (Open m) true n owed (Sending x) l e = unchanged flow role (in_any false false (Open m) true n) owed e
request_at flow role false false (Open m) true n owed (Interrupting x) l e = unchanged flow role (in_any false false (Open m) true n) owed e
request_at flow role false false (Open m) true n owed (Stopping x) l e = inner_act flow role m true n owed (Stopping x) _ refl tt
request_at flow role false false (Open m) true n owed Taking l e = inner_act flow role m true n owed Taking _ refl tt
request_at flow role false false (Open m) true n owed (Releasing x) l e = inner_act flow role m true n owed (Releasing x) _ refl tt
request_at flow role false false (Open m) true n owed Confirming l e = inner_act flow role m true n owed Confirming _ refl tt
request_at flow role false false (Open m) false n owed (Clearing x y) l e = request_clears flow role (Open m) false n owed x y l
request_at flow role false false (Open m) false n owed Accept l e = unchanged flow role (in_any false false (Open m) false n) owed e
request_at flow role false false (Open m) false n owed (Resetting x y) l e = reset_act flow role m n owed x y l
request_at flow role false false (Open m) false n owed (Sending x) l e = maybe_act flow role m n owed (Sending x) (refusal role flow (shown (stored (in_state false (Open m) false n)) owed) (Sending x)) (carried_out (shown (stored (in_state false (Open m) false n)) owed) (Sending x)) (λ f. tt) refl refl
request_at flow role false false (Open m) false n owed (Interrupting x) l e = maybe_act flow role m n owed (Interrupting x) (refusal role flow (shown (stored (in_state false (Open m) false n)) owed) (Interrupting x)) (carried_out (shown (stored (in_state false (Open m) false n)) owed) (Interrupting x)) (λ f. (refused_none _ Refusal.InterruptPending None (refused_none _ Refusal.TooLong _ f).1).0) refl refl
request_at flow role false false (Open m) false n owed (Stopping x) l e = inner_act flow role m false n owed (Stopping x) _ refl tt
request_at flow role false false (Open m) false n owed Taking l e = inner_act flow role m false n owed Taking _ refl tt
request_at flow role false false (Open m) false n owed (Releasing x) l e = inner_act flow role m false n owed (Releasing x) _ refl tt
request_at flow role false false (Open m) false n owed Confirming l e = inner_act flow role m false n owed Confirming _ refl tt

pub request_act : (flow : Flow) (role : Role) (n : Whole) (owed : List Body) (r : Request) → Laters n → Settled n → Requested flow role n owed r
request_act flow role n owed r l e = request_at flow role n.own n.now.own n.now.now.stage n.now.now.call.own n owed r l e

-- a call placed on a free channel
pub place_act : (flow : Flow) (role : Role) (rs : Bool) (n : Whole) (owed : List Body) (parts : CallParts)
    → Act flow role (in_state false Free rs n) owed (placing parts (shown (stored (in_state false Free rs n)) owed)).channel (Some (Call parts)) (λ st. placed parts st)
place_act flow role rs n owed parts = record {
  did = in_use (places parts (in_state false Free rs n).now.now) (in_state false Free rs n);
  channel_is = refl;
  owes_is = refl;
  plain = refl;
  own_is = refl;
  settled = tt;
  past_is = refl;
  history = λ st t. use_history (λ e. with_call parts e) (in_state false Free rs n) _ st refl refl refl (λ r u g. marks_in_use (λ e. with_call parts e) (in_state false Free rs n) (places parts (in_state false Free rs n).now.now).end_ _ _ (λ g. refl) r u g) t;
  keeps = λ y p b g. whole_places flow role parts (record { me = in_state false Free rs n; you = y; out = p; back = b }) refl g;
  idle = λ e. never_own e;
}

-- what the traffic of a call in d1 says
pub says_act : (flow : Flow) (role : Role) (m : Bool) (n : Whole) (owed : List Body)
    → let N : Whole = in_state false (Open m) false n in
    Act flow role N owed (record (shown (stored N) owed) { traffic = (says flow N.now.now.call.now.traffic).traffic }) (says flow N.now.now.call.now.traffic).body (λ st. st)
says_act flow role m n owed =
    let N : Whole = in_state false (Open m) false n in
    let i : Inner = N.now.now.call.now in
    record {
      did = in_the_epoch (inner_says flow i) N;
      channel_is = refl;
      owes_is = refl;
      plain = traffic_restart _ (traffic_is flow i.traffic);
      own_is = refl;
      settled = tt;
      past_is = refl;
      history = λ st t. kept_history N _ st refl refl refl (λ r u g. same_in_use N _ false _ _ (λ g. ap (λ (e : Epoch). marked (mark N.now.now) e) (through_epochs (g == N.now.now.call.number) i (inner_says flow i).end_ (N.now.now.call.past g) refl)) r u g) t;
      keeps = λ y p b g. whole_says flow role m (record { me = N; you = y; out = p; back = b }) refl g;
      idle = λ e. never_own e;
    }
