-- The layer's step on a packet that arrives in r1 is that of the channel's handshakes, and so is the history.
use Rattle.std.proofs.Common.{◌≡◌, ℕ, ◌+◌, Bool, true, false, not, ◌==◌, List, Option, None, refl, sym, ap, subst, ◌∙◌, arith}
use Rattle.link_timers.specs.declared.role.Role.{Role}
use Rattle.link_timers.specs.declared.role.Role.TheVariants.{Dte, Dce}
use Rattle.data_transfer.specs.declared.flow.Flow.{Flow}
use Rattle.data_transfer.specs.Packets.{Body}
use Rattle.data_transfer.specs.Packets.Body.{Call, Accepted, Clear, ClearConfirmation, Data, Interrupt, InterruptConfirmation, ReceiveReady, ReceiveNotReady, Reset, ResetConfirmation, Restart, RestartConfirmation}
use Rattle.data_transfer.specs.Traffic.{Heard, hears}
use Rattle.data_transfer.specs.Traffic.Heard.{Keeps, Confirms, Wrong}
use Rattle.packet_channel.specs.Channel.{Channel, Step, received, after_heard}
use Rattle.packet_channel.specs.Channel.ChannelState.{Transfer}
use Rattle.packet_laws.specs.History.{History, received_history, logged_heard, heard_history, opened, grown}
use Rattle.packet_laws.specs.LayerLineLaw.{is_request}
use Rattle.packet_laws.proofs.Handshakes.Handshake.{Kind, Did, at, advanced, reacted}
use Rattle.packet_laws.proofs.Handshakes.Handshake.Kind.{Payload}
use Rattle.packet_laws.proofs.Handshakes.Keeping.{at_next}
use Rattle.packet_laws.proofs.Call.SetUp.{Stage, in_call}
use Rattle.packet_laws.proofs.Call.SetUp.Stage.{Free, Placed, Waiting, Collided, Open}
use Rattle.packet_laws.proofs.Call.OneEpoch.{Inner, begun_epoch, heard_traffic, heard_inner, NotWrong}
use Rattle.packet_laws.proofs.Call.Levels.{restart_kind, Epochs, CallUse, Whole, first_epoch, first_call, whole_hears, whole_ok}
use Rattle.packet_laws.proofs.Line.Stored.{stored, stored_call, shown, Settled, SettledUses, HistoryTie, Laters, kept_history, grown_history, next_epoch_tie, same_in_use, grows_in_use, through_whole, look, marked, heard_marked}

pub record Ties (role : Role) (flow : Flow) (c : ℕ) (n : Whole) (owed : List Body) (b : Body) : Type 0 where
  pub channel_is : (received role flow c (shown (stored n) owed) b).channel ≡ shown (stored (whole_hears flow role n b).end_) owed
  pub owes_is : (received role flow c (shown (stored n) owed) b).owes ≡ (whole_hears flow role n b).says
  pub no_fault : is_request (received role flow c (shown (stored n) owed) b).owes ≡ false
  pub ready : (whole_hears flow role n b).end_.own ≡ false
  pub settled : Settled (whole_hears flow role n b).end_
  pub history : (st : History) → HistoryTie n st → HistoryTie (whole_hears flow role n b).end_ (received_history role flow c (shown (stored n) owed) b st)

-- a channel in r1, by the state of the clear, of the call and of the reset
abbrev pub in_state : Bool → Stage → Bool → Whole → Whole
in_state own s rs n = record n { own = false; now = record n.now { own = own; now = record n.now.now { stage = s; call = record n.now.now.call { own = rs } } } }

not_payload : Kind.Request ≡ Kind.Payload → ⊥
not_payload e = cc

not_payload' : Kind.Confirmation ≡ Kind.Payload → ⊥
not_payload' e = cc

heard_channel : (role : Role) (c : ℕ) (ch : Channel) (h : Heard) → NotWrong h → (after_heard role c ch h).channel ≡ record ch { traffic = heard_traffic h ch.traffic }
heard_channel role c ch (Keeps n t) ok = refl
heard_channel role c ch (Confirms t) ok = refl
heard_channel role c ch (Wrong d) ok = absurd ok

heard_grown : (h : Heard) (st : History) → NotWrong h → grown (λ e. logged_heard h e) st ≡ heard_history Transfer false h st
heard_grown (Keeps n t) st ok = refl
heard_grown (Confirms t) st ok = refl
heard_grown (Wrong d) st ok = absurd ok

heard_owes : (role : Role) (c : ℕ) (ch : Channel) (h : Heard) → NotWrong h → (after_heard role c ch h).owes ≡ None
heard_owes role c ch (Keeps n t) ok = refl
heard_owes role c ch (Confirms t) ok = refl
heard_owes role c ch (Wrong d) ok = absurd ok

-- learning of a clear
learnt_clear : (role : Role) (flow : Flow) (c : ℕ) (s : Stage) (rs : Bool) (n : Whole) (cause diagnostic : ℕ) → Laters (in_state false s rs n)
    → (st : History) → HistoryTie (in_state false s rs n) st → HistoryTie (whole_hears flow role (in_state false s rs n) (Clear cause diagnostic)).end_ (record st { use_ = st.use_ + 1; epoch = 0 })
learnt_clear role flow c s rs n cause diagnostic l st t = record {
  restart_is = t.restart_is;
  use_is = let e = t.use_is in omega arith;
  epoch_is = refl;
  epochs_are = λ r u g. t.epochs_are r u g
      ∙ sym (through_whole (r == n.number) (in_state false s rs n).now _ (n.past r) u g
      (ap (λ (v : CallUse). look v g) (at_next CallUse first_call false (in_state false s rs n).now u l.later_uses)));
}

-- a packet that is heard in d1 and is no procedure error
abbrev heard_whole : Heard → Whole → Did Whole
heard_whole h n =
    reacted (reacted (in_call (reacted (record { end_ = heard_inner h n.now.now.call.now; says = None }) n.now.now.call)
    n.now.now) n.now) n

flows : (role : Role) (flow : Flow) (c : ℕ) (m : Bool) (n : Whole) (owed : List Body) (b : Body)
    → let N = in_state false (Open m) false n in let h = hears flow n.now.now.call.now.traffic b in
    received role flow c (shown (stored N) owed) b ≡ after_heard role c (shown (stored N) owed) h
    → whole_hears flow role N b ≡ heard_whole h N → NotWrong h → Ties role flow c N owed b
flows role flow c m n owed b step is ok =
    let N : Whole = in_state false (Open m) false n in
    let h : Heard = hears flow n.now.now.call.now.traffic b in
    let ch : Channel = shown (stored N) owed in
    let E : Whole = (heard_whole h N).end_ in
    let owes : (received role flow c ch b).owes ≡ None = ap (λ (s : Step). s.owes) step ∙ heard_owes role c ch h ok in
    record {
      channel_is = ap (λ (s : Step). s.channel) step ∙ heard_channel role c ch h ok
          ∙ ap (λ (d : Did Whole). shown (stored d.end_) owed) (sym is);
      owes_is = owes ∙ ap (λ (d : Did Whole). d.says) (sym is);
      no_fault = ap (λ (o : Option Body). is_request o) owes;
      ready = ap (λ (d : Did Whole). d.end_.own) is;
      settled = subst (λ (d : Did Whole). Settled d.end_) (sym is) tt;
      history = λ st t.
          subst (λ (d : Did Whole). HistoryTie d.end_ (received_history role flow c ch b st)) (sym is)
          (subst (λ (o : Option Body). HistoryTie E (opened o (heard_history Transfer false h st))) (sym owes)
          (subst (λ (z : History). HistoryTie E z) (heard_grown h st ok)
          (grown_history (λ v. logged_heard h v) N E st refl refl refl
          (λ r u g. grows_in_use (λ v. logged_heard h v) N (heard_inner h N.now.now.call.now) false false _ _ _ _ (λ q v. heard_marked h q v) refl r u g) t)));
    }

pub received_at : (role : Role) (flow : Flow) (c : ℕ) (own : Bool) (s : Stage) (rs : Bool) (n : Whole) (owed : List Body) (b : Body) → restart_kind b ≡ Payload
    → Laters (in_state own s rs n) → SettledUses own (in_state own s rs n).now.now → whole_ok flow role (in_state own s rs n) b → Ties role flow c (in_state own s rs n) owed b
-- in the own clear
received_at role flow c true s rs n owed (Clear x y) plain l e ok = record {
  channel_is = ap (λ (u : CallUse). shown (stored_call u.stage u.call) owed) (sym e);
  owes_is = refl;
  no_fault = refl;
  ready = refl;
  settled = tt;
  history = λ st t. kept_history (in_state true s rs n) _ st refl refl refl (λ r u g. same_in_use (in_state true s rs n) _ false _ _ (λ g. refl) r u g) t;
}
received_at role flow c true s rs n owed ClearConfirmation plain l e ok = record {
  channel_is = ap (λ (u : CallUse). shown (stored_call u.stage u.call) owed) (sym e);
  owes_is = refl;
  no_fault = refl;
  ready = refl;
  settled = tt;
  history = λ st t. kept_history (in_state true s rs n) _ st refl refl refl (λ r u g. same_in_use (in_state true s rs n) _ false _ _ (λ g. refl) r u g) t;
}
received_at role flow c true s rs n owed (Restart x y) plain l e ok = absurd (not_payload plain)
received_at role flow c true s rs n owed RestartConfirmation plain l e ok = absurd (not_payload' plain)
received_at role flow c true s rs n owed _ plain l e ok = record {
  channel_is = refl;
  owes_is = refl;
  no_fault = refl;
  ready = refl;
  settled = e;
  history = λ st t. kept_history (in_state true s rs n) _ st refl refl refl (λ r u g. same_in_use (in_state true s rs n) _ true _ _ (λ g. refl) r u g) t;
}
-- p1
received_at role flow c false Free rs n owed (Call p) plain l e ok = record {
  channel_is = refl;
  owes_is = refl;
  no_fault = refl;
  ready = refl;
  settled = tt;
  history = λ st t. kept_history (in_state false Free rs n) _ st refl refl refl (λ r u g. same_in_use (in_state false Free rs n) _ false _ _ (λ g. refl) r u g) t;
}
received_at role flow c false Free rs n owed (Clear x y) plain l e ok = record {
  channel_is = refl;
  owes_is = refl;
  no_fault = refl;
  ready = refl;
  settled = tt;
  history = λ st t. learnt_clear role flow c Free rs n x y l st t;
}
received_at role flow c false Free rs n owed (Restart x y) plain l e ok = absurd (not_payload plain)
received_at role flow c false Free rs n owed RestartConfirmation plain l e ok = absurd (not_payload' plain)
received_at role flow c false Free rs n owed _ plain l e ok = absurd ok
-- the own call waits
received_at role flow c false Placed rs n owed (Call p) plain l e ok = record {
  channel_is = refl;
  owes_is = refl;
  no_fault = refl;
  ready = refl;
  settled = tt;
  history = λ st t. kept_history (in_state false Placed rs n) _ st refl refl refl (λ r u g. same_in_use (in_state false Placed rs n) _ false _ _ (λ g. refl) r u g) t;
}
received_at role flow c false Placed rs n owed Accepted plain l e ok = record {
  channel_is = refl;
  owes_is = refl;
  no_fault = refl;
  ready = refl;
  settled = tt;
  history = λ st t. kept_history (in_state false Placed rs n) _ st refl refl (sym (ap (λ (v : Epochs). v.number) l.idle))
      (λ r u g. same_in_use (in_state false Placed rs n) (record (in_state false Placed rs n).now.now { stage = Open true; call = first_epoch }) false _ _ (λ g. ap (λ (v : Epochs). marked (record { called = n.now.now.placed; answered = false }) (at v g).epoch) (sym l.idle)) r u g) t;
}
received_at role flow c false Placed rs n owed (Clear x y) plain l e ok = record {
  channel_is = refl;
  owes_is = refl;
  no_fault = refl;
  ready = refl;
  settled = tt;
  history = λ st t. learnt_clear role flow c Placed rs n x y l st t;
}
received_at role flow c false Placed rs n owed (Restart x y) plain l e ok = absurd (not_payload plain)
received_at role flow c false Placed rs n owed RestartConfirmation plain l e ok = absurd (not_payload' plain)
received_at role flow c false Placed rs n owed _ plain l e ok = absurd ok
-- the far end's call waits
received_at role flow c false Waiting rs n owed (Clear x y) plain l e ok = record {
  channel_is = refl;
  owes_is = refl;
  no_fault = refl;
  ready = refl;
  settled = tt;
  history = λ st t. learnt_clear role flow c Waiting rs n x y l st t;
}
received_at role flow c false Waiting rs n owed (Restart x y) plain l e ok = absurd (not_payload plain)
received_at role flow c false Waiting rs n owed RestartConfirmation plain l e ok = absurd (not_payload' plain)
received_at Dte flow c false Waiting rs n owed Accepted plain l e ok = absurd ok
received_at Dce flow c false Waiting rs n owed Accepted plain l e ok = absurd ok
received_at role flow c false Waiting rs n owed _ plain l e ok = absurd ok
-- a collision
received_at Dte flow c false Collided rs n owed Accepted plain l e ok = record {
  channel_is = refl;
  owes_is = refl;
  no_fault = refl;
  ready = refl;
  settled = tt;
  history = λ st t. kept_history (in_state false Collided rs n) _ st refl refl (sym (ap (λ (v : Epochs). v.number) l.idle))
      (λ r u g. same_in_use (in_state false Collided rs n) (record (in_state false Collided rs n).now.now { stage = Open true; call = first_epoch }) false _ _ (λ g. ap (λ (v : Epochs). marked (record { called = n.now.now.placed; answered = false }) (at v g).epoch) (sym l.idle)) r u g) t;
}
received_at Dce flow c false Collided rs n owed Accepted plain l e ok = absurd ok
received_at Dte flow c false Collided rs n owed (Clear x y) plain l e ok = record {
  channel_is = refl;
  owes_is = refl;
  no_fault = refl;
  ready = refl;
  settled = tt;
  history = λ st t. learnt_clear Dte flow c Collided rs n x y l st t;
}
received_at Dce flow c false Collided rs n owed (Clear x y) plain l e ok = record {
  channel_is = refl;
  owes_is = refl;
  no_fault = refl;
  ready = refl;
  settled = tt;
  history = λ st t. learnt_clear Dce flow c Collided rs n x y l st t;
}
received_at role flow c false Collided rs n owed (Restart x y) plain l e ok = absurd (not_payload plain)
received_at role flow c false Collided rs n owed RestartConfirmation plain l e ok = absurd (not_payload' plain)
received_at Dte flow c false Collided rs n owed _ plain l e ok = absurd ok
received_at Dce flow c false Collided rs n owed _ plain l e ok = absurd ok
-- in the own reset
received_at role flow c false (Open m) true n owed (Clear x y) plain l e ok = record {
  channel_is = refl;
  owes_is = refl;
  no_fault = refl;
  ready = refl;
  settled = tt;
  history = λ st t. learnt_clear role flow c (Open m) true n x y l st t;
}
received_at role flow c false (Open m) true n owed (Reset x y) plain l e ok = record {
  channel_is = refl;
  owes_is = refl;
  no_fault = refl;
  ready = refl;
  settled = tt;
  history = λ st t. kept_history (in_state false (Open m) true n) _ st refl refl refl (λ r u g. same_in_use (in_state false (Open m) true n) _ false _ _ (λ g. refl) r u g) t;
}
received_at role flow c false (Open m) true n owed ResetConfirmation plain l e ok = record {
  channel_is = refl;
  owes_is = refl;
  no_fault = refl;
  ready = refl;
  settled = tt;
  history = λ st t. kept_history (in_state false (Open m) true n) _ st refl refl refl (λ r u g. same_in_use (in_state false (Open m) true n) _ false _ _ (λ g. refl) r u g) t;
}
received_at role flow c false (Open m) true n owed (Restart x y) plain l e ok = absurd (not_payload plain)
received_at role flow c false (Open m) true n owed RestartConfirmation plain l e ok = absurd (not_payload' plain)
received_at role flow c false (Open m) true n owed (Call p) plain l e ok = absurd ok
received_at Dte flow c false (Open m) true n owed Accepted plain l e ok = absurd ok
received_at Dce flow c false (Open m) true n owed Accepted plain l e ok = absurd ok
received_at role flow c false (Open m) true n owed ClearConfirmation plain l e ok = absurd ok
received_at role flow c false (Open m) true n owed _ plain l e ok = record {
  channel_is = refl;
  owes_is = refl;
  no_fault = refl;
  ready = refl;
  settled = tt;
  history = λ st t. kept_history (in_state false (Open m) true n) _ st refl refl refl (λ r u g. same_in_use (in_state false (Open m) true n) _ false _ _ (λ g. refl) r u g) t;
}
-- in d1
received_at role flow c false (Open m) false n owed (Clear x y) plain l e ok = record {
  channel_is = refl;
  owes_is = refl;
  no_fault = refl;
  ready = refl;
  settled = tt;
  history = λ st t. learnt_clear role flow c (Open m) false n x y l st t;
}
received_at role flow c false (Open m) false n owed (Reset x y) plain l e ok = record {
  channel_is = refl;
  owes_is = refl;
  no_fault = refl;
  ready = refl;
  settled = tt;
  history = λ st t. next_epoch_tie (in_state false (Open m) false n) _ st refl refl refl
      (λ r u g. same_in_use (in_state false (Open m) false n) (record (in_state false (Open m) false n).now.now { call = advanced begun_epoch false (in_state false (Open m) false n).now.now.call }) false _ _
      (λ g. ap (λ (i : Inner). marked (record { called = n.now.now.placed; answered = not m }) i.epoch) (at_next Inner begun_epoch false (in_state false (Open m) false n).now.now.call g l.later_epochs)) r u g) t;
}
received_at role flow c false (Open m) false n owed (Restart x y) plain l e ok = absurd (not_payload plain)
received_at role flow c false (Open m) false n owed RestartConfirmation plain l e ok = absurd (not_payload' plain)
received_at role flow c false (Open m) false n owed (Call p) plain l e ok = absurd ok
received_at Dte flow c false (Open m) false n owed Accepted plain l e ok = absurd ok
received_at Dce flow c false (Open m) false n owed Accepted plain l e ok = absurd ok
received_at role flow c false (Open m) false n owed ClearConfirmation plain l e ok = absurd ok
received_at role flow c false (Open m) false n owed ResetConfirmation plain l e ok = absurd ok
received_at role flow c false (Open m) false n owed (Data x y d) plain l e ok = flows role flow c m n owed (Data x y d) refl refl ok
received_at role flow c false (Open m) false n owed (Interrupt x) plain l e ok = flows role flow c m n owed (Interrupt x) refl refl ok
received_at role flow c false (Open m) false n owed InterruptConfirmation plain l e ok = flows role flow c m n owed InterruptConfirmation refl refl ok
received_at role flow c false (Open m) false n owed (ReceiveReady x) plain l e ok = flows role flow c m n owed (ReceiveReady x) refl refl ok
received_at role flow c false (Open m) false n owed (ReceiveNotReady x) plain l e ok = flows role flow c m n owed (ReceiveNotReady x) refl refl ok
