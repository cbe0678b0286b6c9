-- In a use in which anything was done one end accepted a call, and the other one had placed it.
use Rattle.std.proofs.Common.{◌≡◌, ℕ, Bool, true, false, ◌&&◌, ◌||◌, List, is_some, refl, sym, ap, subst, ◌∙◌}
use Rattle.link_timers.specs.declared.role.Role.{Role}
use Rattle.data_transfer.specs.declared.flow.Flow.{Flow}
use Rattle.data_transfer.specs.Packets.{Body}
use Rattle.packet_laws.specs.History.{Epoch, History}
use Rattle.packet_channel.specs.Channel.{Channel}
use Rattle.packet_channel.specs.Channel.ChannelState.{Transfer}
use Rattle.packet_laws.specs.LayerLine.{Line}
use Rattle.packet_laws.specs.LayerLineLaw.{HasNoLogs, OneAnswers, IsAccepted}
use Rattle.packet_laws.proofs.Handshakes.Handshake.{at, inner}
use Rattle.packet_laws.proofs.Call.SetUp.{Stage, Idle, answers}
use Rattle.packet_laws.proofs.Call.SetUp.Stage.{Free, Placed, Waiting, Collided, Open}
use Rattle.packet_laws.proofs.Call.SettingUp.{open_answered, never_both, answered_placed}
use Rattle.packet_laws.proofs.Call.Levels.{CallUse, Epochs, Uses, Whole, first_epoch, GoodWhole}
use Rattle.packet_laws.proofs.Line.Stored.{HistoryTie, look, stored, stored_call, stored_uses, stored_whole, shown}
use Rattle.packet_laws.proofs.Line.Lines.{Tied}
use Rattle.packet_laws.proofs.Line.Outcomes.{some_same}
use Rattle.packet_laws.proofs.Line.Resting.{at_number}
use Rattle.packet_laws.proofs.Line.Beginning.{call_epochs}

blank : (v : CallUse) (g : ℕ) → v.call ≡ first_epoch → HasNoLogs (look v g)
blank v g i = subst (λ (e : Epoch). HasNoLogs e) (sym (call_epochs v g i)) refl

is_open : (v : CallUse) (s : Stage) (g : ℕ) → Idle first_epoch s v.call → (HasNoLogs (look v g) → ⊥) → (m : Bool) × (s ≡ Open m)
is_open v Free g i h = absurd (h (blank v g i))
is_open v Placed g i h = absurd (h (blank v g i))
is_open v Waiting g i h = absurd (h (blank v g i))
is_open v Collided g i h = absurd (h (blank v g i))
is_open v (Open m) g i h = (m, refl)

pub one_answers : (flow : Flow) (role : Role) (x y : Whole) (o b : List Body) (st zt : History) → HistoryTie x st → HistoryTie y zt → GoodWhole flow role (record { me = x; you = y; out = o; back = b }) → OneAnswers st zt
one_answers flow role x y o b st zt p q i = record {
  answered = λ r u g some.
      let call = (i.inners r).inners u in
      let open_ = is_open (at (at x r) u) (at (at x r) u).stage g call.idle_me (λ none. some (subst (λ (e : Epoch). HasNoLogs e) (sym (p.epochs_are r u g)) none)) in
      ap (λ (e : Epoch). e.answered || (zt.epochs r u g).answered) (p.epochs_are r u g) ∙ ap (λ (e : Epoch). answers (at (at x r) u).stage || e.answered) (q.epochs_are r u g)
      ∙ open_answered role (at (at x r) u).stage (at (at y r) u).stage (inner (at x r) (at y r) u).back call.aft open_.0 open_.1;
  never_both = λ r u g.
      let call = (i.inners r).inners u in
      ap (λ (e : Epoch). e.answered && (zt.epochs r u g).answered) (p.epochs_are r u g) ∙ ap (λ (e : Epoch). answers (at (at x r) u).stage && e.answered) (q.epochs_are r u g)
      ∙ never_both role (at (at x r) u).stage (at (at y r) u).stage (inner (at x r) (at y r) u).back call.aft;
  was_called = λ r u g yes.
      let call = (i.inners r).inners u in
      ap (λ (e : Epoch). is_some e.called) (q.epochs_are r u g)
      ∙ answered_placed role (at (at x r) u).stage (at (at y r) u).stage (at (at y r) u).placed (inner (at x r) (at y r) u).back call.aft call.placed_you (sym (ap (λ (e : Epoch). e.answered) (p.epochs_are r u g)) ∙ yes);
}

-- ---- in data transfer

open_call : (s : Stage) (e : Epochs) → (stored_call s e).state ≡ Transfer → (m : Bool) × (s ≡ Open m)
open_call Free e h = absurd cc
open_call Placed e h = absurd cc
open_call Waiting e h = absurd cc
open_call Collided e h = absurd cc
open_call (Open m) e h = (m, refl)

open_use : (own : Bool) (v : CallUse) → (stored_uses own v).state ≡ Transfer → (m : Bool) × (v.stage ≡ Open m)
open_use true v h = absurd cc
open_use false v h = open_call v.stage v.call h

open_whole : (own : Bool) (s : Uses) → (stored_whole own s).state ≡ Transfer → (m : Bool) × (s.now.stage ≡ Open m)
open_whole true s h = absurd cc
open_whole false s h = open_use s.own s.now h

pub is_accepted : (flow : Flow) (role : Role) (w : Line) (s c : ℕ) → Tied flow role w s c → IsAccepted w.me (w.you.histories s c) s c
is_accepted flow role w s c t ch g up found transfer =
    let x : Whole = t.x in let y : Whole = t.y in
    let st : History = w.me.histories s c in
    let zt : History = w.you.histories s c in
    let p = t.mine.history in
    let q = t.yours.history in
    let pr = t.mine.present up in
    let ch_is : ch ≡ shown (stored x) pr.owed = some_same ch (shown (stored x) pr.owed) (sym found ∙ pr.channel_is) in
    let state : (stored x).state ≡ Transfer = sym (ap (λ (z : Channel). z.state) ch_is) ∙ transfer in
    let open_ = open_whole x.own x.now state in
    let stage : (at (at x st.restart) st.use_).stage ≡ Open open_.0 =
    ap (λ (z : Uses). (at z st.use_).stage) (at_number x st.restart p.restart_is) ∙ ap (λ (v : CallUse). v.stage) (at_number x.now st.use_ p.use_is) ∙ open_.1 in
    let call = (t.good.inners st.restart).inners st.use_ in
    ap (λ (e : Epoch). e.answered || (zt.epochs st.restart st.use_ g).answered) (p.epochs_are st.restart st.use_ g) ∙ ap (λ (e : Epoch). answers (at (at x st.restart) st.use_).stage || e.answered) (q.epochs_are st.restart st.use_ g)
    ∙ open_answered role (at (at x st.restart) st.use_).stage (at (at y st.restart) st.use_).stage (inner (at x st.restart) (at y st.restart) st.use_).back call.aft open_.0 stage
