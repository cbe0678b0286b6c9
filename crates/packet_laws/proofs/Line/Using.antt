-- What an end's history says of the present use of a channel goes with the state of the channel, and nothing is logged ahead.
use Rattle.std.proofs.Common.{◌≡◌, ℕ, ◌<◌, Bool, true, false, cond, not, ◌==◌, Option, Some, None, is_some, refl, sym, ap, subst, ◌∙◌, arith, true≢false}
use Rattle.std.proofs.lemmas.Bool.{ne_eqb}
use Rattle.link_timers.specs.declared.role.Role.{Role}
use Rattle.link_timers.specs.declared.role.Role.TheVariants.{Dte, Dce}
use Rattle.data_transfer.specs.declared.flow.Flow.{Flow}
use Rattle.data_transfer.specs.Packets.{CallParts}
use Rattle.packet_channel.specs.Channel.{Channel}
use Rattle.packet_laws.specs.History.{Epoch, History, empty_epoch}
use Rattle.packet_laws.specs.LayerLine.{Line}
use Rattle.packet_laws.specs.LayerLineLaw.{HasNoLogs, IsBegun, IsOneCall, IsUnused, HasPlaced, HasCall, InUse, HoldsAt}
use Rattle.packet_laws.proofs.Handshakes.Handshake.{Side, at, inner}
use Rattle.packet_laws.proofs.Call.SetUp.{Stage, Idle, Places, answers}
use Rattle.packet_laws.proofs.Call.SetUp.Stage.{Free, Placed, Waiting, Collided, Open}
use Rattle.packet_laws.proofs.Call.OneEpoch.{Inner, begun_epoch}
use Rattle.packet_laws.proofs.Call.Levels.{CallUse, Uses, Whole, first_epoch, first_call, first_use}
use Rattle.packet_laws.proofs.Line.Stored.{stored, stored_call, stored_uses, stored_whole, shown, SettledUses, SettledWhole, HistoryTie, Laters, laters, uses_now, call_now, Mark, mark, marked, look}
use Rattle.packet_laws.proofs.Line.Lines.{Tied}
use Rattle.packet_laws.proofs.Line.Outcomes.{some_same}
use Rattle.packet_laws.proofs.Line.Beginning.{pick_is, call_epochs}
use Rattle.packet_laws.proofs.Line.Resting.{at_number}

-- ---- nothing is logged ahead

above : (n k : ℕ) → n < k → k ≡ n → ⊥
above n k lt e = omega arith

at_later : {I : Type 0} → (start : I) (s : Side I) (k : ℕ) → s.number < k → ((j : ℕ) → s.number < j → s.past j ≡ start) → at s k ≡ start
at_later start s k lt later = ap (λ (b : Bool). cond b s.now (s.past k)) (ne_eqb k s.number (above s.number k lt)) ∙ later k lt

beyond : (a b k : ℕ) → a ≡ b → a < k → b < k
beyond a b k e lt = omega arith

first_look : (u g : ℕ) → look (at first_use u) g ≡ empty_epoch
first_look u g = ap (λ (v : CallUse). look v g) (pick_is (u == 0) first_call) ∙ call_epochs first_call g refl

-- the present use
use_epochs : (n : Whole) (st : History) → HistoryTie n st → (u g : ℕ) → st.epochs st.restart u g ≡ look (at n.now u) g
use_epochs n st t u g = t.epochs_are st.restart u g ∙ ap (λ (s : Uses). look (at s u) g) (at_number n st.restart t.restart_is)

now_epochs : (n : Whole) (st : History) → HistoryTie n st → (g : ℕ) → st.epochs st.restart st.use_ g ≡ look n.now.now g
now_epochs n st t g = use_epochs n st t st.use_ g ∙ ap (λ (v : CallUse). look v g) (at_number n.now st.use_ t.use_is)

blank_epoch : (q : Mark) → HasNoLogs (marked q empty_epoch)
blank_epoch q = refl

is_begun : (n : Whole) (st : History) → HistoryTie n st → Laters n → IsBegun st
is_begun n st t l = record {
  restarts = λ r u g lt. t.epochs_are r u g ∙ ap (λ (s : Uses). look (at s u) g) (at_later first_use n r (beyond st.restart n.number r t.restart_is lt) l.later_restarts) ∙ first_look u g;
  uses = λ u g lt. use_epochs n st t u g ∙ ap (λ (v : CallUse). look v g) (at_later first_call n.now u (beyond st.use_ n.now.number u t.use_is lt) l.later_uses) ∙ call_epochs first_call g refl;
  epochs = λ g lt. subst (λ (e : Epoch). HasNoLogs e)
      (sym (now_epochs n st t g ∙ ap (λ (i : Inner). marked (mark n.now.now) i.epoch) (at_later begun_epoch n.now.now.call g (beyond st.epoch n.now.now.call.number g t.epoch_is lt) l.later_epochs)))
      (blank_epoch (mark n.now.now));
}

is_one_call : (n : Whole) (st : History) → HistoryTie n st → IsOneCall st
is_one_call n st t = record {
  called = λ r u g h. ap (λ (e : Epoch). e.called) (t.epochs_are r u g) ∙ sym (ap (λ (e : Epoch). e.called) (t.epochs_are r u h));
  answered = λ r u g h. ap (λ (e : Epoch). e.answered) (t.epochs_are r u g) ∙ sym (ap (λ (e : Epoch). e.answered) (t.epochs_are r u h));
}

-- ---- the present use and the state

abbrev Shows : History → CallUse → Type 0
Shows st v = (st.epoch ≡ v.call.number) × ((g : ℕ) → st.epochs st.restart st.use_ g ≡ look v g)

is_unused : (st : History) (v : CallUse) → Shows st v → v.call ≡ first_epoch → v.placed ≡ None → answers v.stage ≡ false → IsUnused st
is_unused st v h c p a = record {
  first = h.0 ∙ ap (λ (e : Side Inner). e.number) c;
  empty = λ g. h.1 g ∙ call_epochs v g c
      ∙ ap (λ (o : Option CallParts). marked (record { called = o; answered = answers v.stage }) empty_epoch) p
      ∙ ap (λ (b : Bool). marked (record { called = None; answered = b }) empty_epoch) a;
}

-- in the own clear or restart nothing was begun
first_unused : (st : History) (v : CallUse) → Shows st v → v ≡ first_call → IsUnused st
first_unused st v h e = is_unused st v h (ap (λ (u : CallUse). u.call) e) (ap (λ (u : CallUse). u.placed) e) (ap (λ (u : CallUse). answers u.stage) e)

placed_parts : (p : Option CallParts) → is_some p ≡ true → (parts : CallParts) × (p ≡ Some parts)
placed_parts None h = absurd (true≢false (sym h))
placed_parts (Some parts) h = (parts, refl)

has_placed : (st : History) (v : CallUse) → Shows st v → v.call ≡ first_epoch → (parts : CallParts) × (v.placed ≡ Some parts) → answers v.stage ≡ false → HasPlaced st
has_placed st v h c p a = record {
  parts = p.0;
  first = h.0 ∙ ap (λ (e : Side Inner). e.number) c;
  placed = λ g. h.1 g ∙ call_epochs v g c
      ∙ ap (λ (o : Option CallParts). marked (record { called = o; answered = answers v.stage }) empty_epoch) p.1
      ∙ ap (λ (b : Bool). marked (record { called = Some p.0; answered = b }) empty_epoch) a;
}

has_call : (role : Role) (m : Bool) (p : Option CallParts) → Places role (Open m) p → HasCall role p (not m)
has_call Dte true None h = absurd (true≢false (sym h))
has_call Dte true (Some parts) h = tt
has_call Dte false None h = tt
has_call Dte false (Some parts) h = absurd cc
has_call Dce true None h = absurd (true≢false (sym h))
has_call Dce true (Some parts) h = tt
has_call Dce false None h = tt
has_call Dce false (Some parts) h = tt

in_stage : (role : Role) (s : Stage) (v : CallUse) (st : History) → Shows st (record v { stage = s }) → Idle first_epoch s v.call → Places role s v.placed → InUse role (stored_call s v.call).state st
in_stage role Free v st h i p = is_unused st (record v { stage = Free }) h i p refl
in_stage role Waiting v st h i p = is_unused st (record v { stage = Waiting }) h i p refl
in_stage role Placed v st h i p = has_placed st (record v { stage = Placed }) h i (placed_parts v.placed p) refl
in_stage role Collided v st h i p = has_placed st (record v { stage = Collided }) h i (placed_parts v.placed p) refl
in_stage role (Open m) v st h i p = subst (λ (e : Epoch). HasCall role e.called e.answered) (sym (h.1 st.epoch)) (has_call role m v.placed p)

in_uses : (role : Role) (own : Bool) (v : CallUse) (st : History) → Shows st v → SettledUses own v → Idle first_epoch v.stage v.call → Places role v.stage v.placed → InUse role (stored_uses own v).state st
in_uses role true v st h e i p = first_unused st v h e
in_uses role false v st h e i p = in_stage role v.stage v st h i p

in_whole : (role : Role) (own : Bool) (s : Uses) (st : History) → Shows st s.now → SettledWhole own s → Idle first_epoch s.now.stage s.now.call → Places role s.now.stage s.now.placed → InUse role (stored_whole own s).state st
in_whole role true s st h e i p = first_unused st s.now h (ap (λ (u : Uses). u.now) e)
in_whole role false s st h e i p = in_uses role s.own s.now st h e i p

pub holds_at : (flow : Flow) (role : Role) (w : Line) (s c : ℕ) → Tied flow role w s c → HoldsAt w.me s c
holds_at flow role w s c t =
    let x : Whole = t.x in let y : Whole = t.y in
    let st : History = w.me.histories s c in
    let tie = t.mine.history in
    let l = laters flow role x y t.o t.b t.good in
    let call = call_now flow role x.now (at y x.number) (inner x y x.number).out (inner x y x.number).back (uses_now flow role x y t.o t.b t.good) in
    let known : InUse role (stored x).state st = in_whole role x.own x.now st (tie.epoch_is, λ g. now_epochs x st tie g) t.mine.settled l.idle call.placed_me in
    record {
      begun = is_begun x st tie l;
      one_call = is_one_call x st tie;
      in_use = λ ch up found.
          let pr = t.mine.present up in
          let ch_is : ch ≡ shown (stored x) pr.owed = some_same ch (shown (stored x) pr.owed) (sym found ∙ pr.channel_is) in
          subst (λ (r : Role). InUse r ch.state st) (sym t.mine.role_is) (subst (λ (q : Channel). InUse role q.state st) (sym ch_is) known);
    }
