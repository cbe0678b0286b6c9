-- A line as it is made, standing or not, is tied to handshakes at their beginning.
use Rattle.std.proofs.Common.{◌≡◌, ℕ, zero, suc, ◌<◌, ◌≤◌, Bool, true, false, cond, ◌&&◌, ◌==◌, [], ◌∷◌, replicate, slice_get, Option, Some, None, refl, sym, ap, subst, ◌∙◌, arith}
use Rattle.link_timers.specs.declared.role.Role.{Role}
use Rattle.link_timers.specs.declared.role.Role.TheVariants.{Dte, Dce}
use Rattle.data_transfer.specs.Flow.{modulus}
use Rattle.data_transfer.specs.declared.flow.Flow.{Flow}
use Rattle.data_transfer.specs.Packets.{CallParts}
use Rattle.data_transfer.specs.Packets.Body.{Restart}
use Rattle.packet_channel.specs.Channel.{closed_channel}
use Rattle.packet_layer.specs.Layer.{nth_channel, made, standing_channels}
use Rattle.packet_laws.specs.History.{History, empty_epoch, new_history, in_whole_use}
use Rattle.packet_laws.specs.LayerLine.{start_end, start_line, start_history, no_parts}
use Rattle.packet_laws.proofs.Handshakes.Handshake.{Two, at, started}
use Rattle.packet_laws.proofs.Call.SetUp.Stage.{Open}
use Rattle.packet_laws.proofs.Call.OneEpoch.{Inner, begun_epoch, Epochs_agree}
use Rattle.packet_laws.proofs.Call.Delivery.{Agree}
use Rattle.packet_laws.proofs.Call.Levels.{Epochs, CallUse, Uses, Whole, first_epoch, first_call, first_use, begun_whole, GoodEpochs, GoodCall, GoodUses, GoodWhole}
use Rattle.packet_laws.proofs.Line.Stored.{stored, shown, epoch_in, HistoryTie, mark, look, marked}
use Rattle.packet_laws.proofs.Line.Lines.{There, EndTie, Tied}

-- ---- at the beginning the ends of each level agree

epochs_begin : (flow : Flow) → flow.window < modulus flow.numbering → Epochs_agree flow (record { me = begun_epoch; you = begun_epoch; out = []; back = [] })
epochs_begin flow small = record {
  small = small;
  forth = record {
    stream = record { items = refl; numbers = tt; expected = refl; next = refl };
    acking = record { acks = omega arith; covered_is = refl; released_is = refl; in_window = omega arith; released_taken = omega arith };
    urgent = record { items = refl; pending = refl; waits = tt };
  };
  back = record {
    stream = record { items = refl; numbers = tt; expected = refl; next = refl };
    acking = record { acks = omega arith; covered_is = refl; released_is = refl; in_window = omega arith; released_taken = omega arith };
    urgent = record { items = refl; pending = refl; waits = tt };
  };
}

agree_begin : (flow : Flow) → flow.window < modulus flow.numbering → Agree flow (record { me = begun_epoch; you = begun_epoch; out = []; back = [] })
agree_begin flow small = record { ways = epochs_begin flow small; mine = refl; yours = refl }

-- the ends of one number, picked by a test
picked : (I : Type 0) (Good : Two I → Type 0) (b : Bool) (x y x' y' : I) → Good (record { me = x; you = y; out = []; back = [] }) → Good (record { me = x'; you = y'; out = []; back = [] })
    → Good (record { me = cond b x x'; you = cond b y y'; out = []; back = [] })
picked I Good true x y x' y' g h = g
picked I Good false x y x' y' g h = h

zero_le_zero : 0 ≤ 0
zero_le_zero = omega arith

call_first : (flow : Flow) → flow.window < modulus flow.numbering → GoodEpochs flow (record { me = first_epoch; you = first_epoch; out = []; back = [] })
call_first flow small = record {
  fore = record { walk = (refl, refl); within = λ k. zero_le_zero; later = λ k lt. (refl, refl, refl) };
  aft = record { walk = (refl, refl); within = λ k. zero_le_zero; later = λ k lt. (refl, refl, refl) };
  inners = λ k. picked Inner (λ u. Agree flow u) (k == 0) begun_epoch begun_epoch begun_epoch begun_epoch (agree_begin flow small) (agree_begin flow small);
}

free_first : (flow : Flow) (role : Role) → flow.window < modulus flow.numbering → GoodCall flow role (record { me = first_call; you = first_call; out = []; back = [] })
free_first flow role small = record { fore = tt; aft = tt; idle_me = refl; idle_you = refl; calls_me = tt; calls_you = tt; placed_me = refl; placed_you = refl; call = call_first flow small }

-- a standing call was placed by the DTE
abbrev standing_placed : Bool → Option CallParts
standing_placed true = Some no_parts
standing_placed false = None

abbrev standing_call : Bool → CallUse
standing_call mine = record { stage = Open mine; call = first_epoch; placed = standing_placed mine }

open_first : (flow : Flow) → flow.window < modulus flow.numbering → GoodCall flow Dte (record { me = standing_call true; you = standing_call false; out = []; back = [] })
open_first flow small = record { fore = refl; aft = refl; idle_me = tt; idle_you = tt; calls_me = tt; calls_you = tt; placed_me = refl; placed_you = tt; call = call_first flow small }

abbrev uses_with : CallUse → Uses
uses_with u = record first_use { now = u }

uses_first : (flow : Flow) (role : Role) (u v : CallUse) → GoodCall flow role (record { me = u; you = v; out = []; back = [] }) → GoodCall flow role (record { me = first_call; you = first_call; out = []; back = [] })
    → GoodUses flow role (record { me = uses_with u; you = uses_with v; out = []; back = [] })
uses_first flow role u v g h = record {
  fore = record { walk = (refl, refl); within = λ k. zero_le_zero; later = λ k lt. (refl, refl, refl) };
  aft = record { walk = (refl, refl); within = λ k. zero_le_zero; later = λ k lt. (refl, refl, refl) };
  inners = λ k. picked CallUse (λ w. GoodCall flow role w) (k == 0) u v first_call first_call g h;
}

fresh_uses : (flow : Flow) (role : Role) → flow.window < modulus flow.numbering → GoodUses flow role (record { me = first_use; you = first_use; out = []; back = [] })
fresh_uses flow role small = uses_first flow role first_call first_call (free_first flow role small) (free_first flow role small)

-- both ends in their own restart
restarts_first : (flow : Flow) (role : Role) (a b : ℕ) → flow.window < modulus flow.numbering → GoodWhole flow role (record { me = begun_whole; you = begun_whole; out = Restart a 0 ∷ []; back = Restart b 0 ∷ [] })
restarts_first flow role a b small = record {
  fore = record { walk = (refl, refl); within = λ k. zero_le_zero; later = λ k lt. (refl, refl, refl) };
  aft = record { walk = (refl, refl); within = λ k. zero_le_zero; later = λ k lt. (refl, refl, refl) };
  inners = λ k. picked Uses (λ w. GoodUses flow role w) (k == 0) first_use first_use first_use first_use (fresh_uses flow role small) (fresh_uses flow role small);
}

-- both in r1
abbrev standing_whole : CallUse → Whole
standing_whole u = record (started false first_use) { now = uses_with u }

standing_first : (flow : Flow) (role : Role) (u v : CallUse) → flow.window < modulus flow.numbering → GoodCall flow role (record { me = u; you = v; out = []; back = [] })
    → GoodWhole flow role (record { me = standing_whole u; you = standing_whole v; out = []; back = [] })
standing_first flow role u v small g = record {
  fore = record { walk = (refl, refl); within = λ k. zero_le_zero; later = λ k lt. (refl, refl, refl) };
  aft = record { walk = (refl, refl); within = λ k. zero_le_zero; later = λ k lt. (refl, refl, refl) };
  inners = λ k. picked Uses (λ w. GoodUses flow role w) (k == 0) (uses_with u) (uses_with v) first_use first_use
      (uses_first flow role u v g (free_first flow role small)) (fresh_uses flow role small);
}

-- ---- channels as made

nth_replicate : (n i : ℕ) → i < n → slice_get (replicate n closed_channel) i ≡ Some closed_channel
nth_replicate zero i lt = let e : ⊥ = omega arith in absurd e
nth_replicate (suc n) zero lt = refl
nth_replicate (suc n) (suc i) lt = nth_replicate n i (omega arith)

closed_at : (n c : ℕ) → 1 ≤ c → c ≤ n → nth_channel (replicate n closed_channel) c ≡ Some closed_channel
closed_at n zero lo hi = let e : ⊥ = omega arith in absurd e
closed_at n (suc i) lo hi = nth_replicate n i (omega arith)

-- the standing call's channel is the first one
abbrev use_at : Bool → ℕ → CallUse
use_at mine zero = first_call
use_at mine (suc zero) = standing_call mine
use_at mine (suc (suc i)) = first_call

standing_at : (mine : Bool) (n c : ℕ) → 1 ≤ c → c ≤ n → nth_channel (standing_channels true (replicate n closed_channel)) c ≡ Some (shown (stored (standing_whole (use_at mine c))) [])
standing_at mine n zero lo hi = let e : ⊥ = omega arith in absurd e
standing_at mine zero (suc i) lo hi = let e : ⊥ = omega arith in absurd e
standing_at mine (suc n) (suc zero) lo hi = refl
standing_at mine (suc n) (suc (suc i)) lo hi = nth_replicate n i (omega arith)

there_at : (role : Role) (channels : ℕ) (flow : Flow) (standing : Bool) (c : ℕ) → 1 ≤ c → c ≤ channels → There (made role channels flow standing) c
there_at role channels flow true c lo hi = (shown (stored (standing_whole (use_at true c))) [], standing_at true channels c lo hi)
there_at role channels flow false c lo hi = (closed_channel, closed_at channels c lo hi)

-- ---- the ties

pub pick_is : {X : Type 0} → (b : Bool) (x : X) → cond b x x ≡ x
pick_is true x = refl
pick_is false x = refl

begun_epochs : (r u g : ℕ) → empty_epoch ≡ epoch_in begun_whole r u g
begun_epochs r u g =
    sym (ap (λ (s : Uses). look (at s u) g) (pick_is (r == 0) first_use) ∙ ap (λ (s : CallUse). look s g) (pick_is (u == 0) first_call) ∙ ap (λ (i : Inner). marked (mark first_call) i.epoch) (pick_is (g == 0) begun_epoch))

pub call_epochs : (v : CallUse) (g : ℕ) → v.call ≡ first_epoch → look v g ≡ marked (mark v) empty_epoch
call_epochs v g e = ap (λ (z : Epochs). marked (mark v) (at z g).epoch) e ∙ ap (λ (i : Inner). marked (mark v) i.epoch) (pick_is (g == 0) begun_epoch)

use_epochs_at : (b : Bool) (v : CallUse) (g : ℕ) → v.call ≡ first_epoch → cond b (marked (mark v) empty_epoch) empty_epoch ≡ look (cond b v first_call) g
use_epochs_at true v g e = sym (call_epochs v g e)
use_epochs_at false v g e = sym (call_epochs first_call g refl)

standing_epochs_at : (b : Bool) (v : CallUse) (u g : ℕ) → v.call ≡ first_epoch → cond (b && (u == 0)) (marked (mark v) empty_epoch) empty_epoch ≡ look (at (cond b (uses_with v) first_use) u) g
standing_epochs_at true v u g e = use_epochs_at (u == 0) v g e
standing_epochs_at false v u g e = sym (ap (λ (s : CallUse). look s g) (pick_is (u == 0) first_call) ∙ call_epochs first_call g refl)

begun_history : HistoryTie begun_whole new_history
begun_history = record { restart_is = refl; use_is = refl; epoch_is = refl; epochs_are = begun_epochs }

standing_tie : (v : CallUse) → v.call ≡ first_epoch → HistoryTie (standing_whole v) (in_whole_use (λ e. marked (mark v) e) new_history)
standing_tie v e = record {
  restart_is = refl;
  use_is = refl;
  epoch_is = sym (ap (λ (z : Epochs). z.number) e);
  epochs_are = λ r u g. standing_epochs_at (r == 0) v u g e;
}

free_tie : HistoryTie (standing_whole first_call) new_history
free_tie = let t = standing_tie first_call refl in record {
  restart_is = refl;
  use_is = refl;
  epoch_is = refl;
  epochs_are = λ r u g. sym (pick_is ((r == 0) && (u == 0)) empty_epoch) ∙ t.epochs_are r u g;
}

-- the DTE has placed the standing call, the DCE has accepted it
abbrev standing_role : Bool → Role
standing_role true = Dte
standing_role false = Dce

start_tie : (mine : Bool) (c : ℕ) → HistoryTie (standing_whole (use_at mine c)) (start_history (standing_role mine) true 0 c)
start_tie mine zero = free_tie
start_tie true (suc zero) = standing_tie (standing_call true) refl
start_tie false (suc zero) = standing_tie (standing_call false) refl
start_tie mine (suc (suc i)) = free_tie

begun_end : (flow : Flow) (role : Role) (channels : ℕ) (standing : Bool) (s c cause : ℕ) → 1 ≤ c → c ≤ channels → ((start_end role channels flow standing).session ≡ Some s → ⊥) → start_history role standing s c ≡ new_history
    → EndTie flow role (start_end role channels flow standing) 0 s c begun_whole (Restart cause 0 ∷ [])
begun_end flow role channels standing s c cause lo hi never new = record {
  role_is = refl;
  window_is = refl;
  there = there_at role channels flow standing c lo hi;
  rest = Restart cause 0 ∷ [];
  out_is = refl;
  well = tt;
  within = omega arith;
  history = subst (λ (z : History). HistoryTie begun_whole z) (sym new) begun_history;
  settled = refl;
  frozen = λ k. tt;
  present = λ h. absurd (never h);
  still = λ lt h. refl;
}

standing_end : (flow : Flow) (channels : ℕ) (mine : Bool) (c : ℕ) → 1 ≤ c → c ≤ channels → EndTie flow (standing_role mine) (start_end (standing_role mine) channels flow true) 0 0 c (standing_whole (use_at mine c)) []
standing_end flow channels mine c lo hi = record {
  role_is = refl;
  window_is = refl;
  there = there_at (standing_role mine) channels flow true c lo hi;
  rest = [];
  out_is = refl;
  well = tt;
  within = omega arith;
  history = start_tie mine c;
  settled = tt;
  frozen = λ k. tt;
  present = λ h. record { phase_is = refl; owed = []; channel_is = standing_at mine channels c lo hi; plain = tt; restarts = tt; rest_is = λ r. refl };
  still = λ lt h. absurd (no_less lt);
}
  where
    no_less : 0 < 0 → ⊥
    no_less lt = omega arith

use_first : (flow : Flow) (c : ℕ) → flow.window < modulus flow.numbering → GoodCall flow Dte (record { me = use_at true c; you = use_at false c; out = []; back = [] })
use_first flow zero small = free_first flow Dte small
use_first flow (suc zero) small = open_first flow small
use_first flow (suc (suc i)) small = free_first flow Dte small

never_none : (s : ℕ) → None ≡ Some s → ⊥
never_none s e = cc

never_zero : (s : ℕ) → Some 0 ≡ Some (suc s) → ⊥
never_zero s e = cc

pub starts_tied : (channels : ℕ) (flow : Flow) (standing : Bool) (s c : ℕ) → flow.window < modulus flow.numbering → 1 ≤ c → c ≤ channels → Tied flow Dte (start_line channels flow standing) s c
starts_tied channels flow false s c small lo hi = record {
  x = begun_whole;
  y = begun_whole;
  o = Restart 0 0 ∷ [];
  b = Restart 7 0 ∷ [];
  good = restarts_first flow Dte 0 7 small;
  mine = begun_end flow Dte channels false s c 0 lo hi (never_none s) refl;
  yours = begun_end flow Dce channels false s c 7 lo hi (never_none s) refl;
}
starts_tied channels flow true zero c small lo hi = record {
  x = standing_whole (use_at true c);
  y = standing_whole (use_at false c);
  o = [];
  b = [];
  good = standing_first flow Dte (use_at true c) (use_at false c) small (use_first flow c small);
  mine = standing_end flow channels true c lo hi;
  yours = standing_end flow channels false c lo hi;
}
starts_tied channels flow true (suc s) c small lo hi = record {
  x = begun_whole;
  y = begun_whole;
  o = Restart 0 0 ∷ [];
  b = Restart 7 0 ∷ [];
  good = restarts_first flow Dte 0 7 small;
  mine = begun_end flow Dte channels true (suc s) c 0 lo hi (never_zero s) refl;
  yours = begun_end flow Dce channels true (suc s) c 7 lo hi (never_zero s) refl;
}
