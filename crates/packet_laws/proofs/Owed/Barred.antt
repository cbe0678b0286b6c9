-- The last packet on its way to an end may come to it: what the other end would have to hear first is not owed any more.
use Rattle.std.proofs.Common.{◌≡◌, ℕ, ◌+◌, ◌≤◌, Bool, true, false, ◌||◌, List, [], ◌∷◌, ◌++◌, Some, None, refl, sym, ap, subst, ◌∙◌, append-nil, arith, true≢false, inl, inr}
use Rattle.link_timers.specs.declared.role.Role.{Role}
use Rattle.link_timers.specs.declared.role.Role.TheVariants.{Dte, Dce}
use Rattle.link_timers.specs.Role.{other_of}
use Rattle.data_transfer.specs.declared.flow.Flow.{Flow}
use Rattle.data_transfer.specs.Packets.{CallParts, Body}
use Rattle.data_transfer.specs.Packets.Body.{Call, Accepted, Clear, ClearConfirmation, Data, Interrupt, InterruptConfirmation, ReceiveReady, ReceiveNotReady, Reset, ResetConfirmation, Restart, RestartConfirmation}
use Rattle.packet_channel.specs.Channel.{ChannelState}
use Rattle.packet_channel.specs.Channel.ChannelState.{Transfer}
use Rattle.packet_laws.proofs.Handshakes.Handshake.{Kind, AllPayload}
use Rattle.packet_laws.proofs.Handshakes.Handshake.Kind.{Payload, Request, Confirmation}
use Rattle.packet_laws.proofs.Call.SetUp.{Stage, Sort, sort, Pair, Passes, Path, Idle, flows}
use Rattle.packet_laws.proofs.Call.SetUp.Stage.{Free, Placed, Waiting, Collided, Open}
use Rattle.packet_laws.proofs.Call.SetUp.Sort.{Calling, Accepting, Flowing}
use Rattle.packet_laws.proofs.Call.OneEpoch.{one, Inner, begun_epoch}
use Rattle.packet_laws.proofs.Call.Delivery.{Agree}
use Rattle.packet_laws.proofs.Call.Levels.{restart_kind, clear_kind, reset_kind, Epochs, CallUse, Uses, Whole, first_epoch, first_call, first_use, GoodCall, GoodUses, GoodWhole, whole_ok, whole_heard}
use Rattle.packet_laws.proofs.Line.Stored.{stored, Settled, SettledUses, settled_uses}
use Rattle.packet_laws.proofs.Line.Agreement.{in_state}
use Rattle.packet_laws.proofs.Handshakes.Counting.{counted, handshake_count, handshake_count_append, on_the_way, inside}
use Rattle.packet_laws.proofs.Owed.MayCome.{is_accepted, has_accepted, resets, Comes, Fits, ended_none, one_small}

-- ---- lists

not_payload : Kind.Request ≡ Kind.Payload → ⊥
not_payload e = cc

not_payload' : Kind.Confirmation ≡ Kind.Payload → ⊥
not_payload' e = cc

none_payload : (kind : Body → Kind) (k : Kind) (t : Body) → kind t ≡ k → counted k ≡ 0 → k ≡ Payload
none_payload kind Payload t e z = refl
none_payload kind Request t e z = let no : ⊥ = omega arith in absurd no
none_payload kind Confirmation t e z = let no : ⊥ = omega arith in absurd no

all_payload : (kind : Body → Kind) (ts : List Body) → handshake_count kind ts ≡ 0 → AllPayload kind ts
all_payload kind [] e = tt
all_payload kind (t ∷ ts) e = (none_payload kind (kind t) t refl (omega arith), all_payload kind ts (omega arith))

accepted_end : (xs ys : List Body) → has_accepted (xs ++ ys) ≡ false → has_accepted ys ≡ false
accepted_end [] ys e = e
accepted_end (x ∷ xs) ys e = accepted_end xs ys (second (is_accepted x) (has_accepted (xs ++ ys)) e)
  where
    second : (u v : Bool) → (u || v) ≡ false → v ≡ false
    second true v p = absurd (true≢false p)
    second false v p = p

flow_resets : (ts : List Body) → handshake_count reset_kind (flows ts) ≡ handshake_count reset_kind ts
flow_resets [] = refl
flow_resets (Call p ∷ ts) = let h = flow_resets ts in omega arith
flow_resets (Accepted ∷ ts) = let h = flow_resets ts in omega arith
flow_resets (t ∷ ts) = ap (λ (n : ℕ). counted (reset_kind t) + n) (flow_resets ts)

-- ---- a clear, a call

-- a clear comes to an end that does not clear: no clear packet is on its way back
no_clear_owed : (flow : Flow) (role : Role) (x y : Uses) (keep owed : List Body) (b : Body) → GoodUses flow role (record { me = x; you = y; out = keep ++ owed; back = b ∷ [] }) → x.own ≡ false → clear_kind b ≡ Request → handshake_count clear_kind owed ≡ 0
no_clear_owed flow role x y keep owed b g ready k =
    let count = on_the_way clear_kind CallUse first_call (λ u. GoodCall flow role u) (record { me = x; you = y; out = keep ++ owed; back = b ∷ [] }) g in
    let here = ap (λ (q : Kind). counted q) k in
    let mine = ap (λ (q : Bool). one q) ready in
    let yours = one_small y.own in
    let parts = handshake_count_append clear_kind keep owed in
    omega arith

-- the ends of the call between which the packet is
in_the_use : (flow : Flow) (role : Role) (x y : Uses) (out : List Body) (b : Body) → GoodUses flow role (record { me = x; you = y; out = out; back = b ∷ [] }) → x.own ≡ false → clear_kind b ≡ Payload
    → (keep : List Body) × GoodCall flow role (record { me = x.now; you = y.now; out = keep ++ []; back = b ∷ [] })
in_the_use flow role x y out b g ready k =
    inside clear_kind CallUse first_call (λ u. GoodCall flow role u) x y out [] b
    (subst (λ (o : List Body). GoodUses flow role (record { me = x; you = y; out = o; back = b ∷ [] })) (sym (append-nil out)) g) ready k tt

some_none : (p : CallParts) → None ≡ Some p → ⊥
some_none p e = cc

call_of_none : (flow : Flow) (role : Role) (x y : CallUse) (out : List Body) (p : CallParts) → y ≡ first_call → GoodCall flow role (record { me = x; you = y; out = out; back = Call p ∷ [] }) → ⊥
call_of_none flow role x y out p e g = some_none p (sym (ap (λ (u : CallUse). u.placed) e) ∙ g.calls_you.0)

no_clear_before_call : (flow : Flow) (role : Role) (x y : Uses) (own : Bool) (keep owed : List Body) (p : CallParts) → GoodUses flow role (record { me = x; you = y; out = keep ++ owed; back = Call p ∷ [] }) → x.own ≡ false
    → y.own ≡ own → SettledUses own y.now → handshake_count clear_kind owed ≡ 0
no_clear_before_call flow role x y true keep owed p g ready e s =
    let u = in_the_use flow role x y (keep ++ owed) (Call p) g ready refl in
    absurd (call_of_none flow role x.now y.now (u.0 ++ []) p s u.1)
no_clear_before_call flow role x y false keep owed p g ready e s =
    let count = on_the_way clear_kind CallUse first_call (λ u. GoodCall flow role u) (record { me = x; you = y; out = keep ++ owed; back = Call p ∷ [] }) g in
    let mine = ap (λ (q : Bool). one q) ready in
    let yours = ap (λ (q : Bool). one q) e in
    let parts = handshake_count_append clear_kind keep owed in
    omega arith

-- ---- a reset

open_accepts_none : (r : Role) (x : Stage) (m : Bool) (ts : List Body) → Path r x (Open m) ts → has_accepted ts ≡ false
open_accepts_none r x m [] h = refl
open_accepts_none r x m (Call p ∷ ts) h = absurd h
open_accepts_none r x m (Accepted ∷ ts) h = absurd h
open_accepts_none r x m (t ∷ ts) h = open_accepts_none r x m ts h

flow_pair : (role : Role) (s : Stage) (m : Bool) (k : Sort) (b : Body) → k ≡ Flowing → Passes role k (Open m) (λ z. Pair role s z) → Pair role s (Open m)
flow_pair role s m Flowing b e h = h
flow_pair role s m Calling b e h = absurd cc
flow_pair role s m Accepting b e h = absurd cc

-- who has not opened the call sends nothing in it
accepted_counts : (rs : Bool) (o : List Body) → Fits Transfer rs o → resets o ≡ 0 → rs ≡ true → has_accepted o ≡ false
accepted_counts rs o (inl h) z e = h.no_acceptance
accepted_counts rs o (inr (t, (h, inl q))) z e =
    let a = h.counted in
    let b = ap (λ (v : Bool). one v) e in
    let c = ap (λ (l : List Body). resets l) q in
    let no : ⊥ = omega arith in absurd no
accepted_counts rs o (inr (t, (h, inr q))) z e =
    let a = h.counted in
    let b = ap (λ (v : Bool). one v) e in
    let c = ap (λ (l : List Body). resets l) q.1 in
    let no : ⊥ = omega arith in absurd no

abbrev NoReset : Bool → List Body → Type 0
NoReset rs o = (has_accepted o ≡ false) × (resets o ≤ one rs)

call_resets : (flow : Flow) (role : Role) (u v : CallUse) (m : Bool) (keep owed : List Body) (b : Body) → GoodCall flow role (record { me = u; you = v; out = keep ++ owed; back = b ∷ [] }) → sort b ≡ Flowing
    → handshake_count reset_kind (keep ++ owed) + counted (reset_kind b) ≡ one u.call.own + one v.call.own
call_resets flow role u v m keep owed b g is_flowing =
    let count = on_the_way reset_kind Inner begun_epoch (λ w. Agree flow w) (record { me = u.call; you = v.call; out = flows (keep ++ owed); back = flows (b ∷ []) }) g.call in
    let out = flow_resets (keep ++ owed) in
    let back = flow_resets (b ∷ []) in
    omega arith

-- the other end is in the call
no_reset_open : (flow : Flow) (role : Role) (u v : CallUse) (m m' : Bool) (keep owed : List Body) (b : Body) → GoodCall flow role (record { me = u; you = v; out = keep ++ owed; back = b ∷ [] })
    → sort b ≡ Flowing → counted (reset_kind b) ≡ 1 → Path (other_of role) u.stage (Open m') (keep ++ owed) → NoReset u.call.own owed
no_reset_open flow role u v m m' keep owed b g is_flowing one_more path =
    let count = call_resets flow role u v m keep owed b g is_flowing in
    let parts = handshake_count_append reset_kind keep owed in
    let yours = one_small v.call.own in
    (accepted_end keep owed (open_accepts_none (other_of role) u.stage m' (keep ++ owed) path), omega arith)

-- the other end has not opened the call
no_reset_idle : (flow : Flow) (role : Role) (u v : CallUse) (m rs : Bool) (keep owed : List Body) (b : Body) → GoodCall flow role (record { me = u; you = v; out = keep ++ owed; back = b ∷ [] })
    → sort b ≡ Flowing → counted (reset_kind b) ≡ 1 → u.call.own ≡ rs → Fits Transfer rs owed → v.call ≡ first_epoch → NoReset rs owed
no_reset_idle flow role u v m true keep owed b g is_flowing one_more e f idle =
    let count = call_resets flow role u v m keep owed b g is_flowing in
    let parts = handshake_count_append reset_kind keep owed in
    let mine = ap (λ (q : Bool). one q) e in
    let yours = ap (λ (q : Epochs). one q.own) idle in
    (accepted_counts true owed f (omega arith) refl, omega arith)
no_reset_idle flow role u v m false keep owed b g is_flowing one_more e f idle =
    let count = call_resets flow role u v m keep owed b g is_flowing in
    let mine = ap (λ (q : Bool). one q) e in
    let yours = ap (λ (q : Epochs). one q.own) idle in
    let no : ⊥ = omega arith in absurd no

no_reset_by : (flow : Flow) (role : Role) (u v : CallUse) (m rs : Bool) (s : Stage) (keep owed : List Body) (b : Body) → GoodCall flow role (record { me = u; you = v; out = keep ++ owed; back = b ∷ [] })
    → sort b ≡ Flowing → counted (reset_kind b) ≡ 1 → u.call.own ≡ rs → Fits Transfer rs owed → v.stage ≡ s → Pair role s (Open m) → NoReset rs owed
no_reset_by flow role u v m rs (Open m') keep owed b g is_flowing one_more e f st pair =
    subst (λ (q : Bool). NoReset q owed) e
    (no_reset_open flow role u v m m' keep owed b g is_flowing one_more (subst (λ (z : Stage). Path (other_of role) u.stage z (keep ++ owed)) st g.fore))
no_reset_by flow role u v m rs Placed keep owed b g is_flowing one_more e f st pair =
    no_reset_idle flow role u v m rs keep owed b g is_flowing one_more e f (subst (λ (z : Stage). Idle first_epoch z v.call) st g.idle_you)
no_reset_by flow role u v m rs Collided keep owed b g is_flowing one_more e f st pair =
    no_reset_idle flow role u v m rs keep owed b g is_flowing one_more e f (subst (λ (z : Stage). Idle first_epoch z v.call) st g.idle_you)
no_reset_by flow role u v m rs Free keep owed b g is_flowing one_more e f st pair = absurd pair
no_reset_by flow role u v m rs Waiting keep owed b g is_flowing one_more e f st pair = absurd pair

call_pair : (flow : Flow) (role : Role) (u v : CallUse) (m : Bool) (out : List Body) (b : Body) → GoodCall flow role (record { me = u; you = v; out = out; back = b ∷ [] }) → u.stage ≡ Open m → sort b ≡ Flowing → Pair role v.stage (Open m)
call_pair flow role u v m out b g st is_flowing =
    flow_pair role v.stage m (sort b) b is_flowing (subst (λ (z : Stage). Passes role (sort b) z (λ q. Pair role v.stage q)) st g.aft)

-- an end in its own clear sends nothing in a call
you_ready : (flow : Flow) (role : Role) (x y : Uses) (own m : Bool) (out : List Body) (b : Body) → GoodUses flow role (record { me = x; you = y; out = out; back = b ∷ [] }) → x.own ≡ false → x.now.stage ≡ Open m
    → y.own ≡ own → SettledUses own y.now → clear_kind b ≡ Payload → sort b ≡ Flowing → own ≡ false
you_ready flow role x y false m out b g ready st e s k is_flowing = refl
you_ready flow role x y true m out b g ready st e s k is_flowing =
    let u = in_the_use flow role x y out b g ready k in
    let p = call_pair flow role x.now y.now m (u.0 ++ []) b u.1 st is_flowing in
    absurd (subst (λ (q : CallUse). Pair role q.stage (Open m)) s p)

no_reset_owed : (flow : Flow) (role : Role) (x y : Uses) (m : Bool) (keep owed : List Body) (b : Body) → GoodUses flow role (record { me = x; you = y; out = keep ++ owed; back = b ∷ [] }) → x.own ≡ false → x.now.stage ≡ Open m
    → SettledUses y.own y.now → clear_kind b ≡ Payload → sort b ≡ Flowing → counted (reset_kind b) ≡ 1 → Fits Transfer x.now.call.own owed → NoReset x.now.call.own owed
no_reset_owed flow role x y m keep owed b g ready st s k is_flowing one_more f =
    let yours = ap (λ (q : Bool). one q) (you_ready flow role x y y.own m (keep ++ owed) b g ready st refl s k is_flowing) in
    let mine = ap (λ (q : Bool). one q) ready in
    let count = on_the_way clear_kind CallUse first_call (λ u. GoodCall flow role u) (record { me = x; you = y; out = keep ++ owed; back = b ∷ [] }) g in
    let parts = handshake_count_append clear_kind keep owed in
    let u = inside clear_kind CallUse first_call (λ w. GoodCall flow role w) x y keep owed b g ready k (all_payload clear_kind owed (omega arith)) in
    no_reset_by flow role x.now y.now m x.now.call.own y.now.stage u.0 owed b u.1 is_flowing one_more refl f refl (call_pair flow role x.now y.now m (u.0 ++ owed) b u.1 st is_flowing)

-- ---- the packet may come

abbrev Any : ChannelState → Bool → List Body → Type 0
Any s rs o = Unit {0}

abbrev MayCome : Role → Whole → List Body → Body → Type 0
MayCome role n owed b = Comes role (stored n).state (stored n).resetting owed b (λ s rs o. Any s rs o)

barred_at : (flow : Flow) (role : Role) (own : Bool) (s : Stage) (rs : Bool) (n : Whole) (y : Uses) (keep owed : List Body) (b : Body) → restart_kind b ≡ Payload → whole_ok flow role (in_state own s rs n) b
    → GoodUses flow role (record { me = (in_state own s rs n).now; you = y; out = keep ++ owed; back = b ∷ [] }) → SettledUses y.own y.now → Fits (stored (in_state own s rs n)).state (stored (in_state own s rs n)).resetting owed → MayCome role (in_state own s rs n) owed b
barred_at flow role true s rs n y keep owed (Clear c d) plain ok g z f = tt
barred_at flow role true s rs n y keep owed ClearConfirmation plain ok g z f = tt
barred_at flow role true s rs n y keep owed _ plain ok g z f = tt
barred_at flow role false Free rs n y keep owed (Call p) plain ok g z f = (ended_none owed f.1 (no_clear_before_call flow role (in_state false Free rs n).now y y.own keep owed p g refl refl z), tt)
barred_at flow role false Free rs n y keep owed (Clear c d) plain ok g z f = (ended_none owed f.1 (no_clear_owed flow role (in_state false Free rs n).now y keep owed (Clear c d) g refl refl), tt)
barred_at flow role false Free rs n y keep owed (Restart c d) plain ok g z f = absurd (not_payload plain)
barred_at flow role false Free rs n y keep owed RestartConfirmation plain ok g z f = absurd (not_payload' plain)
barred_at flow role false Free rs n y keep owed _ plain ok g z f = absurd ok
barred_at flow role false Placed rs n y keep owed (Call p) plain ok g z f = tt
barred_at flow role false Placed rs n y keep owed Accepted plain ok g z f = tt
barred_at flow role false Placed rs n y keep owed (Clear c d) plain ok g z f = tt
barred_at flow role false Placed rs n y keep owed (Restart c d) plain ok g z f = absurd (not_payload plain)
barred_at flow role false Placed rs n y keep owed RestartConfirmation plain ok g z f = absurd (not_payload' plain)
barred_at flow role false Placed rs n y keep owed _ plain ok g z f = absurd ok
barred_at flow role false Waiting rs n y keep owed (Clear c d) plain ok g z f = tt
barred_at flow role false Waiting rs n y keep owed (Restart c d) plain ok g z f = absurd (not_payload plain)
barred_at flow role false Waiting rs n y keep owed RestartConfirmation plain ok g z f = absurd (not_payload' plain)
barred_at flow Dte false Waiting rs n y keep owed Accepted plain ok g z f = absurd ok
barred_at flow Dce false Waiting rs n y keep owed Accepted plain ok g z f = absurd ok
barred_at flow role false Waiting rs n y keep owed _ plain ok g z f = absurd ok
barred_at flow Dte false Collided rs n y keep owed Accepted plain ok g z f = tt
barred_at flow Dce false Collided rs n y keep owed Accepted plain ok g z f = absurd ok
barred_at flow role false Collided rs n y keep owed (Clear c d) plain ok g z f = tt
barred_at flow role false Collided rs n y keep owed (Restart c d) plain ok g z f = absurd (not_payload plain)
barred_at flow role false Collided rs n y keep owed RestartConfirmation plain ok g z f = absurd (not_payload' plain)
barred_at flow role false Collided rs n y keep owed _ plain ok g z f = absurd ok
barred_at flow role false (Open m) rs n y keep owed (Clear c d) plain ok g z f = tt
barred_at flow role false (Open m) false n y keep owed (Reset c d) plain ok g z f =
    let q = no_reset_owed flow role (in_state false (Open m) false n).now y m keep owed (Reset c d) g refl refl z refl refl refl f in
    let few = q.1 in (q.0, omega arith, tt)
barred_at flow role false (Open m) true n y keep owed (Reset c d) plain ok g z f =
    let q = no_reset_owed flow role (in_state false (Open m) true n).now y m keep owed (Reset c d) g refl refl z refl refl refl f in (q.0, q.1, tt)
barred_at flow role false (Open m) true n y keep owed ResetConfirmation plain ok g z f =
    let q = no_reset_owed flow role (in_state false (Open m) true n).now y m keep owed ResetConfirmation g refl refl z refl refl refl f in (q.0, q.1, tt)
barred_at flow role false (Open m) rs n y keep owed (Data i j d) plain ok g z f = tt
barred_at flow role false (Open m) rs n y keep owed (Interrupt q) plain ok g z f = tt
barred_at flow role false (Open m) rs n y keep owed InterruptConfirmation plain ok g z f = tt
barred_at flow role false (Open m) rs n y keep owed (ReceiveReady i) plain ok g z f = tt
barred_at flow role false (Open m) rs n y keep owed (ReceiveNotReady i) plain ok g z f = tt
barred_at flow role false (Open m) rs n y keep owed (Restart c d) plain ok g z f = absurd (not_payload plain)
barred_at flow role false (Open m) rs n y keep owed RestartConfirmation plain ok g z f = absurd (not_payload' plain)
barred_at flow role false (Open m) false n y keep owed _ plain ok g z f = absurd ok
barred_at flow role false (Open m) true n y keep owed _ plain ok g z f = absurd ok

pub may_come : (flow : Flow) (role : Role) (x y : Whole) (front owed : List Body) (b : Body) → GoodWhole flow role (record { me = x; you = y; out = front ++ owed; back = b ∷ [] }) → x.own ≡ false → restart_kind b ≡ Payload
    → AllPayload restart_kind owed → Settled y → Fits (stored x).state (stored x).resetting owed → MayCome role x owed b
may_come flow role x y front owed b g ready plain all z f =
    let u = inside restart_kind Uses first_use (λ w. GoodUses flow role w) x y front owed b g ready plain all in
    let path : x ≡ record x { own = false } = ap (λ (o : Bool). record x { own = o }) ready in
    let ok = (whole_heard flow role (record { me = x; you = y; out = front ++ owed; back = [] }) b [] g).0 in
    subst (λ (n : Whole). MayCome role n owed b) (sym path)
    (barred_at flow role x.now.own x.now.now.stage x.now.now.call.own x y.now u.0 owed b plain (subst (λ (n : Whole). whole_ok flow role n b) path ok) u.1 (settled_uses y.own y.now z)
    (subst (λ (n : Whole). Fits (stored n).state (stored n).resetting owed) path f))
