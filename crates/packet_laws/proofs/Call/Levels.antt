-- A channel as handshakes within one another: restarts, in each the uses of the channel between clears, in each the set-up of a
-- call, in it the epochs between resets, in each the traffic.
use Rattle.std.proofs.Common.{◌≡◌, ℕ, Bool, true, false, List, [], ◌∷◌, ◌++◌, Option, Some, None, refl, sym, subst, append-nil}
use Rattle.link_timers.specs.declared.role.Role.{Role}
use Rattle.link_timers.specs.declared.role.Role.TheVariants.{Dte}
use Rattle.link_timers.specs.Role.{other_of}
use Rattle.data_transfer.specs.declared.flow.Flow.{Flow}
use Rattle.data_transfer.specs.Packets.{CallParts, Datum, Body}
use Rattle.data_transfer.specs.Packets.Body.{Call, Accepted, Clear, ClearConfirmation, Data, Interrupt, InterruptConfirmation, ReceiveReady, ReceiveNotReady, Reset, ResetConfirmation, Restart, RestartConfirmation}
use Rattle.data_transfer.specs.Traffic.{Traffic, Said, says, says_interrupt, says_data, says_flow, ready_or_not, window_open, flow_told}
use Rattle.data_transfer.specs.Flow.{shown}
use Rattle.packet_channel.specs.Channel as channel
use Rattle.packet_laws.proofs.Handshakes.Handshake.{Kind, Side, Two, Did, said, does, started, acted, advanced, side_hears, side_ok, Inv, AllPayload, SaysPayload, turned_two}
use Rattle.packet_laws.proofs.Handshakes.Handshake.Kind.{Payload, Request, Confirmation}
use Rattle.packet_laws.proofs.Handshakes.Keeping.{keeps_acts, keeps_begins, keeps_learns, keeps_hears, keeps_turned}
use Rattle.packet_laws.proofs.Call.SetUp.{Stage, Use, Sort, sort, unused, places, accepts_call, in_call, use_hears, use_ok, UseInv, SaysFlow}
use Rattle.packet_laws.proofs.Call.SetUp.Stage.{Free, Placed, Collided, Open}
use Rattle.packet_laws.proofs.Call.SetUp.Sort.{Calling, Accepting, Flowing}
use Rattle.packet_laws.proofs.Call.SettingUp.{Acceptable, setup_places, setup_accepts, setup_acts, setup_hears, setup_turned}
use Rattle.packet_laws.proofs.Call.OneEpoch.{Inner, begun_epoch, inner_hears, inner_ok, inner_says, inner_after, Askable}
use Rattle.packet_laws.proofs.Call.Saying.{by_cond}
use Rattle.packet_laws.proofs.Call.Delivery.{Agree, asks, says_on, hears_on, agree_turned}

abbrev pub restart_kind : Body → Kind
restart_kind (Restart c d) = Request
restart_kind RestartConfirmation = Confirmation
restart_kind _ = Payload

abbrev pub clear_kind : Body → Kind
clear_kind (Clear c d) = Request
clear_kind ClearConfirmation = Confirmation
clear_kind _ = Payload

abbrev pub reset_kind : Body → Kind
reset_kind (Reset c d) = Request
reset_kind ResetConfirmation = Confirmation
reset_kind _ = Payload

abbrev pub Epochs : Type 0
Epochs = Side Inner

abbrev pub CallUse : Type 0
CallUse = Use Epochs

abbrev pub Uses : Type 0
Uses = Side CallUse

abbrev pub Whole : Type 0
Whole = Side Uses

abbrev pub first_epoch : Epochs
first_epoch = started false begun_epoch

abbrev pub first_call : CallUse
first_call = unused first_epoch

abbrev pub first_use : Uses
first_use = started false first_call

abbrev pub begun_whole : Whole
begun_whole = started true first_use

-- ---- what is heard

abbrev pub epochs_hear : Flow → Epochs → Body → Did Epochs
epochs_hear flow e b = side_hears ResetConfirmation begun_epoch (λ i t. inner_hears flow i t) (reset_kind b) e.own e b

abbrev pub epochs_ok : Flow → Epochs → Body → Type 0
epochs_ok flow e b = side_ok (λ i t. inner_ok flow i t) (reset_kind b) e.own e b

abbrev pub call_hears : Flow → Role → CallUse → Body → Did CallUse
call_hears flow role u b = use_hears role first_epoch (λ e t. epochs_hear flow e t) (sort b) u.stage u b

abbrev pub call_ok : Flow → Role → CallUse → Body → Type 0
call_ok flow role u b = use_ok (λ e t. epochs_ok flow e t) role (sort b) u.stage u b

abbrev pub uses_hear : Flow → Role → Uses → Body → Did Uses
uses_hear flow role s b = side_hears ClearConfirmation first_call (λ u t. call_hears flow role u t) (clear_kind b) s.own s b

abbrev pub uses_ok : Flow → Role → Uses → Body → Type 0
uses_ok flow role s b = side_ok (λ u t. call_ok flow role u t) (clear_kind b) s.own s b

abbrev pub whole_hears : Flow → Role → Whole → Body → Did Whole
whole_hears flow role n b = side_hears RestartConfirmation first_use (λ s t. uses_hear flow role s t) (restart_kind b) n.own n b

abbrev pub whole_ok : Flow → Role → Whole → Body → Type 0
whole_ok flow role n b = side_ok (λ s t. uses_ok flow role s t) (restart_kind b) n.own n b

-- ---- what holds

abbrev pub GoodEpochs : Flow → Two Epochs → Type 0
GoodEpochs flow v = Inv reset_kind Inner begun_epoch (λ u. Agree flow u) v

abbrev pub GoodCall : Flow → Role → Two CallUse → Type 0
GoodCall flow role v = UseInv Epochs first_epoch (λ u. GoodEpochs flow u) role v

abbrev pub GoodUses : Flow → Role → Two Uses → Type 0
GoodUses flow role v = Inv clear_kind CallUse first_call (λ u. GoodCall flow role u) v

abbrev pub GoodWhole : Flow → Role → Two Whole → Type 0
GoodWhole flow role v = Inv restart_kind Uses first_use (λ u. GoodUses flow role u) v

-- ---- what is said is payload for the levels above

side_says : {I : Type 0} → (P : Option Body → Type 0) (conf : Body) (start : I) (hear : I → Body → Did I) → P None → P (Some conf) → ((e : I) (b : Body) → P (hear e b).says)
    → (k : Kind) (own : Bool) (s : Side I) (t : Body) → P (side_hears conf start hear k own s t).says
side_says P conf start hear none one inside Payload true s t = none
side_says P conf start hear none one inside Payload false s t = inside s.now t
side_says P conf start hear none one inside Request true s t = none
side_says P conf start hear none one inside Request false s t = one
side_says P conf start hear none one inside Confirmation true s t = none
side_says P conf start hear none one inside Confirmation false s t = none

use_says : (P : Option Body → Type 0) (role : Role) (hear : Epochs → Body → Did Epochs) → P None → ((e : Epochs) (b : Body) → P (hear e b).says)
    → (k : Sort) (st : Stage) (u : CallUse) (t : Body) → P (use_hears role first_epoch hear k st u t).says
use_says P role hear none inside Calling Free u t = none
use_says P role hear none inside Calling Placed u t = none
use_says P role hear none inside Accepting Placed u t = none
use_says P Dte hear none inside Accepting Collided u t = none
use_says P role hear none inside Flowing (Open mine) u t = inside u.call t
use_says P role hear none inside _ st u t = none

epochs_say : (P : Option Body → Type 0) → P None → P (Some ResetConfirmation) → (flow : Flow) (e : Epochs) (b : Body) → P (epochs_hear flow e b).says
epochs_say P none one flow e b = side_says P ResetConfirmation begun_epoch (λ i t. inner_hears flow i t) none one (λ i t. none) (reset_kind b) e.own e b

call_says : (P : Option Body → Type 0) → P None → P (Some ResetConfirmation) → (flow : Flow) (role : Role) (u : CallUse) (b : Body) → P (call_hears flow role u b).says
call_says P none one flow role u b = use_says P role (λ e t. epochs_hear flow e t) none (λ e t. epochs_say P none one flow e t) (sort b) u.stage u b

pub uses_say : (P : Option Body → Type 0) → P None → P (Some ResetConfirmation) → P (Some ClearConfirmation) → (flow : Flow) (role : Role) (s : Uses) (b : Body) → P (uses_hear flow role s b).says
uses_say P none one two flow role s b = side_says P ClearConfirmation first_call (λ u t. call_hears flow role u t) none two (λ u t. call_says P none one flow role u t) (clear_kind b) s.own s b

-- ---- a packet is heard

epochs_heard : (flow : Flow) (v : Two Epochs) (t : Body) (ts : List Body) → GoodEpochs flow (record v { back = t ∷ ts }) → epochs_ok flow v.me t × GoodEpochs flow (does (record v { back = ts }) (epochs_hear flow v.me t))
epochs_heard flow v t ts i = keeps_hears reset_kind Inner begun_epoch (λ u. Agree flow u) ResetConfirmation refl (λ i t. inner_hears flow i t) (λ i t. inner_ok flow i t) (λ e b. tt) (λ u b bs g. hears_on flow u b bs g) v t ts i

call_heard : (flow : Flow) (role : Role) (v : Two CallUse) (t : Body) (ts : List Body) → GoodCall flow role (record v { back = t ∷ ts }) → call_ok flow role v.me t × GoodCall flow role (does (record v { back = ts }) (call_hears flow role v.me t))
call_heard flow role v t ts i = setup_hears Epochs first_epoch (λ u. GoodEpochs flow u) role (λ e t. epochs_hear flow e t) (λ e t. epochs_ok flow e t) (λ e b. epochs_say (λ o. SaysFlow o) tt refl flow e b) (λ u b bs g. epochs_heard flow u b bs g) v t ts i

uses_heard : (flow : Flow) (role : Role) (v : Two Uses) (t : Body) (ts : List Body) → GoodUses flow role (record v { back = t ∷ ts }) → uses_ok flow role v.me t × GoodUses flow role (does (record v { back = ts }) (uses_hear flow role v.me t))
uses_heard flow role v t ts i = keeps_hears clear_kind CallUse first_call (λ u. GoodCall flow role u) ClearConfirmation refl (λ u t. call_hears flow role u t) (λ u t. call_ok flow role u t) (λ u b. call_says (λ o. SaysPayload clear_kind o) tt refl flow role u b) (λ u b bs g. call_heard flow role u b bs g) v t ts i

pub whole_heard : (flow : Flow) (role : Role) (v : Two Whole) (t : Body) (ts : List Body) → GoodWhole flow role (record v { back = t ∷ ts }) → whole_ok flow role v.me t × GoodWhole flow role (does (record v { back = ts }) (whole_hears flow role v.me t))
whole_heard flow role v t ts i = keeps_hears restart_kind Uses first_use (λ u. GoodUses flow role u) RestartConfirmation refl (λ s t. uses_hear flow role s t) (λ s t. uses_ok flow role s t) (λ s b. uses_say (λ o. SaysPayload restart_kind o) tt refl refl flow role s b) (λ u b bs g. uses_heard flow role u b bs g) v t ts i

-- ---- what an end does by itself

-- in a use of the channel
abbrev pub in_use : Did CallUse → Whole → Did Whole
in_use d n = acted (acted d n.now) n

pub whole_in_use : (flow : Flow) (role : Role) (w : Two Whole) (d : Did CallUse) → SaysPayload clear_kind d.says → SaysPayload restart_kind d.says
    → ((z : CallUse) (o l : List Body) → GoodCall flow role (record { me = w.me.now.now; you = z; out = o; back = l }) → GoodCall flow role (record { me = d.end_; you = z; out = said d.says o; back = l }))
    → GoodWhole flow role w → GoodWhole flow role (does w (in_use d w.me))
whole_in_use flow role w d c r keeps i =
    keeps_acts restart_kind Uses first_use (λ u. GoodUses flow role u) w (acted d w.me.now) r
    (λ z o l g. keeps_acts clear_kind CallUse first_call (λ u. GoodCall flow role u) (record { me = w.me.now; you = z; out = o; back = l }) d c keeps g) i

pub whole_places : (flow : Flow) (role : Role) (parts : CallParts) (w : Two Whole) → w.me.now.now.stage ≡ Free → GoodWhole flow role w → GoodWhole flow role (does w (in_use (places parts w.me.now.now) w.me))
whole_places flow role parts w free i =
    whole_in_use flow role w (places parts w.me.now.now) refl refl (λ z o l g. setup_places Epochs first_epoch (λ u. GoodEpochs flow u) role parts (record { me = w.me.now.now; you = z; out = o; back = l }) free g) i

pub whole_accepts : (flow : Flow) (role : Role) (w : Two Whole) → Acceptable role w.me.now.now.stage → GoodWhole flow role w → GoodWhole flow role (does w (in_use (accepts_call first_epoch w.me.now.now) w.me))
whole_accepts flow role w a i =
    whole_in_use flow role w (accepts_call first_epoch w.me.now.now) refl refl (λ z o l g. setup_accepts Epochs first_epoch (λ u. GoodEpochs flow u) role (record { me = w.me.now.now; you = z; out = o; back = l }) a g) i

-- in a call
abbrev pub in_the_call : Did Epochs → Whole → Did Whole
in_the_call d n = in_use (in_call d n.now.now) n

pub whole_in_call : (flow : Flow) (role : Role) (m : Bool) (w : Two Whole) (d : Did Epochs) → w.me.now.now.stage ≡ Open m → SaysFlow d.says → SaysPayload clear_kind d.says → SaysPayload restart_kind d.says
    → ((z : Epochs) (o l : List Body) → GoodEpochs flow (record { me = w.me.now.now.call; you = z; out = o; back = l }) → GoodEpochs flow (record { me = d.end_; you = z; out = said d.says o; back = l }))
    → GoodWhole flow role w → GoodWhole flow role (does w (in_the_call d w.me))
whole_in_call flow role m w d stage f c r keeps i =
    whole_in_use flow role w (in_call d w.me.now.now) c r
    (λ z o l g. setup_acts Epochs first_epoch (λ u. GoodEpochs flow u) role m d (record { me = w.me.now.now; you = z; out = o; back = l }) stage f keeps g) i

-- in an epoch
abbrev pub in_the_epoch : Did Inner → Whole → Did Whole
in_the_epoch d n = in_the_call (acted d n.now.now.call) n

abbrev pub asked_inner : channel.Request → Inner → Did Inner
asked_inner r i = record { end_ = inner_after r i; says = None }

pub whole_asked : (flow : Flow) (role : Role) (m : Bool) (r : channel.Request) (w : Two Whole) → w.me.now.now.stage ≡ Open m → Askable r w.me.now.now.call.now → GoodWhole flow role w → GoodWhole flow role (does w (in_the_epoch (asked_inner r w.me.now.now.call.now) w.me))
whole_asked flow role m r w stage a i =
    whole_in_call flow role m w (acted (asked_inner r w.me.now.now.call.now) w.me.now.now.call) stage tt tt tt
    (λ z o l g. keeps_acts reset_kind Inner begun_epoch (λ u. Agree flow u) (record { me = w.me.now.now.call; you = z; out = o; back = l }) (asked_inner r w.me.now.now.call.now) tt
    (λ y p q h. asks flow r w.me.now.now.call.now y p q a h) g) i

-- what traffic says
abbrev pub IsTraffic : Option Body → Type 0
IsTraffic None = Unit {0}
IsTraffic (Some (Data s r d)) = Unit {0}
IsTraffic (Some (Interrupt o)) = Unit {0}
IsTraffic (Some InterruptConfirmation) = Unit {0}
IsTraffic (Some (ReceiveReady r)) = Unit {0}
IsTraffic (Some (ReceiveNotReady r)) = Unit {0}
IsTraffic _ = ⊥

ready_is : (b : Bool) (n : ℕ) → IsTraffic (Some (ready_or_not b n))
ready_is true n = tt
ready_is false n = tt

flow_is : (flow : Flow) (t : Traffic) → IsTraffic (says_flow flow t).body
flow_is flow t = by_cond (λ (s : Said). IsTraffic s.body) (flow_told t) _ _ (λ e. tt) (λ e. ready_is t.stopped (shown flow.numbering t.released))

data_is : (flow : Flow) (ds : List Datum) (t : Traffic) → IsTraffic (says_data flow ds t).body
data_is flow [] t = flow_is flow t
data_is flow (d ∷ ds) t = by_cond (λ (s : Said). IsTraffic s.body) (window_open flow t) _ _ (λ e. tt) (λ e. flow_is flow t)

interrupt_is : (flow : Flow) (q : Option (List ℕ)) (t : Traffic) → IsTraffic (says_interrupt flow q t).body
interrupt_is flow (Some o) t = tt
interrupt_is flow None t = data_is flow t.waiting t

pub traffic_is : (flow : Flow) (t : Traffic) → IsTraffic (says flow t).body
traffic_is flow t = by_cond (λ (s : Said). IsTraffic s.body) t.confirmation_due _ _ (λ e. tt) (λ e. interrupt_is flow t.interrupt_waiting t)

traffic_reset : (o : Option Body) → IsTraffic o → SaysPayload reset_kind o
traffic_reset None h = tt
traffic_reset (Some (Reset c d)) h = absurd h
traffic_reset (Some ResetConfirmation) h = absurd h
traffic_reset (Some _) h = refl

traffic_clear : (o : Option Body) → IsTraffic o → SaysPayload clear_kind o
traffic_clear None h = tt
traffic_clear (Some (Clear c d)) h = absurd h
traffic_clear (Some ClearConfirmation) h = absurd h
traffic_clear (Some _) h = refl

pub traffic_restart : (o : Option Body) → IsTraffic o → SaysPayload restart_kind o
traffic_restart None h = tt
traffic_restart (Some (Restart c d)) h = absurd h
traffic_restart (Some RestartConfirmation) h = absurd h
traffic_restart (Some _) h = refl

traffic_flow : (o : Option Body) → IsTraffic o → SaysFlow o
traffic_flow None h = tt
traffic_flow (Some (Call p)) h = absurd h
traffic_flow (Some Accepted) h = absurd h
traffic_flow (Some _) h = refl

pub whole_says : (flow : Flow) (role : Role) (m : Bool) (w : Two Whole) → w.me.now.now.stage ≡ Open m → GoodWhole flow role w → GoodWhole flow role (does w (in_the_epoch (inner_says flow w.me.now.now.call.now) w.me))
whole_says flow role m w stage i =
    let e : Inner = w.me.now.now.call.now in
    let is : IsTraffic (inner_says flow e).says = traffic_is flow e.traffic in
    whole_in_call flow role m w (acted (inner_says flow e) w.me.now.now.call) stage (traffic_flow (inner_says flow e).says is) (traffic_clear (inner_says flow e).says is) (traffic_restart (inner_says flow e).says is)
    (λ z o l g. keeps_acts reset_kind Inner begun_epoch (λ u. Agree flow u) (record { me = w.me.now.now.call; you = z; out = o; back = l }) (inner_says flow e) (traffic_reset (inner_says flow e).says is)
    (λ y p q h. says_on flow e y p q h) g) i

-- a reset, a clear
abbrev pub begins_reset : ℕ → ℕ → Epochs → Did Epochs
begins_reset cause diagnostic e = record { end_ = advanced begun_epoch true e; says = Some (Reset cause diagnostic) }

open_end : (kind : Body → Kind) (I : Type 0) (start : I) (Good : Two I → Type 0) (x y : Side I) (o l : List Body) → Inv kind I start Good (record { me = x; you = y; out = o; back = l }) → Inv kind I start Good (record { me = x; you = y; out = o ++ []; back = l })
open_end kind I start Good x y o l i = subst (λ (p : List Body). Inv kind I start Good (record { me = x; you = y; out = p; back = l })) (sym (append-nil o)) i

pub whole_resets : (flow : Flow) (role : Role) (m : Bool) (cause diagnostic : ℕ) (w : Two Whole) → w.me.now.now.stage ≡ Open m → w.me.now.now.call.own ≡ false → GoodWhole flow role w → GoodWhole flow role (does w (in_the_call (begins_reset cause diagnostic w.me.now.now.call) w.me))
whole_resets flow role m cause diagnostic w stage ready i =
    whole_in_call flow role m w (begins_reset cause diagnostic w.me.now.now.call) stage refl refl refl
    (λ z o l g. keeps_begins reset_kind Inner begun_epoch (λ u. Agree flow u) (Reset cause diagnostic) refl w.me.now.now.call z o [] l tt ready
    (open_end reset_kind Inner begun_epoch (λ u. Agree flow u) w.me.now.now.call z o l g)) i

abbrev pub begins_clear : ℕ → ℕ → Uses → Did Uses
begins_clear cause diagnostic s = record { end_ = advanced first_call true s; says = Some (Clear cause diagnostic) }

abbrev pub in_uses : Did Uses → Whole → Did Whole
in_uses d n = acted d n

pub whole_clears : (flow : Flow) (role : Role) (cause diagnostic : ℕ) (w : Two Whole) → w.me.now.own ≡ false → GoodWhole flow role w → GoodWhole flow role (does w (in_uses (begins_clear cause diagnostic w.me.now) w.me))
whole_clears flow role cause diagnostic w ready i =
    keeps_acts restart_kind Uses first_use (λ u. GoodUses flow role u) w (begins_clear cause diagnostic w.me.now) refl
    (λ z o l g. keeps_begins clear_kind CallUse first_call (λ u. GoodCall flow role u) (Clear cause diagnostic) refl w.me.now z o [] l tt ready
    (open_end clear_kind CallUse first_call (λ u. GoodCall flow role u) w.me.now z o l g)) i

-- a restart begun, a restart learnt: what the channel owes is dropped
pub whole_restarts : (flow : Flow) (role : Role) (cause diagnostic : ℕ) (x y : Whole) (keep cut back : List Body) → AllPayload restart_kind cut → x.own ≡ false
    → GoodWhole flow role (record { me = x; you = y; out = keep ++ cut; back = back })
    → GoodWhole flow role (record { me = advanced first_use true x; you = y; out = keep ++ Restart cause diagnostic ∷ []; back = back })
whole_restarts flow role cause diagnostic x y keep cut back pay ready i = keeps_begins restart_kind Uses first_use (λ u. GoodUses flow role u) (Restart cause diagnostic) refl x y keep cut back pay ready i

pub whole_learns : (flow : Flow) (role : Role) (cause diagnostic : ℕ) (x y : Whole) (keep cut ts : List Body) → AllPayload restart_kind cut → x.own ≡ false
    → GoodWhole flow role (record { me = x; you = y; out = keep ++ cut; back = Restart cause diagnostic ∷ ts })
    → GoodWhole flow role (record { me = advanced first_use false x; you = y; out = keep ++ RestartConfirmation ∷ []; back = ts })
whole_learns flow role cause diagnostic x y keep cut ts pay ready i = keeps_learns restart_kind Uses first_use (λ u. GoodUses flow role u) RestartConfirmation (Restart cause diagnostic) refl refl x y keep cut ts pay ready i

-- ---- both ends look at it alike

epochs_turned : (flow : Flow) (v : Two Epochs) → GoodEpochs flow v → GoodEpochs flow (turned_two v)
epochs_turned flow v i = keeps_turned reset_kind Inner begun_epoch (λ u. Agree flow u) (λ u. Agree flow u) (λ u a. agree_turned flow u.me u.you u.out u.back a) v i

call_turned : (flow : Flow) (role : Role) (v : Two CallUse) → GoodCall flow role v → GoodCall flow (other_of role) (turned_two v)
call_turned flow role v i = setup_turned Epochs first_epoch (λ u. GoodEpochs flow u) (λ u. GoodEpochs flow u) (λ u g. epochs_turned flow u g) role v i

uses_turned : (flow : Flow) (role : Role) (v : Two Uses) → GoodUses flow role v → GoodUses flow (other_of role) (turned_two v)
uses_turned flow role v i = keeps_turned clear_kind CallUse first_call (λ u. GoodCall flow role u) (λ u. GoodCall flow (other_of role) u) (λ u g. call_turned flow role u g) v i

pub whole_turned : (flow : Flow) (role : Role) (v : Two Whole) → GoodWhole flow role v → GoodWhole flow (other_of role) (turned_two v)
whole_turned flow role v i = keeps_turned restart_kind Uses first_use (λ u. GoodUses flow role u) (λ u. GoodUses flow (other_of role) u) (λ u g. uses_turned flow role u g) v i
