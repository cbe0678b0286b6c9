-- A step of a channel leaves numbers that name the counts of the epoch that the step makes of its epoch.
use Rattle.std.proofs.Common.{◌≡◌, ℕ, ◌<◌, Bool, true, false, not, List, [], ◌∷◌, ◌++◌, Option, Some, None, refl, sym, subst, ◌∙◌, true≢false}
use Rattle.std.proofs.lemmas.Option.{none-some}
use Rattle.link_timers.specs.declared.role.Role.{Role}
use Rattle.link_timers.specs.declared.role.Role.TheVariants.{Dte, Dce}
use Rattle.packet_codec.specs.ClearCause as clear_cause
use Rattle.packet_codec.specs.ResetCause as reset_cause
use Rattle.data_transfer.specs.Flow.{modulus}
use Rattle.data_transfer.specs.declared.flow.Flow.{Flow}
use Rattle.data_transfer.specs.Packets.{CallParts, Body}
use Rattle.data_transfer.specs.Packets.Body.{Call, Accepted, Clear, ClearConfirmation, Data, Interrupt, InterruptConfirmation, ReceiveReady, ReceiveNotReady, Reset, ResetConfirmation}
use Rattle.data_transfer.specs.Traffic.{Traffic, fresh, Heard, hears}
use Rattle.data_transfer.specs.Traffic.Heard.{Keeps, Confirms, Wrong}
use Rattle.packet_channel.specs.Channel.{ChannelState, Channel, Step, Request, Refusal, closed_channel, clear_error, reset_error, error_cause, far_cleared, after_heard, in_flow_ready, in_own_reset, in_ready, in_own_waiting, in_far_waiting, in_collision, in_own_clear, received_in, received, unreadable_in, unreadable, in_transfer, is_ready, refused_if, refusal, carried_out, unless, requested, traffic_after, owing, with_owed, is_full, placing}
use Rattle.packet_channel.specs.Channel.ChannelState.{Ready, OwnWaiting, FarWaiting, Transfer, Collision, OwnClear}
use Rattle.packet_channel.specs.Channel.Request.{Accept, Clearing, Resetting, Sending, Interrupting, Stopping, Taking, Releasing, Confirming}
use Rattle.packet_laws.specs.History.{Epoch, empty_epoch, logged, logged_heard}
use Rattle.packet_laws.specs.Counts.{NamesAfter}
use Rattle.packet_laws.specs.Readable.{Every}
use Rattle.packet_laws.proofs.Naming.{counts_hold}
use Rattle.packet_laws.proofs.Call.Saying.{by_cond}
use Rattle.packet_laws.specs.Layers.Epochs.{begun_by, grown_unless, grown_by, after_request, after_packet, after_unreadable}
use Rattle.packet_laws.specs.Layers.Counts.{HasNoNumber, Counts, Agrees}

abbrev pub channel_in : ChannelState → Bool → List Body → Traffic → Channel
channel_in s rs o t = record { state = s; resetting = rs; owed = o; traffic = t }

-- the channel after a step agrees with what the step makes of this epoch
abbrev pub StepAgrees : Flow → Step → Epoch → Type 0
StepAgrees flow st e = Agrees flow (owing st) (begun_by st.owes e)

-- ---- what is owed

every_push : {A : Type 0} (P : A → Type 0) (xs : List A) (x : A) → Every P xs → P x → Every P (xs ++ x ∷ [])
every_push P [] x all p = (p, tt)
every_push P (y ∷ ys) x all p = (all.0, every_push P ys x all.1 p)

pub owed_controls : (o : List Body) (b : Body) → Every HasNoNumber o → HasNoNumber b → Every HasNoNumber (with_owed o (Some b))
owed_controls o b all p = by_cond (λ (x : List Body). Every HasNoNumber x) (is_full o) _ _ (λ h. all) (λ h. every_push HasNoNumber o b all p)

-- ---- epochs that begin

pub closed_agrees : (flow : Flow) → Agrees flow closed_channel empty_epoch
closed_agrees flow = record {
  names = counts_hold.begins flow;
  unused = λ out. record { epoch = refl; traffic = refl; not_resetting = refl };
  controls = tt;
}

-- a call ends
ends : (flow : Flow) (s : ChannelState) (o : List Body) (b : Body) → Every HasNoNumber o → HasNoNumber b → Counts flow s false (with_owed o (Some b)) fresh empty_epoch
ends flow s o b all p = record {
  names = counts_hold.begins flow;
  unused = λ out. record { epoch = refl; traffic = refl; not_resetting = refl };
  controls = owed_controls o b all p;
}

-- a reset, in data transfer
renews : (flow : Flow) (s : ChannelState) (rs : Bool) (o : List Body) (b : Body) → in_transfer s ≡ true → Every HasNoNumber o → HasNoNumber b → Counts flow s rs (with_owed o (Some b)) fresh empty_epoch
renews flow s rs o b t all p = record {
  names = counts_hold.begins flow;
  unused = λ out. absurd (true≢false (sym t ∙ out));
  controls = owed_controls o b all p;
}

pub clears : (role : Role) (flow : Flow) (c diagnostic : ℕ) (had : Bool) (ch : Channel) (e : Epoch) → Every HasNoNumber ch.owed → StepAgrees flow (clear_error role c diagnostic had ch) e
clears role flow c diagnostic had ch e all = ends flow OwnClear ch.owed (Clear (error_cause role clear_cause.local_procedure_error) diagnostic) all tt

is_cleared : (flow : Flow) (c cause diagnostic : ℕ) (ch : Channel) (e : Epoch) → Every HasNoNumber ch.owed → StepAgrees flow (far_cleared c cause diagnostic ch) e
is_cleared flow c cause diagnostic ch e all = ends flow Ready ch.owed ClearConfirmation all tt

resets : (role : Role) (flow : Flow) (c diagnostic : ℕ) (ch : Channel) (e : Epoch) → in_transfer ch.state ≡ true → Every HasNoNumber ch.owed → StepAgrees flow (reset_error role c diagnostic ch) e
resets role flow c diagnostic ch e t all = renews flow ch.state true ch.owed (Reset (error_cause role reset_cause.local_procedure_error) diagnostic) t all tt

-- ---- a channel out of data transfer comes to another state

pub goes_to : (flow : Flow) (s : ChannelState) (s' : ChannelState) (rs : Bool) (o : List Body) (t : Traffic) (e : Epoch) → in_transfer s ≡ false → Counts flow s rs o t e → Counts flow s' rs o t e
goes_to flow s s' rs o t e out k = record { names = k.names; unused = λ out'. k.unused out; controls = k.controls }

-- and owes a packet
owes : (flow : Flow) (s : ChannelState) (rs : Bool) (o : List Body) (t : Traffic) (e : Epoch) (b : Body) → HasNoNumber b → Counts flow s rs o t e → Counts flow s rs (with_owed o (Some b)) t e
owes flow s rs o t e b p k = record { names = k.names; unused = k.unused; controls = owed_controls o b k.controls p }

-- an unused one has begun its epoch
begins : (flow : Flow) (s : ChannelState) (rs : Bool) (o : List Body) (t : Traffic) (e : Epoch) → in_transfer s ≡ false → Counts flow s rs o t e → Counts flow s rs o t empty_epoch
begins flow s rs o t e out k = subst (λ (x : Epoch). Counts flow s rs o t x) (k.unused out).epoch k

-- ---- packets from the link

abbrev Received : Role → Flow → ℕ → ChannelState → Bool → List Body → Traffic → Epoch → Body → Step → Type 0
Received role flow c s rs o t e b st = Counts flow s rs o t e → StepAgrees flow st (grown_by s rs (hears flow t b) e)

in_p1 : (role : Role) (flow : Flow) (c : ℕ) (rs : Bool) (o : List Body) (t : Traffic) (e : Epoch) (b : Body) → Received role flow c Ready rs o t e b (in_ready role c (channel_in Ready rs o t) b)
in_p1 role flow c rs o t e (Call parts) k = goes_to flow Ready FarWaiting rs o t e refl k
in_p1 role flow c rs o t e (Clear cause diagnostic) k = owes flow Ready rs o t empty_epoch ClearConfirmation tt (begins flow Ready rs o t e refl k)
in_p1 role flow c rs o t e _ k = clears role flow c _ false (channel_in Ready rs o t) e k.controls

in_p2 : (role : Role) (flow : Flow) (c : ℕ) (rs : Bool) (o : List Body) (t : Traffic) (e : Epoch) (b : Body) → Received role flow c OwnWaiting rs o t e b (in_own_waiting role c (channel_in OwnWaiting rs o t) b)
in_p2 role flow c rs o t e Accepted k = goes_to flow OwnWaiting Transfer rs o t e refl k
in_p2 role flow c rs o t e (Call parts) k = goes_to flow OwnWaiting Collision rs o t e refl k
in_p2 role flow c rs o t e (Clear cause diagnostic) k = is_cleared flow c cause diagnostic (channel_in OwnWaiting rs o t) e k.controls
in_p2 role flow c rs o t e _ k = clears role flow c _ true (channel_in OwnWaiting rs o t) e k.controls

in_p3 : (role : Role) (flow : Flow) (c : ℕ) (rs : Bool) (o : List Body) (t : Traffic) (e : Epoch) (b : Body) → Received role flow c FarWaiting rs o t e b (in_far_waiting role c (channel_in FarWaiting rs o t) b)
in_p3 role flow c rs o t e (Clear cause diagnostic) k = is_cleared flow c cause diagnostic (channel_in FarWaiting rs o t) e k.controls
in_p3 role flow c rs o t e _ k = clears role flow c _ true (channel_in FarWaiting rs o t) e k.controls

in_p5 : (role : Role) (flow : Flow) (c : ℕ) (rs : Bool) (o : List Body) (t : Traffic) (e : Epoch) (b : Body) → Received role flow c Collision rs o t e b (in_collision role c (channel_in Collision rs o t) b)
in_p5 Dte flow c rs o t e Accepted k = goes_to flow Collision Transfer rs o t e refl k
in_p5 role flow c rs o t e (Clear cause diagnostic) k = is_cleared flow c cause diagnostic (channel_in Collision rs o t) e k.controls
in_p5 Dce flow c rs o t e _ k = clears Dce flow c _ true (channel_in Collision rs o t) e k.controls
in_p5 Dte flow c rs o t e _ k = clears Dte flow c _ true (channel_in Collision rs o t) e k.controls

in_p6 : (role : Role) (flow : Flow) (c : ℕ) (rs : Bool) (o : List Body) (t : Traffic) (e : Epoch) (b : Body) → Received role flow c OwnClear rs o t e b (in_own_clear (channel_in OwnClear rs o t) b)
in_p6 role flow c rs o t e (Clear cause diagnostic) k = goes_to flow OwnClear Ready rs o t e refl k
in_p6 role flow c rs o t e ClearConfirmation k = goes_to flow OwnClear Ready rs o t e refl k
in_p6 role flow c rs o t e _ k = k

-- in d1 numbers count
after_heard_agrees : (role : Role) (flow : Flow) (c : ℕ) (o : List Body) (t : Traffic) (e : Epoch) (b : Body) (h : Heard) → NamesAfter flow h t e b → Every HasNoNumber o
    → StepAgrees flow (after_heard role c (channel_in Transfer false o t) h) (logged_heard h e)
after_heard_agrees role flow c o t e b (Keeps n u) names all = record { names = names.0; unused = λ out. absurd (true≢false out); controls = all }
after_heard_agrees role flow c o t e b (Confirms u) names all = record { names = names; unused = λ out. absurd (true≢false out); controls = all }
after_heard_agrees role flow c o t e b (Wrong d) names all = resets role flow c d (channel_in Transfer false o t) e refl all

hears_agrees : (role : Role) (flow : Flow) (c : ℕ) (o : List Body) (t : Traffic) (e : Epoch) (b : Body) → flow.window < modulus flow.numbering → Counts flow Transfer false o t e
    → StepAgrees flow (after_heard role c (channel_in Transfer false o t) (hears flow t b)) (logged_heard (hears flow t b) e)
hears_agrees role flow c o t e b le k = after_heard_agrees role flow c o t e b (hears flow t b) (counts_hold.heard flow le t e b k.names) k.controls

in_d1 : (role : Role) (flow : Flow) (c : ℕ) (o : List Body) (t : Traffic) (e : Epoch) (b : Body) → flow.window < modulus flow.numbering → Received role flow c Transfer false o t e b (in_flow_ready role flow c (channel_in Transfer false o t) b)
in_d1 role flow c o t e (Clear cause diagnostic) le k = is_cleared flow c cause diagnostic (channel_in Transfer false o t) e k.controls
in_d1 role flow c o t e (Reset cause diagnostic) le k = renews flow Transfer false o ResetConfirmation refl k.controls tt
in_d1 role flow c o t e ResetConfirmation le k = resets role flow c _ (channel_in Transfer false o t) e refl k.controls
in_d1 role flow c o t e (Data send receive d) le k = hears_agrees role flow c o t e (Data send receive d) le k
in_d1 role flow c o t e (ReceiveReady receive) le k = hears_agrees role flow c o t e (ReceiveReady receive) le k
in_d1 role flow c o t e (ReceiveNotReady receive) le k = hears_agrees role flow c o t e (ReceiveNotReady receive) le k
in_d1 role flow c o t e (Interrupt octets) le k = hears_agrees role flow c o t e (Interrupt octets) le k
in_d1 role flow c o t e InterruptConfirmation le k = hears_agrees role flow c o t e InterruptConfirmation le k
in_d1 role flow c o t e _ le k = clears role flow c _ true (channel_in Transfer false o t) e k.controls

-- in the own reset they do not
leaves_reset : (flow : Flow) (o : List Body) (t : Traffic) (e : Epoch) → Counts flow Transfer true o t e → Counts flow Transfer false o t e
leaves_reset flow o t e k = record { names = k.names; unused = λ out. absurd (true≢false out); controls = k.controls }

in_d2 : (role : Role) (flow : Flow) (c : ℕ) (o : List Body) (t : Traffic) (e : Epoch) (b : Body) → Received role flow c Transfer true o t e b (in_own_reset role c (channel_in Transfer true o t) b)
in_d2 role flow c o t e (Clear cause diagnostic) k = is_cleared flow c cause diagnostic (channel_in Transfer true o t) e k.controls
in_d2 role flow c o t e (Reset cause diagnostic) k = leaves_reset flow o t e k
in_d2 role flow c o t e ResetConfirmation k = leaves_reset flow o t e k
in_d2 role flow c o t e (Data send receive d) k = k
in_d2 role flow c o t e (ReceiveReady receive) k = k
in_d2 role flow c o t e (ReceiveNotReady receive) k = k
in_d2 role flow c o t e (Interrupt octets) k = k
in_d2 role flow c o t e InterruptConfirmation k = k
in_d2 role flow c o t e _ k = clears role flow c _ true (channel_in Transfer true o t) e k.controls

received_by : (role : Role) (flow : Flow) (c : ℕ) (s : ChannelState) (rs : Bool) (o : List Body) (t : Traffic) (e : Epoch) (b : Body) → flow.window < modulus flow.numbering
    → Received role flow c s rs o t e b (received_in s role flow c (channel_in s rs o t) b)
received_by role flow c Ready rs o t e b le k = in_p1 role flow c rs o t e b k
received_by role flow c OwnWaiting rs o t e b le k = in_p2 role flow c rs o t e b k
received_by role flow c FarWaiting rs o t e b le k = in_p3 role flow c rs o t e b k
received_by role flow c Transfer false o t e b le k = in_d1 role flow c o t e b le k
received_by role flow c Transfer true o t e b le k = in_d2 role flow c o t e b k
received_by role flow c Collision rs o t e b le k = in_p5 role flow c rs o t e b k
received_by role flow c OwnClear rs o t e b le k = in_p6 role flow c rs o t e b k

pub received_agrees : (role : Role) (flow : Flow) (c : ℕ) (b : Body) → flow.window < modulus flow.numbering → (ch : Channel) (e : Epoch) → Agrees flow ch e → Agrees flow (owing (received role flow c ch b)) (after_packet role flow c b ch e)
received_agrees role flow c b le ch e k = received_by role flow c ch.state ch.resetting ch.owed ch.traffic e b le k

-- one that cannot be read
unreadable_by : (role : Role) (flow : Flow) (c : ℕ) (unknown : Bool) (s : ChannelState) (rs : Bool) (o : List Body) (t : Traffic) (e : Epoch) → Counts flow s rs o t e → StepAgrees flow (unreadable_in s role c unknown (channel_in s rs o t)) e
unreadable_by role flow c unknown Ready rs o t e k = clears role flow c _ false (channel_in Ready rs o t) e k.controls
unreadable_by role flow c unknown OwnWaiting rs o t e k = clears role flow c _ true (channel_in OwnWaiting rs o t) e k.controls
unreadable_by role flow c unknown FarWaiting rs o t e k = clears role flow c _ true (channel_in FarWaiting rs o t) e k.controls
unreadable_by role flow c unknown Collision rs o t e k = clears role flow c _ true (channel_in Collision rs o t) e k.controls
unreadable_by role flow c unknown OwnClear rs o t e k = k
unreadable_by role flow c unknown Transfer true o t e k = clears role flow c _ true (channel_in Transfer true o t) e k.controls
unreadable_by role flow c unknown Transfer false o t e k = resets role flow c _ (channel_in Transfer false o t) e refl k.controls

pub unreadable_agrees : (role : Role) (flow : Flow) (c : ℕ) (unknown : Bool) (ch : Channel) (e : Epoch) → Agrees flow ch e → Agrees flow (owing (unreadable role c unknown ch)) (after_unreadable role c unknown ch e)
unreadable_agrees role flow c unknown ch e k = unreadable_by role flow c unknown ch.state ch.resetting ch.owed ch.traffic e k

-- ---- what the user asks

in_call : (b : Bool) (r : Refusal) (o : Option Refusal) → refused_if (not b) r o ≡ None → b ≡ true
in_call true r o none = refl
in_call false r o none = absurd (none-some _ (sym none))

asked_agrees : (flow : Flow) (s : ChannelState) (rs : Bool) (o : List Body) (t : Traffic) (e : Epoch) (r : Request) → flow.window < modulus flow.numbering → in_transfer s ≡ true → Counts flow s rs o t e → Counts flow s rs o (traffic_after r t) (logged t r e)
asked_agrees flow s rs o t e r le is k = record {
  names = counts_hold.asked flow le t e r k.names;
  unused = λ out. absurd (true≢false (sym is ∙ out));
  controls = k.controls;
}

carried_agrees : (role : Role) (flow : Flow) (s : ChannelState) (rs : Bool) (o : List Body) (t : Traffic) (e : Epoch) (r : Request) → flow.window < modulus flow.numbering → refusal role flow (channel_in s rs o t) r ≡ None → Counts flow s rs o t e
    → StepAgrees flow (carried_out (channel_in s rs o t) r) (logged t r e)
carried_agrees role flow s rs o t e Accept le none k = record {
  names = k.names;
  unused = λ out. absurd (true≢false out);
  controls = owed_controls o Accepted k.controls tt;
}
carried_agrees role flow s rs o t e (Clearing cause diagnostic) le none k = ends flow OwnClear o (Clear cause diagnostic) k.controls tt
carried_agrees role flow s rs o t e (Resetting cause diagnostic) le none k = renews flow s true o (Reset cause diagnostic) (in_call (in_transfer s) _ _ none) k.controls tt
carried_agrees role flow s rs o t e (Sending d) le none k = asked_agrees flow s rs o t e (Sending d) le (in_call (in_transfer s) _ _ none) k
carried_agrees role flow s rs o t e (Interrupting octets) le none k = asked_agrees flow s rs o t e (Interrupting octets) le (in_call (in_transfer s) _ _ none) k
carried_agrees role flow s rs o t e (Stopping b) le none k = asked_agrees flow s rs o t e (Stopping b) le (in_call (in_transfer s) _ _ none) k
carried_agrees role flow s rs o t e Taking le none k = asked_agrees flow s rs o t e Taking le (in_call (in_transfer s) _ _ none) k
carried_agrees role flow s rs o t e (Releasing n) le none k = asked_agrees flow s rs o t e (Releasing n) le (in_call (in_transfer s) _ _ none) k
carried_agrees role flow s rs o t e Confirming le none k = asked_agrees flow s rs o t e Confirming le (in_call (in_transfer s) _ _ none) k

pub requested_agrees : (role : Role) (flow : Flow) (r : Request) → flow.window < modulus flow.numbering → (ch : Channel) (e : Epoch) → Agrees flow ch e → Agrees flow (owing (requested role flow ch r)) (after_request role flow r ch e)
requested_agrees role flow r le ch e k = by_refusal (refusal role flow ch r) refl
  where
    by_refusal : (x : Option Refusal) → refusal role flow ch r ≡ x → StepAgrees flow (unless x (carried_out ch r) ch) (grown_unless x ch.traffic r e)
    by_refusal None none = carried_agrees role flow ch.state ch.resetting ch.owed ch.traffic e r le none k
    by_refusal (Some refused) is = k

-- a call placed, in p1
not_in_p4 : (s : ChannelState) → is_ready s ≡ true → in_transfer s ≡ false
not_in_p4 Ready is = refl
not_in_p4 _ is = absurd (true≢false (sym is))

pub places : (flow : Flow) (parts : CallParts) (ch : Channel) (e : Epoch) → is_ready ch.state ≡ true → Agrees flow ch e → Agrees flow (owing (placing parts ch)) e
places flow parts ch e ready k = owes flow OwnWaiting ch.resetting ch.owed ch.traffic e (Call parts) tt (goes_to flow ch.state OwnWaiting ch.resetting ch.owed ch.traffic e (not_in_p4 ch.state ready) k)
