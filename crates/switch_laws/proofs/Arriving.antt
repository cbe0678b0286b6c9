-- What the notes of a channel say of the call that it has after them.
use Rattle.std.proofs.Common.{◌≡◌, ℕ, ◌⊎◌, inl, inr, Bool, true, false, cond, ◌==◌, List, [], ◌∷◌, refl, sym, ◌∙◌, true≢false}
use Rattle.link_timers.specs.declared.role.Role.{Role}
use Rattle.link_timers.specs.declared.role.Role.TheVariants.{Dte, Dce}
use Rattle.data_transfer.specs.declared.flow.Flow.{Flow}
use Rattle.data_transfer.specs.Packets.{Body, Note}
use Rattle.data_transfer.specs.Packets.Body.{Call, Accepted, Clear, ClearConfirmation, Data, Interrupt, InterruptConfirmation, ReceiveReady, ReceiveNotReady, Reset, ResetConfirmation}
use Rattle.data_transfer.specs.Packets.Note.{Incoming, Closed, Covered}
use Rattle.data_transfer.specs.Traffic.{Heard, hears as hears_in}
use Rattle.data_transfer.specs.Traffic.Heard.{Keeps, Confirms, Wrong}
use Rattle.packet_channel.specs.Channel.{ChannelState, Channel, Step, received, unreadable, had_call, after_heard}
use Rattle.packet_channel.specs.Channel.ChannelState.{Ready, OwnWaiting, FarWaiting, Transfer, Collision, OwnClear}
use Rattle.switch_joins.specs.declared.channels.SwitchChannel.{SwitchChannel}
use Rattle.switch_laws.proofs.Outcomes.{ch_in}

-- one of them says that a call came in on the channel
abbrev pub Arrives : (line : ℕ) → List Note → SwitchChannel → Type 0
Arrives n [] x = ⊥
Arrives n (Incoming c parts ∷ ns) x = (x ≡ record { line = n; channel = c }) ⊎ Arrives n ns x
Arrives n (note ∷ ns) x = Arrives n ns x

-- after each that says that a call is over, one says that one came in
abbrev pub EndsArrive : (line channel : ℕ) → List Note → Type 0
EndsArrive n d [] = Unit {0}
EndsArrive n d (Closed c cause diagnostic reason ∷ ns) = Arrives n ns (record { line = n; channel = d }) × EndsArrive n d ns
EndsArrive n d (note ∷ ns) = EndsArrive n d ns

-- where a channel has a call after a step, it had one before or one came in
pub record StepCalls (n d : ℕ) (ch : Channel) (st : Step) : Type 0 where
  pub begins : had_call st.channel.state ≡ true → (had_call ch.state ≡ true) ⊎ Arrives n st.notes (record { line = n; channel = d })
  pub ends : had_call st.channel.state ≡ true → EndsArrive n d st.notes

no_call_after : (n d : ℕ) (ch : Channel) (st : Step) → had_call st.channel.state ≡ false → StepCalls n d ch st
no_call_after n d ch st e = record { begins = λ h. absurd (true≢false (sym h ∙ e)); ends = λ h. absurd (true≢false (sym h ∙ e)) }

call_before : (n d : ℕ) (ch : Channel) (st : Step) → had_call ch.state ≡ true → EndsArrive n d st.notes → StepCalls n d ch st
call_before n d ch st e a = record { begins = λ h. inl e; ends = λ h. a }

heard_ends : (n d : ℕ) (role : Role) (ch : Channel) (h : Heard) → EndsArrive n d (after_heard role d ch h).notes
heard_ends n d role ch (Keeps k t) = by_none (k == 0)
  where
    by_none : (b : Bool) → EndsArrive n d (cond b [] (Covered d k ∷ []))
    by_none true = tt
    by_none false = tt
heard_ends n d role ch (Confirms t) = tt
heard_ends n d role ch (Wrong x) = tt

abbrev Receives : ℕ → Role → Flow → ℕ → Channel → Body → Type 0
Receives n role flow d ch p = StepCalls n d ch (received role flow d ch p)

ready : (n : ℕ) (role : Role) (rs : Bool) (flow : Flow) (d : ℕ) (p : Body) (ch : Channel) → Receives n role flow d (ch_in Ready rs ch) p
ready n role rs flow d (Call parts) ch = record { begins = λ h. inr (inl refl); ends = λ h. tt }
ready n role rs flow d (Clear cause diagnostic) ch = no_call_after n d _ _ refl
ready n role rs flow d p ch = no_call_after n d (ch_in Ready rs ch) (received role flow d (ch_in Ready rs ch) p) refl

own_waiting : (n : ℕ) (role : Role) (rs : Bool) (flow : Flow) (d : ℕ) (p : Body) (ch : Channel) → Receives n role flow d (ch_in OwnWaiting rs ch) p
own_waiting n role rs flow d Accepted ch = call_before n d _ _ refl tt
own_waiting n Dte rs flow d (Call parts) ch = call_before n d _ _ refl tt
own_waiting n Dce rs flow d (Call parts) ch = call_before n d _ _ refl (inl refl, tt)
own_waiting n role rs flow d (Clear cause diagnostic) ch = no_call_after n d _ _ refl
own_waiting n role rs flow d p ch = no_call_after n d (ch_in OwnWaiting rs ch) (received role flow d (ch_in OwnWaiting rs ch) p) refl

far_waiting : (n : ℕ) (role : Role) (rs : Bool) (flow : Flow) (d : ℕ) (p : Body) (ch : Channel) → Receives n role flow d (ch_in FarWaiting rs ch) p
far_waiting n role rs flow d (Clear cause diagnostic) ch = no_call_after n d _ _ refl
far_waiting n role rs flow d p ch = no_call_after n d (ch_in FarWaiting rs ch) (received role flow d (ch_in FarWaiting rs ch) p) refl

collision : (n : ℕ) (role : Role) (rs : Bool) (flow : Flow) (d : ℕ) (p : Body) (ch : Channel) → Receives n role flow d (ch_in Collision rs ch) p
collision n Dte rs flow d Accepted ch = call_before n d _ _ refl tt
collision n Dte rs flow d (Clear cause diagnostic) ch = no_call_after n d _ _ refl
collision n Dce rs flow d (Clear cause diagnostic) ch = no_call_after n d _ _ refl
collision n role rs flow d p ch = no_call_after n d (ch_in Collision rs ch) (received role flow d (ch_in Collision rs ch) p) refl

own_clear : (n : ℕ) (role : Role) (rs : Bool) (flow : Flow) (d : ℕ) (p : Body) (ch : Channel) → Receives n role flow d (ch_in OwnClear rs ch) p
own_clear n role rs flow d (Clear cause diagnostic) ch = no_call_after n d _ _ refl
own_clear n role rs flow d ClearConfirmation ch = no_call_after n d _ _ refl
own_clear n role rs flow d p ch = no_call_after n d (ch_in OwnClear rs ch) (received role flow d (ch_in OwnClear rs ch) p) refl

own_reset : (n : ℕ) (role : Role) (flow : Flow) (d : ℕ) (p : Body) (ch : Channel) → Receives n role flow d (ch_in Transfer true ch) p
own_reset n role flow d (Clear cause diagnostic) ch = no_call_after n d _ _ refl
own_reset n role flow d (Reset cause diagnostic) ch = call_before n d _ _ refl tt
own_reset n role flow d ResetConfirmation ch = call_before n d _ _ refl tt
own_reset n role flow d (Data send receive x) ch = call_before n d _ _ refl tt
own_reset n role flow d (ReceiveReady receive) ch = call_before n d _ _ refl tt
own_reset n role flow d (ReceiveNotReady receive) ch = call_before n d _ _ refl tt
own_reset n role flow d (Interrupt octets) ch = call_before n d _ _ refl tt
own_reset n role flow d InterruptConfirmation ch = call_before n d _ _ refl tt
own_reset n role flow d p ch = no_call_after n d (ch_in Transfer true ch) (received role flow d (ch_in Transfer true ch) p) refl

d1 : (n : ℕ) (role : Role) (flow : Flow) (d : ℕ) (p : Body) (ch : Channel) → Receives n role flow d (ch_in Transfer false ch) p
d1 n role flow d (Clear cause diagnostic) ch = no_call_after n d _ _ refl
d1 n role flow d (Reset cause diagnostic) ch = call_before n d _ _ refl tt
d1 n role flow d ResetConfirmation ch = call_before n d _ _ refl tt
d1 n role flow d (Data send receive x) ch = call_before n d _ _ refl (heard_ends n d role (ch_in Transfer false ch) (hears_in flow ch.traffic (Data send receive x)))
d1 n role flow d (ReceiveReady receive) ch = call_before n d _ _ refl (heard_ends n d role (ch_in Transfer false ch) (hears_in flow ch.traffic (ReceiveReady receive)))
d1 n role flow d (ReceiveNotReady receive) ch = call_before n d _ _ refl (heard_ends n d role (ch_in Transfer false ch) (hears_in flow ch.traffic (ReceiveNotReady receive)))
d1 n role flow d (Interrupt octets) ch = call_before n d _ _ refl (heard_ends n d role (ch_in Transfer false ch) (hears_in flow ch.traffic (Interrupt octets)))
d1 n role flow d InterruptConfirmation ch = call_before n d _ _ refl (heard_ends n d role (ch_in Transfer false ch) (hears_in flow ch.traffic InterruptConfirmation))
d1 n role flow d p ch = no_call_after n d (ch_in Transfer false ch) (received role flow d (ch_in Transfer false ch) p) refl

received_in : (n : ℕ) (s : ChannelState) (rs : Bool) (role : Role) (flow : Flow) (d : ℕ) (p : Body) (ch : Channel) → Receives n role flow d (ch_in s rs ch) p
received_in n Ready rs role flow d p ch = ready n role rs flow d p ch
received_in n OwnWaiting rs role flow d p ch = own_waiting n role rs flow d p ch
received_in n FarWaiting rs role flow d p ch = far_waiting n role rs flow d p ch
received_in n Transfer true role flow d p ch = own_reset n role flow d p ch
received_in n Transfer false role flow d p ch = d1 n role flow d p ch
received_in n Collision rs role flow d p ch = collision n role rs flow d p ch
received_in n OwnClear rs role flow d p ch = own_clear n role rs flow d p ch

pub received_calls : (n : ℕ) (role : Role) (flow : Flow) (d : ℕ) (p : Body) (ch : Channel) → StepCalls n d ch (received role flow d ch p)
received_calls n role flow d p ch = received_in n ch.state ch.resetting role flow d p ch

unreadable_in : (n : ℕ) (s : ChannelState) (rs : Bool) (role : Role) (d : ℕ) (unknown : Bool) (ch : Channel) → StepCalls n d (ch_in s rs ch) (unreadable role d unknown (ch_in s rs ch))
unreadable_in n Transfer false role d unknown ch = call_before n d _ _ refl tt
unreadable_in n Transfer true role d unknown ch = no_call_after n d _ _ refl
unreadable_in n s rs role d unknown ch = no_call_after n d _ _ refl

pub unreadable_calls : (n : ℕ) (role : Role) (d : ℕ) (unknown : Bool) (ch : Channel) → StepCalls n d ch (unreadable role d unknown ch)
unreadable_calls n role d unknown ch = unreadable_in n ch.state ch.resetting role d unknown ch

pub cleared_calls : (n d : ℕ) (ch : Channel) (st : Step) → had_call st.channel.state ≡ false → StepCalls n d ch st
cleared_calls n d ch st e = no_call_after n d ch st e
