-- What a channel notes when something comes on it.
use Rattle.std.proofs.Common.{◌≡◌, ℕ, Bool, true, false, cond, ◌==◌, List, [], ◌∷◌, None, refl, sym, true≢false}
use Rattle.link_timers.specs.declared.role.Role.{Role}
use Rattle.link_timers.specs.declared.role.Role.TheVariants.{Dte, Dce}
use Rattle.data_transfer.specs.declared.flow.Flow.{Flow}
use Rattle.data_transfer.specs.Packets.{Body, Note, Reason}
use Rattle.data_transfer.specs.Packets.Body.{Call, Accepted, Clear, ClearConfirmation, Data, Interrupt, InterruptConfirmation, ReceiveReady, ReceiveNotReady, Reset, ResetConfirmation}
use Rattle.data_transfer.specs.Packets.Note.{Incoming, Connected, Closed, WasReset, InterruptConfirmed, Covered}
use Rattle.data_transfer.specs.Traffic.{Heard, hears as hears_in}
use Rattle.data_transfer.specs.Traffic.Heard.{Keeps, Confirms, Wrong}
use Rattle.packet_channel.specs.Channel.{ChannelState, Channel, Step, received, unreadable, in_transfer, may_accept, waits_for_call, had_call, after_heard, entered}
use Rattle.packet_channel.specs.Channel.ChannelState.{Ready, OwnWaiting, FarWaiting, Transfer, Collision, OwnClear}
use Rattle.packet_laws.specs.Readable.{Every}
use Rattle.switch_laws.proofs.NotesOfJoined.{GoesOn}

-- all notes are of this channel, and after one of a call that comes in, which can be accepted, comes no other
abbrev pub AreOf : (channel : ℕ) → Role → ChannelState → List Note → Type 0
AreOf c role s [] = Unit {0}
AreOf c role s (Incoming d parts ∷ ns) = (d ≡ c) × ((may_accept role s ≡ true) × (ns ≡ []))
AreOf c role s (Connected d ∷ ns) = (d ≡ c) × AreOf c role s ns
AreOf c role s (Closed d cause diagnostic reason ∷ ns) = (d ≡ c) × AreOf c role s ns
AreOf c role s (WasReset d cause diagnostic reason ∷ ns) = (d ≡ c) × AreOf c role s ns
AreOf c role s (InterruptConfirmed d ∷ ns) = (d ≡ c) × AreOf c role s ns
AreOf c role s (Covered d n ∷ ns) = (d ≡ c) × AreOf c role s ns

-- what becomes of a call
pub data Outcome (c : ℕ) (role : Role) (ch : Channel) (st : Step) : Type 0 where
  ends : (cause diagnostic : ℕ) → (reason : Reason) → (rest : List Note) → st.notes ≡ Closed c cause diagnostic reason ∷ rest → Outcome c role ch st
  connects : waits_for_call role ch.state ≡ true → st ≡ record { channel = entered Transfer ch; owes = None; notes = Connected c ∷ [] } → Outcome c role ch st
  waits : waits_for_call role ch.state ≡ true → st ≡ record { channel = entered Collision ch; owes = None; notes = [] } → waits_for_call role Collision ≡ true → Outcome c role ch st
  goes_on : ch.state ≡ Transfer → st.channel.state ≡ Transfer → Every (GoesOn c) st.notes → Outcome c role ch st

abbrev pub ch_in : ChannelState → Bool → Channel → Channel
ch_in s rs ch = record ch { state = s; resetting = rs }

-- ---- in d1

covered_goes_on : (c : ℕ) (b : Bool) (n : ℕ) → Every (GoesOn c) (cond b [] (Covered c n ∷ []))
covered_goes_on c true n = tt
covered_goes_on c false n = (refl, tt)

heard_goes_on : (role : Role) (c : ℕ) (ch : Channel) (h : Heard) → in_transfer ch.state ≡ true → (in_transfer (after_heard role c ch h).channel.state ≡ true) × Every (GoesOn c) (after_heard role c ch h).notes
heard_goes_on role c ch (Keeps n t) e = (e, covered_goes_on c (n == 0) n)
heard_goes_on role c ch (Confirms t) e = (e, (refl, tt))
heard_goes_on role c ch (Wrong d) e = (e, (refl, tt))

covered_of : (c : ℕ) (role : Role) (s : ChannelState) (b : Bool) (n : ℕ) → AreOf c role s (cond b [] (Covered c n ∷ []))
covered_of c role s true n = tt
covered_of c role s false n = (refl, tt)

heard_of : (role : Role) (c : ℕ) (ch : Channel) (h : Heard) (s : ChannelState) → AreOf c role s (after_heard role c ch h).notes
heard_of role c ch (Keeps n t) s = covered_of c role s (n == 0) n
heard_of role c ch (Confirms t) s = (refl, tt)
heard_of role c ch (Wrong d) s = (refl, tt)

abbrev Received : Role → Flow → ℕ → Channel → Body → Type 0
Received role flow c ch p = Outcome c role ch (received role flow c ch p)

heard_state : (role : Role) (c : ℕ) (ch : Channel) (h : Heard) → ch.state ≡ Transfer → (after_heard role c ch h).channel.state ≡ Transfer
heard_state role c ch (Keeps n t) e = e
heard_state role c ch (Confirms t) e = e
heard_state role c ch (Wrong d) e = e

d1 : (role : Role) (flow : Flow) (c : ℕ) (p : Body) (ch : Channel) → Received role flow c (ch_in Transfer false ch) p
d1 role flow c (Clear cause diagnostic) ch = ends _ _ _ _ refl
d1 role flow c (Reset cause diagnostic) ch = goes_on refl refl (refl, tt)
d1 role flow c ResetConfirmation ch = goes_on refl refl (refl, tt)
d1 role flow c (Data send receive d) ch = goes_on refl (heard_state role c (ch_in Transfer false ch) (hears_in flow ch.traffic (Data send receive d)) refl) (heard_goes_on role c (ch_in Transfer false ch) (hears_in flow ch.traffic (Data send receive d)) refl).1
d1 role flow c (ReceiveReady receive) ch = goes_on refl (heard_state role c (ch_in Transfer false ch) (hears_in flow ch.traffic (ReceiveReady receive)) refl) (heard_goes_on role c (ch_in Transfer false ch) (hears_in flow ch.traffic (ReceiveReady receive)) refl).1
d1 role flow c (ReceiveNotReady receive) ch = goes_on refl (heard_state role c (ch_in Transfer false ch) (hears_in flow ch.traffic (ReceiveNotReady receive)) refl) (heard_goes_on role c (ch_in Transfer false ch) (hears_in flow ch.traffic (ReceiveNotReady receive)) refl).1
d1 role flow c (Interrupt octets) ch = goes_on refl (heard_state role c (ch_in Transfer false ch) (hears_in flow ch.traffic (Interrupt octets)) refl) (heard_goes_on role c (ch_in Transfer false ch) (hears_in flow ch.traffic (Interrupt octets)) refl).1
d1 role flow c InterruptConfirmation ch = goes_on refl (heard_state role c (ch_in Transfer false ch) (hears_in flow ch.traffic InterruptConfirmation) refl) (heard_goes_on role c (ch_in Transfer false ch) (hears_in flow ch.traffic InterruptConfirmation) refl).1
d1 role flow c p ch = ends _ _ _ _ refl

own_reset : (role : Role) (flow : Flow) (c : ℕ) (p : Body) (ch : Channel) → Received role flow c (ch_in Transfer true ch) p
own_reset role flow c (Reset cause diagnostic) ch = goes_on refl refl tt
own_reset role flow c ResetConfirmation ch = goes_on refl refl tt
own_reset role flow c (Data send receive d) ch = goes_on refl refl tt
own_reset role flow c (ReceiveReady receive) ch = goes_on refl refl tt
own_reset role flow c (ReceiveNotReady receive) ch = goes_on refl refl tt
own_reset role flow c (Interrupt octets) ch = goes_on refl refl tt
own_reset role flow c InterruptConfirmation ch = goes_on refl refl tt
own_reset role flow c p ch = ends _ _ _ _ refl

own_waiting : (role : Role) (rs : Bool) (flow : Flow) (c : ℕ) (p : Body) (ch : Channel) → Received role flow c (ch_in OwnWaiting rs ch) p
own_waiting role rs flow c Accepted ch = connects refl refl
own_waiting Dte rs flow c (Call parts) ch = waits refl refl refl
own_waiting Dce rs flow c (Call parts) ch = ends _ _ _ _ refl
own_waiting role rs flow c p ch = ends _ _ _ _ refl

far_waiting : (role : Role) (rs : Bool) (flow : Flow) (c : ℕ) (p : Body) (ch : Channel) → Received role flow c (ch_in FarWaiting rs ch) p
far_waiting role rs flow c (Clear cause diagnostic) ch = ends _ _ _ _ refl
far_waiting role rs flow c p ch = ends _ _ _ _ refl

collision : (role : Role) (rs : Bool) (flow : Flow) (c : ℕ) (p : Body) (ch : Channel) → Received role flow c (ch_in Collision rs ch) p
collision Dte rs flow c Accepted ch = connects refl refl
collision Dte rs flow c (Clear cause diagnostic) ch = ends _ _ _ _ refl
collision Dce rs flow c (Clear cause diagnostic) ch = ends _ _ _ _ refl
collision role rs flow c p ch = ends _ _ _ _ refl

received_in : (s : ChannelState) (rs : Bool) (role : Role) (flow : Flow) (c : ℕ) (p : Body) (ch : Channel) → had_call s ≡ true → Received role flow c (ch_in s rs ch) p
received_in Ready rs role flow c p ch e = absurd (true≢false (sym e))
received_in OwnWaiting rs role flow c p ch e = own_waiting role rs flow c p ch
received_in FarWaiting rs role flow c p ch e = far_waiting role rs flow c p ch
received_in Transfer true role flow c p ch e = own_reset role flow c p ch
received_in Transfer false role flow c p ch e = d1 role flow c p ch
received_in Collision rs role flow c p ch e = collision role rs flow c p ch
received_in OwnClear rs role flow c p ch e = absurd (true≢false (sym e))

pub received_outcome : (role : Role) (flow : Flow) (c : ℕ) (p : Body) (ch : Channel) → had_call ch.state ≡ true → Outcome c role ch (received role flow c ch p)
received_outcome role flow c p ch e = received_in ch.state ch.resetting role flow c p ch e

unreadable_in : (s : ChannelState) (rs : Bool) (role : Role) (c : ℕ) (unknown : Bool) (ch : Channel) → had_call s ≡ true → Outcome c role (ch_in s rs ch) (unreadable role c unknown (ch_in s rs ch))
unreadable_in Ready rs role c unknown ch e = absurd (true≢false (sym e))
unreadable_in OwnClear rs role c unknown ch e = absurd (true≢false (sym e))
unreadable_in Transfer false role c unknown ch e = goes_on refl refl (refl, tt)
unreadable_in Transfer true role c unknown ch e = ends _ _ _ _ refl
unreadable_in s rs role c unknown ch e = ends _ _ _ _ refl

pub unreadable_outcome : (role : Role) (c : ℕ) (unknown : Bool) (ch : Channel) → had_call ch.state ≡ true → Outcome c role ch (unreadable role c unknown ch)
unreadable_outcome role c unknown ch e = unreadable_in ch.state ch.resetting role c unknown ch e

-- ---- all notes

abbrev Notes : Role → ℕ → Step → Type 0
Notes role c st = AreOf c role st.channel.state st.notes

ready_of : (role : Role) (rs : Bool) (flow : Flow) (c : ℕ) (p : Body) (ch : Channel) → Notes role c (received role flow c (ch_in Ready rs ch) p)
ready_of role rs flow c (Call parts) ch = (refl, (refl, refl))
ready_of role rs flow c (Clear cause diagnostic) ch = tt
ready_of role rs flow c p ch = tt

own_waiting_of : (role : Role) (rs : Bool) (flow : Flow) (c : ℕ) (p : Body) (ch : Channel) → Notes role c (received role flow c (ch_in OwnWaiting rs ch) p)
own_waiting_of role rs flow c Accepted ch = (refl, tt)
own_waiting_of Dte rs flow c (Call parts) ch = tt
own_waiting_of Dce rs flow c (Call parts) ch = (refl, (refl, (refl, refl)))
own_waiting_of role rs flow c (Clear cause diagnostic) ch = (refl, tt)
own_waiting_of role rs flow c p ch = (refl, tt)

far_waiting_of : (role : Role) (rs : Bool) (flow : Flow) (c : ℕ) (p : Body) (ch : Channel) → Notes role c (received role flow c (ch_in FarWaiting rs ch) p)
far_waiting_of role rs flow c (Clear cause diagnostic) ch = (refl, tt)
far_waiting_of role rs flow c p ch = (refl, tt)

collision_of : (role : Role) (rs : Bool) (flow : Flow) (c : ℕ) (p : Body) (ch : Channel) → Notes role c (received role flow c (ch_in Collision rs ch) p)
collision_of Dte rs flow c Accepted ch = (refl, tt)
collision_of Dte rs flow c (Clear cause diagnostic) ch = (refl, tt)
collision_of Dce rs flow c (Clear cause diagnostic) ch = (refl, tt)
collision_of role rs flow c p ch = (refl, tt)

own_clear_of : (role : Role) (rs : Bool) (flow : Flow) (c : ℕ) (p : Body) (ch : Channel) → Notes role c (received role flow c (ch_in OwnClear rs ch) p)
own_clear_of role rs flow c (Clear cause diagnostic) ch = tt
own_clear_of role rs flow c ClearConfirmation ch = tt
own_clear_of role rs flow c p ch = tt

own_reset_of : (role : Role) (flow : Flow) (c : ℕ) (p : Body) (ch : Channel) → Notes role c (received role flow c (ch_in Transfer true ch) p)
own_reset_of role flow c (Clear cause diagnostic) ch = (refl, tt)
own_reset_of role flow c (Reset cause diagnostic) ch = tt
own_reset_of role flow c ResetConfirmation ch = tt
own_reset_of role flow c (Data send receive d) ch = tt
own_reset_of role flow c (ReceiveReady receive) ch = tt
own_reset_of role flow c (ReceiveNotReady receive) ch = tt
own_reset_of role flow c (Interrupt octets) ch = tt
own_reset_of role flow c InterruptConfirmation ch = tt
own_reset_of role flow c p ch = (refl, tt)

d1_of : (role : Role) (flow : Flow) (c : ℕ) (p : Body) (ch : Channel) → Notes role c (received role flow c (ch_in Transfer false ch) p)
d1_of role flow c (Clear cause diagnostic) ch = (refl, tt)
d1_of role flow c (Reset cause diagnostic) ch = (refl, tt)
d1_of role flow c ResetConfirmation ch = (refl, tt)
d1_of role flow c (Data send receive d) ch = heard_of role c (ch_in Transfer false ch) (hears_in flow ch.traffic (Data send receive d)) _
d1_of role flow c (ReceiveReady receive) ch = heard_of role c (ch_in Transfer false ch) (hears_in flow ch.traffic (ReceiveReady receive)) _
d1_of role flow c (ReceiveNotReady receive) ch = heard_of role c (ch_in Transfer false ch) (hears_in flow ch.traffic (ReceiveNotReady receive)) _
d1_of role flow c (Interrupt octets) ch = heard_of role c (ch_in Transfer false ch) (hears_in flow ch.traffic (Interrupt octets)) _
d1_of role flow c InterruptConfirmation ch = heard_of role c (ch_in Transfer false ch) (hears_in flow ch.traffic InterruptConfirmation) _
d1_of role flow c p ch = (refl, tt)

of_received : (s : ChannelState) (rs : Bool) (role : Role) (flow : Flow) (c : ℕ) (p : Body) (ch : Channel) → Notes role c (received role flow c (ch_in s rs ch) p)
of_received Ready rs role flow c p ch = ready_of role rs flow c p ch
of_received OwnWaiting rs role flow c p ch = own_waiting_of role rs flow c p ch
of_received FarWaiting rs role flow c p ch = far_waiting_of role rs flow c p ch
of_received Transfer true role flow c p ch = own_reset_of role flow c p ch
of_received Transfer false role flow c p ch = d1_of role flow c p ch
of_received Collision rs role flow c p ch = collision_of role rs flow c p ch
of_received OwnClear rs role flow c p ch = own_clear_of role rs flow c p ch

pub received_notes : (role : Role) (flow : Flow) (c : ℕ) (p : Body) (ch : Channel) → AreOf c role (received role flow c ch p).channel.state (received role flow c ch p).notes
received_notes role flow c p ch = of_received ch.state ch.resetting role flow c p ch

of_unreadable : (s : ChannelState) (rs : Bool) (role : Role) (c : ℕ) (unknown : Bool) (ch : Channel) → Notes role c (unreadable role c unknown (ch_in s rs ch))
of_unreadable Ready rs role c unknown ch = tt
of_unreadable OwnClear rs role c unknown ch = tt
of_unreadable Transfer false role c unknown ch = (refl, tt)
of_unreadable Transfer true role c unknown ch = (refl, tt)
of_unreadable s rs role c unknown ch = (refl, tt)

pub unreadable_notes : (role : Role) (c : ℕ) (unknown : Bool) (ch : Channel) → AreOf c role (unreadable role c unknown ch).channel.state (unreadable role c unknown ch).notes
unreadable_notes role c unknown ch = of_unreadable ch.state ch.resetting role c unknown ch
