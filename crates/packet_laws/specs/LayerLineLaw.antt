-- The law of a line: between two ends of this project, whatever happens.
use Rattle.std.specs.Prelude.{◌≡◌, ℕ, ◌+◌, ◌≤◌, Bool, true, false, if◌then◌else◌, ◌&&◌, ◌||◌, ◌==◌, List, [], ◌∷◌, ◌++◌}
use Rattle.std.specs.Prelude.{length}
use Rattle.std.specs.Prelude.{Option, Some, None, is_some, ◌<◌}
use Rattle.link_timers.specs.declared.role.Role.{Role}
use Rattle.link_timers.specs.declared.role.Role.TheVariants.{Dte}
use Rattle.data_transfer.specs.Flow.{modulus}
use Rattle.data_transfer.specs.declared.flow.Flow.{Flow}
use Rattle.data_transfer.specs.Packets.{Body, Packet, CallParts}
use Rattle.data_transfer.specs.Packets.Body.{Clear, Reset, RestartConfirmation, Call}
use Rattle.packet_channel.specs.Channel.{ChannelState, Channel, received}
use Rattle.packet_channel.specs.Channel.ChannelState.{Ready, OwnWaiting, FarWaiting, Transfer, Collision}
use Rattle.packet_layer.specs.Layer.{Phase, Layer, channel_of}
use Rattle.packet_layer.specs.Layer.Phase.{PacketReady}
use Rattle.packet_laws.specs.History.{Epoch, History, empty_epoch, with_call}
use Rattle.packet_laws.specs.LayerLine.{End, Line, Happening, turned, start_line, after, next_of_session}

-- a list that begins another one
abbrev pub IsPrefix : {X : Type 0} → List X → List X → Type 0
IsPrefix {X} front whole = (rest : List X) × (front ++ rest ≡ whole)

-- what the second end took in an epoch is a prefix of what the first one sent in it, packets (with M, Q and D) and
-- interrupts; what a P(R) covered at the first end had been released at the second one, and that had been taken
pub record Aligned (sender taker : Epoch) : Type 0 where
  pub packets : IsPrefix taker.taken sender.sent
  pub interrupts : IsPrefix taker.interrupts_taken sender.interrupts_sent
  pub covered_is_released : sender.covered ≤ taker.released
  pub released_is_taken : taker.released ≤ length taker.taken

-- a procedure error: a packet to which the layer answers by a Clear, Reset or Restart packet of its own
abbrev pub is_request : Option Body → Bool
is_request (Some (Clear cause diagnostic)) = true
is_request (Some (Reset cause diagnostic)) = true
is_request _ = false

abbrev pub is_fault_on : Layer → Packet → Option Channel → Bool
is_fault_on l p None = false
is_fault_on l p (Some ch) = is_request (received l.role l.flow p.channel ch p.body).owes

abbrev pub is_restart_fault : Phase → Body → Bool
is_restart_fault PacketReady RestartConfirmation = true
is_restart_fault phase body = false

abbrev pub is_channel_fault : Phase → Layer → Packet → Bool
is_channel_fault PacketReady l p = is_fault_on l p (channel_of l p.channel)
is_channel_fault phase l p = false

abbrev pub is_fault : Layer → Packet → Bool
is_fault l p = if p.channel == 0 then is_restart_fault l.phase p.body else is_channel_fault l.phase l p

-- the histories of two ends are in step: neither is more than one restart ahead, in the same restart neither more than
-- one use, in the same use neither more than one epoch
pub record InStep (a b : History) : Type 0 where
  pub restarts : (a.restart ≤ b.restart + 1) × (b.restart ≤ a.restart + 1)
  pub uses : a.restart ≡ b.restart → (a.use_ ≤ b.use_ + 1) × (b.use_ ≤ a.use_ + 1)
  pub epochs : a.restart ≡ b.restart → a.use_ ≡ b.use_ → (a.epoch ≤ b.epoch + 1) × (b.epoch ≤ a.epoch + 1)

-- nothing of channel c is on its way in session s: both ends are up in it and ask for no relink, each accepted all that
-- the other one offered, and neither owes a restart packet or a control packet of the channel
pub record Quiet (w : Line) (s c : ℕ) (a b : Channel) : Type 0 where
  pub up_here : w.me.session ≡ Some s
  pub up_there : w.you.session ≡ Some s
  pub no_relink_here : w.me.layer.relink ≡ false
  pub no_relink_there : w.you.layer.relink ≡ false
  pub all_came_here : w.me.accepted s ≡ length (w.you.offered s)
  pub all_came_there : w.you.accepted s ≡ length (w.me.offered s)
  pub no_restart_owed_here : w.me.layer.owed ≡ []
  pub no_restart_owed_there : w.you.layer.owed ≡ []
  pub found_here : channel_of w.me.layer c ≡ Some a
  pub found_there : channel_of w.you.layer c ≡ Some b
  pub nothing_owed_here : a.owed ≡ []
  pub nothing_owed_there : b.owed ≡ []

-- states of the two ends that belong together
abbrev pub Together : ChannelState → ChannelState → Type 0
Together Ready Ready = Unit {0}
Together OwnWaiting FarWaiting = Unit {0}
Together FarWaiting OwnWaiting = Unit {0}
Together Collision Collision = Unit {0}
Together Transfer Transfer = Unit {0}
Together _ _ = ⊥

abbrev pub epoch_now : History → Epoch
epoch_now st = st.epochs st.restart st.use_ st.epoch

abbrev pub listed : Option (List ℕ) → List (List ℕ)
listed None = []
listed (Some octets) = octets ∷ []

-- what one end sent in the present epoch is what the other one took, what waits there to be taken and what waits here
-- to be sent
pub record NothingMissing (sender taker : Epoch) (a b : Channel) : Type 0 where
  pub packets : taker.taken ++ (b.traffic.arrived ++ a.traffic.waiting) ≡ sender.sent
  pub interrupts : taker.interrupts_taken ++ (listed b.traffic.interrupt_arrived ++ listed a.traffic.interrupt_waiting)
      ≡ sender.interrupts_sent

-- then both ends are in r1 and in states that belong together, in the same restart, use and epoch, no reset is
-- unconfirmed, and nothing is missing
pub record AtRest (w : Line) (s c : ℕ) (a b : Channel) : Type 0 where
  pub ready_here : w.me.layer.phase ≡ PacketReady
  pub ready_there : w.you.layer.phase ≡ PacketReady
  pub together : Together a.state b.state
  pub no_reset_here : a.resetting ≡ false
  pub no_reset_there : b.resetting ≡ false
  pub same_restart : (w.me.histories s c).restart ≡ (w.you.histories s c).restart
  pub same_use : (w.me.histories s c).use_ ≡ (w.you.histories s c).use_
  pub same_epoch : (w.me.histories s c).epoch ≡ (w.you.histories s c).epoch
  pub forth : NothingMissing (epoch_now (w.me.histories s c)) (epoch_now (w.you.histories s c)) a b
  pub back : NothingMissing (epoch_now (w.you.histories s c)) (epoch_now (w.me.histories s c)) b a

-- a Call is about to arrive at `me` on channel c in session s, where the channel is free or meets the end's own call
abbrev pub TakesCall : ChannelState → Type 0
TakesCall Ready = Unit {0}
TakesCall OwnWaiting = Unit {0}
TakesCall _ = ⊥

pub record CallArrives (w : Line) (s c : ℕ) (parts : CallParts) : Type 0 where
  pub up : w.me.session ≡ Some s
  pub next : next_of_session w s ≡ Some (record { channel = c; body = Call parts })
  pub ready : w.me.layer.phase ≡ PacketReady
  pub channel : Channel
  pub found : channel_of w.me.layer c ≡ Some channel
  pub takes : TakesCall channel.state

-- then the other end placed that very call in the same restart and use, and none in a later restart, nor in a later use
-- of that restart, whether it began a further restart meanwhile or not
pub record CallKnown (mine yours : History) (parts : CallParts) : Type 0 where
  pub known : (g : ℕ) → (yours.epochs mine.restart mine.use_ g).called ≡ Some parts
  pub last_restart : (r u g : ℕ) → mine.restart < r → (yours.epochs r u g).called ≡ None
  pub last_use : (u g : ℕ) → mine.use_ < u → (yours.epochs mine.restart u g).called ≡ None

-- an epoch in which nothing was done, whatever is known of the call
abbrev pub HasNoLogs : Epoch → Type 0
HasNoLogs e = e ≡ record empty_epoch { called = e.called; answered = e.answered }

-- nothing is known of a later restart, nor of a later use of the present restart, and nothing was done in a later epoch
-- of the present use
pub record IsBegun (st : History) : Type 0 where
  pub restarts : (r u g : ℕ) → st.restart < r → st.epochs r u g ≡ empty_epoch
  pub uses : (u g : ℕ) → st.use_ < u → st.epochs st.restart u g ≡ empty_epoch
  pub epochs : (g : ℕ) → st.epoch < g → HasNoLogs (st.epochs st.restart st.use_ g)

-- all epochs of a use say the same of its call
pub record IsOneCall (st : History) : Type 0 where
  pub called : (r u g h : ℕ) → (st.epochs r u g).called ≡ (st.epochs r u h).called
  pub answered : (r u g h : ℕ) → (st.epochs r u g).answered ≡ (st.epochs r u h).answered

-- in the present use this end placed no call, accepted none and did nothing
pub record IsUnused (st : History) : Type 0 where
  pub first : st.epoch ≡ 0
  pub empty : (g : ℕ) → st.epochs st.restart st.use_ g ≡ empty_epoch

-- it placed a call and did nothing else
pub record HasPlaced (st : History) : Type 0 where
  pub parts : CallParts
  pub first : st.epoch ≡ 0
  pub placed : (g : ℕ) → st.epochs st.restart st.use_ g ≡ with_call parts empty_epoch

-- in a call this end placed it or accepted it; the DCE alone may have done both, after a collision
abbrev pub HasCall : Role → (called : Option CallParts) → (answered : Bool) → Type 0
HasCall role None false = ⊥
HasCall Dte (Some parts) true = ⊥
HasCall role called answered = Unit {0}

-- what the state of the channel at an end says of the present use: in p1, which is the state in r2 and r3 too, during
-- the own clear, and while the other end's call waits, it is unused
abbrev pub InUse : Role → ChannelState → History → Type 0
InUse role OwnWaiting st = HasPlaced st
InUse role Collision st = HasPlaced st
InUse role Transfer st = HasCall role (epoch_now st).called (epoch_now st).answered
InUse role state st = IsUnused st

-- in a use in which an end did anything, one of the two ends accepted a call, and never do both; where an end accepted
-- one, the other end had placed one
pub record OneAnswers (mine yours : History) : Type 0 where
  pub answered : (r u g : ℕ) → (HasNoLogs (mine.epochs r u g) → ⊥)
      → ((mine.epochs r u g).answered || (yours.epochs r u g).answered) ≡ true
  pub never_both : (r u g : ℕ) → ((mine.epochs r u g).answered && (yours.epochs r u g).answered) ≡ false
  pub was_called : (r u g : ℕ) → (mine.epochs r u g).answered ≡ true → is_some (yours.epochs r u g).called ≡ true

-- at one end, up in the session or not
pub record HoldsAt (e : End) (s c : ℕ) : Type 0 where
  pub begun : IsBegun (e.histories s c)
  pub one_call : IsOneCall (e.histories s c)
  pub in_use : (ch : Channel) → e.session ≡ Some s → channel_of e.layer c ≡ Some ch
      → InUse e.layer.role ch.state (e.histories s c)

-- in data transfer: one of the two ends accepted the call
abbrev pub IsAccepted : End → (yours : History) → (s c : ℕ) → Type 0
IsAccepted e yours s c = (ch : Channel) (g : ℕ) → e.session ≡ Some s → channel_of e.layer c ≡ Some ch
    → ch.state ≡ Transfer → let mine = e.histories s c in
    ((mine.epochs mine.restart mine.use_ g).answered || (yours.epochs mine.restart mine.use_ g).answered) ≡ true

-- on channel c in session s, both ways: each epoch of the one end is aligned with the epoch of the same restart, use
-- and reset at the other end (which is empty where there is none); the histories are in step; where nothing is on its
-- way, nothing is missing; a Call that makes an Incoming Call is the one that the other end placed; at each end the
-- history goes with the state of the channel, and of the two ends of a call one accepted it, as soon as one of them is
-- in data transfer
pub record Holds (w : Line) (s c : ℕ) : Type 0 where
  pub forth : (r u g : ℕ) → Aligned ((w.me.histories s c).epochs r u g) ((w.you.histories s c).epochs r u g)
  pub back : (r u g : ℕ) → Aligned ((w.you.histories s c).epochs r u g) ((w.me.histories s c).epochs r u g)
  pub in_step : InStep (w.me.histories s c) (w.you.histories s c)
  pub at_rest : (a b : Channel) → Quiet w s c a b → AtRest w s c a b
  pub call_here : (parts : CallParts) → CallArrives w s c parts
      → CallKnown (w.me.histories s c) (w.you.histories s c) parts
  pub call_there : (parts : CallParts) → CallArrives (turned w) s c parts
      → CallKnown (w.you.histories s c) (w.me.histories s c) parts
  pub here : HoldsAt w.me s c
  pub there : HoldsAt w.you s c
  pub answers_here : OneAnswers (w.me.histories s c) (w.you.histories s c)
  pub answers_there : OneAnswers (w.you.histories s c) (w.me.histories s c)
  pub accepted_here : IsAccepted w.me (w.you.histories s c) s c
  pub accepted_there : IsAccepted w.you (w.me.histories s c) s c

-- no packet that arrives at an end is a procedure error there
abbrev pub NoFault : Line → Type 0
NoFault w = (s : ℕ) (p : Packet) → w.me.session ≡ Some s → next_of_session w s ≡ Some p → is_fault w.me.layer p ≡ false

-- whatever happens on a line with any number of channels and a window below the modulus, standing or not, on each of its
-- channels
abbrev pub LineLaw : Type 0
LineLaw = (channels : ℕ) (flow : Flow) (standing : Bool) → 1 ≤ channels → flow.window < modulus flow.numbering → (hs : List Happening)
    → let w = after hs (start_line channels flow standing) in
    ((s c : ℕ) → 1 ≤ c → c ≤ channels → Holds w s c) × NoFault w × NoFault (turned w)
