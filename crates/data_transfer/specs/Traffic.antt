-- Data transfer on a channel from one reset to the next (X.25 4.3 and 4.4): queues, P(S) and P(R), the window, busy
-- states, interrupts.
use Rattle.std.specs.Prelude.{ℕ, ◌+◌, ◌-◌, ◌%◌, Bool, true, false, if◌then◌else◌, not, ◌&&◌, ◌||◌, ◌==◌, nat_lt, nat_le}
use Rattle.std.specs.Prelude.{List, [], ◌∷◌, ◌++◌, length, Option, Some, None, is_some}
use Rattle.packet_codec.specs.Diagnostic.{no_information, invalid_send_number, invalid_receive_number}
use Rattle.data_transfer.specs.Packets.{Datum, Body}
use Rattle.data_transfer.specs.Packets.Body.{Data, Interrupt, InterruptConfirmation, ReceiveReady, ReceiveNotReady}
use Rattle.data_transfer.specs.Flow.{shown, ahead_shown}
use Rattle.data_transfer.specs.declared.flow.Flow.{Flow}

pub record Traffic : Type 0 where
  -- packets waiting to be sent, the P(S) of the next one, and the P(R) received last (both kept modulo 128)
  pub waiting : List Datum
  pub send_number : ℕ
  pub covered : ℕ
  -- how many of the packets not yet covered, the oldest first, have to be covered until all with D = 1 are
  pub undelivered : ℕ
  -- packets to be taken, the P(S) expected, the P(R) that may be sent (kept modulo 128), and whether the partner has to be
  -- told of it
  pub arrived : List Datum
  pub receive_number : ℕ
  pub released : ℕ
  pub untold : Bool
  -- the partner sent RNR; this end is to say RNR; it did
  pub partner_busy : Bool
  pub stopped : Bool
  pub told_stopped : Bool
  -- the interrupt to be sent, whether one is sent and unconfirmed; the one to be taken, whether one is taken and
  -- unconfirmed, whether its confirmation is to be sent
  pub interrupt_waiting : Option (List ℕ)
  pub interrupt_unconfirmed : Bool
  pub interrupt_arrived : Option (List ℕ)
  pub interrupt_taken : Bool
  pub confirmation_due : Bool

-- as a call or a reset begins it
abbrev pub fresh : Traffic
fresh = record {
  waiting = [];
  send_number = 0;
  covered = 0;
  undelivered = 0;
  arrived = [];
  receive_number = 0;
  released = 0;
  untold = false;
  partner_busy = false;
  stopped = false;
  told_stopped = false;
  interrupt_waiting = None;
  interrupt_unconfirmed = false;
  interrupt_arrived = None;
  interrupt_taken = false;
  confirmation_due = false;
}

-- the counts that numbers modulo 128 stand for, since no window is above 127: packets sent and not covered, packets
-- accepted and not released
abbrev pub distance : ℕ → ℕ → ℕ
distance from to = (to + 128 - from) % 128

abbrev pub in_flight : Traffic → ℕ
in_flight t = distance t.covered t.send_number

abbrev pub unreleased : Traffic → ℕ
unreleased t = distance t.released t.receive_number

abbrev pub interrupt_pending : Traffic → Bool
interrupt_pending t = is_some t.interrupt_waiting || t.interrupt_unconfirmed

-- ---- what the user does

abbrev pub queue : Datum → Traffic → Traffic
queue d t = record t {
  waiting = t.waiting ++ d ∷ [];
  undelivered = if d.delivery then in_flight t + length t.waiting + 1 else t.undelivered;
}

abbrev pub queue_interrupt : List ℕ → Traffic → Traffic
queue_interrupt octets t = record t { interrupt_waiting = Some octets }

abbrev pub stopping : Bool → Traffic → Traffic
stopping b t = record t { stopped = b }

-- what `take` gives: an interrupt before all packets
pub data Taken : Type 0 where
  TakenInterrupt : List ℕ → Taken
  TakenPacket : Datum → Taken

abbrev pub front_of : Option (List ℕ) → List Datum → Option Taken
front_of (Some octets) ds = Some (Taken.TakenInterrupt octets)
front_of None [] = None
front_of None (d ∷ ds) = Some (Taken.TakenPacket d)

abbrev pub front : Traffic → Option Taken
front t = front_of t.interrupt_arrived t.arrived

abbrev pub taking_of : Option (List ℕ) → List Datum → Traffic → Traffic
taking_of (Some octets) ds t = record t { interrupt_arrived = None; interrupt_taken = true }
taking_of None [] t = t
taking_of None (d ∷ ds) t = record t { arrived = ds }

abbrev pub taking : Traffic → Traffic
taking t = taking_of t.interrupt_arrived t.arrived t

-- P(R) may pass n more of the packets that were taken
abbrev pub may_release : ℕ → Traffic → Bool
may_release n t = nat_le (n + length t.arrived) (unreleased t)

abbrev pub releasing : ℕ → Traffic → Traffic
releasing n t = record t { released = (t.released + n) % 128; untold = t.untold || nat_lt 0 n }

abbrev pub confirming : Traffic → Traffic
confirming t = record t { interrupt_taken = false; confirmation_due = true }

-- ---- what goes to the link: the interrupt confirmation, the interrupt, data within the window, and RR or RNR where
-- the partner does not know the present P(R) or whether this end is stopped

pub record Said : Type 0 where
  pub traffic : Traffic
  pub body : Option Body

abbrev pub ready_or_not : Bool → ℕ → Body
ready_or_not true n = ReceiveNotReady n
ready_or_not false n = ReceiveReady n

abbrev pub same_flag : Bool → Bool → Bool
same_flag true b = b
same_flag false b = not b

abbrev pub flow_told : Traffic → Bool
flow_told t = not t.untold && same_flag t.told_stopped t.stopped

-- nothing waits to be sent or taken, and nothing is to be told
abbrev pub rests : Traffic → Bool
rests t =
    (length t.waiting == 0) && (length t.arrived == 0) && not (is_some t.interrupt_waiting)
    && not (is_some t.interrupt_arrived)
    && not t.confirmation_due && flow_told t

abbrev pub says_flow : Flow → Traffic → Said
says_flow flow t =
    if flow_told t
    then record { traffic = t; body = None }
    else record {
      traffic = record t { untold = false; told_stopped = t.stopped };
      body = Some (ready_or_not t.stopped (shown flow.numbering t.released));
    }

abbrev pub window_open : Flow → Traffic → Bool
window_open flow t = nat_lt (in_flight t) flow.window && not t.partner_busy

abbrev pub says_data : Flow → List Datum → Traffic → Said
says_data flow [] t = says_flow flow t
says_data flow (d ∷ ds) t =
    if window_open flow t
    then record {
      traffic = record t { waiting = ds; send_number = (t.send_number + 1) % 128; untold = false };
      body = Some (Data (shown flow.numbering t.send_number) (shown flow.numbering t.released) d);
    }
    else says_flow flow t

abbrev pub says_interrupt : Flow → Option (List ℕ) → Traffic → Said
says_interrupt flow (Some octets) t = record {
  traffic = record t { interrupt_waiting = None; interrupt_unconfirmed = true };
  body = Some (Interrupt octets);
}
says_interrupt flow None t = says_data flow t.waiting t

abbrev pub says : Flow → Traffic → Said
says flow t =
    if t.confirmation_due
    then record { traffic = record t { confirmation_due = false }; body = Some InterruptConfirmation }
    else says_interrupt flow t.interrupt_waiting t

-- ---- what comes from the link

-- what came is kept and covers some packets, confirms the interrupt, or is a procedure error with its diagnostic
pub data Heard : Type 0 where
  Keeps : (newly : ℕ) → Traffic → Heard
  Confirms : Traffic → Heard
  Wrong : (diagnostic : ℕ) → Heard

-- so many more packets are covered
abbrev pub covering : ℕ → Traffic → Traffic
covering newly t = record t { covered = (t.covered + newly) % 128; undelivered = t.undelivered - newly }

-- a P(R) is valid if it names a packet that is not covered yet, or the next one to be sent; it counts by how many
-- packets it covers
abbrev pub covers : Flow → ℕ → Traffic → Heard
covers flow receive t =
    if nat_le (ahead_shown flow.numbering t.covered receive) (in_flight t)
    then Heard.Keeps (ahead_shown flow.numbering t.covered receive)
    (covering (ahead_shown flow.numbering t.covered receive) t)
    else Heard.Wrong invalid_receive_number

abbrev pub keeps : (Traffic → Traffic) → Heard → Heard
keeps f (Heard.Keeps n t) = Heard.Keeps n (f t)
keeps f (Heard.Confirms t) = Heard.Confirms t
keeps f (Heard.Wrong d) = Heard.Wrong d

abbrev pub arrives : Datum → Traffic → Traffic
arrives d t = record t { arrived = t.arrived ++ d ∷ []; receive_number = (t.receive_number + 1) % 128 }

abbrev pub partner_says : Bool → Traffic → Traffic
partner_says b t = record t { partner_busy = b }

-- an interrupt before the confirmation of the last one went to the link
abbrev pub interrupted : Traffic → Bool
interrupted t = is_some t.interrupt_arrived || (t.interrupt_taken || t.confirmation_due)

abbrev pub hears_interrupt : List ℕ → Traffic → Heard
hears_interrupt octets t =
    if interrupted t then Heard.Wrong no_information else Heard.Keeps 0 (record t { interrupt_arrived = Some octets })

abbrev pub hears_confirmation : Traffic → Heard
hears_confirmation t =
    if t.interrupt_unconfirmed
    then Heard.Confirms (record t { interrupt_unconfirmed = false })
    else Heard.Wrong no_information

-- a Data packet needs the expected P(S), room in the window of what is not released, and then a valid P(R)
abbrev pub hears : Flow → Traffic → Body → Heard
hears flow t (Data send receive d) =
    if (send == shown flow.numbering t.receive_number) && nat_lt (unreleased t) flow.window
    then keeps (λ u. arrives d u) (covers flow receive t)
    else Heard.Wrong invalid_send_number
hears flow t (ReceiveReady receive) = keeps (λ u. partner_says false u) (covers flow receive t)
hears flow t (ReceiveNotReady receive) = keeps (λ u. partner_says true u) (covers flow receive t)
hears flow t (Interrupt octets) = hears_interrupt octets t
hears flow t InterruptConfirmation = hears_confirmation t
hears flow t _ = Heard.Wrong no_information
