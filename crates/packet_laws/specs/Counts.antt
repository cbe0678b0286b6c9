-- What the numbers of data transfer name (X.25 4.4.1): at one end alone, whatever its partner is.
use Rattle.std.specs.Prelude.{◌≡◌, ℕ, zero, suc, ◌+◌, ◌-◌, ◌%◌, ◌<◌, ◌≤◌, ◌↔◌, Bool, true, if◌then◌else◌, List, [], ◌∷◌}
use Rattle.std.specs.Prelude.{◌++◌}
use Rattle.std.specs.Prelude.{length, Option, Some}
use Rattle.data_transfer.specs.Flow.{modulus, shown}
use Rattle.data_transfer.specs.declared.flow.Flow.{Flow}
use Rattle.data_transfer.specs.Packets.{Datum, Body}
use Rattle.data_transfer.specs.Packets.Body.{Data, ReceiveReady, ReceiveNotReady}
use Rattle.data_transfer.specs.Traffic.{Traffic, Heard, says, hears}
use Rattle.data_transfer.specs.Traffic.Heard.{Keeps, Confirms, Wrong}
use Rattle.packet_channel.specs.Channel.{Request, traffic_after}
use Rattle.packet_laws.specs.History.{Epoch, logged, logged_heard, empty_epoch}

-- how many packets there are up to the last one with D = 1, none where there is no such packet
abbrev pub or_first : Bool → ℕ → ℕ
or_first delivery zero = if delivery then 1 else 0
or_first delivery (suc n) = suc (suc n)

abbrev pub through_delivery : List Datum → ℕ
through_delivery [] = 0
through_delivery (d ∷ ds) = or_first d.delivery (through_delivery ds)

-- the traffic of a channel and its epoch: the packets that went to the link, then those that wait, are those sent; P(S)
-- names the next place, the P(R) received last how many are covered, the P(S) expected how many came, and the P(R) to
-- be sent how many are released. Within the window are the packets that went and are not covered, and those that came
-- and are not released; what is still to be covered ends with the last packet that has D = 1
pub record NamesCounts (flow : Flow) (t : Traffic) (e : Epoch) : Type 0 where
  pub gone : List Datum
  pub sent : gone ++ t.waiting ≡ e.sent
  pub send : t.send_number ≡ length gone % 128
  pub covered : t.covered ≡ e.covered % 128
  pub covered_went : e.covered ≤ length gone
  pub went_within : length gone ≤ e.covered + flow.window
  pub expected : t.receive_number ≡ (length e.taken + length t.arrived) % 128
  pub released : t.released ≡ e.released % 128
  pub released_taken : e.released ≤ length e.taken
  pub came_within : length e.taken + length t.arrived ≤ e.released + flow.window
  pub undelivered : t.undelivered ≡ through_delivery e.sent - e.covered

-- a Data packet that goes to the link, leaving some to wait, is the one before these in the list of those sent, and
-- P(S) shows its place; each P(R) shows how many were released
abbrev pub NamesPlace : Flow → Epoch → (waiting : List Datum) → Option Body → Type 0
NamesPlace flow e waiting (Some (Data send receive d)) =
    ((before : List Datum) × ((before ++ d ∷ waiting ≡ e.sent) × (send ≡ shown flow.numbering (length before))))
    × (receive ≡ shown flow.numbering e.released)
NamesPlace flow e waiting (Some (ReceiveReady receive)) = receive ≡ shown flow.numbering e.released
NamesPlace flow e waiting (Some (ReceiveNotReady receive)) = receive ≡ shown flow.numbering e.released
NamesPlace flow e waiting o = Unit {0}

-- a Data packet that is kept has the P(S) that shows how many came before it
abbrev pub NamesNext : Flow → Traffic → Epoch → Body → Type 0
NamesNext flow t e (Data send receive d) = send ≡ shown flow.numbering (length e.taken + length t.arrived)
NamesNext flow t e b = Unit {0}

abbrev pub NamesAfter : (flow : Flow) → Heard → Traffic → Epoch → Body → Type 0
NamesAfter flow (Keeps n t) old e b = NamesCounts flow t (logged_heard (Keeps n t) e) × NamesNext flow old e b
NamesAfter flow (Confirms t) old e b = NamesCounts flow t e
NamesAfter flow (Wrong d) old e b = Unit {0}

-- each packet that was sent with D = 1 in the epoch is covered
abbrev pub AreDelivered : Epoch → Type 0
AreDelivered e = (before after : List Datum) (d : Datum) → before ++ d ∷ after ≡ e.sent → d.delivery ≡ true
    → length before < e.covered

-- so it is at the beginning of an epoch and stays so over all that is asked, said and heard, with a window below
-- the modulus; and nothing is still to be covered exactly where all packets with D = 1 are
pub record CountsLaw : Type 0 where
  pub begins : (flow : Flow) → NamesCounts flow Rattle.data_transfer.specs.Traffic.fresh empty_epoch
  pub asked : (flow : Flow) → flow.window < modulus flow.numbering → (t : Traffic) (e : Epoch) (r : Request) → NamesCounts flow t e
      → NamesCounts flow (traffic_after r t) (logged t r e)
  pub said : (flow : Flow) → flow.window < modulus flow.numbering → (t : Traffic) (e : Epoch) → NamesCounts flow t e
      → NamesCounts flow (says flow t).traffic e × NamesPlace flow e (says flow t).traffic.waiting (says flow t).body
  pub heard : (flow : Flow) → flow.window < modulus flow.numbering → (t : Traffic) (e : Epoch) (b : Body) → NamesCounts flow t e
      → NamesAfter flow (hears flow t b) t e b
  pub delivered : (flow : Flow) (t : Traffic) (e : Epoch) → NamesCounts flow t e → (t.undelivered ≡ 0) ↔ AreDelivered e
