-- A run of a packet layer, by computation: it meets what the law asks for.
use Rattle.std.specs.Prelude.{◌≡◌, ℕ, zero, suc, ◌*◌, ◌%◌, true, false, List, [], ◌∷◌, ◌++◌, Some}
use Rattle.link_timers.specs.declared.role.Role.TheVariants.{Dte}
use Rattle.data_transfer.specs.Flow.{modulo_8, modulo_128}
use Rattle.data_transfer.specs.Packets.{Datum, Body}
use Rattle.data_transfer.specs.Packets.Body.{Data, ReceiveReady}
use Rattle.packet_channel.specs.Channel.Request.{Sending, Taking, Releasing}
use Rattle.packet_layer.specs.Layer.{next_packet}
use Rattle.packet_layer.specs.Params.{AreParams}
use Rattle.packet_laws.specs.History.{empty_epoch}
use Rattle.packet_laws.specs.Layers.Acts.{World, Act, start, run}
use Rattle.packet_laws.specs.Layers.Acts.Act.{Requests, Arrives, Offers}
use Rattle.packet_laws.specs.Layers.Counts.{AllAgree}

abbrev pub letter : Datum
letter = record { octets = 72 ∷ 73 ∷ []; more = false; qualified = false; delivery = true }

-- a DTE with one channel, a window of 2 and a standing call: two packets are asked for, and one of them goes to the
-- link
abbrev pub sends : List Act
sends = Requests 1 (Sending letter) ∷ Requests 1 (Sending letter) ∷ Offers ∷ []

-- so does the other one, and an RR covers the first
abbrev pub covers : List Act
covers = Offers ∷ Arrives (0x10 ∷ 1 ∷ 0x21 ∷ []) ∷ []

-- a Data packet comes and covers both; it is taken and released
abbrev pub takes : List Act
takes = Arrives (0x50 ∷ 1 ∷ 0x40 ∷ 72 ∷ 73 ∷ []) ∷ Requests 1 Taking ∷ Requests 1 (Releasing 1) ∷ []

-- a packet of an unknown type resets the call
abbrev pub errs : List Act
errs = Arrives (0x10 ∷ 1 ∷ 0x07 ∷ []) ∷ []

-- the Reset packet goes and is confirmed, and a packet is asked for
abbrev pub begins : List Act
begins = Offers ∷ Arrives (0x10 ∷ 1 ∷ 0x1f ∷ []) ∷ Requests 1 (Sending letter) ∷ []

abbrev pub sent : World
sent = run sends (start Dte 1 (modulo_8 2) true)

abbrev pub covered : World
covered = run covers sent

abbrev pub taken : World
taken = run takes covered

abbrev pub reset : World
reset = run errs taken

abbrev pub begun : World
begun = run begins reset

-- a DTE on a line with numbers modulo 128 and a window of 32: so many packets go one by one, and each is covered by an RR
abbrev pub one_by_one : ℕ → List Act
one_by_one zero = []
one_by_one (suc n) =
    one_by_one n ++ (Requests 1 (Sending letter) ∷ Offers ∷ Arrives (0x20 ∷ 1 ∷ 1 ∷ 2 * (suc n % 128) ∷ []) ∷ [])

-- so many come one by one, and each is taken and released
abbrev pub came : ℕ → List Act
came zero = []
came (suc n) =
    came n
    ++ (Arrives (0x20 ∷ 1 ∷ 2 * (n % 128) ∷ 0 ∷ 72 ∷ []) ∷ Requests 1 Taking ∷ Requests 1 (Releasing 1) ∷ Offers ∷ [])

abbrev pub many_sent : World
many_sent = run (one_by_one 130) (start Dte 1 (modulo_128 32) true)

abbrev pub many_taken : World
many_taken = run (came 130) (start Dte 1 (modulo_128 32) true)

-- on channel 1, this goes to the link next
abbrev pub GoesNext : World → Body → Type 0
GoesNext w b = (next_packet w.layer).packet ≡ Some (record { channel = 1; body = b })

pub record RunLaw : Type 0 where
  pub parameters : AreParams 1 (modulo_8 2)
  pub second_place : GoesNext sent (Data 1 0 letter)
  pub one_covered : (covered.epochs 1).covered ≡ 1
  pub all_covered : (taken.epochs 1).covered ≡ 2
  pub is_taken : (taken.epochs 1).taken ≡ letter ∷ []
  pub one_released : GoesNext taken (ReceiveReady 1)
  pub anew : reset.epochs 1 ≡ empty_epoch
  pub first_place : GoesNext begun (Data 0 0 letter)
  pub covered_past_127 : (many_sent.epochs 1).covered ≡ 130
  pub place_past_127 : GoesNext (run (Requests 1 (Sending letter) ∷ []) many_sent) (Data 2 0 letter)
  pub released_past_127 : (many_taken.epochs 1).released ≡ 130
  pub answer_past_127 : GoesNext (run (Requests 1 (Sending letter) ∷ []) many_taken) (Data 0 2 letter)
  pub agrees : AllAgree begun
