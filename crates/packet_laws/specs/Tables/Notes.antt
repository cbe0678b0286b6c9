-- What a packet layer tells in data transfer, where a session of the link begins or ends, and by an expiry.
use Rattle.std.specs.Prelude.{◌≡◌, ◌≢◌, ℕ, ◌+◌, ◌%◌, ◌<◌, ◌≤◌, ◌⊎◌, true, false, List, [], ◌∷◌, Some, slice_get}
use Rattle.packet_codec.specs.ClearCause as clear_cause
use Rattle.packet_codec.specs.ResetCause as reset_cause
use Rattle.packet_codec.specs.Diagnostic.{no_information, invalid_send_number, invalid_receive_number}
use Rattle.data_transfer.specs.declared.flow.Flow.{Flow}
use Rattle.data_transfer.specs.Flow.{shown, ahead_shown}
use Rattle.data_transfer.specs.Packets.{Body, Note, Reason}
use Rattle.data_transfer.specs.Packets.Body.{Data, Interrupt, InterruptConfirmation, ReceiveReady, ReceiveNotReady}
use Rattle.data_transfer.specs.Packets.Note.{Closed, WasReset, InterruptConfirmed, Covered}
use Rattle.data_transfer.specs.Packets.Reason.{LocalFault, LinkLost}
use Rattle.data_transfer.specs.Traffic.{Traffic, in_flight, unreleased, interrupted}
use Rattle.packet_channel.specs.Channel.{Channel, Step, had_call}
use Rattle.packet_layer.specs.Layer.{Layer, Timer, link_up, link_down, runs, on_timer}
use Rattle.packet_layer.specs.Layer.Timer.{RestartTimer, CallTimer, ResetTimer, ClearTimer}

-- ---- data transfer

-- a procedure error resets the call, and this is all that is told
abbrev pub TellsReset : ℕ → (diagnostic : ℕ) → Step → Type 0
TellsReset c diagnostic done = done.notes ≡ WasReset c reset_cause.local_procedure_error diagnostic LocalFault ∷ []

-- n packets more are covered, and told of if there are any
pub record TellsCovered (c n : ℕ) (t : Traffic) (done : Step) : Type 0 where
  pub counted : done.channel.traffic.covered ≡ (t.covered + n) % 128
  pub none : n ≡ 0 → done.notes ≡ []
  pub some : 0 < n → done.notes ≡ Covered c n ∷ []

-- by a P(R), which covers as many packets as it is ahead of the last one; more than are on the way are an error
pub record TellsNumber (flow : Flow) (c receive : ℕ) (t : Traffic) (done : Step) : Type 0 where
  pub valid : ahead_shown flow.numbering t.covered receive ≤ in_flight t
      → TellsCovered c (ahead_shown flow.numbering t.covered receive) t done
  pub wrong : in_flight t < ahead_shown flow.numbering t.covered receive → TellsReset c invalid_receive_number done

-- a Data packet needs the expected P(S) and room in the window before its P(R) counts
pub record TellsData (flow : Flow) (c send receive : ℕ) (t : Traffic) (done : Step) : Type 0 where
  pub expected : send ≡ shown flow.numbering t.receive_number → unreleased t < flow.window
      → TellsNumber flow c receive t done
  pub unexpected : send ≢ shown flow.numbering t.receive_number → TellsReset c invalid_send_number done
  pub full : flow.window ≤ unreleased t → TellsReset c invalid_send_number done

-- an interrupt is told of when it is taken, one that comes before the last is confirmed is an error
pub record TellsInterrupt (c : ℕ) (t : Traffic) (done : Step) : Type 0 where
  pub first : interrupted t ≡ false → done.notes ≡ []
  pub second : interrupted t ≡ true → TellsReset c no_information done

-- a confirmation is told of if an interrupt waits for it, and else is an error
pub record TellsConfirmation (c : ℕ) (t : Traffic) (done : Step) : Type 0 where
  pub waited : t.interrupt_unconfirmed ≡ true → done.notes ≡ InterruptConfirmed c ∷ []
  pub unasked : t.interrupt_unconfirmed ≡ false → TellsReset c no_information done

abbrev pub TellsTransfer : Flow → ℕ → Traffic → Body → Step → Type 0
TellsTransfer flow c t (Data send receive d) done = TellsData flow c send receive t done
TellsTransfer flow c t (ReceiveReady receive) done = TellsNumber flow c receive t done
TellsTransfer flow c t (ReceiveNotReady receive) done = TellsNumber flow c receive t done
TellsTransfer flow c t (Interrupt octets) done = TellsInterrupt c t done
TellsTransfer flow c t InterruptConfirmation done = TellsConfirmation c t done
TellsTransfer flow c t _ done = Unit {0}

-- ---- all calls close

abbrev pub closing : ℕ → Reason → Note
closing c reason = Closed c clear_cause.out_of_order no_information reason

-- each channel that has a call, counted from this number on, is told of once, in rising order, and nothing else is
pub record TellsClosing (reason : Reason) (first : ℕ) (chs : List Channel) (notes : List Note) : Type 0 where
  pub each : (place : ℕ) (ch : Channel) → slice_get chs place ≡ Some ch → had_call ch.state ≡ true
      → (k : ℕ) × (slice_get notes k ≡ Some (closing (first + place) reason))
  pub only : (k : ℕ) (note : Note) → slice_get notes k ≡ Some note
      → (place : ℕ) × (ch : Channel) × (slice_get chs place ≡ Some ch) × (had_call ch.state ≡ true)
      × (note ≡ closing (first + place) reason)
  pub rises : (j k c d : ℕ) → j < k → slice_get notes j ≡ Some (closing c reason)
      → slice_get notes k ≡ Some (closing d reason) → c < d

-- where a session of the link begins or ends
abbrev pub SessionNotes : Type 0
SessionNotes = (l : Layer)
    → TellsClosing LinkLost 1 l.channels (link_up l).notes × TellsClosing LinkLost 1 l.channels (link_down l).notes

-- an expiry clears the call of its channel, or restarts the line's packet layer, which closes all calls
abbrev pub TellsExpiry : Layer → Timer → List Note → Type 0
TellsExpiry l RestartTimer notes = notes ≡ []
TellsExpiry l (CallTimer c) notes = notes ≡ Closed c clear_cause.local_procedure_error no_information LocalFault ∷ []
TellsExpiry l (ResetTimer c) notes = notes ≡ Closed c clear_cause.local_procedure_error no_information LocalFault ∷ []
TellsExpiry l (ClearTimer c) notes = TellsClosing LocalFault 1 l.channels notes

abbrev pub ExpiryNotes : Type 0
ExpiryNotes = (l : Layer) (t : Timer) → runs l t ≡ true → TellsExpiry l t (on_timer l t).notes
