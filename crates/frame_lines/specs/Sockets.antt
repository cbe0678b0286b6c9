-- What a line over sockets promises, and what it asks of the partners at its ends.
use Rattle.std.specs.Prelude.{◌≡◌, ◌≢◌, ◌<◌, ◌≤◌, ℕ, Bool, true, false, List, length, take}
use Rattle.std.specs.Prelude.{Result, Ok, IfOk, IsOkAnd}
use Rattle.std.specs.declared.io.Error.{Error}
use Rattle.frame_lines.specs.declared.line.Direction.{Direction}
use Rattle.frame_lines.specs.declared.line.Direction.TheVariants.{FromDte, FromDce}
use Rattle.frame_lines.specs.Lines.{LineService}

-- nothing: it is not known to be faithful
abbrev pub socket_service : LineService
socket_service = record { faithful = ⊥; may_keep = λ d f. Unit {0}; may_lose = λ d f. ⊥ }

-- ---- the partners of a direction

abbrev pub sender : {D : Type 0} → Direction → (dte dce : D) → D
sender FromDte dte dce = dte
sender FromDce dte dce = dce

abbrev pub receiver : {D : Type 0} → Direction → (dte dce : D) → D
receiver FromDte dte dce = dce
receiver FromDce dte dce = dte

-- ---- what is asked of them

-- a datagram of these octets was sent once, and it is known whether it went cut
pub record Sends (D : Type 0) (Sent : D → List ℕ → Result ℕ Error → D → Type 0) (octets : List ℕ)
    (before : D) (cut : Bool) (after : D) : Type 0 where
  pub answer : Result ℕ Error
  pub sent : Sent before octets answer after
  pub is_cut : cut ≡ true → IsOkAnd answer (λ count. count ≢ length octets)
  pub is_not_cut : cut ≡ false → IfOk answer (λ count. count ≡ length octets)

-- a frame was put: a datagram of its octets was sent once, and nothing was received if it did not go cut
pub record Puts (D : Type 0) (Sent : D → List ℕ → Result ℕ Error → D → Type 0) (frame : List ℕ)
    (sender_before sender_after receiver_before receiver_after : D) : Type 0 where
  pub cut : Bool
  pub sends : Sends D Sent frame sender_before cut sender_after
  pub others : cut ≡ false → receiver_after ≡ receiver_before

-- a datagram is a frame if it has octets, and no more than a frame
abbrev pub IsFrame : (count : ℕ) → Type 0
IsFrame count = (0 < count) × (count ≤ 1030)

-- a datagram was received once: where it is a frame this was taken whole, and else none was
pub record Takes (D : Type 0) (Received : D → Result ℕ Error → List ℕ → D → Type 0)
    (before : D) (taken : Bool) (frame : List ℕ) (after : D) : Type 0 where
  pub answer : Result ℕ Error
  pub octets : List ℕ
  pub received : Received before answer octets after
  pub is_frame : taken ≡ true → (count : ℕ) × (answer ≡ Ok count) × IsFrame count × (frame ≡ take count octets)
  pub is_none : taken ≡ false → IfOk answer (λ count. ¬ IsFrame count)
