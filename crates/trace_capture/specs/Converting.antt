-- What becomes of a run of the program that makes a capture.
use Rattle.std.specs.Prelude.{◌≡◌, ◌<◌, ◌≤◌, ℕ, List, ◌∷◌, ◌++◌, [], length, Option, IfSome, codes, decimal}
use Rattle.std.specs.Io.KnownBytes.{Appends}
use Rattle.octet_streams.specs.Written.{Writes, IsFrontOf}
use Rattle.octet_streams.specs.declared.reading.ReadFault.{ReadFault}
use Rattle.octet_streams.specs.declared.reading.ReadFault.TheVariants as read_fault_is
use Rattle.trace_capture.specs.declared.fault.TraceFault.{TraceFault}
use Rattle.trace_capture.specs.declared.fault.TraceFault.TheVariants.{Line, TooLong, Input, Write, OutOfMemory}
use Rattle.trace_capture.specs.Capture.{IsCapture, IsTraceFault}

-- a trace that is read has at most so many octets, and is all that a reader had left
pub record IsTrace (left : Option (List ℕ)) (text : List ℕ) : Type 0 where
  pub size : length text ≤ 67108864
  pub whole : IfSome left (λ octets. text ≡ octets)

-- the capture of all that a reader had left was written behind what was known to be written
pub record Converts (left before after : Option (List ℕ)) : Type 0 where
  pub text : List ℕ
  pub read : IsTrace left text
  pub capture : List ℕ
  pub is_capture : IsCapture text capture
  pub written : Appends before after capture

-- why a trace is not read: memory was wanted, a read failed, or there are more octets
pub data IsReadFault (left : Option (List ℕ)) : TraceFault → Type 0 where
  no_memory : IsReadFault left OutOfMemory
  failed : IsReadFault left Input
  too_long : IfSome left (λ octets. 67108864 < length octets) → IsReadFault left TooLong

-- or it was not: the trace was not read, or no capture was made of it, each before anything was written; or the output
-- refused octets, and a front of the capture was written
pub data ConvertFails (left before after : Option (List ℕ)) : TraceFault → Type 0 where
  unread : {fault : TraceFault} → IsReadFault left fault → after ≡ before → ConvertFails left before after fault
  no_capture : {fault : TraceFault} (text : List ℕ) → IsTrace left text → IsTraceFault text fault → after ≡ before
      → ConvertFails left before after fault
  unwritten : (text capture : List ℕ) → IsTrace left text → IsCapture text capture
      → Writes before after (IsFrontOf capture) → ConvertFails left before after Write

-- the fault of a failed read
abbrev pub reading_fault : ReadFault → TraceFault
reading_fault read_fault_is.OutOfMemory = OutOfMemory
reading_fault read_fault_is.TooLong = TooLong
reading_fault read_fault_is.Failed = Input

-- the line that tells a fault
abbrev pub fault_line : TraceFault → List ℕ
fault_line (Line number) = codes "line " ++ (decimal number ++ (codes " is no frame" ++ 10 ∷ []))
fault_line TooLong = codes "the trace is too long" ++ 10 ∷ []
fault_line Input = codes "the trace could not be read" ++ 10 ∷ []
fault_line Write = codes "the capture could not be written" ++ 10 ∷ []
fault_line OutOfMemory = codes "no memory was left" ++ 10 ∷ []
