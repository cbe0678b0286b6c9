-- Why no capture is made.
use Rattle.std.proofs.Common.{◌≡◌, ◌<◌, ℕ, List, length, Option, IfSome, Result, Ok, Err, IfErr, OnErr, refl, sym, subst}
use Rattle.octet_streams.specs.Written.{Writes, IsFrontOf}
use Rattle.octet_streams.specs.declared.reading.ReadFault.{ReadFault}
use Rattle.octet_streams.specs.declared.reading.ReadFault.TheVariants as read_fault_is
use Rattle.trace_capture.specs.declared.fault.TraceFault.{TraceFault}
use Rattle.trace_capture.specs.declared.fault.TraceFault.TheVariants.{Write}
use Rattle.trace_capture.specs.Capture.{IsCapture}
use Rattle.trace_capture.specs.Converting.{ConvertFails, IsReadFault, IsTrace, reading_fault}
use Rattle.trace_capture.specs.Converting.IsReadFault.{no_memory, failed, too_long}
use Rattle.trace_capture.specs.Converting.ConvertFails.{unwritten}

-- the fault of a failed read
pub read_fault : (left : Option (List ℕ)) (fault : ReadFault)
    → (fault ≡ read_fault_is.TooLong → IfSome left (λ octets. 67108864 < length octets)) → IsReadFault left (reading_fault fault)
read_fault left read_fault_is.OutOfMemory long = no_memory
read_fault left read_fault_is.TooLong long = too_long (long refl)
read_fault left read_fault_is.Failed long = failed

-- a capture was not written whole
pub write_fails : {T : Type 0} (left before after : Option (List ℕ)) (text capture : List ℕ) (written : Result T TraceFault)
    → IsTrace left text → IsCapture text capture → IfErr written (λ fault. fault ≡ Write)
    → OnErr written (Writes before after (IsFrontOf capture)) → IfErr written (ConvertFails left before after)
write_fails left before after text capture (Ok done) read is fault front = tt
write_fails left before after text capture (Err e) read is fault front =
    let P : TraceFault → Type 0 = ConvertFails left before after in
    subst P (sym fault) (unwritten text capture read is front)
