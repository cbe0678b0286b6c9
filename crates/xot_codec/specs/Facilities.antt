-- The facilities of calls over TCP.
use Rattle.std.specs.Prelude.{ℕ, Bool, ◌&&◌, ◌||◌, ◌==◌, List, [], ◌∷◌, min, Option, Some, None, Result, Ok, Err, if◌then◌else◌, nat_lt}
use Rattle.std.specs.Borrow.{Bor}
use Rattle.xot_codec.specs.declared.facilities.LineFlow.{LineFlow}
use Rattle.xot_codec.specs.declared.facilities.Asked.{Asked}
use Rattle.xot_codec.specs.declared.facilities.FacilityFault.{FacilityFault}
use Rattle.xot_codec.specs.declared.facilities.FacilityFault.TheVariants.{NotCarried, SmallPackets, SmallWindow}

-- packet sizes are written as powers of two
abbrev pub size_code : ℕ → ℕ
size_code size = if size == 256 then 8 else if size == 512 then 9 else if size == 1024 then 10 else 7

-- packet size (42) and window (43) of a line, for both directions
abbrev pub put : LineFlow → List ℕ
put line = 0x42 ∷ size_code line.size ∷ size_code line.size ∷ 0x43 ∷ line.window ∷ line.window ∷ []

-- 128 octets, and a window of 2
abbrev pub unasked : Asked
unasked = record { size = 7; window = 2 }

-- throughput, and 01 with value 0
abbrev pub is_dropped : (code value : ℕ) → Bool
is_dropped code value = code == 0x02 || (code == 0x01 && value == 0)

-- packet size and window, and no other
abbrev pub with_smaller : Asked → (code smaller : ℕ) → Result Asked FacilityFault
with_smaller asked code smaller =
    if code == 0x42 then Ok (record asked { size = smaller })
    else if code == 0x43 then Ok (record asked { window = smaller })
    else Err NotCarried

-- what a facility field asks for, of two directions the smaller, or that the network does not carry it
abbrev pub asked_in : Asked → List ℕ → Result Asked FacilityFault
asked_in asked [] = Ok asked
asked_in asked (code ∷ []) = Err NotCarried
asked_in asked (code ∷ value ∷ []) = if is_dropped code value then Ok asked else Err NotCarried
asked_in asked (code ∷ one ∷ other ∷ rest) =
    if is_dropped code one then asked_in asked (other ∷ rest)
    else if code == 0x42 then asked_in (record asked { size = min one other }) rest
    else if code == 0x43 then asked_in (record asked { window = min one other }) rest
    else Err NotCarried

-- what is asked for in the end, by what is asked for so far and the rest
abbrev pub asked_then : Result Asked FacilityFault → List ℕ → Result Asked FacilityFault
asked_then (Ok asked) rest = asked_in asked rest
asked_then (Err fault) rest = Err fault

abbrev pub refused_by : LineFlow → Result Asked FacilityFault → Option FacilityFault
refused_by line (Err fault) = Some fault
refused_by line (Ok asked) =
    if nat_lt asked.size (size_code line.size) then Some SmallPackets
    else if nat_lt asked.window line.window then Some SmallWindow
    else None

-- why a call with this facility field is not carried, if it is not
abbrev pub refusal : LineFlow → List ℕ → Option FacilityFault
refusal line facilities = refused_by line (asked_in unasked facilities)

abbrev pub answer_of : Result (Unit {0}) FacilityFault → Option FacilityFault
answer_of (Ok _) = None
answer_of (Err fault) = Some fault

-- what is asked for in the end, after one facility
abbrev pub asked_after : Result (Asked × Bor (List ℕ)) FacilityFault → Result Asked FacilityFault
asked_after (Ok next) = asked_in next.0 next.1.now
asked_after (Err fault) = Err fault
