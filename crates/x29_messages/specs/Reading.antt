-- Reading the octets of a message: the message that they say, or the first fault.
use Rattle.std.specs.Prelude.{ℕ, ◌%◌, Bool, not, ◌&&◌, ◌||◌, ◌==◌, nat_lt, nat_le, if◌then◌else◌, List, [], ◌∷◌}
use Rattle.std.specs.Prelude.{length, drop, slice_index, find, Option, Some, None, Result, Ok, Err}
use Rattle.arrayvec.specs.ArrayVec.{ArrayVec}
use Rattle.x29_messages.specs.declared.message.Message.{Message}
use Rattle.x29_messages.specs.declared.message.Message.TheVariants.{ParameterIndication, InvitationToClear, Set}
use Rattle.x29_messages.specs.declared.message.Message.TheVariants.{IndicationOfBreak, Read, Error, SetAndRead}
use Rattle.x29_messages.specs.declared.fault.MessageFault.{MessageFault}
use Rattle.x29_messages.specs.declared.fault.MessageFault.TheVariants.{Empty, UnknownCode, OddLength}

-- ---- the faults, each a test of the octets

-- a code may have so many octets after it: up to 63 pairs, nothing, or one or two
abbrev pub fits : ℕ → ℕ → Bool
fits code count =
    if code == 1 then count == 0
    else if code == 5 then (count == 1) || (count == 2)
    else (count % 2 == 0) && nat_le count 126

abbrev pub has_fault : List ℕ → MessageFault → Bool
has_fault octets Empty = length octets == 0
has_fault octets UnknownCode = nat_lt 6 (slice_index octets 0)
has_fault octets OddLength = not (fits (slice_index octets 0) (length (drop 1 octets)))

abbrev pub first_fault : List ℕ → Option MessageFault
first_fault octets = find (has_fault octets) (Empty ∷ UnknownCode ∷ OddLength ∷ [])

abbrev pub fault_in : {A : Type 0} → Result A MessageFault → Option MessageFault
fault_in (Ok x) = None
fault_in (Err fault) = Some fault

-- ---- the message

abbrev pub Answer : Type 0
Answer = Result Message MessageFault

abbrev pub with_first : ℕ × ℕ → Option (List (ℕ × ℕ)) → Option (List (ℕ × ℕ))
with_first pair None = None
with_first pair (Some pairs) = Some (pair ∷ pairs)

-- the pairs that octets are, if they are pairs
unfoldable pub pairs_of : List ℕ → Option (List (ℕ × ℕ))
pairs_of [] = Some []
pairs_of (reference ∷ []) = None
pairs_of (reference ∷ value ∷ rest) = with_first (reference, value) (pairs_of rest)

abbrev pub listed : Option (List (ℕ × ℕ)) → Result (ArrayVec (ℕ × ℕ)) MessageFault
listed None = Err OddLength
listed (Some pairs) = Ok (record { items = pairs })

abbrev pub pairs_in : List ℕ → Result (ArrayVec (ℕ × ℕ)) MessageFault
pairs_in rest = if nat_lt 126 (length rest) then Err OddLength else listed (pairs_of rest)

abbrev pub with : (ArrayVec (ℕ × ℕ) → Message) → Result (ArrayVec (ℕ × ℕ)) MessageFault → Answer
with made (Ok pairs) = Ok (made pairs)
with made (Err fault) = Err fault

abbrev pub invitation : List ℕ → Answer
invitation [] = Ok InvitationToClear
invitation (o ∷ os) = Err OddLength

abbrev pub error_in : List ℕ → Answer
error_in [] = Err OddLength
error_in (kind ∷ []) = Ok (Error kind None)
error_in (kind ∷ code ∷ []) = Ok (Error kind (Some code))
error_in (kind ∷ code ∷ o ∷ os) = Err OddLength

abbrev pub message_in : ℕ → List ℕ → Answer
message_in code rest =
    if code == 0 then with ParameterIndication (pairs_in rest)
    else if code == 1 then invitation rest
    else if code == 2 then with Set (pairs_in rest)
    else if code == 3 then with IndicationOfBreak (pairs_in rest)
    else if code == 4 then with Read (pairs_in rest)
    else if code == 5 then error_in rest
    else if code == 6 then with SetAndRead (pairs_in rest)
    else Err UnknownCode

unfoldable pub message_of : List ℕ → Answer
message_of [] = Err Empty
message_of (code ∷ rest) = message_in code rest
