-- The fault of an answer is the first that the octets have.
use Rattle.std.proofs.Common.{◌≡◌, ℕ, Bool, true, false, cond, eqb, ltb, le-ltb, List, [], ◌∷◌, length, refl, ap, ◌∙◌, arith}
use Rattle.std.specs.Prelude.{Option, Some, None, Result, Ok, Err, not, is_none}
use Rattle.std.specs.Option.{option_map_or}
use Rattle.packet_codec.specs.declared.fault.PacketFault.{PacketFault}
use Rattle.packet_codec.specs.declared.packet.Numbering.{Numbering}
use Rattle.packet_codec.specs.declared.packet.Packet.{Packet}
use Rattle.packet_codec.specs.View.{answer_view}
use Rattle.packet_codec.specs.declared.fault.PacketFault.TheVariants.{BadFormatId, UnknownType, BadLength, BadAddress, DataTooLong}
use Rattle.packet_codec.specs.declared.packet_type.PacketType.{PacketType}
use Rattle.packet_codec.specs.Packet.{ContentValue, format_id}
use Rattle.packet_codec.specs.Reading.{bit_7, bit_8, channel_of, fault_in, has_bad_address, said, first_fault, format_of, has_length, is_too_long, named_type, on_channel, reading, typed}

-- the first fault of three octets and more, by whether their format is right, their type and the octets after them
abbrev expected : Numbering → (size : ℕ) → Bool → Option PacketType → List ℕ → Option PacketFault
expected n size format kind rest =
    cond (not format) (Some BadFormatId)
    (cond (is_none kind) (Some UnknownType)
    (cond (option_map_or (λ k. not (has_length n k rest)) kind false) (Some BadLength)
    (cond (option_map_or (λ k. has_bad_address k rest) kind false) (Some BadAddress)
    (cond (option_map_or (λ k. is_too_long n size k rest) kind false) (Some DataTooLong) None))))

-- the tests of a type stand in the order of the faults
agrees_typed : (n : Numbering) (channel : ℕ) (content : ContentValue) (length_wrong address_wrong too_long : Bool)
    → fault_in (on_channel n channel
    (cond length_wrong (Err BadLength)
    (cond address_wrong (Err BadAddress) (cond too_long (Err DataTooLong) (Ok content))))) ≡ cond length_wrong
    (Some BadLength) (cond address_wrong (Some BadAddress) (cond too_long (Some DataTooLong) None))
agrees_typed n channel content true address_wrong too_long = refl
agrees_typed n channel content false true too_long = refl
agrees_typed n channel content false false true = refl
agrees_typed n channel content false false false = refl

agrees : (n : Numbering) (size : ℕ) (format : Bool) (kind : Option PacketType) (first second third : ℕ) (rest : List ℕ)
    → fault_in (cond format (typed n size kind first second third rest) (Err BadFormatId)) ≡ expected n size format kind rest
agrees n size false kind first second third rest = refl
agrees n size true None first second third rest = refl
agrees n size true (Some kind) first second third rest =
    agrees_typed n (channel_of first second) (said n kind (bit_8 first) (bit_7 first) third rest)
    (not (has_length n kind rest)) (has_bad_address kind rest) (is_too_long n size kind rest)

pub fault_in-reading : (n : Numbering) (size : ℕ) (bytes : List ℕ)
    → fault_in (reading n size bytes) ≡ first_fault n size bytes
fault_in-reading n size [] = refl
fault_in-reading n size (first ∷ []) = refl
fault_in-reading n size (first ∷ second ∷ []) = refl
fault_in-reading n size (first ∷ second ∷ third ∷ rest) =
    let long : ltb (length (first ∷ second ∷ third ∷ rest)) 3 ≡ false = le-ltb _ _ (omega arith) in
    rw long (agrees n size (eqb (format_of first) (format_id n)) (named_type n first second third rest) first second third rest)

pub fault_in_answer : (n : Numbering) (size : ℕ) (bytes : List ℕ) (answer : Result Packet PacketFault)
    → answer_view answer ≡ reading n size bytes → fault_in answer ≡ first_fault n size bytes
fault_in_answer n size bytes (Ok p) is = ap fault_in is ∙ fault_in-reading n size bytes
fault_in_answer n size bytes (Err fault) is = ap fault_in is ∙ fault_in-reading n size bytes
