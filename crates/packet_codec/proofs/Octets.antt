-- The first two octets: what is read of them is what was written, and the other way round.
use Rattle.std.proofs.Common.{◌≡◌, ℕ, zero, suc, ◌+◌, ◌*◌, ◌/◌, ◌%◌, ◌<◌, Bool, true, false, eqb, [], ◌∷◌, refl, arith}
use Rattle.std.proofs.lemmas.Bool.Decides.{nat_tests}
use Rattle.packet_codec.specs.declared.packet.Numbering.{Numbering}
use Rattle.packet_codec.specs.declared.packet.Numbering.TheVariants.{Modulo8, Modulo128}
use Rattle.packet_codec.specs.Packet.{bit, format_id, header}
use Rattle.packet_codec.specs.Reading.{bit_7, bit_8, channel_of, format_of}

pub format_id-small : (n : Numbering) → format_id n < 4
format_id-small Modulo8 = omega arith
format_id-small Modulo128 = omega arith

-- octet 1, with a format in bits 6 and 5
abbrev pub first_of : (format : ℕ) → (qualified delivery : Bool) → ℕ → ℕ
first_of format qualified delivery channel = 128 * bit qualified + 64 * bit delivery + 16 * format + channel / 256

pub format_of-first_of : (f : ℕ) (q d : Bool) (channel : ℕ) → f < 4 → channel < 4096 → format_of (first_of f q d channel) ≡ f
format_of-first_of f true true channel small low = omega arith
format_of-first_of f true false channel small low = omega arith
format_of-first_of f false true channel small low = omega arith
format_of-first_of f false false channel small low = omega arith

pub bit_8-first_of : (f : ℕ) (q d : Bool) (channel : ℕ) → f < 4 → channel < 4096 → bit_8 (first_of f q d channel) ≡ q
bit_8-first_of f true true channel small low = grind (arith, nat_tests)
bit_8-first_of f true false channel small low = grind (arith, nat_tests)
bit_8-first_of f false true channel small low = grind (arith, nat_tests)
bit_8-first_of f false false channel small low = grind (arith, nat_tests)

pub bit_7-first_of : (f : ℕ) (q d : Bool) (channel : ℕ) → f < 4 → channel < 4096 → bit_7 (first_of f q d channel) ≡ d
bit_7-first_of f true true channel small low = grind (arith, nat_tests)
bit_7-first_of f true false channel small low = grind (arith, nat_tests)
bit_7-first_of f false true channel small low = grind (arith, nat_tests)
bit_7-first_of f false false channel small low = grind (arith, nat_tests)

pub channel_of-first_of : (f : ℕ) (q d : Bool) (channel : ℕ) → f < 4 → channel < 4096
    → channel_of (first_of f q d channel) (channel % 256) ≡ channel
channel_of-first_of f true true channel small low = omega arith
channel_of-first_of f true false channel small low = omega arith
channel_of-first_of f false true channel small low = omega arith
channel_of-first_of f false false channel small low = omega arith

pub bit-eqb : (n : ℕ) → n < 2 → bit (eqb n 1) ≡ n
bit-eqb zero low = refl
bit-eqb (suc zero) low = refl
bit-eqb (suc (suc n)) low = absurd (omega arith)

-- octets 1 and 2 are those that are written for what is read of them
pub first_of-read : (f first second : ℕ) → first < 256 → second < 256 → format_of first ≡ f
    → first_of f (bit_8 first) (bit_7 first) (channel_of first second) ≡ first
first_of-read f first second low low' format =
    omega (arith, bit-eqb (first / 128) (omega arith), bit-eqb (first / 64 % 2) (omega arith))

pub second-read : (first second : ℕ) → second < 256 → channel_of first second % 256 ≡ second
second-read first second low = omega arith

pub header-read : (n : Numbering) (first second third : ℕ) → first < 256 → second < 256
    → format_of first ≡ format_id n
    → header n (bit_8 first) (bit_7 first) (channel_of first second) third ≡ first ∷ second ∷ third ∷ []
header-read n first second third low low' format =
    λ i. first_of-read (format_id n) first second low low' format i ∷ second-read first second low' i ∷ third ∷ []
