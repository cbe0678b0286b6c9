-- What is read of a packet that was written.
use Rattle.std.proofs.Common.{◌≡◌, ◌<◌, ◌≤◌, ◌+◌, ◌*◌, ◌/◌, ◌%◌, ℕ, zero, suc, Bool, true, false, ltb, cond, List, ◌∷◌, ◌++◌, length, take, drop, Some, refl, sym, ◌∙◌, arith, length-append, length-take}
use Rattle.std.proofs.lemmas.Bool.Decides.{nat_tests}
use Rattle.std.proofs.lemmas.List.{take_at, drop_at}
use Rattle.xot_codec.specs.declared.fault.XotFault.TheVariants.{TooShort, TooLong}
use Rattle.xot_codec.specs.Xot.{First, part, whole, broken, by_length, first_packet, packet_form, is_packet}
use Rattle.xot_codec.specs.Laws.{ReadsWritten, WaitsForWhole}

record HasLength (packet : List ℕ) : Type 0 where
  pub some : 3 ≤ length packet
  pub most : length packet ≤ 1030

has_length : (packet : List ℕ) → is_packet packet ≡ true → HasLength packet
has_length packet is = record { some = grind (arith, nat_tests); most = grind (arith, nat_tests) }

-- what is read of a length that is one
chosen : (short long few : Bool) (all : First) → short ≡ false → long ≡ false
    → cond short (broken TooShort) (cond long (broken TooLong) (cond few part all)) ≡ cond few part all
chosen true long few all no_short no_long = absurd (cc)
chosen false true few all no_short no_long = absurd (cc)
chosen false false few all no_short no_long = refl

read : (packet octets : List ℕ) (count : ℕ) → HasLength packet → count ≡ length packet
    → by_length (Some count) octets ≡ cond (ltb (length octets) (4 + count)) part (whole (take count (drop 4 octets)) (drop count (drop 4 octets)))
read packet octets count has is =
    let some : 3 ≤ count = omega (arith, has.some, is) in
    let most : count ≤ 1030 = omega (arith, has.most, is) in
    let no_short : ltb count 3 ≡ false = grind (arith, nat_tests) in
    let no_long : ltb 1030 count ≡ false = grind (arith, nat_tests) in
    chosen (ltb count 3) (ltb 1030 count) (ltb (length octets) (4 + count)) (whole (take count (drop 4 octets)) (drop count (drop 4 octets))) no_short no_long

length_read : (packet : List ℕ) → length packet / 256 * 256 + length packet % 256 ≡ length packet
length_read packet = omega arith

whole_when : (few : Bool) (all : First) → few ≡ false → cond few part all ≡ all
whole_when true all is = absurd (cc)
whole_when false all is = refl

part_when : (few : Bool) (all : First) → few ≡ true → cond few part all ≡ part
part_when true all is = refl
part_when false all is = absurd (cc)

pub reads_written : ReadsWritten
reads_written packet rest is =
    let octets = packet_form packet ++ rest in
    let count = length packet / 256 * 256 + length packet % 256 in
    let same : count ≡ length packet = length_read packet in
    let long : length (packet ++ rest) ≡ length packet + length rest = length-append packet rest in
    let enough : ltb (length octets) (4 + count) ≡ false = grind (arith, nat_tests) in
    read packet octets count (has_length packet is) same
    ∙ whole_when (ltb (length octets) (4 + count)) (whole (take count (packet ++ rest)) (drop count (packet ++ rest))) enough
    ∙ (λ i. whole (take_at packet rest count (sym same) i) (drop_at packet rest count (sym same) i))

-- a part of a packet that has its header
part_read : (packet : List ℕ) (count : ℕ) → HasLength packet → count < length packet
    → first_packet (0 ∷ 0 ∷ length packet / 256 ∷ length packet % 256 ∷ take count packet) ≡ part
part_read packet count has short =
    let octets = 0 ∷ 0 ∷ length packet / 256 ∷ length packet % 256 ∷ take count packet in
    let told = length packet / 256 * 256 + length packet % 256 in
    let same : told ≡ length packet = length_read packet in
    let few_octets : length (take count packet) ≤ count = omega (arith, length-take count packet) in
    let few : ltb (length octets) (4 + told) ≡ true = grind (arith, nat_tests) in
    read packet octets told has same
    ∙ part_when (ltb (length octets) (4 + told)) (whole (take told (take count packet)) (drop told (take count packet))) few

pub waits_for_whole : WaitsForWhole
waits_for_whole packet zero is short = refl
waits_for_whole packet (suc zero) is short = refl
waits_for_whole packet (suc (suc zero)) is short = refl
waits_for_whole packet (suc (suc (suc zero))) is short = refl
waits_for_whole packet (suc (suc (suc (suc count)))) is short = part_read packet count (has_length packet is) (omega arith)
