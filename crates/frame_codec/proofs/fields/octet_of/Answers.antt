use Rattle.std.proofs.Common.{◌≡◌, ℕ, ◌+◌, ◌*◌, ◌%◌, ◌<◌, arith, true, false, Bool, refl}
use mir.Val.{bool_byte}
use Rattle.frame_codec.specs.Spelling.{bit_of}
use Rattle.std.specs.Prelude.{bit_or}
use Rattle.std.proofs.lemmas.Nat.{or_shifted}
use Rattle.frame_codec.proofs.fields.octet_of.Goals as goal

-- three numbers that share no bit
joined : (r f s : ℕ) → r < 8 → f < 2 → s < 8 → bit_or (bit_or (r * 32 % 256) (f * 16 % 256)) (s * 2 % 256) ≡ r * 32
    + f * 16 + s * 2
joined r f s high middle low =
    let rs : r * 32 % 256 ≡ r * 32 = omega arith in
    let fs : f * 16 % 256 ≡ f * 16 = omega arith in
    let ss : s * 2 % 256 ≡ s * 2 = omega arith in
    let first : bit_or (r * 32) (f * 16) ≡ r * 32 + f * 16 = or_shifted r 5 (f * 16) (omega arith) in
    let one : r * 32 + f * 16 ≡ (r * 2 + f) * 16 = omega arith in
    let second : bit_or ((r * 2 + f) * 16) (s * 2) ≡ (r * 2 + f) * 16 + s * 2 = or_shifted (r * 2 + f) 4 (s * 2)
    (omega arith) in
    cc

below_two : (b : Bool) → bit_of b < 2
below_two true = omega arith
below_two false = omega arith

as_bit : (b : Bool) → bool_byte b ≡ bit_of b
as_bit true = refl
as_bit false = refl

pub returns : goal.returns
returns c =
    rw (c.from.ensures, as_bit c.args.flag) (joined _ _ _ c.requires.receive (below_two c.args.flag) c.requires.send)
