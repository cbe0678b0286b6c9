-- Cases of a test, with what the test says, and of the type that octet 3 names.
use Rattle.std.proofs.Common.{◌≡◌, ℕ, ◌%◌, Bool, true, false, List, cond, eqb, eqb-true, refl}
use Rattle.std.specs.Prelude.{Option, Some, None}
use Rattle.packet_codec.specs.declared.packet.Numbering.{Numbering}
use Rattle.packet_codec.specs.declared.packet.Numbering.TheVariants.{Modulo8, Modulo128}
use Rattle.packet_codec.specs.declared.packet_type.PacketType.{PacketType}
use Rattle.packet_codec.specs.declared.packet_type.PacketType.TheVariants as types
use Rattle.packet_codec.specs.Reading.{bit_1, code_type, numbered, octet, other_type, type_of}

pub cond_by : {X : Type 0} (P : X → Type 0) (b : Bool) (x y : X) → (b ≡ true → P x) → (b ≡ false → P y) → P (cond b x y)
cond_by P true x y hit miss = hit refl
cond_by P false x y hit miss = miss refl

-- a number is this or not
pub eq_by : {X : Type 0} (P : X → Type 0) (m n : ℕ) (x y : X) → (m ≡ n → P x) → (eqb m n ≡ false → P y)
    → P (cond (eqb m n) x y)
eq_by P m n x y hit miss = cond_by P (eqb m n) x y (λ e. hit (eqb-true m n e)) miss

-- what octet 3 is for RR or RNR, by its code, and the octet after it
abbrev pub NamesFlow : Numbering → (code third : ℕ) → List ℕ → Type 0
NamesFlow Modulo8 code third rest = third % 32 ≡ code
NamesFlow Modulo128 code third rest = (third ≡ code) × (bit_1 (octet 1 rest) ≡ false)

-- what octet 3 is for a type, and the octet after it
abbrev pub Names : Numbering → ℕ → List ℕ → PacketType → Type 0
Names n third rest types.Data = third % 2 ≡ 0
Names n third rest types.ReceiveReady = NamesFlow n 1 third rest
Names n third rest types.ReceiveNotReady = NamesFlow n 5 third rest
Names n third rest types.CallRequest = third ≡ 0x0b
Names n third rest types.CallAccepted = third ≡ 0x0f
Names n third rest types.ClearRequest = third ≡ 0x13
Names n third rest types.ClearConfirmation = third ≡ 0x17
Names n third rest types.Interrupt = third ≡ 0x23
Names n third rest types.InterruptConfirmation = third ≡ 0x27
Names n third rest types.ResetRequest = third ≡ 0x1b
Names n third rest types.ResetConfirmation = third ≡ 0x1f
Names n third rest types.RestartRequest = third ≡ 0xfb
Names n third rest types.RestartConfirmation = third ≡ 0xff

code_by : (P : Option PacketType → Type 0) (n : Numbering) (third : ℕ) (rest : List ℕ)
    → ((kind : PacketType) → Names n third rest kind → P (Some kind)) → P None → P (code_type third)
code_by P n third rest some none =
    eq_by P third 0x0b _ _ (some types.CallRequest) (λ n1.
    eq_by P third 0x0f _ _ (some types.CallAccepted) (λ n2.
    eq_by P third 0x13 _ _ (some types.ClearRequest) (λ n3.
    eq_by P third 0x17 _ _ (some types.ClearConfirmation) (λ n4.
    eq_by P third 0x23 _ _ (some types.Interrupt) (λ n5.
    eq_by P third 0x27 _ _ (some types.InterruptConfirmation) (λ n6.
    eq_by P third 0x1b _ _ (some types.ResetRequest) (λ n7.
    eq_by P third 0x1f _ _ (some types.ResetConfirmation) (λ n8.
    eq_by P third 0xfb _ _ (some types.RestartRequest) (λ n9.
    eq_by P third 0xff _ _ (some types.RestartConfirmation) (λ n10. none))))))))))

-- a type whose octet of P(R) has a zero in bit 1
numbered_by : (P : Option PacketType → Type 0) (kind : PacketType) (rest : List ℕ)
    → (bit_1 (octet 1 rest) ≡ false → P (Some kind)) → P None → P (numbered kind rest)
numbered_by P kind rest some none = cond_by P (bit_1 (octet 1 rest)) _ _ (λ one. none) some

other_by : (P : Option PacketType → Type 0) (n : Numbering) (third : ℕ) (rest : List ℕ)
    → ((kind : PacketType) → Names n third rest kind → P (Some kind)) → P None → P (other_type n third rest)
other_by P Modulo8 third rest some none =
    eq_by P (third % 32) 1 _ _ (some types.ReceiveReady) (λ not_ready.
    eq_by P (third % 32) 5 _ _ (some types.ReceiveNotReady) (λ not_busy. code_by P Modulo8 third rest some none))
other_by P Modulo128 third rest some none =
    eq_by P third 1 _ _
    (λ is. numbered_by P types.ReceiveReady rest (λ zero. some types.ReceiveReady (is, zero)) none) (λ not_ready.
    eq_by P third 5 _ _
    (λ is. numbered_by P types.ReceiveNotReady rest (λ zero. some types.ReceiveNotReady (is, zero)) none)
    (λ not_busy. code_by P Modulo128 third rest some none))

pub type_by : (P : Option PacketType → Type 0) (n : Numbering) (third : ℕ) (rest : List ℕ)
    → ((kind : PacketType) → Names n third rest kind → P (Some kind)) → P None → P (type_of n third rest)
type_by P n third rest some none =
    eq_by P (third % 2) 0 _ _ (some types.Data) (λ odd. other_by P n third rest some none)
