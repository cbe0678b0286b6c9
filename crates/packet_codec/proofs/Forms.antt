-- What is read is in the grammar, and what is in the grammar is read.
use Rattle.std.proofs.Common.{◌≡◌, ℕ, suc, ◌+◌, ◌*◌, ◌/◌, ◌%◌, ◌<◌, ◌≤◌, Bool, true, false, eqb, leb, ltb, ltb-false, leb-true, eqb-true, List, [], ◌∷◌, ◌++◌, length, take, drop, get_or, refl, sym, ap, subst, ◌∙◌, inl, inr, arith}
use Rattle.std.specs.Prelude.{Option, Result, Ok, Err, option_and_then, ◌&&◌, ◌||◌, not, ◌⊎◌, IfOk}
use Rattle.std.proofs.lemmas.Bool.{eqb-false}
use Rattle.std.proofs.lemmas.List.{append-nil}
use Rattle.packet_codec.specs.Address.{are_decimal}
use Rattle.packet_codec.specs.declared.fault.PacketFault.{PacketFault}
use Rattle.packet_codec.specs.declared.packet.Numbering.{Numbering}
use Rattle.packet_codec.specs.declared.packet.Numbering.TheVariants.{Modulo8, Modulo128}
use Rattle.packet_codec.specs.declared.packet.Packet.{Packet}
use Rattle.packet_codec.specs.declared.packet_type.PacketType.{PacketType}
use Rattle.packet_codec.specs.declared.packet_type.PacketType.TheVariants as types
use Rattle.packet_codec.specs.Packet.{PacketValue, ContentValue, ClearRequest, ClearConfirmation, InterruptConfirmation, ReceiveReady, ReceiveNotReady, ResetRequest, ResetConfirmation, RestartRequest, RestartConfirmation, IsContentOn, IsLogicalChannel, IsOtherSpelling, IsShortSpelling, IsAcceptedSpelling, PacketForm, bit, header, plain_header, address_part, facility_part, call_block, content_spelling, flow_spelling, format_id, modulus}
use Rattle.packet_codec.specs.Reading.{octet, admits, allowed, bit_1, bit_5, bit_7, bit_8, channel_of, content_of, format_of, is_on_channel, on_channel, named_type, reading, typed, said, has_length, has_bad_address, is_too_long, called_length, address_octets, digits, after_addresses, has_addresses, has_facilities, facilities_of, user_data_of, has_call_length, ends_in_facilities, has_accepted_length, has_cause, has_flow_length, has_data_length, call_value, data_octets, receive_of}
use Rattle.packet_codec.specs.View.{answer_view, view}
use Rattle.packet_codec.proofs.Addresses.{and_true}
use Rattle.packet_codec.proofs.Blocks.{AreAddresses, Splits, splits, spare_of, spare_of-half, decimal_parts, facilities_read}
use Rattle.packet_codec.proofs.Cases.{cond_by, eq_by, Names, NamesFlow, type_by}
use Rattle.packet_codec.proofs.Octets.{bit-eqb, header-read}
use Rattle.packet_codec.proofs.Spellings.{reading-spelling, reading-other}

abbrev pub AreOctets : List ℕ → Type 0
AreOctets bytes = (k : ℕ) → get_or bytes k 0 < 256

-- what was read, if anything, is in the grammar
abbrev pub Found : Numbering → (size : ℕ) → List ℕ → Result PacketValue PacketFault → Type 0
Found n size bytes (Ok p) = PacketForm n size bytes p
Found n size bytes (Err fault) = Unit {0}

-- the first three octets of a packet that can be read
record Start (n : Numbering) (first second third : ℕ) : Type 0 where
  first_octet : first < 256
  second_octet : second < 256
  third_octet : third < 256
  format : format_of first ≡ format_id n

no_bits : (q d : Bool) → not (q || d) ≡ true → (q ≡ false) × (d ≡ false)
no_bits true d e = absurd (cc)
no_bits false true e = absurd (cc)
no_bits false false e = (refl, refl)

not_true : (b : Bool) → not b ≡ true → b ≡ false
not_true true e = absurd (cc)
not_true false e = refl

not_false : (b : Bool) → not b ≡ false → b ≡ true
not_false true e = refl
not_false false e = absurd (cc)

or_false : (a b : Bool) → (a || b) ≡ false → (a ≡ false) × (b ≡ false)
or_false true b e = absurd (cc)
or_false false b e = (refl, e)

or_cases : (a b : Bool) → (a || b) ≡ true → (a ≡ true) ⊎ (b ≡ true)
or_cases true b e = inl refl
or_cases false b e = inr e

is_empty : (xs : List ℕ) → eqb (length xs) 0 ≡ true → xs ≡ []
is_empty [] e = refl
is_empty (x ∷ xs) e = let none = eqb-true (length (x ∷ xs)) 0 e in absurd (omega arith)

-- a header without Q and D
plain : (n : Numbering) (first second third : ℕ) → Start n first second third → not (bit_8 first || bit_7 first) ≡ true
    → plain_header n (channel_of first second) third ≡ first ∷ second ∷ third ∷ []
plain n first second third s e =
    let bits = no_bits (bit_8 first) (bit_7 first) e in
    sym (λ i. header n (bits.0 i) (bits.1 i) (channel_of first second) third)
    ∙ header-read n first second third s.first_octet s.second_octet s.format

-- octets without Q and D of a type, whose octet 3 is known
plainly_spelled : (n : Numbering) (first second third code : ℕ) (rest behind : List ℕ) → Start n first second third
    → not (bit_8 first || bit_7 first) ≡ true → third ≡ code → rest ≡ behind
    → first ∷ second ∷ third ∷ rest ≡ plain_header n (channel_of first second) code ++ behind
plainly_spelled n first second third code rest behind s e is ends =
    sym (λ i. plain n first second third s e i ++ rest) ∙ (λ i. plain_header n (channel_of first second) (is i) ++ ends i)

above_zero : (channel : ℕ) → not (eqb channel 0) ≡ true → 0 < channel
above_zero channel e = let apart = eqb-false channel 0 (not_true (eqb channel 0) e) in omega arith

is_logical : (n : Numbering) (first second third : ℕ) → Start n first second third → not (eqb (channel_of first second) 0) ≡ true
    → IsLogicalChannel (channel_of first second)
is_logical n first second third s place =
    let low = s.first_octet in
    let low' = s.second_octet in
    (above_zero (channel_of first second) place, omega arith)

-- what is read of the octets of a packet is in the grammar
abbrev Reads : Numbering → (size : ℕ) → PacketType → (first second third : ℕ) → List ℕ → Type 0
Reads n size kind first second third rest =
    PacketForm n size (first ∷ second ∷ third ∷ rest) record {
      numbering = n;
      channel = channel_of first second;
      content =
          said n kind (bit_8 first) (bit_7 first) third rest;
    }

-- a type that goes without Q and D and has no octets after the third
bare_form : (n : Numbering) (size first second third code : ℕ) (rest : List ℕ) (content : ContentValue) → Start n first second third
    → not (bit_8 first || bit_7 first) ≡ true → IsContentOn n size (channel_of first second) content → third ≡ code
    → eqb (length rest) 0 ≡ true
    → content_spelling n (channel_of first second) content ≡ plain_header n (channel_of first second) code
    → PacketForm n size (first ∷ second ∷ third ∷ rest) record { numbering = n; channel = channel_of first second; content = content }
bare_form n size first second third code rest content s bits fits is none spells = record {
  numbered = refl;
  fits = fits;
  spelled = inl (plainly_spelled n first second third code rest [] s bits is (is_empty rest none) ∙ sym spells);
}

-- one octet or two: cause, and diagnostic or none
causes : (rest : List ℕ) → has_cause rest ≡ true → (rest ≡ octet 1 rest ∷ octet 2 rest ∷ [])
    ⊎ ((octet 2 rest ≡ 0) × (rest ≡ octet 1 rest ∷ []))
causes [] h = absurd (cc)
causes (cause ∷ []) h = inr (refl, refl)
causes (cause ∷ diagnostic ∷ []) h = inl refl
causes (a ∷ b ∷ c ∷ rest) h =
    let both = and_true (leb 1 (length (a ∷ b ∷ c ∷ rest))) (leb (length (a ∷ b ∷ c ∷ rest)) 2) h in
    let short = leb-true (length (a ∷ b ∷ c ∷ rest)) 2 both.1 in
    absurd (omega arith)

-- a request with a cause, whose content is made of the two octets
cause_form : (n : Numbering) (size : ℕ) (make : ℕ → ℕ → ContentValue) (first second third code : ℕ) (rest : List ℕ)
    → Start n first second third → not (bit_8 first || bit_7 first) ≡ true → third ≡ code → has_cause rest ≡ true
    → IsContentOn n size (channel_of first second) (make (octet 1 rest) (octet 2 rest))
    → ((cause diagnostic : ℕ) → content_spelling n (channel_of first second) (make cause diagnostic)
    ≡ plain_header n (channel_of first second) code ++ cause ∷ diagnostic ∷ [])
    → ((bytes : List ℕ) (cause diagnostic : ℕ)
    → IsShortSpelling n bytes (channel_of first second) code cause diagnostic
    → IsOtherSpelling n bytes (channel_of first second) (make cause diagnostic))
    → PacketForm n size (first ∷ second ∷ third ∷ rest) record {
      numbering = n;
      channel = channel_of first second;
      content = make (octet 1 rest) (octet 2 rest);
    }
cause_form n size make first second third code rest s bits is len fits spells short = record {
  numbered = refl;
  fits = fits;
  spelled = elim (causes rest len) [
    | inl both ↦ inl (plainly_spelled n first second third code rest (octet 1 rest ∷ octet 2 rest ∷ []) s bits is both
        ∙ sym (spells (octet 1 rest) (octet 2 rest)))
    | inr one ↦ inr (short (first ∷ second ∷ third ∷ rest) (octet 1 rest) (octet 2 rest) (
      one.0,
      plainly_spelled n first second third code rest (octet 1 rest ∷ []) s bits is one.1,
    ))
  ];
}

data_octet : (third : ℕ) → third < 256 → third % 2 ≡ 0
    → 32 * (third / 32) + 16 * bit (bit_5 third) + 2 * (third / 2 % 8) ≡ third
data_octet third low even = omega (arith, bit-eqb (third / 16 % 2) (omega arith))

-- an octet with a number in bits 8 to 2
number_octet : (octet : ℕ) → 2 * (octet / 2) + bit (bit_1 octet) ≡ octet
number_octet octet = omega (arith, bit-eqb (octet % 2) (omega arith))

bit_1-false : (octet : ℕ) → bit_1 octet ≡ false → octet % 2 ≡ 0
bit_1-false octet e = let apart = eqb-false (octet % 2) 1 e in omega arith

-- a block with addresses that can be read
block_form : (block : List ℕ) → AreOctets block → has_addresses block ≡ true → are_decimal (digits block) ≡ true
    → Splits block × AreAddresses (take (called_length block) (digits block))
    (drop (called_length block) (digits block))
block_form block octets whole decimal =
    let low = octets 0 in
    let s = splits block low whole in
    let parts = decimal_parts (called_length block) (digits block) decimal in
    let called = s.called_len in
    let calling = s.calling_len in
    (s, record { are_called = (omega arith, parts.0); are_calling = (omega arith, parts.1) })

call_form : (n : Numbering) (size first second third : ℕ) (rest : List ℕ) → Start n first second third → AreOctets rest → third ≡ 0x0b
    → not (bit_8 first) ≡ true → not (eqb (channel_of first second) 0) ≡ true → has_call_length rest ≡ true
    → has_bad_address types.CallRequest rest ≡ false → Reads n size types.CallRequest first second third rest
call_form n size first second third rest s octets is bits place len good =
    let channel = channel_of first second in
    let after = after_addresses rest in
    let parts = and_true (has_addresses rest) (has_facilities after && leb (length (user_data_of after)) 16) len in
    let parts' = and_true (has_facilities after) (leb (length (user_data_of after)) 16) parts.1 in
    let apart = or_false (eqb (called_length rest) 0) (not (are_decimal (digits rest))) good in
    let decimal = not_false (are_decimal (digits rest)) apart.1 in
    let b = block_form rest octets parts.0 decimal in
    let f = facilities_read after parts'.0 in
    let some = eqb-false (called_length rest) 0 apart.0 in
    let spare = spare_of (take (address_octets rest) (drop 1 rest)) in
    let value = call_value rest in
    let called_len = b.0.called_len in
    let block : rest ≡ call_block spare value = b.0.written
    ∙ ap (λ (tail : List ℕ). address_part spare value.called value.calling ++ tail) f.0 in
    let not_qualified : bit_8 first ≡ false = not_true (bit_8 first) bits in
    record {
      numbered = refl;
      fits = (
        is_logical n first second third s place,
        record {
          called = (omega arith, b.1.are_called.0, b.1.are_called.1);
          calling = b.1.are_calling;
          facilities = f.1;
          user_data = leb-true _ _ parts'.1;
        },
      );
      spelled = inr record {
        delivery = bit_7 first;
        spare = spare;
        half = spare_of-half (take (address_octets rest) (drop 1 rest));
        spelled = sym (λ i. header-read n first second third s.first_octet s.second_octet s.format i ++ rest)
            ∙ (λ i. header n (not_qualified i) (bit_7 first) channel (is i) ++ block i);
      };
    }

-- the other spellings of an answer
accepted_spelling : (n : Numbering) (first second third : ℕ) (rest : List ℕ) → Start n first second third → AreOctets rest
    → third ≡ 0x0f → not (bit_8 first || bit_7 first) ≡ true
    → (has_addresses rest && ends_in_facilities (after_addresses rest)) ≡ true
    → not (are_decimal (digits rest)) ≡ false
    → IsAcceptedSpelling n (first ∷ second ∷ third ∷ rest) (channel_of first second)
accepted_spelling n first second third rest s octets is bits whole good =
    let parts = and_true (has_addresses rest) (ends_in_facilities (after_addresses rest)) whole in
    let after = after_addresses rest in
    let b = block_form rest octets parts.0 (not_false (are_decimal (digits rest)) good) in
    record {
      called = take (called_length rest) (digits rest);
      calling = drop (called_length rest) (digits rest);
      spare = spare_of (take (address_octets rest) (drop 1 rest));
      half = spare_of-half (take (address_octets rest) (drop 1 rest));
      are_called = b.1.are_called;
      are_calling = b.1.are_calling;
      rest = after;
      is_rest = elim (or_cases (eqb (length after) 0)
          (has_facilities after && eqb (length (user_data_of after)) 0) parts.1) [
            | inl none ↦ inl (is_empty after none)
            | inr some ↦ inr (alone after some)
          ];
      spelled = plainly_spelled n first second third 0x0f rest _ s bits is b.0.written;
    }
  where
    alone : (after : List ℕ) → (has_facilities after && eqb (length (user_data_of after)) 0) ≡ true
        → (facilities : List ℕ) × (length facilities ≤ 109) × (after ≡ facility_part facilities)
    alone after some =
        let both = and_true (has_facilities after) (eqb (length (user_data_of after)) 0) some in
        let f = facilities_read after both.0 in (
          facilities_of after,
          f.1,
          f.0
              ∙ ap (λ (u : List ℕ). facility_part (facilities_of after) ++ u) (is_empty (user_data_of after) both.1)
              ∙ append-nil (facility_part (facilities_of after)),
        )

accepted_form : (n : Numbering) (size first second third : ℕ) (rest : List ℕ) → Start n first second third → AreOctets rest → third ≡ 0x0f
    → not (bit_8 first || bit_7 first) ≡ true → not (eqb (channel_of first second) 0) ≡ true
    → has_accepted_length rest ≡ true → has_bad_address types.CallAccepted rest ≡ false
    → Reads n size types.CallAccepted first second third rest
accepted_form n size first second third rest s octets is bits place len good =
    elim (or_cases (eqb (length rest) 0) (has_addresses rest && ends_in_facilities (after_addresses rest)) len) [
      | inl none ↦ record {
        numbered = refl;
        fits = is_logical n first second third s place;
        spelled =
            inl (plainly_spelled n first second third 0x0f rest [] s bits is (is_empty rest none));
      }
      | inr whole ↦ record {
        numbered = refl;
        fits = is_logical n first second third s place;
        spelled =
            inr (accepted_spelling n first second third rest s octets is bits whole good);
      }
    ]

data_form : (n : Numbering) (size first second third : ℕ) (rest : List ℕ) → Start n first second third
    → AreOctets rest → third % 2 ≡ 0 → not (eqb (channel_of first second) 0) ≡ true → has_data_length n rest ≡ true
    → ltb size (length (data_octets n rest)) ≡ false → Reads n size types.Data first second third rest
data_form Modulo8 size first second third rest s octets even place len short =
    let channel = channel_of first second in
    let third_octet = s.third_octet in
    record {
      numbered = refl;
      fits = (
        is_logical Modulo8 first second third s place,
        record { send = omega arith; receive = omega arith; short = ltb-false size (length rest) short },
      );
      spelled = inl (sym (λ i. header-read Modulo8 first second third s.first_octet s.second_octet s.format i ++ rest)
          ∙ sym (λ i. header Modulo8 (bit_8 first) (bit_7 first) channel (data_octet third s.third_octet even i) ++ rest));
    }
data_form Modulo128 size first second third [] s octets even place len short = absurd (cc)
data_form Modulo128 size first second third (fourth ∷ rest) s octets even place len short =
    let channel = channel_of first second in
    let third_octet = s.third_octet in
    let fourth_octet : fourth < 256 = octets 0 in
    let send : 2 * (third / 2) ≡ third = omega arith in
    let receive = number_octet fourth in
    record {
      numbered = refl;
      fits = (
        is_logical Modulo128 first second third s place,
        record { send = omega arith; receive = omega arith; short = ltb-false size (length rest) short },
      );
      spelled = inl (sym (λ i. header-read Modulo128 first second third s.first_octet s.second_octet s.format i
          ++ fourth ∷ rest) ∙ sym (λ i. header Modulo128 (bit_8 first) (bit_7 first) channel (send i)
          ++ receive i ∷ rest));
    }

-- one octet
one_octet : (rest : List ℕ) → eqb (length rest) 1 ≡ true → rest ≡ octet 1 rest ∷ []
one_octet [] e = absurd (cc)
one_octet (a ∷ []) e = refl
one_octet (a ∷ b ∷ rest) e = let one = eqb-true (length (a ∷ b ∷ rest)) 1 e in absurd (omega arith)

-- RR or RNR, whose content is made of P(R)
flow_form : (n : Numbering) (size code : ℕ) (make : ℕ → ContentValue) (first second third : ℕ) (rest : List ℕ)
    → Start n first second third → AreOctets rest → NamesFlow n code third rest
    → not (bit_8 first || bit_7 first) ≡ true → has_flow_length n rest ≡ true
    → ((receive : ℕ) → receive < modulus n → IsContentOn n size (channel_of first second) (make receive))
    → ((receive : ℕ) → content_spelling n (channel_of first second) (make receive) ≡ flow_spelling n
    (channel_of first second) code receive) → PacketForm n size (first ∷ second ∷ third ∷ rest) record {
      numbering = n;
      channel = channel_of first second;
      content = make (receive_of n third rest);
    }
flow_form Modulo8 size code make first second third rest s octets is bits len fits spells =
    let third_octet = s.third_octet in
    let whole : third ≡ 32 * (third / 32) + code = omega arith in
    record {
      numbered = refl;
      fits = fits (third / 32) (omega arith);
      spelled = inl (plainly_spelled Modulo8 first second third (32 * (third / 32) + code) rest [] s bits whole
          (is_empty rest len) ∙ append-nil _ ∙ sym (spells (third / 32)));
    }
flow_form Modulo128 size code make first second third rest s octets is bits len fits spells =
    let fourth_octet : octet 1 rest < 256 = octets 0 in
    let even = bit_1-false (octet 1 rest) is.1 in
    let receive : 2 * (octet 1 rest / 2) ≡ octet 1 rest = omega arith in
    record {
      numbered = refl;
      fits = fits (octet 1 rest / 2) (omega arith);
      spelled = inl (plainly_spelled Modulo128 first second third code rest (octet 1 rest ∷ []) s bits is.0
          (one_octet rest len) ∙ sym (λ i. plain_header Modulo128 (channel_of first second) code ++ receive i ∷ [])
          ∙ sym (spells (octet 1 rest / 2)));
    }

form : (n : Numbering) (size : ℕ) (kind : PacketType) (first second third : ℕ) (rest : List ℕ) → Start n first second third → AreOctets rest
    → Names n third rest kind → admits kind (bit_8 first) (bit_7 first) ≡ true
    → is_on_channel kind (channel_of first second) ≡ true → has_length n kind rest ≡ true
    → has_bad_address kind rest ≡ false → is_too_long n size kind rest ≡ false → Reads n size kind first second third rest
form n size types.CallRequest first second third rest s octets is bits place len good short =
    call_form n size first second third rest s octets is bits place len good
form n size types.CallAccepted first second third rest s octets is bits place len good short =
    accepted_form n size first second third rest s octets is bits place len good
form n size types.ClearRequest first second third rest s octets is bits place len good short =
    cause_form n size ClearRequest first second third 0x13 rest s bits is len (is_logical n first second third s place)
    (λ cause diagnostic. refl) (λ bytes cause diagnostic f. f)
form n size types.ClearConfirmation first second third rest s octets is bits place len good short =
    bare_form n size first second third 0x17 rest ClearConfirmation s bits (is_logical n first second third s place) is len refl
form n size types.Data first second third rest s octets even bits place len good short =
    data_form n size first second third rest s octets even place len short
form n size types.Interrupt first second third rest s octets is bits place len good short =
    let both = and_true (leb 1 (length rest)) (leb (length rest) 32) len in
    record {
      numbered = refl;
      fits = (
        is_logical n first second third s place,
        (leb-true 1 (length rest) both.0, leb-true (length rest) 32 both.1),
      );
      spelled = inl (plainly_spelled n first second third 0x23 rest rest s bits is refl);
    }
form n size types.InterruptConfirmation first second third rest s octets is bits place len good short =
    bare_form n size first second third 0x27 rest InterruptConfirmation s bits
    (is_logical n first second third s place) is len refl
form n size types.ReceiveReady first second third rest s octets names bits place len good short =
    flow_form n size 1 ReceiveReady first second third rest s octets names bits len
    (λ receive low. (is_logical n first second third s place, low)) (λ receive. refl)
form n size types.ReceiveNotReady first second third rest s octets names bits place len good short =
    flow_form n size 5 ReceiveNotReady first second third rest s octets names bits len
    (λ receive low. (is_logical n first second third s place, low)) (λ receive. refl)
form n size types.ResetRequest first second third rest s octets is bits place len good short =
    cause_form n size ResetRequest first second third 0x1b rest s bits is len (is_logical n first second third s place)
    (λ cause diagnostic. refl) (λ bytes cause diagnostic f. f)
form n size types.ResetConfirmation first second third rest s octets is bits place len good short =
    bare_form n size first second third 0x1f rest ResetConfirmation s bits (is_logical n first second third s place) is len refl
form n size types.RestartRequest first second third rest s octets is bits place len good short =
    cause_form n size RestartRequest first second third 0xfb rest s bits is len
    (eqb-true (channel_of first second) 0 place) (λ cause diagnostic. refl) (λ bytes cause diagnostic f. f)
form n size types.RestartConfirmation first second third rest s octets is bits place len good short =
    bare_form n size first second third 0xff rest RestartConfirmation s bits
    (eqb-true (channel_of first second) 0 place) is len refl

found_content : (n : Numbering) (size : ℕ) (kind : PacketType) (first second third : ℕ) (rest : List ℕ) → Start n first second third
    → AreOctets rest → Names n third rest kind → admits kind (bit_8 first) (bit_7 first) ≡ true
    → is_on_channel kind (channel_of first second) ≡ true
    → Found n size (first ∷ second ∷ third ∷ rest)
    (on_channel n (channel_of first second) (content_of n size kind (bit_8 first) (bit_7 first) third rest))
found_content n size kind first second third rest s octets names bits place =
    let P : Result ContentValue PacketFault → Type 0 =
    λ r. Found n size (first ∷ second ∷ third ∷ rest) (on_channel n (channel_of first second) r) in
    cond_by P (not (has_length n kind rest)) _ _ (λ bad. tt) (λ len.
    cond_by P (has_bad_address kind rest) _ _ (λ bad. tt) (λ good.
    cond_by P (is_too_long n size kind rest) _ _ (λ bad. tt) (λ short.
    form n size kind first second third rest s octets names bits place (not_false (has_length n kind rest) len) good short)))

found_typed : (n : Numbering) (size first second third : ℕ) (rest : List ℕ) → Start n first second third → AreOctets rest
    → Found n size (first ∷ second ∷ third ∷ rest) (typed n size (named_type n first second third rest) first second third rest)
found_typed n size first second third rest s octets =
    let bytes = first ∷ second ∷ third ∷ rest in
    let P : Option PacketType → Type 0 =
    λ kind. Found n size bytes (typed n size (option_and_then (allowed first second) kind) first second third rest) in
    type_by P n third rest
    (λ kind names. cond_by (λ k. Found n size bytes (typed n size k first second third rest))
    (admits kind (bit_8 first) (bit_7 first) && is_on_channel kind (channel_of first second)) _ _
    (λ fits. let both = and_true (admits kind (bit_8 first) (bit_7 first))
    (is_on_channel kind (channel_of first second)) fits in
    found_content n size kind first second third rest s octets names both.0 both.1)
    (λ apart. tt))
    tt

pub found : (n : Numbering) (size : ℕ) (bytes : List ℕ) → AreOctets bytes → Found n size bytes (reading n size bytes)
found n size [] octets = tt
found n size (first ∷ []) octets = tt
found n size (first ∷ second ∷ []) octets = tt
found n size (first ∷ second ∷ third ∷ rest) octets =
    eq_by (λ r. Found n size (first ∷ second ∷ third ∷ rest) r) (format_of first) (format_id n) _ _
    (λ format. found_typed n size first second third rest record {
      first_octet = octets 0;
      second_octet = octets 1;
      third_octet = octets 2;
      format = format;
    } (λ k. octets (suc (suc (suc k)))))
    (λ other. tt)

-- what is in the grammar is read as the value that it is the form of
pub reading-form : (n : Numbering) (size : ℕ) (bytes : List ℕ) (p : PacketValue) → PacketForm n size bytes p
    → reading n size bytes ≡ Ok p
reading-form n size bytes p form =
    subst (λ (m : Numbering). reading m size bytes ≡ Ok p) form.numbered (elim form.spelled [
      | inl written ↦ ap (reading p.numbering size) written ∙ reading-spelling size p form.fits
      | inr other ↦ reading-other p.numbering size bytes p.channel p.content form.fits other
    ])

abbrev value_of : PacketValue → Result PacketValue PacketFault → PacketValue
value_of p (Ok q) = q
value_of p (Err fault) = p

pub found_answer : (n : Numbering) (size : ℕ) (bytes : List ℕ) (answer : Result Packet PacketFault)
    → answer_view answer ≡ reading n size bytes → Found n size bytes (reading n size bytes)
    → IfOk answer (λ p. PacketForm n size bytes (view p))
found_answer n size bytes (Ok p) is found = subst (Found n size bytes) (sym is) found
found_answer n size bytes (Err fault) is found = tt
