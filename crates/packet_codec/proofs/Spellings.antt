-- What is written reads back.
use Rattle.std.proofs.Common.{◌≡◌, ℕ, ◌+◌, ◌*◌, ◌/◌, ◌%◌, ◌<◌, ◌≤◌, Bool, true, false, cond, eqb, ltb, leb, eq-eqb, le-ltb, le-leb, List, [], ◌∷◌, ◌++◌, length, take, drop, refl, sym, ap, ◌∙◌, inl, inr, arith}
use Rattle.std.specs.Prelude.{Some, None, Ok, Err, ◌&&◌, ◌||◌, not, ◌⊎◌}
use Rattle.std.proofs.lemmas.Bool.Decides.{nat_tests}
use Rattle.std.proofs.lemmas.List.{take_at, drop_at, append-nil}
use Rattle.packet_codec.specs.Address.{AreDigits, MayBeDigits, are_decimal}
use Rattle.packet_codec.specs.declared.fault.PacketFault.TheVariants.{BadLength, BadAddress, DataTooLong}
use Rattle.packet_codec.specs.declared.packet.Numbering.{Numbering}
use Rattle.packet_codec.specs.declared.packet.Numbering.TheVariants.{Modulo8, Modulo128}
use Rattle.packet_codec.specs.declared.packet_type.PacketType.{PacketType}
use Rattle.packet_codec.specs.declared.packet_type.PacketType.TheVariants as types
use Rattle.packet_codec.specs.Packet.{PacketValue, ContentValue, CallValue, DataValue, CallRequest, CallAccepted, ClearRequest, ClearConfirmation, Data, Interrupt, InterruptConfirmation, ReceiveReady, ReceiveNotReady, ResetRequest, ResetConfirmation, RestartRequest, RestartConfirmation, IsPacket, IsContentOn, IsLogicalChannel, IsCallValue, IsDataValue, IsOtherSpelling, IsAcceptedSpelling, IsFacilityPart, bit, header, plain_header, address_part, facility_part, call_block, content_spelling, data_spelling, flow_spelling, format_id, spelling}
use Rattle.packet_codec.specs.Reading.{admits, bit_1, bit_5, content_of, data_of, format_of, is_on_channel, numbered, on_channel, reading, type_of, said, has_length, has_bad_address, is_too_long, called_length, digits, after_addresses, has_addresses, has_facilities, facilities_of, user_data_of, has_call_length, ends_in_facilities, has_accepted_length, call_value}
use Rattle.packet_codec.proofs.Addresses.{true_and}
use Rattle.packet_codec.proofs.Blocks.{AreAddresses, block_of, decimal_block, facilities_written}
use Rattle.packet_codec.proofs.Octets.{first_of, format_id-small, format_of-first_of, bit_8-first_of, bit_7-first_of, channel_of-first_of}

-- octets behind a header of a type that goes with it are read as that type
pub reading-header : (n : Numbering) (size : ℕ) (kind : PacketType) (q d : Bool) (channel third : ℕ) (rest : List ℕ)
    → channel < 4096 → type_of n third rest ≡ Some kind → admits kind q d ≡ true → is_on_channel kind channel ≡ true
    → reading n size (header n q d channel third ++ rest) ≡ on_channel n channel
    (content_of n size kind q d third rest)
reading-header n size kind q d channel third rest low names bits place =
    let f = format_id n in
    let small = format_id-small n in
    let format : eqb (format_of (first_of f q d channel)) f ≡ true =
    eq-eqb _ _ (format_of-first_of f q d channel small low) in
    let is_q = bit_8-first_of f q d channel small low in
    let is_d = bit_7-first_of f q d channel small low in
    let is_channel = channel_of-first_of f q d channel small low in
    rw (format, names, is_q, is_d, is_channel, bits, place) (rw (is_q, is_d, is_channel) refl)

-- an octet 3 that names a type with either numbering
coded : (n : Numbering) (third : ℕ) (rest : List ℕ) (kind : PacketType) → type_of Modulo8 third rest ≡ Some kind
    → type_of Modulo128 third rest ≡ Some kind → type_of n third rest ≡ Some kind
coded Modulo8 third rest kind is is' = is
coded Modulo128 third rest kind is is' = is'

-- bit 1 of an octet whose other bits are a number
bit_1-odd : (number : ℕ) (b : Bool) → bit_1 (2 * number + bit b) ≡ b
bit_1-odd number true = grind (arith, nat_tests)
bit_1-odd number false = grind (arith, nat_tests)

half-odd : (number : ℕ) (b : Bool) → (2 * number + bit b) / 2 ≡ number
half-odd number true = omega arith
half-odd number false = omega arith

-- bit 1 is zero
bit_1-even : (number : ℕ) → bit_1 (2 * number) ≡ false
bit_1-even number = grind (arith, nat_tests)

half-even : (number : ℕ) → 2 * number / 2 ≡ number
half-even number = omega arith

is_data : (n : Numbering) (third : ℕ) (rest : List ℕ) → third % 2 ≡ 0 → type_of n third rest ≡ Some types.Data
is_data n third rest even =
    let zero : eqb (third % 2) 0 ≡ true = eq-eqb _ _ even in
    rw zero refl

even-numbers : (receive send : ℕ) (more : Bool) → (32 * receive + 16 * bit more + 2 * send) % 2 ≡ 0
even-numbers receive send true = omega arith
even-numbers receive send false = omega arith

data_of-modulo_8 : (d : DataValue) → d.receive < 8 → d.send < 8
    → data_of Modulo8 d.qualified d.delivery (32 * d.receive + 16 * bit d.more + 2 * d.send) d.user_data ≡ d
data_of-modulo_8 d low low' =
    λ i. record {
      qualified = d.qualified;
      delivery = d.delivery;
      more = more_is d.more i;
      send = send_is d.more i;
      receive = receive_is d.more i;
      user_data = d.user_data;
    }
  where
    more_is : (more : Bool) → bit_5 (32 * d.receive + 16 * bit more + 2 * d.send) ≡ more
    more_is true = grind (arith, nat_tests)
    more_is false = grind (arith, nat_tests)

    send_is : (more : Bool) → (32 * d.receive + 16 * bit more + 2 * d.send) / 2 % 8 ≡ d.send
    send_is true = omega arith
    send_is false = omega arith

    receive_is : (more : Bool) → (32 * d.receive + 16 * bit more + 2 * d.send) / 32 ≡ d.receive
    receive_is true = omega arith
    receive_is false = omega arith

data_of-modulo_128 : (d : DataValue)
    → data_of Modulo128 d.qualified d.delivery (2 * d.send) ((2 * d.receive + bit d.more) ∷ d.user_data) ≡ d
data_of-modulo_128 d =
    λ i. record {
      qualified = d.qualified;
      delivery = d.delivery;
      more = bit_1-odd d.receive d.more i;
      send = half-even d.send i;
      receive = half-odd d.receive d.more i;
      user_data = d.user_data;
    }

not_zero : (channel : ℕ) → 0 < channel → eqb channel 0 ≡ false
not_zero channel low = grind (arith, nat_tests)

is_ready-modulo_8 : (receive : ℕ) → type_of Modulo8 (32 * receive + 1) [] ≡ Some types.ReceiveReady
is_ready-modulo_8 receive =
    let odd : eqb ((32 * receive + 1) % 2) 0 ≡ false = grind (arith, nat_tests) in
    let code : eqb ((32 * receive + 1) % 32) 1 ≡ true = eq-eqb _ _ (omega arith) in
    rw (odd, code) refl

is_not_ready-modulo_8 : (receive : ℕ) → type_of Modulo8 (32 * receive + 5) [] ≡ Some types.ReceiveNotReady
is_not_ready-modulo_8 receive =
    let odd : eqb ((32 * receive + 5) % 2) 0 ≡ false = grind (arith, nat_tests) in
    let other : eqb ((32 * receive + 5) % 32) 1 ≡ false = grind (arith, nat_tests) in
    let code : eqb ((32 * receive + 5) % 32) 5 ≡ true = eq-eqb _ _ (omega arith) in
    rw (odd, other, code) refl

-- the octet of P(R) has a zero in bit 1
numbered-even : (kind : PacketType) (receive : ℕ) → numbered kind (2 * receive ∷ []) ≡ Some kind
numbered-even kind receive = ap (λ (b : Bool). cond b None (Some kind)) (bit_1-even receive)

-- octets without a fault are read as what they say
pub passes : (n : Numbering) (size : ℕ) (kind : PacketType) (q d : Bool) (third : ℕ) (rest : List ℕ) (content : ContentValue)
    → has_length n kind rest ≡ true → has_bad_address kind rest ≡ false → is_too_long n size kind rest ≡ false
    → said n kind q d third rest ≡ content → content_of n size kind q d third rest ≡ Ok content
passes n size kind q d third rest content len good short says =
    λ i. cond (not (len i)) (Err BadLength)
    (cond (good i) (Err BadAddress) (cond (short i) (Err DataTooLong) (Ok (says i))))

-- a packet of a type that goes without Q and D
plainly : (n : Numbering) (size : ℕ) (kind : PacketType) (channel third : ℕ) (rest : List ℕ) (content : ContentValue)
    → IsLogicalChannel channel → type_of n third rest ≡ Some kind → admits kind false false ≡ true
    → is_on_channel kind channel ≡ true → content_of n size kind false false third rest ≡ Ok content
    → reading n size (plain_header n channel third ++ rest) ≡ Ok record { numbering = n; channel = channel; content = content }
plainly n size kind channel third rest content on names bits place is =
    reading-header n size kind false false channel third rest on.1 names bits place ∙ ap (on_channel n channel) is

restarts : (n : Numbering) (size : ℕ) (kind : PacketType) (channel third : ℕ) (rest : List ℕ) (content : ContentValue) → channel ≡ 0
    → type_of n third rest ≡ Some kind → admits kind false false ≡ true → is_on_channel kind channel ≡ true
    → content_of n size kind false false third rest ≡ Ok content
    → reading n size (plain_header n channel third ++ rest) ≡ Ok record { numbering = n; channel = channel; content = content }
restarts n size kind channel third rest content on names bits place is =
    reading-header n size kind false false channel third rest (omega arith) names bits place ∙ ap (on_channel n channel) is

off_zero : (channel : ℕ) → IsLogicalChannel channel → not (eqb channel 0) ≡ true
off_zero channel on = ap not (not_zero channel on.0)

-- ---- Calls

digits_of_address : (ds : List ℕ) → AreDigits ds → MayBeDigits ds
digits_of_address ds h = (h.1, h.2)

pub addresses_of_call : (c : CallValue) → IsCallValue c → AreAddresses c.called c.calling
addresses_of_call c h = record { are_called = digits_of_address c.called h.called; are_calling = h.calling }

pub call_of-block : (n : Numbering) (size : ℕ) (spare : ℕ) (c : CallValue) (q d : Bool) (third : ℕ) → spare < 16 → IsCallValue c
    → content_of n size types.CallRequest q d third (call_block spare c) ≡ Ok (CallRequest c)
call_of-block n size spare c q d third small h =
    let tail = facility_part c.facilities ++ c.user_data in
    let block = call_block spare c in
    let a = addresses_of_call c h in
    let b = block_of spare c.called c.calling tail small a in
    let f = facilities_written c.facilities c.user_data h.facilities in
    let user_data_is : user_data_of (after_addresses block) ≡ c.user_data = ap user_data_of b.after_is
    ∙ f.user_data_are in
    let facilities_are : facilities_of (after_addresses block) ≡ c.facilities = ap facilities_of b.after_is
    ∙ f.facilities_are in
    let whole : has_facilities (after_addresses block) ≡ true = ap has_facilities b.after_is ∙ f.whole in
    let short : leb (length (user_data_of (after_addresses block))) 16 ≡ true =
    ap (λ (u : List ℕ). leb (length u) 16) user_data_is ∙ le-leb _ _ h.user_data in
    let len : has_call_length block ≡ true =
    true_and (has_addresses block)
    (has_facilities (after_addresses block) && leb
    (length (user_data_of (after_addresses block))) 16) b.whole (true_and _ _ whole short) in
    let some : eqb (called_length block) 0 ≡ false = ap (λ n. eqb n 0) b.called_is
    ∙ not_zero (length c.called) h.called.0 in
    let good : (eqb (called_length block) 0 || not (are_decimal (digits block))) ≡ false =
    (λ i. some i || not (decimal_block block c.called c.calling tail b a i)) in
    let called_are : take (called_length block) (digits block) ≡ c.called =
    (λ i. take (b.called_is i) (b.digits_are i)) ∙ take_at c.called c.calling (length c.called) refl in
    let calling_are : drop (called_length block) (digits block) ≡ c.calling =
    (λ i. drop (b.called_is i) (b.digits_are i)) ∙ drop_at c.called c.calling (length c.called) refl in
    let value : call_value block ≡ c =
    (λ i. record {
      called = called_are i;
      calling = calling_are i;
      facilities = facilities_are i;
      user_data =
          user_data_is i;
    }) in
    passes n size types.CallRequest q d third block (CallRequest c) len good refl (ap CallRequest value)

pub reading-call : (n : Numbering) (size : ℕ) (channel : ℕ) (delivery : Bool) (spare : ℕ) (c : CallValue) → IsLogicalChannel channel
    → spare < 16 → IsCallValue c
    → reading n size (header n false delivery channel 0x0b ++ call_block spare c) ≡ Ok record {
      numbering = n;
      channel = channel;
      content =
          CallRequest c;
    }
reading-call n size channel delivery spare c on small h =
    reading-header n size types.CallRequest false delivery channel 0x0b (call_block spare c) on.1
    (coded n 0x0b (call_block spare c) types.CallRequest refl refl) refl
    (off_zero channel on) ∙ ap (on_channel n channel) (call_of-block n size spare c false delivery 0x0b small h)

-- ---- Call Accepted

or_true : (b : Bool) → (b || true) ≡ true
or_true true = refl
or_true false = refl

pub ends : (rest : List ℕ) → (rest ≡ []) ⊎ IsFacilityPart rest → ends_in_facilities rest ≡ true
ends rest (inl none) = ap ends_in_facilities none
ends rest (inr f) =
    let parts = facilities_written f.0 [] f.1 in
    let same : rest ≡ facility_part f.0 ++ [] = f.2 ∙ sym (append-nil (facility_part f.0)) in
    let whole : has_facilities rest ≡ true = ap has_facilities same ∙ parts.whole in
    let none : eqb (length (user_data_of rest)) 0 ≡ true = ap (λ (u : List ℕ). eqb (length (user_data_of u)) 0) same
    ∙ ap (λ (u : List ℕ). eqb (length u) 0) parts.user_data_are in
    (λ i. eqb (length rest) 0 || (whole i && none i)) ∙ or_true (eqb (length rest) 0)

pub reading-accepted : (n : Numbering) (size : ℕ) (bytes : List ℕ) (channel : ℕ) → IsLogicalChannel channel → IsAcceptedSpelling n bytes channel
    → reading n size bytes ≡ Ok record { numbering = n; channel = channel; content = CallAccepted }
reading-accepted n size bytes channel on s =
    let a : AreAddresses s.called s.calling = record { are_called = s.are_called; are_calling = s.are_calling } in
    let block = address_part s.spare s.called s.calling ++ s.rest in
    let b = block_of s.spare s.called s.calling s.rest s.half a in
    let last : ends_in_facilities (after_addresses block) ≡ true = ap ends_in_facilities b.after_is
    ∙ ends s.rest s.is_rest in
    let len : has_accepted_length block ≡ true = (λ i. eqb (length block) 0 || (b.whole i && last i))
    ∙ or_true (eqb (length block) 0) in
    let good : not (are_decimal (digits block)) ≡ false = ap not (decimal_block block s.called s.calling s.rest b a) in
    ap (reading n size) s.spelled ∙ plainly n size types.CallAccepted channel 0x0f block CallAccepted on
    (coded n 0x0f block types.CallAccepted refl refl) refl
    (off_zero channel on) (passes n size types.CallAccepted false false 0x0f block CallAccepted len good refl refl)

-- ---- each type

interrupt_length : (n : Numbering) (octets : List ℕ) → 1 ≤ length octets → length octets ≤ 32 → has_length n types.Interrupt octets ≡ true
interrupt_length n octets low high =
    true_and (leb 1 (length octets)) (leb (length octets) 32) (le-leb _ _ low) (le-leb _ _ high)

reading-data : (n : Numbering) (size channel : ℕ) (d : DataValue) → IsLogicalChannel channel → IsDataValue n size d
    → reading n size (data_spelling n channel d) ≡ Ok record { numbering = n; channel = channel; content = Data d }
reading-data Modulo8 size channel d on fits =
    let third = 32 * d.receive + 16 * bit d.more + 2 * d.send in
    let short : ltb size (length d.user_data) ≡ false = le-ltb _ _ fits.short in
    let says = ap Data (data_of-modulo_8 d fits.receive fits.send) in
    reading-header Modulo8 size types.Data d.qualified d.delivery channel third d.user_data on.1
    (is_data Modulo8 third d.user_data (even-numbers d.receive d.send d.more)) refl (off_zero channel on)
    ∙ ap (on_channel Modulo8 channel)
    (passes Modulo8 size types.Data d.qualified d.delivery third d.user_data (Data d) refl refl short says)
reading-data Modulo128 size channel d on fits =
    let third = 2 * d.send in
    let rest = (2 * d.receive + bit d.more) ∷ d.user_data in
    let there : leb 1 (length rest) ≡ true = le-leb _ _ (omega arith) in
    let short : ltb size (length d.user_data) ≡ false = le-ltb _ _ fits.short in
    let says = ap Data (data_of-modulo_128 d) in
    reading-header Modulo128 size types.Data d.qualified d.delivery channel third rest on.1
    (is_data Modulo128 third rest (omega arith)) refl (off_zero channel on)
    ∙ ap (on_channel Modulo128 channel)
    (passes Modulo128 size types.Data d.qualified d.delivery third rest (Data d) there refl short says)

reading-ready : (n : Numbering) (size channel receive : ℕ) → IsLogicalChannel channel
    → reading n size (flow_spelling n channel 1 receive) ≡ Ok record {
      numbering = n;
      channel = channel;
      content = ReceiveReady receive;
    }
reading-ready Modulo8 size channel receive on =
    let number : (32 * receive + 1) / 32 ≡ receive = omega arith in
    plainly Modulo8 size types.ReceiveReady channel (32 * receive + 1) [] (ReceiveReady receive) on
    (is_ready-modulo_8 receive) refl (off_zero channel on) (ap (λ k. Ok (ReceiveReady k)) number)
reading-ready Modulo128 size channel receive on =
    plainly Modulo128 size types.ReceiveReady channel 1 (2 * receive ∷ []) (ReceiveReady receive) on
    (numbered-even types.ReceiveReady receive) refl (off_zero channel on)
    (ap (λ k. Ok (ReceiveReady k)) (half-even receive))

reading-not_ready : (n : Numbering) (size channel receive : ℕ) → IsLogicalChannel channel
    → reading n size (flow_spelling n channel 5 receive) ≡ Ok record {
      numbering = n;
      channel = channel;
      content = ReceiveNotReady receive;
    }
reading-not_ready Modulo8 size channel receive on =
    let number : (32 * receive + 5) / 32 ≡ receive = omega arith in
    plainly Modulo8 size types.ReceiveNotReady channel (32 * receive + 5) [] (ReceiveNotReady receive) on
    (is_not_ready-modulo_8 receive) refl (off_zero channel on) (ap (λ k. Ok (ReceiveNotReady k)) number)
reading-not_ready Modulo128 size channel receive on =
    plainly Modulo128 size types.ReceiveNotReady channel 5 (2 * receive ∷ []) (ReceiveNotReady receive) on
    (numbered-even types.ReceiveNotReady receive) refl (off_zero channel on)
    (ap (λ k. Ok (ReceiveNotReady k)) (half-even receive))

pub reading-content : (n : Numbering) (size channel : ℕ) (content : ContentValue) → IsContentOn n size channel content
    → reading n size (content_spelling n channel content) ≡ Ok record { numbering = n; channel = channel; content = content }
reading-content n size channel (CallRequest c) fits = reading-call n size channel false 0 c fits.0 (omega arith) fits.1
reading-content n size channel CallAccepted fits =
    plainly n size types.CallAccepted channel 0x0f [] CallAccepted fits
    (coded n 0x0f [] types.CallAccepted refl refl) refl (off_zero channel fits) refl
reading-content n size channel (ClearRequest cause diagnostic) fits =
    plainly n size types.ClearRequest channel 0x13 (cause ∷ diagnostic ∷ []) (ClearRequest cause diagnostic) fits
    (coded n 0x13 (cause ∷ diagnostic ∷ []) types.ClearRequest refl refl) refl (off_zero channel fits) refl
reading-content n size channel ClearConfirmation fits =
    plainly n size types.ClearConfirmation channel 0x17 [] ClearConfirmation fits
    (coded n 0x17 [] types.ClearConfirmation refl refl) refl (off_zero channel fits) refl
reading-content n size channel (Data d) fits = reading-data n size channel d fits.0 fits.1
reading-content n size channel (Interrupt octets) fits =
    plainly n size types.Interrupt channel 0x23 octets (Interrupt octets) fits.0
    (coded n 0x23 octets types.Interrupt refl refl) refl (off_zero channel fits.0)
    (passes n size types.Interrupt false false 0x23 octets (Interrupt octets) (interrupt_length n octets fits.1.0 fits.1.1)
    refl refl refl)
reading-content n size channel InterruptConfirmation fits =
    plainly n size types.InterruptConfirmation channel 0x27 [] InterruptConfirmation fits
    (coded n 0x27 [] types.InterruptConfirmation refl refl) refl (off_zero channel fits)
    refl
reading-content n size channel (ReceiveReady receive) fits = reading-ready n size channel receive fits.0
reading-content n size channel (ReceiveNotReady receive) fits = reading-not_ready n size channel receive fits.0
reading-content n size channel (ResetRequest cause diagnostic) fits =
    plainly n size types.ResetRequest channel 0x1b (cause ∷ diagnostic ∷ []) (ResetRequest cause diagnostic) fits
    (coded n 0x1b (cause ∷ diagnostic ∷ []) types.ResetRequest refl refl) refl (off_zero channel fits) refl
reading-content n size channel ResetConfirmation fits =
    plainly n size types.ResetConfirmation channel 0x1f [] ResetConfirmation fits
    (coded n 0x1f [] types.ResetConfirmation refl refl) refl (off_zero channel fits) refl
reading-content n size channel (RestartRequest cause diagnostic) fits =
    restarts n size types.RestartRequest channel 0xfb (cause ∷ diagnostic ∷ []) (RestartRequest cause diagnostic) fits
    (coded n 0xfb (cause ∷ diagnostic ∷ []) types.RestartRequest refl refl) refl (eq-eqb channel 0 fits) refl
reading-content n size channel RestartConfirmation fits =
    restarts n size types.RestartConfirmation channel 0xff [] RestartConfirmation fits
    (coded n 0xff [] types.RestartConfirmation refl refl) refl (eq-eqb channel 0 fits) refl

pub reading-spelling : (size : ℕ) (p : PacketValue) → IsPacket size p → reading p.numbering size (spelling p) ≡ Ok p
reading-spelling size p fits = reading-content p.numbering size p.channel p.content fits

pub reading-other : (n : Numbering) (size : ℕ) (bytes : List ℕ) (channel : ℕ) (content : ContentValue) → IsContentOn n size channel content
    → IsOtherSpelling n bytes channel content → reading n size bytes ≡ Ok record { numbering = n; channel = channel; content = content }
reading-other n size bytes channel (CallRequest c) fits s = ap (reading n size) s.spelled
    ∙ reading-call n size channel s.delivery s.spare c fits.0 s.half fits.1
reading-other n size bytes channel CallAccepted fits s = reading-accepted n size bytes channel fits s
reading-other n size bytes channel (ClearRequest cause diagnostic) fits s =
    ap (reading n size) s.1 ∙ plainly n size types.ClearRequest channel 0x13 (cause ∷ []) (ClearRequest cause diagnostic) fits
    (coded n 0x13 (cause ∷ []) types.ClearRequest refl refl) refl (off_zero channel fits) (ap (λ n. Ok (ClearRequest cause n)) (sym s.0))
reading-other n size bytes channel (ResetRequest cause diagnostic) fits s =
    ap (reading n size) s.1 ∙ plainly n size types.ResetRequest channel 0x1b (cause ∷ []) (ResetRequest cause diagnostic) fits
    (coded n 0x1b (cause ∷ []) types.ResetRequest refl refl) refl (off_zero channel fits) (ap (λ n. Ok (ResetRequest cause n)) (sym s.0))
reading-other n size bytes channel (RestartRequest cause diagnostic) fits s =
    ap (reading n size) s.1 ∙ restarts n size types.RestartRequest channel 0xfb (cause ∷ []) (RestartRequest cause diagnostic) fits
    (coded n 0xfb (cause ∷ []) types.RestartRequest refl refl) refl (eq-eqb channel 0 fits) (ap (λ n. Ok (RestartRequest cause n)) (sym s.0))
reading-other n size bytes channel _ fits s = absurd s
