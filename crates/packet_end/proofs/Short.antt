-- A packet that is heard on a line has no more octets than an I frame of the line carries.
use Rattle.std.proofs.Common.{◌≡◌, ◌+◌, ◌≤◌, ℕ, List, [], ◌∷◌, ◌++◌, length, max, Bool, true, false, sym, subst, arith, length-append}
use Rattle.std.specs.Prelude.{Option, Some, None, is_some, Result, Ok, Err}
use Rattle.packet_codec.specs.declared.fault.PacketFault.{PacketFault}
use Rattle.packet_codec.specs.declared.fault.PacketFault.TheVariants.{TooShort, BadFormatId, UnknownType, BadLength, BadAddress, DataTooLong}
use Rattle.packet_codec.specs.declared.packet.Numbering.{Numbering}
use Rattle.packet_codec.specs.declared.packet.Numbering.TheVariants.{Modulo8, Modulo128}
use Rattle.packet_codec.specs.Packet.{PacketValue, ContentValue, CallRequest, CallAccepted, ClearRequest, ClearConfirmation, Data, Interrupt, InterruptConfirmation, ReceiveReady, ReceiveNotReady, ResetRequest, ResetConfirmation, RestartRequest, RestartConfirmation, IsContentOn, content_spelling, packed}
use Rattle.packet_codec.specs.Reading.{reading, named_channel}
use Rattle.packet_codec.proofs.Blocks.{length-packed}
use Rattle.packet_codec.proofs.Forms.{AreOctets, Found, found}
use Rattle.data_transfer.specs.declared.flow.Flow.{Flow}
use Rattle.data_transfer.specs.Packets.{Packet, Received}
use Rattle.data_transfer.specs.Octets.{body_of, content_of, unreadable_as, heard_by, heard}
use Rattle.packet_layer.specs.Events.{written_packet, IsHeard}
use Rattle.packet_end.specs.Params.{info_of}

-- what has a spelling on a line of this size has a short one
short_content : (n m : Numbering) (size channel : ℕ) (c : ContentValue) → IsContentOn m size channel c →
    length (content_spelling n channel (content_of (body_of c))) ≤ max 145 (size + 4)
short_content n m size channel (CallRequest c) fits =
    let called = fits.1.called.1 in
    let calling = fits.1.calling.0 in
    let facilities = fits.1.facilities in
    let user = fits.1.user_data in
    let digits = length-packed 0 (c.called ++ c.calling) in
    let both = length-append c.called c.calling in
    let tail = length-append c.facilities c.user_data in
    let block = length-append (packed 0 (c.called ++ c.calling)) (length c.facilities ∷ (c.facilities ++ c.user_data)) in
    omega arith
short_content n m size channel CallAccepted fits = omega arith
short_content n m size channel (ClearRequest cause diagnostic) fits = omega arith
short_content n m size channel ClearConfirmation fits = omega arith
short_content Modulo8 m size channel (Data d) fits = omega (arith, fits.1.short)
short_content Modulo128 m size channel (Data d) fits = omega (arith, fits.1.short)
short_content n m size channel (Interrupt octets) fits = omega (arith, fits.1.1)
short_content n m size channel InterruptConfirmation fits = omega arith
short_content Modulo8 m size channel (ReceiveReady receive) fits = omega arith
short_content Modulo128 m size channel (ReceiveReady receive) fits = omega arith
short_content Modulo8 m size channel (ReceiveNotReady receive) fits = omega arith
short_content Modulo128 m size channel (ReceiveNotReady receive) fits = omega arith
short_content n m size channel (ResetRequest cause diagnostic) fits = omega arith
short_content n m size channel ResetConfirmation fits = omega arith
short_content n m size channel (RestartRequest cause diagnostic) fits = omega arith
short_content n m size channel RestartConfirmation fits = omega arith

-- what cannot be read is no whole packet
unread_whole : (unknown : Bool) (channel : Option ℕ) (p : Packet) → unreadable_as unknown channel ≡ Some (Received.Whole p) → ⊥
unread_whole unknown None p e = absurd (cc)
unread_whole true (Some channel) p e = absurd (cc)
unread_whole false (Some channel) p e = absurd (cc)

heard_short : (flow : Flow) (bytes : List ℕ) (p : Packet) → AreOctets bytes → heard flow bytes ≡ Some (Received.Whole p) →
    length (written_packet flow (Some p) []) ≤ info_of flow
heard_short flow bytes p octets is = go (reading flow.numbering flow.size bytes) (found flow.numbering flow.size bytes octets) is
  where
    go : (r : Result PacketValue PacketFault) → Found flow.numbering flow.size bytes r → heard_by bytes r ≡ Some (Received.Whole p) →
        length (written_packet flow (Some p) []) ≤ info_of flow
    go (Ok q) form e =
        let same : record { channel = q.channel; body = body_of q.content } ≡ p = cc in
        subst (λ (p : Packet). length (written_packet flow (Some p) []) ≤ info_of flow) same
        (short_content flow.numbering q.numbering flow.size q.channel q.content form.fits)
    go (Err TooShort) form e = absurd (cc)
    go (Err BadFormatId) form e = absurd (cc)
    go (Err UnknownType) form e = absurd (unread_whole true (named_channel bytes) p e)
    go (Err BadLength) form e = absurd (unread_whole false (named_channel bytes) p e)
    go (Err BadAddress) form e = absurd (unread_whole false (named_channel bytes) p e)
    go (Err DataTooLong) form e = absurd (unread_whole false (named_channel bytes) p e)

-- what a layer wrote for the link, which is heard as it was meant
pub next_short : (flow : Flow) (packet : Option Packet) (old bytes : List ℕ) → is_some packet ≡ true → AreOctets bytes →
    bytes ≡ written_packet flow packet old → IsHeard flow packet bytes → length bytes ≤ info_of flow
next_short flow None old bytes says octets is heard = absurd (cc)
next_short flow (Some p) old bytes says octets is heard =
    subst (λ (b : List ℕ). length b ≤ info_of flow) (sym is) (heard_short flow bytes p octets heard)
