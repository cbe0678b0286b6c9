-- A packet that is read on a line has no more octets there than the line carries.
use Rattle.std.proofs.Common.{◌≡◌, ℕ, ◌+◌, ◌<◌, ◌≤◌, List, [], ◌∷◌, ◌++◌, length, max, take, drop, get_or, ap, inl, inr, arith, length-append, length-take}
use Rattle.std.specs.Prelude.{Result, Ok, Err, IfOk, ◌⊎◌}
use Rattle.packet_codec.specs.declared.fault.PacketFault.{PacketFault}
use Rattle.packet_codec.specs.declared.packet.Numbering.{Numbering}
use Rattle.packet_codec.specs.declared.packet.Numbering.TheVariants.{Modulo8, Modulo128}
use Rattle.packet_codec.specs.declared.packet.Packet.{Packet}
use Rattle.packet_codec.specs.Packet.{ContentValue, CallRequest, CallAccepted, ClearRequest, ClearConfirmation, Data, Interrupt, InterruptConfirmation, ReceiveReady, ReceiveNotReady, ResetRequest, ResetConfirmation, RestartRequest, RestartConfirmation, IsContentOn, IsOtherSpelling, PacketForm, content_spelling}
use Rattle.packet_codec.specs.View.{content_view, view}
use Rattle.xot_gateway.specs.declared.line.XotLine.{XotLine}
use Rattle.xot_gateway.specs.Packets.{after_field, address_octets, most_data, most_packet, over_line, with_field}

-- a Call goes with at most 15 octets of addresses and 16 of user data
short_call : (octets : List ℕ) → get_or octets 3 0 < 256 → length (with_field [] octets) ≤ 36
short_call [] few = omega arith
short_call (first ∷ []) few = omega arith
short_call (first ∷ second ∷ []) few = omega arith
short_call (first ∷ second ∷ third ∷ []) few = omega arith
short_call (first ∷ second ∷ third ∷ lengths ∷ rest) few =
    let addresses : List ℕ = take (address_octets lengths) rest in
    let user_data : List ℕ = take 16 (after_field (drop (address_octets lengths) rest)) in
    let parts = length-append addresses ((0 ∷ []) ++ user_data) in
    let first_part = length-take (address_octets lengths) rest in
    let last_part = length-take 16 (after_field (drop (address_octets lengths) rest)) in
    omega arith

-- what has this spelling, or another one, is short
short_content : (n : Numbering) (size channel : ℕ) (octets : List ℕ) (c : ContentValue) → get_or octets 3 0 < 256
    → IsContentOn n size channel c → (octets ≡ content_spelling n channel c) ⊎ IsOtherSpelling n octets channel c
    → length (over_line c octets) ≤ max 145 (size + 4)
short_content n size channel octets (CallRequest c) few fits spelled =
    let short = short_call octets few in omega arith
short_content n size channel octets CallAccepted few fits spelled =
    let short = length-take 3 octets in omega arith
short_content n size channel octets (ClearRequest cause diagnostic) few fits (inl e) = let l = ap length e in omega arith
short_content n size channel octets (ClearRequest cause diagnostic) few fits (inr o) = let l = ap length o.1 in omega arith
short_content n size channel octets ClearConfirmation few fits (inl e) = let l = ap length e in omega arith
short_content n size channel octets ClearConfirmation few fits (inr o) = absurd o
short_content Modulo8 size channel octets (Data d) few fits (inl e) =
    let l = ap length e in let short = fits.1.short in omega arith
short_content Modulo128 size channel octets (Data d) few fits (inl e) =
    let l = ap length e in let short = fits.1.short in omega arith
short_content n size channel octets (Data d) few fits (inr o) = absurd o
short_content n size channel octets (Interrupt sent) few fits (inl e) =
    let l = ap length e in let short = fits.1.1 in omega arith
short_content n size channel octets (Interrupt sent) few fits (inr o) = absurd o
short_content n size channel octets InterruptConfirmation few fits (inl e) = let l = ap length e in omega arith
short_content n size channel octets InterruptConfirmation few fits (inr o) = absurd o
short_content Modulo8 size channel octets (ReceiveReady receive) few fits (inl e) = let l = ap length e in omega arith
short_content Modulo128 size channel octets (ReceiveReady receive) few fits (inl e) = let l = ap length e in omega arith
short_content n size channel octets (ReceiveReady receive) few fits (inr o) = absurd o
short_content Modulo8 size channel octets (ReceiveNotReady receive) few fits (inl e) = let l = ap length e in omega arith
short_content Modulo128 size channel octets (ReceiveNotReady receive) few fits (inl e) = let l = ap length e in omega arith
short_content n size channel octets (ReceiveNotReady receive) few fits (inr o) = absurd o
short_content n size channel octets (ResetRequest cause diagnostic) few fits (inl e) = let l = ap length e in omega arith
short_content n size channel octets (ResetRequest cause diagnostic) few fits (inr o) = let l = ap length o.1 in omega arith
short_content n size channel octets ResetConfirmation few fits (inl e) = let l = ap length e in omega arith
short_content n size channel octets ResetConfirmation few fits (inr o) = absurd o
short_content n size channel octets (RestartRequest cause diagnostic) few fits (inl e) = let l = ap length e in omega arith
short_content n size channel octets (RestartRequest cause diagnostic) few fits (inr o) = let l = ap length o.1 in omega arith
short_content n size channel octets RestartConfirmation few fits (inl e) = let l = ap length e in omega arith
short_content n size channel octets RestartConfirmation few fits (inr o) = absurd o

pub short_packet : (line : XotLine) (octets : List ℕ) (answer : Result Packet PacketFault) → get_or octets 3 0 < 256
    → IfOk answer (λ p. PacketForm line.numbering (most_data line) octets (view p))
    → IfOk answer (λ p. length (over_line (content_view p.content) octets) ≤ most_packet line)
short_packet line octets (Ok p) few form =
    short_content (view p).numbering (most_data line) (view p).channel octets (content_view p.content) few form.fits
    form.spelled
short_packet line octets (Err fault) few form = tt
