-- What a terminal shows is its own.
use Rattle.std.specs.Prelude.{◌≡◌, ℕ, zero, suc, Bool, true, false, if◌then◌else◌, ◌&&◌, List, [], ◌∷◌, ◌++◌, set, slice_get, slice_set, Option, Some, None}
use Rattle.std.specs.Option.{option_map_or}
use Rattle.std.proofs.Common.{refl, sym, ap, ◌∙◌, true≢false}
use Rattle.std.proofs.lemmas.Option.{none-some}
use Rattle.data_transfer.specs.Packets.Note.{Incoming, Connected, Closed, WasReset, InterruptConfirmed, Covered}
use Rattle.data_transfer.specs.Traffic.{Taken}
use Rattle.packet_layer.specs.Layer.{front_on}
use Rattle.pad_terminal.specs.Terminal.{may_show}
use Rattle.pad_ports.specs.Ports as port
use Rattle.pad_ports.specs.Ports.{PortState, AtLine, has_channel, text_taken}
use Rattle.x25_pad.specs.Pad as pad
use Rattle.x25_pad.specs.Pad.{PadState, acted, changed_at, holder, print_taken}
use Rattle.node_laws.specs.Pads.Own.{OwnPacketLaw, OwnTextLaw, OthersStayLaw, LearnsOwnLaw}
use Rattle.node_laws.proofs.Pads.Ports.{found_at, changed_for, heard_connected, heard_cleared, heard_reset, heard_none}

-- ---- what is taken

takeable_is : (o : Option Taken) (full : Bool) (x : Taken) → port.takeable o full ≡ Some x → o ≡ Some x
takeable_is None full x e = absurd (none-some x e)
takeable_is (Some y) full x e = unless_is (port.is_qualified y && full) e
  where
    unless_is : (v : Bool) → (if v then None else Some y) ≡ Some x → Some y ≡ Some x
    unless_is true e = absurd (none-some x e)
    unless_is false e = e

next_is : (o : Option ℕ) (a : AtLine) (x : Taken) → port.next_on o a ≡ Some x → (call : ℕ) × (o ≡ Some call) × (front_on a.line.end.layer call ≡ Some x)
next_is None a x e = absurd (none-some x e)
next_is (Some call) a x e = (call, refl, takeable_is (front_on a.line.end.layer call) _ x e)

shown_is : (v : Bool) (o : Option Taken) (x : Taken) → (if v then o else None) ≡ Some x → o ≡ Some x
shown_is true o x e = e
shown_is false o x e = absurd (none-some x e)

-- of the port of this number
print_is : (p : PadState) (number : ℕ) (q : PortState) → slice_get p.ports number ≡ Some q → print_taken number p ≡ port.taken_of (pad.with_line number q (pad.begun p))
print_is p number q at = ap (λ (o : Option PortState). option_map_or (λ found. port.taken_of (pad.with_line number found (pad.begun p))) o None) at

pub own_packet : OwnPacketLaw
own_packet p number q x at e =
    let a : AtLine = pad.with_line number q (pad.begun p) in
    next_is q.call a x (shown_is (may_show q.terminal) (port.next_on q.call a) x (sym (print_is p number q at) ∙ e))

pub own_text : OwnTextLaw
own_text p number q at =
    ap (λ (o : Option PortState). option_map_or (λ found. port.printed (pad.with_line number found (pad.begun p))) o []) at
    ∙ ap (λ (o : Option Taken). q.terminal.output.text ++ text_taken o q.terminal) (sym (print_is p number q at))

-- ---- the other terminals

get_other : (ports : List PortState) (i j : ℕ) (x : PortState) → (j ≡ i → ⊥) → slice_get (set ports i x) j ≡ slice_get ports j
get_other [] i j x h = refl
get_other (p ∷ ports) zero zero x h = absurd (h refl)
get_other (p ∷ ports) zero (suc j) x h = refl
get_other (p ∷ ports) (suc i) zero x h = refl
get_other (p ∷ ports) (suc i) (suc j) x h = get_other ports i j x (λ e. h (ap suc e))

pub others_stay : OthersStayLaw
others_stay p number other act h = by (slice_get p.ports number)
  where
    by : (o : Option PortState) → slice_get (option_map_or (λ found. acted number p (act (pad.with_line number found p))) o p).ports other ≡ slice_get p.ports other
    by None = refl
    by (Some found) = get_other p.ports number other (act (pad.with_line number found p)).port h

pub changed_other : (ports : List PortState) (i j : ℕ) (f : PortState → PortState) → (j ≡ i → ⊥) → slice_get (changed_at i f ports) j ≡ slice_get ports j
changed_other ports i j f h = by (slice_get ports i)
  where
    by : (o : Option PortState) → slice_get (option_map_or (λ p. slice_set ports i (f p)) o ports) j ≡ slice_get ports j
    by None = refl
    by (Some p) = get_other ports i j (f p) h

-- the port that has its call on a channel is another one
changed_on_other : (ports : List PortState) (d j : ℕ) (q : PortState) (f : PortState → PortState) → slice_get ports j ≡ Some q → has_channel q.call d ≡ false → slice_get (changed_for (holder d ports) f ports) j ≡ Some q
changed_on_other ports d j q f at off = by (holder d ports) refl
  where
    by : (o : Option ℕ) → holder d ports ≡ o → slice_get (changed_for o f ports) j ≡ Some q
    by None e = at
    by (Some i) e =
        let g = found_at (λ (p : PortState). has_channel p.call d) ports i e in
        let other : j ≡ i → ⊥ = λ same. (let one : q ≡ g.0 = cc (sym at ∙ ap (λ (k : ℕ). slice_get ports k) same ∙ g.1) in true≢false (sym g.2 ∙ ap (λ (p : PortState). has_channel p.call d) (sym one) ∙ off)) in
        changed_other ports i j f other ∙ at

pub learns_own : LearnsOwnLaw
learns_own ports number q (Incoming d parts) at off = ap (λ (ps : List PortState). slice_get ps number) (heard_none ports) ∙ at
learns_own ports number q (Connected d) at off = ap (λ (ps : List PortState). slice_get ps number) (heard_connected d ports) ∙ changed_on_other ports d number q _ at off
learns_own ports number q (Closed d cause diagnostic reason) at off =
    ap (λ (ps : List PortState). slice_get ps number) (heard_cleared d cause diagnostic reason ports) ∙ changed_on_other ports d number q _ at off
learns_own ports number q (WasReset d cause diagnostic reason) at off =
    ap (λ (ps : List PortState). slice_get ps number) (heard_reset d cause diagnostic reason ports) ∙ changed_on_other ports d number q _ at off
learns_own ports number q (InterruptConfirmed d) at off = ap (λ (ps : List PortState). slice_get ps number) (heard_none ports) ∙ at
learns_own ports number q (Covered d count) at off = ap (λ (ps : List PortState). slice_get ps number) (heard_none ports) ∙ at
