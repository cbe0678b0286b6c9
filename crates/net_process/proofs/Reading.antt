-- A frame that was read of a remote line is put on the line.
use Rattle.std.proofs.Common.{◌≡◌, ℕ, List, set, Option, Some, None, refl, sym, ap, ◌∙◌, subst, inr}
use Rattle.std.specs.Prelude.{slice_get}
use Rattle.frame_lines.specs.declared.line.Direction.{Direction}
use Rattle.frame_lines.specs.Lines.{LineService}
use Rattle.line_carriers.specs.Carrier.{after_next}
use Rattle.net_events.specs.Network.{NetLine, Network}
use Rattle.net_events.specs.OneLine.{direction_to}
use Rattle.net_nodes.specs.Carrying.{PutAt}
use Rattle.remote_lines.specs.declared.line.LineEnd.{LineEnd}
use Rattle.remote_lines.specs.declared.line.Reading.{Reading}
use Rattle.remote_lines.specs.declared.line.Reading.TheVariants.{Frame}
use Rattle.remote_lines.specs.declared.line.RemoteLine.{RemoteLine}
use Rattle.remote_lines.specs.RemoteLine.{reading_of, after_read}
use Rattle.net_process.specs.Process.{ProcessState}
use Rattle.net_process.specs.Remote.{changed, changed_by, WithReading, HasRead}

pub same_element : {X : Type 0} (xs : List X) (place : ℕ) (x y : X) → slice_get xs place ≡ Some x → slice_get xs place ≡ Some y
    → x ≡ y
same_element xs place x y one other = let both : Some x ≡ Some y = sym one ∙ other in cc

-- the frame is put on a line, if there is one
abbrev pub Puts : LineService → (line : ℕ) → Direction → (frame : List ℕ) → (s t : Network) → Type 0
Puts L line d frame s t =
    ((l : NetLine) → slice_get s.lines line ≡ Some l → PutAt L line d frame l s t) × (slice_get s.lines line ≡ None → t ≡ s)

pub puts_at : (L : LineService) (end other : LineEnd) (d : Direction) (frame : List ℕ) (s t : Network) → end ≡ other
    → d ≡ direction_to end.role → Puts L end.line d frame s t → Puts L other.line (direction_to other.role) frame s t
puts_at L end other d frame s t is d_is puts =
    subst (λ (e : LineEnd). Puts L e.line (direction_to e.role) frame s t) is
    (subst (λ (x : Direction). Puts L end.line x frame s t) d_is puts)

pub frame_read : (L : LineService) (place : ℕ) (old : List ℕ) (p v : ProcessState) (r q : RemoteLine) (frame : List ℕ)
    (part : Network) → v ≡ p → slice_get v.lines place ≡ Some r → Frame ≡ reading_of (after_next r.carrier old).answer
    → q ≡ after_read r old → frame ≡ (after_next r.carrier old).frame
    → Puts L r.end.line (direction_to r.end.role) frame v.part part
    → HasRead L place old p Frame frame (record v { part = part; lines = set v.lines place q })
frame_read L place old p v r q frame part is there answer_is line_is frame_is puts =
    let after : ProcessState = record v { lines = set v.lines place (after_read r old) } in
    let last : ProcessState = record v { part = part; lines = set v.lines place q } in
    let base : WithReading L Frame place r.end frame after last =
    (part, ap (λ (x : RemoteLine). record v { part = part; lines = set v.lines place x }) line_is, puts.0, puts.1) in
    let framed : WithReading L Frame place r.end (after_next r.carrier old).frame after last =
    subst (λ (f : List ℕ). WithReading L Frame place r.end f after last) frame_is base in
    let changed_is : after ≡ changed place (λ x. after_read x old) v =
    sym (ap (λ (found : Option RemoteLine). changed_by found place (λ x. after_read x old) v) there) in
    let here : WithReading L Frame place r.end (after_next r.carrier old).frame (changed place (λ x. after_read x old) v) last =
    subst (λ (x : ProcessState). WithReading L Frame place r.end (after_next r.carrier old).frame x last) changed_is framed in
    subst (λ (x : ProcessState). HasRead L place old x Frame frame last) is
    (inr (
      r,
      there,
      record {
        answer_is = answer_is;
        frame_is = frame_is;
        reading =
            subst (λ (x : Reading). WithReading L x place r.end (after_next r.carrier old).frame (changed place (λ x. after_read x old) v) last)
            answer_is here;
      },
    ))
