-- What the packet layer tells, one note after the other.
use Rattle.std.proofs.Common.{◌≡◌, ℕ, List, ◌∷◌, [], ◌++◌, Option, Some, drop, slice_get, refl, sym, ap}
use Rattle.std.proofs.Common.{◌∙◌, append_assoc, arith, length}
use Rattle.std.proofs.lemmas.List.{append-nil}
use Rattle.std.proofs.lemmas.List.Sums.{fold-append}
use Rattle.data_transfer.specs.Packets.{Note}
use Rattle.data_transfer.specs.Packets.Note.{Incoming, Connected, Closed, WasReset, InterruptConfirmed, Covered}
use Rattle.packet_end.specs.PacketEnd.{without_first_note}
use Rattle.pad_ports.specs.PadLine.{learnt_of, all_learnt, last_incoming, about}
use Rattle.pad_ports.specs.Notes.{ChannelNote, Told, all_told}
use Rattle.pad_ports.specs.Ports.{PortState}
use Rattle.x25_pad.specs.Pad.{PadState, one_learnt, all_heard, holder, holders, told}

-- the first note, and then the others
first_is : (notes : List Note) (note : Note) → slice_get notes 0 ≡ Some note → note ∷ drop 1 notes ≡ notes
first_is [] note is = absurd (cc)
first_is (first ∷ rest) note is = cc

heard_first : (note : Note) (rest : List Note) (ports : List PortState) →
    all_heard (all_learnt rest) (all_heard (learnt_of note) ports) ≡ all_heard (all_learnt (note ∷ rest)) ports
unfolding all_heard
heard_first note rest ports = sym (fold-append one_learnt ports (learnt_of note) (all_learnt rest))

-- the first note is told, with its terminal
abbrev one_told : PadState → Note → (rest : List Note) → PadState
one_told p note rest = record {
  line = record p.line {
    end = record p.line.end { notes = rest };
    notes = p.line.notes ++ Told note ∷ [];
    noted_at = p.line.noted_at ++ holder (about note) p.ports ∷ [];
  };
  ports = all_heard (learnt_of note) p.ports;
}

told_cons : (p : PadState) (note : Note) (rest : List Note) →
    told (one_told p note rest) ≡ told (record p { line = record p.line { end = record p.line.end { notes = note ∷ rest } } })
told_cons p note rest = λ i. record {
  line = record p.line {
    end = record p.line.end { notes = [] };
    notes = append_assoc {A = ChannelNote} p.line.notes (Told note ∷ []) (all_told rest) i;
    noted_at = append_assoc {A = Option ℕ} p.line.noted_at (holder (about note) p.ports ∷ [])
        (holders (all_heard (learnt_of note) p.ports) rest) i;
  };
  ports = heard_first note rest p.ports i;
}

pub told_first : (p : PadState) (note : Note) → slice_get p.line.end.notes 0 ≡ Some note →
    told (record {
      line = record p.line {
        end = without_first_note p.line.end;
        notes = p.line.notes ++ Told note ∷ [];
        noted_at = p.line.noted_at ++ holder (about note) p.ports ∷ [];
      };
      ports = all_heard (learnt_of note) p.ports;
    })
    ≡ told p
told_first p note is =
    told_cons p note (drop 1 p.line.end.notes)
    ∙ ap (λ notes. told (record p { line = record p.line { end = record p.line.end { notes = notes } } }))
    (first_is p.line.end.notes note is)

last_cons : (before : Option ℕ) (note : Note) (rest : List Note) →
    last_incoming (last_incoming before (note ∷ [])) rest ≡ last_incoming before (note ∷ rest)
last_cons before (Incoming channel parts) rest = refl
last_cons before (Connected channel) rest = refl
last_cons before (Closed channel cause diagnostic reason) rest = refl
last_cons before (WasReset channel cause diagnostic reason) rest = refl
last_cons before (InterruptConfirmed channel) rest = refl
last_cons before (Covered channel count) rest = refl

pub last_first : (before : Option ℕ) (notes : List Note) (note : Note) → slice_get notes 0 ≡ Some note →
    last_incoming (last_incoming before (note ∷ [])) (drop 1 notes) ≡ last_incoming before notes
last_first before notes note is =
    last_cons before note (drop 1 notes) ∙ ap (last_incoming before) (first_is notes note is)

-- no notes
none_heard : (ports : List PortState) → all_heard [] ports ≡ ports
unfolding all_heard
none_heard ports = refl

told_empty : (p : PadState) (notes : List Note) → length notes ≡ 0 →
    told (record p { line = record p.line { end = record p.line.end { notes = notes } } })
    ≡ record p { line = record p.line { end = record p.line.end { notes = notes } } }
told_empty p [] none = λ i. record {
  line = record p.line {
    end = record p.line.end { notes = [] };
    notes = append-nil p.line.notes i;
    noted_at = append-nil p.line.noted_at i;
  };
  ports = none_heard p.ports i;
}
told_empty p (note ∷ rest) none = absurd (omega (arith, none))

pub told_none : (p : PadState) → length p.line.end.notes ≡ 0 → told p ≡ p
told_none p none = told_empty p p.line.end.notes none
