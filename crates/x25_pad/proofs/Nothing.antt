-- A terminal that has nothing to show shows and takes nothing.
use Rattle.std.proofs.Common.{◌≡◌, ℕ, Bool, true, false, List, [], ◌∷◌, length, arith, refl, ap, ◌∙◌, true≢false}
use Rattle.std.proofs.lemmas.Bool.{eqb-true}
use Rattle.std.specs.Prelude.{Option, Some, None, not, ◌||◌, ◌==◌, ◌++◌, is_some, if◌then◌else◌, slice_get}
use Rattle.std.specs.Option.{option_map_or}
use Rattle.data_transfer.specs.Traffic.{Taken as TakenValue}
use Rattle.pad_terminal.specs.Terminal.{TerminalState, may_show}
use Rattle.pad_ports.specs.Showing as port
use Rattle.pad_ports.specs.Ports.{PortState, AtLine, next_on, taken_of, text_taken, printed}
use Rattle.x25_pad.specs.Pad.{PadState, begun, with_line, print_text, print_taken}
use Rattle.x25_pad.specs.Showing.{shows}

abbrev at : PortState → PadState → AtLine
at found p = record { port = found; line = p.line }

-- what was not taken of the last event is nothing that is shown
next_begun : (call : Option ℕ) (number : ℕ) (found : PortState) (p : PadState) →
    next_on call (with_line number found (begun p)) ≡ next_on call (at found p)
next_begun None number found p = refl
next_begun (Some channel) number found p = refl

taken_begun : (number : ℕ) (found : PortState) (p : PadState) → taken_of (with_line number found (begun p)) ≡ taken_of (at found p)
taken_begun number found p = ap (λ next. if may_show found.terminal then next else None) (next_begun found.call number found p)

none_there : (none more : Bool) → (not none || more) ≡ false → none ≡ true
none_there true more h = refl
none_there false more h = absurd (true≢false h)

neither : (t : TerminalState) (text : List ℕ) (taken : Option TakenValue) → (not (length text == 0) || is_some taken) ≡ false
    → (text ++ text_taken taken t ≡ []) × (taken ≡ None)
neither t [] None nothing = (refl, refl)
neither t [] (Some taken) nothing = let wrong : true ≡ false = nothing in absurd (cc)
neither t (o ∷ text) taken nothing =
    let none = eqb-true (length (o ∷ text)) 0 (none_there (length (o ∷ text) == 0) (is_some taken) nothing) in
    absurd (omega (arith, none))

at_port : (number : ℕ) (o : Option PortState) (p : PadState) → option_map_or (λ found. port.shows (at found p)) o false ≡ false
    → (option_map_or (λ found. printed (with_line number found (begun p))) o [] ≡ [])
    × (option_map_or (λ found. taken_of (with_line number found (begun p))) o None ≡ None)
at_port number None p nothing = (refl, refl)
at_port number (Some found) p nothing =
    let w = neither found.terminal found.terminal.output.text (taken_of (at found p)) nothing in
    let same = taken_begun number found p in (
      ap (λ taken. found.terminal.output.text ++ text_taken taken found.terminal) same ∙ w.0,
      same ∙ w.1,
    )

pub shows_nothing : (number : ℕ) (p : PadState) → shows number p ≡ false
    → (print_text number p ≡ []) × (print_taken number p ≡ None)
shows_nothing number p nothing = at_port number (slice_get p.ports number) p nothing
