-- What happens at the port of a terminal, and at the line.
use Rattle.std.proofs.Common.{◌≡◌, ℕ, zero, suc, ◌<◌, List, [], ◌∷◌, length, get_or, Option, Some, sym, ap, ◌∙◌, arith}
use Rattle.std.specs.Prelude.{slice_get, slice_set}
use Rattle.std.specs.Option.{option_map_or}
use Rattle.pad_ports.specs.Ports.{PortState, AtLine}
use Rattle.pad_ports.specs.PadLine.{PadLine, at_terminal}
use Rattle.x25_pad.specs.Pad.{PadState, with_line, at_port, acted}

there : {X : Type 0} (xs : List X) (n : ℕ) (x : X) → n < length xs → x ≡ get_or xs n x → slice_get xs n ≡ Some x
there [] n x less is = absurd (omega (arith, less))
there (y ∷ ys) zero x less is = ap Some (sym is)
there (y ∷ ys) (suc n) x less is = there ys n x (omega (arith, less)) is

-- the port of a terminal that the PAD has, at the line
found : {A : Type 0} (f : AtLine → A) (none : A) (p now : PadState) (number at : ℕ) (old : PortState) →
    p ≡ now → at ≡ number → number < length now.ports → old ≡ get_or p.ports at old →
    option_map_or (λ port. f (with_line number port p)) (slice_get p.ports number) none ≡ f (with_line number old p)
found f none p now number at old same here less is =
    let long : length p.ports ≡ length now.ports = ap (λ (q : PadState). length q.ports) same in
    ap (λ (o : Option PortState). option_map_or (λ port. f (with_line number port p)) o none)
    (there p.ports number old (omega (arith, long, less)) (is ∙ ap (λ (n : ℕ). get_or p.ports n old) here))

pub acts_at : (act : AtLine → AtLine) (p now : PadState) (number at : ℕ) (old new : PortState) (named line : PadLine) →
    p ≡ now → at ≡ number → number < length now.ports → old ≡ get_or p.ports at old → named ≡ at_terminal (Some number) p.line →
    new ≡ (act (record { port = old; line = named })).port → line ≡ (act (record { port = old; line = named })).line →
    record { line = line; ports = slice_set p.ports at new } ≡ at_port number act now
acts_at act p now number at old new named line same here less is named_is port_is line_is =
    (λ i. record { line = line_is i; ports = slice_set p.ports (here i) (port_is i) })
    ∙ ap (λ (l : PadLine). acted number p (act (record { port = old; line = l }))) named_is
    ∙ sym (found (λ a. acted number p (act a)) p p now number at old same here less is)
    ∙ ap (at_port number act) same

pub seen_at : {A : Type 0} (f : AtLine → A) (none : A) (p now : PadState) (number at : ℕ) (old : PortState) (named : PadLine) →
    p ≡ now → at ≡ number → number < length now.ports → old ≡ get_or p.ports at old → named ≡ at_terminal (Some number) p.line →
    f (record { port = old; line = named }) ≡ option_map_or (λ port. f (with_line number port now)) (slice_get now.ports number) none
seen_at f none p now number at old named same here less is named_is =
    ap (λ (l : PadLine). f (record { port = old; line = l })) named_is
    ∙ sym (found f none p now number at old same here less is)
    ∙ ap (λ (q : PadState). option_map_or (λ port. f (with_line number port q)) (slice_get q.ports number) none) same
