-- A PAD keeps its terminals, whatever happens.
use Rattle.std.specs.Prelude.{◌≡◌, ℕ, Bool, true, false, if◌then◌else◌, List, [], ◌∷◌, length, fold, slice_get, slice_set, Option, Some, None}
use Rattle.std.specs.Option.{option_map_or}
use Rattle.std.proofs.Common.{refl, ◌∙◌, ap}
use Rattle.std.proofs.lemmas.List.{length-set, length-map}
use Rattle.packet_end.specs.PacketEnd.{finished}
use Rattle.pad_ports.specs.Ports as port
use Rattle.pad_ports.specs.Ports.{PortState, AtLine}
use Rattle.pad_ports.specs.PadLine as line
use Rattle.x25_pad.specs.Pad as pad
use Rattle.x25_pad.specs.Pad.{PadState, all_heard}
use Rattle.data_transfer.specs.Packets.{Note}

abbrev pub count : PadState → ℕ
count p = length p.ports

count_changed : (number : ℕ) (change : PortState → PortState) (ports : List PortState) → length (pad.changed_at number change ports) ≡ length ports
count_changed number change ports = by (slice_get ports number)
  where
    by : (o : Option PortState) → length (option_map_or (λ p. slice_set ports number (change p)) o ports) ≡ length ports
    by None = refl
    by (Some q) = length-set ports number (change q)

-- for some terminal or none, and for each of a list
count_by : {N : Type 0} (f : Option ℕ → N → List PortState → List PortState) → ((n : N) (ports : List PortState) → f None n ports ≡ ports)
    → ((number : ℕ) (n : N) (ports : List PortState) → length (f (Some number) n ports) ≡ length ports)
    → (o : Option ℕ) (n : N) (ports : List PortState) → length (f o n ports) ≡ length ports
count_by f none some None n ports = ap length (none n ports)
count_by f none some (Some number) n ports = some number n ports

count_folded : {N : Type 0} (f : List PortState → N → List PortState) → ((n : N) (ports : List PortState) → length (f ports n) ≡ length ports)
    → (ns : List N) (ports : List PortState) → length (fold f ports ns) ≡ length ports
count_folded f each [] ports = refl
count_folded f each (n ∷ ns) ports = count_folded f each ns (f ports n) ∙ each n ports

count_heard : (ns : List Note) (ports : List PortState) → length (all_heard (line.all_learnt ns) ports) ≡ length ports
unfolding all_heard
count_heard ns ports =
    count_folded pad.one_learnt
    (λ note ports. count_by pad.learnt_at (λ n ports. refl) (λ number n ports. count_changed number (port.learns n) ports) (pad.holder (port.channel_of note) ports) note ports)
    (line.all_learnt ns) ports

count_told : (p : PadState) → count (pad.told p) ≡ count p
count_told p = count_heard p.line.end.notes p.ports

count_ended : (p : PadState) → count (pad.ended p) ≡ count p
count_ended p =
    let q : PadState = pad.told (pad.with_end (finished p.line.end) p) in
    length-map q.ports (port.settled q.line) ∙ count_told (pad.with_end (finished p.line.end) p)

count_at_port : (number : ℕ) (act : AtLine → AtLine) (p : PadState) → count (pad.at_port number act p) ≡ count p
count_at_port number act p = by (slice_get p.ports number)
  where
    by : (o : Option PortState) → count (option_map_or (λ found. pad.acted number p (act (pad.with_line number found p))) o p) ≡ count p
    by None = refl
    by (Some q) = length-set p.ports number (act (pad.with_line number q p)).port

pub count_terminal_event : (number : ℕ) (act : AtLine → AtLine) (p : PadState) → count (pad.terminal_event number act p) ≡ count p
count_terminal_event number act p =
    count_ended (pad.at_port number act (pad.begun p)) ∙ count_at_port number act (pad.begun p)

pub count_idle : (runs : Bool) (number : ℕ) (p : PadState) → count (if runs then pad.terminal_event number port.after_idle p else p) ≡ count p
count_idle true number p = count_terminal_event number port.after_idle p
count_idle false number p = refl

count_answered : (o : Option ℕ) (p : PadState) → count (pad.answered o p) ≡ count p
count_answered None p = refl
count_answered (Some channel) p = by (pad.first_free p.ports)
  where
    by : (o : Option ℕ) → count (pad.answered_at o channel p) ≡ count p
    by None = refl
    by (Some number) = count_changed number (port.connects channel) p.ports

pub count_line : (p : PadState) → count (pad.line_event p) ≡ count p
count_line p =
    count_ended (pad.answered (line.last_incoming None p.line.end.notes) (pad.told p))
    ∙ count_answered (line.last_incoming None p.line.end.notes) (pad.told p)
    ∙ count_told p
