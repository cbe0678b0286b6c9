-- What happens at the terminals of a PAD, what the PAD answers and shows, and what is written of it.
use Rattle.std.specs.Prelude.{ℕ, ◌<◌, Bool, true, List, [], length}
use Rattle.link_timers.specs.declared.role.Role.{Role}
use Rattle.pad_ports.specs.Ports as port
use Rattle.x25_pad.specs.Pad as pad
use Rattle.x25_pad.specs.Pad.{PadState, terminal_event}
use Rattle.call_records.specs.Book.{Book}
use Rattle.user_nodes.specs.Node.{NodeState, Pad, Host}
use Rattle.user_nodes.specs.Turn.{Turn, unchanged, told}
use Rattle.user_nodes.specs.declared.terminal.TerminalEvent.{TerminalEvent}
use Rattle.user_nodes.specs.declared.terminal.TerminalEvent.TheVariants.{Key, Break, Idle, Print, Leaves, Arrives}

-- the PAD after it; the end of an idle time is nothing where its timer does not run
abbrev pub after_terminal : (terminal : ℕ) → TerminalEvent → PadState → PadState
after_terminal terminal (Key octet) p = terminal_event terminal (port.after_key octet) p
after_terminal terminal Break p = terminal_event terminal port.after_break p
after_terminal terminal Idle p = pad.after_idle terminal p
after_terminal terminal Print p = terminal_event terminal port.after_print p
after_terminal terminal Leaves p = terminal_event terminal port.after_leaving p
after_terminal terminal Arrives p = terminal_event terminal port.after_arrival p

-- whether it was taken, and not dropped
abbrev pub is_taken : (terminal : ℕ) → TerminalEvent → PadState → Bool
is_taken terminal (Key octet) p = pad.key_taken terminal octet p
is_taken terminal Break p = pad.break_taken terminal p
is_taken terminal Idle p = pad.idle_taken terminal p
is_taken terminal Print p = true
is_taken terminal Leaves p = true
is_taken terminal Arrives p = true

-- what the terminal shows then
abbrev pub text_shown : (terminal : ℕ) → TerminalEvent → PadState → List ℕ
text_shown terminal Print p = pad.print_text terminal p
text_shown terminal event p = []

-- the terminal is one of the node's
abbrev pub HasTerminal : NodeState → (terminal : ℕ) → Type 0
HasTerminal (Pad p) terminal = terminal < length p.ports
HasTerminal (Host e) terminal = ⊥

abbrev pub at_terminal : Role → NodeState → (terminal : ℕ) → TerminalEvent → Book → Turn
at_terminal role (Pad p) terminal event b = told role (Pad (after_terminal terminal event p)) b
at_terminal role (Host e) terminal event b = unchanged (Host e) b
