-- A terminal, and what the calls of a client's connection make of it.
use Rattle.std.specs.Prelude.{◌≡◌, ℕ, zero, suc, ◌+◌, ◌-◌, ◌*◌, ◌==◌, min, max, Bool, true, false, not, ◌&&◌, ◌||◌, nat_lt, nat_le, List, drop, length, is_none, remove, set, slice_get, position, unwrap_or, Option, Some, None, if◌then◌else◌}
use Rattle.std.specs.List.{list_all}
use Rattle.circular_buffer.specs.Buffer.{buffer}
use Rattle.net_process.specs.Process.{ProcessState, process_rests}
use Rattle.service_ports.specs.declared.command.TelnetCommand.TheVariants.{NoOperation}
use Rattle.service_ports.specs.declared.input.Key.{Key}
use Rattle.service_ports.specs.declared.mode.PortMode.{PortMode}
use Rattle.service_ports.specs.Modes.{is_telnet, with_shown}
use Rattle.service_ports.specs.Ports.{PortState, begun, after_octets, is_break_or, is_octet, takes_octet}
use Rattle.service_ports.specs.Writing.{with_command}
use Rattle.service.specs.declared.service.PortStatus.{PortStatus}
use Rattle.service.specs.declared.terminal.Phase.{Phase}
use Rattle.service.specs.declared.terminal.Phase.TheVariants.{Free, Open, Ending, Closing, Closed}
use Rattle.service.specs.declared.terminal.Presence.{Presence}
use Rattle.service.specs.declared.terminal.Presence.TheVariants.{Here, Gone}
use Rattle.service.specs.declared.terminal.Terminal.{Terminal}
use Rattle.service.specs.declared.terminal.Terms.{Terms}
use Rattle.service.specs.declared.terminal.TheConstants.{SILENT}

abbrev pub is_open : Phase → Bool
is_open Open = true
is_open _ = false

abbrev pub is_ending : Phase → Bool
is_ending (Ending left) = true
is_ending _ = false

-- a client has it
abbrev pub has_client : Phase → Bool
has_client Open = true
has_client (Ending left) = true
has_client _ = false

abbrev pub is_free_phase : Phase → Bool
is_free_phase Free = true
is_free_phase _ = false

-- nobody has it, and its PAD was told so
abbrev pub is_free : Terminal → Bool
is_free p = is_free_phase p.phase && is_none p.untold

-- it is of this table, and free
abbrev pub is_free_in : (table : ℕ) → Terminal → Bool
is_free_in table p = p.terms.table == table && is_free p

-- nobody has any of these
abbrev pub are_deserted : List Terminal → Bool
are_deserted = list_all (λ (p : Terminal). is_free_phase p.phase)

-- as made
abbrev pub fresh : PortMode → Terms → Terminal
fresh mode terms = record {
  terms = terms;
  port = begun mode;
  phase = Free;
  untold = Some Gone;
  silence = 0;
  quiet = 0;
  was_silent = false;
  overtaken = 0;
  logged = 0;
}

-- whether there is room for any text of so many octets
abbrev pub has_room : (text : ℕ) → PortState → Bool
has_room text port = nat_le (length port.output.octets + (2 * text + 1)) port.output.capacity

-- text is shown, if there is room for any of its length
abbrev pub with_shown_at : (text : List ℕ) → PortState → PortState
with_shown_at text port = if has_room (length text) port then record port { output = with_shown port.mode port.output text } else port

-- a new client has it, and is shown the greeting
abbrev pub attached : Terminal → Terminal
attached p = record p {
  port = with_shown_at p.terms.greeting.items (begun p.port.mode);
  phase = Open;
  untold = Some Here;
  silence = 0;
  quiet = 0;
  was_silent = false;
  overtaken = 0;
  logged = 0;
}

-- its client, if it has one, is gone: what it typed and what it was to see is dropped, and its PAD is to be told
abbrev pub left : Terminal → Terminal
left p = if has_client p.phase then record p { port = begun p.port.mode; phase = Closing; untold = Some Gone } else p

abbrev pub freed : Terminal → Terminal
freed p = record (left p) { phase = Free }

-- a client that is to go is gone if nothing waits to be written
abbrev pub left_if_written : Terminal → Terminal
left_if_written p = if is_ending p.phase && length p.port.output.octets == 0 then left p else p

-- its client is to go once what waits is written, after 200 ticks at most
abbrev pub ended : Terminal → Terminal
ended p = left_if_written (if is_open p.phase then record p { phase = Ending 200 } else p)

-- octets of its client
abbrev pub heard : List ℕ → Terminal → Terminal
heard octets p = if is_open p.phase then record p { port = after_octets p.port octets; silence = 0; quiet = 0 } else p

-- octets were written to its client
abbrev pub written : (count : ℕ) → Terminal → Terminal
written count p = left_if_written (record p {
  port = record p.port { output = record p.port.output { octets = drop count p.port.output.octets } };
  quiet = 0;
})

-- after 1,200 quiet ticks a client of telnet is sent a command that asks for nothing, if there is room for it
abbrev pub kept_alive : Terminal → Terminal
kept_alive p =
    if nat_le 1200 p.quiet && (is_telnet p.port.mode && nat_le (length p.port.output.octets + 4) p.port.output.capacity)
    then record p { port = record p.port { output = with_command p.port.output NoOperation }; quiet = 0 }
    else p

-- the port of a client that was silent too long: one of telnet is told so, if there is room
abbrev pub told_silent : PortState → PortState
told_silent port = if is_telnet port.mode then with_shown_at SILENT port else port

-- a client that was silent too long is to go
abbrev pub dismissed : Terminal → Terminal
dismissed p = ended (record p { port = told_silent p.port; was_silent = true })

-- so it is after so many ticks, if its table says how many are too long
abbrev pub is_too_silent : Terminal → Bool
is_too_silent p = nat_lt 0 p.terms.idle && nat_le p.terms.idle p.silence

abbrev pub aged : (ticks : ℕ) → Terminal → Terminal
aged ticks p = record p { silence = min (p.silence + ticks) 65535; quiet = min (p.quiet + ticks) 65535 }

abbrev pub waited : (ticks : ℕ) → Terminal → Terminal
waited ticks p = if is_too_silent (aged ticks p) then dismissed (aged ticks p) else kept_alive (aged ticks p)

-- ticks pass, and a client that is to go does so in the end
abbrev pub elapsed_in : Phase → (ticks : ℕ) → Terminal → Terminal
elapsed_in Open ticks p = waited ticks p
elapsed_in (Ending left_ticks) ticks p =
    if nat_lt ticks left_ticks then record p { phase = Ending (left_ticks - ticks) } else left p
elapsed_in _ ticks p = p

abbrev pub elapsed : (ticks : ℕ) → Terminal → Terminal
elapsed ticks p = elapsed_in p.phase ticks p

abbrev pub is_closing : Phase → Bool
is_closing Closing = true
is_closing _ = false

-- an order was given: to log that its client goes because it was silent, to close its connection, or to log how many keys
-- were dropped
abbrev pub ordered : Terminal → Terminal
ordered p =
    if p.was_silent then record p { was_silent = false }
    else if is_closing p.phase then record p { phase = Closed }
    else record p { logged = p.overtaken }

-- ---- keys

abbrev pub without_keys : (count : ℕ) → Terminal → Terminal
without_keys count p =
    record p { port = record p.port { keys = buffer (drop count p.port.keys.items) p.port.keys.capacity } }

abbrev pub without_key_at : (place : ℕ) → Terminal → Terminal
without_key_at place p =
    record p { port = record p.port { keys = buffer (remove p.port.keys.items place) p.port.keys.capacity } }

-- the place of the key that is to be typed next: the first recall (16) or break that waits, else the first key
abbrev pub urgent_place : List Key → ℕ
urgent_place keys = unwrap_or (position (is_break_or 16) keys) 0

-- the place of the first XON that waits, if the PAD has one
abbrev pub xon_place : Terminal → Option ℕ
xon_place p = if p.terms.has_xon then position (is_octet 17) p.port.keys.items else None

-- a count that stays at the most that there is place for
abbrev pub counted : (count more : ℕ) → ℕ
counted count more = max count (min (count + more) 18446744073709551615)

-- ---- one terminal of many

-- the terminal of a port changes so, if there is one
abbrev pub changed : (port : ℕ) → (Terminal → Terminal) → Option Terminal → List Terminal → List Terminal
changed port change None terminals = terminals
changed port change (Some p) terminals = set terminals port (change p)

abbrev pub changed_at : (port : ℕ) → (Terminal → Terminal) → List Terminal → List Terminal
changed_at port change terminals = changed port change (slice_get terminals port) terminals

-- each terminal changes so
pub record AllChange (change : Terminal → Terminal) (before after : List Terminal) : Type 0 where
  pub count : length after ≡ length before
  pub each : (port : ℕ) (p : Terminal) → slice_get before port ≡ Some p → slice_get after port ≡ Some (change p)

-- a client came to this port, which was free, and to no other one
pub record HasCome (before after : List Terminal) (port : ℕ) : Type 0 where
  pub was : Terminal
  pub there : slice_get before port ≡ Some was
  pub free : is_free was ≡ true
  pub came : after ≡ set before port (attached was)

-- ---- what the shell asks

-- whether an octet of the client of a port is taken; none is refused where there is no client
abbrev pub may_take : Option Terminal → Bool
may_take None = true
may_take (Some p) = not (is_open p.phase) || takes_octet p.port

-- what waits at a port
abbrev pub status_of : Terminal → PortStatus
status_of p = record {
  in_use = not (is_free p);
  keys = length p.port.keys.items;
  octets = length p.port.output.octets;
  overtaken = p.overtaken;
}

-- whether nobody is there and all bridges are free, in a network with lines to other processes, which does not know when it
-- rests
abbrev pub has_parted : List Terminal → (are_free : Bool) → ProcessState → Bool
has_parted terminals are_free s = are_deserted terminals && are_free && nat_lt 0 (length s.lines)

-- how many ticks more a service that stops may take after these: 20 at most once it has parted
abbrev pub stopping_after : (ticks : ℕ) → (has_parted : Bool) → Option ℕ → Option ℕ
stopping_after ticks has_parted None = None
stopping_after ticks has_parted (Some most) = Some ((if has_parted then min most 20 else most) - ticks)

-- whether a service has stopped that may take so many ticks more: there are none left, or nobody is there, all bridges are
-- free, and the network rests
abbrev pub has_stopped : Option ℕ → List Terminal → (are_free : Bool) → ProcessState → Bool
has_stopped None terminals are_free s = false
has_stopped (Some zero) terminals are_free s = true
has_stopped (Some (suc ticks)) terminals are_free s = are_deserted terminals && are_free && process_rests s
