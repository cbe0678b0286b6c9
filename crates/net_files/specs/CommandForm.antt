-- The grammar of a script, as a relation between a line and the command that it spells. `a ␣ b` is a and b with one
-- space between them.
use Rattle.std.specs.Prelude.{◌≡◌, ℕ, ◌≤◌, min, true, false, List, [], ◌∷◌, length, map, codes, Ok}
use Rattle.link_timers.specs.declared.timers.TimerId.{TimerId}
use Rattle.link_timers.specs.declared.timers.TimerId.TheVariants as timer
use Rattle.packet_codec.specs.Address.{address_of}
use Rattle.frame_lines.specs.declared.line.Direction.{Direction}
use Rattle.frame_lines.specs.declared.line.Direction.TheVariants.{FromDte, FromDce}
use Rattle.user_nodes.specs.declared.terminal.TerminalEvent.{TerminalEvent}
use Rattle.user_nodes.specs.declared.terminal.TerminalEvent.TheVariants as terminal_is
use Rattle.net_files.specs.Texts.{TextForm}
use Rattle.net_files.specs.Words.{◌␣◌, IsNumber, IsNode}
use Rattle.net_files.specs.Values.{RequestValue, EventValue, CommandValue}
use Rattle.net_files.specs.Values.{RequestValue as asks}
use Rattle.net_files.specs.Values.{EventValue as event}
use Rattle.net_files.specs.Values.{CommandValue as command}

-- the last word of a line, alone or with a space and a text behind it, and the octets that the text spells: none where
-- nothing follows
pub data WithText (word : List ℕ) : List ℕ → List ℕ → Type 0 where
  alone : WithText word word []
  followed : {text octets : List ℕ} → TextForm text octets → WithText word (word ␣ text) octets

-- how a timer is written: beyond 255 the number of its channel or terminal is 255
pub data TimerForm : List ℕ → TimerId → Type 0 where
  t1 : TimerForm (codes "T1") timer.T1
  t10 : TimerForm (codes "T10") timer.T10
  t20 : TimerForm (codes "T20") timer.T20
  t11 : {word : List ℕ} {n : ℕ} → IsNumber word n → TimerForm (codes "T11" ␣ word) (timer.T11 (min n 255))
  t12 : {word : List ℕ} {n : ℕ} → IsNumber word n → TimerForm (codes "T12" ␣ word) (timer.T12 (min n 255))
  t13 : {word : List ℕ} {n : ℕ} → IsNumber word n → TimerForm (codes "T13" ␣ word) (timer.T13 (min n 255))
  t21 : {word : List ℕ} {n : ℕ} → IsNumber word n → TimerForm (codes "T21" ␣ word) (timer.T21 (min n 255))
  t22 : {word : List ℕ} {n : ℕ} → IsNumber word n → TimerForm (codes "T22" ␣ word) (timer.T22 (min n 255))
  t23 : {word : List ℕ} {n : ℕ} → IsNumber word n → TimerForm (codes "T23" ␣ word) (timer.T23 (min n 255))
  idle : {word : List ℕ} {n : ℕ} → IsNumber word n → TimerForm (codes "Idle" ␣ word) (timer.Idle (min n 255))

-- `>` is from the DTE, `<` from the DCE
pub data DirectionForm : List ℕ → Direction → Type 0 where
  from_dte : DirectionForm (codes ">") FromDte
  from_dce : DirectionForm (codes "<") FromDce

-- `FLAGS TEXT`, where q in the flags is qualified and d with confirmation of delivery
pub data SayForm : List ℕ → RequestValue → Type 0 where
  plain : {tail octets : List ℕ} → WithText (codes "-") tail octets → SayForm tail (asks.Say octets false false)
  qualified : {tail octets : List ℕ} → WithText (codes "q") tail octets → SayForm tail (asks.Say octets true false)
  delivered : {tail octets : List ℕ} → WithText (codes "d") tail octets → SayForm tail (asks.Say octets false true)
  both : {tail octets : List ℕ} → WithText (codes "qd") tail octets → SayForm tail (asks.Say octets true true)

-- what is asked of a call: the command word, what follows the node in the line, and the channel
pub data RequestForm : (word tail : List ℕ) → (channel : ℕ) → RequestValue → Type 0 where
  answer : {number : List ℕ} {n : ℕ} → IsNumber number n → RequestForm (codes "answer") number n asks.Answer
  refuse : {number : List ℕ} {n : ℕ} → IsNumber number n → RequestForm (codes "refuse") number n asks.Refuse
  reset : {number : List ℕ} {n : ℕ} → IsNumber number n → RequestForm (codes "reset") number n asks.Reset
  clear : {number : List ℕ} {n : ℕ} → IsNumber number n → RequestForm (codes "clear") number n asks.Clear
  stop : {number : List ℕ} {n : ℕ} → IsNumber number n → RequestForm (codes "stop") number n asks.Stop
  go : {number : List ℕ} {n : ℕ} → IsNumber number n → RequestForm (codes "go") number n asks.Go
  say : {number tail : List ℕ} {n : ℕ} {request : RequestValue} → IsNumber number n → SayForm tail request
      → RequestForm (codes "say") (number ␣ tail) n request
  interrupt : {number tail octets : List ℕ} {n : ℕ} → IsNumber number n → WithText number tail octets
      → RequestForm (codes "int") tail n (asks.Interrupt octets)

-- what happens at a terminal, but for keys
pub data TerminalForm : List ℕ → TerminalEvent → Type 0 where
  break : TerminalForm (codes "break") terminal_is.Break
  idle : TerminalForm (codes "idle") terminal_is.Idle
  print : TerminalForm (codes "print") terminal_is.Print

-- a line of one event, over nodes of these names
pub data EventForm (names : List (List ℕ)) : List ℕ → EventValue → Type 0 where
  at_terminal : {word name number : List ℕ} {node n : ℕ} {what : TerminalEvent}
      → TerminalForm word what → IsNode names name node → IsNumber number n
      → EventForm names (word ␣ name ␣ number) (event.AtTerminal node n what)
  call : {name address tail digits octets : List ℕ} {node : ℕ}
      → IsNode names name node → address_of address ≡ Ok digits → WithText address tail octets → length octets ≤ 16
      → EventForm names (codes "call" ␣ name ␣ tail) (event.Call node digits octets)
  ask : {word name tail : List ℕ} {node channel : ℕ} {request : RequestValue}
      → IsNode names name node → RequestForm word tail channel request
      → EventForm names (word ␣ name ␣ tail) (event.Ask node channel request)
  take : {name number : List ℕ} {node n : ℕ} → IsNode names name node → IsNumber number n
      → EventForm names (codes "take" ␣ name ␣ number) (event.Take node n)
  deliver : {number mark : List ℕ} {line : ℕ} {direction : Direction}
      → IsNumber number line → DirectionForm mark direction
      → EventForm names (codes "deliver" ␣ number ␣ mark) (event.Deliver line direction)
  lose : {number mark : List ℕ} {line : ℕ} {direction : Direction}
      → IsNumber number line → DirectionForm mark direction
      → EventForm names (codes "lose" ␣ number ␣ mark) (event.Lose line direction)
  expire : {name number timer : List ℕ} {node line : ℕ} {id : TimerId}
      → IsNode names name node → IsNumber number line → TimerForm timer id
      → EventForm names (codes "expire" ␣ name ␣ number ␣ timer) (event.Expire node line id)
  relink : {number : List ℕ} {line : ℕ} → IsNumber number line
      → EventForm names (codes "relink" ␣ number) (event.Relink line)
  restart : {name : List ℕ} {node : ℕ} → IsNode names name node
      → EventForm names (codes "restart" ␣ name) (event.Restart node)

-- a line, over nodes of these names
pub data CommandForm (names : List (List ℕ)) : List ℕ → CommandValue → Type 0 where
  key : {name number tail octets : List ℕ} {node n : ℕ}
      → IsNode names name node → IsNumber number n → WithText number tail octets
      → CommandForm names (codes "key" ␣ name ␣ tail)
      (command.Events (map (λ octet. event.AtTerminal node n (terminal_is.Key octet)) octets))
  one_event : {line : List ℕ} {e : EventValue} → EventForm names line e
      → CommandForm names line (command.Events (e ∷ []))
  flow : CommandForm names (codes "flow") command.Flow
  tick : {number : List ℕ} {n : ℕ} → IsNumber number n → CommandForm names (codes "tick" ␣ number) (command.Tick n)
  trace_on : CommandForm names (codes "trace" ␣ codes "on") (command.Trace true)
  trace_off : CommandForm names (codes "trace" ␣ codes "off") (command.Trace false)
  check : CommandForm names (codes "check") command.Check
