-- What the words of a line say, read one after the other: the command that it spells, if it does.
use Rattle.std.specs.Prelude.{ℕ, Bool, true, false, nat_le, if◌then◌else◌, List, [], ◌∷◌, ◌++◌, length, map, codes}
use Rattle.std.specs.Prelude.{bytes_eq}
use Rattle.std.specs.Prelude.{Option, Some, None, option_map}
use Rattle.link_timers.specs.declared.timers.TimerId.{TimerId}
use Rattle.link_timers.specs.declared.timers.TimerId.TheVariants as timer
use Rattle.frame_lines.specs.declared.line.Direction.{Direction}
use Rattle.frame_lines.specs.declared.line.Direction.TheVariants.{FromDte, FromDce}
use Rattle.user_nodes.specs.declared.terminal.TerminalEvent.{TerminalEvent}
use Rattle.user_nodes.specs.declared.terminal.TerminalEvent.TheVariants as terminal_is
use Rattle.net_files.specs.declared.keywords.CommandWord.{CommandWord}
use Rattle.net_files.specs.declared.keywords.CommandWord.TheVariants as command_is
use Rattle.net_files.specs.declared.keywords.EventWord.{EventWord}
use Rattle.net_files.specs.declared.keywords.EventWord.TheVariants as event_is
use Rattle.net_files.specs.declared.keywords.RequestWord.{RequestWord}
use Rattle.net_files.specs.declared.keywords.RequestWord.TheVariants as request_is
use Rattle.net_files.specs.Texts.{octets_of}
use Rattle.net_files.specs.Words.{◌>>=◌, Left, next_word, named, number_at, node_at, address_at, timer_number_at}
use Rattle.net_files.specs.Words.{text_of, ended, last}
use Rattle.net_files.specs.Values.{RequestValue, EventValue, CommandValue}
use Rattle.net_files.specs.Values.{RequestValue as asks}
use Rattle.net_files.specs.Values.{EventValue as event}
use Rattle.net_files.specs.Values.{CommandValue as command}

-- ---- words that stand for themselves

abbrev pub request_word : List ℕ → Option RequestWord
request_word word =
    if bytes_eq word (codes "say") then Some request_is.Say
    else if bytes_eq word (codes "int") then Some request_is.Interrupt
    else if bytes_eq word (codes "answer") then Some request_is.Answer
    else if bytes_eq word (codes "refuse") then Some request_is.Refuse
    else if bytes_eq word (codes "reset") then Some request_is.Reset
    else if bytes_eq word (codes "clear") then Some request_is.Clear
    else if bytes_eq word (codes "stop") then Some request_is.Stop
    else if bytes_eq word (codes "go") then Some request_is.Go
    else None

abbrev pub event_word : List ℕ → Option EventWord
event_word word =
    if bytes_eq word (codes "break") then Some event_is.Break
    else if bytes_eq word (codes "idle") then Some event_is.Idle
    else if bytes_eq word (codes "print") then Some event_is.Print
    else if bytes_eq word (codes "call") then Some event_is.Call
    else if bytes_eq word (codes "take") then Some event_is.Take
    else if bytes_eq word (codes "deliver") then Some event_is.Deliver
    else if bytes_eq word (codes "lose") then Some event_is.Lose
    else if bytes_eq word (codes "expire") then Some event_is.Expire
    else if bytes_eq word (codes "relink") then Some event_is.Relink
    else if bytes_eq word (codes "restart") then Some event_is.Restart
    else option_map event_is.Ask (request_word word)

abbrev pub command_word : List ℕ → Option CommandWord
command_word word =
    if bytes_eq word (codes "key") then Some command_is.Key
    else if bytes_eq word (codes "flow") then Some command_is.Flow
    else if bytes_eq word (codes "tick") then Some command_is.Tick
    else if bytes_eq word (codes "trace") then Some command_is.Trace
    else if bytes_eq word (codes "check") then Some command_is.Check
    else option_map command_is.Event (event_word word)

-- `on` or `off`
abbrev pub switch_of : List ℕ → Option Bool
switch_of word =
    if bytes_eq word (codes "on") then Some true
    else if bytes_eq word (codes "off") then Some false
    else None

abbrev pub direction_of : List ℕ → Option Direction
direction_of word =
    if bytes_eq word (codes ">") then Some FromDte
    else if bytes_eq word (codes "<") then Some FromDce
    else None

-- whether the data is qualified, and with confirmation of delivery
abbrev pub flags_of : List ℕ → Option (Bool × Bool)
flags_of word =
    if bytes_eq word (codes "-") then Some (false, false)
    else if bytes_eq word (codes "q") then Some (true, false)
    else if bytes_eq word (codes "d") then Some (false, true)
    else if bytes_eq word (codes "qd") then Some (true, true)
    else None

-- a timer without a number, and one with the number of its channel or terminal
abbrev pub lone_timer : List ℕ → Option TimerId
lone_timer word =
    if bytes_eq word (codes "T1") then Some timer.T1
    else if bytes_eq word (codes "T10") then Some timer.T10
    else if bytes_eq word (codes "T20") then Some timer.T20
    else None

abbrev pub numbered_timer : List ℕ → (n : ℕ) → Option TimerId
numbered_timer word n =
    if bytes_eq word (codes "T11") then Some (timer.T11 n)
    else if bytes_eq word (codes "T12") then Some (timer.T12 n)
    else if bytes_eq word (codes "T13") then Some (timer.T13 n)
    else if bytes_eq word (codes "T21") then Some (timer.T21 n)
    else if bytes_eq word (codes "T22") then Some (timer.T22 n)
    else if bytes_eq word (codes "T23") then Some (timer.T23 n)
    else if bytes_eq word (codes "Idle") then Some (timer.Idle n)
    else None

-- ---- lines, behind their first word

-- `key NODE TERM TEXT`: a key for each octet of the text
abbrev pub keys_of : (names : List (List ℕ)) → Left → Option CommandValue
keys_of names left =
    node_at names left >>= (λ node. number_at node.1 >>= (λ terminal. option_map
    (λ octets. command.Events (map (λ octet. event.AtTerminal node.0 terminal.0 (terminal_is.Key octet)) octets))
    (octets_of (text_of terminal.1))))

-- `NODE TERM`, and what happens there
abbrev pub at_terminal_of : (names : List (List ℕ)) → TerminalEvent → Left → Option EventValue
at_terminal_of names what left =
    node_at names left >>= (λ node. option_map (λ n. event.AtTerminal node.0 n what) (last (number_at node.1)))

-- `call NODE ADDRESS TEXT`: the text is the user data, of at most 16 octets
abbrev pub call_with : (node : ℕ) → (address : List ℕ) → Option (List ℕ) → Option EventValue
call_with node address None = None
call_with node address (Some octets) =
    if nat_le (length octets) 16 then Some (event.Call node address octets) else None

abbrev pub call_of : (names : List (List ℕ)) → Left → Option EventValue
call_of names left =
    node_at names left >>= (λ node. address_at node.1
    >>= (λ address. call_with node.0 address.0 (octets_of (text_of address.1))))

-- `take NODE CH`
abbrev pub take_of : (names : List (List ℕ)) → Left → Option EventValue
take_of names left =
    node_at names left >>= (λ node. option_map (λ n. event.Take node.0 n) (last (number_at node.1)))

-- `LINE >` or `LINE <`
abbrev pub directed_of : Left → Option (ℕ × Direction)
directed_of left =
    number_at left >>= (λ line. option_map (λ direction. (line.0, direction))
    (last (named direction_of (next_word line.1))))

-- a timer, with its number where it has one
abbrev pub timer_with : Option TimerId → List ℕ × Left → Option TimerId
timer_with (Some id) word = ended word.1 id
timer_with None word = last (timer_number_at word.1) >>= numbered_timer word.0

abbrev pub timer_of : Left → Option TimerId
timer_of left = next_word left >>= (λ word. timer_with (lone_timer word.0) word)

-- `expire NODE LINE` and the timer
abbrev pub expiry_of : (names : List (List ℕ)) → Left → Option EventValue
expiry_of names left =
    node_at names left >>= (λ node. number_at node.1
    >>= (λ line. option_map (λ id. event.Expire node.0 line.0 id) (timer_of line.1)))

-- `FLAGS TEXT`
abbrev pub say_of : Left → Option RequestValue
say_of left =
    named flags_of (next_word left)
    >>= (λ flags. option_map (λ octets. asks.Say octets flags.0.0 flags.0.1) (octets_of (text_of flags.1)))

-- what a word asks, with what it takes to be said
abbrev pub request_of : RequestWord → Left → Option RequestValue
request_of request_is.Say left = say_of left
request_of request_is.Interrupt left = option_map asks.Interrupt (octets_of (text_of left))
request_of request_is.Answer left = ended left asks.Answer
request_of request_is.Refuse left = ended left asks.Refuse
request_of request_is.Reset left = ended left asks.Reset
request_of request_is.Clear left = ended left asks.Clear
request_of request_is.Stop left = ended left asks.Stop
request_of request_is.Go left = ended left asks.Go

-- `NODE CH`, and what is asked of the call there
abbrev pub ask_of : (names : List (List ℕ)) → RequestWord → Left → Option EventValue
ask_of names word left =
    node_at names left >>= (λ node. number_at node.1
    >>= (λ channel. option_map (event.Ask node.0 channel.0) (request_of word channel.1)))

abbrev pub event_of : (names : List (List ℕ)) → EventWord → Left → Option EventValue
event_of names event_is.Break left = at_terminal_of names terminal_is.Break left
event_of names event_is.Idle left = at_terminal_of names terminal_is.Idle left
event_of names event_is.Print left = at_terminal_of names terminal_is.Print left
event_of names event_is.Call left = call_of names left
event_of names event_is.Take left = take_of names left
event_of names event_is.Deliver left = option_map (λ d. event.Deliver d.0 d.1) (directed_of left)
event_of names event_is.Lose left = option_map (λ d. event.Lose d.0 d.1) (directed_of left)
event_of names event_is.Expire left = expiry_of names left
event_of names event_is.Relink left = option_map event.Relink (last (number_at left))
event_of names event_is.Restart left = option_map event.Restart (last (node_at names left))
event_of names (event_is.Ask word) left = ask_of names word left

abbrev pub command_from : (names : List (List ℕ)) → CommandWord → Left → Option CommandValue
command_from names command_is.Key left = keys_of names left
command_from names command_is.Flow left = ended left command.Flow
command_from names command_is.Tick left = option_map command.Tick (last (number_at left))
command_from names command_is.Trace left = option_map command.Trace (last (named switch_of (next_word left)))
command_from names command_is.Check left = ended left command.Check
command_from names (command_is.Event word) left = option_map (λ e. command.Events (e ∷ [])) (event_of names word left)

-- the whole line
abbrev pub command_of : (names : List (List ℕ)) → (line : List ℕ) → Option CommandValue
command_of names line =
    named command_word (next_word (Some line)) >>= (λ word. command_from names word.0 word.1)

-- the commands of a line: none of an empty one
abbrev pub commands_of : (names : List (List ℕ)) → (line : List ℕ) → Option (List CommandValue)
commands_of names [] = Some []
commands_of names (octet ∷ line) = option_map (λ c. c ∷ []) (command_of names (octet ∷ line))

-- behind others
abbrev pub added : List CommandValue → Option (List CommandValue) → Option (List CommandValue)
added commands more = option_map (λ others. commands ++ others) more

abbrev pub added_one : List CommandValue → Option CommandValue → Option (List CommandValue)
added_one commands one = option_map (λ c. commands ++ c ∷ []) one
