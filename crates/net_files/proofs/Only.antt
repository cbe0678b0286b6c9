-- What the grammar of a script has is read.
use Rattle.std.proofs.Common.{◌≡◌, ℕ, ◌≤◌, Bool, true, false, cond, ◌==◌, min, nat_lt, List, [], ◌∷◌, length, map, codes, Option, Some, None, option_map, Ok, Err, refl, ap, ◌∙◌}
use Rattle.std.specs.Result.{result_ok}
use Rattle.std.specs.List.{list_all}
use Rattle.std.specs.Char.{is_ascii_digit}
use borrow.Author.Tests.{le-leb}
use Rattle.link_timers.specs.declared.timers.TimerId.{TimerId}
use Rattle.packet_codec.specs.Address.{address_of, digit_values}
use Rattle.packet_codec.specs.declared.address.AddressFault.TheVariants.{Empty, TooLong, NotADigit}
use Rattle.frame_lines.specs.declared.line.Direction.{Direction}
use Rattle.user_nodes.specs.declared.terminal.TerminalEvent.{TerminalEvent}
use Rattle.user_nodes.specs.declared.terminal.TerminalEvent.TheVariants.{Key}
use Rattle.net_files.specs.declared.keywords.CommandWord.{CommandWord}
use Rattle.net_files.specs.declared.keywords.CommandWord.TheVariants as command_is
use Rattle.net_files.specs.declared.keywords.EventWord.{EventWord}
use Rattle.net_files.specs.declared.keywords.EventWord.TheVariants as event_is
use Rattle.net_files.specs.declared.keywords.RequestWord.{RequestWord}
use Rattle.net_files.specs.declared.keywords.RequestWord.TheVariants as request_is
use Rattle.net_files.specs.Texts.{octets_of, octets_from}
use Rattle.net_files.specs.Words.{◌␣◌, ◌>>=◌, has_no_space, IsNumber, IsNode, number_of, Left, next_word, named, number_at, node_at, timer_number_at, text_of, last}
use Rattle.net_files.specs.Values.{RequestValue, EventValue, CommandValue}
use Rattle.net_files.specs.CommandForm.{WithText, TimerForm, DirectionForm, SayForm, RequestForm, TerminalForm, EventForm, CommandForm}
use Rattle.net_files.specs.CommandForm.{WithText as with_text}
use Rattle.net_files.specs.CommandForm.{TimerForm as timer_form}
use Rattle.net_files.specs.CommandForm.{DirectionForm as direction_form}
use Rattle.net_files.specs.CommandForm.{SayForm as say_form}
use Rattle.net_files.specs.CommandForm.{RequestForm as request_form}
use Rattle.net_files.specs.CommandForm.{TerminalForm as terminal_form}
use Rattle.net_files.specs.CommandForm.{EventForm as event_form}
use Rattle.net_files.specs.CommandForm.{CommandForm as command_form}
use Rattle.net_files.specs.Reading.{direction_of, flags_of, lone_timer, numbered_timer, timer_with, timer_of, directed_of, say_of, request_of, ask_of, at_terminal_of, call_of, call_with, expiry_of, event_of, command_word, command_from, command_of}
use Rattle.net_files.proofs.Spelling.{text_only}
use Rattle.net_files.proofs.LineWords.{word_last, word_then, number_last, number_then, number_only, number_spaceless, node_last, node_then, named_is, digits_word}

-- ---- a word and the text behind it

-- what is read of a word with a text behind it, and of the text
pub record ReadsText {A : Type 0} (read : List ℕ → Option A) (tail : List ℕ) (x : A) (octets : List ℕ) : Type 0 where
  pub left : Left
  pub word : named read (next_word (Some tail)) ≡ Some (x, left)
  pub text : octets_of (text_of left) ≡ Some octets

text_only_behind : {A : Type 0} (read : List ℕ → Option A) {word tail octets : List ℕ} (x : A) → has_no_space word ≡ true → read word ≡ Some x
    → WithText word tail octets → ReadsText read tail x octets
unfolding octets_from
text_only_behind read {word = word} x spaceless is with_text.alone =
    record { left = None; word = named_is read (next_word (Some word)) word None x (word_last word spaceless) is; text = refl }
text_only_behind read {word = word} x spaceless is (with_text.followed {text = text} form) = record {
  left = Some text;
  word = named_is read (next_word (Some (word ␣ text))) word (Some text) x (word_then word text spaceless) is;
  text = text_only form;
}

-- ---- timers

numbered : (mark word : List ℕ) (n : ℕ) (id : TimerId) → has_no_space mark ≡ true → lone_timer mark ≡ None → IsNumber word n
    → numbered_timer mark (min n 255) ≡ Some id → timer_of (Some (mark ␣ word)) ≡ Some id
numbered mark word n id spaceless other is made =
    let number : timer_number_at (Some word) ≡ Some (min n 255, None) =
    named_is (λ w. option_map (λ m. min m 255) (number_of w)) (next_word (Some word)) word None (min n 255)
    (word_last word (number_spaceless is)) (ap (option_map (λ m. min m 255)) (number_only is)) in
    ap (λ (o : Option (List ℕ × Left)). o >>= (λ w. timer_with (lone_timer w.0) w)) (word_then mark word spaceless)
    ∙ ap (λ (o : Option TimerId). timer_with o (mark, Some word)) other
    ∙ ap (λ (o : Option (ℕ × Left)). last o >>= numbered_timer mark) number
    ∙ made

timer_only : {text : List ℕ} {id : TimerId} → TimerForm text id → timer_of (Some text) ≡ Some id
timer_only timer_form.t1 = refl
timer_only timer_form.t10 = refl
timer_only timer_form.t20 = refl
timer_only (timer_form.t11 {word = word} {n = n} is) = numbered (codes "T11") word n _ refl refl is refl
timer_only (timer_form.t12 {word = word} {n = n} is) = numbered (codes "T12") word n _ refl refl is refl
timer_only (timer_form.t13 {word = word} {n = n} is) = numbered (codes "T13") word n _ refl refl is refl
timer_only (timer_form.t21 {word = word} {n = n} is) = numbered (codes "T21") word n _ refl refl is refl
timer_only (timer_form.t22 {word = word} {n = n} is) = numbered (codes "T22") word n _ refl refl is refl
timer_only (timer_form.t23 {word = word} {n = n} is) = numbered (codes "T23") word n _ refl refl is refl
timer_only (timer_form.idle {word = word} {n = n} is) = numbered (codes "Idle") word n _ refl refl is refl

-- ---- directions, flags, requests

direction_only : {mark : List ℕ} {direction : Direction} → DirectionForm mark direction → last (named direction_of (next_word (Some mark))) ≡ Some direction
direction_only direction_form.from_dte = refl
direction_only direction_form.from_dce = refl

directed_only : {number mark : List ℕ} {line : ℕ} {direction : Direction} → IsNumber number line → DirectionForm mark direction
    → directed_of (Some (number ␣ mark)) ≡ Some (line, direction)
directed_only {number = number} {mark = mark} {line = line} is form =
    ap (λ (o : Option (ℕ × Left)). o >>= (λ l. option_map (λ (d : Direction). (l.0, d)) (last (named direction_of (next_word l.1))))) (number_then is mark)
    ∙ ap (option_map (λ (d : Direction). (line, d))) (direction_only form)

said : (flags : List ℕ) (qualified delivery : Bool) {tail octets : List ℕ} → has_no_space flags ≡ true → flags_of flags ≡ Some (qualified, delivery)
    → WithText flags tail octets → say_of (Some tail) ≡ Some (RequestValue.Say octets qualified delivery)
said flags qualified delivery spaceless is form =
    let reads = text_only_behind flags_of (qualified, delivery) spaceless is form in
    ap (λ (o : Option ((Bool × Bool) × Left)). o >>= (λ f. option_map (λ os. RequestValue.Say os f.0.0 f.0.1) (octets_of (text_of f.1)))) reads.word
    ∙ ap (option_map (λ os. RequestValue.Say os qualified delivery)) reads.text

say_only : {tail : List ℕ} {request : RequestValue} → SayForm tail request → say_of (Some tail) ≡ Some request
say_only (say_form.plain form) = said (codes "-") _ _ refl refl form
say_only (say_form.qualified form) = said (codes "q") _ _ refl refl form
say_only (say_form.delivered form) = said (codes "d") _ _ refl refl form
say_only (say_form.both form) = said (codes "qd") _ _ refl refl form

-- ---- lines of one event, behind their first word

-- a node, and what follows it
pub with_node : {A : Type 0} (names : List (List ℕ)) (name rest : List ℕ) (node : ℕ) (read : ℕ × Left → Option A) → IsNode names name node
    → (node_at names (Some (name ␣ rest)) >>= read) ≡ read (node, Some rest)
with_node names name rest node read is = ap (λ (o : Option (ℕ × Left)). o >>= read) (node_then is rest)

-- a number that ends the line, and one with more behind it
with_last : {A : Type 0} (number : List ℕ) (n : ℕ) (made : ℕ → A) → IsNumber number n
    → option_map made (last (number_at (Some number))) ≡ Some (made n)
with_last number n made is = ap (λ (o : Option (ℕ × Left)). option_map made (last o)) (number_last is)

with_number : {A : Type 0} (number rest : List ℕ) (n : ℕ) (read : ℕ × Left → Option A) → IsNumber number n
    → (number_at (Some (number ␣ rest)) >>= read) ≡ read (n, Some rest)
with_number number rest n read is = ap (λ (o : Option (ℕ × Left)). o >>= read) (number_then is rest)

at_terminal_only : (names : List (List ℕ)) (name number : List ℕ) (node n : ℕ) (what : TerminalEvent) → IsNode names name node → IsNumber number n
    → at_terminal_of names what (Some (name ␣ number)) ≡ Some (EventValue.AtTerminal node n what)
at_terminal_only names name number node n what is_node is =
    with_node names name number node _ is_node ∙ with_last number n (λ m. EventValue.AtTerminal node m what) is

call_only : (names : List (List ℕ)) (name address tail digits octets : List ℕ) (node : ℕ) → IsNode names name node → address_of address ≡ Ok digits
    → list_all is_ascii_digit address ≡ true → WithText address tail octets → length octets ≤ 16
    → call_of names (Some (name ␣ tail)) ≡ Some (EventValue.Call node digits octets)
call_only names name address tail digits octets node is_node is digits_all form few =
    let reads = text_only_behind (λ word. result_ok (address_of word)) digits (digits_word address digits digits_all) (ap result_ok is) form in
    with_node names name tail node _ is_node
    ∙ ap (λ (o : Option (List ℕ × Left)). o >>= (λ a. call_with node a.0 (octets_of (text_of a.1)))) reads.word
    ∙ ap (call_with node digits) reads.text
    ∙ rw (le-leb (length octets) 16 few) refl

ask_only : (names : List (List ℕ)) (name tail : List ℕ) (node n : ℕ) → IsNode names name node → (word : RequestWord)
    → (request : RequestValue) (left : Left) → number_at (Some tail) ≡ Some (n, left) → request_of word left ≡ Some request
    → ask_of names word (Some (name ␣ tail)) ≡ Some (EventValue.Ask node n request)
ask_only names name tail node n is_node word request left is asked =
    with_node names name tail node _ is_node
    ∙ ap (λ (o : Option (ℕ × Left)). o >>= (λ c. option_map (EventValue.Ask node c.0) (request_of word c.1))) is
    ∙ ap (option_map (EventValue.Ask node n)) asked

expiry_only : (names : List (List ℕ)) (name number timer : List ℕ) (node line : ℕ) (id : TimerId) → IsNode names name node → IsNumber number line
    → TimerForm timer id → expiry_of names (Some (name ␣ number ␣ timer)) ≡ Some (EventValue.Expire node line id)
expiry_only names name number timer node line id is_node is form =
    with_node names name (number ␣ timer) node _ is_node
    ∙ with_number number timer line _ is
    ∙ ap (option_map (λ i. EventValue.Expire node line i)) (timer_only form)

-- ---- whole lines

-- a line whose first word is this one
begun : (names : List (List ℕ)) (word rest : List ℕ) (w : CommandWord) (value : CommandValue)
    → has_no_space word ≡ true → command_word word ≡ Some w → command_from names w (Some rest) ≡ Some value
    → command_of names (word ␣ rest) ≡ Some value
begun names word rest w value spaceless is said =
    ap (λ (o : Option (CommandWord × Left)). o >>= (λ c. command_from names c.0 c.1))
    (named_is command_word (next_word (Some (word ␣ rest))) word (Some rest) w (word_then word rest spaceless) is)
    ∙ said

-- a line of one event
one : (names : List (List ℕ)) (word rest : List ℕ) (w : EventWord) (e : EventValue) → has_no_space word ≡ true
    → command_word word ≡ Some (command_is.Event w) → event_of names w (Some rest) ≡ Some e
    → command_of names (word ␣ rest) ≡ Some (CommandValue.Events (e ∷ []))
one names word rest w e spaceless is said =
    begun names word rest (command_is.Event w) (CommandValue.Events (e ∷ [])) spaceless is
    (ap (option_map (λ x. CommandValue.Events (x ∷ []))) said)

terminal_line : (names : List (List ℕ)) {word : List ℕ} (name number : List ℕ) (node n : ℕ) {what : TerminalEvent} → TerminalForm word what
    → IsNode names name node → IsNumber number n
    → command_of names (word ␣ name ␣ number) ≡ Some (CommandValue.Events (EventValue.AtTerminal node n what ∷ []))
terminal_line names name number node n terminal_form.break is_node is =
    one names (codes "break") (name ␣ number) event_is.Break _ refl refl (at_terminal_only names name number node n _ is_node is)
terminal_line names name number node n terminal_form.idle is_node is =
    one names (codes "idle") (name ␣ number) event_is.Idle _ refl refl (at_terminal_only names name number node n _ is_node is)
terminal_line names name number node n terminal_form.print is_node is =
    one names (codes "print") (name ␣ number) event_is.Print _ refl refl (at_terminal_only names name number node n _ is_node is)

-- a request that nothing follows
alone : (names : List (List ℕ)) (word name number : List ℕ) (node n : ℕ) (w : RequestWord) (request : RequestValue) → IsNode names name node
    → IsNumber number n → has_no_space word ≡ true → command_word word ≡ Some (command_is.Event (event_is.Ask w))
    → request_of w None ≡ Some request
    → command_of names (word ␣ name ␣ number) ≡ Some (CommandValue.Events (EventValue.Ask node n request ∷ []))
alone names word name number node n w request is_node is spaceless begins asked =
    one names word (name ␣ number) (event_is.Ask w) (EventValue.Ask node n request) spaceless begins
    (ask_only names name number node n is_node w request None (number_last is) asked)

request_line : (names : List (List ℕ)) {word : List ℕ} (name : List ℕ) {tail : List ℕ} (node : ℕ) {n : ℕ} {request : RequestValue} → IsNode names name node
    → RequestForm word tail n request
    → command_of names (word ␣ name ␣ tail) ≡ Some (CommandValue.Events (EventValue.Ask node n request ∷ []))
request_line names name node is_node (request_form.answer {number = number} {n = n} is) =
    alone names (codes "answer") name number node n request_is.Answer _ is_node is refl refl refl
request_line names name node is_node (request_form.refuse {number = number} {n = n} is) =
    alone names (codes "refuse") name number node n request_is.Refuse _ is_node is refl refl refl
request_line names name node is_node (request_form.reset {number = number} {n = n} is) =
    alone names (codes "reset") name number node n request_is.Reset _ is_node is refl refl refl
request_line names name node is_node (request_form.clear {number = number} {n = n} is) =
    alone names (codes "clear") name number node n request_is.Clear _ is_node is refl refl refl
request_line names name node is_node (request_form.stop {number = number} {n = n} is) =
    alone names (codes "stop") name number node n request_is.Stop _ is_node is refl refl refl
request_line names name node is_node (request_form.go {number = number} {n = n} is) =
    alone names (codes "go") name number node n request_is.Go _ is_node is refl refl refl
request_line names name node is_node (request_form.say {number = number} {tail = tail} {n = n} {request = request} is form) =
    one names (codes "say") (name ␣ number ␣ tail) (event_is.Ask request_is.Say) (EventValue.Ask node n request) refl refl
    (ask_only names name (number ␣ tail) node n is_node request_is.Say request (Some tail) (number_then is tail) (say_only form))
request_line names name node is_node (request_form.interrupt {number = number} {tail = tail} {octets = octets} {n = n} is form) =
    let reads = text_only_behind number_of n (number_spaceless is) (number_only is) form in
    one names (codes "int") (name ␣ tail) (event_is.Ask request_is.Interrupt) (EventValue.Ask node n (RequestValue.Interrupt octets)) refl refl
    (ask_only names name tail node n is_node request_is.Interrupt (RequestValue.Interrupt octets) reads.left reads.word
    (ap (option_map RequestValue.Interrupt) reads.text))

address_digits : (address digits : List ℕ) → address_of address ≡ Ok digits → list_all is_ascii_digit address ≡ true
address_digits address digits h =
    go (length address == 0) (nat_lt 15 (length address)) (list_all is_ascii_digit address) h
  where
    go : (a b c : Bool) → cond a (Err Empty) (cond b (Err TooLong) (cond c (Ok (digit_values address)) (Err NotADigit))) ≡ Ok digits → c ≡ true
    go true b c g = cc
    go false true c g = cc
    go false false true g = refl
    go false false false g = cc

event_line : {names : List (List ℕ)} {line : List ℕ} {e : EventValue} → EventForm names line e
    → command_of names line ≡ Some (CommandValue.Events (e ∷ []))
event_line {names = names} (event_form.at_terminal {name = name} {number = number} {node = node} {n = n} form is_node is) =
    terminal_line names name number node n form is_node is
event_line {names = names} (event_form.call {name = name} {address = address} {tail = tail} {digits = digits} {octets = octets} {node = node} is_node is form few) =
    one names (codes "call") (name ␣ tail) event_is.Call _ refl refl
    (call_only names name address tail digits octets node is_node is (address_digits address digits is) form few)
event_line {names = names} (event_form.ask {name = name} {node = node} is_node form) = request_line names name node is_node form
event_line {names = names} (event_form.take {name = name} {number = number} {node = node} {n = n} is_node is) =
    one names (codes "take") (name ␣ number) event_is.Take _ refl refl
    (with_node names name number node _ is_node ∙ with_last number n (λ m. EventValue.Take node m) is)
event_line {names = names} (event_form.deliver {number = number} {mark = mark} is form) =
    one names (codes "deliver") (number ␣ mark) event_is.Deliver _ refl refl
    (ap (option_map (λ d. EventValue.Deliver d.0 d.1)) (directed_only is form))
event_line {names = names} (event_form.lose {number = number} {mark = mark} is form) =
    one names (codes "lose") (number ␣ mark) event_is.Lose _ refl refl
    (ap (option_map (λ d. EventValue.Lose d.0 d.1)) (directed_only is form))
event_line {names = names} (event_form.expire {name = name} {number = number} {timer = timer} {node = node} {line = line} {id = id} is_node is form) =
    one names (codes "expire") (name ␣ number ␣ timer) event_is.Expire _ refl refl
    (expiry_only names name number timer node line id is_node is form)
event_line {names = names} (event_form.relink {number = number} {line = line} is) =
    one names (codes "relink") number event_is.Relink _ refl refl (with_last number line EventValue.Relink is)
event_line {names = names} (event_form.restart {name = name} {node = node} is_node) =
    one names (codes "restart") name event_is.Restart _ refl refl
    (ap (λ (o : Option (ℕ × Left)). option_map EventValue.Restart (last o)) (node_last is_node))

abbrev keys : (node n : ℕ) → List ℕ → CommandValue
keys node n octets = CommandValue.Events (map (λ octet. EventValue.AtTerminal node n (Key octet)) octets)

pub command_only : {names : List (List ℕ)} {line : List ℕ} {value : CommandValue} → CommandForm names line value → command_of names line ≡ Some value
command_only {names = names} (command_form.key {name = name} {tail = tail} {octets = octets} {node = node} {n = n} is_node is form) =
    let reads = text_only_behind number_of n (number_spaceless is) (number_only is) form in
    begun names (codes "key") (name ␣ tail) command_is.Key _ refl refl
    (with_node names name tail node _ is_node
    ∙ ap (λ (o : Option (ℕ × Left)). o >>= (λ t. option_map (keys node t.0) (octets_of (text_of t.1)))) reads.word
    ∙ ap (option_map (keys node n)) reads.text)
command_only (command_form.one_event form) = event_line form
command_only command_form.flow = refl
command_only {names = names} (command_form.tick {number = number} {n = n} is) =
    begun names (codes "tick") number command_is.Tick _ refl refl (with_last number n CommandValue.Tick is)
command_only command_form.trace_on = refl
command_only command_form.trace_off = refl
command_only command_form.check = refl
