-- What is read of a script is in its grammar.
use Rattle.std.proofs.Common.{◌≡◌, ℕ, ◌≤◌, Bool, true, false, cond, min, nat_le, List, [], ◌∷◌, length, map, codes, bytes_eq, Option, Some, None, option_map, Result, Ok, Err, refl, ap, sym, subst, ◌∙◌}
use Rattle.std.specs.Result.{result_ok}
use Rattle.std.proofs.lemmas.Option.{same_Some}
use borrow.Author.Tests.{leb-true}
use Rattle.link_timers.specs.declared.timers.TimerId.{TimerId}
use Rattle.packet_codec.specs.Address.{address_of}
use Rattle.packet_codec.specs.declared.address.AddressFault.{AddressFault}
use Rattle.frame_lines.specs.declared.line.Direction.{Direction}
use Rattle.user_nodes.specs.declared.terminal.TerminalEvent.{TerminalEvent}
use Rattle.user_nodes.specs.declared.terminal.TerminalEvent.TheVariants.{Key}
use Rattle.net_files.specs.declared.keywords.CommandWord.{CommandWord}
use Rattle.net_files.specs.declared.keywords.CommandWord.TheVariants as command_is
use Rattle.net_files.specs.declared.keywords.EventWord.{EventWord}
use Rattle.net_files.specs.declared.keywords.EventWord.TheVariants as event_is
use Rattle.net_files.specs.declared.keywords.RequestWord.{RequestWord}
use Rattle.net_files.specs.declared.keywords.RequestWord.TheVariants as request_is
use Rattle.net_files.specs.Texts.{octets_of, octets_from}
use Rattle.net_files.specs.Words.{◌␣◌, IsNumber, IsNode, number_of, Left, next_word, named, number_at, node_at, address_at, timer_number_at, text_of, ended, last}
use Rattle.net_files.specs.Values.{RequestValue, EventValue, CommandValue}
use Rattle.net_files.specs.CommandForm.{WithText, TimerForm, DirectionForm, SayForm, RequestForm, TerminalForm, EventForm, CommandForm}
use Rattle.net_files.specs.CommandForm.{WithText as with_text}
use Rattle.net_files.specs.CommandForm.{TimerForm as timer_form}
use Rattle.net_files.specs.CommandForm.{DirectionForm as direction_form}
use Rattle.net_files.specs.CommandForm.{SayForm as say_form}
use Rattle.net_files.specs.CommandForm.{RequestForm as request_form}
use Rattle.net_files.specs.CommandForm.{TerminalForm as terminal_form}
use Rattle.net_files.specs.CommandForm.{EventForm as event_form}
use Rattle.net_files.specs.CommandForm.{CommandForm as command_form}
use Rattle.net_files.specs.Reading.{switch_of, direction_of, flags_of, lone_timer, numbered_timer, timer_with, timer_of, directed_of, say_of, request_of, ask_of, at_terminal_of, call_of, call_with, take_of, expiry_of, event_of, request_word, event_word, command_word, command_from, command_of, keys_of}
use Rattle.net_files.proofs.Spelling.{text_found}
use Rattle.net_files.proofs.LineWords.{bind_some, map_some, last_some, named_some, joined, IsFront, front, number_read, node_read, text_is, number_found}

-- ---- words that stand for themselves

choose : {A : Type 0} (P : List ℕ → A → Type 0) (word name : List ℕ) (x y : A) (o : Option A) → P name x → (o ≡ Some y → P word y)
    → cond (bytes_eq word name) (Some x) o ≡ Some y → P word y
choose {A} P word name x y o here other h = go (bytes_eq word name) refl h
  where
    go : (b : Bool) → bytes_eq word name ≡ b → cond b (Some x) o ≡ Some y → P word y
    go true is g =
        let same : x ≡ y = cc in
        subst (λ (z : A). P word z) same (subst (λ (w : List ℕ). P w x) (sym (text_is word name is)) here)
    go false is g = other g

no_word : {A : Type 0} {P : Type 0} (y : A) → None ≡ Some y → P
no_word y h = absurd (go h)
  where
    go : None ≡ Some y → ⊥
    go g = cc

-- how each is spelled
abbrev request_text : RequestWord → List ℕ
request_text request_is.Say = codes "say"
request_text request_is.Interrupt = codes "int"
request_text request_is.Answer = codes "answer"
request_text request_is.Refuse = codes "refuse"
request_text request_is.Reset = codes "reset"
request_text request_is.Clear = codes "clear"
request_text request_is.Stop = codes "stop"
request_text request_is.Go = codes "go"

abbrev event_text : EventWord → List ℕ
event_text event_is.Break = codes "break"
event_text event_is.Idle = codes "idle"
event_text event_is.Print = codes "print"
event_text event_is.Call = codes "call"
event_text event_is.Take = codes "take"
event_text event_is.Deliver = codes "deliver"
event_text event_is.Lose = codes "lose"
event_text event_is.Expire = codes "expire"
event_text event_is.Relink = codes "relink"
event_text event_is.Restart = codes "restart"
event_text (event_is.Ask word) = request_text word

abbrev command_text : CommandWord → List ℕ
command_text command_is.Key = codes "key"
command_text command_is.Flow = codes "flow"
command_text command_is.Tick = codes "tick"
command_text command_is.Trace = codes "trace"
command_text command_is.Check = codes "check"
command_text (command_is.Event word) = event_text word

abbrev Asked : List ℕ → RequestWord → Type 0
Asked word w = word ≡ request_text w

request_named : (word : List ℕ) (w : RequestWord) → request_word word ≡ Some w → word ≡ request_text w
request_named word w h =
    choose Asked word (codes "say") request_is.Say w _ refl (
    choose Asked word (codes "int") request_is.Interrupt w _ refl (
    choose Asked word (codes "answer") request_is.Answer w _ refl (
    choose Asked word (codes "refuse") request_is.Refuse w _ refl (
    choose Asked word (codes "reset") request_is.Reset w _ refl (
    choose Asked word (codes "clear") request_is.Clear w _ refl (
    choose Asked word (codes "stop") request_is.Stop w _ refl (
    choose Asked word (codes "go") request_is.Go w _ refl (no_word w)))))))) h

abbrev Happens : List ℕ → EventWord → Type 0
Happens word w = word ≡ event_text w

asks_named : (word : List ℕ) (w : EventWord) → option_map event_is.Ask (request_word word) ≡ Some w → word ≡ event_text w
asks_named word w h =
    let found = map_some event_is.Ask (request_word word) w h in
    request_named word found.0 found.1 ∙ ap event_text found.2

event_named : (word : List ℕ) (w : EventWord) → event_word word ≡ Some w → word ≡ event_text w
event_named word w h =
    choose Happens word (codes "break") event_is.Break w _ refl (
    choose Happens word (codes "idle") event_is.Idle w _ refl (
    choose Happens word (codes "print") event_is.Print w _ refl (
    choose Happens word (codes "call") event_is.Call w _ refl (
    choose Happens word (codes "take") event_is.Take w _ refl (
    choose Happens word (codes "deliver") event_is.Deliver w _ refl (
    choose Happens word (codes "lose") event_is.Lose w _ refl (
    choose Happens word (codes "expire") event_is.Expire w _ refl (
    choose Happens word (codes "relink") event_is.Relink w _ refl (
    choose Happens word (codes "restart") event_is.Restart w _ refl (asks_named word w)))))))))) h

abbrev Begins : List ℕ → CommandWord → Type 0
Begins word w = word ≡ command_text w

one_named : (word : List ℕ) (w : CommandWord) → option_map command_is.Event (event_word word) ≡ Some w → word ≡ command_text w
one_named word w h =
    let found = map_some command_is.Event (event_word word) w h in
    event_named word found.0 found.1 ∙ ap command_text found.2

command_named : (word : List ℕ) (w : CommandWord) → command_word word ≡ Some w → word ≡ command_text w
command_named word w h =
    choose Begins word (codes "key") command_is.Key w _ refl (
    choose Begins word (codes "flow") command_is.Flow w _ refl (
    choose Begins word (codes "tick") command_is.Tick w _ refl (
    choose Begins word (codes "trace") command_is.Trace w _ refl (
    choose Begins word (codes "check") command_is.Check w _ refl (one_named word w))))) h

direction_found : (word : List ℕ) (direction : Direction) → direction_of word ≡ Some direction → DirectionForm word direction
direction_found word direction h =
    choose DirectionForm word (codes ">") _ direction _ direction_form.from_dte (
    choose DirectionForm word (codes "<") _ direction _ direction_form.from_dce (no_word direction)) h

lone_found : (word : List ℕ) (id : TimerId) → lone_timer word ≡ Some id → TimerForm word id
lone_found word id h =
    choose TimerForm word (codes "T1") _ id _ timer_form.t1 (
    choose TimerForm word (codes "T10") _ id _ timer_form.t10 (
    choose TimerForm word (codes "T20") _ id _ timer_form.t20 (no_word id))) h

-- a timer with this number behind its mark
numbered_found : (number : List ℕ) (n : ℕ) (mark : List ℕ) (id : TimerId) → IsNumber number n → numbered_timer mark (min n 255) ≡ Some id
    → TimerForm (mark ␣ number) id
numbered_found number n mark id is h =
    let P : List ℕ → TimerId → Type 0 = λ word i. TimerForm (word ␣ number) i in
    choose P mark (codes "T11") _ id _ (timer_form.t11 is) (
    choose P mark (codes "T12") _ id _ (timer_form.t12 is) (
    choose P mark (codes "T13") _ id _ (timer_form.t13 is) (
    choose P mark (codes "T21") _ id _ (timer_form.t21 is) (
    choose P mark (codes "T22") _ id _ (timer_form.t22 is) (
    choose P mark (codes "T23") _ id _ (timer_form.t23 is) (
    choose P mark (codes "Idle") _ id _ (timer_form.idle is) (no_word id))))))) h

abbrev SaysWith : List ℕ → Bool × Bool → Type 0
SaysWith word flags = (tail octets : List ℕ) → WithText word tail octets → SayForm tail (RequestValue.Say octets flags.0 flags.1)

flags_found : (word : List ℕ) (flags : Bool × Bool) → flags_of word ≡ Some flags → SaysWith word flags
flags_found word flags h =
    choose SaysWith word (codes "-") _ flags _ (λ tail octets form. say_form.plain form) (
    choose SaysWith word (codes "q") _ flags _ (λ tail octets form. say_form.qualified form) (
    choose SaysWith word (codes "d") _ flags _ (λ tail octets form. say_form.delivered form) (
    choose SaysWith word (codes "qd") _ flags _ (λ tail octets form. say_form.both form) (no_word flags)))) h

-- ---- the text behind a word

text_read : (word : List ℕ) (left : Left) (octets : List ℕ) → octets_of (text_of left) ≡ Some octets → WithText word (joined word left) octets
unfolding octets_from
text_read word None octets h = let none : [] ≡ octets = cc in subst (λ os. WithText word word os) none with_text.alone
text_read word (Some text) octets h = with_text.followed (text_found text octets h)

-- ---- what is left of a line, and what it says

pub record Says (P : List ℕ → Type 0) (left : Left) : Type 0 where
  pub text : List ℕ
  pub whole : left ≡ Some text
  pub form : P text

-- a number that ends the line
number_ends : (left : Left) (n : ℕ) → last (number_at left) ≡ Some n → Says (λ text. IsNumber text n) left
number_ends left n h =
    let read = number_read left n None (last_some (number_at left) n h) in
    record { text = read.word; whole = read.whole; form = read.is_number }

node_ends : (names : List (List ℕ)) (left : Left) (node : ℕ) → last (node_at names left) ≡ Some node → Says (λ text. IsNode names text node) left
node_ends names left node h =
    let read = node_read names left node None (last_some (node_at names left) node h) in
    record { text = read.word; whole = read.whole; form = read.is_node }

-- a word that ends the line
word_ends : {A : Type 0} (read : List ℕ → Option A) (left : Left) (x : A) → last (named read (next_word left)) ≡ Some x
    → Says (λ text. read text ≡ Some x) left
word_ends read left x h =
    let found = named_some read (next_word left) x None (last_some (named read (next_word left)) x h) in
    let line = front left found.0 None found.1 in
    let is : IsFront line.0 found.0 None = line.2 in
    record { text = found.0; whole = line.1 ∙ ap Some is.whole; form = found.2 }

timer_number_found : (left : Left) (n : ℕ) → last (timer_number_at left) ≡ Some n
    → Says (λ text. (m : ℕ) × (IsNumber text m) × (n ≡ min m 255)) left
timer_number_found left n h =
    let ends = word_ends (λ word. option_map (λ m. min m 255) (number_of word)) left n h in
    let found = map_some (λ m. min m 255) (number_of ends.text) n ends.form in
    record { text = ends.text; whole = ends.whole; form = (found.0, number_found ends.text found.0 found.1, sym found.2) }

timer_found : (left : Left) (id : TimerId) → timer_of left ≡ Some id → Says (λ text. TimerForm text id) left
timer_found left id h =
    let begun = bind_some (next_word left) (λ w. timer_with (lone_timer w.0) w) id h in
    let word : List ℕ = begun.0.0 in
    let rest : Left = begun.0.1 in
    let line = front left word rest begun.1 in
    let is : IsFront line.0 word rest = line.2 in
    go word rest line.0 line.1 is.whole (lone_timer word) refl begun.2
  where
    go : (word : List ℕ) (rest : Left) (line : List ℕ) → left ≡ Some line → line ≡ joined word rest → (o : Option TimerId) → lone_timer word ≡ o
        → timer_with o (word, rest) ≡ Some id → Says (λ text. TimerForm text id) left
    go word None line there whole (Some other) is g =
        let same : other ≡ id = cc in
        record { text = word; whole = there ∙ ap Some whole; form = lone_found word id (is ∙ ap Some same) }
    go word (Some text) line there whole (Some other) is g = cc
    go word rest line there whole None is g =
        let number = bind_some (last (timer_number_at rest)) (numbered_timer word) id g in
        let ends = timer_number_found rest number.0 number.1 in
        let made : numbered_timer word (min ends.form.0 255) ≡ Some id = ap (numbered_timer word) (sym ends.form.2) ∙ number.2 in
        record {
          text = word ␣ ends.text;
          whole = there ∙ ap Some whole ∙ ap (λ (l : Left). Some (joined word l)) ends.whole;
          form = numbered_found ends.text ends.form.0 word id ends.form.1 made;
        }

abbrev pair : ℕ → Direction → ℕ × Direction
pair n d = (n, d)

directed_found : (left : Left) (line : ℕ) (direction : Direction) → directed_of left ≡ Some (line, direction)
    → (number : List ℕ) × (mark : List ℕ) × (left ≡ Some (number ␣ mark)) × (IsNumber number line) × (DirectionForm mark direction)
directed_found left line direction h =
    let begun = bind_some (number_at left) _ (line, direction) h in
    let number = number_read left begun.0.0 begun.0.1 begun.1 in
    let made = map_some (λ (d : Direction). pair begun.0.0 d) (last (named direction_of (next_word begun.0.1))) (line, direction) begun.2 in
    let mark = word_ends direction_of begun.0.1 made.0 made.1 in
    let same_line : begun.0.0 ≡ line = ap (λ (p : ℕ × Direction). p.0) made.2 in
    let same_direction : made.0 ≡ direction = ap (λ (p : ℕ × Direction). p.1) made.2 in (
      number.word,
      mark.text,
      number.whole ∙ ap (λ (l : Left). Some (joined number.word l)) mark.whole,
      subst (λ n. IsNumber number.word n) same_line number.is_number,
      subst (λ (d : Direction). DirectionForm mark.text d) same_direction (direction_found mark.text made.0 mark.form),
    )

-- ---- lines of one event, behind their first word

-- a line whose first word is this one is a line of the event
abbrev LineOf : (names : List (List ℕ)) → (word : List ℕ) → EventValue → Left → Type 0
LineOf names word e left = Says (λ text. EventForm names (word ␣ text) e) left

at_terminal_found : (names : List (List ℕ)) (word : List ℕ) (what : TerminalEvent) (left : Left) (e : EventValue) → TerminalForm word what
    → at_terminal_of names what left ≡ Some e → LineOf names word e left
at_terminal_found names word what left e form h =
    let begun = bind_some (node_at names left) _ e h in
    let node = node_read names left begun.0.0 begun.0.1 begun.1 in
    let made = map_some (λ n. EventValue.AtTerminal begun.0.0 n what) (last (number_at begun.0.1)) e begun.2 in
    let number = number_ends begun.0.1 made.0 made.1 in
    record {
      text = node.word ␣ number.text;
      whole = node.whole ∙ ap (λ (l : Left). Some (joined node.word l)) number.whole;
      form = subst (λ v. EventForm names (word ␣ node.word ␣ number.text) v) made.2 (event_form.at_terminal form node.is_node number.form);
    }

take_found : (names : List (List ℕ)) (left : Left) (e : EventValue) → take_of names left ≡ Some e → LineOf names (codes "take") e left
take_found names left e h =
    let begun = bind_some (node_at names left) _ e h in
    let node = node_read names left begun.0.0 begun.0.1 begun.1 in
    let made = map_some (λ n. EventValue.Take begun.0.0 n) (last (number_at begun.0.1)) e begun.2 in
    let number = number_ends begun.0.1 made.0 made.1 in
    record {
      text = node.word ␣ number.text;
      whole = node.whole ∙ ap (λ (l : Left). Some (joined node.word l)) number.whole;
      form = subst (λ v. EventForm names (codes "take" ␣ node.word ␣ number.text) v) made.2 (event_form.take node.is_node number.form);
    }

ok_is : (r : Result (List ℕ) AddressFault) (digits : List ℕ) → result_ok r ≡ Some digits → r ≡ Ok digits
ok_is (Ok ds) digits h = let same : ds ≡ digits = cc in ap Ok same
ok_is (Err fault) digits h = cc

call_made : (node : ℕ) (address : List ℕ) (o : Option (List ℕ)) (e : EventValue) → call_with node address o ≡ Some e
    → (octets : List ℕ) × (o ≡ Some octets) × (length octets ≤ 16) × (EventValue.Call node address octets ≡ e)
call_made node address None e h = cc
call_made node address (Some octets) e h = go (nat_le (length octets) 16) refl h
  where
    go : (b : Bool) → nat_le (length octets) 16 ≡ b → cond b (Some (EventValue.Call node address octets)) None ≡ Some e
        → (os : List ℕ) × (Some octets ≡ Some os) × (length os ≤ 16) × (EventValue.Call node address os ≡ e)
    go true is g = (octets, refl, leb-true _ _ is, cc)
    go false is g = cc

call_found : (names : List (List ℕ)) (left : Left) (e : EventValue) → call_of names left ≡ Some e → LineOf names (codes "call") e left
call_found names left e h =
    let begun = bind_some (node_at names left) _ e h in
    let node = node_read names left begun.0.0 begun.0.1 begun.1 in
    let then = bind_some (address_at begun.0.1) _ e begun.2 in
    let found = named_some (λ word. result_ok (address_of word)) (next_word begun.0.1) then.0.0 then.0.1 then.1 in
    let line = front begun.0.1 found.0 then.0.1 found.1 in
    let is : IsFront line.0 found.0 then.0.1 = line.2 in
    let made = call_made begun.0.0 then.0.0 (octets_of (text_of then.0.1)) e then.2 in
    let digits : address_of found.0 ≡ Ok then.0.0 = ok_is (address_of found.0) then.0.0 found.2 in
    record {
      text = node.word ␣ joined found.0 then.0.1;
      whole = node.whole ∙ ap (λ (l : Left). Some (joined node.word l)) (line.1 ∙ ap Some is.whole);
      form = subst (λ v. EventForm names (codes "call" ␣ node.word ␣ joined found.0 then.0.1) v) made.3
          (event_form.call node.is_node digits (text_read found.0 then.0.1 made.0 made.1) made.2);
    }

expiry_found : (names : List (List ℕ)) (left : Left) (e : EventValue) → expiry_of names left ≡ Some e → LineOf names (codes "expire") e left
expiry_found names left e h =
    let begun = bind_some (node_at names left) _ e h in
    let node = node_read names left begun.0.0 begun.0.1 begun.1 in
    let then = bind_some (number_at begun.0.1) _ e begun.2 in
    let number = number_read begun.0.1 then.0.0 then.0.1 then.1 in
    let made = map_some (λ i. EventValue.Expire begun.0.0 then.0.0 i) (timer_of then.0.1) e then.2 in
    let timer = timer_found then.0.1 made.0 made.1 in
    record {
      text = node.word ␣ number.word ␣ timer.text;
      whole = node.whole ∙ ap (λ (l : Left). Some (joined node.word l)) (number.whole ∙ ap (λ (l : Left). Some (joined number.word l)) timer.whole);
      form = subst (λ v. EventForm names (codes "expire" ␣ node.word ␣ number.word ␣ timer.text) v) made.2
          (event_form.expire node.is_node number.is_number timer.form);
    }

deliver_found : (names : List (List ℕ)) (left : Left) (e : EventValue) → option_map (λ d. EventValue.Deliver d.0 d.1) (directed_of left) ≡ Some e
    → LineOf names (codes "deliver") e left
deliver_found names left e h =
    let made = map_some (λ d. EventValue.Deliver d.0 d.1) (directed_of left) e h in
    let found = directed_found left made.0.0 made.0.1 made.1 in
    record {
      text = found.0 ␣ found.1;
      whole = found.2;
      form = subst (λ v. EventForm names (codes "deliver" ␣ found.0 ␣ found.1) v) made.2 (event_form.deliver found.3 found.4);
    }

lose_found : (names : List (List ℕ)) (left : Left) (e : EventValue) → option_map (λ d. EventValue.Lose d.0 d.1) (directed_of left) ≡ Some e
    → LineOf names (codes "lose") e left
lose_found names left e h =
    let made = map_some (λ d. EventValue.Lose d.0 d.1) (directed_of left) e h in
    let found = directed_found left made.0.0 made.0.1 made.1 in
    record {
      text = found.0 ␣ found.1;
      whole = found.2;
      form = subst (λ v. EventForm names (codes "lose" ␣ found.0 ␣ found.1) v) made.2 (event_form.lose found.3 found.4);
    }

relink_found : (names : List (List ℕ)) (left : Left) (e : EventValue) → option_map EventValue.Relink (last (number_at left)) ≡ Some e
    → LineOf names (codes "relink") e left
relink_found names left e h =
    let made = map_some EventValue.Relink (last (number_at left)) e h in
    let number = number_ends left made.0 made.1 in
    record {
      text = number.text;
      whole = number.whole;
      form = subst (λ v. EventForm names (codes "relink" ␣ number.text) v) made.2 (event_form.relink number.form);
    }

restart_found : (names : List (List ℕ)) (left : Left) (e : EventValue) → option_map EventValue.Restart (last (node_at names left)) ≡ Some e
    → LineOf names (codes "restart") e left
restart_found names left e h =
    let made = map_some EventValue.Restart (last (node_at names left)) e h in
    let node = node_ends names left made.0 made.1 in
    record {
      text = node.text;
      whole = node.whole;
      form = subst (λ v. EventForm names (codes "restart" ␣ node.text) v) made.2 (event_form.restart node.form);
    }

-- what a word asks, behind the channel: the word's form over the number and what is left
say_found : (left : Left) (request : RequestValue) → say_of left ≡ Some request → Says (λ text. SayForm text request) left
say_found left request h =
    let begun = bind_some (named flags_of (next_word left)) _ request h in
    let found = named_some flags_of (next_word left) begun.0.0 begun.0.1 begun.1 in
    let line = front left found.0 begun.0.1 found.1 in
    let is : IsFront line.0 found.0 begun.0.1 = line.2 in
    let made = map_some (λ octets. RequestValue.Say octets begun.0.0.0 begun.0.0.1) (octets_of (text_of begun.0.1)) request begun.2 in
    record {
      text = joined found.0 begun.0.1;
      whole = line.1 ∙ ap Some is.whole;
      form = subst (λ v. SayForm (joined found.0 begun.0.1) v) made.2
          (flags_found found.0 begun.0.0 found.2 (joined found.0 begun.0.1) made.0 (text_read found.0 begun.0.1 made.0 made.1));
    }

ended_alone : {A : Type 0} (left : Left) (x y : A) → ended left x ≡ Some y → (left ≡ None) × (x ≡ y)
ended_alone None x y h = (refl, cc)
ended_alone (Some rest) x y h = cc

abbrev Asks : (number : List ℕ) → (n : ℕ) → RequestWord → Left → RequestValue → Type 0
Asks number n word left request = RequestForm (request_text word) (joined number left) n request

alone_found : (number : List ℕ) (n : ℕ) (word : RequestWord) (left : Left) (request made : RequestValue)
    → RequestForm (request_text word) number n made → ended left made ≡ Some request → Asks number n word left request
alone_found number n word left request made form h =
    let at = ended_alone left made request h in
    let P : Left → Type 0 = λ l. RequestForm (request_text word) (joined number l) n request in
    subst P (sym at.0) (subst (λ v. RequestForm (request_text word) number n v) at.1 form)

request_found : (number : List ℕ) (n : ℕ) (word : RequestWord) (left : Left) (request : RequestValue) → IsNumber number n
    → request_of word left ≡ Some request → Asks number n word left request
request_found number n request_is.Say left request is h =
    let said = say_found left request h in
    let P : Left → Type 0 = λ l. RequestForm (codes "say") (joined number l) n request in
    subst P (sym said.whole) (request_form.say is said.form)
request_found number n request_is.Interrupt left request is h =
    let made = map_some RequestValue.Interrupt (octets_of (text_of left)) request h in
    subst (λ v. RequestForm (codes "int") (joined number left) n v) made.2 (request_form.interrupt is (text_read number left made.0 made.1))
request_found number n request_is.Answer left request is h = alone_found number n request_is.Answer left request _ (request_form.answer is) h
request_found number n request_is.Refuse left request is h = alone_found number n request_is.Refuse left request _ (request_form.refuse is) h
request_found number n request_is.Reset left request is h = alone_found number n request_is.Reset left request _ (request_form.reset is) h
request_found number n request_is.Clear left request is h = alone_found number n request_is.Clear left request _ (request_form.clear is) h
request_found number n request_is.Stop left request is h = alone_found number n request_is.Stop left request _ (request_form.stop is) h
request_found number n request_is.Go left request is h = alone_found number n request_is.Go left request _ (request_form.go is) h

ask_found : (names : List (List ℕ)) (word : RequestWord) (left : Left) (e : EventValue) → ask_of names word left ≡ Some e
    → LineOf names (request_text word) e left
ask_found names word left e h =
    let begun = bind_some (node_at names left) _ e h in
    let node = node_read names left begun.0.0 begun.0.1 begun.1 in
    let then = bind_some (number_at begun.0.1) _ e begun.2 in
    let number = number_read begun.0.1 then.0.0 then.0.1 then.1 in
    let made = map_some (EventValue.Ask begun.0.0 then.0.0) (request_of word then.0.1) e then.2 in
    record {
      text = node.word ␣ joined number.word then.0.1;
      whole = node.whole ∙ ap (λ (l : Left). Some (joined node.word l)) number.whole;
      form = subst (λ v. EventForm names (request_text word ␣ node.word ␣ joined number.word then.0.1) v) made.2
          (event_form.ask node.is_node (request_found number.word then.0.0 word then.0.1 made.0 number.is_number made.1));
    }

event_found : (names : List (List ℕ)) (word : EventWord) (left : Left) (e : EventValue) → event_of names word left ≡ Some e
    → LineOf names (event_text word) e left
event_found names event_is.Break left e h = at_terminal_found names (codes "break") _ left e terminal_form.break h
event_found names event_is.Idle left e h = at_terminal_found names (codes "idle") _ left e terminal_form.idle h
event_found names event_is.Print left e h = at_terminal_found names (codes "print") _ left e terminal_form.print h
event_found names event_is.Call left e h = call_found names left e h
event_found names event_is.Take left e h = take_found names left e h
event_found names event_is.Deliver left e h = deliver_found names left e h
event_found names event_is.Lose left e h = lose_found names left e h
event_found names event_is.Expire left e h = expiry_found names left e h
event_found names event_is.Relink left e h = relink_found names left e h
event_found names event_is.Restart left e h = restart_found names left e h
event_found names (event_is.Ask word) left e h = ask_found names word left e h

-- ---- whole lines

keys_found : (names : List (List ℕ)) (left : Left) (value : CommandValue) → keys_of names left ≡ Some value
    → Says (λ text. CommandForm names (codes "key" ␣ text) value) left
keys_found names left value h =
    let begun = bind_some (node_at names left) _ value h in
    let node = node_read names left begun.0.0 begun.0.1 begun.1 in
    let then = bind_some (number_at begun.0.1) _ value begun.2 in
    let number = number_read begun.0.1 then.0.0 then.0.1 then.1 in
    let made = map_some (λ octets. CommandValue.Events (map (λ octet. EventValue.AtTerminal begun.0.0 then.0.0 (Key octet)) octets))
    (octets_of (text_of then.0.1)) value then.2 in
    record {
      text = node.word ␣ joined number.word then.0.1;
      whole = node.whole ∙ ap (λ (l : Left). Some (joined node.word l)) number.whole;
      form = subst (λ v. CommandForm names (codes "key" ␣ node.word ␣ joined number.word then.0.1) v) made.2
          (command_form.key node.is_node number.is_number (text_read number.word then.0.1 made.0 made.1));
    }

switch_found : (names : List (List ℕ)) (word : List ℕ) (traces : Bool) → switch_of word ≡ Some traces
    → CommandForm names (codes "trace" ␣ word) (CommandValue.Trace traces)
switch_found names word traces h =
    let P : List ℕ → Bool → Type 0 = λ w on. CommandForm names (codes "trace" ␣ w) (CommandValue.Trace on) in
    choose P word (codes "on") _ traces _ command_form.trace_on (
    choose P word (codes "off") _ traces _ command_form.trace_off (no_word traces)) h

from_found : (names : List (List ℕ)) (word : CommandWord) (left : Left) (value : CommandValue) → command_from names word left ≡ Some value
    → CommandForm names (joined (command_text word) left) value
from_found names command_is.Key left value h =
    let found = keys_found names left value h in
    subst (λ (l : Left). CommandForm names (joined (codes "key") l) value) (sym found.whole) found.form
from_found names command_is.Flow left value h =
    let at = ended_alone left CommandValue.Flow value h in
    subst (λ (l : Left). CommandForm names (joined (codes "flow") l) value) (sym at.0)
    (subst (λ v. CommandForm names (codes "flow") v) at.1 command_form.flow)
from_found names command_is.Tick left value h =
    let made = map_some CommandValue.Tick (last (number_at left)) value h in
    let number = number_ends left made.0 made.1 in
    subst (λ (l : Left). CommandForm names (joined (codes "tick") l) value) (sym number.whole)
    (subst (λ v. CommandForm names (codes "tick" ␣ number.text) v) made.2 (command_form.tick number.form))
from_found names command_is.Trace left value h =
    let made = map_some CommandValue.Trace (last (named switch_of (next_word left))) value h in
    let word = word_ends switch_of left made.0 made.1 in
    subst (λ (l : Left). CommandForm names (joined (codes "trace") l) value) (sym word.whole)
    (subst (λ v. CommandForm names (codes "trace" ␣ word.text) v) made.2 (switch_found names word.text made.0 word.form))
from_found names command_is.Check left value h =
    let at = ended_alone left CommandValue.Check value h in
    subst (λ (l : Left). CommandForm names (joined (codes "check") l) value) (sym at.0)
    (subst (λ v. CommandForm names (codes "check") v) at.1 command_form.check)
from_found names (command_is.Event word) left value h =
    let made = map_some (λ e. CommandValue.Events (e ∷ [])) (event_of names word left) value h in
    let found = event_found names word left made.0 made.1 in
    subst (λ (l : Left). CommandForm names (joined (event_text word) l) value) (sym found.whole)
    (subst (λ v. CommandForm names (event_text word ␣ found.text) v) made.2 (command_form.one_event found.form))

pub command_found : (names : List (List ℕ)) (line : List ℕ) (value : CommandValue) → command_of names line ≡ Some value → CommandForm names line value
command_found names line value h =
    let begun = bind_some (named command_word (next_word (Some line))) _ value h in
    let found = named_some command_word (next_word (Some line)) begun.0.0 begun.0.1 begun.1 in
    let whole = front (Some line) found.0 begun.0.1 found.1 in
    let is : IsFront whole.0 found.0 begun.0.1 = whole.2 in
    let same : line ≡ whole.0 = same_Some _ _ whole.1 in
    let word : found.0 ≡ command_text begun.0.0 = command_named found.0 begun.0.0 found.2 in
    let line_is : line ≡ joined (command_text begun.0.0) begun.0.1 = same ∙ is.whole ∙ ap (λ w. joined w begun.0.1) word in
    subst (λ l. CommandForm names l value) (sym line_is) (from_found names begun.0.0 begun.0.1 value begun.2)
