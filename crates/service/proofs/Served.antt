-- What steps are at one terminal, and at all of them.
use Rattle.std.proofs.Common.{◌≡◌, ◌≢◌, ◌⊎◌, ℕ, Bool, true, false, not, ◌||◌, List, [], ◌∷◌, ◌++◌, ◌≤◌, ◌+◌, length, take, drop, remove, slice_get, position, Option, Some, None, refl, sym, ap, ◌∙◌, arith, inl, inr, append_assoc, append-nil, Result, Ok, Err, IfOk, eqb, ◌==◌, eq-eqb, subst, zero, suc, ◌&&◌, cond}
use Rattle.std.proofs.lemmas.Bool.{cases_eq}
use Rattle.std.proofs.lemmas.Bool.Decides.{nat_tests}
use Rattle.std.proofs.lemmas.List.{take-append-drop, length-take-le}
use Rattle.frame_lines.specs.Lines.{LineService}
use Rattle.user_nodes.specs.declared.terminal.TerminalEvent.TheVariants as what
use Rattle.net_events.specs.declared.event.Event.{Event}
use Rattle.net_events.specs.declared.event.Event.TheVariants.{AtTerminal}
use Rattle.net_events.specs.declared.event.StepFault.{StepFault}
use Rattle.net_events.specs.declared.answer.Answer.{Answer}
use Rattle.net_process.specs.Process.{ProcessState}
use Rattle.service_ports.specs.declared.input.Key.{Key}
use Rattle.service_ports.specs.declared.input.Key.TheVariants.{Octet, Break}
use Rattle.service_ports.specs.declared.mode.PortMode.{PortMode}
use Rattle.service_ports.specs.declared.mode.PortMode.TheVariants.{Telnet, Raw}
use Rattle.service_ports.specs.Modes.{with_shown}
use Rattle.service_ports.specs.Ports.{is_octet}
use Rattle.service_ports.specs.Writing.{Output, with_text}
use Rattle.service_ports.proofs.Forms.{with_text-cons}
use Rattle.circular_buffer.specs.Buffer.{buffer}
use Rattle.service.specs.declared.place.Place.{Place}
use Rattle.service.specs.declared.terminal.Presence.{Presence}
use Rattle.service.specs.declared.terminal.Presence.TheVariants.{Here, Gone}
use Rattle.service.specs.declared.terminal.Terminal.{Terminal}
use Rattle.service.specs.declared.terminal.Terms.{Terms}
use Rattle.service.specs.Terminals.{without_keys, without_key_at, urgent_place, xon_place, counted}
use Rattle.service.specs.Steps.{Step, Makes, is_idle, is_idle_answer, is_idle_outcome, text_of, key_event, presence_event, shown_by, typed_by, told_by, shown, typed, told, IsSilent, Does}
use Rattle.service.specs.Serving.{Fate, pressed, hastened, overtaken, Befall, begins_urgently, overtaken_in, xon, untold_list, IsServed, WishesPresence, WishesXon, WishesKeys, WishesText, Wishes, Serves, shown_at, IsOvertaken, may_show}
use Rattle.line_sim.specs.Stepping.{lent}
use Rattle.node_events.specs.AnswerRoom.{IsWithinLimits}
use Rattle.std.specs.Borrow.{Bor}
use Rattle.std.specs.Bool.{OnTrue, OnFalse}
use Rattle.service.proofs.Keys.{befall-then, overtaken_in-append, first_and_rest, first_found, is_xon, xon_found}
use Rattle.service.proofs.Stepping.{Lent, steps-append, shown-append, typed-append, told-append, silent-none, silent-append, silent_step, idle-append, aside-append, idle_step, tried-left, tried-right, tried_step, not_done, was_done, neither_left, neither_right}

-- ---- text after text

with_text_none : (o : Output) → with_text o [] ≡ o
with_text_none o = ap (λ octets. record o { octets = octets }) (append-nil o.octets)

with_text_then : (o : Output) (xs ys : List ℕ) → with_text (with_text o xs) ys ≡ with_text o (xs ++ ys)
with_text_then o [] ys = ap (λ w. with_text w ys) (with_text_none o)
with_text_then o (x ∷ xs) ys =
    ap (λ w. with_text w ys) (sym (with_text-cons o x xs))
    ∙ with_text_then (with_text o (x ∷ [])) xs ys
    ∙ with_text-cons o x (xs ++ ys)

with_shown_none : (mode : PortMode) (o : Output) → with_shown mode o [] ≡ o
with_shown_none Telnet o = with_text_none o
with_shown_none Raw o = ap (λ octets. record o { octets = octets }) (append-nil o.octets)

pub with_shown_then : (mode : PortMode) (o : Output) (xs ys : List ℕ) → with_shown mode (with_shown mode o xs) ys ≡ with_shown mode o (xs ++ ys)
with_shown_then Telnet o xs ys = with_text_then o xs ys
with_shown_then Raw o xs ys = ap (λ octets. record o { octets = octets }) (append_assoc o.octets xs ys)

-- ---- counts

counted-none : (count : ℕ) → counted count 0 ≡ count
counted-none count = omega arith

counted_then : (count a b : ℕ) → counted (counted count a) b ≡ counted count (a + b)
counted_then count a b = omega arith

-- ---- one terminal

pub served_silent : (at : Place) (steps : List Step) (p : Terminal) → IsSilent at steps → IsServed at steps p p
served_silent at steps p silent = record {
  terms = refl;
  mode = refl;
  reader = refl;
  phase = refl;
  output = sym (ap (λ text. with_shown p.port.mode p.port.output text) silent.shows ∙ with_shown_none p.port.mode p.port.output);
  fates = [];
  keys = (refl, silent.types);
  overtaken_are = sym (counted-none p.overtaken);
  untold = ap (λ tells. tells ++ untold_list p.untold) (sym silent.tells);
}

pub served_then : (at : Place) (xs ys : List Step) (p m q : Terminal) → IsServed at xs p m → IsServed at ys m q → IsServed at (xs ++ ys) p q
served_then at xs ys p m q one two = record {
  terms = two.terms ∙ one.terms;
  mode = two.mode ∙ one.mode;
  reader = two.reader ∙ one.reader;
  phase = two.phase ∙ one.phase;
  output = two.output
      ∙ (λ i. with_shown (one.mode i) (one.output i) (shown at ys))
      ∙ with_shown_then p.port.mode p.port.output (shown at xs) (shown at ys)
      ∙ ap (λ text. with_shown p.port.mode p.port.output text) (sym (shown-append at xs ys));
  fates = one.fates ++ two.fates;
  keys = subst (λ keys. Befall p.terms.has_xon (one.fates ++ two.fates) p.port.keys.items keys q.port.keys.items) (sym (typed-append at xs ys))
      (befall-then p.terms.has_xon one.fates two.fates p.port.keys.items (typed at xs) m.port.keys.items (typed at ys) q.port.keys.items one.keys
      (subst (λ (terms : Terms). Befall terms.has_xon two.fates m.port.keys.items (typed at ys) q.port.keys.items) one.terms two.keys));
  overtaken_are = two.overtaken_are
      ∙ ap (λ count. counted count (overtaken_in two.fates)) one.overtaken_are
      ∙ counted_then p.overtaken (overtaken_in one.fates) (overtaken_in two.fates)
      ∙ ap (λ count. counted p.overtaken count) (sym (overtaken_in-append one.fates two.fates));
  untold = one.untold
      ∙ ap (λ tells. told at xs ++ tells) two.untold
      ∙ sym (append_assoc (told at xs) (told at ys) (untold_list q.untold))
      ∙ ap (λ tells. tells ++ untold_list q.untold) (sym (told-append at xs ys));
}

-- nothing is done
pub serves-none : (L : LineService) (at : Place) (Wish : Terminal → Event → Type 0) (s : ProcessState) (p : Terminal)
    → ((event : Event) → Wish p event → ⊥) → Serves L at Wish false s s p p
serves-none L at Wish s p unwished = record {
  steps = [];
  made = refl;
  served = served_silent at [] p (silent-none at);
  silent = λ other apart. silent-none other;
  aside = refl;
  same = λ none. refl;
  idle = λ none. refl;
  tried = λ none event wish. absurd (unwished event wish);
}

-- what was wished first is wished or was tried afterwards, since nothing changed
pub serves-then : (L : LineService) (at : Place) (One Two Both : Terminal → Event → Type 0) (a b : Bool) (s m t : ProcessState) (p between q : Terminal)
    → ((event : Event) → Both q event → One q event ⊎ Two q event)
    → Serves L at One a s m p between → Serves L at Two b m t between q → Serves L at Both (a || b) s t p q
serves-then L at One Two Both a b s m t p between q split one two = record {
  steps = one.steps ++ two.steps;
  made = steps-append L s m t one.steps two.steps one.made two.made;
  served = served_then at one.steps two.steps p between q one.served two.served;
  silent = λ other apart. silent-append other one.steps two.steps (one.silent other apart) (two.silent other apart);
  aside = aside-append one.steps two.steps one.aside two.aside;
  same = λ none. two.same (neither_right a b none) ∙ one.same (neither_left a b none);
  idle = λ none. idle-append one.steps two.steps (one.idle (neither_left a b none)) (two.idle (neither_right a b none));
  tried = λ none event wish. elim (split event wish) [
    | inl first ↦ tried-left event one.steps two.steps (one.tried (neither_left a b none) event
        (subst (λ (r : Terminal). One r event) (two.same (neither_right a b none)) first))
    | inr second ↦ tried-right event one.steps two.steps (two.tried (neither_right a b none) event second)
  ];
}

-- more was done, so nothing is said of what was tried
pub serves_more : (L : LineService) (at : Place) (Wish : Terminal → Event → Type 0) (a b : Bool) (s m t : ProcessState) (p between q : Terminal)
    → Serves L at Wish a s m p between → Serves L at Wish b m t between q → Serves L at Wish true s t p q
serves_more L at Wish a b s m t p between q one two = record {
  steps = one.steps ++ two.steps;
  made = steps-append L s m t one.steps two.steps one.made two.made;
  served = served_then at one.steps two.steps p between q one.served two.served;
  silent = λ other apart. silent-append other one.steps two.steps (one.silent other apart) (two.silent other apart);
  aside = aside-append one.steps two.steps one.aside two.aside;
  same = λ none. cc;
  idle = λ none. cc;
  tried = λ none event wish. cc;
}

split : (at : Place) (p : Terminal) (event : Event) → Wishes at p event
    → (WishesPresence at p event ⊎ WishesKeys at p event) ⊎ WishesText at p event
split at p event (inl presence) = inl (inl presence)
split at p event (inr (inl keys)) = inl (inr keys)
split at p event (inr (inr text)) = inr text

pub serves_at : (L : LineService) (at : Place) (Wish : Terminal → Event → Type 0) (a b : Bool) (s t : ProcessState) (p q : Terminal) → a ≡ b
    → Serves L at Wish a s t p q → Serves L at Wish b s t p q
serves_at L at Wish a b s t p q is serves = subst (λ more. Serves L at Wish more s t p q) is serves

-- the PAD is told who is there, keys are typed, and text is shown
pub serves_all : (L : LineService) (at : Place) (a b c : Bool) (s m n t : ProcessState) (p q r o : Terminal)
    → Serves L at (WishesPresence at) a s m p q → Serves L at (WishesKeys at) b m n q r
    → Serves L at (WishesText at) c n t r o → Serves L at (Wishes at) ((a || b) || c) s t p o
serves_all L at a b c s m n t p q r o one two three =
    let first_two = λ (x : Terminal) (event : Event). WishesPresence at x event ⊎ WishesKeys at x event in
    serves-then L at first_two (WishesText at) (Wishes at) (a || b) c s n t p r o (split at o)
    (serves-then L at (WishesPresence at) (WishesKeys at) first_two a b s m n p q r (λ event wish. wish) one two)
    three

-- ---- one step at a terminal

same : (n : ℕ) → eqb n n ≡ true
same n = eq-eqb n n refl

differ : (n m : ℕ) → m ≢ n → eqb n m ≡ false
differ n m apart = grind (arith, nat_tests)

abbrev one_step : Event → Result Answer StepFault → List Step
one_step event answer = record { event = event; answer = answer } ∷ []

if_so : {X : Type 0} (b : Bool) (xs : List X) → b ≡ true → cond b xs [] ≡ xs
if_so true xs e = refl
if_so false xs e = cc

if_not : {X : Type 0} (b : Bool) (xs : List X) → b ≡ false → cond b xs [] ≡ []
if_not true xs e = cc
if_not false xs e = refl

neither_first : (a b : Bool) → a ≡ false → (a && b) ≡ false
neither_first true b e = cc
neither_first false b e = refl

neither_second : (a b : Bool) → b ≡ false → (a && b) ≡ false
neither_second true b e = e
neither_second false b e = refl

same_place : (one other : Place) → one.node ≡ other.node → one.number ≡ other.number → one ≡ other
same_place one other node number = λ i. record { node = node i; number = number i }

-- a step at this terminal, and one at another
here : (at : Place) → (eqb at.node at.node && eqb at.number at.number) ≡ true
here at = λ i. same at.node i && same at.number i

away : (at other : Place) → other ≢ at → (eqb at.node other.node && eqb at.number other.number) ≡ false
away at other apart = elim (cases_eq other.node at.node) [
  | inl node ↦ elim (cases_eq other.number at.number) [
    | inl number ↦ absurd (apart (same_place other at node number))
    | inr number ↦ neither_second (eqb at.node other.node) (eqb at.number other.number) (differ at.number other.number number)
  ]
  | inr node ↦ neither_first (eqb at.node other.node) (eqb at.number other.number) (differ at.node other.node node)
]

abbrev test : (at other : Place) (answer : Result Answer StepFault) → Bool
test at other answer = (eqb at.node other.node && eqb at.number other.number) && not (is_idle answer)

here_busy : (at : Place) (answer : Result Answer StepFault) → is_idle answer ≡ false → test at at answer ≡ true
here_busy at answer busy = λ i. here at i && not (busy i)

here_idle : (at : Place) (answer : Result Answer StepFault) → is_idle answer ≡ true → test at at answer ≡ false
here_idle at answer idle = λ i. here at i && not (idle i)

away_either : (at other : Place) (answer : Result Answer StepFault) → other ≢ at → test at other answer ≡ false
away_either at other answer apart = λ i. away at other apart i && not (is_idle answer)

-- ---- one key

key_is_silent : (at other : Place) (key : Key) (answer : Result Answer StepFault) → other ≢ at
    → IsSilent other (one_step (AtTerminal at.node at.number (key_event key)) answer)
key_is_silent at other (Octet octet) answer apart =
    silent_step other (AtTerminal at.node at.number (what.Key octet)) answer refl
    (if_not (test at other answer) (Octet octet ∷ []) (away_either at other answer apart)) refl
key_is_silent at other Break answer apart =
    silent_step other (AtTerminal at.node at.number what.Break) answer refl
    (if_not (test at other answer) (Break ∷ []) (away_either at other answer apart)) refl

key_types : (at : Place) (key : Key) (answer : Result Answer StepFault) → is_idle answer ≡ false
    → typed at (one_step (AtTerminal at.node at.number (key_event key)) answer) ≡ key ∷ []
key_types at (Octet octet) answer busy =
    append-nil (typed_by at (AtTerminal at.node at.number (what.Key octet)) answer)
    ∙ if_so (test at at answer) (Octet octet ∷ []) (here_busy at answer busy)
key_types at Break answer busy =
    append-nil (typed_by at (AtTerminal at.node at.number what.Break) answer)
    ∙ if_so (test at at answer) (Break ∷ []) (here_busy at answer busy)

key_is_refused : (at : Place) (key : Key) (answer : Result Answer StepFault) → is_idle answer ≡ true
    → typed at (one_step (AtTerminal at.node at.number (key_event key)) answer) ≡ []
key_is_refused at (Octet octet) answer idle =
    append-nil (typed_by at (AtTerminal at.node at.number (what.Key octet)) answer)
    ∙ if_not (test at at answer) (Octet octet ∷ []) (here_idle at answer idle)
key_is_refused at Break answer idle =
    append-nil (typed_by at (AtTerminal at.node at.number what.Break) answer)
    ∙ if_not (test at at answer) (Break ∷ []) (here_idle at answer idle)

key_shows_nothing : (at : Place) (key : Key) (answer : Result Answer StepFault)
    → shown at (one_step (AtTerminal at.node at.number (key_event key)) answer) ≡ []
key_shows_nothing at (Octet octet) answer = refl
key_shows_nothing at Break answer = refl

key_tells_nothing : (at : Place) (key : Key) (answer : Result Answer StepFault)
    → told at (one_step (AtTerminal at.node at.number (key_event key)) answer) ≡ []
key_tells_nothing at (Octet octet) answer = refl
key_tells_nothing at Break answer = refl

-- the output is as before, and nothing was shown
unchanged : (mode : PortMode) (o : Output) (text : List ℕ) → text ≡ [] → o ≡ with_shown mode o text
unchanged mode o text none = sym (ap (λ text. with_shown mode o text) none ∙ with_shown_none mode o)

-- a key is typed, and these keys are left
typed_served : (at : Place) (key : Key) (answer : Result Answer StepFault) (p : Terminal) (fate : Fate) (left : List Key)
    → is_idle answer ≡ false → Befall p.terms.has_xon (fate ∷ []) p.port.keys.items (key ∷ []) left → overtaken_in (fate ∷ []) ≡ 0
    → IsServed at (one_step (AtTerminal at.node at.number (key_event key)) answer) p (record p { port = record p.port { keys = buffer left p.port.keys.capacity } })
typed_served at key answer p fate left busy goes none = record {
  terms = refl;
  mode = refl;
  reader = refl;
  phase = refl;
  output = unchanged p.port.mode p.port.output _ (key_shows_nothing at key answer);
  fates = fate ∷ [];
  keys = subst (λ keys. Befall p.terms.has_xon (fate ∷ []) p.port.keys.items keys left) (sym (key_types at key answer busy)) goes;
  overtaken_are = sym (counted-none p.overtaken) ∙ ap (λ count. counted p.overtaken count) (sym none);
  untold = ap (λ tells. tells ++ untold_list p.untold) (sym (key_tells_nothing at key answer));
}

key_typed : (L : LineService) (at : Place) (Wish : Terminal → Event → Type 0) (key : Key) (event : Event) (done : Bool) (s t : ProcessState)
    (p q : Terminal) (fate : Fate) (left : List Key) → event ≡ AtTerminal at.node at.number (key_event key) → Does L event done s t → done ≡ true
    → Befall p.terms.has_xon (fate ∷ []) p.port.keys.items (key ∷ []) left → overtaken_in (fate ∷ []) ≡ 0
    → q ≡ record p { port = record p.port { keys = buffer left p.port.keys.capacity } } → Serves L at Wish true s t p q
key_typed L at Wish key event done s t p q fate left is does was goes none after =
    let there = AtTerminal at.node at.number (key_event key) in
    let stepped = subst (λ e. Makes L s (record { event = e; answer = does.answer }) t) is does.stepped in
    record {
      steps = one_step there does.answer;
      made = (t, stepped, refl);
      served = subst (λ (r : Terminal). IsServed at (one_step there does.answer) p r) (sym after)
          (typed_served at key does.answer p fate left (was_done done does.answer does.done_is was) goes none);
      silent = λ other apart. key_is_silent at other key does.answer apart;
      aside = refl;
      same = λ none. cc;
      idle = λ none. cc;
      tried = λ none e wish. cc;
    }

-- the first key is typed
pub key_pressed : (L : LineService) (at : Place) (Wish : Terminal → Event → Type 0) (key : Key) (event : Event) (done : Bool) (s t : ProcessState)
    (p q : Terminal) → event ≡ AtTerminal at.node at.number (key_event key) → Does L event done s t → done ≡ true
    → slice_get p.port.keys.items 0 ≡ Some key → q ≡ without_keys 1 p → Serves L at Wish true s t p q
key_pressed L at Wish key event done s t p q is does was first after =
    let rest = drop 1 p.port.keys.items in
    key_typed L at Wish key event done s t p q (pressed key) rest is does was
    (rest, [], first_and_rest p.port.keys.items key first, refl, (refl, refl)) refl after

-- an XON is typed before the keys that wait
pub key_hastened : (L : LineService) (at : Place) (Wish : Terminal → Event → Type 0) (place : ℕ) (event : Event) (done : Bool) (s t : ProcessState)
    (p q : Terminal) → event ≡ AtTerminal at.node at.number (key_event xon) → Does L event done s t → done ≡ true
    → xon_place p ≡ Some place → q ≡ without_key_at place p → Serves L at Wish true s t p q
key_hastened L at Wish place event done s t p q is does was there after =
    let keys = p.port.keys.items in
    let where_it_is = xon_found p.terms.has_xon (position (is_octet 17) keys) place there in
    let found = first_found (is_octet 17) keys place where_it_is.1 in
    let split = subst (λ key. keys ≡ take place keys ++ key ∷ drop (suc place) keys) (is_xon found.0 found.1) found.3 in
    key_typed L at Wish xon event done s t p q (hastened (take place keys)) (remove keys place) is does was
    (drop (suc place) keys, [], where_it_is.0, split, refl, (refl, refl)) refl after

-- the first key is refused, and waits
abbrev IsKey : Place → Key → Terminal → Event → Type 0
IsKey at key p event = event ≡ AtTerminal at.node at.number (key_event key)

key_refused : (L : LineService) (at : Place) (Wish : Terminal → Event → Type 0) (key : Key) (event : Event) (done : Bool) (s t : ProcessState) (p : Terminal)
    → event ≡ AtTerminal at.node at.number (key_event key) → Does L event done s t → done ≡ false
    → ((e : Event) → Wish p e → e ≡ AtTerminal at.node at.number (key_event key)) → Serves L at Wish false s t p p
key_refused L at Wish key event done s t p is does was wishes =
    let idle = not_done done does.answer does.done_is was in
    let there = AtTerminal at.node at.number (key_event key) in
    let stepped = subst (λ e. Makes L s (record { event = e; answer = does.answer }) t) is does.stepped in
    record {
      steps = one_step there does.answer;
      made = (t, stepped, refl);
      served = served_silent at (one_step there does.answer) p (record {
        shows = key_shows_nothing at key does.answer;
        types = key_is_refused at key does.answer idle;
        tells = key_tells_nothing at key does.answer;
      });
      silent = λ other apart. key_is_silent at other key does.answer apart;
      aside = refl;
      same = λ none. refl;
      idle = λ none. idle_step there does.answer idle;
      tried = λ none e wish. tried_step there e does.answer (wishes e wish);
    }

-- no XON waits, or the first one is refused and waits
no_place : (found : Option ℕ) (place : ℕ) → found ≡ None → found ≡ Some place → ⊥
no_place found place none some = cc

pub xon_rests : (L : LineService) (at : Place) (s : ProcessState) (p : Terminal) → xon_place p ≡ None
    → Serves L at (WishesXon at) false s s p p
xon_rests L at s p none = serves-none L at (WishesXon at) s p (λ event wish. no_place _ wish.0 none wish.1)

pub xon_waits : (L : LineService) (at : Place) (event : Event) (done : Bool) (s t : ProcessState) (p : Terminal)
    → event ≡ AtTerminal at.node at.number (key_event xon) → Does L event done s t → done ≡ false → Serves L at (WishesXon at) false s t p p
xon_waits L at event done s t p is does was = key_refused L at (WishesXon at) xon event done s t p is does was (λ e wish. wish.2)

-- the keys before a recall or a break are dropped
dropped_served : (at : Place) (p : Terminal) (count : ℕ) → count ≤ length p.port.keys.items → begins_urgently (drop count p.port.keys.items) ≡ true
    → IsServed at [] p (record (without_keys count p) { overtaken = counted p.overtaken count })
dropped_served at p count within urgent =
    let keys = p.port.keys.items in
    record {
      terms = refl;
      mode = refl;
      reader = refl;
      phase = refl;
      output = unchanged p.port.mode p.port.output [] refl;
      fates = overtaken (take count keys) ∷ [];
      keys = (drop count keys, sym (take-append-drop count keys), urgent, (refl, refl));
      overtaken_are = ap (λ n. counted p.overtaken n) (omega (arith, length-take-le count keys within));
      untold = refl;
    }

keys_dropped : (L : LineService) (at : Place) (Wish : Terminal → Event → Type 0) (s : ProcessState) (p q : Terminal) → IsOvertaken p q
    → Serves L at Wish true s s p q
keys_dropped L at Wish s p q over = record {
  steps = [];
  made = refl;
  served = subst (λ (r : Terminal). IsServed at [] p r) (sym over.dropped) (dropped_served at p over.count over.within over.urgent);
  silent = λ other apart. silent-none other;
  aside = refl;
  same = λ none. cc;
  idle = λ none. cc;
  tried = λ none e wish. cc;
}

-- the first key is refused, and an XON is typed
pub key_gives_way : (L : LineService) (at : Place) (key : Key) (event : Event) (done over : Bool) (s m t : ProcessState) (p q : Terminal)
    → event ≡ AtTerminal at.node at.number (key_event key) → Does L event done s m → done ≡ false
    → Serves L at (WishesXon at) over m t p q → over ≡ true → Serves L at (WishesKeys at) true s t p q
key_gives_way L at key event done over s m t p q is does was hastens over_is =
    let Any = λ (x : Terminal) (e : Event). IsKey at key x e ⊎ WishesXon at x e in
    let both = serves-then L at (IsKey at key) (WishesXon at) Any false over s m t p p q (λ e wish. wish)
    (key_refused L at (IsKey at key) key event done s m p is does was (λ e wish. wish)) hastens in
    record {
      steps = both.steps;
      made = both.made;
      served = both.served;
      silent = both.silent;
      aside = both.aside;
      same = λ none. cc;
      idle = λ none. cc;
      tried = λ none e wish. cc;
    }

wish_is_first : (at : Place) (key : Key) (p : Terminal) (event : Event) → slice_get p.port.keys.items 0 ≡ Some key
    → urgent_place p.port.keys.items ≡ 0 → WishesKeys at p event → IsKey at key p event ⊎ WishesXon at p event
wish_is_first at key p event first urgent (inl wish) =
    let there : slice_get p.port.keys.items 0 ≡ Some wish.0 = ap (λ n. slice_get p.port.keys.items n) (sym urgent) ∙ wish.1 in
    let is : wish.0 ≡ key = cc in
    inl (wish.2 ∙ ap (λ k. AtTerminal at.node at.number (key_event k)) is)
wish_is_first at key p event first urgent (inr wish) = inr wish

-- the first key is refused, and so is an XON; then others give way to a recall or a break, or all wait
pub keys_wait : (L : LineService) (at : Place) (key : Key) (event : Event) (done hastens over : Bool) (s m t : ProcessState) (p q r : Terminal)
    → event ≡ AtTerminal at.node at.number (key_event key) → Does L event done s m → done ≡ false → slice_get p.port.keys.items 0 ≡ Some key
    → Serves L at (WishesXon at) hastens m t p q → hastens ≡ false
    → OnTrue over (IsOvertaken q r) → OnFalse over (r ≡ q) → OnFalse over (urgent_place q.port.keys.items ≡ 0)
    → Serves L at (WishesKeys at) over s t p r
keys_wait L at key event done hastens true s m t p q r is does was first xons none dropped after urgent =
    let waits = key_refused L at (IsKey at key) key event done s m p is does was (λ e wish. wish) in
    let Any = λ (x : Terminal) (e : Event). IsKey at key x e ⊎ WishesXon at x e in
    let both = serves-then L at (IsKey at key) (WishesXon at) Any false hastens s m t p p q (λ e wish. wish) waits xons in
    let drops = keys_dropped L at (WishesKeys at) t q r dropped in
    record {
      steps = both.steps ++ drops.steps;
      made = steps-append L s t t both.steps drops.steps both.made drops.made;
      served = served_then at both.steps drops.steps p q r both.served drops.served;
      silent = λ other apart. silent-append other both.steps drops.steps (both.silent other apart) (drops.silent other apart);
      aside = aside-append both.steps drops.steps both.aside drops.aside;
      same = λ none. cc;
      idle = λ none. cc;
      tried = λ none e wish. cc;
    }
keys_wait L at key event done hastens false s m t p q r is does was first xons none dropped after urgent =
    let waits = key_refused L at (IsKey at key) key event done s m p is does was (λ e wish. wish) in
    let q_is : q ≡ p = xons.same none in
    let there = subst (λ (x : Terminal). slice_get x.port.keys.items 0 ≡ Some key) (sym q_is) first in
    subst (λ (x : Terminal). Serves L at (WishesKeys at) false s t p x) (sym after)
    (serves-then L at (IsKey at key) (WishesXon at) (WishesKeys at) false false s m t p p q
    (λ e wish. wish_is_first at key q e there urgent wish) waits
    (serves_at L at (WishesXon at) hastens false m t p q none xons))

-- no key waits
no_xon : (keys : List Key) (place : ℕ) → slice_get keys 0 ≡ None → position (is_octet 17) keys ≡ Some place → ⊥
no_xon [] place none some = cc
no_xon (other ∷ keys) place none some = cc

no_key : (keys : List Key) (key : Key) (place : ℕ) → slice_get keys 0 ≡ None → slice_get keys place ≡ Some key → ⊥
no_key [] key zero none some = cc
no_key [] key (suc place) none some = cc
no_key (other ∷ keys) key place none some = cc

no_wish : (at : Place) (p : Terminal) (event : Event) → slice_get p.port.keys.items 0 ≡ None → WishesKeys at p event → ⊥
no_wish at p event none (inl wish) = no_key p.port.keys.items wish.0 (urgent_place p.port.keys.items) none wish.1
no_wish at p event none (inr wish) =
    no_xon p.port.keys.items wish.0 none (xon_found p.terms.has_xon (position (is_octet 17) p.port.keys.items) wish.0 wish.1).1

pub key_rests : (L : LineService) (at : Place) (s : ProcessState) (p : Terminal) → slice_get p.port.keys.items 0 ≡ None
    → Serves L at (WishesKeys at) false s s p p
key_rests L at s p none = serves-none L at (WishesKeys at) s p (λ event wish. no_wish at p event none wish)

-- ---- who is there

pub presence_is_silent : (at other : Place) (presence : Presence) (answer : Result Answer StepFault) → other ≢ at
    → IsSilent other (one_step (AtTerminal at.node at.number (presence_event presence)) answer)
presence_is_silent at other Here answer apart =
    silent_step other (AtTerminal at.node at.number what.Arrives) answer refl refl
    (if_not (test at other answer) (Here ∷ []) (away_either at other answer apart))
presence_is_silent at other Gone answer apart =
    silent_step other (AtTerminal at.node at.number what.Leaves) answer refl refl
    (if_not (test at other answer) (Gone ∷ []) (away_either at other answer apart))

presence_told : (at : Place) (presence : Presence) (answer : Result Answer StepFault) → is_idle answer ≡ false
    → told at (one_step (AtTerminal at.node at.number (presence_event presence)) answer) ≡ presence ∷ []
presence_told at Here answer busy =
    append-nil (told_by at (AtTerminal at.node at.number what.Arrives) answer)
    ∙ if_so (test at at answer) (Here ∷ []) (here_busy at answer busy)
presence_told at Gone answer busy =
    append-nil (told_by at (AtTerminal at.node at.number what.Leaves) answer)
    ∙ if_so (test at at answer) (Gone ∷ []) (here_busy at answer busy)

presence_untold : (at : Place) (presence : Presence) (answer : Result Answer StepFault) → is_idle answer ≡ true
    → told at (one_step (AtTerminal at.node at.number (presence_event presence)) answer) ≡ []
presence_untold at Here answer idle =
    append-nil (told_by at (AtTerminal at.node at.number what.Arrives) answer)
    ∙ if_not (test at at answer) (Here ∷ []) (here_idle at answer idle)
presence_untold at Gone answer idle =
    append-nil (told_by at (AtTerminal at.node at.number what.Leaves) answer)
    ∙ if_not (test at at answer) (Gone ∷ []) (here_idle at answer idle)

presence_shows_nothing : (at : Place) (presence : Presence) (answer : Result Answer StepFault)
    → shown at (one_step (AtTerminal at.node at.number (presence_event presence)) answer) ≡ []
presence_shows_nothing at Here answer = refl
presence_shows_nothing at Gone answer = refl

presence_types_nothing : (at : Place) (presence : Presence) (answer : Result Answer StepFault)
    → typed at (one_step (AtTerminal at.node at.number (presence_event presence)) answer) ≡ []
presence_types_nothing at Here answer = refl
presence_types_nothing at Gone answer = refl

pub none_untold : (untold : Option Presence) (presence : Presence) → untold ≡ None → untold ≡ Some presence → ⊥
none_untold untold presence none some = cc

pub presence_heard : (L : LineService) (at : Place) (Wish : Terminal → Event → Type 0) (presence : Presence) (event : Event) (done : Bool)
    (s t : ProcessState) (p q : Terminal) → event ≡ AtTerminal at.node at.number (presence_event presence)
    → Does L event done s t → done ≡ true → p.untold ≡ Some presence → q ≡ record p { untold = None } → Serves L at Wish true s t p q
presence_heard L at Wish presence event done s t p q is does was waits after =
    let there = AtTerminal at.node at.number (presence_event presence) in
    let stepped = subst (λ e. Makes L s (record { event = e; answer = does.answer }) t) is does.stepped in
    record {
      steps = one_step there does.answer;
      made = (t, stepped, refl);
      served = subst (λ (r : Terminal). IsServed at (one_step there does.answer) p r) (sym after) (record {
        terms = refl;
        mode = refl;
        reader = refl;
        phase = refl;
        output = unchanged p.port.mode p.port.output _ (presence_shows_nothing at presence does.answer);
        fates = [];
        keys = (refl, presence_types_nothing at presence does.answer);
        overtaken_are = sym (counted-none p.overtaken);
        untold = ap untold_list waits
            ∙ ap (λ tells. tells ++ []) (sym (presence_told at presence does.answer (was_done done does.answer does.done_is was)));
      });
      silent = λ other apart. presence_is_silent at other presence does.answer apart;
      aside = refl;
      same = λ none. cc;
      idle = λ none. cc;
      tried = λ none e wish. cc;
    }

pub presence_waits : (L : LineService) (at : Place) (presence : Presence) (event : Event) (done : Bool) (s t : ProcessState) (p : Terminal)
    → event ≡ AtTerminal at.node at.number (presence_event presence) → Does L event done s t → done ≡ false
    → p.untold ≡ Some presence → Serves L at (WishesPresence at) false s t p p
presence_waits L at presence event done s t p is does was waits =
    let idle = not_done done does.answer does.done_is was in
    let there = AtTerminal at.node at.number (presence_event presence) in
    let stepped = subst (λ e. Makes L s (record { event = e; answer = does.answer }) t) is does.stepped in
    record {
      steps = one_step there does.answer;
      made = (t, stepped, refl);
      served = served_silent at (one_step there does.answer) p (record {
        shows = presence_shows_nothing at presence does.answer;
        types = presence_types_nothing at presence does.answer;
        tells = presence_untold at presence does.answer idle;
      });
      silent = λ other apart. presence_is_silent at other presence does.answer apart;
      aside = refl;
      same = λ none. refl;
      idle = λ none. idle_step there does.answer idle;
      tried = λ none e wish. tried_step there e does.answer
          (wish.2 ∙ ap (λ w. AtTerminal at.node at.number (presence_event w)) (let is : wish.0 ≡ presence = cc in is));
    }

-- ---- one text

print_shows : (at : Place) (answer : Result Answer StepFault)
    → shown at (one_step (AtTerminal at.node at.number what.Print) answer) ≡ text_of answer
print_shows at answer =
    append-nil (shown_by at (AtTerminal at.node at.number what.Print) answer)
    ∙ if_so (eqb at.node at.node && eqb at.number at.number) (text_of answer) (here at)

print_is_silent : (at other : Place) (answer : Result Answer StepFault) → other ≢ at
    → IsSilent other (one_step (AtTerminal at.node at.number what.Print) answer)
print_is_silent at other answer apart =
    silent_step other (AtTerminal at.node at.number what.Print) answer
    (if_not (eqb at.node other.node && eqb at.number other.number) (text_of answer) (away at other apart)) refl refl

pub text_shown : (L : LineService) (at : Place) (Wish : Terminal → Event → Type 0) (event : Event) (answer : Result Answer StepFault) (text : List ℕ)
    (s t : ProcessState) (p q : Terminal) → event ≡ AtTerminal at.node at.number what.Print
    → Makes L s (record { event = event; answer = answer }) t → text ≡ text_of answer → q ≡ shown_at text p → Serves L at Wish true s t p q
text_shown L at Wish event answer text s t p q is stepped text_is after =
    let there = AtTerminal at.node at.number what.Print in
    record {
      steps = one_step there answer;
      made = (t, subst (λ e. Makes L s (record { event = e; answer = answer }) t) is stepped, refl);
      served = subst (λ (r : Terminal). IsServed at (one_step there answer) p r) (sym after) (record {
        terms = refl;
        mode = refl;
        reader = refl;
        phase = refl;
        output = ap (λ words. with_shown p.port.mode p.port.output words) (text_is ∙ sym (print_shows at answer));
        fates = [];
        keys = (refl, refl);
        overtaken_are = sym (counted-none p.overtaken);
        untold = refl;
      });
      silent = λ other apart. print_is_silent at other answer apart;
      aside = refl;
      same = λ none. cc;
      idle = λ none. cc;
      tried = λ none e wish. cc;
    }

first_holds : (a b : Bool) → (a && b) ≡ true → a ≡ true
first_holds true b e = refl
first_holds false b e = e

no_length : (xs : List ℕ) → (length xs == 0) ≡ true → xs ≡ []
no_length [] e = refl
no_length (x ∷ xs) e = absurd (grind (arith, nat_tests))

no_text : (answer : Result Answer StepFault) → text_of answer ≡ [] → (at : Place) → IsSilent at (one_step (AtTerminal at.node at.number what.Print) answer)
no_text answer none at = record { shows = print_shows at answer ∙ none; types = refl; tells = refl }

-- an idle answer has no text
idle_text : (answer : Result Answer StepFault) → is_idle answer ≡ true → text_of answer ≡ []
idle_text (Ok answer) idle = no_length answer.text.items (first_holds (length answer.text.items == 0) (is_idle_outcome answer.outcome) idle)
idle_text (Err fault) idle = refl

pub text_waits : (L : LineService) (at : Place) (event : Event) (answer : Result Answer StepFault) (s t : ProcessState) (p : Terminal)
    → event ≡ AtTerminal at.node at.number what.Print → Makes L s (record { event = event; answer = answer }) t
    → is_idle answer ≡ true → Serves L at (WishesText at) false s t p p
text_waits L at event answer s t p is stepped idle =
    let none = idle_text answer idle in
    let there = AtTerminal at.node at.number what.Print in
    record {
      steps = one_step there answer;
      made = (t, subst (λ e. Makes L s (record { event = e; answer = answer }) t) is stepped, refl);
      served = served_silent at (one_step there answer) p (no_text answer none at);
      silent = λ other apart. print_is_silent at other answer apart;
      aside = refl;
      same = λ n. refl;
      idle = λ n. idle_step there answer idle;
      tried = λ n e wish. tried_step there e answer wish.1;
    }

may_not : (b : Bool) → b ≡ false → b ≡ true → ⊥
may_not b one other = cc

pub text_rests : (L : LineService) (at : Place) (s : ProcessState) (p : Terminal) → may_show p ≡ false
    → Serves L at (WishesText at) false s s p p
text_rests L at s p none = serves-none L at (WishesText at) s p (λ event wish. may_not _ none wish.0)

-- ---- the answer that a step lends

pub text_lent : (L : LineService) (at : Place) (Wish : Terminal → Event → Type 0) (event : Event) (r : Lent) (answer : Bor Answer) (text : List ℕ)
    (s t : ProcessState) (p q : Terminal) → event ≡ AtTerminal at.node at.number what.Print → Makes L s (record { event = event; answer = lent r }) t
    → r ≡ Ok answer → text ≡ answer.now.text.items → q ≡ shown_at text p → Serves L at Wish true s t p q
text_lent L at Wish event r answer text s t p q is stepped ok text_is after =
    text_shown L at Wish event (lent r) text s t p q is stepped (text_is ∙ ap (λ a. text_of (lent a)) (sym ok)) after

pub text_idle : (L : LineService) (at : Place) (event : Event) (r : Lent) (answer : Bor Answer) (idle : Bool) (s t : ProcessState) (p : Terminal)
    → event ≡ AtTerminal at.node at.number what.Print → Makes L s (record { event = event; answer = lent r }) t → r ≡ Ok answer
    → idle ≡ is_idle_answer answer.now → idle ≡ true → Serves L at (WishesText at) false s t p p
text_idle L at event r answer idle s t p is stepped ok idle_is was =
    text_waits L at event (lent r) s t p is stepped (ap (λ a. is_idle (lent a)) ok ∙ sym idle_is ∙ was)

pub text_refused : (L : LineService) (at : Place) (event : Event) (r : Lent) (fault : StepFault) (s t : ProcessState) (p : Terminal)
    → event ≡ AtTerminal at.node at.number what.Print → Makes L s (record { event = event; answer = lent r }) t → r ≡ Err fault
    → Serves L at (WishesText at) false s t p p
text_refused L at event r fault s t p is stepped err =
    text_waits L at event (lent r) s t p is stepped (ap (λ a. is_idle (lent a)) err)

-- what is lent has place at a terminal where text may be shown
pub text_fits : (r : Lent) (answer : Bor Answer) (text : List ℕ) → r ≡ Ok answer → IfOk (lent r) IsWithinLimits → text ≡ answer.now.text.items
    → length text ≤ 3200
text_fits r answer text ok limits is =
    let within = subst (λ x. IfOk (lent x) IsWithinLimits) ok limits in
    subst (λ xs. length xs ≤ 3200) (sym is) within.text
