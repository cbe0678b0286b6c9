-- The steps of each record of a PAD are what the events of its course typed on its call.
use Rattle.std.specs.Prelude.{◌≡◌, ℕ, zero, suc, ◌<◌, ◌⊎◌, Bool, true, false, not, ◌&&◌, if◌then◌else◌, List, [], ◌∷◌, ◌++◌, length, slice_get, Option, Some, None, is_some}
use Rattle.std.specs.Option.{option_map_or}
use Rattle.std.proofs.Common.{inl, inr, refl, sym, ap, subst, ◌∙◌, arith}
use Rattle.std.proofs.lemmas.Bool.{eqb-true}
use Rattle.std.proofs.lemmas.List.{map-append}
use Rattle.std.proofs.lemmas.Option.{none-some, same_Some, slice_get_within}
use Rattle.link_timers.specs.declared.role.Role.{Role}
use Rattle.link_timers.specs.declared.timers.TimerId.TheVariants.{Idle}
use Rattle.x3_params.specs.Settings.{recall_character}
use Rattle.pad_editing.specs.Edited.{Step, Effect, after_key as edited_key, key, idle}
use Rattle.call_records.specs.Records.{RecordValue, new_record}
use Rattle.call_records.specs.Book.{Book, slot_at, new_book, standing_book, made_book}
use Rattle.pad_terminal.specs.declared.answers.CallCondition.{CallCondition}
use Rattle.pad_terminal.specs.declared.answers.InputAnswer.{InputAnswer}
use Rattle.pad_terminal.specs.declared.answers.InputAnswer.TheVariants as input
use Rattle.pad_terminal.specs.CommandLine as command_line
use Rattle.pad_terminal.specs.Keys as keys
use Rattle.pad_terminal.specs.Keys.{is_flow_control, is_recall}
use Rattle.pad_terminal.specs.Terminal as terminal
use Rattle.pad_terminal.specs.Terminal.{TerminalState, is_data_transfer, is_present}
use Rattle.pad_ports.specs.PadLine.{condition}
use Rattle.pad_ports.specs.Ports as port
use Rattle.pad_ports.specs.Ports.{PortState, AtLine, has_channel}
use Rattle.x25_pad.specs.Pad as pad
use Rattle.x25_pad.specs.Pad.{PadState}
use Rattle.x25_pad.specs.declared.config.PadConfig.{PadConfig}
use Rattle.node_laws.specs.Pads.Holds.{IsOn}
use Rattle.node_laws.specs.Pads.Happening.{PadEvent, HasKey, HasBreak, HasIdleTime, HasPrinting, HasLeaving, HasArrival, HasFrame, HasExpiry, HasRelink, HasRestart, HasTicks, after_event, meets, is_record}
use Rattle.node_laws.specs.Pads.Courses.{Here, Course, happened}
use Rattle.node_laws.specs.Pads.EventCourses.{IsElsewhere, CourseOf, starts, continues, elsewhere}
use Rattle.node_laws.specs.Pads.Typed.{TypedStep, is_text, typed_at, typed_by, typed_on, steps_in, TypedLaw}
use Rattle.node_laws.proofs.Pads.EventCourses.{all_stand}
use Rattle.node_laws.proofs.Pads.Holding.{Stands, unheld}
use Rattle.node_laws.proofs.Pads.Owners.{stays_on}
use Rattle.node_laws.proofs.Pads.Typing.{on_itself}
use Rattle.node_laws.proofs.Pads.Steps.{input_from, input_at, input_of, is_of, step_on, step_of, HaveSteps, same_steps, event_steps}

-- ---- lists

get_either : {X : Type 0} (xs ys : List X) (i : ℕ) (x : X) → slice_get (xs ++ ys) i ≡ Some x → (slice_get xs i ≡ Some x) ⊎ ((j : ℕ) × (slice_get ys j ≡ Some x))
get_either [] ys i x at = inr (i, at)
get_either (z ∷ xs) ys zero x at = inl at
get_either (z ∷ xs) ys (suc i) x at = get_either xs ys i x at

get_only : {X : Type 0} (y x : X) (j : ℕ) → slice_get (y ∷ []) j ≡ Some x → y ≡ x
get_only y x zero at = same_Some y x at
get_only y x (suc j) at = absurd (none-some x at)

-- ---- what the editor takes is text that is taken

abbrev edits : InputAnswer → Bool
edits (input.Edited block) = true
edits input.Dropped = false
edits (input.Taken asked) = false

-- where the editor has it, it may be dropped
may_drop : (w : Bool) (dropped edited : keys.Input) → edits dropped.answer ≡ false → port.is_taken dropped.answer ≡ false → edits edited.answer ≡ true → port.is_taken edited.answer ≡ true
    → edits (if w then dropped else edited).answer ≡ port.is_taken (if w then dropped else edited).answer
may_drop true dropped edited a b c d = a ∙ sym b
may_drop false dropped edited a b c d = c ∙ sym d

chosen_key : (f r : Bool) (flow recall edited : keys.Input) → edits flow.answer ≡ false → edits recall.answer ≡ false → edits edited.answer ≡ port.is_taken edited.answer
    → edits (if f then flow else if r then recall else edited).answer ≡ ((not f && not r) && port.is_taken (if f then flow else if r then recall else edited).answer)
chosen_key true r flow recall edited a b c = a
chosen_key false true flow recall edited a b c = b
chosen_key false false flow recall edited a b c = c

chosen_mode : (m p text : Bool) (data_key command absent : keys.Input) → edits data_key.answer ≡ (text && port.is_taken data_key.answer) → edits command.answer ≡ false → edits absent.answer ≡ false
    → edits (if m then data_key else if p then command else absent).answer ≡ ((m && text) && port.is_taken (if m then data_key else if p then command else absent).answer)
chosen_mode true p text data_key command absent a b c = a
chosen_mode false true text data_key command absent a b c = b
chosen_mode false false text data_key command absent a b c = c

edited_taken : (e : Effect) (octet : ℕ) (full : Bool) (t : TerminalState) → edits (keys.after_edited e octet full t).answer ≡ port.is_taken (keys.after_edited e octet full t).answer
edited_taken e octet full t = may_drop (is_some e.block && full) _ _ refl refl refl refl

ended_none : (ended : Option (List ℕ)) (call : CallCondition) (t : TerminalState) → edits (keys.after_ended ended call t).answer ≡ false
ended_none None call t = refl
ended_none (Some line) call t = refl

command_none : (octet : ℕ) (call : CallCondition) (t : TerminalState) → edits (keys.after_command_key octet call t).answer ≡ false
command_none octet call t = ended_none (command_line.after_key t.settings.params octet t.line).ended call _

data_text : (octet : ℕ) (full : Bool) (t : TerminalState) → edits (keys.after_data_key octet full t).answer
    ≡ ((not (is_flow_control t.settings.params octet) && not (is_recall (recall_character t.settings.params) octet)) && port.is_taken (keys.after_data_key octet full t).answer)
data_text octet full t =
    chosen_key (is_flow_control t.settings.params octet) (is_recall (recall_character t.settings.params) octet) _ _ (keys.after_edited (edited_key t.settings.params octet t.held) octet full t)
    refl refl (edited_taken (edited_key t.settings.params octet t.held) octet full t)

key_text : (octet : ℕ) (call : CallCondition) (t : TerminalState) → edits (keys.after_octet octet call t).answer ≡ (is_text octet t && port.is_taken (keys.after_octet octet call t).answer)
key_text octet call t =
    chosen_mode (is_data_transfer t.mode) (is_present t.mode) _ (keys.after_data_key octet call.queue_full t) (keys.after_command_key octet call t) _
    (data_text octet call.queue_full t) (command_none octet call t) refl

idle_text : (full : Bool) (t : TerminalState) → edits (keys.after_idle_time full t).answer ≡ (terminal.runs_idle_timer t && port.is_taken (keys.after_idle_time full t).answer)
idle_text full t = by (terminal.runs_idle_timer t) full _ _ _ refl refl refl refl refl
  where
    by : (v w : Bool) (dropped edited none : keys.Input) → edits dropped.answer ≡ false → port.is_taken dropped.answer ≡ false → edits edited.answer ≡ true → port.is_taken edited.answer ≡ true → edits none.answer ≡ false
        → edits (if v then (if w then dropped else edited) else none).answer ≡ (v && port.is_taken (if v then (if w then dropped else edited) else none).answer)
    by true w dropped edited none a b c d e = may_drop w dropped edited a b c d
    by false w dropped edited none a b c d e = e

-- ---- what an event types are the steps that it adds

abbrev one_step : (number : ℕ) → Step → List TypedStep
one_step number step = record { terminal = number; step = step } ∷ []

step_edits : (number : ℕ) (call : Option ℕ) (test : ℕ → Bool) (answer : InputAnswer) (step : Step)
    → steps_in (if meets test call && edits answer then one_step number step else []) ≡ step_on call test answer step
step_edits number None test answer step = refl
step_edits number (Some c) test (input.Edited block) step = by (test c)
  where
    by : (v : Bool) → steps_in (if v && true then one_step number step else []) ≡ (if v then step ∷ [] else [])
    by true = refl
    by false = refl
step_edits number (Some c) test input.Dropped step = by (test c)
  where
    by : (v : Bool) → steps_in (if v && false then one_step number step else []) ≡ []
    by true = refl
    by false = refl
step_edits number (Some c) test (input.Taken asked) step = by (test c)
  where
    by : (v : Bool) → steps_in (if v && false then one_step number step else []) ≡ []
    by true = refl
    by false = refl

step_if : (number : ℕ) (call : Option ℕ) (test : ℕ → Bool) (answer : InputAnswer) (step : Step) (text : Bool) → edits answer ≡ (text && port.is_taken answer)
    → steps_in (if meets test call && (text && port.is_taken answer) then one_step number step else []) ≡ step_on call test answer step
step_if number call test answer step text e =
    ap (λ (v : Bool). steps_in (if meets test call && v then one_step number step else [])) (sym e) ∙ step_edits number call test answer step

module _ (p : PadState) (number : ℕ) (test : ℕ → Bool) (answer : AtLine → InputAnswer) (step : (params : List ℕ) → Step) (text : TerminalState → Bool)
    (is : (a : AtLine) → edits (answer a) ≡ (text a.port.terminal && port.is_taken (answer a))) where
  terminal_steps : steps_in (typed_at number test (λ t. text t && pad.taken_at number (λ a. port.is_taken (answer a)) (pad.begun p)) step p)
      ≡ step_of (input_at number answer (λ a. step a.port.terminal.settings.params) p) test
  terminal_steps = by (slice_get p.ports number)
    where
      by : (o : Option PortState)
          → steps_in (option_map_or
          (λ q. if meets test q.call && (text q.terminal && option_map_or (λ found. port.is_taken (answer (pad.with_line number found (pad.begun p)))) o false)
          then one_step number (step q.terminal.settings.params) else []) o [])
          ≡ step_of (option_map_or (λ q. Some (input_from number answer (λ a. step a.port.terminal.settings.params) (pad.begun p) q)) o None) test
      by None = refl
      by (Some q) = step_if number q.call test (answer (pad.with_line number q (pad.begun p))) (step q.terminal.settings.params) (text q.terminal) (is (pad.with_line number q (pad.begun p)))

-- the end of an idle time that does not run is nothing
idle_steps : (number : ℕ) (p : PadState) (test : ℕ → Bool) (runs : Bool)
    → steps_in (typed_at number test (λ t. runs && (terminal.runs_idle_timer t && (if runs then pad.idle_taken_now number (pad.begun p) else true))) idle p)
    ≡ step_of (if runs then input_at number (λ a. (port.idle_input a).answer) (λ a. idle a.port.terminal.settings.params) p else None) test
idle_steps number p test true =
    terminal_steps p number test (λ a. (port.idle_input a).answer) idle terminal.runs_idle_timer (λ a. idle_text (condition a.port.call a.line).queue_full a.port.terminal)
idle_steps number p test false = by (slice_get p.ports number)
  where
    none : (q : PortState) (v : Bool) → steps_in (if v && false then one_step number (idle q.terminal.settings.params) else []) ≡ []
    none q true = refl
    none q false = refl

    by : (o : Option PortState) → steps_in (option_map_or (λ q. if meets test q.call && false then one_step number (idle q.terminal.settings.params) else []) o []) ≡ []
    by None = refl
    by (Some q) = none q (meets test q.call)

typed_steps : (event : PadEvent) (p : PadState) (test : ℕ → Bool) → steps_in (typed_by event p test) ≡ step_of (input_of event p) test
typed_steps (HasKey number octet) p test =
    terminal_steps p number test (λ a. (port.key_input octet a).answer) (key octet) (is_text octet) (λ a. key_text octet (condition a.port.call a.line) a.port.terminal)
typed_steps (HasIdleTime number) p test = idle_steps number p test (pad.runs_idle_timer number p)
typed_steps (HasExpiry (Idle number)) p test = idle_steps number p test (pad.runs_idle_timer number p)
typed_steps (HasExpiry id) p test = refl
typed_steps (HasBreak number) p test = refl
typed_steps (HasPrinting number) p test = refl
typed_steps (HasLeaving number) p test = refl
typed_steps (HasArrival number) p test = refl
typed_steps (HasFrame octets) p test = refl
typed_steps HasRelink p test = refl
typed_steps HasRestart p test = refl
typed_steps (HasTicks ticks) p test = refl

-- ---- the terminal at which an event types has its call on a channel that meets the test

record IsTypedOn (p : PadState) (test : ℕ → Bool) (t : TypedStep) : Type 0 where
  port : PortState
  port_there : slice_get p.ports t.terminal ≡ Some port
  channel : ℕ
  call : port.call ≡ Some channel
  met : test channel ≡ true

meets_on : (test : ℕ → Bool) (call : Option ℕ) → meets test call ≡ true → (channel : ℕ) × (call ≡ Some channel) × (test channel ≡ true)
meets_on test None e = absurd (cc)
meets_on test (Some channel) e = (channel, refl, e)

both_true : (a b : Bool) → (a && b) ≡ true → a ≡ true
both_true true b e = refl
both_true false b e = absurd (cc)

module _ (p : PadState) (number : ℕ) (test : ℕ → Bool) (is_typed : TerminalState → Bool) (step : (params : List ℕ) → Step) where
  typed_there : (j : ℕ) (t : TypedStep) → slice_get (typed_at number test is_typed step p) j ≡ Some t → IsTypedOn p test t
  typed_there j t at = by (slice_get p.ports number) refl at
    where
      chosen : (q : PortState) → slice_get p.ports number ≡ Some q → (v : Bool) → (meets test q.call && is_typed q.terminal) ≡ v
          → slice_get (if v then one_step number (step q.terminal.settings.params) else []) j ≡ Some t → IsTypedOn p test t
      chosen q there true is e =
          let m = meets_on test q.call (both_true (meets test q.call) (is_typed q.terminal) is) in
          subst (λ (x : TypedStep). IsTypedOn p test x) (get_only _ t j e) (record { port = q; port_there = there; channel = m.0; call = m.1; met = m.2 })
      chosen q there false is e = absurd (none-some t e)

      by : (o : Option PortState) → slice_get p.ports number ≡ o
          → slice_get (option_map_or (λ q. if meets test q.call && is_typed q.terminal then one_step number (step q.terminal.settings.params) else []) o []) j ≡ Some t → IsTypedOn p test t
      by None there e = absurd (none-some t e)
      by (Some q) there e = chosen q there (meets test q.call && is_typed q.terminal) refl e

typed_is_on : (event : PadEvent) (p : PadState) (test : ℕ → Bool) (j : ℕ) (t : TypedStep) → slice_get (typed_by event p test) j ≡ Some t → IsTypedOn p test t
typed_is_on (HasKey number octet) p test j t at = typed_there p number test _ (key octet) j t at
typed_is_on (HasIdleTime number) p test j t at = typed_there p number test _ idle j t at
typed_is_on (HasExpiry (Idle number)) p test j t at = typed_there p number test _ idle j t at
typed_is_on (HasExpiry id) p test j t at = absurd (none-some t at)
typed_is_on (HasBreak number) p test j t at = absurd (none-some t at)
typed_is_on (HasPrinting number) p test j t at = absurd (none-some t at)
typed_is_on (HasLeaving number) p test j t at = absurd (none-some t at)
typed_is_on (HasArrival number) p test j t at = absurd (none-some t at)
typed_is_on (HasFrame octets) p test j t at = absurd (none-some t at)
typed_is_on HasRelink p test j t at = absurd (none-some t at)
typed_is_on HasRestart p test j t at = absurd (none-some t at)
typed_is_on (HasTicks ticks) p test j t at = absurd (none-some t at)

-- ---- every list of events

-- the steps of the records are these, and where a record is present on the channel of a terminal's call, its steps are
-- of this terminal
record Typed (role : Role) (s : Course) (typed : ℕ → List TypedStep) : Type 0 where
  have : HaveSteps (λ n. steps_in (typed n)) role s.book
  owner : (n i : ℕ) (t : TypedStep) → slice_get (typed n) i ≡ Some t → (channel number : ℕ) (q : PortState)
      → (slot_at role channel s.book).present ≡ Some n → IsOn s.pad.ports number channel q → t.terminal ≡ number
  one_terminal : (n i j : ℕ) (t u : TypedStep) → slice_get (typed n) i ≡ Some t → slice_get (typed n) j ≡ Some u → t.terminal ≡ u.terminal

is_record_of : (n : ℕ) (o : Option ℕ) → is_record n o ≡ true → o ≡ Some n
is_record_of n None e = absurd (cc)
is_record_of n (Some m) e = ap (λ (k : ℕ). Some k) (eqb-true m n e)

-- where one more event happens
module _ (role : Role) (c : PadConfig) (events : List PadEvent) (s : Course) (led : CourseOf role c events s) (typed : ℕ → List TypedStep) (h : Typed role s typed) (event : PadEvent) where
  stands : Stands role s
  stands = all_stand role c events s led

  abbrev new : ℕ → List TypedStep
  new n = typed_by event s.pad (is_of n role s.book)

  -- a record with steps is there
  there : (n i : ℕ) (t : TypedStep) → slice_get (typed n ++ new n) i ≡ Some t → n < length s.book.records
  there n i t at = elim (get_either (typed n) (new n) i t at) [
    | inl x ↦ by (slice_get s.book.records n) refl x
    | inr x ↦
        let w = typed_is_on event s.pad (is_of n role s.book) x.0 t x.1 in
        let r = stands.types.book.own w.channel n (is_record_of n (slot_at role w.channel s.book).present w.met) in
        slice_get_within s.book.records n r.0 r.1
  ]
    where
      by : (o : Option RecordValue) → slice_get s.book.records n ≡ o → slice_get (typed n) i ≡ Some t → n < length s.book.records
      by (Some r) e x = slice_get_within s.book.records n r e
      by None e x = absurd (none_typed (typed n) (h.have.none n e) x)
        where
          none_typed : (ts : List TypedStep) → steps_in ts ≡ [] → slice_get ts i ≡ Some t → ⊥
          none_typed [] none y = none-some t y
          none_typed (u ∷ ts) none y = absurd (cc)

  -- the terminal whose input was added has the call
  input_on : (n j : ℕ) (t : TypedStep) → slice_get (new n) j ≡ Some t
      → (channel : ℕ) × ((slot_at role channel s.book).present ≡ Some n) × (q : PortState) × IsOn s.pad.ports t.terminal channel q
  input_on n j t at =
      let w = typed_is_on event s.pad (is_of n role s.book) j t at in (
        w.channel,
        is_record_of n (slot_at role w.channel s.book).present w.met,
        w.port,
        (w.port_there, ap (λ (x : Option ℕ). has_channel x w.channel) w.call ∙ on_itself w.channel),
      )

  -- of the record that is present there the steps are of the terminal with the call
  new_owner : (n j : ℕ) (t : TypedStep) → slice_get (new n) j ≡ Some t → (channel number : ℕ) (q : PortState)
      → (slot_at role channel s.book).present ≡ Some n → IsOn s.pad.ports number channel q → t.terminal ≡ number
  new_owner n j t at channel number q present on =
      let w = input_on n j t at in
      let same : w.0 ≡ channel = stands.types.book.once w.0 channel n w.1 present in
      stands.types.alone t.terminal number channel w.2 q (subst (λ (k : ℕ). IsOn s.pad.ports t.terminal k w.2) same w.3) on

  owner_then : (n i : ℕ) (t : TypedStep) → slice_get (typed n ++ new n) i ≡ Some t → (channel number : ℕ) (q : PortState)
      → (slot_at role channel (happened role (Here event) s).book).present ≡ Some n → IsOn (after_event event s.pad).ports number channel q → t.terminal ≡ number
  owner_then n i t at channel number q present on = elim (stays_on event role s.pad s.book channel n number q present on) [
    | inr new_record ↦ absurd (let less = there n i t at in omega arith)
    | inl was ↦
        elim (get_either (typed n) (new n) i t at) [
          | inl x ↦ h.owner n i t x channel number was.0.0 was.1 was.0.1
          | inr x ↦ new_owner n x.0 t x.1 channel number was.0.0 was.1 was.0.1
        ]
  ]

  one_terminal_then : (n i j : ℕ) (t u : TypedStep) → slice_get (typed n ++ new n) i ≡ Some t → slice_get (typed n ++ new n) j ≡ Some u → t.terminal ≡ u.terminal
  one_terminal_then n i j t u a b = elim (get_either (typed n) (new n) i t a) [
    | inl x ↦ elim (get_either (typed n) (new n) j u b) [
      | inl y ↦ h.one_terminal n i j t u x y
      | inr y ↦ (let w = input_on n y.0 u y.1 in h.owner n i t x w.0 u.terminal w.2 w.1 w.3)
    ]
    | inr x ↦ elim (get_either (typed n) (new n) j u b) [
      | inl y ↦ (let w = input_on n x.0 t x.1 in sym (h.owner n j u y w.0 t.terminal w.2 w.1 w.3))
      | inr y ↦ (let w = input_on n y.0 u y.1 in new_owner n x.0 t x.1 w.0 u.terminal w.2 w.1 w.3)
    ]
  ]

  typed_then : Typed role (happened role (Here event) s) (λ n. typed n ++ new n)
  typed_then = record {
    have =
        same_steps (λ n. steps_in (typed n) ++ step_of (input_of event s.pad) (is_of n role s.book)) (λ n. steps_in (typed n ++ new n))
        (λ n. ap (λ (l : List Step). steps_in (typed n) ++ l) (sym (typed_steps event s.pad (is_of n role s.book))) ∙ sym (map-append (λ (t : TypedStep). t.step) (typed n) (new n)))
        role (happened role (Here event) s).book
        (event_steps (λ n. steps_in (typed n)) role s.book (λ n none channel. unheld role s.pad s.book stands.types n none channel) h.have event s.pad stands.nothing);
    owner = owner_then;
    one_terminal = one_terminal_then;
  }

-- ---- the making, and what differs elsewhere

begins_typed : (role : Role) (dte_node dce_node channels : ℕ) (standing : Bool) → HaveSteps (λ n. []) role (made_book dte_node dce_node channels standing)
begins_typed role dte_node dce_node channels true = record { has = λ n r at own. bare n r at; none = λ n at. refl }
  where
    bare : (n : ℕ) (r : RecordValue) → slice_get (standing_book (new_book dte_node dce_node channels)).records n ≡ Some r → r.steps ≡ []
    bare zero r at = sym (ap (λ (z : RecordValue). z.steps) (same_Some (new_record 0 dte_node None None None) r at))
    bare (suc zero) r at = sym (ap (λ (z : RecordValue). z.steps) (same_Some (new_record 1 dce_node None None (Some 0)) r at))
    bare (suc (suc n)) r at = absurd (none-some r at)
begins_typed role dte_node dce_node channels false = record { has = λ n r at own. absurd (none-some r at); none = λ n at. refl }

have_elsewhere : (steps : ℕ → List Step) (role : Role) (b b' : Book) → IsElsewhere role b b' → HaveSteps steps role b → HaveSteps steps role b'
have_elsewhere steps role b b' w h = record {
  has = λ n now at own.
      let r = w.was n now at own in
      ap (λ (z : RecordValue). z.steps) r.2 ∙ h.has n r.0 r.1 (sym (ap (λ (z : RecordValue). z.node) r.2) ∙ own ∙ w.nodes role);
  none = λ n at. h.none n (w.none_gone n at);
}

all_typed : (role : Role) (c : PadConfig) (events : List PadEvent) (s : Course) → (led : CourseOf role c events s) → Typed role s (λ n. typed_on n role c events s led)
all_typed role c _ _ (starts dte_node dce_node channels differ config) = record {
  have = begins_typed role dte_node dce_node channels c.line.standing;
  owner = λ n i t at channel number q present on. absurd (none-some t at);
  one_terminal = λ n i j t u at other. absurd (none-some t at);
}
all_typed role c _ _ (continues {events = events} {s = s} led event) =
    typed_then role c events s led (λ n. typed_on n role c events s led) (all_typed role c events s led) event
all_typed role c _ _ (elsewhere {events = events} {s = s} led b w) = (let h = all_typed role c events s led in record {
  have = have_elsewhere (λ n. steps_in (typed_on n role c events s led)) role s.book b w h.have;
  owner = λ n i t at channel number q present on. h.owner n i t at channel number q (sym (w.present channel) ∙ present) on;
  one_terminal = h.one_terminal;
})

pub typed_so : TypedLaw
typed_so role c events s led = (let h = all_typed role c events s led in record { steps = h.have.has; one_terminal = h.one_terminal })
