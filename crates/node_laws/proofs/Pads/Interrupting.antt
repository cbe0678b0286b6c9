-- The interrupts that a PAD sends in an event are those that its occasions ask for.
use Rattle.std.specs.Prelude.{◌≡◌, ℕ, Bool, true, false, not, ◌&&◌, if◌then◌else◌, List, [], ◌∷◌, ◌++◌, Option, Some, None, is_some, Result, Ok, Err}
use Rattle.std.proofs.Common.{refl, sym, ap, ◌∙◌, append-nil}
use Rattle.pad_editing.specs.Edited.{Step, key, idle, after_key}
use Rattle.data_transfer.specs.Packets.{Datum}
use Rattle.data_transfer.specs.Traffic.{Taken, interrupt_pending}
use Rattle.data_transfer.specs.Traffic.Taken.{TakenInterrupt, TakenPacket}
use Rattle.packet_channel.specs.Channel.{Channel, Refusal, in_transfer, refused_if}
use Rattle.packet_channel.specs.Channel.Request.{Interrupting, Releasing}
use Rattle.packet_layer.specs.Layer.{request_refusal, refusal_at, channel_given, channel_of}
use Rattle.packet_layer.specs.Interrupting.{may_interrupt_at}
use Rattle.x3_params.specs.Settings.{acts_on_break, recall_character}
use Rattle.x3_params.specs.Table.{profile_numbered}
use Rattle.x3_params.specs.declared.profile.Profile.{Profile}
use Rattle.x3_params.specs.declared.settings.BreakAction.TheVariants as action
use Rattle.x28_commands.specs.Reading.{command_of}
use Rattle.x28_commands.specs.declared.command.Command.{Command}
use Rattle.x28_commands.specs.declared.command.Command.TheVariants as command
use Rattle.x28_commands.specs.declared.fault.CommandFault.{CommandFault}
use Rattle.x29_messages.specs.declared.message.Message.{Message}
use Rattle.pad_terminal.specs.Terminal.{TerminalState, is_present, has_call, is_connected, is_data_transfer, runs_idle_timer}
use Rattle.pad_terminal.specs.CommandLine as command_line
use Rattle.pad_terminal.specs.Commands as commands
use Rattle.pad_terminal.specs.Commands.{effect_of_line, request_of_line}
use Rattle.pad_terminal.specs.Keys as keys
use Rattle.pad_terminal.specs.Breaks as breaks
use Rattle.pad_terminal.specs.Calls as calls
use Rattle.pad_terminal.specs.Messages as messages
use Rattle.pad_terminal.specs.declared.answers.CallCondition.{CallCondition}
use Rattle.pad_terminal.specs.declared.answers.InputAnswer.{InputAnswer}
use Rattle.pad_terminal.specs.declared.answers.InputAnswer.TheVariants as input
use Rattle.pad_terminal.specs.declared.answers.Reply.{Reply}
use Rattle.pad_terminal.specs.declared.answers.Reply.TheVariants as reply
use Rattle.pad_terminal.specs.declared.answers.TerminalRequest.{TerminalRequest}
use Rattle.pad_terminal.specs.declared.answers.TerminalRequest.TheVariants as request
use Rattle.pad_ports.specs.Notes as notes
use Rattle.pad_ports.specs.Notes.{ChannelNote, unless_refused}
use Rattle.pad_ports.specs.PadLine as line
use Rattle.pad_ports.specs.PadLine.{condition}
use Rattle.pad_ports.specs.Ports as port
use Rattle.pad_ports.specs.Ports.{AtLine}
use Rattle.pad_ports.specs.PadLine.{PadLine}
use Rattle.node_laws.specs.Pads.Occasions.{Occasion, HadBreak, HadCommand, indication, asks_interrupt, all_interrupts}
use Rattle.node_laws.specs.Pads.Happening.{by_key, by_line, by_break, by_taking, by_printing, meets, is_pending, asks_for_interrupt}
use Rattle.node_laws.proofs.Pads.QualifiedPackets.{Octets, interrupt_in, all_in, IsKind, IsSaidBy, nothing_noted, either, tells_silent, break_answer_by, one_more, silent_more, placed_says, clears_says, resets_says, edits_say}

-- ---- interrupts

pub interrupts_kind : (test : ℕ → Bool) → IsKind (interrupt_in test)
interrupts_kind test = record {
  told = λ n. refl;
  placed = λ c address. refl;
  accepted = λ c. refl;
  cleared = λ c. refl;
  reset = λ c. refl;
  edited = λ c step. refl;
  block = λ c octets. refl;
}

-- something else is asked for
abbrev IsOther : Option TerminalRequest → Type 0
IsOther (Some request.Interrupt) = ⊥
IsOther _ = Unit {0}

other_says : (f : ChannelNote → Octets) → IsKind f → (o : Option TerminalRequest) → IsOther o → (a : AtLine) → all_in f (port.does_asked o a).line.notes ≡ all_in f a.line.notes
other_says f kind None other a = refl
other_says f kind (Some (request.Call s)) other a = placed_says f kind a.line.notes (channel_given a.line.end.layer a.line.end.layer.phase) s.address
other_says f kind (Some request.Clear) other a = clears_says f kind a.port.call a
other_says f kind (Some request.Interrupt) other a = absurd other
other_says f kind (Some request.Reset) other a = resets_says f kind a.port.call a

abbrev one_interrupt : Octets
one_interrupt = (line.interrupt_octet ∷ []) ∷ []

-- an interrupt goes where the packet layer takes it
interrupt_goes : (test : ℕ → Bool) (o : Option ℕ) (a : AtLine)
    → all_in (interrupt_in test) (port.on_call port.interrupts o a).line.notes ≡ all_in (interrupt_in test) a.line.notes ++ (if meets test o && not (is_pending o a.line) then one_interrupt else [])
interrupt_goes test None a = sym (append-nil (all_in (interrupt_in test) a.line.notes))
interrupt_goes test (Some call) a = by (request_refusal a.line.end.layer call (Interrupting (line.interrupt_octet ∷ []))) (test call) refl
  where
    note : ChannelNote
    note = notes.Interrupted call (line.interrupt_octet ∷ [])

    by : (o : Option Refusal) (v : Bool) → test call ≡ v
        → all_in (interrupt_in test) (a.line.notes ++ unless_refused o note) ≡ all_in (interrupt_in test) a.line.notes ++ (if v && not (is_some o) then one_interrupt else [])
    by None v e = one_more (interrupt_in test) a.line.notes note ∙ ap (λ (l : Octets). all_in (interrupt_in test) a.line.notes ++ l) (ap (λ (w : Bool). if w then one_interrupt else []) e ∙ with_true v)
      where
        with_true : (v : Bool) → (if v then one_interrupt else []) ≡ (if v && true then one_interrupt else [])
        with_true true = refl
        with_true false = refl
    by (Some r) v e = ap (λ (l : List ChannelNote). all_in (interrupt_in test) l) (append-nil a.line.notes) ∙ sym (append-nil (all_in (interrupt_in test) a.line.notes)) ∙ ap (λ (l : Octets). all_in (interrupt_in test) a.line.notes ++ l) (with_false v)
      where
        with_false : (v : Bool) → [] ≡ (if v && false then one_interrupt else [])
        with_false true = refl
        with_false false = refl

-- what the terminal knows is what the packet layer answers
may_is : (o : Option ℕ) (l : PadLine) → (condition o l).may_interrupt ≡ not (is_pending o l)
may_is None l = refl
may_is (Some channel) l = at (channel_of l.end.layer channel)
  where
    by : (t r p : Bool)
        → ((t && not r) && not p) ≡ not (is_some (refused_if (not t) Refusal.NoCall (refused_if r Refusal.IsResetting (refused_if p Refusal.InterruptPending None))))
    by true true p = refl
    by true false true = refl
    by true false false = refl
    by false r p = refl

    at : (o : Option Channel) → may_interrupt_at o ≡ not (is_some (refusal_at l.end.layer.role l.end.layer.flow (Interrupting (line.interrupt_octet ∷ [])) o))
    at None = refl
    at (Some ch) = by (in_transfer ch.state) ch.resetting (interrupt_pending ch.traffic)

-- it is asked for where the packet layer takes it
command_goes : (test : ℕ → Bool) (x : AtLine) (connected may : Bool) → may ≡ not (is_pending x.port.call x.line) → x.line.notes ≡ []
    → all_in (interrupt_in test) (port.does_asked (if connected && may then Some request.Interrupt else None) x).line.notes
    ≡ all_interrupts (if meets test x.port.call then (if connected && not (is_pending x.port.call x.line) then HadCommand ∷ [] else []) else [])
command_goes test x connected may is nothing = by connected may is
  where
    none : all_in (interrupt_in test) x.line.notes ≡ []
    none = nothing_noted (interrupt_in test) x.line.notes nothing

    unless_met : (v : Bool) → [] ≡ all_interrupts (if v then [] else [])
    unless_met true = refl
    unless_met false = refl

    where_met : (v z : Bool) → (if v && not z then one_interrupt else []) ≡ all_interrupts (if v then (if not z then HadCommand ∷ [] else []) else [])
    where_met true true = refl
    where_met true false = refl
    where_met false z = refl

    by : (k m : Bool) → m ≡ not (is_pending x.port.call x.line)
        → all_in (interrupt_in test) (port.does_asked (if k && m then Some request.Interrupt else None) x).line.notes
        ≡ all_interrupts (if meets test x.port.call then (if k && not (is_pending x.port.call x.line) then HadCommand ∷ [] else []) else [])
    by false m is = none ∙ unless_met (meets test x.port.call)
    by true false is =
        none ∙ unless_met (meets test x.port.call) ∙ ap (λ (v : Bool). all_interrupts (if meets test x.port.call then (if v then HadCommand ∷ [] else []) else [])) is
    by true true is =
        interrupt_goes test x.port.call x ∙ ap (λ (l : Octets). l ++ (if meets test x.port.call && not (is_pending x.port.call x.line) then one_interrupt else [])) none
        ∙ where_met (meets test x.port.call) (is_pending x.port.call x.line)

-- ---- a command line

profile_other : (t : TerminalState) (found : Option Profile) → IsOther (commands.after_profile found t).outcome.request
profile_other t None = tt
profile_other t (Some p) = tt

reset_other : (may : Bool) → IsOther (commands.asked may request.Reset).request
reset_other true = tt
reset_other false = tt

-- of a command that is no INT
abbrev IsOtherCommand : Command → Type 0
IsOtherCommand command.Interrupt = ⊥
IsOtherCommand _ = Unit {0}

effect_other : (c : Command) → IsOtherCommand c → (call : CallCondition) (t : TerminalState) → IsOther (commands.effect_of c call t).outcome.request
effect_other command.Empty other call t = tt
effect_other command.Status other call t = tt
effect_other command.Clear other call t = either (λ (e : commands.CommandEffect). IsOther e.outcome.request) (has_call t.mode) _ _ tt tt
effect_other command.Interrupt other call t = absurd other
effect_other command.Reset other call t = reset_other (commands.may_reset call t)
effect_other (command.Profile n) other call t = profile_other t (profile_numbered n)
effect_other (command.Read numbers) other call t = tt
effect_other (command.Set pairs) other call t = tt
effect_other (command.SetAndRead pairs) other call t = tt
effect_other (command.Select s) other call t = either (λ (e : commands.CommandEffect). IsOther e.outcome.request) (has_call t.mode) _ _ tt tt

asked_request : (may : Bool) → (commands.asked may request.Interrupt).request ≡ (if may then Some request.Interrupt else None)
asked_request true = refl
asked_request false = refl

line_goes : (test : ℕ → Bool) (line : List ℕ) (t : TerminalState) (x : AtLine) → x.line.notes ≡ []
    → all_in (interrupt_in test) (port.does_asked (request_of_line line (condition x.port.call x.line) t) x).line.notes
    ≡ all_interrupts (if meets test x.port.call then by_line (Some line) (is_pending x.port.call x.line) t else [])
unfolding request_of_line
line_goes test line t x nothing = by (command_of line)
  where
    unasked_by : (c : Command) → IsOtherCommand c → (v : Bool)
        → all_in (interrupt_in test) (port.does_asked (commands.effect_of c (condition x.port.call x.line) t).outcome.request x).line.notes ≡ all_interrupts (if v then [] else [])
    unasked_by c other v =
        other_says (interrupt_in test) (interrupts_kind test) (commands.effect_of c (condition x.port.call x.line) t).outcome.request (effect_other c other (condition x.port.call x.line) t) x
        ∙ nothing_noted (interrupt_in test) x.line.notes nothing ∙ none v
      where
        none : (v : Bool) → [] ≡ all_interrupts (if v then [] else [])
        none true = refl
        none false = refl

    by : (r : Result Command CommandFault) → all_in (interrupt_in test) (port.does_asked (effect_of_line r (condition x.port.call x.line) t).outcome.request x).line.notes
        ≡ all_interrupts (if meets test x.port.call then (if asks_for_interrupt r && is_connected t.mode && not (is_pending x.port.call x.line) then HadCommand ∷ [] else []) else [])
    by (Ok command.Interrupt) =
        ap (λ (o : Option TerminalRequest). all_in (interrupt_in test) (port.does_asked o x).line.notes)
        (asked_request (commands.may_interrupt (condition x.port.call x.line) t))
        ∙ command_goes test x (is_connected t.mode) (condition x.port.call x.line).may_interrupt (may_is x.port.call x.line) nothing
    by (Ok command.Empty) = unasked_by command.Empty tt (meets test x.port.call)
    by (Ok command.Status) = unasked_by command.Status tt (meets test x.port.call)
    by (Ok command.Clear) = unasked_by command.Clear tt (meets test x.port.call)
    by (Ok command.Reset) = unasked_by command.Reset tt (meets test x.port.call)
    by (Ok (command.Profile n)) = unasked_by (command.Profile n) tt (meets test x.port.call)
    by (Ok (command.Read numbers)) = unasked_by (command.Read numbers) tt (meets test x.port.call)
    by (Ok (command.Set pairs)) = unasked_by (command.Set pairs) tt (meets test x.port.call)
    by (Ok (command.SetAndRead pairs)) = unasked_by (command.SetAndRead pairs) tt (meets test x.port.call)
    by (Ok (command.Select s)) = unasked_by (command.Select s) tt (meets test x.port.call)
    by (Err fault) = unasked_by command.Empty tt (meets test x.port.call)

-- ---- keys

abbrev IsOtherAnswer : InputAnswer → Type 0
IsOtherAnswer (input.Taken o) = IsOther o
IsOtherAnswer _ = Unit {0}

handles_other : (f : ChannelNote → Octets) → IsKind f → (answer : InputAnswer) → IsOtherAnswer answer → (step : Step) (a : AtLine) → all_in f (port.handles answer step a).line.notes ≡ all_in f a.line.notes
handles_other f kind input.Dropped other step a = refl
handles_other f kind (input.Edited block) other step a = edits_say f kind step block a.port.call a
handles_other f kind (input.Taken asked) other step a = other_says f kind asked other a

data_other : (octet : ℕ) (full : Bool) (t : TerminalState) → IsOtherAnswer (keys.after_data_key octet full t).answer
data_other octet full t =
    let P : keys.Input → Type 0 = λ i. IsOtherAnswer i.answer in
    either P (keys.is_flow_control t.settings.params octet) _ _ tt
    (either P (keys.is_recall (recall_character t.settings.params) octet) _ _ tt (either P (is_some (after_key t.settings.params octet t.held).block && full) _ _ tt tt))

abbrev with_input : AtLine → keys.Input → AtLine
with_input a i = record a { port = record a.port { terminal = i.terminal; idle_left = None } }

abbrev condition_of : AtLine → CallCondition
condition_of a = condition a.port.call a.line

unmet : (v : Bool) → [] ≡ all_interrupts (if v then [] else [])
unmet true = refl
unmet false = refl

ended_interrupts : (test : ℕ → Bool) (octet : ℕ) (a : AtLine) → a.line.notes ≡ [] → (o : Option (List ℕ)) (u : TerminalState) → u.mode ≡ a.port.terminal.mode
    → all_in (interrupt_in test) (port.handles (keys.after_ended o (condition_of a) u).answer (key octet a.port.terminal.settings.params) (with_input a (keys.after_ended o (condition_of a) u))).line.notes
    ≡ all_interrupts (if meets test a.port.call then by_line o (is_pending a.port.call a.line) a.port.terminal else [])
ended_interrupts test octet a nothing None u same = nothing_noted (interrupt_in test) a.line.notes nothing ∙ unmet (meets test a.port.call)
ended_interrupts test octet a nothing (Some line) u same =
    line_goes test line u (with_input a (keys.after_ended (Some line) (condition_of a) u)) nothing
    ∙ ap (λ m. all_interrupts (if meets test a.port.call then (if asks_for_interrupt (command_of line) && is_connected m && not (is_pending a.port.call a.line) then HadCommand ∷ [] else []) else [])) same

pub key_interrupts : (test : ℕ → Bool) (octet : ℕ) (a : AtLine) → IsSaidBy (interrupt_in test) all_interrupts test (port.after_key octet) (by_key octet) a
key_interrupts test octet a nothing = by (is_data_transfer a.port.terminal.mode) (is_present a.port.terminal.mode)
  where
    by : (v present : Bool)
        → (let i : keys.Input = if v then keys.after_data_key octet (condition_of a).queue_full a.port.terminal
        else if present then keys.after_command_key octet (condition_of a) a.port.terminal else record { terminal = a.port.terminal; answer = input.Dropped } in
        all_in (interrupt_in test) (port.handles i.answer (key octet a.port.terminal.settings.params) (with_input a i)).line.notes
        ≡ all_interrupts (if meets test a.port.call then
        by_line (if v then None else if present then (command_line.after_key a.port.terminal.settings.params octet a.port.terminal.line).ended else None) (is_pending a.port.call a.line) a.port.terminal else []))
    by true present =
        handles_other (interrupt_in test) (interrupts_kind test) (keys.after_data_key octet (condition_of a).queue_full a.port.terminal).answer (data_other octet (condition_of a).queue_full a.port.terminal)
        (key octet a.port.terminal.settings.params) (with_input a (keys.after_data_key octet (condition_of a).queue_full a.port.terminal))
        ∙ nothing_noted (interrupt_in test) a.line.notes nothing ∙ unmet (meets test a.port.call)
    by false false = nothing_noted (interrupt_in test) a.line.notes nothing ∙ unmet (meets test a.port.call)
    by false true =
        let k = command_line.after_key a.port.terminal.settings.params octet a.port.terminal.line in
        ended_interrupts test octet a nothing k.ended (keys.with_line k (command_line.is_echoed a.port.terminal.settings.params a.port.terminal.line) a.port.terminal) refl

idle_other : (full : Bool) (t : TerminalState) → IsOtherAnswer (keys.after_idle_time full t).answer
idle_other full t =
    let P : keys.Input → Type 0 = λ i. IsOtherAnswer i.answer in
    either P (runs_idle_timer t) _ _ (either P full _ _ tt tt) tt

pub idle_interrupts : (f : ChannelNote → Octets) → IsKind f → (a : AtLine) → all_in f (port.after_idle a).line.notes ≡ all_in f a.line.notes
idle_interrupts f kind a =
    handles_other f kind (port.idle_input a).answer (idle_other (condition a.port.call a.line).queue_full a.port.terminal) (idle a.port.terminal.settings.params)
    (record a { port = record a.port { terminal = (port.idle_input a).terminal; idle_left = None } })

-- ---- leaving

pub leaving_says : (f : ChannelNote → Octets) → IsKind f → (a : AtLine) → all_in f (port.after_leaving a).line.notes ≡ all_in f a.line.notes
leaving_says f kind a = other_says f kind (Some request.Clear) tt a

-- ---- a break

abbrev of_break : (v asks : Bool) → Octets
of_break v asks = if v then (if asks then one_interrupt else []) ++ [] else []

unasked_for : (v : Bool) → [] ≡ of_break v false
unasked_for true = refl
unasked_for false = refl

where_taken : (v z : Bool) → (if v && not z then one_interrupt else []) ≡ of_break v (not z)
where_taken true true = refl
where_taken true false = refl
where_taken false z = refl

break_occasion : (v : Bool) (params : List ℕ) (pending : Bool) → of_break v (asks_interrupt params pending) ≡ all_interrupts (if v then HadBreak params pending ∷ [] else [])
break_occasion true params pending = refl
break_occasion false params pending = refl

-- with a reset, with an interrupt, or with neither
request_goes : (test : ℕ → Bool) (x : AtLine) → x.line.notes ≡ [] → (r i reset_pending may : Bool) → may ≡ not (is_pending x.port.call x.line)
    → all_in (interrupt_in test) (port.does_asked (if r then (if reset_pending then None else Some request.Reset)
    else if i && may then Some request.Interrupt else None) x).line.notes
    ≡ of_break (meets test x.port.call) (i && not r && not (is_pending x.port.call x.line))
request_goes test x nothing true true true may is = nothing_noted (interrupt_in test) x.line.notes nothing ∙ unasked_for (meets test x.port.call)
request_goes test x nothing true false true may is = nothing_noted (interrupt_in test) x.line.notes nothing ∙ unasked_for (meets test x.port.call)
request_goes test x nothing true true false may is =
    resets_says (interrupt_in test) (interrupts_kind test) x.port.call x ∙ nothing_noted (interrupt_in test) x.line.notes nothing ∙ unasked_for (meets test x.port.call)
request_goes test x nothing true false false may is =
    resets_says (interrupt_in test) (interrupts_kind test) x.port.call x ∙ nothing_noted (interrupt_in test) x.line.notes nothing ∙ unasked_for (meets test x.port.call)
request_goes test x nothing false false pending may is = nothing_noted (interrupt_in test) x.line.notes nothing ∙ unasked_for (meets test x.port.call)
request_goes test x nothing false true pending false is =
    nothing_noted (interrupt_in test) x.line.notes nothing ∙ unasked_for (meets test x.port.call) ∙ ap (of_break (meets test x.port.call)) is
request_goes test x nothing false true pending true is =
    interrupt_goes test x.port.call x
    ∙ ap (λ (l : Octets). l ++ (if meets test x.port.call && not (is_pending x.port.call x.line) then one_interrupt else [])) (nothing_noted (interrupt_in test) x.line.notes nothing)
    ∙ where_taken (meets test x.port.call) (is_pending x.port.call x.line)

-- by parameter 7
break_request : (test : ℕ → Bool) (x : AtLine) (params : List ℕ) → x.line.notes ≡ []
    → all_in (interrupt_in test) (port.does_asked (breaks.request_of params (condition_of x)) x).line.notes
    ≡ all_interrupts (if meets test x.port.call then HadBreak params (is_pending x.port.call x.line) ∷ [] else [])
break_request test x params nothing =
    request_goes test x nothing (acts_on_break params action.Reset) (acts_on_break params action.Interrupt) (condition_of x).reset_pending (condition_of x).may_interrupt (may_is x.port.call x.line)
    ∙ break_occasion (meets test x.port.call) params (is_pending x.port.call x.line)

break_goes : (test : ℕ → Bool) (present connected asks full : Bool) (r : Option TerminalRequest) (m : Message) (os : List Occasion) (x : AtLine) → x.line.notes ≡ []
    → all_in (interrupt_in test) (port.does_asked r x).line.notes ≡ all_interrupts (if meets test x.port.call then os else [])
    → all_in (interrupt_in test) (port.answers_break (break_answer_by present connected asks full r m) x).line.notes
    ≡ all_interrupts (if meets test x.port.call then (if connected && port.is_break_taken (break_answer_by present connected asks full r m) then os else []) else [])
break_goes test present connected asks full r m os x nothing goes = by present connected asks full
  where
    none : (v : Bool) → all_in (interrupt_in test) x.line.notes ≡ all_interrupts (if v then [] else [])
    none true = nothing_noted (interrupt_in test) x.line.notes nothing
    none false = nothing_noted (interrupt_in test) x.line.notes nothing

    by : (p k a f : Bool) → all_in (interrupt_in test) (port.answers_break (break_answer_by p k a f r m) x).line.notes
        ≡ all_interrupts (if meets test x.port.call then (if k && port.is_break_taken (break_answer_by p k a f r m) then os else []) else [])
    by false false a f = none (meets test x.port.call)
    by false true a f = none (meets test x.port.call)
    by true false a f = none (meets test x.port.call)
    by true true true true = none (meets test x.port.call)
    by true true false f = goes
    by true true true false = tells_silent (interrupt_in test) (λ c octets. refl) (Some m) (port.does_asked r x) ∙ goes

pub break_interrupts : (test : ℕ → Bool) (a : AtLine) → IsSaidBy (interrupt_in test) all_interrupts test port.after_break by_break a
break_interrupts test a nothing =
    let t : TerminalState = a.port.terminal in
    let call : CallCondition = condition a.port.call a.line in
    let x : AtLine = record a { port = port.with_terminal (breaks.after_break call t) a.port } in
    break_goes test (is_present t.mode) (is_connected t.mode) (breaks.indicates t.settings.params) call.queue_full (breaks.request_of t.settings.params call) (indication t.settings.params)
    (HadBreak t.settings.params (is_pending a.port.call a.line) ∷ []) x nothing (break_request test x t.settings.params nothing)

-- ---- printing

pub print_interrupts : (test : ℕ → Bool) (a : AtLine) → IsSaidBy (interrupt_in test) all_interrupts test port.after_print by_printing a
print_interrupts test a nothing = by a.port.call (port.taken_of a)
  where
    none : all_in (interrupt_in test) a.line.notes ≡ []
    none = nothing_noted (interrupt_in test) a.line.notes nothing

    taking_none : (v : Bool) (x : Option Taken) → [] ≡ all_interrupts (if v then by_taking x a.port.terminal else [])
    taking_none false x = refl
    taking_none true None = refl
    taking_none true (Some (TakenInterrupt octets)) = refl
    taking_none true (Some (TakenPacket d)) = either (λ (os : List Occasion). [] ≡ all_interrupts os) d.qualified _ _ refl refl

    replied : (r : Reply) (x : AtLine) → all_in (interrupt_in test) (port.replies r x).line.notes ≡ all_in (interrupt_in test) x.line.notes
    replied reply.Nothing x = refl
    replied (reply.Message m) x = tells_silent (interrupt_in test) (λ c octets. refl) (Some m) x
    replied reply.Clear x = clears_says (interrupt_in test) (interrupts_kind test) x.port.call x

    datum_is : (d : Datum) (q : Bool) (x : AtLine) → all_in (interrupt_in test) (port.after_datum d q x).line.notes ≡ all_in (interrupt_in test) x.line.notes
    datum_is d true x = (let answered = messages.after_octets d.octets x.port.terminal in replied answered.reply (record x { port = port.with_terminal answered.terminal x.port }))
    datum_is d false x = refl

    taking_is : (taken : Taken) (call : ℕ) (x : AtLine) → all_in (interrupt_in test) (port.after_taking taken call (port.takes taken call x)).line.notes ≡ all_in (interrupt_in test) x.line.notes
    taking_is (TakenInterrupt octets) call x = silent_more (interrupt_in test) x.line.notes (notes.Took call (TakenInterrupt octets)) refl
    taking_is (TakenPacket d) call x =
        datum_is d d.qualified (port.releases (Releasing 1) call (port.takes (TakenPacket d) call x)) ∙ silent_more (interrupt_in test) x.line.notes (notes.Took call (TakenPacket d)) refl

    by : (o : Option ℕ) (x : Option Taken)
        → all_in (interrupt_in test) (port.after_taken x (port.with_taken x (record { port = record (port.with_terminal (calls.without_text a.port.terminal) a.port) { call = o }; line = a.line }))).line.notes
        ≡ all_interrupts (if meets test o then by_taking x a.port.terminal else [])
    by o None = none ∙ taking_none (meets test o) None
    by None (Some taken) = none
    by (Some call) (Some taken) =
        taking_is taken call (record { port = record (port.with_terminal (calls.without_text a.port.terminal) a.port) { call = Some call }; line = a.line }) ∙ none
        ∙ taking_none (meets test (Some call)) (Some taken)
