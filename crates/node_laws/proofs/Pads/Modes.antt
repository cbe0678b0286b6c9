-- What becomes of a terminal's call in its mode, and of the text that it holds.
use Rattle.std.specs.Prelude.{◌≡◌, ℕ, Bool, true, false, not, ◌&&◌, if◌then◌else◌, List, [], ◌∷◌, Option, Some, None, is_some, Result, Ok, Err}
use Rattle.std.proofs.Common.{refl, sym, ◌∙◌, true≢false}
use Rattle.pad_editing.specs.Edited.{Step, key, idle, effect_of, after_key}
use Rattle.x3_params.specs.Settings.{recall_character, has_device_control, acts_on_break}
use Rattle.x3_params.specs.Table.{profile_numbered}
use Rattle.x3_params.specs.declared.profile.Profile.{Profile}
use Rattle.x3_params.specs.declared.settings.BreakAction.TheVariants as action
use Rattle.x28_commands.specs.Reading.{command_of}
use Rattle.x28_commands.specs.declared.command.Command.{Command}
use Rattle.x28_commands.specs.declared.command.Command.TheVariants as command
use Rattle.x28_commands.specs.declared.command.Selection.{Selection}
use Rattle.x28_commands.specs.declared.fault.CommandFault.{CommandFault}
use Rattle.x28_commands.specs.declared.signal.Signal.{Signal}
use Rattle.x28_commands.specs.declared.signal.Signal.TheVariants as signal
use Rattle.x29_messages.specs.Reading.{message_of}
use Rattle.x29_messages.specs.declared.message.Message.{Message}
use Rattle.x29_messages.specs.declared.message.Message.TheVariants as message
use Rattle.x29_messages.specs.declared.fault.MessageFault.{MessageFault}
use Rattle.pad_terminal.specs.Terminal.{TerminalState, is_present, arrived, has_call, is_connected, is_data_transfer, runs_idle_timer}
use Rattle.pad_terminal.specs.Calls as calls
use Rattle.pad_terminal.specs.CommandLine as command_line
use Rattle.pad_terminal.specs.Commands as commands
use Rattle.pad_terminal.specs.Commands.{effect_of_line, request_of_line, after_line, completed, mode_after, is_error}
use Rattle.pad_terminal.specs.Keys as keys
use Rattle.pad_terminal.specs.Breaks as breaks
use Rattle.pad_terminal.specs.Messages as messages
use Rattle.pad_terminal.specs.declared.answers.CallCondition.{CallCondition}
use Rattle.pad_terminal.specs.declared.answers.InputAnswer.{InputAnswer}
use Rattle.pad_terminal.specs.declared.answers.InputAnswer.TheVariants as input
use Rattle.pad_terminal.specs.declared.answers.Reply.{Reply}
use Rattle.pad_terminal.specs.declared.answers.Reply.TheVariants as reply
use Rattle.pad_terminal.specs.declared.answers.TerminalRequest.{TerminalRequest}
use Rattle.pad_terminal.specs.declared.answers.TerminalRequest.TheVariants as request
use Rattle.pad_terminal.specs.declared.mode.Mode.{Mode}
use Rattle.pad_terminal.specs.declared.mode.Mode.TheVariants.{Absent, Free, CallSetUp, DataTransfer, CommandState}
use Rattle.node_laws.specs.Pads.Sending.{IsOfPad}

-- of one of two things, which is known
by_test : {A : Type 0} (P : A → Type 0) (v : Bool) (x y : A) → (v ≡ true → P x) → (v ≡ false → P y) → P (if v then x else y)
by_test P true x y f g = f refl
by_test P false x y f g = g refl

-- ---- held text and the call stay

abbrev pub Same : TerminalState → TerminalState → Type 0
Same t u = (u.held ≡ t.held) × (has_call u.mode ≡ has_call t.mode)

pub same_twice : (t u w : TerminalState) → Same t u → Same u w → Same t w
same_twice t u w f g = (g.0 ∙ f.0, g.1 ∙ f.1)

-- what is asked goes with the terminal
abbrev pub Follows : Option TerminalRequest → TerminalState → TerminalState → Type 0
Follows None t u = Same t u
Follows (Some (request.Call s)) t u = (has_call t.mode ≡ false) × (u.held ≡ t.held) × (has_call u.mode ≡ true)
Follows (Some request.Clear) t u = (u.held ≡ []) × (has_call u.mode ≡ false)
Follows (Some request.Interrupt) t u = Same t u
Follows (Some request.Reset) t u = Same t u

-- ---- the call is over

freed_is : (m : Mode) (t : TerminalState) → ((calls.freed m t).held ≡ t.held) × (has_call (calls.freed m t).mode ≡ false)
freed_is DataTransfer t = (refl, refl)
freed_is Absent t = (refl, refl)
freed_is Free t = (refl, refl)
freed_is CallSetUp t = (refl, refl)
freed_is CommandState t = (refl, refl)

pub ended_is : (s : Signal) (t : TerminalState) → ((calls.ended s t).held ≡ []) × (has_call (calls.ended s t).mode ≡ false)
ended_is s t = freed_is t.mode (calls.signalled s (calls.without_call t))

-- ---- commands

mode_stays : (answer : Option Signal) (m : Mode) → has_call (mode_after answer m) ≡ has_call m
mode_stays answer Absent = refl
mode_stays answer Free = refl
mode_stays answer CallSetUp = refl
mode_stays answer DataTransfer = refl
mode_stays answer CommandState = by_test (λ (m : Mode). has_call m ≡ true) (is_error answer) CommandState DataTransfer (λ h. refl) (λ h. refl)

completed_same : (answer : Option Signal) (t : TerminalState) → Same t (completed answer t)
completed_same None t = (refl, mode_stays None t.mode)
completed_same (Some s) t = (refl, mode_stays (Some s) t.mode)

abbrev EffectFollows : TerminalState → commands.CommandEffect → Type 0
EffectFollows t e = Follows e.outcome.request t (completed e.outcome.answer e.terminal)

-- nothing asked, with other settings
none_asked : (t : TerminalState) (answer : Option Signal) (u : TerminalState) → Same t u → EffectFollows t (record { terminal = u; outcome = record { answer = answer; request = None } })
none_asked t answer u h = same_twice t u (completed answer u) h (completed_same answer u)

asked_follows : (t : TerminalState) (r : TerminalRequest) → Follows (Some r) t (completed (Some signal.Acknowledgement) t) → (may : Bool) → EffectFollows t (record { terminal = t; outcome = commands.asked may r })
asked_follows t r h true = h
asked_follows t r h false = none_asked t (Some signal.Error) t (refl, refl)

profile_follows : (t : TerminalState) (found : Option Profile) → EffectFollows t (commands.after_profile found t)
profile_follows t None = none_asked t (Some signal.Error) t (refl, refl)
profile_follows t (Some p) = none_asked t (Some signal.Acknowledgement) (commands.after_profile (Some p) t).terminal (refl, refl)

clear_follows : (t : TerminalState) → EffectFollows t (commands.after_clear t)
clear_follows t =
    by_test (λ e. EffectFollows t e) (has_call t.mode) _ _
    (λ h. (let e = ended_is signal.ClearConfirmation t in let c = completed_same None (calls.ended signal.ClearConfirmation t) in (c.0 ∙ e.0, c.1 ∙ e.1)))
    (λ h. none_asked t (Some signal.Error) t (refl, refl))

selection_follows : (t : TerminalState) (s : Selection) → EffectFollows t (commands.after_selection s t)
selection_follows t s =
    by_test (λ e. EffectFollows t e) (has_call t.mode) _ _ (λ h. none_asked t (Some signal.Error) t (refl, refl))
    (λ h. (let c = completed_same None (record t { mode = CallSetUp }) in (h, c.0, c.1)))

effect_follows : (c : Command) (call : CallCondition) (t : TerminalState) → EffectFollows t (commands.effect_of c call t)
effect_follows command.Empty call t = none_asked t None t (refl, refl)
effect_follows command.Status call t = none_asked t (commands.effect_of command.Status call t).outcome.answer t (refl, refl)
effect_follows command.Clear call t = clear_follows t
effect_follows command.Interrupt call t = asked_follows t request.Interrupt (completed_same (Some signal.Acknowledgement) t) (commands.may_interrupt call t)
effect_follows command.Reset call t = asked_follows t request.Reset (completed_same (Some signal.Acknowledgement) t) (commands.may_reset call t)
effect_follows (command.Profile n) call t = profile_follows t (profile_numbered n)
effect_follows (command.Read numbers) call t = none_asked t (commands.effect_of (command.Read numbers) call t).outcome.answer t (refl, refl)
effect_follows (command.Set pairs) call t = none_asked t (commands.effect_of (command.Set pairs) call t).outcome.answer (commands.effect_of (command.Set pairs) call t).terminal (refl, refl)
effect_follows (command.SetAndRead pairs) call t = none_asked t (commands.effect_of (command.SetAndRead pairs) call t).outcome.answer (commands.effect_of (command.SetAndRead pairs) call t).terminal (refl, refl)
effect_follows (command.Select s) call t = selection_follows t s

line_follows : (line : List ℕ) (call : CallCondition) (t : TerminalState) → Follows (request_of_line line call t) t (after_line line call t)
unfolding request_of_line after_line
line_follows line call t = by (command_of line)
  where
    by : (r : Result Command CommandFault) → EffectFollows t (effect_of_line r call t)
    by (Ok c) = effect_follows c call t
    by (Err fault) = none_asked t (Some signal.Error) t (refl, refl)

follows_from : (o : Option TerminalRequest) (t t' u : TerminalState) → Same t t' → Follows o t' u → Follows o t u
follows_from None t t' u s h = same_twice t t' u s h
follows_from (Some (request.Call x)) t t' u s h = (sym s.1 ∙ h.0, h.1 ∙ s.0, h.2)
follows_from (Some request.Clear) t t' u s h = h
follows_from (Some request.Interrupt) t t' u s h = same_twice t t' u s h
follows_from (Some request.Reset) t t' u s h = same_twice t t' u s h

-- ---- keys and idle times

-- a step of editing is taken in data transfer alone
abbrev pub InputFollows : InputAnswer → Step → TerminalState → TerminalState → Type 0
InputFollows input.Dropped step t u = Same t u
InputFollows (input.Edited block) step t u =
    (has_call t.mode ≡ true) × (u.held ≡ (effect_of step t.held).held) × ((effect_of step t.held).block ≡ block) × (has_call u.mode ≡ has_call t.mode)
InputFollows (input.Taken o) step t u = Follows o t u

abbrev KeyFollows : Step → TerminalState → keys.Input → Type 0
KeyFollows step t i = InputFollows i.answer step t i.terminal

in_call : (m : Mode) → is_data_transfer m ≡ true → has_call m ≡ true
in_call DataTransfer h = refl
in_call Absent h = absurd (true≢false (sym h))
in_call Free h = absurd (true≢false (sym h))
in_call CallSetUp h = absurd (true≢false (sym h))
in_call CommandState h = absurd (true≢false (sym h))

told_same : (t : TerminalState) → Same t (keys.told_to_stop t)
told_same t = by_test (λ (u : TerminalState). Same t u) (has_device_control t.settings.params && not t.device_stopped) _ _ (λ h. (refl, refl)) (λ h. (refl, refl))

edited_follows : (o : ℕ) (full : Bool) (t : TerminalState) → has_call t.mode ≡ true → KeyFollows (key o t.settings.params) t (keys.after_edited (after_key t.settings.params o t.held) o full t)
edited_follows o full t there =
    by_test (λ i. KeyFollows (key o t.settings.params) t i) (is_some (after_key t.settings.params o t.held).block && full) _ _ (λ h. told_same t) (λ h. (there, refl, refl, refl))

data_follows : (o : ℕ) (full : Bool) (t : TerminalState) → has_call t.mode ≡ true → KeyFollows (key o t.settings.params) t (keys.after_data_key o full t)
data_follows o full t there =
    by_test (λ i. KeyFollows (key o t.settings.params) t i) (keys.is_flow_control t.settings.params o) _ _ (λ h. (refl, refl))
    (λ n. by_test (λ i. KeyFollows (key o t.settings.params) t i) (keys.is_recall (recall_character t.settings.params) o) _ _ (λ h. (refl, sym there)) (λ h. edited_follows o full t there))

ended_follows : (step : Step) (ended : Option (List ℕ)) (call : CallCondition) (t u : TerminalState) → Same t u → KeyFollows step t (keys.after_ended ended call u)
ended_follows step None call t u s = s
ended_follows step (Some line) call t u s = follows_from (request_of_line line call u) t u (after_line line call u) s (line_follows line call u)

pub key_follows : (o : ℕ) (call : CallCondition) (t : TerminalState) → KeyFollows (key o t.settings.params) t (keys.after_octet o call t)
key_follows o call t =
    let k = command_line.after_key t.settings.params o t.line in
    by_test (λ i. KeyFollows (key o t.settings.params) t i) (is_data_transfer t.mode) _ _ (λ h. data_follows o call.queue_full t (in_call t.mode h))
    (λ h. by_test (λ i. KeyFollows (key o t.settings.params) t i) (is_present t.mode) _ _
    (λ p. ended_follows (key o t.settings.params) k.ended call t (keys.with_line k (command_line.is_echoed t.settings.params t.line) t) (refl, refl))
    (λ p. (refl, refl)))

both_true : (a b : Bool) → (a && b) ≡ true → a ≡ true
both_true true b h = refl
both_true false b h = absurd (true≢false (sym h))

idle_in_call : (t : TerminalState) → runs_idle_timer t ≡ true → has_call t.mode ≡ true
idle_in_call t h = in_call t.mode (first (is_data_transfer t.mode) _ _ _ h)
  where
    first : (a b c d : Bool) → (a && b && c && d) ≡ true → a ≡ true
    first true b c d h = refl
    first false b c d h = h

pub idle_follows : (full : Bool) (t : TerminalState) → KeyFollows (idle t.settings.params) t (keys.after_idle_time full t)
idle_follows full t =
    by_test (λ i. KeyFollows (idle t.settings.params) t i) (runs_idle_timer t) _ _
    (λ h. by_test (λ i. KeyFollows (idle t.settings.params) t i) full _ _ (λ f. (refl, refl)) (λ f. (idle_in_call t h, refl, refl, refl)))
    (λ h. (refl, refl))

-- ---- a break

escaped_same : (t : TerminalState) → Same t (breaks.escaped t)
escaped_same t =
    by_test (λ (u : TerminalState). Same t u) (acts_on_break t.settings.params action.Escape && is_data_transfer t.mode) _ _ (λ h. (refl, sym (in_call t.mode (second _ _ h)))) (λ h. (refl, refl))
  where
    second : (a b : Bool) → (a && b) ≡ true → b ≡ true
    second true b h = h
    second false b h = absurd (true≢false (sym h))

discarding_same : (t : TerminalState) → Same t (breaks.discarding t)
discarding_same t = by_test (λ (u : TerminalState). Same t u) (acts_on_break t.settings.params action.Discard) _ _ (λ h. (refl, refl)) (λ h. (refl, refl))

pub break_same : (call : CallCondition) (t : TerminalState) → Same t (breaks.after_break call t)
break_same call t =
    by_test (λ (u : TerminalState). Same t u) (is_connected t.mode && not (breaks.is_dropped call t)) _ _
    (λ h. same_twice t (breaks.escaped t) (breaks.discarding (breaks.escaped t)) (escaped_same t) (discarding_same (breaks.escaped t))) (λ h. (refl, refl))

-- ---- a terminal that arrives

absent_free : (m : Mode) → is_present m ≡ false → has_call m ≡ false
absent_free Absent h = refl
absent_free Free h = refl
absent_free CallSetUp h = absurd (true≢false h)
absent_free DataTransfer h = absurd (true≢false h)
absent_free CommandState h = absurd (true≢false h)

pub arrived_same : (t : TerminalState) → Same t (arrived t)
arrived_same t = by_test (λ (u : TerminalState). Same t u) (is_present t.mode) _ _ (λ h. (refl, refl)) (λ h. (refl, sym (absent_free t.mode h)))

-- ---- messages

-- what is answered is a message of a PAD, and goes with the terminal
abbrev pub ReplyFollows : Reply → TerminalState → TerminalState → Type 0
ReplyFollows reply.Nothing t u = Same t u
ReplyFollows (reply.Message m) t u = IsOfPad m × Same t u
ReplyFollows reply.Clear t u = (u.held ≡ []) × (has_call u.mode ≡ false)

abbrev AnsweredFollows : TerminalState → messages.Answered → Type 0
AnsweredFollows t a = ReplyFollows a.reply t a.terminal

refusals_follow : (t u : TerminalState) → Same t u → (report : List _) → ReplyFollows (messages.refusals report) t u
refusals_follow t u h [] = h
refusals_follow t u h (s ∷ ss) = (tt, h)

message_follows : (m : Message) (t : TerminalState) → AnsweredFollows t (messages.after m t)
message_follows (message.ParameterIndication pairs) t = (refl, refl)
message_follows message.InvitationToClear t = ended_is signal.InvitedToClear t
message_follows (message.Set pairs) t = refusals_follow t (messages.after (message.Set pairs) t).terminal (refl, refl) _
message_follows (message.IndicationOfBreak pairs) t = (refl, refl)
message_follows (message.Read pairs) t = (tt, (refl, refl))
message_follows (message.Error kind code) t = (refl, refl)
message_follows (message.SetAndRead pairs) t = (tt, (refl, refl))

pub octets_follow : (octets : List ℕ) (t : TerminalState) → AnsweredFollows t (messages.after_octets octets t)
unfolding messages.after_octets
octets_follow octets t = by (message_of octets)
  where
    by : (r : Result Message MessageFault) → AnsweredFollows t (messages.after_octets_of r octets t)
    by (Ok m) = message_follows m t
    by (Err fault) = (tt, (refl, refl))

-- ---- the end of an event

pub resumed_same : (full : Bool) (t : TerminalState) → Same t (calls.resumed full t)
resumed_same full t = by_test (λ (u : TerminalState). Same t u) (t.device_stopped && _) _ _ (λ h. (refl, refl)) (λ h. (refl, refl))
