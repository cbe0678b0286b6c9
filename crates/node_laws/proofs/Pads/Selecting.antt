-- What the terminals ask can be asked: an address that is selected has its digits, and the user data fit.
use Rattle.std.specs.Prelude.{◌≡◌, ℕ, ◌≤◌, Bool, true, false, if◌then◌else◌, nat_lt, ◌==◌, List, length, Option, Some, None, Result, Ok, Err}
use Rattle.std.proofs.Common.{refl, sym, subst, arith}
use Rattle.std.proofs.lemmas.Bool.{ltb-false, eqb-false}
use Rattle.packet_codec.specs.Address.{AreDigits, address_of, are_digits, digit_values}
use Rattle.packet_codec.specs.declared.address.AddressFault.TheVariants.{Empty, TooLong, NotADigit}
use Rattle.packet_codec.proofs.Addresses.{AreDigits-digit_values}
use Rattle.packet_laws.specs.Readable.{CanBePlaced}
use Rattle.x28_commands.specs.Reading.{command_of}
use Rattle.x3_params.specs.Table.{profile_numbered}
use Rattle.x3_params.specs.declared.profile.Profile.{Profile}
use Rattle.x28_commands.specs.CommandForm.{CommandForm, Selects, UserData, ArgumentsForm}
use Rattle.x28_commands.specs.CommandForm.UserData.{none, some}
use Rattle.x28_commands.specs.CommandForm.CommandForm.{empty, selects, worded}
use Rattle.x28_commands.specs.CommandForm.ArgumentsForm.{status, clear, interrupt, reset, profile, read_all, read, set, set_and_read}
use Rattle.x28_commands.specs.declared.keyword.Keyword.{Keyword}
use Rattle.x28_commands.specs.declared.signal.Signal.TheVariants as signal
use Rattle.x28_commands.specs.declared.command.Command.{Command}
use Rattle.x28_commands.specs.declared.command.Command.TheVariants as command
use Rattle.x28_commands.specs.declared.command.Selection.{Selection}
use Rattle.x28_commands.specs.declared.fault.CommandFault.{CommandFault}
use Rattle.x28_commands.proofs.Found.{command_found}
use Rattle.pad_terminal.specs.Commands.{effect_of, effect_of_line, request_of_line, asked, unanswered, in_error, after_profile, may_reset, may_interrupt}
use Rattle.pad_terminal.specs.Calls.{ended}
use Rattle.pad_terminal.specs.declared.mode.Mode.TheVariants.{CallSetUp}
use Rattle.pad_terminal.specs.Terminal.{TerminalState, has_call}
use Rattle.pad_terminal.specs.declared.answers.CallCondition.{CallCondition}
use Rattle.pad_terminal.specs.declared.answers.TerminalRequest.{TerminalRequest}
use Rattle.pad_terminal.specs.declared.answers.TerminalRequest.TheVariants as request
use Rattle.pad_ports.specs.PadLine.{call_parts}

-- ---- a selection

pub record IsSelection (s : Selection) : Type 0 where
  pub address : AreDigits s.address
  pub user_data : length s.user_data.items ≤ 12

pub may_be_placed : (s : Selection) → IsSelection s → CanBePlaced (call_parts s.address s.user_data.items)
may_be_placed s h =
    let few : length s.user_data.items ≤ 12 = h.user_data in
    record { called = h.address; calling = (omega arith, refl); facilities = omega arith; user_data = omega arith }

digits_by : (text digits : List ℕ) (none long all : Bool) → none ≡ (length text == 0) → long ≡ nat_lt 15 (length text) → all ≡ are_digits text →
    (if none then Err Empty else if long then Err TooLong else if all then Ok (digit_values text) else Err NotADigit) ≡ Ok digits → AreDigits digits
digits_by text digits true long all a b c h = absurd cc
digits_by text digits false true all a b c h = absurd cc
digits_by text digits false false false a b c h = absurd cc
digits_by text digits false false true a b c h =
    let same : digit_values text ≡ digits = cc in
    subst (λ (ds : List ℕ). AreDigits ds) same (AreDigits-digit_values text (omega (arith, eqb-false (length text) 0 (sym a))) (omega (arith, ltb-false 15 (length text) (sym b))) (sym c))

are_digits_of : (text digits : List ℕ) → address_of text ≡ Ok digits → AreDigits digits
are_digits_of text digits h = digits_by text digits (length text == 0) (nat_lt 15 (length text)) (are_digits text) refl refl refl h

user_data_fits : (rest octets : List ℕ) → UserData rest octets → length octets ≤ 12
user_data_fits rest octets (none blank) = omega arith
user_data_fits rest octets (some mark is graphic few) = few

selects_fits : (line : List ℕ) (s : Selection) → Selects line s → IsSelection s
selects_fits line s h = record { address = are_digits_of h.digits s.address h.address; user_data = user_data_fits h.rest s.user_data.items h.user_data }

arguments_fit : {k : Keyword} {text : List ℕ} {c : Command} → ArgumentsForm k text c → (s : Selection) → c ≡ command.Select s → IsSelection s
arguments_fit status s e = cc
arguments_fit clear s e = cc
arguments_fit interrupt s e = cc
arguments_fit reset s e = cc
arguments_fit (profile h) s e = cc
arguments_fit read_all s e = cc
arguments_fit (read h) s e = cc
arguments_fit (set h) s e = cc
arguments_fit (set_and_read h) s e = cc

form_fits : {line : List ℕ} {c : Command} → CommandForm line c → (s : Selection) → c ≡ command.Select s → IsSelection s
form_fits (empty few blank) s e = cc
form_fits (selects {line = line} {selection = t} few h) s e =
    let same : t ≡ s = cc in
    subst (λ (x : Selection). IsSelection x) same (selects_fits line t h)
form_fits (worded k text few h a) s e = arguments_fit a s e

-- ---- what a terminal asks

abbrev pub Fits : TerminalRequest → Type 0
Fits (request.Call s) = IsSelection s
Fits request.Clear = Unit {0}
Fits request.Interrupt = Unit {0}
Fits request.Reset = Unit {0}

abbrev pub FitsAny : Option TerminalRequest → Type 0
FitsAny None = Unit {0}
FitsAny (Some r) = Fits r

asked_fits : (may : Bool) (r : TerminalRequest) → Fits r → FitsAny (asked may r).request
asked_fits true r h = h
asked_fits false r h = tt

profile_fits : (found : Option Profile) (t : TerminalState) → FitsAny (after_profile found t).outcome.request
profile_fits None t = tt
profile_fits (Some p) t = tt

clear_fits : (v : Bool) (t : TerminalState) → FitsAny (if v then unanswered (Some request.Clear) (ended signal.ClearConfirmation t) else in_error t).outcome.request
clear_fits true t = tt
clear_fits false t = tt

selection_fits : (v : Bool) (s : Selection) (t : TerminalState) → IsSelection s →
    FitsAny (if v then in_error t else unanswered (Some (request.Call s)) (record t { mode = CallSetUp })).outcome.request
selection_fits true s t h = tt
selection_fits false s t h = h

effect_fits : (c : Command) (call : CallCondition) (t : TerminalState) → ((s : Selection) → c ≡ command.Select s → IsSelection s) → FitsAny (effect_of c call t).outcome.request
effect_fits command.Empty call t h = tt
effect_fits command.Status call t h = tt
effect_fits command.Clear call t h = clear_fits (has_call t.mode) t
effect_fits command.Interrupt call t h = asked_fits (may_interrupt call t) request.Interrupt tt
effect_fits command.Reset call t h = asked_fits (may_reset call t) request.Reset tt
effect_fits (command.Profile n) call t h = profile_fits (profile_numbered n) t
effect_fits (command.Read numbers) call t h = tt
effect_fits (command.Set pairs) call t h = tt
effect_fits (command.SetAndRead pairs) call t h = tt
effect_fits (command.Select s) call t h = selection_fits (has_call t.mode) s t (h s refl)

pub line_fits : (line : List ℕ) (call : CallCondition) (t : TerminalState) → FitsAny (request_of_line line call t)
unfolding request_of_line
line_fits line call t = by (command_of line) refl
  where
    by : (r : Result Command CommandFault) → command_of line ≡ r → FitsAny (effect_of_line r call t).outcome.request
    by (Ok c) e = effect_fits c call t (form_fits (command_found line c e))
    by (Err fault) e = tt
