-- The service signals (X.28 3.1, 3.5), in this profile's texts.
use Rattle.std.specs.Prelude.{ℕ, ◌+◌, ◌/◌, ◌%◌, ◌||◌, ◌==◌, nat_lt, nat_le, if◌then◌else◌, List, [], ◌∷◌, ◌++◌}
use Rattle.std.specs.Prelude.{Option, Some, None, codes}
use Rattle.std.specs.List.{flat_map}
use Rattle.x28_commands.specs.declared.signal.ParameterValue.{ParameterValue}
use Rattle.x28_commands.specs.declared.signal.Signal.{Signal}
use Rattle.x28_commands.specs.declared.signal.Signal.TheVariants.{Connected, ClearIndication, InvitedToClear}
use Rattle.x28_commands.specs.declared.signal.Signal.TheVariants.{ClearConfirmation, ResetIndication, Free, Engaged}
use Rattle.x28_commands.specs.declared.signal.Signal.TheVariants.{Error, Parameters, Acknowledgement, Prompt}

-- why a call was cleared
abbrev pub clear_text : ℕ → List ℕ
clear_text cause =
    if cause == 1 then codes "CLR OCC"
    else if cause == 3 then codes "CLR INV"
    else if cause == 5 then codes "CLR NC"
    else if cause == 9 then codes "CLR DER"
    else if cause == 11 then codes "CLR NA"
    else if cause == 13 then codes "CLR NP"
    else if cause == 17 then codes "CLR RPE"
    else if cause == 19 then codes "CLR ERR"
    else if (cause == 0) || nat_le 128 cause then codes "CLR DTE"
    else codes "CLR ERR"

-- why a call was reset
abbrev pub reset_text : ℕ → List ℕ
reset_text cause =
    if cause == 0 then codes "RESET DTE"
    else if cause == 3 then codes "RESET RPE"
    else if cause == 5 then codes "RESET ERR"
    else if cause == 7 then codes "RESET NC"
    else codes "RESET ERR"

abbrev pub digit : ℕ → ℕ
digit n = 48 + n

-- a number of at most three digits, without leading zeros
unfoldable pub numeral : ℕ → List ℕ
numeral n =
    if nat_lt n 10 then digit n ∷ []
    else if nat_lt n 100 then digit (n / 10) ∷ digit (n % 10) ∷ []
    else digit (n / 100) ∷ digit (n / 10 % 10) ∷ digit (n % 10) ∷ []

-- a value, or that the parameter was refused
abbrev pub value_text : Option ℕ → List ℕ
value_text (Some value) = numeral value
value_text None = codes "INV"

unfoldable pub parameter_text : ParameterValue → List ℕ
parameter_text p = numeral p.number ++ 0x3A ∷ value_text p.value

abbrev pub next_text : ParameterValue → List ℕ
next_text p = 0x2C ∷ parameter_text p

-- with commas between them
abbrev pub parameters_text : List ParameterValue → List ℕ
parameters_text [] = []
parameters_text (p ∷ ps) = parameter_text p ++ flat_map next_text ps

abbrev pub word : Signal → List ℕ
word Connected = codes "COM"
word (ClearIndication cause) = clear_text cause
word InvitedToClear = codes "CLR PAD"
word ClearConfirmation = codes "CLR CONF"
word (ResetIndication cause) = reset_text cause
word Free = codes "FREE"
word Engaged = codes "ENGAGED"
word Error = codes "ERR"
word (Parameters ps) = codes "PAR "
word Acknowledgement = []
word Prompt = []

abbrev pub parameters : Signal → List ParameterValue
parameters (Parameters ps) = ps.items
parameters signal = []

abbrev pub new_line : List ℕ
new_line = 0x0D ∷ 0x0A ∷ []

-- what the terminal gets
unfoldable pub signal_text : Signal → List ℕ
signal_text Acknowledgement = new_line
signal_text Prompt = new_line ++ codes "*"
signal_text signal = new_line ++ word signal ++ parameters_text (parameters signal) ++ new_line
