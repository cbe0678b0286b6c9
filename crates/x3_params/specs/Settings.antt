-- What the values in force ask for.
use Rattle.std.specs.Prelude.{ℕ, Bool, not, Option, Some, None, if◌then◌else◌, ◌==◌, List}
use Rattle.x3_params.specs.Values.{value, has_bit}
use Rattle.x3_params.specs.declared.settings.BreakAction.{BreakAction}
use Rattle.x3_params.specs.declared.settings.BreakAction.TheVariants as break_action
use Rattle.x3_params.specs.declared.settings.LineFeedInsertion.{LineFeedInsertion}
use Rattle.x3_params.specs.declared.settings.LineFeedInsertion.TheVariants as insertion

-- the character that recalls the PAD (X.3 3.1)
abbrev pub recall_character : List ℕ → Option ℕ
recall_character p =
    if value p 1 == 0 then None
    else if value p 1 == 1 then Some 0x10
    else Some (value p 1)

-- what is typed is echoed (X.3 3.2)
abbrev pub has_echo : List ℕ → Bool
has_echo p = value p 2 == 1

-- the PAD tells the terminal to stop and to go on (X.3 3.5)
abbrev pub has_device_control : List ℕ → Bool
has_device_control p = value p 5 == 1

-- service signals are shown, and among them the prompt (X.3 3.6)
abbrev pub has_signals : List ℕ → Bool
has_signals p = not (value p 6 == 0)

abbrev pub has_prompt : List ℕ → Bool
has_prompt p = value p 6 == 5

-- the term that stands for what a break does (X.3 3.7)
abbrev pub break_bit : BreakAction → ℕ
break_bit break_action.Interrupt = 1
break_bit break_action.Reset = 2
break_bit break_action.Indication = 4
break_bit break_action.Escape = 8
break_bit break_action.Discard = 16

abbrev pub acts_on_break : List ℕ → BreakAction → Bool
acts_on_break p action = has_bit (value p 7) (break_bit action)

-- output is thrown away (X.3 3.8)
abbrev pub discards_output : List ℕ → Bool
discards_output p = value p 8 == 1

-- the terminal may stop the PAD (X.3 3.12)
abbrev pub has_flow_control : List ℕ → Bool
has_flow_control p = value p 12 == 1

-- the term that stands for where a line feed follows a carriage return (X.3 3.13)
abbrev pub insertion_bit : LineFeedInsertion → ℕ
insertion_bit insertion.ToTerminal = 1
insertion_bit insertion.FromTerminal = 2
insertion_bit insertion.InEcho = 4

abbrev pub inserts_line_feed : List ℕ → LineFeedInsertion → Bool
inserts_line_feed p place = has_bit (value p 13) (insertion_bit place)

-- text is edited (X.3 3.15)
abbrev pub has_editing : List ℕ → Bool
has_editing p = value p 15 == 1
