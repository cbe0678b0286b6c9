-- The parameters of a terminal, and how commands and messages set and read them (X.28 3.3, X.29 4.4).
use Rattle.std.specs.Prelude.{ℕ, false, ◌&&◌, if◌then◌else◌, List, [], ◌∷◌, ◌++◌, map, fold, Option, Some, None}
use Rattle.std.specs.Prelude.{Result, Ok, Err, is_err, filter}
use Rattle.x3_params.specs.Table.{is_number, profile_values}
use Rattle.x3_params.specs.Values.{value, fault_of, with_value}
use Rattle.x3_params.specs.Settings.{has_flow_control}
use Rattle.x3_params.specs.declared.fault.ParamFault.{ParamFault}
use Rattle.x3_params.specs.declared.fault.ParamFault.TheVariants.{NoSuchParameter}
use Rattle.x3_params.specs.declared.profile.Profile.{Profile}
use Rattle.pad_terminal.specs.declared.settings.Settings.{Settings}
use Rattle.pad_terminal.specs.declared.settings.Setting.{Setting}

abbrev pub initial : List ℕ → Settings
initial params = record { params = params; initial = params; output_stopped = false }

-- other values come into force: a terminal that may not stop its output has not stopped it
abbrev pub with_params : List ℕ → Settings → Settings
with_params params s = record s { params = params; output_stopped = s.output_stopped && has_flow_control params }

-- ---- setting

abbrev pub set_unless : Option ParamFault → ℕ → ℕ → Settings → Settings
set_unless (Some fault) n v s = s
set_unless None n v s = with_params (with_value s.params n v) s

-- a parameter is set, if it may be
abbrev pub after_set : ℕ → ℕ → Settings → Settings
after_set n v s = set_unless (fault_of n v) n v s

-- what setting it comes to: the value that is then in force, or why it was refused
abbrev pub outcome_of : Option ParamFault → ℕ → List ℕ → Result ℕ ParamFault
outcome_of (Some fault) n params = Err fault
outcome_of None n params = Ok (value params n)

abbrev pub setting_of : ℕ → ℕ → Settings → Setting
setting_of n v s = record { number = n; outcome = outcome_of (fault_of n v) n (after_set n v s).params }

-- what a list of pairs, each a parameter's number and a value, makes of the settings, and what each pair comes to
pub record Change : Type 0 where
  pub settings : Settings
  pub report : List Setting

abbrev pub one_more : Change → ℕ × ℕ → Change
one_more c pair = record {
  settings = after_set pair.0 pair.1 c.settings;
  report = c.report ++ setting_of pair.0 pair.1 c.settings ∷ [];
}

-- one pair after the other
unfoldable pub after_pairs : List (ℕ × ℕ) → Settings → Change
after_pairs pairs s = fold one_more (record { settings = s; report = [] }) pairs

-- the pairs that were refused
abbrev pub refused : List Setting → List Setting
refused report = filter (λ s. is_err s.outcome) report

-- a profile's values, but for the speed
abbrev pub with_profile : Profile → Settings → Settings
with_profile profile s = with_params (profile_values profile (value s.params 11)) s

-- the initial values, from which the speed never differs
abbrev pub with_initial : Settings → Settings
with_initial s = with_params s.initial s

-- ---- reading

abbrev pub reading_of : List ℕ → ℕ → Setting
reading_of params n =
    record { number = n; outcome = if is_number n then Ok (value params n) else Err NoSuchParameter }

abbrev pub all_numbers : List ℕ
all_numbers =
    1 ∷ 2 ∷ 3 ∷ 4 ∷ 5 ∷ 6 ∷ 7 ∷ 8 ∷ 9 ∷ 10 ∷ 11 ∷ 12 ∷ 13 ∷ 14 ∷ 15 ∷ 16 ∷ 17 ∷ 18 ∷ []

-- no numbers stand for all
abbrev pub numbers_or_all : List ℕ → List ℕ
numbers_or_all [] = all_numbers
numbers_or_all (n ∷ ns) = n ∷ ns

abbrev pub readings : List ℕ → List ℕ → List Setting
readings params numbers = map (reading_of params) (numbers_or_all numbers)
