-- What waits to be shown at a terminal (X.3 3.8, X.28 3.1, 3.5).
use Rattle.std.specs.Prelude.{ℕ, ◌-◌, true, false, if◌then◌else◌, List, [], ◌++◌, length, drop}
use Rattle.x3_params.specs.Settings.{has_signals, has_prompt, discards_output}
use Rattle.pad_editing.specs.Shown.{Shown, shows, shown}
use Rattle.x28_commands.specs.Signals.{signal_text}
use Rattle.x28_commands.specs.declared.signal.Signal.{Signal}
use Rattle.x28_commands.specs.declared.signal.Signal.TheVariants.{Prompt}

-- the text, and the column that the terminal is at after it
pub record Output : Type 0 where
  pub text : List ℕ
  pub column : ℕ

abbrev pub no_output : Output
no_output = record { text = []; column = 0 }

-- so many octets may wait
abbrev pub text_limit : ℕ
text_limit = 1024

-- the octets of a text that are left where the oldest give way
abbrev pub newest : List ℕ → List ℕ
newest text = drop (length text - text_limit) text

-- octets as they stand
abbrev pub with_octets : List ℕ → Output → Output
with_octets octets o = record o { text = newest (o.text ++ octets) }

-- what is echoed, laid out for the terminal
abbrev pub with_echo : List ℕ → List ℕ → Output → Output
with_echo octets params o =
    let echo = shown octets true params o.column in
    record { text = newest (o.text ++ echo.text); column = echo.column }

-- a service signal as it stands, where signals are shown
abbrev pub with_signal : Signal → List ℕ → Output → Output
with_signal signal params o =
    if has_signals params then record { text = newest (o.text ++ signal_text signal); column = 0 } else o

-- the prompt, which is one octet on a new line
abbrev pub with_prompt : List ℕ → Output → Output
with_prompt params o =
    if has_prompt params then record { text = newest (o.text ++ signal_text Prompt); column = 1 } else o

-- what the terminal shows of octets of the far end, and the column that it is then at
abbrev pub laid_out : List ℕ → List ℕ → ℕ → Shown
laid_out octets params column =
    if discards_output params then shows [] column else shown octets false params column
