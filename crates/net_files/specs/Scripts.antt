-- What a script that was read has, and why one is not read.
use Rattle.std.specs.Prelude.{◌≡◌, ◌≢◌, ◌==◌, ℕ, ◌+◌, ◌⊎◌, List, [], ◌∷◌, take, map, slice_get, Some}
use Rattle.std.specs.Prelude.{String, string_bytes, vec_len, Result, Ok, Err}
use Rattle.std.specs.List.{slice_split}
use Rattle.std.specs.declared.alloc.Global.{Global}
use Rattle.net_config.specs.declared.config.Config.{Config}
use Rattle.net_config.specs.declared.config.NodeConfig.{NodeConfig}
use Rattle.net_files.specs.declared.fault.ProgFault.{ProgFault}
use Rattle.net_files.specs.declared.fault.ProgFault.TheVariants as fault_is
use Rattle.net_files.specs.Commands.{CommandView}
use Rattle.net_files.specs.declared.script.Script.{Script}
use Rattle.net_files.specs.Values.{CommandValue, command_value}
use Rattle.net_files.specs.CommandForm.{CommandForm}

-- the name of a node
abbrev pub node_name : NodeConfig → List ℕ
node_name node = string_bytes node.name

-- the names are those of the nodes, in order
abbrev pub AreNamesOf : List NodeConfig → List (String Global) → Type 0
AreNamesOf nodes names = map string_bytes names ≡ map node_name nodes

-- the lines of a text, each but the last ended by a line feed
abbrev pub lines_of : List ℕ → List (List ℕ)
lines_of text = slice_split (λ octet. octet == 10) text

-- the commands that lines spell, in order; empty lines are skipped
pub data LinesForm (names : List (List ℕ)) : List (List ℕ) → List CommandValue → Type 0 where
  none : LinesForm names [] []
  skipped : {lines : List (List ℕ)} {commands : List CommandValue}
      → LinesForm names lines commands → LinesForm names ([] ∷ lines) commands
  spelled : {line : List ℕ} {lines : List (List ℕ)} {command : CommandValue} {commands : List CommandValue}
      → CommandForm names line command → LinesForm names lines commands
      → LinesForm names (line ∷ lines) (command ∷ commands)

-- the script was read of the text, for this network: it has the names of its nodes, the number of its lines, and the
-- commands that the text spells
pub record IsScript (config : Config) (text : List ℕ) (script : Script) : Type 0 where
  pub names : AreNamesOf config.nodes.items script.names.items
  pub lines : script.lines ≡ vec_len config.lines
  pub commands :
      LinesForm (map node_name config.nodes.items) (lines_of text) (map command_value script.commands)

-- the line of this number, counted from 1, is the first that is not empty and spells no command
pub record IsFirstBad (names : List (List ℕ)) (lines : List (List ℕ)) (number : ℕ) : Type 0 where
  pub place : ℕ
  pub counted : number ≡ place + 1
  pub commands : List CommandValue
  pub before : LinesForm names (take place lines) commands
  pub line : List ℕ
  pub there : slice_get lines place ≡ Some line
  pub some : line ≢ []
  pub bad : (command : CommandValue) → ¬ CommandForm names line command

-- want of memory, or the number of the first line that spells no command
abbrev pub AreLinesFault : (names lines : List (List ℕ)) → ProgFault → Type 0
AreLinesFault names lines fault =
    (fault ≡ fault_is.OutOfMemory)
    ⊎ ((number : ℕ) × (fault ≡ fault_is.Script number) × IsFirstBad names lines number)

-- the commands that the lines spell, or their fault
abbrev pub AreRead : (names lines : List (List ℕ)) → Result (List CommandView) ProgFault → Type 0
AreRead names lines (Ok commands) = LinesForm names lines (map command_value commands)
AreRead names lines (Err fault) = AreLinesFault names lines fault

abbrev pub IsScriptFault : Config → List ℕ → ProgFault → Type 0
IsScriptFault config text fault = AreLinesFault (map node_name config.nodes.items) (lines_of text) fault
