-- What the program does on its words and its input.
use Rattle.std.specs.Prelude.{◌≡◌, ◌≤◌, ◌<◌, ◌⊎◌, ℕ, false, List, length, [], ◌∷◌, ◌++◌, Option, Some, None}
use Rattle.std.specs.Prelude.{IfSome, IsUtf8, codes, decimal}
use Rattle.std.specs.Io.KnownBytes.{Keeps}
use Rattle.frame_lines.specs.Lines.{LineService, memory_service}
use Rattle.frame_lines.specs.Sockets.{socket_service}
use Rattle.frame_lines.specs.declared.fault.SocketFault.{SocketFault}
use Rattle.frame_lines.specs.declared.fault.SocketFault.TheVariants as socket_fault_is
use Rattle.octet_streams.specs.declared.reading.ReadFault.{ReadFault}
use Rattle.octet_streams.specs.declared.reading.ReadFault.TheVariants as read_fault_is
use Rattle.command_words.specs.declared.invocation.RunMode.{RunMode}
use Rattle.command_words.specs.declared.invocation.RunMode.TheVariants.{Sim, Run}
use Rattle.command_words.specs.declared.invocation.Invocation.{Invocation}
use Rattle.command_words.specs.Invocations.{Asks}
use Rattle.net_config.specs.declared.config.Config.{Config}
use Rattle.net_config.specs.declared.fault.MakeFault.{MakeFault}
use Rattle.net_config.specs.declared.fault.MakeFault.TheVariants as make_fault_is
use Rattle.net_config.specs.Served.{is_served}
use Rattle.net_events.specs.Network.{Network}
use Rattle.line_sim.specs.Runs.{IsMadeBy}
use Rattle.net_files.specs.declared.network.TheConstants.{FIRST}
use Rattle.net_files.specs.declared.fault.ProgFault.{ProgFault}
use Rattle.net_files.specs.declared.fault.ProgFault.TheVariants as fault_is
use Rattle.net_files.specs.declared.script.Script.{Script}
use Rattle.net_files.specs.Networks.{Spells}
use Rattle.net_files.specs.Scripts.{IsScript, IsScriptFault}
use Rattle.octet_streams.specs.Written.{Writes}
use Rattle.net_player.specs.Playing.{Plays}
use Rattle.net_player.specs.Stopping.{IsPlayFault, PlayStops}

-- ---- a script on a network

-- the lines of a mode
abbrev pub lines_of : RunMode → LineService
lines_of Sim = memory_service
lines_of Run = socket_service

-- the network was made on lines of this mode, the script was played to its end, and its text was written behind what
-- was known to be written
pub record PlaysOn (mode : RunMode) (config : Config) (script : Script) (before after : Option (List ℕ)) : Type 0 where
  pub start : Network
  pub made : IsMadeBy (lines_of mode) config start
  pub ended : Network
  pub writes : Writes before after (λ text. Plays (lines_of mode) script start text ended)

-- or it was not: memory was wanted, a socket was not had for a line or the configuration is not served, before
-- anything was written; or the play stopped, with a fault of its own, and what was told until then was written
pub data PlayFails (mode : RunMode) (config : Config) (script : Script) (before after : Option (List ℕ))
    : ProgFault → Type 0 where
  no_memory : after ≡ before → PlayFails mode config script before after fault_is.OutOfMemory
  no_socket : mode ≡ Run → 0 < length config.lines.items → after ≡ before
      → PlayFails mode config script before after fault_is.Socket
  unserved : is_served config ≡ false → after ≡ before → PlayFails mode config script before after fault_is.BadConfig
  stopped : {fault : ProgFault} (start : Network)
      → IsPlayFault fault → IsMadeBy (lines_of mode) config start
      → Writes before after (PlayStops (lines_of mode) script fault start)
      → PlayFails mode config script before after fault

-- why a network is not made
abbrev pub making_fault : MakeFault → ProgFault
making_fault make_fault_is.BadConfig = fault_is.BadConfig
making_fault make_fault_is.OutOfMemory = fault_is.OutOfMemory

-- why a line over sockets is not made
abbrev pub socket_fault : SocketFault → ProgFault
socket_fault socket_fault_is.OutOfMemory = fault_is.OutOfMemory
socket_fault socket_fault_is.Socket = fault_is.Socket

-- ---- the texts of both

-- the text of the built-in network
abbrev pub IsFirst : List ℕ → Type 0
IsFirst text = text ≡ FIRST.now

-- a text that is read has at most so many octets
abbrev pub IsOfSize : List ℕ → Type 0
IsOfSize text = length text ≤ 1048576

-- what a reader had left, where it says what that is
abbrev pub IsLeftOf : Option (List ℕ) → List ℕ → Type 0
IsLeftOf left text = IsOfSize text × IfSome left (λ octets. text ≡ octets)

-- what a file has, of which no contract knows more
abbrev pub IsOfFile : List ℕ → Type 0
IsOfFile text = IsOfSize text

-- a network and a script were read, each of a text of its kind, and the script was played on the network
pub record PlaysTexts (mode : RunMode) (IsNet IsText : List ℕ → Type 0) (before after : Option (List ℕ)) : Type 0 where
  pub net : List ℕ
  pub is_net : IsNet net
  pub config : Config
  pub network : Spells net config
  pub text : List ℕ
  pub is_text : IsText text
  pub script : Script
  pub read : IsScript config text script
  pub plays : PlaysOn mode config script before after

-- or not: memory was wanted, a text could not be had, that of the network is no text or spells no network, the
-- script has a line that is no command, each before anything was written; or the script was not played to its end
pub data TextsFail (mode : RunMode) (IsNet IsText : List ℕ → Type 0) (before after : Option (List ℕ))
    : ProgFault → Type 0 where
  no_memory : after ≡ before → TextsFail mode IsNet IsText before after fault_is.OutOfMemory
  unread : after ≡ before → TextsFail mode IsNet IsText before after fault_is.File
  no_text : (net : List ℕ)
      → IsNet net → ¬ IsUtf8 net → after ≡ before → TextsFail mode IsNet IsText before after fault_is.NetText
  no_network : (net : List ℕ)
      → IsNet net → ((config : Config) → ¬ Spells net config) → after ≡ before
      → TextsFail mode IsNet IsText before after fault_is.NetText
  bad_script : {fault : ProgFault} (net : List ℕ) (config : Config) (text : List ℕ)
      → IsNet net → Spells net config → IsText text → IsScriptFault config text fault
      → after ≡ before → TextsFail mode IsNet IsText before after fault
  unplayed : {fault : ProgFault} (net : List ℕ) (config : Config) (text : List ℕ) (script : Script)
      → IsNet net → Spells net config → IsText text → IsScript config text script
      → PlayFails mode config script before after fault → TextsFail mode IsNet IsText before after fault

-- ---- the words

-- what the words ask for was played: without words the script of the input on the built-in network
abbrev pub PlaysAsked : Option Invocation → (left before after : Option (List ℕ)) → Type 0
PlaysAsked None left before after = PlaysTexts Sim IsFirst (IsLeftOf left) before after
PlaysAsked (Some invocation) left before after =
    PlaysTexts invocation.mode IsOfFile IsOfFile before after

abbrev pub AskedFails : Option Invocation → (left before after : Option (List ℕ)) → ProgFault → Type 0
AskedFails None left before after fault = TextsFail Sim IsFirst (IsLeftOf left) before after fault
AskedFails (Some invocation) left before after fault =
    TextsFail invocation.mode IsOfFile IsOfFile before after fault

-- the words ask for something, and that was played
pub record Performs (words : List (List ℕ)) (left before after : Option (List ℕ)) : Type 0 where
  pub asked : Option Invocation
  pub asks : Asks words asked
  pub plays : PlaysAsked asked left before after

-- or it was not played to its end, for this fault; or memory was wanted already where the words were read
pub data Fails (words : List (List ℕ)) (left before after : Option (List ℕ)) : ProgFault → Type 0 where
  words_unread : after ≡ before → Fails words left before after fault_is.OutOfMemory
  unplayed : {fault : ProgFault} (asked : Option Invocation)
      → Asks words asked → AskedFails asked left before after fault → Fails words left before after fault

-- the run ended in this fault: it failed, or all was played and the output refused what was left in its buffer; what
-- was told before the buffer was emptied is told after it
pub data EndsIn (words : List (List ℕ)) (left before after : Option (List ℕ)) : ProgFault → Type 0 where
  failed : {fault : ProgFault} (told : Option (List ℕ))
      → Fails words left before told fault → Keeps told after → EndsIn words left before after fault
  unwritten : Performs words left before after → EndsIn words left before after fault_is.Write

-- the words ask for nothing
abbrev pub AskNothing : List (List ℕ) → Type 0
AskNothing words = (asked : Option Invocation) → ¬ Asks words asked

-- ---- what is told

-- a text cannot be had: memory was wanted, or it cannot be read or is too long
abbrev pub IsReadFault : ProgFault → Type 0
IsReadFault fault = (fault ≡ fault_is.OutOfMemory) ⊎ (fault ≡ fault_is.File)

-- why a text cannot be had
abbrev pub reading_fault : ReadFault → ProgFault
reading_fault read_fault_is.OutOfMemory = fault_is.OutOfMemory
reading_fault read_fault_is.TooLong = fault_is.File
reading_fault read_fault_is.Failed = fault_is.File

-- the line of a fault: its number, and the line of the script where it is one
abbrev pub fault_line : ProgFault → List ℕ
fault_line fault_is.NetText = codes "fault 1" ++ 10 ∷ []
fault_line (fault_is.Script line) = codes "fault 2 line " ++ (decimal line ++ 10 ∷ [])
fault_line fault_is.BadConfig = codes "fault 3" ++ 10 ∷ []
fault_line fault_is.OutOfMemory = codes "fault 4" ++ 10 ∷ []
fault_line fault_is.Write = codes "fault 5" ++ 10 ∷ []
fault_line fault_is.Socket = codes "fault 6" ++ 10 ∷ []
fault_line fault_is.File = codes "fault 7" ++ 10 ∷ []

abbrev pub bad_words : List ℕ
bad_words = codes "bad words" ++ 10 ∷ []
