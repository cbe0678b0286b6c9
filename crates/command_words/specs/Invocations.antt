-- The words that the program takes, and what they name.
use Rattle.std.specs.Prelude.{◌≡◌, List, [], Option, Some, None, true, codes}
use Rattle.clap.specs.Words.{App, Row, Rule, Text, first_of, new_app, new_rule, subcommand_of, with_rule}
use Rattle.clap.specs.Words.{fault_of, with_subcommand}
use Rattle.command_words.specs.declared.invocation.RunMode.{RunMode}
use Rattle.command_words.specs.declared.invocation.RunMode.TheVariants.{Sim, Run}
use Rattle.command_words.specs.declared.invocation.Invocation.{Invocation}

-- an option that has to be given, with the name of a file
abbrev pub file_option : Text → Rule
file_option name = record (new_rule name) { long = Some name; required = true }

-- a mode, with its two files
abbrev pub played : Text → App
played mode = with_rule (with_rule (new_app mode) (file_option (codes "net"))) (file_option (codes "script"))

abbrev pub nameless : App → App
nameless app = record app { top = record app.top { no_binary_name = true } }

-- sim or run, with --net FILE and --script FILE
abbrev pub program : App
program =
    with_subcommand (with_subcommand (nameless (new_app (codes "x25net"))) (played (codes "sim")).top)
    (played (codes "run")).top

abbrev pub mode_word : RunMode → Text
mode_word Sim = codes "sim"
mode_word Run = codes "run"

-- a mode was found with its two files, and they are those of the invocation
pub record Found (found : Option (Text × List Row)) (invocation : Invocation) : Type 0 where
  pub options : List Row
  pub mode : found ≡ Some (mode_word invocation.mode, options)
  pub net : first_of (codes "net") options ≡ Some invocation.net.now
  pub script : first_of (codes "script") options ≡ Some invocation.script.now

-- the words have no fault, and name a mode and its two files, which are those of the invocation
pub record AsksFor (words : List Text) (invocation : Invocation) : Type 0 where
  pub faultless : fault_of program words ≡ []
  pub found : Found (subcommand_of program words) invocation

-- no words ask for the built-in network; others ask for a mode and its files
abbrev pub Asks : List Text → Option Invocation → Type 0
Asks words None = words ≡ []
Asks words (Some invocation) = AsksFor words invocation
