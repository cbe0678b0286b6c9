-- What contracts see of the code's terminal.
use Rattle.pad_terminal.specs.Terminal.{TerminalState}
use Rattle.pad_terminal.specs.declared.terminal.Terminal.TheInside.{Inside}

abbrev pub terminal_of : Inside → TerminalState
terminal_of a = record {
  mode = a.mode;
  settings = a.settings;
  line = a.line;
  held = a.editor;
  output = a.output;
  device_stopped = a.device_stopped;
}
