-- A line more is read, all are, or one spells no command.
use Rattle.std.proofs.Common.{◌+◌, arith, refl, inr, map}
use Rattle.net_files.specs.Scripts.{lines_of}
use Rattle.net_files.specs.Scripts.LinesForm.{none}
use Rattle.net_files.specs.Values.{command_value}
use Rattle.net_files.proofs.ScriptLines.{read_on, read_all, bad_line}
use Rattle.net_files.proofs.script.read_lines.Goals as goal

pub loop-rest-init : goal.loop-rest-init
loop-rest-init c = record {
  counted = omega arith;
  read = record { front = rw c.new-commands.ensures none; rest = refl };
}

pub loop-rest-preserved : goal.loop-rest-preserved
loop-rest-preserved c =
    let counted = rw c.in-Some.is at c.loop-rest.invariant.counted in
    record {
      counted = omega (arith, counted, c.cut.ensures.shorter);
      read = rw c.cut.ensures.behind
          (read_on c.args.names.now (lines_of c.args.text.now) c.loop-rest.number c.in-Some.lines.now
          (map command_value c.loop-rest.commands) (map command_value c.add_command.new.commands)
          (rw c.in-Some.is at c.loop-rest.invariant.read) (rw c.cut.ensures.before at c.in-Ok.ensures));
    }

pub returns-in-Err-NotACommand : goal.returns-in-Err-NotACommand
returns-in-Err-NotACommand c =
    let refused = rw c.cut.ensures.before at c.in-Err-NotACommand.ensures in
    inr (
      c.loop-rest.number + 1,
      refl,
      bad_line c.args.names.now (lines_of c.args.text.now) c.loop-rest.number c.in-Some.lines.now
          (map command_value c.loop-rest.commands) (rw c.in-Some.is at c.loop-rest.invariant.read)
          (refused c.in-Err-NotACommand.field-0-is),
    )

pub returns : goal.returns
returns c =
    read_all c.args.names.now (lines_of c.args.text.now) c.loop-rest.number
    (map command_value c.loop-rest.commands) (rw c.in_default.is at c.loop-rest.invariant.read)
