-- What the values of a table's keys are is what the table says.
use Rattle.std.proofs.Common.{refl}
use Rattle.toml.specs.View.{table_view}
use Rattle.service_files.specs.SaysLine.{SaysLine}
use Rattle.service_files.proofs.Each.{nothing_read}
use Rattle.service_files.proofs.lines.read_line.Goals as goal

pub returns-in_err-way : goal.returns-in_err-way
returns-in_err-way c =
    nothing_read (SaysLine (table_view c.args.table.now)) c.from_residual-in_err-way.result c.in_err-way.field-0.0
    c.from_residual-in_err-way.ensures.1

pub returns-in_err-allow : goal.returns-in_err-allow
returns-in_err-allow c =
    nothing_read (SaysLine (table_view c.args.table.now)) c.from_residual-in_err-allow.result c.in_err-allow.field-0.0
    c.from_residual-in_err-allow.ensures.1

pub returns : goal.returns
returns c = record {
  line = rw (c.unwrap_or.ensures, c.number_at.ensures) refl;
  here = rw (c.end_of.ensures, c.text_at.ensures) refl;
  way = c.in_ok-way.ensures;
  hold = rw (c.unwrap_or-2.ensures, c.number_at-2.ensures) refl;
  silence = rw (c.unwrap_or-3.ensures, c.number_at-3.ensures) refl;
  allow = c.in_ok-allow.ensures;
}
