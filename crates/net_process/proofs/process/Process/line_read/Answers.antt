use Rattle.std.proofs.Common.{◌≡◌, ◌<◌, length, Some, refl, sym, ap, ◌∙◌, arith}
use Rattle.std.specs.Prelude.{slice_get}
use Rattle.std.proofs.lemmas.Option.{slice_get_read}
use Rattle.remote_lines.specs.declared.line.RemoteLine.{RemoteLine}
use Rattle.net_process.proofs.Reading.{same_element, puts_at, frame_read}
use Rattle.net_process.proofs.process.Process.line_read.Goals as goal

pub returns-in-Frame : goal.returns-in-Frame
returns-in-Frame g c =
    let lines = c.self.inside.lines.items in
    let within : c.args.place < length lines = omega (arith, c.len.ensures, c.if-place-len.false) in
    let one : slice_get lines c.args.place ≡ Some c.index.result.now =
    slice_get_read lines (length lines) c.args.place c.index.result.now refl within c.index.ensures in
    let there : slice_get lines c.args.place ≡ Some c.index_mut.result.now =
    slice_get_read lines (length lines) c.args.place c.index_mut.result.now refl within c.index_mut.ensures.value in
    let same : c.index.result.now ≡ c.index_mut.result.now =
    same_element lines c.args.place c.index.result.now c.index_mut.result.now one there in
    frame_read g.L.Line.service c.args.place c.args.frame.now c.args.self.now _ c.index_mut.result.now c.read.new.self
    c.read.new.frame c.bring.new.self c.self.view_is there (sym c.in-Frame.is ∙ c.read.ensures.reading) c.read.ensures.after
    c.read.ensures.frame
    (puts_at g.L.Line.service c.end-line.result c.index_mut.result.now.end c.direction_to-in-Frame.result c.read.new.frame
    c.self.inside.part c.bring.new.self (c.end-line.ensures ∙ ap (λ (x : RemoteLine). x.end) same)
    c.direction_to-in-Frame.ensures (c.bring.ensures.put, c.bring.ensures.untouched))
