use Rattle.std.proofs.Common.{◌≡◌, ◌∷◌, [], ◌++◌, ◌-◌, length, true, get_or, refl, arith, List, ℕ, length-drop}
use Rattle.circular_buffer.specs.Buffer.{keep_last}
use Rattle.pad_editing.specs.Shown.{Shown, shown}
use Rattle.pad_terminal.specs.Output.{newest}
use Rattle.pad_terminal.specs.OutputView.{output_of}
use Rattle.pad_terminal.proofs.Echo.{echo_more, echo_all}
use Rattle.pad_terminal.proofs.output.Output.echo.Goals as goal

pub loop-octet-preserved : goal.loop-octet-preserved
loop-octet-preserved c =
    let now = c.loop-octet.self-inside in
    let shows : Shown = shown (get_or c.args.octets.now c.loop-octet.octet-index 0 ∷ []) true c.args.params.now now.column in
    let all : List ℕ = now.text.items ++ shows.text in
    let text : keep_last now.text.capacity all ≡ newest all = rw c.loop-octet.invariant.capacity refl in
    let kept = length-drop (length all - now.text.capacity) all in
    rw c.echo_octet-self-inside.ensures.text (record {
      capacity = c.loop-octet.invariant.capacity;
      within = omega (arith, kept, c.loop-octet.invariant.capacity);
      left = echo_more c.args.octets.now c.loop-octet.octet-index c.args.params.now (output_of now)
          (record { text = keep_last now.text.capacity all; column = c.echo_octet-self-inside.result })
          _ c.loop-octet-test.true text c.echo_octet-self-inside.ensures.column c.loop-octet.invariant.left;
    })

pub returns : goal.returns
returns c =
    let now = c.loop-octet.self-inside in
    echo_all c.args.octets.now c.loop-octet.octet-index c.args.params.now (output_of now) _ (omega arith)
    c.loop-octet.invariant.within c.loop-octet.invariant.left
