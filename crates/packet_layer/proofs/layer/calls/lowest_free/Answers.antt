use Rattle.std.proofs.Common.{◌≡◌, ◌∙◌, sym, Some, arith}
use Rattle.std.specs.Prelude.{slice_get, true}
use Rattle.packet_layer.specs.Layer.{is_free}
use Rattle.packet_layer.specs.Held.{plain}
use Rattle.packet_layer.proofs.Places.{at_place}
use Rattle.packet_layer.proofs.Placed.{plain_at, plain_length}
use Rattle.packet_layer.proofs.FreeChannels.{lowest_found, lowest_goes_on}
use Rattle.packet_layer.proofs.layer.calls.lowest_free.Goals as goal

pub returns-then-is_free : goal.returns-then-is_free
returns-then-is_free c =
    let held = c.index-channels-place.result in
    let chs = plain c.args.channels.now in
    let ch = held.channel in
    let found : slice_get chs c.loop-place.place ≡ Some ch = plain_at c.args.channels.now c.loop-place.place held (at_place c.args.channels.now c.loop-place.place held (omega arith) c.index-channels-place.is) in
    let free : is_free ch ≡ true = sym c.is_free.ensures ∙ c.if-is_free.true in (
      lowest_found chs c.loop-place.place ch found free c.loop-place.invariant,
      record { there = omega (arith, plain_length c.args.channels.now); free = λ x h. let e : x ≡ ch = cc in rw e free },
    )

pub loop-place-preserved : goal.loop-place-preserved
loop-place-preserved c =
    let held = c.index-channels-place.result in
    let chs = plain c.args.channels.now in
    let ch = held.channel in
    let found : slice_get chs c.loop-place.place ≡ Some ch = plain_at c.args.channels.now c.loop-place.place held (at_place c.args.channels.now c.loop-place.place held (omega arith) c.index-channels-place.is) in
    lowest_goes_on chs c.loop-place.place ch found (sym c.is_free.ensures ∙ c.if-is_free.false) c.loop-place.invariant
