use Rattle.std.proofs.Common.{◌≡◌, ◌∙◌, ◌+◌, ◌<◌, sym, Some, None, Option, ℕ, List, take, length, arith, subst}
use Rattle.std.specs.Prelude.{slice_get, true, MatchOption}
use Rattle.packet_channel.specs.Channel.{Channel}
use Rattle.packet_layer.specs.Layer.{is_free, highest_free}
use Rattle.packet_layer.specs.Free.{IsFreeAt}
use Rattle.packet_layer.specs.Held.{plain}
use Rattle.packet_layer.proofs.Places.{at_place}
use Rattle.packet_layer.proofs.Placed.{plain_at, plain_length}
use Rattle.packet_layer.proofs.FreeChannels.{highest_found, highest_goes_on}
use Rattle.packet_layer.proofs.layer.calls.highest_free.Goals as goal
use Rattle.packet_layer.proofs.layer.calls.highest_free.Goals.{then-is_free, else-is_free}

-- the highest free one of the first n channels, if any
abbrev Found : List Channel → ℕ → Option ℕ → Type 0
Found chs n found = MatchOption found (highest_free (take n chs) ≡ None) (λ place. (highest_free (take n chs) ≡ Some (place + 1)) × IsFreeAt chs place)

same_found : (chs : List Channel) (n m : ℕ) (found : Option ℕ) → highest_free (take m chs) ≡ highest_free (take n chs) → Found chs n found → Found chs m found
same_found chs n m None e h = e ∙ h
same_found chs n m (Some place) e h = (e ∙ h.0, h.1)

now_found : (chs : List Channel) (i : ℕ) (ch : Channel) → i < length chs → slice_get chs i ≡ Some ch → is_free ch ≡ true → Found chs (i + 1) (Some i)
now_found chs i ch within found free = (highest_found chs i ch found free, record { there = within; free = λ x h. let e : x ≡ ch = cc in rw e free })

pub loop-place-preserved : goal.loop-place-preserved
loop-place-preserved c =
    let chs = plain c.args.channels.now in
    let i = c.loop-place.place in
    let held = c.index-channels-place.result in
    let ch = held.channel in
    let long = plain_length c.args.channels.now in
    let found : slice_get chs i ≡ Some ch = plain_at c.args.channels.now i held (at_place c.args.channels.now i held (omega arith) c.index-channels-place.is) in
    elim c.if-is_free.branch [
      | then-is_free w ↦ subst (λ (o : Option ℕ). Found chs (i + 1) o) (sym w.found-is) (now_found chs i ch (omega (arith, long)) found (sym c.is_free.ensures ∙ w.if-is_free.true))
      | else-is_free w ↦ subst (λ (o : Option ℕ). Found chs (i + 1) o) (sym w.found-is) (same_found chs i (i + 1) c.loop-place.found (highest_goes_on chs i ch found (sym c.is_free.ensures ∙ w.if-is_free.false)) c.loop-place.invariant)
    ]
