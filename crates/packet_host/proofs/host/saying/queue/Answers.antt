use Rattle.std.proofs.Common.{◌≡◌, ◌∙◌, ◌<◌, true, List, ℕ, length, take, drop, false, sym, ap, arith, rules, tests}
use Rattle.data_transfer.specs.Cutting.{cut}
use Rattle.data_transfer.proofs.Pieces.{some_full, one_full, cut_more, full_of}
use Rattle.packet_channel.specs.Channel.{Request}
use Rattle.data_transfer.specs.Packets.{Datum}
use Rattle.packet_end.specs.PacketEnd.{PacketEnd, asked}
use Rattle.packet_host.specs.Saying.{message, queued}
use Rattle.packet_host.proofs.host.saying.queue.Goals as goal

pub loop-preserved : goal.loop-preserved
loop-preserved c =
    let size = c.flow-size.result.size in
    let is = c.flow-size.ensures.allowed.size_is in
    let rest = c.loop.rest.now in
    let others = c.split_at.result.1.now in
    let left = c.loop.invariant.left in
    let whole : Datum = message rest c.args.qualified c.args.delivery in
    let long : size < length rest = some_full size rest is (omega (arith, left, c.loop-test.true)) in
    let front : c.split_at.result.0.now ≡ take size rest = c.split_at.ensures.front ∙ ap (λ (n : ℕ). take n rest) c.from.ensures in
    let back : others ≡ drop size rest = c.split_at.ensures.back ∙ ap (λ (n : ℕ). drop n rest) c.from.ensures in
    let sent : c.ask.new.self ≡ asked c.loop.end c.args.channel (Request.Sending (full_of size whole)) = c.ask.ensures.end
    ∙ ap (λ (octets : List ℕ). asked c.loop.end c.args.channel
    (Request.Sending (record { octets = octets; more = true; qualified = c.args.qualified; delivery = false }))) front in
    record {
      left = rw back (omega (arith, one_full size rest is long, left, c.loop-test.true));
      queued =
          ap (λ (e : PacketEnd). queued c.args.channel (cut size (message others c.args.qualified c.args.delivery)) e) sent
          ∙ ap (λ (octets : List ℕ). queued c.args.channel (cut size (message octets c.args.qualified c.args.delivery))
          (asked c.loop.end c.args.channel (Request.Sending (full_of size whole)))) back
          ∙ sym (ap (λ (ds : List Datum). queued c.args.channel ds c.loop.end) (cut_more size whole is long))
          ∙ c.loop.invariant.queued;
    }

pub returns : goal.returns
returns c = search (rules, tests)
