use Rattle.std.proofs.Common.{ap, ◌∙◌, refl, List, ℕ}
use Rattle.packet_channel.specs.Channel.Request.{Sending}
use Rattle.packet_channel.specs.ChannelView.{channel_of}
use Rattle.data_transfer.specs.Held.{Kept, datum_in}
use Rattle.packet_channel.specs.Held.{Channel as Holder}
use Rattle.data_transfer.specs.Packets.{Datum}
use Rattle.data_transfer.specs.Traffic.{queue}
use Rattle.packet_channel.proofs.Fitting.{fits_queued}
use Rattle.packet_channel.proofs.Sending.{queued, told}
use Rattle.packet_channel.proofs.channel.Channel.send.Goals as goal

pub returns-in_err-check_send-clause-answer : goal.returns-in_err-check_send-clause-answer
returns-in_err-check_send-clause-answer c role =
    let d : Datum = record { octets = c.args.octets.now; more = c.args.more; qualified = c.args.qualified; delivery = c.args.delivery } in
    told role c.args.flow c.args.self.now.channel (Sending d) c.from_residual.result c.in_err-check_send.field-0.0
    c.from_residual.ensures.1 (c.in_err-check_send.ensures.answer role d refl)

pub returns-clause-answer : goal.returns-clause-answer
returns-clause-answer c role =
    let d : Datum = record { octets = c.args.octets.now; more = c.args.more; qualified = c.args.qualified; delivery = c.args.delivery } in
    let t = c.self.inside.traffic.traffic in
    queued role c.args.flow c.args.self.now.channel (channel_of c.self.inside) d c.queue.new.self.traffic
    (c.in_ok-check_send.ensures.answer role d refl)
    (ap (λ (x : Holder). x.channel) c.self.view_is)
    (c.queue.ensures.traffic
    ∙ ap (λ (p : Kept). queue (datum_in p) t) c.new.ensures
    ∙ ap (λ (o : List ℕ). queue (record d { octets = o }) t) c.place-buffer.ensures.put.0)

pub returns-clause-fits : goal.returns-clause-fits
returns-clause-fits c =
    let d : Datum = record { octets = c.args.octets.now; more = c.args.more; qualified = c.args.qualified; delivery = c.args.delivery } in
    let t = c.self.inside.traffic.traffic in
    fits_queued c.args.flow c.args.self.now _ d
    (c.queue.ensures.traffic
    ∙ ap (λ (p : Kept). queue (datum_in p) t) c.new.ensures
    ∙ ap (λ (o : List ℕ). queue (record d { octets = o }) t) c.place-buffer.ensures.put.0
    ∙ ap (λ (x : Holder). queue d x.channel.traffic) c.self.view_is)
    c.queue.ensures.most c.in_ok-check_send.ensures.fits.2
