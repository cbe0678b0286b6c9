use Rattle.std.proofs.Common.{ap, ◌∙◌, ◌≤◌, refl, sym, subst, List, ℕ, length}
use Rattle.flow_window.specs.Pool.{Buffer}
use Rattle.packet_channel.specs.ChannelView.{channel_of}
use Rattle.data_transfer.specs.Held.{datum_in}
use Rattle.packet_channel.specs.Held.{Channel as Holder}
use Rattle.data_transfer.specs.Traffic.{queue}
use Rattle.packet_channel.proofs.Fitting.{fits_queued}
use Rattle.packet_channel.proofs.Sending.{queued}
use Rattle.packet_channel.proofs.channel.Channel.send_buf.Goals as goal

pub returns-in-Err-clause-answer : goal.returns-in-Err-clause-answer
returns-in-Err-clause-answer c role = record {
  refused = record { first = c.in-Err.ensures.answer role (datum_in c.args.packet) (sym (c.octets.ensures.octets ∙ ap (λ (b : Buffer). b.octets) c.buffer.ensures.value)); same = refl };
  back = refl;
}

pub returns-clause-answer : goal.returns-clause-answer
returns-clause-answer c role =
    queued role c.args.flow c.args.self.now.channel (channel_of c.self.inside) (datum_in c.args.packet) c.queue.new.self.traffic
    (c.in_default.ensures.answer role (datum_in c.args.packet) (sym (c.octets.ensures.octets ∙ ap (λ (b : Buffer). b.octets) c.buffer.ensures.value)))
    (ap (λ (x : Holder). x.channel) c.self.view_is) c.queue.ensures.traffic

pub returns-clause-fits : goal.returns-clause-fits
returns-clause-fits c =
    fits_queued c.args.flow c.args.self.now _ (datum_in c.args.packet)
    (c.queue.ensures.traffic ∙ ap (λ (x : Holder). queue (datum_in c.args.packet) x.channel.traffic) c.self.view_is)
    c.queue.ensures.most
    (subst (λ (o : List ℕ). length o ≤ c.args.flow.size) (c.octets.ensures.octets ∙ ap (λ (b : Buffer). b.octets) c.buffer.ensures.value) c.in_default.ensures.fits.2)
