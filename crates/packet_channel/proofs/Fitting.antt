-- What a channel holds fits after a step.
use Rattle.std.proofs.Common.{◌≡◌, ◌+◌, ◌≤◌, true, length, sym, subst, arith}
use Rattle.data_transfer.specs.Held.{are_short}
use Rattle.data_transfer.specs.Packets.{Datum}
use Rattle.data_transfer.specs.Traffic.{Traffic, queue}
use Rattle.data_transfer.specs.declared.flow.Flow.{Flow}
use Rattle.data_transfer.proofs.Short.{short_append}
use Rattle.packet_channel.specs.Held.{Channel, Fits}

-- the same is held, and the same packets wait
pub fits_same : (flow : Flow) (old new : Channel) → new.held ≡ old.held →
    new.channel.traffic.arrived ≡ old.channel.traffic.arrived →
    new.channel.traffic.waiting ≡ old.channel.traffic.waiting → Fits flow old → Fits flow new
fits_same flow old new held arrived waiting fits = record {
  arrived = rw arrived fits.arrived;
  held = rw held fits.held;
  arrived_short = rw arrived fits.arrived_short;
  waiting_short = rw waiting fits.waiting_short;
}

-- a packet goes into the send queue
pub fits_queued : (flow : Flow) (old new : Channel) (d : Datum) →
    new.channel.traffic ≡ queue d old.channel.traffic → length new.held ≤ 8 + length new.channel.traffic.arrived →
    length d.octets ≤ flow.size → Fits flow old → Fits flow new
fits_queued flow old new d traffic most short fits =
    let few : length new.channel.traffic.arrived ≤ flow.window =
    subst (λ (t : Traffic). length t.arrived ≤ flow.window) (sym traffic) fits.arrived in
    record {
      arrived = few;
      held = omega (arith, few, most);
      arrived_short = subst (λ (t : Traffic). are_short flow.size t.arrived ≡ true) (sym traffic) fits.arrived_short;
      waiting_short = subst (λ (t : Traffic). are_short flow.size t.waiting ≡ true) (sym traffic)
          (short_append flow.size old.channel.traffic.waiting d fits.waiting_short short);
    }
