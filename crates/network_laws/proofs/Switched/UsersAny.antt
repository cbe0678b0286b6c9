-- What holds of any network that is served holds after an event at a node with users, after a loss, and when ticks pass.
use Rattle.frame_lines.specs.Lines.{LineService}
use Rattle.network_laws.specs.Switched.Laws.{EventLaw, LossLaw, PlacedTimeLaw}
use Rattle.network_laws.proofs.Switched.Addressed.{happened_addressed, lost_addressed}
use Rattle.network_laws.proofs.Switched.UsersEvents.{event_switched, lost_switched}
use Rattle.network_laws.proofs.Switched.UsersTime.{elapsed_switched}

pub event_any : (L : LineService) → EventLaw L
event_any L event line role s t n d = record {
  network = event_switched L event line role s t n.network d;
  addressed = happened_addressed L event line role s t n.addressed d;
}

pub loss_any : (L : LineService) → LossLaw L
loss_any L line d s t n w = record {
  network = lost_switched L line d s t n.network w;
  addressed = lost_addressed L line d s t n.addressed w;
}

pub time_any : (L : LineService) → PlacedTimeLaw L
time_any L s ticks n = record {
  network = elapsed_switched L s ticks n.network;
  addressed = record { registered = n.addressed.registered; own = n.addressed.own };
}
