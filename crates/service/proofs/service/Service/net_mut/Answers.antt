use Rattle.std.proofs.Common.{◌≡◌, refl, length}
use Rattle.std.proofs.Props.{props}
use Rattle.frame_lines.specs.declared.line.Line.{Ghosts}
use Rattle.service.specs.AllBridges.{AreOnOwnChannels}
use Rattle.service.specs.Places.{AreApart}
use Rattle.service.specs.declared.exchange.Exchange.{Exchange}
use Rattle.service.specs.declared.service.Service.{Service}
use Rattle.service.proofs.service.Service.net_mut.Goals as goal

-- services are the same if all is the same but the proofs of what always holds of them
but_for_proofs : (D : Type 0) (L : Ghosts D) (s : Service D L) (exchange : Exchange D)
    (seated : length s.terminals.items ≡ length s.places.items) (apart : AreApart s.places.items)
    (channels : AreOnOwnChannels s.bridges.ports.items)
    → ◌≡◌ {A = Service D L} (record {
      exchange = exchange;
      lines = s.lines;
      places = s.places;
      terminals = s.terminals;
      bridges = s.bridges;
      pads = s.pads;
      stopping = s.stopping;
      seated = seated;
      apart = apart;
      channels = channels;
    }) (record s { exchange = exchange })
but_for_proofs D L s exchange seated apart channels =
    let seated_once : (x y : length s.terminals.items ≡ length s.places.items) → x ≡ y = hlevel props in
    let apart_once : (x y : AreApart s.places.items) → x ≡ y = hlevel props in
    let channels_once : (x y : AreOnOwnChannels s.bridges.ports.items) → x ≡ y = hlevel props in
    λ i. record s {
      exchange = exchange;
      seated = seated_once seated s.seated i;
      apart = apart_once apart s.apart i;
      channels = channels_once channels s.channels i;
    }

pub returns : goal.returns
returns g c =
    let s = c.args.self.now in ((refl, λ w. but_for_proofs _ _ s _ _ _ _), record { lends = tt; network = refl })
