-- Which acts at an end can be read at the other one: a call that is placed carries what a Call Request can.
use Rattle.std.specs.Prelude.{List, [], ◌∷◌}
use Rattle.packet_laws.specs.Readable.{CanBePlaced}
use Rattle.node_laws.specs.Lines.NodeLine.{Act, Event, Calls, At}

abbrev pub IsFit : Act → Type 0
IsFit (Calls parts) = CanBePlaced parts
IsFit act = Unit {0}

abbrev pub IsFitEvent : Event → Type 0
IsFitEvent (At role act) = IsFit act
IsFitEvent event = Unit {0}

abbrev pub AreFit : List Event → Type 0
AreFit [] = Unit {0}
AreFit (event ∷ events) = IsFitEvent event × AreFit events
