-- Why a packet is not taken.
use Rattle.std.specs.Prelude.{Option, Some, None, if◌then◌else◌}
use Rattle.lapb.specs.declared.phase.Phase.{Phase}
use Rattle.lapb.specs.declared.link.OfferFault.{OfferFault}
use Rattle.lapb.specs.declared.link.OfferFault.TheVariants as faults
use Rattle.lapb.specs.Machine.{Link, is_full}

abbrev pub refusal_in : Phase → Link → Option OfferFault
refusal_in Phase.Up l = if is_full l then Some faults.Full else None
refusal_in Phase.Down l = Some faults.Down
refusal_in Phase.SettingUp l = Some faults.Down
refusal_in Phase.Rejecting l = Some faults.Down

-- Down where the link is not up, else Full where as many packets are unacknowledged as may be
abbrev pub refusal : Link → Option OfferFault
refusal l = refusal_in l.phase l
