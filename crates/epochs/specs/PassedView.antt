-- What contracts see of that which passed in one direction of a call, and what always holds of it.
use Rattle.std.specs.Prelude.{◌-◌, length, vec_len, vec_capacity}
use Rattle.epochs.specs.Passed.{PassedState}
use Rattle.epochs.specs.EpochEnds.{outset, epochs_of, AreInOrder}
use Rattle.epochs.specs.declared.passed.Passed.TheInside.{Inside}

abbrev pub state_of : Inside → PassedState
state_of a = record {
  epochs = epochs_of a.ends.items a.counted a.packets.packets a.interrupts.items;
  octets = a.packets.spare;
  interrupts = vec_capacity a.interrupts - vec_len a.interrupts;
  ends = vec_capacity a.ends - vec_len a.ends;
}

abbrev pub EndsAreInOrder : Inside → Type 0
EndsAreInOrder a = AreInOrder outset a.ends.items (length a.packets.packets) (length a.interrupts.items)
