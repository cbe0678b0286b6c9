-- An answer of empty lists, over the list of a network's nodes: one is there, whatever the answer before it said.
use Rattle.std.proofs.Common.{false, [], refl, arith}
use Rattle.std.specs.Global.{Vec}
use Rattle.net_events.specs.declared.answer.Answer.{Answer}
use Rattle.net_events.specs.declared.answer.Outcome.TheVariants.{Delivered}

abbrev emptied : {X Y : Type 0} → Vec X → Vec Y
emptied v = record {
  ptr = v.ptr;
  len = 0;
  cap = v.cap;
  alloc = v.alloc;
  items = [];
  ok = (refl, omega arith);
  small = v.small;
}

abbrev pub none_arrived : {X : Type 0} → Vec X → Answer
none_arrived v = record { frames = record { items = []; room = 0 }; notes = emptied v; text = emptied v; outcome = Delivered false }
