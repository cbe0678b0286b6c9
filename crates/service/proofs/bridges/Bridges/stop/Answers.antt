use Rattle.std.proofs.Common.{◌<◌, length, refl, arith, ◌∙◌}
use Rattle.std.proofs.Math.ListN.{length-set}
use Rattle.service.proofs.EachBridge.{own_at}
use Rattle.service.proofs.bridges.Bridges.stop.Goals as goal

pub loop-place-preserved : goal.loop-place-preserved
loop-place-preserved c =
    let within : c.loop-place.place < length c.loop-place.self.ports.items = omega arith in
    record {
      count = length-set c.loop-place.self.ports.items c.loop-place.place _ ∙ c.loop-place.invariant.count;
      own = λ own.
          own_at c.loop-place.self.ports.items c.loop-place.place c.index_mut.result.now _ _ within c.index_mut.ensures.value refl
          (c.loop-place.invariant.own own);
    }
