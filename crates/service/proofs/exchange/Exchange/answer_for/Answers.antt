use Rattle.std.proofs.Common.{refl}
use Rattle.packet_host.specs.declared.request.HostRequest.TheVariants.{Answer}
use Rattle.service.proofs.Bridged.{carries_ask}
use Rattle.service.proofs.exchange.Exchange.answer_for.Goals as goal

pub returns-then-done : goal.returns-then-done
returns-then-done g c =
    carries_ask g.L.Line.service c.args.at _ Answer _ _ _ _ _ _ c.ask_event.ensures refl c.happen-done.ensures.does
    c.answered.ensures

pub returns-else-done : goal.returns-else-done
returns-else-done g c =
    carries_ask g.L.Line.service c.args.at _ Answer _ _ _ _ _ _ c.ask_event.ensures refl c.happen-done.ensures.does
    c.answered.ensures
