use Rattle.std.proofs.Common.{◌∙◌, ap}
use Rattle.line_end.specs.End as ends
use Rattle.line_end.specs.End.{End}
use Rattle.gateway_end.specs.GatewayEnd.{GatewayEnd}
use Rattle.gateway_end.specs.Waiting.{waiting_in}
use Rattle.gateway_end.proofs.end.GatewayEnd.finish.Goals as goal

pub returns : goal.returns
returns c =
    let a = c.self.inside in
    let with_line : End → GatewayEnd = λ e. record { line = e; calls = a.calls; waiting = waiting_in a.next } in
    record {
      passed = c.pass_packets-took.new.self;
      pass = c.pass_packets-took.ensures.pass;
      held_back = c.pass_packets-took.ensures.held_back;
      settles =
          ap with_line c.settle.ensures.end
          ∙ ap (λ (x : GatewayEnd). record x { line = ends.settled x.line }) c.self.view_is;
    }
