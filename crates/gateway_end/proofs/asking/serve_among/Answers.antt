use Rattle.std.proofs.Common.{◌∙◌, [], refl, ap}
use Rattle.xot_gateway.specs.declared.calls.Work.{Work}
use Rattle.xot_gateway.specs.declared.calls.Work.TheVariants as work
use Rattle.gateway_end.specs.Gives.{nothing, serves, served}
use Rattle.gateway_end.proofs.asking.serve_among.Goals as goal
use Rattle.gateway_end.proofs.asking.serve_among.Goals.{in-Taken, in-Nothing}

pub loop-number-init : goal.loop-number-init
loop-number-init c = record { gives = nothing; quiet = λ packet. refl; line = refl }

pub returns-in-Sends-clause-gives : goal.returns-in-Sends-clause-gives
returns-in-Sends-clause-gives c =
    serves [] c.loop-number.calls c.serve.new.self c.loop-number.number work.Sends c.loop-number.packet.items
    c.serve.new.out.items c.loop-number.invariant.gives c.in-Sends.ensures.calls

pub loop-number-preserved : goal.loop-number-preserved
loop-number-preserved c = elim c.match-serve.branch [
  | in-Taken w ↦ record {
    gives = serves [] c.loop-number.calls c.serve.new.self c.loop-number.number work.Taken c.loop-number.packet.items
        c.serve.new.out.items c.loop-number.invariant.gives w.in-Taken.ensures.calls;
    quiet = λ packet. ap (λ (x : Work). served x packet) w.work-is;
    line = w.in-Taken.ensures.calls.line ∙ c.loop-number.invariant.line;
  }
  | in-Nothing w ↦ record {
    gives = serves [] c.loop-number.calls c.serve.new.self c.loop-number.number work.Nothing c.loop-number.packet.items
        c.serve.new.out.items c.loop-number.invariant.gives w.in-Nothing.ensures.calls;
    quiet = λ packet. ap (λ (x : Work). served x packet) w.work-is ∙ c.loop-number.invariant.quiet packet;
    line = w.in-Nothing.ensures.calls.line ∙ c.loop-number.invariant.line;
  }
]

pub returns-clause-fits : goal.returns-clause-fits
returns-clause-fits c = λ is. let none = rw is at (c.loop-number.invariant.quiet []) in absurd (cc)

pub returns-in-Sends-clause-next : goal.returns-in-Sends-clause-next
returns-in-Sends-clause-next c = λ _. record {
  number = c.loop-number.number;
  next = refl;
  middle = c.loop-number.calls;
  asked = c.loop-number.invariant.gives;
  old = c.loop-number.packet.items;
  serves = c.in-Sends.ensures.calls;
}

pub returns-clause-next : goal.returns-clause-next
returns-clause-next c = λ is. let none = rw is at (c.loop-number.invariant.quiet []) in absurd (cc)
