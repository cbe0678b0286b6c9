use Rattle.std.proofs.Common.{◌∙◌, refl, subst}
use Rattle.std.specs.Prelude.{Option}
use Rattle.lapb.specs.declared.note.Note.{Note}
use Rattle.lapb.specs.Machine.{Octets}
use Rattle.lapb.specs.Octets.{on_octets}
use Rattle.xot_gateway.specs.Packets.{read_on}
use Rattle.gateway_end.specs.GatewayEnd.{Follow, GatewayEnd, Heeds, Takes}
use Rattle.gateway_end.proofs.Hearing.{hears_line}
use Rattle.gateway_end.proofs.Owned.{after}
use Rattle.gateway_end.proofs.end.GatewayEnd.on_frame.Goals as goal

pub invariant_of-self : goal.invariant_of-self
invariant_of-self c =
    let a = c.self.inside in
    after a
    (record {
      line = c.on_frame-received.new.self;
      calls = c.from_line.new.self;
      pool = c.on_frame-received.new.pool;
      next = c.heed.new.next;
      connections = a.connections;
      turn = a.turn;
    })
    c.self.invariant c.on_frame-received.ensures.pool c.on_frame-received.ensures.most c.on_frame-received.ensures.k
    c.on_frame-received.ensures.info
    (hears_line c.in-Some.packet.now (read_on c.heed.new.calls.line c.in-Some.packet.now) c.heed.new.calls c.from_line.new.self
    c.from_line.ensures ∙ c.heed.ensures.line)
    (c.heed.ensures.short a.line.end.link.info c.self.invariant.waits)

pub returns-in-Some-clause-calls : goal.returns-in-Some-clause-calls
returns-in-Some-clause-calls c =
    let a = c.self.inside in
    let taken = rw c.in-Some.is at c.on_frame-received.ensures.packet in
    subst (λ (x : GatewayEnd). Follow (on_octets x.line.link c.args.octets.now) x.calls c.from_line.new.self) c.self.view_is
    (record {
      middle = c.heed.new.calls;
      heeds = subst (λ (n : Note). Heeds n a.calls c.heed.new.calls) c.on_frame-received.ensures.note c.heed.ensures.calls;
      takes = subst (λ (o : Option Octets). Takes o c.heed.new.calls c.from_line.new.self) taken c.from_line.ensures;
    })

pub returns-in_default-clause-calls : goal.returns-in_default-clause-calls
returns-in_default-clause-calls c =
    let a = c.self.inside in
    let taken = rw c.in_default.is at c.on_frame-received.ensures.packet in
    subst (λ (x : GatewayEnd). Follow (on_octets x.line.link c.args.octets.now) x.calls c.heed.new.calls) c.self.view_is
    (record {
      middle = c.heed.new.calls;
      heeds = subst (λ (n : Note). Heeds n a.calls c.heed.new.calls) c.on_frame-received.ensures.note c.heed.ensures.calls;
      takes = subst (λ (o : Option Octets). Takes o c.heed.new.calls c.heed.new.calls) taken refl;
    })
