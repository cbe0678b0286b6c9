use Rattle.std.proofs.Common.{◌∙◌, ap, sym, refl, arith, List, map}
use Rattle.std.proofs.lemmas.List.{drop_all, length-map}
use Rattle.flow_window.proofs.Weights.{balances_same, balances_then}
use Rattle.packet_channel.specs.Channel.{Request}
use Rattle.packet_end.proofs.Pools.{serves_after}
use Rattle.joined_line.specs.OfLine.{asked_on}
use Rattle.joined_line.specs.Pooled.{Claim}
use Rattle.joined_line.proofs.Asking.{asked_next}
use Rattle.joined_line.proofs.line.SwitchLine.send_all.Goals as goal

pub loop-n-init : goal.loop-n-init
loop-n-init c = record { line = refl; claim = refl; serves = c.requires.pool; within = c.requires.within; pool = balances_same c.args.pool.now c.args.self.now.held }

pub ask-requires : goal.ask-requires
ask-requires c = c.loop-n.invariant.serves

pub loop-n-preserved : goal.loop-n-preserved
loop-n-preserved c =
    let qs = map Request.Sending c.args.due.now.made in
    let i = c.loop-n.invariant in
    let same = c.ask.ensures.claim in
    record {
      line = asked_next c.args.channel qs c.loop-n.n _ c.loop-n.self.line c.ask.new.self.line c.request.ensures c.ask.ensures.line ∙ i.line;
      claim = same ∙ i.claim;
      serves = serves_after c.loop-n.pool c.ask.new.pool c.loop-n.self.held c.ask.new.self.held c.loop-n.self.claim.share c.ask.new.self.claim.share
          c.loop-n.self.claim.info c.ask.new.self.claim.info i.serves c.ask.ensures.pool (ap (λ (x : Claim). x.share) same) (ap (λ (x : Claim). x.info) same);
      within = c.ask.ensures.within;
      pool = balances_then c.args.pool.now c.loop-n.pool c.ask.new.pool c.args.self.now.held c.loop-n.self.held c.ask.new.self.held i.pool c.ask.ensures.pool;
    }

pub returns-clause-line : goal.returns-clause-line
returns-clause-line c =
    let qs = map Request.Sending c.args.due.now.made in
    let long = length-map c.args.due.now.made Request.Sending in
    sym (ap (λ (rs : List Request). asked_on c.args.channel rs c.loop-n.self.line)
    (drop_all c.loop-n.n qs (omega (arith, long, c.loop-n-test.false, c.count-n-end.ensures)))) ∙ c.loop-n.invariant.line

pub returns-clause-within : goal.returns-clause-within
returns-clause-within c = c.loop-n.invariant.within
