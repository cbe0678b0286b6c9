use Rattle.std.proofs.Common.{◌∙◌, ap, List, Option, set, arith}
use Rattle.packet_end.specs.PacketEnd as end
use Rattle.switch_lines.specs.Lines.{SwitchLine}
use Rattle.switch_lines.specs.Switch.{notes_heeded, notes_of, with_end, quieted}
use Rattle.switch_lines.proofs.Pooled.{one_changed, one_seen, one_touched, seen_within, within_plain, pooled_set, serves_one}
use Rattle.switch_lines.proofs.Touched.{count_kept, count_written}
use Rattle.std.proofs.Common.{refl}
use Rattle.switch_lines.proofs.Calmer.{after_timer_calm}
use Rattle.switch_lines.proofs.Moving.{one_calm}
use Rattle.switch_lines.proofs.lines.Lines.on_timer.Goals as goal

pub returns : goal.returns
returns c =
    let within = seen_within c.self.inside.lines.items c.args.self.now c.args.line c.self.view_is c.requires.there in
    c.heed_line.ensures.lines
    ∙ ap (λ (ls : List SwitchLine). notes_heeded c.args.routes.now c.args.line ls)
    (one_changed (with_end (λ e. end.after_timer (quieted e) c.args.id)) c.self.inside.lines.items c.args.self.now
    c.args.line c.index_mut.result.now
    c.on_timer.new.self c.self.view_is within c.index_mut.ensures.value c.on_timer.ensures.line)

pub invariant_of-self : goal.invariant_of-self
invariant_of-self c =
    let within = seen_within c.self.inside.lines.items c.args.self.now c.args.line c.self.view_is c.requires.there in
    let xs = c.self.inside.lines.items in
    record {
      most = count_kept xs c.args.line 64 c.on_timer.new.self c.self.invariant.most;
      rest = one_touched c.self.inside.touched c.insert.new.self c.self.inside.untaken xs c.args.line c.on_timer.new.self
          within c.insert.ensures c.self.invariant.rest;
      moves = one_calm c.self.inside.to_relay c.self.inside.refusing (with_end (λ e. end.after_timer (quieted e) c.args.id)) xs
          c.args.line c.index_mut.result.now c.on_timer.new.self within
          c.index_mut.ensures.value c.on_timer.ensures.line (λ l d. (refl, after_timer_calm l.end c.args.id d))
          c.self.invariant.moves;
      pooled = pooled_set c.self.inside.pool c.on_timer.new.pool c.self.inside.lines.items c.args.line c.index_mut.result.now c.on_timer.new.self
          c.self.invariant.pooled within c.index_mut.ensures.value c.on_timer.ensures.pool c.on_timer.ensures.claim
          c.on_timer.ensures.within;
    }

pub on_timer-requires-clause-pool : goal.on_timer-requires-clause-pool
on_timer-requires-clause-pool c =
    let within = seen_within c.self.inside.lines.items c.args.self.now c.args.line c.self.view_is c.requires.there in
    serves_one c.self.inside.pool c.self.inside.lines.items c.args.line c.index_mut.result.now c.self.invariant.pooled within
    c.index_mut.ensures.value

pub on_timer-requires-clause-read : goal.on_timer-requires-clause-read
on_timer-requires-clause-read c =
    let within = seen_within c.self.inside.lines.items c.args.self.now c.args.line c.self.view_is c.requires.there in
    ap (λ (o : Option SwitchLine). notes_of o)
    (one_seen c.self.inside.lines.items c.args.self.now c.args.line c.index_mut.result.now c.self.view_is
    within c.index_mut.ensures.value)
    ∙ c.requires.read c.args.line

pub heed_line-requires : goal.heed_line-requires
heed_line-requires c =
    let xs = c.self.inside.lines.items in
    let new = c.on_timer.new.self in
    let kept = count_written xs c.args.line new in
    within_plain (set xs c.args.line new) c.args.line (omega (arith, kept, seen_within xs c.args.self.now c.args.line c.self.view_is c.requires.there))
