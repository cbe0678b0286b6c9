use Rattle.std.proofs.Common.{◌≡◌, ap, sym, subst, drop, List, [], ◌∷◌, Option, Some}
use Rattle.std.specs.Bool.{OnTrue, OnFalse}
use Rattle.std.specs.Prelude.{slice_get}
use Rattle.lapb.specs.Machine.{Octets}
use Rattle.packet_end.specs.PacketEnd.{without_first_frame}
use Rattle.switch_lines.specs.Lines.{SwitchLine}
use Rattle.switch_lines.specs.Switch.{with_end, frames_on}
use Rattle.switch_lines.specs.Touched.{IsSettled, IsTaken}
use Rattle.switch_lines.specs.Pooled.{PooledLine}
use Rattle.switch_lines.proofs.Pooled.{one_changed, one_seen, one_stays, one_written, seen_within, pooled_same}
use Rattle.switch_lines.proofs.Touched.{count_kept}
use Rattle.std.proofs.Common.{refl}
use Rattle.switch_lines.proofs.Calmer.{same_layer}
use Rattle.switch_lines.proofs.Moving.{one_calm}
use Rattle.switch_lines.proofs.lines.Lines.out.Goals as goal

pub returns-clause-lines : goal.returns-clause-lines
returns-clause-lines c =
    let within = seen_within c.self.inside.lines.items c.args.self.now c.args.line c.self.view_is c.requires in
    one_changed (with_end without_first_frame) c.self.inside.lines.items c.args.self.now c.args.line
    c.index_mut.result.now
    c.out.new.self c.self.view_is within c.index_mut.ensures.value (ap (λ (p : PooledLine). p.line) c.out.ensures.line)

pub invariant_of-self : goal.invariant_of-self
invariant_of-self c =
    let within = seen_within c.self.inside.lines.items c.args.self.now c.args.line c.self.view_is c.requires in
    let xs = c.self.inside.lines.items in
    let n = c.args.line in
    let new = c.out.new.self in
    record {
      most = count_kept xs n 64 new c.self.invariant.most;
      rest = one_stays c.self.inside.touched c.self.inside.untaken xs n c.index_mut.result.now new
          within c.index_mut.ensures.value
          (λ h. subst (λ (l : SwitchLine). IsSettled l) (sym (ap (λ (p : PooledLine). p.line) c.out.ensures.line))
          (record {
            timers = h.timers;
            sent = record {
              link = h.sent.link;
              frames = h.sent.frames;
              timer =
                  h.sent.timer;
            };
            offered = h.offered;
            no_relink = h.no_relink;
          }))
          (λ h. subst (λ (l : SwitchLine). IsTaken l) (sym (ap (λ (p : PooledLine). p.line) c.out.ensures.line))
          (record { frames = ap (λ (frames : List Octets). drop 1 frames) h.frames; notes = h.notes }))
          c.self.invariant.rest;
      moves = one_calm c.self.inside.to_relay c.self.inside.refusing (with_end without_first_frame) xs n c.index_mut.result.now new
          within c.index_mut.ensures.value (ap (λ (p : PooledLine). p.line) c.out.ensures.line)
          (λ l d. (refl, same_layer l.end.layer d)) c.self.invariant.moves;
      pooled = pooled_same c.self.inside.pool (with_end without_first_frame) c.self.inside.lines.items c.args.line c.index_mut.result.now c.out.new.self
          c.self.invariant.pooled within c.index_mut.ensures.value c.out.ensures.line;
    }

pub returns-clause-frame : goal.returns-clause-frame
returns-clause-frame c =
    let within = seen_within c.self.inside.lines.items c.args.self.now c.args.line c.self.view_is c.requires in
    let seen = one_seen c.self.inside.lines.items c.args.self.now c.args.line c.index_mut.result.now c.self.view_is within
    c.index_mut.ensures.value in
    let there = one_written c.self.inside.lines.items c.args.line c.out.new.self within in
    subst (λ (o : Option SwitchLine). OnTrue c.out.result
    (frames_on (slice_get c.args.self.now c.args.line) ≡ c.out.new.frame ∷ frames_on o)) (sym there)
    (subst (λ (o : Option SwitchLine). OnTrue c.out.result
    (frames_on o ≡ c.out.new.frame ∷ frames_on (Some c.out.new.self.line))) seen c.out.ensures.frame)

pub returns-clause-nothing : goal.returns-clause-nothing
returns-clause-nothing c =
    let within = seen_within c.self.inside.lines.items c.args.self.now c.args.line c.self.view_is c.requires in
    subst (λ (o : Option SwitchLine). OnFalse c.out.result (frames_on o ≡ []))
    (one_seen c.self.inside.lines.items c.args.self.now c.args.line c.index_mut.result.now c.self.view_is
    within c.index_mut.ensures.value) c.out.ensures.nothing
