use Rattle.std.proofs.Common.{◌∙◌, ap, sym, subst, drop, List, Option}
use Rattle.packet_end.specs.PacketEnd.{without_first_note}
use Rattle.switch_lines.specs.Switch.{with_end, notes_of}
use Rattle.std.specs.Prelude.{slice_get}
use Rattle.data_transfer.specs.Packets.{Note}
use Rattle.switch_lines.specs.Lines.{SwitchLine}
use Rattle.switch_lines.specs.Touched.{IsSettled, IsTaken}
use Rattle.switch_lines.specs.Pooled.{PooledLine}
use Rattle.switch_lines.proofs.Pooled.{one_changed, seen_within, one_stays, one_seen, pooled_same}
use Rattle.switch_lines.proofs.Touched.{count_kept}
use Rattle.std.proofs.Common.{refl}
use Rattle.switch_lines.proofs.Calmer.{same_layer}
use Rattle.switch_lines.proofs.Moving.{one_calm}
use Rattle.switch_lines.proofs.lines.Lines.notes.Goals as goal

pub returns-clause-lines : goal.returns-clause-lines
returns-clause-lines c =
    let within = seen_within c.self.inside.lines.items c.args.self.now c.args.line c.self.view_is c.requires in
    one_changed (with_end without_first_note) c.self.inside.lines.items c.args.self.now c.args.line
    c.index_mut.result.now c.notes.new.self c.self.view_is within c.index_mut.ensures.value
    (ap (λ (p : PooledLine). p.line) c.notes.ensures.line)

pub invariant_of-self : goal.invariant_of-self
invariant_of-self c =
    let within = seen_within c.self.inside.lines.items c.args.self.now c.args.line c.self.view_is c.requires in
    let xs = c.self.inside.lines.items in
    let n = c.args.line in
    let new = c.notes.new.self in
    record {
      most = count_kept xs n 64 new c.self.invariant.most;
      rest = one_stays c.self.inside.touched c.self.inside.untaken xs n c.index_mut.result.now new within
          c.index_mut.ensures.value
          (λ h. subst (λ (l : SwitchLine). IsSettled l) (sym (ap (λ (p : PooledLine). p.line) c.notes.ensures.line))
          (record { timers = h.timers; sent = h.sent; offered = h.offered; no_relink = h.no_relink }))
          (λ h. subst (λ (l : SwitchLine). IsTaken l) (sym (ap (λ (p : PooledLine). p.line) c.notes.ensures.line))
          (record { frames = h.frames; notes = ap (λ (notes : List Note). drop 1 notes) h.notes }))
          c.self.invariant.rest;
      moves = one_calm c.self.inside.to_relay c.self.inside.refusing (with_end without_first_note) xs n c.index_mut.result.now new within
          c.index_mut.ensures.value (ap (λ (p : PooledLine). p.line) c.notes.ensures.line)
          (λ l d. (refl, same_layer l.end.layer d)) c.self.invariant.moves;
      pooled = pooled_same c.self.inside.pool (with_end without_first_note) c.self.inside.lines.items c.args.line c.index_mut.result.now c.notes.new.self
          c.self.invariant.pooled within c.index_mut.ensures.value c.notes.ensures.line;
    }

pub returns-clause-note : goal.returns-clause-note
returns-clause-note c =
    let within = seen_within c.self.inside.lines.items c.args.self.now c.args.line c.self.view_is c.requires in
    c.notes.ensures.note
    ∙ ap (λ (o : Option SwitchLine). slice_get (notes_of o) 0)
    (one_seen c.self.inside.lines.items c.args.self.now c.args.line c.index_mut.result.now c.self.view_is within
    c.index_mut.ensures.value)
