-- What holds of a line of a network holds after each event at its nodes, a loss and ticks that pass.
use Rattle.std.proofs.Common.{◌≡◌, ℕ, refl, sym, ◌∙◌, subst}
use Rattle.link_timers.specs.declared.role.Role.{Role}
use Rattle.link_timers.specs.declared.role.Role.TheVariants.{Dte, Dce}
use Rattle.packet_end.specs.PacketEnd as end
use Rattle.call_records.specs.Book.{Book}
use Rattle.node_laws.specs.LineRecords.Kept.{Kept}
use Rattle.node_laws.specs.NodeClauses.{elapsed_line}
use Rattle.user_nodes.specs.Node.{NodeState, Pad, Host, end_of, is_pad, node_elapsed}
use Rattle.frame_lines.specs.declared.line.Direction.{Direction}
use Rattle.frame_lines.specs.declared.line.Direction.TheVariants.{FromDte, FromDce}
use Rattle.frame_lines.specs.Lines.{Flights, without_first, LineService}
use Rattle.net_events.specs.OneLine.{LineState, node_at}
use Rattle.net_events.specs.NodeEvents.{NodeEvent, turn_of, Happened}
use Rattle.network_laws.specs.IsLine.{NodeHolds, line_of, IsKept, IsLine}
use Rattle.network_laws.specs.LineLaw.{elapsed}
use Rattle.network_laws.proofs.Fitting.{after-turn}
use Rattle.network_laws.proofs.Leaving.{leaves}
use Rattle.network_laws.proofs.FaithfulLines.{keeps}
use Rattle.node_laws.proofs.LineRecords.LineLaw as keeping_law
use Rattle.node_laws.proofs.Making as making_law
use Rattle.node_laws.proofs.QuietTurns as quiet_law
use Rattle.node_laws.proofs.Pads.Holding as pad_law

pub happened_line : (L : LineService) (event : NodeEvent) (role : Role) (s t : LineState) → IsLine L s
    → Happened L event role s t → IsLine L t
happened_line L event role s t n d =
    subst (IsLine L) (sym d.others)
    (after-turn L role s (turn_of event role (node_at role s) s.book) t.flights n (leaves L event role s n d.is_for)
    (λ f. keeps L event role s d.between t.flights n d.is_for (d.left f) (d.put f) (n.kept f)))

-- ---- a frame is lost

with-flights : (L : LineService) (s : LineState) (l : Flights) → IsLine L s
    → (L.faithful → IsKept (record s { flights = l })) → IsLine L (record s { flights = l })
with-flights L s l n kept = record {
  apart = n.apart;
  dte_node = n.dte_node;
  dce_node = n.dce_node;
  host = n.host;
  quiet = record { dte = n.quiet.dte; dce = n.quiet.dce };
  typed = n.typed;
  kept = kept;
}

lost-kept : (d : Direction) (s : LineState) → IsKept s → IsKept (record s { flights = without_first d s.flights })
lost-kept FromDte s k = record { setting = k.setting; kept = keeping_law.loss_kept k.setting s.book (line_of s) Dce k.kept }
lost-kept FromDce s k = record { setting = k.setting; kept = keeping_law.loss_kept k.setting s.book (line_of s) Dte k.kept }

pub lost_line : (L : LineService) (d : Direction) (s : LineState) (l : Flights) → IsLine L s
    → (L.faithful → l ≡ without_first d s.flights) → IsLine L (record s { flights = l })
lost_line L d s l n rest = with-flights L s l n (λ f.
    let K : Flights → Type 0 = λ x. IsKept (record s { flights = x }) in subst K (sym (rest f)) (lost-kept d s (n.kept f)))

-- ---- ticks pass

elapsed-end : (ticks : ℕ) (n : NodeState) → end_of (node_elapsed ticks n) ≡ end.elapsed (end_of n) ticks
elapsed-end ticks (Pad p) = refl
elapsed-end ticks (Host e) = refl

elapsed-kind : (ticks : ℕ) (n : NodeState) → is_pad (node_elapsed ticks n) ≡ is_pad n
elapsed-kind ticks (Pad p) = refl
elapsed-kind ticks (Host e) = refl

elapsed-line : (ticks : Role → ℕ) (s : LineState) → line_of (elapsed ticks s) ≡ elapsed_line ticks (line_of s)
elapsed-line ticks s = λ i. record {
  dte = elapsed-end (ticks Dte) s.dte i;
  dce = elapsed-end (ticks Dce) s.dce i;
  up = s.flights.from_dte;
  down = s.flights.from_dce;
}

elapsed-typed : (ticks : ℕ) (n : NodeState) (b : Book) → NodeHolds Dte n b → NodeHolds Dte (node_elapsed ticks n) b
elapsed-typed ticks (Pad p) b h = pad_law.time_kept Dte p ticks b h
elapsed-typed ticks (Host e) b h = tt

pub elapsed_lines : (L : LineService) (s : LineState) (ticks : Role → ℕ) → IsLine L s → IsLine L (elapsed ticks s)
elapsed_lines L s ticks n = record {
  apart = n.apart;
  dte_node = n.dte_node;
  dce_node = n.dce_node;
  host = elapsed-kind (ticks Dce) s.dce ∙ n.host;
  quiet = record {
    dte = quiet_law.quiet-elapses s.dte (ticks Dte) n.quiet.dte;
    dce = quiet_law.quiet-elapses s.dce (ticks Dce) n.quiet.dce;
  };
  typed = elapsed-typed (ticks Dte) s.dte s.book n.typed;
  kept = λ f. let k = n.kept f in record {
    setting = k.setting;
    kept = subst (Kept k.setting s.book) (sym (elapsed-line ticks s))
        (making_law.elapses_keeps k.setting s.book (line_of s) ticks k.kept).kept;
  };
}
