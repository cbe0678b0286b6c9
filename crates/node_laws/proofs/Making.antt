-- The making of the nodes, and time.
use Rattle.std.specs.Prelude.{◌≡◌, ℕ}
use Rattle.std.proofs.Common.{refl, sym, ap, subst}
use Rattle.link_timers.specs.declared.role.Role.{Role}
use Rattle.link_timers.specs.declared.role.Role.TheVariants.{Dte, Dce}
use Rattle.packet_end.specs.PacketEnd as end
use Rattle.packet_end.specs.PacketEnd.{PacketEnd}
use Rattle.node_laws.specs.Lines.NodeLine.{At, Sends, Elapses, happens, made}
use Rattle.call_records.specs.Book.{Book, made_book}
use Rattle.node_laws.specs.LineRecords.Kept.{Setting, Kept}
use Rattle.node_laws.specs.LineRecords.Happens.{sent}
use Rattle.node_laws.proofs.LineRecords.LineLaw.{made_kept, silent_kept}
use Rattle.user_nodes.specs.Node.{NodeState, Pad, Host, end_of, drained, node_elapsed}
use Rattle.node_laws.specs.Nodes.{IsNode, StandsAt}
use Rattle.node_laws.specs.NodeClauses.{elapsed_line, ElapsesLaw, first_line, MakingLaw, NodesLaw}

-- ---- time

elapsed_node : (role : Role) (n : NodeState) (e : PacketEnd) (ticks : ℕ) → end_of n ≡ e → IsNode n → (end_of (node_elapsed ticks n) ≡ end.elapsed e ticks) × IsNode (node_elapsed ticks n)
elapsed_node role (Pad p) e ticks is h = (ap (λ (x : PacketEnd). end.elapsed x ticks) is, record { read = h.read; noted = h.noted; sent = h.sent })
elapsed_node role (Host x) e ticks is h = (ap (λ (y : PacketEnd). end.elapsed y ticks) is, record { read = h.read; noted = refl; sent = h.sent })

pub elapses_keeps : ElapsesLaw
elapses_keeps s b l ticks k = record {
  kept = silent_kept s b (happens (At Dte (Elapses (ticks Dte))) l) Dce (Elapses (ticks Dce)) tt (silent_kept s b l Dte (Elapses (ticks Dte)) tt k);
  nodes = λ role n h. nodes role n h;
}
  where
    nodes : (role : Role) (n : NodeState) → StandsAt role l n → StandsAt role (elapsed_line ticks l) (node_elapsed (ticks role) n)
    nodes Dte n h = let t = elapsed_node Dte n l.dte (ticks Dte) h.end h.node in record { end = t.0; node = t.1 }
    nodes Dce n h = let t = elapsed_node Dce n l.dce (ticks Dce) h.end h.node in record { end = t.0; node = t.1 }

-- ---- the making

drained_end : (n : NodeState) → end_of (drained n) ≡ sent (end_of n)
drained_end (Pad p) = refl
drained_end (Host e) = refl

abbrev first_book : Setting → Book
first_book s = made_book s.dte_node s.dce_node s.dte.channels s.dte.standing

pub making_keeps : MakingLaw
making_keeps s dte dce kept_up kept_down setting made_ = record {
  kept =
      subst (λ (e : PacketEnd). Kept s (first_book s) (first_line e (end_of dce) kept_up kept_down)) (sym made_.0)
      (subst (λ (e : PacketEnd). Kept s (first_book s) (first_line (end.made Dte s.dte) e kept_up kept_down)) (sym made_.1)
      (silent_kept s (first_book s) (happens (At Dte (Sends kept_up)) (made s.dte s.dce)) Dce (Sends kept_down) tt
      (silent_kept s (first_book s) (made s.dte s.dce) Dte (Sends kept_up) tt (made_kept s setting))));
  dte_there = λ h. record { end = drained_end dte; node = h };
  dce_there = λ h. record { end = drained_end dce; node = h };
}

pub made_nodes : NodesLaw
made_nodes = (
  λ c. record { read = refl; noted = refl; sent = refl },
  λ c. record { read = refl; noted = refl; sent = refl },
)
