-- What holds of a line between events holds after a turn of one of its nodes.
use Rattle.std.proofs.Common.{◌≡◌, Bool, List, ◌++◌, refl, sym, ap, ◌∙◌, subst}
use Rattle.link_timers.specs.declared.role.Role.{Role}
use Rattle.link_timers.specs.declared.role.Role.TheVariants.{Dte, Dce}
use Rattle.lapb.specs.Machine.{Octets}
use Rattle.lapb.specs.LinkLine.{chosen}
use Rattle.node_laws.specs.Lines.NodeLine as line
use Rattle.node_laws.specs.LineRecords.Kept.{Setting, Kept, coming_to}
use Rattle.node_laws.specs.LineRecords.Happens.{sent, with_event}
use Rattle.node_laws.specs.Nodes.{StandsAt}
use Rattle.node_laws.specs.Quiet.{IsQuiet}
use Rattle.user_nodes.specs.Node.{NodeState, Pad, Host, end_of, is_pad, drained, frames_of}
use Rattle.user_nodes.specs.Turn.{Turn}
use Rattle.frame_lines.specs.Lines.{Flights, flying, LineService, ArePut}
use Rattle.net_events.specs.OneLine.{LineState, node_at, with_turn, direction_of, direction_to}
use Rattle.network_laws.specs.IsLine.{NodeHolds, line_of, IsKept, AreQuiet, IsLine}
use Rattle.network_laws.proofs.Flying.{Landed, landed}
use Rattle.network_laws.proofs.NodeKinds.{SameNodes}

-- ---- the parts of a line after a turn

-- the node at the DTE after a turn of the node of this role
abbrev pub dte_after : Role → Turn → LineState → NodeState
dte_after Dte turn s = drained turn.node
dte_after Dce turn s = s.dte

-- what a turn leaves of what holds on any line
pub record LeavesLine (role : Role) (s : LineState) (turn : Turn) : Type 0 where
  pub same : SameNodes s.book turn.book
  pub quiet : IsQuiet (drained turn.node)
  pub kind : is_pad turn.node ≡ is_pad (node_at role s)
  pub typed : NodeHolds Dte (dte_after role turn s) turn.book

pub pad-drained : (n : NodeState) → is_pad (drained n) ≡ is_pad n
pad-drained (Pad p) = refl
pad-drained (Host e) = refl

pub end-drained : (n : NodeState) → end_of (drained n) ≡ sent (end_of n)
end-drained (Pad p) = refl
end-drained (Host e) = refl

pub after-turn : (L : LineService) (role : Role) (s : LineState) (turn : Turn) (l : Flights) → IsLine L s
    → LeavesLine role s turn → (L.faithful → IsKept (with_turn role turn l s)) → IsLine L (with_turn role turn l s)
after-turn L Dte s turn l n w kept = record {
  apart = n.apart;
  dte_node = w.same.dte ∙ n.dte_node;
  dce_node = w.same.dce ∙ n.dce_node;
  host = n.host;
  quiet = record { dte = w.quiet; dce = n.quiet.dce };
  typed = w.typed;
  kept = kept;
}
after-turn L Dce s turn l n w kept = record {
  apart = n.apart;
  dte_node = w.same.dte ∙ n.dte_node;
  dce_node = w.same.dce ∙ n.dce_node;
  host = pad-drained turn.node ∙ w.kind ∙ n.host;
  quiet = record { dte = n.quiet.dte; dce = w.quiet };
  typed = w.typed;
  kept = kept;
}

-- ---- the line after a turn

-- between its frames and those of the turn: `coming` are left on the way to the node of this role
pub record Comes (role : Role) (s : LineState) (l : Flights) (coming : List Octets) : Type 0 where
  pub own : flying (direction_of role) l ≡ flying (direction_of role) s.flights
  pub other : flying (direction_to role) l ≡ coming

line-is : (a b : line.Line) → a.dte ≡ b.dte → a.dce ≡ b.dce → a.up ≡ b.up → a.down ≡ b.down → a ≡ b
line-is a b p q r t = λ i. record { dte = p i; dce = q i; up = r i; down = t i }

line-after : (role : Role) (s : LineState) (turn : Turn) (mid l : Flights) (coming : List Octets)
    → Comes role s mid coming → (w : Landed (direction_of role) (frames_of turn.node) mid l)
    → line_of (with_turn role turn l s) ≡ with_event role (end_of turn.node) w.kept coming (line_of s)
line-after Dte s turn mid l coming c w =
    line-is (line_of (with_turn Dte turn l s)) (with_event Dte (end_of turn.node) w.kept coming (line_of s))
    (end-drained turn.node) refl
    (ap (λ (f : Flights). f.from_dte) w.is
    ∙ ap (λ (x : List Octets). x ++ chosen w.kept (frames_of turn.node)) c.own)
    (ap (λ (f : Flights). f.from_dce) w.is ∙ c.other)
line-after Dce s turn mid l coming c w =
    line-is (line_of (with_turn Dce turn l s)) (with_event Dce (end_of turn.node) w.kept coming (line_of s))
    refl (end-drained turn.node)
    (ap (λ (f : Flights). f.from_dte) w.is ∙ c.other)
    (ap (λ (f : Flights). f.from_dce) w.is
    ∙ ap (λ (x : List Octets). x ++ chosen w.kept (frames_of turn.node)) c.own)

-- where nothing was taken from the line
pub comes-same : (role : Role) (s : LineState) → Comes role s s.flights (coming_to role (line_of s))
comes-same Dte s = record { own = refl; other = refl }
comes-same Dce s = record { own = refl; other = refl }

kept-by : (role : Role) (s : LineState) (turn : Turn) (mid l : Flights) (coming : List Octets)
    → Comes role s mid coming → (w : Landed (direction_of role) (frames_of turn.node) mid l) → (setting : Setting)
    → Kept setting turn.book (with_event role (end_of turn.node) w.kept coming (line_of s))
    → IsKept (with_turn role turn l s)
kept-by Dte s turn mid l coming c w setting k =
    record { setting = setting; kept = subst (Kept setting turn.book) (sym (line-after Dte s turn mid l coming c w)) k }
kept-by Dce s turn mid l coming c w setting k =
    record { setting = setting; kept = subst (Kept setting turn.book) (sym (line-after Dce s turn mid l coming c w)) k }

pub kept-after : (L : LineService) (role : Role) (s : LineState) (turn : Turn) (mid l : Flights) (coming : List Octets)
    → Comes role s mid coming → ArePut L (direction_of role) (frames_of turn.node) mid l → (setting : Setting)
    → ((kept : List Bool) → Kept setting turn.book (with_event role (end_of turn.node) kept coming (line_of s)))
    → IsKept (with_turn role turn l s)
kept-after L role s turn mid l coming c put setting keeps =
    let w = landed L (direction_of role) (frames_of turn.node) mid l put in
    kept-by role s turn mid l coming c w setting (keeps w.kept)

-- ---- the nodes stand at their ends

pub stands : (role : Role) (s : LineState) → AreQuiet s → StandsAt role (line_of s) (node_at role s)
stands Dte s q = record { end = refl; node = q.dte.node }
stands Dce s q = record { end = refl; node = q.dce.node }
