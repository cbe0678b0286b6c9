-- What is kept of a faithful line is kept after each event.
use Rattle.std.proofs.Common.{◌≡◌, Bool, List, [], ◌∷◌, ◌++◌, drop, Some, refl, sym, ap, ◌∙◌, subst}
use Rattle.std.specs.Prelude.{slice_get}
use Rattle.link_timers.specs.declared.role.Role.{Role}
use Rattle.link_timers.specs.declared.role.Role.TheVariants.{Dte, Dce}
use Rattle.lapb.specs.Machine.{Octets}
use Rattle.lapb.specs.LinkLine.{chosen}
use Rattle.packet_end.specs.PacketEnd.{PacketEnd}
use Rattle.packet_end.specs.PacketEnd as end
use Rattle.node_laws.specs.Lines.NodeLine as line
use Rattle.node_laws.specs.LineRecords.Kept.{Kept, coming_to}
use Rattle.node_laws.specs.LineRecords.Happens.{sent, with_event, with_restart}
use Rattle.user_nodes.specs.Node.{NodeState, Pad, Host, end_of, drained, frames_of}
use Rattle.user_nodes.specs.Turn.{Turn}
use Rattle.user_nodes.specs.LineTurns.{restarts}
use Rattle.user_nodes.specs.NodeEvents.{restarted}
use Rattle.frame_lines.specs.declared.line.Direction.TheVariants.{FromDte, FromDce}
use Rattle.frame_lines.specs.Lines.{Flights, no_flights, flying, LineService, ArePut}
use Rattle.net_events.specs.OneLine.{LineState, node_at, with_turn, direction_of, direction_to}
use Rattle.net_events.specs.NodeEvents.{NodeEvent, IsFor, turn_of, LeftBy}
use Rattle.net_events.specs.NodeEvents.NodeEvent.{Hears, Expires, Relinks, Restarts, Calls, Asks, Refuses, Says}
use Rattle.net_events.specs.NodeEvents.NodeEvent.{Takes, AtTerminal}
use Rattle.network_laws.specs.IsLine.{line_of, IsKept, AreQuiet, IsLine}
use Rattle.network_laws.proofs.Flying.{Landed, landed}
use Rattle.network_laws.proofs.Fitting.{Comes, comes-same, kept-after, stands}
use Rattle.network_laws.proofs.Leaving.{host-stands}
use Rattle.node_laws.proofs.Hearing as hearing_law
use Rattle.node_laws.proofs.Asking as asking_law

-- ---- a frame arrives

pub first-of : (l : List Octets) (x : Octets) → slice_get l 0 ≡ Some x → l ≡ x ∷ drop 1 l
first-of [] x e = absurd (cc)
first-of (y ∷ ys) x e = let same : y ≡ x = cc in ap (λ z. z ∷ ys) same

-- the frames that are left on the way to the end of a role
abbrev rest_to : Role → LineState → List Octets
rest_to role s = drop 1 (coming_to role (line_of s))

comes-less : (role : Role) (s : LineState) (mid : Flights)
    → mid ≡ Rattle.frame_lines.specs.Lines.without_first (direction_to role) s.flights → Comes role s mid (rest_to role s)
comes-less Dte s mid is = record { own = ap (λ (x : Flights). x.from_dte) is; other = ap (λ (x : Flights). x.from_dce) is }
comes-less Dce s mid is = record { own = ap (λ (x : Flights). x.from_dce) is; other = ap (λ (x : Flights). x.from_dte) is }

arrives : (role : Role) (s : LineState) (octets : Octets) → slice_get (flying (direction_to role) s.flights) 0 ≡ Some octets
    → coming_to role (line_of s) ≡ octets ∷ rest_to role s
arrives Dte s octets first = first-of s.flights.from_dce octets first
arrives Dce s octets first = first-of s.flights.from_dte octets first

-- ---- a restart: all frames are lost

-- an end whose frames went
went : (e : PacketEnd) → e.line.frames ≡ [] → e ≡ sent e
went e h = ap (λ (fs : List Octets). record e { line = record e.line { frames = fs } }) h

restarted-end : (n : NodeState) → end_of (drained (restarted n)) ≡ sent (end.restarted (end_of n))
restarted-end (Pad p) = refl
restarted-end (Host e) = refl

restarted-frames : (n : NodeState) → frames_of (restarted n) ≡ (end.restarted (end_of n)).line.frames
restarted-frames (Pad p) = refl
restarted-frames (Host e) = refl

line-is : (a b : line.Line) → a.dte ≡ b.dte → a.dce ≡ b.dce → a.up ≡ b.up → a.down ≡ b.down → a ≡ b
line-is a b p q r t = λ i. record { dte = p i; dce = q i; up = r i; down = t i }

restart-line : (role : Role) (s : LineState) (mid l : Flights) → AreQuiet s → mid ≡ no_flights
    → (w : Landed (direction_of role) (frames_of (restarts role (node_at role s) s.book).node) mid l)
    → line_of (with_turn role (restarts role (node_at role s) s.book) l s) ≡ with_restart role w.kept (line_of s)
restart-line Dte s mid l q none w =
    line-is (line_of (with_turn Dte (restarts Dte s.dte s.book) l s)) (with_restart Dte w.kept (line_of s))
    (restarted-end s.dte) (went (end_of s.dce) q.dce.node.sent)
    (ap (λ (f : Flights). f.from_dte) w.is
    ∙ ap (λ (f : Flights). f.from_dte ++ chosen w.kept (frames_of (restarted s.dte))) none
    ∙ ap (λ (fs : List Octets). chosen w.kept fs) (restarted-frames s.dte))
    (ap (λ (f : Flights). f.from_dce) w.is ∙ ap (λ (f : Flights). f.from_dce) none)
restart-line Dce s mid l q none w =
    line-is (line_of (with_turn Dce (restarts Dce s.dce s.book) l s)) (with_restart Dce w.kept (line_of s))
    (went (end_of s.dte) q.dte.node.sent) (restarted-end s.dce)
    (ap (λ (f : Flights). f.from_dte) w.is ∙ ap (λ (f : Flights). f.from_dte) none)
    (ap (λ (f : Flights). f.from_dce) w.is
    ∙ ap (λ (f : Flights). f.from_dce ++ chosen w.kept (frames_of (restarted s.dce))) none
    ∙ ap (λ (fs : List Octets). chosen w.kept fs) (restarted-frames s.dce))

restart-kept : (L : LineService) (role : Role) (s : LineState) (mid l : Flights) → AreQuiet s → mid ≡ no_flights
    → ArePut L (direction_of role) (frames_of (restarts role (node_at role s) s.book).node) mid l → IsKept s
    → IsKept (with_turn role (restarts role (node_at role s) s.book) l s)
restart-kept L Dte s mid l q none put k =
    let w = landed L FromDte (frames_of (restarts Dte s.dte s.book).node) mid l put in
    record {
      setting = k.setting;
      kept = subst (Kept k.setting (restarts Dte s.dte s.book).book) (sym (restart-line Dte s mid l q none w))
          (hearing_law.restarts_keeps k.setting s.book (line_of s) Dte s.dte w.kept (stands Dte s q) k.kept).kept;
    }
restart-kept L Dce s mid l q none put k =
    let w = landed L FromDce (frames_of (restarts Dce s.dce s.book).node) mid l put in
    record {
      setting = k.setting;
      kept = subst (Kept k.setting (restarts Dce s.dce s.book).book) (sym (restart-line Dce s mid l q none w))
          (hearing_law.restarts_keeps k.setting s.book (line_of s) Dce s.dce w.kept (stands Dce s q) k.kept).kept;
    }

-- ---- where nothing is taken from the line

stays : (L : LineService) (role : Role) (s : LineState) (turn : Turn) (mid l : Flights) → mid ≡ s.flights
    → ArePut L (direction_of role) (frames_of turn.node) mid l → (k : IsKept s)
    → ((kept : List Bool) → Kept k.setting turn.book (with_event role (end_of turn.node) kept (coming_to role (line_of s)) (line_of s)))
    → IsKept (with_turn role turn l s)
stays L role s turn mid l same put k keeps =
    let P : Flights → Type 0 = λ f. ArePut L (direction_of role) (frames_of turn.node) f l in
    kept-after L role s turn s.flights l (coming_to role (line_of s)) (comes-same role s) (subst P same put) k.setting keeps

-- ---- each event

pub keeps : (L : LineService) (event : NodeEvent) (role : Role) (s : LineState) (mid l : Flights) → IsLine L s
    → IsFor event (node_at role s) → LeftBy event role s.flights mid
    → ArePut L (direction_of role) (frames_of (turn_of event role (node_at role s) s.book).node) mid l → IsKept s
    → IsKept (with_turn role (turn_of event role (node_at role s) s.book) l s)
keeps L (Hears octets) role s mid l n is left put k =
    kept-after L role s (turn_of (Hears octets) role (node_at role s) s.book) mid l (rest_to role s) (comes-less role s mid left.1) put k.setting
    (λ kept. (hearing_law.hears_keeps k.setting s.book (line_of s) role (node_at role s) octets (rest_to role s) kept
    (arrives role s octets left.0) (stands role s n.quiet) k.kept).kept)
keeps L (Expires id) role s mid l n is left put k =
    stays L role s (turn_of (Expires id) role (node_at role s) s.book) mid l left put k
    (λ kept. (hearing_law.expires_keeps k.setting s.book (line_of s) role (node_at role s) id kept (stands role s n.quiet) k.kept).kept)
keeps L Relinks role s mid l n is left put k =
    stays L role s (turn_of Relinks role (node_at role s) s.book) mid l left put k
    (λ kept. (hearing_law.relinks_keeps k.setting s.book (line_of s) role (node_at role s) kept (stands role s n.quiet) k.kept).kept)
keeps L Restarts role s mid l n is left put k = restart-kept L role s mid l n.quiet left put k
keeps L (Calls address user_data) role s mid l n is left put k =
    stays L role s (turn_of (Calls address user_data) role (node_at role s) s.book) mid l left put k
    (λ kept. (asking_law.calls_keeps k.setting s.book (line_of s) role (end_of (node_at role s)) address user_data kept is.1 is.2
    (host-stands role s n.quiet is.0) k.kept).kept)
keeps L (Asks channel r) role s mid l n is left put k =
    stays L role s (turn_of (Asks channel r) role (node_at role s) s.book) mid l left put k
    (λ kept. (asking_law.asks_keeps k.setting s.book (line_of s) role (end_of (node_at role s)) channel r kept
    (host-stands role s n.quiet is) k.kept).kept)
keeps L (Refuses channel) role s mid l n is left put k =
    stays L role s (turn_of (Refuses channel) role (node_at role s) s.book) mid l left put k
    (λ kept. (asking_law.refuses_keeps k.setting s.book (line_of s) role (end_of (node_at role s)) channel kept
    (host-stands role s n.quiet is) k.kept).kept)
keeps L (Says channel octets q d) role s mid l n is left put k =
    stays L role s (turn_of (Says channel octets q d) role (node_at role s) s.book) mid l left put k
    (λ kept. (asking_law.says_keeps k.setting s.book (line_of s) role (end_of (node_at role s)) channel octets q d kept
    (host-stands role s n.quiet is) k.kept).kept)
keeps L (Takes channel) role s mid l n is left put k =
    stays L role s (turn_of (Takes channel) role (node_at role s) s.book) mid l left put k
    (λ kept. (asking_law.takes_keeps k.setting s.book (line_of s) role (end_of (node_at role s)) channel kept
    (host-stands role s n.quiet is) k.kept).kept)
keeps L (AtTerminal terminal event) role s mid l n is left put k =
    stays L role s (turn_of (AtTerminal terminal event) role (node_at role s) s.book) mid l left put k
    (λ kept. (hearing_law.terminals_keep k.setting s.book (line_of s) role (node_at role s) terminal event kept (stands role s n.quiet) k.kept).kept)
