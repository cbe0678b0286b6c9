-- Deliveries in a flow, and passes over the lines.
use Rattle.std.proofs.Common.{Bool, ◌≡◌, ℕ, zero, suc, ◌+◌, ◌-◌, ◌≤◌, ◌<◌, List, [], ◌∷◌, ◌++◌, true, false, Option, Ok, refl, sym, ap, ◌∙◌, subst, append_assoc, arith}
use Rattle.frame_lines.specs.declared.line.Direction.{Direction}
use Rattle.frame_lines.specs.declared.line.Direction.TheVariants.{FromDte, FromDce}
use Rattle.frame_lines.specs.Lines.{LineService}
use Rattle.net_events.specs.declared.event.Event.{Event}
use Rattle.net_events.specs.declared.event.Event.TheVariants.{Deliver}
use Rattle.net_events.specs.Network.{Network}
use Rattle.net_nodes.specs.Happening.{FindsNoFrame, FindNoFrames}
use Rattle.net_player.specs.InTurn.{InTurn}
use Rattle.octet_streams.specs.Written.{Writes}
use Rattle.answer_texts.specs.Answers.{Names, frames_text}
use Rattle.net_player.specs.Playing.{Tells, Flowing, Delivers, has_arrived, deliveries_from, Passes, Flows}
use Rattle.net_player.specs.Playing.Delivers.{at_limit, arrives, finds_none}
use Rattle.net_player.specs.Playing.Flows.{again}
use Rattle.net_player.specs.InTurn.{StopsInTurn}
use Rattle.net_player.specs.InTurn.StopsInTurn.{here}
use Rattle.net_player.specs.Stopping.{DeliveryStops, PassStops, FlowStops}
use Rattle.net_player.specs.Stopping.FlowStops.{behind}
use Rattle.net_files.specs.declared.fault.ProgFault.{ProgFault}
use Rattle.net_player.proofs.Turns.{in_turn_append, in_turn_one}
use Rattle.net_player.proofs.Parts.{stops_behind}
use Rattle.octet_streams.proofs.Written.{writes_append, writes_nothing}

-- no more may be delivered
pub delivers_at_limit : {L : LineService} {names : Names} {traces : Bool} {e : Event} {s : Network} (left : ℕ) → left ≡ 0
    → Delivers L names traces e (record { left = left; net = s }) [] (record { left = 0; net = s })
delivers_at_limit {L} {names} {traces} {e} {s} left none =
    let P : ℕ → Type 0 = λ n. Delivers L names traces e (record { left = n; net = s }) [] (record { left = 0; net = s }) in
    subst P (sym none) at_limit

-- a frame was delivered
pub delivers_one : {L : LineService} {names : Names} {traces : Bool} {e : Event} {s t : Network} {text : List ℕ} (left : ℕ) → 0 < left
    → Tells L names traces true e s text t
    → Delivers L names traces e (record { left = left; net = s }) text (record { left = left - 1; net = t })
delivers_one zero some tells = absurd (omega arith)
delivers_one {L} {names} {traces} {e} {s} {t} {text} (suc n) some tells =
    let P : ℕ → Type 0 =
    λ m. Delivers L names traces e (record { left = suc n; net = s }) text (record { left = m; net = t }) in
    let one : n ≡ suc n - 1 = omega arith in
    subst P one (arrives tells)

-- there was none
pub delivers_none : {L : LineService} {names : Names} {traces : Bool} {e : Event} {s t : Network} {text : List ℕ} (left : ℕ) → 0 < left
    → Tells L names traces false e s text t
    → Delivers L names traces e (record { left = left; net = s }) text (record { left = left; net = t })
delivers_none zero some tells = absurd (omega arith)
delivers_none (suc n) some tells = finds_none tells

-- it is known that there is none
pub no_frames : (names : Names) (traces : Bool) → frames_text traces [] ≡ []
no_frames names true = refl
no_frames names false = refl

pub none_found : {L : LineService} {names : Names} {traces : Bool} {line : ℕ} {d : Direction} {s : Network}
    → FindsNoFrame L line d s → Tells L names traces false (Deliver line d) s [] s
none_found {L} {names} {traces} {line} {d} {s} found = record {
  answer = Ok found.answer;
  happens = found.happens;
  had_memory = λ memory. absurd (cc);
  told = rw (found.says.frames, found.says.notes, no_frames names traces) refl;
  came = sym (ap has_arrived found.says.outcome);
}

pub delivers_nothing : {L : LineService} {names : Names} {traces : Bool} {line : ℕ} {d : Direction} {s : Network} (left : ℕ)
    → FindsNoFrame L line d s
    → Delivers L names traces (Deliver line d) (record { left = left; net = s }) [] (record { left = left; net = s })
delivers_nothing zero found = at_limit
delivers_nothing (suc n) found = finds_none (none_found found)

-- the deliveries on one line
abbrev pub deliveries_on : ℕ → List Event
deliveries_on line = Deliver line FromDte ∷ Deliver line FromDce ∷ []

-- the deliveries on one line more
pub deliveries_more : (line lines : ℕ)
    → deliveries_from line (suc lines) ≡ deliveries_from line lines ++ deliveries_on (line + lines)
deliveries_more line zero = rw (zero_line line) refl
  where
    zero_line : (n : ℕ) → n + 0 ≡ n
    zero_line n = omega arith
deliveries_more line (suc lines) =
    let along : line + suc lines ≡ (line + 1) + lines = omega arith in
    rw along (ap (λ es. Deliver line FromDte ∷ Deliver line FromDce ∷ es) (deliveries_more (line + 1) lines))

-- one line more is passed
pub pass_more : {L : LineService} {names : Names} {traces : Bool} {s m n t : Flowing} (line : ℕ) (a b c d : Option (List ℕ))
    → Writes a b (λ text. Passes L names traces line s text m)
    → Writes b c (λ text. Delivers L names traces (Deliver line FromDte) m text n)
    → Writes c d (λ text. Delivers L names traces (Deliver line FromDce) n text t)
    → Writes a d (λ text. Passes L names traces (line + 1) s text t)
pass_more {L} {names} {traces} {s} {m} {n} {t} line a b c d passed from_dte from_dce =
    let both : Writes b d (λ text. InTurn Event Flowing (Delivers L names traces) (deliveries_on line) m text t) =
    writes_append b c d (λ x y p q. in_turn_append (in_turn_one p) _ _ _ (in_turn_one q)) from_dte from_dce in
    writes_append a b d (λ x y p q. joined x y (in_turn_append p _ _ _ q)) passed both
  where
    zero_line : (k : ℕ) → 0 + k ≡ k
    zero_line k = omega arith

    more : deliveries_from 0 (line + 1) ≡ deliveries_from 0 line ++ deliveries_on line
    more =
        let after : line + 1 ≡ suc line = omega arith in
        rw (after, deliveries_more 0 line, zero_line line) refl

    joined : (x y : List ℕ)
        → InTurn Event Flowing (Delivers L names traces) (deliveries_from 0 line ++ deliveries_on line) s (x ++ y) t
        → Passes L names traces (line + 1) s (x ++ y) t
    joined x y h =
        let P : List Event → Type 0 = λ es. InTurn Event Flowing (Delivers L names traces) es s (x ++ y) t in
        subst P (sym more) h

-- lines on which it is known that there is none are passed
pass_some : {L : LineService} {names : Names} {traces : Bool} {s : Flowing} (left : ℕ) (net : Network) (from more : ℕ) (a b : Option (List ℕ))
    → FindNoFrames L from (from + more) net
    → Writes a b (λ text. Passes L names traces from s text (record { left = left; net = net }))
    → Writes a b (λ text. Passes L names traces (from + more) s text (record { left = left; net = net }))
pass_some {L} {names} {traces} {s} left net from zero a b none passed =
    let P : ℕ → Type 0 = λ n. Writes a b (λ text. Passes L names traces n s text (record { left = left; net = net })) in
    let same : from ≡ from + 0 = omega arith in
    subst P same passed
pass_some {L} {names} {traces} {s} left net from (suc more) a b none passed =
    let P : ℕ → Type 0 = λ n. Writes a b (λ text. Passes L names traces n s text (record { left = left; net = net })) in
    let before = pass_some left net from more a b (λ line after within. none line after (omega arith)) passed in
    let here = none (from + more) (omega arith) (omega arith) in
    let next : (from + more) + 1 ≡ from + suc more = omega arith in
    subst P next (pass_more (from + more) a b b b before
    (writes_nothing b (delivers_nothing left here.0)) (writes_nothing b (delivers_nothing left here.1)))

pub pass_to : {L : LineService} {names : Names} {traces : Bool} {s : Flowing} (left : ℕ) (net : Network) (from to end : ℕ) (a b : Option (List ℕ))
    → from ≤ to → to ≤ end → FindNoFrames L from end net
    → Writes a b (λ text. Passes L names traces from s text (record { left = left; net = net }))
    → Writes a b (λ text. Passes L names traces to s text (record { left = left; net = net }))
pass_to {L} {names} {traces} {s} left net from to end a b onward within none passed =
    let P : ℕ → Type 0 = λ n. Writes a b (λ text. Passes L names traces n s text (record { left = left; net = net })) in
    let whole : from + (to - from) ≡ to = omega arith in
    subst P whole (pass_some left net from (to - from) a b (λ line after before. none line after (omega arith)) passed)

-- what a pass writes, and what the passes after it will write, is what the flow from before it writes
pub flow_onward : {L : LineService} {names : Names} {traces : Bool} {lines : ℕ} {start s m : Flowing} (told first : List ℕ)
    → ((rest : List ℕ) (t : Network) → Flows L names traces lines s rest t → Flows L names traces lines start (told ++ rest) t)
    → Passes L names traces lines s first m → m.left < s.left
    → (rest : List ℕ) (t : Network) → Flows L names traces lines m rest t
    → Flows L names traces lines start ((told ++ first) ++ rest) t
flow_onward told first onward passed fewer rest t flows =
    rw (append_assoc told first rest) (onward (first ++ rest) t (again passed fewer flows))

-- ---- deliveries that stop

-- the deliveries on some lines, and those on the others
deliveries_split : (from some more : ℕ)
    → deliveries_from from (some + more) ≡ deliveries_from from some ++ deliveries_from (from + some) more
deliveries_split from zero more =
    let none : 0 + more ≡ more = omega arith in
    let same : from + 0 ≡ from = omega arith in
    rw (none, same) refl
deliveries_split from (suc some) more =
    let next : suc some + more ≡ suc (some + more) = omega arith in
    let along : from + suc some ≡ (from + 1) + some = omega arith in
    rw (next, along) (ap (λ es. Deliver from FromDte ∷ Deliver from FromDce ∷ es) (deliveries_split (from + 1) some more))

-- those up to a line, and from it on
deliveries_at : (line lines : ℕ) → line < lines
    → deliveries_from 0 lines
    ≡ deliveries_from 0 line ++ (Deliver line FromDte ∷ Deliver line FromDce ∷ deliveries_from (line + 1) (lines - suc line))
deliveries_at line lines within =
    let whole : lines ≡ line + suc (lines - suc line) = omega arith in
    let here_is : 0 + line ≡ line = omega arith in
    ap (deliveries_from 0) whole
    ∙ rw here_is at (deliveries_split 0 line (suc (lines - suc line)))

-- a pass stops at the first delivery on a line
pub pass_stops_first : {L : LineService} {names : Names} {traces : Bool} {fault : ProgFault} {s m : Flowing} (line lines : ℕ)
    (first part : List ℕ) → line < lines → Passes L names traces line s first m
    → DeliveryStops L names traces fault (Deliver line FromDte) m part
    → PassStops L names traces lines fault s (first ++ part)
pass_stops_first {L} {names} {traces} {fault} {s} line lines first part within passes stops =
    let P : List Event → Type 0 =
    λ es. StopsInTurn Event Flowing (Delivers L names traces) (DeliveryStops L names traces fault) es s (first ++ part) in
    subst P (sym (deliveries_at line lines within)) (stops_behind passes _ part (here stops))

-- or at the second
pass_stops_second : {L : LineService} {names : Names} {traces : Bool} {fault : ProgFault} {s n : Flowing}
    (line lines : ℕ) (first part : List ℕ) → line < lines
    → InTurn Event Flowing (Delivers L names traces) (deliveries_from 0 line ++ (Deliver line FromDte ∷ [])) s first n
    → DeliveryStops L names traces fault (Deliver line FromDce) n part
    → PassStops L names traces lines fault s (first ++ part)
pass_stops_second {L} {names} {traces} {fault} {s} line lines first part within done stops =
    let others : List Event = deliveries_from (line + 1) (lines - suc line) in
    let P : List Event → Type 0 =
    λ es. StopsInTurn Event Flowing (Delivers L names traces) (DeliveryStops L names traces fault) es s (first ++ part) in
    let split =
    deliveries_at line lines within
    ∙ sym (append_assoc (deliveries_from 0 line) (Deliver line FromDte ∷ []) (Deliver line FromDce ∷ others)) in
    subst P (sym split) (stops_behind done _ part (here stops))

pub second_stops : {L : LineService} {names : Names} {traces : Bool} {fault : ProgFault} {s m n : Flowing}
    (line lines : ℕ) (a b c d : Option (List ℕ)) → line < lines
    → Writes a b (λ text. Passes L names traces line s text m)
    → Writes b c (λ text. Delivers L names traces (Deliver line FromDte) m text n)
    → Writes c d (DeliveryStops L names traces fault (Deliver line FromDce) n)
    → Writes a d (PassStops L names traces lines fault s)
second_stops {L} {names} {traces} {fault} {s} {m} {n} line lines a b c d within passed delivered stops =
    let done : List Event = deliveries_from 0 line ++ (Deliver line FromDte ∷ []) in
    let both : Writes a c (λ text. InTurn Event Flowing (Delivers L names traces) done s text n) =
    writes_append a b c (λ x y p q. in_turn_append p _ _ _ (in_turn_one q)) passed delivered in
    writes_append a c d (λ first part p q. pass_stops_second line lines first part within p q) both stops

-- what a pass writes, and what the passes after it write until one stops, is what the flow from before it writes
pub flow_stops_onward : {L : LineService} {names : Names} {traces : Bool} {lines : ℕ} {start s m : Flowing} (told first : List ℕ)
    → ((fault : ProgFault) (part : List ℕ) → FlowStops L names traces lines fault s part
    → FlowStops L names traces lines fault start (told ++ part))
    → Passes L names traces lines s first m → m.left < s.left
    → (fault : ProgFault) (part : List ℕ) → FlowStops L names traces lines fault m part
    → FlowStops L names traces lines fault start ((told ++ first) ++ part)
flow_stops_onward told first onward passed fewer fault part stops =
    rw (append_assoc told first part) (onward fault (first ++ part) (behind passed fewer stops))
