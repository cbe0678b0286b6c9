-- What a node noted of an expiry is written as its turn says.
use Rattle.std.proofs.Common.{◌≡◌, ◌∙◌, Bool, true, false, List, [], length, drop, refl, sym, ap, subst}
use Rattle.std.specs.Prelude.{cond, if◌then◌else◌}
use Rattle.link_timers.specs.declared.role.Role.{Role}
use Rattle.link_timers.specs.declared.timers.TimerId.{TimerId}
use Rattle.link_timers.specs.declared.timers.TimerId.TheVariants as timer
use Rattle.packet_end.specs.PacketEnd.{PacketEnd, begun, finished, after_timer, runs_at}
use Rattle.pad_ports.specs.Notes.{ChannelNote}
use Rattle.x25_pad.specs.Pad as pad
use Rattle.x25_pad.specs.Pad.{PadState}
use Rattle.call_records.specs.Book.{Book}
use Rattle.user_nodes.specs.PadWriting as records
use Rattle.user_nodes.specs.Node.{NodeState, Pad, Host, end_of, pad_notes}
use Rattle.user_nodes.specs.NodeEvents.{expired}
use Rattle.user_nodes.specs.Turn.{told, unchanged}
use Rattle.user_nodes.specs.LineTurns.{expires}

-- ---- a node that noted nothing

as_read : (p : PadState) → p.line.notes ≡ [] → records.without_notes p ≡ p
as_read p none =
    let terminals : drop (length p.line.notes) p.line.noted_at ≡ p.line.noted_at = ap (λ (notes : List ChannelNote). drop (length notes) p.line.noted_at) none in
    λ i. record p { line = record p.line { notes = sym none i; noted_at = terminals i } }

pub pad_unchanged : (role : Role) (p : PadState) (b : Book) → p.line.notes ≡ [] → told role (Pad p) b ≡ unchanged (Pad p) b
pad_unchanged role p b none =
    let P : PadState → Type 0 = λ q. told role (Pad q) b ≡ unchanged (Pad q) b in
    subst P (as_read p none) refl

host_unchanged : (role : Role) (e : PacketEnd) (b : Book) → e.notes ≡ [] → told role (Host e) b ≡ unchanged (Host e) b
host_unchanged role e b none =
    let P : PacketEnd → Type 0 = λ x. told role (Host x) b ≡ unchanged (Host x) b in
    subst P (λ i. record e { notes = sym none i }) refl

-- ---- a timer that does not run changes nothing

stays : (v : Bool) (x p : PadState) → v ≡ false → (if v then x else p) ≡ p
stays true x p h = absurd (cc)
stays false x p h = refl

pub timer_stays : (p : PadState) (id : TimerId) → pad.runs_at p id ≡ false → pad.after_timer p id ≡ p
timer_stays p timer.T1 h = stays _ _ p h
timer_stays p timer.T10 h = stays _ _ p h
timer_stays p timer.T20 h = stays _ _ p h
timer_stays p (timer.T11 c) h = stays _ _ p h
timer_stays p (timer.T12 c) h = stays _ _ p h
timer_stays p (timer.T13 c) h = stays _ _ p h
timer_stays p (timer.T21 c) h = stays _ _ p h
timer_stays p (timer.T22 c) h = stays _ _ p h
timer_stays p (timer.T23 c) h = stays _ _ p h
timer_stays p (timer.Idle number) h = stays _ _ p h

pub expires_told : (role : Role) (n : NodeState) (id : TimerId) (b : Book) → pad_notes n ≡ [] → (end_of n).notes ≡ []
    → told role (expired n id) b ≡ expires role n id b
expires_told role (Pad p) id b none read = by (pad.runs_at p id) refl
  where
    by : (v : Bool) → pad.runs_at p id ≡ v
        → told role (Pad (pad.after_timer p id)) b ≡ (if v then told role (Pad (pad.after_timer p id)) b else unchanged (Pad p) b)
    by true is = refl
    by false is = ap (λ (q : PadState). told role (Pad q) b) (timer_stays p id is) ∙ pad_unchanged role p b none
expires_told role (Host e) id b none read = by (runs_at e id)
  where
    by : (v : Bool) → told role (Host (cond v (finished (after_timer (begun e) id)) e)) b
        ≡ cond v (told role (Host (cond v (finished (after_timer (begun e) id)) e)) b) (unchanged (Host e) b)
    by true = refl
    by false = host_unchanged role e b read
