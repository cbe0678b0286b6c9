-- A link that settles leaves no packet unsent that may go.
use Rattle.std.proofs.Common.{◌≡◌, ◌≤◌, ℕ, List, [], ◌∷◌, drop, length, refl, sym, ap, ◌∙◌, arith, length-drop}
use Rattle.lapb.specs.declared.phase.Phase.{Phase}
use Rattle.lapb.specs.declared.phase.Phase.TheVariants as phase
use Rattle.lapb.specs.Machine.{Octets, Link, sendable, send_all, settle_in, settle}
use Rattle.lapb.specs.Unsent.{MaySend, HasSentAll}

all_may_go : (l : Link) → MaySend l → sendable l ≡ drop l.next l.queue
all_may_go l h = rw (h.heard, h.answered, h.ready) refl

none_left : (l : Link) → sendable l ≡ [] → HasSentAll l
none_left l none h =
    let left : length (drop l.next l.queue) ≡ 0 = ap (λ (xs : List Octets). length xs) (sym (all_may_go l h) ∙ none) in
    let all = length-drop l.next l.queue in
    omega (arith, left, all)

sends_all : (l : Link) (packets : List Octets) → sendable l ≡ packets → HasSentAll (send_all l packets).link
sends_all l [] none h = none_left l none (record { up = h.up; heard = h.heard; answered = h.answered; ready = h.ready })
sends_all l (packet ∷ packets) some h = omega arith

pub sends_sendable : (l : Link) → HasSentAll (send_all l (sendable l)).link
sends_sendable l = sends_all l (sendable l) refl

settles_in : (phase : Phase) (l : Link) → l.phase ≡ phase → HasSentAll (settle_in phase l).link
settles_in phase.Up l is = sends_sendable l
settles_in phase.Down l is = λ h. absurd (cc)
settles_in phase.SettingUp l is = λ h. absurd (cc)
settles_in phase.Rejecting l is = λ h. absurd (cc)

pub settles_all : (l : Link) → HasSentAll (settle l).link
settles_all l = settles_in l.phase l refl
