-- What frames and ends weigh: no step of an end weighs more than what it takes.
use Rattle.std.specs.Prelude.{◌≡◌, ℕ, ◌+◌, ◌-◌, ◌*◌, ◌%◌, ◌≤◌, Bool, true, false, not, ◌&&◌, ◌||◌, ◌⊎◌, List, []}
use Rattle.std.specs.Prelude.{◌∷◌, ◌++◌, length, drop, Option, Some, None, if◌then◌else◌, ◌==◌, nat_lt}
use Rattle.std.proofs.Common.{refl, sym, ap, ◌∙◌, subst, inl, inr, arith, length-drop}
use Rattle.link_timers.specs.declared.role.Role.{Role}
use Rattle.frame_codec.specs.Frame.{FrameValue, Content}
use Rattle.frame_codec.specs.Frame.Content.{I, Rr, Rnr, Rej, Sabm, Disc, Dm, Ua, Frmr}
use Rattle.lapb.specs.Machine.{Octets, Link, Step, ahead, answers, response, command, is_valid, acknowledged}
use Rattle.lapb.specs.Machine.{on_supervisory, accept, discard, on_information, checked, reject_number, in_up, numbered}
use Rattle.lapb.specs.Machine.{send_all}
use Rattle.lapb.specs.World.{Sent, stamped}
use Rattle.arrival_laws.proofs.Frames.{cond_by, has_number_of, tell}

-- ---- frames

-- An I frame weighs more than the acknowledgement that it makes owed; a REJ and an answer to a poll more than all that
-- they make unsent again; a poll more than its answer; a UA more than the poll that follows it.
abbrev pub weight_of : Content → Bool → Bool → ℕ
weight_of (I ns nr packet) r p = if p then 28 else 3
weight_of (Rr nr) r p = if p then (if r then 26 else 27) else 2
weight_of (Rnr nr) r p = if p then (if r then 26 else 27) else 2
weight_of (Rej nr) r p = if p then (if r then 47 else 48) else 23
weight_of Sabm r p = 73
weight_of Dm r p = 1
weight_of Ua r p = 50
weight_of Disc r p = 2
weight_of (Frmr report) r p = 2

-- what a DM and all that it makes weigh more
abbrev pub extra : Bool → ℕ
extra b = if b then 97 else 0

-- a command with P = 1 to a DCE that is down makes a DM
abbrev pub up_more : Bool → Content → Bool → Bool → ℕ
up_more down Sabm r p = 0
up_more down content r p = extra (down && p && not r)

abbrev pub up_weight : Bool → FrameValue → ℕ
up_weight down f = weight_of f.content f.response f.pf + up_more down f.content f.response f.pf

-- a DM makes a SABM, and a UA a poll
abbrev pub down_more : Bool → Content → ℕ
down_more down Dm = 95
down_more down Ua = extra down
down_more down content = 0

abbrev pub down_weight : Bool → FrameValue → ℕ
down_weight down f = weight_of f.content f.response f.pf + down_more down f.content

abbrev pub total : (FrameValue → ℕ) → List Sent → ℕ
total f [] = 0
total f (s ∷ rest) = f s.frame + total f rest

pub total-more : (f : FrameValue → ℕ) (flow new : List Sent) → total f (flow ++ new) ≡ total f flow + total f new
total-more f [] new = omega arith
total-more f (s ∷ rest) new = let e = total-more f rest new in omega (arith, e)

pub weight-some : (content : Content) (r p : Bool) → 1 ≤ weight_of content r p
weight-some (I ns nr packet) r true = omega arith
weight-some (I ns nr packet) r false = omega arith
weight-some (Rr nr) true true = omega arith
weight-some (Rr nr) false true = omega arith
weight-some (Rr nr) r false = omega arith
weight-some (Rnr nr) true true = omega arith
weight-some (Rnr nr) false true = omega arith
weight-some (Rnr nr) r false = omega arith
weight-some (Rej nr) true true = omega arith
weight-some (Rej nr) false true = omega arith
weight-some (Rej nr) r false = omega arith
weight-some Sabm r p = omega arith
weight-some Disc r p = omega arith
weight-some Dm r p = omega arith
weight-some Ua r p = omega arith
weight-some (Frmr report) r p = omega arith

-- ---- ends

abbrev pub owes : Bool → ℕ
owes b = if b then 2 else 0

abbrev pub may_reject : Bool → ℕ
may_reject b = if b then 0 else 22

abbrev pub unsent : Link → ℕ
unsent l = length l.queue - l.next

-- unsent packets, an acknowledgement that is owed, and a REJ that may be sent
abbrev pub end_weight : Link → ℕ
end_weight l = 3 * unsent l + owes l.owed + may_reject l.rejecting

-- what an accepted packet makes up for: another REJ may be sent
abbrev pub gain : Option Octets → ℕ
gain None = 0
gain (Some packet) = 22

owes-less : (b c : Bool) → owes (b && c) ≤ owes b
owes-less true true = omega arith
owes-less true false = omega arith
owes-less false c = omega arith

owes-most : (b : Bool) → owes b ≤ 2
owes-most true = omega arith
owes-most false = omega arith

-- ---- a frame with N(R)

-- what a link that is up sends in answer weighs so much
pub record Answers (f : FrameValue → ℕ) : Type 0 where
  pub rr : (nr : ℕ) → f (response (Rr nr) true) ≡ 26
  pub rej : (nr : ℕ) → f (response (Rej nr) false) ≡ 23
  pub final_rej : (nr : ℕ) → f (response (Rej nr) true) ≡ 47

abbrev pub Lighter : (FrameValue → ℕ) → Link → ℕ → Step → ℕ → Type 0
Lighter f l weight step t =
    end_weight step.link + total f (stamped t step.frames) + 1 ≤ end_weight l + weight + gain step.accepted

answered : (f : FrameValue → ℕ) → Answers f → (due : Bool) (nr t : ℕ) →
    total f (stamped t (answers due nr)) ≡ (if due then 26 else 0)
answered f a true nr t = let e = a.rr nr in omega (arith, e)
answered f a false nr t = refl

-- acknowledged packets leave no more unsent
fewer : (queue : List Octets) (next d : ℕ) → length (drop d queue) - (next - d) ≤ length queue - next
fewer queue next d = let e = length-drop d queue in omega (arith, e)

fewer_all : (queue : List Octets) (d : ℕ) → length queue ≤ 7 → 3 * (length (drop d queue) - 0) ≤ 21
fewer_all queue d few = let e = length-drop d queue in omega (arith, e)

-- of RR, RNR and REJ: set back, it sends up to seven packets again; a poll it answers
supervisory-lighter : (f : FrameValue → ℕ) → Answers f → (l : Link) (nr : ℕ) (busy back r p anew : Bool) (weight t : ℕ) →
    length l.queue ≤ 7 →
    (if back || r && p then 21 else 0) + (if p && not r then 26 else 0) + 1 ≤ weight →
    Lighter f l weight (record (on_supervisory (acknowledged l nr) busy back r p) { anew = anew }) t
supervisory-lighter f a l nr busy back r p anew weight t few enough =
    let d : ℕ = ahead l.oldest nr in
    let set_back : 3 * (length (drop d l.queue) - (if back || r && p then 0 else l.next - d)) ≤ (if back || r && p then
    21 else 0) + 3 * unsent l =
    cond_by (λ b. 3 * (length (drop d l.queue) - (if b then 0 else l.next - d)) ≤ (if b then 21 else 0) + 3 * unsent l)
    (back || r && p) (λ _. let m = fewer_all l.queue d few in omega (arith, m)) (λ _. let m = fewer l.queue l.next d in
    omega (arith, m)) in
    let owed = owes-less l.owed (not (p && not r)) in
    let frames = answered f a (p && not r) l.expected t in
    omega (arith, set_back, owed, frames, enough)

enough_rr : (r p : Bool) → (if false || r && p then 21 else 0) + (if p && not r then 26 else 0) + 1 ≤ (if p then
    (if r then 26 else 27) else 2)
enough_rr true true = omega arith
enough_rr true false = omega arith
enough_rr false true = omega arith
enough_rr false false = omega arith

enough_rej : (r p : Bool) → (if true || r && p then 21 else 0) + (if p && not r then 26 else 0) + 1 ≤ (if p then
    (if r then 47 else 48) else 23)
enough_rej true true = omega arith
enough_rej true false = omega arith
enough_rej false true = omega arith
enough_rej false false = omega arith

accept-lighter : (f : FrameValue → ℕ) → Answers f → (l : Link) (nr : ℕ) (packet : Octets) (p anew : Bool) (t : ℕ) →
    Lighter f l (if p then 28 else 3) (record (accept (acknowledged l nr) p packet) { anew = anew }) t
accept-lighter f a l nr packet true anew t =
    let u = fewer l.queue l.next (ahead l.oldest nr) in
    let frames = answered f a true ((l.expected + 1) % 8) t in omega (arith, u, frames)
accept-lighter f a l nr packet false anew t =
    let u = fewer l.queue l.next (ahead l.oldest nr) in omega (arith, u)

discard-lighter : (f : FrameValue → ℕ) → Answers f → (l : Link) (nr : ℕ) (p anew : Bool) (t : ℕ) →
    Lighter f l (if p then 28 else 3) (record (discard (acknowledged l nr) p) { anew = anew }) t
discard-lighter f a l nr p anew t =
    let u = fewer l.queue l.next (ahead l.oldest nr) in by l.rejecting p u
  where
    by : (b q : Bool) → length (drop (ahead l.oldest nr) l.queue) - (l.next - ahead l.oldest nr) ≤ length l.queue -
        l.next →
        3 * (length (drop (ahead l.oldest nr) l.queue) - (l.next - ahead l.oldest nr)) + owes (l.owed && b && not q) + 0 +
        total f (stamped t (if b then answers q l.expected else response (Rej l.expected) q ∷ [])) + 1 ≤
        3 * unsent l + owes l.owed + may_reject b + (if q then 28 else 3) + 0
    by true true u = let frames = a.rr l.expected in let o = owes-most (l.owed && true && false) in
        let o' = owes-less (l.owed && true) false in let o'' = owes-less l.owed true in omega (arith, u, frames, o', o'')
    by true false u = let o' = owes-less (l.owed && true) true in let o'' = owes-less l.owed true in
        omega (arith, u, o', o'')
    by false true u = let frames = a.final_rej l.expected in let o' = owes-less (l.owed && false) false in
        let o'' = owes-less l.owed false in omega (arith, u, frames, o', o'')
    by false false u = let frames = a.rej l.expected in let o' = owes-less (l.owed && false) true in
        let o'' = owes-less l.owed false in omega (arith, u, frames, o', o'')

checked-lighter : (f : FrameValue → ℕ) (l : Link) (content : Content) (r p : Bool) (nr weight t : ℕ) (taken : Step) →
    is_valid l nr ≡ true → ((anew : Bool) → Lighter f l weight (record taken { anew = anew }) t) →
    Lighter f l weight (checked l content r p nr taken) t
checked-lighter f l content r p nr weight t taken valid lighter =
    let anew : Bool = nat_lt 0 (ahead l.oldest nr) in
    subst (λ b. Lighter f l weight (if b then record taken { anew = anew } else reject_number l content r p) t)
    (sym valid) (lighter anew)

pub up-lighter : (f : FrameValue → ℕ) → Answers f → (role : Role) (l : Link) (content : Content) (r p : Bool) (t : ℕ) →
    length l.queue ≤ 7 → has_number_of content ≡ true → is_valid l (tell 0 content) ≡ true →
    Lighter f l (weight_of content r p) (in_up role l content r p) t
up-lighter f a role l (I ns nr packet) r p t few number valid =
    checked-lighter f l (I ns nr packet) r p nr (if p then 28 else 3) t
    (on_information (acknowledged l nr) ns p packet) valid (λ anew.
    cond_by (λ b. Lighter f l (if p then 28 else 3)
    (record (if b then accept (acknowledged l nr) p packet else discard (acknowledged l nr) p) { anew = anew }) t)
    (ns == l.expected) (λ _. accept-lighter f a l nr packet p anew t) (λ _. discard-lighter f a l nr p anew t))
up-lighter f a role l (Rr nr) r p t few number valid =
    checked-lighter f l (Rr nr) r p nr (weight_of (Rr nr) r p) t (on_supervisory (acknowledged l nr) false false r p)
    valid (λ anew. supervisory-lighter f a l nr false false r p anew (weight_of (Rr nr) r p) t few (enough_rr r p))
up-lighter f a role l (Rnr nr) r p t few number valid =
    checked-lighter f l (Rnr nr) r p nr (weight_of (Rnr nr) r p) t (on_supervisory (acknowledged l nr) true false r p)
    valid (λ anew. supervisory-lighter f a l nr true false r p anew (weight_of (Rnr nr) r p) t few (enough_rr r p))
up-lighter f a role l (Rej nr) r p t few number valid =
    checked-lighter f l (Rej nr) r p nr (weight_of (Rej nr) r p) t (on_supervisory (acknowledged l nr) false true r p)
    valid (λ anew. supervisory-lighter f a l nr false true r p anew (weight_of (Rej nr) r p) t few (enough_rej r p))
up-lighter f a role l Sabm r p t few number valid = absurd (cc)
up-lighter f a role l Disc r p t few number valid = absurd (cc)
up-lighter f a role l Dm r p t few number valid = absurd (cc)
up-lighter f a role l Ua r p t few number valid = absurd (cc)
up-lighter f a role l (Frmr report) r p t few number valid = absurd (cc)

-- ---- the end of an event

-- I frames and acknowledgements weigh what they did unsent
pub record Sendings (f : FrameValue → ℕ) : Type 0 where
  pub i : (ns nr : ℕ) (packet : Octets) → f (command (I ns nr packet) false) ≡ 3
  pub rr : (nr : ℕ) → f (response (Rr nr) false) ≡ 2

numbered-total : (f : FrameValue → ℕ) → Sendings f → (ns nr t : ℕ) (packets : List Octets) →
    total f (stamped t (numbered ns nr packets)) ≡ 3 * length packets
numbered-total f s ns nr t [] = refl
numbered-total f s ns nr t (packet ∷ packets) =
    let e = s.i (ns % 8) nr packet in let rest = numbered-total f s (ns + 1) nr t packets in omega (arith, e, rest)

pub ends-no_heavier : (f : FrameValue → ℕ) → Sendings f → (l : Link) (packets : List Octets) (t : ℕ) →
    packets ≡ [] ⊎ (packets ≡ drop l.next l.queue) →
    end_weight (send_all l packets).link + total f (stamped t (send_all l packets).frames) ≤ end_weight l
ends-no_heavier f s l [] t which =
    cond_by (λ b. 3 * unsent l + 0 + may_reject l.rejecting + total f (stamped t (if b then response (Rr l.expected) false ∷
    [] else [])) ≤ 3 * unsent l + owes b + may_reject l.rejecting) l.owed
    (λ _. let e = s.rr l.expected in omega (arith, e)) (λ _. omega arith)
ends-no_heavier f s l (packet ∷ packets) t which =
    let these : packet ∷ packets ≡ drop l.next l.queue = elim which [ inl e ↦ absurd (cc) | inr e ↦ e ] in
    let count : length (packet ∷ packets) ≡ length l.queue - l.next =
    ap (λ (ps : List Octets). length ps) these ∙ length-drop l.next l.queue in
    let frames = numbered-total f s (l.oldest + l.next) l.expected t (packet ∷ packets) in
    omega (arith, count, frames)
