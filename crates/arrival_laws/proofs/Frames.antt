-- The frames on the way to an end: which kinds are among them, what their numbers come to, and what more of them change.
use Rattle.std.specs.Prelude.{◌≡◌, ℕ, ◌+◌, ◌%◌, Bool, true, false, not, ◌&&◌, ◌⊎◌, List, [], ◌∷◌, ◌++◌, if◌then◌else◌}
use Rattle.std.specs.Prelude.{◌==◌}
use Rattle.std.proofs.Common.{refl, sym, ◌∙◌, inl, inr}
use Rattle.frame_codec.specs.Frame.{FrameValue, Content}
use Rattle.frame_codec.specs.Frame.Content.{I, Rr, Rnr, Rej, Sabm, Dm, Ua}
use Rattle.lapb.specs.Machine.{is_same}
use Rattle.lapb.specs.World.{Sent, stamped, kept_of, is_sabm}

-- a test, by its answers
pub cond_by : (P : Bool → Type 0) (b : Bool) → (b ≡ true → P true) → (b ≡ false → P false) → P b
cond_by P true f g = f refl
cond_by P false f g = g refl

-- ---- kinds of frames

abbrev pub is_poll_of : Content → Bool → Bool → Bool
is_poll_of (Rr nr) r p = p && not r
is_poll_of _ r p = false

-- a poll: an RR command with P = 1
abbrev pub is_poll : FrameValue → Bool
is_poll f = is_poll_of f.content f.response f.pf

abbrev pub is_answer_of : Content → Bool → Bool → Bool
is_answer_of (Rr nr) r p = r && p
is_answer_of _ r p = false

-- an answer to a poll: an RR response with F = 1
abbrev pub is_answer : FrameValue → Bool
is_answer f = is_answer_of f.content f.response f.pf

abbrev pub sets : FrameValue → Bool
sets f = is_sabm f.content

abbrev pub is_dm_of : Content → Bool
is_dm_of Dm = true
is_dm_of _ = false

-- a DM, by which a DCE asks to be set up
abbrev pub is_dm : FrameValue → Bool
is_dm f = is_dm_of f.content

abbrev pub is_rnr_of : Content → Bool
is_rnr_of (Rnr nr) = true
is_rnr_of _ = false

abbrev pub is_rnr : FrameValue → Bool
is_rnr f = is_rnr_of f.content

abbrev pub sets_with : Bool → Content → Bool → Bool
sets_with bit Sabm p = is_same p bit
sets_with bit _ p = false

-- a SABM with this P
abbrev pub sets_in : Bool → FrameValue → Bool
sets_in bit f = sets_with bit f.content f.pf

abbrev pub accepts_with : Bool → Content → Bool → Bool
accepts_with bit Ua p = is_same p bit
accepts_with bit _ p = false

-- a UA with this F
abbrev pub accepts_in : Bool → FrameValue → Bool
accepts_in bit f = accepts_with bit f.content f.pf

abbrev pub has_number_of : Content → Bool
has_number_of (I ns nr packet) = true
has_number_of (Rr nr) = true
has_number_of (Rnr nr) = true
has_number_of (Rej nr) = true
has_number_of _ = false

-- ---- one of them, none of them

abbrev pub Any : (FrameValue → Bool) → List Sent → Type 0
Any f [] = ⊥
Any f (s ∷ rest) = (f s.frame ≡ true) ⊎ Any f rest

abbrev pub NotAny : (FrameValue → Bool) → List Sent → Type 0
NotAny f [] = Unit {0}
NotAny f (s ∷ rest) = (f s.frame ≡ false) × NotAny f rest

pub any-more : (f : FrameValue → Bool) (flow new : List Sent) → Any f flow → Any f (flow ++ new)
any-more f [] new a = absurd a
any-more f (s ∷ rest) new a = elim a [ inl e ↦ inl e | inr later ↦ inr (any-more f rest new later) ]

pub any-new : (f : FrameValue → Bool) (flow new : List Sent) → Any f new → Any f (flow ++ new)
any-new f [] new a = a
any-new f (s ∷ rest) new a = inr (any-new f rest new a)

-- the frame at the front is none of them
pub any-rest : (f : FrameValue → Bool) (s : Sent) (rest : List Sent) → f s.frame ≡ false → Any f (s ∷ rest) → Any f rest
any-rest f s rest off a = elim a [ inl e ↦ absurd (let x : true ≡ false = sym e ∙ off in cc) | inr later ↦ later ]

pub none-more : (f : FrameValue → Bool) (flow new : List Sent) → NotAny f flow → NotAny f new → NotAny f (flow ++ new)
none-more f [] new n m = m
none-more f (s ∷ rest) new n m = (n.0, none-more f rest new n.1 m)

pub none-front : (f : FrameValue → Bool) (flow new : List Sent) → NotAny f (flow ++ new) → NotAny f flow
none-front f [] new n = tt
none-front f (s ∷ rest) new n = (n.0, none-front f rest new n.1)

abbrev pub NoneOf : (FrameValue → Bool) → List FrameValue → Type 0
NoneOf f [] = Unit {0}
NoneOf f (x ∷ xs) = (f x ≡ false) × NoneOf f xs

pub none-kept : (f : FrameValue → Bool) (t : ℕ) (kept : List Bool) (frames : List FrameValue) → NoneOf f frames →
    NotAny f (stamped t (kept_of kept frames))
none-kept f t [] [] n = tt
none-kept f t [] (x ∷ xs) n = (n.0, none-kept f t [] xs n.1)
none-kept f t (true ∷ kept) [] n = tt
none-kept f t (false ∷ kept) [] n = tt
none-kept f t (true ∷ kept) (x ∷ xs) n = (n.0, none-kept f t kept xs n.1)
none-kept f t (false ∷ kept) (x ∷ xs) n = none-kept f t kept xs n.1

pub none-stamped : (f : FrameValue → Bool) (t : ℕ) (frames : List FrameValue) → NoneOf f frames →
    NotAny f (stamped t frames)
none-stamped f t [] n = tt
none-stamped f t (x ∷ xs) n = (n.0, none-stamped f t xs n.1)

-- a poll is on the way, and no SABM behind it
abbrev pub PollLast : List Sent → Type 0
PollLast [] = ⊥
PollLast (s ∷ rest) = ((is_poll s.frame ≡ true) × NotAny sets rest) ⊎ PollLast rest

pub last-more : (flow new : List Sent) → NotAny sets new → PollLast flow → PollLast (flow ++ new)
last-more [] new n a = absurd a
last-more (s ∷ rest) new n a = elim a [
  | inl e ↦ inl (e.0, none-more sets rest new e.1 n)
  | inr later ↦ inr (last-more rest new n later)
]

pub last-new : (flow : List Sent) (s : Sent) → is_poll s.frame ≡ true → PollLast (flow ++ s ∷ [])
last-new [] s e = inl (e, tt)
last-new (x ∷ rest) s e = inr (last-new rest s e)

-- ---- what the numbers come to

abbrev pub read : ℕ → Content → ℕ
read e (I ns nr packet) = if ns == e then (e + 1) % 8 else e
read e _ = e

-- V(R) of an end that has taken all of these frames
abbrev pub reads : ℕ → List Sent → ℕ
reads e [] = e
reads e (s ∷ rest) = reads (read e s.frame.content) rest

abbrev pub tell : ℕ → Content → ℕ
tell v (I ns nr packet) = nr
tell v (Rr nr) = nr
tell v (Rnr nr) = nr
tell v (Rej nr) = nr
tell v _ = v

-- V(A) of an end that has taken all of these frames
abbrev pub tells : ℕ → List Sent → ℕ
tells v [] = v
tells v (s ∷ rest) = tells (tell v s.frame.content) rest

pub reads-more : (e : ℕ) (flow new : List Sent) → reads e (flow ++ new) ≡ reads (reads e flow) new
reads-more e [] new = refl
reads-more e (s ∷ rest) new = reads-more (read e s.frame.content) rest new

pub tells-more : (v : ℕ) (flow new : List Sent) → tells v (flow ++ new) ≡ tells (tells v flow) new
tells-more v [] new = refl
tells-more v (s ∷ rest) new = tells-more (tell v s.frame.content) rest new

-- ---- a frame on the way, by its parts

abbrev pub as_sent : Content → Bool → Bool → ℕ → Sent
as_sent content r p t = record { frame = record { content = content; response = r; pf = p }; act = t }
