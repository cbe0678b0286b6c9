-- At most nine frames are kept, and the packets that may go are sent in order.
use Rattle.std.proofs.Common.{◌≡◌, ℕ, zero, suc, ◌+◌, ◌%◌, ◌<◌, List, [], ◌∷◌, ◌++◌, length, take, drop, map, refl, sym, ◌∙◌, ap, arith, add-one, max, Bool, true, false, length-drop}
use Rattle.std.specs.Prelude.{Some, slice_get, nat_le, nat_lt, ◌||◌, if◌then◌else◌}
use Rattle.std.proofs.lemmas.Bool.{leb-true, leb-false}
use Rattle.std.proofs.lemmas.Bool.Decides.{nat_tests}
use Rattle.link_timers.specs.declared.role.Role.{Role}
use Rattle.frame_codec.specs.Frame.{I}
use Rattle.frame_codec.specs.Spelling.{spelling}
use Rattle.lapb.specs.declared.note.Note.{Note}
use Rattle.lapb.specs.declared.phase.Phase.{Phase}
use Rattle.lapb.specs.Machine.{Octets, Link, command, numbered, send_all, runs, runs_in, timing_after}
use Rattle.lapb.specs.Out.{Out, with_frames, timing_by, gathered}

pub take_full : {X : Type 0} (n : ℕ) (xs ys : List X) → length xs ≡ n → take n (xs ++ ys) ≡ xs
take_full zero [] ys e = refl
take_full zero (x ∷ xs) ys e = absurd (omega arith)
take_full (suc n) [] ys e = absurd (omega arith)
take_full (suc n) (x ∷ xs) ys e = ap (λ zs. x ∷ zs) (take_full n xs ys (omega arith))

take_none : (X : Type 0) (n : ℕ) → take n (let none : List X = [] in none) ≡ []
take_none X zero = refl
take_none X (suc n) = refl

pub take_room : {X : Type 0} (n : ℕ) (xs : List X) (x : X) → length xs < n → take n (xs ++ x ∷ []) ≡ xs ++ x ∷ []
take_room zero xs x e = absurd (omega arith)
take_room {X = X} (suc n) [] x e = ap (λ zs. x ∷ zs) (take_none X n)
take_room (suc n) (y ∷ xs) x e = ap (λ zs. y ∷ zs) (take_room n xs x (omega arith))

take_again : {X : Type 0} (n : ℕ) (xs : List X) (x : X) (ys : List X) → take n (take n (xs ++ x ∷ []) ++ ys) ≡ take
    n (xs ++ x ∷ ys)
take_again zero xs x ys = refl
take_again {X = X} (suc n) [] x ys = ap (λ zs. x ∷ take n (zs ++ ys)) (take_none X n)
take_again (suc n) (y ∷ xs) x ys = ap (λ zs. y ∷ zs) (take_again n xs x ys)

-- one frame, and those after it
frames_again : (frames : List Octets) (frame : Octets) (more : List Octets) →
    with_frames (with_frames frames (frame ∷ [])) more ≡ with_frames frames (frame ∷ more)
frames_again frames frame [] = refl
frames_again frames frame (next ∷ more) = take_again 9 frames frame (next ∷ more)

-- the packet at a place, and those after it
pub drop-slice_get : {X : Type 0} (place : ℕ) (xs : List X) (x : X) → slice_get xs place ≡ Some x → drop place xs ≡
    x ∷ drop (suc place) xs
drop-slice_get zero [] x e = absurd (cc)
drop-slice_get zero (y ∷ xs) x e = let same : y ≡ x = cc in ap (λ z. z ∷ xs) same
drop-slice_get (suc place) [] x e = absurd (cc)
drop-slice_get (suc place) (y ∷ xs) x e = drop-slice_get place xs x e

-- one I frame more, and those after it
pub sent_one_more : (role : Role) (oldest nr place : ℕ) (queue : List Octets) (packet : Octets) (frames : List
    Octets) → slice_get queue place ≡ Some packet →
    with_frames (with_frames frames (spelling role (command (I ((oldest + place) % 8) nr packet) false) ∷
    [])) (map (spelling role) (numbered (oldest + (place + 1)) nr (drop (place + 1) queue)))
    ≡ with_frames frames (map (spelling role) (numbered (oldest + place) nr (drop place queue)))
sent_one_more role oldest nr place queue packet frames at =
    let next : oldest + place + 1 ≡ oldest + (place + 1) = omega arith in
    let rest : drop place queue ≡ packet ∷ drop (place + 1) queue = rw add-one (drop-slice_get place queue packet at) in
    frames_again frames (spelling role (command (I ((oldest + place) % 8) nr packet) false)) (map
    (spelling role) (numbered (oldest + (place + 1)) nr (drop (place + 1) queue)))
    ∙ ap (λ n. with_frames frames (map (spelling role) (command (I ((oldest + place) % 8) nr packet)
    false ∷ numbered n nr (drop (place + 1) queue)))) (sym next)
    ∙ ap (λ ps. with_frames frames (map (spelling role) (numbered (oldest + place) nr ps))) (sym rest)

-- frames were appended twice, and nothing else was changed
pub frames_alone : (first middle last : Out) (frames : List Octets) → middle ≡ record first {
  frames =
      middle.frames;
} → last ≡ record middle { frames = frames } → last ≡ record first { frames = last.frames }
frames_alone first middle last frames once again =
    again ∙ (λ i. record (once i) { frames = frames }) ∙ (λ i. record first {
      frames = (ap (λ (o : Out). o.frames)
          (sym again)) i;
    })

max_by : (a b : ℕ) (test : Bool) → nat_le a b ≡ test → max a b ≡ (if test then b else a)
max_by a b true e = let less = leb-true a b e in omega arith
max_by a b false e = let more = leb-false a b e in omega arith

-- the link after its packets were sent
pub sent_link : (l : Link) → l.next < length l.queue → record l {
  next = length l.queue;
  top = max l.top (length
      l.queue);
  owed = false;
} ≡ (send_all l (drop l.next l.queue)).link
sent_link l some = go (drop l.next l.queue) (omega (arith, length-drop l.next l.queue))
  where
    go : (packets : List Octets) → 0 < length packets → record l {
      next = length l.queue;
      top = max l.top (length
          l.queue);
      owed = false;
    } ≡ (send_all l packets).link
    go [] none = absurd (omega arith)
    go (packet ∷ packets) _ = λ i. record l {
      next = length l.queue;
      top = (max_by l.top (length l.queue) (nat_le
          l.top (length l.queue)) refl) i;
      owed = false;
    }

-- the frames in which its packets are sent
pub sent_frames : (l : Link) → l.next < length l.queue →
    numbered (l.oldest + l.next) l.expected (drop l.next l.queue) ≡ (send_all l (drop l.next l.queue)).frames
sent_frames l some = go (drop l.next l.queue) (omega (arith, length-drop l.next l.queue))
  where
    go : (packets : List Octets) → 0 < length packets →
        numbered (l.oldest + l.next) l.expected packets ≡ (send_all l packets).frames
    go [] none = absurd (omega arith)
    go (packet ∷ packets) _ = refl

up_runs : (phase : Phase) (l : Link) → phase ≡ Phase.Up → runs_in phase l ≡ (nat_lt 0 l.top || l.polling || l.busy)
up_runs Phase.Up l up = refl
up_runs Phase.Down l up = absurd (cc)
up_runs Phase.SettingUp l up = absurd (cc)
up_runs Phase.Rejecting l up = absurd (cc)

neither : (a b c : Bool) → b ≡ false → c ≡ false → (a || b || c) ≡ a
neither true b c b_is c_is = refl
neither false false false b_is c_is = refl
neither false true c b_is c_is = absurd (cc)
neither false false true b_is c_is = absurd (cc)

some_sent : (top count : ℕ) (test : Bool) → nat_le top count ≡ test → 0 < count →
    nat_lt 0 (if test then count else top) ≡ true
some_sent top count true e some = grind (arith, nat_tests)
some_sent top count false e some = grind (arith, nat_tests)

first : (a b c : Bool) → a ≡ true → (a || b || c) ≡ true
first true b c a_is = refl
first false b c a_is = absurd (cc)

-- where packets are sent T1 runs then, and it ran before where some were unacknowledged
pub sent_by : (l : Link) (out : Out) → l.phase ≡ Phase.Up → l.polling ≡ false → l.busy ≡ false →
    l.next < length l.queue → record out {
      frames = with_frames out.frames (map (spelling l.role) (send_all l (drop l.next l.queue)).frames);
      note = Note.Nothing;
      accepted = false;
      timer = timing_after out.timer (timing_by (nat_lt 0 l.top) true false);
    } ≡ gathered out l (send_all l (drop l.next l.queue))
sent_by l out up polling busy some = go (drop l.next l.queue) (omega (arith, length-drop l.next l.queue))
  where
    ran : nat_lt 0 l.top ≡ runs l
    ran = sym (up_runs l.phase l up ∙ neither (nat_lt 0 l.top) l.polling l.busy polling busy)

    go : (packets : List Octets) → 0 < length packets → record out {
      frames = with_frames out.frames (map (spelling l.role) (send_all l packets).frames);
      note = Note.Nothing;
      accepted = false;
      timer = timing_after out.timer (timing_by (nat_lt 0 l.top) true false);
    } ≡ gathered out l (send_all l packets)
    go [] none = absurd (omega arith)
    go (packet ∷ packets) _ =
        let after = (send_all l (packet ∷ packets)).link in
        let runs_then : true ≡ runs after =
        sym (up_runs l.phase after up
        ∙ first (nat_lt 0 after.top) after.polling after.busy
        (some_sent l.top (length l.queue) (nat_le l.top (length l.queue)) refl (omega arith))) in
        λ i. record out {
          frames = with_frames out.frames (map (spelling l.role) (send_all l (packet ∷ packets)).frames);
          note = Note.Nothing;
          accepted = false;
          timer = timing_after out.timer (timing_by (ran i) (runs_then i) false);
        }
