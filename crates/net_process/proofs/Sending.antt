-- Frames are taken from a line one after the other, until none is left.
use Rattle.std.proofs.Common.{◌≡◌, ℕ, suc, ◌<◌, Bool, true, false, cond, List, [], ◌∷◌, ◌++◌, drop, length, Option, Some, None, refl, sym, ap, ap₂, ◌∙◌, subst, arith}
use Rattle.std.specs.Prelude.{slice_get}
use Rattle.std.specs.Bool.{OnTrue, OnFalse}
use Rattle.frame_lines.specs.declared.line.Direction.{Direction}
use Rattle.frame_lines.specs.Lines.{Flights, flying, with_flying, LineService}
use Rattle.line_carriers.specs.Wire.{frame_form}
use Rattle.line_carriers.specs.Carrier.{takes_frame}
use Rattle.net_events.specs.Network.{NetLine, Network}
use Rattle.net_nodes.specs.Carrying.{with_flights, HandedOn}
use Rattle.remote_lines.specs.declared.line.RemoteLine.{RemoteLine}
use Rattle.net_process.specs.Carrying.{frames_at, with_frames, send, sends}
use Rattle.net_process.proofs.Frames.{flying_with, with_there, with_none, frames_there, frames_none, frames_with, with_own, with_twice}

-- ---- one frame

-- the first frame was taken
pub record Takes (line : ℕ) (d : Direction) (s : Network) (frame : List ℕ) (t : Network) : Type 0 where
  pub first : frames_at line d s ≡ frame ∷ frames_at line d t
  pub part : t ≡ with_frames line d (frames_at line d t) s

-- there was none
pub record FindsNone (line : ℕ) (d : Direction) (s t : Network) : Type 0 where
  pub none : frames_at line d s ≡ []
  pub part : t ≡ with_frames line d [] s

-- what is asked of a call that takes the first frame
abbrev pub Handed : LineService → (line : ℕ) → Direction → (s : Network) → (taken : Bool) → (frame : List ℕ) → (t : Network) → Type 0
Handed L line d s taken frame t = (l : NetLine) → slice_get s.lines line ≡ Some l → HandedOn L line d l s taken frame t

first_is : (xs : List (List ℕ)) (x : List ℕ) → slice_get xs 0 ≡ Some x → xs ≡ x ∷ drop 1 xs
first_is [] x e = absurd (cc)
first_is (y ∷ xs) x e = let same : y ≡ x = cc in ap (λ (z : _). z ∷ xs) same

none_is : (xs : List (List ℕ)) → slice_get xs 0 ≡ None → xs ≡ []
none_is [] e = refl
none_is (x ∷ xs) e = absurd (cc)

pub takes : (L : LineService) → L.faithful → (line : ℕ) (d : Direction) (s : Network) (frame : List ℕ) (t : Network) → Handed L line d s true frame t
    → (slice_get s.lines line ≡ None → true ≡ false) → Takes line d s frame t
takes L known line d s frame t handed beyond = by (slice_get s.lines line) refl
  where
    by : (found : Option NetLine) → slice_get s.lines line ≡ found → Takes line d s frame t
    by None e = absurd (let no : true ≡ false = beyond e in cc)
    by (Some l) e =
        let h = handed l e in
        let rest : h.flights ≡ with_flying d (drop 1 (flying d l.flights)) l.flights = h.rest known in
        let left : frames_at line d t ≡ drop 1 (flying d l.flights) =
        ap (λ (x : Network). frames_at line d x) h.others ∙ frames_with line d h.flights s l e
        ∙ ap (λ (f : Flights). flying d f) rest ∙ flying_with d (drop 1 (flying d l.flights)) l.flights in
        record {
          first =
              frames_there line d s l e ∙ first_is (flying d l.flights) frame (h.first known)
              ∙ ap (λ (xs : List (List ℕ)). frame ∷ xs) (sym left);
          part =
              h.others ∙ ap (λ (f : Flights). with_flights line l f s) rest
              ∙ ap (λ (xs : List (List ℕ)). with_flights line l (with_flying d xs l.flights) s) (sym left)
              ∙ sym (with_there line d (frames_at line d t) s l e);
        }

pub finds_none : (L : LineService) → L.faithful → (line : ℕ) (d : Direction) (s : Network) (frame : List ℕ) (t : Network) → Handed L line d s false frame t
    → (slice_get s.lines line ≡ None → t ≡ s) → FindsNone line d s t
finds_none L known line d s frame t handed untouched = by (slice_get s.lines line) refl
  where
    by : (found : Option NetLine) → slice_get s.lines line ≡ found → FindsNone line d s t
    by None e = record { none = frames_none line d s e; part = untouched e ∙ sym (with_none line d [] s e) }
    by (Some l) e =
        let h = handed l e in
        let none : flying d l.flights ≡ [] = none_is (flying d l.flights) (h.none known) in
        record {
          none = frames_there line d s l e ∙ none;
          part =
              h.others ∙ ap (λ (f : Flights). with_flights line l f s) (h.rest known)
              ∙ ap (λ (xs : List (List ℕ)). with_flights line l (with_flying d (drop 1 xs) l.flights) s) none
              ∙ sym (with_there line d [] s l e);
        }

-- by what the call answered
pub takes_if : (L : LineService) → L.faithful → (line : ℕ) (d : Direction) (s : Network) (taken : Bool) (frame : List ℕ) (t : Network) → taken ≡ true
    → Handed L line d s taken frame t → (slice_get s.lines line ≡ None → taken ≡ false) → Takes line d s frame t
takes_if L known line d s true frame t was handed beyond = takes L known line d s frame t handed beyond
takes_if L known line d s false frame t was handed beyond = absurd (cc)

pub finds_none_if : (L : LineService) → L.faithful → (line : ℕ) (d : Direction) (s : Network) (taken : Bool) (frame : List ℕ) (t : Network) → taken ≡ false
    → Handed L line d s taken frame t → (slice_get s.lines line ≡ None → t ≡ s) → FindsNone line d s t
finds_none_if L known line d s true frame t was handed untouched = absurd (cc)
finds_none_if L known line d s false frame t was handed untouched = finds_none L known line d s frame t handed untouched

pub fewer : (line : ℕ) (d : Direction) (s : Network) (frame : List ℕ) (t : Network) → Takes line d s frame t
    → length (frames_at line d t) < length (frames_at line d s)
fewer line d s frame t took =
    let more : length (frames_at line d s) ≡ suc (length (frames_at line d t)) = ap length took.first in omega arith

-- ---- all of them

-- some frames were taken from the network, which is otherwise the same
abbrev pub HasLess : (line : ℕ) → Direction → (s t : Network) → Type 0
HasLess line d s t = t ≡ with_frames line d (frames_at line d t) s

pub less_none : (line : ℕ) (d : Direction) (s : Network) → HasLess line d s s
less_none line d s = sym (with_own line d s)

pub less_more : (line : ℕ) (d : Direction) (s t : Network) (frame : List ℕ) (u : Network) → HasLess line d s t
    → Takes line d t frame u → HasLess line d s u
less_more line d s t frame u less took =
    took.part
    ∙ ap (λ (x : Network). with_frames line d (frames_at line d u) x) less
    ∙ with_twice line d (frames_at line d u) (frames_at line d t) s

pub less_all : (line : ℕ) (d : Direction) (s t u : Network) → HasLess line d s t → FindsNone line d t u
    → u ≡ with_frames line d [] s
less_all line d s t u less none =
    none.part ∙ ap (λ (x : Network). with_frames line d [] x) less ∙ with_twice line d [] (frames_at line d t) s

-- and each of them was handed to the connection of a remote line
pub record IsSending (line : ℕ) (d : Direction) (s : Network) (r : RemoteLine) (t : Network) (q : RemoteLine) : Type 0 where
  pub sent : sends q (frames_at line d t) ≡ sends r (frames_at line d s)
  pub less : HasLess line d s t

pub sending_none : (line : ℕ) (d : Direction) (s : Network) (r : RemoteLine) → IsSending line d s r s r
sending_none line d s r = record { sent = refl; less = less_none line d s }

abbrev pub with_frame : RemoteLine → List ℕ → RemoteLine
with_frame r frame = record r { carrier = record r.carrier { output = r.carrier.output ++ frame_form frame } }

-- what a call does that hands a frame to the connection
pub sent_is : (r q : RemoteLine) (frame : List ℕ) (b : Bool) → b ≡ takes_frame r.carrier frame
    → OnTrue b (q ≡ with_frame r frame) → OnFalse b (q ≡ r) → q ≡ send r frame
sent_is r q frame true is sent lost = sent ∙ ap (λ (t : Bool). cond t (with_frame r frame) r) is
sent_is r q frame false is sent lost = lost ∙ ap (λ (t : Bool). cond t (with_frame r frame) r) is

pub sending_more : (line : ℕ) (d : Direction) (s : Network) (r : RemoteLine) (t : Network) (q : RemoteLine) (frame : List ℕ)
    (u : Network) (v : RemoteLine) → IsSending line d s r t q → Takes line d t frame u → v ≡ send q frame
    → IsSending line d s r u v
sending_more line d s r t q frame u v so_far took is = record {
  sent =
      ap (λ (x : RemoteLine). sends x (frames_at line d u)) is
      ∙ ap (λ (xs : List (List ℕ)). sends q xs) (sym took.first) ∙ so_far.sent;
  less = less_more line d s t frame u so_far.less took;
}

pub sending_all : (line : ℕ) (d : Direction) (s : Network) (r : RemoteLine) (t : Network) (q : RemoteLine) (u : Network)
    → IsSending line d s r t q → FindsNone line d t u → q ≡ sends r (frames_at line d s)
sending_all line d s r t q u so_far none =
    sym (ap (λ (xs : List (List ℕ)). sends q xs) none.none) ∙ so_far.sent
