-- The loop by which a node puts its frames.
use Rattle.std.proofs.Common.{◌≡◌, ℕ, ◌<◌, Bool, true, false, arith, length, List, [], ◌∷◌, ◌++◌, drop, refl, sym, ap, ◌∙◌, subst, append_assoc}
use Rattle.std.specs.Bool.{OnTrue, OnFalse}
use Rattle.std.proofs.lemmas.List.{append-nil}
use Rattle.lapb.specs.Machine.{Octets}
use Rattle.packet_end.specs.PacketEnd.{without_first_frame}
use Rattle.user_nodes.specs.Node.{NodeState, Pad, Host, end_of, with_end, frames_of, drained}
use Rattle.frame_lines.specs.declared.line.Direction.{Direction}
use Rattle.net_events.specs.declared.answer.Put.{Put}
use Rattle.frame_lines.specs.Lines.{Flights, IsPut, LineService, ArePut}
use Rattle.node_events.specs.Sends.{IsPutOf, ArePutsOf, Sends}

-- frames that are being put: these are, those are left
pub record Putting (L : LineService) (d : Direction) (line : ℕ) (start : List Octets) (before : Flights) (puts : List Put) (left : List Octets) (now : Flights) : Type 0 where
  pub done : List Octets
  pub split : start ≡ done ++ left
  pub listed : ArePutsOf d line done puts
  pub put : L.faithful → ArePut L d done before now

listed-more : (d : Direction) (line : ℕ) (done : List Octets) (puts : List Put) (x : Octets) (p : Put) → ArePutsOf d line done puts → IsPutOf d line x p → ArePutsOf d line (done ++ x ∷ []) (puts ++ p ∷ [])
listed-more d line [] [] x p l i = (i, tt)
listed-more d line [] (q ∷ puts) x p l i = absurd l
listed-more d line (y ∷ done) [] x p l i = absurd l
listed-more d line (y ∷ done) (q ∷ puts) x p l i = (l.0, listed-more d line done puts x p l.1 i)

pub put-more : (L : LineService) (d : Direction) (done : List Octets) (x : Octets) (before mid now : Flights) → ArePut L d done before mid → IsPut L d x mid now → ArePut L d (done ++ x ∷ []) before now
put-more L d [] x before mid now e i = let P : Flights → Type 0 = λ l. IsPut L d x l now in (now, subst P e i, refl)
put-more L d (y ∷ done) x before mid now e i = (e.0, e.1, put-more L d done x e.0 mid now e.2 i)

pub putting-more : (L : LineService) (d : Direction) (line : ℕ) (start : List Octets) (before : Flights) (puts more : List Put) (left : List Octets) (x : Octets) (rest : List Octets) (mid now : Flights) (p : Put)
    → Putting L d line start before puts left mid → left ≡ x ∷ rest → more ≡ puts ++ p ∷ [] → IsPutOf d line x p → (L.faithful → IsPut L d x mid now) → Putting L d line start before more rest now
putting-more L d line start before puts more left x rest mid now p w e m i put = record {
  done = w.done ++ x ∷ [];
  split = w.split ∙ ap (λ (l : List Octets). w.done ++ l) e ∙ sym (append_assoc {A = Octets} w.done (x ∷ []) rest);
  listed = (let P : List Put → Type 0 = λ ps. ArePutsOf d line (w.done ++ x ∷ []) ps in subst P (sym m) (listed-more d line w.done puts x p w.listed i));
  put = λ f. put-more L d w.done x before mid now (w.put f) (put f);
}

pub putting-ends : (L : LineService) (d : Direction) (line : ℕ) (start : List Octets) (before : Flights) (puts : List Put) (left : List Octets) (now : Flights) → Putting L d line start before puts left now → left ≡ [] → Sends L d line start before puts now
putting-ends L d line start before puts left now w e =
    let all : start ≡ w.done = w.split ∙ ap (λ (l : List Octets). w.done ++ l) e ∙ append-nil w.done in
    let P : List Octets → Type 0 = λ l. ArePutsOf d line l puts in
    let Q : List Octets → Type 0 = λ l. L.faithful → ArePut L d l before now in
    record { puts_are = subst P (sym all) w.listed; put = subst Q (sym all) w.put }

-- where frames are left, the one that is given is the first of them
pub given : (b : Bool) (frames : List Octets) (frame : Octets) (rest : List Octets) → OnTrue b (frames ≡ frame ∷ rest) → OnFalse b (frames ≡ [])
    → 0 < length frames → frames ≡ frame ∷ rest
given true frames frame rest first none some = first
given false frames frame rest first none some = absurd (let no : length frames ≡ 0 = ap length none in omega (arith, no, some))

pub none-left : (frames : List Octets) → length frames ≡ 0 → frames ≡ []
none-left [] e = refl
none-left (x ∷ frames) e = absurd (omega (arith, e))

-- a node with these frames left
abbrev pub with_frames : List Octets → NodeState → NodeState
with_frames fs n = with_end (record (end_of n) { line = record (end_of n).line { frames = fs } }) n

-- the first one was taken
one-less : (n : NodeState) (fs : List Octets) → with_end (without_first_frame (end_of (with_frames fs n))) (with_frames fs n) ≡ with_frames (drop 1 fs) n
one-less (Pad p) fs = refl
one-less (Host e) fs = refl

frames-are : (n : NodeState) (fs : List Octets) → frames_of (with_frames fs n) ≡ fs
frames-are (Pad p) fs = refl
frames-are (Host e) fs = refl

pub frames-kept : (a b c : NodeState) → b ≡ with_frames (frames_of b) a → c ≡ with_end (without_first_frame (end_of b)) b → c ≡ with_frames (frames_of c) a
frames-kept a b c e g =
    let fs = frames_of b in
    let h : c ≡ with_frames (drop 1 fs) a = g ∙ ap (λ (n : NodeState). with_end (without_first_frame (end_of n)) n) e ∙ one-less a fs in
    h ∙ ap (λ (x : List Octets). with_frames x a) (sym (ap frames_of h ∙ frames-are a (drop 1 fs)))

pub frames-end : (a b : NodeState) → b ≡ with_frames (frames_of b) a → frames_of b ≡ [] → b ≡ drained a
frames-end a b e none = e ∙ ap (λ (x : List Octets). with_frames x a) none ∙ all-gone a
  where
    all-gone : (n : NodeState) → with_frames [] n ≡ drained n
    all-gone (Pad p) = refl
    all-gone (Host e) = refl
