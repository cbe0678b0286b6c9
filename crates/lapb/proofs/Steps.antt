-- What a link that is up makes of both directions of its session: by a frame with N(R), by T1, at the end of an
-- event.
use Rattle.std.specs.Prelude.{◌≡◌, ℕ, ◌+◌, ◌%◌, Bool, true, false, not, ◌&&◌, ◌||◌, List, [], ◌∷◌, ◌++◌, length, drop}
use Rattle.std.specs.Prelude.{Option, ◌⊎◌, if◌then◌else◌, nat_le, nat_lt, ◌==◌}
use Rattle.std.proofs.Common.{refl, sym, subst, inl, inr, eqb-true}
use Rattle.link_timers.specs.declared.role.Role.{Role}
use Rattle.frame_codec.specs.Frame.{FrameValue, Content}
use Rattle.frame_codec.specs.Frame.Content.{I, Rr, Rnr, Rej, Sabm, Disc, Dm, Ua, Frmr}
use Rattle.lapb.specs.declared.phase.Phase.{Phase}
use Rattle.lapb.specs.declared.note.Note.{Note}
use Rattle.lapb.specs.Machine.{Octets, Link, Step, ahead, answers, response, command, numbered, is_valid}
use Rattle.lapb.specs.Machine.{acknowledged, on_supervisory, accept, discard, on_information, checked, reject_number}
use Rattle.lapb.specs.Machine.{in_up, poll, send_all, sendable}
use Rattle.lapb.specs.Named.{with_packet}
use Rattle.lapb.specs.World.{Sent, stamped, kept_of}
use Rattle.lapb.proofs.Cases.{cond_by, Each, each-kept}
use Rattle.lapb.proofs.Halves.{Half', Carries, Tells, half-lost, half-sent, half-told, half-acked, half-accepted}
use Rattle.lapb.proofs.Halves.{half-back, half-sends_all, numbered-tell}

abbrev pub is_numbered : Content → Bool
is_numbered (I ns nr packet) = true
is_numbered (Rr nr) = true
is_numbered (Rnr nr) = true
is_numbered (Rej nr) = true
is_numbered _ = false

-- the link stays up in its session c, and its frames carry N(R)
pub record Goes (c : ℕ) (l r : Link) (o acc o' acc' : List Octets) (out rest : List Sent) (link : Link) (frames : List
    FrameValue)
    (note : Note) (accepted : Option Octets) (h : Bool) : Type 0 where
  pub heard : link.heard ≡ h
  pub phase : link.phase ≡ Phase.Up
  pub note_is : note ≡ Note.Nothing
  pub role : link.role ≡ l.role
  pub k : link.k ≡ l.k
  pub bit : link.bit ≡ l.bit
  pub all : Each (λ f. is_numbered f.content ≡ true) frames
  pub there : (kept : List Bool) → Half' c Phase.Up link.oldest link.next link.top link.queue r.phase r.expected o acc
      (out ++ stamped c (kept_of kept frames)) rest
  pub back : (kept : List Bool) → Half' c r.phase r.oldest r.next r.top r.queue Phase.Up link.expected o' (with_packet
      acc' accepted)
      rest (out ++ stamped c (kept_of kept frames))

abbrev pub GoesStep : ℕ → Link → Link → (o acc o' acc' : List Octets) → (out rest : List Sent) → Bool → Step → Type 0
GoesStep c l r o acc o' acc' out rest h step = Goes c l r o acc o' acc' out rest step.link step.frames step.note
    step.accepted h

-- ---- frames that carry no packet

answers-carry : (o : List Octets) (m nr : ℕ) (due : Bool) → Each (λ f. Carries o m m f.content) (answers due
    nr)
answers-carry o m nr true = (tt, tt)
answers-carry o m nr false = tt

answers-tell : (count nr : ℕ) (due : Bool) → nr ≡ count % 8 → Each (λ f. Tells count f.content) (answers due
    nr)
answers-tell count nr true e = (e, tt)
answers-tell count nr false e = tt

answers-numbered : (nr : ℕ) (due : Bool) → Each (λ f. is_numbered f.content ≡ true) (answers due nr)
answers-numbered nr true = (refl, tt)
answers-numbered nr false = tt

discarded-carry : (o : List Octets) (m nr : ℕ) (rejecting due : Bool) →
    Each (λ f. Carries o m m f.content) (if rejecting then answers due nr else response (Rej nr) due ∷
    [])
discarded-carry o m nr true due = answers-carry o m nr due
discarded-carry o m nr false due = (tt, tt)

discarded-tell : (count nr : ℕ) (rejecting due : Bool) → nr ≡ count % 8 →
    Each (λ f. Tells count f.content) (if rejecting then answers due nr else response (Rej nr) due ∷ [])
discarded-tell count nr true due e = answers-tell count nr due e
discarded-tell count nr false due e = (e, tt)

discarded-numbered : (nr : ℕ) (rejecting due : Bool) →
    Each (λ f. is_numbered f.content ≡ true) (if rejecting then answers due nr else response (Rej nr) due
    ∷ [])
discarded-numbered nr true due = answers-numbered nr due
discarded-numbered nr false due = (refl, tt)

owed-carry : (o : List Octets) (m nr : ℕ) (due : Bool) →
    Each (λ f. Carries o m m f.content) (if due then response (Rr nr) false ∷ [] else [])
owed-carry o m nr true = (tt, tt)
owed-carry o m nr false = tt

owed-tell : (count nr : ℕ) (due : Bool) → nr ≡ count % 8 →
    Each (λ f. Tells count f.content) (if due then response (Rr nr) false ∷ [] else [])
owed-tell count nr true e = (e, tt)
owed-tell count nr false e = tt

owed-numbered : (nr : ℕ) (due : Bool) →
    Each (λ f. is_numbered f.content ≡ true) (if due then response (Rr nr) false ∷ [] else [])
owed-numbered nr true = (refl, tt)
owed-numbered nr false = tt

numbered-numbered : (start nr : ℕ) (packets : List Octets) → Each (λ f. is_numbered f.content ≡ true) (numbered
    start nr packets)
numbered-numbered start nr [] = tt
numbered-numbered start nr (packet ∷ packets) = (refl, numbered-numbered (start + 1) nr packets)

module _ (c : ℕ) (l r : Link) (o acc o' acc' : List Octets) (out : List Sent) where
  abbrev There : Link → List Sent → Type 0
  There link ins = Half' c Phase.Up link.oldest link.next link.top link.queue r.phase r.expected o acc out ins

  abbrev Back : Link → List Octets → List Sent → Type 0
  Back link accepted ins = Half' c r.phase r.oldest r.next r.top r.queue Phase.Up link.expected o' accepted ins out

  -- ---- a supervisory frame

  goes_supervisory : (g : Link) (rest : List Sent) (busy back is_response p : Bool) → g.phase ≡ Phase.Up → g.role ≡
      l.role → g.k ≡ l.k →
      g.bit ≡ l.bit → There g rest → Back g acc' rest →
      GoesStep c l r o acc o' acc' out rest g.heard (on_supervisory g busy back is_response p)
  goes_supervisory g rest busy back is_response p up role k bit there ins =
      let due : Bool = p && not is_response in
      let stays : Bool = back || is_response && p in
      let moved : Half' c Phase.Up g.oldest (if stays then 0 else g.next) g.top g.queue r.phase r.expected o acc out
      rest =
      half-back c Phase.Up g.oldest g.next g.top g.queue r.phase r.expected o acc out rest stays there in
      record {
        heard = refl;
        phase = up;
        note_is = refl;
        role = role;
        k = k;
        bit = bit;
        all = answers-numbered g.expected due;
        there = λ kept. half-sent c Phase.Up g.oldest (if stays then 0 else g.next) g.top g.queue r.phase r.expected o
            acc c
            (kept_of kept (answers due g.expected)) out rest moved
            (each-kept (λ f. Carries o moved.m moved.m f.content) kept (answers due g.expected) (answers-carry o
            moved.m g.expected due));
        back = λ kept. half-told c r.phase r.oldest r.next r.top r.queue Phase.Up g.expected o' acc' c (kept_of kept
            (answers due g.expected))
            rest out ins
            (each-kept (λ f. Tells (length acc') f.content) kept (answers due g.expected) (answers-tell (length acc')
            g.expected due (ins.takes refl)));
      }

  -- ---- an I frame

  goes_accept : (g : Link) (rest : List Sent) (p : Bool) (packet : Octets) → g.phase ≡ Phase.Up → g.role ≡ l.role →
      g.k ≡ l.k →
      g.bit ≡ l.bit → There g rest →
      Half' c r.phase r.oldest r.next r.top r.queue Phase.Up ((g.expected + 1) % 8) o' (acc' ++ packet ∷ []) rest out
      →
      GoesStep c l r o acc o' acc' out rest g.heard (accept g p packet)
  goes_accept g rest p packet up role k bit there ins =
      let v : ℕ = (g.expected + 1) % 8 in
      record {
        heard = refl;
        phase = up;
        note_is = refl;
        role = role;
        k = k;
        bit = bit;
        all = answers-numbered v p;
        there = λ kept. half-sent c Phase.Up g.oldest g.next g.top g.queue r.phase r.expected o acc c
            (kept_of kept (answers p v)) out rest there
            (each-kept (λ f. Carries o there.m there.m f.content) kept (answers p v) (answers-carry o there.m v p));
        back = λ kept. half-told c r.phase r.oldest r.next r.top r.queue Phase.Up v o' (acc' ++ packet ∷ []) c
            (kept_of kept (answers p v))
            rest out ins
            (each-kept (λ f. Tells (length (acc' ++ packet ∷ [])) f.content) kept (answers p v)
            (answers-tell (length (acc' ++ packet ∷ [])) v p (ins.takes refl)));
      }

  goes_discard : (g : Link) (rest : List Sent) (p : Bool) → g.phase ≡ Phase.Up → g.role ≡ l.role → g.k ≡ l.k →
      g.bit ≡ l.bit → There g rest → Back g acc' rest → GoesStep c l r o acc o' acc' out rest g.heard (discard g p)
  goes_discard g rest p up role k bit there ins =
      let frames : List FrameValue = if g.rejecting then answers p g.expected else response (Rej g.expected) p ∷ []
      in
      record {
        heard = refl;
        phase = up;
        note_is = refl;
        role = role;
        k = k;
        bit = bit;
        all = discarded-numbered g.expected g.rejecting p;
        there = λ kept. half-sent c Phase.Up g.oldest g.next g.top g.queue r.phase r.expected o acc c (kept_of kept
            frames) out rest there
            (each-kept (λ f. Carries o there.m there.m f.content) kept frames (discarded-carry o there.m g.expected
            g.rejecting p));
        back = λ kept. half-told c r.phase r.oldest r.next r.top r.queue Phase.Up g.expected o' acc' c (kept_of kept
            frames) rest out ins
            (each-kept (λ f. Tells (length acc') f.content) kept frames
            (discarded-tell (length acc') g.expected g.rejecting p (ins.takes refl)));
      }

  goes_information : (s : Sent) (rest : List Sent) (g : Link) (ns nr : ℕ) (p : Bool) (packet : Octets) →
      g.phase ≡ Phase.Up →
      g.role ≡ l.role → g.k ≡ l.k → g.bit ≡ l.bit → There g rest → Back g acc' (s ∷ rest) → s.act ≡ c →
      s.frame.content ≡ I ns nr packet →
      GoesStep c l r o acc o' acc' out rest g.heard (on_information g ns p packet)
  goes_information s rest g ns nr p packet up role k bit there ins at is =
      cond_by (λ b. GoesStep c l r o acc o' acc' out rest g.heard (if b then accept g p packet else discard g p))
      (ns == g.expected)
      (λ e. goes_accept g rest p packet up role k bit there
      (half-accepted c r.phase r.oldest r.next r.top r.queue g.expected o' acc' s rest out ns nr packet ins at
      is (eqb-true ns g.expected e)))
      (λ _. goes_discard g rest p up role k bit there
      (half-lost c r.phase r.oldest r.next r.top r.queue Phase.Up g.expected o' acc' s rest out ins))

  -- ---- a frame with N(R)

  goes_checked : (rest : List Sent) (content : Content) (is_response p : Bool) (nr : ℕ) (taken : Step) → is_valid
      l nr ≡ true →
      GoesStep c l r o acc o' acc' out rest true taken →
      GoesStep c l r o acc o' acc' out rest true (checked l content is_response p nr taken)
  goes_checked rest content is_response p nr taken valid goes =
      subst (λ b. GoesStep c l r o acc o' acc' out rest true
      (if b then record taken { anew = nat_lt 0 (ahead l.oldest nr) } else reject_number l content is_response
      p))
      (sym valid) goes

  pub goes_frame : (role : Role) (s : Sent) (rest : List Sent) (content : Content) (is_response p : Bool) →
      is_numbered content ≡ true →
      s.frame.content ≡ content → s.act ≡ c → l.phase ≡ Phase.Up → There l (s ∷ rest) → Back l acc' (s ∷ rest) →
      GoesStep c l r o acc o' acc' out rest true (in_up role l content is_response p)
  goes_frame role s rest (I ns nr packet) rr p e is at up there ins =
      let acked = half-acked c l.oldest l.next l.top l.queue r.phase r.expected o acc out s rest nr there at
      (λ hi t. subst (λ (f : Content). Tells hi f) is t) in
      goes_checked rest (I ns nr packet) rr p nr (on_information (acknowledged l nr) ns p
      packet) acked.0
      (goes_information s rest (acknowledged l nr) ns nr p packet up refl refl refl acked.1 ins at is)
  goes_frame role s rest (Rr nr) rr p e is at up there ins =
      let acked = half-acked c l.oldest l.next l.top l.queue r.phase r.expected o acc out s rest nr there at
      (λ hi t. subst (λ (f : Content). Tells hi f) is t) in
      goes_checked rest (Rr nr) rr p nr (on_supervisory (acknowledged l nr) false false rr p)
      acked.0
      (goes_supervisory (acknowledged l nr) rest false false rr p up refl refl refl acked.1
      (half-lost c r.phase r.oldest r.next r.top r.queue Phase.Up l.expected o' acc' s rest out ins))
  goes_frame role s rest (Rnr nr) rr p e is at up there ins =
      let acked = half-acked c l.oldest l.next l.top l.queue r.phase r.expected o acc out s rest nr there at
      (λ hi t. subst (λ (f : Content). Tells hi f) is t) in
      goes_checked rest (Rnr nr) rr p nr (on_supervisory (acknowledged l nr) true false rr
      p) acked.0
      (goes_supervisory (acknowledged l nr) rest true false rr p up refl refl refl acked.1
      (half-lost c r.phase r.oldest r.next r.top r.queue Phase.Up l.expected o' acc' s rest out ins))
  goes_frame role s rest (Rej nr) rr p e is at up there ins =
      let acked = half-acked c l.oldest l.next l.top l.queue r.phase r.expected o acc out s rest nr there at
      (λ hi t. subst (λ (f : Content). Tells hi f) is t) in
      goes_checked rest (Rej nr) rr p nr (on_supervisory (acknowledged l nr) false true rr p)
      acked.0
      (goes_supervisory (acknowledged l nr) rest false true rr p up refl refl refl acked.1
      (half-lost c r.phase r.oldest r.next r.top r.queue Phase.Up l.expected o' acc' s rest out ins))
  goes_frame role s rest Sabm rr p e is at up there ins = absurd (cc)
  goes_frame role s rest Disc rr p e is at up there ins = absurd (cc)
  goes_frame role s rest Dm rr p e is at up there ins = absurd (cc)
  goes_frame role s rest Ua rr p e is at up there ins = absurd (cc)
  goes_frame role s rest (Frmr report) rr p e is at up there ins = absurd (cc)

  -- ---- T1, and the end of an event

  pub goes_poll : (ins : List Sent) → l.phase ≡ Phase.Up → There l ins → Back l acc' ins → GoesStep c l r o acc o'
      acc' out ins l.heard (poll l)
  goes_poll ins up there back =
      let frames : List FrameValue = command (Rr l.expected) true ∷ [] in
      record {
        heard = refl;
        phase = up;
        note_is = refl;
        role = refl;
        k = refl;
        bit = refl;
        all = (refl, tt);
        there = λ kept. half-sent c Phase.Up l.oldest l.next l.top l.queue r.phase r.expected o acc c (kept_of kept
            frames) out ins there
            (each-kept (λ f. Carries o there.m there.m f.content) kept frames (tt, tt));
        back = λ kept. half-told c r.phase r.oldest r.next r.top r.queue Phase.Up l.expected o' acc' c (kept_of kept
            frames) ins out back
            (each-kept (λ f. Tells (length acc') f.content) kept frames (back.takes refl, tt));
      }

  goes_send_all : (ins : List Sent) (packets : List Octets) → packets ≡ [] ⊎ (packets ≡ drop l.next l.queue) → l.phase
      ≡ Phase.Up →
      There l ins → Back l acc' ins → GoesStep c l r o acc o' acc' out ins l.heard (send_all l packets)
  goes_send_all ins [] which up there back =
      let frames : List FrameValue = if l.owed then response (Rr l.expected) false ∷ [] else [] in
      record {
        heard = refl;
        phase = up;
        note_is = refl;
        role = refl;
        k = refl;
        bit = refl;
        all = owed-numbered l.expected l.owed;
        there = λ kept. half-sent c Phase.Up l.oldest l.next l.top l.queue r.phase r.expected o acc c (kept_of kept
            frames) out ins there
            (each-kept (λ f. Carries o there.m there.m f.content) kept frames (owed-carry o there.m l.expected
            l.owed));
        back = λ kept. half-told c r.phase r.oldest r.next r.top r.queue Phase.Up l.expected o' acc' c (kept_of kept
            frames) ins out back
            (each-kept (λ f. Tells (length acc') f.content) kept frames (owed-tell (length acc') l.expected l.owed
            (back.takes refl)));
      }
  goes_send_all ins (packet ∷ packets) which up there back =
      let frames : List FrameValue = numbered (l.oldest + l.next) l.expected (packet ∷ packets) in
      let all_of_them : packet ∷ packets ≡ drop l.next l.queue = elim which [ inl e ↦ absurd (cc) | inr e ↦ e ] in
      record {
        heard = refl;
        phase = up;
        note_is = refl;
        role = refl;
        k = refl;
        bit = refl;
        all = numbered-numbered (l.oldest + l.next) l.expected (packet ∷ packets);
        there = λ kept. subst (λ (ps : List Octets). Half' c Phase.Up l.oldest (length l.queue)
            (if nat_le l.top (length l.queue) then length l.queue else l.top) l.queue r.phase r.expected o acc
            (out ++ stamped c (kept_of kept (numbered (l.oldest + l.next) l.expected ps))) ins) (sym all_of_them)
            (half-sends_all c l.oldest l.next l.top l.queue r.phase r.expected o acc out ins c l.expected kept there);
        back = λ kept. half-told c r.phase r.oldest r.next r.top r.queue Phase.Up l.expected o' acc' c (kept_of kept
            frames) ins out back
            (each-kept (λ f. Tells (length acc') f.content) kept frames
            (numbered-tell l.expected (length acc') (l.oldest + l.next) (packet ∷ packets) (back.takes refl)));
      }

  pub goes_settle : (ins : List Sent) → l.phase ≡ Phase.Up → There l ins → Back l acc' ins →
      GoesStep c l r o acc o' acc' out ins l.heard (send_all l (sendable l))
  goes_settle ins up there back =
      cond_by (λ b. GoesStep c l r o acc o' acc' out ins l.heard (send_all l (if b then drop l.next l.queue else [])))
      _
      (λ _. goes_send_all ins (drop l.next l.queue) (inr refl) up there back)
      (λ _. goes_send_all ins [] (inl refl) up there back)
