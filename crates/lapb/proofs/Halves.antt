-- One direction of a session: packets on the way from one end to the other, and the numbers that come back.
use Rattle.std.specs.Prelude.{◌≡◌, ℕ, zero, suc, ◌+◌, ◌-◌, ◌%◌, ◌<◌, ◌≤◌, Bool, true, false, List, [], ◌∷◌, ◌++◌}
use Rattle.std.specs.Prelude.{length, drop, Some, if◌then◌else◌, nat_le, slice_get}
use Rattle.std.proofs.Common.{refl, sym, ap, ◌∙◌, subst, arith, length-append, length-drop, drop-drop, le-leb}
use Rattle.std.proofs.lemmas.List.{drop-append-le}
use Rattle.frame_codec.specs.Frame.{FrameValue, Content}
use Rattle.frame_codec.specs.Frame.Content.{I, Rr, Rnr, Rej, Sabm, Disc, Dm, Ua, Frmr}
use Rattle.lapb.specs.declared.phase.Phase.{Phase}
use Rattle.lapb.specs.Machine.{Octets, Link, ahead, numbered}
use Rattle.lapb.specs.World.{Sent, stamped, kept_of, IsPrefix}
use Rattle.lapb.proofs.Cases.{Each, each-kept, slice_get-append, prefix-append, prefix-next}

-- an I frame of place n, where the receiver has accepted at least lo and will have been able to accept hi
abbrev pub Carries : List Octets → ℕ → ℕ → Content → Type 0
Carries o lo hi (I ns nr packet) = (n : ℕ) × (ns ≡ n % 8) × (lo ≤ n + 7) × (n < hi) × (slice_get o
    n ≡ Some packet)
Carries o lo hi _ = Unit {0}

-- the frames of session c on the way to a receiver that has accepted lo, from a sender that has sent m of o
abbrev pub Data : ℕ → List Octets → ℕ → ℕ → List Sent → Type 0
Data c o m lo [] = Unit {0}
Data c o m lo (s ∷ rest) = (hi : ℕ) × (lo ≤ hi) × (hi ≤ m) × (s.act ≡ c → Carries o lo hi s.frame.content) × Data c o
    m hi rest

-- N(R) is this count
abbrev pub Tells : ℕ → Content → Type 0
Tells count (I ns nr packet) = nr ≡ count % 8
Tells count (Rr nr) = nr ≡ count % 8
Tells count (Rnr nr) = nr ≡ count % 8
Tells count (Rej nr) = nr ≡ count % 8
Tells count _ = Unit {0}

-- the counts that come back do not fall, from lo up to top
abbrev pub Acks : ℕ → ℕ → ℕ → List Sent → Type 0
Acks c top lo [] = Unit {0}
Acks c top lo (s ∷ rest) = (hi : ℕ) × (lo ≤ hi) × (hi ≤ top) × (s.act ≡ c → Tells hi s.frame.content) × Acks c top hi
    rest

-- a sender's numbers: a packets are acknowledged, m sent
pub record Sends (a m va next top : ℕ) (queue o : List Octets) : Type 0 where
  pub oldest : va ≡ a % 8
  pub queue_is : queue ≡ drop a o
  pub next_le : next ≤ top
  pub top_is : a + top ≡ m
  pub few : length o ≤ a + 7

-- packets o from x to y, who has accepted acc; flow is on the way to y, acks on the way to x
pub record Half' (c : ℕ) (xphase : Phase) (va next top : ℕ) (queue : List Octets) (yphase : Phase) (vr : ℕ) (o acc :
    List Octets)
    (flow acks : List Sent) : Type 0 where
  pub a : ℕ
  pub m : ℕ
  pub a_le : a ≤ length acc
  pub acc_le : length acc ≤ m
  pub m_le : m ≤ length o
  pub near : m ≤ a + 7
  pub in_order : IsPrefix acc o
  pub carried : Data c o m (length acc) flow
  pub told : Acks c (length acc) a acks
  pub sends : xphase ≡ Phase.Up → Sends a m va next top queue o
  pub takes : yphase ≡ Phase.Up → vr ≡ length acc % 8

abbrev pub Half : ℕ → Link → Link → List Octets → List Octets → List Sent → List Sent → Type 0
Half c x y o acc flow acks = Half' c x.phase x.oldest x.next x.top x.queue y.phase y.expected o acc flow acks

-- ---- frames on the way

carries-lower : (o : List Octets) (lo lo' hi : ℕ) (f : Content) → lo' ≤ lo → Carries o lo hi f → Carries o lo' hi f
carries-lower o lo lo' hi (I ns nr packet) le d = (d.0, d.1, omega (arith, d.2), d.3, d.4)
carries-lower o lo lo' hi (Rr nr) le d = tt
carries-lower o lo lo' hi (Rnr nr) le d = tt
carries-lower o lo lo' hi (Rej nr) le d = tt
carries-lower o lo lo' hi Sabm le d = tt
carries-lower o lo lo' hi Disc le d = tt
carries-lower o lo lo' hi Dm le d = tt
carries-lower o lo lo' hi Ua le d = tt
carries-lower o lo lo' hi (Frmr report) le d = tt

carries-grow : (o more : List Octets) (lo hi : ℕ) (f : Content) → Carries o lo hi f → Carries (o ++ more) lo hi f
carries-grow o more lo hi (I ns nr packet) d = (
  d.0,
  d.1,
  d.2,
  d.3,
  slice_get-append o more d.0
      packet d.4,
)
carries-grow o more lo hi (Rr nr) d = tt
carries-grow o more lo hi (Rnr nr) d = tt
carries-grow o more lo hi (Rej nr) d = tt
carries-grow o more lo hi Sabm d = tt
carries-grow o more lo hi Disc d = tt
carries-grow o more lo hi Dm d = tt
carries-grow o more lo hi Ua d = tt
carries-grow o more lo hi (Frmr report) d = tt

pub data-lower : (c : ℕ) (o : List Octets) (m lo lo' : ℕ) (flow : List Sent) → lo' ≤ lo → Data c o m lo flow → Data c
    o m lo' flow
data-lower c o m lo lo' [] le d = tt
data-lower c o m lo lo' (s ∷ rest) le d =
    (d.0, omega (arith, d.1), d.2, λ e. carries-lower o lo lo' d.0 s.frame.content le (d.3 e), d.4)

data-grow : (c : ℕ) (o more : List Octets) (m m' lo : ℕ) (flow : List Sent) → m ≤ m' → Data c o m lo flow → Data c (o
    ++ more) m' lo flow
data-grow c o more m m' lo [] le d = tt
data-grow c o more m m' lo (s ∷ rest) le d = (
  d.0,
  d.1,
  omega (arith, d.2),
  λ e. carries-grow o more lo d.0 s.frame.content (d.3 e),
  data-grow c o more m m'
      d.0 rest le d.4,
)

data-raise : (c : ℕ) (o : List Octets) (m m' lo : ℕ) (flow : List Sent) → m ≤ m' → Data c o m lo flow → Data c o m' lo
    flow
data-raise c o m m' lo [] le d = tt
data-raise c o m m' lo (s ∷ rest) le d = (d.0, d.1, omega (arith, d.2), d.3, data-raise c o m m' d.0 rest le d.4)

data-append : (c : ℕ) (o : List Octets) (m lo : ℕ) (flow new : List Sent) → lo ≤ m → Data c o m lo flow → Data c o m m
    new →
    Data c o m lo (flow ++ new)
data-append c o m lo [] new le d n = data-lower c o m m lo new le n
data-append c o m lo (s ∷ rest) new le d n = (d.0, d.1, d.2, d.3, data-append c o m d.0 rest new d.2 d.4 n)

data-each : (c t : ℕ) (o : List Octets) (m : ℕ) (frames : List FrameValue) → Each (λ f. Carries o m m f.content)
    frames →
    Data c o m m (stamped t frames)
data-each c t o m [] all = tt
data-each c t o m (f ∷ frames) all = (m, omega arith, omega arith, λ e. all.0, data-each c t o m frames all.1)

pub acks-lower : (c top lo lo' : ℕ) (acks : List Sent) → lo' ≤ lo → Acks c top lo acks → Acks c top lo' acks
acks-lower c top lo lo' [] le d = tt
acks-lower c top lo lo' (s ∷ rest) le d = (d.0, omega (arith, d.1), d.2, d.3, d.4)

acks-raise : (c top top' lo : ℕ) (acks : List Sent) → top ≤ top' → Acks c top lo acks → Acks c top' lo acks
acks-raise c top top' lo [] le d = tt
acks-raise c top top' lo (s ∷ rest) le d = (d.0, d.1, omega (arith, d.2), d.3, acks-raise c top top' d.0 rest le d.4)

acks-append : (c top lo : ℕ) (acks new : List Sent) → lo ≤ top → Acks c top lo acks → Acks c top top new → Acks c top
    lo (acks ++ new)
acks-append c top lo [] new le d n = acks-lower c top top lo new le n
acks-append c top lo (s ∷ rest) new le d n = (d.0, d.1, d.2, d.3, acks-append c top d.0 rest new d.2 d.4 n)

acks-each : (c t top : ℕ) (frames : List FrameValue) → Each (λ f. Tells top f.content) frames → Acks c top top
    (stamped t frames)
acks-each c t top [] all = tt
acks-each c t top (f ∷ frames) all = (top, omega arith, omega arith, λ e. all.0, acks-each c t top frames all.1)

-- ---- what becomes of a direction

module _ (c : ℕ) (xphase : Phase) (va next top : ℕ) (queue : List Octets) (yphase : Phase) (vr : ℕ) (o acc : List
    Octets) where
  -- the frame at the front is gone
  pub half-lost : (s : Sent) (rest acks : List Sent) → Half' c xphase va next top queue yphase vr o acc (s ∷ rest)
      acks →
      Half' c xphase va next top queue yphase vr o acc rest acks
  half-lost s rest acks h = record {
    a = h.a;
    m = h.m;
    a_le = h.a_le;
    acc_le = h.acc_le;
    m_le = h.m_le;
    near = h.near;
    in_order = h.in_order;
    carried = data-lower c o h.m h.carried.0 (length acc) rest h.carried.1 h.carried.4;
    told = h.told;
    sends = h.sends;
    takes = h.takes;
  }

  pub half-lost_back : (s : Sent) (flow rest : List Sent) → Half' c xphase va next top queue yphase vr o acc flow (s ∷
      rest) →
      Half' c xphase va next top queue yphase vr o acc flow rest
  half-lost_back s flow rest h = record {
    a = h.a;
    m = h.m;
    a_le = h.a_le;
    acc_le = h.acc_le;
    m_le = h.m_le;
    near = h.near;
    in_order = h.in_order;
    carried = h.carried;
    told = acks-lower c (length acc) h.told.0 h.a rest h.told.1 h.told.4;
    sends = h.sends;
    takes = h.takes;
  }

  -- nothing is on the way
  pub half-emptied : (flow acks : List Sent) → Half' c xphase va next top queue yphase vr o acc flow acks →
      Half' c xphase va next top queue yphase vr o acc [] []
  half-emptied flow acks h = record {
    a = h.a;
    m = h.m;
    a_le = h.a_le;
    acc_le = h.acc_le;
    m_le = h.m_le;
    near = h.near;
    in_order = h.in_order;
    carried = tt;
    told = tt;
    sends = h.sends;
    takes = h.takes;
  }

  -- x sends
  pub half-sent : (t : ℕ) (frames : List FrameValue) (flow acks : List Sent) (h : Half' c xphase va next top queue
      yphase vr o acc flow acks) →
      Each (λ f. Carries o h.m h.m f.content) frames →
      Half' c xphase va next top queue yphase vr o acc (flow ++ stamped t frames) acks
  half-sent t frames flow acks h all = record {
    a = h.a;
    m = h.m;
    a_le = h.a_le;
    acc_le = h.acc_le;
    m_le = h.m_le;
    near = h.near;
    in_order = h.in_order;
    carried = data-append c o h.m (length acc) flow (stamped t frames) h.acc_le h.carried (data-each c t o h.m frames
        all);
    told = h.told;
    sends = h.sends;
    takes = h.takes;
  }

  -- y sends
  pub half-told : (t : ℕ) (frames : List FrameValue) (flow acks : List Sent) → Half' c xphase va next top queue yphase
      vr o acc flow acks →
      Each (λ f. Tells (length acc) f.content) frames →
      Half' c xphase va next top queue yphase vr o acc flow (acks ++ stamped t frames)
  half-told t frames flow acks h all = record {
    a = h.a;
    m = h.m;
    a_le = h.a_le;
    acc_le = h.acc_le;
    m_le = h.m_le;
    near = h.near;
    in_order = h.in_order;
    carried = h.carried;
    told = acks-append c (length acc) h.a acks (stamped t frames) h.a_le h.told (acks-each c t (length acc) frames
        all);
    sends = h.sends;
    takes = h.takes;
  }

  -- x is in no session
  pub half-x_out : (xphase' : Phase) (va' next' top' : ℕ) (queue' : List Octets) (flow acks : List Sent) → (xphase' ≡
      Phase.Up → ⊥) →
      Half' c xphase va next top queue yphase vr o acc flow acks → Half' c xphase' va' next' top' queue' yphase vr o
      acc flow acks
  half-x_out xphase' va' next' top' queue' flow acks out h = record {
    a = h.a;
    m = h.m;
    a_le = h.a_le;
    acc_le = h.acc_le;
    m_le = h.m_le;
    near = h.near;
    in_order = h.in_order;
    carried = h.carried;
    told = h.told;
    sends = λ e. absurd (out e);
    takes = h.takes;
  }

  -- y is in no session
  pub half-y_out : (yphase' : Phase) (vr' : ℕ) (flow acks : List Sent) → (yphase' ≡ Phase.Up → ⊥) →
      Half' c xphase va next top queue yphase vr o acc flow acks → Half' c xphase va next top queue yphase' vr' o acc
      flow acks
  half-y_out yphase' vr' flow acks out h = record {
    a = h.a;
    m = h.m;
    a_le = h.a_le;
    acc_le = h.acc_le;
    m_le = h.m_le;
    near = h.near;
    in_order = h.in_order;
    carried = h.carried;
    told = h.told;
    sends = h.sends;
    takes = λ e. absurd (out e);
  }

  -- y begins the session anew, where nothing was accepted yet
  pub half-y_begins : (flow acks : List Sent) → acc ≡ [] → Half' c xphase va next top queue yphase vr o acc flow acks
      →
      Half' c xphase va next top queue Phase.Up 0 o acc flow acks
  half-y_begins flow acks e h = record {
    a = h.a;
    m = h.m;
    a_le = h.a_le;
    acc_le = h.acc_le;
    m_le = h.m_le;
    near = h.near;
    in_order = h.in_order;
    carried = h.carried;
    told = h.told;
    sends = h.sends;
    takes = λ _. ap (λ (l : List Octets). length l % 8) (sym e);
  }

-- ---- numbers

ahead-is : (a hi : ℕ) → a ≤ hi → hi ≤ a + 7 → (hi % 8 + 8 - a % 8) % 8 ≡ hi - a
ahead-is a hi l u = omega arith

-- a number within eight of what was accepted that agrees with it modulo 8 is it
same_place : (n v : ℕ) → n % 8 ≡ v % 8 → v ≤ n + 7 → n ≤ v + 7 → n ≡ v
same_place n v e l u = omega arith

-- ---- x takes a number back

pub half-acked : (c va next top : ℕ) (queue : List Octets) (yphase : Phase) (vr : ℕ) (o acc : List Octets) (flow :
    List Sent) (s : Sent)
    (rest : List Sent) (nr : ℕ) → Half' c Phase.Up va next top queue yphase vr o acc flow (s ∷ rest) → s.act ≡ c →
    ((hi : ℕ) → Tells hi s.frame.content → nr ≡ hi % 8) →
    (nat_le (ahead va nr) top ≡ true) ×
    Half' c Phase.Up nr (next - ahead va nr) (top - ahead va nr) (drop (ahead va nr) queue) yphase vr o acc flow rest
half-acked c va next top queue yphase vr o acc flow s rest nr h at tells =
    let sends = h.sends refl in
    let hi = h.told.0 in
    let low : h.a ≤ hi = h.told.1 in
    let high : hi ≤ length acc = h.told.2 in
    let nr_is : nr ≡ hi % 8 = tells hi (h.told.3 at) in
    let va_is : va ≡ h.a % 8 = sends.oldest in
    let bound : hi ≤ h.a + 7 = omega (arith, h.acc_le, h.near) in
    let far : ahead va nr ≡ hi - h.a =
    subst (λ v. (nr + 8 - v) % 8 ≡ hi - h.a) (sym va_is) (subst (λ n. (n + 8 - h.a % 8) % 8 ≡ hi - h.a) (sym nr_is)
    (ahead-is h.a hi low bound)) in
    let within : ahead va nr ≤ top = omega (arith, far, sends.top_is, h.acc_le) in
    let dropped : drop (ahead va nr) queue ≡ drop hi o =
    subst (λ d. drop d queue ≡ drop hi o) (sym far)
    (subst (λ q. drop (hi - h.a) q ≡ drop hi o) (sym sends.queue_is)
    (drop-drop (hi - h.a) h.a o ∙ ap (λ n. drop n o) (let e : h.a + (hi - h.a) ≡ hi = omega arith in e))) in (
      le-leb (ahead va nr) top within,
      record {
        a = hi;
        m = h.m;
        a_le = high;
        acc_le = h.acc_le;
        m_le = h.m_le;
        near = omega (arith, h.near);
        in_order = h.in_order;
        carried = h.carried;
        told = h.told.4;
        sends = λ _. record {
          oldest = nr_is;
          queue_is = dropped;
          next_le = omega (arith, sends.next_le);
          top_is = omega (arith, far, sends.top_is, h.acc_le);
          few = omega (arith, sends.few);
        };
        takes = h.takes;
      },
    )

-- ---- y accepts an I frame

pub half-accepted : (c : ℕ) (xphase : Phase) (va next top : ℕ) (queue : List Octets) (vr : ℕ) (o acc : List Octets) (s
    : Sent)
    (rest acks : List Sent) (ns nr : ℕ) (packet : Octets) →
    Half' c xphase va next top queue Phase.Up vr o acc (s ∷ rest) acks → s.act ≡ c → s.frame.content ≡ I
    ns nr packet →
    ns ≡ vr → Half' c xphase va next top queue Phase.Up ((vr + 1) % 8) o (acc ++ packet ∷ []) rest acks
half-accepted c xphase va next top queue vr o acc s rest acks ns nr packet h at is same =
    let hi = h.carried.0 in
    let d : Carries o (length acc) hi (I ns nr packet) =
    subst (λ (f : Content). Carries o (length acc) hi f) is (h.carried.3 at) in
    let n = d.0 in
    let vr_is : vr ≡ length acc % 8 = h.takes refl in
    let place : n ≡ length acc = same_place n (length acc) (sym d.1 ∙ same ∙ vr_is) d.2 (omega (
      arith,
      d.3,
      h.carried.2,
      h.near,
      h.a_le,
    )) in
    let at_end : slice_get o (length acc) ≡ Some packet = subst (λ i. slice_get o i ≡ Some packet) place d.4 in
    let len : length (acc ++ packet ∷ []) ≡ length acc + 1 = length-append acc (packet ∷ []) in
    let next_le : length acc + 1 ≤ hi = omega (arith, d.3, place) in
    record {
      a = h.a;
      m = h.m;
      a_le = omega (arith, len, h.a_le);
      acc_le = omega (arith, len, next_le, h.carried.2);
      m_le = h.m_le;
      near = h.near;
      in_order = prefix-next acc o packet h.in_order at_end;
      carried = data-lower c o h.m hi (length (acc ++ packet ∷ [])) rest (omega (arith, len, next_le)) h.carried.4;
      told = acks-raise c (length acc) (length (acc ++ packet ∷ [])) h.a acks (omega (arith, len)) h.told;
      sends = h.sends;
      takes = λ _. omega (arith, len, vr_is);
    }

-- ---- x is offered a packet

pub half-offered : (c va next top : ℕ) (queue : List Octets) (yphase : Phase) (vr : ℕ) (o acc : List Octets) (flow
    acks : List Sent)
    (packet : Octets) → Half' c Phase.Up va next top queue yphase vr o acc flow acks → length queue ≤ 6 →
    Half' c Phase.Up va next top (queue ++ packet ∷ []) yphase vr (o ++ packet ∷ []) acc flow acks
half-offered c va next top queue yphase vr o acc flow acks packet h room =
    let sends = h.sends refl in
    let len : length (o ++ packet ∷ []) ≡ length o + 1 = length-append o (packet ∷ []) in
    let a_le : h.a ≤ length o = omega (arith, h.a_le, h.acc_le, h.m_le) in
    let short : length o - h.a ≤ 6 =
    subst (λ n. n ≤ 6) (ap (λ (q : List Octets). length q) sends.queue_is ∙ length-drop h.a o) room in
    record {
      a = h.a;
      m = h.m;
      a_le = h.a_le;
      acc_le = h.acc_le;
      m_le = omega (arith, len, h.m_le);
      near = h.near;
      in_order = prefix-append acc o (packet ∷ []) h.in_order;
      carried = data-grow c o (packet ∷ []) h.m h.m (length acc) flow (omega arith) h.carried;
      told = h.told;
      sends = λ _. record {
        oldest = sends.oldest;
        queue_is = ap (λ (q : List Octets). q ++ packet ∷ []) sends.queue_is ∙ sym (drop-append-le h.a o (packet ∷ [])
            a_le);
        next_le = sends.next_le;
        top_is = sends.top_is;
        few = omega (arith, len, short, a_le);
      };
      takes = h.takes;
    }

-- ---- x sets V(S) back

pub half-back : (c : ℕ) (xphase : Phase) (va next top : ℕ) (queue : List Octets) (yphase : Phase) (vr : ℕ) (o acc :
    List Octets)
    (flow acks : List Sent) (back : Bool) → Half' c xphase va next top queue yphase vr o acc flow acks →
    Half' c xphase va (if back then 0 else next) top queue yphase vr o acc flow acks
half-back c xphase va next top queue yphase vr o acc flow acks false h = h
half-back c xphase va next top queue yphase vr o acc flow acks true h = record {
  a = h.a;
  m = h.m;
  a_le = h.a_le;
  acc_le = h.acc_le;
  m_le = h.m_le;
  near = h.near;
  in_order = h.in_order;
  carried = h.carried;
  told = h.told;
  sends = λ e. let sends = h.sends e in record {
    oldest = sends.oldest;
    queue_is = sends.queue_is;
    next_le = omega arith;
    top_is = sends.top_is;
    few = sends.few;
  };
  takes = h.takes;
}

-- ---- x sends its packets

pub drop-first : (o : List Octets) (i : ℕ) (x : Octets) (xs : List Octets) → drop i o ≡ x ∷ xs →
    (slice_get o i ≡ Some x) × (drop (suc i) o ≡ xs) × (i < length o)
drop-first [] zero x xs e = absurd (cc)
drop-first [] (suc i) x xs e = absurd (cc)
drop-first (y ∷ o) zero x xs e = (cc, cc, omega arith)
drop-first (y ∷ o) (suc i) x xs e =
    let more = drop-first o i x xs e in
    (more.0, more.1, omega (arith, more.2))

numbered-carry : (o : List Octets) (nr start i : ℕ) (packets : List Octets) → drop i o ≡ packets → length o ≤ i +
    7 →
    start % 8 ≡ i % 8 → Each (λ f. Carries o (length o) (length o) f.content) (numbered start nr packets)
numbered-carry o nr start i [] e few same = tt
numbered-carry o nr start i (packet ∷ packets) e few same =
    let first = drop-first o i packet packets e in (
      (i, same, few, first.2, first.0),
      numbered-carry o nr (start + 1) (suc i) packets first.1 (omega arith)
          (omega (arith, same)),
    )

pub numbered-tell : (nr count start : ℕ) (packets : List Octets) → nr ≡ count % 8 →
    Each (λ f. Tells count f.content) (numbered start nr packets)
numbered-tell nr count start [] e = tt
numbered-tell nr count start (packet ∷ packets) e = (e, numbered-tell nr count (start + 1) packets e)

pub half-sends_all : (c va next top : ℕ) (queue : List Octets) (yphase : Phase) (vr : ℕ) (o acc : List Octets) (flow
    acks : List Sent)
    (t nr : ℕ) (kept : List Bool) → Half' c Phase.Up va next top queue yphase vr o acc flow acks →
    Half' c Phase.Up va (length queue) (if nat_le top (length queue) then length queue else top) queue yphase vr o acc
    (flow ++ stamped t (kept_of kept (numbered (va + next) nr (drop next queue)))) acks
half-sends_all c va next top queue yphase vr o acc flow acks t nr kept h =
    let sends = h.sends refl in
    let len : length queue ≡ length o - h.a = ap (λ (q : List Octets). length q) sends.queue_is ∙ length-drop h.a o in
    let a_le : h.a ≤ length o = omega (arith, h.a_le, h.acc_le, h.m_le) in
    let top_le : top ≤ length queue = omega (arith, len, sends.top_is, h.m_le) in
    let raised : Half' c Phase.Up va (length queue) (length queue) queue yphase vr o acc flow acks = record {
      a = h.a;
      m = length o;
      a_le = h.a_le;
      acc_le = omega (arith, h.acc_le, h.m_le);
      m_le = omega arith;
      near = sends.few;
      in_order = h.in_order;
      carried = data-raise c o h.m (length o) (length acc) flow h.m_le h.carried;
      told = h.told;
      sends = λ _. record {
        oldest = sends.oldest;
        queue_is = sends.queue_is;
        next_le = omega arith;
        top_is = omega (arith, len, a_le);
        few = sends.few;
      };
      takes = h.takes;
    } in
    let rest_is : drop (h.a + next) o ≡ drop next queue =
    sym (drop-drop next h.a o) ∙ ap (λ (q : List Octets). drop next q) (sym sends.queue_is) in
    let all : Each (λ f. Carries o (length o) (length o) f.content) (numbered (va + next) nr (drop next queue)) =
    numbered-carry o nr (va + next) (h.a + next) (drop next queue) rest_is (omega (arith, sends.few)) (omega
    (arith, sends.oldest)) in
    subst (λ b. Half' c Phase.Up va (length queue) (if b then length queue else top) queue yphase vr o acc
    (flow ++ stamped t (kept_of kept (numbered (va + next) nr (drop next queue)))) acks) (sym (le-leb top (length
    queue) top_le))
    (half-sent c Phase.Up va (length queue) (length queue) queue yphase vr o acc t (kept_of kept (numbered (va + next)
    nr (drop next queue)))
    flow acks raised (each-kept (λ f. Carries o (length o) (length o) f.content) kept (numbered (va + next) nr
    (drop next queue)) all))
