-- Frames that carry no number, and what both roles share of an offer.
use Rattle.std.specs.Prelude.{◌≡◌, ℕ, ◌≤◌, false, List, ◌++◌, length, nat_le}
use Rattle.std.proofs.Common.{ap, arith, leb-false}
use Rattle.frame_codec.specs.Frame.{FrameValue, Content}
use Rattle.frame_codec.specs.Frame.Content.{I, Rr, Rnr, Rej, Sabm, Disc, Dm, Ua, Frmr}
use Rattle.lapb.specs.declared.phase.Phase.{Phase}
use Rattle.lapb.specs.Machine.{Octets}
use Rattle.lapb.specs.World.{Sent, stamped}
use Rattle.lapb.proofs.Cases.{Each, each-weaken}
use Rattle.lapb.proofs.Halves.{Half', Carries, Tells, half-sent, half-told}
use Rattle.lapb.proofs.Steps.{is_numbered}

carries-plain : (o : List Octets) (m : ℕ) (content : Content) → is_numbered content ≡ false → Carries o m m content
carries-plain o m (I ns nr packet) e = absurd (cc)
carries-plain o m (Rr nr) e = tt
carries-plain o m (Rnr nr) e = tt
carries-plain o m (Rej nr) e = tt
carries-plain o m Sabm e = tt
carries-plain o m Disc e = tt
carries-plain o m Dm e = tt
carries-plain o m Ua e = tt
carries-plain o m (Frmr report) e = tt

tells-plain : (count : ℕ) (content : Content) → is_numbered content ≡ false → Tells count content
tells-plain count (I ns nr packet) e = absurd (cc)
tells-plain count (Rr nr) e = absurd (cc)
tells-plain count (Rnr nr) e = absurd (cc)
tells-plain count (Rej nr) e = absurd (cc)
tells-plain count Sabm e = tt
tells-plain count Disc e = tt
tells-plain count Dm e = tt
tells-plain count Ua e = tt
tells-plain count (Frmr report) e = tt

abbrev pub IsPlain : FrameValue → Type 0
IsPlain f = is_numbered f.content ≡ false

-- x sends frames without numbers
pub half-sent_plain : (c : ℕ) (xphase : Phase) (va next top : ℕ) (queue : List Octets) (yphase : Phase) (vr : ℕ) (o
    acc : List Octets) (t : ℕ)
    (frames : List FrameValue) (flow acks : List Sent) → Half' c xphase va next top queue yphase vr o acc flow acks →
    Each IsPlain frames →
    Half' c xphase va next top queue yphase vr o acc (flow ++ stamped t frames) acks
half-sent_plain c xphase va next top queue yphase vr o acc t frames flow acks h all =
    half-sent c xphase va next top queue yphase vr o acc t frames flow acks h
    (each-weaken IsPlain (λ f. Carries o h.m h.m f.content) (λ f. carries-plain o h.m f.content) frames all)

-- y sends them
pub half-told_plain : (c : ℕ) (xphase : Phase) (va next top : ℕ) (queue : List Octets) (yphase : Phase) (vr : ℕ) (o
    acc : List Octets) (t : ℕ)
    (frames : List FrameValue) (flow acks : List Sent) → Half' c xphase va next top queue yphase vr o acc flow acks →
    Each IsPlain frames →
    Half' c xphase va next top queue yphase vr o acc flow (acks ++ stamped t frames)
half-told_plain c xphase va next top queue yphase vr o acc t frames flow acks h all =
    half-told c xphase va next top queue yphase vr o acc t frames flow acks h
    (each-weaken IsPlain (λ f. Tells (length acc) f.content) (λ f. tells-plain (length acc) f.content) frames all)

abbrev pub IsDm : FrameValue → Type 0
IsDm f = f.content ≡ Dm

pub dm-plain : (frames : List FrameValue) → Each IsDm frames → Each IsPlain frames
dm-plain frames all = each-weaken IsDm IsPlain (λ f e. ap is_numbered e) frames all

-- a link that is not full holds fewer than seven packets
pub full-false : (k : ℕ) (queue : List Octets) → k ≤ 7 → nat_le k (length queue) ≡ false → length queue ≤ 6
full-false k queue le e = let less = leb-false k (length queue) e in omega arith
