-- A call of the link and what is made of it: the value of the end, and what always holds of it.
use Rattle.std.specs.Prelude.{
  ◌≡◌,
  ℕ,
  ◌+◌,
  ◌-◌,
  ◌<◌,
  ◌≤◌,
  ◌⊎◌,
  Bool,
  true,
  false,
  List,
  [],
  ◌∷◌,
  length,
  map,
  drop,
  slice_range,
  Option,
  Some,
  None,
  is_some,
  MatchOption,
}
use Rattle.std.specs.Option.{option_copied}
use Rattle.std.specs.Borrow.{Bor}
use Rattle.std.proofs.Common.{refl, sym, ap, ◌∙◌, arith, inl, inr, length-drop}
use Rattle.std.proofs.lemmas.List.{length-map, take_all}
use Rattle.frame_codec.specs.Spelling.{spelling}
use Rattle.lapb.specs.declared.note.Timing.{Timing as Change}
use Rattle.lapb.specs.Held.{Link as Holder}
use Rattle.lapb.specs.Machine.{Octets, Link, Step, runs, timing, timing_after, on_t1}
use Rattle.lapb.specs.Octets.{on_octets}
use Rattle.lapb.specs.Out.{Out, with_frames, gathered}
use Rattle.line_end.specs.declared.end.LineEnd.TheInside.{Inside}
use Rattle.link_timers.specs.declared.role.Role.{Role}
use Rattle.link_timers.specs.declared.role.Role.TheVariants.{Dte, Dce}
use Rattle.flow_window.specs.Pool.{Buffer}
use Rattle.lapb.specs.declared.link.LinkParams.{LinkParams}
use Rattle.line_end.specs.End.{End, timed, runs_then, did, made, SendsUpTo}
use Rattle.line_end.specs.EndView.{IsEnd}
use Rattle.line_end.proofs.Frames.{with_frames-fit}
use Rattle.line_end.proofs.Steps.{Keeps, sends_on_t1}
use Rattle.line_end.proofs.Timing.{timing_after-keep, runs_after, runs_after_expiry}

change-is : (l : Link) (step : Step) (before out : Out) → before.timer ≡ Change.Keep → out ≡ gathered before l step →
    out.timer ≡ timing l step
change-is l step before out told is = ap (λ (o : Out). o.timer) is ∙
    ap (λ (change : Change). timing_after change (timing l step)) told ∙ timing_after-keep (timing l step)

-- the end after a step, by what the link's call gave
pub did-is : (e : End) (step : Step) (before out : Out) (t1 : Option ℕ) → before.timer ≡ Change.Keep →
    before.frames ≡ e.frames → out ≡ gathered before e.link step → t1 ≡ timed out.timer e.t1 →
    (record { link = step.link; t1 = t1; frames = out.frames }) ≡ did e step
did-is e step before out t1 told frames is by_timer =
    let left : t1 ≡ timed (timing e.link step) e.t1 =
    by_timer ∙ ap (λ (change : Change). timed change e.t1) (change-is e.link step before out told is) in
    let all : out.frames ≡ with_frames e.frames (map (spelling e.link.role) step.frames) =
    ap (λ (o : Out). o.frames) is ∙
    ap (λ (fs : List Octets). with_frames fs (map (spelling e.link.role) step.frames)) frames in
    λ i. record { link = step.link; t1 = left i; frames = all i }

-- whether T1 runs after it
pub t1-is : (l : Link) (step : Step) (prior out : Out) (before after : Bool) → prior.timer ≡ Change.Keep →
    out ≡ gathered prior l step → after ≡ runs_then out.timer before → before ≡ runs l → after ≡ runs step.link
t1-is l step prior out before after told is then ran =
    then ∙ ap (λ (change : Change). runs_then change before) (change-is l step prior out told is) ∙
    ap (runs_then (timing l step)) ran ∙
    runs_after l step

-- and after an expiry of it
pub t1_expired-is : (l : Link) (prior out : Out) (before after : Bool) → prior.timer ≡ Change.Keep →
    out ≡ gathered prior l (on_t1 l) → after ≡ runs_then out.timer before → before ≡ false → runs l ≡ true →
    after ≡ runs (on_t1 l).link
t1_expired-is l prior out before after told is then fired ran =
    then ∙ ap (λ (change : Change). runs_then change before) (change-is l (on_t1 l) prior out told is) ∙
    ap (runs_then (timing l (on_t1 l))) fired ∙
    runs_after_expiry l ran

-- what always holds of an end holds after it
pub still_end : (a : Inside) (link : Holder) (t1 : Option ℕ) (out : Out) → IsEnd a →
    Keeps a.link.link link.link → length link.held ≡ length link.link.queue →
    is_some t1 ≡ runs link.link → out.timer ≡ Change.Keep →
    IsEnd (record a { link = link; t1 = t1; out = out })
still_end a link t1 out is keeps tight runs told = record {
  k = omega (arith, keeps.k, is.k);
  queue = omega (arith, keeps.queue, is.queue, keeps.k);
  tight = tight;
  t1 = runs;
  told = told;
}

-- a packet is accepted from a frame of two octets or more
pub accepted_long : (l : Link) (octets packet : Octets) → (on_octets l octets).accepted ≡ Some packet →
    2 ≤ length octets
accepted_long l [] packet e = let none : ◌≡◌ {A = Option Octets} None (Some packet) = e in absurd (cc)
accepted_long l (address ∷ []) packet e = let none : ◌≡◌ {A = Option Octets} None (Some packet) = e in absurd (cc)
accepted_long l (address ∷ control ∷ field) packet e = omega arith

-- no frame is dropped where there is room
pub sends_up_to : (most : ℕ) (e : End) (step : Step) → length step.frames ≤ most → SendsUpTo most e step
sends_up_to most e step few = record {
  few = few;
  all = λ room. with_frames-fit e.frames (map (spelling e.link.role) step.frames)
      (omega (arith, few, room, length-map step.frames (spelling e.link.role)));
}

-- an expiry of T1 sends one frame at most
pub expiry_sends : (e : End) → SendsUpTo 1 e (on_t1 e.link)
expiry_sends e = sends_up_to 1 e (on_t1 e.link) (sends_on_t1 e.link).few

-- the information field of the frame is the packet that was accepted
pub packet-is : (octets : Octets) (accepted : Option Octets) (got : Option (Bor Octets)) →
    ((packet : Octets) → accepted ≡ Some packet →
    2 ≤ length octets) → ((packet : Octets) → accepted ≡ Some packet → packet ≡ drop 2 octets) →
    is_some accepted ≡ true →
    MatchOption got ((length octets < 2) ⊎ (length octets < length octets))
    (λ x. (2 ≤ length octets) × (length octets ≤ length octets) ×
    (x.now ≡ slice_range octets 2 (length octets)) × (length x.now + 2 ≡ length octets)) → option_copied got ≡ accepted
packet-is octets None got long is some found = absurd (cc)
packet-is octets (Some packet) None long is some found = absurd (short found)
  where
    short : (length octets < 2) ⊎ (length octets < length octets) → ⊥
    short (inl less) = omega (arith, long packet refl)
    short (inr less) = omega arith
packet-is octets (Some packet) (Some x) long is some found =
    ap Some (found.2 ∙ take_all (length octets - 2) (drop 2 octets) (omega (arith, length-drop 2 octets)) ∙
    sym (is packet refl))

pub none_of : (accepted : Option Octets) → is_some accepted ≡ false → accepted ≡ None
none_of None e = refl
none_of (Some packet) e = absurd (cc)

-- an end as it is made holds no packet
pub made_queue : (role : Role) (p : LinkParams) → length (made role p).link.queue ≡ 0
made_queue role p = by_standing role p.standing
  where
    by_standing : (role : Role) (standing : Bool) → length (made role (record p { standing = standing })).link.queue ≡ 0
    by_standing role true = refl
    by_standing Dte false = refl
    by_standing Dce false = refl

pub none_held : (bs : List Buffer) → length bs ≡ 0 → bs ≡ []
none_held [] e = refl
none_held (b ∷ bs) e = absurd (omega (arith, e))
