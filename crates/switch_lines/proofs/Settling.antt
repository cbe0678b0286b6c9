-- A line that is settled stays as it is where it is settled again, and where time passes.
use Rattle.std.proofs.Common.{◌≡◌, ℕ, Bool, true, false, not, if◌then◌else◌, ◌&&◌, ◌||◌, List, [], ◌∷◌}
use Rattle.std.proofs.Common.{map, drop, length, get_or, refl, sym, ap, ◌∙◌}
use Rattle.std.specs.Prelude.{Option, Some, None, is_some}
use Rattle.link_timers.specs.Timers.{Places, lowered}
use Rattle.link_timers.proofs.PlaceLaws.{lowered_at}
use Rattle.frame_codec.specs.Spelling.{spelling}
use Rattle.frame_codec.specs.Frame.{FrameValue}
use Rattle.frame_codec.specs.Frame.Content.{Rr}
use Rattle.lapb.specs.declared.phase.Phase.{Phase}
use Rattle.lapb.specs.declared.note.Timing.{Timing as Change}
use Rattle.lapb.specs.Machine.{Octets, Link, Step, can_offer, runs, response, sendable, send_all, settle, settle_in}
use Rattle.lapb.specs.Machine.{timing}
use Rattle.lapb.specs.Out.{with_frames}
use Rattle.line_end.specs.End.{End, timed}
use Rattle.line_end.specs.End as line
use Rattle.packet_layer.specs.Layer.{Timer, next_packet}
use Rattle.packet_layer.specs.Layer.Timer.{RestartTimer, CallTimer, ResetTimer, ClearTimer}
use Rattle.packet_layer.specs.LayerTimers.{LayerTimers, left_of, after_ticks, TimersAgree}
use Rattle.packet_end.proofs.Untouched.{none_touched}
use Rattle.packet_end.specs.PacketEnd.{begun, settled, elapsed}
use Rattle.switch_lines.specs.Lines.{SwitchLine}
use Rattle.switch_lines.specs.Switch.{with_end, may_offer}
use Rattle.switch_lines.specs.Touched.{HasNothingToSend, IsSettled, IsTaken}

-- ---- the link

all_dropped : (xs : List Octets) → drop (length xs) xs ≡ []
all_dropped [] = refl
all_dropped (x ∷ xs) = all_dropped xs

either_none : (b : Bool) (xs : List Octets) → xs ≡ [] → (if b then xs else []) ≡ []
either_none true xs e = e
either_none false xs e = refl

-- a step after which the same link has nothing to send
record SendsNoMore (l : Link) (phase : Phase) : Type 0 where
  link : (settle_in phase l).link ≡ l
  frames : (settle_in phase l).frames ≡ []

up_sends_no_more : (l : Link) → l.owed ≡ false → sendable l ≡ [] → SendsNoMore l Phase.Up
up_sends_no_more l owes sends = record {
  link = ap (λ (ps : List Octets). (send_all l ps).link) sends ∙ (λ i. record l { owed = sym owes i });
  frames = ap (λ (ps : List Octets). (send_all l ps).frames) sends ∙ ap
      (λ (b : Bool). if b then response (Rr l.expected) false ∷ [] else []) owes;
}

after_sending : (l : Link) (ps : List Octets) → sendable l ≡ ps → SendsNoMore (send_all l ps).link Phase.Up
after_sending l [] e = up_sends_no_more (send_all l []).link refl e
after_sending l (p ∷ ps) e =
    up_sends_no_more (send_all l (p ∷ ps)).link refl (either_none (l.heard && not l.polling && not l.busy)
    (drop (length l.queue) l.queue) (all_dropped l.queue))

after_settling : (l : Link) (phase : Phase) → SendsNoMore (settle_in phase l).link phase
after_settling l Phase.Down = record { link = refl; frames = refl }
after_settling l Phase.SettingUp = record { link = refl; frames = refl }
after_settling l Phase.Up = after_sending l (sendable l) refl
after_settling l Phase.Rejecting = record { link = refl; frames = refl }

sent_phase : (l : Link) (ps : List Octets) → (send_all l ps).link.phase ≡ l.phase
sent_phase l [] = refl
sent_phase l (p ∷ ps) = refl

same_phase : (l : Link) (phase : Phase) → (settle_in phase l).link.phase ≡ l.phase
same_phase l Phase.Down = refl
same_phase l Phase.SettingUp = refl
same_phase l Phase.Up = sent_phase l (sendable l)
same_phase l Phase.Rejecting = refl

not_anew : (l : Link) (phase : Phase) → (settle_in phase l).anew ≡ false
not_anew l Phase.Down = refl
not_anew l Phase.SettingUp = refl
not_anew l Phase.Up = by_sent (sendable l)
  where
    by_sent : (ps : List Octets) → (send_all l ps).anew ≡ false
    by_sent [] = refl
    by_sent (p ∷ ps) = refl
not_anew l Phase.Rejecting = refl

sent_offer : (l : Link) (ps : List Octets) → can_offer (send_all l ps).link ≡ can_offer l
sent_offer l [] = refl
sent_offer l (p ∷ ps) = refl

same_offer : (l : Link) (phase : Phase) → can_offer (settle_in phase l).link ≡ can_offer l
same_offer l Phase.Down = refl
same_offer l Phase.SettingUp = refl
same_offer l Phase.Up = sent_offer l (sendable l)
same_offer l Phase.Rejecting = refl

timed_none : (l : Link) (step : Step) (t1 : Option ℕ) → runs step.link ≡ false → timed (timing l step) t1 ≡ None
timed_none l step t1 e =
    ap (λ (b : Bool). timed (if b then (if step.anew || not (runs l) then Change.Start else Change.Keep) else Change.Stop) t1) e

pub sends_nothing : (e : End) → HasNothingToSend (line.settled e)
sends_nothing e =
    let step = settle e.link in
    let again = ap (λ (p : Phase). settle_in p step.link) (same_phase e.link e.link.phase) in
    let no_more = after_settling e.link e.link.phase in
    record {
      link = ap (λ (s : Step). s.link) again ∙ no_more.link;
      frames = ap (λ (s : Step). s.frames) again ∙ no_more.frames;
      timer = λ stands. timed_none e.link step e.t1 stands;
    }

timer_stays : (ran now anew : Bool) (t1 : Option ℕ) → now ≡ ran → anew ≡ false → (ran ≡ false → t1 ≡ None) →
    timed (if now then (if anew || not ran then Change.Start else Change.Keep) else Change.Stop) t1 ≡ t1
timer_stays true true false t1 same plain none = refl
timer_stays false false false t1 same plain none = sym (none refl)
timer_stays true false anew t1 same plain none = absurd (cc)
timer_stays false true anew t1 same plain none = absurd (cc)
timer_stays ran now true t1 same plain none = absurd (cc)

end_stays : (e : End) → HasNothingToSend e → line.settled e ≡ e
end_stays e h =
    let step = settle e.link in
    let link_is = h.link in
    let frames_are = ap (λ (fs : List FrameValue). with_frames e.frames (map (spelling e.link.role) fs)) h.frames in
    let t1_is = timer_stays (runs e.link) (runs step.link) step.anew e.t1 (ap runs h.link)
    (not_anew e.link e.link.phase) h.timer in
    λ i. record { link = link_is i; t1 = t1_is i; frames = frames_are i }

-- ---- the line

pub stays_settled : (l : SwitchLine) → IsSettled l → with_end settled l ≡ l
stays_settled l h =
    let timers = none_touched l.end.layer l.end.timers h.timers in
    let end = end_stays l.end.line h.sent in
    λ i. record l { end = record l.end { timers = timers i; line = end i } }

pub is_settled : (l : SwitchLine) → TimersAgree (settled l.end).layer (settled l.end).timers → may_offer l ≡ false →
    l.end.layer.relink ≡ false → IsSettled (with_end settled l)
is_settled l timers offers relinks = record {
  timers = timers;
  sent = sends_nothing l.end.line;
  offered = ap (λ (b : Bool). b && is_some (next_packet l.end.layer).packet)
      (same_offer l.end.line.link l.end.line.link.phase) ∙ offers;
  no_relink = relinks;
}

pub stays_taken : (l : SwitchLine) → IsTaken l → with_end begun l ≡ l
stays_taken l h =
    λ i. record l { end = record l.end { line = record l.end.line { frames = sym h.frames i }; notes = sym h.notes i } }

-- ---- time passes

still_some : (ticks : ℕ) (o : Option ℕ) → is_some (lowered ticks o) ≡ is_some o
still_some ticks None = refl
still_some ticks (Some left) = refl

kind_later : (ticks : ℕ) (timers : Places) (n : ℕ) → is_some (get_or (map (lowered ticks) timers) n None) ≡ is_some (get_or timers n None)
kind_later ticks timers n = ap is_some (lowered_at timers n ticks) ∙ still_some ticks (get_or timers n None)

runs_later : (ticks : ℕ) (timers : LayerTimers) (timer : Timer) → is_some (left_of (after_ticks timers ticks) timer) ≡ is_some (left_of timers timer)
runs_later ticks timers RestartTimer = still_some ticks timers.restart
runs_later ticks timers (CallTimer channel) = kind_later ticks timers.calls channel
runs_later ticks timers (ResetTimer channel) = kind_later ticks timers.resets channel
runs_later ticks timers (ClearTimer channel) = kind_later ticks timers.clears channel

pub settled_later : (ticks : ℕ) (l : SwitchLine) → IsSettled l → IsSettled (with_end (λ e. elapsed e ticks) l)
settled_later ticks l h = record {
  timers = λ timer is. runs_later ticks l.end.timers timer ∙ h.timers timer is;
  sent = record {
    link = h.sent.link;
    frames = h.sent.frames;
    timer = λ stands. ap (lowered ticks) (h.sent.timer stands);
  };
  offered = h.offered;
  no_relink = h.no_relink;
}
