-- What a link's calls give: the frames to be sent, as octets, and what the node is told.
use Rattle.std.specs.Prelude.{nat_lt, ◌+◌, ◌*◌, ℕ, Bool, true, false, not, ◌&&◌, ◌||◌, List, [], ◌∷◌, ◌++◌, map, take}
use Rattle.std.specs.Prelude.{is_some, if◌then◌else◌}
use Rattle.link_timers.specs.declared.role.Role.{Role}
use Rattle.frame_codec.specs.Spelling.{spelling, bit_of}
use Rattle.lapb.specs.declared.note.Note.{Note}
use Rattle.lapb.specs.declared.note.Timing.{Timing}
use Rattle.lapb.specs.Machine.{
  Octets,
  Link,
  Step,
  runs,
  answers,
  reject_as,
  report_of,
  is_valid,
  on_supervisory,
  acknowledged,
  ahead,
  timing_after,
}

pub record Out : Type 0 where
  pub frames : List Octets  -- to be sent, in order
  pub note : Note  -- of the last call
  pub accepted : Bool  -- whether the frame of the last call carries the next packet
  pub timer : Timing  -- what becomes of T1 by all calls since the last clearing

-- nothing is to be done
abbrev pub no_out : Out
no_out = record { frames = []; note = Note.Nothing; accepted = false; timer = Timing.Keep }

-- how many frames an event has room for: one of each of two calls, and the seven I frames of the widest window
abbrev pub most_frames : ℕ
most_frames = 9

-- the frames with more of them, of which those past the most are dropped, as lost
abbrev pub with_frames : List Octets → List Octets → List Octets
with_frames old [] = old
with_frames old (frame ∷ more) = take most_frames (old ++ frame ∷ more)

-- what becomes of T1, which ran before or not and is to run now or not
abbrev pub timing_by : (ran runs anew : Bool) → Timing
timing_by ran runs anew =
    if runs then (if anew || not ran then Timing.Start else Timing.Keep) else Timing.Stop

-- what a step of an end of this role adds, T1 aside
abbrev pub with_step : Out → Role → Step → Out
with_step out role step = record out {
  frames = with_frames out.frames (map (spelling role) step.frames);
  note = step.note;
  accepted = is_some step.accepted;
}

-- the same with what becomes of T1, of a step that leads from this link
abbrev pub gathered : Out → Link → Step → Out
gathered out before step = record (with_step out before.role step) {
  timer = timing_after out.timer (timing_by (runs before) (runs step.link) step.anew);
}

-- RR as a response with F = 1, if it is due, and nothing else
abbrev pub answered : Out → Role → (due : Bool) → ℕ → Out
answered out role due nr = record out {
  frames = with_frames out.frames (map (spelling role) (answers due nr));
  note = Note.Nothing;
  accepted = false;
}

-- a frame with this control octet is rejected for its N(R)
abbrev pub number_rejected : Link → (control : ℕ) → (is_response pf : Bool) → Step
number_rejected l control is_response pf =
    reject_as l.role l (report_of l control is_response false false false true) (pf && not is_response)

-- RR, RNR and REJ: the first makes the partner not busy, the second busy, the third sets V(S) back to N(R)
abbrev pub supervisory_taken : Link → (nr low : ℕ) → (busy back is_response pf : Bool) → Step
supervisory_taken l nr low busy back is_response pf =
    if is_valid l nr then record (on_supervisory (acknowledged l nr) busy back is_response pf) {
      anew = nat_lt 0 (ahead l.oldest nr);
    }
    else number_rejected l (nr * 32 + bit_of pf * 16 + low) is_response pf
