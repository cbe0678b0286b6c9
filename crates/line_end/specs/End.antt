-- The end of a line: its link, T1 and the frames that go out, and what each call makes of them.
use Rattle.std.specs.Prelude.{
  ◌≡◌,
  ℕ,
  ◌+◌,
  ◌≤◌,
  Bool,
  true,
  false,
  List,
  [],
  ◌++◌,
  length,
  map,
  drop,
  Option,
  Some,
  None,
  is_some,
  if◌then◌else◌,
}
use Rattle.link_timers.specs.declared.role.Role.{Role}
use Rattle.link_timers.specs.Timers.{lowered}
use Rattle.frame_codec.specs.Spelling.{spelling}
use Rattle.lapb.specs.declared.link.LinkParams.{LinkParams}
use Rattle.lapb.specs.declared.note.Note.{Note}
use Rattle.lapb.specs.declared.note.Timing.{Timing}
use Rattle.lapb.specs.Machine as machine
use Rattle.lapb.specs.Machine.{Octets, Link, Step, timing}
use Rattle.lapb.specs.Octets.{on_octets}
use Rattle.lapb.specs.Out.{most_frames, with_frames}

pub record End : Type 0 where
  pub link : Link
  pub t1 : Option ℕ  -- the ticks that it has left, if it runs
  pub frames : List Octets  -- that go out, in order

-- how long T1 runs
abbrev pub t1_ticks : ℕ
t1_ticks = 60

-- what becomes of T1
abbrev pub timed : Timing → Option ℕ → Option ℕ
timed Timing.Keep t1 = t1
timed Timing.Start t1 = Some t1_ticks
timed Timing.Stop t1 = None

-- whether T1 runs then, which ran before or not
abbrev pub runs_then : Timing → (ran : Bool) → Bool
runs_then Timing.Keep ran = ran
runs_then Timing.Start ran = true
runs_then Timing.Stop ran = false

-- A step of the link: its frames go out behind those that were not taken yet, of which those past the most are
-- dropped, as lost, and T1 does what the step asks for.
abbrev pub did : End → Step → End
did e step = record {
  link = step.link;
  t1 = timed (timing e.link step) e.t1;
  frames = with_frames e.frames (map (spelling e.link.role) step.frames);
}

-- a step that sends at most so many frames, of which none is dropped where there is room for so many
pub record SendsUpTo (most : ℕ) (e : End) (step : Step) : Type 0 where
  pub few : length step.frames ≤ most
  pub all : length e.frames + most ≤ most_frames → (did e step).frames ≡ e.frames ++ map (spelling e.link.role)
      step.frames

-- the frames that were not taken are dropped, as lost
abbrev pub without_frames : End → End
without_frames e = record e { frames = [] }

-- ---- the calls

-- the link is given up and set up again
abbrev pub relinked : End → End
relinked e = did e (machine.relink e.link)

-- an end with a link that nothing happened to yet
abbrev pub untouched : Role → LinkParams → End
untouched role p = record {
  link = machine.new role p;
  t1 = None;
  frames = [];
}

-- the link of a line that does not stand is started
abbrev pub started_unless : (standing : Bool) → End → End
started_unless true e = e
started_unless false e = relinked e

-- an end as it is made
abbrev pub made : Role → LinkParams → End
made role p = started_unless p.standing (untouched role p)

-- a restarted end is as one made for a line that does not stand
abbrev pub restarted : End → End
restarted e = made e.link.role (machine.params_anew e.link)

-- the octets of a frame arrive
abbrev pub received : End → Octets → End
received e octets = did e (on_octets e.link octets)

-- T1 expires while it runs
abbrev pub expired : End → End
expired e = did (record e { t1 = None }) (machine.on_t1 e.link)

-- an expiry of T1, which changes nothing if it does not run
abbrev pub after_t1 : End → End
after_t1 e = if is_some e.t1 then expired e else e

-- what the expiry tells of the link, if T1 runs
abbrev pub t1_note : End → Option Note
t1_note e = if is_some e.t1 then Some (machine.on_t1 e.link).note else None

-- a packet is offered to the link; a refused one changes nothing
abbrev pub offered : End → Octets → End
offered e packet = record e { link = machine.offer e.link packet }

-- the end of a node's event: the I frames that may go, or the acknowledgement that is owed, go out
abbrev pub settled : End → End
settled e = did e (machine.settle e.link)

-- the first frame is taken
abbrev pub without_first : End → End
without_first e = record e { frames = drop 1 e.frames }

-- ticks pass
abbrev pub elapsed : End → (ticks : ℕ) → End
elapsed e ticks = record e { t1 = lowered ticks e.t1 }
