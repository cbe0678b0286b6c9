-- The states that two links and their line come to.
use Rattle.std.specs.Prelude.{◌≡◌, ◌≤◌, Bool, List, [], ◌∷◌}
use Rattle.frame_codec.specs.Frame.{FrameValue}
use Rattle.lapb.specs.World.{Sent, World, Event, run, opening}
use Rattle.lapb.specs.declared.link.LinkParams.{LinkParams}

-- some events lead from the making of the line to this state
pub record Reached (w : World) : Type 0 where
  pub standing : Bool
  pub dte : LinkParams
  pub dce : LinkParams
  pub dte_window : dte.k ≤ 7
  pub dce_window : dce.k ≤ 7
  pub events : List Event
  pub leads : run events (opening standing dte dce) ≡ w

-- the frames on the way, without the acts in which they were sent
abbrev pub frames_of : List Sent → List FrameValue
frames_of [] = []
frames_of (s ∷ rest) = s.frame ∷ frames_of rest
