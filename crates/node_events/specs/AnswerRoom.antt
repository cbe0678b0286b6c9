-- What room an answer has, and how much is in it.
use Rattle.std.specs.Prelude.{◌≡◌, ◌≤◌, length, vec_capacity}
use Rattle.user_nodes.specs.declared.note.TheConstants.{MOST_NOTES}
use Rattle.net_events.specs.declared.answer.Answer.{Answer}

-- there is no more in it than an event may give: 9 frames for each of the 64 lines of a switch, the notes of a PAD,
-- and what a terminal shows at once
pub record IsWithinLimits (a : Answer) : Type 0 where
  pub frames : length a.frames.items ≤ 576
  pub notes : length a.notes.items ≤ MOST_NOTES
  pub text : length a.text.items ≤ 3200

-- there is room for as much
pub record IsRoomy (a : Answer) : Type 0 where
  pub frames : a.frames.room ≡ 576
  pub put : length a.frames.items ≤ 576
  pub notes : vec_capacity a.notes ≡ MOST_NOTES
  pub text : 3200 ≤ vec_capacity a.text
  pub shown : length a.text.items ≤ 3200
