-- The calls that a switch joined, with the records of their two legs.
use Rattle.std.specs.Prelude.{◌≡◌, ℕ, ◌⊎◌, true, if◌then◌else◌, List, [], ◌∷◌, ◌++◌, slice_get, Option, Some, None}
use Rattle.link_timers.specs.declared.role.Role.TheVariants.{Dce}
use Rattle.packet_laws.specs.Readable.{Every}
use Rattle.call_records.specs.Records.{RecordValue}
use Rattle.call_records.specs.Book.{slot_at}
use Rattle.switch_joins.specs.declared.channels.SwitchChannel.{SwitchChannel}
use Rattle.switch_joins.specs.Joins.{Joined}
use Rattle.switch_lines.specs.Lines.{SwitchLine, joined_at}
use Rattle.switch_laws.specs.World.{layers_of}
use Rattle.switch_laws.specs.Steps.{Step, lines_after, acts_of}
use Rattle.switch_laws.specs.Steps.Step.{Keeps}
use Rattle.switched_call_laws.specs.SwitchRecords.Written.{Books, books_after_all}
use Rattle.switched_call_laws.specs.SwitchRecords.Relayed.{AreRelayed}
use Rattle.switched_call_laws.specs.SwitchRecords.Rests.{Rests}

-- the channel where the call came in and the one where it goes on, with the numbers of the two records in the books of
-- their lines
pub record JoinedCall : Type 0 where
  pub near : SwitchChannel
  pub far : SwitchChannel
  pub came_in : ℕ
  pub placed : ℕ

-- the present record of a channel at the switch's end of its line
abbrev pub present_at : SwitchChannel → Books → Option ℕ
present_at p bs = (slot_at Dce p.channel (bs p.line)).present

-- ---- the calls that steps join, in order

abbrev pub numbered : (near far : SwitchChannel) → (came_in placed : Option ℕ) → List JoinedCall
numbered p q (Some a) (Some b) = record { near = p; far = q; came_in = a; placed = b } ∷ []
numbered p q _ _ = []

-- a channel that was not joined is, to the channel where the call goes on that came in on it
abbrev pub made_call : (before : Option Joined) → SwitchChannel → Joined → Books → List JoinedCall
made_call None p j bs = if j.came_in then numbered p j.other (present_at p bs) (present_at j.other bs) else []
made_call (Some old) p j bs = []

abbrev pub calls_of : Step → List SwitchLine → Books → List JoinedCall
calls_of (Keeps p (Some j)) ls bs = made_call (joined_at ls p) p j bs
calls_of s ls bs = []

-- the books after a step, and after some
abbrev pub books_by : Step → List SwitchLine → Books → Books
books_by s ls bs = books_after_all (acts_of s ls) (layers_of ls) bs

abbrev pub books_by_all : List Step → List SwitchLine → Books → Books
books_by_all [] ls bs = bs
books_by_all (s ∷ more) ls bs = books_by_all more (lines_after s ls) (books_by s ls bs)

abbrev pub calls_of_all : List Step → List SwitchLine → Books → List JoinedCall
calls_of_all [] ls bs = []
calls_of_all (s ∷ more) ls bs = calls_of s ls bs ++ calls_of_all more (lines_after s ls) (books_by s ls bs)

-- ---- what becomes of a joined call

-- it stands: its channels are joined, and these two records are their present ones
pub record Stands (ls : List SwitchLine) (bs : Books) (c : JoinedCall) : Type 0 where
  pub join : Joined
  pub joined : joined_at ls c.near ≡ Some join
  pub other : join.other ≡ c.far
  pub came_in_here : join.came_in ≡ true
  pub near_present : present_at c.near bs ≡ Some c.came_in
  pub far_present : present_at c.far bs ≡ Some c.placed

-- it is over: the two records are of no present call, and what the switch sent on each leg is what it took on the other
pub record HasEnded (bs : Books) (c : JoinedCall) : Type 0 where
  pub near_record : RecordValue
  pub far_record : RecordValue
  pub near_rests : Rests c.came_in near_record (bs c.near.line)
  pub far_rests : Rests c.placed far_record (bs c.far.line)
  pub relayed : AreRelayed near_record far_record

abbrev pub StandsOrEnded : List SwitchLine → Books → JoinedCall → Type 0
StandsOrEnded ls bs c = Stands ls bs c ⊎ HasEnded bs c

-- these are the calls that were joined: each stands or is over, and each join is of one that stands
pub record AreCalls (ls : List SwitchLine) (bs : Books) (cs : List JoinedCall) : Type 0 where
  pub each : Every (StandsOrEnded ls bs) cs
  pub all : (p : SwitchChannel) (j : Joined) → joined_at ls p ≡ Some j → j.came_in ≡ true
      → (i : ℕ) × (c : JoinedCall) × (slice_get cs i ≡ Some c) × Stands ls bs c × (c.near ≡ p)
