-- The two records of a join.
use Rattle.std.specs.Prelude.{◌≡◌, ℕ, false, slice_get, Some}
use Rattle.link_timers.specs.declared.role.Role.TheVariants.{Dce}
use Rattle.call_records.specs.Records.{RecordValue}
use Rattle.call_records.specs.Book.{Book, slot_at}
use Rattle.switch_joins.specs.declared.channels.SwitchChannel.{SwitchChannel}
use Rattle.switched_call_laws.specs.SwitchRecords.Written.{Books}
use Rattle.switched_call_laws.specs.SwitchRecords.Relayed.{AreRelayed}

-- the present record of a channel at the switch's end of a line
pub record IsPresent (channel : ℕ) (r : RecordValue) (b : Book) : Type 0 where
  pub number : ℕ
  pub present : (slot_at Dce channel b).present ≡ Some number
  pub there : slice_get b.records number ≡ Some r
  pub is_open : r.closed ≡ false

-- each of the two channels has one, and what each sent is what the other one took
pub record JoinsRecords (bs : Books) (p q : SwitchChannel) : Type 0 where
  pub near : RecordValue
  pub far : RecordValue
  pub near_there : IsPresent p.channel near (bs p.line)
  pub far_there : IsPresent q.channel far (bs q.line)
  pub relayed : AreRelayed near far
