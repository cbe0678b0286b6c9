-- A join: two legs and what the switch keeps of both directions. What happens on a leg is said of the leg b; of the leg
-- a it is the same, with the join turned.
use Rattle.std.specs.Prelude.{ℕ, List, [], ◌∷◌}
use Rattle.data_transfer.specs.Packets.{Body, Note}
use Rattle.data_transfer.specs.Packets.Note.{WasReset, InterruptConfirmed, Covered}
use Rattle.packet_channel.specs.Channel.{received, unreadable}
use Rattle.packet_channel.specs.Channel.Request.{Resetting}
use Rattle.std.specs.Prelude.{Bool}
use Rattle.switch_joins.specs.Direction.{Direction, new_direction}
use Rattle.joined_line.specs.Causes.{reset_cause, far_diagnostic}
use Rattle.switch_laws.specs.Leg.{Leg, asked, heard, misheard, gave}
use Rattle.switch_laws.specs.Way.{Way, IsRight, IsStuck, relayed, covers, confirms}

-- `there` is the direction from a to b, `back` the one from b to a
pub record Join : Type 0 where
  pub a : Leg
  pub b : Leg
  pub there : Direction
  pub back : Direction

abbrev pub turned : Join → Join
turned j = record { a = j.b; b = j.a; there = j.back; back = j.there }

abbrev pub way : Join → Way
way j = record { near = j.a; far = j.b; kept = j.there }

abbrev pub with_way : Join → Way → Join
with_way j w = record j { a = w.near; b = w.far; there = w.kept }

-- both directions hold
pub record IsJoin (j : Join) : Type 0 where
  pub there : IsRight (way j)
  pub back : IsRight (way (turned j))

-- all that waits is relayed, in the one direction and then in the other
abbrev pub relayed_there : (most : ℕ) → Join → Join
relayed_there most j = with_way j (relayed most (way j))

abbrev pub relayed_both : (most : ℕ) → Join → Join
relayed_both most j = turned (relayed_there most (turned (relayed_there most j)))

-- a note of the leg b is told: a reset there resets the other leg, unless that one is resetting already
abbrev pub told : Note → Join → Join
told (Covered c n) j = with_way j (covers n (way j))
told (InterruptConfirmed c) j = with_way j (confirms (way j))
told (WasReset c cause diagnostic reason) j = record {
  a = asked (Resetting (reset_cause reason cause) (far_diagnostic reason diagnostic)) j.a;
  b = j.b;
  there = new_direction;
  back = new_direction;
}
told _ j = j

abbrev pub all_told : List Note → Join → Join
all_told [] j = j
all_told (n ∷ ns) j = all_told ns (told n j)

-- a packet comes on the leg b
abbrev pub hears : (channel : ℕ) → Body → Join → Join
hears c p j = all_told (received j.b.role j.b.flow c j.b.channel p).notes (record j { b = heard c p j.b })

abbrev pub mishears : (channel : ℕ) → (unknown : Bool) → Join → Join
mishears c unknown j = all_told (unreadable j.b.role c unknown j.b.channel).notes
    (record j { b = misheard c unknown j.b })

-- what the leg b has next goes to its line
abbrev pub gives : Join → Join
gives j = record j { b = gave j.b }

-- nothing waits on a leg that the other one takes
pub record IsAtRest (j : Join) : Type 0 where
  pub there : IsStuck (way j)
  pub back : IsStuck (way (turned j))
