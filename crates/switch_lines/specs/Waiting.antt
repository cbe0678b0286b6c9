-- Which joins of a switch an event has to relay: those on which something happened. On the others nothing waits that
-- the other leg takes.
use Rattle.std.specs.Prelude.{◌≡◌, ◌<◌, true, false, List, length, Option, Some}
use Rattle.std.specs.Option.{option_map}
use Rattle.data_transfer.specs.Traffic.{Taken}
use Rattle.switch_joins.specs.ChannelSet.{has, is_small}
use Rattle.switch_joins.specs.declared.channel_set.ChannelSet.{ChannelSet}
use Rattle.switch_lines.specs.Relay.{due_at}
use Rattle.switch_lines.specs.Lines.{SwitchChannel, Joined, SwitchLine, joined_at, front_at, takes_at}

-- the channel that a channel is joined to, if it is
abbrev pub other_at : List SwitchLine → SwitchChannel → Option SwitchChannel
other_at ls p = option_map (λ j. j.other) (joined_at ls p)

-- the other leg does not take what a joined channel has first: all that it makes due
abbrev pub IsStuck : List SwitchLine → SwitchChannel → Type 0
IsStuck ls p =
    (j : Joined) (t : Taken) → joined_at ls p ≡ Some j → front_at ls p ≡ Some t
    → takes_at ls j.other (due_at ls p j t) ≡ false

-- so it is on p, and its other leg is known to refuse something
abbrev pub IsHeldBack : (refusing : ChannelSet) → List SwitchLine → (p q : SwitchChannel) → Type 0
IsHeldBack refusing ls p q =
    (j : Joined) (t : Taken) → joined_at ls p ≡ Some j → front_at ls p ≡ Some t
    → (takes_at ls j.other (due_at ls p j t) ≡ false) × (has refusing q ≡ true)

-- p is joined to q, q to p, and what waits on either is held back
abbrev pub AreHeldBack : (refusing : ChannelSet) → List SwitchLine → (p q : SwitchChannel) → Type 0
AreHeldBack refusing ls p q =
    (other_at ls q ≡ Some p) × IsHeldBack refusing ls p q × IsHeldBack refusing ls q p

-- each join leads to one of the lines; of one that is not to be relayed, the two channels are joined to each other, and
-- what waits on them is held back
pub record NothingElseMoves (to_relay refusing : ChannelSet) (ls : List SwitchLine) : Type 0 where
  pub small : (p q : SwitchChannel) → other_at ls p ≡ Some q → is_small p ≡ true
  pub there : (p q : SwitchChannel) → other_at ls p ≡ Some q → q.line < length ls
  pub waits : (p q : SwitchChannel) → other_at ls p ≡ Some q → has to_relay p ≡ false → AreHeldBack refusing ls p q
