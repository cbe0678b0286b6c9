-- What a switch relays between the two legs of a join, and what it is told of a leg.
use Rattle.std.specs.Prelude.{ℕ, zero, suc, Bool, true, false, List, [], ◌∷◌, ◌++◌, map, slice_get, Option, Some, None}
use Rattle.data_transfer.specs.Packets.{Note}
use Rattle.data_transfer.specs.Packets.Note.{Connected, Closed, WasReset, InterruptConfirmed, Covered}
use Rattle.data_transfer.specs.Traffic.{Taken}
use Rattle.data_transfer.specs.Traffic.Taken.{TakenInterrupt, TakenPacket}
use Rattle.packet_channel.specs.Channel.{Request}
use Rattle.packet_channel.specs.Channel.Request.{Accept, Clearing, Resetting, Taking, Releasing, Confirming}
use Rattle.packet_channel.specs.Channel.Request.{Sending, Interrupting}
use Rattle.switch_joins.specs.Turning.{Sizes, Gathered, turned}
use Rattle.switch_joins.specs.Direction.{Direction, new_direction, releasable, released, covered_by, carried}
use Rattle.joined_line.specs.Causes.{reset_cause, clear_cause, far_diagnostic}
use Rattle.switch_lines.specs.Lines.{SwitchChannel, Joined, SwitchLine, joined_at, with_joined, places, places_on, ask}
use Rattle.switch_lines.specs.Lines.{is_trunk, front_at, ask_all, sizes_at, takes_at}

-- the joined channel p with this direction to the other leg
abbrev pub with_kept : SwitchChannel → Joined → Direction → List SwitchLine → List SwitchLine
with_kept p j v ls = with_joined p (Some (record j { kept = v })) ls

-- what may be released on p is
abbrev pub freed : SwitchChannel → Joined → Direction → List SwitchLine → List SwitchLine
freed p j v ls = with_kept p j (released v) (ask p (Releasing (releasable v.held)) ls)

-- ---- relay, from p to the other leg: what waits first is taken there, if the other leg takes all that it makes due

-- what is asked of the far leg for what is taken on the near leg, and what is kept of it
abbrev pub requests_for : Sizes → Gathered → Taken → List Request
requests_for sizes g (TakenInterrupt octets) = Interrupting octets ∷ []
requests_for sizes g (TakenPacket d) = map Sending (turned sizes g d).made

abbrev pub carried_by : Sizes → Taken → Direction → Direction
carried_by sizes (TakenInterrupt octets) v = v
carried_by sizes (TakenPacket d) v = carried d.delivery (turned sizes v.gathered d) v

-- from p, with this join
abbrev pub due_at : List SwitchLine → SwitchChannel → Joined → Taken → List Request
due_at ls p j t = requests_for (sizes_at ls p j.other) j.kept.gathered t

abbrev pub moved_if : Bool → Taken → SwitchChannel → Joined → List SwitchLine → List SwitchLine
moved_if true t p j ls =
    freed p j (carried_by (sizes_at ls p j.other) t j.kept) (ask_all j.other (due_at ls p j t) (ask p Taking ls))
moved_if false t p j ls = ls

abbrev pub moved_front : Option Taken → SwitchChannel → Joined → List SwitchLine → List SwitchLine
moved_front None p j ls = ls
moved_front (Some t) p j ls = moved_if (takes_at ls j.other (due_at ls p j t)) t p j ls

abbrev pub moved_joined : Option Joined → SwitchChannel → List SwitchLine → List SwitchLine
moved_joined None p ls = ls
moved_joined (Some j) p ls = moved_front (front_at ls p) p j ls

abbrev pub moved : SwitchChannel → List SwitchLine → List SwitchLine
moved p ls = moved_joined (joined_at ls p) p ls

abbrev pub relayed : (most : ℕ) → SwitchChannel → List SwitchLine → List SwitchLine
relayed zero p ls = ls
relayed (suc most) p ls = relayed most p (moved p ls)

-- no more waits on a leg: a queue holds at most 32 packets, and an interrupt may wait beside them
unfoldable pub most_moves : ℕ
most_moves = 33

-- from each of these
abbrev pub relayed_from : List SwitchChannel → List SwitchLine → List SwitchLine
relayed_from [] ls = ls
relayed_from (p ∷ ps) ls = relayed_from ps (relayed most_moves p ls)

abbrev pub all_relayed : List SwitchLine → List SwitchLine
all_relayed ls = relayed_from (places ls) ls

-- the channels of a line, a joined channel and the one that it is joined to, and so of all joined channels of lines
abbrev pub places_of : (line : ℕ) → Option SwitchLine → List SwitchChannel
places_of n None = []
places_of n (Some l) = places_on n 1 l.joined

abbrev pub both_legs : Option Joined → SwitchChannel → List SwitchChannel
both_legs None p = []
both_legs (Some j) p = p ∷ j.other ∷ []

abbrev pub legs_at : List SwitchChannel → List SwitchLine → List SwitchChannel
legs_at [] ls = []
legs_at (p ∷ ps) ls = both_legs (joined_at ls p) p ++ legs_at ps ls

abbrev pub legs_of : (lines : List ℕ) → List SwitchLine → List SwitchChannel
legs_of [] ls = []
legs_of (n ∷ ns) ls = legs_at (places_of n (slice_get ls n)) ls ++ legs_of ns ls

-- all that waits is relayed, on the joins of these lines first
abbrev pub places_first : (lines : List ℕ) → List SwitchLine → List SwitchChannel
places_first lines ls = legs_of lines ls ++ places ls

abbrev pub relayed_first : (lines : List ℕ) → List SwitchLine → List SwitchLine
relayed_first lines ls = relayed_from (places_first lines ls) ls

-- ---- a note of the joined channel p is told

-- the other leg gets new directions both ways
abbrev pub kept_anew : Option Joined → SwitchChannel → List SwitchLine → List SwitchLine
kept_anew None p ls = ls
kept_anew (Some j) p ls = with_kept p j new_direction ls

-- P(R) covered n more packets of p: the direction from the other leg learns it
abbrev pub covered_on : ℕ → Option Joined → SwitchChannel → List SwitchLine → List SwitchLine
covered_on n None p ls = ls
covered_on n (Some j) p ls = freed p j (covered_by n j.kept) ls

abbrev pub told_joined : Note → SwitchChannel → Joined → List SwitchLine → List SwitchLine
told_joined (Connected c) p j ls = ask j.other Accept ls
told_joined (Closed c cause diagnostic reason) p j ls =
    ask j.other
    (Clearing (clear_cause (is_trunk (slice_get ls p.line)) reason cause) (far_diagnostic reason diagnostic))
    (with_joined j.other None (with_joined p None ls))
told_joined (WasReset c cause diagnostic reason) p j ls =
    kept_anew (joined_at ls j.other) j.other
    (kept_anew (Some j) p (ask j.other (Resetting (reset_cause reason cause) (far_diagnostic reason diagnostic)) ls))
told_joined (InterruptConfirmed c) p j ls = ask j.other Confirming ls
told_joined (Covered c n) p j ls = covered_on n (joined_at ls j.other) j.other ls
told_joined _ p j ls = ls

-- a channel that is not joined has nothing to be told
abbrev pub told_of : Option Joined → Note → SwitchChannel → List SwitchLine → List SwitchLine
told_of None n p ls = ls
told_of (Some j) n p ls = told_joined n p j ls

abbrev pub told : Note → SwitchChannel → List SwitchLine → List SwitchLine
told n p ls = told_of (joined_at ls p) n p ls
