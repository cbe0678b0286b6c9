-- The lines of a switch, and the channels of them whose calls are joined.
use Rattle.std.specs.Prelude.{ℕ, zero, suc, List, [], ◌∷◌, ◌++◌, slice_get, Option, Some, None, Bool, true, false}
use Rattle.std.specs.Prelude.{◌&&◌, is_none}
use Rattle.link_timers.specs.declared.role.Role.{Role}
use Rattle.data_transfer.specs.Traffic.{Taken}
use Rattle.data_transfer.specs.declared.flow.Flow.{Flow}
use Rattle.packet_channel.specs.Channel.{Channel, Request, Refusal, refusal, requested, owing}
use Rattle.packet_layer.specs.Layer.{channel_of, front_on, request_refusal}
use Rattle.packet_end.specs.PacketEnd.{asked}
use Rattle.switch_joins.specs.Turning.{Sizes}
-- a logical channel of a line; lines are numbered from 0, channels from 1
pub use Rattle.switch_joins.specs.declared.channels.SwitchChannel.{SwitchChannel}
-- what a channel has whose call is joined to another one: that one, whether the call came in here, and the direction
-- from here to there
pub use Rattle.switch_joins.specs.Joins.{Joined, same_place, flat, nth_joined, with_nth_joined}
-- a line: its end, the address that calls from it get as their calling address, if it has one, and of its channels 1, 2
-- and so on those that are joined; one without an address is a trunk
pub use Rattle.joined_line.specs.SwitchLine.{SwitchLine, is_trunk}

-- the switch's role on a line
abbrev pub role_on : Option SwitchLine → Option Role
role_on None = None
role_on (Some l) = Some l.end.layer.role

-- the n-th one is changed, if there is one
abbrev pub changed : {X : Type 0} → ℕ → (X → X) → List X → List X
changed n f [] = []
changed zero f (x ∷ xs) = f x ∷ xs
changed (suc n) f (x ∷ xs) = x ∷ changed n f xs

-- ---- joined channels

abbrev pub joined_on : Option SwitchLine → (channel : ℕ) → Option Joined
joined_on None c = None
joined_on (Some l) c = nth_joined l.joined c

abbrev pub joined_at : List SwitchLine → SwitchChannel → Option Joined
joined_at ls p = joined_on (slice_get ls p.line) p.channel

abbrev pub with_joined : SwitchChannel → Option Joined → List SwitchLine → List SwitchLine
with_joined p o ls = changed p.line (λ l. record l { joined = with_nth_joined l.joined p.channel o }) ls

-- all channels of the lines, in order
abbrev pub places_on : (line channel : ℕ) → List (Option Joined) → List SwitchChannel
places_on n c [] = []
places_on n c (o ∷ os) = record { line = n; channel = c } ∷ places_on n (suc c) os

abbrev pub places_from : (line : ℕ) → List SwitchLine → List SwitchChannel
places_from n [] = []
places_from n (l ∷ ls) = places_on n 1 l.joined ++ places_from (suc n) ls

abbrev pub places : List SwitchLine → List SwitchChannel
places ls = places_from 0 ls

-- ---- packet layers

-- a request on a channel; a refused one changes nothing
abbrev pub ask : SwitchChannel → Request → List SwitchLine → List SwitchLine
ask p q ls = changed p.line (λ l. record l { end = asked l.end p.channel q }) ls

-- what `take` gives there, if anything
abbrev pub front_of_line : Option SwitchLine → (channel : ℕ) → Option Taken
front_of_line None c = None
front_of_line (Some l) c = front_on l.end.layer c

abbrev pub front_at : List SwitchLine → SwitchChannel → Option Taken
front_at ls p = front_of_line (slice_get ls p.line) p.channel

-- why a request is refused there, if it is
abbrev pub refusal_of_line : Option SwitchLine → (channel : ℕ) → Request → Option Refusal
refusal_of_line None c q = Some Refusal.NoCall
refusal_of_line (Some l) c q = request_refusal l.end.layer c q

abbrev pub refusal_at : List SwitchLine → SwitchChannel → Request → Option Refusal
refusal_at ls p q = refusal_of_line (slice_get ls p.line) p.channel q

-- ---- packet sizes of lines

abbrev pub size_of_line : Option SwitchLine → ℕ
size_of_line None = 0
size_of_line (Some l) = l.end.layer.flow.size

abbrev pub sizes_at : List SwitchLine → (p q : SwitchChannel) → Sizes
sizes_at ls p q = record { near = size_of_line (slice_get ls p.line); far = size_of_line (slice_get ls q.line) }

-- ---- several requests, one after the other

abbrev pub ask_all : SwitchChannel → List Request → List SwitchLine → List SwitchLine
ask_all p [] ls = ls
ask_all p (q ∷ qs) ls = ask_all p qs (ask p q ls)

-- a channel takes all of them
abbrev pub takes_all : Role → Flow → Channel → List Request → Bool
takes_all role flow ch [] = true
takes_all role flow ch (q ∷ qs) =
    is_none (refusal role flow ch q) && takes_all role flow (owing (requested role flow ch q)) qs

abbrev pub takes_on_channel : Role → Flow → Option Channel → List Request → Bool
takes_on_channel role flow None [] = true
takes_on_channel role flow None (q ∷ qs) = false
takes_on_channel role flow (Some ch) qs = takes_all role flow ch qs

abbrev pub takes_on_line : Option SwitchLine → (channel : ℕ) → List Request → Bool
takes_on_line None c qs = false
takes_on_line (Some l) c qs = takes_on_channel l.end.layer.role l.end.layer.flow (channel_of l.end.layer c) qs

abbrev pub takes_at : List SwitchLine → SwitchChannel → List Request → Bool
takes_at ls p qs = takes_on_line (slice_get ls p.line) p.channel qs
