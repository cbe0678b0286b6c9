-- The steps of each event of a switch.
use Rattle.std.specs.Prelude.{ℕ, zero, suc, ◌*◌, if◌then◌else◌, List, [], ◌∷◌, ◌++◌, length, slice_get, Option}
use Rattle.std.specs.Prelude.{Some, None}
use Rattle.std.specs.Prelude.{Bool, true, false}
use Rattle.std.specs.List.{list_any}
use Rattle.packet_codec.specs.Diagnostic.{no_information}
use Rattle.data_transfer.specs.Packets.{CallParts, Note}
use Rattle.data_transfer.specs.Packets.Note.{Incoming, Connected, Closed, WasReset, InterruptConfirmed, Covered}
use Rattle.data_transfer.specs.Traffic.{Taken}
use Rattle.packet_channel.specs.Channel.{Request}
use Rattle.packet_channel.specs.Channel.Request.{Accept, Clearing, Resetting, Taking, Releasing, Confirming}
use Rattle.address_routes.specs.Routes.{RouteMap}
use Rattle.switch_joins.specs.Direction.{Direction, new_direction, releasable, released, covered_by}
use Rattle.switch_lines.specs.Relay.{carried_by, due_at}
use Rattle.joined_line.specs.Causes.{reset_cause, clear_cause, far_diagnostic}
use Rattle.switch_joins.specs.declared.channels.SwitchChannel.{SwitchChannel}
use Rattle.switch_lines.specs.Lines.{Joined, SwitchLine, changed, joined_at, places, front_at, sizes_at, takes_at, is_trunk}
use Rattle.switch_lines.specs.Relay.{moved, relayed, places_first, relayed_first, most_moves}
use Rattle.switch_lines.specs.Switch.{Answer, answer, forwarded, heed, notes_of, with_end, quieted, acted, to_relink}
use Rattle.switch_lines.specs.Switch.{relinked_at, all_relinked, may_offer, offering_from, offered_from}
use Rattle.switch_lines.specs.Switch.{lines_first, all_begun}
use Rattle.switch_lines.specs.Switch.Answer.{Clears, Joins}
use Rattle.switch_laws.specs.World.{Act}
use Rattle.switch_laws.specs.Steps.{Happening, does, Step, lines_after, acts_of_all}
use Rattle.switch_laws.specs.Steps.Happening.{Relinks}
use Rattle.switch_laws.specs.Steps.Step.{Asks, Places, Keeps, Happens, Offers, Begins, Settles}

-- ---- relay

abbrev pub freed_steps : SwitchChannel → Joined → Direction → List Step
freed_steps p j v = Asks p (Releasing (releasable v.held)) ∷ Keeps p (Some (record j { kept = released v })) ∷ []

abbrev pub asks_steps : SwitchChannel → List Request → List Step
asks_steps p [] = []
asks_steps p (q ∷ qs) = Asks p q ∷ asks_steps p qs

abbrev pub moved_if_steps : Bool → Taken → SwitchChannel → Joined → List SwitchLine → List Step
moved_if_steps true t p j ls =
    Asks p Taking
    ∷ (asks_steps j.other (due_at ls p j t) ++ freed_steps p j (carried_by (sizes_at ls p j.other) t j.kept))
moved_if_steps false t p j ls = []

abbrev pub moved_front_steps : Option Taken → SwitchChannel → Joined → List SwitchLine → List Step
moved_front_steps None p j ls = []
moved_front_steps (Some t) p j ls = moved_if_steps (takes_at ls j.other (due_at ls p j t)) t p j ls

abbrev pub moved_joined_steps : Option Joined → SwitchChannel → List SwitchLine → List Step
moved_joined_steps None p ls = []
moved_joined_steps (Some j) p ls = moved_front_steps (front_at ls p) p j ls

abbrev pub relayed_steps : (most : ℕ) → SwitchChannel → List SwitchLine → List Step
relayed_steps zero p ls = []
relayed_steps (suc most) p ls = moved_joined_steps (joined_at ls p) p ls ++ relayed_steps most p (moved p ls)

abbrev pub relayed_from_steps : List SwitchChannel → List SwitchLine → List Step
relayed_from_steps [] ls = []
relayed_from_steps (p ∷ ps) ls = relayed_steps most_moves p ls ++ relayed_from_steps ps (relayed most_moves p ls)

abbrev pub all_relayed_steps : List SwitchLine → List Step
all_relayed_steps ls = relayed_from_steps (places ls) ls

abbrev pub relayed_first_steps : (first : List ℕ) → List SwitchLine → List Step
relayed_first_steps first ls = relayed_from_steps (places_first first ls) ls

-- ---- notes

abbrev pub anew_steps : Option Joined → SwitchChannel → List Step
anew_steps None p = []
anew_steps (Some j) p = Keeps p (Some (record j { kept = new_direction })) ∷ []

abbrev pub covered_steps : ℕ → Option Joined → SwitchChannel → List Step
covered_steps n None p = []
covered_steps n (Some j) p = freed_steps p j (covered_by n j.kept)

abbrev pub told_joined_steps : Note → SwitchChannel → Joined → List SwitchLine → List Step
told_joined_steps (Connected c) p j ls = Asks j.other Accept ∷ []
told_joined_steps (Closed c cause diagnostic reason) p j ls =
    Keeps p None ∷ Keeps j.other None
    ∷ Asks j.other
    (Clearing (clear_cause (is_trunk (slice_get ls p.line)) reason cause) (far_diagnostic reason diagnostic)) ∷ []
told_joined_steps (WasReset c cause diagnostic reason) p j ls =
    Asks j.other (Resetting (reset_cause reason cause) (far_diagnostic reason diagnostic))
    ∷ (anew_steps (Some j) p ++ anew_steps (joined_at ls j.other) j.other)
told_joined_steps (InterruptConfirmed c) p j ls = Asks j.other Confirming ∷ []
told_joined_steps (Covered c n) p j ls = covered_steps n (joined_at ls j.other) j.other
told_joined_steps _ p j ls = []

abbrev pub told_steps : Option Joined → Note → SwitchChannel → List SwitchLine → List Step
told_steps None n p ls = []
told_steps (Some j) n p ls = told_joined_steps n p j ls

abbrev pub answered_steps : Answer → SwitchChannel → CallParts → List SwitchLine → List Step
answered_steps (Clears cause) p parts ls = Asks p (Clearing cause no_information) ∷ []
answered_steps (Joins q) p parts ls =
    Places q.line (forwarded ls p.line parts)
    ∷ Keeps p (Some (record { other = q; came_in = true; kept = new_direction }))
    ∷ Keeps q (Some (record { other = p; came_in = false; kept = new_direction })) ∷ []

abbrev pub on_channel : (line channel : ℕ) → Note → List SwitchLine → List Step
on_channel n c note ls =
    told_steps (joined_at ls (record { line = n; channel = c })) note (record { line = n; channel = c }) ls

abbrev pub heed_steps : RouteMap → (line : ℕ) → Note → List SwitchLine → List Step
heed_steps routes n (Incoming c parts) ls =
    answered_steps (answer routes ls n parts) (record { line = n; channel = c }) parts ls
heed_steps routes n (Connected c) ls = on_channel n c (Connected c) ls
heed_steps routes n (Closed c cause diagnostic reason) ls = on_channel n c (Closed c cause diagnostic reason) ls
heed_steps routes n (WasReset c cause diagnostic reason) ls = on_channel n c (WasReset c cause diagnostic reason) ls
heed_steps routes n (InterruptConfirmed c) ls = on_channel n c (InterruptConfirmed c) ls
heed_steps routes n (Covered c count) ls = on_channel n c (Covered c count) ls

abbrev pub heed_all_steps : RouteMap → (line : ℕ) → List Note → List SwitchLine → List Step
heed_all_steps routes n [] ls = []
heed_all_steps routes n (x ∷ xs) ls = heed_steps routes n x ls ++ heed_all_steps routes n xs (heed routes n x ls)

-- ---- what happens at the end of a line, with its notes

abbrev pub acted_steps : RouteMap → (line : ℕ) → Happening → List SwitchLine → List Step
acted_steps routes n what ls =
    Happens n what
    ∷ heed_all_steps routes n (notes_of (slice_get (changed n (with_end (λ e. does what (quieted e))) ls) n))
    (lines_after (Happens n what) ls)

abbrev pub relinked_steps : Option ℕ → RouteMap → List SwitchLine → List Step
relinked_steps None routes ls = []
relinked_steps (Some n) routes ls = acted_steps routes n Relinks ls

abbrev pub all_relinked_steps : (most : ℕ) → RouteMap → List SwitchLine → List Step
all_relinked_steps zero routes ls = []
all_relinked_steps (suc most) routes ls =
    relinked_steps (to_relink ls) routes ls
    ++ all_relinked_steps most routes (relinked_at (to_relink ls) routes ls)

-- ---- rounds

abbrev pub offered_steps : (count line : ℕ) → List Step
offered_steps zero n = []
offered_steps (suc count) n = Offers n ∷ offered_steps count (suc n)

abbrev pub rounds_steps : (most : ℕ) → (first : List ℕ) → List SwitchLine → List Step
rounds_steps zero first ls = relayed_first_steps first ls
rounds_steps (suc most) first ls =
    let ms = relayed_first first ls in
    relayed_first_steps first ls
    ++ (if list_any may_offer ms
    then offered_steps (length ls) 0 ++ rounds_steps most (offering_from 0 ms) (offered_from (length ls) 0 ms)
    else [])

abbrev pub finished_steps : RouteMap → (line : ℕ) → List SwitchLine → List Step
finished_steps routes n ls =
    let rs = all_relinked (length ls) routes ls in
    all_relinked_steps (length ls) routes ls
    ++ (rounds_steps (7 * length rs) (lines_first n routes ls) rs ++ Settles ∷ [])

-- ---- events

abbrev pub event_steps : RouteMap → (line : ℕ) → Happening → List SwitchLine → List Step
event_steps routes n what ls =
    Begins
    ∷ (acted_steps routes n what (all_begun ls)
    ++ finished_steps routes n (acted routes n (does what) (all_begun ls)))

-- the acts of the packet layers that they are
abbrev pub event_acts : RouteMap → (line : ℕ) → Happening → List SwitchLine → List Act
event_acts routes n what ls = acts_of_all (event_steps routes n what ls) ls
