-- A run of two hosts at a switch, with one channel on each line. The links are set up, the first host calls the second
-- one, a message goes over with D = 1, whose frame is lost and sent again after a poll, and is confirmed, a reply comes
-- back, and all is at rest. Then both hosts reset the call at once, the first one clears it, and calls again on the same
-- channels.
use Rattle.std.specs.Prelude.{ℕ, Bool, true, false, ◌&&◌, ◌==◌, not, nat_le, List, [], ◌∷◌, ◌++◌, length, Some}
use Rattle.std.specs.List.{list_all}
use Rattle.std.specs.FinMap.{empty, insert}
use Rattle.link_timers.specs.declared.role.Role.TheVariants.{Dte, Dce}
use Rattle.link_timers.specs.declared.timers.TimerId.TheVariants.{T1}
use Rattle.data_transfer.specs.Flow.{modulo_8}
use Rattle.packet_end.specs.declared.params.EndParams.{EndParams}
use Rattle.packet_channel.specs.Channel.Request.{Accept, Resetting, Clearing}
use Rattle.call_records.specs.Records.{RecordValue, PairValue}
use Rattle.frame_lines.specs.declared.line.Direction.TheVariants.{FromDte}
use Rattle.address_routes.specs.Routes.{RouteMap}
use Rattle.net_events.specs.NodeEvents.{NodeEvent, Expires, Calls, Asks, Says, Takes}
use Rattle.net_events.specs.Network.{Network}
use Rattle.net_config.specs.NetPlan.{NetPlan, PlannedSwitch}
use Rattle.network_runs.specs.Acting.{Act, AtNode, Calling, IsLost}
use Rattle.network_runs.specs.Runs.{Stage, IsRun, passes_of, call_to, new_host, line_of, is_at_rest, is_confirmed}
use Rattle.network_runs.specs.Runs.{are_packets, is_one}

abbrev pub params : EndParams
params = record { k = 7; n2 = 3; channels = 1; flow = modulo_8 2; standing = false }

abbrev pub routes : RouteMap
routes = insert (insert empty (1 ∷ []) 0) (2 ∷ []) 1

abbrev pub plan : NetPlan
plan = record {
  nodes = new_host 0 ∷ new_host 1 ∷ PlannedSwitch (record { lines = 0 ∷ 1 ∷ []; routes = routes }) ∷ [];
  lines = line_of 0 2 (1 ∷ []) params ∷ line_of 1 2 (2 ∷ []) params ∷ [];
}

abbrev pub first : NodeEvent → Act
first event = AtNode 0 Dte event

abbrev pub second : NodeEvent → Act
second event = AtNode 1 Dte event

abbrev pub passes : ℕ → List Act → List Act
passes n acts = passes_of (0 ∷ 1 ∷ []) n acts

-- until the call is at the switch
abbrev pub calling : List Act
calling = passes 5 (first (Calls (2 ∷ []) []) ∷ Calling 0 Dce (call_to (2 ∷ []) [] (Some 1)) ∷ [])

-- the call is accepted, HI is said with D = 1, and its frame is lost; T1 expires, HI is sent again and taken, then OK is
-- said with D = 0 and taken
abbrev pub talking : List Act
talking =
    passes 3 (second (Asks 1 Accept) ∷ passes 3 (first (Says 1 (72 ∷ 73 ∷ []) false true) ∷ IsLost 0 FromDte
    ∷ first (Expires T1) ∷ passes 3 (second (Takes 1) ∷ passes 3 (second (Says 1 (79 ∷ 75 ∷ []) false false)
    ∷ passes 3 (first (Takes 1) ∷ passes 3 [])))))

-- an open record has sent one packet, of these octets, which is covered, and has taken one, of those
abbrev pub has_carried : (sent taken : List ℕ) → RecordValue → Bool
has_carried sent taken r =
    not r.closed
    && (are_packets r.sent.packets (sent ∷ []) && ((r.sent.covered == 1) && are_packets r.taken.packets (taken ∷ [])))

-- HI went over, and OK came back
abbrev pub are_two : List RecordValue → Bool
are_two (r ∷ q ∷ []) = has_carried (72 ∷ 73 ∷ []) (79 ∷ 75 ∷ []) r && has_carried (79 ∷ 75 ∷ []) (72 ∷ 73 ∷ []) q
are_two records = false

-- all is at rest with the one call open, and the first host says that delivery is confirmed
abbrev pub has_come_to_rest : Network → Bool
has_come_to_rest s =
    is_at_rest s && (is_confirmed 0 1 s && (is_one s.register.pairs && are_two s.register.records))

-- ---- the call is reset and cleared, and its channels are used again

abbrev pub resetting : List Act
resetting = first (Asks 1 (Resetting 0 0)) ∷ second (Asks 1 (Resetting 0 0)) ∷ passes 4 []

abbrev pub clearing : List Act
clearing = first (Asks 1 (Clearing 0 0)) ∷ passes 4 []

abbrev pub calling_again : List Act
calling_again =
    first (Calls (2 ∷ []) []) ∷ Calling 0 Dce (call_to (2 ∷ []) [] (Some 1))
    ∷ passes 3 (second (Asks 1 Accept) ∷ passes 3 [])

-- what was sent and taken is of epochs before the present ones
abbrev pub is_reset : RecordValue → Bool
is_reset r =
    not r.closed
    && (nat_le 1 (length r.sent_before) && (are_packets r.sent.packets [] && are_packets r.taken.packets []))

abbrev pub are_reset : Network → Bool
are_reset s = is_at_rest s && list_all is_reset s.register.records

abbrev pub are_cleared : Network → Bool
are_cleared s = is_at_rest s && list_all (λ r. r.closed) s.register.records

-- the third record called the fourth one
abbrev pub are_called_again : List RecordValue → List PairValue → Bool
are_called_again (r ∷ q ∷ t ∷ u ∷ []) (p ∷ o ∷ []) =
    not t.closed && (not u.closed && ((o.caller == 2) && (o.callee == 3)))
are_called_again records pairs = false

abbrev pub has_called_again : Network → Bool
has_called_again s = is_at_rest s && are_called_again s.register.records s.register.pairs

abbrev pub stages : List Stage
stages =
    record { acts = calling ++ talking; test = has_come_to_rest }
    ∷ record { acts = resetting; test = are_reset }
    ∷ record { acts = clearing; test = are_cleared }
    ∷ record { acts = calling_again; test = has_called_again } ∷ []

abbrev pub SwitchRun : Type 0
SwitchRun = IsRun plan stages
