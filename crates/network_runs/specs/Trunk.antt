-- A run over a trunk: a host at each of two switches, with one channel on each line. The links are set up, the trunk's
-- by its DTE, the switch below. The first host calls the second one. A message goes over with D = 1. It is confirmed
-- when the second host took it, and not before. All is at rest. Then the switch below restarts: both ends of the call
-- are cleared. It sets the trunk's link up anew, and all is at rest again. And from the making on the other way: the
-- second host calls the first one, up the trunk. Then the switch above gives the trunk up, of which it is the DCE: both
-- ends of the call are cleared, and all is at rest again.
use Rattle.std.specs.Prelude.{ℕ, Bool, true, false, ◌&&◌, ◌==◌, not, if◌then◌else◌, List, [], ◌∷◌, ◌++◌, length, Some}
use Rattle.std.specs.FinMap.{empty, insert}
use Rattle.link_timers.specs.declared.role.Role.TheVariants.{Dte, Dce}
use Rattle.data_transfer.specs.Flow.{modulo_8}
use Rattle.packet_end.specs.declared.params.EndParams.{EndParams}
use Rattle.packet_channel.specs.Channel.Request.{Accept}
use Rattle.call_records.specs.Records.{RecordValue, HopValue}
use Rattle.address_routes.specs.Routes.{RouteMap}
use Rattle.net_events.specs.NodeEvents.{NodeEvent, Calls, Asks, Says, Takes}
use Rattle.net_events.specs.AtSwitch.{Relinks, Restarts}
use Rattle.net_events.specs.Network.{Network}
use Rattle.net_config.specs.NetPlan.{NetPlan, PlannedSwitch}
use Rattle.network_runs.specs.Acting.{Act, AtNode, AtSwitch, Calling}
use Rattle.network_runs.specs.Runs.{Stage, IsRun, passes_of, call_to, new_host, line_of, is_at_rest, is_confirmed}
use Rattle.network_runs.specs.Runs.{are_packets, is_one, is_hop}

abbrev pub params : EndParams
params = record { k = 1; n2 = 1; channels = 1; flow = modulo_8 1; standing = false }

abbrev pub routes_above : RouteMap
routes_above = insert (insert empty (1 ∷ []) 0) (2 ∷ []) 1

abbrev pub routes_below : RouteMap
routes_below = insert (insert empty (1 ∷ []) 1) (2 ∷ []) 0

abbrev pub plan : NetPlan
plan = record {
  nodes = new_host 0 ∷ new_host 2
      ∷ PlannedSwitch (record { lines = 0 ∷ 1 ∷ []; routes = routes_above })
      ∷ PlannedSwitch (record { lines = 2 ∷ 1 ∷ []; routes = routes_below }) ∷ [];
  lines = line_of 0 2 (1 ∷ []) params ∷ line_of 3 2 [] params ∷ line_of 1 3 (2 ∷ []) params ∷ [];
}

abbrev pub first : NodeEvent → Act
first event = AtNode 0 Dte event

abbrev pub second : NodeEvent → Act
second event = AtNode 2 Dte event

abbrev pub passes : ℕ → List Act → List Act
passes n acts = passes_of (0 ∷ 1 ∷ 2 ∷ []) n acts

-- ---- down the trunk

-- until the call is at the switch below, with the address of the first line
abbrev pub calling : List Act
calling =
    passes 5 (first (Calls (2 ∷ []) []) ∷ Calling 0 Dce (call_to (2 ∷ []) [] (Some 1))
    ∷ Calling 1 Dte (call_to (2 ∷ []) (1 ∷ []) (Some 0)) ∷ [])

-- the call is accepted, and HI is said with D = 1 and comes to the second host
abbrev pub saying : List Act
saying = passes 3 (second (Asks 1 Accept) ∷ passes 3 (first (Says 1 (72 ∷ 73 ∷ []) false true) ∷ passes 3 []))

-- it is taken there
abbrev pub taking : List Act
taking = second (Takes 1) ∷ passes 4 []

-- the switch below restarts, and its links are set up; then it sets that of the trunk up once more
abbrev pub restarting : List Act
restarting = AtSwitch 3 Restarts ∷ passes 6 (AtSwitch 3 (Relinks 1) ∷ passes 6 [])

-- the call went on at the switch above, over the trunk, and at the one below, over the second host's line
abbrev pub went_down : List HopValue → Bool
went_down (h ∷ k ∷ []) = is_hop 2 1 h && is_hop 3 2 k
went_down hops = false

-- of two records HI was sent with the one, and not taken with the other one yet
abbrev pub is_untaken : List RecordValue → Bool
is_untaken (r ∷ q ∷ []) =
    went_down r.path && (are_packets r.sent.packets ((72 ∷ 73 ∷ []) ∷ []) && (length q.taken.packets == 0))
is_untaken records = false

abbrev pub is_on_its_way : Network → Bool
is_on_its_way s = not (is_confirmed 0 1 s) && (is_one s.register.pairs && is_untaken s.register.records)

-- both ends of a call are over, or both open
abbrev pub are_over : (over : Bool) → (r q : RecordValue) → Bool
are_over over r q = if over then r.closed && q.closed else not r.closed && not q.closed

-- it was taken, on a call that is open or over
abbrev pub have_carried : (over : Bool) → List RecordValue → Bool
have_carried over (r ∷ q ∷ []) =
    went_down r.path
    && (are_packets r.sent.packets ((72 ∷ 73 ∷ []) ∷ [])
    && (are_packets q.taken.packets ((72 ∷ 73 ∷ []) ∷ []) && are_over over r q))
have_carried over records = false

abbrev pub comes_to_rest : (over : Bool) → Network → Bool
comes_to_rest over s = is_at_rest s && (is_one s.register.pairs && have_carried over s.register.records)

abbrev pub stages : List Stage
stages =
    record { acts = calling ++ saying; test = is_on_its_way }
    ∷ record { acts = taking; test = λ s. is_confirmed 0 1 s && comes_to_rest false s }
    ∷ record { acts = restarting; test = comes_to_rest true } ∷ []

-- ---- up the trunk

abbrev pub calling_back : List Act
calling_back =
    passes 5 (second (Calls (1 ∷ []) []) ∷ Calling 2 Dce (call_to (1 ∷ []) [] (Some 1))
    ∷ Calling 1 Dce (call_to (1 ∷ []) (2 ∷ []) (Some 0)) ∷ [])

abbrev pub answering : List Act
answering = passes 3 (first (Asks 1 Accept) ∷ passes 3 [])

-- the switch above gives the trunk up
abbrev pub giving_up : List Act
giving_up = AtSwitch 2 (Relinks 1) ∷ passes 6 []

abbrev pub went_up : List HopValue → Bool
went_up (h ∷ k ∷ []) = is_hop 3 1 h && is_hop 2 0 k
went_up hops = false

-- the call up the trunk is open or over
abbrev pub went_upward : (over : Bool) → List RecordValue → Bool
went_upward over (r ∷ q ∷ []) = went_up r.path && are_over over r q
went_upward over records = false

abbrev pub has_answered : (over : Bool) → Network → Bool
has_answered over s = is_at_rest s && (is_one s.register.pairs && went_upward over s.register.records)

abbrev pub stages_back : List Stage
stages_back =
    record { acts = calling_back ++ answering; test = has_answered false }
    ∷ record { acts = giving_up; test = has_answered true } ∷ []

pub record TrunkRun : Type 0 where
  pub down : IsRun plan stages
  pub up : IsRun plan stages_back
