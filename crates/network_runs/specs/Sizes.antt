-- A run of two hosts at a switch, with packets of 128 octets on the line of the first one and of 256 on the other line.
-- A message of 200 octets goes each way: the switch gathers the two packets of the first host into one, and cuts that of
-- the second one into two. All is at rest then.
use Rattle.std.specs.Prelude.{ℕ, Bool, false, ◌&&◌, nat_eq, List, [], ◌∷◌, ◌++◌, length, map, replicate, Some}
use Rattle.std.specs.Cmp.Lexicographic.{pointwise}
use Rattle.link_timers.specs.declared.role.Role.TheVariants.{Dce}
use Rattle.epochs.specs.Item.{DataPacket}
use Rattle.packet_codec.specs.declared.packet.Numbering.TheVariants.{Modulo8}
use Rattle.packet_end.specs.declared.params.EndParams.{EndParams}
use Rattle.packet_channel.specs.Channel.Request.{Accept}
use Rattle.call_records.specs.Records.{RecordValue}
use Rattle.net_events.specs.NodeEvents.{Calls, Asks, Says, Takes}
use Rattle.net_events.specs.Network.{Network}
use Rattle.net_config.specs.NetPlan.{NetPlan, PlannedSwitch}
use Rattle.network_runs.specs.Acting.{Act, Calling}
use Rattle.network_runs.specs.Runs.{Stage, IsRun, call_to, new_host, line_of, is_at_rest, is_one}
use Rattle.network_runs.specs.OneSwitch.{routes, first, second, passes}

abbrev pub params : (size : ℕ) → EndParams
params size = record {
  k = 7;
  n2 = 3;
  channels = 1;
  flow = record { window = 2; numbering = Modulo8; size = size };
  standing = false;
}

abbrev pub plan : NetPlan
plan = record {
  nodes = new_host 0 ∷ new_host 1 ∷ PlannedSwitch (record { lines = 0 ∷ 1 ∷ []; routes = routes }) ∷ [];
  lines = line_of 0 2 (1 ∷ []) (params 128) ∷ line_of 1 2 (2 ∷ []) (params 256) ∷ [];
}

abbrev pub calling : List Act
calling = passes 5 (first (Calls (2 ∷ []) []) ∷ Calling 0 Dce (call_to (2 ∷ []) [] (Some 1)) ∷ [])

abbrev pub talking : List Act
talking =
    passes 3 (second (Asks 1 Accept) ∷ passes 3 (first (Says 1 (replicate 200 65) false false)
    ∷ passes 4 (second (Takes 1) ∷ passes 3 (second (Says 1 (replicate 200 66) false false)
    ∷ passes 4 (first (Takes 1) ∷ first (Takes 1) ∷ passes 4 [])))))

abbrev pub are_of : List DataPacket → (sizes : List ℕ) → Bool
are_of packets sizes = pointwise nat_eq (map (λ p. length p.octets) packets) sizes

abbrev pub are_cut : List RecordValue → Bool
are_cut (r ∷ q ∷ []) =
    are_of r.sent.packets (128 ∷ 72 ∷ [])
    && (are_of q.taken.packets (200 ∷ []) && (are_of q.sent.packets (200 ∷ [])
    && are_of r.taken.packets (128 ∷ 72 ∷ [])))
are_cut records = false

abbrev pub have_gone_over : Network → Bool
have_gone_over s = is_at_rest s && (is_one s.register.pairs && are_cut s.register.records)

abbrev pub stages : List Stage
stages = record { acts = calling ++ talking; test = have_gone_over } ∷ []

abbrev pub SizesRun : Type 0
SizesRun = IsRun plan stages
