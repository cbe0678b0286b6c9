-- Names of nodes, and the places that they stand for.
use Rattle.std.proofs.Common.{◌≡◌, ℕ, ◌≤◌, leb, Bool, true, false, ◌&&◌, ◌||◌, not, ◌==◌, List, Some, length, sym}
use Rattle.std.proofs.Common.{subst, arith, true≢false, refl, ap, inl, inr}
use Rattle.std.specs.Prelude.{slice_get, string_bytes, nat_le}
use Rattle.std.specs.List.{list_all, list_any, filter}
use Rattle.std.specs.Cmp.Lexicographic.{bytes_decides}
use Rattle.std.proofs.lemmas.Bool.{and_parts, or_cases, leb-true, not-true, eq-eqb, eqb-true}
use Rattle.packet_codec.specs.declared.packet.Numbering.TheVariants.{Modulo8, Modulo128}
use Rattle.data_transfer.specs.Flow.{IsFlow}
use Rattle.data_transfer.proofs.Windows.{size_most}
use Rattle.packet_end.specs.Params.{AreParams}
use Rattle.net_config.specs.Served.{is_from, same_text, is_named, has_dte, has_end, exactly_one, place_of}
use Rattle.net_config.specs.Served.{is_kind_served, most_lines, is_switch, is_dce_named, is_numbered, is_sized, is_within, suits_pad}
use Rattle.net_config.specs.Served.{joins_nodes, is_from_switch, is_at_switch, leads_back, is_in_tree, has_own_address}
use Rattle.net_config.specs.Served.{may_stand, is_node_served, is_line_served, is_route_served, is_served}
use Rattle.net_config.specs.Plan.{numbering_of, flow_of, end_params}
use Rattle.net_config.specs.declared.config.Config.{Config}
use Rattle.net_config.specs.declared.config.NodeConfig.{NodeConfig}
use Rattle.net_config.specs.declared.config.NodeKind.{NodeKind}
use Rattle.net_config.specs.declared.config.NodeKind.TheVariants as node_kind
use Rattle.net_config.specs.declared.config.LineConfig.{LineConfig}
use Rattle.net_config.proofs.Counting.{all_at, place_is}

pub same_so : (a b : List ℕ) → same_text a b ≡ true → a ≡ b
same_so a b = (bytes_decides a b).0

pub so_same : (a b : List ℕ) → a ≡ b → same_text a b ≡ true
so_same a b = (bytes_decides a b).1

pub record IsBetween (a b n : ℕ) : Type 0 where
  pub least : a ≤ n
  pub most : n ≤ b

pub from_so : (a b n : ℕ) → is_from a b n ≡ true → IsBetween a b n
from_so a b n h =
    let parts = and_parts (leb a n) (leb n b) h in
    record { least = leb-true a n parts.0; most = leb-true n b parts.1 }

-- the node has users: it is a PAD or a host
abbrev pub has_users : NodeConfig → Bool
has_users n = not (is_switch n.kind)

-- ---- what is asked of a node

pub record NodeIsServed (c : Config) (n : NodeConfig) : Type 0 where
  pub name : exactly_one (is_named (string_bytes n.name)) c.nodes.items ≡ true
  pub lines : is_from 1 (most_lines n.kind) (length (filter (has_end (string_bytes n.name)) c.lines.items)) ≡ true
  pub kind : is_kind_served n.kind ≡ true

one_is : (count : ℕ) → IsBetween 1 1 count → (count == 1) ≡ true
one_is count h =
    let least : 1 ≤ count = h.least in
    let most : count ≤ 1 = h.most in
    eq-eqb count 1 (omega arith)

-- a node with users has one line
one_of : (k : NodeKind) (count : ℕ) → not (is_switch k) ≡ true → is_from 1 (most_lines k) count ≡ true
    → (count == 1) ≡ true
one_of (node_kind.Pad p) count users h = one_is count (from_so 1 1 count h)
one_of node_kind.Host count users h = one_is count (from_so 1 1 count h)
one_of node_kind.Switch count users h = absurd (true≢false (sym users))

pub one_line : (c : Config) (n : NodeConfig) → NodeIsServed c n → has_users n ≡ true
    → exactly_one (has_end (string_bytes n.name)) c.lines.items ≡ true
one_line c n h users = one_of n.kind (length (filter (has_end (string_bytes n.name)) c.lines.items)) users h.lines

up_to_64 : (count : ℕ) → IsBetween 1 1 count → IsBetween 1 64 count
up_to_64 count h =
    let least : 1 ≤ count = h.least in
    let most : count ≤ 1 = h.most in
    record { least = least; most = omega arith }

-- a node of any kind has 1 to 64
pub some_lines : (k : NodeKind) (count : ℕ) → is_from 1 (most_lines k) count ≡ true → IsBetween 1 64 count
some_lines (node_kind.Pad p) count h = up_to_64 count (from_so 1 1 count h)
some_lines node_kind.Host count h = up_to_64 count (from_so 1 1 count h)
some_lines node_kind.Switch count h = from_so 1 64 count h

pub node_is_served : (c : Config) (n : NodeConfig) → is_node_served c n ≡ true → NodeIsServed c n
node_is_served c n h =
    let one = exactly_one (is_named (string_bytes n.name)) c.nodes.items in
    let lines = length (filter (has_end (string_bytes n.name)) c.lines.items) in
    let has_lines = is_from 1 (most_lines n.kind) lines in
    let all = and_parts (one && has_lines && is_kind_served n.kind) _ h in
    let parts = and_parts (one && has_lines) (is_kind_served n.kind) all.0 in
    let ends = and_parts one has_lines parts.0 in
    record { name = ends.0; lines = ends.1; kind = parts.1 }

-- ---- what is asked of a line

pub record LineIsServed (c : Config) (l : LineConfig) : Type 0 where
  pub apart : same_text (string_bytes l.dte) (string_bytes l.dce) ≡ false
  pub dte : list_any (is_named (string_bytes l.dte)) c.nodes.items ≡ true
  pub dce : list_any (is_dce_named (string_bytes l.dce)) c.nodes.items ≡ true
  pub up : (not (is_from_switch c.nodes.items l) || (is_at_switch c.nodes.items l && leads_back c.nodes.items l)) ≡ true
  pub one_dte : exactly_one (has_dte (string_bytes l.dte)) c.lines.items ≡ true
  pub within : is_within l ≡ true
  pub pad : suits_pad c.nodes.items l ≡ true
  pub address : has_own_address c.nodes.items l ≡ true
  pub stands : (not l.standing || may_stand c l) ≡ true

pub line_is_served : (c : Config) (l : LineConfig) → is_line_served c l ≡ true → LineIsServed c l
line_is_served c l h =
    let apart = not (same_text (string_bytes l.dte) (string_bytes l.dce)) in
    let dte = list_any (is_named (string_bytes l.dte)) c.nodes.items in
    let dce = list_any (is_dce_named (string_bytes l.dce)) c.nodes.items in
    let up = not (is_from_switch c.nodes.items l) || (is_at_switch c.nodes.items l && leads_back c.nodes.items l) in
    let tree = is_in_tree c l in
    let own = has_own_address c.nodes.items l in
    let pad = suits_pad c.nodes.items l in
    let joined = joins_nodes c.nodes.items l in
    let parts = and_parts (joined && tree && is_within l && pad && own) (not l.standing || may_stand c l) h in
    let address = and_parts (joined && tree && is_within l && pad) own parts.0 in
    let suits = and_parts (joined && tree && is_within l) pad address.0 in
    let within = and_parts (joined && tree) (is_within l) suits.0 in
    let in_tree = and_parts joined tree within.0 in
    let joins = and_parts (apart && dte) dce in_tree.0 in
    let ends = and_parts apart dte joins.0 in
    let ups = and_parts up (exactly_one (has_dte (string_bytes l.dte)) c.lines.items) in_tree.1 in
    record {
      apart = not-true (same_text (string_bytes l.dte) (string_bytes l.dce)) ends.0;
      dte = ends.1;
      dce = joins.1;
      up = ups.0;
      one_dte = ups.1;
      within = within.1;
      pad = suits.1;
      address = address.1;
      stands = parts.1;
    }

-- such a window is right for the numbering of the line
flow_is : (l : LineConfig) → is_numbered l ≡ true → is_sized l ≡ true → IsFlow (flow_of l)
flow_is l h size =
    elim (or_cases ((l.modulo == 8) && is_from 1 7 l.window) ((l.modulo == 128) && is_from 1 32 l.window) h) [
      | inl modulo_8 ↦
          let parts = and_parts (l.modulo == 8) (is_from 1 7 l.window) modulo_8 in
          let window = from_so 1 7 l.window parts.1 in
          let same : numbering_of l.modulo ≡ Modulo8 = ap numbering_of (eqb-true l.modulo 8 parts.0) in
          record { window_least = window.least; window_most = rw same window.most; size_is = size }
      | inr modulo_128 ↦
          let parts = and_parts (l.modulo == 128) (is_from 1 32 l.window) modulo_128 in
          let window = from_so 1 32 l.window parts.1 in
          let same : numbering_of l.modulo ≡ Modulo128 = ap numbering_of (eqb-true l.modulo 128 parts.0) in
          record { window_least = window.least; window_most = rw same window.most; size_is = size }
    ]

pub within_params : (l : LineConfig) → is_within l ≡ true → AreParams (end_params l)
within_params l h =
    let channels = is_from 1 32 l.channels in
    let k = is_from 1 7 l.k in
    let n2 = is_from 1 20 l.n2 in
    let to_n2 = and_parts (channels && is_numbered l && is_sized l && k) n2 h in
    let to_k = and_parts (channels && is_numbered l && is_sized l) k to_n2.0 in
    let to_size = and_parts (channels && is_numbered l) (is_sized l) to_k.0 in
    let to_numbers = and_parts channels (is_numbered l) to_size.0 in
    let channels_is = from_so 1 32 l.channels to_numbers.0 in
    let k_is = from_so 1 7 l.k to_k.1 in
    let n2_is = from_so 1 20 l.n2 to_n2.1 in
    let flow = flow_is l to_numbers.1 to_size.1 in
    let size : l.size ≤ 1024 = size_most (flow_of l) flow in
    record {
      link = record {
        k_least = k_is.least;
        k_most = k_is.most;
        n2_least = n2_is.least;
        n2_most = n2_is.most;
        info_most = omega (arith, size);
      };
      layer = record {
        channels_least = channels_is.least;
        channels_most = channels_is.most;
        flow_is = flow;
      };
    }

-- ---- of a network

-- what is asked of its parts
record PartsAreServed (c : Config) : Type 0 where
  pub nodes : list_all (is_node_served c) c.nodes.items ≡ true
  pub lines : list_all (is_line_served c) c.lines.items ≡ true
  pub switches : nat_le (length (filter (λ n. is_switch n.kind) c.nodes.items)) 16 ≡ true

parts_are_served : (c : Config) → is_served c ≡ true → PartsAreServed c
parts_are_served c h =
    let nodes = list_all (is_node_served c) c.nodes.items in
    let lines = list_all (is_line_served c) c.lines.items in
    let routes = list_all (is_route_served c) c.routes.items in
    let all = and_parts (nodes && lines && routes) (nat_le (length (filter (λ n. is_switch n.kind) c.nodes.items)) 16) h in
    let ends = and_parts nodes lines (and_parts (nodes && lines) routes all.0).0 in
    record { nodes = ends.0; lines = ends.1; switches = all.1 }

pub served_node : (c : Config) → is_served c ≡ true → (i : ℕ) (n : NodeConfig)
    → slice_get c.nodes.items i ≡ Some n → NodeIsServed c n
served_node c h i n e =
    node_is_served c n (all_at (is_node_served c) c.nodes.items i n (parts_are_served c h).nodes e)

pub served_line : (c : Config) → is_served c ≡ true → (i : ℕ) (l : LineConfig)
    → slice_get c.lines.items i ≡ Some l → LineIsServed c l
served_line c h i l e =
    line_is_served c l (all_at (is_line_served c) c.lines.items i l (parts_are_served c h).lines e)

pub few_switches : (c : Config) → is_served c ≡ true → length (filter (λ n. is_switch n.kind) c.nodes.items) ≤ 16
few_switches c h = leb-true (length (filter (λ n. is_switch n.kind) c.nodes.items)) 16 (parts_are_served c h).switches

-- ---- places

-- a name stands for the place of any node that has it
pub node_place : (c : Config) → is_served c ≡ true → (name : List ℕ) (i : ℕ) (n : NodeConfig)
    → slice_get c.nodes.items i ≡ Some n → string_bytes n.name ≡ name → place_of (is_named name) c.nodes.items ≡ i
node_place c h name i n there same =
    let one = subst (λ t. exactly_one (is_named t) c.nodes.items ≡ true) same (served_node c h i n there).name in
    place_is (is_named name) c.nodes.items i n one there (so_same (string_bytes n.name) name same)

-- and that of one with users for the line that ends there
pub line_place : (c : Config) → is_served c ≡ true → (i : ℕ) (n : NodeConfig) → slice_get c.nodes.items i ≡ Some n
    → has_users n ≡ true → (j : ℕ) (l : LineConfig) → slice_get c.lines.items j ≡ Some l → has_end (string_bytes n.name) l ≡ true
    → place_of (has_end (string_bytes n.name)) c.lines.items ≡ j
line_place c h i n there users j l line_there ends =
    place_is (has_end (string_bytes n.name)) c.lines.items j l (one_line c n (served_node c h i n there) users) line_there ends
