-- What a node has when it restarted is what it was made with.
use Rattle.std.proofs.Common.{◌≡◌, ◌≤◌, ◌-◌, ℕ, zero, suc, Bool, true, false, List, [], ◌∷◌, length, map, replicate, Option, Some, None, refl, sym, ap, ap₂, ◌∙◌, subst, arith}
use Rattle.std.specs.Prelude.{slice_get}
use Rattle.std.proofs.lemmas.Option.{none-some}
use Rattle.link_timers.specs.declared.role.Role.{Role}
use Rattle.link_timers.specs.declared.role.Role.TheVariants.{Dte, Dce}
use Rattle.lapb.specs.declared.link.LinkParams.{LinkParams}
use Rattle.line_end.specs.End.{End, made as made_end}
use Rattle.packet_channel.specs.Channel.{Channel, closed_channel}
use Rattle.packet_layer.specs.Layer.{Layer, Phase, link_down, unread}
use Rattle.packet_layer.specs.Layer as layer
use Rattle.packet_end.specs.Params.{link_params}
use Rattle.packet_end.specs.PacketEnd.{PacketEnd}
use Rattle.packet_end.specs.PacketEnd as end
use Rattle.packet_end.specs.declared.params.EndParams.{EndParams}
use Rattle.pad_ports.specs.Ports.{PortState, new_port}
use Rattle.pad_ports.specs.Ports as port
use Rattle.pad_ports.specs.PadLine.{silent_line}
use Rattle.x25_pad.specs.Pad as pad
use Rattle.x25_pad.specs.Pad.{PadState}
use Rattle.x25_pad.specs.Making as pad_making
use Rattle.x25_pad.specs.declared.config.PadConfig.{PadConfig}
use Rattle.switch_joins.specs.Joins.{Joined}
use Rattle.joined_line.specs.declared.config.SwitchLineConfig.{SwitchLineConfig}
use Rattle.joined_line.specs.SwitchLine.{without_joins}
use Rattle.joined_line.specs.Making.{made_line}
use Rattle.switch_lines.specs.Lines.{SwitchLine}
use Rattle.switch_lines.specs.Switch.{Switch}
use Rattle.user_nodes.specs.Node.{NodeState, Pad, Host}
use Rattle.net_config.specs.NetPlan.{NewDte, NewPad, NewHost}
use Rattle.parted_laws.specs.Restarting.{HasParams, HasTerminals, IsOfPlan, IsOfConfig, HasConfigs, EndForgets, NodeForgets, SwitchForgets}

-- ---- lists

all_same : {A B : Type 0} (change : A → B) (y : B) (xs : List A) → ((i : ℕ) (x : A) → slice_get xs i ≡ Some x → change x ≡ y) → map change xs ≡ replicate (length xs) y
all_same change y [] same = refl
all_same change y (x ∷ xs) same = ap₂ (λ z zs. z ∷ zs) (same 0 x refl) (all_same change y xs (λ i z at. same (suc i) z at))

one_more : {A : Type 0} (y : A) (n : ℕ) → 1 ≤ n → replicate n y ≡ y ∷ replicate (n - 1) y
one_more y zero least = absurd (omega (arith, least))
one_more y (suc n) least = ap (λ m. y ∷ replicate m y) (let same : n ≡ suc n - 1 = omega arith in same)

-- ---- an end of a line

layer_forgets : (role : Role) (p : EndParams) (l : Layer) → p.standing ≡ false → l.role ≡ role → l.flow ≡ p.flow → length l.channels ≡ p.channels
    → unread (link_down l) ≡ layer.made role p.channels p.flow p.standing
layer_forgets role p l standing roles flows channels =
    (λ i. record {
      role = roles i;
      flow = flows i;
      channels = closed i;
      phase = Phase.NoSession;
      owed = [];
      served_last = 0;
      relink = false;
      notes = [];
    })
    ∙ ap (λ (b : Bool). layer.made role p.channels p.flow b) (sym standing)
  where
    closed : map (λ ch. closed_channel) l.channels ≡ replicate p.channels closed_channel
    closed = all_same (λ ch. closed_channel) closed_channel l.channels (λ i x at. refl) ∙ ap (λ (n : ℕ). replicate n closed_channel) channels

pub ends_forget : EndForgets
ends_forget role p e standing has = λ i. record {
  line = line_is i;
  layer = layer_forgets role p e.layer standing has.layer_role has.flow has.channels i;
  timers = Rattle.packet_layer.specs.LayerTimers.none_running;
  notes = [];
}
  where
    line_is : made_end e.line.link.role (Rattle.lapb.specs.Machine.params_anew e.line.link) ≡ made_end role (link_params p)
    line_is = ap₂ (λ (r : Role) (x : LinkParams). made_end r x) has.link_role (has.link ∙ ap (λ (b : Bool). record (link_params p) { standing = b }) (sym standing))

-- ---- a node with users

port_forgets : (params : List ℕ) (x : PortState) → x.terminal.settings.initial ≡ params → port.restarted x ≡ new_port params None
port_forgets params x initial = ap (λ (values : List ℕ). new_port values None) initial

pad_forgets : (c : PadConfig) (p : PadState) → c.line.standing ≡ false → 1 ≤ c.terminals → HasTerminals c p → pad.restarted p ≡ pad_making.made c
pad_forgets c p standing least has = λ i. record {
  line = silent_line (ends_forget Dte c.line p.line.end standing has.end i);
  ports = ports i;
}
  where
    none_stands : None ≡ pad_making.standing_channel c
    none_stands = ap (λ (b : Bool). Rattle.std.specs.Prelude.if◌then◌else◌ b (Some 1) None) (sym standing)

    ports : map port.restarted p.ports ≡ new_port c.params (pad_making.standing_channel c) ∷ replicate (c.terminals - 1) (new_port c.params None)
    ports =
        all_same port.restarted (new_port c.params None) p.ports (λ i x at. port_forgets c.params x (has.initial i x at))
        ∙ ap (λ (n : ℕ). replicate n (new_port c.params None)) has.ports
        ∙ one_more (new_port c.params None) c.terminals least
        ∙ ap (λ (o : Option ℕ). new_port c.params o ∷ replicate (c.terminals - 1) (new_port c.params None)) none_stands

pub nodes_forget : NodeForgets
nodes_forget Dte (NewPad params terminals) p (Pad x) standing has =
    ap Pad (pad_forgets (record { line = p; params = params; terminals = terminals }) x standing has.1 has.0)
nodes_forget Dte NewHost p (Host e) standing has = ap Host (ends_forget Dte p e standing has)
nodes_forget Dce dte p (Host e) standing has = ap Host (ends_forget Dce p e standing has)
nodes_forget Dte (NewPad params terminals) p (Host e) standing has = absurd has
nodes_forget Dte NewHost p (Pad x) standing has = absurd has
nodes_forget Dce dte p (Pad x) standing has = absurd has

-- ---- a switch

-- a channel that is not joined
abbrev unjoined : Option Joined
unjoined = None

line_forgets : (c : SwitchLineConfig) (l : SwitchLine) → IsOfConfig c l → without_joins l ≡ made_line c
line_forgets c l is = λ i. record {
  end = ends_forget c.role c.params l.end is.not_standing is.end i;
  address = is.address i;
  joined = joined i;
}
  where
    joined : map (λ (o : Option Joined). unjoined) l.joined ≡ replicate c.params.channels unjoined
    joined = all_same (λ (o : Option Joined). unjoined) unjoined l.joined (λ i x at. refl) ∙ ap (λ (n : ℕ). replicate n unjoined) is.joined

lines_forget : (ls : List SwitchLine) (cs : List SwitchLineConfig) → length ls ≡ length cs
    → ((own : ℕ) (l : SwitchLine) (c : SwitchLineConfig) → slice_get ls own ≡ Some l → slice_get cs own ≡ Some c → IsOfConfig c l) → map without_joins ls ≡ map made_line cs
lines_forget [] [] count each = refl
lines_forget [] (c ∷ cs) count each = absurd (omega (arith, count))
lines_forget (l ∷ ls) [] count each = absurd (omega (arith, count))
lines_forget (l ∷ ls) (c ∷ cs) count each =
    ap₂ (λ x xs. x ∷ xs) (line_forgets c l (each 0 l c refl refl)) (lines_forget ls cs (omega (arith, count)) (λ own x y at is. each (suc own) x y at is))

pub switches_forget : SwitchForgets
switches_forget routes configs s has = λ i. record { routes = has.routes_are i; lines = lines_forget s.lines configs has.count has.each i }
