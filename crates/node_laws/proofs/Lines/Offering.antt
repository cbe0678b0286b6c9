-- Packets that go from the layer of an end to its link, one after the other, in step.
use Rattle.std.specs.Prelude.{◌≡◌, ℕ, zero, suc, ◌+◌, ◌≤◌, Bool, true, false, cond, List, [], ◌∷◌, ◌++◌, length, Option, Some, None, is_some}
use Rattle.std.proofs.Common.{refl, sym, ap, ◌∙◌, subst, arith}
use Rattle.std.proofs.lemmas.List.{append-nil}
use Rattle.link_timers.specs.declared.role.Role.{Role}
use Rattle.link_timers.specs.Role.{other_of}
use Rattle.lapb.specs.Machine.{Octets, can_offer}
use Rattle.lapb.specs.World.{World, logged}
use Rattle.data_transfer.specs.Packets.{Packet, Note}
use Rattle.data_transfer.specs.Packets.Received.{Whole}
use Rattle.data_transfer.specs.Octets.{heard}
use Rattle.packet_layer.specs.Layer.{next_packet}
use Rattle.packet_layer.specs.Events.{written_packet}
use Rattle.packet_laws.specs.LayerLine as layers
use Rattle.packet_laws.specs.LayerLine.{Event, happens}
use Rattle.packet_laws.proofs.Readable.{readable_next, next_heard, next_short}
use Rattle.data_transfer.specs.declared.flow.Flow.{Flow}
use Rattle.packet_end.specs.Params.{info_of}
use Rattle.packet_end.specs.PacketEnd.{PacketEnd, with_next, offered, all_offered}
use Rattle.node_laws.specs.Lines.NodeLine.{Offers}
use Rattle.node_laws.specs.Lines.Events.{offer_events, after_here, cleared, notes_of}
use Rattle.node_laws.specs.Lines.Joint.{Side, side, session_of, session_now, Follows, JointAt}
use Rattle.node_laws.specs.Lines.Steps.{session_after, Rise, Step}
use Rattle.node_laws.proofs.Lines.Flows.{next_flow}
use Rattle.node_laws.proofs.Lines.Layers.{follows_offers, offers_happens, next_silent}
use Rattle.node_laws.proofs.Lines.Links.{Goes, same_info, goes_offer, takes_up}

some_is : (o : Option Packet) → is_some o ≡ true → (p : Packet) × (o ≡ Some p)
some_is None e = absurd (cc)
some_is (Some p) e = (p, refl)

-- an I frame of the line has room for each packet
room_for : (flow : Flow) (info : ℕ) → info ≡ info_of flow → (145 ≤ info) × (flow.size + 4 ≤ info)
room_for flow info e = (omega arith, omega arith)

-- what the end has become by these events; it and the other one came up last in sessions `mine` and `yours`
record Went (role : Role) (v : layers.Line) (me you : PacketEnd) (going coming : List Octets) (e : PacketEnd) (events : List Event) (mine yours : ℕ) : Type 0 where
  world : World
  joint : JointAt role world (after_here events v) e you going coming
  notes : e.notes ≡ me.notes ++ notes_of events v
  rises : Rise events mine yours
  mine_is : session_of role world ≡ session_after events mine
  yours_is : session_of (other_of role) world ≡ yours

-- one packet
record One (role : Role) (w : World) (v : layers.Line) (me you : PacketEnd) (going coming : List Octets) : Type 0 where
  world : World
  joint : JointAt role world (happens Event.Offers v) (with_next me (next_packet me.layer)) you going coming
  silent : (happens Event.Offers (cleared v)).me.layer.notes ≡ []
  mine_is : session_of role world ≡ session_of role w
  yours_is : session_of (other_of role) world ≡ session_of (other_of role) w

one_goes : (role : Role) (w : World) (v : layers.Line) (me you : PacketEnd) (going coming : List Octets) → JointAt role w v me you going coming →
    can_offer me.line.link ≡ true → is_some (next_packet me.layer).packet ≡ true → One role w v me you going coming
one_goes role w v me you going coming j room says =
    let x : Side = side role w me.line.link in
    let y : Side = side (other_of role) w you.line.link in
    let p = some_is (next_packet me.layer).packet says in
    let octets : Octets = written_packet me.layer.flow (next_packet me.layer).packet [] in
    let is_heard : heard me.layer.flow octets ≡ Some (Whole p.0) = ap (λ (q : Option Packet). heard me.layer.flow (written_packet me.layer.flow q [])) p.1 ∙ next_heard me.layer j.readable_here p.0 p.1 in
    let info : ℕ = me.line.link.info in
    let carries = room_for me.layer.flow info (same_info role w me.line.link you.line.link (going ++ me.line.frames) (coming ++ you.line.frames) j.stands ∙ j.info ∙ ap info_of j.same_flow) in
    let short : length octets ≤ info = subst (λ (q : Option Packet). length (written_packet me.layer.flow q []) ≤ info) (sym p.1) (next_short info me.layer carries.0 carries.1 j.readable_here p.0 p.1) in
    let here : Goes role me.line.link you.line.link (going ++ me.line.frames) (coming ++ you.line.frames) x y = record { world = w; stands = j.stands; mine_is = refl; yours_is = refl } in
    let g = goes_offer me.line.link you.line.link (going ++ me.line.frames) (coming ++ you.line.frames) x y role octets room short here in
    let session : v.me.session ≡ Some x.session = j.mine.session ∙ ap (λ (b : Bool). session_now b x.session) (takes_up me.line.link room) in
    let is = offers_happens v x.session session in
    let clear = offers_happens (cleared v) x.session session in
    let f = follows_offers x me.layer v.me x.session octets p.0 j.mine p.1 is_heard in
    record {
      world = g.world;
      joint = record {
        stands = g.stands;
        mine = subst (λ (s : Side). Follows s (next_packet me.layer).layer (happens Event.Offers v).me) (sym g.mine_is)
            (subst (λ (u : layers.Line). Follows (record x { offered = logged x.offered x.session (Some octets) }) (next_packet me.layer).layer u.me) (sym is) f);
        yours = subst (λ (s : Side). Follows s you.layer (happens Event.Offers v).you) (sym g.yours_is)
            (subst (λ (u : layers.Line). Follows y you.layer u.you) (sym is) j.yours);
        readable_here = readable_next me.layer j.readable_here;
        readable_there = j.readable_there;
        same_flow = j.same_flow ∙ sym (next_flow me.layer);
        info = j.info;
      };
      silent = ap (λ (u : layers.Line). u.me.layer.notes) clear ∙ next_silent v.me.layer;
      mine_is = ap (λ (s : Side). s.session) g.mine_is;
      yours_is = ap (λ (s : Side). s.session) g.yours_is;
    }

abbrev Others : (most : ℕ) → Role → PacketEnd → (going coming : List Octets) → Type 0
Others most role you going coming = (u : World) (o : layers.Line) (e : PacketEnd) → JointAt role u o e you going coming →
    Went role o e you going coming (offered most e) (offer_events most e) (session_of role u) (session_of (other_of role) u)

offers_went : (most : ℕ) (role : Role) (w : World) (v : layers.Line) (me you : PacketEnd) (going coming : List Octets) → JointAt role w v me you going coming →
    Went role v me you going coming (offered most me) (offer_events most me) (session_of role w) (session_of (other_of role) w)
offers_went zero role w v me you going coming j = record { world = w; joint = j; notes = sym (append-nil me.notes); rises = tt; mine_is = refl; yours_is = refl }
offers_went (suc most) role w v me you going coming j =
    by (λ next_world next_line next_end next_joint. offers_went most role next_world next_line next_end you going coming next_joint)
    (can_offer me.line.link) refl (is_some (next_packet me.layer).packet) refl
  where
    none : Went role v me you going coming me [] (session_of role w) (session_of (other_of role) w)
    none = record { world = w; joint = j; notes = sym (append-nil me.notes); rises = tt; mine_is = refl; yours_is = refl }

    more : Others most role you going coming → can_offer me.line.link ≡ true → is_some (next_packet me.layer).packet ≡ true →
        Went role v me you going coming (offered most (with_next me (next_packet me.layer))) (Event.Offers ∷ offer_events most (with_next me (next_packet me.layer))) (session_of role w) (session_of (other_of role) w)
    more others room says =
        let o = one_goes role w v me you going coming j room says in
        let events : List Event = offer_events most (with_next me (next_packet me.layer)) in
        let r = others o.world (happens Event.Offers v) (with_next me (next_packet me.layer)) o.joint in
        record {
          world = r.world;
          joint = r.joint;
          notes = r.notes ∙ ap (λ (z : List Note). me.notes ++ (z ++ notes_of events (happens Event.Offers v))) (sym o.silent);
          rises = subst (λ (n : ℕ). Rise events n (session_of (other_of role) w)) o.mine_is (subst (λ (n : ℕ). Rise events (session_of role o.world) n) o.yours_is r.rises);
          mine_is = r.mine_is ∙ ap (λ (n : ℕ). session_after events n) o.mine_is;
          yours_is = r.yours_is ∙ o.yours_is;
        }

    by : Others most role you going coming → (room : Bool) → can_offer me.line.link ≡ room → (says : Bool) → is_some (next_packet me.layer).packet ≡ says →
        Went role v me you going coming (cond room (cond says (offered most (with_next me (next_packet me.layer))) me) me)
        (cond room (cond says (Event.Offers ∷ offer_events most (with_next me (next_packet me.layer))) []) []) (session_of role w) (session_of (other_of role) w)
    by others false e says f = none
    by others true e false f = none
    by others true e true f = more others e f

all_is : (e : PacketEnd) → all_offered e ≡ offered 7 e
unfolding all_offered
all_is e = refl

pub step_offers : (role : Role) (w : World) (v : layers.Line) (me you : PacketEnd) (going coming : List Octets) → JointAt role w v me you going coming → Step role Offers w v me you going coming
step_offers role w v me you going coming j =
    let r = offers_went 7 role w v me you going coming j in
    record {
      world = r.world;
      joint = subst (λ (e : PacketEnd). JointAt role r.world (after_here (offer_events 7 me) v) e you going coming) (sym (all_is me)) r.joint;
      notes = subst (λ (e : PacketEnd). e.notes ≡ me.notes ++ notes_of (offer_events 7 me) v) (sym (all_is me)) r.notes;
      rises = r.rises;
      mine = r.mine_is;
      yours = r.yours_is;
    }
