-- Whatever happens on a line, its two layers go through happenings of two layers, and the law of a line holds of them.
use Rattle.std.specs.Prelude.{◌≡◌, ℕ, ◌≤◌, Bool, true, false, List, [], ◌∷◌, ◌++◌, drop, map}
use Rattle.std.proofs.Common.{refl, sym, ap, ◌∙◌, subst}
use Rattle.link_timers.specs.declared.role.Role.{Role}
use Rattle.link_timers.specs.declared.role.Role.TheVariants.{Dte, Dce}
use Rattle.link_timers.specs.Role.{other_of}
use Rattle.packet_layer.specs.LayerTimers.{none_running}
use Rattle.lapb.specs.declared.link.LinkParams.{LinkParams}
use Rattle.lapb.specs.Machine as link
use Rattle.lapb.specs.Machine.{Octets, Link}
use Rattle.lapb.specs.World.{World, opening}
use Rattle.lapb.proofs.Lines.{stands_opening}
use Rattle.data_transfer.specs.declared.flow.Flow.{Flow}
use Rattle.data_transfer.proofs.Windows.{window_below}
use Rattle.line_end.specs.End.{untouched}
use Rattle.line_end.specs.End as line
use Rattle.packet_layer.specs.Layer as machine
use Rattle.packet_laws.specs.LayerLine as layers
use Rattle.packet_laws.specs.LayerLine.{Happening, start_line, turned}
use Rattle.packet_laws.specs.LayerLine.Happening.{Here, There}
use Rattle.packet_laws.proofs.Line.LineHolds.{line_holds}
use Rattle.packet_laws.proofs.Readable.{readable_made}
use Rattle.packet_end.specs.PacketEnd.{PacketEnd}
use Rattle.packet_end.specs.Params.{info_of}
use Rattle.node_laws.specs.Lines.NodeLine.{Line, Act, Begins, Hears, Expires, Relinks, RelinksIfDue, Restarts, Calls, Requests, Offers, Settles, Elapses, Sends, Event, At, Loses, happens, after, made}
use Rattle.node_laws.specs.Lines.Events.{after_here}
use Rattle.node_laws.specs.Lines.Fit.{IsFit, IsFitEvent, AreFit}
use Rattle.node_laws.specs.Lines.Joint.{Side, side, session_of, Follows, JointAt, Joint, Leads}
use Rattle.node_laws.specs.Lines.Steps.{Step, events_at}
use Rattle.node_laws.specs.Lines.LineLaw.{LineEndsLaw}
use Rattle.node_laws.proofs.Lines.Links.{Goes, same_info, goes_relink, goes_lose}
use Rattle.node_laws.proofs.Lines.Acts.{did_goes, step_begins, step_hears, step_expires, step_relinks, step_relinks_if_due, step_restarts, step_calls, step_requests, step_settles, step_elapses, step_sends}
use Rattle.node_laws.proofs.Lines.Offering.{step_offers}

-- ---- any act

pub act_steps : (role : Role) (act : Act) (w : World) (v : layers.Line) (me you : PacketEnd) (going coming : List Octets) → IsFit act → JointAt role w v me you going coming →
    Step role act w v me you going coming
act_steps role Begins w v me you going coming fits j = step_begins role w v me you going coming j
act_steps role Hears w v me you going coming fits j = step_hears role w v me you going coming j
act_steps role (Expires id) w v me you going coming fits j = step_expires role w v me you going coming j id
act_steps role Relinks w v me you going coming fits j = step_relinks role w v me you going coming j
act_steps role RelinksIfDue w v me you going coming fits j = step_relinks_if_due role w v me you going coming j
act_steps role Restarts w v me you going coming fits j = step_restarts role w v me you going coming j
act_steps role (Calls parts) w v me you going coming fits j = step_calls role w v me you going coming j parts fits
act_steps role (Requests channel q) w v me you going coming fits j = step_requests role w v me you going coming j channel q
act_steps role Offers w v me you going coming fits j = step_offers role w v me you going coming j
act_steps role Settles w v me you going coming fits j = step_settles role w v me you going coming j
act_steps role (Elapses ticks) w v me you going coming fits j = step_elapses role w v me you going coming j ticks
act_steps role (Sends kept) w v me you going coming fits j = step_sends role w v me you going coming j kept

-- ---- a line seen from its other end

pub turned_joint : (role : Role) (w : World) (v : layers.Line) (me you : PacketEnd) (going coming : List Octets) → JointAt role w v me you going coming →
    JointAt (other_of role) w (turned v) you me coming going
turned_joint Dte w v me you going coming j = record { stands = j.stands; mine = j.yours; yours = j.mine; readable_here = j.readable_there; readable_there = j.readable_here; same_flow = sym j.same_flow; info = same_info Dte w me.line.link you.line.link (going ++ me.line.frames) (coming ++ you.line.frames) j.stands ∙ j.info ∙ ap info_of j.same_flow }
turned_joint Dce w v me you going coming j = record { stands = j.stands; mine = j.yours; yours = j.mine; readable_here = j.readable_there; readable_there = j.readable_here; same_flow = sym j.same_flow; info = same_info Dce w me.line.link you.line.link (going ++ me.line.frames) (coming ++ you.line.frames) j.stands ∙ j.info ∙ ap info_of j.same_flow }

-- the first frame on the way to an end is lost
pub loses_joint : (role : Role) (w : World) (v : layers.Line) (me you : PacketEnd) (going coming : List Octets) → JointAt role w v me you going coming →
    (next : World) × JointAt role next v me you going (drop 1 coming) × (session_of role next ≡ session_of role w) × (session_of (other_of role) next ≡ session_of (other_of role) w)
loses_joint role w v me you going [] j = (w, j, refl, refl)
loses_joint role w v me you going (octets ∷ coming) j =
    let x : Side = side role w me.line.link in
    let y : Side = side (other_of role) w you.line.link in
    let here : Goes role me.line.link you.line.link (going ++ me.line.frames) (octets ∷ (coming ++ you.line.frames)) x y = record { world = w; stands = j.stands; mine_is = refl; yours_is = refl } in
    let g = goes_lose me.line.link you.line.link (going ++ me.line.frames) (coming ++ you.line.frames) x y role octets here in (
      g.world,
      record {
        stands = g.stands;
        mine = subst (λ (s : Side). Follows s me.layer v.me) (sym g.mine_is) j.mine;
        yours = subst (λ (s : Side). Follows s you.layer v.you) (sym g.yours_is) j.yours;
        readable_here = j.readable_here;
        readable_there = j.readable_there;
        same_flow = j.same_flow;
        info = j.info;
      },
      ap (λ (s : Side). s.session) g.mine_is,
      ap (λ (s : Side). s.session) g.yours_is,
    )

-- ---- events at an end, as happenings on the line

pub after_append : (before more : List Happening) (v : layers.Line) → layers.after (before ++ more) v ≡ layers.after more (layers.after before v)
after_append [] more v = refl
after_append (h ∷ before) more v = after_append before more (layers.after_one h v)

here_is : (events : List layers.Event) (v : layers.Line) → layers.after (map Here events) v ≡ after_here events v
here_is [] v = refl
here_is (event ∷ events) v = here_is events (layers.happens event v)

there_is : (events : List layers.Event) (v : layers.Line) → layers.after (map There events) v ≡ turned (after_here events (turned v))
there_is [] v = refl
there_is (event ∷ events) v = there_is events (turned (layers.happens event (turned v)))

-- ---- any event

pub event_leads : (start : layers.Line) (event : Event) (l : Line) → IsFitEvent event → Leads start l → Leads start (happens event l)
event_leads start (At Dte act) l fits d =
    let v : layers.Line = layers.after d.happenings start in
    let s = act_steps Dte act d.world v l.dte l.dce l.up l.down fits d.joint in
    let events : List layers.Event = events_at Dte d.world act l.down l.dte in
    record {
      world = s.world;
      happenings = d.happenings ++ map Here events;
      joint = subst (λ (u : layers.Line). Joint (happens (At Dte act) l) s.world u) (sym (after_append d.happenings (map Here events) start ∙ here_is events v)) s.joint;
    }
event_leads start (At Dce act) l fits d =
    let v : layers.Line = layers.after d.happenings start in
    let s = act_steps Dce act d.world (turned v) l.dce l.dte l.down l.up fits (turned_joint Dte d.world v l.dte l.dce l.up l.down d.joint) in
    let events : List layers.Event = events_at Dce d.world act l.up l.dce in
    let r : Joint (happens (At Dce act) l) s.world (turned (after_here events (turned v))) =
    turned_joint Dce s.world (after_here events (turned v)) (happens (At Dce act) l).dce (happens (At Dce act) l).dte (happens (At Dce act) l).down (happens (At Dce act) l).up s.joint in
    record {
      world = s.world;
      happenings = d.happenings ++ map There events;
      joint = subst (λ (u : layers.Line). Joint (happens (At Dce act) l) s.world u) (sym (after_append d.happenings (map There events) start ∙ there_is events v)) r;
    }
event_leads start (Loses Dte) l fits d =
    let r = loses_joint Dte d.world (layers.after d.happenings start) l.dte l.dce l.up l.down d.joint in
    record { world = r.0; happenings = d.happenings; joint = r.1 }
event_leads start (Loses Dce) l fits d =
    let v : layers.Line = layers.after d.happenings start in
    let r = loses_joint Dce d.world (turned v) l.dce l.dte l.down l.up (turned_joint Dte d.world v l.dte l.dce l.up l.down d.joint) in
    record { world = r.0; happenings = d.happenings; joint = turned_joint Dce r.0 (turned v) l.dce l.dte l.down (drop 1 l.up) r.1 }

pub all_lead : (start : layers.Line) (events : List Event) (l : Line) → AreFit events → Leads start l → Leads start (after events l)
all_lead start [] l fits d = d
all_lead start (event ∷ events) l fits d = all_lead start events (happens event l) fits.1 (event_leads start event l fits.0 d)

-- ---- a line as it is made

abbrev its_params : (flow : Flow) (k n2 : ℕ) → (standing : Bool) → LinkParams
its_params flow k n2 standing = record { k = k; n2 = n2; info = info_of flow; standing = standing }

abbrev new_end : Role → (channels : ℕ) (flow : Flow) (k n2 : ℕ) → (standing : Bool) → PacketEnd
new_end role channels flow k n2 standing = record {
  line = line.made role (its_params flow k n2 standing);
  layer = machine.made role channels flow standing;
  timers = none_running;
  notes = [];
}

abbrev new_line : (channels : ℕ) (flow : Flow) (k n2 k' n2' : ℕ) → (standing : Bool) → Line
new_line channels flow k n2 k' n2' standing = record {
  dte = new_end Dte channels flow k n2 standing;
  dce = new_end Dce channels flow k' n2' standing;
  up = [];
  down = [];
}

turned_goes : (role : Role) (mine yours : Link) (going coming : List Octets) (x y : Side) → Goes role mine yours going coming x y → Goes (other_of role) yours mine coming going y x
turned_goes Dte mine yours going coming x y g = record { world = g.world; stands = g.stands; mine_is = g.yours_is; yours_is = g.mine_is }
turned_goes Dce mine yours going coming x y g = record { world = g.world; stands = g.stands; mine_is = g.yours_is; yours_is = g.mine_is }

pub new_joint : (channels : ℕ) (flow : Flow) (k n2 k' n2' : ℕ) (standing : Bool) → k ≤ 7 → k' ≤ 7 → channels ≤ 32 →
    (w : World) × Joint (new_line channels flow k n2 k' n2' standing) w (start_line channels flow standing)
new_joint channels flow k n2 k' n2' true small small' few = (
  opening true (its_params flow k n2 true) (its_params flow k' n2' true),
  record {
    stands = stands_opening true (its_params flow k n2 true) (its_params flow k' n2' true) small small' refl;
    mine = record { session = refl; offered = λ s. tt; accepted = λ s. refl; layer = refl };
    yours = record { session = refl; offered = λ s. tt; accepted = λ s. refl; layer = refl };
    readable_here = readable_made Dte channels flow true few;
    readable_there = readable_made Dce channels flow true few;
    same_flow = refl;
    info = refl;
  },
)
new_joint channels flow k n2 k' n2' false small small' few =
    let dte : Link = link.new Dte (its_params flow k n2 false) in
    let dce : Link = link.new Dce (its_params flow k' n2' false) in
    let w : World = opening false (its_params flow k n2 false) (its_params flow k' n2' false) in
    let x : Side = side Dte w (link.relink dte).link in
    let y : Side = side Dce w (link.relink dce).link in
    let a : Goes Dte dte dce [] [] (side Dte w dte) (side Dce w dce) = record { world = w; stands = stands_opening false (its_params flow k n2 false) (its_params flow k' n2' false) small small' refl; mine_is = refl; yours_is = refl } in
    let b = did_goes Dte (untouched Dte (its_params flow k n2 false)) (link.relink dte) dce [] [] x (side Dce w dce) refl (goes_relink dte dce [] [] (side Dte w dte) (side Dce w dce) Dte a) in
    let up : List Octets = (line.made Dte (its_params flow k n2 false)).frames in
    let c = turned_goes Dte (link.relink dte).link dce up [] x (side Dce w dce) b in
    let d = did_goes Dce (untouched Dce (its_params flow k' n2' false)) (link.relink dce) (link.relink dte).link [] up y x refl (goes_relink dce (link.relink dte).link [] up (side Dce w dce) x Dce c) in
    let g = turned_goes Dce (link.relink dce).link (link.relink dte).link (line.made Dce (its_params flow k' n2' false)).frames up y x d in (
      g.world,
      record {
        stands = g.stands;
        mine = subst (λ (s : Side). Follows s (machine.made Dte channels flow false) (start_line channels flow false).me) (sym g.mine_is)
            (record { session = refl; offered = λ s. tt; accepted = λ s. refl; layer = refl });
        yours = subst (λ (s : Side). Follows s (machine.made Dce channels flow false) (start_line channels flow false).you) (sym g.yours_is)
            (record { session = refl; offered = λ s. tt; accepted = λ s. refl; layer = refl });
        readable_here = readable_made Dte channels flow false few;
        readable_there = readable_made Dce channels flow false few;
        same_flow = refl;
        info = refl;
      },
    )

-- ---- the law

pub line_ends_hold : LineEndsLaw
line_ends_hold dte dce are are' alike events fits =
    let start : layers.Line = start_line dte.channels dte.flow dte.standing in
    let n = new_joint dte.channels dte.flow dte.k dte.n2 dce.k dce.n2 dte.standing are.link.k_most are'.link.k_most are.layer.channels_most in
    let j : Joint (made dte dce) n.0 start =
    subst (λ (e : PacketEnd). Joint (record (made dte dce) { dce = e }) n.0 start)
    (λ i. new_end Dce (sym alike.channels i) (sym alike.flow i) dce.k dce.n2 (sym alike.standing i)) n.1 in
    let d = all_lead start events (made dte dce) fits (record { world = n.0; happenings = []; joint = j }) in
    let h = line_holds dte.channels dte.flow dte.standing are.layer.channels_least (window_below _ are.layer.flow_is) d.happenings in
    record {
      world = d.world;
      happenings = d.happenings;
      joint = d.joint;
      holds = h.0;
      no_fault_at_dte = h.1;
      no_fault_at_dce = h.2;
    }
