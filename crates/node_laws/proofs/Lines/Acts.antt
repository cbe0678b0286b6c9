-- Each act at an end of a line is some events of its links and some of its two layers, in step.
use Rattle.std.specs.Prelude.{◌≡◌, ℕ, Bool, true, false, cond, List, [], ◌∷◌, ◌++◌, map, None}
use Rattle.std.proofs.Common.{refl, sym, ap, ◌∙◌, subst}
use Rattle.std.proofs.lemmas.List.{append-nil}
use Rattle.link_timers.specs.declared.role.Role.{Role}
use Rattle.link_timers.specs.declared.timers.TimerId.{TimerId}
use Rattle.link_timers.specs.declared.timers.TimerId.TheVariants as timer
use Rattle.packet_layer.specs.LayerTimers.{stopped_by_name}
use Rattle.link_timers.specs.Role.{other_of}
use Rattle.frame_codec.specs.Spelling.{spelling}
use Rattle.lapb.specs.Machine as link
use Rattle.lapb.specs.Machine.{Octets, Link}
use Rattle.lapb.specs.World.{World}
use Rattle.lapb.specs.Octets as link_octets
use Rattle.lapb.specs.LinkLine.{chosen}
use Rattle.lapb.proofs.Rising.{tells_on_t1, plain_on_t1}
use Rattle.line_end.specs.End.{End, did, without_frames, untouched}
use Rattle.line_end.specs.End as line
use Rattle.data_transfer.specs.Packets.{CallParts, Note}
use Rattle.packet_channel.specs.Channel.{Request}
use Rattle.packet_layer.specs.Layer.{Layer}
use Rattle.packet_layer.specs.Events.{timer_named}
use Rattle.packet_laws.specs.LayerLine as layers
use Rattle.packet_laws.specs.LayerLine.{Event}
use Rattle.packet_laws.specs.Readable.{IsReadable, CanBePlaced}
use Rattle.packet_laws.proofs.Readable.{readable_link_down}
use Rattle.packet_end.specs.Params.{info_of}
use Rattle.packet_end.specs.PacketEnd as end
use Rattle.packet_end.specs.PacketEnd.{PacketEnd, gathered, runs_at}
use Rattle.node_laws.specs.Lines.NodeLine.{Begins, Hears, Expires, Relinks, RelinksIfDue, Restarts, Calls, Requests, Settles, Elapses, Sends}
use Rattle.node_laws.specs.Lines.Events.{frame_events, expiry_events, timer_events, after_here, notes_of}
use Rattle.node_laws.specs.Lines.Joint.{Side, side, session_of, coming_session, Follows, JointAt}
use Rattle.node_laws.specs.Lines.Steps.{session_after, Rise, Step}
use Rattle.node_laws.proofs.Lines.Links.{Goes, at_link, role_of, goes_thin, goes_none, goes_behind, goes_t1, goes_relink, goes_settle, goes_restart, goes_frame, relink_not_up, settle_as_up, plain_takes}
use Rattle.node_laws.proofs.Lines.LayerEvents.{Told, told_nothing, told_down, told_note, told_step, told_timer, told_call, told_request}

-- ---- a step of the link, whose frames wait behind those that waited

pub did_goes : (role : Role) (e : End) (step : link.Step) (yours : Link) (going coming : List Octets) (x y : Side) → e.link.role ≡ role →
    Goes role step.link yours ((going ++ e.frames) ++ map (spelling role) step.frames) coming x y →
    Goes role (did e step).link yours (going ++ (did e step).frames) coming x y
did_goes role e step yours going coming x y is g =
    goes_behind role step.link yours going e.frames (map (spelling e.link.role) step.frames) coming x y
    (subst (λ (r : Role). Goes role step.link yours ((going ++ e.frames) ++ map (spelling r) step.frames) coming x y) (sym is) g)

-- ---- what an act comes to: `x` and `y` were the sides of the two ends

pub record Result (role : Role) (v : layers.Line) (me you : PacketEnd) (going coming : List Octets) (events : List Event) (mine yours : ℕ) : Type 0 where
  pub world : World
  pub joint : JointAt role world (after_here events v) me you going coming
  pub rises : Rise events mine yours
  pub mine_is : session_of role world ≡ session_after events mine
  pub yours_is : session_of (other_of role) world ≡ yours

pub result_of : (role : Role) (v : layers.Line) (e me you : PacketEnd) (going coming : List Octets) (events : List Event) (x next y : Side) →
    Told x next y you.layer e me v events → IsReadable you.layer → you.layer.flow ≡ e.layer.flow → you.line.link.info ≡ info_of you.layer.flow →
    Goes role me.line.link you.line.link (going ++ me.line.frames) (coming ++ you.line.frames) next y →
    Result role v me you going coming events x.session y.session
result_of role v e me you going coming events x next y t readable same info g = record {
  world = g.world;
  joint = record {
    stands = g.stands;
    mine = subst (λ (s : Side). Follows s me.layer (after_here events v).me) (sym g.mine_is) t.mine;
    yours = subst (λ (s : Side). Follows s you.layer (after_here events v).you) (sym g.yours_is) t.yours;
    readable_here = t.readable;
    readable_there = readable;
    same_flow = same ∙ sym t.flow;
    info = info;
  };
  rises = t.rises;
  mine_is = ap (λ (s : Side). s.session) g.mine_is ∙ t.session;
  yours_is = ap (λ (s : Side). s.session) g.yours_is;
}

abbrev at_line : Role → End → Link → (going coming : List Octets) → Side → Side → Type 0
at_line role e yours going coming x y = Goes role e.link yours (going ++ e.frames) coming x y

module _ (role : Role) (w : World) (v : layers.Line) (me you : PacketEnd) (going coming : List Octets) (j : JointAt role w v me you going coming) where
  abbrev here_side : Side
  here_side = side role w me.line.link

  abbrev there_side : Side
  there_side = side (other_of role) w you.line.link

  here : Goes role me.line.link you.line.link (going ++ me.line.frames) (coming ++ you.line.frames) here_side there_side
  here = record { world = w; stands = j.stands; mine_is = refl; yours_is = refl }

  role_is : me.line.link.role ≡ role
  role_is = role_of role w me.line.link you.line.link (going ++ me.line.frames) (coming ++ you.line.frames) j.stands

  -- nothing happens to the layer
  nothing_told : (e : PacketEnd) → e.layer ≡ me.layer → Told here_side here_side there_side you.layer e e v []
  nothing_told e is =
      told_nothing here_side there_side you.layer e v
      (subst (λ (l : Layer). Follows here_side l v.me) (sym is) j.mine) j.yours (subst (λ (l : Layer). IsReadable l) (sym is) j.readable_here)
      (subst (λ (l : Layer). you.layer.flow ≡ l.flow) (sym is) j.same_flow)

  quiet : (e : PacketEnd) (out in_ : List Octets) → e.layer ≡ me.layer → at_line role e.line you.line.link out (in_ ++ you.line.frames) here_side there_side →
      Result role v e you out in_ [] (session_of role w) (session_of (other_of role) w)
  quiet e out in_ is g = result_of role v e e you out in_ [] here_side here_side there_side (nothing_told e is) j.readable_there (subst (λ (l : Layer). you.layer.flow ≡ l.flow) (sym is) j.same_flow) j.info g

  pub step_begins : Step role Begins w v me you going coming
  step_begins =
      let r = quiet (end.begun me) going coming refl (goes_none role me.line.link you.line.link going me.line.frames (coming ++ you.line.frames) here_side there_side here) in
      record { world = r.world; joint = r.joint; notes = refl; rises = r.rises; mine = r.mine_is; yours = r.yours_is }

  pub step_sends : (kept : List Bool) → Step role (Sends kept) w v me you going coming
  step_sends kept =
      let g = goes_thin role me.line.link you.line.link going me.line.frames (coming ++ you.line.frames) here_side there_side kept here in
      let h = subst (λ (q : List Octets). Goes role me.line.link you.line.link q (coming ++ you.line.frames) here_side there_side) (sym (append-nil (going ++ chosen kept me.line.frames))) g in
      let r = quiet (record me { line = without_frames me.line }) (going ++ chosen kept me.line.frames) coming refl h in
      record { world = r.world; joint = r.joint; notes = sym (append-nil me.notes); rises = r.rises; mine = r.mine_is; yours = r.yours_is }

  pub step_elapses : (ticks : ℕ) → Step role (Elapses ticks) w v me you going coming
  step_elapses ticks =
      let r = quiet (end.elapsed me ticks) going coming refl here in
      record { world = r.world; joint = r.joint; notes = sym (append-nil me.notes); rises = r.rises; mine = r.mine_is; yours = r.yours_is }

  pub step_settles : Step role Settles w v me you going coming
  step_settles =
      let g = goes_settle me.line.link you.line.link (going ++ me.line.frames) (coming ++ you.line.frames) here_side there_side role here in
      let same : at_link here_side (link.settle me.line.link).link ≡ here_side = ap (λ (b : Bool). record here_side { up = b }) (settle_as_up me.line.link) in
      let d = did_goes role me.line (link.settle me.line.link) you.line.link going (coming ++ you.line.frames) (at_link here_side (link.settle me.line.link).link) there_side role_is g in
      let s = subst (λ (z : Side). Goes role (did me.line (link.settle me.line.link)).link you.line.link (going ++ (did me.line (link.settle me.line.link)).frames) (coming ++ you.line.frames) z there_side) same d in
      let r = quiet (end.settled me) going coming refl s in
      record { world = r.world; joint = r.joint; notes = sym (append-nil me.notes); rises = r.rises; mine = r.mine_is; yours = r.yours_is }

  -- ---- the user's calls

  pub step_calls : (parts : CallParts) → CanBePlaced parts → Step role (Calls parts) w v me you going coming
  step_calls parts fits =
      let t = told_call here_side there_side you.layer me v j.mine j.yours j.readable_here j.same_flow parts fits in
      let r = result_of role v me (end.called me parts) you going coming (Event.Calls parts ∷ []) here_side here_side there_side t j.readable_there j.same_flow j.info here in
      record { world = r.world; joint = r.joint; notes = t.notes; rises = r.rises; mine = r.mine_is; yours = r.yours_is }

  pub step_requests : (channel : ℕ) (q : Request) → Step role (Requests channel q) w v me you going coming
  step_requests channel q =
      let t = told_request here_side there_side you.layer me v j.mine j.yours j.readable_here j.same_flow channel q in
      let r = result_of role v me (end.asked me channel q) you going coming (Event.Requests channel q ∷ []) here_side here_side there_side t j.readable_there j.same_flow j.info here in
      record { world = r.world; joint = r.joint; notes = t.notes; rises = r.rises; mine = r.mine_is; yours = r.yours_is }

  -- ---- the link is set up anew

  relink_goes : at_line role (line.relinked me.line) you.line.link going (coming ++ you.line.frames) (record here_side { up = false }) there_side
  relink_goes =
      let g = goes_relink me.line.link you.line.link (going ++ me.line.frames) (coming ++ you.line.frames) here_side there_side role here in
      let d = did_goes role me.line (link.relink me.line.link) you.line.link going (coming ++ you.line.frames) (at_link here_side (link.relink me.line.link).link) there_side role_is g in
      subst (λ (b : Bool). at_line role (line.relinked me.line) you.line.link going (coming ++ you.line.frames) (record here_side { up = b }) there_side) (relink_not_up me.line.link) d

  pub step_relinks : Step role Relinks w v me you going coming
  step_relinks =
      let t = told_down here_side there_side you.layer (record me { line = line.relinked me.line }) v j.mine j.yours j.readable_here j.same_flow in
      let r = result_of role v (record me { line = line.relinked me.line }) (end.relinked me) you going coming (Event.Down ∷ []) here_side (record here_side { up = false }) there_side t j.readable_there j.same_flow j.info relink_goes in
      record { world = r.world; joint = r.joint; notes = t.notes; rises = r.rises; mine = r.mine_is; yours = r.yours_is }

  -- an act that may do nothing
  record Either (e : PacketEnd) (events : List Event) : Type 0 where
    world : World
    joint : JointAt role world (after_here events v) e you going coming
    notes : e.notes ≡ me.notes ++ notes_of events v
    rises : Rise events (session_of role w) (session_of (other_of role) w)
    mine : session_of role world ≡ session_after events (session_of role w)
    yours : session_of (other_of role) world ≡ session_of (other_of role) w

  unchanged : Either me []
  unchanged = record { world = w; joint = j; notes = sym (append-nil me.notes); rises = tt; mine = refl; yours = refl }

  either : (b : Bool) (e : PacketEnd) (events : List Event) → Either e events → Either (cond b e me) (cond b events [])
  either true e events h = h
  either false e events h = unchanged

  pub step_relinks_if_due : Step role RelinksIfDue w v me you going coming
  step_relinks_if_due =
      let s = step_relinks in
      let r = either me.layer.relink (end.relinked me) (Event.Down ∷ []) (record { world = s.world; joint = s.joint; notes = s.notes; rises = s.rises; mine = s.mine; yours = s.yours }) in
      record { world = r.world; joint = r.joint; notes = r.notes; rises = r.rises; mine = r.mine; yours = r.yours }

  -- ---- a timer expires

  either_told : (next : Side) (e before : PacketEnd) (events : List Event) → before.notes ≡ me.notes → you.layer.flow ≡ before.layer.flow → Told here_side next there_side you.layer before e v events →
      at_line role e.line you.line.link going (coming ++ you.line.frames) next there_side → Either e events
  either_told next e before events is same t g =
      let r = result_of role v before e you going coming events here_side next there_side t j.readable_there same j.info g in
      record { world = r.world; joint = r.joint; notes = t.notes ∙ ap (λ (z : List Note). z ++ notes_of events v) is; rises = r.rises; mine = r.mine_is; yours = r.yours_is }

  t1_expires : Either (end.expired timer.T1 me) (expiry_events (coming_session role w) timer.T1 me)
  t1_expires =
      let step : link.Step = link.on_t1 me.line.link in
      let before : PacketEnd = record me { line = line.expired me.line } in
      let g = goes_t1 me.line.link you.line.link (going ++ me.line.frames) (coming ++ you.line.frames) here_side there_side role here in
      let d = did_goes role (record me.line { t1 = None }) step you.line.link going (coming ++ you.line.frames) (at_link here_side step.link) there_side role_is g in
      let t = told_note here_side there_side you.layer before v j.mine j.yours j.readable_here j.same_flow step.note (coming_session role w) (at_link here_side step.link)
      (plain_takes me.line.link step (coming_session role w) here_side there_side refl (tells_on_t1 me.line.link) (plain_on_t1 me.line.link)) in
      either_told (at_link here_side step.link) (end.expired timer.T1 me) before (expiry_events (coming_session role w) timer.T1 me) refl j.same_flow t
      (subst (λ (q : End). at_line role q you.line.link going (coming ++ you.line.frames) (at_link here_side step.link) there_side) (sym t.line) d)

  named_expires : (id : TimerId) → Either (gathered (record me { timers = stopped_by_name me.timers (timer_named me.layer.role id); layer = Rattle.packet_layer.specs.Events.on_named me.layer (timer_named me.layer.role id) })) (timer_events (timer_named me.layer.role id))
  named_expires id =
      either_told here_side (gathered (record me { timers = stopped_by_name me.timers (timer_named me.layer.role id); layer = Rattle.packet_layer.specs.Events.on_named me.layer (timer_named me.layer.role id) })) me (timer_events (timer_named me.layer.role id)) refl j.same_flow
      (told_timer here_side there_side you.layer me v j.mine j.yours j.readable_here j.same_flow (stopped_by_name me.timers (timer_named me.layer.role id)) (timer_named me.layer.role id)) here

  any_expires : (id : TimerId) → Either (end.expired id me) (expiry_events (coming_session role w) id me)
  any_expires timer.T1 = t1_expires
  any_expires timer.T10 = named_expires timer.T10
  any_expires timer.T20 = named_expires timer.T20
  any_expires (timer.T11 c) = named_expires (timer.T11 c)
  any_expires (timer.T12 c) = named_expires (timer.T12 c)
  any_expires (timer.T13 c) = named_expires (timer.T13 c)
  any_expires (timer.T21 c) = named_expires (timer.T21 c)
  any_expires (timer.T22 c) = named_expires (timer.T22 c)
  any_expires (timer.T23 c) = named_expires (timer.T23 c)
  any_expires (timer.Idle c) = named_expires (timer.Idle c)

  pub step_expires : (id : TimerId) → Step role (Expires id) w v me you going coming
  step_expires id =
      let r = either (runs_at me id) (end.expired id me) (expiry_events (coming_session role w) id me) (any_expires id) in
      record { world = r.world; joint = r.joint; notes = r.notes; rises = r.rises; mine = r.mine; yours = r.yours }

  -- ---- the node restarts

  pub step_restarts : Step role Restarts w v me you going coming
  step_restarts =
      let fresh : End = untouched me.line.link.role (link.params_anew me.line.link) in
      let a = goes_restart me.line.link you.line.link (going ++ me.line.frames) (coming ++ you.line.frames) here_side there_side role here in
      let b = goes_relink fresh.link you.line.link [] [] (at_link here_side fresh.link) there_side role a in
      let d = did_goes role fresh (link.relink fresh.link) you.line.link [] [] (at_link here_side (link.relink fresh.link).link) there_side role_is b in
      let g = subst (λ (q : Bool). at_line role (line.restarted me.line) you.line.link [] [] (record here_side { up = q }) there_side) (relink_not_up fresh.link) d in
      let t = told_down here_side there_side you.layer me v j.mine j.yours j.readable_here j.same_flow in
      record {
        world = g.world;
        joint = record {
          stands = g.stands;
          mine = subst (λ (s : Side). Follows s (end.restarted me).layer (after_here (Event.Down ∷ []) v).me) (sym g.mine_is) t.mine;
          yours = subst (λ (s : Side). Follows s you.layer v.you) (sym g.yours_is) j.yours;
          readable_here = readable_link_down me.layer j.readable_here;
          readable_there = j.readable_there;
          same_flow = j.same_flow;
          info = j.info;
        };
        notes = refl;
        rises = tt;
        mine = ap (λ (s : Side). s.session) g.mine_is;
        yours = ap (λ (s : Side). s.session) g.yours_is;
      }

-- ---- a frame arrives

step_frame : (role : Role) (w : World) (v : layers.Line) (me you : PacketEnd) (going : List Octets) (octets : Octets) (coming : List Octets) → JointAt role w v me you going (octets ∷ coming) →
    Step role Hears w v me you going (octets ∷ coming)
step_frame role w v me you going octets coming j =
    let x : Side = side role w me.line.link in
    let y : Side = side (other_of role) w you.line.link in
    let step : link.Step = link_octets.on_octets me.line.link octets in
    let h = goes_frame role w me.line.link you.line.link (going ++ me.line.frames) (coming ++ you.line.frames) octets j.stands in
    let is = role_of role w me.line.link you.line.link (going ++ me.line.frames) (octets ∷ (coming ++ you.line.frames)) j.stands in
    let d = did_goes role me.line step you.line.link going (coming ++ you.line.frames) h.0 y is h.2 in
    let before : PacketEnd = record me { line = line.received me.line octets } in
    let t = told_step x y you.layer before v j.mine j.yours j.readable_here j.same_flow step.note step.accepted (coming_session role w) h.0 h.1 in
    let g = subst (λ (q : End). at_line role q you.line.link going (coming ++ you.line.frames) h.0 y) (sym t.line) d in
    let r = result_of role v before (end.received me octets) you going coming (frame_events (coming_session role w) (octets ∷ coming) me) x h.0 y t j.readable_there j.same_flow j.info g in
    record { world = r.world; joint = r.joint; notes = t.notes; rises = r.rises; mine = r.mine_is; yours = r.yours_is }

pub step_hears : (role : Role) (w : World) (v : layers.Line) (me you : PacketEnd) (going coming : List Octets) → JointAt role w v me you going coming → Step role Hears w v me you going coming
step_hears role w v me you going [] j = record { world = w; joint = j; notes = sym (append-nil me.notes); rises = tt; mine = refl; yours = refl }
step_hears role w v me you going (octets ∷ coming) j = step_frame role w v me you going octets coming j
