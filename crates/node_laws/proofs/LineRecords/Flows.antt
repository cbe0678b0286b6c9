-- Whatever happens on a line, its two packet layers keep the flow control with which they were made.
use Rattle.std.specs.Prelude.{◌≡◌, ℕ, Bool, true, false, cond, List, [], ◌∷◌, Option, Some, None}
use Rattle.std.proofs.Common.{refl, sym, ap, subst, ◌∙◌}
use Rattle.link_timers.specs.declared.role.Role.{Role}
use Rattle.link_timers.specs.declared.role.Role.TheVariants.{Dte, Dce}
use Rattle.link_timers.specs.Role.{other_of}
use Rattle.data_transfer.specs.declared.flow.Flow.{Flow}
use Rattle.data_transfer.specs.Packets.{Packet}
use Rattle.packet_layer.specs.Layer.{Layer}
use Rattle.packet_laws.specs.LayerLine as layers
use Rattle.packet_laws.specs.LayerLine.{Event, End, accepts, arrives_in, begun, happens, may_begin, next_of_session, offers, turned}
use Rattle.packet_laws.specs.LayerLine.Event.{Up, Down, Calls, Requests, Expires, Offers, Arrives}
use Rattle.packet_laws.specs.LayerLine.Happening.{Here, There}
use Rattle.packet_laws.proofs.Line.Arriving.{packet_same}
use Rattle.node_laws.specs.Lines.NodeLine.{Line}
use Rattle.node_laws.proofs.Lines.Flows.{call_flow, request_flow, timer_flow, next_flow}
use Rattle.call_records.specs.Book.{Book}
use Rattle.record_laws.specs.Books.Told.{World, Move, after_move, after_all}
use Rattle.record_laws.specs.Books.Told.Move.{Happens, Edits}
use Rattle.node_laws.specs.LineRecords.Kept.{Setting, Kept, beginning, end_at, coming_to}
use Rattle.node_laws.proofs.LineRecords.MovesFromOneEnd.{world_at}
use Rattle.node_laws.proofs.LineRecords.Views.{KeptAt, seen}

-- ---- one event at an end

begun_flow : (b : Bool) (s : ℕ) (w : layers.Line) → (cond b (record w { me = begun s w.me }) w).me.layer.flow ≡ w.me.layer.flow
begun_flow true s w = refl
begun_flow false s w = refl

begun_other : (b : Bool) (s : ℕ) (w : layers.Line) → (cond b (record w { me = begun s w.me }) w).you ≡ w.you
begun_other true s w = refl
begun_other false s w = refl

offers_flow : (o : Option ℕ) (e : End) → (offers o e).layer.flow ≡ e.layer.flow
offers_flow None e = refl
offers_flow (Some s) e = next_flow e.layer

accepts_flow : (s : ℕ) (o : Option Packet) (e : End) → (accepts s o e).layer.flow ≡ e.layer.flow
accepts_flow s None e = refl
accepts_flow s (Some p) e = (packet_same e.layer 0 p).1

arrives_flow : (o : Option ℕ) (w : layers.Line) → (arrives_in o w).me.layer.flow ≡ w.me.layer.flow
arrives_flow None w = refl
arrives_flow (Some s) w = accepts_flow s (next_of_session w s) w.me

arrives_other : (o : Option ℕ) (w : layers.Line) → (arrives_in o w).you ≡ w.you
arrives_other None w = refl
arrives_other (Some s) w = refl

event_flow : (event : Event) (w : layers.Line) → (happens event w).me.layer.flow ≡ w.me.layer.flow
event_flow (Up s) w = begun_flow (may_begin s w) s w
event_flow Down w = refl
event_flow (Calls parts) w = call_flow w.me.layer parts
event_flow (Requests c r) w = request_flow w.me.layer c r
event_flow (Expires t) w = timer_flow w.me.layer t
event_flow Offers w = offers_flow w.me.session w.me
event_flow Arrives w = arrives_flow w.me.session w

event_other : (event : Event) (w : layers.Line) → (happens event w).you ≡ w.you
event_other (Up s) w = begun_other (may_begin s w) s w
event_other Down w = refl
event_other (Calls parts) w = refl
event_other (Requests c r) w = refl
event_other (Expires t) w = refl
event_other Offers w = refl
event_other Arrives w = arrives_other w.me.session w

-- ---- any moves

record HaveFlow (flow : Flow) (v : World) : Type 0 where
  me : v.line.me.layer.flow ≡ flow
  you : v.line.you.layer.flow ≡ flow

move_flow : (flow : Flow) (m : Move) (v : World) → HaveFlow flow v → HaveFlow flow (after_move m v)
move_flow flow (Happens (Here event)) v h = record {
  me = event_flow event v.line ∙ h.me;
  you = ap (λ (e : End). e.layer.flow) (event_other event v.line) ∙ h.you;
}
move_flow flow (Happens (There event)) v h = record {
  me = ap (λ (e : End). e.layer.flow) (event_other event (turned v.line)) ∙ h.me;
  you = event_flow event (turned v.line) ∙ h.you;
}
move_flow flow (Edits role channel step) v h = record { me = h.me; you = h.you }

moves_flow : (flow : Flow) (ms : List Move) (v : World) → HaveFlow flow v → HaveFlow flow (after_all ms v)
moves_flow flow [] v h = h
moves_flow flow (m ∷ ms) v h = moves_flow flow ms (after_move m v) (move_flow flow m v h)

-- ---- what is kept of a line

flow_at : (role : Role) (flow : Flow) (v : layers.Line) (b : Book) (mine yours : ℕ) → HaveFlow flow (world_at role v b mine yours) → v.me.layer.flow ≡ flow
flow_at Dte flow v b mine yours h = h.me
flow_at Dce flow v b mine yours h = h.you

pub kept_flow : (s : Setting) (b : Book) (l : Line) (role : Role) → Kept s b l → (end_at role l).layer.flow ≡ s.dte.flow
kept_flow s b l role k =
    let a : KeptAt s b role (end_at role l) (end_at (other_of role) l) (coming_to (other_of role) l) (coming_to role l) = seen s b role l k in
    let h : HaveFlow s.dte.flow (after_all a.reaches.moves (beginning s)) = moves_flow s.dte.flow a.reaches.moves (beginning s) (record { me = refl; you = refl }) in
    ap (λ (x : Layer). x.flow) (sym a.joint.mine.layer)
    ∙ flow_at role s.dte.flow a.line b a.top_mine a.top_yours (subst (λ (v : World). HaveFlow s.dte.flow v) a.reaches.ends h)
