-- What the layer of an end is told, and the events of two layers that this is.
use Rattle.std.specs.Prelude.{◌≡◌, ℕ, ◌≤◌, Bool, true, false, List, [], ◌∷◌, ◌++◌, length, slice_get, Option, Some, None}
use Rattle.std.proofs.Common.{refl, sym, ap, ◌∙◌, subst}
use Rattle.std.proofs.lemmas.List.{append-nil}
use Rattle.packet_layer.specs.LayerTimers.{LayerTimers}
use Rattle.lapb.specs.declared.note.Note as link_note
use Rattle.lapb.specs.declared.note.Note.TheVariants.{Up, Down}
use Rattle.lapb.specs.Machine.{Octets}
use Rattle.lapb.specs.World.{logged, emptied}
use Rattle.data_transfer.specs.declared.flow.Flow.{Flow}
use Rattle.data_transfer.specs.Packets.{CallParts, Note}
use Rattle.data_transfer.specs.Packets.Received.{Whole}
use Rattle.packet_channel.specs.Channel.{Request}
use Rattle.data_transfer.specs.Octets.{heard}
use Rattle.packet_layer.specs.Events.{on_octets, after_hearing, on_named}
use Rattle.packet_layer.specs.Layer.{Layer, Timer, unread, link_up, link_down, on_packet, on_timer, call, request, channel_given}
use Rattle.packet_laws.specs.History.{call_history, request_history, timer_history}
use Rattle.packet_laws.specs.LayerLine.{Line, Event, happens, begun, next_of_session}
use Rattle.packet_laws.specs.Readable.{IsReadable, CanBePlaced}
use Rattle.packet_laws.proofs.Readable.{readable_link_up, readable_link_down, readable_on_octets, readable_on_timer, readable_call, readable_request}
use Rattle.packet_end.specs.PacketEnd.{PacketEnd, gathered, heeded, after_packet, called, asked}
use Rattle.node_laws.specs.Lines.Joint.{Side, Follows, session_now}
use Rattle.node_laws.specs.Lines.Events.{note_events, packet_events, timer_events, after_here, cleared, notes_of}
use Rattle.node_laws.specs.Lines.Steps.{session_after, Rise}
use Rattle.node_laws.proofs.Lines.Flows.{octets_flow, timer_flow, call_flow, request_flow}
use Rattle.node_laws.proofs.Lines.Layers.{heard_at, follows_down, follows_up, up_happens, follows_arrives, arrives_happens, follows_told, call_follows, request_follows, timer_follows, call_silent, request_silent}
use Rattle.node_laws.proofs.Lines.Links.{Takes, enters, leaves, stays, takes}

-- an end `e` with side `x` became `after`, with side `y` and layer `m` of the other end, by these events at two layers
pub record Told (x next y : Side) (m : Layer) (e after : PacketEnd) (v : Line) (events : List Event) : Type 0 where
  pub mine : Follows next after.layer (after_here events v).me
  pub yours : Follows y m (after_here events v).you
  pub readable : IsReadable after.layer
  pub flow : after.layer.flow ≡ e.layer.flow
  pub notes : after.notes ≡ e.notes ++ notes_of events v
  pub line : after.line ≡ e.line
  pub rises : Rise events x.session y.session
  pub session : next.session ≡ session_after events x.session

module _ (x y : Side) (m : Layer) (e : PacketEnd) (v : Line) (f : Follows x e.layer v.me) (g : Follows y m v.you) (r : IsReadable e.layer) (same : m.flow ≡ e.layer.flow) where
  pub told_nothing : Told x x y m e e v []
  told_nothing = record { mine = f; yours = g; readable = r; flow = refl; notes = sym (append-nil e.notes); line = refl; rises = tt; session = refl }

  one_note : (notes given : List Note) → notes ≡ given → e.notes ++ notes ≡ e.notes ++ (given ++ [])
  one_note notes given s = ap (λ (z : List Note). e.notes ++ z) (s ∙ sym (append-nil given))

  no_note : (given : List Note) → given ≡ [] → e.notes ≡ e.notes ++ (given ++ [])
  no_note given s = sym (append-nil e.notes) ∙ one_note [] given (sym s)

  -- ---- by the link

  pub told_up : (n : ℕ) → 1 ≤ n → x.session ≤ n → x.accepted n ≡ [] → y.accepted n ≡ [] →
      Told x (record x { up = true; session = n; offered = emptied true x.offered n }) y m e (heeded Up e) v (Event.Up n ∷ [])
  told_up n some rises none none' =
      let mine_none : v.me.accepted n ≡ 0 = f.accepted n ∙ ap (λ (q : List Octets). length q) none in
      let yours_none : v.you.accepted n ≡ 0 = g.accepted n ∙ ap (λ (q : List Octets). length q) none' in
      let is : happens (Event.Up n) v ≡ record v { me = begun n v.me } = up_happens v n some mine_none yours_none in
      let clear : happens (Event.Up n) (cleared v) ≡ record (cleared v) { me = begun n (cleared v).me } = up_happens (cleared v) n some mine_none yours_none in
      record {
        mine = subst (λ (u : Line). Follows (record x { up = true; session = n; offered = emptied true x.offered n }) (unread (link_up e.layer)) u.me) (sym is) (follows_up x e.layer v.me n f);
        yours = subst (λ (u : Line). Follows y m u.you) (sym is) g;
        readable = readable_link_up e.layer r;
        flow = refl;
        notes = one_note (link_up e.layer).notes (happens (Event.Up n) (cleared v)).me.layer.notes
            (sym (ap (λ (u : Line). u.me.layer.notes) clear ∙ ap (λ (q : Layer). (link_up q).notes) f.layer));
        line = refl;
        rises = (some, rises, tt);
        session = refl;
      }

  pub told_down : Told x (record x { up = false }) y m e (heeded Down e) v (Event.Down ∷ [])
  told_down = record {
    mine = follows_down x e.layer v.me f;
    yours = g;
    readable = readable_link_down e.layer r;
    flow = refl;
    notes = one_note (link_down e.layer).notes (link_down v.me.layer).notes (sym (ap (λ (q : Layer). (link_down q).notes) f.layer));
    line = refl;
    rises = tt;
    session = refl;
  }

  pub told_packet : (octets : Octets) → x.up ≡ true → y.session ≤ x.session →
      slice_get (y.offered x.session) (length (x.accepted x.session)) ≡ Some octets →
      Told x (record x { accepted = logged x.accepted x.session (Some octets) }) y m e (after_packet (Some octets) e) v (Event.Arrives ∷ [])
  told_packet octets up before next =
      let h = heard_at m.flow (y.offered x.session) (v.you.offered x.session) (length (x.accepted x.session)) octets (g.offered x.session) next in
      let is_heard : heard e.layer.flow octets ≡ Some (Whole h.0) = ap (λ (flow : Flow). heard flow octets) (sym same) ∙ h.2 in
      let session : v.me.session ≡ Some x.session = f.session ∙ ap (λ (b : Bool). session_now b x.session) up in
      let first : next_of_session v x.session ≡ Some h.0 = ap (λ (k : ℕ). slice_get (v.you.offered x.session) k) (f.accepted x.session) ∙ h.1 in
      let is = arrives_happens v x.session h.0 session first in
      let clear = arrives_happens (cleared v) x.session h.0 session first in
      record {
        mine = subst (λ (u : Line). Follows (record x { accepted = logged x.accepted x.session (Some octets) }) (unread (on_octets e.layer octets)) u.me) (sym is)
            (follows_arrives x e.layer v.me x.session octets h.0 f is_heard);
        yours = subst (λ (u : Line). Follows y m u.you) (sym is) g;
        readable = readable_on_octets e.layer octets r;
        flow = octets_flow e.layer octets;
        notes = one_note (on_octets e.layer octets).notes (happens Event.Arrives (cleared v)).me.layer.notes
            (sym (ap (λ (u : Line). u.me.layer.notes) clear
            ∙ ap (λ (q : Layer). (on_packet q (Whole h.0)).notes) f.layer
            ∙ ap (λ z. (after_hearing (unread e.layer) z).notes) (sym is_heard)));
        line = refl;
        rises = (before, tt);
        session = refl;
      }

  pub told_note : (note : link_note.Note) (n : ℕ) (next : Side) → Takes note None n x next y → Told x next y m e (heeded note e) v (note_events n note)
  told_note note n next (enters is none some rises z z' to) =
      let P : link_note.Note → Type 0 = λ q. Told x next y m e (heeded q e) v (note_events n q) in
      subst P (sym is) (subst (λ (s : Side). Told x s y m e (heeded Up e) v (Event.Up n ∷ [])) (sym to) (told_up n some rises z z'))
  told_note note n next (leaves is none to) =
      let P : link_note.Note → Type 0 = λ q. Told x next y m e (heeded q e) v (note_events n q) in
      subst P (sym is) (subst (λ (s : Side). Told x s y m e (heeded Down e) v (Event.Down ∷ [])) (sym to) told_down)
  told_note note n next (stays is none to) =
      let P : link_note.Note → Type 0 = λ q. Told x next y m e (heeded q e) v (note_events n q) in
      subst P (sym is) (subst (λ (s : Side). Told x s y m e e v []) (sym to) told_nothing)
  told_note note n next (takes packet is some up before first to) = absurd (cc)

  pub told_step : (note : link_note.Note) (accepted : Option Octets) (n : ℕ) (next : Side) → Takes note accepted n x next y →
      Told x next y m e (after_packet accepted (heeded note e)) v (note_events n note ++ packet_events accepted)
  told_step note accepted n next (enters is none some rises z z' to) =
      let P : link_note.Note → Type 0 = λ q. Told x next y m e (after_packet accepted (heeded q e)) v (note_events n q ++ packet_events accepted) in
      let Q : Option Octets → Type 0 = λ o. Told x next y m e (after_packet o (heeded Up e)) v (Event.Up n ∷ packet_events o) in
      subst P (sym is) (subst Q (sym none) (subst (λ (s : Side). Told x s y m e (heeded Up e) v (Event.Up n ∷ [])) (sym to) (told_up n some rises z z')))
  told_step note accepted n next (leaves is none to) =
      let P : link_note.Note → Type 0 = λ q. Told x next y m e (after_packet accepted (heeded q e)) v (note_events n q ++ packet_events accepted) in
      let Q : Option Octets → Type 0 = λ o. Told x next y m e (after_packet o (heeded Down e)) v (Event.Down ∷ packet_events o) in
      subst P (sym is) (subst Q (sym none) (subst (λ (s : Side). Told x s y m e (heeded Down e) v (Event.Down ∷ [])) (sym to) told_down))
  told_step note accepted n next (stays is none to) =
      let P : link_note.Note → Type 0 = λ q. Told x next y m e (after_packet accepted (heeded q e)) v (note_events n q ++ packet_events accepted) in
      let Q : Option Octets → Type 0 = λ o. Told x next y m e (after_packet o e) v (packet_events o) in
      subst P (sym is) (subst Q (sym none) (subst (λ (s : Side). Told x s y m e e v []) (sym to) told_nothing))
  told_step note accepted n next (takes packet is some up before first to) =
      let P : link_note.Note → Type 0 = λ q. Told x next y m e (after_packet accepted (heeded q e)) v (note_events n q ++ packet_events accepted) in
      let Q : Option Octets → Type 0 = λ o. Told x next y m e (after_packet o e) v (packet_events o) in
      subst P (sym is) (subst Q (sym some) (subst (λ (s : Side). Told x s y m e (after_packet (Some packet) e) v (Event.Arrives ∷ [])) (sym to) (told_packet packet up before first)))

  -- ---- by a timer, by the user

  pub told_timer : (timers : LayerTimers) (t : Option Timer) → Told x x y m e (gathered (record e { timers = timers; layer = on_named e.layer t })) v (timer_events t)
  told_timer timers None = record {
    mine = record { session = f.session; offered = f.offered; accepted = f.accepted; layer = ap (λ (q : Layer). unread q) f.layer };
    yours = g;
    readable = r;
    flow = refl;
    notes = ap (λ (z : List Note). e.notes ++ z) (sym (ap (λ (q : Layer). q.notes) f.layer));
    line = refl;
    rises = tt;
    session = refl;
  }
  told_timer timers (Some t) = record {
    mine = follows_told x e.layer (on_timer v.me.layer t) (unread (on_timer e.layer t)) v.me (λ d st. timer_history v.me.layer t d st) f (timer_flow e.layer t) (timer_follows e.layer v.me t f.layer);
    yours = g;
    readable = readable_on_timer e.layer t r;
    flow = timer_flow e.layer t;
    notes = one_note (on_timer e.layer t).notes (on_timer (unread v.me.layer) t).notes (sym (ap (λ (q : Layer). (on_timer q t).notes) f.layer));
    line = refl;
    rises = tt;
    session = refl;
  }

  pub told_call : (parts : CallParts) → CanBePlaced parts → Told x x y m e (called e parts) v (Event.Calls parts ∷ [])
  told_call parts fits = record {
    mine = follows_told x e.layer (call v.me.layer parts) (call e.layer parts) v.me (λ d st. call_history parts (channel_given v.me.layer v.me.layer.phase) d st) f (call_flow e.layer parts)
        (call_follows e.layer v.me parts f.layer);
    yours = g;
    readable = readable_call e.layer parts fits r;
    flow = call_flow e.layer parts;
    notes = no_note (call (unread v.me.layer) parts).notes (call_silent v.me parts);
    line = refl;
    rises = tt;
    session = refl;
  }

  pub told_request : (channel : ℕ) (q : Request) → Told x x y m e (asked e channel q) v (Event.Requests channel q ∷ [])
  told_request channel q = record {
    mine = follows_told x e.layer (request v.me.layer channel q) (request e.layer channel q) v.me (λ d st. request_history v.me.layer channel q d st) f (request_flow e.layer channel q)
        (request_follows e.layer v.me channel q f.layer);
    yours = g;
    readable = readable_request e.layer channel q r;
    flow = request_flow e.layer channel q;
    notes = no_note (request (unread v.me.layer) channel q).notes (request_silent v.me channel q);
    line = refl;
    rises = tt;
    session = refl;
  }
