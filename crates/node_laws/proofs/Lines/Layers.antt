-- What each event of two packet layers makes of an end that follows a link and a layer.
use Rattle.std.specs.Prelude.{◌≡◌, ℕ, zero, suc, ◌+◌, ◌≤◌, Bool, true, false, cond, not, ◌&&◌, ◌==◌, if◌then◌else◌, List, [], ◌∷◌, ◌++◌, length, slice_get, Option, Some, None}
use Rattle.std.proofs.Common.{refl, sym, ap, ◌∙◌, subst, arith, length-append}
use Rattle.std.proofs.lemmas.Bool.{eq-eqb, ne_eqb}
use Rattle.lapb.specs.Machine.{Octets}
use Rattle.lapb.specs.World.{logged, emptied}
use Rattle.data_transfer.specs.declared.flow.Flow.{Flow}
use Rattle.data_transfer.specs.Packets.{CallParts, Packet}
use Rattle.data_transfer.specs.Packets.Received.{Whole}
use Rattle.data_transfer.specs.Octets.{heard}
use Rattle.packet_layer.specs.Events.{on_octets, after_hearing}
use Rattle.packet_channel.specs.Channel.{Request}
use Rattle.packet_laws.specs.History.{History}
use Rattle.packet_layer.specs.Layer.{Layer, Timer, unread, link_up, link_down, on_packet, on_timer, call, request, next_packet}
use Rattle.packet_laws.specs.LayerLine.{End, Line, begun, offers, accepts, arrives_in, handed_over, next_of_session, happens, with_layer, told}
use Rattle.packet_laws.specs.LayerLine.Event.{Up, Offers, Arrives}
use Rattle.node_laws.specs.Lines.Joint.{Side, AreHeard, Follows}
use Rattle.node_laws.proofs.Lines.Flows.{octets_flow, next_flow}
use Rattle.node_laws.proofs.Lines.Unread.{request_unread, call_unread, timer_unread, next_unread}

-- ---- packets heard in octets

heard_append : (flow : Flow) (os : List Octets) (ps : List Packet) (o : Octets) (p : Packet) → AreHeard flow os ps → heard flow o ≡ Some (Whole p) →
    AreHeard flow (os ++ o ∷ []) (ps ++ p ∷ [])
heard_append flow [] [] o p h e = (e, tt)
heard_append flow [] (q ∷ ps) o p h e = absurd h
heard_append flow (x ∷ os) [] o p h e = absurd h
heard_append flow (x ∷ os) (q ∷ ps) o p h e = (h.0, heard_append flow os ps o p h.1 e)

pub heard_at : (flow : Flow) (os : List Octets) (ps : List Packet) (n : ℕ) (o : Octets) → AreHeard flow os ps → slice_get os n ≡ Some o →
    (p : Packet) × (slice_get ps n ≡ Some p) × (heard flow o ≡ Some (Whole p))
heard_at flow [] ps n o h e = absurd (cc)
heard_at flow (x ∷ os) [] n o h e = absurd h
heard_at flow (x ∷ os) (p ∷ ps) zero o h e = let same : o ≡ x = cc in (p, refl, ap (λ (z : Octets). heard flow z) same ∙ h.0)
heard_at flow (x ∷ os) (p ∷ ps) (suc n) o h e = heard_at flow os ps n o h.1 e

heard_logged : (flow : Flow) (v : Bool) (os : List Octets) (ps : List Packet) (o : Octets) (p : Packet) → AreHeard flow os ps → heard flow o ≡ Some (Whole p) →
    AreHeard flow (if v then os ++ o ∷ [] else os) (cond v (ps ++ p ∷ []) ps)
heard_logged flow true os ps o p h e = heard_append flow os ps o p h e
heard_logged flow false os ps o p h e = h

heard_emptied : (flow : Flow) (v : Bool) (os : List Octets) (ps : List Packet) → AreHeard flow os ps → AreHeard flow (if true && v then [] else os) (cond v [] ps)
heard_emptied flow true os ps h = tt
heard_emptied flow false os ps h = h

count_logged : (v : Bool) (n : ℕ) (os : List Octets) (o : Octets) → n ≡ length os → cond v (n + 1) n ≡ length (if v then os ++ o ∷ [] else os)
count_logged true n os o e = ap (λ (k : ℕ). k + 1) e ∙ sym (length-append os (o ∷ []))
count_logged false n os o e = e

-- ---- the link's session begins and ends

pub follows_down : (x : Side) (l : Layer) (a : End) → Follows x l a →
    Follows (record x { up = false }) (unread (link_down l)) (record a { layer = link_down a.layer; session = None })
follows_down x l a f = record {
  session = refl;
  offered = f.offered;
  accepted = f.accepted;
  layer = ap (λ (q : Layer). unread (link_down q)) f.layer;
}

begins_now : (n p q : ℕ) → 1 ≤ n → p ≡ 0 → q ≡ 0 → (not (n == 0) && ((p == 0) && (q == 0))) ≡ true
begins_now n p q h e f =
    ap (λ (t : Bool). not t && ((p == 0) && (q == 0))) (ne_eqb n 0 (λ z. let m : ⊥ = omega arith in m))
    ∙ ap (λ (t : Bool). t && (q == 0)) (eq-eqb p 0 e)
    ∙ eq-eqb q 0 f

pub up_happens : (v : Line) (n : ℕ) → 1 ≤ n → v.me.accepted n ≡ 0 → v.you.accepted n ≡ 0 → happens (Up n) v ≡ record v { me = begun n v.me }
up_happens v n h e f = ap (λ (t : Bool). cond t (record v { me = begun n v.me }) v) (begins_now n (v.me.accepted n) (v.you.accepted n) h e f)

pub follows_up : (x : Side) (l : Layer) (a : End) (n : ℕ) → Follows x l a →
    Follows (record x { up = true; session = n; offered = emptied true x.offered n }) (unread (link_up l)) (begun n a)
follows_up x l a n f = record {
  session = refl;
  offered = λ s. heard_emptied l.flow (s == n) (x.offered s) (a.offered s) (f.offered s);
  accepted = f.accepted;
  layer = ap (λ (q : Layer). unread (link_up q)) f.layer;
}

-- ---- a packet arrives

pub arrives_happens : (v : Line) (s : ℕ) (p : Packet) → v.me.session ≡ Some s → next_of_session v s ≡ Some p →
    happens Arrives v ≡ record v { me = accepts s (Some p) v.me }
arrives_happens v s p e f = ap (λ (o : Option ℕ). arrives_in o v) e ∙ ap (λ (o : Option Packet). record v { me = accepts s o v.me }) f

pub follows_arrives : (x : Side) (l : Layer) (a : End) (s : ℕ) (o : Octets) (p : Packet) → Follows x l a → heard l.flow o ≡ Some (Whole p) →
    Follows (record x { accepted = logged x.accepted s (Some o) }) (unread (on_octets l o)) (accepts s (Some p) a)
follows_arrives x l a s o p f e = record {
  session = f.session;
  offered = λ k. subst (λ (flow : Flow). AreHeard flow (x.offered k) (a.offered k)) (sym (octets_flow l o)) (f.offered k);
  accepted = λ k. count_logged (k == s) (a.accepted k) (x.accepted k) o (f.accepted k);
  layer = ap (λ (q : Layer). unread (on_packet q (Whole p))) f.layer ∙ ap (λ r. unread (after_hearing (unread l) r)) (sym e);
}

-- ---- a packet is handed to the link

pub offers_happens : (v : Line) (s : ℕ) → v.me.session ≡ Some s → happens Offers v ≡ record v { me = offers (Some s) v.me }
offers_happens v s e = ap (λ (o : Option ℕ). record v { me = offers o v.me }) e

pub follows_offers : (x : Side) (l : Layer) (a : End) (s : ℕ) (o : Octets) (p : Packet) → Follows x l a → (next_packet l).packet ≡ Some p → heard l.flow o ≡ Some (Whole p) →
    Follows (record x { offered = logged x.offered s (Some o) }) (next_packet l).layer (offers (Some s) a)
follows_offers x l a s o p f e h = record {
  session = f.session;
  offered = λ k. subst (λ (flow : Flow). AreHeard flow (logged x.offered s (Some o) k) (handed_over s (next_packet a.layer).packet a.offered k)) (sym (next_flow l))
      (subst (λ (r : Option Packet). AreHeard l.flow (logged x.offered s (Some o) k) (handed_over s r a.offered k)) (sym packet)
      (heard_logged l.flow (k == s) (x.offered k) (a.offered k) o p (f.offered k) h));
  accepted = f.accepted;
  layer = (next_unread a.layer).0 ∙ ap (λ (q : Layer). (next_packet q).layer) f.layer;
}
  where
    packet : (next_packet a.layer).packet ≡ Some p
    packet = (next_unread a.layer).1 ∙ ap (λ (q : Layer). (next_packet q).packet) f.layer ∙ e

-- ---- calls of the user, expiries

pub follows_told : (x : Side) (l m after : Layer) (a : End) (f : ℕ → History → History) → Follows x l a → after.flow ≡ l.flow → unread m ≡ after → Follows x after (with_layer m (told f a))
follows_told x l m after a f h same e = record {
  session = h.session;
  offered = λ s. subst (λ (flow : Flow). AreHeard flow (x.offered s) (a.offered s)) (sym same) (h.offered s);
  accepted = h.accepted;
  layer = e;
}

pub call_follows : (l : Layer) (a : End) (parts : CallParts) → unread a.layer ≡ l → unread (call a.layer parts) ≡ call l parts
call_follows l a parts e = call_unread a.layer parts ∙ ap (λ (q : Layer). call q parts) e

pub request_follows : (l : Layer) (a : End) (c : ℕ) (r : Request) → unread a.layer ≡ l → unread (request a.layer c r) ≡ request l c r
request_follows l a c r e = request_unread a.layer c r ∙ ap (λ (q : Layer). request q c r) e

pub timer_follows : (l : Layer) (a : End) (t : Timer) → unread a.layer ≡ l → unread (on_timer a.layer t) ≡ unread (on_timer l t)
timer_follows l a t e = timer_unread a.layer t ∙ ap (λ (q : Layer). unread (on_timer q t)) e

-- ---- calls and offers tell nothing

pub call_silent : (a : End) (parts : CallParts) → (call (unread a.layer) parts).notes ≡ []
call_silent a parts = ap (λ (q : Layer). q.notes) (sym (call_unread a.layer parts))

pub request_silent : (a : End) (c : ℕ) (r : Request) → (request (unread a.layer) c r).notes ≡ []
request_silent a c r = ap (λ (q : Layer). q.notes) (sym (request_unread a.layer c r))

pub next_silent : (l : Layer) → (next_packet (unread l)).layer.notes ≡ []
next_silent l = ap (λ (q : Layer). q.notes) (sym (next_unread l).0)
