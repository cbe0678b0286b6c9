-- No event but the expiry of the restart timer makes an end of such a line ask for a relink.
use Rattle.std.proofs.Common.{◌≡◌, ℕ, zero, suc, ◌+◌, ◌<◌, ◌≤◌, Bool, true, false, cond, not, ◌||◌, ◌==◌, List, [], ◌∷◌, ◌++◌, length, drop, map, slice_get, Option, Some, None, refl, sym, ap, subst, ◌∙◌, append_assoc, append-nil, arith, true≢false, inl, inr}
use Rattle.std.proofs.lemmas.Bool.{eq-eqb, eqb-true, ne_eqb, cases_eq}
use Rattle.std.proofs.lemmas.Option.{slice_get_within}
use Rattle.link_timers.specs.declared.role.Role.{Role}
use Rattle.link_timers.specs.Role.{other_of}
use Rattle.data_transfer.specs.declared.flow.Flow.{Flow}
use Rattle.data_transfer.specs.Packets.{CallParts, Body, Packet, Received}
use Rattle.data_transfer.specs.Packets.Body.{Restart}
use Rattle.packet_channel.specs.Channel.{ChannelState, Channel, Request, closed_channel}
use Rattle.packet_layer.specs.Layer.{Phase, Layer, Next, Timer, nth_channel, channel_of, call, request, on_timer, on_packet, next_packet, link_down, channel_given, start_cause}
use Rattle.packet_layer.specs.Layer.Phase.{NoSession, OwnRestart}
use Rattle.packet_laws.specs.History.{History, call_history, request_history, timer_history}
use Rattle.packet_laws.specs.LayerLine.{End, Line, Event, turned, happens, told, with_layer, begun, may_begin, is_session, handed_over, offers, accepts, arrives_in, next_of_session}
use Rattle.packet_laws.specs.LayerLine.Event.{Up, Down, Calls, Requests, Expires, Offers, Arrives}
use Rattle.packet_laws.specs.LayerLineLaw.{is_restart_fault, is_channel_fault}
use Rattle.packet_laws.proofs.Handshakes.Handshake.{Walk, said}
use Rattle.packet_laws.proofs.Handshakes.Keeping.{same}
use Rattle.packet_laws.proofs.Call.Saying.{and_parts, by_cond}
use Rattle.packet_laws.proofs.Call.Levels.{restart_kind, Whole}
use Rattle.packet_laws.proofs.Line.Stored.{phase_of}
use Rattle.packet_laws.proofs.Line.Lines.{on_c, WellOf, Tied, There, nth_map, none_some}
use Rattle.packet_laws.proofs.Line.Moves.{session_is, map_length}
use Rattle.packet_laws.proofs.Line.Outcomes.{some_same}
use Rattle.packet_laws.proofs.Line.Offering.{next_same, handed_other, link_push}
use Rattle.packet_laws.proofs.Line.Arriving.{packet_same, arrives_some, well_get, drop_packet, cond_append}
use Rattle.packet_laws.proofs.Line.Consequences.{turned_tied}
use Rattle.packet_laws.proofs.Line.LineHolds.{happens_tied, happens_count, nth_within, faultless}
use Rattle.packet_laws.proofs.Owed.MayCome.{AllCome, all_front}
use Rattle.packet_laws.proofs.Owed.Draining.{FitsIn}
use Rattle.packet_laws.proofs.Owed.Growing.{is_r1, FitsAt, ComesTo, Grown, Turned, LayerEvent, OtherTimer, same_grown, call_event, request_event, timer_event}
use Rattle.packet_laws.proofs.Owed.Receiving.{NoFaultAt, Known, arrival_turned, arrival_quiet}
use Rattle.packet_laws.proofs.Owed.Handing.{given, handed}
use Rattle.packet_laws.proofs.Owed.NoRelink.{owed_at, pending, linked, way, EndOk, NoRelink, few_restarts, way_front, InSession, Pushed, way_pushed, begun_comes}

-- ---- channels

slice_some : (xs : List Channel) (i : ℕ) → i < length xs → (x : Channel) × (slice_get xs i ≡ Some x)
slice_some [] i h = let no : ⊥ = omega arith in absurd no
slice_some (x ∷ xs) zero h = (x, refl)
slice_some (x ∷ xs) (suc i) h = slice_some xs i (omega arith)

there_back : (chs chs' : List Channel) (c : ℕ) (ch : Channel) → length chs' ≡ length chs → nth_channel chs' c ≡ Some ch → (x : Channel) × (nth_channel chs c ≡ Some x)
there_back chs chs' zero ch e h = absurd cc
there_back chs chs' (suc i) ch e h = let q = slice_get_within chs' i ch h in slice_some chs i (omega arith)

from_one : (chs : List Channel) (c : ℕ) (ch : Channel) → nth_channel chs c ≡ Some ch → 1 ≤ c
from_one chs zero ch h = absurd cc
from_one chs (suc i) ch h = omega arith

-- ---- the other end

same_pushed : (o : Option ℕ) (s : ℕ) (p : List Body) → Pushed o s p p
same_pushed o s p = record { grown = same_grown p; session = tt }

in_session : (o : Option ℕ) (s : ℕ) (b : Option Body) → o ≡ Some s → InSession o s b
in_session o s None e = tt
in_session o s (Some b) e = e

after_link : (link p q : List Body) → Grown p q → Grown (link ++ p) (link ++ q)
after_link link p q g = record {
  keep = link ++ g.keep;
  cut = g.cut;
  pushed = g.pushed;
  before = ap (λ (z : List Body). link ++ z) g.before ∙ sym (append_assoc link g.keep g.cut);
  after = ap (λ (z : List Body). link ++ z) g.after ∙ sym (append_assoc link g.keep (said g.pushed []));
}

pending_here : (e : End) (s c : ℕ) (ch : Channel) → e.session ≡ Some s → channel_of e.layer c ≡ Some ch → pending e s c ≡ e.layer.owed ++ ch.owed
pending_here e s c ch ses found =
    ap (λ (v : Bool). cond v (e.layer.owed ++ owed_at (channel_of e.layer c)) []) (ap (λ (q : Option ℕ). is_session q s) ses ∙ same s) ∙ ap (λ (q : Option Channel). e.layer.owed ++ owed_at q) found

pending_not : (e : End) (s c : ℕ) → is_session e.session s ≡ false → pending e s c ≡ []
pending_not e s c h = ap (λ (v : Bool). cond v (e.layer.owed ++ owed_at (channel_of e.layer c)) []) h

-- what an end in the session owes grows
own_pushed : (e e' : End) (s c : ℕ) (ch ch' : Channel) (link extra : List Body) → e.session ≡ Some s → e'.session ≡ Some s → channel_of e.layer c ≡ Some ch → channel_of e'.layer c ≡ Some ch'
    → Grown (e.layer.owed ++ ch.owed) (extra ++ (e'.layer.owed ++ ch'.owed)) → Pushed e'.session s (link ++ pending e s c) ((link ++ extra) ++ pending e' s c)
own_pushed e e' s c ch ch' link extra ses ses' found found' g =
    subst (λ (q : List Body). Pushed e'.session s (link ++ q) ((link ++ extra) ++ pending e' s c)) (sym (pending_here e s c ch ses found))
    (subst (λ (q : List Body). Pushed e'.session s (link ++ (e.layer.owed ++ ch.owed)) ((link ++ extra) ++ q)) (sym (pending_here e' s c ch' ses' found'))
    (subst (λ (q : List Body). Pushed e'.session s (link ++ (e.layer.owed ++ ch.owed)) q) (sym (append_assoc link extra (e'.layer.owed ++ ch'.owed)))
    (let k = after_link link _ _ g in record { grown = k; session = in_session e'.session s k.pushed ses' })))

-- with nothing handed over
plain_pushed : (e e' : End) (s c : ℕ) (ch ch' : Channel) (link : List Body) → e.session ≡ Some s → e'.session ≡ Some s → channel_of e.layer c ≡ Some ch → channel_of e'.layer c ≡ Some ch'
    → Grown (e.layer.owed ++ ch.owed) (e'.layer.owed ++ ch'.owed) → Pushed e'.session s (link ++ pending e s c) (link ++ pending e' s c)
plain_pushed e e' s c ch ch' link ses ses' found found' g =
    subst (λ (q : List Body). Pushed e'.session s (link ++ pending e s c) (q ++ pending e' s c)) (append-nil link)
    (own_pushed e e' s c ch ch' link [] ses ses' found found' g)

-- an end that is not in the session, before and after
none_pushed : (e e' : End) (s c : ℕ) (link link' : List Body) → is_session e.session s ≡ false → is_session e'.session s ≡ false → link' ≡ link → Pushed e'.session s (link ++ pending e s c) (link' ++ pending e' s c)
none_pushed e e' s c link link' h h' same_link =
    subst (λ (q : List Body). Pushed e'.session s (link ++ pending e s c) (q ++ pending e' s c)) (sym same_link)
    (subst (λ (q : List Body). Pushed e'.session s (link ++ pending e s c) (link ++ q)) (pending_not e s c h ∙ sym (pending_not e' s c h')) (same_pushed e'.session s (link ++ pending e s c)))

-- an end that leaves the session
left_pushed : (e e' : End) (s c : ℕ) (link link' : List Body) → is_session e'.session s ≡ false → link' ≡ link → Pushed e'.session s (link ++ pending e s c) (link' ++ pending e' s c)
left_pushed e e' s c link link' h' same_link = record {
  grown = record { keep = link; cut = pending e s c; pushed = None; before = refl; after = ap (λ (q : List Body). q ++ pending e' s c) same_link ∙ ap (λ (q : List Body). link ++ q) (pending_not e' s c h') };
  session = tt;
}

-- ---- a line with another end here

abbrev Others : ℕ → Line → End → Type 0
Others channels w e' = (s c : ℕ) → 1 ≤ c → c ≤ channels → w.you.session ≡ Some s → Pushed e'.session s (way (turned w) s c) (way (turned (record w { me = e' })) s c)

rebuilt : (channels : ℕ) (flow : Flow) (role : Role) (w : Line) (e' : End) → NoRelink channels flow role w → length e'.layer.channels ≡ channels → ((s c : ℕ) → 1 ≤ c → c ≤ channels → Tied flow role (record w { me = e' }) s c)
    → EndOk role (record w { me = e' }) → Others channels w e' → NoRelink channels flow role (record w { me = e' })
rebuilt channels flow role w e' k count tied ok others = record {
  some = k.some;
  count = (count, k.count.1);
  tied = tied;
  me = ok;
  you = record {
    quiet = k.you.quiet;
    few = k.you.few;
    idle = k.you.idle;
    fits = k.you.fits;
    comes = λ s c ch ses found.
        let lo = from_one w.you.layer.channels c ch found in
        let hi = nth_within w.you.layer.channels c ch found in
        let num = k.count.1 in
        let le : c ≤ channels = omega arith in
        way_pushed flow (other_of role) (turned (record w { me = e' })) s c ch (way (turned w) s c) (turned_tied flow role (record w { me = e' }) s c (tied s c lo le)) ses k.you.quiet ok.quiet found (k.you.fits c ch found)
        (others s c lo le ses) (k.you.comes s c ch ses found);
  };
}

-- how many restart packets are owed
few_of : (channels : ℕ) (flow : Flow) (role : Role) (w : Line) (o : Option ℕ) → 1 ≤ channels → ((s c : ℕ) → 1 ≤ c → c ≤ channels → Tied flow role w s c) → w.me.session ≡ o → w.me.layer.relink ≡ false → (w.me.session ≡ None → w.me.layer.owed ≡ []) → length w.me.layer.owed ≤ 2
few_of channels flow role w None some tied ses quiet none = let l = ap (λ (q : List Body). length q) (none ses) in omega arith
few_of channels flow role w (Some s) some tied ses quiet none = few_restarts flow role w s 1 (tied s 1 (omega arith) some) ses quiet

-- ---- an event of the layer alone

layer_no_relink : (channels : ℕ) (flow : Flow) (role : Role) (w : Line) (l' : Layer) (f : ℕ → History → History) → NoRelink channels flow role w → length l'.channels ≡ channels → ((s c : ℕ) → Tied flow role w s c → Tied flow role (record w { me = with_layer l' (told f w.me) }) s c)
    → LayerEvent role w.me.layer l' → NoRelink channels flow role (record w { me = with_layer l' (told f w.me) })
layer_no_relink channels flow role w l' f k count keeps ev =
    let l : Layer = w.me.layer in
    let e' : End = with_layer l' (told f w.me) in
    let tied' : (s c : ℕ) → 1 ≤ c → c ≤ channels → Tied flow role (record w { me = e' }) s c = λ s c lo hi. keeps s c (k.tied s c lo hi) in
    let idle : w.me.session ≡ None → (l'.phase ≡ NoSession) × (l'.owed ≡ []) = λ h. let i = k.me.idle h in let q = ev.idle i.0 in (q.0, q.1 ∙ i.1) in
    rebuilt channels flow role w e' k count tied'
    (record {
      quiet = ev.quiet;
      few = few_of channels flow role (record w { me = e' }) w.me.session k.some tied' refl ev.quiet (λ h. (idle h).1);
      idle = idle;
      fits = λ c ch found.
          let b = there_back l.channels l'.channels c ch (count ∙ sym k.count.0) found in
          let t = ev.turned c b.0 [] b.1 in
          subst (λ (q : Channel). FitsAt l'.phase q) (some_same t.next ch (sym t.found ∙ found)) t.fits;
      comes = λ s c ch ses found.
          let b = there_back l.channels l'.channels c ch (count ∙ sym k.count.0) found in
          let t = ev.turned c b.0 (way w s c) b.1 in
          subst (λ (q : Channel). ComesTo role l'.phase q (way w s c)) (some_same t.next ch (sym t.found ∙ found)) (t.comes (k.me.comes s c b.0 ses b.1));
    })
    (λ s c lo hi up.
    elim (session_is w.me.session s) [
      | inl h ↦
          let b = (k.tied s c lo hi).mine.there in
          let t = ev.turned c b.0 [] b.1 in
          plain_pushed w.me e' s c b.0 t.next (linked (turned w) s c) h.1 h.1 b.1 t.found t.grown
      | inr h ↦ none_pushed w.me e' s c (linked (turned w) s c) (linked (turned w) s c) h.0 h.0 refl
    ])

role_here : (channels : ℕ) (flow : Flow) (role : Role) (w : Line) → NoRelink channels flow role w → w.me.layer.role ≡ role
role_here channels flow role w k = (k.tied 0 1 (omega arith) k.some).mine.role_is

calls_no_relink : (channels : ℕ) (flow : Flow) (role : Role) (w : Line) (parts : CallParts) → NoRelink channels flow role w → NoRelink channels flow role (happens (Calls parts) w)
calls_no_relink channels flow role w parts k =
    layer_no_relink channels flow role w (call w.me.layer parts) (λ d st. call_history parts (channel_given w.me.layer w.me.layer.phase) d st) k (happens_count channels (Calls parts) w k.count).0
    (λ s c t. happens_tied flow role (Calls parts) w s c t) (call_event role w.me.layer parts k.me.quiet k.me.fits)

requests_no_relink : (channels : ℕ) (flow : Flow) (role : Role) (w : Line) (d : ℕ) (r : Request) → NoRelink channels flow role w → NoRelink channels flow role (happens (Requests d r) w)
requests_no_relink channels flow role w d r k =
    layer_no_relink channels flow role w (request w.me.layer d r) (λ c st. request_history w.me.layer d r c st) k (happens_count channels (Requests d r) w k.count).0
    (λ s c t. happens_tied flow role (Requests d r) w s c t) (request_event role w.me.layer d r (role_here channels flow role w k) k.me.quiet k.me.fits)

expires_no_relink : (channels : ℕ) (flow : Flow) (role : Role) (w : Line) (t : Timer) → OtherTimer t → NoRelink channels flow role w → NoRelink channels flow role (happens (Expires t) w)
expires_no_relink channels flow role w t other k =
    layer_no_relink channels flow role w (on_timer w.me.layer t) (λ c st. timer_history w.me.layer t c st) k (happens_count channels (Expires t) w k.count).0
    (λ s c q. happens_tied flow role (Expires t) w s c q) (timer_event role w.me.layer t other (role_here channels flow role w k) k.me.quiet k.me.fits k.me.few)

-- ---- a packet is handed to the link

handed_here : (k s : ℕ) (o : Option Packet) (off : ℕ → List Packet) → (s == k) ≡ true → handed_over k o off s ≡ off s ++ given o
handed_here k s None off e = sym (append-nil (off s))
handed_here k s (Some p) off e = ap (λ (v : Bool). cond v (off s ++ p ∷ []) (off s)) e

linked_given : (c a : ℕ) (ps : List Packet) (o : Option Packet) → a ≤ length ps → on_c c (drop a (ps ++ given o)) ≡ on_c c (drop a ps) ++ on_c c (given o)
linked_given c a ps None le = ap (λ (q : List Packet). on_c c (drop a q)) (append-nil ps) ∙ sym (append-nil (on_c c (drop a ps)))
linked_given c a ps (Some p) le = link_push c a ps p le

some_number : (a b : ℕ) → Some a ≡ Some b → a ≡ b
some_number a b e = cc

abbrev handing : ℕ → End → End
handing k e = record e { layer = (next_packet e.layer).layer; offered = handed_over k (next_packet e.layer).packet e.offered }

offers_at : (channels : ℕ) (flow : Flow) (role : Role) (w : Line) (k : ℕ) → w.me.session ≡ Some k → NoRelink channels flow role w → NoRelink channels flow role (record w { me = handing k w.me })
offers_at channels flow role w k ses0 m =
    let l : Layer = w.me.layer in
    let n : Next = next_packet l in
    let e' : End = handing k w.me in
    let count : length n.layer.channels ≡ length l.channels = (next_same l 0).3 in
    let tied' : (s c : ℕ) → 1 ≤ c → c ≤ channels → Tied flow role (record w { me = e' }) s c = λ s c lo hi. subst (λ (o : Option ℕ). Tied flow role (record w { me = offers o w.me }) s c) ses0 (happens_tied flow role Offers w s c (m.tied s c lo hi)) in
    let one = (m.tied k 1 (omega arith) m.some).mine.there in
    let first = handed role l 1 one.0 one.1 (m.me.fits 1 one.0 one.1) in
    rebuilt channels flow role w e' m (count ∙ m.count.0) tied'
    (record {
      quiet = first.quiet ∙ m.me.quiet;
      few = few_of channels flow role (record w { me = e' }) w.me.session m.some tied' refl (first.quiet ∙ m.me.quiet) (λ h. none_some k (sym h ∙ ses0));
      idle = λ h. none_some k (sym h ∙ ses0);
      fits = λ c ch found.
          let b = there_back l.channels n.layer.channels c ch count found in
          let t = handed role l c b.0 b.1 (m.me.fits c b.0 b.1) in
          subst (λ (p : Phase). FitsAt p ch) (sym t.phase) (subst (λ (q : Channel). FitsAt l.phase q) (some_same t.next ch (sym t.found ∙ found)) t.fits);
      comes = λ s c ch ses found.
          let b = there_back l.channels n.layer.channels c ch count found in
          let t = handed role l c b.0 b.1 (m.me.fits c b.0 b.1) in
          subst (λ (p : Phase). ComesTo role p ch (way w s c)) (sym t.phase) (subst (λ (q : Channel). ComesTo role l.phase q (way w s c)) (some_same t.next ch (sym t.found ∙ found)) (t.comes (way w s c) (m.me.comes s c b.0 ses b.1)));
    })
    (λ s c lo hi up.
    let tie = m.tied s c lo hi in
    elim (session_is w.me.session s) [
      | inl h ↦
          let b = tie.mine.there in
          let t = handed role l c b.0 b.1 (m.me.fits c b.0 b.1) in
          let is_k : (s == k) ≡ true = eq-eqb s k (some_number s k (sym h.1 ∙ ses0)) in
          let link : linked (turned (record w { me = e' })) s c ≡ linked (turned w) s c ++ on_c c (given n.packet) =
          ap (λ (q : List Packet). on_c c (drop (w.you.accepted s) q)) (handed_here k s n.packet w.me.offered is_k) ∙ linked_given c (w.you.accepted s) (w.me.offered s) n.packet tie.mine.within in
          subst (λ (q : List Body). Pushed w.me.session s (way (turned w) s c) (q ++ pending e' s c)) (sym link)
          (own_pushed w.me e' s c b.0 t.next (linked (turned w) s c) (on_c c (given n.packet)) h.1 h.1 b.1 t.found t.grown)
      | inr h ↦
          let not_k : (s == k) ≡ false = ap (λ (o : Option ℕ). is_session o s) (sym ses0) ∙ h.0 in
          none_pushed w.me e' s c (linked (turned w) s c) (linked (turned (record w { me = e' })) s c) h.0 h.0
          (ap (λ (q : List Packet). on_c c (drop (w.you.accepted s) q)) (handed_other k s n.packet w.me.offered not_k))
    ])

offers_by : (channels : ℕ) (flow : Flow) (role : Role) (w : Line) (o : Option ℕ) → w.me.session ≡ o → NoRelink channels flow role w → NoRelink channels flow role (record w { me = offers o w.me })
offers_by channels flow role w None ses m = m
offers_by channels flow role w (Some k) ses m = offers_at channels flow role w k ses m

-- ---- the link goes down

closed_fit : (chs : List Channel) (c : ℕ) (ch : Channel) (ph : Phase) → is_r1 ph ≡ false → nth_channel (map (λ q. closed_channel) chs) c ≡ Some ch → FitsAt ph ch
closed_fit chs c ch ph e found =
    let b = there_back chs (map (λ q. closed_channel) chs) c ch (map_length chs) found in
    let is : closed_channel ≡ ch = some_same closed_channel ch (sym (nth_map chs c b.0 closed_channel b.1) ∙ found) in
    subst (λ (q : Channel). FitsAt ph q) is (subst (λ (v : Bool). FitsIn v closed_channel.state closed_channel.resetting closed_channel.owed) (sym e) (refl, refl, refl))

down_no_relink : (channels : ℕ) (flow : Flow) (role : Role) (w : Line) → NoRelink channels flow role w → NoRelink channels flow role (happens Down w)
down_no_relink channels flow role w m =
    let e' : End = record w.me { layer = link_down w.me.layer; session = None } in
    rebuilt channels flow role w e' m (happens_count channels Down w m.count).0 (λ s c lo hi. happens_tied flow role Down w s c (m.tied s c lo hi))
    (record {
      quiet = refl;
      few = omega arith;
      idle = λ h. (refl, refl);
      fits = λ c ch found. closed_fit w.me.layer.channels c ch NoSession refl found;
      comes = λ s c ch ses found. none_some s ses;
    })
    (λ s c lo hi up. left_pushed w.me e' s c (linked (turned w) s c) (linked (turned w) s c) refl refl)

-- ---- the link comes up

not_zero_session : (s : ℕ) → not (s == 0) ≡ true → 0 < s
not_zero_session zero e = absurd (true≢false (sym e))
not_zero_session (suc s) e = omega arith

-- nothing was accepted, so both ends are as begun, and all that is on the way may come
begun_way : (channels : ℕ) (flow : Flow) (role : Role) (w : Line) (k c : ℕ) → 0 < k → w.me.accepted k ≡ 0 → w.you.accepted k ≡ 0 → Tied flow role w k c → w.you.layer.relink ≡ false → AllCome role false ChannelState.Ready false [] (way w k c)
begun_way channels flow role w k c lt mine yours t quiet =
    let ex = t.mine.still lt mine in
    let ey = t.yours.still lt yours in
    let walk : Walk restart_kind t.y.put t.y.number t.x.own t.x.number (t.x.came t.x.number) t.b = t.good.aft.walk in
    let walk' : Walk restart_kind (λ j. []) 0 true 0 0 t.b =
    subst (λ (z : Whole). Walk restart_kind z.put z.number true 0 0 t.b) ey
    (subst (λ (z : Whole). Walk restart_kind t.y.put t.y.number z.own z.number (z.came z.number) t.b) ex walk) in
    let front = way_front flow role w k c t quiet in
    all_front role false ChannelState.Ready false [] (way w k c) front.0
    (subst (λ (q : List Body). AllCome role false ChannelState.Ready false [] q) front.1 (begun_comes role ChannelState.Ready false [] t.b walk'))

begun_linked : (w : Line) (k c : ℕ) → w.you.accepted k ≡ 0 → linked (turned (record w { me = begun k w.me })) k c ≡ []
begun_linked w k c none =
    ap (λ (a : ℕ). on_c c (drop a (cond (k == k) [] (w.me.offered k)))) none ∙ ap (λ (v : Bool). on_c c (drop 0 (cond v [] (w.me.offered k)))) (same k)

begun_pending : (w : Line) (k c : ℕ) → There w.me.layer c → pending (begun k w.me) k c ≡ Restart (start_cause w.me.layer.role) 0 ∷ []
begun_pending w k c t = pending_here (begun k w.me) k c closed_channel refl (nth_map w.me.layer.channels c t.0 closed_channel t.1)

up_at : (channels : ℕ) (flow : Flow) (role : Role) (w : Line) (k : ℕ) → may_begin k w ≡ true → NoRelink channels flow role w → NoRelink channels flow role (record w { me = begun k w.me })
up_at channels flow role w k may m =
    let e' : End = begun k w.me in
    let p = and_parts (not (k == 0)) _ may in
    let q = and_parts (w.me.accepted k == 0) (w.you.accepted k == 0) p.1 in
    let lt = not_zero_session k p.0 in
    let mine_none = eqb-true (w.me.accepted k) 0 q.0 in
    let yours_none = eqb-true (w.you.accepted k) 0 q.1 in
    let tied' : (s c : ℕ) → 1 ≤ c → c ≤ channels → Tied flow role (record w { me = e' }) s c = λ s c lo hi.
    subst (λ (v : Bool). Tied flow role (cond v (record w { me = e' }) w) s c) may (happens_tied flow role (Up k) w s c (m.tied s c lo hi)) in
    rebuilt channels flow role w e' m (map_length w.me.layer.channels ∙ m.count.0) tied'
    (record {
      quiet = refl;
      few = omega arith;
      idle = λ h. none_some k (sym h);
      fits = λ c ch found. closed_fit w.me.layer.channels c ch OwnRestart refl found;
      comes = λ s c ch ses found.
          let b = there_back w.me.layer.channels (map (λ q. closed_channel) w.me.layer.channels) c ch (map_length w.me.layer.channels) found in
          let lo = from_one w.me.layer.channels c b.0 b.1 in
          let hi = nth_within w.me.layer.channels c b.0 b.1 in
          let num = m.count.0 in
          let is : closed_channel ≡ ch = some_same closed_channel ch (sym (nth_map w.me.layer.channels c b.0 closed_channel b.1) ∙ found) in
          subst (λ (z : Channel). ComesTo role OwnRestart z (way w s c)) is
          (subst (λ (j : ℕ). AllCome role false ChannelState.Ready false [] (way w j c)) (some_number k s ses)
          (begun_way channels flow role w k c lt mine_none yours_none (m.tied k c lo (omega arith)) m.you.quiet));
    })
    (λ s c lo hi up.
    elim (cases_eq s k) [
      | inl e ↦
          subst (λ (j : ℕ). Pushed (Some k) j (way (turned w) j c) (way (turned (record w { me = e' })) j c)) (sym e)
          (record {
            grown = record {
              keep = [];
              cut = way (turned w) k c;
              pushed = Some (Restart (start_cause w.me.layer.role) 0);
              before = refl;
              after = ap (λ (z : List Body). z ++ pending e' k c) (begun_linked w k c yours_none) ∙ begun_pending w k c (m.tied k c lo hi).mine.there;
            };
            session = refl;
          })
      | inr ne ↦
          left_pushed w.me e' s c (linked (turned w) s c) (linked (turned (record w { me = e' })) s c) (ne_eqb s k ne)
          (ap (λ (v : Bool). on_c c (drop (w.you.accepted s) (cond v [] (w.me.offered s)))) (ne_eqb s k ne))
    ])

up_no_relink : (channels : ℕ) (flow : Flow) (role : Role) (w : Line) (k : ℕ) → NoRelink channels flow role w → NoRelink channels flow role (happens (Up k) w)
up_no_relink channels flow role w k m = by_cond (λ (v : Line). NoRelink channels flow role v) (may_begin k w) (record w { me = begun k w.me }) w (λ e. up_at channels flow role w k e m) (λ e. m)

-- ---- a packet arrives

abbrev next_way : Line → ℕ → ℕ → List Body
next_way w k c = on_c c (drop (suc (w.me.accepted k)) (w.you.offered k)) ++ pending w.you k c

way_next : (w : Line) (k c : ℕ) (p : Packet) → next_of_session w k ≡ Some p → way w k c ≡ cond ((p.channel == 0) || (p.channel == c)) (p.body ∷ next_way w k c) (next_way w k c)
way_next w k c p got =
    ap (λ (q : List Packet). on_c c q ++ pending w.you k c) (drop_packet (w.you.offered k) (w.me.accepted k) p got)
    ∙ cond_append ((p.channel == 0) || (p.channel == c)) p.body (on_c c (drop (suc (w.me.accepted k)) (w.you.offered k))) (pending w.you k c)

fault_split : (l : Layer) (p : Packet) (v : Bool) → cond v (is_restart_fault l.phase p.body) (is_channel_fault l.phase l p) ≡ false → NoFaultAt l.phase l p v
fault_split l p true e = e
fault_split l p false e = e

known_split : (role : Role) (l : Layer) (p : Packet) (v : Bool) → (p.channel == 0) ≡ v → (v ≡ true → Known role l p true) → (v ≡ false → Known role l p false) → Known role l p v
known_split role l p true e f g = f refl
known_split role l p false e f g = g refl

arrives_at : (channels : ℕ) (flow : Flow) (role : Role) (w : Line) (k : ℕ) (p : Packet) → w.me.session ≡ Some k → next_of_session w k ≡ Some p → NoRelink channels flow role w → NoRelink channels flow role (record w { me = accepts k (Some p) w.me })
arrives_at channels flow role w k p ses0 got m =
    let l : Layer = w.me.layer in
    let l' : Layer = on_packet l (Received.Whole p) in
    let e' : End = accepts k (Some p) w.me in
    let a : ℕ = w.me.accepted k in
    let is = role_here channels flow role w m in
    let own : Bool = (m.tied k 1 (omega arith) m.some).x.own in
    let phase : l.phase ≡ phase_of own = ((m.tied k 1 (omega arith) m.some).mine.present ses0).phase_is in
    let fault : NoFaultAt l.phase l p (p.channel == 0) = fault_split l p (p.channel == 0) (faultless channels flow role w m.some m.count.0 (λ s c lo hi. m.tied s c lo hi) k p ses0 got) in
    let well : (c : ℕ) → 1 ≤ c → c ≤ channels → WellOf (p.channel == 0) (p.channel == c) p.body = λ c lo hi. well_get c (w.you.offered k) a p got (m.tied k c lo hi).yours.well in
    let count : length l'.channels ≡ length l.channels = (packet_same l 0 p).3 in
    let tied' : (s c : ℕ) → 1 ≤ c → c ≤ channels → Tied flow role (record w { me = e' }) s c = λ s c lo hi. arrives_some flow role w k s c p ses0 got (m.tied s c lo hi) in
    let num = m.count.0 in
    let range : (c : ℕ) (ch : Channel) → channel_of l c ≡ Some ch → (1 ≤ c) × (c ≤ channels) = λ c ch found. let hi = nth_within l.channels c ch found in (from_one l.channels c ch found, omega arith) in
    let came : (c : ℕ) (ch : Channel) → channel_of l c ≡ Some ch → ComesTo role l.phase ch (cond ((p.channel == 0) || (p.channel == c)) (p.body ∷ next_way w k c) (next_way w k c)) = λ c ch found.
    subst (λ (q : List Body). ComesTo role l.phase ch q) (way_next w k c p got) (m.me.comes k c ch ses0 found) in
    let turn : (c : ℕ) (ch : Channel) → (found : channel_of l c ≡ Some ch) → Turned role l l' c ch (cond ((p.channel == 0) || (p.channel == c)) (p.body ∷ next_way w k c) (next_way w k c)) (next_way w k c) = λ c ch found.
    let r = range c ch found in
    arrival_turned role l own p c ch (next_way w k c) is (well c r.0 r.1) phase fault (m.me.fits c ch found) m.me.few found (came c ch found) in
    let known : Known role l p (p.channel == 0) = known_split role l p (p.channel == 0) refl
    (λ e. subst (λ (v : Bool). WellOf v (p.channel == 1) p.body) e (well 1 (omega arith) m.some))
    (λ e ch found.
    let r = range p.channel ch found in
    let c : ℕ = p.channel in (
      subst (λ (v : Bool). WellOf false v p.body) (same c) (subst (λ (v : Bool). WellOf v (c == c) p.body) e (well c r.0 r.1)),
      (
        m.me.fits c ch found,
        (next_way w k c, subst (λ (v : Bool). ComesTo role l.phase ch (cond v (p.body ∷ next_way w k c) (next_way w k c))) (ap (λ (v : Bool). v || (c == c)) e ∙ same c) (came c ch found)),
      ),
    )) in
    let quiet : l'.relink ≡ false = arrival_quiet role l own p is phase fault m.me.quiet m.me.few known in
    let acc : cond (k == k) (a + 1) a ≡ suc a = ap (λ (v : Bool). cond v (a + 1) a) (same k) ∙ (omega arith) in
    let way' : (c : ℕ) → way (record w { me = e' }) k c ≡ next_way w k c = λ c. ap (λ (j : ℕ). on_c c (drop j (w.you.offered k)) ++ pending w.you k c) acc in
    rebuilt channels flow role w e' m (count ∙ m.count.0) tied'
    (record {
      quiet = quiet;
      few = few_of channels flow role (record w { me = e' }) w.me.session m.some tied' refl quiet (λ h. none_some k (sym h ∙ ses0));
      idle = λ h. none_some k (sym h ∙ ses0);
      fits = λ c ch found.
          let b = there_back l.channels l'.channels c ch count found in
          let t = turn c b.0 b.1 in
          subst (λ (q : Channel). FitsAt l'.phase q) (some_same t.next ch (sym t.found ∙ found)) t.fits;
      comes = λ s c ch ses found.
          let b = there_back l.channels l'.channels c ch count found in
          let t = turn c b.0 b.1 in
          subst (λ (j : ℕ). ComesTo role l'.phase ch (way (record w { me = e' }) j c)) (some_number k s (sym ses0 ∙ ses))
          (subst (λ (q : List Body). ComesTo role l'.phase ch q) (sym (way' c))
          (subst (λ (q : Channel). ComesTo role l'.phase q (next_way w k c)) (some_same t.next ch (sym t.found ∙ found)) (t.comes (came c b.0 b.1))));
    })
    (λ s c lo hi up.
    elim (session_is w.me.session s) [
      | inl h ↦
          let b = (m.tied s c lo hi).mine.there in
          let t = turn c b.0 b.1 in
          plain_pushed w.me e' s c b.0 t.next (linked (turned w) s c) h.1 h.1 b.1 t.found t.grown
      | inr h ↦ none_pushed w.me e' s c (linked (turned w) s c) (linked (turned w) s c) h.0 h.0 refl
    ])

arrives_packet : (channels : ℕ) (flow : Flow) (role : Role) (w : Line) (k : ℕ) (o : Option Packet) → w.me.session ≡ Some k → next_of_session w k ≡ o → NoRelink channels flow role w → NoRelink channels flow role (record w { me = accepts k o w.me })
arrives_packet channels flow role w k None ses got m = m
arrives_packet channels flow role w k (Some p) ses got m = arrives_at channels flow role w k p ses got m

arrives_by : (channels : ℕ) (flow : Flow) (role : Role) (w : Line) (o : Option ℕ) → w.me.session ≡ o → NoRelink channels flow role w → NoRelink channels flow role (arrives_in o w)
arrives_by channels flow role w None ses m = m
arrives_by channels flow role w (Some k) ses m = arrives_packet channels flow role w k (next_of_session w k) ses refl m

-- ---- any event

abbrev pub OtherEvent : Event → Type 0
OtherEvent (Expires t) = OtherTimer t
OtherEvent e = Unit {0}

pub happens_no_relink : (channels : ℕ) (flow : Flow) (role : Role) (e : Event) (w : Line) → OtherEvent e → NoRelink channels flow role w → NoRelink channels flow role (happens e w)
happens_no_relink channels flow role (Up k) w other m = up_no_relink channels flow role w k m
happens_no_relink channels flow role Down w other m = down_no_relink channels flow role w m
happens_no_relink channels flow role (Calls parts) w other m = calls_no_relink channels flow role w parts m
happens_no_relink channels flow role (Requests d r) w other m = requests_no_relink channels flow role w d r m
happens_no_relink channels flow role (Expires t) w other m = expires_no_relink channels flow role w t other m
happens_no_relink channels flow role Offers w other m = offers_by channels flow role w w.me.session refl m
happens_no_relink channels flow role Arrives w other m = arrives_by channels flow role w w.me.session refl m
