-- A packet that the link accepted keeps the line's channels tied to their handshakes, and is no procedure error.
use Rattle.std.proofs.Common.{◌≡◌, ℕ, zero, suc, ◌+◌, Bool, true, false, cond, ◌||◌, ◌==◌, List, [], ◌∷◌, ◌++◌, slice_get, drop, Option, Some, None, refl, sym, ap, subst, ◌∙◌, arith, append_assoc, append-nil, true≢false, inl, inr}
use Rattle.std.proofs.lemmas.Bool.{ne_eqb, eqb-true, eqb-false, cases_eq}
use Rattle.std.proofs.lemmas.Option.{slice_get_within}
use Rattle.link_timers.specs.declared.role.Role.{Role}
use Rattle.link_timers.specs.Role.{other_of}
use Rattle.data_transfer.specs.declared.flow.Flow.{Flow}
use Rattle.data_transfer.specs.Packets.{Body, Packet, Received, Reason}
use Rattle.data_transfer.specs.Packets.Body.{Restart, RestartConfirmation}
use Rattle.packet_channel.specs.Channel.{Channel, Step, received, closed_channel}
use Rattle.packet_layer.specs.Layer.{Phase, Layer, channel_of, owing, on_found, on_channel, restart_packet, on_packet, unread, with_owed, passes_limit, owes_restart, all_closed}
use Rattle.packet_layer.specs.Layer.Phase.{NoSession, OwnRestart, PacketReady}
use Rattle.packet_laws.specs.History.{History, packet_history, restart_history, channel_history, received_history, found_history, next_restart_of}
use Rattle.packet_laws.specs.LayerLine.{Line, happens, accepts, arrives_in, next_of_session, is_session}
use Rattle.packet_laws.specs.LayerLine.Event.{Arrives}
use Rattle.packet_laws.proofs.Handshakes.Handshake as handshake
use Rattle.packet_laws.proofs.Handshakes.Handshake.{Kind, said, does, AllPayload, advanced, confirmed_side, side_hears, side_ok}
use Rattle.packet_laws.proofs.Handshakes.Handshake.Kind.{Payload, Request, Confirmation}
use Rattle.packet_laws.proofs.Handshakes.Keeping.{same}
use Rattle.packet_laws.proofs.Call.Saying.{by_cond}
use Rattle.packet_laws.proofs.Call.Levels.{restart_kind, Uses, Whole, first_use, GoodWhole, whole_hears, whole_ok, uses_hear, uses_say, uses_ok, whole_heard, whole_learns}
use Rattle.packet_laws.proofs.Line.Stored.{stored, stored_whole, phase_of, shown, Settled, SettledWhole, Frozen, frozen_same, frozen_next, HistoryTie, Laters, laters, restart_history_tie}
use Rattle.packet_laws.proofs.Line.Agreement.{Ties, received_at}
use Rattle.packet_laws.proofs.Line.Lines.{on_c, Well, WellOf, AllWell, AllRestart, IsRestart, Present, EndTie, Tied, nth_same, nth_other, nth_map, set_if_false, owed_said, said_append, owed_payload, owed_restart, session_other}
use Rattle.packet_laws.proofs.Line.Moves.{SameLine, found_same, map_length, not_now}

-- what the arrival makes of the channel
pub record Arrival (flow : Flow) (role : Role) (x y : Whole) (link b : List Body) (l : Layer) (c : ℕ) (f : History → History) : Type 0 where
  pub next : Whole
  pub rest : List Body
  pub good : GoodWhole flow role (record { me = next; you = y; out = link ++ rest; back = b })
  pub settled : Settled next
  pub frozen : Frozen x → Frozen next
  pub history : (st : History) → HistoryTie x st → HistoryTie next (f st)
  pub present : Present l c next rest

own_path : (x : Whole) (v : Bool) → x.own ≡ v → x ≡ record x { own = v }
own_path x v e = ap (λ (o : Bool). record x { own = o }) e

-- ---- a restart packet

pub confirm_good : (flow : Flow) (role : Role) (x y : Whole) (o ts : List Body) (t : Body) → IsRestart t → x.own ≡ true → GoodWhole flow role (record { me = x; you = y; out = o; back = t ∷ ts })
    → GoodWhole flow role (record { me = confirmed_side x; you = y; out = o; back = ts })
confirm_good flow role x y o ts (Restart a d) r e g =
    subst (λ (v : Bool). GoodWhole flow role (does (record { me = x; you = y; out = o; back = ts }) (side_hears RestartConfirmation first_use (λ s t. uses_hear flow role s t) Request v x (Restart a d)))) e
    (whole_heard flow role (record { me = x; you = y; out = o; back = [] }) (Restart a d) ts g).1
confirm_good flow role x y o ts RestartConfirmation r e g =
    subst (λ (v : Bool). GoodWhole flow role (does (record { me = x; you = y; out = o; back = ts }) (side_hears RestartConfirmation first_use (λ s t. uses_hear flow role s t) Confirmation v x RestartConfirmation))) e
    (whole_heard flow role (record { me = x; you = y; out = o; back = [] }) RestartConfirmation ts g).1
confirm_good flow role x y o ts _ r e g = absurd r

pub settled_first : (s : Uses) → s ≡ first_use → SettledWhole false s
settled_first s e = subst (λ (v : Uses). SettledWhole false v) (sym e) tt

confirms_restart : (flow : Flow) (role : Role) (x y : Whole) (link b ts rest : List Body) (l : Layer) (c : ℕ) (t : Body) → IsRestart t → x.own ≡ true
    → GoodWhole flow role (record { me = x; you = y; out = link ++ rest; back = t ∷ ts }) → Settled x → Present l c x rest
    → Arrival flow role x y link ts (record l { phase = PacketReady; served_last = 0; notes = [] }) c (λ st. st)
confirms_restart flow role x y link b ts rest l c t r e g s p =
    let first : x.now ≡ first_use = subst (λ (v : Bool). SettledWhole v x.now) e s in
    record {
      next = confirmed_side x;
      rest = rest;
      good = confirm_good flow role x y (link ++ rest) ts t r e g;
      settled = settled_first x.now first;
      frozen = λ f. f;
      history = λ st q. record { restart_is = q.restart_is; use_is = q.use_is; epoch_is = q.epoch_is; epochs_are = q.epochs_are };
      present = record {
        phase_is = refl;
        owed = p.owed;
        channel_is = p.channel_is ∙ ap (λ (v : Bool). Some (shown (stored_whole v x.now) p.owed)) e ∙ sym (ap (λ (u : Uses). Some (shown (stored_whole false u) p.owed)) first);
        plain = p.plain;
        restarts = p.restarts;
        rest_is = p.rest_is;
      };
    }

learn_out : (flow : Flow) (role : Role) (x y : Whole) (link ts rest owed owed_c : List Body) (a d : ℕ) → AllPayload restart_kind owed_c → x.own ≡ false → rest ≡ owed ++ owed_c
    → GoodWhole flow role (record { me = x; you = y; out = link ++ rest; back = Restart a d ∷ ts }) → GoodWhole flow role (record { me = advanced first_use false x; you = y; out = link ++ (owed ++ RestartConfirmation ∷ []); back = ts })
learn_out flow role x y link ts rest owed owed_c a d plain ready e g =
    subst (λ (o : List Body). GoodWhole flow role (record { me = advanced first_use false x; you = y; out = o; back = ts })) (append_assoc link owed (RestartConfirmation ∷ []))
    (whole_learns flow role a d x y (link ++ owed) owed_c ts plain ready
    (subst (λ (o : List Body). GoodWhole flow role (record { me = x; you = y; out = o; back = Restart a d ∷ ts })) (ap (λ (q : List Body). link ++ q) e ∙ sym (append_assoc link owed owed_c)) g))

learns_at : (flow : Flow) (role : Role) (x y : Whole) (link ts rest : List Body) (l : Layer) (c : ℕ) (a d : ℕ) (relink : Bool) → l.relink ≡ relink → x.own ≡ false
    → GoodWhole flow role (record { me = x; you = y; out = link ++ rest; back = Restart a d ∷ ts }) → Settled x → Present l c x rest
    → Arrival flow role x y link ts (owes_restart (Some RestartConfirmation) (record (all_closed Reason.FarRestart (unread l)) { served_last = 0 })) c (λ st. next_restart_of st)
learns_at flow role x y link ts rest l c a d false rl ready g s p = record {
  next = advanced first_use false x;
  rest = l.owed ++ RestartConfirmation ∷ [];
  good = learn_out flow role x y link ts rest l.owed p.owed a d p.plain ready (p.rest_is rl) g;
  settled = tt;
  frozen = λ f. frozen_next false x s f;
  history = λ st t. restart_history_tie false x st (laters flow role x y (link ++ rest) (Restart a d ∷ ts) g) t;
  present = record {
    phase_is = p.phase_is ∙ ap (λ (v : Bool). phase_of v) ready;
    owed = [];
    channel_is = nth_map l.channels c (shown (stored x) p.owed) closed_channel p.channel_is;
    plain = tt;
    restarts = owed_restart l.owed RestartConfirmation p.restarts tt;
    rest_is = λ h. sym (owed_said l.owed (Some RestartConfirmation) (set_if_false _ l.relink h).0) ∙ sym (append-nil _);
  };
}
learns_at flow role x y link ts rest l c a d true rl ready g s p = record {
  next = advanced first_use false x;
  rest = rest ++ RestartConfirmation ∷ [];
  good = learn_out flow role x y link ts rest rest [] a d tt ready (sym (append-nil rest)) g;
  settled = tt;
  frozen = λ f. frozen_next false x s f;
  history = λ st t. restart_history_tie false x st (laters flow role x y (link ++ rest) (Restart a d ∷ ts) g) t;
  present = record {
    phase_is = p.phase_is ∙ ap (λ (v : Bool). phase_of v) ready;
    owed = [];
    channel_is = nth_map l.channels c (shown (stored x) p.owed) closed_channel p.channel_is;
    plain = tt;
    restarts = owed_restart l.owed RestartConfirmation p.restarts tt;
    rest_is = λ h. absurd (true≢false (sym rl ∙ (set_if_false (passes_limit l.owed (Some RestartConfirmation)) l.relink h).1));
  };
}

pub confirmation_unexpected : (flow : Flow) (role : Role) (x y : Whole) (o ts : List Body) → x.own ≡ false → GoodWhole flow role (record { me = x; you = y; out = o; back = RestartConfirmation ∷ ts }) → ⊥
confirmation_unexpected flow role x y o ts e g =
    subst (λ (v : Bool). side_ok (λ s t. uses_ok flow role s t) Confirmation v x RestartConfirmation) e (whole_heard flow role (record { me = x; you = y; out = o; back = [] }) RestartConfirmation ts g).0

restart_arrives : (flow : Flow) (role : Role) (x y : Whole) (link ts rest : List Body) (l : Layer) (c : ℕ) (t : Body) (own : Bool) → IsRestart t → x.own ≡ own
    → GoodWhole flow role (record { me = x; you = y; out = link ++ rest; back = t ∷ ts }) → Settled x → Present l c x rest
    → Arrival flow role x y link ts (restart_packet (phase_of own) t (unread l)) c (λ st. restart_history (phase_of own) t st)
restart_arrives flow role x y link ts rest l c (Restart a d) true r e g s p = confirms_restart flow role x y link [] ts rest l c (Restart a d) tt e g s p
restart_arrives flow role x y link ts rest l c RestartConfirmation true r e g s p = confirms_restart flow role x y link [] ts rest l c RestartConfirmation tt e g s p
restart_arrives flow role x y link ts rest l c (Restart a d) false r e g s p =
    learns_at flow role x y link ts rest l c a d l.relink refl e g s p
restart_arrives flow role x y link ts rest l c RestartConfirmation false r e g s p = absurd (confirmation_unexpected flow role x y (link ++ rest) ts e g)
restart_arrives flow role x y link ts rest l c _ own r e g s p = absurd r

-- ---- a packet of the channel

pub discard_good : (flow : Flow) (role : Role) (x y : Whole) (o ts : List Body) (t : Body) → restart_kind t ≡ Payload → x.own ≡ true → GoodWhole flow role (record { me = x; you = y; out = o; back = t ∷ ts })
    → GoodWhole flow role (record { me = x; you = y; out = o; back = ts })
discard_good flow role x y o ts t k e g =
    subst (λ (v : Bool). GoodWhole flow role (does (record { me = x; you = y; out = o; back = ts }) (side_hears RestartConfirmation first_use (λ s t. uses_hear flow role s t) Payload v x t))) e
    (subst (λ (q : Kind). GoodWhole flow role (does (record { me = x; you = y; out = o; back = ts }) (side_hears RestartConfirmation first_use (λ s t. uses_hear flow role s t) q x.own x t))) k
    (whole_heard flow role (record { me = x; you = y; out = o; back = [] }) t ts g).1)

says_payload : (flow : Flow) (role : Role) (own : Bool) (x : Whole) (t : Body) → handshake.SaysPayload restart_kind (side_hears RestartConfirmation first_use (λ s b. uses_hear flow role s b) Payload own x t).says
says_payload flow role true x t = tt
says_payload flow role false x t = uses_say (λ o. handshake.SaysPayload restart_kind o) tt refl refl flow role x.now t

pub says_plain : (flow : Flow) (role : Role) (x : Whole) (t : Body) → restart_kind t ≡ Payload → handshake.SaysPayload restart_kind (whole_hears flow role x t).says
says_plain flow role x t k = subst (λ (q : Kind). handshake.SaysPayload restart_kind (side_hears RestartConfirmation first_use (λ s b. uses_hear flow role s b) q x.own x t).says) (sym k) (says_payload flow role x.own x t)

pub ties_of : (flow : Flow) (role : Role) (x y : Whole) (o ts : List Body) (c : ℕ) (owed : List Body) (t : Body) → restart_kind t ≡ Payload → x.own ≡ false → Settled x
    → GoodWhole flow role (record { me = x; you = y; out = o; back = t ∷ ts }) → Ties role flow c x owed t
ties_of flow role x y o ts c owed t k e s g =
    let path : x ≡ record x { own = false } = own_path x false e in
    subst (λ (n : Whole). Ties role flow c n owed t) (sym path)
    (received_at role flow c x.now.own x.now.now.stage x.now.now.call.own x owed t k
    (subst (λ (n : Whole). Laters n) path (laters flow role x y o (t ∷ ts) g))
    (subst (λ (v : Bool). SettledWhole v x.now) e s)
    (subst (λ (n : Whole). whole_ok flow role n t) path (whole_heard flow role (record { me = x; you = y; out = o; back = [] }) t ts g).0))

-- no earlier restart is touched
past_heard : (flow : Flow) (role : Role) (k : Kind) (own : Bool) (x : Whole) (t : Body) → k ≡ Payload → (side_hears RestartConfirmation first_use (λ s b. uses_hear flow role s b) k own x t).end_.past ≡ x.past
past_heard flow role Payload true x t e = refl
past_heard flow role Payload false x t e = refl
past_heard flow role Request own x t e = absurd cc
past_heard flow role Confirmation own x t e = absurd cc

channel_arrives : (flow : Flow) (role : Role) (x y : Whole) (link ts rest : List Body) (l : Layer) (c : ℕ) (t : Body) (own : Bool) → l.role ≡ role → l.flow ≡ flow → restart_kind t ≡ Payload → x.own ≡ own
    → GoodWhole flow role (record { me = x; you = y; out = link ++ rest; back = t ∷ ts }) → Settled x → Present l c x rest
    → Arrival flow role x y link ts (on_channel (phase_of own) (unread l) c (λ ch. received role flow c ch t)) c (λ st. channel_history (phase_of own) (channel_of l c) (λ ch z. received_history role flow c ch t z) st)
channel_arrives flow role x y link ts rest l c t true ro wi k e g s p = record {
  next = x;
  rest = rest;
  good = discard_good flow role x y (link ++ rest) ts t k e g;
  settled = s;
  frozen = λ f. f;
  history = λ st q. q;
  present = record { phase_is = p.phase_is; owed = p.owed; channel_is = p.channel_is; plain = p.plain; restarts = p.restarts; rest_is = p.rest_is };
}
channel_arrives flow role x y link ts rest l c t false ro wi k e g s p =
    let ch : Channel = shown (stored x) p.owed in
    let st : Step = received role flow c ch t in
    let ties = ties_of flow role x y (link ++ rest) ts c p.owed t k e s g in
    let says : Option Body = (whole_hears flow role x t).says in
    let x' : Whole = (whole_hears flow role x t).end_ in
    let good' = (whole_heard flow role (record { me = x; you = y; out = link ++ rest; back = [] }) t ts g).1 in
    let owing_is : owing st ≡ shown (stored x') (with_owed p.owed says) =
    ap (λ (q : Channel). record q { owed = with_owed q.owed st.owes }) ties.channel_is ∙ ap (λ (o : Option Body). shown (stored x') (with_owed p.owed o)) ties.owes_is in
    let limit : passes_limit st.channel.owed st.owes ≡ false → passes_limit p.owed says ≡ false = λ h.
    sym (ap (λ (q : Channel). passes_limit q.owed st.owes) ties.channel_is ∙ ap (λ (o : Option Body). passes_limit p.owed o) ties.owes_is) ∙ h in
    subst (λ (found : Option Channel). Arrival flow role x y link ts (on_found (unread l) c (λ q. received role flow c q t) found) c (λ z. found_history found (λ q v. received_history role flow c q t v) z)) (sym p.channel_is)
    (record {
      next = x';
      rest = said says rest;
      good = subst (λ (o : List Body). GoodWhole flow role (record { me = x'; you = y; out = o; back = ts })) (said_append link rest says) good';
      settled = ties.settled;
      frozen = λ f. frozen_same x x' (past_heard flow role (restart_kind t) x.own x t k) f;
      history = ties.history;
      present = record {
        phase_is = p.phase_is ∙ ap (λ (v : Bool). phase_of v) (e ∙ sym ties.ready);
        owed = with_owed p.owed says;
        channel_is = nth_same l.channels c ch (owing st) p.channel_is ∙ ap (λ (q : Channel). Some q) owing_is;
        plain = owed_payload p.owed says p.plain (says_plain flow role x t k);
        restarts = p.restarts;
        rest_is = λ h.
            let z = set_if_false (passes_limit st.channel.owed st.owes) l.relink h in
            ap (λ (q : List Body). said says q) (p.rest_is z.1) ∙ said_append l.owed p.owed says ∙ ap (λ (q : List Body). l.owed ++ q) (sym (owed_said p.owed says (limit z.0)));
      };
    })

-- ---- any packet

-- what a packet of another channel leaves of this one
abbrev Stays : Layer → Layer → ℕ → Type 0
Stays l l' c = (l'.phase ≡ l.phase) × (channel_of l' c ≡ channel_of l c) × (l'.owed ≡ l.owed) × (l'.relink ≡ false → l.relink ≡ false)

stays_found : (l : Layer) (c d : ℕ) (F : Channel → Step) → (c ≡ d → ⊥) → (found : Option Channel) → Stays l (on_found (unread l) d F found) c
stays_found l c d F ne None = (refl, refl, refl, λ h. h)
stays_found l c d F ne (Some ch) = (refl, nth_other l.channels c d (owing (F ch)) ne, refl, λ h. (set_if_false (passes_limit (F ch).channel.owed (F ch).owes) l.relink h).1)

stays : (l : Layer) (c : ℕ) (p : Packet) (F : Channel → Step) → (c ≡ p.channel → ⊥) → (ph : Phase) → Stays l (on_channel ph (unread l) p.channel F) c
stays l c p F ne PacketReady = stays_found l c p.channel F ne (channel_of l p.channel)
stays l c p F ne OwnRestart = (refl, refl, refl, λ h. h)
stays l c p F ne NoSession = (refl, refl, refl, λ h. h)

other_arrival : (flow : Flow) (role : Role) (x y : Whole) (link bs rest : List Body) (l : Layer) (c : ℕ) (p : Packet) (l' : Layer) (F : History → History) → (c ≡ p.channel → ⊥) → Stays l l' c
    → GoodWhole flow role (record { me = x; you = y; out = link ++ rest; back = bs }) → Settled x → Present l c x rest
    → Arrival flow role x y link bs l' c (λ st. cond (c == p.channel) (F st) st)
other_arrival flow role x y link bs rest l c p l' F ne k g s pr = record {
  next = x;
  rest = rest;
  good = g;
  settled = s;
  frozen = λ f. f;
  history = λ st t. subst (λ (v : Bool). HistoryTie x (cond v (F st) st)) (sym (ne_eqb c p.channel ne)) t;
  present = record {
    phase_is = k.0 ∙ pr.phase_is;
    owed = pr.owed;
    channel_is = k.1 ∙ pr.channel_is;
    plain = pr.plain;
    restarts = subst (λ (q : List Body). AllRestart q) (sym k.2) pr.restarts;
    rest_is = λ h. pr.rest_is (k.3 h) ∙ ap (λ (q : List Body). q ++ pr.owed) (sym k.2);
  };
}

any_arrival : (flow : Flow) (role : Role) (x y : Whole) (link bs back rest : List Body) (l : Layer) (c : ℕ) (p : Packet) (v0 v1 : Bool) → l.role ≡ role → l.flow ≡ flow
    → (p.channel == 0) ≡ v0 → (p.channel == c) ≡ v1 → WellOf v0 v1 p.body → back ≡ cond (v0 || v1) (p.body ∷ bs) bs
    → GoodWhole flow role (record { me = x; you = y; out = link ++ rest; back = back }) → Settled x → Present l c x rest
    → Arrival flow role x y link bs (cond v0 (restart_packet l.phase p.body (unread l)) (on_channel l.phase (unread l) p.channel (λ ch. received role flow p.channel ch p.body))) c
    (λ st. cond v0 (restart_history l.phase p.body st) (cond (c == p.channel) (channel_history l.phase (channel_of l p.channel) (λ ch z. received_history role flow p.channel ch p.body z) st) st))
any_arrival flow role x y link bs back rest l c p true v1 ro wi e0 e1 well b_is g s pr =
    subst (λ (ph : Phase). Arrival flow role x y link bs (restart_packet ph p.body (unread l)) c (λ st. restart_history ph p.body st)) (sym pr.phase_is)
    (restart_arrives flow role x y link bs rest l c p.body x.own well refl (subst (λ (q : List Body). GoodWhole flow role (record { me = x; you = y; out = link ++ rest; back = q })) b_is g) s pr)
any_arrival flow role x y link bs back rest l c p false true ro wi e0 e1 well b_is g s pr =
    let here : c ≡ p.channel = sym (eqb-true p.channel c e1) in
    subst (λ (ph : Phase). Arrival flow role x y link bs (on_channel ph (unread l) p.channel (λ ch. received role flow p.channel ch p.body)) c
    (λ st. cond (c == p.channel) (channel_history ph (channel_of l p.channel) (λ ch z. received_history role flow p.channel ch p.body z) st) st)) (sym pr.phase_is)
    (subst (λ (k : ℕ). Arrival flow role x y link bs (on_channel (phase_of x.own) (unread l) k (λ ch. received role flow k ch p.body)) c
    (λ st. cond (c == k) (channel_history (phase_of x.own) (channel_of l k) (λ ch z. received_history role flow k ch p.body z) st) st)) here
    (subst (λ (v : Bool). Arrival flow role x y link bs (on_channel (phase_of x.own) (unread l) c (λ ch. received role flow c ch p.body)) c
    (λ st. cond v (channel_history (phase_of x.own) (channel_of l c) (λ ch z. received_history role flow c ch p.body z) st) st)) (sym (same c))
    (channel_arrives flow role x y link bs rest l c p.body x.own ro wi well refl (subst (λ (q : List Body). GoodWhole flow role (record { me = x; you = y; out = link ++ rest; back = q })) b_is g) s pr)))
any_arrival flow role x y link bs back rest l c p false false ro wi e0 e1 well b_is g s pr =
    other_arrival flow role x y link bs rest l c p (on_channel l.phase (unread l) p.channel (λ ch. received role flow p.channel ch p.body)) _
    (λ h. eqb-false p.channel c e1 (sym h)) (stays l c p (λ ch. received role flow p.channel ch p.body) (λ h. eqb-false p.channel c e1 (sym h)) l.phase)
    (subst (λ (q : List Body). GoodWhole flow role (record { me = x; you = y; out = link ++ rest; back = q })) b_is g) s pr

-- ---- the link accepted the other end's next packet

pub drop_packet : (ps : List Packet) (a : ℕ) (p : Packet) → slice_get ps a ≡ Some p → drop a ps ≡ p ∷ drop (suc a) ps
drop_packet [] a p e = absurd cc
drop_packet (x ∷ ps) zero p e = ap (λ (z : Packet). z ∷ ps) (same_packet x p e)
  where
    same_packet : (x p : Packet) → Some x ≡ Some p → x ≡ p
    same_packet x p e = cc
drop_packet (x ∷ ps) (suc a) p e = drop_packet ps a p e

abbrev WellSome : ℕ → Option Packet → Type 0
WellSome c None = Unit {0}
WellSome c (Some p) = Well c p

pub well_get : (c : ℕ) (ps : List Packet) (a : ℕ) (p : Packet) → slice_get ps a ≡ Some p → AllWell c ps → Well c p
well_get c [] a p e h = absurd cc
well_get c (x ∷ ps) zero p e h = subst (λ (o : Option Packet). WellSome c o) e h.0
well_get c (x ∷ ps) (suc a) p e h = well_get c ps a p e h.1

suc_zero : (a : ℕ) → suc a ≡ 0 → ⊥
suc_zero a e = omega arith

pub cond_append : (v : Bool) (b : Body) (xs ys : List Body) → cond v (b ∷ xs) xs ++ ys ≡ cond v (b ∷ (xs ++ ys)) (xs ++ ys)
cond_append true b xs ys = refl
cond_append false b xs ys = refl

restart_same : (l : Layer) (c : ℕ) (ph : Phase) (t : Body) → SameLine l (restart_packet ph t l) c
restart_same l c PacketReady (Restart a d) = (refl, refl, λ t. (closed_channel, nth_map l.channels c t.0 closed_channel t.1), map_length l.channels)
restart_same l c PacketReady RestartConfirmation = (refl, refl, λ t. (closed_channel, nth_map l.channels c t.0 closed_channel t.1), map_length l.channels)
restart_same l c OwnRestart (Restart a d) = (refl, refl, λ t. t, refl)
restart_same l c OwnRestart RestartConfirmation = (refl, refl, λ t. t, refl)
restart_same l c ph _ = (refl, refl, λ t. t, refl)

on_same : (l : Layer) (c : ℕ) (p : Packet) (ph : Phase) → SameLine l (on_channel ph l p.channel (λ ch. received l.role l.flow p.channel ch p.body)) c
on_same l c p PacketReady = found_same l c p.channel (λ ch. received l.role l.flow p.channel ch p.body) (channel_of l p.channel)
on_same l c p OwnRestart = (refl, refl, λ t. t, refl)
on_same l c p NoSession = (refl, refl, λ t. t, refl)

pub packet_same : (l : Layer) (c : ℕ) (p : Packet) → SameLine l (on_packet l (Received.Whole p)) c
packet_same l c p =
    by_cond (λ (k : Layer). SameLine l k c) (p.channel == 0) _ _ (λ e. restart_same (unread l) c l.phase p.body) (λ e. on_same (unread l) c p l.phase)

arrives_now : (w : Line) (s c : ℕ) (p : Packet) → w.me.session ≡ Some s → next_of_session w s ≡ Some p → Tied w.me.layer.flow w.me.layer.role w s c → Tied w.me.layer.flow w.me.layer.role (record w { me = accepts s (Some p) w.me }) s c
arrives_now w s c p ses got t =
    let l : Layer = w.me.layer in
    let m = t.mine in
    let a : ℕ = w.me.accepted s in
    let link : List Body = on_c c (drop (w.you.accepted s) (w.me.offered s)) in
    let left : List Body = on_c c (drop (suc a) (w.you.offered s)) ++ t.yours.rest in
    let back_is : t.b ≡ cond ((p.channel == 0) || (p.channel == c)) (p.body ∷ left) left =
    t.yours.out_is ∙ ap (λ (q : List Packet). on_c c q ++ t.yours.rest) (drop_packet (w.you.offered s) a p got) ∙ cond_append ((p.channel == 0) || (p.channel == c)) p.body (on_c c (drop (suc a) (w.you.offered s))) t.yours.rest in
    let r = any_arrival l.flow l.role t.x t.y link left t.b m.rest l c p (p.channel == 0) (p.channel == c) refl refl refl refl (well_get c (w.you.offered s) a p got t.yours.well) back_is
    (subst (λ (o : List Body). GoodWhole l.flow l.role (record { me = t.x; you = t.y; out = o; back = t.b })) m.out_is t.good) m.settled (m.present ses) in
    let acc : cond (s == s) (a + 1) a ≡ suc a = ap (λ (v : Bool). cond v (a + 1) a) (same s) ∙ (omega arith) in
    let ls = packet_same l c p in
    record {
      x = r.next;
      y = t.y;
      o = link ++ r.rest;
      b = left;
      good = r.good;
      mine = record {
        role_is = ls.0;
        window_is = ls.1;
        there = ls.2 m.there;
        rest = r.rest;
        out_is = refl;
        well = m.well;
        within = m.within;
        history = subst (λ (v : Bool). HistoryTie r.next (cond v (packet_history l p c (w.me.histories s c)) (w.me.histories s c))) (sym (ap (λ (o : Option ℕ). is_session o s) ses ∙ same s)) (r.history (w.me.histories s c) m.history);
        settled = r.settled;
        frozen = r.frozen m.frozen;
        present = λ h. r.present;
        still = λ lt h. absurd (suc_zero a (sym acc ∙ h));
      };
      yours = subst (λ (k : ℕ). EndTie l.flow (other_of l.role) w.you k s c t.y left) (sym acc) (record {
        role_is = t.yours.role_is;
        window_is = t.yours.window_is;
        there = t.yours.there;
        rest = t.yours.rest;
        out_is = refl;
        well = t.yours.well;
        within = let h = slice_get_within (w.you.offered s) a p got in omega arith;
        history = t.yours.history;
        settled = t.yours.settled;
        frozen = t.yours.frozen;
        present = t.yours.present;
        still = t.yours.still;
      });
    }

pub arrives_some : (flow : Flow) (role : Role) (w : Line) (k s c : ℕ) (p : Packet) → w.me.session ≡ Some k → next_of_session w k ≡ Some p → Tied flow role w s c → Tied flow role (record w { me = accepts k (Some p) w.me }) s c
arrives_some flow role w k s c p ses got t =
    elim (cases_eq s k) [
      | inl e ↦
          let ses' : w.me.session ≡ Some s = ses ∙ ap (λ (j : ℕ). Some j) (sym e) in
          let got' : next_of_session w s ≡ Some p = subst (λ (j : ℕ). next_of_session w j ≡ Some p) (sym e) got in
          subst (λ (j : ℕ). Tied flow role (record w { me = accepts j (Some p) w.me }) s c) e
          (subst (λ (f : Flow). Tied f role (record w { me = accepts s (Some p) w.me }) s c) t.mine.window_is
          (subst (λ (r : Role). Tied w.me.layer.flow r (record w { me = accepts s (Some p) w.me }) s c) t.mine.role_is
          (arrives_now w s c p ses' got'
          (subst (λ (f : Flow). Tied f w.me.layer.role w s c) (sym t.mine.window_is) (subst (λ (r : Role). Tied flow r w s c) (sym t.mine.role_is) t)))))
      | inr ne ↦
          let ls = packet_same w.me.layer c p in
          let absent : is_session w.me.session s ≡ false = ap (λ (o : Option ℕ). is_session o s) ses ∙ ne_eqb s k ne in
          not_now flow role w (accepts k (Some p) w.me) s c (λ st. packet_history w.me.layer p c st) absent (λ h. session_other s k (ne_eqb s k ne) (sym ses ∙ h)) ls.0 ls.1 ls.2
          (refl, refl, ap (λ (v : Bool). cond v (w.me.accepted s + 1) (w.me.accepted s)) (ne_eqb s k ne), refl) t
    ]

arrives_packet : (flow : Flow) (role : Role) (w : Line) (k s c : ℕ) (o : Option Packet) → w.me.session ≡ Some k → next_of_session w k ≡ o → Tied flow role w s c → Tied flow role (record w { me = accepts k o w.me }) s c
arrives_packet flow role w k s c None ses got t = t
arrives_packet flow role w k s c (Some p) ses got t = arrives_some flow role w k s c p ses got t

arrives_by : (flow : Flow) (role : Role) (w : Line) (o : Option ℕ) (s c : ℕ) → w.me.session ≡ o → Tied flow role w s c → Tied flow role (arrives_in o w) s c
arrives_by flow role w None s c ses t = t
arrives_by flow role w (Some k) s c ses t = arrives_packet flow role w k s c (next_of_session w k) ses refl t

pub arrives_tied : (flow : Flow) (role : Role) (w : Line) (s c : ℕ) → Tied flow role w s c → Tied flow role (happens Arrives w) s c
arrives_tied flow role w s c t = arrives_by flow role w w.me.session s c refl t
