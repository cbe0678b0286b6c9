-- What an event of the layer alone makes of a channel in the present session.
use Rattle.std.proofs.Common.{◌≡◌, ℕ, zero, suc, Bool, true, false, cond, ◌&&◌, ◌==◌, List, [], ◌∷◌, ◌++◌, Option, Some, None, refl, sym, ap, subst, ◌∙◌, append_assoc, append-nil, true≢false, inl, inr}
use Rattle.std.proofs.lemmas.Bool.{ne_eqb, cases_eq}
use Rattle.link_timers.specs.declared.role.Role.{Role}
use Rattle.link_timers.specs.declared.role.Role.TheVariants.{Dte, Dce}
use Rattle.data_transfer.specs.declared.flow.Flow.{Flow}
use Rattle.data_transfer.specs.Packets.{CallParts, Body, Reason}
use Rattle.data_transfer.specs.Packets.Body.{Call, Clear, Restart}
use Rattle.packet_channel.specs.Channel.{ChannelState, Channel, Step, Request, requested, clear_error, closed_channel, error_cause, in_transfer}
use Rattle.packet_channel.specs.Channel.ChannelState.{OwnClear}
use Rattle.packet_layer.specs.Layer.{Phase, Layer, Timer, nth_channel, channel_of, after_step, owing, on_found, with_owed, passes_limit, unread, restarting, all_closed, placing, placed_on, call, channel_given, free_channel, lowest_free, highest_free, is_free, is_ready, either_of, raised, itself_if, request, runs, runs_at, expired, on_timer, waits_for_call, waits_for_clear}
use Rattle.packet_layer.specs.Layer.Phase.{NoSession, OwnRestart, PacketReady}
use Rattle.packet_layer.specs.Layer.Timer.{RestartTimer, CallTimer, ResetTimer, ClearTimer}
use Rattle.packet_laws.specs.History.{History, request_history, requested_history, found_history, timer_history, expired_history, next_use_of, next_restart_of, placed, call_history}
use Rattle.packet_laws.proofs.Handshakes.Handshake.{said, AllPayload, advanced}
use Rattle.packet_laws.proofs.Handshakes.Keeping.{same}
use Rattle.packet_laws.proofs.Call.SetUp.{Stage}
use Rattle.packet_laws.proofs.Call.SetUp.Stage.{Free}
use Rattle.packet_laws.proofs.Call.Saying.{and_parts}
use Rattle.packet_laws.proofs.Call.Levels.{restart_kind, Whole, first_use, GoodWhole, whole_restarts}
use Rattle.packet_laws.proofs.Line.Stored.{stored, phase_of, shown, Settled, frozen_same, frozen_next, HistoryTie, Laters, laters, restart_history_tie}
use Rattle.packet_laws.proofs.Line.Acts.{Act, in_any, request_act, place_act, clear_act}
use Rattle.packet_laws.proofs.Line.Lines.{Present, Outcome, AllRestart, nth_same, nth_other, nth_map, set_if_false, owed_said, said_append, owed_payload, owed_restart}

-- ---- nothing of the channel changed

pub same_outcome : (flow : Flow) (role : Role) (x y : Whole) (link b rest : List Body) (l l' : Layer) (c : ℕ) (f : History → History)
    → ((st : History) → f st ≡ st) → l'.phase ≡ l.phase → channel_of l' c ≡ channel_of l c → l'.owed ≡ l.owed → (l'.relink ≡ false → l.relink ≡ false)
    → GoodWhole flow role (record { me = x; you = y; out = link ++ rest; back = b }) → Settled x → Present l c x rest → Outcome flow role x y link b l' c f
same_outcome flow role x y link b rest l l' c f id ph ch ow rl g s p = record {
  next = x;
  rest = rest;
  good = g;
  settled = s;
  frozen = λ f. f;
  history = λ st t. subst (λ (z : History). HistoryTie x z) (sym (id st)) t;
  present = record {
    phase_is = ph ∙ p.phase_is;
    owed = p.owed;
    channel_is = ch ∙ p.channel_is;
    plain = p.plain;
    restarts = subst (λ (q : List Body). AllRestart q) (sym ow) p.restarts;
    rest_is = λ h. p.rest_is (rl h) ∙ ap (λ (q : List Body). q ++ p.owed) (sym ow);
  };
  still = λ e. e;
}

-- ---- a step of this channel

pub act_outcome : (flow : Flow) (role : Role) (x y : Whole) (link b rest : List Body) (l : Layer) (c : ℕ) (st : Step) (f : History → History)
    → (p : Present l c x rest) → Act flow role x p.owed st.channel st.owes f
    → GoodWhole flow role (record { me = x; you = y; out = link ++ rest; back = b }) → Outcome flow role x y link b (after_step l c st) c f
act_outcome flow role x y link b rest l c st f p a g =
    let says : Option Body = a.did.says in
    let owed' : List Body = with_owed p.owed says in
    let owing_is : owing st ≡ shown (stored a.did.end_) owed' =
    ap (λ (ch : Channel). record ch { owed = with_owed ch.owed st.owes }) a.channel_is ∙ ap (λ (o : Option Body). shown (stored a.did.end_) (with_owed p.owed o)) a.owes_is in
    let limit : (passes_limit st.channel.owed st.owes ≡ false) → passes_limit p.owed says ≡ false = λ h.
    sym (ap (λ (ch : Channel). passes_limit ch.owed st.owes) a.channel_is ∙ ap (λ (o : Option Body). passes_limit p.owed o) a.owes_is) ∙ h in
    record {
      next = a.did.end_;
      rest = said says rest;
      good = subst (λ (o : List Body). GoodWhole flow role (record { me = a.did.end_; you = y; out = o; back = b })) (said_append link rest says) (a.keeps y (link ++ rest) b g);
      settled = a.settled;
      frozen = λ f. frozen_same x a.did.end_ a.past_is f;
      history = a.history;
      present = record {
        phase_is = p.phase_is ∙ ap (λ (v : Bool). phase_of v) (sym a.own_is);
        owed = owed';
        channel_is = nth_same l.channels c (shown (stored x) p.owed) (owing st) p.channel_is ∙ ap (λ (ch : Channel). Some ch) owing_is;
        plain = owed_payload p.owed says p.plain a.plain;
        restarts = p.restarts;
        rest_is = λ h.
            let z = set_if_false (passes_limit st.channel.owed st.owes) l.relink h in
            ap (λ (q : List Body). said says q) (p.rest_is z.1) ∙ said_append l.owed p.owed says ∙ ap (λ (q : List Body). l.owed ++ q) (sym (owed_said p.owed says (limit z.0)));
      };
      still = λ e. (a.idle (ap (λ (n : Whole). n.own) e)).0 ∙ e;
    }

-- ---- a step of another channel

pub other_outcome : (flow : Flow) (role : Role) (x y : Whole) (link b rest : List Body) (l : Layer) (c d : ℕ) (st : Step) (f : History → History)
    → ((z : History) → f z ≡ z) → (c ≡ d → ⊥) → GoodWhole flow role (record { me = x; you = y; out = link ++ rest; back = b }) → Settled x → Present l c x rest → Outcome flow role x y link b (after_step l d st) c f
other_outcome flow role x y link b rest l c d st f id ne g s p =
    same_outcome flow role x y link b rest l (after_step l d st) c f id refl (nth_other l.channels c d (owing st) ne) refl (λ h. (set_if_false _ l.relink h).1) g s p

pub other_found : (flow : Flow) (role : Role) (x y : Whole) (link b rest : List Body) (l : Layer) (c d : ℕ) (F : Channel → Step) (found : Option Channel) (f : History → History)
    → ((z : History) → f z ≡ z) → (c ≡ d → ⊥) → GoodWhole flow role (record { me = x; you = y; out = link ++ rest; back = b }) → Settled x → Present l c x rest → Outcome flow role x y link b (on_found l d F found) c f
other_found flow role x y link b rest l c d F None f id ne g s p = same_outcome flow role x y link b rest l l c f id refl refl refl (λ h. h) g s p
other_found flow role x y link b rest l c d F (Some ch) f id ne g s p = other_outcome flow role x y link b rest l c d (F ch) f id ne g s p

-- ---- a restart begun here

restart_out : (flow : Flow) (role : Role) (x y : Whole) (link b rest owed owed_c : List Body) (cause diagnostic : ℕ) → AllPayload restart_kind owed_c → x.own ≡ false → rest ≡ owed ++ owed_c
    → GoodWhole flow role (record { me = x; you = y; out = link ++ rest; back = b }) → GoodWhole flow role (record { me = advanced first_use true x; you = y; out = link ++ (owed ++ Restart cause diagnostic ∷ []); back = b })
restart_out flow role x y link b rest owed owed_c cause diagnostic plain ready e g =
    subst (λ (o : List Body). GoodWhole flow role (record { me = advanced first_use true x; you = y; out = o; back = b })) (append_assoc link owed (Restart cause diagnostic ∷ []))
    (whole_restarts flow role cause diagnostic x y (link ++ owed) owed_c b plain ready
    (subst (λ (o : List Body). GoodWhole flow role (record { me = x; you = y; out = o; back = b })) (ap (λ (q : List Body). link ++ q) e ∙ sym (append_assoc link owed owed_c)) g))

restart_at : (flow : Flow) (role : Role) (x y : Whole) (link b rest : List Body) (l : Layer) (c : ℕ) (cause diagnostic : ℕ) (reason : Reason) (relink : Bool) → l.relink ≡ relink → x.own ≡ false
    → GoodWhole flow role (record { me = x; you = y; out = link ++ rest; back = b }) → Settled x → Present l c x rest → Outcome flow role x y link b (restarting cause diagnostic (all_closed reason l)) c (λ st. next_restart_of st)
restart_at flow role x y link b rest l c cause diagnostic reason false rl ready g s p = record {
  next = advanced first_use true x;
  rest = l.owed ++ Restart cause diagnostic ∷ [];
  good = restart_out flow role x y link b rest l.owed p.owed cause diagnostic p.plain ready (p.rest_is rl) g;
  settled = refl;
  frozen = λ f. frozen_next true x s f;
  history = λ st t. restart_history_tie true x st (laters flow role x y (link ++ rest) b g) t;
  present = record {
    phase_is = refl;
    owed = [];
    channel_is = nth_map l.channels c (shown (stored x) p.owed) closed_channel p.channel_is;
    plain = tt;
    restarts = owed_restart l.owed (Restart cause diagnostic) p.restarts tt;
    rest_is = λ h. sym (owed_said l.owed (Some (Restart cause diagnostic)) (set_if_false _ l.relink h).0) ∙ sym (append-nil _);
  };
  still = λ e. absurd (true≢false (sym (ap (λ (n : Whole). n.own) e) ∙ ready));
}
restart_at flow role x y link b rest l c cause diagnostic reason true rl ready g s p = record {
  next = advanced first_use true x;
  rest = rest ++ Restart cause diagnostic ∷ [];
  good = restart_out flow role x y link b rest rest [] cause diagnostic tt ready (sym (append-nil rest)) g;
  settled = refl;
  frozen = λ f. frozen_next true x s f;
  history = λ st t. restart_history_tie true x st (laters flow role x y (link ++ rest) b g) t;
  present = record {
    phase_is = refl;
    owed = [];
    channel_is = nth_map l.channels c (shown (stored x) p.owed) closed_channel p.channel_is;
    plain = tt;
    restarts = owed_restart l.owed (Restart cause diagnostic) p.restarts tt;
    rest_is = λ h. absurd (true≢false (sym rl ∙ (set_if_false (passes_limit l.owed (Some (Restart cause diagnostic))) l.relink h).1));
  };
  still = λ e. absurd (true≢false (sym (ap (λ (n : Whole). n.own) e) ∙ ready));
}

pub restart_outcome : (flow : Flow) (role : Role) (x y : Whole) (link b rest : List Body) (l : Layer) (c : ℕ) (cause diagnostic : ℕ) (reason : Reason) → x.own ≡ false
    → GoodWhole flow role (record { me = x; you = y; out = link ++ rest; back = b }) → Settled x → Present l c x rest → Outcome flow role x y link b (restarting cause diagnostic (all_closed reason l)) c (λ st. next_restart_of st)
restart_outcome flow role x y link b rest l c cause diagnostic reason ready g s p = restart_at flow role x y link b rest l c cause diagnostic reason l.relink refl ready g s p

-- ---- a call placed

abbrev pub Freed : List Channel → ℕ → Type 0
Freed chs d = (ch : Channel) × ((nth_channel chs d ≡ Some ch) × (is_free ch ≡ true))

freed_up : (x : Channel) (xs : List Channel) (d : ℕ) → Freed xs d → Freed (x ∷ xs) (suc d)
freed_up x xs zero h = let e = h.1.0 in absurd cc
freed_up x xs (suc i) h = h

some_nat : (a b : ℕ) → Some a ≡ Some b → a ≡ b
some_nat a b e = cc

freed_raised : (x : Channel) (xs : List Channel) (o : Option ℕ) (d : ℕ) → ((k : ℕ) → o ≡ Some k → Freed xs k) → raised o ≡ Some d → Freed (x ∷ xs) d
freed_raised x xs None d ih e = absurd cc
freed_raised x xs (Some k) d ih e = subst (λ (j : ℕ). Freed (x ∷ xs) j) (some_nat (suc k) d e) (freed_up x xs k (ih k refl))

freed_first : (x : Channel) (xs : List Channel) (b : Bool) (d : ℕ) → is_free x ≡ b → itself_if b ≡ Some d → Freed (x ∷ xs) d
freed_first x xs true d f e = subst (λ (j : ℕ). Freed (x ∷ xs) j) (some_nat 1 d e) (x, (refl, f))
freed_first x xs false d f e = absurd cc

either_split : {T : Type 0} → (a b : Option ℕ) (d : ℕ) → (a ≡ Some d → T) → (b ≡ Some d → T) → either_of a b ≡ Some d → T
either_split None b d f g e = g e
either_split (Some n) b d f g e = f e

lowest_is : (chs : List Channel) (d : ℕ) → lowest_free chs ≡ Some d → Freed chs d
lowest_is [] d e = absurd cc
lowest_is (x ∷ xs) d e = either_split (itself_if (is_free x)) (raised (lowest_free xs)) d (λ h. freed_first x xs (is_free x) d refl h) (λ h. freed_raised x xs (lowest_free xs) d (λ k q. lowest_is xs k q) h) e

highest_is : (chs : List Channel) (d : ℕ) → highest_free chs ≡ Some d → Freed chs d
highest_is [] d e = absurd cc
highest_is (x ∷ xs) d e = either_split (raised (highest_free xs)) (itself_if (is_free x)) d (λ h. freed_raised x xs (highest_free xs) d (λ k q. highest_is xs k q) h) (λ h. freed_first x xs (is_free x) d refl h) e

pub free_is : (role : Role) (chs : List Channel) (d : ℕ) → free_channel role chs ≡ Some d → Freed chs d
free_is Dte chs d e = highest_is chs d e
free_is Dce chs d e = lowest_is chs d e

-- on a channel that is free in r1
place_any : (flow : Flow) (role : Role) (rown own : Bool) (s : Stage) (rs : Bool) (n : Whole) (owed : List Body) (parts : CallParts) → rown ≡ false → is_ready (stored (in_any rown own s rs n)).state ≡ true
    → Act flow role (in_any rown own s rs n) owed (placing parts (shown (stored (in_any rown own s rs n)) owed)).channel (Some (Call parts)) (λ st. placed parts st)
place_any flow role true own s rs n owed parts r e = absurd (true≢false r)
place_any flow role false true s rs n owed parts r e = absurd (true≢false (sym e))
place_any flow role false false Free rs n owed parts r e = place_act flow role rs n owed parts
place_any flow role false false _ rs n owed parts r e = absurd (true≢false (sym e))

pub ready_phase : (own : Bool) → phase_of own ≡ PacketReady → own ≡ false
ready_phase true e = absurd cc
ready_phase false e = refl

pub given_ready : (l : Layer) (ph : Phase) (d : ℕ) → channel_given l ph ≡ Some d → (ph ≡ PacketReady) × (free_channel l.role l.channels ≡ Some d)
given_ready l PacketReady d e = (refl, e)
given_ready l OwnRestart d e = absurd cc
given_ready l NoSession d e = absurd cc

pub some_same : (a b : Channel) → Some a ≡ Some b → a ≡ b
some_same a b e = cc

placed_here : (flow : Flow) (role : Role) (x y : Whole) (link b rest : List Body) (l : Layer) (c : ℕ) (parts : CallParts) → x.own ≡ false → Freed l.channels c
    → GoodWhole flow role (record { me = x; you = y; out = link ++ rest; back = b }) → Present l c x rest → Outcome flow role x y link b (on_found l c (λ ch. placing parts ch) (channel_of l c)) c (λ st. placed parts st)
placed_here flow role x y link b rest l c parts ready free g p =
    let ch : Channel = shown (stored x) p.owed in
    let is_ch : free.0 ≡ ch = some_same free.0 ch (sym free.1.0 ∙ p.channel_is) in
    let e : is_ready (stored x).state ≡ true = subst (λ (q : Channel). is_ready q.state ≡ true) is_ch (and_parts (is_ready free.0.state) _ free.1.1).0 in
    subst (λ (found : Option Channel). Outcome flow role x y link b (on_found l c (λ q. placing parts q) found) c (λ st. placed parts st)) (sym p.channel_is)
    (act_outcome flow role x y link b rest l c (placing parts ch) (λ st. placed parts st) p (place_any flow role x.own x.now.own x.now.now.stage x.now.now.call.own x p.owed parts ready e) g)

placed_at : (flow : Flow) (role : Role) (x y : Whole) (link b rest : List Body) (l : Layer) (c : ℕ) (parts : CallParts) (o : Option ℕ) → ((d : ℕ) → o ≡ Some d → (x.own ≡ false) × Freed l.channels d)
    → GoodWhole flow role (record { me = x; you = y; out = link ++ rest; back = b }) → Settled x → Present l c x rest → Outcome flow role x y link b (placed_on l parts o) c (λ st. call_history parts o c st)
placed_at flow role x y link b rest l c parts None h g s p = same_outcome flow role x y link b rest l l c (λ st. st) (λ st. refl) refl refl refl (λ q. q) g s p
placed_at flow role x y link b rest l c parts (Some d) h g s p =
    elim (cases_eq c d) [
      | inl e ↦ subst (λ (k : ℕ). Outcome flow role x y link b (on_found l k (λ ch. placing parts ch) (channel_of l k)) c (λ st. cond (c == k) (placed parts st) st)) e
          (subst (λ (v : Bool). Outcome flow role x y link b (on_found l c (λ ch. placing parts ch) (channel_of l c)) c (λ st. cond v (placed parts st) st)) (sym (same c)) (placed_here flow role x y link b rest l c parts (h d refl).0 (subst (λ (k : ℕ). Freed l.channels k) (sym e) (h d refl).1) g p))
      | inr ne ↦ other_found flow role x y link b rest l c d (λ ch. placing parts ch) (channel_of l d) (λ st. cond (c == d) (placed parts st) st) (λ st. ap (λ (v : Bool). cond v (placed parts st) st) (ne_eqb c d ne)) ne g s p
    ]

pub call_outcome : (flow : Flow) (role : Role) (x y : Whole) (link b rest : List Body) (l : Layer) (c : ℕ) (parts : CallParts)
    → GoodWhole flow role (record { me = x; you = y; out = link ++ rest; back = b }) → Settled x → Present l c x rest → Outcome flow role x y link b (call l parts) c (λ st. call_history parts (channel_given l l.phase) c st)
call_outcome flow role x y link b rest l c parts g s p =
    placed_at flow role x y link b rest l c parts (channel_given l l.phase)
    (λ d e. let q = given_ready l l.phase d e in (ready_phase x.own (sym p.phase_is ∙ q.0), free_is l.role l.channels d q.1)) g s p

-- ---- a request

request_here : (flow : Flow) (role : Role) (x y : Whole) (link b rest : List Body) (l : Layer) (c : ℕ) (r : Request) → l.role ≡ role → l.flow ≡ flow
    → GoodWhole flow role (record { me = x; you = y; out = link ++ rest; back = b }) → Settled x → Present l c x rest
    → Outcome flow role x y link b (on_found l c (λ ch. requested l.role l.flow ch r) (channel_of l c)) c (λ st. found_history (channel_of l c) (λ ch z. requested_history l.role l.flow ch r z) st)
request_here flow role x y link b rest l c r role_is flow_is g s p =
    let ch : Channel = shown (stored x) p.owed in
    subst (λ (found : Option Channel). Outcome flow role x y link b (on_found l c (λ q. requested l.role l.flow q r) found) c (λ st. found_history found (λ q z. requested_history l.role l.flow q r z) st)) (sym p.channel_is)
    (act_outcome flow role x y link b rest l c (requested l.role l.flow ch r) (λ st. requested_history l.role l.flow ch r st) p
    (subst (λ (q : Role). Act flow role x p.owed (requested q l.flow ch r).channel (requested q l.flow ch r).owes (λ st. requested_history q l.flow ch r st)) (sym role_is)
    (subst (λ (f : Flow). Act flow role x p.owed (requested role f ch r).channel (requested role f ch r).owes (λ st. requested_history role f ch r st)) (sym flow_is)
    (request_act flow role x p.owed r (laters flow role x y (link ++ rest) b g) s))) g)

pub request_outcome : (flow : Flow) (role : Role) (x y : Whole) (link b rest : List Body) (l : Layer) (c d : ℕ) (r : Request) → l.role ≡ role → l.flow ≡ flow
    → GoodWhole flow role (record { me = x; you = y; out = link ++ rest; back = b }) → Settled x → Present l c x rest → Outcome flow role x y link b (request l d r) c (λ st. request_history l d r c st)
request_outcome flow role x y link b rest l c d r role_is flow_is g s p =
    elim (cases_eq c d) [
      | inl e ↦ subst (λ (k : ℕ). Outcome flow role x y link b (request l k r) c (λ st. request_history l k r c st)) e
          (subst (λ (v : Bool). Outcome flow role x y link b (request l c r) c (λ st. cond v (found_history (channel_of l c) (λ ch z. requested_history l.role l.flow ch r z) st) st)) (sym (same c))
          (request_here flow role x y link b rest l c r role_is flow_is g s p))
      | inr ne ↦ other_found flow role x y link b rest l c d (λ ch. requested l.role l.flow ch r) (channel_of l d) (λ st. request_history l d r c st)
          (λ st. ap (λ (v : Bool). cond v (found_history (channel_of l d) (λ ch z. requested_history l.role l.flow ch r z) st) st) (ne_eqb c d ne)) ne g s p
    ]

-- ---- an expiry

clear_any : (flow : Flow) (role : Role) (rown own : Bool) (s : Stage) (rs : Bool) (n : Whole) (owed : List Body) (cause diagnostic : ℕ) (test : ChannelState → Bool) → rown ≡ false → test OwnClear ≡ false
    → test (stored (in_any rown own s rs n)).state ≡ true → Laters (in_any rown own s rs n)
    → Act flow role (in_any rown own s rs n) owed (record (shown (stored (in_any rown own s rs n)) owed) { state = OwnClear; resetting = false; traffic = Rattle.data_transfer.specs.Traffic.fresh }) (Some (Clear cause diagnostic)) (λ st. next_use_of st)
clear_any flow role true own s rs n owed cause diagnostic test r never e l = absurd (true≢false r)
clear_any flow role false true s rs n owed cause diagnostic test r never e l = absurd (true≢false (sym e ∙ never))
clear_any flow role false false s rs n owed cause diagnostic test r never e l = clear_act flow role s rs n owed cause diagnostic l

pub runs_found : (test : Channel → Bool) (ph : Phase) (found : Option Channel) → runs_at test ph found ≡ true → (ph ≡ PacketReady) × ((ch : Channel) × ((found ≡ Some ch) × (test ch ≡ true)))
runs_found test PacketReady (Some ch) e = (refl, (ch, (refl, e)))
runs_found test PacketReady None e = absurd (true≢false (sym e))
runs_found test OwnRestart found e = absurd (true≢false (sym e))
runs_found test NoSession found e = absurd (true≢false (sym e))

expiry_here : (flow : Flow) (role : Role) (x y : Whole) (link b rest : List Body) (l : Layer) (c k : ℕ) (test : ChannelState → Bool) → test OwnClear ≡ false → x.own ≡ false → test (stored x).state ≡ true
    → GoodWhole flow role (record { me = x; you = y; out = link ++ rest; back = b }) → Present l c x rest
    → Outcome flow role x y link b (on_found l c (λ ch. clear_error l.role k 0 true ch) (channel_of l c)) c (λ st. next_use_of st)
expiry_here flow role x y link b rest l c k test never ready e g p =
    subst (λ (found : Option Channel). Outcome flow role x y link b (on_found l c (λ q. clear_error l.role k 0 true q) found) c (λ st. next_use_of st)) (sym p.channel_is)
    (act_outcome flow role x y link b rest l c (clear_error l.role k 0 true (shown (stored x) p.owed)) (λ st. next_use_of st) p
    (clear_any flow role x.own x.now.own x.now.now.stage x.now.now.call.own x p.owed (error_cause l.role 19) 0 test ready never e (laters flow role x y (link ++ rest) b g)) g)

-- the expiry of a timer of channel d that clears its call
expiry_clears : (flow : Flow) (role : Role) (x y : Whole) (link b rest : List Body) (l : Layer) (c d : ℕ) (on_state : ChannelState → Bool) (test : Channel → Bool)
    → ((ch : Channel) → test ch ≡ true → on_state ch.state ≡ true) → on_state OwnClear ≡ false → runs_at test l.phase (channel_of l d) ≡ true
    → GoodWhole flow role (record { me = x; you = y; out = link ++ rest; back = b }) → Settled x → Present l c x rest
    → Outcome flow role x y link b (on_found l d (λ ch. clear_error l.role d 0 true ch) (channel_of l d)) c (λ st. cond (c == d) (next_use_of st) st)
expiry_clears flow role x y link b rest l c d on_state test means never run g s p =
    elim (cases_eq c d) [
      | inl e ↦
          let run_c : runs_at test l.phase (channel_of l c) ≡ true = subst (λ (k : ℕ). runs_at test l.phase (channel_of l k) ≡ true) (sym e) run in
          let q = runs_found test l.phase (channel_of l c) run_c in
          let ready : x.own ≡ false = ready_phase x.own (sym p.phase_is ∙ q.0) in
          let is_ch : q.1.0 ≡ shown (stored x) p.owed = some_same q.1.0 (shown (stored x) p.owed) (sym q.1.1.0 ∙ p.channel_is) in
          let st : on_state (stored x).state ≡ true = subst (λ (ch : Channel). on_state ch.state ≡ true) is_ch (means q.1.0 q.1.1.1) in
          subst (λ (k : ℕ). Outcome flow role x y link b (on_found l k (λ ch. clear_error l.role k 0 true ch) (channel_of l k)) c (λ z. cond (c == k) (next_use_of z) z)) e
          (subst (λ (v : Bool). Outcome flow role x y link b (on_found l c (λ ch. clear_error l.role c 0 true ch) (channel_of l c)) c (λ z. cond v (next_use_of z) z)) (sym (same c))
          (expiry_here flow role x y link b rest l c c on_state never ready st g p))
      | inr ne ↦ other_found flow role x y link b rest l c d (λ ch. clear_error l.role d 0 true ch) (channel_of l d) (λ z. cond (c == d) (next_use_of z) z)
          (λ z. ap (λ (v : Bool). cond v (next_use_of z) z) (ne_eqb c d ne)) ne g s p
    ]

waits_never : (role : Role) → waits_for_call role OwnClear ≡ false
waits_never Dte = refl
waits_never Dce = refl

expired_outcome : (flow : Flow) (role : Role) (x y : Whole) (link b rest : List Body) (l : Layer) (c : ℕ) (t : Timer) → runs l t ≡ true
    → GoodWhole flow role (record { me = x; you = y; out = link ++ rest; back = b }) → Settled x → Present l c x rest → Outcome flow role x y link b (expired l t) c (λ st. expired_history t c st)
expired_outcome flow role x y link b rest l c RestartTimer run g s p = same_outcome flow role x y link b rest l (record l { relink = true }) c (λ st. st) (λ st. refl) refl refl refl (λ h. absurd (true≢false h)) g s p
expired_outcome flow role x y link b rest l c (CallTimer d) run g s p =
    expiry_clears flow role x y link b rest l c d (λ st. waits_for_call l.role st) (λ ch. waits_for_call l.role ch.state) (λ ch e. e) (waits_never l.role) run g s p
expired_outcome flow role x y link b rest l c (ResetTimer d) run g s p =
    expiry_clears flow role x y link b rest l c d (λ st. in_transfer st) (λ ch. in_transfer ch.state && ch.resetting) (λ ch e. (and_parts (in_transfer ch.state) ch.resetting e).0) refl run g s p
expired_outcome flow role x y link b rest l c (ClearTimer d) run g s p =
    restart_outcome flow role x y link b rest l c (error_cause l.role 1) 0 Reason.LocalFault
    (ready_phase x.own (sym p.phase_is ∙ (runs_found (λ ch. waits_for_clear ch.state) l.phase (channel_of l d) run).0)) g s p

pub runs_unread : (l : Layer) (t : Timer) → runs (unread l) t ≡ runs l t
runs_unread l RestartTimer = refl
runs_unread l (CallTimer c) = refl
runs_unread l (ResetTimer c) = refl
runs_unread l (ClearTimer c) = refl

timer_at : (flow : Flow) (role : Role) (x y : Whole) (link b rest : List Body) (l : Layer) (c : ℕ) (t : Timer) (v : Bool) → runs l t ≡ v
    → GoodWhole flow role (record { me = x; you = y; out = link ++ rest; back = b }) → Settled x → Present l c x rest → Outcome flow role x y link b (cond v (expired (unread l) t) l) c (λ st. cond v (expired_history t c st) st)
timer_at flow role x y link b rest l c t true e g s p =
    expired_outcome flow role x y link b rest (unread l) c t (runs_unread l t ∙ e) g s
    (record { phase_is = p.phase_is; owed = p.owed; channel_is = p.channel_is; plain = p.plain; restarts = p.restarts; rest_is = p.rest_is })
timer_at flow role x y link b rest l c t false e g s p = same_outcome flow role x y link b rest l l c (λ st. st) (λ st. refl) refl refl refl (λ h. h) g s p

pub timer_outcome : (flow : Flow) (role : Role) (x y : Whole) (link b rest : List Body) (l : Layer) (c : ℕ) (t : Timer)
    → GoodWhole flow role (record { me = x; you = y; out = link ++ rest; back = b }) → Settled x → Present l c x rest → Outcome flow role x y link b (on_timer l t) c (λ st. timer_history l t c st)
timer_outcome flow role x y link b rest l c t g s p =
    timer_at flow role x y link b rest l c t (runs l t) refl g s p
