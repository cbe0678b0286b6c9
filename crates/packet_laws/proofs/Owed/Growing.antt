-- What an event of a layer makes of what it owes, and of what may come to it.
use Rattle.std.proofs.Common.{◌≡◌, ℕ, ◌≤◌, Bool, true, false, ◌&&◌, ◌==◌, List, [], ◌∷◌, ◌++◌, length, Option, Some, None, refl, sym, ap, subst, ◌∙◌, append-nil, arith, leb-true, true≢false, inl, inr}
use Rattle.std.proofs.lemmas.Bool.{eqb-true, cases_eq}
use Rattle.link_timers.specs.declared.role.Role.{Role}
use Rattle.link_timers.specs.declared.role.Role.TheVariants.{Dte, Dce}
use Rattle.data_transfer.specs.Packets.{CallParts, Body, Reason}
use Rattle.data_transfer.specs.Packets.Body.{Restart}
use Rattle.packet_channel.specs.Channel.{ChannelState, Channel, Step, Request, requested, clear_error, closed_channel, in_transfer, error_cause}
use Rattle.packet_channel.specs.Channel.ChannelState.{Ready, OwnWaiting, FarWaiting, Transfer, Collision, OwnClear}
use Rattle.packet_layer.specs.Layer.{Phase, Layer, Timer, channel_of, after_step, owing, on_found, with_owed, passes_limit, set_if, is_full, unread, restarting, all_closed, placing, placed_on, call, channel_given, is_free, is_ready, request, runs, runs_at, expired, on_timer, waits_for_call, waits_for_clear}
use Rattle.packet_layer.specs.Layer.Phase.{NoSession, PacketReady}
use Rattle.packet_layer.specs.Layer.Timer.{RestartTimer, CallTimer, ResetTimer, ClearTimer}
use Rattle.packet_laws.proofs.Handshakes.Handshake.{said}
use Rattle.packet_laws.proofs.Call.Saying.{and_parts, by_cond}
use Rattle.packet_laws.proofs.Line.Lines.{nth_same, nth_other, nth_map, owed_said, said_append}
use Rattle.packet_laws.proofs.Line.Outcomes.{Freed, free_is, given_ready, runs_found, runs_unread, some_same}
use Rattle.packet_laws.proofs.Owed.MayCome.{AllCome, Fits, few_three, longer_by}
use Rattle.packet_laws.proofs.Owed.Draining.{FitsIn}
use Rattle.packet_laws.proofs.Owed.Loosening.{all_restarted}
use Rattle.packet_laws.proofs.Owed.Turning.{Acts, MayEnd, request_acts, clear_acts, place_acts}

-- ---- how much is owed

fits_four : (ready : Bool) (s : ChannelState) (rs : Bool) (o : List Body) → FitsIn ready s rs o → length o ≤ 4
fits_four false s rs o f = let l = ap (λ (q : List Body). length q) f.2 in omega arith
fits_four true Ready false o f = f.0
fits_four true OwnClear false o f = f.0
fits_four true OwnWaiting rs o f = let h = few_three OwnWaiting rs o f (λ e. let n : ⊥ = cc in n) (λ e. let n : ⊥ = cc in n) in omega arith
fits_four true FarWaiting rs o f = let h = few_three FarWaiting rs o f (λ e. let n : ⊥ = cc in n) (λ e. let n : ⊥ = cc in n) in omega arith
fits_four true Collision rs o f = let h = few_three Collision rs o f (λ e. let n : ⊥ = cc in n) (λ e. let n : ⊥ = cc in n) in omega arith
fits_four true Transfer rs o f = let h = few_three Transfer rs o f (λ e. let n : ⊥ = cc in n) (λ e. let n : ⊥ = cc in n) in omega arith
fits_four true Ready true o f = absurd f
fits_four true OwnClear true o f = absurd f

not_full_at : (o : List Body) (v : Bool) → is_full o ≡ v → length o ≤ 3 → v ≡ false
not_full_at o true e h = let q = leb-true 4 (length o) e in let no : ⊥ = omega arith in absurd no
not_full_at o false e h = refl

pub not_full : (o : List Body) → length o ≤ 3 → is_full o ≡ false
not_full o h = not_full_at o (is_full o) refl h

within_limit : (o : List Body) (b : Option Body) → length (said b o) ≤ 4 → passes_limit o b ≡ false
within_limit o None h = refl
within_limit o (Some b) h = not_full o (let l = longer_by o b in omega arith)

said_end : (xs : List Body) (o : Option Body) → xs ++ said o [] ≡ said o xs
said_end xs None = append-nil xs
said_end xs (Some b) = refl

-- ---- the layer before and after

abbrev pub is_r1 : Phase → Bool
is_r1 PacketReady = true
is_r1 _ = false

abbrev pub FitsAt : Phase → Channel → Type 0
FitsAt ph ch = FitsIn (is_r1 ph) ch.state ch.resetting ch.owed

abbrev pub ComesTo : Role → Phase → Channel → List Body → Type 0
ComesTo role ph ch ts = AllCome role (is_r1 ph) ch.state ch.resetting ch.owed ts

-- a pipe that loses a tail, and to which a packet is added
pub record Grown (p q : List Body) : Type 0 where
  pub keep : List Body
  pub cut : List Body
  pub pushed : Option Body
  pub before : p ≡ keep ++ cut
  pub after : q ≡ keep ++ said pushed []

abbrev pub same_grown : (p : List Body) → Grown p p
same_grown p = record { keep = p; cut = []; pushed = None; before = sym (append-nil p); after = sym (append-nil p) }

pub record Turned (role : Role) (l l' : Layer) (c : ℕ) (ch : Channel) (before after : List Body) : Type 0 where
  pub next : Channel
  pub found : channel_of l' c ≡ Some next
  pub fits : FitsAt l'.phase next
  pub comes : ComesTo role l.phase ch before → ComesTo role l'.phase next after
  pub grown : Grown (l.owed ++ ch.owed) (l'.owed ++ next.owed)

pub record LayerEvent (role : Role) (l l' : Layer) : Type 0 where
  pub quiet : l'.relink ≡ false
  pub idle : l.phase ≡ NoSession → (l'.phase ≡ NoSession) × (l'.owed ≡ l.owed)
  pub turned : (c : ℕ) (ch : Channel) (ts : List Body) → channel_of l c ≡ Some ch → Turned role l l' c ch ts ts

abbrev pub AllFit : Layer → Type 0
AllFit l = (c : ℕ) (ch : Channel) → channel_of l c ≡ Some ch → FitsAt l.phase ch

-- nothing of a channel changed
pub same_turned : (role : Role) (l l' : Layer) (c : ℕ) (ch : Channel) (ts : List Body) → l'.phase ≡ l.phase → l'.owed ≡ l.owed → channel_of l' c ≡ Some ch → FitsAt l.phase ch → Turned role l l' c ch ts ts
same_turned role l l' c ch ts ph ow found f = record {
  next = ch;
  found = found;
  fits = subst (λ (p : Phase). FitsAt p ch) (sym ph) f;
  comes = λ h. subst (λ (p : Phase). ComesTo role p ch ts) (sym ph) h;
  grown = subst (λ (q : List Body). Grown (l.owed ++ ch.owed) (q ++ ch.owed)) (sym ow) (same_grown (l.owed ++ ch.owed));
}

same_event : (role : Role) (l : Layer) → l.relink ≡ false → AllFit l → LayerEvent role l l
same_event role l rl fits = record { quiet = rl; idle = λ e. (e, refl); turned = λ c ch ts found. same_turned role l l c ch ts refl refl found (fits c ch found) }

-- ---- a step of a channel

abbrev pub ActsAt : Role → Phase → Channel → Step → List Body → List Body → Type 0
ActsAt role ph ch st before after = Acts role (is_r1 ph) ch.state ch.resetting ch.owed st before after

pub acts_limit : (role : Role) (ph : Phase) (ch : Channel) (st : Step) (before after : List Body) → ActsAt role ph ch st before after → passes_limit st.channel.owed st.owes ≡ false
acts_limit role ph ch st before after a =
    subst (λ (o : List Body). passes_limit o st.owes ≡ false) (sym a.owed_is) (within_limit ch.owed st.owes (fits_four (is_r1 ph) st.channel.state st.channel.resetting (said st.owes ch.owed) a.fits))

pub act_turned : (role : Role) (l : Layer) (d : ℕ) (ch : Channel) (st : Step) (before after : List Body) → channel_of l d ≡ Some ch → ActsAt role l.phase ch st before after → Turned role l (after_step l d st) d ch before after
act_turned role l d ch st before after found a =
    let all : with_owed st.channel.owed st.owes ≡ said st.owes ch.owed = owed_said st.channel.owed st.owes (acts_limit role l.phase ch st before after a) ∙ ap (λ (o : List Body). said st.owes o) a.owed_is in
    record {
      next = owing st;
      found = nth_same l.channels d ch (owing st) found;
      fits = subst (λ (o : List Body). FitsIn (is_r1 l.phase) st.channel.state st.channel.resetting o) (sym all) a.fits;
      comes = λ h. subst (λ (o : List Body). AllCome role (is_r1 l.phase) st.channel.state st.channel.resetting o after) (sym all) (a.comes h);
      grown = record {
        keep = l.owed ++ ch.owed;
        cut = [];
        pushed = st.owes;
        before = sym (append-nil (l.owed ++ ch.owed));
        after = ap (λ (o : List Body). l.owed ++ o) all ∙ sym (said_append l.owed ch.owed st.owes) ∙ sym (said_end (l.owed ++ ch.owed) st.owes);
      };
    }

-- in the other channels nothing changes
pub other_turned : (role : Role) (l : Layer) (c d : ℕ) (ch : Channel) (st : Step) (ts : List Body) → (c ≡ d → ⊥) → channel_of l c ≡ Some ch → FitsAt l.phase ch → Turned role l (after_step l d st) c ch ts ts
other_turned role l c d ch st ts ne found f = same_turned role l (after_step l d st) c ch ts refl refl (nth_other l.channels c d (owing st) ne ∙ found) f

step_turned : (role : Role) (l : Layer) (d : ℕ) (here : Channel) (st : Step) → AllFit l → channel_of l d ≡ Some here → ((ts : List Body) → ActsAt role l.phase here st ts ts) → (c : ℕ) (ch : Channel) (ts : List Body) → channel_of l c ≡ Some ch → Turned role l (after_step l d st) c ch ts ts
step_turned role l d here st fits is acts c ch ts found =
    elim (cases_eq c d) [
      | inl e ↦
          let found' : channel_of l d ≡ Some ch = subst (λ (k : ℕ). channel_of l k ≡ Some ch) e found in
          subst (λ (k : ℕ). Turned role l (after_step l d st) k ch ts ts) (sym e)
          (act_turned role l d ch st ts ts found' (subst (λ (q : Channel). ActsAt role l.phase q st ts ts) (some_same here ch (sym is ∙ found')) (acts ts)))
      | inr ne ↦ other_turned role l c d ch st ts ne found (fits c ch found)
    ]

found_at : (role : Role) (l : Layer) (d : ℕ) (F : Channel → Step) (found : Option Channel) → l.relink ≡ false → AllFit l → channel_of l d ≡ found → ((ch : Channel) → channel_of l d ≡ Some ch → (ts : List Body) → ActsAt role l.phase ch (F ch) ts ts) → LayerEvent role l (on_found l d F found)
found_at role l d F None rl fits e acts = same_event role l rl fits
found_at role l d F (Some ch) rl fits e acts = record {
  quiet = ap (λ (v : Bool). set_if v l.relink) (acts_limit role l.phase ch (F ch) [] [] (acts ch e [])) ∙ rl;
  idle = λ h. (h, refl);
  turned = λ c q ts found. step_turned role l d ch (F ch) fits e (λ us. acts ch e us) c q ts found;
}

found_event : (role : Role) (l : Layer) (d : ℕ) (F : Channel → Step) → l.relink ≡ false → AllFit l → ((ch : Channel) → channel_of l d ≡ Some ch → (ts : List Body) → ActsAt role l.phase ch (F ch) ts ts) → LayerEvent role l (on_found l d F (channel_of l d))
found_event role l d F rl fits acts = found_at role l d F (channel_of l d) rl fits refl acts

-- ---- a request, a call

pub request_event : (role : Role) (l : Layer) (d : ℕ) (r : Request) → l.role ≡ role → l.relink ≡ false → AllFit l → LayerEvent role l (request l d r)
request_event role l d r is rl fits =
    subst (λ (q : Role). LayerEvent role l (on_found l d (λ ch. requested q l.flow ch r) (channel_of l d))) (sym is)
    (found_event role l d (λ ch. requested role l.flow ch r) rl fits (λ ch e ts. request_acts role l.flow (is_r1 l.phase) ch.state ch.resetting ch.owed ch.traffic r ts (fits d ch e)))

ready_is : (s : ChannelState) → is_ready s ≡ true → s ≡ Ready
ready_is Ready e = refl
ready_is OwnWaiting e = absurd (true≢false (sym e))
ready_is FarWaiting e = absurd (true≢false (sym e))
ready_is Transfer e = absurd (true≢false (sym e))
ready_is Collision e = absurd (true≢false (sym e))
ready_is OwnClear e = absurd (true≢false (sym e))

empty_is : (o : List Body) → length o ≡ 0 → o ≡ []
empty_is [] e = refl
empty_is (b ∷ o) e = let no : ⊥ = omega arith in absurd no

placed_acts : (role : Role) (s : ChannelState) (rs : Bool) (ch : Channel) (parts : CallParts) (ts : List Body) → s ≡ Ready → ch.state ≡ s → ch.owed ≡ [] → Fits ch.state ch.resetting ch.owed → Acts role true ch.state ch.resetting ch.owed (placing parts ch) ts ts
placed_acts role s rs ch parts ts e is o f =
    subst (λ (q : ChannelState). Acts role true q ch.resetting ch.owed (placing parts (record ch { state = q })) ts ts) (sym (is ∙ e))
    (place_acts role ch.resetting ch.owed ch.traffic parts ts o (subst (λ (q : ChannelState). Fits q ch.resetting ch.owed) (is ∙ e) f))

placed_event : (role : Role) (l : Layer) (parts : CallParts) (o : Option ℕ) → l.relink ≡ false → AllFit l → ((d : ℕ) → o ≡ Some d → (l.phase ≡ PacketReady) × Freed l.channels d) → LayerEvent role l (placed_on l parts o)
placed_event role l parts None rl fits h = same_event role l rl fits
placed_event role l parts (Some d) rl fits h =
    let q = h d refl in
    found_event role l d (λ ch. placing parts ch) rl fits
    (λ ch e ts.
    let is : q.1.0 ≡ ch = some_same q.1.0 ch (sym q.1.1.0 ∙ e) in
    let free : is_free ch ≡ true = subst (λ (z : Channel). is_free z ≡ true) is q.1.1.1 in
    let p = and_parts (is_ready ch.state) (length ch.owed == 0) free in
    subst (λ (v : Bool). Acts role v ch.state ch.resetting ch.owed (placing parts ch) ts ts) (sym (ap (λ (ph : Phase). is_r1 ph) q.0))
    (placed_acts role ch.state ch.resetting ch parts ts (ready_is ch.state p.0) refl (empty_is ch.owed (eqb-true (length ch.owed) 0 p.1))
    (subst (λ (ph : Phase). FitsAt ph ch) q.0 (fits d ch e))))

pub call_event : (role : Role) (l : Layer) (parts : CallParts) → l.relink ≡ false → AllFit l → LayerEvent role l (call l parts)
call_event role l parts rl fits = placed_event role l parts (channel_given l l.phase) rl fits (λ d e. let q = given_ready l l.phase d e in (q.0, free_is l.role l.channels d q.1))

-- ---- a restart begun here

pub closed_grown : (owed owed_c : List Body) (b : Body) → length owed ≤ 2 → Grown (owed ++ owed_c) (with_owed owed (Some b) ++ [])
closed_grown owed owed_c b few = record {
  keep = owed;
  cut = owed_c;
  pushed = Some b;
  before = refl;
  after = append-nil (with_owed owed (Some b)) ∙ owed_said owed (Some b) (not_full owed (omega arith));
}

restart_event : (role : Role) (l : Layer) (cause diagnostic : ℕ) (reason : Reason) → l.phase ≡ PacketReady → l.relink ≡ false → length l.owed ≤ 2 → LayerEvent role l (restarting cause diagnostic (all_closed reason l))
restart_event role l cause diagnostic reason ready rl few = record {
  quiet = ap (λ (v : Bool). set_if v l.relink) (not_full l.owed (omega arith)) ∙ rl;
  idle = λ h. absurd (apart (sym ready ∙ h));
  turned = λ c ch ts found. record {
    next = closed_channel;
    found = nth_map l.channels c ch closed_channel found;
    fits = (refl, refl, refl);
    comes = λ h. all_restarted role ch.state ch.resetting ch.owed ts (subst (λ (ph : Phase). ComesTo role ph ch ts) ready h);
    grown = closed_grown l.owed ch.owed (Restart cause diagnostic) few;
  };
}
  where
    apart : PacketReady ≡ NoSession → ⊥
    apart e = cc

-- ---- an expiry

unread_event : (role : Role) (l l' : Layer) → LayerEvent role (unread l) l' → LayerEvent role l l'
unread_event role l l' e = record {
  quiet = e.quiet;
  idle = e.idle;
  turned = λ c ch ts found. let t = e.turned c ch ts found in record { next = t.next; found = t.found; fits = t.fits; comes = t.comes; grown = t.grown };
}

waiting_ends : (role : Role) (s : ChannelState) → waits_for_call role s ≡ true → MayEnd s
waiting_ends role OwnWaiting e = tt
waiting_ends Dte Collision e = tt
waiting_ends Dce Collision e = absurd (true≢false (sym e))
waiting_ends role FarWaiting e = tt
waiting_ends role Transfer e = tt
waiting_ends Dte Ready e = absurd (true≢false (sym e))
waiting_ends Dce Ready e = absurd (true≢false (sym e))
waiting_ends Dte OwnClear e = absurd (true≢false (sym e))
waiting_ends Dce OwnClear e = absurd (true≢false (sym e))

transfer_ends : (s : ChannelState) → in_transfer s ≡ true → MayEnd s
transfer_ends Transfer e = tt
transfer_ends OwnWaiting e = tt
transfer_ends FarWaiting e = tt
transfer_ends Collision e = tt
transfer_ends Ready e = absurd (true≢false (sym e))
transfer_ends OwnClear e = absurd (true≢false (sym e))

clears_event : (role : Role) (l : Layer) (d : ℕ) (test : Channel → Bool) → ((ch : Channel) → test ch ≡ true → MayEnd ch.state) → runs_at test l.phase (channel_of l d) ≡ true → l.role ≡ role → l.relink ≡ false → AllFit l
    → LayerEvent role l (on_found l d (λ ch. clear_error l.role d 0 true ch) (channel_of l d))
clears_event role l d test ends run is rl fits =
    let q = runs_found test l.phase (channel_of l d) run in
    subst (λ (r : Role). LayerEvent role l (on_found l d (λ ch. clear_error r d 0 true ch) (channel_of l d))) (sym is)
    (found_event role l d (λ ch. clear_error role d 0 true ch) rl fits
    (λ ch e ts.
    let same : q.1.0 ≡ ch = some_same q.1.0 ch (sym q.1.1.0 ∙ e) in
    let m : MayEnd ch.state = ends ch (subst (λ (z : Channel). test z ≡ true) same q.1.1.1) in
    subst (λ (v : Bool). Acts role v ch.state ch.resetting ch.owed (clear_error role d 0 true ch) ts ts) (sym (ap (λ (ph : Phase). is_r1 ph) q.0))
    (clear_acts role d ch.state ch.resetting ch.owed ch.traffic ts m (subst (λ (ph : Phase). FitsAt ph ch) q.0 (fits d ch e)))))

abbrev pub OtherTimer : Timer → Type 0
OtherTimer RestartTimer = ⊥
OtherTimer t = Unit {0}

expired_event : (role : Role) (l : Layer) (t : Timer) → OtherTimer t → runs l t ≡ true → l.role ≡ role → l.relink ≡ false → AllFit l → length l.owed ≤ 2 → LayerEvent role l (expired l t)
expired_event role l RestartTimer other run is rl fits few = absurd other
expired_event role l (CallTimer d) other run is rl fits few = clears_event role l d (λ ch. waits_for_call l.role ch.state) (λ ch e. waiting_ends l.role ch.state e) run is rl fits
expired_event role l (ResetTimer d) other run is rl fits few = clears_event role l d (λ ch. in_transfer ch.state && ch.resetting) (λ ch e. transfer_ends ch.state (and_parts (in_transfer ch.state) ch.resetting e).0) run is rl fits
expired_event role l (ClearTimer d) other run is rl fits few =
    restart_event role l (error_cause l.role 1) 0 Reason.LocalFault (runs_found (λ ch. waits_for_clear ch.state) l.phase (channel_of l d) run).0 rl few

pub timer_event : (role : Role) (l : Layer) (t : Timer) → OtherTimer t → l.role ≡ role → l.relink ≡ false → AllFit l → length l.owed ≤ 2 → LayerEvent role l (on_timer l t)
timer_event role l t other is rl fits few =
    by_cond (λ (k : Layer). LayerEvent role l k) (runs l t) (expired (unread l) t) l
    (λ e. unread_event role l (expired (unread l) t) (expired_event role (unread l) t other (runs_unread l t ∙ e) is rl fits few)) (λ e. same_event role l rl fits)
