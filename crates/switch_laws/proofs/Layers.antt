-- What happens at a packet layer moves the legs of its channels as it moves the channels.
use Rattle.std.proofs.Common.{◌≡◌, ℕ, zero, suc, ◌⊎◌, inl, inr, Bool, true, false, cond, if◌then◌else◌, ◌==◌, List, [], ◌∷◌, map, length, Option, Some, None, is_some, refl, sym, ap, subst, ◌∙◌, true≢false, option_map, arith}
use Rattle.std.specs.Prelude.{slice_get}
use Rattle.std.proofs.lemmas.Option.{none-some, same_Some}
use Rattle.std.proofs.lemmas.Bool.{eqb-true}
use Rattle.link_timers.specs.declared.role.Role.{Role}
use Rattle.packet_codec.specs.Diagnostic.{no_information}
use Rattle.data_transfer.specs.declared.flow.Flow.{Flow}
use Rattle.data_transfer.specs.Packets.{CallParts, Body, Packet, Received}
use Rattle.data_transfer.specs.Packets.Body.{Clear, ClearConfirmation, Reset, ResetConfirmation, Restart, RestartConfirmation}
use Rattle.data_transfer.specs.Packets.Received.{Whole, Unknown, Faulty}
use Rattle.data_transfer.specs.Traffic.{hears}
use Rattle.packet_channel.specs.Channel.{ChannelState, Channel, Step, Request, Refusal, refusal, requested, received, unreadable, carried_out, unless, owing, closed_channel, clear_error, in_transfer, placing, is_free, is_ready, next_of}
use Rattle.packet_channel.specs.Channel.ChannelState.{Ready}
use Rattle.packet_layer.specs.Layer.{Layer, Phase, Timer, Next, nth_channel, channel_of, with_nth, channel_given, next_in, next_restart, serve, serve_found, next_number, packet_of, on_received, on_timer, expired, on_found, unread, runs, link_up, link_down, request, call, placed_on, restart_packet, on_channel}
use Rattle.packet_layer.specs.Layer.Phase.{NoSession, OwnRestart, PacketReady}
use Rattle.packet_layer.specs.Layer.Timer.{RestartTimer, CallTimer, ResetTimer, ClearTimer}
use Rattle.packet_laws.specs.History.{Epoch}
use Rattle.packet_laws.specs.Readable.{Every}
use Rattle.packet_laws.proofs.Call.Saying.{by_cond, and_parts}
use Rattle.packet_laws.proofs.Line.Lines.{nth_same, nth_other}
use Rattle.packet_laws.proofs.Line.Outcomes.{free_is, given_ready}
use Rattle.switch_lines.specs.Lines.{changed}
use Rattle.switch_laws.specs.Leg.{Leg, asked, asked_unless, opened, stepped, heard, misheard, heard_epoch, gave}
use Rattle.switch_laws.specs.World.{World, Shown, shown_of, shown_as, shown_on, Agrees, IsWorld, Act, MayHappen, MayAsk, after_act, after_acts, world_after, world_after_all, layer_after, leg_after, line_of, closed, restarted, came_in, cleared_if, ran_out, is_channel, placed_if, gave_if}
use Rattle.switch_laws.specs.World.Act.{Asks, Comes, Expires, GoesUp, GoesDown, Calls, Gives, Reads}
use Rattle.switch_laws.proofs.Lists.{get_changed, get_map, not_equal}
use Rattle.switch_laws.proofs.LegsByState.{start_good, asked_good, heard_good, misheard_good, gave_good}
use Rattle.switch_joins.proofs.Apart.{decided}
use Rattle.switch_lines.proofs.Places.{get_unchanged}

-- ---- one line

abbrev pub LineAgrees : Layer → (channel : ℕ) → Leg → Type 0
LineAgrees l c g = (s : Shown) → shown_as l (channel_of l c) ≡ Some s → Agrees s g

abbrev pub seen : Layer → Channel → Shown
seen l ch = record { role = l.role; flow = l.flow; channel = ch }

pub opened_shown : (o : Option Body) (g : Leg) → shown_of (opened o g) ≡ shown_of g
opened_shown None g = refl
opened_shown (Some (Reset cause diagnostic)) g = refl
opened_shown (Some ResetConfirmation) g = refl
opened_shown (Some (Clear cause diagnostic)) g = refl
opened_shown (Some ClearConfirmation) g = refl
opened_shown (Some _) g = refl

-- the leg moves as the channel of this line does
stepped_shown : (f : Shown → Step) (e : Epoch) (s : Shown) (g : Leg) → s ≡ shown_of g → record s { channel = owing (f s) } ≡ shown_of (stepped (f (shown_of g)) e g)
stepped_shown f e s g is = ap (λ (t : Shown). record t { channel = owing (f t) }) is ∙ sym (opened_shown (f (shown_of g)).owes (record g { channel = owing (f (shown_of g)); epoch = e }))

-- a step of channel d
one_channel : (l : Layer) (d c : ℕ) (step : Channel → Step) (found : Option Channel) (h : Leg → Leg) (g : Leg) → channel_of l d ≡ found
    → ((ch : Channel) → c ≡ d → channel_of l c ≡ Some ch → Agrees (seen l ch) g → Agrees (seen l (owing (step ch))) (h g))
    → LineAgrees l c g → LineAgrees (on_found l d step found) c (if c == d then h g else g)
one_channel l d c step None h g e f i s q = by_same (decided (c == d))
  where
    by_same : ((c == d) ≡ true) ⊎ ((c == d) ≡ false) → Agrees s (if c == d then h g else g)
    by_same (inl t) = absurd (none-some s (sym (ap (λ (o : Option Channel). shown_as l o) (ap (λ (k : ℕ). channel_of l k) (eqb-true c d t) ∙ e)) ∙ q))
    by_same (inr t) = subst (λ (b : Bool). Agrees s (if b then h g else g)) (sym t) (i s q)
one_channel l d c step (Some ch) h g e f i s q = by_same (decided (c == d))
  where
    by_same : ((c == d) ≡ true) ⊎ ((c == d) ≡ false) → Agrees s (if c == d then h g else g)
    by_same (inl t) =
        let same : c ≡ d = eqb-true c d t in
        let here : channel_of l c ≡ Some ch = ap (λ (k : ℕ). channel_of l k) same ∙ e in
        let after : nth_channel (with_nth l.channels d (owing (step ch))) c ≡ Some (owing (step ch)) =
        ap (λ (k : ℕ). nth_channel (with_nth l.channels d (owing (step ch))) k) same ∙ nth_same l.channels d ch (owing (step ch)) e in
        let is : seen l (owing (step ch)) ≡ s = same_Some _ _ (sym (ap (λ (o : Option Channel). shown_as l o) after) ∙ q) in
        subst (λ (b : Bool). Agrees s (if b then h g else g)) (sym t)
        (subst (λ (x : Shown). Agrees x (h g)) is (f ch same here (i (seen l ch) (ap (λ (o : Option Channel). shown_as l o) here))))
    by_same (inr t) =
        let other : nth_channel (with_nth l.channels d (owing (step ch))) c ≡ channel_of l c = nth_other l.channels c d (owing (step ch)) (not_equal c d t) in
        subst (λ (b : Bool). Agrees s (if b then h g else g)) (sym t) (i s (sym (ap (λ (o : Option Channel). shown_as l o) other) ∙ q))

-- all calls of the line close
pub all_close : (l after : Layer) (c : ℕ) (g : Leg) → after.role ≡ l.role → after.flow ≡ l.flow → after.channels ≡ map (λ ch. closed_channel) l.channels → LineAgrees l c g → LineAgrees after c (closed g)
all_close l after c g role flow channels i s q = by_found (channel_of l c) refl
  where
    mapped : (k : ℕ) (chs : List Channel) → nth_channel (map (λ ch. closed_channel) chs) k ≡ option_map (λ ch. closed_channel) (nth_channel chs k)
    mapped zero chs = refl
    mapped (suc k) chs = get_map (λ ch. closed_channel) chs k

    now : shown_as after (option_map (λ ch. closed_channel) (channel_of l c)) ≡ Some s
    now = sym (ap (λ (o : Option Channel). shown_as after o) (ap (λ (chs : List Channel). nth_channel chs c) channels ∙ mapped c l.channels)) ∙ q

    by_found : (found : Option Channel) → channel_of l c ≡ found → Agrees s (closed g)
    by_found None e = absurd (none-some s (sym (ap (λ (o : Option Channel). shown_as after (option_map (λ ch. closed_channel) o)) e) ∙ now))
    by_found (Some ch) e =
        let old = i (seen l ch) (ap (λ (o : Option Channel). shown_as l o) e) in
        let is : seen after closed_channel ≡ s = same_Some _ _ (sym (ap (λ (o : Option Channel). shown_as after (option_map (λ ch. closed_channel) o)) e) ∙ now) in
        record {
          shown = sym is ∙ (ap (λ (r : Role). record (seen after closed_channel) { role = r }) role ∙ (ap (λ (f : Flow). record (seen l closed_channel) { flow = f }) flow ∙ ap (λ (x : Shown). record x { channel = closed_channel }) old.shown));
          leg = start_good (closed g) old.leg.leg.flow (record { not_resetting = refl; traffic = refl; before = refl; epoch = refl });
        }

-- ---- asked

asked_unless_shown : (r : Option Refusal) (q : Request) (g : Leg) → record (shown_of g) { channel = owing (unless r (carried_out g.channel q) g.channel) } ≡ shown_of (asked_unless r q g)
asked_unless_shown (Some r) q g = refl
asked_unless_shown None q g = sym (opened_shown (carried_out g.channel q).owes _)

line_asks : (l : Layer) (d c : ℕ) (q : Request) (g : Leg) → MayAsk q → LineAgrees l c g → LineAgrees (request l d q) c (if c == d then asked q g else g)
line_asks l d c q g m i =
    one_channel l d c (λ ch. requested l.role l.flow ch q) (channel_of l d) (λ x. asked q x) g refl
    (λ ch same here a. record {
      shown = ap (λ (t : Shown). record t { channel = owing (requested t.role t.flow t.channel q) }) a.shown ∙ asked_unless_shown (refusal g.role g.flow g.channel q) q g;
      leg = asked_good q g m a.leg;
    }) i

-- ---- heard

line_restarts : (p : Body) (l : Layer) (c : ℕ) (g : Leg) → LineAgrees l c g → LineAgrees (restart_packet PacketReady p l) c (restarted p g)
line_restarts (Restart cause diagnostic) l c g i = all_close l (restart_packet PacketReady (Restart cause diagnostic) l) c g refl refl refl i
line_restarts RestartConfirmation l c g i = all_close l (restart_packet PacketReady RestartConfirmation l) c g refl refl refl i
line_restarts _ l c g i = i

line_hears : (p : Body) (l : Layer) (d c : ℕ) (g : Leg) → LineAgrees l c g
    → LineAgrees (on_found l d (λ ch. received l.role l.flow d ch p) (channel_of l d)) c (if c == d then heard c p g else g)
line_hears p l d c g i =
    one_channel l d c (λ ch. received l.role l.flow d ch p) (channel_of l d) (λ x. heard c p x) g refl
    (λ ch same here a. record {
      shown = ap (λ (k : ℕ). seen l (owing (received l.role l.flow k ch p))) (sym same) ∙ stepped_shown (λ t. received t.role t.flow c t.channel p) (heard_epoch g.channel.state g.channel.resetting (hears g.flow g.channel.traffic p) g.epoch) (seen l ch) g a.shown;
      leg = heard_good c p g a.leg;
    }) i

line_mishears : (unknown : Bool) (l : Layer) (d c : ℕ) (g : Leg) → LineAgrees l c g
    → LineAgrees (on_found l d (λ ch. unreadable l.role d unknown ch) (channel_of l d)) c (if c == d then misheard c unknown g else g)
line_mishears unknown l d c g i =
    one_channel l d c (λ ch. unreadable l.role d unknown ch) (channel_of l d) (λ x. misheard c unknown x) g refl
    (λ ch same here a. record {
      shown = ap (λ (k : ℕ). seen l (owing (unreadable l.role k unknown ch))) (sym same) ∙ stepped_shown (λ t. unreadable t.role c unknown t.channel) g.epoch (seen l ch) g a.shown;
      leg = misheard_good c unknown g a.leg;
    }) i

by_both : {X Y : Type 0} (P : X → Y → Type 0) (b : Bool) (x x' : X) (y y' : Y) → P x y → P x' y' → P (cond b x x') (if b then y else y')
by_both P true x x' y y' f g = f
by_both P false x x' y y' f g = g

restart_same : (p : Body) (l : Layer) (c : ℕ) (g : Leg) → LineAgrees l c g → LineAgrees (restart_packet OwnRestart p l) c g
restart_same (Restart cause diagnostic) l c g i = i
restart_same RestartConfirmation l c g i = i
restart_same _ l c g i = i

line_whole : (phase : Phase) (p : Packet) (l : Layer) (c : ℕ) (g : Leg) → LineAgrees l c g
    → LineAgrees (cond (p.channel == 0) (restart_packet phase p.body l) (on_channel phase l p.channel (λ ch. received l.role l.flow p.channel ch p.body))) c (came_in phase (Whole p) c g)
line_whole PacketReady p l c g i =
    by_both (λ (x : Layer) (y : Leg). LineAgrees x c y) (p.channel == 0) _ _ _ _ (line_restarts p.body l c g i) (line_hears p.body l p.channel c g i)
line_whole OwnRestart p l c g i = by_cond (λ (x : Layer). LineAgrees x c g) (p.channel == 0) _ _ (λ h. restart_same p.body l c g i) (λ h. i)
line_whole NoSession p l c g i = by_cond (λ (x : Layer). LineAgrees x c g) (p.channel == 0) _ _ (λ h. i) (λ h. i)

line_unread : (phase : Phase) (d : ℕ) (unknown : Bool) (l : Layer) (c : ℕ) (g : Leg) → LineAgrees l c g → LineAgrees (on_channel phase l d (λ ch. unreadable l.role d unknown ch)) c (came_in phase (if unknown then Unknown d else Faulty d) c g)
line_unread PacketReady d true l c g i = line_mishears true l d c g i
line_unread PacketReady d false l c g i = line_mishears false l d c g i
line_unread OwnRestart d unknown l c g i = i
line_unread NoSession d unknown l c g i = i

line_comes : (r : Received) (l : Layer) (c : ℕ) (g : Leg) → LineAgrees l c g → LineAgrees (unread (on_received (unread l) r)) c (came_in l.phase r c g)
line_comes (Whole p) l c g i = line_whole l.phase p (unread l) c g i
line_comes (Unknown d) l c g i = line_unread l.phase d true (unread l) c g i
line_comes (Faulty d) l c g i = line_unread l.phase d false (unread l) c g i

-- ---- a timer

line_clears : (l : Layer) (d c : ℕ) (g : Leg) → LineAgrees l c g → LineAgrees (on_found l d (λ ch. clear_error l.role d no_information true ch) (channel_of l d)) c (cleared_if (c == d) c g)
line_clears l d c g i =
    one_channel l d c (λ ch. clear_error l.role d no_information true ch) (channel_of l d) (λ x. stepped (clear_error x.role c no_information true x.channel) x.epoch x) g refl
    (λ ch same here a. record {
      shown = stepped_shown (λ t. clear_error t.role c no_information true t.channel) g.epoch (seen l ch) g a.shown;
      leg = start_good (stepped (clear_error g.role c no_information true g.channel) g.epoch g) a.leg.leg.flow (record { not_resetting = refl; traffic = refl; before = refl; epoch = refl });
    }) i

line_expired : (t : Timer) (l : Layer) (c : ℕ) (g : Leg) → LineAgrees l c g → LineAgrees (expired l t) c (ran_out t c g)
line_expired RestartTimer l c g i = i
line_expired (CallTimer d) l c g i = line_clears l d c g i
line_expired (ResetTimer d) l c g i = line_clears l d c g i
line_expired (ClearTimer d) l c g i = all_close l (expired l (ClearTimer d)) c g refl refl refl i

line_expires : (t : Timer) (l : Layer) (c : ℕ) (g : Leg) → LineAgrees l c g → LineAgrees (unread (on_timer l t)) c (if runs l t then ran_out t c g else g)
line_expires t l c g i = by_both (λ (x : Layer) (y : Leg). LineAgrees (unread x) c y) (runs l t) _ _ _ _ (line_expired t (unread l) c g i) i

-- ---- a call is placed

pub not_in_transfer : (s : ChannelState) → is_ready s ≡ true → in_transfer s ≡ false
not_in_transfer Ready e = refl
not_in_transfer s e = absurd (true≢false (sym e))

line_places : (o : Option ℕ) (parts : CallParts) (l : Layer) (c : ℕ) (g : Leg) → ((d : ℕ) → o ≡ Some d → (ch : Channel) × ((channel_of l d ≡ Some ch) × (is_free ch ≡ true)))
    → LineAgrees l c g → LineAgrees (placed_on l parts o) c (placed_if (is_channel o c) parts g)
line_places None parts l c g free i = i
line_places (Some d) parts l c g free i =
    one_channel l d c (λ ch. placing parts ch) (channel_of l d) (λ x. stepped (placing parts x.channel) x.epoch x) g refl
    (λ ch same here a.
    let f = free d refl in
    let is : f.0 ≡ ch = same_Some _ _ (sym f.1.0 ∙ (ap (λ (k : ℕ). channel_of l k) (sym same) ∙ here)) in
    let ready : is_ready ch.state ≡ true = (and_parts (is_ready ch.state) _ (subst (λ (x : Channel). is_free x ≡ true) is f.1.1)).0 in
    let st = a.leg.start (not_in_transfer g.channel.state (ap (λ (t : Shown). is_ready t.channel.state) (sym a.shown) ∙ ready)) in
    record {
      shown = stepped_shown (λ t. placing parts t.channel) g.epoch (seen l ch) g a.shown;
      leg = start_good (stepped (placing parts g.channel) g.epoch g) a.leg.leg.flow (record { not_resetting = st.not_resetting; traffic = st.traffic; before = st.before; epoch = st.epoch });
    }) i

line_calls : (parts : CallParts) (l : Layer) (c : ℕ) (g : Leg) → LineAgrees l c g → LineAgrees (call l parts) c (placed_if (is_channel (channel_given l l.phase) c) parts g)
line_calls parts l c g i = line_places (channel_given l l.phase) parts l c g (λ d e. free_is l.role l.channels d (given_ready l l.phase d e).1) i

-- ---- a packet goes to the link

abbrev Gave : ℕ → Leg → Next → Type 0
Gave c g n = LineAgrees n.layer c (gave_if n.packet c g)

serve_one : (l : Layer) (d c : ℕ) (found : Option Channel) (others : Next) (g : Leg) → channel_of l d ≡ found → LineAgrees l c g → Gave c g others → Gave c g (serve_found l d found others)
serve_one l d c None others g e i o = o
serve_one l d c (Some ch) others g e i o = by_body (next_of l.flow ch).body
  where
    step : Channel → Step
    step x = record { channel = (next_of l.flow x).channel; owes = None; notes = [] }

    by_body : (b : Option Body) → Gave c g (cond (is_some b) (record { layer = record l { channels = with_nth l.channels d (next_of l.flow ch).channel; served_last = d }; packet = packet_of d b }) others)
    by_body None = o
    by_body (Some b) =
        one_channel l d c step (Some ch) (λ x. gave x) g e
        (λ x same here a. record { shown = ap (λ (t : Shown). record t { channel = (next_of t.flow t.channel).channel }) a.shown; leg = gave_good g a.leg }) i

serve_all : (k : ℕ) (l : Layer) (d c : ℕ) (g : Leg) → LineAgrees l c g → Gave c g (serve k l d)
serve_all zero l d c g i = i
serve_all (suc k) l d c g i = serve_one l d c (channel_of l d) (serve k l (next_number l d)) g refl i (serve_all k l (next_number l d) c g i)

-- restart packets are of no channel
restart_given : (owed : List Body) (l : Layer) (c : ℕ) (g : Leg) → LineAgrees l c g → Gave c g (next_restart owed l)
restart_given [] l c g i = serve_all (length l.channels) l (next_number l l.served_last) c g i
restart_given (b ∷ bs) l zero g i = λ s q. absurd (none-some s q)
restart_given (b ∷ bs) l (suc k) g i = λ s q. by_zero s q (decided (suc k == 0))
  where
    by_zero : (s : Shown) → shown_as l (channel_of l (suc k)) ≡ Some s → ((suc k == 0) ≡ true) ⊎ ((suc k == 0) ≡ false) → Agrees s (if suc k == 0 then gave g else g)
    by_zero s q (inl t) = let z = eqb-true (suc k) 0 t in absurd (omega arith)
    by_zero s q (inr t) = subst (λ (b : Bool). Agrees s (if b then gave g else g)) (sym t) (i s q)

line_gives_in : (phase : Phase) (relink : Bool) (l : Layer) (c : ℕ) (g : Leg) → LineAgrees l c g → Gave c g (next_in phase relink l)
line_gives_in NoSession relink l c g i = i
line_gives_in OwnRestart true l c g i = i
line_gives_in PacketReady true l c g i = i
line_gives_in OwnRestart false l c g i = restart_given l.owed l c g i
line_gives_in PacketReady false l c g i = restart_given l.owed l c g i

-- ---- all lines

line_acts : (a : Act) (l : Layer) (c : ℕ) (g : Leg) → MayHappen a → LineAgrees l c g → LineAgrees (layer_after a l) c (leg_after a (Some l) c g)
line_acts (Asks p q) l c g m i = line_asks l p.channel c q g m i
line_acts (Comes n r) l c g m i = line_comes r l c g i
line_acts (Expires n t) l c g m i = line_expires t l c g i
line_acts (GoesUp n) l c g m i = all_close l (unread (link_up l)) c g refl refl refl i
line_acts (GoesDown n) l c g m i = all_close l (unread (link_down l)) c g refl refl refl i
line_acts (Calls n parts) l c g m i = line_calls parts l c g i
line_acts (Gives n) l c g m i = line_gives_in l.phase l.relink l c g i
line_acts (Reads n) l c g m i = i

pub world_acts : (a : Act) (ys : List Layer) (w : World) → MayHappen a → IsWorld ys w → IsWorld (after_act a ys) (world_after a ys w)
world_acts a ys w m i x s q = by_line (decided (x.line == line_of a))
  where
    by_layer : (o : Option Layer) → slice_get ys x.line ≡ o → shown_on (option_map (λ l. layer_after a l) o) x.channel ≡ Some s → Agrees s (leg_after a o x.channel (w x))
    by_layer None e r = absurd (none-some s r)
    by_layer (Some l) e r = line_acts a l x.channel (w x) m (λ t z. i x t (ap (λ (o : Option Layer). shown_on o x.channel) e ∙ z)) s r

    by_line : ((x.line == line_of a) ≡ true) ⊎ ((x.line == line_of a) ≡ false) → Agrees s (world_after a ys w x)
    by_line (inl t) =
        let same = eqb-true x.line (line_of a) t in
        let got : slice_get (after_act a ys) x.line ≡ option_map (λ l. layer_after a l) (slice_get ys x.line) =
        subst (λ (k : ℕ). slice_get (changed k (λ l. layer_after a l) ys) x.line ≡ option_map (λ l. layer_after a l) (slice_get ys x.line)) same (get_changed x.line (λ l. layer_after a l) ys) in
        subst (λ (b : Bool). Agrees s (if b then leg_after a (slice_get ys x.line) x.channel (w x) else w x)) (sym t)
        (by_layer (slice_get ys x.line) refl (sym (ap (λ (o : Option Layer). shown_on o x.channel) got) ∙ q))
    by_line (inr t) =
        let got : slice_get (after_act a ys) x.line ≡ slice_get ys x.line = get_unchanged (line_of a) x.line (λ l. layer_after a l) ys (not_equal x.line (line_of a) t) in
        subst (λ (b : Bool). Agrees s (if b then leg_after a (slice_get ys x.line) x.channel (w x) else w x)) (sym t) (i x s (sym (ap (λ (o : Option Layer). shown_on o x.channel) got) ∙ q))

pub world_acts_all : (as_ : List Act) (ys : List Layer) (w : World) → Every MayHappen as_ → IsWorld ys w → IsWorld (after_acts as_ ys) (world_after_all as_ ys w)
world_acts_all [] ys w m i = i
world_acts_all (a ∷ more) ys w m i = world_acts_all more (after_act a ys) (world_after a ys w) m.1 (world_acts a ys w m.0 i)
