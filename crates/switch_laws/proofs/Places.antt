-- Joins, channels and legs by place, after what the switch does at one place.
use Rattle.std.proofs.Common.{◌≡◌, ℕ, zero, suc, ◌⊎◌, inl, inr, Bool, true, false, if◌then◌else◌, ◌&&◌, ◌==◌, List, [], ◌∷◌, map, set, length, Option, Some, None, is_some, refl, sym, ap, ◌∙◌, true≢false, option_map}
use Rattle.std.specs.Prelude.{slice_get}
use Rattle.std.proofs.lemmas.Option.{none-some, same_Some}
use Rattle.std.proofs.lemmas.Bool.{eq-eqb}
use Rattle.packet_codec.specs.Diagnostic.{no_information}
use Rattle.data_transfer.specs.Packets.{Body, CallParts, Received}
use Rattle.data_transfer.specs.Packets.Body.{Restart, RestartConfirmation}
use Rattle.data_transfer.specs.Packets.Received.{Whole, Unknown, Faulty}
use Rattle.data_transfer.specs.Traffic.{front}
use Rattle.packet_channel.specs.Channel.{Channel, Step, Request, requested, next_of, closed_channel, clear_error, placing}
use Rattle.packet_layer.specs.Layer.{Layer, Phase, Timer, Next, nth_channel, channel_of, with_nth, next_in, next_restart, serve, serve_found, next_number, on_found, on_received, expired, unread, runs, placed_on, channel_given, restart_packet, on_channel, front_at as front_of_channel}
use Rattle.packet_layer.specs.Layer.Phase.{NoSession, OwnRestart, PacketReady}
use Rattle.packet_layer.specs.Layer.Timer.{RestartTimer, CallTimer, ResetTimer, ClearTimer}
use Rattle.packet_laws.proofs.Call.Saying.{by_cond}
use Rattle.switch_joins.specs.declared.channels.SwitchChannel.{SwitchChannel}
use Rattle.switch_joins.specs.Joins.{Joined}
use Rattle.switch_lines.specs.Lines.{SwitchLine, same_place, changed, flat, nth_joined, joined_on, joined_at, with_nth_joined, with_joined, ask, front_of_line, size_of_line, takes_all, takes_on_channel, takes_on_line}
use Rattle.switch_laws.specs.Leg.{asked}
use Rattle.switch_laws.specs.World.{World, Shown, shown_as, shown_on, shown_at, layers_of, Act, after_act, world_after, layer_after, leg_after, line_of}
use Rattle.switch_laws.specs.World.Act.{Asks, Comes, Expires, GoesUp, GoesDown, Calls, Gives, Reads}
use Rattle.switch_laws.specs.Joined.{has_nth, has_place_on, has_place}
use Rattle.switch_laws.proofs.Lists.{map_changed, map_unchanged, get_map}
use Rattle.switch_joins.proofs.Apart.{decided}

-- ---- joins

set_here : (js : List (Option Joined)) (i : ℕ) (o : Option Joined) → is_some (slice_get js i) ≡ true → flat (slice_get (set js i o) i) ≡ o
set_here [] i o e = absurd (true≢false (sym e))
set_here (j ∷ js) zero o e = refl
set_here (j ∷ js) (suc i) o e = set_here js i o e

nth_set_here : (js : List (Option Joined)) (c : ℕ) (o : Option Joined) → has_nth js c ≡ true → nth_joined (with_nth_joined js c o) c ≡ o
nth_set_here js zero o e = absurd (true≢false (sym e))
nth_set_here js (suc i) o e = set_here js i o e

line_here : (n c : ℕ) (o : Option Joined) (ls : List SwitchLine) → has_place_on (slice_get ls n) c ≡ true
    → joined_on (slice_get (changed n (λ l. record l { joined = with_nth_joined l.joined c o }) ls) n) c ≡ o
line_here n c o [] e = absurd (true≢false (sym e))
line_here zero c o (l ∷ ls) e = nth_set_here l.joined c o e
line_here (suc n) c o (l ∷ ls) e = line_here n c o ls e

pub joined_here : (p : SwitchChannel) (o : Option Joined) (ls : List SwitchLine) → has_place ls p ≡ true → joined_at (with_joined p o ls) p ≡ o
joined_here p o ls e = line_here p.line p.channel o ls e

-- a joined channel has a place
nth_place : (js : List (Option Joined)) (c : ℕ) (j : Joined) → nth_joined js c ≡ Some j → has_nth js c ≡ true
nth_place js zero j e = absurd (none-some j e)
nth_place js (suc i) j e = by_slot (slice_get js i) e
  where
    by_slot : (o : Option (Option Joined)) → flat o ≡ Some j → is_some o ≡ true
    by_slot None e = absurd (none-some j e)
    by_slot (Some o) e = refl

pub joined_place : (ls : List SwitchLine) (p : SwitchChannel) (j : Joined) → joined_at ls p ≡ Some j → has_place ls p ≡ true
joined_place ls p j e = by_line (slice_get ls p.line) e
  where
    by_line : (o : Option SwitchLine) → joined_on o p.channel ≡ Some j → has_place_on o p.channel ≡ true
    by_line None e = absurd (none-some j e)
    by_line (Some l) e = nth_place l.joined p.channel j e

-- places stay
place_kept : (n m c : ℕ) (f : SwitchLine → SwitchLine) (ls : List SwitchLine) → ((l : SwitchLine) → has_nth (f l).joined c ≡ has_nth l.joined c)
    → has_place_on (slice_get (changed n f ls) m) c ≡ has_place_on (slice_get ls m) c
place_kept n m c f [] same = refl
place_kept zero zero c f (l ∷ ls) same = same l
place_kept zero (suc m) c f (l ∷ ls) same = refl
place_kept (suc n) zero c f (l ∷ ls) same = refl
place_kept (suc n) (suc m) c f (l ∷ ls) same = place_kept n m c f ls same

pub place_after : (n : ℕ) (f : SwitchLine → SwitchLine) (ls : List SwitchLine) (x : SwitchChannel) → ((l : SwitchLine) → (f l).joined ≡ l.joined) → has_place (changed n f ls) x ≡ has_place ls x
place_after n f ls x same = place_kept n x.line x.channel f ls (λ l. ap (λ js. has_nth js x.channel) (same l))

set_there : {X : Type 0} (xs : List X) (i k : ℕ) (y : X) → is_some (slice_get (set xs i y) k) ≡ is_some (slice_get xs k)
set_there [] i k y = refl
set_there (x ∷ xs) zero zero y = refl
set_there (x ∷ xs) zero (suc k) y = refl
set_there (x ∷ xs) (suc i) zero y = refl
set_there (x ∷ xs) (suc i) (suc k) y = set_there xs i k y

nth_there : (js : List (Option Joined)) (c d : ℕ) (o : Option Joined) → has_nth (with_nth_joined js c o) d ≡ has_nth js d
nth_there js zero d o = refl
nth_there js (suc i) zero o = refl
nth_there js (suc i) (suc k) o = set_there js i k o

pub place_joined : (p : SwitchChannel) (o : Option Joined) (ls : List SwitchLine) (x : SwitchChannel) → has_place (with_joined p o ls) x ≡ has_place ls x
place_joined p o ls x = place_kept p.line x.line x.channel _ ls (λ l. nth_there l.joined p.channel x.channel o)

-- ---- layers

pub layers_asked : (p : SwitchChannel) (q : Request) (ls : List SwitchLine) → layers_of (ask p q ls) ≡ after_act (Asks p q) (layers_of ls)
layers_asked p q ls = map_changed (λ l. l.end.layer) _ _ p.line ls (λ l. refl)

pub layers_joined : (p : SwitchChannel) (o : Option Joined) (ls : List SwitchLine) → layers_of (with_joined p o ls) ≡ layers_of ls
layers_joined p o ls = map_unchanged (λ l. l.end.layer) _ p.line ls (λ l. refl)

pub front_is : (ls : List SwitchLine) (n c : ℕ) (s : Shown) → shown_on (slice_get (layers_of ls) n) c ≡ Some s → front_of_line (slice_get ls n) c ≡ front s.channel.traffic
front_is [] n c s e = absurd (none-some s e)
front_is (l ∷ ls) zero c s e = by_channel (channel_of l.end.layer c) e
  where
    by_channel : (o : Option Channel) → shown_as l.end.layer o ≡ Some s → front_of_channel o ≡ front s.channel.traffic
    by_channel None e = absurd (none-some s e)
    by_channel (Some ch) e = ap (λ (t : Shown). front t.channel.traffic) (same_Some _ s e)
front_is (l ∷ ls) (suc n) c s e = front_is ls n c s e

pub takes_is : (ls : List SwitchLine) (n c : ℕ) (qs : List Request) (s : Shown) → shown_on (slice_get (layers_of ls) n) c ≡ Some s → takes_on_line (slice_get ls n) c qs ≡ takes_all s.role s.flow s.channel qs
takes_is [] n c qs s e = absurd (none-some s e)
takes_is (l ∷ ls) zero c qs s e = by_channel (channel_of l.end.layer c) e
  where
    by_channel : (o : Option Channel) → shown_as l.end.layer o ≡ Some s → takes_on_channel l.end.layer.role l.end.layer.flow o qs ≡ takes_all s.role s.flow s.channel qs
    by_channel None e = absurd (none-some s e)
    by_channel (Some ch) e = ap (λ (t : Shown). takes_all t.role t.flow t.channel qs) (same_Some _ s e)
takes_is (l ∷ ls) (suc n) c qs s e = takes_is ls n c qs s e

pub size_is : (ls : List SwitchLine) (n c : ℕ) (s : Shown) → shown_on (slice_get (layers_of ls) n) c ≡ Some s → size_of_line (slice_get ls n) ≡ s.flow.size
size_is [] n c s e = absurd (none-some s e)
size_is (l ∷ ls) zero c s e = by_channel (channel_of l.end.layer c) e
  where
    by_channel : (o : Option Channel) → shown_as l.end.layer o ≡ Some s → l.end.layer.flow.size ≡ s.flow.size
    by_channel None e = absurd (none-some s e)
    by_channel (Some ch) e = ap (λ (t : Shown). t.flow.size) (same_Some _ s e)
size_is (l ∷ ls) (suc n) c s e = size_is ls n c s e

-- ---- legs

pub some_there : {X : Type 0} (o : Option X) → is_some o ≡ true → (x : X) × (o ≡ Some x)
some_there None e = absurd (true≢false (sym e))
some_there (Some x) e = (x, refl)

pub leg_asked : (p : SwitchChannel) (q : Request) (ys : List Layer) (w : World) → is_some (shown_at ys p) ≡ true → world_after (Asks p q) ys w p ≡ asked q (w p)
leg_asked p q ys w e =
    ap (λ (b : Bool). if b then leg_after (Asks p q) (slice_get ys p.line) p.channel (w p) else w p) (eq-eqb p.line p.line refl) ∙ by_layer (slice_get ys p.line) e
  where
    by_layer : (o : Option Layer) → is_some (shown_on o p.channel) ≡ true → leg_after (Asks p q) o p.channel (w p) ≡ asked q (w p)
    by_layer None e = absurd (true≢false (sym e))
    by_layer (Some l) e = ap (λ (b : Bool). if b then asked q (w p) else w p) (eq-eqb p.channel p.channel refl)

pub leg_apart : (p : SwitchChannel) (q : Request) (ys : List Layer) (w : World) (x : SwitchChannel) → same_place x p ≡ false → world_after (Asks p q) ys w x ≡ w x
leg_apart p q ys w x e = by_line (decided (x.line == p.line))
  where
    by_layer : (o : Option Layer) → (x.channel == p.channel) ≡ false → leg_after (Asks p q) o x.channel (w x) ≡ w x
    by_layer None c = refl
    by_layer (Some l) c = ap (λ (b : Bool). if b then asked q (w x) else w x) c

    by_line : ((x.line == p.line) ≡ true) ⊎ ((x.line == p.line) ≡ false) → world_after (Asks p q) ys w x ≡ w x
    by_line (inl t) =
        ap (λ (b : Bool). if b then leg_after (Asks p q) (slice_get ys x.line) x.channel (w x) else w x) t
        ∙ by_layer (slice_get ys x.line) (sym (ap (λ (b : Bool). b && (x.channel == p.channel)) t) ∙ e)
    by_line (inr f) = ap (λ (b : Bool). if b then leg_after (Asks p q) (slice_get ys x.line) x.channel (w x) else w x) f

-- ---- channels stay

nth_channel_there : (chs : List Channel) (c d : ℕ) (ch : Channel) → is_some (nth_channel (with_nth chs c ch) d) ≡ is_some (nth_channel chs d)
nth_channel_there chs zero d ch = refl
nth_channel_there chs (suc i) zero ch = refl
nth_channel_there chs (suc i) (suc k) ch = set_there chs i k ch

found_there : (l : Layer) (d c : ℕ) (step : Channel → Step) (o : Option Channel) → is_some (channel_of (on_found l d step o) c) ≡ is_some (channel_of l c)
found_there l d c step None = refl
found_there l d c step (Some ch) = nth_channel_there l.channels d c _

closed_there : (chs : List Channel) (c : ℕ) → is_some (nth_channel (map (λ ch. closed_channel) chs) c) ≡ is_some (nth_channel chs c)
closed_there chs zero = refl
closed_there chs (suc i) = ap (λ o. is_some o) (get_map (λ (ch : Channel). closed_channel) chs i) ∙ mapped (slice_get chs i)
  where
    mapped : (o : Option Channel) → is_some (option_map (λ (ch : Channel). closed_channel) o) ≡ is_some o
    mapped None = refl
    mapped (Some ch) = refl

restart_there : (phase : Phase) (b : Body) (l : Layer) (c : ℕ) → is_some (channel_of (restart_packet phase b l) c) ≡ is_some (channel_of l c)
restart_there PacketReady (Restart cause diagnostic) l c = closed_there l.channels c
restart_there PacketReady RestartConfirmation l c = closed_there l.channels c
restart_there OwnRestart (Restart cause diagnostic) l c = refl
restart_there OwnRestart RestartConfirmation l c = refl
restart_there phase b l c = refl

channel_there : (phase : Phase) (l : Layer) (d c : ℕ) (step : Channel → Step) → is_some (channel_of (on_channel phase l d step) c) ≡ is_some (channel_of l c)
channel_there PacketReady l d c step = found_there l d c step (channel_of l d)
channel_there OwnRestart l d c step = refl
channel_there NoSession l d c step = refl

received_there : (r : Received) (l : Layer) (c : ℕ) → is_some (channel_of (on_received l r) c) ≡ is_some (channel_of l c)
received_there (Whole p) l c = by_cond (λ (y : Layer). is_some (channel_of y c) ≡ is_some (channel_of l c)) (p.channel == 0) _ _ (λ h. restart_there l.phase p.body l c) (λ h. channel_there l.phase l p.channel c _)
received_there (Unknown d) l c = channel_there l.phase l d c _
received_there (Faulty d) l c = channel_there l.phase l d c _

expired_there : (t : Timer) (l : Layer) (c : ℕ) → is_some (channel_of (expired l t) c) ≡ is_some (channel_of l c)
expired_there RestartTimer l c = refl
expired_there (CallTimer d) l c = found_there l d c (λ ch. clear_error l.role d no_information true ch) (channel_of l d)
expired_there (ResetTimer d) l c = found_there l d c (λ ch. clear_error l.role d no_information true ch) (channel_of l d)
expired_there (ClearTimer d) l c = closed_there l.channels c

placed_there : (parts : CallParts) (o : Option ℕ) (l : Layer) (c : ℕ) → is_some (channel_of (placed_on l parts o) c) ≡ is_some (channel_of l c)
placed_there parts None l c = refl
placed_there parts (Some d) l c = found_there l d c (λ ch. placing parts ch) (channel_of l d)

abbrev There : Layer → ℕ → Next → Type 0
There l c n = is_some (channel_of n.layer c) ≡ is_some (channel_of l c)

serve_there : (k : ℕ) (l : Layer) (d c : ℕ) → There l c (serve k l d)
serve_there zero l d c = refl
serve_there (suc k) l d c = by_found (channel_of l d) (serve_there k l (next_number l d) c)
  where
    by_found : (o : Option Channel) → There l c (serve k l (next_number l d)) → There l c (serve_found l d o (serve k l (next_number l d)))
    by_found None h = h
    by_found (Some ch) h = by_cond (λ (n : Next). There l c n) (is_some (next_of l.flow ch).body) _ _ (λ e. nth_channel_there l.channels d c _) (λ e. h)

restart_given_there : (owed : List Body) (l : Layer) (c : ℕ) → There l c (next_restart owed l)
restart_given_there [] l c = serve_there (length l.channels) l (next_number l l.served_last) c
restart_given_there (b ∷ bs) l c = refl

next_there : (phase : Phase) (relink : Bool) (l : Layer) (c : ℕ) → There l c (next_in phase relink l)
next_there NoSession relink l c = refl
next_there OwnRestart true l c = refl
next_there PacketReady true l c = refl
next_there OwnRestart false l c = restart_given_there l.owed l c
next_there PacketReady false l c = restart_given_there l.owed l c

pub line_there : (a : Act) (l : Layer) (c : ℕ) → is_some (channel_of (layer_after a l) c) ≡ is_some (channel_of l c)
line_there (Asks p q) l c = found_there l p.channel c (λ ch. requested l.role l.flow ch q) (channel_of l p.channel)
line_there (Comes n r) l c = received_there r (unread l) c
line_there (Expires n t) l c = by_cond (λ (y : Layer). is_some (channel_of (unread y) c) ≡ is_some (channel_of l c)) (runs l t) _ _ (λ h. expired_there t (unread l) c) (λ h. refl)
line_there (GoesUp n) l c = closed_there l.channels c
line_there (GoesDown n) l c = closed_there l.channels c
line_there (Calls n parts) l c = placed_there parts (channel_given l l.phase) l c
line_there (Gives n) l c = next_there l.phase l.relink l c
line_there (Reads n) l c = refl

pub shown_there : (l : Layer) (o : Option Channel) → is_some (shown_as l o) ≡ is_some o
shown_there l None = refl
shown_there l (Some ch) = refl

lines_there : (a : Act) (n m c : ℕ) (ys : List Layer) → is_some (shown_on (slice_get (changed n (λ l. layer_after a l) ys) m) c) ≡ is_some (shown_on (slice_get ys m) c)
lines_there a n m c [] = refl
lines_there a zero zero c (l ∷ ys) = shown_there (layer_after a l) (channel_of (layer_after a l) c) ∙ (line_there a l c ∙ sym (shown_there l (channel_of l c)))
lines_there a zero (suc m) c (l ∷ ys) = refl
lines_there a (suc n) zero c (l ∷ ys) = refl
lines_there a (suc n) (suc m) c (l ∷ ys) = lines_there a n m c ys

pub there_after : (a : Act) (ys : List Layer) (x : SwitchChannel) → is_some (shown_at (after_act a ys) x) ≡ is_some (shown_at ys x)
there_after a ys x = lines_there a (line_of a) x.line x.channel ys
