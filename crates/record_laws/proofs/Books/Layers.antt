-- What the events at an end of a line make of its channels and histories.
use Rattle.std.specs.Prelude.{◌≡◌, ◌≢◌, ℕ, zero, suc, ◌≤◌, Bool, true, false, cond, ◌&&◌, ◌==◌, List, [], ◌∷◌, length, map, is_some, Option, Some, None}
use Rattle.std.proofs.Common.{inl, inr, refl, sym, ap, subst, ◌∙◌, arith, true≢false}
use Rattle.std.proofs.lemmas.Option.{none-some, same_Some, slice_get_within}
use Rattle.std.proofs.lemmas.Bool.{eq-eqb, ne_eqb}
use Rattle.link_timers.specs.declared.role.Role.{Role}
use Rattle.link_timers.specs.declared.role.Role.TheVariants.{Dte, Dce}
use Rattle.data_transfer.specs.declared.flow.Flow.{Flow}
use Rattle.data_transfer.specs.Packets.{Body}
use Rattle.packet_channel.specs.Channel.{ChannelState, Channel, closed_channel, has_flow}
use Rattle.packet_layer.specs.Layer.{Phase, Layer, Next, ChannelNext, nth_channel, channel_of, with_nth, next_packet, next_in, next_restart, serve, serve_found, next_of, next_owed, next_number, is_free, is_ready, free_channel, lowest_free, highest_free, either_of, itself_if, raised}
use Rattle.packet_layer.specs.Layer.Phase.{NoSession, OwnRestart, PacketReady}
use Rattle.packet_channel.specs.Channel.ChannelState.{Ready, OwnWaiting, FarWaiting, Transfer, Collision, OwnClear}
use Rattle.packet_laws.specs.History.{History}
use Rattle.packet_laws.specs.LayerLine.{End, told, is_session}
use Rattle.record_laws.proofs.Books.Basics.{number_is, by_true, by_false, set_here, set_elsewhere, length_set}
use Rattle.record_laws.proofs.Books.Invariant.CallStatus.{Idle}
use Rattle.record_laws.proofs.Books.EndSteps.{status_of, status_at}

-- ---- channels

pub put_here : (chs : List Channel) (d : ℕ) (ch ch' : Channel) → nth_channel chs d ≡ Some ch → nth_channel (with_nth chs d ch') d ≡ Some ch'
put_here chs zero ch ch' e = absurd (none-some ch e)
put_here chs (suc i) ch ch' e = set_here chs i ch' ch e

pub put_else : (chs : List Channel) (d c : ℕ) (ch' : Channel) → c ≢ d → nth_channel (with_nth chs d ch') c ≡ nth_channel chs c
put_else chs zero c ch' h = refl
put_else chs (suc i) zero ch' h = refl
put_else chs (suc i) (suc j) ch' h = set_elsewhere chs i j ch' (λ e. h (ap suc e))

pub put_length : (chs : List Channel) (d : ℕ) (ch' : Channel) → length (with_nth chs d ch') ≡ length chs
put_length chs zero ch' = refl
put_length chs (suc i) ch' = length_set chs i ch'

pub in_range : (chs : List Channel) (d : ℕ) (ch : Channel) → nth_channel chs d ≡ Some ch → (1 ≤ d) × (d ≤ length chs)
in_range chs zero ch e = absurd (none-some ch e)
in_range chs (suc i) ch e = let h = slice_get_within chs i ch e in (omega arith, omega arith)

pub closed_idle : (x : Role) (chs : List Channel) (c : ℕ) → status_at x (nth_channel (map (λ ch. closed_channel) chs) c) ≡ Idle
closed_idle x chs zero = refl
closed_idle x [] (suc i) = refl
closed_idle x (ch ∷ chs) (suc zero) = refl
closed_idle x (ch ∷ chs) (suc (suc i)) = closed_idle x chs (suc i)

pub closed_length : (chs : List Channel) → length (map (λ ch. closed_channel) chs) ≡ length chs
closed_length [] = refl
closed_length (ch ∷ chs) = ap suc (closed_length chs)

-- ---- histories

pub told_here : (e : End) (s c : ℕ) (f : ℕ → History → History) → e.session ≡ Some s → (told f e).histories s c ≡ f c (e.histories s c)
told_here e s c f up = ap (λ (o : Option ℕ). cond (is_session o s) (f c (e.histories s c)) (e.histories s c)) up ∙ by_true (s == s) (f c (e.histories s c)) (e.histories s c) (eq-eqb s s refl)

pub told_else : (e : End) (s k c : ℕ) (f : ℕ → History → History) → e.session ≡ Some s → k ≢ s → (told f e).histories k c ≡ e.histories k c
told_else e s k c f up h = ap (λ (o : Option ℕ). cond (is_session o k) (f c (e.histories k c)) (e.histories k c)) up ∙ by_false (k == s) (f c (e.histories k c)) (e.histories k c) (ne_eqb k s h)

pub either_way : {X : Type 0} (P : X → Type 0) (v : Bool) (a b : X) → P a → P b → P (cond v a b)
either_way P true a b p q = p
either_way P false a b p q = q

-- ---- free channels

abbrev FreeAt : List Channel → ℕ → Type 0
FreeAt chs d = (ch : Channel) × (nth_channel chs d ≡ Some ch) × (ch.state ≡ Ready)

ready_of : (s : ChannelState) (v : Bool) → (is_ready s && v) ≡ true → s ≡ Ready
ready_of Ready v e = refl
ready_of OwnWaiting v e = absurd (true≢false (sym e))
ready_of FarWaiting v e = absurd (true≢false (sym e))
ready_of Transfer v e = absurd (true≢false (sym e))
ready_of Collision v e = absurd (true≢false (sym e))
ready_of OwnClear v e = absurd (true≢false (sym e))

free_up : (x : Channel) (xs : List Channel) (k : ℕ) → FreeAt xs k → FreeAt (x ∷ xs) (suc k)
free_up x xs zero f = absurd (none-some f.0 f.1)
free_up x xs (suc i) f = f

free_raised : (x : Channel) (xs : List Channel) (o : Option ℕ) (d : ℕ) → ((k : ℕ) → o ≡ Some k → FreeAt xs k) → raised o ≡ Some d → FreeAt (x ∷ xs) d
free_raised x xs None d ih e = absurd (none-some d e)
free_raised x xs (Some k) d ih e = subst (λ (j : ℕ). FreeAt (x ∷ xs) j) (same_Some (suc k) d e) (free_up x xs k (ih k refl))

free_first : (x : Channel) (xs : List Channel) (v : Bool) (d : ℕ) → is_free x ≡ v → itself_if v ≡ Some d → FreeAt (x ∷ xs) d
free_first x xs true d f e = subst (λ (j : ℕ). FreeAt (x ∷ xs) j) (same_Some 1 d e) (x, refl, ready_of x.state (length x.owed == 0) f)
free_first x xs false d f e = absurd (none-some d e)

free_either : (chs : List Channel) (a b : Option ℕ) (d : ℕ) → (a ≡ Some d → FreeAt chs d) → (b ≡ Some d → FreeAt chs d) → either_of a b ≡ Some d → FreeAt chs d
free_either chs None b d f g e = g e
free_either chs (Some m) b d f g e = f e

lowest_is : (chs : List Channel) (d : ℕ) → lowest_free chs ≡ Some d → FreeAt chs d
lowest_is [] d e = absurd (none-some d e)
lowest_is (x ∷ xs) d e = free_either (x ∷ xs) (itself_if (is_free x)) (raised (lowest_free xs)) d (λ h. free_first x xs (is_free x) d refl h) (λ h. free_raised x xs (lowest_free xs) d (λ k q. lowest_is xs k q) h) e

highest_is : (chs : List Channel) (d : ℕ) → highest_free chs ≡ Some d → FreeAt chs d
highest_is [] d e = absurd (none-some d e)
highest_is (x ∷ xs) d e = free_either (x ∷ xs) (raised (highest_free xs)) (itself_if (is_free x)) d (λ h. free_raised x xs (highest_free xs) d (λ k q. highest_is xs k q) h) (λ h. free_first x xs (is_free x) d refl h) e

pub free_is : (x : Role) (chs : List Channel) (d : ℕ) → free_channel x chs ≡ Some d → FreeAt chs d
free_is Dte chs d e = highest_is chs d e
free_is Dce chs d e = lowest_is chs d e

-- ---- what goes to the link leaves all calls as they are

pub record SameLayer (x : Role) (l l' : Layer) : Type 0 where
  pub status : (c : ℕ) → status_at x (channel_of l' c) ≡ status_at x (channel_of l c)
  pub role : l'.role ≡ l.role
  pub phase : l'.phase ≡ l.phase
  pub count : length l'.channels ≡ length l.channels

pub layer_refl : (x : Role) (l : Layer) → SameLayer x l l
layer_refl x l = record { status = λ c. refl; role = refl; phase = refl; count = refl }

next_state : (flow : Flow) (owed : List Body) (ch : Channel) → (next_owed flow owed ch).channel.state ≡ ch.state
next_state flow (b ∷ bs) ch = refl
next_state flow [] ch = either_way (λ (n : ChannelNext). n.channel.state ≡ ch.state) (has_flow ch) _ _ refl refl

put_status : (x : Role) (chs : List Channel) (d : ℕ) (ch ch' : Channel) → nth_channel chs d ≡ Some ch → ch'.state ≡ ch.state → (c : ℕ) → status_at x (nth_channel (with_nth chs d ch') c) ≡ status_at x (nth_channel chs c)
put_status x chs d ch ch' found same c =
    elim (number_is c d) [
      | inl h ↦ subst (λ (k : ℕ). status_at x (nth_channel (with_nth chs d ch') k) ≡ status_at x (nth_channel chs k)) (sym h)
          (ap (status_at x) (put_here chs d ch ch' found) ∙ ap (status_of x) same ∙ sym (ap (status_at x) found))
      | inr h ↦ ap (status_at x) (put_else chs d c ch' h)
    ]

serve_found_same : (x : Role) (k : ℕ) (l : Layer) (d : ℕ) (o : Option Channel) → channel_of l d ≡ o → SameLayer x l (serve k l (next_number l d)).layer → SameLayer x l (serve_found l d o (serve k l (next_number l d))).layer
serve_found_same x k l d None e h = h
serve_found_same x k l d (Some ch) e h =
    either_way (λ (m : Next). SameLayer x l m.layer) (is_some (next_of l.flow ch).body) _ (serve k l (next_number l d))
    (record {
      status = put_status x l.channels d ch (next_of l.flow ch).channel e (next_state l.flow ch.owed ch);
      role = refl;
      phase = refl;
      count = put_length l.channels d (next_of l.flow ch).channel;
    }) h

serve_same : (x : Role) (k : ℕ) (l : Layer) (d : ℕ) → SameLayer x l (serve k l d).layer
serve_same x zero l d = layer_refl x l
serve_same x (suc k) l d = serve_found_same x k l d (channel_of l d) refl (serve_same x k l (next_number l d))

restart_same : (x : Role) (owed : List Body) (l : Layer) → SameLayer x l (next_restart owed l).layer
restart_same x (b ∷ bs) l = record { status = λ c. refl; role = refl; phase = refl; count = refl }
restart_same x [] l = serve_same x (length l.channels) l (next_number l l.served_last)

next_in_same : (x : Role) (ph : Phase) (relink : Bool) (l : Layer) → SameLayer x l (next_in ph relink l).layer
next_in_same x NoSession relink l = layer_refl x l
next_in_same x OwnRestart true l = layer_refl x l
next_in_same x OwnRestart false l = restart_same x l.owed l
next_in_same x PacketReady true l = layer_refl x l
next_in_same x PacketReady false l = restart_same x l.owed l

pub next_same : (x : Role) (l : Layer) → SameLayer x l (next_packet l).layer
next_same x l = next_in_same x l.phase l.relink l
