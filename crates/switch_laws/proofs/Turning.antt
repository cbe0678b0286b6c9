-- What happens at the end of one line, as acts of its packet layer whose notes are then heeded.
use Rattle.std.proofs.Common.{◌≡◌, ℕ, zero, suc, ◌⊎◌, inl, inr, if◌then◌else◌, option_map, Bool, true, false, cond, ◌==◌, List, [], ◌∷◌, ◌++◌, Option, Some, None, refl, sym, ap, subst, ◌∙◌, true≢false, append-nil}
use Rattle.std.specs.Prelude.{slice_get}
use Rattle.std.proofs.lemmas.Option.{none-some, same_Some}
use Rattle.link_timers.specs.declared.timers.TimerId.{TimerId}
use Rattle.link_timers.specs.declared.timers.TimerId.TheVariants.{T1}
use Rattle.lapb.specs.declared.note.Note as link_note
use Rattle.lapb.specs.declared.note.Note.TheVariants.{Nothing, Up, Down}
use Rattle.lapb.specs.Machine as link
use Rattle.lapb.specs.Machine.{Octets}
use Rattle.lapb.specs.Octets as link_octets
use Rattle.line_end.specs.End.{End}
use Rattle.data_transfer.specs.Packets.{Body, Note, Received}
use Rattle.data_transfer.specs.Packets.Body.{Restart, RestartConfirmation}
use Rattle.packet_channel.specs.Channel.{unreadable, received as received_packet}
use Rattle.data_transfer.specs.Packets.Received.{Whole, Unknown, Faulty}
use Rattle.data_transfer.specs.Octets.{heard}
use Rattle.packet_layer.specs.Layer.{Layer, Phase, Timer, on_received, on_channel, restart_packet, unread, link_up, link_down}
use Rattle.packet_layer.specs.Layer.Phase.{NoSession, OwnRestart, PacketReady}
use Rattle.packet_layer.specs.Events.{after_hearing, on_named, timer_named}
use Rattle.packet_laws.specs.Readable.{Every}
use Rattle.packet_laws.proofs.Call.Saying.{by_cond}
use Rattle.switch_laws.specs.Steps.{Happening, does, note_acts, heard_acts, packet_acts, timer_acts, expiry_acts, happening_acts, on_line, acts_of_all}
use Rattle.switch_laws.specs.Steps.Happening.{Brings, RunsOut, Relinks}
use Rattle.switch_laws.specs.EventSteps.{heed_all_steps, acted_steps}
use Rattle.switch_laws.proofs.Lists.{get_map}
use Rattle.packet_end.specs.PacketEnd.{PacketEnd, heeded, after_packet, expired, runs_at}
use Rattle.address_routes.specs.Routes.{RouteMap}
use Rattle.switch_joins.specs.declared.channels.SwitchChannel.{SwitchChannel}
use Rattle.switch_lines.specs.Lines.{SwitchLine, changed, joined_at}
use Rattle.switch_lines.specs.Switch.{heed_all, with_end, notes_of, without_notes, notes_heeded, quieted, acted}
use Rattle.switch_laws.specs.Leg.{Leg}
use Rattle.switch_laws.specs.World.{World, layers_of, Act, MayHappen, after_act, after_acts, world_after, world_after_all, layer_after, leg_after, line_of, came_in}
use Rattle.switch_laws.specs.World.Act.{Comes, Expires, GoesUp, GoesDown, Reads}
use Rattle.switch_laws.specs.Joined.{IsSwitch, Reached, Becomes, has_place}
use Rattle.switch_laws.proofs.Places.{place_after}
use Rattle.switch_laws.proofs.Frame.{acts_then, world_then, every_then}
use Rattle.switch_laws.proofs.Effects.{Effect, effect, effect_right, steady, leg_on_line, leg_elsewhere}
use Rattle.switch_laws.proofs.Effects.Effect.{nothing, closes_all, on_one}
use Rattle.switch_laws.proofs.JoinsAfterNotes.{After}
use Rattle.switch_joins.proofs.Apart.{decided}
use Rattle.switch_lines.proofs.Places.{joined_kept}

-- ---- lists

pub changed_at : {X : Type 0} (n : ℕ) (f g : X → X) (xs : List X) (x : X) → slice_get xs n ≡ Some x → f x ≡ g x → changed n f xs ≡ changed n g xs
changed_at n f g [] x e same = refl
changed_at zero f g (y ∷ ys) x e same = ap (λ z. z ∷ ys) (ap (λ z. f z) (same_Some y x e) ∙ (same ∙ sym (ap (λ z. g z) (same_Some y x e))))
changed_at (suc n) f g (y ∷ ys) x e same = ap (λ zs. y ∷ zs) (changed_at n f g ys x e same)

pub changed_none : {X : Type 0} (n : ℕ) (f : X → X) (xs : List X) → slice_get xs n ≡ None → changed n f xs ≡ xs
changed_none n f [] e = refl
changed_none zero f (y ∷ ys) e = absurd (none-some y (sym e))
changed_none (suc n) f (y ∷ ys) e = ap (λ zs. y ∷ zs) (changed_none n f ys e)

pub changed_twice : {X : Type 0} (n : ℕ) (f g : X → X) (xs : List X) → changed n f (changed n g xs) ≡ changed n (λ x. f (g x)) xs
changed_twice n f g [] = refl
changed_twice zero f g (y ∷ ys) = refl
changed_twice (suc n) f g (y ∷ ys) = ap (λ zs. y ∷ zs) (changed_twice n f g ys)

pub changed_same : {X : Type 0} (n : ℕ) (xs : List X) (x : X) → slice_get xs n ≡ Some x → changed n (λ y. x) xs ≡ xs
changed_same n [] x e = refl
changed_same zero (y ∷ ys) x e = ap (λ z. z ∷ ys) (sym (same_Some y x e))
changed_same (suc n) (y ∷ ys) x e = ap (λ zs. y ∷ zs) (changed_same n ys x e)

pub got_changed : {X : Type 0} (n : ℕ) (f : X → X) (xs : List X) (x : X) → slice_get xs n ≡ Some x → slice_get (changed n f xs) n ≡ Some (f x)
got_changed n f [] x e = absurd (none-some x e)
got_changed zero f (y ∷ ys) x e = ap (λ z. Some (f z)) (same_Some y x e)
got_changed (suc n) f (y ∷ ys) x e = got_changed n f ys x e

pub layer_got : (n : ℕ) (ls : List SwitchLine) (l : SwitchLine) → slice_get ls n ≡ Some l → slice_get (layers_of ls) n ≡ Some l.end.layer
layer_got n [] l e = absurd (none-some l e)
layer_got zero (y ∷ ys) l e = ap (λ (z : SwitchLine). Some z.end.layer) (same_Some y l e)
layer_got (suc n) (y ∷ ys) l e = layer_got n ys l e

pub layers_changed : (n : ℕ) (f : SwitchLine → SwitchLine) (ls : List SwitchLine) (l : SwitchLine) → slice_get ls n ≡ Some l → layers_of (changed n f ls) ≡ changed n (λ y. (f l).end.layer) (layers_of ls)
layers_changed n f [] l e = refl
layers_changed zero f (y ∷ ys) l e = ap (λ (z : SwitchLine). (f z).end.layer ∷ layers_of ys) (same_Some y l e)
layers_changed (suc n) f (y ∷ ys) l e = ap (λ zs. y.end.layer ∷ zs) (layers_changed n f ys l e)

-- ---- the effect on a line

pub record LineEffect (acts : List Act) (n : ℕ) (l after : Layer) (notes : List Note) : Type 0 where
  pub moves : ℕ → Leg → Leg
  pub effect : Effect moves l notes
  pub may : Every MayHappen acts
  pub layers : (ys : List Layer) → slice_get ys n ≡ Some l → after_acts acts ys ≡ changed n (λ y. after) ys
  pub here : (ys : List Layer) (w : World) (x : SwitchChannel) → slice_get ys n ≡ Some l → (x.line == n) ≡ true → world_after_all acts ys w x ≡ moves x.channel (w x)
  pub elsewhere : (ys : List Layer) (w : World) (x : SwitchChannel) → (x.line == n) ≡ false → world_after_all acts ys w x ≡ w x

no_effect : (n : ℕ) (l : Layer) → LineEffect [] n l l []
no_effect n l = record {
  moves = λ c g. g;
  effect = nothing refl (λ c g. refl);
  may = tt;
  layers = λ ys e. sym (changed_same n ys l e);
  here = λ ys w x e t. refl;
  elsewhere = λ ys w x t. refl;
}

one_act : (a : Act) (l : Layer) (notes : List Note) → MayHappen a → Effect (λ c g. leg_after a (Some l) c g) l notes → LineEffect (a ∷ []) (line_of a) l (layer_after a l) notes
one_act a l notes m eff = record {
  moves = λ c g. leg_after a (Some l) c g;
  effect = eff;
  may = (m, tt);
  layers = λ ys e. changed_at (line_of a) (λ x. layer_after a x) (λ x. layer_after a l) ys l e refl;
  here = λ ys w x e t. leg_on_line a ys w x (Some l) t e;
  elsewhere = λ ys w x t. leg_elsewhere a ys w x t;
}

-- a second act moves no leg and makes no notes
and_act : {acts : List Act} (a : Act) (l after : Layer) (notes : List Note) → MayHappen a → ((c : ℕ) (g : Leg) → leg_after a (Some after) c g ≡ g) → LineEffect acts (line_of a) l after notes
    → LineEffect (acts ++ a ∷ []) (line_of a) l (layer_after a after) notes
and_act {acts} a l after notes m still e = record {
  moves = e.moves;
  effect = e.effect;
  may = every_then acts (a ∷ []) e.may (m, tt);
  layers = λ ys got.
      acts_then acts (a ∷ []) ys ∙ (ap (λ (zs : List Layer). after_act a zs) (e.layers ys got) ∙ changed_twice (line_of a) (λ x. layer_after a x) (λ y. after) ys);
  here = λ ys w x got t.
      ap (λ (v : World). v x) (world_then acts (a ∷ []) ys w)
      ∙ (leg_on_line a (after_acts acts ys) (world_after_all acts ys w) x (Some after) t (ap (λ (zs : List Layer). slice_get zs (line_of a)) (e.layers ys got) ∙ got_changed (line_of a) (λ y. after) ys l got)
      ∙ (still x.channel (world_after_all acts ys w x) ∙ e.here ys w x got t));
  elsewhere = λ ys w x t.
      ap (λ (v : World). v x) (world_then acts (a ∷ []) ys w) ∙ (leg_elsewhere a (after_acts acts ys) (world_after_all acts ys w) x t ∙ e.elsewhere ys w x t);
}

same_effect : (f : ℕ → Leg → Leg) (l : Layer) (notes : List Note) → Effect f (unread l) notes → Effect f l notes
same_effect f l notes (nothing a b) = nothing a b
same_effect f l notes (closes_all r a b) = closes_all r a b
same_effect f l notes (on_one d st e is apart leg a b) = on_one d st e is apart leg a b

-- notes of before are read first
pub reads_first : {acts : List Act} (n : ℕ) (l after : Layer) (notes : List Note) → LineEffect acts n (unread l) after notes → LineEffect (Reads n ∷ acts) n l after notes
reads_first n l after notes e = record {
  moves = e.moves;
  effect = same_effect e.moves l notes e.effect;
  may = (tt, e.may);
  layers = λ ys got. e.layers (after_act (Reads n) ys) (got_changed n (λ x. unread x) ys l got) ∙ changed_twice n (λ y. after) (λ x. unread x) ys;
  here = λ ys w x got t.
      e.here (after_act (Reads n) ys) (world_after (Reads n) ys w) x (got_changed n (λ x. unread x) ys l got) t ∙ ap (λ (g : Leg). e.moves x.channel g) (leg_on_line (Reads n) ys w x (Some l) t got);
  elsewhere = λ ys w x t. e.elsewhere (after_act (Reads n) ys) (world_after (Reads n) ys w) x t ∙ leg_elsewhere (Reads n) ys w x t;
}

with_notes : {acts : List Act} (n : ℕ) (l after : Layer) (ns ms : List Note) → ns ≡ ms → LineEffect acts n l after ns → LineEffect acts n l after ms
with_notes {acts} n l after ns ms e i = subst (λ (xs : List Note). LineEffect acts n l after xs) e i

-- ---- heeded

heeds_effect : {acts : List Act} (routes : RouteMap) (n : ℕ) (line : SwitchLine) (after : Layer) (notes : List Note) (ls ms : List SwitchLine) (w : World) → slice_get ls n ≡ Some line
    → layers_of ms ≡ changed n (λ y. after) (layers_of ls) → ((x : SwitchChannel) → joined_at ms x ≡ joined_at ls x) → ((x : SwitchChannel) → has_place ms x ≡ has_place ls x) → LineEffect acts n line.end.layer after notes
    → IsSwitch ls w → After acts routes n notes ls w ms
heeds_effect {acts} routes n line after notes ls ms w got layers joined places e i =
    effect_right routes n e.moves line.end.layer ls ms w (world_after_all acts (layers_of ls) w) notes e.effect (layer_got n ls line got) (record {
      reached = record { may = e.may; layers = layers ∙ sym (e.layers (layers_of ls) (layer_got n ls line got)); legs = refl };
      joined = joined;
      places = places;
      here = λ x t. e.here (layers_of ls) w x (layer_got n ls line got) t;
      elsewhere = λ x t. e.elsewhere (layers_of ls) w x t;
    }) i

-- what an end makes of what comes to it
abbrev pub EndEffect : ℕ → Happening → PacketEnd → Type 0
EndEffect n what e = LineEffect (happening_acts n what e) n (unread e.layer) (does what (quieted e)).layer (does what (quieted e)).notes

pub acted_none : (routes : RouteMap) (n : ℕ) (f : PacketEnd → PacketEnd) (ls : List SwitchLine) → slice_get ls n ≡ None → acted routes n f ls ≡ ls
acted_none routes n f ls e =
    ap (λ (ms : List SwitchLine). notes_heeded routes n ms) (changed_none n _ ls e)
    ∙ (ap (λ (o : Option SwitchLine). heed_all routes n (notes_of o) (changed n (with_end without_notes) ls)) e ∙ changed_none n _ ls e)

-- what is read on a line that is not there
reads_none : (n : ℕ) (ls : List SwitchLine) (w : World) → slice_get ls n ≡ None → IsSwitch ls w → Becomes (Reads n ∷ []) ls w ls
reads_none n ls w e i =
    let none : slice_get (layers_of ls) n ≡ None = get_map (λ l. l.end.layer) ls n ∙ ap (λ (o : Option SwitchLine). option_map (λ l. l.end.layer) o) e in
    let r : Reached (Reads n ∷ []) ls w ls (world_after (Reads n) (layers_of ls) w) = record { may = (tt, tt); layers = sym (changed_none n (λ x. unread x) (layers_of ls) none); legs = refl } in
    record {
      world = world_after (Reads n) (layers_of ls) w;
      reached = r;
      right = steady ls ls w (world_after (Reads n) (layers_of ls) w) i r (λ x. refl) (λ x. refl) (λ x. reads_leg x (decided (x.line == n)));
    }
  where
    still : (o : Option Layer) (c : ℕ) (g : Leg) → leg_after (Reads n) o c g ≡ g
    still None c g = refl
    still (Some l) c g = refl

    reads_leg : (x : SwitchChannel) → ((x.line == n) ≡ true) ⊎ ((x.line == n) ≡ false) → world_after (Reads n) (layers_of ls) w x ≡ w x
    reads_leg x (inl t) = leg_on_line (Reads n) (layers_of ls) w x (slice_get (layers_of ls) n) t refl ∙ still (slice_get (layers_of ls) n) x.channel (w x)
    reads_leg x (inr f) = leg_elsewhere (Reads n) (layers_of ls) w x f

pub acted_right : (routes : RouteMap) (n : ℕ) (what : Happening) (ls : List SwitchLine) (w : World) → IsSwitch ls w → ((line : SwitchLine) → slice_get ls n ≡ Some line → EndEffect n what line.end)
    → Becomes (acts_of_all (acted_steps routes n what ls) ls) ls w (acted routes n (does what) ls)
acted_right routes n what ls w i eff = by_line (slice_get ls n) refl
  where
    g : SwitchLine → SwitchLine
    g = with_end (λ e. does what (quieted e))

    l1 : List SwitchLine
    l1 = changed n g ls

    ms : List SwitchLine
    ms = changed n (with_end without_notes) l1

    acts_as : Option SwitchLine → Option SwitchLine → List Act
    acts_as o a = (Reads n ∷ on_line (λ y. happening_acts n what y) o) ++ acts_of_all (heed_all_steps routes n (notes_of a) ms) ms

    by_line : (o : Option SwitchLine) → slice_get ls n ≡ o → Becomes (acts_as (slice_get ls n) (slice_get l1 n)) ls w (acted routes n (does what) ls)
    by_line None e =
        subst (λ (o : Option SwitchLine). Becomes (acts_as o (slice_get l1 n)) ls w (acted routes n (does what) ls)) (sym e)
        (subst (λ (o : Option SwitchLine). Becomes (acts_as None o) ls w (acted routes n (does what) ls)) (sym (ap (λ (ks : List SwitchLine). slice_get ks n) (changed_none n g ls e) ∙ e))
        (subst (λ (ks : List SwitchLine). Becomes (Reads n ∷ []) ls w ks) (sym (acted_none routes n (does what) ls e)) (reads_none n ls w e i)))
    by_line (Some line) e =
        subst (λ (o : Option SwitchLine). Becomes (acts_as o (slice_get l1 n)) ls w (heed_all routes n (notes_of (slice_get l1 n)) ms)) (sym e)
        (subst (λ (o : Option SwitchLine). Becomes (acts_as (Some line) o) ls w (heed_all routes n (notes_of o) ms)) (sym (got_changed n g ls line e))
        (heeds_effect routes n line (does what (quieted line.end)).layer (does what (quieted line.end)).notes ls ms w e
        (ap (λ (ks : List SwitchLine). layers_of ks) (changed_twice n (with_end without_notes) g ls) ∙ layers_changed n (λ x. with_end without_notes (g x)) ls line e)
        (λ x. joined_kept n x.line x.channel (with_end without_notes) l1 (λ l. refl) ∙ joined_kept n x.line x.channel g ls (λ l. refl))
        (λ x. place_after n (with_end without_notes) l1 x (λ l. refl) ∙ place_after n g ls x (λ l. refl)) (reads_first n line.end.layer _ _ (eff line e)) i))

-- ---- a link that is set up anew

pub relinked_effect : (n : ℕ) (e : PacketEnd) → EndEffect n Relinks e
relinked_effect n e = one_act (GoesDown n) (unread e.layer) _ tt (effect (GoesDown n) (unread e.layer) tt)

-- ---- a session of the link begins or ends, and a packet comes

quiet_restart : (b : Body) (l : Layer) → (restart_packet OwnRestart b (unread l)).notes ≡ []
quiet_restart (Restart cause diagnostic) l = refl
quiet_restart RestartConfirmation l = refl
quiet_restart _ l = refl

-- outside r1 what comes makes no notes
quiet_notes : (phase : Phase) (r : Received) (l : Layer) → l.phase ≡ phase → (phase ≡ PacketReady → ⊥) → (on_received (unread l) r).notes ≡ []
quiet_notes PacketReady r l e no_ = absurd (no_ refl)
quiet_notes OwnRestart (Whole p) l e no_ =
    ap (λ (ph : Phase). (cond (p.channel == 0) (restart_packet ph p.body (unread l)) (on_channel ph (unread l) p.channel (λ ch. received_packet l.role l.flow p.channel ch p.body))).notes) e
    ∙ by_cond (λ (y : Layer). y.notes ≡ []) (p.channel == 0) _ _ (λ h. quiet_restart p.body l) (λ h. refl)
quiet_notes OwnRestart (Unknown d) l e no_ = ap (λ (ph : Phase). (on_channel ph (unread l) d (λ ch. unreadable l.role d true ch)).notes) e
quiet_notes OwnRestart (Faulty d) l e no_ = ap (λ (ph : Phase). (on_channel ph (unread l) d (λ ch. unreadable l.role d false ch)).notes) e
quiet_notes NoSession (Whole p) l e no_ =
    ap (λ (ph : Phase). (cond (p.channel == 0) (restart_packet ph p.body (unread l)) (on_channel ph (unread l) p.channel (λ ch. received_packet l.role l.flow p.channel ch p.body))).notes) e
    ∙ by_cond (λ (y : Layer). y.notes ≡ []) (p.channel == 0) _ _ (λ h. refl) (λ h. refl)
quiet_notes NoSession (Unknown d) l e no_ = ap (λ (ph : Phase). (on_channel ph (unread l) d (λ ch. unreadable l.role d true ch)).notes) e
quiet_notes NoSession (Faulty d) l e no_ = ap (λ (ph : Phase). (on_channel ph (unread l) d (λ ch. unreadable l.role d false ch)).notes) e

quiet_leg : (phase : Phase) (r : Received) (c : ℕ) (g : Leg) → (phase ≡ PacketReady → ⊥) → came_in phase r c g ≡ g
quiet_leg PacketReady r c g no_ = absurd (no_ refl)
quiet_leg OwnRestart (Whole p) c g no_ = refl
quiet_leg OwnRestart (Unknown d) c g no_ = refl
quiet_leg OwnRestart (Faulty d) c g no_ = refl
quiet_leg NoSession (Whole p) c g no_ = refl
quiet_leg NoSession (Unknown d) c g no_ = refl
quiet_leg NoSession (Faulty d) c g no_ = refl

abbrev is_ready_phase : Phase → Bool
is_ready_phase PacketReady = true
is_ready_phase ph = false

-- a packet after the session began or ended
packet_later : {acts : List Act} (n : ℕ) (l after : Layer) (notes : List Note) (o : Option Received) → (after.phase ≡ PacketReady → ⊥) → unread after ≡ after
    → LineEffect acts n l after notes → LineEffect (acts ++ heard_acts n o) n l (unread (after_hearing (unread after) o)) (notes ++ (after_hearing (unread after) o).notes)
packet_later {acts} n l after notes None ready quiet e =
    with_notes n l (unread (unread after)) notes (notes ++ []) (sym (append-nil notes)) (subst (λ (as_ : List Act). LineEffect as_ n l (unread (unread after)) notes) (sym (append-nil acts)) (subst (λ (y : Layer). LineEffect acts n l y notes) (sym (ap (λ (z : Layer). unread z) quiet ∙ quiet)) e))
packet_later n l after notes (Some r) ready quiet e =
    with_notes n l (unread (on_received (unread after) r)) notes (notes ++ (on_received (unread after) r).notes)
    (sym (ap (λ (ns : List Note). notes ++ ns) (quiet_notes after.phase r after refl ready) ∙ append-nil notes))
    (and_act (Comes n r) l after notes tt (λ c g. quiet_leg after.phase r c g ready) e)

-- a packet alone
packet_first : (n : ℕ) (l : Layer) (o : Option Received) → LineEffect (heard_acts n o) n (unread l) (unread (after_hearing (unread l) o)) (after_hearing (unread l) o).notes
packet_first n l None = no_effect n (unread l)
packet_first n l (Some r) = one_act (Comes n r) (unread l) _ tt (effect (Comes n r) (unread l) tt)

own_restart_not_ready : OwnRestart ≡ PacketReady → ⊥
own_restart_not_ready e = true≢false (sym (ap (λ (ph : Phase). is_ready_phase ph) e))

no_session_not_ready : NoSession ≡ PacketReady → ⊥
no_session_not_ready e = true≢false (sym (ap (λ (ph : Phase). is_ready_phase ph) e))

brought : (n : ℕ) (e : PacketEnd) (to : End) (note : link_note.Note) (accepted : Option Octets)
    → LineEffect (note_acts n note ++ packet_acts n e.layer.flow accepted) n (unread e.layer) (after_packet accepted (heeded note (record (quieted e) { line = to }))).layer (after_packet accepted (heeded note (record (quieted e) { line = to }))).notes
brought n e to Nothing None = no_effect n (unread e.layer)
brought n e to Nothing (Some octets) = packet_first n e.layer (heard e.layer.flow octets)
brought n e to Up None = one_act (GoesUp n) (unread e.layer) _ tt (effect (GoesUp n) (unread e.layer) tt)
brought n e to Up (Some octets) =
    packet_later n (unread e.layer) (unread (link_up (unread e.layer))) (link_up (unread e.layer)).notes (heard e.layer.flow octets) own_restart_not_ready refl
    (one_act (GoesUp n) (unread e.layer) _ tt (effect (GoesUp n) (unread e.layer) tt))
brought n e to Down None = one_act (GoesDown n) (unread e.layer) _ tt (effect (GoesDown n) (unread e.layer) tt)
brought n e to Down (Some octets) =
    packet_later n (unread e.layer) (unread (link_down (unread e.layer))) (link_down (unread e.layer)).notes (heard e.layer.flow octets) no_session_not_ready refl
    (one_act (GoesDown n) (unread e.layer) _ tt (effect (GoesDown n) (unread e.layer) tt))

pub received_effect : (n : ℕ) (octets : Octets) (e : PacketEnd) → EndEffect n (Brings octets) e
received_effect n octets e = brought n e _ (link_octets.on_octets e.line.link octets).note (link_octets.on_octets e.line.link octets).accepted

-- ---- a timer runs out

named_effect : (n : ℕ) (l : Layer) (o : Option Timer) → LineEffect (timer_acts n o) n (unread l) (unread (on_named (unread l) o)) (on_named (unread l) o).notes
named_effect n l None = no_effect n (unread l)
named_effect n l (Some t) = one_act (Expires n t) (unread l) _ tt (effect (Expires n t) (unread l) tt)

expired_effect_ : (n : ℕ) (id : TimerId) (e : PacketEnd) → LineEffect (expiry_acts n id e) n (unread e.layer) (expired id (quieted e)).layer (expired id (quieted e)).notes
expired_effect_ n T1 e = subst (λ (acts : List Act). LineEffect acts n (unread e.layer) (expired T1 (quieted e)).layer (expired T1 (quieted e)).notes) (append-nil (note_acts n (link.on_t1 e.line.link).note)) (brought n e _ (link.on_t1 e.line.link).note None)
expired_effect_ n id e = named_effect n e.layer (timer_named e.layer.role id)

both_cond : (P : List Act → PacketEnd → Type 0) (b : Bool) (as_ bs : List Act) (e f : PacketEnd) → P as_ e → P bs f → P (if b then as_ else bs) (cond b e f)
both_cond P true as_ bs e f p q = p
both_cond P false as_ bs e f p q = q

pub timer_effect : (n : ℕ) (id : TimerId) (e : PacketEnd) → EndEffect n (RunsOut id) e
timer_effect n id e =
    both_cond (λ (acts : List Act) (y : PacketEnd). LineEffect acts n (unread e.layer) y.layer y.notes) (runs_at (quieted e) id) _ _ _ _ (expired_effect_ n id e) (no_effect n (unread e.layer))

pub does_effect : (n : ℕ) (what : Happening) (e : PacketEnd) → EndEffect n what e
does_effect n (Brings octets) e = received_effect n octets e
does_effect n (RunsOut id) e = timer_effect n id e
does_effect n Relinks e = relinked_effect n e
