-- A channel that has a call is joined: after an act on a line, once its notes are heeded, and after a whole event.
use Rattle.std.proofs.Common.{◌≡◌, ℕ, suc, ◌⊎◌, inl, inr, Bool, true, false, cond, ◌&&◌, ◌==◌, List, [], ◌∷◌, Option, Some, None, is_some, refl, sym, ap, subst, ◌∙◌, true≢false}
use Rattle.std.specs.Prelude.{slice_get}
use Rattle.std.proofs.lemmas.Bool.{eq-eqb}
use Rattle.link_timers.specs.declared.role.Role.{Role}
use Rattle.packet_codec.specs.ClearCause as clear_cause
use Rattle.packet_codec.specs.Diagnostic.{no_information}
use Rattle.data_transfer.specs.Packets.{Note, Reason}
use Rattle.data_transfer.specs.Packets.Note.{Incoming, Connected, Closed, WasReset, InterruptConfirmed, Covered}
use Rattle.packet_channel.specs.Channel.{ChannelState, Channel, Step, had_call}
use Rattle.packet_layer.specs.Layer.{Layer, channel_of, closing_notes}
use Rattle.packet_laws.specs.History.{Epoch}
use Rattle.address_routes.specs.Routes.{RouteMap}
use Rattle.switch_joins.specs.declared.channels.SwitchChannel.{SwitchChannel}
use Rattle.switch_joins.specs.Joins.{Joined}
use Rattle.switch_lines.specs.Lines.{SwitchLine, same_place, changed, joined_at}
use Rattle.switch_lines.specs.Switch.{heed_all, with_end, notes_of, without_notes, quieted, acted}
use Rattle.switch_laws.specs.Leg.{Leg, stepped}
use Rattle.switch_laws.specs.World.Act.{Reads}
use Rattle.switch_laws.specs.Steps.{Happening, does, happening_acts}
use Rattle.switch_laws.specs.World.{Act, World, Shown, shown_of, shown_as, shown_on, shown_at, layers_of, world_after_all}
use Rattle.switch_laws.specs.Joined.{IsSwitch, has_place}
use Rattle.switch_laws.specs.Calls.{HasCall, CallsAreJoined}
use Rattle.switch_laws.proofs.Places.{some_there, place_after}
use Rattle.switch_laws.proofs.Layers.{opened_shown, seen}
use Rattle.switch_laws.proofs.Frame.{reached_there, reached_world}
use Rattle.switch_laws.proofs.Outcomes.{AreOf}
use Rattle.switch_laws.proofs.JoinsAfterNotes.{at}
use Rattle.switch_laws.proofs.Effects.{Effect, Happened, IsStep}
use Rattle.switch_laws.proofs.Effects.Effect.{nothing, closes_all, on_one}
use Rattle.switch_laws.proofs.Arriving.{Arrives, EndsArrive}
use Rattle.switch_laws.proofs.Calling.{Closing, IncomingLast, CallsBefore, heed_calls}
use Rattle.switch_laws.proofs.Turning.{EndEffect, LineEffect, changed_twice, got_changed, layer_got, layers_changed, reads_first, acted_none}
use Rattle.switch_joins.proofs.Apart.{decided, place_is}
use Rattle.switch_lines.proofs.Places.{joined_kept}

-- ---- notes

closed_last : (c : ℕ) (reason : Reason) (chs : List Channel) → IncomingLast (closing_notes c reason chs)
closed_last c reason [] = tt
closed_last c reason (x ∷ xs) = by_call (had_call x.state) (closed_last (suc c) reason xs)
  where
    by_call : (b : Bool) → IncomingLast (closing_notes (suc c) reason xs) → IncomingLast (cond b (Closed c clear_cause.out_of_order no_information reason ∷ closing_notes (suc c) reason xs) (closing_notes (suc c) reason xs))
    by_call true i = i
    by_call false i = i

closed_closing : (n c : ℕ) (reason : Reason) (chs : List Channel) (ls : List SwitchLine) → ((d : ℕ) → HasCall ls (at n d) → ⊥) → Closing n (closing_notes c reason chs) ls
closed_closing n c reason [] ls none = tt
closed_closing n c reason (x ∷ xs) ls none = by_call (had_call x.state) (closed_closing n (suc c) reason xs ls none)
  where
    by_call : (b : Bool) → Closing n (closing_notes (suc c) reason xs) ls → Closing n (cond b (Closed c clear_cause.out_of_order no_information reason ∷ closing_notes (suc c) reason xs) (closing_notes (suc c) reason xs)) ls
    by_call true i = (λ h. absurd (none c h), i)
    by_call false i = i

of_last : (c : ℕ) (role : Role) (s : ChannelState) (ns : List Note) → AreOf c role s ns → IncomingLast ns
of_last c role s [] i = tt
of_last c role s (Incoming d parts ∷ ns) i = i.1.1
of_last c role s (Connected d ∷ ns) i = of_last c role s ns i.1
of_last c role s (Closed d cause diagnostic reason ∷ ns) i = of_last c role s ns i.1
of_last c role s (WasReset d cause diagnostic reason ∷ ns) i = of_last c role s ns i.1
of_last c role s (InterruptConfirmed d ∷ ns) i = of_last c role s ns i.1
of_last c role s (Covered d k ∷ ns) i = of_last c role s ns i.1

of_closing : (n d : ℕ) (role : Role) (s : ChannelState) (ns : List Note) (ls : List SwitchLine) → AreOf d role s ns → (HasCall ls (at n d) → EndsArrive n d ns) → Closing n ns ls
of_closing n d role s [] ls i f = tt
of_closing n d role s (Incoming c parts ∷ ns) ls i f = subst (λ (xs : List Note). Closing n xs ls) (sym i.1.1) tt
of_closing n d role s (Connected c ∷ ns) ls i f = of_closing n d role s ns ls i.1 f
of_closing n d role s (Closed c cause diagnostic reason ∷ ns) ls i f = (
  λ h. subst (λ (k : ℕ). Arrives n ns (at n k)) (sym i.0) (f (subst (λ (k : ℕ). HasCall ls (at n k)) i.0 h)).0,
  of_closing n d role s ns ls i.1 (λ h. (f h).1),
)
of_closing n d role s (WasReset c cause diagnostic reason ∷ ns) ls i f = of_closing n d role s ns ls i.1 f
of_closing n d role s (InterruptConfirmed c ∷ ns) ls i f = of_closing n d role s ns ls i.1 f
of_closing n d role s (Covered c k ∷ ns) ls i f = of_closing n d role s ns ls i.1 f

-- ---- an act, before its notes are heeded

calls_effect : {acts : List Act} (n : ℕ) (f : ℕ → Leg → Leg) (l : Layer) (ls ms : List SwitchLine) (w v : World) (notes : List Note) → Effect f l notes → slice_get (layers_of ls) n ≡ Some l → Happened acts n f ls ms w v
    → IsSwitch ls w → CallsAreJoined ls → CallsBefore n notes ms
calls_effect n f l ls ms w v notes eff got h i all = by_effect eff
  where
    places : (x : SwitchChannel) → is_some (shown_at (layers_of ms) x) ≡ true → has_place ms x ≡ true
    places x e = h.places x ∙ i.places x (sym (reached_there ls ms w v h.reached x) ∙ e)

    now : (x : SwitchChannel) → HasCall ms x → had_call (v x).channel.state ≡ true
    now x c = ap (λ (s : Shown). had_call s.channel.state) (sym (reached_world ls ms w v h.reached i.world x c.channel c.there).shown) ∙ c.call

    there : (x : SwitchChannel) → HasCall ms x → is_some (shown_at (layers_of ls) x) ≡ true
    there x c = sym (reached_there ls ms w v h.reached x) ∙ ap (λ (o : Option Shown). is_some o) c.there

    -- one that had a call is joined
    before : (x : SwitchChannel) → HasCall ms x → had_call (w x).channel.state ≡ true → is_some (joined_at ms x) ≡ true
    before x c e =
        let s = some_there (shown_at (layers_of ls) x) (there x c) in
        ap (λ (o : Option Joined). is_some o) (h.joined x)
        ∙ all x (record { channel = s.0; there = s.1; call = ap (λ (t : Shown). had_call t.channel.state) (i.world x s.0 s.1).shown ∙ e })

    same : (x : SwitchChannel) → HasCall ms x → v x ≡ w x → is_some (joined_at ms x) ≡ true
    same x c e = before x c (ap (λ (g : Leg). had_call g.channel.state) (sym e) ∙ now x c)

    apart_of : (d : ℕ) → ((c : ℕ) (g : Leg) → (c == d) ≡ false → f c g ≡ g) → (x : SwitchChannel) → same_place x (at n d) ≡ false → v x ≡ w x
    apart_of d apart x e = by_line (decided (x.line == n))
      where
        by_line : ((x.line == n) ≡ true) ⊎ ((x.line == n) ≡ false) → v x ≡ w x
        by_line (inl t) = h.here x t ∙ apart x.channel (w x) (sym (ap (λ (b : Bool). b && (x.channel == d)) t) ∙ e)
        by_line (inr g) = h.elsewhere x g

    one_step : (d : ℕ) (st : Shown → Step) (e : Leg → Epoch) → IsStep d st e → ((c : ℕ) (g : Leg) → (c == d) ≡ false → f c g ≡ g) → ((g : Leg) → f d g ≡ stepped (st (shown_of g)) (e g) g)
        → (o : Option Channel) → channel_of l d ≡ o → (o ≡ None → notes ≡ []) → ((ch : Channel) → o ≡ Some ch → notes ≡ (st (seen l ch)).notes) → CallsBefore n notes ms
    one_step d st e is apart leg None fd empty some =
        subst (λ (ns : List Note). CallsBefore n ns ms) (sym (empty refl)) (record { calls = λ x c. inl (by_place x c (decided (same_place x (at n d)))); closing = tt; last = tt; places = places })
      where
        by_place : (x : SwitchChannel) → HasCall ms x → (same_place x (at n d) ≡ true) ⊎ (same_place x (at n d) ≡ false) → is_some (joined_at ms x) ≡ true
        by_place x c (inr g) = same x c (apart_of d apart x g)
        by_place x c (inl t) =
            let gone : shown_at (layers_of ls) (at n d) ≡ None = ap (λ (o : Option Layer). shown_on o d) got ∙ ap (λ (o : Option Channel). shown_as l o) fd in
            absurd (true≢false (sym (there x c) ∙ ap (λ (o : Option Shown). is_some o) (ap (λ (y : SwitchChannel). shown_at (layers_of ls) y) (place_is x (at n d) t) ∙ gone)))
    one_step d st e is apart leg (Some ch) fd empty some =
        subst (λ (ns : List Note). CallsBefore n ns ms) (sym notes_are) (record {
          calls = λ x c. by_place x c (decided (same_place x p));
          closing = of_closing n d (w p).role (st (shown_of (w p))).channel.state (st (shown_of (w p))).notes ms (is.notes_of_it (shown_of (w p))) (λ c. (is.calls n (shown_of (w p))).ends (stepped_call c));
          last = of_last d (w p).role (st (shown_of (w p))).channel.state (st (shown_of (w p))).notes (is.notes_of_it (shown_of (w p)));
          places = places;
        })
      where
        p : SwitchChannel
        p = at n d

        shown_p : shown_at (layers_of ls) p ≡ Some (seen l ch)
        shown_p = ap (λ (o : Option Layer). shown_on o d) got ∙ ap (λ (o : Option Channel). shown_as l o) fd

        notes_are : notes ≡ (st (shown_of (w p))).notes
        notes_are = some ch refl ∙ ap (λ (s : Shown). (st s).notes) (i.world p (seen l ch) shown_p).shown

        leg_is : v p ≡ stepped (st (shown_of (w p))) (e (w p)) (w p)
        leg_is = h.here p (eq-eqb n n refl) ∙ leg (w p)

        state_is : (v p).channel.state ≡ (st (shown_of (w p))).channel.state
        state_is = ap (λ (s : Shown). s.channel.state) (ap (λ (g : Leg). shown_of g) leg_is ∙ opened_shown (st (shown_of (w p))).owes _)

        stepped_call : HasCall ms p → had_call (st (shown_of (w p))).channel.state ≡ true
        stepped_call c = ap (λ (s : ChannelState). had_call s) (sym state_is) ∙ now p c

        at_p : HasCall ms p → (is_some (joined_at ms p) ≡ true) ⊎ Arrives n (st (shown_of (w p))).notes p
        at_p c = elim ((is.calls n (shown_of (w p))).begins (stepped_call c)) [ inl old ↦ inl (before p c old) | inr a ↦ inr a ]

        by_place : (x : SwitchChannel) → HasCall ms x → (same_place x p ≡ true) ⊎ (same_place x p ≡ false) → (is_some (joined_at ms x) ≡ true) ⊎ Arrives n (st (shown_of (w p))).notes x
        by_place x c (inr g) = inl (same x c (apart_of d apart x g))
        by_place x c (inl t) =
            let e = place_is x p t in
            subst (λ (y : SwitchChannel). (is_some (joined_at ms y) ≡ true) ⊎ Arrives n (st (shown_of (w p))).notes y) (sym e) (at_p (subst (λ (y : SwitchChannel). HasCall ms y) e c))

    by_effect : Effect f l notes → CallsBefore n notes ms
    by_effect (nothing none legs) =
        subst (λ (ns : List Note). CallsBefore n ns ms) (sym none) (record { calls = λ x c. inl (same x c (by_line x (decided (x.line == n)))); closing = tt; last = tt; places = places })
      where
        by_line : (x : SwitchChannel) → ((x.line == n) ≡ true) ⊎ ((x.line == n) ≡ false) → v x ≡ w x
        by_line x (inl t) = h.here x t ∙ legs x.channel (w x)
        by_line x (inr g) = h.elsewhere x g
    by_effect (closes_all reason is legs) =
        subst (λ (ns : List Note). CallsBefore n ns ms) (sym is) (record {
          calls = λ x c. inl (by_line x c (decided (x.line == n)));
          closing = closed_closing n 1 reason l.channels ms (λ d c. no_call (at n d) c (eq-eqb n n refl));
          last = closed_last 1 reason l.channels;
          places = places;
        })
      where
        no_call : (x : SwitchChannel) → HasCall ms x → (x.line == n) ≡ true → ⊥
        no_call x c t = true≢false (sym (now x c) ∙ ap (λ (g : Leg). had_call g.channel.state) (h.here x t ∙ legs x.channel (w x)))

        by_line : (x : SwitchChannel) → HasCall ms x → ((x.line == n) ≡ true) ⊎ ((x.line == n) ≡ false) → is_some (joined_at ms x) ≡ true
        by_line x c (inl t) = absurd (no_call x c t)
        by_line x c (inr g) = same x c (h.elsewhere x g)
    by_effect (on_one d st e is apart leg empty some) = one_step d st e is apart leg (channel_of l d) refl empty some

-- ---- and once they are

pub acted_calls : (routes : RouteMap) (n : ℕ) (what : Happening) (ls : List SwitchLine) (w : World) → IsSwitch ls w → ((line : SwitchLine) → slice_get ls n ≡ Some line → EndEffect n what line.end)
    → CallsAreJoined ls → CallsAreJoined (acted routes n (does what) ls)
acted_calls routes n what ls w i eff all = by_line (slice_get ls n) refl
  where
    g : SwitchLine → SwitchLine
    g = with_end (λ e. does what (quieted e))

    l1 : List SwitchLine
    l1 = changed n g ls

    ms : List SwitchLine
    ms = changed n (with_end without_notes) l1

    by_line : (o : Option SwitchLine) → slice_get ls n ≡ o → CallsAreJoined (acted routes n (does what) ls)
    by_line None e = subst (λ (ks : List SwitchLine). CallsAreJoined ks) (sym (acted_none routes n (does what) ls e)) all
    by_line (Some line) e =
        let after = (does what (quieted line.end)).layer in
        let notes = (does what (quieted line.end)).notes in
        let acts : List Act = Reads n ∷ happening_acts n what line.end in
        let x : LineEffect acts n line.end.layer after notes = reads_first n line.end.layer after notes (eff line e) in
        let is : layers_of ms ≡ changed n (λ y. after) (layers_of ls) =
        ap (λ (ks : List SwitchLine). layers_of ks) (changed_twice n (with_end without_notes) g ls) ∙ layers_changed n (λ y. with_end without_notes (g y)) ls line e in
        subst (λ (o : Option SwitchLine). CallsAreJoined (heed_all routes n (notes_of o) ms)) (sym (got_changed n g ls line e))
        (heed_calls routes n notes ms
        (calls_effect {acts = acts} n x.moves line.end.layer ls ms w (world_after_all acts (layers_of ls) w) notes x.effect (layer_got n ls line e) (record {
          reached = record { may = x.may; layers = is ∙ sym (x.layers (layers_of ls) (layer_got n ls line e)); legs = refl };
          joined = λ y. joined_kept n y.line y.channel (with_end without_notes) l1 (λ l. refl) ∙ joined_kept n y.line y.channel g ls (λ l. refl);
          places = λ y. place_after n (with_end without_notes) l1 y (λ l. refl) ∙ place_after n g ls y (λ l. refl);
          here = λ y t. x.here (layers_of ls) w y (layer_got n ls line e) t;
          elsewhere = λ y t. x.elsewhere (layers_of ls) w y t;
        }) i all))
