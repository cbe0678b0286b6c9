-- Channels that have calls are joined, once the notes are heeded.
use Rattle.std.proofs.Common.{◌≡◌, ℕ, zero, suc, ◌⊎◌, inl, inr, Bool, true, false, not, List, [], ◌∷◌, Option, Some, None, is_some, refl, sym, ap, subst, ◌∙◌, true≢false}
use Rattle.std.specs.Prelude.{slice_get}
use Rattle.std.proofs.lemmas.Option.{none-some, same_Some}
use Rattle.link_timers.specs.declared.role.Role.{Role}
use Rattle.data_transfer.specs.declared.flow.Flow.{Flow}
use Rattle.packet_codec.specs.Diagnostic.{no_information}
use Rattle.data_transfer.specs.Packets.{CallParts, Note, Reason}
use Rattle.data_transfer.specs.Packets.Note.{Incoming, Connected, Closed, WasReset, InterruptConfirmed, Covered}
use Rattle.packet_channel.specs.Channel.{ChannelState, Channel, Step, Request, Refusal, refusal, requested, unless, carried_out, owing, refused_if, had_call, may_accept, may_clear}
use Rattle.packet_channel.specs.Channel.Request.{Accept, Clearing, Resetting, Sending, Interrupting, Stopping, Taking, Releasing, Confirming}
use Rattle.packet_channel.specs.Channel.ChannelState.{Ready, OwnWaiting, FarWaiting, Transfer, Collision, OwnClear}
use Rattle.packet_layer.specs.Layer.{Layer, channel_of, channel_given, on_found, request, call}
use Rattle.packet_laws.proofs.Line.Lines.{nth_same}
use Rattle.address_routes.specs.Routes.{RouteMap, line_for}
use Rattle.switch_joins.specs.Direction.{Direction, new_direction, releasable, released}
use Rattle.joined_line.specs.Causes.{clear_cause, reset_cause, far_diagnostic}
use Rattle.switch_joins.specs.declared.channels.SwitchChannel.{SwitchChannel}
use Rattle.switch_joins.specs.Joins.{Joined}
use Rattle.switch_lines.specs.Lines.{SwitchLine, same_place, changed, joined_at, with_joined, ask, is_trunk}
use Rattle.switch_lines.specs.Relay.{freed, kept_anew, covered_on, told_joined, told_of}
use Rattle.switch_lines.specs.Switch.{Answer, answer, answered, forwarded, place_call, has_any, route_from, heed, heed_all}
use Rattle.switch_lines.specs.Switch.Answer.{Clears, Joins}
use Rattle.switch_laws.specs.World.{Shown, shown_as, shown_on, shown_at, layers_of}
use Rattle.switch_laws.specs.World.Act.{Asks, Calls}
use Rattle.switch_laws.specs.Joined.{has_place}
use Rattle.switch_laws.specs.Calls.{HasCall, CallsAreJoined}
use Rattle.switch_laws.proofs.Legs.{not_refused, not_false}
use Rattle.switch_laws.proofs.Lists.{map_changed, same_as}
use Rattle.switch_laws.proofs.Places.{joined_here, joined_place, place_after, place_joined, layers_asked, some_there, there_after}
use Rattle.switch_laws.proofs.SettingUp.{accepts_call, IsFreePlace, IsAnswer, answer_by_is, answer_if, layer_there}
use Rattle.switch_laws.proofs.JoinsOfOtherLines.{asked_beside, joined_beside, placed_beside, line_beside, differ, free_shown}
use Rattle.switch_laws.proofs.JoinsAfterNotes.{at}
use Rattle.switch_laws.proofs.Arriving.{Arrives}
use Rattle.switch_joins.proofs.Apart.{decided, place_is}
use Rattle.switch_lines.proofs.Places.{joined_kept, joined_asked, joined_apart}

-- ---- a request makes no call

unless_call : (r : Option Refusal) (role : Role) (flow : Flow) (q : Request) (ch : Channel) → refusal role flow ch q ≡ r → had_call (owing (unless r (carried_out ch q) ch)).state ≡ true → had_call ch.state ≡ true
unless_call (Some r) role flow q ch e h = h
unless_call None role flow Accept ch e h = accepts_call role ch.state (not_false _ (not_refused (not (may_accept role ch.state)) _ _ e).0)
unless_call None role flow (Clearing cause diagnostic) ch e h = absurd (true≢false (sym h))
unless_call None role flow (Resetting cause diagnostic) ch e h = h
unless_call None role flow (Sending d) ch e h = h
unless_call None role flow (Interrupting octets) ch e h = h
unless_call None role flow (Stopping b) ch e h = h
unless_call None role flow Taking ch e h = h
unless_call None role flow (Releasing n) ch e h = h
unless_call None role flow Confirming ch e h = h

-- a clear leaves none
may_clear_call : (s : ChannelState) → may_clear s ≡ false → had_call s ≡ false
may_clear_call Ready e = refl
may_clear_call OwnClear e = refl
may_clear_call OwnWaiting e = absurd (true≢false e)
may_clear_call FarWaiting e = absurd (true≢false e)
may_clear_call Transfer e = absurd (true≢false e)
may_clear_call Collision e = absurd (true≢false e)

cleared_call : (b : Bool) (cause diagnostic : ℕ) (ch : Channel) → may_clear ch.state ≡ b → had_call (owing (unless (refused_if (not b) Refusal.NoCall None) (carried_out ch (Clearing cause diagnostic)) ch)).state ≡ false
cleared_call true cause diagnostic ch e = refl
cleared_call false cause diagnostic ch e = may_clear_call ch.state e

-- ---- the channel of which something is asked

-- at a line that is changed
pub shown_in : (f : Layer → Layer) (n c : ℕ) (ys : List Layer) (s : Shown) → shown_on (slice_get (changed n f ys) n) c ≡ Some s → (l : Layer) × ((shown_as (f l) (channel_of (f l) c) ≡ Some s) × (slice_get ys n ≡ Some l))
shown_in f n c [] s e = absurd (none-some s e)
shown_in f zero c (y ∷ ys) s e = (y, (e, refl))
shown_in f (suc n) c (y ∷ ys) s e = shown_in f n c ys s e

found_here : (l : Layer) (c : ℕ) (step : Channel → Step) (o : Option Channel) (s : Shown) → channel_of l c ≡ o → shown_as (on_found l c step o) (channel_of (on_found l c step o) c) ≡ Some s
    → (ch : Channel) × ((channel_of l c ≡ Some ch) × (s ≡ record { role = l.role; flow = l.flow; channel = owing (step ch) }))
found_here l c step None s got e = absurd (none-some s (sym (ap (λ (o : Option Channel). shown_as l o) got) ∙ e))
found_here l c step (Some ch) s got e = (ch, (got, same_Some s _ (sym e ∙ ap (λ (o : Option Channel). shown_as l o) (nth_same l.channels c ch (owing (step ch)) got))))

pub record AskedShown (q : SwitchChannel) (r : Request) (ls : List SwitchLine) (s : Shown) : Type 0 where
  pub layer : Layer
  pub old : Channel
  pub there : shown_at (layers_of ls) q ≡ Some (record { role = layer.role; flow = layer.flow; channel = old })
  pub is : s.channel ≡ owing (requested layer.role layer.flow old r)

asked_shown : (q : SwitchChannel) (r : Request) (ls : List SwitchLine) (s : Shown) → shown_at (layers_of (ask q r ls)) q ≡ Some s → AskedShown q r ls s
asked_shown q r ls s e =
    let a = shown_in (λ l. request l q.channel r) q.line q.channel (layers_of ls) s (sym (ap (λ (ys : List Layer). shown_at ys q) (layers_asked q r ls)) ∙ e) in
    let b = found_here a.0 q.channel (λ ch. requested a.0.role a.0.flow ch r) (channel_of a.0 q.channel) s refl a.1.0 in
    record {
      layer = a.0;
      old = b.0;
      there = ap (λ (o : Option Layer). shown_on o q.channel) a.1.1 ∙ ap (λ (o : Option Channel). shown_as a.0 o) b.1.0;
      is = ap (λ (t : Shown). t.channel) b.1.1;
    }

pub asked_call : (q : SwitchChannel) (r : Request) (ls : List SwitchLine) (x : SwitchChannel) → HasCall (ask q r ls) x → HasCall ls x
asked_call q r ls x h = by_place (decided (same_place x q))
  where
    by_place : (same_place x q ≡ true) ⊎ (same_place x q ≡ false) → HasCall ls x
    by_place (inr f) = record { channel = h.channel; there = sym (asked_beside q r ls x f) ∙ h.there; call = h.call }
    by_place (inl t) =
        let is = place_is x q t in
        let a = asked_shown q r ls h.channel (ap (λ (y : SwitchChannel). shown_at (layers_of (ask q r ls)) y) (sym is) ∙ h.there) in
        record {
          channel = record { role = a.layer.role; flow = a.layer.flow; channel = a.old };
          there = ap (λ (y : SwitchChannel). shown_at (layers_of ls) y) is ∙ a.there;
          call = unless_call (refusal a.layer.role a.layer.flow a.old r) a.layer.role a.layer.flow r a.old refl (ap (λ (ch : Channel). had_call ch.state) (sym a.is) ∙ h.call);
        }

pub cleared_none : (q : SwitchChannel) (cause diagnostic : ℕ) (ls : List SwitchLine) → HasCall (ask q (Clearing cause diagnostic) ls) q → ⊥
cleared_none q cause diagnostic ls h =
    let a = asked_shown q (Clearing cause diagnostic) ls h.channel h.there in
    true≢false (sym h.call ∙ (ap (λ (ch : Channel). had_call ch.state) a.is ∙ cleared_call (may_clear a.old.state) cause diagnostic a.old refl))

joined_call : (q : SwitchChannel) (o : Option Joined) (ls : List SwitchLine) (x : SwitchChannel) → HasCall (with_joined q o ls) x → HasCall ls x
joined_call q o ls x h = record { channel = h.channel; there = sym (joined_beside q o ls x) ∙ h.there; call = h.call }

-- ---- what is told makes no call, and all but the end of a call keeps the joins

pub record Keeps (ls ms : List SwitchLine) : Type 0 where
  pub calls : (x : SwitchChannel) → HasCall ms x → HasCall ls x
  pub joins : (x : SwitchChannel) → is_some (joined_at ls x) ≡ true → is_some (joined_at ms x) ≡ true
  pub places : (x : SwitchChannel) → has_place ms x ≡ has_place ls x
  pub there : (x : SwitchChannel) → is_some (shown_at (layers_of ms) x) ≡ is_some (shown_at (layers_of ls) x)

pub keeps_same : (ls : List SwitchLine) → Keeps ls ls
keeps_same ls = record { calls = λ x h. h; joins = λ x e. e; places = λ x. refl; there = λ x. refl }

pub keeps_then : (ls ms xs : List SwitchLine) → Keeps ls ms → Keeps ms xs → Keeps ls xs
keeps_then ls ms xs a b = record { calls = λ x h. a.calls x (b.calls x h); joins = λ x e. b.joins x (a.joins x e); places = λ x. b.places x ∙ a.places x; there = λ x. b.there x ∙ a.there x }

pub keeps_asked : (q : SwitchChannel) (r : Request) (ls : List SwitchLine) → Keeps ls (ask q r ls)
keeps_asked q r ls = record {
  calls = asked_call q r ls;
  joins = λ x e. ap (λ (o : Option Joined). is_some o) (joined_asked q r x ls) ∙ e;
  places = λ x. place_after q.line _ ls x (λ l. refl);
  there = λ x. ap (λ (ys : List Layer). is_some (shown_at ys x)) (layers_asked q r ls) ∙ there_after (Asks q r) (layers_of ls) x;
}

pub keeps_joined : (q : SwitchChannel) (j : Joined) (ls : List SwitchLine) → Keeps ls (with_joined q (Some j) ls)
keeps_joined q j ls = record {
  calls = joined_call q (Some j) ls;
  joins = λ x e. by_place x e (decided (same_place x q));
  places = λ x. place_joined q (Some j) ls x;
  there = λ x. ap (λ (o : Option Shown). is_some o) (joined_beside q (Some j) ls x);
}
  where
    by_place : (x : SwitchChannel) → is_some (joined_at ls x) ≡ true → (same_place x q ≡ true) ⊎ (same_place x q ≡ false) → is_some (joined_at (with_joined q (Some j) ls) x) ≡ true
    by_place x e (inr f) = ap (λ (o : Option Joined). is_some o) (joined_apart q (Some j) x ls f) ∙ e
    by_place x e (inl t) =
        let is = place_is x q t in
        let k = some_there (joined_at ls q) (ap (λ (y : SwitchChannel). is_some (joined_at ls y)) (sym is) ∙ e) in
        ap (λ (y : SwitchChannel). is_some (joined_at (with_joined q (Some j) ls) y)) is ∙ ap (λ (o : Option Joined). is_some o) (joined_here q (Some j) ls (joined_place ls q k.0 k.1))

pub keeps_freed : (q : SwitchChannel) (k : Joined) (v : Direction) (ls : List SwitchLine) → Keeps ls (freed q k v ls)
keeps_freed q k v ls = keeps_then ls (ask q (Releasing (releasable v.held)) ls) _ (keeps_asked q (Releasing (releasable v.held)) ls) (keeps_joined q (record k { kept = released v }) _)

keeps_covered : (n : ℕ) (o : Option Joined) (q : SwitchChannel) (ls : List SwitchLine) → Keeps ls (covered_on n o q ls)
keeps_covered n None q ls = keeps_same ls
keeps_covered n (Some k) q ls = keeps_freed q k _ ls

keeps_anew : (o : Option Joined) (q : SwitchChannel) (ls : List SwitchLine) → Keeps ls (kept_anew o q ls)
keeps_anew None q ls = keeps_same ls
keeps_anew (Some k) q ls = keeps_joined q (record k { kept = new_direction }) ls

abbrev pub IsNoEnd : Note → Type 0
IsNoEnd (Closed c cause diagnostic reason) = ⊥
IsNoEnd note = Unit {0}

keeps_told : (note : Note) (p : SwitchChannel) (i : Joined) (ls : List SwitchLine) → IsNoEnd note → Keeps ls (told_joined note p i ls)
keeps_told (Incoming c parts) p i ls e = keeps_same ls
keeps_told (Connected c) p i ls e = keeps_asked i.other Accept ls
keeps_told (Closed c cause diagnostic reason) p i ls e = absurd e
keeps_told (WasReset c cause diagnostic reason) p i ls e =
    let r = Resetting (reset_cause reason cause) (far_diagnostic reason diagnostic) in
    keeps_then ls (ask i.other r ls) _ (keeps_asked i.other r ls) (keeps_then (ask i.other r ls) (kept_anew (Some i) p (ask i.other r ls)) _ (keeps_anew (Some i) p (ask i.other r ls)) (keeps_anew (joined_at ls i.other) i.other _))
keeps_told (InterruptConfirmed c) p i ls e = keeps_asked i.other Confirming ls
keeps_told (Covered c n) p i ls e = keeps_covered n (joined_at ls i.other) i.other ls

-- ---- while notes are still to be heeded

-- where a call is over, none is left on the channel, or one came in after it
abbrev pub Closing : (line : ℕ) → List Note → List SwitchLine → Type 0
Closing n [] ls = Unit {0}
Closing n (Closed c cause diagnostic reason ∷ ns) ls = (HasCall ls (at n c) → Arrives n ns (at n c)) × Closing n ns ls
Closing n (note ∷ ns) ls = Closing n ns ls

-- after a call that came in there is no note
abbrev pub IncomingLast : List Note → Type 0
IncomingLast [] = Unit {0}
IncomingLast (Incoming c parts ∷ ns) = ns ≡ []
IncomingLast (note ∷ ns) = IncomingLast ns

pub record CallsBefore (n : ℕ) (ns : List Note) (ls : List SwitchLine) : Type 0 where
  pub calls : (x : SwitchChannel) → HasCall ls x → (is_some (joined_at ls x) ≡ true) ⊎ Arrives n ns x
  pub closing : Closing n ns ls
  pub last : IncomingLast ns
  pub places : (x : SwitchChannel) → is_some (shown_at (layers_of ls) x) ≡ true → has_place ls x ≡ true

closing_kept : (n : ℕ) (ns : List Note) (ls ms : List SwitchLine) → ((x : SwitchChannel) → HasCall ms x → HasCall ls x) → Closing n ns ls → Closing n ns ms
closing_kept n [] ls ms f c = tt
closing_kept n (Closed d cause diagnostic reason ∷ ns) ls ms f c = (λ h. c.0 (f (at n d) h), closing_kept n ns ls ms f c.1)
closing_kept n (Incoming d parts ∷ ns) ls ms f c = closing_kept n ns ls ms f c
closing_kept n (Connected d ∷ ns) ls ms f c = closing_kept n ns ls ms f c
closing_kept n (WasReset d cause diagnostic reason ∷ ns) ls ms f c = closing_kept n ns ls ms f c
closing_kept n (InterruptConfirmed d ∷ ns) ls ms f c = closing_kept n ns ls ms f c
closing_kept n (Covered d k ∷ ns) ls ms f c = closing_kept n ns ls ms f c

before_kept : (n : ℕ) (ns : List Note) (ls ms : List SwitchLine) → Keeps ls ms → CallsBefore n ns ls → CallsBefore n ns ms
before_kept n ns ls ms k b = record {
  calls = λ x h. elim (b.calls x (k.calls x h)) [ inl e ↦ inl (k.joins x e) | inr a ↦ inr a ];
  closing = closing_kept n ns ls ms k.calls b.closing;
  last = b.last;
  places = λ x e. k.places x ∙ b.places x (sym (k.there x) ∙ e);
}

-- the channel of a call that is over
before_closed : (n c cause diagnostic : ℕ) (reason : Reason) (ns : List Note) (i : Joined) (ls : List SwitchLine) → CallsBefore n (Closed c cause diagnostic reason ∷ ns) ls
    → CallsBefore n ns (told_joined (Closed c cause diagnostic reason) (at n c) i ls)
before_closed n c cause diagnostic reason ns i ls b = record {
  calls = λ x h. by_place x h (decided (same_place x q)) (decided (same_place x p));
  closing = closing_kept n ns ls ms old b.closing.1;
  last = b.last;
  places = λ x e. (place_after q.line _ l2 x (λ l. refl) ∙ (place_joined q None l1 x ∙ place_joined p None ls x)) ∙ b.places x (sym (same x) ∙ e);
}
  where
    p : SwitchChannel
    p = at n c

    q : SwitchChannel
    q = i.other

    r : Request
    r = Clearing (clear_cause (is_trunk (slice_get ls n)) reason cause) (far_diagnostic reason diagnostic)

    l1 : List SwitchLine
    l1 = with_joined p None ls

    l2 : List SwitchLine
    l2 = with_joined q None l1

    ms : List SwitchLine
    ms = ask q r l2

    old : (x : SwitchChannel) → HasCall ms x → HasCall ls x
    old x h = joined_call p None ls x (joined_call q None l1 x (asked_call q r l2 x h))

    same : (x : SwitchChannel) → is_some (shown_at (layers_of ms) x) ≡ is_some (shown_at (layers_of ls) x)
    same x = (keeps_asked q r l2).there x ∙ (ap (λ (o : Option Shown). is_some o) (joined_beside q None l1 x) ∙ ap (λ (o : Option Shown). is_some o) (joined_beside p None ls x))

    by_place : (x : SwitchChannel) → HasCall ms x → (same_place x q ≡ true) ⊎ (same_place x q ≡ false) → (same_place x p ≡ true) ⊎ (same_place x p ≡ false) → (is_some (joined_at ms x) ≡ true) ⊎ Arrives n ns x
    by_place x h (inl t) u = absurd (cleared_none q (clear_cause (is_trunk (slice_get ls n)) reason cause) (far_diagnostic reason diagnostic) l2 (subst (λ (y : SwitchChannel). HasCall ms y) (place_is x q t) h))
    by_place x h (inr f) (inl t) = let is = place_is x p t in inr (subst (λ (y : SwitchChannel). Arrives n ns y) (sym is) (b.closing.0 (subst (λ (y : SwitchChannel). HasCall ls y) is (old x h))))
    by_place x h (inr f) (inr g) =
        elim (b.calls x (old x h)) [
          | inl e ↦ inl (ap (λ (o : Option Joined). is_some o) (joined_asked q r x l2 ∙ (joined_apart q None x l1 f ∙ joined_apart p None x ls g)) ∙ e)
          | inr a ↦ inr a
        ]

-- ---- a note is heeded

before_told : (n c : ℕ) (note : Note) (o : Option Joined) (ns : List Note) (ls : List SwitchLine) → IsNoEnd note → CallsBefore n ns ls → CallsBefore n ns (told_of o note (at n c) ls)
before_told n c note None ns ls e b = b
before_told n c note (Some i) ns ls e b = before_kept n ns ls _ (keeps_told note (at n c) i ls e) b

before_over : (n c cause diagnostic : ℕ) (reason : Reason) (o : Option Joined) (ns : List Note) (ls : List SwitchLine) → CallsBefore n (Closed c cause diagnostic reason ∷ ns) ls
    → CallsBefore n ns (told_of o (Closed c cause diagnostic reason) (at n c) ls)
before_over n c cause diagnostic reason None ns ls b = record { calls = b.calls; closing = b.closing.1; last = b.last; places = b.places }
before_over n c cause diagnostic reason (Some i) ns ls b = before_closed n c cause diagnostic reason ns i ls b

placed_call : (q : SwitchChannel) (parts : CallParts) (ls : List SwitchLine) → IsFreePlace ls q → (x : SwitchChannel) → same_place x q ≡ false → HasCall (place_call q.line parts ls) x → HasCall ls x
placed_call q parts ls f x e h = record { channel = h.channel; there = sym same ∙ h.there; call = h.call }
  where
    same : shown_at (layers_of (place_call q.line parts ls)) x ≡ shown_at (layers_of ls) x
    same =
        ap (λ (ys : List Layer). shown_at ys x) (map_changed (λ l. l.end.layer) _ (λ l. call l parts) q.line ls (λ l. refl))
        ∙ line_beside (λ l. call l parts) q.line x.line x.channel (layers_of ls)
        (λ l on got.
        let is : l ≡ f.line.end.layer = same_Some l f.line.end.layer (sym got ∙ (ap (λ (k : ℕ). slice_get (layers_of ls) k) on ∙ layer_there ls q f)) in
        placed_beside l parts (channel_given l l.phase) x.channel
        (λ d given c. differ x q e on (c ∙ sym (same_Some q.channel d (sym f.given ∙ (ap (λ (y : Layer). channel_given y y.phase) (sym is) ∙ given))))))

before_answered : (n c : ℕ) (a : Answer) (parts : CallParts) (ns : List Note) (ls : List SwitchLine) → IsAnswer ls a → CallsBefore n (Incoming c parts ∷ ns) ls → CallsBefore n ns (answered a (at n c) parts ls)
before_answered n c (Clears cause) parts ns ls f b = record {
  calls = λ x h. by_place x h (decided (same_place x p));
  closing = subst (λ (xs : List Note). Closing n xs ms) (sym b.last) tt;
  last = subst (λ (xs : List Note). IncomingLast xs) (sym b.last) tt;
  places = λ x e. (keeps_asked p r ls).places x ∙ b.places x (sym ((keeps_asked p r ls).there x) ∙ e);
}
  where
    p : SwitchChannel
    p = at n c

    r : Request
    r = Clearing cause no_information

    ms : List SwitchLine
    ms = ask p r ls

    by_place : (x : SwitchChannel) → HasCall ms x → (same_place x p ≡ true) ⊎ (same_place x p ≡ false) → (is_some (joined_at ms x) ≡ true) ⊎ Arrives n ns x
    by_place x h (inl t) = absurd (cleared_none p cause no_information ls (subst (λ (y : SwitchChannel). HasCall ms y) (place_is x p t) h))
    by_place x h (inr g) =
        elim (b.calls x (asked_call p r ls x h)) [
          | inl e ↦ inl ((keeps_asked p r ls).joins x e)
          | inr y ↦ elim y [ inl is ↦ absurd (true≢false (sym (same_as x p is) ∙ g)) | inr a ↦ inr a ]
        ]
before_answered n c (Joins q) parts ns ls f b = record {
  calls = λ x h. by_place x h (decided (same_place x q)) (decided (same_place x p));
  closing = subst (λ (xs : List Note). Closing n xs ms) (sym b.last) tt;
  last = subst (λ (xs : List Note). IncomingLast xs) (sym b.last) tt;
  places = λ x e. kept_place x ∙ b.places x (sym (same x) ∙ e);
}
  where
    p : SwitchChannel
    p = at n c

    jp : Joined
    jp = record { other = q; came_in = true; kept = new_direction }

    jq : Joined
    jq = record { other = p; came_in = false; kept = new_direction }

    k1 : List SwitchLine
    k1 = place_call q.line (forwarded ls n parts) ls

    k2 : List SwitchLine
    k2 = with_joined p (Some jp) k1

    ms : List SwitchLine
    ms = with_joined q (Some jq) k2

    place1 : (x : SwitchChannel) → has_place k1 x ≡ has_place ls x
    place1 x = place_after q.line _ ls x (λ l. refl)

    kept_place : (x : SwitchChannel) → has_place ms x ≡ has_place ls x
    kept_place x = place_joined q (Some jq) k2 x ∙ (place_joined p (Some jp) k1 x ∙ place1 x)

    same : (x : SwitchChannel) → is_some (shown_at (layers_of ms) x) ≡ is_some (shown_at (layers_of ls) x)
    same x =
        ap (λ (o : Option Shown). is_some o) (joined_beside q (Some jq) k2 x ∙ joined_beside p (Some jp) k1 x)
        ∙ (ap (λ (ys : List Layer). is_some (shown_at ys x)) (map_changed (λ l. l.end.layer) _ (λ l. call l (forwarded ls n parts)) q.line ls (λ l. refl)) ∙ there_after (Calls q.line (forwarded ls n parts)) (layers_of ls) x)

    old : (x : SwitchChannel) → same_place x q ≡ false → HasCall ms x → HasCall ls x
    old x e h = placed_call q (forwarded ls n parts) ls f x e (joined_call p (Some jp) k1 x (joined_call q (Some jq) k2 x h))

    q_place : has_place k2 q ≡ true
    q_place = place_joined p (Some jp) k1 q ∙ (place1 q ∙ b.places q (ap (λ (o : Option Shown). is_some o) (free_shown ls q f).1.0))

    by_place : (x : SwitchChannel) → HasCall ms x → (same_place x q ≡ true) ⊎ (same_place x q ≡ false) → (same_place x p ≡ true) ⊎ (same_place x p ≡ false) → (is_some (joined_at ms x) ≡ true) ⊎ Arrives n ns x
    by_place x h (inl t) u = inl (ap (λ (y : SwitchChannel). is_some (joined_at ms y)) (place_is x q t) ∙ ap (λ (o : Option Joined). is_some o) (joined_here q (Some jq) k2 q_place))
    by_place x h (inr e) (inl t) =
        let is = place_is x p t in
        let o = old x e h in
        let place : has_place k1 p ≡ true = place1 p ∙ b.places p (ap (λ (y : SwitchChannel). is_some (shown_at (layers_of ls) y)) (sym is) ∙ ap (λ (y : Option Shown). is_some y) o.there) in
        inl (ap (λ (y : Option Joined). is_some y) (joined_apart q (Some jq) x k2 e ∙ (ap (λ (y : SwitchChannel). joined_at k2 y) is ∙ joined_here p (Some jp) k1 place)))
    by_place x h (inr e) (inr g) =
        elim (b.calls x (old x e h)) [
          | inl j ↦ inl (ap (λ (y : Option Joined). is_some y) (joined_apart q (Some jq) x k2 e ∙ (joined_apart p (Some jp) x k1 g ∙ joined_kept q.line x.line x.channel _ ls (λ l. refl))) ∙ j)
          | inr y ↦ elim y [ inl is ↦ absurd (true≢false (sym (same_as x p is) ∙ g)) | inr a ↦ inr a ]
        ]

-- without the note, which says of no call that it came in or is over
less : (n : ℕ) (note : Note) (ns : List Note) (ls : List SwitchLine) → ((x : SwitchChannel) → Arrives n (note ∷ ns) x → Arrives n ns x) → (Closing n (note ∷ ns) ls → Closing n ns ls)
    → (IncomingLast (note ∷ ns) → IncomingLast ns) → CallsBefore n (note ∷ ns) ls → CallsBefore n ns ls
less n note ns ls f g h b = record {
  calls = λ x c. elim (b.calls x c) [ inl e ↦ inl e | inr a ↦ inr (f x a) ];
  closing = g b.closing;
  last = h b.last;
  places = b.places;
}

before_heed : (routes : RouteMap) (n : ℕ) (note : Note) (ns : List Note) (ls : List SwitchLine) → CallsBefore n (note ∷ ns) ls → CallsBefore n ns (heed routes n note ls)
before_heed routes n (Incoming c parts) ns ls b = before_answered n c (answer routes ls n parts) parts ns ls (answer_if (has_any parts.facilities) ls _ _ (answer_by_is ls (route_from n ls (line_for routes parts.called)))) b
before_heed routes n (Closed c cause diagnostic reason) ns ls b = before_over n c cause diagnostic reason (joined_at ls (at n c)) ns ls b
before_heed routes n (Connected c) ns ls b = before_told n c (Connected c) (joined_at ls (at n c)) ns ls tt (less n (Connected c) ns ls (λ x a. a) (λ k. k) (λ k. k) b)
before_heed routes n (WasReset c cause diagnostic reason) ns ls b =
    before_told n c (WasReset c cause diagnostic reason) (joined_at ls (at n c)) ns ls tt (less n (WasReset c cause diagnostic reason) ns ls (λ x a. a) (λ k. k) (λ k. k) b)
before_heed routes n (InterruptConfirmed c) ns ls b = before_told n c (InterruptConfirmed c) (joined_at ls (at n c)) ns ls tt (less n (InterruptConfirmed c) ns ls (λ x a. a) (λ k. k) (λ k. k) b)
before_heed routes n (Covered c k) ns ls b = before_told n c (Covered c k) (joined_at ls (at n c)) ns ls tt (less n (Covered c k) ns ls (λ x a. a) (λ y. y) (λ y. y) b)

pub heed_calls : (routes : RouteMap) (n : ℕ) (ns : List Note) (ls : List SwitchLine) → CallsBefore n ns ls → CallsAreJoined (heed_all routes n ns ls)
heed_calls routes n [] ls b = λ x h. elim (b.calls x h) [ inl e ↦ e | inr a ↦ absurd a ]
heed_calls routes n (x ∷ xs) ls b = heed_calls routes n xs (heed routes n x ls) (before_heed routes n x xs ls b)
