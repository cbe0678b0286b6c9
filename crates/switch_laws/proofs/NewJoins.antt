-- A frame joins at most one call, since at most one comes in with it.
use Rattle.std.proofs.Common.{◌≡◌, ℕ, suc, Bool, true, false, if◌then◌else◌, List, [], ◌∷◌, ◌++◌, Option, Some, None, refl, sym, ap, subst, ◌∙◌}
use Rattle.std.specs.Prelude.{slice_get}
use Rattle.std.specs.Option.{option_to_list}
use Rattle.link_timers.specs.declared.role.Role.{Role}
use Rattle.packet_codec.specs.ClearCause as clear_cause
use Rattle.packet_codec.specs.Diagnostic.{no_information}
use Rattle.data_transfer.specs.Packets.{Note, Reason}
use Rattle.data_transfer.specs.Packets.Note.{Incoming, Connected, Closed, WasReset, InterruptConfirmed, Covered}
use Rattle.packet_channel.specs.Channel.{ChannelState, Channel, had_call}
use Rattle.packet_layer.specs.Layer.{Layer, channel_of, closing_notes, unread}
use Rattle.address_routes.specs.Routes.{RouteMap}
use Rattle.lapb.specs.Machine.{Octets}
use Rattle.switch_joins.specs.declared.channels.SwitchChannel.{SwitchChannel}
use Rattle.switch_lines.specs.Lines.{SwitchLine, changed}
use Rattle.switch_lines.specs.Switch.{Switch, Answer, answer, heed, notes_of, with_end, without_notes, quieted, all_begun}
use Rattle.switch_lines.specs.Switch.Answer.{Clears, Joins}
use Rattle.switch_joins.specs.declared.channels.NewJoin.{NewJoin}
use Rattle.switch_lines.specs.NewJoins.{join_of, joins_of_notes, new_joins}
use Rattle.switch_laws.specs.Leg.{Leg}
use Rattle.switch_laws.specs.Steps.{does}
use Rattle.switch_laws.specs.Steps.Happening.{Brings}
use Rattle.switch_laws.proofs.JoinsAfterNotes.{at}
use Rattle.switch_laws.proofs.Layers.{seen}
use Rattle.switch_laws.proofs.Outcomes.{AreOf}
use Rattle.switch_laws.proofs.Effects.{Effect}
use Rattle.switch_laws.proofs.Effects.Effect.{nothing, closes_all, on_one}
use Rattle.switch_laws.proofs.Turning.{received_effect, got_changed, changed_none}

-- there is one or none
abbrev Single : List NewJoin → Type 0
Single js = option_to_list (slice_get js 0) ≡ js

single_answer : (a : Answer) (p : SwitchChannel) → Single (join_of a p ++ [])
single_answer (Clears cause) p = refl
single_answer (Joins q) p = refl

-- notes of one channel
single_of : (routes : RouteMap) (n d : ℕ) (role : Role) (s : ChannelState) (ns : List Note) (ls : List SwitchLine) → AreOf d role s ns → Single (joins_of_notes routes n ns ls)
single_of routes n d role s [] ls of = refl
single_of routes n d role s (Incoming c parts ∷ ns) ls of =
    subst (λ (more : List Note). Single (join_of (answer routes ls n parts) (at n c) ++ joins_of_notes routes n more (heed routes n (Incoming c parts) ls))) (sym of.1.1) (single_answer (answer routes ls n parts) (at n c))
single_of routes n d role s (Connected c ∷ ns) ls of = single_of routes n d role s ns (heed routes n (Connected c) ls) of.1
single_of routes n d role s (Closed c cause diagnostic reason ∷ ns) ls of = single_of routes n d role s ns (heed routes n (Closed c cause diagnostic reason) ls) of.1
single_of routes n d role s (WasReset c cause diagnostic reason ∷ ns) ls of = single_of routes n d role s ns (heed routes n (WasReset c cause diagnostic reason) ls) of.1
single_of routes n d role s (InterruptConfirmed c ∷ ns) ls of = single_of routes n d role s ns (heed routes n (InterruptConfirmed c) ls) of.1
single_of routes n d role s (Covered c k ∷ ns) ls of = single_of routes n d role s ns (heed routes n (Covered c k) ls) of.1

-- notes that calls are over
closings_join_none : (routes : RouteMap) (n c : ℕ) (reason : Reason) (chs : List Channel) (ls : List SwitchLine) → joins_of_notes routes n (closing_notes c reason chs) ls ≡ []
closings_join_none routes n c reason [] ls = refl
closings_join_none routes n c reason (ch ∷ chs) ls = by_call (had_call ch.state) (λ ks. closings_join_none routes n (suc c) reason chs ks)
  where
    first : Note
    first = Closed c clear_cause.out_of_order no_information reason

    by_call : (v : Bool) → ((ks : List SwitchLine) → joins_of_notes routes n (closing_notes (suc c) reason chs) ks ≡ []) → joins_of_notes routes n (if v then first ∷ closing_notes (suc c) reason chs else closing_notes (suc c) reason chs) ls ≡ []
    by_call true more = more (heed routes n first ls)
    by_call false more = more ls

by_effect : (routes : RouteMap) (n : ℕ) (f : ℕ → Leg → Leg) (l : Layer) (ns : List Note) (ls : List SwitchLine) → Effect f l ns → Single (joins_of_notes routes n ns ls)
by_effect routes n f l ns ls (nothing none legs) = subst (λ (xs : List Note). Single (joins_of_notes routes n xs ls)) (sym none) refl
by_effect routes n f l ns ls (closes_all reason is legs) =
    subst (λ (xs : List Note). Single (joins_of_notes routes n xs ls)) (sym is)
    (subst (λ (js : List NewJoin). Single js) (sym (closings_join_none routes n 1 reason l.channels ls)) refl)
by_effect routes n f l ns ls (on_one d st e is apart leg empty some) = by_channel (channel_of l d) refl
  where
    by_channel : (o : Option Channel) → channel_of l d ≡ o → Single (joins_of_notes routes n ns ls)
    by_channel None g = subst (λ (xs : List Note). Single (joins_of_notes routes n xs ls)) (sym (empty g)) refl
    by_channel (Some ch) g = subst (λ (xs : List Note). Single (joins_of_notes routes n xs ls)) (sym (some ch g)) (single_of routes n d _ _ _ ls (is.notes_of_it (seen l ch)))

new_single : (n : ℕ) (octets : Octets) (s : Switch) → Single (new_joins n octets s)
new_single n octets s = by_line (slice_get ls n) refl
  where
    ls : List SwitchLine
    ls = all_begun s.lines

    g : SwitchLine → SwitchLine
    g = with_end (λ e. does (Brings octets) (quieted e))

    ms : List SwitchLine
    ms = changed n (with_end without_notes) (changed n g ls)

    by_notes : (o : Option SwitchLine) → slice_get (changed n g ls) n ≡ o → Single (joins_of_notes s.routes n (notes_of o) ms) → Single (new_joins n octets s)
    by_notes o e h = subst (λ (p : Option SwitchLine). Single (joins_of_notes s.routes n (notes_of p) ms)) (sym e) h

    by_line : (o : Option SwitchLine) → slice_get ls n ≡ o → Single (new_joins n octets s)
    by_line None e = by_notes None (ap (λ (ks : List SwitchLine). slice_get ks n) (changed_none n g ls e) ∙ e) refl
    by_line (Some line) e =
        let eff = received_effect n octets line.end in
        by_notes (Some (g line)) (got_changed n g ls line e) (by_effect s.routes n eff.moves (unread line.end.layer) (g line).end.notes ms eff.effect)

-- so the first one is the only one
pub one_told : (n : ℕ) (octets : Octets) (s : Switch) → (o : Option NewJoin) → o ≡ slice_get (new_joins n octets s) 0 → option_to_list o ≡ new_joins n octets s
one_told n octets s o e = ap (λ (p : Option NewJoin). option_to_list p) e ∙ new_single n octets s
