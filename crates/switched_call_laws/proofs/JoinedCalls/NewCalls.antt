-- The calls that an event of a switch joins are those that come in with it and go on.
use Rattle.std.specs.Prelude.{◌≡◌, ℕ, zero, suc, ◌*◌, ◌⊎◌, Bool, true, false, cond, if◌then◌else◌, List, [], ◌∷◌, ◌++◌, length, map, slice_get, Option, Some, None, is_some}
use Rattle.std.proofs.Common.{inl, inr, refl, sym, ap, ap₂, subst, ◌∙◌, append-nil}
use Rattle.link_timers.specs.declared.timers.TimerId.{TimerId}
use Rattle.link_timers.specs.declared.timers.TimerId.TheVariants.{T1}
use Rattle.link_timers.specs.declared.role.Role.{Role}
use Rattle.lapb.specs.declared.note.Note as link_note
use Rattle.lapb.specs.declared.note.Note.TheVariants.{Nothing, Up, Down}
use Rattle.lapb.specs.Machine as link
use Rattle.data_transfer.specs.Packets.{CallParts, Note, Reason}
use Rattle.data_transfer.specs.Packets.Note.{Incoming, Connected, Closed, WasReset, InterruptConfirmed, Covered}
use Rattle.data_transfer.specs.Packets.Reason.{LinkLost, LocalFault}
use Rattle.packet_channel.specs.Channel.{ChannelState, Channel, had_call, clear_error}
use Rattle.packet_channel.specs.Channel.Request.{Clearing}
use Rattle.packet_layer.specs.Layer.{Layer, Timer, channel_of, closing_notes, on_found, runs, unread}
use Rattle.packet_layer.specs.Layer as machine
use Rattle.packet_layer.specs.Layer.Timer.{RestartTimer, CallTimer, ResetTimer, ClearTimer}
use Rattle.packet_layer.specs.Events.{on_named, timer_named}
use Rattle.packet_codec.specs.Diagnostic.{no_information}
use Rattle.packet_laws.specs.Readable.{Every}
use Rattle.packet_end.specs.PacketEnd.{PacketEnd, heeded, expired, runs_at}
use Rattle.line_end.specs.End.{End}
use Rattle.address_routes.specs.Routes.{RouteMap, line_for}
use Rattle.joined_line.specs.Causes.{clear_cause, far_diagnostic}
use Rattle.switch_joins.specs.declared.channels.SwitchChannel.{SwitchChannel}
use Rattle.switch_joins.specs.Joins.{Joined}
use Rattle.switch_lines.specs.Lines.{SwitchLine, is_trunk, changed, joined_at, with_joined}
use Rattle.switch_lines.specs.Relay.{told, told_of}
use Rattle.switch_lines.specs.Switch.{Answer, answer, route_from, forwarded, heed, has_any, notes_of, with_end, quieted, to_relink, relinked_at, all_relinked, lines_first, rounds}
use Rattle.switch_lines.specs.Switch.Answer.{Clears, Joins}
use Rattle.switch_lines.specs.NewJoins.{join_of, joins_of_notes, joins_acted}
use Rattle.switch_laws.specs.World.{World, Shown, layers_of, shown_at, shown_on, shown_as, shown_of}
use Rattle.switch_laws.specs.Joined.{IsSwitch}
use Rattle.switch_laws.specs.Pairs.{IsNoted}
use Rattle.switch_laws.specs.Steps.{Happening, Step, does, lines_after, lines_after_all}
use Rattle.switch_laws.specs.Steps.Happening.{RunsOut, Relinks}
use Rattle.switch_laws.specs.Steps.Step.{Asks, Keeps, Happens, Settles}
use Rattle.switch_laws.specs.EventSteps.{told_steps, answered_steps, heed_steps, heed_all_steps, acted_steps, relinked_steps, all_relinked_steps, rounds_steps, finished_steps}
use Rattle.switch_laws.proofs.JoinsAfterNotes.{at}
use Rattle.switch_laws.proofs.Layers.{seen}
use Rattle.switch_laws.proofs.Leading.{heed_leads, relinked_leads, all_relinked_leads, rounds_leads}
use Rattle.switch_laws.proofs.Outcomes.{AreOf, Outcome}
use Rattle.switch_laws.proofs.Outcomes.Outcome.{ends, connects, waits, goes_on}
use Rattle.switch_laws.proofs.Effects.{Effect}
use Rattle.switch_laws.proofs.Effects.Effect.{nothing, closes_all, on_one}
use Rattle.switch_laws.proofs.Finishing.{all_relinks}
use Rattle.switch_laws.proofs.Places.{joined_here, joined_place}
use Rattle.switch_laws.proofs.SettingUp.{IsAnswer, answer_by_is, answer_if, pair_call}
use Rattle.switch_laws.proofs.Turning.{EndEffect, got_changed, changed_none}
use Rattle.switched_call_laws.specs.SwitchRecords.Opened.{HasSlot}
use Rattle.switched_call_laws.specs.SwitchRecords.Written.{Books, HaveRecords}
use Rattle.switched_call_laws.specs.JoinedCalls.Calls.{JoinedCall, present_at, books_by, books_by_all, calls_of_all}
use Rattle.switched_call_laws.specs.JoinedCalls.JoinLaws.{join_of_call}
use Rattle.switched_call_laws.proofs.JoinedCalls.Steady.{Paired, Mutual, switch_mutual, mutual_both, every_map, IsPlain, plains_steady, rounds_steady, steady_then, steadies_none}
use Rattle.switched_call_laws.proofs.JoinedCalls.Walking.{Beside, beside_step, leads_then, leads_itself}
use Rattle.switched_call_laws.proofs.JoinedCalls.Following.{WrittenIn, last_written}
use Rattle.switched_call_laws.proofs.JoinedCalls.Closing.{clear_touches, touched_slot}
use Rattle.switched_call_laws.proofs.JoinedCalls.EndedCalls.{IsClosing}
use Rattle.switched_call_laws.proofs.JoinedCalls.Answering.{joins_lead}
use Rattle.switched_call_laws.proofs.JoinedCalls.CallsAfterActs.{closing_only, goes_plain, got_layer, here_book, joined_ms, beside_ms, mutual_ms}
use Rattle.switch_lines.proofs.Places.{joined_asked, joined_apart}

-- ---- steps, one list after the other

pub calls_then : (as_ more : List Step) (ls ms : List SwitchLine) (bs : Books) → lines_after_all as_ ls ≡ ms → calls_of_all (as_ ++ more) ls bs ≡ calls_of_all as_ ls bs ++ calls_of_all more ms (books_by_all as_ ls bs)
calls_then as_ more ls ms bs e =
    (leads_then as_ more ls ms (lines_after_all more ms) bs (books_by_all as_ ls bs) (books_by_all more ms (books_by_all as_ ls bs)) (calls_of_all as_ ls bs) (calls_of_all more ms (books_by_all as_ ls bs))
    (record { lines = e; books = refl; calls = refl }) (leads_itself more ms (books_by_all as_ ls bs))).calls

-- the notes join what they say
abbrev pub JoinsAsSaid : RouteMap → ℕ → List Note → List SwitchLine → Books → Type 0
JoinsAsSaid routes n ns ls bs = map join_of_call (calls_of_all (heed_all_steps routes n ns ls) ls bs) ≡ joins_of_notes routes n ns ls

-- ---- notes of no call that comes in

abbrev IsOther : Note → Type 0
IsOther (Incoming c parts) = ⊥
IsOther note = Unit {0}

plain_other : (x : Note) → IsPlain x → IsOther x
plain_other (Incoming c parts) i = i
plain_other (Connected c) i = absurd i
plain_other (Closed c cause diagnostic reason) i = tt
plain_other (WasReset c cause diagnostic reason) i = tt
plain_other (InterruptConfirmed c) i = tt
plain_other (Covered c k) i = tt

closing_other : (x : Note) → IsClosing x → IsOther x
closing_other (Incoming c parts) i = i
closing_other (Connected c) i = tt
closing_other (Closed c cause diagnostic reason) i = tt
closing_other (WasReset c cause diagnostic reason) i = tt
closing_other (InterruptConfirmed c) i = tt
closing_other (Covered c k) i = tt

others_join_none : (routes : RouteMap) (n : ℕ) (ns : List Note) (ls : List SwitchLine) → Every IsOther ns → joins_of_notes routes n ns ls ≡ []
others_join_none routes n [] ls i = refl
others_join_none routes n (Incoming c parts ∷ ns) ls i = absurd i.0
others_join_none routes n (Connected c ∷ ns) ls i = others_join_none routes n ns (heed routes n (Connected c) ls) i.1
others_join_none routes n (Closed c cause diagnostic reason ∷ ns) ls i = others_join_none routes n ns (heed routes n (Closed c cause diagnostic reason) ls) i.1
others_join_none routes n (WasReset c cause diagnostic reason ∷ ns) ls i = others_join_none routes n ns (heed routes n (WasReset c cause diagnostic reason) ls) i.1
others_join_none routes n (InterruptConfirmed c ∷ ns) ls i = others_join_none routes n ns (heed routes n (InterruptConfirmed c) ls) i.1
others_join_none routes n (Covered c k ∷ ns) ls i = others_join_none routes n ns (heed routes n (Covered c k) ls) i.1

quietly : (routes : RouteMap) (n : ℕ) (ns : List Note) (ls : List SwitchLine) (bs : Books) → calls_of_all (heed_all_steps routes n ns ls) ls bs ≡ [] → Every IsOther ns → JoinsAsSaid routes n ns ls bs
quietly routes n ns ls bs none i = ap (λ (cs : List JoinedCall). map join_of_call cs) none ∙ sym (others_join_none routes n ns ls i)

plainly : (routes : RouteMap) (n : ℕ) (ns : List Note) (ls : List SwitchLine) (bs : Books) → Every IsPlain ns → JoinsAsSaid routes n ns ls bs
plainly routes n ns ls bs i = quietly routes n ns ls bs (steadies_none (heed_all_steps routes n ns ls) ls bs (plains_steady routes n ns ls i)) (every_map IsPlain IsOther ns plain_other i)

-- a call that is connected
connected_none : (o : Option Joined) (c : ℕ) (p : SwitchChannel) (ls : List SwitchLine) (bs : Books) → calls_of_all (told_steps o (Connected c) p ls ++ []) ls bs ≡ []
connected_none None c p ls bs = refl
connected_none (Some j) c p ls bs = refl

connected_as_said : (routes : RouteMap) (n c : ℕ) (ns : List Note) (ls : List SwitchLine) (bs : Books) → ns ≡ Connected c ∷ [] → JoinsAsSaid routes n ns ls bs
connected_as_said routes n c ns ls bs is =
    subst (λ (xs : List Note). JoinsAsSaid routes n xs ls bs) (sym is)
    (quietly routes n (Connected c ∷ []) ls bs (connected_none (joined_at ls (at n c)) c (at n c) ls bs) (tt, tt))

-- a call that is over
closed_none : (o : Option Joined) (c cause diagnostic : ℕ) (reason : Reason) (p : SwitchChannel) (ls : List SwitchLine) (bs : Books) → calls_of_all (told_steps o (Closed c cause diagnostic reason) p ls) ls bs ≡ []
closed_none None c cause diagnostic reason p ls bs = refl
closed_none (Some j) c cause diagnostic reason p ls bs = refl

first_closed : (routes : RouteMap) (n c cause diagnostic : ℕ) (reason : Reason) (ns : List Note) (ls : List SwitchLine) (bs : Books)
    → calls_of_all (heed_all_steps routes n (Closed c cause diagnostic reason ∷ ns) ls) ls bs
    ≡ calls_of_all (heed_all_steps routes n ns (heed routes n (Closed c cause diagnostic reason) ls)) (heed routes n (Closed c cause diagnostic reason) ls) (books_by_all (heed_steps routes n (Closed c cause diagnostic reason) ls) ls bs)
first_closed routes n c cause diagnostic reason ns ls bs =
    let first = Closed c cause diagnostic reason in
    let ms = heed routes n first ls in
    calls_then (heed_steps routes n first ls) (heed_all_steps routes n ns ms) ls ms bs (heed_leads routes n first ls)
    ∙ ap (λ (cs : List JoinedCall). cs ++ calls_of_all (heed_all_steps routes n ns ms) ms (books_by_all (heed_steps routes n first ls) ls bs)) (closed_none (joined_at ls (at n c)) c cause diagnostic reason (at n c) ls bs)

closings_none : (routes : RouteMap) (n : ℕ) (ns : List Note) (ls : List SwitchLine) (bs : Books) → Every IsClosing ns → calls_of_all (heed_all_steps routes n ns ls) ls bs ≡ []
closings_none routes n [] ls bs i = refl
closings_none routes n (Closed c cause diagnostic reason ∷ ns) ls bs i = first_closed routes n c cause diagnostic reason ns ls bs ∙ closings_none routes n ns (heed routes n (Closed c cause diagnostic reason) ls) _ i.1
closings_none routes n (Incoming c parts ∷ ns) ls bs i = absurd i.0
closings_none routes n (Connected c ∷ ns) ls bs i = absurd i.0
closings_none routes n (WasReset c cause diagnostic reason ∷ ns) ls bs i = absurd i.0
closings_none routes n (InterruptConfirmed c ∷ ns) ls bs i = absurd i.0
closings_none routes n (Covered c k ∷ ns) ls bs i = absurd i.0

-- ---- notes of a channel that is not joined

-- it is not, and where a call comes in it has a present record
record Unjoined (n c : ℕ) (ns : List Note) (ls : List SwitchLine) (bs : Books) : Type 0 where
  beside : Beside ls bs
  none : joined_at ls (at n c) ≡ None
  came : (parts : CallParts) → IsNoted ns c parts → (number : ℕ) × (present_at (at n c) bs ≡ Some number)

later : (n c : ℕ) (x : Note) (ns : List Note) (ls : List SwitchLine) (bs : Books) → Unjoined n c (x ∷ ns) ls bs → Unjoined n c ns ls bs
later n c x ns ls bs i = record { beside = i.beside; none = i.none; came = λ parts h. i.came parts (inr h) }

answered_as_said : (v : Answer) (p : SwitchChannel) (parts : CallParts) (ls : List SwitchLine) (bs : Books) (number : ℕ) → IsAnswer ls v → Beside ls bs → joined_at ls p ≡ None → present_at p bs ≡ Some number
    → map join_of_call (calls_of_all (answered_steps v p parts ls) ls bs) ≡ join_of v p
answered_as_said (Clears cause) p parts ls bs number f b none e = refl
answered_as_said (Joins q) p parts ls bs number f b none e = ap (λ (cs : List JoinedCall). map join_of_call cs) (joins_lead p q (forwarded ls p.line parts) ls bs b none number e f).calls

untold : (routes : RouteMap) (note : Note) (n c d : ℕ) (ns : List Note) (ls : List SwitchLine) (bs : Books) → d ≡ c → joined_at ls (at n c) ≡ None → JoinsAsSaid routes n ns ls bs
    → map join_of_call (calls_of_all (told_steps (joined_at ls (at n d)) note (at n d) ls ++ heed_all_steps routes n ns (told note (at n d) ls)) ls bs) ≡ joins_of_notes routes n ns (told note (at n d) ls)
untold routes note n c d ns ls bs e none h =
    subst (λ (o : Option Joined). map join_of_call (calls_of_all (told_steps o note (at n d) ls ++ heed_all_steps routes n ns (told_of o note (at n d) ls)) ls bs) ≡ joins_of_notes routes n ns (told_of o note (at n d) ls))
    (sym (ap (λ (k : ℕ). joined_at ls (at n k)) e ∙ none)) h

alone_as_said : (routes : RouteMap) (n c : ℕ) (role : Role) (s : ChannelState) (ns : List Note) (ls : List SwitchLine) (bs : Books) → AreOf c role s ns → Unjoined n c ns ls bs → JoinsAsSaid routes n ns ls bs
alone_as_said routes n c role s [] ls bs of i = refl
alone_as_said routes n c role s (Incoming d parts ∷ ns) ls bs of i =
    let v = answer routes ls n parts in
    let came = i.came parts (inl (ap (λ (k : ℕ). Incoming k parts) of.0)) in
    subst (λ (more : List Note). map join_of_call (calls_of_all (heed_steps routes n (Incoming d parts) ls ++ heed_all_steps routes n more (heed routes n (Incoming d parts) ls)) ls bs) ≡ join_of v (at n d) ++ joins_of_notes routes n more (heed routes n (Incoming d parts) ls)) (sym of.1.1)
    (ap (λ (ss : List Step). map join_of_call (calls_of_all ss ls bs)) (append-nil (heed_steps routes n (Incoming d parts) ls))
    ∙ (answered_as_said v (at n d) parts ls bs came.0 (answer_if (has_any parts.facilities) ls _ _ (answer_by_is ls (route_from n ls (line_for routes parts.called)))) i.beside
    (ap (λ (k : ℕ). joined_at ls (at n k)) of.0 ∙ i.none) (ap (λ (k : ℕ). present_at (at n k) bs) of.0 ∙ came.1)
    ∙ sym (append-nil (join_of v (at n d)))))
alone_as_said routes n c role s (Connected d ∷ ns) ls bs of i = untold routes (Connected d) n c d ns ls bs of.0 i.none (alone_as_said routes n c role s ns ls bs of.1 (later n c (Connected d) ns ls bs i))
alone_as_said routes n c role s (Closed d cause diagnostic reason ∷ ns) ls bs of i =
    untold routes (Closed d cause diagnostic reason) n c d ns ls bs of.0 i.none (alone_as_said routes n c role s ns ls bs of.1 (later n c (Closed d cause diagnostic reason) ns ls bs i))
alone_as_said routes n c role s (WasReset d cause diagnostic reason ∷ ns) ls bs of i =
    untold routes (WasReset d cause diagnostic reason) n c d ns ls bs of.0 i.none (alone_as_said routes n c role s ns ls bs of.1 (later n c (WasReset d cause diagnostic reason) ns ls bs i))
alone_as_said routes n c role s (InterruptConfirmed d ∷ ns) ls bs of i =
    untold routes (InterruptConfirmed d) n c d ns ls bs of.0 i.none (alone_as_said routes n c role s ns ls bs of.1 (later n c (InterruptConfirmed d) ns ls bs i))
alone_as_said routes n c role s (Covered d k ∷ ns) ls bs of i = untold routes (Covered d k) n c d ns ls bs of.0 i.none (alone_as_said routes n c role s ns ls bs of.1 (later n c (Covered d k) ns ls bs i))

-- a channel is not joined once its call is over
closed_leaves : (o : Option Joined) (n c cause diagnostic : ℕ) (reason : Reason) (ns : List Note) (ls : List SwitchLine) (bs : Books) → joined_at ls (at n c) ≡ o → Mutual ls → Beside ls bs
    → ((parts : CallParts) → IsNoted ns c parts → (number : ℕ) × (present_at (at n c) bs ≡ Some number))
    → Unjoined n c ns (told_of o (Closed c cause diagnostic reason) (at n c) ls) (books_by_all (told_steps o (Closed c cause diagnostic reason) (at n c) ls) ls bs)
closed_leaves None n c cause diagnostic reason ns ls bs e m b came = record { beside = b; none = e; came = came }
closed_leaves (Some j) n c cause diagnostic reason ns ls bs e m b came =
    let p = at n c in
    let q = j.other in
    let pair : Paired ls p j = m p j e in
    let l1 = with_joined p None ls in
    let l2 = with_joined q None l1 in
    let k = clear_cause (is_trunk (slice_get ls n)) reason cause in
    let d = far_diagnostic reason diagnostic in
    record {
      beside = beside_step (Asks q (Clearing k d)) l2 bs (tt, tt) (beside_step (Keeps q None) l1 bs tt (beside_step (Keeps p None) ls bs tt b));
      none = joined_asked q (Clearing k d) p l2 ∙ (joined_apart q None p l1 pair.apart ∙ joined_here p None ls (joined_place ls p j e));
      came = λ parts noted. let x = came parts noted in (x.0, touched_slot q p bs (books_by (Asks q (Clearing k d)) l2 bs) pair.apart (clear_touches k d q l2 bs) ∙ x.1);
    }

-- ---- what happens at the end of a line

module _ (routes : RouteMap) (n : ℕ) (what : Happening) (ls : List SwitchLine) (w : World) (bs : Books) (i : IsSwitch ls w) (h : HaveRecords (layers_of ls) w bs)
    (line : SwitchLine) (got : slice_get ls n ≡ Some line) (eff : EndEffect n what line.end) where
  abbrev l : Layer
  l = line.end.layer

  abbrev notes : List Note
  notes = (does what (quieted line.end)).notes

  abbrev ms : List SwitchLine
  ms = lines_after (Happens n what) ls

  abbrev bs1 : Books
  bs1 = books_by (Happens n what) ls bs

  beside : Beside ms bs1
  beside = beside_ms routes n what ls w bs i h line got eff

  joined : (y : SwitchChannel) → joined_at ms y ≡ joined_at ls y
  joined y = joined_ms routes n what ls w bs i h line got eff y

  one_as_said : (d : ℕ) (role : Role) (s : ChannelState) (ch : Channel) → channel_of l d ≡ Some ch → AreOf d role s notes
      → ((had_call (w (at n d)).channel.state ≡ true) → JoinsAsSaid routes n notes ms bs1 ⊎ ((cause diagnostic : ℕ) × (reason : Reason) × (rest : List Note) × (notes ≡ Closed d cause diagnostic reason ∷ rest)))
      → JoinsAsSaid routes n notes ms bs1
  one_as_said d role s ch found of outcome = by_joined (joined_at ls (at n d)) refl
    where
      came : (parts : CallParts) → IsNoted notes d parts → (number : ℕ) × (present_at (at n d) bs1 ≡ Some number)
      came parts noted =
          let has : HasSlot d (bs n) = (h n l (got_layer routes n what ls w bs i h line got eff)).slots d (ap (λ (o : Option Channel). is_some o) found) in
          let k : WrittenIn d parts (bs1 n) = subst (λ b. WrittenIn d parts b) (sym (here_book routes n what ls w bs i h line got eff)) (last_written d role s parts notes (bs n) of noted has) in
          (k.number, k.present)

      by_joined : (o : Option Joined) → joined_at ls (at n d) ≡ o → JoinsAsSaid routes n notes ms bs1
      by_joined None f = alone_as_said routes n d role s notes ms bs1 of (record { beside = beside; none = joined (at n d) ∙ f; came = came })
      by_joined (Some j) f =
          elim (outcome call) [
            | inl said ↦ said
            | inr is ↦
                let first = Closed d is.0 is.1 is.2 in
                let of_rest = (subst (λ (ns : List Note). AreOf d role s ns) is.4 of).1 in
                subst (λ (ns : List Note). JoinsAsSaid routes n ns ms bs1) (sym is.4)
                (ap (λ (cs : List JoinedCall). map join_of_call cs) (first_closed routes n d is.0 is.1 is.2 is.3 ms bs1)
                ∙ alone_as_said routes n d role s is.3 (heed routes n first ms) (books_by_all (heed_steps routes n first ms) ms bs1) of_rest
                (closed_leaves (joined_at ms (at n d)) n d is.0 is.1 is.2 is.3 ms bs1 refl (mutual_ms routes n what ls w bs i h line got eff) beside
                (λ parts noted. came parts (subst (λ (ns : List Note). IsNoted ns d parts) (sym is.4) (inr noted)))))
          ]
        where
          call : had_call (w (at n d)).channel.state ≡ true
          call = let k = i.joined (at n d) j f in elim k.pair [ inl y ↦ pair_call (w (at n d)) (w j.other) j k.other y | inr y ↦ elim y [ inl z ↦ absurd z | inr z ↦ absurd z ] ]

  by_effect : Effect eff.moves (unread l) notes → JoinsAsSaid routes n notes ms bs1
  by_effect (nothing none legs) = plainly routes n notes ms bs1 (subst (λ (ns : List Note). Every IsPlain ns) (sym none) tt)
  by_effect (closes_all reason is legs) =
      let closing : Every IsClosing notes = subst (λ (ns : List Note). Every IsClosing ns) (sym is) (closing_only 1 reason l.channels) in
      quietly routes n notes ms bs1 (closings_none routes n notes ms bs1 closing) (every_map IsClosing IsOther notes closing_other closing)
  by_effect (on_one d st e is apart leg empty some) = by_channel (channel_of l d) refl
    where
      by_channel : (o : Option Channel) → channel_of l d ≡ o → JoinsAsSaid routes n notes ms bs1
      by_channel None f = plainly routes n notes ms bs1 (subst (λ (ns : List Note). Every IsPlain ns) (sym (empty f)) tt)
      by_channel (Some ch) f =
          one_as_said d _ _ ch f (subst (λ (ns : List Note). AreOf d (seen l ch).role (st (seen l ch)).channel.state ns) (sym (some ch f)) (is.notes_of_it (seen l ch)))
          (λ call. by_outcome (is.outcome (seen l ch) (ap (λ (y : Shown). had_call y.channel.state) agree ∙ call)))
        where
          shown_d : shown_at (layers_of ls) (at n d) ≡ Some (seen l ch)
          shown_d = ap (λ (o : Option Layer). shown_on o d) (got_layer routes n what ls w bs i h line got eff) ∙ ap (λ (o : Option Channel). shown_as l o) f

          agree : seen l ch ≡ shown_of (w (at n d))
          agree = (i.world (at n d) (seen l ch) shown_d).shown

          by_outcome : Outcome d (seen l ch).role ch (st (seen l ch)) → JoinsAsSaid routes n notes ms bs1 ⊎ ((cause diagnostic : ℕ) × (reason : Reason) × (rest : List Note) × (notes ≡ Closed d cause diagnostic reason ∷ rest))
          by_outcome (ends cause diagnostic reason rest g) = inr (cause, diagnostic, reason, rest, some ch f ∙ g)
          by_outcome (connects g k) = inl (connected_as_said routes n d notes ms bs1 (some ch f ∙ ap (λ y. y.notes) k))
          by_outcome (waits g k z) = inl (plainly routes n notes ms bs1 (subst (λ (ns : List Note). Every IsPlain ns) (sym (some ch f ∙ ap (λ y. y.notes) k)) tt))
          by_outcome (goes_on g k z) = inl (plainly routes n notes ms bs1 (subst (λ (ns : List Note). Every IsPlain ns) (sym (some ch f)) (goes_plain d _ z)))

  heeded_as_said : JoinsAsSaid routes n notes ms bs1
  heeded_as_said = by_effect eff.effect

pub acted_as_said : (routes : RouteMap) (n : ℕ) (what : Happening) (ls : List SwitchLine) (w : World) (bs : Books) → IsSwitch ls w → HaveRecords (layers_of ls) w bs → ((line : SwitchLine) → slice_get ls n ≡ Some line → EndEffect n what line.end)
    → map join_of_call (calls_of_all (acted_steps routes n what ls) ls bs) ≡ joins_acted routes n (does what) ls
acted_as_said routes n what ls w bs i h eff = by_line (slice_get ls n) refl
  where
    g : SwitchLine → SwitchLine
    g = with_end (λ e. does what (quieted e))

    by_line : (o : Option SwitchLine) → slice_get ls n ≡ o → JoinsAsSaid routes n (notes_of (slice_get (changed n g ls) n)) (lines_after (Happens n what) ls) (books_by (Happens n what) ls bs)
    by_line None e = subst (λ (o : Option SwitchLine). JoinsAsSaid routes n (notes_of o) (lines_after (Happens n what) ls) (books_by (Happens n what) ls bs)) (sym (ap (λ (ks : List SwitchLine). slice_get ks n) (changed_none n g ls e) ∙ e)) refl
    by_line (Some line) e =
        subst (λ (o : Option SwitchLine). JoinsAsSaid routes n (notes_of o) (lines_after (Happens n what) ls) (books_by (Happens n what) ls bs)) (sym (got_changed n g ls line e))
        (heeded_as_said routes n what ls w bs i h line e (eff line e))

-- ---- the end of an event joins none

relinked_closing : (n : ℕ) (ls : List SwitchLine) → Every IsClosing (notes_of (slice_get (changed n (with_end (λ e. does Relinks (quieted e))) ls) n))
relinked_closing n [] = tt
relinked_closing zero (x ∷ ls) = closing_only 1 LinkLost x.end.layer.channels
relinked_closing (suc n) (x ∷ ls) = relinked_closing n ls

relinked_none : (o : Option ℕ) (routes : RouteMap) (ls : List SwitchLine) (bs : Books) → calls_of_all (relinked_steps o routes ls) ls bs ≡ []
relinked_none None routes ls bs = refl
relinked_none (Some n) routes ls bs = closings_none routes n _ (lines_after (Happens n Relinks) ls) (books_by (Happens n Relinks) ls bs) (relinked_closing n ls)

relinks_none : (most : ℕ) (routes : RouteMap) (ls : List SwitchLine) (bs : Books) → calls_of_all (all_relinked_steps most routes ls) ls bs ≡ []
relinks_none zero routes ls bs = refl
relinks_none (suc most) routes ls bs =
    let ms = relinked_at (to_relink ls) routes ls in
    calls_then (relinked_steps (to_relink ls) routes ls) (all_relinked_steps most routes ms) ls ms bs (relinked_leads (to_relink ls) routes ls)
    ∙ ap₂ (λ (cs ds : List JoinedCall). cs ++ ds) (relinked_none (to_relink ls) routes ls bs) (relinks_none most routes ms (books_by_all (relinked_steps (to_relink ls) routes ls) ls bs))

pub finished_none : (routes : RouteMap) (n : ℕ) (ls : List SwitchLine) (w : World) (bs : Books) → IsSwitch ls w → calls_of_all (finished_steps routes n ls) ls bs ≡ []
finished_none routes n ls w bs i =
    let ks = all_relinked (length ls) routes ls in
    let first = lines_first n routes ls in
    let last = rounds_steps (7 * length ks) first ks in
    let b = all_relinks (length ls) routes ls w i in
    let pairs = switch_mutual ks b.world b.right in
    let after = books_by_all (all_relinked_steps (length ls) routes ls) ls bs in
    let leads = rounds_leads (7 * length ks) first ks in
    calls_then (all_relinked_steps (length ls) routes ls) (last ++ Settles ∷ []) ls ks bs (all_relinked_leads (length ls) routes ls)
    ∙ ap₂ (λ (cs ds : List JoinedCall). cs ++ ds) (relinks_none (length ls) routes ls bs)
    (steadies_none (last ++ Settles ∷ []) ks after (steady_then last (Settles ∷ []) ks (rounds (7 * length ks) first ks) leads (rounds_steady (7 * length ks) first ks (mutual_both ks pairs)) (tt, tt)))

-- ---- nor does an expiry

abbrev OthersAt : Layer → Type 0
OthersAt l = Every IsOther l.notes

closings_other : (c : ℕ) (reason : Reason) (chs : List Channel) → Every IsOther (closing_notes c reason chs)
closings_other c reason chs = every_map IsClosing IsOther (closing_notes c reason chs) closing_other (closing_only c reason chs)

cleared_other : (l : Layer) (c : ℕ) (o : Option Channel) → OthersAt (on_found (unread l) c (λ ch. clear_error l.role c no_information true ch) o)
cleared_other l c None = tt
cleared_other l c (Some ch) = (tt, tt)

expired_other : (l : Layer) (t : Timer) → OthersAt (machine.expired (unread l) t)
expired_other l RestartTimer = tt
expired_other l (CallTimer c) = cleared_other l c (channel_of l c)
expired_other l (ResetTimer c) = cleared_other l c (channel_of l c)
expired_other l (ClearTimer c) = closings_other 1 LocalFault l.channels

timer_other : (l : Layer) (t : Timer) (v : Bool) → OthersAt (if v then machine.expired (unread (unread l)) t else unread l)
timer_other l t true = expired_other (unread l) t
timer_other l t false = tt

named_other : (l : Layer) (o : Option Timer) → OthersAt (on_named (unread l) o)
named_other l None = tt
named_other l (Some t) = timer_other l t (runs (unread l) t)

link_other : (note : link_note.Note) (e : PacketEnd) (to : End) → Every IsOther (heeded note (record (quieted e) { line = to })).notes
link_other Nothing e to = tt
link_other Up e to = closings_other 1 LinkLost e.layer.channels
link_other Down e to = closings_other 1 LinkLost e.layer.channels

ran_other : (id : TimerId) (e : PacketEnd) → Every IsOther (expired id (quieted e)).notes
ran_other T1 e = link_other (link.on_t1 e.line.link).note e _
ran_other id e = named_other e.layer (timer_named e.layer.role id)

cond_other : (v : Bool) (e f : PacketEnd) → Every IsOther e.notes → Every IsOther f.notes → Every IsOther (cond v e f).notes
cond_other true e f i j = i
cond_other false e f i j = j

timers_other : (n : ℕ) (id : TimerId) (ls : List SwitchLine) → Every IsOther (notes_of (slice_get (changed n (with_end (λ e. does (RunsOut id) (quieted e))) ls) n))
timers_other n id [] = tt
timers_other zero id (x ∷ ls) = cond_other (runs_at (quieted x.end) id) (expired id (quieted x.end)) (quieted x.end) (ran_other id x.end) tt
timers_other (suc n) id (x ∷ ls) = timers_other n id ls

pub timer_joins_none : (routes : RouteMap) (n : ℕ) (id : TimerId) (ls : List SwitchLine) → joins_acted routes n (does (RunsOut id)) ls ≡ []
timer_joins_none routes n id ls = others_join_none routes n _ (lines_after (Happens n (RunsOut id)) ls) (timers_other n id ls)

relinked_other : (n : ℕ) (ls : List SwitchLine) → Every IsOther (notes_of (slice_get (changed n (with_end (λ e. does Relinks (quieted e))) ls) n))
relinked_other n [] = tt
relinked_other zero (x ∷ ls) = closings_other 1 LinkLost x.end.layer.channels
relinked_other (suc n) (x ∷ ls) = relinked_other n ls

pub relink_joins_none : (routes : RouteMap) (n : ℕ) (ls : List SwitchLine) → joins_acted routes n (does Relinks) ls ≡ []
relink_joins_none routes n ls = others_join_none routes n _ (lines_after (Happens n Relinks) ls) (relinked_other n ls)

-- ---- calls that are no places

pub no_calls : (cs : List JoinedCall) → map join_of_call cs ≡ [] → cs ≡ []
no_calls [] e = refl
no_calls (c ∷ cs) e = absurd cc
