-- The user's calls, the expiry of a timer and the link's sessions keep the book right.
use Rattle.std.specs.Prelude.{◌≡◌, ℕ, zero, suc, ◌≤◌, Bool, true, false, cond, not, ◌&&◌, ◌||◌, ◌==◌, nat_lt, List, [], ◌∷◌, ◌++◌, length, is_some, Option, Some, None}
use Rattle.std.proofs.Common.{inl, inr, refl, sym, ap, subst, ◌∙◌, arith, true≢false}
use Rattle.std.proofs.lemmas.Option.{none-some, same_Some}
use Rattle.std.proofs.lemmas.Bool.{ne_eqb}
use Rattle.link_timers.specs.declared.role.Role.{Role}
use Rattle.data_transfer.specs.Packets.{CallParts, Note}
use Rattle.data_transfer.specs.Packets.Reason.{LinkLost, LocalFault}
use Rattle.packet_channel.specs.Channel.{ChannelState, Channel, clear_error, in_transfer}
use Rattle.packet_channel.specs.Channel.ChannelState.{Ready}
use Rattle.packet_layer.specs.Layer as layer
use Rattle.packet_layer.specs.Layer.{Phase, Layer, Timer, nth_channel, channel_of, with_nth, unread, on_found, after_step, owing, expired, runs, runs_at, waits_for_call, placing, channel_given, link_up, link_down}
use Rattle.packet_layer.specs.Layer.Phase.{NoSession, OwnRestart, PacketReady}
use Rattle.packet_layer.specs.Layer.Timer.{RestartTimer, CallTimer, ResetTimer, ClearTimer}
use Rattle.packet_laws.specs.History.{Epoch, History, placed, call_history, expired_history, next_restart_of, next_use_of}
use Rattle.packet_laws.specs.LayerLineLaw.{InUse, IsUnused}
use Rattle.packet_laws.specs.LayerLine.{End, begun, may_begin, is_session}
use Rattle.call_records.specs.Book.{Book, places_from, closes, with_record, all_told}
use Rattle.record_laws.specs.Books.Told.{placed_on, placed_by, all_came_by}
use Rattle.record_laws.proofs.Books.Basics.{number_is}
use Rattle.record_laws.proofs.Books.Ending.{Further}
use Rattle.record_laws.proofs.Books.Writing.{size_trans, size_record, size_slot, SameSize}
use Rattle.record_laws.proofs.Books.EndSteps.{status_of, status_at, has_come}
use Rattle.record_laws.proofs.Books.Steps.{history_refl, place_step}
use Rattle.record_laws.proofs.Books.ChannelSteps.{KeptAt, Facts, begun_now, sized}
use Rattle.record_laws.proofs.Books.Outcomes.{NoCalls, next_use}
use Rattle.record_laws.proofs.Books.Outcomes.Outcome.{ends}
use Rattle.record_laws.proofs.Books.Layers.{put_here, put_else, put_length, in_range, closed_length, told_here, told_else, either_way, free_is}
use Rattle.record_laws.proofs.Books.Ends.{restart_step, session_step}
use Rattle.record_laws.proofs.Books.Events.{moved_end, begun_rises, same_end_is, same_rises, on_one, still, else_history, here_history}

-- ---- the user places a call

abbrev pub after_call : End → CallParts → Option ℕ → End
after_call e parts o = moved_end e (layer.placed_on e.layer parts o) (λ c st. call_history parts o c st) e.accepted

-- the channel is free in r1
given_is : (l : Layer) (ph : Phase) (d : ℕ) → l.phase ≡ ph → channel_given l ph ≡ Some d → (l.phase ≡ PacketReady) × ((ch : Channel) × (nth_channel l.channels d ≡ Some ch) × (ch.state ≡ Ready))
given_is l PacketReady d p e = (p, free_is l.role l.channels d e)
given_is l OwnRestart d p e = absurd (none-some d e)
given_is l NoSession d p e = absurd (none-some d e)

places_size : (x : Role) (d : ℕ) (calling called : List ℕ) (b : Book) → SameSize b (places_from x d calling called b)
places_size x d calling called b = size_trans b (with_record _ b) (places_from x d calling called b) (size_record _ b) (size_slot x d _ (with_record _ b))

-- nothing is answered where nothing was called
not_answered_there : (n : ℕ) (e y : End) (s d : ℕ) → Facts n e y → 1 ≤ d → d ≤ n → IsUnused (e.histories s d) → (v : Bool) → ((y.histories s d).epochs (e.histories s d).restart (e.histories s d).use_ 0).answered ≡ v → v ≡ false
not_answered_there n e y s d facts lo hi u false h = refl
not_answered_there n e y s d facts lo hi u true h =
    absurd (true≢false (sym ((facts.answers_there s d lo hi).was_called (e.histories s d).restart (e.histories s d).use_ 0 h) ∙ ap (λ (z : Epoch). is_some z.called) (u.empty 0)))

call_on : (n : ℕ) (e y : End) (te ty : ℕ) (b : Book) (cs : List (Option ℕ)) (parts : CallParts) (d : ℕ) (ch : Channel) (found_ : Option Channel) → KeptAt n e.layer.role e y te ty b cs → Facts n e y → e.layer.phase ≡ PacketReady → channel_of e.layer d ≡ found_ → found_ ≡ Some ch → ch.state ≡ Ready
    → KeptAt n e.layer.role (moved_end e (on_found e.layer d (λ z. placing parts z) found_) (λ c st. call_history parts (Some d) c st) e.accepted) y te ty (places_from e.layer.role d parts.calling parts.called b) (cs ++ None ∷ [])
call_on n e y te ty b cs parts d ch None k facts phase f is ready = absurd (none-some ch is)
call_on n e y te ty b cs parts d ch0 (Some ch) k facts phase found is0 ready0 =
    let x : Role = e.layer.role in
    let ready : ch.state ≡ Ready = ap (λ (z : Channel). z.state) (same_Some ch ch0 is0) ∙ ready0 in
    let up = k.here.up phase in
    let s : ℕ = up.0 in
    let e' : End = moved_end e (after_step e.layer d (placing parts ch)) (λ c st. call_history parts (Some d) c st) e.accepted in
    let range = in_range e.layer.channels d ch found in
    let hi : d ≤ n = (let h = range.1 in let c = k.here.count in omega arith) in
    let count : length (with_nth e.layer.channels d (owing (placing parts ch))) ≡ length e.layer.channels = put_length e.layer.channels d (owing (placing parts ch)) in
    let at = facts.here s d range.0 hi in
    let unused : IsUnused (e.histories s d) = subst (λ (z : ChannelState). InUse x z (e.histories s d)) ready (at.in_use ch up.1 found) in
    let r = place_step x e e' y s d te ty parts b k.tags (record {
      on = record {
        session = refl;
        up = up.1;
        begun = begun_rises x e e' (same_rises e) count;
        status = λ c h. ap (status_at x) (put_else e.layer.channels d c (owing (placing parts ch)) h);
        else = λ i c h. elim (number_is i s) [
          | inl a ↦ subst (λ (j : ℕ). e'.histories j c ≡ e.histories j c) (sym a) (told_here e s c (λ m st. call_history parts (Some d) m st) up.1 ∙ else_history c d (placed parts (e.histories s c)) (e.histories s c) (λ z. h (a, z)))
          | inr a ↦ told_else e s i c (λ m st. call_history parts (Some d) m st) up.1 a
        ];
      };
      idle = ap (status_at x) found ∙ ap (status_of x) ready;
      own = ap (status_at x) (put_here e.layer.channels d ch (owing (placing parts ch)) found);
      history = told_here e s d (λ m st. call_history parts (Some d) m st) up.1 ∙ here_history d (placed parts (e.histories s d)) (e.histories s d);
      unused = unused;
      begun_history = at.begun;
      begun = begun_now x e te n s d k.here.count up.2 range.0 hi;
      not_answered = not_answered_there n e y s d facts range.0 hi unused ((y.histories s d).epochs (e.histories s d).restart (e.histories s d).use_ 0).answered refl;
      no_address = k.sizes.address x;
      least = range.0;
      most = let h = k.sizes.size x in omega arith;
    }) k.right in
    record {
      tags = r.0;
      callers = r.1 ∙ ap (λ (l : List (Option ℕ)). l ++ None ∷ []) k.callers;
      right = r.2;
      sizes = sized n b (places_from x d parts.calling parts.called b) (places_size x d parts.calling parts.called b) k.sizes;
      here = same_end_is n e e' k.here refl (same_rises e) refl refl count;
      there = k.there;
    }

pub calls_given : (n : ℕ) (e y : End) (te ty : ℕ) (b : Book) (cs : List (Option ℕ)) (parts : CallParts) → KeptAt n e.layer.role e y te ty b cs → Facts n e y → (o : Option ℕ) → channel_given e.layer e.layer.phase ≡ o
    → KeptAt n e.layer.role (after_call e parts o) y te ty (placed_on e.layer.role o parts b) (placed_by o cs)
calls_given n e y te ty b cs parts k facts None given =
    still n e y te ty b cs e.layer (λ c st. st) e.accepted k (λ c. refl) (λ c st. history_refl st) (same_rises e) refl (same_end_is n e (after_call e parts None) k.here refl (same_rises e) refl refl refl)
calls_given n e y te ty b cs parts k facts (Some d) given =
    let g = given_is e.layer e.layer.phase d refl given in
    call_on n e y te ty b cs parts d g.1.0 (channel_of e.layer d) k facts g.0 refl g.1.1 g.1.2

-- ---- a timer expires

abbrev pub after_timer : End → Timer → Bool → End
after_timer e t v = moved_end e (cond v (expired (unread e.layer) t) e.layer) (λ c st. cond v (expired_history t c st) st) e.accepted

runs_found : (test : Channel → Bool) (ph : Phase) (o : Option Channel) → runs_at test ph o ≡ true → (ph ≡ PacketReady) × ((ch : Channel) × (o ≡ Some ch) × (test ch ≡ true))
runs_found test PacketReady (Some ch) e = (refl, (ch, refl, e))
runs_found test PacketReady None e = absurd (true≢false (sym e))
runs_found test OwnRestart o e = absurd (true≢false (sym e))
runs_found test NoSession o e = absurd (true≢false (sym e))

next_restart_further : (st : History) → Further st (next_restart_of st)
next_restart_further st = inl (omega arith)

-- the timer of a call or of a reset clears it
clears : (n : ℕ) (e y : End) (te ty : ℕ) (b : Book) (cs : List (Option ℕ)) (d : ℕ) → KeptAt n e.layer.role e y te ty b cs → Facts n e y → e.layer.phase ≡ PacketReady → (found_ : Option Channel) → channel_of e.layer d ≡ found_ → (ch0 : Channel) → found_ ≡ Some ch0
    → KeptAt n e.layer.role (moved_end e (on_found (unread e.layer) d (λ z. clear_error e.layer.role d 0 true z) found_) (λ c st. cond (c == d) (next_use_of st) st) e.accepted) y te ty (all_told e.layer.role (on_found (unread e.layer) d (λ z. clear_error e.layer.role d 0 true z) found_).notes b) (all_came_by e.layer.role (on_found (unread e.layer) d (λ z. clear_error e.layer.role d 0 true z) found_).notes b cs)
clears n e y te ty b cs d k facts phase None found ch0 is = absurd (none-some ch0 is)
clears n e y te ty b cs d k facts phase (Some ch) found ch0 is =
    let up = k.here.up phase in
    on_one n e y te ty b cs up.0 d ch (owing (clear_error e.layer.role d 0 true ch)) (clear_error e.layer.role d 0 true ch).channel (after_step (unread e.layer) d (clear_error e.layer.role d 0 true ch)) (λ c st. cond (c == d) (next_use_of st) st) e.accepted
    next_use_of (λ v. closes e.layer.role d v) (λ v l. l) NoCalls k facts up.1 found refl refl refl refl (λ st. here_history d (next_use_of st) st) (λ c st h. else_history c d (next_use_of st) st h) (same_rises e) (λ parts c h. absurd c)
    (ends refl next_use (λ v. refl) (λ v l. refl))

abbrev TimerNotes : End → Timer → Bool → List Note
TimerNotes e t v = cond v (cond v (expired (unread e.layer) t) e.layer).notes []

pub timer_runs : (n : ℕ) (e y : End) (te ty : ℕ) (b : Book) (cs : List (Option ℕ)) (t : Timer) → KeptAt n e.layer.role e y te ty b cs → Facts n e y → (v : Bool) → runs e.layer t ≡ v → KeptAt n e.layer.role (after_timer e t v) y te ty (all_told e.layer.role (TimerNotes e t v) b) (all_came_by e.layer.role (TimerNotes e t v) b cs)
timer_runs n e y te ty b cs t k facts false r =
    still n e y te ty b cs e.layer (λ c st. st) e.accepted k (λ c. refl) (λ c st. history_refl st) (same_rises e) refl (same_end_is n e (after_timer e t false) k.here refl (same_rises e) refl refl refl)
timer_runs n e y te ty b cs RestartTimer k facts true r =
    still n e y te ty b cs (expired (unread e.layer) RestartTimer) (λ c st. st) e.accepted k (λ c. refl) (λ c st. history_refl st) (same_rises e) refl (same_end_is n e (after_timer e RestartTimer true) k.here refl (same_rises e) refl refl refl)
timer_runs n e y te ty b cs (CallTimer d) k facts true r =
    let f = runs_found (λ ch. waits_for_call e.layer.role ch.state) e.layer.phase (channel_of e.layer d) r in
    clears n e y te ty b cs d k facts f.0 (channel_of e.layer d) refl f.1.0 f.1.1
timer_runs n e y te ty b cs (ResetTimer d) k facts true r =
    let f = runs_found (λ ch. in_transfer ch.state && ch.resetting) e.layer.phase (channel_of e.layer d) r in
    clears n e y te ty b cs d k facts f.0 (channel_of e.layer d) refl f.1.0 f.1.1
timer_runs n e y te ty b cs (ClearTimer d) k facts true r =
    let e' : End = after_timer e (ClearTimer d) true in
    let count : length e'.layer.channels ≡ length e.layer.channels = closed_length e.layer.channels in
    restart_step n e.layer.role e e' y te ty b cs LocalFault k (record {
      channels = refl;
      epochs = λ s c p u g. either_way (λ (z : History). z.epochs p u g ≡ (e.histories s c).epochs p u g) (is_session e.session s) (next_restart_of (e.histories s c)) (e.histories s c) refl refl;
      begun = begun_rises e.layer.role e e' (same_rises e) count;
    }) refl (λ s c up. subst (λ (z : History). Further (e.histories s c) z) (sym (told_here e s c (λ m st. next_restart_of st) up)) (next_restart_further (e.histories s c)))
    (record { role = refl; count = count ∙ k.here.count; up = λ p. absurd (not_ready p) })
  where
    not_ready : OwnRestart ≡ PacketReady → ⊥
    not_ready p = true≢false (ap layer.in_own_restart p)

-- ---- the link's session

own_restart_not_ready : OwnRestart ≡ PacketReady → ⊥
own_restart_not_ready p = true≢false (ap layer.in_own_restart p)

abbrev no_session_phase : Phase → Bool
no_session_phase NoSession = true
no_session_phase ph = false

pub no_session_not_ready : NoSession ≡ PacketReady → ⊥
no_session_not_ready p = true≢false (ap no_session_phase p)

pub down_kept : (n : ℕ) (e y : End) (te ty : ℕ) (b : Book) (cs : List (Option ℕ)) → KeptAt n e.layer.role e y te ty b cs → KeptAt n e.layer.role (record e { layer = link_down e.layer; session = None }) y te ty (all_told e.layer.role (link_down e.layer).notes b) (all_came_by e.layer.role (link_down e.layer).notes b cs)
down_kept n e y te ty b cs k =
    let e' : End = record e { layer = link_down e.layer; session = None } in
    let count : length e'.layer.channels ≡ length e.layer.channels = closed_length e.layer.channels in
    session_step n e.layer.role e e' y te te ty b cs LinkLost k (record {
      channels = refl;
      epochs = λ s c p u g. refl;
      begun = begun_rises e.layer.role e e' (same_rises e) count;
    }) (omega arith) (λ s up. absurd (none-some s up))
    (record { role = refl; count = count ∙ k.here.count; up = λ p. absurd (no_session_not_ready p) })

-- in a session in which something came in no end comes up
fresh_of : (a b c : Bool) → (not a && (b && c)) ≡ true → (a ≡ false) × (b ≡ true)
fresh_of false true c e = (refl, refl)
fresh_of false false c e = absurd (true≢false (sym e))
fresh_of true b c e = absurd (true≢false (sym e))

zero_not_below : (m : ℕ) → (m == 0) ≡ true → nat_lt 0 m ≡ false
zero_not_below zero e = refl
zero_not_below (suc m) e = absurd (true≢false (sym e ∙ ne_eqb (suc m) 0 (λ h. omega arith)))

pub up_kept : (n : ℕ) (e y : End) (te ty : ℕ) (b : Book) (cs : List (Option ℕ)) (s : ℕ) → KeptAt n e.layer.role e y te ty b cs → te ≤ s → may_begin s (record { me = e; you = y }) ≡ true → KeptAt n e.layer.role (begun s e) y s ty (all_told e.layer.role (link_up e.layer).notes b) (all_came_by e.layer.role (link_up e.layer).notes b cs)
up_kept n e y te ty b cs s k le may =
    let e' : End = begun s e in
    let count : length e'.layer.channels ≡ length e.layer.channels = closed_length e.layer.channels in
    let f = fresh_of (s == 0) (e.accepted s == 0) (y.accepted s == 0) may in
    let fresh : has_come e s ≡ false = ap (λ (v : Bool). v || nat_lt 0 (e.accepted s)) f.0 ∙ zero_not_below (e.accepted s) f.1 in
    session_step n e.layer.role e e' y te s ty b cs LinkLost k (record {
      channels = refl;
      epochs = λ i c p u g. refl;
      begun = begun_rises e.layer.role e e' (same_rises e) count;
    }) le (λ i up. let is : s ≡ i = same_Some s i up in (sym is, subst (λ (j : ℕ). has_come e j ≡ false) is fresh))
    (record { role = refl; count = count ∙ k.here.count; up = λ p. absurd (own_restart_not_ready p) })
