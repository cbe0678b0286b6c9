-- Whatever happens at the two ends of a line keeps its book right.
use Rattle.std.specs.Prelude.{◌≡◌, ℕ, zero, suc, ◌<◌, ◌≤◌, Bool, true, false, cond, ◌&&◌, ◌||◌, List, [], ◌∷◌, length, map, slice_get, Option, Some, None}
use Rattle.std.proofs.Common.{inl, inr, refl, sym, ap, subst, ◌∙◌, length-append, arith, true≢false}
use Rattle.std.proofs.lemmas.Bool.{ltb-true}
use Rattle.link_timers.specs.declared.role.Role.{Role}
use Rattle.link_timers.specs.declared.role.Role.TheVariants.{Dte, Dce}
use Rattle.link_timers.specs.Role.{other_of}
use Rattle.data_transfer.specs.Flow.{modulus}
use Rattle.data_transfer.specs.declared.flow.Flow.{Flow}
use Rattle.pad_editing.specs.Edited.{Step}
use Rattle.data_transfer.specs.Packets.{Packet, Datum}
use Rattle.packet_layer.specs.Layer.{link_up, runs, channel_given}
use Rattle.packet_laws.specs.History.{Epoch}
use Rattle.packet_laws.specs.LayerLineLaw.{Holds, HasNoLogs, Aligned}
use Rattle.packet_laws.specs.Counted.{IsCounted}
use Rattle.packet_laws.proofs.Line.Counted.{line_counts}
use Rattle.packet_laws.specs.LayerLine.{End, Line, Event, Happening, start_line, turned, happens, after, may_begin, begun, offers, accepts, arrives_in, next_of_session}
use Rattle.packet_laws.specs.LayerLine.Event.{Up, Down, Calls, Requests, Expires, Offers, Arrives}
use Rattle.packet_laws.specs.LayerLine.Happening.{Here, There}
use Rattle.call_records.specs.Records.{RecordValue, with_step}
use Rattle.call_records.specs.Book.{Book, Slot, slot_at, edits, all_told, with_change}
use Rattle.record_laws.specs.Books.Told.{World, Move, all_came_by, callers_by, callers_after, all_callers, notes_in, notes_by_packet, written, top_after, after_move, after_all, InOrder, IsAllowed, AreAllowed}
use Rattle.record_laws.specs.Books.Told.Move.{Happens, Edits}
use Rattle.record_laws.specs.Books.Headline.{BookHolds, CallsHold}
use Rattle.record_laws.proofs.Books.Basics.{all_same, get_changed}
use Rattle.record_laws.proofs.Books.Presence.{kept_open, moved_open}
use Rattle.record_laws.proofs.Books.Invariant.{EndView, ChannelUse, IsRight, book_parts, answered_at, epoch_at}
use Rattle.record_laws.proofs.Books.Writing.{Closes, size_changed, slot_changed, pairs_changed, count_changed, kept_changed}
use Rattle.record_laws.proofs.Books.EndSteps.{view_of, views_of, within, has_come, end_step}
use Rattle.record_laws.proofs.Books.Steps.{history_refl}
use Rattle.record_laws.proofs.Books.ChannelSteps.{KeptAt, Facts, sized, top_of}
use Rattle.record_laws.proofs.Books.Layers.{next_same, either_way}
use Rattle.record_laws.proofs.Books.Ends.{quiet_step}
use Rattle.record_laws.proofs.Books.Events.{requests_kept, begun_rises, same_rises, same_end_is}
use Rattle.record_laws.proofs.Books.Placing.{calls_given, timer_runs, down_kept, up_kept}
use Rattle.record_laws.proofs.Books.IncomingPackets.{accepts_kept}
use Rattle.record_laws.proofs.Books.Concluding.{LineSays, concluded, calls_concluded, callers_are}

-- ---- an event at `me`

up_by : (n : ℕ) (e y : End) (te ty : ℕ) (b : Book) (cs : List (Option ℕ)) (s : ℕ) (v : Bool) → KeptAt n e.layer.role e y te ty b cs → te ≤ s → may_begin s (record { me = e; you = y }) ≡ v
    → KeptAt n e.layer.role (cond {A = Line} v (record { me = begun s e; you = y }) (record { me = e; you = y })).me y (cond v s te) ty (all_told e.layer.role (cond v (link_up e.layer).notes []) b) (all_came_by e.layer.role (cond v (link_up e.layer).notes []) b cs)
up_by n e y te ty b cs s true k le may = up_kept n e y te ty b cs s k le may
up_by n e y te ty b cs s false k le may = k

offers_by : (n : ℕ) (e y : End) (te ty : ℕ) (b : Book) (cs : List (Option ℕ)) (o : Option ℕ) → KeptAt n e.layer.role e y te ty b cs → KeptAt n e.layer.role (offers o e) y te ty b cs
offers_by n e y te ty b cs None k = k
offers_by n e y te ty b cs (Some s) k =
    let l = next_same e.layer.role e.layer in
    quiet_step n e.layer.role e (offers (Some s) e) y te ty b cs k (record {
      session = refl;
      status = l.status;
      history = λ i c. history_refl (e.histories i c);
      begun = begun_rises e.layer.role e (offers (Some s) e) (same_rises e) l.count;
    }) (same_end_is n e (offers (Some s) e) k.here refl (same_rises e) l.role l.phase l.count)

accepts_by : (n : ℕ) (e y : End) (te ty : ℕ) (b : Book) (cs : List (Option ℕ)) (s : ℕ) (o : Option Packet) → KeptAt n e.layer.role e y te ty b cs → Facts n e y → e.session ≡ Some s → next_of_session (record { me = e; you = y }) s ≡ o → ty ≤ s
    → KeptAt n e.layer.role (accepts s o e) y te ty (all_told e.layer.role (notes_by_packet e.layer o) b) (all_came_by e.layer.role (notes_by_packet e.layer o) b cs)
accepts_by n e y te ty b cs s None k facts up next order = k
accepts_by n e y te ty b cs s (Some p) k facts up next order = accepts_kept n e y te ty b cs s p k facts up next order

arrives_by : (n : ℕ) (e y : End) (te ty : ℕ) (b : Book) (cs : List (Option ℕ)) (o : Option ℕ) → KeptAt n e.layer.role e y te ty b cs → Facts n e y → e.session ≡ o → InOrder Arrives o te ty
    → KeptAt n e.layer.role (arrives_in o (record { me = e; you = y })).me y te ty (all_told e.layer.role (notes_in o (record { me = e; you = y })) b) (all_came_by e.layer.role (notes_in o (record { me = e; you = y })) b cs)
arrives_by n e y te ty b cs None k facts up order = k
arrives_by n e y te ty b cs (Some s) k facts up order = accepts_by n e y te ty b cs s (next_of_session (record { me = e; you = y }) s) k facts up refl order

pub event_kept : (n : ℕ) (e y : End) (te ty : ℕ) (b : Book) (cs : List (Option ℕ)) (event : Event) → KeptAt n e.layer.role e y te ty b cs → Facts n e y → InOrder event e.session te ty
    → KeptAt n e.layer.role (happens event (record { me = e; you = y })).me y (top_after event (record { me = e; you = y }) te) ty (written e.layer.role event (record { me = e; you = y }) b) (callers_by e.layer.role event (record { me = e; you = y }) b cs)
event_kept n e y te ty b cs (Up s) k facts order = up_by n e y te ty b cs s (may_begin s (record { me = e; you = y })) k order refl
event_kept n e y te ty b cs Down k facts order = down_kept n e y te ty b cs k
event_kept n e y te ty b cs (Calls parts) k facts order = calls_given n e y te ty b cs parts k facts (channel_given e.layer e.layer.phase) refl
event_kept n e y te ty b cs (Requests d r) k facts order = requests_kept n e y te ty b cs d r k facts
event_kept n e y te ty b cs (Expires t) k facts order = timer_runs n e y te ty b cs t k facts (runs e.layer t) refl
event_kept n e y te ty b cs Offers k facts order = offers_by n e y te ty b cs e.session k
event_kept n e y te ty b cs Arrives k facts order = arrives_by n e y te ty b cs e.session k facts refl order

-- the other end stays as it is
arrives_you : (o : Option ℕ) (w : Line) → (arrives_in o w).you ≡ w.you
arrives_you None w = refl
arrives_you (Some s) w = refl

happens_you : (event : Event) (w : Line) → (happens event w).you ≡ w.you
happens_you (Up s) w = either_way (λ (v : Line). v.you ≡ w.you) (may_begin s w) (record w { me = begun s w.me }) w refl refl
happens_you Down w = refl
happens_you (Calls parts) w = refl
happens_you (Requests d r) w = refl
happens_you (Expires t) w = refl
happens_you Offers w = refl
happens_you Arrives w = arrives_you w.me.session w

-- at an end of this role
event_at : (n : ℕ) (x : Role) (e y : End) (te ty : ℕ) (b : Book) (cs : List (Option ℕ)) (event : Event) → KeptAt n x e y te ty b cs → Facts n e y → InOrder event e.session te ty
    → KeptAt n x (happens event (record { me = e; you = y })).me (happens event (record { me = e; you = y })).you (top_after event (record { me = e; you = y }) te) ty (written x event (record { me = e; you = y }) b) (callers_by x event (record { me = e; you = y }) b cs)
event_at n x e y te ty b cs event k facts order =
    let w : Line = record { me = e; you = y } in
    subst (λ (z : End). KeptAt n x (happens event w).me z (top_after event w te) ty (written x event w b) (callers_by x event w b cs)) (sym (happens_you event w))
    (subst (λ (r : Role). KeptAt n r (happens event w).me y (top_after event w te) ty (written r event w b) (callers_by r event w b cs)) k.here.role
    (event_kept n e y te ty b cs event (subst (λ (r : Role). KeptAt n r e y te ty b cs) (sym k.here.role) k) facts order))

-- ---- the two ends change places

turned_views : (e y : End) (te ty : ℕ) → views_of Dte e y te ty ≡ views_of Dce y e ty te
turned_views e y te ty = all_same (views_of Dte e y te ty) (views_of Dce y e ty te) (λ r. by_role r)
  where
    by_role : (r : Role) → views_of Dte e y te ty r ≡ views_of Dce y e ty te r
    by_role Dte = refl
    by_role Dce = refl

turned_there : (n : ℕ) (e y : End) (te ty : ℕ) (b : Book) (cs : List (Option ℕ)) → KeptAt n Dte e y te ty b cs → KeptAt n Dce y e ty te b cs
turned_there n e y te ty b cs k = record {
  tags = k.tags;
  callers = k.callers;
  right = subst (λ (f : Role → EndView). IsRight f (book_parts b) k.tags) (turned_views e y te ty) k.right;
  sizes = k.sizes;
  here = k.there;
  there = k.here;
}

turned_back : (n : ℕ) (e y : End) (te ty : ℕ) (b : Book) (cs : List (Option ℕ)) → KeptAt n Dce y e ty te b cs → KeptAt n Dte e y te ty b cs
turned_back n e y te ty b cs k = record {
  tags = k.tags;
  callers = k.callers;
  right = subst (λ (f : Role → EndView). IsRight f (book_parts b) k.tags) (sym (turned_views e y te ty)) k.right;
  sizes = k.sizes;
  here = k.there;
  there = k.here;
}

-- ---- a step of editing

-- a step of editing closes nothing
step_kept : (o : Option ℕ) (step : Step) (b : Book) (n : ℕ) (r' : RecordValue) → slice_get (with_change o (with_step step) b).records n ≡ Some r' → (r : RecordValue) × (slice_get b.records n ≡ Some r) × (r'.closed ≡ r.closed)
step_kept None step b n r' e = (r', e, refl)
step_kept (Some m) step b n r' e =
    let g = get_changed b.records m (with_step step) n r' e in (
      g.0,
      g.1,
      elim g.2 [
        | inl h ↦ ap (λ (r : RecordValue). r.closed) h.1
        | inr h ↦ ap (λ (r : RecordValue). r.closed) h.1
      ],
    )

edit_kept : (n : ℕ) (e y : End) (te ty : ℕ) (b : Book) (cs : List (Option ℕ)) (role : Role) (channel : ℕ) (step : Step) → KeptAt n Dte e y te ty b cs → KeptAt n Dte e y te ty (edits role channel step b) cs
edit_kept n e y te ty b cs role channel step k =
    let o : Option ℕ = (slot_at role channel b).present in
    let b' : Book = edits role channel step b in
    let closed : Closes Dte b b' = record {
      size = size_changed o (with_step step) b;
      pairs = pairs_changed o (with_step step) b;
      there = λ c. slot_changed Dce c o (with_step step) b;
      placed = λ c. ap (λ (z : Slot). z.placed) (slot_changed Dte c o (with_step step) b);
      present = λ c. inr (slot_changed Dte c o (with_step step) b);
      opened = λ w. moved_open (book_parts b).slots (book_parts b').slots b'.records (λ y c. slot_changed y c o (with_step step) b)
          (kept_open (book_parts b).slots b.records b'.records (λ n r' e. step_kept o step b n r' e) w);
      count = count_changed o (with_step step) b;
      kept = kept_changed o (with_step step) b (λ r. record { head = record { number = refl; node = refl; own = refl; far = refl; caller = refl }; sent_before = refl; sent = refl; taken_before = refl; taken = refl });
    } in
    record {
      tags = k.tags;
      callers = k.callers;
      right = end_step Dte e e y te te ty b b' k.tags (record {
        epochs = λ s c r u g. refl;
        begun = λ z h. h;
        top = omega arith;
        up = λ s up. top_of Dte e y te ty b k.tags s k.right up;
        how = inl (record {
          session = refl;
          channels = λ c. inl (record { status = refl; restart = λ s up. refl; uses = λ s up. refl; epoch = λ s up. refl; slot_is = slot_changed Dte c o (with_step step) b });
        });
        closed = closed;
      }) k.right;
      sizes = sized n b b' closed.size k.sizes;
      here = k.here;
      there = k.there;
    }

-- ---- all moves

-- the law of the line, from a line on
abbrev pub Laws : ℕ → Line → Type 0
Laws n w = (hs : List Happening) (s c : ℕ) → 1 ≤ c → c ≤ n → Holds (after hs w) s c

-- and its numbers
abbrev pub Counts : ℕ → Line → Type 0
Counts n w = (hs : List Happening) (s c : ℕ) → 1 ≤ c → c ≤ n → (flow : Flow) × (flow.window < modulus flow.numbering) × IsCounted flow (after hs w).me s c × IsCounted flow (after hs w).you s c

pub start_counts : (channels : ℕ) (flow : Flow) (standing : Bool) → 1 ≤ channels → flow.window < modulus flow.numbering → Counts channels (start_line channels flow standing)
start_counts channels flow standing some small hs s c least most = let k = line_counts channels flow standing some small hs s c least most in (flow, small, k.0, k.1)

pub covered_within : (e f : Epoch) → Aligned e f → e.covered ≤ length e.sent
covered_within e f a =
    let released = a.covered_is_released in
    let taken = a.released_is_taken in
    let long = length-append f.taken a.packets.0 in
    let whole = ap (λ (l : List Datum). length l) a.packets.1 in
    omega arith

facts_here : (n : ℕ) (w : Line) → Laws n w → Counts n w → Facts n w.me w.you
facts_here n w law count = record {
  here = λ s c lo hi. (law [] s c lo hi).here;
  there = λ s c lo hi. (law [] s c lo hi).there;
  answers_there = λ s c lo hi. (law [] s c lo hi).answers_there;
  within = λ s c lo hi r u g. (((law [] s c lo hi).back r u g).released_is_taken, covered_within _ _ ((law [] s c lo hi).forth r u g));
  counts = λ s c lo hi. let k = count [] s c lo hi in (k.0, k.1, k.2);
  call = λ s c parts lo hi a. (law [] s c lo hi).call_here parts a;
}

facts_there : (n : ℕ) (w : Line) → Laws n w → Counts n w → Facts n w.you w.me
facts_there n w law count = record {
  here = λ s c lo hi. (law [] s c lo hi).there;
  there = λ s c lo hi. (law [] s c lo hi).here;
  answers_there = λ s c lo hi. (law [] s c lo hi).answers_here;
  within = λ s c lo hi r u g. (((law [] s c lo hi).forth r u g).released_is_taken, covered_within _ _ ((law [] s c lo hi).back r u g));
  counts = λ s c lo hi. let k = count [] s c lo hi in (k.0, k.1, k.3);
  call = λ s c parts lo hi a. (law [] s c lo hi).call_there parts a;
}

abbrev pub KeptIn : ℕ → World → List (Option ℕ) → Type 0
KeptIn n v cs = KeptAt n Dte v.line.me v.line.you v.top_me v.top_you v.book cs

move_kept : (n : ℕ) (m : Move) (v : World) (cs : List (Option ℕ)) → KeptIn n v cs → Laws n v.line → Counts n v.line → IsAllowed m v → KeptIn n (after_move m v) (callers_after m v cs)
move_kept n (Happens (Here event)) v cs k law count a = event_at n Dte v.line.me v.line.you v.top_me v.top_you v.book cs event k (facts_here n v.line law count) a
move_kept n (Happens (There event)) v cs k law count a =
    turned_back n (happens event (turned v.line)).you (happens event (turned v.line)).me v.top_me (top_after event (turned v.line) v.top_you) (written Dce event (turned v.line) v.book) (callers_by Dce event (turned v.line) v.book cs)
    (event_at n Dce v.line.you v.line.me v.top_you v.top_me v.book cs event (turned_there n v.line.me v.line.you v.top_me v.top_you v.book cs k) (facts_there n v.line law count) a)
move_kept n (Edits role channel step) v cs k law count a = edit_kept n v.line.me v.line.you v.top_me v.top_you v.book cs role channel step k

move_laws : (n : ℕ) (m : Move) (v : World) → Laws n v.line → Laws n (after_move m v).line
move_laws n (Happens (Here event)) v law = λ hs. law (Here event ∷ hs)
move_laws n (Happens (There event)) v law = λ hs. law (There event ∷ hs)
move_laws n (Edits role channel step) v law = law

move_counts : (n : ℕ) (m : Move) (v : World) → Counts n v.line → Counts n (after_move m v).line
move_counts n (Happens (Here event)) v count = λ hs. count (Here event ∷ hs)
move_counts n (Happens (There event)) v count = λ hs. count (There event ∷ hs)
move_counts n (Edits role channel step) v count = count

pub all_kept : (n : ℕ) (ms : List Move) (v : World) (cs : List (Option ℕ)) → KeptIn n v cs → Laws n v.line → Counts n v.line → AreAllowed ms v → KeptIn n (after_all ms v) (all_callers ms v cs) × Laws n (after_all ms v).line
all_kept n [] v cs k law count a = (k, law)
all_kept n (m ∷ ms) v cs k law count a = all_kept n ms (after_move m v) (callers_after m v cs) (move_kept n m v cs k law count a.0) (move_laws n m v law) (move_counts n m v count) a.1

-- ---- what the line says of the uses that may have a call

range_of : (n c : ℕ) → within n c ≡ true → (1 ≤ c) × (c ≤ n)
range_of n zero e = absurd (true≢false (sym e))
range_of n (suc i) e = let h = ltb-true i n e in (omega arith, omega arith)

and_second : (a b : Bool) → (a && b) ≡ true → b ≡ true
and_second true b e = e
and_second false b e = absurd (true≢false (sym e))

pub in_line : (n : ℕ) (x : Role) (e : End) (te : ℕ) (k : ChannelUse) → length e.layer.channels ≡ n → (view_of x e te).begun k ≡ true → (1 ≤ k.channel) × (k.channel ≤ n)
in_line n x e te k count h = range_of n k.channel (ap (λ (m : ℕ). within m k.channel) (sym count) ∙ and_second (has_come e k.session) (within (length e.layer.channels) k.channel) h)

pub says_of : (n : ℕ) (e y : End) (te ty : ℕ) → length e.layer.channels ≡ n → length y.layer.channels ≡ n → ((s c : ℕ) → 1 ≤ c → c ≤ n → Holds (record { me = e; you = y }) s c) → LineSays (views_of Dte e y te ty)
says_of n e y te ty here there law = record {
  aligned = λ z k g h. aligned z k g h;
  aligned_back = λ z k g h. back z k g h;
  answers = λ z k g h. answers z k g h;
}
  where
    aligned : (z : Role) (k : ChannelUse) (g : ℕ) → (views_of Dte e y te ty z).begun k ≡ true → Aligned (epoch_at (views_of Dte e y te ty z) k g) (epoch_at (views_of Dte e y te ty (other_of z)) k g)
    aligned Dte k g h = let r = in_line n Dte e te k here h in (law k.session k.channel r.0 r.1).forth k.restart k.use_ g
    aligned Dce k g h = let r = in_line n Dce y ty k there h in (law k.session k.channel r.0 r.1).back k.restart k.use_ g

    back : (z : Role) (k : ChannelUse) (g : ℕ) → (views_of Dte e y te ty z).begun k ≡ true → Aligned (epoch_at (views_of Dte e y te ty (other_of z)) k g) (epoch_at (views_of Dte e y te ty z) k g)
    back Dte k g h = let r = in_line n Dte e te k here h in (law k.session k.channel r.0 r.1).back k.restart k.use_ g
    back Dce k g h = let r = in_line n Dce y ty k there h in (law k.session k.channel r.0 r.1).forth k.restart k.use_ g

    answers : (z : Role) (k : ChannelUse) (g : ℕ) → (views_of Dte e y te ty z).begun k ≡ true → (HasNoLogs (epoch_at (views_of Dte e y te ty z) k g) → ⊥)
        → (answered_at (views_of Dte e y te ty z) k || answered_at (views_of Dte e y te ty (other_of z)) k) ≡ true
    answers Dte k g h some =
        let r = in_line n Dte e te k here h in
        let w = law k.session k.channel r.0 r.1 in
        ap (λ (a : Bool). a || answered_at (view_of Dce y ty) k) (w.here.one_call.answered k.restart k.use_ 0 g) ∙ ap (λ (a : Bool). ((e.histories k.session k.channel).epochs k.restart k.use_ g).answered || a) (w.there.one_call.answered k.restart k.use_ 0 g)
        ∙ w.answers_here.answered k.restart k.use_ g some
    answers Dce k g h some =
        let r = in_line n Dce y ty k there h in
        let w = law k.session k.channel r.0 r.1 in
        ap (λ (a : Bool). a || answered_at (view_of Dte e te) k) (w.there.one_call.answered k.restart k.use_ 0 g) ∙ ap (λ (a : Bool). ((y.histories k.session k.channel).epochs k.restart k.use_ g).answered || a) (w.here.one_call.answered k.restart k.use_ 0 g)
        ∙ w.answers_there.answered k.restart k.use_ g some

pub kept_holds : (n : ℕ) (v : World) (cs : List (Option ℕ)) → KeptIn n v cs → Laws n v.line → BookHolds v.book
kept_holds n v cs k law = concluded (views_of Dte v.line.me v.line.you v.top_me v.top_you) v.book k.tags k.right
    (says_of n v.line.me v.line.you v.top_me v.top_you k.here.count k.there.count (λ s c lo hi. law [] s c lo hi))

-- and each call that came in holds as a pair does
pub kept_calls : (n : ℕ) (v : World) (cs : List (Option ℕ)) → KeptIn n v cs → Laws n v.line → CallsHold v.book cs
kept_calls n v cs k law =
    subst (λ (l : List (Option ℕ)). CallsHold v.book l) k.callers
    (calls_concluded (views_of Dte v.line.me v.line.you v.top_me v.top_you) v.book k.tags k.right
    (says_of n v.line.me v.line.you v.top_me v.top_you k.here.count k.there.count (λ s c lo hi. law [] s c lo hi)))

-- and each record says where its call came from
pub kept_callers : (n : ℕ) (v : World) (cs : List (Option ℕ)) → KeptIn n v cs → map (λ r. r.caller) v.book.records ≡ cs
kept_callers n v cs k = callers_are (views_of Dte v.line.me v.line.you v.top_me v.top_you) v.book k.tags k.right ∙ k.callers
