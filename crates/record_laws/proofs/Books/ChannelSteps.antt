-- A step on one channel of an end keeps the book right.
use Rattle.std.specs.Prelude.{◌≡◌, ◌≢◌, ℕ, zero, suc, ◌<◌, ◌≤◌, ◌⊎◌, Bool, true, false, ◌&&◌, List, [], ◌∷◌, ◌++◌, length, map, slice_get, is_some, Option, Some, None}
use Rattle.std.proofs.Common.{inl, inr, refl, sym, ap, subst, ◌∙◌, arith, true≢false}
use Rattle.std.specs.Option.{IsSome}
use Rattle.std.proofs.lemmas.Option.{none-some, same_Some}
use Rattle.std.proofs.lemmas.Bool.{lt-ltb}
use Rattle.link_timers.specs.declared.role.Role.{Role}
use Rattle.link_timers.specs.declared.role.Role.TheVariants.{Dte, Dce}
use Rattle.link_timers.specs.Role.{other_of}
use Rattle.data_transfer.specs.Flow.{modulus}
use Rattle.data_transfer.specs.declared.flow.Flow.{Flow}
use Rattle.data_transfer.specs.Packets.{CallParts}
use Rattle.packet_channel.specs.Channel.{ChannelState, Channel}
use Rattle.packet_channel.specs.Channel.ChannelState.{Ready, OwnWaiting, FarWaiting, Transfer, Collision, OwnClear}
use Rattle.packet_layer.specs.Layer.{channel_of}
use Rattle.packet_layer.specs.Layer.Phase.{PacketReady}
use Rattle.packet_laws.specs.History.{Epoch, History, call_accepted}
use Rattle.packet_laws.specs.LayerLineLaw.{HoldsAt, OneAnswers, CallArrives, CallKnown, InUse, IsUnused, HasPlaced}
use Rattle.packet_laws.specs.Counted.{IsCounted}
use Rattle.packet_laws.specs.LayerLine.{End}
use Rattle.call_records.specs.Records.{RecordValue}
use Rattle.call_records.specs.Book.{Book, slot_at, side_of, with_change, changed, answers, with_pair, closes, comes, with_record}
use Rattle.record_laws.proofs.Books.Basics.{number_is, order, dte_not_dce, get_changed}
use Rattle.record_laws.proofs.Books.Invariant.{EndView, CallStatus, ChannelUse, Tag, came_from, book_parts, Present, SlotIs, IsPast, IsRight, HasEpochs, called_at, now, sent_of, taken_of, sent_as, taken_as, IsWithin}
use Rattle.record_laws.proofs.Books.Invariant.CallStatus.{Idle, OwnCall, FarCall, Open}
use Rattle.record_laws.proofs.Books.Carrying.{Grows}
use Rattle.record_laws.proofs.Books.Ending.{StandsStill, IsOver, Further}
use Rattle.record_laws.proofs.Books.Calling.{IsNew}
use Rattle.record_laws.proofs.Books.Writing.{SameSize, size_refl, size_trans, size_slot, size_changed, size_record, Closes, closes_none, closes_one, closed_here, closed_else, book_parts_records, slot_changed, pairs_changed, count_changed}
use Rattle.record_laws.proofs.Books.EndSteps.{status_of, status_at, within, has_come, view_of, views_of, end_step, OnChannel, at_else, HistoryGrows, carry_step}
use Rattle.record_laws.proofs.Books.Steps.{SameHistory, ComeStep, come_step, unused_new}
use Rattle.record_laws.proofs.Books.Meetings.{answer_step, collide_step}
use Rattle.record_laws.proofs.Books.Outcomes.{EndsUse, RecordGrows, Outcome}
use Rattle.record_laws.proofs.Books.Outcomes.Outcome.{stays, ends, ends_none, goes, connects, accepts, comes as call_comes, collides}

-- ---- what is kept

pub record IsEnd (n : ℕ) (x : Role) (e : End) : Type 0 where
  pub role : e.layer.role ≡ x
  pub count : length e.layer.channels ≡ n
  pub up : e.layer.phase ≡ PacketReady → (s : ℕ) × (e.session ≡ Some s) × (has_come e s ≡ true)

-- the book of a line with so many channels and no address
pub record HasSize (n : ℕ) (b : Book) : Type 0 where
  pub size : (z : Role) → length (side_of z b).slots ≡ n
  pub address : (z : Role) → (side_of z b).address ≡ []

pub record KeptAt (n : ℕ) (x : Role) (e y : End) (te ty : ℕ) (b : Book) (cs : List (Option ℕ)) : Type 0 where
  pub tags : List Tag
  pub callers : map came_from tags ≡ cs
  pub right : IsRight (views_of x e y te ty) (book_parts b) tags
  pub sizes : HasSize n b
  pub here : IsEnd n x e
  pub there : IsEnd n (other_of x) y

-- the numbers of a channel in data transfer name the counts of its present epoch
abbrev pub AreCounts : End → (s c : ℕ) → Type 0
AreCounts e s c = (flow : Flow) × (flow.window < modulus flow.numbering) × IsCounted flow e s c

-- what the law of the line says at one end
pub record Facts (n : ℕ) (e y : End) : Type 0 where
  pub here : (s c : ℕ) → 1 ≤ c → c ≤ n → HoldsAt e s c
  pub there : (s c : ℕ) → 1 ≤ c → c ≤ n → HoldsAt y s c
  pub answers_there : (s c : ℕ) → 1 ≤ c → c ≤ n → OneAnswers (y.histories s c) (e.histories s c)
  pub within : (s c : ℕ) → 1 ≤ c → c ≤ n → IsWithin (e.histories s c)
  pub counts : (s c : ℕ) → 1 ≤ c → c ≤ n → AreCounts e s c
  pub call : (s c : ℕ) (parts : CallParts) → 1 ≤ c → c ≤ n → CallArrives (record { me = e; you = y }) s c parts → CallKnown (e.histories s c) (y.histories s c) parts

-- ---- the step

-- the call that comes in
pub record Arrival (e y : End) (s d ty : ℕ) (parts : CallParts) : Type 0 where
  pub arrives : CallArrives (record { me = e; you = y }) s d parts
  pub order : ty ≤ s
  pub come : has_come e s ≡ true

pub record ChannelStep (n : ℕ) (x : Role) (e e' y : End) (s d ty : ℕ) (ch ch' : Channel) (told : History → History) (came : CallParts → Type 0) : Type 0 where
  pub on : OnChannel x e e' s d
  pub found : channel_of e.layer d ≡ Some ch
  pub found_after : status_at x (channel_of e'.layer d) ≡ status_of x ch'.state
  pub history : e'.histories s d ≡ told (e.histories s d)
  pub end_is : IsEnd n x e'
  pub least : 1 ≤ d
  pub most : d ≤ n
  pub arrival : (parts : CallParts) → came parts → (ch.state ≡ Ready) ⊎ (ch.state ≡ OwnWaiting) → Arrival e y s d ty parts

abbrev pub status_number : CallStatus → ℕ
status_number Idle = 0
status_number OwnCall = 1
status_number FarCall = 2
status_number Open = 3

apart_02 : ◌≡◌ {A = ℕ} 0 2 → ⊥
apart_02 e = omega arith

apart_12 : ◌≡◌ {A = ℕ} 1 2 → ⊥
apart_12 e = omega arith

apart_32 : ◌≡◌ {A = ℕ} 3 2 → ⊥
apart_32 e = omega arith

not_far_idle : Idle ≡ FarCall → ⊥
not_far_idle e = apart_02 (ap status_number e)

not_far_own : OwnCall ≡ FarCall → ⊥
not_far_own e = apart_12 (ap status_number e)

not_far_open : Open ≡ FarCall → ⊥
not_far_open e = apart_32 (ap status_number e)

unanswered : (x : Role) (s : ChannelState) (st : History) → status_of x s ≡ FarCall → InUse x s st → (st.epochs st.restart st.use_ 0).answered ≡ false
unanswered x FarWaiting st e u = ap (λ (z : Epoch). z.answered) (u.empty 0)
unanswered x Collision st e u = ap (λ (z : Epoch). z.answered) (u.placed 0)
unanswered x Ready st e u = absurd (not_far_idle e)
unanswered x OwnClear st e u = absurd (not_far_idle e)
unanswered x OwnWaiting st e u = absurd (not_far_own e)
unanswered x Transfer st e u = absurd (not_far_open e)

pair_size : (o p : Option ℕ) (b : Book) → SameSize b (with_pair o p b)
pair_size None p b = size_refl b
pair_size (Some a) None b = size_refl b
pair_size (Some a) (Some c) b = record { size = λ y. size y; node = λ y. node y; address = λ y. address y }
  where
    size : (y : Role) → length (side_of y (with_pair (Some a) (Some c) b)).slots ≡ length (side_of y b).slots
    size Dte = refl
    size Dce = refl

    node : (y : Role) → (side_of y (with_pair (Some a) (Some c) b)).node ≡ (side_of y b).node
    node Dte = refl
    node Dce = refl

    address : (y : Role) → (side_of y (with_pair (Some a) (Some c) b)).address ≡ (side_of y b).address
    address Dte = refl
    address Dce = refl

comes_size : (x : Role) (d : ℕ) (parts : CallParts) (b : Book) → SameSize b (comes x d parts b)
comes_size x d parts b = size_trans b (with_record _ b) (comes x d parts b) (size_record _ b) (size_slot x d _ (with_record _ b))

within_is : (n c : ℕ) → 1 ≤ c → c ≤ n → within n c ≡ true
within_is n zero lo hi = absurd (omega arith)
within_is n (suc i) lo hi = lt-ltb i n (omega arith)

and_both : (a b : Bool) → a ≡ true → b ≡ true → (a && b) ≡ true
and_both true b e h = h
and_both false b e h = absurd (true≢false (sym e))

pub begun_now : (x : Role) (e : End) (te n s d : ℕ) → length e.layer.channels ≡ n → has_come e s ≡ true → 1 ≤ d → d ≤ n → (view_of x e te).begun (now (view_of x e te) s d) ≡ true
begun_now x e te n s d count come lo hi = and_both (has_come e s) (within (length e.layer.channels) d) come (ap (λ (m : ℕ). within m d) count ∙ within_is n d lo hi)

pub sized : (n : ℕ) (b b' : Book) → SameSize b b' → HasSize n b → HasSize n b'
sized n b b' s h = record { size = λ z. s.size z ∙ h.size z; address = λ z. s.address z ∙ h.address z }

-- the view of an end at its own role
view_here : (x : Role) (e y : End) (te ty : ℕ) (P : EndView → Type 0) → P (views_of x e y te ty x) → P (view_of x e te)
view_here Dte e y te ty P h = h
view_here Dce e y te ty P h = h

pub slot_of : (x : Role) (e y : End) (te ty : ℕ) (b : Book) (tags : List Tag) (c : ℕ) → IsRight (views_of x e y te ty) (book_parts b) tags → SlotIs (status_at x (channel_of e.layer c)) (view_of x e te) tags x c (slot_at x c b)
slot_of x e y te ty b tags c w = view_here x e y te ty (λ f. SlotIs (f.status c) f tags x c (slot_at x c b)) (w.slot x c)

pub top_of : (x : Role) (e y : End) (te ty : ℕ) (b : Book) (tags : List Tag) (s : ℕ) → IsRight (views_of x e y te ty) (book_parts b) tags → e.session ≡ Some s → s ≡ te
top_of x e y te ty b tags s w = view_here x e y te ty (λ f. f.session ≡ Some s → s ≡ f.top) (w.tops x s)

module _ (n : ℕ) (x : Role) (e e' y : End) (te ty : ℕ) (b : Book) (cs : List (Option ℕ)) (s d : ℕ) (ch ch' : Channel) (told : History → History) (came : CallParts → Type 0) (k : KeptAt n x e y te ty b cs) (facts : Facts n e y)
    (q : ChannelStep n x e e' y s d ty ch ch' told came) where
  status_now : status_at x (channel_of e.layer d) ≡ status_of x ch.state
  status_now = ap (status_at x) q.found

  use_now : InUse x ch.state (e.histories s d)
  use_now = subst (λ (r : Role). InUse r ch.state (e.histories s d)) k.here.role ((facts.here s d q.least q.most).in_use ch q.on.up q.found)

  same_epochs : ((st : History) (r u g : ℕ) → (told st).epochs r u g ≡ st.epochs r u g) → (a c r u g : ℕ) → (e'.histories a c).epochs r u g ≡ (e.histories a c).epochs r u g
  same_epochs h a c r u g = at_else x e e' s d (λ (z v : History). v.epochs r u g ≡ z.epochs r u g) q.on (λ z. refl) (ap (λ (z : History). z.epochs r u g) q.history ∙ h (e.histories s d) r u g) a c

  still : (b' : Book) (c : ℕ) → c ≢ d → slot_at x c b' ≡ slot_at x c b → StandsStill (view_of x e te) (view_of x e' te) c (slot_at x c b) (slot_at x c b')
  still b' c h same = record {
    status = q.on.status c h;
    restart = λ a up. ap (λ (z : History). z.restart) (q.on.else a c (λ p. h p.1));
    uses = λ a up. ap (λ (z : History). z.use_) (q.on.else a c (λ p. h p.1));
    epoch = λ a up. ap (λ (z : History). z.epoch) (q.on.else a c (λ p. h p.1));
    slot_is = same;
  }

  at_now : (P : ℕ → Type 0) → P s → (a : ℕ) → e.session ≡ Some a → P a
  at_now P h a up = subst P (same_Some s a (sym q.on.up ∙ up)) h

  end_after : (b' : Book) → Closes x b b' → ((st : History) (r u g : ℕ) → (told st).epochs r u g ≡ st.epochs r u g)
      → ((c : ℕ) → StandsStill (view_of x e te) (view_of x e' te) c (slot_at x c b) (slot_at x c b') ⊎ IsOver (view_of x e te) (view_of x e' te) c (slot_at x c b) (slot_at x c b')) → KeptAt n x e' y te ty b' cs
  end_after b' closed same channels = record {
    tags = k.tags;
    callers = k.callers;
    right = end_step x e e' y te te ty b b' k.tags (record {
      epochs = same_epochs same;
      begun = q.on.begun;
      top = omega arith;
      up = λ a up. top_of x e y te ty b k.tags a k.right (sym q.on.session ∙ up);
      how = inl (record { session = q.on.session; channels = channels });
      closed = closed;
    }) k.right;
    sizes = sized n b b' closed.size k.sizes;
    here = q.end_is;
    there = k.there;
  }

  stays_after : status_of x ch'.state ≡ status_of x ch.state → ((st : History) → SameHistory st (told st)) → KeptAt n x e' y te ty b cs
  stays_after status same = end_after b (closes_none x b) (λ st. (same st).epochs)
      (λ c. elim (number_is c d) [
        | inl h ↦ inl (subst (λ (m : ℕ). StandsStill (view_of x e te) (view_of x e' te) m (slot_at x m b) (slot_at x m b)) (sym h) (record {
          status = q.found_after ∙ status ∙ sym status_now;
          restart = at_now (λ a. (e'.histories a d).restart ≡ (e.histories a d).restart) (ap (λ (z : History). z.restart) q.history ∙ (same (e.histories s d)).restart);
          uses = at_now (λ a. (e'.histories a d).use_ ≡ (e.histories a d).use_) (ap (λ (z : History). z.use_) q.history ∙ (same (e.histories s d)).uses);
          epoch = at_now (λ a. (e'.histories a d).epoch ≡ (e.histories a d).epoch) (ap (λ (z : History). z.epoch) q.history ∙ (same (e.histories s d)).epoch);
          slot_is = refl;
        }))
        | inr h ↦ inl (still b c h refl)
      ])

  over_after : (b' : Book) → Closes x b b' → ((c : ℕ) → c ≢ d → slot_at x c b' ≡ slot_at x c b) → (slot_at x d b').present ≡ None → status_of x ch'.state ≡ Idle → ((st : History) → EndsUse st (told st)) → KeptAt n x e' y te ty b' cs
  over_after b' closed else none status uses = end_after b' closed (λ st. (uses st).epochs)
      (λ c. elim (number_is c d) [
        | inl h ↦ inr (subst (λ (m : ℕ). IsOver (view_of x e te) (view_of x e' te) m (slot_at x m b) (slot_at x m b')) (sym h) (record {
          status = q.found_after ∙ status;
          further = at_now (λ a. Further (e.histories a d) (e'.histories a d)) (subst (λ (z : History). Further (e.histories s d) z) (sym q.history) (uses (e.histories s d)).further);
          present = none;
        }))
        | inr h ↦ inl (still b' c h (else c h))
      ])

  idle_none : status_of x ch.state ≡ Idle → (slot_at x d b).present ≡ None
  idle_none m = subst (λ (z : CallStatus). SlotIs z (view_of x e te) k.tags x d (slot_at x d b)) (status_now ∙ m) (slot_of x e y te ty b k.tags d k.right)

  -- a call goes on
  goes_after : (b' : Book) (p : Present (view_of x e te) k.tags x d (slot_at x d b)) → SlotIs (status_at x (channel_of e'.layer d)) (view_of x e te) k.tags x d (slot_at x d b) → HistoryGrows (e.histories s d) (told (e.histories s d)) → length b'.records ≡ length b.records
      → ((m : ℕ) (r' : RecordValue) → slice_get b'.records m ≡ Some r' → (r : RecordValue) × (slice_get b.records m ≡ Some r) × (((m ≡ p.number) × Grows (view_of x e te) (view_of x e' te) p.session d r r') ⊎ ((m ≢ p.number) × (r' ≡ r))))
      → record (book_parts b) { records = b'.records } ≡ book_parts b' → SameSize b b' → KeptAt n x e' y te ty b' cs
  goes_after b' p opens grows count kept parts size = record {
    tags = k.tags;
    callers = k.callers;
    right = carry_step x e e' y s d te ty b b' k.tags k.right p (record { on = q.on; opens = opens; history = subst (λ (z : History). HistoryGrows (e.histories s d) z) (sym q.history) grows; count = count; kept = kept }) parts;
    sizes = sized n b b' size k.sizes;
    here = q.end_is;
    there = k.there;
  }

  grows_at : (p : Present (view_of x e te) k.tags x d (slot_at x d b)) (r r' : RecordValue) → RecordGrows ch (e.histories s d) (told (e.histories s d)) r r' → Grows (view_of x e te) (view_of x e' te) p.session d r r'
  grows_at p r r' g =
      subst (λ (a : ℕ). Grows (view_of x e te) (view_of x e' te) a d r r') (same_Some s p.session (sym q.on.up ∙ p.up))
      (record {
        head = g.head;
        closed = g.closed;
        tells = λ t h.
            let after = g.tells (record { sent = t.sent; taken = t.taken }) h (λ flows. let c = facts.counts s d q.least q.most in (c.0, c.1, c.2 ch q.on.up q.found flows)) in
            record {
              sent = λ i. sent_as _ _ _ (ap (λ (z : History). sent_of (z.epochs (e.histories s d).restart (e.histories s d).use_ i)) q.history) (after.sent i);
              taken = λ i. taken_as _ _ _ (ap (λ (z : History). taken_of (z.epochs (e.histories s d).restart (e.histories s d).use_ i)) q.history) (after.taken i);
            };
        epochs = λ h. subst (λ (z : History). HasEpochs r' z.epoch) (sym q.history) (g.epochs h);
      })

  kept_at : (o : Option ℕ) (change : RecordValue → RecordValue) (p : Present (view_of x e te) k.tags x d (slot_at x d b)) → o ≡ Some p.number → ((r : RecordValue) → RecordGrows ch (e.histories s d) (told (e.histories s d)) r (change r))
      → (m : ℕ) (r' : RecordValue) → slice_get (with_change o change b).records m ≡ Some r' → (r : RecordValue) × (slice_get b.records m ≡ Some r) × (((m ≡ p.number) × Grows (view_of x e te) (view_of x e' te) p.session d r r') ⊎ ((m ≢ p.number) × (r' ≡ r)))
  kept_at None change p e0 grows m r' got = absurd (none-some p.number e0)
  kept_at (Some i) change p e0 grows m r' got =
      let is : i ≡ p.number = same_Some i p.number e0 in
      let g = get_changed b.records i change m r' got in (
        g.0,
        g.1,
        elim g.2 [
          | inl h ↦ inl (h.0 ∙ is, subst (λ (z : RecordValue). Grows (view_of x e te) (view_of x e' te) p.session d g.0 z) (sym h.1) (grows_at p g.0 (change g.0) (grows g.0)))
          | inr h ↦ inr (λ a. h.0 (a ∙ sym is), h.1)
        ],
      )

  changed_after : (change : RecordValue → RecordValue) → status_of x ch.state ≡ Open → status_of x ch'.state ≡ Open → ((st : History) → HistoryGrows st (told st)) → ((st : History) (r : RecordValue) → RecordGrows ch st (told st) r (change r)) → KeptAt n x e' y te ty (changed x d change b) cs
  changed_after change m m' grows rgrows =
      let o : Option ℕ = (slot_at x d b).present in
      let open_ = subst (λ (z : CallStatus). SlotIs z (view_of x e te) k.tags x d (slot_at x d b)) (status_now ∙ m) (slot_of x e y te ty b k.tags d k.right) in
      let p : Present (view_of x e te) k.tags x d (slot_at x d b) = open_.0 in
      goes_after (changed x d change b) p (subst (λ (z : CallStatus). SlotIs z (view_of x e te) k.tags x d (slot_at x d b)) (sym (q.found_after ∙ m')) open_) (grows (e.histories s d)) (count_changed o change b)
      (kept_at o change p p.is_present (λ r. rgrows (e.histories s d) r))
      (book_parts_records b (changed x d change b) (pairs_changed o change b) (size_changed o change b).node (λ z c. slot_changed z c o change b)) (size_changed o change b)

  same_record : (st st' : History) (r : RecordValue) → SameHistory st st' → RecordGrows ch st st' r r
  same_record st st' r h = record {
    head = record { number = refl; node = refl; own = refl; far = refl; caller = refl };
    closed = refl;
    tells = λ t a w. record {
      sent = λ g. sent_as _ _ _ (ap sent_of (h.epochs st.restart st.use_ g)) (t.sent g);
      taken = λ g. taken_as _ _ _ (ap taken_of (h.epochs st.restart st.use_ g)) (t.taken g);
    };
    epochs = λ a. subst (λ (i : ℕ). HasEpochs r i) (sym h.epoch) a;
  }

  same_grows : (st st' : History) → SameHistory st st' → HistoryGrows st st'
  same_grows st st' h = record {
    restart = h.restart;
    uses = h.uses;
    calls = λ r u g. (ap (λ (z : Epoch). z.called) (h.epochs r u g), ap (λ (z : Epoch). z.answered) (h.epochs r u g));
    logs = λ r u g other. h.epochs r u g;
  }

  connects_after : status_of x ch.state ≡ OwnCall → status_of x ch'.state ≡ Open → ((st : History) → SameHistory st (told st)) → KeptAt n x e' y te ty b cs
  connects_after m m' same =
      let w = subst (λ (z : CallStatus). SlotIs z (view_of x e te) k.tags x d (slot_at x d b)) (status_now ∙ m) (slot_of x e y te ty b k.tags d k.right) in
      goes_after b w.0 (subst (λ (z : CallStatus). SlotIs z (view_of x e te) k.tags x d (slot_at x d b)) (sym (q.found_after ∙ m')) (w.0, λ a e. absurd (none-some a (sym w.2 ∙ e)), λ none. w.1)) (same_grows (e.histories s d) (told (e.histories s d)) (same (e.histories s d))) refl
      (λ i r' got. (
        r',
        got,
        elim (number_is i w.0.number) [
          | inl h ↦ inl (h, grows_at w.0 r' r' (same_record (e.histories s d) (told (e.histories s d)) r' (same (e.histories s d))))
          | inr h ↦ inr (h, refl)
        ],
      )) refl (size_refl b)

  answers_after : status_of x ch.state ≡ FarCall → status_of x ch'.state ≡ Open → ((st : History) → told st ≡ call_accepted st) → KeptAt n x e' y te ty (answers x d b) cs
  answers_after m m' history = record {
    tags = k.tags;
    callers = k.callers;
    right = answer_step x e e' y s d te ty b k.tags (record {
      on = q.on;
      far = status_now ∙ m;
      opens = q.found_after ∙ m';
      history = q.history ∙ history (e.histories s d);
      not_before = unanswered x ch.state (e.histories s d) m use_now;
    }) k.right;
    sizes = sized n b (answers x d b) (pair_size (slot_at x d b).caller (slot_at x d b).present b) k.sizes;
    here = q.end_is;
    there = k.there;
  }

  new_use : IsUnused (e.histories s d) → has_come e s ≡ true → IsNew (view_of x e te) s d
  new_use u come = unused_new x e te s d (begun_now x e te n s d k.here.count come q.least q.most) u

  placed_use : HasPlaced (e.histories s d) → has_come e s ≡ true → IsNew (view_of x e te) s d
  placed_use u come = record {
    begun = begun_now x e te n s d k.here.count come q.least q.most;
    first = u.first;
    not_answered = ap (λ (z : Epoch). z.answered) (u.placed 0);
    sent = λ g. ap sent_of (u.placed g);
    taken = λ g. ap taken_of (u.placed g);
  }

  -- what the other end called is not later than the call that comes in
  past_known : (parts : CallParts) → CallKnown (e.histories s d) (y.histories s d) parts → (z : ChannelUse) → z.session ≡ s → z.channel ≡ d → IsSome (called_at (view_of (other_of x) y ty) z) → IsPast z (e.histories s d)
  past_known parts known z a c some =
      let there : IsSome ((y.histories s d).epochs z.restart z.use_ 0).called =
      ap (λ (i : ℕ). is_some ((y.histories s i).epochs z.restart z.use_ 0).called) (sym c) ∙ ap (λ (j : ℕ). is_some ((y.histories j z.channel).epochs z.restart z.use_ 0).called) (sym a) ∙ some in
      record {
        restarts = elim (order z.restart (e.histories s d).restart) [
          | inl le ↦ le
          | inr lt ↦ absurd (true≢false (sym there ∙ ap (λ (o : Option CallParts). is_some o) (known.last_restart z.restart z.use_ 0 lt)))
        ];
        uses = λ r. elim (order z.use_ (e.histories s d).use_) [
          | inl le ↦ le
          | inr lt ↦ absurd (true≢false (sym there ∙ ap (λ (i : ℕ). is_some ((y.histories s d).epochs i z.use_ 0).called) r ∙ ap (λ (o : Option CallParts). is_some o) (known.last_use z.use_ 0 lt)))
        ];
      }

  come_at : (parts : CallParts) → Arrival e y s d ty parts → IsNew (view_of x e te) s d → status_of x ch'.state ≡ FarCall → ((st : History) → SameHistory st (told st)) → ComeStep x e e' y s d te ty parts b
  come_at parts arrival new m' same =
      let known = facts.call s d parts q.least q.most arrival.arrives in
      record {
        on = q.on;
        far = q.found_after ∙ m';
        history = subst (λ (z : History). SameHistory (e.histories s d) z) (sym q.history) (same (e.histories s d));
        new = new;
        known = known.known 0;
        last = past_known parts known;
        order = arrival.order;
        least = q.least;
        most = let h = k.sizes.size x in let l = q.most in omega arith;
      }

  comes_after : (parts : CallParts) → came parts → ch.state ≡ Ready → status_of x ch'.state ≡ FarCall → ((st : History) → SameHistory st (told st)) → KeptAt n x e' y te ty (comes x d parts b) (cs ++ (slot_at (other_of x) d b).placed ∷ [])
  comes_after parts c ready m' same =
      let arrival = q.arrival parts c (inl ready) in
      let unused : IsUnused (e.histories s d) = subst (λ (z : ChannelState). InUse x z (e.histories s d)) ready use_now in
      let r = come_step x e e' y s d te ty parts b k.tags (come_at parts arrival (new_use unused arrival.come) m' same) (status_now ∙ ap (status_of x) ready) unused k.right in
      record { tags = r.0; callers = r.1 ∙ ap (λ (l : List (Option ℕ)). l ++ (slot_at (other_of x) d b).placed ∷ []) k.callers; right = r.2; sizes = sized n b (comes x d parts b) (comes_size x d parts b) k.sizes; here = q.end_is; there = k.there }

pub collides_after : (n : ℕ) (x : Role) (e e' y : End) (te ty : ℕ) (b : Book) (cs : List (Option ℕ)) (s d : ℕ) (ch ch' : Channel) (told : History → History) (came : CallParts → Type 0) → KeptAt n x e y te ty b cs → Facts n e y → ChannelStep n x e e' y s d ty ch ch' told came
    → (parts : CallParts) → came parts → x ≡ Dce → ch.state ≡ OwnWaiting → status_of x ch'.state ≡ FarCall → ((st : History) → SameHistory st (told st)) → KeptAt n x e' y te ty (comes x d parts (closes x d b)) (cs ++ (slot_at (other_of x) d (closes x d b)).placed ∷ [])
collides_after n Dte e e' y te ty b cs s d ch ch' told came k facts q parts c role own m' same = absurd (dte_not_dce role)
collides_after n Dce e e' y te ty b cs s d ch ch' told came k facts q parts c role own m' same =
    let arrival = q.arrival parts c (inr own) in
    let placed : HasPlaced (e.histories s d) = subst (λ (z : ChannelState). InUse Dce z (e.histories s d)) own (use_now n Dce e e' y te ty b cs s d ch ch' told came k facts q) in
    let r = collide_step e e' y s d te ty parts b k.tags
    (come_at n Dce e e' y te ty b cs s d ch ch' told came k facts q parts arrival (placed_use n Dce e e' y te ty b cs s d ch ch' told came k facts q placed arrival.come) m' same)
    (ap (status_at Dce) q.found ∙ ap (status_of Dce) own) k.right in
    record {
      tags = r.0;
      callers = r.1 ∙ ap (λ (l : List (Option ℕ)). l ++ (slot_at Dte d (closes Dce d b)).placed ∷ []) k.callers;
      right = r.2;
      sizes = sized n b (comes Dce d parts (closes Dce d b)) (size_trans b (closes Dce d b) (comes Dce d parts (closes Dce d b)) (closes_one Dce d b).size (comes_size Dce d parts (closes Dce d b))) k.sizes;
      here = q.end_is;
      there = k.there;
    }

-- the same book and callers
pub kept_as : (n : ℕ) (x : Role) (e y : End) (te ty : ℕ) (b b' : Book) (cs cs' : List (Option ℕ)) → b' ≡ b → cs' ≡ cs → KeptAt n x e y te ty b cs → KeptAt n x e y te ty b' cs'
kept_as n x e y te ty b b' cs cs' h j k =
    subst (λ (v : Book). KeptAt n x e y te ty v cs') (sym h) (subst (λ (l : List (Option ℕ)). KeptAt n x e y te ty b l) (sym j) k)

pub channel_step : (n : ℕ) (x : Role) (e e' y : End) (te ty : ℕ) (b : Book) (cs : List (Option ℕ)) (s d : ℕ) (ch ch' : Channel) (told : History → History) (write : Book → Book) (trace : Book → List (Option ℕ) → List (Option ℕ)) (came : CallParts → Type 0) → KeptAt n x e y te ty b cs → Facts n e y → ChannelStep n x e e' y s d ty ch ch' told came
    → Outcome x d ch ch' told write trace came → KeptAt n x e' y te ty (write b) (trace b cs)
channel_step n x e e' y te ty b cs s d ch ch' told write trace came k f q (stays m same h j) =
    kept_as n x e' y te ty _ (write b) _ (trace b cs) (h b) (j b cs) (stays_after n x e e' y te ty b cs s d ch ch' told came k f q m same)
channel_step n x e e' y te ty b cs s d ch ch' told write trace came k f q (ends m uses h j) =
    kept_as n x e' y te ty _ (write b) _ (trace b cs) (h b) (j b cs) (over_after n x e e' y te ty b cs s d ch ch' told came k f q (closes x d b) (closes_one x d b) (closed_else x d b) (closed_here x d b) m uses)
channel_step n x e e' y te ty b cs s d ch ch' told write trace came k f q (ends_none m m' uses h j) =
    kept_as n x e' y te ty _ (write b) _ (trace b cs) (h b) (j b cs) (over_after n x e e' y te ty b cs s d ch ch' told came k f q b (closes_none x b) (λ c l. refl) (idle_none n x e e' y te ty b cs s d ch ch' told came k f q m) m' uses)
channel_step n x e e' y te ty b cs s d ch ch' told write trace came k f q (goes change m m' grows rgrows h j) =
    kept_as n x e' y te ty _ (write b) _ (trace b cs) (h b) (j b cs) (changed_after n x e e' y te ty b cs s d ch ch' told came k f q change m m' grows rgrows)
channel_step n x e e' y te ty b cs s d ch ch' told write trace came k f q (connects m m' same h j) =
    kept_as n x e' y te ty _ (write b) _ (trace b cs) (h b) (j b cs) (connects_after n x e e' y te ty b cs s d ch ch' told came k f q m m' same)
channel_step n x e e' y te ty b cs s d ch ch' told write trace came k f q (accepts m m' history h j) =
    kept_as n x e' y te ty _ (write b) _ (trace b cs) (h b) (j b cs) (answers_after n x e e' y te ty b cs s d ch ch' told came k f q m m' history)
channel_step n x e e' y te ty b cs s d ch ch' told write trace came k f q (call_comes parts c ready m' same h j) =
    kept_as n x e' y te ty _ (write b) _ (trace b cs) (h b) (j b cs) (comes_after n x e e' y te ty b cs s d ch ch' told came k f q parts c ready m' same)
channel_step n x e e' y te ty b cs s d ch ch' told write trace came k f q (collides parts c role own m' same h j) =
    kept_as n x e' y te ty _ (write b) _ (trace b cs) (h b) (j b cs) (collides_after n x e e' y te ty b cs s d ch ch' told came k f q parts c role own m' same)
