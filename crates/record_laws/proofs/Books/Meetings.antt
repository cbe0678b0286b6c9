-- What a collision at the DCE and the acceptance of a call make of the book.
use Rattle.std.specs.Prelude.{◌≡◌, ◌≢◌, ℕ, ◌⊎◌, true, false, cond, ◌==◌, List, [], ◌∷◌, ◌++◌, length, map, set, is_some, Option, Some, None}
use Rattle.std.proofs.Common.{inl, inr, refl, sym, ap, subst, ◌∙◌, arith}
use Rattle.std.specs.Option.{IsSome}
use Rattle.std.proofs.lemmas.Option.{same_Some}
use Rattle.link_timers.specs.declared.role.Role.{Role}
use Rattle.link_timers.specs.declared.role.Role.TheVariants.{Dte, Dce}
use Rattle.data_transfer.specs.Packets.{CallParts}
use Rattle.packet_layer.specs.Layer.{channel_of}
use Rattle.packet_laws.specs.History.{Epoch, History, call_accepted, with_answer}
use Rattle.packet_laws.specs.LayerLine.{End}
use Rattle.call_records.specs.Records.{RecordValue, PairValue, new_record}
use Rattle.call_records.specs.Book.{Book, Slot, slot_at, with_record, answers, with_pair, comes, closes, address_of}
use Rattle.record_laws.proofs.Books.Basics.{map_set, number_is, eq_true, by_true, by_false, dte_not_dce}
use Rattle.std.proofs.lemmas.Bool.{ne_eqb}
use Rattle.record_laws.proofs.Books.Invariant.{CallStatus, ChannelUse, Tag, came_from, placed_of, BookParts, book_parts, Present, SlotIs, IsRight, epoch_at, called_at, answered_at, now, sent_of, taken_of, nothing_passed}
use Rattle.record_laws.proofs.Books.Invariant.CallStatus.{Idle, OwnCall, FarCall, Open}
use Rattle.record_laws.proofs.Books.Invariant.Kind.{Caller, Callee}
use Rattle.record_laws.proofs.Books.Calling.{coming_right, channel_use_is}
use Rattle.record_laws.proofs.Books.Cancelling.{Cancels, cancelled_right, cancelled_tag, with_statuses}
use Rattle.record_laws.proofs.Books.Answering.{AnswersAt, answered_right}
use Rattle.record_laws.proofs.Books.Writing.{book_parts_same, book_parts_pairs, slot_here, slot_else, size_record, size_slot, closes_one, closed_here, closed_else}
use Rattle.record_laws.proofs.Books.EndSteps.{status_at, view_of, views_of, OnChannel, at_else}
use Rattle.record_laws.proofs.Books.Histories.{in_use_cases, in_use_keeps}
use Rattle.record_laws.proofs.Books.Steps.{ComeStep, come_adds, come_epochs}

-- ---- a collision at the DCE

-- the statuses once the own call is cancelled
abbrev between : (e y : End) (d : ℕ) → Role → ℕ → CallStatus
between e y d Dte c = status_at Dte (channel_of y.layer c)
between e y d Dce c = cond (c == d) Idle (status_at Dce (channel_of e.layer c))

between_here : (e y : End) (d : ℕ) → between e y d Dce d ≡ Idle
between_here e y d = by_true (d == d) Idle (status_at Dce (channel_of e.layer d)) (eq_true d d refl)

between_else : (e y : End) (d c : ℕ) → c ≢ d → between e y d Dce c ≡ status_at Dce (channel_of e.layer c)
between_else e y d c h = by_false (c == d) Idle (status_at Dce (channel_of e.layer c)) (ne_eqb c d h)

abbrev Placed : History → Type 0
Placed st = (g : ℕ) → taken_of (st.epochs st.restart st.use_ g) ≡ nothing_passed

module _ (e e' y : End) (s d te ty : ℕ) (parts : CallParts) (b : Book) (tags : List Tag) (q : ComeStep Dce e e' y s d te ty parts b) (own : status_at Dce (channel_of e.layer d) ≡ OwnCall)
    (w : IsRight (views_of Dce e y te ty) (book_parts b) tags) where
  mine : (p : Present (view_of Dce e te) tags Dce d (slot_at Dce d b)) × (p.tag.kind ≡ Caller) × ((slot_at Dce d b).caller ≡ None)
  mine = subst (λ (m : CallStatus). SlotIs m (view_of Dce e te) tags Dce d (slot_at Dce d b)) own (w.slot Dce d)

  its_session : mine.0.session ≡ s
  its_session = same_Some mine.0.session s (sym mine.0.up ∙ q.on.up)

  statuses_else : (z : Role) (c : ℕ) → ((z ≡ Dce) × (c ≡ d) → ⊥) → between e y d z c ≡ (views_of Dce e y te ty z).status c
  statuses_else Dte c h = refl
  statuses_else Dce c h = between_else e y d c (λ k. h (refl, k))

  slots_else : (z : Role) (c : ℕ) → ((z ≡ Dce) × (c ≡ d) → ⊥) → slot_at z c (closes Dce d b) ≡ slot_at z c b
  slots_else Dte c h = (closes_one Dce d b).there c
  slots_else Dce c h = closed_else Dce d b c (λ k. h (refl, k))

  cancels : Cancels Dce d (views_of Dce e y te ty) (between e y d) (book_parts b) (book_parts (closes Dce d b)).slots (closes Dce d b).records tags
  cancels = record {
    role = refl;
    own = mine.0;
    kind = mine.1;
    met = subst (λ (n : ℕ). IsSome (called_at (view_of Dte y ty) (now (view_of Dce e te) n d))) (sym its_session) (ap (λ (o : Option CallParts). is_some o) q.known);
    nothing_sent = λ g. subst (λ (n : ℕ). sent_of (epoch_at (view_of Dce e te) (now (view_of Dce e te) n d) g) ≡ nothing_passed) (sym its_session) (q.new.sent g);
    nothing_taken = λ g. subst (λ (n : ℕ). taken_of (epoch_at (view_of Dce e te) (now (view_of Dce e te) n d) g) ≡ nothing_passed) (sym its_session) (q.new.taken g);
    idle = between_here e y d;
    status_else = statuses_else;
    free = closed_here Dce d b;
    placed = (closes_one Dce d b).placed d;
    slots_else = slots_else;
    opened = (closes_one Dce d b).opened;
    count = (closes_one Dce d b).count;
    kept = (closes_one Dce d b).kept;
  }

  abbrev Between : Type 0
  Between = (tags' : List Tag) × (map came_from tags' ≡ map came_from tags) × IsRight (with_statuses (between e y d) (views_of Dce e y te ty)) (book_parts (closes Dce d b)) tags'

  meets : Between
  meets = (
    set tags cancels.own.number (cancelled_tag cancels.own.tag),
    map_set came_from tags cancels.own.number cancels.own.tag (cancelled_tag cancels.own.tag) cancels.own.there (sym (ap placed_of cancels.kind)),
    subst (λ (v : BookParts). IsRight (with_statuses (between e y d) (views_of Dce e y te ty)) v (set tags cancels.own.number (cancelled_tag cancels.own.tag))) (book_parts_same b (closes Dce d b) (closes_one Dce d b).pairs (closes_one Dce d b).size.node)
        (cancelled_right Dce d (views_of Dce e y te ty) (between e y d) (book_parts b) (book_parts (closes Dce d b)).slots (closes Dce d b).records tags w cancels),
  )

  pub collide_step : (tags' : List Tag) × (map came_from tags' ≡ map came_from tags ++ (slot_at Dte d (closes Dce d b)).placed ∷ []) × IsRight (views_of Dce e' y te ty) (book_parts (comes Dce d parts (closes Dce d b))) tags'
  collide_step =
      let m = meets in
      let b1 : Book = closes Dce d b in
      let b' : Book = comes Dce d parts b1 in
      let r0 : RecordValue = new_record (length b1.records) b1.dce.node (address_of parts.called) (address_of parts.calling) (slot_at Dte d b1).placed in
      let v : Book = with_record r0 b1 in
      let z : Slot = record { present = Some (length b1.records); placed = (slot_at Dce d b1).placed; caller = (slot_at Dte d b1).placed } in
      let r = coming_right Dce s d parts (with_statuses (between e y d) (views_of Dce e y te ty)) (views_of Dce e' y te ty) (book_parts b1) (book_parts b').slots m.0 m.2 (record {
        there = refl;
        here = come_adds Dce e e' y s d te ty parts b q (between e y d Dce) (between_here e y d) (between_else e y d);
        new = record { begun = q.new.begun; first = q.new.first; not_answered = q.new.not_answered; sent = q.new.sent; taken = q.new.taken };
        known = q.known;
        last = q.last;
        order = q.order;
        free = λ k. absurd (dte_not_dce (sym k));
        called = λ k. ap (λ (n : Epoch). n.called) (come_epochs Dce e e' y s d te ty parts b q k 0);
        status = q.far;
        slot = slot_here Dce d z v q.least (let h = (closes_one Dce d b).size.size Dce in let l = q.most in omega arith);
        slots_else = λ c h. slot_else Dce d c z v h;
        slots_there = λ c. refl;
      }) in
      (r.0, r.1 ∙ ap (λ (l : List (Option ℕ)). l ++ (slot_at Dte d b1).placed ∷ []) m.1, subst (λ (sh : BookParts). IsRight (views_of Dce e' y te ty) sh r.0) (book_parts_same b1 b' refl (λ k. (size_slot Dce d z v).node k ∙ (size_record r0 b1).node k)) r.2)

-- ---- an end accepts a call

pub record AnswerStep (x : Role) (e e' y : End) (s d te ty : ℕ) (b : Book) : Type 0 where
  pub on : OnChannel x e e' s d
  pub far : status_at x (channel_of e.layer d) ≡ FarCall
  pub opens : status_at x (channel_of e'.layer d) ≡ Open
  pub history : e'.histories s d ≡ call_accepted (e.histories s d)
  pub not_before : answered_at (view_of x e te) (now (view_of x e te) s d) ≡ false

module _ (x : Role) (e e' y : End) (s d te ty : ℕ) (b : Book) (q : AnswerStep x e e' y s d te ty b) where
  answer_keeps : {X : Type 0} (see : Epoch → X) → ((z : Epoch) → see (with_answer z) ≡ see z) → (k : ChannelUse) (g : ℕ) → see (epoch_at (view_of x e' te) k g) ≡ see (epoch_at (view_of x e te) k g)
  answer_keeps {X} see h k g = at_else x e e' s d (λ (a c : History). see (c.epochs k.restart k.use_ g) ≡ see (a.epochs k.restart k.use_ g)) q.on (λ a. refl)
      (ap (λ (z : History). see (z.epochs k.restart k.use_ g)) q.history ∙ in_use_keeps see (λ z. with_answer z) (e.histories s d) h k.restart k.use_ g) k.session k.channel

  answered : (k : ChannelUse) → (answered_at (view_of x e' te) k ≡ answered_at (view_of x e te) k) ⊎ (k ≡ now (view_of x e te) s d)
  answered k =
      elim (number_is k.session s) [
        | inl a ↦ elim (number_is k.channel d) [
          | inl c ↦ elim (in_use_cases (λ z. with_answer z) (e.histories s d) k.restart k.use_) [
            | inl h ↦ inr (channel_use_is k (now (view_of x e te) s d) a c h.0.0 h.0.1)
            | inr h ↦ inl (ap (λ (m : ℕ). ((e'.histories m k.channel).epochs k.restart k.use_ 0).answered) a ∙ ap (λ (n : ℕ). ((e'.histories s n).epochs k.restart k.use_ 0).answered) c
                ∙ ap (λ (z : History). (z.epochs k.restart k.use_ 0).answered) q.history ∙ ap (λ (z : Epoch). z.answered) (h.1 0)
                ∙ ap (λ (n : ℕ). ((e.histories s n).epochs k.restart k.use_ 0).answered) (sym c) ∙ ap (λ (m : ℕ). ((e.histories m k.channel).epochs k.restart k.use_ 0).answered) (sym a))
          ]
          | inr c ↦ inl (ap (λ (z : History). (z.epochs k.restart k.use_ 0).answered) (q.on.else k.session k.channel (λ h. c h.1)))
        ]
        | inr a ↦ inl (ap (λ (z : History). (z.epochs k.restart k.use_ 0).answered) (q.on.else k.session k.channel (λ h. a h.0)))
      ]

  since : answered_at (view_of x e' te) (now (view_of x e te) s d) ≡ true
  since =
      ap (λ (z : History). (z.epochs (e.histories s d).restart (e.histories s d).use_ 0).answered) q.history
      ∙ elim (in_use_cases (λ z. with_answer z) (e.histories s d) (e.histories s d).restart (e.histories s d).use_) [
        | inl h ↦ ap (λ (z : Epoch). z.answered) (h.1 0)
        | inr h ↦ absurd (h.0 (refl, refl))
      ]

  answers_at : AnswersAt (view_of x e te) (view_of x e' te) s d
  answers_at = record {
    same = record {
      session = q.on.session;
      top = refl;
      begun = q.on.begun;
      restart = at_else x e e' s d (λ (a c : History). c.restart ≡ a.restart) q.on (λ a. refl) (ap (λ (z : History). z.restart) q.history);
      uses = at_else x e e' s d (λ (a c : History). c.use_ ≡ a.use_) q.on (λ a. refl) (ap (λ (z : History). z.use_) q.history);
    };
    epoch = at_else x e e' s d (λ (a c : History). c.epoch ≡ a.epoch) q.on (λ a. refl) (ap (λ (z : History). z.epoch) q.history);
    status = q.on.status;
    was = q.far;
    opens = q.opens;
    called = λ k. answer_keeps (λ z. z.called) (λ z. refl) k 0;
    answered = answered;
    not_before = q.not_before;
    since = since;
    sent = λ k g. answer_keeps sent_of (λ z. refl) k g;
    taken = λ k g. answer_keeps taken_of (λ z. refl) k g;
  }

  abbrev Far : List Tag → Type 0
  Far tags = (p : Present (view_of x e te) tags x d (slot_at x d b)) × (a : ℕ) × (p.tag.kind ≡ Callee a) × ((slot_at x d b).caller ≡ Some a)

  far_here : (tags : List Tag) → SlotIs (status_at x (channel_of e.layer d)) (view_of x e te) tags x d (slot_at x d b) → Far tags
  far_here tags w = subst (λ (m : CallStatus). SlotIs m (view_of x e te) tags x d (slot_at x d b)) q.far w

  answer_now : (tags : List Tag) (m : Far tags) → AnswersAt (view_of x e te) (view_of x e' te) m.0.session d
  answer_now tags m = subst (λ (n : ℕ). AnswersAt (view_of x e te) (view_of x e' te) n d) (sym (same_Some m.0.session s (sym m.0.up ∙ q.on.up))) answers_at

  -- the pair that is written
  pair_is : (tags : List Tag) (m : Far tags) → record b { pairs = b.pairs ++ record { caller = m.1; callee = m.0.number } ∷ [] } ≡ answers x d b
  pair_is tags m = sym (ap (λ (o : Option ℕ). with_pair o (slot_at x d b).present b) m.3 ∙ ap (λ (o : Option ℕ). with_pair (Some m.1) o b) m.0.is_present)

pub answer_step : (x : Role) (e e' y : End) (s d te ty : ℕ) (b : Book) (tags : List Tag) → AnswerStep x e e' y s d te ty b → IsRight (views_of x e y te ty) (book_parts b) tags → IsRight (views_of x e' y te ty) (book_parts (answers x d b)) tags
answer_step Dte e e' y s d te ty b tags q w =
    let m = far_here Dte e e' y s d te ty b q tags (w.slot Dte d) in
    let ps : List PairValue = b.pairs ++ record { caller = m.1; callee = m.0.number } ∷ [] in
    subst (λ (v : Book). IsRight (views_of Dte e' y te ty) (book_parts v) tags) (pair_is Dte e e' y s d te ty b q tags m)
    (subst (λ (v : BookParts). IsRight (views_of Dte e' y te ty) v tags) (book_parts_pairs b ps)
    (answered_right Dte d (views_of Dte e y te ty) (views_of Dte e' y te ty) (book_parts b) tags m.1 m.0.number w
    (record { there = refl; own = m.0; kind = m.2; caller = m.3; number = refl; here = answer_now Dte e e' y s d te ty b q tags m })))
answer_step Dce e e' y s d te ty b tags q w =
    let m = far_here Dce e e' y s d te ty b q tags (w.slot Dce d) in
    let ps : List PairValue = b.pairs ++ record { caller = m.1; callee = m.0.number } ∷ [] in
    subst (λ (v : Book). IsRight (views_of Dce e' y te ty) (book_parts v) tags) (pair_is Dce e e' y s d te ty b q tags m)
    (subst (λ (v : BookParts). IsRight (views_of Dce e' y te ty) v tags) (book_parts_pairs b ps)
    (answered_right Dce d (views_of Dce e y te ty) (views_of Dce e' y te ty) (book_parts b) tags m.1 m.0.number w
    (record { there = refl; own = m.0; kind = m.2; caller = m.3; number = refl; here = answer_now Dce e e' y s d te ty b q tags m })))
