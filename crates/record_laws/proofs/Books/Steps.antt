-- What the beginning and the acceptance of a call at an end of a line make of the book.
use Rattle.std.specs.Prelude.{◌≡◌, ◌≢◌, ℕ, ◌≤◌, ◌⊎◌, true, false, List, [], ◌∷◌, ◌++◌, length, map, is_some, Some, None}
use Rattle.std.proofs.Common.{inl, inr, refl, sym, ap, subst, ◌∙◌, true≢false}
use Rattle.std.specs.Option.{IsSome}
use Rattle.link_timers.specs.declared.role.Role.{Role}
use Rattle.link_timers.specs.declared.role.Role.TheVariants.{Dte, Dce}
use Rattle.link_timers.specs.Role.{other_of}
use Rattle.data_transfer.specs.Packets.{CallParts}
use Rattle.packet_layer.specs.Layer.{channel_of}
use Rattle.packet_laws.specs.History.{Epoch, History, placed, with_call}
use Rattle.packet_laws.specs.LayerLineLaw.{IsBegun, IsUnused}
use Rattle.packet_laws.specs.LayerLine.{End}
use Rattle.call_records.specs.Records.{RecordValue, new_record}
use Rattle.call_records.specs.Book.{Book, Slot, slot_at, side_of, with_slot, with_record, places_from, comes, address_of, calling_from}
use Rattle.record_laws.proofs.Books.Basics.{number_is, order}
use Rattle.record_laws.proofs.Books.Invariant.{CallStatus, ChannelUse, Tag, came_from, BookParts, book_parts, IsPast, IsRight, epoch_at, called_at, answered_at, now, sent_of, taken_of}
use Rattle.record_laws.proofs.Books.Invariant.CallStatus.{Idle, OwnCall, FarCall}
use Rattle.record_laws.proofs.Books.Adding.{Adds}
use Rattle.record_laws.proofs.Books.Calling.{IsNew, placing_right, coming_right, channel_use_is}
use Rattle.record_laws.proofs.Books.Writing.{book_parts_same, slot_here, slot_else, size_record, size_slot}
use Rattle.record_laws.proofs.Books.EndSteps.{status_at, view_of, views_of, OnChannel, at_else}
use Rattle.record_laws.proofs.Books.Histories.{in_use_cases, in_use_keeps}

-- ---- a use that nothing was done in

pub unused_new : (x : Role) (e : End) (te s d : ℕ) → (view_of x e te).begun (now (view_of x e te) s d) ≡ true → IsUnused (e.histories s d) → IsNew (view_of x e te) s d
unused_new x e te s d begun u = record {
  begun = begun;
  first = u.first;
  not_answered = ap (λ (z : Epoch). z.answered) (u.empty 0);
  sent = λ g. ap sent_of (u.empty g);
  taken = λ g. ap taken_of (u.empty g);
}

-- what is called in a history that is begun is not later than its present use
pub past_of : (s d : ℕ) (st : History) → IsBegun st → (r u : ℕ) → IsSome (st.epochs r u 0).called → (r ≤ st.restart) × (r ≡ st.restart → u ≤ st.use_)
past_of s d st h r u some = (
  elim (order r st.restart) [
    | inl le ↦ le
    | inr lt ↦ absurd (true≢false (sym some ∙ ap (λ (z : Epoch). is_some z.called) (h.restarts r u 0 lt)))
  ],
  λ e. elim (order u st.use_) [
    | inl le ↦ le
    | inr lt ↦ absurd (true≢false (sym some ∙ ap (λ (n : ℕ). is_some (st.epochs n u 0).called) e ∙ ap (λ (z : Epoch). is_some z.called) (h.uses u 0 lt)))
  ],
)

-- ---- an end places a call

pub record PlaceStep (x : Role) (e e' y : End) (s d te ty : ℕ) (parts : CallParts) (b : Book) : Type 0 where
  pub on : OnChannel x e e' s d
  pub idle : status_at x (channel_of e.layer d) ≡ Idle
  pub own : status_at x (channel_of e'.layer d) ≡ OwnCall
  pub history : e'.histories s d ≡ placed parts (e.histories s d)
  pub unused : IsUnused (e.histories s d)
  pub begun_history : IsBegun (e.histories s d)
  pub begun : (view_of x e te).begun (now (view_of x e te) s d) ≡ true
  pub no_address : (side_of x b).address ≡ []
  pub not_answered : answered_at (view_of (other_of x) y ty) (now (view_of x e te) s d) ≡ false
  pub least : 1 ≤ d
  pub most : d ≤ length (side_of x b).slots

module _ (x : Role) (e e' y : End) (s d te ty : ℕ) (parts : CallParts) (b : Book) (q : PlaceStep x e e' y s d te ty parts b) where
  keeps : {X : Type 0} (see : Epoch → X) → ((z : Epoch) → see (with_call parts z) ≡ see z) → (k : ChannelUse) (g : ℕ) → see (epoch_at (view_of x e' te) k g) ≡ see (epoch_at (view_of x e te) k g)
  keeps {X} see h k g = at_else x e e' s d (λ (a c : History). see (c.epochs k.restart k.use_ g) ≡ see (a.epochs k.restart k.use_ g)) q.on (λ a. refl)
      (ap (λ (z : History). see (z.epochs k.restart k.use_ g)) q.history ∙ in_use_keeps see (λ z. with_call parts z) (e.histories s d) h k.restart k.use_ g) k.session k.channel

  called : (k : ChannelUse) → (called_at (view_of x e' te) k ≡ called_at (view_of x e te) k) ⊎ ((k ≡ now (view_of x e te) s d) × IsSome (called_at (view_of x e' te) k))
  called k =
      elim (number_is k.session s) [
        | inl a ↦ elim (number_is k.channel d) [
          | inl c ↦ elim (in_use_cases (λ z. with_call parts z) (e.histories s d) k.restart k.use_) [
            | inl h ↦ inr (
              channel_use_is k (now (view_of x e te) s d) a c h.0.0 h.0.1,
              ap (λ (m : ℕ). is_some ((e'.histories m k.channel).epochs k.restart k.use_ 0).called) a ∙ ap (λ (n : ℕ). is_some ((e'.histories s n).epochs k.restart k.use_ 0).called) c
                  ∙ ap (λ (z : History). is_some (z.epochs k.restart k.use_ 0).called) q.history ∙ ap (λ (z : Epoch). is_some z.called) (h.1 0),
            )
            | inr h ↦ inl (ap (λ (m : ℕ). ((e'.histories m k.channel).epochs k.restart k.use_ 0).called) a ∙ ap (λ (n : ℕ). ((e'.histories s n).epochs k.restart k.use_ 0).called) c
                ∙ ap (λ (z : History). (z.epochs k.restart k.use_ 0).called) q.history ∙ ap (λ (z : Epoch). z.called) (h.1 0)
                ∙ ap (λ (n : ℕ). ((e.histories s n).epochs k.restart k.use_ 0).called) (sym c) ∙ ap (λ (m : ℕ). ((e.histories m k.channel).epochs k.restart k.use_ 0).called) (sym a))
          ]
          | inr c ↦ inl (ap (λ (z : History). (z.epochs k.restart k.use_ 0).called) (q.on.else k.session k.channel (λ h. c h.1)))
        ]
        | inr a ↦ inl (ap (λ (z : History). (z.epochs k.restart k.use_ 0).called) (q.on.else k.session k.channel (λ h. a h.0)))
      ]

  place_adds : Adds (view_of x e te) (view_of x e' te) s d
  place_adds = record {
    session = q.on.session;
    up = q.on.up;
    top = refl;
    begun = q.on.begun;
    restart = at_else x e e' s d (λ (a c : History). c.restart ≡ a.restart) q.on (λ a. refl) (ap (λ (z : History). z.restart) q.history);
    uses = at_else x e e' s d (λ (a c : History). c.use_ ≡ a.use_) q.on (λ a. refl) (ap (λ (z : History). z.use_) q.history);
    epoch = at_else x e e' s d (λ (a c : History). c.epoch ≡ a.epoch) q.on (λ a. refl) (ap (λ (z : History). z.epoch) q.history);
    idle = q.idle;
    status = q.on.status;
    called = called;
    answered = λ k. keeps (λ z. z.answered) (λ z. refl) k 0;
    sent = λ k g. keeps sent_of (λ z. refl) k g;
    taken = λ k g. keeps taken_of (λ z. refl) k g;
  }

  now_called : called_at (view_of x e' te) (now (view_of x e te) s d) ≡ Some parts
  now_called =
      ap (λ (z : History). (z.epochs (e.histories s d).restart (e.histories s d).use_ 0).called) q.history
      ∙ elim (in_use_cases (λ z. with_call parts z) (e.histories s d) (e.histories s d).restart (e.histories s d).use_) [
        | inl h ↦ ap (λ (z : Epoch). z.called) (h.1 0)
        | inr h ↦ absurd (h.0 (refl, refl))
      ]

  earlier : (k : ChannelUse) → k.session ≡ s → k.channel ≡ d → IsSome (called_at (view_of x e te) k) → IsPast k (e.histories s d)
  earlier k a c some =
      let h = past_of s d (e.histories s d) q.begun_history k.restart k.use_
      (ap (λ (n : ℕ). is_some ((e.histories s n).epochs k.restart k.use_ 0).called) (sym c) ∙ ap (λ (m : ℕ). is_some ((e.histories m k.channel).epochs k.restart k.use_ 0).called) (sym a) ∙ some) in
      record { restarts = h.0; uses = h.1 }

-- on a line without an address the end gives its own one, if any
placed_book : (x : Role) (d : ℕ) (parts : CallParts) (b : Book) → (side_of x b).address ≡ []
    → with_slot x d (record { present = Some (length b.records); placed = Some (length b.records); caller = None })
    (with_record (new_record (length b.records) (side_of x b).node (address_of parts.calling) (address_of parts.called) None) b)
    ≡ places_from x d parts.calling parts.called b
placed_book x d parts b none =
    ap (λ (a : List ℕ). with_slot x d (record { present = Some (length b.records); placed = Some (length b.records); caller = None })
    (with_record (new_record (length b.records) (side_of x b).node (address_of (calling_from a parts.calling)) (address_of parts.called) None) b)) (sym none)

pub place_step : (x : Role) (e e' y : End) (s d te ty : ℕ) (parts : CallParts) (b : Book) (tags : List Tag) → PlaceStep x e e' y s d te ty parts b → IsRight (views_of x e y te ty) (book_parts b) tags
    → (tags' : List Tag) × (map came_from tags' ≡ map came_from tags ++ None ∷ []) × IsRight (views_of x e' y te ty) (book_parts (places_from x d parts.calling parts.called b)) tags'
place_step Dte e e' y s d te ty parts b tags q w =
    let r0 : RecordValue = new_record (length b.records) b.dte.node (address_of parts.calling) (address_of parts.called) None in
    let v : Book = with_record r0 b in
    let z : Slot = record { present = Some (length b.records); placed = Some (length b.records); caller = None } in
    let b' : Book = with_slot Dte d z v in
    let r = placing_right Dte s d parts (views_of Dte e y te ty) (views_of Dte e' y te ty) (book_parts b) (book_parts b').slots tags w (record {
      there = refl;
      here = place_adds Dte e e' y s d te ty parts b q;
      new = unused_new Dte e te s d q.begun q.unused;
      called = now_called Dte e e' y s d te ty parts b q;
      not_answered = q.not_answered;
      earlier = earlier Dte e e' y s d te ty parts b q;
      status = q.own;
      slot = slot_here Dte d z v q.least q.most;
      slots_else = λ c h. slot_else Dte d c z v h;
      slots_there = λ c. refl;
    }) in (
      r.0,
      r.1,
      subst (λ (u : Book). IsRight (views_of Dte e' y te ty) (book_parts u) r.0) (placed_book Dte d parts b q.no_address)
          (subst (λ (sh : BookParts). IsRight (views_of Dte e' y te ty) sh r.0) (book_parts_same b b' refl (λ k. (size_slot Dte d z v).node k ∙ (size_record r0 b).node k)) r.2),
    )
place_step Dce e e' y s d te ty parts b tags q w =
    let r0 : RecordValue = new_record (length b.records) b.dce.node (address_of parts.calling) (address_of parts.called) None in
    let v : Book = with_record r0 b in
    let z : Slot = record { present = Some (length b.records); placed = Some (length b.records); caller = None } in
    let b' : Book = with_slot Dce d z v in
    let r = placing_right Dce s d parts (views_of Dce e y te ty) (views_of Dce e' y te ty) (book_parts b) (book_parts b').slots tags w (record {
      there = refl;
      here = place_adds Dce e e' y s d te ty parts b q;
      new = unused_new Dce e te s d q.begun q.unused;
      called = now_called Dce e e' y s d te ty parts b q;
      not_answered = q.not_answered;
      earlier = earlier Dce e e' y s d te ty parts b q;
      status = q.own;
      slot = slot_here Dce d z v q.least q.most;
      slots_else = λ c h. slot_else Dce d c z v h;
      slots_there = λ c. refl;
    }) in (
      r.0,
      r.1,
      subst (λ (u : Book). IsRight (views_of Dce e' y te ty) (book_parts u) r.0) (placed_book Dce d parts b q.no_address)
          (subst (λ (sh : BookParts). IsRight (views_of Dce e' y te ty) sh r.0) (book_parts_same b b' refl (λ k. (size_slot Dce d z v).node k ∙ (size_record r0 b).node k)) r.2),
    )

-- ---- a call comes in at an end

-- a history of which the same is told
pub record SameHistory (st st' : History) : Type 0 where
  pub restart : st'.restart ≡ st.restart
  pub uses : st'.use_ ≡ st.use_
  pub epoch : st'.epoch ≡ st.epoch
  pub epochs : (r u g : ℕ) → st'.epochs r u g ≡ st.epochs r u g

pub history_refl : (st : History) → SameHistory st st
history_refl st = record { restart = refl; uses = refl; epoch = refl; epochs = λ r u g. refl }

pub record ComeStep (x : Role) (e e' y : End) (s d te ty : ℕ) (parts : CallParts) (b : Book) : Type 0 where
  pub on : OnChannel x e e' s d
  pub far : status_at x (channel_of e'.layer d) ≡ FarCall
  pub history : SameHistory (e.histories s d) (e'.histories s d)
  pub new : IsNew (view_of x e te) s d
  pub known : called_at (view_of (other_of x) y ty) (now (view_of x e te) s d) ≡ Some parts
  pub last : (k : ChannelUse) → k.session ≡ s → k.channel ≡ d → IsSome (called_at (view_of (other_of x) y ty) k) → IsPast k (e.histories s d)
  pub order : ty ≤ s
  pub least : 1 ≤ d
  pub most : d ≤ length (side_of x b).slots

module _ (x : Role) (e e' y : End) (s d te ty : ℕ) (parts : CallParts) (b : Book) (q : ComeStep x e e' y s d te ty parts b) where
  pub come_epochs : (k : ChannelUse) (g : ℕ) → epoch_at (view_of x e' te) k g ≡ epoch_at (view_of x e te) k g
  come_epochs k g = at_else x e e' s d (λ (a c : History). c.epochs k.restart k.use_ g ≡ a.epochs k.restart k.use_ g) q.on (λ a. refl) (q.history.epochs k.restart k.use_ g) k.session k.channel

  pub come_adds : (status : ℕ → CallStatus) → status d ≡ Idle → ((c : ℕ) → c ≢ d → status c ≡ status_at x (channel_of e.layer c)) → Adds (record (view_of x e te) { status = status }) (view_of x e' te) s d
  come_adds status idle same = record {
    session = q.on.session;
    up = q.on.up;
    top = refl;
    begun = q.on.begun;
    restart = at_else x e e' s d (λ (a c : History). c.restart ≡ a.restart) q.on (λ a. refl) q.history.restart;
    uses = at_else x e e' s d (λ (a c : History). c.use_ ≡ a.use_) q.on (λ a. refl) q.history.uses;
    epoch = at_else x e e' s d (λ (a c : History). c.epoch ≡ a.epoch) q.on (λ a. refl) q.history.epoch;
    idle = idle;
    status = λ c h. q.on.status c h ∙ sym (same c h);
    called = λ k. inl (ap (λ (z : Epoch). z.called) (come_epochs k 0));
    answered = λ k. ap (λ (z : Epoch). z.answered) (come_epochs k 0);
    sent = λ k g. ap sent_of (come_epochs k g);
    taken = λ k g. ap taken_of (come_epochs k g);
  }

pub come_step : (x : Role) (e e' y : End) (s d te ty : ℕ) (parts : CallParts) (b : Book) (tags : List Tag) → ComeStep x e e' y s d te ty parts b → status_at x (channel_of e.layer d) ≡ Idle → IsUnused (e.histories s d)
    → IsRight (views_of x e y te ty) (book_parts b) tags → (tags' : List Tag) × (map came_from tags' ≡ map came_from tags ++ (slot_at (other_of x) d b).placed ∷ []) × IsRight (views_of x e' y te ty) (book_parts (comes x d parts b)) tags'
come_step Dte e e' y s d te ty parts b tags q idle unused w =
    let b' : Book = comes Dte d parts b in
    let r0 : RecordValue = new_record (length b.records) b.dte.node (address_of parts.called) (address_of parts.calling) (slot_at Dce d b).placed in
    let v : Book = with_record r0 b in
    let z : Slot = record { present = Some (length b.records); placed = (slot_at Dte d b).placed; caller = (slot_at Dce d b).placed } in
    let r = coming_right Dte s d parts (views_of Dte e y te ty) (views_of Dte e' y te ty) (book_parts b) (book_parts b').slots tags w (record {
      there = refl;
      here = come_adds Dte e e' y s d te ty parts b q (λ c. status_at Dte (channel_of e.layer c)) idle (λ c h. refl);
      new = q.new;
      known = q.known;
      last = q.last;
      order = q.order;
      free = λ k. ap (λ (n : Epoch). n.called) (unused.empty 0);
      called = λ k. ap (λ (n : Epoch). n.called) (come_epochs Dte e e' y s d te ty parts b q k 0);
      status = q.far;
      slot = slot_here Dte d z v q.least q.most;
      slots_else = λ c h. slot_else Dte d c z v h;
      slots_there = λ c. refl;
    }) in
    (r.0, r.1, subst (λ (sh : BookParts). IsRight (views_of Dte e' y te ty) sh r.0) (book_parts_same b b' refl (λ k. (size_slot Dte d z v).node k ∙ (size_record r0 b).node k)) r.2)
come_step Dce e e' y s d te ty parts b tags q idle unused w =
    let b' : Book = comes Dce d parts b in
    let r0 : RecordValue = new_record (length b.records) b.dce.node (address_of parts.called) (address_of parts.calling) (slot_at Dte d b).placed in
    let v : Book = with_record r0 b in
    let z : Slot = record { present = Some (length b.records); placed = (slot_at Dce d b).placed; caller = (slot_at Dte d b).placed } in
    let r = coming_right Dce s d parts (views_of Dce e y te ty) (views_of Dce e' y te ty) (book_parts b) (book_parts b').slots tags w (record {
      there = refl;
      here = come_adds Dce e e' y s d te ty parts b q (λ c. status_at Dce (channel_of e.layer c)) idle (λ c h. refl);
      new = q.new;
      known = q.known;
      last = q.last;
      order = q.order;
      free = λ k. ap (λ (n : Epoch). n.called) (unused.empty 0);
      called = λ k. ap (λ (n : Epoch). n.called) (come_epochs Dce e e' y s d te ty parts b q k 0);
      status = q.far;
      slot = slot_here Dce d z v q.least q.most;
      slots_else = λ c h. slot_else Dce d c z v h;
      slots_there = λ c. refl;
    }) in
    (r.0, r.1, subst (λ (sh : BookParts). IsRight (views_of Dce e' y te ty) sh r.0) (book_parts_same b b' refl (λ k. (size_slot Dce d z v).node k ∙ (size_record r0 b).node k)) r.2)
