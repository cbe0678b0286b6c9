-- An end accepts the call that came in: its record and that of the caller are a pair, and all else of the book stays right.
use Rattle.std.specs.Prelude.{◌≡◌, ◌≢◌, ℕ, ◌⊎◌, true, false, List, [], ◌∷◌, ◌++◌, length, slice_get, Option, Some}
use Rattle.std.proofs.Common.{inl, inr, refl, sym, ap, subst, ◌∙◌, arith, true≢false}
use Rattle.link_timers.specs.declared.role.Role.{Role}
use Rattle.link_timers.specs.Role.{other_of}
use Rattle.data_transfer.specs.Packets.{CallParts}
use Rattle.std.specs.Option.{IsSome}
use Rattle.call_records.specs.Records.{RecordValue, PairValue}
use Rattle.record_laws.proofs.Books.Basics.{role_is, number_is, twice, get_before, get_pushed, get_last}
use Rattle.std.proofs.lemmas.Option.{none-some, same_Some}
use Rattle.record_laws.proofs.Books.Invariant.{EndView, CallStatus, ChannelUse, Tag, BookParts, IsLive, Stands, Means, Fits, HasEpochs, Present, SlotIs, IsPair, IsPaired, CameIn, IsRight, caller_of, callee_of, epoch_at, called_at, answered_at, now, sent_of, taken_of, sent_as, taken_as}
use Rattle.record_laws.proofs.Books.Invariant.CallStatus.{FarCall, Open}
use Rattle.record_laws.proofs.Books.Invariant.Kind.{Caller, Callee}
use Rattle.record_laws.proofs.Books.Carrying.{SameEnd, same_end, stands_same, slot_same, present_same, placed_same, now_same, is_present, same_tag}
use Rattle.record_laws.proofs.Books.Cancelling.{caller_not_callee, caller_not_cancelled, callee_not_cancelled}

pub record AnswersAt (f f' : EndView) (s c : ℕ) : Type 0 where
  pub same : SameEnd f f'
  pub epoch : (k d : ℕ) → (f'.histories k d).epoch ≡ (f.histories k d).epoch
  pub status : (d : ℕ) → d ≢ c → f'.status d ≡ f.status d
  pub was : f.status c ≡ FarCall
  pub opens : f'.status c ≡ Open
  pub called : (k : ChannelUse) → called_at f' k ≡ called_at f k
  pub answered : (k : ChannelUse) → (answered_at f' k ≡ answered_at f k) ⊎ (k ≡ now f s c)
  pub not_before : answered_at f (now f s c) ≡ false
  pub since : answered_at f' (now f s c) ≡ true
  pub sent : (k : ChannelUse) (g : ℕ) → sent_of (epoch_at f' k g) ≡ sent_of (epoch_at f k g)
  pub taken : (k : ChannelUse) (g : ℕ) → taken_of (epoch_at f' k g) ≡ taken_of (epoch_at f k g)

pub record Answers (x : Role) (c : ℕ) (views views' : Role → EndView) (b : BookParts) (tags : List Tag) (a n : ℕ) : Type 0 where
  pub there : views' (other_of x) ≡ views (other_of x)
  pub own : Present (views x) tags x c (b.slots x c)
  pub kind : own.tag.kind ≡ Callee a
  pub caller : (b.slots x c).caller ≡ Some a
  pub number : own.number ≡ n
  pub here : AnswersAt (views x) (views' x) own.session c

module _ (x : Role) (c : ℕ) (views views' : Role → EndView) (b : BookParts) (tags : List Tag) (a n0 : ℕ) (w : IsRight views b tags) (q : Answers x c views views' b tags a n0) where
  abbrev pair : PairValue
  pair = record { caller = a; callee = n0 }

  abbrev pairs' : List PairValue
  pairs' = b.pairs ++ pair ∷ []

  same_of : (y : Role) → SameEnd (views y) (views' y)
  same_of y =
      elim (role_is x y) [
        | inl e ↦ subst (λ (z : Role). SameEnd (views z) (views' z)) (sym e) q.here.same
        | inr e ↦ subst (λ (z : Role). SameEnd (views z) (views' z)) (sym e) (same_end (views (other_of x)) (views' (other_of x)) q.there)
      ]

  called_of : (y : Role) (k : ChannelUse) → called_at (views' y) k ≡ called_at (views y) k
  called_of y k =
      elim (role_is x y) [
        | inl e ↦ subst (λ (z : Role). called_at (views' z) k ≡ called_at (views z) k) (sym e) (q.here.called k)
        | inr e ↦ subst (λ (z : Role). called_at (views' z) k ≡ called_at (views z) k) (sym e) (ap (λ (f : EndView). called_at f k) q.there)
      ]

  abbrev AnsweredOf : Role → ChannelUse → Type 0
  AnsweredOf y k = (answered_at (views' y) k ≡ answered_at (views y) k) ⊎ ((y ≡ x) × (k ≡ now (views x) q.own.session c))

  answered_of : (y : Role) (k : ChannelUse) → AnsweredOf y k
  answered_of y k =
      elim (role_is x y) [
        | inl e ↦ subst (λ (z : Role). AnsweredOf z k) (sym e) (elim (q.here.answered k) [
          | inl h ↦ inl h
          | inr h ↦ inr (refl, h)
        ])
        | inr e ↦ subst (λ (z : Role). AnsweredOf z k) (sym e) (inl (ap (λ (f : EndView). answered_at f k) q.there))
      ]

  -- a live record of the present use is the one that came in
  present_of : (n : ℕ) (t : Tag) → slice_get tags n ≡ Some t → t.role ≡ x → t.channel_use ≡ now (views x) q.own.session c → IsLive t.kind → n ≡ n0
  present_of n t there role channel_use live =
      is_present (views x) (b.slots x) tags x c q.own n t (subst (λ (y : Role). Stands (views y) (b.slots y) n t) role (w.stands n t there)) channel_use live ∙ q.number

  own_there : slice_get tags n0 ≡ Some q.own.tag
  own_there = ap (λ (i : ℕ). slice_get tags i) (sym q.number) ∙ q.own.there

  not_caller : (n : ℕ) (t : Tag) → slice_get tags n ≡ Some t → t.role ≡ x → t.channel_use ≡ now (views x) q.own.session c → t.kind ≡ Caller → ⊥
  not_caller n t there role channel_use kind =
      let is : n ≡ n0 = present_of n t there role channel_use (λ e. caller_not_cancelled (sym kind ∙ e)) in
      let e : t ≡ q.own.tag = same_tag tags n0 t q.own.tag (ap (λ (i : ℕ). slice_get tags i) (sym is) ∙ there) own_there in
      caller_not_callee a (sym kind ∙ ap (λ (u : Tag). u.kind) e ∙ q.kind)

  longer : (side : PairValue → ℕ) (n : ℕ) → IsPaired side b.pairs n → IsPaired side pairs' n
  longer side n p = (p.0, p.1, get_before b.pairs (pair ∷ []) p.0 p.1 p.2, p.3)

  new_paired : (side : PairValue → ℕ) (n : ℕ) → side pair ≡ n → IsPaired side pairs' n
  new_paired side n e = (length b.pairs, pair, get_last b.pairs pair, e)

  -- the caller of the record that came in is the only one of its use
  is_mate : (n : ℕ) (t : Tag) → slice_get tags n ≡ Some t → t.kind ≡ Caller → other_of t.role ≡ x → t.channel_use ≡ now (views x) q.own.session c → a ≡ n
  is_mate n t there kind role channel_use =
      let m = (w.means q.own.number q.own.tag q.own.there).callee a q.kind in
      w.alone a n m.mate t m.there there (λ e. caller_not_cancelled (sym m.calls ∙ e)) (λ e. caller_not_cancelled (sym kind ∙ e))
      (m.role ∙ ap other_of q.own.role ∙ ap other_of (sym role) ∙ twice t.role) (m.channel_use ∙ q.own.channel_use ∙ sym channel_use)

  means_of : (n : ℕ) (t : Tag) → slice_get tags n ≡ Some t → Means (views' t.role) (views' (other_of t.role)) pairs' tags n t
  means_of n t there =
      let o = w.means n t there in
      record {
        caller = λ e. let z = o.caller e in record {
          called = subst (λ (p : Option CallParts). IsSome p) (sym (called_of t.role t.channel_use)) z.called;
          not_answered = elim (answered_of t.role t.channel_use) [
            | inl h ↦ h ∙ z.not_answered
            | inr h ↦ absurd (not_caller n t there h.0 h.1 e)
          ];
          paired = λ v. elim (answered_of (other_of t.role) t.channel_use) [
            | inl h ↦ longer caller_of n (z.paired (sym h ∙ v))
            | inr h ↦ new_paired caller_of n (is_mate n t there e h.0 h.1)
          ];
        };
        callee = λ k e. let z = o.callee k e in record {
          far = z.far;
          order = z.order;
          mate = z.mate;
          there = z.there;
          calls = z.calls;
          role = z.role;
          channel_use = z.channel_use;
          address = z.address;
          free = λ d. called_of t.role t.channel_use ∙ z.free d;
          paired = λ v. elim (answered_of t.role t.channel_use) [
            | inl h ↦ longer callee_of n (z.paired (sym h ∙ v))
            | inr h ↦ new_paired callee_of n (sym (present_of n t there h.0 h.1 (λ u. callee_not_cancelled k (sym e ∙ u))))
          ];
        };
        cancelled = λ e. let z = o.cancelled e in record {
          role = z.role;
          met = subst (λ (p : Option CallParts). IsSome p) (sym (called_of (other_of t.role) t.channel_use)) z.met;
        };
      }

  abbrev KeptAt : Role → Type 0
  KeptAt y = ((k : ChannelUse) (g : ℕ) → sent_of (epoch_at (views' y) k g) ≡ sent_of (epoch_at (views y) k g))
      × ((k : ChannelUse) (g : ℕ) → taken_of (epoch_at (views' y) k g) ≡ taken_of (epoch_at (views y) k g))
      × ((k d : ℕ) → ((views' y).histories k d).epoch ≡ ((views y).histories k d).epoch)

  abbrev KeptThere : EndView → Type 0
  KeptThere f = ((k : ChannelUse) (g : ℕ) → sent_of (epoch_at f k g) ≡ sent_of (epoch_at (views (other_of x)) k g))
      × ((k : ChannelUse) (g : ℕ) → taken_of (epoch_at f k g) ≡ taken_of (epoch_at (views (other_of x)) k g))
      × ((k d : ℕ) → (f.histories k d).epoch ≡ ((views (other_of x)).histories k d).epoch)

  kept_at : (y : Role) → KeptAt y
  kept_at y =
      elim (role_is x y) [
        | inl e ↦ subst (λ (z : Role). KeptAt z) (sym e) (q.here.sent, q.here.taken, q.here.epoch)
        | inr e ↦ subst (λ (z : Role). KeptAt z) (sym e) (subst (λ (f : EndView). KeptThere f) (sym q.there) (λ k g. refl, λ k g. refl, λ k d. refl))
      ]

  fits_of : (n : ℕ) (t : Tag) (r : RecordValue) → slice_get tags n ≡ Some t → slice_get b.records n ≡ Some r → Fits (views' t.role) (b.nodes t.role) n t r
  fits_of n t r there got =
      let o = w.fits n t r there got in
      let k = kept_at t.role in
      let s = same_of t.role in
      record {
        number = o.number;
        node_is = o.node_is;
        own = o.own;
        far = o.far;
        caller = o.caller;
        tells = λ live. record {
          sent = λ g. sent_as _ _ _ (k.0 t.channel_use g) ((o.tells live).sent g);
          taken = λ g. taken_as _ _ _ (k.1 t.channel_use g) ((o.tells live).taken g);
        };
        none = o.none;
        epochs = λ up is live. subst (λ (m : ℕ). HasEpochs r m) (sym (k.2 t.channel_use.session t.channel_use.channel))
            (o.epochs (sym s.session ∙ up) (is ∙ now_same (views t.role) (views' t.role) s t.channel_use.session t.channel_use.channel) live);
      }

  still_answered : (y : Role) (k : ChannelUse) → answered_at (views y) k ≡ true → answered_at (views' y) k ≡ true
  still_answered y k h =
      elim (answered_of y k) [
        | inl e ↦ e ∙ h
        | inr e ↦ subst (λ (z : Role). answered_at (views' z) k ≡ true) (sym e.0) (ap (λ (u : ChannelUse). answered_at (views' x) u) e.1 ∙ q.here.since)
      ]

  slot_else : (y : Role) (d : ℕ) → (views' y).status d ≡ (views y).status d → SlotIs ((views' y).status d) (views' y) tags y d (b.slots y d)
  slot_else y d e = subst (λ (m : CallStatus). SlotIs m (views' y) tags y d (b.slots y d)) (sym e)
      (slot_same ((views y).status d) (views y) (views' y) tags y d (b.slots y d) (same_of y).session (λ s u. now_same (views y) (views' y) (same_of y) s d) (still_answered y) (w.slot y d))

  slot_own : SlotIs ((views' x).status c) (views' x) tags x c (b.slots x c)
  slot_own = subst (λ (m : CallStatus). SlotIs m (views' x) tags x c (b.slots x c)) (sym q.here.opens) (
    present_same (views x) (views' x) tags x c (b.slots x c) (same_of x).session (λ s u. now_same (views x) (views' x) (same_of x) s c) q.own,
    λ i e. (q.kind ∙ ap (λ (k : ℕ). Callee k) (same_Some a i (sym q.caller ∙ e)), ap (λ (u : ChannelUse). answered_at (views' x) u) q.own.channel_use ∙ q.here.since),
    λ none. absurd (none-some a (sym none ∙ q.caller)),
  )

  slot_of : (y : Role) (d : ℕ) → SlotIs ((views' y).status d) (views' y) tags y d (b.slots y d)
  slot_of y d =
      elim (role_is x y) [
        | inl e ↦ subst (λ (z : Role). SlotIs ((views' z).status d) (views' z) tags z d (b.slots z d)) (sym e) (elim (number_is d c) [
          | inl h ↦ subst (λ (k : ℕ). SlotIs ((views' x).status k) (views' x) tags x k (b.slots x k)) (sym h) slot_own
          | inr h ↦ slot_else x d (q.here.status d h)
        ])
        | inr e ↦ subst (λ (z : Role). SlotIs ((views' z).status d) (views' z) tags z d (b.slots z d)) (sym e) (slot_else (other_of x) d (ap (λ (f : EndView). f.status d) q.there))
      ]

  old_pair : (p : PairValue) → IsPair views tags p → IsPair views' tags p
  old_pair p o = record {
    tag = o.tag;
    there = o.there;
    kind = o.kind;
    answered = elim (answered_of o.tag.role o.tag.channel_use) [
      | inl h ↦ h ∙ o.answered
      | inr h ↦ ap (λ (y : Role). answered_at (views' y) o.tag.channel_use) h.0 ∙ ap (λ (k : ChannelUse). answered_at (views' x) k) h.1 ∙ q.here.since
    ];
  }

  new_pair : IsPair views' tags pair
  new_pair = record {
    tag = q.own.tag;
    there = own_there;
    kind = q.kind;
    answered = ap (λ (y : Role). answered_at (views' y) q.own.tag.channel_use) q.own.role ∙ ap (λ (k : ChannelUse). answered_at (views' x) k) q.own.channel_use ∙ q.here.since;
  }

  accepted_of : (y : Role) (k : ChannelUse) → answered_at (views' y) k ≡ true → CameIn tags y k
  accepted_of y k h =
      elim (answered_of y k) [
        | inl e ↦ w.accepted y k (sym e ∙ h)
        | inr e ↦ record {
          number = n0;
          caller = a;
          tag = q.own.tag;
          there = own_there;
          role = q.own.role ∙ sym e.0;
          channel_use = q.own.channel_use ∙ sym e.1;
          kind = q.kind;
        }
      ]

  -- it was in no pair
  not_paired : (i : ℕ) (p : PairValue) → slice_get b.pairs i ≡ Some p → p.callee ≡ n0 → ⊥
  not_paired i p e is =
      let o = w.pairs i p e in
      let same : o.tag ≡ q.own.tag = same_tag tags n0 o.tag q.own.tag (ap (λ (k : ℕ). slice_get tags k) (sym is) ∙ o.there) own_there in
      true≢false (sym o.answered ∙ ap (λ (u : Tag). answered_at (views u.role) u.channel_use) same ∙ ap (λ (y : Role). answered_at (views y) q.own.tag.channel_use) q.own.role ∙ ap (λ (k : ChannelUse). answered_at (views x) k) q.own.channel_use ∙ q.here.not_before)

  once_of : (i j : ℕ) (p r : PairValue) → slice_get pairs' i ≡ Some p → slice_get pairs' j ≡ Some r → p.callee ≡ r.callee → i ≡ j
  once_of i j p r ei ej e =
      elim (get_pushed b.pairs pair i p ei) [
        | inl h ↦ elim (get_pushed b.pairs pair j r ej) [
          | inl g ↦ w.once i j p r h g e
          | inr g ↦ absurd (not_paired i p h (e ∙ ap callee_of g.1))
        ]
        | inr h ↦ elim (get_pushed b.pairs pair j r ej) [
          | inl g ↦ absurd (not_paired j r g (sym e ∙ ap callee_of h.1))
          | inr g ↦ h.0 ∙ sym g.0
        ]
      ]

  pub answered_right : IsRight views' (record b { pairs = b.pairs ++ record { caller = a; callee = n0 } ∷ [] }) tags
  answered_right = record {
    stands = λ n t e. stands_same (views t.role) (views' t.role) (b.slots t.role) (b.slots t.role) n t (same_of t.role) refl (w.stands n t e);
    means = means_of;
    fits = fits_of;
    slot = slot_of;
    placed = λ y d. placed_same (b.slots y d).placed (views y) (views' y) tags y d (let h = (same_of y).top in omega arith) (λ k e. called_of y k) (w.placed y d);
    tops = λ y s e. w.tops y s (sym (same_of y).session ∙ e) ∙ sym (same_of y).top;
    alone = w.alone;
    pairs = λ i p e. elim (get_pushed b.pairs pair i p e) [
      | inl h ↦ old_pair p (w.pairs i p h)
      | inr h ↦ subst (λ (z : PairValue). IsPair views' tags z) (sym h.1) new_pair
    ];
    accepted = accepted_of;
    once = once_of;
    count = w.count;
    opened = w.opened;
  }
