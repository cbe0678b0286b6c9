-- A call begins at an end: a record is added, and all else of the book stays right.
use Rattle.std.specs.Prelude.{◌≡◌, ◌≢◌, ℕ, suc, ◌<◌, ◌⊎◌, Bool, true, false, List, [], ◌∷◌, ◌++◌, length, slice_get, Option, Some, None}
use Rattle.std.proofs.Common.{inl, inr, refl, sym, ap, subst, ◌∙◌, arith, true≢false}
use Rattle.std.proofs.lemmas.Option.{none-some, same_Some, slice_get_within}
use Rattle.link_timers.specs.declared.role.Role.{Role}
use Rattle.link_timers.specs.Role.{other_of}
use Rattle.data_transfer.specs.Packets.{CallParts}
use Rattle.std.specs.Option.{IsSome}
use Rattle.call_records.specs.Records.{RecordValue, PairValue}
use Rattle.call_records.specs.Book.{Slot}
use Rattle.record_laws.proofs.Books.Basics.{role_is, number_is, get_before, get_pushed, length_pushed}
use Rattle.record_laws.proofs.Books.Invariant.{EndView, CallStatus, ChannelUse, Kind, Tag, BookParts, IsLive, Stands, Means, Fits, HasEpochs, Present, SlotIs, PlacedIs, IsPair, CameIn, IsRight, epoch_at, called_at, answered_at, now, sent_of, taken_of, sent_as, taken_as}
use Rattle.record_laws.proofs.Books.Invariant.CallStatus.{Idle, OwnCall, FarCall, Open}
use Rattle.record_laws.proofs.Books.Invariant.Kind.{Caller, Callee, Cancelled}
use Rattle.record_laws.proofs.Books.Presence.{more_open, present_in}
use Rattle.record_laws.proofs.Books.Carrying.{slot_same, placed_same, past_same, channel_use_same}

-- ---- more tags

abbrev pub present_more : (f : EndView) (tags more : List Tag) (x : Role) (c : ℕ) (slot : Slot) → Present f tags x c slot → Present f (tags ++ more) x c slot
present_more f tags more x c slot p = record {
  session = p.session;
  number = p.number;
  tag = p.tag;
  up = p.up;
  is_present = p.is_present;
  there = get_before tags more p.number p.tag p.there;
  role = p.role;
  channel_use = p.channel_use;
  live = p.live;
}

slot_more : (m : CallStatus) (f : EndView) (tags more : List Tag) (x : Role) (c : ℕ) (slot : Slot) → SlotIs m f tags x c slot → SlotIs m f (tags ++ more) x c slot
slot_more Idle f tags more x c slot w = w
slot_more OwnCall f tags more x c slot w = (present_more f tags more x c slot w.0, w.1, w.2)
slot_more FarCall f tags more x c slot w = (present_more f tags more x c slot w.0, w.1, w.2, w.3)
slot_more Open f tags more x c slot w = (present_more f tags more x c slot w.0, w.1, w.2)

pub placed_more : (o : Option ℕ) (f : EndView) (tags more : List Tag) (x : Role) (c : ℕ) → PlacedIs o f tags x c → PlacedIs o f (tags ++ more) x c
placed_more None f tags more x c w = w
placed_more (Some n) f tags more x c w = record {
  tag = w.tag;
  parts = w.parts;
  there = get_before tags more n w.tag w.there;
  role = w.role;
  channel = w.channel;
  session = w.session;
  called = w.called;
  own = w.own;
  far = w.far;
  placed = w.placed;
  last = w.last;
}

-- ---- the end at which it begins

pub record Adds (f f' : EndView) (s c : ℕ) : Type 0 where
  pub session : f'.session ≡ f.session
  pub up : f.session ≡ Some s
  pub top : f'.top ≡ f.top
  pub begun : (k : ChannelUse) → f.begun k ≡ true → f'.begun k ≡ true
  pub restart : (k d : ℕ) → (f'.histories k d).restart ≡ (f.histories k d).restart
  pub uses : (k d : ℕ) → (f'.histories k d).use_ ≡ (f.histories k d).use_
  pub epoch : (k d : ℕ) → (f'.histories k d).epoch ≡ (f.histories k d).epoch
  pub idle : f.status c ≡ Idle
  pub status : (d : ℕ) → d ≢ c → f'.status d ≡ f.status d
  pub called : (k : ChannelUse) → (called_at f' k ≡ called_at f k) ⊎ ((k ≡ now f s c) × IsSome (called_at f' k))
  pub answered : (k : ChannelUse) → answered_at f' k ≡ answered_at f k
  pub sent : (k : ChannelUse) (g : ℕ) → sent_of (epoch_at f' k g) ≡ sent_of (epoch_at f k g)
  pub taken : (k : ChannelUse) (g : ℕ) → taken_of (epoch_at f' k g) ≡ taken_of (epoch_at f k g)

pub record Begins (x : Role) (s c : ℕ) (views views' : Role → EndView) (b : BookParts) (slots : Role → ℕ → Slot) (tags : List Tag) (t : Tag) (r : RecordValue) : Type 0 where
  pub there : views' (other_of x) ≡ views (other_of x)
  pub here : Adds (views x) (views' x) s c
  pub slots_else : (d : ℕ) → d ≢ c → slots x d ≡ b.slots x d
  pub slots_there : (d : ℕ) → slots (other_of x) d ≡ b.slots (other_of x) d
  pub role : t.role ≡ x
  pub channel_use : t.channel_use ≡ now (views x) s c
  pub live : IsLive t.kind
  pub present : (slots x c).present ≡ Some (length b.records)
  pub is_open : r.closed ≡ false
  pub stands : Stands (views' x) (slots x) (length b.records) t
  pub means : Means (views' x) (views' (other_of x)) b.pairs (tags ++ t ∷ []) (length b.records) t
  pub fits : Fits (views' x) (b.nodes x) (length b.records) t r
  pub slot : SlotIs ((views' x).status c) (views' x) (tags ++ t ∷ []) x c (slots x c)
  pub placed : PlacedIs (slots x c).placed (views' x) (tags ++ t ∷ []) x c

abbrev is_callee : Kind → Bool
is_callee Caller = false
is_callee (Callee k) = true
is_callee Cancelled = false

callee_not_cancelled : (a : ℕ) → Callee a ≡ Cancelled → ⊥
callee_not_cancelled a e = true≢false (ap is_callee e)

module _ (x : Role) (s c : ℕ) (views views' : Role → EndView) (b : BookParts) (slots : Role → ℕ → Slot) (tags : List Tag) (t0 : Tag) (r0 : RecordValue) (w : IsRight views b tags) (q : Begins x s c views views' b slots tags t0 r0) where
  -- no live record is of the present use
  free_now : (n : ℕ) (t : Tag) → slice_get tags n ≡ Some t → t.role ≡ x → t.channel_use ≡ now (views x) s c → IsLive t.kind → ⊥
  free_now n t there role channel_use live =
      let st : Stands (views x) (b.slots x) n t = subst (λ (y : Role). Stands (views y) (b.slots y) n t) role (w.stands n t there) in
      let here : t.channel_use.channel ≡ c = ap (λ (k : ChannelUse). k.channel) channel_use in
      let when : t.channel_use.session ≡ s = ap (λ (k : ChannelUse). k.session) channel_use in
      let is : (b.slots x c).present ≡ Some n =
      sym (ap (λ (d : ℕ). (b.slots x d).present) here)
      ∙ st.present (q.here.up ∙ ap (λ (k : ℕ). Some k) (sym when)) (channel_use ∙ ap (λ (k : ℕ). now (views x) k c) (sym when) ∙ ap (λ (d : ℕ). now (views x) t.channel_use.session d) (sym here)) live in
      let none : (b.slots x c).present ≡ None = subst (λ (m : CallStatus). SlotIs m (views x) tags x c (b.slots x c)) q.here.idle (w.slot x c) in
      none-some n (sym none ∙ is)

  now_is : (k d : ℕ) → now (views' x) k d ≡ now (views x) k d
  now_is k d = channel_use_same k d ((views x).histories k d) ((views' x).histories k d) (q.here.restart k d) (q.here.uses k d)

  old_stands_here : (n : ℕ) (t : Tag) → slice_get tags n ≡ Some t → t.role ≡ x → (t.channel_use.channel ≡ c) ⊎ (t.channel_use.channel ≢ c) → Stands (views x) (b.slots x) n t → Stands (views' x) (slots x) n t
  old_stands_here n t there role (inl here) o = record {
    begun = q.here.begun t.channel_use o.begun;
    top = let a = o.top in let e = q.here.top in omega arith;
    past = λ up. past_same t.channel_use ((views x).histories t.channel_use.session t.channel_use.channel) ((views' x).histories t.channel_use.session t.channel_use.channel) (q.here.restart t.channel_use.session t.channel_use.channel) (q.here.uses t.channel_use.session t.channel_use.channel) (o.past (sym q.here.session ∙ up));
    present = λ up is live.
        let when : s ≡ t.channel_use.session = same_Some s t.channel_use.session (sym q.here.up ∙ sym q.here.session ∙ up) in
        absurd (free_now n t there role (is ∙ now_is t.channel_use.session t.channel_use.channel ∙ ap (λ (d : ℕ). now (views x) t.channel_use.session d) here ∙ ap (λ (k : ℕ). now (views x) k c) (sym when)) live);
  }
  old_stands_here n t there role (inr other) o = record {
    begun = q.here.begun t.channel_use o.begun;
    top = let a = o.top in let e = q.here.top in omega arith;
    past = λ up. past_same t.channel_use ((views x).histories t.channel_use.session t.channel_use.channel) ((views' x).histories t.channel_use.session t.channel_use.channel) (q.here.restart t.channel_use.session t.channel_use.channel) (q.here.uses t.channel_use.session t.channel_use.channel) (o.past (sym q.here.session ∙ up));
    present = λ up is live. ap (λ (z : Slot). z.present) (q.slots_else t.channel_use.channel other) ∙ o.present (sym q.here.session ∙ up) (is ∙ now_is t.channel_use.session t.channel_use.channel) live;
  }

  old_stands : (n : ℕ) (t : Tag) → slice_get tags n ≡ Some t → Stands (views' t.role) (slots t.role) n t
  old_stands n t there =
      elim (role_is x t.role) [
        | inl e ↦ subst (λ (z : Role). Stands (views' z) (slots z) n t) (sym e) (old_stands_here n t there e (number_is t.channel_use.channel c) (subst (λ (y : Role). Stands (views y) (b.slots y) n t) e (w.stands n t there)))
        | inr e ↦ subst (λ (z : Role). Stands (views' z) (slots z) n t) (sym e)
            (subst (λ (f : EndView). Stands f (slots (other_of x)) n t) (sym q.there)
            (old_stands_there n t (subst (λ (y : Role). Stands (views y) (b.slots y) n t) e (w.stands n t there))))
      ]
    where
      old_stands_there : (n : ℕ) (t : Tag) → Stands (views (other_of x)) (b.slots (other_of x)) n t → Stands (views (other_of x)) (slots (other_of x)) n t
      old_stands_there n t o = record {
        begun = o.begun;
        top = o.top;
        past = o.past;
        present = λ up is live. ap (λ (z : Slot). z.present) (q.slots_there t.channel_use.channel) ∙ o.present up is live;
      }

  answered_of : (y : Role) (k : ChannelUse) → answered_at (views' y) k ≡ answered_at (views y) k
  answered_of y k =
      elim (role_is x y) [
        | inl e ↦ subst (λ (z : Role). answered_at (views' z) k ≡ answered_at (views z) k) (sym e) (q.here.answered k)
        | inr e ↦ subst (λ (z : Role). answered_at (views' z) k ≡ answered_at (views z) k) (sym e) (ap (λ (f : EndView). answered_at f k) q.there)
      ]

  -- what was called stays called
  abbrev CalledOf : Role → ChannelUse → Type 0
  CalledOf y k = (called_at (views' y) k ≡ called_at (views y) k) ⊎ ((y ≡ x) × (k ≡ now (views x) s c) × IsSome (called_at (views' y) k))

  called_of : (y : Role) (k : ChannelUse) → CalledOf y k
  called_of y k =
      elim (role_is x y) [
        | inl e ↦ subst (λ (z : Role). CalledOf z k) (sym e) (elim (q.here.called k) [
          | inl h ↦ inl h
          | inr h ↦ inr (refl, h.0, h.1)
        ])
        | inr e ↦ subst (λ (z : Role). CalledOf z k) (sym e) (inl (ap (λ (f : EndView). called_at f k) q.there))
      ]

  old_free : (n : ℕ) (t : Tag) → slice_get tags n ≡ Some t → IsLive t.kind → called_at (views t.role) t.channel_use ≡ None → called_at (views' t.role) t.channel_use ≡ None
  old_free n t there live none =
      elim (called_of t.role t.channel_use) [
        | inl h ↦ h ∙ none
        | inr h ↦ absurd (free_now n t there h.0 h.1 live)
      ]

  old_means : (n : ℕ) (t : Tag) → slice_get tags n ≡ Some t → Means (views' t.role) (views' (other_of t.role)) b.pairs (tags ++ t0 ∷ []) n t
  old_means n t there =
      let o = w.means n t there in
      record {
        caller = λ e. let z = o.caller e in record {
          called = elim (called_of t.role t.channel_use) [
            | inl h ↦ subst (λ (p : Option CallParts). IsSome p) (sym h) z.called
            | inr h ↦ h.2
          ];
          not_answered = answered_of t.role t.channel_use ∙ z.not_answered;
          paired = λ a. z.paired (sym (answered_of (other_of t.role) t.channel_use) ∙ a);
        };
        callee = λ a e. let z = o.callee a e in record {
          far = z.far;
          order = z.order;
          mate = z.mate;
          there = get_before tags (t0 ∷ []) a z.mate z.there;
          calls = z.calls;
          role = z.role;
          channel_use = z.channel_use;
          address = z.address;
          free = λ d. old_free n t there (λ k. callee_not_cancelled a (sym e ∙ k)) (z.free d);
          paired = λ h. z.paired (sym (answered_of t.role t.channel_use) ∙ h);
        };
        cancelled = λ e. let z = o.cancelled e in record {
          role = z.role;
          met = elim (called_of (other_of t.role) t.channel_use) [
            | inl h ↦ subst (λ (p : Option CallParts). IsSome p) (sym h) z.met
            | inr h ↦ h.2
          ];
        };
      }

  abbrev KeptAt : Role → Type 0
  KeptAt y = ((k : ChannelUse) (g : ℕ) → sent_of (epoch_at (views' y) k g) ≡ sent_of (epoch_at (views y) k g))
      × ((k : ChannelUse) (g : ℕ) → taken_of (epoch_at (views' y) k g) ≡ taken_of (epoch_at (views y) k g))
      × ((k d : ℕ) → now (views' y) k d ≡ now (views y) k d)
      × ((k d : ℕ) → ((views' y).histories k d).epoch ≡ ((views y).histories k d).epoch)
      × ((views' y).session ≡ (views y).session)

  same_kept : (f f' : EndView) → f' ≡ f → ((k : ChannelUse) (g : ℕ) → sent_of (epoch_at f' k g) ≡ sent_of (epoch_at f k g))
      × ((k : ChannelUse) (g : ℕ) → taken_of (epoch_at f' k g) ≡ taken_of (epoch_at f k g))
      × ((k d : ℕ) → now f' k d ≡ now f k d)
      × ((k d : ℕ) → (f'.histories k d).epoch ≡ (f.histories k d).epoch)
      × (f'.session ≡ f.session)
  same_kept f f' e = (λ k g. ap (λ (z : EndView). sent_of (epoch_at z k g)) e, λ k g. ap (λ (z : EndView). taken_of (epoch_at z k g)) e, λ k d. ap (λ (z : EndView). now z k d) e, λ k d. ap (λ (z : EndView). (z.histories k d).epoch) e, ap (λ (z : EndView). z.session) e)

  kept_at : (y : Role) → KeptAt y
  kept_at y =
      elim (role_is x y) [
        | inl e ↦ subst (λ (z : Role). KeptAt z) (sym e) (q.here.sent, q.here.taken, now_is, q.here.epoch, q.here.session)
        | inr e ↦ subst (λ (z : Role). KeptAt z) (sym e) (same_kept (views (other_of x)) (views' (other_of x)) q.there)
      ]

  old_fits : (n : ℕ) (t : Tag) (r : RecordValue) → Fits (views t.role) (b.nodes t.role) n t r → Fits (views' t.role) (b.nodes t.role) n t r
  old_fits n t r o =
      let k = kept_at t.role in
      record {
        number = o.number;
        node_is = o.node_is;
        own = o.own;
        far = o.far;
        caller = o.caller;
        tells = λ live. record {
          sent = λ g. sent_as _ _ _ (k.0 t.channel_use g) ((o.tells live).sent g);
          taken = λ g. taken_as _ _ _ (k.1 t.channel_use g) ((o.tells live).taken g);
        };
        none = o.none;
        epochs = λ up is live. subst (λ (m : ℕ). HasEpochs r m) (sym (k.3 t.channel_use.session t.channel_use.channel)) (o.epochs (sym k.4 ∙ up) (is ∙ k.2 t.channel_use.session t.channel_use.channel) live);
      }

  new_at : (n : ℕ) → n ≡ length tags → n ≡ length b.records
  new_at n e = e ∙ w.count

  stands_of : (n : ℕ) (t : Tag) → slice_get (tags ++ t0 ∷ []) n ≡ Some t → Stands (views' t.role) (slots t.role) n t
  stands_of n t e =
      elim (get_pushed tags t0 n t e) [
        | inl h ↦ old_stands n t h
        | inr h ↦ subst (λ (u : Tag). Stands (views' u.role) (slots u.role) n u) (sym h.1)
            (subst (λ (y : Role). Stands (views' y) (slots y) n t0) (sym q.role) (subst (λ (m : ℕ). Stands (views' x) (slots x) m t0) (sym (new_at n h.0)) q.stands))
      ]

  means_of : (n : ℕ) (t : Tag) → slice_get (tags ++ t0 ∷ []) n ≡ Some t → Means (views' t.role) (views' (other_of t.role)) b.pairs (tags ++ t0 ∷ []) n t
  means_of n t e =
      elim (get_pushed tags t0 n t e) [
        | inl h ↦ old_means n t h
        | inr h ↦ subst (λ (u : Tag). Means (views' u.role) (views' (other_of u.role)) b.pairs (tags ++ t0 ∷ []) n u) (sym h.1)
            (subst (λ (y : Role). Means (views' y) (views' (other_of y)) b.pairs (tags ++ t0 ∷ []) n t0) (sym q.role) (subst (λ (m : ℕ). Means (views' x) (views' (other_of x)) b.pairs (tags ++ t0 ∷ []) m t0) (sym (new_at n h.0)) q.means))
      ]

  fits_of : (n : ℕ) (t : Tag) (r : RecordValue) → slice_get (tags ++ t0 ∷ []) n ≡ Some t → slice_get (b.records ++ r0 ∷ []) n ≡ Some r → Fits (views' t.role) (b.nodes t.role) n t r
  fits_of n t r e got =
      elim (get_pushed tags t0 n t e) [
        | inl h ↦ elim (get_pushed b.records r0 n r got) [
          | inl g ↦ old_fits n t r (w.fits n t r h g)
          | inr g ↦ absurd (let l = slice_get_within tags n t h in let a = g.0 in let m = w.count in omega arith)
        ]
        | inr h ↦ elim (get_pushed b.records r0 n r got) [
          | inl g ↦ absurd (let l = slice_get_within b.records n r g in let a = h.0 in let m = w.count in omega arith)
          | inr g ↦ subst (λ (z : RecordValue). Fits (views' t.role) (b.nodes t.role) n t z) (sym g.1)
              (subst (λ (u : Tag). Fits (views' u.role) (b.nodes u.role) n u r0) (sym h.1)
              (subst (λ (y : Role). Fits (views' y) (b.nodes y) n t0 r0) (sym q.role) (subst (λ (m : ℕ). Fits (views' x) (b.nodes x) m t0 r0) (sym g.0) q.fits)))
        ]
      ]

  slot_here : (d : ℕ) → (d ≡ c) ⊎ (d ≢ c) → SlotIs ((views' x).status d) (views' x) (tags ++ t0 ∷ []) x d (slots x d)
  slot_here d (inl e) = subst (λ (k : ℕ). SlotIs ((views' x).status k) (views' x) (tags ++ t0 ∷ []) x k (slots x k)) (sym e) q.slot
  slot_here d (inr e) =
      subst (λ (m : CallStatus). SlotIs m (views' x) (tags ++ t0 ∷ []) x d (slots x d)) (sym (q.here.status d e))
      (subst (λ (z : Slot). SlotIs ((views x).status d) (views' x) (tags ++ t0 ∷ []) x d z) (sym (q.slots_else d e))
      (slot_same ((views x).status d) (views x) (views' x) (tags ++ t0 ∷ []) x d (b.slots x d) q.here.session (λ k up. now_is k d) (λ k h. q.here.answered k ∙ h)
      (slot_more ((views x).status d) (views x) tags (t0 ∷ []) x d (b.slots x d) (w.slot x d))))

  slot_of : (y : Role) (d : ℕ) → SlotIs ((views' y).status d) (views' y) (tags ++ t0 ∷ []) y d (slots y d)
  slot_of y d =
      elim (role_is x y) [
        | inl e ↦ subst (λ (z : Role). SlotIs ((views' z).status d) (views' z) (tags ++ t0 ∷ []) z d (slots z d)) (sym e) (slot_here d (number_is d c))
        | inr e ↦ subst (λ (z : Role). SlotIs ((views' z).status d) (views' z) (tags ++ t0 ∷ []) z d (slots z d)) (sym e)
            (subst (λ (f : EndView). SlotIs (f.status d) f (tags ++ t0 ∷ []) (other_of x) d (slots (other_of x) d)) (sym q.there)
            (subst (λ (z : Slot). SlotIs ((views (other_of x)).status d) (views (other_of x)) (tags ++ t0 ∷ []) (other_of x) d z) (sym (q.slots_there d))
            (slot_more ((views (other_of x)).status d) (views (other_of x)) tags (t0 ∷ []) (other_of x) d (b.slots (other_of x) d) (w.slot (other_of x) d))))
      ]

  -- on another channel nothing was called
  called_else : (d : ℕ) → d ≢ c → (k : ChannelUse) → k.channel ≡ d → called_at (views' x) k ≡ called_at (views x) k
  called_else d other k e =
      elim (q.here.called k) [
        | inl h ↦ h
        | inr h ↦ absurd (other (sym e ∙ ap (λ (z : ChannelUse). z.channel) h.0))
      ]

  placed_here : (d : ℕ) → (d ≡ c) ⊎ (d ≢ c) → PlacedIs (slots x d).placed (views' x) (tags ++ t0 ∷ []) x d
  placed_here d (inl e) = subst (λ (k : ℕ). PlacedIs (slots x k).placed (views' x) (tags ++ t0 ∷ []) x k) (sym e) q.placed
  placed_here d (inr e) =
      subst (λ (z : Slot). PlacedIs z.placed (views' x) (tags ++ t0 ∷ []) x d) (sym (q.slots_else d e))
      (placed_same (b.slots x d).placed (views x) (views' x) (tags ++ t0 ∷ []) x d (let h = q.here.top in omega arith) (called_else d e)
      (placed_more (b.slots x d).placed (views x) tags (t0 ∷ []) x d (w.placed x d)))

  placed_of : (y : Role) (d : ℕ) → PlacedIs (slots y d).placed (views' y) (tags ++ t0 ∷ []) y d
  placed_of y d =
      elim (role_is x y) [
        | inl e ↦ subst (λ (z : Role). PlacedIs (slots z d).placed (views' z) (tags ++ t0 ∷ []) z d) (sym e) (placed_here d (number_is d c))
        | inr e ↦ subst (λ (z : Role). PlacedIs (slots z d).placed (views' z) (tags ++ t0 ∷ []) z d) (sym e)
            (subst (λ (f : EndView). PlacedIs (slots (other_of x) d).placed f (tags ++ t0 ∷ []) (other_of x) d) (sym q.there)
            (subst (λ (z : Slot). PlacedIs z.placed (views (other_of x)) (tags ++ t0 ∷ []) (other_of x) d) (sym (q.slots_there d))
            (placed_more (b.slots (other_of x) d).placed (views (other_of x)) tags (t0 ∷ []) (other_of x) d (w.placed (other_of x) d))))
      ]

  tops_of : (y : Role) (k : ℕ) → (views' y).session ≡ Some k → k ≡ (views' y).top
  tops_of y k =
      elim (role_is x y) [
        | inl e ↦ subst (λ (z : Role). (views' z).session ≡ Some k → k ≡ (views' z).top) (sym e) (λ up. w.tops x k (sym q.here.session ∙ up) ∙ sym q.here.top)
        | inr e ↦ subst (λ (z : Role). (views' z).session ≡ Some k → k ≡ (views' z).top) (sym e) (subst (λ (f : EndView). f.session ≡ Some k → k ≡ f.top) (sym q.there) (w.tops (other_of x) k))
      ]

  alone_new : (i : ℕ) (t : Tag) → slice_get tags i ≡ Some t → IsLive t.kind → t.role ≡ t0.role → t.channel_use ≡ t0.channel_use → ⊥
  alone_new i t there live role channel_use = free_now i t there (role ∙ q.role) (channel_use ∙ q.channel_use) live

  alone_of : (i j : ℕ) (t u : Tag) → slice_get (tags ++ t0 ∷ []) i ≡ Some t → slice_get (tags ++ t0 ∷ []) j ≡ Some u → IsLive t.kind → IsLive u.kind → t.role ≡ u.role → t.channel_use ≡ u.channel_use → i ≡ j
  alone_of i j t u ei ej lt lu role channel_use =
      elim (get_pushed tags t0 i t ei) [
        | inl h ↦ elim (get_pushed tags t0 j u ej) [
          | inl g ↦ w.alone i j t u h g lt lu role channel_use
          | inr g ↦ absurd (alone_new i t h lt (role ∙ ap (λ (z : Tag). z.role) g.1) (channel_use ∙ ap (λ (z : Tag). z.channel_use) g.1))
        ]
        | inr h ↦ elim (get_pushed tags t0 j u ej) [
          | inl g ↦ absurd (alone_new j u g lu (sym role ∙ ap (λ (z : Tag). z.role) h.1) (sym channel_use ∙ ap (λ (z : Tag). z.channel_use) h.1))
          | inr g ↦ h.0 ∙ sym g.0
        ]
      ]

  pairs_of : (i : ℕ) (p : PairValue) → slice_get b.pairs i ≡ Some p → IsPair views' (tags ++ t0 ∷ []) p
  pairs_of i p e =
      let o = w.pairs i p e in
      record {
        tag = o.tag;
        there = get_before tags (t0 ∷ []) p.callee o.tag o.there;
        kind = o.kind;
        answered = answered_of o.tag.role o.tag.channel_use ∙ o.answered;
      }

  accepted_of : (y : Role) (k : ChannelUse) → answered_at (views' y) k ≡ true → CameIn (tags ++ t0 ∷ []) y k
  accepted_of y k h =
      let c = w.accepted y k (sym (answered_of y k) ∙ h) in
      record {
        number = c.number;
        caller = c.caller;
        tag = c.tag;
        there = get_before tags (t0 ∷ []) c.number c.tag c.there;
        role = c.role;
        channel_use = c.channel_use;
        kind = c.kind;
      }

  slots_other : (y : Role) (d : ℕ) → ((y ≡ x) × (d ≡ c) → ⊥) → slots y d ≡ b.slots y d
  slots_other y d apart =
      elim (role_is x y) [
        | inl e ↦ subst (λ (z : Role). slots z d ≡ b.slots z d) (sym e) (q.slots_else d (λ h. apart (e, h)))
        | inr e ↦ subst (λ (z : Role). slots z d ≡ b.slots z d) (sym e) (q.slots_there d)
      ]

  -- the number of a present record is that of a record
  number_within : (y : Role) (d n : ℕ) → (b.slots y d).present ≡ Some n → n < length b.records
  number_within y d n e =
      let p = present_in ((views y).status d) (views y) tags y d (b.slots y d) n (w.slot y d) e in
      let h = slice_get_within tags n p.0.tag p.1 in
      let m = w.count in
      omega arith

  pub added_right : IsRight views' (record b { slots = slots; records = b.records ++ r0 ∷ [] }) (tags ++ t0 ∷ [])
  added_right = record {
    stands = stands_of;
    means = means_of;
    fits = fits_of;
    slot = slot_of;
    placed = placed_of;
    tops = tops_of;
    alone = alone_of;
    pairs = pairs_of;
    accepted = accepted_of;
    once = w.once;
    count = length_pushed tags t0 ∙ ap suc w.count ∙ sym (length_pushed b.records r0);
    opened = more_open x c b.slots slots b.records r0
        (subst (λ (m : CallStatus). SlotIs m (views x) tags x c (b.slots x c)) q.here.idle (w.slot x c)) q.present slots_other q.is_open number_within w.opened;
  }
