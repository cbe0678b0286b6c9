-- A call that an end placed and that is in data transfer: its record is in a pair with that of the end to which it came.
use Rattle.std.specs.Prelude.{◌≡◌, ℕ, ◌≤◌, true, List, slice_get, Option, Some, None}
use Rattle.std.proofs.Common.{inl, inr, refl, sym, ap, subst, ◌∙◌, arith}
use Rattle.std.proofs.lemmas.Option.{none-some, same_Some}
use Rattle.std.specs.Option.{IsSome}
use Rattle.link_timers.specs.declared.role.Role.{Role}
use Rattle.link_timers.specs.declared.role.Role.TheVariants.{Dce}
use Rattle.link_timers.specs.Role.{other_of}
use Rattle.call_records.specs.Records.{PairValue}
use Rattle.call_records.specs.Book.{Book, Slot, slot_at}
use Rattle.record_laws.specs.Books.Headline.{HasCallee}
use Rattle.record_laws.proofs.Books.Basics.{twice}
use Rattle.record_laws.proofs.Books.Invariant.{EndView, CallStatus, ChannelUse, Tag, Stands, IsCaller, IsCallee, IsCancelled, IsPast, IsPlaced, PlacedIs, UpTo, Present, SlotIs, IsRight, book_parts, called_at, answered_at, now}
use Rattle.record_laws.proofs.Books.Invariant.CallStatus.{Idle, OwnCall, FarCall, Open}
use Rattle.record_laws.proofs.Books.Invariant.Kind.{Caller, Callee}
use Rattle.record_laws.proofs.Books.Carrying.{same_tag}
use Rattle.record_laws.proofs.Books.Cancelling.{caller_not_cancelled, callee_not_cancelled, none_is_not_some}
use Rattle.record_laws.proofs.Books.Calling.{callee_number, channel_use_is}
use Rattle.record_laws.proofs.Books.Concluding.{kind_cases}

pub pair_is : (p : PairValue) (a n : ℕ) → p.caller ≡ a → p.callee ≡ n → p ≡ record { caller = a; callee = n }
pair_is p a n e h = ap (λ (i : ℕ). (record { caller = i; callee = p.callee })) e ∙ ap (λ (i : ℕ). (record { caller = a; callee = i })) h

-- a present call that came in
came_kind : (m : CallStatus) (f : EndView) (tags : List Tag) (x : Role) (c : ℕ) (slot : Slot) (n a : ℕ) → SlotIs m f tags x c slot → slot.present ≡ Some n → slot.caller ≡ Some a
    → (p : Present f tags x c slot) × (slice_get tags n ≡ Some p.tag) × (p.tag.kind ≡ Callee a)
came_kind Idle f tags x c slot n a w e h = absurd (none-some n (sym w ∙ e))
came_kind OwnCall f tags x c slot n a w e h = absurd (none-some a (sym w.2 ∙ h))
came_kind FarCall f tags x c slot n a w e h = (
  w.0,
  ap (λ (k : ℕ). slice_get tags k) (same_Some n w.0.number (sym e ∙ w.0.is_present)) ∙ w.0.there,
  w.2 ∙ ap (λ (k : ℕ). Callee k) (same_Some w.1 a (sym w.3 ∙ h)),
)
came_kind Open f tags x c slot n a w e h = (
  w.0,
  ap (λ (k : ℕ). slice_get tags k) (same_Some n w.0.number (sym e ∙ w.0.is_present)) ∙ w.0.there,
  (w.1 a h).0,
)

-- two uses of a channel, neither of which is later than the other one
same_use : (k h : ChannelUse) → k.channel ≡ h.channel → UpTo k h → UpTo h k → k ≡ h
same_use k h c a b =
    let s1 = a.sessions in let s2 = b.sessions in
    let s : k.session ≡ h.session = omega arith in
    let r1 = a.restarts s in let r2 = b.restarts (sym s) in
    let r : k.restart ≡ h.restart = omega arith in
    let u1 = a.uses s r in let u2 = b.uses (sym s) (sym r) in
    let u : k.use_ ≡ h.use_ = omega arith in
    channel_use_is k h s c r u

-- what stands at an end is not later than the present use there
up_to_now : (f : EndView) (slots : ℕ → Slot) (n c s : ℕ) (t : Tag) → Stands f slots n t → t.channel_use.channel ≡ c → f.session ≡ Some s → s ≡ f.top → UpTo t.channel_use (now f s c)
up_to_now f slots n c s t w at up top =
    record {
      sessions = let h = w.top in omega arith;
      restarts = λ e. subst (λ (i : ℕ). t.channel_use.restart ≤ (f.histories i c).restart) e (subst (λ (d : ℕ). t.channel_use.restart ≤ (f.histories t.channel_use.session d).restart) at (past e).restarts);
      uses = λ e r. subst (λ (i : ℕ). t.channel_use.use_ ≤ (f.histories i c).use_) e (subst (λ (d : ℕ). t.channel_use.use_ ≤ (f.histories t.channel_use.session d).use_) at
          ((past e).uses (r ∙ ap (λ (i : ℕ). (f.histories i c).restart) (sym e) ∙ ap (λ (d : ℕ). (f.histories t.channel_use.session d).restart) (sym at))));
    }
  where
    past : t.channel_use.session ≡ s → IsPast t.channel_use (f.histories t.channel_use.session t.channel_use.channel)
    past e = w.past (up ∙ ap (λ (i : ℕ). Some i) (sym e))

module _ (views : Role → EndView) (b : Book) (tags : List Tag) (r : IsRight views (book_parts b) tags) (x : Role) (c : ℕ) (p : Present (views x) tags x c (slot_at x c b)) (own : p.tag.kind ≡ Caller)
    (accepted : answered_at (views (other_of x)) p.tag.channel_use ≡ true) where
  role_other : other_of p.tag.role ≡ other_of x
  role_other = ap other_of p.role

  is_caller : IsCaller (views x) (views (other_of x)) b.pairs p.number p.tag
  is_caller = subst (λ (y : Role). IsCaller (views y) (views (other_of y)) b.pairs p.number p.tag) p.role ((r.means p.number p.tag p.there).caller own)

  -- the pair, and what the record of the other end stands for
  record Mated : Type 0 where
    pub place : ℕ
    pub pair : PairValue
    pub there : slice_get b.pairs place ≡ Some pair
    pub caller : pair.caller ≡ p.number
    pub tag : Tag
    pub tag_there : slice_get tags pair.callee ≡ Some tag
    pub kind : tag.kind ≡ Callee p.number
    pub role : tag.role ≡ other_of x
    pub channel_use : tag.channel_use ≡ p.tag.channel_use
    pub free : x ≡ Dce → called_at (views (other_of x)) p.tag.channel_use ≡ None

  mated : Mated
  mated =
      let found = is_caller.paired accepted in
      let q = r.pairs found.0 found.1 found.2 in
      let m : IsCallee (views q.tag.role) b.pairs tags found.1.callee found.1.caller q.tag = (r.means found.1.callee q.tag q.there).callee found.1.caller q.kind in
      let same : m.mate ≡ p.tag = same_tag tags p.number m.mate p.tag (ap (λ (k : ℕ). slice_get tags k) (sym found.3) ∙ m.there) p.there in
      let role : q.tag.role ≡ other_of x = sym (twice q.tag.role) ∙ ap other_of (sym m.role ∙ ap (λ (u : Tag). u.role) same ∙ p.role) in
      let channel_use : q.tag.channel_use ≡ p.tag.channel_use = sym m.channel_use ∙ ap (λ (u : Tag). u.channel_use) same in
      record {
        place = found.0;
        pair = found.1;
        there = found.2;
        caller = found.3;
        tag = q.tag;
        tag_there = q.there;
        kind = q.kind ∙ ap (λ (k : ℕ). Callee k) found.3;
        role = role;
        channel_use = channel_use;
        free = λ dce. ap (λ (k : ChannelUse). called_at (views (other_of x)) k) (sym channel_use) ∙ ap (λ (y : Role). called_at (views y) q.tag.channel_use) (sym role)
            ∙ m.free (role ∙ ap other_of dce);
      }

  use_channel : p.tag.channel_use.channel ≡ c
  use_channel = ap (λ (k : ChannelUse). k.channel) p.channel_use

  use_session : p.tag.channel_use.session ≡ p.session
  use_session = ap (λ (k : ChannelUse). k.session) p.channel_use

  -- the call that the end placed last on the channel is this one
  record LastPlaced : Type 0 where
    pub number : (slot_at x c b).placed ≡ Some p.number
    pub last : (k : ChannelUse) → k.channel ≡ c → IsSome (called_at (views x) k) → UpTo k p.tag.channel_use

  last_placed : (o : Option ℕ) → (slot_at x c b).placed ≡ o → PlacedIs o (views x) tags x c → LastPlaced
  last_placed None e q = absurd (none_is_not_some (called_at (views x) p.tag.channel_use) (q p.tag.channel_use use_channel) is_caller.called)
  last_placed (Some n) e q =
      let stands : Stands (views x) (λ d. slot_at x d b) n q.tag = subst (λ (y : Role). Stands (views y) (λ d. slot_at y d b) n q.tag) q.role (r.stands n q.tag q.there) in
      let back : UpTo q.tag.channel_use p.tag.channel_use =
      subst (λ (k : ChannelUse). UpTo q.tag.channel_use k) (sym p.channel_use) (up_to_now (views x) (λ d. slot_at x d b) n c p.session q.tag stands q.channel p.up (r.tops x p.session p.up)) in
      let use_is : q.tag.channel_use ≡ p.tag.channel_use = same_use q.tag.channel_use p.tag.channel_use (q.channel ∙ sym use_channel) back (q.last p.tag.channel_use use_channel is_caller.called) in
      record {
        number = e ∙ ap (λ (k : ℕ). Some k) (one_number n q use_is);
        last = λ k at some. subst (λ (h : ChannelUse). UpTo k h) use_is (q.last k at some);
      }
    where
      one_number : (n : ℕ) (q : IsPlaced (views x) tags x c n) → q.tag.channel_use ≡ p.tag.channel_use → n ≡ p.number
      one_number n q use_is =
          elim (kind_cases q.tag.kind) [
            | inl h ↦ r.alone n p.number q.tag p.tag q.there p.there (λ k. caller_not_cancelled (sym h ∙ k)) p.live (q.role ∙ sym p.role) use_is
            | inr (inl h) ↦ absurd (q.placed h.0 h.1)
            | inr (inr h) ↦
                let z : IsCancelled (views (other_of q.tag.role)) q.tag = (r.means n q.tag q.there).cancelled h in
                let dce : x ≡ Dce = sym q.role ∙ z.role in
                absurd (none_is_not_some (called_at (views (other_of x)) p.tag.channel_use) (mated.free dce)
                (subst (λ (k : ChannelUse). IsSome (called_at (views (other_of x)) k)) use_is (subst (λ (y : Role). IsSome (called_at (views (other_of y)) q.tag.channel_use)) q.role z.met)))
          ]

  last : LastPlaced
  last = last_placed (slot_at x c b).placed refl (r.placed x c)

  -- a present call at the other end that came in is of the pair
  far_is : (a n : ℕ) → (slot_at (other_of x) c b).caller ≡ Some a → (slot_at (other_of x) c b).present ≡ Some n → (a ≡ p.number) × (n ≡ mated.pair.callee)
  far_is a n h e =
      let y : Role = other_of x in
      let q = came_kind ((views y).status c) (views y) tags y c (slot_at y c b) n a (r.slot y c) e h in
      let m : IsCallee (views q.0.tag.role) b.pairs tags n a q.0.tag = (r.means n q.0.tag q.1).callee a q.2 in
      let at_x : m.mate.role ≡ x = m.role ∙ ap other_of q.0.role ∙ twice x in
      let called : IsSome (called_at (views x) q.0.tag.channel_use) =
      subst (λ (k : ChannelUse). IsSome (called_at (views x) k)) m.channel_use (subst (λ (z : Role). IsSome (called_at (views z) m.mate.channel_use)) at_x ((r.means a m.mate m.there).caller m.calls).called) in
      let channel : q.0.tag.channel_use.channel ≡ c = ap (λ (k : ChannelUse). k.channel) q.0.channel_use in
      let onward : UpTo q.0.tag.channel_use p.tag.channel_use = last.last q.0.tag.channel_use channel called in
      let stands : Stands (views y) (λ d. slot_at y d b) mated.pair.callee mated.tag = subst (λ (z : Role). Stands (views z) (λ d. slot_at z d b) mated.pair.callee mated.tag) mated.role (r.stands mated.pair.callee mated.tag mated.tag_there) in
      let back : UpTo p.tag.channel_use q.0.tag.channel_use =
      subst (λ (k : ChannelUse). UpTo p.tag.channel_use k) (sym q.0.channel_use)
      (subst (λ (k : ChannelUse). UpTo k (now (views y) q.0.session c)) mated.channel_use
      (up_to_now (views y) (λ d. slot_at y d b) mated.pair.callee c q.0.session mated.tag stands (ap (λ (k : ChannelUse). k.channel) mated.channel_use ∙ use_channel) q.0.up (r.tops y q.0.session q.0.up))) in
      let use_is : q.0.tag.channel_use ≡ mated.tag.channel_use = same_use q.0.tag.channel_use p.tag.channel_use (channel ∙ sym use_channel) onward back ∙ sym mated.channel_use in
      let one : n ≡ mated.pair.callee = r.alone n mated.pair.callee q.0.tag mated.tag q.1 mated.tag_there q.0.live (λ k. callee_not_cancelled p.number (sym mated.kind ∙ k)) (q.0.role ∙ sym mated.role) use_is in
      let same : q.0.tag ≡ mated.tag = same_tag tags mated.pair.callee q.0.tag mated.tag (ap (λ (k : ℕ). slice_get tags k) (sym one) ∙ q.1) mated.tag_there in
      (callee_number a p.number (sym q.2 ∙ ap (λ (u : Tag). u.kind) same ∙ mated.kind), one)

  pub has_callee : HasCallee b x c
  has_callee = record {
    caller = p.number;
    callee = mated.pair.callee;
    present = p.is_present;
    placed = last.number;
    place = mated.place;
    there = mated.there ∙ ap (λ (q : PairValue). Some q) (pair_is mated.pair p.number mated.pair.callee mated.caller refl);
    far = far_is;
  }
