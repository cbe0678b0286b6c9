-- The ends of a line as their calls see them, and what a step at one end makes of the book.
use Rattle.std.specs.Prelude.{◌≡◌, ◌≢◌, ℕ, zero, suc, ◌≤◌, ◌⊎◌, Bool, true, false, ◌&&◌, ◌||◌, ◌==◌, nat_lt, List, length, slice_get, Option, Some, None}
use Rattle.std.proofs.Common.{inl, inr, refl, sym, ap, subst, ◌∙◌}
use Rattle.link_timers.specs.declared.role.Role.{Role}
use Rattle.link_timers.specs.declared.role.Role.TheVariants.{Dte, Dce}
use Rattle.packet_channel.specs.Channel.{ChannelState, Channel}
use Rattle.packet_channel.specs.Channel.ChannelState.{Ready, OwnWaiting, FarWaiting, Transfer, Collision, OwnClear}
use Rattle.packet_layer.specs.Layer.{channel_of}
use Rattle.packet_laws.specs.History.{History}
use Rattle.packet_laws.specs.LayerLine.{End}
use Rattle.call_records.specs.Records.{RecordValue}
use Rattle.call_records.specs.Book.{Book, slot_at}
use Rattle.record_laws.proofs.Books.Basics.{number_is}
use Rattle.record_laws.proofs.Books.Invariant.{EndView, CallStatus, ChannelUse, Tag, BookParts, book_parts, Present, SlotIs, IsRight, epoch_at, now}
use Rattle.record_laws.proofs.Books.Invariant.CallStatus.{Idle, OwnCall, FarCall, Open}
use Rattle.record_laws.proofs.Books.Carrying.{SameCalls, SameEnd, Grows, same_end, same_calls, carried_right, IsElse}
use Rattle.record_laws.proofs.Books.Ending.{Stays, Leaves, ended_right}
use Rattle.record_laws.proofs.Books.Writing.{Closes, book_parts_same}
use Rattle.record_laws.proofs.Books.Calling.{channel_use_is}
use Rattle.std.proofs.lemmas.Option.{same_Some}

-- in a collision the DTE's call is the one that goes on
abbrev pub met_status : Role → CallStatus
met_status Dte = OwnCall
met_status Dce = FarCall

abbrev pub status_of : Role → ChannelState → CallStatus
status_of x Ready = Idle
status_of x OwnWaiting = OwnCall
status_of x FarWaiting = FarCall
status_of x Transfer = Open
status_of x Collision = met_status x
status_of x OwnClear = Idle

abbrev pub status_at : Role → Option Channel → CallStatus
status_at x None = Idle
status_at x (Some ch) = status_of x ch.state

abbrev pub within : (channels c : ℕ) → Bool
within channels zero = false
within channels (suc i) = nat_lt i channels

-- something of the session came in, or the line was made with it up
abbrev pub has_come : End → ℕ → Bool
has_come e s = (s == 0) || nat_lt 0 (e.accepted s)

abbrev pub view_of : Role → End → (top : ℕ) → EndView
view_of x e top = record {
  session = e.session;
  top = top;
  begun = λ k. has_come e k.session && within (length e.layer.channels) k.channel;
  status = λ c. status_at x (channel_of e.layer c);
  histories = e.histories;
}

-- of two ends, of which the first has this role
abbrev pub views_of : Role → (e y : End) → (te ty : ℕ) → Role → EndView
views_of Dte e y te ty Dte = view_of Dte e te
views_of Dte e y te ty Dce = view_of Dce y ty
views_of Dce e y te ty Dce = view_of Dce e te
views_of Dce e y te ty Dte = view_of Dte y ty

-- ---- calls end, or nothing happens

pub record EndStep (x : Role) (e e' : End) (te te' : ℕ) (b b' : Book) : Type 0 where
  pub epochs : (s c r u g : ℕ) → (e'.histories s c).epochs r u g ≡ (e.histories s c).epochs r u g
  pub begun : (k : ChannelUse) → (view_of x e te).begun k ≡ true → (view_of x e' te').begun k ≡ true
  pub top : te ≤ te'
  pub up : (s : ℕ) → e'.session ≡ Some s → s ≡ te'
  pub how : Stays (view_of x e te) (view_of x e' te') (λ c. slot_at x c b) (λ c. slot_at x c b') ⊎ Leaves (view_of x e te) (view_of x e' te') (λ c. slot_at x c b')
  pub closed : Closes x b b'

pub end_step : (x : Role) (e e' y : End) (te te' ty : ℕ) (b b' : Book) (tags : List Tag) → EndStep x e e' te te' b b' → IsRight (views_of x e y te ty) (book_parts b) tags → IsRight (views_of x e' y te' ty) (book_parts b') tags
end_step Dte e e' y te te' ty b b' tags h w =
    subst (λ (v : BookParts). IsRight (views_of Dte e' y te' ty) v tags) (book_parts_same b b' h.closed.pairs h.closed.size.node)
    (ended_right Dte (views_of Dte e y te ty) (views_of Dte e' y te' ty) (book_parts b) (book_parts b').slots b'.records tags w (record {
      there = refl;
      epochs = λ k g. h.epochs k.session k.channel k.restart k.use_ g;
      begun = h.begun;
      top = h.top;
      up = h.up;
      opened = h.closed.opened;
      how = h.how;
      placed = h.closed.placed;
      slots_there = h.closed.there;
      count = h.closed.count;
      kept = h.closed.kept;
    }))
end_step Dce e e' y te te' ty b b' tags h w =
    subst (λ (v : BookParts). IsRight (views_of Dce e' y te' ty) v tags) (book_parts_same b b' h.closed.pairs h.closed.size.node)
    (ended_right Dce (views_of Dce e y te ty) (views_of Dce e' y te' ty) (book_parts b) (book_parts b').slots b'.records tags w (record {
      there = refl;
      epochs = λ k g. h.epochs k.session k.channel k.restart k.use_ g;
      begun = h.begun;
      top = h.top;
      up = h.up;
      opened = h.closed.opened;
      how = h.how;
      placed = h.closed.placed;
      slots_there = h.closed.there;
      count = h.closed.count;
      kept = h.closed.kept;
    }))

-- ---- a step on one channel of an end that is up

pub record OnChannel (x : Role) (e e' : End) (s d : ℕ) : Type 0 where
  pub session : e'.session ≡ e.session
  pub up : e.session ≡ Some s
  pub begun : (k : ChannelUse) → (view_of x e 0).begun k ≡ true → (view_of x e' 0).begun k ≡ true
  pub status : (c : ℕ) → c ≢ d → status_at x (channel_of e'.layer c) ≡ status_at x (channel_of e.layer c)
  pub else : (k c : ℕ) → ((k ≡ s) × (c ≡ d) → ⊥) → e'.histories k c ≡ e.histories k c

-- what is not of the present use of the channel is as it was
pub at_else : (x : Role) (e e' : End) (s d : ℕ) (P : History → History → Type 0) → OnChannel x e e' s d → ((st : History) → P st st) → P (e.histories s d) (e'.histories s d) → (k c : ℕ) → P (e.histories k c) (e'.histories k c)
at_else x e e' s d P q same here k c =
    elim (number_is k s) [
      | inl a ↦ elim (number_is c d) [
        | inl b ↦ subst (λ (m : ℕ). P (e.histories m c) (e'.histories m c)) (sym a) (subst (λ (n : ℕ). P (e.histories s n) (e'.histories s n)) (sym b) here)
        | inr b ↦ subst (λ (st : History). P (e.histories k c) st) (sym (q.else k c (λ h. b h.1))) (same (e.histories k c))
      ]
      | inr a ↦ subst (λ (st : History). P (e.histories k c) st) (sym (q.else k c (λ h. a h.0))) (same (e.histories k c))
    ]

-- ---- a call goes on

-- the history of the present use grows, and the record with it
pub record HistoryGrows (st st' : History) : Type 0 where
  pub restart : st'.restart ≡ st.restart
  pub uses : st'.use_ ≡ st.use_
  pub calls : (r u g : ℕ) → ((st'.epochs r u g).called ≡ (st.epochs r u g).called) × ((st'.epochs r u g).answered ≡ (st.epochs r u g).answered)
  pub logs : (r u g : ℕ) → ((r ≡ st.restart) × (u ≡ st.use_) → ⊥) → st'.epochs r u g ≡ st.epochs r u g

pub record GoesOn (x : Role) (e e' : End) (s d te : ℕ) (b : Book) (records : List RecordValue) (tags : List Tag) (p : Present (view_of x e te) tags x d (slot_at x d b)) : Type 0 where
  pub on : OnChannel x e e' s d
  pub opens : SlotIs (status_at x (channel_of e'.layer d)) (view_of x e te) tags x d (slot_at x d b)
  pub history : HistoryGrows (e.histories s d) (e'.histories s d)
  pub count : length records ≡ length b.records
  pub kept : (n : ℕ) (r' : RecordValue) → slice_get records n ≡ Some r'
      → (r : RecordValue) × (slice_get b.records n ≡ Some r) × (((n ≡ p.number) × Grows (view_of x e te) (view_of x e' te) p.session d r r') ⊎ ((n ≢ p.number) × (r' ≡ r)))

module _ (x : Role) (e e' : End) (s d te : ℕ) (b : Book) (records : List RecordValue) (tags : List Tag) (p : Present (view_of x e te) tags x d (slot_at x d b)) (q : GoesOn x e e' s d te b records tags p) where
  session_is : p.session ≡ s
  session_is = same_Some p.session s (sym p.up ∙ q.on.up)

  pub goes_same : SameEnd (view_of x e te) (view_of x e' te)
  goes_same = record {
    session = q.on.session;
    top = refl;
    begun = q.on.begun;
    restart = at_else x e e' s d (λ a c. c.restart ≡ a.restart) q.on (λ a. refl) q.history.restart;
    uses = at_else x e e' s d (λ a c. c.use_ ≡ a.use_) q.on (λ a. refl) q.history.uses;
  }

  pub goes_calls : SameCalls (view_of x e te) (view_of x e' te)
  goes_calls = record {
    called = λ k. at_else x e e' s d (λ a c. (c.epochs k.restart k.use_ 0).called ≡ (a.epochs k.restart k.use_ 0).called) q.on (λ a. refl) (q.history.calls k.restart k.use_ 0).0 k.session k.channel;
    answered = λ k. at_else x e e' s d (λ a c. (c.epochs k.restart k.use_ 0).answered ≡ (a.epochs k.restart k.use_ 0).answered) q.on (λ a. refl) (q.history.calls k.restart k.use_ 0).1 k.session k.channel;
  }

  pub goes_logs : (k : ChannelUse) (g : ℕ) → (k ≡ now (view_of x e te) p.session d → ⊥) → epoch_at (view_of x e' te) k g ≡ epoch_at (view_of x e te) k g
  goes_logs k g other =
      elim (number_is k.session s) [
        | inl a ↦ elim (number_is k.channel d) [
          | inl c ↦ subst (λ (m : ℕ). (e'.histories m k.channel).epochs k.restart k.use_ g ≡ (e.histories m k.channel).epochs k.restart k.use_ g) (sym a)
              (subst (λ (n : ℕ). (e'.histories s n).epochs k.restart k.use_ g ≡ (e.histories s n).epochs k.restart k.use_ g) (sym c)
              (q.history.logs k.restart k.use_ g (λ h. other (channel_use_is k (now (view_of x e te) p.session d) (a ∙ sym session_is) c (h.0 ∙ ap (λ (m : ℕ). (e.histories m d).restart) (sym session_is)) (h.1 ∙ ap (λ (m : ℕ). (e.histories m d).use_) (sym session_is))))))
          | inr c ↦ ap (λ (st : History). st.epochs k.restart k.use_ g) (q.on.else k.session k.channel (λ h. c h.1))
        ]
        | inr a ↦ ap (λ (st : History). st.epochs k.restart k.use_ g) (q.on.else k.session k.channel (λ h. a h.0))
      ]

  pub goes_epoch : (k c : ℕ) → ((k ≡ p.session) × (c ≡ d) → ⊥) → (e'.histories k c).epoch ≡ (e.histories k c).epoch
  goes_epoch k c other = ap (λ (st : History). st.epoch) (q.on.else k c (λ h. other (h.0 ∙ sym session_is, h.1)))

-- what holds of the end that went on, and of the other one as it is, holds of both
of_both : (x : Role) (e e' y : End) (te ty : ℕ) (P : Role → EndView → EndView → Type 0) → P x (view_of x e te) (view_of x e' te)
    → ((z : Role) → (z ≡ x → ⊥) → P z (view_of z y ty) (view_of z y ty)) → (z : Role) → P z (views_of x e y te ty z) (views_of x e' y te ty z)
of_both Dte e e' y te ty P here there Dte = here
of_both Dte e e' y te ty P here there Dce = there Dce (λ e. cc)
of_both Dce e e' y te ty P here there Dte = there Dte (λ e. cc)
of_both Dce e e' y te ty P here there Dce = here

pub carry_step : (x : Role) (e e' y : End) (s d te ty : ℕ) (b b' : Book) (tags : List Tag) (w : IsRight (views_of x e y te ty) (book_parts b) tags) (p : Present (view_of x e te) tags x d (slot_at x d b)) → GoesOn x e e' s d te b b'.records tags p
    → record (book_parts b) { records = b'.records } ≡ book_parts b' → IsRight (views_of x e' y te ty) (book_parts b') tags
carry_step Dte e e' y s d te ty b b' tags w p q same =
    subst (λ (v : BookParts). IsRight (views_of Dte e' y te ty) v tags) same
    (carried_right Dte d (views_of Dte e y te ty) (views_of Dte e' y te ty) (book_parts b) b'.records tags w (record {
      same = of_both Dte e e' y te ty (λ z v v'. SameEnd v v') (goes_same Dte e e' s d te b b'.records tags p q) (λ z no. same_end (view_of z y ty) (view_of z y ty) refl);
      calls = of_both Dte e e' y te ty (λ z v v'. SameCalls v v') (goes_calls Dte e e' s d te b b'.records tags p q) (λ z no. same_calls (view_of z y ty) (view_of z y ty) refl);
      status = of_both Dte e e' y te ty (λ z v v'. (c : ℕ) → ((z ≡ Dte) × (c ≡ d) → ⊥) → v'.status c ≡ v.status c) (λ c h. q.on.status c (λ k. h (refl, k))) (λ z no c h. refl);
      here = q.opens;
      now_there = p;
      logs = of_both Dte e e' y te ty (λ z v v'. (k : ChannelUse) (g : ℕ) → IsElse Dte (view_of Dte e te) p.session d z k → epoch_at v' k g ≡ epoch_at v k g)
          (λ k g h. goes_logs Dte e e' s d te b b'.records tags p q k g (λ a. h (refl, a))) (λ z no k g h. refl);
      epoch = of_both Dte e e' y te ty (λ z v v'. (k c : ℕ) → ((z ≡ Dte) × (k ≡ p.session) × (c ≡ d) → ⊥) → (v'.histories k c).epoch ≡ (v.histories k c).epoch)
          (λ k c h. goes_epoch Dte e e' s d te b b'.records tags p q k c (λ a. h (refl, a.0, a.1))) (λ z no k c h. refl);
      count = q.count;
      kept = q.kept;
    }))
carry_step Dce e e' y s d te ty b b' tags w p q same =
    subst (λ (v : BookParts). IsRight (views_of Dce e' y te ty) v tags) same
    (carried_right Dce d (views_of Dce e y te ty) (views_of Dce e' y te ty) (book_parts b) b'.records tags w (record {
      same = of_both Dce e e' y te ty (λ z v v'. SameEnd v v') (goes_same Dce e e' s d te b b'.records tags p q) (λ z no. same_end (view_of z y ty) (view_of z y ty) refl);
      calls = of_both Dce e e' y te ty (λ z v v'. SameCalls v v') (goes_calls Dce e e' s d te b b'.records tags p q) (λ z no. same_calls (view_of z y ty) (view_of z y ty) refl);
      status = of_both Dce e e' y te ty (λ z v v'. (c : ℕ) → ((z ≡ Dce) × (c ≡ d) → ⊥) → v'.status c ≡ v.status c) (λ c h. q.on.status c (λ k. h (refl, k))) (λ z no c h. refl);
      here = q.opens;
      now_there = p;
      logs = of_both Dce e e' y te ty (λ z v v'. (k : ChannelUse) (g : ℕ) → IsElse Dce (view_of Dce e te) p.session d z k → epoch_at v' k g ≡ epoch_at v k g)
          (λ k g h. goes_logs Dce e e' s d te b b'.records tags p q k g (λ a. h (refl, a))) (λ z no k g h. refl);
      epoch = of_both Dce e e' y te ty (λ z v v'. (k c : ℕ) → ((z ≡ Dce) × (k ≡ p.session) × (c ≡ d) → ⊥) → (v'.histories k c).epoch ≡ (v.histories k c).epoch)
          (λ k c h. goes_epoch Dce e e' s d te b b'.records tags p q k c (λ a. h (refl, a.0, a.1))) (λ z no k c h. refl);
      count = q.count;
      kept = q.kept;
    }))
