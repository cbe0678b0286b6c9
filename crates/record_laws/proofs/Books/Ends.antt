-- Events at an end that leave all calls as they are, and those that end all of them.
use Rattle.std.specs.Prelude.{◌≡◌, ℕ, zero, suc, ◌+◌, ◌≤◌, ◌⊎◌, Bool, true, false, cond, ◌&&◌, List, [], ◌∷◌, length, map, Option, Some, None}
use Rattle.std.proofs.Common.{inl, inr, refl, sym, ap, subst, ◌∙◌, arith}
use Rattle.std.proofs.lemmas.Option.{none-some}
use Rattle.link_timers.specs.declared.role.Role.{Role}
use Rattle.data_transfer.specs.Packets.{Note, Reason}
use Rattle.data_transfer.specs.Packets.Note.{Closed}
use Rattle.packet_channel.specs.Channel.{ChannelState, Channel, closed_channel}
use Rattle.packet_channel.specs.Channel.ChannelState.{Ready, OwnWaiting, FarWaiting, Transfer, Collision, OwnClear}
use Rattle.packet_layer.specs.Layer.{nth_channel, channel_of, closing_notes, had_call}
use Rattle.packet_laws.specs.LayerLine.{End}
use Rattle.call_records.specs.Book.{Book, Slot, slot_at, told, all_told}
use Rattle.record_laws.specs.Books.Told.{all_came_by}
use Rattle.record_laws.proofs.Books.Invariant.{CallStatus, ChannelUse, SlotIs}
use Rattle.record_laws.proofs.Books.Invariant.CallStatus.{Idle}
use Rattle.record_laws.proofs.Books.Ending.{Further}
use Rattle.record_laws.proofs.Books.Writing.{Closes, closes_none, closes_all, closed_all}
use Rattle.record_laws.proofs.Books.EndSteps.{status_of, status_at, within, has_come, view_of, end_step}
use Rattle.record_laws.proofs.Books.Steps.{SameHistory}
use Rattle.record_laws.proofs.Books.ChannelSteps.{KeptAt, IsEnd, sized, slot_of, top_of}
use Rattle.record_laws.proofs.Books.Layers.{closed_idle}

-- ---- nothing happens to a call

pub record Quiet (x : Role) (e e' : End) : Type 0 where
  pub session : e'.session ≡ e.session
  pub status : (c : ℕ) → status_at x (channel_of e'.layer c) ≡ status_at x (channel_of e.layer c)
  pub history : (s c : ℕ) → SameHistory (e.histories s c) (e'.histories s c)
  pub begun : (k : ChannelUse) → (view_of x e 0).begun k ≡ true → (view_of x e' 0).begun k ≡ true

pub quiet_step : (n : ℕ) (x : Role) (e e' y : End) (te ty : ℕ) (b : Book) (cs : List (Option ℕ)) → KeptAt n x e y te ty b cs → Quiet x e e' → IsEnd n x e' → KeptAt n x e' y te ty b cs
quiet_step n x e e' y te ty b cs k q end = record {
  tags = k.tags;
  callers = k.callers;
  right = end_step x e e' y te te ty b b k.tags (record {
    epochs = λ s c r u g. (q.history s c).epochs r u g;
    begun = q.begun;
    top = omega arith;
    up = λ s up. top_of x e y te ty b k.tags s k.right (sym q.session ∙ up);
    how = inl (record {
      session = q.session;
      channels = λ c. inl (record {
        status = q.status c;
        restart = λ s up. (q.history s c).restart;
        uses = λ s up. (q.history s c).uses;
        epoch = λ s up. (q.history s c).epoch;
        slot_is = refl;
      });
    });
    closed = closes_none x b;
  }) k.right;
  sizes = k.sizes;
  here = end;
  there = k.there;
}

-- ---- all calls of the end are over

call_status : (x : Role) (s : ChannelState) → (had_call s ≡ true) ⊎ (status_of x s ≡ Idle)
call_status x Ready = inr refl
call_status x OwnWaiting = inl refl
call_status x FarWaiting = inl refl
call_status x Transfer = inl refl
call_status x Collision = inl refl
call_status x OwnClear = inr refl

none_kept : (x : Role) (b b' : Book) (c : ℕ) → Closes x b b' → (slot_at x c b).present ≡ None → (slot_at x c b').present ≡ None
none_kept x b b' c q e =
    elim (q.present c) [
      | inl h ↦ h
      | inr h ↦ ap (λ (z : Slot). z.present) h ∙ e
    ]

none_at : (x : Role) (e : End) (b : Book) (reason : Reason) (c : ℕ) (o : Option Channel) → nth_channel e.layer.channels c ≡ o → (status_at x o ≡ Idle → (slot_at x c b).present ≡ None) → (slot_at x c (all_told x (closing_notes 1 reason e.layer.channels) b)).present ≡ None
none_at x e b reason c None found idle = none_kept x b (all_told x (closing_notes 1 reason e.layer.channels) b) c (closes_all x 1 reason e.layer.channels b) (idle refl)
none_at x e b reason zero (Some ch) found idle = absurd (none-some ch found)
none_at x e b reason (suc i) (Some ch) found idle =
    elim (call_status x ch.state) [
      | inl h ↦ let number : 1 + i ≡ suc i = omega arith in
          subst (λ (m : ℕ). (slot_at x m (all_told x (closing_notes 1 reason e.layer.channels) b)).present ≡ None) number (closed_all x 1 reason e.layer.channels b i ch found h)
      | inr h ↦ none_kept x b (all_told x (closing_notes 1 reason e.layer.channels) b) (suc i) (closes_all x 1 reason e.layer.channels b) (idle h)
    ]

all_none : (n : ℕ) (x : Role) (e y : End) (te ty : ℕ) (b : Book) (cs : List (Option ℕ)) (reason : Reason) → KeptAt n x e y te ty b cs → (c : ℕ) → (slot_at x c (all_told x (closing_notes 1 reason e.layer.channels) b)).present ≡ None
all_none n x e y te ty b cs reason k c = none_at x e b reason c (channel_of e.layer c) refl (λ h. subst (λ (m : CallStatus). SlotIs m (view_of x e te) k.tags x c (slot_at x c b)) h (slot_of x e y te ty b k.tags c k.right))

-- what closes calls adds no record
closing_same : (x : Role) (k : ℕ) (reason : Reason) (v : Bool) (notes : List Note) (cs : List (Option ℕ)) → ((u : Book) → all_came_by x notes u cs ≡ cs)
    → (u : Book) → all_came_by x (cond v (Closed k 9 0 reason ∷ notes) notes) u cs ≡ cs
closing_same x k reason true notes cs h u = h (told x (Closed k 9 0 reason) u)
closing_same x k reason false notes cs h u = h u

closings_same : (x : Role) (k : ℕ) (reason : Reason) (chs : List Channel) (b : Book) (cs : List (Option ℕ)) → all_came_by x (closing_notes k reason chs) b cs ≡ cs
closings_same x k reason [] b cs = refl
closings_same x k reason (ch ∷ chs) b cs =
    closing_same x k reason (had_call ch.state) (closing_notes (suc k) reason chs) cs (λ u. closings_same x (suc k) reason chs u cs) b

pub record AllOver (x : Role) (e e' : End) : Type 0 where
  pub channels : e'.layer.channels ≡ map (λ ch. closed_channel) e.layer.channels
  pub epochs : (s c r u g : ℕ) → (e'.histories s c).epochs r u g ≡ (e.histories s c).epochs r u g
  pub begun : (k : ChannelUse) → (view_of x e 0).begun k ≡ true → (view_of x e' 0).begun k ≡ true

-- by a restart
pub restart_step : (n : ℕ) (x : Role) (e e' y : End) (te ty : ℕ) (b : Book) (cs : List (Option ℕ)) (reason : Reason) → KeptAt n x e y te ty b cs → AllOver x e e' → e'.session ≡ e.session → ((s c : ℕ) → e.session ≡ Some s → Further (e.histories s c) (e'.histories s c)) → IsEnd n x e'
    → KeptAt n x e' y te ty (all_told x (closing_notes 1 reason e.layer.channels) b) (all_came_by x (closing_notes 1 reason e.layer.channels) b cs)
restart_step n x e e' y te ty b cs reason k q same further end =
    let b' : Book = all_told x (closing_notes 1 reason e.layer.channels) b in
    let closed : Closes x b b' = closes_all x 1 reason e.layer.channels b in
    record {
      tags = k.tags;
      callers = k.callers ∙ sym (closings_same x 1 reason e.layer.channels b cs);
      right = end_step x e e' y te te ty b b' k.tags (record {
        epochs = q.epochs;
        begun = q.begun;
        top = omega arith;
        up = λ s up. top_of x e y te ty b k.tags s k.right (sym same ∙ up);
        how = inl (record {
          session = same;
          channels = λ c. inr (record {
            status = ap (λ (l : List Channel). status_at x (nth_channel l c)) q.channels ∙ closed_idle x e.layer.channels c;
            further = λ s up. further s c up;
            present = all_none n x e y te ty b cs reason k c;
          });
        });
        closed = closed;
      }) k.right;
      sizes = sized n b b' closed.size k.sizes;
      here = end;
      there = k.there;
    }

-- by the link's session
pub session_step : (n : ℕ) (x : Role) (e e' y : End) (te te' ty : ℕ) (b : Book) (cs : List (Option ℕ)) (reason : Reason) → KeptAt n x e y te ty b cs → AllOver x e e' → te ≤ te' → ((s : ℕ) → e'.session ≡ Some s → (s ≡ te') × (has_come e s ≡ false)) → IsEnd n x e'
    → KeptAt n x e' y te' ty (all_told x (closing_notes 1 reason e.layer.channels) b) (all_came_by x (closing_notes 1 reason e.layer.channels) b cs)
session_step n x e e' y te te' ty b cs reason k q top new end =
    let b' : Book = all_told x (closing_notes 1 reason e.layer.channels) b in
    let closed : Closes x b b' = closes_all x 1 reason e.layer.channels b in
    record {
      tags = k.tags;
      callers = k.callers ∙ sym (closings_same x 1 reason e.layer.channels b cs);
      right = end_step x e e' y te te' ty b b' k.tags (record {
        epochs = q.epochs;
        begun = q.begun;
        top = top;
        up = λ s up. (new s up).0;
        how = inr (record {
          fresh = λ z up. ap (λ (v : Bool). v && within (length e.layer.channels) z.channel) (new z.session up).1;
          status = λ c. ap (λ (l : List Channel). status_at x (nth_channel l c)) q.channels ∙ closed_idle x e.layer.channels c;
          present = λ c. all_none n x e y te ty b cs reason k c;
        });
        closed = closed;
      }) k.right;
      sizes = sized n b b' closed.size k.sizes;
      here = end;
      there = k.there;
    }
