-- What passes along a way.
use Rattle.std.proofs.Common.{◌≡◌, ℕ, List, Some, refl, sym, ap, subst, ◌∙◌}
use Rattle.std.specs.Prelude.{slice_get, map, [], ◌∷◌, ◌++◌}
use Rattle.std.proofs.lemmas.Option.{same_Some}
use Rattle.epochs.specs.Epoch.{Epoch, SentEpoch, TakenEpoch, sent_epoch, taken_epoch}
use Rattle.epochs.specs.Match.{Match}
use Rattle.epochs.specs.Confirmed.{Confirmed, Confirms, sent_confirmed, taken_confirmed}
use Rattle.epochs.specs.Confirmed.Confirms.{nothing, drop_empty, join, skip}
use Rattle.epochs.specs.ConfirmedLaws.{AreEmpty}
use Rattle.epochs.proofs.Confirms.{confirms_itself, confirms_trans, aligned_confirms, confirms_match, confirmed_taken}
use Rattle.epochs.proofs.Prefixes.{empty-prefix}
use Rattle.call_records.specs.Records.{RecordValue, sent_epochs, taken_epochs}
use Rattle.record_laws.specs.Words.{IsTakenFrom, TookNothing, sent_by, taken_by, all_taken_by}
use Rattle.record_laws.specs.Registers.RegisterPromise.{PairHolds}
use Rattle.record_laws.specs.CallPaths.World.{World, Plan}
use Rattle.record_laws.specs.CallPaths.Seen.{Way}
use Rattle.record_laws.specs.CallPaths.Parts.{CallsHold, JoinsHold, JoinHolds}
use Rattle.record_laws.proofs.CallPaths.Ways.{along}

-- ---- a line

pub line_confirms : (sender taker : RecordValue) → IsTakenFrom sender taker → Confirms (taken_by taker) (sent_by sender)
line_confirms sender taker h = aligned_confirms (sender.sent_before ++ sender.sent ∷ []) (taker.taken_before ++ taker.taken ∷ []) h

-- ---- a way

-- what one record sent comes of what the other one sent, and what the other one took of what this one took
pub record Carried (x b : RecordValue) : Type 0 where
  pub onward : Confirms (sent_by b) (sent_by x)
  pub backward : Confirms (taken_by x) (taken_by b)
  pub far : b.far ≡ x.far

pub record CarriedTo (w : World) (x : RecordValue) (b : ℕ) : Type 0 where
  pub record_ : RecordValue
  pub there : slice_get w.whole.records b ≡ Some record_
  pub carried : Carried x record_

over_hop : (w : World) (r x : RecordValue) (y a b : ℕ) → CarriedTo w r y → (h : PairHolds w.whole (record { caller = y; callee = a }))
    → (from to : RecordValue) → slice_get w.whole.records a ≡ Some from → slice_get w.whole.records b ≡ Some to
    → Confirms (sent_by to) (taken_by from) → Confirms (sent_by from) (taken_by to) → to.far ≡ from.own → CarriedTo w r b
over_hop w r x y a b c h from to from_there to_there onward backward far =
    let caller : h.caller ≡ c.record_ = same_Some h.caller c.record_ (sym h.caller_there ∙ c.there) in
    let callee : h.callee ≡ from = same_Some h.callee from (sym h.callee_there ∙ from_there) in
    let sent : Confirms (taken_by from) (sent_by c.record_) =
    subst (λ (q : RecordValue). Confirms (taken_by q) (sent_by c.record_)) callee
    (subst (λ (q : RecordValue). Confirms (taken_by h.callee) (sent_by q)) caller (line_confirms h.caller h.callee h.matches.onward_aligned)) in
    let taken : Confirms (taken_by c.record_) (sent_by from) =
    subst (λ (q : RecordValue). Confirms (taken_by c.record_) (sent_by q)) callee
    (subst (λ (q : RecordValue). Confirms (taken_by q) (sent_by h.callee)) caller (line_confirms h.callee h.caller h.matches.backward_aligned)) in
    record {
      record_ = to;
      there = to_there;
      carried = record {
        onward = confirms_trans c.carried.onward (sent_by to) (confirms_trans sent (sent_by to) onward);
        backward = confirms_trans backward (taken_by r) (confirms_trans taken (taken_by r) c.carried.backward);
        far = far ∙ ap (λ (q : RecordValue). q.own) (sym callee) ∙ h.is_right.own ∙ ap (λ (q : RecordValue). q.far) caller ∙ c.carried.far;
      };
    }

pub carried_along : (plan : Plan) (w : World) → CallsHold w → JoinsHold plan w → (x b : ℕ) → Way w.origins w.joins x b
    → (r : RecordValue) → slice_get w.whole.records x ≡ Some r → CarriedTo w r b
carried_along plan w calls joins =
    along w.origins w.joins (λ x b. (r : RecordValue) → slice_get w.whole.records x ≡ Some r → CarriedTo w r b)
    (λ x r there. record {
      record_ = r;
      there = there;
      carried = record { onward = confirms_itself (sent_by r); backward = confirms_itself (taken_by r); far = refl };
    })
    (λ x y a b way h came joined r there.
    let j : JoinHolds plan w a b = joins.joins a b joined in
    over_hop w r r y a b (h r there) (calls.came a y came) j.from j.to j.from_there j.to_there j.onward j.backward j.far)

-- ---- what follows

sent_same : (es : List SentEpoch) → map (λ (e : Confirmed). e.epoch) (map sent_confirmed es) ≡ map sent_epoch es
sent_same [] = refl
sent_same (e ∷ es) = ap (λ (fs : List Epoch). sent_epoch e ∷ fs) (sent_same es)

taken_same : (es : List TakenEpoch) → map (λ (e : Confirmed). e.epoch) (map taken_confirmed es) ≡ map taken_epoch es
taken_same [] = refl
taken_same (e ∷ es) = ap (λ (fs : List Epoch). taken_epoch e ∷ fs) (taken_same es)

pub all_confirmed : (taker sender : RecordValue) → Confirms (taken_by taker) (sent_by sender) → Confirms (all_taken_by taker) (sent_by sender)
all_confirmed taker sender m = confirmed_taken (taker.taken_before ++ taker.taken ∷ []) (sent_by sender) m

pub all_match : (taker sender : RecordValue) → Confirms (taken_by taker) (sent_by sender) → Match (taken_epochs taker) (sent_epochs sender)
all_match taker sender m =
    subst (λ (es : List Epoch). Match (taken_epochs taker) es) (sent_same (sender.sent_before ++ sender.sent ∷ []))
    (subst (λ (es : List Epoch). Match es (map (λ (e : Confirmed). e.epoch) (sent_by sender))) (taken_same (taker.taken_before ++ taker.taken ∷ []))
    (confirms_match (taken_by taker) (sent_by sender) m))

-- ---- nothing comes of nothing

pub empty_of_empty : {xs ys : List Confirmed} → Confirms xs ys → AreEmpty ys → AreEmpty xs
empty_of_empty nothing h = tt
empty_of_empty (drop_empty e m) h = (e, empty_of_empty m h)
empty_of_empty (join c m) h = (empty-prefix c.begins h.0, empty_of_empty m h.1)
empty_of_empty (skip e m) h = empty_of_empty m h.1

pub took_nothing : (es : List TakenEpoch) → AreEmpty (map taken_confirmed es) → TookNothing (map taken_epoch es)
took_nothing [] h = tt
took_nothing (e ∷ es) h = (record { items = h.0.items; interrupts = h.0.interrupts }, took_nothing es h.1)

pub are_empty : (es : List TakenEpoch) → TookNothing (map taken_epoch es) → AreEmpty (map taken_confirmed es)
are_empty [] h = tt
are_empty (e ∷ es) h = (record { items = h.0.items; interrupts = h.0.interrupts }, are_empty es h.1)
