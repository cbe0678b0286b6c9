-- What a host says is confirmed was taken at the other end of the call.
use Rattle.std.proofs.Common.{◌≡◌, ℕ, zero, suc, Bool, true, List, [], ◌∷◌, Some, inl, inr, refl, sym, ap, subst, ◌∙◌}
use Rattle.std.specs.Prelude.{◌⊎◌, ◌++◌, map, length, slice_get}
use Rattle.std.proofs.lemmas.Option.{same_Some, none-some}
use Rattle.epochs.specs.Epoch.{SentEpoch}
use Rattle.epochs.specs.Confirmed.{Confirmed, Has, Confirms, sent_confirmed}
use Rattle.epochs.specs.Confirmed.Confirms.{nothing, drop_empty, join, skip}
use Rattle.record_laws.specs.Books.Delivery.{IsAllCovered}
use Rattle.record_laws.specs.Words.{all_taken_by, sent_by}
use Rattle.record_laws.proofs.Books.Delivery.{delivery_whole}
use Rattle.call_records.specs.Records.{RecordValue, PairValue}
use Rattle.call_records.specs.Register.{Register}
use Rattle.record_laws.specs.CallPaths.World.{Plan}
use Rattle.record_laws.specs.CallPaths.PathPromise.{PathHolds}
use Rattle.frame_lines.specs.Lines.{LineService}
use Rattle.net_events.specs.Network.{Network}
use Rattle.net_nodes.specs.Questions.{net_confirmed}
use Rattle.line_sim.specs.Receipts.{to_be_confirmed, HasTaken, AreInPair, IsTakenBeyond}
use Rattle.line_sim.proofs.Resting.{delivered}
use Rattle.network_laws.specs.Switched.IsSwitched.{IsAny}
use Rattle.network_laws.specs.Switched.InnerPromise.{NetworkPromise}
use Rattle.network_laws.proofs.Switched.PromiseAny.{promise_any}

-- ---- in a matching each sent epoch of which anything is confirmed is joined with one that has it

abbrev Meets : List Confirmed → Confirmed → Type 0
Meets xs y = (y.items ≡ 0) ⊎ ((i : ℕ) × (e : Confirmed) × (slice_get xs i ≡ Some e) × Has e y)

later : (x : Confirmed) (xs : List Confirmed) (y : Confirmed) → Meets xs y → Meets (x ∷ xs) y
later x xs y (inl none) = inl none
later x xs y (inr (i, e, there, has)) = inr (suc i, e, there, has)

meets : {xs ys : List Confirmed} → Confirms xs ys → (k : ℕ) (y : Confirmed) → slice_get ys k ≡ Some y → Meets xs y
meets nothing k y at = absurd (none-some y at)
meets (drop_empty {e} {taken} h m) k y at = later e taken y (meets m k y at)
meets (join {e} {f} h m) zero y at = inr (0, e, refl, subst (λ (g : Confirmed). Has e g) (same_Some f y at) h)
meets (join {e} {taken = ts} h m) (suc k) y at = later e ts y (meets m k y at)
meets (skip {f} h m) zero y at = inl (ap (λ (g : Confirmed). g.items) (sym (same_Some f y at)) ∙ h)
meets (skip h m) (suc k) y at = meets m k y at

last_sent : (before : List SentEpoch) (s : SentEpoch) → slice_get (map sent_confirmed (before ++ s ∷ [])) (length before) ≡ Some (sent_confirmed s)
last_sent [] s = refl
last_sent (e ∷ before) s = last_sent before s

-- all is covered, so what is confirmed is all that is to be
taken_of : (taker sender : RecordValue) → Confirms (all_taken_by taker) (sent_by sender) → IsAllCovered sender.sent → HasTaken taker sender
taken_of taker sender m all =
    subst (λ (n : ℕ). Meets (all_taken_by taker) (record (to_be_confirmed sender.sent) { items = n })) (delivery_whole sender.sent all)
    (meets m (length sender.sent_before) (sent_confirmed sender.sent) (last_sent sender.sent_before sender.sent))

-- ---- in a network

same_record : (g : Register) (n m : ℕ) (r q : RecordValue) → slice_get g.records n ≡ Some r → slice_get g.records m ≡ Some q → n ≡ m → r ≡ q
same_record g n m r q at there e = same_Some r q (sym at ∙ (ap (λ (k : ℕ). slice_get g.records k) e ∙ there))

in_pair : (plan : Plan) (g : Register) (pair : PairValue) (number other : ℕ) (sender taker : RecordValue) → PathHolds plan g pair → AreInPair pair number other
    → slice_get g.records number ≡ Some sender → slice_get g.records other ≡ Some taker → IsAllCovered sender.sent → HasTaken taker sender
in_pair plan g pair number other sender taker h (inl (caller, callee)) at there all =
    taken_of taker sender
    (subst (λ (r : RecordValue). Confirms (all_taken_by taker) (sent_by r)) (same_record g pair.caller number h.caller sender h.caller_there at caller)
    (subst (λ (r : RecordValue). Confirms (all_taken_by r) (sent_by h.caller)) (same_record g pair.callee other h.callee taker h.callee_there there callee) h.matches.onward_confirmed))
    all
in_pair plan g pair number other sender taker h (inr (callee, caller)) at there all =
    taken_of taker sender
    (subst (λ (r : RecordValue). Confirms (all_taken_by taker) (sent_by r)) (same_record g pair.callee number h.callee sender h.callee_there at callee)
    (subst (λ (r : RecordValue). Confirms (all_taken_by r) (sent_by h.callee)) (same_record g pair.caller other h.caller taker h.caller_there there caller) h.matches.backward_confirmed))
    all

pub taken_beyond : (L : LineService) (s : Network) (place channel : ℕ) → IsAny L s → L.faithful → (result : Bool)
    → result ≡ net_confirmed place channel s → result ≡ true → IsTakenBeyond place channel s
taken_beyond L s place channel n f result is says line l role i number other pair sender taker at end present paired both here there =
    let promise : NetworkPromise s = promise_any L s n f in
    in_pair promise.calls.plan s.register pair number other sender taker (promise.calls.paths.pairs_hold i pair paired) both here there
    (delivered L s place channel n f result is says line l role number sender at end present here)
