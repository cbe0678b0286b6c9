-- What is right of the book of a line, with the law of the line, gives what the book promises.
use Rattle.std.specs.Prelude.{◌≡◌, ℕ, suc, ◌≤◌, length, ◌⊎◌, Bool, true, false, ◌||◌, List, [], ◌∷◌, ◌++◌, map, slice_get, Option, Some}
use Rattle.std.proofs.Common.{inl, inr, refl, sym, ap, subst, ◌∙◌, arith, true≢false}
use Rattle.std.proofs.lemmas.Option.{none-some, same_Some, slice_get_within}
use Rattle.link_timers.specs.declared.role.Role.{Role}
use Rattle.link_timers.specs.declared.role.Role.TheVariants.{Dte, Dce}
use Rattle.link_timers.specs.Role.{other_of}
use Rattle.epochs.specs.Item.{DataPacket}
use Rattle.epochs.specs.Prefix.{IsListPrefix}
use Rattle.epochs.specs.Epoch.{SentEpoch, TakenEpoch, nothing_sent, nothing_taken, taken_epoch, IsEmpty, IsAligned, AreAligned}
use Rattle.epochs.proofs.MatchedLists.{aligned-match}
use Rattle.std.proofs.lemmas.List.{length-map}
use Rattle.data_transfer.specs.Packets.{Datum}
use Rattle.packet_laws.specs.History.{Epoch}
use Rattle.packet_laws.specs.LayerLineLaw.{Aligned, HasNoLogs}
use Rattle.call_records.specs.Records.{RecordValue, PairValue, taken_epochs}
use Rattle.call_records.specs.Book.{Book, side_of, packet_of}
use Rattle.record_laws.specs.Books.Headline.{AreEnds, PairHolds, CallsHold, BookHolds}
use Rattle.record_laws.specs.Words.{IsTakenFrom, IsIn, TookNothing}
use Rattle.record_laws.proofs.Books.Basics.{twice, get_there, map_at, confirmed_of}
use Rattle.record_laws.proofs.Books.Invariant.{EndView, ChannelUse, Kind, Tag, came_from, placed_of, book_parts, IsLive, Tells, IsCaller, IsCallee, IsPaired, IsRight, caller_of, callee_of, epoch_at, answered_at, sent_of, taken_of, nth_sent, nth_taken, all_sent, all_taken, Passed, HasSent, HasTaken, passed_sent, passed_taken}
use Rattle.record_laws.proofs.Books.Invariant.Kind.{Caller, Callee, Cancelled}
use Rattle.record_laws.proofs.Books.Carrying.{same_tag}
use Rattle.record_laws.proofs.Books.Cancelling.{caller_not_callee, caller_not_cancelled, callee_not_cancelled}

-- what the law of the line says of each use that may have a call
pub record LineSays (views : Role → EndView) : Type 0 where
  pub aligned : (y : Role) (k : ChannelUse) (g : ℕ) → (views y).begun k ≡ true → Aligned (epoch_at (views y) k g) (epoch_at (views (other_of y)) k g)
  pub aligned_back : (y : Role) (k : ChannelUse) (g : ℕ) → (views y).begun k ≡ true → Aligned (epoch_at (views (other_of y)) k g) (epoch_at (views y) k g)
  pub answers : (y : Role) (k : ChannelUse) (g : ℕ) → (views y).begun k ≡ true → (HasNoLogs (epoch_at (views y) k g) → ⊥)
      → (answered_at (views y) k || answered_at (views (other_of y)) k) ≡ true

-- ---- lists that agree number by number

record IsFrom (s t : Passed) : Type 0 where
  pub packets : IsListPrefix DataPacket t.packets s.packets
  pub interrupts : IsListPrefix (List ℕ) t.interrupts s.interrupts
  pub covered : s.count ≤ t.count
  pub released : t.count ≤ length t.packets

aligned_of : (s : SentEpoch) (t : TakenEpoch) → IsFrom (passed_sent s) (passed_taken t) → IsAligned s t
aligned_of s t h = record { packets = h.packets; interrupts = h.interrupts; covered = h.covered; released = h.released }

numbered : (ss : List SentEpoch) (ts : List TakenEpoch) → ((g : ℕ) → IsFrom (nth_sent ss g) (nth_taken ts g)) → AreAligned ss ts
numbered [] [] h = tt
numbered [] (t ∷ ts) h = (aligned_of nothing_sent t (h 0), numbered [] ts (λ g. h (suc g)))
numbered (s ∷ ss) [] h = (aligned_of s nothing_taken (h 0), numbered ss [] (λ g. h (suc g)))
numbered (s ∷ ss) (t ∷ ts) h = (aligned_of s t (h 0), numbered ss ts (λ g. h (suc g)))

map_append : (xs ys : List Datum) → map packet_of (xs ++ ys) ≡ map packet_of xs ++ map packet_of ys
map_append [] ys = refl
map_append (x ∷ xs) ys = ap (λ (l : List DataPacket). packet_of x ∷ l) (map_append xs ys)

begins : (e f : Epoch) (s t : Passed) → Aligned e f → HasSent s (sent_of e) → HasTaken t (taken_of f) → IsFrom s t
begins e f s t a mine yours =
    let all : f.released ≤ length (map packet_of f.taken) = subst (λ (n : ℕ). f.released ≤ n) (sym (length-map f.taken packet_of)) a.released_is_taken in
    record {
      packets = record {
        rest = map packet_of a.packets.0;
        whole = ap (λ (l : List DataPacket). l ++ map packet_of a.packets.0) yours.packets ∙ sym (map_append f.taken a.packets.0) ∙ ap (λ (l : List Datum). map packet_of l) a.packets.1 ∙ sym mine.packets;
      };
      interrupts = record { rest = a.interrupts.0; whole = ap (λ (l : List (List ℕ)). l ++ a.interrupts.0) yours.interrupts ∙ a.interrupts.1 ∙ sym mine.interrupts };
      covered = let here = mine.count in let there = yours.count in let released = a.covered_is_released in omega arith;
      released = let here = yours.count in subst (λ (l : List DataPacket). t.count ≤ length l) (sym yours.packets) (omega arith);
    }

taken_from : (f y : EndView) (k : ChannelUse) (s t : RecordValue) → ((g : ℕ) → Aligned (epoch_at f k g) (epoch_at y k g)) → Tells f k s → Tells y k t → IsTakenFrom s t
taken_from f y k s t a mine yours = numbered (all_sent s) (all_taken t)
    (λ g. begins (epoch_at f k g) (epoch_at y k g) (nth_sent (all_sent s) g) (nth_taken (all_taken t) g) (a g) (mine.sent g) (yours.taken g))

-- ---- what was taken

-- something was taken in the epoch
abbrev Took : Passed → Type 0
Took t = (t.packets ≡ []) × (t.interrupts ≡ []) → ⊥

cons_not_nil : {X : Type 0} (x : X) (xs : List X) → x ∷ xs ≡ [] → ⊥
cons_not_nil x xs e = cc

took_one : (packets : List DataPacket) (interrupts : List (List ℕ)) (released : ℕ)
    → IsEmpty (taken_epoch (record { packets = packets; interrupts = interrupts; released = released })) ⊎ Took (record { packets = packets; interrupts = interrupts; count = released })
took_one [] [] released = inl (record { items = refl; interrupts = refl })
took_one (p ∷ ps) is released = inr (λ h. cons_not_nil p ps h.0)
took_one [] (i ∷ is) released = inr (λ h. cons_not_nil i is h.1)

took_any : (ts : List TakenEpoch) → TookNothing (map taken_epoch ts) ⊎ ((g : ℕ) × Took (nth_taken ts g))
took_any [] = inl tt
took_any (t ∷ ts) =
    elim (took_one t.packets t.interrupts t.released) [
      | inl e ↦ elim (took_any ts) [
        | inl h ↦ inl (e, h)
        | inr h ↦ inr (suc h.0, h.1)
      ]
      | inr h ↦ inr (0, h)
    ]

no_logs_took_nothing : (e : Epoch) → HasNoLogs e → Took (taken_of e) → ⊥
no_logs_took_nothing e h t = t (ap (λ (z : Epoch). map packet_of z.taken) h, ap (λ (z : Epoch). z.interrupts_taken) h)

or_cases : (a b : Bool) → (a || b) ≡ true → (a ≡ true) ⊎ (b ≡ true)
or_cases true b e = inl refl
or_cases false b e = inr e

pub kind_cases : (k : Kind) → (k ≡ Caller) ⊎ (((a : ℕ) × (k ≡ Callee a)) ⊎ (k ≡ Cancelled))
kind_cases Caller = inl refl
kind_cases (Callee a) = inr (inl (a, refl))
kind_cases Cancelled = inr (inr refl)

abbrev InPair : List PairValue → ℕ → Type 0
InPair pairs n = (i : ℕ) × (p : PairValue) × (slice_get pairs i ≡ Some p) × IsIn p n

from_caller : (pairs : List PairValue) (n : ℕ) → IsPaired caller_of pairs n → InPair pairs n
from_caller pairs n p = (p.0, p.1, p.2, inl p.3)

from_callee : (pairs : List PairValue) (n : ℕ) → IsPaired callee_of pairs n → InPair pairs n
from_callee pairs n p = (p.0, p.1, p.2, inr p.3)

ends_are : (b : Book) (t : Role) → AreEnds b (side_of (other_of t) b).node (side_of t b).node
ends_are b Dte = inr (refl, refl)
ends_are b Dce = inl (refl, refl)

node_at : (b : Book) (x : Role) (n : ℕ) → n ≡ (side_of x b).node → (n ≡ b.dte.node) ⊎ (n ≡ b.dce.node)
node_at b Dte n e = inl e
node_at b Dce n e = inr e

same_callers : (tags : List Tag) (rs : List RecordValue) → length tags ≡ length rs
    → ((n : ℕ) (t : Tag) (r : RecordValue) → slice_get tags n ≡ Some t → slice_get rs n ≡ Some r → r.caller ≡ came_from t)
    → map (λ r. r.caller) rs ≡ map came_from tags
same_callers [] [] count h = refl
same_callers [] (r ∷ rs) count h = absurd (omega arith)
same_callers (t ∷ tags) [] count h = absurd (omega arith)
same_callers (t ∷ tags) (r ∷ rs) count h =
    ap (λ (o : Option ℕ). o ∷ map (λ x. x.caller) rs) (h 0 t r refl refl)
    ∙ ap (λ (os : List (Option ℕ)). came_from t ∷ os) (same_callers tags rs (omega arith) (λ n u x e g. h (suc n) u x e g))

-- each record has what its tag says of where its call came from
pub callers_are : (views : Role → EndView) (b : Book) (tags : List Tag) → IsRight views (book_parts b) tags → map (λ r. r.caller) b.records ≡ map came_from tags
callers_are views b tags w = same_callers tags b.records w.count (λ n t r e g. (w.fits n t r e g).caller)

module _ (views : Role → EndView) (b : Book) (tags : List Tag) (w : IsRight views (book_parts b) tags) (says : LineSays views) where
  record_of : (n : ℕ) (t : Tag) → slice_get tags n ≡ Some t → (r : RecordValue) × (slice_get b.records n ≡ Some r)
  record_of n t e = get_there b.records n (let h = slice_get_within tags n t e in let c = w.count in omega arith)

  -- of a call that came in, accepted or not
  call_holds : (a n : ℕ) (t : Tag) → slice_get tags n ≡ Some t → t.kind ≡ Callee a → PairHolds b (record { caller = a; callee = n })
  call_holds a n t t_there kind =
      let m = (w.means n t t_there).callee a kind in
      let u = m.mate in
      let mine = record_of a u m.there in
      let yours = record_of n t t_there in
      let fm = w.fits a u mine.0 m.there mine.1 in
      let fy = w.fits n t yours.0 t_there yours.1 in
      let lm : IsLive u.kind = λ h. caller_not_cancelled (sym m.calls ∙ h) in
      let ly : IsLive t.kind = λ h. callee_not_cancelled a (sym kind ∙ h) in
      let begun = (w.stands n t t_there).begun in
      let tells : Tells (views (other_of t.role)) t.channel_use mine.0 = subst (λ (y : Role). Tells (views y) t.channel_use mine.0) m.role (subst (λ (k : ChannelUse). Tells (views u.role) k mine.0) m.channel_use (fm.tells lm)) in
      let onward : IsTakenFrom mine.0 yours.0 = taken_from (views (other_of t.role)) (views t.role) t.channel_use mine.0 yours.0 (λ g. says.aligned_back t.role t.channel_use g begun) tells (fy.tells ly) in
      let backward : IsTakenFrom yours.0 mine.0 = taken_from (views t.role) (views (other_of t.role)) t.channel_use yours.0 mine.0 (λ g. says.aligned t.role t.channel_use g begun) (fy.tells ly) tells in
      record {
        caller = mine.0;
        callee = yours.0;
        caller_there = mine.1;
        callee_there = yours.1;
        matches = record {
          onward_aligned = onward;
          backward_aligned = backward;
          onward = aligned-match (all_sent mine.0) (all_taken yours.0) onward;
          backward = aligned-match (all_sent yours.0) (all_taken mine.0) backward;
          onward_confirmed = confirmed_of mine.0 yours.0 onward;
          backward_confirmed = confirmed_of yours.0 mine.0 backward;
        };
        is_right = record {
          order = let a = fm.number in let c = fy.number in let l = m.order in omega arith;
          ends = subst (λ (n : ℕ). AreEnds b n yours.0.node) (sym (fm.node_is ∙ ap (λ (y : Role). (side_of y b).node) m.role))
              (subst (λ (n : ℕ). AreEnds b (side_of (other_of t.role) b).node n) (sym fy.node_is) (ends_are b t.role));
          address = fy.own ∙ sym m.address ∙ sym fm.far;
          calling = fy.far ∙ sym m.far ∙ sym fm.own;
        };
      }

  pair_holds : (i : ℕ) (p : PairValue) → slice_get b.pairs i ≡ Some p → PairHolds b p
  pair_holds i p e = let o = w.pairs i p e in call_holds p.caller p.callee o.tag o.there o.kind

  number_of : (i : ℕ) (r : RecordValue) → slice_get b.records i ≡ Some r → r.number ≡ i
  number_of i r e =
      let t = get_there tags i (let h = slice_get_within b.records i r e in let c = w.count in omega arith) in
      (w.fits i t.0 r t.1 e).number

  node_of : (i : ℕ) (r : RecordValue) → slice_get b.records i ≡ Some r → (r.node ≡ b.dte.node) ⊎ (r.node ≡ b.dce.node)
  node_of i r e =
      let t = get_there tags i (let h = slice_get_within b.records i r e in let c = w.count in omega arith) in
      node_at b t.0.role r.node (w.fits i t.0 r t.1 e).node_is

  -- a caller is in one pair at most
  same_caller : (i j : ℕ) (p q : PairValue) → slice_get b.pairs i ≡ Some p → slice_get b.pairs j ≡ Some q → p.caller ≡ q.caller → i ≡ j
  same_caller i j p q ei ej e =
      let o = w.pairs i p ei in
      let v = w.pairs j q ej in
      let m = (w.means p.callee o.tag o.there).callee p.caller o.kind in
      let n = (w.means q.callee v.tag v.there).callee q.caller v.kind in
      let same : m.mate ≡ n.mate = same_tag tags q.caller m.mate n.mate (ap (λ (k : ℕ). slice_get tags k) (sym e) ∙ m.there) n.there in
      let roles : o.tag.role ≡ v.tag.role = sym (twice o.tag.role) ∙ ap other_of (sym m.role ∙ ap (λ (u : Tag). u.role) same ∙ n.role) ∙ twice v.tag.role in
      let spots : o.tag.channel_use ≡ v.tag.channel_use = sym m.channel_use ∙ ap (λ (u : Tag). u.channel_use) same ∙ n.channel_use in
      w.once i j p q ei ej (w.alone p.callee q.callee o.tag v.tag o.there v.there
      (λ h. callee_not_cancelled p.caller (sym o.kind ∙ h)) (λ h. callee_not_cancelled q.caller (sym v.kind ∙ h)) roles spots)

  -- a caller of a pair is no callee
  not_both : (i j : ℕ) (p q : PairValue) → slice_get b.pairs i ≡ Some p → slice_get b.pairs j ≡ Some q → p.caller ≡ q.callee → ⊥
  not_both i j p q ei ej e =
      let o = w.pairs i p ei in
      let v = w.pairs j q ej in
      let m = (w.means p.callee o.tag o.there).callee p.caller o.kind in
      let same : m.mate ≡ v.tag = same_tag tags q.callee m.mate v.tag (ap (λ (k : ℕ). slice_get tags k) (sym e) ∙ m.there) v.there in
      caller_not_callee q.caller (sym m.calls ∙ ap (λ (u : Tag). u.kind) same ∙ v.kind)

  in_one : (i j : ℕ) (p q : PairValue) (n : ℕ) → slice_get b.pairs i ≡ Some p → slice_get b.pairs j ≡ Some q → IsIn p n → IsIn q n → i ≡ j
  in_one i j p q n ei ej (inl a) (inl c) = same_caller i j p q ei ej (a ∙ sym c)
  in_one i j p q n ei ej (inl a) (inr c) = absurd (not_both i j p q ei ej (a ∙ sym c))
  in_one i j p q n ei ej (inr a) (inl c) = absurd (not_both j i q p ej ei (c ∙ sym a))
  in_one i j p q n ei ej (inr a) (inr c) = w.once i j p q ei ej (a ∙ sym c)

  took_caller : (n : ℕ) (t : Tag) → IsCaller (views t.role) (views (other_of t.role)) b.pairs n t → (answered_at (views t.role) t.channel_use || answered_at (views (other_of t.role)) t.channel_use) ≡ true → InPair b.pairs n
  took_caller n t z a =
      elim (or_cases (answered_at (views t.role) t.channel_use) (answered_at (views (other_of t.role)) t.channel_use) a) [
        | inl h ↦ absurd (true≢false (sym h ∙ z.not_answered))
        | inr h ↦ from_caller b.pairs n (z.paired h)
      ]

  took_callee : (n k : ℕ) (t : Tag) → IsCallee (views t.role) b.pairs tags n k t → (answered_at (views t.role) t.channel_use || answered_at (views (other_of t.role)) t.channel_use) ≡ true → InPair b.pairs n
  took_callee n k t z a =
      elim (or_cases (answered_at (views t.role) t.channel_use) (answered_at (views (other_of t.role)) t.channel_use) a) [
        | inl h ↦ from_callee b.pairs n (z.paired h)
        | inr h ↦ absurd (true≢false (sym h ∙ ap (λ (y : Role). answered_at (views y) t.channel_use) (sym z.role) ∙ ap (λ (s : ChannelUse). answered_at (views z.mate.role) s) (sym z.channel_use)
            ∙ ((w.means k z.mate z.there).caller z.calls).not_answered))
      ]

  took_live : (n : ℕ) (t : Tag) (r : RecordValue) (g : ℕ) → slice_get tags n ≡ Some t → slice_get b.records n ≡ Some r → IsLive t.kind → Took (nth_taken (all_taken r) g) → (answered_at (views t.role) t.channel_use || answered_at (views (other_of t.role)) t.channel_use) ≡ true
  took_live n t r g there got live took =
      let f = w.fits n t r there got in
      says.answers t.role t.channel_use g (w.stands n t there).begun
      (λ h. no_logs_took_nothing (epoch_at (views t.role) t.channel_use g) h (λ z. took (((f.tells live).taken g).packets ∙ z.0, ((f.tells live).taken g).interrupts ∙ z.1)))

  took_some : (n : ℕ) (t : Tag) (r : RecordValue) (g : ℕ) → slice_get tags n ≡ Some t → slice_get b.records n ≡ Some r → Took (nth_taken (all_taken r) g) → InPair b.pairs n
  took_some n t r g there got took =
      elim (kind_cases t.kind) [
        | inl h ↦ took_caller n t ((w.means n t there).caller h) (took_live n t r g there got (λ e. caller_not_cancelled (sym h ∙ e)) took)
        | inr (inl h) ↦ took_callee n h.0 t ((w.means n t there).callee h.0 h.1) (took_live n t r g there got (λ e. callee_not_cancelled h.0 (sym h.1 ∙ e)) took)
        | inr (inr h) ↦ absurd (took ((((w.fits n t r there got).none h).taken g).packets, (((w.fits n t r there got).none h).taken g).interrupts))
      ]

  took_of : (n : ℕ) (r : RecordValue) → slice_get b.records n ≡ Some r → TookNothing (taken_epochs r) ⊎ InPair b.pairs n
  took_of n r e =
      let t = get_there tags n (let h = slice_get_within b.records n r e in let c = w.count in omega arith) in
      elim (took_any (all_taken r)) [
        | inl h ↦ inl h
        | inr h ↦ inr (took_some n t.0 r h.0 t.1 e h.1)
      ]

  -- of one call that was placed at most one came in
  came_once : (a m n : ℕ) (t u : Tag) → slice_get tags m ≡ Some t → slice_get tags n ≡ Some u → t.kind ≡ Callee a → u.kind ≡ Callee a → m ≡ n
  came_once a m n t u em en kt ku =
      let p = (w.means m t em).callee a kt in
      let q = (w.means n u en).callee a ku in
      let same : p.mate ≡ q.mate = same_tag tags a p.mate q.mate p.there q.there in
      let roles : t.role ≡ u.role = sym (twice t.role) ∙ ap other_of (sym p.role ∙ ap (λ (z : Tag). z.role) same ∙ q.role) ∙ twice u.role in
      let uses : t.channel_use ≡ u.channel_use = sym p.channel_use ∙ ap (λ (z : Tag). z.channel_use) same ∙ q.channel_use in
      w.alone m n t u em en (λ h. callee_not_cancelled a (sym kt ∙ h)) (λ h. callee_not_cancelled a (sym ku ∙ h)) roles uses

  -- the record of which another one came
  is_callee : (n a : ℕ) → slice_get (map came_from tags) n ≡ Some (Some a) → (t : Tag) × (slice_get tags n ≡ Some t) × (t.kind ≡ Callee a)
  is_callee n a e = let t = map_at came_from tags n (Some a) e in (t.0, t.1, by_kind t.0.kind a t.2)
    where
      by_kind : (k : Kind) (a : ℕ) → placed_of k ≡ Some a → k ≡ Callee a
      by_kind Caller a e = absurd (none-some a e)
      by_kind Cancelled a e = absurd (none-some a e)
      by_kind (Callee c) a e = ap (λ (i : ℕ). Callee i) (same_Some c a e)

  pub calls_concluded : CallsHold b (map came_from tags)
  calls_concluded = record {
    count = length-map tags came_from ∙ w.count;
    came = λ n a e. let t = is_callee n a e in call_holds a n t.0 t.1 t.2;
    once = λ m n a e h. let t = is_callee m a e in let u = is_callee n a h in came_once a m n t.0 u.0 t.1 u.1 t.2 u.2;
  }

  pub concluded : BookHolds b
  concluded = record {
    pairs_hold = pair_holds;
    paired = record { numbers = number_of; in_one = in_one; took = took_of };
    nodes = node_of;
  }
