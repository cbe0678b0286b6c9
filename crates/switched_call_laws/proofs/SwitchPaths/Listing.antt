-- The books of a switch's lines among all books, the joined calls of each switch among all, and numbers that stay as
-- origins are added.
use Rattle.std.specs.Prelude.{◌≡◌, ◌≢◌, ◌⊎◌, ℕ, zero, suc, ◌<◌, Bool, true, false, ◌==◌, if◌then◌else◌, List, [], ◌∷◌, ◌++◌, length, set, slice_get, Option, Some, None}
use Rattle.std.proofs.Common.{inl, inr, refl, sym, ap, subst, ◌∙◌, arith, append_assoc, append-nil}
use Rattle.std.proofs.lemmas.Option.{none-some, same_Some}
use Rattle.std.proofs.lemmas.Bool.{eqb-true, eq-eqb}
use Rattle.link_timers.specs.declared.role.Role.{Role}
use Rattle.data_transfer.specs.Packets.{Note}
use Rattle.data_transfer.specs.Packets.Note.{Incoming, Connected, Closed, WasReset, InterruptConfirmed, Covered}
use Rattle.packet_laws.specs.Readable.{Every}
use Rattle.call_records.specs.Book.{Book, told}
use Rattle.call_records.specs.Writes.{Write, written_by}
use Rattle.call_records.specs.Writes.Write.{Told, Placed, Asked, Said, Took, Cleared, Edited, AllClosed}
use Rattle.record_laws.proofs.Books.Basics.{get_before, get_there, number_is, set_here, set_elsewhere, length_set}
use Rattle.record_laws.specs.Registers.Seen.{positions}
use Rattle.record_laws.proofs.Registers.Positions.{one_here, one_elsewhere}
use Rattle.switch_joins.proofs.Apart.{decided}
use Rattle.switched_call_laws.specs.SwitchRecords.Written.{Books}
use Rattle.switched_call_laws.specs.JoinedCalls.Calls.{JoinedCall}
use Rattle.record_laws.specs.CallPaths.World.{Origin, Join, Plan, noted, all_noted, with_placed, traced, all_traced}
use Rattle.switched_call_laws.specs.SwitchRecords.Turned.{sight}
use Rattle.switched_call_laws.specs.SwitchPaths.Sight.{OwnLines, network_line}
use Rattle.switched_call_laws.specs.SwitchPaths.Network.{IsOther, PlacedCall, placed_at, of_switch, lines_of, JoinIs, IsJoinAt, AreJoins}

-- ---- the books of the switch's lines among all

pub less_or_not : (n k : ℕ) → (n < k) ⊎ (n < k → ⊥)
less_or_not n zero = inr (λ h. absurd (omega arith))
less_or_not zero (suc k) = inl (omega arith)
less_or_not (suc n) (suc k) = elim (less_or_not n k) [ inl h ↦ inl (omega arith) | inr h ↦ inr (λ g. let f : n < k = omega arith in h f) ]

-- no line is two of the switch's
abbrev pub AreApart : List ℕ → Type 0
AreApart at = (m n : ℕ) → m < length at → n < length at → network_line at m ≡ network_line at n → m ≡ n

-- the book of each of its lines, in its own sight
abbrev pub AreAmong : (at : List ℕ) → (roles : ℕ → Role) → Books → List Book → Type 0
AreAmong at roles bs books = (n : ℕ) → n < length at → slice_get books (network_line at n) ≡ Some (sight (roles n) (bs n))

pub among_set : (at : List ℕ) (roles : ℕ → Role) (n : ℕ) (bs bs' : Books) (books : List Book) (b : Book) → AreApart at → n < length at → sight (roles n) (bs' n) ≡ b → ((k : ℕ) → k ≢ n → bs' k ≡ bs k) → AreAmong at roles bs books → AreAmong at roles bs' (set books (network_line at n) b)
among_set at roles n bs bs' books b apart h here others i k g =
    elim (number_is k n) [
      | inl is ↦
          ap (λ (m : ℕ). slice_get (set books (network_line at n) b) (network_line at m)) is
          ∙ (set_here books (network_line at n) b (sight (roles n) (bs n)) (i n h) ∙ (ap (λ (x : Book). Some x) (sym here) ∙ ap (λ (m : ℕ). Some (sight (roles m) (bs' m))) (sym is)))
      | inr ne ↦ set_elsewhere books (network_line at n) (network_line at k) b (λ e. ne (apart k n g h e)) ∙ (i k g ∙ ap (λ (x : Book). Some (sight (roles k) x)) (sym (others k ne)))
    ]

pub among_same : (at : List ℕ) (roles : ℕ → Role) (bs bs' : Books) (books : List Book) → ((k : ℕ) → k < length at → bs' k ≡ bs k) → AreAmong at roles bs books → AreAmong at roles bs' books
among_same at roles bs bs' books h i k g = i k g ∙ ap (λ (x : Book). Some (sight (roles k) x)) (sym (h k g))

-- the lines are as many, and the books of those that are not the switch's are the same
pub record BooksStay (at : List ℕ) (old books : List Book) (old_traces traces : List (List Origin)) : Type 0 where
  pub count : length books ≡ length old
  pub same : (line : ℕ) → IsOther at line → slice_get books line ≡ slice_get old line
  pub same_trace : (line : ℕ) → IsOther at line → slice_get traces line ≡ slice_get old_traces line

pub others_same : (at : List ℕ) (books : List Book) (traces : List (List Origin)) → BooksStay at books books traces traces
others_same at books traces = record { count = refl; same = λ line o. refl; same_trace = λ line o. refl }

pub others_set : (at : List ℕ) (n : ℕ) (books : List Book) (b : Book) (traces : List (List Origin)) (own : List Origin) → n < length at → BooksStay at books (set books (network_line at n) b) traces (set traces (network_line at n) own)
others_set at n books b traces own h = record {
  count = length_set books (network_line at n) b;
  same = λ line o. set_elsewhere books (network_line at n) line b (λ e. o n h (sym e));
  same_trace = λ line o. set_elsewhere traces (network_line at n) line own (λ e. o n h (sym e));
}

pub others_then : (at : List ℕ) (as_ bs cs : List Book) (us vs ws : List (List Origin)) → BooksStay at as_ bs us vs → BooksStay at bs cs vs ws → BooksStay at as_ cs us ws
others_then at as_ bs cs us vs ws p q = record {
  count = q.count ∙ p.count;
  same = λ line o. q.same line o ∙ p.same line o;
  same_trace = λ line o. q.same_trace line o ∙ p.same_trace line o;
}

-- ---- origins are added behind those that are there

-- it is made at this end of a line
abbrev pub IsAt : (line : ℕ) → Role → Origin → Type 0
IsAt line role o = (o.line ≡ line) × (o.role ≡ role)

pub record Grows (line : ℕ) (role : Role) (os ps : List Origin) : Type 0 where
  pub more : List Origin
  pub is : ps ≡ os ++ more
  pub ends : Every (IsAt line role) more

grows_not : (line : ℕ) (role : Role) (os : List Origin) → Grows line role os os
grows_not line role os = record { more = []; is = sym (append-nil os); ends = tt }

pub grows_one : (line : ℕ) (role : Role) (os : List Origin) (o : Origin) → IsAt line role o → Grows line role os (os ++ o ∷ [])
grows_one line role os o e = record { more = o ∷ []; is = refl; ends = (e, tt) }

every_both : (P : Origin → Type 0) (xs ys : List Origin) → Every P xs → Every P ys → Every P (xs ++ ys)
every_both P [] ys p q = q
every_both P (x ∷ xs) ys p q = (p.0, every_both P xs ys p.1 q)

grows_then : (line : ℕ) (role : Role) (os ps qs : List Origin) → Grows line role os ps → Grows line role ps qs → Grows line role os qs
grows_then line role os ps qs a b = record {
  more = a.more ++ b.more;
  is = b.is ∙ (ap (λ (xs : List Origin). xs ++ b.more) a.is ∙ append_assoc os a.more b.more);
  ends = every_both (IsAt line role) a.more b.more a.ends b.ends;
}

note_grows : (line : ℕ) (role : Role) (note : Note) (b : Book) (os : List Origin) → Grows line role os (noted line role note b os)
note_grows line role (Incoming c parts) b os = grows_one line role os _ (refl, refl)
note_grows line role (Connected c) b os = grows_not line role os
note_grows line role (Closed c cause diagnostic reason) b os = grows_not line role os
note_grows line role (WasReset c cause diagnostic reason) b os = grows_not line role os
note_grows line role (InterruptConfirmed c) b os = grows_not line role os
note_grows line role (Covered c k) b os = grows_not line role os

notes_grow : (line : ℕ) (role : Role) (notes : List Note) (b : Book) (os : List Origin) → Grows line role os (all_noted line role notes b os)
notes_grow line role [] b os = grows_not line role os
notes_grow line role (note ∷ notes) b os =
    grows_then line role os (noted line role note b os) _ (note_grows line role note b os) (notes_grow line role notes (told role note b) (noted line role note b os))

placed_grows : (line : ℕ) (role : Role) (o : Option ℕ) (os : List Origin) → Grows line role os (with_placed line role o os)
placed_grows line role None os = grows_not line role os
placed_grows line role (Some c) os = grows_one line role os _ (refl, refl)

write_grows : (line : ℕ) (role : Role) (w : Write) (b : Book) (os : List Origin) → Grows line role os (traced line role w b os)
write_grows line role (Told notes) b os = notes_grow line role notes b os
write_grows line role (Placed o parts) b os = placed_grows line role o os
write_grows line role (Asked o c q f) b os = grows_not line role os
write_grows line role (Said o c ds) b os = grows_not line role os
write_grows line role (Took c t) b os = grows_not line role os
write_grows line role (Cleared o c) b os = grows_not line role os
write_grows line role (Edited c step) b os = grows_not line role os
write_grows line role AllClosed b os = grows_not line role os

pub writes_grow : (line : ℕ) (role : Role) (ws : List Write) (b : Book) (os : List Origin) → Grows line role os (all_traced line role ws b os)
writes_grow line role [] b os = grows_not line role os
writes_grow line role (w ∷ ws) b os = grows_then line role os (traced line role w b os) _ (write_grows line role w b os) (writes_grow line role ws (written_by role w b) (traced line role w b os))

-- an origin of these was there, or is one of those that were added
before_or_more : (P : Origin → Type 0) (os more : List Origin) (a : ℕ) (o : Origin) → Every P more → slice_get (os ++ more) a ≡ Some o → (slice_get os a ≡ Some o) ⊎ P o
before_or_more P [] [] a o h e = absurd (none-some o e)
before_or_more P [] (x ∷ more) zero o h e = inr (subst (λ (y : Origin). P y) (same_Some x o e) h.0)
before_or_more P [] (x ∷ more) (suc a) o h e = elim (before_or_more P [] more a o h.1 e) [ inl f ↦ absurd (none-some o f) | inr p ↦ inr p ]
before_or_more P (x ∷ os) more zero o h e = inl e
before_or_more P (x ∷ os) more (suc a) o h e = before_or_more P os more a o h e

pub old_or_new : (line : ℕ) (role : Role) (os ps : List Origin) (a : ℕ) (o : Origin) → Grows line role os ps → slice_get ps a ≡ Some o → (slice_get os a ≡ Some o) ⊎ IsAt line role o
old_or_new line role os ps a o g e = before_or_more (IsAt line role) os g.more a o g.ends (ap (λ (xs : List Origin). slice_get xs a) (sym g.is) ∙ e)

pub old_origin : (line : ℕ) (role : Role) (os ps : List Origin) (a : ℕ) (o : Origin) → Grows line role os ps → a < length os → slice_get ps a ≡ Some o → slice_get os a ≡ Some o
old_origin line role os ps a o g h e =
    let x = get_there os a h in
    x.1 ∙ (sym (get_before os g.more a x.0 x.1) ∙ (ap (λ (xs : List Origin). slice_get xs a) (sym g.is) ∙ e))

-- ---- numbers stay

position_more : (line y : ℕ) (xs : List ℕ) (i n : ℕ) → slice_get (positions line xs) i ≡ Some n → slice_get (positions line (xs ++ y ∷ [])) i ≡ Some n
position_more line y xs i n e =
    elim (number_is y line) [
      | inl is ↦ ap (λ (k : ℕ). slice_get (positions line (xs ++ k ∷ [])) i) is ∙ (ap (λ (ns : List ℕ). slice_get ns i) (one_here line xs) ∙ get_before (positions line xs) (length xs ∷ []) i n e)
      | inr ne ↦ ap (λ (ns : List ℕ). slice_get ns i) (one_elsewhere line y xs ne) ∙ e
    ]

positions_more : (line : ℕ) (xs ys : List ℕ) (i n : ℕ) → slice_get (positions line xs) i ≡ Some n → slice_get (positions line (xs ++ ys)) i ≡ Some n
positions_more line xs [] i n e = ap (λ (zs : List ℕ). slice_get (positions line zs) i) (append-nil xs) ∙ e
positions_more line xs (y ∷ ys) i n e =
    ap (λ (zs : List ℕ). slice_get (positions line zs) i) (sym (append_assoc xs (y ∷ []) ys)) ∙ positions_more line (xs ++ y ∷ []) ys i n (position_more line y xs i n e)

lines_then : (os ps : List Origin) → lines_of (os ++ ps) ≡ lines_of os ++ lines_of ps
lines_then [] ps = refl
lines_then (o ∷ os) ps = ap (λ (xs : List ℕ). o.line ∷ xs) (lines_then os ps)

pub numbers_stay : (line : ℕ) (role : Role) (os ps : List Origin) (k i n : ℕ) → Grows line role os ps → slice_get (positions k (lines_of os)) i ≡ Some n → slice_get (positions k (lines_of ps)) i ≡ Some n
numbers_stay line role os ps k i n g e =
    ap (λ (xs : List ℕ). slice_get (positions k xs) i) (ap lines_of g.is ∙ lines_then os g.more) ∙ positions_more k (lines_of os) (lines_of g.more) i n e

pub lines_last : (os : List Origin) (o : Origin) → lines_of (os ++ o ∷ []) ≡ lines_of os ++ o.line ∷ []
lines_last os o = lines_then os (o ∷ [])

pub lines_length : (os : List Origin) → length (lines_of os) ≡ length os
lines_length [] = refl
lines_length (o ∷ os) = ap suc (lines_length os)

-- ---- the calls of one switch among all

pub if_same : {X : Type 0} (n k : ℕ) (x y : X) → n ≡ k → (if n == k then x else y) ≡ x
if_same n k x y e = ap (λ (m : ℕ). if n == m then x else y) (sym e) ∙ ap (λ (v : Bool). if v then x else y) (eq-eqb n n refl)

pub if_else : {X : Type 0} (n k : ℕ) (x y : X) → (n ≡ k → ⊥) → (if n == k then x else y) ≡ y
if_else n k x y ne = by_test (decided (n == k))
  where
    by_test : ((n == k) ≡ true) ⊎ ((n == k) ≡ false) → (if n == k then x else y) ≡ y
    by_test (inl t) = absurd (ne (eqb-true n k t))
    by_test (inr f) = ap (λ (v : Bool). if v then x else y) f

pub of_then : (place : ℕ) (cs ds : List PlacedCall) → of_switch place (cs ++ ds) ≡ of_switch place cs ++ of_switch place ds
of_then place [] ds = refl
of_then place (c ∷ cs) ds = by_test (c.place == place) (of_then place cs ds)
  where
    by_test : (v : Bool) → of_switch place (cs ++ ds) ≡ of_switch place cs ++ of_switch place ds → (if v then c.call ∷ of_switch place (cs ++ ds) else of_switch place (cs ++ ds)) ≡ (if v then c.call ∷ of_switch place cs else of_switch place cs) ++ of_switch place ds
    by_test true e = ap (λ (xs : List JoinedCall). c.call ∷ xs) e
    by_test false e = e

of_own : (place : ℕ) (cs : List JoinedCall) → of_switch place (placed_at place cs) ≡ cs
of_own place [] = refl
of_own place (c ∷ cs) = if_same place place (c ∷ of_switch place (placed_at place cs)) (of_switch place (placed_at place cs)) refl ∙ ap (λ (xs : List JoinedCall). c ∷ xs) (of_own place cs)

of_other : (place k : ℕ) (cs : List JoinedCall) → (k ≡ place → ⊥) → of_switch place (placed_at k cs) ≡ []
of_other place k [] ne = refl
of_other place k (c ∷ cs) ne = if_else k place (c ∷ of_switch place (placed_at k cs)) (of_switch place (placed_at k cs)) ne ∙ of_other place k cs ne

-- its own calls come behind those that it had, and those of another switch are the same
pub own_behind : (place : ℕ) (all : List PlacedCall) (cs : List JoinedCall) → of_switch place (all ++ placed_at place cs) ≡ of_switch place all ++ cs
own_behind place all cs = of_then place all (placed_at place cs) ∙ ap (λ (xs : List JoinedCall). of_switch place all ++ xs) (of_own place cs)

pub other_behind : (place k : ℕ) (all : List PlacedCall) (cs : List JoinedCall) → (k ≡ place → ⊥) → of_switch place (all ++ placed_at k cs) ≡ of_switch place all
other_behind place k all cs ne = of_then place all (placed_at k cs) ∙ (ap (λ (xs : List JoinedCall). of_switch place all ++ xs) (of_other place k cs ne) ∙ append-nil (of_switch place all))

every_rest : (P : JoinedCall → Type 0) (v : Bool) (c : JoinedCall) (cs : List JoinedCall) → Every P (if v then c ∷ cs else cs) → Every P cs
every_rest P true c cs x = x.1
every_rest P false c cs x = x

-- what holds of each call of a switch holds of one of them
pub every_own : (P : JoinedCall → Type 0) (place : ℕ) (all : List PlacedCall) (k : ℕ) (c : PlacedCall) → Every P (of_switch place all) → slice_get all k ≡ Some c → c.place ≡ place → P c.call
every_own P place [] k c h e is = absurd (none-some c e)
every_own P place (d ∷ all) zero c h e is =
    let same : d ≡ c = same_Some d c e in
    subst (λ (x : PlacedCall). P x.call) same
    (subst (λ (xs : List JoinedCall). Every P xs) (if_same d.place place (d.call ∷ of_switch place all) (of_switch place all) (ap (λ (x : PlacedCall). x.place) same ∙ is)) h).0
every_own P place (d ∷ all) (suc k) c h e is = every_own P place all k c (every_rest P (d.place == place) d.call (of_switch place all) h) e is

-- ---- joins

pub join_stays : (at : List ℕ) (line : ℕ) (role : Role) (os ps : List Origin) (c : JoinedCall) (j : Join) → Grows line role os ps → JoinIs at os c j → JoinIs at ps c j
join_stays at line role os ps c j g i = record {
  near = (i.near.0, numbers_stay line role os ps (network_line at c.near.line) c.came_in j.came_in g i.near.1);
  far = (i.far.0, numbers_stay line role os ps (network_line at c.far.line) c.placed j.placed g i.far.1);
}

pub origin_stays : (line : ℕ) (role : Role) (os ps : List Origin) (a : ℕ) (o : Origin) → Grows line role os ps → slice_get os a ≡ Some o → slice_get ps a ≡ Some o
origin_stays line role os ps a o g e = ap (λ (xs : List Origin). slice_get xs a) g.is ∙ get_before os g.more a o e

pub joins_stay : (plan : Plan) (ats : OwnLines) (line : ℕ) (role : Role) (os ps : List Origin) (cs : List PlacedCall) (js : List Join) → Grows line role os ps → AreJoins plan ats os cs js → AreJoins plan ats ps cs js
joins_stay plan ats line role os ps [] [] g a = tt
joins_stay plan ats line role os ps (c ∷ cs) (j ∷ js) g a = (
  record {
    is = join_stays (ats c.place) line role os ps c.call j g a.0.is;
    from = a.0.from;
    from_there = origin_stays line role os ps j.came_in a.0.from g a.0.from_there;
    at_switch = a.0.at_switch;
  },
  joins_stay plan ats line role os ps cs js g a.1,
)
joins_stay plan ats line role os ps [] (j ∷ js) g a = absurd a
joins_stay plan ats line role os ps (c ∷ cs) [] g a = absurd a

pub joins_last : (plan : Plan) (ats : OwnLines) (os : List Origin) (cs : List PlacedCall) (js : List Join) (c : PlacedCall) (j : Join) → AreJoins plan ats os cs js → IsJoinAt plan ats os c j → AreJoins plan ats os (cs ++ c ∷ []) (js ++ j ∷ [])
joins_last plan ats os [] [] c j a i = (i, tt)
joins_last plan ats os (d ∷ cs) (k ∷ js) c j a i = (a.0, joins_last plan ats os cs js c j a.1 i)
joins_last plan ats os [] (k ∷ js) c j a i = absurd a
joins_last plan ats os (d ∷ cs) [] c j a i = absurd a

-- the joined call of a join
pub record Found (plan : Plan) (ats : OwnLines) (os : List Origin) (cs : List PlacedCall) (j : Join) : Type 0 where
  pub at : ℕ
  pub call : PlacedCall
  pub there : slice_get cs at ≡ Some call
  pub is : IsJoinAt plan ats os call j

pub join_found : (plan : Plan) (ats : OwnLines) (os : List Origin) (cs : List PlacedCall) (js : List Join) (k : ℕ) (j : Join) → AreJoins plan ats os cs js → slice_get js k ≡ Some j → Found plan ats os cs j
join_found plan ats os [] [] k j a e = absurd (none-some j e)
join_found plan ats os (c ∷ cs) (i ∷ js) zero j a e = record { at = 0; call = c; there = refl; is = subst (λ (x : Join). IsJoinAt plan ats os c x) (same_Some i j e) a.0 }
join_found plan ats os (c ∷ cs) (i ∷ js) (suc k) j a e = let f = join_found plan ats os cs js k j a.1 e in record { at = suc f.at; call = f.call; there = f.there; is = f.is }
join_found plan ats os [] (i ∷ js) k j a e = absurd a
join_found plan ats os (c ∷ cs) [] k j a e = absurd a

-- the join of a call of one switch
pub record ItsJoin (at : List ℕ) (os : List Origin) (js : List Join) (c : JoinedCall) : Type 0 where
  pub place : ℕ
  pub join : Join
  pub there : slice_get js place ≡ Some join
  pub is : JoinIs at os c join

later : (at : List ℕ) (os : List Origin) (j : Join) (js : List Join) (c : JoinedCall) → ItsJoin at os js c → ItsJoin at os (j ∷ js) c
later at os j js c x = record { place = suc x.place; join = x.join; there = x.there; is = x.is }

here_or_later : (ats : OwnLines) (place : ℕ) (os : List Origin) (d : PlacedCall) (cs : List PlacedCall) (j : Join) (js : List Join) (k : ℕ) (c : JoinedCall) → JoinIs (ats d.place) os d.call j → ((n : ℕ) → slice_get (of_switch place cs) n ≡ Some c → ItsJoin (ats place) os js c)
    → slice_get (of_switch place (d ∷ cs)) k ≡ Some c → ItsJoin (ats place) os (j ∷ js) c
here_or_later ats place os d cs j js k c i more e = by_test (decided (d.place == place))
  where
    by_place : (n : ℕ) → d.place ≡ place → slice_get (d.call ∷ of_switch place cs) n ≡ Some c → ItsJoin (ats place) os (j ∷ js) c
    by_place zero is f = record {
      place = 0;
      join = j;
      there = refl;
      is = subst (λ (x : JoinedCall). JoinIs (ats place) os x j) (same_Some d.call c f) (subst (λ (p : ℕ). JoinIs (ats p) os d.call j) is i);
    }
    by_place (suc n) is f = later (ats place) os j js c (more n f)

    by_test : ((d.place == place) ≡ true) ⊎ ((d.place == place) ≡ false) → ItsJoin (ats place) os (j ∷ js) c
    by_test (inl t) = by_place k (eqb-true d.place place t) (ap (λ (v : Bool). slice_get (if v then d.call ∷ of_switch place cs else of_switch place cs) k) (sym t) ∙ e)
    by_test (inr f) = later (ats place) os j js c (more k (ap (λ (v : Bool). slice_get (if v then d.call ∷ of_switch place cs else of_switch place cs) k) (sym f) ∙ e))

pub join_at : (plan : Plan) (ats : OwnLines) (place : ℕ) (os : List Origin) (cs : List PlacedCall) (js : List Join) (k : ℕ) (c : JoinedCall) → AreJoins plan ats os cs js → slice_get (of_switch place cs) k ≡ Some c → ItsJoin (ats place) os js c
join_at plan ats place os [] js k c a e = absurd (none-some c e)
join_at plan ats place os (d ∷ cs) [] k c a e = absurd a
join_at plan ats place os (d ∷ cs) (j ∷ js) k c a e = here_or_later ats place os d cs j js k c a.0.is (λ n f. join_at plan ats place os cs js n c a.1 f) e
