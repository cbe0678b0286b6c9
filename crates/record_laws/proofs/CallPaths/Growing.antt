-- What is seen stays so when records and joins are added.
use Rattle.std.proofs.Common.{◌≡◌, ℕ, suc, Bool, true, false, List, [], ◌∷◌, ◌++◌, length, Option, Some, None, refl, ap, ◌∙◌, arith}
use Rattle.std.specs.Prelude.{slice_get, map, if◌then◌else◌}
use Rattle.link_timers.specs.declared.role.Role.{Role}
use Rattle.call_records.specs.Records.{RecordValue, PairValue}
use Rattle.call_records.specs.Book.{Slot, Side, nth_slot}
use Rattle.record_laws.proofs.Books.Basics.{get_before}
use Rattle.record_laws.specs.Registers.Seen.{positions, IsNumbered}
use Rattle.record_laws.proofs.Registers.Positions.{one_here, one_elsewhere}
use Rattle.record_laws.specs.CallPaths.World.{Origin, placing, Join, Plan}
use Rattle.record_laws.specs.CallPaths.Seen.{kind, numbers, CameFrom, IsJoined, Way, Begins, BeginsIf, RecordIsShown, PresentIsSeen, CallerIsSeen, IsMadeAt, SlotIsSeen, SideIsSeen, JoinIsSeen, PairIsSeen, PairCame}
use Rattle.record_laws.specs.CallPaths.Seen.Way.{here, onward}
use Rattle.record_laws.proofs.CallPaths.Ways.{along, kind_user}

pub record Extends (plan : Plan) (os : List Origin) (js : List Join) (ps : List Origin) (ks : List Join) : Type 0 where
  pub origins : (i : ℕ) (o : Origin) → slice_get os i ≡ Some o → slice_get ps i ≡ Some o
  pub numbered : (i m : ℕ) → slice_get (numbers plan os) i ≡ Some m → slice_get (numbers plan ps) i ≡ Some m
  pub joins : (i : ℕ) (j : Join) → slice_get js i ≡ Some j → slice_get ks i ≡ Some j

pub extends_itself : (plan : Plan) (os : List Origin) (js : List Join) → Extends plan os js os js
extends_itself plan os js = record { origins = λ i o e. e; numbered = λ i m e. e; joins = λ i j e. e }

pub extends_twice : {plan : Plan} {os ps qs : List Origin} {js ks ls : List Join} → Extends plan os js ps ks → Extends plan ps ks qs ls → Extends plan os js qs ls
extends_twice g h = record {
  origins = λ i o e. h.origins i o (g.origins i o e);
  numbered = λ i m e. h.numbered i m (g.numbered i m e);
  joins = λ i j e. h.joins i j (g.joins i j e);
}

module _ (plan : Plan) (os : List Origin) (js : List Join) (ps : List Origin) (ks : List Join) (x : Extends plan os js ps ks) where
  pub more_came : (a b : ℕ) → CameFrom os a b → CameFrom ps a b
  more_came a b c = record { origin = c.origin; there = x.origins a c.origin c.there; came = c.came }

  pub more_joined : (a b : ℕ) → IsJoined js a b → IsJoined ks a b
  more_joined a b j = record { place = j.place; there = x.joins j.place (record { came_in = a; placed = b }) j.there }

  pub more_way : (a b : ℕ) → Way os js a b → Way ps ks a b
  more_way = along os js (λ a b. Way ps ks a b) (λ a. here) (λ a y c b w h came joined. onward c b h (more_came c y came) (more_joined c b joined))

  pub more_begins : (n b : ℕ) → Begins plan os js n b → Begins plan ps ks n b
  more_begins n b h = record { first = h.first; numbered = x.numbered n h.first h.numbered; way = more_way h.first b h.way }

  pub more_begins_if : (o p : Option ℕ) → BeginsIf plan os js o p → BeginsIf plan ps ks o p
  more_begins_if None None h = h
  more_begins_if (Some n) (Some b) h = more_begins n b h
  more_begins_if None (Some b) h = absurd h
  more_begins_if (Some n) None h = absurd h

  more_numbered : (o p : Option ℕ) → IsNumbered (numbers plan os) o p → IsNumbered (numbers plan ps) o p
  more_numbered None None h = h
  more_numbered (Some n) (Some b) h = x.numbered n b h
  more_numbered None (Some b) h = absurd h
  more_numbered (Some n) None h = absurd h

  more_present : (u : Bool) (o p : Option ℕ) → PresentIsSeen u (numbers plan os) o p → PresentIsSeen u (numbers plan ps) o p
  more_present true o p h = more_numbered o p h
  more_present false o p h = h

  more_caller : (u : Bool) (o p : Option ℕ) → CallerIsSeen u plan os js o p → CallerIsSeen u plan ps ks o p
  more_caller true o p h = more_begins_if o p h
  more_caller false o p h = h

  pub more_made : (line : ℕ) (role : Role) (caller : Option ℕ) (m : ℕ) → IsMadeAt os line role caller m → IsMadeAt ps line role caller m
  more_made line role caller m h =
      record { placed_here = h.placed_here; there = x.origins m (record { line = line; role = role; placed_here = h.placed_here; caller = caller }) h.there }

  pub more_slot : (line : ℕ) (role : Role) (s t : Slot) → SlotIsSeen plan os js line role s t → SlotIsSeen plan ps ks line role s t
  more_slot line role s t h = record {
    present = more_present (plan.has_user line role) s.present t.present h.present;
    caller = more_caller (plan.has_user line role) s.caller t.caller h.caller;
    placed = more_begins_if s.placed t.placed h.placed;
    present_origin = λ m e. more_made line role t.caller m (h.present_origin m e);
    placed_origin = λ m e. x.origins m (placing line role) (h.placed_origin m e);
  }

  pub more_side : (line : ℕ) (role : Role) (s t : Side) → SideIsSeen plan os js line role s t → SideIsSeen plan ps ks line role s t
  more_side line role s t h = record {
    seen_node = h.seen_node;
    whole_node = h.whole_node;
    seen_address = h.seen_address;
    whole_address = h.whole_address;
    channels = h.channels;
    slot = λ c. more_slot line role (nth_slot s.slots c) (nth_slot t.slots c) (h.slot c);
  }

  pub more_record : (seen whole : List RecordValue) (n m : ℕ) → RecordIsShown plan os js seen whole n m → RecordIsShown plan ps ks seen whole n m
  more_record seen whole n m h = record {
    origin = h.origin;
    origin_there = x.origins m h.origin h.origin_there;
    value = h.value;
    whole_there = h.whole_there;
    caller = h.caller;
    path = h.path;
    begins = more_begins_if h.caller h.value.caller h.begins;
    seen_there = h.seen_there;
  }

  pub more_join : (a b : ℕ) → JoinIsSeen plan os a b → JoinIsSeen plan ps a b
  more_join a b j = record {
    from = j.from;
    from_there = x.origins a j.from j.from_there;
    from_switch = j.from_switch;
    to = j.to;
    to_there = x.origins b j.to j.to_there;
    to_switch = j.to_switch;
    placed = j.placed;
    one_switch = j.one_switch;
    not_back = j.not_back;
    order = j.order;
  }

  pub more_pair : (seen whole : List PairValue) (q p : ℕ) → PairIsSeen plan os js seen whole q p → PairIsSeen plan ps ks seen whole q p
  more_pair seen whole q p h = record {
    seen_pair = h.seen_pair;
    whole_pair = h.whole_pair;
    seen_there = h.seen_there;
    whole_there = h.whole_there;
    callee = x.numbered h.seen_pair.callee h.whole_pair.callee h.callee;
    caller = more_begins h.seen_pair.caller h.whole_pair.caller h.caller;
  }

  pub more_pair_came : (kinds : List ℕ) (p : ℕ) (pair : PairValue) → PairCame plan os kinds p pair → PairCame plan ps kinds p pair
  more_pair_came kinds p pair h =
      record { origin = h.origin; there = x.origins pair.callee h.origin h.there; came = h.came; of_kind = h.of_kind }

-- ---- a record more

map_pushed : {X Y : Type 0} (f : X → Y) (xs : List X) (x : X) → map f (xs ++ x ∷ []) ≡ map f xs ++ f x ∷ []
map_pushed f [] x = refl
map_pushed f (y ∷ ys) x = ap (λ zs. f y ∷ zs) (map_pushed f ys x)

length_map : {X Y : Type 0} (f : X → Y) (xs : List X) → length (map f xs) ≡ length xs
length_map f [] = refl
length_map f (x ∷ xs) = ap suc (length_map f xs)

pub switch_kind : (plan : Plan) (o : Origin) → plan.has_user o.line o.role ≡ false → kind plan o ≡ 0
switch_kind plan o e = ap (λ (b : Bool). if b then 1 else 0) e

pub numbers_user : (plan : Plan) (os : List Origin) (o : Origin) → plan.has_user o.line o.role ≡ true
    → numbers plan (os ++ o ∷ []) ≡ numbers plan os ++ length os ∷ []
numbers_user plan os o user =
    ap (λ (ks : List ℕ). positions 1 ks) (map_pushed (kind plan) os o ∙ ap (λ (k : ℕ). map (kind plan) os ++ k ∷ []) (kind_user plan o user))
    ∙ one_here 1 (map (kind plan) os) ∙ ap (λ (k : ℕ). numbers plan os ++ k ∷ []) (length_map (kind plan) os)

pub numbers_switch : (plan : Plan) (os : List Origin) (o : Origin) → plan.has_user o.line o.role ≡ false
    → numbers plan (os ++ o ∷ []) ≡ numbers plan os
numbers_switch plan os o switch =
    ap (λ (ks : List ℕ). positions 1 ks) (map_pushed (kind plan) os o ∙ ap (λ (k : ℕ). map (kind plan) os ++ k ∷ []) (switch_kind plan o switch))
    ∙ one_elsewhere 1 0 (map (kind plan) os) (λ e. omega arith)

pub user_extends : (plan : Plan) (os : List Origin) (js : List Join) (o : Origin) → plan.has_user o.line o.role ≡ true → Extends plan os js (os ++ o ∷ []) js
user_extends plan os js o user = record {
  origins = λ i p e. get_before os (o ∷ []) i p e;
  numbered = λ i m e. ap (λ (ns : List ℕ). slice_get ns i) (numbers_user plan os o user) ∙ get_before (numbers plan os) (length os ∷ []) i m e;
  joins = λ i j e. e;
}

pub switch_extends : (plan : Plan) (os : List Origin) (js : List Join) (o : Origin) → plan.has_user o.line o.role ≡ false → Extends plan os js (os ++ o ∷ []) js
switch_extends plan os js o switch = record {
  origins = λ i p e. get_before os (o ∷ []) i p e;
  numbered = λ i m e. ap (λ (ns : List ℕ). slice_get ns i) (numbers_switch plan os o switch) ∙ e;
  joins = λ i j e. e;
}
