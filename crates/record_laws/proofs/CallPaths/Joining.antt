-- A switch joins a call that came in with one that it places: what the two registers then have of the line onward.
use Rattle.std.proofs.Common.{◌≡◌, ℕ, ◌<◌, ◌⊎◌, inl, inr, Bool, true, false, List, [], ◌∷◌, ◌++◌, length, Option, Some, None, refl, sym, ap, subst, ◌∙◌, arith}
use Rattle.std.specs.Prelude.{slice_get}
use Rattle.std.proofs.lemmas.Option.{none-some, slice_get_within}
use Rattle.link_timers.specs.declared.role.Role.{Role}
use Rattle.link_timers.specs.declared.role.Role.TheVariants.{Dte, Dce}
use Rattle.link_timers.specs.Role.{other_of}
use Rattle.call_records.specs.Records.{RecordValue, HopValue, new_record, changed_at, with_hop}
use Rattle.call_records.specs.Book.{Book, Slot, side_of, slot_at, with_change, with_record, address_of, calling_from, places_from}
use Rattle.call_records.specs.Register.{holds, goes_on}
use Rattle.record_laws.proofs.Books.Basics.{get_before, get_last, get_pushed}
use Rattle.record_laws.specs.CallPaths.World.{Origin, placing, Join, Plan}
use Rattle.record_laws.specs.CallPaths.Seen.{numbers, IsJoined, Begins, BeginsIf, PresentIsSeen, CallerIsSeen, SlotIsSeen, SideIsSeen, JoinIsSeen, RecordsAreSeen}
use Rattle.record_laws.specs.CallPaths.Seen.Way.{onward}
use Rattle.record_laws.proofs.CallPaths.Growing.{Extends, extends_twice, more_came, more_begins, more_record, more_side, switch_extends}
use Rattle.record_laws.proofs.CallPaths.Records.{hop_seen, more_pairs_seen}
use Rattle.record_laws.proofs.CallPaths.Steps.{Beside, IsRight, Leads, after, puts_both, adds_whole, last_origin, last_made}

-- a join more, of a call that was in none
record IsNewJoin (plan : Plan) (os : List Origin) (js : List Join) (a b : ℕ) : Type 0 where
  pub seen : JoinIsSeen plan os a b
  pub first : (c : ℕ) → IsJoined js a c → ⊥
  pub new : (c : ℕ) → IsJoined js c b → ⊥

abbrev pub with_new : List Join → ℕ → ℕ → List Join
with_new js a b = js ++ record { came_in = a; placed = b } ∷ []

-- either one of those before or the new one
pub old_or_new : (js : List Join) (a b c d : ℕ) → IsJoined (with_new js a b) c d → IsJoined js c d ⊎ ((c ≡ a) × (d ≡ b))
old_or_new js a b c d j =
    elim (get_pushed js (record { came_in = a; placed = b }) j.place (record { came_in = c; placed = d }) j.there) [
      | inl before ↦ inl (record { place = j.place; there = before })
      | inr last ↦ inr (ap (λ (x : Join). x.came_in) last.1, ap (λ (x : Join). x.placed) last.1)
    ]

join_extends : (plan : Plan) (os : List Origin) (js : List Join) (a b : ℕ) → Extends plan os js os (with_new js a b)
join_extends plan os js a b = record {
  origins = λ i o e. e;
  numbered = λ i m e. e;
  joins = λ i j e. get_before js (record { came_in = a; placed = b } ∷ []) i j e;
}

records_joined : (plan : Plan) (os : List Origin) (js : List Join) (a b : ℕ) (seen whole : List RecordValue) → IsNewJoin plan os js a b
    → RecordsAreSeen plan os js seen whole → RecordsAreSeen plan os (with_new js a b) seen whole
records_joined plan os js a b seen whole n h = record {
  count = h.count;
  seen_count = h.seen_count;
  records = λ i k at. more_record plan os js os (with_new js a b) (join_extends plan os js a b) seen whole i k (h.records i k at);
  numbered = h.numbered;
  nodes = h.nodes;
  named = h.named;
  callers = h.callers;
  joined = λ c d j. elim (old_or_new js a b c d j) [
    | inl old ↦ h.joined c d old
    | inr new ↦ subst (λ (x : ℕ). JoinIsSeen plan os x d) (sym new.0) (subst (λ (x : ℕ). JoinIsSeen plan os a x) (sym new.1) n.seen)
  ];
  joined_once = λ c d e j k. elim (old_or_new js a b c d j) [
    | inl old ↦ elim (old_or_new js a b c e k) [
      | inl older ↦ h.joined_once c d e old older
      | inr new ↦ absurd (n.first d (subst (λ (x : ℕ). IsJoined js x d) new.0 old))
    ]
    | inr new ↦ elim (old_or_new js a b c e k) [
      | inl old ↦ absurd (n.first e (subst (λ (x : ℕ). IsJoined js x e) new.0 old))
      | inr newer ↦ new.1 ∙ sym newer.1
    ]
  ];
  placed_once = λ c d e j k. elim (old_or_new js a b c e j) [
    | inl old ↦ elim (old_or_new js a b d e k) [
      | inl older ↦ h.placed_once c d e old older
      | inr new ↦ absurd (n.new c (subst (λ (x : ℕ). IsJoined js c x) new.1 old))
    ]
    | inr new ↦ elim (old_or_new js a b d e k) [
      | inl old ↦ absurd (n.new d (subst (λ (x : ℕ). IsJoined js d x) new.1 old))
      | inr newer ↦ new.0 ∙ sym newer.0
    ]
  ];
}

right_joined : (plan : Plan) (js : List Join) (line : ℕ) (x : Beside) (a b : ℕ) → IsNewJoin plan x.origins js a b → IsRight plan js line x
    → IsRight plan (with_new js a b) line x
right_joined plan js line x a b n h = record {
  records = records_joined plan x.origins js a b x.seen.records x.whole.records n h.records;
  pairs = more_pairs_seen plan x.origins js x.origins (with_new js a b) (join_extends plan x.origins js a b) x.kinds x.seen.pairs x.whole.pairs h.pairs;
  sides = λ end. more_side plan x.origins js x.origins (with_new js a b) (join_extends plan x.origins js a b) line end (side_of end x.seen) (side_of end x.whole) (h.sides end);
}

-- what came in and is joined: at a switch's end, from the record at whose way's beginning the holder is
pub record Incoming (plan : Plan) (js : List Join) (os : List Origin) (a : ℕ) (holder : Option ℕ) (line : ℕ) (role : Role) : Type 0 where
  pub caller : ℕ
  pub origin : Origin
  pub there : slice_get os a ≡ Some origin
  pub came : origin.caller ≡ Some caller
  pub switch : plan.has_user origin.line origin.role ≡ false
  pub node : plan.node origin.line origin.role ≡ plan.node line role
  pub not_back : plan.has_user origin.line (other_of origin.role) ≡ false → origin.line ≡ line → ⊥
  pub begins : BeginsIf plan os js holder (Some caller)
  pub first : (c : ℕ) → IsJoined js a c → ⊥

pub record Joins (plan : Plan) (js : List Join) (line : ℕ) (x : Beside) (ks : List Join) (os : List Origin) (seen whole : Book) : Type 0 where
  pub kinds : List ℕ
  pub is_right : IsRight plan ks line (record { origins = os; kinds = kinds; seen = seen; whole = whole })
  pub extends : Extends plan x.origins js os ks

module _ (plan : Plan) (js : List Join) (line : ℕ) (role : Role) (switch : plan.has_user line role ≡ false) where
  onward_begins : (os ps : List Origin) (a b : ℕ) (o : Option ℕ) (i : Incoming plan js os a o line role) → Extends plan os js ps (with_new js a b)
      → BeginsIf plan ps (with_new js a b) o (Some b)
  onward_begins os ps a b o i more = by_holder o i.begins where
    by_holder : (p : Option ℕ) → BeginsIf plan os js p (Some i.caller) → BeginsIf plan ps (with_new js a b) p (Some b)
    by_holder None h = absurd h
    by_holder (Some n) h =
        let g : Begins plan ps (with_new js a b) n i.caller = more_begins plan os js ps (with_new js a b) more n i.caller h in
        record {
          first = g.first;
          numbered = g.numbered;
          way = onward a b g.way (more_came plan os js ps (with_new js a b) more a i.caller (record { origin = i.origin; there = i.there; came = i.came }))
              (record { place = length js; there = get_last js (record { came_in = a; placed = b }) });
        }

  -- the path of the holder gets one more hop
  hop_right : (ks : List Join) (os : List Origin) (kinds : List ℕ) (holder : Option ℕ) (hop : HopValue) (seen whole : Book) → IsRight plan ks line (record { origins = os; kinds = kinds; seen = seen; whole = whole })
      → IsRight plan ks line (record { origins = os; kinds = kinds; seen = with_change holder (with_hop hop) seen; whole = whole })
  hop_right ks os kinds None hop seen whole h = h
  hop_right ks os kinds (Some n) hop seen whole h = record { records = hop_seen plan os ks seen.records whole.records hop n h.records; pairs = h.pairs; sides = sides }
    where
      sides : (end : Role) → SideIsSeen plan os ks line end (side_of end (record seen { records = changed_at n (with_hop hop) seen.records })) (side_of end whole)
      sides Dte = h.sides Dte
      sides Dce = h.sides Dce

  pub joins : (x : Beside) (c a : ℕ) (calling called : List ℕ) (holder : Option ℕ) → IsRight plan js line x → Incoming plan js x.origins a holder line role
      → Joins plan js line x (with_new js a (length x.whole.records)) (x.origins ++ placing line role ∷ [])
      (goes_on (record { line = line; role = role; channel = c }) holder x.seen) (places_from role c calling called x.whole)
  joins x c a calling called holder h i =
      let b : ℕ = length x.whole.records in
      let o : Origin = placing line role in
      let os : List Origin = x.origins ++ o ∷ [] in
      let ks : List Join = with_new js a b in
      let t : RecordValue = new_record b (side_of role x.whole).node (address_of (calling_from (side_of role x.whole).address calling)) (address_of called) None in
      let grown : Extends plan x.origins js os js = switch_extends plan x.origins js o switch in
      let first : Leads plan js line x os x.seen (with_record t x.whole) = adds_whole plan js line x o t switch (λ k e. absurd (none-some k e)) (h.sides role).whole_node refl h in
      let y : Beside = after plan js line x os x.seen (with_record t x.whole) first in
      let within : a < length x.origins = slice_get_within x.origins a i.origin i.there in
      let count : length x.origins ≡ b = h.records.count in
      let new : IsNewJoin plan os js a b = record {
        seen = record {
          from = i.origin;
          from_there = grown.origins a i.origin i.there;
          from_switch = i.switch;
          to = o;
          to_there = last_origin plan js line x o h b refl;
          to_switch = switch;
          placed = refl;
          one_switch = i.node;
          not_back = i.not_back;
          order = omega arith;
        };
        first = i.first;
        new = λ d j.
            let q : JoinIsSeen plan x.origins d b = h.records.joined d b j in
            let less = slice_get_within x.origins b q.to q.to_there in absurd (omega arith);
      } in
      let more : Extends plan x.origins js os ks = extends_twice grown (join_extends plan os js a b) in
      let s : Slot = slot_at role c x.seen in
      let old : SlotIsSeen plan x.origins js line role s (slot_at role c x.whole) = (h.sides role).slot c in
      let last : Leads plan ks line y os (holds role c holder x.seen) (places_from role c calling called x.whole) =
      puts_both plan ks line y role c (record s { placed = holder }) (record { present = Some b; placed = Some b; caller = None })
      (right_joined plan js line y a b new first.is_right)
      (record {
        present = subst (λ (z : Bool). PresentIsSeen z (numbers plan os) s.present (Some b)) (sym switch)
            (subst (λ (z : Bool). PresentIsSeen z (numbers plan x.origins) s.present (slot_at role c x.whole).present) switch old.present);
        caller = subst (λ (z : Bool). CallerIsSeen z plan os ks s.caller None) (sym switch)
            (subst (λ (z : Bool). CallerIsSeen z plan x.origins js s.caller (slot_at role c x.whole).caller) switch old.caller);
        placed = onward_begins x.origins os a b holder i more;
        present_origin = last_made plan js line x role true None h;
        placed_origin = last_origin plan js line x o h;
      }) in
      let hop : HopValue = record { switch = (side_of role x.seen).node; line = line; channel = c } in
      record { kinds = last.kinds; is_right = hop_right ks os last.kinds holder hop (holds role c holder x.seen) (places_from role c calling called x.whole) last.is_right; extends = more }
