-- The path of each record of the register is that of its call, whatever happens.
use Rattle.std.proofs.Common.{◌≡◌, ◌≢◌, ℕ, zero, suc, ◌<◌, ◌≤◌, inl, inr, Bool, true, false, List, [], ◌∷◌, ◌++◌, length, Option, Some, None, refl, sym, ap, subst, ◌∙◌, arith}
use Rattle.std.specs.Prelude.{slice_get, map, nat_le, if◌then◌else◌}
use Rattle.std.proofs.lemmas.Option.{none-some, same_Some, slice_get_within}
use Rattle.std.proofs.lemmas.Bool.{leb-true}
use Rattle.link_timers.specs.declared.role.Role.{Role}
use Rattle.link_timers.specs.Role.{other_of}
use Rattle.data_transfer.specs.Packets.{CallParts}
use Rattle.call_records.specs.Records.{RecordValue, HopValue, changed_at, with_closed, with_hop}
use Rattle.call_records.specs.Book.{Book, Slot, side_of, slot_at, with_slot, with_record, with_change, changed, with_pair, closes}
use Rattle.call_records.specs.Closing.{closes_if, closes_present, closed_from}
use Rattle.call_records.specs.Carried.{placed_on}
use Rattle.call_records.specs.Writes.{Write, all_written}
use Rattle.call_records.specs.Register.{book_at, written_at, holds, goes_on}
use Rattle.record_laws.proofs.Books.Basics.{get_changed, get_last, get_pushed, get_there, length_changed, length_pushed}
use Rattle.record_laws.proofs.Registers.Positions.{IsNth}
use Rattle.record_laws.proofs.Registers.Steps.{records_put, same_place}
use Rattle.record_laws.specs.CallPaths.World.{Origin, placing, Join, World, Plan, ChannelEnd, MayJoin, holder_of, with_join, all_traced}
use Rattle.record_laws.specs.CallPaths.World.Event.{Writes, SwitchWrites, Joins}
use Rattle.record_laws.specs.CallPaths.Seen.{kind, numbers, CameFrom, IsJoined, Way, Begins, BeginsIf, JoinIsSeen, Seen}
use Rattle.record_laws.specs.CallPaths.Seen.Way.{here as stands, onward as goes}
use Rattle.record_laws.specs.CallPaths.Tree.{IsTree, WayOver}
use Rattle.record_laws.specs.CallPaths.Tree.WayOver.{here, onward}
use Rattle.record_laws.specs.CallPaths.Paths.{IsPath, ArePaths, MadePathsLaw, PathsLaw}
use Rattle.record_laws.proofs.CallPaths.Ways.{along, from_first, one_first, numbered_user, user_numbered}
use Rattle.record_laws.proofs.CallPaths.Growing.{Extends, more_came, more_joined, more_way, numbers_switch}
use Rattle.record_laws.proofs.CallPaths.Records.{IsMild}
use Rattle.record_laws.proofs.CallPaths.Writing.{closing_mild}
use Rattle.record_laws.proofs.CallPaths.Inducing.{Property, Holds, Each, writes_hold}
use Rattle.record_laws.proofs.CallPaths.Joining.{with_new, old_or_new}
use Rattle.record_laws.proofs.CallPaths.SeenAfterEvents.{line_found, joins_go, user_goes, switch_goes}
use Rattle.record_laws.proofs.CallPaths.Path.{hops_room}

-- ---- no write changes a path

-- a record has the path that it had, or it is a new one, of no hops
data PathFrom (rs : List RecordValue) (n : ℕ) (r : RecordValue) : Type 0 where
  was : (x : RecordValue) → slice_get rs n ≡ Some x → r.path ≡ x.path → PathFrom rs n r
  new : length rs ≤ n → r.path ≡ [] → PathFrom rs n r

record PathsStay (rs ss : List RecordValue) : Type 0 where
  pub longer : length rs ≤ length ss
  pub each : (n : ℕ) (r : RecordValue) → slice_get ss n ≡ Some r → PathFrom rs n r

stay_same : (rs : List RecordValue) → PathsStay rs rs
stay_same rs = record { longer = omega arith; each = λ n r at. was r at refl }

then_from : (rs ss : List RecordValue) → PathsStay rs ss → (n : ℕ) (r : RecordValue) → PathFrom ss n r → PathFrom rs n r
then_from rs ss h n r (new less e) = new (let more = h.longer in omega arith) e
then_from rs ss h n r (was x at e) = by_old (h.each n x at) where
  by_old : PathFrom rs n x → PathFrom rs n r
  by_old (was y there f) = was y there (e ∙ f)
  by_old (new less f) = new less (e ∙ f)

stay_then : (rs ss ts : List RecordValue) → PathsStay rs ss → PathsStay ss ts → PathsStay rs ts
stay_then rs ss ts g h = record {
  longer = (let more = g.longer in let most = h.longer in omega arith);
  each = λ n r at. then_from rs ss g n r (h.each n r at);
}

stay_changed : (rs : List RecordValue) (k : ℕ) (f : RecordValue → RecordValue) → IsMild f → PathsStay rs (changed_at k f rs)
stay_changed rs k f mild = record {
  longer = (let same = length_changed rs k f in omega arith);
  each = λ n r at.
      let old = get_changed rs k f n r at in
      was old.0 old.1 (elim old.2 [ inl e ↦ ap (λ (x : RecordValue). x.path) e.1 ∙ mild.path old.0 | inr e ↦ ap (λ (x : RecordValue). x.path) e.1 ]);
}

stay_change : (o : Option ℕ) (f : RecordValue → RecordValue) (b : Book) → IsMild f → PathsStay b.records (with_change o f b).records
stay_change None f b mild = stay_same b.records
stay_change (Some n) f b mild = stay_changed b.records n f mild

stay_pushed : (rs : List RecordValue) (t : RecordValue) → t.path ≡ [] → PathsStay rs (rs ++ t ∷ [])
stay_pushed rs t e = record {
  longer = (let more = length_pushed rs t in omega arith);
  each = λ n r at. elim (get_pushed rs t n r at) [
    | inl before ↦ was r before refl
    | inr last ↦ new (let end = last.0 in omega arith) (ap (λ (x : RecordValue). x.path) last.1 ∙ e)
  ];
}

stay_put : (x : Role) (c : ℕ) (s : Slot) (rs : List RecordValue) (b : Book) → PathsStay rs b.records → PathsStay rs (with_slot x c s b).records
stay_put x c s rs b h = subst (λ (ss : List RecordValue). PathsStay rs ss) (sym (records_put x c s b)) h

stay_closes : (x : Role) (c : ℕ) (b : Book) → PathsStay b.records (closes x c b).records
stay_closes x c b = stay_put x c (record (slot_at x c b) { present = None; caller = None }) b.records (changed x c with_closed b) (stay_change (slot_at x c b).present with_closed b closing_mild)

stay_close : (o : Option ℕ) (x : Role) (c : ℕ) (b : Book) → PathsStay b.records (closes_if o x c b).records
stay_close None x c b = stay_same b.records
stay_close (Some n) x c b = stay_closes x c b

stay_closed : (count c : ℕ) (x : Role) (b : Book) → PathsStay b.records (closed_from count c x b).records
stay_closed zero c x b = stay_same b.records
stay_closed (suc count) c x b =
    stay_then b.records (closes_present x c b).records (closed_from count (suc c) x (closes_present x c b)).records (stay_close (slot_at x c b).present x c b) (stay_closed count (suc c) x (closes_present x c b))

stay_pair : (o p : Option ℕ) (b : Book) → PathsStay b.records (with_pair o p b).records
stay_pair None p b = stay_same b.records
stay_pair (Some n) None b = stay_same b.records
stay_pair (Some n) (Some m) b = stay_same b.records

abbrev Stay : Property
Stay f s = (b : Book) → PathsStay b.records (f b).records

abbrev Any : Write → Type 0
Any write = Unit {0}

any_each : (writes : List Write) → Each Any writes
any_each [] = tt
any_each (write ∷ writes) = (tt, any_each writes)

stay_placed : (x : Role) (o : Option ℕ) (parts : CallParts) (b : Book) → PathsStay b.records (placed_on x o parts b).records
stay_placed x None parts b = stay_same b.records
stay_placed x (Some c) parts b = stay_put x c _ b.records (with_record _ b) (stay_pushed b.records _ refl)

all_stay : (line : ℕ) (x : Role) → Holds line x Any Stay
all_stay line x = record {
  same = λ b. stay_same b.records;
  in_turn = λ f g s t p q b. stay_then b.records (f b).records (g (f b)).records (p b) (q (f b));
  changes = λ c f mild b. stay_change (slot_at x c b).present f b mild;
  comes_in = λ c parts b. stay_put x c _ b.records (with_record _ b) (stay_pushed b.records _ refl);
  accepts = λ c b. stay_pair (slot_at x c b).caller (slot_at x c b).present b;
  ends = λ c b. stay_closes x c b;
  ends_all = λ b. stay_closed (length (side_of x b).slots) 1 x b;
  places = λ o parts may b. stay_placed x o parts b;
}

writes_stay : (line : ℕ) (x : Role) (writes : List Write) (b : Book) → PathsStay b.records (all_written x writes b).records
writes_stay line x writes = writes_hold line x Any Stay (all_stay line x) writes (any_each writes)

-- so where none has any hop, none gets one
abbrev pub HaveNoHops : List RecordValue → Type 0
HaveNoHops rs = (n : ℕ) (r : RecordValue) → slice_get rs n ≡ Some r → r.path ≡ []

pub writes_none : (x : Role) (writes : List Write) (b : Book) → HaveNoHops b.records → HaveNoHops (all_written x writes b).records
writes_none x writes b none n r at = by_old ((writes_stay 0 x writes b).each n r at) where
  by_old : PathFrom b.records n r → r.path ≡ []
  by_old (was y there e) = e ∙ none n y there
  by_old (new less e) = e

-- ---- ways among more records and joins

more_over : (plan : Plan) (os : List Origin) (js : List Join) (ps : List Origin) (ks : List Join) → Extends plan os js ps ks → (hops : List HopValue) (x b : ℕ) → WayOver plan os js hops x b → WayOver plan ps ks hops x b
more_over plan os js ps ks more hops x b here = here
more_over plan os js ps ks more hops x b (onward {hops = earlier} {y = y} a c o channel way came joined there) =
    onward a c o channel (more_over plan os js ps ks more earlier x y way) (more_came plan os js ps ks more a y came) (more_joined plan os js ps ks more a c joined) (more.origins c o there)

pub way_of : (plan : Plan) (os : List Origin) (js : List Join) (hops : List HopValue) (x b : ℕ) → WayOver plan os js hops x b → Way os js x b
way_of plan os js hops x b here = stands
way_of plan os js hops x b (onward {hops = earlier} {y = y} a c o channel way came joined there) = goes a c (way_of plan os js earlier x y way) came joined

module _ (plan : Plan) (w : World) (s : Seen plan w) (os : List Origin) (ks : List Join) (more : Extends plan w.origins w.joins os ks) where
  -- what came in at a join came from where it did
  came_before : (a b y : ℕ) → IsJoined w.joins a b → CameFrom os a y → CameFrom w.origins a y
  came_before a b y joined came =
      let j : JoinIsSeen plan w.origins a b = s.records.joined a b joined in
      let same : came.origin ≡ j.from = same_Some came.origin j.from (sym came.there ∙ more.origins a j.from j.from_there) in
      record { origin = j.from; there = j.from_there; came = ap (λ (o : Origin). o.caller) (sym same) ∙ came.came }

  caller_before : (a b y : ℕ) → IsJoined w.joins a b → CameFrom os a y → (o : Origin) × (slice_get w.origins y ≡ Some o)
  caller_before a b y joined came =
      let c : CameFrom w.origins a y = came_before a b y joined came in
      (placing c.origin.line (other_of c.origin.role), s.records.callers a y c.origin c.there c.came)

module _ (plan : Plan) (w : World) (s : Seen plan w) (paths : ArePaths plan w) where
  -- ---- what is written

  module _ (os : List Origin) (rs : List RecordValue) (more : Extends plan w.origins w.joins os w.joins) (stay : PathsStay w.register.records rs) where
    old_way : (x b : ℕ) → Way os w.joins x b → Way w.origins w.joins x b
    old_way = along os w.joins (λ x b. Way w.origins w.joins x b) (λ x. stands)
        (λ x y a b way h came joined. goes a b h (came_before plan w s os w.joins more a b y joined came) joined)

    -- a record that is new has no way on
    fresh : (n first : ℕ) → length w.register.records ≤ n → slice_get (numbers plan os) n ≡ Some first → (b : ℕ) → Way os w.joins first b → first ≡ b
    fresh n first less at b way =
        elim (from_first os w.joins first b way) [
          | inl e ↦ e
          | inr f ↦
              let o = caller_before plan w s os w.joins more f.callee f.next first f.is_joined f.came in
              let user = numbered_user plan os n first o.0 at (more.origins first o.0 o.1) in
              let p : IsNth (numbers plan w.origins) first = user_numbered plan w.origins first o.0 o.1 user in
              let same : p.place ≡ n = same_place 1 (map (kind plan) os) p.place n first (more.numbered p.place first p.there) at in
              let within = slice_get_within (numbers plan w.origins) p.place first p.there in
              let count = s.records.seen_count in
              absurd (omega arith)
        ]

    path_stays : (n first : ℕ) (r : RecordValue) → slice_get (numbers plan os) n ≡ Some first → PathFrom w.register.records n r → IsPath plan os w.joins first r.path
    path_stays n first r at (was x there e) =
        let m = get_there (numbers plan w.origins) n (subst (λ (k : ℕ). n < k) s.records.seen_count (slice_get_within w.register.records n x there)) in
        let same : m.0 ≡ first = same_Some m.0 first (sym (more.numbered n m.0 m.1) ∙ at) in
        let p : IsPath plan w.origins w.joins first x.path = paths n first x (m.1 ∙ ap (λ (k : ℕ). Some k) same) there in
        record {
          tip = p.tip;
          way = subst (λ (hops : List HopValue). WayOver plan os w.joins hops first p.tip) (sym e) (more_over plan w.origins w.joins os w.joins more x.path first p.tip p.way);
          all = λ b way. more_way plan w.origins w.joins os w.joins more b p.tip (p.all b (old_way first b way));
        }
    path_stays n first r at (new less e) = record {
      tip = first;
      way = subst (λ (hops : List HopValue). WayOver plan os w.joins hops first first) (sym e) here;
      all = λ b way. subst (λ (k : ℕ). Way os w.joins b k) (sym (fresh n first less at b way)) stands;
    }

    written_paths : (n first : ℕ) (r : RecordValue) → slice_get (numbers plan os) n ≡ Some first → slice_get rs n ≡ Some r → IsPath plan os w.joins first r.path
    written_paths n first r at there = path_stays n first r at (stay.each n r there)

  -- ---- a join

  module _ (switches : List ℕ) (tree : IsTree plan switches) (from to : ChannelEnd) (m : MayJoin plan from to w) where
    abbrev next : ℕ
    next = length w.whole.records

    abbrev os : List Origin
    os = w.origins ++ placing to.line to.role ∷ []

    abbrev ks : List Join
    ks = with_new w.joins m.came_in next

    record Holder : Type 0 where
      pub number : ℕ
      pub is : holder_of from w.register ≡ Some number
      pub begins : Begins plan w.origins w.joins number m.caller

    held : Holder
    held = by_holder (holder_of from w.register) refl
        (subst (λ (o : Option ℕ). BeginsIf plan w.origins w.joins (holder_of from w.register) o) m.last ((s.sides from.line (other_of from.role) m.from_end.there).slot from.channel).placed)
      where
        by_holder : (o : Option ℕ) → holder_of from w.register ≡ o → BeginsIf plan w.origins w.joins o (Some m.caller) → Holder
        by_holder (Some n) e h = record { number = n; is = e; begins = h }
        by_holder None e h = absurd h

    module _ (parts : CallParts) where
      abbrev grown : Extends plan w.origins w.joins os ks
      grown = (joins_go plan w s from to parts m).extends

      came_in_there : (o : Origin) × ((slice_get w.origins m.came_in ≡ Some o) × (o.caller ≡ Some m.caller))
      came_in_there =
          let side = s.sides from.line from.role m.from_end.there in
          let made = (side.slot from.channel).present_origin m.came_in m.present in
          (record { line = from.line; role = from.role; placed_here = made.placed_here; caller = (slot_at from.role from.channel (book_at from.line w.whole)).caller }, (made.there, m.came))

      its_came : CameFrom w.origins m.came_in m.caller
      its_came = record { origin = came_in_there.0; there = came_in_there.1.0; came = came_in_there.1.1 }

      -- a way is one of before, or it ends at the new record
      data OldOrNew (x b : ℕ) : Type 0 where
        before : Way w.origins w.joins x b → OldOrNew x b
        at_new : b ≡ next → Way w.origins w.joins x m.caller → OldOrNew x b

      within : (y : ℕ) (o : Origin) → slice_get w.origins y ≡ Some o → y < next
      within y o at = subst (λ (k : ℕ). y < k) s.records.count (slice_get_within w.origins y o at)

      caller_came : (y : ℕ) → CameFrom os m.came_in y → y ≡ m.caller
      caller_came y came =
          let same : came.origin ≡ came_in_there.0 = same_Some came.origin came_in_there.0 (sym came.there ∙ grown.origins m.came_in came_in_there.0 came_in_there.1.0) in
          same_Some y m.caller (sym came.came ∙ ap (λ (o : Origin). o.caller) same ∙ came_in_there.1.1)

      caller_within : m.caller < next
      caller_within = within m.caller _ (s.records.callers m.came_in m.caller its_came.origin its_came.there its_came.came)

      ways : (x b : ℕ) → Way os ks x b → OldOrNew x b
      ways = along os ks OldOrNew (λ x. before stands) step
        where
          step : (x y a b : ℕ) → Way os ks x y → OldOrNew x y → CameFrom os a y → IsJoined ks a b → OldOrNew x b
          step x y a b way (before old) came joined =
              elim (old_or_new w.joins m.came_in next a b joined) [
                | inl j ↦ before (goes a b old (came_before plan w s os ks grown a b y j came) j)
                | inr j ↦
                    let same : y ≡ m.caller = caller_came y (subst (λ (k : ℕ). CameFrom os k y) j.0 came) in
                    at_new j.1 (subst (λ (k : ℕ). Way w.origins w.joins x k) same old)
              ]
          step x y a b way (at_new e old) came joined =
              elim (old_or_new w.joins m.came_in next a b joined) [
                | inl j ↦
                    let o = caller_before plan w s os ks grown a b y j came in
                    let less = within y o.0 o.1 in
                    absurd (omega arith)
                | inr j ↦
                    let same : y ≡ m.caller = caller_came y (subst (λ (k : ℕ). CameFrom os k y) j.0 came) in
                    let less = caller_within in
                    absurd (omega arith)
              ]

      numbers_same : numbers plan os ≡ numbers plan w.origins
      numbers_same = numbers_switch plan w.origins (placing to.line to.role) m.to_end.switch

      abbrev hop : HopValue
      hop = record { switch = plan.node to.line to.role; line = to.line; channel = to.channel }

      -- the end of the holder's path is where the call came from
      tip_is : (first : ℕ) (hops : List HopValue) (p : IsPath plan w.origins w.joins first hops) → Way w.origins w.joins first m.caller → m.caller ≡ p.tip
      tip_is first hops p way =
          elim (from_first w.origins w.joins m.caller p.tip (p.all m.caller way)) [
            | inl e ↦ e
            | inr f ↦
                let same : f.callee ≡ m.came_in = m.alone f.callee f.came.origin f.came.there f.came.came in
                absurd (m.first f.is_joined.place (record { came_in = f.callee; placed = f.next }) f.is_joined.there same)
          ]

      holder_first : (first : ℕ) → slice_get (numbers plan w.origins) held.number ≡ Some first → held.begins.first ≡ first
      holder_first first at = same_Some held.begins.first first (sym held.begins.numbered ∙ at)

      -- the holder's path goes on
      goes_over : (first : ℕ) (r : RecordValue) → slice_get (numbers plan w.origins) held.number ≡ Some first → slice_get w.register.records held.number ≡ Some r → IsPath plan os ks first (r.path ++ hop ∷ [])
      goes_over first r at there =
          let p : IsPath plan w.origins w.joins first r.path = paths held.number first r at there in
          let way : Way w.origins w.joins first m.caller = subst (λ (k : ℕ). Way w.origins w.joins k m.caller) (holder_first first at) held.begins.way in
          let tip : m.caller ≡ p.tip = tip_is first r.path p way in
          let over : WayOver plan w.origins w.joins r.path first m.caller = subst (λ (k : ℕ). WayOver plan w.origins w.joins r.path first k) (sym tip) p.way in
          let joined : IsJoined ks m.came_in next = record { place = length w.joins; there = get_last w.joins (record { came_in = m.came_in; placed = next }) } in
          let placed : slice_get os next ≡ Some (placing to.line to.role) = ap (λ (k : ℕ). slice_get os k) (sym s.records.count) ∙ get_last w.origins (placing to.line to.role) in
          let came : CameFrom os m.came_in m.caller = more_came plan w.origins w.joins os ks grown m.came_in m.caller its_came in
          record {
            tip = next;
            way = onward m.came_in next (placing to.line to.role) to.channel (more_over plan w.origins w.joins os ks grown r.path first m.caller over) came joined placed;
            all = λ b v. to_next b first r p tip came joined (ways first b v);
          }
        where
          to_next : (b first : ℕ) (r : RecordValue) (p : IsPath plan w.origins w.joins first r.path) → m.caller ≡ p.tip → CameFrom os m.came_in m.caller → IsJoined ks m.came_in next → OldOrNew first b → Way os ks b next
          to_next b first r p tip came joined (before old) =
              goes m.came_in next (more_way plan w.origins w.joins os ks grown b m.caller (subst (λ (k : ℕ). Way w.origins w.joins b k) (sym tip) (p.all b old))) came joined
          to_next b first r p tip came joined (at_new e old) = subst (λ (k : ℕ). Way os ks k next) (sym e) stands

      -- all other paths stay
      stays_over : (n first : ℕ) (r : RecordValue) → n ≢ held.number → slice_get (numbers plan w.origins) n ≡ Some first → slice_get w.register.records n ≡ Some r → IsPath plan os ks first r.path
      stays_over n first r other at there =
          let p : IsPath plan w.origins w.joins first r.path = paths n first r at there in
          record {
            tip = p.tip;
            way = more_over plan w.origins w.joins os ks grown r.path first p.tip p.way;
            all = λ b v. as_before b p (ways first b v);
          }
        where
          as_before : (b : ℕ) (p : IsPath plan w.origins w.joins first r.path) → OldOrNew first b → Way os ks b p.tip
          as_before b p (before old) = more_way plan w.origins w.joins os ks grown b p.tip (p.all b old)
          as_before b p (at_new e old) =
              let same : held.begins.first ≡ first =
              one_first plan w.origins w.joins s.records.placed_once s.records.joined held.begins.first m.caller held.begins.way first old
              (record { number = held.number; numbered = held.begins.numbered }) (record { number = n; numbered = at }) in
              absurd (other (same_place 1 (map (kind plan) w.origins) n held.number first at (held.begins.numbered ∙ ap (λ (k : ℕ). Some k) same)))

      -- there is room for the hop
      path_grows : (r : RecordValue) → length r.path < 16 → (h : HopValue) → (with_hop h r).path ≡ r.path ++ h ∷ []
      path_grows r less h = by_room (nat_le 16 (length r.path)) refl
        where
          by_room : (full : Bool) → nat_le 16 (length r.path) ≡ full → (if full then r else record r { path = r.path ++ h ∷ [] }).path ≡ r.path ++ h ∷ []
          by_room true e = let most = leb-true 16 (length r.path) e in absurd (omega arith)
          by_room false e = refl

      joined_paths : (n first : ℕ) (r : RecordValue) → slice_get (numbers plan os) n ≡ Some first → slice_get (changed_at held.number (with_hop hop) w.register.records) n ≡ Some r → IsPath plan os ks first r.path
      joined_paths n first r at there =
          let old = get_changed w.register.records held.number (with_hop hop) n r there in
          let at_old : slice_get (numbers plan w.origins) n ≡ Some first = ap (λ (ns : List ℕ). slice_get ns n) (sym numbers_same) ∙ at in
          elim old.2 [
            | inl e ↦
                let at_held : slice_get (numbers plan w.origins) held.number ≡ Some first = ap (λ (k : ℕ). slice_get (numbers plan w.origins) k) (sym e.0) ∙ at_old in
                let there_held : slice_get w.register.records held.number ≡ Some old.0 = ap (λ (k : ℕ). slice_get w.register.records k) (sym e.0) ∙ old.1 in
                let p : IsPath plan w.origins w.joins first old.0.path = paths held.number first old.0 at_held there_held in
                let way : Way w.origins w.joins first m.caller = subst (λ (k : ℕ). Way w.origins w.joins k m.caller) (holder_first first at_held) held.begins.way in
                let over : WayOver plan w.origins w.joins old.0.path first m.caller = subst (λ (k : ℕ). WayOver plan w.origins w.joins old.0.path first k) (sym (tip_is first old.0.path p way)) p.way in
                let room = hops_room plan switches w from to old.0.path first tree s m over in
                subst (λ (hops : List HopValue). IsPath plan os ks first hops) (sym (ap (λ (x : RecordValue). x.path) e.1 ∙ path_grows old.0 room hop)) (goes_over first old.0 at_held there_held)
            | inr e ↦ subst (λ (x : RecordValue). IsPath plan os ks first x.path) (sym e.1) (stays_over n first old.0 e.0 at_old old.1)
          ]

-- ---- all events

hops_on : (o : Option ℕ) (n : ℕ) (f : RecordValue → RecordValue) (b : Book) → o ≡ Some n → (with_change o f b).records ≡ changed_at n f b.records
hops_on o n f b e = ap (λ (p : Option ℕ). (with_change p f b).records) e

pub made_paths : MadePathsLaw
made_paths plan lines n first r at there = absurd (none-some r there)

pub paths_go : PathsLaw
paths_go plan switches (Writes line role writes) w tree may s paths =
    written_paths plan w s paths (all_traced line role writes (book_at line w.whole) w.origins) (all_written role writes (book_at line w.register)).records (user_goes plan w s line role writes may.0 may.1).extends
    (writes_stay line role writes (book_at line w.register))
paths_go plan switches (SwitchWrites line role writes) w tree may s paths =
    written_paths plan w s paths (all_traced line role writes (book_at line w.whole) w.origins) w.register.records (switch_goes plan w s line role writes may.0.there may.0.switch may.1).extends
    (stay_same w.register.records)
paths_go plan switches (Joins from to parts) w tree m s paths =
    let os : List Origin = w.origins ++ placing to.line to.role ∷ [] in
    let holder : Option ℕ = holder_of from w.register in
    let h : Holder plan w s paths switches tree from to m = held plan w s paths switches tree from to m in
    let old : Book = book_at to.line w.register in
    let placed : Slot = record (slot_at to.role to.channel old) { placed = holder } in
    let node : (side_of to.role old).node ≡ plan.node to.line to.role = (s.sides to.line to.role m.to_end.there).seen_node in
    let hop : HopValue = record { switch = plan.node to.line to.role; line = to.line; channel = to.channel } in
    let records : (written_at to.line (goes_on to holder) w.register).records ≡ changed_at h.number (with_hop hop) w.register.records =
    hops_on holder h.number (with_hop (record { switch = (side_of to.role old).node; line = to.line; channel = to.channel })) (holds to.role to.channel holder old) h.is
    ∙ ap (λ (rs : List RecordValue). changed_at h.number (with_hop (record { switch = (side_of to.role old).node; line = to.line; channel = to.channel })) rs) (records_put to.role to.channel placed old)
    ∙ ap (λ (k : ℕ). changed_at h.number (with_hop (record { switch = k; line = to.line; channel = to.channel })) w.register.records) node in
    subst (λ (v : Bool). (n first : ℕ) (r : RecordValue) → slice_get (numbers plan os) n ≡ Some first → slice_get (if v then written_at to.line (goes_on to holder) w.register else w.register).records n ≡ Some r
    → IsPath plan os (with_join (slot_at from.role from.channel (book_at from.line w.whole)).present (length w.whole.records) w.joins) first r.path) (sym (line_found plan w s to.line m.to_end.there))
    (subst (λ (o : Option ℕ). (n first : ℕ) (r : RecordValue) → slice_get (numbers plan os) n ≡ Some first → slice_get (written_at to.line (goes_on to holder) w.register).records n ≡ Some r
    → IsPath plan os (with_join o (length w.whole.records) w.joins) first r.path) (sym m.present)
    (λ n first r at there. joined_paths plan w s paths switches tree from to m parts n first r at (ap (λ (rs : List RecordValue). slice_get rs n) (sym records) ∙ there)))
