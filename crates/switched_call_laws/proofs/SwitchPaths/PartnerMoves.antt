-- What happened at one switch of a network is, for each other one that shares a line with it, what its partner did.
use Rattle.std.specs.Prelude.{◌≡◌, ◌≢◌, ℕ, ◌<◌, ◌⊎◌, List, [], ◌++◌, length, slice_get, Option, Some, None, option_map}
use Rattle.std.proofs.Common.{inl, inr, refl, sym, ap, ap₂, subst, ◌∙◌}
use Rattle.std.proofs.lemmas.Option.{none-some, same_Some}
use Rattle.link_timers.specs.declared.role.Role.{Role}
use Rattle.link_timers.specs.declared.role.Role.TheVariants.{Dte, Dce}
use Rattle.link_timers.specs.Role.{other_of}
use Rattle.call_records.specs.Book.{Book}
use Rattle.call_records.specs.Writes.{all_written}
use Rattle.call_records.specs.Register.{Register}
use Rattle.record_laws.proofs.Books.Basics.{number_is, get_there}
use Rattle.node_laws.specs.LineRecords.Kept.{Kept, end_at}
use Rattle.switch_lines.specs.Lines.{SwitchLine}
use Rattle.switched_call_laws.specs.SwitchRecords.Turned.{sight}
use Rattle.switched_call_laws.specs.SwitchRecords.Kept.{Partner}
use Rattle.switched_call_laws.specs.SwitchRecords.Tied.{IsTied}
use Rattle.switched_call_laws.specs.JoinedCalls.Calls.{JoinedCall, AreCalls}
use Rattle.switched_call_laws.specs.JoinedCalls.JoinLaws.{IsWritten}
use Rattle.switched_call_laws.proofs.SwitchRecords.Turned.{sight_back, written_across}
use Rattle.record_laws.specs.CallPaths.World.{Origin, World, Plan}
use Rattle.switched_call_laws.specs.SwitchPaths.Sight.{Switched, Switches, OwnLines, Lines, Standing, role_at, network_line, standing_with, StaysInSight, seen_then, all_after}
use Rattle.switched_call_laws.specs.SwitchPaths.Network.{IsOther, IsPlanned, IsAtSwitch, PlacedCall, placed_at, of_switch, AllSeen, IsNetwork}
use Rattle.switched_call_laws.specs.SwitchPaths.SwitchPathLaws.{NetworkAfter, NetworkStays}
use Rattle.switched_call_laws.proofs.SwitchPaths.LinesByMoves.{IsOwn, own_or_other}
use Rattle.switched_call_laws.proofs.SwitchPaths.Listing.{AreApart, AreAmong, BooksStay, if_same, if_else, own_behind, other_behind}
use Rattle.switched_call_laws.proofs.SwitchPaths.Elsewhere.{other_end, kept_in_sight, LineStays, elsewhere}

-- ---- the two roles of a line

pub other_role : (a b : Role) → (a ≡ b → ⊥) → a ≡ other_of b
other_role Dte Dte ne = absurd (ne refl)
other_role Dte Dce ne = refl
other_role Dce Dte ne = refl
other_role Dce Dce ne = absurd (ne refl)

-- ---- the lines then

abbrev pub with_end : Option SwitchLine → Partner → (old : Standing) → Standing
with_end None p old = old
with_end (Some l) p old = standing_with p l.end

abbrev pub line_by : (at : List ℕ) → Switched → (line : ℕ) → (old : Standing) → IsOwn at line ⊎ IsOther at line → Standing
line_by at y line old (inr other) = old
line_by at y line old (inl own) = with_end (slice_get y.switch.lines own.0) (y.histories.partners own.0) old

-- an own line is as the switch has it then, and another one is as it was
abbrev pub lines_then : (at : List ℕ) → Switched → Lines → Lines
lines_then at y lines = λ line. line_by at y line (lines line) (own_or_other at line)

pub other_then : (at : List ℕ) (y : Switched) (lines : Lines) (line : ℕ) → IsOther at line → lines_then at y lines line ≡ lines line
other_then at y lines line other = by_own (own_or_other at line)
  where
    by_own : (o : IsOwn at line ⊎ IsOther at line) → line_by at y line (lines line) o ≡ lines line
    by_own (inr o) = refl
    by_own (inl own) = absurd (other own.0 own.1.0 own.1.1)

pub own_then : (at : List ℕ) (y : Switched) (lines : Lines) (n : ℕ) (l : SwitchLine) → AreApart at → n < length at → slice_get y.switch.lines n ≡ Some l → lines_then at y lines (network_line at n) ≡ standing_with (y.histories.partners n) l.end
own_then at y lines n l apart h e = by_own (own_or_other at (network_line at n))
  where
    by_own : (o : IsOwn at (network_line at n) ⊎ IsOther at (network_line at n)) → line_by at y (network_line at n) (lines (network_line at n)) o ≡ standing_with (y.histories.partners n) l.end
    by_own (inr other) = absurd (other n h refl)
    by_own (inl own) =
        let same : own.0 ≡ n = apart own.0 n own.1.0 h own.1.1 in
        ap (λ (m : ℕ). with_end (slice_get y.switch.lines m) (y.histories.partners m) (lines (network_line at n))) same
        ∙ ap (λ (o : Option SwitchLine). with_end o (y.histories.partners n) (lines (network_line at n))) e

-- ---- the switches then

pub data AfterAt (ats : OwnLines) (xs : Switches) (place : ℕ) (y : Switched) (lines : Lines) (books : List Book) (p : ℕ) (z : Switched) : Type 0 where
  here : p ≡ place → z ≡ y → AfterAt ats xs place y lines books p z
  beside : p ≢ place → (x : Switched) → xs p ≡ Some x → z ≡ seen_then (ats p) lines books x → AfterAt ats xs place y lines books p z

-- a switch was there if it is, where nothing happened at it
pub seen_was : (at : List ℕ) (lines : Lines) (books : List Book) (o : Option Switched) (z : Switched) → option_map (λ x. seen_then at lines books x) o ≡ Some z → (x : Switched) × ((o ≡ Some x) × (z ≡ seen_then at lines books x))
seen_was at lines books None z e = absurd (none-some z e)
seen_was at lines books (Some x) z e = (x, (refl, sym (same_Some (seen_then at lines books x) z e)))

after_at : (ats : OwnLines) (xs : Switches) (place : ℕ) (y : Switched) (lines : Lines) (books : List Book) (p : ℕ) (z : Switched) → all_after place y ats lines books xs p ≡ Some z → AfterAt ats xs place y lines books p z
after_at ats xs place y lines books p z e = elim (number_is p place) [
  | inl is ↦ AfterAt.here is (sym (same_Some y z (sym (if_same p place (Some y) (option_map (λ x. seen_then (ats p) lines books x) (xs p)) is) ∙ e)))
  | inr ne ↦
      let was = seen_was (ats p) lines books (xs p) z (sym (if_else p place (Some y) (option_map (λ x. seen_then (ats p) lines books x) (xs p)) ne) ∙ e) in
      AfterAt.beside ne was.0 was.1.0 was.1.1
]

-- ---- one switch moves

-- the switch at a place becomes another one, which joined these calls more: it wrote at its own ends alone, and the
-- other ends are as they were
pub record SwitchMoved (plan : Plan) (ats : OwnLines) (place : ℕ) (x y : Switched) (old : List PlacedCall) (new : List JoinedCall) (old_books books : List Book) (w : World) (old_traces traces : List (List Origin)) : Type 0 where
  pub planned : IsPlanned plan place (ats place) (role_at x) y.switch
  pub tied : IsTied y.switch y.histories
  pub calls : AreCalls y.switch.lines y.histories.books (of_switch place old ++ new)
  pub among : AreAmong (ats place) (role_at x) y.histories.books books
  pub written : (n : ℕ) → IsWritten Dce (x.histories.books n) (y.histories.books n)
  pub role : (n : ℕ) → role_at y n ≡ role_at x n
  pub other : (n : ℕ) → n < length (ats place) → (y.histories.partners n).other ≡ (x.histories.partners n).other
  pub others : BooksStay (ats place) old_books books old_traces traces
  pub seen : AllSeen plan ats (old ++ placed_at place new) books w traces

module _ (plan : Plan) (ats : OwnLines) (xs : Switches) (place : ℕ) (x y : Switched) (old : List PlacedCall) (new : List JoinedCall) (old_lines : Lines) (old_books books : List Book) (v w : World) (old_traces traces : List (List Origin))
    (there : xs place ≡ Some x) (i : IsNetwork plan ats xs old old_lines old_books v old_traces) (m : SwitchMoved plan ats place x y old new old_books books w old_traces traces) where
  abbrev at : List ℕ
  at = ats place

  abbrev lines : Lines
  lines = lines_then at y old_lines

  abbrev all : List PlacedCall
  all = old ++ placed_at place new

  was_stays : StaysInSight at x (of_switch place old) old_lines old_books
  was_stays = i.stays place x there

  was_planned : IsPlanned plan place at (role_at x) x.switch
  was_planned = i.planned place x there

  -- its own line
  its_line : (n : ℕ) → n < length at → (l : SwitchLine) × (slice_get y.switch.lines n ≡ Some l)
  its_line n h = get_there y.switch.lines n (subst (λ (k : ℕ). n < k) m.planned.lines h)

  old_line : (n : ℕ) → n < length at → (l : SwitchLine) × (slice_get x.switch.lines n ≡ Some l)
  old_line n h = get_there x.switch.lines n (subst (λ (k : ℕ). n < k) was_planned.lines h)

  kept_own : (n : ℕ) → n < length at → Kept (lines (network_line at n)).setting (sight (role_at x n) (y.histories.books n)) (lines (network_line at n)).line
  kept_own n h =
      let l = its_line n h in
      subst (λ (s : Standing). Kept s.setting (sight (role_at x n) (y.histories.books n)) s.line) (sym (own_then at y old_lines n l.0 m.planned.apart h l.1))
      (subst (λ (r : Role). Kept (standing_with (y.histories.partners n) l.0.end).setting (sight r (y.histories.books n)) (standing_with (y.histories.partners n) l.0.end).line) (m.role n) (m.tied.kept n l.0 l.1))

  -- the other end of an own line is as it was
  far_end_stays : (n : ℕ) → n < length at → end_at (other_of (role_at x n)) (lines (network_line at n)).line ≡ end_at (other_of (role_at x n)) (old_lines (network_line at n)).line
  far_end_stays n h =
      let l = its_line n h in
      let k = old_line n h in
      let p : Partner = y.histories.partners n in
      let q : Partner = x.histories.partners n in
      ap (λ (s : Standing). end_at (other_of (role_at x n)) s.line) (own_then at y old_lines n l.0 m.planned.apart h l.1)
      ∙ (ap (λ (r : Role). end_at (other_of r) (standing_with p l.0.end).line) (sym (m.role n))
      ∙ (other_end p.role l.0.end p.other p.up p.down
      ∙ (m.other n h
      ∙ (sym (other_end q.role k.0.end q.other q.up q.down)
      ∙ ap (λ (s : Standing). end_at (other_of (role_at x n)) s.line) ((was_stays.sight n h).line_is k.0 k.1)))))

  -- ---- another switch

  module _ (p : ℕ) (z : Switched) (ne : p ≢ place) (z_there : xs p ≡ Some z) where
    z_stays : StaysInSight (ats p) z (of_switch p old) old_lines old_books
    z_stays = i.stays p z z_there

    z_planned : IsPlanned plan p (ats p) (role_at z) z.switch
    z_planned = i.planned p z z_there

    not_own : (n : ℕ) (h : n < length (ats p)) → IsOther at (network_line (ats p) n) → LineStays z n (network_line (ats p) n) old_lines lines books
    not_own n h other =
        let line = network_line (ats p) n in
        let b = sight (role_at z n) (z.histories.books n) in
        let was : slice_get old_books line ≡ Some b = (z_stays.sight n h).book in
        let same : lines line ≡ old_lines line = other_then at y old_lines line other in
        let l = get_there z.switch.lines n (subst (λ (k : ℕ). n < k) z_planned.lines h) in
        record {
          book = b;
          there = m.others.same line other ∙ was;
          written = record { writes = []; is = sight_back (role_at z n) (z.histories.books n) };
          kept = subst (λ (s : Standing). Kept s.setting b s.line) (sym same) (kept_in_sight z n line old_lines old_books l.0 l.1 (z_stays.sight n h) (z_stays.tied.kept n l.0 l.1));
          end = ap (λ (s : Standing). end_at (role_at z n) s.line) same;
        }

    shared : (n : ℕ) (h : n < length (ats p)) (k : ℕ) (g : k < length at) → network_line at k ≡ network_line (ats p) n → LineStays z n (network_line at k) old_lines lines books
    shared n h k g same =
        let line = network_line at k in
        let b = sight (role_at x k) (y.histories.books k) in
        let old_book = sight (role_at x k) (x.histories.books k) in
        let written = m.written k in
        let across = written_across (role_at x k) written.writes old_book b (sight_back (role_at x k) (y.histories.books k) ∙ (written.is ∙ ap (λ (c : Book). all_written Dce written.writes c) (sym (sight_back (role_at x k) (x.histories.books k))))) in
        let before : sight (role_at x k) (x.histories.books k) ≡ sight (role_at z n) (z.histories.books n) = same_Some old_book (sight (role_at z n) (z.histories.books n)) (sym (was_stays.sight k g).book ∙ (ap (λ (j : ℕ). slice_get old_books j) same ∙ (z_stays.sight n h).book)) in
        let opened : sight (role_at z n) old_book ≡ z.histories.books n = ap (λ (c : Book). sight (role_at z n) c) before ∙ sight_back (role_at z n) (z.histories.books n) in
        record {
          book = b;
          there = m.among k g;
          written = record {
            writes = written.writes;
            is = ap (λ (r : Role). sight r b) role ∙ (across ∙ ap (λ (c : Book). all_written Dte written.writes c) (ap (λ (r : Role). sight r old_book) (sym role) ∙ opened));
          };
          kept = kept_own k g;
          end = subst (λ (r : Role). end_at r (lines line).line ≡ end_at r (old_lines line).line) (sym role) (far_end_stays k g);
        }
      where
        -- two switches of a line are at its two ends
        role : role_at z n ≡ other_of (role_at x k)
        role = other_role (role_at z n) (role_at x k)
            (λ e. ne (sym (z_planned.placed n h) ∙ (ap₂ (λ (line : ℕ) (r : Role). plan.node line r) (sym same) e ∙ was_planned.placed k g)))

    line_stays : (n : ℕ) → n < length (ats p) → LineStays z n (network_line (ats p) n) old_lines lines books
    line_stays n h = elim (own_or_other at (network_line (ats p) n)) [
      | inl own ↦ subst (λ (line : ℕ). LineStays z n line old_lines lines books) own.1.1 (shared n h own.0 own.1.0 own.1.1)
      | inr other ↦ not_own n h other
    ]

    calls_stay : of_switch p old ≡ of_switch p all
    calls_stay = sym (other_behind p place old new (λ e. ne (sym e)))

    its_stays : StaysInSight (ats p) (seen_then (ats p) lines books z) (of_switch p all) lines books
    its_stays =
        subst (λ (cs : List JoinedCall). StaysInSight (ats p) (seen_then (ats p) lines books z) cs lines books) calls_stay
        (elsewhere (ats p) z (of_switch p old) old_lines lines old_books books z_planned.lines line_stays z_stays)

  -- ---- the network

  y_planned : IsPlanned plan place at (role_at y) y.switch
  y_planned = record {
    lines = m.planned.lines;
    apart = m.planned.apart;
    switch_end = λ n h. ap (λ (r : Role). plan.has_user (network_line at n) r) (m.role n) ∙ m.planned.switch_end n h;
    placed = λ n h. ap (λ (r : Role). plan.node (network_line at n) r) (m.role n) ∙ m.planned.placed n h;
    address = m.planned.address;
    route = m.planned.route;
  }

  y_stays : StaysInSight at y (of_switch place all) lines books
  y_stays = record {
    tied = m.tied;
    calls = subst (λ (cs : List JoinedCall). AreCalls y.switch.lines y.histories.books cs) (sym (own_behind place old new)) m.calls;
    sight = λ n h. record {
      book = m.among n h ∙ ap (λ (r : Role). Some (sight r (y.histories.books n))) (sym (m.role n));
      line_is = λ l e. sym (own_then at y old_lines n l m.planned.apart h e);
    };
  }

  planned_at : (p : ℕ) (z : Switched) → AfterAt ats xs place y lines books p z → IsPlanned plan p (ats p) (role_at z) z.switch
  planned_at p z (AfterAt.here is same) = subst (λ (u : Switched). IsPlanned plan p (ats p) (role_at u) u.switch) (sym same) (subst (λ (k : ℕ). IsPlanned plan k (ats k) (role_at y) y.switch) (sym is) y_planned)
  planned_at p z (AfterAt.beside ne u e same) = subst (λ (u : Switched). IsPlanned plan p (ats p) (role_at u) u.switch) (sym same) (i.planned p u e)

  stays_at : (p : ℕ) (z : Switched) → AfterAt ats xs place y lines books p z → StaysInSight (ats p) z (of_switch p all) lines books
  stays_at p z (AfterAt.here is same) = subst (λ (u : Switched). StaysInSight (ats p) u (of_switch p all) lines books) (sym same) (subst (λ (k : ℕ). StaysInSight (ats k) y (of_switch k all) lines books) (sym is) y_stays)
  stays_at p z (AfterAt.beside ne u e same) = subst (λ (u : Switched). StaysInSight (ats p) u (of_switch p all) lines books) (sym same) (its_stays p u ne e)

  end_stays : (line : ℕ) (role : Role) (p : ℕ) → IsAtSwitch ats xs p line role → IsAtSwitch ats (all_after place y ats lines books xs) p line role
  end_stays line role p e = elim (number_is p place) [
    | inl is ↦ record {
      it = y;
      there = if_same p place (Some y) (option_map (λ x. seen_then (ats p) lines books x) (xs p)) is;
      own = e.own;
      within = e.within;
      line_is = e.line_is;
      role_is = m.role e.own ∙ (ap (λ (u : Switched). role_at u e.own) (same_Some x e.it (sym there ∙ (ap (λ (k : ℕ). xs k) (sym is) ∙ e.there))) ∙ e.role_is);
    }
    | inr ne ↦ record {
      it = seen_then (ats p) lines books e.it;
      there = if_else p place (Some y) (option_map (λ x. seen_then (ats p) lines books x) (xs p)) ne ∙ ap (λ (o : Option Switched). option_map (λ x. seen_then (ats p) lines books x) o) e.there;
      own = e.own;
      within = e.within;
      line_is = e.line_is;
      role_is = e.role_is;
    }
  ]

  network_then : (cs : List PlacedCall) → all ≡ cs → IsNetwork plan ats (all_after place y ats lines books xs) cs lines books w traces
  network_then cs joined = subst (λ (ds : List PlacedCall). IsNetwork plan ats (all_after place y ats lines books xs) ds lines books w traces) joined (record {
    alike = i.alike;
    switches = i.switches;
    tree = i.tree;
    planned = λ p z e. planned_at p z (after_at ats xs place y lines books p z e);
    ends = λ line role h switch. end_stays line role (plan.node line role) (i.ends line role (subst (λ (k : ℕ). line < k) m.others.count h) switch);
    stays = λ p z e. stays_at p z (after_at ats xs place y lines books p z e);
    seen = m.seen;
  })

  pub switch_moves : (cs : List PlacedCall) (register : Register) → all ≡ cs → w.register ≡ register → NetworkAfter plan ats xs place y cs register old_lines old_books old_traces
  switch_moves cs register joined same = record {
    lines = lines;
    books = books;
    world = w;
    traces = traces;
    network = network_then cs joined;
    same = same;
    own = λ n l h e. own_then at y old_lines n l m.planned.apart h e;
    others = record {
      count = m.others.count;
      same_line = λ line other. other_then at y old_lines line other;
      same = m.others.same;
      same_trace = m.others.same_trace;
    };
  }

  pub switch_stays : (cs : List PlacedCall) → all ≡ cs → NetworkStays plan ats xs place y cs old_lines books w traces
  switch_stays cs joined = record {
    lines = lines;
    network = network_then cs joined;
    own = λ n l h e. own_then at y old_lines n l m.planned.apart h e;
    same_line = λ line other. other_then at y old_lines line other;
  }
