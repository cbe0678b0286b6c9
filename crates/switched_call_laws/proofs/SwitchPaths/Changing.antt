-- What changes on a line where nothing is written, and nothing happens at the ends of switches.
use Rattle.std.specs.Prelude.{◌≡◌, ◌≢◌, ℕ, ◌<◌, false, List, [], length, slice_get, Option, Some, option_map}
use Rattle.std.proofs.Common.{inl, inr, refl, sym, ap, subst, ◌∙◌}
use Rattle.std.proofs.lemmas.Option.{same_Some}
use Rattle.link_timers.specs.declared.role.Role.{Role}
use Rattle.call_records.specs.Book.{Book}
use Rattle.record_laws.proofs.Books.Basics.{number_is, get_there}
use Rattle.node_laws.specs.LineRecords.Kept.{Kept, end_at}
use Rattle.switched_call_laws.specs.SwitchRecords.Turned.{sight}
use Rattle.switched_call_laws.proofs.SwitchRecords.Turned.{sight_back}
use Rattle.record_laws.specs.CallPaths.World.{Origin, World, Plan}
use Rattle.switched_call_laws.specs.SwitchPaths.Sight.{Switched, Switches, OwnLines, Lines, Standing, role_at, network_line, StaysInSight, seen_then}
use Rattle.switched_call_laws.specs.SwitchPaths.Network.{IsPlanned, PlacedCall, of_switch, IsNetwork}
use Rattle.switched_call_laws.specs.SwitchPaths.SwitchPathLaws.{with_line, StaysKept, ChangeLaw}
use Rattle.switched_call_laws.proofs.SwitchPaths.Listing.{if_same, if_else}
use Rattle.switched_call_laws.proofs.SwitchPaths.Elsewhere.{kept_in_sight, LineStays, elsewhere}
use Rattle.switched_call_laws.proofs.SwitchPaths.PartnerMoves.{seen_was}

module _ (plan : Plan) (ats : OwnLines) (xs : Switches) (cs : List PlacedCall) (old : Lines) (books : List Book) (w : World) (traces : List (List Origin)) (line : ℕ) (b : Book) (l : Standing)
    (there : slice_get books line ≡ Some b) (stays_kept : (role : Role) → plan.has_user line role ≡ false → StaysKept role (old line) l b) (i : IsNetwork plan ats xs cs old books w traces) where
  abbrev lines : Lines
  lines = with_line line l old

  here : (k : ℕ) → k ≡ line → lines k ≡ l
  here k e = if_same k line l (old k) e

  beside : (k : ℕ) → k ≢ line → lines k ≡ old k
  beside k ne = if_else k line l (old k) ne

  module _ (p : ℕ) (x : Switched) (x_there : xs p ≡ Some x) where
    stays : StaysInSight (ats p) x (of_switch p cs) old books
    stays = i.stays p x x_there

    planned : IsPlanned plan p (ats p) (role_at x) x.switch
    planned = i.planned p x x_there

    on_another : (n : ℕ) (h : n < length (ats p)) → network_line (ats p) n ≢ line → LineStays x n (network_line (ats p) n) old lines books
    on_another n h ne =
        let k = network_line (ats p) n in
        let c = sight (role_at x n) (x.histories.books n) in
        let m = get_there x.switch.lines n (subst (λ (j : ℕ). n < j) planned.lines h) in
        record {
          book = c;
          there = (stays.sight n h).book;
          written = record { writes = []; is = sight_back (role_at x n) (x.histories.books n) };
          kept = subst (λ (s : Standing). Kept s.setting c s.line) (sym (beside k ne)) (kept_in_sight x n k old books m.0 m.1 (stays.sight n h) (stays.tied.kept n m.0 m.1));
          end = ap (λ (s : Standing). end_at (role_at x n) s.line) (beside k ne);
        }

    on_it : (n : ℕ) (h : n < length (ats p)) → network_line (ats p) n ≡ line → LineStays x n line old lines books
    on_it n h is =
        let r = role_at x n in
        let c = x.histories.books n in
        let book_is : sight r c ≡ b = same_Some (sight r c) b (sym (stays.sight n h).book ∙ (ap (λ (k : ℕ). slice_get books k) is ∙ there)) in
        let own : plan.has_user line r ≡ false = ap (λ (k : ℕ). plan.has_user k r) (sym is) ∙ planned.switch_end n h in
        record {
          book = b;
          there = there;
          written = record { writes = []; is = ap (λ (d : Book). sight r d) (sym book_is) ∙ sight_back r c };
          kept = subst (λ (s : Standing). Kept s.setting b s.line) (sym (here line refl)) (stays_kept r own).kept;
          end = ap (λ (s : Standing). end_at r s.line) (here line refl) ∙ (stays_kept r own).end;
        }

    line_stays : (n : ℕ) → n < length (ats p) → LineStays x n (network_line (ats p) n) old lines books
    line_stays n h = elim (number_is (network_line (ats p) n) line) [
      | inl is ↦ subst (λ (k : ℕ). LineStays x n k old lines books) (sym is) (on_it n h is)
      | inr ne ↦ on_another n h ne
    ]

    its_stays : StaysInSight (ats p) (seen_then (ats p) lines books x) (of_switch p cs) lines books
    its_stays = elsewhere (ats p) x (of_switch p cs) old lines books books planned.lines line_stays stays

pub change_after : ChangeLaw
change_after plan ats xs cs old books w traces line b l there stays_kept i =
    let lines = with_line line l old in
    record {
      alike = i.alike;
      switches = i.switches;
      tree = i.tree;
      planned = λ p z e.
          let was = seen_was (ats p) lines books (xs p) z e in
          subst (λ (u : Switched). IsPlanned plan p (ats p) (role_at u) u.switch) (sym was.1.1) (i.planned p was.0 was.1.0);
      ends = λ k side h switch.
          let e = i.ends k side h switch in
          record {
            it = seen_then (ats (plan.node k side)) lines books e.it;
            there = ap (λ (o : Option Switched). option_map (λ x. seen_then (ats (plan.node k side)) lines books x) o) e.there;
            own = e.own;
            within = e.within;
            line_is = e.line_is;
            role_is = e.role_is;
          };
      stays = λ p z e.
          let was = seen_was (ats p) lines books (xs p) z e in
          subst (λ (u : Switched). StaysInSight (ats p) u (of_switch p cs) lines books) (sym was.1.1)
          (its_stays plan ats xs cs old books w traces line b l there stays_kept i p was.0 was.1.0);
      seen = i.seen;
    }
