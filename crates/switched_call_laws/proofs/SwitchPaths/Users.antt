-- What happens at an end with a user.
use Rattle.std.specs.Prelude.{◌≡◌, ◌≢◌, ℕ, ◌<◌, true, false, List, [], length, set, slice_get, Option, Some, option_map}
use Rattle.std.proofs.Common.{inl, inr, refl, sym, ap, ap₂, subst, ◌∙◌, true≢false}
use Rattle.std.proofs.lemmas.Option.{same_Some}
use Rattle.link_timers.specs.declared.role.Role.{Role}
use Rattle.link_timers.specs.declared.role.Role.TheVariants.{Dte}
use Rattle.link_timers.specs.Role.{other_of}
use Rattle.call_records.specs.Book.{Book}
use Rattle.call_records.specs.Writes.{Write, all_written}
use Rattle.record_laws.proofs.Books.Basics.{number_is, get_there, set_here, set_elsewhere, length_set, twice}
use Rattle.node_laws.specs.LineRecords.Kept.{Kept, end_at}
use Rattle.switched_call_laws.specs.SwitchRecords.Turned.{sight}
use Rattle.switched_call_laws.proofs.SwitchRecords.Turned.{sight_back, partner_seen}
use Rattle.record_laws.specs.CallPaths.World.{Origin, World, Plan}
use Rattle.switched_call_laws.specs.SwitchPaths.Sight.{Switched, Switches, OwnLines, Lines, Standing, role_at, network_line, StaysInSight, seen_then}
use Rattle.switched_call_laws.specs.SwitchPaths.Network.{IsPlanned, PlacedCall, of_switch, IsNetwork}
use Rattle.switched_call_laws.specs.SwitchPaths.SwitchPathLaws.{with_line, StaysKept, UserLaw}
use Rattle.switched_call_laws.proofs.SwitchPaths.Listing.{if_same, if_else}
use Rattle.switched_call_laws.proofs.SwitchPaths.Seeing.{written_by_user}
use Rattle.switched_call_laws.proofs.SwitchPaths.Elsewhere.{kept_in_sight, LineStays, elsewhere}
use Rattle.switched_call_laws.proofs.SwitchPaths.PartnerMoves.{other_role, seen_was}

module _ (plan : Plan) (ats : OwnLines) (xs : Switches) (cs : List PlacedCall) (old : Lines) (books : List Book) (w : World) (traces : List (List Origin)) (line : ℕ) (role : Role) (ws : List Write) (b : Book) (l : Standing) (user : plan.has_user line role ≡ true)
    (there : slice_get books line ≡ Some b) (stays_kept : plan.has_user line (other_of role) ≡ false → StaysKept (other_of role) (old line) l (all_written role ws b)) (i : IsNetwork plan ats xs cs old books w traces) where
  abbrev new : Book
  new = all_written role ws b

  abbrev lines : Lines
  lines = with_line line l old

  abbrev books_then : List Book
  books_then = set books line new

  here : (k : ℕ) → k ≡ line → lines k ≡ l
  here k e = if_same k line l (old k) e

  beside : (k : ℕ) → k ≢ line → lines k ≡ old k
  beside k ne = if_else k line l (old k) ne

  module _ (p : ℕ) (x : Switched) (x_there : xs p ≡ Some x) where
    stays : StaysInSight (ats p) x (of_switch p cs) old books
    stays = i.stays p x x_there

    planned : IsPlanned plan p (ats p) (role_at x) x.switch
    planned = i.planned p x x_there

    on_another : (n : ℕ) (h : n < length (ats p)) → network_line (ats p) n ≢ line → LineStays x n (network_line (ats p) n) old lines books_then
    on_another n h ne =
        let k = network_line (ats p) n in
        let c = sight (role_at x n) (x.histories.books n) in
        let was : slice_get books k ≡ Some c = (stays.sight n h).book in
        let m = get_there x.switch.lines n (subst (λ (j : ℕ). n < j) planned.lines h) in
        record {
          book = c;
          there = set_elsewhere books line k new ne ∙ was;
          written = record { writes = []; is = sight_back (role_at x n) (x.histories.books n) };
          kept = subst (λ (s : Standing). Kept s.setting c s.line) (sym (beside k ne)) (kept_in_sight x n k old books m.0 m.1 (stays.sight n h) (stays.tied.kept n m.0 m.1));
          end = ap (λ (s : Standing). end_at (role_at x n) s.line) (beside k ne);
        }

    on_it : (n : ℕ) (h : n < length (ats p)) → network_line (ats p) n ≡ line → LineStays x n line old lines books_then
    on_it n h is =
        let r = role_at x n in
        let c = x.histories.books n in
        let book_is : sight r c ≡ b = same_Some (sight r c) b (sym (stays.sight n h).book ∙ (ap (λ (k : ℕ). slice_get books k) is ∙ there)) in
        record {
          book = new;
          there = set_here books line new b there;
          written = record {
            writes = ws;
            is = ap₂ (λ (side : Role) (d : Book). sight r (all_written side ws d)) (sym others_role) (sym book_is)
                ∙ (ap (λ (d : Book). sight r d) (partner_seen r ws c) ∙ sight_back r (all_written Dte ws c));
          };
          kept = subst (λ (s : Standing). Kept s.setting new s.line) (sym (here line refl)) (stays_kept beyond).kept;
          end = ap (λ (s : Standing). end_at r s.line) (here line refl) ∙ subst (λ (side : Role). end_at side l.line ≡ end_at side (old line).line) (sym role_is) (stays_kept beyond).end;
        }
      where
        -- the switch is at the other end
        role_is : role_at x n ≡ other_of role
        role_is = other_role (role_at x n) role (λ e. true≢false (sym user ∙ (ap₂ (λ (k : ℕ) (r : Role). plan.has_user k r) (sym is) (sym e) ∙ planned.switch_end n h)))

        others_role : other_of (role_at x n) ≡ role
        others_role = ap other_of role_is ∙ twice role

        beyond : plan.has_user line (other_of role) ≡ false
        beyond = ap₂ (λ (k : ℕ) (r : Role). plan.has_user k r) (sym is) (sym role_is) ∙ planned.switch_end n h

    line_stays : (n : ℕ) → n < length (ats p) → LineStays x n (network_line (ats p) n) old lines books_then
    line_stays n h = elim (number_is (network_line (ats p) n) line) [
      | inl is ↦ subst (λ (k : ℕ). LineStays x n k old lines books_then) (sym is) (on_it n h is)
      | inr ne ↦ on_another n h ne
    ]

    its_stays : StaysInSight (ats p) (seen_then (ats p) lines books_then x) (of_switch p cs) lines books_then
    its_stays = elsewhere (ats p) x (of_switch p cs) old lines books books_then planned.lines line_stays stays

pub user_after : UserLaw
user_after plan ats xs cs old books w traces line role ws b own l user there trace stays_kept i =
    let new = all_written role ws b in
    let lines = with_line line l old in
    let books_then = set books line new in
    record {
      alike = i.alike;
      switches = i.switches;
      tree = i.tree;
      planned = λ p z e.
          let was = seen_was (ats p) lines books_then (xs p) z e in
          subst (λ (u : Switched). IsPlanned plan p (ats p) (role_at u) u.switch) (sym was.1.1) (i.planned p was.0 was.1.0);
      ends = λ k side h switch.
          let e = i.ends k side (subst (λ (n : ℕ). k < n) (length_set books line new) h) switch in
          record {
            it = seen_then (ats (plan.node k side)) lines books_then e.it;
            there = ap (λ (o : Option Switched). option_map (λ x. seen_then (ats (plan.node k side)) lines books_then x) o) e.there;
            own = e.own;
            within = e.within;
            line_is = e.line_is;
            role_is = e.role_is;
          };
      stays = λ p z e.
          let was = seen_was (ats p) lines books_then (xs p) z e in
          subst (λ (u : Switched). StaysInSight (ats p) u (of_switch p cs) lines books_then) (sym was.1.1)
          (its_stays plan ats xs cs old books w traces line role ws b l user there stays_kept i p was.0 was.1.0);
      seen = written_by_user plan ats line role ws b own cs books w traces user there trace i.seen;
    }
