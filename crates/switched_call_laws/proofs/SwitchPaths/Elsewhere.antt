-- A switch at which nothing happened keeps its lines in its sight, with what happened at their other ends.
use Rattle.std.specs.Prelude.{◌≡◌, ℕ, ◌<◌, List, [], length, slice_get, Option, Some, None, option_and_then}
use Rattle.std.proofs.Common.{inl, inr, refl, sym, ap, subst, ◌∙◌}
use Rattle.std.proofs.lemmas.Option.{slice_get_within}
use Rattle.link_timers.specs.declared.role.Role.{Role}
use Rattle.link_timers.specs.declared.role.Role.TheVariants.{Dte, Dce}
use Rattle.link_timers.specs.Role.{other_of}
use Rattle.lapb.specs.Machine.{Octets}
use Rattle.packet_end.specs.PacketEnd.{PacketEnd}
use Rattle.call_records.specs.Book.{Book}
use Rattle.record_laws.proofs.Books.Basics.{get_there}
use Rattle.node_laws.specs.Lines.NodeLine.{Line}
use Rattle.node_laws.specs.LineRecords.Kept.{Kept, end_at}
use Rattle.switch_lines.specs.Lines.{SwitchLine}
use Rattle.switched_call_laws.specs.SwitchRecords.Turned.{sight}
use Rattle.switched_call_laws.specs.SwitchRecords.Kept.{Partner, line_of_ends, line_with, KeptWith}
use Rattle.switched_call_laws.specs.JoinedCalls.Calls.{JoinedCall}
use Rattle.switched_call_laws.specs.JoinedCalls.JoinLaws.{IsWritten, HappenedOutside}
use Rattle.switched_call_laws.proofs.SwitchRecords.Turned.{sight_back}
use Rattle.switched_call_laws.proofs.JoinedCalls.Outside.{happened_outside}
use Rattle.switched_call_laws.specs.SwitchPaths.Sight.{Switched, Lines, Standing, role_at, found_line, network_line, standing_with, partner_of, IsInSight, StaysInSight, seen_book, seen_then}
use Rattle.switched_call_laws.proofs.SwitchPaths.Listing.{less_or_not}

-- ---- the ends of a line

pub own_end : (r : Role) (e o : PacketEnd) (up down : List Octets) → end_at r (line_of_ends r e o up down) ≡ e
own_end Dte e o up down = refl
own_end Dce e o up down = refl

pub other_end : (r : Role) (e o : PacketEnd) (up down : List Octets) → end_at (other_of r) (line_of_ends r e o up down) ≡ o
other_end Dte e o up down = refl
other_end Dce e o up down = refl

-- a line is that of its own end and of its partner
pub partner_line : (r : Role) (l : Standing) (e : PacketEnd) → end_at r l.line ≡ e → standing_with (partner_of r l) e ≡ l
partner_line Dte l e h = ap (λ (x : PacketEnd). standing_with (partner_of Dte l) x) (sym h)
partner_line Dce l e h = ap (λ (x : PacketEnd). standing_with (partner_of Dce l) x) (sym h)

-- the end of a switch on a line in its sight
pub end_in_sight : (x : Switched) (own line : ℕ) (lines : Lines) (books : List Book) (l : SwitchLine) → slice_get x.switch.lines own ≡ Some l → IsInSight x own line lines books → end_at (role_at x own) (lines line).line ≡ l.end
end_in_sight x own line lines books l e i =
    let p : Partner = x.histories.partners own in
    ap (λ (s : Standing). end_at (role_at x own) s.line) (sym (i.line_is l e)) ∙ own_end p.role l.end p.other p.up p.down

-- a line of a switch is kept, as the switch has it
pub kept_in_sight : (x : Switched) (own line : ℕ) (lines : Lines) (books : List Book) (l : SwitchLine) → slice_get x.switch.lines own ≡ Some l → IsInSight x own line lines books → KeptWith (x.histories.partners own) (x.histories.books own) l.end
    → Kept (lines line).setting (sight (role_at x own) (x.histories.books own)) (lines line).line
kept_in_sight x own line lines books l e i k = subst (λ (s : Standing). Kept s.setting (sight (role_at x own) (x.histories.books own)) s.line) (i.line_is l e) k

-- ---- the book of a line as it is seen then

pub sight_of : (at : List ℕ) (lines : Lines) (books : List Book) (x : Switched) (own : ℕ) (b : Book) → own < length at → slice_get books (network_line at own) ≡ Some b → (seen_then at lines books x).histories.books own ≡ sight (role_at x own) b
sight_of at lines books x own b less e =
    let line = get_there at own less in
    let there : slice_get books line.0 ≡ Some b = ap (λ (o : Option ℕ). slice_get books (found_line o)) (sym line.1) ∙ e in
    ap (λ (o : Option ℕ). seen_book (option_and_then (λ k. slice_get books k) o) (role_at x own) (x.histories.books own)) line.1
    ∙ ap (λ (o : Option Book). seen_book o (role_at x own) (x.histories.books own)) there

none_there : (at : List ℕ) (n : ℕ) → (n < length at → ⊥) → slice_get at n ≡ None
none_there at n no_ = by_line (slice_get at n) refl
  where
    by_line : (o : Option ℕ) → slice_get at n ≡ o → slice_get at n ≡ None
    by_line None e = e
    by_line (Some line) e = absurd (no_ (slice_get_within at n line e))

-- ---- nothing happened at its own end

pub record LineStays (x : Switched) (own line : ℕ) (old lines : Lines) (books : List Book) : Type 0 where
  pub book : Book
  pub there : slice_get books line ≡ Some book
  pub written : IsWritten Dte (x.histories.books own) (sight (role_at x own) book)
  pub kept : Kept (lines line).setting book (lines line).line
  pub end : end_at (role_at x own) (lines line).line ≡ end_at (role_at x own) (old line).line

module _ (at : List ℕ) (x : Switched) (cs : List JoinedCall) (old lines : Lines) (old_books books : List Book) (count : length at ≡ length x.switch.lines)
    (stays : (own : ℕ) → own < length at → LineStays x own (network_line at own) old lines books) (i : StaysInSight at x cs old old_books) where
  abbrev y : Switched
  y = seen_then at lines books x

  within : (n : ℕ) (l : SwitchLine) → slice_get x.switch.lines n ≡ Some l → n < length at
  within n l e = subst (λ (k : ℕ). n < k) (sym count) (slice_get_within x.switch.lines n l e)

  -- its book of a line is that of the network
  back : (n : ℕ) (h : n < length at) → sight (role_at x n) (y.histories.books n) ≡ (stays n h).book
  back n h = ap (λ (b : Book). sight (role_at x n) b) (sight_of at lines books x n (stays n h).book h (stays n h).there) ∙ sight_back (role_at x n) (stays n h).book

  its_line : (n : ℕ) (l : SwitchLine) → slice_get x.switch.lines n ≡ Some l → standing_with (y.histories.partners n) l.end ≡ lines (network_line at n)
  its_line n l e =
      let h : n < length at = within n l e in
      partner_line (role_at x n) (lines (network_line at n)) l.end ((stays n h).end ∙ end_in_sight x n (network_line at n) old old_books l e (i.sight n h))

  written : (n : ℕ) → IsWritten Dte (x.histories.books n) (y.histories.books n)
  written n = elim (less_or_not n (length at)) [
    | inl h ↦ subst (λ (b : Book). IsWritten Dte (x.histories.books n) b) (sym (sight_of at lines books x n (stays n h).book h (stays n h).there)) (stays n h).written
    | inr no_ ↦ record { writes = []; is = ap (λ (o : Option ℕ). seen_book (option_and_then (λ k. slice_get books k) o) (role_at x n) (x.histories.books n)) (none_there at n no_) }
  ]

  outside : HappenedOutside x.switch x.histories y.histories
  outside = record {
    legs = refl;
    written = written;
    kept = λ n l e.
        let h : n < length at = within n l e in
        subst (λ (b : Book). Kept (lines (network_line at n)).setting b (line_with (y.histories.partners n) l.end)) (sym (back n h))
        (subst (λ (k : Line). Kept (lines (network_line at n)).setting (stays n h).book k) (sym (ap (λ (s : Standing). s.line) (its_line n l e))) (stays n h).kept);
  }

  pub elsewhere : StaysInSight at y cs lines books
  elsewhere =
      let o = happened_outside x.switch x.histories y.histories cs outside i.tied i.calls in
      record {
        tied = o.0;
        calls = o.1;
        sight = λ n h. record {
          book = (stays n h).there ∙ ap (λ (b : Book). Some b) (sym (back n h));
          line_is = λ l e. its_line n l e;
        };
      }
