-- The frames of all own lines of a switch go out, those of one line after the other, and the laws of paths stay.
use Rattle.std.proofs.Common.{◌≡◌, ◌≢◌, ℕ, zero, suc, ◌+◌, ◌<◌, ◌≤◌, Bool, ◌==◌, List, [], ◌∷◌, length, Some, refl, sym, ap, subst, ◌∙◌, inl, inr, arith}
use Rattle.std.specs.Prelude.{slice_get}
use Rattle.std.proofs.lemmas.Option.{none-some}
use Rattle.std.proofs.lemmas.Bool.{ne_eqb}
use Rattle.record_laws.proofs.Books.Basics.{get_there, number_is, eq_true, by_true, by_false}
use Rattle.call_records.specs.Book.{Book}
use Rattle.switch_lines.specs.Lines.{SwitchLine, changed}
use Rattle.switch_lines.specs.Switch.{Switch}
use Rattle.switched_call_laws.specs.SwitchRecords.Kept.{Partner, all_frames_out, sent_on}
use Rattle.switched_call_laws.specs.SwitchRecords.Tied.{Histories, gone_out, sent_out}
use Rattle.switched_call_laws.specs.SwitchPaths.Sight.{Switched, Switches, OwnLines, Lines, all_seen, all_after}
use Rattle.switched_call_laws.specs.SwitchPaths.Network.{PlacedCall}
use Rattle.switched_call_laws.specs.SwitchPaths.SwitchPathLaws.{NetworkStays}
use Rattle.switched_call_laws.proofs.SwitchPaths.Begins.{network_holds}
use Rattle.record_laws.specs.CallPaths.World.{Origin, World, Plan}
use Rattle.switched_call_laws.specs.QuietSwitches.Quiet.{all_gone_out, drained}
use Rattle.switched_call_laws.proofs.QuietSwitches.Quieting.{gone-out}
use Rattle.network_laws.proofs.Switched.OwnLines.{if_here}
use Rattle.network_laws.proofs.Switched.SwitchMoving.{WithSwitch, others_see}

-- ---- one line

other_line : (ls : List SwitchLine) (n k : ℕ) → k ≢ n → slice_get (changed n all_frames_out ls) k ≡ slice_get ls k
other_line [] n k ne = refl
other_line (l ∷ ls) zero zero ne = absurd (ne refl)
other_line (l ∷ ls) zero (suc k) ne = refl
other_line (l ∷ ls) (suc n) zero ne = refl
other_line (l ∷ ls) (suc n) (suc k) ne = other_line ls n k (λ e. ne (ap suc e))

as_many : (ls : List SwitchLine) (n : ℕ) → length (changed n all_frames_out ls) ≡ length ls
as_many [] n = refl
as_many (l ∷ ls) zero = refl
as_many (l ∷ ls) (suc n) = ap suc (as_many ls n)

sent_here : (n : ℕ) (l : SwitchLine) (kept : List Bool) (h : Histories) → (sent_out n l kept h).partners n ≡ sent_on l kept (h.partners n)
sent_here n l kept h = by_true (n == n) (sent_on l kept (h.partners n)) (h.partners n) (eq_true n n refl)

sent_elsewhere : (n k : ℕ) (l : SwitchLine) (kept : List Bool) (h : Histories) → k ≢ n → (sent_out n l kept h).partners k ≡ h.partners k
sent_elsewhere n k l kept h ne = by_false (k == n) (sent_on l kept (h.partners k)) (h.partners k) (ne_eqb k n ne)

-- ---- all of them

module _ (plan : Plan) (ats : OwnLines) (xs : Switches) (place : ℕ) (cs : List PlacedCall) (old_lines : Lines) (books : List Book) (w : World) (traces : List (List Origin)) where
  abbrev With : Switch → Type 0
  With s = WithSwitch plan ats xs place s cs old_lines books w traces

  record Goes (n : ℕ) (l : SwitchLine) (kept : List Bool) (s : Switch) (a : With s) : Type 0 where
    then_is : With (gone_out n s)
    histories_are : then_is.histories ≡ sent_out n l kept a.histories

  one_goes : (n : ℕ) (l : SwitchLine) (kept : List Bool) (s : Switch) → slice_get s.lines n ≡ Some l → (a : With s) → Goes n l kept s a
  one_goes n l kept s got a =
      let y : Switched = record { switch = gone_out n s; histories = sent_out n l kept a.histories } in
      let b : NetworkStays plan ats a.switches place y cs a.lines books w traces =
      network_holds.out plan ats a.switches cs a.lines books w traces place (record { switch = s; histories = a.histories }) n l kept a.there got a.network in
      record {
        then_is = record {
          switches = all_after place y ats b.lines books a.switches;
          histories = y.histories;
          lines = b.lines;
          there = if_here place place y (all_seen ats b.lines books a.switches) refl;
          elsewhere = λ k m ne it. others_see ats a.switches place y b.lines books k m ne (a.elsewhere k m ne it);
          same_line = λ line other. b.same_line line other ∙ a.same_line line other;
          network = b.network;
        };
        histories_are = refl;
      }

  -- so many lines, from this one on: the other end of each of them is then as it has to be
  record Gone (count n : ℕ) (Q : ℕ → Partner → Type 0) (s : Switch) (h : Histories) : Type 0 where
    then_is : With (all_gone_out count n s)
    books_are : then_is.histories.books ≡ h.books
    before : (k : ℕ) → k < n → then_is.histories.partners k ≡ h.partners k
    fits : (k : ℕ) (l : SwitchLine) → n ≤ k → slice_get s.lines k ≡ Some l → Q k (then_is.histories.partners k)

  -- of each line some frames are kept with which its other end is so
  abbrev Picks : (from : ℕ) → (Q : ℕ → Partner → Type 0) → Switch → Histories → Type 0
  Picks n Q s h = (k : ℕ) (l : SwitchLine) → n ≤ k → slice_get s.lines k ≡ Some l → (kept : List Bool) × Q k (sent_on l kept (h.partners k))

  within_lines : (ls : List SwitchLine) (k : ℕ) (l : SwitchLine) → slice_get ls k ≡ Some l → k < length ls
  within_lines [] k l e = absurd (none-some l e)
  within_lines (x ∷ ls) zero l e = omega arith
  within_lines (x ∷ ls) (suc k) l e = let less = within_lines ls k l e in omega (arith, less)

  many : (c m : ℕ) (ls : List SwitchLine) → m + suc c ≡ length ls → suc m + c ≡ length (changed m all_frames_out ls)
  many c m ls e = let same = as_many ls m in omega (arith, e, same)

  later : (n : ℕ) (Q : ℕ → Partner → Type 0) (s : Switch) (h : Histories) (l : SwitchLine) (kept : List Bool) → Picks n Q s h → Picks (suc n) Q (gone_out n s) (sent_out n l kept h)
  later n Q s h l kept picks k x least there =
      let ne : k ≢ n = λ e. absurd (omega (arith, least, e)) in
      let pick = picks k x (omega (arith, least)) (sym (other_line s.lines n k ne) ∙ there) in
      (pick.0, subst (λ (p : Partner). Q k (sent_on x pick.0 p)) (sym (sent_elsewhere n k l kept h ne)) pick.1)

  all_go : (count n : ℕ) (Q : ℕ → Partner → Type 0) (s : Switch) (a : With s) → n + count ≡ length s.lines → Picks n Q s a.histories → Gone count n Q s a.histories
  all_go zero n Q s a total picks = record {
    then_is = a;
    books_are = refl;
    before = λ k less. refl;
    fits = λ k l least there. absurd (let within = within_lines s.lines k l there in omega (arith, total, least, within));
  }
  all_go (suc count) n Q s a total picks =
      let less : n < length s.lines = omega (arith, total) in
      let l = get_there s.lines n less in
      let here : n ≤ n = omega arith in
      let pick = picks n l.0 here l.1 in
      let h : Histories = a.histories in
      let after : Histories = sent_out n l.0 pick.0 h in
      let g = one_goes n l.0 pick.0 s l.1 a in
      let rest : Gone count (suc n) Q (gone_out n s) after =
      subst (λ (x : Histories). Gone count (suc n) Q (gone_out n s) x) g.histories_are
      (all_go count (suc n) Q (gone_out n s) g.then_is (many count n s.lines total)
      (subst (λ (x : Histories). Picks (suc n) Q (gone_out n s) x) (sym g.histories_are) (later n Q s h l.0 pick.0 picks))) in
      let own : rest.then_is.histories.partners n ≡ sent_on l.0 pick.0 (h.partners n) =
      rest.before n (let x : n < suc n = omega arith in x) ∙ sent_here n l.0 pick.0 h in
      record {
        then_is = rest.then_is;
        books_are = rest.books_are;
        before = λ k before. rest.before k (omega (arith, before)) ∙ sent_elsewhere n k l.0 pick.0 h (λ e. absurd (omega (arith, before, e)));
        fits = λ k m least there. elim (number_is k n) [
          | inl same ↦ subst (λ (x : ℕ). Q x (rest.then_is.histories.partners x)) (sym same) (subst (Q n) (sym own) pick.1)
          | inr ne ↦ rest.fits k m (let x : n ≤ k = least in let y : k ≢ n = ne in omega (arith, x, y)) (other_line s.lines n k ne ∙ there)
        ];
      }

  -- ---- whatever the lines

  pub record Sent (Q : ℕ → Partner → Type 0) (s : Switch) (h : Histories) : Type 0 where
    pub then_is : With (drained s)
    pub books_are : then_is.histories.books ≡ h.books
    pub fits : (k : ℕ) (l : SwitchLine) → slice_get s.lines k ≡ Some l → Q k (then_is.histories.partners k)

  pub all_sent : (Q : ℕ → Partner → Type 0) (s : Switch) (a : With s)
      → ((k : ℕ) (l : SwitchLine) → slice_get s.lines k ≡ Some l → (kept : List Bool) × Q k (sent_on l kept (a.histories.partners k)))
      → Sent Q s a.histories
  all_sent Q s a picks =
      let g = all_go (length s.lines) 0 Q s a (omega arith) (λ k l least there. picks k l there) in
      let P : Switch → Type 0 = λ x. (b : With x) × (b.histories.books ≡ a.histories.books) × ((k : ℕ) (l : SwitchLine) → slice_get s.lines k ≡ Some l → Q k (b.histories.partners k)) in
      let z : P (drained s) = subst P (gone-out s) (g.then_is, g.books_are, λ k l there. g.fits k l (omega arith) there) in
      record { then_is = z.0; books_are = z.1; fits = z.2 }
