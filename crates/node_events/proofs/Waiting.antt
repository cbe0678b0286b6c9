-- Lines of a switch on which no frame waits are passed over.
use Rattle.std.proofs.Common.{◌≡◌, ◌≢◌, ℕ, ◌+◌, ◌*◌, ◌<◌, ◌≤◌, zero, suc, Bool, true, false, ◌&&◌, ◌==◌, List, [], ◌∷◌, ◌++◌, length, Some, refl, sym, ap, ◌∙◌, subst, arith, inl, inr, true≢false}
use Rattle.std.specs.Prelude.{◌⊎◌, ◌-◌, not, slice_get}
use Rattle.std.proofs.lemmas.List.{append-nil}
use Rattle.std.proofs.lemmas.Bool.{cases_eq, cases_lt, ne_eqb, eq-eqb}
use Rattle.number_set.specs.declared.NumberSet.{NumberSet}
use Rattle.number_set.specs.NumberSet.{has, IsFirstOf}
use Rattle.frame_lines.specs.Lines.{LineService, ArePut}
use Rattle.switch_lines.specs.Lines.{SwitchLine}
use Rattle.switch_lines.specs.Switch.{Switch, frames_on}
use Rattle.switch_lines.specs.Touched.{AreThere, HasAllFrames}
use Rattle.net_events.specs.AtSwitch.{waiting_on, line_drained}
use Rattle.net_events.specs.OneLine.{direction_of}
use Rattle.net_events.specs.Network.{NetLine, own_role}
use Rattle.net_events.specs.declared.answer.Put.{Put}
use Rattle.node_events.specs.Switching.{puts_on}
use Rattle.net_events.proofs.Lists.{at_index}
use Rattle.node_events.proofs.Switching.{set_there}
use Rattle.node_events.proofs.Switching.{AreApart, PutTo, put_none, put_one, drained_to, puts_to, puts_more, sent_to}

-- ---- a line without frames

same_line : (l : SwitchLine) → l.end.line.frames ≡ [] → line_drained l ≡ l
same_line l none = λ i. record l { end = record l.end { line = record l.end.line { frames = sym none i } } }

drained_none : (n : ℕ) (ls : List SwitchLine) → frames_on (slice_get ls n) ≡ [] → drained_to (suc n) ls ≡ drained_to n ls
drained_none zero [] none = refl
drained_none zero (l ∷ ls) none = ap (λ x. x ∷ ls) (same_line l none)
drained_none (suc n) [] none = refl
drained_none (suc n) (l ∷ ls) none = ap (λ ks. line_drained l ∷ ks) (drained_none n ls none)

puts_none : (n line : ℕ) (own : List ℕ) (ls : List SwitchLine) → slice_get own n ≡ Some line → n < length ls
    → frames_on (slice_get ls n) ≡ [] → puts_to (suc n) own ls ≡ puts_to n own ls
puts_none n line own ls at h none =
    puts_more n line own ls at h ∙ ap (λ fs. puts_to n own ls ++ puts_on line (sent_to (slice_get ls n)) fs) none ∙ append-nil (puts_to n own ls)

-- ---- the lines so far

-- the own lines before this one are drained, and their frames are put and listed; none of them is left in the set, and
-- no frame waits on one behind them that is not in it
pub record PutBefore (L : LineService) (own : List ℕ) (s t : Switch) (waiting : NumberSet) (puts : List Put) (count : ℕ) (before after : List NetLine) (at : ℕ) : Type 0 where
  pub most : at ≤ length own
  pub passed : (n : ℕ) → n < at → has waiting n ≡ false
  pub left : AreThere waiting s.lines
  pub others : (n : ℕ) → at ≤ n → has waiting n ≡ false → waiting_on n s ≡ []
  pub switch_is : t ≡ record s { lines = drained_to at s.lines }
  pub puts_are : puts ≡ puts_to at own s.lines
  pub places : count ≤ 9 * at
  pub lines_put : PutTo L false own s at before after

pub none_put : (L : LineService) (own : List ℕ) (s : Switch) (waiting : NumberSet) (puts : List Put) (count : ℕ) (lines : List NetLine)
    → AreThere waiting s.lines → HasAllFrames waiting s.lines → puts ≡ [] → count ≡ 0
    → PutBefore L own s s waiting puts count lines lines 0
none_put L own s waiting puts count lines there all none zero_count = record {
  most = omega arith;
  passed = λ n h. absurd (omega (arith, h));
  left = there;
  others = λ n h out. all n out;
  switch_is = refl;
  puts_are = none;
  places = omega (arith, zero_count);
  lines_put = put_none L false own s lines;
}

module _ (L : LineService) (own : List ℕ) (s t : Switch) (waiting : NumberSet) (puts : List Put) (count : ℕ) (before after : List NetLine)
    (counts : length own ≡ length s.lines) (apart : AreApart own) (there : (at line : ℕ) → slice_get own at ≡ Some line → line < length before) where
  -- one line is passed over
  pass_one : (a : ℕ) → PutBefore L own s t waiting puts count before after a → a < length own → has waiting a ≡ false
      → PutBefore L own s t waiting puts count before after (suc a)
  pass_one a w h out =
      let none = w.others a (omega arith) out in
      let k = at_index own a h in
      let less : k.0 < length after = (let within = there a k.0 k.1 in let same = w.lines_put.count in omega (arith, within, same)) in
      let m = at_index after k.0 less in
      let within : a < length s.lines = omega (arith, h, counts) in
      record {
        most = omega (arith, h);
        passed = λ n less_than. by n less_than (cases_eq n a);
        left = w.left;
        others = λ n behind not_in. w.others n (omega (arith, behind)) not_in;
        switch_is = w.switch_is ∙ (λ i. record s { lines = sym (drained_none a s.lines none) i });
        puts_are = w.puts_are ∙ sym (puts_none a k.0 own s.lines k.1 within none);
        places = (let few = w.places in omega (arith, few));
        lines_put = put_one L false own s a k.0 before after after m.0 m.0.flights m.0.flights apart w.lines_put k.1 m.1 (λ f. refl)
            (λ f. subst (λ fs. ArePut L (direction_of (own_role s a)) fs m.0.flights m.0.flights) (sym none) refl) (sym (set_there after k.0 m.0 m.1));
      }
    where
      by : (n : ℕ) → n < suc a → (n ≡ a) ⊎ (n ≢ a) → has waiting n ≡ false
      by n less_than (inl e) = ap (has waiting) e ∙ out
      by n less_than (inr other) = w.passed n (omega (arith, less_than, other))

  pass_on : (steps a k : ℕ) → steps + a ≡ k → PutBefore L own s t waiting puts count before after a → k ≤ length own
      → ((n : ℕ) → a ≤ n → n < k → has waiting n ≡ false) → PutBefore L own s t waiting puts count before after k
  pass_on zero a k e w most out =
      let same : a ≡ k = omega (arith, e) in
      subst (λ m. PutBefore L own s t waiting puts count before after m) same w
  pass_on (suc m) a k e w most out =
      let next : m + suc a ≡ k = omega (arith, e) in
      pass_on m (suc a) k next (pass_one a w (omega (arith, e, most)) (out a (omega arith) (omega (arith, e)))) most
      (λ n behind before_k. out n (omega (arith, behind)) before_k)

  -- up to the first line that is left in the set
  pub pass_to : (a k : ℕ) (rest : NumberSet) → PutBefore L own s t waiting puts count before after a → IsFirstOf waiting k rest
      → PutBefore L own s t waiting puts count before after k
  pass_to a k rest w first =
      let here = w.left k first.there in
      let most : k ≤ length own = omega (arith, here, counts) in
      let ordered : a ≤ k = ordered_so (cases_lt k a) in
      pass_on (k - a) a k (omega (arith, ordered)) w most (λ n behind before_k. first.first n before_k)
    where
      ordered_so : (k < a) ⊎ (a ≤ k) → a ≤ k
      ordered_so (inl less) = absurd (true≢false (sym first.there ∙ w.passed k less))
      ordered_so (inr more) = more

  -- over all that are left, where none is in the set
  pub pass_all : (a : ℕ) → PutBefore L own s t waiting puts count before after a → ((n : ℕ) → has waiting n ≡ false)
      → PutBefore L own s t waiting puts count before after (length own)
  pass_all a w out =
      pass_on (length own - a) a (length own) (let most = w.most in omega (arith, most)) w (omega arith)
      (λ n behind before_end. out n)

-- ---- and what waits on the line that is taken out of the set is put

-- what is left of a set without a line
kept_out : (waiting rest : NumberSet) (k : ℕ) → IsFirstOf waiting k rest → (n : ℕ) → n < suc k → has rest n ≡ false
kept_out waiting rest k first n h = by (cases_eq n k)
  where
    by : (n ≡ k) ⊎ (n ≢ k) → has rest n ≡ false
    by (inl e) = first.others n ∙ ap (λ b. has waiting n && not b) (eq-eqb n k e) ∙ and_false (has waiting n)
      where
        and_false : (b : Bool) → (b && false) ≡ false
        and_false true = refl
        and_false false = refl
    by (inr other) =
        first.others n ∙ ap (λ b. b && not (n == k)) (first.first n (omega (arith, h, other)))

still_in : (a b : Bool) → (a && b) ≡ true → a ≡ true
still_in true b e = refl
still_in false b e = e

pub left_there : (waiting rest : NumberSet) (k : ℕ) (ls : List SwitchLine) → IsFirstOf waiting k rest → AreThere waiting ls → AreThere rest ls
left_there waiting rest k ls first there n is =
    there n (still_in (has waiting n) (not (n == k)) (sym (first.others n) ∙ is))

out_before : (b : Bool) → (b && not false) ≡ false → b ≡ false
out_before true e = e
out_before false e = refl

not_in : (waiting rest : NumberSet) (k n : ℕ) → IsFirstOf waiting k rest → suc k ≤ n → has rest n ≡ false → has waiting n ≡ false
not_in waiting rest k n first h out =
    let other : n ≢ k = λ e. (let same = e in omega (arith, h, same)) in
    out_before (has waiting n) (ap (λ b. has waiting n && not b) (sym (ne_eqb n k other)) ∙ sym (first.others n) ∙ out)

pub put_at : (L : LineService) (own : List ℕ) (s t u : Switch) (waiting rest : NumberSet) (puts more : List Put) (count many : ℕ) (before mid after : List NetLine) (k : ℕ)
    → PutBefore L own s t waiting puts count before mid k → IsFirstOf waiting k rest → length own ≡ length s.lines
    → u ≡ record s { lines = drained_to (suc k) s.lines } → more ≡ puts_to (suc k) own s.lines → many ≤ count + 9
    → PutTo L false own s (suc k) before after → PutBefore L own s u rest more many before after (suc k)
put_at L own s t u waiting rest puts more count many before mid after k w first counts switch_is puts_are few lines_put = record {
  most = (let here = w.left k first.there in omega (arith, here, counts));
  passed = kept_out waiting rest k first;
  left = left_there waiting rest k s.lines first w.left;
  others = λ n h out. w.others n (omega (arith, h)) (not_in waiting rest k n first h out);
  switch_is = switch_is;
  puts_are = puts_are;
  places = (let so_far = w.places in omega (arith, so_far, few));
  lines_put = lines_put;
}
