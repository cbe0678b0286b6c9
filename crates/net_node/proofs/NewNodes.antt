-- How the nodes of a plan and its register come to be made.
use Rattle.std.proofs.Common.{◌≡◌, ◌≢◌, ℕ, ◌<◌, ◌≤◌, zero, suc, ◌++◌, Bool, true, false, List, [], ◌∷◌, map, drop, length, Some, refl, sym, ap, ◌∙◌, subst, arith, inl, inr}
use Rattle.std.specs.Prelude.{◌⊎◌, slice_get, if◌then◌else◌, nat_lt}
use Rattle.std.proofs.lemmas.Option.{same_Some, none-some}
use Rattle.std.proofs.lemmas.Bool.{cases_eq, lt-ltb, ltb-true}
use Rattle.packet_end.specs.declared.params.EndParams.{EndParams}
use Rattle.record_laws.proofs.Books.Basics.{length_pushed, get_before, get_last}
use Rattle.call_records.specs.Register.{Register, with_line, with_lines, with_free_line, with_standing_call}
use Rattle.net_config.specs.Plan.{StandsAlone}
use Rattle.net_events.specs.Network.{NetNode, User}
use Rattle.net_config.specs.NetPlan.{NewNode, Planned, PlannedUser, PlannedSwitch, NewLine, NetPlan}
use Rattle.net_events.specs.Opening.{placed_new, line_plan}
use Rattle.net_node.specs.Making.{waiting, begun_to, IsNewNode, AreNew, AreFree, stands}
use Rattle.net_events.proofs.Lists.{within}

pub not_before : (a b : ℕ) → b ≤ a → nat_lt a b ≡ false
not_before a b h = by (nat_lt a b) refl
  where
    by : (v : Bool) → nat_lt a b ≡ v → nat_lt a b ≡ false
    by false e = e
    by true e = absurd (let k = ltb-true a b e in omega (arith, h, k))

pub waits : (lines : ℕ) (n : NewNode) (params : EndParams) → lines ≤ n.line → begun_to lines n params ≡ waiting n params
waits lines n params h = λ i. if not_before n.line lines h i then placed_new n params else waiting n params

pub has_begun : (lines : ℕ) (n : NewNode) (params : EndParams) → n.line < lines → begun_to lines n params ≡ placed_new n params
has_begun lines n params h = λ i. if lt-ltb n.line lines h i then placed_new n params else waiting n params

pub are_free : (plan : NetPlan) → StandsAlone plan → stands plan.lines ≡ false → AreFree plan.lines
are_free plan alone none = λ line l there. by l l.params.standing refl line there
  where
    first : (lines : List NewLine) (l : NewLine) (line : ℕ) → length lines ≡ 1 → slice_get lines line ≡ Some l → stands lines ≡ l.params.standing
    first [] l line one there = absurd (none-some l there)
    first (x ∷ lines) l zero one there = ap (λ (y : NewLine). y.params.standing) (same_Some x l there)
    first (x ∷ []) l (suc line) one there = absurd (none-some l there)
    first (x ∷ y ∷ lines) l (suc line) one there = absurd (omega (arith, one))

    by : (l : NewLine) (v : Bool) → l.params.standing ≡ v → (line : ℕ) → slice_get plan.lines line ≡ Some l → l.params.standing ≡ false
    by l false e line there = e
    by l true e line there = sym (first plan.lines l line (alone line l there e) there) ∙ none

pub one_stands : (plan : NetPlan) → StandsAlone plan → stands plan.lines ≡ true → (l : NewLine) → slice_get plan.lines 0 ≡ Some l
    → (plan.lines ≡ l ∷ []) × (l.params.standing ≡ true)
one_stands plan alone some l there = by plan.lines there some (λ e. alone 0 l there e)
  where
    by : (lines : List NewLine) → slice_get lines 0 ≡ Some l → stands lines ≡ true → (l.params.standing ≡ true → length lines ≡ 1) → (lines ≡ l ∷ []) × (l.params.standing ≡ true)
    by [] there some one = absurd (none-some l there)
    by (x ∷ []) there some one = let same = same_Some x l there in (ap (λ y. y ∷ []) same, ap (λ (y : NewLine). y.params.standing) (sym same) ∙ some)
    by (x ∷ y ∷ lines) there some one = let same = same_Some x l there in absurd (let h = one (ap (λ (y : NewLine). y.params.standing) (sym same) ∙ some) in omega (arith, h))

pub free_line : (l : NewLine) (g : Register) → l.params.standing ≡ false → with_line (line_plan l) g ≡ with_free_line (line_plan l) g
free_line l g h = λ i. if h i then with_standing_call (length g.lines) (with_free_line (line_plan l) g) else with_free_line (line_plan l) g

-- a node of a place is as it is made
pub record NewAt (plan : NetPlan) (nodes : List NetNode) (place : ℕ) (n : Planned) : Type 0 where
  pub node : NetNode
  pub at : slice_get nodes place ≡ Some node
  pub is_new : IsNewNode plan place n node

-- the nodes of the first places
pub record MadeTo (places : ℕ) (plan : NetPlan) (nodes : List NetNode) : Type 0 where
  pub count : length nodes ≡ places
  pub there : (place : ℕ) (n : Planned) → place < places → slice_get plan.nodes place ≡ Some n → NewAt plan nodes place n

pub none_made : (places : ℕ) (plan : NetPlan) (nodes : List NetNode) → places ≡ 0 → nodes ≡ [] → MadeTo places plan nodes
none_made places plan nodes none empty = record {
  count = ap length empty ∙ sym none;
  there = λ place n h node_there. absurd (let e = none in omega (arith, h, e));
}

pub made_more : (places : ℕ) (plan : NetPlan) (nodes : List NetNode) (n : Planned) (node : NetNode) → MadeTo places plan nodes → slice_get plan.nodes places ≡ Some n
    → IsNewNode plan places n node → MadeTo (suc places) plan (nodes ++ node ∷ [])
made_more places plan nodes n node old node_there is_new = record {
  count = length_pushed nodes node ∙ ap suc old.count;
  there = λ place m h at. by place m h at (cases_eq place places);
}
  where
    by : (place : ℕ) (m : Planned) → place < suc places → slice_get plan.nodes place ≡ Some m
        → (place ≡ places) ⊎ (place ≢ places) → NewAt plan (nodes ++ node ∷ []) place m
    by place m h at (inl e) = record {
      node = node;
      at = ap (λ i. slice_get (nodes ++ node ∷ []) i) (e ∙ sym old.count) ∙ get_last nodes node;
      is_new = subst (λ (i : ℕ). IsNewNode plan i m node) (sym e) (subst (λ (x : Planned). IsNewNode plan places x node) (same_Some n m (sym node_there ∙ ap (λ i. slice_get plan.nodes i) (sym e) ∙ at)) is_new);
    }
    by place m h at (inr apart) =
        let k = old.there place m (omega (arith, h, apart)) at in
        record { node = k.node; at = get_before nodes (node ∷ []) place k.node k.at; is_new = k.is_new }

pub all_made : (places : ℕ) (plan : NetPlan) (nodes : List NetNode) → MadeTo places plan nodes → places ≡ length plan.nodes → AreNew 0 plan nodes
all_made places plan nodes made all = record {
  count = made.count ∙ all;
  there = λ place n l at line_at.
      let k = made.there place (PlannedUser n) (let h = within plan.nodes place (PlannedUser n) at in let e = all in omega (arith, h, e)) at in
      k.at ∙ ap (λ x. Some x) (k.is_new l line_at) ∙ ap (λ x. Some (User x)) (sym (waits 0 n l.params (omega arith)));
  switches = λ place n at.
      let k = made.there place (PlannedSwitch n) (let h = within plan.nodes place (PlannedSwitch n) at in let e = all in omega (arith, h, e)) at in
      k.at ∙ ap (λ x. Some x) k.is_new;
}

pub none_left : (lines : List NewLine) (at : ℕ) (g : Register) → length lines ≤ at → g ≡ with_lines (map line_plan (drop at lines)) g
none_left lines at g h = ap (λ xs. with_lines (map line_plan xs) g) (sym (drop_all lines at h))
  where
    drop_all : (xs : List NewLine) (n : ℕ) → length xs ≤ n → drop n xs ≡ []
    drop_all [] zero h = refl
    drop_all [] (suc n) h = refl
    drop_all (x ∷ xs) zero h = absurd (omega (arith, h))
    drop_all (x ∷ xs) (suc n) h = drop_all xs n (omega (arith, h))

pub some_line : (lines : List NewLine) → stands lines ≡ true → 0 < length lines
some_line [] e = absurd (cc)
some_line (l ∷ lines) e = omega arith
