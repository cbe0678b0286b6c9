-- The end of an event leaves settled ports as they are, and the others are those that something touched.
use Rattle.std.proofs.Common.{◌≡◌, ℕ, zero, suc, ◌<◌, ◌≤◌, Bool, true, false, not, ◌&&◌, ◌||◌, ◌==◌, List}
use Rattle.std.proofs.Common.{[], ◌∷◌, ◌++◌, map, take, drop, length, set, get_or, refl, sym, ap, ap₂, subst, ◌∙◌, true≢false, nat_lt}
use Rattle.std.proofs.Common.{arith, inl, inr}
use Rattle.std.specs.Prelude.{◌⊎◌, Option, Some, None, slice_get, is_some}
use Rattle.std.proofs.lemmas.Bool.{eq-eqb, ne_eqb, cases_eq}
use Rattle.std.proofs.lemmas.Option.{none-some, same_Some, slice_get_within}
use Rattle.std.proofs.lemmas.List.{length-map}
use Rattle.number_set.specs.declared.NumberSet.{NumberSet}
use Rattle.number_set.specs.NumberSet.{has, IsFirstOf}
use Rattle.pad_terminal.specs.Terminal.{TerminalState, idle_time, has_call}
use Rattle.pad_terminal.specs.Calls.{resumed}
use Rattle.pad_ports.specs.Ports.{PortState, settled, brought, ticked, elapsed, restarted}
use Rattle.pad_ports.specs.PadLine.{PadLine, condition}
use Rattle.pad_ports.specs.Settled.{IsSettled}
use Rattle.x25_pad.specs.Settling.{NothingElseToSettle}

-- ---- one port

runs_on : (time left : Option ℕ) → is_some left ≡ is_some time → brought time left ≡ left
runs_on None None same = refl
runs_on None (Some left) same = absurd (true≢false same)
runs_on (Some ticks) None same = absurd (true≢false (sym same))
runs_on (Some ticks) (Some left) same = refl

goes_on : (full : Bool) (t : TerminalState) → t.device_stopped ≡ false → resumed full t ≡ t
goes_on full t going = rw going refl

pub settles : (l : PadLine) (p : PortState) → IsSettled p → settled l p ≡ p
settles l p is =
    let same = goes_on (condition p.call l).queue_full p.terminal is.going in
    (λ i. record p { terminal = same i; idle_left = brought (idle_time (same i)) p.idle_left })
    ∙ ap (λ (left : Option ℕ). record p { idle_left = left }) (runs_on (idle_time p.terminal) p.idle_left is.timer)

brought_runs : (time left : Option ℕ) → is_some (brought time left) ≡ is_some time
brought_runs None left = refl
brought_runs (Some ticks) None = refl
brought_runs (Some ticks) (Some left) = refl

-- after it the timer runs as the terminal wants it
pub is_settled : (l : PadLine) (p : PortState) → (settled l p).terminal.device_stopped ≡ false → IsSettled (settled l p)
is_settled l p going = record { going = going; timer = brought_runs (idle_time (settled l p).terminal) p.idle_left }

-- a terminal that may not go on may not go on again
resumes_once : (full : Bool) (t : TerminalState) → resumed full (resumed full t) ≡ resumed full t
resumes_once full t = go (t.device_stopped && (not (has_call t.mode) || not full)) refl
  where
    go : (b : Bool) → (t.device_stopped && (not (has_call t.mode) || not full)) ≡ b → resumed full (resumed full t) ≡ resumed full t
    go true e = rw e refl
    go false e = rw (e, e) refl

brought_once : (time left : Option ℕ) → brought time (brought time left) ≡ brought time left
brought_once None left = refl
brought_once (Some ticks) None = refl
brought_once (Some ticks) (Some left) = refl

pub settles_once : (l : PadLine) (p : PortState) → settled l (settled l p) ≡ settled l p
settles_once l p =
    let full = (condition p.call l).queue_full in
    let same = resumes_once full p.terminal in
    let t = resumed full p.terminal in
    (λ i. record p { terminal = same i; idle_left = brought (idle_time (same i)) (brought (idle_time t) p.idle_left) })
    ∙ ap (λ (left : Option ℕ). record p { terminal = t; idle_left = left }) (brought_once (idle_time t) p.idle_left)

pub elapsed_settled : (ticks : ℕ) (p : PortState) → IsSettled p → IsSettled (elapsed ticks p)
elapsed_settled ticks p is = record { going = is.going; timer = runs ticks p.idle_left ∙ is.timer }
  where
    runs : (ticks : ℕ) (left : Option ℕ) → is_some (ticked ticks left) ≡ is_some left
    runs ticks None = refl
    runs ticks (Some left) = refl

pub restarted_settled : (p : PortState) → IsSettled (restarted p)
restarted_settled p = record { going = refl; timer = refl }

-- ---- a port of many

written_here : (xs : List PortState) (n : ℕ) (new x : PortState) → slice_get (set xs n new) n ≡ Some x → new ≡ x
written_here [] n new x e = absurd (none-some x e)
written_here (y ∷ ys) zero new x e = same_Some new x e
written_here (y ∷ ys) (suc n) new x e = written_here ys n new x e

written_other : (xs : List PortState) (n m : ℕ) (new : PortState) → (m ≡ n → ⊥) → slice_get (set xs n new) m ≡ slice_get xs m
written_other [] n m new apart = refl
written_other (y ∷ ys) zero zero new apart = absurd (apart refl)
written_other (y ∷ ys) zero (suc m) new apart = refl
written_other (y ∷ ys) (suc n) zero new apart = refl
written_other (y ∷ ys) (suc n) (suc m) new apart = written_other ys n m new (λ e. apart (ap suc e))

pub count_written : (xs : List PortState) (n : ℕ) (x : PortState) → length (set xs n x) ≡ length xs
count_written [] n x = refl
count_written (y ∷ ys) zero x = refl
count_written (y ∷ ys) (suc n) x = ap suc (count_written ys n x)

in_one : (a b : Bool) → (a || b) ≡ true → b ≡ false → a ≡ true
in_one true b e f = refl
in_one false b e f = sym (true≢false' b e f)
  where
    true≢false' : (b : Bool) → b ≡ true → b ≡ false → true ≡ false
    true≢false' b e f = sym e ∙ f

out_left : (a b : Bool) → (a || b) ≡ false → a ≡ false
out_left true b e = e
out_left false b e = refl

out_right : (a b : Bool) → (a || b) ≡ false → b ≡ false
out_right true b e = absurd (true≢false e)
out_right false b e = e

-- a port that is in the set may change
pub one_touched : (s t : NumberSet) (number : ℕ) (ports : List PortState) (new : PortState) →
    ((n : ℕ) → has t n ≡ (has s n || n == number)) → number < length ports → NothingElseToSettle s ports →
    NothingElseToSettle t (set ports number new)
one_touched s t number ports new adds here rest = record {
  there = λ n inside. is_there n inside (cases_eq n number);
  settled = λ n p out found. is_settled n p out found (cases_eq n number);
}
  where
    is_there : (n : ℕ) → has t n ≡ true → (n ≡ number) ⊎ (n ≡ number → ⊥) → n < length (set ports number new)
    is_there n inside (inl e) = let count = count_written ports number new in omega (arith, e, here, count)
    is_there n inside (inr apart) =
        let before = rest.there n (in_one (has s n) (n == number) (sym (adds n) ∙ inside) (ne_eqb n number apart)) in
        let count = count_written ports number new in omega (arith, before, count)

    is_settled : (n : ℕ) (p : PortState) → has t n ≡ false → slice_get (set ports number new) n ≡ Some p →
        (n ≡ number) ⊎ (n ≡ number → ⊥) → IsSettled p
    is_settled n p out found (inl e) =
        absurd (true≢false (sym (eq-eqb n number e) ∙ out_right (has s n) (n == number) (sym (adds n) ∙ out)))
    is_settled n p out found (inr apart) =
        rest.settled n p (out_left (has s n) (n == number) (sym (adds n) ∙ out))
        (sym (written_other ports number n new apart) ∙ found)

-- what leaves each settled port settled may happen at all
pub all_changed : (s : NumberSet) (f : PortState → PortState) (ports : List PortState) →
    ((p : PortState) → IsSettled p → IsSettled (f p)) → NothingElseToSettle s ports → NothingElseToSettle s (map f ports)
all_changed s f ports keeps rest = record {
  there = λ n inside. let before = rest.there n inside in let count = length-map ports f in omega (arith, before, count);
  settled = λ n p out found. at n ports p found (λ q is. rest.settled n q out is);
}
  where
    at : (n : ℕ) (qs : List PortState) (p : PortState) → slice_get (map f qs) n ≡ Some p →
        ((q : PortState) → slice_get qs n ≡ Some q → IsSettled q) → IsSettled p
    at n [] p found is = absurd (none-some p found)
    at zero (q ∷ qs) p found is = subst IsSettled (same_Some (f q) p found) (keeps q (is q refl))
    at (suc n) (q ∷ qs) p found is = at n qs p found is

-- a loop that changed each port has changed all
pub all_done : (s : NumberSet) (f : PortState → PortState) (ports new : List PortState) (count : ℕ) →
    ((p : PortState) → IsSettled p → IsSettled (f p)) → length ports ≤ count → new ≡ map f (take count ports) ++ drop count ports →
    NothingElseToSettle s ports → NothingElseToSettle s new
all_done s f ports new count keeps all is rest =
    let whole : new ≡ map f ports = is ∙ every ports count all in
    subst (λ (qs : List PortState). NothingElseToSettle s qs) (sym whole) (all_changed s f ports keeps rest)
  where
    every : (qs : List PortState) (n : ℕ) → length qs ≤ n → map f (take n qs) ++ drop n qs ≡ map f qs
    every [] zero all = refl
    every [] (suc n) all = refl
    every (q ∷ qs) zero all = absurd (omega (arith, all))
    every (q ∷ qs) (suc n) all = ap (λ (rs : List PortState). f q ∷ rs) (every qs n (omega (arith, all)))

-- all ports are in the set
pub all_touched : (s : NumberSet) (count : ℕ) (ports : List PortState) → ((n : ℕ) → has s n ≡ nat_lt n count) →
    count ≡ length ports → NothingElseToSettle s ports
all_touched s count ports is all = record {
  there = λ n inside. let less : nat_lt n count ≡ true = sym (is n) ∙ inside in grind (arith, less, all);
  settled = λ n p out found.
      let past : nat_lt n count ≡ false = sym (is n) ∙ out in
      let within = slice_get_within ports n p found in
      absurd (beyond n (length ports) within (ap (λ k. nat_lt n k) (sym all) ∙ past));
}
  where
    beyond : (n k : ℕ) → n < k → nat_lt n k ≡ false → ⊥
    beyond n k less past = grind (arith, less, past)

pub same_rest : (s : NumberSet) (ports same : List PortState) → same ≡ ports → NothingElseToSettle s ports → NothingElseToSettle s same
same_rest s ports same is rest = subst (λ (qs : List PortState). NothingElseToSettle s qs) (sym is) rest

-- ---- the ports of the set, one after the other

and_right_false : (a : Bool) → (a && not true) ≡ false
and_right_false true = refl
and_right_false false = refl

and_left : (a b : Bool) → (a && b) ≡ true → a ≡ true
and_left true b e = refl
and_left false b e = e

and_out : (a b : Bool) → (a && b) ≡ false → b ≡ true → a ≡ false
and_out true true e f = e
and_out true false e f = absurd (true≢false (sym f))
and_out false b e f = refl

-- which ports are left is there still, settled now, or settled for good
pub record IsOnTheWay (l : PadLine) (left waiting : NumberSet) (first ports : List PortState) : Type 0 where
  pub there : (n : ℕ) → has left n ≡ true → n < length ports
  pub waiting_there : (n : ℕ) → has waiting n ≡ true → n < length ports
  pub still : (n : ℕ) (p : PortState) → has left n ≡ false → slice_get ports n ≡ Some p → settled l p ≡ p
  pub done : (n : ℕ) (p : PortState) → has left n ≡ false → has waiting n ≡ false → slice_get ports n ≡ Some p → IsSettled p
  pub same : map (settled l) ports ≡ map (settled l) first

pub begins : (l : PadLine) (s none : NumberSet) (ports : List PortState) → ((n : ℕ) → has none n ≡ false) →
    NothingElseToSettle s ports → IsOnTheWay l s none ports ports
begins l s none ports empty rest = record {
  there = rest.there;
  waiting_there = λ n inside. absurd (true≢false (sym inside ∙ empty n));
  still = λ n p out found. settles l p (rest.settled n p out found);
  done = λ n p out not_waiting found. rest.settled n p out found;
  same = refl;
}

map_written : (l : PadLine) (ports : List PortState) (n : ℕ) (old : PortState) → n < length ports → old ≡ get_or ports n old →
    map (settled l) (set ports n (settled l old)) ≡ map (settled l) ports
map_written l [] n old within is = refl
map_written l (y ∷ ys) zero old within is =
    ap (λ (q : PortState). q ∷ map (settled l) ys) (ap (λ (q : PortState). settled l (settled l q)) is ∙ settles_once l y)
map_written l (y ∷ ys) (suc n) old within is =
    ap (λ (qs : List PortState). settled l y ∷ qs) (map_written l ys n old (omega (arith, within)) is)

-- one port is settled; it waits if its terminal may not go on yet
goes_further : (l : PadLine) (left rest waiting waiting_now : NumberSet) (first ports : List PortState) (number : ℕ) (old new : PortState) →
    IsFirstOf left number rest → IsOnTheWay l left waiting first ports → old ≡ get_or ports number old → new ≡ settled l old →
    ((n : ℕ) → has waiting_now n ≡ true → (n ≡ number) ⊎ (has waiting n ≡ true)) →
    ((n : ℕ) → has waiting_now n ≡ false → has waiting n ≡ false) →
    (has waiting_now number ≡ false → IsSettled new) →
    IsOnTheWay l rest waiting_now first (set ports number new)
goes_further l left rest waiting waiting_now first ports number old new is_first way is done adds keeps settled_here =
    let within = way.there number is_first.there in
    let count = count_written ports number new in
    record {
      there = λ n inside. let before = way.there n (and_left (has left n) (not (n == number)) (sym (is_first.others n) ∙ inside)) in
          omega (arith, before, count);
      waiting_there = λ n inside. waits n (adds n inside);
      still = λ n p out found. is_still n p out found (cases_eq n number);
      done = λ n p out not_waiting found. is_done n p out not_waiting found (cases_eq n number);
      same = ap (λ (q : PortState). map (settled l) (set ports number q)) done ∙ map_written l ports number old within is ∙ way.same;
    }
  where
    other : (n : ℕ) → (n ≡ number → ⊥) → has rest n ≡ false → has left n ≡ false
    other n apart out =
        and_out (has left n) (not (n == number)) (sym (is_first.others n) ∙ out) (ap not (ne_eqb n number apart))

    waits : (n : ℕ) → (n ≡ number) ⊎ (has waiting n ≡ true) → n < length (set ports number new)
    waits n (inl e) =
        let within = way.there number is_first.there in let count = count_written ports number new in omega (arith, e, within, count)
    waits n (inr before) =
        let within = way.waiting_there n before in let count = count_written ports number new in omega (arith, within, count)

    here : (n : ℕ) (p : PortState) → n ≡ number → slice_get (set ports number new) n ≡ Some p → new ≡ p
    here n p e found = written_here ports number new p (ap (λ k. slice_get (set ports number new) k) (sym e) ∙ found)

    is_still : (n : ℕ) (p : PortState) → has rest n ≡ false → slice_get (set ports number new) n ≡ Some p →
        (n ≡ number) ⊎ (n ≡ number → ⊥) → settled l p ≡ p
    is_still n p out found (inl e) =
        let new_is = here n p e found in
        ap (settled l) (sym new_is ∙ done) ∙ settles_once l old ∙ sym done ∙ new_is
    is_still n p out found (inr apart) =
        way.still n p (other n apart out) (sym (written_other ports number n new apart) ∙ found)

    is_done : (n : ℕ) (p : PortState) → has rest n ≡ false → has waiting_now n ≡ false → slice_get (set ports number new) n ≡ Some p →
        (n ≡ number) ⊎ (n ≡ number → ⊥) → IsSettled p
    is_done n p out not_waiting found (inl e) =
        subst IsSettled (here n p e found) (settled_here (ap (λ k. has waiting_now k) (sym e) ∙ not_waiting))
    is_done n p out not_waiting found (inr apart) =
        way.done n p (other n apart out) (keeps n not_waiting) (sym (written_other ports number n new apart) ∙ found)

pub one_waits : (l : PadLine) (left rest waiting waiting_now : NumberSet) (first ports : List PortState) (number : ℕ) (old new : PortState) →
    IsFirstOf left number rest → IsOnTheWay l left waiting first ports → old ≡ get_or ports number old → new ≡ settled l old →
    ((n : ℕ) → has waiting_now n ≡ (has waiting n || n == number)) → IsOnTheWay l rest waiting_now first (set ports number new)
one_waits l left rest waiting waiting_now first ports number old new is_first way is done adds =
    goes_further l left rest waiting waiting_now first ports number old new is_first way is done
    (λ n inside. either n inside (cases_eq n number)) (λ n out. out_left (has waiting n) (n == number) (sym (adds n) ∙ out))
    (λ out. absurd (true≢false (sym (eq-eqb number number refl) ∙ out_right (has waiting number) (number == number) (sym (adds number) ∙ out))))
  where
    either : (n : ℕ) → has waiting_now n ≡ true → (n ≡ number) ⊎ (n ≡ number → ⊥) → (n ≡ number) ⊎ (has waiting n ≡ true)
    either n inside (inl e) = inl e
    either n inside (inr apart) = inr (in_one (has waiting n) (n == number) (sym (adds n) ∙ inside) (ne_eqb n number apart))

pub one_done : (l : PadLine) (left rest waiting : NumberSet) (first ports : List PortState) (number : ℕ) (old new : PortState) →
    IsFirstOf left number rest → IsOnTheWay l left waiting first ports → old ≡ get_or ports number old → new ≡ settled l old →
    IsSettled new → IsOnTheWay l rest waiting first (set ports number new)
one_done l left rest waiting first ports number old new is_first way is done settled_now =
    goes_further l left rest waiting waiting first ports number old new is_first way is done (λ n inside. inr inside) (λ n out. out)
    (λ out. settled_now)

all_still : (l : PadLine) (ports : List PortState) → ((n : ℕ) (p : PortState) → slice_get ports n ≡ Some p → settled l p ≡ p) →
    map (settled l) ports ≡ ports
all_still l [] still = refl
all_still l (y ∷ ys) still = ap₂ (λ (q : PortState) (qs : List PortState). q ∷ qs) (still 0 y refl) (all_still l ys (λ n p found. still (suc n) p found))

-- with none left all are settled as they were at first, and those that do not wait for good
pub ends : (l : PadLine) (left waiting : NumberSet) (first ports : List PortState) → ((n : ℕ) → has left n ≡ false) →
    IsOnTheWay l left waiting first ports → (ports ≡ map (settled l) first) × NothingElseToSettle waiting ports
ends l left waiting first ports none way = (
  sym (all_still l ports (λ n p found. way.still n p (none n) found)) ∙ way.same,
  record { there = way.waiting_there; settled = λ n p out found. way.done n p (none n) out found },
)
