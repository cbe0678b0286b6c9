use Rattle.std.proofs.Common.{◌≡◌, false, ◌-◌, ◌+◌, ◌*◌, [], ap, ap₂, sym, refl, ◌∙◌, arith, length, List, ℕ}
use Rattle.std.specs.List.{list_any}
use Rattle.number_set.specs.declared.NumberSet.{NumberSet}
use Rattle.number_set.specs.NumberSet.{has}
use Rattle.switch_lines.specs.Lines.{SwitchLine}
use Rattle.switch_lines.specs.Switch.{may_offer, offering_from}
use Rattle.switch_lines.specs.Touched.{members}
use Rattle.switch_lines.specs.Alone.{relayed_alone}
use Rattle.switch_lines.proofs.Ending.{rounds_after, rounds_begin, one_round, last_round, none_offering}
use Rattle.switch_lines.proofs.Ending.{offers_none, some_offering}
use Rattle.switch_lines.proofs.Members.{no_members, some_members}
use Rattle.switch_lines.proofs.Pooled.{plain_length}
use Rattle.switch_lines.proofs.lines.Lines.offer_and_relay.Goals as goal

pub loop-init : goal.loop-init
loop-init c =
    let seen = ap (λ (ls : List SwitchLine). length ls) c.self.view_is in
    let long = plain_length c.self.inside.lines.items in
    let count : 7 * c.len-end.result ≡ 7 * length c.args.self.now = omega (arith, seen, long, c.len-end.ensures) in
    rounds_begin (7 * c.len-end.result) c.args.self.now c.args.self.now [] count refl

pub loop-preserved : goal.loop-preserved
loop-preserved c =
    let ls = c.loop.self in
    let offering = c.offer-offering.ensures.offering in
    let found = c.if-is_empty.ensures.some in
    let some = some_members c.offer-offering.result found.0 found.1 found.2 in
    let same = ap (λ (ns : List ℕ). length ns) offering in
    ap (λ (ms : List SwitchLine). rounds_after (7 * c.len-end.result - (c.loop.counter + 1)) ms)
    (c.relay_lines.ensures ∙ ap₂ (λ (ns : List ℕ) (ms : List SwitchLine). relayed_alone ns ms) offering
    c.offer-offering.ensures.lines)
    ∙ one_round (7 * c.len-end.result) c.loop.counter ls c.loop-test.true
    (some_offering 0 ls (omega (arith, some, same)))
    ∙ c.loop.invariant

-- no link takes a packet
none : (s : NumberSet) (ls : List SwitchLine) → members s ≡ offering_from 0 ls → ((n : ℕ) → has s n ≡ false) →
    list_any may_offer ls ≡ false
none s ls are out = none_offering 0 ls (ap (λ (ns : List ℕ). length ns) (sym are ∙ no_members s out))

pub returns-then-is_empty-clause-lines : goal.returns-then-is_empty-clause-lines
returns-then-is_empty-clause-lines c =
    c.offer-offering.ensures.lines
    ∙ last_round (7 * c.len-end.result - c.loop.counter) c.loop.self
    (none c.offer-offering.result c.loop.self c.offer-offering.ensures.offering c.if-is_empty.ensures.none)
    ∙ c.loop.invariant

pub returns-then-is_empty-clause-all : goal.returns-then-is_empty-clause-all
returns-then-is_empty-clause-all c =
    let still = none c.offer-offering.result c.loop.self c.offer-offering.ensures.offering c.if-is_empty.ensures.none in
    λ _. ap (λ (ls : List SwitchLine). list_any may_offer ls) (c.offer-offering.ensures.lines
    ∙ offers_none c.loop.self still) ∙ still

pub returns-clause-lines : goal.returns-clause-lines
returns-clause-lines c =
    let over : 7 * c.len-end.result - c.loop.counter ≡ 0 = omega (arith, c.loop-test.false) in
    ap (λ (n : ℕ). rounds_after n c.loop.self) (sym over) ∙ c.loop.invariant
