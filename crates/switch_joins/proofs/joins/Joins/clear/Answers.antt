-- One place more.
use Rattle.std.proofs.Common.{◌≡◌, ◌≤◌, ◌++◌, [], List, Option, None, Some, length, map, take, drop, set, sym, ap, ap₂, ◌∙◌, subst, arith}
use Rattle.std.specs.Prelude.{slice_get}
use Rattle.std.proofs.lemmas.List.{map-set, append-nil, take_all}
use Rattle.std.proofs.Math.ListN.{drop_of_length-le}
use Rattle.std.proofs.lemmas.List.Edits.{map_over_more}
use Rattle.flow_window.specs.Pool.{Buffer, Holds, Balances}
use Rattle.flow_window.proofs.Weights.{balances_then, balances_same, holds_after}
use Rattle.switch_joins.specs.Joins.{Joined}
use Rattle.switch_joins.specs.Held.{HeldJoin, HeldJoins, plain, buffers, buffers_of, joined_in}
use Rattle.switch_joins.proofs.Held.{plain_length, plain_at, at_place, holds_at, balances_at, none_held, all_places}
use Rattle.switch_joins.proofs.joins.Joins.clear.Goals as goal

pub loop-place-init : goal.loop-place-init
loop-place-init c =
    let items = c.deref_mut-place-items.result.now in
    let is = ap (λ (os : List (Option HeldJoin)). record { joined = plain os; held = buffers os }) c.deref_mut-place-items.ensures.value ∙ c.self.view_is in
    record {
      joined = ap (λ (x : HeldJoins). x.joined) is;
      pool = subst (λ (bs : List Buffer). Balances c.args.pool.now bs c.args.pool.now (buffers items)) (ap (λ (x : HeldJoins). x.held) is) (balances_same c.args.pool.now (buffers items));
    }

now_at : (c : goal.After-set-arg-1) → slice_get c.loop-place.place-items c.loop-place.place-index ≡ Some c.place-item.result
now_at c = at_place c.loop-place.place-items c.loop-place.place-index c.place-item.result (omega (arith, c.loop-place.auto.place-items, c.loop-place-test.true)) c.place-item.is

pub set-requires : goal.set-requires
set-requires c =
    subst (λ (o : Option HeldJoin). Holds c.loop-place.pool (buffers_of o)) c.place-item.is
    (holds_at c.loop-place.pool c.loop-place.place-items c.loop-place.place-index c.place-item.result
    (holds_after c.args.pool.now c.loop-place.pool c.args.self.now.held (buffers c.loop-place.place-items) c.requires c.loop-place.invariant.pool)
    (now_at c))

pub loop-place-preserved : goal.loop-place-preserved
loop-place-preserved c =
    let items = c.loop-place.place-items in
    let i = c.loop-place.place-index in
    let old = c.place-item.result in
    let new = c.set.new.self in
    let js = c.args.self.now.joined in
    let now = at_place items i old (omega (arith, c.loop-place.auto.place-items, c.loop-place-test.true)) c.place-item.is in
    let long = ap (λ (x : HeldJoins). length x.joined) c.self.view_is in
    let all = plain_length c.self.inside.places.items in
    let len = ap (λ (os : List (Option HeldJoin)). length os) c.deref_mut-place-items.ensures.value in
    record {
      joined =
          map-set joined_in items i new
          ∙ ap (λ (o : Option Joined). set (plain items) i o) c.set.ensures.joined
          ∙ map_over_more (λ (o : Option Joined). None) js (plain items) i (joined_in old) (omega (arith, long, all, len, c.loop-place-test.true)) c.loop-place.invariant.joined
          (plain_at items i old now);
      pool =
          balances_then c.args.pool.now c.loop-place.pool c.set.new.pool c.args.self.now.held (buffers items) (buffers (set items i new)) c.loop-place.invariant.pool
          (balances_at c.loop-place.pool c.set.new.pool items i old new now
          (subst (λ (bs : List Buffer). Balances c.loop-place.pool (buffers_of old) c.set.new.pool bs) (sym c.set.ensures.held)
          (subst (λ (o : Option HeldJoin). Balances c.loop-place.pool (buffers_of o) c.set.new.pool []) (sym c.place-item.is) c.set.ensures.pool)));
    }

-- at the end
gone_through : (c : goal.After-self-1) → take c.self.inside.places.len (c.loop-place.place-items ++ drop (length c.loop-place.place-items) c.self.inside.places.items) ≡ c.loop-place.place-items
gone_through c =
    let same = ap (λ (os : List (Option HeldJoin)). length os) c.deref_mut-place-items.ensures.value in
    all_places c.self.inside.places.len c.loop-place.place-items c.self.inside.places.items (c.loop-place.auto.place-items ∙ same)
    (sym c.deref_mut-place-items.ensures.len ∙ same)

none_joined : (c : goal.After-self-1) → plain c.loop-place.place-items ≡ map (λ o. None) c.args.self.now.joined
none_joined c =
    let js = c.args.self.now.joined in
    let i = c.loop-place.place-index in
    let long = ap (λ (x : HeldJoins). length x.joined) c.self.view_is in
    let all = plain_length c.self.inside.places.items in
    let len = ap (λ (os : List (Option HeldJoin)). length os) c.deref_mut-place-items.ensures.value in
    let past : length js ≤ i = omega (arith, long, all, len, c.loop-place-test.false) in
    c.loop-place.invariant.joined
    ∙ ap₂ (λ (xs ys : List (Option Joined)). map (λ o. None) xs ++ ys) (take_all i js past) (drop_of_length-le js {i = i} past)
    ∙ append-nil (map (λ o. None) js)

pub returns-clause-joined : goal.returns-clause-joined
returns-clause-joined c = ap plain (gone_through c) ∙ none_joined c

pub returns-clause-held : goal.returns-clause-held
returns-clause-held c = ap buffers (gone_through c) ∙ none_held c.loop-place.place-items c.args.self.now.joined (none_joined c)

pub returns-clause-pool : goal.returns-clause-pool
returns-clause-pool c =
    subst (λ (bs : List Buffer). Balances c.args.pool.now c.args.self.now.held c.loop-place.pool bs)
    (none_held c.loop-place.place-items c.args.self.now.joined (none_joined c)) c.loop-place.invariant.pool
