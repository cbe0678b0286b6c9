use Rattle.std.proofs.Common.{sym, subst}
use Rattle.std.specs.Option.{option_map}
use Rattle.flow_window.specs.Pool.{Balances}
use Rattle.switch_joins.specs.Held.{begun, buffers_of}
use Rattle.switch_joins.proofs.Held.{own_place, own_holds, own_set, own_balance, own_few, own_few_same}
use Rattle.switch_joins.proofs.joins.Joins.set.Goals as goal

pub set-requires : goal.set-requires
set-requires c =
    let os = c.self.inside.places.items in
    let x = c.args.self.now in
    let i = c.in-Some.place in
    let old = c.index_mut.result.now in
    own_holds os x c.args.pool.now i old c.self.view_is c.requires (own_place os x i old c.self.view_is c.in-Some.ensures.1 c.index_mut.ensures.value)

pub returns-in-Some-clause-joined : goal.returns-in-Some-clause-joined
returns-in-Some-clause-joined c =
    own_set c.self.inside.places.items c.args.self.now c.in-Some.place c.args.channel c.set.new.self (option_map begun c.args.joined)
    c.self.view_is c.in-Some.ensures.0 c.set.ensures.joined

pub returns-in-Some-clause-pool : goal.returns-in-Some-clause-pool
returns-in-Some-clause-pool c =
    let os = c.self.inside.places.items in
    let x = c.args.self.now in
    let i = c.in-Some.place in
    let old = c.index_mut.result.now in
    own_balance os x c.args.pool.now c.set.new.pool i old c.set.new.self c.self.view_is (own_place os x i old c.self.view_is c.in-Some.ensures.1 c.index_mut.ensures.value)
    (subst (λ bs. Balances c.args.pool.now (buffers_of old) c.set.new.pool bs) (sym c.set.ensures.held) c.set.ensures.pool)

pub returns-in-Some-clause-few : goal.returns-in-Some-clause-few
returns-in-Some-clause-few c = own_few c.self.inside.places.items c.args.self.now c.in-Some.place c.set.new.self c.self.view_is

pub returns-in_default-clause-few : goal.returns-in_default-clause-few
returns-in_default-clause-few c = own_few_same c.self.inside.places.items c.args.self.now c.self.view_is
