use Rattle.switch_joins.specs.Direction.{carried}
use Rattle.switch_joins.proofs.Held.{own_place, own_holds, own_kept, own_balance, own_few, own_few_same}
use Rattle.switch_joins.proofs.joins.Joins.carry.Goals as goal

pub carry-requires-clause-holds : goal.carry-requires-clause-holds
carry-requires-clause-holds c =
    let os = c.self.inside.places.items in
    let x = c.args.self.now in
    let i = c.in-Some.place in
    let old = c.index_mut.result.now in
    own_holds os x c.args.pool.now i old c.self.view_is c.requires.holds (own_place os x i old c.self.view_is c.in-Some.ensures.1 c.index_mut.ensures.value)

pub returns-in-Some-clause-joined : goal.returns-in-Some-clause-joined
returns-in-Some-clause-joined c =
    let os = c.self.inside.places.items in
    let x = c.args.self.now in
    let i = c.in-Some.place in
    let old = c.index_mut.result.now in
    own_kept os x i c.args.channel old c.carry.new.self (carried c.args.delivery c.args.turned.now) c.self.view_is c.in-Some.ensures.0 (own_place os x i old c.self.view_is c.in-Some.ensures.1 c.index_mut.ensures.value) c.carry.ensures.joined

pub returns-in-Some-clause-pool : goal.returns-in-Some-clause-pool
returns-in-Some-clause-pool c =
    let os = c.self.inside.places.items in
    let x = c.args.self.now in
    let i = c.in-Some.place in
    let old = c.index_mut.result.now in
    own_balance os x c.args.pool.now c.carry.new.pool i old c.carry.new.self c.self.view_is (own_place os x i old c.self.view_is c.in-Some.ensures.1 c.index_mut.ensures.value)
    c.carry.ensures.pool

pub returns-in-Some-clause-few : goal.returns-in-Some-clause-few
returns-in-Some-clause-few c = own_few c.self.inside.places.items c.args.self.now c.in-Some.place c.carry.new.self c.self.view_is

pub returns-in_default-clause-few : goal.returns-in_default-clause-few
returns-in_default-clause-few c = own_few_same c.self.inside.places.items c.args.self.now c.self.view_is
