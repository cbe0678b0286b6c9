use Rattle.std.proofs.Common.{◌≡◌, ◌<◌, ℕ, arith, ap, sym, refl, subst, ◌∙◌, Option, Some, None, List, length, option_map}
use Rattle.std.proofs.lemmas.Option.{none-some, same_Some}
use Rattle.std.specs.Option.{ForSome}
use Rattle.switch_joins.specs.declared.join.Joined.{Joined as NewJoin}
use Rattle.switch_joins.specs.Held.{begun}
use Rattle.switch_joins.proofs.ChannelSets.{IsApart, not_of_join}
use Rattle.switch_lines.specs.Lines.{SwitchChannel, Joined, SwitchLine, with_nth_joined}
use Rattle.switch_lines.specs.Pooled.{PooledLine, plain}
use Rattle.switch_lines.specs.Waiting.{other_at}
use Rattle.switch_lines.proofs.Pooled.{one_changed, seen_within, joins_of_one, pooled_set, serves_one}
use Rattle.switch_lines.proofs.Touched.{count_kept}
use Rattle.switch_lines.proofs.Moving.{one_joined}
use Rattle.switch_lines.proofs.lines.Lines.set_joined.Goals as goal

pub returns : goal.returns
returns c =
    let within = seen_within c.self.inside.lines.items c.args.self.now c.args.leg.line c.self.view_is c.requires.there in
    one_changed (λ l. record l { joined = with_nth_joined l.joined c.args.leg.channel (option_map begun c.args.joined) })
    c.self.inside.lines.items c.args.self.now c.args.leg.line
    c.index_mut.result.now c.set_joined.new.self c.self.view_is within c.index_mut.ensures.value
    c.set_joined.ensures.line

-- a join leads to one of the lines
leads_there : (o : Option NewJoin) (r : Option SwitchChannel) (n : ℕ) (q : SwitchChannel) → r ≡ option_map (λ (k : Joined). k.other) (option_map begun o)
    → ForSome o (λ (j : NewJoin). j.other.line < n) → r ≡ Some q → q.line < n
leads_there None r n q to there e = absurd (none-some q (sym to ∙ e))
leads_there (Some j) r n q to there e = let same = ap (λ (x : SwitchChannel). x.line) (same_Some j.other q (sym to ∙ e)) in omega (arith, same, there j refl)

pub invariant_of-self : goal.invariant_of-self
invariant_of-self c =
    let within = seen_within c.self.inside.lines.items c.args.self.now c.args.leg.line c.self.view_is c.requires.there in
    let xs = c.self.inside.lines.items in
    let n = c.args.leg.line in
    let new = c.set_joined.new.self in
    record {
      most = count_kept xs n 64 new c.self.invariant.most;
      rest = joins_of_one c.self.inside.touched c.self.inside.untaken xs n c.index_mut.result.now new within
          c.index_mut.ensures.value
          (ap (λ (l : SwitchLine). l.end) c.set_joined.ensures.line) c.self.invariant.rest;
      moves = one_joined c.self.inside.to_relay c.insert_join-2.new.self c.self.inside.refusing xs n c.args.leg.channel
          (option_map begun c.args.joined) c.joined_to.result c.index_mut.result.now new within
          (omega (arith, within, c.self.invariant.most)) c.index_mut.ensures.value
          c.set_joined.ensures.line c.set_joined.ensures.few c.joined_to.ensures
          (λ q e. seen_within xs c.args.self.now q.line c.self.view_is (leads_there c.args.joined c.joined_to.result (length c.args.self.now) q c.joined_to.ensures c.requires.other e))
          (λ p out.
          let second = not_of_join c.insert_join.new.self c.insert_join-2.new.self c.args.leg c.joined_to.result
          c.insert_join-2.ensures p out in
          let first = not_of_join c.self.inside.to_relay c.insert_join.new.self c.args.leg c.other_of.result
          c.insert_join.ensures p second.0 in (
            first.0,
            subst (λ (o : Option SwitchChannel). IsApart p c.args.leg o)
                (c.other_of.ensures ∙ ap (λ (ys : List PooledLine). other_at (plain ys) c.args.leg) c.deref.ensures.value) first.1,
            second.1,
          ))
          c.self.invariant.moves;
      pooled = pooled_set c.self.inside.pool c.set_joined.new.pool xs n c.index_mut.result.now new c.self.invariant.pooled within
          c.index_mut.ensures.value c.set_joined.ensures.pool c.set_joined.ensures.claim c.set_joined.ensures.within;
    }

pub set_joined-requires : goal.set_joined-requires
set_joined-requires c =
    let within = seen_within c.self.inside.lines.items c.args.self.now c.args.leg.line c.self.view_is c.requires.there in
    serves_one c.self.inside.pool c.self.inside.lines.items c.args.leg.line c.index_mut.result.now c.self.invariant.pooled within
    c.index_mut.ensures.value
