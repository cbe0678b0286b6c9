use Rattle.std.proofs.Common.{◌≤◌, ◌&&◌, ◌∙◌, ap, map, length, subst, sym, arith}
use Rattle.std.specs.Prelude.{slice_get}
use Rattle.packet_end.specs.PacketEnd.{all_offered}
use Rattle.number_set.specs.NumberSet.{has}
use Rattle.switch_lines.specs.Pooled.{plain, ArePooled}
use Rattle.switch_lines.specs.Switch.{with_end, offering_from}
use Rattle.switch_lines.specs.Touched.{NothingElseIsLeft, changed_in, offers_on}
use Rattle.switch_lines.proofs.Ending.{written}
use Rattle.switch_lines.proofs.Left.{Lines, offering_all, offered_all, touched_change, touched_are_there, same_size}
use Rattle.switch_lines.proofs.Left.{written_back}
use Rattle.switch_lines.proofs.Members.{members_are}
use Rattle.switch_lines.proofs.Pooled.{Pooled, plain_length, same_lines}
use Rattle.switch_lines.specs.Waiting.{NothingElseMoves}
use Rattle.switch_lines.proofs.Waiting.{offered_kept}
use Rattle.switch_lines.proofs.lines.Lines.offer.Goals as goal

pub offer_lines-requires-clause-there : goal.offer_lines-requires-clause-there
offer_lines-requires-clause-there c =
    touched_are_there c.self.inside.touched c.self.inside.untaken (plain c.self.inside.lines.items)
    (plain c.deref_mut.result.now) (ap plain c.deref_mut.ensures.value) c.self.invariant.rest

pub offer_lines-requires-clause-pool : goal.offer_lines-requires-clause-pool
offer_lines-requires-clause-pool c =
    subst (λ (zs : Pooled). ArePooled c.self.inside.pool zs) (sym c.deref_mut.ensures.value) c.self.invariant.pooled

pub invariant_of-self : goal.invariant_of-self
invariant_of-self c =
    let xs = c.self.inside.lines.items in
    let ys = c.offer_lines.new.lines in
    let s = c.self.inside.touched in
    let u = c.self.inside.untaken in
    let i = c.self.invariant.rest in
    let is = c.offer_lines.ensures.lines ∙ ap (λ (zs : Pooled). changed_in s (with_end all_offered) 0 (plain zs))
    c.deref_mut.ensures.value in
    let same = same_lines xs ys (same_size s (with_end all_offered) (plain xs) (plain ys) is) in
    let after = touched_change s u u (with_end all_offered) (plain xs) (plain ys) is i.untaken_there (λ n out. out) i in
    record {
      most = written_back (λ (zs : Pooled). length zs ≤ 64) c.self.inside.lines.len xs ys same (omega arith)
          (omega (arith, same, c.self.invariant.most));
      rest = written_back (λ (zs : Pooled). NothingElseIsLeft s u (plain zs)) c.self.inside.lines.len xs ys same
          (omega arith) after;
      moves = written_back (λ (zs : Pooled). NothingElseMoves c.reopen.new.to_relay c.reopen.new.refusing (plain zs))
          c.self.inside.lines.len xs ys same (omega arith)
          (offered_kept c.reopen.new.to_relay c.reopen.new.refusing s (plain xs) (plain ys) is c.reopen.ensures.none
          (subst (λ (zs : Pooled). NothingElseMoves c.reopen.new.to_relay c.reopen.new.refusing (plain zs))
          c.deref.ensures.value c.reopen.ensures.moves));
      pooled = written_back (λ (zs : Pooled). ArePooled c.offer_lines.new.pool zs) c.self.inside.lines.len xs ys same
          (omega arith) c.offer_lines.ensures.pool;
    }

pub returns-clause-offering : goal.returns-clause-offering
returns-clause-offering c =
    let s = c.self.inside.touched in
    let xs = plain c.self.inside.lines.items in
    let long = plain_length c.self.inside.lines.items in
    members_are c.offer_lines.result xs (omega (arith, long, c.self.invariant.most)) (λ n.
    c.offer_lines.ensures.offering n
    ∙ (ap (λ (zs : Pooled). has s n && offers_on (slice_get (plain zs) n)) c.deref_mut.ensures.value
    ∙ offering_all s c.self.inside.untaken xs c.self.invariant.rest n))
    ∙ ap (λ (zs : Lines). offering_from 0 zs) c.self.view_is

pub returns-clause-lines : goal.returns-clause-lines
returns-clause-lines c =
    let xs = c.self.inside.lines.items in
    let ys = c.offer_lines.new.lines in
    let s = c.self.inside.touched in
    let is = c.offer_lines.ensures.lines ∙ ap (λ (zs : Pooled). changed_in s (with_end all_offered) 0 (plain zs))
    c.deref_mut.ensures.value in
    let same = same_lines xs ys (same_size s (with_end all_offered) (plain xs) (plain ys) is) in
    ap plain (written c.self.inside.lines.len xs ys same (omega arith))
    ∙ (is ∙ (offered_all s c.self.inside.untaken (plain xs) c.self.invariant.rest
    ∙ ap (λ (zs : Lines). map (with_end all_offered) zs) c.self.view_is))

pub reopen-requires : goal.reopen-requires
reopen-requires c =
    subst (λ (zs : Pooled). NothingElseMoves c.self.inside.to_relay c.self.inside.refusing (plain zs))
    (sym c.deref.ensures.value) c.self.invariant.moves
