use Rattle.std.proofs.Common.{◌≡◌, [], ap, ◌∙◌, sym, subst, length, Bool, true, false, List}
use Rattle.flow_window.specs.Pool.{Buffer, Balances}
use Rattle.flow_window.proofs.Weights.{balances_same}
use Rattle.line_end.specs.End.{End, untouched, relinked, started_unless, made}
use Rattle.line_end.proofs.Calls.{made_queue, none_held}
use Rattle.line_end.proofs.end.LineEnd.new.Goals as goal
use Rattle.line_end.proofs.end.LineEnd.new.Goals.{then-not-params, else-not-params}

pub returns-clause-end : goal.returns-clause-end
returns-clause-end c =
    let p = c.args.params in
    let is = c.in_ok-new.ensures.1 in
    let start : record { link = c.in_ok-new.field-0.link; t1 = c.new-2.result; frames = c.new-3.result.frames } ≡ untouched c.args.role p =
    λ i. record { link = (is i).link; t1 = c.new-2.ensures i; frames = (c.new-3.ensures i).frames } in (
      c.in_ok-new.ensures.0,
      elim c.if-not-params.branch [
        | then-not-params w ↦
            let down : p.standing ≡ false = w.if-not-params.true in
            let end : w.relink.new.self.end ≡ made c.args.role p =
            w.relink.ensures.end ∙ ap relinked start ∙ ap (λ (b : Bool). started_unless b (untouched c.args.role p)) (sym down) in
            let none : w.relink.new.self.held ≡ [] =
            none_held w.relink.new.self.held (w.relink.ensures.tight ∙ ap (λ (e : End). length e.link.queue) end
            ∙ made_queue c.args.role p) in
            w.end-is ∙ (λ i. record { end = end i; held = none i })
        | else-not-params w ↦
            let up : p.standing ≡ true = w.if-not-params.false in
            w.end-is
            ∙ (λ i. record {
              end = (start ∙ ap (λ (b : Bool). started_unless b (untouched c.args.role p)) (sym up)) i;
              held = (is i).held;
            })
      ],
    )

pub returns-clause-pool : goal.returns-clause-pool
returns-clause-pool c =
    let p = c.args.params in
    let is = c.in_ok-new.ensures.1 in
    let start : record { link = c.in_ok-new.field-0.link; t1 = c.new-2.result; frames = c.new-3.result.frames } ≡ untouched c.args.role p =
    λ i. record { link = (is i).link; t1 = c.new-2.ensures i; frames = (c.new-3.ensures i).frames } in
    elim c.if-not-params.branch [
      | then-not-params w ↦
          let down : p.standing ≡ false = w.if-not-params.true in
          let end : w.relink.new.self.end ≡ made c.args.role p =
          w.relink.ensures.end ∙ ap relinked start ∙ ap (λ (b : Bool). started_unless b (untouched c.args.role p)) (sym down) in
          let none : w.relink.new.self.held ≡ [] =
          none_held w.relink.new.self.held (w.relink.ensures.tight ∙ ap (λ (e : End). length e.link.queue) end
          ∙ made_queue c.args.role p) in
          rw w.pool-is (subst (λ (bs : List Buffer). Balances c.args.pool.now [] w.relink.new.pool bs) none
          (subst (λ (bs : List Buffer). Balances c.args.pool.now bs w.relink.new.pool w.relink.new.self.held) (λ i. (is i).held)
          w.relink.ensures.pool))
      | else-not-params w ↦ rw w.pool-is (balances_same c.args.pool.now [])
    ]
