use Rattle.std.proofs.Common.{rules, arith, sym, ap, subst, ◌∙◌, inl, inr, take, drop, ◌-◌, length-append, length, tests}
use Rattle.std.proofs.lemmas.Grind.{common_steps}
use Rattle.trace_capture.proofs.Octets.{Left, first_left, on_err, spelled_so}
use Rattle.trace_capture.proofs.frame.read_octets.Goals as goal
use Rattle.trace_capture.proofs.frame.read_octets.Goals.{in_default, in_default-2}

pub returns-in_err-read_octet-clause-fault : goal.returns-in_err-read_octet-clause-fault
returns-in_err-read_octet-clause-fault c = on_err c.from_residual.result _ (λ octets are spelled.
    let first = first_left c.loop-rest.rest.now (length c.loop-rest.frame) c.in-32.len_at_least (c.loop-rest.invariant.left octets are spelled) in
    c.in_err-read_octet.ensures.fault first.octet first.below (first.high_is, first.low_is))

pub loop-rest-preserved : goal.loop-rest-preserved
loop-rest-preserved c = record {
  read = grind (arith, common_steps);
  left = λ octets are spelled.
      let first = first_left c.loop-rest.rest.now (length c.loop-rest.frame) c.in-32.len_at_least (c.loop-rest.invariant.left octets are spelled) in
      subst (λ n. Left (take (length c.loop-rest.rest.now - 3) (drop 3 c.loop-rest.rest.now)) n)
      (sym (ap length c.push.ensures ∙ simp length-append)) first.others_left;
}

pub returns-else-is_empty-clause-fault : goal.returns-else-is_empty-clause-fault
returns-else-is_empty-clause-fault c octets are spelled =
    let left = c.loop-rest.invariant.left octets are spelled in
    elim (spelled_so c.loop-rest.rest.now left.octets left.spelled) [
      | inl none ↦ search (rules, none)
      | inr some ↦ elim c.if-rest-lt3.branch [
        | in_default w ↦ omega (arith, some.0, w.in_default.len_below)
        | in_default-2 w ↦ search (rules, some.1)
      ]
    ]

pub returns-then-len-eq-MAX_FRAME-clause-fault : goal.returns-then-len-eq-MAX_FRAME-clause-fault
returns-then-len-eq-MAX_FRAME-clause-fault c = grind (arith, common_steps)

pub push-requires : goal.push-requires
push-requires c = search (rules, tests)
