use Rattle.std.proofs.lemmas.Grind.{common_steps}
-- An octet more is read, all are, or one is none.
use Rattle.std.proofs.Common.{rules, ◌≡◌, List, ℕ, [], ◌∷◌, ◌++◌, Some, None, refl, sym, ap, ◌∙◌, append_assoc, arith}
use Rattle.std.proofs.lemmas.List.{append-nil}
use Rattle.net_files.specs.Cuts.{before, behind}
use Rattle.net_files.specs.Texts.{octets_of}
use Rattle.net_files.proofs.Spelling.{with_front, plain_added, octet_added, all_spelled, none_spelled}
use Rattle.net_files.proofs.words.add_text.Goals as goal

pub loop-escape-init : goal.loop-escape-init
loop-escape-init c = record { spelled = refl; behind = ([], sym (append-nil c.args.octets.now.items)) }

pub loop-escape-preserved : goal.loop-escape-preserved
loop-escape-preserved c =
    let front = c.args.octets.now.items in
    let added = c.loop-escape.invariant.behind.0 in
    let plain = before 92 c.loop-escape.rest.now in
    let octets = c.add_plain.new.octets.items in
    let last = c.in_ok-octet.octet ∷ [] in
    let rest : Some c.in-Some.escape.now ≡ behind 92 c.loop-escape.rest.now =
    rw c.in-Some.is at c.in_ok-escape.ensures.behind in
    record {
      spelled = rw c.in_ok-push.ensures.items
          (octet_added octets c.in-Some.escape.now c.in_ok-octet.others.now c.in_ok-octet.octet c.in_ok-octet.ensures
          ∙ plain_added c.loop-escape.octets.items c.loop-escape.rest.now octets (Some c.in-Some.escape.now)
          c.in_ok-escape.ensures.plain rest
          ∙ c.loop-escape.invariant.spelled);
      behind = (
        added ++ (plain ++ last),
        c.in_ok-push.ensures.items ∙ ap (λ (xs : List ℕ). xs ++ last) c.in_ok-escape.ensures.plain
            ∙ ap (λ (xs : List ℕ). (xs ++ plain) ++ last) c.loop-escape.invariant.behind.1
            ∙ append_assoc (front ++ added) plain last
            ∙ append_assoc front added (plain ++ last),
      );
    }

pub returns-in_err-octet-clause-read : goal.returns-in_err-octet-clause-read
returns-in_err-octet-clause-read c =
    let rest : Some c.in-Some.escape.now ≡ behind 92 c.loop-escape.rest.now =
    rw c.in-Some.is at c.in_ok-escape.ensures.behind in
    let none : with_front c.args.octets.now.items (octets_of c.args.text.now) ≡ None =
    sym c.loop-escape.invariant.spelled
    ∙ sym (plain_added c.loop-escape.octets.items c.loop-escape.rest.now c.add_plain.new.octets.items
    (Some c.in-Some.escape.now) c.in_ok-escape.ensures.plain rest)
    ∙ none_spelled c.add_plain.new.octets.items c.in-Some.escape.now c.in_err-octet.ensures.1 in
    search (rules, none)

pub returns-clause-read : goal.returns-clause-read
returns-clause-read c =
    let rest : None ≡ behind 92 c.loop-escape.rest.now = rw c.in_default.is at c.in_ok-escape.ensures.behind in
    sym c.loop-escape.invariant.spelled
    ∙ sym (plain_added c.loop-escape.octets.items c.loop-escape.rest.now c.add_plain.new.octets.items None
    c.in_ok-escape.ensures.plain rest)
    ∙ all_spelled c.add_plain.new.octets.items

pub returns-clause-behind : goal.returns-clause-behind
returns-clause-behind c = grind (arith, common_steps)

pub returns-in_err-octet-clause-behind : goal.returns-in_err-octet-clause-behind
returns-in_err-octet-clause-behind c = grind (arith, common_steps)

pub returns-in_err-push-clause-behind : goal.returns-in_err-push-clause-behind
returns-in_err-push-clause-behind c = grind (arith, common_steps)
