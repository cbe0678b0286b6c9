-- What the definition answers is in the grammar, and the other way round.
use Rattle.std.proofs.Common.{ap, ◌∙◌, arith, rules}
use Rattle.std.proofs.lemmas.Grind.{elements}
use Rattle.x29_messages.proofs.Laws.{message_only, message_fault, read_found}
use Rattle.x29_messages.specs.Reading.{Answer, fault_in, message_of}
use Rattle.x29_messages.proofs.reading.read_message.Goals as goal

pub returns-in-empty-clause-exact : goal.returns-in-empty-clause-exact
unfolding message_of
returns-in-empty-clause-exact c = search rules

pub returns-in-empty-clause-only : goal.returns-in-empty-clause-only
returns-in-empty-clause-only c = λ m form. returns-in-empty-clause-exact c ∙ message_only c.args.octets.now m form

pub returns-in-len1-up-clause-exact : goal.returns-in-len1-up-clause-exact
unfolding message_of
returns-in-len1-up-clause-exact c = grind (arith, elements)

pub returns-in-len1-up-clause-found : goal.returns-in-len1-up-clause-found
returns-in-len1-up-clause-found c = read_found c.args.octets.now _ (returns-in-len1-up-clause-exact c)

pub returns-in-len1-up-clause-only : goal.returns-in-len1-up-clause-only
returns-in-len1-up-clause-only c = λ m form. returns-in-len1-up-clause-exact c ∙ message_only c.args.octets.now m form

pub returns-in-len1-up-clause-fault : goal.returns-in-len1-up-clause-fault
returns-in-len1-up-clause-fault c =
    ap (λ (r : Answer). fault_in r) (returns-in-len1-up-clause-exact c) ∙ message_fault c.args.octets.now
