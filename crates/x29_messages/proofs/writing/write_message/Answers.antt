-- What is in the grammar is read.
use Rattle.x29_messages.proofs.Laws.{message_only}
use Rattle.x29_messages.proofs.writing.write_message.Goals as goal

pub returns-clause-back : goal.returns-clause-back
returns-clause-back c = message_only c.write.new.out.items c.args.message.now c.write.ensures.form
