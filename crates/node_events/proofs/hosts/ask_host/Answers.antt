use Rattle.node_events.proofs.Writing.{called_calls, called_asks, called_takes}
use Rattle.node_events.proofs.hosts.ask_host.Goals as goal

pub returns-in_ok-channel-in-Calls-clause-ok : goal.returns-in_ok-channel-in-Calls-clause-ok
returns-in_ok-channel-in-Calls-clause-ok c =
    rw (c.in-Calls.is, c.call.ensures.host, c.place.ensures)
    (called_calls c.args.role c.args.host.now c.in-Calls.address c.in-Calls.user_data.now c.in_ok-channel-in-Calls.channel c.args.book.now.book 0 c.args.book.now.pairs c.requires.quiet c.in_ok-channel-in-Calls.ensures.answer)

pub returns-in_ok-ask-in-Asks-clause-ok : goal.returns-in_ok-ask-in-Asks-clause-ok
returns-in_ok-ask-in-Asks-clause-ok c =
    rw (c.in-Asks.is, c.ask.ensures.host, c.write_request.ensures, c.packet_size-size.ensures.size)
    (called_asks c.args.role c.args.host.now c.in-Asks.channel c.in-Asks.request.now c.args.book.now.book c.write_request.new.book.room c.write_request.new.book.pairs c.requires.quiet c.in_ok-ask-in-Asks.ensures.answer)

pub returns-in-Takes-clause-ok : goal.returns-in-Takes-clause-ok
returns-in-Takes-clause-ok c =
    rw (c.in-Takes.is, c.take.ensures.host, c.take.ensures.book)
    (called_takes c.args.role c.args.host.now c.in-Takes.channel c.args.book.now.book c.take.new.book.room c.take.new.book.pairs c.requires.quiet)
