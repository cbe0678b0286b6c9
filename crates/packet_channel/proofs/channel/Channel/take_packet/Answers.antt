use Rattle.packet_channel.proofs.channel.Channel.take_packet.Goals as goal

pub returns-in-Ready-clause-fits : goal.returns-in-Ready-clause-fits
returns-in-Ready-clause-fits c = c.in_ready.ensures.fits c.args.end.flow

pub returns-in-OwnWaiting-clause-fits : goal.returns-in-OwnWaiting-clause-fits
returns-in-OwnWaiting-clause-fits c = c.in_own_waiting.ensures.fits c.args.end.flow

pub returns-in-FarWaiting-clause-fits : goal.returns-in-FarWaiting-clause-fits
returns-in-FarWaiting-clause-fits c = c.in_far_waiting.ensures.fits c.args.end.flow

pub returns-in-Transfer-clause-fits : goal.returns-in-Transfer-clause-fits
returns-in-Transfer-clause-fits c = c.in_own_reset.ensures.fits c.args.end.flow

pub returns-in-Collision-clause-fits : goal.returns-in-Collision-clause-fits
returns-in-Collision-clause-fits c = c.in_collision.ensures.fits c.args.end.flow
