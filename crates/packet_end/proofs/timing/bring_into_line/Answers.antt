use Rattle.std.proofs.Common.{sym}
use Rattle.packet_end.specs.Touched.{OthersAgree}
use Rattle.packet_end.specs.declared.touched.Touched.TheVariants.{Channel}
use Rattle.packet_end.proofs.Untouched.{none_touched, none_concerned, one_touched}
use Rattle.packet_end.proofs.timing.bring_into_line.Goals as goal

pub returns-in-Nothing-clause-timers : goal.returns-in-Nothing-clause-timers
returns-in-Nothing-clause-timers c =
    let l = c.args.layer.now.layer in
    sym (none_touched l c.args.timers.now (none_concerned l c.args.timers.now c.args.touched c.in-Nothing.is c.requires))

pub returns-in-Channel-clause-timers : goal.returns-in-Channel-clause-timers
returns-in-Channel-clause-timers c =
    let agree : OthersAgree c.args.layer.now.layer c.args.timers.now (Channel c.in-Channel.channel) =
    rw c.in-Channel.is at c.requires in
    one_touched c.args.layer.now.layer c.in-Channel.channel c.args.timers.now c.bring_channel.new.self agree
    c.bring_channel.ensures.timers c.bring_channel.ensures.kept c.if-channel-ge1.true c.if-channel-le-MOST_CHANNELS.true
