use Rattle.std.proofs.Common.{ap}
use Rattle.lapb.specs.Held.{Link}
use Rattle.lapb.proofs.Frames.{sent_by}
use Rattle.lapb.proofs.link.Link.end_by_packets.Goals as goal

pub returns-clause-out : goal.returns-clause-out
returns-clause-out c =
    let sent = sent_by c.args.self.now.link c.args.out.now c.requires.up c.requires.polling c.requires.busy c.requires.unsent in
    let top = ap (λ (l : Link). l.link.top) c.self.view_is in
    rw (c.end.ensures, c.send_packets.ensures.out, c.used-ran.ensures.value, top) sent
