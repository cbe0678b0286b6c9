use Rattle.std.proofs.Common.{◌<◌, length, map, subst, sym}
use Rattle.frame_codec.specs.Spelling.{spelling}
use Rattle.lapb.specs.Held.{Link}
use Rattle.lapb.specs.LinkView.{link_of, holding}
use Rattle.lapb.specs.Out.{with_frames}
use Rattle.lapb.proofs.Frames.{sent_link, sent_frames}
use Rattle.lapb.proofs.link.Link.send_packets.Goals as goal

pub returns-clause-link : goal.returns-clause-link
returns-clause-link c =
    rw (c.send_from.ensures.window, ← c.self.view_is) (λ i. record (holding c.self.inside) {
      link = sent_link (link_of c.self.inside) (subst (λ (l : Link). l.link.next < length l.link.queue)
          (sym c.self.view_is) c.requires.unsent) i;
    })

pub returns-clause-out : goal.returns-clause-out
returns-clause-out c =
    let some = subst (λ (l : Link). l.link.next < length l.link.queue) (sym c.self.view_is) c.requires.unsent in
    rw (c.send_from.ensures.out, c.expected-nr.ensures.value, ← c.self.view_is)
    (λ i. record c.args.out.now {
      frames = with_frames c.args.out.now.frames
          (map (spelling c.self.inside.role) (sent_frames (link_of c.self.inside) some i));
    })
