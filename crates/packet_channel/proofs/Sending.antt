-- A packet goes into the send queue, or is refused.
use Rattle.std.proofs.Common.{◌≡◌, Bool, false, Result, Ok, Err, Some, None, refl, ap, ◌∙◌, sym}
use Rattle.std.specs.Prelude.{IsErrAnd}
use Rattle.link_timers.specs.declared.role.Role.{Role}
use Rattle.data_transfer.specs.declared.flow.Flow.{Flow}
use Rattle.packet_channel.specs.Answers.{Answers, CarriedOut}
use Rattle.packet_channel.specs.Channel.{Channel, Request, refusal}
use Rattle.packet_channel.specs.Channel.Request.{Sending}
use Rattle.data_transfer.specs.Packets.{Datum}
use Rattle.packet_channel.specs.RequestView.{refusal_of}
use Rattle.data_transfer.specs.Traffic.{Traffic, queue}
use Rattle.packet_channel.specs.declared.fault.ChannelFault.{ChannelFault}

pub told : (role : Role) (flow : Flow) (ch : Channel) (r : Request) (result : Result Bool ChannelFault) (fault : ChannelFault) →
    IsErrAnd result (λ e. e ≡ fault) → refusal role flow ch r ≡ Some (refusal_of fault) → Answers role flow ch r result ch
told role flow ch r (Ok b) fault same first = absurd same
told role flow ch r (Err e) fault same first = record {
  first = first ∙ ap (λ f. Some (refusal_of f)) (sym same);
  same = refl;
}

put : Traffic → Channel → Channel
put t ch = record ch { traffic = t }

pub queued : (role : Role) (flow : Flow) (old ch : Channel) (d : Datum) (t : Traffic) → refusal role flow old (Sending d) ≡ None →
    ch ≡ old → t ≡ queue d ch.traffic → CarriedOut role flow old (Sending d) false (record ch { traffic = t })
unfolding put
queued role flow old ch d t allowed view e = record {
  allowed = allowed;
  channel = ap (λ (t : Traffic). put t ch) e ∙ ap (λ (c : Channel). put (queue d c.traffic) c) view;
  passes = refl;
}
