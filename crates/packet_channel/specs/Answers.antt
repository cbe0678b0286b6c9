-- What a channel answers to a request: whether one control packet too many is owed, or why the request is refused.
use Rattle.std.specs.Prelude.{◌≡◌, Bool, false, List, [], ◌∷◌, Result, Ok, Err, Some, None}
use Rattle.flow_window.specs.Pool.{Buffer}
use Rattle.link_timers.specs.declared.role.Role.{Role}
use Rattle.data_transfer.specs.declared.flow.Flow.{Flow}
use Rattle.packet_channel.specs.Channel.{Channel, Request, refusal, carried_out, owing, passes_limit}
use Rattle.packet_channel.specs.Channel.Request.{Sending}
use Rattle.data_transfer.specs.Held.{Kept, datum_in}
use Rattle.packet_channel.specs.RequestView.{refusal_of}
use Rattle.packet_channel.specs.declared.fault.ChannelFault.{ChannelFault}
use Rattle.packet_channel.specs.declared.fault.RefusedBuf.{RefusedBuf}

pub record CarriedOut (role : Role) (flow : Flow) (old : Channel) (r : Request) (relink : Bool) (new : Channel) : Type 0 where
  pub allowed : refusal role flow old r ≡ None
  pub channel : new ≡ owing (carried_out old r)
  pub passes : relink ≡ passes_limit old.owed (carried_out old r).owes

pub record Refused (role : Role) (flow : Flow) (old : Channel) (r : Request) (fault : ChannelFault) (new : Channel) : Type 0 where
  pub first : refusal role flow old r ≡ Some (refusal_of fault)
  pub same : new ≡ old

-- what is asked of a pool is asked for a packet that is to go; nothing else that a user asks puts anything into it
abbrev pub WhenSending : Request → Type 0 → Type 0
WhenSending (Sending d) P = P
WhenSending r P = Unit {0}

abbrev pub Answers : Role → Flow → Channel → Request → Result Bool ChannelFault → Channel → Type 0
Answers role flow old r (Ok relink) new = CarriedOut role flow old r relink new
Answers role flow old r (Err fault) new = Refused role flow old r fault new

-- ---- to a packet that is sent in its buffer

abbrev pub sending : Kept → Request
sending p = Request.Sending (datum_in p)

-- the packet that comes back is the one that was to be sent
pub record RefusedIn (role : Role) (flow : Flow) (old : Channel) (p : Kept) (given : RefusedBuf) (new : Channel) : Type 0 where
  pub refused : Refused role flow old (sending p) given.fault new
  pub back : given.packet ≡ p

abbrev pub BufAnswers : Role → Flow → Channel → Kept → Result Unit RefusedBuf → Channel → Type 0
BufAnswers role flow old p (Ok _) new = CarriedOut role flow old (sending p) false new
BufAnswers role flow old p (Err refused) new = RefusedIn role flow old p refused new

abbrev pub handed_back : Result Unit RefusedBuf → List Buffer
handed_back (Ok _) = []
handed_back (Err refused) = refused.packet.buffer ∷ []
