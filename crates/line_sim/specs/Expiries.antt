-- What is due comes to an end, and an expiry of a timer that does not run changes nothing.
use Rattle.std.specs.Prelude.{◌≡◌, ◌≢◌, ◌<◌, ℕ, false, slice_get, Some, Result, Err}
use Rattle.link_timers.specs.declared.timers.TimerId.{TimerId}
use Rattle.user_nodes.specs.NodeEvents.{node_runs}
use Rattle.frame_lines.specs.Lines.{LineService}
use Rattle.net_events.specs.declared.answer.Answer.{Answer}
use Rattle.net_events.specs.declared.event.Event.{Event}
use Rattle.net_events.specs.declared.event.Event.TheVariants.{Expire}
use Rattle.net_events.specs.declared.event.StepFault.{StepFault}
use Rattle.net_events.specs.declared.event.StepFault.TheVariants.{OutOfMemory}
use Rattle.net_events.specs.Network.{NetNode, User, Switching, Network}
use Rattle.net_nodes.specs.Due.{net_due}
use Rattle.switch_lines.specs.Switch.{timer_runs}
use Rattle.network_laws.specs.DueCount.{all_due}
use Rattle.network_laws.specs.Switched.Idle.{IsAsBefore}

-- where the event is the expiry of the timer that is due, fewer are due after it, unless it is refused for want of
-- memory
abbrev pub FewerDue : Event → Network → Result Answer StepFault → Network → Type 0
FewerDue e s r t = net_due s ≡ Some e → r ≢ Err OutOfMemory → all_due t.nodes < all_due s.nodes

-- the timer does not run at a PAD or a host, or at a switch on this line
abbrev pub DoesNotRun : (line : ℕ) → TimerId → NetNode → Type 0
DoesNotRun line timer (User n) = node_runs n.node timer ≡ false
DoesNotRun line timer (Switching n) =
    (own : ℕ) → slice_get n.lines own ≡ Some line → timer_runs (slice_get n.switch.lines own) timer ≡ false

-- if the event is the expiry of a timer that does not run at its node, all nodes and the register are as before, and on
-- faithful lines the whole network
abbrev pub IdleExpiry : LineService → Event → Network → Network → Type 0
IdleExpiry L e s t = (place line : ℕ) (timer : TimerId) (node : NetNode) → e ≡ Expire place line timer
    → slice_get s.nodes place ≡ Some node → DoesNotRun line timer node → IsAsBefore L s t
