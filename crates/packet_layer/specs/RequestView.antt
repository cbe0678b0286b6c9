-- Refusals, as the code has them.
use Rattle.packet_channel.specs.Channel as spec
use Rattle.packet_layer.specs.declared.fault.CallFault.{CallFault}
use Rattle.packet_layer.specs.declared.fault.CallFault.TheVariants as call_fault
pub use Rattle.packet_channel.specs.RequestView.{request_of, refusal_of}

abbrev pub call_refusal_of : CallFault → spec.Refusal
call_refusal_of call_fault.NotReady = spec.Refusal.NotReady
call_refusal_of call_fault.NoChannel = spec.Refusal.NoChannel
