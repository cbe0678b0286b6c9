-- The law of what a terminal shows.
use Rattle.node_laws.proofs.Pads.Owning.{own_packet, own_text, others_stay, learns_own}
use Rattle.node_laws.proofs.Pads.Noting.{own_notes}
use Rattle.node_laws.proofs.pad.own.own_text_law.Goals as goal

pub returns : goal.returns
returns c = record { packets = own_packet; texts = own_text; others = others_stay; learns = learns_own; notes = own_notes }
