use Rattle.std.proofs.Common.{arith, ◌∙◌}
use Rattle.packet_codec.proofs.Forms.{found, found_answer, reading-form}
use Rattle.packet_codec.proofs.Faults.{fault_in_answer}
use Rattle.packet_codec.proofs.reading.read_packet.Goals as goal

pub returns-clause-found : goal.returns-clause-found
returns-clause-found c =
    found_answer c.args.numbering c.args.size c.args.bytes.now c.read.result c.read.ensures
    (found c.args.numbering c.args.size c.args.bytes.now (λ i. omega (arith, c.type_inv.bytes i)))

pub returns-clause-only : goal.returns-clause-only
returns-clause-only c =
    λ p form. c.read.ensures ∙ reading-form c.args.numbering c.args.size c.args.bytes.now p form

pub returns-clause-fault : goal.returns-clause-fault
returns-clause-fault c =
    fault_in_answer c.args.numbering c.args.size c.args.bytes.now c.read.result c.read.ensures
