use Rattle.std.proofs.Common.{ap, ◌∙◌}
use Rattle.packet_codec.specs.Reading.{reading}
use Rattle.packet_codec.specs.View.{view}
use Rattle.packet_codec.proofs.Spellings.{reading-spelling}
use Rattle.packet_codec.proofs.writing.write_packet.Goals as goal

pub returns-clause-reads_back : goal.returns-clause-reads_back
returns-clause-reads_back c =
    λ size fits. ap (reading c.args.packet.now.numbering size) c.write.ensures
    ∙ reading-spelling size (view c.args.packet.now) fits
