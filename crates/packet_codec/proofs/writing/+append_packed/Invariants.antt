use Rattle.std.proofs.Common.{length}
use Rattle.packet_codec.proofs.writing.+append_packed.Given as goal

abbrev pub decreases-append_packed : goal.decreases-append_packed
decreases-append_packed l = length l.digits.now
