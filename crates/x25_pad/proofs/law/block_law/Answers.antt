-- The law of blocks.
use Rattle.x25_pad.proofs.Blocks.{key_blocks, idle_blocks}
use Rattle.x25_pad.proofs.law.block_law.Goals as goal

pub returns : goal.returns
returns c = record { keys = key_blocks; idle_times = idle_blocks }
