-- What kinds and states are called.
use Rattle.std.specs.Prelude.{ℕ, List, codes}
use Rattle.status_texts.specs.declared.status.NodeKind.{NodeKind}
use Rattle.status_texts.specs.declared.status.NodeKind.TheVariants as kind
use Rattle.status_texts.specs.declared.status.NodeState.{NodeState}
use Rattle.status_texts.specs.declared.status.NodeState.TheVariants as node
use Rattle.status_texts.specs.declared.status.LineState.{LineState}
use Rattle.status_texts.specs.declared.status.LineState.TheVariants as line

abbrev pub kind_word : NodeKind → List ℕ
kind_word kind.Pad = codes "pad"
kind_word kind.Host = codes "host"
kind_word kind.Switch = codes "switch"

abbrev pub node_state_word : NodeState → List ℕ
node_state_word node.Up = codes "up"
node_state_word node.Starting = codes "starting"
node_state_word node.Elsewhere = codes "elsewhere"

abbrev pub line_state_word : LineState → List ℕ
line_state_word line.Up = codes "up"
line_state_word line.Down = codes "down"
line_state_word line.Elsewhere = codes "elsewhere"
