-- What contracts see of the code's line of a switch.
use Rattle.std.specs.Prelude.{◌≡◌, ◌+◌, ◌<◌, ◌≤◌, [], ◌++◌, length}
use Rattle.joined_line.specs.SwitchLine.{SwitchLine}
use Rattle.joined_line.specs.Pooled.{PooledLine}
use Rattle.joined_line.specs.declared.line.SwitchLine.TheInside.{Inside}

abbrev pub line_of : Inside → SwitchLine
line_of a = record { end = a.end.end; address = a.address; joined = a.joined.joined }

-- its end and its joins hold buffers: there is one for what is gathered from each channel
abbrev pub pooled_of : Inside → PooledLine
pooled_of a = record {
  line = line_of a;
  held = a.end.held ++ a.joined.held;
  claim = record { share = a.end.share + length a.joined.joined; info = a.end.info };
}

-- its packet layer has nothing left to tell, and its end and its joins hold no more than their shares
pub record IsLine (a : Inside) : Type 0 where
  pub read : a.end.end.layer.notes ≡ []
  pub within : length a.end.held < a.end.share
  pub gathered : length a.joined.held ≤ length a.joined.joined
