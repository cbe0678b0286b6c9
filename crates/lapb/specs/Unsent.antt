-- What stays unsent after the end of a node's event (X.25 2.4.5.1).
use Rattle.std.specs.Prelude.{◌≡◌, ◌≤◌, true, false, length}
use Rattle.lapb.specs.declared.phase.Phase.{Phase}
use Rattle.lapb.specs.Machine.{Link}

-- I frames may go: the link is up and heard its partner in this session, no poll is outstanding, and the partner is not
-- busy. Nothing else holds them back, so neither a REJ condition nor an acknowledgement that is owed.
pub record MaySend (l : Link) : Type 0 where
  pub up : l.phase ≡ Phase.Up
  pub heard : l.heard ≡ true
  pub answered : l.polling ≡ false
  pub ready : l.busy ≡ false

-- If I frames may go, each packet that was offered and is not acknowledged was sent: V(S) follows the last of them.
abbrev pub HasSentAll : Link → Type 0
HasSentAll l = MaySend l → length l.queue ≤ l.next
