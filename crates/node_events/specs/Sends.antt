-- What a node sends at the end of an event: all frames that it has to send, in order, each put on its line.
use Rattle.std.specs.Prelude.{◌≡◌, ℕ, List, [], ◌∷◌}
use Rattle.frame_lines.specs.declared.line.Direction.{Direction}
use Rattle.frame_lines.specs.Lines.{Flights, LineService, ArePut}
use Rattle.net_events.specs.declared.answer.Put.{Put}

-- a frame that was put: on the line of this number, in this direction, with these octets
pub record IsPutOf (d : Direction) (line : ℕ) (octets : List ℕ) (put : Put) : Type 0 where
  pub on : put.line ≡ line
  pub to : put.direction ≡ d
  pub as_octets : put.octets ≡ octets

-- these frames, one after the other, and no others
abbrev pub ArePutsOf : Direction → (line : ℕ) → List (List ℕ) → List Put → Type 0
ArePutsOf d line [] [] = Unit {0}
ArePutsOf d line (octets ∷ frames) (put ∷ puts) = IsPutOf d line octets put × ArePutsOf d line frames puts
ArePutsOf d line _ _ = ⊥

-- all these frames are put
pub record Sends (L : LineService) (d : Direction) (line : ℕ) (frames : List (List ℕ)) (before : Flights)
    (puts : List Put) (after : Flights) : Type 0 where
  pub puts_are : ArePutsOf d line frames puts
  pub put : L.faithful → ArePut L d frames before after
