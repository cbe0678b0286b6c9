-- What a switch keeps of one direction of a join, from one reset to the next. The near leg is the one that it takes
-- packets from, the far leg the one that it sends them on.
use Rattle.std.specs.Prelude.{ℕ, zero, suc, ◌+◌, ◌-◌, Bool, if◌then◌else◌, List, [], ◌∷◌, ◌++◌, length, map, take, min}
use Rattle.switch_joins.specs.Turning.{Gathered, nothing_gathered, Turn}

-- of each packet taken on the near leg and not released, in order, how many more packets of the far leg P(R) has to
-- cover until all that this one made due is covered there, 0 for one with D = 0; how many packets sent on the far leg
-- are not covered; and what is gathered
pub record Direction : Type 0 where
  pub held : List ℕ
  pub outstanding : ℕ
  pub gathered : Gathered

abbrev pub new_direction : Direction
new_direction = record { held = []; outstanding = 0; gathered = nothing_gathered }

-- so many packets more are sent on: there is a place for 32 that are not released, as many as the largest window has,
-- and the count of those that are not covered is an octet
abbrev pub more_sent : (count outstanding : ℕ) → ℕ
more_sent count outstanding = min (outstanding + count) 255

abbrev pub kept_places : List ℕ → List ℕ
kept_places held = take 32 held

-- a packet was taken, with D = 1 or not, and this became of it
abbrev pub carried : (delivery : Bool) → Turn → Direction → Direction
carried delivery turn v = record {
  held = kept_places (v.held ++ (if delivery then more_sent (length turn.made) v.outstanding else 0) ∷ []);
  outstanding = more_sent (length turn.made) v.outstanding;
  gathered = turn.left;
}

-- a packet was taken, with D = 1 or not, and sent on as it is
abbrev pub passed : (delivery : Bool) → Direction → Direction
passed delivery v = record {
  held = kept_places (v.held ++ (if delivery then more_sent 1 v.outstanding else 0) ∷ []);
  outstanding = more_sent 1 v.outstanding;
  gathered = nothing_gathered;
}

-- P(R) covers n more packets of the far leg
abbrev pub covered_by : ℕ → Direction → Direction
covered_by n v = record v { held = map (λ h. h - n) v.held; outstanding = v.outstanding - n }

-- how many packets may be released, in order: those before the first one that has to be covered
abbrev pub releasable : List ℕ → ℕ
releasable [] = 0
releasable (zero ∷ hs) = suc (releasable hs)
releasable (suc h ∷ hs) = 0

abbrev pub unreleasable : List ℕ → List ℕ
unreleasable [] = []
unreleasable (zero ∷ hs) = unreleasable hs
unreleasable (suc h ∷ hs) = suc h ∷ hs

abbrev pub released : Direction → Direction
released v = record v { held = unreleasable v.held }
