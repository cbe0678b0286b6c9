-- What is on the way on a line between two processes while the node at one end has not started.
use Rattle.std.specs.Prelude.{◌≡◌, true, false, ℕ, List, [], ◌∷◌, ◌++◌}
use Rattle.line_carriers.specs.declared.carrier.Carrier.{Carrier}
use Rattle.line_carriers.specs.declared.carrier.Connection.{Connection}
use Rattle.line_carriers.specs.declared.hello.Hello.{Hello}
use Rattle.line_carriers.specs.Carrier.{stands, is_open}
use Rattle.line_carriers.specs.Laws.{Entry, a_frame, a_sign, is_entry, forms, IsHello}
use Rattle.line_carriers.specs.CutOff.{Pair, met, Deed, after_deeds, unread}

-- the frames among what was sent
abbrev pub frames_of : List Entry → List (List ℕ)
frames_of [] = []
frames_of (a_frame octets ∷ entries) = octets ∷ frames_of entries
frames_of (a_sign it ∷ entries) = frames_of entries

-- all of it can be sent
abbrev pub AreEntries : List Entry → Type 0
AreEntries [] = Unit {0}
AreEntries (entry ∷ entries) = (is_entry entry ≡ true) × AreEntries entries

-- these octets are on the way to an end, which has not read the hello of the other one or has, and these are the frames
-- in them
pub record AreOnWay (connection : Connection) (hello : Hello) (octets : List ℕ) (frames : List (List ℕ)) : Type 0 where
  pub entries : List Entry
  pub sent : AreEntries entries
  pub form : octets ≡ unread connection hello ++ forms entries
  pub frames_are : frames ≡ frames_of entries

-- from the one end to the other, and back
abbrev pub AreOut : Pair → Hello → List (List ℕ) → Type 0
AreOut p hello = AreOnWay p.partner.connection hello (p.partner.input ++ (p.out ++ p.starter.output))

abbrev pub AreBack : Pair → Hello → List (List ℕ) → Type 0
AreBack p hello = AreOnWay p.starter.connection hello (p.starter.input ++ (p.back ++ p.partner.output))

-- no frame is on the way, and the line is not open at the other end
pub record HasNothingOnWay (a b : Hello) (p : Pair) : Type 0 where
  pub out : (frames : List (List ℕ)) → AreOut p a frames → frames ≡ []
  pub back : (frames : List (List ℕ)) → AreBack p b frames → frames ≡ []
  pub closed : is_open p.partner ≡ false

-- so it is as long as the connection stands at both ends and the node at the one end has not started
abbrev pub RestartLaw : Type 0
RestartLaw = (a b : Carrier) (deeds : List Deed) → IsHello a.hello → IsHello b.hello
    → (after_deeds (met a b) deeds).starter.started ≡ false
    → stands (after_deeds (met a b) deeds).starter ≡ true → stands (after_deeds (met a b) deeds).partner ≡ true
    → HasNothingOnWay a.hello b.hello (after_deeds (met a b) deeds)
