-- What the two ends of a connection make of each other.
use Rattle.std.specs.Prelude.{◌≡◌, ◌≢◌, ◌<◌, ◌^◌, ℕ, Bool, true, not, ◌==◌, List, [], ◌∷◌, ◌++◌, length, take, drop, Result, Ok, Err, if◌then◌else◌}
use Rattle.std.specs.Int.{w16, to_be_bytes}
use Rattle.link_timers.specs.Role.{other_of}
use Rattle.line_carriers.specs.declared.fault.CarrierFault.{CarrierFault}
use Rattle.line_carriers.specs.declared.fault.CarrierFault.TheVariants.{OtherNetwork, OtherLine, OtherRole}
use Rattle.line_carriers.specs.declared.sign.Sign.{Sign}
use Rattle.line_carriers.specs.declared.hello.Hello.{Hello}
use Rattle.line_carriers.specs.Wire.{frame_form, sign_form, is_frame}
use Rattle.line_carriers.specs.Reading.{First, frame, sign, broken, first_item}
use Rattle.line_carriers.specs.Hello.{hello_form, hello_read, are_same, role_octet}

-- ---- the octets after the hello

-- what is sent
pub data Entry : Type 0 where
  a_frame : (octets : List ℕ) → Entry
  a_sign : (sign : Sign) → Entry

abbrev pub is_entry : Entry → Bool
is_entry (a_frame octets) = is_frame octets
is_entry (a_sign it) = true

abbrev pub entry_form : Entry → List ℕ
entry_form (a_frame octets) = frame_form octets
entry_form (a_sign it) = sign_form it

abbrev pub forms : List Entry → List ℕ
forms [] = []
forms (entry ∷ entries) = entry_form entry ++ forms entries

-- one direction of a connection: what was added so far, the octets that wait at its sender, are on the wire and wait at
-- its receiver, and what was taken so far
pub record Way : Type 0 where
  pub added : List Entry
  pub output : List ℕ
  pub wire : List ℕ
  pub input : List ℕ
  pub taken : List Entry

abbrev pub new_way : Way
new_way = record { added = []; output = []; wire = []; input = []; taken = [] }

-- an entry is added, octets are written, octets come, or what stands first is taken if the whole of it came
pub data Move : Type 0 where
  adds : Entry → Move
  writes : (count : ℕ) → Move
  brings : (count : ℕ) → Move
  takes : Move

abbrev pub with_added : Way → Entry → Way
with_added w entry = record w { added = w.added ++ entry ∷ []; output = w.output ++ entry_form entry }

abbrev pub with_taken : Way → First → Way
with_taken w (frame octets rest) = record w { input = rest; taken = w.taken ++ a_frame octets ∷ [] }
with_taken w (sign it rest) = record w { input = rest; taken = w.taken ++ a_sign it ∷ [] }
with_taken w _ = w

abbrev pub moved : Way → Move → Way
moved w (adds entry) = if is_entry entry then with_added w entry else w
moved w (writes count) = record w { output = drop count w.output; wire = w.wire ++ take count w.output }
moved w (brings count) = record w { wire = drop count w.wire; input = w.input ++ take count w.wire }
moved w takes = with_taken w (first_item w.input)

abbrev pub after_moves : Way → List Move → Way
after_moves w [] = w
after_moves w (move ∷ moves) = after_moves (moved w move) moves

-- what was taken is the beginning of what was added; the octets on the way are the rest of it; nothing is broken
pub record IsCarried (w : Way) : Type 0 where
  pub on_way : List Entry
  pub in_order : w.added ≡ w.taken ++ on_way
  pub octets : w.input ++ (w.wire ++ w.output) ≡ forms on_way
  pub sound : (fault : CarrierFault) → first_item w.input ≢ broken fault

-- so it is whatever happens, from a new connection on
abbrev pub StreamLaw : Type 0
StreamLaw = (moves : List Move) → IsCarried (after_moves new_way moves)

-- ---- the hello

-- its network is 32 octets, and its numbers fit
pub record IsHello (hello : Hello) : Type 0 where
  pub network : length hello.network ≡ 32
  pub start : hello.start < 2 ^ 64

-- the number of the other end's start, or the first thing that differs
abbrev pub judged : (own other : Hello) → Result ℕ CarrierFault
judged own other =
    if not (are_same other.network own.network) then Err OtherNetwork
    else if not (are_same (to_be_bytes w16 other.line) (to_be_bytes w16 own.line)) then Err OtherLine
    else if not (role_octet other.role == role_octet (other_of own.role)) then Err OtherRole
    else Ok other.start

abbrev pub HelloLaw : Type 0
HelloLaw = (own other : Hello) → IsHello other → hello_read own (hello_form other) ≡ judged own other
