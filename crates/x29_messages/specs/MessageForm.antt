-- The messages between PADs and hosts (X.29 4.4): a code, and what follows it.
use Rattle.std.specs.Prelude.{◌≡◌, ℕ, ◌≤◌, List, [], ◌∷◌, length, Option, Some, None}
use Rattle.std.specs.List.{flat_map}
use Rattle.x29_messages.specs.declared.message.Message.{Message}
use Rattle.x29_messages.specs.declared.message.Message.TheVariants.{ParameterIndication, InvitationToClear, Set}
use Rattle.x29_messages.specs.declared.message.Message.TheVariants.{IndicationOfBreak, Read, Error, SetAndRead}

-- a parameter's reference and its value
abbrev pub pair_octets : ℕ × ℕ → List ℕ
pair_octets pair = pair.0 ∷ pair.1 ∷ []

abbrev pub pairs_octets : List (ℕ × ℕ) → List ℕ
pairs_octets pairs = flat_map pair_octets pairs

-- an error's type, and the code of the message that was wrong, if it had one
abbrev pub error_octets : ℕ → Option ℕ → List ℕ
error_octets kind None = kind ∷ []
error_octets kind (Some code) = kind ∷ code ∷ []

-- the one spelling of a message
unfoldable pub octets_of : Message → List ℕ
octets_of (ParameterIndication pairs) = 0 ∷ pairs_octets pairs.items
octets_of InvitationToClear = 1 ∷ []
octets_of (Set pairs) = 2 ∷ pairs_octets pairs.items
octets_of (IndicationOfBreak pairs) = 3 ∷ pairs_octets pairs.items
octets_of (Read pairs) = 4 ∷ pairs_octets pairs.items
octets_of (Error kind code) = 5 ∷ error_octets kind code
octets_of (SetAndRead pairs) = 6 ∷ pairs_octets pairs.items

-- how many pairs a message has
abbrev pub pair_count : Message → ℕ
pair_count (ParameterIndication pairs) = length pairs.items
pair_count (Set pairs) = length pairs.items
pair_count (IndicationOfBreak pairs) = length pairs.items
pair_count (Read pairs) = length pairs.items
pair_count (SetAndRead pairs) = length pairs.items
pair_count InvitationToClear = 0
pair_count (Error kind code) = 0

-- the octets say the message
pub record MessageForm (octets : List ℕ) (message : Message) : Type 0 where
  pub spelled : octets ≡ octets_of message
  pub few : pair_count message ≤ 63
