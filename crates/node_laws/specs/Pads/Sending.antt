-- What a PAD sends on a call: what its terminal typed, and of itself answers, indications of break and interrupts.
use Rattle.std.specs.Prelude.{◌≡◌, ◌⊎◌, ℕ, if◌then◌else◌, List, [], ◌∷◌, ◌++◌, map}
use Rattle.epochs.specs.Item.{Item, Octet, End, QualifiedOctet, QualifiedEnd, DataPacket}
use Rattle.epochs.specs.Epoch.{Epoch, TakenEpoch}
use Rattle.call_records.specs.Records.{RecordValue, sent_epochs}
use Rattle.record_laws.specs.Words.{items_sent}
use Rattle.packet_laws.specs.Readable.{Every}
use Rattle.x29_messages.specs.MessageForm.{octets_of}
use Rattle.x29_messages.specs.declared.message.Message.{Message}
use Rattle.x29_messages.specs.declared.message.Message.TheVariants.{ParameterIndication, IndicationOfBreak, Error}
use Rattle.node_laws.specs.Pads.Occasions.{Occasion, messages_taken, all_told, all_interrupts}

-- ---- epochs, one after the other

abbrev pub interrupts_of_epochs : List Epoch → List (List ℕ)
interrupts_of_epochs [] = []
interrupts_of_epochs (e ∷ es) = e.interrupts ++ interrupts_of_epochs es

-- ---- messages

abbrev pub qualified_messages : List (List ℕ) → List Item
qualified_messages [] = []
qualified_messages (octets ∷ others) = map QualifiedOctet octets ++ QualifiedEnd ∷ qualified_messages others

-- the qualified octets and ends among items
abbrev pub qualified_items : List Item → List Item
qualified_items [] = []
qualified_items (Octet x ∷ is) = qualified_items is
qualified_items (End ∷ is) = qualified_items is
qualified_items (QualifiedOctet x ∷ is) = QualifiedOctet x ∷ qualified_items is
qualified_items (QualifiedEnd ∷ is) = QualifiedEnd ∷ qualified_items is

-- what a PAD tells the far end: values of parameters, errors, and breaks, these with the parameter by which output is
-- discarded or with none
abbrev pub IsOfPad : Message → Type 0
IsOfPad (ParameterIndication pairs) = Unit {0}
IsOfPad (Error kind code) = Unit {0}
IsOfPad (IndicationOfBreak pairs) = (pairs.items ≡ []) ⊎ (pairs.items ≡ (8, 1) ∷ [])
IsOfPad _ = ⊥

-- no others are told, on whatever occasions
abbrev pub OfPadLaw : Type 0
OfPadLaw = (occasions : List Occasion) → Every IsOfPad (all_told occasions)

-- ---- a record

-- each packet with Q = 1 that was taken is a message
abbrev pub qualified_octets : List DataPacket → List (List ℕ)
qualified_octets [] = []
qualified_octets (p ∷ ps) = (if p.qualified then p.octets ∷ [] else []) ++ qualified_octets ps

abbrev pub packets_of_epochs : List TakenEpoch → List DataPacket
packets_of_epochs [] = []
packets_of_epochs (e ∷ es) = e.packets ++ packets_of_epochs es

abbrev pub messages_read : RecordValue → List (List ℕ)
messages_read r = qualified_octets (packets_of_epochs (r.taken_before ++ r.taken ∷ []))

-- these were the occasions: the messages are those that the record took in all epochs, in order; the qualified items
-- that it sent are what the occasions ask to be told, each message once and in order; and the interrupts that it sent
-- are those for which they ask, one each
pub record HasSaid (occasions : List Occasion) (r : RecordValue) : Type 0 where
  pub messages : messages_read r ≡ messages_taken occasions
  pub told : qualified_items (items_sent r) ≡ qualified_messages (map octets_of (all_told occasions))
  pub interrupts : interrupts_of_epochs (sent_epochs r) ≡ all_interrupts occasions
