-- The clause of the relay: what a switch sent on one leg comes, item by item, of what it took on the other one, and
-- nothing that was to be delivered is released before it was.
use Rattle.std.specs.Prelude.{◌≡◌, ℕ, ◌+◌, ◌-◌, ◌≤◌, ◌<◌, ◌⊎◌, Bool, true, false, if◌then◌else◌, List, [], ◌∷◌, ◌++◌, length}
use Rattle.epochs.specs.Item.{Item, items_of, all_items}
use Rattle.data_transfer.specs.Packets.{Datum}
use Rattle.packet_laws.specs.History.{Epoch}
use Rattle.switch_joins.specs.Turning.{Sizes, items_gathered}
use Rattle.switch_joins.specs.Direction.{Direction}

-- ---- a packet, and what it made due

-- a packet that was taken on the near leg, and the packets that it made due on the far leg
pub record Handled : Type 0 where
  pub packet : Datum
  pub made : List Datum

abbrev pub packets_of : List Handled → List Datum
packets_of [] = []
packets_of (h ∷ hs) = h.packet ∷ packets_of hs

abbrev pub made_of : List Handled → List Datum
made_of [] = []
made_of (h ∷ hs) = h.made ++ made_of hs

-- a packet that ends a sequence of packets: M = 0, or D = 1, or it is not full (X.25 4.3.4)
abbrev pub EndsSequence : (size : ℕ) → Datum → Type 0
EndsSequence size d = (d.more ≡ false) ⊎ ((d.delivery ≡ true) ⊎ (length d.octets < size))

-- the last of these packets has D = 1
pub record EndsWithDelivery (ds : List Datum) : Type 0 where
  pub front : List Datum
  pub last : Datum
  pub parts : front ++ last ∷ [] ≡ ds
  pub delivery : last.delivery ≡ true

-- of these packets only the last one may have D = 1, and only with this D
abbrev pub OnlyLast : (delivery : Bool) → List Datum → Type 0
OnlyLast delivery [] = Unit {0}
OnlyLast delivery (d ∷ ds) = (d.delivery ≡ true → (ds ≡ []) × (delivery ≡ true)) × OnlyLast delivery ds

-- the items that were left over before, and those of the packet, are in the packets that it made due or left over after
-- it; if it has D = 1, none is left over, and the last packet that it made due has D = 1; no other one has
pub record Turned (before : List Item) (h : Handled) (after : List Item) : Type 0 where
  pub items : before ++ items_of h.packet ≡ all_items h.made ++ after
  pub delivery : h.packet.delivery ≡ true → (after ≡ []) × EndsWithDelivery h.made
  pub no_other : OnlyLast h.packet.delivery h.made

-- so it is of each of these packets, in turn
abbrev pub AreTurned : (before : List Item) → List Handled → (after : List Item) → Type 0
AreTurned before [] after = before ≡ after
AreTurned before (h ∷ hs) after = (between : List Item) × Turned before h between × AreTurned between hs after

-- ---- epochs

-- what was taken in an epoch, and how many of the packets were released
pub record TakenPart : Type 0 where
  pub packets : List Datum
  pub interrupts : List (List ℕ)
  pub released : ℕ

-- what was sent in an epoch, what still waits to go among it, and how many of the packets P(R) covered
pub record SentPart : Type 0 where
  pub packets : List Datum
  pub interrupts : List (List ℕ)
  pub covered : ℕ

abbrev pub nothing_sent : SentPart
nothing_sent = record { packets = []; interrupts = []; covered = 0 }

abbrev pub taken_part : Epoch → TakenPart
taken_part e = record { packets = e.taken; interrupts = e.interrupts_taken; released = e.released }

abbrev pub sent_part : Epoch → SentPart
sent_part e = record { packets = e.sent; interrupts = e.interrupts_sent; covered = e.covered }

-- what each packet with D = 1 made due is among the first `count`; `before` packets stand before what the first one
-- made due
abbrev pub AreCovered : (count before : ℕ) → List Handled → Type 0
AreCovered count before [] = Unit {0}
AreCovered count before (h ∷ hs) =
    (h.packet.delivery ≡ true → before + length h.made ≤ count) × AreCovered count (before + length h.made) hs

-- what was taken made due what was sent, and these items are left over; the packets released are the first ones, and
-- what each of them with D = 1 made due was covered on the far leg; interrupts are the same
pub record Carries (near : TakenPart) (far : SentPart) (left : List Item) : Type 0 where
  pub out : List Handled
  pub kept : List Handled
  pub taken : packets_of (out ++ kept) ≡ near.packets
  pub made : made_of (out ++ kept) ≡ far.packets
  pub turned : AreTurned [] (out ++ kept) left
  pub interrupts : far.interrupts ≡ near.interrupts
  pub released : near.released ≡ length out
  pub covered : AreCovered far.covered 0 out

-- past epochs of the two legs, the latest first: they carry each other in pairs, whatever is left over; nothing was
-- sent of a near one without a partner, and a far one without a partner has nothing. Between lines of one size each
-- packet made itself due, with M, Q and D, and of a near one without a partner nothing was taken
pub data Passed (sizes : Sizes) : (near far : List Epoch) → Type 0 where
  none : Passed sizes [] []
  both : {n f : Epoch} {ns fs : List Epoch} {left : List Item} → Carries (taken_part n) (sent_part f) left
      → (sizes.near ≡ sizes.far → f.sent ≡ n.taken) → Passed sizes ns fs → Passed sizes (n ∷ ns) (f ∷ fs)
  near_alone : {n : Epoch} {ns fs : List Epoch} {left : List Item} → Carries (taken_part n) nothing_sent left
      → (sizes.near ≡ sizes.far → n.taken ≡ []) → Passed sizes ns fs → Passed sizes (n ∷ ns) fs
  far_alone : {f : Epoch} {ns fs : List Epoch} → f.sent ≡ [] → f.interrupts_sent ≡ [] → Passed sizes ns fs
      → Passed sizes ns (f ∷ fs)

-- how many more packets have to be covered until what each of these made due is, where it has D = 1
abbrev pub needs : (covered before : ℕ) → List Handled → List ℕ
needs c before [] = []
needs c before (h ∷ hs) =
    (if h.packet.delivery then before + length h.made - c else 0) ∷ needs c (before + length h.made) hs

-- what the switch keeps of a direction says what is to be covered, and what is left over is gathered; the count is an
-- octet
pub record IsDirection (v : Direction) (near : TakenPart) (far : SentPart) : Type 0 where
  pub carries : Carries near far (items_gathered v.gathered)
  pub outstanding : v.outstanding + far.covered ≡ length far.packets
  pub octet : v.outstanding ≤ 255
  pub held : v.held ≡ needs far.covered (length (made_of carries.out)) carries.kept
