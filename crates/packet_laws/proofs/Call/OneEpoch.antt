-- One epoch of a call at both ends: what is sent, on the way, waiting and taken; numbers and the counts they stand for;
-- interrupts and their confirmations.
use Rattle.std.proofs.Common.{◌≡◌, ℕ, suc, ◌+◌, ◌%◌, ◌<◌, ◌≤◌, Bool, true, false, List, [], ◌∷◌, ◌++◌, length, Option, Some, None}
use Rattle.data_transfer.specs.Flow.{modulus, shown}
use Rattle.data_transfer.specs.declared.flow.Flow.{Flow}
use Rattle.data_transfer.specs.Packets.{Datum, Body}
use Rattle.data_transfer.specs.Packets.Body.{Data, Interrupt, InterruptConfirmation, ReceiveReady, ReceiveNotReady}
use Rattle.data_transfer.specs.Traffic.{Traffic, Heard, fresh, says, hears, interrupt_pending}
use Rattle.data_transfer.specs.Traffic.Heard.{Keeps, Confirms, Wrong}
use Rattle.packet_channel.specs.Channel.{Request, traffic_after}
use Rattle.packet_channel.specs.Channel.Request.{Interrupting}
use Rattle.packet_laws.specs.History.{Epoch, empty_epoch, logged, logged_heard}
use Rattle.packet_laws.specs.LayerLineLaw.{listed}
use Rattle.packet_laws.proofs.Handshakes.Handshake.{Two, Did}

pub record Inner : Type 0 where
  pub traffic : Traffic
  pub epoch : Epoch

abbrev pub begun_epoch : Inner
begun_epoch = record { traffic = fresh; epoch = empty_epoch }

abbrev pub heard_traffic : Heard → Traffic → Traffic
heard_traffic (Keeps n t) old = t
heard_traffic (Confirms t) old = t
heard_traffic (Wrong d) old = old

abbrev pub heard_inner : Heard → Inner → Inner
heard_inner h i = record { traffic = heard_traffic h i.traffic; epoch = logged_heard h i.epoch }

abbrev pub NotWrong : Heard → Type 0
NotWrong (Wrong d) = ⊥
NotWrong _ = Unit {0}

abbrev pub inner_hears : Flow → Inner → Body → Did Inner
inner_hears flow i b = record { end_ = heard_inner (hears flow i.traffic b) i; says = None }

abbrev pub inner_ok : Flow → Inner → Body → Type 0
inner_ok flow i b = NotWrong (hears flow i.traffic b)

abbrev pub inner_says : Flow → Inner → Did Inner
inner_says flow i = record { end_ = record i { traffic = (says flow i.traffic).traffic }; says = (says flow i.traffic).body }

-- ---- what is in a pipe

abbrev pub data_of : Body → List Datum
data_of (Data s r d) = d ∷ []
data_of _ = []

abbrev pub datas : List Body → List Datum
datas [] = []
datas (t ∷ ts) = data_of t ++ datas ts

abbrev pub interrupt_of : Body → List (List ℕ)
interrupt_of (Interrupt octets) = octets ∷ []
interrupt_of _ = []

abbrev pub interrupts : List Body → List (List ℕ)
interrupts [] = []
interrupts (t ∷ ts) = interrupt_of t ++ interrupts ts

abbrev pub confirmation_of : Body → ℕ
confirmation_of InterruptConfirmation = 1
confirmation_of _ = 0

abbrev pub confirmations : List Body → ℕ
confirmations [] = 0
confirmations (t ∷ ts) = confirmation_of t + confirmations ts

-- the P(S) on the way follow one another from count k on, and nothing but traffic is on the way
abbrev pub NumberOf : Flow → Body → ℕ → (ℕ → Type 0) → Type 0
NumberOf flow (Data s r d) k rest = (s ≡ shown flow.numbering k) × rest (suc k)
NumberOf flow (Interrupt octets) k rest = rest k
NumberOf flow InterruptConfirmation k rest = rest k
NumberOf flow (ReceiveReady r) k rest = rest k
NumberOf flow (ReceiveNotReady r) k rest = rest k
NumberOf flow _ k rest = ⊥

abbrev pub Numbers : Flow → ℕ → List Body → Type 0
Numbers flow k [] = Unit {0}
Numbers flow k (t ∷ ts) = NumberOf flow t k (λ j. Numbers flow j ts)

-- the P(R) on the way name counts that do not fall, from the last one covered to what is released
abbrev pub AckOf : Flow → Body → ℕ → (ℕ → Type 0) → Type 0
AckOf flow (Data s r d) c rest = (n : ℕ) × ((r ≡ shown flow.numbering n) × (c ≤ n) × rest n)
AckOf flow (ReceiveReady r) c rest = (n : ℕ) × ((r ≡ shown flow.numbering n) × (c ≤ n) × rest n)
AckOf flow (ReceiveNotReady r) c rest = (n : ℕ) × ((r ≡ shown flow.numbering n) × (c ≤ n) × rest n)
AckOf flow _ c rest = rest c

abbrev pub Acks : Flow → ℕ → List Body → ℕ → Type 0
Acks flow c [] f = c ≤ f
Acks flow c (t ∷ ts) f = AckOf flow t c (λ n. Acks flow n ts f)

-- ---- from the end x to the end y

pub record Stream (flow : Flow) (taken arrived waiting sent : List Datum) (receive send : ℕ) (o : List Body) : Type 0 where
  pub items : taken ++ (arrived ++ (datas o ++ waiting)) ≡ sent
  pub numbers : Numbers flow (length taken + length arrived) o
  pub expected : receive ≡ (length taken + length arrived) % 128
  pub next : send ≡ (length taken + length arrived + length (datas o)) % 128

pub record Acking (flow : Flow) (wire taken covered covered_count released released_count : ℕ) (b : List Body) : Type 0 where
  pub acks : Acks flow covered_count b released_count
  pub covered_is : covered ≡ covered_count % 128
  pub released_is : released ≡ released_count % 128
  pub in_window : wire ≤ covered_count + flow.window
  pub released_taken : released_count ≤ taken

abbrev pub one : Bool → ℕ
one true = 1
one false = 0

abbrev pub Waits : Option (List ℕ) → Bool → Type 0
Waits None b = Unit {0}
Waits (Some x) b = b ≡ false

pub record Urgent (taken sent : List (List ℕ)) (arrived waiting : Option (List ℕ)) (unconfirmed is_taken due : Bool) (o b : List Body) : Type 0 where
  pub items : taken ++ (listed arrived ++ (interrupts o ++ listed waiting)) ≡ sent
  pub pending : one unconfirmed ≡ length (interrupts o) + (length (listed arrived) + (one is_taken + (one due + confirmations b)))
  pub waits : Waits waiting unconfirmed

abbrev pub wire : List Datum → List Datum → List Body → ℕ
wire taken arrived o = length taken + length arrived + length (datas o)

pub record Way (flow : Flow) (x y : Inner) (o b : List Body) : Type 0 where
  pub stream : Stream flow y.epoch.taken y.traffic.arrived x.traffic.waiting x.epoch.sent y.traffic.receive_number x.traffic.send_number o
  pub acking : Acking flow (wire y.epoch.taken y.traffic.arrived o) (length y.epoch.taken) x.traffic.covered x.epoch.covered y.traffic.released y.epoch.released b
  pub urgent : Urgent y.epoch.interrupts_taken x.epoch.interrupts_sent y.traffic.interrupt_arrived x.traffic.interrupt_waiting x.traffic.interrupt_unconfirmed y.traffic.interrupt_taken y.traffic.confirmation_due o b

-- both ways, with a window below the modulus
pub record Epochs_agree (flow : Flow) (v : Two Inner) : Type 0 where
  pub small : flow.window < modulus flow.numbering
  pub forth : Way flow v.me v.you v.out v.back
  pub back : Way flow v.you v.me v.back v.out

-- ---- what the user asks in the call

abbrev pub inner_after : Request → Inner → Inner
inner_after r i = record { traffic = traffic_after r i.traffic; epoch = logged i.traffic r i.epoch }

-- an interrupt is asked for only when none is pending
abbrev pub Askable : Request → Inner → Type 0
Askable (Interrupting octets) i = interrupt_pending i.traffic ≡ false
Askable _ i = Unit {0}
