-- What the book of a line has to agree with: the two ends as their calls see them, the records with what each stands for, and
-- when all of it is right.
use Rattle.std.specs.Prelude.{◌≡◌, ◌≢◌, ℕ, zero, suc, ◌<◌, ◌≤◌, Bool, true, false, List, [], ◌∷◌, ◌++◌, length, map, slice_get, Option, Some, None}
use Rattle.std.proofs.Common.{refl, sym, subst}
use Rattle.link_timers.specs.declared.role.Role.{Role}
use Rattle.link_timers.specs.declared.role.Role.TheVariants.{Dte, Dce}
use Rattle.link_timers.specs.Role.{other_of}
use Rattle.epochs.specs.Item.{DataPacket}
use Rattle.epochs.specs.Epoch.{SentEpoch, TakenEpoch}
use Rattle.data_transfer.specs.Packets.{CallParts}
use Rattle.packet_laws.specs.History.{Epoch, History}
use Rattle.std.specs.Option.{IsSome}
use Rattle.call_records.specs.Records.{RecordValue, PairValue}
use Rattle.call_records.specs.Book.{Book, Slot, slot_at, side_of, address_of, packet_of}

-- ---- an end

-- what a channel has of a call: none, an own one that is not answered, one that came in, one in data transfer
pub data CallStatus : Type 0 where
  Idle : CallStatus
  OwnCall : CallStatus
  FarCall : CallStatus
  Open : CallStatus

-- one use of a channel
pub record ChannelUse : Type 0 where
  pub session : ℕ
  pub channel : ℕ
  pub restart : ℕ
  pub use_ : ℕ

-- which uses may have a call, since something of the session came in, is a part of it
pub record EndView : Type 0 where
  pub session : Option ℕ
  pub top : ℕ
  pub begun : ChannelUse → Bool
  pub status : ℕ → CallStatus
  pub histories : ℕ → ℕ → History

abbrev pub epoch_at : EndView → ChannelUse → ℕ → Epoch
epoch_at f k g = (f.histories k.session k.channel).epochs k.restart k.use_ g

abbrev pub called_at : EndView → ChannelUse → Option CallParts
called_at f k = (epoch_at f k 0).called

abbrev pub answered_at : EndView → ChannelUse → Bool
answered_at f k = (epoch_at f k 0).answered

abbrev pub channel_use_in : (s c : ℕ) → History → ChannelUse
channel_use_in s c st = record { session = s; channel = c; restart = st.restart; use_ = st.use_ }

-- the present use
abbrev pub now : EndView → (s c : ℕ) → ChannelUse
now f s c = channel_use_in s c (f.histories s c)

-- what passes in an epoch, and how many of the packets are covered or released
pub record Passed : Type 0 where
  pub packets : List DataPacket
  pub interrupts : List (List ℕ)
  pub count : ℕ

abbrev pub nothing_passed : Passed
nothing_passed = record { packets = []; interrupts = []; count = 0 }

abbrev pub sent_of : Epoch → Passed
sent_of e = record { packets = map packet_of e.sent; interrupts = e.interrupts_sent; count = e.covered }

abbrev pub taken_of : Epoch → Passed
taken_of e = record { packets = map packet_of e.taken; interrupts = e.interrupts_taken; count = e.released }

abbrev pub passed_sent : SentEpoch → Passed
passed_sent e = record { packets = e.packets; interrupts = e.interrupts; count = e.covered }

abbrev pub passed_taken : TakenEpoch → Passed
passed_taken e = record { packets = e.packets; interrupts = e.interrupts; count = e.released }

-- what a record has of an epoch is what passed in it, and as much of it is covered or released
pub record HasSent (own passed : Passed) : Type 0 where
  pub packets : own.packets ≡ passed.packets
  pub interrupts : own.interrupts ≡ passed.interrupts
  pub count : own.count ≡ passed.count

pub record HasTaken (own passed : Passed) : Type 0 where
  pub packets : own.packets ≡ passed.packets
  pub interrupts : own.interrupts ≡ passed.interrupts
  pub count : own.count ≡ passed.count

pub sent_as : (own a b : Passed) → b ≡ a → HasSent own a → HasSent own b
sent_as own a b e h = subst (λ (p : Passed). HasSent own p) (sym e) h

pub taken_as : (own a b : Passed) → b ≡ a → HasTaken own a → HasTaken own b
taken_as own a b e h = subst (λ (p : Passed). HasTaken own p) (sym e) h

pub own_sent : (own mine passed : Passed) → mine ≡ own → HasSent own passed → HasSent mine passed
own_sent own mine passed e h = subst (λ (p : Passed). HasSent p passed) (sym e) h

pub own_taken : (own mine passed : Passed) → mine ≡ own → HasTaken own passed → HasTaken mine passed
own_taken own mine passed e h = subst (λ (p : Passed). HasTaken p passed) (sym e) h

pub nothing_sent_yet : HasSent nothing_passed nothing_passed
nothing_sent_yet = record { packets = refl; interrupts = refl; count = refl }

pub nothing_taken_yet : HasTaken nothing_passed nothing_passed
nothing_taken_yet = record { packets = refl; interrupts = refl; count = refl }

-- ---- records

-- what a record stands for: an end's call, one that came to it (with the number of the caller's record), an own one that a collision
-- cancelled
pub data Kind : Type 0 where
  Caller : Kind
  Callee : (caller : ℕ) → Kind
  Cancelled : Kind

pub record Tag : Type 0 where
  pub role : Role
  pub channel_use : ChannelUse
  pub kind : Kind
  pub own : Option (List ℕ)
  pub far : Option (List ℕ)

-- the record of the end that placed the call, where it came in
abbrev pub placed_of : Kind → Option ℕ
placed_of Caller = None
placed_of (Callee caller) = Some caller
placed_of Cancelled = None

abbrev pub came_from : Tag → Option ℕ
came_from t = placed_of t.kind

abbrev pub IsLive : Kind → Type 0
IsLive kind = kind ≢ Cancelled

-- the book, by its parts
pub record BookParts : Type 0 where
  pub records : List RecordValue
  pub pairs : List PairValue
  pub slots : Role → ℕ → Slot
  pub nodes : Role → ℕ

abbrev pub book_parts : Book → BookParts
book_parts b = record { records = b.records; pairs = b.pairs; slots = λ role c. slot_at role c b; nodes = λ role. (side_of role b).node }

-- the epochs of a list by number; one that is not there is empty
abbrev pub nth_sent : List SentEpoch → ℕ → Passed
nth_sent [] g = nothing_passed
nth_sent (e ∷ es) zero = passed_sent e
nth_sent (e ∷ es) (suc g) = nth_sent es g

abbrev pub nth_taken : List TakenEpoch → ℕ → Passed
nth_taken [] g = nothing_passed
nth_taken (e ∷ es) zero = passed_taken e
nth_taken (e ∷ es) (suc g) = nth_taken es g

abbrev pub all_sent : RecordValue → List SentEpoch
all_sent r = r.sent_before ++ r.sent ∷ []

abbrev pub all_taken : RecordValue → List TakenEpoch
all_taken r = r.taken_before ++ r.taken ∷ []

-- ---- what is right of a record and its tag

-- a use is not later than where the history stands
pub record IsPast (k : ChannelUse) (st : History) : Type 0 where
  pub restarts : k.restart ≤ st.restart
  pub uses : k.restart ≡ st.restart → k.use_ ≤ st.use_

pub record Stands (f : EndView) (slots : ℕ → Slot) (n : ℕ) (t : Tag) : Type 0 where
  pub begun : f.begun t.channel_use ≡ true
  pub top : t.channel_use.session ≤ f.top
  pub past : f.session ≡ Some t.channel_use.session → IsPast t.channel_use (f.histories t.channel_use.session t.channel_use.channel)
  pub present : f.session ≡ Some t.channel_use.session → t.channel_use ≡ now f t.channel_use.session t.channel_use.channel → IsLive t.kind → (slots t.channel_use.channel).present ≡ Some n

-- in each epoch no more was released than taken, and no more covered than sent
abbrev pub IsWithin : History → Type 0
IsWithin st = (r u g : ℕ) → ((st.epochs r u g).released ≤ length (st.epochs r u g).taken) × ((st.epochs r u g).covered ≤ length (st.epochs r u g).sent)

abbrev pub IsPaired : (PairValue → ℕ) → List PairValue → ℕ → Type 0
IsPaired side pairs n = (i : ℕ) × (p : PairValue) × (slice_get pairs i ≡ Some p) × (side p ≡ n)

abbrev pub caller_of : PairValue → ℕ
caller_of p = p.caller

abbrev pub callee_of : PairValue → ℕ
callee_of p = p.callee

pub record IsCaller (f y : EndView) (pairs : List PairValue) (n : ℕ) (t : Tag) : Type 0 where
  pub called : IsSome (called_at f t.channel_use)
  pub not_answered : answered_at f t.channel_use ≡ false
  pub paired : answered_at y t.channel_use ≡ true → IsPaired caller_of pairs n

pub record IsCallee (f : EndView) (pairs : List PairValue) (tags : List Tag) (n a : ℕ) (t : Tag) : Type 0 where
  pub order : a < n
  pub mate : Tag
  pub there : slice_get tags a ≡ Some mate
  pub calls : mate.kind ≡ Caller
  pub role : mate.role ≡ other_of t.role
  pub channel_use : mate.channel_use ≡ t.channel_use
  pub address : mate.far ≡ t.own
  pub far : mate.own ≡ t.far
  pub free : t.role ≡ Dte → called_at f t.channel_use ≡ None
  pub paired : answered_at f t.channel_use ≡ true → IsPaired callee_of pairs n

pub record IsCancelled (y : EndView) (t : Tag) : Type 0 where
  pub role : t.role ≡ Dce
  pub met : IsSome (called_at y t.channel_use)

pub record Means (f y : EndView) (pairs : List PairValue) (tags : List Tag) (n : ℕ) (t : Tag) : Type 0 where
  pub caller : t.kind ≡ Caller → IsCaller f y pairs n t
  pub callee : (a : ℕ) → t.kind ≡ Callee a → IsCallee f pairs tags n a t
  pub cancelled : t.kind ≡ Cancelled → IsCancelled y t

-- what a record has is what its end did in the use
pub record Tells (f : EndView) (k : ChannelUse) (r : RecordValue) : Type 0 where
  pub sent : (g : ℕ) → HasSent (nth_sent (all_sent r) g) (sent_of (epoch_at f k g))
  pub taken : (g : ℕ) → HasTaken (nth_taken (all_taken r) g) (taken_of (epoch_at f k g))

-- one epoch each, and of each reset a further one
pub record HasEpochs (r : RecordValue) (count : ℕ) : Type 0 where
  pub sent : length r.sent_before ≡ count
  pub taken : length r.taken_before ≡ count

-- nothing passed in any of its epochs
pub record HasNothing (r : RecordValue) : Type 0 where
  pub sent : (g : ℕ) → HasSent (nth_sent (all_sent r) g) nothing_passed
  pub taken : (g : ℕ) → HasTaken (nth_taken (all_taken r) g) nothing_passed

pub record Fits (f : EndView) (node n : ℕ) (t : Tag) (r : RecordValue) : Type 0 where
  pub number : r.number ≡ n
  pub node_is : r.node ≡ node
  pub own : r.own ≡ t.own
  pub far : r.far ≡ t.far
  pub caller : r.caller ≡ came_from t
  pub tells : IsLive t.kind → Tells f t.channel_use r
  pub none : t.kind ≡ Cancelled → HasNothing r
  pub epochs : f.session ≡ Some t.channel_use.session → t.channel_use ≡ now f t.channel_use.session t.channel_use.channel → IsLive t.kind
      → HasEpochs r (f.histories t.channel_use.session t.channel_use.channel).epoch

-- ---- what is right of a channel

pub record Present (f : EndView) (tags : List Tag) (x : Role) (c : ℕ) (slot : Slot) : Type 0 where
  pub session : ℕ
  pub number : ℕ
  pub tag : Tag
  pub up : f.session ≡ Some session
  pub is_present : slot.present ≡ Some number
  pub there : slice_get tags number ≡ Some tag
  pub role : tag.role ≡ x
  pub channel_use : tag.channel_use ≡ now f session c
  pub live : IsLive tag.kind

-- a call that came in was accepted
abbrev pub IsAnswered : EndView → (caller : Option ℕ) → Tag → Type 0
IsAnswered f caller t = (a : ℕ) → caller ≡ Some a → (t.kind ≡ Callee a) × (answered_at f t.channel_use ≡ true)

abbrev pub SlotIs : CallStatus → EndView → List Tag → Role → ℕ → Slot → Type 0
SlotIs Idle f tags x c slot = slot.present ≡ None
SlotIs OwnCall f tags x c slot = (p : Present f tags x c slot) × (p.tag.kind ≡ Caller) × (slot.caller ≡ None)
SlotIs FarCall f tags x c slot = (p : Present f tags x c slot) × (a : ℕ) × (p.tag.kind ≡ Callee a) × (slot.caller ≡ Some a)
SlotIs Open f tags x c slot = (p : Present f tags x c slot) × IsAnswered f slot.caller p.tag × (slot.caller ≡ None → p.tag.kind ≡ Caller)

-- a use is not later than another one of the channel
pub record UpTo (k last : ChannelUse) : Type 0 where
  pub sessions : k.session ≤ last.session
  pub restarts : k.session ≡ last.session → k.restart ≤ last.restart
  pub uses : k.session ≡ last.session → k.restart ≡ last.restart → k.use_ ≤ last.use_

-- the record of this number is that of the call that the end placed last on the channel
pub record IsPlaced (f : EndView) (tags : List Tag) (x : Role) (c number : ℕ) : Type 0 where
  pub tag : Tag
  pub parts : CallParts
  pub there : slice_get tags number ≡ Some tag
  pub role : tag.role ≡ x
  pub channel : tag.channel_use.channel ≡ c
  pub session : tag.channel_use.session ≤ f.top
  pub called : called_at f tag.channel_use ≡ Some parts
  pub own : tag.own ≡ address_of parts.calling
  pub far : tag.far ≡ address_of parts.called
  pub placed : (a : ℕ) → tag.kind ≢ Callee a
  pub last : (k : ChannelUse) → k.channel ≡ c → IsSome (called_at f k) → UpTo k tag.channel_use

abbrev pub PlacedIs : Option ℕ → EndView → List Tag → Role → ℕ → Type 0
PlacedIs None f tags x c = (k : ChannelUse) → k.channel ≡ c → called_at f k ≡ None
PlacedIs (Some number) f tags x c = IsPlaced f tags x c number

-- ---- what is open

-- the record of this number is that of the present call of some channel
abbrev pub IsSomewhere : (slots : Role → ℕ → Slot) → ℕ → Type 0
IsSomewhere slots n = (x : Role) × (c : ℕ) × ((slots x c).present ≡ Some n)

-- each open record is present on some channel, each that is present is open, and none is present on two channels
pub record AreOpen (slots : Role → ℕ → Slot) (records : List RecordValue) : Type 0 where
  pub somewhere : (n : ℕ) (r : RecordValue) → slice_get records n ≡ Some r → r.closed ≡ false → IsSomewhere slots n
  pub is_open : (x : Role) (c n : ℕ) (r : RecordValue) → (slots x c).present ≡ Some n → slice_get records n ≡ Some r → r.closed ≡ false
  pub one_place : (x y : Role) (c d n : ℕ) → (slots x c).present ≡ Some n → (slots y d).present ≡ Some n → (x ≡ y) × (c ≡ d)

-- ---- all together

pub record IsPair (views : Role → EndView) (tags : List Tag) (p : PairValue) : Type 0 where
  pub tag : Tag
  pub there : slice_get tags p.callee ≡ Some tag
  pub kind : tag.kind ≡ Callee p.caller
  pub answered : answered_at (views tag.role) tag.channel_use ≡ true

-- this end accepted a call in a use, and this is the record of the call that came in then
pub record CameIn (tags : List Tag) (x : Role) (k : ChannelUse) : Type 0 where
  pub number : ℕ
  pub caller : ℕ
  pub tag : Tag
  pub there : slice_get tags number ≡ Some tag
  pub role : tag.role ≡ x
  pub channel_use : tag.channel_use ≡ k
  pub kind : tag.kind ≡ Callee caller

pub record IsRight (views : Role → EndView) (b : BookParts) (tags : List Tag) : Type 0 where
  pub stands : (n : ℕ) (t : Tag) → slice_get tags n ≡ Some t → Stands (views t.role) (b.slots t.role) n t
  pub means : (n : ℕ) (t : Tag) → slice_get tags n ≡ Some t → Means (views t.role) (views (other_of t.role)) b.pairs tags n t
  pub fits : (n : ℕ) (t : Tag) (r : RecordValue) → slice_get tags n ≡ Some t → slice_get b.records n ≡ Some r → Fits (views t.role) (b.nodes t.role) n t r
  pub slot : (x : Role) (c : ℕ) → SlotIs ((views x).status c) (views x) tags x c (b.slots x c)
  pub placed : (x : Role) (c : ℕ) → PlacedIs (b.slots x c).placed (views x) tags x c
  pub tops : (x : Role) (s : ℕ) → (views x).session ≡ Some s → s ≡ (views x).top
  pub alone : (i j : ℕ) (t u : Tag) → slice_get tags i ≡ Some t → slice_get tags j ≡ Some u → IsLive t.kind → IsLive u.kind → t.role ≡ u.role → t.channel_use ≡ u.channel_use → i ≡ j
  pub pairs : (i : ℕ) (p : PairValue) → slice_get b.pairs i ≡ Some p → IsPair views tags p
  pub accepted : (x : Role) (k : ChannelUse) → answered_at (views x) k ≡ true → CameIn tags x k
  pub once : (i j : ℕ) (p q : PairValue) → slice_get b.pairs i ≡ Some p → slice_get b.pairs j ≡ Some q → p.callee ≡ q.callee → i ≡ j
  pub count : length tags ≡ length b.records
  pub opened : AreOpen b.slots b.records
