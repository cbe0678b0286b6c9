-- A handshake of requests and confirmations over a payload, of which restart, clear and reset are three: its ends with their
-- history, and what they do. A request begins the next number; so does learning of the other end's request.
use Rattle.std.proofs.Common.{◌≡◌, ℕ, suc, ◌<◌, ◌≤◌, Bool, true, false, cond, ◌==◌, List, [], ◌∷◌, ◌++◌, length, drop, slice_get, Option, Some, None}
use Rattle.data_transfer.specs.Packets.{Body}

pub data Kind : Type 0 where
  Payload : Kind
  Request : Kind
  Confirmation : Kind

-- one end: its own request is unconfirmed; the present number; what goes on in it and went on in earlier ones; by number the
-- payload that it put into the pipe and how much came to it
pub record Side (I : Type 0) : Type 0 where
  pub own : Bool
  pub number : ℕ
  pub now : I
  pub past : ℕ → I
  pub put : ℕ → List Body
  pub came : ℕ → ℕ

-- two ends and the pipes between them
pub record Two (I : Type 0) : Type 0 where
  pub me : I
  pub you : I
  pub out : List Body
  pub back : List Body

abbrev pub turned_two : {I : Type 0} → Two I → Two I
turned_two w = record { me = w.you; you = w.me; out = w.back; back = w.out }

-- what an end does: what becomes of it, and what it says
pub record Did (I : Type 0) : Type 0 where
  pub end_ : I
  pub says : Option Body

abbrev pub said : Option Body → List Body → List Body
said None o = o
said (Some b) o = o ++ b ∷ []

abbrev pub does : {I : Type 0} → Two I → Did I → Two I
does w d = record w { me = d.end_; out = said d.says w.out }

abbrev pub at : {I : Type 0} → Side I → ℕ → I
at s k = cond (k == s.number) s.now (s.past k)

-- the two ends in number k, and the payload of it between them
abbrev pub inner : {I : Type 0} → Side I → Side I → ℕ → Two I
inner x y k = record { me = at x k; you = at y k; out = drop (y.came k) (x.put k); back = drop (x.came k) (y.put k) }

abbrev pub started : {I : Type 0} → Bool → I → Side I
started own start = record { own = own; number = 0; now = start; past = λ k. start; put = λ k. []; came = λ k. 0 }

abbrev pub puts : Option Body → ℕ → (ℕ → List Body) → ℕ → List Body
puts says n put k = cond (k == n) (said says (put k)) (put k)

-- something inside
abbrev pub acted : {I : Type 0} → Did I → Side I → Did (Side I)
acted d s = record { end_ = record s { now = d.end_; put = λ k. puts d.says s.number s.put k }; says = d.says }

-- payload came, and something inside
abbrev pub reacted : {I : Type 0} → Did I → Side I → Did (Side I)
reacted d s = record { end_ = record s { now = d.end_; put = λ k. puts d.says s.number s.put k; came = λ k. cond (k == s.number) (suc (s.came k)) (s.came k) }; says = d.says }

-- the next number
abbrev pub advanced : {I : Type 0} → I → Bool → Side I → Side I
advanced start own s = record s { own = own; number = suc s.number; now = start; past = λ k. cond (k == s.number) s.now (s.past k) }

abbrev pub confirmed_side : {I : Type 0} → Side I → Side I
confirmed_side s = record s { own = false }

-- a packet is heard
abbrev pub side_hears : {I : Type 0} → Body → I → (I → Body → Did I) → Kind → Bool → Side I → Body → Did (Side I)
side_hears conf start hear Payload true s t = record { end_ = s; says = None }
side_hears conf start hear Payload false s t = reacted (hear s.now t) s
side_hears conf start hear Request true s t = record { end_ = confirmed_side s; says = None }
side_hears conf start hear Request false s t = record { end_ = advanced start false s; says = Some conf }
side_hears conf start hear Confirmation true s t = record { end_ = confirmed_side s; says = None }
side_hears conf start hear Confirmation false s t = record { end_ = s; says = None }

-- what may be heard
abbrev pub side_ok : {I : Type 0} → (I → Body → Type 0) → Kind → Bool → Side I → Body → Type 0
side_ok ok Payload false s t = ok s.now t
side_ok ok Confirmation false s t = ⊥
side_ok ok kind own s t = Unit {0}

-- ---- the walk of an end through the whole pipe to it: each packet may be heard where it is met, payload is that which the
-- sender put, and the end that comes out meets the sender

abbrev pub Meets : (ℕ → List Body) → ℕ → Bool → ℕ → ℕ → Type 0
Meets put n true m c = (m ≡ suc n) × (c ≡ 0)
Meets put n false m c = (m ≡ n) × (c ≡ length (put n))

abbrev pub Seen : Kind → Bool → ℕ → ℕ → Body → (ℕ → List Body) → (Bool → ℕ → ℕ → Type 0) → Type 0
Seen Payload true m c t put rest = rest true m c
Seen Payload false m c t put rest = (slice_get (put m) c ≡ Some t) × rest false m (suc c)
Seen Request true m c t put rest = rest false m c
Seen Request false m c t put rest = rest false (suc m) 0
Seen Confirmation true m c t put rest = rest false m c
Seen Confirmation false m c t put rest = ⊥

abbrev pub Walk : (Body → Kind) → (ℕ → List Body) → ℕ → Bool → ℕ → ℕ → List Body → Type 0
Walk kind put n own m c [] = Meets put n own m c
Walk kind put n own m c (t ∷ ts) = Seen (kind t) own m c t put (λ o k d. Walk kind put n o k d ts)

-- nothing was done in a later number
abbrev pub Later : (I : Type 0) → I → (ℕ → List Body) → (ℕ → ℕ) → (ℕ → I) → ℕ → Type 0
Later I start put came past k = (put k ≡ []) × (came k ≡ 0) × (past k ≡ start)

pub record Half (kind : Body → Kind) (I : Type 0) (start : I) (x y : Side I) (o : List Body) : Type 0 where
  pub walk : Walk kind x.put x.number y.own y.number (y.came y.number) o
  pub within : (k : ℕ) → y.came k ≤ length (x.put k)
  pub later : (k : ℕ) → x.number < k → Later I start x.put x.came x.past k

pub record Inv (kind : Body → Kind) (I : Type 0) (start : I) (Good : Two I → Type 0) (w : Two (Side I)) : Type 0 where
  pub fore : Half kind I start w.me w.you w.out
  pub aft : Half kind I start w.you w.me w.back
  pub inners : (k : ℕ) → Good (inner w.me w.you k)

abbrev pub AllPayload : (Body → Kind) → List Body → Type 0
AllPayload kind [] = Unit {0}
AllPayload kind (t ∷ ts) = (kind t ≡ Payload) × AllPayload kind ts

abbrev pub SaysPayload : (Body → Kind) → Option Body → Type 0
SaysPayload kind None = Unit {0}
SaysPayload kind (Some b) = kind b ≡ Payload
