-- What a frame says, apart from its octets (ISO 7776 4 and 5).
use Rattle.std.specs.Prelude.{ℕ, Bool, List}

-- what an FRMR tells of the frame that it rejects: its control octet, the sender's V(S) and V(R), whether it was a
-- response, and why: W invalid control field, X information not allowed, Y information too long, Z invalid N(R)
pub record Report : Type 0 where
  pub control : ℕ
  pub vs : ℕ
  pub vr : ℕ
  pub response : Bool
  pub w : Bool
  pub x : Bool
  pub y : Bool
  pub z : Bool

-- the kind of a frame with its numbers modulo 8, N(S) and N(R), and its information field
pub data Content : Type 0 where
  I : (ns nr : ℕ) → List ℕ → Content
  Rr : (nr : ℕ) → Content
  Rnr : (nr : ℕ) → Content
  Rej : (nr : ℕ) → Content
  Sabm : Content
  Disc : Content
  Dm : Content
  Ua : Content
  Frmr : Report → Content

-- a frame: its content, whether it is a response, and its poll or final bit
pub record FrameValue : Type 0 where
  pub content : Content
  pub response : Bool
  pub pf : Bool
