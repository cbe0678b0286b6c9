-- One end over one connection: what it hands over before the line is open.
use Rattle.std.specs.Prelude.{◌≡◌, ◌≢◌, ℕ, true, false, List, [], ◌∷◌, ◌++◌, take, drop, if◌then◌else◌}
use Rattle.line_carriers.specs.declared.sign.Sign.{Sign}
use Rattle.line_carriers.specs.declared.sign.Sign.TheVariants.{Open}
use Rattle.line_carriers.specs.declared.carrier.Carrier.{Carrier}
use Rattle.line_carriers.specs.Wire.{frame_form, sign_form}
use Rattle.line_carriers.specs.Hello.{hello_form}
use Rattle.line_carriers.specs.Carrier.{connected, stands, is_open, takes_frame, with_octets, after_start, after_next, after_ticks}

-- an end, and the octets that it handed over since the connection stands
pub record Handed : Type 0 where
  pub carrier : Carrier
  pub handed : List ℕ

abbrev pub begun : Carrier → Handed
begun c = record { carrier = connected c; handed = [] }

-- what is done at an end: a frame is added, what comes next is read, octets are written or come, it starts, ticks pass
pub data Act : Type 0 where
  adds : (frame : List ℕ) → Act
  reads : Act
  writes : (count : ℕ) → Act
  comes : (octets : List ℕ) → Act
  starts : Act
  passes : (ticks : ℕ) → Act

abbrev pub after_act : Carrier → Act → Carrier
after_act c (adds frame) = if takes_frame c frame then record c { output = c.output ++ frame_form frame } else c
after_act c reads = (after_next c []).carrier
after_act c (writes count) = record c { output = drop count c.output }
after_act c (comes octets) = with_octets c octets
after_act c starts = (after_start c).carrier
after_act c (passes ticks) = (after_ticks c ticks).carrier

abbrev pub handed_by : Carrier → Act → List ℕ
handed_by c (writes count) = take count c.output
handed_by c _ = []

abbrev pub after_acts : Handed → List Act → Handed
after_acts e [] = e
after_acts e (act ∷ acts) =
    after_acts (record { carrier = after_act e.carrier act; handed = e.handed ++ handed_by e.carrier act }) acts

abbrev pub signs_form : List Sign → List ℕ
signs_form [] = []
signs_form (it ∷ signs) = sign_form it ++ signs_form signs

abbrev pub HasNoOpen : List Sign → Type 0
HasNoOpen [] = Unit {0}
HasNoOpen (it ∷ signs) = (it ≢ Open) × HasNoOpen signs

-- what was handed over and what waits are the hello and signs, and an end that has not started did not say that it opens
pub record IsQuiet (c : Carrier) (e : Handed) : Type 0 where
  pub signs : List Sign
  pub octets : e.handed ++ e.carrier.output ≡ hello_form c.hello ++ signs_form signs
  pub not_open : e.carrier.started ≡ false → HasNoOpen signs

-- so it is as long as the connection stands and the line is not open: no frame is on the way from this end
abbrev pub OpenLaw : Type 0
OpenLaw = (c : Carrier) (acts : List Act) → stands (after_acts (begun c) acts).carrier ≡ true
    → is_open (after_acts (begun c) acts).carrier ≡ false → IsQuiet c (after_acts (begun c) acts)
