-- Both ends of a line over one connection, while one of them has not started.
use Rattle.std.specs.Prelude.{◌≡◌, ℕ, false, true, List, [], ◌∷◌, ◌++◌, take, drop}
use Rattle.line_carriers.specs.declared.sign.Sign.{Sign}
use Rattle.line_carriers.specs.declared.carrier.Carrier.{Carrier}
use Rattle.line_carriers.specs.declared.carrier.Connection.{Connection}
use Rattle.line_carriers.specs.declared.carrier.Connection.TheVariants.{Greeting}
use Rattle.line_carriers.specs.declared.hello.Hello.{Hello}
use Rattle.line_carriers.specs.Hello.{hello_form}
use Rattle.line_carriers.specs.Carrier.{connected, stands, is_open, with_octets}
use Rattle.line_carriers.specs.Opening.{Act, comes, after_act, handed_by, signs_form}
use Rattle.line_carriers.specs.Laws.{IsHello}

-- the two ends, and the octets on the wire between them
pub record Pair : Type 0 where
  pub starter : Carrier
  pub partner : Carrier
  pub out : List ℕ
  pub back : List ℕ

-- a new connection stands at both
abbrev pub met : Carrier → Carrier → Pair
met starter partner = record { starter = connected starter; partner = connected partner; out = []; back = [] }

-- octets come from the wire alone
abbrev pub after_own : Carrier → Act → Carrier
after_own c (comes octets) = c
after_own c act = after_act c act

-- something is done at one end, or octets come over the wire
pub data Deed : Type 0 where
  at_starter : Act → Deed
  at_partner : Act → Deed
  brings_out : (count : ℕ) → Deed
  brings_back : (count : ℕ) → Deed

abbrev pub after_deed : Pair → Deed → Pair
after_deed p (at_starter act) = record p { starter = after_own p.starter act; out = p.out ++ handed_by p.starter act }
after_deed p (at_partner act) = record p { partner = after_own p.partner act; back = p.back ++ handed_by p.partner act }
after_deed p (brings_out count) =
    record p { out = drop count p.out; partner = with_octets p.partner (take count p.out) }
after_deed p (brings_back count) =
    record p { back = drop count p.back; starter = with_octets p.starter (take count p.back) }

abbrev pub after_deeds : Pair → List Deed → Pair
after_deeds p [] = p
after_deeds p (deed ∷ deeds) = after_deeds (after_deed p deed) deeds

-- what an end has not read of the other end's hello
abbrev pub unread : Connection → Hello → List ℕ
unread Greeting hello = hello_form hello
unread _ hello = []

-- signs alone are on the way between the two, besides hellos, and the partner is not open
pub record IsCutOff (a b : Hello) (p : Pair) : Type 0 where
  pub out_signs : List Sign
  pub out : p.partner.input ++ (p.out ++ p.starter.output) ≡ unread p.partner.connection a ++ signs_form out_signs
  pub back_signs : List Sign
  pub back : p.starter.input ++ (p.back ++ p.partner.output) ≡ unread p.starter.connection b ++ signs_form back_signs
  pub closed : is_open p.partner ≡ false

-- so it is as long as the connection stands at both and the one end has not started
abbrev pub CutOffLaw : Type 0
CutOffLaw = (a b : Carrier) (deeds : List Deed) → IsHello a.hello → IsHello b.hello
    → (after_deeds (met a b) deeds).starter.started ≡ false
    → stands (after_deeds (met a b) deeds).starter ≡ true → stands (after_deeds (met a b) deeds).partner ≡ true
    → IsCutOff a.hello b.hello (after_deeds (met a b) deeds)
