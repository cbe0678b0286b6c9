-- A facility field is read facility by facility.
use Rattle.std.proofs.Common.{◌≡◌, ◌<◌, ℕ, Bool, true, false, cond, eqb, List, [], ◌∷◌, length, min, Result, Ok, Err, refl, sym, ap, ◌∙◌, arith}
use Rattle.xot_codec.specs.declared.facilities.Asked.{Asked}
use Rattle.xot_codec.specs.declared.facilities.FacilityFault.{FacilityFault}
use Rattle.xot_codec.specs.declared.facilities.FacilityFault.TheVariants.{NotCarried}
use Rattle.xot_codec.specs.Facilities.{is_dropped, with_smaller, asked_in, asked_then}

when_true : (b : Bool) (x y : Result Asked FacilityFault) → b ≡ true → x ≡ cond b x y
when_true true x y is = refl
when_true false x y is = absurd (cc)

when_false : (b : Bool) (x y : Result Asked FacilityFault) → b ≡ false → y ≡ cond b x y
when_false true x y is = absurd (cc)
when_false false x y is = refl

dropped_first : (asked : Asked) (code value : ℕ) (rest : List ℕ) → is_dropped code value ≡ true
    → asked_in asked rest ≡ asked_in asked (code ∷ value ∷ rest)
dropped_first asked code value [] is = when_true (is_dropped code value) _ _ is
dropped_first asked code value (other ∷ rest) is = when_true (is_dropped code value) _ _ is

-- a facility that is dropped asks for nothing
pub dropped : (asked : Asked) (code value : ℕ) (octets rest : List ℕ) → octets ≡ code ∷ value ∷ rest
    → is_dropped code value ≡ true → asked_in asked rest ≡ asked_in asked octets
dropped asked code value octets rest same is = dropped_first asked code value rest is ∙ sym (ap (asked_in asked) same)

-- a code alone is torn
pub torn : (asked : Asked) (octets : List ℕ) → 0 < length octets → length octets < 2
    → Err NotCarried ≡ asked_in asked octets
torn asked [] some short = absurd (omega arith)
torn asked (code ∷ []) some short = refl
torn asked (code ∷ value ∷ rest) some short = absurd (omega arith)

-- a facility of two values with one of them is torn
pub without_other : (asked : Asked) (code one : ℕ) (octets : List ℕ) → octets ≡ [] → is_dropped code one ≡ false
    → Err NotCarried ≡ asked_in asked (code ∷ one ∷ octets)
without_other asked code one octets none is =
    when_false (is_dropped code one) (Ok asked) (Err NotCarried) is ∙ sym (ap (λ rest. asked_in asked (code ∷ one ∷ rest)) none)

chosen : (asked : Asked) (size window : Bool) (smaller : ℕ) (rest : List ℕ)
    → asked_then (cond size (Ok (record asked { size = smaller })) (cond window (Ok (record asked { window = smaller })) (Err NotCarried))) rest
    ≡ cond size (asked_in (record asked { size = smaller }) rest) (cond window (asked_in (record asked { window = smaller }) rest) (Err NotCarried))
chosen asked true window smaller rest = refl
chosen asked false true smaller rest = refl
chosen asked false false smaller rest = refl

with_other : (asked : Asked) (code one other : ℕ) (octets rest : List ℕ) → octets ≡ other ∷ rest → is_dropped code one ≡ false
    → asked_then (with_smaller asked code (min one other)) rest ≡ asked_in asked (code ∷ one ∷ octets)
with_other asked code one other octets rest same is =
    chosen asked (eqb code 0x42) (eqb code 0x43) (min one other) rest
    ∙ when_false (is_dropped code one) (asked_in asked (other ∷ rest)) _ is
    ∙ sym (ap (λ rest'. asked_in asked (code ∷ one ∷ rest')) same)

pub with_other_is : (asked : Asked) (code one other smaller : ℕ) (octets rest : List ℕ) (so_far answer : Result Asked FacilityFault)
    → octets ≡ other ∷ rest → is_dropped code one ≡ false → smaller ≡ min one other → so_far ≡ with_smaller asked code smaller
    → answer ≡ asked_then so_far rest → answer ≡ asked_in asked (code ∷ one ∷ octets)
with_other_is asked code one other smaller octets rest so_far answer same is least then_asked answered =
    answered ∙ ap (λ r. asked_then r rest) (then_asked ∙ ap (with_smaller asked code) least)
    ∙ with_other asked code one other octets rest same is
