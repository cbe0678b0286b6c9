-- What is read is in the grammar, what is in the grammar is read, and a fault is the first that the octets have.
use Rattle.std.proofs.Common.{◌≡◌, ◌≢◌, ℕ, zero, suc, ◌*◌, ◌%◌, ◌<◌, ◌≤◌, ◌⊎◌, inl, inr, Bool, true, false, not, cond, ◌&&◌, ◌==◌, nat_lt, nat_le, List, [], ◌∷◌, length, lit≤, Option, Some, None, Result, Ok, Err, IfOk, refl, ap, sym, subst, ◌∙◌, arith}
use Rattle.std.specs.Prelude.{is_some}
use Rattle.arrayvec.specs.ArrayVec.{ArrayVec}
use borrow.Author.Tests.{eqb-true, ltb-true, ltb-false, lt-ltb, lt-leb, le-leb}
use Rattle.x29_messages.specs.MessageForm.{MessageForm, octets_of, pairs_octets, pair_count}
use Rattle.x29_messages.specs.Reading.{Answer, first_fault, fault_in, pairs_of, with_first, listed, pairs_in, with, invitation, error_in, message_in, message_of}
use Rattle.x29_messages.specs.declared.message.Message.{Message}
use Rattle.x29_messages.specs.declared.message.Message.TheVariants.{ParameterIndication, InvitationToClear, Set, IndicationOfBreak, Read, Error, SetAndRead}
use Rattle.x29_messages.specs.declared.fault.MessageFault.{MessageFault}
use Rattle.x29_messages.specs.declared.fault.MessageFault.TheVariants.{UnknownCode, OddLength}

ne_false : (a b : ℕ) → a ≢ b → (a == b) ≡ false
ne_false a b ne = go (a == b) refl
  where
    go : (t : Bool) → (a == b) ≡ t → (a == b) ≡ false
    go true h = absurd (ne (eqb-true a b h))
    go false h = h

chosen : {A : Type 0} → (b : Bool) (x y z : A) → cond b x y ≡ z → ((b ≡ true) × (x ≡ z)) ⊎ ((b ≡ false) × (y ≡ z))
chosen true x y z h = inl (refl, h)
chosen false x y z h = inr (refl, h)

-- one of the codes, or a greater one
by_code : (P : ℕ → Type 0) (code : ℕ) → P 0 → P 1 → P 2 → P 3 → P 4 → P 5 → P 6 → (6 < code → P code) → P code
by_code P zero a b c d e f g h = a
by_code P (suc zero) a b c d e f g h = b
by_code P (suc (suc zero)) a b c d e f g h = c
by_code P (suc (suc (suc zero))) a b c d e f g h = d
by_code P (suc (suc (suc (suc zero)))) a b c d e f g h = e
by_code P (suc (suc (suc (suc (suc zero))))) a b c d e f g h = f
by_code P (suc (suc (suc (suc (suc (suc zero)))))) a b c d e f g h = g
by_code P (suc (suc (suc (suc (suc (suc (suc n))))))) a b c d e f g h = h (omega arith)

-- ---- pairs

first_some : (pair : ℕ × ℕ) (rest : Option (List (ℕ × ℕ))) (pairs : List (ℕ × ℕ)) → with_first pair rest ≡ Some pairs →
    (ps : List (ℕ × ℕ)) × (rest ≡ Some ps) × (pairs ≡ pair ∷ ps)
first_some pair None pairs h = cc
first_some pair (Some ps) pairs h = (ps, refl, cc)

-- the pairs that octets are spell them
pairs_spell : (octets : List ℕ) (pairs : List (ℕ × ℕ)) → pairs_of octets ≡ Some pairs →
    (octets ≡ pairs_octets pairs) × (length octets ≡ 2 * length pairs)
unfolding pairs_of
pairs_spell [] pairs h =
    let none : [] ≡ pairs = cc in
    let P : List (ℕ × ℕ) → Type 0 = λ ps. ([] ≡ pairs_octets ps) × (0 ≡ 2 * length ps) in
    subst P none (refl, refl)
pairs_spell (o ∷ []) pairs h = cc
pairs_spell (r ∷ v ∷ rest) pairs h =
    let found = first_some (r, v) (pairs_of rest) pairs h in
    let before = pairs_spell rest found.0 found.1 in
    rw found.2 (ap (λ (os : List ℕ). r ∷ v ∷ os) before.0, omega (arith, before.1))

-- what spells pairs is read as them
pairs_again : (pairs : List (ℕ × ℕ)) → (pairs_of (pairs_octets pairs) ≡ Some pairs) × (length (pairs_octets pairs) ≡ 2 * length pairs)
unfolding pairs_of
pairs_again [] = (refl, refl)
pairs_again (p ∷ ps) =
    let before = pairs_again ps in
    (rw before.0 refl, omega (arith, before.1))

first_is : (pair : ℕ × ℕ) (rest : Option (List (ℕ × ℕ))) → is_some (with_first pair rest) ≡ is_some rest
first_is pair None = refl
first_is pair (Some ps) = refl

-- octets are pairs where their number is even
pairs_even : (octets : List ℕ) → is_some (pairs_of octets) ≡ (length octets % 2 == 0)
unfolding pairs_of
pairs_even [] = refl
pairs_even (o ∷ []) = refl
pairs_even (r ∷ v ∷ rest) =
    let same : suc (suc (length rest)) % 2 ≡ length rest % 2 = omega arith in
    first_is (r, v) (pairs_of rest) ∙ pairs_even rest ∙ sym (ap (λ n. n == 0) same)

listed_ok : (o : Option (List (ℕ × ℕ))) (v : ArrayVec (ℕ × ℕ)) → listed o ≡ Ok v → (ps : List (ℕ × ℕ)) × (o ≡ Some ps) × (v ≡ record { items = ps })
listed_ok None v h = cc
listed_ok (Some ps) v h = (ps, refl, cc)

guarded_ok : (b : Bool) (r : Result (ArrayVec (ℕ × ℕ)) MessageFault) (v : ArrayVec (ℕ × ℕ)) →
    cond b (Err OddLength) r ≡ Ok v → (b ≡ false) × (r ≡ Ok v)
guarded_ok true r v h = cc
guarded_ok false r v h = (refl, h)

with_ok : (made : ArrayVec (ℕ × ℕ) → Message) (r : Result (ArrayVec (ℕ × ℕ)) MessageFault) (m : Message) →
    with made r ≡ Ok m → (v : ArrayVec (ℕ × ℕ)) × (r ≡ Ok v) × (m ≡ made v)
with_ok made (Ok v) m h = (v, refl, cc)
with_ok made (Err f) m h = cc

-- a message with pairs
pairs_form : (k : ℕ) (made : ArrayVec (ℕ × ℕ) → Message) (rest : List ℕ) (m : Message) →
    ((v : ArrayVec (ℕ × ℕ)) → octets_of (made v) ≡ k ∷ pairs_octets v.items) →
    ((v : ArrayVec (ℕ × ℕ)) → pair_count (made v) ≡ length v.items) →
    with made (pairs_in rest) ≡ Ok m → MessageForm (k ∷ rest) m
pairs_form k made rest m spelled counted h =
    let found = with_ok made (pairs_in rest) m h in
    let short = guarded_ok (nat_lt 126 (length rest)) (listed (pairs_of rest)) found.0 found.1 in
    let list = listed_ok (pairs_of rest) found.0 short.1 in
    let pairs = pairs_spell rest list.0 list.1 in
    let le : length rest ≤ 126 = ltb-false _ _ short.0 in
    let few : length list.0 ≤ 63 = omega (arith, pairs.1) in
    let there : MessageForm (k ∷ rest) (made (record { items = list.0 })) = record {
      spelled = ap (λ (os : List ℕ). k ∷ os) pairs.0 ∙ sym (spelled (record { items = list.0 }));
      few = rw counted few;
    } in
    rw (found.2, list.2) there

invitation_form : (rest : List ℕ) (m : Message) → invitation rest ≡ Ok m → MessageForm (1 ∷ rest) m
unfolding octets_of
invitation_form [] m h =
    let is : InvitationToClear ≡ m = cc in
    let P : Message → Type 0 = λ x. MessageForm (1 ∷ []) x in
    subst P is (record { spelled = refl; few = lit≤ tt })
invitation_form (o ∷ os) m h = cc

error_form : (rest : List ℕ) (m : Message) → error_in rest ≡ Ok m → MessageForm (5 ∷ rest) m
unfolding octets_of
error_form [] m h = cc
error_form (kind ∷ []) m h =
    let is : Error kind None ≡ m = cc in
    let P : Message → Type 0 = λ x. MessageForm (5 ∷ kind ∷ []) x in
    subst P is (record { spelled = refl; few = lit≤ tt })
error_form (kind ∷ code ∷ []) m h =
    let is : Error kind (Some code) ≡ m = cc in
    let P : Message → Type 0 = λ x. MessageForm (5 ∷ kind ∷ code ∷ []) x in
    subst P is (record { spelled = refl; few = lit≤ tt })
error_form (kind ∷ code ∷ o ∷ os) m h = cc

unknown : (code : ℕ) (rest : List ℕ) → 6 < code → message_in code rest ≡ Err UnknownCode
unknown code rest lt =
    rw (
      ne_false code 0 (omega arith),
      ne_false code 1 (omega arith),
      ne_false code 2 (omega arith),
      ne_false code 3 (omega arith),
      ne_false code 4 (omega arith),
      ne_false code 5 (omega arith),
      ne_false code 6 (omega arith),
    ) refl

-- what is read is in the grammar
pub message_found : (octets : List ℕ) (m : Message) → message_of octets ≡ Ok m → MessageForm octets m
unfolding message_of octets_of
message_found [] m h = cc
message_found (code ∷ rest) m h =
    by_code (λ k. message_in k rest ≡ Ok m → MessageForm (k ∷ rest) m) code
    (pairs_form 0 ParameterIndication rest m (λ v. refl) (λ v. refl))
    (invitation_form rest m)
    (pairs_form 2 Set rest m (λ v. refl) (λ v. refl))
    (pairs_form 3 IndicationOfBreak rest m (λ v. refl) (λ v. refl))
    (pairs_form 4 Read rest m (λ v. refl) (λ v. refl))
    (error_form rest m)
    (pairs_form 6 SetAndRead rest m (λ v. refl) (λ v. refl))
    (λ lt is. let no : Err UnknownCode ≡ Ok m = sym (unknown code rest lt) ∙ is in cc)
    h

again : (made : ArrayVec (ℕ × ℕ) → Message) (v : ArrayVec (ℕ × ℕ)) → length v.items ≤ 63 → with made (pairs_in (pairs_octets v.items)) ≡ Ok (made v)
again made v few =
    let pairs = pairs_again v.items in
    let short : nat_lt 126 (length (pairs_octets v.items)) ≡ false = grind (arith, pairs.1) in
    rw (short, pairs.0) refl

-- what is in the grammar is read
pub message_only : (octets : List ℕ) (m : Message) → MessageForm octets m → message_of octets ≡ Ok m
unfolding message_of octets_of
message_only octets (ParameterIndication v) f = ap message_of f.spelled ∙ again ParameterIndication v f.few
message_only octets InvitationToClear f = ap message_of f.spelled
message_only octets (Set v) f = ap message_of f.spelled ∙ again Set v f.few
message_only octets (IndicationOfBreak v) f = ap message_of f.spelled ∙ again IndicationOfBreak v f.few
message_only octets (Read v) f = ap message_of f.spelled ∙ again Read v f.few
message_only octets (Error kind None) f = ap message_of f.spelled
message_only octets (Error kind (Some code)) f = ap message_of f.spelled
message_only octets (SetAndRead v) f = ap message_of f.spelled ∙ again SetAndRead v f.few

-- ---- the fault is the first

with_fault : (made : ArrayVec (ℕ × ℕ) → Message) (r : Result (ArrayVec (ℕ × ℕ)) MessageFault) → fault_in (with made r) ≡ fault_in r
with_fault made (Ok v) = refl
with_fault made (Err f) = refl

listed_fault : (o : Option (List (ℕ × ℕ))) → fault_in (listed o) ≡ cond (not (is_some o && true)) (Some OddLength) None
listed_fault None = refl
listed_fault (Some ps) = refl

both_fit : (long even fitting : Bool) (o : Option (List (ℕ × ℕ))) → is_some o ≡ even → fitting ≡ not long →
    fault_in (cond long (Err OddLength) (listed o)) ≡ cond (not (even && fitting)) (Some OddLength) None
both_fit true true fitting o e f = rw f refl
both_fit true false fitting o e f = refl
both_fit false even fitting o e f = rw (f, ← e) (listed_fault o)

le_not : (a b : ℕ) → nat_le a b ≡ not (nat_lt b a)
le_not a b = go (nat_lt b a) refl
  where
    go : (t : Bool) → nat_lt b a ≡ t → nat_le a b ≡ not t
    go true h = lt-leb a b (ltb-true b a h)
    go false h = le-leb a b (ltb-false b a h)

pairs_fault : (made : ArrayVec (ℕ × ℕ) → Message) (rest : List ℕ) →
    fault_in (with made (pairs_in rest)) ≡ cond (not ((length rest % 2 == 0) && nat_le (length rest) 126)) (Some OddLength) None
pairs_fault made rest =
    with_fault made (pairs_in rest)
    ∙ both_fit (nat_lt 126 (length rest)) _ _ (pairs_of rest) (pairs_even rest) (le_not (length rest) 126)

nonempty : (n : ℕ) → (suc n == 0) ≡ false
nonempty n = ne_false (suc n) 0 (omega arith)

invitation_fault : (rest : List ℕ) → fault_in (invitation rest) ≡ first_fault (1 ∷ rest)
invitation_fault [] = refl
invitation_fault (o ∷ os) = rw (nonempty (suc (length os)), nonempty (length os)) refl

error_fault : (rest : List ℕ) → fault_in (error_in rest) ≡ first_fault (5 ∷ rest)
error_fault [] = refl
error_fault (kind ∷ []) = refl
error_fault (kind ∷ code ∷ []) = refl
error_fault (kind ∷ code ∷ o ∷ os) =
    rw (
      nonempty (suc (suc (suc (length os)))),
      ne_false (suc (suc (suc (length os)))) 1 (omega arith),
      ne_false (suc (suc (suc (length os)))) 2 (omega arith),
    ) refl

-- the fault is the first that the octets have
pub message_fault : (octets : List ℕ) → fault_in (message_of octets) ≡ first_fault octets
unfolding message_of
message_fault [] = refl
message_fault (code ∷ rest) =
    by_code (λ k. fault_in (message_in k rest) ≡ first_fault (k ∷ rest)) code
    (rw (nonempty (length rest)) (pairs_fault ParameterIndication rest))
    (invitation_fault rest)
    (rw (nonempty (length rest)) (pairs_fault Set rest))
    (rw (nonempty (length rest)) (pairs_fault IndicationOfBreak rest))
    (rw (nonempty (length rest)) (pairs_fault Read rest))
    (error_fault rest)
    (rw (nonempty (length rest)) (pairs_fault SetAndRead rest))
    (λ lt. let above : nat_lt 6 code ≡ true = lt-ltb 6 code lt in rw (unknown code rest lt, nonempty (length rest), above) refl)

-- ---- the same, of a call's result

pub read_found : (octets : List ℕ) (r : Answer) → r ≡ message_of octets → IfOk r (MessageForm octets)
read_found octets (Ok m) h = message_found octets m (sym h)
read_found octets (Err f) h = tt
