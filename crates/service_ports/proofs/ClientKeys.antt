-- What a client types is read as it was typed.
use Rattle.std.proofs.Common.{◌≡◌, ◌≢◌, ℕ, ◌<◌, Bool, true, false, List, [], ◌∷◌, ◌++◌, ◌&&◌, eqb, refl, sym, ap, ◌∙◌, arith, inl, inr, cond, subst, ◌⊎◌, ltb}
use Rattle.std.proofs.lemmas.Bool.{cases_eq}
use Rattle.std.proofs.lemmas.Bool.Decides.{nat_tests}
use Rattle.service_ports.specs.declared.command.TelnetCommand.{TelnetCommand}
use Rattle.service_ports.specs.declared.options.OptionSet.{OptionSet}
use Rattle.service_ports.specs.declared.input.TelnetReader.{TelnetReader}
use Rattle.service_ports.specs.declared.input.Place.TheVariants.{Text}
use Rattle.service_ports.specs.declared.input.Request.{Request}
use Rattle.service_ports.specs.declared.input.Request.TheVariants as request
use Rattle.service_ports.specs.declared.input.Key.{Key}
use Rattle.service_ports.specs.declared.input.Key.TheVariants.{Octet, Break}
use Rattle.service_ports.specs.declared.input.Heard.TheVariants.{Nothing, Answered}
use Rattle.service_ports.specs.Commands.{is_offered}
use Rattle.service_ports.specs.Options.{no_options, has_option}
use Rattle.service_ports.specs.Reading.{Reading, reads, reads_request, refuses_own, answers_offer, at_place, key_in, keys_read}
use Rattle.service_ports.specs.ClientForm.{Act, types, types_return, presses_break, asks, skips, act_form, acts_form, is_act, are_acts, act_keys, acts_keys, KeysAreRead}

-- a reader between two acts
abbrev pub in_text : (own others : OptionSet) → TelnetReader
in_text own others = record { place = Text; own = own; others = others }

-- a reading after which these keys were read and the reader is in text again
pub record Gives (octets : List ℕ) (reader : TelnetReader) (keys : List Key) : Type 0 where
  pub own : OptionSet
  pub others : OptionSet
  pub same : (rest : List ℕ) → keys_read reader (octets ++ rest) ≡ keys ++ keys_read (in_text own others) rest

-- a reading in which nothing is typed
pub record IsQuiet (reading : Reading) : Type 0 where
  pub own : OptionSet
  pub others : OptionSet
  pub same : (rest : List ℕ) → key_in reading.heard ++ keys_read reading.reader rest ≡ keys_read (in_text own others) rest

either : (b : Bool) (p q : Reading) → IsQuiet p → IsQuiet q → IsQuiet (cond b p q)
either true p q one two = one
either false p q one two = two

no_key : (b : Bool) (command : TelnetCommand) → key_in (cond b Nothing (Answered command)) ≡ []
no_key true command = refl
no_key false command = refl

own_is_quiet : (own others : OptionSet) (option : ℕ) → IsQuiet (refuses_own (in_text own others) option)
own_is_quiet own others option =
    let reading = refuses_own (in_text own others) option in
    record {
      own = reading.reader.own;
      others = others;
      same = λ rest. ap (λ keys. keys ++ keys_read reading.reader rest) (no_key (has_option own option) _);
    }

offer_is_quiet : (own others : OptionSet) (option : ℕ) → IsQuiet (answers_offer (in_text own others) option)
offer_is_quiet own others option =
    let reading = answers_offer (in_text own others) option in
    record {
      own = own;
      others = reading.reader.others;
      same = λ rest. ap (λ keys. keys ++ keys_read reading.reader rest) (no_key (has_option others option) _);
    }

skip_is_quiet : (own others : OptionSet) → IsQuiet (at_place Text (in_text own others) Nothing)
skip_is_quiet own others = record { own = own; others = others; same = λ rest. refl }

request_is_quiet : (what : Request) (own others : OptionSet) (option : ℕ) → IsQuiet (reads_request what (in_text own others) option)
request_is_quiet request.Will own others option = offer_is_quiet own others option
request_is_quiet request.Wont own others option = skip_is_quiet own others
request_is_quiet request.Do own others option =
    either (is_offered option) _ _ (skip_is_quiet own others) (own_is_quiet own others option)
request_is_quiet request.Dont own others option =
    either (is_offered option) _ _ (own_is_quiet own others option) (skip_is_quiet own others)

typed : (octet : ℕ) (own others : OptionSet) → octet ≢ 13 → Gives (act_form (types octet)) (in_text own others) (Octet octet ∷ [])
unfolding reads
typed octet own others no_return = elim (cases_eq octet 255) [
  | inl e ↦ subst (λ x. Gives (act_form (types x)) (in_text own others) (Octet x ∷ [])) (sym e) (record { own = own; others = others; same = λ rest. refl })
  | inr other ↦
      let plain : eqb octet 255 ≡ false = grind (arith, nat_tests) in
      let ends_no_line : eqb octet 13 ≡ false = grind (arith, nat_tests) in
      record { own = own; others = others; same = λ rest. simp (plain, ends_no_line) }
]

returned : (end : ℕ) (own others : OptionSet) → (end ≡ 0) ⊎ (end ≡ 10) → Gives (act_form (types_return end)) (in_text own others) (Octet 13 ∷ [])
unfolding reads
returned end own others is = elim is [
  | inl e ↦ subst (λ x. Gives (act_form (types_return x)) (in_text own others) (Octet 13 ∷ [])) (sym e) (record { own = own; others = others; same = λ rest. refl })
  | inr e ↦ subst (λ x. Gives (act_form (types_return x)) (in_text own others) (Octet 13 ∷ [])) (sym e) (record { own = own; others = others; same = λ rest. refl })
]

pressed : (code : ℕ) (own others : OptionSet) → (code ≡ 243) ⊎ (code ≡ 244) → Gives (act_form (presses_break code)) (in_text own others) (Break ∷ [])
unfolding reads
pressed code own others is = elim is [
  | inl e ↦ subst (λ x. Gives (act_form (presses_break x)) (in_text own others) (Break ∷ [])) (sym e) (record { own = own; others = others; same = λ rest. refl })
  | inr e ↦ subst (λ x. Gives (act_form (presses_break x)) (in_text own others) (Break ∷ [])) (sym e) (record { own = own; others = others; same = λ rest. refl })
]

asked_will : (option : ℕ) (own others : OptionSet) → Gives (act_form (asks 251 option)) (in_text own others) []
unfolding reads
asked_will option own others = let quiet = request_is_quiet request.Will own others option in record { own = quiet.own; others = quiet.others; same = λ rest. quiet.same rest }

asked_wont : (option : ℕ) (own others : OptionSet) → Gives (act_form (asks 252 option)) (in_text own others) []
unfolding reads
asked_wont option own others = let quiet = request_is_quiet request.Wont own others option in record { own = quiet.own; others = quiet.others; same = λ rest. quiet.same rest }

asked_do : (option : ℕ) (own others : OptionSet) → Gives (act_form (asks 253 option)) (in_text own others) []
unfolding reads
asked_do option own others = let quiet = request_is_quiet request.Do own others option in record { own = quiet.own; others = quiet.others; same = λ rest. quiet.same rest }

asked_dont : (option : ℕ) (own others : OptionSet) → Gives (act_form (asks 254 option)) (in_text own others) []
unfolding reads
asked_dont option own others = let quiet = request_is_quiet request.Dont own others option in record { own = quiet.own; others = quiet.others; same = λ rest. quiet.same rest }

asked : (what : ℕ) (option : ℕ) (own others : OptionSet) → 250 < what → what < 255 → Gives (act_form (asks what option)) (in_text own others) []
asked what option own others low high = elim (cases_eq what 251) [
  | inl e ↦ subst (λ x. Gives (act_form (asks x option)) (in_text own others) []) (sym e) (asked_will option own others)
  | inr no_will ↦ elim (cases_eq what 252) [
    | inl e ↦ subst (λ x. Gives (act_form (asks x option)) (in_text own others) []) (sym e) (asked_wont option own others)
    | inr no_wont ↦ elim (cases_eq what 253) [
      | inl e ↦ subst (λ x. Gives (act_form (asks x option)) (in_text own others) []) (sym e) (asked_do option own others)
      | inr no_do ↦
          let e : what ≡ 254 = omega arith in
          subst (λ x. Gives (act_form (asks x option)) (in_text own others) []) (sym e) (asked_dont option own others)
    ]
  ]
]

skipped : (code : ℕ) (own others : OptionSet) → is_act (skips code) ≡ true → Gives (act_form (skips code)) (in_text own others) []
unfolding reads
skipped code own others is =
    let no_iac : eqb code 255 ≡ false = grind (arith, nat_tests, is) in
    let no_break : eqb code 243 ≡ false = grind (arith, nat_tests, is) in
    let no_interrupt : eqb code 244 ≡ false = grind (arith, nat_tests, is) in
    let no_beginning : eqb code 250 ≡ false = grind (arith, nat_tests, is) in
    let no_will : eqb code 251 ≡ false = grind (arith, nat_tests, is) in
    let no_wont : eqb code 252 ≡ false = grind (arith, nat_tests, is) in
    let no_do : eqb code 253 ≡ false = grind (arith, nat_tests, is) in
    let no_dont : eqb code 254 ≡ false = grind (arith, nat_tests, is) in
    let is_code : ltb code 236 ≡ false = grind (arith, nat_tests, is) in
    record { own = own; others = others; same = λ rest. simp (no_iac, no_break, no_interrupt, no_beginning, no_will, no_wont, no_do, no_dont, is_code) }

act_read : (act : Act) (own others : OptionSet) → is_act act ≡ true → Gives (act_form act) (in_text own others) (act_keys act)
act_read (types octet) own others is = typed octet own others (grind (arith, nat_tests, is))
act_read (types_return end) own others is = returned end own others (grind (arith, nat_tests, is))
act_read (presses_break code) own others is = pressed code own others (grind (arith, nat_tests, is))
act_read (asks what option) own others is = asked what option own others (grind (arith, nat_tests, is)) (grind (arith, nat_tests, is))
act_read (skips code) own others is = skipped code own others is

first_is : (b c : Bool) → (b && c) ≡ true → b ≡ true
first_is true c e = refl
first_is false c e = e

rest_is : (b c : Bool) → (b && c) ≡ true → c ≡ true
rest_is true c e = e
rest_is false c e = cc

acts_read : (acts : List Act) (own others : OptionSet) → are_acts acts ≡ true → keys_read (in_text own others) (acts_form acts) ≡ acts_keys acts
acts_read [] own others is = refl
acts_read (act ∷ acts) own others is =
    let one = act_read act own others (first_is (is_act act) (are_acts acts) is) in
    one.same (acts_form acts)
    ∙ ap (λ keys. act_keys act ++ keys) (acts_read acts one.own one.others (rest_is (is_act act) (are_acts acts) is))

pub keys_are_read : KeysAreRead
keys_are_read acts is = acts_read acts no_options no_options is
