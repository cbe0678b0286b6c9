-- No option is answered twice.
use Rattle.std.proofs.Common.{◌≡◌, ◌≢◌, ℕ, suc, ◌+◌, ◌<◌, ◌≤◌, Bool, true, false, List, [], ◌∷◌, ◌++◌, length, eqb, refl, ◌∙◌, arith, inl, inr, cond, count_by, All, get_or-set_same, get_or-set_other}
use Rattle.std.proofs.Math.ListN.{length-set}
use Rattle.std.proofs.lemmas.Bool.{cases_eq}
use Rattle.std.proofs.lemmas.List.Sums.{count_by-le-length, sum_by-append}
use Rattle.std.proofs.lemmas.Bool.Decides.{nat_tests}
use Rattle.service_ports.specs.declared.command.TelnetCommand.{TelnetCommand}
use Rattle.service_ports.specs.declared.command.TelnetCommand.TheVariants.{Wont, Do, Dont}
use Rattle.service_ports.specs.declared.options.OptionSet.{OptionSet}
use Rattle.service_ports.specs.declared.input.TelnetReader.{TelnetReader}
use Rattle.service_ports.specs.declared.input.Place.{Place}
use Rattle.service_ports.specs.declared.input.Place.TheVariants.{Text, AfterReturn, AfterIac, AfterRequest, Within, WithinAfterIac}
use Rattle.service_ports.specs.declared.input.Request.{Request}
use Rattle.service_ports.specs.declared.input.Request.TheVariants as request
use Rattle.service_ports.specs.declared.input.Key.{Key}
use Rattle.service_ports.specs.declared.input.Key.TheVariants.{Octet, Break}
use Rattle.service_ports.specs.declared.input.Heard.TheVariants.{Nothing, Typed, Answered}
use Rattle.service_ports.specs.Commands.{is_offered}
use Rattle.service_ports.specs.Options.{has_option, with_option}
use Rattle.service_ports.specs.Reading.{Reading, new_reader, reads, reads_at, reads_text, reads_command, reads_request, refuses_own, answers_offer, at_place, answer_in, answers_read}
use Rattle.service_ports.specs.ClientForm.{is_about_own, is_about_others, OptionsAreAnsweredOnce}

-- how often an option may still be answered
abbrev pub left : Bool → ℕ
left true = 0
left false = 1

-- there is a place for each option
pub record AreWhole (own others : OptionSet) : Type 0 where
  pub own_length : length own.contains ≡ 256
  pub others_length : length others.contains ≡ 256

-- what a reading answers about an option, it may answer no more
pub record IsFair (option : ℕ) (own others : OptionSet) (reading : Reading) : Type 0 where
  pub whole : AreWhole reading.reader.own reading.reader.others
  pub of_own : count_by (is_about_own option) (answer_in reading.heard) + left (has_option reading.reader.own option) ≤ left (has_option own option)
  pub of_others : count_by (is_about_others option) (answer_in reading.heard) + left (has_option reading.reader.others option) ≤ left (has_option others option)

either : (option : ℕ) (own others : OptionSet) (b : Bool) (p q : Reading) → IsFair option own others p → IsFair option own others q → IsFair option own others (cond b p q)
either option own others true p q one two = one
either option own others false p q one two = two

passed : (option : ℕ) (r : TelnetReader) (place : Place) → AreWhole r.own r.others → IsFair option r.own r.others (at_place place r Nothing)
passed option r place whole = record { whole = whole; of_own = omega arith; of_others = omega arith }

typed : (option : ℕ) (r : TelnetReader) (place : Place) (key : Key) → AreWhole r.own r.others → IsFair option r.own r.others (at_place place r (Typed key))
typed option r place key whole = record { whole = whole; of_own = omega arith; of_others = omega arith }

-- an option that is added to a set, and was not in it if it is answered, has one answer fewer
one_fewer : (options : OptionSet) (asked option answers : ℕ) → asked < length options.contains
    → answers ≤ left (has_option options asked) → (option ≢ asked → answers ≡ 0)
    → answers + left (has_option (with_option options asked) option) ≤ left (has_option options option)
one_fewer options asked option answers within few none = elim (cases_eq option asked) [
  | inl e ↦
      let there : has_option (with_option options asked) option ≡ true = rw e (get_or-set_same options.contains asked true false within) in
      let few' : answers ≤ left (has_option options option) = rw e few in
      rw there (omega arith)
  | inr other ↦
      let same : has_option (with_option options asked) option ≡ has_option options option = get_or-set_other options.contains asked option true false other in
      rw (same, none other) (omega arith)
]

text_is_fair : (option : ℕ) (r : TelnetReader) (octet : ℕ) → AreWhole r.own r.others → IsFair option r.own r.others (reads_text r octet)
text_is_fair option r octet whole =
    either option r.own r.others (eqb octet 255) _ _ (passed option r AfterIac whole) (typed option r _ (Octet octet) whole)

command_is_fair : (option : ℕ) (r : TelnetReader) (octet : ℕ) → AreWhole r.own r.others → IsFair option r.own r.others (reads_command r octet)
command_is_fair option r octet whole =
    either option r.own r.others (eqb octet 255) _ _ (typed option r Text (Octet 255) whole)
    (either option r.own r.others _ _ _ (typed option r Text Break whole)
    (either option r.own r.others (eqb octet 250) _ _ (passed option r Within whole)
    (either option r.own r.others (eqb octet 251) _ _ (passed option r (AfterRequest request.Will) whole)
    (either option r.own r.others (eqb octet 252) _ _ (passed option r (AfterRequest request.Wont) whole)
    (either option r.own r.others (eqb octet 253) _ _ (passed option r (AfterRequest request.Do) whole)
    (either option r.own r.others (eqb octet 254) _ _ (passed option r (AfterRequest request.Dont) whole)
    (either option r.own r.others _ _ _ (text_is_fair option r octet whole) (passed option r Text whole))))))))

-- an answer is one, and none if the option was answered before
count_few : (p : TelnetCommand → Bool) (before : Bool) (command : TelnetCommand) → count_by p (answer_in (cond before Nothing (Answered command))) ≤ left before
count_few p true command = omega arith
count_few p false command = count_by-le-length p (command ∷ [])

-- it does not count if it is about something else
count_none : (p : TelnetCommand → Bool) (before : Bool) (command : TelnetCommand) → p command ≡ false → count_by p (answer_in (cond before Nothing (Answered command))) ≡ 0
count_none p true command other = refl
count_none p false command other = simp other

about_others : (is_wanted : Bool) (asked option : ℕ) → eqb asked option ≡ false → is_about_others option (cond is_wanted (Do asked) (Dont asked)) ≡ false
about_others true asked option other = other
about_others false asked option other = other

not_about_own : (is_wanted : Bool) (asked option : ℕ) → is_about_own option (cond is_wanted (Do asked) (Dont asked)) ≡ false
not_about_own true asked option = refl
not_about_own false asked option = refl

apart : (asked option : ℕ) → option ≢ asked → eqb asked option ≡ false
apart asked option other = grind (arith, nat_tests)

refusal_is_fair : (option : ℕ) (r : TelnetReader) (asked : ℕ) → asked < 256 → AreWhole r.own r.others → IsFair option r.own r.others (refuses_own r asked)
refusal_is_fair option r asked small whole =
    let before = has_option r.own asked in
    let none = count_none (is_about_others option) before (Wont asked) refl in
    record {
      whole = record { own_length = length-set r.own.contains asked true ∙ whole.own_length; others_length = whole.others_length };
      of_own = one_fewer r.own asked option _ (omega (arith, whole.own_length)) (count_few (is_about_own option) before (Wont asked))
          (λ other. count_none (is_about_own option) before (Wont asked) (apart asked option other));
      of_others = omega (arith, none);
    }

offer_is_fair : (option : ℕ) (r : TelnetReader) (asked : ℕ) → asked < 256 → AreWhole r.own r.others → IsFair option r.own r.others (answers_offer r asked)
offer_is_fair option r asked small whole =
    let before = has_option r.others asked in
    let command = cond (eqb asked 3) (Do asked) (Dont asked) in
    let none = count_none (is_about_own option) before command (not_about_own (eqb asked 3) asked option) in
    record {
      whole = record { own_length = whole.own_length; others_length = length-set r.others.contains asked true ∙ whole.others_length };
      of_own = omega (arith, none);
      of_others = one_fewer r.others asked option _ (omega (arith, whole.others_length)) (count_few (is_about_others option) before command)
          (λ other. count_none (is_about_others option) before command (about_others (eqb asked 3) asked option (apart asked option other)));
    }

request_is_fair : (what : Request) (option : ℕ) (r : TelnetReader) (asked : ℕ) → asked < 256 → AreWhole r.own r.others → IsFair option r.own r.others (reads_request what r asked)
request_is_fair request.Will option r asked small whole = offer_is_fair option r asked small whole
request_is_fair request.Wont option r asked small whole = passed option r Text whole
request_is_fair request.Do option r asked small whole =
    either option r.own r.others (is_offered asked) _ _ (passed option r Text whole) (refusal_is_fair option r asked small whole)
request_is_fair request.Dont option r asked small whole =
    either option r.own r.others (is_offered asked) _ _ (refusal_is_fair option r asked small whole) (passed option r Text whole)

place_is_fair : (place : Place) (option : ℕ) (r : TelnetReader) (octet : ℕ) → octet < 256 → AreWhole r.own r.others → IsFair option r.own r.others (reads_at place r octet)
place_is_fair Text option r octet small whole = text_is_fair option r octet whole
place_is_fair AfterReturn option r octet small whole =
    either option r.own r.others _ _ _ (passed option r Text whole) (text_is_fair option r octet whole)
place_is_fair AfterIac option r octet small whole = command_is_fair option r octet whole
place_is_fair (AfterRequest what) option r octet small whole = request_is_fair what option r octet small whole
place_is_fair Within option r octet small whole = passed option r _ whole
place_is_fair WithinAfterIac option r octet small whole = passed option r _ whole

octet_is_fair : (option : ℕ) (r : TelnetReader) (octet : ℕ) → octet < 256 → AreWhole r.own r.others → IsFair option r.own r.others (reads r octet)
unfolding reads
octet_is_fair option r octet small whole = place_is_fair r.place option r octet small whole

count-append : (p : TelnetCommand → Bool) (xs ys : List TelnetCommand) → count_by p (xs ++ ys) ≡ count_by p xs + count_by p ys
count-append p xs ys = sum_by-append _ xs ys

-- so often an option is answered in all that a client sends
pub record AreFew (option : ℕ) (own others : OptionSet) (commands : List TelnetCommand) : Type 0 where
  pub of_own : count_by (is_about_own option) commands ≤ left (has_option own option)
  pub of_others : count_by (is_about_others option) commands ≤ left (has_option others option)

answers_are_few : (option : ℕ) (octets : List ℕ) (r : TelnetReader) → All (λ octet. octet < 256) octets → AreWhole r.own r.others
    → AreFew option r.own r.others (answers_read r octets)
answers_are_few option [] r small whole = record { of_own = omega arith; of_others = omega arith }
answers_are_few option (octet ∷ octets) r small whole =
    let reading = reads r octet in
    let first : octet < 256 = small 0 octet (omega arith) in
    let later : All (λ x. x < 256) octets = λ k d within. small (suc k) d (omega arith) in
    let fair = octet_is_fair option r octet first whole in
    let rest = answers_are_few option octets reading.reader later fair.whole in
    record {
      of_own = omega (arith, fair.of_own, rest.of_own, count-append (is_about_own option) (answer_in reading.heard) (answers_read reading.reader octets));
      of_others = omega (arith, fair.of_others, rest.of_others, count-append (is_about_others option) (answer_in reading.heard) (answers_read reading.reader octets));
    }

left-bounded : (b : Bool) → left b ≤ 1
left-bounded true = omega arith
left-bounded false = omega arith

pub options_are_answered_once : OptionsAreAnsweredOnce
options_are_answered_once octets option small =
    let few = answers_are_few option octets new_reader small (record { own_length = refl; others_length = refl }) in
    (omega (arith, few.of_own, left-bounded (has_option new_reader.own option)), omega (arith, few.of_others, left-bounded (has_option new_reader.others option)))
