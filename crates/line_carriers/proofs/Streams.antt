-- What is taken at one end of a connection is the beginning of what was added at the other.
use Rattle.std.proofs.Common.{◌≡◌, ◌<◌, ◌≤◌, ◌+◌, ◌*◌, ◌/◌, ◌%◌, ℕ, Bool, true, false, eqb, ltb, cond, List, [], ◌∷◌, ◌++◌, length, take, drop, Some, refl, sym, ap, ◌∙◌, subst, append_assoc, append-nil, arith}
use Rattle.std.proofs.lemmas.Bool.Decides.{nat_tests}
use Rattle.std.proofs.lemmas.List.{take_at, drop_at, take-append-le, drop-append-le, take-append-drop}
use Rattle.line_carriers.specs.declared.fault.CarrierFault.TheVariants.{TooLong}
use Rattle.line_carriers.specs.declared.sign.Sign.{Sign}
use Rattle.line_carriers.specs.declared.sign.Sign.TheVariants.{StillHere, Starting, Ready, Open}
use Rattle.line_carriers.specs.Wire.{code, sign_of, is_frame}
use Rattle.line_carriers.specs.Reading.{First, part, frame, sign, broken, first_item, first_sign, by_length, sign_in}
use Rattle.line_carriers.specs.Laws.{Entry, a_frame, a_sign, is_entry, entry_form, forms, Way, new_way, Move, adds, writes, brings, takes, with_added, with_taken, moved, after_moves, IsCarried, StreamLaw}

forms-append : (xs ys : List Entry) → forms (xs ++ ys) ≡ forms xs ++ forms ys
forms-append [] ys = refl
forms-append (x ∷ xs) ys =
    ap (λ octets. entry_form x ++ octets) (forms-append xs ys) ∙ sym (append_assoc (entry_form x) (forms xs) (forms ys))

abbrev pub AreEntries : List Entry → Type 0
AreEntries [] = Unit {0}
AreEntries (entry ∷ entries) = (is_entry entry ≡ true) × AreEntries entries

are_entries-push : (xs : List Entry) (x : Entry) → AreEntries xs → is_entry x ≡ true → AreEntries (xs ++ x ∷ [])
are_entries-push [] x are is = (is, tt)
are_entries-push (y ∷ xs) x are is = (are.0, are_entries-push xs x are.1 is)

-- ---- what stands first is the first entry

-- what stands first before the octets of the tail is right for the entries on the way
abbrev pub IsRight : First → (tail : List ℕ) → List Entry → Type 0
IsRight part tail entries = Unit {0}
IsRight (frame octets rest) tail entries =
    (more : List Entry) × (entries ≡ a_frame octets ∷ more) × (rest ++ tail ≡ forms more)
IsRight (sign it rest) tail entries =
    (more : List Entry) × (entries ≡ a_sign it ∷ more) × (rest ++ tail ≡ forms more)
IsRight (broken fault) tail entries = ⊥

sign_of-code : (it : Sign) → sign_of (code it) ≡ Some it
sign_of-code StillHere = refl
sign_of-code Starting = refl
sign_of-code Ready = refl
sign_of-code Open = refl

-- a frame of the right length, as soon as all of it came
chosen : (none long short : Bool) (signed whole : First) (tail : List ℕ) (entries : List Entry) → none ≡ false → long ≡ false
    → (short ≡ false → IsRight whole tail entries)
    → IsRight (cond none signed (cond long (broken TooLong) (cond short part whole))) tail entries
chosen true long short signed whole tail entries no_sign fits right = absurd (cc)
chosen false true short signed whole tail entries no_sign fits right = absurd (cc)
chosen false false true signed whole tail entries no_sign fits right = tt
chosen false false false signed whole tail entries no_sign fits right = right refl

record HasLength (octets : List ℕ) : Type 0 where
  pub some : 0 < length octets
  pub most : length octets ≤ 1030

has_length : (octets : List ℕ) → is_frame octets ≡ true → HasLength octets
has_length octets is = record { some = grind (arith, nat_tests); most = grind (arith, nat_tests) }

frame_whole : (octets came tail : List ℕ) (more : List Entry) → length octets ≤ length came → came ++ tail ≡ octets ++ forms more
    → IsRight (frame (take (length octets) came) (drop (length octets) came)) tail (a_frame octets ∷ more)
frame_whole octets came tail more within same =
    let octets_are : octets ≡ take (length octets) came =
    sym (take_at octets (forms more) (length octets) refl) ∙ ap (take (length octets)) (sym same) ∙ take-append-le (length octets) came tail within in
    let rest_is : drop (length octets) came ++ tail ≡ forms more =
    sym (drop-append-le (length octets) came tail within) ∙ ap (drop (length octets)) same ∙ drop_at octets (forms more) (length octets) refl in
    (more, ap (λ x. a_frame x ∷ more) octets_are, rest_is)

frame_right : (octets came tail : List ℕ) (more : List Entry) (high low count : ℕ) → HasLength octets → count ≡ length octets
    → came ++ tail ≡ octets ++ forms more
    → IsRight (by_length (Some count) (high ∷ low ∷ came)) tail (a_frame octets ∷ more)
frame_right octets came tail more high low count has is same =
    let some : 0 < count = omega (arith, has.some, is) in
    let most : count ≤ 1030 = omega (arith, has.most, is) in
    let no_sign : eqb count 0 ≡ false = grind (arith, nat_tests) in
    let fits : ltb 1030 count ≡ false = grind (arith, nat_tests) in
    chosen (eqb count 0) (ltb 1030 count) (ltb (length (high ∷ low ∷ came)) (2 + count)) (first_sign (high ∷ low ∷ came))
    (frame (take count came) (drop count came)) tail (a_frame octets ∷ more) no_sign fits
    (λ long.
    let within : length octets ≤ length came = grind (arith, nat_tests) in
    subst (λ n. IsRight (frame (take n came) (drop n came)) tail (a_frame octets ∷ more)) (sym is) (frame_whole octets came tail more within same))

-- a sign, as soon as its octet came
sign_right : (it : Sign) (high low : ℕ) (came tail : List ℕ) (more : List Entry) → came ++ tail ≡ code it ∷ forms more
    → IsRight (by_length (Some 0) (high ∷ low ∷ came)) tail (a_sign it ∷ more)
sign_right it high low [] tail more same = tt
sign_right it high low (x ∷ came) tail more same =
    let same' : x ∷ (came ++ tail) ≡ code it ∷ forms more = same in
    let octet : x ≡ code it = cc in
    let rest : came ++ tail ≡ forms more = cc in
    subst (λ s. IsRight (sign_in s came) tail (a_sign it ∷ more)) (sym (ap sign_of octet ∙ sign_of-code it))
    (more, refl, rest)

pub first_right : (input tail : List ℕ) (entries : List Entry) → AreEntries entries → input ++ tail ≡ forms entries
    → IsRight (first_item input) tail entries
first_right [] tail entries are same = tt
first_right (high ∷ []) tail entries are same = tt
first_right (high ∷ low ∷ came) tail [] are same =
    let same' : high ∷ low ∷ (came ++ tail) ≡ [] = same in absurd (cc)
first_right (high ∷ low ∷ came) tail (a_frame octets ∷ more) are same =
    let same' : high ∷ low ∷ (came ++ tail) ≡ length octets / 256 ∷ length octets % 256 ∷ (octets ++ forms more) = same in
    let high_is : high ≡ length octets / 256 = cc in
    let low_is : low ≡ length octets % 256 = cc in
    let rest_is : came ++ tail ≡ octets ++ forms more = cc in
    frame_right octets came tail more high low (high * 256 + low) (has_length octets are.0) (omega (arith, high_is, low_is)) rest_is
first_right (high ∷ low ∷ came) tail (a_sign it ∷ more) are same =
    let same' : high ∷ low ∷ (came ++ tail) ≡ 0 ∷ 0 ∷ code it ∷ forms more = same in
    let high_is : high ≡ 0 = cc in
    let low_is : low ≡ 0 = cc in
    let rest_is : came ++ tail ≡ code it ∷ forms more = cc in
    let number : 0 ≡ high * 256 + low = omega (arith, high_is, low_is) in
    subst (λ n. IsRight (by_length (Some n) (high ∷ low ∷ came)) tail (a_sign it ∷ more)) number
    (sign_right it high low came tail more rest_is)

-- ---- whatever happens

pub record Carries (w : Way) : Type 0 where
  pub on_way : List Entry
  pub in_order : w.added ≡ w.taken ++ on_way
  pub octets : w.input ++ (w.wire ++ w.output) ≡ forms on_way
  pub entries : AreEntries on_way

carries-added : (w : Way) (entry : Entry) (is : Bool) → is_entry entry ≡ is → Carries w → Carries (cond is (with_added w entry) w)
carries-added w entry false test so_far = so_far
carries-added w entry true test so_far = record {
  on_way = so_far.on_way ++ entry ∷ [];
  in_order = ap (λ t. t ++ entry ∷ []) so_far.in_order ∙ append_assoc w.taken so_far.on_way (entry ∷ []);
  octets =
      ap (λ t. w.input ++ t) (sym (append_assoc w.wire w.output (entry_form entry)))
      ∙ sym (append_assoc w.input (w.wire ++ w.output) (entry_form entry))
      ∙ ap (λ t. t ++ entry_form entry) so_far.octets
      ∙ ap (λ t. forms so_far.on_way ++ t) (sym (append-nil (entry_form entry)))
      ∙ sym (forms-append so_far.on_way (entry ∷ []));
  entries = are_entries-push so_far.on_way entry so_far.entries test;
}

carries-taken : (w : Way) (first : First) (so_far : Carries w) → IsRight first (w.wire ++ w.output) so_far.on_way → Carries (with_taken w first)
carries-taken w part so_far right = so_far
carries-taken w (broken fault) so_far right = so_far
carries-taken w (frame octets rest) so_far (more, is, same) = record {
  on_way = more;
  in_order = so_far.in_order ∙ ap (λ t. w.taken ++ t) is ∙ sym (append_assoc w.taken (a_frame octets ∷ []) more);
  octets = same;
  entries = (subst AreEntries is so_far.entries).1;
}
carries-taken w (sign it rest) so_far (more, is, same) = record {
  on_way = more;
  in_order = so_far.in_order ∙ ap (λ t. w.taken ++ t) is ∙ sym (append_assoc w.taken (a_sign it ∷ []) more);
  octets = same;
  entries = (subst AreEntries is so_far.entries).1;
}

carries-moved : (w : Way) (move : Move) → Carries w → Carries (moved w move)
carries-moved w (adds entry) so_far = carries-added w entry (is_entry entry) refl so_far
carries-moved w (writes count) so_far = record {
  on_way = so_far.on_way;
  in_order = so_far.in_order;
  octets =
      ap (λ t. w.input ++ t) (append_assoc w.wire (take count w.output) (drop count w.output) ∙ ap (λ t. w.wire ++ t) (take-append-drop count w.output))
      ∙ so_far.octets;
  entries = so_far.entries;
}
carries-moved w (brings count) so_far = record {
  on_way = so_far.on_way;
  in_order = so_far.in_order;
  octets =
      append_assoc w.input (take count w.wire) (drop count w.wire ++ w.output)
      ∙ ap (λ t. w.input ++ t) (sym (append_assoc (take count w.wire) (drop count w.wire) w.output) ∙ ap (λ t. t ++ w.output) (take-append-drop count w.wire))
      ∙ so_far.octets;
  entries = so_far.entries;
}
carries-moved w takes so_far =
    carries-taken w (first_item w.input) so_far (first_right w.input (w.wire ++ w.output) so_far.on_way so_far.entries so_far.octets)

carries-all : (w : Way) (moves : List Move) → Carries w → Carries (after_moves w moves)
carries-all w [] so_far = so_far
carries-all w (move ∷ moves) so_far = carries-all (moved w move) moves (carries-moved w move so_far)

is_carried : (w : Way) → Carries w → IsCarried w
is_carried w so_far = record {
  on_way = so_far.on_way;
  in_order = so_far.in_order;
  octets = so_far.octets;
  sound = λ fault is.
      subst (λ first. IsRight first (w.wire ++ w.output) so_far.on_way) is
      (first_right w.input (w.wire ++ w.output) so_far.on_way so_far.entries so_far.octets);
}

pub stream_law : StreamLaw
stream_law moves =
    is_carried (after_moves new_way moves) (carries-all new_way moves (record { on_way = []; in_order = refl; octets = refl; entries = tt }))
