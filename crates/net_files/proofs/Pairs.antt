-- Lists of pairs, and the settings that they are.
use Rattle.std.proofs.Common.{◌≡◌, ℕ, suc, ◌+◌, ◌*◌, ◌≤◌, ◌<◌, ◌==◌, Bool, true, false, cond, List, [], ◌∷◌, ◌++◌, length, map, Option, Some, None}
use Rattle.std.proofs.Common.{◌∙◌, Ok, Err, refl, ap, sym, arith, ltb-false, length-append}
use borrow.Author.Tests.{eqb-true}
use Rattle.std.specs.Prelude.{nat_lt}
use Rattle.arrayvec.specs.ArrayVec.{ArrayVec}
use Rattle.x28_commands.specs.Numbers.{IsPair, IsList, pair_of, entries}
use Rattle.x28_commands.specs.Numbers.IsList.{last, more}
use Rattle.x28_commands.specs.Reading.{limited, pairs_in}
use Rattle.x28_commands.specs.CommandForm.ArgumentsForm.{set}
use Rattle.x28_commands.specs.declared.fault.CommandFault.{CommandFault}
use Rattle.x28_commands.specs.declared.fault.CommandFault.TheVariants.{TooLong}
use Rattle.x28_commands.proofs.Grammar.{pair_found, list_found}
use Rattle.x28_commands.proofs.Arguments.{arguments_only}
use Rattle.net_config.specs.declared.config.Setting.{Setting}
use Rattle.net_files.specs.Networks.{SettingsForm}
use Rattle.net_files.specs.Networks.{pair_of as pair_in}
use Rattle.net_files.specs.Networks.{SettingsForm as form}

pub no_settings : (text : List ℕ) (settings : List Setting) → (length text == 0) ≡ true → settings ≡ []
    → SettingsForm text settings
no_settings [] settings empty none = rw none form.none
no_settings (o ∷ os) settings empty none =
    let zero : length (o ∷ os) ≡ 0 = eqb-true (length (o ∷ os)) 0 empty in
    absurd (omega arith)

-- ---- a list of 18 pairs has at most 143 octets

list_length : {text : List ℕ} {pairs : List (ℕ × ℕ)} → IsList (ℕ × ℕ) IsPair text pairs
    → length text + 1 ≤ 8 * length pairs
list_length (last {text = text} pair) =
    let whole : length text ≡ length pair.left + suc (length pair.right) = ap length pair.whole ∙ length-append _ _ in
    omega (arith, pair.number.short, pair.value.short)
list_length (more {text = text} {rest = rest} pair others) =
    let whole : length text ≡ length pair.left + suc (length pair.right) = ap length pair.whole ∙ length-append _ _ in
    let both : length (text ++ 0x2C ∷ rest) ≡ length text + suc (length rest) = length-append text (0x2C ∷ rest) in
    omega (arith, pair.number.short, pair.value.short, list_length others)

pub too_long : {text : List ℕ} {settings : List Setting} → 143 < length text → ¬ SettingsForm text settings
too_long long form.none = omega arith
too_long long (form.some list) = omega (arith, list_length list.list, list.few)

-- ---- what is read is the list

guarded : (b : Bool) (pairs : List (ℕ × ℕ)) (found : ArrayVec (ℕ × ℕ))
    → cond b (Err TooLong) (Ok (record { items = pairs })) ≡ Ok found → (b ≡ false) × (pairs ≡ found.items)
guarded true pairs found h = cc
guarded false pairs found h =
    let same : record { items = pairs } ≡ found = cc in
    (refl, ap (λ v. v.items) same)

within : (pairs : Option (List (ℕ × ℕ))) (found : ArrayVec (ℕ × ℕ)) → limited pairs ≡ Ok found
    → (pairs ≡ Some found.items) × (length found.items ≤ 18)
within None found h = cc
within (Some pairs) found h =
    let parts = guarded (nat_lt 18 (length pairs)) pairs found h in
    (ap Some parts.1, rw parts.1 at (ltb-false 18 (length pairs) parts.0))

pub read_as : (text : List ℕ) (found : ArrayVec (ℕ × ℕ)) (settings : List Setting)
    → Ok found ≡ pairs_in text → map pair_in settings ≡ found.items → SettingsForm text settings
read_as text found settings read same =
    let parts = within (entries pair_of text) found (sym read) in
    form.some (record {
      list = rw same (list_found IsPair pair_of pair_found text found.items parts.0);
      few = rw same parts.1;
    })

pub none_read : {text : List ℕ} {settings : List Setting} (fault : CommandFault)
    → (length text == 0) ≡ false → Err fault ≡ pairs_in text → ¬ SettingsForm text settings
none_read fault some read form.none = cc
none_read fault some read (form.some list) =
    let only = arguments_only (set list) in
    let both = rw (← read) at only in
    cc
