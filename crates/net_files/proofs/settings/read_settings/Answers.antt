use Rattle.std.proofs.Common.{inr, refl, sym, ◌∙◌, rules, ◌≡◌, false, ◌==◌, length, Ok, Err}
use Rattle.x28_commands.specs.Reading.{pairs_in}
use Rattle.net_files.proofs.Pairs.{no_settings, too_long, read_as, none_read}
use Rattle.net_files.proofs.settings.read_settings.Goals as goal

pub returns-then-is_empty : goal.returns-then-is_empty
returns-then-is_empty c =
    no_settings c.args.text.now c.new.result.items (sym c.is_empty.ensures ∙ c.if-is_empty.true) c.new.ensures.items

pub returns-then-text-gt-LIST_LIMIT : goal.returns-then-text-gt-LIST_LIMIT
returns-then-text-gt-LIST_LIMIT c = inr (refl, λ settings. too_long c.if-text-gt-LIST_LIMIT.true)

pub returns-in_ok-settings_of-in-Ok : goal.returns-in_ok-settings_of-in-Ok
returns-in_ok-settings_of-in-Ok c =
    let read : Ok c.in-Ok.pairs ≡ pairs_in c.args.text.now = search (rules, c.in-Ok.ensures, c.as_bytes.ensures.value) in
    read_as c.args.text.now c.in-Ok.pairs c.in_ok-settings_of-in-Ok.field-0.items read
    (c.in_ok-settings_of-in-Ok.ensures ∙ c.as_slice.ensures.value)

pub returns-in-Err : goal.returns-in-Err
returns-in-Err c =
    let some : (length c.args.text.now == 0) ≡ false = sym c.is_empty.ensures ∙ c.if-is_empty.false in
    let read : Err c.in-Err.field-0 ≡ pairs_in c.args.text.now = search (rules, c.in-Err.ensures, c.as_bytes.ensures.value) in
    inr (refl, λ settings. none_read c.in-Err.field-0 some read)
