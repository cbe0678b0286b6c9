-- All calls of an end close, channel by channel.
use Rattle.std.proofs.Common.{◌≡◌, ℕ, suc, ◌+◌, ◌-◌, ◌<◌, true, false, refl, ap, arith}
use Rattle.std.specs.Prelude.{Option, Some, None, is_some}
use Rattle.link_timers.specs.declared.role.Role.{Role}
use Rattle.call_records.specs.Book.{Book, slot_at, closes}
use Rattle.call_records.specs.Closing.{closes_if, closes_present, closed_from}

pub closed_next : (channels place : ℕ) (role : Role) (b : Book) → place < channels → closed_from (channels - (place + 1)) (place + 1 + 1) role (closes_present role (place + 1) b) ≡ closed_from (channels - place) (place + 1) role b
closed_next channels place role b h =
    let more : channels - place ≡ suc (channels - (place + 1)) = omega arith in
    let next : place + 1 + 1 ≡ suc (place + 1) = omega arith in
    rw (more, next) refl

pub close_some : (role : Role) (channel : ℕ) (b : Book) (present : Option ℕ) → present ≡ (slot_at role channel b).present → is_some present ≡ true → closes role channel b ≡ closes_present role channel b
close_some role channel b None e h = absurd (cc)
close_some role channel b (Some n) e h = ap (λ (x : Option ℕ). closes_if x role channel b) e

pub close_none : (role : Role) (channel : ℕ) (b : Book) (present : Option ℕ) → present ≡ (slot_at role channel b).present → is_some present ≡ false → b ≡ closes_present role channel b
close_none role channel b None e h = ap (λ (x : Option ℕ). closes_if x role channel b) e
close_none role channel b (Some n) e h = absurd (cc)
