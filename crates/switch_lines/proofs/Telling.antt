-- What the other leg of a join is told.
use Rattle.std.proofs.Common.{◌≡◌, ℕ, ◌⊎◌, inl, inr, true, false, List, refl, sym, ap, ◌∙◌, Option, Some, None, option_map}
use Rattle.std.specs.Prelude.{slice_get}
use Rattle.data_transfer.specs.Packets.{Note, Reason}
use Rattle.data_transfer.specs.Packets.Note.{Connected, Closed, WasReset, InterruptConfirmed, Covered}
use Rattle.packet_channel.specs.Channel.Request.{Accept, Clearing, Resetting, Confirming}
use Rattle.switch_joins.specs.Direction.{new_direction, covered_by}
use Rattle.joined_line.specs.Causes.{reset_cause, clear_cause, far_diagnostic}
use Rattle.switch_lines.specs.Lines.{SwitchChannel, Joined, SwitchLine, is_trunk, same_place, joined_at, with_joined, ask}
use Rattle.switch_lines.specs.Relay.{told, told_of, told_joined, with_kept, kept_anew, covered_on}
use Rattle.switch_lines.specs.ByPlace.{kept_at, freed_at}
use Rattle.switch_lines.proofs.Places.{joined_asked, joined_here, joined_apart, kept_joined, kept_none, freed_joined, freed_kept, freed_none}
use Rattle.switch_joins.proofs.Apart.{decided, place_is}
use Rattle.switch_lines.proofs.Relaying.{joined_by, not_joined}

pub tells_no_one : (n : Note) (p : SwitchChannel) (ls : List SwitchLine) → None ≡ option_map (λ j. j.other) (joined_at ls p) → ls ≡ told n p ls
tells_no_one n p ls none = sym (ap (λ o. told_of o n p ls) (not_joined (joined_at ls p) none))

-- what is told is what the other leg is asked
tells : (n : Note) (p q : SwitchChannel) (ls : List SwitchLine) (done : SwitchChannel → List SwitchLine) → Some q ≡ option_map (λ j. j.other) (joined_at ls p) →
    ((j : Joined) → joined_at ls p ≡ Some j → done j.other ≡ told_joined n p j ls) → done q ≡ told n p ls
tells n p q ls done joined h =
    let found = joined_by (joined_at ls p) q joined in
    ap done (sym found.2) ∙ h found.0 found.1 ∙ sym (ap (λ o. told_of o n p ls) found.1)

pub tells_connected : (c : ℕ) (p q : SwitchChannel) (ls : List SwitchLine) → Some q ≡ option_map (λ j. j.other) (joined_at ls p) →
    ask q Accept ls ≡ told (Connected c) p ls
tells_connected c p q ls joined = tells (Connected c) p q ls (λ x. ask x Accept ls) joined (λ j e. refl)

pub tells_closed : (c cause diagnostic : ℕ) (reason : Reason) (p q : SwitchChannel) (ls : List SwitchLine) → Some q ≡ option_map (λ j. j.other) (joined_at ls p) →
    ask q (Clearing (clear_cause (is_trunk (slice_get ls p.line)) reason cause) (far_diagnostic reason diagnostic)) (with_joined q None (with_joined p None ls))
    ≡ told (Closed c cause diagnostic reason) p ls
tells_closed c cause diagnostic reason p q ls joined =
    tells (Closed c cause diagnostic reason) p q ls
    (λ x. ask x (Clearing (clear_cause (is_trunk (slice_get ls p.line)) reason cause) (far_diagnostic reason diagnostic)) (with_joined x None (with_joined p None ls))) joined (λ j e. refl)

pub tells_confirmed : (c : ℕ) (p q : SwitchChannel) (ls : List SwitchLine) → Some q ≡ option_map (λ j. j.other) (joined_at ls p) →
    ask q Confirming ls ≡ told (InterruptConfirmed c) p ls
tells_confirmed c p q ls joined = tells (InterruptConfirmed c) p q ls (λ x. ask x Confirming ls) joined (λ j e. refl)

covered_as : (n : ℕ) (o : Option Joined) (q : SwitchChannel) (ls : List SwitchLine) → joined_at ls q ≡ o →
    freed_at q (kept_at q (covered_by n) ls) ≡ covered_on n o q ls
covered_as n None q ls e = ap (λ (xs : List SwitchLine). freed_at q xs) (kept_none (covered_by n) q ls e) ∙ freed_none q ls e
covered_as n (Some k) q ls e =
    let v = covered_by n k.kept in
    ap (λ (xs : List SwitchLine). freed_at q xs) (kept_joined (covered_by n) q k ls e)
    ∙ freed_joined q (record k { kept = v }) (with_kept q k v ls) (joined_here q k (Some (record k { kept = v })) ls e)
    ∙ freed_kept q k v ls

pub tells_covered : (c n : ℕ) (p q : SwitchChannel) (ls : List SwitchLine) → Some q ≡ option_map (λ j. j.other) (joined_at ls p) →
    freed_at q (kept_at q (covered_by n) ls) ≡ told (Covered c n) p ls
tells_covered c n p q ls joined =
    tells (Covered c n) p q ls (λ x. freed_at x (kept_at x (covered_by n) ls)) joined (λ j e. covered_as n (joined_at ls j.other) j.other ls refl)

-- ---- a reset

anew : (o : Option Joined) (q : SwitchChannel) (ls : List SwitchLine) → joined_at ls q ≡ o → kept_at q (λ v. new_direction) ls ≡ kept_anew o q ls
anew None q ls e = kept_none (λ v. new_direction) q ls e
anew (Some k) q ls e = kept_joined (λ v. new_direction) q k ls e

renewed_other : (p q : SwitchChannel) (j : Joined) (ls ms : List SwitchLine) → joined_at ls p ≡ Some j → ((x : SwitchChannel) → joined_at ms x ≡ joined_at ls x) →
    (same_place q p ≡ true) ⊎ (same_place q p ≡ false) →
    kept_at q (λ v. new_direction) (with_kept p j new_direction ms) ≡ kept_anew (joined_at ls q) q (with_kept p j new_direction ms)
renewed_other p q j ls ms e same (inl here) =
    let is = place_is q p here in
    let now : joined_at (with_kept p j new_direction ms) q ≡ Some (record j { kept = new_direction }) =
    ap (λ (x : SwitchChannel). joined_at (with_kept p j new_direction ms) x) is ∙ joined_here p j (Some (record j { kept = new_direction })) ms (same p ∙ e) in
    anew (Some (record j { kept = new_direction })) q (with_kept p j new_direction ms) now
    ∙ ap (λ (o : Option Joined). kept_anew o q (with_kept p j new_direction ms)) (sym (ap (λ (x : SwitchChannel). joined_at ls x) is ∙ e))
renewed_other p q j ls ms e same (inr apart) =
    anew (joined_at ls q) q (with_kept p j new_direction ms)
    (joined_apart p (Some (record j { kept = new_direction })) q ms apart ∙ same q)

pub tells_reset : (c cause diagnostic : ℕ) (reason : Reason) (p q : SwitchChannel) (ls : List SwitchLine) → Some q ≡ option_map (λ j. j.other) (joined_at ls p) →
    kept_at q (λ v. new_direction)
    (kept_at p (λ v. new_direction) (ask q (Resetting (reset_cause reason cause) (far_diagnostic reason diagnostic)) ls))
    ≡ told (WasReset c cause diagnostic reason) p ls
tells_reset c cause diagnostic reason p q ls joined =
    let r = Resetting (reset_cause reason cause) (far_diagnostic reason diagnostic) in
    tells (WasReset c cause diagnostic reason) p q ls
    (λ x. kept_at x (λ v. new_direction) (kept_at p (λ v. new_direction) (ask x r ls))) joined
    (λ j e.
    ap (λ (xs : List SwitchLine). kept_at j.other (λ v. new_direction) xs)
    (kept_joined (λ v. new_direction) p j (ask j.other r ls) (joined_asked j.other r p ls ∙ e))
    ∙ renewed_other p j.other j ls (ask j.other r ls) e (λ x. joined_asked j.other r x ls) (decided (same_place j.other p)))
