-- A list of requests, asked of a channel of a line one after the other.
use Rattle.std.proofs.Common.{◌≡◌, ℕ, zero, suc, ◌+◌, List, [], ◌∷◌, drop, sym, ap, ◌∙◌, arith, Some}
use Rattle.std.specs.Prelude.{slice_get}
use Rattle.std.proofs.lemmas.Option.{none-some, same_Some}
use Rattle.packet_channel.specs.Channel.{Request}
use Rattle.packet_end.specs.PacketEnd.{asked}
use Rattle.joined_line.specs.SwitchLine.{SwitchLine, with_end}
use Rattle.joined_line.specs.OfLine.{asked_on}

dropped : {X : Type 0} (xs : List X) (n : ℕ) (x : X) → slice_get xs n ≡ Some x → drop n xs ≡ x ∷ drop (n + 1) xs
dropped [] n x e = absurd (none-some x e)
dropped (y ∷ ys) zero x e = ap (λ z. z ∷ ys) (same_Some y x e)
dropped (y ∷ ys) (suc n) x e =
    let next : suc n + 1 ≡ suc (n + 1) = omega arith in
    dropped ys n x e ∙ ap (λ k. x ∷ drop k (y ∷ ys)) (sym next)

-- the next one of them is asked
pub asked_next : (c : ℕ) (qs : List Request) (n : ℕ) (q : Request) (l new : SwitchLine) → slice_get qs n ≡ Some q → new ≡ with_end (λ e. asked e c q) l
    → asked_on c (drop (n + 1) qs) new ≡ asked_on c (drop n qs) l
asked_next c qs n q l new at is =
    ap (λ (x : SwitchLine). asked_on c (drop (n + 1) qs) x) is ∙ sym (ap (λ (rs : List Request). asked_on c rs l) (dropped qs n q at))
