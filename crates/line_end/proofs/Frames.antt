-- Frames go out behind others, as far as there is room.
use Rattle.std.specs.Prelude.{◌≡◌, ℕ, zero, suc, ◌+◌, ◌≤◌, List, [], ◌∷◌, ◌++◌, length, take}
use Rattle.std.proofs.Common.{refl, sym, ap, arith, append-nil, length-append}
use Rattle.lapb.specs.Machine.{Octets}
use Rattle.lapb.specs.Out.{with_frames}

take_fits : {A : Type 0} (n : ℕ) (xs : List A) → length xs ≤ n → take n xs ≡ xs
take_fits zero [] e = refl
take_fits zero (x ∷ xs) e = absurd (omega arith)
take_fits (suc n) [] e = refl
take_fits (suc n) (x ∷ xs) e = ap (λ zs. x ∷ zs) (take_fits n xs (omega arith))

-- no frame is dropped
pub with_frames-fit : (frames more : List Octets) → length frames + length more ≤ 9 →
    with_frames frames more ≡ frames ++ more
with_frames-fit frames [] e = sym (append-nil frames)
with_frames-fit frames (frame ∷ more) e = take_fits 9 (frames ++ frame ∷ more)
    (omega (arith, length-append frames (frame ∷ more)))
