-- What is in flight on a line when frames were put on it.
use Rattle.std.proofs.Common.{◌≡◌, ◌≢◌, ℕ, List, [], ◌∷◌, ◌++◌, drop, refl, sym, ap, ◌∙◌, subst, inl, inr, append_assoc}
use Rattle.std.specs.Prelude.{◌⊎◌}
use Rattle.std.proofs.lemmas.List.{append-nil}
use Rattle.lapb.specs.Machine.{Octets}
use Rattle.frame_lines.specs.declared.line.Direction.{Direction}
use Rattle.frame_lines.specs.declared.line.Direction.TheVariants.{FromDte, FromDce}
use Rattle.frame_lines.specs.Lines.{Flights, LineService, lossless_service, flying, with_flying, without_first, IsPut, ArePut}
use Rattle.parted_laws.specs.Processes.{IsLeftOf}
use Rattle.parted_laws.specs.Processes.IsLeftOf.{nothing, stays, goes}

pub flying_here : (d : Direction) (frames : List Octets) (f : Flights) → flying d (with_flying d frames f) ≡ frames
flying_here FromDte frames f = refl
flying_here FromDce frames f = refl

pub flying_there : (d e : Direction) (frames : List Octets) (f : Flights) → e ≢ d → flying e (with_flying d frames f) ≡ flying e f
flying_there FromDte FromDte frames f ne = absurd (ne refl)
flying_there FromDte FromDce frames f ne = refl
flying_there FromDce FromDte frames f ne = refl
flying_there FromDce FromDce frames f ne = absurd (ne refl)

two : FromDte ≡ FromDce → ⊥
two e = cc

pub same_direction : (d e : Direction) → (e ≡ d) ⊎ (e ≢ d)
same_direction FromDte FromDte = inl refl
same_direction FromDce FromDce = inl refl
same_direction FromDte FromDce = inr (λ e. two (sym e))
same_direction FromDce FromDte = inr two

-- ---- on any line some of them are there

pub record KeptOf (d : Direction) (frames : List Octets) (old new : Flights) : Type 0 where
  pub kept : List Octets
  pub some : IsLeftOf kept frames
  pub here : flying d new ≡ flying d old ++ kept
  pub there : (e : Direction) → e ≢ d → flying e new ≡ flying e old

pub puts_kept : (L : LineService) (frames : List Octets) (d : Direction) (old new : Flights) → ArePut L d frames old new → KeptOf d frames old new
puts_kept L [] d old new same = record {
  kept = [];
  some = nothing;
  here = ap (λ (f : Flights). flying d f) same ∙ sym (append-nil (flying d old));
  there = λ e ne. ap (λ (f : Flights). flying e f) same;
}
puts_kept L (frame ∷ frames) d old new (mid, inl (may, put), rest) =
    let k = puts_kept L frames d mid new rest in
    record {
      kept = frame ∷ k.kept;
      some = stays frame k.some;
      here =
          k.here ∙ ap (λ (x : List Octets). x ++ k.kept) (ap (λ (f : Flights). flying d f) put ∙ flying_here d (flying d old ++ frame ∷ []) old)
          ∙ append_assoc (flying d old) (frame ∷ []) k.kept;
      there = λ e ne. k.there e ne ∙ ap (λ (f : Flights). flying e f) put ∙ flying_there d e (flying d old ++ frame ∷ []) old ne;
    }
puts_kept L (frame ∷ frames) d old new (mid, inr (may, put), rest) =
    let k = puts_kept L frames d mid new rest in
    record {
      kept = k.kept;
      some = goes frame k.some;
      here = k.here ∙ ap (λ (f : Flights). flying d f ++ k.kept) put;
      there = λ e ne. k.there e ne ∙ ap (λ (f : Flights). flying e f) put;
    }

-- ---- on a line that loses none all are there

pub all_put : Direction → List Octets → Flights → Flights
all_put d [] f = f
all_put d (frame ∷ frames) f = all_put d frames (with_flying d (flying d f ++ frame ∷ []) f)

pub are_all_put : (d : Direction) (frames : List Octets) (f : Flights) → ArePut lossless_service d frames f (all_put d frames f)
unfolding all_put
are_all_put d [] f = refl
are_all_put d (frame ∷ frames) f =
    let mid = with_flying d (flying d f ++ frame ∷ []) f in (mid, inl (tt, refl), are_all_put d frames mid)

pub all_here : (d : Direction) (frames : List Octets) (f : Flights) → flying d (all_put d frames f) ≡ flying d f ++ frames
unfolding all_put
all_here d [] f = sym (append-nil (flying d f))
all_here d (frame ∷ frames) f =
    all_here d frames (with_flying d (flying d f ++ frame ∷ []) f)
    ∙ ap (λ (x : List Octets). x ++ frames) (flying_here d (flying d f ++ frame ∷ []) f)
    ∙ append_assoc (flying d f) (frame ∷ []) frames

pub all_there : (d e : Direction) (frames : List Octets) (f : Flights) → e ≢ d → flying e (all_put d frames f) ≡ flying e f
all_there d e frames f ne = (puts_kept lossless_service frames d f (all_put d frames f) (are_all_put d frames f)).there e ne
