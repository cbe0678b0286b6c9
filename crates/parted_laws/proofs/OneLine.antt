-- What an event at an end of a line does to the frames on their way there, in the processes and in the network.
use Rattle.std.proofs.Common.{◌≡◌, ◌≢◌, ℕ, zero, suc, List, [], ◌∷◌, ◌++◌, drop, Some, None, refl, sym, ap, ◌∙◌, subst, inl, inr}
use Rattle.std.specs.Prelude.{◌⊎◌, slice_get}
use Rattle.std.proofs.lemmas.Option.{same_Some, none-some}
use Rattle.lapb.specs.Machine.{Octets}
use Rattle.link_timers.specs.declared.role.Role.{Role}
use Rattle.link_timers.specs.declared.role.Role.TheVariants.{Dte, Dce}
use Rattle.frame_lines.specs.declared.line.Direction.{Direction}
use Rattle.frame_lines.specs.declared.line.Direction.TheVariants.{FromDte, FromDce}
use Rattle.frame_lines.specs.Lines.{Flights, no_flights, flying, with_flying, without_first, LineService, ArePut}
use Rattle.net_events.specs.OneLine.{direction_of, direction_to}
use Rattle.net_nodes.specs.Steps.{hearer}
use Rattle.parted_laws.specs.Processes.{IsLeftOf, sender, frames_between}
use Rattle.parted_laws.proofs.Left.{none_left, same_left, left_and_left, left_of_left, FirstLeft, first_left}
use Rattle.parted_laws.proofs.Between.{Wire, between_alike, heard_between, put_between, cleared_between, alike_but}
use Rattle.parted_laws.proofs.Puts.{flying_here, flying_there, same_direction, KeptOf, puts_kept, all_put, all_here, all_there}

-- in both directions what is on its way in the processes is left of what is in flight in the network
abbrev pub AreLeft : (at : Role → ℕ) → (flights : ℕ → Flights) → Wire → Flights → Type 0
AreLeft at flights wire f = (d : Direction) → IsLeftOf (frames_between at flights wire d) (flying d f)

-- ---- an end and its directions

hears_at : (role : Role) → hearer (direction_to role) ≡ role
hears_at Dte = refl
hears_at Dce = refl

sends_at : (role : Role) → sender (direction_of role) ≡ role
sends_at Dte = refl
sends_at Dce = refl

other_way : (role : Role) (d : Direction) → d ≢ direction_of role → d ≡ direction_to role
other_way Dte FromDte ne = absurd (ne refl)
other_way Dte FromDce ne = refl
other_way Dce FromDte ne = refl
other_way Dce FromDce ne = absurd (ne refl)

-- either it hears in a direction or it sends
its_end : (at : Role → ℕ) (k : ℕ) (role : Role) (d : Direction) → at role ≡ k → (at (hearer d) ≡ k) ⊎ (at (sender d) ≡ k)
its_end at k Dte FromDte e = inr e
its_end at k Dte FromDce e = inl e
its_end at k Dce FromDte e = inl e
its_end at k Dce FromDce e = inr e

-- ---- lists

pub first_is : (frames : List Octets) (frame : Octets) → slice_get frames 0 ≡ Some frame → frames ≡ frame ∷ drop 1 frames
first_is [] frame e = absurd (none-some frame e)
first_is (f ∷ fs) frame e = ap (λ (x : Octets). x ∷ fs) (same_Some f frame e)

-- ---- frames are lost in the network

-- without so many of the first ones in a direction
abbrev pub without : (lost : ℕ) → Direction → Flights → Flights
without lost d f = with_flying d (drop lost (flying d f)) f

-- ---- one process changes

module _ (at : Role → ℕ) (k : ℕ) (role : Role) (own : at role ≡ k) (old new : ℕ → Flights) (others : (j : ℕ) → j ≢ k → new j ≡ old j) (wire : Wire) where
  abbrev to : Direction
  to = direction_to role

  abbrev from : Direction
  from = direction_of role

  -- the end heard a frame: the frames before it are lost in the network
  pub record HeardInOne (octets : Octets) (f : Flights) : Type 0 where
    pub lost : ℕ
    pub first : slice_get (flying (direction_to role) (without lost (direction_to role) f)) 0 ≡ Some octets
    pub left : AreLeft at new wire (without_first (direction_to role) (without lost (direction_to role) f))

  module _ (octets : Octets) (f : Flights) (first : slice_get (flying (direction_to role) (old k)) 0 ≡ Some octets) (is : new k ≡ without_first (direction_to role) (old k)) (left : AreLeft at old wire f) where
    rest_is : flying to (new k) ≡ drop 1 (flying to (old k))
    rest_is = ap (λ (x : Flights). flying to x) is ∙ flying_here to (drop 1 (flying to (old k))) (old k)

    first_on_way : frames_between at old wire to ≡ octets ∷ frames_between at new wire to
    first_on_way =
        heard_between at k old new others to wire octets (ap at (hears_at role) ∙ own)
        (first_is (flying to (old k)) octets first ∙ ap (λ (x : List Octets). octets ∷ x) (sym rest_is))

    found : FirstLeft octets (frames_between at new wire to) (flying to f)
    found = first_left (subst (λ (x : List Octets). IsLeftOf x (flying to f)) first_on_way (left to))

    abbrev kept : Flights
    kept = without found.lost to f

    abbrev after : Flights
    after = without_first to kept

    after_here : flying to after ≡ found.rest
    after_here =
        flying_here to (drop 1 (flying to kept)) kept
        ∙ ap (λ (x : List Octets). drop 1 x) (flying_here to (drop found.lost (flying to f)) f ∙ found.first)

    heard : IsLeftOf (frames_between at new wire to) (flying to after)
    heard = subst (λ (x : List Octets). IsLeftOf (frames_between at new wire to) x) (sym after_here) found.others

    stayed : (d : Direction) → d ≢ to → IsLeftOf (frames_between at new wire d) (flying d after)
    stayed d ne =
        subst (λ (x : List Octets). IsLeftOf (frames_between at new wire d) x)
        (sym (flying_there to d (drop 1 (flying to kept)) kept ne ∙ flying_there to d (drop found.lost (flying to f)) f ne))
        (subst (λ (x : List Octets). IsLeftOf x (flying d f))
        (sym (between_alike at old new wire wire d
        (alike_but at k old new others d (ap (λ (x : Flights). flying d x) is ∙ flying_there to d (drop 1 (flying to (old k))) (old k) ne)) refl)) (left d))

    left_then : AreLeft at new wire after
    left_then d = elim (same_direction to d) [
      | inl e ↦ subst (λ (x : Direction). IsLeftOf (frames_between at new wire x) (flying x after)) (sym e) heard
      | inr ne ↦ stayed d ne
    ]

    pub heard_in_one : HeardInOne octets f
    heard_in_one = record {
      lost = found.lost;
      first = ap (λ (x : List Octets). slice_get x 0) (flying_here to (drop found.lost (flying to f)) f ∙ found.first);
      left = left_then;
    }

  -- its node restarted, and nothing was on its way to or from another process
  pub cleared_in_one : new k ≡ no_flights → ((side : Role) → at side ≢ k → (d : Direction) → (wire d ≡ []) × (flying d (old (at side)) ≡ []))
      → AreLeft at new wire no_flights
  cleared_in_one is cut d =
      subst (λ (x : List Octets). IsLeftOf x (flying d no_flights))
      (sym (cleared_between at k old new others d wire (its_end at k role d own) (ap (λ (x : Flights). flying d x) is ∙ none d) (λ side ne. cut side ne d)))
      (none_left (flying d no_flights))
    where
      none : (e : Direction) → flying e no_flights ≡ []
      none FromDte = refl
      none FromDce = refl

  -- it put frames: in the network all are there
  module _ (L : LineService) (frames : List Octets) (f : Flights) (put : ArePut L (direction_of role) frames (old k) (new k)) (left : AreLeft at old wire f) where
    put_here : IsLeftOf (frames_between at new wire from) (flying from (all_put from frames f))
    put_here =
        let x : KeptOf from frames (old k) (new k) = puts_kept L frames from (old k) (new k) put in
        subst (λ (y : List Octets). IsLeftOf y (flying from (all_put from frames f))) (sym (put_between at k old new others from wire x.kept (ap at (sends_at role) ∙ own) x.here))
        (subst (λ (y : List Octets). IsLeftOf (frames_between at old wire from ++ x.kept) y) (sym (all_here from frames f)) (left_and_left (left from) x.some))

    put_there : (d : Direction) → d ≢ from → IsLeftOf (frames_between at new wire d) (flying d (all_put from frames f))
    put_there d ne =
        let x : KeptOf from frames (old k) (new k) = puts_kept L frames from (old k) (new k) put in
        subst (λ (y : List Octets). IsLeftOf (frames_between at new wire d) y) (sym (all_there from d frames f ne))
        (subst (λ (y : List Octets). IsLeftOf y (flying d f)) (sym (between_alike at old new wire wire d (alike_but at k old new others d (x.there d ne)) refl)) (left d))

    pub put_in_one : AreLeft at new wire (all_put (direction_of role) frames f)
    put_in_one d = elim (same_direction from d) [
      | inl e ↦ subst (λ (x : Direction). IsLeftOf (frames_between at new wire x) (flying x (all_put from frames f))) (sym e) put_here
      | inr ne ↦ put_there d ne
    ]
