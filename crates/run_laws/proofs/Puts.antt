-- Frames are put on a line in memory in one way only, and listed in one way.
use Rattle.std.proofs.Common.{◌≡◌, ℕ, ◌≤◌, ◌<◌, List, [], ◌∷◌, ◌++◌, length, refl, ap, sym, ◌∙◌, subst, inl, inr, arith}
use Rattle.frame_lines.specs.declared.line.Direction.{Direction}
use Rattle.frame_lines.specs.declared.line.Direction.TheVariants.{FromDte, FromDce}
use Rattle.frame_lines.specs.Lines.{Flights, memory_service, flying, with_flying, IsPut, ArePut}
use Rattle.net_events.specs.declared.answer.Put.{Put}
use Rattle.node_events.specs.Sends.{IsPutOf, ArePutsOf}

-- fewer than 64 are in flight, or not
put_once : (d : Direction) (octets : List ℕ) (old new other : Flights) → IsPut memory_service d octets old new
    → IsPut memory_service d octets old other → new ≡ other
put_once d octets old new other (inl p) (inl q) = p.1 ∙ sym q.1
put_once d octets old new other (inr p) (inr q) = p.1 ∙ sym q.1
put_once d octets old new other (inl p) (inr q) =
    let few : length (flying d old) < 64 = p.0 in let many : 64 ≤ length (flying d old) = q.0 in absurd (omega arith)
put_once d octets old new other (inr p) (inl q) =
    let few : length (flying d old) < 64 = q.0 in let many : 64 ≤ length (flying d old) = p.0 in absurd (omega arith)

pub puts_once : (frames : List (List ℕ)) (d : Direction) (old other new last : Flights) → old ≡ other
    → ArePut memory_service d frames old new → ArePut memory_service d frames other last → new ≡ last
puts_once [] d old other new last same p q = p ∙ same ∙ sym q
puts_once (octets ∷ frames) d old other new last same p q =
    puts_once frames d p.0 q.0 new last
    (put_once d octets old p.0 q.0 p.1
    (subst (λ (f : Flights). IsPut memory_service d octets f q.0) (sym same) q.1)) p.2 q.2

-- ---- what flies in a direction depends on what flew there, whatever flies in the other one

flying_here : (d : Direction) (frames : List (List ℕ)) (f : Flights) → flying d (with_flying d frames f) ≡ frames
flying_here FromDte frames f = refl
flying_here FromDce frames f = refl

put_alike : (d : Direction) (octets : List ℕ) (old new other last : Flights) → flying d old ≡ flying d other
    → IsPut memory_service d octets old new → IsPut memory_service d octets other last → flying d new ≡ flying d last
put_alike d octets old new other last same (inl p) (inl q) =
    ap (λ (f : Flights). flying d f) p.1 ∙ flying_here d (flying d old ++ octets ∷ []) old
    ∙ ap (λ (frames : List (List ℕ)). frames ++ octets ∷ []) same
    ∙ sym (ap (λ (f : Flights). flying d f) q.1 ∙ flying_here d (flying d other ++ octets ∷ []) other)
put_alike d octets old new other last same (inr p) (inr q) =
    ap (λ (f : Flights). flying d f) p.1 ∙ same ∙ sym (ap (λ (f : Flights). flying d f) q.1)
put_alike d octets old new other last same (inl p) (inr q) =
    let few : length (flying d old) < 64 = p.0 in let many : 64 ≤ length (flying d other) = q.0 in
    let as_many = ap (λ (frames : List (List ℕ)). length frames) same in absurd (omega arith)
put_alike d octets old new other last same (inr p) (inl q) =
    let few : length (flying d other) < 64 = q.0 in let many : 64 ≤ length (flying d old) = p.0 in
    let as_many = ap (λ (frames : List (List ℕ)). length frames) same in absurd (omega arith)

pub puts_alike : (frames : List (List ℕ)) (d : Direction) (old new other last : Flights) → flying d old ≡ flying d other
    → ArePut memory_service d frames old new → ArePut memory_service d frames other last
    → flying d new ≡ flying d last
puts_alike [] d old new other last same p q =
    ap (λ (f : Flights). flying d f) p ∙ same ∙ sym (ap (λ (f : Flights). flying d f) q)
puts_alike (octets ∷ frames) d old new other last same p q =
    puts_alike frames d p.0 new q.0 last (put_alike d octets old p.0 other q.0 same p.1 q.1) p.2 q.2

-- and what flies in the other direction stays
pub dce_stays : (frames : List (List ℕ)) (old new : Flights) → ArePut memory_service FromDte frames old new
    → new.from_dce ≡ old.from_dce
dce_stays [] old new p = ap (λ (f : Flights). f.from_dce) p
dce_stays (octets ∷ frames) old new (mid, inl p, q) =
    dce_stays frames mid new q ∙ ap (λ (f : Flights). f.from_dce) p.1
dce_stays (octets ∷ frames) old new (mid, inr p, q) =
    dce_stays frames mid new q ∙ ap (λ (f : Flights). f.from_dce) p.1

pub dte_stays : (frames : List (List ℕ)) (old new : Flights) → ArePut memory_service FromDce frames old new
    → new.from_dte ≡ old.from_dte
dte_stays [] old new p = ap (λ (f : Flights). f.from_dte) p
dte_stays (octets ∷ frames) old new (mid, inl p, q) =
    dte_stays frames mid new q ∙ ap (λ (f : Flights). f.from_dte) p.1
dte_stays (octets ∷ frames) old new (mid, inr p, q) =
    dte_stays frames mid new q ∙ ap (λ (f : Flights). f.from_dte) p.1

-- ---- the list of those that were put

put_is : (d : Direction) (line : ℕ) (octets : List ℕ) (x : Put) → IsPutOf d line octets x
    → x ≡ record { line = line; direction = d; octets = octets }
put_is d line octets x p = λ i. record { line = p.on i; direction = p.to i; octets = p.as_octets i }

pub listed_once : (frames : List (List ℕ)) (d : Direction) (line : ℕ) (xs ys : List Put) → ArePutsOf d line frames xs
    → ArePutsOf d line frames ys → xs ≡ ys
listed_once [] d line [] [] p q = refl
listed_once [] d line (x ∷ xs) ys p q = absurd p
listed_once [] d line [] (y ∷ ys) p q = absurd q
listed_once (octets ∷ frames) d line [] ys p q = absurd p
listed_once (octets ∷ frames) d line (x ∷ xs) [] p q = absurd q
listed_once (octets ∷ frames) d line (x ∷ xs) (y ∷ ys) p q =
    let first : x ≡ y = put_is d line octets x p.0 ∙ sym (put_is d line octets y q.0) in
    let rest : xs ≡ ys = listed_once frames d line xs ys p.1 q.1 in
    λ i. first i ∷ rest i
