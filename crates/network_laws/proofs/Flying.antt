-- Frames that are put on a line are behind those in flight, but for those that are lost.
use Rattle.std.proofs.Common.{◌≡◌, Bool, true, false, List, [], ◌∷◌, ◌++◌, sym, ap, ◌∙◌, inl, inr, append_assoc}
use Rattle.std.proofs.lemmas.List.{append-nil}
use Rattle.link_timers.specs.declared.role.Role.{Role}
use Rattle.link_timers.specs.declared.role.Role.TheVariants.{Dte, Dce}
use Rattle.link_timers.specs.Role.{other_of}
use Rattle.lapb.specs.Machine.{Octets}
use Rattle.lapb.specs.LinkLine.{chosen}
use Rattle.frame_lines.specs.declared.line.Direction.{Direction}
use Rattle.frame_lines.specs.declared.line.Direction.TheVariants.{FromDte, FromDce}
use Rattle.user_nodes.specs.Node.{NodeState, frames_of}
use Rattle.frame_lines.specs.Lines.{Flights, no_flights, LineService, flying, with_flying, ArePut}
use Rattle.net_events.specs.OneLine.{direction_of}
use Rattle.net_events.specs.Opening.{end_of_two, AreSent}

-- these of the frames were not lost
pub record Landed (d : Direction) (frames : List Octets) (old new : Flights) : Type 0 where
  pub kept : List Bool
  pub is : new ≡ with_flying d (flying d old ++ chosen kept frames) old

nothing : (d : Direction) (old : Flights) → old ≡ with_flying d (flying d old ++ []) old
nothing FromDte old = ap (λ (l : List Octets). record old { from_dte = l }) (sym (append-nil old.from_dte))
nothing FromDce old = ap (λ (l : List Octets). record old { from_dce = l }) (sym (append-nil old.from_dce))

more : (d : Direction) (f : Octets) (rest : List Octets) (old : Flights)
    → let mid = with_flying d (flying d old ++ f ∷ []) old in with_flying d (flying d mid ++ rest) mid ≡ with_flying d (flying d old ++ f ∷ rest) old
more FromDte f rest old = ap (λ (l : List Octets). record old { from_dte = l }) (append_assoc {A = Octets} old.from_dte (f ∷ []) rest)
more FromDce f rest old = ap (λ (l : List Octets). record old { from_dce = l }) (append_assoc {A = Octets} old.from_dce (f ∷ []) rest)

pub landed : (L : LineService) (d : Direction) (frames : List Octets) (old new : Flights) → ArePut L d frames old new → Landed d frames old new
landed L d [] old new e = record { kept = []; is = e ∙ nothing d old }
landed L d (f ∷ frames) old new (mid, put, rest) =
    let w = landed L d frames mid new rest in
    elim put [
      | inl is ↦ record {
        kept = true ∷ w.kept;
        is = w.is ∙ ap (λ (m : Flights). with_flying d (flying d m ++ chosen w.kept frames) m) is.1 ∙ more d f (chosen w.kept frames) old;
      }
      | inr is ↦ record {
        kept = false ∷ w.kept;
        is = w.is ∙ ap (λ (m : Flights). with_flying d (flying d m ++ chosen w.kept frames) m) is.1;
      }
    ]

-- ---- the first frames of two nodes

-- these of the frames of either node were not lost
pub record BothLanded (dte dce : List Octets) (flights : Flights) : Type 0 where
  pub up : List Bool
  pub down : List Bool
  pub from_dte : flights.from_dte ≡ chosen up dte
  pub from_dce : flights.from_dce ≡ chosen down dce

landed_by : (L : LineService) (first : Role) (dte dce : NodeState) (between flights : Flights)
    → ArePut L (direction_of first) (frames_of (end_of_two first dte dce)) no_flights between
    → ArePut L (direction_of (other_of first)) (frames_of (end_of_two (other_of first) dte dce)) between flights
    → BothLanded (frames_of dte) (frames_of dce) flights
landed_by L Dte dte dce between flights before behind =
    let up = landed L FromDte (frames_of dte) no_flights between before in
    let down = landed L FromDce (frames_of dce) between flights behind in
    record {
      up = up.kept;
      down = down.kept;
      from_dte = ap (λ (x : Flights). x.from_dte) down.is ∙ ap (λ (x : Flights). x.from_dte) up.is;
      from_dce = ap (λ (x : Flights). x.from_dce) down.is ∙ ap (λ (x : Flights). x.from_dce ++ chosen down.kept (frames_of dce)) up.is;
    }
landed_by L Dce dte dce between flights before behind =
    let down = landed L FromDce (frames_of dce) no_flights between before in
    let up = landed L FromDte (frames_of dte) between flights behind in
    record {
      up = up.kept;
      down = down.kept;
      from_dte = ap (λ (x : Flights). x.from_dte) up.is ∙ ap (λ (x : Flights). x.from_dte ++ chosen up.kept (frames_of dte)) down.is;
      from_dce = ap (λ (x : Flights). x.from_dce) up.is ∙ ap (λ (x : Flights). x.from_dce) down.is;
    }

pub both_landed : (L : LineService) (dte dce : NodeState) (flights : Flights) → AreSent L dte dce flights → BothLanded (frames_of dte) (frames_of dce) flights
both_landed L dte dce flights b = landed_by L b.first dte dce b.between flights b.from_first b.from_other
