-- Expiries after ticks.
use Rattle.std.proofs.Common.{Bool, ◌≡◌, ℕ, List, [], ◌++◌, Some, None, subst, append_assoc}
use Rattle.std.proofs.lemmas.List.{append-nil}
use Rattle.frame_lines.specs.Lines.{LineService}
use Rattle.net_events.specs.declared.event.Event.{Event}
use Rattle.net_events.specs.Network.{Network, all_elapsed}
use Rattle.net_nodes.specs.Due.{net_due}
use Rattle.answer_texts.specs.Answers.{Names}
use Rattle.net_player.specs.Playing.{TellsEvent, Expires, Ticks}
use Rattle.net_player.specs.Playing.Expires.{none, next}
use Rattle.net_player.specs.Stopping.{ExpiryStops}
use Rattle.net_player.specs.Stopping.ExpiryStops.{behind}
use Rattle.net_files.specs.declared.fault.ProgFault.{ProgFault}

-- what expiries wrote, and what those to come will write, is what all write
abbrev pub Onward : (L : LineService) → Names → Bool → (start s : Network) → List ℕ → Type 0
Onward L names traces start s told = (rest : List ℕ) (t : Network)
    → Expires L names traces s rest t → Expires L names traces start (told ++ rest) t

-- one more expires
pub expires_onward : {L : LineService} {names : Names} {traces : Bool} {start s m : Network} {expiry : Event} (told first : List ℕ)
    → Onward L names traces start s told → net_due s ≡ Some expiry → TellsEvent L names traces expiry s first m
    → Onward L names traces start m (told ++ first)
expires_onward told first onward due tells rest t more =
    rw (append_assoc told first rest) (onward (first ++ rest) t (next due tells more))

-- none is due
pub expires_all : {L : LineService} {names : Names} {traces : Bool} {start s : Network} (told : List ℕ)
    → Onward L names traces start s told → net_due s ≡ None → Expires L names traces start told s
expires_all {L} {names} {traces} {start} {s} told onward due =
    let Q : List ℕ → Type 0 = λ text. Expires L names traces start text s in
    subst Q (append-nil told) (onward [] s (none due))

-- all this happened behind the ticks
pub ticks_then : {L : LineService} {names : Names} {traces : Bool} {elapsed t : Network} {text : List ℕ} (ticks : ℕ) (s : Network)
    → elapsed ≡ all_elapsed ticks s → Expires L names traces elapsed text t → Ticks L names traces ticks s text t
ticks_then {L} {names} {traces} {elapsed} {t} {text} ticks s goes_by expires =
    let P : Network → Type 0 = λ n. Expires L names traces n text t in
    subst P goes_by expires

-- what expiries wrote, and what others write until one of them stops, is what all write until then
abbrev pub StopsOnward : (L : LineService) → Names → Bool → (start s : Network) → List ℕ → Type 0
StopsOnward L names traces start s told = (fault : ProgFault) (part : List ℕ)
    → ExpiryStops L names traces fault s part → ExpiryStops L names traces fault start (told ++ part)

-- one more expires
pub stops_onward : {L : LineService} {names : Names} {traces : Bool} {start s m : Network} {expiry : Event} (told first : List ℕ)
    → StopsOnward L names traces start s told → net_due s ≡ Some expiry → TellsEvent L names traces expiry s first m
    → StopsOnward L names traces start m (told ++ first)
stops_onward told first onward due tells fault part stops =
    rw (append_assoc told first part) (onward fault (first ++ part) (behind due tells stops))

-- all this happened behind the ticks
pub ticks_then_stop : {L : LineService} {names : Names} {traces : Bool} {fault : ProgFault} {elapsed : Network} {part : List ℕ}
    (ticks : ℕ) (s : Network) → elapsed ≡ all_elapsed ticks s → ExpiryStops L names traces fault elapsed part
    → ExpiryStops L names traces fault (all_elapsed ticks s) part
ticks_then_stop {L} {names} {traces} {fault} {elapsed} {part} ticks s goes_by stops =
    let P : Network → Type 0 = λ n. ExpiryStops L names traces fault n part in
    subst P goes_by stops
