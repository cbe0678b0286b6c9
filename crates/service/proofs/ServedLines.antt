-- Deeds for lines to other processes, one after the other.
use Rattle.std.proofs.Common.{◌≡◌, ℕ, Bool, true, false, List, [], ◌∷◌, ◌++◌, refl, sym, ap, ◌∙◌, subst, Option, Some, None}
use Rattle.std.specs.Prelude.{slice_get}
use Rattle.std.specs.Bool.{OnTrue, OnFalse}
use Rattle.std.specs.List.{position}
use Rattle.frame_lines.specs.Lines.{LineService}
use Rattle.link_timers.specs.declared.role.Role.{Role}
use Rattle.link_timers.specs.declared.role.Role.TheVariants.{Dte, Dce}
use Rattle.net_events.specs.declared.event.Event.{Event}
use Rattle.remote_lines.specs.declared.line.Reading.{Reading}
use Rattle.remote_lines.specs.declared.line.RemoteLine.{RemoteLine}
use Rattle.net_process.specs.Carrying.{carried}
use Rattle.net_process.specs.Process.{ProcessState}
use Rattle.net_process.specs.Remote.{HasRead, after_given_up, given_up, given_up_by, given_up_at, given_up_on, event_at, is_given_up}
use Rattle.service.specs.declared.absent.PadBinding.{PadBinding}
use Rattle.service.specs.declared.place.Place.{Place}
use Rattle.service.specs.Lines.{LineDeed, starts, steps, gives_up, reads, hands_on, DoesAll, steps_in, ServesLines, StartsOne}
use Rattle.service.specs.Steps.{Step, Steps, IsSilent, Does, is_at_terminal}
use Rattle.service.proofs.Stepping.{silent-none, silent-append, elsewhere}

does_all-append : (L : LineService) (s m t : ProcessState) (xs ys : List LineDeed) → DoesAll L s xs m → DoesAll L m ys t
    → DoesAll L s (xs ++ ys) t
does_all-append L s m t [] ys none more = subst (λ n. DoesAll L n ys t) (sym none) more
does_all-append L s m t (x ∷ xs) ys (mid, done, rest) more = (mid, done, does_all-append L mid m t xs ys rest more)

steps_in-append : (xs ys : List LineDeed) → steps_in (xs ++ ys) ≡ steps_in xs ++ steps_in ys
steps_in-append [] ys = refl
steps_in-append (starts node ∷ xs) ys = steps_in-append xs ys
steps_in-append (steps step ∷ xs) ys = ap (λ (rest : List Step). step ∷ rest) (steps_in-append xs ys)
steps_in-append (gives_up ∷ xs) ys = steps_in-append xs ys
steps_in-append (reads place ∷ xs) ys = steps_in-append xs ys
steps_in-append (hands_on ∷ xs) ys = steps_in-append xs ys

pub lines_none : (L : LineService) (places : List Place) (s : ProcessState) → ServesLines L places s s
lines_none L places s = record { deeds = []; done = refl; silent = λ port at there. silent-none at }

pub lines_same : (L : LineService) (places : List Place) (s t : ProcessState) → t ≡ s → ServesLines L places s t
lines_same L places s t is = subst (λ (u : ProcessState). ServesLines L places s u) (sym is) (lines_none L places s)

pub lines_then : (L : LineService) (places : List Place) (s m t : ProcessState) → ServesLines L places s m → ServesLines L places m t
    → ServesLines L places s t
lines_then L places s m t one two = record {
  deeds = one.deeds ++ two.deeds;
  done = does_all-append L s m t one.deeds two.deeds one.done two.done;
  silent = λ port at there.
      subst (λ (xs : List Step). IsSilent at xs) (sym (steps_in-append one.deeds two.deeds))
      (silent-append at (steps_in one.deeds) (steps_in two.deeds) (one.silent port at there) (two.silent port at there));
}

-- ---- steps

abbrev all_steps : List Step → List LineDeed
all_steps [] = []
all_steps (step ∷ rest) = steps step ∷ all_steps rest

does_steps : (L : LineService) (s t : ProcessState) (xs : List Step) → Steps L s xs t → DoesAll L s (all_steps xs) t
does_steps L s t [] none = none
does_steps L s t (x ∷ xs) (mid, made, rest) = (mid, made, does_steps L mid t xs rest)

steps_all : (xs : List Step) → steps_in (all_steps xs) ≡ xs
steps_all [] = refl
steps_all (x ∷ xs) = ap (λ (rest : List Step). x ∷ rest) (steps_all xs)

lines_steps : (L : LineService) (places : List Place) (s t : ProcessState) (xs : List Step) → Steps L s xs t
    → ((port : ℕ) (at : Place) → slice_get places port ≡ Some at → IsSilent at xs) → ServesLines L places s t
lines_steps L places s t xs made silent = record {
  deeds = all_steps xs;
  done = does_steps L s t xs made;
  silent = λ port at there. subst (λ (ys : List Step). IsSilent at ys) (sym (steps_all xs)) (silent port at there);
}

-- ---- each deed

pub lines_start : (L : LineService) (pads : List PadBinding) (places : List Place) (s t : ProcessState) → StartsOne L pads places s t
    → ServesLines L places s t
lines_start L pads places s t one =
    lines_then L places s one.between t
    (record { deeds = starts one.node ∷ []; done = (one.between, one.starts, refl); silent = λ port at there. silent-none at })
    (lines_steps L places one.between t one.absent.steps one.absent.passes.made one.absent.passes.silent)

pub lines_read : (L : LineService) (places : List Place) (place : ℕ) (old : List ℕ) (answer : Reading) (frame : List ℕ) (s t : ProcessState)
    → HasRead L place old s answer frame t → ServesLines L places s t
lines_read L places place old answer frame s t read =
    record { deeds = reads place ∷ []; done = (t, (old, answer, frame, read), refl); silent = λ port at there. silent-none at }

pub lines_carry : (L : LineService) (places : List Place) (s t : ProcessState) → t ≡ carried s → ServesLines L places s t
lines_carry L places s t is =
    record { deeds = hands_on ∷ []; done = (t, is, refl); silent = λ port at there. silent-none at }

-- ---- links that are given up

role_elsewhere : (role : Role) (line : ℕ) → is_at_terminal (given_up_by role line) ≡ false
role_elsewhere Dte line = refl
role_elsewhere Dce line = refl

given_up_on-elsewhere : (found : Option RemoteLine) (event : Event) → given_up_on found ≡ Some event → is_at_terminal event ≡ false
given_up_on-elsewhere None event is = cc
given_up_on-elsewhere (Some r) event is =
    let same : event ≡ given_up_at r.end = cc in ap is_at_terminal same ∙ role_elsewhere r.end.role r.end.line

event_at-elsewhere : (place : Option ℕ) (p : ProcessState) (event : Event) → event_at place p ≡ Some event
    → is_at_terminal event ≡ false
event_at-elsewhere None p event is = cc
event_at-elsewhere (Some place) p event is = given_up_on-elsewhere (slice_get p.lines place) event is

lines_given_up : (L : LineService) (places : List Place) (s t : ProcessState) → t ≡ after_given_up s → ServesLines L places s t
lines_given_up L places s t is =
    record { deeds = gives_up ∷ []; done = (t, is, refl); silent = λ port at there. silent-none at }

-- none is given up
pub lines_kept : (L : LineService) (s t : ProcessState) → t ≡ after_given_up s → (places : List Place) → ServesLines L places s t
lines_kept L s t is places = lines_given_up L places s t is

-- one is
pub lines_give_up : (L : LineService) (event : Event) (done : Bool) (s m t : ProcessState) → given_up s ≡ Some event
    → m ≡ after_given_up s → Does L event done m t → (places : List Place) → ServesLines L places s t
lines_give_up L event done s m t is after does places =
    lines_then L places s m t (lines_given_up L places s m after)
    (lines_steps L places m t (record { event = event; answer = does.answer } ∷ []) (t, does.stepped, refl)
    (λ port at there. elsewhere at event does.answer (event_at-elsewhere (position is_given_up s.lines) s event is)))

-- ---- all lines

abbrev pub ServesAll : LineService → (s t : ProcessState) → Type 0
ServesAll L s t = (places : List Place) → ServesLines L places s t

pub all_none : (L : LineService) (s : ProcessState) → ServesAll L s s
all_none L s places = lines_none L places s

pub all_read : (L : LineService) (place : ℕ) (old : List ℕ) (answer : Reading) (frame : List ℕ) (s m t : ProcessState) → ServesAll L s m
    → HasRead L place old m answer frame t → ServesAll L s t
all_read L place old answer frame s m t so_far read places =
    lines_then L places s m t (so_far places) (lines_read L places place old answer frame m t read)

-- what is read is seen, and nothing else changes
pub all_read_on : (L : LineService) (place : ℕ) (old : List ℕ) (answer : Reading) (frame : List ℕ) (s m t u : ProcessState)
    → ServesAll L s m → HasRead L place old m answer frame t → u ≡ t → ServesAll L s u
all_read_on L place old answer frame s m t u so_far read same places =
    subst (λ (v : ProcessState). ServesLines L places s v) (sym same)
    (all_read L place old answer frame s m t so_far read places)

-- ---- what a service does for them

starts_if : (L : LineService) (pads : List PadBinding) (places : List Place) (started : Bool) (s t : ProcessState)
    → OnTrue started (StartsOne L pads places s t) → OnFalse started (t ≡ s) → ServesLines L places s t
starts_if L pads places true s t one none = lines_start L pads places s t one
starts_if L pads places false s t one none = lines_same L places s t none

pub all_served : (L : LineService) (pads : List PadBinding) (places : List Place) (started : Bool) (s a b c t : ProcessState)
    → OnTrue started (StartsOne L pads places s a) → OnFalse started (a ≡ s) → ServesAll L a b → ServesAll L b c → t ≡ carried c
    → ServesLines L places s t
all_served L pads places started s a b c t one none given_up read carry =
    lines_then L places s a t (starts_if L pads places started s a one none)
    (lines_then L places a b t (given_up places)
    (lines_then L places b c t (read places) (lines_carry L places c t carry)))
