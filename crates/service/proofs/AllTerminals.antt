-- All terminals, and a round.
use Rattle.std.proofs.Common.{◌≡◌, ◌≢◌, ◌⊎◌, ℕ, Bool, true, false, ◌||◌, List, [], ◌∷◌, ◌++◌, ◌<◌, ◌+◌, length, set, slice_get, Option, Some, None, refl, sym, ap, ◌∙◌, arith, inl, inr, append_assoc, subst, get_or, zero, suc}
use Rattle.std.proofs.Math.ListN.{length-set}
use Rattle.std.proofs.lemmas.Bool.{cases_eq}
use Rattle.std.proofs.lemmas.Option.{slice_get_within}
use Rattle.circular_buffer.proofs.Places.{slice_get-set_same, slice_get-set_other}
use Rattle.frame_lines.specs.declared.line.Direction.{Direction}
use Rattle.frame_lines.specs.declared.line.Direction.TheVariants.{FromDte, FromDce}
use Rattle.frame_lines.specs.Lines.{LineService}
use Rattle.net_events.specs.declared.event.Event.{Event}
use Rattle.net_events.specs.declared.event.Event.TheVariants.{Deliver}
use Rattle.net_process.specs.Process.{ProcessState, due_here}
use Rattle.service.specs.declared.bridges.BridgePort.{BridgePort}
use Rattle.service.specs.declared.place.Place.{Place}
use Rattle.service.specs.declared.terminal.Terminal.{Terminal}
use Rattle.service.specs.Places.{AreApart}
use Rattle.service.specs.Steps.{Step, HasTried, Does, PassesBy, Passes, is_at_terminal}
use Rattle.service.specs.Serving.{IsServed, Wishes, Serves, WorksBy, ServesBelow, DeliversBelow, Expires, NoneIsDue, is_expiry, Works}
use Rattle.service.proofs.Stepping.{steps-append, silent-none, idle-append, aside-append, expiry_aside, tried-left, tried-right, tried_step, neither_left, neither_right, passes_by-then, passes_step}
use Rattle.service.specs.AllBridges.{AreOnOwnChannels, AreBridged, ServesBridges, WorksForAll}
use Rattle.service.proofs.Served.{served_silent, served_then}
use Rattle.service.proofs.EachBridge.{are_none, are-then, through_round}

-- ---- all terminals

pub works_by-none : (L : LineService) (places : List Place) (s : ProcessState) (terminals : List Terminal) → WorksBy L places [] s s terminals terminals
works_by-none L places s terminals = record {
  made = refl;
  count = refl;
  each = λ port at p seat there. (p, there, served_silent at [] p (silent-none at));
}

pub works_by-then : (L : LineService) (places : List Place) (xs ys : List Step) (s m t : ProcessState) (before between after : List Terminal)
    → WorksBy L places xs s m before between → WorksBy L places ys m t between after → WorksBy L places (xs ++ ys) s t before after
works_by-then L places xs ys s m t before between after one two = record {
  made = steps-append L s m t xs ys one.made two.made;
  count = two.count ∙ one.count;
  each = λ port at p seat there.
      let first = one.each port at p seat there in
      let second = two.each port at first.0 seat first.1 in
      (second.0, second.1, served_then at xs ys p first.0 second.0 first.2 second.2);
}

-- steps that are nothing at any terminal
pub works_by-pass : (L : LineService) (places : List Place) (steps : List Step) (more : Bool) (s t : ProcessState) (terminals : List Terminal)
    → PassesBy L steps more s t → WorksBy L places steps s t terminals terminals
works_by-pass L places steps more s t terminals passes = record {
  made = passes.made;
  count = refl;
  each = λ port at p seat there. (p, there, served_silent at steps p (passes.silent at));
}

-- two ports have two places
apart_places : (places : List Place) (port other : ℕ) (at place : Place) → AreApart places → slice_get places port ≡ Some at
    → slice_get places other ≡ Some place → other ≢ port → place ≢ at
apart_places places port other at place apart seat seated differ same =
    differ (apart other port at (seated ∙ ap Some same) seat)

one_at : (L : LineService) (places : List Place) (port : ℕ) (at : Place) (Wish : Terminal → Event → Type 0) (more : Bool) (s t : ProcessState) (p q : Terminal)
    (terminals : List Terminal) (one : Serves L at Wish more s t p q) → AreApart places → slice_get places port ≡ Some at → slice_get terminals port ≡ Some p
    → (other : ℕ) (place : Place) (r : Terminal) → slice_get places other ≡ Some place → slice_get terminals other ≡ Some r
    → (after : Terminal) × (slice_get (set terminals port q) other ≡ Some after) × IsServed place one.steps r after
one_at L places port at Wish more s t p q terminals one apart seat there other place r seated is = elim (cases_eq other port) [
  | inl e ↦
      let found : slice_get terminals port ≡ Some r = ap (λ n. slice_get terminals n) (sym e) ∙ is in
      let same_terminal : p ≡ r = cc in
      let here : slice_get places port ≡ Some place = ap (λ n. slice_get places n) (sym e) ∙ seated in
      let same_place : at ≡ place = cc in (
        q,
        ap (λ n. slice_get (set terminals port q) n) e ∙ slice_get-set_same terminals port q (slice_get_within terminals port p there),
        subst (λ (n : Place). IsServed n one.steps r q) same_place (subst (λ (x : Terminal). IsServed at one.steps x q) same_terminal one.served),
      )
  | inr differ ↦ (
    r,
    slice_get-set_other terminals port other q differ ∙ is,
    served_silent place one.steps r (one.silent place (apart_places places port other at place apart seat seated differ)),
  )
]

works_by-one : (L : LineService) (places : List Place) (port : ℕ) (at : Place) (Wish : Terminal → Event → Type 0) (more : Bool) (s t : ProcessState) (p q : Terminal)
    (terminals : List Terminal) (one : Serves L at Wish more s t p q) → AreApart places → slice_get places port ≡ Some at → slice_get terminals port ≡ Some p
    → WorksBy L places one.steps s t terminals (set terminals port q)
works_by-one L places port at Wish more s t p q terminals one apart seat there = record {
  made = one.made;
  count = length-set terminals port q;
  each = λ other place r seated is. one_at L places port at Wish more s t p q terminals one apart seat there other place r seated is;
}

set_same : (terminals : List Terminal) (port : ℕ) (p : Terminal) → slice_get terminals port ≡ Some p → set terminals port p ≡ terminals
set_same [] port p there = cc
set_same (q ∷ terminals) zero p there = let is : p ≡ q = cc in ap (λ r. r ∷ terminals) is
set_same (q ∷ terminals) (suc port) p there = ap (λ rest. q ∷ rest) (set_same terminals port p there)

pub below_none : (L : LineService) (places : List Place) (s : ProcessState) (terminals : List Terminal) → ServesBelow L places 0 false s s terminals terminals
below_none L places s terminals = record {
  steps = [];
  works = works_by-none L places s terminals;
  aside = refl;
  same = λ none. refl;
  idle = λ none. refl;
  tried = λ none port at q event below seat there wish. absurd (omega arith);
}

-- what the terminals below the next number wish
tried_below : (places : List Place) (port : ℕ) (at : Place) (xs ys : List Step) (q : Terminal) (between : List Terminal) (p : Terminal)
    → slice_get places port ≡ Some at → slice_get between port ≡ Some p
    → ((other : ℕ) (place : Place) (r : Terminal) (event : Event) → other < port → slice_get places other ≡ Some place → slice_get between other ≡ Some r
    → Wishes place r event → HasTried event xs)
    → ((event : Event) → Wishes at q event → HasTried event ys)
    → (other : ℕ) (place : Place) (r : Terminal) (event : Event) → other < port + 1 → slice_get places other ≡ Some place
    → slice_get (set between port q) other ≡ Some r → Wishes place r event → HasTried event (xs ++ ys)
tried_below places port at xs ys q between p seat there before here other place r event below seated is wish = elim (cases_eq other port) [
  | inl e ↦
      let set_there : slice_get (set between port q) port ≡ Some q = slice_get-set_same between port q (slice_get_within between port p there) in
      let found : slice_get (set between port q) port ≡ Some r = ap (λ n. slice_get (set between port q) n) (sym e) ∙ is in
      let same_terminal : r ≡ q = cc in
      let seated_here : slice_get places port ≡ Some place = ap (λ n. slice_get places n) (sym e) ∙ seated in
      let same_place : place ≡ at = cc in
      tried-right event xs ys (here event (subst (λ (n : Place). Wishes n q event) same_place (subst (λ (x : Terminal). Wishes place x event) same_terminal wish)))
  | inr differ ↦
      let lower : other < port = omega arith in
      tried-left event xs ys (before other place r event lower seated (sym (slice_get-set_other between port other q differ) ∙ is) wish)
]

pub below_more : (L : LineService) (places : List Place) (port : ℕ) (at : Place) (any done : Bool) (s m t : ProcessState) (before between : List Terminal) (p q : Terminal)
    → AreApart places → ServesBelow L places port any s m before between → Serves L at (Wishes at) done m t p q
    → slice_get places port ≡ Some at → slice_get between port ≡ Some p → ServesBelow L places (port + 1) (any || done) s t before (set between port q)
below_more L places port at any done s m t before between p q apart one two seat there = record {
  steps = one.steps ++ two.steps;
  works = works_by-then L places one.steps two.steps s m t before between (set between port q) one.works
      (works_by-one L places port at (Wishes at) done m t p q between two apart seat there);
  aside = aside-append one.steps two.steps one.aside two.aside;
  same = λ none.
      ap (λ r. set between port r) (two.same (neither_right any done none))
      ∙ set_same between port p there
      ∙ one.same (neither_left any done none);
  idle = λ none. idle-append one.steps two.steps (one.idle (neither_left any done none)) (two.idle (neither_right any done none));
  tried = λ none. tried_below places port at one.steps two.steps q between p seat there (one.tried (neither_left any done none)) (two.tried (neither_right any done none));
}

-- an element that is read at its place is there
pub there_at : {X : Type 0} (xs : List X) (place : ℕ) (x d : X) → place < length xs → x ≡ get_or xs place d → slice_get xs place ≡ Some x
there_at [] place x d within is = absurd (omega arith)
there_at (y ∷ xs) zero x d within is = ap Some (sym is)
there_at (y ∷ xs) (suc place) x d within is = there_at xs place x d (omega arith) is

-- ---- all lines

pub delivers_none : (L : LineService) (s : ProcessState) → DeliversBelow L 0 false s s
delivers_none L s = record {
  steps = [];
  passes = record { made = refl; silent = λ at. silent-none at; idle = λ none. refl };
  aside = refl;
  tried = λ none line direction below. absurd (omega arith);
}

delivered : (line other : ℕ) (direction : Direction) (xs ys zs : List Step) → (other ≡ line) ⊎ HasTried (Deliver other direction) xs
    → HasTried (Deliver line FromDte) ys → HasTried (Deliver line FromDce) zs → HasTried (Deliver other direction) (xs ++ (ys ++ zs))
delivered line other direction xs ys zs (inr before) from_dte from_dce = tried-left (Deliver other direction) xs (ys ++ zs) before
delivered line other FromDte xs ys zs (inl e) from_dte from_dce =
    tried-right (Deliver other FromDte) xs (ys ++ zs) (tried-left (Deliver other FromDte) ys zs
    (subst (λ n. HasTried (Deliver n FromDte) ys) (sym e) from_dte))
delivered line other FromDce xs ys zs (inl e) from_dte from_dce =
    tried-right (Deliver other FromDce) xs (ys ++ zs) (tried-right (Deliver other FromDce) ys zs
    (subst (λ n. HasTried (Deliver n FromDce) zs) (sym e) from_dce))

here_or_below : (other line : ℕ) (P : Type 0) → (other < line → P) → other < line + 1 → (other ≡ line) ⊎ P
here_or_below other line P before below = elim (cases_eq other line) [
  | inl e ↦ inl e
  | inr apart ↦ let lower : other < line = omega arith in inr (before lower)
]

pub delivers_more : (L : LineService) (line : ℕ) (any dte dce : Bool) (s m n t : ProcessState) → DeliversBelow L line any s m
    → Does L (Deliver line FromDte) dte m n → Does L (Deliver line FromDce) dce n t → DeliversBelow L (line + 1) (any || (dte || dce)) s t
delivers_more L line any dte dce s m n t one from_dte from_dce =
    let ys : List Step = record { event = Deliver line FromDte; answer = from_dte.answer } ∷ [] in
    let zs : List Step = record { event = Deliver line FromDce; answer = from_dce.answer } ∷ [] in
    record {
      steps = one.steps ++ (ys ++ zs);
      passes = passes_by-then L any (dte || dce) (any || (dte || dce)) s m t one.steps (ys ++ zs)
          (λ none. neither_left any (dte || dce) none) (λ none. neither_right any (dte || dce) none) one.passes
          (passes_by-then L dte dce (dte || dce) m n t ys zs (λ none. neither_left dte dce none) (λ none. neither_right dte dce none)
          (passes_step L (Deliver line FromDte) dte m n refl from_dte) (passes_step L (Deliver line FromDce) dce n t refl from_dce));
      aside = aside-append one.steps (ys ++ zs) one.aside refl;
      tried = λ none other direction below.
          delivered line other direction one.steps ys zs
          (here_or_below other line (HasTried (Deliver other direction) one.steps)
          (one.tried (neither_left any (dte || dce) none) other direction) below)
          (tried_step (Deliver line FromDte) (Deliver line FromDte) from_dte.answer refl)
          (tried_step (Deliver line FromDce) (Deliver line FromDce) from_dce.answer refl);
    }

-- ---- the timer that is due

pub expires_none : (L : LineService) (s : ProcessState) → ((place : ℕ) → due_here s place ≡ None) → Expires L false s s
expires_none L s due = record {
  steps = [];
  passes = record { made = refl; silent = λ at. silent-none at; idle = λ none. refl };
  aside = refl;
  none = λ none. inl due;
}

pub expires_one : (L : LineService) (event : Event) (done : Bool) (s t : ProcessState) → is_at_terminal event ≡ false → is_expiry event ≡ true
    → Does L event done s t → Expires L done s t
expires_one L event done s t other expiry does = record {
  steps = record { event = event; answer = does.answer } ∷ [];
  passes = passes_step L event done s t other does;
  aside = expiry_aside event does.answer expiry;
  none = λ none. inr (event, expiry, tried_step event event does.answer refl);
}

-- ---- a round

within_before : (port : ℕ) (q : Terminal) (after before : List Terminal) → slice_get after port ≡ Some q → length after ≡ length before
    → port < length before
within_before port q after before there count =
    let within = slice_get_within after port q there in
    omega arith

due_among : (xs ys zs ws : List Step) (t : ProcessState) → NoneIsDue t ws → NoneIsDue t (xs ++ (ys ++ (zs ++ ws)))
due_among xs ys zs ws t (inl none) = inl none
due_among xs ys zs ws t (inr one) =
    inr (one.0, one.1, tried-right one.0 xs (ys ++ (zs ++ ws)) (tried-right one.0 ys (zs ++ ws) (tried-right one.0 zs ws one.2)))

pub rounds : (L : LineService) (places : List Place) (lines : ℕ) (served called moved expired more : Bool) (s a b c t : ProcessState) (before after : List Terminal)
    → (more ≡ false → (served ≡ false) × (called ≡ false) × (moved ≡ false) × (expired ≡ false))
    → ServesBelow L places (length before) served s a before after → Passes L called a b → DeliversBelow L lines moved b c → Expires L expired c t
    → Works L places lines more s t before after
rounds L places lines served called moved expired more s a b c t before after nothing one two three four =
    let xs = one.steps in
    let ys = two.0 in
    let zs = three.steps in
    let ws = four.steps in
    let last_two = passes_by-then L moved expired more b c t zs ws (λ none. (nothing none).2) (λ none. (nothing none).3) three.passes four.passes in
    let last_three = passes_by-then L called more more a b t ys (zs ++ ws) (λ none. (nothing none).1) (λ none. none) two.1 last_two in
    record {
      steps = [];
      last = xs ++ (ys ++ (zs ++ ws));
      works = works_by-then L places xs (ys ++ (zs ++ ws)) s a t before after after one.works (works_by-pass L places (ys ++ (zs ++ ws)) more a t after last_three);
      rests = λ none. record {
        idle = idle-append xs (ys ++ (zs ++ ws)) (one.idle (nothing none).0) (last_three.idle none);
        terminals_tried = λ port at q event seat there wish. tried-left event xs (ys ++ (zs ++ ws))
            (one.tried (nothing none).0 port at q event (within_before port q after before there one.works.count) seat there wish);
        lines_tried = λ line direction below. tried-right (Deliver line direction) xs (ys ++ (zs ++ ws))
            (tried-right (Deliver line direction) ys (zs ++ ws) (tried-left (Deliver line direction) zs ws (three.tried (nothing none).2 line direction below)));
        none_is_due = due_among xs ys zs ws t (four.none (nothing none).3);
      };
    }

-- ---- round after round

pub works_start : (L : LineService) (places : List Place) (lines : ℕ) (s : ProcessState) (terminals : List Terminal) → Works L places lines true s s terminals terminals
works_start L places lines s terminals = record {
  steps = [];
  last = [];
  works = works_by-none L places s terminals;
  rests = λ none. cc;
}

pub works_then : (L : LineService) (places : List Place) (lines : ℕ) (more : Bool) (s m t : ProcessState) (before between after : List Terminal)
    → Works L places lines true s m before between → Works L places lines more m t between after → Works L places lines more s t before after
works_then L places lines more s m t before between after one two = record {
  steps = (one.steps ++ one.last) ++ two.steps;
  last = two.last;
  works = subst (λ steps. WorksBy L places steps s t before after) (sym (append_assoc (one.steps ++ one.last) two.steps two.last))
      (works_by-then L places (one.steps ++ one.last) (two.steps ++ two.last) s m t before between after one.works two.works);
  rests = two.rests;
}

pub works_on : (L : LineService) (places here : List Place) (lines there : ℕ) (done more : Bool) (s m t : ProcessState) (before between after : List Terminal)
    → here ≡ places → there ≡ lines → done ≡ more → Works L places lines true s m before between → Works L here there done m t between after
    → Works L places lines more s t before after
works_on L places here lines there done more s m t before between after places_is lines_is more_is one two =
    works_then L places lines more s m t before between after one
    (subst (λ b. Works L places lines b m t between after) more_is
    (subst (λ n. Works L places n done m t between after) lines_is
    (subst (λ n. Works L n there done m t between after) places_is two)))

pub works_at : (L : LineService) (there places : List Place) (lines : ℕ) (more : Bool) (s t : ProcessState) (before after : List Terminal)
    → there ≡ places → Works L there lines more s t before after → Works L places lines more s t before after
works_at L there places lines more s t before after is works = subst (λ (n : List Place). Works L n lines more s t before after) is works

pub below_all : (L : LineService) (places : List Place) (below all : ℕ) (more : Bool) (s t : ProcessState) (before after : List Terminal) → below ≡ all
    → ServesBelow L places below more s t before after → ServesBelow L places all more s t before after
below_all L places below all more s t before after is serves = subst (λ n. ServesBelow L places n more s t before after) is serves

pub delivers_all : (L : LineService) (below all : ℕ) (more : Bool) (s t : ProcessState) → below ≡ all → DeliversBelow L below more s t
    → DeliversBelow L all more s t
delivers_all L below all more s t is delivers = subst (λ n. DeliversBelow L n more s t) is delivers

-- what a round found, of which each part is a test
pub round_none : (a b c d : Bool) → (((a || b) || c) || d) ≡ false → (a ≡ false) × (b ≡ false) × (c ≡ false) × (d ≡ false)
round_none false false false false none = (refl, refl, refl, refl)
round_none true b c d none = cc
round_none false true c d none = cc
round_none false false true d none = cc
round_none false false false true none = cc

-- ---- terminals and bridges

pub all_round : (L : LineService) (places : List Place) (lines : ℕ) (served called moved expired more : Bool) (s a b c t : ProcessState)
    (before after : List Terminal) (bridges later : List BridgePort)
    → (more ≡ false → (served ≡ false) × (called ≡ false) × (moved ≡ false) × (expired ≡ false)) → AreOnOwnChannels bridges
    → ServesBelow L places (length before) served s a before after → ServesBridges L called a b bridges later
    → DeliversBelow L lines moved b c → Expires L expired c t → WorksForAll L places lines more s t before after bridges later
unfolding rounds
all_round L places lines served called moved expired more s a b c t before after bridges later nothing own one two three four = record {
  works = rounds L places lines served called moved expired more s a b c t before after nothing one (two.steps, two.passes) three four;
  bridged = (through_round one.steps two.steps three.steps four.steps bridges later one.aside two.through three.aside four.aside).each own;
}

pub all_start : (L : LineService) (places : List Place) (lines : ℕ) (s : ProcessState) (terminals : List Terminal) (bridges : List BridgePort)
    → WorksForAll L places lines true s s terminals terminals bridges bridges
unfolding works_start
all_start L places lines s terminals bridges = record { works = works_start L places lines s terminals; bridged = are_none bridges }

pub all_then : (L : LineService) (places : List Place) (lines : ℕ) (more : Bool) (s m t : ProcessState) (before between after : List Terminal)
    (bridges mid later : List BridgePort) → WorksForAll L places lines true s m before between bridges mid
    → WorksForAll L places lines more m t between after mid later → WorksForAll L places lines more s t before after bridges later
unfolding works_then
all_then L places lines more s m t before between after bridges mid later one two =
    record {
      works = works_then L places lines more s m t before between after one.works two.works;
      bridged = subst (λ (steps : List Step). AreBridged steps bridges later)
          (sym (append_assoc (one.works.steps ++ one.works.last) two.works.steps two.works.last))
          (are-then (one.works.steps ++ one.works.last) (two.works.steps ++ two.works.last) bridges mid later one.bridged two.bridged);
    }

pub all_on : (L : LineService) (places here : List Place) (lines there : ℕ) (done more : Bool) (s m t : ProcessState)
    (before between after : List Terminal) (bridges mid later : List BridgePort) → here ≡ places → there ≡ lines → done ≡ more
    → WorksForAll L places lines true s m before between bridges mid → WorksForAll L here there done m t between after mid later
    → WorksForAll L places lines more s t before after bridges later
all_on L places here lines there done more s m t before between after bridges mid later places_is lines_is more_is one two =
    all_then L places lines more s m t before between after bridges mid later one
    (subst (λ (b : Bool). WorksForAll L places lines b m t between after mid later) more_is
    (subst (λ (n : ℕ). WorksForAll L places n done m t between after mid later) lines_is
    (subst (λ (n : List Place). WorksForAll L n there done m t between after mid later) places_is two)))

pub all_at : (L : LineService) (there places : List Place) (lines : ℕ) (more : Bool) (s t : ProcessState) (before after : List Terminal)
    (bridges later : List BridgePort) → there ≡ places → WorksForAll L there lines more s t before after bridges later
    → WorksForAll L places lines more s t before after bridges later
all_at L there places lines more s t before after bridges later is works =
    subst (λ (n : List Place). WorksForAll L n lines more s t before after bridges later) is works
