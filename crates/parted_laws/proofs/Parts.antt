-- What processes have as parts of one network, and when they are its parts again after one of them changed.
use Rattle.std.proofs.Common.{◌≡◌, ◌≢◌, ℕ, zero, suc, List, [], ◌∷◌, drop, set, Option, Some, None, refl, sym, ap, ◌∙◌, subst, inl, inr}
use Rattle.std.specs.Prelude.{◌⊎◌, slice_get}
use Rattle.std.proofs.lemmas.Option.{same_Some, none-some}
use Rattle.record_laws.proofs.Books.Basics.{number_is, set_here, set_elsewhere}
use Rattle.link_timers.specs.declared.role.Role.{Role}
use Rattle.link_timers.specs.declared.role.Role.TheVariants.{Dte, Dce}
use Rattle.lapb.specs.Machine.{Octets}
use Rattle.frame_lines.specs.declared.line.Direction.{Direction}
use Rattle.frame_lines.specs.declared.line.Direction.TheVariants.{FromDte, FromDce}
use Rattle.frame_lines.specs.Lines.{Flights, flying, with_flying, without_first, lossless_service}
use Rattle.net_events.specs.Network.{NetNode, NetLine, Network, LostAt, place_at}
use Rattle.net_nodes.specs.Carrying.{with_flights}
use Rattle.parted_laws.specs.Processes.{Processes, PartChanges, SameWires, IsLeftOf, emptied, line_in, flights_in, flights_at, ends_of, frames_between, on_way, AreOf}
use Rattle.parted_laws.specs.Events.{AreLost}
use Rattle.parted_laws.specs.Events.AreLost.{none_is, one_is}
use Rattle.parted_laws.proofs.Between.{between_alike}
use Rattle.parted_laws.proofs.OneLine.{AreLeft, without}

-- ---- lines

pub same_place : (role : Role) (l : NetLine) (f : Flights) → place_at role (record l { flights = f }) ≡ place_at role l
same_place Dte l f = refl
same_place Dce l f = refl

pub same_ends : (owner : ℕ → ℕ) (l : NetLine) (f : Flights) → ends_of owner (record l { flights = f }) ≡ ends_of owner l
same_ends owner l f = λ i role. owner (same_place role l f i)

-- a line that is the same but for the frames in flight
pub record SameLine (l : NetLine) (found : Option NetLine) : Type 0 where
  pub flights : Flights
  pub there : found ≡ Some (record l { flights = flights })

pub same_line : (l : NetLine) (found : Option NetLine) → line_in (Some l) ≡ line_in found → SameLine l found
same_line l None e = absurd (none-some (emptied l) (sym e))
same_line l (Some m) e =
    let same : emptied l ≡ emptied m = same_Some (emptied l) (emptied m) e in
    record { flights = m.flights; there = sym (ap Some (λ i. record (same i) { flights = m.flights })) }

-- ---- frames that the network loses

without_none : (d : Direction) (f : Flights) → without 0 d f ≡ f
without_none FromDte f = refl
without_none FromDce f = refl

drop_more : (n : ℕ) (frames : List Octets) → drop n (drop 1 frames) ≡ drop (suc n) frames
drop_more zero [] = refl
drop_more (suc n) [] = refl
drop_more n (f ∷ fs) = refl

without_more : (n : ℕ) (d : Direction) (f : Flights) → without n d (without_first d f) ≡ without (suc n) d f
without_more n FromDte f = ap (λ (x : List Octets). record f { from_dte = x }) (drop_more n f.from_dte)
without_more n FromDce f = ap (λ (x : List Octets). record f { from_dce = x }) (drop_more n f.from_dce)

-- the network when so many of the first frames were lost in a direction of a line
pub record WithLost (lost line : ℕ) (d : Direction) (l : NetLine) (f : Flights) (s : Network) : Type 0 where
  pub mid : Network
  pub are_lost : AreLost s mid
  pub there : slice_get mid.lines line ≡ Some (record l { flights = without lost d f })
  pub nodes : mid.nodes ≡ s.nodes
  pub others : (other : ℕ) → other ≢ line → slice_get mid.lines other ≡ slice_get s.lines other

pub with_lost : (lost line : ℕ) (d : Direction) (l : NetLine) (f : Flights) (s : Network) → slice_get s.lines line ≡ Some (record l { flights = f }) → WithLost lost line d l f s
with_lost zero line d l f s at = record {
  mid = s;
  are_lost = none_is s;
  there = at ∙ ap (λ (x : Flights). Some (record l { flights = x })) (sym (without_none d f));
  nodes = refl;
  others = λ other ne. refl;
}
with_lost (suc n) line d l f s at =
    let first : Network = with_flights line (record l { flights = f }) (without_first d f) s in
    let r = with_lost n line d l (without_first d f) first (set_here s.lines line (record l { flights = without_first d f }) (record l { flights = f }) at) in
    record {
      mid = r.mid;
      are_lost =
          one_is line d s first r.mid
          (record { line_is = record l { flights = f }; line_there = at; flights = without_first d f; rest = λ faithful. refl; others = refl })
          r.are_lost;
      there = r.there ∙ ap (λ (x : Flights). Some (record l { flights = x })) (without_more n d f);
      nodes = r.nodes;
      others = λ other ne. r.others other ne ∙ set_elsewhere s.lines line other (record l { flights = without_first d f }) ne;
    }

-- ---- a process changed

module _ (owner : ℕ → ℕ) (k : ℕ) (part : Network) (p q : Processes) (s : Network) (are : AreOf owner p s) (changes : PartChanges k part p q) (wires : SameWires p q) where
  -- what is in flight on a line
  pub other_flights : (line j : ℕ) → j ≢ k → flights_at line (q.parts j) ≡ flights_at line (p.parts j)
  other_flights line j ne = ap (λ (n : Network). flights_at line n) (changes.others j ne)

  pub its_flights : (line : ℕ) (l : NetLine) → slice_get part.lines line ≡ Some l → flights_at line (q.parts k) ≡ l.flights
  its_flights line l at = ap (λ (n : Network). flights_at line n) changes.here ∙ ap flights_in at

  -- the network's line
  pub its_line : (line : ℕ) (l : NetLine) → slice_get (p.parts k).lines line ≡ Some l → SameLine l (slice_get s.lines line)
  its_line line l at = same_line l (slice_get s.lines line) (sym (ap line_in at) ∙ are.lines k line)

  -- what was on its way there
  pub was_left : (line : ℕ) (l : NetLine) (f : Flights) → slice_get s.lines line ≡ Some (record l { flights = f })
      → AreLeft (ends_of owner l) (λ j. flights_at line (p.parts j)) (p.wires line) f
  was_left line l f at d =
      subst (λ (ends : Role → ℕ). IsLeftOf (frames_between ends (λ j. flights_at line (p.parts j)) (p.wires line) d) (flying d f)) (same_ends owner l f)
      (are.flights line (record l { flights = f }) d at)

  -- a line of the process is as it was, and so it is in the network that comes then
  pub record IsUntouched (after : Network) (line : ℕ) : Type 0 where
    pub here : slice_get part.lines line ≡ slice_get (p.parts k).lines line
    pub there : slice_get after.lines line ≡ slice_get s.lines line

  -- or other frames are in flight, of which those on their way are left
  pub record IsTouched (after : Network) (line : ℕ) : Type 0 where
    pub line_is : NetLine
    pub was : slice_get (p.parts k).lines line ≡ Some line_is
    pub here_flights : Flights
    pub here : slice_get part.lines line ≡ Some (record line_is { flights = here_flights })
    pub flights : Flights
    pub there : slice_get after.lines line ≡ Some (record line_is { flights = flights })
    pub left : AreLeft (ends_of owner line_is) (λ j. flights_at line (q.parts j)) (p.wires line) flights

  -- one node changed, alike in the process and in the network
  pub record ChangesAlike (after : Network) : Type 0 where
    pub place : ℕ
    pub own : owner place ≡ k
    pub was : NetNode
    pub was_there : slice_get s.nodes place ≡ Some was
    pub is : NetNode
    pub here : part.nodes ≡ set (p.parts k).nodes place is
    pub there : after.nodes ≡ set s.nodes place is

  module _ (after : Network) (changed : ChangesAlike after) (each : (line : ℕ) → IsUntouched after line ⊎ IsTouched after line) where
    own_nodes : (place : ℕ) → owner place ≡ k → slice_get (p.parts k).nodes place ≡ slice_get s.nodes place
    own_nodes place e = subst (λ (j : ℕ). slice_get (p.parts j).nodes place ≡ slice_get s.nodes place) e (are.nodes place)

    nodes_after : (place : ℕ) → slice_get (q.parts (owner place)).nodes place ≡ slice_get after.nodes place
    nodes_after place = elim (number_is (owner place) k) [
      | inl e ↦
          ap (λ (j : ℕ). slice_get (q.parts j).nodes place) e ∙ ap (λ (n : Network). slice_get n.nodes place) changes.here
          ∙ ap (λ (ns : List NetNode). slice_get ns place) changed.here ∙ same e ∙ ap (λ (ns : List NetNode). slice_get ns place) (sym changed.there)
      | inr ne ↦
          ap (λ (n : Network). slice_get n.nodes place) (changes.others (owner place) ne) ∙ are.nodes place
          ∙ sym (set_elsewhere s.nodes changed.place place changed.is (λ e. ne (ap owner e ∙ changed.own)))
          ∙ ap (λ (ns : List NetNode). slice_get ns place) (sym changed.there)
    ]
      where
        same : owner place ≡ k → slice_get (set (p.parts k).nodes changed.place changed.is) place ≡ slice_get (set s.nodes changed.place changed.is) place
        same e = elim (number_is place changed.place) [
          | inl at ↦
              subst (λ (i : ℕ). slice_get (set (p.parts k).nodes changed.place changed.is) i ≡ slice_get (set s.nodes changed.place changed.is) i) (sym at)
              (set_here (p.parts k).nodes changed.place changed.is changed.was (own_nodes changed.place changed.own ∙ changed.was_there)
              ∙ sym (set_here s.nodes changed.place changed.is changed.was changed.was_there))
          | inr ne ↦
              set_elsewhere (p.parts k).nodes changed.place place changed.is ne ∙ own_nodes place e
              ∙ sym (set_elsewhere s.nodes changed.place place changed.is ne)
        ]

    -- the line is the same but for the frames in flight
    line_stays : (line : ℕ) → IsUntouched after line ⊎ IsTouched after line
        → (line_in (slice_get part.lines line) ≡ line_in (slice_get (p.parts k).lines line)) × (line_in (slice_get after.lines line) ≡ line_in (slice_get s.lines line))
    line_stays line (inl u) = (ap line_in u.here, ap line_in u.there)
    line_stays line (inr t) = (
      ap line_in t.here ∙ sym (ap line_in t.was),
      ap line_in t.there ∙ sym (ap line_in t.was) ∙ are.lines k line,
    )

    lines_after : (j line : ℕ) → line_in (slice_get (q.parts j).lines line) ≡ line_in (slice_get after.lines line)
    lines_after j line = elim (number_is j k) [
      | inl e ↦
          ap (λ (i : ℕ). line_in (slice_get (q.parts i).lines line)) e ∙ ap (λ (n : Network). line_in (slice_get n.lines line)) changes.here
          ∙ (line_stays line (each line)).0 ∙ are.lines k line ∙ sym (line_stays line (each line)).1
      | inr ne ↦ ap (λ (n : Network). line_in (slice_get n.lines line)) (changes.others j ne) ∙ are.lines j line ∙ sym (line_stays line (each line)).1
    ]

    flights_after : (line : ℕ) (l : NetLine) (d : Direction) → slice_get after.lines line ≡ Some l → IsUntouched after line ⊎ IsTouched after line
        → IsLeftOf (on_way owner q line l d) (flying d l.flights)
    flights_after line l d at (inl u) =
        subst (λ (x : List Octets). IsLeftOf x (flying d l.flights))
        (sym (between_alike (ends_of owner l) (λ j. flights_at line (p.parts j)) (λ j. flights_at line (q.parts j)) (p.wires line) (q.wires line) d same (wires line d)))
        (are.flights line l d (sym u.there ∙ at))
      where
        same : (j : ℕ) → flying d (flights_at line (q.parts j)) ≡ flying d (flights_at line (p.parts j))
        same j = elim (number_is j k) [
          | inl e ↦
              ap (λ (i : ℕ). flying d (flights_at line (q.parts i))) e
              ∙ ap (λ (n : Network). flying d (flights_at line n)) changes.here
              ∙ ap (λ (o : Option NetLine). flying d (flights_in o)) u.here
              ∙ ap (λ (i : ℕ). flying d (flights_at line (p.parts i))) (sym e)
          | inr ne ↦ ap (λ (f : Flights). flying d f) (other_flights line j ne)
        ]
    flights_after line l d at (inr t) =
        let m : NetLine = record t.line_is { flights = t.flights } in
        subst (λ (x : NetLine). IsLeftOf (on_way owner q line x d) (flying d x.flights)) (same_Some m l (sym t.there ∙ at))
        (subst (λ (ends : Role → ℕ). IsLeftOf (frames_between ends (λ j. flights_at line (q.parts j)) (q.wires line) d) (flying d t.flights)) (sym (same_ends owner t.line_is t.flights))
        (subst (λ (x : List Octets). IsLeftOf x (flying d t.flights))
        (sym (between_alike (ends_of owner t.line_is) (λ j. flights_at line (q.parts j)) (λ j. flights_at line (q.parts j)) (p.wires line) (q.wires line) d (λ j. refl) (wires line d)))
        (t.left d)))

    pub are_after : AreOf owner q after
    are_after = record {
      nodes = nodes_after;
      lines = lines_after;
      flights = λ line l d at. flights_after line l d at (each line);
    }
