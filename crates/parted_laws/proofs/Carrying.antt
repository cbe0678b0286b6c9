-- Frames that are carried from process to process, or lost on the way, change nothing in the network.
use Rattle.std.proofs.Common.{◌≡◌, ◌≢◌, ℕ, List, [], ◌∷◌, ◌++◌, drop, set, Option, Some, None, refl, sym, ap, ◌∙◌, subst, inl, inr, true}
use Rattle.std.specs.Prelude.{◌⊎◌, slice_get}
use Rattle.std.proofs.lemmas.Option.{same_Some}
use Rattle.record_laws.proofs.Books.Basics.{number_is, set_here, set_elsewhere}
use Rattle.link_timers.specs.declared.role.Role.{Role}
use Rattle.lapb.specs.Machine.{Octets}
use Rattle.frame_lines.specs.declared.line.Direction.{Direction}
use Rattle.frame_lines.specs.Lines.{Flights, LineService, flying, with_flying, without_first, IsPut}
use Rattle.net_events.specs.Network.{NetNode, NetLine, Network, LostAt}
use Rattle.net_nodes.specs.Carrying.{with_flights}
use Rattle.net_nodes.specs.Steps.{hearer}
use Rattle.parted_laws.specs.Processes.{Processes, PartChanges, SameWires, WireChanges, IsLeftOf, line_in, sender, flights_in, flights_at, ends_of, frames_between, on_way, AreOf}
use Rattle.parted_laws.specs.Moves.{Carries, CarryLaw, HandsOn, PutsOn, Breaks, HandLaw, PutLaw, BreakLaw}
use Rattle.std.proofs.lemmas.List.{append-nil}
use Rattle.parted_laws.proofs.Left.{all_left, none_left, drop_left, same_left, left_and_left, left_of_left}
use Rattle.parted_laws.proofs.Between.{between_alike, between_left, left_but, handed_between, received_between}
use Rattle.parted_laws.proofs.Puts.{flying_here, flying_there, same_direction}
use Rattle.parted_laws.proofs.OneLine.{first_is}
use Rattle.parted_laws.proofs.Parts.{same_ends, SameLine, same_line}

-- ---- the network stays

pub carried : CarryLaw
carried owner p q s are carries = record {
  nodes = λ place. carries.nodes place ∙ are.nodes place;
  lines = λ k line. carries.lines k line ∙ are.lines k line;
  flights = λ line l d at. left_of_left (less line l d at) (are.flights line l d at);
}
  where
    less : (line : ℕ) (l : NetLine) (d : Direction) → slice_get s.lines line ≡ Some l → IsLeftOf (on_way owner q line l d) (on_way owner p line l d)
    less line l d at =
        let here : SameLine l (slice_get (p.parts 0).lines line) = same_line l (slice_get (p.parts 0).lines line) (sym (ap line_in at) ∙ sym (are.lines 0 line)) in
        subst (λ (ends : Role → ℕ). IsLeftOf (frames_between ends (λ j. flights_at line (q.parts j)) (q.wires line) d) (frames_between ends (λ j. flights_at line (p.parts j)) (p.wires line) d))
        (same_ends owner l here.flights) (carries.less 0 line (record l { flights = here.flights }) d here.there)

-- ---- one process changes, and of what it has in flight some may be gone

module _ (owner : ℕ → ℕ) (k : ℕ) (part : Network) (p q : Processes) (changes : PartChanges k part p q) (nodes : part.nodes ≡ (p.parts k).nodes)
    (lines : (line : ℕ) → line_in (slice_get part.lines line) ≡ line_in (slice_get (p.parts k).lines line)) where
  same_nodes : (place : ℕ) → slice_get (q.parts (owner place)).nodes place ≡ slice_get (p.parts (owner place)).nodes place
  same_nodes place = elim (number_is (owner place) k) [
    | inl e ↦
        ap (λ (j : ℕ). slice_get (q.parts j).nodes place) e ∙ ap (λ (n : Network). slice_get n.nodes place) changes.here
        ∙ ap (λ (ns : List NetNode). slice_get ns place) nodes ∙ ap (λ (j : ℕ). slice_get (p.parts j).nodes place) (sym e)
    | inr ne ↦ ap (λ (n : Network). slice_get n.nodes place) (changes.others (owner place) ne)
  ]

  same_lines : (j line : ℕ) → line_in (slice_get (q.parts j).lines line) ≡ line_in (slice_get (p.parts j).lines line)
  same_lines j line = elim (number_is j k) [
    | inl e ↦
        ap (λ (i : ℕ). line_in (slice_get (q.parts i).lines line)) e ∙ ap (λ (n : Network). line_in (slice_get n.lines line)) changes.here
        ∙ lines line ∙ ap (λ (i : ℕ). line_in (slice_get (p.parts i).lines line)) (sym e)
    | inr ne ↦ ap (λ (n : Network). line_in (slice_get n.lines line)) (changes.others j ne)
  ]

  others : (line j : ℕ) → j ≢ k → flights_at line (q.parts j) ≡ flights_at line (p.parts j)
  others line j ne = ap (λ (n : Network). flights_at line n) (changes.others j ne)

  -- where some are gone
  some_less : (line : ℕ) (l : NetLine) (d : Direction) → IsLeftOf (flying d (flights_at line part)) (flying d (flights_at line (p.parts k))) → IsLeftOf (q.wires line d) (p.wires line d)
      → IsLeftOf (on_way owner q line l d) (on_way owner p line l d)
  some_less line l d some wire =
      between_left (ends_of owner l) (λ j. flights_at line (p.parts j)) (λ j. flights_at line (q.parts j)) (p.wires line) (q.wires line) d
      (left_but (ends_of owner l) k (λ j. flights_at line (p.parts j)) (λ j. flights_at line (q.parts j)) (others line) d
      (subst (λ (n : Network). IsLeftOf (flying d (flights_at line n)) (flying d (flights_at line (p.parts k)))) (sym changes.here) some)) wire

  -- so it is on all lines
  pub carries_by : ((line : ℕ) (d : Direction) → IsLeftOf (flying d (flights_at line part)) (flying d (flights_at line (p.parts k))))
      → ((line : ℕ) (d : Direction) → IsLeftOf (q.wires line d) (p.wires line d)) → Carries owner p q
  carries_by some wires = record { nodes = same_nodes; lines = same_lines; less = λ j line l d at. some_less line l d (some line d) (wires line d) }

  -- or on all but one, in one direction
  pub carries_but : (line : ℕ) (d : Direction) → ((m : ℕ) (e : Direction) → ((m ≡ line) × (e ≡ d) → ⊥) → flying e (flights_at m part) ≡ flying e (flights_at m (p.parts k)))
      → ((m : ℕ) (e : Direction) → ((m ≡ line) × (e ≡ d) → ⊥) → q.wires m e ≡ p.wires m e)
      → ((j : ℕ) (l : NetLine) → slice_get (p.parts j).lines line ≡ Some l → IsLeftOf (on_way owner q line l d) (on_way owner p line l d)) → Carries owner p q
  carries_but line d same wires there = record { nodes = same_nodes; lines = same_lines; less = λ j m l e at. by j m l e at }
    where
      elsewhere : (m : ℕ) (l : NetLine) (e : Direction) → ((m ≡ line) × (e ≡ d) → ⊥) → IsLeftOf (on_way owner q m l e) (on_way owner p m l e)
      elsewhere m l e ne =
          some_less m l e (same_left (flying e (flights_at m part)) (flying e (flights_at m (p.parts k))) (same m e ne)) (same_left (q.wires m e) (p.wires m e) (wires m e ne))

      by : (j m : ℕ) (l : NetLine) (e : Direction) → slice_get (p.parts j).lines m ≡ Some l → IsLeftOf (on_way owner q m l e) (on_way owner p m l e)
      by j m l e at = elim (number_is m line) [
        | inl same_line ↦ elim (same_direction d e) [
          | inl same_way ↦
              subst (λ (i : ℕ). IsLeftOf (on_way owner q i l e) (on_way owner p i l e)) (sym same_line)
              (subst (λ (x : Direction). IsLeftOf (on_way owner q line l x) (on_way owner p line l x)) (sym same_way)
              (there j l (subst (λ (i : ℕ). slice_get (p.parts j).lines i ≡ Some l) same_line at)))
          | inr ne ↦ elsewhere m l e (λ x. ne x.1)
        ]
        | inr ne ↦ elsewhere m l e (λ x. ne x.0)
      ]

-- ---- the frames in flight on one line of a process change

pub lines_with : (line : ℕ) (l : NetLine) (f : Flights) (s : Network) → slice_get s.lines line ≡ Some l → (m : ℕ) → line_in (slice_get (with_flights line l f s).lines m) ≡ line_in (slice_get s.lines m)
lines_with line l f s at m = elim (number_is m line) [
  | inl e ↦
      ap (λ (i : ℕ). line_in (slice_get (set s.lines line (record l { flights = f })) i)) e
      ∙ ap line_in (set_here s.lines line (record l { flights = f }) l at) ∙ sym (ap line_in at) ∙ ap (λ (i : ℕ). line_in (slice_get s.lines i)) (sym e)
  | inr ne ↦ ap line_in (set_elsewhere s.lines line m (record l { flights = f }) ne)
]

pub flights_with : (line : ℕ) (l : NetLine) (f : Flights) (s : Network) → slice_get s.lines line ≡ Some l → flights_at line (with_flights line l f s) ≡ f
flights_with line l f s at = ap flights_in (set_here s.lines line (record l { flights = f }) l at)

pub flights_but : (line : ℕ) (l : NetLine) (f : Flights) (s : Network) (m : ℕ) → m ≢ line → flights_at m (with_flights line l f s) ≡ flights_at m s
flights_but line l f s m ne = ap flights_in (set_elsewhere s.lines line m (record l { flights = f }) ne)

-- a frame is lost there
pub lost_in_part : (L : LineService) → L.faithful → (owner : ℕ → ℕ) (k line : ℕ) (d : Direction) (part : Network) (p q : Processes) (s : Network) → AreOf owner p s → PartChanges k part p q → SameWires p q
    → LostAt L line d (p.parts k) part → AreOf owner q s
lost_in_part L f owner k line d part p q s are changes wires w =
    carried owner p q s are
    (carries_by owner k part p q changes (ap (λ (n : Network). n.nodes) w.others)
    (λ m. ap (λ (n : Network). line_in (slice_get n.lines m)) w.others ∙ lines_with line w.line_is w.flights (p.parts k) w.line_there m)
    some (λ m e. same_left (q.wires m e) (p.wires m e) (wires m e)))
  where
    gone : (e : Direction) → IsLeftOf (flying e w.flights) (flying e w.line_is.flights)
    gone e =
        subst (λ (x : Flights). IsLeftOf (flying e x) (flying e w.line_is.flights)) (sym (w.rest f))
        (elim (same_direction d e) [
          | inl same ↦
              subst (λ (x : Direction). IsLeftOf (flying x (without_first d w.line_is.flights)) (flying x w.line_is.flights)) (sym same)
              (subst (λ (x : List Octets). IsLeftOf x (flying d w.line_is.flights)) (sym (flying_here d (drop 1 (flying d w.line_is.flights)) w.line_is.flights)) (drop_left 1 (flying d w.line_is.flights)))
          | inr ne ↦ same_left _ _ (flying_there d e (drop 1 (flying d w.line_is.flights)) w.line_is.flights ne)
        ])

    some : (m : ℕ) (e : Direction) → IsLeftOf (flying e (flights_at m part)) (flying e (flights_at m (p.parts k)))
    some m e =
        subst (λ (n : Network). IsLeftOf (flying e (flights_at m n)) (flying e (flights_at m (p.parts k)))) (sym w.others)
        (elim (number_is m line) [
          | inl same ↦
              subst (λ (i : ℕ). IsLeftOf (flying e (flights_at i (with_flights line w.line_is w.flights (p.parts k)))) (flying e (flights_at i (p.parts k)))) (sym same)
              (subst (λ (x : Flights). IsLeftOf (flying e x) (flying e (flights_at line (p.parts k)))) (sym (flights_with line w.line_is w.flights (p.parts k) w.line_there))
              (subst (λ (x : Flights). IsLeftOf (flying e w.flights) (flying e x)) (sym (ap flights_in w.line_there)) (gone e)))
          | inr ne ↦ same_left _ _ (ap (λ (x : Flights). flying e x) (flights_but line w.line_is w.flights (p.parts k) m ne))
        ])

-- nothing changes there
pub unchanged_in_part : (owner : ℕ → ℕ) (k : ℕ) (part : Network) (p q : Processes) (s : Network) → AreOf owner p s → PartChanges k part p q → SameWires p q → part ≡ p.parts k → AreOf owner q s
unchanged_in_part owner k part p q s are changes wires same =
    carried owner p q s are
    (carries_by owner k part p q changes (ap (λ (n : Network). n.nodes) same) (λ line. ap (λ (n : Network). line_in (slice_get n.lines line)) same)
    (λ line d. same_left _ _ (ap (λ (n : Network). flying d (flights_at line n)) same)) (λ line d. same_left (q.wires line d) (p.wires line d) (wires line d)))

-- ---- the moves

pub breaks_carry : BreakLaw
breaks_carry owner line d p q b =
    carries_by owner 0 (q.parts 0) p q (record { here = refl; others = λ j ne. b.same j }) (ap (λ (n : Network). n.nodes) (b.same 0))
    (λ m. ap (λ (n : Network). line_in (slice_get n.lines m)) (b.same 0)) (λ m e. same_left _ _ (ap (λ (n : Network). flying e (flights_at m n)) (b.same 0))) some
  where
    some : (m : ℕ) (e : Direction) → IsLeftOf (q.wires m e) (p.wires m e)
    some m e = elim (number_is m line) [
      | inl at ↦ elim (same_direction d e) [
        | inl same ↦
            subst (λ (i : ℕ). IsLeftOf (q.wires i e) (p.wires i e)) (sym at)
            (subst (λ (x : Direction). IsLeftOf (q.wires line x) (p.wires line x)) (sym same) (subst (λ (x : List Octets). IsLeftOf x (p.wires line d)) (sym b.wire.here) b.some))
        | inr ne ↦ same_left (q.wires m e) (p.wires m e) (b.wire.others m e (λ x. ne x.1))
      ]
      | inr ne ↦ same_left (q.wires m e) (p.wires m e) (b.wire.others m e (λ x. ne x.0))
    ]

-- the ends of a line are the same in each process
ends_alike : (owner : ℕ → ℕ) (p : Processes) (s : Network) → AreOf owner p s → (k j line : ℕ) (l m : NetLine) → slice_get (p.parts k).lines line ≡ Some l → slice_get (p.parts j).lines line ≡ Some m
    → ends_of owner l ≡ ends_of owner m
ends_alike owner p s are k j line l m at there =
    let x : SameLine l (slice_get (p.parts j).lines line) = same_line l (slice_get (p.parts j).lines line) (sym (ap line_in at) ∙ are.lines k line ∙ sym (are.lines j line)) in
    sym (same_ends owner l x.flights) ∙ ap (λ (v : NetLine). ends_of owner v) (same_Some (record l { flights = x.flights }) m (sym x.there ∙ there))

module _ (L : LineService) (f : L.faithful) (owner : ℕ → ℕ) (k line : ℕ) (d : Direction) (p q : Processes) (s : Network) (are : AreOf owner p s) where
  -- one line of a process changes in one direction
  module _ (l : NetLine) (at : slice_get (p.parts k).lines line ≡ Some l) (x : Flights) (same : (e : Direction) → e ≢ d → flying e x ≡ flying e l.flights) (part : Network)
      (is : part ≡ with_flights line l x (p.parts k)) (changes : PartChanges k part p q) (wires : List Octets) (wire : WireChanges line d wires p q) where
    abbrev old : ℕ → Flights
    old j = flights_at line (p.parts j)

    abbrev new : ℕ → Flights
    new j = flights_at line (q.parts j)

    old_here : old k ≡ l.flights
    old_here = ap flights_in at

    new_here : new k ≡ x
    new_here = ap (λ (n : Network). flights_at line n) (changes.here ∙ is) ∙ flights_with line l x (p.parts k) at

    new_there : (j : ℕ) → j ≢ k → new j ≡ old j
    new_there j ne = ap (λ (n : Network). flights_at line n) (changes.others j ne)

    line_carries : IsLeftOf (frames_between (ends_of owner l) new (q.wires line) d) (frames_between (ends_of owner l) old (p.wires line) d) → Carries owner p q
    line_carries less =
        carries_but owner k part p q changes (ap (λ (n : Network). n.nodes) is)
        (λ m. ap (λ (n : Network). line_in (slice_get n.lines m)) is ∙ lines_with line l x (p.parts k) at m) line d elsewhere wire.others
        (λ j m there. subst (λ (ends : Role → ℕ). IsLeftOf (frames_between ends new (q.wires line) d) (frames_between ends old (p.wires line) d)) (ends_alike owner p s are k j line l m at there) less)
      where
        elsewhere : (m : ℕ) (e : Direction) → ((m ≡ line) × (e ≡ d) → ⊥) → flying e (flights_at m part) ≡ flying e (flights_at m (p.parts k))
        elsewhere m e ne = ap (λ (n : Network). flying e (flights_at m n)) is ∙ elim (number_is m line) [
          | inl there ↦
              ap (λ (i : ℕ). flying e (flights_at i (with_flights line l x (p.parts k)))) there
              ∙ ap (λ (y : Flights). flying e y) (flights_with line l x (p.parts k) at) ∙ same e (λ way. ne (there, way))
              ∙ ap (λ (o : Option NetLine). flying e (flights_in o)) (sym at) ∙ ap (λ (i : ℕ). flying e (flights_at i (p.parts k))) (sym there)
          | inr apart ↦ ap (λ (y : Flights). flying e y) (flights_but line l x (p.parts k) m apart)
        ]

  pub hand_carries : HandsOn L owner k line d p q → Carries owner p q
  hand_carries h =
      line_carries h.line_is h.line_there h.handed.flights same h.part h.handed.others h.here (p.wires line d ++ h.frame ∷ []) h.wire
      (same_left _ _
      (handed_between (ends_of owner h.line_is) k (λ j. flights_at line (p.parts j)) (λ j. flights_at line (q.parts j))
      (new_there h.line_is h.line_there h.handed.flights same h.part h.handed.others h.here (p.wires line d ++ h.frame ∷ []) h.wire) d (p.wires line) (q.wires line) h.frame h.of_sender h.elsewhere
      (ap (λ (y : Flights). flying d y) (ap flights_in h.line_there) ∙ first_is (flying d h.line_is.flights) h.frame (h.handed.first f)
      ∙ ap (λ (y : List Octets). h.frame ∷ y)
      (sym (ap (λ (y : Flights). flying d y) (new_here h.line_is h.line_there h.handed.flights same h.part h.handed.others h.here (p.wires line d ++ h.frame ∷ []) h.wire ∙ h.handed.rest f)
      ∙ flying_here d (drop 1 (flying d h.line_is.flights)) h.line_is.flights)))
      h.wire.here))
    where
      same : (e : Direction) → e ≢ d → flying e h.handed.flights ≡ flying e h.line_is.flights
      same e ne = ap (λ (y : Flights). flying e y) (h.handed.rest f) ∙ flying_there d e (drop 1 (flying d h.line_is.flights)) h.line_is.flights ne

  pub put_carries : PutsOn L owner k line d p q → Carries owner p q
  put_carries h =
      line_carries h.line_is h.line_there h.put.flights (same (h.put.put f)) h.part h.put.others h.here h.rest h.wire
      (received_between (ends_of owner h.line_is) k (λ j. flights_at line (p.parts j)) (λ j. flights_at line (q.parts j))
      (new_there h.line_is h.line_there h.put.flights (same (h.put.put f)) h.part h.put.others h.here h.rest h.wire) d (p.wires line) (q.wires line) h.frame h.lost h.of_hearer h.elsewhere
      (h.first ∙ ap (λ (y : List Octets). h.frame ∷ y) (sym h.wire.here))
      (subst (λ (y : Flights). IsLeftOf (flying d y) (flying d (flights_at line (p.parts k)) ++ h.frame ∷ []))
      (sym (new_here h.line_is h.line_there h.put.flights (same (h.put.put f)) h.part h.put.others h.here h.rest h.wire))
      (subst (λ (y : Flights). IsLeftOf (flying d h.put.flights) (flying d y ++ h.frame ∷ [])) (sym (ap flights_in h.line_there)) (some (h.put.put f)))))
    where
      same : IsPut L d h.frame h.line_is.flights h.put.flights → (e : Direction) → e ≢ d → flying e h.put.flights ≡ flying e h.line_is.flights
      same (inl (may, is)) e ne = ap (λ (y : Flights). flying e y) is ∙ flying_there d e (flying d h.line_is.flights ++ h.frame ∷ []) h.line_is.flights ne
      same (inr (may, is)) e ne = ap (λ (y : Flights). flying e y) is

      some : IsPut L d h.frame h.line_is.flights h.put.flights → IsLeftOf (flying d h.put.flights) (flying d h.line_is.flights ++ h.frame ∷ [])
      some (inl (may, is)) = same_left _ _ (ap (λ (y : Flights). flying d y) is ∙ flying_here d (flying d h.line_is.flights ++ h.frame ∷ []) h.line_is.flights)
      some (inr (may, is)) =
          subst (λ (y : Flights). IsLeftOf (flying d y) (flying d h.line_is.flights ++ h.frame ∷ [])) (sym is)
          (subst (λ (y : List Octets). IsLeftOf y (flying d h.line_is.flights ++ h.frame ∷ [])) (append-nil (flying d h.line_is.flights))
          (left_and_left (all_left (flying d h.line_is.flights)) (none_left (h.frame ∷ []))))

pub hands_carry : (L : LineService) → HandLaw L
hands_carry L f owner k line d p q s are h = hand_carries L f owner k line d p q s are h

pub puts_carry : (L : LineService) → PutLaw L
puts_carry L f owner k line d p q s are h = put_carries L f owner k line d p q s are h
