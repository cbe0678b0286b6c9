-- An event at a switch of a process is one at that switch of the network.
use Rattle.std.proofs.Common.{◌≡◌, ◌≢◌, ℕ, ◌<◌, Bool, ◌==◌, if◌then◌else◌, List, [], length, set, Option, Some, None, refl, sym, ap, ◌∙◌, subst, inl, inr, arith}
use Rattle.std.specs.Prelude.{◌⊎◌, slice_get}
use Rattle.std.specs.Option.{option_map}
use Rattle.std.proofs.Props.{props}
use Rattle.std.proofs.lemmas.Bool.{ne_eqb}
use Rattle.std.proofs.lemmas.Option.{same_Some, slice_get_within}
use Rattle.record_laws.proofs.Books.Basics.{get_there, number_is, eq_true, by_true, by_false}
use Rattle.link_timers.specs.declared.role.Role.{Role}
use Rattle.lapb.specs.Machine.{Octets}
use Rattle.frame_lines.specs.declared.line.Direction.{Direction}
use Rattle.frame_lines.specs.Lines.{Flights, no_flights, flying, without_first, LineService, lossless_service, ArePut}
use Rattle.net_events.specs.OneLine.{direction_of, direction_to}
use Rattle.net_events.specs.AtSwitch.{SwitchEvent, SwitchHappened, LinesServed, OwnLineServed, LeftOn, HasOwnLine, switched, switch_drained, waiting_on, joins_of, all_handed}
use Rattle.net_events.specs.AtSwitch as switch_event
use Rattle.net_events.specs.Network.{PlacedSwitch, NetNode, Switching, NetLine, Network, StandsAtLines, place_at, own_role}
use Rattle.net_events.specs.declared.answer.Answer.{Answer}
use Rattle.node_events.specs.Switching.{all_puts}
use Rattle.net_nodes.specs.Steps.{AtSwitch}
use Rattle.network_laws.specs.PlacedTime.{by_place}
use Rattle.network_laws.proofs.PlacedTime.{by_place_at, by_place_there, length-by_place}
use Rattle.network_laws.proofs.Switched.OwnLines.{own_or_none}
use Rattle.parted_laws.specs.Processes.{Processes, PartChanges, SameWires, flights_in, flights_at, ends_of, AreOf}
use Rattle.parted_laws.specs.Events.{IsCutOff, AreLost}
use Rattle.parted_laws.specs.Events.AreLost.{none_is}
use Rattle.parted_laws.proofs.Between.{Wire}
use Rattle.parted_laws.proofs.Puts.{all_put, are_all_put}
use Rattle.parted_laws.proofs.OneLine.{AreLeft, without, HeardInOne, heard_in_one, cleared_in_one, put_in_one}
use Rattle.parted_laws.proofs.Parts.{SameLine, WithLost, with_lost, other_flights, its_flights, its_line, was_left, IsUntouched, IsTouched, ChangesAlike, are_after}
use Rattle.parted_laws.proofs.Users.{with_these, these_here, these_there}
use Rattle.parted_laws.proofs.Taking.{SwitchKind, switch_kind_of}
use Rattle.parted_laws.proofs.Taking.SwitchKind.{frame_on, anew_all, plain_all}

numbers_set : IsSet (Option ℕ)
numbers_set = hlevel props

-- a restart alone asks that the lines are cut off
abbrev pub IfAllRestart : SwitchEvent → Type 0 → Type 0
IfAllRestart switch_event.Restarts P = P
IfAllRestart event P = Unit {0}

-- the first of two lists of numbers has a line, or not
abbrev OwnOrNone : List ℕ → ℕ → Type 0
OwnOrNone lines line = ((own : ℕ) × (slice_get lines own ≡ Some line)) ⊎ ((own : ℕ) → slice_get lines own ≡ Some line → ⊥)

module _ (L : LineService) (f : L.faithful) (owner : ℕ → ℕ) (k : ℕ) (part : Network) (p q : Processes) (s : Network) (are : AreOf owner p s) (changes : PartChanges k part p q) (wires : SameWires p q)
    (event : SwitchEvent) (place : ℕ) (h : SwitchHappened L event place (p.parts k) part) (own_place : owner place ≡ k)
    (at_lines : StandsAtLines (p.parts k).lines place h.node)
    (may : IfAllRestart event ((line : ℕ) (l : NetLine) (role : Role) → slice_get (p.parts k).lines line ≡ Some l → place_at role l ≡ place → IsCutOff owner p k line l)) where
  abbrev n : PlacedSwitch
  n = h.node

  abbrev role_on : ℕ → Role
  role_on own = own_role n.switch own

  abbrev old : ℕ → ℕ → Flights
  old line j = flights_at line (p.parts j)

  abbrev new : ℕ → ℕ → Flights
  new line j = flights_at line (q.parts j)

  there_before : slice_get s.nodes place ≡ Some (Switching n)
  there_before = sym (subst (λ (j : ℕ). slice_get (p.parts j).nodes place ≡ slice_get s.nodes place) own_place (are.nodes place)) ∙ h.node_there

  -- ---- one own line, in the process and in the network

  abbrev ServedHere : (own line : ℕ) → Type 0
  ServedHere own line = OwnLineServed L event own line (role_on own) (waiting_on own (switched event n.switch)) (p.parts k).lines part.lines

  served : (own line : ℕ) → slice_get n.lines own ≡ Some line → ServedHere own line
  served own line e = h.lines.own_lines own line e

  module _ (own line : ℕ) (e : slice_get n.lines own ≡ Some line) where
    abbrev here : ServedHere own line
    here = served own line e

    abbrev l : NetLine
    l = here.line_is

    abbrev at : Role → ℕ
    at = ends_of owner l

    abbrev between : ℕ → Flights
    between = with_these k here.between (old line)

    its : SameLine l (slice_get s.lines line)
    its = its_line owner k part p q s are changes wires line l here.line_there

    at_end : place_at (role_on own) l ≡ place
    at_end =
        let x = at_lines.each own line e in
        ap (λ (m : NetLine). place_at (role_on own) m) (same_Some l x.line_is (sym here.line_there ∙ x.there)) ∙ x.at_end

    own_end : at (role_on own) ≡ k
    own_end = ap owner at_end ∙ own_place

    old_here : old line k ≡ l.flights
    old_here = ap flights_in here.line_there

    left_here : between k ≡ here.between
    left_here = these_here k here.between (old line)

    left_there : (j : ℕ) → j ≢ k → between j ≡ old line j
    left_there j ne = these_there k here.between (old line) j ne

    was : AreLeft at (old line) (p.wires line) its.flights
    was = was_left owner k part p q s are changes wires line l its.flights its.there

    all_left_there : here.between ≡ l.flights → AreLeft at between (p.wires line) its.flights
    all_left_there same = subst (λ (b : ℕ → Flights). AreLeft at b (p.wires line) its.flights) (λ i j. as_before j i) was
      where
        as_before : (j : ℕ) → old line j ≡ between j
        as_before j = elim (number_is j k) [
          | inl at_k ↦ ap (old line) at_k ∙ old_here ∙ sym same ∙ sym left_here ∙ ap between (sym at_k)
          | inr ne ↦ sym (left_there j ne)
        ]

  -- ---- the network before the switch has its turn

  -- on each own line so many frames are in flight, and these are left when the event took what it takes
  record OwnLeft (e : SwitchEvent) (mid : Network) (left_in : ℕ → Role → Flights → Flights) (own line : ℕ) (is_own : slice_get n.lines own ≡ Some line) : Type 0 where
    before : Flights
    there : slice_get mid.lines line ≡ Some (record (l own line is_own) { flights = before })
    left_on : LeftOn e own (role_on own) before (left_in own (role_on own) before)
    left : AreLeft (at own line is_own) (between own line is_own) (p.wires line) (left_in own (role_on own) before)

  record Leaves (e : SwitchEvent) : Type 0 where
    mid : Network
    are_lost : AreLost s mid
    nodes : mid.nodes ≡ s.nodes
    others : (line : ℕ) → ((own : ℕ) → slice_get n.lines own ≡ Some line → ⊥) → slice_get mid.lines line ≡ slice_get s.lines line
    left_in : ℕ → Role → Flights → Flights
    own_left : (own line : ℕ) (is_own : slice_get n.lines own ≡ Some line) → OwnLeft e mid left_in own line is_own

  abbrev LeftSo : SwitchEvent → Type 0
  LeftSo e = (own line : ℕ) (is_own : slice_get n.lines own ≡ Some line) → LeftOn e own (role_on own) (l own line is_own).flights (here own line is_own).between

  -- a frame is heard on an own line, and those before it are lost in the network
  module _ (at_own : ℕ) (octets : Octets) (line : ℕ) (is_own : slice_get n.lines at_own ≡ Some line) (left : LeftSo (switch_event.Hears at_own octets)) where
    abbrev to : Direction
    to = direction_to (role_on at_own)

    abbrev its_flights_here : Flights
    its_flights_here = (its at_own line is_own).flights

    heard : HeardInOne (at at_own line is_own) k (role_on at_own) (own_end at_own line is_own) (old line) (between at_own line is_own) (left_there at_own line is_own) (p.wires line) octets its_flights_here
    heard =
        let x = (left at_own line is_own).0 refl in
        heard_in_one (at at_own line is_own) k (role_on at_own) (own_end at_own line is_own) (old line) (between at_own line is_own) (left_there at_own line is_own) (p.wires line) octets its_flights_here
        (ap (λ (y : Flights). slice_get (flying to y) 0) (old_here at_own line is_own) ∙ x.0)
        (left_here at_own line is_own ∙ x.1 ∙ ap (λ (y : Flights). without_first to y) (sym (old_here at_own line is_own))) (was at_own line is_own)

    lost : WithLost heard.lost line to (l at_own line is_own) its_flights_here s
    lost = with_lost heard.lost line to (l at_own line is_own) its_flights_here s (its at_own line is_own).there

    abbrev left_when_heard : ℕ → Role → Flights → Flights
    left_when_heard own role x = if own == at_own then without_first (direction_to role) x else x

    heard_left : (own : ℕ) (role : Role) (x : Flights) → own ≡ at_own → left_when_heard own role x ≡ without_first (direction_to role) x
    heard_left own role x e = by_true (own == at_own) (without_first (direction_to role) x) x (eq_true own at_own e)

    heard_else : (own : ℕ) (role : Role) (x : Flights) → own ≢ at_own → left_when_heard own role x ≡ x
    heard_else own role x ne = by_false (own == at_own) (without_first (direction_to role) x) x (ne_eqb own at_own ne)

    heard_there : OwnLeft (switch_event.Hears at_own octets) lost.mid left_when_heard at_own line is_own
    heard_there =
        let same = heard_left at_own (role_on at_own) (without heard.lost to its_flights_here) refl in
        record {
          before = without heard.lost to its_flights_here;
          there = lost.there;
          left_on = (λ e. (heard.first, same), λ ne. absurd (ne refl));
          left = subst (λ (x : Flights). AreLeft (at at_own line is_own) (between at_own line is_own) (p.wires line) x) (sym same) heard.left;
        }

    heard_elsewhere : (own other : ℕ) (is : slice_get n.lines own ≡ Some other) → own ≢ at_own → OwnLeft (switch_event.Hears at_own octets) lost.mid left_when_heard own other is
    heard_elsewhere own other is ne =
        let there = (its own other is).there in
        let same = heard_else own (role_on own) (its own other is).flights ne in
        record {
          before = (its own other is).flights;
          there = lost.others other (λ e. ne (at_lines.apart own at_own line (subst (λ (i : ℕ). slice_get n.lines own ≡ Some i) e is) is_own)) ∙ there;
          left_on = (λ e. absurd (ne e), λ away. same);
          left = subst (λ (x : Flights). AreLeft (at own other is) (between own other is) (p.wires other) x) (sym same) (all_left_there own other is ((left own other is).1 ne));
        }

    hears : Leaves (switch_event.Hears at_own octets)
    hears = record {
      mid = lost.mid;
      are_lost = lost.are_lost;
      nodes = lost.nodes;
      others = λ other none. lost.others other (λ e. none at_own (subst (λ (i : ℕ). slice_get n.lines at_own ≡ Some i) (sym e) is_own));
      left_in = left_when_heard;
      own_left = λ own other is. elim (number_is own at_own) [
        | inl e ↦ at_it own other e is
        | inr ne ↦ heard_elsewhere own other is ne
      ];
    }
      where
        -- there is one proof that this line is the own line
        on_line : (is : slice_get n.lines at_own ≡ Some line) → OwnLeft (switch_event.Hears at_own octets) lost.mid left_when_heard at_own line is
        on_line is =
            subst (λ (x : slice_get n.lines at_own ≡ Some line). OwnLeft (switch_event.Hears at_own octets) lost.mid left_when_heard at_own line x)
            (numbers_set (slice_get n.lines at_own) (Some line) is_own is) heard_there

        on_lines : (other : ℕ) (is : slice_get n.lines at_own ≡ Some other) → OwnLeft (switch_event.Hears at_own octets) lost.mid left_when_heard at_own other is
        on_lines other is =
            subst (λ (i : ℕ). (x : slice_get n.lines at_own ≡ Some i) → OwnLeft (switch_event.Hears at_own octets) lost.mid left_when_heard at_own i x)
            (same_Some line other (sym is_own ∙ is)) on_line is

        at_it : (own other : ℕ) → own ≡ at_own → (is : slice_get n.lines own ≡ Some other) → OwnLeft (switch_event.Hears at_own octets) lost.mid left_when_heard own other is
        at_it own other e is =
            subst (λ (i : ℕ). (x : slice_get n.lines i ≡ Some other) → OwnLeft (switch_event.Hears at_own octets) lost.mid left_when_heard i other x)
            (sym e) (λ x. on_lines other x) is

  leaves : (e : SwitchEvent) → SwitchKind e → HasOwnLine e n.switch → LeftSo e
      → IfAllRestart e ((line : ℕ) (l : NetLine) (role : Role) → slice_get (p.parts k).lines line ≡ Some l → place_at role l ≡ place → IsCutOff owner p k line l) → Leaves e
  leaves _ (frame_on at_own octets) has left cut =
      let x = get_there n.lines at_own (let c = at_lines.count in let less = has.0 in omega arith) in hears at_own octets x.0 x.1 left
  leaves _ anew_all has left cut = record {
    mid = s;
    are_lost = none_is s;
    nodes = refl;
    others = λ line none. refl;
    left_in = λ own role x. no_flights;
    own_left = λ own line is. record {
      before = (its own line is).flights;
      there = (its own line is).there;
      left_on = refl;
      left =
          cleared_in_one (at own line is) k (role_on own) (own_end own line is) (old line) (between own line is) (left_there own line is) (p.wires line)
          (left_here own line is ∙ left own line is) (cut line (l own line is) (role_on own) (here own line is).line_there (at_end own line is));
    };
  }
  leaves _ (plain_all e same stays) has left cut = record {
    mid = s;
    are_lost = none_is s;
    nodes = refl;
    others = λ line none. refl;
    left_in = λ own role x. x;
    own_left = λ own line is. record {
      before = (its own line is).flights;
      there = (its own line is).there;
      left_on = stays own (role_on own) (its own line is).flights;
      left = all_left_there own line is (same own (role_on own) (l own line is).flights (here own line is).between (left own line is));
    };
  }

  -- ---- the event in the network

  pub record SwitchInOne : Type 0 where
    pub mid : Network
    pub are_lost : AreLost s mid
    pub after : Network
    pub happened : SwitchHappened lossless_service event place mid after
    pub same_node : happened.node ≡ n
    pub are_parts : AreOf owner q after

  module _ (o : Leaves event) where
    abbrev frames : ℕ → List Octets
    frames own = waiting_on own (switched event n.switch)

    -- a line after the event: an own one with the frames that were put, or another one
    abbrev put_on : (own : ℕ) → Flights → Flights
    put_on own x = all_put (direction_of (role_on own)) (frames own) (o.left_in own (role_on own) x)

    abbrev changed_line : {line : ℕ} → OwnOrNone n.lines line → NetLine → NetLine
    changed_line (inl own) m = record m { flights = put_on own.0 m.flights }
    changed_line (inr none) m = m

    abbrev change : ℕ → NetLine → NetLine
    change line m = changed_line (own_or_none n.lines line) m

    change_own : (own line : ℕ) (m : NetLine) → slice_get n.lines own ≡ Some line → change line m ≡ record m { flights = put_on own m.flights }
    change_own own line m is = by (own_or_none n.lines line)
      where
        by : (found : OwnOrNone n.lines line) → changed_line found m ≡ record m { flights = put_on own m.flights }
        by (inl other) = ap (λ (i : ℕ). record m { flights = put_on i m.flights }) (at_lines.apart other.0 own line other.1 is)
        by (inr none) = absurd (none own is)

    change_none : (line : ℕ) (m : NetLine) → ((own : ℕ) → slice_get n.lines own ≡ Some line → ⊥) → change line m ≡ m
    change_none line m none = by (own_or_none n.lines line)
      where
        by : (found : OwnOrNone n.lines line) → changed_line found m ≡ m
        by (inl own) = absurd (none own.0 own.1)
        by (inr other) = refl

    abbrev later : Network
    later = record {
      nodes = set o.mid.nodes place (Switching (record n { switch = switch_drained (switched event n.switch) }));
      lines = by_place change o.mid.lines;
      register = all_handed n.lines (own_role n.switch) (joins_of event n.switch) o.mid.register;
    }

    own_after : (own line : ℕ) (is : slice_get n.lines own ≡ Some line)
        → slice_get later.lines line ≡ Some (record (l own line is) { flights = put_on own (o.own_left own line is).before })
    own_after own line is =
        let w = o.own_left own line is in
        by_place_there change o.mid.lines line (record (l own line is) { flights = w.before }) w.there
        ∙ ap Some (change_own own line (record (l own line is) { flights = w.before }) is)

    none_after : (line : ℕ) → ((own : ℕ) → slice_get n.lines own ≡ Some line → ⊥) → slice_get later.lines line ≡ slice_get o.mid.lines line
    none_after line none = by_place_at change o.mid.lines line ∙ by (slice_get o.mid.lines line)
      where
        by : (found : Option NetLine) → option_map (change line) found ≡ found
        by None = refl
        by (Some m) = ap Some (change_none line m none)

    lines_served : LinesServed lossless_service event n o.mid.lines later.lines
    lines_served = record {
      count = length-by_place change o.mid.lines;
      own_lines = λ own line is. record {
        line_is = record (l own line is) { flights = (o.own_left own line is).before };
        line_there = (o.own_left own line is).there;
        between = o.left_in own (role_on own) (o.own_left own line is).before;
        left = λ faithful. (o.own_left own line is).left_on;
        flights = put_on own (o.own_left own line is).before;
        put = λ faithful. are_all_put (direction_of (role_on own)) (frames own) (o.left_in own (role_on own) (o.own_left own line is).before);
        after_there = own_after own line is;
      };
      others = none_after;
    }

    changed : ChangesAlike owner k part p q s are changes wires later
    changed = record {
      place = place;
      own = own_place;
      was = Switching n;
      was_there = there_before;
      is = Switching (record n { switch = switch_drained (switched event n.switch) });
      here = h.nodes;
      there = ap (λ (ns : List NetNode). set ns place (Switching (record n { switch = switch_drained (switched event n.switch) }))) o.nodes;
    }

    left_then : (own line : ℕ) (is : slice_get n.lines own ≡ Some line) → AreLeft (at own line is) (new line) (p.wires line) (put_on own (o.own_left own line is).before)
    left_then own line is =
        let x = here own line is in
        let new_here : new line k ≡ x.flights = its_flights owner k part p q s are changes wires line (record x.line_is { flights = x.flights }) x.after_there in
        put_in_one (at own line is) k (role_on own) (own_end own line is) (between own line is) (new line)
        (λ j ne. other_flights owner k part p q s are changes wires line j ne ∙ sym (left_there own line is j ne)) (p.wires line) L (frames own)
        (o.left_in own (role_on own) (o.own_left own line is).before)
        (subst (λ (y : Flights). ArePut L (direction_of (role_on own)) (frames own) y (new line k)) (sym (left_here own line is))
        (subst (λ (y : Flights). ArePut L (direction_of (role_on own)) (frames own) x.between y) (sym new_here) (x.put f)))
        (o.own_left own line is).left

    each : (line : ℕ) → IsUntouched owner k part p q s are changes wires later line ⊎ IsTouched owner k part p q s are changes wires later line
    each line = elim (own_or_none n.lines line) [
      | inl own ↦ inr (record {
        line_is = l own.0 line own.1;
        was = (here own.0 line own.1).line_there;
        here_flights = (here own.0 line own.1).flights;
        here = (here own.0 line own.1).after_there;
        flights = put_on own.0 (o.own_left own.0 line own.1).before;
        there = own_after own.0 line own.1;
        left = left_then own.0 line own.1;
      })
      | inr none ↦ inl (record { here = h.lines.others line none; there = none_after line none ∙ o.others line none })
    ]

    switch_by : SwitchInOne
    switch_by = record {
      mid = o.mid;
      are_lost = o.are_lost;
      after = later;
      happened = record {
        node = n;
        node_there = ap (λ (ns : List NetNode). slice_get ns place) o.nodes ∙ there_before;
        has_line = h.has_line;
        nodes = refl;
        lines = lines_served;
        register = refl;
      };
      same_node = refl;
      are_parts = are_after owner k part p q s are changes wires later changed each;
    }

  pub switch_in_one : SwitchInOne
  switch_in_one = switch_by (leaves event (switch_kind_of event) h.has_line (λ own line is. (served own line is).left f) may)
