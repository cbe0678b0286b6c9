-- On which lines no frame is in flight, event by event.
use Rattle.std.proofs.Common.{◌≡◌, ◌≢◌, ℕ, zero, suc, ◌≤◌, ◌<◌, true, false, List, [], ◌∷◌, ◌++◌, set, Some, None, Ok, Err}
use Rattle.std.proofs.Common.{refl, sym, ap, ◌∙◌, subst, inl, inr}
use Rattle.std.specs.Prelude.{◌⊎◌, slice_get, is_some}
use Rattle.std.proofs.lemmas.Bool.{cases_eq, cases_lt, false≢true}
use Rattle.std.proofs.lemmas.Option.{same_Some, none-some}
use Rattle.number_set.specs.declared.NumberSet.{NumberSet}
use Rattle.wide_set.specs.WideSet.{has}
use Rattle.link_timers.specs.declared.role.Role.{Role}
use Rattle.link_timers.specs.declared.role.Role.TheVariants.{Dte, Dce}
use Rattle.link_timers.specs.declared.timers.TimerId.{TimerId}
use Rattle.record_laws.proofs.Books.Basics.{set_here, set_elsewhere}
use Rattle.frame_lines.specs.declared.line.Direction.{Direction}
use Rattle.frame_lines.specs.declared.line.Direction.TheVariants.{FromDte, FromDce}
use Rattle.frame_lines.specs.Lines.{Flights, LineService, no_flights, flying, without_first, ArePut}
use Rattle.switch_lines.specs.Lines.{SwitchLine}
use Rattle.switch_lines.specs.Switch.{frames_on}
use Rattle.user_nodes.specs.Node.{frames_of}
use Rattle.net_events.specs.OneLine.{direction_of, direction_to}
use Rattle.net_events.specs.NodeEvents.{NodeEvent, Hears, Expires, Relinks, Restarts, Calls, Asks, Refuses, Says, Takes, LeftBy}
use Rattle.net_events.specs.NodeEvents as node_event
use Rattle.net_events.specs.AtSwitch.{SwitchEvent, SwitchHappened, switched, waiting_on, LeftOn}
use Rattle.net_events.specs.AtSwitch as switch_event
use Rattle.net_events.specs.Network.{NetLine, Network, HappenedAt, LostAt, net_turn, own_role}
use Rattle.net_events.specs.EventView.{request_event}
use Rattle.net_events.specs.declared.answer.Answer.{Answer}
use Rattle.net_events.specs.declared.answer.Outcome.TheVariants.{Delivered}
use Rattle.net_events.specs.declared.answer.Put.{Put}
use Rattle.net_events.specs.declared.event.Event.{Event}
use Rattle.net_events.specs.declared.event.Event.TheVariants.{AtTerminal, Call, Ask, Take, Deliver, Lose, Expire}
use Rattle.net_events.specs.declared.event.Event.TheVariants.{Relink, GivesUp}
use Rattle.net_events.specs.declared.event.Event.TheVariants.{Restart}
use Rattle.net_events.specs.declared.event.StepFault.{StepFault}
use Rattle.node_events.specs.Sends.{ArePutsOf}
use Rattle.node_events.specs.Switching.{puts_on, all_puts}
use Rattle.net_nodes.specs.Faults.{where_there_is}
use Rattle.net_nodes.specs.Turns.{AtEnd}
use Rattle.net_nodes.specs.Steps.{AtNode, AtSwitch, DeliverStep, ExpireStep, RelinkStep, RestartStep, StepOf, hearer}
use Rattle.net_nodes.specs.Happening.{Happens, FindsNoFrame, FindNoFrames}
use Rattle.network_laws.proofs.Switched.OwnLines.{own_or_none}
use Rattle.line_sim.specs.Between.{IsBetweenEvents}
use Rattle.line_sim.specs.InFlight.{FindNone, IsKept, IsNotPutOn}
use Rattle.line_sim.proofs.Events.{happens}

-- the line is there, and no frame is in flight on it
record IsEmpty (L : LineService) (line : ℕ) (s : Network) : Type 0 where
  line_is : NetLine
  there : slice_get s.lines line ≡ Some line_is
  empty : L.faithful → line_is.flights ≡ no_flights

-- ---- what deliveries find

no_first : (frames : List (List ℕ)) → slice_get frames 0 ≡ None → frames ≡ []
no_first [] e = refl
no_first (frame ∷ frames) e = absurd (none-some frame (sym e))

arrived : (a : Answer) → a.outcome ≡ Delivered false → a.outcome ≡ Delivered true → ⊥
arrived a none some = absurd (cc)

-- nothing is in flight in one direction
record IsEmptyFrom (L : LineService) (d : Direction) (line : ℕ) (s : Network) : Type 0 where
  line_is : NetLine
  there : slice_get s.lines line ≡ Some line_is
  empty : L.faithful → flying d line_is.flights ≡ []

empty_from : (L : LineService) (d : Direction) (line : ℕ) (s : Network) → FindsNoFrame L line d s → IsEmptyFrom L d line s
empty_from L d line s none = by none.happens.1
  where
    by : DeliverStep L line d s none.answer s → IsEmptyFrom L d line s
    by (inl e) = record {
      line_is = e.nothing.lost.line_is;
      there = e.nothing.lost.line_there;
      empty = λ f. no_first (flying d e.nothing.lost.line_is.flights) (e.none f);
    }
    by (inr (octets, inl e)) = absurd (arrived none.answer none.says.outcome e.outcome)
    by (inr (octets, inr e)) = absurd (arrived none.answer none.says.outcome e.there.does.outcome)

is_empty : (L : LineService) (line : ℕ) (s : Network) → FindNone L line s → IsEmpty L line s
is_empty L line s (from_dte, from_dce) =
    let up = empty_from L FromDte line s from_dte in
    let down = empty_from L FromDce line s from_dce in
    let same : down.line_is ≡ up.line_is = same_Some down.line_is up.line_is (sym down.there ∙ up.there) in
    record {
      line_is = up.line_is;
      there = up.there;
      empty = λ f i. record {
        from_dte = up.empty f i;
        from_dce = (ap (λ (l : NetLine). l.flights.from_dce) (sym same) ∙ down.empty f) i;
      };
    }

set_kept : {X : Type 0} (xs : List X) (n : ℕ) (x : X) → slice_get xs n ≡ Some x → set xs n x ≡ xs
set_kept [] n x h = refl
set_kept (y ∷ ys) zero x h = ap (λ z. z ∷ ys) (sym (same_Some y x h))
set_kept (y ∷ ys) (suc n) x h = ap (λ zs. y ∷ zs) (set_kept ys n x h)

without_none : (d : Direction) (f : Flights) → f ≡ no_flights → f ≡ without_first d f
without_none FromDte f none = none ∙ sym (ap (without_first FromDte) none)
without_none FromDce f none = none ∙ sym (ap (without_first FromDce) none)

none_first : (d : Direction) (f : Flights) → f ≡ no_flights → slice_get (flying d f) 0 ≡ None
none_first FromDte f none = ap (λ (x : Flights). slice_get x.from_dte 0) none
none_first FromDce f none = ap (λ (x : Flights). slice_get x.from_dce 0) none

-- a delivery finds none, and the answer that said so says so again
finds_none : (L : LineService) (d : Direction) (line : ℕ) (s t : Network) → FindsNoFrame L line d s → IsEmpty L line t → FindsNoFrame L line d t
finds_none L d line s t none e = record {
  answer = none.answer;
  says = none.says;
  happens = (
    ap (λ o. where_there_is (is_some o)) e.there,
    inl (record {
      nothing = record {
        frames = none.says.frames;
        notes = none.says.notes;
        text = none.says.text;
        answered = none.says.outcome;
        lost = record {
          line_is = e.line_is;
          line_there = e.there;
          flights = e.line_is.flights;
          rest = λ f. without_none d e.line_is.flights (e.empty f);
          others = ap (λ (lines : List NetLine). record t { lines = lines }) (sym (set_kept t.lines line e.line_is e.there));
        };
      };
      none = λ f. none_first d e.line_is.flights (e.empty f);
    }),
  );
}

-- ---- no frame was put on a line

none_of_end : (d : Direction) (line : ℕ) (frames : List (List ℕ)) (puts : List Put) → ArePutsOf d line frames puts → IsNotPutOn line puts
    → frames ≡ []
none_of_end d line [] puts are none = refl
none_of_end d line (octets ∷ frames) [] are none = absurd are
none_of_end d line (octets ∷ frames) (put ∷ puts) are none = absurd (none 0 put refl are.0.on)

none_in_front : (line : ℕ) (xs ys : List Put) → IsNotPutOn line (xs ++ ys) → IsNotPutOn line xs
none_in_front line [] ys none at put there = absurd (none-some put there)
none_in_front line (x ∷ xs) ys none zero put there = none zero put there
none_in_front line (x ∷ xs) ys none (suc at) put there = none_in_front line xs ys (λ k p h. none (suc k) p h) at put there

none_behind : (line : ℕ) (xs ys : List Put) → IsNotPutOn line (xs ++ ys) → IsNotPutOn line ys
none_behind line [] ys none = none
none_behind line (x ∷ xs) ys none = none_behind line xs ys (λ k p h. none (suc k) p h)

none_on : (line other : ℕ) (d : Direction) (frames : List (List ℕ)) → other ≡ line → IsNotPutOn line (puts_on other d frames) → frames ≡ []
none_on line other d [] same none = refl
none_on line other d (octets ∷ frames) same none = absurd (none 0 _ refl same)

none_waits : (lines : List ℕ) (own : List SwitchLine) (at line : ℕ) → slice_get lines at ≡ Some line → IsNotPutOn line (all_puts lines own)
    → frames_on (slice_get own at) ≡ []
none_waits [] own at line there none = absurd (none-some line there)
none_waits (x ∷ lines) [] at line there none = refl
none_waits (x ∷ lines) (l ∷ own) zero line there none =
    none_on line x (direction_of l.end.layer.role) l.end.line.frames (same_Some x line there)
    (none_in_front line (puts_on x (direction_of l.end.layer.role) l.end.line.frames) (all_puts lines own) none)
none_waits (x ∷ lines) (l ∷ own) (suc at) line there none =
    none_waits lines own at line there (none_behind line (puts_on x (direction_of l.end.layer.role) l.end.line.frames) (all_puts lines own) none)

none_put : (L : LineService) (d : Direction) (frames : List (List ℕ)) (before after : Flights) → frames ≡ [] → ArePut L d frames before after
    → after ≡ before
none_put L d frames before after none put = subst (λ (x : List (List ℕ)). ArePut L d x before after) none put

-- ---- what an event takes from an empty line

taken : (d : Direction) (before between : Flights) → between ≡ without_first d before → before ≡ no_flights → between ≡ no_flights
taken d before between left none = left ∙ sym (without_none d before none) ∙ none

left_empty : (event : NodeEvent) (role : Role) (before between : Flights) → LeftBy event role before between → before ≡ no_flights → between ≡ no_flights
left_empty (Hears octets) role before between left none = taken (direction_to role) before between left.1 none
left_empty Restarts role before between left none = left
left_empty (Expires id) role before between left none = left ∙ none
left_empty Relinks role before between left none = left ∙ none
left_empty (Calls address user_data) role before between left none = left ∙ none
left_empty (Asks channel r) role before between left none = left ∙ none
left_empty (Refuses channel) role before between left none = left ∙ none
left_empty (Says channel octets qualified delivery) role before between left none = left ∙ none
left_empty (Takes channel) role before between left none = left ∙ none
left_empty (node_event.AtTerminal terminal event) role before between left none = left ∙ none

left_empty_on : (event : SwitchEvent) (own : ℕ) (role : Role) (before between : Flights) → LeftOn event own role before between → before ≡ no_flights
    → between ≡ no_flights
left_empty_on (switch_event.Hears at octets) own role before between left none =
    elim (cases_eq own at) [
      | inl same ↦ taken (direction_to role) before between (left.0 same).1 none
      | inr apart ↦ left.1 apart ∙ none
    ]
left_empty_on (switch_event.Expires at id) own role before between left none = left ∙ none
left_empty_on (switch_event.Relinks at) own role before between left none = left ∙ none
left_empty_on switch_event.Restarts own role before between left none = left

-- ---- a line stays empty

was_none : (L : LineService) (line : ℕ) (s : Network) (l : NetLine) → slice_get s.lines line ≡ Some l → (e : IsEmpty L line s) → L.faithful
    → l.flights ≡ no_flights
was_none L line s l there e f = ap (λ (x : NetLine). x.flights) (same_Some l e.line_is (sym there ∙ e.there)) ∙ e.empty f

at_end : (L : LineService) (event : NodeEvent) (at : ℕ) (role : Role) (s t : Network) (h : HappenedAt L event at role s t) (puts : List Put)
    → ArePutsOf (direction_of role) at (frames_of (net_turn event at role h.node s).node) puts → (line : ℕ) → IsNotPutOn line puts → IsEmpty L line s
    → IsEmpty L line t
at_end L event at role s t h puts are line none e = by (cases_eq line at)
  where
    here : IsNotPutOn at puts → IsEmpty L at s → IsEmpty L at t
    here none e = record {
      line_is = record h.line_is { flights = h.flights };
      there = ap (λ (x : Network). slice_get x.lines at) h.others ∙ set_here s.lines at _ h.line_is h.line_there;
      empty = λ f.
          none_put L (direction_of role) _ h.between h.flights (none_of_end (direction_of role) at _ puts are none) (h.put f)
          ∙ left_empty event role h.line_is.flights h.between (h.left f) (was_none L at s h.line_is h.line_there e f);
    }

    by : (line ≡ at) ⊎ (line ≡ at → ⊥) → IsEmpty L line t
    by (inl same) =
        subst (λ i. IsEmpty L i t) (sym same) (here (subst (λ i. IsNotPutOn i puts) same none) (subst (λ i. IsEmpty L i s) same e))
    by (inr apart) = record {
      line_is = e.line_is;
      there = ap (λ (x : Network). slice_get x.lines line) h.others ∙ set_elsewhere s.lines at line _ apart ∙ e.there;
      empty = e.empty;
    }

lost : (L : LineService) (at : ℕ) (d : Direction) (s t : Network) (h : LostAt L at d s t) (line : ℕ) → IsEmpty L line s → IsEmpty L line t
lost L at d s t h line e = by (cases_eq line at)
  where
    here : IsEmpty L at s → IsEmpty L at t
    here e = record {
      line_is = record h.line_is { flights = h.flights };
      there = ap (λ (x : Network). slice_get x.lines at) h.others ∙ set_here s.lines at _ h.line_is h.line_there;
      empty = λ f. taken d h.line_is.flights h.flights (h.rest f) (was_none L at s h.line_is h.line_there e f);
    }

    by : (line ≡ at) ⊎ (line ≡ at → ⊥) → IsEmpty L line t
    by (inl same) = subst (λ i. IsEmpty L i t) (sym same) (here (subst (λ i. IsEmpty L i s) same e))
    by (inr apart) = record {
      line_is = e.line_is;
      there = ap (λ (x : Network). slice_get x.lines line) h.others ∙ set_elsewhere s.lines at line _ apart ∙ e.there;
      empty = e.empty;
    }

at_switch : (L : LineService) (event : SwitchEvent) (place : ℕ) (s t : Network) (h : SwitchHappened L event place s t) (puts : List Put)
    → puts ≡ all_puts h.node.lines (switched event h.node.switch).lines → (line : ℕ) → IsNotPutOn line puts → IsEmpty L line s → IsEmpty L line t
at_switch L event place s t h puts are line none e =
    elim (own_or_none h.node.lines line) [
      | inl own ↦ (
          let o = h.lines.own_lines own.0 line own.1 in
          record {
            line_is = record o.line_is { flights = o.flights };
            there = o.after_there;
            empty = λ f.
                none_put L (direction_of (own_role h.node.switch own.0)) (waiting_on own.0 (switched event h.node.switch)) o.between o.flights
                (none_waits h.node.lines (switched event h.node.switch).lines own.0 line own.1 (subst (IsNotPutOn line) are none)) (o.put f)
                ∙ left_empty_on event own.0 (own_role h.node.switch own.0) o.line_is.flights o.between (o.left f) (was_none L line s o.line_is o.line_there e f);
          })
      | inr not_own ↦ record { line_is = e.line_is; there = h.lines.others line not_own ∙ e.there; empty = e.empty }
    ]

-- ---- each event

-- the line on which it put no frame stays empty
abbrev Stay : LineService → Network → Answer → Network → Type 0
Stay L s a t = (line : ℕ) → IsNotPutOn line a.frames.items → IsEmpty L line s → IsEmpty L line t

by_end : (L : LineService) (line : ℕ) (role : Role) (event : NodeEvent) (s : Network) (a : Answer) (t : Network)
    → (e : AtEnd L (record { line = line; role = role }) event s a t) → Stay L s a t
by_end L line role event s a t e = at_end L event line role s t e.happened a.frames.items e.puts

by_node : (L : LineService) (place : ℕ) (event : NodeEvent) (s : Network) (a : Answer) (t : Network) → AtNode L place event s a t → Stay L s a t
by_node L place event s a t d = at_end L event d.end.line d.end.role s t d.does.happened a.frames.items d.does.puts

by_switch : (L : LineService) (place : ℕ) (event : SwitchEvent) (s : Network) (a : Answer) (t : Network) → AtSwitch L place event s a t → Stay L s a t
by_switch L place event s a t d = at_switch L event place s t d.happened a.frames.items d.puts

delivered : (L : LineService) (line : ℕ) (d : Direction) (s : Network) (a : Answer) (t : Network) → DeliverStep L line d s a t → Stay L s a t
delivered L line d s a t (inl e) = λ other none. lost L line d s t e.nothing.lost other
delivered L line d s a t (inr (octets, inl e)) = by_end L line (hearer d) (Hears octets) s a t e
delivered L line d s a t (inr (octets, inr e)) = by_switch L e.place (switch_event.Hears e.there.own octets) s a t e.there.does

expired : (L : LineService) (place line : ℕ) (timer : TimerId) (s : Network) (a : Answer) (t : Network) → ExpireStep L place line timer s a t
    → Stay L s a t
expired L place line timer s a t (inl e) = by_node L place (Expires timer) s a t e
expired L place line timer s a t (inr e) = by_switch L place (switch_event.Expires e.own timer) s a t e.does

relinked : (L : LineService) (line : ℕ) (role : Role) (s : Network) (a : Answer) (t : Network) → RelinkStep L line role s a t → Stay L s a t
relinked L line role s a t (inl e) = by_end L line role Relinks s a t e
relinked L line role s a t (inr e) = by_switch L e.place (switch_event.Relinks e.there.own) s a t e.there.does

began_anew : (L : LineService) (place : ℕ) (s : Network) (a : Answer) (t : Network) → RestartStep L place s a t → Stay L s a t
began_anew L place s a t (inl e) = by_node L place Restarts s a t e
began_anew L place s a t (inr e) = by_switch L place switch_event.Restarts s a t e

stays : (L : LineService) (e : Event) (s : Network) (a : Answer) (t : Network) → StepOf L e s a t → Stay L s a t
stays L (AtTerminal node terminal event) s a t d = by_node L node (node_event.AtTerminal terminal event) s a t d
stays L (Call node address user_data) s a t d = by_node L node (Calls address user_data.items) s a t d
stays L (Ask node channel request) s a t d = by_node L node (request_event channel request) s a t d
stays L (Take node channel) s a t d = by_node L node (Takes channel) s a t d
stays L (Deliver line direction) s a t d = delivered L line direction s a t d
stays L (Lose line direction) s a t d = λ other none. lost L line direction s t d.lost other
stays L (Expire node line timer) s a t d = expired L node line timer s a t d
stays L (Relink line) s a t d = relinked L line Dte s a t d
stays L (GivesUp line) s a t d = relinked L line Dce s a t d
stays L (Restart node) s a t d = began_anew L node s a t d

-- ---- what is kept

pub answered_kept : (L : LineService) (e : Event) (s : Network) (a : Answer) (t : Network) (busy noted : List NumberSet) → IsKept L busy s
    → Happens L e s (Ok a) t
    → ((line : ℕ) → has noted line ≡ false → (has busy line ≡ false) × IsNotPutOn line a.frames.items ⊎ FindNone L line t) → IsKept L noted t
answered_kept L e s a t busy noted k h note = record {
  between = happens L e s (Ok a) t k.between h;
  others = λ line out. by line (note line out);
}
  where
    by : (line : ℕ) → (has busy line ≡ false) × IsNotPutOn line a.frames.items ⊎ FindNone L line t → FindNone L line t
    by line (inl (out, none)) =
        let was = k.others line out in
        let is = stays L e s a t h.1 line none (is_empty L line s was) in
        (finds_none L FromDte line s t was.0 is, finds_none L FromDce line s t was.1 is)
    by line (inr found) = found

pub refused_kept : (L : LineService) (e : Event) (s : Network) (fault : StepFault) (t : Network) (busy : List NumberSet) → IsKept L busy s
    → Happens L e s (Err fault) t → IsKept L busy t
refused_kept L e s fault t busy k h = subst (IsKept L busy) (sym h.1) k

pub timed_kept : (L : LineService) (s t : Network) (busy : List NumberSet) → IsKept L busy s
    → IsBetweenEvents L t → t.lines ≡ s.lines → IsKept L busy t
timed_kept L s t busy k between same = record {
  between = between;
  others = λ line out.
      let was = k.others line out in
      let e = is_empty L line s was in
      let is : IsEmpty L line t
      = record { line_is = e.line_is; there = ap (λ (lines : List NetLine). slice_get lines line) same ∙ e.there; empty = e.empty } in
      (finds_none L FromDte line s t was.0 is, finds_none L FromDce line s t was.1 is);
}

pub new_kept : (L : LineService) (s : Network) (busy : List NumberSet) → IsBetweenEvents L s
    → ((line : ℕ) → has busy line ≡ true) → IsKept L busy s
new_kept L s busy between all = record {
  between = between;
  others = λ line out. absurd (false≢true (sym out ∙ all line));
}

-- those before the first line in the set find none, and so do those from there on before another one
pub none_before : (L : LineService) (from middle to : ℕ) (s : Network) → ((line : ℕ) → from ≤ line → line < middle → FindNone L line s)
    → FindNoFrames L middle to s → FindNoFrames L from to s
none_before L from middle to s before behind line after less =
    elim (cases_lt line middle) [
      | inl early ↦ before line after early
      | inr late ↦ behind line late less
    ]
