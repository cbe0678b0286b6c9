-- What an act makes of a network is a step of it.
use Rattle.std.proofs.Common.{◌≡◌, ◌≢◌, ℕ, Bool, true, false, if◌then◌else◌, List, [], ◌∷◌, ◌++◌, length, Option, Some, None, inl, refl, sym, ap, subst, ◌∙◌, true≢false}
use Rattle.std.specs.Prelude.{◌&&◌, not, nat_lt, nat_le, slice_get, IsTrue, MatchOption}
use Rattle.std.specs.Option.{option_map, option_and_then}
use Rattle.std.proofs.lemmas.Option.{none-some, same_Some}
use Rattle.std.proofs.lemmas.Bool.{and_parts, not-true, ltb-true, leb-true, eq-eqb, ne_eqb}
use Rattle.std.proofs.lemmas.List.{append_assoc, append-nil}
use Rattle.link_timers.specs.declared.role.Role.{Role}
use Rattle.link_timers.specs.declared.role.Role.TheVariants.{Dte, Dce}
use Rattle.packet_laws.specs.Readable.{AreOctets}
use Rattle.packet_codec.specs.Address.{are_decimal, AreDigits}
use Rattle.user_nodes.specs.Node.{NodeState, Pad, Host, is_pad, frames_of}
use Rattle.user_nodes.specs.Terminals.{HasTerminal}
use Rattle.frame_lines.specs.declared.line.Direction.{Direction}
use Rattle.frame_lines.specs.declared.line.Direction.TheVariants.{FromDte, FromDce}
use Rattle.frame_lines.specs.Lines.{Flights, lossless_service, flying, with_flying, without_first, ArePut}
use Rattle.data_transfer.specs.Packets.{Note}
use Rattle.data_transfer.specs.Packets.Note.{Incoming}
use Rattle.packet_codec.specs.ClearCause.{invalid_facility}
use Rattle.address_routes.specs.Routes.{RouteMap, line_for}
use Rattle.switch_lines.specs.Lines.{SwitchLine}
use Rattle.switch_joins.specs.declared.channels.NewJoin.{NewJoin}
use Rattle.switch_lines.specs.NewJoins.{join_of, joins_of_notes}
use Rattle.switch_lines.specs.Switch.{Switch, Answer, answer, answer_by, route_from, answered, has_any, heed_all, notes_of, finished}
use Rattle.switch_lines.specs.Switch.Answer.{Clears}
use Rattle.net_events.specs.OneLine.{direction_of, direction_to}
use Rattle.net_events.specs.NodeEvents.{NodeEvent, Hears, Expires, Relinks, Restarts, Calls, Asks, Refuses, Says, Takes, AtTerminal, IsFor, LeftBy}
use Rattle.net_events.specs.AtSwitch.{SwitchEvent, SwitchHappened, HasOwnLine, LeftOn, OwnLineServed, switched, joins_of, waiting_on}
use Rattle.net_events.specs.AtSwitch as at_switch
use Rattle.net_events.specs.Network.{PlacedNode, PlacedSwitch, NetNode, User, Switching, NetLine, Network, HappenedAt, StandsAtLines, IsAtEnd, place_at, own_role, net_turn}
use Rattle.network_laws.specs.Switched.IsSwitched.{IsAny}
use Rattle.network_laws.proofs.Switched.UsersAny.{event_any, loss_any}
use Rattle.network_laws.proofs.Switched.SwitchEvents.{switch_event_holds}
use Rattle.network_runs.specs.Acting.{place_among, put_all, are_octets, are_digits, has_terminal, may_happen, left_by, after_turn, may_befall, left_on, line_served, with_switch, after_switch, same_role}
use Rattle.network_runs.specs.Acting.{Incomer, heard_lines, noted_lines, channel_of, forwarded_switch, forwarded_joins, BringsCall, may_hear, forwarded_on, forwarded_by, called_in, IsCalledOn}
use Rattle.network_runs.specs.Acting.{AtNode, AtSwitch, Arrives, Calling, IsLost, at_user, at_its_switch, heard_on, heard_by, arrived, lost, Goes, stays, by_user, by_switch, by_loss, ActLaw}
use Rattle.network_runs.proofs.Numbered.{length_numbered, numbered_at, place_there, place_is, other_none, if_some}

-- ---- frames are put

put_more : (d : Direction) (x : List ℕ) (xs : List (List ℕ)) (f : Flights)
    → let mid = with_flying d (flying d f ++ x ∷ []) f in with_flying d (flying d mid ++ xs) mid ≡ with_flying d (flying d f ++ x ∷ xs) f
put_more FromDte x xs f = ap (λ (l : List (List ℕ)). record f { from_dte = l }) (append_assoc {A = List ℕ} f.from_dte (x ∷ []) xs)
put_more FromDce x xs f = ap (λ (l : List (List ℕ)). record f { from_dce = l }) (append_assoc {A = List ℕ} f.from_dce (x ∷ []) xs)

put_none : (d : Direction) (f : Flights) → f ≡ with_flying d (flying d f ++ []) f
put_none FromDte f = ap (λ (l : List (List ℕ)). record f { from_dte = l }) (sym (append-nil f.from_dte))
put_none FromDce f = ap (λ (l : List (List ℕ)). record f { from_dce = l }) (sym (append-nil f.from_dce))

pub are_put : (d : Direction) (frames : List (List ℕ)) (f : Flights) → ArePut lossless_service d frames f (put_all d frames f)
are_put d [] f = sym (put_none d f)
are_put d (x ∷ xs) f =
    let mid : Flights = with_flying d (flying d f ++ x ∷ []) f in
    (mid, inl (tt, refl), subst (λ (g : Flights). ArePut lossless_service d xs mid g) (put_more d x xs f) (are_put d xs mid))

-- ---- a node with users has its turn

is_true : (b : Bool) → b ≡ true → IsTrue b
is_true true h = refl
is_true false h = absurd (true≢false (sym h))

pub digits_are : (digits : List ℕ) → are_digits digits ≡ true → AreDigits digits
digits_are digits h =
    let least = and_parts (nat_le 1 (length digits)) (nat_le (length digits) 15 && are_decimal digits) h in
    let most = and_parts (nat_le (length digits) 15) (are_decimal digits) least.1 in
    (leb-true 1 (length digits) least.0, leb-true (length digits) 15 most.0, is_true (are_decimal digits) most.1)

terminal_is : (n : NodeState) (terminal : ℕ) → has_terminal n terminal ≡ true → HasTerminal n terminal
terminal_is (Pad p) terminal h = ltb-true terminal (length p.ports) h
terminal_is (Host e) terminal h = absurd (true≢false (sym h))

for_it : (event : NodeEvent) (n : NodeState) → may_happen event n ≡ true → IsFor event n
for_it (Hears octets) n h = absurd (true≢false (sym h))
for_it (Calls address user_data) n h =
    let host = and_parts (not (is_pad n)) (are_digits address && nat_le (length user_data) 16) h in
    let call = and_parts (are_digits address) (nat_le (length user_data) 16) host.1 in
    (not-true (is_pad n) host.0, digits_are address call.0, leb-true (length user_data) 16 call.1)
for_it (Asks channel r) n h = not-true (is_pad n) h
for_it (Refuses channel) n h = not-true (is_pad n) h
for_it (Says channel octets qualified delivery) n h = not-true (is_pad n) h
for_it (Takes channel) n h = not-true (is_pad n) h
for_it (AtTerminal terminal event) n h = terminal_is n terminal h
for_it (Expires id) n h = tt
for_it Relinks n h = tt
for_it Restarts n h = tt

left_is : (event : NodeEvent) (n : NodeState) (role : Role) (f : Flights) → may_happen event n ≡ true → LeftBy event role f (left_by event role f)
left_is (Hears octets) n role f h = absurd (true≢false (sym h))
left_is (Calls address user_data) n role f h = refl
left_is (Asks channel r) n role f h = refl
left_is (Refuses channel) n role f h = refl
left_is (Says channel octets qualified delivery) n role f h = refl
left_is (Takes channel) n role f h = refl
left_is (AtTerminal terminal event) n role f h = refl
left_is (Expires id) n role f h = refl
left_is Relinks n role f h = refl
left_is Restarts n role f h = refl

turn_goes : (event : NodeEvent) (line : ℕ) (role : Role) (l : NetLine) (n : PlacedNode) (s t : Network) → slice_get s.lines line ≡ Some l
    → slice_get s.nodes (place_at role l) ≡ Some (User n) → IsFor event n.node → LeftBy event role l.flights (left_by event role l.flights)
    → after_turn event line role l n s ≡ t → Goes s t
turn_goes event line role l n s t line_is node_is for left e =
    let happened : HappenedAt lossless_service event line role s (after_turn event line role l n s) = record {
      line_is = l;
      line_there = line_is;
      node = n;
      node_there = node_is;
      is_for = for;
      between = left_by event role l.flights;
      left = λ f. left;
      flights = put_all (direction_of role) (frames_of (net_turn event line role n s).node) (left_by event role l.flights);
      put = λ f. are_put (direction_of role) (frames_of (net_turn event line role n s).node) (left_by event role l.flights);
      others = refl;
    } in
    subst (λ (x : Network). Goes s x) e (by_user event line role happened stays)

-- ---- a switch has its turn

-- what is taken from an own line is what the event takes
abbrev TakesFrom : SwitchEvent → PlacedSwitch → Network → Type 0
TakesFrom event n s =
    (own line : ℕ) (l : NetLine) → slice_get n.lines own ≡ Some line → slice_get s.lines line ≡ Some l
    → LeftOn event own (own_role n.switch own) l.flights (left_on event own (own_role n.switch own) l.flights)

own_line_served : (event : SwitchEvent) (place : ℕ) (n : PlacedSwitch) (s : Network) → StandsAtLines s.lines place n → TakesFrom event n s → (own line : ℕ) → slice_get n.lines own ≡ Some line
    → OwnLineServed lossless_service event own line (own_role n.switch own) (waiting_on own (switched event n.switch)) s.lines (after_switch event place n s).lines
own_line_served event place n s stands left own line e =
    let at : IsAtEnd s.lines place (own_role n.switch own) line = stands.each own line e in
    let after : Switch = switched event n.switch in
    let between : Flights = left_on event own (own_role n.switch own) at.line_is.flights in
    record {
      line_is = at.line_is;
      line_there = at.there;
      between = between;
      left = λ f. left own line at.line_is e at.there;
      flights = put_all (direction_of (own_role n.switch own)) (waiting_on own after) between;
      put = λ f. are_put (direction_of (own_role n.switch own)) (waiting_on own after) between;
      after_there =
          numbered_at (λ k l. line_served event n.switch after (place_among n.lines k) l) line s.lines
          ∙ ap (λ (o : Option NetLine). option_map (λ l. line_served event n.switch after (place_among n.lines line) l) o) at.there
          ∙ ap (λ (o : Option ℕ). Some (line_served event n.switch after o at.line_is)) (place_is n.lines line own e (λ k there. stands.apart k own line there e));
    }

none_served : (event : SwitchEvent) (before after : Switch) (o : Option NetLine) → option_map (λ l. line_served event before after None l) o ≡ o
none_served event before after None = refl
none_served event before after (Some l) = refl

other_line : (event : SwitchEvent) (place : ℕ) (n : PlacedSwitch) (s : Network) (line : ℕ) → ((own : ℕ) → slice_get n.lines own ≡ Some line → ⊥)
    → slice_get (after_switch event place n s).lines line ≡ slice_get s.lines line
other_line event place n s line none =
    let after : Switch = switched event n.switch in
    numbered_at (λ k l. line_served event n.switch after (place_among n.lines k) l) line s.lines
    ∙ ap (λ (o : Option ℕ). option_map (λ l. line_served event n.switch after o l) (slice_get s.lines line)) (other_none n.lines line none)
    ∙ none_served event n.switch after (slice_get s.lines line)

switch_goes : (event : SwitchEvent) (place : ℕ) (n : PlacedSwitch) (s t : Network) → IsAny lossless_service s → slice_get s.nodes place ≡ Some (Switching n)
    → HasOwnLine event n.switch → TakesFrom event n s → after_switch event place n s ≡ t → Goes s t
switch_goes event place n s t any there has left e =
    let stands : StandsAtLines s.lines place n = any.network.nodes place (Switching n) there in
    let happened : SwitchHappened lossless_service event place s (after_switch event place n s) = record {
      node = n;
      node_there = there;
      has_line = has;
      nodes = refl;
      lines = record {
        count = length_numbered (λ k l. line_served event n.switch (switched event n.switch) (place_among n.lines k) l) 0 s.lines;
        own_lines = own_line_served event place n s stands left;
        others = other_line event place n s;
      };
      register = refl;
    } in
    subst (λ (x : Network). Goes s x) e (by_switch event place happened stays)

own_there : (event : SwitchEvent) (s : Switch) → may_befall event s ≡ true → HasOwnLine event s
own_there (at_switch.Hears own octets) s h = absurd (true≢false (sym h))
own_there (at_switch.Expires own id) s h = ltb-true own (length s.lines) h
own_there (at_switch.Relinks own) s h = ltb-true own (length s.lines) h
own_there at_switch.Restarts s h = tt

taken : (event : SwitchEvent) (s : Switch) (own : ℕ) (role : Role) (f : Flights) → may_befall event s ≡ true → LeftOn event own role f (left_on event own role f)
taken (at_switch.Hears at octets) s own role f h = absurd (true≢false (sym h))
taken (at_switch.Expires at id) s own role f h = refl
taken (at_switch.Relinks at) s own role f h = refl
taken at_switch.Restarts s own role f h = refl

-- ---- it hears a frame

of_octets : (octets : List ℕ) → are_octets octets ≡ true → AreOctets octets
of_octets [] h = tt
of_octets (x ∷ xs) h = let both = and_parts (nat_lt x 256) (are_octets xs) h in (ltb-true x 256 both.0, of_octets xs both.1)

pub role_is : (r q : Role) → same_role r q ≡ true → q ≡ r
role_is Dte Dte h = refl
role_is Dte Dce h = absurd (true≢false (sym h))
role_is Dce Dte h = absurd (true≢false (sym h))
role_is Dce Dce h = refl

heard_left : (octets : List ℕ) (own at : ℕ) (role : Role) (f : Flights) → (own ≡ at → slice_get (flying (direction_to role) f) 0 ≡ Some octets)
    → LeftOn (at_switch.Hears at octets) own role f (left_on (at_switch.Hears at octets) own role f)
heard_left octets own at role f front = (
  (λ same. (front same, ap (λ (b : Bool). if b then without_first (direction_to role) f else f) (eq-eqb own at same))),
  (λ other. ap (λ (b : Bool). if b then without_first (direction_to role) f else f) (ne_eqb own at other)),
)

-- what the switch takes from each own line as it hears the first frame to its end of this one
hears_from : (octets : List ℕ) (line : ℕ) (role : Role) (l : NetLine) (n : PlacedSwitch) (own : ℕ) (s : Network) → slice_get s.lines line ≡ Some l
    → slice_get (flying (direction_to role) l.flights) 0 ≡ Some octets → place_among n.lines line ≡ Some own → own_role n.switch own ≡ role → TakesFrom (at_switch.Hears own octets) n s
hears_from octets line role l n own s line_is front at role_so k number m k_is m_is = heard_left octets k own (own_role n.switch k) m.flights front_of
  where
    front_of : k ≡ own → slice_get (flying (direction_to (own_role n.switch k)) m.flights) 0 ≡ Some octets
    front_of same =
        let numbers : number ≡ line = same_Some number line (sym k_is ∙ ap (λ (i : ℕ). slice_get n.lines i) same ∙ place_there n.lines line own at) in
        let lines : m ≡ l = same_Some m l (sym m_is ∙ ap (λ (i : ℕ). slice_get s.lines i) numbers ∙ line_is) in
        ap (λ (i : ℕ). slice_get (flying (direction_to (own_role n.switch i)) m.flights) 0) same
        ∙ ap (λ (r : Role). slice_get (flying (direction_to r) m.flights) 0) role_so
        ∙ ap (λ (x : NetLine). slice_get (flying (direction_to role) x.flights) 0) lines ∙ front

hearing_goes : (octets : List ℕ) (line : ℕ) (role : Role) (l : NetLine) (n : PlacedSwitch) (own : ℕ) (s t : Network) → IsAny lossless_service s → slice_get s.lines line ≡ Some l
    → slice_get s.nodes (place_at role l) ≡ Some (Switching n) → slice_get (flying (direction_to role) l.flights) 0 ≡ Some octets → place_among n.lines line ≡ Some own
    → may_hear own octets role n.switch ≡ true → after_switch (at_switch.Hears own octets) (place_at role l) n s ≡ t → Goes s t
hearing_goes octets line role l n own s t any line_is there front at may e =
    let has = and_parts (nat_lt own (length n.switch.lines)) (are_octets octets && same_role role (own_role n.switch own)) may in
    let rest = and_parts (are_octets octets) (same_role role (own_role n.switch own)) has.1 in
    switch_goes (at_switch.Hears own octets) (place_at role l) n s t any there
    (ltb-true own (length n.switch.lines) has.0, of_octets octets rest.0)
    (hears_from octets line role l n own s line_is front at (role_is role (own_role n.switch own) rest.1)) e

heard_goes : (octets : List ℕ) (line : ℕ) (role : Role) (l : NetLine) (n : PlacedSwitch) (own : Option ℕ) (s t : Network) → IsAny lossless_service s → slice_get s.lines line ≡ Some l
    → slice_get s.nodes (place_at role l) ≡ Some (Switching n) → slice_get (flying (direction_to role) l.flights) 0 ≡ Some octets → place_among n.lines line ≡ own
    → heard_on octets (place_at role l) role own n s ≡ Some t → Goes s t
heard_goes octets line role l n None s t any line_is there front at e = absurd (none-some t e)
heard_goes octets line role l n (Some own) s t any line_is there front at e =
    let so = if_some (may_hear own octets role n.switch) (after_switch (at_switch.Hears own octets) (place_at role l) n s) t e in
    hearing_goes octets line role l n own s t any line_is there front at so.0 so.1

-- ---- it hears a call: what goes on depends on the route alone

record IsSo (own : ℕ) (octets : List ℕ) (call : Incomer) (s : Switch) : Type 0 where
  switch : forwarded_switch own octets call s ≡ switched (at_switch.Hears own octets) s
  joins : forwarded_joins own octets call s ≡ joins_of (at_switch.Hears own octets) s

call_heeded : (routes : RouteMap) (own : ℕ) (call : Incomer) (ls : List SwitchLine) (notes : List Note) → notes ≡ Incoming call.channel call.parts ∷ [] → has_any call.parts.facilities ≡ false
    → line_for routes call.parts.called ≡ call.route → route_from own ls call.route ≡ call.route
    → (heed_all routes own notes ls ≡ answered (answer_by ls call.route) (channel_of own call) call.parts ls) × (joins_of_notes routes own notes ls ≡ join_of (answer_by ls call.route) (channel_of own call) ++ [])
call_heeded routes own call ls notes are bare found onward =
    subst (λ (xs : List Note). (heed_all routes own xs ls ≡ answered (answer_by ls call.route) (channel_of own call) call.parts ls) × (joins_of_notes routes own xs ls ≡ join_of (answer_by ls call.route) (channel_of own call) ++ [])) (sym are)
    (ap (λ (a : Answer). answered a (channel_of own call) call.parts ls) answers, ap (λ (a : Answer). join_of a (channel_of own call) ++ []) answers)
  where
    answers : answer routes ls own call.parts ≡ answer_by ls call.route
    answers =
        ap (λ (b : Bool). if b then Clears invalid_facility else answer_by ls (route_from own ls (line_for routes call.parts.called))) bare
        ∙ ap (λ (o : Option ℕ). answer_by ls (route_from own ls o)) found ∙ ap (λ (o : Option ℕ). answer_by ls o) onward

forwarded_so : (own : ℕ) (octets : List ℕ) (call : Incomer) (s : Switch) → BringsCall own octets call s → IsSo own octets call s
forwarded_so own octets call s f =
    let both = call_heeded s.routes own call (noted_lines own octets s) (notes_of (slice_get (heard_lines own octets s) own)) f.noted f.bare f.found f.onward in
    record { switch = ap (λ (ls : List SwitchLine). record s { lines = finished s.routes own ls }) (sym both.0); joins = sym both.1 }

called_on : (octets : List ℕ) (call : Incomer) (line : ℕ) (role : Role) (l : NetLine) (n : PlacedSwitch) (own : Option ℕ) (s t : Network) → IsAny lossless_service s → slice_get s.lines line ≡ Some l
    → slice_get s.nodes (place_at role l) ≡ Some (Switching n) → slice_get (flying (direction_to role) l.flights) 0 ≡ Some octets → place_among n.lines line ≡ own
    → MatchOption own ⊥ (λ k. BringsCall k octets call n.switch) → forwarded_on octets call (place_at role l) role own n s ≡ Some t → Goes s t
called_on octets call line role l n None s t any line_is there front at is e = absurd is
called_on octets call line role l n (Some own) s t any line_is there front at is e =
    let event : SwitchEvent = at_switch.Hears own octets in
    let place : ℕ = place_at role l in
    let so = if_some (may_hear own octets role n.switch) (with_switch event place n (forwarded_switch own octets call n.switch) (forwarded_joins own octets call n.switch) s) t e in
    let h : IsSo own octets call n.switch = forwarded_so own octets call n.switch is in
    hearing_goes octets line role l n own s t any line_is there front at so.0
    (ap (λ (x : Switch). with_switch event place n x (joins_of event n.switch) s) (sym h.switch)
    ∙ ap (λ (js : List NewJoin). with_switch event place n (forwarded_switch own octets call n.switch) js s) (sym h.joins) ∙ so.1)

called_by : (octets : List ℕ) (call : Incomer) (line : ℕ) (role : Role) (l : NetLine) (o : Option NetNode) (s t : Network) → IsAny lossless_service s → slice_get s.lines line ≡ Some l
    → slice_get s.nodes (place_at role l) ≡ o → slice_get (flying (direction_to role) l.flights) 0 ≡ Some octets → IsCalledOn (Some octets) call line o
    → forwarded_by octets call line role l o s ≡ Some t → Goes s t
called_by octets call line role l None s t any line_is there front is e = absurd is
called_by octets call line role l (Some (User n)) s t any line_is there front is e = absurd is
called_by octets call line role l (Some (Switching n)) s t any line_is there front is e =
    called_on octets call line role l n (place_among n.lines line) s t any line_is there front refl is e

call_goes : (octets : Option (List ℕ)) (call : Incomer) (line : ℕ) (role : Role) (l : NetLine) (s t : Network) → IsAny lossless_service s → slice_get s.lines line ≡ Some l
    → slice_get (flying (direction_to role) l.flights) 0 ≡ octets → IsCalledOn octets call line (slice_get s.nodes (place_at role l)) → called_in octets call line role l s ≡ Some t → Goes s t
call_goes None call line role l s t any line_is front is e = absurd is
call_goes (Some octets) call line role l s t any line_is front is e =
    called_by octets call line role l (slice_get s.nodes (place_at role l)) s t any line_is refl front is e

call_there : (call : Incomer) (line : ℕ) (role : Role) (o : Option NetLine) (s t : Network) → IsAny lossless_service s → slice_get s.lines line ≡ o
    → MatchOption o ⊥ (λ l. IsCalledOn (slice_get (flying (direction_to role) l.flights) 0) call line (slice_get s.nodes (place_at role l)))
    → option_and_then (λ l. called_in (slice_get (flying (direction_to role) l.flights) 0) call line role l s) o ≡ Some t → Goes s t
call_there call line role None s t any there is e = absurd is
call_there call line role (Some l) s t any there is e = call_goes (slice_get (flying (direction_to role) l.flights) 0) call line role l s t any there refl is e

-- ---- each act

user_goes : (event : NodeEvent) (line : ℕ) (role : Role) (l : NetLine) (o : Option NetNode) (s t : Network) → slice_get s.lines line ≡ Some l
    → slice_get s.nodes (place_at role l) ≡ o → at_user event line role l o s ≡ Some t → Goes s t
user_goes event line role l None s t line_is there e = absurd (none-some t e)
user_goes event line role l (Some (User n)) s t line_is there e =
    let so = if_some (may_happen event n.node) (after_turn event line role l n s) t e in
    turn_goes event line role l n s t line_is there (for_it event n.node so.0) (left_is event n.node role l.flights so.0) so.1
user_goes event line role l (Some (Switching n)) s t line_is there e = absurd (none-some t e)

its_switch_goes : (event : SwitchEvent) (place : ℕ) (o : Option NetNode) (s t : Network) → IsAny lossless_service s → slice_get s.nodes place ≡ o → at_its_switch event place o s ≡ Some t → Goes s t
its_switch_goes event place None s t any there e = absurd (none-some t e)
its_switch_goes event place (Some (User n)) s t any there e = absurd (none-some t e)
its_switch_goes event place (Some (Switching n)) s t any there e =
    let so = if_some (may_befall event n.switch) (after_switch event place n s) t e in
    switch_goes event place n s t any there (own_there event n.switch so.0) (λ own line l own_is l_is. taken event n.switch own (own_role n.switch own) l.flights so.0) so.1

node_hears : (octets : List ℕ) (line : ℕ) (role : Role) (l : NetLine) (o : Option NetNode) (s t : Network) → IsAny lossless_service s → slice_get s.lines line ≡ Some l
    → slice_get s.nodes (place_at role l) ≡ o → slice_get (flying (direction_to role) l.flights) 0 ≡ Some octets → heard_by octets line role l o s ≡ Some t → Goes s t
node_hears octets line role l None s t any line_is there front e = absurd (none-some t e)
node_hears octets line role l (Some (User n)) s t any line_is there front e =
    turn_goes (Hears octets) line role l n s t line_is there tt (front, refl) (same_Some (after_turn (Hears octets) line role l n s) t e)
node_hears octets line role l (Some (Switching n)) s t any line_is there front e =
    heard_goes octets line role l n (place_among n.lines line) s t any line_is there front refl e

frame_goes : (octets : Option (List ℕ)) (line : ℕ) (role : Role) (l : NetLine) (s t : Network) → IsAny lossless_service s → slice_get s.lines line ≡ Some l
    → slice_get (flying (direction_to role) l.flights) 0 ≡ octets → arrived octets line role l s ≡ Some t → Goes s t
frame_goes None line role l s t any line_is front e = subst (λ (x : Network). Goes s x) (same_Some s t e) stays
frame_goes (Some octets) line role l s t any line_is front e =
    node_hears octets line role l (slice_get s.nodes (place_at role l)) s t any line_is refl front e

-- on a line that is there
on_line : (f : NetLine → Option Network) (o : Option NetLine) (s t : Network) → ((l : NetLine) → o ≡ Some l → f l ≡ Some t → Goes s t) → option_and_then f o ≡ Some t → Goes s t
on_line f None s t goes e = absurd (none-some t e)
on_line f (Some l) s t goes e = goes l refl e

pub act_goes : ActLaw
act_goes (AtNode line role event) s t any is e =
    on_line (λ l. at_user event line role l (slice_get s.nodes (place_at role l)) s) (slice_get s.lines line) s t
    (λ l there so. user_goes event line role l (slice_get s.nodes (place_at role l)) s t there refl so) e
act_goes (AtSwitch place event) s t any is e = its_switch_goes event place (slice_get s.nodes place) s t any refl e
act_goes (Arrives line role) s t any is e =
    on_line (λ l. arrived (slice_get (flying (direction_to role) l.flights) 0) line role l s) (slice_get s.lines line) s t
    (λ l there so. frame_goes (slice_get (flying (direction_to role) l.flights) 0) line role l s t any there refl so) e
act_goes (Calling line role call) s t any is e = call_there call line role (slice_get s.lines line) s t any refl is e
act_goes (IsLost line d) s t any is e =
    on_line (λ l. Some (lost line d l s)) (slice_get s.lines line) s t
    (λ l there so. subst (λ (x : Network). Goes s x) (same_Some (lost line d l s) t so)
    (by_loss line d (record { line_is = l; line_there = there; flights = without_first d l.flights; rest = λ f. refl; others = refl }) stays)) e

-- ---- one step after the other

pub then_goes : {s mid t : Network} → Goes s mid → Goes mid t → Goes s t
then_goes stays n = n
then_goes (by_user event line role h m) n = by_user event line role h (then_goes m n)
then_goes (by_switch event place h m) n = by_switch event place h (then_goes m n)
then_goes (by_loss line d h m) n = by_loss line d h (then_goes m n)

-- the laws hold on
pub any_after : {s t : Network} → Goes s t → IsAny lossless_service s → IsAny lossless_service t
any_after stays any = any
any_after {s} (by_user {mid = mid} event line role h m) any = any_after m (event_any lossless_service event line role s mid any h)
any_after {s} (by_switch {mid = mid} event place h m) any = any_after m (switch_event_holds lossless_service event place s mid any h)
any_after {s} (by_loss {mid = mid} line d h m) any = any_after m (loss_any lossless_service line d s mid any h)
