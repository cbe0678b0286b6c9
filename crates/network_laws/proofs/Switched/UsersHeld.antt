-- What holds of a network of switches holds after a change at one line, at a node with users or of the frames in
-- flight, where it holds of that line.
use Rattle.std.proofs.Common.{◌≡◌, ◌≢◌, ℕ, List, length, set, Option, Some, refl, sym, ap, ◌∙◌, subst, arith, inl, inr}
use Rattle.std.specs.Prelude.{◌⊎◌, slice_get, option_map}
use Rattle.std.proofs.lemmas.Option.{same_Some, slice_get_within}
use Rattle.link_timers.specs.declared.role.Role.{Role}
use Rattle.link_timers.specs.declared.role.Role.TheVariants.{Dte, Dce}
use Rattle.call_records.specs.Book.{Book, side_of}
use Rattle.call_records.specs.Register.{Register, book_at}
use Rattle.record_laws.proofs.Books.Basics.{get_set, length_set}
use Rattle.node_laws.specs.LineRecords.Kept.{Setting}
use Rattle.frame_lines.specs.Lines.{Flights, LineService}
use Rattle.record_laws.specs.CallPaths.World.{Origin, World, Plan}
use Rattle.switched_call_laws.specs.SwitchPaths.Sight.{Switched, Switches, OwnLines, Lines, Standing, seen_then, all_seen}
use Rattle.switched_call_laws.specs.SwitchPaths.Network.{PlacedCall}
use Rattle.switched_call_laws.specs.SwitchPaths.Network as paths
use Rattle.switched_call_laws.specs.SwitchPaths.SwitchPathLaws.{with_line}
use Rattle.switched_call_laws.proofs.SwitchPaths.Listing.{if_same, if_else}
use Rattle.net_events.specs.Network.{PlacedSwitch, NetNode, User, Switching, NetLine, Network, place_at}
use Rattle.network_laws.specs.IsLine.{IsLine}
use Rattle.network_laws.specs.Switched.Plans.{IsPlanOf, has_users}
use Rattle.network_laws.specs.Switched.IsSwitched.{ends_state, line_between, EndStands, LineStands, IsSwitchAt, IsHeld, IsSwitched}
use Rattle.network_laws.proofs.Switched.NodesAtEnds.{AreApart, ChangesAt, same_end, same_at, stands_moved, nodes_after}

-- the network then
abbrev pub net_after : (new : List NetNode) (line : ℕ) → NetLine → Flights → Register → Network → Network
net_after new line l flights g s = record { nodes = new; lines = set s.lines line (record l { flights = flights }); register = g }

-- ---- the plan

-- a line was between the same nodes
old_line : (lines : List NetLine) (line : ℕ) (l : NetLine) (flights : Flights) (k : ℕ) (m : NetLine) → slice_get lines line ≡ Some l
    → slice_get (set lines line (record l { flights = flights })) k ≡ Some m
    → (o : NetLine) × (slice_get lines k ≡ Some o) × ((role : Role) → place_at role o ≡ place_at role m)
old_line lines line l flights k m at there = by (get_set lines line (record l { flights = flights }) k m there)
  where
    places : (m : NetLine) → m ≡ record l { flights = flights } → (role : Role) → place_at role l ≡ place_at role m
    places m e Dte = ap (λ (x : NetLine). x.dte) (sym e)
    places m e Dce = ap (λ (x : NetLine). x.dce) (sym e)

    by : ((k ≡ line) × (m ≡ record l { flights = flights })) ⊎ ((k ≢ line) × (slice_get lines k ≡ Some m))
        → (o : NetLine) × (slice_get lines k ≡ Some o) × ((role : Role) → place_at role o ≡ place_at role m)
    by (inl e) = (l, ap (λ i. slice_get lines i) e.0 ∙ at, places m e.1)
    by (inr e) = (m, e.1, λ role. refl)

-- and a node had users if it has
old_node : (nodes new : List NetNode) (line place : ℕ) (n : NetNode) → ChangesAt nodes new line → slice_get new place ≡ Some n
    → (o : NetNode) × (slice_get nodes place ≡ Some o) × (has_users o ≡ has_users n)
old_node nodes new line place (User m) w there = let was = w.stood place m there in (User was.0, was.1, refl)
old_node nodes new line place (Switching m) w there = (Switching m, w.switches place m there, refl)

pub plan_after : (s : Network) (plan : Plan) (new : List NetNode) (line : ℕ) (l : NetLine) (flights : Flights) (g : Register) → slice_get s.lines line ≡ Some l → ChangesAt s.nodes new line → IsPlanOf s plan
    → ((k : ℕ) (m : NetLine) → slice_get s.lines k ≡ Some m → plan.address k ≡ (book_at k g).dte.address)
    → IsPlanOf (net_after new line l flights g s) plan
plan_after s plan new line l flights g at w is address = record {
  node = λ k m role there. let o = old_line s.lines line l flights k m at there in is.node k o.0 role o.1 ∙ o.2 role;
  nowhere = λ k role more.
      let few = is.nowhere k role (let same = length_set s.lines line (record l { flights = flights }) in omega arith) in
      let same = w.count in omega arith;
  user = λ k m role n there at_n.
      let o = old_line s.lines line l flights k m at there in
      let p = old_node s.nodes new line (place_at role m) n w at_n in
      is.user k o.0 role p.0 o.1 (ap (λ i. slice_get s.nodes i) (o.2 role) ∙ p.1) ∙ p.2;
  address = λ k m there. let o = old_line s.lines line l flights k m at there in address k o.0 o.1;
  route = λ place n called there. is.route place n called (w.switches place n there);
}

-- the register has the addresses of the plan
pub address_kept : (plan : Plan) (ats : OwnLines) (xs : Switches) (cs : List PlacedCall) (ghosts : Lines) (books : List Book) (w : World) (traces : List (List Origin)) (g : Register) (lines : List NetLine)
    → paths.IsNetwork plan ats xs cs ghosts books w traces → w.register ≡ g → length books ≡ length lines
    → (k : ℕ) (m : NetLine) → slice_get lines k ≡ Some m → plan.address k ≡ (book_at k g).dte.address
address_kept plan ats xs cs ghosts books w traces g lines i same count k m there =
    sym (i.seen.seen.sides k Dte (let within = slice_get_within lines k m there in let c = i.seen.lines.seen.lines in omega arith)).seen_address
    ∙ ap (λ (x : Register). (book_at k x).dte.address) same

-- ---- the switches

pub sighted : (n : PlacedSwitch) (own : List ℕ) (lines : Lines) (books : List Book) (x : Option Switched) → IsSwitchAt n own x → IsSwitchAt n own (option_map (λ y. seen_then own lines books y) x)
sighted n own lines books x h = record {
  histories = (seen_then own lines books (record { switch = n.switch; histories = h.histories })).histories;
  is = ap (λ (o : Option Switched). option_map (λ y. seen_then own lines books y) o) h.is;
  lines = h.lines;
}

-- ---- on faithful lines

-- the network of the laws of paths when one line has changed, with its book
pub record LineChanges (plan : Plan) (ats : OwnLines) (xs : Switches) (cs : List PlacedCall) (old : Lines) (books : List Book) (line : ℕ) (l : Standing) (new : Book) (register : Register) : Type 0 where
  pub books_then : List Book
  pub world : World
  pub traces : List (List Origin)
  pub network : paths.IsNetwork plan ats (all_seen ats (with_line line l old) books_then xs) cs (with_line line l old) books_then world traces
  pub register_is : world.register ≡ register
  pub count : length books_then ≡ length books
  pub here : slice_get books_then line ≡ Some new
  pub rest : (k : ℕ) → k ≢ line → slice_get books_then k ≡ slice_get books k

pub held_after : (L : LineService) (s : Network) (n : IsSwitched L s) (held : IsHeld L s) (new : List NetNode) (line : ℕ) (l : NetLine) (flights : Flights) (g : Register) (book : Book) (setting : Setting)
    → slice_get s.lines line ≡ Some l → ChangesAt s.nodes new line → AreApart new
    → (here : LineStands new line (record l { flights = flights }))
    → IsLine L (ends_state (record l { flights = flights }) here.at book)
    → ((side : Role) → length (side_of side book).slots ≡ l.channels)
    → LineChanges held.plan held.own_lines held.switches held.calls held.lines held.books line
    (record { setting = setting; line = line_between (record l { flights = flights }) here.at }) book g
    → IsHeld L (net_after new line l flights g s)
held_after L s n held new line l flights g book setting at w apart here holds channels a =
    let l' : NetLine = record l { flights = flights } in
    record {
      books = a.books_then;
      count = a.count ∙ held.count ∙ sym (length_set s.lines line l');
      ends = λ k m c at_m at_c h. line_by k m c at_c h (get_set s.lines line l' k m at_m);
      channels = λ k m c side at_m at_c. channels_by k m c side at_c (get_set s.lines line l' k m at_m);
      lines = with_line line standing held.lines;
      lines_are = λ k m at_m h. ghost_by k m h (get_set s.lines line l' k m at_m);
      plan = held.plan;
      plan_is = plan_after s held.plan new line l flights g at w held.plan_is
          (address_kept held.plan held.own_lines (all_seen held.own_lines (with_line line standing held.lines) a.books_then held.switches) held.calls (with_line line standing held.lines) a.books_then a.world a.traces g s.lines a.network a.register_is (a.count ∙ held.count));
      own_lines = held.own_lines;
      switches = all_seen held.own_lines (with_line line standing held.lines) a.books_then held.switches;
      switches_are = λ place m there. sighted m (held.own_lines place) (with_line line standing held.lines) a.books_then (held.switches place) (held.switches_are place m (w.switches place m there));
      calls = held.calls;
      world = a.world;
      traces = a.traces;
      network = a.network;
      register = a.register_is;
    }
  where
    changed : NetLine
    changed = record l { flights = flights }

    standing : Standing
    standing = record { setting = setting; line = line_between changed here.at }

    book_is : (k : ℕ) (c : Book) → slice_get a.books_then k ≡ Some c → k ≡ line → c ≡ book
    book_is k c at_c same = same_Some c book (sym at_c ∙ ap (λ i. slice_get a.books_then i) same ∙ a.here)

    -- the changed line has no other ends
    ends_are : (k : ℕ) (m : NetLine) (h : LineStands new k m) → k ≡ line → m ≡ changed → h.at ≡ here.at
    ends_are k m h place same = λ i role.
        same_end new line (place_at role changed) (h.at role) (here.at role) apart
        (subst (λ (j : ℕ). EndStands new j (place_at role changed) (h.at role)) place (subst (λ (x : NetLine). EndStands new k (place_at role x) (h.at role)) same (h.there role)))
        (here.there role) i

    -- the others have those that they had
    others_are : (k : ℕ) (m : NetLine) (h : LineStands new k m) (old : LineStands s.nodes k m) → k ≢ line → h.at ≡ old.at
    others_are k m h old ne = same_at new k m apart h (stands_moved s.nodes new line k m w ne old)

    line_by : (k : ℕ) (m : NetLine) (c : Book) → slice_get a.books_then k ≡ Some c → (h : LineStands new k m)
        → ((k ≡ line) × (m ≡ changed)) ⊎ ((k ≢ line) × (slice_get s.lines k ≡ Some m)) → IsLine L (ends_state m h.at c)
    line_by k m c at_c h (inl e) =
        let ends = ends_are k m h e.0 e.1 in
        let book = book_is k c at_c e.0 in
        subst (IsLine L) (sym (λ i. ends_state (e.1 i) (ends i) (book i))) holds
    line_by k m c at_c h (inr e) =
        let old = n.lines k m e.1 in
        let ends = others_are k m h old e.0 in
        subst (IsLine L) (sym (λ i. ends_state m (ends i) c)) (held.ends k m c e.1 (sym (a.rest k e.0) ∙ at_c) old)

    channels_by : (k : ℕ) (m : NetLine) (c : Book) (side : Role) → slice_get a.books_then k ≡ Some c
        → ((k ≡ line) × (m ≡ changed)) ⊎ ((k ≢ line) × (slice_get s.lines k ≡ Some m)) → length (side_of side c).slots ≡ m.channels
    channels_by k m c side at_c (inl e) =
        ap (λ (x : Book). length (side_of side x).slots) (book_is k c at_c e.0) ∙ channels side ∙ ap (λ (x : NetLine). x.channels) (sym e.1)
    channels_by k m c side at_c (inr e) = held.channels k m c side e.1 (sym (a.rest k e.0) ∙ at_c)

    ghost_by : (k : ℕ) (m : NetLine) (h : LineStands new k m)
        → ((k ≡ line) × (m ≡ changed)) ⊎ ((k ≢ line) × (slice_get s.lines k ≡ Some m)) → (with_line line standing held.lines k).line ≡ line_between m h.at
    ghost_by k m h (inl e) =
        let ends = ends_are k m h e.0 e.1 in
        ap (λ (x : Standing). x.line) (if_same k line standing (held.lines k) e.0) ∙ sym (λ i. line_between (e.1 i) (ends i))
    ghost_by k m h (inr e) =
        let old = n.lines k m e.1 in
        let ends = others_are k m h old e.0 in
        ap (λ (x : Standing). x.line) (if_else k line standing (held.lines k) e.0) ∙ held.lines_are k m e.1 old ∙ sym (λ i. line_between m (ends i))

-- ---- on any lines

pub switched_after : (L : LineService) (s : Network) (n : IsSwitched L s) (new : List NetNode) (line : ℕ) (l : NetLine) (flights : Flights) (g : Register)
    → slice_get s.lines line ≡ Some l → ChangesAt s.nodes new line → LineStands new line (record l { flights = flights })
    → (L.faithful → IsHeld L (net_after new line l flights g s))
    → IsSwitched L (net_after new line l flights g s)
switched_after L s n new line l flights g at w here held = record {
  lines = λ k m at_m. by k m (get_set s.lines line (record l { flights = flights }) k m at_m);
  nodes = nodes_after s.lines s.nodes new line l (record l { flights = flights }) at refl refl w n.nodes;
  holds = held;
}
  where
    by : (k : ℕ) (m : NetLine) → ((k ≡ line) × (m ≡ record l { flights = flights })) ⊎ ((k ≢ line) × (slice_get s.lines k ≡ Some m)) → LineStands new k m
    by k m (inl e) = subst (λ (i : ℕ). LineStands new i m) (sym e.0) (subst (λ (x : NetLine). LineStands new line x) (sym e.1) here)
    by k m (inr e) = stands_moved s.nodes new line k m w e.0 (n.lines k m e.1)
