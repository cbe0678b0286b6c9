-- On faithful lines what is held of a network of switches is held after an event of a switch.
use Rattle.std.proofs.Common.{◌≡◌, ◌≢◌, ℕ, ◌<◌, List, length, Some, refl, sym, ap, ap₂, subst, ◌∙◌, inl, inr, arith}
use Rattle.std.specs.Prelude.{◌⊎◌, slice_get, option_and_then}
use Rattle.std.proofs.lemmas.Option.{same_Some, slice_get_within}
use Rattle.record_laws.proofs.Books.Basics.{get_there, get_set, set_here, length_set}
use Rattle.link_timers.specs.declared.role.Role.{Role}
use Rattle.link_timers.specs.declared.role.Role.TheVariants.{Dte, Dce}
use Rattle.link_timers.specs.Role.{other_of}
use Rattle.address_routes.specs.Routes.{RouteMap, line_for}
use Rattle.call_records.specs.Book.{Book, address_of, side_of}
use Rattle.call_records.specs.Writes.{Write, all_written}
use Rattle.call_records.specs.Register.{Register, book_at}
use Rattle.node_laws.specs.LineRecords.Kept.{Kept}
use Rattle.user_nodes.specs.Node.{NodeState, Pad, Host, end_of}
use Rattle.frame_lines.specs.Lines.{LineService}
use Rattle.node_laws.proofs.Pads.Holding as pad_law
use Rattle.switch_lines.specs.Lines.{SwitchLine}
use Rattle.switched_call_laws.specs.SwitchRecords.Turned.{sight}
use Rattle.switched_call_laws.specs.SwitchRecords.Kept.{Partner, sent_on}
use Rattle.switched_call_laws.specs.SwitchRecords.Tied.{Histories}
use Rattle.switched_call_laws.specs.SwitchPaths.Sight.{Switched, Standing, network_line, role_at, IsInSight}
use Rattle.switched_call_laws.specs.SwitchPaths.Network.{IsOther}
use Rattle.switched_call_laws.specs.SwitchPaths.SwitchPathLaws.{IsWritten}
use Rattle.switched_call_laws.proofs.SwitchRecords.Turned.{written_seen}
use Rattle.switched_call_laws.proofs.SwitchPaths.Elsewhere.{kept_in_sight}
use Rattle.record_laws.specs.CallPaths.World.{Plan}
use Rattle.net_events.specs.AtSwitch.{SwitchEvent, switched, switch_drained, joins_of, HasOwnLine, LinesServed, all_handed}
use Rattle.net_events.specs.Network.{PlacedSwitch, NetNode, Switching, NetLine, Network, StandsAtLines, place_at, own_role}
use Rattle.network_laws.specs.IsLine.{NodeHolds, IsLine}
use Rattle.network_laws.proofs.Shapes.{writes_stay}
use Rattle.network_laws.specs.Switched.Plans.{has_users, goes_on_at, IsPlanOf}
use Rattle.network_laws.specs.Switched.IsSwitched.{ends_state, line_between, EndStands, LineStands, IsSwitchAt, IsHeld, IsSwitched}
use Rattle.net_events.proofs.Users.{same_switch}
use Rattle.network_laws.proofs.Switched.NodesAtEnds.{same_place, same_end, are_apart}
use Rattle.network_laws.proofs.Switched.OwnLines.{own_or_none, line_named, none_other, role_of_own}
use Rattle.network_laws.proofs.Switched.SwitchMoving.{addresses_stay, MayCome, Moved, moved}
use Rattle.network_laws.proofs.Switched.SwitchSending.{Sent, all_sent}
use Rattle.network_laws.proofs.Switched.SwitchStanding.{switch_after, routes_stay, switched_many, lines_count, WasLine, was_line, switch_end, other_stood, quiet_after, switch_quiet, stands_then}
use Rattle.network_laws.proofs.Switched.SwitchPartners.{IsPartner, line_of_partner, partner_of_line, Fits, nodes_then, end_was, picked, may_come}

-- ---- the plan

plan_then : (L : LineService) (event : SwitchEvent) (place : ℕ) (n : PlacedSwitch) (s t : Network) (plan : Plan) → slice_get s.nodes place ≡ Some (Switching n)
    → t.nodes ≡ nodes_then event place n s.nodes → LinesServed L event n s.lines t.lines → t.register ≡ all_handed n.lines (own_role n.switch) (joins_of event n.switch) s.register
    → IsPlanOf s plan → IsPlanOf t plan
plan_then L event place n s t plan there nodes served register h = record {
  node = λ line l role at. let w = was line l at in h.node line w.l role w.there ∙ sym (same_place role w.l l w.dte w.dce);
  nowhere = λ line role more.
      let few = h.nowhere line role (let same = served.count in omega arith) in
      let many : length t.nodes ≡ length s.nodes = ap (λ (ms : List NetNode). length ms) nodes ∙ length_set s.nodes place (Switching (switch_after event n)) in omega arith;
  user = λ line l role m at there.
      let w = was line l at in
      user_by line w.l role m w.there
      (get_set s.nodes place (Switching (switch_after event n)) (place_at role w.l) m
      (ap (λ (k : ℕ). slice_get (nodes_then event place n s.nodes) k) (sym (same_place role w.l l w.dte w.dce))
      ∙ (ap (λ (ms : List NetNode). slice_get ms (place_at role l)) (sym nodes) ∙ there)));
  address = λ line l at.
      let w = was line l at in
      h.address line w.l w.there
      ∙ (sym (addresses_stay n.lines (own_role n.switch) (joins_of event n.switch) line s.register) ∙ ap (λ (g : Register). (book_at line g).dte.address) (sym register));
  route = λ at m called there.
      route_by at m called
      (get_set s.nodes place (Switching (switch_after event n)) at (Switching m) (ap (λ (ms : List NetNode). slice_get ms at) (sym nodes) ∙ there));
}
  where
    was : (line : ℕ) (l : NetLine) → slice_get t.lines line ≡ Some l → WasLine s.lines line l
    was line l at = was_line L event n s.lines t.lines served line l at

    user_by : (line : ℕ) (l : NetLine) (role : Role) (m : NetNode) → slice_get s.lines line ≡ Some l
        → ((place_at role l ≡ place) × (m ≡ Switching (switch_after event n))) ⊎ ((place_at role l ≢ place) × (slice_get s.nodes (place_at role l) ≡ Some m))
        → plan.has_user line role ≡ has_users m
    user_by line l role m at (inl e) =
        h.user line l role (Switching n) at (ap (λ (k : ℕ). slice_get s.nodes k) e.0 ∙ there) ∙ ap has_users (sym e.1)
    user_by line l role m at (inr e) = h.user line l role m at e.1

    route_by : (at : ℕ) (m : PlacedSwitch) (called : List ℕ)
        → ((at ≡ place) × (Switching m ≡ Switching (switch_after event n))) ⊎ ((at ≢ place) × (slice_get s.nodes at ≡ Some (Switching m)))
        → plan.route at (address_of called) ≡ goes_on_at m called
    route_by at m called (inl e) =
        let is : m ≡ switch_after event n = same_switch m (switch_after event n) (ap (λ (x : NetNode). Some x) e.1) in
        let routes : m.switch.routes ≡ n.switch.routes = ap (λ (x : PlacedSwitch). x.switch.routes) is ∙ routes_stay event n.switch in
        let lines : m.lines ≡ n.lines = ap (λ (x : PlacedSwitch). x.lines) is in
        h.route at n called (ap (λ (k : ℕ). slice_get s.nodes k) e.0 ∙ there)
        ∙ ap₂ (λ (xs : List ℕ) (r : RouteMap). option_and_then (λ own. slice_get xs own) (line_for r called)) (sym lines) (sym routes)
    route_by at m called (inr e) = h.route at m called e.1

-- ---- the book of an own line

-- what holds at the DTE's end holds after writes at the DCE
typed_far : (n : NodeState) (ws : List Write) (b : Book) → NodeHolds Dte n b → NodeHolds Dte n (all_written Dce ws b)
typed_far (Pad p) ws b h = pad_law.far_kept Dte p ws b h
typed_far (Host e) ws b h = tt

typed_then : (n m : NodeState) (b c : Book) → n ≡ m → IsWritten Dce b c → NodeHolds Dte n b → NodeHolds Dte m c
typed_then n m b c same w h =
    subst (λ (x : NodeState). NodeHolds Dte x c) same (subst (NodeHolds Dte n) (sym w.is) (typed_far n w.writes b h))

slots_then : (role side : Role) (b c : Book) → IsWritten role b c → length (side_of side c).slots ≡ length (side_of side b).slots
slots_then role side b c w = ap (λ (x : Book). length (side_of side x).slots) w.is ∙ ap (λ (x : ℕ × ℕ). x.1) (writes_stay role w.writes b side)

node_then : (role side : Role) (b c : Book) → IsWritten role b c → (side_of side c).node ≡ (side_of side b).node
node_then role side b c w = ap (λ (x : Book). (side_of side x).node) w.is ∙ ap (λ (x : ℕ × ℕ). x.0) (writes_stay role w.writes b side)

-- what a switch writes at its end is written in the line's book
seen_written : (r : Role) (b c : Book) → IsWritten Dce b c → IsWritten r (sight r b) (sight r c)
seen_written r b c w = record { writes = w.writes; is = ap (λ (x : Book). sight r x) w.is ∙ sym (written_seen r w.writes b) }

-- ---- the network after the event

abbrev pub network_then : SwitchEvent → (place : ℕ) → PlacedSwitch → List NetLine → Register → Network → Network
network_then event place n after g s = record { nodes = nodes_then event place n s.nodes; lines = after; register = g }

module _ (L : LineService) (event : SwitchEvent) (place : ℕ) (n : PlacedSwitch) (s : Network) (after : List NetLine) (g : Register) (f : L.faithful)
    (there : slice_get s.nodes place ≡ Some (Switching n)) (i : IsSwitched L s) (has : HasOwnLine event n.switch) (served : LinesServed L event n s.lines after)
    (register : g ≡ all_handed n.lines (own_role n.switch) (joins_of event n.switch) s.register) (held : IsHeld L s) where
  abbrev new : List NetNode
  new = nodes_then event place n s.nodes

  st : StandsAtLines s.lines place n
  st = i.nodes place (Switching n) there

  at_place : IsSwitchAt n (held.own_lines place) (held.switches place)
  at_place = held.switches_are place n there

  abbrev h : Histories
  h = at_place.histories

  abbrev x : Switched
  x = record { switch = n.switch; histories = h }

  within_own : (own line : ℕ) → slice_get n.lines own ≡ Some line → own < length (held.own_lines place)
  within_own own line own_is = subst (λ (ls : List ℕ). own < length ls) (sym at_place.lines) (slice_get_within n.lines own line own_is)

  named : (own line : ℕ) → slice_get n.lines own ≡ Some line → network_line (held.own_lines place) own ≡ line
  named own line own_is = ap (λ (ls : List ℕ). network_line ls own) at_place.lines ∙ line_named n.lines own line own_is

  role_is : (own line : ℕ) (l : NetLine) → slice_get n.lines own ≡ Some line → slice_get s.lines line ≡ Some l → (h.partners own).role ≡ own_role n.switch own
  role_is own line l own_is at =
      role_of_own s held.plan held.plan_is place n x (held.own_lines place) (held.network.planned place x at_place.is) at_place.lines st (λ k m at. (i.lines k m at).apart) own line l own_is at

  same_roles : (own : ℕ) → own < length (held.own_lines place) → (h.partners own).role ≡ own_role n.switch own
  same_roles own less =
      let line = get_there n.lines own (subst (λ (ls : List ℕ). own < length ls) at_place.lines less) in
      let e = st.each own line.0 line.1 in
      role_is own line.0 e.line_is line.1 e.there

  -- the other ends, before the event
  partners : (own line : ℕ) (l : NetLine) → slice_get n.lines own ≡ Some line → slice_get s.lines line ≡ Some l
      → (k : LineStands s.nodes line l) → IsPartner (h.partners own) (own_role n.switch own) l (k.at (other_of (own_role n.switch own)))
  partners own line l own_is at k =
      let less = within_own own line own_is in
      let within = slice_get_within n.lines own line own_is in
      let m = get_there n.switch.lines own (let c = st.count in omega (arith, c, within)) in
      let sight_is : IsInSight x own (network_line (held.own_lines place) own) held.lines held.books = (held.network.stays place x at_place.is).sight own less in
      partner_of_line (h.partners own) (own_role n.switch own) m.0.end l k.at (role_is own line l own_is at)
      (ap (λ (v : Standing). v.line) (sight_is.line_is m.0 m.1 ∙ ap (λ (j : ℕ). held.lines j) (named own line own_is)) ∙ held.lines_are line l at k)

  gone : Moved held.plan held.own_lines held.switches place (own_role n.switch) event n.switch (switched event n.switch) h held.lines held.books held.world
  gone = moved held.plan held.own_lines held.switches held.calls held.lines held.books held.world held.traces place (own_role n.switch) n.switch h at_place.is same_roles held.network event
      (subst (λ (ls : List ℕ). MayCome ls event h) (sym at_place.lines)
      (may_come L event s.nodes place n s.lines after h f st i.lines has served partners))

  sent : Sent held.plan held.own_lines held.switches place gone.calls held.lines gone.books gone.world gone.traces (Fits new after n) (switched event n.switch) gone.then_is.histories
  sent = all_sent held.plan held.own_lines held.switches place gone.calls held.lines gone.books gone.world gone.traces (Fits new after n) (switched event n.switch) gone.then_is
      (λ own y at.
      let p = picked L event s.nodes place n s.lines after f (are_apart s.lines s.nodes i.nodes) st i.lines served h.partners partners own y at in
      (p.0, subst (λ (q : Partner). Fits new after n own (sent_on y p.0 q)) (sym (gone.partners own)) p.1))

  abbrev then_h : Histories
  then_h = sent.then_is.histories

  abbrev y : Switched
  y = record { switch = switch_drained (switched event n.switch); histories = then_h }

  was : (line : ℕ) (l : NetLine) → slice_get after line ≡ Some l → WasLine s.lines line l
  was line l at = was_line L event n s.lines after served line l at

  written : (own : ℕ) → IsWritten Dce (h.books own) (then_h.books own)
  written own = subst (λ (bs : ℕ → Book). IsWritten Dce (h.books own) (bs own)) (sym sent.books_are) (gone.written own)

  -- ---- an own line

  record OwnThen (line : ℕ) (l : NetLine) (k : LineStands new line l) (book : Book) : Type 0 where
    old : NetLine
    old_there : slice_get s.lines line ≡ Some old
    dte : l.dte ≡ old.dte
    dce : l.dce ≡ old.dce
    channels : l.channels ≡ old.channels
    role : Role
    here : place_at role old ≡ place
    old_book : Book
    old_book_there : slice_get held.books line ≡ Some old_book
    writes : IsWritten role old_book book
    own_end : SwitchLine
    own_is : k.at role ≡ Host own_end.end
    line_is : (sent.then_is.lines line).line ≡ line_between l k.at
    kept : Kept (sent.then_is.lines line).setting book (sent.then_is.lines line).line

  own_then : (own line : ℕ) (l : NetLine) (book : Book) → slice_get n.lines own ≡ Some line → slice_get after line ≡ Some l → slice_get gone.books line ≡ Some book
      → (k : LineStands new line l) → OwnThen line l k book
  own_then own line l book own_is at book_at k =
      let w = was line l at in
      let e = st.each own line own_is in
      let role : Role = own_role n.switch own in
      let here : place_at role w.l ≡ place = ap (λ (v : NetLine). place_at role v) (same_Some w.l e.line_is (sym w.there ∙ e.there)) ∙ e.at_end in
      let place_is : place_at role l ≡ place = same_place role w.l l w.dte w.dce ∙ here in
      let less = within_own own line own_is in
      let within = slice_get_within n.lines own line own_is in
      let count = st.count in
      let many = lines_count event n.switch in
      let few = switched_many event n.switch in
      let d = get_there (switch_drained (switched event n.switch)).lines own (omega (arith, within, many, count)) in
      let m = get_there (switched event n.switch).lines own (omega (arith, within, few, count)) in
      let fits : IsPartner (then_h.partners own) role l (k.at (other_of role)) = sent.fits own m.0 m.1 line l k own_is at in
      let sight_is : IsInSight y own (network_line (held.own_lines place) own) sent.then_is.lines gone.books = (sent.then_is.network.stays place y sent.then_is.there).sight own less in
      let own_at : k.at role ≡ Host d.0.end =
      switch_end new place (switch_after event n) (set_here s.nodes place (Switching (switch_after event n)) (Switching n) there) st.apart line (place_at role l) (k.at role) place_is (k.there role) own d.0 own_is d.1 in
      let book_is : sight role (then_h.books own) ≡ book =
      ap (λ (r : Role). sight r (then_h.books own)) (sym fits.role_is)
      ∙ same_Some (sight (role_at y own) (then_h.books own)) book (sym sight_is.book ∙ ap (λ (j : ℕ). slice_get gone.books j) (named own line own_is) ∙ book_at) in
      let old_sight : IsInSight x own (network_line (held.own_lines place) own) held.lines held.books = (held.network.stays place x at_place.is).sight own less in
      record {
        old = w.l;
        old_there = w.there;
        dte = w.dte;
        dce = w.dce;
        channels = w.channels;
        role = role;
        here = here;
        old_book = sight role (h.books own);
        old_book_there = ap (λ (j : ℕ). slice_get held.books j) (sym (named own line own_is)) ∙ old_sight.book ∙ ap (λ (r : Role). Some (sight r (h.books own))) (role_is own line w.l own_is w.there);
        writes = subst (IsWritten role (sight role (h.books own))) book_is (seen_written role (h.books own) (then_h.books own) (written own));
        own_end = d.0;
        own_is = own_at;
        line_is = ap (λ (j : ℕ). (sent.then_is.lines j).line) (sym (named own line own_is)) ∙ ap (λ (v : Standing). v.line) (sym (sight_is.line_is d.0 d.1))
            ∙ line_of_partner (then_h.partners own) role d.0.end l k.at fits (ap end_of own_at);
        kept = subst (λ (j : ℕ). Kept (sent.then_is.lines j).setting book (sent.then_is.lines j).line) (named own line own_is)
            (subst (λ (c : Book). Kept (sent.then_is.lines (network_line (held.own_lines place) own)).setting c (sent.then_is.lines (network_line (held.own_lines place) own)).line)
            (ap (λ (r : Role). sight r (then_h.books own)) fits.role_is ∙ book_is)
            (kept_in_sight y own (network_line (held.own_lines place) own) sent.then_is.lines gone.books d.0 d.1 sight_is ((sent.then_is.network.stays place y sent.then_is.there).tied.kept own d.0 d.1)));
      }

  -- of what was typed at the DTE the book has what it had
  typed_so : (line : ℕ) (l : NetLine) (k : LineStands new line l) (book : Book) (role : Role) (old : NetLine) (old_book : Book) (own_end : SwitchLine) (b : LineStands s.nodes line old) → l.dte ≡ old.dte
      → place_at role old ≡ place → IsWritten role old_book book → k.at role ≡ Host own_end.end → NodeHolds Dte (b.at Dte) old_book → NodeHolds Dte (k.at Dte) book
  typed_so line l k book Dte old old_book own_end b dte here writes own typed = subst (λ (z : NodeState). NodeHolds Dte z book) (sym own) tt
  typed_so line l k book Dce old old_book own_end b dte here writes own typed =
      let was_there : EndStands s.nodes line old.dte (k.at Dte) =
      end_was event place n s.nodes line old.dte (k.at Dte) (λ e. b.apart (e ∙ sym here)) (subst (λ (p : ℕ). EndStands new line p (k.at Dte)) dte (k.there Dte)) in
      typed_then (b.at Dte) (k.at Dte) old_book book (same_end s.nodes line old.dte (b.at Dte) (k.at Dte) (are_apart s.lines s.nodes i.nodes) (b.there Dte) was_there) writes typed

  line_of_own : (own line : ℕ) (l : NetLine) (book : Book) → slice_get n.lines own ≡ Some line → slice_get after line ≡ Some l → slice_get gone.books line ≡ Some book
      → (k : LineStands new line l) → IsLine L (ends_state l k.at book)
  line_of_own own line l book own_is at book_at k =
      let o = own_then own line l book own_is at book_at k in
      let b : LineStands s.nodes line o.old = i.lines line o.old o.old_there in
      let before : IsLine L (ends_state o.old b.at o.old_book) = held.ends line o.old o.old_book o.old_there o.old_book_there b in
      record {
        apart = k.apart;
        dte_node = node_then o.role Dte o.old_book book o.writes ∙ (before.dte_node ∙ sym o.dte);
        dce_node = node_then o.role Dce o.old_book book o.writes ∙ (before.dce_node ∙ sym o.dce);
        host = k.host;
        quiet = record { dte = k.quiet Dte; dce = k.quiet Dce };
        typed = typed_so line l k book o.role o.old o.old_book o.own_end b o.dte o.here o.writes o.own_is before.typed;
        kept = λ f. record {
          setting = (sent.then_is.lines line).setting;
          kept = subst (Kept (sent.then_is.lines line).setting book) o.line_is o.kept;
        };
      }

  -- ---- all lines

  abbrev OwnOrNone : (line : ℕ) → Type 0
  OwnOrNone line = ((own : ℕ) × (slice_get n.lines own ≡ Some line)) ⊎ ((own : ℕ) → slice_get n.lines own ≡ Some line → ⊥)

  is_other : (line : ℕ) → ((own : ℕ) → slice_get n.lines own ≡ Some line → ⊥) → IsOther (held.own_lines place) line
  is_other line none = subst (λ (ls : List ℕ). IsOther ls line) (sym at_place.lines) (none_other n.lines line none)

  line_by : (line : ℕ) (l : NetLine) (book : Book) → slice_get after line ≡ Some l → slice_get gone.books line ≡ Some book
      → (k : LineStands new line l) → OwnOrNone line → IsLine L (ends_state l k.at book)
  line_by line l book at book_at k (inl own) = line_of_own own.0 line l book own.1 at book_at k
  line_by line l book at book_at k (inr none) =
      held.ends line l book (sym (served.others line none) ∙ at) (sym (gone.same line (is_other line none)) ∙ book_at)
      (other_stood event s.nodes place n line l there none k)

  channels_by : (line : ℕ) (l : NetLine) (book : Book) (side : Role) → slice_get after line ≡ Some l → slice_get gone.books line ≡ Some book
      → OwnOrNone line → length (side_of side book).slots ≡ l.channels
  channels_by line l book side at book_at (inl own) =
      let o = own_then own.0 line l book own.1 at book_at (stands_now line l at) in
      slots_then o.role side o.old_book book o.writes ∙ (held.channels line o.old o.old_book side o.old_there o.old_book_there ∙ sym o.channels)
    where
      stands_now : (line : ℕ) (l : NetLine) → slice_get after line ≡ Some l → LineStands new line l
      stands_now line l at =
          let w = was line l at in
          stands_then event s.nodes place n there (quiet_after event n.switch (switch_quiet s.lines s.nodes place n there st i.lines)) line w.l l w.dte w.dce (i.lines line w.l w.there)
  channels_by line l book side at book_at (inr none) =
      held.channels line l book side (sym (served.others line none) ∙ at) (sym (gone.same line (is_other line none)) ∙ book_at)

  ghost_by : (line : ℕ) (l : NetLine) → slice_get after line ≡ Some l → (k : LineStands new line l) → OwnOrNone line
      → (sent.then_is.lines line).line ≡ line_between l k.at
  ghost_by line l at k (inl own) =
      let within = slice_get_within after line l at in
      let book = get_there gone.books line (let a = gone.count in let b = held.count in let c = served.count in omega (arith, a, b, c, within)) in
      (own_then own.0 line l book.0 own.1 at book.1 k).line_is
  ghost_by line l at k (inr none) =
      ap (λ (v : Standing). v.line) (sent.then_is.same_line line (is_other line none))
      ∙ held.lines_are line l (sym (served.others line none) ∙ at) (other_stood event s.nodes place n line l there none k)

  switch_by : (k : ℕ) (m : PlacedSwitch) → slice_get new k ≡ Some (Switching m) → IsSwitchAt m (held.own_lines k) (sent.then_is.switches k)
  switch_by k m m_there = elim (get_set s.nodes place (Switching (switch_after event n)) k (Switching m) m_there) [
    | inl e ↦
        let is : m ≡ switch_after event n = same_switch m (switch_after event n) (ap (λ (z : NetNode). Some z) e.1) in
        record {
          histories = then_h;
          is = ap (λ (j : ℕ). sent.then_is.switches j) e.0 ∙ sent.then_is.there ∙ ap (λ (q : PlacedSwitch). Some (record { switch = q.switch; histories = then_h })) (sym is);
          lines = ap (λ (j : ℕ). held.own_lines j) e.0 ∙ at_place.lines ∙ ap (λ (q : PlacedSwitch). q.lines) (sym is);
        }
    | inr e ↦ sent.then_is.elsewhere k m e.0 (held.switches_are k m e.1)
  ]

  pub held_then : IsHeld L (network_then event place n after g s)
  held_then = record {
    books = gone.books;
    count = gone.count ∙ (held.count ∙ sym served.count);
    ends = λ line l book at book_at k. line_by line l book at book_at k (own_or_none n.lines line);
    channels = λ line l book side at book_at. channels_by line l book side at book_at (own_or_none n.lines line);
    lines = sent.then_is.lines;
    lines_are = λ line l at k. ghost_by line l at k (own_or_none n.lines line);
    plan = held.plan;
    plan_is = plan_then L event place n s (network_then event place n after g s) held.plan there refl served register held.plan_is;
    own_lines = held.own_lines;
    switches = sent.then_is.switches;
    switches_are = switch_by;
    calls = gone.calls;
    world = gone.world;
    traces = gone.traces;
    network = sent.then_is.network;
    register = gone.register
        ∙ (ap₂ (λ (ls : List ℕ) (z : Register). all_handed ls (own_role n.switch) (joins_of event n.switch) z) at_place.lines held.register ∙ sym register);
  }
