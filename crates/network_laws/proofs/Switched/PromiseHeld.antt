-- What holds of a network of switches has, on faithful lines, all that the network promises.
use Rattle.std.proofs.Common.{◌≡◌, ◌≢◌, ℕ, true, false, List, length, Some, refl, sym, ap, ◌∙◌, subst, inl, inr, [], arith}
use Rattle.std.specs.Prelude.{◌⊎◌, slice_get}
use Rattle.std.proofs.lemmas.Option.{same_Some, slice_get_within}
use Rattle.link_timers.specs.declared.role.Role.{Role}
use Rattle.link_timers.specs.declared.role.Role.TheVariants.{Dte, Dce}
use Rattle.packet_layer.specs.Layer.{channel_of}
use Rattle.packet_end.specs.PacketEnd.{PacketEnd}
use Rattle.call_records.specs.Records.{RecordValue}
use Rattle.call_records.specs.Book.{Book, side_of}
use Rattle.call_records.specs.Register.{Register, book_at}
use Rattle.record_laws.specs.Books.Headline.{HaveRecords, HasCallee, has_call}
use Rattle.record_laws.specs.Registers.RegisterPromise.{HasRecords}
use Rattle.node_laws.specs.LineRecords.Kept.{end_at}
use Rattle.node_laws.specs.LineRecords.Confirmed.{SaysConfirmed}
use Rattle.node_laws.specs.LineRecords.Counted.{ShowsCounts}
use Rattle.node_laws.proofs.LineRecords.LineLaw as keeping_law
use Rattle.node_laws.proofs.LineRecords.Confirming.{confirmed_kept}
use Rattle.node_laws.proofs.LineRecords.Counting.{shown_kept}
use Rattle.node_laws.specs.LineRecords.Histories.{LineHistory}
use Rattle.node_laws.proofs.LineRecords.Histories.{history_kept}
use Rattle.record_laws.specs.CallPaths.Ends.{IsOf, IsOfPresent, EndIsSeen, IsOfUser}
use Rattle.record_laws.specs.CallPaths.Seen.{SideIsSeen}
use Rattle.record_laws.specs.CallPaths.PathPromise.{address_at, PathsHold}
use Rattle.record_laws.proofs.CallPaths.Ending.{ends_seen, users_own, open_seen}
use Rattle.switched_call_laws.specs.SwitchPaths.SwitchPathLaws as paths
use Rattle.switched_call_laws.proofs.SwitchPaths.Begins.{network_holds}
use Rattle.user_nodes.specs.Node.{NodeState, end_of, is_pad}
use Rattle.frame_lines.specs.Lines.{LineService}
use Rattle.net_events.specs.OneLine.{LineState}
use Rattle.net_events.specs.Network.{PlacedNode, NetNode, User, Switching, NetLine, Network, place_at, StandsAtLine}
use Rattle.network_laws.specs.IsLine.{line_of, IsLine, IsKept}
use Rattle.network_laws.specs.LinesPromise.{EndHolds, PlacedHolds, PadsSend}
use Rattle.network_laws.proofs.Answering.{came_kept, paired_kept, placed_kept, records_kept}
use Rattle.network_laws.proofs.Made.{sends_line}
use Rattle.network_laws.specs.Switched.IsSwitched.{ends_state, LineStands, IsHeld, IsSwitched, IsAddressed}
use Rattle.network_laws.specs.Switched.Histories.{HasUserAt, HistoriesHold}
use Rattle.network_laws.specs.Switched.InnerPromise.{NetworkPromise}
use Rattle.network_laws.proofs.Switched.FarAddresses.{AreEnds}
use Rattle.network_laws.proofs.Switched.CallsPromised.{calls_promised}
use Rattle.network_laws.proofs.Switched.Histories.{LineData, IsLed, IsOwned, PairsAre, histories_hold}
use Rattle.network_laws.proofs.Switched.PairsHeld.{PairOf, all_owned, held_pairs}
use Rattle.network_laws.proofs.Switched.NodesAtEnds.{user_end}
use Rattle.network_laws.proofs.Switched.FewerAny.{quiet_user}
use Rattle.network_laws.proofs.Switched.PromiseLines.{fellow}

module _ (L : LineService) (s : Network) (p : IsSwitched L s) (f : L.faithful) where
  pub held : IsHeld L s
  held = p.holds f

  -- ---- a line with its book

  pub record LineHas (line : ℕ) (l : NetLine) (b : Book) : Type 0 where
    pub stands : LineStands s.nodes line l
    pub holds : IsLine L (ends_state l stands.at b)
    pub kept : IsKept (ends_state l stands.at b)

  pub line_has : (line : ℕ) (l : NetLine) (b : Book) → slice_get s.lines line ≡ Some l → slice_get held.books line ≡ Some b → LineHas line l b
  line_has line l b at there =
      let h : LineStands s.nodes line l = p.lines line l at in
      let is : IsLine L (ends_state l h.at b) = held.ends line l b at there h in
      record { stands = h; holds = is; kept = is.kept f }

  pub its_book : (line : ℕ) (l : NetLine) → slice_get s.lines line ≡ Some l → (b : Book) × (slice_get held.books line ≡ Some b)
  its_book line l at = fellow held.books s.lines line l held.count at

  pub its_line : (line : ℕ) (b : Book) → slice_get held.books line ≡ Some b → (l : NetLine) × (slice_get s.lines line ≡ Some l)
  its_line line b there = fellow s.lines held.books line b (sym held.count) there

  -- ---- paths, and present records

  book_kept : (line : ℕ) (b : Book) → slice_get held.books line ≡ Some b → paths.IsKept b
  book_kept line b there =
      let l = its_line line b there in
      let h : LineHas line l.0 b = line_has line l.0 b l.1 there in
      let own : LineState = ends_state l.0 h.stands.at b in
      record { setting = h.kept.setting; line = line_of own; kept = h.kept.kept }

  paths_hold : PathsHold held.plan s.register
  paths_hold =
      subst (λ (g : Register). PathsHold held.plan g) held.register
      (network_holds.promise held.plan held.own_lines held.switches held.calls held.lines held.books held.world held.traces held.network
      (λ line b users there. book_kept line b there))

  book_records : (line : ℕ) (b : Book) → slice_get held.books line ≡ Some b → HaveRecords b
  book_records line b there = let k = book_kept line b there in records_kept k.setting b k.line k.kept

  records_hold : HasRecords s.register
  records_hold =
      subst (λ (g : Register). HasRecords g) held.register
      (open_seen held.plan held.world held.books held.traces held.network.seen.seen held.network.seen.lines book_records)

  -- ---- the ends at which users stand

  end_seen : (line : ℕ) (l : NetLine) (role : Role) (b : Book) → slice_get s.lines line ≡ Some l → slice_get held.books line ≡ Some b → HasUserAt s l role
      → EndIsSeen held.plan line role b s.register
  end_seen line l role b at there user =
      subst (λ (g : Register). EndIsSeen held.plan line role b g) held.register
      (ends_seen held.plan held.world held.books held.traces line b role held.network.seen.seen held.network.seen.lines there
      (held.plan_is.user line l role (User user.0) at user.1))

  own_node : (role : Role) (l : NetLine) (at : Role → NodeState) (b : Book) → IsLine L (ends_state l at b) → (side_of role b).node ≡ place_at role l
  own_node Dte l at b h = h.dte_node
  own_node Dce l at b h = h.dce_node

  end_is : (role : Role) (line : ℕ) (l : NetLine) (b : Book) (h : LineStands s.nodes line l)
      → end_at role (line_of (ends_state l h.at b)) ≡ end_of (h.at role)
  end_is Dte line l b h = refl
  end_is Dce line l b h = refl

  confirmed_of : (own r : RecordValue) (e x : PacketEnd) (channel : ℕ) → IsOf own r → e ≡ x
      → SaysConfirmed e.layer channel own → SaysConfirmed x.layer channel r
  confirmed_of own r e x channel same is h =
      subst (λ (y : PacketEnd). SaysConfirmed y.layer channel r) is
      (subst (λ (y : RecordValue). SaysConfirmed e.layer channel y) (sym same) (record { covered = h.covered; said = h.said }))

  shown_of : (own r : RecordValue) (e x : PacketEnd) (channel : ℕ) → IsOf own r → e ≡ x
      → ShowsCounts e.layer channel own → ShowsCounts x.layer channel r
  shown_of own r e x channel same is h =
      subst (λ (y : PacketEnd). ShowsCounts y.layer channel r) is
      (subst (λ (y : RecordValue). ShowsCounts e.layer channel y) (sym same) (record { covered = h.covered; released = h.released }))

  end_holds : (line : ℕ) (l : NetLine) (role : Role) → slice_get s.lines line ≡ Some l → HasUserAt s l role → EndHolds s line l role
  end_holds line l role at user =
      let b = its_book line l at in
      let h : LineHas line l b.0 = line_has line l b.0 at b.1 in
      let own : LineState = ends_state l h.stands.at b.0 in
      let w : EndIsSeen held.plan line role b.0 s.register = end_seen line l role b.0 at b.1 user in
      let u = user_end s.nodes line l h.stands role user.0 user.1 in
      let is : end_at role (line_of own) ≡ end_of user.0.node = end_is role line l b.0 h.stands ∙ ap (λ (x : NodeState). end_of x) u.node_is in
      record {
        node = user.0;
        node_there = user.1;
        node_line = u.line_is;
        quiet = quiet_user s.nodes line l h.stands role user.0 user.1;
        own = w.node ∙ own_node role l h.stands.at b.0 h.holds;
        slots = w.channels ∙ held.channels line l b.0 role at b.1;
        channels = ap (λ (e : PacketEnd). length e.layer.channels) (sym is) ∙ sym (keeping_law.channels_kept h.kept.setting b.0 (line_of own) role h.kept.kept)
            ∙ held.channels line l b.0 role at b.1;
        present = λ channel. w.present channel ∙ keeping_law.present_kept h.kept.setting b.0 (line_of own) role channel h.kept.kept
            ∙ ap (λ (e : PacketEnd). has_call (channel_of e.layer channel)) is;
        came = λ channel ch there may. w.came channel
            ∙ came_kept h.kept.setting b.0 (line_of own) role channel ch h.kept.kept (ap (λ (e : PacketEnd). channel_of e.layer channel) is ∙ there) may;
        paired = λ channel ch there up some. w.paired channel
            (paired_kept h.kept.setting b.0 (line_of own) role channel ch h.kept.kept (ap (λ (e : PacketEnd). channel_of e.layer channel) is ∙ there) up
            (sym (w.came channel) ∙ some));
        confirmed = λ channel number r present there.
            let o : IsOfPresent b.0 role channel r = w.of_present channel number r present there in
            confirmed_of o.own r (end_at role (line_of own)) (end_of user.0.node) channel o.same is
            (confirmed_kept h.kept.setting b.0 (line_of own) role channel o.number o.own h.kept.kept o.present o.there);
        shown = λ channel number r present there.
            let o : IsOfPresent b.0 role channel r = w.of_present channel number r present there in
            shown_of o.own r (end_at role (line_of own)) (end_of user.0.node) channel o.same is
            (shown_kept h.kept.setting b.0 (line_of own) role channel o.number o.own h.kept.kept o.present o.there);
      }

  placed_in_register : (line : ℕ) (l : NetLine) (role : Role) (b : Book) (channel : ℕ) → slice_get s.lines line ≡ Some l → slice_get held.books line ≡ Some b → HasUserAt s l role
      → HasCallee b role channel → HasCallee (book_at line s.register) role channel
  placed_in_register line l role b channel at there user has =
      subst (λ (g : Register). HasCallee (book_at line g) role channel) held.register
      (network_holds.placed held.plan held.own_lines held.switches held.calls held.lines held.books held.world held.traces held.network line b role channel there
      (held.plan_is.user line l role (User user.0) at user.1) has)

  placed_holds : (line : ℕ) (l : NetLine) (role : Role) → slice_get s.lines line ≡ Some l → HasUserAt s l role → PlacedHolds s line l role
  placed_holds line l role at user =
      let b = its_book line l at in
      let h : LineHas line l b.0 = line_has line l b.0 at b.1 in
      let own : LineState = ends_state l h.stands.at b.0 in
      let w : EndIsSeen held.plan line role b.0 s.register = end_seen line l role b.0 at b.1 user in
      let u = user_end s.nodes line l h.stands role user.0 user.1 in
      let is : end_at role (line_of own) ≡ end_of user.0.node = end_is role line l b.0 h.stands ∙ ap (λ (x : NodeState). end_of x) u.node_is in
      record {
        node = user.0;
        node_there = user.1;
        placed = λ channel ch there up none. placed_in_register line l role b.0 channel at b.1 user
            (placed_kept h.kept.setting b.0 (line_of own) role channel ch h.kept.kept (ap (λ (e : PacketEnd). channel_of e.layer channel) is ∙ there) up
            (sym (w.came channel) ∙ none));
      }

  -- ---- what a PAD typed

  same_node : (own r : RecordValue) → IsOf own r → r.node ≡ own.node
  same_node own r same = ap (λ (x : RecordValue). x.node) same

  -- a PAD is at the DTE
  pad_at_dte : (place : ℕ) (n : PlacedNode) (l : NetLine) (h : LineStands s.nodes n.line l) → slice_get s.nodes place ≡ Some (User n) → is_pad n.node ≡ true
      → (l.dte ≡ place) ⊎ (l.dce ≡ place) → (l.dte ≡ place) × (h.at Dte ≡ n.node)
  pad_at_dte place n l h at pad (inl e) = (e, (user_end s.nodes n.line l h Dte n (ap (λ (k : ℕ). slice_get s.nodes k) e ∙ at)).node_is)
  pad_at_dte place n l h at pad (inr e) =
      let u = user_end s.nodes n.line l h Dce n (ap (λ (k : ℕ). slice_get s.nodes k) e ∙ at) in
      let no : is_pad n.node ≡ false = ap (λ (x : NodeState). is_pad x) (sym u.node_is) ∙ h.host in
      absurd (let bad : true ≡ false = sym pad ∙ no in cc)

  pads_send : PadsSend s
  pads_send place n q at pad =
      let st : StandsAtLine s.lines place n = p.nodes place (User n) at in
      let b = its_book n.line st.line st.there in
      let h : LineHas n.line st.line b.0 = line_has n.line st.line b.0 st.there b.1 in
      let is = pad_at_dte place n st.line h.stands at (ap (λ (m : NodeState). is_pad m) pad) st.at_end in
      sends_line L (ends_state st.line h.stands.at b.0) h.holds q (is.1 ∙ pad) place s.register.records
      (λ i r there node.
      (let o : IsOfUser held.plan held.books r =
      users_own held.plan held.world held.books held.traces i r held.network.seen.seen held.network.seen.lines
      (ap (λ (g : Register). slice_get g.records i) held.register ∙ there) in
      let l = its_line o.line o.line_book o.line_there in
      let where_is : r.node ≡ place_at o.role l.0 = o.node ∙ held.plan_is.node o.line l.0 o.role l.1 in
      let here : place_at o.role l.0 ≡ place = sym where_is ∙ node in
      let line_is : n.line ≡ o.line = (user_end s.nodes o.line l.0 (p.lines o.line l.0 l.1) o.role n (ap (λ (k : ℕ). slice_get s.nodes k) here ∙ at)).line_is in
      let book_is : o.line_book ≡ b.0 = same_Some o.line_book b.0 (sym o.line_there ∙ ap (λ (k : ℕ). slice_get held.books k) (sym line_is) ∙ b.1) in
      record {
        number = o.place;
        own = o.own;
        there = ap (λ (c : Book). slice_get c.records o.place) (sym book_is) ∙ o.own_there;
        node = sym (same_node o.own r o.same) ∙ node ∙ sym is.0 ∙ sym h.holds.dte_node;
        same = o.same;
      }))

  -- where the plan has a user at an end of a line, one stands there
  user_there : (line : ℕ) (l : NetLine) (role : Role) → slice_get s.lines line ≡ Some l → held.plan.has_user line role ≡ true → HasUserAt s l role
  user_there line l role at user = let e = (p.lines line l at).there role in by e.node e.there
    where
      by : (x : NetNode) → slice_get s.nodes (place_at role l) ≡ Some x → HasUserAt s l role
      by (User x) there = (x, there)
      by (Switching x) there = absurd (let bad : true ≡ false = sym user ∙ held.plan_is.user line l role (Switching x) at there in cc)

  of_users : (i : ℕ) (r : RecordValue) → slice_get s.register.records i ≡ Some r → (n : PlacedNode) × (slice_get s.nodes r.node ≡ Some (User n))
  of_users i r there =
      let o : IsOfUser held.plan held.books r =
      users_own held.plan held.world held.books held.traces i r held.network.seen.seen held.network.seen.lines
      (ap (λ (g : Register). slice_get g.records i) held.register ∙ there) in
      let l = its_line o.line o.line_book o.line_there in
      let u : HasUserAt s l.0 o.role = user_there o.line l.0 o.role l.1 o.user in
      (u.0, ap (λ (k : ℕ). slice_get s.nodes k) (o.node ∙ held.plan_is.node o.line l.0 o.role l.1) ∙ u.1)

  -- ---- the histories of the lines

  line_apart : (l : NetLine) (at : Role → NodeState) (b : Book) → IsLine L (ends_state l at b) → l.dte ≢ l.dce
  line_apart l at b h = h.apart

  line_led : (line : ℕ) (l : NetLine) (b : Book) → slice_get s.lines line ≡ Some l → slice_get held.books line ≡ Some b → (d : LineData) × IsLed s line l b d
  line_led line l b at there =
      let h : LineHas line l b = line_has line l b at there in
      let own : LineState = ends_state l h.stands.at b in
      let x = history_kept h.kept.setting b (line_of own) h.kept.kept in (
        record { history = x.0; uses = x.1.accepted.0 },
        record {
          possible = x.1.possible;
          layers = λ role p is.
              let u = user_end s.nodes line l h.stands role p is in
              x.1.layers role ∙ ap (λ (e : PacketEnd). e.layer) (end_is role line l b h.stands ∙ ap (λ (y : NodeState). end_of y) u.node_is);
          book = x.1.book;
          counts = x.1.counts;
          accepted = x.1.accepted.1;
          nodes = λ role. own_node role l h.stands.at b h.holds;
          apart = line_apart l h.stands.at b h.holds;
          at_line = λ role p is. (user_end s.nodes line l h.stands role p is).line_is;
        },
      )

  all_histories : (hs : List LineHistory) × HistoriesHold s hs
  all_histories =
      let seen = held.network.seen.seen in
      let alike = held.network.seen.lines in
      histories_hold s held.books held.count line_led of_users
      (subst (λ (g : Register). (i : ℕ) (r : RecordValue) → slice_get g.records i ≡ Some r → IsOwned held.books r) held.register
      (all_owned held.plan held.world held.books held.traces seen alike))
      (PairOf held.plan held.world held.books held.traces seen alike)
      (subst (λ (g : Register). PairsAre s g held.books (PairOf held.plan held.world held.books held.traces seen alike)) held.register
      (held_pairs held.plan held.world held.books held.traces seen alike s held.plan_is))

module _ (L : LineService) (s : Network) (p : IsSwitched L s) (a : IsAddressed s) (f : L.faithful) where
  -- ---- addresses

  seen_side : (line : ℕ) (l : NetLine) (role : Role) → slice_get s.lines line ≡ Some l → SideIsSeen (held L s p f).plan (held L s p f).world.origins (held L s p f).world.joins line role (side_of role (book_at line (held L s p f).world.register)) (side_of role (book_at line (held L s p f).world.whole))
  seen_side line l role at =
      (held L s p f).network.seen.seen.sides line role
      (let within = slice_get_within s.lines line l at in let seen = (held L s p f).network.seen.seen.lines in let same = ap (λ (g : Register). length g.lines) (held L s p f).register in let count = a.registered in omega arith)

  no_address : (line : ℕ) (l : NetLine) (role : Role) → slice_get s.lines line ≡ Some l → HasUserAt s l Dce → address_at (held L s p f).plan line role ≡ []
  no_address line l Dte at user = (held L s p f).network.alike line (inr ((held L s p f).plan_is.user line l Dce (User user.0) at user.1))
  no_address line l Dce at user = refl

  all_ends : AreEnds (held L s p f).plan s
  all_ends = record {
    at_line = λ line l role n at is. (user_end s.nodes line l (p.lines line l at) role n is).line_is;
    dte = λ line l at user. (p.lines line l at).users user;
    nodes = λ line l role at. ap (λ (g : Register). (side_of role (book_at line g)).node) (sym (held L s p f).register) ∙ (seen_side line l role at).seen_node ∙ (held L s p f).plan_is.node line l role at;
    addresses = λ line l role at. ap (λ (g : Register). (side_of role (book_at line g)).address) (sym (held L s p f).register) ∙ (seen_side line l role at).seen_address;
    bare = λ line l role at user.
        ap (λ (g : Register). (side_of role (book_at line g)).address) (sym (held L s p f).register) ∙ (seen_side line l role at).seen_address ∙ no_address line l role at user;
  }

  pub promise_held : NetworkPromise s
  promise_held = record {
    calls = calls_promised s (held L s p f).plan (held L s p f).plan_is (paths_hold L s p f) a all_ends (of_users L s p f) (λ line l role at. let e = (p.lines line l at).there role in (e.node, e.there)) (pads_send L s p f);
    inner = record {
      registered = a.registered;
      nodes = all_ends.nodes;
      there = λ line l role at. (let e = (p.lines line l at).there role in (e.node, e.there));
      records = records_hold L s p f;
      ends = end_holds L s p f;
      placed = placed_holds L s p f;
      pads = pads_send L s p f;
      histories = (all_histories L s p f).0;
      kept = (all_histories L s p f).1;
      own = a.own;
    };
  }
