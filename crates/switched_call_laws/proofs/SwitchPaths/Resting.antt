-- Where all lines of a network of switches are at rest, nothing is missing in its register.
use Rattle.std.specs.Prelude.{◌≡◌, ℕ, ◌<◌, ◌⊎◌, Bool, true, false, is_some, List, [], ◌∷◌, length, slice_get, Option, Some, None}
use Rattle.std.proofs.Common.{inl, inr, refl, sym, ap, ap₂, subst, ◌∙◌, true≢false, append-nil, option_map}
use Rattle.std.proofs.lemmas.Option.{same_Some, slice_get_within}
use Rattle.link_timers.specs.declared.role.Role.{Role}
use Rattle.link_timers.specs.declared.role.Role.TheVariants.{Dte, Dce}
use Rattle.link_timers.specs.Role.{other_of}
use Rattle.data_transfer.proofs.Windows.{window_below}
use Rattle.packet_channel.specs.Channel.{ChannelState, Channel, had_call, in_transfer, waits_for_call}
use Rattle.packet_channel.specs.Channel.ChannelState.{Transfer}
use Rattle.packet_layer.specs.Layer.{Layer, channel_of}
use Rattle.epochs.specs.Item.{Item, all_items}
use Rattle.epochs.specs.Epoch.{sent_epoch, taken_epoch}
use Rattle.packet_laws.specs.History.{Epoch}
use Rattle.packet_end.specs.PacketEnd.{PacketEnd}
use Rattle.node_laws.specs.Lines.NodeLine.{Line}
use Rattle.node_laws.specs.Lines.LineRest.{AreAtRest}
use Rattle.call_records.specs.Records.{RecordValue, PairValue}
use Rattle.call_records.specs.Book.{Book, Slot, slot_at}
use Rattle.call_records.specs.Register.{book_at}
use Rattle.record_laws.specs.Books.Headline.{IsPaired}
use Rattle.record_laws.specs.Books.BookRest.{NothingMissing}
use Rattle.record_laws.proofs.Books.Answered.{are_answered}
use Rattle.record_laws.proofs.Books.Basics.{get_there}
use Rattle.record_laws.specs.Registers.Seen.{positions, renumbered}
use Rattle.record_laws.proofs.Registers.Missing.{rest_seen}
use Rattle.record_laws.proofs.Registers.Positions.{is_place}
use Rattle.record_laws.proofs.Registers.Promising.{numbered, pair_of, paired_seen}
use Rattle.record_laws.proofs.Registers.Seeing.{came_seen}
use Rattle.record_laws.proofs.Registers.Steps.{same_place}
use Rattle.node_laws.specs.LineRecords.Kept.{Setting, Kept, end_at}
use Rattle.node_laws.proofs.LineRecords.Missing.{rest_kept}
use Rattle.switch_joins.specs.declared.channels.SwitchChannel.{SwitchChannel}
use Rattle.switch_joins.specs.Joins.{Joined}
use Rattle.switch_lines.specs.Lines.{SwitchLine}
use Rattle.switch_lines.specs.Switch.{Switch}
use Rattle.switch_laws.specs.Leg.{Leg}
use Rattle.switch_joins.specs.Turning.{Gathered, items_gathered}
use Rattle.switch_laws.specs.Clause.{Carries, taken_part, sent_part}
use Rattle.switch_laws.specs.Joined.{WaitsFor, IsPair, IsJoinedAt}
use Rattle.switch_laws.specs.Joined.IsPair.{connected, waiting}
use Rattle.switch_laws.specs.World.{Shown, shown_at, shown_on, shown_as, Agrees, layers_of}
use Rattle.switch_laws.proofs.Directions.{carried_items}
use Rattle.switch_laws.proofs.Lists.{get_map}
use Rattle.switched_call_laws.specs.SwitchRecords.Records.{HasRecord, Has, call_on, leg_if, sent_of, taken_of}
use Rattle.switched_call_laws.specs.SwitchRecords.Turned.{sight}
use Rattle.switched_call_laws.proofs.SwitchRecords.Turned.{sight_back}
use Rattle.switched_call_laws.specs.SwitchRecords.Tied.{Histories}
use Rattle.switched_call_laws.specs.JoinedCalls.Calls.{JoinedCall, StandsOrEnded, Stands}
use Rattle.record_laws.specs.CallPaths.World.{Origin, Join, World, Plan}
use Rattle.record_laws.specs.CallPaths.Seen.{CameFrom}
use Rattle.record_laws.specs.CallPaths.PathRest.{HasHandedAll, HaveHandedAll}
use Rattle.record_laws.proofs.CallPaths.Resting.{rest_paths}
use Rattle.switched_call_laws.specs.SwitchPaths.Sight.{Switched, Switches, OwnLines, Lines, role_at, network_line, StaysInSight}
use Rattle.switched_call_laws.specs.SwitchPaths.Network.{PlacedCall, of_switch, lines_of, HasNumber, JoinIs, IsNetwork}
use Rattle.switched_call_laws.specs.SwitchPaths.SwitchPathLaws.{IsOfUsers, GathersNothing, RestsAt, SwitchesRest, RestLaw}
use Rattle.switched_call_laws.proofs.SwitchPaths.Seeing.{line_there, own_trace, line_seen}
use Rattle.switched_call_laws.proofs.SwitchPaths.Elsewhere.{end_in_sight}
use Rattle.switched_call_laws.proofs.SwitchPaths.Joined.{in_sight, its_switch, kept_line, of_its, users_or_switch}
use Rattle.switched_call_laws.proofs.SwitchPaths.Transferring.{channel_is, BothInTransfer, in_transfer_at_rest}

-- ---- two legs

-- both legs are in data transfer, and what was sent on each since the last reset is what was taken on the other one
record AreConnected (g h : Leg) : Type 0 where
  pub near_call : g.channel.state ≡ Transfer
  pub onward : sent_epoch (sent_of h.epoch) ≡ taken_epoch (taken_of g.epoch)
  pub backward : sent_epoch (sent_of g.epoch) ≡ taken_epoch (taken_of h.epoch)

no_wait : (role : Role) (state : ChannelState) → waits_for_call role state ≡ true → state ≡ Transfer → ⊥
no_wait Dte state h e = true≢false (sym h ∙ ap (λ (x : ChannelState). waits_for_call Dte x) e)
no_wait Dce state h e = true≢false (sym h ∙ ap (λ (x : ChannelState). waits_for_call Dce x) e)

-- the epochs that carry each other are one where nothing is gathered
no_items : (g : Gathered) → length g.octets ≡ 0 → items_gathered g ≡ []
no_items g none = by g.octets none
  where
    by : (octets : List ℕ) → length octets ≡ 0 → items_gathered (record g { octets = octets }) ≡ []
    by [] e = by_bit g.qualified
      where
        by_bit : (q : Bool) → items_gathered (record { octets = []; qualified = q }) ≡ []
        by_bit true = refl
        by_bit false = refl
    by (x ∷ xs) e = cc

same_epoch : (n f : Epoch) (g : Gathered) → length g.octets ≡ 0 → Carries (taken_part n) (sent_part f) (items_gathered g) → sent_epoch (sent_of f) ≡ taken_epoch (taken_of n)
same_epoch n f g none some =
    let c = subst (λ (left : List Item). Carries (taken_part n) (sent_part f) left) (no_items g none) some in
    ap₂ (λ (is : List Item) (os : List (List ℕ)). record { items = is; interrupts = os }) (sym (append-nil (all_items f.sent)) ∙ sym (carried_items (taken_part n) (sent_part f) [] c)) c.interrupts

are_connected : (g h : Leg) (j k : Joined) → length j.kept.gathered.octets ≡ 0 → length k.kept.gathered.octets ≡ 0 → IsPair g h j k → j.came_in ≡ true → h.channel.state ≡ Transfer → AreConnected g h
are_connected g h j k near far (connected c) came in_call = record {
  near_call = c.there.holds.near_call;
  onward = same_epoch g.epoch h.epoch j.kept.gathered near c.there.holds.direction.carries;
  backward = same_epoch h.epoch g.epoch k.kept.gathered far c.back.holds.direction.carries;
}
are_connected g h j k near far (waiting there back w) came in_call =
    absurd (no_wait h.role h.channel.state (subst (λ (v : Bool). WaitsFor v g h) came w).waits in_call)

none_over : ⊥ ⊎ ⊥ → ⊥
none_over (inl e) = e
none_over (inr e) = e

of_shown : (l : Layer) (o : Option Channel) → is_some (shown_as l o) ≡ true → (ch : Channel) × (o ≡ Some ch)
of_shown l (Some ch) e = (ch, refl)
of_shown l None e = absurd (true≢false (sym e))

-- in data transfer a call that came in is in a pair
paired_at : (r : Role) (s : Setting) (b : Book) (l : Line) (c : ℕ) (ch : Channel) → Kept s b l → AreAtRest l.dte l.dce → channel_of (end_at r l).layer c ≡ Some ch → in_transfer ch.state ≡ true
    → is_some (slot_at r c b).caller ≡ true → IsPaired (slot_at r c b) b.pairs
paired_at r s b l c ch k rests at in_call some =
    let p = k.setting.dte.layer in
    subst (λ (x : Book). IsPaired (slot_at r c x) x.pairs) k.book
    ((are_answered s.dte_node s.dce_node s.dte.channels s.dte.flow s.dte.standing p.channels_least (window_below _ p.flow_is) k.moves k.allowed).paired r c ch
    (channel_is s b l k rests r c ∙ at) in_call (ap (λ (x : Book). is_some (slot_at r c x).caller) k.book ∙ some))

-- ---- in the sight of an end

-- its own end is the DCE there
seen_role : (r role : Role) → Role
seen_role Dte Dte = Dce
seen_role Dte Dce = Dte
seen_role Dce role = role

slot_in_sight : (r role : Role) (c : ℕ) (b : Book) → slot_at (seen_role r role) c (sight r b) ≡ slot_at role c b
unfolding seen_role
slot_in_sight Dte Dte c b = refl
slot_in_sight Dte Dce c b = refl
slot_in_sight Dce Dte c b = refl
slot_in_sight Dce Dce c b = refl

own_seen : (r role : Role) → seen_role r role ≡ Dce → role ≡ r
unfolding seen_role
own_seen Dte Dte e = refl
own_seen Dte Dce e = absurd cc
own_seen Dce Dte e = absurd cc
own_seen Dce Dce e = refl

-- ---- one switch

module _ (plan : Plan) (ats : OwnLines) (xs : Switches) (cs : List PlacedCall) (lines : Lines) (books : List Book) (w : World) (traces : List (List Origin))
    (i : IsNetwork plan ats xs cs lines books w traces) (rests : SwitchesRest plan xs lines books) (place : ℕ) (x : Switched) (x_there : xs place ≡ Some x) where
  abbrev at : List ℕ
  at = ats place

  abbrev s : Switch
  s = x.switch

  abbrev h : Histories
  h = x.histories

  st : StaysInSight at x (of_switch place cs) lines books
  st = i.stays place x x_there

  its_line : (n : ℕ) → n < length at → (l : SwitchLine) × (slice_get s.lines n ≡ Some l)
  its_line n less = get_there s.lines n (subst (λ (k : ℕ). n < k) (i.planned place x x_there).lines less)

  -- its line in the network
  line_book : (n : ℕ) → n < length at → slice_get books (network_line at n) ≡ Some (sight (role_at x n) (h.books n))
  line_book n less = (st.sight n less).book

  at_line : (n : ℕ) → n < length at → RestsAt plan xs lines (network_line at n) (role_at x n)
  at_line n less = rests (network_line at n) (role_at x n) (slice_get_within books (network_line at n) (sight (role_at x n) (h.books n)) (line_book n less)) ((i.planned place x x_there).switch_end n less)

  line_rests : (n : ℕ) → n < length at → AreAtRest (lines (network_line at n)).line.dte (lines (network_line at n)).line.dce
  line_rests n less = (at_line n less).ends

  nothing_gathered : (n : ℕ) → n < length at → GathersNothing s.lines
  nothing_gathered n less = (at_line n less).gathered x (ap xs ((i.planned place x x_there).placed n less) ∙ x_there)

  layer_there : (n : ℕ) (l : SwitchLine) → slice_get s.lines n ≡ Some l → slice_get (layers_of s.lines) n ≡ Some l.end.layer
  layer_there n l e = get_map (λ (y : SwitchLine). y.end.layer) s.lines n ∙ ap (λ (o : Option SwitchLine). option_map (λ (y : SwitchLine). y.end.layer) o) e

  shown_there : (x : SwitchChannel) (l : SwitchLine) → slice_get s.lines x.line ≡ Some l → shown_at (layers_of s.lines) x ≡ shown_as l.end.layer (channel_of l.end.layer x.channel)
  shown_there x l e = ap (λ (o : Option Layer). shown_on o x.channel) (layer_there x.line l e)

  leg_of : (x : SwitchChannel) (l : SwitchLine) → slice_get s.lines x.line ≡ Some l → (ch : Channel) → channel_of l.end.layer x.channel ≡ Some ch → (h.legs x).channel ≡ ch
  leg_of x l e ch there =
      let seen : Shown = record { role = l.end.layer.role; flow = l.end.layer.flow; channel = ch } in
      let a : Agrees seen (h.legs x) = st.tied.holds.joins.world x seen (shown_there x l e ∙ ap (λ (o : Option Channel). shown_as l.end.layer o) there) in
      ap (λ (y : Shown). y.channel) (sym a.shown)

  leg_record : (x : SwitchChannel) (l : SwitchLine) → slice_get s.lines x.line ≡ Some l → (ch : Channel) → channel_of l.end.layer x.channel ≡ Some ch → ch.state ≡ Transfer
      → HasRecord Dce x.channel (h.legs x) (h.books x.line)
  leg_record x l e ch there in_call =
      subst (λ (v : Bool). Has Dce x.channel (leg_if v (h.legs x)) (h.books x.line)) (ap had_call in_call)
      (subst (λ (o : Option Channel). Has Dce x.channel (call_on o (h.legs x)) (h.books x.line)) there
      ((st.tied.records x.line l.end.layer (layer_there x.line l e)).has x.channel))

  -- ---- the far leg, whose call was accepted and is open at the other end of its line

  record FarTransfer (c : JoinedCall) (l : SwitchLine) : Type 0 where
    pub role : Role
    pub channel : ℕ
    pub present : (slot_at role channel (h.books c.far.line)).present ≡ Some c.placed
    pub its_channel : Channel
    pub there : role ≡ Dce → channel_of l.end.layer channel ≡ Some its_channel
    pub in_call : its_channel.state ≡ Transfer

  far_transfer : (c : JoinedCall) (b k : ℕ) (pair : PairValue) (callee : RecordValue) (l : SwitchLine) → HasNumber at w.origins c.far.line c.placed b → slice_get s.lines c.far.line ≡ Some l
      → slice_get w.whole.pairs k ≡ Some pair → pair.caller ≡ b → slice_get w.whole.records pair.callee ≡ Some callee → callee.closed ≡ false → FarTransfer c l
  far_transfer c b k pair callee l far got pair_there caller callee_there open_ =
      let n = c.far.line in
      let r = role_at x n in
      let own_line = network_line at n in
      let o = pair_of w.whole books i.seen.lines.seen k pair pair_there in
      let trace = own_trace books o.j o.book w.whole w.origins traces o.there i.seen.lines in
      let owners : i.seen.lines.seen.owners ≡ lines_of w.origins = (i.seen.lines.lines o.j trace.0 trace.1).owners_are in
      let line : o.j ≡ own_line =
      same_Some o.j own_line (sym (is_place o.j i.seen.lines.seen.owners o.pair.own.caller pair.caller o.pair.caller)
      ∙ ap₂ (λ (os : List ℕ) (m : ℕ). slice_get os m) owners caller ∙ is_place own_line (lines_of w.origins) c.placed b far.1) in
      let book : o.book ≡ sight r (h.books n) = same_Some o.book (sight r (h.books n)) (sym o.there ∙ ap (λ (j : ℕ). slice_get books j) line ∙ line_book n far.0) in
      let seen_book : sight r o.book ≡ h.books n = ap (λ (y : Book). sight r y) book ∙ sight_back r (h.books n) in
      let own : o.pair.own.caller ≡ c.placed =
      same_place own_line (lines_of w.origins) o.pair.own.caller c.placed b
      (sym (ap₂ (λ (j : ℕ) (os : List ℕ). slice_get (positions j os) o.pair.own.caller) line owners) ∙ o.pair.caller ∙ ap (λ (m : ℕ). Some m) caller) far.1 in
      let seen = (i.seen.lines.seen.line o.j o.book o.there).records o.pair.own.callee pair.callee o.pair.callee in
      let is_open : seen.value.closed ≡ false =
      ap (λ (v : RecordValue). v.closed) (same_Some (renumbered pair.callee seen.caller seen.value) callee (sym seen.seen_there ∙ callee_there)) ∙ open_ in
      let kept : Kept (lines own_line).setting o.book (lines own_line).line = kept_line plan ats xs cs lines books w traces i own_line r o.book (ap (λ (j : ℕ). slice_get books j) (sym line) ∙ o.there) ((i.planned place x x_there).switch_end n far.0) in
      let t : BothInTransfer o.book (lines own_line).line o.pair.own =
      in_transfer_at_rest (lines own_line).setting o.book (lines own_line).line kept (line_rests n far.0) o.pair.place o.pair.own seen.value o.pair.own_there seen.own_there is_open in
      let side = other_of t.role in
      record {
        role = seen_role r side;
        channel = t.channel;
        present = ap (λ (y : Book). (slot_at (seen_role r side) t.channel y).present) (sym seen_book) ∙ ap (λ (z : Slot). z.present) (slot_in_sight r side t.channel o.book) ∙ t.caller_present ∙ ap (λ (m : ℕ). Some m) own;
        its_channel = t.caller_channel;
        there = λ is.
            ap (λ (e : PacketEnd). channel_of e.layer t.channel) (sym (end_in_sight x n own_line lines books l got (st.sight n far.0)) ∙ ap (λ (y : Role). end_at y (lines own_line).line) (sym (own_seen r side is)))
            ∙ t.caller_there;
        in_call = t.caller_in_call;
      }

  -- ---- a join that stands

  -- both legs are connected, and their channels are those of two records
  record StandsConnected (c : JoinedCall) : Type 0 where
    pub legs : AreConnected (h.legs c.near) (h.legs c.far)
    pub near_line : SwitchLine
    pub near_got : slice_get s.lines c.near.line ≡ Some near_line
    pub near_channel : Channel
    pub near_there : channel_of near_line.end.layer c.near.channel ≡ Some near_channel
    pub near_call : near_channel.state ≡ Transfer
    pub near : HasRecord Dce c.near.channel (h.legs c.near) (h.books c.near.line)
    pub far : HasRecord Dce c.far.channel (h.legs c.far) (h.books c.far.line)

  stands_connected : (c : JoinedCall) (l : SwitchLine) → c.near.line < length at → slice_get s.lines c.far.line ≡ Some l → FarTransfer c l → Stands s.lines h.books c → StandsConnected c
  stands_connected c l near_less got t stands =
      let own = (st.tied.records c.far.line l.end.layer (layer_there c.far.line l got)).apart.apart t.role Dce t.channel c.far.channel c.placed t.present stands.far_present in
      let there : channel_of l.end.layer c.far.channel ≡ Some t.its_channel = ap (λ (d : ℕ). channel_of l.end.layer d) (sym own.1) ∙ t.there own.0 in
      let g : IsJoinedAt 0 [] s.lines h.legs c.near stands.join = st.tied.holds.joins.joined c.near stands.join stands.joined in
      let none : GathersNothing s.lines = nothing_gathered c.near.line near_less in
      let far_call : (h.legs c.far).channel.state ≡ Transfer = ap (λ (y : Channel). y.state) (leg_of c.far l got t.its_channel there) ∙ t.in_call in
      let legs : AreConnected (h.legs c.near) (h.legs c.far) = elim g.pair [
        | inl p ↦ subst (λ (q : SwitchChannel). AreConnected (h.legs c.near) (h.legs q)) stands.other
            (are_connected (h.legs c.near) (h.legs stands.join.other) stands.join g.other (none c.near stands.join stands.joined) (none stands.join.other g.other g.joined) p stands.came_in_here (ap (λ (q : SwitchChannel). (h.legs q).channel.state) stands.other ∙ far_call))
        | inr over ↦ absurd (none_over over)
      ] in
      let ln = its_line c.near.line near_less in
      let ch = of_shown ln.0.end.layer (channel_of ln.0.end.layer c.near.channel) (ap (λ (o : Option Shown). is_some o) (sym (shown_there c.near ln.0 ln.1)) ∙ g.there) in
      let near_call : ch.0.state ≡ Transfer = ap (λ (y : Channel). y.state) (sym (leg_of c.near ln.0 ln.1 ch.0 ch.1)) ∙ legs.near_call in
      record {
        legs = legs;
        near_line = ln.0;
        near_got = ln.1;
        near_channel = ch.0;
        near_there = ch.1;
        near_call = near_call;
        near = leg_record c.near ln.0 ln.1 ch.0 ch.1 near_call;
        far = leg_record c.far l got t.its_channel there t.in_call;
      }

  -- the pair of the call that came in, in the whole register
  near_paired : (c : JoinedCall) (a k : ℕ) → HasNumber at w.origins c.near.line c.came_in a → CameFrom w.origins a k → (j : StandsConnected c) → Stands s.lines h.books c
      → (place : ℕ) × (pair : PairValue) × (slice_get w.whole.pairs place ≡ Some pair) × (pair.callee ≡ a)
  near_paired c a k near came j stands =
      let n = c.near.line in
      let r = role_at x n in
      let line = network_line at n in
      let channel = c.near.channel in
      let seen = in_sight plan ats xs cs lines books w traces i place x x_there in
      let y = line_seen plan ats place (role_at x) n h.books cs books w traces near.0 seen in
      let m = numbered (positions line (lines_of w.origins)) (slot_at Dce channel (h.books n)).present (slot_at r channel (book_at line w.whole)).present c.came_in stands.near_present
      ((y.sides Dce).slot channel).present in
      let present : (slot_at r channel (book_at line w.whole)).present ≡ Some a = m.is ∙ sym m.there ∙ near.1 in
      let made = ((i.seen.seen.sides line r (line_there plan ats place (role_at x) n h.books cs books w traces near.0 seen)).slot channel).present_origin a present in
      let caller : (slot_at r channel (book_at line w.whole)).caller ≡ Some k =
      ap (λ (o : Origin). o.caller) (same_Some (record { line = line; role = r; placed_here = made.placed_here; caller = (slot_at r channel (book_at line w.whole)).caller }) came.origin (sym made.there ∙ came.there)) ∙ came.came in
      let b = sight r (h.books n) in
      let there : slice_get books line ≡ Some b = line_book n near.0 in
      let some : is_some (slot_at r channel b).caller ≡ true =
      sym (came_seen w.whole books line b r channel there i.seen.lines.seen) ∙ ap (λ (o : Option ℕ). is_some o) caller in
      let own : IsPaired (slot_at r channel b) b.pairs =
      paired_at r (lines line).setting b (lines line).line channel j.near_channel (kept_line plan ats xs cs lines books w traces i line r b there ((i.planned place x x_there).switch_end n near.0)) (line_rests n near.0)
      (ap (λ (e : PacketEnd). channel_of e.layer channel) (end_in_sight x n line lines books j.near_line j.near_got (st.sight n near.0)) ∙ j.near_there) (ap in_transfer j.near_call) some in
      let p = paired_seen w.whole books line b r channel there i.seen.lines.seen own in
      (p.place, record { caller = p.caller; callee = p.callee }, p.there, same_Some p.callee a (sym p.present ∙ present))

  handed_on_all : (c : JoinedCall) (a b d : ℕ) (l : SwitchLine) → HasNumber at w.origins c.near.line c.came_in a → HasNumber at w.origins c.far.line c.placed b → CameFrom w.origins a d
      → slice_get s.lines c.far.line ≡ Some l → FarTransfer c l → Stands s.lines h.books c → HasHandedAll w a b
  handed_on_all c a b d l near far came got t stands =
      let k : StandsConnected c = stands_connected c l near.0 got t stands in
      let seen = in_sight plan ats xs cs lines books w traces i place x x_there in
      let u = (line_seen plan ats place (role_at x) c.near.line h.books cs books w traces near.0 seen).records c.came_in a near.1 in
      let v = (line_seen plan ats place (role_at x) c.far.line h.books cs books w traces far.0 seen).records c.placed b far.1 in
      let from : u.value ≡ k.near.it =
      same_Some u.value k.near.it (sym u.own_there ∙ ap (λ (m : ℕ). slice_get (h.books c.near.line).records m) (same_Some c.came_in k.near.number (sym stands.near_present ∙ k.near.present)) ∙ k.near.there) in
      let to : v.value ≡ k.far.it =
      same_Some v.value k.far.it (sym v.own_there ∙ ap (λ (m : ℕ). slice_get (h.books c.far.line).records m) (same_Some c.placed k.far.number (sym stands.far_present ∙ k.far.present)) ∙ k.far.there) in
      let p = near_paired c a d near came k stands in
      record {
        from = renumbered a u.caller u.value;
        to = renumbered b v.caller v.value;
        from_there = u.seen_there;
        to_there = v.seen_there;
        from_open = ap (λ (r : RecordValue). r.closed) from ∙ k.near.is_of.open_;
        to_open = ap (λ (r : RecordValue). r.closed) to ∙ k.far.is_of.open_;
        onward = ap (λ (r : RecordValue). sent_epoch r.sent) to ∙ ap sent_epoch k.far.is_of.sent ∙ k.legs.onward
            ∙ sym (ap (λ (r : RecordValue). taken_epoch r.taken) from ∙ ap taken_epoch k.near.is_of.taken);
        backward = ap (λ (r : RecordValue). sent_epoch r.sent) from ∙ ap sent_epoch k.near.is_of.sent ∙ k.legs.backward
            ∙ sym (ap (λ (r : RecordValue). taken_epoch r.taken) to ∙ ap taken_epoch k.far.is_of.taken);
        place = p.0;
        pair = p.1;
        there = p.2;
        accepted = p.3;
      }

  pub call_handed : (c : JoinedCall) (a b d k : ℕ) (pair : PairValue) (callee : RecordValue) → JoinIs at w.origins c (record { came_in = a; placed = b }) → StandsOrEnded s.lines h.books c → CameFrom w.origins a d → slice_get w.whole.pairs k ≡ Some pair → pair.caller ≡ b
      → slice_get w.whole.records pair.callee ≡ Some callee → callee.closed ≡ false → HasHandedAll w a b
  call_handed c a b d k pair callee is holds came pair_there caller callee_there open_ =
      let l = its_line c.far.line is.far.0 in
      let t : FarTransfer c l.0 = far_transfer c b k pair callee l.0 is.far l.1 pair_there caller callee_there open_ in
      elim holds [
        | inl stands ↦ handed_on_all c a b d l.0 is.near is.far came l.1 t stands
        | inr ended ↦ absurd (ended.far_rests.not_present t.role t.channel t.present)
      ]

-- ---- all switches

module _ (plan : Plan) (ats : OwnLines) (xs : Switches) (cs : List PlacedCall) (lines : Lines) (books : List Book) (w : World) (traces : List (List Origin))
    (i : IsNetwork plan ats xs cs lines books w traces) (rests : SwitchesRest plan xs lines books) where
  have_handed_all : HaveHandedAll w
  have_handed_all a b d k pair callee came joined pair_there caller callee_there open_ =
      let join : Join = record { came_in = a; placed = b } in
      let f = its_switch plan ats xs cs lines books w traces i a b joined in
      let st = i.stays f.place f.switch f.there in
      let holds = of_its plan ats xs cs lines books w traces i (StandsOrEnded f.switch.switch.lines f.switch.histories.books) join f st.calls.each in
      call_handed plan ats xs cs lines books w traces i rests f.place f.switch f.there f.call a b d k pair callee f.is holds came pair_there caller callee_there open_

  at_switch : (line : ℕ) (role : Role) (b : Book) → slice_get books line ≡ Some b → plan.has_user line role ≡ false → NothingMissing b.records b.pairs
  at_switch line role b there switch =
      rest_kept (lines line).setting b (lines line).line (kept_line plan ats xs cs lines books w traces i line role b there switch) (rests line role (slice_get_within books line b there) switch).ends

  nothing_missing : ((line : ℕ) (b : Book) → IsOfUsers plan line → slice_get books line ≡ Some b → NothingMissing b.records b.pairs) → (line : ℕ) (b : Book) → slice_get books line ≡ Some b → NothingMissing b.records b.pairs
  nothing_missing users line b there = elim (users_or_switch plan line) [ inl both ↦ users line b both there | inr switch ↦ at_switch line switch.0 b there switch.1 ]

pub network_rests : RestLaw
network_rests plan ats xs cs lines books w traces i rests users =
    rest_paths plan w i.seen.seen (rest_seen w.whole books i.seen.lines.seen (nothing_missing plan ats xs cs lines books w traces i rests users))
    (have_handed_all plan ats xs cs lines books w traces i rests)
