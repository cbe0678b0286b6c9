-- The histories of the lines of a network, and the calls that users accepted in them.
use Rattle.std.proofs.Common.{◌≡◌, ◌≢◌, ℕ, zero, suc, ◌<◌, true, List, [], ◌∷◌, length, Some, refl, sym, ap, ap₂, ◌∙◌, subst, arith}
use Rattle.std.specs.Prelude.{slice_get, map, option_map}
use Rattle.std.proofs.lemmas.Option.{none-some, same_Some, slice_get-map}
use Rattle.std.proofs.lemmas.List.{length-map}
use Rattle.link_timers.specs.declared.role.Role.{Role}
use Rattle.packet_layer.specs.Layer.{unread}
use Rattle.call_records.specs.Records.{RecordValue, PairValue}
use Rattle.call_records.specs.Book.{Book, side_of}
use Rattle.call_records.specs.Register.{Register}
use Rattle.record_laws.specs.Books.Told.{World}
use Rattle.record_laws.specs.Books.Open.{layers_at}
use Rattle.record_laws.specs.Books.Counts.{HasEpochs, HasCounted, IsCountedAt}
use Rattle.record_laws.specs.Books.AcceptedCalls.{CallUse, epochs_at, was_accepted, IsOfAccepted, AreAccepted}
use Rattle.record_laws.proofs.Books.Basics.{map_at, get_there}
use Rattle.node_laws.specs.LineRecords.Histories.{LineHistory, led, IsPossible}
use Rattle.node_laws.proofs.LineRecords.Counting.{all_sent, all_taken, epochs_alike, counted_alike}
use Rattle.record_laws.specs.CallPaths.Ends.{IsOf}
use Rattle.user_nodes.specs.Node.{end_of}
use Rattle.net_events.specs.Network.{PlacedNode, User, NetLine, Network, place_at}
use Rattle.network_laws.specs.Switched.Histories.{HasUserAt, LineCall, IsOfCall, HistoriesHold}
use Rattle.network_laws.proofs.Switched.OwnLines.{same_role}
use Rattle.network_laws.proofs.Switched.PromiseLines.{fellow}

-- ---- a list with one for each place

choose_at : {Y : Type 0} (P : ℕ → Y → Type 0) (y : Y) (ys : List Y) → P 0 y → ((i : ℕ) (z : Y) → slice_get ys i ≡ Some z → P (suc i) z)
    → (i : ℕ) (z : Y) → slice_get (y ∷ ys) i ≡ Some z → P i z
choose_at {Y} P y ys a b zero z e = subst (λ (w : Y). P 0 w) (same_Some y z e) a
choose_at P y ys a b (suc i) z e = b i z e

choose : {Y : Type 0} (n : ℕ) (P : ℕ → Y → Type 0) → ((i : ℕ) → i < n → (y : Y) × P i y)
    → (ys : List Y) × (length ys ≡ n) × ((i : ℕ) (y : Y) → slice_get ys i ≡ Some y → P i y)
choose zero P h = ([], refl, λ i y e. absurd (none-some y e))
choose (suc n) P h =
    let first = h 0 (omega arith) in
    let rest = choose n (λ i. P (suc i)) (λ i less. h (suc i) (omega arith)) in
    (first.0 ∷ rest.0, ap suc rest.1, choose_at P first.0 rest.0 first.1 rest.2)

-- ---- a line

-- its history, and the uses in which calls were accepted
pub record LineData : Type 0 where
  pub history : LineHistory
  pub uses : List CallUse

pub record IsLed (s : Network) (line : ℕ) (l : NetLine) (b : Book) (d : LineData) : Type 0 where
  pub possible : IsPossible d.history
  pub layers : (role : Role) (n : PlacedNode) → slice_get s.nodes (place_at role l) ≡ Some (User n)
      → unread (layers_at role (led d.history).line).layer ≡ (end_of n.node).layer
  pub book : (led d.history).book ≡ b
  pub counts : (i : ℕ) (r : RecordValue) → slice_get b.records i ≡ Some r → IsCountedAt (led d.history) r
  pub accepted : AreAccepted (led d.history) d.uses
  pub nodes : (role : Role) → (side_of role b).node ≡ place_at role l
  pub apart : l.dte ≢ l.dce
  pub at_line : (role : Role) (n : PlacedNode) → slice_get s.nodes (place_at role l) ≡ Some (User n) → n.line ≡ line

-- a record of the register is this one of a line's book
pub record IsOwned (books : List Book) (r : RecordValue) : Type 0 where
  pub line : ℕ
  pub book : Book
  pub there : slice_get books line ≡ Some book
  pub place : ℕ
  pub own : RecordValue
  pub own_there : slice_get book.records place ≡ Some own
  pub same : IsOf own r

-- a pair of the register is this one of a line's book
pub record IsPairAt (g : Register) (books : List Book) (i line j : ℕ) : Type 0 where
  pub book : Book
  pub there : slice_get books line ≡ Some book
  pub own_pair : PairValue
  pub own_there : slice_get book.pairs j ≡ Some own_pair
  pub pair : PairValue
  pub pair_there : slice_get g.pairs i ≡ Some pair
  pub own : RecordValue
  pub own_record : slice_get book.records own_pair.callee ≡ Some own
  pub callee : RecordValue
  pub callee_there : slice_get g.records pair.callee ≡ Some callee
  pub same : IsOf own callee

-- which pairs of the register are those of the books: each of them is one, and those that users accepted are all there
pub record PairsAre (s : Network) (g : Register) (books : List Book) (Is : ℕ → ℕ → ℕ → Type 0) : Type 0 where
  pub is_at : (i line j : ℕ) → Is i line j → IsPairAt g books i line j
  pub every : (i : ℕ) (p : PairValue) → slice_get g.pairs i ≡ Some p → (line : ℕ) × (j : ℕ) × Is i line j
  pub one : (i line j other k : ℕ) → Is i line j → Is i other k → (line ≡ other) × (j ≡ k)
  pub back : (i h line j : ℕ) → Is i line j → Is h line j → i ≡ h
  pub users : (line : ℕ) (l : NetLine) (b : Book) (role : Role) (j : ℕ) (q : PairValue) (own : RecordValue)
      → slice_get s.lines line ≡ Some l → slice_get books line ≡ Some b → HasUserAt s l role
      → slice_get b.pairs j ≡ Some q → slice_get b.records q.callee ≡ Some own → own.node ≡ place_at role l
      → (i : ℕ) × Is i line j

module _ (s : Network) (books : List Book) (many : length books ≡ length s.lines)
    (has : (line : ℕ) (l : NetLine) (b : Book) → slice_get s.lines line ≡ Some l → slice_get books line ≡ Some b → (d : LineData) × IsLed s line l b d)
    (of_users : (i : ℕ) (r : RecordValue) → slice_get s.register.records i ≡ Some r → (n : PlacedNode) × (slice_get s.nodes r.node ≡ Some (User n)))
    (owned : (i : ℕ) (r : RecordValue) → slice_get s.register.records i ≡ Some r → IsOwned books r)
    (Is : ℕ → ℕ → ℕ → Type 0) (pairs_are : PairsAre s s.register books Is) where
  record HasData (line : ℕ) (d : LineData) : Type 0 where
    line_is : NetLine
    book : Book
    line_there : slice_get s.lines line ≡ Some line_is
    book_there : slice_get books line ≡ Some book
    is_led : IsLed s line line_is book d

  data_of : (line : ℕ) → line < length s.lines → (d : LineData) × HasData line d
  data_of line less =
      let l = get_there s.lines line less in
      let b = fellow books s.lines line l.0 many l.1 in
      let d = has line l.0 b.0 l.1 b.1 in
      (d.0, record { line_is = l.0; book = b.0; line_there = l.1; book_there = b.1; is_led = d.1 })

  chosen : (ys : List LineData) × (length ys ≡ length s.lines) × ((i : ℕ) (y : LineData) → slice_get ys i ≡ Some y → HasData i y)
  chosen = choose (length s.lines) HasData data_of

  abbrev datas : List LineData
  datas = chosen.0

  abbrev histories : List LineHistory
  histories = map (λ (d : LineData). d.history) datas

  -- ---- lines with their histories

  record LineKept (line : ℕ) (l : NetLine) : Type 0 where
    d : LineData
    data_there : slice_get datas line ≡ Some d
    book : Book
    book_there : slice_get books line ≡ Some book
    is_led : IsLed s line l book d

  kept_line : (line : ℕ) (l : NetLine) → slice_get s.lines line ≡ Some l → LineKept line l
  kept_line line l at =
      let d = fellow datas s.lines line l chosen.1 at in
      let h : HasData line d.0 = chosen.2 line d.0 d.1 in
      record {
        d = d.0;
        data_there = d.1;
        book = h.book;
        book_there = h.book_there;
        is_led = subst (λ (x : NetLine). IsLed s line x h.book d.0) (same_Some h.line_is l (sym h.line_there ∙ at)) h.is_led;
      }

  history_there : (line : ℕ) (d : LineData) → slice_get datas line ≡ Some d → slice_get histories line ≡ Some d.history
  history_there line d at = slice_get-map (λ (x : LineData). x.history) datas line ∙ ap (option_map (λ (x : LineData). x.history)) at

  history_is : (line : ℕ) (l : NetLine) (h : LineHistory) (k : LineKept line l) → slice_get histories line ≡ Some h → k.d.history ≡ h
  history_is line l h k at = same_Some k.d.history h (sym (history_there line k.d k.data_there) ∙ at)

  possible_of : (line : ℕ) (h : LineHistory) → slice_get histories line ≡ Some h → IsPossible h
  possible_of line h at =
      let m = map_at (λ (x : LineData). x.history) datas line h at in
      subst IsPossible m.2 (chosen.2 line m.0 m.1).is_led.possible

  layers_of : (line : ℕ) (h : LineHistory) (l : NetLine) (role : Role) (n : PlacedNode) → slice_get histories line ≡ Some h → slice_get s.lines line ≡ Some l
      → slice_get s.nodes (place_at role l) ≡ Some (User n) → unread (layers_at role (led h).line).layer ≡ (end_of n.node).layer
  layers_of line h l role n hs ls at =
      let k : LineKept line l = kept_line line l ls in
      subst (λ (x : LineHistory). unread (layers_at role (led x).line).layer ≡ (end_of n.node).layer) (history_is line l h k hs) (k.is_led.layers role n at)

  -- ---- what the records count

  same_node : (own r : RecordValue) → IsOf own r → r.node ≡ own.node
  same_node own r e = ap (λ (x : RecordValue). x.node) e

  its_book : (l : NetLine) (line : ℕ) (b : Book) (d : LineData) → IsLed s line l b d → (role : Role) → (side_of role (led d.history).book).node ≡ place_at role l
  its_book l line b d h role = ap (λ (x : Book). (side_of role x).node) h.book ∙ h.nodes role

  counted_of : (line other : ℕ) (l m : NetLine) (k : LineKept line l) (o : LineKept other m) → line ≡ other → slice_get s.lines line ≡ Some l → slice_get s.lines other ≡ Some m
      → (role its : Role) (r : RecordValue) → place_at its m ≡ place_at role l → HasCounted (layers_at its (led o.d.history).line) r → HasCounted (layers_at role (led k.d.history).line) r
  counted_of line other l m k o e ls ms role its r place h =
      let same_d : o.d ≡ k.d = same_Some o.d k.d (sym o.data_there ∙ ap (λ (i : ℕ). slice_get datas i) (sym e) ∙ k.data_there) in
      let same : m ≡ l = same_Some m l (sym ms ∙ ap (λ (i : ℕ). slice_get s.lines i) (sym e) ∙ ls) in
      let role_is : its ≡ role = same_role l k.is_led.apart its role (ap (λ (x : NetLine). place_at its x) (sym same) ∙ place) in
      subst (λ (x : Role). HasCounted (layers_at x (led k.d.history).line) r) role_is
      (subst (λ (d : LineData). HasCounted (layers_at its (led d.history).line) r) same_d h)

  counts_of : (line : ℕ) (h : LineHistory) (l : NetLine) (role : Role) (n : PlacedNode) (i : ℕ) (r : RecordValue) → slice_get histories line ≡ Some h → slice_get s.lines line ≡ Some l
      → slice_get s.nodes (place_at role l) ≡ Some (User n) → slice_get s.register.records i ≡ Some r → r.node ≡ place_at role l → HasCounted (layers_at role (led h).line) r
  counts_of line h l role n i r hs ls at there node =
      let k : LineKept line l = kept_line line l ls in
      let o : IsOwned books r = owned i r there in
      let m = fellow s.lines books o.line o.book (sym many) o.there in
      let q : LineKept o.line m.0 = kept_line o.line m.0 m.1 in
      let book : q.book ≡ o.book = same_Some q.book o.book (sym q.book_there ∙ o.there) in
      let c : IsCountedAt (led q.d.history) o.own = q.is_led.counts o.place o.own (ap (λ (x : Book). slice_get x.records o.place) book ∙ o.own_there) in
      let place : place_at c.role m.0 ≡ place_at role l = sym (its_book m.0 o.line q.book q.d q.is_led c.role) ∙ sym c.node ∙ sym (same_node o.own r o.same) ∙ node in
      let other : n.line ≡ o.line = q.is_led.at_line c.role n (ap (λ (p : ℕ). slice_get s.nodes p) place ∙ at) in
      let lines : line ≡ o.line = sym (k.is_led.at_line role n at) ∙ other in
      let own : HasCounted (layers_at role (led k.d.history).line) o.own = counted_of line o.line l m.0 k q lines ls m.1 role c.role o.own place c.counts in
      subst (λ (x : LineHistory). HasCounted (layers_at role (led x).line) r) (history_is line l h k hs)
      (counted_alike (layers_at role (led k.d.history).line) o.own r (ap (λ (x : RecordValue). all_sent x) o.same) (ap (λ (x : RecordValue). all_taken x) o.same) own)

  -- ---- the pairs

  record CallIs (i : ℕ) (c : LineCall) : Type 0 where
    j : ℕ
    is : Is i c.line j
    line_is : NetLine
    line_there : slice_get s.lines c.line ≡ Some line_is
    used : slice_get (kept_line c.line line_is line_there).d.uses j ≡ Some c.in_use

  call_for : (i : ℕ) → i < length s.register.pairs → (c : LineCall) × CallIs i c
  call_for i less =
      let p = get_there s.register.pairs i less in
      let e = pairs_are.every i p.0 p.1 in
      let at : IsPairAt s.register books i e.0 e.1 = pairs_are.is_at i e.0 e.1 e.2 in
      let l = fellow s.lines books e.0 at.book (sym many) at.there in
      let k : LineKept e.0 l.0 = kept_line e.0 l.0 l.1 in
      let book : (led k.d.history).book ≡ at.book = k.is_led.book ∙ same_Some k.book at.book (sym k.book_there ∙ at.there) in
      let u = fellow k.d.uses at.book.pairs e.1 at.own_pair (k.is_led.accepted.count ∙ ap (λ (b : Book). length b.pairs) book) at.own_there in
      (record { line = e.0; in_use = u.0 }, record { j = e.1; is = e.2; line_is = l.0; line_there = l.1; used = u.1 })

  picked : (ys : List LineCall) × (length ys ≡ length s.register.pairs) × ((i : ℕ) (y : LineCall) → slice_get ys i ≡ Some y → CallIs i y)
  picked = choose (length s.register.pairs) CallIs call_for

  pair_of : (i : ℕ) (c : LineCall) (pair : PairValue) → slice_get picked.0 i ≡ Some c → slice_get s.register.pairs i ≡ Some pair → IsOfCall s histories c pair
  pair_of i c pair at there =
      let m : CallIs i c = picked.2 i c at in
      let k : LineKept c.line m.line_is = kept_line c.line m.line_is m.line_there in
      let w : World = led k.d.history in
      let x : IsPairAt s.register books i c.line m.j = pairs_are.is_at i c.line m.j m.is in
      let book : w.book ≡ x.book = k.is_led.book ∙ same_Some k.book x.book (sym k.book_there ∙ x.there) in
      let a : IsOfAccepted w c.in_use x.own_pair = k.is_led.accepted.pairs m.j c.in_use x.own_pair m.used (ap (λ (b : Book). slice_get b.pairs m.j) book ∙ x.own_there) in
      let own : a.callee ≡ x.own = same_Some a.callee x.own (sym a.callee_there ∙ ap (λ (b : Book). slice_get b.records x.own_pair.callee) book ∙ x.own_record) in
      let same : x.pair ≡ pair = same_Some x.pair pair (sym x.pair_there ∙ there) in
      let node : x.callee.node ≡ place_at c.in_use.role m.line_is =
      same_node x.own x.callee x.same ∙ ap (λ (r : RecordValue). r.node) (sym own) ∙ a.callee_node ∙ its_book m.line_is c.line k.book k.d k.is_led c.in_use.role in
      let u = of_users x.pair.callee x.callee x.callee_there in
      record {
        history = k.d.history;
        history_there = history_there c.line k.d k.data_there;
        line_is = m.line_is;
        line_there = m.line_there;
        user = (u.0, ap (λ (p : ℕ). slice_get s.nodes p) (sym node) ∙ u.1);
        accepted = k.is_led.accepted.accepted m.j c.in_use m.used;
        callee = x.callee;
        callee_there = ap (λ (p : PairValue). slice_get s.register.records p.callee) (sym same) ∙ x.callee_there;
        node = node;
        epochs = epochs_alike (epochs_at c.in_use.role c.in_use w.line) x.own x.callee (ap (λ (r : RecordValue). all_sent r) x.same) (ap (λ (r : RecordValue). all_taken r) x.same)
            (subst (λ (r : RecordValue). HasEpochs (epochs_at c.in_use.role c.in_use w.line) r) own a.callee_epochs);
      }

  same_data : (line : ℕ) (l m : NetLine) (k : LineKept line l) (o : LineKept line m) → k.d ≡ o.d
  same_data line l m k o = same_Some k.d o.d (sym k.data_there ∙ o.data_there)

  once_of : (i j : ℕ) (c : LineCall) → slice_get picked.0 i ≡ Some c → slice_get picked.0 j ≡ Some c → i ≡ j
  once_of i j c at there =
      let m : CallIs i c = picked.2 i c at in
      let o : CallIs j c = picked.2 j c there in
      let k : LineKept c.line m.line_is = kept_line c.line m.line_is m.line_there in
      let q : LineKept c.line o.line_is = kept_line c.line o.line_is o.line_there in
      let same : m.j ≡ o.j =
      k.is_led.accepted.once m.j o.j c.in_use m.used (ap (λ (d : LineData). slice_get d.uses o.j) (same_data c.line m.line_is o.line_is k q) ∙ o.used) in
      pairs_are.back i j c.line o.j (subst (λ (n : ℕ). Is i c.line n) same m.is) o.is

  all_of : (line : ℕ) (h : LineHistory) (l : NetLine) (u : CallUse) → slice_get histories line ≡ Some h → slice_get s.lines line ≡ Some l → HasUserAt s l u.role
      → was_accepted u (led h).line ≡ true → (i : ℕ) × (slice_get picked.0 i ≡ Some (record { line = line; in_use = u }))
  all_of line h l u hs ls user accepted =
      let k : LineKept line l = kept_line line l ls in
      let w : World = led k.d.history in
      let j = k.is_led.accepted.all u (subst (λ (x : LineHistory). was_accepted u (led x).line ≡ true) (sym (history_is line l h k hs)) accepted) in
      let q = fellow w.book.pairs k.d.uses j.0 u (sym k.is_led.accepted.count) j.1 in
      let a : IsOfAccepted w u q.0 = k.is_led.accepted.pairs j.0 u q.0 j.1 q.1 in
      let i = pairs_are.users line l k.book u.role j.0 q.0 a.callee ls k.book_there user (ap (λ (b : Book). slice_get b.pairs j.0) (sym k.is_led.book) ∙ q.1)
      (ap (λ (b : Book). slice_get b.records q.0.callee) (sym k.is_led.book) ∙ a.callee_there) (a.callee_node ∙ its_book l line k.book k.d k.is_led u.role) in
      let x : IsPairAt s.register books i.0 line j.0 = pairs_are.is_at i.0 line j.0 i.1 in
      let c = fellow picked.0 s.register.pairs i.0 x.pair picked.1 x.pair_there in
      (i.0, c.1 ∙ ap (λ (z : LineCall). Some z) (by line l k j.0 u i.0 c.0 j.1 i.1 (picked.2 i.0 c.0 c.1)))
    where
      same_call : (c : LineCall) (line : ℕ) (u : CallUse) → c.line ≡ line → c.in_use ≡ u → c ≡ record { line = line; in_use = u }
      same_call c line u e h = ap₂ (λ (n : ℕ) (v : CallUse). record { line = n; in_use = v }) e h

      by : (line : ℕ) (l : NetLine) (k : LineKept line l) (j : ℕ) (u : CallUse) (i : ℕ) (c : LineCall) → slice_get k.d.uses j ≡ Some u → Is i line j → CallIs i c → c ≡ record { line = line; in_use = u }
      by line l k j u i c used is m =
          let o = pairs_are.one i c.line m.j line j m.is is in
          let q : LineKept c.line m.line_is = kept_line c.line m.line_is m.line_there in
          let same_d : q.d ≡ k.d = same_Some q.d k.d (sym q.data_there ∙ ap (λ (n : ℕ). slice_get datas n) o.0 ∙ k.data_there) in
          same_call c line u o.0 (same_Some c.in_use u (sym m.used ∙ ap₂ (λ (d : LineData) (n : ℕ). slice_get d.uses n) same_d o.1 ∙ used))

  pub histories_hold : (hs : List LineHistory) × HistoriesHold s hs
  histories_hold = (
    histories,
    record {
      count = length-map datas (λ (d : LineData). d.history) ∙ chosen.1;
      possible = possible_of;
      layers = layers_of;
      counts = counts_of;
      calls = picked.0;
      calls_count = picked.1;
      pairs = pair_of;
      once = once_of;
      all = all_of;
    },
  )
