-- The promise of a network of switches, and the addresses of the calls that they join.
use Rattle.std.specs.Prelude.{◌≡◌, ℕ, ◌⊎◌, false, List, slice_get, Option, Some}
use Rattle.std.proofs.Common.{inl, inr, sym, ap, ap₂, ◌∙◌}
use Rattle.std.proofs.lemmas.Option.{none-some, same_Some}
use Rattle.epochs.specs.ConfirmedLaws.{AreEmpty}
use Rattle.call_records.specs.Records.{RecordValue}
use Rattle.call_records.specs.Book.{Book}
use Rattle.record_laws.specs.Words.{sent_by}
use Rattle.record_laws.specs.Registers.Seen.{renumbered}
use Rattle.switched_call_laws.specs.JoinedCalls.JoinLaws.{HasRelayed}
use Rattle.switched_call_laws.proofs.JoinedCalls.CallsAfterEvents.{calls_hold}
use Rattle.record_laws.specs.CallPaths.World.{Origin, Join, World, Plan, calling_on}
use Rattle.record_laws.specs.CallPaths.Seen.{IsJoined}
use Rattle.record_laws.specs.CallPaths.Forwards.{IsRelayed}
use Rattle.record_laws.specs.CallPaths.Parts.{CallsHold}
use Rattle.record_laws.proofs.CallPaths.Lining.{lines_hold}
use Rattle.record_laws.proofs.CallPaths.Forwarding.{relayed_joins}
use Rattle.record_laws.proofs.CallPaths.Promising.{promised}
use Rattle.switched_call_laws.specs.SwitchPaths.Sight.{Switched, Switches, OwnLines, Lines, network_line}
use Rattle.switched_call_laws.specs.SwitchPaths.Network.{PlacedCall, of_switch, HasNumber, IsInJoin, IsNetwork}
use Rattle.switched_call_laws.specs.SwitchPaths.SwitchPathLaws.{AddressLaw, IsOfUsers, IsKept, PromiseLaw}
use Rattle.switched_call_laws.proofs.SwitchPaths.LinesByMoves.{kept_calls}
use Rattle.switched_call_laws.proofs.SwitchPaths.Listing.{join_at}
use Rattle.switched_call_laws.proofs.SwitchPaths.Joined.{in_both, its_switch, of_its, kept_line, users_or_switch, line_of_origin}

module _ (plan : Plan) (ats : OwnLines) (xs : Switches) (cs : List PlacedCall) (lines : Lines) (books : List Book) (w : World) (traces : List (List Origin)) (i : IsNetwork plan ats xs cs lines books w traces) where
  -- a call that came in at a switch is joined, or the switch sent nothing on it
  sends_so : (a x : ℕ) (o : Origin) (r : RecordValue) → slice_get w.origins a ≡ Some o → o.caller ≡ Some x
      → plan.has_user o.line o.role ≡ false → slice_get w.whole.records a ≡ Some r → AreEmpty (sent_by r) ⊎ ((b : ℕ) × IsJoined w.joins a b)
  sends_so a x o r known came switch there = by_join (i.seen.sends a o r known switch there)
    where
      by_join : AreEmpty (sent_by r) ⊎ IsInJoin w.joins a → AreEmpty (sent_by r) ⊎ ((b : ℕ) × IsJoined w.joins a b)
      by_join (inl e) = inl e
      by_join (inr (inl j)) = inr j
      by_join (inr (inr j)) =
          let k = i.seen.seen.records.joined j.0 a j.1 in
          let same : k.to ≡ o = same_Some k.to o (sym k.to_there ∙ known) in
          absurd (none-some x (sym k.placed ∙ (ap (λ (y : Origin). y.caller) same ∙ came)))

  whole_record : (place : ℕ) (x : Switched) → xs place ≡ Some x → (n k m : ℕ) (r : RecordValue) → HasNumber (ats place) w.origins n k m → slice_get (x.histories.books n).records k ≡ Some r → (c : Option ℕ) × (slice_get w.whole.records m ≡ Some (renumbered m c r))
  whole_record place x at n k m r e there =
      let z = in_both plan ats xs cs lines books w traces i place x at n k m e in
      (z.caller, z.whole ∙ ap (λ (y : RecordValue). Some (renumbered m z.caller y)) (same_Some z.value r (sym z.own ∙ there)))

  relays : (a b : ℕ) → IsJoined w.joins a b → IsRelayed w a b
  relays a b j =
      let join : Join = record { came_in = a; placed = b } in
      let f = its_switch plan ats xs cs lines books w traces i a b j in
      let st = i.stays f.place f.switch f.there in
      let x = f.switch in
      let holds : HasRelayed x.histories.books f.call = of_its plan ats xs cs lines books w traces i (HasRelayed x.histories.books) join f (calls_hold.relayed x.switch x.histories (of_switch f.place cs) st.tied st.calls) in
      let near = whole_record f.place x f.there f.call.near.line f.call.came_in a holds.near_record f.is.near holds.near_there in
      let far = whole_record f.place x f.there f.call.far.line f.call.placed b holds.far_record f.is.far holds.far_there in
      record {
        from = renumbered a near.0 holds.near_record;
        to = renumbered b far.0 holds.far_record;
        from_there = near.1;
        to_there = far.1;
        onward = holds.relayed.there;
        backward = holds.relayed.back;
      }

  -- each line is kept, where those between users are
  kept_by : ((line : ℕ) (b : Book) → IsOfUsers plan line → slice_get books line ≡ Some b → IsKept b) → (line : ℕ) (b : Book) → slice_get books line ≡ Some b → IsKept b
  kept_by users line b there = elim (users_or_switch plan line) [
    | inl both ↦ users line b both there
    | inr switch ↦ record { setting = (lines line).setting; line = (lines line).line; kept = kept_line plan ats xs cs lines books w traces i line switch.0 b there switch.1 }
  ]

  -- the calls of all lines hold
  lines_are : ((line : ℕ) (b : Book) → IsOfUsers plan line → slice_get books line ≡ Some b → IsKept b) → CallsHold w
  lines_are users = lines_hold w books traces i.seen.lines (λ line b own there trace.
      let k = kept_by users line b there in
      kept_calls k.setting b k.line k.kept own (i.seen.lines.recorded line b own there trace))

pub promise : PromiseLaw
promise plan ats xs cs lines books w traces i users =
    promised plan w i.alike i.seen.seen (i.seen.paths i.switches i.tree) (lines_are plan ats xs cs lines books w traces i users) (relayed_joins plan w i.seen.handed (relays plan ats xs cs lines books w traces i) (sends_so plan ats xs cs lines books w traces i))

pub addresses_are : AddressLaw
addresses_are plan ats xs cs lines books w traces i place x at k c there =
    let j = join_at plan ats place w.origins cs w.joins k c i.seen.joins there in
    let near = in_both plan ats xs cs lines books w traces i place x at c.near.line c.came_in j.join.came_in j.is.near in
    let far = in_both plan ats xs cs lines books w traces i place x at c.far.line c.placed j.join.placed j.is.far in
    let near_line = network_line (ats place) c.near.line in
    let far_line = network_line (ats place) c.far.line in
    let y = i.seen.handed j.join.came_in j.join.placed (record { place = j.place; there = j.there }) in
    let from : y.from ≡ renumbered j.join.came_in near.caller near.value = same_Some y.from _ (sym y.from_there ∙ near.whole) in
    let to : y.to ≡ renumbered j.join.placed far.caller far.value = same_Some y.to _ (sym y.to_there ∙ far.whole) in
    let line : y.from_origin.line ≡ near_line = line_of_origin w.origins j.join.came_in near_line y.from_origin y.from_came near.owner in
    let onto : y.to_origin.line ≡ far_line = line_of_origin w.origins j.join.placed far_line y.to_origin y.to_placed far.owner in
    let far_is : far.value.far ≡ y.to.far = ap (λ (r : RecordValue). r.far) (sym to) in
    let own_is : y.from.own ≡ near.value.own = ap (λ (r : RecordValue). r.own) from in
    record {
      near_record = near.value;
      far_record = far.value;
      near_there = near.own;
      far_there = far.own;
      called = far_is ∙ (y.called ∙ own_is);
      calling = ap (λ (r : RecordValue). r.own) (sym to) ∙ (y.calling ∙ ap₂ (λ (n : ℕ) (r : RecordValue). calling_on (plan.address n) r.far) line from);
      routed = sym (ap₂ (λ (n : ℕ) (d : Option (List ℕ)). plan.route n d) (ap (λ (r : RecordValue). r.node) to) (y.called ∙ own_is)) ∙ (y.routed ∙ ap (λ (n : ℕ). Some n) onto);
    }
