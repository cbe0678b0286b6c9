-- The switch that joined a call, with the two records of the call in its books.
use Rattle.std.specs.Prelude.{◌≡◌, ℕ, ◌<◌, ◌⊎◌, zero, suc, true, false, List, [], ◌∷◌, length, slice_get, Option, Some}
use Rattle.std.proofs.Common.{inl, inr, refl, sym, ap, subst, ◌∙◌, option_map}
use Rattle.std.proofs.lemmas.Option.{none-some, same_Some, slice_get_within}
use Rattle.link_timers.specs.declared.role.Role.{Role}
use Rattle.link_timers.specs.declared.role.Role.TheVariants.{Dte, Dce}
use Rattle.packet_laws.specs.Readable.{Every}
use Rattle.call_records.specs.Records.{RecordValue}
use Rattle.call_records.specs.Book.{Book}
use Rattle.record_laws.proofs.Books.Basics.{get_there}
use Rattle.record_laws.specs.Registers.Seen.{renumbered}
use Rattle.record_laws.proofs.Registers.Positions.{is_place}
use Rattle.node_laws.specs.LineRecords.Kept.{Kept}
use Rattle.switch_laws.proofs.Lists.{get_map}
use Rattle.switch_joins.proofs.Apart.{decided}
use Rattle.switched_call_laws.specs.SwitchRecords.Turned.{sight}
use Rattle.switched_call_laws.specs.SwitchRecords.Tied.{Histories}
use Rattle.switched_call_laws.specs.JoinedCalls.Calls.{JoinedCall}
use Rattle.record_laws.specs.CallPaths.World.{Origin, Join, World, Plan}
use Rattle.record_laws.specs.CallPaths.Seen.{IsJoined, JoinIsSeen}
use Rattle.switched_call_laws.specs.SwitchPaths.Sight.{Switched, Switches, OwnLines, Lines, role_at, network_line, StaysInSight}
use Rattle.switched_call_laws.specs.SwitchPaths.Network.{PlacedCall, of_switch, lines_of, HasNumber, JoinIs, IsAtSwitch, IsNetwork}
use Rattle.switched_call_laws.specs.SwitchPaths.SwitchPathLaws.{IsOfUsers}
use Rattle.switched_call_laws.proofs.SwitchPaths.Listing.{join_found, every_own}
use Rattle.switched_call_laws.proofs.SwitchPaths.Seeing.{IsSeen, seen_with, line_seen}
use Rattle.switched_call_laws.proofs.SwitchPaths.Elsewhere.{kept_in_sight}

-- the record of this number in the book of a line of the switch, and the same in the whole register
pub record InBoth (line : ℕ) (n k m : ℕ) (h : Histories) (w : World) : Type 0 where
  pub value : RecordValue
  pub caller : Option ℕ
  pub own : slice_get (h.books n).records k ≡ Some value
  pub whole : slice_get w.whole.records m ≡ Some (renumbered m caller value)
  pub owner : slice_get (lines_of w.origins) m ≡ Some line

module _ (plan : Plan) (ats : OwnLines) (xs : Switches) (cs : List PlacedCall) (lines : Lines) (books : List Book) (w : World) (traces : List (List Origin)) (i : IsNetwork plan ats xs cs lines books w traces) where
  -- the network as a switch sees it
  pub in_sight : (place : ℕ) (x : Switched) → xs place ≡ Some x → IsSeen plan ats place (role_at x) x.histories.books cs books w traces
  in_sight place x there = seen_with plan ats place (role_at x) x.histories.books cs books w traces (λ n less. ((i.stays place x there).sight n less).book) i.seen

  pub in_both : (place : ℕ) (x : Switched) → xs place ≡ Some x → (n k m : ℕ) → HasNumber (ats place) w.origins n k m → InBoth (network_line (ats place) n) n k m x.histories w
  in_both place x there n k m e =
      let y = line_seen plan ats place (role_at x) n x.histories.books cs books w traces e.0 (in_sight place x there) in
      let z = y.records k m e.1 in
      record { value = z.value; caller = z.caller; own = z.own_there; whole = z.seen_there; owner = is_place (network_line (ats place) n) (lines_of w.origins) k m e.1 }

  -- each record is of a line
  pub of_line : (n : ℕ) (o : Origin) → slice_get w.origins n ≡ Some o → o.line < length books
  of_line n o made =
      let l = i.seen.lines in
      let less : n < length l.seen.owners = subst (λ (k : ℕ). n < k) (l.owned ∙ sym l.seen.records_owned) (slice_get_within w.origins n o made) in
      let owner = get_there l.seen.owners n less in
      let within : owner.0 < length books = l.seen.of_lines n owner.0 owner.1 in
      let trace = get_there traces owner.0 (subst (λ (k : ℕ). owner.0 < k) (sym l.count) within) in
      let same : owner.0 ≡ o.line = same_Some owner.0 o.line (sym owner.1 ∙ (ap (λ (ks : List ℕ). slice_get ks n) (l.lines owner.0 trace.0 trace.1).owners_are
      ∙ (get_map (λ (x : Origin). x.line) w.origins n ∙ ap (λ (e : Option Origin). option_map (λ (x : Origin). x.line) e) made))) in
      subst (λ (k : ℕ). k < length books) same within

  -- the switch that joined a call
  pub record ItsSwitch (j : Join) : Type 0 where
    pub place : ℕ
    pub switch : Switched
    pub there : xs place ≡ Some switch
    pub at : ℕ
    pub call : JoinedCall
    pub call_there : slice_get cs at ≡ Some (record { place = place; call = call })
    pub is : JoinIs (ats place) w.origins call j

  pub its_switch : (a b : ℕ) → IsJoined w.joins a b → ItsSwitch (record { came_in = a; placed = b })
  its_switch a b joined =
      let f = join_found plan ats w.origins cs w.joins joined.place (record { came_in = a; placed = b }) i.seen.joins joined.there in
      let seen : JoinIsSeen plan w.origins a b = i.seen.seen.records.joined a b joined in
      let from : seen.from ≡ f.is.from = same_Some seen.from f.is.from (sym seen.from_there ∙ f.is.from_there) in
      let o = f.is.from in
      let e : IsAtSwitch ats xs (plan.node o.line o.role) o.line o.role = i.ends o.line o.role (of_line a o f.is.from_there) (ap (λ (x : Origin). plan.has_user x.line x.role) (sym from) ∙ seen.from_switch) in
      record {
        place = f.call.place;
        switch = e.it;
        there = ap (λ (k : ℕ). xs k) (sym f.is.at_switch) ∙ e.there;
        at = f.at;
        call = f.call.call;
        call_there = f.there;
        is = f.is.is;
      }

  -- a line with a switch at an end is kept
  pub kept_line : (line : ℕ) (role : Role) (b : Book) → slice_get books line ≡ Some b → plan.has_user line role ≡ false → Kept (lines line).setting b (lines line).line
  kept_line line role b there switch =
      let e : IsAtSwitch ats xs (plan.node line role) line role = i.ends line role (slice_get_within books line b there) switch in
      let place = plan.node line role in
      let x = e.it in
      let st : StaysInSight (ats place) x (of_switch place cs) lines books = i.stays place x e.there in
      let sight_is = st.sight e.own e.within in
      let l = get_there x.switch.lines e.own (subst (λ (k : ℕ). e.own < k) (i.planned place x e.there).lines e.within) in
      let k = network_line (ats place) e.own in
      let c = sight (role_at x e.own) (x.histories.books e.own) in
      let same : c ≡ b = same_Some c b (sym sight_is.book ∙ (ap (λ (j : ℕ). slice_get books j) e.line_is ∙ there)) in
      subst (λ (j : ℕ). Kept (lines j).setting b (lines j).line) e.line_is
      (subst (λ (d : Book). Kept (lines k).setting d (lines k).line) same (kept_in_sight x e.own k lines books l.0 l.1 sight_is (st.tied.kept e.own l.0 l.1)))

  -- what holds of each call of a switch holds of this one
  pub of_its : (P : JoinedCall → Type 0) (j : Join) (s : ItsSwitch j) → Every P (of_switch s.place cs) → P s.call
  of_its P j s each = every_own P s.place cs s.at (record { place = s.place; call = s.call }) each s.call_there refl

-- users are at both ends of a line, or a switch is at one of them
pub users_or_switch : (plan : Plan) (line : ℕ) → IsOfUsers plan line ⊎ ((role : Role) × (plan.has_user line role ≡ false))
users_or_switch plan line = elim (decided (plan.has_user line Dte)) [
  | inr switch ↦ inr (Dte, switch)
  | inl dte ↦ elim (decided (plan.has_user line Dce)) [ inr switch ↦ inr (Dce, switch) | inl dce ↦ inl (both dte dce) ]
]
  where
    both : plan.has_user line Dte ≡ true → plan.has_user line Dce ≡ true → (role : Role) → plan.has_user line role ≡ true
    both dte dce Dte = dte
    both dte dce Dce = dce

-- a record of the whole register is of the line of its origin
pub line_of_origin : (os : List Origin) (k n : ℕ) (o : Origin) → slice_get os k ≡ Some o → slice_get (lines_of os) k ≡ Some n → o.line ≡ n
line_of_origin [] k n o e f = absurd (none-some o e)
line_of_origin (y ∷ os) zero n o e f = ap (λ (z : Origin). z.line) (sym (same_Some y o e)) ∙ same_Some y.line n f
line_of_origin (y ∷ os) (suc k) n o e f = line_of_origin os k n o e f
