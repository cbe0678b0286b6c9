-- Free lines.
use Rattle.std.proofs.Common.{◌≡◌, ℕ, zero, suc, ◌+◌, ◌<◌, Bool, true, false, List, [], ◌∷◌, length, map, replicate, None, refl, sym, ap, subst, ◌∙◌, arith}
use Rattle.std.specs.Prelude.{slice_get}
use Rattle.std.proofs.lemmas.Option.{none-some}
use Rattle.link_timers.specs.declared.role.Role.{Role}
use Rattle.link_timers.specs.declared.role.Role.TheVariants.{Dte, Dce}
use Rattle.call_records.specs.Book.{Side, Slot, free_slot, found_slot, nth_slot, side_of}
use Rattle.call_records.specs.Register.{LinePlan, LineEnds, free_ends, found_ends, book_at}
use Rattle.record_laws.specs.CallPaths.World.{Plan, AreBetween, without_address, made_world}
use Rattle.record_laws.specs.CallPaths.Seen.{PresentIsSeen, CallerIsSeen, SlotIsSeen, SideIsSeen}
use Rattle.record_laws.specs.CallPaths.PathPromise.{address_at}
use Rattle.record_laws.specs.CallPaths.PathLaws.{MadeLaw}

nth_free : (n i : ℕ) → found_slot (slice_get (replicate n free_slot) i) ≡ free_slot
nth_free zero i = refl
nth_free (suc n) zero = refl
nth_free (suc n) (suc i) = nth_free n i

slot_free : (n c : ℕ) → nth_slot (replicate n free_slot) c ≡ free_slot
slot_free n zero = refl
slot_free n (suc c) = nth_free n c

module _ (plan : Plan) where
  no_present : (u : Bool) → PresentIsSeen u [] None None
  no_present true = tt
  no_present false = refl

  no_caller : (u : Bool) → CallerIsSeen u plan [] [] None None
  no_caller true = tt
  no_caller false = refl

  free_seen : (line : ℕ) (role : Role) → SlotIsSeen plan [] [] line role free_slot free_slot
  free_seen line role = record {
    present = no_present (plan.has_user line role);
    caller = no_caller (plan.has_user line role);
    placed = tt;
    present_origin = λ m e. absurd (none-some m e);
    placed_origin = λ m e. absurd (none-some m e);
  }

  side_free : (line : ℕ) (role : Role) (node n : ℕ) (address : List ℕ) → node ≡ plan.node line role → address ≡ address_at plan line role
      → SideIsSeen plan [] [] line role (record { node = node; address = address; slots = replicate n free_slot }) (record { node = node; address = []; slots = replicate n free_slot })
  side_free line role node n address e at = record {
    seen_node = e;
    whole_node = e;
    seen_address = at;
    whole_address = refl;
    channels = refl;
    slot = λ c. subst (λ (s : Slot). SlotIsSeen plan [] [] line role s s) (sym (slot_free n c)) (free_seen line role);
  }

  abbrev end_of : Role → LineEnds → Side
  end_of Dte e = e.dte
  end_of Dce e = e.dce

  abbrev frees : List LinePlan → List LineEnds
  frees lines = map free_ends lines

  abbrev bares : List LinePlan → List LineEnds
  bares lines = map free_ends (map without_address lines)

  ends_free : (lines : List LinePlan) (first i : ℕ) (role : Role) → AreBetween plan first lines → i < length (bares lines)
      → SideIsSeen plan [] [] (first + i) role (end_of role (found_ends (slice_get (frees lines) i))) (end_of role (found_ends (slice_get (bares lines) i)))
  ends_free [] first i role h less = absurd (omega arith)
  ends_free (l ∷ ls) first zero Dte h less =
      let same : first ≡ first + 0 = omega arith in
      side_free (first + 0) Dte l.dte_node l.channels l.address (h.0 ∙ ap (λ (n : ℕ). plan.node n Dte) same) (h.1.1.0 ∙ ap (λ (n : ℕ). plan.address n) same)
  ends_free (l ∷ ls) first zero Dce h less =
      let same : first ≡ first + 0 = omega arith in
      side_free (first + 0) Dce l.dce_node l.channels [] (h.1.0 ∙ ap (λ (n : ℕ). plan.node n Dce) same) refl
  ends_free (l ∷ ls) first (suc i) role h less =
      let same : suc first + i ≡ first + suc i = omega arith in
      subst (λ (n : ℕ). SideIsSeen plan [] [] n role (end_of role (found_ends (slice_get (frees ls) i))) (end_of role (found_ends (slice_get (bares ls) i)))) same
      (ends_free ls (suc first) i role h.1.1.1 (omega arith))

  free_sides : (lines : List LinePlan) → AreBetween plan 0 lines → (i : ℕ) (role : Role) → i < length (bares lines)
      → SideIsSeen plan [] [] i role (side_of role (book_at i (made_world lines).register)) (side_of role (book_at i (made_world lines).whole))
  free_sides lines h i Dte less =
      let same : 0 + i ≡ i = omega arith in
      subst (λ (n : ℕ). SideIsSeen plan [] [] n Dte (found_ends (slice_get (frees lines) i)).dte (found_ends (slice_get (bares lines) i)).dte) same (ends_free lines 0 i Dte h less)
  free_sides lines h i Dce less =
      let same : 0 + i ≡ i = omega arith in
      subst (λ (n : ℕ). SideIsSeen plan [] [] n Dce (found_ends (slice_get (frees lines) i)).dce (found_ends (slice_get (bares lines) i)).dce) same (ends_free lines 0 i Dce h less)

count_same : (lines : List LinePlan) → length (map free_ends lines) ≡ length (map free_ends (map without_address lines))
count_same [] = refl
count_same (l ∷ ls) = ap suc (count_same ls)

pub made_seen : MadeLaw
made_seen plan lines h = record {
  kinds = [];
  records = record {
    count = refl;
    seen_count = refl;
    records = λ n m at. absurd (none-some m at);
    numbered = λ n r at. absurd (none-some r at);
    nodes = λ m o r at there. absurd (none-some o at);
    named = λ m o r at there. absurd (none-some o at);
    callers = λ m x o at came. absurd (none-some o at);
    joined = λ a b j. absurd (none-some _ j.there);
    joined_once = λ a b c j k. absurd (none-some _ j.there);
    placed_once = λ a b c j k. absurd (none-some _ j.there);
  };
  pairs = record {
    count = refl;
    seen_count = refl;
    pairs = λ q p at. absurd (none-some p at);
    came = λ p pair at. absurd (none-some pair at);
  };
  lines = count_same lines;
  sides = free_sides plan lines h;
}
