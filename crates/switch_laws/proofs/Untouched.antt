-- An event on one line of a switch leaves each join of two other lines untouched, or too much was owed on one of them.
use Rattle.std.proofs.Common.{◌≡◌, ℕ, zero, suc, ◌*◌, ◌⊎◌, inl, inr, Bool, true, false, if◌then◌else◌, List, [], ◌∷◌, length, Option, Some, None, refl, sym, ap, subst, ◌∙◌, option_map}
use Rattle.std.specs.Prelude.{slice_get}
use Rattle.link_timers.specs.declared.timers.TimerId.{TimerId}
use Rattle.lapb.specs.Machine.{Link}
use Rattle.packet_layer.specs.Layer.{Layer}
use Rattle.packet_end.specs.PacketEnd.{PacketEnd, begun, relinked, settled}
use Rattle.address_routes.specs.Routes.{RouteMap}
use Rattle.switch_joins.specs.declared.channels.SwitchChannel.{SwitchChannel}
use Rattle.switch_joins.specs.Joins.{Joined}
use Rattle.switch_lines.specs.Lines.{SwitchLine, changed, joined_at}
use Rattle.switch_lines.specs.Switch.{Switch, with_end, without_notes, notes_of, quieted, acted, all_begun, to_relink, relinked_at, all_relinked, relinks_of, lines_first, rounds, finished, timer_runs, on_expiry}
use Rattle.switch_laws.specs.World.{World, layers_of, shown_at}
use Rattle.switch_laws.specs.Joined.{IsSwitch, Becomes}
use Rattle.switch_laws.specs.Steps.{Happening, does, acts_of_all}
use Rattle.switch_laws.specs.Steps.Happening.{Brings, RunsOut, Relinks}
use Rattle.switch_laws.specs.EventSteps.{acted_steps}
use Rattle.switch_laws.specs.Stays.{IsNone, relinked_in}
use Rattle.switch_laws.specs.Concern.{is_one_of, lines_of_event}
use Rattle.switch_laws.specs.Events.{SwitchHolds}
use Rattle.switch_laws.specs.Isolated.{IsUntouched, WasTooMuch, LeavesOthers, IsolationLaw}
use Rattle.switch_laws.proofs.Lists.{get_map}
use Rattle.switch_laws.proofs.JoinsOfOtherLines.{IsOther, acted_beside}
use Rattle.switch_laws.proofs.Turning.{relinked_effect, acted_right}
use Rattle.switch_laws.proofs.JoinsAtEventEnd.{layers_on_ends, joined_on_ends}
use Rattle.switch_laws.proofs.Finishing.{begun_right, happens, none_relinks, relinks_leave}
use Rattle.switch_laws.proofs.Offered.{heed_all_lines}
use Rattle.switch_laws.proofs.Concerning.{relinks_beside, none_of, before_right}
use Rattle.switch_laws.proofs.Owing.{acted_mild, acts_phase, phase_of, event_came}
use Rattle.switch_laws.proofs.Isolating.{SameLine, still_mute, links_of, same_links, Waits, IsLeft, rounds_left, all_mute}
use Rattle.switch_joins.proofs.Apart.{decided}
use Rattle.switch_lines.proofs.Places.{get_unchanged}

-- ---- the link and the phase of another line, up to the relays

record SameEnd (ls ms : List SwitchLine) (m : ℕ) : Type 0 where
  link : slice_get (links_of ms) m ≡ slice_get (links_of ls) m
  phase : phase_of (slice_get (layers_of ms) m) ≡ phase_of (slice_get (layers_of ls) m)

end_then : (ls ms ks : List SwitchLine) (m : ℕ) → SameEnd ls ms m → SameEnd ms ks m → SameEnd ls ks m
end_then ls ms ks m a b = record { link = b.link ∙ a.link; phase = b.phase ∙ a.phase }

changed_link : (n m : ℕ) (g : SwitchLine → SwitchLine) (ls : List SwitchLine) → (m ≡ n → ⊥) → slice_get (links_of (changed n g ls)) m ≡ slice_get (links_of ls) m
changed_link n m g ls ne =
    get_map (λ l. l.end.line.link) (changed n g ls) m
    ∙ (ap (λ (o : Option SwitchLine). option_map (λ l. l.end.line.link) o) (get_unchanged n m g ls ne) ∙ sym (get_map (λ l. l.end.line.link) ls m))

acted_link : (routes : RouteMap) (n m : ℕ) (f : PacketEnd → PacketEnd) (ls : List SwitchLine) → (m ≡ n → ⊥) → slice_get (links_of (acted routes n f ls)) m ≡ slice_get (links_of ls) m
acted_link routes n m f ls ne =
    let l1 = changed n (with_end (λ e. f (quieted e))) ls in
    let l2 = changed n (with_end without_notes) l1 in
    ap (λ (xs : List Link). slice_get xs m) (same_links l2 (acted routes n f ls) (heed_all_lines routes n (notes_of (slice_get l1 n)) l2))
    ∙ (changed_link n m (with_end without_notes) l1 ne ∙ changed_link n m (with_end (λ e. f (quieted e))) ls ne)

begun_links : (ls : List SwitchLine) → links_of (all_begun ls) ≡ links_of ls
begun_links [] = refl
begun_links (l ∷ ls) = ap (λ (xs : List Link). l.end.line.link ∷ xs) (begun_links ls)

abbrev Acted : ℕ → Happening → Switch → List SwitchLine
Acted n what s = acted s.routes n (does what) (all_begun s.lines)

abbrev ActsOn : ℕ → Happening → Switch → World → Type 0
ActsOn n what s w = Becomes (acts_of_all (acted_steps s.routes n what (all_begun s.lines)) (all_begun s.lines)) s.lines w (Acted n what s)

acted_end : (n m : ℕ) (what : Happening) (s : Switch) (w : World) → ActsOn n what s w → (m ≡ n → ⊥) → SameEnd s.lines (Acted n what s) m
acted_end n m what s w b ne = record {
  link = acted_link s.routes n m (does what) (all_begun s.lines) ne ∙ ap (λ (xs : List Link). slice_get xs m) (begun_links s.lines);
  phase = ap (λ (ys : List Layer). phase_of (slice_get ys m)) b.reached.layers
      ∙ acts_phase m (acts_of_all (acted_steps s.routes n what (all_begun s.lines)) (all_begun s.lines)) (layers_of s.lines) (acted_mild s.routes n m what (all_begun s.lines) ne);
}

relinks_end : (most : ℕ) (o : Option ℕ) (routes : RouteMap) (ls : List SwitchLine) (w : World) (m : ℕ) → to_relink ls ≡ o → IsSwitch ls w → IsNone m (relinks_of most o routes ls)
    → SameEnd ls (all_relinked most routes ls) m
relinks_end zero o routes ls w m t i none = record { link = refl; phase = refl }
relinks_end (suc most) None routes ls w m t i none =
    subst (λ (ms : List SwitchLine). SameEnd ls ms m) (sym (none_relinks (suc most) routes ls t)) (record { link = refl; phase = refl })
relinks_end (suc most) (Some k) routes ls w m t i none =
    let ms = acted routes k relinked ls in
    let c = acted_right routes k Relinks ls w i (λ line g. relinked_effect k line.end) in
    let one : SameEnd ls ms m = record {
      link = acted_link routes k m relinked ls none.0;
      phase = ap (λ (ys : List Layer). phase_of (slice_get ys m)) c.reached.layers
          ∙ acts_phase m (acts_of_all (acted_steps routes k Relinks ls) ls) (layers_of ls) (acted_mild routes k m Relinks ls none.0);
    } in
    subst (λ (x : Option ℕ). SameEnd ls (all_relinked most routes (relinked_at x routes ls)) m) (sym t)
    (end_then ls ms (all_relinked most routes ms) m one (relinks_end most (to_relink ms) routes ms c.world m refl c.right none.1))

-- ---- a join of two lines on which nothing happened, up to the relays

record ComesTo (ls ms : List SwitchLine) (p : SwitchChannel) (j : Joined) : Type 0 where
  joined : joined_at ms p ≡ Some j
  line : SameLine ls ms p

comes_to : (n : ℕ) (what : Happening) (s : Switch) (w : World) (b : ActsOn n what s w) → IsSwitch s.lines w → (p : SwitchChannel) (j : Joined) → joined_at s.lines p ≡ Some j
    → IsNone p.line (lines_of_event n (does what) s) → IsNone j.other.line (lines_of_event n (does what) s)
    → ComesTo s.lines (all_relinked (length (Acted n what s)) s.routes (Acted n what s)) p j
comes_to n what s w b i p j e here there =
    let bs = all_begun s.lines in
    let ms = Acted n what s in
    let rs = all_relinked (length ms) s.routes ms in
    let k = begun_right s.lines w i in
    let other : IsOther n bs p j = record { joined = joined_on_ends begun s.lines p.line p.channel ∙ e; here = here.0; there = there.0 } in
    let beside = acted_beside s.routes n (does what) bs k.world k.right in
    let first = acted_end n p.line what s w b here.0 in
    let second = relinks_end (length ms) (to_relink ms) s.routes ms b.world p.line refl b.right here.1 in
    let both = end_then s.lines ms rs p.line first second in
    record {
      joined = relinks_leave (length ms) (to_relink ms) s.routes ms b.world refl b.right p j (beside.stays p j other) here.1 there.1;
      line = record {
        link = both.link;
        phase = both.phase;
        shown = relinks_beside (length ms) (to_relink ms) s.routes ms b.world refl b.right p j (beside.stays p j other) here.1 there.1
            ∙ (beside.shown p j other ∙ ap (λ (ys : List Layer). shown_at ys p) (layers_on_ends begun s.lines (λ x. refl)));
      };
    }

-- ---- and over the rest of the event

untouched : (n : ℕ) (what : Happening) (s : Switch) (w : World) (b : ActsOn n what s w) → SwitchHolds s w → (p : SwitchChannel) (j : Joined) → joined_at s.lines p ≡ Some j
    → IsNone p.line (lines_of_event n (does what) s) → IsNone j.other.line (lines_of_event n (does what) s) → IsUntouched p j s.lines (finished s.routes n (Acted n what s))
untouched n what s w b h p j e here there =
    let ls = s.lines in
    let ms = Acted n what s in
    let rs = all_relinked (length ms) s.routes ms in
    let first = lines_first n s.routes ms in
    let ks = rounds (7 * length rs) first rs in
    let pair = h.joins.joined p j e in
    let k = pair.other in
    let to_p : IsNone k.other.line (lines_of_event n (does what) s) = subst (λ (q : SwitchChannel). IsNone q.line (lines_of_event n (does what) s)) (sym pair.back) here in
    let a = comes_to n what s w b h.joins p j e here there in
    let c = comes_to n what s w b h.joins j.other k pair.joined there to_p in
    let r = before_right n (does what) s b.world b.right in
    let waits : Waits ls p j k = record {
      here = e;
      there = pair.joined;
      back = pair.back;
      p_there = pair.there;
      q_there = (h.joins.joined j.other k pair.joined).there;
      stuck_here = λ i t g f. h.relayed p i t g f;
      stuck_there = λ i t g f. h.relayed j.other i t g f;
    } in
    let left : IsLeft ls p j k rs = record {
      here = a.joined;
      there = c.joined;
      shown_here = a.line.shown;
      shown_there = c.line.shown;
      mute_here = still_mute ls rs p a.line (all_mute ls p h.offered h.no_relink);
      mute_there = still_mute ls rs j.other c.line (all_mute ls j.other h.offered h.no_relink);
    } in
    let x = rounds_left (7 * length rs) first ls rs r.world p j k waits r.right left in
    record {
      joined = joined_on_ends settled ks p.line p.channel ∙ x.here;
      here = ap (λ (ys : List Layer). shown_at ys p) (layers_on_ends settled ks (λ y. refl)) ∙ x.shown_here;
      there = ap (λ (ys : List Layer). shown_at ys j.other) (layers_on_ends settled ks (λ y. refl)) ∙ x.shown_there;
    }

leaves : (n : ℕ) (what : Happening) (s : Switch) (w : World) → SwitchHolds s w
    → LeavesOthers n what s (record { routes = s.routes; lines = finished s.routes n (Acted n what s) })
leaves n what s w h p j e here there = by_lines (decided (is_one_of set_up p.line)) (decided (is_one_of set_up j.other.line))
  where
    b : ActsOn n what s w
    b = happens n what s.routes s.lines w h.joins

    set_up : List ℕ
    set_up = relinked_in n (does what) s

    too_much : (m : ℕ) → (m ≡ n → ⊥) → is_one_of set_up m ≡ true → WasTooMuch n what s m
    too_much m ne t = record { set_up_anew = t; fifth = event_came n m what s w ne h.no_relink b t }

    by_lines : (is_one_of set_up p.line ≡ true) ⊎ (is_one_of set_up p.line ≡ false) → (is_one_of set_up j.other.line ≡ true) ⊎ (is_one_of set_up j.other.line ≡ false)
        → IsUntouched p j s.lines (finished s.routes n (Acted n what s)) ⊎ (WasTooMuch n what s p.line ⊎ WasTooMuch n what s j.other.line)
    by_lines (inl t) other = inr (inl (too_much p.line here t))
    by_lines (inr f) (inl t) = inr (inr (too_much j.other.line there t))
    by_lines (inr f) (inr g) = inl (untouched n what s w b h p j e (here, none_of set_up p.line f) (there, none_of set_up j.other.line g))

-- ---- an expiry, whether the timer runs or not

expiry_leaves : (n : ℕ) (id : TimerId) (s : Switch) (w : World) → SwitchHolds s w → (runs : Bool) → LeavesOthers n (RunsOut id) s (if runs then on_expiry n id s else s)
expiry_leaves n id s w h true = leaves n (RunsOut id) s w h
expiry_leaves n id s w h false = λ p j e here there. inl (record { joined = e; here = refl; there = refl })

pub others_are_left : IsolationLaw
others_are_left = record {
  frame = λ n octets s w h. leaves n (Brings octets) s w h;
  timer = λ n id s w h. expiry_leaves n id s w h (timer_runs (slice_get s.lines n) id);
  relinks = λ n s w h. leaves n Relinks s w h;
}
