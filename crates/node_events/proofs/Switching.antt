-- What happens at a switch: its frames go onto its lines, one line after the other.
use Rattle.std.proofs.Common.{◌≡◌, ◌≢◌, ℕ, ◌<◌, zero, suc, Bool, true, false, List, [], ◌∷◌, ◌++◌, length, map, set, Some, refl, sym, ap, ◌∙◌, subst, arith, inl, inr, append_assoc}
use Rattle.std.specs.Prelude.{◌⊎◌, slice_get, Option, unwrap_or}
use Rattle.std.proofs.lemmas.List.{append-nil}
use Rattle.std.proofs.lemmas.Option.{same_Some}
use Rattle.std.proofs.lemmas.Bool.{cases_eq}
use Rattle.lapb.specs.Machine.{Octets}
use Rattle.link_timers.specs.declared.timers.TimerId.{TimerId}
use Rattle.record_laws.proofs.Books.Basics.{set_here, set_elsewhere, length_set}
use Rattle.link_timers.specs.declared.role.Role.{Role}
use Rattle.link_timers.specs.declared.role.Role.TheVariants.{Dce}
use Rattle.frame_lines.specs.declared.line.Direction.{Direction}
use Rattle.frame_lines.specs.Lines.{Flights, LineService, ArePut, flying, without_first}
use Rattle.switch_lines.specs.Lines.{SwitchLine, changed, role_on}
use Rattle.switch_lines.specs.Switch.{Switch, frames_on}
use Rattle.net_events.specs.OneLine.{direction_of, direction_to}
use Rattle.net_events.specs.AtSwitch.{SwitchEvent, Hears, Expires, Relinks, Restarts, switched, waiting_on, line_drained, LeftOn, OwnLineServed, LinesServed}
use Rattle.net_events.specs.Network.{PlacedSwitch, NetLine, own_role}
use Rattle.net_events.specs.declared.answer.Put.{Put}
use Rattle.node_events.specs.Switching.{puts_on, all_puts, cleared, LinePut, LinesPut}
use Rattle.node_events.proofs.RolesStay.{own_role_stays}

-- what is there is written there again
pub set_there : {X : Type 0} (xs : List X) (n : ℕ) (x : X) → slice_get xs n ≡ Some x → set xs n x ≡ xs
set_there [] n x e = refl
set_there (y ∷ xs) zero x e = ap (λ z. z ∷ xs) (sym (same_Some y x e))
set_there (y ∷ xs) (suc n) x e = ap (λ zs. y ∷ zs) (set_there xs n x e)

-- ---- the first own lines are drained

abbrev pub drained_to : ℕ → List SwitchLine → List SwitchLine
drained_to zero ls = ls
drained_to (suc n) [] = []
drained_to (suc n) (l ∷ ls) = line_drained l ∷ drained_to n ls

pub drained_more : (n : ℕ) (ls : List SwitchLine) → changed n line_drained (drained_to n ls) ≡ drained_to (suc n) ls
drained_more zero [] = refl
drained_more zero (l ∷ ls) = refl
drained_more (suc n) [] = refl
drained_more (suc n) (l ∷ ls) = ap (λ ks. line_drained l ∷ ks) (drained_more n ls)

pub waits_still : (n : ℕ) (ls : List SwitchLine) → slice_get (drained_to n ls) n ≡ slice_get ls n
waits_still zero ls = refl
waits_still (suc n) [] = refl
waits_still (suc n) (l ∷ ls) = waits_still n ls

pub drained_all : (n : ℕ) (ls : List SwitchLine) → n ≡ length ls → drained_to n ls ≡ map line_drained ls
drained_all zero [] h = refl
drained_all zero (l ∷ ls) h = absurd (omega (arith, h))
drained_all (suc n) [] h = absurd (omega (arith, h))
drained_all (suc n) (l ∷ ls) h = ap (λ ks. line_drained l ∷ ks) (drained_all n ls (omega (arith, h)))

pub length_drained : (n : ℕ) (ls : List SwitchLine) → length (drained_to n ls) ≡ length ls
length_drained zero ls = refl
length_drained (suc n) [] = refl
length_drained (suc n) (l ∷ ls) = ap suc (length_drained n ls)

-- ---- the frames of the first own lines are listed

-- the role of the switch there, and the direction in which it sends
abbrev pub role_there : Option SwitchLine → Role
role_there o = unwrap_or (role_on o) Dce

abbrev pub sent_to : Option SwitchLine → Direction
sent_to o = direction_of (role_there o)

abbrev pub puts_to : ℕ → List ℕ → List SwitchLine → List Put
puts_to zero own ls = []
puts_to (suc n) [] ls = []
puts_to (suc n) (line ∷ own) [] = []
puts_to (suc n) (line ∷ own) (l ∷ ls) = puts_on line (direction_of l.end.layer.role) l.end.line.frames ++ puts_to n own ls

pub puts_more : (n line : ℕ) (own : List ℕ) (ls : List SwitchLine) → slice_get own n ≡ Some line → n < length ls
    → puts_to (suc n) own ls ≡ puts_to n own ls ++ puts_on line (sent_to (slice_get ls n)) (frames_on (slice_get ls n))
puts_more n line [] ls at h = absurd (cc)
puts_more n line (k ∷ own) [] at h = absurd (omega (arith, h))
puts_more zero line (k ∷ own) (l ∷ ls) at h = append-nil (puts_on k (direction_of l.end.layer.role) l.end.line.frames) ∙ ap (λ x. puts_on x (direction_of l.end.layer.role) l.end.line.frames) (same_Some k line at)
puts_more (suc n) line (k ∷ own) (l ∷ ls) at h =
    ap (λ ps. puts_on k (direction_of l.end.layer.role) l.end.line.frames ++ ps) (puts_more n line own ls at (omega (arith, h)))
    ∙ sym (append_assoc (puts_on k (direction_of l.end.layer.role) l.end.line.frames) (puts_to n own ls) (puts_on line (sent_to (slice_get ls n)) (frames_on (slice_get ls n))))

pub puts_all : (n : ℕ) (own : List ℕ) (ls : List SwitchLine) → n ≡ length own → puts_to n own ls ≡ all_puts own ls
puts_all zero [] ls h = refl
puts_all zero (k ∷ own) ls h = absurd (omega (arith, h))
puts_all (suc n) [] ls h = absurd (omega (arith, h))
puts_all (suc n) (k ∷ own) [] h = refl
puts_all (suc n) (k ∷ own) (l ∷ ls) h = ap (λ ps. puts_on k (direction_of l.end.layer.role) l.end.line.frames ++ ps) (puts_all n own ls (omega (arith, h)))

-- ---- they go onto the lines

abbrev pub AreApart : List ℕ → Type 0
AreApart own = (at other line : ℕ) → slice_get own at ≡ Some line → slice_get own other ≡ Some line → at ≡ other

-- the same frames are put by the end of the same role
pub put_again : (L : LineService) (r q : Role) (fs gs : List Octets) (between flights : Flights) → r ≡ q → fs ≡ gs → ArePut L (direction_of r) fs between flights
    → ArePut L (direction_of q) gs between flights
put_again L r q fs gs between flights role same put = subst (λ r. ArePut L (direction_of r) gs between flights) role (subst (λ fs. ArePut L (direction_of r) fs between flights) same put)

-- those of the first own lines went, and nothing else
pub record PutTo (L : LineService) (anew : Bool) (own : List ℕ) (s : Switch) (count_to : ℕ) (before after : List NetLine) : Type 0 where
  pub count : length after ≡ length before
  pub own_lines : (at line : ℕ) → at < count_to → slice_get own at ≡ Some line → LinePut L anew line (own_role s at) (waiting_on at s) before after
  pub others : (line : ℕ) → ((at : ℕ) → at < count_to → slice_get own at ≡ Some line → ⊥) → slice_get after line ≡ slice_get before line

pub put_none : (L : LineService) (anew : Bool) (own : List ℕ) (s : Switch) (lines : List NetLine) → PutTo L anew own s 0 lines lines
put_none L anew own s lines = record {
  count = refl;
  own_lines = λ at line h there. absurd (omega (arith, h));
  others = λ line none. refl;
}

pub put_one : (L : LineService) (anew : Bool) (own : List ℕ) (s : Switch) (at line : ℕ) (before mid after : List NetLine) (l : NetLine) (between flights : Flights)
    → AreApart own → PutTo L anew own s at before mid → slice_get own at ≡ Some line → slice_get mid line ≡ Some l
    → (L.faithful → between ≡ cleared anew l.flights) → (L.faithful → ArePut L (direction_of (own_role s at)) (waiting_on at s) between flights)
    → after ≡ set mid line (record l { flights = flights }) → PutTo L anew own s (suc at) before after
put_one L anew own s at line before mid after l between flights apart old here there left put is = record {
  count = ap length is ∙ length_set mid line (record l { flights = flights }) ∙ old.count;
  own_lines = λ k m h own_there. by k m h own_there (cases_eq k at);
  others = λ m none. elsewhere m (λ e. none at (omega arith) (here ∙ ap Some (sym e))) ∙ old.others m (λ k h own_there. none k (omega (arith, h)) own_there);
}
  where
    elsewhere : (m : ℕ) → m ≢ line → slice_get after m ≡ slice_get mid m
    elsewhere m other = ap (λ xs. slice_get xs m) is ∙ set_elsewhere mid line m (record l { flights = flights }) other

    by : (k m : ℕ) → k < suc at → slice_get own k ≡ Some m → (k ≡ at) ⊎ (k ≢ at) → LinePut L anew m (own_role s k) (waiting_on k s) before after
    by k m h own_there (inl e) =
        let same : m ≡ line = same_Some m line (sym own_there ∙ ap (λ i. slice_get own i) e ∙ here) in
        let P : ℕ → ℕ → Type 0 = λ x y. LinePut L anew x (own_role s y) (waiting_on y s) before after in
        let Q : ℕ → Type 0 = λ x. P x k in
        let R : ℕ → Type 0 = λ y. P line y in
        subst Q (sym same) (subst R (sym e) (record {
          line_is = l;
          line_there = sym (old.others line (λ i less i_there. absurd (let again = apart i at line i_there here in omega (arith, less, again)))) ∙ there;
          between = between;
          left = left;
          flights = flights;
          put = put;
          after_there = ap (λ xs. slice_get xs line) is ∙ set_here mid line (record l { flights = flights }) l there;
        }))
    by k m h own_there (inr other) =
        let w = old.own_lines k m (omega (arith, h, other)) own_there in
        record {
          line_is = w.line_is;
          line_there = w.line_there;
          between = w.between;
          left = w.left;
          flights = w.flights;
          put = w.put;
          after_there = elsewhere m (λ e. other (apart k at line (own_there ∙ ap Some e) here)) ∙ w.after_there;
        }

pub put_next : (L : LineService) (anew : Bool) (own : List ℕ) (s : Switch) (at next line : ℕ) (before mid after : List NetLine) (l : NetLine) (between flights : Flights)
    → AreApart own → PutTo L anew own s at before mid → slice_get own at ≡ Some line → slice_get mid line ≡ Some l
    → (L.faithful → between ≡ cleared anew l.flights) → (L.faithful → ArePut L (direction_of (own_role s at)) (waiting_on at s) between flights)
    → after ≡ set mid line (record l { flights = flights }) → suc at ≡ next → PutTo L anew own s next before after
put_next L anew own s at next line before mid after l between flights apart old here there left put is more =
    subst (λ m. PutTo L anew own s m before after) more (put_one L anew own s at line before mid after l between flights apart old here there left put is)

pub put_all : (L : LineService) (anew : Bool) (own : List ℕ) (s : Switch) (n : ℕ) (before after : List NetLine) → n ≡ length own → PutTo L anew own s n before after
    → LinesPut L anew own s before after
put_all L anew own s n before after all w = record {
  count = w.count;
  own_lines = λ at line there. w.own_lines at line (let h = within own at line there in omega (arith, h, all)) there;
  others = λ line none. w.others line (λ at h there. none at there);
}
  where
    within : (xs : List ℕ) (i x : ℕ) → slice_get xs i ≡ Some x → i < length xs
    within [] i x e = absurd (cc)
    within (y ∷ xs) zero x e = omega arith
    within (y ∷ xs) (suc i) x e = let h = within xs i x e in omega (arith, h)

-- ---- what an event is to the lines

-- the frames were put by the end of the role that the switch had before
put_as : (L : LineService) (event : SwitchEvent) (n : PlacedSwitch) (k : ℕ) (frames : List Octets) (between flights : Flights)
    → ArePut L (direction_of (own_role (switched event n.switch) k)) frames between flights → ArePut L (direction_of (own_role n.switch k)) frames between flights
put_as L event n k frames between flights put = subst (λ r. ArePut L (direction_of r) frames between flights) (own_role_stays event n.switch k) put

-- a frame arrives: it was taken from its line before
pub heard_lines : (L : LineService) (own line : ℕ) (octets : Octets) (n : PlacedSwitch) (l : NetLine) (f : Flights) (before mid after : List NetLine)
    → AreApart n.lines → slice_get n.lines own ≡ Some line → slice_get before line ≡ Some l → mid ≡ set before line (record l { flights = f })
    → (L.faithful → (slice_get (flying (direction_to (own_role n.switch own)) l.flights) 0 ≡ Some octets) × (f ≡ without_first (direction_to (own_role n.switch own)) l.flights))
    → LinesPut L false n.lines (switched (Hears own octets) n.switch) mid after → LinesServed L (Hears own octets) n before after
heard_lines L own line octets n l f before mid after apart here there is taken w = record {
  count = w.count ∙ ap length is ∙ length_set before line (record l { flights = f });
  own_lines = λ k m own_there. by k m own_there (w.own_lines k m own_there) (cases_eq k own);
  others = λ m none. w.others m none ∙ elsewhere m (λ e. none own (here ∙ ap Some (sym e)));
}
  where
    t : Switch
    t = switched (Hears own octets) n.switch

    elsewhere : (m : ℕ) → m ≢ line → slice_get mid m ≡ slice_get before m
    elsewhere m other = ap (λ xs. slice_get xs m) is ∙ set_elsewhere before line m (record l { flights = f }) other

    WasTaken : Role → Type 0
    WasTaken role = (slice_get (flying (direction_to role) l.flights) 0 ≡ Some octets) × (f ≡ without_first (direction_to role) l.flights)

    by : (k m : ℕ) → slice_get n.lines k ≡ Some m → LinePut L false m (own_role t k) (waiting_on k t) mid after → (k ≡ own) ⊎ (k ≢ own)
        → OwnLineServed L (Hears own octets) k m (own_role n.switch k) (waiting_on k t) before after
    by k m own_there p (inl e) =
        let same : m ≡ line = same_Some m line (sym own_there ∙ ap (λ i. slice_get n.lines i) e ∙ here) in
        let is_line : p.line_is ≡ record l { flights = f }
        = same_Some p.line_is (record l { flights = f }) (sym p.line_there ∙ ap (λ xs. slice_get xs m) is ∙ ap (λ x. slice_get (set before line (record l { flights = f })) x) same ∙ set_here before line (record l { flights = f }) l there) in
        record {
          line_is = l;
          line_there = ap (λ x. slice_get before x) same ∙ there;
          between = p.between;
          left = λ faithful.
              let was : WasTaken (own_role n.switch k) = subst (λ (i : ℕ). WasTaken (own_role n.switch i)) (sym e) (taken faithful) in
              (λ own_is. (was.0, p.left faithful ∙ ap (λ (x : NetLine). x.flights) is_line ∙ was.1), λ other. absurd (other e));
          flights = p.flights;
          put = λ faithful. put_as L (Hears own octets) n k (waiting_on k t) p.between p.flights (p.put faithful);
          after_there = p.after_there ∙ ap (λ (x : NetLine). Some (record x { flights = p.flights })) is_line;
        }
    by k m own_there p (inr other) = record {
      line_is = p.line_is;
      line_there = sym (elsewhere m (λ e. other (apart k own line (own_there ∙ ap Some e) here))) ∙ p.line_there;
      between = p.between;
      left = λ faithful. (λ own_is. absurd (other own_is), λ is_other. p.left faithful);
      flights = p.flights;
      put = λ faithful. put_as L (Hears own octets) n k (waiting_on k t) p.between p.flights (p.put faithful);
      after_there = p.after_there;
    }

-- any other event takes nothing, or all
all_lines : (L : LineService) (event : SwitchEvent) (anew : Bool) (n : PlacedSwitch) (before after : List NetLine)
    → ((k : ℕ) (role : Role) (f between : Flights) → between ≡ cleared anew f → LeftOn event k role f between)
    → LinesPut L anew n.lines (switched event n.switch) before after → LinesServed L event n before after
all_lines L event anew n before after leaves w = record {
  count = w.count;
  own_lines = λ k m there. let p = w.own_lines k m there in record {
    line_is = p.line_is;
    line_there = p.line_there;
    between = p.between;
    left = λ faithful. leaves k (own_role n.switch k) p.line_is.flights p.between (p.left faithful);
    flights = p.flights;
    put = λ faithful. put_as L event n k (waiting_on k (switched event n.switch)) p.between p.flights (p.put faithful);
    after_there = p.after_there;
  };
  others = w.others;
}

pub expired_lines : (L : LineService) (own : ℕ) (id : TimerId) (n : PlacedSwitch) (before after : List NetLine)
    → LinesPut L false n.lines (switched (Expires own id) n.switch) before after → LinesServed L (Expires own id) n before after
expired_lines L own id n before after w = all_lines L (Expires own id) false n before after (λ k role f between e. e) w

pub relinked_lines : (L : LineService) (own : ℕ) (n : PlacedSwitch) (before after : List NetLine)
    → LinesPut L false n.lines (switched (Relinks own) n.switch) before after → LinesServed L (Relinks own) n before after
relinked_lines L own n before after w = all_lines L (Relinks own) false n before after (λ k role f between e. e) w

pub restarted_lines : (L : LineService) (n : PlacedSwitch) (before after : List NetLine)
    → LinesPut L true n.lines (switched Restarts n.switch) before after → LinesServed L Restarts n before after
restarted_lines L n before after w = all_lines L Restarts true n before after (λ k role f between e. e) w
