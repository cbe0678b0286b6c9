-- Lines in the pool that they share: what one of them, by its place, is to all.
use Rattle.std.proofs.Common.{◌≡◌, ℕ, zero, suc, ◌+◌, ◌<◌, ◌≤◌, Bool, true, false, if◌then◌else◌, ◌||◌, ◌==◌, List, [], ◌∷◌, ◌++◌, map, length, set, get_or, refl, sym, ap, ap₂, subst, ◌∙◌, arith}
use Rattle.std.specs.Prelude.{Some, slice_get, ◌&&◌}
use Rattle.std.specs.List.{list_all}
use Rattle.std.proofs.lemmas.Option.{same_Some, none-some}
use Rattle.std.proofs.lemmas.List.{length-map, map-set}
use Rattle.flow_window.specs.Pool.{Pool, Buffer, IsIn, weight, pooled, in_use, Balances}
use Rattle.flow_window.proofs.Weights.{weight_append, weight_ones, held_in, balances_same}
use Rattle.frame_codec.specs.Spelling.{most_information}
use Rattle.data_transfer.specs.Held.{Loses}
use Rattle.number_set.specs.declared.NumberSet.{NumberSet}
use Rattle.number_set.specs.NumberSet.{has, IsFirstOf}
use Rattle.packet_layer.specs.LayerTimers.{TimersAgree}
use Rattle.packet_end.specs.Pooled.{Serves}
use Rattle.joined_line.proofs.Sharing.{count}
use Rattle.switch_lines.specs.Lines.{SwitchLine, changed}
use Rattle.switch_lines.specs.Pooled.{Claim, PooledLine, plain, buffers, shares, KeepWithin, ArePooled, on_line}
use Rattle.switch_lines.specs.Touched.{AreThere, NothingElseIsLeft, IsSettled, IsTaken, changed_in}
use Rattle.switch_lines.proofs.Changing.{changed_lines, unchanged_lines, there}
use Rattle.switch_lines.proofs.Touched.{AgreeBut, there_written, timers_written}
use Rattle.switch_lines.proofs.Left.{line_touched, line_stays, joins_change, seen_at}

abbrev pub Pooled : Type 0
Pooled = List PooledLine

-- ---- as lines

pub plain_length : (ps : Pooled) → length (plain ps) ≡ length ps
plain_length ps = length-map ps (λ (p : PooledLine). p.line)

pub seen_within : (ps : Pooled) (ls : List SwitchLine) (n : ℕ) → plain ps ≡ ls → n < length ls → n < length ps
seen_within ps ls n seen within =
    let long = plain_length ps in
    let same = ap (λ (xs : List SwitchLine). length xs) seen in
    omega (arith, long, same, within)

pub plain_set : (ps : Pooled) (n : ℕ) (p : PooledLine) → plain (set ps n p) ≡ set (plain ps) n p.line
plain_set ps n p = map-set (λ (p : PooledLine). p.line) ps n p

plain_found : (ps : Pooled) (n : ℕ) (p d : PooledLine) → p ≡ get_or ps n d → p.line ≡ get_or (plain ps) n d.line
plain_found [] n p d is = ap (λ (p : PooledLine). p.line) is
plain_found (x ∷ xs) zero p d is = ap (λ (p : PooledLine). p.line) is
plain_found (x ∷ xs) (suc n) p d is = plain_found xs n p d is

pub plain_get : (ps : Pooled) (n : ℕ) (p : PooledLine) → p ≡ get_or ps n p → p.line ≡ get_or (plain ps) n p.line
plain_get ps n p is = plain_found ps n p p is

pub get_plain : (ps : Pooled) (n : ℕ) (d : PooledLine) → (get_or ps n d).line ≡ get_or (plain ps) n d.line
get_plain ps n d = plain_found ps n (get_or ps n d) d refl

pub got_again : (ps : Pooled) (n : ℕ) (d : PooledLine) → n < length ps → get_or ps n d ≡ get_or ps n (get_or ps n d)
got_again [] n d less = absurd (omega (arith, less))
got_again (x ∷ xs) zero d less = refl
got_again (x ∷ xs) (suc n) d less = rest xs n d (get_or xs n d) (omega (arith, less))
  where
    rest : (ys : Pooled) (m : ℕ) (a b : PooledLine) → m < length ys → get_or ys m a ≡ get_or ys m b
    rest [] m a b inside = absurd (omega (arith, inside))
    rest (y ∷ ys) zero a b inside = refl
    rest (y ∷ ys) (suc m) a b inside = rest ys m a b (omega (arith, inside))

pub within : (ps : Pooled) (ms : List SwitchLine) (n : ℕ) → plain ps ≡ ms → n < length ms → n < length ps
within ps ms n view less =
    let same = ap (λ (ls : List SwitchLine). length ls) view in
    let long = plain_length ps in
    omega (arith, same, long, less)

pub within_plain : (ps : Pooled) (n : ℕ) → n < length ps → n < length (plain ps)
within_plain ps n less = let long = plain_length ps in omega (arith, long, less)

pub one_changed : (f : SwitchLine → SwitchLine) (ps : Pooled) (ms : List SwitchLine) (n : ℕ) (old new : PooledLine) →
    plain ps ≡ ms → n < length ps → old ≡ get_or ps n old → new.line ≡ f old.line →
    plain (set ps n new) ≡ changed n f ms
one_changed f ps ms n old new view less is done =
    plain_set ps n new
    ∙ changed_lines f (plain ps) ms n old.line new.line view (within_plain ps n less) (plain_get ps n old is) done

pub none_changed : (f : SwitchLine → SwitchLine) (ps : Pooled) (ms : List SwitchLine) (n : ℕ) → plain ps ≡ ms →
    length ps ≤ n → ms ≡ changed n f ms
none_changed f ps ms n view beyond =
    unchanged_lines f (plain ps) ms n view (let long = plain_length ps in omega (arith, long, beyond))

pub one_seen : (ps : Pooled) (ms : List SwitchLine) (n : ℕ) (p : PooledLine) → plain ps ≡ ms → n < length ps →
    p ≡ get_or ps n p → Some p.line ≡ slice_get ms n
one_seen ps ms n p view less is =
    seen_at (plain ps) ms n p.line view (within_plain ps n less) (plain_get ps n p is)

-- ---- what is left to do

pub one_touched : (s t u : NumberSet) (ps : Pooled) (n : ℕ) (p : PooledLine) → n < length ps →
    ((m : ℕ) → has t m ≡ (has s m || m == n)) →
    NothingElseIsLeft s u (plain ps) → NothingElseIsLeft t u (plain (set ps n p))
one_touched s t u ps n p less touches h =
    subst (λ (ls : List SwitchLine). NothingElseIsLeft t u ls) (sym (plain_set ps n p))
    (line_touched s t u (plain ps) n p.line (within_plain ps n less) touches h)

pub one_stays : (s u : NumberSet) (ps : Pooled) (n : ℕ) (x y : PooledLine) → n < length ps → x ≡ get_or ps n x →
    (IsSettled x.line → IsSettled y.line) → (IsTaken x.line → IsTaken y.line) →
    NothingElseIsLeft s u (plain ps) → NothingElseIsLeft s u (plain (set ps n y))
one_stays s u ps n x y less is settles takes h =
    subst (λ (ls : List SwitchLine). NothingElseIsLeft s u ls) (sym (plain_set ps n y))
    (line_stays s u (plain ps) n x.line y.line (within_plain ps n less) (plain_get ps n x is) settles takes h)

pub joins_of_one : (s u : NumberSet) (ps : Pooled) (n : ℕ) (x y : PooledLine) → n < length ps → x ≡ get_or ps n x →
    y.line.end ≡ x.line.end → NothingElseIsLeft s u (plain ps) → NothingElseIsLeft s u (plain (set ps n y))
joins_of_one s u ps n x y less is same h =
    subst (λ (ls : List SwitchLine). NothingElseIsLeft s u ls) (sym (plain_set ps n y))
    (joins_change s u (plain ps) n x.line y.line (within_plain ps n less) (plain_get ps n x is) same h)

-- ---- buffers

buffers_set : (w : Buffer → ℕ) (ps : Pooled) (n : ℕ) (old new : PooledLine) → slice_get ps n ≡ Some old →
    weight w (buffers (set ps n new)) + weight w old.held ≡ weight w (buffers ps) + weight w new.held
buffers_set w [] n old new e = absurd (none-some old e)
buffers_set w (x ∷ xs) zero old new e =
    let same = ap (λ (p : PooledLine). weight w p.held) (same_Some x old e) in
    let before = weight_append w x.held (buffers xs) in
    let after = weight_append w new.held (buffers xs) in
    omega (arith, same, before, after)
buffers_set w (x ∷ xs) (suc n) old new e =
    let rest = buffers_set w xs n old new e in
    let before = weight_append w x.held (buffers xs) in
    let after = weight_append w x.held (buffers (set xs n new)) in
    omega (arith, rest, before, after)

buffers_there : (w : Buffer → ℕ) (ps : Pooled) (n : ℕ) (p : PooledLine) → slice_get ps n ≡ Some p →
    weight w p.held ≤ weight w (buffers ps)
buffers_there w [] n p e = absurd (none-some p e)
buffers_there w (x ∷ xs) zero p e =
    let same = ap (λ (p : PooledLine). weight w p.held) (same_Some x p e) in
    let all = weight_append w x.held (buffers xs) in
    omega (arith, same, all)
buffers_there w (x ∷ xs) (suc n) p e =
    let rest = buffers_there w xs n p e in
    let all = weight_append w x.held (buffers xs) in
    omega (arith, rest, all)

shares_set : (ps : Pooled) (n : ℕ) (old new : PooledLine) → slice_get ps n ≡ Some old → new.claim ≡ old.claim →
    shares (set ps n new) ≡ shares ps
shares_set [] n old new e same = refl
shares_set (x ∷ xs) zero old new e same =
    ap (λ k. k + shares xs) (ap (λ (c : Claim). c.share) same ∙ ap (λ (p : PooledLine). p.claim.share) (sym (same_Some x old e)))
shares_set (x ∷ xs) (suc n) old new e same = ap (λ k. x.claim.share + k) (shares_set xs n old new e same)

within_set : (size : ℕ) (ps : Pooled) (n : ℕ) (old new : PooledLine) → KeepWithin size ps → slice_get ps n ≡ Some old → new.claim ≡ old.claim → length new.held < new.claim.share →
    KeepWithin size (set ps n new)
within_set size [] n old new all e same fits = tt
within_set size (x ∷ xs) zero old new all e same fits =
    let info = ap (λ (c : Claim). c.info) same in
    let there_ = ap (λ (p : PooledLine). p.claim.info) (same_Some x old e) in
    (fits, omega (arith, info, there_, all.1), all.2)
within_set size (x ∷ xs) (suc n) old new all e same fits = (all.0, all.1, within_set size xs n old new all.2 e same fits)

few : (size : ℕ) (ps : Pooled) → KeepWithin size ps → length (buffers ps) ≤ shares ps
few size [] all = omega arith
few size (p ∷ ps) all =
    let rest = few size ps all.2 in
    let parts = count p.held (buffers ps) in
    omega (arith, rest, parts, all.0)

-- beside what the others hold there is room for the whole share
room_there : (size : ℕ) (ps : Pooled) (n : ℕ) (p : PooledLine) → KeepWithin size ps → slice_get ps n ≡ Some p →
    length (buffers ps) + p.claim.share ≤ shares ps + length p.held
room_there size [] n p all e = absurd (none-some p e)
room_there size (x ∷ xs) zero p all e =
    let held = ap (λ (p : PooledLine). length p.held) (same_Some x p e) in
    let share = ap (λ (p : PooledLine). p.claim.share) (same_Some x p e) in
    let rest = few size xs all.2 in
    let parts = count x.held (buffers xs) in
    omega (arith, held, share, rest, parts)
room_there size (x ∷ xs) (suc n) p all e =
    let rest = room_there size xs n p all.2 e in
    let parts = count x.held (buffers xs) in
    omega (arith, rest, parts, all.0)

-- lines that are there leave a buffer
pub room_left : (pool : Pool) (ps : Pooled) (n : ℕ) → ArePooled pool ps → n < length ps → in_use pool < length pool.places
room_left pool [] n are less = absurd (omega (arith, less))
room_left pool (p ∷ ps) n are less =
    let rest = few pool.size ps are.within.2 in
    let parts = count p.held (buffers ps) in
    let exact = are.exact (λ _. 1) in
    let ones = weight_ones (buffers (p ∷ ps)) in
    omega (arith, rest, parts, exact, ones, are.within.0, are.places)

pub info_there : (size : ℕ) (ps : Pooled) (n : ℕ) (p : PooledLine) → KeepWithin size ps → slice_get ps n ≡ Some p → p.claim.info ≤ size
info_there size [] n p all e = absurd (none-some p e)
info_there size (x ∷ xs) zero p all e = subst (λ (y : PooledLine). y.claim.info ≤ size) (same_Some x p e) all.1
info_there size (x ∷ xs) (suc n) p all e = info_there size xs n p all.2 e

pub serves : (pool : Pool) (ps : Pooled) (n : ℕ) (p : PooledLine) → ArePooled pool ps → slice_get ps n ≡ Some p →
    Serves pool p.held p.claim.share p.claim.info
serves pool ps n p are e = record {
  size_least = info_there pool.size ps n p are.within e;
  size_most = are.size;
  holds = λ w.
      let there = buffers_there w ps n p e in
      let exact = are.exact w in
      omega (arith, there, exact);
  room =
      let all = room_there pool.size ps n p are.within e in
      let exact = are.exact (λ _. 1) in
      let ones = weight_ones (buffers ps) in
      omega (arith, all, exact, ones, are.places);
}

pub serves_one : (pool : Pool) (ps : Pooled) (n : ℕ) (p : PooledLine) → ArePooled pool ps → n < length ps →
    p ≡ get_or ps n p → Serves pool p.held p.claim.share p.claim.info
serves_one pool ps n p are less is = serves pool ps n p are (there ps n p less is)

pub serves_got : (pool : Pool) (ps : Pooled) (n : ℕ) (d : PooledLine) → ArePooled pool ps → n < length ps →
    Serves pool (get_or ps n d).held (get_or ps n d).claim.share (get_or ps n d).claim.info
serves_got pool ps n d are less = serves_one pool ps n (get_or ps n d) are less (got_again ps n d less)

-- one line gave buffers back or took some
pub pooled_set : (before after : Pool) (ps : Pooled) (n : ℕ) (old new : PooledLine) → ArePooled before ps →
    n < length ps → old ≡ get_or ps n old → Balances before old.held after new.held → new.claim ≡ old.claim →
    length new.held < new.claim.share → ArePooled after (set ps n new)
pooled_set before after ps n old new are less is change same fits =
    let e = there ps n old less is in
    record {
      size = subst (λ k. k ≤ most_information) (sym change.size) are.size;
      places = change.places ∙ are.places ∙ sym (shares_set ps n old new e same);
      exact = λ w.
          let own = change.weights w in
          let all = buffers_set w ps n old new e in
          let exact = are.exact w in
          omega (arith, own, all, exact);
      within = subst (λ k. KeepWithin k (set ps n new)) (sym change.size) (within_set before.size ps n old new are.within e same fits);
    }

fits_there : (size : ℕ) (ps : Pooled) (n : ℕ) (p : PooledLine) → KeepWithin size ps → slice_get ps n ≡ Some p → length p.held < p.claim.share
fits_there size [] n p all e = absurd (none-some p e)
fits_there size (x ∷ xs) zero p all e = subst (λ (p : PooledLine). length p.held < p.claim.share) (same_Some x p e) all.0
fits_there size (x ∷ xs) (suc n) p all e = fits_there size xs n p all.2 e

pub fits_one : (pool : Pool) (ps : Pooled) (n : ℕ) (p : PooledLine) → ArePooled pool ps → n < length ps → p ≡ get_or ps n p → length p.held < p.claim.share
fits_one pool ps n p are less is = fits_there pool.size ps n p are.within (there ps n p less is)

-- one line holds what it held
pub pooled_same : (pool : Pool) (f : SwitchLine → SwitchLine) (ps : Pooled) (n : ℕ) (old new : PooledLine) →
    ArePooled pool ps → n < length ps → old ≡ get_or ps n old → new ≡ on_line f old → ArePooled pool (set ps n new)
pooled_same pool f ps n old new are less is same =
    let e = there ps n old less is in
    subst (λ (p : PooledLine). ArePooled pool (set ps n p)) (sym same)
    (pooled_set pool pool ps n old (on_line f old) are less is (balances_same pool old.held) refl
    (fits_there pool.size ps n old are.within e))

-- ---- many lines change, and hold what they held

abbrev pub one_if : Bool → (SwitchLine → SwitchLine) → PooledLine → PooledLine
one_if b f p = if b then on_line f p else p

held_if : (b : Bool) (f : SwitchLine → SwitchLine) (p : PooledLine) →
    ((one_if b f p).held ≡ p.held) × ((one_if b f p).claim ≡ p.claim) ×
    ((one_if b f p).line ≡ (if b then f p.line else p.line))
held_if true f p = (refl, refl, refl)
held_if false f p = (refl, refl, refl)

pub plain_changed : (s : NumberSet) (f : SwitchLine → SwitchLine) (k : ℕ) (ps : Pooled) →
    plain (changed_in s (on_line f) k ps) ≡ changed_in s f k (plain ps)
plain_changed s f k [] = refl
plain_changed s f k (p ∷ ps) = ap₂ (λ x xs. x ∷ xs) (held_if (has s k) f p).2 (plain_changed s f (suc k) ps)

buffers_changed : (s : NumberSet) (f : SwitchLine → SwitchLine) (k : ℕ) (ps : Pooled) →
    buffers (changed_in s (on_line f) k ps) ≡ buffers ps
buffers_changed s f k [] = refl
buffers_changed s f k (p ∷ ps) = ap₂ (λ bs cs. bs ++ cs) (held_if (has s k) f p).0 (buffers_changed s f (suc k) ps)

shares_changed : (s : NumberSet) (f : SwitchLine → SwitchLine) (k : ℕ) (ps : Pooled) →
    shares (changed_in s (on_line f) k ps) ≡ shares ps
shares_changed s f k [] = refl
shares_changed s f k (p ∷ ps) = ap₂ (λ (c : Claim) (n : ℕ). c.share + n) (held_if (has s k) f p).1 (shares_changed s f (suc k) ps)

within_changed : (size : ℕ) (s : NumberSet) (f : SwitchLine → SwitchLine) (k : ℕ) (ps : Pooled) → KeepWithin size ps →
    KeepWithin size (changed_in s (on_line f) k ps)
within_changed size s f k [] all = tt
within_changed size s f k (p ∷ ps) all =
    let same = held_if (has s k) f p in
    let held = ap (λ (bs : List Buffer). length bs) same.0 in
    let share = ap (λ (c : Claim). c.share) same.1 in
    let info = ap (λ (c : Claim). c.info) same.1 in
    (omega (arith, all.0, held, share), omega (arith, all.1, info), within_changed size s f (suc k) ps all.2)

pub pooled_changed : (pool : Pool) (s : NumberSet) (f : SwitchLine → SwitchLine) (ps qs : Pooled) →
    qs ≡ changed_in s (on_line f) 0 ps → ArePooled pool ps → ArePooled pool qs
pooled_changed pool s f ps qs is are = subst (λ (zs : Pooled). ArePooled pool zs) (sym is) (record {
  size = are.size;
  places = are.places ∙ sym (shares_changed s f 0 ps);
  exact = λ w. are.exact w ∙ ap (λ (bs : List Buffer). weight w bs) (sym (buffers_changed s f 0 ps));
  within = within_changed pool.size s f 0 ps are.within;
})

pub plain_map : (f : SwitchLine → SwitchLine) (ps : Pooled) → plain (map (on_line f) ps) ≡ map f (plain ps)
plain_map f [] = refl
plain_map f (p ∷ ps) = ap (λ xs. f p.line ∷ xs) (plain_map f ps)

buffers_map : (f : SwitchLine → SwitchLine) (ps : Pooled) → buffers (map (on_line f) ps) ≡ buffers ps
buffers_map f [] = refl
buffers_map f (p ∷ ps) = ap (λ bs. p.held ++ bs) (buffers_map f ps)

shares_map : (f : SwitchLine → SwitchLine) (ps : Pooled) → shares (map (on_line f) ps) ≡ shares ps
shares_map f [] = refl
shares_map f (p ∷ ps) = ap (λ n. p.claim.share + n) (shares_map f ps)

within_map : (size : ℕ) (f : SwitchLine → SwitchLine) (ps : Pooled) → KeepWithin size ps → KeepWithin size (map (on_line f) ps)
within_map size f [] all = tt
within_map size f (p ∷ ps) all = (all.0, all.1, within_map size f ps all.2)

pub pooled_map : (pool : Pool) (f : SwitchLine → SwitchLine) (ps qs : Pooled) → qs ≡ map (on_line f) ps →
    ArePooled pool ps → ArePooled pool qs
pooled_map pool f ps qs is are = subst (λ (zs : Pooled). ArePooled pool zs) (sym is) (record {
  size = are.size;
  places = are.places ∙ sym (shares_map f ps);
  exact = λ w. are.exact w ∙ ap (λ (bs : List Buffer). weight w bs) (sym (buffers_map f ps));
  within = within_map pool.size f ps are.within;
})

pub pool_kept : (before after : Pool) (ps : Pooled) → after ≡ before → ArePooled before ps → ArePooled after ps
pool_kept before after ps same are = subst (λ (pool : Pool). ArePooled pool ps) (sym same) are

-- ---- the first of some lines

pub here : (s rest : NumberSet) (line : ℕ) (ps : Pooled) → IsFirstOf s line rest → AreThere s (plain ps) →
    line < length ps
here s rest line ps first there_all =
    let long = plain_length ps in
    let inside = there_all line first.there in
    omega (arith, long, inside)

pub there_in : (s rest : NumberSet) (line : ℕ) (ps : Pooled) (new : PooledLine) → IsFirstOf s line rest →
    AreThere s (plain ps) → AreThere rest (plain (set ps line new))
there_in s rest line ps new first there_all =
    subst (λ (ls : List SwitchLine). AreThere rest ls) (sym (plain_set ps line new))
    (there_written s rest line (plain ps) new.line first there_all)

pub timers_in : (all s rest : NumberSet) (line : ℕ) (ps : Pooled) (new : PooledLine) → IsFirstOf s line rest →
    AgreeBut all s (plain ps) → TimersAgree new.line.end.layer new.line.end.timers →
    AgreeBut all rest (plain (set ps line new))
timers_in all s rest line ps new first before agrees =
    subst (λ (ls : List SwitchLine). AgreeBut all rest ls) (sym (plain_set ps line new))
    (timers_written all s rest line (plain ps) new.line first before agrees)

-- as many lines
pub same_lines : (ps qs : Pooled) → length (plain qs) ≡ length (plain ps) → length qs ≡ length ps
same_lines ps qs same = sym (plain_length qs) ∙ same ∙ plain_length ps

-- ---- a buffer moves from one line to another

-- buffers are in hand: a line handed them out, and no line holds them
pub record InHand (pool : Pool) (ps : Pooled) (given : List Buffer) : Type 0 where
  pub size : pool.size ≤ most_information
  pub places : length pool.places ≡ shares ps
  pub exact : (w : Buffer → ℕ) → pooled w pool ≡ weight w (buffers ps) + weight w given
  pub within : KeepWithin pool.size ps

pub handed_out : (pool : Pool) (ps : Pooled) (n : ℕ) (old new : PooledLine) (given : List Buffer) → ArePooled pool ps →
    n < length ps → old ≡ get_or ps n old → Loses old.held given new.held → new.claim ≡ old.claim →
    length new.held < new.claim.share → InHand pool (set ps n new) given
handed_out pool ps n old new given are less is change same fits =
    let e = there ps n old less is in
    record {
      size = are.size;
      places = are.places ∙ sym (shares_set ps n old new e same);
      exact = λ w.
          let own = change w in
          let all = buffers_set w ps n old new e in
          let exact = are.exact w in
          omega (arith, own, all, exact);
      within = within_set pool.size ps n old new are.within e same fits;
    }

pub none_in_hand : (pool : Pool) (ps : Pooled) → InHand pool ps [] → ArePooled pool ps
none_in_hand pool ps hand = record {
  size = hand.size;
  places = hand.places;
  exact = λ w. let exact = hand.exact w in omega (arith, exact);
  within = hand.within;
}

pub is_in_hand : (pool : Pool) (ps : Pooled) (b : Buffer) → InHand pool ps (b ∷ []) → IsIn b pool
is_in_hand pool ps b hand =
    held_in pool (b ∷ []) 0 b (λ w. let exact = hand.exact w in omega (arith, exact)) refl

pub handed_in : (before after : Pool) (ps : Pooled) (n : ℕ) (old new : PooledLine) (b : Buffer) →
    InHand before ps (b ∷ []) → n < length ps → old ≡ get_or ps n old → Balances before (b ∷ old.held) after new.held →
    new.claim ≡ old.claim → length new.held < new.claim.share → ArePooled after (set ps n new)
handed_in before after ps n old new b hand less is change same fits =
    let e = there ps n old less is in
    record {
      size = subst (λ k. k ≤ most_information) (sym change.size) hand.size;
      places = change.places ∙ hand.places ∙ sym (shares_set ps n old new e same);
      exact = λ w.
          let own = change.weights w in
          let all = buffers_set w ps n old new e in
          let exact = hand.exact w in
          omega (arith, own, all, exact);
      within = subst (λ k. KeepWithin k (set ps n new)) (sym change.size) (within_set before.size ps n old new hand.within e same fits);
    }

-- ---- what is read of a line

pub all_plain : (f : SwitchLine → Bool) (ps : Pooled) → list_all (λ p. f p.line) ps ≡ list_all f (plain ps)
all_plain f [] = refl
all_plain f (p ∷ ps) = ap (λ (b : Bool). f p.line && b) (all_plain f ps)

pub one_written : (ps : Pooled) (n : ℕ) (p : PooledLine) → n < length ps → slice_get (plain (set ps n p)) n ≡ Some p.line
one_written [] n p less = absurd (omega (arith, less))
one_written (x ∷ xs) zero p less = refl
one_written (x ∷ xs) (suc n) p less = one_written xs n p (omega (arith, less))
