-- What is left to relay on the lines of a switch, after each call.
use Rattle.std.proofs.Common.{◌≡◌, ℕ, zero, suc, ◌+◌, ◌<◌, ◌≤◌, ◌⊎◌, inl, inr, Bool, true, false, not, ◌&&◌, if◌then◌else◌, List, [], ◌∷◌, map, length, set, get_or, Option, Some, None, option_map, refl, sym, ap, ap₂, subst, ◌∙◌, true≢false, arith}
use Rattle.std.specs.Prelude.{slice_get, IfSome}
use Rattle.std.proofs.lemmas.Bool.{cases_eq, eq-eqb}
use Rattle.std.proofs.lemmas.Option.{none-some, same_Some}
use Rattle.std.proofs.lemmas.List.{length-map}
use Rattle.link_timers.specs.declared.role.Role.{Role}
use Rattle.number_set.specs.declared.NumberSet.{NumberSet}
use Rattle.number_set.specs.NumberSet as numbers
use Rattle.data_transfer.specs.Traffic.{Taken}
use Rattle.data_transfer.specs.declared.flow.Flow.{Flow}
use Rattle.packet_channel.specs.Channel.{Channel, Request, requested}
use Rattle.packet_channel.specs.Channel.Request.{Taking, Releasing}
use Rattle.packet_layer.specs.Layer.{Layer, channel_of}
use Rattle.packet_layer.specs.Layer as machine
use Rattle.packet_end.specs.PacketEnd.{asked, all_offered}
use Rattle.switch_joins.specs.ChannelSet.{has, is_small}
use Rattle.switch_joins.specs.declared.channel_set.ChannelSet.{ChannelSet}
use Rattle.switch_joins.specs.Direction.{Direction, releasable, released}
use Rattle.switch_lines.specs.Lines.{SwitchChannel, Joined, SwitchLine, same_place, changed, flat, nth_joined, with_nth_joined, joined_on, joined_at, with_joined, ask, ask_all, front_at, front_of_line, size_of_line, sizes_at, takes_at, takes_on_line, takes_on_channel}
use Rattle.joined_line.specs.OfLine.{kept_on, released_if, freed_on}
use Rattle.switch_joins.specs.Joins.{joined_with}
use Rattle.switch_lines.specs.Relay.{requests_for, due_at, carried_by, moved, moved_joined, moved_front, moved_if, relayed, relayed_from, both_legs, most_moves}
use Rattle.switch_lines.specs.Switch.{with_end}
use Rattle.switch_lines.specs.Touched.{changed_in}
use Rattle.switch_lines.specs.Waiting.{other_at, IsStuck, IsHeldBack, AreHeldBack, NothingElseMoves}
use Rattle.switch_lines.proofs.Calmer.{same_layer, IsCalm, IsRelay, takes, onward, releases, onward_calm, releasing_calm, request_apart, relay_takes, all_offered_front, all_offered_flow}
use Rattle.switch_lines.proofs.Onward.{IsOnward, AreOnward, are_onward}
use Rattle.switch_lines.proofs.Changing.{there}
use Rattle.switch_joins.specs.Turning.{Sizes, Gathered}
use Rattle.switch_joins.proofs.Slots.{nth_apart}
use Rattle.switch_joins.proofs.Apart.{decided, place_is}
use Rattle.switch_joins.proofs.ChannelSets.{and_not_no, IsApart}
use Rattle.switch_lines.proofs.Relaying.{relayed_stays}
use Rattle.switch_lines.proofs.Touched.{written_other, others_same, same_count}
use Rattle.switch_lines.proofs.Places.{get_unchanged, joined_asked, joined_asks, joined_apart, sizes_same, sizes_asked, sizes_asks, sizes_joined, request_flow}

abbrev Lines : Type 0
Lines = List SwitchLine

-- ---- one channel of lines

still_false : (a b : Bool) → (b ≡ true → a ≡ true) → a ≡ false → b ≡ false
still_false a true more e = absurd (true≢false (sym (more refl) ∙ e))
still_false a false more e = refl

-- where a join leads, and what is gathered of it
abbrev pub leads : Option Joined → Option (SwitchChannel × Gathered)
leads o = option_map (λ (j : Joined). (j.other, j.kept.gathered)) o

-- nothing waits first there that did not before, what it takes it took before, and what it makes of a packet is the same
pub record IsCalmAt (ls ms : Lines) (x : SwitchChannel) : Type 0 where
  pub leads : leads (joined_at ms x) ≡ leads (joined_at ls x)
  pub front : (t : Taken) → front_at ms x ≡ Some t → front_at ls x ≡ Some t
  pub takes : (qs : List Request) → AreOnward qs → takes_at ms x qs ≡ true → takes_at ls x qs ≡ true
  pub size : size_of_line (slice_get ms x.line) ≡ size_of_line (slice_get ls x.line)

to_of : (o p : Option Joined) → leads p ≡ leads o → option_map (λ (j : Joined). j.other) p ≡ option_map (λ (j : Joined). j.other) o
to_of None None e = refl
to_of None (Some k) e = absurd (none-some (k.other, k.kept.gathered) (sym e))
to_of (Some j) None e = absurd (none-some (j.other, j.kept.gathered) e)
to_of (Some j) (Some k) e = ap (λ (x : SwitchChannel × Gathered). Some x.0) (same_Some (k.other, k.kept.gathered) (j.other, j.kept.gathered) e)

pub calm_other : (ls ms : Lines) (x : SwitchChannel) → IsCalmAt ls ms x → other_at ms x ≡ other_at ls x
calm_other ls ms x i = to_of (joined_at ls x) (joined_at ms x) i.leads

pub same_at : (ls ms : Lines) (x : SwitchChannel) → slice_get ms x.line ≡ slice_get ls x.line → IsCalmAt ls ms x
same_at ls ms x e = record {
  leads = ap (λ (o : Option SwitchLine). leads (joined_on o x.channel)) e;
  front = λ t f. sym (ap (λ (o : Option SwitchLine). front_of_line o x.channel) e) ∙ f;
  takes = λ qs are f. sym (ap (λ (o : Option SwitchLine). takes_on_line o x.channel qs) e) ∙ f;
  size = ap size_of_line e;
}

pub line_calm : (ls ms : Lines) (x : SwitchChannel) (l m : SwitchLine) → slice_get ls x.line ≡ Some l → slice_get ms x.line ≡ Some m
    → leads (nth_joined m.joined x.channel) ≡ leads (nth_joined l.joined x.channel)
    → IsCalm l.end.layer m.end.layer x.channel → IsCalmAt ls ms x
line_calm ls ms x l m old new same i = record {
  leads = ap (λ (o : Option SwitchLine). leads (joined_on o x.channel)) new ∙ same
      ∙ sym (ap (λ (o : Option SwitchLine). leads (joined_on o x.channel)) old);
  front = λ t f. ap (λ (o : Option SwitchLine). front_of_line o x.channel) old
      ∙ i.channel.front t (sym (ap (λ (o : Option SwitchLine). front_of_line o x.channel) new) ∙ f);
  takes = λ qs are f.
      let after : takes_on_channel m.end.layer.role m.end.layer.flow (channel_of m.end.layer x.channel) qs ≡ true =
      sym (ap (λ (o : Option SwitchLine). takes_on_line o x.channel qs) new) ∙ f in
      ap (λ (o : Option SwitchLine). takes_on_line o x.channel qs) old
      ∙ i.channel.takes qs are (sym (ap₂ (λ (r : Role) (w : Flow). takes_on_channel r w (channel_of m.end.layer x.channel) qs) i.role i.flow) ∙ after);
  size = ap size_of_line new ∙ ap (λ (w : Flow). w.size) i.flow ∙ sym (ap size_of_line old);
}

-- ---- one line changes

got_changed : {X : Type 0} (f : X → X) (n : ℕ) (xs : List X) (x : X) → slice_get xs n ≡ Some x → slice_get (changed n f xs) n ≡ Some (f x)
got_changed f n [] x e = absurd (none-some x e)
got_changed f zero (y ∷ ys) x e = ap (λ z. Some (f z)) (same_Some y x e)
got_changed f (suc n) (y ∷ ys) x e = got_changed f n ys x e

none_changed_there : {X : Type 0} (f : X → X) (n : ℕ) (xs : List X) → slice_get xs n ≡ None → slice_get (changed n f xs) n ≡ slice_get xs n
none_changed_there f n [] e = refl
none_changed_there f zero (y ∷ ys) e = absurd (none-some y (sym e))
none_changed_there f (suc n) (y ∷ ys) e = none_changed_there f n ys e

-- a line is changed, and its channel is calm
changed_calm : (n : ℕ) (f : SwitchLine → SwitchLine) (ls : Lines) (x : SwitchChannel)
    → ((l : SwitchLine) → x.line ≡ n → (leads (nth_joined (f l).joined x.channel) ≡ leads (nth_joined l.joined x.channel)) × IsCalm l.end.layer (f l).end.layer x.channel)
    → IsCalmAt ls (changed n f ls) x
changed_calm n f ls x calm = by_line (cases_eq x.line n)
  where
    here : (o : Option SwitchLine) → slice_get ls n ≡ o → x.line ≡ n → IsCalmAt ls (changed n f ls) x
    here None is same =
        same_at ls (changed n f ls) x (ap (λ k. slice_get (changed n f ls) k) same ∙ none_changed_there f n ls is ∙ sym (ap (λ k. slice_get ls k) same))
    here (Some l) is same =
        let c = calm l same in
        line_calm ls (changed n f ls) x l (f l) (ap (λ k. slice_get ls k) same ∙ is) (ap (λ k. slice_get (changed n f ls) k) same ∙ got_changed f n ls l is) c.0 c.1

    by_line : (x.line ≡ n) ⊎ (x.line ≡ n → ⊥) → IsCalmAt ls (changed n f ls) x
    by_line (inl same) = here (slice_get ls n) refl same
    by_line (inr apart) = same_at ls (changed n f ls) x (get_unchanged n x.line f ls apart)

pub got_written : (xs : Lines) (n : ℕ) (y : SwitchLine) → n < length xs → slice_get (set xs n y) n ≡ Some y
got_written [] n y h = absurd (omega (arith, h))
got_written (x ∷ xs) zero y h = refl
got_written (x ∷ xs) (suc n) y h = got_written xs n y (omega (arith, h))

-- a line is written, and its channel is calm
pub written_calm : (xs : Lines) (n : ℕ) (old new : SwitchLine) (x : SwitchChannel) → n < length xs → old ≡ get_or xs n old
    → (x.line ≡ n → (leads (nth_joined new.joined x.channel) ≡ leads (nth_joined old.joined x.channel)) × IsCalm old.end.layer new.end.layer x.channel)
    → IsCalmAt xs (set xs n new) x
written_calm xs n old new x within is calm = by_line (cases_eq x.line n)
  where
    by_line : (x.line ≡ n) ⊎ (x.line ≡ n → ⊥) → IsCalmAt xs (set xs n new) x
    by_line (inl same) =
        let c = calm same in
        line_calm xs (set xs n new) x old new (ap (λ k. slice_get xs k) same ∙ there xs n old within is) (ap (λ k. slice_get (set xs n new) k) same ∙ got_written xs n new within) c.0 c.1
    by_line (inr apart) = same_at xs (set xs n new) x (written_other xs n x.line new apart)

pub written_others : (xs : Lines) (n : ℕ) (old new : SwitchLine) (x : SwitchChannel) → n < length xs → old ≡ get_or xs n old
    → ((d : ℕ) → option_map (λ (j : Joined). j.other) (nth_joined new.joined d) ≡ option_map (λ (j : Joined). j.other) (nth_joined old.joined d))
    → other_at (set xs n new) x ≡ other_at xs x
written_others xs n old new x within is same = by_line (cases_eq x.line n)
  where
    to : Option SwitchLine → Option SwitchChannel
    to o = option_map (λ (j : Joined). j.other) (joined_on o x.channel)

    by_line : (x.line ≡ n) ⊎ (x.line ≡ n → ⊥) → other_at (set xs n new) x ≡ other_at xs x
    by_line (inl at) =
        ap to (ap (λ k. slice_get (set xs n new) k) at ∙ got_written xs n new within) ∙ same x.channel
        ∙ sym (ap to (ap (λ k. slice_get xs k) at ∙ there xs n old within is))
    by_line (inr apart) = ap to (written_other xs n x.line new apart)

-- many lines change, each of whose channels is calm
pub map_calm : (f : SwitchLine → SwitchLine) (ls : Lines) (x : SwitchChannel)
    → ((l : SwitchLine) → (leads (nth_joined (f l).joined x.channel) ≡ leads (nth_joined l.joined x.channel)) × IsCalm l.end.layer (f l).end.layer x.channel)
    → IsCalmAt ls (map f ls) x
map_calm f ls x calm = by_line (slice_get ls x.line) refl
  where
    mapped : (n : ℕ) (ks : Lines) (l : SwitchLine) → slice_get ks n ≡ Some l → slice_get (map f ks) n ≡ Some (f l)
    mapped n [] l e = absurd (none-some l e)
    mapped zero (k ∷ ks) l e = ap (λ z. Some (f z)) (same_Some k l e)
    mapped (suc n) (k ∷ ks) l e = mapped n ks l e

    past : (n : ℕ) (ks : Lines) → slice_get ks n ≡ None → slice_get (map f ks) n ≡ None
    past n [] e = refl
    past zero (k ∷ ks) e = absurd (none-some k (sym e))
    past (suc n) (k ∷ ks) e = past n ks e

    by_line : (o : Option SwitchLine) → slice_get ls x.line ≡ o → IsCalmAt ls (map f ls) x
    by_line None e = same_at ls (map f ls) x (past x.line ls e ∙ sym e)
    by_line (Some l) e = line_calm ls (map f ls) x l (f l) e (mapped x.line ls l e) (calm l).0 (calm l).1

changed_at : (s : NumberSet) (f : SwitchLine → SwitchLine) (k i : ℕ) (xs : Lines) (x : SwitchLine) → slice_get xs i ≡ Some x
    → slice_get (changed_in s f k xs) i ≡ Some (if numbers.has s (k + i) then f x else x)
changed_at s f k i [] x e = absurd (none-some x e)
changed_at s f k zero (y ∷ ys) x e =
    let here : k ≡ k + 0 = omega arith in
    ap₂ (λ (n : ℕ) (z : SwitchLine). Some (if numbers.has s n then f z else z)) here (same_Some y x e)
changed_at s f k (suc i) (y ∷ ys) x e =
    let next : suc k + i ≡ k + suc i = omega arith in
    changed_at s f (suc k) i ys x e ∙ ap (λ (n : ℕ). Some (if numbers.has s n then f x else x)) next

changed_past : (s : NumberSet) (f : SwitchLine → SwitchLine) (k i : ℕ) (xs : Lines) → slice_get xs i ≡ None → slice_get (changed_in s f k xs) i ≡ None
changed_past s f k i [] e = refl
changed_past s f k zero (y ∷ ys) e = absurd (none-some y (sym e))
changed_past s f k (suc i) (y ∷ ys) e = changed_past s f (suc k) i ys e

pub some_calm : (s : NumberSet) (f : SwitchLine → SwitchLine) (ls : Lines) (x : SwitchChannel)
    → ((l : SwitchLine) → (leads (nth_joined (f l).joined x.channel) ≡ leads (nth_joined l.joined x.channel)) × IsCalm l.end.layer (f l).end.layer x.channel)
    → IsCalmAt ls (changed_in s f 0 ls) x
some_calm s f ls x calm = by_line (slice_get ls x.line) refl
  where
    either : (b : Bool) (l : SwitchLine) → slice_get ls x.line ≡ Some l → slice_get (changed_in s f 0 ls) x.line ≡ Some (if b then f l else l) → IsCalmAt ls (changed_in s f 0 ls) x
    either true l e g = line_calm ls (changed_in s f 0 ls) x l (f l) e g (calm l).0 (calm l).1
    either false l e g = same_at ls (changed_in s f 0 ls) x (g ∙ sym e)

    by_line : (o : Option SwitchLine) → slice_get ls x.line ≡ o → IsCalmAt ls (changed_in s f 0 ls) x
    by_line None e = same_at ls (changed_in s f 0 ls) x (changed_past s f 0 x.line ls e ∙ sym e)
    by_line (Some l) e = either (numbers.has s (0 + x.line)) l e (changed_at s f 0 x.line ls l e)

-- what is kept of a direction changes
kept_slot : {X : Type 0} (g : Joined → X) (f : Direction → Direction) (js : List (Option Joined)) (i k : ℕ)
    → ((j : Joined) → flat (slice_get js i) ≡ Some j → g (record j { kept = f j.kept }) ≡ g j)
    → option_map g (flat (slice_get (set js i (joined_with f (flat (slice_get js i)))) k)) ≡ option_map g (flat (slice_get js k))
kept_slot g f [] i k same = refl
kept_slot g f (None ∷ js) zero zero same = refl
kept_slot g f (Some j ∷ js) zero zero same = ap Some (same j refl)
kept_slot g f (o ∷ js) zero (suc k) same = refl
kept_slot g f (o ∷ js) (suc i) zero same = refl
kept_slot g f (o ∷ js) (suc i) (suc k) same = kept_slot g f js i k same

kept_nth : {X : Type 0} (g : Joined → X) (f : Direction → Direction) (js : List (Option Joined)) (c d : ℕ)
    → ((j : Joined) → nth_joined js c ≡ Some j → g (record j { kept = f j.kept }) ≡ g j)
    → option_map g (nth_joined (with_nth_joined js c (joined_with f (nth_joined js c))) d) ≡ option_map g (nth_joined js d)
kept_nth g f js zero d same = refl
kept_nth g f js (suc i) zero same = refl
kept_nth g f js (suc i) (suc k) same = kept_slot g f js i k same

pub kept_other : (f : Direction → Direction) (js : List (Option Joined)) (c d : ℕ)
    → option_map (λ (j : Joined). j.other) (nth_joined (with_nth_joined js c (joined_with f (nth_joined js c))) d) ≡ option_map (λ (j : Joined). j.other) (nth_joined js d)
kept_other f js c d = kept_nth (λ j. j.other) f js c d (λ j e. refl)

-- what is gathered stays
pub kept_leads : (f : Direction → Direction) (js : List (Option Joined)) (c d : ℕ) → ((j : Joined) → nth_joined js c ≡ Some j → (f j.kept).gathered ≡ j.kept.gathered)
    → leads (nth_joined (with_nth_joined js c (joined_with f (nth_joined js c))) d) ≡ leads (nth_joined js d)
kept_leads f js c d same = kept_nth (λ j. (j.other, j.kept.gathered)) f js c d (λ j e. ap (λ (g : Gathered). (j.other, g)) (same j e))

pub freed_calm : (c : ℕ) (l : SwitchLine) (d : ℕ)
    → (leads (nth_joined (freed_on c l).joined d) ≡ leads (nth_joined l.joined d)) × IsCalm l.end.layer (freed_on c l).end.layer d
freed_calm c l d = by_join (nth_joined l.joined c)
  where
    by_join : (o : Option Joined) → (leads (nth_joined (released_if o c (kept_on c released l)).joined d) ≡ leads (nth_joined l.joined d))
        × IsCalm l.end.layer (released_if o c (kept_on c released l)).end.layer d
    by_join None = (kept_leads released l.joined c d (λ j e. refl), same_layer l.end.layer d)
    by_join (Some j) = (kept_leads released l.joined c d (λ j e. refl), releasing_calm l.end.layer c d (releasable j.kept.held))

-- a slot is written
slot_set : (js : List (Option Joined)) (i : ℕ) (o : Option Joined) (j : Joined) → flat (slice_get (set js i o) i) ≡ Some j → (o ≡ Some j) × (i < length js)
slot_set [] i o j e = absurd (none-some j e)
slot_set (x ∷ xs) zero o j e = (e, omega arith)
slot_set (x ∷ xs) (suc i) o j e = let more = slot_set xs i o j e in (more.0, omega (arith, more.1))

pub nth_set : (js : List (Option Joined)) (c : ℕ) (o : Option Joined) (j : Joined) → nth_joined (with_nth_joined js c o) c ≡ Some j → (o ≡ Some j) × (c ≤ length js)
nth_set js zero o j e = absurd (none-some j e)
nth_set js (suc i) o j e = let more = slot_set js i o j e in (more.0, omega (arith, more.1))

-- ---- what is left to relay

-- what is made due at a calm channel, whose other leg is calm too
due_calm : (ls ms : Lines) (x : SwitchChannel) (j k : Joined) (t : Taken) → IsCalmAt ls ms x → IsCalmAt ls ms j.other
    → joined_at ls x ≡ Some j → joined_at ms x ≡ Some k → (k.other ≡ j.other) × (due_at ms x k t ≡ due_at ls x j t)
due_calm ls ms x j k t here there old new =
    let both = same_Some (k.other, k.kept.gathered) (j.other, j.kept.gathered) (sym (ap leads new) ∙ here.leads ∙ ap leads old) in
    let to = ap (λ (y : SwitchChannel × Gathered). y.0) both in (
      to,
      ap₂ (λ (s : Sizes) (g : Gathered). requests_for s g t) (ap (λ (q : SwitchChannel). sizes_at ms x q) to ∙ sizes_same ls ms x j.other here.size there.size)
          (ap (λ (y : SwitchChannel × Gathered). y.1) both),
    )

-- so what was not taken is not
not_taken : (ls ms : Lines) (x : SwitchChannel) (j k : Joined) (t : Taken) → IsCalmAt ls ms x → IsCalmAt ls ms j.other
    → joined_at ls x ≡ Some j → joined_at ms x ≡ Some k → takes_at ls j.other (due_at ls x j t) ≡ false → takes_at ms k.other (due_at ms x k t) ≡ false
not_taken ls ms x j k t here there old new refused =
    let same = due_calm ls ms x j k t here there old new in
    let due = due_at ls x j t in
    ap₂ (λ (q : SwitchChannel) (qs : List Request). takes_at ms q qs) same.0 same.1
    ∙ still_false (takes_at ls j.other due) (takes_at ms j.other due) (there.takes due (are_onward (sizes_at ls x j.other) j.kept.gathered t)) refused

-- what was held back still is
still_held : (r : ChannelSet) (ls ms : Lines) (p q : SwitchChannel) → other_at ls p ≡ Some q → IsCalmAt ls ms p → IsCalmAt ls ms q → AreHeldBack r ls p q → AreHeldBack r ms p q
still_held r ls ms p q to a b h = (calm_other ls ms q b ∙ h.0, held p q to a b h.1, held q p h.0 b a h.2)
  where
    held : (x y : SwitchChannel) → other_at ls x ≡ Some y → IsCalmAt ls ms x → IsCalmAt ls ms y → IsHeldBack r ls x y → IsHeldBack r ms x y
    held x y e c d h k t new f = by_join (joined_at ls x) refl
      where
        by_join : (o : Option Joined) → joined_at ls x ≡ o → (takes_at ms k.other (due_at ms x k t) ≡ false) × (has r y ≡ true)
        by_join None old = absurd (none-some y (sym (ap (λ (o : Option Joined). option_map (λ (j : Joined). j.other) o) old) ∙ e))
        by_join (Some j) old =
            let before = h j t old (c.front t f) in
            let to : j.other ≡ y = same_Some j.other y (sym (ap (λ (o : Option Joined). option_map (λ (j : Joined). j.other) o) old) ∙ e) in
            (not_taken ls ms x j k t c (subst (λ (z : SwitchChannel). IsCalmAt ls ms z) (sym to) d) old new before.0, before.1)

still_there : (ls ms : Lines) (q : SwitchChannel) → length ms ≡ length ls → q.line < length ls → q.line < length ms
still_there ls ms q long less = omega (arith, long, less)

-- nothing new is to be relayed
pub calm_kept : (s r : ChannelSet) (ls ms : Lines) → length ms ≡ length ls → ((x : SwitchChannel) → IsCalmAt ls ms x) → NothingElseMoves s r ls
    → NothingElseMoves s r ms
calm_kept s r ls ms long calm i = record {
  small = λ p q e. i.small p q (sym (calm_other ls ms p (calm p)) ∙ e);
  there = λ p q e. still_there ls ms q long (i.there p q (sym (calm_other ls ms p (calm p)) ∙ e));
  waits = λ p q e out. let before = sym (calm_other ls ms p (calm p)) ∙ e in still_held r ls ms p q before (calm p) (calm q) (i.waits p q before out);
}

-- some lines change, or all do, and all channels are calm
pub some_kept : (s r : ChannelSet) (t : NumberSet) (f : SwitchLine → SwitchLine) (ls ms : Lines) → ms ≡ changed_in t f 0 ls
    → ((l : SwitchLine) (d : ℕ) → (leads (nth_joined (f l).joined d) ≡ leads (nth_joined l.joined d)) × IsCalm l.end.layer (f l).end.layer d)
    → NothingElseMoves s r ls → NothingElseMoves s r ms
some_kept s r t f ls ms is calm i =
    subst (λ (ks : Lines). NothingElseMoves s r ks) (sym is) (calm_kept s r ls (changed_in t f 0 ls) (same_count t f 0 ls) (λ x. some_calm t f ls x (λ l. calm l x.channel)) i)

pub all_kept : (s r : ChannelSet) (f : SwitchLine → SwitchLine) (ls ms : Lines) → ms ≡ map f ls
    → ((l : SwitchLine) (d : ℕ) → (leads (nth_joined (f l).joined d) ≡ leads (nth_joined l.joined d)) × IsCalm l.end.layer (f l).end.layer d)
    → NothingElseMoves s r ls → NothingElseMoves s r ms
all_kept s r f ls ms is calm i =
    subst (λ (ks : Lines). NothingElseMoves s r ks) (sym is) (calm_kept s r ls (map f ls) (length-map ls f) (λ x. map_calm f ls x (λ l. calm l x.channel)) i)

-- the two legs of a join are neither a channel nor the one that it is joined to
legs_apart : (s r : ChannelSet) (ls : Lines) (x : SwitchChannel) (v : Option SwitchChannel) (p q : SwitchChannel) → NothingElseMoves s r ls → v ≡ other_at ls x
    → other_at ls p ≡ Some q → other_at ls q ≡ Some p → IsApart p x v → (p ≡ x → ⊥) × (q ≡ x → ⊥)
legs_apart s r ls x None p q i at e f a =
    (λ here. none-some q (at ∙ sym (ap (λ z. other_at ls z) here) ∙ e), λ here. none-some p (at ∙ sym (ap (λ z. other_at ls z) here) ∙ f))
legs_apart s r ls x (Some z) p q i at e f a = (
  a.0 (i.small x z (sym at)),
  λ here.
      let to : z ≡ p = same_Some z p (at ∙ sym (ap (λ y. other_at ls y) here) ∙ f) in
      a.1 (ap is_small to ∙ i.small p q e) (sym to),
)

-- one channel is touched
pub touched_kept : (s t r : ChannelSet) (ls ms : Lines) (x : SwitchChannel) (o : Option SwitchChannel) → length ms ≡ length ls → o ≡ other_at ls x
    → ((p : SwitchChannel) → has t p ≡ false → (has s p ≡ false) × IsApart p x o) → ((y : SwitchChannel) → other_at ms y ≡ other_at ls y)
    → ((y : SwitchChannel) → is_small y ≡ true → same_place y x ≡ false → IsCalmAt ls ms y) → NothingElseMoves s r ls → NothingElseMoves t r ms
touched_kept s t r ls ms x o long is touches same calm i = record {
  small = λ p q e. i.small p q (sym (same p) ∙ e);
  there = λ p q e. still_there ls ms q long (i.there p q (sym (same p) ∙ e));
  waits = λ p q e out.
      let before = sym (same p) ∙ e in
      let a = touches p out in
      let h = i.waits p q before a.0 in
      let b = legs_apart s r ls x o p q i is before h.0 a.1 in
      still_held r ls ms p q before (by_place p (i.small p q before) b.0 (decided (same_place p x))) (by_place q (i.small q p h.0) b.1 (decided (same_place q x))) h;
}
  where
    by_place : (y : SwitchChannel) → is_small y ≡ true → (y ≡ x → ⊥) → (same_place y x ≡ true) ⊎ (same_place y x ≡ false) → IsCalmAt ls ms y
    by_place y small apart (inl here) = absurd (apart (place_is y x here))
    by_place y small apart (inr f) = calm y small f

-- a channel is joined, or its join ends
pub joined_kept : (s t r : ChannelSet) (ls ms : Lines) (x : SwitchChannel) (o : Option SwitchChannel) → length ms ≡ length ls
    → ((q : SwitchChannel) → o ≡ Some q → q.line < length ls)
    → ((p : SwitchChannel) → has t p ≡ false → (has s p ≡ false) × IsApart p x (other_at ls x) × IsApart p x o)
    → ((y : SwitchChannel) → same_place y x ≡ false → IsCalmAt ls ms y)
    → ((q : SwitchChannel) → other_at ms x ≡ Some q → (o ≡ Some q) × (is_small x ≡ true)) → NothingElseMoves s r ls → NothingElseMoves t r ms
joined_kept s t r ls ms x o long to touches calm new i = record {
  small = λ p q e. small p q e (decided (same_place p x));
  there = λ p q e. still_there ls ms q long (there_ p q e (decided (same_place p x)));
  waits = λ p q e out. waits p q e (touches p out) (decided (same_place p x)) (decided (same_place q x));
}
  where
    small : (p q : SwitchChannel) → other_at ms p ≡ Some q → (same_place p x ≡ true) ⊎ (same_place p x ≡ false) → is_small p ≡ true
    small p q e (inl here) =
        let at = place_is p x here in ap is_small at ∙ (new q (sym (ap (λ z. other_at ms z) at) ∙ e)).1
    small p q e (inr apart) = i.small p q (sym (calm_other ls ms p (calm p apart)) ∙ e)

    there_ : (p q : SwitchChannel) → other_at ms p ≡ Some q → (same_place p x ≡ true) ⊎ (same_place p x ≡ false) → q.line < length ls
    there_ p q e (inl here) = to q (new q (sym (ap (λ z. other_at ms z) (place_is p x here)) ∙ e)).0
    there_ p q e (inr apart) = i.there p q (sym (calm_other ls ms p (calm p apart)) ∙ e)

    waits : (p q : SwitchChannel) → other_at ms p ≡ Some q → (has s p ≡ false) × IsApart p x (other_at ls x) × IsApart p x o
        → (same_place p x ≡ true) ⊎ (same_place p x ≡ false) → (same_place q x ≡ true) ⊎ (same_place q x ≡ false) → AreHeldBack r ms p q
    waits p q e a (inl here) there =
        let at = place_is p x here in
        let n = new q (sym (ap (λ z. other_at ms z) at) ∙ e) in
        let apart : IsApart p x (Some q) = subst (λ (v : Option SwitchChannel). IsApart p x v) n.0 a.2 in
        absurd (apart.0 n.1 at)
    waits p q e a (inr apart) (inl here) =
        let before = sym (calm_other ls ms p (calm p apart)) ∙ e in
        let back = sym (ap (λ z. other_at ls z) (place_is q x here)) ∙ (i.waits p q before a.0).0 in
        let other : IsApart p x (Some p) = subst (λ (v : Option SwitchChannel). IsApart p x v) back a.1 in
        absurd (other.1 (i.small p q before) refl)
    waits p q e a (inr apart) (inr away) =
        let before = sym (calm_other ls ms p (calm p apart)) ∙ e in still_held r ls ms p q before (calm p apart) (calm q away) (i.waits p q before a.0)

-- both legs of a join are stuck: it is not to be relayed any more
pub stopped : (s t r u : ChannelSet) (ls : Lines) (p q : SwitchChannel) → other_at ls p ≡ Some q → other_at ls q ≡ Some p → IsStuck ls p → IsStuck ls q
    → ((v : Taken) → front_at ls p ≡ Some v → has u q ≡ true) → ((v : Taken) → front_at ls q ≡ Some v → has u p ≡ true)
    → ((x : SwitchChannel) → has r x ≡ true → has u x ≡ true)
    → ((x : SwitchChannel) → has t x ≡ false → (has s x ≡ false) ⊎ (x ≡ p) ⊎ (x ≡ q)) → NothingElseMoves s r ls → NothingElseMoves t u ls
stopped s t r u ls p q to back here there known_there known_here more out_of i = record {
  small = i.small;
  there = i.there;
  waits = λ x y e out. by_place x y e (out_of x out);
}
  where
    grown : (x y : SwitchChannel) → IsHeldBack r ls x y → IsHeldBack u ls x y
    grown x y h j v at e = let old = h j v at e in (old.0, more y old.1)

    onward : IsHeldBack u ls p q
    onward j v at e = (here j v at e, known_there v e)

    backward : IsHeldBack u ls q p
    backward j v at e = (there j v at e, known_here v e)

    by_place : (x y : SwitchChannel) → other_at ls x ≡ Some y → (has s x ≡ false) ⊎ (x ≡ p) ⊎ (x ≡ q) → AreHeldBack u ls x y
    by_place x y e (inl old) = let h = i.waits x y e old in (h.0, grown x y h.1, grown y x h.2)
    by_place x y e (inr (inl at)) =
        let same : q ≡ y = same_Some q y (sym to ∙ sym (ap (λ z. other_at ls z) at) ∙ e) in
        subst (λ (z : SwitchChannel). AreHeldBack u ls z y) (sym at) (subst (λ (z : SwitchChannel). AreHeldBack u ls p z) same (back, onward, backward))
    by_place x y e (inr (inr at)) =
        let same : p ≡ y = same_Some p y (sym back ∙ sym (ap (λ z. other_at ls z) at) ∙ e) in
        subst (λ (z : SwitchChannel). AreHeldBack u ls z y) (sym at) (subst (λ (z : SwitchChannel). AreHeldBack u ls q z) same (to, backward, onward))

-- a channel that is not joined need not be relayed
pub forgotten : (s t r : ChannelSet) (ls : Lines) (x : SwitchChannel) → other_at ls x ≡ None
    → ((p : SwitchChannel) → has t p ≡ (has s p && not (is_small x && same_place p x))) → NothingElseMoves s r ls → NothingElseMoves t r ls
forgotten s t r ls x none removes i = record {
  small = i.small;
  there = i.there;
  waits = λ p q e out. i.waits p q e (before p q e out (decided (same_place p x)));
}
  where
    before : (p q : SwitchChannel) → other_at ls p ≡ Some q → has t p ≡ false → (same_place p x ≡ true) ⊎ (same_place p x ≡ false) → has s p ≡ false
    before p q e out (inl here) = absurd (none-some q (sym none ∙ sym (ap (λ z. other_at ls z) (place_is p x here)) ∙ e))
    before p q e out (inr apart) =
        sym (removes p ∙ ap (λ (b : Bool). has s p && not (is_small x && b)) apart ∙ and_not_no (has s p) (is_small x)) ∙ out

-- no channel is joined
pub none_joined : (s r : ChannelSet) (ls : Lines) → ((p q : SwitchChannel) → other_at ls p ≡ Some q → ⊥) → NothingElseMoves s r ls
none_joined s r ls none = record {
  small = λ p q e. absurd (none p q e);
  there = λ p q e. absurd (none p q e);
  waits = λ p q e out. absurd (none p q e);
}

-- ---- stuck channels

pub stuck_unmoved : (ls : Lines) (p : SwitchChannel) → IsStuck ls p → moved p ls ≡ ls
stuck_unmoved ls p stuck = by_join (joined_at ls p) refl
  where
    by_front : (o : Option Taken) (j : Joined) → joined_at ls p ≡ Some j → front_at ls p ≡ o → moved_front o p j ls ≡ ls
    by_front None j e f = refl
    by_front (Some t) j e f = ap (λ (b : Bool). moved_if b t p j ls) (stuck j t e f)

    by_join : (o : Option Joined) → joined_at ls p ≡ o → moved p ls ≡ ls
    by_join None e = ap (λ (o : Option Joined). moved_joined o p ls) e
    by_join (Some j) e = ap (λ (o : Option Joined). moved_joined o p ls) e ∙ by_front (front_at ls p) j e refl

pub stuck_unrelayed : (ls : Lines) (p : SwitchChannel) (most : ℕ) → IsStuck ls p → relayed most p ls ≡ ls
stuck_unrelayed ls p most stuck = relayed_stays most p ls (stuck_unmoved ls p stuck)

-- ---- a move makes no other channel less stuck

pub place_same : (p x : SwitchChannel) → p.line ≡ x.line → p.channel ≡ x.channel → same_place p x ≡ true
place_same p x e f = ap₂ (λ (a b : Bool). a && b) (eq-eqb p.line x.line e) (eq-eqb p.channel x.channel f)

asked_apart : (x : SwitchChannel) (r : Request) (ls : Lines) (p : SwitchChannel) → same_place p x ≡ false → IsCalmAt ls (ask x r ls) p
asked_apart x r ls p apart =
    changed_calm x.line (λ l. record l { end = asked l.end x.channel r }) ls p
    (λ l same. (refl, request_apart l.end.layer x.channel p.channel r (λ e. true≢false (sym (place_same p x same e) ∙ apart))))

onward_calm_at : (x : SwitchChannel) (q : Request) (ls : Lines) (p : SwitchChannel) → IsOnward q → IsCalmAt ls (ask x q ls) p
onward_calm_at x q ls p i =
    changed_calm x.line (λ l. record l { end = asked l.end x.channel q }) ls p (λ l same. (refl, onward_calm l.end.layer x.channel p.channel q i))

calm_twice : (ls ks ms : Lines) (p : SwitchChannel) → IsCalmAt ls ks p → IsCalmAt ks ms p → IsCalmAt ls ms p
calm_twice ls ks ms p a b = record {
  leads = b.leads ∙ a.leads;
  front = λ t e. a.front t (b.front t e);
  takes = λ qs are e. a.takes qs are (b.takes qs are e);
  size = b.size ∙ a.size;
}

sent_calm : (x : SwitchChannel) (qs : List Request) (ls : Lines) (p : SwitchChannel) → AreOnward qs → IsCalmAt ls (ask_all x qs ls) p
sent_calm x [] ls p are = same_at ls ls p refl
sent_calm x (q ∷ qs) ls p are = calm_twice ls (ask x q ls) (ask_all x qs (ask x q ls)) p (onward_calm_at x q ls p are.0) (sent_calm x qs (ask x q ls) p are.1)

released_calm : (x : SwitchChannel) (n : ℕ) (ls : Lines) (p : SwitchChannel) → IsCalmAt ls (ask x (Releasing n) ls) p
released_calm x n ls p =
    changed_calm x.line (λ l. record l { end = asked l.end x.channel (Releasing n) }) ls p (λ l same. (refl, releasing_calm l.end.layer x.channel p.channel n))

request_role : (l : Layer) (k : ℕ) (r : Request) → (machine.request l k r).role ≡ l.role
request_role l k r = by_channel (channel_of l k)
  where
    by_channel : (o : Option Channel) → (machine.on_found l k (λ ch. requested l.role l.flow ch r) o).role ≡ l.role
    by_channel None = refl
    by_channel (Some ch) = refl

-- what is taken leaves what is refused
taken_line : (n c : ℕ) (qs : List Request) (r : Request) (x : SwitchChannel) (ls : Lines) → IsRelay r → AreOnward qs
    → takes_on_line (slice_get (ask x r ls) n) c qs ≡ true → takes_on_line (slice_get ls n) c qs ≡ true
taken_line n c qs r x ls i are = by_line (cases_eq n x.line)
  where
    f : SwitchLine → SwitchLine
    f l = record l { end = asked l.end x.channel r }

    here : (o : Option SwitchLine) → slice_get ls x.line ≡ o → n ≡ x.line → takes_on_line (slice_get (ask x r ls) n) c qs ≡ true → takes_on_line (slice_get ls n) c qs ≡ true
    here None is same e =
        sym (ap (λ (o : Option SwitchLine). takes_on_line o c qs) (ap (λ k. slice_get (ask x r ls) k) same ∙ none_changed_there f x.line ls is ∙ sym (ap (λ k. slice_get ls k) same))) ∙ e
    here (Some l) is same e =
        ap (λ (o : Option SwitchLine). takes_on_line o c qs) (ap (λ k. slice_get ls k) same ∙ is)
        ∙ relay_takes l.end.layer x.channel c qs r i are
        (sym (ap (λ (w : Flow). takes_on_channel l.end.layer.role w (channel_of (f l).end.layer c) qs) (request_flow l.end.layer x.channel r))
        ∙ sym (ap (λ (w : Role). takes_on_channel w (f l).end.layer.flow (channel_of (f l).end.layer c) qs) (request_role l.end.layer x.channel r))
        ∙ sym (ap (λ (o : Option SwitchLine). takes_on_line o c qs) (ap (λ k. slice_get (ask x r ls) k) same ∙ got_changed f x.line ls l is)) ∙ e)

    by_line : (n ≡ x.line) ⊎ (n ≡ x.line → ⊥) → takes_on_line (slice_get (ask x r ls) n) c qs ≡ true → takes_on_line (slice_get ls n) c qs ≡ true
    by_line (inl same) e = here (slice_get ls x.line) refl same e
    by_line (inr apart) e = sym (ap (λ (o : Option SwitchLine). takes_on_line o c qs) (get_unchanged x.line n f ls apart)) ∙ e

taken_first : (x : SwitchChannel) (p : SwitchChannel) (qs : List Request) (r : Request) (ls : Lines) → IsRelay r → AreOnward qs → takes_at (ask x r ls) p qs ≡ true → takes_at ls p qs ≡ true
taken_first x p qs r ls i are e = taken_line p.line p.channel qs r x ls i are e

-- a join that changes leaves all else
joins_calm : (p : SwitchChannel) (o : Option Joined) (ls : Lines) (x : SwitchChannel) → same_place x p ≡ false → IsCalmAt ls (with_joined p o ls) x
joins_calm p o ls x apart =
    changed_calm p.line (λ l. record l { joined = with_nth_joined l.joined p.channel o }) ls x
    (λ l same. (ap leads (nth_apart l.joined p.channel x.channel o (λ e. true≢false (sym (place_same x p same e) ∙ apart))), same_layer l.end.layer x.channel))

joins_take : (p : SwitchChannel) (o : Option Joined) (ls : Lines) (x : SwitchChannel) (qs : List Request) → takes_at (with_joined p o ls) x qs ≡ takes_at ls x qs
joins_take p o ls x qs = on_lines p.line x.line ls
  where
    on_lines : (n m : ℕ) (ks : Lines) → takes_on_line (slice_get (changed n (λ l. record l { joined = with_nth_joined l.joined p.channel o }) ks) m) x.channel qs ≡ takes_on_line (slice_get ks m) x.channel qs
    on_lines n m [] = refl
    on_lines zero zero (l ∷ ks) = refl
    on_lines zero (suc m) (l ∷ ks) = refl
    on_lines (suc n) zero (l ∷ ks) = refl
    on_lines (suc n) (suc m) (l ∷ ks) = on_lines n m ks

-- what a move makes of a channel that is stuck and another than that which is moved
moved_apart : (x : SwitchChannel) (j : Joined) (t : Taken) (ls : Lines) (p : SwitchChannel) → same_place p x ≡ false → IsStuck ls p → IsStuck (moved_if true t x j ls) p
moved_apart x j t ls p apart stuck k u at f =
    let sizes = sizes_at ls x j.other in
    let v = carried_by sizes t j.kept in
    let due = due_at ls x j t in
    let are = are_onward sizes j.kept.gathered t in
    let ks = ask x Taking ls in
    let bs = ask_all j.other due ks in
    let n = releasable v.held in
    let ds = ask x (Releasing n) bs in
    let ms = moved_if true t x j ls in
    let calm = calm_twice ls ks ms p (asked_apart x Taking ls p apart) (calm_twice ks bs ms p (sent_calm j.other due ks p are)
    (calm_twice bs ds ms p (released_calm x n bs p) (joins_calm x (Some (record j { kept = released v })) ds p apart))) in
    let before : joined_at ls p ≡ Some k =
    sym (joined_apart x (Some (record j { kept = released v })) p ds apart ∙ joined_asked x (Releasing n) p bs ∙ joined_asks j.other due p ks ∙ joined_asked x Taking p ls) ∙ at in
    let same : due_at ms p k u ≡ due_at ls p k u =
    ap (λ (s : Sizes). requests_for s k.kept.gathered u)
    (sizes_joined x (Some (record j { kept = released v })) ds p k.other ∙ sizes_asked x (Releasing n) bs p k.other ∙ sizes_asks j.other due ks p k.other ∙ sizes_asked x Taking ls p k.other) in
    let qs = due_at ls p k u in
    let passed = are_onward (sizes_at ls p k.other) k.kept.gathered u in
    ap (λ (rs : List Request). takes_at ms k.other rs) same
    ∙ still_false (takes_at ls k.other qs) (takes_at ms k.other qs)
    (λ e. taken_first x k.other qs Taking ls takes passed
    (all_taken_first j.other k.other qs due ks are passed
    (taken_first x k.other qs (Releasing n) bs (releases n) passed (sym (joins_take x (Some (record j { kept = released v })) ds k.other qs) ∙ e))))
    (stuck k u before (calm.front u f))
  where
    all_taken_first : (y z : SwitchChannel) (qs rs : List Request) (ks : Lines) → AreOnward rs → AreOnward qs → takes_at (ask_all y rs ks) z qs ≡ true → takes_at ks z qs ≡ true
    all_taken_first y z qs [] ks are passed e = e
    all_taken_first y z qs (r ∷ rs) ks are passed e =
        taken_first y z qs r ks (onward are.0) passed (all_taken_first y z qs rs (ask y r ks) are.1 passed e)

pub moved_stuck : (x p : SwitchChannel) (ls : Lines) → IsStuck ls p → IsStuck (moved x ls) p
moved_stuck x p ls stuck = by_join (joined_at ls x) refl
  where
    by_test : (b : Bool) (t : Taken) (j : Joined) → joined_at ls x ≡ Some j → front_at ls x ≡ Some t → takes_at ls j.other (due_at ls x j t) ≡ b
        → (same_place p x ≡ true) ⊎ (same_place p x ≡ false) → IsStuck (moved_if b t x j ls) p
    by_test false t j e f is place = stuck
    by_test true t j e f is (inr apart) = moved_apart x j t ls p apart stuck
    by_test true t j e f is (inl here) =
        let at = place_is p x here in
        absurd (true≢false (sym is ∙ subst (λ (y : SwitchChannel). takes_at ls j.other (due_at ls y j t) ≡ false) at
        (stuck j t (ap (λ z. joined_at ls z) at ∙ e) (ap (λ z. front_at ls z) at ∙ f))))

    by_front : (o : Option Taken) (j : Joined) → joined_at ls x ≡ Some j → front_at ls x ≡ o → IsStuck (moved_front o x j ls) p
    by_front None j e f = stuck
    by_front (Some t) j e f = by_test (takes_at ls j.other (due_at ls x j t)) t j e f refl (decided (same_place p x))

    by_join : (o : Option Joined) → joined_at ls x ≡ o → IsStuck (moved_joined (joined_at ls x) x ls) p
    by_join None e = subst (λ (o : Option Joined). IsStuck (moved_joined o x ls) p) (sym e) stuck
    by_join (Some j) e = subst (λ (o : Option Joined). IsStuck (moved_joined o x ls) p) (sym e) (by_front (front_at ls x) j e refl)

pub relayed_stuck : (most : ℕ) (x p : SwitchChannel) (ls : Lines) → IsStuck ls p → IsStuck (relayed most x ls) p
relayed_stuck zero x p ls stuck = stuck
relayed_stuck (suc most) x p ls stuck = relayed_stuck most x p (moved x ls) (moved_stuck x p ls stuck)

-- ---- the two channels of a join are there

joined_on_some : (ls : Lines) (n c : ℕ) (q : SwitchChannel) → option_map (λ (j : Joined). j.other) (joined_on (slice_get ls n) c) ≡ Some q → n < length ls
joined_on_some [] n c q e = absurd (none-some q e)
joined_on_some (l ∷ ls) zero c q e = omega arith
joined_on_some (l ∷ ls) (suc n) c q e = let more = joined_on_some ls n c q e in omega (arith, more)

-- where a channel is joined, it is one of the lines
pub joined_there : (ls : Lines) (p q : SwitchChannel) → other_at ls p ≡ Some q → p.line < length ls
joined_there ls p q e = joined_on_some ls p.line p.channel q e

pub both_there : (s r : ChannelSet) (ls : Lines) (p : SwitchChannel) (o : Option SwitchChannel) → o ≡ other_at ls p → NothingElseMoves s r ls
    → IfSome o (λ (q : SwitchChannel). (p.line < length ls) × (q.line < length ls))
both_there s r ls p None e i = tt
both_there s r ls p (Some q) e i = (joined_there ls p q (sym e), i.there p q (sym e))

-- ---- joins that are not to be relayed

pub held_stuck : (s r : ChannelSet) (ls : Lines) (p q : SwitchChannel) → NothingElseMoves s r ls → other_at ls p ≡ Some q → has s p ≡ false
    → IsStuck ls p × IsStuck ls q
held_stuck s r ls p q i e out =
    let h = i.waits p q e out in (λ j t at front. (h.1 j t at front).0, λ j t at front. (h.2 j t at front).0)

pub unmoved_join : (s r : ChannelSet) (ls : Lines) (p : SwitchChannel) → NothingElseMoves s r ls → has s p ≡ false
    → relayed_from (both_legs (joined_at ls p) p) ls ≡ ls
unmoved_join s r ls p i out = by_join (joined_at ls p) refl
  where
    by_join : (o : Option Joined) → joined_at ls p ≡ o → relayed_from (both_legs o p) ls ≡ ls
    by_join None e = refl
    by_join (Some j) e =
        let both = held_stuck s r ls p j.other i (ap (λ (o : Option Joined). option_map (λ (k : Joined). k.other) o) e) out in
        ap (λ (ms : Lines). relayed most_moves j.other ms) (stuck_unrelayed ls p most_moves both.0) ∙ stuck_unrelayed ls j.other most_moves both.1

-- ---- packets are offered

-- what is so of a line is so of it when it offered packets or did not
either_front : (b : Bool) (l : SwitchLine) (c : ℕ) → front_of_line (Some (if b then with_end all_offered l else l)) c ≡ front_of_line (Some l) c
either_front true l c = all_offered_front l.end c
either_front false l c = refl

either_joined : (b : Bool) (l : SwitchLine) (c : ℕ) → joined_on (Some (if b then with_end all_offered l else l)) c ≡ joined_on (Some l) c
either_joined true l c = refl
either_joined false l c = refl

offered_front : (s : NumberSet) (ls : Lines) (p : SwitchChannel) → front_at (changed_in s (with_end all_offered) 0 ls) p ≡ front_at ls p
offered_front s ls p = by_line (slice_get ls p.line) refl
  where
    by_line : (o : Option SwitchLine) → slice_get ls p.line ≡ o → front_at (changed_in s (with_end all_offered) 0 ls) p ≡ front_at ls p
    by_line None e = ap (λ (o : Option SwitchLine). front_of_line o p.channel) (changed_past s (with_end all_offered) 0 p.line ls e ∙ sym e)
    by_line (Some l) e =
        ap (λ (o : Option SwitchLine). front_of_line o p.channel) (changed_at s (with_end all_offered) 0 p.line ls l e)
        ∙ either_front (numbers.has s (0 + p.line)) l p.channel ∙ sym (ap (λ (o : Option SwitchLine). front_of_line o p.channel) e)

offered_joined : (s : NumberSet) (ls : Lines) (p : SwitchChannel) → joined_at (changed_in s (with_end all_offered) 0 ls) p ≡ joined_at ls p
offered_joined s ls p = by_line (slice_get ls p.line) refl
  where
    by_line : (o : Option SwitchLine) → slice_get ls p.line ≡ o → joined_at (changed_in s (with_end all_offered) 0 ls) p ≡ joined_at ls p
    by_line None e = ap (λ (o : Option SwitchLine). joined_on o p.channel) (changed_past s (with_end all_offered) 0 p.line ls e ∙ sym e)
    by_line (Some l) e =
        ap (λ (o : Option SwitchLine). joined_on o p.channel) (changed_at s (with_end all_offered) 0 p.line ls l e)
        ∙ either_joined (numbers.has s (0 + p.line)) l p.channel ∙ sym (ap (λ (o : Option SwitchLine). joined_on o p.channel) e)

pub offered_other : (s : NumberSet) (ls : Lines) (p : SwitchChannel) → other_at (changed_in s (with_end all_offered) 0 ls) p ≡ other_at ls p
offered_other s ls p = ap (λ (o : Option Joined). option_map (λ (j : Joined). j.other) o) (offered_joined s ls p)

offered_size : (s : NumberSet) (ls : Lines) (n : ℕ) → size_of_line (slice_get (changed_in s (with_end all_offered) 0 ls) n) ≡ size_of_line (slice_get ls n)
offered_size s ls n = by_line (slice_get ls n) refl
  where
    either : (b : Bool) (l : SwitchLine) → size_of_line (Some (if b then with_end all_offered l else l)) ≡ l.end.layer.flow.size
    either true l = ap (λ (w : Flow). w.size) (all_offered_flow l.end)
    either false l = refl

    by_line : (o : Option SwitchLine) → slice_get ls n ≡ o → size_of_line (slice_get (changed_in s (with_end all_offered) 0 ls) n) ≡ size_of_line (slice_get ls n)
    by_line None e = ap size_of_line (changed_past s (with_end all_offered) 0 n ls e ∙ sym e)
    by_line (Some l) e =
        ap size_of_line (changed_at s (with_end all_offered) 0 n ls l e) ∙ either (numbers.has s (0 + n)) l ∙ sym (ap size_of_line e)

pub offered_kept : (s r : ChannelSet) (t : NumberSet) (ls ms : Lines) → ms ≡ changed_in t (with_end all_offered) 0 ls
    → ((x : SwitchChannel) → is_small x ≡ true → numbers.has t x.line ≡ true → has r x ≡ false) → NothingElseMoves s r ls → NothingElseMoves s r ms
offered_kept s r t ls ms is none i = subst (λ (ks : Lines). NothingElseMoves s r ks) (sym is) (record {
  small = λ p q e. i.small p q (sym (offered_other t ls p) ∙ e);
  there = λ p q e. still_there ls after q (same_count t (with_end all_offered) 0 ls) (i.there p q (sym (offered_other t ls p) ∙ e));
  waits = λ p q e out.
      let there = sym (offered_other t ls p) ∙ e in
      let h = i.waits p q there out in
      (offered_other t ls q ∙ h.0, held p q there (i.small q p h.0) h.1, held q p h.0 (i.small p q there) h.2);
})
  where
    after : Lines
    after = changed_in t (with_end all_offered) 0 ls

    by_line : (q : SwitchChannel) (qs : List Request) → is_small q ≡ true → has r q ≡ true → (numbers.has t q.line ≡ true) ⊎ (numbers.has t q.line ≡ false)
        → takes_at ls q qs ≡ false → takes_at after q qs ≡ false
    by_line q qs small known (inl there_) e = absurd (true≢false (sym known ∙ none q small there_))
    by_line q qs small known (inr away) e =
        let here : q.line ≡ 0 + q.line = omega arith in
        ap (λ (o : Option SwitchLine). takes_on_line o q.channel qs)
        (others_same t (with_end all_offered) 0 q.line ls (sym (ap (λ n. numbers.has t n) here) ∙ away)) ∙ e

    held : (p q : SwitchChannel) → other_at ls p ≡ Some q → is_small q ≡ true → IsHeldBack r ls p q → IsHeldBack r after p q
    held p q to small h j u at e =
        let joined = sym (offered_joined t ls p) ∙ at in
        let old = h j u joined (sym (offered_front t ls p) ∙ e) in
        let there_ : j.other ≡ q = same_Some j.other q (sym (ap (λ (o : Option Joined). option_map (λ (k : Joined). k.other) o) joined) ∙ to) in
        let same : due_at after p j u ≡ due_at ls p j u =
        ap (λ (s : Sizes). requests_for s j.kept.gathered u) (sizes_same ls after p j.other (offered_size t ls p.line) (offered_size t ls j.other.line)) in (
          ap (λ (qs : List Request). takes_at after j.other qs) same
              ∙ by_line j.other (due_at ls p j u) (ap is_small there_ ∙ small) (ap (λ (x : SwitchChannel). has r x) there_ ∙ old.1) (decided (numbers.has t j.other.line)) old.0,
          old.1,
        )

-- a channel that refused is looked at again
pub looked_at : (s t r u : ChannelSet) (ls : Lines) (x : SwitchChannel) → ((p : SwitchChannel) → has t p ≡ false → (has s p ≡ false) × IsApart p x (other_at ls x))
    → ((p : SwitchChannel) → has u p ≡ (has r p && not (is_small x && same_place p x))) → NothingElseMoves s r ls → NothingElseMoves t u ls
looked_at s t r u ls x touches removes i = record {
  small = i.small;
  there = i.there;
  waits = λ p q e out.
      let a = touches p out in
      let h = i.waits p q e a.0 in
      let b = legs_apart s r ls x (other_at ls x) p q i refl e h.0 a.1 in
      (h.0, held p q b.1 h.1, held q p b.0 h.2);
}
  where
    still : (q : SwitchChannel) → (q ≡ x → ⊥) → (same_place q x ≡ true) ⊎ (same_place q x ≡ false) → has r q ≡ true → has u q ≡ true
    still q apart (inl here) known = absurd (apart (place_is q x here))
    still q apart (inr f) known = removes q ∙ ap₂ (λ (a b : Bool). a && not (is_small x && b)) known f ∙ and_not_no true (is_small x)

    held : (p q : SwitchChannel) → (q ≡ x → ⊥) → IsHeldBack r ls p q → IsHeldBack u ls p q
    held p q apart h j v at e = let old = h j v at e in (old.0, still q apart (decided (same_place q x)) old.1)
