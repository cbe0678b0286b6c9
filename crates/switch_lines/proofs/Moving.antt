-- What is left to relay on lines in the pool that they share, after each call.
use Rattle.std.proofs.Common.{◌≡◌, ◌≢◌, ℕ, suc, ◌<◌, ◌≤◌, true, false, List, [], ◌∷◌, map, length, set, get_or, nat_lt, Option, Some, None, is_some, option_map, zero, refl, sym, ap, subst, ◌∙◌, true≢false, arith}
use Rattle.std.specs.Prelude.{slice_get, replicate}
use Rattle.std.proofs.lemmas.Bool.{ltb-true}
use Rattle.std.proofs.lemmas.Option.{none-some}
use Rattle.data_transfer.specs.TakenView.{maybe_front}
use Rattle.data_transfer.specs.Traffic.{Taken}
use Rattle.data_transfer.specs.declared.taken.Front.{Front}
use Rattle.switch_joins.specs.ChannelSet.{has, is_small}
use Rattle.switch_joins.specs.declared.channel_set.ChannelSet.{ChannelSet}
use Rattle.joined_line.specs.declared.config.SwitchLineConfig.{SwitchLineConfig}
use Rattle.switch_lines.specs.Making.{made_line}
use Rattle.switch_lines.specs.Lines.{SwitchChannel, Joined, SwitchLine, flat, nth_joined, with_nth_joined, joined_on, joined_at}
use Rattle.switch_lines.specs.Pooled.{PooledLine, plain}
use Rattle.switch_lines.specs.Switch.{without_joins}
use Rattle.switch_lines.specs.Waiting.{other_at, NothingElseMoves}
use Rattle.switch_lines.proofs.Calmer.{IsCalm, same_layer}
use Rattle.switch_lines.proofs.Touched.{count_written}
use Rattle.switch_lines.proofs.Pooled.{Pooled, plain_set, plain_get, within_plain}
use Rattle.switch_lines.proofs.Waiting.{leads, written_calm, written_others, place_same, calm_kept, touched_kept, joined_kept, none_joined, nth_set, got_written}
use Rattle.switch_joins.proofs.Slots.{nth_apart, set_size}
use Rattle.switch_joins.proofs.Apart.{and_both}
use Rattle.switch_joins.proofs.ChannelSets.{is_so_small, IsApart}

abbrev Lines : Type 0
Lines = List SwitchLine

abbrev pub other_on : List (Option Joined) → ℕ → Option SwitchChannel
other_on js c = option_map (λ (j : Joined). j.other) (nth_joined js c)

-- ---- small channels

pub small_channel : (x : SwitchChannel) → is_small x ≡ true → x.channel < 63
small_channel x e = ltb-true x.channel 63 (and_both (nat_lt x.line 64) (nat_lt x.channel 63) e).1

-- ---- one line changes

-- all its channels are calm
pub one_calm_at : (s r : ChannelSet) (f : SwitchLine → SwitchLine) (ps : Pooled) (n : ℕ) (old new : PooledLine) → n < length ps → old ≡ get_or ps n old
    → new.line ≡ f old.line
    → ((d : ℕ) → (leads (nth_joined (f old.line).joined d) ≡ leads (nth_joined old.line.joined d)) × IsCalm old.line.end.layer (f old.line).end.layer d)
    → NothingElseMoves s r (plain ps) → NothingElseMoves s r (plain (set ps n new))
one_calm_at s r f ps n old new less is done calm i =
    subst (λ (ls : Lines). NothingElseMoves s r ls) (sym (plain_set ps n new ∙ ap (λ (l : SwitchLine). set (plain ps) n l) done))
    (calm_kept s r (plain ps) (set (plain ps) n (f old.line)) (count_written (plain ps) n (f old.line))
    (λ x. written_calm (plain ps) n old.line (f old.line) x (within_plain ps n less) (plain_get ps n old is) (λ same. calm x.channel)) i)

pub one_calm : (s r : ChannelSet) (f : SwitchLine → SwitchLine) (ps : Pooled) (n : ℕ) (old new : PooledLine) → n < length ps → old ≡ get_or ps n old
    → new.line ≡ f old.line
    → ((l : SwitchLine) (d : ℕ) → (leads (nth_joined (f l).joined d) ≡ leads (nth_joined l.joined d)) × IsCalm l.end.layer (f l).end.layer d)
    → NothingElseMoves s r (plain ps) → NothingElseMoves s r (plain (set ps n new))
one_calm s r f ps n old new less is done calm i = one_calm_at s r f ps n old new less is done (calm old.line) i

-- one of its channels is touched
pub one_stirred : (s t r : ChannelSet) (f : SwitchLine → SwitchLine) (ps zs : Pooled) (n c : ℕ) (o : Option SwitchChannel) (old new : PooledLine)
    → n < length ps → old ≡ get_or ps n old → new.line ≡ f old.line → zs ≡ ps → o ≡ other_at (plain zs) (record { line = n; channel = c })
    → ((p : SwitchChannel) → has t p ≡ false → (has s p ≡ false) × IsApart p (record { line = n; channel = c }) o)
    → ((l : SwitchLine) (d : ℕ) → other_on (f l).joined d ≡ other_on l.joined d)
    → ((l : SwitchLine) (d : ℕ) → d < 63 → d ≢ c → (leads (nth_joined (f l).joined d) ≡ leads (nth_joined l.joined d)) × IsCalm l.end.layer (f l).end.layer d)
    → NothingElseMoves s r (plain ps) → NothingElseMoves t r (plain (set ps n new))
one_stirred s t r f ps zs n c o old new less is done seen found touches others calm i =
    subst (λ (ls : Lines). NothingElseMoves t r ls) (sym (plain_set ps n new ∙ ap (λ (l : SwitchLine). set (plain ps) n l) done))
    (touched_kept s t r (plain ps) ms x o (count_written (plain ps) n (f old.line)) (found ∙ ap (λ (ys : Pooled). other_at (plain ys) x) seen) touches (λ y. written_others (plain ps) n old.line (f old.line) y inside at (others old.line))
    (λ y small apart. written_calm (plain ps) n old.line (f old.line) y inside at
    (λ same. calm old.line y.channel (small_channel y small) (λ e. true≢false (sym (place_same y x same e) ∙ apart)))) i)
  where
    x : SwitchChannel
    x = record { line = n; channel = c }

    ms : Lines
    ms = set (plain ps) n (f old.line)

    inside : n < length (plain ps)
    inside = within_plain ps n less

    at : old.line ≡ get_or (plain ps) n old.line
    at = plain_get ps n old is

-- a channel is joined there, or its join ends
pub one_joined : (s t r : ChannelSet) (ps : Pooled) (n c : ℕ) (j : Option Joined) (o : Option SwitchChannel) (old new : PooledLine) → n < length ps → n < 64
    → old ≡ get_or ps n old → new.line ≡ record old.line { joined = with_nth_joined old.line.joined c j }
    → length new.line.joined ≤ 32 → o ≡ option_map (λ (k : Joined). k.other) j → ((q : SwitchChannel) → o ≡ Some q → q.line < length ps)
    → ((p : SwitchChannel) → has t p ≡ false → (has s p ≡ false) × IsApart p (record { line = n; channel = c }) (other_at (plain ps) (record { line = n; channel = c })) × IsApart p (record { line = n; channel = c }) o)
    → NothingElseMoves s r (plain ps) → NothingElseMoves t r (plain (set ps n new))
one_joined s t r ps n c j o old new less line is done few to leads_there touches i =
    subst (λ (ls : Lines). NothingElseMoves t r ls) (sym (plain_set ps n new ∙ ap (λ (l : SwitchLine). set (plain ps) n l) done))
    (joined_kept s t r (plain ps) ms x o (count_written (plain ps) n l) (λ q e. within_plain ps q.line (leads_there q e)) touches
    (λ y apart. written_calm (plain ps) n old.line l y inside at
    (λ same. (
      ap leads (nth_apart old.line.joined c y.channel j (λ e. true≢false (sym (place_same y x same e) ∙ apart))),
      same_layer old.line.end.layer y.channel,
    )))
    own i)
  where
    x : SwitchChannel
    x = record { line = n; channel = c }

    l : SwitchLine
    l = record old.line { joined = with_nth_joined old.line.joined c j }

    ms : Lines
    ms = set (plain ps) n l

    inside : n < length (plain ps)
    inside = within_plain ps n less

    at : old.line ≡ get_or (plain ps) n old.line
    at = plain_get ps n old is

    slot : (k : Option Joined) (q : SwitchChannel) → nth_joined (with_nth_joined old.line.joined c j) c ≡ k → option_map (λ (z : Joined). z.other) k ≡ Some q
        → (o ≡ Some q) × (is_small x ≡ true)
    slot None q e f = absurd (none-some q f)
    slot (Some k) q e f =
        let there_ = nth_set old.line.joined c j k e in
        let size : length l.joined ≤ 32 = subst (λ (z : SwitchLine). length z.joined ≤ 32) done few in
        let same = set_size old.line.joined c j in
        (to ∙ ap (λ (z : Option Joined). option_map (λ (y : Joined). y.other) z) there_.0 ∙ f, is_so_small x line (omega (arith, there_.1, size, same)))

    own : (q : SwitchChannel) → other_at ms x ≡ Some q → (o ≡ Some q) × (is_small x ≡ true)
    own q e =
        slot (nth_joined (with_nth_joined old.line.joined c j) c) q refl
        (sym (ap (λ (z : Option SwitchLine). option_map (λ (y : Joined). y.other) (joined_on z c)) (got_written (plain ps) n l inside)) ∙ e)

-- ---- lines without a join

nothing_on : (js : List (Option Joined)) (i : ℕ) (j : Joined) → flat (slice_get (map (λ (o : Option Joined). None) js) i) ≡ Some j → ⊥
nothing_on [] i j e = none-some j e
nothing_on (x ∷ xs) zero j e = none-some j e
nothing_on (x ∷ xs) (suc i) j e = nothing_on xs i j e

none_on : (js : List (Option Joined)) (c : ℕ) (j : Joined) → nth_joined (map (λ (o : Option Joined). None) js) c ≡ Some j → ⊥
none_on js zero j e = none-some j e
none_on js (suc i) j e = nothing_on js i j e

line_without : (ls : Lines) (n c : ℕ) (j : Joined) → joined_on (slice_get (map without_joins ls) n) c ≡ Some j → ⊥
line_without [] n c j e = none-some j e
line_without (l ∷ ls) zero c j e = none_on l.joined c j e
line_without (l ∷ ls) (suc n) c j e = line_without ls n c j e

no_other : (o : Option Joined) (q : SwitchChannel) → ((j : Joined) → o ≡ Some j → ⊥) → option_map (λ (j : Joined). j.other) o ≡ Some q → ⊥
no_other None q none e = none-some q e
no_other (Some j) q none e = none j refl

pub restarted_moves : (s r : ChannelSet) (ls : Lines) → NothingElseMoves s r (map without_joins ls)
restarted_moves s r ls = none_joined s r (map without_joins ls) (λ p q e. no_other (joined_at (map without_joins ls) p) q (line_without ls p.line p.channel) e)

nothing_made : (count i : ℕ) (j : Joined) → flat (slice_get (replicate count None) i) ≡ Some j → ⊥
nothing_made zero i j e = none-some j e
nothing_made (suc count) zero j e = none-some j e
nothing_made (suc count) (suc i) j e = nothing_made count i j e

none_made : (count c : ℕ) (j : Joined) → nth_joined (replicate count None) c ≡ Some j → ⊥
none_made count zero j e = none-some j e
none_made count (suc i) j e = nothing_made count i j e

line_made : (cs : List SwitchLineConfig) (n c : ℕ) (j : Joined) → joined_on (slice_get (map made_line cs) n) c ≡ Some j → ⊥
line_made [] n c j e = none-some j e
line_made (x ∷ xs) zero c j e = none_made x.params.channels c j e
line_made (x ∷ xs) (suc n) c j e = line_made xs n c j e

pub made_moves : (s r : ChannelSet) (cs : List SwitchLineConfig) → NothingElseMoves s r (map made_line cs)
made_moves s r cs = none_joined s r (map made_line cs) (λ p q e. no_other (joined_at (map made_line cs) p) q (line_made cs p.line p.channel) e)

-- ---- what is shown to wait

pub shown_waits : (o : Option Taken) (f : Option Front) (t : Taken) → f ≡ maybe_front o → o ≡ Some t → is_some f ≡ true
shown_waits o f t shown e = ap is_some (shown ∙ ap maybe_front e)
