-- How lines are made.
use Rattle.std.proofs.Common.{◌≡◌, ℕ, zero, suc, ◌+◌, ◌≤◌, ◌<◌, max, List, [], ◌∷◌, map, take, length, get_or, refl, ap, ◌∙◌, sym, subst, arith}
use Rattle.flow_window.specs.Pool.{Pool, Buffer, weight, pooled}
use Rattle.frame_codec.specs.Spelling.{most_information}
use Rattle.packet_end.specs.Params.{info_of}
use Rattle.joined_line.specs.declared.config.SwitchLineConfig.{SwitchLineConfig}
use Rattle.switch_lines.specs.Making.{made_line, line_share, shares_with, greatest_info}
use Rattle.switch_lines.specs.Pooled.{PooledLine, plain, buffers, shares, KeepWithin, ArePooled}

-- a line as it is made
abbrev pub made_pooled : SwitchLineConfig → PooledLine
made_pooled c = record { line = made_line c; held = []; claim = record { share = line_share c; info = info_of c.params.flow } }

pub plain_made : (cs : List SwitchLineConfig) → plain (map made_pooled cs) ≡ map made_line cs
plain_made [] = refl
plain_made (c ∷ cs) = ap (λ ls. made_line c ∷ ls) (plain_made cs)

no_buffers : (cs : List SwitchLineConfig) → buffers (map made_pooled cs) ≡ []
no_buffers [] = refl
no_buffers (c ∷ cs) = no_buffers cs

all_shares : (cs : List SwitchLineConfig) → shares (map made_pooled cs) ≡ shares_with cs
all_shares [] = refl
all_shares (c ∷ cs) = ap (λ n. line_share c + n) (all_shares cs)

all_within : (cs : List SwitchLineConfig) (size : ℕ) → greatest_info cs ≤ size → KeepWithin size (map made_pooled cs)
all_within [] size most = tt
all_within (c ∷ cs) size most =
    (omega arith, omega (arith, most), all_within cs size (omega (arith, most)))

pub pooled_made : (pool : Pool) (cs : List SwitchLineConfig) (ps : List PooledLine) → ps ≡ map made_pooled cs →
    pool.size ≡ greatest_info cs → pool.size ≤ most_information → length pool.places ≡ shares_with cs → ((w : Buffer → ℕ) → pooled w pool ≡ 0) →
    ArePooled pool ps
pooled_made pool cs ps is size most places none = subst (λ (zs : List PooledLine). ArePooled pool zs) (sym is) (record {
  size = most;
  places = places ∙ sym (all_shares cs);
  exact = λ w. none w ∙ ap (λ (bs : List Buffer). weight w bs) (sym (no_buffers cs));
  within = all_within cs pool.size (omega (arith, size));
})

-- ---- how many buffers they need

pub one_share_more : (cs : List SwitchLineConfig) (i : ℕ) (c : SwitchLineConfig) → i < length cs → c ≡ get_or cs i c →
    shares_with (take (i + 1) cs) ≡ shares_with (take i cs) + line_share c
one_share_more [] i c less is = absurd (omega (arith, less))
one_share_more (x ∷ xs) zero c less is = ap (λ (c : SwitchLineConfig). line_share c + 0) (sym is) ∙ omega arith
one_share_more (x ∷ xs) (suc i) c less is =
    let rest = one_share_more xs i c (omega (arith, less)) is in
    let next : suc i + 1 ≡ suc (i + 1) = omega arith in
    ap (λ n. shares_with (take n (x ∷ xs))) next ∙ omega (arith, rest)

pub one_info_more : (cs : List SwitchLineConfig) (i : ℕ) (c : SwitchLineConfig) → i < length cs → c ≡ get_or cs i c →
    greatest_info (take (i + 1) cs) ≡ max (info_of c.params.flow) (greatest_info (take i cs))
one_info_more [] i c less is = absurd (omega (arith, less))
one_info_more (x ∷ xs) zero c less is = ap (λ (c : SwitchLineConfig). max (info_of c.params.flow) 0) (sym is)
one_info_more (x ∷ xs) (suc i) c less is =
    let rest = one_info_more xs i c (omega (arith, less)) is in
    let next : suc i + 1 ≡ suc (i + 1) = omega arith in
    ap (λ n. greatest_info (take n (x ∷ xs))) next ∙ omega (arith, rest)

pub all_taken : (cs : List SwitchLineConfig) (i : ℕ) → length cs ≤ i → take i cs ≡ cs
all_taken [] zero beyond = refl
all_taken [] (suc i) beyond = refl
all_taken (c ∷ cs) zero beyond = absurd (omega (arith, beyond))
all_taken (c ∷ cs) (suc i) beyond = ap (λ xs. c ∷ xs) (all_taken cs i (omega (arith, beyond)))
