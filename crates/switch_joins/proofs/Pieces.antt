-- The pieces that a packet is cut into, by their places.
use Rattle.std.proofs.Common.{◌≡◌, ℕ, zero, suc, ◌+◌, ◌-◌, ◌*◌, ◌/◌, ◌<◌, ◌≤◌, Bool, true, false, ◌==◌, if◌then◌else◌, List, [], ◌∷◌, ◌++◌, length, take, drop, map, min, refl, sym, ap, ap₂, ◌∙◌, arith, Some, length-append}
use Rattle.std.specs.Prelude.{slice_get}
use Rattle.std.proofs.lemmas.Bool.{le-leb, lt-leb}
use Rattle.std.proofs.lemmas.Option.{same_Some, none-some}
use Rattle.std.proofs.lemmas.List.{length-drop, drop-drop}
use Rattle.std.proofs.Math.Seq.{take-length}
use Rattle.std.proofs.Math.Bool.{and-true, or-false, or-true, and-false}
use Rattle.std.proofs.Math.Nat.{div-mul-le_self, mul-le-mul_right}
use Rattle.epochs.specs.Item.{DataPacket}
use Rattle.packet_channel.specs.Channel.{Request}
use Rattle.data_transfer.specs.Cutting.{full_packets, cut_after, cut}
use Rattle.switch_joins.specs.Turning.{Gathered, going_on, flushed}
use Rattle.switch_joins.specs.TurnedView.{piece}
use Rattle.switch_joins.proofs.Cut.{cut_count, all_cut}

all_piece : (size : ℕ) (d : DataPacket) → length d.octets ≤ size → piece size d.octets d ≡ d
all_piece size d le =
    let small : min (length d.octets) size ≡ length d.octets = omega (arith, le) in
    rw (small, le-leb (length d.octets) size le)
    (λ i. record {
      octets = take-length d.octets i;
      more = or-false d.more i;
      qualified = d.qualified;
      delivery = and-true d.delivery i;
    })

full_piece : (size : ℕ) (d : DataPacket) → size < length d.octets →
    piece size d.octets d ≡ record d { octets = take size d.octets; more = true; delivery = false }
full_piece size d lt =
    let small : min (length d.octets) size ≡ size = omega (arith, lt) in
    rw (small, lt-leb (length d.octets) size lt)
    (λ i. record { octets = take size d.octets; more = or-true d.more i; qualified = d.qualified; delivery = and-false d.delivery i })

at_first : (size : ℕ) (d : DataPacket) → Some (piece size d.octets d) ≡ Some (piece size (drop (0 * size) d.octets) d)
at_first size d = let none : 0 ≡ 0 * size = omega arith in ap (λ n. Some (piece size (drop n d.octets) d)) none

piece_at : (full size : ℕ) (d : DataPacket) (k : ℕ) → 1 ≤ size → full * size ≤ length d.octets - 1 →
    length d.octets ≤ full * size + size → k ≤ full →
    slice_get (cut_after full size d) k ≡ Some (piece size (drop (k * size) d.octets) d)
piece_at zero size d zero some low high le = ap Some (sym (all_piece size d (omega (arith, high)))) ∙ at_first size d
piece_at zero size d (suc k) some low high le = absurd (omega (arith, le))
piece_at (suc full) size d zero some low high le = ap Some (sym (full_piece size d (omega (arith, some, low)))) ∙ at_first size d
piece_at (suc full) size d (suc k) some low high le =
    let others = length-drop size d.octets in
    piece_at full size (record d { octets = drop size d.octets }) k some (omega (arith, low, others)) (omega (arith, high, others)) (omega (arith, le))
    ∙ ap (λ octets. Some (piece size octets d)) (drop-drop (k * size) size d.octets ∙ ap (λ n. drop n d.octets) (omega arith))

pub cut_at : (size : ℕ) (d : DataPacket) (k : ℕ) → 1 ≤ size → k < length (cut size d) →
    slice_get (cut size d) k ≡ Some (piece size (drop (k * size) d.octets) d)
cut_at size d k some lt =
    let count = cut_count (full_packets size d.octets) size d in
    piece_at (full_packets size d.octets) size d k some (div-mul-le_self (length d.octets - 1) size) (all_cut size d.octets some)
    (omega (arith, lt, count))

-- ---- with what goes first

first_count : (g : Gathered) → length (flushed g) ≡ (if length g.octets == 0 then 0 else 1)
first_count g = by_length (length g.octets == 0)
  where
    by_length : (b : Bool) → length (if b then [] else going_on g ∷ []) ≡ (if b then 0 else 1)
    by_length true = refl
    by_length false = refl

rest_count : (waits : Bool) (size : ℕ) (d : DataPacket) →
    length (if waits then [] else cut size d) ≡ (if waits then 0 else (length d.octets - 1) / size + 1)
rest_count true size d = refl
rest_count false size d = cut_count (full_packets size d.octets) size d

pub made_count : (g : Gathered) (waits : Bool) (size : ℕ) (d : DataPacket) →
    length (flushed g ++ (if waits then [] else cut size d))
    ≡ (if length g.octets == 0 then 0 else 1) + (if waits then 0 else (length d.octets - 1) / size + 1)
made_count g waits size d =
    length-append (flushed g) (if waits then [] else cut size d) ∙ ap₂ (λ a b. a + b) (first_count g) (rest_count waits size d)

-- what is behind that
behind_first : (g : Gathered) (ds : List DataPacket) (n : ℕ) → (if length g.octets == 0 then 0 else 1) ≤ n →
    slice_get (map Request.Sending (flushed g ++ ds)) n
    ≡ slice_get (map Request.Sending ds) (n - (if length g.octets == 0 then 0 else 1))
behind_first g ds n = by_length (length g.octets == 0) n
  where
    by_length : (b : Bool) (n : ℕ) → (if b then 0 else 1) ≤ n →
        slice_get (map Request.Sending ((if b then [] else going_on g ∷ []) ++ ds)) n ≡ slice_get (map Request.Sending ds) (n - (if b then 0 else 1))
    by_length true n le = let same : n ≡ n - 0 = omega arith in ap (λ m. slice_get (map Request.Sending ds) m) same
    by_length false zero le = absurd (omega (arith, le))
    by_length false (suc n) le = let same : n ≡ suc n - 1 = omega arith in ap (λ m. slice_get (map Request.Sending ds) m) same

asked_at : (ds : List DataPacket) (n : ℕ) (d : DataPacket) → slice_get ds n ≡ Some d → slice_get (map Request.Sending ds) n ≡ Some (Request.Sending d)
asked_at [] n d e = absurd (none-some d e)
asked_at (x ∷ ds) zero d e = ap (λ y. Some (Request.Sending y)) (same_Some x d e)
asked_at (x ∷ ds) (suc n) d e = asked_at ds n d e

pub rest_at : (g : Gathered) (waits : Bool) (size : ℕ) (d : DataPacket) (n : ℕ) → 1 ≤ size →
    (if length g.octets == 0 then 0 else 1) ≤ n → n < length (flushed g ++ (if waits then [] else cut size d)) →
    slice_get (map Request.Sending (flushed g ++ (if waits then [] else cut size d))) n
    ≡ Some (Request.Sending (piece size (drop ((n - (if length g.octets == 0 then 0 else 1)) * size) d.octets) d))
rest_at g true size d n some le lt = absurd (omega (arith, le, lt, made_count g true size d))
rest_at g false size d n some le lt =
    let k = n - (if length g.octets == 0 then 0 else 1) in
    behind_first g (cut size d) n le
    ∙ asked_at (cut size d) k (piece size (drop (k * size) d.octets) d)
    (cut_at size d k some (omega (arith, le, lt, length-append (flushed g) (cut size d), first_count g)))

-- its octets are there
pub rest_there : (g : Gathered) (waits : Bool) (size : ℕ) (d : DataPacket) (n : ℕ) → 1 ≤ size →
    (if length g.octets == 0 then 0 else 1) ≤ n → n < length (flushed g ++ (if waits then [] else cut size d)) →
    (n - (if length g.octets == 0 then 0 else 1)) * size ≤ length d.octets
rest_there g waits size d n some le lt =
    let full = full_packets size d.octets in
    let count = made_count g waits size d in
    let below : n - (if length g.octets == 0 then 0 else 1) ≤ full = by_waits waits (omega (arith, le, lt, count)) in
    let all = div-mul-le_self (length d.octets - 1) size in
    let times = mul-le-mul_right {m = n - (if length g.octets == 0 then 0 else 1)} {n = full} size below in
    omega (arith, all, times)
  where
    by_waits : (b : Bool) → n - (if length g.octets == 0 then 0 else 1) < (if b then 0 else full_packets size d.octets + 1) →
        n - (if length g.octets == 0 then 0 else 1) ≤ full_packets size d.octets
    by_waits true lt = absurd (omega (arith, lt))
    by_waits false lt = omega (arith, lt)
