-- Numbers modulo 128 and the counts that they name: how many packets are in flight, how many came and are not released, and
-- what may be covered or released.
use Rattle.std.specs.Prelude.{◌≡◌, ℕ, ◌+◌, ◌%◌, ◌<◌, ◌≤◌, true, false, List, length}
use Rattle.std.proofs.Common.{ap, ◌∙◌, length-append, arith}
use Rattle.std.proofs.lemmas.Bool.{leb-true, leb-false}
use Rattle.data_transfer.specs.Flow.{modulus, shown, ahead_shown}
use Rattle.packet_codec.specs.declared.packet.Numbering.{Numbering}
use Rattle.packet_codec.specs.declared.packet.Numbering.TheVariants.{Modulo8, Modulo128}
use Rattle.data_transfer.specs.declared.flow.Flow.{Flow}
use Rattle.data_transfer.proofs.Windows.{below_small}
use Rattle.data_transfer.specs.Packets.{Datum}
use Rattle.data_transfer.specs.Traffic.{Traffic, distance, in_flight, unreleased, may_release}
use Rattle.packet_laws.specs.History.{Epoch}
use Rattle.packet_laws.specs.Counts.{NamesCounts}

-- the distance of two numbers is that of the counts that they name
pub apart : (a b low high : ℕ) → a ≡ low % 128 → b ≡ high % 128 → low ≤ high → high ≤ low + 127 → low + distance a b ≡ high
apart a b low high from to le within = omega arith

pub more_mod : (a count n : ℕ) → a ≡ count % 128 → (a + n) % 128 ≡ (count + n) % 128
more_mod a count n is = omega arith

-- a number is shown as the count that it names
pub shown_mod : (n : Numbering) (count : ℕ) → shown n (count % 128) ≡ shown n count
shown_mod Modulo8 count = omega arith
shown_mod Modulo128 count = omega arith

pub shown_is : (n : Numbering) (a count : ℕ) → a ≡ count % 128 → shown n a ≡ shown n count
shown_is n a count is = ap (λ (q : ℕ). shown n q) is ∙ shown_mod n count

-- a number that is shown is as far ahead of one that is kept as its count
pub ahead_is : (n : Numbering) (a r low high : ℕ) → a ≡ low % 128 → r ≡ shown n high → low ≤ high → high < low + modulus n
    → low + ahead_shown n a r ≡ high
ahead_is Modulo8 a r low high from to le within = omega arith
ahead_is Modulo128 a r low high from to le within = omega arith

-- what went and is not covered is in flight
pub flight_is : (flow : Flow) (t : Traffic) (e : Epoch) → flow.window < modulus flow.numbering → (k : NamesCounts flow t e) → e.covered + in_flight t ≡ length k.gone
flight_is flow t e small k =
    let within = k.went_within in
    let most = below_small flow small in
    apart t.covered t.send_number e.covered (length k.gone) k.covered k.send k.covered_went (omega arith)

-- what came and is not released was taken or waits
pub unreleased_is : (flow : Flow) (t : Traffic) (e : Epoch) → flow.window < modulus flow.numbering → NamesCounts flow t e → e.released + unreleased t ≡ length e.taken + length t.arrived
unreleased_is flow t e small k =
    let taken = k.released_taken in
    let within = k.came_within in
    let most = below_small flow small in
    apart t.released t.receive_number e.released (length e.taken + length t.arrived) k.released k.expected (omega arith) (omega arith)

-- what was sent went or waits
pub gone_is : (flow : Flow) (t : Traffic) (e : Epoch) → (k : NamesCounts flow t e) → length k.gone + length t.waiting ≡ length e.sent
gone_is flow t e k =
    let whole = length-append k.gone t.waiting in
    let sent = ap (λ (l : List Datum). length l) k.sent in
    omega arith

pub covered_within : (flow : Flow) (t : Traffic) (e : Epoch) → NamesCounts flow t e → e.covered ≤ length e.sent
covered_within flow t e k =
    let went = k.covered_went in
    let sent = gone_is flow t e k in
    omega arith

-- what was sent and is not covered is in flight or waits
pub uncovered_is : (flow : Flow) (t : Traffic) (e : Epoch) → flow.window < modulus flow.numbering → NamesCounts flow t e → e.covered + (in_flight t + length t.waiting) ≡ length e.sent
uncovered_is flow t e small k =
    let flight = flight_is flow t e small k in
    let sent = gone_is flow t e k in
    omega arith

-- no more can be covered than was sent
pub covered_is_sent : (flow : Flow) (n : ℕ) (t : Traffic) (e : Epoch) → flow.window < modulus flow.numbering → NamesCounts flow t e → n ≤ in_flight t → e.covered + n ≤ length e.sent
covered_is_sent flow n t e small k h = let flight = uncovered_is flow t e small k in omega arith

-- what may be released was taken, and nothing else may
pub released_is_taken : (flow : Flow) (n : ℕ) (t : Traffic) (e : Epoch) → flow.window < modulus flow.numbering → NamesCounts flow t e → may_release n t ≡ true → e.released + n ≤ length e.taken
released_is_taken flow n t e small k h =
    let room = leb-true (n + length t.arrived) (unreleased t) h in
    let is = unreleased_is flow t e small k in
    omega arith

pub beyond_taken : (flow : Flow) (n : ℕ) (t : Traffic) (e : Epoch) → flow.window < modulus flow.numbering → NamesCounts flow t e → may_release n t ≡ false → length e.taken < e.released + n
beyond_taken flow n t e small k h =
    let room = leb-false (n + length t.arrived) (unreleased t) h in
    let is = unreleased_is flow t e small k in
    omega arith
