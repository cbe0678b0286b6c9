-- Closing the channels one by one.
use Rattle.std.proofs.Common.{◌≡◌, ℕ, zero, suc, ◌+◌, ◌<◌, ◌≤◌, Bool, true, false, List, [], ◌∷◌, ◌++◌, length, set, get_or, take, drop, map, refl, sym, ap, ◌∙◌, arith, add-one, append_assoc, length-append}
use Rattle.std.specs.Prelude.{Some, slice_get, replicate, Vec}
use Rattle.std.specs.Vec.{with_items}
use Rattle.std.proofs.lemmas.List.{with_items_is, length-map}
use Rattle.packet_codec.specs.ClearCause.{out_of_order}
use Rattle.packet_codec.specs.Diagnostic.{no_information}
use Rattle.data_transfer.specs.Packets.{Note, Reason, Closed}
use Rattle.packet_channel.specs.Channel.{Channel, closed_channel, entered}
use Rattle.packet_channel.specs.Channel.ChannelState.{Transfer}
use Rattle.packet_channel.specs.Held.{Channel as Holder}
use Rattle.data_transfer.specs.declared.flow.Flow.{Flow}
use Rattle.packet_layer.specs.Held.{plain, buffers, AllFit}
use Rattle.packet_layer.specs.Layer.{closing_notes, had_call, standing_channels}

-- a closed channel, which holds nothing
abbrev pub closed : Holder
closed = record { channel = closed_channel; held = [] }

-- the first i closed
abbrev pub closed_to : ℕ → List Holder → List Holder
closed_to i chs = map (λ ch. closed) (take i chs) ++ drop i chs

more : (chs : List Holder) (i : ℕ) → i < length chs → set (closed_to i chs) i closed ≡ closed_to (suc i) chs
more [] i h = absurd (omega arith)
more (x ∷ xs) zero h = refl
more (x ∷ xs) (suc i) h = ap (λ zs. closed ∷ zs) (more xs i (omega arith))

-- none of them holds a buffer
pub none_held : (chs : List Holder) → buffers (map (λ ch. closed) chs) ≡ []
none_held [] = refl
none_held (x ∷ xs) = none_held xs

pub all_fit : (flow : Flow) (chs : List Holder) → AllFit flow (map (λ ch. closed) chs)
all_fit flow [] = tt
all_fit flow (x ∷ xs) = (record { arrived = omega arith; held = omega arith; arrived_short = refl; waiting_short = refl }, all_fit flow xs)

pub plain_closed : (chs : List Holder) → plain (map (λ ch. closed) chs) ≡ map (λ ch. closed_channel) (plain chs)
plain_closed [] = refl
plain_closed (x ∷ xs) = ap (λ zs. closed_channel ∷ zs) (plain_closed xs)

next : (chs : List Holder) (i : ℕ) → slice_get (closed_to i chs) i ≡ slice_get chs i
next [] zero = refl
next [] (suc i) = refl
next (x ∷ xs) zero = refl
next (x ∷ xs) (suc i) = next xs i

split : (chs : List Channel) (i : ℕ) (ch : Channel) → slice_get chs i ≡ Some ch → drop i chs ≡ ch ∷ drop (suc i) chs
split [] i ch h = absurd (cc)
split (x ∷ xs) zero ch h = let e : x ≡ ch = cc in ap (λ y. y ∷ xs) e
split (x ∷ xs) (suc i) ch h = split xs i ch h

pub closed_more : (chs now : List Holder) (i : ℕ) → i < length chs → now ≡ closed_to i chs → set now i closed ≡ closed_to (i + 1) chs
closed_more chs now i h e = rw (e, add-one) (more chs i h)

pub closed_next : (chs now : List Holder) (i : ℕ) (ch : Holder) → now ≡ closed_to i chs → slice_get now i ≡ Some ch → slice_get chs i ≡ Some ch
closed_next chs now i ch e h = sym (next chs i) ∙ (rw e at h)

with_call : (chs : List Channel) (i j k : ℕ) (ch : Channel) (reason : Reason) (notes : List Note) → j ≡ suc i → k ≡ suc j → slice_get chs i ≡ Some ch → had_call ch.state ≡ true → (notes ++ Closed j out_of_order no_information reason ∷ []) ++ closing_notes k reason (drop j chs) ≡ notes ++ closing_notes j reason (drop i chs)
with_call chs i j k ch reason notes e f h call = rw (split chs i ch h, call, append_assoc, f, e) refl

without_call : (chs : List Channel) (i j k : ℕ) (ch : Channel) (reason : Reason) (notes : List Note) → j ≡ suc i → k ≡ suc j → slice_get chs i ≡ Some ch → had_call ch.state ≡ false → notes ++ closing_notes k reason (drop j chs) ≡ notes ++ closing_notes j reason (drop i chs)
without_call chs i j k ch reason notes e f h call = rw (split chs i ch h, call, f, e) refl

pub notes_with_call : (chs : List Channel) (i : ℕ) (ch : Channel) (reason : Reason) (notes : List Note) → slice_get chs i ≡ Some ch → had_call ch.state ≡ true → (notes ++ Closed (i + 1) out_of_order no_information reason ∷ []) ++ closing_notes (i + 1 + 1) reason (drop (i + 1) chs) ≡ notes ++ closing_notes (i + 1) reason (drop i chs)
notes_with_call chs i ch reason notes h call = with_call chs i (i + 1) (i + 1 + 1) ch reason notes (omega arith) (omega arith) h call

pub notes_without_call : (chs : List Channel) (i : ℕ) (ch : Channel) (reason : Reason) (notes : List Note) → slice_get chs i ≡ Some ch → had_call ch.state ≡ false → notes ++ closing_notes (i + 1 + 1) reason (drop (i + 1) chs) ≡ notes ++ closing_notes (i + 1) reason (drop i chs)
notes_without_call chs i ch reason notes h call = without_call chs i (i + 1) (i + 1 + 1) ch reason notes (omega arith) (omega arith) h call

pub length_more : (notes : List Note) (n : Note) → length (notes ++ n ∷ []) ≡ length notes + 1
length_more notes n = omega (arith, length-append notes (n ∷ []))

-- all of them closed
pub all_closed : (chs : List Holder) (i : ℕ) → length chs ≤ i → closed_to i chs ≡ map (λ ch. closed) chs
all_closed [] zero few = refl
all_closed [] (suc i) few = refl
all_closed (x ∷ xs) zero few = absurd (omega (arith, few))
all_closed (x ∷ xs) (suc i) few = ap (λ zs. closed ∷ zs) (all_closed xs i (omega (arith, few)))

-- ---- as a layer is made

abbrev pub stood : Holder
stood = record { channel = entered Transfer closed_channel; held = [] }

abbrev pub made : Bool → ℕ → List Holder
made true zero = []
made true (suc n) = stood ∷ replicate n closed
made false n = replicate n closed

pub made_standing : (cs : List Holder) (n : ℕ) (first new : Holder) → cs ≡ replicate n closed → 1 ≤ n →
    first ≡ get_or cs 0 first → new ≡ record first { channel = entered Transfer first.channel } →
    set cs 0 new ≡ made true n
made_standing cs zero first new all some e is = absurd (omega (arith, some))
made_standing cs (suc n) first new all some e is =
    let same : first ≡ closed = e ∙ ap (λ xs. get_or xs 0 first) all in
    ap (λ xs. set xs 0 new) all
    ∙ ap (λ (x : Holder). x ∷ replicate n closed)
    (is ∙ ap (λ (x : Holder). record x { channel = entered Transfer x.channel }) same)

none_replicated : (n : ℕ) → buffers (replicate n closed) ≡ []
none_replicated zero = refl
none_replicated (suc n) = none_replicated n

pub made_holds : (standing : Bool) (n : ℕ) → buffers (made standing n) ≡ []
made_holds true zero = refl
made_holds true (suc n) = none_replicated n
made_holds false n = none_replicated n

replicated_fit : (flow : Flow) (n : ℕ) → AllFit flow (replicate n closed)
replicated_fit flow zero = tt
replicated_fit flow (suc n) = (record { arrived = omega arith; held = omega arith; arrived_short = refl; waiting_short = refl }, replicated_fit flow n)

pub made_fit : (flow : Flow) (standing : Bool) (n : ℕ) → AllFit flow (made standing n)
made_fit flow true zero = tt
made_fit flow true (suc n) = (record { arrived = omega arith; held = omega arith; arrived_short = refl; waiting_short = refl }, replicated_fit flow n)
made_fit flow false n = replicated_fit flow n

plain_replicated : (n : ℕ) → plain (replicate n closed) ≡ replicate n closed_channel
plain_replicated zero = refl
plain_replicated (suc n) = ap (λ zs. closed_channel ∷ zs) (plain_replicated n)

pub made_plain : (standing : Bool) (n : ℕ) →
    plain (made standing n) ≡ standing_channels standing (replicate n closed_channel)
made_plain true zero = refl
made_plain true (suc n) = ap (λ zs. entered Transfer closed_channel ∷ zs) (plain_replicated n)
made_plain false n = plain_replicated n

length_replicated : (n : ℕ) → length (replicate n closed) ≡ n
length_replicated zero = refl
length_replicated (suc n) = ap (λ m. suc m) (length_replicated n)

pub made_length : (standing : Bool) (n : ℕ) → length (made standing n) ≡ n
made_length true zero = refl
made_length true (suc n) = ap (λ m. suc m) (length_replicated n)
made_length false n = length_replicated n

-- closed channels are written over all
pub written_closed : {Z : Type 0} (v : Vec Holder Z) (old new : List Holder) → new ≡ map (λ ch. closed) old → old ≡ v.items →
    (with_items v new).items ≡ map (λ ch. closed) v.items
written_closed v old new is same =
    let all = is ∙ ap (map (λ (ch : Holder). closed)) same in
    with_items_is v new (ap length all ∙ length-map v.items (λ (ch : Holder). closed) ∙ sym v.ok.0) ∙ all
