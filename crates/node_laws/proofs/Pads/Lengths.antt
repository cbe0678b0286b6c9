-- What a PAD answers to a message, and its indication of break, fit into one Data packet.
use Rattle.std.proofs.Common.{◌≡◌, ℕ, suc, ◌%◌, ◌≤◌, ◌+◌, ◌*◌, Bool, true, false, if◌then◌else◌, List, [], ◌∷◌, length, map, fold, Option, Some, None, Result, Ok, Err, refl, sym, ap, subst, arith}
use Rattle.std.proofs.lemmas.List.{length-append}
use Rattle.std.specs.Prelude.{filter, is_err}
use Rattle.x29_messages.specs.MessageForm.{MessageForm, octets_of, pairs_octets}
use Rattle.x29_messages.specs.Reading.{message_of}
use Rattle.x29_messages.proofs.Laws.{message_found}
use Rattle.x29_messages.specs.declared.message.Message.{Message}
use Rattle.x29_messages.specs.declared.message.Message.TheVariants as message
use Rattle.x29_messages.specs.declared.fault.MessageFault.{MessageFault}
use Rattle.pad_terminal.specs.Settings.{Change, one_more, after_pairs, refused, readings, reading_of, numbers_or_all}
use Rattle.pad_terminal.specs.Messages as messages
use Rattle.pad_terminal.specs.Terminal.{TerminalState}
use Rattle.pad_terminal.specs.declared.answers.Reply.{Reply}
use Rattle.pad_terminal.specs.declared.answers.Reply.TheVariants as reply
use Rattle.pad_terminal.specs.declared.settings.Settings.{Settings}

abbrev pub IsShort : Message → Type 0
IsShort m = length (octets_of m) ≤ 128

pairs_length : (pairs : List (ℕ × ℕ)) → length (pairs_octets pairs) ≡ 2 * length pairs
pairs_length [] = refl
pairs_length (p ∷ ps) = let rest : length (pairs_octets ps) ≡ 2 * length ps = pairs_length ps in omega (arith, rest)

map_length : {A B : Type 0} (f : A → B) (xs : List A) → length (map f xs) ≡ length xs
map_length f [] = refl
map_length f (x ∷ xs) = ap suc (map_length f xs)

-- an indication of 63 pairs at most
pub pairs_short : (pairs : List (ℕ × ℕ)) → length pairs ≤ 63 → length (0 ∷ pairs_octets pairs) ≤ 128
pairs_short pairs few = let count : length (pairs_octets pairs) ≡ 2 * length pairs = pairs_length pairs in omega (arith, count)

indication_short : (report : List _) → length report ≤ 63 → IsShort (messages.indication report)
unfolding octets_of
indication_short report few =
    pairs_short (map messages.indicated report) (subst (λ (n : ℕ). n ≤ 63) (sym (map_length messages.indicated report)) few)

error_short : (kind : ℕ) (code : Option ℕ) → IsShort (message.Error kind code)
unfolding octets_of
error_short kind None = omega arith
error_short kind (Some code) = omega arith

-- ---- reports

filter_length : {A : Type 0} (p : A → Bool) (xs : List A) → length (filter p xs) ≤ length xs
filter_length p [] = omega arith
filter_length {A} p (x ∷ xs) = by (p x) (filter_length p xs)
  where
    by : (v : Bool) → length (filter p xs) ≤ length xs → length (if v then x ∷ filter p xs else filter p xs) ≤ length (x ∷ xs)
    by true rest = omega (arith, rest)
    by false rest = omega (arith, rest)

fold_length : (pairs : List (ℕ × ℕ)) (c : Change) → length (fold one_more c pairs).report ≡ length c.report + length pairs
fold_length [] c = omega arith
fold_length (p ∷ ps) c =
    let rest : length (fold one_more (one_more c p) ps).report ≡ length (one_more c p).report + length ps = fold_length ps (one_more c p) in
    let here : length (one_more c p).report ≡ length c.report + 1 = length-append c.report _ in
    omega (arith, rest, here)

pairs_report : (pairs : List (ℕ × ℕ)) (s : Settings) → length (after_pairs pairs s).report ≡ length pairs
unfolding after_pairs
pairs_report pairs s = let h = fold_length pairs (record { settings = s; report = [] }) in omega (arith, h)

message_report : (pairs : List (ℕ × ℕ)) (s : Settings) → length (messages.after_message_pairs pairs s).report ≤ length pairs
message_report [] s = omega arith
message_report (p ∷ ps) s =
    let count : length (after_pairs (map messages.numbered (p ∷ ps)) s).report ≡ length (map messages.numbered (p ∷ ps)) =
    pairs_report (map messages.numbered (p ∷ ps)) s in
    let same : length (map messages.numbered (p ∷ ps)) ≡ length (p ∷ ps) = map_length messages.numbered (p ∷ ps) in
    omega (arith, count, same)

numbers_length : (numbers : List ℕ) → length numbers ≤ 63 → length (numbers_or_all numbers) ≤ 63
numbers_length [] few = omega arith
numbers_length (n ∷ ns) few = few

readings_length : (params numbers : List ℕ) → length numbers ≤ 63 → length (readings params numbers) ≤ 63
readings_length params numbers few =
    subst (λ (n : ℕ). n ≤ 63) (sym (map_length (reading_of params) (numbers_or_all numbers))) (numbers_length numbers few)

report_length : (pairs : List (ℕ × ℕ)) (s : Settings) → length pairs ≤ 63 → length (messages.report_of pairs (messages.after_message_pairs pairs s)) ≤ 63
report_length [] s few = readings_length (messages.after_message_pairs [] s).settings.params [] (omega arith)
report_length (p ∷ ps) s few = let count = message_report (p ∷ ps) s in omega (arith, count, few)

refused_length : (report : List _) → length (refused report) ≤ length report
refused_length report = filter_length (λ s. is_err s.outcome) report

-- ---- replies

abbrev pub ReplyIsShort : Reply → Type 0
ReplyIsShort (reply.Message m) = IsShort m
ReplyIsShort reply.Nothing = Unit {0}
ReplyIsShort reply.Clear = Unit {0}

refusals_short : (report : List _) → length report ≤ 63 → ReplyIsShort (messages.refusals report)
refusals_short [] few = tt
refusals_short (s ∷ ss) few = indication_short (s ∷ ss) few

message_short : (octets : List ℕ) (m : Message) (t : TerminalState) → MessageForm octets m → ReplyIsShort (messages.after m t).reply
message_short octets (message.ParameterIndication pairs) t h = tt
message_short octets message.InvitationToClear t h = tt
message_short octets (message.Set pairs) t h =
    let few = h.few in
    let count = message_report pairs.items t.settings in
    let less = refused_length (messages.after_message_pairs pairs.items t.settings).report in
    refusals_short (refused (messages.after_message_pairs pairs.items t.settings).report) (omega (arith, few, count, less))
message_short octets (message.IndicationOfBreak pairs) t h = tt
message_short octets (message.Read pairs) t h =
    indication_short _ (readings_length t.settings.params (messages.numbers_of pairs.items)
    (subst (λ (n : ℕ). n ≤ 63) (sym (map_length (λ (pair : ℕ × ℕ). pair.0 % 128) pairs.items)) h.few))
message_short octets (message.Error kind code) t h = tt
message_short octets (message.SetAndRead pairs) t h = indication_short _ (report_length pairs.items t.settings h.few)

pub reply_short : (octets : List ℕ) (t : TerminalState) → ReplyIsShort (messages.after_octets octets t).reply
unfolding messages.after_octets
reply_short octets t = by (message_of octets) refl
  where
    by : (r : Result Message MessageFault) → message_of octets ≡ r → ReplyIsShort (messages.after_octets_of r octets t).reply
    by (Ok m) e = message_short octets m t (message_found octets m e)
    by (Err fault) e = error_short (messages.error_type fault) _
