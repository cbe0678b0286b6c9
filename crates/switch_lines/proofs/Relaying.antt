-- What waits on a leg is taken there and sent on the other leg, if that one takes it.
use Rattle.std.proofs.Common.{◌≡◌, ℕ, zero, suc, ◌+◌, ◌-◌, ◌<◌, ◌≤◌, Bool, true, false, if◌then◌else◌, ◌&&◌, ◌||◌, ◌==◌, not, List, [], ◌∷◌, ◌++◌, map, length, refl, sym, ap, ap₂, subst, ◌∙◌, arith, true≢false, Option, Some, None, is_none, option_map, nat_le, nat_lt}
use Rattle.std.specs.Prelude.{slice_get}
use Rattle.std.proofs.lemmas.Option.{none-some, same_Some}
use Rattle.std.proofs.lemmas.List.{length-append}
use Rattle.std.proofs.lemmas.Bool.{ltb-true, ltb-false, leb-true, leb-false, le-leb, lt-leb, le-ltb}
use Rattle.std.proofs.Math.Dec.{eqb-suc-zero, leb-zero, leb-suc-zero, leb-suc-suc}
use Rattle.link_timers.specs.declared.role.Role.{Role}
use Rattle.data_transfer.specs.declared.flow.Flow.{Flow}
use Rattle.data_transfer.specs.Held.{are_short}
use Rattle.data_transfer.specs.Packets.{Datum}
use Rattle.data_transfer.specs.Traffic.{Taken, interrupt_pending, queue}
use Rattle.data_transfer.specs.Traffic.Taken.{TakenInterrupt, TakenPacket}
use Rattle.packet_channel.specs.Channel.{Channel, Request, Refusal, refused_if, in_transfer, has_flow, owing, unless, carried_out}
use Rattle.packet_channel.specs.Channel as channel
use Rattle.packet_channel.specs.Channel.Request.{Sending, Interrupting, Taking}
use Rattle.packet_layer.specs.Layer.{channel_of, room_at, room}
use Rattle.packet_layer.specs.Interrupting.{may_interrupt_at, may_interrupt}
use Rattle.data_transfer.specs.TakenView.{shown_front, maybe_front}
use Rattle.data_transfer.specs.declared.taken.Front.{Front}
use Rattle.data_transfer.specs.declared.taken.Front.TheVariants as front
use Rattle.switch_joins.specs.declared.plan.Outline.{Outline}
use Rattle.switch_joins.specs.Outline.{outline_of}
use Rattle.switch_joins.specs.Turning.{Sizes, Gathered, nothing_gathered, Turn, all_made, turned}
use Rattle.switch_joins.proofs.Turning.{one_size}
use Rattle.switch_joins.specs.Direction.{carried}
use Rattle.switch_joins.specs.Joins.{gathered_by}
use Rattle.switch_lines.specs.Lines.{SwitchChannel, Joined, SwitchLine, joined_at, ask, ask_all, front_at, sizes_at, takes_at, takes_all, takes_on_channel, takes_on_line}
use Rattle.joined_line.specs.OfLine.{kept_on}
use Rattle.switch_lines.specs.Relay.{requests_for, due_at, carried_by, moved, moved_joined, moved_front, moved_if, freed, with_kept, relayed}
use Rattle.switch_lines.specs.ByPlace.{kept_at, freed_at, made_due, Fits, TakesFront, passed_on, sent_on, MovesFront}
use Rattle.switch_lines.specs.Waiting.{IsStuck}
use Rattle.switch_lines.proofs.Places.{asked_length, joined_asked, joined_asks, joined_here, sizes_asked, kept_joined, freed_joined, freed_kept}
use Rattle.switch_lines.proofs.Changing.{length_changed}

-- ---- whether packets or an interrupt are taken

and_no : (a : Bool) → (a && false) ≡ false
and_no true = refl
and_no false = refl

no_room : (ok : Bool) (n k : ℕ) → k ≡ 0 → (ok && nat_le (suc n) k) ≡ false
no_room ok n k e = ap (λ (m : ℕ). ok && nat_le (suc n) m) e ∙ ap (λ (b : Bool). ok && b) (leb-suc-zero n) ∙ and_no ok

-- a packet is taken where there is a place for it and it is not too long, and then there is one place less
in_place : (ok : Bool) (w size n len : ℕ) (rest : Option Refusal → Bool) → rest None ≡ (ok && nat_le n (8 - suc w))
    → (let o : Option Refusal = refused_if (nat_le 8 w) Refusal.QueueFull (refused_if (nat_lt size len) Refusal.TooLong None) in (is_none o && rest o) ≡ ((nat_le len size && ok) && nat_le (suc n) (8 - w)))
in_place ok w size n len rest e = by_full (nat_le 8 w) refl
  where
    by_long : (a : Bool) → nat_lt size len ≡ a → nat_le 8 w ≡ false
        → (let o : Option Refusal = refused_if a Refusal.TooLong None in (is_none o && rest o) ≡ ((nat_le len size && ok) && nat_le (suc n) (8 - w)))
    by_long true long full =
        let more = ltb-true size len long in
        sym (ap (λ (b : Bool). (b && ok) && nat_le (suc n) (8 - w)) (lt-leb len size (omega (arith, more))))
    by_long false short full =
        let less = leb-false 8 w full in
        let fits = ltb-false size len short in
        let next : 8 - w ≡ suc (8 - suc w) = omega (arith, less) in
        e ∙ ap (λ (b : Bool). ok && b) (sym (leb-suc-suc n (8 - suc w)))
        ∙ sym (ap₂ (λ (b : Bool) (k : ℕ). (b && ok) && nat_le (suc n) k) (le-leb len size (omega (arith, fits))) next)

    by_full : (a : Bool) → nat_le 8 w ≡ a
        → (let o : Option Refusal = refused_if a Refusal.QueueFull (refused_if (nat_lt size len) Refusal.TooLong None) in (is_none o && rest o) ≡ ((nat_le len size && ok) && nat_le (suc n) (8 - w)))
    by_full true full = let most = leb-true 8 w full in sym (no_room (nat_le len size && ok) n (8 - w) (omega (arith, most)))
    by_full false full = by_long (nat_lt size len) refl full

one_taken : (a r ok : Bool) (w size n len : ℕ) (rest : Option Refusal → Bool) → rest None ≡ (ok && nat_le n (if a && not r then 8 - suc w else 0))
    → (let o : Option Refusal = refused_if (not a) Refusal.NoCall (refused_if r Refusal.IsResetting (refused_if (nat_le 8 w) Refusal.QueueFull (refused_if (nat_lt size len) Refusal.TooLong None))) in
    (is_none o && rest o) ≡ ((nat_le len size && ok) && nat_le (suc n) (if a && not r then 8 - w else 0)))
one_taken false r ok w size n len rest e = sym (no_room (nat_le len size && ok) n 0 refl)
one_taken true true ok w size n len rest e = sym (no_room (nat_le len size && ok) n 0 refl)
one_taken true false ok w size n len rest e = in_place ok w size n len rest e

-- a channel takes packets where it has a place for each, and none is too long; it always takes none
packets_taken : (role : Role) (flow : Flow) (ds : List Datum) (ch : Channel) → takes_all role flow ch (map Sending ds) ≡ (are_short flow.size ds && nat_le (length ds) (room_at (Some ch)))
packets_taken role flow [] ch = sym (leb-zero (room_at (Some ch)))
packets_taken role flow (d ∷ ds) ch =
    let w = length ch.traffic.waiting in
    let long = length-append ch.traffic.waiting (d ∷ []) in
    let more : length (ch.traffic.waiting ++ d ∷ []) ≡ suc w = omega (arith, long) in
    one_taken (in_transfer ch.state) ch.resetting (are_short flow.size ds) w flow.size (length ds) (length d.octets)
    (λ o. takes_all role flow (owing (unless o (carried_out ch (Sending d)) ch)) (map Sending ds))
    (packets_taken role flow ds (channel.moved (queue d ch.traffic) ch)
    ∙ ap (λ (k : ℕ). are_short flow.size ds && nat_le (length ds) (if has_flow ch then 8 - k else 0)) more)

not_true : (b : Bool) → not b ≡ true → b ≡ false
not_true true h = absurd (true≢false (sym h))
not_true false h = refl

not_false : (b : Bool) → not b ≡ false → b ≡ true
not_false true h = refl
not_false false h = absurd (true≢false h)

long_or_none : (n : ℕ) → 1 ≤ n → n ≤ 32 → ((n == 0) || nat_lt 32 n) ≡ false
long_or_none zero least most = absurd (omega arith)
long_or_none (suc n) least most = ap (λ (b : Bool). b || nat_lt 32 (suc n)) (eqb-suc-zero n) ∙ le-ltb 32 (suc n) most

interrupt_taken : (b r p : Bool) (n : ℕ) → 1 ≤ n → n ≤ 32 → ((b && not r) && not p) ≡ true →
    refused_if (not b) Refusal.NoCall (refused_if r Refusal.IsResetting (refused_if ((n == 0) || nat_lt 32 n) Refusal.TooLong (refused_if p Refusal.InterruptPending None))) ≡ None
interrupt_taken true false p n least most h =
    ap (λ (b : Bool). refused_if b Refusal.TooLong (refused_if p Refusal.InterruptPending None)) (long_or_none n least most)
    ∙ ap (λ (b : Bool). refused_if b Refusal.InterruptPending None) (not_true p h)
interrupt_taken true true p n least most h = absurd (true≢false (sym h))
interrupt_taken false r p n least most h = absurd (true≢false (sym h))

interrupt_refused : (b r p : Bool) (n : ℕ) → ((b && not r) && not p) ≡ false →
    is_none (refused_if (not b) Refusal.NoCall (refused_if r Refusal.IsResetting (refused_if ((n == 0) || nat_lt 32 n) Refusal.TooLong (refused_if p Refusal.InterruptPending None)))) ≡ false
interrupt_refused true false p n h = by_length ((n == 0) || nat_lt 32 n)
  where
    by_length : (a : Bool) → is_none (refused_if a Refusal.TooLong (refused_if p Refusal.InterruptPending None)) ≡ false
    by_length true = refl
    by_length false = ap (λ (b : Bool). is_none (refused_if b Refusal.InterruptPending None)) (not_false p h)
interrupt_refused true true p n h = refl
interrupt_refused false r p n h = refl

-- ---- the same of a line

packets_on_channel : (role : Role) (flow : Flow) (ds : List Datum) (o : Option Channel) → takes_on_channel role flow o (map Sending ds) ≡ (are_short flow.size ds && nat_le (length ds) (room_at o))
packets_on_channel role flow [] None = sym (leb-zero 0)
packets_on_channel role flow (d ∷ ds) None = sym (no_room (are_short flow.size (d ∷ ds)) (length ds) 0 refl)
packets_on_channel role flow ds (Some ch) = packets_taken role flow ds ch

pub packets_on_line : (l : SwitchLine) (c : ℕ) (ds : List Datum) → takes_on_line (Some l) c (map Sending ds) ≡ (are_short l.end.layer.flow.size ds && nat_le (length ds) (room l.end.layer c))
packets_on_line l c ds = packets_on_channel l.end.layer.role l.end.layer.flow ds (channel_of l.end.layer c)

interrupt_on_channel : (role : Role) (flow : Flow) (octets : List ℕ) (o : Option Channel) → (1 ≤ length octets) × (length octets ≤ 32) → may_interrupt_at o ≡ true
    → takes_on_channel role flow o (Interrupting octets ∷ []) ≡ true
interrupt_on_channel role flow octets None fits h = absurd (true≢false (sym h))
interrupt_on_channel role flow octets (Some ch) fits h =
    ap (λ (o : Option Refusal). is_none o && true)
    (interrupt_taken (in_transfer ch.state) ch.resetting (interrupt_pending ch.traffic) (length octets) fits.0 fits.1 h)

pub interrupt_on_line : (l : SwitchLine) (c : ℕ) (octets : List ℕ) → (1 ≤ length octets) × (length octets ≤ 32) → may_interrupt l.end.layer c ≡ true
    → takes_on_line (Some l) c (Interrupting octets ∷ []) ≡ true
interrupt_on_line l c octets fits h = interrupt_on_channel l.end.layer.role l.end.layer.flow octets (channel_of l.end.layer c) fits h

no_interrupt_on_channel : (role : Role) (flow : Flow) (octets : List ℕ) (o : Option Channel) → may_interrupt_at o ≡ false → takes_on_channel role flow o (Interrupting octets ∷ []) ≡ false
no_interrupt_on_channel role flow octets None h = refl
no_interrupt_on_channel role flow octets (Some ch) h =
    ap (λ (b : Bool). b && true)
    (interrupt_refused (in_transfer ch.state) ch.resetting (interrupt_pending ch.traffic) (length octets) h)

pub no_interrupt_on_line : (l : SwitchLine) (c : ℕ) (octets : List ℕ) → may_interrupt l.end.layer c ≡ false → takes_on_line (Some l) c (Interrupting octets ∷ []) ≡ false
no_interrupt_on_line l c octets h = no_interrupt_on_channel l.end.layer.role l.end.layer.flow octets (channel_of l.end.layer c) h

-- ---- one move

pub joined_by : (o : Option Joined) (q : SwitchChannel) → Some q ≡ option_map (λ j. j.other) o → (j : Joined) × (o ≡ Some j) × (j.other ≡ q)
joined_by None q e = absurd (none-some q (sym e))
joined_by (Some j) q e = (j, refl, sym (same_Some q j.other e))

pub not_joined : (o : Option Joined) → None ≡ option_map (λ j. j.other) o → o ≡ None
not_joined None e = refl
not_joined (Some j) e = absurd (none-some j.other e)

-- ---- whether what waits first goes on, by what is shown of it

abbrev as_outline : Front → Outline
as_outline front.Interrupt = record { length = 0; more = false; qualified = false; delivery = false }
as_outline (front.«Data» length more qualified delivery) = record { length = length; more = more; qualified = qualified; delivery = delivery }

shown : (o : Option Taken) (f : Front) (t : Taken) → maybe_front o ≡ Some f → o ≡ Some t → shown_front t ≡ f
shown o f t e at = same_Some (shown_front t) f (ap maybe_front (sym at) ∙ e)

either_way : (b : Bool) (ls : List SwitchLine) (p q : SwitchChannel) → ((t : Taken) → front_at ls p ≡ Some t → Fits t → takes_at ls q (made_due ls p q t) ≡ b)
    → (b ≡ false → (t : Taken) → front_at ls p ≡ Some t → takes_at ls q (made_due ls p q t) ≡ b) → TakesFront b ls p q
either_way true ls p q fits any = fits
either_way false ls p q fits any = any refl

pub interrupt_goes : (b : Bool) (ls : List SwitchLine) (p q : SwitchChannel) (l : SwitchLine) → maybe_front (front_at ls p) ≡ Some front.Interrupt → Some l ≡ slice_get ls q.line
    → b ≡ may_interrupt l.end.layer q.channel → TakesFront b ls p q
interrupt_goes b ls p q l e far may =
    either_way b ls p q (λ t at fits. fitting t (shown (front_at ls p) front.Interrupt t e at) fits) (λ is_no t at. refused t (shown (front_at ls p) front.Interrupt t e at) is_no)
  where
    there : (t : Taken) → takes_on_line (Some l) q.channel (made_due ls p q t) ≡ takes_at ls q (made_due ls p q t)
    there t = ap (λ (o : Option SwitchLine). takes_on_line o q.channel (made_due ls p q t)) far

    by_bit : (octets : List ℕ) → (1 ≤ length octets) × (length octets ≤ 32) → (a : Bool) → a ≡ may_interrupt l.end.layer q.channel → takes_on_line (Some l) q.channel (Interrupting octets ∷ []) ≡ a
    by_bit octets fits true h = interrupt_on_line l q.channel octets fits (sym h)
    by_bit octets fits false h = no_interrupt_on_line l q.channel octets (sym h)

    fitting : (t : Taken) → shown_front t ≡ front.Interrupt → Fits t → takes_at ls q (made_due ls p q t) ≡ b
    fitting (TakenInterrupt octets) is fits = sym (there (TakenInterrupt octets)) ∙ by_bit octets fits b may
    fitting (TakenPacket d) is fits = absurd (cc)

    refused : (t : Taken) → shown_front t ≡ front.Interrupt → b ≡ false → takes_at ls q (made_due ls p q t) ≡ b
    refused (TakenInterrupt octets) is is_no = sym (there (TakenInterrupt octets)) ∙ no_interrupt_on_line l q.channel octets (sym may ∙ is_no) ∙ sym is_no
    refused (TakenPacket d) is is_no = absurd (cc)

-- a packet of this length with these bits
pub packet_goes : (b : Bool) (ls : List SwitchLine) (p q : SwitchChannel) (size : ℕ) (more qualified delivery : Bool) → maybe_front (front_at ls p) ≡ Some (front.«Data» size more qualified delivery)
    → ((d : Datum) → outline_of d ≡ record { length = size; more = more; qualified = qualified; delivery = delivery }
    → takes_at ls q (map Sending (turned (sizes_at ls p q) (gathered_by (joined_at ls p)) d).made) ≡ b) → TakesFront b ls p q
packet_goes b ls p q size more qualified delivery e each =
    let f = front.«Data» size more qualified delivery in
    either_way b ls p q (λ t at fits. goes t (shown (front_at ls p) f t e at)) (λ is_no t at. goes t (shown (front_at ls p) f t e at))
  where
    goes : (t : Taken) → shown_front t ≡ front.«Data» size more qualified delivery → takes_at ls q (made_due ls p q t) ≡ b
    goes (TakenInterrupt octets) is = absurd (cc)
    goes (TakenPacket d) is = each d (ap as_outline is)

-- where so many are due, and there is room or not
pub counted_goes : (ls : List SwitchLine) (q : SwitchChannel) (l : SwitchLine) (ds : List Datum) (due room_ : ℕ) → Some l ≡ slice_get ls q.line
    → (are_short l.end.layer.flow.size ds ≡ true) × (due ≡ length ds) → room_ ≡ room l.end.layer q.channel → takes_at ls q (map Sending ds) ≡ nat_le due room_
counted_goes ls q l ds due room_ far short_ is =
    ap (λ (o : Option SwitchLine). takes_on_line o q.channel (map Sending ds)) (sym far) ∙ packets_on_line l q.channel ds
    ∙ ap (λ (b : Bool). b && nat_le (length ds) (room l.end.layer q.channel)) short_.0 ∙ ap₂ (λ (m n : ℕ). nat_le m n) (sym short_.1) (sym is)

pub long_stays : (ls : List SwitchLine) (q : SwitchChannel) (l : SwitchLine) (ds : List Datum) → Some l ≡ slice_get ls q.line
    → are_short l.end.layer.flow.size ds ≡ false → takes_at ls q (map Sending ds) ≡ false
long_stays ls q l ds far long =
    ap (λ (o : Option SwitchLine). takes_on_line o q.channel (map Sending ds)) (sym far) ∙ packets_on_line l q.channel ds
    ∙ ap (λ (b : Bool). b && nat_le (length ds) (room l.end.layer q.channel)) long

-- what it makes due there, with its join
due_with : (ls : List SwitchLine) (p : SwitchChannel) (j : Joined) (t : Taken) → joined_at ls p ≡ Some j → made_due ls p j.other t ≡ due_at ls p j t
due_with ls p j t e = ap (λ (o : Option Joined). requests_for (sizes_at ls p j.other) (gathered_by o) t) e

pub moves_refused : (ls : List SwitchLine) (p q : SwitchChannel) → Some q ≡ option_map (λ j. j.other) (joined_at ls p) → TakesFront false ls p q → IsStuck ls p
moves_refused ls p q joined refused j t at front =
    let to : j.other ≡ q = same_Some j.other q (sym (ap (λ (o : Option Joined). option_map (λ (x : Joined). x.other) o) at) ∙ sym joined) in
    ap (λ (qs : List Request). takes_at ls j.other qs) (sym (due_with ls p j t at))
    ∙ subst (λ (x : SwitchChannel). takes_at ls x (made_due ls p x t) ≡ false) (sym to) (refused t front)

-- ---- a move, as the code makes it

still_joined : (ls : List SwitchLine) (p : SwitchChannel) (j : Joined) (qs : List Request) → joined_at ls p ≡ Some j → joined_at (ask_all j.other qs (ask p Taking ls)) p ≡ Some j
still_joined ls p j qs e = joined_asks j.other qs p (ask p Taking ls) ∙ joined_asked p Taking p ls ∙ e

sent_as : (s : Sizes) (t : Taken) (ls : List SwitchLine) (p : SwitchChannel) (j : Joined) → joined_at ls p ≡ Some j →
    sent_on s j.kept.gathered t p j.other (ask p Taking ls) ≡ freed p j (carried_by s t j.kept) (ask_all j.other (requests_for s j.kept.gathered t) (ask p Taking ls))
sent_as s (TakenInterrupt octets) ls p j e =
    freed_joined p j (ask j.other (Interrupting octets) (ask p Taking ls)) (still_joined ls p j (Interrupting octets ∷ []) e)
sent_as s (TakenPacket d) ls p j e =
    let turn = turned s j.kept.gathered d in
    let ms = ask_all j.other (map Sending turn.made) (ask p Taking ls) in
    let v = carried d.delivery turn j.kept in
    let still = still_joined ls p j (map Sending turn.made) e in
    ap (λ (xs : List SwitchLine). freed_at p xs) (kept_joined (carried d.delivery turn) p j ms still)
    ∙ freed_joined p (record j { kept = v }) (with_kept p j v ms) (joined_here p j (Some (record j { kept = v })) ms still)
    ∙ freed_kept p j v ms

moved_as : (ls : List SwitchLine) (p : SwitchChannel) (j : Joined) (t : Taken) → joined_at ls p ≡ Some j → Some t ≡ front_at ls p → takes_at ls j.other (due_at ls p j t) ≡ true →
    moved p ls ≡ moved_if true t p j ls
moved_as ls p j t joined front taken =
    ap (λ o. moved_joined o p ls) joined ∙ ap (λ o. moved_front o p j ls) (sym front) ∙ ap (λ (b : Bool). moved_if b t p j ls) taken

moves : (ls : List SwitchLine) (p q : SwitchChannel) (t : Taken) → Some q ≡ option_map (λ j. j.other) (joined_at ls p) → Some t ≡ front_at ls p → Fits t → TakesFront true ls p q →
    sent_on (sizes_at ls p q) (gathered_by (joined_at ls p)) t p q (ask p Taking ls) ≡ moved p ls
moves ls p q t joined front fits taken =
    let found = joined_by (joined_at ls p) q joined in
    let j = found.0 in
    let takes : takes_at ls j.other (due_at ls p j t) ≡ true =
    ap (λ (qs : List Request). takes_at ls j.other qs) (sym (due_with ls p j t found.1))
    ∙ subst (λ (x : SwitchChannel). takes_at ls x (made_due ls p x t) ≡ true) (sym found.2) (taken t (sym front) fits) in
    ap₂ (λ (x : SwitchChannel) (g : Gathered). sent_on (sizes_at ls p x) g t p x (ask p Taking ls)) (sym found.2) (ap gathered_by found.1)
    ∙ sent_as (sizes_at ls p j.other) t ls p j found.1
    ∙ sym (moved_as ls p j t found.1 front takes)

-- the same, with what was read of the lines once the packet was taken
pub turned_on : (d : Datum) (ls ms : List SwitchLine) (p q : SwitchChannel) → ms ≡ ask p Taking ls
    → (let turn = turned (sizes_at ms p q) (gathered_by (joined_at ms p)) d in kept_at p (carried d.delivery turn) (ask_all q (map Sending turn.made) ms))
    ≡ passed_on (sizes_at ls p q) (gathered_by (joined_at ls p)) (TakenPacket d) p q (ask p Taking ls)
turned_on d ls ms p q e =
    ap (λ (xs : List SwitchLine). done (sizes_at xs p q) (gathered_by (joined_at xs p)) xs) e
    ∙ ap₂ (λ (s : Sizes) (g : Gathered). done s g (ask p Taking ls)) (sizes_asked p Taking ls p q) (ap gathered_by (joined_asked p Taking p ls))
  where
    done : Sizes → Gathered → List SwitchLine → List SwitchLine
    done s g xs = kept_at p (carried d.delivery (turned s g d)) (ask_all q (map Sending (turned s g d).made) xs)

-- and where it goes on as it is
pub whole_on : (d : Datum) (ls : List SwitchLine) (p q : SwitchChannel) → (sizes_at ls p q).near ≡ (sizes_at ls p q).far → gathered_by (joined_at ls p) ≡ nothing_gathered
    → kept_at p (carried d.delivery (all_made (d ∷ []))) (ask q (Sending d) (ask p Taking ls))
    ≡ passed_on (sizes_at ls p q) (gathered_by (joined_at ls p)) (TakenPacket d) p q (ask p Taking ls)
whole_on d ls p q same none =
    ap (λ (turn : Turn). kept_at p (carried d.delivery turn) (ask_all q (map Sending turn.made) (ask p Taking ls)))
    (sym (one_size (sizes_at ls p q) (gathered_by (joined_at ls p)) d same (ap (λ (g : Gathered). length g.octets) none)))

-- where something is shown, something is taken
pub shown_taken : (o : Option Taken) (f : Front) → None ≡ o → Some f ≡ maybe_front o → ⊥
shown_taken None f none shown = none-some f (sym shown)
shown_taken (Some t) f none shown = none-some t none

asks_length : (p : SwitchChannel) (qs : List Request) (ls : List SwitchLine) → length (ask_all p qs ls) ≡ length ls
asks_length p [] ls = refl
asks_length p (q ∷ qs) ls = asks_length p qs (ask p q ls) ∙ asked_length p q ls

passed_length : (s : Sizes) (g : Gathered) (t : Taken) (p q : SwitchChannel) (ls : List SwitchLine) → length (passed_on s g t p q ls) ≡ length ls
passed_length s g (TakenInterrupt octets) p q ls = asked_length q (Interrupting octets) ls
passed_length s g (TakenPacket d) p q ls =
    let sent = map Sending (turned s g d).made in
    length_changed p.line (kept_on p.channel (carried d.delivery (turned s g d))) (ask_all q sent ls) ∙ asks_length q sent ls

pub moves_length : (ls new : List SwitchLine) (p q : SwitchChannel) (f : Front) (o : Option Taken) → o ≡ front_at ls p →
    Some f ≡ maybe_front (front_at ls p) → MovesFront o p q ls new → length new ≡ length ls
moves_length ls new p q f None at shown moved_on = absurd (shown_taken (front_at ls p) f at shown)
moves_length ls new p q f (Some t) at shown moved_on =
    ap (λ (xs : List SwitchLine). length xs) moved_on.0
    ∙ passed_length (sizes_at ls p q) (gathered_by (joined_at ls p)) t p q (ask p Taking ls) ∙ asked_length p Taking ls

pub moves_front : (ls new : List SwitchLine) (p q : SwitchChannel) (f : Front) (o : Option Taken) → o ≡ front_at ls p →
    Some q ≡ option_map (λ j. j.other) (joined_at ls p) → Some f ≡ maybe_front (front_at ls p) → TakesFront true ls p q →
    MovesFront o p q ls new → freed_at p new ≡ moved p ls
moves_front ls new p q f None at joined shown taken moved_on = absurd (shown_taken (front_at ls p) f at shown)
moves_front ls new p q f (Some t) at joined shown taken moved_on =
    ap (λ (xs : List SwitchLine). freed_at p xs) moved_on.0 ∙ moves ls p q t joined at moved_on.1 taken

-- ---- several moves

one_more : (n m : ℕ) (p : SwitchChannel) (ls : List SwitchLine) → n ≡ suc m → relayed n p ls ≡ relayed m p (moved p ls)
one_more zero m p ls e = absurd (omega arith)
one_more (suc n) m p ls e = let same : n ≡ m = omega arith in ap (λ k. relayed k p (moved p ls)) same

pub one_moved : (most count : ℕ) (p : SwitchChannel) (ls : List SwitchLine) → count < most →
    relayed (most - (count + 1)) p (moved p ls) ≡ relayed (most - count) p ls
one_moved most count p ls within = sym (one_more (most - count) (most - (count + 1)) p ls (omega arith))

pub relayed_stays : (most : ℕ) (p : SwitchChannel) (ls : List SwitchLine) → moved p ls ≡ ls → relayed most p ls ≡ ls
relayed_stays zero p ls e = refl
relayed_stays (suc most) p ls e = ap (λ (ms : List SwitchLine). relayed most p ms) e ∙ relayed_stays most p ls e
