-- One direction of a join: the clause stays over all that the switch relays and releases, and the most moves leave nothing.
use Rattle.std.proofs.Common.{◌≡◌, ℕ, zero, suc, ◌+◌, ◌≤◌, ◌<◌, ◌⊎◌, inl, inr, Bool, true, false, cond, if◌then◌else◌, not, ◌&&◌, List, [], ◌∷◌, ◌++◌, length, map, append-nil, append_assoc, Option, Some, None, is_some, is_none, refl, sym, ap, ap₂, subst, length-append, ◌∙◌, arith, true≢false, nat_le, nat_lt, ◌||◌, ◌==◌}
use Rattle.std.proofs.lemmas.Bool.{leb-true, leb-false, eqb-true, or_cases}
use Rattle.std.proofs.lemmas.Option.{none-some, same_Some}
use Rattle.link_timers.specs.declared.role.Role.{Role}
use Rattle.epochs.specs.Item.{all_items}
use Rattle.data_transfer.specs.declared.flow.Flow.{Flow}
use Rattle.data_transfer.proofs.Windows.{window_small}
use Rattle.data_transfer.specs.Flow.{is_size}
use Rattle.data_transfer.specs.Packets.{Datum}
use Rattle.data_transfer.specs.Traffic.{Taken, front, front_of, may_release, releasing, interrupt_pending}
use Rattle.data_transfer.specs.Traffic.Taken.{TakenInterrupt, TakenPacket}
use Rattle.packet_channel.specs.Channel.{ChannelState, Channel, Request, Refusal, refusal, refused_if, in_transfer, carried_out, owing, unless, moved as with_traffic}
use Rattle.packet_channel.specs.Channel.ChannelState.{Transfer}
use Rattle.packet_channel.specs.Channel.Request.{Sending, Interrupting, Taking, Releasing}
use Rattle.packet_laws.specs.History.{Epoch}
use Rattle.packet_laws.proofs.Numbers.{gone_is}
use Rattle.switch_joins.specs.Turning.{Sizes, Gathered, Turn, IsGathered, turned, items_gathered}
use Rattle.switch_joins.specs.Direction.{Direction, releasable, released}
use Rattle.switch_joins.proofs.Turning.{turned_gathered, turned_few, one_size}
use Rattle.switch_laws.specs.Leg.{Leg, IsLeg, asked, asked_all, asked_unless}
use Rattle.switch_laws.specs.Clause.{TakenPart, SentPart, taken_part, sent_part, Passed, IsDirection}
use Rattle.switch_laws.specs.Way.{Way, Holds, IsRight, IsStuck, sizes, due, freed, moved, moved_front, moved_if, relayed}
use Rattle.switch_laws.proofs.Directions.{carried_items, direction_interrupts, direction_carries, direction_released, releasable_within, releasable_none}
use Rattle.switch_laws.proofs.Legs.{not_refused, none_of_or, asked_as, taking_allowed, releasing_allowed, release_allowed, arrived_within, leg_taken, leg_released, leg_sent, leg_interrupted}
use Rattle.switch_lines.specs.Lines.{takes_all}
use Rattle.switch_lines.specs.Relay.{carried_by, requests_for, most_moves}

-- ---- what a direction sees of its two legs

pub record Near : Type 0 where
  pub size : ℕ
  pub state : ChannelState
  pub before : List Epoch
  pub part : TakenPart
  pub interrupt_taken : Bool

pub record Far : Type 0 where
  pub size : ℕ
  pub state : ChannelState
  pub before : List Epoch
  pub part : SentPart
  pub pending : Bool

abbrev pub near_seen : Leg → Near
near_seen g = record { size = g.flow.size; state = g.channel.state; before = g.before; part = taken_part g.epoch; interrupt_taken = g.channel.traffic.interrupt_taken }

abbrev pub far_seen : Leg → Far
far_seen g = record { size = g.flow.size; state = g.channel.state; before = g.before; part = sent_part g.epoch; pending = interrupt_pending g.channel.traffic }

pub record Linked (n : Near) (f : Far) (v : Direction) : Type 0 where
  pub near_call : n.state ≡ Transfer
  pub far_call : f.state ≡ Transfer
  pub passed : Passed (record { near = n.size; far = f.size }) n.before f.before
  pub direction : IsDirection v n.part f.part
  pub gathered : IsGathered (record { near = n.size; far = f.size }) v.gathered
  pub packets : n.size ≡ f.size → f.part.packets ≡ n.part.packets
  pub interrupted : n.interrupt_taken ≡ f.pending

pub linked_of : (w : Way) → Holds w → Linked (near_seen w.near) (far_seen w.far) w.kept
linked_of w h = record { near_call = h.near_call; far_call = h.far_call; passed = h.passed; direction = h.direction; gathered = h.gathered; packets = h.packets; interrupted = h.interrupted }

pub holds_of : (w : Way) → IsLeg w.near → IsLeg w.far → Linked (near_seen w.near) (far_seen w.far) w.kept → Holds w
holds_of w near far l = record { near = near; far = far; near_call = l.near_call; far_call = l.far_call; passed = l.passed; direction = l.direction; gathered = l.gathered; packets = l.packets; interrupted = l.interrupted }

-- legs that a direction sees as it saw these
pub holds_beside : (g h : Leg) (w : Way) → IsLeg g → IsLeg h → near_seen g ≡ near_seen w.near → far_seen h ≡ far_seen w.far → Holds w → Holds (record w { near = g; far = h })
holds_beside g h w ig ih n f l =
    let k : Linked (near_seen g) (far_seen w.far) w.kept = subst (λ (a : Near). Linked a (far_seen w.far) w.kept) (sym n) (linked_of w l) in
    holds_of (record w { near = g; far = h }) ig ih (subst (λ (b : Far). Linked (near_seen g) b w.kept) (sym f) k)

pub right_beside : (g h : Leg) (w : Way) → IsLeg g → IsLeg h → near_seen g ≡ near_seen w.near → far_seen h ≡ far_seen w.far → IsRight w → IsRight (record w { near = g; far = h })
right_beside g h w ig ih n f r = record { holds = holds_beside g h w ig ih n f r.holds; all_released = r.all_released }

-- ---- what was sent is what was taken, but for what is gathered

pub same_items : (w : Way) → Holds w → all_items w.far.epoch.sent ++ items_gathered w.kept.gathered ≡ all_items w.near.epoch.taken
same_items w h = sym (carried_items (taken_part w.near.epoch) (sent_part w.far.epoch) (items_gathered w.kept.gathered) h.direction.carries)

-- a line's packets have 128 to 1,024 octets
size_within : (n : ℕ) → is_size n ≡ true → (128 ≤ n) × (n ≤ 1024)
size_within n e = first (or_cases ((n == 128) || (n == 256) || (n == 512)) (n == 1024) e)
  where
    at : (k : ℕ) → (128 ≤ k) × (k ≤ 1024) → (n == k) ≡ true → (128 ≤ n) × (n ≤ 1024)
    at k le f = let same = eqb-true n k f in let least = le.0 in let most = le.1 in (omega (arith, same, least), omega (arith, same, most))

    third : ((n == 128) ≡ true) ⊎ ((n == 256) ≡ true) → (128 ≤ n) × (n ≤ 1024)
    third (inl f) = at 128 (omega arith, omega arith) f
    third (inr f) = at 256 (omega arith, omega arith) f

    second : (((n == 128) || (n == 256)) ≡ true) ⊎ ((n == 512) ≡ true) → (128 ≤ n) × (n ≤ 1024)
    second (inl f) = third (or_cases (n == 128) (n == 256) f)
    second (inr f) = at 512 (omega arith, omega arith) f

    first : (((n == 128) || (n == 256) || (n == 512)) ≡ true) ⊎ ((n == 1024) ≡ true) → (128 ≤ n) × (n ≤ 1024)
    first (inl f) = second (or_cases ((n == 128) || (n == 256)) (n == 512) f)
    first (inr f) = at 1024 (omega arith, omega arith) f

pub gathers_little : (w : Way) → Holds w → length w.kept.gathered.octets < w.far.flow.size
gathers_little w h = by (nat_le w.near.flow.size w.far.flow.size) refl
  where
    near : 128 ≤ w.near.flow.size
    near = (size_within w.near.flow.size h.near.flow.size_is).0

    far : 128 ≤ w.far.flow.size
    far = (size_within w.far.flow.size h.far.flow.size_is).0

    by : (b : Bool) → nat_le w.near.flow.size w.far.flow.size ≡ b → length w.kept.gathered.octets < w.far.flow.size
    by true e = let fits = h.gathered.less (leb-true w.near.flow.size w.far.flow.size e) in omega (arith, near, fits)
    by false e =
        let more = leb-false w.near.flow.size w.far.flow.size e in
        let none = h.gathered.nothing (omega arith) in
        omega (arith, far, none)

pub makes_few : (w : Way) (d : Datum) → Holds w → length d.octets ≤ w.near.flow.size → length (turned (sizes w) w.kept.gathered d).made ≤ 8
makes_few w d h short =
    let near = (size_within w.near.flow.size h.near.flow.size_is).1 in
    let far = (size_within w.far.flow.size h.far.flow.size_is).0 in
    turned_few (sizes w) w.kept.gathered d (omega (arith, near, far)) short h.gathered

-- ---- released

released_seen : (b : Bool) (n : ℕ) (g : Leg) → b ≡ true
    → near_seen (record g { channel = with_traffic (cond b (releasing n g.channel.traffic) g.channel.traffic) g.channel; epoch = if b then record g.epoch { released = g.epoch.released + n } else g.epoch })
    ≡ record (near_seen g) { part = record (taken_part g.epoch) { released = g.epoch.released + n } }
released_seen true n g e = refl
released_seen false n g e = absurd (true≢false (sym e))

pub freed_right : (w : Way) → Holds w → IsRight (freed w)
freed_right w h =
    let n = releasable w.kept.held in
    let within = releasable_within w.kept (taken_part w.near.epoch) (sent_part w.far.epoch) h.direction in
    let may = release_allowed n w.near h.near within in
    let same : near_seen (asked_unless None (Releasing n) w.near) ≡ record (near_seen w.near) { part = record (taken_part w.near.epoch) { released = w.near.epoch.released + n } } =
    released_seen (may_release n w.near.channel.traffic) n w.near may in
    let linked : Linked (record (near_seen w.near) { part = record (taken_part w.near.epoch) { released = w.near.epoch.released + n } }) (far_seen w.far) (released w.kept) = record {
      near_call = h.near_call;
      far_call = h.far_call;
      passed = h.passed;
      direction = direction_released w.kept (taken_part w.near.epoch) (sent_part w.far.epoch) h.direction;
      gathered = h.gathered;
      packets = h.packets;
      interrupted = h.interrupted;
    } in
    subst (λ (g : Leg). IsRight (record w { near = g; kept = released w.kept })) (sym (asked_as (Releasing n) w.near (releasing_allowed n w.near h.near_call))) (record {
      holds = holds_of (record w { near = asked_unless None (Releasing n) w.near; kept = released w.kept }) (leg_released n w.near h.near) h.far
          (subst (λ (a : Near). Linked a (far_seen w.far) (released w.kept)) (sym same) linked);
      all_released = releasable_none w.kept.held;
    })

-- ---- moved, by what waits first

abbrev pub with_front : Option (List ℕ) → List Datum → Leg → Leg
with_front a ds g = record g { channel = with_traffic (record g.channel.traffic { interrupt_arrived = a; arrived = ds }) g.channel }

abbrev pub at_front : Option (List ℕ) → List Datum → Way → Way
at_front a ds w = record w { near = with_front a ds w.near }

-- the move, but for the release
abbrev pub sent_on : Taken → Way → Way
sent_on t w = record { near = asked Taking w.near; far = asked_all (due w t) w.far; kept = carried_by (sizes w) t w.kept }

done_on : (t : Taken) (w : Way) → refusal w.near.role w.near.flow w.near.channel Taking ≡ None
    → Holds (record { near = asked_unless None Taking w.near; far = asked_all (due w t) w.far; kept = carried_by (sizes w) t w.kept }) → Holds (sent_on t w)
done_on t w n h =
    subst (λ (g : Leg). Holds (record { near = g; far = asked_all (due w t) w.far; kept = carried_by (sizes w) t w.kept })) (sym (asked_as Taking w.near n)) h

-- the far leg takes a request first of all
takes_first : (a b : Bool) → (a && b) ≡ true → (a ≡ true) × (b ≡ true)
takes_first true b e = (refl, e)
takes_first false b e = absurd (true≢false (sym e))

none_refused : (r : Option Refusal) → is_none r ≡ true → r ≡ None
none_refused None e = refl
none_refused (Some r) e = absurd (true≢false (sym e))

interrupt_holds : (octets : List ℕ) (ds : List Datum) (w : Way) → Holds (at_front (Some octets) ds w)
    → takes_all w.far.role w.far.flow w.far.channel (Interrupting octets ∷ []) ≡ true → Holds (sent_on (TakenInterrupt octets) (at_front (Some octets) ds w))
interrupt_holds octets ds w h takes =
    let g = with_front (Some octets) ds w.near in
    let r = none_refused (refusal w.far.role w.far.flow w.far.channel (Interrupting octets)) (takes_first _ _ takes).0 in
    let state = not_refused (not (in_transfer w.far.channel.state)) _ _ r in
    let resetting = not_refused w.far.channel.resetting _ _ state.1 in
    let long = not_refused _ _ _ resetting.1 in
    let pending = not_refused (interrupt_pending w.far.channel.traffic) _ _ long.1 in
    let both = none_of_or (is_some w.far.channel.traffic.interrupt_waiting) w.far.channel.traffic.interrupt_unconfirmed pending.0 in
    done_on (TakenInterrupt octets) (at_front (Some octets) ds w) (taking_allowed g h.near_call)
    (subst (λ (f : Leg). Holds (record { near = asked_unless None Taking g; far = f; kept = w.kept })) (sym (asked_as (Interrupting octets) w.far r)) (record {
      near = leg_taken g h.near;
      far = leg_interrupted octets w.far resetting.0 both.1 h.far;
      near_call = h.near_call;
      far_call = h.far_call;
      passed = h.passed;
      direction = direction_interrupts octets w.kept (taken_part g.epoch) (sent_part w.far.epoch) h.direction;
      gathered = h.gathered;
      packets = h.packets;
      interrupted = refl;
    }))

-- a leg that takes these packets, one after the other
record SentAll (ds : List Datum) (g h : Leg) : Type 0 where
  leg : IsLeg h
  seen : far_seen h ≡ record (far_seen g) { part = record (sent_part g.epoch) { packets = g.epoch.sent ++ ds } }
  room : (length ds ≡ 0) ⊎ (length g.channel.traffic.waiting + length ds ≤ 8)

abbrev SendsAll : List Datum → Type 0
SendsAll ds = (g : Leg) → IsLeg g → takes_all g.role g.flow g.channel (map Sending ds) ≡ true → SentAll ds g (asked_all (map Sending ds) g)

sends_first : (d : Datum) (ds : List Datum) → SendsAll ds → SendsAll (d ∷ ds)
sends_first d ds onward g i takes =
    subst (λ (h : Leg). SentAll (d ∷ ds) g (asked_all (map Sending ds) h)) (sym (asked_as (Sending d) g r)) (record {
      leg = rest.leg;
      seen = rest.seen ∙ ap (λ (sent : List Datum). record (far_seen g) { part = record (sent_part g.epoch) { packets = sent } }) (append_assoc g.epoch.sent (d ∷ []) ds);
      room = inr (fits rest.room);
    })
  where
    both : (is_none (refusal g.role g.flow g.channel (Sending d)) ≡ true)
        × (takes_all g.role g.flow (owing (unless (refusal g.role g.flow g.channel (Sending d)) (carried_out g.channel (Sending d)) g.channel)) (map Sending ds) ≡ true)
    both = takes_first _ _ takes

    r : refusal g.role g.flow g.channel (Sending d) ≡ None
    r = none_refused (refusal g.role g.flow g.channel (Sending d)) both.0

    resetting : (g.channel.resetting ≡ false) × (refused_if (nat_le 8 (length g.channel.traffic.waiting)) Refusal.QueueFull (refused_if (nat_lt g.flow.size (length d.octets)) Refusal.TooLong None) ≡ None)
    resetting = not_refused g.channel.resetting _ _ (not_refused (not (in_transfer g.channel.state)) _ _ r).1

    full : length g.channel.traffic.waiting < 8
    full = leb-false 8 (length g.channel.traffic.waiting) (not_refused (nat_le 8 (length g.channel.traffic.waiting)) _ _ resetting.1).0

    next : Leg
    next = asked_unless None (Sending d) g

    rest : SentAll ds next (asked_all (map Sending ds) next)
    rest = onward next (leg_sent d g resetting.0 i)
        (sym (ap (λ (o : Option Refusal). takes_all g.role g.flow (owing (unless o (carried_out g.channel (Sending d)) g.channel)) (map Sending ds)) r) ∙ both.1)

    fits : (length ds ≡ 0) ⊎ (length (g.channel.traffic.waiting ++ d ∷ []) + length ds ≤ 8) → length g.channel.traffic.waiting + suc (length ds) ≤ 8
    fits (inl none) = omega (arith, none, full)
    fits (inr le) = let size = length-append g.channel.traffic.waiting (d ∷ []) in omega (arith, size, le)

sends_all : (ds : List Datum) → SendsAll ds
sends_all [] g i takes = record {
  leg = i;
  seen = ap (λ (sent : List Datum). record (far_seen g) { part = record (sent_part g.epoch) { packets = sent } }) (sym (append-nil g.epoch.sent));
  room = inl refl;
}
sends_all (d ∷ ds) g i takes = sends_first d ds (sends_all ds) g i takes

packet_holds : (d : Datum) (ds : List Datum) (w : Way) → Holds (at_front None (d ∷ ds) w)
    → takes_all w.far.role w.far.flow w.far.channel (map Sending (turned (sizes w) w.kept.gathered d).made) ≡ true → Holds (sent_on (TakenPacket d) (at_front None (d ∷ ds) w))
packet_holds d ds w h takes = done_on (TakenPacket d) (at_front None (d ∷ ds) w) (taking_allowed g h.near_call)
    (holds_of (record { near = asked_unless None Taking g; far = far; kept = kept }) (leg_taken g h.near) sent.leg
    (subst (λ (f : Far). Linked (near_seen (asked_unless None Taking g)) f kept) (sym sent.seen) (record {
      near_call = h.near_call;
      far_call = h.far_call;
      passed = h.passed;
      direction = direction_carries (sizes w) d w.kept (taken_part g.epoch) (sent_part w.far.epoch) few (within sent.room) h.direction;
      gathered = turned_gathered (sizes w) w.kept.gathered d;
      packets = λ e. ap₂ (λ (sent made : List Datum). sent ++ made) (h.packets e) (same e);
      interrupted = h.interrupted;
    })))
  where
    g : Leg
    g = with_front None (d ∷ ds) w.near

    made : List Datum
    made = (turned (sizes w) w.kept.gathered d).made

    far : Leg
    far = asked_all (map Sending made) w.far

    kept : Direction
    kept = carried_by (sizes w) (TakenPacket d) w.kept

    sent : SentAll made w.far far
    sent = sends_all made w.far h.far takes

    few : length g.epoch.taken < g.epoch.released + 32
    few = let near_window = window_small _ h.near.flow in let came = h.near.counts.came_within in omega (arith, came, near_window)

    within : (length made ≡ 0) ⊎ (length w.far.channel.traffic.waiting + length made ≤ 8) → w.kept.outstanding + length made ≤ 255
    within (inl none) = let octet = h.direction.octet in omega (arith, none, octet)
    within (inr room) =
        let far_window = window_small _ h.far.flow in
        let went = h.far.counts.went_within in
        let gone = gone_is w.far.flow w.far.channel.traffic w.far.epoch h.far.counts in
        let left = h.direction.outstanding in
        omega (arith, gone, went, far_window, room, left)

    same : w.near.flow.size ≡ w.far.flow.size → made ≡ d ∷ []
    same e =
        let none = h.gathered.nothing (let same = e in omega (arith, same)) in
        ap (λ (t : Turn). t.made) (one_size (sizes w) w.kept.gathered d e none)

by_takes : (t : Taken) (w : Way) (b : Bool) → takes_all w.far.role w.far.flow w.far.channel (due w t) ≡ b → IsRight w
    → (takes_all w.far.role w.far.flow w.far.channel (due w t) ≡ true → Holds (sent_on t w)) → IsRight (moved_if b t w)
by_takes t w false e right f = right
by_takes t w true e right f = freed_right (sent_on t w) (f e)

moved_at : (a : Option (List ℕ)) (ds : List Datum) (w : Way) → IsRight (at_front a ds w) → IsRight (moved_front (front_of a ds) (at_front a ds w))
moved_at (Some octets) ds w i =
    by_takes (TakenInterrupt octets) (at_front (Some octets) ds w) _ refl i (λ e. interrupt_holds octets ds w i.holds e)
moved_at None [] w i = i
moved_at None (d ∷ ds) w i = by_takes (TakenPacket d) (at_front None (d ∷ ds) w) _ refl i (λ e. packet_holds d ds w i.holds e)

pub moved_right : (w : Way) → IsRight w → IsRight (moved w)
moved_right w i = moved_at w.near.channel.traffic.interrupt_arrived w.near.channel.traffic.arrived w i

pub relayed_right : (most : ℕ) (w : Way) → IsRight w → IsRight (relayed most w)
relayed_right zero w i = i
relayed_right (suc most) w i = relayed_right most (moved w) (moved_right w i)

-- ---- nothing is kept back

abbrev one : Option (List ℕ) → ℕ
one (Some octets) = 1
one None = 0

-- how much waits on a leg
abbrev waits : Leg → ℕ
waits g = length g.channel.traffic.arrived + one g.channel.traffic.interrupt_arrived

-- ---- what the other direction sees of the legs that are moved

-- whether a leg takes what is sent on it
pub record Open : Type 0 where
  pub size : ℕ
  pub state : ChannelState
  pub resetting : Bool
  pub waiting : List Datum
  pub interrupt_waiting : Option (List ℕ)
  pub interrupt_unconfirmed : Bool

abbrev pub open_on : Flow → Channel → Open
open_on flow ch = record {
  size = flow.size;
  state = ch.state;
  resetting = ch.resetting;
  waiting = ch.traffic.waiting;
  interrupt_waiting = ch.traffic.interrupt_waiting;
  interrupt_unconfirmed = ch.traffic.interrupt_unconfirmed;
}

abbrev pub open_of : Leg → Open
open_of g = open_on g.flow g.channel

abbrev refused_open : Open → Datum → Option Refusal
refused_open o d =
    refused_if (not (in_transfer o.state)) Refusal.NoCall
    (refused_if o.resetting Refusal.IsResetting
    (refused_if (nat_le 8 (length o.waiting)) Refusal.QueueFull (refused_if (nat_lt o.size (length d.octets)) Refusal.TooLong None)))

abbrev sent_open : Option Refusal → Datum → Open → Open
sent_open None d o = record o { waiting = o.waiting ++ d ∷ [] }
sent_open (Some r) d o = o

abbrev takes_open : Open → List Datum → Bool
takes_open o [] = true
takes_open o (d ∷ ds) = is_none (refused_open o d) && takes_open (sent_open (refused_open o d) d o) ds

takes_as_open : (ds : List Datum) (role : Role) (flow : Flow) (ch : Channel) → takes_all role flow ch (map Sending ds) ≡ takes_open (open_on flow ch) ds
takes_as_open [] role flow ch = refl
takes_as_open (d ∷ ds) role flow ch =
    ap (λ (b : Bool). is_none r && b) (takes_as_open ds role flow (owing (unless r (carried_out ch (Sending d)) ch)) ∙ ap (λ (o : Open). takes_open o ds) (after r))
  where
    r : Option Refusal
    r = refusal role flow ch (Sending d)

    after : (o : Option Refusal) → open_on flow (owing (unless o (carried_out ch (Sending d)) ch)) ≡ sent_open o d (open_on flow ch)
    after None = refl
    after (Some f) = refl

-- legs that are open alike take the same
pub same_takes : (s : Sizes) (k : Gathered) (t : Taken) (g h : Leg) → open_of h ≡ open_of g
    → takes_all h.role h.flow h.channel (requests_for s k t) ≡ takes_all g.role g.flow g.channel (requests_for s k t)
same_takes s k (TakenInterrupt octets) g h e =
    ap (λ (o : Open).
    is_none (refused_if (not (in_transfer o.state)) Refusal.NoCall
    (refused_if o.resetting Refusal.IsResetting
    (refused_if ((length octets == 0) || nat_lt 32 (length octets)) Refusal.TooLong
    (refused_if (is_some o.interrupt_waiting || o.interrupt_unconfirmed) Refusal.InterruptPending None)))) && true) e
same_takes s k (TakenPacket d) g h e =
    let made = (turned s k d).made in
    takes_as_open made h.role h.flow h.channel ∙ ap (λ (o : Open). takes_open o made) e ∙ sym (takes_as_open made g.role g.flow g.channel)

-- taking and releasing keep what is seen of a far leg, sending keeps what is seen of a near leg
pub record KeepsFar (g h : Leg) : Type 0 where
  pub seen : far_seen h ≡ far_seen g
  pub open_ : open_of h ≡ open_of g

pub record KeepsNear (g h : Leg) : Type 0 where
  pub seen : near_seen h ≡ near_seen g
  pub front : front h.channel.traffic ≡ front g.channel.traffic

taking_keeps : (r : Option Refusal) (a : Option (List ℕ)) (ds : List Datum) (g : Leg) → KeepsFar (with_front a ds g) (asked_unless r Taking (with_front a ds g))
taking_keeps (Some r) a ds g = record { seen = refl; open_ = refl }
taking_keeps None (Some octets) ds g = record { seen = refl; open_ = refl }
taking_keeps None None [] g = record { seen = refl; open_ = refl }
taking_keeps None None (d ∷ ds) g = record { seen = refl; open_ = refl }

abbrev released_leg : Bool → ℕ → Leg → Leg
released_leg b n g = record g { channel = with_traffic (cond b (releasing n g.channel.traffic) g.channel.traffic) g.channel; epoch = if b then record g.epoch { released = g.epoch.released + n } else g.epoch }

released_keeps : (b : Bool) (n : ℕ) (g : Leg) → KeepsFar g (released_leg b n g)
released_keeps true n g = record { seen = refl; open_ = refl }
released_keeps false n g = record { seen = refl; open_ = refl }

releasing_keeps : (r : Option Refusal) (n : ℕ) (g : Leg) → KeepsFar g (asked_unless r (Releasing n) g)
releasing_keeps (Some r) n g = record { seen = refl; open_ = refl }
releasing_keeps None n g = released_keeps (may_release n g.channel.traffic) n g

pub asked_taking_keeps : (g : Leg) → KeepsFar g (asked Taking g)
asked_taking_keeps g = taking_keeps (refusal g.role g.flow g.channel Taking) g.channel.traffic.interrupt_arrived g.channel.traffic.arrived g

pub asked_releasing_keeps : (n : ℕ) (g : Leg) → KeepsFar g (asked (Releasing n) g)
asked_releasing_keeps n g = releasing_keeps (refusal g.role g.flow g.channel (Releasing n)) n g

unless_keeps : (r : Option Refusal) (q : Request) (g : Leg) → ((h : Leg) → KeepsNear h (asked_unless None q h)) → KeepsNear g (asked_unless r q g)
unless_keeps (Some r) q g keeps = record { seen = refl; front = refl }
unless_keeps None q g keeps = keeps g

near_twice : (g h k : Leg) → KeepsNear g h → KeepsNear h k → KeepsNear g k
near_twice g h k a b = record { seen = b.seen ∙ a.seen; front = b.front ∙ a.front }

sendings_keep : (ds : List Datum) (g : Leg) → KeepsNear g (asked_all (map Sending ds) g)
sendings_keep [] g = record { seen = refl; front = refl }
sendings_keep (d ∷ ds) g =
    near_twice g (asked (Sending d) g) (asked_all (map Sending ds) (asked (Sending d) g))
    (unless_keeps (refusal g.role g.flow g.channel (Sending d)) (Sending d) g (λ h. record { seen = refl; front = refl })) (sendings_keep ds (asked (Sending d) g))

pub due_keeps : (s : Sizes) (k : Gathered) (t : Taken) (g : Leg) → KeepsNear g (asked_all (requests_for s k t) g)
due_keeps s k (TakenInterrupt octets) g =
    unless_keeps (refusal g.role g.flow g.channel (Interrupting octets)) (Interrupting octets) g (λ h. record { seen = refl; front = refl })
due_keeps s k (TakenPacket d) g = sendings_keep (turned s k d).made g

pub far_twice : (g h k : Leg) → KeepsFar g h → KeepsFar h k → KeepsFar g k
far_twice g h k a b = record { seen = b.seen ∙ a.seen; open_ = b.open_ ∙ a.open_ }

pub record Beside (w v : Way) : Type 0 where
  pub near : KeepsFar w.near v.near
  pub far : KeepsNear w.far v.far

beside_if : (t : Taken) (b : Bool) (w : Way) → Beside w (moved_if b t w)
beside_if t false w = record { near = record { seen = refl; open_ = refl }; far = record { seen = refl; front = refl } }
beside_if t true w = record {
  near = far_twice w.near (asked Taking w.near) _ (asked_taking_keeps w.near)
      (asked_releasing_keeps (releasable (carried_by (sizes w) t w.kept).held) (asked Taking w.near));
  far = due_keeps (sizes w) w.kept.gathered t w.far;
}

beside_front : (f : Option Taken) (w : Way) → Beside w (moved_front f w)
beside_front None w = record { near = record { seen = refl; open_ = refl }; far = record { seen = refl; front = refl } }
beside_front (Some t) w = beside_if t (takes_all w.far.role w.far.flow w.far.channel (due w t)) w

beside_twice : (w v u : Way) → Beside w v → Beside v u → Beside w u
beside_twice w v u a b = record {
  near = far_twice w.near v.near u.near a.near b.near;
  far = record { seen = b.far.seen ∙ a.far.seen; front = b.far.front ∙ a.far.front };
}

pub relayed_beside : (most : ℕ) (w : Way) → Beside w (relayed most w)
relayed_beside zero w = beside_front None w
relayed_beside (suc most) w =
    beside_twice w (moved w) (relayed most (moved w)) (beside_front (front w.near.channel.traffic) w) (relayed_beside most (moved w))

-- ---- each move takes something, or nothing can be taken

released_waits : (b : Bool) (n : ℕ) (g : Leg) → waits (released_leg b n g) ≡ waits g
released_waits true n g = refl
released_waits false n g = refl

releasing_waits : (r : Option Refusal) (n : ℕ) (g : Leg) → waits (asked_unless r (Releasing n) g) ≡ waits g
releasing_waits (Some r) n g = refl
releasing_waits None n g = released_waits (may_release n g.channel.traffic) n g

data Progress (w v : Way) : Type 0 where
  stays : IsStuck w → v ≡ w → Progress w v
  takes : waits v.near < waits w.near → Progress w v

freed_waits : (w : Way) → waits (freed w).near ≡ waits w.near
freed_waits w = releasing_waits (refusal w.near.role w.near.flow w.near.channel (Releasing (releasable w.kept.held))) (releasable w.kept.held) w.near

taken_waits : (g : Leg) → g.channel.state ≡ Transfer → waits (asked Taking g) ≡ waits (asked_unless None Taking g)
taken_waits g e = ap (λ (h : Leg). waits h) (asked_as Taking g (taking_allowed g e))

sent_on_waits : (a : Option (List ℕ)) (ds : List Datum) (t : Taken) (w : Way) → front_of a ds ≡ Some t → w.near.channel.state ≡ Transfer
    → waits (freed (sent_on t (at_front a ds w))).near < waits (with_front a ds w.near)
sent_on_waits (Some octets) ds t w e call =
    let g = with_front (Some octets) ds w.near in
    let f = freed_waits (sent_on t (at_front (Some octets) ds w)) in
    let k : waits (asked Taking g) ≡ length ds + 0 = taken_waits g call in
    let l : waits g ≡ length ds + 1 = refl in
    omega arith
sent_on_waits None [] t w e call = absurd (none-some t e)
sent_on_waits None (d ∷ ds) t w e call =
    let g = with_front None (d ∷ ds) w.near in
    let f = freed_waits (sent_on t (at_front None (d ∷ ds) w)) in
    let k : waits (asked Taking g) ≡ length ds + 0 = taken_waits g call in
    let l : waits g ≡ suc (length ds) + 0 = refl in
    omega arith

progress_if : (t : Taken) (w : Way) (b : Bool) → takes_all w.far.role w.far.flow w.far.channel (due w t) ≡ b → front w.near.channel.traffic ≡ Some t
    → w.near.channel.state ≡ Transfer → Progress w (moved_if b t w)
progress_if t w false e f call =
    stays (λ u g. subst (λ (s : Taken). takes_all w.far.role w.far.flow w.far.channel (due w s) ≡ false) (same_Some t u (sym f ∙ g)) e) refl
progress_if t w true e f call = takes (sent_on_waits w.near.channel.traffic.interrupt_arrived w.near.channel.traffic.arrived t w f call)

progress_front : (o : Option Taken) (w : Way) → front w.near.channel.traffic ≡ o → w.near.channel.state ≡ Transfer → Progress w (moved_front o w)
progress_front None w f call = stays (λ u g. absurd (none-some u (sym f ∙ g))) refl
progress_front (Some t) w f call = progress_if t w _ refl f call

stays_put : (most : ℕ) (w : Way) → moved w ≡ w → relayed most w ≡ w
stays_put zero w e = refl
stays_put (suc most) w e = ap (λ (v : Way). relayed most v) e ∙ stays_put most w e

nothing_waits : (a : Option (List ℕ)) (ds : List Datum) (t : Taken) → length ds + one a ≤ 0 → front_of a ds ≡ Some t → ⊥
nothing_waits (Some octets) ds t le e = absurd (omega arith)
nothing_waits None [] t le e = none-some t e
nothing_waits None (d ∷ ds) t le e = absurd (omega arith)

stuck_step : (most : ℕ) (w : Way) → (waits (moved w).near ≤ most → IsStuck (relayed most (moved w))) → waits w.near ≤ suc most → Progress w (moved w)
    → IsStuck (relayed most (moved w))
stuck_step most w onward le (stays s e) = subst (λ (v : Way). IsStuck v) (sym (ap (λ (v : Way). relayed most v) e ∙ stays_put most w e)) s
stuck_step most w onward le (takes lt) = onward (omega arith)

stuck_within : (most : ℕ) (w : Way) → IsRight w → waits w.near ≤ most → IsStuck (relayed most w)
stuck_within zero w i le = λ t e. absurd (nothing_waits w.near.channel.traffic.interrupt_arrived w.near.channel.traffic.arrived t le e)
stuck_within (suc most) w i le =
    stuck_step most w (λ less. stuck_within most (moved w) (moved_right w i) less) le (progress_front (front w.near.channel.traffic) w refl i.holds.near_call)

pub relayed_stuck : (w : Way) → IsRight w → IsStuck (relayed most_moves w)
unfolding most_moves
relayed_stuck w i = stuck_within most_moves w i (few w.near.channel.traffic.interrupt_arrived (length w.near.channel.traffic.arrived) (arrived_within w.near i.holds.near))
  where
    few : (a : Option (List ℕ)) (n : ℕ) → n ≤ 32 → n + one a ≤ most_moves
    few (Some octets) n le = omega arith
    few None n le = omega arith
