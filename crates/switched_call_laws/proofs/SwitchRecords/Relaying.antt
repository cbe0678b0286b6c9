-- The records of a join, from the clause of the relay.
use Rattle.std.specs.Prelude.{◌≡◌, ◌⊎◌, Bool, true, false, List, [], ◌∷◌, ◌++◌, map, slice_get, Option, Some, None, is_some}
use Rattle.std.proofs.Common.{inl, inr, refl, sym, ap, ap₂, subst, ◌∙◌, true≢false, append-nil}
use Rattle.std.proofs.lemmas.List.{map-append}
use Rattle.link_timers.specs.declared.role.Role.{Role}
use Rattle.link_timers.specs.declared.role.Role.TheVariants.{Dte, Dce}
use Rattle.epochs.specs.Item.{Item, DataPacket, all_items}
use Rattle.epochs.specs.Epoch.{SentEpoch, TakenEpoch}
use Rattle.epochs.specs.Confirmed.{Confirmed, Confirms, sent_confirmed, taken_confirmed}
use Rattle.epochs.proofs.Confirms.{confirms_itself, confirms_in_turn}
use Rattle.packet_channel.specs.Channel.{ChannelState, Channel, had_call, may_accept, waits_for_call}
use Rattle.packet_channel.specs.Channel.ChannelState.{Ready, OwnWaiting, FarWaiting, Transfer, Collision, OwnClear}
use Rattle.packet_layer.specs.Layer.{Layer, channel_of}
use Rattle.packet_laws.specs.History.{Epoch, empty_epoch}
use Rattle.call_records.specs.Records.{RecordValue}
use Rattle.switch_joins.specs.declared.channels.SwitchChannel.{SwitchChannel}
use Rattle.switch_joins.specs.Joins.{Joined}
use Rattle.switch_joins.specs.Turning.{Sizes, items_gathered}
use Rattle.switch_lines.specs.Lines.{SwitchLine}
use Rattle.switch_laws.specs.Leg.{Leg}
use Rattle.switch_laws.specs.Clause.{Carries, Passed, taken_part, sent_part}
use Rattle.switch_laws.specs.Way.{Way, Holds, sizes}
use Rattle.switch_laws.specs.World.{World, Shown, shown_as, shown_on, shown_at, layers_of, IsWorld, IsAtStart, IsCallLeg}
use Rattle.switch_laws.specs.Joined.{IsPair, IsJoinedAt, WaitsFor}
use Rattle.switch_laws.specs.Joined.IsPair.{connected, waiting}
use Rattle.switch_laws.proofs.Places.{some_there}
use Rattle.switch_laws.proofs.Relaying.{waits_before}
use Rattle.switched_call_laws.specs.SwitchRecords.Records.{sent_of, taken_of, all_sent, all_taken, IsRecordOf, HasRecord, leg_if, call_on, Has}
use Rattle.switched_call_laws.specs.SwitchRecords.Written.{Books, HaveRecords}
use Rattle.switched_call_laws.specs.SwitchRecords.Relayed.{RelayedTo, AreRelayed}
use Rattle.switched_call_laws.specs.SwitchRecords.Joined.{IsPresent, JoinsRecords}
use Rattle.switched_call_laws.specs.SwitchRecords.SwitchRecordLaws.{JoinsLaw}
use Rattle.switched_call_laws.proofs.SwitchRecords.Confirming.{carries_has, none_confirmed}

-- ---- lists

in_turn : (ts : List TakenEpoch) (ss : List SentEpoch) (us : List TakenEpoch) (vs : List SentEpoch) → RelayedTo ts ss → RelayedTo us vs → RelayedTo (ts ++ us) (ss ++ vs)
in_turn ts ss us vs r q =
    subst (λ (cs : List Confirmed). Confirms cs (map taken_confirmed (ts ++ us))) (sym (map-append sent_confirmed ss vs))
    (subst (λ (cs : List Confirmed). Confirms (map sent_confirmed ss ++ map sent_confirmed vs) cs) (sym (map-append taken_confirmed ts us))
    (confirms_in_turn (map sent_confirmed ss) (map taken_confirmed ts) (map sent_confirmed vs) (map taken_confirmed us) r q))

later : (ts : List TakenEpoch) (ss : List SentEpoch) (n f : Epoch) (left : List Item) → Carries (taken_part n) (sent_part f) left → RelayedTo ts ss → RelayedTo (ts ++ taken_of n ∷ []) (ss ++ sent_of f ∷ [])
later ts ss n f left c r = in_turn ts ss (taken_of n ∷ []) (sent_of f ∷ []) r (Confirms.join (carries_has n f left c) Confirms.nothing)

passed : (s : Sizes) (ns fs : List Epoch) → Passed s ns fs → RelayedTo (all_taken ns) (all_sent fs)
passed s [] [] Passed.none = Confirms.nothing
passed s (n ∷ ns) (f ∷ fs) (Passed.both {left = left} c same p) = later (all_taken ns) (all_sent fs) n f left c (passed s ns fs p)
passed s (n ∷ ns) fs (Passed.near_alone {left = left} c same p) =
    subst (λ (ss : List SentEpoch). RelayedTo (all_taken ns ++ taken_of n ∷ []) ss) (append-nil (all_sent fs))
    (in_turn (all_taken ns) (all_sent fs) (taken_of n ∷ []) [] (passed s ns fs p) (Confirms.skip (none_confirmed n left c) Confirms.nothing))
passed s ns (f ∷ fs) (Passed.far_alone a b p) =
    subst (λ (ts : List TakenEpoch). RelayedTo ts (all_sent fs ++ sent_of f ∷ [])) (append-nil (all_taken ns))
    (in_turn (all_taken ns) (all_sent fs) [] (sent_of f ∷ []) (passed s ns fs p)
    (Confirms.drop_empty (record { items = ap (λ (ps : List DataPacket). all_items ps) a; interrupts = b }) Confirms.nothing))

-- ---- a way

way_relayed : (w : Way) (a b : RecordValue) → Holds w → IsRecordOf w.near a → IsRecordOf w.far b → RelayedTo (a.taken_before ++ a.taken ∷ []) (b.sent_before ++ b.sent ∷ [])
way_relayed w a b h i k =
    subst (λ (ts : List TakenEpoch). RelayedTo ts (b.sent_before ++ b.sent ∷ [])) (sym (ap₂ (λ (ts : List TakenEpoch) (t : TakenEpoch). ts ++ t ∷ []) i.taken_before i.taken))
    (subst (λ (ss : List SentEpoch). RelayedTo (all_taken w.near.before ++ taken_of w.near.epoch ∷ []) ss) (sym (ap₂ (λ (ss : List SentEpoch) (s : SentEpoch). ss ++ s ∷ []) k.sent_before k.sent))
    (later (all_taken w.near.before) (all_sent w.far.before) w.near.epoch w.far.epoch (items_gathered w.kept.gathered) h.direction.carries (passed (sizes w) w.near.before w.far.before h.passed)))

start_relayed : (g h : Leg) (a b : RecordValue) → IsAtStart g → IsAtStart h → IsRecordOf g a → IsRecordOf h b → RelayedTo (a.taken_before ++ a.taken ∷ []) (b.sent_before ++ b.sent ∷ [])
start_relayed g h a b s t i k =
    subst (λ (ts : List TakenEpoch). RelayedTo ts (b.sent_before ++ b.sent ∷ []))
    (sym (ap₂ (λ (ts : List TakenEpoch) (x : TakenEpoch). ts ++ x ∷ []) (i.taken_before ∙ ap (λ (es : List Epoch). all_taken es) s.before) (i.taken ∙ ap (λ (e : Epoch). taken_of e) s.epoch)))
    (subst (λ (ss : List SentEpoch). RelayedTo (taken_of empty_epoch ∷ []) ss)
    (sym (ap₂ (λ (ss : List SentEpoch) (x : SentEpoch). ss ++ x ∷ []) (k.sent_before ∙ ap (λ (es : List Epoch). all_sent es) t.before) (k.sent ∙ ap (λ (e : Epoch). sent_of e) t.epoch)))
    (confirms_itself (taken_confirmed (taken_of empty_epoch) ∷ [])))

-- ---- a join

pair_relayed : (g h : Leg) (j k : Joined) (a b : RecordValue) → IsCallLeg g → IsCallLeg h → IsPair g h j k → IsRecordOf g a → IsRecordOf h b → AreRelayed a b
pair_relayed g h j k a b ig ih (connected c) i m = record { there = way_relayed _ a b c.there.holds i m; back = way_relayed _ b a c.back.holds m i }
pair_relayed g h j k a b ig ih (waiting p q w) i m =
    let z = waits_before j.came_in g h w in
    let s = ig.start z.0 in let t = ih.start z.1 in
    record { there = start_relayed g h a b s t i m; back = start_relayed h g b a t s m i }

acceptable : (role : Role) (s : ChannelState) → may_accept role s ≡ true → had_call s ≡ true
acceptable role FarWaiting e = refl
acceptable Dce Collision e = refl
acceptable Dte Collision e = refl
acceptable role OwnWaiting e = refl
acceptable role Transfer e = refl
acceptable Dte Ready e = absurd (true≢false (sym e))
acceptable Dce Ready e = absurd (true≢false (sym e))
acceptable Dte OwnClear e = absurd (true≢false (sym e))
acceptable Dce OwnClear e = absurd (true≢false (sym e))

waiting_call : (role : Role) (s : ChannelState) → waits_for_call role s ≡ true → had_call s ≡ true
waiting_call role OwnWaiting e = refl
waiting_call Dte Collision e = refl
waiting_call Dce Collision e = refl
waiting_call role FarWaiting e = refl
waiting_call role Transfer e = refl
waiting_call Dte Ready e = absurd (true≢false (sym e))
waiting_call Dce Ready e = absurd (true≢false (sym e))
waiting_call Dte OwnClear e = absurd (true≢false (sym e))
waiting_call Dce OwnClear e = absurd (true≢false (sym e))

waits_call : (v : Bool) (g h : Leg) → WaitsFor v g h → (had_call g.channel.state ≡ true) × (had_call h.channel.state ≡ true)
waits_call true g h w = (acceptable g.role g.channel.state w.can_accept, waiting_call h.role h.channel.state w.waits)
waits_call false g h w = (waiting_call g.role g.channel.state w.waits, acceptable h.role h.channel.state w.can_accept)

pair_call : (g h : Leg) (j k : Joined) → IsPair g h j k → (had_call g.channel.state ≡ true) × (had_call h.channel.state ≡ true)
pair_call g h j k (connected c) = (ap (λ (s : ChannelState). had_call s) c.there.holds.near_call, ap (λ (s : ChannelState). had_call s) c.there.holds.far_call)
pair_call g h j k (waiting p q w) = waits_call j.came_in g h w

-- the record of a channel that has a call
record OfLeg (bs : Books) (x : SwitchChannel) (g : Leg) : Type 0 where
  it : RecordValue
  there : IsPresent x.channel it (bs x.line)
  is_of : IsRecordOf g it

of_record : (bs : Books) (x : SwitchChannel) (g : Leg) → HasRecord Dce x.channel g (bs x.line) → OfLeg bs x g
of_record bs x g h = record { it = h.it; there = record { number = h.number; present = h.present; there = h.there; is_open = h.is_of.open_ }; is_of = h.is_of }

found : (ls : List SwitchLine) (w : World) (bs : Books) (x : SwitchChannel) → IsWorld (layers_of ls) w → HaveRecords (layers_of ls) w bs → is_some (shown_at (layers_of ls) x) ≡ true → had_call (w x).channel.state ≡ true
    → OfLeg bs x (w x)
found ls w bs x i h there call = by_layer (slice_get (layers_of ls) x.line) refl
  where
    by_channel : (l : Layer) (o : Option Channel) → slice_get (layers_of ls) x.line ≡ Some l → channel_of l x.channel ≡ o → OfLeg bs x (w x)
    by_channel l None e f = absurd (true≢false (sym there ∙ (ap (λ (y : Option Layer). is_some (shown_on y x.channel)) e ∙ ap (λ (o : Option Channel). is_some (shown_as l o)) f)))
    by_channel l (Some ch) e f =
        let a = i x _ (ap (λ (y : Option Layer). shown_on y x.channel) e ∙ ap (λ (o : Option Channel). shown_as l o) f) in
        let has : Has Dce x.channel (leg_if (had_call ch.state) (w x)) (bs x.line) = subst (λ (o : Option Channel). Has Dce x.channel (call_on o (w x)) (bs x.line)) f ((h x.line l e).has x.channel) in
        of_record bs x (w x) (subst (λ (v : Bool). Has Dce x.channel (leg_if v (w x)) (bs x.line)) (ap (λ (s : Shown). had_call s.channel.state) a.shown ∙ call) has)

    by_layer : (o : Option Layer) → slice_get (layers_of ls) x.line ≡ o → OfLeg bs x (w x)
    by_layer None e = absurd (true≢false (sym there ∙ ap (λ (y : Option Layer). is_some (shown_on y x.channel)) e))
    by_layer (Some l) e = by_channel l (channel_of l x.channel) e refl

pub joins_relay : JoinsLaw
joins_relay ls w bs i h p j e = by_pair k.pair
  where
    k : IsJoinedAt 0 [] ls w p j
    k = i.joined p j e

    q_there : is_some (shown_at (layers_of ls) j.other) ≡ true
    q_there = (i.joined j.other k.other k.joined).there

    leg : (x : SwitchChannel) → is_some (shown_at (layers_of ls) x) ≡ true → IsCallLeg (w x)
    leg x t = let s = some_there (shown_at (layers_of ls) x) t in (i.world x s.0 s.1).leg

    of_pair : IsPair (w p) (w j.other) j k.other → JoinsRecords bs p j.other
    of_pair c =
        let calls = pair_call (w p) (w j.other) j k.other c in
        let a = found ls w bs p i.world h k.there calls.0 in
        let b = found ls w bs j.other i.world h q_there calls.1 in
        record { near = a.it; far = b.it; near_there = a.there; far_there = b.there; relayed = pair_relayed (w p) (w j.other) j k.other a.it b.it (leg p k.there) (leg j.other q_there) c a.is_of b.is_of }

    by_pair : IsPair (w p) (w j.other) j k.other ⊎ (⊥ ⊎ ⊥) → JoinsRecords bs p j.other
    by_pair (inl c) = of_pair c
    by_pair (inr z) = elim z [ inl y ↦ absurd y | inr y ↦ absurd y ]
