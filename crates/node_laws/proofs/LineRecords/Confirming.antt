-- Where an end says that delivery is confirmed, each packet with D = 1 of the last epoch is covered.
use Rattle.std.specs.Prelude.{◌≡◌, ℕ, suc, ◌<◌, Bool, true, ◌&&◌, ◌==◌, List, [], ◌∷◌, ◌++◌, length, map, slice_get, Option, Some, None}
use Rattle.std.proofs.Common.{refl, sym, ap, subst, ◌∙◌, true≢false}
use Rattle.std.proofs.lemmas.Bool.{and_parts, eqb-true, eq-eqb}
use Rattle.std.proofs.lemmas.List.{length-map}
use Rattle.link_timers.specs.declared.role.Role.{Role}
use Rattle.link_timers.specs.declared.role.Role.TheVariants.{Dte, Dce}
use Rattle.epochs.specs.Item.{DataPacket}
use Rattle.data_transfer.specs.declared.flow.Flow.{Flow}
use Rattle.data_transfer.proofs.Windows.{window_below}
use Rattle.data_transfer.specs.Packets.{Datum}
use Rattle.packet_channel.specs.Channel.{Channel, in_transfer}
use Rattle.packet_layer.specs.Layer.{Layer, channel_of, confirmed_at}
use Rattle.packet_laws.specs.History.{Epoch}
use Rattle.packet_laws.specs.Counts.{NamesCounts, AreDelivered}
use Rattle.packet_laws.specs.Counted.{IsCounted}
use Rattle.packet_laws.specs.LayerLineLaw.{epoch_now}
use Rattle.packet_laws.proofs.Naming.{counts_hold}
use Rattle.node_laws.specs.Lines.NodeLine.{Line}
use Rattle.call_records.specs.Records.{RecordValue}
use Rattle.call_records.specs.Book.{Book, packet_of, slot_at}
use Rattle.record_laws.specs.Books.Told.{World, after_all}
use Rattle.record_laws.specs.Books.Delivery.{IsAllCovered}
use Rattle.record_laws.specs.Books.Open.{HasLast, layers_at}
use Rattle.record_laws.proofs.Books.OpenPairs.{opened, counted_there}
use Rattle.node_laws.specs.LineRecords.Kept.{Setting, Kept, beginning, end_at}
use Rattle.node_laws.specs.LineRecords.Confirmed.{SaysConfirmed, ConfirmedLaw}

-- ---- packets of a record and of the layer

-- where a list of packets is split, so is that of the layer
record Split (before after : List DataPacket) (p : DataPacket) (ds : List Datum) : Type 0 where
  front : List Datum
  back : List Datum
  datum : Datum
  whole : front ++ datum ∷ back ≡ ds
  long : length front ≡ length before
  same : packet_of datum ≡ p

abbrev head_or : DataPacket → List DataPacket → DataPacket
head_or p [] = p
head_or p (q ∷ qs) = q

abbrev tail_of : List DataPacket → List DataPacket
tail_of [] = []
tail_of (q ∷ qs) = qs

split : (before after : List DataPacket) (p : DataPacket) (ds : List Datum) → before ++ p ∷ after ≡ map packet_of ds → Split before after p ds
split [] after p [] e = absurd (cc)
split [] after p (d ∷ ds) e = record { front = []; back = ds; datum = d; whole = refl; long = refl; same = ap (λ (l : List DataPacket). head_or p l) (sym e) }
split (q ∷ before) after p [] e = absurd (cc)
split (q ∷ before) after p (d ∷ ds) e =
    let s = split before after p ds (ap tail_of e) in
    record { front = d ∷ s.front; back = s.back; datum = s.datum; whole = ap (λ (l : List Datum). d ∷ l) s.whole; long = ap suc s.long; same = s.same }

map_append : (xs : List Datum) (d : Datum) (ys : List Datum) → map packet_of (xs ++ d ∷ ys) ≡ map packet_of xs ++ packet_of d ∷ map packet_of ys
map_append [] d ys = refl
map_append (x ∷ xs) d ys = ap (λ (l : List DataPacket). packet_of x ∷ l) (map_append xs d ys)

covered_of : (r : RecordValue) (e : Epoch) → HasLast r e → AreDelivered e → IsAllCovered r.sent
covered_of r e h all before after p whole marked =
    let s = split before after p e.sent (whole ∙ h.sent) in
    subst (λ (n : ℕ). n < r.sent.covered) s.long
    (subst (λ (n : ℕ). length s.front < n) (sym h.covered) (all s.front s.back s.datum s.whole (ap (λ (q : DataPacket). q.delivery) s.same ∙ marked)))

delivered_of : (r : RecordValue) (e : Epoch) → HasLast r e → IsAllCovered r.sent → AreDelivered e
delivered_of r e h all before after d whole marked =
    subst (λ (n : ℕ). n < e.covered) (length-map before packet_of)
    (subst (λ (n : ℕ). length (map packet_of before) < n) h.covered
    (all (map packet_of before) (map packet_of after) (packet_of d) (sym (map_append before d after) ∙ ap (λ (l : List Datum). map packet_of l) whole ∙ sym h.sent) marked))

-- ---- what the layer says

record IsSaid (o : Option Channel) : Type 0 where
  ch : Channel
  found : o ≡ Some ch
  flows : in_transfer ch.state ≡ true
  none : ch.traffic.undelivered ≡ 0

is_said : (o : Option Channel) → confirmed_at o ≡ true → IsSaid o
is_said None e = absurd (true≢false (sym e))
is_said (Some ch) e =
    let both = and_parts (in_transfer ch.state) (ch.traffic.undelivered == 0) e in
    record { ch = ch; found = refl; flows = both.0; none = eqb-true ch.traffic.undelivered 0 both.1 }

said_of : (o : Option Channel) (ch : Channel) → o ≡ Some ch → in_transfer ch.state ≡ true → ch.traffic.undelivered ≡ 0 → confirmed_at o ≡ true
said_of o ch found flows none = ap confirmed_at found ∙ ap (λ (v : Bool). v && (ch.traffic.undelivered == 0)) flows ∙ eq-eqb ch.traffic.undelivered 0 none

says : (flow : Flow) (l : Layer) (channel : ℕ) (r : RecordValue) (e : Epoch) → HasLast r e
    → ((ch : Channel) → channel_of l channel ≡ Some ch → in_transfer ch.state ≡ true → NamesCounts flow ch.traffic e) → SaysConfirmed l channel r
says flow l channel r e h counts = record {
  covered = λ said.
      let is = is_said (channel_of l channel) said in
      covered_of r e h ((counts_hold.delivered flow is.ch.traffic e (counts is.ch is.found is.flows)).0 is.none);
  said = λ ch found flows all. said_of (channel_of l channel) ch found flows ((counts_hold.delivered flow ch.traffic e (counts ch found flows)).1 (delivered_of r e h all));
}

-- ---- the law

module _ (s : Setting) (b : Book) (l : Line) (k : Kept s b l) where
  abbrev world : World
  world = after_all k.moves (beginning s)

  same_layer : (role : Role) (channel : ℕ) → channel_of (layers_at role world.line).layer channel ≡ channel_of (end_at role l).layer channel
  same_layer Dte channel = ap (λ (x : Layer). channel_of x channel) k.joint.mine.layer
  same_layer Dce channel = ap (λ (x : Layer). channel_of x channel) k.joint.yours.layer

  says_so : (role : Role) (channel number : ℕ) (r : RecordValue) → (slot_at role channel world.book).present ≡ Some number → slice_get world.book.records number ≡ Some r
      → SaysConfirmed (end_at role l).layer channel r
  says_so role channel number r at there =
      let p = k.setting.dte.layer in
      let h = (opened s.dte_node s.dce_node s.dte.channels s.dte.flow s.dte.standing p.channels_least (window_below _ p.flow_is) k.moves k.allowed).present role channel number r at there in
      let counted : IsCounted s.dte.flow (layers_at role world.line) h.0 channel =
      counted_there s.dte_node s.dce_node s.dte.channels s.dte.flow s.dte.standing p.channels_least (window_below _ p.flow_is) k.moves k.allowed role channel number at h.0 in
      says s.dte.flow (end_at role l).layer channel r (epoch_now ((layers_at role world.line).histories h.0 channel)) h.1.last
      (λ ch found flows. counted ch h.1.up (same_layer role channel ∙ found) flows)

pub confirmed_kept : ConfirmedLaw
confirmed_kept s b l role channel number r k at there =
    says_so s b l k role channel number r (ap (λ (x : Book). (slot_at role channel x).present) k.book ∙ at) (ap (λ (x : Book). slice_get x.records number) k.book ∙ there)
