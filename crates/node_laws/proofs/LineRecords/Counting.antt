-- What the records of a line count is what its packet layers let pass.
use Rattle.std.specs.Prelude.{◌≡◌, ℕ, ◌<◌, ◌≤◌, true, List, [], ◌∷◌, ◌++◌, length, slice_get, Some}
use Rattle.std.proofs.Common.{inl, inr, sym, ap, subst, ◌∙◌, arith}
use Rattle.std.proofs.lemmas.List.{length-map}
use Rattle.link_timers.specs.declared.role.Role.{Role}
use Rattle.link_timers.specs.declared.role.Role.TheVariants.{Dte, Dce}
use Rattle.epochs.specs.Item.{DataPacket}
use Rattle.epochs.specs.Epoch.{SentEpoch, TakenEpoch}
use Rattle.data_transfer.specs.Flow.{modulus}
use Rattle.data_transfer.specs.declared.flow.Flow.{Flow}
use Rattle.data_transfer.proofs.Windows.{window_below}
use Rattle.packet_channel.specs.Channel.{Channel, in_transfer}
use Rattle.packet_layer.specs.Layer.{Layer, channel_of, unread}
use Rattle.packet_laws.specs.History.{Epoch, empty_epoch}
use Rattle.packet_laws.specs.LayerLine.{End}
use Rattle.packet_laws.specs.Counts.{NamesCounts}
use Rattle.packet_laws.specs.Counted.{IsCounted}
use Rattle.packet_laws.specs.LayerLineLaw.{epoch_now}
use Rattle.packet_laws.proofs.Numbers.{uncovered_is, unreleased_is}
use Rattle.node_laws.specs.Lines.NodeLine.{Line}
use Rattle.call_records.specs.Records.{RecordValue}
use Rattle.call_records.specs.Book.{Book, packet_of, slot_at, side_of}
use Rattle.record_laws.specs.Books.Told.{World, after_all}
use Rattle.record_laws.specs.Books.Open.{HasLast, layers_at}
use Rattle.record_laws.specs.Books.Counts.{HasEpochs, HasCounted, IsCountedAt}
use Rattle.record_laws.proofs.Books.OpenPairs.{opened, counted_there}
use Rattle.record_laws.proofs.Books.Counting.{records_counted}
use Rattle.node_laws.specs.LineRecords.Kept.{Setting, Kept, beginning, end_at}
use Rattle.node_laws.specs.LineRecords.Counted.{ShowsCounts, ShownLaw, HasItsEpochs, IsCountedThere, CountsLaw}

shows : (flow : Flow) → flow.window < modulus flow.numbering → (l : Layer) (channel : ℕ) (r : RecordValue) (e : Epoch) → HasLast r e
    → ((ch : Channel) → channel_of l channel ≡ Some ch → in_transfer ch.state ≡ true → NamesCounts flow ch.traffic e) → ShowsCounts l channel r
shows flow small l channel r e h counts = record {
  covered = λ ch found flows.
      let flight = uncovered_is flow ch.traffic e small (counts ch found flows) in
      let many = ap (λ (ps : List DataPacket). length ps) h.sent in
      let same = length-map e.sent packet_of in
      let count = h.covered in
      omega arith;
  released = λ ch found flows.
      let rest = unreleased_is flow ch.traffic e small (counts ch found flows) in
      let many = ap (λ (ps : List DataPacket). length ps) h.taken in
      let same = length-map e.taken packet_of in
      let count = h.released in
      omega arith;
}

module _ (s : Setting) (b : Book) (l : Line) (k : Kept s b l) where
  abbrev world : World
  world = after_all k.moves (beginning s)

  pub same_layer : (role : Role) → unread (layers_at role world.line).layer ≡ (end_at role l).layer
  same_layer Dte = k.joint.mine.layer
  same_layer Dce = k.joint.yours.layer

  pub shows_so : (role : Role) (channel number : ℕ) (r : RecordValue) → (slot_at role channel world.book).present ≡ Some number → slice_get world.book.records number ≡ Some r
      → ShowsCounts (end_at role l).layer channel r
  shows_so role channel number r at there =
      let p = k.setting.dte.layer in
      let h = (opened s.dte_node s.dce_node s.dte.channels s.dte.flow s.dte.standing p.channels_least (window_below _ p.flow_is) k.moves k.allowed).present role channel number r at there in
      let counted : IsCounted s.dte.flow (layers_at role world.line) h.0 channel =
      counted_there s.dte_node s.dce_node s.dte.channels s.dte.flow s.dte.standing p.channels_least (window_below _ p.flow_is) k.moves k.allowed role channel number at h.0 in
      shows s.dte.flow (window_below _ p.flow_is) (end_at role l).layer channel r (epoch_now ((layers_at role world.line).histories h.0 channel)) h.1.last
      (λ ch found flows. counted ch h.1.up (ap (λ (x : Layer). channel_of x channel) (same_layer role) ∙ found) flows)

  pub counted_so : (i : ℕ) (r : RecordValue) → slice_get world.book.records i ≡ Some r → IsCountedThere b l r
  counted_so i r there =
      let p = k.setting.dte.layer in
      let c : IsCountedAt world r = records_counted s.dte_node s.dce_node s.dte.channels s.dte.flow s.dte.standing p.channels_least (window_below _ p.flow_is) k.moves k.allowed i r there in
      record {
        role = c.role;
        node = c.node ∙ ap (λ (x : Book). (side_of c.role x).node) k.book;
        epochs = record { setting = s; is_setting = k.setting; moves = k.moves; allowed = k.allowed; reached = same_layer c.role; counts = c.counts };
      }

-- ---- records with the same epochs

-- the epochs that a record sent, and those that it took
abbrev pub all_sent : RecordValue → List SentEpoch
all_sent r = r.sent_before ++ r.sent ∷ []

abbrev pub all_taken : RecordValue → List TakenEpoch
all_taken r = r.taken_before ++ r.taken ∷ []

pub epochs_alike : (epochs : ℕ → Epoch) (own r : RecordValue) → all_sent r ≡ all_sent own → all_taken r ≡ all_taken own → HasEpochs epochs own → HasEpochs epochs r
epochs_alike epochs own r sent taken h = record {
  sent = λ g s at. h.sent g s (ap (λ (es : List SentEpoch). slice_get es g) (sym sent) ∙ at);
  taken = λ g t at. h.taken g t (ap (λ (es : List TakenEpoch). slice_get es g) (sym taken) ∙ at);
  all_sent = λ g beyond. h.all_sent g (subst (λ (es : List SentEpoch). length es ≤ g) sent beyond);
  all_taken = λ g beyond. h.all_taken g (subst (λ (es : List TakenEpoch). length es ≤ g) taken beyond);
}

pub counted_alike : (e : End) (own r : RecordValue) → all_sent r ≡ all_sent own → all_taken r ≡ all_taken own → HasCounted e own → HasCounted e r
counted_alike e own r sent taken (inl h) = inl (record {
  session = h.session;
  channel = h.channel;
  restart = h.restart;
  use_ = h.use_;
  epochs = epochs_alike (λ g. (e.histories h.session h.channel).epochs h.restart h.use_ g) own r sent taken h.epochs;
})
counted_alike e own r sent taken (inr h) = inr (epochs_alike (λ g. empty_epoch) own r sent taken h)

pub its_epochs_alike : (role : Role) (l : Layer) (own r : RecordValue) → all_sent r ≡ all_sent own → all_taken r ≡ all_taken own → HasItsEpochs role l own → HasItsEpochs role l r
its_epochs_alike role l own r sent taken h = record {
  setting = h.setting;
  is_setting = h.is_setting;
  moves = h.moves;
  allowed = h.allowed;
  reached = h.reached;
  counts = counted_alike (layers_at role (after_all h.moves (beginning h.setting)).line) own r sent taken h.counts;
}

-- ---- the laws

pub shown_kept : ShownLaw
shown_kept s b l role channel number r k at there =
    shows_so s b l k role channel number r (ap (λ (x : Book). (slot_at role channel x).present) k.book ∙ at) (ap (λ (x : Book). slice_get x.records number) k.book ∙ there)

pub counts_kept : CountsLaw
counts_kept s b l i r k there = counted_so s b l k i r (ap (λ (x : Book). slice_get x.records i) k.book ∙ there)
