-- Where both ends of a line are at rest, the book has nothing missing.
use Rattle.std.specs.Prelude.{◌≡◌, ℕ, true, List, map, is_some, Option, Some, None}
use Rattle.std.proofs.Common.{refl, sym, ap, ap₂, subst, ◌∙◌, true≢false}
use Rattle.std.proofs.lemmas.Option.{same_Some}
use Rattle.link_timers.specs.declared.role.Role.{Role}
use Rattle.link_timers.specs.declared.role.Role.TheVariants.{Dte, Dce}
use Rattle.link_timers.specs.Role.{other_of}
use Rattle.epochs.specs.Item.{DataPacket, all_items}
use Rattle.data_transfer.proofs.Windows.{window_below}
use Rattle.data_transfer.specs.Packets.{Datum}
use Rattle.packet_channel.specs.Channel.{Channel}
use Rattle.packet_layer.specs.Layer.{channel_of}
use Rattle.packet_laws.specs.History.{Epoch}
use Rattle.packet_laws.specs.LayerLineLaw.{epoch_now}
use Rattle.node_laws.specs.Lines.NodeLine.{Line}
use Rattle.node_laws.specs.Lines.LineRest.{AreAtRest, HasAll}
use Rattle.node_laws.proofs.Lines.Resting.{nothing_missing}
use Rattle.call_records.specs.Records.{RecordValue, PairValue}
use Rattle.call_records.specs.Book.{Book, packet_of, slot_at}
use Rattle.record_laws.specs.Books.Told.{World, after_all}
use Rattle.record_laws.specs.Books.Headline.{has_call}
use Rattle.record_laws.specs.Books.Open.{HasLast, IsInEpoch, ShareChannel}
use Rattle.record_laws.specs.Books.BookRest.{TookAll, NothingMissing}
use Rattle.record_laws.proofs.Books.OpenPairs.{holds_there, opened}
use Rattle.node_laws.specs.LineRecords.Kept.{Setting, Kept, beginning, end_at}
use Rattle.node_laws.specs.LineRecords.LineRecordsRest.{RestLaw}
use Rattle.node_laws.proofs.LineRecords.LineLaw.{present_kept}

-- what the one end sent and the other one took in an epoch, in their records
took_all : (sender taker : RecordValue) (e f : Epoch) → HasLast sender e → HasLast taker f → HasAll e f → TookAll sender taker
took_all sender taker e f mine yours h =
    ap₂ (λ (ps : List DataPacket) (is : List (List ℕ)). record { items = all_items ps; interrupts = is }) (yours.taken ∙ ap (λ (ds : List Datum). map packet_of ds) h.packets ∙ sym mine.sent)
    (yours.interrupts_taken ∙ h.interrupts ∙ sym mine.interrupts_sent)

both_took : (mine yours : RecordValue) (e f : Epoch) → HasLast mine e → HasLast yours f → HasAll e f → HasAll f e → TookAll mine yours × TookAll yours mine
both_took mine yours e f m y forth back = (took_all mine yours e f m y forth, took_all yours mine f e y m back)

call_there : (o : Option Channel) → has_call o ≡ true → (ch : Channel) × (o ≡ Some ch)
call_there (Some ch) e = (ch, refl)
call_there None e = absurd (true≢false (sym e))

module _ (s : Setting) (b : Book) (l : Line) (k : Kept s b l) (rests : AreAtRest l.dte l.dce) where
  abbrev world : World
  world = after_all k.moves (beginning s)

  -- the channel of a present record
  found : (role : Role) (c n : ℕ) → (slot_at role c world.book).present ≡ Some n → (ch : Channel) × (channel_of (end_at role l).layer c ≡ Some ch)
  found role c n e =
      call_there (channel_of (end_at role l).layer c)
      (sym (present_kept s b l role c k) ∙ ap is_some (ap (λ (x : Book). (slot_at role c x).present) (sym k.book) ∙ e))

  -- what both ends did in the present epoch of a channel
  missing : (c n m : ℕ) → (slot_at Dte c world.book).present ≡ Some n → (slot_at Dce c world.book).present ≡ Some m
      → (session : ℕ) → world.line.me.session ≡ Some session
      → HasAll (epoch_now (world.line.me.histories session c)) (epoch_now (world.line.you.histories session c))
      × HasAll (epoch_now (world.line.you.histories session c)) (epoch_now (world.line.me.histories session c))
  missing c n m here there session up =
      let p = k.setting.dte.layer in
      let mine = found Dte c n here in
      let yours = found Dce c m there in
      let none = nothing_missing k.world world.line l.dte l.dce l.up l.down k.joint rests c
      (holds_there s.dte_node s.dce_node s.dte.channels s.dte.flow s.dte.standing p.channels_least (window_below _ p.flow_is) k.moves k.allowed Dte c n here)
      mine.0 yours.0 mine.1 yours.1 in
      let same : k.world.session ≡ session = same_Some k.world.session session (sym none.up_at_dte ∙ up) in
      subst (λ (i : ℕ). HasAll (epoch_now (world.line.me.histories i c)) (epoch_now (world.line.you.histories i c))
      × HasAll (epoch_now (world.line.you.histories i c)) (epoch_now (world.line.me.histories i c))) same (none.forth, none.back)

  both : (role : Role) (session c : ℕ) (pair : PairValue) (caller callee : RecordValue) → IsInEpoch world role session c pair.caller caller
      → IsInEpoch world (other_of role) session c pair.callee callee → TookAll caller callee × TookAll callee caller
  both Dte session c pair caller callee x y =
      let h = missing c pair.caller pair.callee x.present y.present session x.up in both_took caller callee _ _ x.last y.last h.0 h.1
  both Dce session c pair caller callee x y =
      let h = missing c pair.callee pair.caller y.present x.present session y.up in both_took caller callee _ _ x.last y.last h.1 h.0

  none_missing : NothingMissing world.book.records world.book.pairs
  none_missing i pair caller callee at a c open_a open_c =
      let p = k.setting.dte.layer in
      let h : ShareChannel world pair caller callee =
      (opened s.dte_node s.dce_node s.dte.channels s.dte.flow s.dte.standing p.channels_least (window_below _ p.flow_is) k.moves k.allowed).pairs i pair caller callee at a c open_a open_c in
      both h.role h.session h.channel pair caller callee h.at_caller h.at_callee

pub rest_kept : RestLaw
rest_kept s b l k rests = subst (λ (x : Book). NothingMissing x.records x.pairs) k.book (none_missing s b l k rests)
