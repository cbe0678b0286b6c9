-- Present records, calls that came in and calls that were placed, on a line with its book.
use Rattle.std.proofs.Common.{◌≡◌, ℕ, Some, sym, ap, ◌∙◌, subst}
use Rattle.std.specs.Prelude.{is_some, true, false}
use Rattle.link_timers.specs.declared.role.Role.{Role}
use Rattle.link_timers.specs.declared.role.Role.TheVariants.{Dte, Dce}
use Rattle.data_transfer.proofs.Windows.{window_below}
use Rattle.packet_channel.specs.Channel.{Channel, may_accept, in_transfer}
use Rattle.packet_layer.specs.Layer.{Layer, channel_of}
use Rattle.node_laws.specs.Lines.NodeLine.{Line}
use Rattle.call_records.specs.Book.{Book, slot_at}
use Rattle.record_laws.specs.Books.Told.{after_all}
use Rattle.record_laws.specs.Books.Headline.{HaveRecords, IsPaired, HasCallee, AreAnswered, layer_at}
use Rattle.record_laws.proofs.Books.Answered.{are_answered}
use Rattle.record_laws.proofs.Books.Having.{have_records}
use Rattle.node_laws.specs.LineRecords.Kept.{Setting, Kept, beginning, end_at}

answered : (s : Setting) (b : Book) (l : Line) (k : Kept s b l) → AreAnswered (after_all k.moves (beginning s))
answered s b l k =
    are_answered s.dte_node s.dce_node s.dte.channels s.dte.flow s.dte.standing k.setting.dte.layer.channels_least
    (window_below _ k.setting.dte.layer.flow_is) k.moves k.allowed

-- the channels of an end are those to which the events led
channel_is : (s : Setting) (b : Book) (l : Line) (k : Kept s b l) (role : Role) (channel : ℕ)
    → channel_of (layer_at role (after_all k.moves (beginning s))) channel ≡ channel_of (end_at role l).layer channel
channel_is s b l k Dte channel = ap (λ (x : Layer). channel_of x channel) k.joint.mine.layer
channel_is s b l k Dce channel = ap (λ (x : Layer). channel_of x channel) k.joint.yours.layer

-- a call that may be accepted came in
pub came_kept : (s : Setting) (b : Book) (l : Line) (role : Role) (channel : ℕ) (ch : Channel) → Kept s b l
    → channel_of (end_at role l).layer channel ≡ Some ch → may_accept role ch.state ≡ true
    → is_some (slot_at role channel b).caller ≡ true
came_kept s b l role channel ch k at may =
    ap (λ (x : Book). is_some (slot_at role channel x).caller) (sym k.book)
    ∙ (answered s b l k).came role channel ch (channel_is s b l k role channel ∙ at) may

-- and in data transfer each that came in is in a pair
pub paired_kept : (s : Setting) (b : Book) (l : Line) (role : Role) (channel : ℕ) (ch : Channel) → Kept s b l
    → channel_of (end_at role l).layer channel ≡ Some ch → in_transfer ch.state ≡ true
    → is_some (slot_at role channel b).caller ≡ true → IsPaired (slot_at role channel b) b.pairs
paired_kept s b l role channel ch k at up some =
    subst (λ (x : Book). IsPaired (slot_at role channel x) x.pairs) k.book
    ((answered s b l k).paired role channel ch (channel_is s b l k role channel ∙ at) up
    (ap (λ (x : Book). is_some (slot_at role channel x).caller) k.book ∙ some))

-- and each that was placed
pub placed_kept : (s : Setting) (b : Book) (l : Line) (role : Role) (channel : ℕ) (ch : Channel) → Kept s b l
    → channel_of (end_at role l).layer channel ≡ Some ch → in_transfer ch.state ≡ true
    → is_some (slot_at role channel b).caller ≡ false → HasCallee b role channel
placed_kept s b l role channel ch k at up none =
    subst (λ (x : Book). HasCallee x role channel) k.book
    ((answered s b l k).placed role channel ch (channel_is s b l k role channel ∙ at) up
    (ap (λ (x : Book). is_some (slot_at role channel x).caller) k.book ∙ none))

-- the records that are present
pub records_kept : (s : Setting) (b : Book) (l : Line) → Kept s b l → HaveRecords b
records_kept s b l k =
    subst HaveRecords k.book
    (have_records s.dte_node s.dce_node s.dte.channels s.dte.flow s.dte.standing k.setting.dte.layer.channels_least
    (window_below _ k.setting.dte.layer.flow_is) k.moves k.allowed)
