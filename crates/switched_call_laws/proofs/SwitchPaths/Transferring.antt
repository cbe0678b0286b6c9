-- Where both ends of a line are at rest, an open call that was accepted is in data transfer at both, with the two
-- records of its pair.
use Rattle.std.specs.Prelude.{◌≡◌, ℕ, true, false, is_some, slice_get, Option, Some, None}
use Rattle.std.proofs.Common.{refl, sym, ap, subst, ◌∙◌, true≢false}
use Rattle.std.proofs.lemmas.Option.{same_Some}
use Rattle.link_timers.specs.declared.role.Role.{Role}
use Rattle.link_timers.specs.declared.role.Role.TheVariants.{Dte, Dce}
use Rattle.link_timers.specs.Role.{other_of}
use Rattle.data_transfer.proofs.Windows.{window_below}
use Rattle.packet_channel.specs.Channel.{ChannelState, Channel, had_call}
use Rattle.packet_channel.specs.Channel.ChannelState.{Ready, OwnWaiting, FarWaiting, Transfer, Collision, OwnClear}
use Rattle.packet_layer.specs.Layer.{Layer, channel_of}
use Rattle.packet_laws.specs.LayerLineLaw.{Together}
use Rattle.node_laws.specs.Lines.NodeLine.{Line}
use Rattle.node_laws.specs.Lines.LineRest.{AreAtRest}
use Rattle.node_laws.proofs.Lines.Resting.{nothing_missing}
use Rattle.call_records.specs.Records.{RecordValue, PairValue}
use Rattle.call_records.specs.Book.{Book, slot_at}
use Rattle.record_laws.specs.Books.Told.{World, after_all}
use Rattle.record_laws.specs.Books.Headline.{layer_at, has_call}
use Rattle.record_laws.specs.Books.Open.{layers_at}
use Rattle.record_laws.proofs.Books.OpenPairs.{holds_there}
use Rattle.record_laws.proofs.Books.Accepted.{IsInTransfer, accepted}
use Rattle.node_laws.specs.LineRecords.Kept.{Setting, Kept, beginning, end_at}
use Rattle.node_laws.proofs.LineRecords.LineLaw.{beside}

-- at the end of the role is the record of the call that came in, at the other one that of the call that was placed
pub record BothInTransfer (b : Book) (l : Line) (pair : PairValue) : Type 0 where
  pub role : Role
  pub channel : ℕ
  pub callee_present : (slot_at role channel b).present ≡ Some pair.callee
  pub caller_present : (slot_at (other_of role) channel b).present ≡ Some pair.caller
  pub caller_channel : Channel
  pub caller_there : channel_of (end_at (other_of role) l).layer channel ≡ Some caller_channel
  pub caller_in_call : caller_channel.state ≡ Transfer

-- in data transfer the other end is so too
with_transfer : (a b : ChannelState) → Together a b → a ≡ Transfer → b ≡ Transfer
with_transfer a b h e = on b (subst (λ (x : ChannelState). Together x b) e h)
  where
    on : (y : ChannelState) → Together Transfer y → y ≡ Transfer
    on Transfer h = refl
    on Ready h = absurd h
    on OwnWaiting h = absurd h
    on FarWaiting h = absurd h
    on Collision h = absurd h
    on OwnClear h = absurd h

with_transfer_too : (a b : ChannelState) → Together a b → b ≡ Transfer → a ≡ Transfer
with_transfer_too a b h e = on a (subst (λ (x : ChannelState). Together a x) e h)
  where
    on : (y : ChannelState) → Together y Transfer → y ≡ Transfer
    on Transfer h = refl
    on Ready h = absurd h
    on OwnWaiting h = absurd h
    on FarWaiting h = absurd h
    on Collision h = absurd h
    on OwnClear h = absurd h

number_of : (o : Option ℕ) → is_some o ≡ true → (n : ℕ) × (o ≡ Some n)
number_of (Some n) e = (n, refl)
number_of None e = absurd (true≢false (sym e))

module _ (s : Setting) (b : Book) (l : Line) (k : Kept s b l) (rests : AreAtRest l.dte l.dce) where
  abbrev world : World
  world = after_all k.moves (beginning s)

  pub channel_is : (x : Role) (c : ℕ) → channel_of (layer_at x world) c ≡ channel_of (end_at x l).layer c
  channel_is Dte c = ap (λ (y : Layer). channel_of y c) k.joint.mine.layer
  channel_is Dce c = ap (λ (y : Layer). channel_of y c) k.joint.yours.layer

  -- the two ends of a channel stand in one session and in one use of it
  record StandTogether (x : Role) (c : ℕ) (mine yours : Channel) : Type 0 where
    pub session : ℕ
    pub up : (layers_at x world.line).session ≡ Some session
    pub other_up : (layers_at (other_of x) world.line).session ≡ Some session
    pub restart : ((layers_at (other_of x) world.line).histories session c).restart ≡ ((layers_at x world.line).histories session c).restart
    pub use_ : ((layers_at (other_of x) world.line).histories session c).use_ ≡ ((layers_at x world.line).histories session c).use_
    pub in_call : mine.state ≡ Transfer → yours.state ≡ Transfer

  stand_together : (x : Role) (c n : ℕ) (mine yours : Channel) → (slot_at x c world.book).present ≡ Some n → channel_of (layer_at x world) c ≡ Some mine
      → channel_of (layer_at (other_of x) world) c ≡ Some yours → StandTogether x c mine yours
  stand_together Dte c n mine yours present at there =
      let p = k.setting.dte.layer in
      let none = nothing_missing k.world world.line l.dte l.dce l.up l.down k.joint rests c
      (holds_there s.dte_node s.dce_node s.dte.channels s.dte.flow s.dte.standing p.channels_least (window_below _ p.flow_is) k.moves k.allowed Dte c n present)
      mine yours (sym (channel_is Dte c) ∙ at) (sym (channel_is Dce c) ∙ there) in
      record {
        session = k.world.session;
        up = none.up_at_dte;
        other_up = none.up_at_dce;
        restart = sym none.same_restart;
        use_ = sym none.same_use;
        in_call = with_transfer mine.state yours.state none.together;
      }
  stand_together Dce c n mine yours present at there =
      let p = k.setting.dte.layer in
      let none = nothing_missing k.world world.line l.dte l.dce l.up l.down k.joint rests c
      (holds_there s.dte_node s.dce_node s.dte.channels s.dte.flow s.dte.standing p.channels_least (window_below _ p.flow_is) k.moves k.allowed Dce c n present)
      yours mine (sym (channel_is Dte c) ∙ there) (sym (channel_is Dce c) ∙ at) in
      record {
        session = k.world.session;
        up = none.up_at_dce;
        other_up = none.up_at_dte;
        restart = none.same_restart;
        use_ = none.same_use;
        in_call = with_transfer_too yours.state mine.state none.together;
      }

  both_in_transfer : (pair : PairValue) → IsInTransfer world pair → BothInTransfer world.book l pair
  both_in_transfer pair h =
      let t = stand_together h.role h.channel pair.callee h.mine h.yours h.present h.mine_there h.yours_there in
      let in_call : h.yours.state ≡ Transfer = t.in_call h.in_call in
      let m = number_of (slot_at (other_of h.role) h.channel world.book).present
      ((beside s b l k).present (other_of h.role) h.channel ∙ ap (λ (o : Option Channel). has_call o) h.yours_there ∙ ap had_call in_call) in
      let same : t.session ≡ h.session = same_Some t.session h.session (sym t.up ∙ h.up) in
      let caller : m.0 ≡ pair.caller =
      h.other m.0 m.1 (t.other_up ∙ ap (λ (n : ℕ). Some n) same)
      (subst (λ (n : ℕ). ((layers_at (other_of h.role) world.line).histories n h.channel).restart ≡ ((layers_at h.role world.line).histories n h.channel).restart) same t.restart)
      (subst (λ (n : ℕ). ((layers_at (other_of h.role) world.line).histories n h.channel).use_ ≡ ((layers_at h.role world.line).histories n h.channel).use_) same t.use_) in
      record {
        role = h.role;
        channel = h.channel;
        callee_present = h.present;
        caller_present = m.1 ∙ ap (λ (n : ℕ). Some n) caller;
        caller_channel = h.yours;
        caller_there = sym (channel_is (other_of h.role) h.channel) ∙ h.yours_there;
        caller_in_call = in_call;
      }

pub in_transfer_at_rest : (s : Setting) (b : Book) (l : Line) → Kept s b l → AreAtRest l.dte l.dce → (i : ℕ) (pair : PairValue) (callee : RecordValue)
    → slice_get b.pairs i ≡ Some pair → slice_get b.records pair.callee ≡ Some callee → callee.closed ≡ false → BothInTransfer b l pair
in_transfer_at_rest s b l k rests i pair callee at there open_ =
    let p = k.setting.dte.layer in
    subst (λ (x : Book). BothInTransfer x l pair) k.book
    (both_in_transfer s b l k rests pair
    (accepted s.dte_node s.dce_node s.dte.channels s.dte.flow s.dte.standing p.channels_least (window_below _ p.flow_is) k.moves k.allowed i pair callee
    (ap (λ (x : Book). slice_get x.pairs i) k.book ∙ at) (ap (λ (x : Book). slice_get x.records pair.callee) k.book ∙ there) open_))
