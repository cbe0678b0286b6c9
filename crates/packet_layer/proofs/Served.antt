-- What the service of one channel comes to, and of one after the other.
use Rattle.std.proofs.Common.{◌≡◌, ℕ, ◌+◌, ◌-◌, ◌≤◌, Bool, true, false, List, length, set, Some, refl, sym, ap, ap₂, subst, ◌∙◌}
use Rattle.number_set.specs.declared.NumberSet.{NumberSet}
use Rattle.number_set.specs.NumberSet.{has, IsFirstOf}
use Rattle.std.specs.Prelude.{slice_get, is_some}
use Rattle.packet_channel.specs.Channel.{Channel}
use Rattle.data_transfer.specs.declared.flow.Flow.{Flow}
use Rattle.packet_channel.specs.Held.{Channel as Holder}
use Rattle.data_transfer.specs.Octets.{written, ReadsAs}
use Rattle.packet_layer.specs.declared.layer.Layer.TheInside.{Inside}
use Rattle.packet_layer.specs.Events.{written_packet, ReadsBack}
use Rattle.packet_layer.specs.Held.{Layer as Held, plain}
use Rattle.packet_layer.specs.Layer.{Layer, Next, next_number, next_of, serve}
use Rattle.packet_layer.specs.LayerView.{holding, layer_of}
use Rattle.packet_layer.proofs.Placed.{plain_at, plain_set}
use Rattle.packet_layer.proofs.Places.{unchanged}
use Rattle.packet_layer.proofs.Round.{ArePassed, less_none, or_else, or_else_first, or_else_second, nothing_served}
use Rattle.packet_layer.proofs.Round.{whole_round, serves_first, serves_none}
use Rattle.packet_layer.proofs.Serving.{silent_at, says_at, written_none, written_of, said_of, reads_of}

-- the layer after it, whether there is any packet, and the octets before and after
pub record IsServed (flow : Flow) (n : Next) (l : Layer) (any : Bool) (before after : List ℕ) : Type 0 where
  pub layer : l ≡ n.layer
  pub said : any ≡ is_some n.packet
  pub octets : after ≡ written_packet flow n.packet before
  pub reads_back : ReadsBack flow n.packet after

-- the channel has a packet
pub spoke : (a : Inside) (x : Held) (place : ℕ) (old new : Holder) (before after : List ℕ) → holding a ≡ x →
    slice_get a.channels.items place ≡ Some old → is_some (next_of a.flow old.channel).body ≡ true →
    new.channel ≡ (next_of a.flow old.channel).channel →
    after ≡ written a.flow (place + 1) (next_of a.flow old.channel).body before →
    ReadsAs a.flow (place + 1) (next_of a.flow old.channel).body after →
    IsServed x.layer.flow (serve 1 x.layer (place + 1))
    (record (layer_of a) { channels = plain (set a.channels.items place new); served_last = place + 1 }) true before after
spoke a x place old new before after view there says channel octets reads =
    let l = layer_of a in
    let b = (next_of a.flow old.channel).body in
    let served = says_at l (place + 1) place old.channel refl (plain_at a.channels.items place old there) says in
    subst
    (λ (x : Held).
    IsServed x.layer.flow (serve 1 x.layer (place + 1))
    (record l { channels = plain (set a.channels.items place new); served_last = place + 1 }) true before after)
    view
    (record {
      layer = ap (λ chs. record l { channels = chs; served_last = place + 1 }) (plain_set a.channels.items place new)
          ∙ ap (λ (ch : Channel). record l { channels = set l.channels place ch; served_last = place + 1 }) channel
          ∙ sym (ap (λ (n : Next). n.layer) served);
      said = sym (ap (λ (n : Next). is_some n.packet) served ∙ said_of b (place + 1) ∙ says);
      octets = octets ∙ written_of a.flow b (place + 1) before
          ∙ sym (ap (λ (n : Next). written_packet l.flow n.packet before) served);
      reads_back = subst (λ (n : Next). ReadsBack l.flow n.packet after) (sym served) (reads_of a.flow b (place + 1) after reads);
    })

-- the channel has none
pub quiet : (a : Inside) (x : Held) (place : ℕ) (old new : Holder) (before after : List ℕ) → holding a ≡ x →
    slice_get a.channels.items place ≡ Some old → is_some (next_of a.flow old.channel).body ≡ false → new ≡ old →
    after ≡ written a.flow (place + 1) (next_of a.flow old.channel).body before →
    IsServed x.layer.flow (serve 1 x.layer (place + 1)) (record (layer_of a) { channels = plain (set a.channels.items place new) })
    false before after
quiet a x place old new before after view there silent same octets =
    let l = layer_of a in
    let found = plain_at a.channels.items place old there in
    let served = silent_at l (place + 1) place old.channel refl found silent in
    subst
    (λ (x : Held).
    IsServed x.layer.flow (serve 1 x.layer (place + 1)) (record l { channels = plain (set a.channels.items place new) }) false before
    after)
    view
    (record {
      layer = ap (λ chs. record l { channels = chs }) (plain_set a.channels.items place new)
          ∙ unchanged l place old.channel new.channel found (ap (λ (h : Holder). h.channel) same)
          ∙ sym (ap (λ (n : Next). n.layer) served);
      said = sym (ap (λ (n : Next). is_some n.packet) served);
      octets = octets ∙ written_none a.flow (next_of a.flow old.channel).body (place + 1) before silent
          ∙ sym (ap (λ (n : Next). written_packet l.flow n.packet before) served);
      reads_back = subst (λ (n : Next). ReadsBack l.flow n.packet after) (sym served) tt;
    })

-- ---- a round in two parts

abbrev whole : Layer → Next
whole l = serve (length l.channels) l (next_number l l.served_last)

round : (l : Layer) (count next : ℕ) → count ≡ length l.channels → next + 1 ≡ next_number l l.served_last →
    next ≤ length l.channels → whole l ≡ or_else (serve (count - next) l (next + 1)) (serve (next - 0) l 1)
round l count next all is most =
    whole_round l l.served_last next is most
    ∙ ap₂ (λ (n k : ℕ). or_else (serve (n - next) l (next + 1)) (serve k l 1)) (sym all) (less_none next)

-- a channel from the next one on has a packet
pub first_part : (l new : Layer) (count next : ℕ) (before after : List ℕ) → count ≡ length l.channels →
    next + 1 ≡ next_number l l.served_last → next ≤ length l.channels →
    IsServed l.flow (serve (count - next) l (next + 1)) new true before after → IsServed l.flow (whole l) new true before after
first_part l new count next before after all is most served =
    subst (λ (n : Next). IsServed l.flow n new true before after)
    (sym (round l count next all is most
    ∙ or_else_first (serve (count - next) l (next + 1)) (serve (next - 0) l 1) (sym served.said)))
    served

-- if none of those has one, the layer is as it was
pub same_layer : (n : ℕ) (l mid : Layer) (c : ℕ) → mid ≡ (serve n l c).layer → false ≡ is_some (serve n l c).packet →
    mid ≡ l
same_layer n l mid c is none = is ∙ ap (λ (n : Next). n.layer) (nothing_served n l c (sym none))

-- none of those has one, and the others follow
pub second_part : (l mid new : Layer) (count next : ℕ) (any : Bool) (before between after : List ℕ) →
    count ≡ length l.channels → next + 1 ≡ next_number l l.served_last → next ≤ length l.channels →
    IsServed l.flow (serve (count - next) l (next + 1)) mid false before between →
    IsServed mid.flow (serve (next - 0) mid 1) new any between after → IsServed l.flow (whole l) new any before after
second_part l mid new count next any before between after all is most none served =
    let nothing = nothing_served (count - next) l (next + 1) (sym none.said) in
    let same : mid ≡ l = same_layer (count - next) l mid (next + 1) none.layer none.said in
    let kept : between ≡ before = none.octets ∙ ap (λ (n : Next). written_packet l.flow n.packet before) nothing in
    subst (λ (n : Next). IsServed l.flow n new any before after)
    (sym (round l count next all is most
    ∙ or_else_second (serve (count - next) l (next + 1)) (serve (next - 0) l 1) (sym none.said)))
    (subst (λ (xs : List ℕ). IsServed l.flow (serve (next - 0) l 1) new any xs after) kept
    (subst (λ (x : Layer). IsServed x.flow (serve (next - 0) x 1) new any between after) same served))

-- ---- the channels at some places

-- the first of them that has a packet
pub found : (l now new : Layer) (first end place : ℕ) (places rest : NumberSet) (before between after : List ℕ) →
    now ≡ l → between ≡ before → end ≤ length l.channels → ArePassed l first end places → IsFirstOf places place rest →
    IsServed now.flow (serve 1 now (place + 1)) new true between after →
    IsServed l.flow (serve (end - first) l (first + 1)) new true before after
found l now new first end place places rest before between after same kept within passed is_first served =
    let there : IsServed l.flow (serve 1 l (place + 1)) new true before after =
    subst (λ (xs : List ℕ). IsServed l.flow (serve 1 l (place + 1)) new true xs after) kept
    (subst (λ (x : Layer). IsServed x.flow (serve 1 x (place + 1)) new true between after) same served)
    in
    subst (λ (n : Next). IsServed l.flow n new true before after)
    (sym (serves_first l first end place places rest within passed is_first (sym there.said)))
    there

-- none of them has any
pub none_found : (l now : Layer) (first end : ℕ) (places : NumberSet) (before after : List ℕ) → now ≡ l →
    after ≡ before → first ≤ end → end ≤ length l.channels → ArePassed l first end places →
    ((n : ℕ) → has places n ≡ false) → IsServed l.flow (serve (end - first) l (first + 1)) now false before after
none_found l now first end places before after same kept order within passed none =
    let nothing = serves_none l first end places order within passed none in
    record {
      layer = same ∙ ap (λ (n : Next). n.layer) (sym nothing);
      said = ap (λ (n : Next). is_some n.packet) (sym nothing);
      octets = kept ∙ ap (λ (n : Next). written_packet l.flow n.packet before) (sym nothing);
      reads_back = subst (λ (n : Next). ReadsBack l.flow n.packet after) (sym nothing) tt;
    }
