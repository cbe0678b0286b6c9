use Rattle.std.proofs.Common.{◌≡◌, List, ap, ap₂, sym, subst, ◌∙◌, map, Option, Some, nat_le, true, false}
use Rattle.data_transfer.specs.Held.{are_short}
use Rattle.data_transfer.specs.declared.taken.Front.{Front}
use Rattle.packet_channel.specs.Channel.Request.{Sending}
use Rattle.data_transfer.specs.Packets.{Datum}
use Rattle.switch_joins.specs.Joins.{gathered_by}
use Rattle.switch_joins.specs.Turning.{Sizes, Gathered, turned}
use Rattle.switch_lines.specs.Lines.{Joined, SwitchLine, joined_on, nth_joined, size_of_line, sizes_at, takes_at}
use Rattle.switch_lines.specs.Pooled.{PooledLine, plain}
use Rattle.packet_layer.specs.Layer.{Layer, room}
use Rattle.packet_layer.specs.Interrupting.{may_interrupt}
use Rattle.packet_end.specs.PacketEnd.{PacketEnd}
use Rattle.switch_lines.proofs.Pooled.{one_seen, seen_within, serves_one}
use Rattle.switch_lines.proofs.Relaying.{interrupt_goes, packet_goes, counted_goes, long_stays}
use Rattle.switch_lines.proofs.lines.Lines.may_take.Goals as goal

pub due-requires : goal.due-requires
due-requires c =
    let items = c.self.inside.lines.items in
    c.joins-joins.ensures.held c.self.inside.pool
    (serves_one c.self.inside.pool items c.args.leg.line c.index.result.now c.self.invariant.pooled
    (seen_within items c.args.self.now c.args.leg.line c.self.view_is c.requires.there) c.index.ensures).holds

pub returns-in-Interrupt : goal.returns-in-Interrupt
returns-in-Interrupt c =
    let items = c.self.inside.lines.items in
    let ls = c.args.self.now in
    let far = c.index-far.result.now in
    let other = c.args.other in
    let leg = c.args.leg in
    let there = one_seen items ls other.line far c.self.view_is (seen_within items ls other.line c.self.view_is c.requires.other) c.index-far.ensures in
    interrupt_goes c.may_interrupt.result ls leg other far.line (c.requires.front ∙ ap (λ (f : Front). Some f) c.in-Interrupt.is) there
    (c.may_interrupt.ensures ∙ ap (λ (l : Layer). may_interrupt l other.channel) c.deref-in-Interrupt.ensures
    ∙ ap (λ (e : PacketEnd). may_interrupt e.layer other.channel) c.deref.ensures.end)

pub returns-in-Some : goal.returns-in-Some
returns-in-Some c =
    let items = c.self.inside.lines.items in
    let ls = c.args.self.now in
    let far = c.index-far.result.now in
    let other = c.args.other in
    let leg = c.args.leg in
    let there = one_seen items ls other.line far c.self.view_is (seen_within items ls other.line c.self.view_is c.requires.other) c.index-far.ensures in
    let here = one_seen items ls leg.line c.index.result.now c.self.view_is (seen_within items ls leg.line c.self.view_is c.requires.there) c.index.ensures in
    let joined = c.joins-joins.result.now.joined in
    let near = ap (λ (js : List (Option Joined)). gathered_by (nth_joined js leg.channel)) c.joins-joins.ensures.joined
    ∙ ap (λ (o : Option SwitchLine). gathered_by (joined_on o leg.channel)) here in
    let sized = c.sizes_of-sizes.ensures.sizes
    ∙ ap (λ (ps : List PooledLine). sizes_at (plain ps) leg other) c.deref-in-Data.ensures.value
    ∙ ap (λ (xs : List SwitchLine). sizes_at xs leg other) c.self.view_is in
    let size = ap (λ (s : Sizes). s.far) sized ∙ sym (ap (λ (o : Option SwitchLine). size_of_line o) there) in
    let made : Sizes → Gathered → Datum → List Datum = λ s g d. (turned s g d).made in
    let mine : Datum → List Datum = made c.sizes_of-sizes.result (gathered_by (nth_joined joined leg.channel)) in
    packet_goes (nat_le c.in-Some.due c.from.result) ls leg other c.in-Data.length c.in-Data.more c.in-Data.qualified c.in-Data.delivery
    (c.requires.front ∙ ap (λ (f : Front). Some f) c.in-Data.is)
    (λ d e.
    let due = c.in-Some.ensures d e in
    let same = ap₂ (λ (s : Sizes) (g : Gathered). made s g d) (sym sized) (sym near) in
    ap (λ (ds : List Datum). takes_at ls other (map Sending ds)) same
    ∙ counted_goes ls other far.line (mine d) c.in-Some.due c.from.result there
    (subst (λ k. are_short k (mine d) ≡ true) size due.0, due.1)
    (c.from.ensures ∙ c.room.ensures ∙ ap (λ (l : Layer). room l other.channel) c.deref-in-Some-2.ensures
    ∙ ap (λ (e : PacketEnd). room e.layer other.channel) c.deref-in-Some.ensures.end))

pub returns-in-None : goal.returns-in-None
returns-in-None c =
    let items = c.self.inside.lines.items in
    let ls = c.args.self.now in
    let far = c.index-far.result.now in
    let other = c.args.other in
    let leg = c.args.leg in
    let there = one_seen items ls other.line far c.self.view_is (seen_within items ls other.line c.self.view_is c.requires.other) c.index-far.ensures in
    let here = one_seen items ls leg.line c.index.result.now c.self.view_is (seen_within items ls leg.line c.self.view_is c.requires.there) c.index.ensures in
    let joined = c.joins-joins.result.now.joined in
    let near = ap (λ (js : List (Option Joined)). gathered_by (nth_joined js leg.channel)) c.joins-joins.ensures.joined
    ∙ ap (λ (o : Option SwitchLine). gathered_by (joined_on o leg.channel)) here in
    let sized = c.sizes_of-sizes.ensures.sizes
    ∙ ap (λ (ps : List PooledLine). sizes_at (plain ps) leg other) c.deref-in-Data.ensures.value
    ∙ ap (λ (xs : List SwitchLine). sizes_at xs leg other) c.self.view_is in
    let size = ap (λ (s : Sizes). s.far) sized ∙ sym (ap (λ (o : Option SwitchLine). size_of_line o) there) in
    let made : Sizes → Gathered → Datum → List Datum = λ s g d. (turned s g d).made in
    let mine : Datum → List Datum = made c.sizes_of-sizes.result (gathered_by (nth_joined joined leg.channel)) in
    packet_goes false ls leg other c.in-Data.length c.in-Data.more c.in-Data.qualified c.in-Data.delivery
    (c.requires.front ∙ ap (λ (f : Front). Some f) c.in-Data.is)
    (λ d e.
    let same = ap₂ (λ (s : Sizes) (g : Gathered). made s g d) (sym sized) (sym near) in
    ap (λ (ds : List Datum). takes_at ls other (map Sending ds)) same
    ∙ long_stays ls other far.line (mine d) there (subst (λ k. are_short k (mine d) ≡ false) size (c.in-None.ensures d e)))
