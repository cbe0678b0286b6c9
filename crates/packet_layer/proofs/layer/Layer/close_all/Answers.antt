use Rattle.std.proofs.Common.{◌≡◌, ap, sym, ◌∙◌, length, arith, subst, ◌++◌, [], List}
use Rattle.std.proofs.lemmas.List.{length-map}
use Rattle.flow_window.specs.Pool.{Buffer, Balances}
use Rattle.packet_channel.specs.Held.{Channel as Holder}
use Rattle.packet_channel.specs.NoteView.{reason_of}
use Rattle.data_transfer.specs.Packets.{Note}
use Rattle.packet_layer.specs.Held.{Layer as Held, buffers, plain, AllFit}
use Rattle.packet_layer.specs.Layer.{closing_notes}
use Rattle.packet_layer.specs.LayerView.{layer_of}
use Rattle.packet_layer.specs.Silence.{OthersAreSilent}
use Rattle.packet_layer.proofs.Silence.{closed_are_silent}
use Rattle.packet_layer.proofs.Closed.{closed, all_fit, none_held, plain_closed, written_closed}
use Rattle.packet_layer.proofs.layer.Layer.close_all.Goals as goal

pub invariant_of-self : goal.invariant_of-self
invariant_of-self c =
    let written = written_closed c.self.inside.channels c.deref_mut.result.now c.close_channels.new.channels c.close_channels.ensures.channels c.deref_mut.ensures.value in
    let items = c.self.inside.channels.items in
    let long = ap length written ∙ length-map items (λ (ch : Holder). closed) in
    let old = ap length c.deref_mut.ensures.value in
    record {
      flow = c.self.invariant.flow;
      channels = omega (arith, long, c.self.invariant.channels);
      others = subst (OthersAreSilent c.self.inside.flow c.new-self-inside.result) (sym (ap plain written ∙ plain_closed items))
          (closed_are_silent c.self.inside.flow c.new-self-inside.result (plain items));
      notes = omega (arith, c.close_channels.ensures.most, old, c.self.invariant.channels);
      fits = subst (AllFit c.self.inside.flow) (sym written) (all_fit c.self.inside.flow items);
    }

pub returns-clause-layer : goal.returns-clause-layer
returns-clause-layer c =
    let written = written_closed c.self.inside.channels c.deref_mut.result.now c.close_channels.new.channels c.close_channels.ensures.channels c.deref_mut.ensures.value in
    let l = layer_of c.self.inside in
    let items = c.self.inside.channels.items in
    let channels = ap plain written ∙ plain_closed items in
    let unread : l.notes ≡ [] = ap (λ (x : Held). x.layer.notes) c.self.view_is ∙ c.requires.read in
    let told = closing_notes 1 (reason_of c.args.reason) l.channels in
    let notes : c.close_channels.new.notes ≡ l.notes ++ told =
    c.close_channels.ensures.notes
    ∙ ap (λ (chs : List Holder). closing_notes 1 (reason_of c.args.reason) (plain chs)) c.deref_mut.ensures.value
    ∙ ap (λ (ns : List Note). ns ++ told) (sym unread) in
    rw (← c.self.view_is) (λ i. record l { channels = channels i; notes = notes i })

pub returns-clause-pool : goal.returns-clause-pool
returns-clause-pool c =
    let written = written_closed c.self.inside.channels c.deref_mut.result.now c.close_channels.new.channels c.close_channels.ensures.channels c.deref_mut.ensures.value in
    let items = c.self.inside.channels.items in
    let none = ap buffers written ∙ none_held items in
    let before = ap buffers c.deref_mut.ensures.value ∙ ap (λ (x : Held). x.held) c.self.view_is in
    subst (λ (bs : List Buffer). Balances c.args.pool.now c.args.self.now.held c.close_channels.new.pool bs) (sym none)
    (subst (λ (bs : List Buffer). Balances c.args.pool.now bs c.close_channels.new.pool []) before
    c.close_channels.ensures.pool)

pub returns-clause-few : goal.returns-clause-few
returns-clause-few c =
    let written = written_closed c.self.inside.channels c.deref_mut.result.now c.close_channels.new.channels c.close_channels.ensures.channels c.deref_mut.ensures.value in
    let none = ap (λ (cs : List Holder). length (buffers cs)) written ∙ ap length (none_held c.self.inside.channels.items) in
    omega (arith, none)
