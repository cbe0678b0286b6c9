use Rattle.std.proofs.Common.{◌≡◌, ◌<◌, suc, false, length, slice_get, Some, refl, sym, ap, ◌∙◌, subst, arith}
use Rattle.std.specs.Prelude.{unwrap_or, ◌++◌}
use Rattle.switch_lines.specs.Lines.{changed}
use Rattle.switch_lines.specs.Switch.{Switch, frames_on}
use Rattle.switch_lines.specs.Touched.{AreThere, HasAllFrames}
use Rattle.net_events.specs.AtSwitch.{waiting_on, line_drained}
use Rattle.net_events.specs.Network.{own_role}
use Rattle.net_events.specs.OneLine.{direction_of}
use Rattle.node_events.specs.Switching.{puts_on}
use Rattle.net_events.proofs.Lists.{there, at_index}
use Rattle.node_events.proofs.Switching.{drained_more, waits_still, drained_all, length_drained, role_there, puts_more, puts_all, put_again, put_one, put_all}
use Rattle.node_events.proofs.Waiting.{none_put, pass_to, pass_all, put_at}
use Rattle.node_events.proofs.putting.put_waiting.Goals as goal

pub loop-at-init : goal.loop-at-init
loop-at-init g c = record {
  put = (
    0,
    none_put g.L.Line.service c.args.own.now c.args.switch.now c.with_frames-waiting.result c.args.puts.now.items _ c.args.lines.now.items
        (subst (AreThere c.with_frames-waiting.result) c.deref.ensures c.with_frames-waiting.ensures.there)
        (subst (HasAllFrames c.with_frames-waiting.result) c.deref.ensures c.with_frames-waiting.ensures.others) c.requires.room.empty
        (let none = ap length c.requires.room.empty in omega (arith, none)),
  );
  capacity = refl;
}

pub index_mut-net_line-requires : goal.index_mut-net_line-requires
index_mut-net_line-requires g c =
    let h : c.in-Some.at < length c.args.own.now = (let within = c.loop-at.invariant.put.1.left c.in-Some.at c.in-Some.ensures.first.there in let count = c.requires.count in omega (arith, within, count)) in
    let k = at_index c.args.own.now c.in-Some.at h in
    let number = c.network_line-number.ensures ∙ ap (λ o. unwrap_or o 0) k.1 in
    let less = c.requires.there c.in-Some.at k.0 k.1 in
    let count = c.loop-at.invariant.put.1.lines_put.count in
    omega (arith, less, count, number)

pub put_switch_frames-requires-clause-there : goal.put_switch_frames-requires-clause-there
put_switch_frames-requires-clause-there g c =
    let within = c.loop-at.invariant.put.1.left c.in-Some.at c.in-Some.ensures.first.there in
    let count = ap (λ (s : Switch). length s.lines) c.loop-at.invariant.put.1.switch_is ∙ length_drained c.loop-at.invariant.put.0 c.args.switch.now.lines in
    omega (arith, within, count)

pub put_switch_frames-requires-clause-room : goal.put_switch_frames-requires-clause-room
put_switch_frames-requires-clause-room g c =
    let w = pass_to g.L.Line.service c.args.own.now c.args.switch.now c.loop-at.switch c.loop-at.waiting c.loop-at.puts.items _ c.args.lines.now.items c.loop-at.lines.items
    c.requires.count c.requires.apart c.requires.there c.loop-at.invariant.put.0 c.in-Some.at c.take_first.new.self c.loop-at.invariant.put.1 c.in-Some.ensures.first in
    let within = w.left c.in-Some.at c.in-Some.ensures.first.there in
    let count = c.requires.count in
    let places = w.places in
    omega (arith, within, count, places, c.loop-at.invariant.capacity, c.requires.room.enough)

pub loop-at-preserved : goal.loop-at-preserved
loop-at-preserved g c =
    let L = g.L.Line.service in
    let n = c.in-Some.at in
    let own = c.args.own.now in
    let s = c.args.switch.now in
    let first = c.in-Some.ensures.first in
    let w = pass_to L own s c.loop-at.switch c.loop-at.waiting c.loop-at.puts.items _ c.args.lines.now.items c.loop-at.lines.items
    c.requires.count c.requires.apart c.requires.there c.loop-at.invariant.put.0 n c.take_first.new.self c.loop-at.invariant.put.1 first in
    let within : n < length s.lines = w.left n first.there in
    let h : n < length own = (let count = c.requires.count in omega (arith, within, count)) in
    let k = at_index own n h in
    let number : c.network_line-number.result ≡ k.0 = c.network_line-number.ensures ∙ ap (λ o. unwrap_or o 0) k.1 in
    let here : slice_get own n ≡ Some c.network_line-number.result = k.1 ∙ ap Some (sym number) in
    let waits : waiting_on n c.loop-at.switch ≡ waiting_on n s = ap (waiting_on n) w.switch_is ∙ ap frames_on (waits_still n s.lines) in
    let role : own_role c.loop-at.switch n ≡ own_role s n
    = ap (λ t. own_role t n) w.switch_is ∙ ap role_there (waits_still n s.lines) in
    let less : c.network_line-number.result < length c.loop-at.lines.items
    = (let less = c.requires.there n k.0 k.1 in let count = w.lines_put.count in omega (arith, less, count, number)) in
    let line_there = there c.loop-at.lines.items c.network_line-number.result _ c.index_mut-net_line.result.now less c.index_mut-net_line.ensures.value ∙ ap Some (sym c.net_line.view_is) in
    record {
      put = (
        suc n,
        put_at L own s c.loop-at.switch c.put_switch_frames.new.switch c.loop-at.waiting c.take_first.new.self c.loop-at.puts.items c.put_switch_frames.new.puts.items _ _
            c.args.lines.now.items c.loop-at.lines.items _ n w first c.requires.count
            (c.put_switch_frames.ensures.switch ∙ ap (λ (t : Switch). record t { lines = changed n line_drained t.lines }) w.switch_is
            ∙ (λ i. record s { lines = drained_more n s.lines i }))
            (c.put_switch_frames.ensures.puts ∙ (λ i. w.puts_are i ++ puts_on c.network_line-number.result (direction_of (role i)) (waits i))
            ∙ sym (puts_more n c.network_line-number.result own s.lines here within))
            c.put_switch_frames.ensures.most
            (put_one L false own s n c.network_line-number.result c.args.lines.now.items c.loop-at.lines.items _ _ _ (g.L.Line.flights c.put_switch_frames.new.line)
            c.requires.apart w.lines_put here line_there (λ f. refl)
            (λ f. put_again L _ _ _ _ (g.L.Line.flights c.net_line.inside.line) (g.L.Line.flights c.put_switch_frames.new.line) role waits (c.put_switch_frames.ensures.line f))
            refl),
      );
      capacity = c.put_switch_frames.ensures.places ∙ c.loop-at.invariant.capacity;
    }

pub returns : goal.returns
returns g c =
    let L = g.L.Line.service in
    let own = c.args.own.now in
    let s = c.args.switch.now in
    let w = pass_all L own s c.loop-at.switch c.loop-at.waiting c.loop-at.puts.items _ c.args.lines.now.items c.loop-at.lines.items
    c.requires.count c.requires.apart c.requires.there c.loop-at.invariant.put.0 c.loop-at.invariant.put.1 c.in_default.ensures.first in
    record {
      switch = w.switch_is ∙ (λ i. record s { lines = drained_all (length own) s.lines c.requires.count i });
      puts = w.puts_are ∙ puts_all (length own) own s.lines refl;
      lines = put_all L false own s (length own) c.args.lines.now.items c.loop-at.lines.items refl w.lines_put;
      places = c.loop-at.invariant.capacity;
      most = (let places = w.places in omega (arith, places, c.loop-at.invariant.capacity, c.requires.room.enough));
    }
