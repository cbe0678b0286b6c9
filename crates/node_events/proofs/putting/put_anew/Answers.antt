use Rattle.std.proofs.Common.{true, ◌≡◌, ◌<◌, ◌+◌, suc, length, slice_get, Some, refl, sym, ap, ◌∙◌, arith}
use Rattle.std.specs.Prelude.{unwrap_or, ◌++◌}
use Rattle.switch_lines.specs.Lines.{changed}
use Rattle.switch_lines.specs.Switch.{Switch, frames_on}
use Rattle.net_events.specs.AtSwitch.{waiting_on, line_drained}
use Rattle.net_events.specs.Network.{own_role}
use Rattle.net_events.specs.OneLine.{direction_of}
use Rattle.node_events.specs.Switching.{puts_on}
use Rattle.net_events.proofs.Lists.{there, at_index}
use Rattle.node_events.proofs.Switching.{drained_to, drained_more, waits_still, drained_all, length_drained, role_there, puts_to, puts_more, puts_all, put_again, put_none, put_next, put_all}
use Rattle.node_events.proofs.putting.put_anew.Goals as goal

pub loop-at-init : goal.loop-at-init
loop-at-init g c = record {
  switch_is = refl;
  puts_are = c.requires.room.empty;
  places = (let none = ap length c.requires.room.empty in omega (arith, none));
  capacity = refl;
  lines_put = put_none g.L.Line.service true c.args.own.now c.args.switch.now c.args.lines.now.items;
}

pub index_mut-net_line-requires : goal.index_mut-net_line-requires
index_mut-net_line-requires g c =
    let h : c.loop-at.at < length c.args.own.now = omega (arith, c.loop-at-test.true, c.loop-at.auto.at-end) in
    let k = at_index c.args.own.now c.loop-at.at h in
    let number = c.network_line-number.ensures ∙ ap (λ o. unwrap_or o 0) k.1 in
    let less = c.requires.there c.loop-at.at k.0 k.1 in
    let count = c.loop-at.invariant.lines_put.count in
    omega (arith, less, count, number)

pub put_switch_frames-requires-clause-there : goal.put_switch_frames-requires-clause-there
put_switch_frames-requires-clause-there g c =
    let h : c.loop-at.at < length c.args.own.now = omega (arith, c.loop-at-test.true, c.loop-at.auto.at-end) in
    let count = ap (λ (s : Switch). length s.lines) c.loop-at.invariant.switch_is ∙ length_drained c.loop-at.at c.args.switch.now.lines ∙ sym c.requires.count in
    omega (arith, h, count)

pub put_switch_frames-requires-clause-room : goal.put_switch_frames-requires-clause-room
put_switch_frames-requires-clause-room g c =
    let h : c.loop-at.at < length c.args.own.now = omega (arith, c.loop-at-test.true, c.loop-at.auto.at-end) in
    omega (arith, h, c.loop-at.invariant.places, c.loop-at.invariant.capacity, c.requires.room.enough)

pub loop-at-preserved : goal.loop-at-preserved
loop-at-preserved g c =
    let L = g.L.Line.service in
    let n = c.loop-at.at in
    let own = c.args.own.now in
    let s = c.args.switch.now in
    let h : n < length own = omega (arith, c.loop-at-test.true, c.loop-at.auto.at-end) in
    let k = at_index own n h in
    let number : c.network_line-number.result ≡ k.0 = c.network_line-number.ensures ∙ ap (λ o. unwrap_or o 0) k.1 in
    let here : slice_get own n ≡ Some c.network_line-number.result = k.1 ∙ ap Some (sym number) in
    let waits : waiting_on n c.loop-at.switch ≡ waiting_on n s
    = ap (waiting_on n) c.loop-at.invariant.switch_is ∙ ap frames_on (waits_still n s.lines) in
    let role : own_role c.loop-at.switch n ≡ own_role s n
    = ap (λ t. own_role t n) c.loop-at.invariant.switch_is ∙ ap role_there (waits_still n s.lines) in
    let less : c.network_line-number.result < length c.loop-at.lines.items
    = (let less = c.requires.there n k.0 k.1 in let count = c.loop-at.invariant.lines_put.count in omega (arith, less, count, number)) in
    let line_there = there c.loop-at.lines.items c.network_line-number.result _ c.index_mut-net_line.result.now less c.index_mut-net_line.ensures.value ∙ ap Some (sym c.net_line.view_is) in
    let next : suc n ≡ n + 1 = omega arith in
    let within : n < length s.lines = (let count = c.requires.count in omega (arith, h, count)) in
    record {
      switch_is = c.put_switch_frames.ensures.switch ∙ ap (λ (t : Switch). record t { lines = changed n line_drained t.lines }) c.loop-at.invariant.switch_is
          ∙ (λ i. record s { lines = drained_more n s.lines i }) ∙ ap (λ m. record s { lines = drained_to m s.lines }) next;
      puts_are = c.put_switch_frames.ensures.puts ∙ (λ i. c.loop-at.invariant.puts_are i ++ puts_on c.network_line-number.result (direction_of (role i)) (waits i))
          ∙ sym (puts_more n c.network_line-number.result own s.lines here within) ∙ ap (λ m. puts_to m own s.lines) next;
      places = omega (arith, c.loop-at.invariant.places, c.put_switch_frames.ensures.most);
      capacity = c.put_switch_frames.ensures.places ∙ c.loop-at.invariant.capacity;
      lines_put = put_next L true own s n (n + 1) c.network_line-number.result c.args.lines.now.items c.loop-at.lines.items _ _ (g.L.Line.flights c.empty.new.self) (g.L.Line.flights c.put_switch_frames.new.line)
          c.requires.apart c.loop-at.invariant.lines_put here line_there c.empty.ensures
          (λ f. put_again L _ _ _ _ (g.L.Line.flights c.empty.new.self) (g.L.Line.flights c.put_switch_frames.new.line) role waits (c.put_switch_frames.ensures.line f))
          refl next;
    }

pub returns-clause-switch : goal.returns-clause-switch
returns-clause-switch g c =
    let s = c.args.switch.now in
    let all : c.loop-at.at ≡ length s.lines = (let count = c.requires.count in omega (arith, c.loop-at-test.false, c.loop-at.auto.at-end, count)) in
    c.loop-at.invariant.switch_is ∙ (λ i. record s { lines = drained_all c.loop-at.at s.lines all i })

pub returns-clause-puts : goal.returns-clause-puts
returns-clause-puts g c =
    let all : c.loop-at.at ≡ length c.args.own.now = omega (arith, c.loop-at-test.false, c.loop-at.auto.at-end) in
    c.loop-at.invariant.puts_are ∙ puts_all c.loop-at.at c.args.own.now c.args.switch.now.lines all

pub returns-clause-lines : goal.returns-clause-lines
returns-clause-lines g c =
    let all : c.loop-at.at ≡ length c.args.own.now = omega (arith, c.loop-at-test.false, c.loop-at.auto.at-end) in
    put_all g.L.Line.service true c.args.own.now c.args.switch.now c.loop-at.at c.args.lines.now.items c.loop-at.lines.items all c.loop-at.invariant.lines_put

pub returns-clause-most : goal.returns-clause-most
returns-clause-most g c =
    let all : c.loop-at.at ≡ length c.args.own.now = omega (arith, c.loop-at-test.false, c.loop-at.auto.at-end) in
    omega (arith, all, c.loop-at.invariant.places, c.loop-at.invariant.capacity, c.requires.room.enough)
