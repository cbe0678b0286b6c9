use Rattle.std.proofs.Common.{◌≡◌, ◌<◌, [], length, slice_get, refl, ap, ◌∙◌, subst, arith}
use Rattle.std.proofs.lemmas.List.{length_push}
use Rattle.switch_lines.specs.Switch.{Switch, with_end, frames_on}
use Rattle.packet_end.specs.PacketEnd.{without_first_frame}
use Rattle.frame_lines.specs.declared.line.Direction.{Direction}
use Rattle.net_events.specs.OneLine.{direction_of}
use Rattle.net_events.specs.AtSwitch.{waiting_on}
use Rattle.net_events.specs.Network.{own_role}
use Rattle.node_events.proofs.Sending.{given, none-left}
use Rattle.node_events.proofs.SwitchSending.{length_changed, left_begins, left_less, left_ends, AllPut, putting_begins, putting_more, putting_ends}
use Rattle.node_events.proofs.putting.put_switch_frames.Goals as goal

pub loop-init : goal.loop-init
loop-init g c = record {
  putting = putting_begins g.L.Line.service c.args.number c.direction_of-direction.result (waiting_on c.args.own c.args.switch.now) (g.L.Line.flights c.args.line.now) c.args.puts.now.items;
  switch_is = left_begins c.args.own c.args.switch.now;
  there = c.requires.there;
  left =
      let same = ap (λ lines. length (frames_on (slice_get lines c.args.own))) c.deref.ensures in
      omega (arith, c.waiting_frames-end.ensures.count, same);
  most = c.waiting_frames-end.ensures.most;
  put = omega arith;
  room = c.requires.room;
  capacity = refl;
}

pub loop-preserved : goal.loop-preserved
loop-preserved g c =
    let some : 0 < length (waiting_on c.args.own c.loop.switch) = omega (arith, c.loop.invariant.left, c.loop-test.true) in
    let first = given c.out.result (waiting_on c.args.own c.loop.switch) c.out.new.frame (waiting_on c.args.own c.out.new.self) c.out.ensures.frame c.out.ensures.nothing some in
    record {
      putting =
          putting_more g.L.Line.service c.args.number c.direction_of-direction.result _ _ c.args.puts.now.items c.loop.puts.items _ _ c.out.new.frame (waiting_on c.args.own c.out.new.self) _ _ c.loop.invariant.putting
          first refl
          (λ f. c.put.ensures f);
      switch_is = left_less c.args.own c.args.switch.now c.loop.switch c.out.new.self c.requires.there c.loop.invariant.switch_is c.out.ensures.switch;
      there = (let same : length c.out.new.self.lines ≡ length c.loop.switch.lines = ap (λ (s : Switch). length s.lines) c.out.ensures.switch ∙ length_changed c.args.own (with_end without_first_frame) c.loop.switch.lines in omega (arith, same, c.loop.invariant.there));
      left = (let l = ap length first in omega (arith, l, c.loop.invariant.left));
      most = c.loop.invariant.most;
      put = (let more = length_push c.loop.puts.items (record { line = c.args.number; direction = c.direction_of-direction.result; octets = c.out.new.frame }) in omega (arith, c.loop.invariant.put, more));
      room = c.loop.invariant.room;
      capacity = c.loop.invariant.capacity;
    }

pub returns : goal.returns
returns g c =
    let none : waiting_on c.args.own c.loop.switch ≡ [] = none-left _ (omega (arith, c.loop.invariant.left, c.loop-test.false)) in
    let Put : Direction → Type 0 = λ d. AllPut g.L.Line.service c.args.number d (waiting_on c.args.own c.args.switch.now) (g.L.Line.flights c.args.line.now) c.args.puts.now.items c.loop.puts.items (g.L.Line.flights c.loop.line) in
    let direction : c.direction_of-direction.result ≡ direction_of (own_role c.args.switch.now c.args.own) = c.direction_of-direction.ensures ∙ ap direction_of c.role_of.ensures in
    let all = subst Put direction (putting_ends g.L.Line.service c.args.number c.direction_of-direction.result _ _ c.args.puts.now.items _ _ _ c.loop.invariant.putting none) in
    record {
      switch = left_ends c.args.own c.args.switch.now c.loop.switch c.loop.invariant.switch_is none;
      puts = all.listed;
      most = omega (arith, c.loop.invariant.put, c.loop.invariant.most, c.loop.invariant.left);
      places = c.loop.invariant.capacity;
      line = all.put;
    }
