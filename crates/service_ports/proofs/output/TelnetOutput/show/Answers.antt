use Rattle.std.proofs.Common.{◌+◌, ◌*◌, ◌≤◌, length, arith, refl}
use Rattle.std.proofs.lemmas.Bool.Decides.{nat_tests}
use Rattle.service_ports.proofs.Forms.{text_form-bounded, owed-bounded, room_for_first, left_more}
use Rattle.service_ports.proofs.output.TelnetOutput.show.Goals as goal

pub loop-octet-init : goal.loop-octet-init
loop-octet-init c =
    let o = c.args.self.now in
    let room : length o.octets + (2 * length c.args.text.now + 1) ≤ o.capacity = grind (arith, nat_tests, c.if-not-has_room.ensures, c.if-not-has_room.false) in
    record {
      same = refl;
      room = omega (arith, text_form-bounded o.after_return c.args.text.now, owed-bounded o.after_return);
    }

pub push_text-requires : goal.push_text-requires
push_text-requires c =
    room_for_first _ c.args.text.now c.loop-octet.octet-index _ _ c.loop-octet-test.true c.loop-octet.invariant.room

pub loop-octet-preserved : goal.loop-octet-preserved
loop-octet-preserved c =
    left_more c.loop-octet.self _ _ c.args.text.now c.loop-octet.octet-index c.loop-octet-test.true c.loop-octet.invariant c.push_text.ensures
