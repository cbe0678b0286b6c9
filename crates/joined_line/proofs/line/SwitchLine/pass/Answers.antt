use Rattle.std.proofs.Common.{ap, arith, [], ◌∷◌, false, length}
use Rattle.data_transfer.specs.Packets.{Datum}
use Rattle.switch_joins.specs.Direction.{carried}
use Rattle.switch_joins.specs.Joins.{joined_with, nth_joined}
use Rattle.switch_joins.specs.Turning.{all_made}
use Rattle.switch_joins.specs.Held.{HeldJoins}
use Rattle.switch_joins.proofs.Slots.{set_size}
use Rattle.joined_line.proofs.line.SwitchLine.pass.Goals as goal

-- all packets are the same to the direction
abbrev any_packet : Datum
any_packet = record { octets = []; more = false; qualified = false; delivery = false }

pub invariant_of-self : goal.invariant_of-self
invariant_of-self c =
    let same = c.pass.ensures any_packet in
    let held = ap (λ (j : HeldJoins). length j.held) same in
    let joined = ap (λ (j : HeldJoins). length j.joined) same in
    let js = c.self.inside.joined.joined in
    let size = set_size js c.args.channel (joined_with (carried c.args.delivery (all_made (any_packet ∷ []))) (nth_joined js c.args.channel)) in
    record {
      read = c.self.invariant.read;
      within = c.self.invariant.within;
      gathered = omega (arith, held, joined, size, c.self.invariant.gathered);
    }
