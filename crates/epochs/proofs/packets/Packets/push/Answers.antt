use Rattle.std.proofs.Common.{◌≡◌, ◌∙◌, ◌+◌, ◌≤◌, ◌++◌, List, length, ap, arith, vec_len, vec_capacity}
use Rattle.std.proofs.lemmas.List.{append_assoc}
use Rattle.epochs.specs.Packets.{PacketsState, data_packet_of, written}
use Rattle.epochs.proofs.Written.{octet_of, where_ok, read_more, written_more, count_fits}
use Rattle.epochs.proofs.packets.Packets.push.Goals as goal

pub overflow_add-self : goal.overflow_add-self
overflow_add-self c = omega (arith, count_fits c.self.inside.count c.self.inside.written.items c.self.invariant, c.self.inside.written.ok)

whole : (c : goal.After-self-1) → c.extend_from_slice-2.new.self.items ≡ c.self.inside.written.items ++ written (data_packet_of c.args.packet)
whole c =
    let os = c.self.inside.written.items in
    let p = data_packet_of c.args.packet in
    let view = ap (λ (s : PacketsState). s.spare) c.self.view_is in
    let room : vec_len c.self.inside.written + (length p.octets + 2) ≤ vec_capacity c.self.inside.written = omega (arith, view, c.requires.spare) in
    let first = c.extend_from_slice.ensures in
    let second = c.extend_from_slice-2.ensures in
    let first_ok = first.succeeds (omega (arith, room)) in
    let longer = where_ok c.extend_from_slice.result _ _ _ first.len first_ok in
    let head = where_ok c.extend_from_slice.result _ _ _ first.items first_ok in
    let all = where_ok c.extend_from_slice-2.result _ _ _ second.items (second.succeeds (omega (arith, room, longer, first.capacity))) in
    all ∙ ap (λ (xs : List _). xs ++ p.octets) head ∙ rw (c.from.ensures, c.from-2.ensures, c.from-3.ensures, octet_of p.more, octet_of p.qualified, octet_of p.delivery) (append_assoc os _ p.octets)

pub invariant_of-self : goal.invariant_of-self
invariant_of-self c = rw (whole c) (written_more c.self.inside.count c.self.inside.written.items (data_packet_of c.args.packet) c.self.invariant)

pub returns-clause-packets : goal.returns-clause-packets
returns-clause-packets c =
    rw (whole c, ← c.self.view_is) (read_more c.self.inside.count c.self.inside.written.items (data_packet_of c.args.packet) c.self.invariant)
