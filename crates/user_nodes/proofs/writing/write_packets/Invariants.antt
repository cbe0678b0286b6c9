use Rattle.std.proofs.Common.{◌≡◌, ◌≤◌, ◌-◌, length}
use Rattle.data_transfer.specs.Cutting.{full_packets, cut}
use Rattle.epochs.specs.Packets.{places_of, data_packet_of}
use Rattle.user_nodes.specs.Turn.{all_sent}
use Rattle.user_nodes.proofs.writing.write_packets.Given as goal

abbrev pub invariant-loop : goal.invariant-loop
invariant-loop l = record {
  left : l.end - l.counter ≡ full_packets l.size l.rest;
  most : length l.rest ≤ 1024;
  room : places_of l.rest ≤ l.book.room;
  written : all_sent l.role l.channel (cut l.size (record (data_packet_of l.packet) { octets = l.rest })) l.book.book
      ≡ all_sent l.role l.channel (cut l.size (data_packet_of l.packet)) l.fn.book.book;
}
