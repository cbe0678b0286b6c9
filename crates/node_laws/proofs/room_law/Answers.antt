use Rattle.node_laws.proofs.Rooms.{hearing_room, expiry_room, relink_room, restart_room, terminal_room}
use Rattle.node_laws.proofs.room_law.Goals as goal

pub returns : goal.returns
returns c = record {
  hearing = hearing_room;
  expiry = expiry_room;
  relink = relink_room;
  restart = restart_room;
  terminal = terminal_room;
}
