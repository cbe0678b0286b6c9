-- The law of the room that a PAD needs in the book.
use Rattle.node_laws.proofs.Pads.Rooms.{key_room, break_room, print_room, leaving_room, arrival_room, idle_room, frame_room, relink_room, timer_room}
use Rattle.node_laws.proofs.pad.room.pad_room_law.Goals as goal

pub returns : goal.returns
returns c = record {
  keys = key_room;
  breaks = break_room;
  prints = print_room;
  leavings = leaving_room;
  arrivals = arrival_room;
  idle_times = idle_room;
  frames = frame_room;
  relinks = relink_room;
  timers = timer_room;
}
