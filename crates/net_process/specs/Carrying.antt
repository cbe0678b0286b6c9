-- Frames between the nodes of a process and the connections of its remote lines.
use Rattle.std.specs.Prelude.{ℕ, zero, suc, List, [], ◌∷◌, ◌++◌, length, map, set, slice_get, Option, Some, None, if◌then◌else◌}
use Rattle.frame_lines.specs.declared.line.Direction.{Direction}
use Rattle.frame_lines.specs.Lines.{flying, with_flying}
use Rattle.line_carriers.specs.Wire.{frame_form}
use Rattle.line_carriers.specs.Carrier.{is_open, takes_frame}
use Rattle.net_events.specs.Network.{NetLine, Network, all_elapsed}
use Rattle.net_events.specs.OneLine.{direction_of, direction_to}
use Rattle.net_nodes.specs.Carrying.{with_flights}
use Rattle.parted_laws.specs.Processes.{flights_at}
use Rattle.remote_lines.specs.declared.line.RemoteLine.{RemoteLine}
use Rattle.remote_lines.specs.RemoteLine as remote
use Rattle.net_process.specs.Process.{ProcessState}

-- the frames in flight in a direction of a line
abbrev pub frames_at : (line : ℕ) → Direction → Network → List (List ℕ)
frames_at line d s = flying d (flights_at line s)

abbrev pub frames_by : Option NetLine → (line : ℕ) → Direction → List (List ℕ) → Network → Network
frames_by None line d frames s = s
frames_by (Some l) line d frames s = with_flights line l (with_flying d frames l.flights) s

-- the network with these frames in flight in a direction of a line, if it has the line
abbrev pub with_frames : (line : ℕ) → Direction → List (List ℕ) → Network → Network
with_frames line d frames s = frames_by (slice_get s.lines line) line d frames s

-- ---- what goes out

-- a frame goes to the connection if the line is open and has room for it; else it is lost
abbrev pub send : RemoteLine → List ℕ → RemoteLine
send r frame =
    if takes_frame r.carrier frame
    then record r { carrier = record r.carrier { output = r.carrier.output ++ frame_form frame } }
    else r

-- frames do, in order
abbrev pub sends : RemoteLine → List (List ℕ) → RemoteLine
sends r [] = r
sends r (frame ∷ frames) = sends (send r frame) frames

-- nothing that goes out is in flight here any more, and on a line that is not open nothing that came either
abbrev pub settled_part : RemoteLine → Network → Network
settled_part r s =
    let sent = with_frames r.end.line (direction_of r.end.role) [] s in
    if is_open r.carrier then sent else with_frames r.end.line (direction_to r.end.role) [] sent

abbrev pub settled_line : RemoteLine → Network → RemoteLine
settled_line r s = sends r (frames_at r.end.line (direction_of r.end.role) s)

abbrev pub settled_by : Option RemoteLine → (place : ℕ) → ProcessState → ProcessState
settled_by None place p = p
settled_by (Some r) place p =
    record p { part = settled_part r p.part; lines = set p.lines place (settled_line r p.part) }

-- what was in flight on the remote line of this place goes out or is lost
abbrev pub settled : (place : ℕ) → ProcessState → ProcessState
settled place p = settled_by (slice_get p.lines place) place p

abbrev pub settled_below : (count : ℕ) → ProcessState → ProcessState
settled_below zero p = p
settled_below (suc count) p = settled count (settled_below count p)

-- so it is on each remote line
abbrev pub carried : ProcessState → ProcessState
carried p = settled_below (length p.lines) p

-- ---- time

-- ticks pass at the nodes and on the lines, and then what is in flight on remote lines goes out or is lost
abbrev pub elapsed : (ticks : ℕ) → ProcessState → ProcessState
elapsed ticks p =
    carried (record p { part = all_elapsed ticks p.part; lines = map (λ line. remote.elapsed line ticks) p.lines })
