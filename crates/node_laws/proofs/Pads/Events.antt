-- The events of a PAD at its line.
use Rattle.std.specs.Prelude.{◌≡◌, ℕ, Bool, true, false, if◌then◌else◌, List, [], ◌∷◌, Option, Some, None}
use Rattle.std.proofs.Common.{refl, sym, ap, subst, ◌∙◌}
use Rattle.link_timers.specs.declared.role.Role.{Role}
use Rattle.link_timers.specs.declared.role.Role.TheVariants.{Dte, Dce}
use Rattle.link_timers.specs.declared.timers.TimerId.{TimerId}
use Rattle.link_timers.specs.declared.timers.TimerId.TheVariants.{Idle}
use Rattle.link_timers.specs.Role.{other_of}
use Rattle.lapb.specs.Machine.{Octets}
use Rattle.data_transfer.specs.Packets.{Note}
use Rattle.packet_end.specs.PacketEnd as end
use Rattle.packet_end.specs.declared.params.EndParams.{EndParams}
use Rattle.packet_end.specs.PacketEnd.{PacketEnd, begun, received, after_timer, relinked, finished, runs_at}
use Rattle.node_laws.specs.Lines.NodeLine.{Line, At, Elapses, Sends, happens, made as ends_made}
use Rattle.call_records.specs.Book.{Book, all_told}
use Rattle.node_laws.specs.LineRecords.Kept.{Setting, Kept, end_at, coming_to}
use Rattle.node_laws.specs.LineRecords.Happens.{sent, with_event, with_restart}
use Rattle.node_laws.proofs.LineRecords.Views.{KeptAt, seen}
use Rattle.node_laws.proofs.LineRecords.KeptAfterActs.{begins_at, hears_at, expires_at, relinks_at}
use Rattle.node_laws.proofs.LineRecords.LineLaw.{like_kept, silent_kept, made_kept}
use Rattle.node_laws.proofs.LineRecords.WholeEvents.{ends_on, restarted_kept}
use Rattle.pad_ports.specs.Notes as notes
use Rattle.pad_ports.specs.PadLine as line
use Rattle.pad_ports.specs.PadLine.{last_incoming}
use Rattle.pad_ports.specs.Ports as port
use Rattle.pad_ports.specs.Ports.{AtLine}
use Rattle.x25_pad.specs.Pad as pad
use Rattle.x25_pad.specs.Pad.{PadState}
use Rattle.node_laws.specs.Pads.Standing.{StandsAt, KeepsWith, KeepsBy, drained}
use Rattle.node_laws.specs.Pads.PadClauses.{KeyLaw, BreakLaw, IdleLaw, PrintLaw, LeavingLaw, ArrivalLaw, FrameLaw, TimerLaw, RelinkLaw, RestartLaw, TimeLaw, MakingLaw}
use Rattle.node_laws.proofs.Pads.Asking.{Runs, noted, noted_append, noted_told, named_runs, gathered_runs, accepted_runs, cleared_runs}
use Rattle.node_laws.proofs.Pads.Terminals.{key_runs, idle_runs, break_runs, print_runs, leaving_runs, port_runs}

-- ---- ends of a line

-- what an end noted makes no difference
read_kept : (s : Setting) (b : Book) (role : Role) (e : PacketEnd) (l : Line) (kept : List Bool) (coming : List Octets) → Kept s b (with_event role e kept coming l)
    → Kept s b (with_event role (record e { notes = [] }) kept coming l)
read_kept s b Dte e l kept coming k =
    like_kept s b (with_event Dte e kept coming l) (with_event Dte (record e { notes = [] }) kept coming l)
    (record { dte_link = refl; dce_link = refl; dte_layer = refl; dce_layer = refl; up = refl; down = refl }) k
read_kept s b Dce e l kept coming k =
    like_kept s b (with_event Dce e kept coming l) (with_event Dce (record e { notes = [] }) kept coming l)
    (record { dte_link = refl; dce_link = refl; dte_layer = refl; dce_layer = refl; up = refl; down = refl }) k

same_kept : (s : Setting) (b : Book) (role : Role) (l : Line) (kept : List Bool) → Kept s b l → Kept s b (with_event role (end_at role l) kept (coming_to role l) l)
same_kept s b Dte l kept k = silent_kept s b l Dte (Sends kept) tt k
same_kept s b Dce l kept k = silent_kept s b l Dce (Sends kept) tt k

stands : (role : Role) (l : Line) (kept : List Bool) (coming : List Octets) (p : PadState) → p.line.end.notes ≡ [] → StandsAt role (with_event role p.line.end kept coming l) (drained p)
stands Dte l kept coming p h = record { end = refl; read = h; noted = refl; sent = refl }
stands Dce l kept coming p h = record { end = refl; read = h; noted = refl; sent = refl }

other_same : (role : Role) (e : PacketEnd) (kept : List Bool) (coming : List Octets) (l : Line) → end_at (other_of role) (with_event role e kept coming l) ≡ end_at (other_of role) l
other_same Dte e kept coming l = refl
other_same Dce e kept coming l = refl

-- ---- an event, from when the PAD has begun it

module _ (s : Setting) (b : Book) (l : Line) (role : Role) (kept : List Bool) (coming : List Octets) where
  abbrev you : PacketEnd
  you = end_at (other_of role) l

  abbrev going : List Octets
  going = coming_to (other_of role) l

  abbrev KeptIn : Book → PacketEnd → Type 0
  KeptIn x e = KeptAt s x role e you going coming

  abbrev RunsOn : PadState → Type 0
  RunsOn p = Runs s b role you going coming p.line

  -- its end: the frames go
  ends : (p : PadState) → RunsOn p → KeepsWith s b role l kept coming (pad.ended p)
  ends p h =
      let x : Book = noted role p.line.notes b in
      let e : PacketEnd = finished p.line.end in
      let k : KeptIn (all_told role p.line.end.notes x) p.line.end = subst (λ (ns : List Note). KeptIn (all_told role ns x) p.line.end) (sym h.read) h.kept in
      record {
        kept =
            subst (λ (z : Book). Kept s z (with_event role (record e { notes = [] }) kept coming l))
            (sym (noted_append role p.line.notes (notes.all_told e.notes) b ∙ noted_told role e.notes x))
            (read_kept s (all_told role e.notes x) role e l kept coming (ends_on s x role p.line.end l coming kept k));
        here = stands role l kept coming (pad.ended p) refl;
        there = other_same role (pad.ended p).line.end kept coming l;
      }

  -- one that came from the line: the terminals learn of it, and a call that came in is answered
  answered_at_runs : (o : Option ℕ) (channel : ℕ) (p : PadState) → RunsOn p → RunsOn (pad.answered_at o channel p)
  answered_at_runs None channel p h =
      cleared_runs s b role you going coming channel (line.at_terminal None p.line) (named_runs s b role you going coming None p.line h)
  answered_at_runs (Some number) channel p h =
      accepted_runs s b role you going coming channel (line.at_terminal (Some number) p.line) (named_runs s b role you going coming (Some number) p.line h)

  answered_runs : (o : Option ℕ) (p : PadState) → RunsOn p → RunsOn (pad.answered o p)
  answered_runs None p h = h
  answered_runs (Some channel) p h = answered_at_runs (pad.first_free p.ports) channel p h

  line_ends : (p : PadState) → p.line.notes ≡ [] → KeptIn (all_told role p.line.end.notes b) p.line.end → KeepsWith s b role l kept coming (pad.line_event p)
  line_ends p none k =
      let told = gathered_runs s b role you going coming (pad.holders p.ports p.line.end.notes) p.line
      (subst (λ (ns : List notes.ChannelNote). KeptIn (all_told role p.line.end.notes (noted role ns b)) p.line.end) (sym none) k) in
      ends (pad.answered (last_incoming None p.line.end.notes) (pad.told p)) (answered_runs (last_incoming None p.line.end.notes) (pad.told p) told)

  -- where nothing happens
  nothing : (p : PadState) → coming_to role l ≡ coming → StandsAt role l p → Kept s b l → KeepsWith s b role l kept coming p
  nothing p is h k = record {
    kept =
        subst (λ (ns : List notes.ChannelNote). Kept s (noted role ns b) (with_event role p.line.end kept coming l)) (sym h.noted)
        (subst (λ (e : PacketEnd). Kept s b (with_event role e kept coming l)) (sym h.end)
        (subst (λ (c : List Octets). Kept s b (with_event role (end_at role l) kept c l)) is (same_kept s b role l kept k)));
    here = stands role l kept coming p h.read;
    there = other_same role p.line.end kept coming l;
  }

-- ---- events that begin

module _ (s : Setting) (b : Book) (l : Line) (role : Role) (k : Kept s b l) where
  abbrev me : PacketEnd
  me = end_at role l

  abbrev them : PacketEnd
  them = end_at (other_of role) l

  abbrev on_way : List Octets
  on_way = coming_to (other_of role) l

  abbrev KeptNow : Book → PacketEnd → List Octets → Type 0
  KeptNow x e coming = KeptAt s x role e them on_way coming

  begins : KeptNow b (begun me) (coming_to role l)
  begins = begins_at s b role me them on_way (coming_to role l) (seen s b role l k)

  begins_run : (p : PadState) → p.line.end ≡ me → Runs s b role them on_way (coming_to role l) (pad.begun p).line
  begins_run p is = record { read = refl; kept = subst (λ (e : PacketEnd). KeptNow b (begun e) (coming_to role l)) (sym is) begins }

  told_by : (e : PacketEnd) (coming : List Octets) (given : List Note) → e.notes ≡ given → KeptNow (all_told role given b) e coming → KeptNow (all_told role e.notes b) e coming
  told_by e coming given is c = subst (λ (ns : List Note). KeptNow (all_told role ns b) e coming) (sym is) c

  frame_begins : (octets : Octets) (coming : List Octets) → coming_to role l ≡ octets ∷ coming → KeptNow (all_told role (received (begun me) octets).notes b) (received (begun me) octets) coming
  frame_begins octets coming is =
      let a = subst (λ (x : List Octets). KeptNow b me x) is (seen s b role l k) in
      let t = hears_at s b role (begun me) them on_way (octets ∷ coming) (begins_at s b role me them on_way (octets ∷ coming) a) in
      told_by (received (begun me) octets) coming t.given t.notes t.kept

  expiry_begins : (id : TimerId) → KeptNow (all_told role (after_timer (begun me) id).notes b) (after_timer (begun me) id) (coming_to role l)
  expiry_begins id =
      let t = expires_at s b role (begun me) them on_way (coming_to role l) begins id in
      told_by (after_timer (begun me) id) (coming_to role l) t.given t.notes t.kept

  relink_begins : KeptNow (all_told role (relinked (begun me)).notes b) (relinked (begun me)) (coming_to role l)
  relink_begins =
      let t = relinks_at s b role (begun me) them on_way (coming_to role l) begins in
      told_by (relinked (begun me)) (coming_to role l) t.given t.notes t.kept

  -- something happens at a terminal
  terminal_keeps : (number : ℕ) (act : AtLine → AtLine) (p : PadState) (kept : List Bool) → p.line.end ≡ me
      → ((a : AtLine) → Runs s b role them on_way (coming_to role l) a.line → Runs s b role them on_way (coming_to role l) (act a).line)
      → KeepsBy s b role l kept (pad.terminal_event number act p)
  terminal_keeps number act p kept is f =
      ends s b l role kept (coming_to role l) (pad.at_port number act (pad.begun p))
      (port_runs s b role them on_way (coming_to role l) number act (pad.begun p) f (begins_run p is))

-- ---- the laws

pub key_keeps : KeyLaw
key_keeps s b l role p number octet kept h k =
    terminal_keeps s b l role k number (port.after_key octet) p kept h.end (key_runs s b role (end_at (other_of role) l) (coming_to (other_of role) l) (coming_to role l) octet)

pub break_keeps : BreakLaw
break_keeps s b l role p number kept h k =
    terminal_keeps s b l role k number port.after_break p kept h.end (break_runs s b role (end_at (other_of role) l) (coming_to (other_of role) l) (coming_to role l))

pub print_keeps : PrintLaw
print_keeps s b l role p number kept h k =
    terminal_keeps s b l role k number port.after_print p kept h.end (print_runs s b role (end_at (other_of role) l) (coming_to (other_of role) l) (coming_to role l))

pub leaving_keeps : LeavingLaw
leaving_keeps s b l role p number kept h k =
    terminal_keeps s b l role k number port.after_leaving p kept h.end (leaving_runs s b role (end_at (other_of role) l) (coming_to (other_of role) l) (coming_to role l))

pub arrival_keeps : ArrivalLaw
arrival_keeps s b l role p number kept h k = terminal_keeps s b l role k number port.after_arrival p kept h.end (λ a r. r)

pub idle_keeps : IdleLaw
idle_keeps s b l role p number kept h k = by (pad.runs_idle_timer number p)
  where
    by : (v : Bool) → KeepsBy s b role l kept (if v then pad.terminal_event number port.after_idle p else p)
    by true = terminal_keeps s b l role k number port.after_idle p kept h.end (idle_runs s b role (end_at (other_of role) l) (coming_to (other_of role) l) (coming_to role l))
    by false = nothing s b l role kept (coming_to role l) p refl h k

pub frame_keeps : FrameLaw
frame_keeps s b l role p octets coming kept is h k =
    line_ends s b l role kept coming (pad.with_end (received (begun p.line.end) octets) (pad.begun p)) refl
    (subst (λ (e : PacketEnd). KeptAt s (all_told role (received (begun e) octets).notes b) role (received (begun e) octets) (end_at (other_of role) l) (coming_to (other_of role) l) coming) (sym h.end)
    (frame_begins s b l role k octets coming is))

pub relink_keeps : RelinkLaw
relink_keeps s b l role p kept h k =
    line_ends s b l role kept (coming_to role l) (pad.with_end (relinked (begun p.line.end)) (pad.begun p)) refl
    (subst (λ (e : PacketEnd). KeptAt s (all_told role (relinked (begun e)).notes b) role (relinked (begun e)) (end_at (other_of role) l) (coming_to (other_of role) l) (coming_to role l)) (sym h.end)
    (relink_begins s b l role k))

expiry_keeps : (s : Setting) (b : Book) (l : Line) (role : Role) (p : PadState) (id : TimerId) (kept : List Bool) → StandsAt role l p → Kept s b l → KeepsBy s b role l kept (pad.after_expiry p id)
expiry_keeps s b l role p id kept h k = by (runs_at p.line.end id)
  where
    by : (v : Bool) → KeepsBy s b role l kept (if v then pad.line_event (pad.with_end (after_timer (begun p.line.end) id) (pad.begun p)) else p)
    by true =
        line_ends s b l role kept (coming_to role l) (pad.with_end (after_timer (begun p.line.end) id) (pad.begun p)) refl
        (subst (λ (e : PacketEnd). KeptAt s (all_told role (after_timer (begun e) id).notes b) role (after_timer (begun e) id) (end_at (other_of role) l) (coming_to (other_of role) l) (coming_to role l)) (sym h.end)
        (expiry_begins s b l role k id))
    by false = nothing s b l role kept (coming_to role l) p refl h k

pub timer_keeps : TimerLaw
timer_keeps s b l role p (Idle number) kept h k = idle_keeps s b l role p number kept h k
timer_keeps s b l role p id kept h k = expiry_keeps s b l role p id kept h k

-- ---- a restart, time, and the making

restarted_there : (role : Role) (l : Line) (kept : List Bool) (p : PadState) → p.line.end ≡ end_at role l → StandsAt role (with_restart role kept l) (drained (pad.restarted p))
restarted_there Dte l kept p is = record { end = ap (λ (e : PacketEnd). sent (end.restarted e)) is; read = refl; noted = refl; sent = refl }
restarted_there Dce l kept p is = record { end = ap (λ (e : PacketEnd). sent (end.restarted e)) is; read = refl; noted = refl; sent = refl }

other_restarted : (role : Role) (kept : List Bool) (l : Line) → end_at (other_of role) (with_restart role kept l) ≡ sent (end_at (other_of role) l)
other_restarted Dte kept l = refl
other_restarted Dce kept l = refl

pub restart_keeps : RestartLaw
restart_keeps s b l role p kept h k = record {
  kept = restarted_kept s b l role kept k;
  here = restarted_there role l kept p h.end;
  there = other_restarted role kept l;
}

elapsed_there : (role : Role) (l : Line) (p : PadState) (ticks : ℕ) → StandsAt role l p → StandsAt role (happens (At role (Elapses ticks)) l) (pad.elapsed ticks p)
elapsed_there Dte l p ticks h = record { end = ap (λ (e : PacketEnd). end.elapsed e ticks) h.end; read = h.read; noted = h.noted; sent = h.sent }
elapsed_there Dce l p ticks h = record { end = ap (λ (e : PacketEnd). end.elapsed e ticks) h.end; read = h.read; noted = h.noted; sent = h.sent }

pub time_keeps : TimeLaw
time_keeps s b l role p ticks h k = (silent_kept s b l role (Elapses ticks) tt k, elapsed_there role l p ticks h)

pub making_keeps : MakingLaw
making_keeps s c kept setting is = (
  silent_kept s _ (ends_made s.dte s.dce) Dte (Sends kept) tt (made_kept s setting),
  record { end = ap (λ (d : EndParams). sent (end.made Dte d)) is; read = refl; noted = refl; sent = refl },
)
