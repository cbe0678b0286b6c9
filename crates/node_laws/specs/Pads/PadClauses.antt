-- What each event of a PAD keeps of its line and of the book, which is written from the PAD's notes alone.
use Rattle.std.specs.Prelude.{◌≡◌, ℕ, Bool, List, [], ◌∷◌}
use Rattle.link_timers.specs.declared.role.Role.{Role}
use Rattle.link_timers.specs.declared.role.Role.TheVariants.{Dte}
use Rattle.link_timers.specs.declared.timers.TimerId.{TimerId}
use Rattle.link_timers.specs.Role.{other_of}
use Rattle.lapb.specs.Machine.{Octets}
use Rattle.node_laws.specs.Lines.NodeLine.{Line, At, Elapses, Sends, happens, made as ends_made}
use Rattle.call_records.specs.Book.{Book, made_book}
use Rattle.call_records.specs.Writes.Write.{AllClosed}
use Rattle.node_laws.specs.LineRecords.Kept.{Setting, IsSetting, Kept, end_at, coming_to}
use Rattle.node_laws.specs.LineRecords.Happens.{sent, with_restart}
use Rattle.pad_ports.specs.Ports as port
use Rattle.x25_pad.specs.Pad.{PadState, terminal_event, after_idle, after_frame, after_timer, after_relink, restarted}
use Rattle.x25_pad.specs.Pad.{elapsed}
use Rattle.x25_pad.specs.Making.{made}
use Rattle.x25_pad.specs.declared.config.PadConfig.{PadConfig}
use Rattle.node_laws.specs.Pads.Standing.{StandsAt, Keeps, KeepsWith, KeepsBy, drained}

-- ---- at a terminal

abbrev pub KeyLaw : Type 0
KeyLaw =
    (s : Setting) (b : Book) (l : Line) (role : Role) (p : PadState) (number octet : ℕ) (kept : List Bool)
    → StandsAt role l p → Kept s b l → KeepsBy s b role l kept (terminal_event number (port.after_key octet) p)

abbrev pub BreakLaw : Type 0
BreakLaw =
    (s : Setting) (b : Book) (l : Line) (role : Role) (p : PadState) (number : ℕ) (kept : List Bool)
    → StandsAt role l p → Kept s b l → KeepsBy s b role l kept (terminal_event number port.after_break p)

-- the terminal leaves
abbrev pub LeavingLaw : Type 0
LeavingLaw =
    (s : Setting) (b : Book) (l : Line) (role : Role) (p : PadState) (number : ℕ) (kept : List Bool)
    → StandsAt role l p → Kept s b l → KeepsBy s b role l kept (terminal_event number port.after_leaving p)

-- the terminal arrives
abbrev pub ArrivalLaw : Type 0
ArrivalLaw =
    (s : Setting) (b : Book) (l : Line) (role : Role) (p : PadState) (number : ℕ) (kept : List Bool)
    → StandsAt role l p → Kept s b l → KeepsBy s b role l kept (terminal_event number port.after_arrival p)

-- the end of an idle time, whether the timer runs or not
abbrev pub IdleLaw : Type 0
IdleLaw =
    (s : Setting) (b : Book) (l : Line) (role : Role) (p : PadState) (number : ℕ) (kept : List Bool)
    → StandsAt role l p → Kept s b l → KeepsBy s b role l kept (after_idle number p)

-- what waits is shown, and a packet or an interrupt is taken
abbrev pub PrintLaw : Type 0
PrintLaw =
    (s : Setting) (b : Book) (l : Line) (role : Role) (p : PadState) (number : ℕ) (kept : List Bool)
    → StandsAt role l p → Kept s b l → KeepsBy s b role l kept (terminal_event number port.after_print p)

-- ---- what comes from the line

-- the first frame on the way to the PAD arrives
abbrev pub FrameLaw : Type 0
FrameLaw =
    (s : Setting) (b : Book) (l : Line) (role : Role) (p : PadState) (octets : Octets) (coming : List Octets)
    (kept : List Bool)
    → coming_to role l ≡ octets ∷ coming → StandsAt role l p → Kept s b l
    → KeepsWith s b role l kept coming (after_frame p octets)

abbrev pub TimerLaw : Type 0
TimerLaw =
    (s : Setting) (b : Book) (l : Line) (role : Role) (p : PadState) (id : TimerId) (kept : List Bool)
    → StandsAt role l p → Kept s b l → KeepsBy s b role l kept (after_timer p id)

abbrev pub RelinkLaw : Type 0
RelinkLaw =
    (s : Setting) (b : Book) (l : Line) (role : Role) (p : PadState) (kept : List Bool)
    → StandsAt role l p → Kept s b l → KeepsBy s b role l kept (after_relink p)

-- all frames on the line are lost, also those that waited at the other end, and all calls of the PAD are over, of which
-- it notes nothing
abbrev pub RestartLaw : Type 0
RestartLaw =
    (s : Setting) (b : Book) (l : Line) (role : Role) (p : PadState) (kept : List Bool)
    → StandsAt role l p → Kept s b l
    → Keeps s b role (with_restart role kept l) (restarted p) (AllClosed ∷ []) (sent (end_at (other_of role) l))

-- ---- time, and the making

abbrev pub TimeLaw : Type 0
TimeLaw =
    (s : Setting) (b : Book) (l : Line) (role : Role) (p : PadState) (ticks : ℕ)
    → StandsAt role l p → Kept s b l
    → let m = happens (At role (Elapses ticks)) l in Kept s b m × StandsAt role m (elapsed ticks p)

-- a PAD that is made is the DTE of its line, on which its first frames go or are lost
abbrev pub MakingLaw : Type 0
MakingLaw = (s : Setting) (c : PadConfig) (kept : List Bool) → IsSetting s → c.line ≡ s.dte
    → let m = happens (At Dte (Sends kept)) (ends_made s.dte s.dce) in
    Kept s (made_book s.dte_node s.dce_node s.dte.channels s.dte.standing) m × StandsAt Dte m (drained (made c))
