-- One end of a link of X.25 2.4 (LAPB, ISO 7776): its state, and what each call makes of it.
use Rattle.std.specs.Prelude.{
  ℕ,
  ◌+◌,
  ◌-◌,
  ◌/◌,
  ◌%◌,
  Bool,
  true,
  false,
  not,
  ◌&&◌,
  ◌||◌,
  List,
  [],
  ◌∷◌,
  ◌++◌,
  length,
  drop,
  Option,
  Some,
  None,
  if◌then◌else◌,
  ◌==◌,
  nat_lt,
  nat_le,
}
use Rattle.link_timers.specs.declared.role.Role.{Role}
use Rattle.link_timers.specs.declared.role.Role.TheVariants.{Dte, Dce}
use Rattle.frame_codec.specs.Frame.{FrameValue, Content, Report}
use Rattle.frame_codec.specs.Frame.Content.{
  I,
  Rr,
  Rnr,
  Rej,
  Sabm,
  Disc,
  Dm,
  Ua,
  Frmr,
}
use Rattle.frame_codec.specs.Spelling.{control_of}
use Rattle.lapb.specs.declared.phase.Phase.{Phase}
use Rattle.lapb.specs.declared.note.Note.{Note}
use Rattle.lapb.specs.declared.note.Timing.{Timing}
use Rattle.lapb.specs.declared.link.LinkParams.{LinkParams}

-- what a packet consists of
abbrev pub Octets : Type 0
Octets = List ℕ

-- The state. V(S) and V(M), which follows the highest N(S) used, are kept as what they are ahead of V(A).
pub record Link : Type 0 where
  pub role : Role
  pub phase : Phase
  pub k : ℕ  -- how many packets may be unacknowledged, 1 to 7
  pub n2 : ℕ  -- how many polls may stay unanswered
  pub info : ℕ  -- the most octets of information of an I frame
  pub oldest : ℕ  -- V(A) modulo 8, the number of the oldest unacknowledged packet
  pub next : ℕ  -- V(S) - V(A)
  pub top : ℕ  -- V(M) - V(A)
  pub expected : ℕ  -- V(R) modulo 8
  pub queue : List Octets  -- the packets offered and not acknowledged, sent or not, oldest first
  pub heard : Bool  -- an I, RR, RNR or REJ frame came since the session began
  pub owed : Bool  -- an acknowledgement is owed
  pub rejecting : Bool  -- the REJ condition
  pub busy : Bool  -- the partner is busy
  pub polling : Bool  -- a poll is outstanding
  pub polls : ℕ  -- how many polls were sent without an answer
  pub bit : Bool  -- the P bit of the SABMs of the last set-up act
  pub repeats : Bool  -- in the disconnected phase: T1 sends the DM again
  pub report : Report  -- of the FRMR sent last

-- what one call does
pub record Step : Type 0 where
  pub link : Link  -- the state after it
  pub frames : List FrameValue  -- sent, in order
  pub note : Note
  pub accepted : Option Octets  -- the next packet of the session
  pub anew : Bool  -- T1 starts anew, if it is to run

-- ---- numbers and frames

-- how far a number modulo 8 is ahead of another one
abbrev pub ahead : ℕ → ℕ → ℕ
ahead from to = (to + 8 - from) % 8

abbrev pub is_same : Bool → Bool → Bool
is_same true bit = bit
is_same false bit = not bit

abbrev pub command : Content → Bool → FrameValue
command content pf = record { content = content; response = false; pf = pf }

abbrev pub response : Content → Bool → FrameValue
response content pf = record { content = content; response = true; pf = pf }

-- V(S) modulo 8
abbrev pub next_number : Link → ℕ
next_number l = (l.oldest + l.next) % 8

-- ---- steps that most rules are made of

-- nothing happens
abbrev pub still : Link → Step
still l = record { link = l; frames = []; note = Note.Nothing; accepted = None; anew = false }

-- one frame is sent, and nothing else happens
abbrev pub sends : Link → FrameValue → Step
sends l frame = record { link = l; frames = frame ∷ []; note = Note.Nothing; accepted = None; anew = false }

-- RR as a response with F = 1, if it is due
abbrev pub answers : Bool → ℕ → List FrameValue
answers true nr = response (Rr nr) true ∷ []
answers false nr = []

-- the state at a session's beginning and outside sessions: numbers 0, nothing unacknowledged, owed or outstanding
abbrev pub cleared : Link → Phase → Link
cleared l phase = record l {
  phase = phase;
  oldest = 0;
  next = 0;
  top = 0;
  expected = 0;
  queue = [];
  heard = false;
  owed = false;
  rejecting = false;
  busy = false;
  polling = false;
  polls = 0;
  repeats = false;
}

-- what the packet layer is told where the link leaves this phase for none of a session
abbrev pub left : Phase → Note
left Phase.Up = Note.Down
left _ = Note.Nothing

-- ---- setting up and giving up the link (X.25 2.4.4.1, 2.4.4.3, 2.4.7)

-- a set-up act of a DTE; the SABMs of an act carry one P, those of the next the other
abbrev pub set_up : Link → Step
set_up l = record {
  link = record (cleared l Phase.SettingUp) { bit = not l.bit };
  frames = command Sabm (not l.bit) ∷ [];
  note = left l.phase;
  accepted = None;
  anew = true;
}

-- a DCE asks to be set up (X.25 2.4.4.4)
abbrev pub disconnect : Link → Step
disconnect l = record {
  link = record (cleared l Phase.Down) { repeats = true };
  frames = response Dm false ∷ [];
  note = left l.phase;
  accepted = None;
  anew = true;
}

abbrev pub relink_as : Role → Phase → Link → Step
relink_as Dte Phase.SettingUp l = still l
relink_as Dte _ l = set_up l
relink_as Dce _ l = disconnect l

abbrev pub relink : Link → Step
relink l = relink_as l.role l.phase l

-- a DCE takes a SABM; it sends no I frame before it hears the DTE
abbrev pub take_sabm : Link → Bool → Step
take_sabm l pf = record {
  link = cleared l Phase.Up;
  frames = response Ua pf ∷ [];
  note = Note.Up;
  accepted = None;
  anew = false;
}

-- a DTE takes the UA of its act, and polls
abbrev pub come_up : Link → Step
come_up l = record {
  link = record (cleared l Phase.Up) { heard = true; polling = true; polls = 1 };
  frames = command (Rr 0) true ∷ [];
  note = Note.Up;
  accepted = None;
  anew = true;
}

-- DISC is answered by UA
abbrev pub take_disc : Link → Bool → Step
take_disc l pf = record {
  link = cleared l Phase.Down;
  frames = response Ua pf ∷ [];
  note = left l.phase;
  accepted = None;
  anew = false;
}

-- ---- frames that cannot be taken (X.25 2.4.6, 2.4.7.3)

-- a DTE sets the link up again, a DCE reports the frame by FRMR
abbrev pub reject_as : Role → Link → Report → Bool → Step
reject_as Dte l report pf = set_up l
reject_as Dce l report pf = record {
  link = record (cleared l Phase.Rejecting) { report = report };
  frames = response (Frmr report) pf ∷ [];
  note = left l.phase;
  accepted = None;
  anew = true;
}

abbrev pub report_of : Link → ℕ → Bool → Bool → Bool → Bool → Bool → Report
report_of l control is_response w x y z = record {
  control = control;
  vs = next_number l;
  vr = l.expected;
  response = is_response;
  w = w;
  x = x;
  y = y;
  z = z;
}

-- N(R) of no number from V(A) to V(M)
abbrev pub reject_number : Link → Content → Bool → Bool → Step
reject_number l content is_response pf =
    reject_as l.role l (report_of l (control_of content pf) is_response false false false true) (pf && not
    is_response)

-- why a frame of this line could not be read
pub data Defect : Type 0 where
  UndefinedControl : Defect
  InformationNotAllowed : Defect
  InformationTooLong : Defect

abbrev pub defect_report : Link → Defect → ℕ → Bool → Report
defect_report l UndefinedControl control is_response = report_of l control is_response true false false false
defect_report l InformationNotAllowed control is_response = report_of l control is_response true true false false
defect_report l InformationTooLong control is_response = report_of l control is_response false false true false

-- the P/F bit of a control octet
abbrev pub has_bit : ℕ → Bool
has_bit control = control / 16 % 2 == 1

abbrev pub on_defect_in : Phase → Link → Defect → ℕ → Bool → Step
on_defect_in Phase.Up l defect control is_response =
    reject_as l.role l (defect_report l defect control is_response) (has_bit control && not is_response)
on_defect_in _ l defect control is_response = still l

-- a frame whose control octet or information field cannot be taken; an invalid frame, which is too short or bears
-- another address, is ignored in every phase (`still`)
abbrev pub on_defect : Link → Defect → ℕ → Bool → Step
on_defect l defect control is_response = on_defect_in l.phase l defect control is_response

-- ---- the information transfer phase (X.25 2.4.5)

-- N(R) from V(A) to V(M)
abbrev pub is_valid : Link → ℕ → Bool
is_valid l nr = nat_le (ahead l.oldest nr) l.top

-- what N(R) acknowledges; where V(S) is passed, it becomes N(R) (X.25 2.4.5.5)
abbrev pub acknowledged : Link → ℕ → Link
acknowledged l nr = record l {
  oldest = nr;
  next = l.next - ahead l.oldest nr;
  top = l.top - ahead l.oldest nr;
  queue = drop (ahead l.oldest nr) l.queue;
  heard = true;
}

-- RR, RNR and REJ, where N(R) was taken. RNR makes the partner busy. REJ sets V(S) back to N(R), as a response with
-- F = 1 does, which ends the poll. A command with P = 1 is answered (X.25 2.4.5.6, 2.4.5.7, 2.4.5.9)
abbrev pub on_supervisory : Link → (busy back is_response pf : Bool) → Step
on_supervisory l busy back is_response pf = record {
  link = record l {
    busy = busy;
    next = if back || is_response && pf then 0 else l.next;
    polling = l.polling && not (is_response && pf);
    polls = if is_response && pf then 0 else l.polls;
    owed = l.owed && not (pf && not is_response);
  };
  frames = answers (pf && not is_response) l.expected;
  note = Note.Nothing;
  accepted = None;
  anew = false;
}

-- an I frame in sequence is accepted (X.25 2.4.5.2)
abbrev pub accept : Link → Bool → Octets → Step
accept l pf packet = record {
  link = record l { expected = (l.expected + 1) % 8; rejecting = false; owed = not pf };
  frames = answers pf ((l.expected + 1) % 8);
  note = Note.Nothing;
  accepted = Some packet;
  anew = false;
}

-- an I frame out of sequence is discarded, and the first such one answered by REJ (X.25 2.4.5.4)
abbrev pub discard : Link → Bool → Step
discard l pf = record {
  link = record l { rejecting = true; owed = l.owed && l.rejecting && not pf };
  frames = if l.rejecting then answers pf l.expected else response (Rej l.expected) pf ∷ [];
  note = Note.Nothing;
  accepted = None;
  anew = false;
}

abbrev pub on_information : Link → ℕ → Bool → Octets → Step
on_information l ns pf packet = if ns == l.expected then accept l pf packet else discard l pf

-- N(R) is tested first; one that acknowledges starts T1 anew
abbrev pub checked : Link → Content → (is_response pf : Bool) → ℕ → Step → Step
checked l content is_response pf nr taken =
    if is_valid l nr then record taken { anew = nat_lt 0 (ahead l.oldest nr) }
    else reject_number l content is_response pf

abbrev pub in_up : Role → Link → Content → (is_response pf : Bool) → Step
in_up role l (I ns nr packet) r p =
    checked l (I ns nr packet) r p nr (on_information (acknowledged l nr) ns p packet)
in_up role l (Rr nr) r p =
    checked l (Rr nr) r p nr (on_supervisory (acknowledged l nr) false false r p)
in_up role l (Rnr nr) r p =
    checked l (Rnr nr) r p nr (on_supervisory (acknowledged l nr) true false r p)
in_up role l (Rej nr) r p =
    checked l (Rej nr) r p nr (on_supervisory (acknowledged l nr) false true r p)
in_up role l Disc r p = take_disc l p
in_up role l Ua r p = still l
in_up Dte l _ r p = set_up l
in_up Dce l (Frmr report) r p = disconnect l
in_up Dce l _ r p = still l

-- ---- the other phases (X.25 2.4.4.1, 2.4.4.4, 2.4.7.3)

abbrev pub in_setting_up : Link → Content → (is_response pf : Bool) → Step
in_setting_up l Ua r p = if is_same p l.bit then come_up l else still l
in_setting_up l Disc r p = sends l (response Dm p)
in_setting_up l _ r p = still l

-- DISC and a command with P = 1 are answered by DM; DM or SABM begins an act at a DTE
abbrev pub in_down : Role → Link → Content → (is_response pf : Bool) → Step
in_down Dte l Sabm r p = set_up l
in_down Dte l Dm r p = set_up l
in_down role l Disc r p = sends l (response Dm p)
in_down role l _ r p = if p && not r then sends l (response Dm true) else still l

-- a DCE that sent FRMR sends it again at each command
abbrev pub in_rejecting : Link → Content → (is_response pf : Bool) → Step
in_rejecting l Disc r p = take_disc l p
in_rejecting l _ r p = if r then still l else sends l (response (Frmr l.report) p)

abbrev pub in_phase : Phase → Role → Link → Content → (is_response pf : Bool) → Step
in_phase Phase.Down role l content r p = in_down role l content r p
in_phase Phase.SettingUp role l content r p = in_setting_up l content r p
in_phase Phase.Up role l content r p = in_up role l content r p
in_phase Phase.Rejecting role l content r p = in_rejecting l content r p

-- a DCE takes a SABM in any phase
abbrev pub on_content : Content → Role → Link → (is_response pf : Bool) → Step
on_content Sabm Dce l r p = take_sabm l p
on_content content role l r p = in_phase l.phase role l content r p

-- a frame that could be read
abbrev pub on_frame : Link → FrameValue → Step
on_frame l frame = on_content frame.content l.role l frame.response frame.pf

-- ---- T1 (X.25 2.4.5.9, 2.4.8.1)

abbrev pub runs_in : Phase → Link → Bool
runs_in Phase.Down l = l.repeats
runs_in Phase.Up l = nat_lt 0 l.top || l.polling || l.busy
runs_in _ l = true

-- whether T1 runs
abbrev pub runs : Link → Bool
runs l = runs_in l.phase l

-- an RR command with P = 1
abbrev pub poll : Link → Step
poll l = record {
  link = record l { polling = true; polls = l.polls + 1 };
  frames = command (Rr l.expected) true ∷ [];
  note = Note.Nothing;
  accepted = None;
  anew = true;
}

abbrev pub expire_in : Phase → Link → Step
expire_in Phase.Down l = record (sends l (response Dm false)) { anew = true }
expire_in Phase.SettingUp l = record (sends l (command Sabm l.bit)) { anew = true }
expire_in Phase.Up l = if nat_le l.n2 l.polls then relink l else poll l
expire_in Phase.Rejecting l = record (sends l (response (Frmr l.report) false)) { anew = true }

-- an expiry of T1, which changes nothing where T1 does not run
abbrev pub on_t1 : Link → Step
on_t1 l = if runs l then expire_in l.phase l else still l

-- what a step that leads from this link makes of T1
abbrev pub timing : Link → Step → Timing
timing before step =
    if runs step.link then (if step.anew || not (runs before) then Timing.Start else Timing.Keep) else Timing.Stop

-- what two steps, one after the other, make of it
abbrev pub timing_after : Timing → Timing → Timing
timing_after first Timing.Keep = first
timing_after first second = second

-- ---- sending (X.25 2.4.5.1, 2.4.5.2.2)

-- I frames with these packets, from N(S) on
abbrev pub numbered : ℕ → ℕ → List Octets → List FrameValue
numbered ns nr [] = []
numbered ns nr (packet ∷ packets) =
    command (I (ns % 8) nr packet) false ∷ numbered (ns + 1) nr packets

-- the packets that may be sent now
abbrev pub sendable : Link → List Octets
sendable l = if l.heard && not l.polling && not l.busy then drop l.next l.queue else []

abbrev pub is_empty : List Octets → Bool
is_empty [] = true
is_empty _ = false

abbrev pub send_all : Link → List Octets → Step
send_all l [] = record {
  link = record l { owed = false };
  frames = if l.owed then response (Rr l.expected) false ∷ [] else [];
  note = Note.Nothing;
  accepted = None;
  anew = false;
}
send_all l (packet ∷ packets) = record {
  link = record l {
    next = length l.queue;
    top = if nat_le l.top (length l.queue) then length l.queue else l.top;
    owed = false;
  };
  frames = numbered (l.oldest + l.next) l.expected (packet ∷ packets);
  note = Note.Nothing;
  accepted = None;
  anew = false;
}

abbrev pub settle_in : Phase → Link → Step
settle_in Phase.Up l = send_all l (sendable l)
settle_in _ l = still l

-- the end of a node's event: the I frames that may go are sent, in order; where none goes, an acknowledgement that is
-- owed
abbrev pub settle : Link → Step
settle l = settle_in l.phase l

-- ---- packets, and what is known of a link

abbrev pub is_up : Phase → Bool
is_up Phase.Up = true
is_up _ = false

abbrev pub is_full : Link → Bool
is_full l = nat_le l.k (length l.queue)

-- whether a packet can be offered
abbrev pub can_offer : Link → Bool
can_offer l = is_up l.phase && not (is_full l)

-- a packet is offered; a refused one changes nothing
abbrev pub offer : Link → Octets → Link
offer l packet = record l { queue = if can_offer l then l.queue ++ packet ∷ [] else l.queue }

-- up, every packet acknowledged, every poll answered, every accepted packet told of
abbrev pub at_rest : Link → Bool
at_rest l = is_up l.phase && is_empty l.queue && not l.polling && not l.owed

abbrev pub first_phase : Bool → Phase
first_phase true = Phase.Up
first_phase false = Phase.Down

abbrev pub no_report : Report
no_report = record {
  control = 0;
  vs = 0;
  vr = 0;
  response = false;
  w = false;
  x = false;
  y = false;
  z = false;
}

-- a link as it is made, on a standing line or not
abbrev pub new : Role → LinkParams → Link
new role p = record {
  role = role;
  phase = first_phase p.standing;
  k = p.k;
  n2 = p.n2;
  info = p.info;
  oldest = 0;
  next = 0;
  top = 0;
  expected = 0;
  queue = [];
  heard = p.standing;
  owed = false;
  rejecting = false;
  busy = false;
  polling = false;
  polls = 0;
  bit = false;
  repeats = false;
  report = no_report;
}

-- the parameters of a link that is made anew at a restart of its node: its line does not stand then
abbrev pub params_anew : Link → LinkParams
params_anew l = record { k = l.k; n2 = l.n2; info = l.info; standing = false }

-- a link after a restart of its node
abbrev pub remade : Link → Link
remade l = new l.role (params_anew l)
