-- What the code's frames say, apart from where their information field lies.
use Rattle.std.specs.Prelude.{Result, Ok, Err}
use Rattle.frame_codec.specs.declared.fault.FrameFault.{FrameFault}
use Rattle.frame_codec.specs.declared.frame.Frame.{Frame}
use Rattle.frame_codec.specs.declared.frame.FrameKind.{FrameKind}
use Rattle.frame_codec.specs.declared.frame.FrameKind.TheVariants as kinds
use Rattle.frame_codec.specs.declared.frame.Rejection.{Rejection}
use Rattle.frame_codec.specs.Frame.{
  Report,
  Content,
  I,
  Rr,
  Rnr,
  Rej,
  Sabm,
  Disc,
  Dm,
  Ua,
  Frmr,
  FrameValue,
}

abbrev pub report_of : Rejection → Report
report_of r = record {
  control = r.control;
  vs = r.vs;
  vr = r.vr;
  response = r.response;
  w = r.w;
  x = r.x;
  y
      = r.y;
  z = r.z;
}

abbrev pub content_of : FrameKind → Content
content_of (kinds.I ns nr information) = I ns nr information.now
content_of (kinds.Rr nr) = Rr nr
content_of (kinds.Rnr nr) = Rnr nr
content_of (kinds.Rej nr) = Rej nr
content_of kinds.Sabm = Sabm
content_of kinds.Disc = Disc
content_of kinds.Dm = Dm
content_of kinds.Ua = Ua
content_of (kinds.Frmr report) = Frmr (report_of report)

abbrev pub value_of : Frame → FrameValue
value_of f = record { content = content_of f.kind; response = f.response; pf = f.pf }

-- the kind that was read, or the fault
abbrev pub kind_read : Result FrameKind FrameFault → Result Content FrameFault
kind_read (Ok kind) = Ok (content_of kind)
kind_read (Err fault) = Err fault

-- the frame that was read, or the fault
abbrev pub frame_read : Result Frame FrameFault → Result FrameValue FrameFault
frame_read (Ok frame) = Ok (value_of frame)
frame_read (Err fault) = Err fault
