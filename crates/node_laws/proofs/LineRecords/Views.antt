-- What is kept of a line and its book, as the end of a role sees it.
use Rattle.std.specs.Prelude.{◌≡◌, ℕ, ◌≤◌, List}
use Rattle.std.proofs.Common.{sym, ap, subst}
use Rattle.link_timers.specs.declared.role.Role.{Role}
use Rattle.link_timers.specs.declared.role.Role.TheVariants.{Dte, Dce}
use Rattle.link_timers.specs.Role.{other_of}
use Rattle.lapb.specs.Machine.{Octets}
use Rattle.lapb.specs.World as links
use Rattle.packet_laws.specs.LayerLine as layers
use Rattle.packet_laws.specs.LayerLine.{turned}
use Rattle.packet_end.specs.PacketEnd.{PacketEnd}
use Rattle.node_laws.specs.Lines.NodeLine.{Line}
use Rattle.node_laws.specs.Lines.Joint.{Joint, JointAt, session_of}
use Rattle.node_laws.proofs.Lines.Holding.{turned_joint}
use Rattle.call_records.specs.Book.{Book}
use Rattle.record_laws.specs.Books.Told.{World, after_all}
use Rattle.node_laws.specs.LineRecords.Kept.{Setting, IsSetting, Kept, beginning, end_at, coming_to}
use Rattle.packet_layer.specs.Layer.{Layer}
use Rattle.node_laws.proofs.LineRecords.WaitsInTransfer.{AllWaitInTransfer, BothWaitInTransfer, moves_waits, start_waits}
use Rattle.node_laws.proofs.LineRecords.MovesFromOneEnd.{Reaches, world_at}

pub record KeptAt (s : Setting) (b : Book) (role : Role) (me you : PacketEnd) (going coming : List Octets) : Type 0 where
  pub setting : IsSetting s
  pub world : links.World
  pub line : layers.Line
  pub top_mine : ℕ
  pub top_yours : ℕ
  pub reaches : Reaches (beginning s) role line b top_mine top_yours
  pub joint : JointAt role world line me you going coming
  pub mine : top_mine ≤ session_of role world
  pub yours : top_yours ≤ session_of (other_of role) world

-- a line as the end of a role sees it
abbrev pub line_of : Role → (me you : PacketEnd) → (going coming : List Octets) → Line
line_of Dte me you going coming = record { dte = me; dce = you; up = going; down = coming }
line_of Dce me you going coming = record { dte = you; dce = me; up = coming; down = going }

abbrev pub KeptOf : Setting → Book → Role → Line → Type 0
KeptOf s b role l = KeptAt s b role (end_at role l) (end_at (other_of role) l) (coming_to (other_of role) l) (coming_to role l)

pub seen : (s : Setting) (b : Book) (role : Role) (l : Line) → Kept s b l → KeptOf s b role l
seen s b Dte l k =
    let v : World = after_all k.moves (beginning s) in
    record {
      setting = k.setting;
      world = k.world;
      line = v.line;
      top_mine = v.top_me;
      top_yours = v.top_you;
      reaches = record { moves = k.moves; allowed = k.allowed; ends = ap (λ (x : Book). record v { book = x }) k.book };
      joint = k.joint;
      mine = k.dte_top;
      yours = k.dce_top;
    }
seen s b Dce l k =
    let v : World = after_all k.moves (beginning s) in
    record {
      setting = k.setting;
      world = k.world;
      line = turned v.line;
      top_mine = v.top_you;
      top_yours = v.top_me;
      reaches = record { moves = k.moves; allowed = k.allowed; ends = ap (λ (x : Book). record v { book = x }) k.book };
      joint = turned_joint Dte k.world v.line l.dte l.dce l.up l.down k.joint;
      mine = k.dce_top;
      yours = k.dte_top;
    }

pub unseen : (s : Setting) (b : Book) (role : Role) (me you : PacketEnd) (going coming : List Octets) → KeptAt s b role me you going coming → Kept s b (line_of role me you going coming)
unseen s b Dte me you going coming k =
    let w : World = world_at Dte k.line b k.top_mine k.top_yours in
    let l : Line = line_of Dte me you going coming in
    let e : w ≡ after_all k.reaches.moves (beginning s) = sym k.reaches.ends in
    record {
      setting = k.setting;
      world = k.world;
      moves = k.reaches.moves;
      allowed = k.reaches.allowed;
      joint = subst (λ (v : World). Joint l k.world v.line) e k.joint;
      book = ap (λ (v : World). v.book) k.reaches.ends;
      dte_top = subst (λ (v : World). v.top_me ≤ session_of Dte k.world) e k.mine;
      dce_top = subst (λ (v : World). v.top_you ≤ session_of Dce k.world) e k.yours;
    }
unseen s b Dce me you going coming k =
    let w : World = world_at Dce k.line b k.top_mine k.top_yours in
    let l : Line = line_of Dce me you going coming in
    let e : w ≡ after_all k.reaches.moves (beginning s) = sym k.reaches.ends in
    record {
      setting = k.setting;
      world = k.world;
      moves = k.reaches.moves;
      allowed = k.reaches.allowed;
      joint = subst (λ (v : World). Joint l k.world v.line) e (turned_joint Dce k.world k.line me you going coming k.joint);
      book = ap (λ (v : World). v.book) k.reaches.ends;
      dte_top = subst (λ (v : World). v.top_me ≤ session_of Dte k.world) e k.yours;
      dce_top = subst (λ (v : World). v.top_you ≤ session_of Dce k.world) e k.mine;
    }

-- outside data transfer nothing waits to be taken at the end
mine_waits : (role : Role) (v : layers.Line) (b : Book) (mine yours : ℕ) → BothWaitInTransfer (world_at role v b mine yours).line → AllWaitInTransfer v.me.layer
mine_waits Dte v b mine yours h = h.0
mine_waits Dce v b mine yours h = h.1

pub kept_waits : (s : Setting) (b : Book) (role : Role) (me you : PacketEnd) (going coming : List Octets) → KeptAt s b role me you going coming → AllWaitInTransfer me.layer
kept_waits s b role me you going coming k =
    subst (λ (l : Layer). AllWaitInTransfer l) k.joint.mine.layer
    (mine_waits role k.line b k.top_mine k.top_yours
    (subst (λ (v : World). BothWaitInTransfer v.line) k.reaches.ends (moves_waits k.reaches.moves (beginning s) (start_waits s.dte.channels s.dte.flow s.dte.standing))))
