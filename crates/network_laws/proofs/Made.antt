-- What holds of a line of a network holds at the making, and has what it promises.
use Rattle.std.proofs.Common.{◌≡◌, ◌≢◌, ℕ, Bool, true, false, List, Some, refl, sym, ◌∙◌, subst}
use Rattle.std.specs.Prelude.{slice_get}
use Rattle.link_timers.specs.declared.role.Role.TheVariants.{Dte, Dce}
use Rattle.packet_end.specs.PacketEnd as end
use Rattle.packet_end.specs.Params.{AreParams}
use Rattle.packet_end.specs.declared.params.EndParams.{EndParams}
use Rattle.x25_pad.specs.declared.config.PadConfig.{PadConfig}
use Rattle.call_records.specs.Records.{RecordValue}
use Rattle.call_records.specs.Book.{made_book}
use Rattle.record_laws.specs.Books.Headline.{BookHolds}
use Rattle.node_laws.specs.LineRecords.Kept.{Setting, Kept}
use Rattle.node_laws.specs.Quiet.{IsQuiet}
use Rattle.node_laws.specs.NodeClauses.{first_line}
use Rattle.x25_pad.specs.Pad.{PadState}
use Rattle.node_laws.specs.Pads.Courses.{IsRecordOf, PadSends}
use Rattle.user_nodes.specs.Node.{NodeState, Pad, end_of, drained, frames_of}
use Rattle.frame_lines.specs.Lines.{Flights, LineService}
use Rattle.net_events.specs.OneLine.{LineState}
use Rattle.network_laws.specs.IsLine.{NodeHolds, line_of, IsLine}
use Rattle.net_config.specs.NetPlan.{NewDte, NewPad, NewHost, IsNewDte}
use Rattle.net_events.specs.Opening.{new_dte, new_dce, AreSent}
use Rattle.network_laws.specs.LineLaw.{made_line}
use Rattle.network_laws.proofs.Flying.{BothLanded, both_landed}
use Rattle.network_laws.proofs.Fitting.{end-drained}
use Rattle.node_laws.proofs.LineRecords.LineLaw as keeping_law
use Rattle.node_laws.proofs.Making as making_law
use Rattle.node_laws.proofs.QuietTurns as quiet_law
use Rattle.node_laws.proofs.Pads.Holding as pad_law

-- ---- the promise

-- records of a PAD, as a register has them
pub sends_line : (L : LineService) (s : LineState) → IsLine L s → (p : PadState) → s.dte ≡ Pad p → (place : ℕ) (records : List RecordValue)
    → ((i : ℕ) (r : RecordValue) → slice_get records i ≡ Some r → r.node ≡ place → IsRecordOf Dte s.book r) → PadSends Dte p place records
sends_line L s n p is place records of = pad_law.sent_law Dte p s.book (subst (λ (m : NodeState). NodeHolds Dte m s.book) is n.typed) place records of

pub typed_line : (L : LineService) (s : LineState) → IsLine L s → (p : PadState) → s.dte ≡ Pad p → PadSends Dte p s.dte_place s.book.records
typed_line L s n p is =
    sends_line L s n p is s.dte_place s.book.records (λ i r at node. record { number = i; own = r; there = at; node = node ∙ sym n.dte_node; same = refl })

pub book_line : (L : LineService) (s : LineState) → IsLine L s → L.faithful → BookHolds s.book
book_line L s n f = let k = n.kept f in keeping_law.holds_kept k.setting s.book (line_of s) k.kept

-- ---- the making

pub made-quiet : (d : NewDte) (l : EndParams) → IsQuiet (drained (new_dte d l))
made-quiet (NewPad params terminals) l = quiet_law.quiet-made-pad (record { line = l; params = params; terminals = terminals })
made-quiet NewHost l = quiet_law.quiet-made-host (record { role = Dte; line = l })

made-typed : (d : NewDte) (l : EndParams) (dte_node dce_node : ℕ) → (dte_node ≡ dce_node → ⊥) → AreParams l → IsNewDte d l
    → NodeHolds Dte (drained (new_dte d l)) (made_book dte_node dce_node l.channels l.standing)
made-typed (NewPad params terminals) l dte_node dce_node apart are is =
    let c : PadConfig = record { line = l; params = params; terminals = terminals } in
    let h = pad_law.made_kept Dte c dte_node dce_node l.channels apart (record { line = are; least = is.0; most = is.1; size = is.2 }) in
    record {
      typed = record { size = h.typed.size; book = h.typed.book; read = h.typed.read; unread = h.typed.unread; ports = h.typed.ports; alone = h.typed.alone; calls = h.typed.calls };
      occasions = h.occasions;
      led = h.led;
      said = h.said;
    }
made-typed NewHost l dte_node dce_node apart are is = tt

pub made-end : (d : NewDte) (l : EndParams) → end_of (new_dte d l) ≡ end.made Dte l
made-end (NewPad params terminals) l = refl
made-end NewHost l = refl

book-nodes : (dte_node dce_node channels : ℕ) (standing : Bool)
    → ((made_book dte_node dce_node channels standing).dte.node ≡ dte_node)
    × ((made_book dte_node dce_node channels standing).dce.node ≡ dce_node)
book-nodes dte_node dce_node channels true = (refl, refl)
book-nodes dte_node dce_node channels false = (refl, refl)

abbrev pub setting-of : (dte_place dce_place : ℕ) → EndParams → Setting
setting-of dte_place dce_place line = record { dte = line; dce = line; dte_node = dte_place; dce_node = dce_place }

-- the first frames of both ends
first-line : (dte_place dce_place : ℕ) (d : NewDte) (line : EndParams) (l : Flights)
    → (b : BothLanded (frames_of (new_dte d line)) (frames_of (new_dce line)) l)
    → line_of (made_line dte_place dce_place d line l) ≡ first_line (end_of (new_dte d line)) (end_of (new_dce line)) b.up b.down
first-line dte_place dce_place d line l b =
    λ i. record { dte = end-drained (new_dte d line) i; dce = end-drained (new_dce line) i; up = b.from_dte i; down = b.from_dce i }

-- the line is kept with its book
pub kept_made : (L : LineService) (dte_place dce_place : ℕ) (d : NewDte) (line : EndParams) (l : Flights) → AreParams line → AreSent L (new_dte d line) (new_dce line) l
    → Kept (setting-of dte_place dce_place line) (made_book dte_place dce_place line.channels line.standing) (line_of (made_line dte_place dce_place d line l))
kept_made L dte_place dce_place d line l params sent =
    let s : Setting = setting-of dte_place dce_place line in
    let b = both_landed L (new_dte d line) (new_dce line) l sent in
    subst (Kept s (made_book dte_place dce_place line.channels line.standing)) (sym (first-line dte_place dce_place d line l b))
    (making_law.making_keeps s (new_dte d line) (new_dce line) b.up b.down
    (record { dte = params; dce = params; alike = record { channels = refl; flow = refl; standing = refl } }) (made-end d line, refl)).kept

pub made_lines : (L : LineService) (dte_place dce_place : ℕ) (d : NewDte) (line : EndParams) (l : Flights)
    → dte_place ≢ dce_place → AreParams line → IsNewDte d line → (L.faithful → AreSent L (new_dte d line) (new_dce line) l)
    → IsLine L (made_line dte_place dce_place d line l)
made_lines L dte_place dce_place d line l apart params is sent =
    let nodes = book-nodes dte_place dce_place line.channels line.standing in
    record {
      apart = apart;
      dte_node = nodes.0;
      dce_node = nodes.1;
      host = refl;
      quiet = record { dte = made-quiet d line; dce = quiet_law.quiet-made-host (record { role = Dce; line = line }) };
      typed = made-typed d line dte_place dce_place apart params is;
      kept = λ f. record { setting = setting-of dte_place dce_place line; kept = kept_made L dte_place dce_place d line l params (sent f) };
    }
