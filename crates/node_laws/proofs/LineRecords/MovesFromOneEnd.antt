-- Moves at two packet layers and their book, one after the other, seen from one of the two ends.
use Rattle.std.specs.Prelude.{◌≡◌, ℕ, List, [], ◌∷◌, ◌++◌}
use Rattle.std.proofs.Common.{refl, sym, ap, subst, ◌∙◌}
use Rattle.link_timers.specs.declared.role.Role.{Role}
use Rattle.link_timers.specs.declared.role.Role.TheVariants.{Dte, Dce}
use Rattle.pad_editing.specs.Edited.{Step}
use Rattle.packet_laws.specs.LayerLine as layers
use Rattle.packet_laws.specs.LayerLine.{Event, turned, happens}
use Rattle.packet_laws.specs.LayerLine.Happening.{Here, There}
use Rattle.node_laws.specs.Lines.Events.{after_here}
use Rattle.call_records.specs.Book.{Book, edits}
use Rattle.record_laws.specs.Books.Told.{World, Move, written, top_after, after_move, after_all, InOrder, IsAllowed, AreAllowed}
use Rattle.record_laws.specs.Books.Told.Move.{Happens, Edits}

-- ---- lists of moves

after_append : (before more : List Move) (w : World) → after_all (before ++ more) w ≡ after_all more (after_all before w)
after_append [] more w = refl
after_append (m ∷ before) more w = after_append before more (after_move m w)

allowed_append : (before more : List Move) (w : World) → AreAllowed before w → AreAllowed more (after_all before w) → AreAllowed (before ++ more) w
allowed_append [] more w a c = c
allowed_append (m ∷ before) more w a c = (a.0, allowed_append before more (after_move m w) a.1 c)

-- ---- as the end of a role sees it, whose layer is `me`

abbrev pub world_at : Role → layers.Line → Book → (mine yours : ℕ) → World
world_at Dte v b mine yours = record { line = v; book = b; top_me = mine; top_you = yours }
world_at Dce v b mine yours = record { line = turned v; book = b; top_me = yours; top_you = mine }

abbrev pub move_at : Role → Event → Move
move_at Dte event = Happens (Here event)
move_at Dce event = Happens (There event)

moved : (role : Role) (event : Event) (v : layers.Line) (b : Book) (mine yours : ℕ) →
    after_move (move_at role event) (world_at role v b mine yours) ≡ world_at role (happens event v) (written role event v b) (top_after event v mine) yours
moved Dte event v b mine yours = refl
moved Dce event v b mine yours = refl

may_move : (role : Role) (event : Event) (v : layers.Line) (b : Book) (mine yours : ℕ) → InOrder event v.me.session mine yours → IsAllowed (move_at role event) (world_at role v b mine yours)
may_move Dte event v b mine yours h = h
may_move Dce event v b mine yours h = h

edited : (role : Role) (at : Role) (channel : ℕ) (step : Step) (v : layers.Line) (b : Book) (mine yours : ℕ) →
    after_move (Edits at channel step) (world_at role v b mine yours) ≡ world_at role v (edits at channel step b) mine yours
edited Dte at channel step v b mine yours = refl
edited Dce at channel step v b mine yours = refl

may_edit : (role : Role) (at : Role) (channel : ℕ) (step : Step) (v : layers.Line) (b : Book) (mine yours : ℕ) → IsAllowed (Edits at channel step) (world_at role v b mine yours)
may_edit role at channel step v b mine yours = tt

-- ---- from a start

pub record Reaches (start : World) (role : Role) (v : layers.Line) (b : Book) (mine yours : ℕ) : Type 0 where
  pub moves : List Move
  pub allowed : AreAllowed moves start
  pub ends : after_all moves start ≡ world_at role v b mine yours

one_further : (start : World) (role : Role) (v : layers.Line) (b : Book) (mine yours : ℕ) (m : Move) → (r : Reaches start role v b mine yours) → IsAllowed m (world_at role v b mine yours) →
    AreAllowed (r.moves ++ m ∷ []) start × (after_all (r.moves ++ m ∷ []) start ≡ after_move m (world_at role v b mine yours))
one_further start role v b mine yours m r a = (
  allowed_append r.moves (m ∷ []) start r.allowed (subst (λ (w : World). IsAllowed m w) (sym r.ends) a, tt),
  after_append r.moves (m ∷ []) start ∙ ap (λ (w : World). after_move m w) r.ends,
)

pub one_event : (start : World) (role : Role) (v : layers.Line) (b : Book) (mine yours : ℕ) (event : Event) → Reaches start role v b mine yours → InOrder event v.me.session mine yours →
    Reaches start role (happens event v) (written role event v b) (top_after event v mine) yours
one_event start role v b mine yours event r h =
    let o = one_further start role v b mine yours (move_at role event) r (may_move role event v b mine yours h) in
    record { moves = r.moves ++ move_at role event ∷ []; allowed = o.0; ends = o.1 ∙ moved role event v b mine yours }

pub one_edit : (start : World) (role : Role) (v : layers.Line) (b : Book) (mine yours : ℕ) (at : Role) (channel : ℕ) (step : Step) → Reaches start role v b mine yours →
    Reaches start role v (edits at channel step b) mine yours
one_edit start role v b mine yours at channel step r =
    let o = one_further start role v b mine yours (Edits at channel step) r (may_edit role at channel step v b mine yours) in
    record { moves = r.moves ++ Edits at channel step ∷ []; allowed = o.0; ends = o.1 ∙ edited role at channel step v b mine yours }

-- ---- events of one end

abbrev pub written_all : Role → List Event → layers.Line → Book → Book
written_all role [] v b = b
written_all role (event ∷ events) v b = written_all role events (happens event v) (written role event v b)

abbrev pub tops_after : List Event → layers.Line → ℕ → ℕ
tops_after [] v top = top
tops_after (event ∷ events) v top = tops_after events (happens event v) (top_after event v top)

abbrev pub AllInOrder : List Event → layers.Line → (mine yours : ℕ) → Type 0
AllInOrder [] v mine yours = Unit {0}
AllInOrder (event ∷ events) v mine yours = InOrder event v.me.session mine yours × AllInOrder events (happens event v) (top_after event v mine) yours

pub all_events : (start : World) (role : Role) (events : List Event) (v : layers.Line) (b : Book) (mine yours : ℕ) → Reaches start role v b mine yours → AllInOrder events v mine yours →
    Reaches start role (after_here events v) (written_all role events v b) (tops_after events v mine) yours
all_events start role [] v b mine yours r h = r
all_events start role (event ∷ events) v b mine yours r h =
    all_events start role events (happens event v) (written role event v b) (top_after event v mine) yours (one_event start role v b mine yours event r h.0) h.1
