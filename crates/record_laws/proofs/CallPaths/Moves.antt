-- The calls of a line's book hold, whatever happens on the line.
use Rattle.std.proofs.Common.{◌≡◌, ℕ, zero, suc, Bool, true, false, List, [], ◌∷◌, Option, Some, None, refl, sym, ap, subst, ◌∙◌}
use Rattle.std.specs.Prelude.{slice_get, map}
use Rattle.std.proofs.lemmas.Option.{none-some, same_Some}
use Rattle.link_timers.specs.declared.role.Role.{Role}
use Rattle.link_timers.specs.declared.role.Role.TheVariants.{Dte, Dce}
use Rattle.link_timers.specs.Role.{other_of}
use Rattle.data_transfer.specs.Packets.{Note}
use Rattle.data_transfer.specs.Packets.Note.{Incoming, Connected, Closed, WasReset, InterruptConfirmed, Covered}
use Rattle.packet_layer.specs.Layer.{channel_given}
use Rattle.packet_laws.specs.LayerLine.{Line, Event, turned}
use Rattle.packet_laws.specs.LayerLine.Event.{Up, Down, Calls, Requests, Expires, Offers, Arrives}
use Rattle.packet_laws.specs.LayerLine.Happening.{Here, There}
use Rattle.call_records.specs.Book.{Book, slot_at, told}
use Rattle.record_laws.specs.Books.Told.{World, Move, came_by, all_came_by, placed_by, callers_by, callers_after, all_callers, made_callers, notes_of, after_move, after_all, start}
use Rattle.record_laws.specs.Books.Told.Move.{Happens, Edits}
use Rattle.record_laws.specs.Books.Headline.{BookHolds, CallsHold}
use Rattle.record_laws.proofs.Books.Basics.{map_pushed}
use Rattle.record_laws.proofs.Books.BookHolds.{book_holds, calls_hold, callers_recorded}
use Rattle.record_laws.proofs.Books.Rows.{made, incoming, small}
use Rattle.record_laws.specs.CallPaths.World.{Origin, placing, coming, noted, all_noted, with_placed, all_traced}
use Rattle.record_laws.specs.CallPaths.Seen.{CameFrom}
use Rattle.record_laws.specs.CallPaths.Lines.{BookCallsHold, BookCallsLaw, RecordedLaw, WrittenLaw, writes_of, traced_by, traced_by_all, made_origins}

pub written_so : WrittenLaw
written_so role (Up s) w b = refl
written_so role Down w b = refl
written_so role (Calls parts) w b = refl
written_so role (Requests channel r) w b = refl
written_so role (Expires t) w b = refl
written_so role Offers w b = refl
written_so role Arrives w b = refl

-- ---- the callers are those of the origins

abbrev callers : List Origin → List (Option ℕ)
callers os = map (λ (o : Origin). o.caller) os

one_noted : (line : ℕ) (role : Role) (note : Note) (b : Book) (os : List Origin) → callers (noted line role note b os) ≡ came_by role note b (callers os)
one_noted line role (Incoming c parts) b os = map_pushed (λ (o : Origin). o.caller) os (coming line role (slot_at (other_of role) c b).placed)
one_noted line role (Connected c) b os = refl
one_noted line role (Closed c cause diagnostic reason) b os = refl
one_noted line role (WasReset c cause diagnostic reason) b os = refl
one_noted line role (InterruptConfirmed c) b os = refl
one_noted line role (Covered c count) b os = refl

notes_noted : (line : ℕ) (role : Role) (notes : List Note) (b : Book) (os : List Origin) → callers (all_noted line role notes b os) ≡ all_came_by role notes b (callers os)
notes_noted line role [] b os = refl
notes_noted line role (note ∷ notes) b os =
    notes_noted line role notes (told role note b) (noted line role note b os) ∙ ap (λ (l : List (Option ℕ)). all_came_by role notes (told role note b) l) (one_noted line role note b os)

one_placed : (line : ℕ) (role : Role) (channel : Option ℕ) (os : List Origin) → callers (with_placed line role channel os) ≡ placed_by channel (callers os)
one_placed line role None os = refl
one_placed line role (Some channel) os = map_pushed (λ (o : Origin). o.caller) os (placing line role)

by_event : (line : ℕ) (role : Role) (event : Event) (w : Line) (b : Book) (os : List Origin) → callers (all_traced line role (writes_of event w) b os) ≡ callers_by role event w b (callers os)
by_event line role (Up s) w b os = notes_noted line role (notes_of (Up s) w) b os
by_event line role Down w b os = notes_noted line role (notes_of Down w) b os
by_event line role (Calls parts) w b os = one_placed line role (channel_given w.me.layer w.me.layer.phase) os
by_event line role (Requests channel r) w b os = refl
by_event line role (Expires t) w b os = notes_noted line role (notes_of (Expires t) w) b os
by_event line role Offers w b os = refl
by_event line role Arrives w b os = notes_noted line role (notes_of Arrives w) b os

by_move : (line : ℕ) (m : Move) (v : World) (os : List Origin) → callers (traced_by line m v os) ≡ callers_after m v (callers os)
by_move line (Happens (Here event)) v os = by_event line Dte event v.line v.book os
by_move line (Happens (There event)) v os = by_event line Dce event (turned v.line) v.book os
by_move line (Edits role channel step) v os = refl

by_moves : (line : ℕ) (ms : List Move) (v : World) (os : List Origin) → callers (traced_by_all line ms v os) ≡ all_callers ms v (callers os)
by_moves line [] v os = refl
by_moves line (m ∷ ms) v os = by_moves line ms (after_move m v) (traced_by line m v os) ∙ ap (λ (l : List (Option ℕ)). all_callers ms (after_move m v) l) (by_move line m v os)

at_making : (line : ℕ) (standing : Bool) → callers (made_origins line standing) ≡ made_callers standing
at_making line true = refl
at_making line false = refl

-- ---- the law

caller_there : (os : List Origin) (a : ℕ) (o : Origin) → slice_get os a ≡ Some o → slice_get (callers os) a ≡ Some o.caller
caller_there [] a o e = absurd (none-some o e)
caller_there (p ∷ os) zero o e = ap (λ (q : Origin). Some q.caller) (same_Some p o e)
caller_there (p ∷ os) (suc a) o e = caller_there os a o e

came_there : (os : List Origin) (a x : ℕ) → CameFrom os a x → slice_get (callers os) a ≡ Some (Some x)
came_there os a x c = caller_there os a c.origin c.there ∙ ap (λ (o : Option ℕ). Some o) c.came

calls_of : (b : Book) (os : List Origin) → BookHolds b → CallsHold b (callers os) → BookCallsHold b os
calls_of b os h c = record {
  holds = h;
  came = λ a x f. c.came a x (came_there os a x f);
  once = λ a d x f g. c.once a d x (came_there os a x f) (came_there os d x g);
}

pub book_calls : BookCallsLaw
book_calls line dte_node dce_node channels flow standing some small ms allowed =
    let v : World = start dte_node dce_node channels flow standing in
    let os : List Origin = traced_by_all line ms v (made_origins line standing) in
    calls_of (after_all ms v).book os (book_holds dte_node dce_node channels flow standing some small ms allowed)
    (subst (λ (l : List (Option ℕ)). CallsHold (after_all ms v).book l)
    (sym (by_moves line ms v (made_origins line standing) ∙ ap (λ (l : List (Option ℕ)). all_callers ms v l) (at_making line standing)))
    (calls_hold dte_node dce_node channels flow standing some small ms allowed))

-- ---- the callers are those of the records

pub recorded_calls : RecordedLaw
recorded_calls dte_node dce_node channels flow standing some small ms allowed own own_recorded =
    let v : World = start dte_node dce_node channels flow standing in
    calls_of (after_all ms v).book own (book_holds dte_node dce_node channels flow standing some small ms allowed)
    (subst (λ (l : List (Option ℕ)). CallsHold (after_all ms v).book l)
    (sym (callers_recorded dte_node dce_node channels flow standing some small ms allowed) ∙ sym own_recorded)
    (calls_hold dte_node dce_node channels flow standing some small ms allowed))

-- ---- a call that came in and is not accepted yet

origins_are : traced_by_all 0 incoming made [] ≡ placing 0 Dte ∷ coming 0 Dce (Some 0) ∷ []
origins_are = refl
