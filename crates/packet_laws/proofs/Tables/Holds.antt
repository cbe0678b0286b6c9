-- The clauses of the law, from the cases.
use Rattle.std.proofs.Common.{◌≡◌, ℕ, refl, sym, ap, subst, ◌∙◌}
use Rattle.std.specs.Prelude.{◌↔◌, Option, Some, None, IfSome, IsSome}
use Rattle.reset_restart.specs.declared.reset.ResetEvent.TheVariants.{UserReset}
use Rattle.reset_restart.specs.Restart.{restart_step}
use Rattle.call_states.specs.declared.table.UserAct.{UserAct}
use Rattle.call_states.specs.declared.table.UserAct.TheVariants as acts
use Rattle.data_transfer.specs.Packets.Received.{Whole}
use Rattle.packet_channel.specs.Channel.{Channel, Step, Request, requested}
use Rattle.packet_layer.specs.Layer.{Layer, channel_of, after_step, on_found, on_packet, request, placing, placed_on, refusal_at}
use Rattle.packet_laws.specs.Tables.States.{restart_state, type_of, channel_named, body_read, packet_asked}
use Rattle.packet_laws.specs.Tables.Rows.{act_row, call_row, reset_row, reset_row_of}
use Rattle.packet_laws.specs.Tables.Follows.{FollowsCall, FollowsReset, FollowsRestart}
use Rattle.packet_laws.specs.Tables.TableClauses.{CallPackets, DataPackets, ResetPackets, CallsPlaced, CallActs, ResetActs, RestartPackets, RestartUnreadable, ActsByCallTable}
use Rattle.packet_laws.specs.Tables.Notes.{TellsTransfer}
use Rattle.packet_laws.proofs.Tables.Notes.{transfer_tells}
use Rattle.packet_laws.proofs.Tables.Channels.{of_some, comes_step, step_by}
use Rattle.packet_laws.proofs.Tables.Calls.{of_followed, followed}
use Rattle.packet_laws.proofs.Tables.Resets.{reset_at, left_at, of_left, Heeds}
use Rattle.packet_laws.proofs.Tables.Acts.{ActAt, accept_at, clear_at, reset_act_at, given_is, place_at}
use Rattle.packet_laws.proofs.Tables.Restarts.{restart_at, unreadable_at}

pub call_packets : CallPackets
call_packets l r ch row at none e ne =
    (step_by l.role l.flow ch r, comes_step l r ch at, of_followed (reset_row l.role ch r) (call_row l.role ch r) row (λ x. FollowsCall l.role (channel_named r) (body_read r) ch x (step_by l.role l.flow ch r)) none e ne (followed l.role l.flow ch r))

pub reset_packets : ResetPackets
reset_packets l r ch row at e =
    (step_by l.role l.flow ch r, comes_step l r ch at, of_some (reset_row l.role ch r) row (λ x. FollowsReset l.role (channel_named r) (body_read r) ch x (step_by l.role l.flow ch r)) e (reset_at l.role l.flow ch r))

pub data_packets : DataPackets
data_packets l p ch row at none e n =
    let done = step_by l.role l.flow ch (Whole p) in
    let heeds = of_left (reset_row l.role ch (Whole p)) (call_row l.role ch (Whole p)) row (λ x. Heeds l.role l.flow p.channel ch p.body x) none e n (left_at l.role l.flow ch p.channel p.body) in
    let tells = subst (λ (st : Step). TellsTransfer l.flow p.channel ch.traffic p.body st) (sym heeds.0) (transfer_tells l.role l.flow p.channel ch p.body) in
    (done, comes_step l (Whole p) ch at, (heeds.0, heeds.1, tells))

found_request : (l : Layer) (c : ℕ) (ch : Channel) (r : Request) → channel_of l c ≡ Some ch → request l c r ≡ after_step l c (requested l.role l.flow ch r)
found_request l c ch r found = ap (λ (o : Option Channel). on_found l c (λ x. requested l.role l.flow x r) o) found

act_holds : (l : Layer) (c : ℕ) (ch : Channel) (r : Request) (act : UserAct) → channel_of l c ≡ Some ch → ActAt l.role l.flow c ch r act → ActsByCallTable l c ch r act
act_holds l c ch r act found h = record {
  allowed = subst (λ (o : Option Channel). (refusal_at l.role l.flow r o ≡ None) ↔ IsSome (act_row l.role ch act)) (sym found) h.allowed;
  follows = λ row e. let q = of_some (act_row l.role ch act) row (λ x. FollowsCall l.role c None ch x (requested l.role l.flow ch r) × ((requested l.role l.flow ch r).owes ≡ packet_asked r)) e h.follows in
      (requested l.role l.flow ch r, found_request l c ch r found, q.0, q.1);
}

act_of : (l : Layer) (c : ℕ) (ch : Channel) (r : Request) (given act : UserAct) → Some given ≡ Some act → channel_of l c ≡ Some ch → ActAt l.role l.flow c ch r given → ActsByCallTable l c ch r act
act_of l c ch r given act e found h = let same : given ≡ act = cc in subst (λ (a : UserAct). ActsByCallTable l c ch r a) same (act_holds l c ch r given found h)

pub call_acts : CallActs
call_acts l c ch Request.Accept act found e = act_of l c ch Request.Accept acts.Accept act e found (accept_at l.role l.flow c ch.state ch.resetting ch.owed ch.traffic)
call_acts l c ch (Request.Clearing cause diagnostic) act found e = act_of l c ch (Request.Clearing cause diagnostic) acts.Clear act e found (clear_at l.role l.flow c ch.state ch.resetting ch.owed ch.traffic cause diagnostic)
call_acts l c ch _ act found e = absurd (cc)

pub reset_acts : ResetActs
reset_acts l c ch cause diagnostic found =
    let r : Request = Request.Resetting cause diagnostic in
    let h = reset_act_at l.role l.flow c ch cause diagnostic in
    record {
      allowed = subst (λ (o : Option Channel). (refusal_at l.role l.flow r o ≡ None) ↔ IsSome (reset_row_of l.role ch UserReset)) (sym found) h.allowed;
      follows = λ row e. let q = of_some (reset_row_of l.role ch UserReset) row (λ x. FollowsReset l.role c None ch x (requested l.role l.flow ch r) × ((requested l.role l.flow ch r).owes ≡ packet_asked r)) e h.follows in
          (requested l.role l.flow ch r, found_request l c ch r found, q.0, q.1);
    }

pub calls_placed : CallsPlaced
calls_placed l parts c given =
    let free = given_is l l.phase c given in
    let placed = place_at l.role c parts free.0 free.2 in
    (free.0, placed.0, placing parts free.0, free.1, placed.1, ap (λ (o : Option ℕ). placed_on l parts o) given ∙ ap (λ (o : Option Channel). on_found l c (λ x. placing parts x) o) free.1, placed.2, refl)

pub restart_packets : RestartPackets
restart_packets l p state row h e1 e2 =
    of_some (restart_step l.role state (type_of p.body)) row (λ x. FollowsRestart l x (on_packet l (Whole p))) e2
    (of_some (restart_state l.role l.phase) state (λ s. IfSome (restart_step l.role s (type_of p.body)) (λ x. FollowsRestart l x (on_packet l (Whole p)))) e1 (restart_at l p h))

pub restart_unreadable : RestartUnreadable
restart_unreadable l r kind state row none h e1 e2 =
    of_some (restart_step l.role state kind) row (λ x. FollowsRestart l x (on_packet l r)) e2
    (of_some (restart_state l.role l.phase) state (λ s. IfSome (restart_step l.role s kind) (λ x. FollowsRestart l x (on_packet l r))) e1 (unreadable_at l r kind none h))
