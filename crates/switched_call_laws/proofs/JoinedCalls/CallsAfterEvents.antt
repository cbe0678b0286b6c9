-- Over whole events of a switch each joined call stands or is over.
use Rattle.std.specs.Prelude.{◌≡◌, ℕ, zero, suc, ◌*◌, ◌⊎◌, true, List, [], ◌∷◌, ◌++◌, length, map, slice_get, Option, Some, None}
use Rattle.std.proofs.Common.{inl, inr, refl, sym, ap, subst, ◌∙◌}
use Rattle.std.proofs.lemmas.Option.{none-some, same_Some}
use Rattle.link_timers.specs.declared.role.Role.TheVariants.{Dce}
use Rattle.packet_layer.specs.Layer.{Layer, link_down, closing_notes}
use Rattle.packet_laws.specs.Readable.{Every}
use Rattle.packet_end.specs.PacketEnd.{begun}
use Rattle.address_routes.specs.Routes.{RouteMap}
use Rattle.switch_joins.specs.declared.channels.SwitchChannel.{SwitchChannel}
use Rattle.switch_joins.specs.Joins.{Joined}
use Rattle.switch_lines.specs.Lines.{SwitchLine, changed}
use Rattle.switch_lines.specs.Switch.{Switch, with_end, acted, to_relink, relinked_at, all_relinked, lines_first, rounds, finished, all_begun, quieted, notes_of, without_notes, heed_all, on_frame, on_expiry, relink}
use Rattle.switch_laws.specs.World.{World, Act, layers_of, after_acts}
use Rattle.switch_laws.specs.Joined.{IsSwitch, Becomes}
use Rattle.switch_laws.specs.Steps.{Step, Happening, does, lines_after, lines_after_all, on_line, happening_acts, acts_of, acts_of_all}
use Rattle.switch_laws.specs.Steps.Happening.{Brings, RunsOut, Relinks}
use Rattle.switch_laws.specs.Steps.Step.{Begins, Settles, Happens}
use Rattle.switch_laws.specs.EventSteps.{heed_all_steps, acted_steps, relinked_steps, all_relinked_steps, rounds_steps, finished_steps, event_steps}
use Rattle.switch_laws.proofs.Leading.{rounds_leads, acted_leads}
use Rattle.switch_laws.proofs.Finishing.{begun_right}
use Rattle.switch_laws.proofs.Turning.{EndEffect, acted_right, relinked_effect, got_changed, changed_none}
use Rattle.switch_laws.proofs.JoinsAtEventEnd.{layers_on_ends}
use Rattle.switched_call_laws.specs.SwitchRecords.Written.{Books, books_after_all, HaveRecords}
use Rattle.switched_call_laws.proofs.SwitchRecords.Acts.{acts_write}
use Rattle.std.specs.Prelude.{◌+◌, is_some}
use Rattle.std.proofs.Common.{ap₂, true≢false, arith}
use Rattle.link_timers.specs.declared.role.Role.{Role}
use Rattle.data_transfer.specs.Packets.{Note, Reason}
use Rattle.data_transfer.specs.Packets.Note.{Incoming, Connected, Closed, WasReset, InterruptConfirmed, Covered}
use Rattle.data_transfer.specs.Packets.Reason.{LinkLost}
use Rattle.packet_channel.specs.Channel.{Channel, had_call}
use Rattle.packet_layer.specs.Layer.{channel_of}
use Rattle.call_records.specs.Records.{RecordValue}
use Rattle.call_records.specs.Book.{Book, slot_at, all_told, closes}
use Rattle.call_records.specs.Writes.Write.{Told}
use Rattle.record_laws.proofs.Books.Writing.{closed_all}
use Rattle.switch_lines.specs.NewJoins.{joins_acted}
use Rattle.switch_lines.specs.Switch.{elapse, restart}
use Rattle.switch_laws.specs.Leg.{Leg}
use Rattle.switch_laws.specs.World.{shown_at}
use Rattle.switch_laws.specs.Joined.{IsPair}
use Rattle.switch_laws.specs.Events.{new_legs}
use Rattle.switch_laws.specs.Steps.Step.{Elapses}
use Rattle.switch_laws.proofs.Finishing.{restarted_joined}
use Rattle.switch_laws.proofs.SwitchAfterEvents.{events_hold}
use Rattle.switch_laws.proofs.SettingUp.{pair_call}
use Rattle.switch_laws.proofs.Turning.{received_effect, timer_effect}
use Rattle.switched_call_laws.specs.SwitchRecords.Kept.{all_frames_out}
use Rattle.switched_call_laws.specs.SwitchRecords.Joined.{JoinsRecords}
use Rattle.switched_call_laws.specs.SwitchRecords.Records.{AreRecords, Has, call_on}
use Rattle.switched_call_laws.specs.SwitchRecords.Rests.{Rests}
use Rattle.switched_call_laws.specs.SwitchRecords.Tied.{Histories, IsTied, happened, restarted, gone_out}
use Rattle.switched_call_laws.specs.SwitchRecords.Written.{restart_writes, restarted_books}
use Rattle.switched_call_laws.proofs.SwitchRecords.Cells.{touches_closed, here_or_not}
use Rattle.switched_call_laws.proofs.SwitchRecords.Relaying.{joins_relay}
use Rattle.switched_call_laws.proofs.SwitchRecords.Resting.{event_rests}
use Rattle.switched_call_laws.specs.JoinedCalls.Calls.{present_at, Stands, HasEnded, StandsOrEnded}
use Rattle.switched_call_laws.specs.JoinedCalls.JoinLaws.{join_of_call, calls_in, BeginCalls, FrameCalls, TimerCalls, RelinkCalls, ElapseCalls, RestartCalls, OutCalls, HasRelayed, RelayedCalls, NewJoinsLaw, CallsLaw}
use Rattle.switched_call_laws.proofs.JoinedCalls.Steady.{shape, ended_same}
use Rattle.switched_call_laws.proofs.JoinedCalls.Closing.{SameEpochs, epochs_itself, relayed_same, closed_none, RestsWith, records_at}
use Rattle.switched_call_laws.proofs.JoinedCalls.EndedCalls.{IsClosing}
use Rattle.switched_call_laws.proofs.JoinedCalls.Answering.{record_call}
use Rattle.switched_call_laws.proofs.JoinedCalls.Following.{addresses_led, KeptQuietly, KeptSending, KeptAccepting, KeptJoining, And, step_quiet, steady_keep}
use Rattle.std.proofs.Common.{append-nil}
use Rattle.switched_call_laws.specs.SwitchRecords.Kept.{Partners, AreKept, partners_after, partners_after_all, IsFit, AreFit, ReadsOctets}
use Rattle.switched_call_laws.proofs.SwitchRecords.Stepping.{steps_kept}
use Rattle.switched_call_laws.proofs.SwitchRecords.Calming.{addresses, Addressed, addressed, addressed_then, calm_fit, heeded_calm}
use Rattle.switched_call_laws.proofs.JoinedCalls.CallsAfterActs.{closed_epochs, closing_only}
use Rattle.switched_call_laws.proofs.JoinedCalls.NewCalls.{calls_then, acted_as_said, finished_none, timer_joins_none, relink_joins_none, no_calls}
use Rattle.switched_call_laws.specs.JoinedCalls.Calls.{JoinedCall, books_by, books_by_all, calls_of_all, AreCalls}
use Rattle.switched_call_laws.proofs.JoinedCalls.Steady.{Mutual, switch_mutual, IsMildAct, acts_slots, books_rest, every_map, calls_same, AreSteady, steady_same, steady_then, steadies_same, steadies_none, rounds_steady, mutual_both}
use Rattle.switched_call_laws.proofs.JoinedCalls.Walking.{books_are, leads_first, leads_then, Walked, walked_then, walked_quiet, Beside}
use Rattle.switched_call_laws.proofs.JoinedCalls.CallsAfterActs.{heeded_walk}
use Rattle.switched_call_laws.proofs.JoinedCalls.Outside.{happened_outside, writes_hold}
use Rattle.switch_lines.proofs.Places.{joined_kept}

-- ---- a switch at which all is right

-- its joins hold, its lines are kept, its present records are its legs, and these are the joined calls
pub record Good (given : List (Option (List ℕ))) (ls : List SwitchLine) (bs : Books) (cs : List JoinedCall) : Type 0 where
  pub legs : World
  pub switch : IsSwitch ls legs
  pub records : HaveRecords (layers_of ls) legs bs
  pub calls : AreCalls ls bs cs
  pub partners : Partners
  pub kept : AreKept partners bs ls
  pub addressed : Addressed ls
  pub lines : addresses ls ≡ given

begun_records : (ls : List SwitchLine) (w : World) (bs : Books) → HaveRecords (layers_of ls) w bs → HaveRecords (layers_of (all_begun ls)) w bs
begun_records ls w bs h = subst (λ (ys : List Layer). HaveRecords ys w bs) (sym (layers_on_ends begun ls (λ e. refl))) h

module _ (routes : RouteMap) (given : List (Option (List ℕ))) (R : Books → List JoinedCall → Type 0) (keeps : KeptQuietly R) (sends : KeptSending R) (accepts : KeptAccepting R) (joins : KeptJoining routes given R) where
  -- steps after which the joins hold, and the calls are as they lead to
  good_after : (steps : List Step) (ls ms : List SwitchLine) (bs : Books) (cs : List JoinedCall) (x : Good given ls bs cs) → AreFit steps x.partners → Becomes (acts_of_all steps ls) ls x.legs ms → Walked (And AreCalls R) steps ls bs cs ms
      → Walked (And (Good given) R) steps ls bs cs ms
  good_after steps ls ms bs cs x fits b a = record {
    after = a.after;
    new = a.new;
    leads = a.leads;
    holds = (
      record {
        legs = b.world;
        switch = b.right;
        records = subst (λ (y : Books). HaveRecords (layers_of ms) b.world y) same
            (subst (λ (ys : List Layer). HaveRecords ys b.world (books_after_all (acts_of_all steps ls) (layers_of ls) bs)) (sym b.reached.layers)
            (subst (λ (v : World). HaveRecords (after_acts (acts_of_all steps ls) (layers_of ls)) v (books_after_all (acts_of_all steps ls) (layers_of ls) bs)) (sym b.reached.legs)
            (acts_write (acts_of_all steps ls) (layers_of ls) x.legs bs b.reached.may x.switch.world x.records)));
        calls = a.holds.0;
        partners = partners_after_all steps x.partners;
        kept = subst (λ (y : Books). AreKept (partners_after_all steps x.partners) y ms) same
            (subst (λ (ks : List SwitchLine). AreKept (partners_after_all steps x.partners) (books_after_all (acts_of_all steps ls) (layers_of ls) bs) ks) a.leads.lines (steps_kept steps x.partners bs ls fits x.kept));
        addressed = addressed_then steps ls ms a.leads.lines x.addressed;
        lines = addresses_led steps ls ms given a.leads.lines x.lines;
      },
      a.holds.1,
    );
  }
    where
      same : books_after_all (acts_of_all steps ls) (layers_of ls) bs ≡ a.after
      same = sym (books_are steps ls bs) ∙ a.leads.books

  -- ---- what happens on a line

  acted_walk : (n : ℕ) (what : Happening) (ls : List SwitchLine) (bs : Books) (cs : List JoinedCall) (x : Good given ls bs cs) → IsFit (Happens n what) x.partners → R bs cs
      → ((line : SwitchLine) → slice_get ls n ≡ Some line → EndEffect n what line.end) → Walked (And AreCalls R) (acted_steps routes n what ls) ls bs cs (acted routes n (does what) ls)
  acted_walk n what ls bs cs x fits r eff = by_line (slice_get ls n) refl
    where
      g : SwitchLine → SwitchLine
      g = with_end (λ e. does what (quieted e))

      l1 : List SwitchLine
      l1 = changed n g ls

      ms : List SwitchLine
      ms = lines_after (Happens n what) ls

      first : Walked (And AreCalls R) (heed_all_steps routes n (notes_of (slice_get l1 n)) ms) ms (books_by (Happens n what) ls bs) cs (acted routes n (does what) ls) → Walked (And AreCalls R) (acted_steps routes n what ls) ls bs cs (acted routes n (does what) ls)
      first y = record { after = y.after; new = y.new; leads = leads_first (Happens n what) (heed_all_steps routes n (notes_of (slice_get l1 n)) ms) ls bs (acted routes n (does what) ls) y.after y.new y.leads; holds = y.holds }

      then_kept : AreKept (partners_after (Happens n what) x.partners) (books_by (Happens n what) ls bs) ms
      then_kept = subst (λ (as_ : List Act). AreKept (partners_after (Happens n what) x.partners) (books_after_all as_ (layers_of ls) bs) ms) (append-nil (acts_of (Happens n what) ls)) (steps_kept (Happens n what ∷ []) x.partners bs ls (fits, tt) x.kept)

      by_line : (o : Option SwitchLine) → slice_get ls n ≡ o → Walked (And AreCalls R) (acted_steps routes n what ls) ls bs cs (acted routes n (does what) ls)
      by_line (Some line) e =
          first (subst (λ (o : Option SwitchLine). Walked (And AreCalls R) (heed_all_steps routes n (notes_of o) ms) ms (books_by (Happens n what) ls bs) cs (heed_all routes n (notes_of o) ms)) (sym (got_changed n g ls line e))
          (heeded_walk routes n what ls x.legs bs x.switch x.records line e (eff line e) cs x.calls given x.lines R keeps sends accepts joins r (partners_after (Happens n what) x.partners) then_kept))
      by_line None e =
          let gone : slice_get l1 n ≡ None = ap (λ (ks : List SwitchLine). slice_get ks n) (changed_none n g ls e) ∙ e in
          let same : ms ≡ ls = changed_none n (with_end without_notes) l1 gone ∙ changed_none n g ls e in
          first (subst (λ (o : Option SwitchLine). Walked (And AreCalls R) (heed_all_steps routes n (notes_of o) ms) ms (books_by (Happens n what) ls bs) cs (heed_all routes n (notes_of o) ms)) (sym gone)
          (walked_quiet (And AreCalls R) [] ms (books_by (Happens n what) ls bs) cs ms refl refl (
            subst (λ (ks : List SwitchLine). AreCalls ks (books_by (Happens n what) ls bs) cs) (sym same) (calls_same ls ls bs (books_by (Happens n what) ls bs) cs (switch_mutual ls x.legs x.switch) (record {
              joins = λ y. refl;
              slots = λ y j f. acts_slots (acts_of (Happens n what) ls) (layers_of ls) bs y (subst (λ (o : Option SwitchLine). Every IsMildAct (Act.Reads n ∷ on_line (λ z. happening_acts n what z) o)) (sym e) (tt, tt));
              rests = λ k m rec s. books_rest (acts_of (Happens n what) ls) (layers_of ls) bs k m rec s;
            }) x.calls),
            keeps (acts_of (Happens n what) ls) (layers_of ls) bs cs (step_quiet (Happens n what) ls tt) r,
          )))

  acted_good : (n : ℕ) (what : Happening) (ls : List SwitchLine) (bs : Books) (cs : List JoinedCall) → ((line : SwitchLine) → slice_get ls n ≡ Some line → EndEffect n what line.end) → ReadsOctets what → (x : Good given ls bs cs) → IsFit (Happens n what) x.partners → R bs cs
      → Walked (And (Good given) R) (acted_steps routes n what ls) ls bs cs (acted routes n (does what) ls)
  acted_good n what ls bs cs eff reads x fits r =
      good_after (acted_steps routes n what ls) ls (acted routes n (does what) ls) bs cs x (fits, calm_fit _ (partners_after (Happens n what) x.partners) (heeded_calm routes n what ls reads x.addressed))
      (acted_right routes n what ls x.legs x.switch eff) (acted_walk n what ls bs cs x fits r eff)

  -- ---- the end of an event

  relinked_good : (o : Option ℕ) (ls : List SwitchLine) (bs : Books) (cs : List JoinedCall) → And (Good given) R ls bs cs → Walked (And (Good given) R) (relinked_steps o routes ls) ls bs cs (relinked_at o routes ls)
  relinked_good None ls bs cs x = walked_quiet (And (Good given) R) [] ls bs cs ls refl refl x
  relinked_good (Some n) ls bs cs x = acted_good n Relinks ls bs cs (λ line e. relinked_effect n line.end) tt x.0 tt x.1

  all_relinked_good : (most : ℕ) (ls : List SwitchLine) (bs : Books) (cs : List JoinedCall) → And (Good given) R ls bs cs → Walked (And (Good given) R) (all_relinked_steps most routes ls) ls bs cs (all_relinked most routes ls)
  all_relinked_good zero ls bs cs x = walked_quiet (And (Good given) R) [] ls bs cs ls refl refl x
  all_relinked_good (suc most) ls bs cs x =
      let ms = relinked_at (to_relink ls) routes ls in
      walked_then (And (Good given) R) (And (Good given) R) (relinked_steps (to_relink ls) routes ls) (all_relinked_steps most routes ms) ls ms (all_relinked most routes ms) bs cs (relinked_good (to_relink ls) ls bs cs x) (λ after all y. all_relinked_good most ms after all y)

  -- steps that end no call and begin none
  steady_walk : (steps : List Step) (ls ms : List SwitchLine) (bs : Books) (cs : List JoinedCall) → lines_after_all steps ls ≡ ms → AreSteady steps ls → Mutual ls → AreCalls ls bs cs → R bs cs → Walked (And AreCalls R) steps ls bs cs ms
  steady_walk steps ls ms bs cs e s m a r =
      walked_quiet (And AreCalls R) steps ls bs cs ms e (steadies_none steps ls bs s)
      (subst (λ (ks : List SwitchLine). AreCalls ks (books_by_all steps ls bs) cs) e (calls_same ls (lines_after_all steps ls) bs (books_by_all steps ls bs) cs m (steadies_same steps ls bs s) a), steady_keep R keeps sends steps ls bs cs s m a r)

  finished_walk : (n : ℕ) (ls : List SwitchLine) (bs : Books) (cs : List JoinedCall) → And (Good given) R ls bs cs → Walked (And AreCalls R) (finished_steps routes n ls) ls bs cs (finished routes n ls)
  finished_walk n ls bs cs x =
      let ks = all_relinked (length ls) routes ls in
      let first = lines_first n routes ls in
      let last = rounds_steps (7 * length ks) first ks in
      walked_then (And (Good given) R) (And AreCalls R) (all_relinked_steps (length ls) routes ls) (last ++ Settles ∷ []) ls ks (finished routes n ls) bs cs (all_relinked_good (length ls) ls bs cs x)
      (λ after all y.
      let m = switch_mutual ks y.0.legs y.0.switch in
      let lines : lines_after_all (last ++ Settles ∷ []) ks ≡ finished routes n ls = (leads_then last (Settles ∷ []) ks (rounds (7 * length ks) first ks) (finished routes n ls) after (books_by_all last ks after) _ _ _
      (record { lines = rounds_leads (7 * length ks) first ks; books = refl; calls = refl }) (record { lines = refl; books = refl; calls = refl })).lines in
      steady_walk (last ++ Settles ∷ []) ks (finished routes n ls) after all lines (steady_then last (Settles ∷ []) ks (rounds (7 * length ks) first ks) (rounds_leads (7 * length ks) first ks) (rounds_steady (7 * length ks) first ks (mutual_both ks m)) (tt, tt)) m y.0.calls y.1)

  -- ---- events

  event_walk : (n : ℕ) (what : Happening) (s : Switch) (bs : Books) (cs : List JoinedCall) → s.routes ≡ routes → ((line : SwitchLine) → slice_get (all_begun s.lines) n ≡ Some line → EndEffect n what line.end) → ReadsOctets what
      → (x : Good given (all_begun s.lines) bs cs) → IsFit (Happens n what) x.partners → R bs cs
      → Walked (And AreCalls R) (event_steps s.routes n what s.lines) s.lines bs cs (finished s.routes n (acted s.routes n (does what) (all_begun s.lines)))
  event_walk n what s bs cs same eff reads x fits r =
      let ls = all_begun s.lines in
      let ms = acted routes n (does what) ls in
      let y : Walked (And AreCalls R) (acted_steps routes n what ls ++ finished_steps routes n ms) ls bs cs (finished routes n ms) =
      walked_then (And (Good given) R) (And AreCalls R) (acted_steps routes n what ls) (finished_steps routes n ms) ls ms (finished routes n ms) bs cs
      (acted_good n what ls bs cs eff reads x fits r) (λ after all z. finished_walk n ms after all z) in
      subst (λ (rs : RouteMap). Walked (And AreCalls R) (event_steps rs n what s.lines) s.lines bs cs (finished rs n (acted rs n (does what) ls))) (sym same)
      (record { after = y.after; new = y.new; leads = leads_first Begins (acted_steps routes n what ls ++ finished_steps routes n ms) s.lines bs (finished routes n ms) y.after y.new y.leads; holds = y.holds })

-- ---- of a switch that is kept

-- with its legs, as an event begins
begun_switch : (s : Switch) (h : Histories) → IsTied s h → IsSwitch (all_begun s.lines) h.legs
begun_switch s h i = let b = begun_right s.lines h.legs i.holds.joins in subst (λ (v : World). IsSwitch (all_begun s.lines) v) b.reached.legs b.right

module _ (R : Books → List JoinedCall → Type 0) (keeps : KeptQuietly R) (sends : KeptSending R) (accepts : KeptAccepting R) where
  -- the calls after an event, and what is kept beside them
  pub calls_after : (n : ℕ) (what : Happening) (s t : Switch) (h : Histories) (cs : List JoinedCall) → KeptJoining s.routes (addresses s.lines) R → t.lines ≡ finished s.routes n (acted s.routes n (does what) (all_begun s.lines))
      → ((line : SwitchLine) → slice_get (all_begun s.lines) n ≡ Some line → EndEffect n what line.end) → ReadsOctets what → IsFit (Happens n what) h.partners → IsTied s h → AreCalls s.lines h.books cs → R h.books cs
      → And AreCalls R t.lines (happened n what s h).books (cs ++ calls_in n what s h)
  calls_after n what s t h cs joins is eff reads fits i a r =
      let ls = all_begun s.lines in
      let begun_good : Good (addresses s.lines) ls h.books cs = record {
        legs = h.legs;
        switch = begun_switch s h i;
        records = begun_records s.lines h.legs h.books i.records;
        calls = calls_same s.lines ls h.books h.books cs (switch_mutual s.lines h.legs i.holds.joins) (steady_same Begins s.lines h.books tt) a;
        partners = h.partners;
        kept = steps_kept (Begins ∷ []) h.partners h.books s.lines (tt, tt) i.kept;
        addressed = addressed_then (Begins ∷ []) s.lines ls refl (addressed s.lines i.addresses);
        lines = addresses_led (Begins ∷ []) s.lines ls (addresses s.lines) refl refl;
      } in
      let x = event_walk s.routes (addresses s.lines) R keeps sends accepts joins n what s h.books cs refl eff reads begun_good fits r in
      let ss = event_steps s.routes n what s.lines in
      subst (λ (ms : List SwitchLine). And AreCalls R ms (happened n what s h).books (cs ++ calls_in n what s h)) (sym is)
      (subst (λ (new : List JoinedCall). And AreCalls R (finished s.routes n (acted s.routes n (does what) ls)) (happened n what s h).books (cs ++ new)) (sym x.leads.calls)
      (subst (λ (y : Books). And AreCalls R (finished s.routes n (acted s.routes n (does what) ls)) y (cs ++ x.new)) (sym x.leads.books ∙ books_are ss s.lines h.books) x.holds))

nothing_beside : Books → List JoinedCall → Type 0
nothing_beside bs cs = Unit {0}

frame_calls : FrameCalls
unfolding nothing_beside
frame_calls n octets s h cs are first i a =
    (calls_after nothing_beside (λ acts ys bs ds q r. tt) (λ p q j ls bs ds g m a e r. tt) (λ p j ls bs ds c r. tt) n (Brings octets) s (on_frame n octets s) h cs (λ p q parts ls bs ds j r. tt) refl (λ line e. received_effect n octets line.end) are first i a tt).0

timer_calls : TimerCalls
unfolding nothing_beside
timer_calls n id s h cs i a =
    (calls_after nothing_beside (λ acts ys bs ds q r. tt) (λ p q j ls bs ds g m a e r. tt) (λ p j ls bs ds c r. tt) n (RunsOut id) s (on_expiry n id s) h cs (λ p q parts ls bs ds j r. tt) refl (λ line e. timer_effect n id line.end) tt tt i a tt).0

relink_calls : RelinkCalls
unfolding nothing_beside
relink_calls n s h cs i a =
    (calls_after nothing_beside (λ acts ys bs ds q r. tt) (λ p q j ls bs ds g m a e r. tt) (λ p j ls bs ds c r. tt) n Relinks s (relink n s) h cs (λ p q parts ls bs ds j r. tt) refl (λ line e. relinked_effect n line.end) tt tt i a tt).0

-- ---- the calls that an event joins

event_as_said : (n : ℕ) (what : Happening) (s : Switch) (h : Histories) → IsTied s h → ((line : SwitchLine) → slice_get (all_begun s.lines) n ≡ Some line → EndEffect n what line.end)
    → map join_of_call (calls_in n what s h) ≡ joins_acted s.routes n (does what) (all_begun s.lines)
event_as_said n what s h i eff =
    let ls = all_begun s.lines in
    let ms = acted s.routes n (does what) ls in
    let first = acted_steps s.routes n what ls in
    let switch = begun_switch s h i in
    let after = acted_right s.routes n what ls h.legs switch eff in
    ap (λ (cs : List JoinedCall). map join_of_call cs)
    (calls_then first (finished_steps s.routes n ms) ls ms h.books (acted_leads s.routes n what ls)
    ∙ (ap (λ (cs : List JoinedCall). calls_of_all first ls h.books ++ cs) (finished_none s.routes n ms after.world (books_by_all first ls h.books) after.right) ∙ append-nil (calls_of_all first ls h.books)))
    ∙ acted_as_said s.routes n what ls h.legs h.books switch (begun_records s.lines h.legs h.books i.records) eff

new_joins_law : NewJoinsLaw
new_joins_law = record {
  frames = λ n octets s h are i. event_as_said n (Brings octets) s h i (λ line e. received_effect n octets line.end);
  timers = λ n id s h i. no_calls (calls_in n (RunsOut id) s h) (event_as_said n (RunsOut id) s h i (λ line e. timer_effect n id line.end) ∙ timer_joins_none s.routes n id (all_begun s.lines));
  relinks = λ n s h i. no_calls (calls_in n Relinks s h) (event_as_said n Relinks s h i (λ line e. relinked_effect n line.end) ∙ relink_joins_none s.routes n (all_begun s.lines));
}

-- ---- the others

begin_calls : BeginCalls
begin_calls routes lines books is =
    let i = (events_hold.begins routes lines is).joins in
    record { each = tt; all = λ p j e came. absurd (none p j (i.joined p j e).other (i.joined p j e).pair) }
  where
    none : (p : SwitchChannel) (j k : Joined) → IsPair (new_legs lines p) (new_legs lines j.other) j k ⊎ (⊥ ⊎ ⊥) → ⊥
    none p j k (inl x) = true≢false (sym (pair_call (new_legs lines p) (new_legs lines j.other) j k x))
    none p j k (inr x) = elim x [ inl y ↦ y | inr y ↦ y ]

elapse_calls : ElapseCalls
elapse_calls ticks s h cs i a = calls_same s.lines (elapse ticks s).lines h.books h.books cs (switch_mutual s.lines h.legs i.holds.joins) (steady_same (Elapses ticks) s.lines h.books tt) a

out_calls : OutCalls
out_calls n s h cs i a =
    calls_same s.lines (gone_out n s).lines h.books h.books cs (switch_mutual s.lines h.legs i.holds.joins) (record {
      joins = λ x. ap shape (joined_kept n x.line x.channel all_frames_out s.lines (λ l. refl));
      slots = λ x j e. refl;
      rests = λ k m r y. y;
    }) a

-- ---- a restart

closed_was : (ns : List Note) (b : Book) (y : Role) (c m : ℕ) → Every IsClosing ns → (slot_at y c (all_told Dce ns b)).present ≡ Some m → (slot_at y c b).present ≡ Some m
closed_was [] b y c m i e = e
closed_was (Closed d cause diagnostic reason ∷ ns) b y c m i e =
    let f = closed_was ns (closes Dce d b) y c m i.1 e in
    elim (here_or_not Dce d y c) [
      | inl h ↦ absurd (none-some m (sym (closed_none d b) ∙ subst (λ (z : Role). (slot_at z d (closes Dce d b)).present ≡ Some m) h.0 (subst (λ (k : ℕ). (slot_at y k (closes Dce d b)).present ≡ Some m) h.1 f)))
      | inr h ↦ sym ((touches_closed Dce d b).slots y c h) ∙ f
    ]
closed_was (Incoming d parts ∷ ns) b y c m i e = absurd i.0
closed_was (Connected d ∷ ns) b y c m i e = absurd i.0
closed_was (WasReset d cause diagnostic reason ∷ ns) b y c m i e = absurd i.0
closed_was (InterruptConfirmed d ∷ ns) b y c m i e = absurd i.0
closed_was (Covered d k ∷ ns) b y c m i e = absurd i.0

-- a present record rests where all calls of its line close
all_closes : (l : Layer) (legs : ℕ → Leg) (reason : Reason) (b : Book) (c m : ℕ) (r : RecordValue) → AreRecords Dce l legs b → slice_get b.records m ≡ Some r → (slot_at Dce c b).present ≡ Some m
    → (now : RecordValue) × (Rests m now (all_told Dce (closing_notes 1 reason l.channels) b) × SameEpochs r now)
all_closes l legs reason b c m r a there e =
    let k = closed_epochs (closing_notes 1 reason l.channels) r m b (closing_only 1 reason l.channels) (record { it = r; there = there; epochs = epochs_itself r }) in
    (k.it, (record { there = k.there; not_present = gone }, k.epochs))
  where
    call : (ch : Channel) → channel_of l c ≡ Some ch → had_call ch.state ≡ true
    call ch f = record_call (had_call ch.state) c m (legs c) b e (subst (λ (o : Option Channel). Has Dce c (call_on o (legs c)) b) f (a.has c))

    found : (o : Option Channel) → channel_of l c ≡ o → (ch : Channel) × (channel_of l c ≡ Some ch)
    found None f = absurd (none-some m (sym (subst (λ (o : Option Channel). Has Dce c (call_on o (legs c)) b) f (a.has c)) ∙ e))
    found (Some ch) f = (ch, f)

    closed_at : (d : ℕ) (ch : Channel) → channel_of l d ≡ Some ch → had_call ch.state ≡ true → (slot_at Dce d (all_told Dce (closing_notes 1 reason l.channels) b)).present ≡ None
    closed_at zero ch f g = absurd (none-some ch f)
    closed_at (suc i) ch f g = let same : 1 + i ≡ suc i = omega arith in subst (λ (k : ℕ). (slot_at Dce k (all_told Dce (closing_notes 1 reason l.channels) b)).present ≡ None) same (closed_all Dce 1 reason l.channels b i ch f g)

    gone : (y : Role) (d : ℕ) → (slot_at y d (all_told Dce (closing_notes 1 reason l.channels) b)).present ≡ Some m → ⊥
    gone y d f =
        let ch = found (channel_of l c) refl in
        let same = a.apart.apart y Dce d c m (closed_was (closing_notes 1 reason l.channels) b y d m (closing_only 1 reason l.channels) f) e in
        none-some m (sym (closed_at c ch.0 ch.1 (call ch.0 ch.1)) ∙ subst (λ (z : Role). (slot_at z c (all_told Dce (closing_notes 1 reason l.channels) b)).present ≡ Some m) same.0 (subst (λ (k : ℕ). (slot_at y k (all_told Dce (closing_notes 1 reason l.channels) b)).present ≡ Some m) same.1 f))

restart_rests : (ls : List SwitchLine) (bs : Books) (k m : ℕ) (r : RecordValue) → Rests m r (bs k) → Rests m r (restarted_books (layers_of ls) bs k)
restart_rests ls bs k m r i = by_layer (slice_get (layers_of ls) k)
  where
    by_layer : (o : Option Layer) → Rests m r (restart_writes o (bs k))
    by_layer None = i
    by_layer (Some l) = event_rests Dce (Told (link_down l).notes ∷ []) m r (bs k) i

restart_side : (ls : List SwitchLine) (bs : Books) (x : SwitchChannel) (m : ℕ) (r : RecordValue) → Beside ls bs → is_some (shown_at (layers_of ls) x) ≡ true → slice_get (bs x.line).records m ≡ Some r → present_at x bs ≡ Some m
    → RestsWith (restarted_books (layers_of ls) bs) x m r
restart_side ls bs x m r b there e f =
    let k = records_at ls bs x b there in
    let z = all_closes k.0 k.1.1.0 LinkLost (bs x.line) x.channel m r k.1.1.1 e f in
    record { now = z.0; rests = subst (λ (o : Option Layer). Rests m z.0 (restart_writes o (bs x.line))) (sym k.1.0) z.1.0; epochs = z.1.1 }

-- what a call that stands has
standing_records : (s : Switch) (h : Histories) (c : JoinedCall) → IsTied s h → Stands s.lines h.books c → HasRelayed h.books c
standing_records s h c i x =
    let r : JoinsRecords h.books c.near x.join.other = joins_relay s.lines h.legs h.books i.holds.joins i.records c.near x.join x.joined in
    let near_is : r.near_there.number ≡ c.came_in = same_Some r.near_there.number c.came_in (sym r.near_there.present ∙ x.near_present) in
    let far_is : r.far_there.number ≡ c.placed = same_Some r.far_there.number c.placed (sym r.far_there.present ∙ (ap (λ (y : SwitchChannel). present_at y h.books) x.other ∙ x.far_present)) in
    record {
      near_record = r.near;
      far_record = r.far;
      near_there = ap (λ (k : ℕ). slice_get (h.books c.near.line).records k) (sym near_is) ∙ r.near_there.there;
      far_there = ap₂ (λ (q : SwitchChannel) (k : ℕ). slice_get (h.books q.line).records k) (sym x.other) (sym far_is) ∙ r.far_there.there;
      relayed = r.relayed;
    }

one_relayed : (s : Switch) (h : Histories) (c : JoinedCall) → IsTied s h → StandsOrEnded s.lines h.books c → HasRelayed h.books c
one_relayed s h c i (inl x) = standing_records s h c i x
one_relayed s h c i (inr x) = record { near_record = x.near_record; far_record = x.far_record; near_there = x.near_rests.there; far_there = x.far_rests.there; relayed = x.relayed }

relayed_calls : RelayedCalls
relayed_calls s h cs i a = every_map (StandsOrEnded s.lines h.books) (λ c. HasRelayed h.books c) cs (λ c x. one_relayed s h c i x) a.each

restart_one : (s : Switch) (h : Histories) (c : JoinedCall) → IsTied s h → StandsOrEnded s.lines h.books c → HasEnded (restarted s h).books c
restart_one s h c i (inr x) = ended_same h.books (restarted s h).books c (λ k m r y. restart_rests s.lines h.books k m r y) x
restart_one s h c i (inl x) =
    let r = standing_records s h c i x in
    let m = switch_mutual s.lines h.legs i.holds.joins in
    let k = m c.near x.join x.joined in
    let far = m x.join.other k.far k.joined in
    let b : Beside s.lines h.books = record { legs = h.legs; world = i.holds.joins.world; records = i.records } in
    let y = restart_side s.lines h.books c.near c.came_in r.near_record b k.there r.near_there x.near_present in
    let z = restart_side s.lines h.books c.far c.placed r.far_record b (ap (λ (q : SwitchChannel). is_some (shown_at (layers_of s.lines) q)) (sym x.other) ∙ far.there) r.far_there x.far_present in
    record { near_record = y.now; far_record = z.now; near_rests = y.rests; far_rests = z.rests; relayed = relayed_same r.near_record r.far_record y.now z.now y.epochs z.epochs r.relayed }

restart_calls : RestartCalls
restart_calls s h cs i a = record {
  each = every_map (StandsOrEnded s.lines h.books) (StandsOrEnded (restart s).lines (restarted s h).books) cs (λ c x. inr (restart_one s h c i x)) a.each;
  all = λ p j e came. absurd (none-some j (sym (restarted_joined s.lines p.line p.channel) ∙ e));
}

pub calls_hold : CallsLaw
calls_hold = record {
  begins = begin_calls;
  frames = frame_calls;
  timers = timer_calls;
  relinks = relink_calls;
  elapses = elapse_calls;
  restarts = restart_calls;
  out = out_calls;
  outside = happened_outside;
  writes = writes_hold;
  relayed = relayed_calls;
  new = new_joins_law;
}
