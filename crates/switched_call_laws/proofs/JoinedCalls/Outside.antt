-- What is written at the other ends of a switch's lines leaves the switch and its joined calls as they are; and what an
-- event of the switch writes is written at its own ends.
use Rattle.std.proofs.Common.{◌≡◌, ℕ, Bool, true, false, ◌==◌, if◌then◌else◌, List, [], ◌∷◌, ◌++◌, Option, Some, None, refl, sym, ap, subst, ◌∙◌}
use Rattle.std.specs.Prelude.{slice_get}
use Rattle.link_timers.specs.declared.role.Role.TheVariants.{Dte, Dce}
use Rattle.packet_layer.specs.Layer.{Layer, link_down}
use Rattle.call_records.specs.Book.{Book, slot_at}
use Rattle.call_records.specs.Writes.{Write, all_written}
use Rattle.call_records.specs.Writes.Write.{Told}
use Rattle.record_laws.proofs.Books.Writing.{written_append}
use Rattle.switch_laws.specs.World.{World, Act, line_of, after_act, layers_of}
use Rattle.switch_laws.specs.EventSteps.{event_acts}
use Rattle.switched_call_laws.specs.SwitchRecords.Records.{AreRecords}
use Rattle.switched_call_laws.specs.SwitchRecords.Written.{Books, act_writes, writes_at, books_after, books_after_all, restart_writes}
use Rattle.switched_call_laws.specs.SwitchRecords.Rests.{Rests}
use Rattle.switched_call_laws.specs.SwitchRecords.Tied.{IsTied}
use Rattle.switched_call_laws.proofs.SwitchRecords.Partner.{writes_keep, partner_leaves}
use Rattle.switched_call_laws.proofs.SwitchRecords.Resting.{event_rests, act_writes_are}
use Rattle.switched_call_laws.specs.JoinedCalls.JoinLaws.{IsWritten, WritesLaw, OutsideLaw}
use Rattle.switched_call_laws.proofs.JoinedCalls.Steady.{switch_mutual, calls_same}

-- ---- what an event of the switch writes

pub nothing_written : (b : Book) → IsWritten Dce b b
nothing_written b = record { writes = []; is = refl }

pub written_then : (a b c : Book) → IsWritten Dce a b → IsWritten Dce b c → IsWritten Dce a c
written_then a b c p q = record {
  writes = p.writes ++ q.writes;
  is = q.is ∙ (ap (λ (x : Book). all_written Dce q.writes x) p.is ∙ sym (written_append Dce p.writes q.writes a));
}

act_at : (act : Act) (o : Option Layer) (b : Book) → IsWritten Dce b (writes_at act o b)
act_at act None b = nothing_written b
act_at act (Some l) b = record { writes = act_writes act l; is = act_writes_are Dce act l b }

act_if : (v : Bool) (act : Act) (o : Option Layer) (b : Book) → IsWritten Dce b (if v then writes_at act o b else b)
act_if true act o b = act_at act o b
act_if false act o b = nothing_written b

acts_written : (acts : List Act) (ys : List Layer) (bs : Books) (n : ℕ) → IsWritten Dce (bs n) (books_after_all acts ys bs n)
acts_written [] ys bs n = nothing_written (bs n)
acts_written (a ∷ more) ys bs n =
    written_then (bs n) (books_after a ys bs n) (books_after_all more (after_act a ys) (books_after a ys bs) n) (act_if (n == line_of a) a (slice_get ys n) (bs n))
    (acts_written more (after_act a ys) (books_after a ys bs) n)

restart_at : (o : Option Layer) (b : Book) → IsWritten Dce b (restart_writes o b)
restart_at None b = nothing_written b
restart_at (Some l) b = record { writes = Told (link_down l).notes ∷ []; is = refl }

pub writes_hold : WritesLaw
writes_hold = record {
  events = λ n what s h line. acts_written (event_acts s.routes n what s.lines) (layers_of s.lines) h.books line;
  restarts = λ s h line. restart_at (slice_get (layers_of s.lines) line) (h.books line);
}

-- ---- what the other ends write

other_slot : (ws : List Write) (b : Book) (c : ℕ) → (slot_at Dce c (all_written Dte ws b)).present ≡ (slot_at Dce c b).present
other_slot ws b c = writes_keep (λ (y : Book). (slot_at Dce c y).present ≡ (slot_at Dce c b).present) Dte (λ y z t e. t.touches.slots Dce c (λ h. dce_dte h.0) ∙ e) ws b refl
  where
    dce_dte : Dce ≡ Dte → ⊥
    dce_dte e = absurd cc

pub happened_outside : OutsideLaw
happened_outside s h i cs o t a = (
  subst (λ (w : World). IsTied s (record i { legs = w })) (sym o.legs) (record {
    holds = t.holds;
    kept = o.kept;
    records = λ n y e. subst (λ (b : Book). AreRecords Dce y (λ c. h.legs (record { line = n; channel = c })) b) (sym (o.written n).is)
        (partner_leaves Dce y (λ c. h.legs (record { line = n; channel = c })) (o.written n).writes (h.books n) (t.records n y e));
    addresses = t.addresses;
  }),
  calls_same s.lines s.lines h.books i.books cs (switch_mutual s.lines h.legs t.holds.joins) (record {
    joins = λ x. refl;
    slots = λ x j e. ap (λ (b : Book). (slot_at Dce x.channel b).present) (o.written x.line).is ∙ other_slot (o.written x.line).writes (h.books x.line) x.channel;
    rests = λ k m r y. subst (λ (b : Book). Rests m r b) (sym (o.written k).is) (event_rests Dte (o.written k).writes m r (h.books k) y);
  }) a,
)
