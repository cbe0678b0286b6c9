-- The numbers of a channel in data transfer name the counts of the present epoch in the history of its end.
use Rattle.std.proofs.Common.{◌≡◌, ℕ, Bool, true, false, cond, List, refl, sym, ap, subst, ◌∙◌, true≢false}
use Rattle.link_timers.specs.declared.role.Role.{Role}
use Rattle.link_timers.specs.declared.role.Role.TheVariants.{Dte}
use Rattle.link_timers.specs.Role.{other_of}
use Rattle.data_transfer.specs.declared.flow.Flow.{Flow}
use Rattle.data_transfer.specs.Packets.{Body}
use Rattle.data_transfer.specs.Traffic.{Traffic}
use Rattle.packet_channel.specs.Channel.{Channel, in_transfer}
use Rattle.packet_laws.specs.History.{Epoch}
use Rattle.packet_laws.specs.LayerLineLaw.{epoch_now}
use Rattle.packet_laws.specs.Counts.{NamesCounts}
use Rattle.packet_laws.specs.Counted.{IsCounted, LineCountsLaw}
use Rattle.packet_laws.specs.LayerLine.{Line, after, start_line, turned}
use Rattle.packet_laws.proofs.Handshakes.Handshake.{at, inner}
use Rattle.packet_laws.proofs.Handshakes.Keeping.{same}
use Rattle.packet_laws.proofs.Call.SetUp.{Stage}
use Rattle.packet_laws.proofs.Call.SetUp.Stage.{Free, Placed, Waiting, Collided, Open}
use Rattle.packet_laws.proofs.Call.Delivery.{Agree, names}
use Rattle.packet_laws.proofs.Call.Levels.{Epochs, CallUse, Uses, Whole, GoodEpochs, GoodWhole}
use Rattle.packet_laws.proofs.Line.Stored.{Mark, mark, marked, stored_call, stored_uses, stored_whole, stored, shown, uses_now, call_now}
use Rattle.packet_laws.proofs.Line.Lines.{Tied}
use Rattle.packet_laws.proofs.Line.Outcomes.{some_same}
use Rattle.packet_laws.proofs.Line.Resting.{epoch_is}
use Rattle.packet_laws.proofs.Line.Consequences.{turned_tied}
use Rattle.packet_laws.proofs.Line.Beginning.{starts_tied}
use Rattle.packet_laws.proofs.Line.LineHolds.{all_tied}

-- ---- in data transfer a layer stores the traffic of the present epoch

call_traffic : (st : Stage) (e : Epochs) → in_transfer (stored_call st e).state ≡ true → (stored_call st e).traffic ≡ e.now.traffic
call_traffic (Open m) e h = refl
call_traffic Free e h = absurd (true≢false (sym h))
call_traffic Placed e h = absurd (true≢false (sym h))
call_traffic Waiting e h = absurd (true≢false (sym h))
call_traffic Collided e h = absurd (true≢false (sym h))

uses_traffic : (own : Bool) (u : CallUse) → in_transfer (stored_uses own u).state ≡ true → (stored_uses own u).traffic ≡ u.call.now.traffic
uses_traffic true u h = absurd (true≢false (sym h))
uses_traffic false u h = call_traffic u.stage u.call h

whole_traffic : (own : Bool) (s : Uses) → in_transfer (stored_whole own s).state ≡ true → (stored_whole own s).traffic ≡ s.now.call.now.traffic
whole_traffic true s h = absurd (true≢false (sym h))
whole_traffic false s h = uses_traffic s.own s.now h

-- ---- the present epoch of an end, with some epoch of the other one

epoch_names : (flow : Flow) (x y : Epochs) (o b : List Body) → GoodEpochs flow (record { me = x; you = y; out = o; back = b }) → NamesCounts flow x.now.traffic x.now.epoch
epoch_names flow x y o b i =
    let n : ℕ = x.number in
    let a : Agree flow (record { me = x.now; you = at y n; out = (inner x y n).out; back = (inner x y n).back }) =
    subst (λ (c : Bool). Agree flow (record { me = cond c x.now (x.past n); you = at y n; out = (inner x y n).out; back = (inner x y n).back })) (same n) (i.inners n) in
    names flow x.now (at y n) (inner x y n).out (inner x y n).back a.ways a.mine

whole_names : (flow : Flow) (role : Role) (x y : Whole) (o b : List Body) → GoodWhole flow role (record { me = x; you = y; out = o; back = b }) → NamesCounts flow x.now.now.call.now.traffic x.now.now.call.now.epoch
whole_names flow role x y o b i =
    let c = call_now flow role x.now (at y x.number) (inner x y x.number).out (inner x y x.number).back (uses_now flow role x y o b i) in
    epoch_names flow x.now.now.call _ _ _ c.call

-- whatever is known of its call
still_names : (flow : Flow) (t : Traffic) (q : Mark) (e : Epoch) → NamesCounts flow t e → NamesCounts flow t (marked q e)
still_names flow t q e n = record {
  gone = n.gone;
  sent = n.sent;
  send = n.send;
  covered = n.covered;
  covered_went = n.covered_went;
  went_within = n.went_within;
  expected = n.expected;
  released = n.released;
  released_taken = n.released_taken;
  came_within = n.came_within;
  undelivered = n.undelivered;
}

tied_counted : (flow : Flow) (role : Role) (w : Line) (s c : ℕ) → Tied flow role w s c → IsCounted flow w.me s c
tied_counted flow role w s c t ch up found flows =
    let p = t.mine.present up in
    let x : Whole = t.x in
    let is : ch ≡ shown (stored x) p.owed = some_same ch (shown (stored x) p.owed) (sym found ∙ p.channel_is) in
    let traffic : ch.traffic ≡ x.now.now.call.now.traffic =
    ap (λ (z : Channel). z.traffic) is ∙ whole_traffic x.own x.now (ap (λ (z : Channel). in_transfer z.state) (sym is) ∙ flows) in
    subst (λ (z : Traffic). NamesCounts flow z (epoch_now (w.me.histories s c))) (sym traffic)
    (subst (λ (e : Epoch). NamesCounts flow x.now.now.call.now.traffic e) (sym (epoch_is x (w.me.histories s c) t.mine.history))
    (still_names flow x.now.now.call.now.traffic (mark x.now.now) x.now.now.call.now.epoch (whole_names flow role x t.y t.o t.b t.good)))

pub line_counts : LineCountsLaw
line_counts channels flow standing some small hs s c least most =
    let w : Line = after hs (start_line channels flow standing) in
    let t : Tied flow Dte w s c = all_tied flow Dte hs (start_line channels flow standing) s c (starts_tied channels flow standing s c small least most) in
    (tied_counted flow Dte w s c t, tied_counted flow (other_of Dte) (turned w) s c (turned_tied flow Dte w s c t))
