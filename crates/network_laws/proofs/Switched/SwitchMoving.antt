-- What an event of a switch makes of what the laws of paths say of the network, before its frames go out.
use Rattle.std.proofs.Common.{◌≡◌, ◌≢◌, ℕ, zero, suc, ◌<◌, length, set, List, [], ◌∷◌, ◌++◌, map, Option, Some, None, Bool, true, false, if◌then◌else◌, refl, ap, ap₂, ◌∙◌}
use Rattle.std.specs.Prelude.{slice_get, is_some, unwrap_or}
use Rattle.link_timers.specs.declared.role.Role.{Role}
use Rattle.link_timers.specs.declared.role.Role.TheVariants.{Dte, Dce}
use Rattle.link_timers.specs.Role.{other_of}
use Rattle.link_timers.specs.declared.timers.TimerId.{TimerId}
use Rattle.call_records.specs.Records.{HopValue, with_hop}
use Rattle.call_records.specs.Book.{Book, with_change}
use Rattle.call_records.specs.Register.{Register, LineEnds, ChannelEnd, found_ends, book_at, written_at, holds, holder_at, goes_on, handed_on}
use Rattle.switch_joins.specs.declared.channels.NewJoin.{NewJoin}
use Rattle.switch_lines.specs.Switch.{Switch, timer_runs, on_expiry}
use Rattle.switch_laws.specs.Steps.Happening.{Brings, RunsOut, Relinks as RelinksLine}
use Rattle.switch_laws.specs.Steps.Step.{Happens}
use Rattle.node_laws.specs.Lines.NodeLine.{other_after}
use Rattle.node_laws.specs.Lines.NodeLine as line_law
use Rattle.packet_laws.specs.Readable.{AreOctets}
use Rattle.switched_call_laws.specs.SwitchRecords.Kept.{Partners, partners_after, restarted_partner, BeginWith}
use Rattle.switched_call_laws.specs.SwitchRecords.Tied.{Histories, IsTied, happened, restarted}
use Rattle.switched_call_laws.specs.JoinedCalls.Calls.{JoinedCall}
use Rattle.switched_call_laws.proofs.JoinedCalls.CallsAfterEvents.{calls_hold}
use Rattle.record_laws.specs.CallPaths.World.{Origin, Join, World, Plan}
use Rattle.switched_call_laws.specs.SwitchPaths.Sight.{Switched, Switches, OwnLines, Lines, found_line, network_line, role_at, all_seen, all_after}
use Rattle.switched_call_laws.specs.SwitchPaths.Network.{IsOther, PlacedCall, placed_at, of_switch, AreJoins}
use Rattle.switched_call_laws.specs.SwitchPaths.Network as paths
use Rattle.switched_call_laws.specs.SwitchPaths.SwitchPathLaws.{calls_in, join_of_call, IsWritten, NetworkAfter}
use Rattle.switched_call_laws.proofs.SwitchPaths.Begins.{network_holds}
use Rattle.switched_call_laws.proofs.JoinedCalls.Outside.{nothing_written, writes_hold}
use Rattle.net_events.specs.Network.{PlacedSwitch}
use Rattle.net_events.specs.AtSwitch.{SwitchEvent, Hears, Expires, Relinks, Restarts, switched, joins_of, own_end, far_end, all_handed}
use Rattle.network_laws.specs.Switched.IsSwitched.{IsSwitchAt}
use Rattle.network_laws.proofs.Switched.OwnLines.{if_here, if_there}
use Rattle.network_laws.proofs.Switched.UsersHeld.{sighted}

-- ---- calls that are handed on

line_same : (o : Option ℕ) → found_line o ≡ unwrap_or o 0
line_same None = refl
line_same (Some line) = refl

abbrev at_line : (line : ℕ) → Role → (channel : ℕ) → ChannelEnd
at_line line role channel = record { line = line; role = role; channel = channel }

-- the lines of calls are own lines of the switch
abbrev AreWithin : (at : List ℕ) → List JoinedCall → Type 0
AreWithin at [] = Unit {0}
AreWithin at (c ∷ cs) = (c.near.line < length at) × (c.far.line < length at) × AreWithin at cs

joins_within : (plan : Plan) (ats : OwnLines) (origins : List Origin) (old : List PlacedCall) (place : ℕ) (new : List JoinedCall) (joins : List Join)
    → AreJoins plan ats origins (old ++ placed_at place new) joins → AreWithin (ats place) new
joins_within plan ats origins [] place [] joins h = tt
joins_within plan ats origins [] place (c ∷ cs) [] h = absurd h
joins_within plan ats origins [] place (c ∷ cs) (j ∷ joins) h = (h.0.is.near.0, h.0.is.far.0, joins_within plan ats origins [] place cs joins h.1)
joins_within plan ats origins (o ∷ old) place new [] h = absurd h
joins_within plan ats origins (o ∷ old) place new (j ∷ joins) h = joins_within plan ats origins old place new joins h.1

-- the joined calls, as the switch tells of them
handed_same : (at : List ℕ) (r roles : ℕ → Role) (cs : List JoinedCall) (g : Register) → ((own : ℕ) → own < length at → r own ≡ roles own) → AreWithin at cs
    → paths.all_handed at r cs g ≡ all_handed at roles (map join_of_call cs) g
handed_same at r roles [] g same within = refl
handed_same at r roles (c ∷ cs) g same within =
    handed_same at r roles cs (paths.handed_on at r c g) same within.2
    ∙ ap (λ (x : Register). all_handed at roles (map join_of_call cs) x)
    (ap₂ (λ (line : ℕ) (role : Role). handed_on (at_line line (other_of role) c.near.channel) (at_line (network_line at c.far.line) (r c.far.line) c.far.channel) g)
    (line_same (slice_get at c.near.line)) (same c.near.line within.0)
    ∙ ap₂ (λ (line : ℕ) (role : Role). handed_on (far_end at roles c.near) (at_line line role c.far.channel) g) (line_same (slice_get at c.far.line)) (same c.far.line within.1))

-- no address of a line changes
address_found : (xs : List LineEnds) (to line : ℕ) (e : LineEnds) → e.dte.address ≡ (found_ends (slice_get xs to)).dte.address
    → (found_ends (slice_get (set xs to e) line)).dte.address ≡ (found_ends (slice_get xs line)).dte.address
address_found [] to line e same = refl
address_found (x ∷ xs) zero zero e same = same
address_found (x ∷ xs) zero (suc line) e same = refl
address_found (x ∷ xs) (suc to) zero e same = refl
address_found (x ∷ xs) (suc to) (suc line) e same = address_found xs to line e same

hop_stays : (holder : Option ℕ) (hop : HopValue) (b : Book) → (with_change holder (with_hop hop) b).dte.address ≡ b.dte.address
hop_stays None hop b = refl
hop_stays (Some n) hop b = refl

slot_stays : (role : Role) (channel : ℕ) (holder : Option ℕ) (b : Book) → (holds role channel holder b).dte.address ≡ b.dte.address
slot_stays Dte channel holder b = refl
slot_stays Dce channel holder b = refl

one_stays : (from to : ChannelEnd) (line : ℕ) (g : Register) → (book_at line (handed_on from to g)).dte.address ≡ (book_at line g).dte.address
one_stays from to line g = by (is_some (slice_get g.lines to.line))
  where
    by : (v : Bool) → (book_at line (if v then written_at to.line (goes_on to (holder_at from g)) g else g)).dte.address ≡ (book_at line g).dte.address
    by true = address_found g.lines to.line line _ (hop_stays (holder_at from g) _ (holds to.role to.channel (holder_at from g) (book_at to.line g)) ∙ slot_stays to.role to.channel (holder_at from g) (book_at to.line g))
    by false = refl

pub addresses_stay : (at : List ℕ) (roles : ℕ → Role) (joins : List NewJoin) (line : ℕ) (g : Register)
    → (book_at line (all_handed at roles joins g)).dte.address ≡ (book_at line g).dte.address
addresses_stay at roles [] line g = refl
addresses_stay at roles (j ∷ joins) line g =
    addresses_stay at roles joins line (handed_on (far_end at roles j.came_in) (own_end at roles j.placed) g)
    ∙ one_stays (far_end at roles j.came_in) (own_end at roles j.placed) line g

-- ---- a network in which the switch of a place is another one

pub record WithSwitch (plan : Plan) (ats : OwnLines) (xs : Switches) (place : ℕ) (s : Switch) (cs : List PlacedCall) (old_lines : Lines) (books : List Book) (w : World) (traces : List (List Origin)) : Type 0 where
  pub switches : Switches
  pub histories : Histories
  pub lines : Lines
  pub there : switches place ≡ Some (record { switch = s; histories = histories })
  pub elsewhere : (k : ℕ) (n : PlacedSwitch) → k ≢ place → IsSwitchAt n (ats k) (xs k) → IsSwitchAt n (ats k) (switches k)
  pub same_line : (line : ℕ) → IsOther (ats place) line → lines line ≡ old_lines line
  pub network : paths.IsNetwork plan ats switches cs lines books w traces

-- the others have what happened in their sight
pub others_see : (ats : OwnLines) (xs : Switches) (place : ℕ) (y : Switched) (lines : Lines) (books : List Book) (k : ℕ) (n : PlacedSwitch) → k ≢ place
    → IsSwitchAt n (ats k) (xs k) → IsSwitchAt n (ats k) (all_after place y ats lines books xs k)
others_see ats xs place y lines books k n ne h =
    let v = sighted n (ats k) lines books (xs k) h in
    record { histories = v.histories; is = if_there k place y (all_seen ats lines books xs) ne ∙ v.is; lines = v.lines }

-- ---- each event

-- what is at the other ends of its lines, and on the way
abbrev pub partners_then : SwitchEvent → Partners → Partners
partners_then (Hears own octets) ps = partners_after (Happens own (Brings octets)) ps
partners_then (Expires own id) ps = ps
partners_then (Relinks own) ps = ps
partners_then Restarts ps = λ n. restarted_partner (ps n)

pub record Moved (plan : Plan) (ats : OwnLines) (xs : Switches) (place : ℕ) (roles : ℕ → Role) (event : SwitchEvent) (s new : Switch) (h : Histories) (old_lines : Lines) (old : List Book) (w : World) : Type 0 where
  pub calls : List PlacedCall
  pub books : List Book
  pub world : World
  pub traces : List (List Origin)
  pub then_is : WithSwitch plan ats xs place new calls old_lines books world traces
  pub register : world.register ≡ all_handed (ats place) roles (joins_of event s) w.register
  pub count : length books ≡ length old
  pub same : (line : ℕ) → IsOther (ats place) line → slice_get books line ≡ slice_get old line
  pub written : (k : ℕ) → IsWritten Dce (h.books k) (then_is.histories.books k)
  pub partners : (k : ℕ) → then_is.histories.partners k ≡ partners_then event h.partners k

-- a frame that arrives is read, and is the first one on the way; at a restart none waits at the other ends
abbrev pub MayCome : (at : List ℕ) → SwitchEvent → Histories → Type 0
MayCome at (Hears own octets) h = AreOctets octets × BeginWith octets (h.partners own).up
MayCome at (Expires own id) h = Unit {0}
MayCome at (Relinks own) h = Unit {0}
MayCome at Restarts h = (own : ℕ) → own < length at
    → other_after line_law.Restarts (h.partners own).other ≡ (h.partners own).other

module _ (plan : Plan) (ats : OwnLines) (xs : Switches) (cs : List PlacedCall) (lines : Lines) (books : List Book) (w : World) (traces : List (List Origin)) (place : ℕ) (roles : ℕ → Role) (s : Switch) (h : Histories)
    (there : xs place ≡ Some (record { switch = s; histories = h })) (same_roles : (own : ℕ) → own < length (ats place) → (h.partners own).role ≡ roles own) (i : paths.IsNetwork plan ats xs cs lines books w traces) where
  abbrev x : Switched
  x = record { switch = s; histories = h }

  tied : IsTied s h
  tied = (i.stays place x there).tied

  abbrev with_switch : (t : Switch) (g : Histories) (ds : List PlacedCall) (register : Register) → (a : NetworkAfter plan ats xs place (record { switch = t; histories = g }) ds register lines books traces)
      → WithSwitch plan ats xs place t ds lines a.books a.world a.traces
  with_switch t g ds register a = record {
    switches = all_after place (record { switch = t; histories = g }) ats a.lines a.books xs;
    histories = g;
    lines = a.lines;
    there = if_here place place (record { switch = t; histories = g }) (all_seen ats a.lines a.books xs) refl;
    elsewhere = λ k n ne it. others_see ats xs place (record { switch = t; histories = g }) a.lines a.books k n ne it;
    same_line = a.others.same_line;
    network = a.network;
  }

  -- the calls that were joined are handed on as the switch tells of them
  handed_so : (t : Switch) (g : Histories) (new : List JoinedCall) (joins : List NewJoin) (register : Register)
      → (a : NetworkAfter plan ats xs place (record { switch = t; histories = g }) (cs ++ placed_at place new) register lines books traces) → map join_of_call new ≡ joins
      → paths.all_handed (ats place) (role_at x) new w.register ≡ all_handed (ats place) roles joins w.register
  handed_so t g new joins register a is =
      handed_same (ats place) (role_at x) roles new w.register same_roles (joins_within plan ats a.world.origins cs place new a.world.joins a.network.seen.joins)
      ∙ ap (λ (js : List NewJoin). all_handed (ats place) roles js w.register) is

  none_joined : (new : List JoinedCall) → new ≡ [] → paths.all_handed (ats place) (role_at x) new w.register ≡ w.register
  none_joined new none = ap (λ (js : List JoinedCall). paths.all_handed (ats place) (role_at x) js w.register) none

  -- an expiry of a timer that does not run moves nothing
  expired : (own : ℕ) (id : TimerId) (ran : Bool) → Moved plan ats xs place roles (Expires own id) s (if ran then on_expiry own id s else s) h lines books w
  expired own id true =
      let a = network_holds.timers plan ats xs cs lines books w traces place x own id there i in
      let new = calls_in own (RunsOut id) s h in
      let all = cs ++ placed_at place new in
      record {
        calls = all;
        books = a.books;
        world = a.world;
        traces = a.traces;
        then_is = with_switch (on_expiry own id s) (happened own (RunsOut id) s h) all _ a;
        register = a.same ∙ none_joined new (calls_hold.new.timers own id s h tied);
        count = a.others.count;
        same = a.others.same;
        written = λ k. writes_hold.events own (RunsOut id) s h k;
        partners = λ k. refl;
      }
  expired own id false = record {
    calls = cs;
    books = books;
    world = w;
    traces = traces;
    then_is = record {
      switches = xs;
      histories = h;
      lines = lines;
      there = there;
      elsewhere = λ k n ne it. it;
      same_line = λ line other. refl;
      network = i;
    };
    register = refl;
    count = refl;
    same = λ line o. refl;
    written = λ k. nothing_written (h.books k);
    partners = λ k. refl;
  }

  pub moved : (event : SwitchEvent) → MayCome (ats place) event h → Moved plan ats xs place roles event s (switched event s) h lines books w
  moved (Hears own octets) may =
      let a = network_holds.frames plan ats xs cs lines books w traces place x own octets there may.0 may.1 i in
      let new = calls_in own (Brings octets) s h in
      let all = cs ++ placed_at place new in
      record {
        calls = all;
        books = a.books;
        world = a.world;
        traces = a.traces;
        then_is = with_switch (switched (Hears own octets) s) (happened own (Brings octets) s h) all _ a;
        register = a.same ∙ handed_so (switched (Hears own octets) s) (happened own (Brings octets) s h) new (joins_of (Hears own octets) s) _ a (calls_hold.new.frames own octets s h may.0 tied);
        count = a.others.count;
        same = a.others.same;
        written = λ k. writes_hold.events own (Brings octets) s h k;
        partners = λ k. refl;
      }
  moved (Expires own id) may = expired own id (timer_runs (slice_get s.lines own) id)
  moved (Relinks own) may =
      let a = network_holds.relinks plan ats xs cs lines books w traces place x own there i in
      let new = calls_in own RelinksLine s h in
      let all = cs ++ placed_at place new in
      record {
        calls = all;
        books = a.books;
        world = a.world;
        traces = a.traces;
        then_is = with_switch (switched (Relinks own) s) (happened own RelinksLine s h) all _ a;
        register = a.same ∙ none_joined new (calls_hold.new.relinks own s h tied);
        count = a.others.count;
        same = a.others.same;
        written = λ k. writes_hold.events own RelinksLine s h k;
        partners = λ k. refl;
      }
  moved Restarts may =
      let a = network_holds.restarts plan ats xs cs lines books w traces place x there may i in
      record {
        calls = cs;
        books = a.books;
        world = a.world;
        traces = a.traces;
        then_is = with_switch (switched Restarts s) (restarted s h) cs _ a;
        register = a.same;
        count = a.others.count;
        same = a.others.same;
        written = λ k. writes_hold.restarts s h k;
        partners = λ k. refl;
      }
