-- Events of a switch of a network.
use Rattle.std.specs.Prelude.{◌≡◌, ◌≢◌, ◌≤◌, ℕ, zero, suc, ◌<◌, ◌⊎◌, Bool, true, false, ◌==◌, nat_lt, if◌then◌else◌, List, [], ◌∷◌, ◌++◌, length, map, slice_get, Option, Some, None}
use Rattle.std.proofs.Common.{inl, inr, refl, sym, ap, subst, ◌∙◌, true≢false, arith, option_map, append-nil}
use Rattle.std.proofs.lemmas.Option.{none-some, same_Some}
use Rattle.std.proofs.lemmas.Bool.{ltb-true, lt-ltb}
use Rattle.link_timers.specs.declared.role.Role.{Role}
use Rattle.link_timers.specs.declared.role.Role.TheVariants.{Dce}
use Rattle.packet_layer.specs.Layer.{Layer, link_down}
use Rattle.address_routes.specs.Routes.{RouteMap, line_for}
use Rattle.call_records.specs.Book.{Book}
use Rattle.call_records.specs.Writes.{all_written}
use Rattle.call_records.specs.Writes.Write.{Told}
use Rattle.record_laws.proofs.Books.Basics.{number_is}
use Rattle.switch_lines.specs.Lines.{SwitchLine}
use Rattle.switch_lines.specs.Switch.{Switch, on_frame, on_expiry, relink, elapse, restart, without_joins, finished, acted, all_begun}
use Rattle.switch_laws.specs.World.{layers_of}
use Rattle.switch_laws.specs.Steps.{Happening, does}
use Rattle.switch_laws.specs.Steps.Happening.{Brings, RunsOut, Relinks}
use Rattle.switch_laws.specs.Steps.Step.{Happens, Elapses}
use Rattle.switch_laws.specs.EventSteps.{event_steps}
use Rattle.switch_laws.proofs.Leading.{event_leads}
use Rattle.switch_laws.proofs.Lists.{get_map, map_unchanged}
use Rattle.switch_joins.proofs.Apart.{decided}
use Rattle.switch_laws.proofs.Turning.{received_effect, timer_effect, relinked_effect, EndEffect}
use Rattle.switched_call_laws.specs.SwitchRecords.Written.{Books, restart_writes}
use Rattle.switched_call_laws.specs.SwitchRecords.Turned.{sight}
use Rattle.switched_call_laws.specs.SwitchRecords.Kept.{Partner, Partners, IsFit, ReadsOctets, without_first, partners_after, sent_on, all_frames_out}
use Rattle.switched_call_laws.specs.SwitchRecords.Tied.{IsTied, happened, restarted, gone_out, sent_out}
use Rattle.switched_call_laws.proofs.SwitchRecords.Calming.{addresses}
use Rattle.switched_call_laws.proofs.SwitchRecords.Tying.{tied_holds}
use Rattle.switched_call_laws.specs.JoinedCalls.Calls.{JoinedCall, AreCalls}
use Rattle.switched_call_laws.specs.JoinedCalls.JoinLaws.{calls_in, IsWritten}
use Rattle.switched_call_laws.proofs.JoinedCalls.Outside.{nothing_written, writes_hold}
use Rattle.switched_call_laws.proofs.JoinedCalls.Following.{addresses_led}
use Rattle.switched_call_laws.proofs.JoinedCalls.CallsAfterEvents.{calls_after, calls_hold}
use Rattle.record_laws.specs.CallPaths.World.{Origin, World, Plan}
use Rattle.switched_call_laws.specs.SwitchPaths.Sight.{Switched, Switches, OwnLines, Lines, role_at}
use Rattle.switched_call_laws.specs.SwitchPaths.Network.{IsPlanned, PlacedCall, placed_at, of_switch, all_handed, AllSeen, IsNetwork}
use Rattle.switched_call_laws.specs.SwitchPaths.SwitchPathLaws.{NetworkAfter, NetworkStays, FrameLaw, TimerLaw, RelinkLaw, ElapseLaw, OutLaw, RestartLaw}
use Rattle.switched_call_laws.proofs.SwitchPaths.Listing.{others_same}
use Rattle.switched_call_laws.proofs.SwitchPaths.Seeing.{IsSeen, seen_of, seen_with, Moved, moved_then, StandsAt, Beyond, silently, stays_quietly, stays_sending, stays_accepting, stays_joining, switch_writes, same_books}
use Rattle.switched_call_laws.proofs.SwitchPaths.PartnerMoves.{switch_moves, switch_stays}

-- ---- the plan stays

length_addresses : (ls : List SwitchLine) → length (addresses ls) ≡ length ls
length_addresses [] = refl
length_addresses (l ∷ ls) = ap suc (length_addresses ls)

same_length : (ls ms : List SwitchLine) → addresses ms ≡ addresses ls → length ms ≡ length ls
same_length ls ms e = sym (length_addresses ms) ∙ (ap (λ (as_ : List (Option (List ℕ))). length as_) e ∙ length_addresses ls)

address_got : (ls : List SwitchLine) (n : ℕ) (a : Option (List ℕ)) → slice_get (addresses ls) n ≡ Some a → (l : SwitchLine) × ((slice_get ls n ≡ Some l) × (l.address ≡ a))
address_got ls n a e = by_line (slice_get ls n) refl
  where
    got : slice_get (addresses ls) n ≡ option_map (λ l. l.address) (slice_get ls n)
    got = get_map (λ l. l.address) ls n

    by_line : (o : Option SwitchLine) → slice_get ls n ≡ o → (l : SwitchLine) × ((slice_get ls n ≡ Some l) × (l.address ≡ a))
    by_line None f = absurd (none-some a (sym (got ∙ ap (λ (o : Option SwitchLine). option_map (λ l. l.address) o) f) ∙ e))
    by_line (Some l) f = (l, (f, same_Some l.address a (sym (got ∙ ap (λ (o : Option SwitchLine). option_map (λ l. l.address) o) f) ∙ e)))

planned_stays : (plan : Plan) (place : ℕ) (at : List ℕ) (roles : ℕ → Role) (s t : Switch) → t.routes ≡ s.routes → addresses t.lines ≡ addresses s.lines → IsPlanned plan place at roles s → IsPlanned plan place at roles t
planned_stays plan place at roles s t routes e i = record {
  lines = i.lines ∙ sym (same_length s.lines t.lines e);
  apart = i.apart;
  switch_end = i.switch_end;
  placed = i.placed;
  address = λ n l f.
      let old = address_got s.lines n l.address (ap (λ (as_ : List (Option (List ℕ))). slice_get as_ n) (sym e) ∙ (get_map (λ y. y.address) t.lines n ∙ ap (λ (o : Option SwitchLine). option_map (λ y. y.address) o) f)) in
      sym old.1.1 ∙ i.address n old.0 old.1.0;
  route = λ called n h f. i.route called n h (ap (λ (r : RouteMap). line_for r called) (sym routes) ∙ f);
}

tail : List JoinedCall → List JoinedCall
tail [] = []
tail (c ∷ cs) = cs

same_rest : (xs ys zs : List JoinedCall) → xs ++ ys ≡ xs ++ zs → ys ≡ zs
unfolding tail
same_rest [] ys zs e = e
same_rest (x ∷ xs) ys zs e = same_rest xs ys zs (ap tail e)

-- its lines are at its end of them
stands_so : (plan : Plan) (place : ℕ) (at : List ℕ) (roles : ℕ → Role) (s : Switch) → IsPlanned plan place at roles s → StandsAt plan place at roles
stands_so plan place at roles s p = record { apart = p.apart; switch_end = p.switch_end; placed = p.placed }

-- ---- an event on a line

-- what comes to a line leaves its role and its other end
without_first_stays : (v : Bool) (p : Partner) → ((if v then without_first p else p).role ≡ p.role) × ((if v then without_first p else p).other ≡ p.other)
without_first_stays true p = (refl, refl)
without_first_stays false p = (refl, refl)

event_stays : (n : ℕ) (what : Happening) (ps : Partners) (k : ℕ) → ((partners_after (Happens n what) ps k).role ≡ (ps k).role) × ((partners_after (Happens n what) ps k).other ≡ (ps k).other)
event_stays n (Brings octets) ps k = without_first_stays (k == n) (ps k)
event_stays n (RunsOut id) ps k = (refl, refl)
event_stays n Relinks ps k = (refl, refl)

event_after : (plan : Plan) (ats : OwnLines) (xs : Switches) (cs : List PlacedCall) (lines : Lines) (books : List Book) (w : World) (traces : List (List Origin)) (place : ℕ) (x : Switched) (n : ℕ) (what : Happening) (t : Switch)
    → t.lines ≡ finished x.switch.routes n (acted x.switch.routes n (does what) (all_begun x.switch.lines)) → t.routes ≡ x.switch.routes
    → ((line : SwitchLine) → slice_get (all_begun x.switch.lines) n ≡ Some line → EndEffect n what line.end) → ReadsOctets what → IsFit (Happens n what) x.histories.partners → IsTied t (happened n what x.switch x.histories)
    → xs place ≡ Some x → IsNetwork plan ats xs cs lines books w traces
    → NetworkAfter plan ats xs place (record { switch = t; histories = happened n what x.switch x.histories }) (cs ++ placed_at place (calls_in n what x.switch x.histories)) (all_handed (ats place) (role_at x) (calls_in n what x.switch x.histories) w.register) lines books traces
event_after plan ats xs cs lines books w traces place x n what t is routes eff reads fits tied there i =
    let s = x.switch in
    let h = x.histories in
    let at = ats place in
    let roles : ℕ → Role = role_at x in
    let p = i.planned place x there in
    let st = i.stays place x there in
    let stands = stands_so plan place at roles s p in
    let given = addresses s.lines in
    let keeps = stays_quietly plan ats place roles stands cs books traces w.register in
    let sends = stays_sending plan ats place roles stands cs books traces w.register in
    let accepts = stays_accepting plan ats place roles stands cs books traces w.register in
    let joins = stays_joining plan ats place roles stands s.routes given (p.lines ∙ sym (length_addresses s.lines)) i.alike
    (λ m a e. let l = address_got s.lines m a e in sym l.1.1 ∙ p.address m l.0 l.1.0) p.route cs books traces w.register in
    let seen = seen_with plan ats place roles h.books cs books w traces (λ m less. (st.sight m less).book) i.seen in
    let start : Beyond plan ats place roles stands cs books traces w.register h.books (of_switch place cs) =
    record { new = []; is = sym (append-nil (of_switch place cs)); moved = subst (λ (ds : List PlacedCall). Moved plan ats place roles h.books ds books traces w.register) (sym (append-nil cs)) (record { books = books; world = w; traces = traces; is = seen; same = refl; others = others_same at books traces }) } in
    let a = calls_after (Beyond plan ats place roles stands cs books traces w.register) keeps sends accepts n what s t h (of_switch place cs) joins is eff reads fits st.tied st.calls start in
    let same : addresses t.lines ≡ addresses s.lines = addresses_led (event_steps s.routes n what s.lines) s.lines t.lines (addresses s.lines) (event_leads s.routes n what s.lines ∙ sym is) refl in
    let new : a.1.new ≡ calls_in n what s h = same_rest (of_switch place cs) a.1.new (calls_in n what s h) (sym a.1.is) in
    let m = a.1.moved in
    switch_moves plan ats xs place x (record { switch = t; histories = happened n what s h }) cs a.1.new lines books m.books w m.world traces m.traces there i (record {
      planned = planned_stays plan place at roles s t routes same p;
      tied = tied;
      calls = subst (λ (ds : List JoinedCall). AreCalls t.lines (happened n what s h).books ds) a.1.is a.0;
      among = m.is.among;
      written = λ k. writes_hold.events n what s h k;
      role = λ k. (event_stays n what h.partners k).0;
      other = λ k less. (event_stays n what h.partners k).1;
      others = m.others;
      seen = seen_of plan ats place roles (happened n what s h).books (cs ++ placed_at place a.1.new) m.books m.world m.traces m.is;
    }) (cs ++ placed_at place (calls_in n what s h)) (all_handed at roles (calls_in n what s h) w.register)
    (ap (λ (ds : List JoinedCall). cs ++ placed_at place ds) new) (m.same ∙ ap (λ (ds : List JoinedCall). all_handed at roles ds w.register) new)

pub frame_after : FrameLaw
frame_after plan ats xs cs lines books w traces place x n octets there are first i =
    event_after plan ats xs cs lines books w traces place x n (Brings octets) (on_frame n octets x.switch) refl refl (λ line e. received_effect n octets line.end) are first (tied_holds.frames n octets x.switch x.histories are first (i.stays place x there).tied) there i

pub timer_after : TimerLaw
timer_after plan ats xs cs lines books w traces place x n id there i =
    event_after plan ats xs cs lines books w traces place x n (RunsOut id) (on_expiry n id x.switch) refl refl (λ line e. timer_effect n id line.end) tt tt (tied_holds.timers n id x.switch x.histories (i.stays place x there).tied) there i

pub relink_after : RelinkLaw
relink_after plan ats xs cs lines books w traces place x n there i =
    event_after plan ats xs cs lines books w traces place x n Relinks (relink n x.switch) refl refl (λ line e. relinked_effect n line.end) tt tt (tied_holds.relinks n x.switch x.histories (i.stays place x there).tied) there i

-- ---- events that write nothing in the books

module _ (plan : Plan) (ats : OwnLines) (xs : Switches) (cs : List PlacedCall) (lines : Lines) (books : List Book) (w : World) (traces : List (List Origin)) (place : ℕ) (x : Switched) (there : xs place ≡ Some x) (i : IsNetwork plan ats xs cs lines books w traces) where
  quietly : (y : Switched) → y.histories.books ≡ x.histories.books → addresses y.switch.lines ≡ addresses x.switch.lines → y.switch.routes ≡ x.switch.routes → IsTied y.switch y.histories → AreCalls y.switch.lines x.histories.books (of_switch place cs)
      → ((n : ℕ) → role_at y n ≡ role_at x n) → ((n : ℕ) → n < length (ats place) → (y.histories.partners n).other ≡ (x.histories.partners n).other)
      → NetworkStays plan ats xs place y cs lines books w traces
  quietly y same_books same routes tied calls role other =
      switch_stays plan ats xs place x y cs [] lines books books w w traces traces there i (record {
        planned = planned_stays plan place (ats place) (role_at x) x.switch y.switch routes same (i.planned place x there);
        tied = tied;
        calls = subst (λ (bs : Books). AreCalls y.switch.lines bs (of_switch place cs ++ [])) (sym same_books) (subst (λ (ds : List JoinedCall). AreCalls y.switch.lines x.histories.books ds) (sym (append-nil (of_switch place cs))) calls);
        among = λ n h. ((i.stays place x there).sight n h).book ∙ ap (λ (bs : Books). Some (sight (role_at x n) (bs n))) (sym same_books);
        written = λ n. subst (λ (bs : Books). IsWritten Dce (x.histories.books n) (bs n)) (sym same_books) (nothing_written (x.histories.books n));
        role = role;
        other = other;
        others = others_same (ats place) books traces;
        seen = subst (λ (ds : List PlacedCall). AllSeen plan ats ds books w traces) (sym (append-nil cs)) i.seen;
      }) cs (append-nil cs)

pub elapse_after : ElapseLaw
elapse_after plan ats xs cs lines books w traces place x ticks there i =
    let same : addresses (elapse ticks x.switch).lines ≡ addresses x.switch.lines = addresses_led (Elapses ticks ∷ []) x.switch.lines (elapse ticks x.switch).lines (addresses x.switch.lines) refl refl in
    let st = i.stays place x there in
    quietly plan ats xs cs lines books w traces place x there i (record { switch = elapse ticks x.switch; histories = x.histories }) refl same refl
    (tied_holds.elapses ticks x.switch x.histories st.tied) (calls_hold.elapses ticks x.switch x.histories (of_switch place cs) st.tied st.calls) (λ n. refl) (λ n h. refl)

sent_stays : (v : Bool) (l : SwitchLine) (kept : List Bool) (p : Partner) → ((if v then sent_on l kept p else p).role ≡ p.role) × ((if v then sent_on l kept p else p).other ≡ p.other)
sent_stays true l kept p = (refl, refl)
sent_stays false l kept p = (refl, refl)

pub out_after : OutLaw
out_after plan ats xs cs lines books w traces place x n l kept there got i =
    let same : addresses (gone_out n x.switch).lines ≡ addresses x.switch.lines = map_unchanged (λ y. y.address) all_frames_out n x.switch.lines (λ y. refl) in
    let st = i.stays place x there in
    quietly plan ats xs cs lines books w traces place x there i (record { switch = gone_out n x.switch; histories = sent_out n l kept x.histories }) refl same refl
    (tied_holds.out n l kept x.switch x.histories got st.tied) (calls_hold.out n x.switch x.histories (of_switch place cs) st.tied st.calls)
    (λ k. (sent_stays (k == n) l kept (x.histories.partners k)).0) (λ k h. (sent_stays (k == n) l kept (x.histories.partners k)).1)

-- ---- a restart

restarted_addresses : (ls : List SwitchLine) → addresses (map without_joins ls) ≡ addresses ls
restarted_addresses [] = refl
restarted_addresses (l ∷ ls) = ap (λ (as_ : List (Option (List ℕ))). l.address ∷ as_) (restarted_addresses ls)

-- the first `k` lines are restarted
abbrev partly : (k : ℕ) → List Layer → Books → Books
partly k ys bs = λ n. if nat_lt n k then restart_writes (slice_get ys n) (bs n) else bs n

not_less : (n k : ℕ) → k ≤ n → nat_lt n k ≡ false
not_less n k h = by_test (nat_lt n k) refl
  where
    by_test : (v : Bool) → nat_lt n k ≡ v → nat_lt n k ≡ false
    by_test true e = let f : n < k = ltb-true n k e in absurd (omega arith)
    by_test false e = e

module _ (plan : Plan) (ats : OwnLines) (place : ℕ) (roles : ℕ → Role) (stands : StandsAt plan place (ats place) roles) where
  restarts_partly : (k : ℕ) (ys : List Layer) (bs : Books) (cs : List PlacedCall) (books : List Book) (w : World) (traces : List (List Origin)) → k ≤ length (ats place) → IsSeen plan ats place roles bs cs books w traces → Moved plan ats place roles (partly k ys bs) cs books traces w.register
  restarts_partly zero ys bs cs books w traces h i =
      same_books plan ats place roles stands bs (partly zero ys bs) cs books w traces (λ n g. let z : zero ≤ n = omega arith in ap (λ (v : Bool). if v then restart_writes (slice_get ys n) (bs n) else bs n) (not_less n zero z)) i
  restarts_partly (suc k) ys bs cs books w traces h i =
      let g : k ≤ length (ats place) = omega arith in
      let f : k < length (ats place) = omega arith in
      let m = restarts_partly k ys bs cs books w traces g i in
      let here : partly (suc k) ys bs k ≡ restart_writes (slice_get ys k) (bs k) = let e : k < suc k = omega arith in ap (λ (v : Bool). if v then restart_writes (slice_get ys k) (bs k) else bs k) (lt-ltb k (suc k) e) in
      let before : partly k ys bs k ≡ bs k = let e : k ≤ k = omega arith in ap (λ (v : Bool). if v then restart_writes (slice_get ys k) (bs k) else bs k) (not_less k k e) in
      let elsewhere : (n : ℕ) → n ≢ k → partly (suc k) ys bs n ≡ partly k ys bs n = λ n ne. ap (λ (v : Bool). if v then restart_writes (slice_get ys n) (bs n) else bs n) (same_test n k ne) in
      moved_then plan ats place roles (partly k ys bs) (partly (suc k) ys bs) cs cs books traces w.register m.world.register w.register m (one f m here before elsewhere) m.same
    where
      same_test : (n k : ℕ) → n ≢ k → nat_lt n (suc k) ≡ nat_lt n k
      same_test n k ne = by_order (decided (nat_lt n k))
        where
          by_order : (nat_lt n k ≡ true) ⊎ (nat_lt n k ≡ false) → nat_lt n (suc k) ≡ nat_lt n k
          by_order (inl t) = let f : n < k = ltb-true n k t in let e : n < suc k = omega arith in lt-ltb n (suc k) e ∙ sym t
          by_order (inr e) = by_more (decided (nat_lt n (suc k)))
            where
              by_more : (nat_lt n (suc k) ≡ true) ⊎ (nat_lt n (suc k) ≡ false) → nat_lt n (suc k) ≡ nat_lt n k
              by_more (inr z) = z ∙ sym e
              by_more (inl t) =
                  let f : n < suc k = ltb-true n (suc k) t in
                  elim (number_is n k) [
                    | inl is ↦ absurd (ne is)
                    | inr other ↦ (let g : n < k = omega arith in absurd (true≢false (sym (lt-ltb n k g) ∙ e)))
                  ]

      one : k < length (ats place) → (m : Moved plan ats place roles (partly k ys bs) cs books traces w.register) → partly (suc k) ys bs k ≡ restart_writes (slice_get ys k) (bs k) → partly k ys bs k ≡ bs k → ((n : ℕ) → n ≢ k → partly (suc k) ys bs n ≡ partly k ys bs n)
          → Moved plan ats place roles (partly (suc k) ys bs) cs m.books m.traces m.world.register
      one f m here before elsewhere = by_layer (slice_get ys k) refl
        where
          by_layer : (o : Option Layer) → slice_get ys k ≡ o → Moved plan ats place roles (partly (suc k) ys bs) cs m.books m.traces m.world.register
          by_layer None e =
              same_books plan ats place roles stands (partly k ys bs) (partly (suc k) ys bs) cs m.books m.world m.traces
              (λ n g. elim (number_is n k) [
                | inl is ↦ ap (λ (i : ℕ). partly (suc k) ys bs i) is ∙ (here ∙ (ap (λ (o : Option Layer). restart_writes o (bs k)) e ∙ (sym before ∙ ap (λ (i : ℕ). partly k ys bs i) (sym is))))
                | inr ne ↦ elsewhere n ne
              ]) m.is
          by_layer (Some l) e =
              switch_writes plan ats place roles stands k (Told (link_down l).notes ∷ []) (partly k ys bs) (partly (suc k) ys bs) cs m.books m.world m.traces f (tt, tt) (silently plan ats place roles stands k (Told (link_down l).notes ∷ []) m.world m.is.seen (tt, tt))
              (here ∙ (ap (λ (o : Option Layer). restart_writes o (bs k)) e ∙ ap (λ (b : Book). all_written Dce (Told (link_down l).notes ∷ []) b) (sym before))) elsewhere m.is

pub restart_after : RestartLaw
restart_after plan ats xs cs lines books w traces place x there none i =
    let s = x.switch in
    let h = x.histories in
    let at = ats place in
    let roles : ℕ → Role = role_at x in
    let p = i.planned place x there in
    let st = i.stays place x there in
    let stands = stands_so plan place at roles s p in
    let at_most : length at ≤ length at = omega arith in
    let seen = seen_with plan ats place roles h.books cs books w traces (λ m less. (st.sight m less).book) i.seen in
    let m = restarts_partly plan ats place roles stands (length at) (layers_of s.lines) h.books cs books w traces at_most seen in
    let y = same_books plan ats place roles stands (partly (length at) (layers_of s.lines) h.books) (restarted s h).books cs m.books m.world m.traces
    (λ n g. sym (ap (λ (v : Bool). if v then restart_writes (slice_get (layers_of s.lines) n) (h.books n) else h.books n) (lt-ltb n (length at) g))) m.is in
    let z = moved_then plan ats place roles (partly (length at) (layers_of s.lines) h.books) (restarted s h).books cs cs books traces w.register m.world.register w.register m y m.same in
    let same : addresses (restart s).lines ≡ addresses s.lines = restarted_addresses s.lines in
    switch_moves plan ats xs place x (record { switch = restart s; histories = restarted s h }) cs [] lines books z.books w z.world traces z.traces there i (record {
      planned = planned_stays plan place at roles s (restart s) refl same p;
      tied = tied_holds.restarts s h st.tied;
      calls = subst (λ (ds : List JoinedCall). AreCalls (restart s).lines (restarted s h).books ds) (sym (append-nil (of_switch place cs))) (calls_hold.restarts s h (of_switch place cs) st.tied st.calls);
      among = z.is.among;
      written = λ k. writes_hold.restarts s h k;
      role = λ k. refl;
      other = none;
      others = z.others;
      seen = subst (λ (ds : List PlacedCall). AllSeen plan ats ds z.books z.world z.traces) (sym (append-nil cs)) (seen_of plan ats place roles (restarted s h).books cs z.books z.world z.traces z.is);
    }) cs w.register (append-nil cs) z.same
