-- A Call that makes an Incoming Call is the one that the other end placed in the same restart and use.
use Rattle.std.proofs.Common.{◌≡◌, ℕ, suc, ◌<◌, ◌≤◌, Bool, true, false, cond, ◌||◌, ◌==◌, List, ◌∷◌, ◌++◌, drop, slice_get, Some, None, refl, sym, ap, subst, ◌∙◌, arith, inl, inr}
use Rattle.std.proofs.lemmas.Bool.{eq-eqb, ne_eqb, cases_eq}
use Rattle.link_timers.specs.declared.role.Role.{Role}
use Rattle.data_transfer.specs.declared.flow.Flow.{Flow}
use Rattle.data_transfer.specs.Packets.{CallParts, Body, Packet}
use Rattle.data_transfer.specs.Packets.Body.{Call}
use Rattle.packet_channel.specs.Channel.{Channel}
use Rattle.packet_laws.specs.History.{Epoch, History}
use Rattle.packet_laws.specs.LayerLine.{Line}
use Rattle.packet_laws.specs.LayerLineLaw.{CallArrives, CallKnown, TakesCall}
use Rattle.packet_laws.proofs.Handshakes.Handshake.{Kind, Side, Two, at, Seen, Walk, Inv}
use Rattle.packet_laws.proofs.Handshakes.Handshake.Kind.{Payload}
use Rattle.packet_laws.proofs.Handshakes.Walks.{walk_reach, walk_above}
use Rattle.packet_laws.proofs.Handshakes.Keeping.{same, drop_get}
use Rattle.packet_laws.proofs.Call.Levels.{restart_kind, clear_kind, CallUse, Uses, Whole, first_call, first_use, GoodCall, GoodUses, GoodWhole}
use Rattle.packet_laws.proofs.Line.Stored.{stored, stored_whole, shown, Settled, SettledWhole, SettledUses, settled_uses, Frozen}
use Rattle.packet_laws.proofs.Line.Lines.{on_c, Tied}
use Rattle.packet_laws.proofs.Line.Arriving.{drop_packet, cond_append}
use Rattle.packet_laws.proofs.Line.Outcomes.{some_same, ready_phase}

-- payload at the head of the pipe to a ready end is at the head of the pipe inside
peek : (kind : Body → Kind) (I : Type 0) (start : I) (Good : Two I → Type 0) (x y : Side I) (o : List Body) (t : Body) (ts : List Body) → kind t ≡ Payload → x.own ≡ false
    → Inv kind I start Good (record { me = x; you = y; out = o; back = t ∷ ts })
    → Good (record { me = x.now; you = at y x.number; out = drop (y.came x.number) (x.put x.number); back = t ∷ drop (suc (x.came x.number)) (y.put x.number) })
peek kind I start Good x y o t ts pay ready i =
    let walk0 : Seen (kind t) false x.number (x.came x.number) t y.put (λ o k d. Walk kind y.put y.number o k d ts) = subst (λ (b : Bool). Walk kind y.put y.number b x.number (x.came x.number) (t ∷ ts)) ready i.aft.walk in
    let walk1 : (slice_get (y.put x.number) (x.came x.number) ≡ Some t) × Walk kind y.put y.number false x.number (suc (x.came x.number)) ts = subst (λ (k : Kind). Seen k false x.number (x.came x.number) t y.put (λ o k d. Walk kind y.put y.number o k d ts)) pay walk0 in
    subst (λ (l : List Body). Good (record { me = x.now; you = at y x.number; out = drop (y.came x.number) (x.put x.number); back = l })) (drop_get (y.put x.number) (x.came x.number) t walk1.0)
    (subst (λ (b : Bool). Good (record { me = cond b x.now (x.past x.number); you = at y x.number; out = drop (y.came x.number) (x.put x.number); back = drop (x.came x.number) (y.put x.number) })) (same x.number) (i.inners x.number))

-- a later number of the other end is not begun, or begun by its own unconfirmed request
between : (a k n : ℕ) → (k ≡ a → ⊥) → a ≤ suc n → n < k → a < k
between a k n ne le lt = omega arith

ahead_own : (kind : Body → Kind) (I : Type 0) (start : I) (x y : Side I) (o : List Body) (k : ℕ) (own : Bool) → y.own ≡ own → (y.own ≡ true → y.now ≡ start) → x.number < k → k ≡ y.number
    → Walk kind x.put x.number y.own y.number (y.came y.number) o → y.now ≡ start
ahead_own kind I start x y o k true e settled lt f walk = settled e
ahead_own kind I start x y o k false e settled lt f walk =
    let w : Walk kind x.put x.number false y.number (y.came y.number) o = subst (λ (v : Bool). Walk kind x.put x.number v y.number (y.came y.number) o) e walk in
    let r = walk_reach kind x.put x.number o y.number (y.came y.number) w in
    let n : ⊥ = omega arith in absurd n

ahead : (kind : Body → Kind) (I : Type 0) (start : I) (Good : Two I → Type 0) (x y : Side I) (o b : List Body) (k : ℕ) → (y.own ≡ true → y.now ≡ start) → x.number < k
    → Inv kind I start Good (record { me = x; you = y; out = o; back = b }) → at y k ≡ start
ahead kind I start Good x y o b k settled lt i =
    elim (cases_eq k y.number) [
      | inl e ↦ ap (λ (v : Bool). cond v y.now (y.past k)) (eq-eqb k y.number e) ∙ ahead_own kind I start x y o k y.own refl settled lt e i.fore.walk
      | inr ne ↦ ap (λ (v : Bool). cond v y.now (y.past k)) (ne_eqb k y.number ne)
          ∙ (i.aft.later k (between y.number k x.number ne (walk_above kind x.put x.number o y.own y.number (y.came y.number) i.fore.walk) lt)).2
    ]

either : (v : Bool) (c : ℕ) → (v || (c == c)) ≡ true
either true c = refl
either false c = same c

first_placed : (v : Bool) → (cond v first_call first_call).placed ≡ None
first_placed true = refl
first_placed false = refl

unsettled : (y : Whole) → Settled y → y.own ≡ true → y.now ≡ first_use
unsettled y s e = subst (λ (v : Bool). SettledWhole v y.now) e s

-- in each restart, that before the present one too
settled_pick : (b : Bool) (s p : Uses) → SettledUses s.own s.now → SettledUses p.own p.now → (cond b s p).own ≡ true → (cond b s p).now ≡ first_call
settled_pick true s p e f h = subst (λ (v : Bool). SettledUses v s.now) h e
settled_pick false s p e f h = subst (λ (v : Bool). SettledUses v p.now) h f

settled_in : (y : Whole) (k : ℕ) → Settled y → Frozen y → (at y k).own ≡ true → (at y k).now ≡ first_call
settled_in y k s f h = settled_pick (k == y.number) y.now (y.past k) (settled_uses y.own y.now s) (f k) h

-- a channel in p1 or with its own call waiting, in r1, is in no clear
takes_own : (own : Bool) (s : Uses) → TakesCall (stored_whole false (record s { own = own })).state → own ≡ false
takes_own true s h = absurd h
takes_own false s h = refl

pub call_known : (flow : Flow) (role : Role) (w : Line) (s c : ℕ) (parts : CallParts) → Tied flow role w s c → CallArrives w s c parts → CallKnown (w.me.histories s c) (w.you.histories s c) parts
call_known flow role w s c parts t a =
    let x : Whole = t.x in let y : Whole = t.y in
    let pr = t.mine.present a.up in
    let ready : x.own ≡ false = ready_phase x.own (sym pr.phase_is ∙ a.ready) in
    let ch_is : a.channel ≡ shown (stored x) pr.owed = some_same a.channel (shown (stored x) pr.owed) (sym a.found ∙ pr.channel_is) in
    let takes : TakesCall (stored_whole false x.now).state = subst (λ (v : Bool). TakesCall (stored_whole v x.now).state) ready (subst (λ (ch : Channel). TakesCall ch.state) ch_is a.takes) in
    let clear : x.now.own ≡ false = takes_own x.now.own x.now takes in
    let p : Packet = record { channel = c; body = Call parts } in
    let left : List Body = on_c c (drop (suc (w.me.accepted s)) (w.you.offered s)) ++ t.yours.rest in
    let here : ((c == 0) || (c == c)) ≡ true = either (c == 0) c in
    let b_is : t.b ≡ Call parts ∷ left =
    t.yours.out_is ∙ ap (λ (q : List Packet). on_c c q ++ t.yours.rest) (drop_packet (w.you.offered s) (w.me.accepted s) p a.next)
    ∙ cond_append ((c == 0) || (c == c)) (Call parts) (on_c c (drop (suc (w.me.accepted s)) (w.you.offered s))) t.yours.rest
    ∙ ap (λ (v : Bool). cond v (Call parts ∷ left) left) here in
    let g : GoodWhole flow role (record { me = x; you = y; out = t.o; back = Call parts ∷ left }) = subst (λ (l : List Body). GoodWhole flow role (record { me = x; you = y; out = t.o; back = l })) b_is t.good in
    let uses = peek restart_kind Uses first_use (λ u. GoodUses flow role u) x y t.o (Call parts) left refl ready g in
    let call = peek clear_kind CallUse first_call (λ u. GoodCall flow role u) x.now (at y x.number) _ (Call parts) _ refl clear uses in
    let st : History = w.me.histories s c in let zt : History = w.you.histories s c in
    let tie = t.yours.history in
    let rs = t.mine.history.restart_is in let us = t.mine.history.use_is in
    record {
      known = λ g.
          ap (λ (e : Epoch). e.called) (tie.epochs_are st.restart st.use_ g)
          ∙ ap (λ (k : ℕ). (at (at y k) st.use_).placed) rs ∙ ap (λ (k : ℕ). (at (at y x.number) k).placed) us ∙ call.calls_you.0;
      last_restart = λ r u g lt.
          ap (λ (e : Epoch). e.called) (tie.epochs_are r u g)
          ∙ ap (λ (v : Uses). (at v u).placed) (ahead restart_kind Uses first_use (λ u. GoodUses flow role u) x y t.o t.b r (unsettled y t.yours.settled) (omega arith) t.good)
          ∙ first_placed (u == 0);
      last_use = λ u g lt.
          ap (λ (e : Epoch). e.called) (tie.epochs_are st.restart u g)
          ∙ ap (λ (k : ℕ). (at (at y k) u).placed) rs
          ∙ ap (λ (v : CallUse). v.placed) (ahead clear_kind CallUse first_call (λ u. GoodCall flow role u) x.now (at y x.number) _ _ u (settled_in y x.number t.yours.settled t.yours.frozen) (omega arith) uses);
    }
