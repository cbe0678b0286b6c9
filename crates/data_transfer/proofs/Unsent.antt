-- A call in data transfer has no packet for the link exactly if nothing that may go stays unsent.
use Rattle.std.proofs.Common.{◌≡◌, ℕ, ◌≤◌, ◌⊎◌, inl, inr, Bool, true, false, not, ◌&&◌, nat_lt, List, [], ◌∷◌, Option, Some, None, is_some, if◌then◌else◌, refl, sym, ap, subst, ◌∙◌}
use Rattle.std.specs.Bool.{OnFalse}
use Rattle.std.proofs.lemmas.Bool.{ltb-false, le-ltb, and_left, and_right}
use Rattle.data_transfer.specs.Packets.{Datum, Body}
use Rattle.data_transfer.specs.Traffic.{Traffic, Said, in_flight, same_flag, flow_told, says, says_flow, says_data, says_interrupt, window_open}
use Rattle.data_transfer.specs.Unsent.{HasSaidAll}
use Rattle.data_transfer.specs.declared.flow.Flow.{Flow}

-- ---- nothing is said: nothing stays unsent

-- where one of two answers is a packet, the other one was given
not_then : (b : Bool) (t : Traffic) (body : Body) (other : Said) →
    is_some (if b then record { traffic = t; body = Some body } else other).body ≡ false →
    (b ≡ false) × (is_some other.body ≡ false)
not_then true t body other silent = absurd (cc)
not_then false t body other silent = (refl, silent)

not_else : (b : Bool) (x y : Said) → is_some y.body ≡ true → is_some (if b then x else y).body ≡ false → b ≡ true
not_else true x y says silent = refl
not_else false x y says silent = absurd (cc)

told_parts : (untold told stopped : Bool) → (not untold && same_flag told stopped) ≡ true →
    (untold ≡ false) × (told ≡ stopped)
told_parts false true true h = (refl, refl)
told_parts false false false h = (refl, refl)
told_parts false true false h = absurd (cc)
told_parts false false true h = absurd (cc)
told_parts true told stopped h = absurd (cc)

flow_silent : (flow : Flow) (t : Traffic) → is_some (says_flow flow t).body ≡ false →
    (t.untold ≡ false) × (t.told_stopped ≡ t.stopped)
flow_silent flow t silent = told_parts t.untold t.told_stopped t.stopped (not_else (flow_told t) _ _ refl silent)

closed_by : (n window : ℕ) (busy : Bool) → (nat_lt n window && not busy) ≡ false → (window ≤ n) ⊎ (busy ≡ true)
closed_by n window true h = inr refl
closed_by n window false h = by (nat_lt n window) refl h
  where
    by : (b : Bool) → nat_lt n window ≡ b → (b && true) ≡ false → (window ≤ n) ⊎ (false ≡ true)
    by true is h = absurd (cc)
    by false is h = inl (ltb-false n window is)

data_silent : (flow : Flow) (waiting : List Datum) (t : Traffic) → is_some (says_data flow waiting t).body ≡ false →
    (is_some (says_flow flow t).body ≡ false)
    × ((waiting ≡ []) ⊎ ((flow.window ≤ in_flight t) ⊎ (t.partner_busy ≡ true)))
data_silent flow [] t silent = (silent, inl refl)
data_silent flow (d ∷ ds) t silent =
    let closed = not_then (window_open flow t) _ _ (says_flow flow t) silent in
    (closed.1, inr (closed_by (in_flight t) flow.window t.partner_busy closed.0))

interrupt_silent : (flow : Flow) (waiting : Option (List ℕ)) (t : Traffic) →
    is_some (says_interrupt flow waiting t).body ≡ false →
    (waiting ≡ None) × (is_some (says_data flow t.waiting t).body ≡ false)
interrupt_silent flow None t silent = (refl, silent)
interrupt_silent flow (Some octets) t silent = absurd (cc)

pub said_all : (flow : Flow) (t : Traffic) → is_some (says flow t).body ≡ false → HasSaidAll flow t
said_all flow t silent =
    let confirmed = not_then t.confirmation_due _ _ (says_interrupt flow t.interrupt_waiting t) silent in
    let interrupted = interrupt_silent flow t.interrupt_waiting t confirmed.1 in
    let packets = data_silent flow t.waiting t interrupted.1 in
    let told = flow_silent flow t packets.0 in
    record {
      confirmation = confirmed.0;
      interrupt = interrupted.0;
      receive_number = told.0;
      stop = told.1;
      packets = packets.1;
    }

-- so what is told of a call after it was asked
pub unsent_after : (flow : Flow) (old new : Traffic) (said : Bool) → OnFalse said (new ≡ old) →
    said ≡ is_some (says flow old).body → OnFalse said (HasSaidAll flow new)
unsent_after flow old new true same is = tt
unsent_after flow old new false same is =
    subst (λ (t : Traffic). HasSaidAll flow t) (sym same) (said_all flow old (sym is))

-- ---- and back

if_true : (b : Bool) (x y : Said) → b ≡ true → (if b then x else y).body ≡ x.body
if_true true x y is = refl
if_true false x y is = absurd (cc)

if_false : (b : Bool) (x y : Said) → b ≡ false → (if b then x else y).body ≡ y.body
if_false true x y is = absurd (cc)
if_false false x y is = refl

same_self : (b : Bool) → same_flag b b ≡ true
same_self true = refl
same_self false = refl

is_told : (t : Traffic) → t.untold ≡ false → t.told_stopped ≡ t.stopped → flow_told t ≡ true
is_told t untold told =
    ap (λ (b : Bool). not b && same_flag t.told_stopped t.stopped) untold
    ∙ (ap (λ (b : Bool). same_flag b t.stopped) told ∙ same_self t.stopped)

is_closed : (n window : ℕ) (busy : Bool) → (window ≤ n) ⊎ (busy ≡ true) → (nat_lt n window && not busy) ≡ false
is_closed n window busy (inl full) = and_left (nat_lt n window) (not busy) (le-ltb n window full)
is_closed n window busy (inr is) = and_right (nat_lt n window) (not busy) (ap (λ (b : Bool). not b) is)

data_waits : (flow : Flow) (waiting : List Datum) (t : Traffic) → window_open flow t ≡ false →
    (says_data flow waiting t).body ≡ (says_flow flow t).body
data_waits flow [] t closed = refl
data_waits flow (d ∷ ds) t closed = if_false (window_open flow t) _ (says_flow flow t) closed

only_flow : (flow : Flow) (t : Traffic) → (t.waiting ≡ []) ⊎ ((flow.window ≤ in_flight t) ⊎ (t.partner_busy ≡ true)) →
    (says_data flow t.waiting t).body ≡ (says_flow flow t).body
only_flow flow t (inl none) = ap (λ (ds : List Datum). (says_data flow ds t).body) none
only_flow flow t (inr closed) =
    data_waits flow t.waiting t (is_closed (in_flight t) flow.window t.partner_busy closed)

pub says_none : (flow : Flow) (t : Traffic) → HasSaidAll flow t → (says flow t).body ≡ None
says_none flow t h =
    if_false t.confirmation_due _ (says_interrupt flow t.interrupt_waiting t) h.confirmation
    ∙ (ap (λ (o : Option (List ℕ)). (says_interrupt flow o t).body) h.interrupt
    ∙ (only_flow flow t h.packets ∙ if_true (flow_told t) _ _ (is_told t h.receive_number h.stop)))
