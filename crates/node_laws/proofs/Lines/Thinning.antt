-- Frames on the way may be lost wherever they are: a world without some of them is one that events lead to, too.
use Rattle.std.specs.Prelude.{◌≡◌, ℕ, Bool, true, false, List, [], ◌∷◌, ◌++◌, length, drop}
use Rattle.std.proofs.Common.{refl, sym, ap, ◌∙◌}
use Rattle.link_timers.specs.declared.role.Role.{Role}
use Rattle.link_timers.specs.declared.role.Role.TheVariants.{Dte, Dce}
use Rattle.frame_codec.specs.Frame.{FrameValue}
use Rattle.frame_codec.specs.Spelling.{spelling}
use Rattle.lapb.specs.Machine.{Octets, Link, Step, on_frame, on_t1, relink, settle}
use Rattle.lapb.specs.World.{Sent, World, Event, Offer, Deliver, Lose, Expire, Relink, Settle, Restart, happens, run, opening, stamped, kept_of, act_after, dte_does, dce_does, dce_enters}
use Rattle.lapb.specs.Reach.{Reached}
use Rattle.lapb.specs.Fits.{AllSpelt, octets_of}
use Rattle.lapb.specs.LinkLine.{chosen, StandsIn}

-- without some of the frames on the way
abbrev pub thin : (up down : List Bool) → World → World
thin up down w = record w { up = chosen up w.up; down = chosen down w.down }

pub chosen-none : {A : Type 0} (kept : List Bool) → chosen {A = A} kept [] ≡ []
chosen-none [] = refl
chosen-none (true ∷ kept) = refl
chosen-none (false ∷ kept) = refl

pub chosen-split : {A : Type 0} (kept : List Bool) (xs ys : List A) → chosen kept (xs ++ ys) ≡ chosen kept xs ++ chosen (drop (length xs) kept) ys
chosen-split {A} [] [] ys = refl
chosen-split {A} (true ∷ kept) [] ys = refl
chosen-split {A} (false ∷ kept) [] ys = refl
chosen-split {A} [] (x ∷ xs) ys = refl
chosen-split {A} (true ∷ kept) (x ∷ xs) ys = ap (λ (zs : List A). x ∷ zs) (chosen-split kept xs ys)
chosen-split {A} (false ∷ kept) (x ∷ xs) ys = chosen-split kept xs ys

-- ---- what is sent

-- of what is kept, less is kept
abbrev merged : (kept less : List Bool) → List Bool
merged [] less = less
merged (true ∷ kept) [] = true ∷ kept
merged (true ∷ kept) (b ∷ less) = b ∷ merged kept less
merged (false ∷ kept) less = false ∷ merged kept less

merged-is : (act : ℕ) (kept less : List Bool) (frames : List FrameValue) →
    stamped act (kept_of (merged kept less) frames) ≡ chosen less (stamped act (kept_of kept frames))
merged-is act [] [] frames = refl
merged-is act [] (true ∷ less) [] = refl
merged-is act [] (false ∷ less) [] = refl
merged-is act [] (true ∷ less) (f ∷ frames) = ap (λ (xs : List Sent). record { frame = f; act = act } ∷ xs) (merged-is act [] less frames)
merged-is act [] (false ∷ less) (f ∷ frames) = merged-is act [] less frames
merged-is act (true ∷ kept) [] frames = refl
merged-is act (true ∷ kept) (true ∷ less) [] = refl
merged-is act (true ∷ kept) (false ∷ less) [] = refl
merged-is act (true ∷ kept) (true ∷ less) (f ∷ frames) = ap (λ (xs : List Sent). record { frame = f; act = act } ∷ xs) (merged-is act kept less frames)
merged-is act (true ∷ kept) (false ∷ less) (f ∷ frames) = merged-is act kept less frames
merged-is act (false ∷ kept) less [] = sym (chosen-none less)
merged-is act (false ∷ kept) less (f ∷ frames) = merged-is act kept less frames

sent_thin : (flow : List Sent) (act : ℕ) (less kept : List Bool) (frames : List FrameValue) →
    chosen less flow ++ stamped act (kept_of (merged kept (drop (length flow) less)) frames) ≡ chosen less (flow ++ stamped act (kept_of kept frames))
sent_thin flow act less kept frames =
    ap (λ (xs : List Sent). chosen less flow ++ xs) (merged-is act kept (drop (length flow) less) frames)
    ∙ sym (chosen-split less flow (stamped act (kept_of kept frames)))

dte_thin : (w : World) (kept : List Bool) (step : Step) (up down : List Bool) →
    dte_does (thin up down w) (merged kept (drop (length w.up) up)) step ≡ thin up down (dte_does w kept step)
dte_thin w kept step up down = λ i. record (thin up down (dte_does w kept step)) { up = sent_thin w.up (act_after w step) up kept step.frames i }

dce_thin : (w : World) (kept : List Bool) (step : Step) (up down : List Bool) →
    dce_does (thin up down w) (merged kept (drop (length w.down) down)) step ≡ thin up down (dce_does w kept step)
dce_thin w kept step up down = λ i. record (thin up down (dce_does w kept step)) { down = sent_thin w.down w.session down kept step.frames i }

-- ---- one event

-- some event of the world without some frames leads to the world after the event without these
abbrev Before : World → Event → (up down : List Bool) → Type 0
Before w event up down = (other : Event) × (up' : List Bool) × (down' : List Bool) × (happens (thin up' down' w) other ≡ thin up down (happens w event))

to_dte_before : (w : World) (flow : List Sent) (kept up down : List Bool) → Before (record w { down = flow }) (Deliver Dte kept) up down
to_dte_before w [] kept up down = (Deliver Dte kept, up, [], λ i. record w { up = chosen up w.up; down = sym (chosen-none {A = Sent} down) i })
to_dte_before w (s ∷ rest) kept up down =
    (Deliver Dte (merged kept (drop (length w.up) up)), up, true ∷ down, dte_thin (record w { down = rest }) kept (on_frame w.dte s.frame) up down)

to_dce_before : (w : World) (flow : List Sent) (kept up down : List Bool) → Before (record w { up = flow }) (Deliver Dce kept) up down
to_dce_before w [] kept up down = (Deliver Dce kept, [], down, λ i. record w { up = sym (chosen-none {A = Sent} up) i; down = chosen down w.down })
to_dce_before w (s ∷ rest) kept up down =
    (Deliver Dce (merged kept (drop (length w.down) down)), true ∷ up, down, dce_thin (dce_enters (record w { up = rest }) s) kept (on_frame w.dce s.frame) up down)

lose_dte_before : (w : World) (flow : List Sent) (up down : List Bool) → Before (record w { down = flow }) (Lose Dte) up down
lose_dte_before w [] up down = (Lose Dte, up, [], λ i. record w { up = chosen up w.up; down = sym (chosen-none {A = Sent} down) i })
lose_dte_before w (s ∷ rest) up down = (Lose Dte, up, true ∷ down, refl)

lose_dce_before : (w : World) (flow : List Sent) (up down : List Bool) → Before (record w { up = flow }) (Lose Dce) up down
lose_dce_before w [] up down = (Lose Dce, [], down, λ i. record w { up = sym (chosen-none {A = Sent} up) i; down = chosen down w.down })
lose_dce_before w (s ∷ rest) up down = (Lose Dce, true ∷ up, down, refl)

before : (w : World) (event : Event) (up down : List Bool) → Before w event up down
before w (Offer Dte packet) up down = (Offer Dte packet, up, down, refl)
before w (Offer Dce packet) up down = (Offer Dce packet, up, down, refl)
before w (Deliver Dte kept) up down = to_dte_before w w.down kept up down
before w (Deliver Dce kept) up down = to_dce_before w w.up kept up down
before w (Lose Dte) up down = lose_dte_before w w.down up down
before w (Lose Dce) up down = lose_dce_before w w.up up down
before w (Expire Dte kept) up down = (Expire Dte (merged kept (drop (length w.up) up)), up, down, dte_thin w kept (on_t1 w.dte) up down)
before w (Expire Dce kept) up down = (Expire Dce (merged kept (drop (length w.down) down)), up, down, dce_thin w kept (on_t1 w.dce) up down)
before w (Relink Dte kept) up down = (Relink Dte (merged kept (drop (length w.up) up)), up, down, dte_thin w kept (relink w.dte) up down)
before w (Relink Dce kept) up down = (Relink Dce (merged kept (drop (length w.down) down)), up, down, dce_thin w kept (relink w.dce) up down)
before w (Settle Dte kept) up down = (Settle Dte (merged kept (drop (length w.up) up)), up, down, dte_thin w kept (settle w.dte) up down)
before w (Settle Dce kept) up down = (Settle Dce (merged kept (drop (length w.down) down)), up, down, dce_thin w kept (settle w.dce) up down)
before w (Restart Dte) up down = (Restart Dte, up, down, λ i. record (happens w (Restart Dte)) { up = sym (chosen-none {A = Sent} up) i; down = sym (chosen-none {A = Sent} down) i })
before w (Restart Dce) up down = (Restart Dce, up, down, λ i. record (happens w (Restart Dce)) { up = sym (chosen-none {A = Sent} up) i; down = sym (chosen-none {A = Sent} down) i })

-- ---- all of them

run_before : (events : List Event) (w : World) (up down : List Bool) →
    (others : List Event) × (up' : List Bool) × (down' : List Bool) × (run others (thin up' down' w) ≡ thin up down (run events w))
run_before [] w up down = ([], up, down, refl)
run_before (event ∷ events) w up down =
    let r = run_before events (happens w event) up down in
    let b = before w event r.1 r.2 in
    (b.0 ∷ r.0, b.1, b.2, ap (λ (v : World). run r.0 v) b.3 ∙ r.3)

reached_thin : (w : World) (up down : List Bool) → Reached w → Reached (thin up down w)
reached_thin w up down r =
    let b = run_before r.events (opening r.standing r.dte r.dce) up down in
    record {
      standing = r.standing;
      dte = r.dte;
      dce = r.dce;
      dte_window = r.dte_window;
      dce_window = r.dce_window;
      events = b.0;
      leads =
          ap (λ (v : World). run b.0 v) (λ i. record (opening r.standing r.dte r.dce) { up = sym (chosen-none {A = Sent} b.1) i; down = sym (chosen-none {A = Sent} b.2) i })
          ∙ b.3
          ∙ ap (λ (v : World). thin up down v) r.leads;
    }

spelt_thin : (info : ℕ) (kept : List Bool) (flow : List Sent) → AllSpelt info flow → AllSpelt info (chosen kept flow)
spelt_thin info [] flow all = all
spelt_thin info (true ∷ kept) [] all = tt
spelt_thin info (false ∷ kept) [] all = tt
spelt_thin info (true ∷ kept) (s ∷ flow) all = (all.0, spelt_thin info kept flow all.1)
spelt_thin info (false ∷ kept) (s ∷ flow) all = spelt_thin info kept flow all.1

octets_thin : (from : Role) (kept : List Bool) (flow : List Sent) → octets_of from (chosen kept flow) ≡ chosen kept (octets_of from flow)
octets_thin from [] flow = refl
octets_thin from (true ∷ kept) [] = refl
octets_thin from (false ∷ kept) [] = refl
octets_thin from (true ∷ kept) (s ∷ flow) = ap (λ (xs : List Octets). spelling from s.frame ∷ xs) (octets_thin from kept flow)
octets_thin from (false ∷ kept) (s ∷ flow) = octets_thin from kept flow

pub stands_thin : (w : World) (dte dce : Link) (up down : List Octets) (kept_up kept_down : List Bool) → StandsIn w dte dce up down →
    StandsIn (thin kept_up kept_down w) dte dce (chosen kept_up up) (chosen kept_down down)
stands_thin w dte dce up down kept_up kept_down s = record {
  reached = reached_thin w kept_up kept_down s.reached;
  fit = record {
    info = s.fit.info;
    dte = s.fit.dte;
    dce = s.fit.dce;
    up = spelt_thin s.fit.info kept_up w.up s.fit.up;
    down = spelt_thin s.fit.info kept_down w.down s.fit.down;
  };
  dte_is = s.dte_is;
  dce_is = s.dce_is;
  up_is = octets_thin Dte kept_up w.up ∙ ap (λ (xs : List Octets). chosen kept_up xs) s.up_is;
  down_is = octets_thin Dce kept_down w.down ∙ ap (λ (xs : List Octets). chosen kept_down xs) s.down_is;
}
