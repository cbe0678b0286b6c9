-- What the user asks of a channel, and the expiry of its timers: the form of what is owed is kept, and what may come before may come.
use Rattle.std.proofs.Common.{◌≡◌, ℕ, ◌+◌, ◌≤◌, ◌⊎◌, Bool, true, false, List, [], ◌∷◌, ◌++◌, length, Option, Some, None, refl, sym, ap, subst, arith, inl, inr}
use Rattle.link_timers.specs.declared.role.Role.{Role}
use Rattle.link_timers.specs.declared.role.Role.TheVariants.{Dte, Dce}
use Rattle.data_transfer.specs.declared.flow.Flow.{Flow}
use Rattle.data_transfer.specs.Packets.{CallParts, Body}
use Rattle.data_transfer.specs.Packets.Body.{Call, Accepted, Clear, Reset}
use Rattle.data_transfer.specs.Traffic.{Traffic}
use Rattle.packet_channel.specs.Channel.{ChannelState, Step, Request, Refusal, requested, refusal, unless, quiet, moved, clear_error}
use Rattle.packet_channel.specs.Channel.ChannelState.{Ready, OwnWaiting, FarWaiting, Transfer, Collision, OwnClear}
use Rattle.packet_channel.specs.Channel.Request.{Accept, Clearing, Resetting, Sending, Interrupting, Stopping, Taking, Releasing, Confirming}
use Rattle.packet_layer.specs.Layer.{placing}
use Rattle.packet_laws.proofs.Handshakes.Handshake.{said}
use Rattle.packet_laws.proofs.Owed.MayCome.{resets, AllCome, Placing, Fits, few_three, longer_by, none_in, resets_push}
use Rattle.packet_laws.proofs.Owed.Fitting.{channel_with, closing}
use Rattle.packet_laws.proofs.Owed.Loosening.{all_looser, Looser}
use Rattle.packet_laws.proofs.Owed.Draining.{FitsIn}

-- a step of a channel, in r1 or not, while `before` may come, and `after` after it
pub record Acts (role : Role) (ready : Bool) (s : ChannelState) (rs : Bool) (o : List Body) (st : Step) (before after : List Body) : Type 0 where
  pub owed_is : st.channel.owed ≡ o
  pub fits : FitsIn ready st.channel.state st.channel.resetting (said st.owes o)
  pub comes : AllCome role ready s rs o before → AllCome role ready st.channel.state st.channel.resetting (said st.owes o) after

same_acts : (role : Role) (ready : Bool) (s : ChannelState) (rs : Bool) (o : List Body) (tr tr' : Traffic) (ts : List Body) → FitsIn ready s rs o → Acts role ready s rs o (quiet (moved tr' (channel_with s rs o tr))) ts ts
same_acts role ready s rs o tr tr' ts f = record { owed_is = refl; fits = f; comes = λ h. h }

unless_acts : (role : Role) (ready : Bool) (s : ChannelState) (rs : Bool) (o : List Body) (tr tr' : Traffic) (ts : List Body) (r : Option Refusal) → FitsIn ready s rs o → Acts role ready s rs o (unless r (quiet (moved tr' (channel_with s rs o tr))) (channel_with s rs o tr)) ts ts
unless_acts role ready s rs o tr tr' ts None f = same_acts role ready s rs o tr tr' ts f
unless_acts role ready s rs o tr tr' ts (Some q) f = same_acts role ready s rs o tr tr ts f

-- ---- a call placed, accepted, cleared; a reset

accepted_fits : (o : List Body) → length o ≤ 1 → Fits Transfer false (o ++ Accepted ∷ [])
accepted_fits [] h = inr ([], (record { short = refl; counted = refl; no_other = refl }, inl refl))
accepted_fits (b ∷ []) h = inr ([], (record { short = refl; counted = refl; no_other = refl }, inr (b, refl)))
accepted_fits (b ∷ (d ∷ o)) h = let no : ⊥ = omega arith in absurd no

reset_fits : (o : List Body) (x y : ℕ) → Fits Transfer false o → Fits Transfer true (o ++ Reset x y ∷ [])
reset_fits o x y (inl h) =
    let a = h.short in
    let b = h.few in
    let l = longer_by o (Reset x y) in
    let p = resets_push o (Reset x y) in
    inl (record { no_acceptance = none_in o (Reset x y) refl h.no_acceptance; short = omega arith; few = omega arith })
reset_fits o x y (inr (t, (h, e))) =
    let a = h.short in
    let b = h.counted in
    let l = longer_by t (Reset x y) in
    let p = resets_push t (Reset x y) in
    inr (t ++ Reset x y ∷ [], (record { short = omega arith; counted = omega arith; no_other = none_in t (Reset x y) refl h.no_other }, grown e))
  where
    grown : ((o ≡ Accepted ∷ t) ⊎ ((b : Body) × (o ≡ b ∷ Accepted ∷ t))) → (o ++ Reset x y ∷ [] ≡ Accepted ∷ (t ++ Reset x y ∷ [])) ⊎ ((b : Body) × (o ++ Reset x y ∷ [] ≡ b ∷ Accepted ∷ (t ++ Reset x y ∷ [])))
    grown (inl q) = inl (ap (λ (l : List Body). l ++ Reset x y ∷ []) q)
    grown (inr q) = inr (q.0, ap (λ (l : List Body). l ++ Reset x y ∷ []) q.1)

one_reset_more : (o : List Body) (x y : ℕ) → resets (o ++ Reset x y ∷ []) ≤ resets o + 1
one_reset_more o x y = let p = resets_push o (Reset x y) in omega arith

abbrev pub MayEnd : ChannelState → Type 0
MayEnd Ready = ⊥
MayEnd OwnClear = ⊥
MayEnd s = Unit {0}

clear_looser : (role : Role) (s : ChannelState) (rs : Bool) (o o' : List Body) → MayEnd s → Looser role s rs o OwnClear false o'
clear_looser role OwnWaiting rs o o' m = tt
clear_looser role FarWaiting rs o o' m = tt
clear_looser role Collision rs o o' m = tt
clear_looser role Transfer rs o o' m = tt
clear_looser role Ready rs o o' m = absurd m
clear_looser role OwnClear rs o o' m = absurd m

not_ready : (s : ChannelState) → MayEnd s → s ≡ Ready → ⊥
not_ready s m e = subst (λ (q : ChannelState). MayEnd q) e m

not_clear : (s : ChannelState) → MayEnd s → s ≡ OwnClear → ⊥
not_clear s m e = subst (λ (q : ChannelState). MayEnd q) e m

clears : (role : Role) (s : ChannelState) (rs : Bool) (o : List Body) (st : Step) (x y : ℕ) (ts : List Body) → MayEnd s → Fits s rs o → st.channel.owed ≡ o → st.channel.state ≡ OwnClear → st.channel.resetting ≡ false → st.owes ≡ Some (Clear x y)
    → Acts role true s rs o st ts ts
clears role s rs o st x y ts m f e_o e_s e_r e_b =
    let fits : Fits OwnClear false (o ++ Clear x y ∷ []) = closing o (Clear x y) tt (few_three s rs o f (not_ready s m) (not_clear s m)) in
    let turn : (P : ChannelState → Bool → List Body → Type 0) → P OwnClear false (o ++ Clear x y ∷ []) → P st.channel.state st.channel.resetting (said st.owes o) = λ P h.
    subst (λ (q : ChannelState). P q st.channel.resetting (said st.owes o)) (sym e_s) (subst (λ (q : Bool). P OwnClear q (said st.owes o)) (sym e_r) (subst (λ (q : Option Body). P OwnClear false (said q o)) (sym e_b) h)) in
    record {
      owed_is = e_o;
      fits = turn (λ a b c. Fits a b c) fits;
      comes = λ h. turn (λ a b c. AllCome role true a b c ts) (all_looser role s rs o OwnClear false (o ++ Clear x y ∷ []) ts (clear_looser role s rs o (o ++ Clear x y ∷ []) m) h);
    }

pub clear_acts : (role : Role) (c : ℕ) (s : ChannelState) (rs : Bool) (o : List Body) (tr : Traffic) (ts : List Body) → MayEnd s → Fits s rs o → Acts role true s rs o (clear_error role c 0 true (channel_with s rs o tr)) ts ts
clear_acts role c s rs o tr ts m f = clears role s rs o (clear_error role c 0 true (channel_with s rs o tr)) _ _ ts m f refl refl refl refl

pub place_acts : (role : Role) (rs : Bool) (o : List Body) (tr : Traffic) (parts : CallParts) (ts : List Body) → o ≡ [] → Fits Ready rs o → Acts role true Ready rs o (placing parts (channel_with Ready rs o tr)) ts ts
place_acts role true o tr parts ts e f = absurd f
place_acts role false o tr parts ts e f = record {
  owed_is = refl;
  fits = subst (λ (q : List Body). Placing (q ++ Call parts ∷ [])) (sym e) (record { no_acceptance = refl; no_resets = refl; short = omega arith });
  comes = λ h. all_looser role Ready false o OwnWaiting false (o ++ Call parts ∷ []) ts tt h;
}

nothing_short : (o : List Body) → o ≡ [] → length o ≤ 1
nothing_short o e = let l = ap (λ (q : List Body). length q) e in omega arith

-- ---- any request

acts_ready : (role : Role) (flow : Flow) (ready rs : Bool) (o : List Body) (tr : Traffic) (r : Request) (ts : List Body) → FitsIn ready Ready rs o → Acts role ready Ready rs o (requested role flow (channel_with Ready rs o tr) r) ts ts
acts_ready role flow ready rs o tr Accept ts f = same_acts role ready Ready rs o tr tr ts f
acts_ready role flow ready rs o tr _ ts f = same_acts role ready Ready rs o tr tr ts f

acts_clear : (role : Role) (flow : Flow) (rs : Bool) (o : List Body) (tr : Traffic) (r : Request) (ts : List Body) → Fits OwnClear rs o → Acts role true OwnClear rs o (requested role flow (channel_with OwnClear rs o tr) r) ts ts
acts_clear role flow rs o tr Accept ts f = same_acts role true OwnClear rs o tr tr ts f
acts_clear role flow rs o tr _ ts f = same_acts role true OwnClear rs o tr tr ts f

acts_placed : (role : Role) (flow : Flow) (rs : Bool) (o : List Body) (tr : Traffic) (r : Request) (ts : List Body) → Fits OwnWaiting rs o → Acts role true OwnWaiting rs o (requested role flow (channel_with OwnWaiting rs o tr) r) ts ts
acts_placed role flow rs o tr Accept ts f = same_acts role true OwnWaiting rs o tr tr ts f
acts_placed role flow rs o tr (Clearing x y) ts f = clears role OwnWaiting rs o (requested role flow (channel_with OwnWaiting rs o tr) (Clearing x y)) x y ts tt f refl refl refl refl
acts_placed role flow rs o tr _ ts f = same_acts role true OwnWaiting rs o tr tr ts f

acts_called : (role : Role) (flow : Flow) (rs : Bool) (o : List Body) (tr : Traffic) (r : Request) (ts : List Body) → Fits FarWaiting rs o → Acts role true FarWaiting rs o (requested role flow (channel_with FarWaiting rs o tr) r) ts ts
acts_called role flow true o tr r ts f = absurd f
acts_called role flow false o tr Accept ts f = record {
  owed_is = refl;
  fits = accepted_fits o (nothing_short o f);
  comes = λ h. all_looser role FarWaiting false o Transfer false (o ++ Accepted ∷ []) ts tt h;
}
acts_called role flow false o tr (Clearing x y) ts f = clears role FarWaiting false o (requested role flow (channel_with FarWaiting false o tr) (Clearing x y)) x y ts tt f refl refl refl refl
acts_called role flow false o tr _ ts f = same_acts role true FarWaiting false o tr tr ts f

acts_collided : (role : Role) (flow : Flow) (rs : Bool) (o : List Body) (tr : Traffic) (r : Request) (ts : List Body) → Fits Collision rs o → Acts role true Collision rs o (requested role flow (channel_with Collision rs o tr) r) ts ts
acts_collided role flow true o tr r ts f = absurd f
acts_collided Dte flow false o tr Accept ts f = same_acts Dte true Collision false o tr tr ts f
acts_collided Dce flow false o tr Accept ts f = record {
  owed_is = refl;
  fits = accepted_fits o f.short;
  comes = λ h. all_looser Dce Collision false o Transfer false (o ++ Accepted ∷ []) ts refl h;
}
acts_collided role flow false o tr (Clearing x y) ts f = clears role Collision false o (requested role flow (channel_with Collision false o tr) (Clearing x y)) x y ts tt f refl refl refl refl
acts_collided role flow false o tr _ ts f = same_acts role true Collision false o tr tr ts f

acts_open : (role : Role) (flow : Flow) (rs : Bool) (o : List Body) (tr : Traffic) (r : Request) (ts : List Body) → Fits Transfer rs o → Acts role true Transfer rs o (requested role flow (channel_with Transfer rs o tr) r) ts ts
acts_open role flow rs o tr Accept ts f = same_acts role true Transfer rs o tr tr ts f
acts_open role flow rs o tr (Clearing x y) ts f = clears role Transfer rs o (requested role flow (channel_with Transfer rs o tr) (Clearing x y)) x y ts tt f refl refl refl refl
acts_open role flow true o tr (Resetting x y) ts f = same_acts role true Transfer true o tr tr ts f
acts_open role flow false o tr (Resetting x y) ts f = record {
  owed_is = refl;
  fits = reset_fits o x y f;
  comes = λ h. all_looser role Transfer false o Transfer true (o ++ Reset x y ∷ []) ts (λ e. none_in o (Reset x y) refl e, one_reset_more o x y) h;
}
acts_open role flow rs o tr (Sending d) ts f = unless_acts role true Transfer rs o tr _ ts (refusal role flow (channel_with Transfer rs o tr) (Sending d)) f
acts_open role flow rs o tr (Interrupting q) ts f = unless_acts role true Transfer rs o tr _ ts (refusal role flow (channel_with Transfer rs o tr) (Interrupting q)) f
acts_open role flow rs o tr (Stopping q) ts f = same_acts role true Transfer rs o tr _ ts f
acts_open role flow rs o tr Taking ts f = same_acts role true Transfer rs o tr _ ts f
acts_open role flow rs o tr (Releasing n) ts f = same_acts role true Transfer rs o tr _ ts f
acts_open role flow rs o tr Confirming ts f = same_acts role true Transfer rs o tr _ ts f

pub request_acts : (role : Role) (flow : Flow) (ready : Bool) (s : ChannelState) (rs : Bool) (o : List Body) (tr : Traffic) (r : Request) (ts : List Body) → FitsIn ready s rs o → Acts role ready s rs o (requested role flow (channel_with s rs o tr) r) ts ts
request_acts role flow ready Ready rs o tr r ts f = acts_ready role flow ready rs o tr r ts f
request_acts role flow true OwnClear rs o tr r ts f = acts_clear role flow rs o tr r ts f
request_acts role flow true OwnWaiting rs o tr r ts f = acts_placed role flow rs o tr r ts f
request_acts role flow true FarWaiting rs o tr r ts f = acts_called role flow rs o tr r ts f
request_acts role flow true Collision rs o tr r ts f = acts_collided role flow rs o tr r ts f
request_acts role flow true Transfer rs o tr r ts f = acts_open role flow rs o tr r ts f
request_acts role flow false OwnClear rs o tr r ts f = let n : ⊥ = (let e = f.0 in cc) in absurd n
request_acts role flow false OwnWaiting rs o tr r ts f = absurd (not_ready OwnWaiting tt f.0)
request_acts role flow false FarWaiting rs o tr r ts f = absurd (not_ready FarWaiting tt f.0)
request_acts role flow false Collision rs o tr r ts f = absurd (not_ready Collision tt f.0)
request_acts role flow false Transfer rs o tr r ts f = absurd (not_ready Transfer tt f.0)
