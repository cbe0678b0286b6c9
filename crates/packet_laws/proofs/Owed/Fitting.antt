-- What is owed on a channel keeps its form, whatever comes and whatever the user asks.
use Rattle.std.proofs.Common.{◌≡◌, ℕ, ◌≤◌, Bool, true, false, ◌||◌, List, [], ◌∷◌, ◌++◌, length, refl, sym, ap, ◌∙◌, arith, true≢false, inl, inr}
use Rattle.link_timers.specs.declared.role.Role.{Role}
use Rattle.link_timers.specs.declared.role.Role.TheVariants.{Dte, Dce}
use Rattle.data_transfer.specs.declared.flow.Flow.{Flow}
use Rattle.data_transfer.specs.Packets.{Body}
use Rattle.data_transfer.specs.Packets.Body.{Call, Accepted, Clear, ClearConfirmation, Data, Interrupt, InterruptConfirmation, ReceiveReady, ReceiveNotReady, Reset, ResetConfirmation}
use Rattle.data_transfer.specs.Traffic.{Traffic, Heard, hears}
use Rattle.data_transfer.specs.Traffic.Heard.{Keeps, Confirms, Wrong}
use Rattle.packet_channel.specs.Channel.{ChannelState, Channel, Step, received, after_heard}
use Rattle.packet_channel.specs.Channel.ChannelState.{Ready, OwnWaiting, FarWaiting, Transfer, Collision, OwnClear}
use Rattle.packet_laws.specs.LayerLineLaw.{is_request}
use Rattle.packet_laws.proofs.Handshakes.Handshake.{said}
use Rattle.packet_laws.proofs.Owed.MayCome.{is_accepted, has_accepted, resets, Comes, IsClear, Ended, Resetting, Placing, Fits, ended_last, longer_by, none_in, resets_push, few_three}

either_true : (v : Bool) → (v || true) ≡ true
either_true true = refl
either_true false = refl

not_accepting : (rs : Bool) (o : List Body) → Fits Transfer rs o → has_accepted o ≡ false → Resetting rs o
not_accepting rs o (inl h) e = h
not_accepting rs o (inr (t, (h, inl q))) e = absurd (true≢false (sym (ap (λ (l : List Body). has_accepted l) q) ∙ e))
not_accepting rs o (inr (t, (h, inr q))) e = absurd (true≢false (sym (ap (λ (l : List Body). has_accepted l) q.1 ∙ either_true (is_accepted q.0)) ∙ e))

pub closing : (o : List Body) (b : Body) → IsClear b → length o ≤ 3 → (length (o ++ b ∷ []) ≤ 4) × Ended (o ++ b ∷ [])
closing o b h few = let l = longer_by o b in (omega arith, ended_last o b h)

nothing_few : (o : List Body) → o ≡ [] → length o ≤ 3
nothing_few o e = let l = ap (λ (q : List Body). length q) e in omega arith

connected : (o : List Body) → Placing o → Fits Transfer false o
connected o h =
    let a = h.short in
    let b = h.no_resets in
    inl (record { no_acceptance = h.no_acceptance; short = omega arith; few = omega arith })

reset_learnt : (o : List Body) → Fits Transfer false o → has_accepted o ≡ false → resets o ≡ 0 → Fits Transfer false (o ++ ResetConfirmation ∷ [])
reset_learnt o f e z =
    let g = not_accepting false o f e in
    let a = g.short in
    let l = longer_by o ResetConfirmation in
    let p = resets_push o ResetConfirmation in
    inl (record { no_acceptance = none_in o ResetConfirmation refl e; short = omega arith; few = omega arith })

reset_over : (o : List Body) → Fits Transfer true o → has_accepted o ≡ false → resets o ≤ 1 → Fits Transfer false o
reset_over o f e z = let g = not_accepting true o f e in let a = g.short in inl (record { no_acceptance = e; short = a; few = omega arith })

few_own : (o : List Body) → Placing o → length o ≤ 3
few_own o h = let a = h.short in omega arith

few_call : (rs : Bool) (o : List Body) → Fits Transfer rs o → length o ≤ 3
few_call rs o f = few_three Transfer rs o f (λ e. let n : ⊥ = cc in n) (λ e. let n : ⊥ = cc in n)

-- ---- what comes

pub fits_comes : (r : Role) (s : ChannelState) (rs : Bool) (o : List Body) (t : Body) (rest : ChannelState → Bool → List Body → Type 0) → Fits s rs o → Comes r s rs o t rest → Comes r s rs o t (λ s' rs' o'. Fits s' rs' o' × rest s' rs' o')
fits_comes r Ready false o (Call p) rest f h = (h.0, (h.0, h.1))
fits_comes r Ready false o (Clear x y) rest f h = (h.0, (closing o ClearConfirmation tt (nothing_few o h.0), h.1))
fits_comes r Ready false o _ rest f h = absurd h
fits_comes r OwnWaiting false o (Call p) rest f h = (f, h)
fits_comes r OwnWaiting false o Accepted rest f h = (connected o f, h)
fits_comes r OwnWaiting false o (Clear x y) rest f h = (closing o ClearConfirmation tt (few_own o f), h)
fits_comes r OwnWaiting false o _ rest f h = absurd h
fits_comes r FarWaiting false o (Clear x y) rest f h = (closing o ClearConfirmation tt (nothing_few o f), h)
fits_comes r FarWaiting false o _ rest f h = absurd h
fits_comes Dte Collision false o Accepted rest f h = (connected o f, h)
fits_comes Dce Collision false o Accepted rest f h = absurd h
fits_comes r Collision false o (Clear x y) rest f h = (closing o ClearConfirmation tt (few_own o f), h)
fits_comes r Collision false o _ rest f h = absurd h
fits_comes r OwnClear false o (Clear x y) rest f h = (f, h)
fits_comes r OwnClear false o ClearConfirmation rest f h = (f, h)
fits_comes r OwnClear false o _ rest f h = (f, h)
fits_comes r Transfer rs o (Clear x y) rest f h = (closing o ClearConfirmation tt (few_call rs o f), h)
fits_comes r Transfer false o (Reset x y) rest f h = (h.0, h.1, (reset_learnt o f h.0 h.1, h.2))
fits_comes r Transfer true o (Reset x y) rest f h = (h.0, h.1, (reset_over o f h.0 h.1, h.2))
fits_comes r Transfer true o ResetConfirmation rest f h = (h.0, h.1, (reset_over o f h.0 h.1, h.2))
fits_comes r Transfer rs o (Data s n d) rest f h = (f, h)
fits_comes r Transfer rs o (Interrupt q) rest f h = (f, h)
fits_comes r Transfer rs o InterruptConfirmation rest f h = (f, h)
fits_comes r Transfer rs o (ReceiveReady n) rest f h = (f, h)
fits_comes r Transfer rs o (ReceiveNotReady n) rest f h = (f, h)
fits_comes r Transfer false o _ rest f h = absurd h
fits_comes r Transfer true o _ rest f h = absurd h
fits_comes r Ready true o t rest f h = absurd f
fits_comes r OwnWaiting true o t rest f h = absurd f
fits_comes r FarWaiting true o t rest f h = absurd f
fits_comes r Collision true o t rest f h = absurd f
fits_comes r OwnClear true o t rest f h = absurd f

-- ---- the layer's step is that

abbrev pub channel_with : ChannelState → Bool → List Body → Traffic → Channel
channel_with s rs o tr = record { state = s; resetting = rs; owed = o; traffic = tr }

-- after a step, all that is owed counted
abbrev pub After : Step → (ChannelState → Bool → List Body → Type 0) → Type 0
After st rest = rest st.channel.state st.channel.resetting (said st.owes st.channel.owed)

heard_after : (role : Role) (c : ℕ) (o : List Body) (tr : Traffic) (h : Heard) (rest : ChannelState → Bool → List Body → Type 0) → is_request (after_heard role c (channel_with Transfer false o tr) h).owes ≡ false
    → rest Transfer false o → After (after_heard role c (channel_with Transfer false o tr) h) rest
heard_after role c o tr (Keeps n t) rest e h = h
heard_after role c o tr (Confirms t) rest e h = h
heard_after role c o tr (Wrong d) rest e h = absurd (true≢false e)

pub received_comes : (role : Role) (flow : Flow) (c : ℕ) (s : ChannelState) (rs : Bool) (o : List Body) (tr : Traffic) (b : Body) (rest : ChannelState → Bool → List Body → Type 0) → is_request (received role flow c (channel_with s rs o tr) b).owes ≡ false
    → Comes role s rs o b rest → After (received role flow c (channel_with s rs o tr) b) rest
received_comes role flow c Ready rs o tr (Call p) rest e h = h.1
received_comes role flow c Ready rs o tr (Clear x y) rest e h = h.1
received_comes role flow c Ready rs o tr _ rest e h = absurd h
received_comes role flow c OwnWaiting rs o tr (Call p) rest e h = h
received_comes role flow c OwnWaiting rs o tr Accepted rest e h = h
received_comes role flow c OwnWaiting rs o tr (Clear x y) rest e h = h
received_comes role flow c OwnWaiting rs o tr _ rest e h = absurd h
received_comes role flow c FarWaiting rs o tr (Clear x y) rest e h = h
received_comes role flow c FarWaiting rs o tr _ rest e h = absurd h
received_comes Dte flow c Collision rs o tr Accepted rest e h = h
received_comes Dce flow c Collision rs o tr Accepted rest e h = absurd h
received_comes role flow c Collision rs o tr (Clear x y) rest e h = h
received_comes role flow c Collision rs o tr _ rest e h = absurd h
received_comes role flow c OwnClear rs o tr (Clear x y) rest e h = h
received_comes role flow c OwnClear rs o tr ClearConfirmation rest e h = h
received_comes role flow c OwnClear rs o tr _ rest e h = h
received_comes role flow c Transfer true o tr (Clear x y) rest e h = h
received_comes role flow c Transfer true o tr (Reset x y) rest e h = h.2
received_comes role flow c Transfer true o tr ResetConfirmation rest e h = h.2
received_comes role flow c Transfer true o tr (Data s n d) rest e h = h
received_comes role flow c Transfer true o tr (Interrupt q) rest e h = h
received_comes role flow c Transfer true o tr InterruptConfirmation rest e h = h
received_comes role flow c Transfer true o tr (ReceiveReady n) rest e h = h
received_comes role flow c Transfer true o tr (ReceiveNotReady n) rest e h = h
received_comes role flow c Transfer true o tr _ rest e h = absurd h
received_comes role flow c Transfer false o tr (Clear x y) rest e h = h
received_comes role flow c Transfer false o tr (Reset x y) rest e h = h.2
received_comes role flow c Transfer false o tr (Data s n d) rest e h = heard_after role c o tr (hears flow tr (Data s n d)) rest e h
received_comes role flow c Transfer false o tr (Interrupt q) rest e h = heard_after role c o tr (hears flow tr (Interrupt q)) rest e h
received_comes role flow c Transfer false o tr InterruptConfirmation rest e h = heard_after role c o tr (hears flow tr InterruptConfirmation) rest e h
received_comes role flow c Transfer false o tr (ReceiveReady n) rest e h = heard_after role c o tr (hears flow tr (ReceiveReady n)) rest e h
received_comes role flow c Transfer false o tr (ReceiveNotReady n) rest e h = heard_after role c o tr (hears flow tr (ReceiveNotReady n)) rest e h
received_comes role flow c Transfer false o tr _ rest e h = absurd h

heard_back : (role : Role) (c : ℕ) (o : List Body) (tr : Traffic) (h : Heard) (rest : ChannelState → Bool → List Body → Type 0) → is_request (after_heard role c (channel_with Transfer false o tr) h).owes ≡ false
    → After (after_heard role c (channel_with Transfer false o tr) h) rest → rest Transfer false o
heard_back role c o tr (Keeps n t) rest e h = h
heard_back role c o tr (Confirms t) rest e h = h
heard_back role c o tr (Wrong d) rest e h = absurd (true≢false e)

-- and what holds after the layer's step holds after the packet
pub received_back : (role : Role) (flow : Flow) (c : ℕ) (s : ChannelState) (rs : Bool) (o : List Body) (tr : Traffic) (b : Body) (rest rest2 : ChannelState → Bool → List Body → Type 0) → is_request (received role flow c (channel_with s rs o tr) b).owes ≡ false
    → Comes role s rs o b rest → After (received role flow c (channel_with s rs o tr) b) rest2 → Comes role s rs o b rest2
received_back role flow c Ready rs o tr (Call p) rest rest2 e h k = (h.0, k)
received_back role flow c Ready rs o tr (Clear x y) rest rest2 e h k = (h.0, k)
received_back role flow c Ready rs o tr _ rest rest2 e h k = absurd h
received_back role flow c OwnWaiting rs o tr (Call p) rest rest2 e h k = k
received_back role flow c OwnWaiting rs o tr Accepted rest rest2 e h k = k
received_back role flow c OwnWaiting rs o tr (Clear x y) rest rest2 e h k = k
received_back role flow c OwnWaiting rs o tr _ rest rest2 e h k = absurd h
received_back role flow c FarWaiting rs o tr (Clear x y) rest rest2 e h k = k
received_back role flow c FarWaiting rs o tr _ rest rest2 e h k = absurd h
received_back Dte flow c Collision rs o tr Accepted rest rest2 e h k = k
received_back Dce flow c Collision rs o tr Accepted rest rest2 e h k = absurd h
received_back role flow c Collision rs o tr (Clear x y) rest rest2 e h k = k
received_back role flow c Collision rs o tr _ rest rest2 e h k = absurd h
received_back role flow c OwnClear rs o tr (Clear x y) rest rest2 e h k = k
received_back role flow c OwnClear rs o tr ClearConfirmation rest rest2 e h k = k
received_back role flow c OwnClear rs o tr _ rest rest2 e h k = k
received_back role flow c Transfer true o tr (Clear x y) rest rest2 e h k = k
received_back role flow c Transfer true o tr (Reset x y) rest rest2 e h k = (h.0, h.1, k)
received_back role flow c Transfer true o tr ResetConfirmation rest rest2 e h k = (h.0, h.1, k)
received_back role flow c Transfer true o tr (Data s n d) rest rest2 e h k = k
received_back role flow c Transfer true o tr (Interrupt q) rest rest2 e h k = k
received_back role flow c Transfer true o tr InterruptConfirmation rest rest2 e h k = k
received_back role flow c Transfer true o tr (ReceiveReady n) rest rest2 e h k = k
received_back role flow c Transfer true o tr (ReceiveNotReady n) rest rest2 e h k = k
received_back role flow c Transfer true o tr _ rest rest2 e h k = absurd h
received_back role flow c Transfer false o tr (Clear x y) rest rest2 e h k = k
received_back role flow c Transfer false o tr (Reset x y) rest rest2 e h k = (h.0, h.1, k)
received_back role flow c Transfer false o tr (Data s n d) rest rest2 e h k = heard_back role c o tr (hears flow tr (Data s n d)) rest2 e k
received_back role flow c Transfer false o tr (Interrupt q) rest rest2 e h k = heard_back role c o tr (hears flow tr (Interrupt q)) rest2 e k
received_back role flow c Transfer false o tr InterruptConfirmation rest rest2 e h k = heard_back role c o tr (hears flow tr InterruptConfirmation) rest2 e k
received_back role flow c Transfer false o tr (ReceiveReady n) rest rest2 e h k = heard_back role c o tr (hears flow tr (ReceiveReady n)) rest2 e k
received_back role flow c Transfer false o tr (ReceiveNotReady n) rest rest2 e h k = heard_back role c o tr (hears flow tr (ReceiveNotReady n)) rest2 e k
received_back role flow c Transfer false o tr _ rest rest2 e h k = absurd h
