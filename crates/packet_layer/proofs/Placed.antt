-- Channels with their buffers: what one of them, by its place, is to all.
use Rattle.std.proofs.Common.{◌≡◌, ℕ, zero, suc, ◌+◌, ◌*◌, ◌<◌, ◌≤◌, List, [], ◌∷◌, ◌++◌, length, set, get_or, Some, refl, ap, ◌∙◌, sym, subst, arith}
use Rattle.std.specs.Prelude.{slice_get}
use Rattle.std.proofs.lemmas.Option.{same_Some, none-some}
use Rattle.std.proofs.lemmas.List.{length-map, map-set}
use Rattle.flow_window.specs.Pool.{Pool, Buffer, weight, in_use, Holds, Balances}
use Rattle.flow_window.proofs.Weights.{weight_append, weight_ones}
use Rattle.data_transfer.specs.Packets.{CallParts}
use Rattle.packet_channel.specs.Channel.{owing, placing}
use Rattle.data_transfer.specs.Held.{Loses, Takes}
use Rattle.packet_channel.specs.Held.{Channel as Holder, Fits}
use Rattle.data_transfer.specs.declared.flow.Flow.{Flow}
use Rattle.packet_layer.specs.declared.layer.Layer.TheInside.{Inside}
use Rattle.packet_layer.specs.Held.{Layer as Held, plain, buffers, AllFit, HasRoom, most_held}
use Rattle.packet_layer.specs.LayerView.{holding, IsLayer}
use Rattle.packet_layer.proofs.Places.{at_place}

pub plain_length : (cs : List Holder) → length (plain cs) ≡ length cs
plain_length cs = length-map cs (λ (c : Holder). c.channel)

pub plain_at : (cs : List Holder) (i : ℕ) (c : Holder) → slice_get cs i ≡ Some c → slice_get (plain cs) i ≡ Some c.channel
plain_at [] i c e = absurd (none-some c e)
plain_at (x ∷ xs) zero c e = ap (λ (x : Holder). Some x.channel) (same_Some x c e)
plain_at (x ∷ xs) (suc i) c e = plain_at xs i c e

pub plain_set : (cs : List Holder) (i : ℕ) (c : Holder) → plain (set cs i c) ≡ set (plain cs) i c.channel
plain_set cs i c = map-set (λ (c : Holder). c.channel) cs i c

-- a channel that the code borrows
pub borrowed : (cs : List Holder) (i : ℕ) (c : Holder) → i < length (plain cs) → c ≡ get_or cs i c →
    slice_get cs i ≡ Some c
borrowed cs i c within e = let long = plain_length cs in at_place cs i c (omega (arith, within, long)) e

-- ---- buffers

pub buffers_set : (w : Buffer → ℕ) (cs : List Holder) (i : ℕ) (old new : Holder) → slice_get cs i ≡ Some old →
    weight w (buffers (set cs i new)) + weight w old.held ≡ weight w (buffers cs) + weight w new.held
buffers_set w [] i old new e = absurd (none-some old e)
buffers_set w (x ∷ xs) zero old new e =
    let same = ap (λ (c : Holder). weight w c.held) (same_Some x old e) in
    let before = weight_append w x.held (buffers xs) in
    let after = weight_append w new.held (buffers xs) in
    omega (arith, same, before, after)
buffers_set w (x ∷ xs) (suc i) old new e =
    let rest = buffers_set w xs i old new e in
    let before = weight_append w x.held (buffers xs) in
    let after = weight_append w x.held (buffers (set xs i new)) in
    omega (arith, rest, before, after)

pub buffers_there : (w : Buffer → ℕ) (cs : List Holder) (i : ℕ) (c : Holder) → slice_get cs i ≡ Some c →
    weight w c.held ≤ weight w (buffers cs)
buffers_there w [] i c e = absurd (none-some c e)
buffers_there w (x ∷ xs) zero c e =
    let same = ap (λ (c : Holder). weight w c.held) (same_Some x c e) in
    let all = weight_append w x.held (buffers xs) in
    omega (arith, same, all)
buffers_there w (x ∷ xs) (suc i) c e =
    let rest = buffers_there w xs i c e in
    let all = weight_append w x.held (buffers xs) in
    omega (arith, rest, all)

-- what a channel holds is in use
pub holds_at : (pool : Pool) (cs : List Holder) (i : ℕ) (c : Holder) → Holds pool (buffers cs) →
    slice_get cs i ≡ Some c → Holds pool c.held
holds_at pool cs i c all e w =
    let there = buffers_there w cs i c e in
    let within = all w in
    omega (arith, there, within)

-- a channel gives buffers back or takes some
pub balances_at : (before after : Pool) (cs : List Holder) (i : ℕ) (old new : Holder) → slice_get cs i ≡ Some old →
    Balances before old.held after new.held → Balances before (buffers cs) after (buffers (set cs i new))
balances_at before after cs i old new e change = record {
  size = change.size;
  places = change.places;
  weights = λ w.
      let own = change.weights w in
      let all = buffers_set w cs i old new e in
      omega (arith, own, all);
}

-- it holds what it held
pub buffers_same : (cs : List Holder) (i : ℕ) (old new : Holder) → slice_get cs i ≡ Some old → new.held ≡ old.held →
    buffers (set cs i new) ≡ buffers cs
buffers_same [] i old new e same = refl
buffers_same (x ∷ xs) zero old new e same =
    ap (λ bs. bs ++ buffers xs) (same ∙ ap (λ (c : Holder). c.held) (sym (same_Some x old e)))
buffers_same (x ∷ xs) (suc i) old new e same = ap (λ bs. x.held ++ bs) (buffers_same xs i old new e same)

-- ---- how many

pub fits_at : (flow : Flow) (cs : List Holder) (i : ℕ) (c : Holder) → AllFit flow cs → slice_get cs i ≡ Some c →
    Fits flow c
fits_at flow [] i c all e = absurd (none-some c e)
fits_at flow (x ∷ xs) zero c all e = subst (λ (y : Holder). Fits flow y) (same_Some x c e) all.0
fits_at flow (x ∷ xs) (suc i) c all e = fits_at flow xs i c all.1 e

pub fits_set : (flow : Flow) (cs : List Holder) (i : ℕ) (new : Holder) → AllFit flow cs → Fits flow new →
    AllFit flow (set cs i new)
fits_set flow [] i new all fits = tt
fits_set flow (x ∷ xs) zero new all fits = (fits, all.1)
fits_set flow (x ∷ xs) (suc i) new all fits = (all.0, fits_set flow xs i new all.1 fits)

pub few : (flow : Flow) (cs : List Holder) → AllFit flow cs →
    length (buffers cs) ≤ length (plain cs) * (flow.window + 8)
few flow [] all = omega arith
few flow (c ∷ cs) all =
    let rest = few flow cs all.1 in
    let ones = weight_append (λ _. 1) c.held (buffers cs) in
    let own = weight_ones c.held in
    let others = weight_ones (buffers cs) in
    let together = weight_ones (c.held ++ buffers cs) in
    omega (arith, rest, ones, own, others, together, all.0.held)

-- there is a buffer for one packet more
pub room_for_one : (pool : Pool) (flow : Flow) (cs : List Holder) → AllFit flow cs →
    HasRoom pool (buffers cs) (length (plain cs) * (flow.window + 8) + 1) → in_use pool < length pool.places
room_for_one pool flow cs all room = let most = few flow cs all in omega (arith, most, room)

-- ---- a step of the channel at a place

pub placed : (a : Inside) (x : Held) (i : ℕ) (c : Holder) → holding a ≡ x → i < length x.layer.channels →
    c ≡ get_or a.channels.items i c → slice_get a.channels.items i ≡ Some c
placed a x i c view within e =
    let same = ap (λ (x : Held). length x.layer.channels) view in
    borrowed a.channels.items i c (omega (arith, same, within)) e

pub own_held : (a : Inside) (x : Held) (pool : Pool) (i : ℕ) (c : Holder) → holding a ≡ x → Holds pool x.held →
    slice_get a.channels.items i ≡ Some c → Holds pool c.held
own_held a x pool i c view all e =
    holds_at pool a.channels.items i c (subst (λ (x : Held). Holds pool x.held) (sym view) all) e

pub own_room : (a : Inside) (x : Held) (pool : Pool) → IsLayer a → holding a ≡ x →
    HasRoom pool x.held (most_held x.layer + 1) → in_use pool < length pool.places
own_room a x pool is view room =
    room_for_one pool a.flow a.channels.items is.fits
    (subst (λ (x : Held). HasRoom pool x.held (most_held x.layer + 1)) (sym view) room)

pub own_balance : (a : Inside) (x : Held) (before after : Pool) (i : ℕ) (old new : Holder) → holding a ≡ x →
    slice_get a.channels.items i ≡ Some old → Balances before old.held after new.held →
    Balances before x.held after (buffers (set a.channels.items i new))
own_balance a x before after i old new view e change =
    subst (λ (x : Held). Balances before x.held after (buffers (set a.channels.items i new))) view
    (balances_at before after a.channels.items i old new e change)

pub fits_after : (flow : Flow) (cs : List Holder) (i : ℕ) (old new : Holder) → AllFit flow cs →
    slice_get cs i ≡ Some old → (Fits flow old → Fits flow new) → AllFit flow (set cs i new)
fits_after flow cs i old new all e fits = fits_set flow cs i new all (fits (fits_at flow cs i old all e))

pub rw_fits : (flow other : Flow) (old new : Holder) → other ≡ flow → (Fits other old → Fits other new) →
    Fits flow old → Fits flow new
rw_fits flow other old new e fits = subst (λ (f : Flow). Fits f old → Fits f new) e fits

-- a call that is placed takes no buffer
pub fits_kept : (flow : Flow) (old new : Holder) (parts : CallParts) →
    new ≡ record old { channel = owing (placing parts old.channel) } → Fits flow old → Fits flow new
fits_kept flow old new parts e fits =
    rw e (record {
      arrived = fits.arrived;
      held = fits.held;
      arrived_short = fits.arrived_short;
      waiting_short = fits.waiting_short;
    })

pub own_few : (a : Inside) (x : Held) → IsLayer a → holding a ≡ x → length x.held ≤ most_held x.layer
own_few a x is view =
    subst (λ (x : Held). length x.held ≤ most_held x.layer) view (few a.flow a.channels.items is.fits)

-- also where the channel at a place changed
pub few_after : (flow : Flow) (cs : List Holder) (i : ℕ) (old new : Holder) → AllFit flow cs →
    slice_get cs i ≡ Some old → (Fits flow old → Fits flow new) →
    length (buffers (set cs i new)) ≤ length (plain (set cs i new)) * (flow.window + 8)
few_after flow cs i old new all e fits = few flow (set cs i new) (fits_after flow cs i old new all e fits)

-- ---- a buffer is handed out or in

pub own_loss : (a : Inside) (x : Held) (given : List Buffer) (i : ℕ) (old new : Holder) → holding a ≡ x →
    slice_get a.channels.items i ≡ Some old → Loses old.held given new.held →
    Loses x.held given (buffers (set a.channels.items i new))
own_loss a x given i old new view e change w =
    let all = buffers_set w a.channels.items i old new e in
    let own = change w in
    let before = ap (λ (x : Held). weight w x.held) view in
    omega (arith, all, own, before)

pub own_gain : (a : Inside) (x : Held) (b : Buffer) (back : List Buffer) (i : ℕ) (old new : Holder) →
    holding a ≡ x → slice_get a.channels.items i ≡ Some old → Takes old.held b back new.held →
    Takes x.held b back (buffers (set a.channels.items i new))
own_gain a x b back i old new view e change w =
    let all = buffers_set w a.channels.items i old new e in
    let own = change w in
    let before = ap (λ (x : Held). weight w x.held) view in
    omega (arith, all, own, before)
