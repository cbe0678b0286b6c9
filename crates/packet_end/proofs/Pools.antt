-- What a link and a layer hold of their pool, after a step of one of them.
use Rattle.std.proofs.Common.{◌≡◌, ℕ, zero, suc, ◌+◌, ◌*◌, ◌<◌, ◌≤◌, Bool, true, false, List, ◌++◌, length, refl, ap, sym, subst, arith}
use Rattle.std.specs.Prelude.{replicate}
use Rattle.link_timers.specs.declared.role.Role.{Role}
use Rattle.link_timers.specs.declared.role.Role.TheVariants.{Dte, Dce}
use Rattle.flow_window.specs.Pool.{Pool, Buffer, weight, in_use, Holds, Balances}
use Rattle.flow_window.proofs.Weights.{weight_append, weight_ones, holds_after}
use Rattle.data_transfer.specs.declared.flow.Flow.{Flow}
use Rattle.lapb.specs.declared.link.LinkParams.{LinkParams}
use Rattle.line_end.specs.End as line
use Rattle.line_end.specs.Held.{LineEnd}
use Rattle.packet_channel.specs.Channel.{closed_channel}
use Rattle.packet_layer.specs.Layer as machine
use Rattle.packet_layer.specs.Layer.{standing_channels}
use Rattle.packet_layer.specs.Held.{Loses, Takes, Layer, most_held, HasRoom}
use Rattle.packet_end.specs.Params.{info_of}
use Rattle.packet_end.specs.Pooled.{PooledEnd, Serves, share_of}
use Rattle.packet_end.specs.PooledView.{pooled_of}
use Rattle.packet_end.specs.declared.pooled.PooledEnd.TheInside.{Inside}

-- a pool serves an end still after a step of it
pub serves_after : (before after : Pool) (held holds : List Buffer) (share shares info infos : ℕ) → Serves before held share info →
    Balances before held after holds → shares ≡ share → infos ≡ info → Serves after holds shares infos
serves_after before after held holds share shares info infos is change same short = record {
  size_least = omega (arith, change.size, is.size_least, short);
  size_most = omega (arith, change.size, is.size_most);
  holds = holds_after before after held holds is.holds change;
  room =
      let weights = change.weights (λ _. 1) in
      let old = weight_ones held in
      let new = weight_ones holds in
      omega (arith, weights, old, new, change.places, is.room, same);
}

-- ---- what both hold together

-- a pool serves a link and a layer
abbrev pub ServesBoth : Pool → LineEnd → Layer → Type 0
ServesBoth pool line layer = Serves pool (line.held ++ layer.held) (share_of line.end layer.layer) line.end.link.info

count : (bs cs : List Buffer) → length (bs ++ cs) ≡ length bs + length cs
count bs cs =
    let parts = weight_append (λ _. 1) bs cs in
    let all = weight_ones (bs ++ cs) in
    let first = weight_ones bs in
    let second = weight_ones cs in
    omega (arith, parts, all, first, second)

pub served : (a : Inside) (x : PooledEnd) (pool : Pool) → pooled_of a ≡ x → Serves pool x.held x.share x.info →
    ServesBoth pool a.line.value a.layer
served a x pool view is = subst (λ (x : PooledEnd). Serves pool x.held x.share x.info) (sym view) is

pub line_holds : (pool : Pool) (line : LineEnd) (layer : Layer) → ServesBoth pool line layer → Holds pool line.held
line_holds pool line layer is w =
    let all = is.holds w in
    let parts = weight_append w line.held layer.held in
    omega (arith, all, parts)

pub layer_part : (pool : Pool) (line : LineEnd) (layer : Layer) → Holds pool (line.held ++ layer.held) →
    Holds pool layer.held
layer_part pool line layer holds w =
    let all = holds w in
    let parts = weight_append w line.held layer.held in
    omega (arith, all, parts)

pub layer_holds : (pool : Pool) (line : LineEnd) (layer : Layer) → ServesBoth pool line layer → Holds pool layer.held
layer_holds pool line layer is = layer_part pool line layer is.holds

-- each packet of the line fits into a buffer
pub layer_size : (pool : Pool) (line : LineEnd) (layer : Layer) → ServesBoth pool line layer →
    line.end.link.info ≡ info_of layer.layer.flow → layer.layer.flow.size ≤ pool.size
layer_size pool line layer is info = omega (arith, is.size_least, info)

-- beside what the link holds there is room for all that the layer may hold, and one packet more
pub layer_room : (pool : Pool) (line : LineEnd) (layer : Layer) → ServesBoth pool line layer →
    length line.held ≤ line.end.link.k → HasRoom pool layer.held (most_held layer.layer + 1)
layer_room pool line layer is few =
    let all = is.room in
    let parts = count line.held layer.held in
    omega (arith, all, parts, few)

-- where both hold no more than they may, there is a buffer for one packet more
pub line_room : (pool : Pool) (line : LineEnd) (layer : Layer) → ServesBoth pool line layer →
    length line.held ≤ line.end.link.k → length layer.held ≤ most_held layer.layer → in_use pool < length pool.places
line_room pool line layer is few fits =
    let all = is.room in
    let parts = count line.held layer.held in
    omega (arith, all, parts, few, fits)

pub within : (line : LineEnd) (layer : Layer) → length line.held ≤ line.end.link.k →
    length layer.held ≤ most_held layer.layer → length (line.held ++ layer.held) < share_of line.end layer.layer
within line layer few fits = let parts = count line.held layer.held in omega (arith, parts, few, fits)

-- ---- a step of one of them

pub link_steps : (before after : Pool) (old new : LineEnd) (layer : Layer) → Balances before old.held after new.held →
    Balances before (old.held ++ layer.held) after (new.held ++ layer.held)
link_steps before after old new layer change = record {
  size = change.size;
  places = change.places;
  weights = λ w.
      let own = change.weights w in
      let before = weight_append w old.held layer.held in
      let after = weight_append w new.held layer.held in
      omega (arith, own, before, after);
}

pub layer_steps : (before after : Pool) (line : LineEnd) (old new : Layer) → Balances before old.held after new.held →
    Balances before (line.held ++ old.held) after (line.held ++ new.held)
layer_steps before after line old new change = record {
  size = change.size;
  places = change.places;
  weights = λ w.
      let own = change.weights w in
      let before = weight_append w line.held old.held in
      let after = weight_append w line.held new.held in
      omega (arith, own, before, after);
}

pub line_balanced : {old : LineEnd} (a : Inside) (x : PooledEnd) (before after : Pool) (new : LineEnd) → pooled_of a ≡ x →
    old ≡ a.line.value → Balances before old.held after new.held → Balances before x.held after (new.held ++ a.layer.held)
line_balanced a x before after new view lent change =
    subst (λ (x : PooledEnd). Balances before x.held after (new.held ++ a.layer.held)) view
    (link_steps before after a.line.value new a.layer
    (subst (λ (l : LineEnd). Balances before l.held after new.held) lent change))

pub lent_holds : {lent : LineEnd} (pool : Pool) (line : LineEnd) → lent ≡ line → Holds pool line.held → Holds pool lent.held
lent_holds pool line same holds = subst (λ (l : LineEnd). Holds pool l.held) (sym same) holds

pub layer_balanced : (a : Inside) (x : PooledEnd) (before after : Pool) (new : Layer) → pooled_of a ≡ x →
    Balances before a.layer.held after new.held → Balances before x.held after (a.line.value.held ++ new.held)
layer_balanced a x before after new view change =
    subst (λ (x : PooledEnd). Balances before x.held after (a.line.value.held ++ new.held)) view
    (layer_steps before after a.line.value a.layer new change)

pub layer_loses : (a : Inside) (x : PooledEnd) (given : List Buffer) (new : Layer) → pooled_of a ≡ x →
    Loses a.layer.held given new.held → Loses x.held given (a.line.value.held ++ new.held)
layer_loses a x given new view change w =
    let own = change w in
    let old = weight_append w a.line.value.held a.layer.held in
    let all = weight_append w a.line.value.held new.held in
    let whole = ap (λ (x : PooledEnd). weight w x.held) view in
    omega (arith, own, old, all, whole)

pub layer_takes : (a : Inside) (x : PooledEnd) (b : Buffer) (back : List Buffer) (new : Layer) → pooled_of a ≡ x →
    Takes a.layer.held b back new.held → Takes x.held b back (a.line.value.held ++ new.held)
layer_takes a x b back new view change w =
    let own = change w in
    let old = weight_append w a.line.value.held a.layer.held in
    let all = weight_append w a.line.value.held new.held in
    let whole = ap (λ (x : PooledEnd). weight w x.held) view in
    omega (arith, own, old, all, whole)

-- ---- as both are made

pub made_k : (role : Role) (p : LinkParams) → (line.made role p).link.k ≡ p.k
made_k role p = by_standing role p.standing
  where
    by_standing : (role : Role) (standing : Bool) → (line.made role (record p { standing = standing })).link.k ≡ p.k
    by_standing role true = refl
    by_standing Dte false = refl
    by_standing Dce false = refl

pub made_info : (role : Role) (p : LinkParams) → (line.made role p).link.info ≡ p.info
made_info role p = by_standing role p.standing
  where
    by_standing : (role : Role) (standing : Bool) → (line.made role (record p { standing = standing })).link.info ≡ p.info
    by_standing role true = refl
    by_standing Dte false = refl
    by_standing Dce false = refl

made_length : (standing : Bool) (n : ℕ) → length (standing_channels standing (replicate n closed_channel)) ≡ n
made_length true zero = refl
made_length true (suc n) = ap (λ m. suc m) (made_length false n)
made_length false zero = refl
made_length false (suc n) = ap (λ m. suc m) (made_length false n)

pub made_most : (role : Role) (channels : ℕ) (flow : Flow) (standing : Bool) →
    most_held (machine.made role channels flow standing) ≡ channels * (flow.window + 8)
made_most role channels flow standing = ap (λ n. n * (flow.window + 8)) (made_length standing channels)

pub replicated : {X : Type 0} (n : ℕ) (x : X) → length (replicate n x) ≡ n
replicated zero x = refl
replicated (suc n) x = ap (λ m. suc m) (replicated n x)
