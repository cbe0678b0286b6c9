-- What a link holds stays in its pool.
use Rattle.std.specs.Prelude.{◌≡◌, ℕ, zero, suc, ◌+◌, ◌<◌, ◌≤◌, Bool, true, false, length, replicate}
use Rattle.std.proofs.Common.{refl, ap, ◌∙◌, sym, arith}
use Rattle.link_timers.specs.declared.role.Role.{Role}
use Rattle.link_timers.specs.declared.role.Role.TheVariants.{Dte, Dce}
use Rattle.lapb.specs.declared.link.LinkParams.{LinkParams}
use Rattle.line_end.specs.End as line
use Rattle.flow_window.specs.Pool.{Pool, in_use, Balances}
use Rattle.flow_window.proofs.Weights.{weight_ones}
use Rattle.lapb.specs.Held.{Link}
use Rattle.line_end.proofs.Steps.{Keeps}
use Rattle.layer_tests.specs.declared.link.station.Station.TheInside.{Inside}
use Rattle.layer_tests.specs.Links.Station.{IsPooled, IsStation}
use Rattle.line_end.specs.Held.{LineEnd}
use Rattle.layer_tests.specs.declared.link.terminus.Terminus.TheInside.{Inside as TerminusInside}
use Rattle.layer_tests.specs.Links.Terminus.{IsTerminus}

-- after a call of the link that gives buffers back or takes one
pub still_pooled : (before after : Pool) (old new : Link) → IsPooled before old → new.link.k ≡ old.link.k →
    Balances before old.held after new.held → length new.held ≡ length new.link.queue → IsPooled after new
still_pooled before after old new is k change tight = record {
  size = change.size ∙ is.size;
  places = change.places ∙ is.places ∙ ap (λ n. n + 1) (sym k);
  exact = λ w. let weights = change.weights w in let exact = is.exact w in omega (arith, weights, exact);
  tight = tight;
}

pub still_station : (a : Inside) (link : Link) (pool : Pool) → IsStation a → Keeps a.link.link link.link →
    Balances a.pool a.link.held pool link.held → length link.held ≡ length link.link.queue →
    IsStation (record a { link = link; pool = pool })
still_station a link pool is keeps change tight = record {
  info = keeps.info ∙ is.info;
  queue = omega (arith, keeps.queue, is.queue, keeps.k);
  pool = still_pooled a.pool pool a.link link is.pool keeps.k change tight;
}

-- there is a buffer for one more packet
pub has_room : (pool : Pool) (link : Link) → IsPooled pool link → length link.link.queue ≤ link.link.k →
    in_use pool < length pool.places
has_room pool link is few =
    let all = is.exact (λ _. 1) in
    let ones = weight_ones link.held in
    omega (arith, all, ones, is.tight, is.places, few)

-- ---- the end of a line

pub still_terminus : (a : TerminusInside) (end : LineEnd) (pool : Pool) → IsTerminus a →
    Balances a.pool a.end.held pool end.held → length end.held ≤ end.end.link.k → end.end.link.k ≡ a.end.end.link.k → end.end.link.info ≡ a.end.end.link.info →
    IsTerminus (record a { end = end; pool = pool })
still_terminus a end pool is change few k info = record {
  info = info ∙ is.info;
  size = change.size ∙ is.size;
  places = change.places ∙ is.places ∙ ap (λ n. n + 1) (sym k);
  exact = λ w. let weights = change.weights w in let exact = is.exact w in omega (arith, weights, exact);
  few = few;
}

pub has_buffer : (a : TerminusInside) → IsTerminus a → in_use a.pool < length a.pool.places
has_buffer a is =
    let all = is.exact (λ _. 1) in
    let ones = weight_ones a.end.held in
    omega (arith, all, ones, is.places, is.few)

-- as it is made
pub made_k : (role : Role) (p : LinkParams) → (line.made role p).link.k ≡ p.k
made_k role p = by_standing role p.standing
  where
    by_standing : (role : Role) (standing : Bool) → (line.made role (record p { standing = standing })).link.k ≡ p.k
    by_standing role true = refl
    by_standing Dte false = refl
    by_standing Dce false = refl

pub made_info : (role : Role) (p : LinkParams) → (line.made role p).link.info ≡ p.info
made_info role p = by_standing role p.standing
  where
    by_standing : (role : Role) (standing : Bool) → (line.made role (record p { standing = standing })).link.info ≡ p.info
    by_standing role true = refl
    by_standing Dte false = refl
    by_standing Dce false = refl

pub replicated : {X : Type 0} (n : ℕ) (x : X) → length (replicate n x) ≡ n
replicated zero x = refl
replicated (suc n) x = ap (λ m. suc m) (replicated n x)
