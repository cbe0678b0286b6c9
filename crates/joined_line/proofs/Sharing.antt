-- The buffers of a line are those that its end holds and those that its joins do: what one of the two does is done by the
-- line.
use Rattle.std.proofs.Common.{◌≡◌, ℕ, ◌+◌, ◌≤◌, List, [], ◌∷◌, ◌++◌, length, ap, subst, sym, ◌∙◌, arith}
use Rattle.flow_window.specs.Pool.{Pool, Buffer, Holds, weight, Balances}
use Rattle.flow_window.proofs.Weights.{weight_append, weight_ones}
use Rattle.data_transfer.specs.Held.{Loses}
use Rattle.packet_end.specs.Pooled.{PooledEnd, Serves}
use Rattle.switch_joins.specs.Held.{HeldJoins}
use Rattle.joined_line.specs.Pooled.{PooledLine}
use Rattle.joined_line.specs.LineView.{pooled_of, IsLine}
use Rattle.joined_line.specs.declared.line.SwitchLine.TheInside.{Inside}

-- ---- two lists of buffers

pub count : (bs cs : List Buffer) → length (bs ++ cs) ≡ length bs + length cs
count bs cs =
    let parts = weight_append (λ _. 1) bs cs in
    let all = weight_ones (bs ++ cs) in
    let first = weight_ones bs in
    let second = weight_ones cs in
    omega (arith, parts, all, first, second)

serves_first : (pool : Pool) (held gathered : List Buffer) (share channels info : ℕ) → length gathered ≤ channels → Serves pool (held ++ gathered) (share + channels) info
    → Serves pool held share info
serves_first pool held gathered share channels info within s = record {
  size_least = s.size_least;
  size_most = s.size_most;
  holds = λ w. let all = weight_append w held gathered in let holds = s.holds w in omega (arith, all, holds);
  room = let all = count held gathered in let room = s.room in omega (arith, all, room, within);
}

holds_first : (pool : Pool) (held gathered : List Buffer) → Holds pool (held ++ gathered) → Holds pool held
holds_first pool held gathered h w = let all = weight_append w held gathered in let holds = h w in omega (arith, all, holds)

holds_second : (pool : Pool) (held gathered : List Buffer) → Holds pool (held ++ gathered) → Holds pool gathered
holds_second pool held gathered h w = let all = weight_append w held gathered in let holds = h w in omega (arith, all, holds)

balances_first : (before after : Pool) (held holds gathered : List Buffer) → Balances before held after holds → Balances before (held ++ gathered) after (holds ++ gathered)
balances_first before after held holds gathered b = record {
  size = b.size;
  places = b.places;
  weights = λ w.
      let old = weight_append w held gathered in
      let new = weight_append w holds gathered in
      let own = b.weights w in
      omega (arith, old, new, own);
}

balances_second : (before after : Pool) (held gathered gathers : List Buffer) → Balances before gathered after gathers → Balances before (held ++ gathered) after (held ++ gathers)
balances_second before after held gathered gathers b = record {
  size = b.size;
  places = b.places;
  weights = λ w.
      let old = weight_append w held gathered in
      let new = weight_append w held gathers in
      let own = b.weights w in
      omega (arith, old, new, own);
}

-- ---- of a line

pub end_served : (a : Inside) (x : PooledLine) (pool : Pool) → pooled_of a ≡ x → IsLine a → Serves pool x.held x.claim.share x.claim.info → Serves pool a.end.held a.end.share a.end.info
end_served a x pool view i s =
    serves_first pool a.end.held a.joined.held a.end.share (length a.joined.joined) a.end.info i.gathered
    (subst (λ (y : PooledLine). Serves pool y.held y.claim.share y.claim.info) (sym view) s)

pub end_holds : (a : Inside) (x : PooledLine) (pool : Pool) → pooled_of a ≡ x → Holds pool x.held → Holds pool a.end.held
end_holds a x pool view h = holds_first pool a.end.held a.joined.held (subst (λ (y : PooledLine). Holds pool y.held) (sym view) h)

pub joins_hold : (a : Inside) (x : PooledLine) (pool : Pool) → pooled_of a ≡ x → Holds pool x.held → Holds pool a.joined.held
joins_hold a x pool view h = holds_second pool a.end.held a.joined.held (subst (λ (y : PooledLine). Holds pool y.held) (sym view) h)

pub end_balances : (a : Inside) (x : PooledLine) (before after : Pool) (e : PooledEnd) → pooled_of a ≡ x → Balances before a.end.held after e.held
    → Balances before x.held after (e.held ++ a.joined.held)
end_balances a x before after e view b =
    subst (λ (y : PooledLine). Balances before y.held after (e.held ++ a.joined.held)) view (balances_first before after a.end.held e.held a.joined.held b)

pub joins_balance : (a : Inside) (x : PooledLine) (before after : Pool) (j : HeldJoins) → pooled_of a ≡ x → Balances before a.joined.held after j.held
    → Balances before x.held after (a.end.held ++ j.held)
joins_balance a x before after j view b =
    subst (λ (y : PooledLine). Balances before y.held after (a.end.held ++ j.held)) view (balances_second before after a.end.held a.joined.held j.held b)

-- first the end and then the joins
pub both_balance : (a : Inside) (x : PooledLine) (before between after : Pool) (e : PooledEnd) (j : HeldJoins) → pooled_of a ≡ x → Balances before a.end.held between e.held
    → Balances between a.joined.held after j.held → Balances before x.held after (e.held ++ j.held)
both_balance a x before between after e j view b c =
    let first = end_balances a x before between e view b in
    let second = balances_second between after e.held a.joined.held j.held c in
    record {
      size = second.size ∙ first.size;
      places = second.places ∙ first.places;
      weights = λ w. let one = first.weights w in let two = second.weights w in omega (arith, one, two);
    }

-- what is left in the pool for the joins where the end gave up some and took some
pub still_hold : (a : Inside) (x : PooledLine) (before after : Pool) (e : PooledEnd) → pooled_of a ≡ x → Holds before x.held → Balances before a.end.held after e.held
    → Holds after a.joined.held
still_hold a x before after e view h b w =
    let held = subst (λ (y : PooledLine). Holds before y.held) (sym view) h w in
    let all = weight_append w a.end.held a.joined.held in
    let own = b.weights w in
    omega (arith, held, all, own)

pub end_loses : (a : Inside) (x : PooledLine) (out : List Buffer) (e : PooledEnd) → pooled_of a ≡ x → Loses a.end.held out e.held → Loses x.held out (e.held ++ a.joined.held)
end_loses a x out e view l w =
    let held = ap (λ (y : PooledLine). weight w y.held) view in
    let old = weight_append w a.end.held a.joined.held in
    let new = weight_append w e.held a.joined.held in
    let own = l w in
    omega (arith, held, old, new, own)

-- what the end hands out goes back
pub handed_back : (a : Inside) (x : PooledLine) (before after : Pool) (out : List Buffer) (e : PooledEnd) → pooled_of a ≡ x → Loses a.end.held out e.held
    → Balances before out after [] → Balances before x.held after (e.held ++ a.joined.held)
handed_back a x before after out e view l b = record {
  size = b.size;
  places = b.places;
  weights = λ w. let lost = end_loses a x out e view l w in let back = b.weights w in omega (arith, lost, back);
}

pub out_holds : (a : Inside) (x : PooledLine) (pool : Pool) (out : List Buffer) (e : PooledEnd) → pooled_of a ≡ x → Holds pool x.held → Loses a.end.held out e.held → Holds pool out
out_holds a x pool out e view h l w = let lost = end_loses a x out e view l w in let holds = h w in let all = weight_append w e.held a.joined.held in omega (arith, lost, holds, all)

-- a buffer is handed in
pub end_takes : (a : Inside) (x : PooledLine) (before after : Pool) (b : Buffer) (e : PooledEnd) → pooled_of a ≡ x → Balances before (b ∷ a.end.held) after e.held
    → Balances before (b ∷ x.held) after (e.held ++ a.joined.held)
end_takes a x before after b e view change = record {
  size = change.size;
  places = change.places;
  weights = λ w.
      let held = ap (λ (y : PooledLine). weight w y.held) view in
      let old = weight_append w a.end.held a.joined.held in
      let new = weight_append w e.held a.joined.held in
      let own = change.weights w in
      omega (arith, held, old, new, own);
}
