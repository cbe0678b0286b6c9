-- What is still to be covered at an end goes with its epoch, beside the agreement of the two ends.
use Rattle.std.proofs.Common.{◌≡◌, ℕ, ◌+◌, ◌-◌, ◌%◌, List, ◌∷◌, ◌++◌, length, sym, ap, ◌∙◌, append_assoc, length-append, arith}
use Rattle.data_transfer.specs.declared.flow.Flow.{Flow}
use Rattle.data_transfer.specs.Packets.{Datum, Body}
use Rattle.data_transfer.specs.Traffic.{Heard, hears}
use Rattle.data_transfer.specs.Traffic.Heard.{Keeps, Confirms, Wrong}
use Rattle.packet_channel.specs.Channel.{Request}
use Rattle.packet_laws.specs.Counts.{NamesCounts, NamesAfter, through_delivery}
use Rattle.packet_laws.proofs.Handshakes.Handshake.{Two, does, said}
use Rattle.packet_laws.proofs.Call.OneEpoch.{Inner, Epochs_agree, datas, heard_inner, inner_hears, inner_ok, inner_says, inner_after, Askable}
use Rattle.packet_laws.proofs.Call.Pipes.{acks_le}
use Rattle.packet_laws.proofs.Call.Asking.{pair_of, asking}
use Rattle.packet_laws.proofs.Call.Saying.{saying}
use Rattle.packet_laws.proofs.Call.Hearing.{hearing}
use Rattle.packet_laws.proofs.Naming.{counts_hold}

-- it ends with the last packet of the epoch that has D = 1
abbrev pub Undelivered : Inner → Type 0
Undelivered i = i.traffic.undelivered ≡ through_delivery i.epoch.sent - i.epoch.covered

pub record Agree (flow : Flow) (v : Two Inner) : Type 0 where
  pub ways : Epochs_agree flow v
  pub mine : Undelivered v.me
  pub yours : Undelivered v.you

-- so the numbers of an end name the counts of its epoch
pub names : (flow : Flow) (x y : Inner) (o b : List Body) → Epochs_agree flow (pair_of x y o b) → Undelivered x → NamesCounts flow x.traffic x.epoch
names flow x y o b i u =
    let s = i.forth.stream in let a = i.forth.acking in
    let r = i.back.stream in let k = i.back.acking in
    let covered = acks_le flow b x.epoch.covered y.epoch.released a.acks in
    let released = acks_le flow o y.epoch.covered x.epoch.released k.acks in
    let most = a.released_taken in let out_within = a.in_window in let in_within = k.in_window in
    let gone : List Datum = y.epoch.taken ++ (y.traffic.arrived ++ datas o) in
    let long : length gone ≡ length y.epoch.taken + length y.traffic.arrived + length (datas o) =
    (let e = length-append y.epoch.taken (y.traffic.arrived ++ datas o) in let f = length-append y.traffic.arrived (datas o) in omega arith) in
    record {
      gone = gone;
      sent = append_assoc y.epoch.taken (y.traffic.arrived ++ datas o) x.traffic.waiting
          ∙ ap (λ (l : List Datum). y.epoch.taken ++ l) (append_assoc y.traffic.arrived (datas o) x.traffic.waiting) ∙ s.items;
      send = s.next ∙ ap (λ (n : ℕ). n % 128) (sym long);
      covered = a.covered_is;
      covered_went = omega arith;
      went_within = omega arith;
      expected = r.expected;
      released = k.released_is;
      released_taken = k.released_taken;
      came_within = omega arith;
      undelivered = u;
    }

-- ---- asked, said and heard

pub asks : (flow : Flow) (r : Request) (x y : Inner) (o b : List Body) → Askable r x → Agree flow (pair_of x y o b) → Agree flow (pair_of (inner_after r x) y o b)
asks flow r x y o b may i = record {
  ways = asking flow r x y o b may i.ways;
  mine = (counts_hold.asked flow i.ways.small x.traffic x.epoch r (names flow x y o b i.ways i.mine)).undelivered;
  yours = i.yours;
}

pub says_on : (flow : Flow) (x y : Inner) (o b : List Body) → Agree flow (pair_of x y o b) → Agree flow (pair_of (inner_says flow x).end_ y (said (inner_says flow x).says o) b)
says_on flow x y o b i = record {
  ways = saying flow x y o b i.ways;
  mine = (counts_hold.said flow i.ways.small x.traffic x.epoch (names flow x y o b i.ways i.mine)).0.undelivered;
  yours = i.yours;
}

heard_delivery : (flow : Flow) (h : Heard) (i : Inner) (t : Body) → NamesAfter flow h i.traffic i.epoch t → Undelivered i → Undelivered (heard_inner h i)
heard_delivery flow (Keeps n t) i b w u = w.0.undelivered
heard_delivery flow (Confirms t) i b w u = w.undelivered
heard_delivery flow (Wrong d) i b w u = u

pub hears_on : (flow : Flow) (v : Two Inner) (t : Body) (ts : List Body) → Agree flow (record v { back = t ∷ ts }) → inner_ok flow v.me t × Agree flow (does (record v { back = ts }) (inner_hears flow v.me t))
hears_on flow v t ts i =
    let h = hearing flow v t ts i.ways in (
      h.0,
      record {
        ways = h.1;
        mine = heard_delivery flow (hears flow v.me.traffic t) v.me t
            (counts_hold.heard flow i.ways.small v.me.traffic v.me.epoch t
            (names flow v.me v.you v.out (t ∷ ts) i.ways i.mine)) i.mine;
        yours = i.yours;
      },
    )

-- ---- both ends look at it alike

pub agree_turned : (flow : Flow) (x y : Inner) (o b : List Body) → Agree flow (pair_of x y o b) → Agree flow (pair_of y x b o)
agree_turned flow x y o b a = record { ways = record { small = a.ways.small; forth = a.ways.back; back = a.ways.forth }; mine = a.yours; yours = a.mine }
