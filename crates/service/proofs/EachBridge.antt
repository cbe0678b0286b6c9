-- What becomes of each bridge, and of all.
use Rattle.std.proofs.Common.{◌≡◌, ◌≢◌, ◌<◌, ◌+◌, ◌-◌, ℕ, zero, suc, Bool, true, false, not, ◌&&◌, ◌||◌, List, [], ◌∷◌, ◌++◌, length, set, slice_get, position, get_or, flat_map, Option, Some, None, refl, sym, ap, ◌∙◌, subst, inl, inr, cond, append-nil, Result, Ok, Err, arith}
use Rattle.std.specs.Prelude.{is_some, nat_lt}
use Rattle.std.specs.Borrow.{Bor}
use Rattle.std.specs.List.{list_any, list_all, position_or_len}
use Rattle.std.proofs.Math.ListN.{length-set}
use Rattle.std.proofs.lemmas.Bool.{cases_eq}
use Rattle.std.proofs.lemmas.Bool.Decides.{nat_tests}
use Rattle.std.proofs.lemmas.Grind.{flat_map-append}
use Rattle.std.proofs.lemmas.List.Folds.{list_any_at}
use Rattle.std.proofs.lemmas.Option.{slice_get_within, get_or_from_slice_get}
use Rattle.circular_buffer.proofs.Places.{slice_get-set_same, slice_get-set_other}
use Rattle.bridge_ports.specs.declared.phases.BridgeTerms.{BridgeTerms}
use Rattle.bridge_ports.specs.declared.phases.CallPhase.{CallPhase}
use Rattle.bridge_ports.specs.declared.phases.CallPhase.TheVariants as call
use Rattle.bridge_ports.specs.declared.phases.FarEnd.{FarEnd}
use Rattle.bridge_ports.specs.declared.phases.Phases.{Phases}
use Rattle.bridge_ports.specs.Bridges.{BridgeState, has_call, is_free, with_call}
use Rattle.bridge_ports.specs.Laws.{turns}
use Rattle.bridge_ports.specs.Phases as phase
use Rattle.frame_lines.specs.Lines.{LineService}
use Rattle.line_sim.specs.Stepping.{lent}
use Rattle.net_events.specs.declared.event.Event.{Event}
use Rattle.net_events.specs.declared.event.Event.TheVariants.{AtTerminal, Call, Ask, Take, Deliver, Lose, Expire, Relink, GivesUp, Restart}
use Rattle.net_events.specs.declared.event.StepFault.{StepFault}
use Rattle.net_events.specs.declared.answer.Answer.{Answer}
use Rattle.net_process.specs.Process.{ProcessState}
use Rattle.packet_host.specs.declared.request.HostRequest.TheVariants.{Refuse}
use Rattle.service.specs.declared.bridges.BridgePort.{BridgePort}
use Rattle.service.specs.declared.bridges.Owner.TheVariants as owner
use Rattle.service.specs.declared.hosts.HostChannel.{HostChannel}
use Rattle.service.specs.declared.mail.News.{News}
use Rattle.service.specs.declared.mail.News.TheVariants as news
use Rattle.service.specs.Steps.{Step, Makes, AreAside, Does, is_at_host, is_at_terminal}
use Rattle.service.specs.Bridging.{IsStill, IsCarried, Carries, PassesAt, said_in, taken_in}
use Rattle.service.specs.AllBridges.{Bridged, bridged, kept_channel, forgotten, after_news, is_call_of, channel_of, channel_called, after_placing, IsHello, Part, passes, carries, hears, rings, calls, Befalls, AllBefall, steps_in, IsBridged, is_of_call, CallsAreCarried, is_channel, has_channel, is_free_port, channel_in, channel_at, AreOnOwnChannels, HaveNoChannels, changed_in, bridge_changed, with_bridge, AreBridged, GoesThrough, ServesBridges, EndsCall, LeavesChannel, CallsOn, GoesThroughCall}
use Rattle.service.proofs.Keys.{first_found}
use Rattle.service.proofs.Stepping.{Lent, neither_left, neither_right, passes_by-then, silent-none, elsewhere}
use Rattle.service.proofs.Bridged.{carried-then, same_channel, on_itself, asks_nothing_there}

-- ---- steps

pub still_none : (at : HostChannel) → IsStill at []
still_none at = record { says = refl; takes = refl }

-- an event at no host says and takes nothing
still_event : (at : HostChannel) (event : Event) (answer : Result Answer StepFault) → is_at_host event ≡ false
    → (said_in at event answer ≡ []) × (taken_in at event answer ≡ [])
still_event at (AtTerminal node terminal event) answer is = (refl, refl)
still_event at (Call node address user_data) answer is = cc
still_event at (Ask node channel request) answer is = cc
still_event at (Take node channel) answer is = cc
still_event at (Deliver line direction) answer is = (refl, refl)
still_event at (Lose line direction) answer is = (refl, refl)
still_event at (Expire node line timer) answer is = (refl, refl)
still_event at (Relink line) answer is = (refl, refl)
still_event at (GivesUp line) answer is = (refl, refl)
still_event at (Restart node) answer is = (refl, refl)

first_true : (a b : Bool) → (not a && b) ≡ true → a ≡ false
first_true true b is = cc
first_true false b is = refl

second_true : (a b : Bool) → (a && b) ≡ true → b ≡ true
second_true true b is = is
second_true false b is = cc

pub still_aside : (at : HostChannel) (steps : List Step) → AreAside steps → IsStill at steps
still_aside at [] aside = still_none at
still_aside at (step ∷ steps) aside =
    let one = still_event at step.event step.answer (first_true (is_at_host step.event) _ aside) in
    let rest = still_aside at steps (second_true (not (is_at_host step.event)) _ aside) in
    record {
      says = λ i. one.0 i ++ rest.says i;
      takes = λ i. one.1 i ++ rest.takes i;
    }

-- a call says and takes nothing
still_call : (at : HostChannel) (node : ℕ) (event : Event) (answer : Result Answer StepFault) → is_call_of node event ≡ true
    → (said_in at event answer ≡ []) × (taken_in at event answer ≡ [])
still_call at node (Call other address user_data) answer is = (refl, refl)
still_call at node _ answer is = cc

pub still_calling : (at : HostChannel) (node : ℕ) (step : Step) → is_call_of node step.event ≡ true → IsStill at (step ∷ [])
still_calling at node step is =
    let one = still_call at node step.event step.answer is in
    record { says = append-nil _ ∙ one.0; takes = append-nil _ ∙ one.1 }

-- ---- one bridge

all_befall-append : (xs ys : List Part) (p m q : Bridged) → AllBefall xs p m → AllBefall ys m q → AllBefall (xs ++ ys) p q
all_befall-append [] ys p m q same rest = subst (λ (x : Bridged). AllBefall ys x q) same rest
all_befall-append (x ∷ xs) ys p m q (mid, one, rest) two = (mid, one, all_befall-append xs ys mid m q rest two)

bridged-then : (xs ys : List Step) (p m q : Bridged) → IsBridged xs p m → IsBridged ys m q → IsBridged (xs ++ ys) p q
bridged-then xs ys p m q one two = record {
  parts = one.parts ++ two.parts;
  all = flat_map-append steps_in one.parts two.parts ∙ (λ i. one.all i ++ two.all i);
  befall = all_befall-append one.parts two.parts p m q one.befall two.befall;
}

bridged_none : (p : Bridged) → IsBridged [] p p
bridged_none p = record { parts = []; all = refl; befall = refl }

bridged_by : (part : Part) (p q : Bridged) → Befalls part p q → IsBridged (steps_in part) p q
bridged_by part p q befalls =
    record { parts = part ∷ []; all = append-nil (steps_in part); befall = (q, befalls, refl) }

bridged_past : (steps : List Step) (p : Bridged) → ((at : HostChannel) → p.at ≡ Some at → IsStill at steps) → IsBridged steps p p
bridged_past steps p still = bridged_by (passes steps) p p (refl, still)

-- ---- all bridges

pub are_none : (ports : List BridgePort) → AreBridged [] ports ports
are_none ports = record { count = refl; each = λ place p there. (p, there, bridged_none (bridged p)) }

pub are-then : (xs ys : List Step) (a b c : List BridgePort) → AreBridged xs a b → AreBridged ys b c → AreBridged (xs ++ ys) a c
are-then xs ys a b c one two = record {
  count = two.count ∙ one.count;
  each = λ place p there.
      let first = one.each place p there in
      let second = two.each place first.0 first.1 in
      (second.0, second.1, bridged-then xs ys (bridged p) (bridged first.0) (bridged second.0) first.2 second.2);
}

are_past : (steps : List Step) (ports : List BridgePort)
    → ((place : ℕ) (at : HostChannel) → channel_at place ports ≡ Some at → IsStill at steps) → AreBridged steps ports ports
are_past steps ports still = record {
  count = refl;
  each = λ place p there. (p, there, bridged_past steps (bridged p) (λ at has. still place at (ap channel_in there ∙ has)));
}

-- steps for the bridge of one place
are_one : (steps : List Step) (ports : List BridgePort) (place : ℕ) (p q : BridgePort) → slice_get ports place ≡ Some p
    → IsBridged steps (bridged p) (bridged q)
    → ((other : ℕ) (at : HostChannel) → other ≢ place → channel_at other ports ≡ Some at → IsStill at steps)
    → AreBridged steps ports (set ports place q)
are_one steps ports place p q there one still = record {
  count = length-set ports place q;
  each = λ other r is. elim (cases_eq other place) [
    | inl e ↦
        let found : slice_get ports place ≡ Some r = ap (λ n. slice_get ports n) (sym e) ∙ is in
        let same_port : p ≡ r = cc in (
          q,
          ap (λ n. slice_get (set ports place q) n) e ∙ slice_get-set_same ports place q (slice_get_within ports place p there),
          subst (λ (x : BridgePort). IsBridged steps (bridged x) (bridged q)) same_port one,
        )
    | inr differ ↦ (
      r,
      slice_get-set_other ports place other q differ ∙ is,
      bridged_past steps (bridged r) (λ at has. still other at differ (ap channel_in is ∙ has)),
    )
  ];
}

-- ---- channels of their own

channel_there : (ports : List BridgePort) (place : ℕ) (p q : BridgePort) → slice_get ports place ≡ Some p
    → channel_at place (set ports place q) ≡ q.at
channel_there ports place p q there =
    ap channel_in (slice_get-set_same ports place q (slice_get_within ports place p there))

channel_elsewhere : (ports : List BridgePort) (place other : ℕ) (q : BridgePort) → other ≢ place
    → channel_at other (set ports place q) ≡ channel_at other ports
channel_elsewhere ports place other q differ = ap channel_in (slice_get-set_other ports place other q differ)

abbrev IsNew : (ports : List BridgePort) (place : ℕ) (q : BridgePort) → Type 0
IsNew ports place q = (other : ℕ) (at : HostChannel) → other ≢ place → q.at ≡ Some at → channel_at other ports ≡ Some at → ⊥

apart_set : (ports : List BridgePort) (place : ℕ) (p q : BridgePort) → slice_get ports place ≡ Some p → IsNew ports place q
    → AreOnOwnChannels ports → AreOnOwnChannels (set ports place q)
apart_set ports place p q there new apart one other at a b = elim (cases_eq one place) [
  | inl e ↦ elim (cases_eq other place) [
    | inl f ↦ e ∙ sym f
    | inr differ ↦ absurd (new other at differ
        (sym (channel_there ports place p q there) ∙ ap (λ n. channel_at n (set ports place q)) (sym e) ∙ a)
        (sym (channel_elsewhere ports place other q differ) ∙ b))
  ]
  | inr apart_one ↦ elim (cases_eq other place) [
    | inl f ↦ absurd (new one at apart_one
        (sym (channel_there ports place p q there) ∙ ap (λ n. channel_at n (set ports place q)) (sym f) ∙ b)
        (sym (channel_elsewhere ports place one q apart_one) ∙ a))
    | inr differ ↦ apart one other at
        (sym (channel_elsewhere ports place one q apart_one) ∙ a) (sym (channel_elsewhere ports place other q differ) ∙ b)
  ]
]

-- a channel that a bridge had before
kept_is_new : (ports : List BridgePort) (place : ℕ) (p q : BridgePort) → slice_get ports place ≡ Some p
    → ((at : HostChannel) → q.at ≡ Some at → p.at ≡ Some at) → AreOnOwnChannels ports → IsNew ports place q
kept_is_new ports place p q there kept apart other at differ has found =
    differ (apart other place at found (ap channel_in there ∙ kept at has))

-- a bridge that changes keeps its channel
own_set : (ports : List BridgePort) (place : ℕ) (p q : BridgePort) → slice_get ports place ≡ Some p → q.at ≡ p.at
    → AreOnOwnChannels ports → AreOnOwnChannels (set ports place q)
own_set ports place p q there same own =
    apart_set ports place p q there (kept_is_new ports place p q there (λ at has. sym same ∙ has) own) own

-- so it does, or has no call
none_set : (ports : List BridgePort) (place : ℕ) (p q : BridgePort) → slice_get ports place ≡ Some p → q.at ≡ None
    → AreOnOwnChannels ports → AreOnOwnChannels (set ports place q)
none_set ports place p q there none own =
    apart_set ports place p q there (kept_is_new ports place p q there (λ at has. absurd (cc)) own) own

read_at : (ports : List BridgePort) (place : ℕ) (p d : BridgePort) → place < length ports → p ≡ get_or ports place d
    → slice_get ports place ≡ Some p
read_at [] place p d within is = absurd (omega arith)
read_at (port ∷ ports) zero p d within is = ap Some (sym is)
read_at (port ∷ ports) (suc place) p d within is = read_at ports place p d (omega arith) is

pub own_at : (ports : List BridgePort) (place : ℕ) (p q d : BridgePort) → place < length ports → p ≡ get_or ports place d
    → q.at ≡ p.at → AreOnOwnChannels ports → AreOnOwnChannels (set ports place q)
own_at ports place p q d within is same own = own_set ports place p q (read_at ports place p d within is) same own

pub none_at : (ports : List BridgePort) (place : ℕ) (p q d : BridgePort) → place < length ports → p ≡ get_or ports place d
    → q.at ≡ None → AreOnOwnChannels ports → AreOnOwnChannels (set ports place q)
none_at ports place p q d within is none own = none_set ports place p q (read_at ports place p d within is) none own

own_changed : (found : Option BridgePort) (place : ℕ) (change : BridgeState → BridgeState) (ports : List BridgePort)
    → slice_get ports place ≡ found → AreOnOwnChannels ports → AreOnOwnChannels (changed_in place change found ports)
own_changed None place change ports is own = own
own_changed (Some p) place change ports is own = own_set ports place p (with_bridge change p) is refl own

pub own_from : (place : ℕ) (change : BridgeState → BridgeState) (ports later : List BridgePort)
    → later ≡ bridge_changed place change ports → AreOnOwnChannels ports → AreOnOwnChannels later
own_from place change ports later is own =
    subst (λ (xs : List BridgePort). AreOnOwnChannels xs) (sym is)
    (own_changed (slice_get ports place) place change ports refl own)

pub own_none : (ports : List BridgePort) → HaveNoChannels ports → AreOnOwnChannels ports
own_none ports none one other at a b = absurd (let no : None ≡ Some at = sym (none one) ∙ a in cc)

pub none_more : (ports : List BridgePort) (q : BridgePort) → q.at ≡ None → HaveNoChannels ports → HaveNoChannels (ports ++ q ∷ [])
none_more [] q none all zero = none
none_more [] q none all (suc place) = refl
none_more (port ∷ ports) q none all zero = all zero
none_more (port ∷ ports) q none all (suc place) = none_more ports q none (λ n. all (suc n)) place

-- ---- what bridges go through

pub through_none : (ports : List BridgePort) → GoesThrough [] ports ports
through_none ports = record { apart = λ own. own; each = λ own. are_none ports }

pub through-then : (xs ys : List Step) (a b c : List BridgePort) → GoesThrough xs a b → GoesThrough ys b c
    → GoesThrough (xs ++ ys) a c
through-then xs ys a b c one two = record {
  apart = λ own. two.apart (one.apart own);
  each = λ own. are-then xs ys a b c (one.each own) (two.each (one.apart own));
}

pub through_past : (steps : List Step) (ports : List BridgePort)
    → ((place : ℕ) (at : HostChannel) → channel_at place ports ≡ Some at → IsStill at steps) → GoesThrough steps ports ports
through_past steps ports still = record { apart = λ own. own; each = λ own. are_past steps ports still }

pub through_aside : (steps : List Step) (ports : List BridgePort) → AreAside steps → GoesThrough steps ports ports
through_aside steps ports aside = through_past steps ports (λ place at has. still_aside at steps aside)

-- a round: terminals, calls, frames and timers
pub through_round : (xs ys zs ws : List Step) (before after : List BridgePort) → AreAside xs → GoesThrough ys before after
    → AreAside zs → AreAside ws → GoesThrough (xs ++ (ys ++ (zs ++ ws))) before after
through_round xs ys zs ws before after x through z w =
    through-then xs (ys ++ (zs ++ ws)) before before after (through_aside xs before x)
    (through-then ys (zs ++ ws) before after after through
    (through-then zs ws after after after (through_aside zs after z) (through_aside ws after w)))

-- one bridge goes through what is still at all others
through_one : (steps : List Step) (ports : List BridgePort) (place : ℕ) (p q : BridgePort) → slice_get ports place ≡ Some p
    → IsBridged steps (bridged p) (bridged q) → (AreOnOwnChannels ports → IsNew ports place q)
    → ((other : ℕ) (at : HostChannel) → AreOnOwnChannels ports → other ≢ place → channel_at other ports ≡ Some at → IsStill at steps)
    → GoesThrough steps ports (set ports place q)
through_one steps ports place p q there one new still = record {
  apart = λ own. apart_set ports place p q there (new own) own;
  each = λ own. are_one steps ports place p q there one (λ other at differ has. still other at own differ has);
}

-- ---- news

kept_some : (is : Bool) (may : Option HostChannel) (at : HostChannel) → kept_channel is may ≡ Some at → may ≡ Some at
kept_some true may at is_kept = is_kept
kept_some false may at is_kept = cc

news_keeps : (n : News) (p : Bridged) (at : HostChannel) → (after_news n p).at ≡ Some at → p.at ≡ Some at
news_keeps (news.Rings calling called user_data) p at is = is
news_keeps news.Connected p at is = is
news_keeps (news.Cleared cause diagnostic) p at is = kept_some _ p.at at is
news_keeps news.Reset p at is = is

pub through_news : (n : News) (ports : List BridgePort) (place : ℕ) (p q : BridgePort) → slice_get ports place ≡ Some p
    → bridged q ≡ after_news n (bridged p) → GoesThrough [] ports (set ports place q)
through_news n ports place p q there is =
    through_one [] ports place p q there (bridged_by (hears n) (bridged p) (bridged q) is)
    (λ own. kept_is_new ports place p q there
    (λ at has. news_keeps n (bridged p) at (sym (ap (λ (x : Bridged). x.at) is) ∙ has)) own)
    (λ other at own differ has. still_none at)

-- a call that is over
ended_is_idle : (c : CallPhase) (is_whole : Bool) (p : Phases) → phase.is_idle p.call ≡ phase.is_idle c
    → phase.is_idle (phase.ended_at c is_whole p).call ≡ true
ended_is_idle call.Idle is_whole p same = same
ended_is_idle call.ToRefuse is_whole p same = refl
ended_is_idle call.ToClear is_whole p same = refl
ended_is_idle call.Incoming true p same = refl
ended_is_idle call.Incoming false p same = refl
ended_is_idle call.ToAnswer true p same = refl
ended_is_idle call.ToAnswer false p same = refl
ended_is_idle call.ToPlace true p same = refl
ended_is_idle call.ToPlace false p same = refl
ended_is_idle call.Placed true p same = refl
ended_is_idle call.Placed false p same = refl
ended_is_idle call.Standing true p same = refl
ended_is_idle call.Standing false p same = refl

pub after_end : (b : BridgeState) (at : Option HostChannel) (cause diagnostic : ℕ)
    → kept_channel (has_call (record b { phases = phase.call_ended cause diagnostic b.phases })) at ≡ None
after_end b at cause diagnostic =
    ap (λ is. kept_channel (not is) at)
    (ended_is_idle b.phases.call (phase.has_whole_end cause diagnostic b.phases) b.phases refl)

-- ---- which bridge has a channel

channel_is : (at : HostChannel) (may : Option HostChannel) → is_channel at may ≡ true → may ≡ Some at
channel_is at None is = cc
channel_is at (Some own) is = ap Some (sym (same_channel at own is))

is_on_channel : (at : HostChannel) (may : Option HostChannel) → may ≡ Some at → is_channel at may ≡ true
is_on_channel at may is = ap (is_channel at) is ∙ on_itself at

off : (b : Bool) → (b ≡ true → ⊥) → b ≡ false
off true never = absurd (never refl)
off false never = refl

is_not_both : (b : Bool) → b ≡ false → b ≡ true → ⊥
is_not_both b one two = cc

found_in : (found : Option BridgePort) (at : HostChannel) → channel_in found ≡ Some at
    → (p : BridgePort) × (found ≡ Some p) × (p.at ≡ Some at)
found_in None at is = cc
found_in (Some p) at is = (p, refl, is)

-- none has it that is not found
pub none_has : (at : HostChannel) (ports : List BridgePort) → list_any (has_channel at) ports ≡ false
    → (place : ℕ) (other : HostChannel) → channel_at place ports ≡ Some other → other ≢ at
none_has at ports none place other has same =
    let found = found_in (slice_get ports place) other has in
    let there = get_or_from_slice_get ports place found.0 found.0 found.1 in
    let passes_test : has_channel at (get_or ports place found.0) ≡ true
    = ap (has_channel at) there ∙ is_on_channel at found.0.at (found.2 ∙ ap Some same) in
    is_not_both _ none
    (list_any_at (has_channel at) ports place found.0 (slice_get_within ports place found.0 found.1) passes_test)

not_within : (is : Bool) (n : ℕ) → cond is (Some n) None ≡ None → is ≡ false
not_within true n none = cc
not_within false n none = refl

unfound_later : (is : Bool) (n count : ℕ) → nat_lt (cond (not is) (1 + n) 0) (suc count) ≡ false
    → (is ≡ false) × (nat_lt n count ≡ false)
unfound_later true n count none = absurd (grind (arith, nat_tests))
unfound_later false n count none = (refl, grind (arith, nat_tests))

unfound : (test : BridgePort → Bool) (ports : List BridgePort) → nat_lt (position_or_len test ports) (length ports) ≡ false
    → (place : ℕ) (p : BridgePort) → slice_get ports place ≡ Some p → test p ≡ false
unfound test [] none place p there = cc
unfound test (port ∷ ports) none zero p there =
    let same_port : port ≡ p = cc in
    ap test (sym same_port) ∙ (unfound_later (test port) (position_or_len test ports) (length ports) none).0
unfound test (port ∷ ports) none (suc place) p there =
    unfound test ports (unfound_later (test port) (position_or_len test ports) (length ports) none).1 place p there

pub ends_none : (at : HostChannel) (ports : List BridgePort) → position (has_channel at) ports ≡ None → EndsCall at ports ports
ends_none at ports none = record {
  through = through_none ports;
  gone = λ own place has.
      let found = found_in (slice_get ports place) at has in
      is_not_both _
      (unfound (has_channel at) ports (not_within _ _ none) place found.0 found.1)
      (is_on_channel at found.0.at found.2);
}

pub ends_one : (at : HostChannel) (ports : List BridgePort) (place : ℕ) (p q : BridgePort)
    → position (has_channel at) ports ≡ Some place → slice_get ports place ≡ Some p
    → bridged q ≡ after_news (news.Cleared 0 0) (bridged p) → q.at ≡ None → EndsCall at ports (set ports place q)
ends_one at ports place p q found there is gone = record {
  through = through_news (news.Cleared 0 0) ports place p q there is;
  gone = λ own other has. elim (cases_eq other place) [
    | inl e ↦
        let none : channel_at place (set ports place q) ≡ None = channel_there ports place p q there ∙ gone in
        let some : channel_at place (set ports place q) ≡ Some at = ap (λ n. channel_at n (set ports place q)) (sym e) ∙ has in
        cc
    | inr differ ↦
        let first = first_found (has_channel at) ports place found in
        let here : channel_at place ports ≡ Some at = ap channel_in first.2 ∙ channel_is at first.0.at first.1 in
        differ (own other place at (sym (channel_elsewhere ports place other q differ) ∙ has) here)
  ];
}

-- ---- a call comes

pub unless : {X : Type 0} (b : Bool) (may : Option X) (x : X) → cond b None may ≡ Some x → may ≡ Some x
unless true may x is = cc
unless false may x is = is

pub rings_one : (at : HostChannel) (before mid : List BridgePort) (place service : ℕ) (terms : BridgeTerms) (far_end : FarEnd)
    (hello : List ℕ) (p q : BridgePort) → EndsCall at before mid → position is_free_port mid ≡ Some place
    → slice_get mid place ≡ Some p → IsHello hello → q.bridge ≡ with_call terms far_end hello p.bridge → q.at ≡ Some at
    → q.owner ≡ owner.Service service → GoesThrough [] before (set mid place q)
rings_one at before mid place service terms far_end hello p q ends free there first begins has owned =
    let found = first_found is_free_port mid place free in
    let same_port : found.0 ≡ p = cc in
    let is_free_there : is_free p.bridge ≡ true = ap is_free_port (sym same_port) ∙ found.1 in
    let one = bridged_by (rings at terms far_end hello service) (bridged p) (bridged q)
    (is_free_there, first, λ i. record { bridge = begins i; at = has i; owner = owned i }) in
    let new : AreOnOwnChannels before → IsNew mid place q
    = λ own other own_at differ q_has there_has.
    let same_at : own_at ≡ at = cc in
    ends.gone own other (there_has ∙ ap Some same_at) in
    record {
      apart = λ own. apart_set mid place p q there (new own) (ends.through.apart own);
      each = λ own.
          are-then [] [] before mid (set mid place q) (ends.through.each own)
          (are_one [] mid place p q there one (λ other own_at differ has_it. still_none own_at));
    }

-- ---- a call is placed

pub places_none : (at : Option HostChannel) (before mid : List BridgePort) → GoesThrough [] before mid → GoesThroughCall at before mid
places_none at before mid through node step is channel =
    through-then [] (step ∷ []) before mid mid through
    (through_past (step ∷ []) mid (λ place other has. still_calling other node step is))

pub leaves_some : (at : Option HostChannel) (own : HostChannel) (before after : List BridgePort) → at ≡ Some own
    → EndsCall own before after → LeavesChannel at before after
leaves_some at own before after is ends = record {
  through = ends.through;
  gone = λ apart place other at_is has.
      let same : other ≡ own = cc in
      ends.gone apart place (has ∙ ap Some same);
}

pub leaves_none : (at : Option HostChannel) (ports : List BridgePort) → at ≡ None → LeavesChannel at ports ports
leaves_none at ports none = record { through = through_none ports; gone = λ apart place own is has. absurd (cc) }

places_one : (at : Option HostChannel) (before mid : List BridgePort) (place : ℕ) (p q : BridgePort)
    → LeavesChannel at before mid → slice_get mid place ≡ Some p → bridged q ≡ after_placing at (bridged p)
    → GoesThroughCall at before (set mid place q)
places_one at before mid place p q leaves there is node step is_call channel =
    let has : q.at ≡ at = ap (λ (x : Bridged). x.at) is in
    let one = bridged_by (calls node step) (bridged p) (bridged q)
    (is_call, is ∙ ap (λ may. after_placing may (bridged p)) channel) in
    let new : AreOnOwnChannels before → IsNew mid place q
    = λ own other own_at differ q_has there_has. leaves.gone own other own_at (sym has ∙ q_has) there_has in
    record {
      apart = λ own. apart_set mid place p q there (new own) (leaves.through.apart own);
      each = λ own.
          are-then [] (step ∷ []) before mid (set mid place q) (leaves.through.each own)
          (are_one (step ∷ []) mid place p q there one
          (λ other own_at differ has_it. still_calling own_at node step is_call));
    }

-- what becomes of a call that was placed, if it was
after_placing_is : (at : Option HostChannel) (p q : BridgePort) (is : Bool) → is ≡ is_some at
    → q.bridge ≡ record p.bridge { phases = phase.placed is p.bridge.phases } → q.at ≡ at → q.owner ≡ p.owner
    → bridged q ≡ after_placing at (bridged p)
after_placing_is at p q is is_it turns_so has owned =
    let then : q.bridge ≡ record p.bridge { phases = phase.placed (is_some at) p.bridge.phases }
    = turns_so ∙ ap (λ (b : Bool). record p.bridge { phases = phase.placed b p.bridge.phases }) is_it in
    λ i. record { bridge = then i; at = has i; owner = owned i }

pub places_port : (at : Option HostChannel) (before mid : List BridgePort) (place : ℕ) (p q : BridgePort) (is : Bool)
    → LeavesChannel at before mid → slice_get mid place ≡ Some p → is ≡ is_some at
    → q.bridge ≡ record p.bridge { phases = phase.placed is p.bridge.phases } → q.at ≡ at → q.owner ≡ p.owner
    → GoesThroughCall at before (set mid place q)
places_port at before mid place p q is leaves there is_it turns_so has owned =
    places_one at before mid place p q leaves there (after_placing_is at p q is is_it turns_so has owned)

-- ---- steps of the network

pub serves_none : (L : LineService) (more : Bool) (s : ProcessState) (ports : List BridgePort) → ServesBridges L more s s ports ports
serves_none L more s ports = record {
  steps = [];
  passes = record { made = refl; silent = λ at. silent-none at; idle = λ none. refl };
  through = through_none ports;
}

pub serves-then : (L : LineService) (a b more : Bool) (s m t : ProcessState) (before between after : List BridgePort)
    → (more ≡ false → a ≡ false) → (more ≡ false → b ≡ false)
    → ServesBridges L a s m before between → ServesBridges L b m t between after → ServesBridges L more s t before after
serves-then L a b more s m t before between after no_a no_b one two = record {
  steps = one.steps ++ two.steps;
  passes = passes_by-then L a b more s m t one.steps two.steps no_a no_b one.passes two.passes;
  through = through-then one.steps two.steps before between after one.through two.through;
}

pub serves_either : (L : LineService) (a b : Bool) (s m t : ProcessState) (before between after : List BridgePort)
    → ServesBridges L a s m before between → ServesBridges L b m t between after → ServesBridges L (a || b) s t before after
serves_either L a b s m t before between after one two =
    serves-then L a b (a || b) s m t before between after (λ none. neither_left a b none) (λ none. neither_right a b none) one two

pub serves_more : (L : LineService) (a b : Bool) (s m t : ProcessState) (before between after : List BridgePort)
    → ServesBridges L a s m before between → ServesBridges L b m t between after → ServesBridges L true s t before after
serves_more L a b s m t before between after one two =
    serves-then L a b true s m t before between after (λ none. absurd (cc)) (λ none. absurd (cc)) one two

-- a built-in service is served on a channel whose call no bridge has
pub serves_past : (L : LineService) (at : HostChannel) (more : Bool) (s t : ProcessState) (ports : List BridgePort)
    → list_any (has_channel at) ports ≡ false → PassesAt L at more s t → ServesBridges L more s t ports ports
serves_past L at more s t ports none one = record {
  steps = one.steps;
  passes = one.passes;
  through = through_past one.steps ports
      (λ place other has. one.elsewhere other (none_has at ports none place other has));
}

-- bridges were told, and no step was made
pub serves_told : (L : LineService) (s : ProcessState) (before after : List BridgePort) → GoesThrough [] before after
    → ServesBridges L true s s before after
serves_told L s before after through = record {
  steps = [];
  passes = record { made = refl; silent = λ at. silent-none at; idle = λ none. refl };
  through = through;
}

-- a bridge is served that has a call
pub serves_port : (L : LineService) (at : HostChannel) (place : ℕ) (more : Bool) (s t : ProcessState) (ports : List BridgePort)
    (p q : BridgePort) → channel_at place ports ≡ Some at → slice_get ports place ≡ Some p
    → Carries L at more s t p.bridge q.bridge → bridged q ≡ forgotten (record (bridged p) { bridge = q.bridge })
    → ServesBridges L more s t ports (set ports place q)
serves_port L at place more s t ports p q has there one forgets =
    let p_has : p.at ≡ Some at = sym (ap channel_in there) ∙ has in
    record {
      steps = one.steps;
      passes = one.passes;
      through = through_one one.steps ports place p q there
          (bridged_by (carries one.steps) (bridged p) (bridged q) (at, p_has, one.carried, forgets))
          (λ own. kept_is_new ports place p q there
          (λ other q_has. kept_some (has_call q.bridge) p.at other (sym (ap (λ (x : Bridged). x.at) forgets) ∙ q_has)) own)
          (λ other own_at own differ found. one.elsewhere own_at
          (λ same. differ (own other place at (found ∙ ap Some same) has)));
    }

call_elsewhere : (node : ℕ) (event : Event) → is_call_of node event ≡ true → is_at_terminal event ≡ false
call_elsewhere node (Call other address user_data) is = refl
call_elsewhere node _ is = cc

pub serves_call : (L : LineService) (at : Option HostChannel) (s t : ProcessState) (before after : List BridgePort)
    → CallsOn L at s t → GoesThroughCall at before after → ServesBridges L true s t before after
serves_call L at s t before after one through = record {
  steps = one.step ∷ [];
  passes = record {
    made = (t, one.made, refl);
    silent = λ terminal. elsewhere terminal one.step.event one.step.answer (call_elsewhere one.node one.step.event one.of_node);
    idle = λ none. absurd (cc);
  };
  through = through one.node one.step one.of_node one.channel;
}

pub calls_on : (L : LineService) (node : ℕ) (event : Event) (r : Lent) (answer : Bor Answer) (at : Option HostChannel)
    (s t : ProcessState) → is_call_of node event ≡ true → Makes L s (record { event = event; answer = lent r }) t
    → r ≡ Ok answer → at ≡ channel_of node answer.now.outcome → CallsOn L at s t
calls_on L node event r answer at s t is_call stepped ok at_is = record {
  node = node;
  step = record { event = event; answer = lent r };
  made = stepped;
  of_node = is_call;
  channel = at_is ∙ sym (ap (λ a. channel_called node (lent a)) ok);
}

pub calls_refused : (L : LineService) (node : ℕ) (event : Event) (r : Lent) (fault : StepFault) (s t : ProcessState)
    → is_call_of node event ≡ true → Makes L s (record { event = event; answer = lent r }) t → r ≡ Err fault
    → CallsOn L None s t
calls_refused L node event r fault s t is_call stepped err = record {
  node = node;
  step = record { event = event; answer = lent r };
  made = stepped;
  of_node = is_call;
  channel = sym (ap (λ a. channel_called node (lent a)) err);
}

-- a call for which no bridge is free is refused
pub serves_refused : (L : LineService) (at : HostChannel) (event : Event) (done : Bool) (s t : ProcessState)
    (before after : List BridgePort) → event ≡ Ask at.node at.channel Refuse → Does L event done s t → GoesThrough [] before after
    → ServesBridges L true s t before after
serves_refused L at event done s t before after is does through =
    let one = asks_nothing_there L at event Refuse done s t is refl does in
    record {
      steps = one.steps;
      passes = record { made = one.passes.made; silent = one.passes.silent; idle = λ none. absurd (cc) };
      through = through-then [] one.steps before after after through
          (through_past one.steps after (λ place other has. one.still other));
    }

-- ---- a call that a bridge keeps

carried_none : (at : HostChannel) (b : BridgeState) → IsCarried at [] b b
carried_none at b = record { deeds = []; after = refl; own = refl; said = refl; taken = refl }

carried_still : (at : HostChannel) (steps : List Step) (b : BridgeState) → IsStill at steps → IsCarried at steps b b
carried_still at steps b still = record { deeds = []; after = refl; own = refl; said = sym still.says; taken = sym still.takes }

carried_turn : (at : HostChannel) (phases : Phases) (b : BridgeState) → IsCarried at [] b (record b { phases = phases })
carried_turn at phases b = record { deeds = turns phases ∷ []; after = refl; own = refl; said = refl; taken = refl }

carried_news : (at : HostChannel) (n : News) (p : Bridged) → IsCarried at [] p.bridge (after_news n p).bridge
carried_news at (news.Rings calling called user_data) p = carried_none at p.bridge
carried_news at news.Connected p = carried_turn at (phase.connected p.bridge.phases) p.bridge
carried_news at (news.Cleared cause diagnostic) p = carried_turn at (phase.call_ended cause diagnostic p.bridge.phases) p.bridge
carried_news at news.Reset p = carried_turn at (phase.reset p.bridge.terms.at_reset p.bridge.phases) p.bridge

carried_part : (at : HostChannel) (part : Part) (p q : Bridged) → Befalls part p q → p.at ≡ Some at → is_of_call part ≡ true
    → IsCarried at (steps_in part) p.bridge q.bridge
carried_part at (passes steps) p q (same, still) has is =
    subst (λ (x : Bridged). IsCarried at steps p.bridge x.bridge) (sym same) (carried_still at steps p.bridge (still at has))
carried_part at (carries steps) p q (own, own_has, carried, forgets) has is =
    let same : own ≡ at = cc in
    subst (λ (x : HostChannel). IsCarried x steps p.bridge q.bridge) same carried
carried_part at (hears n) p q heard has is =
    subst (λ (x : Bridged). IsCarried at [] p.bridge x.bridge) (sym heard) (carried_news at n p)
carried_part at (rings own terms far_end hello service) p q befalls has is = absurd (cc)
carried_part at (calls node step) p q befalls has is = absurd (cc)

pub calls_are_carried : CallsAreCarried
calls_are_carried at [] p q same keeps =
    subst (λ (x : Bridged). IsCarried at [] p.bridge x.bridge) (sym same) (carried_none at p.bridge)
calls_are_carried at (part ∷ parts) p q (mid, one, rest) (has, of_call, keeps) =
    carried-then at (steps_in part) (flat_map steps_in parts) p.bridge mid.bridge q.bridge
    (carried_part at part p mid one has of_call) (calls_are_carried at parts mid q rest keeps)
