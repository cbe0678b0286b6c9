-- What the steps for a bridge carry.
use Rattle.std.proofs.Common.{◌≡◌, ◌≢◌, ◌+◌, ◌≤◌, ℕ, Bool, true, false, List, [], ◌∷◌, ◌++◌, refl, sym, ap, ◌∙◌, subst, append_assoc, append-nil, cond, eqb, take, length, Result, Ok, Err, Option, Some, None, not, ◌&&◌, ◌||◌, flat_map, arith}
use Rattle.std.specs.List.{list_all}
use Rattle.std.specs.Bool.{OnTrue}
use Rattle.std.specs.Prelude.{IfSome}
use Rattle.std.specs.Borrow.{Bor}
use Rattle.std.proofs.lemmas.Bool.{eqb-true, eq-eqb}
use Rattle.std.proofs.lemmas.Grind.{flat_map-append}
use Rattle.std.proofs.lemmas.Option.{slice_get_past}
use Rattle.std.proofs.lemmas.List.Folds.{list_all-append}
use Rattle.std.proofs.lemmas.List.{length-take, take_min}
use Rattle.bridge_ports.specs.declared.phases.Phases.{Phases}
use Rattle.bridge_ports.specs.Bridges.{BridgeState, said, taken}
use Rattle.bridge_ports.specs.Laws.{Deed, says, takes, turns, after_deed, after_deeds, all_by, said_by}
use Rattle.frame_lines.specs.Lines.{LineService}
use Rattle.packet_host.specs.declared.request.HostRequest.{HostRequest}
use Rattle.net_events.specs.declared.event.Event.{Event}
use Rattle.net_events.specs.declared.event.Event.TheVariants.{Ask, Take}
use Rattle.net_events.specs.declared.event.StepFault.{StepFault}
use Rattle.net_events.specs.declared.answer.Answer.{Answer}
use Rattle.net_process.specs.Process.{ProcessState}
use Rattle.line_sim.specs.Stepping.{lent}
use Rattle.service.specs.declared.hosts.HostChannel.{HostChannel}
use Rattle.service.specs.declared.service.Order.{Order}
use Rattle.service.specs.declared.terminal.Terminal.{Terminal}
use Rattle.service.specs.Orders.{ordered_at, after_order, port_of, IsFrom}
use Rattle.service.specs.Terminals.{changed, changed_at, ordered}
use Rattle.service.specs.Steps.{Step, Makes, is_idle, is_idle_answer, is_at_terminal, Does, PassesBy}
use Rattle.service.specs.Bridging.{Packet, is_on, said_of, said_in, packet_in, packet_from, taken_in, with_packets, all_said, all_taken, IsStill, is_of_network, packets_by, IsCarried, Carries, PassesAt}
use Rattle.service.proofs.Stepping.{silent-none, passes_by-then, passes_step, neither_left, neither_right, was_done, not_done, elsewhere, Lent}

-- ---- channels

abbrev both_true : (a b : Bool) → a ≡ true → b ≡ true → (a && b) ≡ true
both_true true b one two = two
both_true false b one two = one

one_true : (a b : Bool) → (a && b) ≡ true → (a ≡ true) × (b ≡ true)
one_true true b is = (refl, is)
one_true false b is = absurd (cc)

pub on_itself : (at : HostChannel) → is_on at at.node at.channel ≡ true
on_itself at =
    both_true (eqb at.node at.node) (eqb at.channel at.channel) (eq-eqb at.node at.node refl) (eq-eqb at.channel at.channel refl)

pub same_channel : (other at : HostChannel) → is_on other at.node at.channel ≡ true → other ≡ at
same_channel other at is =
    let parts = one_true (eqb at.node other.node) (eqb at.channel other.channel) is in
    λ i. record {
      node = sym (eqb-true at.node other.node parts.0) i;
      channel = sym (eqb-true at.channel other.channel parts.1) i;
    }

off_by : (b : Bool) → (b ≡ true → ⊥) → b ≡ false
off_by true never = absurd (never refl)
off_by false never = refl

off_others : (other at : HostChannel) → other ≢ at → is_on other at.node at.channel ≡ false
off_others other at apart = off_by (is_on other at.node at.channel) (λ is. apart (same_channel other at is))

-- ---- steps on channels

abbrev said_there : HostChannel → Step → List ℕ
said_there at step = said_in at step.event step.answer

abbrev taken_there : HostChannel → Step → List Packet
taken_there at step = taken_in at step.event step.answer

all_said-append : (at : HostChannel) (xs ys : List Step) → all_said at (xs ++ ys) ≡ all_said at xs ++ all_said at ys
all_said-append at xs ys = flat_map-append (said_there at) xs ys

all_taken-append : (at : HostChannel) (xs ys : List Step) → all_taken at (xs ++ ys) ≡ all_taken at xs ++ all_taken at ys
all_taken-append at xs ys = flat_map-append (taken_there at) xs ys

still-append : (at : HostChannel) (xs ys : List Step) → IsStill at xs → IsStill at ys → IsStill at (xs ++ ys)
still-append at xs ys one two = record {
  says = all_said-append at xs ys ∙ (λ i. one.says i ++ two.says i);
  takes = all_taken-append at xs ys ∙ (λ i. one.takes i ++ two.takes i);
}

still_step : (at : HostChannel) (event : Event) (answer : Result Answer StepFault) → said_in at event answer ≡ []
    → taken_in at event answer ≡ [] → IsStill at (record { event = event; answer = answer } ∷ [])
still_step at event answer no_saying no_taking = record {
  says = append-nil (said_in at event answer) ∙ no_saying;
  takes = append-nil (taken_in at event answer) ∙ no_taking;
}

-- ---- what is done at a bridge

after-append : (xs ys : List Deed) (b : BridgeState) → after_deeds (xs ++ ys) b ≡ after_deeds ys (after_deeds xs b)
after-append [] ys b = refl
after-append (x ∷ xs) ys b = after-append xs ys (after_deed x b)

all_by-append : (by : Deed → BridgeState → List ℕ) (xs ys : List Deed) (b : BridgeState)
    → all_by by (xs ++ ys) b ≡ all_by by xs b ++ all_by by ys (after_deeds xs b)
all_by-append by [] ys b = refl
all_by-append by (x ∷ xs) ys b =
    ap (λ octets. by x b ++ octets) (all_by-append by xs ys (after_deed x b))
    ∙ sym (append_assoc (by x b) (all_by by xs (after_deed x b)) (all_by by ys (after_deeds xs (after_deed x b))))

pub carried-then : (at : HostChannel) (xs ys : List Step) (b m c : BridgeState) → IsCarried at xs b m → IsCarried at ys m c
    → IsCarried at (xs ++ ys) b c
carried-then at xs ys b m c one two = record {
  deeds = one.deeds ++ two.deeds;
  after = two.after ∙ ap (after_deeds two.deeds) one.after ∙ sym (after-append one.deeds two.deeds b);
  own = list_all-append is_of_network one.deeds two.deeds
      ∙ both_true (list_all is_of_network one.deeds) (list_all is_of_network two.deeds) one.own two.own;
  said = all_by-append said_by one.deeds two.deeds b
      ∙ ap (λ x. all_by said_by one.deeds b ++ all_by said_by two.deeds x) (sym one.after)
      ∙ (λ i. one.said i ++ two.said i)
      ∙ sym (all_said-append at xs ys);
  taken = flat_map-append packets_by one.deeds two.deeds
      ∙ (λ i. one.taken i ++ two.taken i)
      ∙ sym (all_taken-append at xs ys);
}

pub carries-then : (L : LineService) (at : HostChannel) (p q more : Bool) (s m t : ProcessState) (b x c : BridgeState)
    → (more ≡ false → p ≡ false) → (more ≡ false → q ≡ false)
    → Carries L at p s m b x → Carries L at q m t x c → Carries L at more s t b c
carries-then L at p q more s m t b x c no_p no_q one two = record {
  steps = one.steps ++ two.steps;
  passes = passes_by-then L p q more s m t one.steps two.steps no_p no_q one.passes two.passes;
  carried = carried-then at one.steps two.steps b x c one.carried two.carried;
  elsewhere = λ other apart. still-append other one.steps two.steps (one.elsewhere other apart) (two.elsewhere other apart);
}

pub carries_with : (L : LineService) (at : HostChannel) (more is : Bool) (s t : ProcessState) (b c : BridgeState) → more ≡ is
    → Carries L at more s t b c → Carries L at is s t b c
carries_with L at more is s t b c same carries = subst (λ (m : Bool). Carries L at m s t b c) same carries

pub carries_more : (L : LineService) (at : HostChannel) (p q : Bool) (s m t : ProcessState) (b x c : BridgeState)
    → Carries L at p s m b x → Carries L at q m t x c → Carries L at true s t b c
carries_more L at p q s m t b x c one two =
    carries-then L at p q true s m t b x c (λ none. absurd (cc)) (λ none. absurd (cc)) one two

pub carries_either : (L : LineService) (at : HostChannel) (p q : Bool) (s m t : ProcessState) (b x c : BridgeState)
    → Carries L at p s m b x → Carries L at q m t x c → Carries L at (p || q) s t b c
carries_either L at p q s m t b x c one two =
    carries-then L at p q (p || q) s m t b x c (λ none. neither_left p q none) (λ none. neither_right p q none) one two

-- phases change without a step
pub carries_turn : (L : LineService) (at : HostChannel) (more : Bool) (s : ProcessState) (b c : BridgeState) (phases : Phases)
    → c ≡ record b { phases = phases } → Carries L at more s s b c
carries_turn L at more s b c phases is = record {
  steps = [];
  passes = record { made = refl; silent = λ terminal. silent-none terminal; idle = λ none. refl };
  carried = record { deeds = turns phases ∷ []; after = is; own = refl; said = refl; taken = refl };
  elsewhere = λ other apart. record { says = refl; takes = refl };
}

pub carries_none : (L : LineService) (at : HostChannel) (more : Bool) (s : ProcessState) (b : BridgeState)
    → Carries L at more s s b b
carries_none L at more s b = carries_turn L at more s b b b.phases refl

-- the bridge is one and the same
pub carries_same : (L : LineService) (at : HostChannel) (more : Bool) (s t : ProcessState) (b c d : BridgeState)
    → d ≡ c → Carries L at more s t b c → Carries L at more s t b d
carries_same L at more s t b c d is carries = subst (λ x. Carries L at more s t b x) (sym is) carries

-- ---- one step

carries_step : (L : LineService) (at : HostChannel) (event : Event) (done : Bool) (s t : ProcessState) (b c : BridgeState)
    (deeds : List Deed) → is_at_terminal event ≡ false → (does : Does L event done s t) → c ≡ after_deeds deeds b
    → list_all is_of_network deeds ≡ true → all_by said_by deeds b ≡ said_in at event does.answer
    → flat_map packets_by deeds ≡ taken_in at event does.answer
    → ((other : HostChannel) → other ≢ at → (said_in other event does.answer ≡ []) × (taken_in other event does.answer ≡ []))
    → Carries L at done s t b c
carries_step L at event done s t b c deeds not_there does after own spoken packets others = record {
  steps = record { event = event; answer = does.answer } ∷ [];
  passes = passes_step L event done s t not_there does;
  carried = record {
    deeds = deeds;
    after = after;
    own = own;
    said = spoken ∙ sym (append-nil (said_in at event does.answer));
    taken = packets ∙ sym (append-nil (taken_in at event does.answer));
  };
  elsewhere = λ other apart. still_step other event does.answer (others other apart).0 (others other apart).1;
}

cond_none : (b : Bool) (xs : List ℕ) → xs ≡ [] → cond b xs [] ≡ []
cond_none true xs none = none
cond_none false xs none = refl

cond_off : (a b : Bool) (xs : List ℕ) → a ≡ false → cond (a && b) xs [] ≡ []
cond_off true b xs off = absurd (cc)
cond_off false b xs off = refl

cond_idle : (a idle : Bool) (xs : List ℕ) → idle ≡ true → cond (a && not idle) xs [] ≡ []
cond_idle true true xs is = refl
cond_idle true false xs is = absurd (cc)
cond_idle false idle xs is = refl

cond_done : (a idle : Bool) (xs : List ℕ) → a ≡ true → idle ≡ false → cond (a && not idle) xs [] ≡ xs
cond_done true true xs on is = absurd (cc)
cond_done true false xs on is = refl
cond_done false idle xs on is = absurd (cc)

if_on : (a : Bool) (xs : List Packet) → a ≡ true → cond a xs [] ≡ xs
if_on true xs on = refl
if_on false xs on = absurd (cc)

if_off : (a : Bool) (xs : List Packet) → a ≡ false → cond a xs [] ≡ []
if_off true xs off = absurd (cc)
if_off false xs off = refl

-- a request that says nothing
asks_nothing : (at : HostChannel) (node channel : ℕ) (request : HostRequest) (answer : Result Answer StepFault)
    → said_of request ≡ [] → said_in at (Ask node channel request) answer ≡ []
asks_nothing at node channel request answer none =
    cond_none (is_on at node channel && not (is_idle answer)) (said_of request) none

pub carries_ask : (L : LineService) (at : HostChannel) (event : Event) (request : HostRequest) (done : Bool) (s t : ProcessState)
    (b c : BridgeState) (phases : Phases) → event ≡ Ask at.node at.channel request → said_of request ≡ []
    → Does L event done s t → c ≡ record b { phases = phases } → Carries L at done s t b c
carries_ask L at event request done s t b c phases event_is none does is =
    let asked : Does L (Ask at.node at.channel request) done s t = subst (λ (e : Event). Does L e done s t) event_is does in
    carries_step L at (Ask at.node at.channel request) done s t b c (turns phases ∷ []) refl asked is refl
    (sym (asks_nothing at at.node at.channel request asked.answer none)) refl
    (λ other apart. (asks_nothing other at.node at.channel request asked.answer none, refl))

-- a request that was refused
pub carries_refused : (L : LineService) (at : HostChannel) (event : Event) (request : HostRequest) (done : Bool)
    (s t : ProcessState) (b : BridgeState) → event ≡ Ask at.node at.channel request → done ≡ false → Does L event done s t
    → Carries L at false s t b b
carries_refused L at event request done s t b event_is was does =
    let asked : Does L (Ask at.node at.channel request) false s t =
    subst (λ (e : Event). Does L e false s t) event_is (subst (λ (d : Bool). Does L event d s t) was does) in
    let idle : is_idle asked.answer ≡ true = not_done false asked.answer asked.done_is refl in
    carries_step L at (Ask at.node at.channel request) false s t b b [] refl asked refl refl
    (sym (cond_idle (is_on at at.node at.channel) (is_idle asked.answer) (said_of request) idle)) refl
    (λ other apart. (cond_idle (is_on other at.node at.channel) (is_idle asked.answer) (said_of request) idle, refl))

take_whole : (count most : ℕ) (octets xs : List ℕ) → count ≡ length octets → octets ≡ take most xs → take count xs ≡ octets
take_whole count most octets xs count_is is =
    ap (λ n. take n xs) (count_is ∙ ap length is ∙ length-take most xs) ∙ take_min most xs ∙ sym is

pub on_filled : (filled : Bool) (xs ys : List ℕ) → filled ≡ true → OnTrue filled (xs ≡ ys) → xs ≡ ys
on_filled filled xs ys is on = subst (λ b. OnTrue b (xs ≡ ys)) is on

-- octets that were said
pub carries_say : (L : LineService) (at : HostChannel) (event : Event) (request : HostRequest) (done : Bool) (octets : List ℕ)
    (count most : ℕ) (s t : ProcessState) (b c : BridgeState) → event ≡ Ask at.node at.channel request → said_of request ≡ octets
    → octets ≡ take most b.input → count ≡ length octets → done ≡ true → Does L event done s t → c ≡ said count b
    → Carries L at true s t b c
carries_say L at event request done octets count most s t b c event_is spoken octets_are count_is was does is =
    let asked : Does L (Ask at.node at.channel request) true s t =
    subst (λ (e : Event). Does L e true s t) event_is (subst (λ (d : Bool). Does L event d s t) was does) in
    let idle : is_idle asked.answer ≡ false = was_done true asked.answer asked.done_is refl in
    carries_step L at (Ask at.node at.channel request) true s t b c (says count ∷ []) refl asked is refl
    (append-nil (take count b.input) ∙ take_whole count most octets b.input count_is octets_are ∙ sym spoken
    ∙ sym (cond_done (is_on at at.node at.channel) (is_idle asked.answer) (said_of request) (on_itself at) idle)) refl
    (λ other apart. (
      cond_off (is_on other at.node at.channel) (not (is_idle asked.answer)) (said_of request)
          (off_others other at apart),
      refl,
    ))

-- ---- packets that were taken

abbrev deeds_of : List Packet → List Deed
deeds_of [] = []
deeds_of (packet ∷ packets) = takes packet.octets packet.more ∷ deeds_of packets

with_packets_is : (packets : List Packet) (b : BridgeState) → with_packets packets b ≡ after_deeds (deeds_of packets) b
with_packets_is [] b = refl
with_packets_is (packet ∷ packets) b = with_packets_is packets (taken packet.octets packet.more b)

packets_of_deeds : (packets : List Packet) → flat_map packets_by (deeds_of packets) ≡ packets
packets_of_deeds [] = refl
packets_of_deeds (packet ∷ packets) = ap (λ rest. packet ∷ rest) (packets_of_deeds packets)

deeds_are_own : (packets : List Packet) → list_all is_of_network (deeds_of packets) ≡ true
deeds_are_own [] = refl
deeds_are_own (packet ∷ packets) = deeds_are_own packets

deeds_say_nothing : (packets : List Packet) (b : BridgeState) → all_by said_by (deeds_of packets) b ≡ []
deeds_say_nothing [] b = refl
deeds_say_nothing (packet ∷ packets) b = deeds_say_nothing packets (taken packet.octets packet.more b)

carries_take : (L : LineService) (at : HostChannel) (event : Event) (answer : Result Answer StepFault) (done : Bool)
    (s t : ProcessState) (b c : BridgeState) → event ≡ Take at.node at.channel
    → Makes L s (record { event = event; answer = answer }) t → done ≡ not (is_idle answer)
    → c ≡ with_packets (packet_from answer) b → Carries L at done s t b c
carries_take L at event answer done s t b c event_is stepped done_is is =
    let asked : Does L (Take at.node at.channel) done s t = record {
      answer = answer;
      stepped = subst (λ (e : Event). Makes L s (record { event = e; answer = answer }) t) event_is stepped;
      done_is = done_is;
    } in
    let packets = packet_from answer in
    carries_step L at (Take at.node at.channel) done s t b c (deeds_of packets) refl asked
    (is ∙ with_packets_is packets b) (deeds_are_own packets) (deeds_say_nothing packets b)
    (packets_of_deeds packets ∙ sym (if_on (is_on at at.node at.channel) packets (on_itself at)))
    (λ other apart. (refl, if_off (is_on other at.node at.channel) packets (off_others other at apart)))

pub carries_packet : (L : LineService) (at : HostChannel) (event : Event) (r : Lent) (answer : Bor Answer) (idle : Bool)
    (octets : List ℕ) (s t : ProcessState) (b c : BridgeState) → event ≡ Take at.node at.channel
    → Makes L s (record { event = event; answer = lent r }) t → r ≡ Ok answer → idle ≡ is_idle_answer answer.now
    → octets ≡ answer.now.text.items → c ≡ with_packets (packet_in answer.now.outcome octets) b
    → Carries L at (not idle) s t b c
carries_packet L at event r answer idle octets s t b c event_is stepped ok idle_is octets_are is =
    carries_take L at event (lent r) (not idle) s t b c event_is stepped
    (ap not idle_is ∙ sym (ap (λ a. not (is_idle (lent a))) ok))
    (is ∙ ap (λ xs. with_packets (packet_in answer.now.outcome xs) b) octets_are
    ∙ sym (ap (λ a. with_packets (packet_from (lent a)) b) ok))

pub carries_no_take : (L : LineService) (at : HostChannel) (event : Event) (r : Lent) (fault : StepFault) (s t : ProcessState)
    (b : BridgeState) → event ≡ Take at.node at.channel → Makes L s (record { event = event; answer = lent r }) t
    → r ≡ Err fault → Carries L at false s t b b
carries_no_take L at event r fault s t b event_is stepped err =
    carries_take L at event (lent r) false s t b b event_is stepped
    (sym (ap (λ a. not (is_idle (lent a))) err)) (sym (ap (λ a. with_packets (packet_from (lent a)) b) err))

-- ---- steps on one channel, of a built-in service

pub passes_at_none : (L : LineService) (at : HostChannel) (more : Bool) (s : ProcessState) → PassesAt L at more s s
passes_at_none L at more s = record {
  steps = [];
  passes = record { made = refl; silent = λ terminal. silent-none terminal; idle = λ none. refl };
  elsewhere = λ other apart. record { says = refl; takes = refl };
}

pub passes_at_with : (L : LineService) (at : HostChannel) (more is : Bool) (s t : ProcessState) → more ≡ is → PassesAt L at more s t
    → PassesAt L at is s t
passes_at_with L at more is s t same passes = subst (λ (m : Bool). PassesAt L at m s t) same passes

pub passes_at_ask : (L : LineService) (at : HostChannel) (event : Event) (request : HostRequest) (done : Bool)
    (s t : ProcessState) → event ≡ Ask at.node at.channel request → Does L event done s t → PassesAt L at done s t
passes_at_ask L at event request done s t event_is does =
    let asked : Does L (Ask at.node at.channel request) done s t = subst (λ (e : Event). Does L e done s t) event_is does in
    record {
      steps = record { event = Ask at.node at.channel request; answer = asked.answer } ∷ [];
      passes = passes_step L (Ask at.node at.channel request) done s t refl asked;
      elsewhere = λ other apart. still_step other (Ask at.node at.channel request) asked.answer
          (cond_off (is_on other at.node at.channel) (not (is_idle asked.answer)) (said_of request) (off_others other at apart)) refl;
    }

passes_at_take : (L : LineService) (at : HostChannel) (event : Event) (answer : Result Answer StepFault) (done : Bool)
    (s t : ProcessState) → event ≡ Take at.node at.channel → Makes L s (record { event = event; answer = answer }) t
    → done ≡ not (is_idle answer) → PassesAt L at done s t
passes_at_take L at event answer done s t event_is stepped done_is =
    let asked : Does L (Take at.node at.channel) done s t = record {
      answer = answer;
      stepped = subst (λ (e : Event). Makes L s (record { event = e; answer = answer }) t) event_is stepped;
      done_is = done_is;
    } in
    record {
      steps = record { event = Take at.node at.channel; answer = answer } ∷ [];
      passes = passes_step L (Take at.node at.channel) done s t refl asked;
      elsewhere = λ other apart. still_step other (Take at.node at.channel) answer refl
          (if_off (is_on other at.node at.channel) (packet_from answer) (off_others other at apart));
    }

pub passes_at_packet : (L : LineService) (at : HostChannel) (event : Event) (r : Lent) (answer : Bor Answer) (idle : Bool)
    (s t : ProcessState) → event ≡ Take at.node at.channel → Makes L s (record { event = event; answer = lent r }) t
    → r ≡ Ok answer → idle ≡ is_idle_answer answer.now → PassesAt L at (not idle) s t
passes_at_packet L at event r answer idle s t event_is stepped ok idle_is =
    passes_at_take L at event (lent r) (not idle) s t event_is stepped
    (ap not idle_is ∙ sym (ap (λ a. not (is_idle (lent a))) ok))

pub passes_at_no_take : (L : LineService) (at : HostChannel) (event : Event) (r : Lent) (fault : StepFault) (s t : ProcessState)
    → event ≡ Take at.node at.channel → Makes L s (record { event = event; answer = lent r }) t → r ≡ Err fault
    → PassesAt L at false s t
passes_at_no_take L at event r fault s t event_is stepped err =
    passes_at_take L at event (lent r) false s t event_is stepped (sym (ap (λ a. not (is_idle (lent a))) err))

-- a request that says nothing is nothing on any channel
pub record AsksNothing (L : LineService) (done : Bool) (s t : ProcessState) : Type 0 where
  pub steps : List Step
  pub passes : PassesBy L steps done s t
  pub still : (other : HostChannel) → IsStill other steps

pub asks_nothing_there : (L : LineService) (at : HostChannel) (event : Event) (request : HostRequest) (done : Bool)
    (s t : ProcessState) → event ≡ Ask at.node at.channel request → said_of request ≡ [] → Does L event done s t
    → AsksNothing L done s t
asks_nothing_there L at event request done s t event_is none does =
    let asked : Does L (Ask at.node at.channel request) done s t = subst (λ (e : Event). Does L e done s t) event_is does in
    record {
      steps = record { event = Ask at.node at.channel request; answer = asked.answer } ∷ [];
      passes = passes_step L (Ask at.node at.channel request) done s t refl asked;
      still = λ other. still_step other (Ask at.node at.channel request) asked.answer
          (asks_nothing other at.node at.channel request asked.answer none) refl;
    }

-- ---- orders

ordered_past : (port : ℕ) (terminals : List Terminal) → length terminals ≤ port → terminals ≡ changed_at port ordered terminals
ordered_past port terminals past =
    sym (ap (λ found. changed port ordered found terminals) (slice_get_past terminals port past))

-- an order for a bridge changes no terminal
pub order_past : (order : Order) (terminals : List Terminal) → IsFrom (length terminals) order
    → terminals ≡ after_order order terminals
order_past order terminals (port, is, past) =
    ordered_past port terminals past ∙ sym (ap (λ found. ordered_at found terminals) is)

pub orders_past : (found : Option Order) (terminals : List Terminal) (first : ℕ) → first ≡ length terminals
    → IfSome found (IsFrom first) → IfSome found (λ order. terminals ≡ after_order order terminals)
orders_past None terminals first is from = tt
orders_past (Some order) terminals first is from =
    order_past order terminals (subst (λ (n : ℕ). IsFrom n order) is from)

-- an order for the bridge of a place
pub order_from : (order : Order) (first place port : ℕ) → port_of order ≡ Some port → port ≡ first + place → IsFrom first order
order_from order first place port is at = (port, is, omega arith)
