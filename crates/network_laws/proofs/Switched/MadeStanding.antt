-- Calls that stand on lines between users: from free lines on, each is placed, comes in and is accepted.
use Rattle.std.proofs.Common.{◌≡◌, ◌≢◌, ℕ, zero, suc, ◌+◌, ◌<◌, ◌≤◌, Bool, true, false, List, [], ◌∷◌, ◌++◌, length, map, set, Option, Some, None, refl, sym, ap, ◌∙◌, subst, arith, true≢false}
use Rattle.std.specs.Prelude.{slice_get, if◌then◌else◌, ◌==◌, option_map}
use Rattle.std.proofs.lemmas.Bool.{eqb-true}
use Rattle.std.proofs.lemmas.Option.{same_Some, none-some, slice_get_within}
use Rattle.std.proofs.lemmas.List.{append_assoc, append-nil}
use Rattle.link_timers.specs.declared.role.Role.{Role}
use Rattle.link_timers.specs.declared.role.Role.TheVariants.{Dte, Dce}
use Rattle.link_timers.specs.Role.{other_of}
use Rattle.data_transfer.specs.Packets.Note.{Incoming}
use Rattle.packet_channel.specs.Channel.Request.{Accept}
use Rattle.call_records.specs.Book.{Book}
use Rattle.call_records.specs.Writes.{Write, all_written}
use Rattle.call_records.specs.Writes.Write.{Placed, Told, Asked}
use Rattle.call_records.specs.Register.{Register, LineEnds, LinePlan, found_ends, all_written_at, planned_book, free_ends, no_parts, with_standing_call, with_free_line, with_line, with_lines}
use Rattle.record_laws.proofs.Books.Basics.{get_there, set_here, set_elsewhere, length_set, length_pushed}
use Rattle.switched_call_laws.specs.SwitchRecords.Tied.{Histories}
use Rattle.switched_call_laws.specs.SwitchPaths.Sight.{Switched, Switches, OwnLines, Lines, seen_then, all_seen}
use Rattle.switched_call_laws.specs.SwitchPaths.Network.{PlacedCall, IsNetwork}
use Rattle.switched_call_laws.specs.SwitchPaths.SwitchPathLaws.{with_line as with_standing}
use Rattle.switched_call_laws.proofs.SwitchPaths.Begins.{network_holds}
use Rattle.record_laws.specs.CallPaths.World.{Origin, World, Plan, all_traced, after_event}
use Rattle.record_laws.specs.CallPaths.World.Event.{Writes}
use Rattle.record_laws.specs.CallPaths.Lines.{free_book}

-- ---- lines that are not there yet

get_front : {X : Type 0} (xs ys : List X) (n : ℕ) → n < length xs → slice_get (xs ++ ys) n ≡ slice_get xs n
get_front [] ys n less = absurd (omega arith)
get_front (x ∷ xs) ys zero less = refl
get_front (x ∷ xs) ys (suc n) less = get_front xs ys n (omega arith)

set_front : {X : Type 0} (xs ys : List X) (n : ℕ) (x : X) → n < length xs → set (xs ++ ys) n x ≡ set xs n x ++ ys
set_front [] ys n x less = absurd (omega arith)
set_front (z ∷ xs) ys zero x less = refl
set_front {X} (z ∷ xs) ys (suc n) x less = ap (λ (zs : List X). z ∷ zs) (set_front xs ys n x (omega arith))

abbrev with_more : List LineEnds → Register → Register
with_more more g = record g { lines = g.lines ++ more }

-- what is written at a line does not look at lines that come later
written_more : (more : List LineEnds) (n : ℕ) (role : Role) (ws : List Write) (g : Register) → n < length g.lines
    → with_more more (all_written_at n role ws g) ≡ all_written_at n role ws (with_more more g)
written_more more n role ws g less =
    let at : Option LineEnds → Book = λ o. record { records = g.records; pairs = g.pairs; dte = (found_ends o).dte; dce = (found_ends o).dce } in
    let same : slice_get (g.lines ++ more) n ≡ slice_get g.lines n = get_front g.lines more n less in
    let made : Book → List LineEnds → Register = λ b lines. record { records = b.records; pairs = b.pairs; lines = lines } in
    let written : Book = all_written role ws (at (slice_get g.lines n)) in
    ap (λ (lines : List LineEnds). made written lines) (sym (set_front g.lines more n (record { dte = written.dte; dce = written.dce }) less))
    ∙ ap (λ (o : Option LineEnds). made (all_written role ws (at o)) (set (g.lines ++ more) n (record { dte = (all_written role ws (at o)).dte; dce = (all_written role ws (at o)).dce }))) (sym same)

-- ---- the register

abbrev placing : List Write
placing = Placed (Some 1) no_parts ∷ []

abbrev answering : List Write
answering = Told (Incoming 1 no_parts ∷ []) ∷ Asked None 1 Accept None ∷ []

-- the calls of these lines, the first of which is `first`
abbrev stood : (first : ℕ) → List LinePlan → Register → Register
stood first [] g = g
stood first (p ∷ ps) g = stood (suc first) ps (if p.standing then with_standing_call first g else g)

-- one line and those that come later
line_more : (p : LinePlan) (more : List LineEnds) (g : Register)
    → with_more more (with_line p g) ≡ (if p.standing then with_standing_call (length g.lines) (with_more (free_ends p ∷ more) g) else with_more (free_ends p ∷ more) g)
line_more p more g = by p.standing
  where
    free : with_more more (with_free_line p g) ≡ with_more (free_ends p ∷ more) g
    free = ap (λ (lines : List LineEnds). record g { lines = lines }) (append_assoc g.lines (free_ends p ∷ []) more)

    within : length g.lines < length (with_free_line p g).lines
    within = let many = length_pushed g.lines (free_ends p) in omega arith

    by : (standing : Bool) → with_more more (if standing then with_standing_call (length g.lines) (with_free_line p g) else with_free_line p g)
        ≡ (if standing then with_standing_call (length g.lines) (with_more (free_ends p ∷ more) g) else with_more (free_ends p ∷ more) g)
    by false = free
    by true =
        let n : ℕ = length g.lines in
        let one : Register = all_written_at n Dte placing (with_free_line p g) in
        let still : n < length one.lines = subst (λ (k : ℕ). n < k) (sym (length_set (with_free_line p g).lines n _)) within in
        written_more more n Dce answering one still
        ∙ ap (λ (x : Register). all_written_at n Dce answering x) (written_more more n Dte placing (with_free_line p g) within ∙ ap (λ (x : Register). all_written_at n Dte placing x) free)

-- how many lines a register has with one more
line_count : (p : LinePlan) (g : Register) → length (with_line p g).lines ≡ suc (length g.lines)
line_count p g = by p.standing
  where
    by : (standing : Bool) → length (if standing then with_standing_call (length g.lines) (with_free_line p g) else with_free_line p g).lines ≡ suc (length g.lines)
    by false = length_pushed g.lines (free_ends p)
    by true =
        length_set (all_written_at (length g.lines) Dte placing (with_free_line p g)).lines (length g.lines) _
        ∙ length_set (with_free_line p g).lines (length g.lines) _ ∙ length_pushed g.lines (free_ends p)

pub made_stood : (ps : List LinePlan) (g : Register) → with_lines ps g ≡ stood (length g.lines) ps (with_more (map free_ends ps) g)
made_stood [] g = ap (λ (lines : List LineEnds). record g { lines = lines }) (sym (append-nil g.lines))
made_stood (p ∷ ps) g =
    made_stood ps (with_line p g)
    ∙ ap (λ (k : ℕ). stood k ps (with_more (map free_ends ps) (with_line p g))) (line_count p g)
    ∙ ap (λ (x : Register). stood (suc (length g.lines)) ps x) (line_more p (map free_ends ps) g)

-- ---- the laws of paths

-- a switch is as it was, with some histories
pub record SameSwitch (x : Switched) (o : Option Switched) : Type 0 where
  pub histories : Histories
  pub is : o ≡ Some (record { switch = x.switch; histories = histories })

abbrev pub SameSwitches : (old new : Switches) → Type 0
SameSwitches old new = (place : ℕ) (x : Switched) → old place ≡ Some x → SameSwitch x (new place)

-- the network when the calls of these lines stand: the books of the lines before are the same
pub record Stood (plan : Plan) (ats : OwnLines) (xs : Switches) (cs : List PlacedCall) (lines_then : Lines) (first : ℕ) (ps : List LinePlan) (old : List Book) (g : Register) : Type 0 where
  pub switches : Switches
  pub lines : Lines
  pub books : List Book
  pub world : World
  pub traces : List (List Origin)
  pub network : IsNetwork plan ats switches cs lines books world traces
  pub register : world.register ≡ stood first ps g
  pub count : length books ≡ length old
  pub here : (j : ℕ) (p : LinePlan) → slice_get ps j ≡ Some p → slice_get books (first + j) ≡ Some (planned_book p)
  pub before : (k : ℕ) → k < first → slice_get books k ≡ slice_get old k
  pub same_switches : SameSwitches xs switches
  pub same_lines : (k : ℕ) → lines k ≡ lines_then k

-- the lines are free yet, and where a call is to stand users are at both ends
pub record MayStand (plan : Plan) (first : ℕ) (ps : List LinePlan) (books : List Book) : Type 0 where
  pub free : (j : ℕ) (p : LinePlan) → slice_get ps j ≡ Some p → slice_get books (first + j) ≡ Some (free_book p)
  pub users : (j : ℕ) (p : LinePlan) → slice_get ps j ≡ Some p → p.standing ≡ true → (role : Role) → plan.has_user (first + j) role ≡ true
  pub channels : (j : ℕ) (p : LinePlan) → slice_get ps j ≡ Some p → 1 ≤ p.channels

-- what is written at an end of such a line
record AfterWrites (plan : Plan) (ats : OwnLines) (xs : Switches) (cs : List PlacedCall) (lines_then : Lines) (line : ℕ) (role : Role) (ws : List Write) (old : List Book) (b : Book) (g : Register) : Type 0 where
  switches : Switches
  lines : Lines
  books : List Book
  world : World
  traces : List (List Origin)
  network : IsNetwork plan ats switches cs lines books world traces
  register : world.register ≡ all_written_at line role ws g
  count : length books ≡ length old
  here : slice_get books line ≡ Some (all_written role ws b)
  rest : (k : ℕ) → k ≢ line → slice_get books k ≡ slice_get old k
  same_switches : SameSwitches xs switches
  same_lines : (k : ℕ) → lines k ≡ lines_then k

same_if : (v : Bool) (k line : ℕ) (lines : Lines) → (v ≡ true → k ≡ line) → (if v then lines line else lines k) ≡ lines k
same_if true k line lines is = ap lines (sym (is refl))
same_if false k line lines is = refl

after_writes : (plan : Plan) (ats : OwnLines) (xs : Switches) (cs : List PlacedCall) (lines : Lines) (line : ℕ) (role : Role) (ws : List Write) (books : List Book) (b : Book) (w : World) (traces : List (List Origin))
    → ((end : Role) → plan.has_user line end ≡ true) → slice_get books line ≡ Some b → IsNetwork plan ats xs cs lines books w traces
    → AfterWrites plan ats xs cs lines line role ws books b w.register
after_writes plan ats xs cs lines line role ws books b w traces users there i =
    let new : Book = all_written role ws b in
    let own = get_there traces line (subst (λ (k : ℕ). line < k) (sym i.seen.lines.count) (slice_get_within books line b there)) in
    record {
      switches = all_seen ats (with_standing line (lines line) lines) (set books line new) xs;
      lines = with_standing line (lines line) lines;
      books = set books line new;
      world = after_event (Writes line role ws) w;
      traces = set traces line (all_traced line role ws b own.0);
      network = network_holds.users plan ats xs cs lines books w traces line role ws b own.0 (lines line) (users role) there own.1
          (λ switch. absurd (true≢false (sym (users (other_of role)) ∙ switch))) i;
      register = refl;
      count = length_set books line new;
      here = set_here books line new b there;
      rest = λ k ne. set_elsewhere books line k new ne;
      same_switches = λ place x at. record {
        histories = (seen_then (ats place) (with_standing line (lines line) lines) (set books line new) x).histories;
        is = ap (λ (o : Option Switched). option_map (λ y. seen_then (ats place) (with_standing line (lines line) lines) (set books line new) y) o) at;
      };
      same_lines = λ k. same_if (k == line) k line lines (λ e. eqb-true k line e);
    }

switches_on : (xs ys zs : Switches) → SameSwitches xs ys → SameSwitches ys zs → SameSwitches xs zs
switches_on xs ys zs a b = λ place x at.
    let y = a place x at in
    let z = b place (record { switch = x.switch; histories = y.histories }) y.is in
    record { histories = z.histories; is = z.is }

switches_stay : (xs : Switches) → SameSwitches xs xs
switches_stay xs = λ place x at. record { histories = x.histories; is = at }

-- one line, with its book and its part of the register
record OneStands (plan : Plan) (ats : OwnLines) (xs : Switches) (cs : List PlacedCall) (lines_then : Lines) (line : ℕ) (p : LinePlan) (old : List Book) (g : Register) : Type 0 where
  switches : Switches
  lines : Lines
  books : List Book
  world : World
  traces : List (List Origin)
  network : IsNetwork plan ats switches cs lines books world traces
  register : world.register ≡ (if p.standing then with_standing_call line g else g)
  count : length books ≡ length old
  here : slice_get books line ≡ Some (planned_book p)
  rest : (k : ℕ) → k ≢ line → slice_get books k ≡ slice_get old k
  same_switches : SameSwitches xs switches
  same_lines : (k : ℕ) → lines k ≡ lines_then k

-- a standing call is what these writes make of a free line
standing_is : (d e channels : ℕ) (address : List ℕ) → 1 ≤ channels
    → let p : LinePlan = record { dte_node = d; dce_node = e; address = address; channels = channels; standing = true } in
    all_written Dce answering (all_written Dte placing (free_book p)) ≡ planned_book p
standing_is d e zero address least = absurd (omega arith)
standing_is d e (suc c) address least = refl

one_stands : (plan : Plan) (ats : OwnLines) (xs : Switches) (cs : List PlacedCall) (lines : Lines) (books : List Book) (w : World) (traces : List (List Origin)) (line : ℕ) (standing : Bool) (d e channels : ℕ) (address : List ℕ)
    → let p : LinePlan = record { dte_node = d; dce_node = e; address = address; channels = channels; standing = standing } in
    slice_get books line ≡ Some (free_book p) → (standing ≡ true → (role : Role) → plan.has_user line role ≡ true) → 1 ≤ channels
    → IsNetwork plan ats xs cs lines books w traces → OneStands plan ats xs cs lines line p books w.register
one_stands plan ats xs cs lines books w traces line false d e channels address free users least i = record {
  switches = xs;
  lines = lines;
  books = books;
  world = w;
  traces = traces;
  network = i;
  register = refl;
  count = refl;
  here = free;
  rest = λ k ne. refl;
  same_switches = switches_stay xs;
  same_lines = λ k. refl;
}
one_stands plan ats xs cs lines books w traces line true d e channels address free users least i =
    let p : LinePlan = record { dte_node = d; dce_node = e; address = address; channels = channels; standing = true } in
    let placed : Book = all_written Dte placing (free_book p) in
    let a = after_writes plan ats xs cs lines line Dte placing books (free_book p) w traces (users refl) free i in
    let b = after_writes plan ats a.switches cs a.lines line Dce answering a.books placed a.world a.traces (users refl) a.here a.network in
    record {
      switches = b.switches;
      lines = b.lines;
      books = b.books;
      world = b.world;
      traces = b.traces;
      network = b.network;
      register = b.register ∙ ap (λ (g : Register). all_written_at line Dce answering g) a.register;
      count = b.count ∙ a.count;
      here = b.here ∙ ap Some (standing_is d e channels address least);
      rest = λ k ne. b.rest k ne ∙ a.rest k ne;
      same_switches = switches_on xs a.switches b.switches a.same_switches b.same_switches;
      same_lines = λ k. b.same_lines k ∙ a.same_lines k;
    }

-- the calls of one line and of those behind it
then_stood : (plan : Plan) (ats : OwnLines) (xs : Switches) (cs : List PlacedCall) (lines : Lines) (books : List Book) (g : Register) (first : ℕ) (p : LinePlan) (ps : List LinePlan) (a : OneStands plan ats xs cs lines first p books g)
    → Stood plan ats a.switches cs a.lines (suc first) ps a.books a.world.register → Stood plan ats xs cs lines first (p ∷ ps) books g
then_stood plan ats xs cs lines books g first p ps a b = record {
  switches = b.switches;
  lines = b.lines;
  books = b.books;
  world = b.world;
  traces = b.traces;
  network = b.network;
  register = b.register ∙ ap (λ (x : Register). stood (suc first) ps x) a.register;
  count = b.count ∙ a.count;
  here = λ j q there. here_by b.books b.here (b.before first (let less : first < suc first = omega arith in less) ∙ a.here) j q there;
  before = λ k less. b.before k (let later : k < suc first = omega arith in later) ∙ a.rest k (λ e. absurd (omega (arith, e, less)));
  same_switches = switches_on xs a.switches b.switches a.same_switches b.same_switches;
  same_lines = λ k. b.same_lines k ∙ a.same_lines k;
}
  where
    here_by : (new : List Book) → ((j : ℕ) (q : LinePlan) → slice_get ps j ≡ Some q → slice_get new (suc first + j) ≡ Some (planned_book q))
        → slice_get new first ≡ Some (planned_book p) → (j : ℕ) (q : LinePlan) → slice_get (p ∷ ps) j ≡ Some q → slice_get new (first + j) ≡ Some (planned_book q)
    here_by new rest here zero q there =
        let none_more : first + 0 ≡ first = omega arith in
        ap (λ k. slice_get new k) none_more ∙ here ∙ ap (λ (x : LinePlan). Some (planned_book x)) (same_Some p q there)
    here_by new rest here (suc j) q there =
        let next : first + suc j ≡ suc first + j = omega arith in ap (λ k. slice_get new k) next ∙ rest j q there

pub all_stand : (plan : Plan) (ats : OwnLines) (xs : Switches) (cs : List PlacedCall) (lines : Lines) (books : List Book) (w : World) (traces : List (List Origin)) (first : ℕ) (ps : List LinePlan)
    → MayStand plan first ps books → IsNetwork plan ats xs cs lines books w traces
    → Stood plan ats xs cs lines first ps books w.register
all_stand plan ats xs cs lines books w traces first [] may i = record {
  switches = xs;
  lines = lines;
  books = books;
  world = w;
  traces = traces;
  network = i;
  register = refl;
  count = refl;
  here = λ j p there. absurd (none-some p there);
  before = λ k less. refl;
  same_switches = switches_stay xs;
  same_lines = λ k. refl;
}
all_stand plan ats xs cs lines books w traces first (p ∷ ps) may i =
    let none_more : first + 0 ≡ first = omega arith in
    let a = one_stands plan ats xs cs lines books w traces first p.standing p.dte_node p.dce_node p.channels p.address
    (ap (λ k. slice_get books k) (sym none_more) ∙ may.free 0 p refl)
    (λ standing role. ap (λ (k : ℕ). plan.has_user k role) (sym none_more) ∙ may.users 0 p refl standing role) (may.channels 0 p refl) i in
    then_stood plan ats xs cs lines books w.register first p ps a
    (all_stand plan ats a.switches cs a.lines a.books a.world a.traces (suc first) ps (later a.books a.rest) a.network)
  where
    later : (new : List Book) → ((k : ℕ) → k ≢ first → slice_get new k ≡ slice_get books k) → MayStand plan (suc first) ps new
    later new rest = record {
      free = λ j q there.
          let next : suc first + j ≡ first + suc j = omega arith in
          rest (suc first + j) (λ e. absurd (omega (arith, e))) ∙ ap (λ k. slice_get books k) next ∙ may.free (suc j) q there;
      users = λ j q there standing role.
          let next : suc first + j ≡ first + suc j = omega arith in ap (λ (k : ℕ). plan.has_user k role) next ∙ may.users (suc j) q there standing role;
      channels = λ j q there. may.channels (suc j) q there;
    }
