-- A line whose link is set up anew for what other lines ask of it came to owe a fifth packet.
use Rattle.std.proofs.Common.{◌≡◌, ℕ, zero, suc, ◌*◌, ◌⊎◌, inl, inr, Bool, true, false, ◌&&◌, ◌||◌, ◌==◌, nat_le, if◌then◌else◌, List, [], ◌∷◌, ◌++◌, length, Option, Some, None, is_some, refl, sym, ap, subst, ◌∙◌, true≢false, option_map}
use Rattle.std.specs.Prelude.{slice_get}
use Rattle.std.proofs.lemmas.Bool.{eqb-true}
use Rattle.std.proofs.lemmas.Option.{none-some, same_Some}
use Rattle.link_timers.specs.declared.timers.TimerId.{TimerId}
use Rattle.link_timers.specs.declared.timers.TimerId.TheVariants.{T1}
use Rattle.lapb.specs.declared.note.Note as link_note
use Rattle.lapb.specs.declared.note.Note.TheVariants.{Nothing, Up, Down}
use Rattle.lapb.specs.Machine.{Octets, on_t1}
use Rattle.lapb.specs.Octets.{on_octets}
use Rattle.data_transfer.specs.declared.flow.Flow.{Flow}
use Rattle.data_transfer.specs.Packets.{CallParts, Body, Note, Received}
use Rattle.data_transfer.specs.Packets.Note.{Incoming, Connected, Closed, WasReset, InterruptConfirmed, Covered}
use Rattle.data_transfer.specs.Octets.{heard}
use Rattle.packet_channel.specs.Channel.{Channel, requested, placing}
use Rattle.packet_channel.specs.Channel as channel
use Rattle.packet_layer.specs.Layer.{Layer, Phase, Timer, channel_of, channel_given, on_found, placed_on, passes_limit, set_if}
use Rattle.packet_layer.specs.Events.{timer_named}
use Rattle.packet_laws.specs.Readable.{Every}
use Rattle.packet_end.specs.PacketEnd.{PacketEnd, runs_at, relinked}
use Rattle.address_routes.specs.Routes.{RouteMap}
use Rattle.switch_joins.specs.declared.channels.SwitchChannel.{SwitchChannel}
use Rattle.switch_joins.specs.Joins.{Joined}
use Rattle.switch_lines.specs.Lines.{SwitchLine, changed, joined_at}
use Rattle.switch_lines.specs.Switch.{Switch, Answer, answer, heed, notes_of, with_end, quieted, acted, all_begun, to_relink, raised, relinked_at, all_relinked, relinks_of, lines_first}
use Rattle.switch_lines.specs.Switch.Answer.{Clears, Joins}
use Rattle.switch_laws.specs.World.{World, Act, line_of, layer_after, after_act, after_acts, layers_of}
use Rattle.switch_laws.specs.World.Act.{Comes, Expires, GoesUp, GoesDown, Calls, Gives, Reads}
use Rattle.switch_laws.specs.Joined.{IsSwitch, Becomes}
use Rattle.switch_laws.specs.Steps.{Happening, does, Step, lines_after, note_acts, heard_acts, packet_acts, timer_acts, expiry_acts, happening_acts, on_line, acts_of_all}
use Rattle.switch_laws.specs.Steps.Happening.{Brings, RunsOut, Relinks}
use Rattle.switch_laws.specs.Steps.Step.{Places, Keeps, Happens, Offers, Begins, Settles, Elapses}
use Rattle.switch_laws.specs.EventSteps.{anew_steps, covered_steps, told_joined_steps, told_steps, answered_steps, heed_steps, heed_all_steps, acted_steps, relinked_steps, all_relinked_steps, rounds_steps, finished_steps, event_acts}
use Rattle.switch_laws.specs.Stays.{relinked_in}
use Rattle.switch_laws.specs.Concern.{is_one_of}
use Rattle.switch_laws.specs.Isolated.{fifth_on, fifth_placed, makes_fifth, CameToOwe}
use Rattle.switch_laws.proofs.Lists.{not_equal, get_changed}
use Rattle.switch_laws.proofs.Leading.{acts_lead, acted_leads, all_relinked_leads}
use Rattle.switch_laws.proofs.Turning.{relinked_effect, acted_right}
use Rattle.switch_joins.proofs.Apart.{decided}
use Rattle.switch_lines.proofs.Places.{get_unchanged}

-- ---- acts that leave a line its session

-- a request, a call that is placed, and that notes are read
abbrev pub IsMild : Act → Type 0
IsMild (Act.Asks p q) = Unit {0}
IsMild (Calls n parts) = Unit {0}
IsMild (Reads n) = Unit {0}
IsMild act = ⊥

-- those of these that are on line m
abbrev pub AreMild : ℕ → List Act → Type 0
AreMild m [] = Unit {0}
AreMild m (a ∷ more) = (line_of a ≡ m → IsMild a) × AreMild m more

mild_then : (m : ℕ) (as_ bs : List Act) → AreMild m as_ → AreMild m bs → AreMild m (as_ ++ bs)
mild_then m [] bs h k = k
mild_then m (a ∷ as_) bs h k = (h.0, mild_then m as_ bs h.1 k)

-- all are on line n
abbrev AreOn : ℕ → List Act → Type 0
AreOn n [] = Unit {0}
AreOn n (a ∷ more) = (line_of a ≡ n) × AreOn n more

on_then : (n : ℕ) (as_ bs : List Act) → AreOn n as_ → AreOn n bs → AreOn n (as_ ++ bs)
on_then n [] bs h k = k
on_then n (a ∷ as_) bs h k = (h.0, on_then n as_ bs h.1 k)

elsewhere : (n m : ℕ) (acts : List Act) → (m ≡ n → ⊥) → AreOn n acts → AreMild m acts
elsewhere n m [] ne h = tt
elsewhere n m (a ∷ more) ne h = (λ e. absurd (ne (sym e ∙ h.0)), elsewhere n m more ne h.1)

-- ---- what happens at the end of line n is on it

note_on : (n : ℕ) (note : link_note.Note) → AreOn n (note_acts n note)
note_on n Nothing = tt
note_on n Up = (refl, tt)
note_on n Down = (refl, tt)

heard_on : (n : ℕ) (o : Option Received) → AreOn n (heard_acts n o)
heard_on n None = tt
heard_on n (Some r) = (refl, tt)

packet_on : (n : ℕ) (flow : Flow) (o : Option Octets) → AreOn n (packet_acts n flow o)
packet_on n flow None = tt
packet_on n flow (Some octets) = heard_on n (heard flow octets)

timer_on : (n : ℕ) (o : Option Timer) → AreOn n (timer_acts n o)
timer_on n None = tt
timer_on n (Some t) = (refl, tt)

expiry_on : (n : ℕ) (id : TimerId) (e : PacketEnd) → AreOn n (expiry_acts n id e)
expiry_on n T1 e = note_on n (on_t1 e.line.link).note
expiry_on n id e = timer_on n (timer_named e.layer.role id)

on_if : (n : ℕ) (b : Bool) (acts : List Act) → AreOn n acts → AreOn n (if b then acts else [])
on_if n true acts h = h
on_if n false acts h = tt

happening_on : (n : ℕ) (what : Happening) (e : PacketEnd) → AreOn n (happening_acts n what e)
happening_on n (Brings octets) e = on_then n _ _ (note_on n (on_octets e.line.link octets).note) (packet_on n e.layer.flow (on_octets e.line.link octets).accepted)
happening_on n (RunsOut id) e = on_if n (runs_at e id) (expiry_acts n id e) (expiry_on n id e)
happening_on n Relinks e = (refl, tt)

line_on : (n : ℕ) (what : Happening) (o : Option SwitchLine) → AreOn n (on_line (λ e. happening_acts n what e) o)
line_on n what None = tt
line_on n what (Some l) = happening_on n what l.end

-- ---- what is done for notes asks, places and keeps

abbrev pub IsAsking : Step → Type 0
IsAsking (Step.Asks p q) = Unit {0}
IsAsking (Places n parts) = Unit {0}
IsAsking (Keeps p o) = Unit {0}
IsAsking step = ⊥

every_then : (as_ bs : List Step) → Every IsAsking as_ → Every IsAsking bs → Every IsAsking (as_ ++ bs)
every_then [] bs h k = k
every_then (a ∷ as_) bs h k = (h.0, every_then as_ bs h.1 k)

pub asking_mild : (m : ℕ) (steps : List Step) (ls : List SwitchLine) → Every IsAsking steps → AreMild m (acts_of_all steps ls)
asking_mild m [] ls h = tt
asking_mild m (Step.Asks p q ∷ more) ls h = (λ e. tt, asking_mild m more (lines_after (Step.Asks p q) ls) h.1)
asking_mild m (Places n parts ∷ more) ls h = (λ e. tt, asking_mild m more (lines_after (Places n parts) ls) h.1)
asking_mild m (Keeps p o ∷ more) ls h = asking_mild m more (lines_after (Keeps p o) ls) h.1
asking_mild m (Happens n what ∷ more) ls h = absurd h.0
asking_mild m (Offers n ∷ more) ls h = absurd h.0
asking_mild m (Begins ∷ more) ls h = absurd h.0
asking_mild m (Settles ∷ more) ls h = absurd h.0
asking_mild m (Elapses ticks ∷ more) ls h = absurd h.0

anew_asks : (o : Option Joined) (p : SwitchChannel) → Every IsAsking (anew_steps o p)
anew_asks None p = tt
anew_asks (Some j) p = (tt, tt)

covered_asks : (n : ℕ) (o : Option Joined) (p : SwitchChannel) → Every IsAsking (covered_steps n o p)
covered_asks n None p = tt
covered_asks n (Some j) p = (tt, (tt, tt))

joined_asks : (note : Note) (p : SwitchChannel) (j : Joined) (ls : List SwitchLine) → Every IsAsking (told_joined_steps note p j ls)
joined_asks (Incoming c parts) p j ls = tt
joined_asks (Connected c) p j ls = (tt, tt)
joined_asks (Closed c cause diagnostic reason) p j ls = (tt, (tt, (tt, tt)))
joined_asks (WasReset c cause diagnostic reason) p j ls =
    (tt, every_then (anew_steps (Some j) p) (anew_steps (joined_at ls j.other) j.other) (anew_asks (Some j) p) (anew_asks (joined_at ls j.other) j.other))
joined_asks (InterruptConfirmed c) p j ls = (tt, tt)
joined_asks (Covered c n) p j ls = covered_asks n (joined_at ls j.other) j.other

told_asks : (o : Option Joined) (note : Note) (p : SwitchChannel) (ls : List SwitchLine) → Every IsAsking (told_steps o note p ls)
told_asks None note p ls = tt
told_asks (Some j) note p ls = joined_asks note p j ls

answered_asks : (a : Answer) (p : SwitchChannel) (parts : CallParts) (ls : List SwitchLine) → Every IsAsking (answered_steps a p parts ls)
answered_asks (Clears cause) p parts ls = (tt, tt)
answered_asks (Joins q) p parts ls = (tt, (tt, (tt, tt)))

heed_asks : (routes : RouteMap) (n : ℕ) (note : Note) (ls : List SwitchLine) → Every IsAsking (heed_steps routes n note ls)
heed_asks routes n (Incoming c parts) ls = answered_asks (answer routes ls n parts) _ parts ls
heed_asks routes n (Connected c) ls = told_asks _ (Connected c) _ ls
heed_asks routes n (Closed c cause diagnostic reason) ls = told_asks _ (Closed c cause diagnostic reason) _ ls
heed_asks routes n (WasReset c cause diagnostic reason) ls = told_asks _ (WasReset c cause diagnostic reason) _ ls
heed_asks routes n (InterruptConfirmed c) ls = told_asks _ (InterruptConfirmed c) _ ls
heed_asks routes n (Covered c count) ls = told_asks _ (Covered c count) _ ls

pub heed_all_asks : (routes : RouteMap) (n : ℕ) (notes : List Note) (ls : List SwitchLine) → Every IsAsking (heed_all_steps routes n notes ls)
heed_all_asks routes n [] ls = tt
heed_all_asks routes n (x ∷ xs) ls = every_then (heed_steps routes n x ls) _ (heed_asks routes n x ls) (heed_all_asks routes n xs (heed routes n x ls))

-- so what happens on line n, with its notes, is mild for line m
pub acted_mild : (routes : RouteMap) (n m : ℕ) (what : Happening) (ls : List SwitchLine) → (m ≡ n → ⊥) → AreMild m (acts_of_all (acted_steps routes n what ls) ls)
acted_mild routes n m what ls ne = (
  λ e. tt,
  mild_then m (on_line (λ e. happening_acts n what e) (slice_get ls n)) _ (elsewhere n m _ ne (line_on n what (slice_get ls n)))
      (asking_mild m (heed_all_steps routes n (notes_of (slice_get (changed n (with_end (λ e. does what (quieted e))) ls) n)) (lines_after (Happens n what) ls)) (lines_after (Happens n what) ls)
      (heed_all_asks routes n _ (lines_after (Happens n what) ls))),
)

-- ---- a layer after a mild act

limit_is : (owed : List Body) (o : Option Body) → passes_limit owed o ≡ (is_some o && nat_le 4 (length owed))
limit_is owed None = refl
limit_is owed (Some b) = refl

was_set : (b old : Bool) → old ≡ false → set_if b old ≡ true → b ≡ true
was_set true old f e = refl
was_set false old f e = absurd (true≢false (sym e ∙ f))

found_fifth : (l : Layer) (c : ℕ) (f : Channel → channel.Step) (o : Option Channel) → l.relink ≡ false → (on_found l c f o).relink ≡ true → fifth_on o f ≡ true
found_fifth l c f None r e = absurd (true≢false (sym e ∙ r))
found_fifth l c f (Some ch) r e =
    sym (limit_is (f ch).channel.owed (f ch).owes) ∙ was_set (passes_limit (f ch).channel.owed (f ch).owes) l.relink r e

placed_fifth : (l : Layer) (parts : CallParts) (o : Option ℕ) → l.relink ≡ false → (placed_on l parts o).relink ≡ true → fifth_placed l o parts ≡ true
placed_fifth l parts None r e = absurd (true≢false (sym e ∙ r))
placed_fifth l parts (Some c) r e = found_fifth l c (λ ch. placing parts ch) (channel_of l c) r e

act_fifth : (a : Act) (l : Layer) → IsMild a → l.relink ≡ false → (layer_after a l).relink ≡ true → makes_fifth a (Some l) ≡ true
act_fifth (Act.Asks p q) l m r e = found_fifth l p.channel (λ ch. requested l.role l.flow ch q) (channel_of l p.channel) r e
act_fifth (Comes n x) l m r e = absurd m
act_fifth (Expires n t) l m r e = absurd m
act_fifth (GoesUp n) l m r e = absurd m
act_fifth (GoesDown n) l m r e = absurd m
act_fifth (Calls n parts) l m r e = placed_fifth l parts (channel_given l l.phase) r e
act_fifth (Gives n) l m r e = absurd m
act_fifth (Reads n) l m r e = absurd (true≢false (sym e ∙ r))

pub found_phase : (l : Layer) (c : ℕ) (f : Channel → channel.Step) (o : Option Channel) → (on_found l c f o).phase ≡ l.phase
found_phase l c f None = refl
found_phase l c f (Some ch) = refl

placed_phase : (l : Layer) (parts : CallParts) (o : Option ℕ) → (placed_on l parts o).phase ≡ l.phase
placed_phase l parts None = refl
placed_phase l parts (Some c) = found_phase l c (λ ch. placing parts ch) (channel_of l c)

act_phase : (a : Act) (l : Layer) → IsMild a → (layer_after a l).phase ≡ l.phase
act_phase (Act.Asks p q) l m = found_phase l p.channel (λ ch. requested l.role l.flow ch q) (channel_of l p.channel)
act_phase (Comes n x) l m = absurd m
act_phase (Expires n t) l m = absurd m
act_phase (GoesUp n) l m = absurd m
act_phase (GoesDown n) l m = absurd m
act_phase (Calls n parts) l m = placed_phase l parts (channel_given l l.phase)
act_phase (Gives n) l m = absurd m
act_phase (Reads n) l m = refl

-- ---- line m after acts

abbrev pub asks : Option Layer → Bool
asks None = false
asks (Some l) = l.relink

abbrev pub phase_of : Option Layer → Option Phase
phase_of o = option_map (λ (l : Layer). l.phase) o

-- it is changed, or not, by one act
pub record OnLine (a : Act) (m : ℕ) (ys : List Layer) : Type 0 where
  pub here : line_of a ≡ m
  pub after : slice_get (after_act a ys) m ≡ option_map (λ l. layer_after a l) (slice_get ys m)

pub on_or_not : (a : Act) (m : ℕ) (ys : List Layer) → OnLine a m ys ⊎ (slice_get (after_act a ys) m ≡ slice_get ys m)
on_or_not a m ys = by_line (decided (line_of a == m))
  where
    by_line : ((line_of a == m) ≡ true) ⊎ ((line_of a == m) ≡ false) → OnLine a m ys ⊎ (slice_get (after_act a ys) m ≡ slice_get ys m)
    by_line (inl t) =
        let is = eqb-true (line_of a) m t in
        inl (record {
          here = is;
          after = ap (λ (n : ℕ). slice_get (changed n (λ l. layer_after a l) ys) m) is ∙ get_changed m (λ l. layer_after a l) ys;
        })
    by_line (inr f) = inr (get_unchanged (line_of a) m (λ l. layer_after a l) ys (λ e. not_equal (line_of a) m f (sym e)))

fifth_at : (a : Act) (o : Option Layer) → IsMild a → asks o ≡ false → asks (option_map (λ l. layer_after a l) o) ≡ true → makes_fifth a o ≡ true
fifth_at a None m r e = absurd (true≢false (sym e))
fifth_at a (Some l) m r e = act_fifth a l m r e

pub acts_came : (m : ℕ) (acts : List Act) (ys : List Layer) → AreMild m acts → asks (slice_get ys m) ≡ false → asks (slice_get (after_acts acts ys) m) ≡ true → CameToOwe m acts ys
acts_came m [] ys mild r e = absurd (true≢false (sym e ∙ r))
acts_came m (a ∷ more) ys mild r e = by_ask (decided (asks (slice_get (after_act a ys) m))) (λ f. acts_came m more (after_act a ys) mild.1 f e)
  where
    by_on : OnLine a m ys ⊎ (slice_get (after_act a ys) m ≡ slice_get ys m) → asks (slice_get (after_act a ys) m) ≡ true → (line_of a ≡ m) × (makes_fifth a (slice_get ys m) ≡ true)
    by_on (inl h) t = (h.here, fifth_at a (slice_get ys m) (mild.0 h.here) r (sym (ap (λ (o : Option Layer). asks o) h.after) ∙ t))
    by_on (inr same) t = absurd (true≢false (sym t ∙ (ap (λ (o : Option Layer). asks o) same ∙ r)))

    by_ask : (asks (slice_get (after_act a ys) m) ≡ true) ⊎ (asks (slice_get (after_act a ys) m) ≡ false) → (asks (slice_get (after_act a ys) m) ≡ false → CameToOwe m more (after_act a ys)) → CameToOwe m (a ∷ more) ys
    by_ask (inl t) later = inl (by_on (on_or_not a m ys) t)
    by_ask (inr f) later = inr (later f)

phase_at : (a : Act) (o : Option Layer) → IsMild a → phase_of (option_map (λ l. layer_after a l) o) ≡ phase_of o
phase_at a None m = refl
phase_at a (Some l) m = ap (λ (ph : Phase). Some ph) (act_phase a l m)

pub acts_phase : (m : ℕ) (acts : List Act) (ys : List Layer) → AreMild m acts → phase_of (slice_get (after_acts acts ys) m) ≡ phase_of (slice_get ys m)
acts_phase m [] ys mild = refl
acts_phase m (a ∷ more) ys mild = acts_phase m more (after_act a ys) mild.1 ∙ by_on (on_or_not a m ys)
  where
    by_on : OnLine a m ys ⊎ (slice_get (after_act a ys) m ≡ slice_get ys m) → phase_of (slice_get (after_act a ys) m) ≡ phase_of (slice_get ys m)
    by_on (inl h) = ap (λ (o : Option Layer). phase_of o) h.after ∙ phase_at a (slice_get ys m) (mild.0 h.here)
    by_on (inr same) = ap (λ (o : Option Layer). phase_of o) same

came_first : (m : ℕ) (as_ bs : List Act) (ys : List Layer) → CameToOwe m as_ ys → CameToOwe m (as_ ++ bs) ys
came_first m [] bs ys h = absurd h
came_first m (a ∷ as_) bs ys (inl h) = inl h
came_first m (a ∷ as_) bs ys (inr h) = inr (came_first m as_ bs (after_act a ys) h)

came_later : (m : ℕ) (as_ bs : List Act) (ys : List Layer) → CameToOwe m bs (after_acts as_ ys) → CameToOwe m (as_ ++ bs) ys
came_later m [] bs ys h = h
came_later m (a ∷ as_) bs ys h = inr (came_later m as_ bs (after_act a ys) h)

-- ---- links that are set up anew

asks_by : (b : Bool) (o : Option ℕ) (n : ℕ) → (if b then Some 0 else raised o) ≡ Some n → ((b ≡ true) × (n ≡ 0)) ⊎ ((k : ℕ) × ((o ≡ Some k) × (n ≡ suc k)))
asks_by true o n e = inl (refl, sym (same_Some 0 n e))
asks_by false None n e = absurd (none-some n e)
asks_by false (Some k) n e = inr (k, (refl, sym (same_Some (suc k) n e)))

pub relink_asks : (ls : List SwitchLine) (n : ℕ) → to_relink ls ≡ Some n → asks (slice_get (layers_of ls) n) ≡ true
relink_asks [] n e = absurd (none-some n e)
relink_asks (l ∷ ls) n e = by_first (asks_by l.end.layer.relink (to_relink ls) n e) (λ k t. relink_asks ls k t)
  where
    by_first : ((l.end.layer.relink ≡ true) × (n ≡ 0)) ⊎ ((k : ℕ) × ((to_relink ls ≡ Some k) × (n ≡ suc k))) → ((k : ℕ) → to_relink ls ≡ Some k → asks (slice_get (layers_of ls) k) ≡ true)
        → asks (slice_get (layers_of (l ∷ ls)) n) ≡ true
    by_first (inl h) more = ap (λ (k : ℕ). asks (slice_get (layers_of (l ∷ ls)) k)) h.1 ∙ h.0
    by_first (inr h) more = ap (λ (k : ℕ). asks (slice_get (layers_of (l ∷ ls)) k)) h.1.1 ∙ more h.0 h.1.0

none_by : (b : Bool) (o : Option ℕ) → (if b then Some 0 else raised o) ≡ None → (b ≡ false) × (o ≡ None)
none_by true o e = absurd (none-some 0 (sym e))
none_by false None e = (refl, refl)
none_by false (Some k) e = absurd (none-some (suc k) (sym e))

pub none_asks : (ls : List SwitchLine) (n : ℕ) → to_relink ls ≡ None → asks (slice_get (layers_of ls) n) ≡ false
none_asks [] n e = refl
none_asks (l ∷ ls) zero e = (none_by l.end.layer.relink (to_relink ls) e).0
none_asks (l ∷ ls) (suc n) e = none_asks ls n (none_by l.end.layer.relink (to_relink ls) e).1

abbrev Due : ℕ → (most : ℕ) → RouteMap → List SwitchLine → Type 0
Due m most routes ls =
    (asks (slice_get (layers_of ls) m) ≡ true) ⊎ CameToOwe m (acts_of_all (all_relinked_steps most routes ls) ls) (layers_of ls)

came_relinks : (most : ℕ) (o : Option ℕ) (routes : RouteMap) (ls : List SwitchLine) (w : World) (m : ℕ) → to_relink ls ≡ o → IsSwitch ls w → is_one_of (relinks_of most o routes ls) m ≡ true → Due m most routes ls
came_relinks zero o routes ls w m t i e = absurd (true≢false (sym e))
came_relinks (suc most) None routes ls w m t i e = absurd (true≢false (sym e))
came_relinks (suc most) (Some k) routes ls w m t i e =
    by_line (decided (k == m)) (λ f. came_relinks most (to_relink ms) routes ms c.world m refl c.right (ap (λ (b : Bool). b || is_one_of (relinks_of most (to_relink ms) routes ms) m) (sym f) ∙ e))
  where
    ms : List SwitchLine
    ms = acted routes k relinked ls

    c : Becomes (acts_of_all (acted_steps routes k Relinks ls) ls) ls w ms
    c = acted_right routes k Relinks ls w i (λ line g. relinked_effect k line.end)

    first : List Act
    first = acts_of_all (acted_steps routes k Relinks ls) ls

    rest : List Act
    rest = acts_of_all (all_relinked_steps most routes ms) ms

    all : CameToOwe m (first ++ rest) (layers_of ls) → CameToOwe m (acts_of_all (all_relinked_steps (suc most) routes ls) ls) (layers_of ls)
    all h =
        subst (λ (x : Option ℕ). CameToOwe m (acts_of_all (relinked_steps x routes ls ++ all_relinked_steps most routes (relinked_at x routes ls)) ls) (layers_of ls)) (sym t)
        (subst (λ (acts : List Act). CameToOwe m acts (layers_of ls)) (acts_lead (acted_steps routes k Relinks ls) (all_relinked_steps most routes ms) ls ms (acted_leads routes k Relinks ls)) h)

    here : asks (slice_get (layers_of ms) m) ≡ true → (m ≡ k → ⊥) → (asks (slice_get (layers_of ls) m) ≡ true) ⊎ ((asks (slice_get (layers_of ls) m)) ≡ false) → Due m (suc most) routes ls
    here due ne (inl t) = inl t
    here due ne (inr f) =
        inr (all (came_first m first rest (layers_of ls) (acts_came m first (layers_of ls) (acted_mild routes k m Relinks ls ne) f
        (sym (ap (λ (ys : List Layer). asks (slice_get ys m)) c.reached.layers) ∙ due))))

    by_due : (m ≡ k → ⊥) → Due m most routes ms → Due m (suc most) routes ls
    by_due ne (inl due) = here due ne (decided (asks (slice_get (layers_of ls) m)))
    by_due ne (inr h) = inr (all (came_later m first rest (layers_of ls) (subst (λ (ys : List Layer). CameToOwe m rest ys) c.reached.layers h)))

    by_line : ((k == m) ≡ true) ⊎ ((k == m) ≡ false) → ((k == m) ≡ false → Due m most routes ms) → Due m (suc most) routes ls
    by_line (inl same) more = inl (ap (λ (n : ℕ). asks (slice_get (layers_of ls) n)) (sym (eqb-true k m same)) ∙ relink_asks ls k t)
    by_line (inr f) more = by_due (λ h. not_equal k m f (sym h)) (more f)

-- ---- an event of line n

pub event_came : (n m : ℕ) (what : Happening) (s : Switch) (w : World) → (m ≡ n → ⊥) → to_relink s.lines ≡ None
    → Becomes (acts_of_all (acted_steps s.routes n what (all_begun s.lines)) (all_begun s.lines)) s.lines w (acted s.routes n (does what) (all_begun s.lines))
    → is_one_of (relinked_in n (does what) s) m ≡ true → CameToOwe m (event_acts s.routes n what s.lines) (layers_of s.lines)
event_came n m what s w ne none b e = by_due (came_relinks (length ms) (to_relink ms) s.routes ms b.world m refl b.right e)
  where
    bs : List SwitchLine
    bs = all_begun s.lines

    ms : List SwitchLine
    ms = acted s.routes n (does what) bs

    first : List Act
    first = acts_of_all (acted_steps s.routes n what bs) bs

    steps : List Step
    steps = all_relinked_steps (length ms) s.routes ms

    rs : List SwitchLine
    rs = all_relinked (length ms) s.routes ms

    last : List Step
    last = rounds_steps (7 * length rs) (lines_first n s.routes ms) rs ++ Settles ∷ []

    rest : List Act
    rest = acts_of_all steps ms ++ acts_of_all last rs

    all : CameToOwe m (first ++ rest) (layers_of s.lines) → CameToOwe m (event_acts s.routes n what s.lines) (layers_of s.lines)
    all h =
        subst (λ (acts : List Act). CameToOwe m acts (layers_of s.lines))
        (ap (λ (acts : List Act). first ++ acts) (acts_lead steps last ms rs (all_relinked_leads (length ms) s.routes ms))
        ∙ acts_lead (acted_steps s.routes n what bs) (finished_steps s.routes n ms) bs ms (acted_leads s.routes n what bs)) h

    by_due : Due m (length ms) s.routes ms → CameToOwe m (event_acts s.routes n what s.lines) (layers_of s.lines)
    by_due (inl due) =
        all (came_first m first rest (layers_of s.lines) (acts_came m first (layers_of s.lines) (acted_mild s.routes n m what bs ne) (none_asks s.lines m none)
        (sym (ap (λ (ys : List Layer). asks (slice_get ys m)) b.reached.layers) ∙ due)))
    by_due (inr h) =
        all (came_later m first rest (layers_of s.lines)
        (subst (λ (ys : List Layer). CameToOwe m rest ys) b.reached.layers (came_first m (acts_of_all steps ms) (acts_of_all last rs) (layers_of ms) h)))
