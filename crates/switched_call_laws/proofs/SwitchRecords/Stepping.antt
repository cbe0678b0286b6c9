-- Over each step of a switch its lines are kept, with the books that the acts of the step write.
use Rattle.std.specs.Prelude.{◌≡◌, ◌≢◌, ℕ, zero, suc, ◌⊎◌, Bool, true, false, cond, ◌==◌, if◌then◌else◌, List, [], ◌∷◌, ◌++◌, map, set, slice_get, Option, Some, None}
use Rattle.std.proofs.Common.{inl, inr, refl, sym, ap, subst, ◌∙◌, append-nil, option_map}
use Rattle.std.proofs.lemmas.Option.{none-some, same_Some}
use Rattle.std.proofs.lemmas.Bool.{eqb-true, eq-eqb}
use Rattle.link_timers.specs.declared.role.Role.{Role}
use Rattle.link_timers.specs.declared.role.Role.TheVariants.{Dte, Dce}
use Rattle.lapb.specs.Machine.{Octets}
use Rattle.data_transfer.specs.Packets.{CallParts, Note}
use Rattle.data_transfer.specs.Traffic.{may_release, releasing}
use Rattle.packet_channel.specs.Channel.{Channel, Request, Refusal, refusal, requested, unless, carried_out}
use Rattle.packet_channel.specs.Channel.Request.{Accept, Clearing, Resetting, Sending, Interrupting, Stopping, Taking, Releasing, Confirming}
use Rattle.packet_layer.specs.Layer.{Layer, channel_of, channel_given, nth_channel, with_nth, request, on_found, request_refusal, front_at, front_on, after_step}
use Rattle.packet_laws.specs.Readable.{CanBePlaced}
use Rattle.packet_end.specs.PacketEnd.{PacketEnd, begun, settled, elapsed, all_offered, asked, called, received}
use Rattle.node_laws.specs.Lines.NodeLine as acts
use Rattle.node_laws.specs.Lines.NodeLine.{Line}
use Rattle.call_records.specs.Book.{Book, all_told}
use Rattle.call_records.specs.Carried.{carried, unless_refused, placed_on}
use Rattle.call_records.specs.Writes.{Write}
use Rattle.node_laws.specs.LineRecords.Kept.{Setting, Kept, end_at}
use Rattle.node_laws.specs.LineRecords.LineRecordClauses.{requested_at, MayTell, IsSilent, Tells}
use Rattle.node_laws.proofs.LineRecords.LineLaw.{tells_kept, silent_kept, call_kept, request_kept, like_kept}
use Rattle.node_laws.proofs.LineRecords.Opening.{read_kept}
use Rattle.switch_lines.specs.Lines.{SwitchLine, changed}
use Rattle.switch_lines.specs.Switch.{with_end, quieted, without_notes}
use Rattle.switch_laws.specs.World.{Act, layers_of, after_acts}
use Rattle.switch_laws.proofs.Lists.{get_map}
use Rattle.switch_laws.proofs.Turning.{changed_none, changed_twice, layer_got, layers_changed}
use Rattle.switched_call_laws.specs.SwitchRecords.Written.{Books, books_after_all, may_release_on, request_writes}
use Rattle.switch_laws.specs.Steps.{Happening, does, Step, lines_after, lines_after_all, on_line, happening_acts, offer_acts, acts_of, acts_of_all}
use Rattle.switch_laws.specs.Steps.Happening.{Brings, RunsOut, Relinks}
use Rattle.switch_laws.specs.Steps.Step.{Asks, Places, Keeps, Happens, Offers, Begins, Settles, Elapses}
use Rattle.switched_call_laws.specs.SwitchRecords.Turned.{sight}
use Rattle.switched_call_laws.specs.SwitchRecords.Kept.{Partner, Partners, line_of_ends, line_with, KeptWith, AreKept, without_first, partners_after, partners_after_all, BeginWith, IsFit, StepsLaw}
use Rattle.switched_call_laws.proofs.SwitchRecords.Turned.{written_seen}
use Rattle.switched_call_laws.proofs.SwitchRecords.Chains.{AllOn, chain, chain_writes, layers_chain, layers_none, books_chain, books_apart, books_then, Changed, was_changed}
use Rattle.switched_call_laws.proofs.SwitchRecords.Chains.Changed.{here, apart}
use Rattle.switched_call_laws.proofs.SwitchRecords.LineEndActs.{happening_explains, happening_on, all_offer_layer, offer_writes, offers_on}
use Rattle.switch_joins.proofs.Apart.{decided}

-- ---- what happens at an end of a line, whichever it is

like_own : (s : Setting) (r : Role) (b : Book) (e f o : PacketEnd) (up down : List Octets) → f.line ≡ e.line → f.layer ≡ e.layer → Kept s b (line_of_ends r e o up down) → Kept s b (line_of_ends r f o up down)
like_own s Dte b e f o up down line layer k =
    like_kept s b (line_of_ends Dte e o up down) (line_of_ends Dte f o up down) (record {
      dte_link = ap (λ x. x.link) line;
      dce_link = refl;
      dte_layer = layer;
      dce_layer = refl;
      up = ap (λ x. down ++ x.frames) line;
      down = refl;
    }) k
like_own s Dce b e f o up down line layer k =
    like_kept s b (line_of_ends Dce e o up down) (line_of_ends Dce f o up down) (record {
      dte_link = refl;
      dce_link = ap (λ x. x.link) line;
      dte_layer = refl;
      dce_layer = layer;
      up = refl;
      down = ap (λ x. down ++ x.frames) line;
    }) k

request_own : (s : Setting) (r : Role) (b : Book) (e o : PacketEnd) (up down : List Octets) (c : ℕ) (q : Request) → Kept s b (line_of_ends r e o up down) → Kept s (requested_at r c q e b) (line_of_ends r (asked e c q) o up down)
request_own s Dte b e o up down c q k = request_kept s b (line_of_ends Dte e o up down) Dte c q k
request_own s Dce b e o up down c q k = request_kept s b (line_of_ends Dce e o up down) Dce c q k

call_own : (s : Setting) (r : Role) (b : Book) (e o : PacketEnd) (up down : List Octets) (parts : CallParts) → CanBePlaced parts → Kept s b (line_of_ends r e o up down)
    → Kept s (placed_on r (channel_given e.layer e.layer.phase) parts b) (line_of_ends r (called e parts) o up down)
call_own s Dte b e o up down parts can k = call_kept s b (line_of_ends Dte e o up down) Dte parts can k
call_own s Dce b e o up down parts can k = call_kept s b (line_of_ends Dce e o up down) Dce parts can k

read_own : (s : Setting) (r : Role) (b : Book) (e o : PacketEnd) (up down : List Octets) → Kept s b (line_of_ends r e o up down) → e.layer.notes ≡ []
read_own s Dte b e o up down k = read_kept s b (line_of_ends Dte e o up down) Dte k
read_own s Dce b e o up down k = read_kept s b (line_of_ends Dce e o up down) Dce k

-- an act of which nothing is told
silent_own : (s : Setting) (r : Role) (b : Book) (act : acts.Act) (e o : PacketEnd) (up down : List Octets) → IsSilent act → Kept s b (line_of_ends r e o up down)
    → Kept s b (line_of_ends r (acts.does act up e) (acts.other_after act o) (acts.coming_after act up) (acts.going_after act e down))
silent_own s Dte b act e o up down is k = silent_kept s b (line_of_ends Dte e o up down) Dte act is k
silent_own s Dce b act e o up down is k = silent_kept s b (line_of_ends Dce e o up down) Dce act is k

-- an act of which something may be told: all that the end has to tell is what it told of the act
told_as : (s : Setting) (r : Role) (b : Book) (l m : Line) → (end_at r l).notes ≡ [] → (t : Tells s b r l m) → Kept s (all_told r (end_at r m).notes b) m
told_as s r b l m none t = subst (λ (ns : List Note). Kept s (all_told r ns b) m) (sym (t.notes ∙ ap (λ (ns : List Note). ns ++ t.given) none)) t.kept

tells_own : (s : Setting) (r : Role) (b : Book) (act : acts.Act) (e o : PacketEnd) (up down : List Octets) → MayTell act → e.notes ≡ [] → Kept s b (line_of_ends r e o up down)
    → Kept s (all_told r (acts.does act up e).notes b) (line_of_ends r (acts.does act up e) (acts.other_after act o) (acts.coming_after act up) (acts.going_after act e down))
tells_own s Dte b act e o up down may none k =
    let l : Line = line_of_ends Dte e o up down in
    told_as s Dte b l (acts.happens (acts.At Dte act) l) none (tells_kept s b l Dte act may k)
tells_own s Dce b act e o up down may none k =
    let l : Line = line_of_ends Dce e o up down in
    told_as s Dce b l (acts.happens (acts.At Dce act) l) none (tells_kept s b l Dce act may k)

-- ---- a request

set_same : {X : Type 0} (xs : List X) (i : ℕ) (x : X) → slice_get xs i ≡ Some x → set xs i x ≡ xs
set_same [] i x e = refl
set_same (y ∷ xs) zero x e = ap (λ z. z ∷ xs) (sym (same_Some y x e))
set_same (y ∷ xs) (suc i) x e = ap (λ zs. y ∷ zs) (set_same xs i x e)

nth_same : (chs : List Channel) (c : ℕ) (ch : Channel) → nth_channel chs c ≡ Some ch → with_nth chs c ch ≡ chs
nth_same chs zero ch e = refl
nth_same chs (suc i) ch e = set_same chs i ch e

-- where no more can be released, the layer stays
unreleased_by : (o : Option Refusal) (n : ℕ) (ch : Channel) → may_release n ch.traffic ≡ false → unless o (carried_out ch (Releasing n)) ch ≡ record { channel = ch; owes = None; notes = [] }
unreleased_by None n ch e = ap (λ (v : Bool). record { channel = record ch { traffic = cond v (releasing n ch.traffic) ch.traffic }; owes = None; notes = [] }) e
unreleased_by (Some r) n ch e = refl

stays : (l : Layer) (c n : ℕ) (o : Option Channel) → channel_of l c ≡ o → may_release_on o n ≡ false → request l c (Releasing n) ≡ l
stays l c n None e h = ap (λ (o : Option Channel). on_found l c (λ ch. requested l.role l.flow ch (Releasing n)) o) e
stays l c n (Some ch) e h =
    ap (λ (o : Option Channel). on_found l c (λ x. requested l.role l.flow x (Releasing n)) o) e
    ∙ (ap (λ st. after_step l c st) (unreleased_by (refusal l.role l.flow ch (Releasing n)) n ch h)
    ∙ (ap (λ (chs : List Channel). record l { channels = chs; notes = l.notes ++ [] }) (nth_same l.channels c ch e) ∙ ap (λ (ns : List Note). record l { notes = ns }) (append-nil l.notes)))

-- ends with the same link, layer and frames
same_layer : (p : Partner) (b : Book) (e f : PacketEnd) → f.line ≡ e.line → f.layer ≡ e.layer → KeptWith p b e → KeptWith p b f
same_layer p b e f line layer k = like_own p.setting p.role (sight p.role b) e f p.other p.up p.down line layer k

asked_as : (p : Partner) (b : Book) (e : PacketEnd) (c : ℕ) (q : Request) → KeptWith p b e → KeptWith p (requested_at Dce c q e b) (asked e c q)
asked_as p b e c q k =
    subst (λ (y : Book). Kept p.setting y (line_with p (asked e c q))) (written_seen p.role (Write.Asked (request_refusal e.layer c q) c q (front_on e.layer c) ∷ []) b)
    (request_own p.setting p.role (sight p.role b) e p.other p.up p.down c q k)

releases : (p : Partner) (b : Book) (e : PacketEnd) (c n : ℕ) (v : Bool) → may_release_on (channel_of e.layer c) n ≡ v → KeptWith p b e
    → KeptWith p (unless_refused (request_refusal e.layer c (Releasing n)) (cond v (carried Dce c (Releasing n) (front_at (channel_of e.layer c)) b) b) b) (asked e c (Releasing n))
releases p b e c n true h k = asked_as p b e c (Releasing n) k
releases p b e c n false h k = by_refusal (request_refusal e.layer c (Releasing n))
  where
    still : KeptWith p b (asked e c (Releasing n))
    still = same_layer p b e (asked e c (Releasing n)) refl (stays e.layer c n (channel_of e.layer c) refl h) k

    by_refusal : (o : Option Refusal) → KeptWith p (unless_refused o b b) (asked e c (Releasing n))
    by_refusal None = still
    by_refusal (Some r) = still

asks_kept : (p : Partner) (b : Book) (e : PacketEnd) (c : ℕ) (q : Request) → KeptWith p b e → KeptWith p (unless_refused (request_refusal e.layer c q) (request_writes Dce c q (channel_of e.layer c) b) b) (asked e c q)
asks_kept p b e c (Releasing n) k = releases p b e c n (may_release_on (channel_of e.layer c) n) refl k
asks_kept p b e c Accept k = asked_as p b e c Accept k
asks_kept p b e c (Clearing cause diagnostic) k = asked_as p b e c (Clearing cause diagnostic) k
asks_kept p b e c (Resetting cause diagnostic) k = asked_as p b e c (Resetting cause diagnostic) k
asks_kept p b e c (Sending d) k = asked_as p b e c (Sending d) k
asks_kept p b e c (Interrupting o) k = asked_as p b e c (Interrupting o) k
asks_kept p b e c (Stopping v) k = asked_as p b e c (Stopping v) k
asks_kept p b e c Taking k = asked_as p b e c Taking k
asks_kept p b e c Confirming k = asked_as p b e c Confirming k

-- ---- what happens at the end

told_kept : (p : Partner) (b : Book) (act : acts.Act) (e : PacketEnd) → MayTell act → e.notes ≡ [] → KeptWith p b e
    → Kept p.setting (sight p.role (all_told Dce (acts.does act p.up e).notes b)) (line_of_ends p.role (acts.does act p.up e) (acts.other_after act p.other) (acts.coming_after act p.up) (acts.going_after act e p.down))
told_kept p b act e may none k =
    subst (λ (y : Book). Kept p.setting y (line_of_ends p.role (acts.does act p.up e) (acts.other_after act p.other) (acts.coming_after act p.up) (acts.going_after act e p.down)))
    (written_seen p.role (Write.Told (acts.does act p.up e).notes ∷ []) b) (tells_own p.setting p.role (sight p.role b) act e p.other p.up p.down may none k)

-- the first frame on the way to the switch comes
frame_kept : (p : Partner) (b : Book) (later : List Octets) (octets : Octets) (e : PacketEnd) → p.up ≡ octets ∷ later → e.notes ≡ [] → KeptWith p b e → KeptWith (without_first p) (all_told Dce (received e octets).notes b) (received e octets)
frame_kept p b later octets e is none k =
    subst (λ (m : PacketEnd). KeptWith (without_first p) (all_told Dce m.notes b) m) (ap (λ (fs : List Octets). acts.does acts.Hears fs e) is) (told_kept p b acts.Hears e tt none k)

quiet_kept : (p : Partner) (b : Book) (e : PacketEnd) → KeptWith p b e → KeptWith p b (quieted e)
quiet_kept p b e k =
    let none : e.layer.notes ≡ [] = read_own p.setting p.role (sight p.role b) e p.other p.up p.down k in
    same_layer p b e (quieted e) refl (ap (λ (ns : List Note). record e.layer { notes = ns }) (sym none)) k

-- the partner when it happened
abbrev partner_when : Happening → Partner → Partner
partner_when (Brings octets) p = without_first p
partner_when what p = p

abbrev FitsWhen : Happening → Partner → Type 0
FitsWhen (Brings octets) p = BeginWith octets p.up
FitsWhen what p = Unit {0}

happens_kept : (what : Happening) (p : Partner) (b : Book) (e : PacketEnd) → FitsWhen what p → KeptWith p b e → KeptWith (partner_when what p) (all_told Dce (does what (quieted e)).notes b) (does what (quieted e))
happens_kept (Brings octets) p b e fits k = frame_kept p b fits.0 octets (quieted e) fits.1 refl (quiet_kept p b e k)
happens_kept (RunsOut id) p b e fits k = told_kept p b (acts.Expires id) (quieted e) tt refl (quiet_kept p b e k)
happens_kept Relinks p b e fits k = told_kept p b acts.Relinks (quieted e) tt refl (quiet_kept p b e k)

happening_kept : (n : ℕ) (what : Happening) (p : Partner) (b : Book) (e : PacketEnd) → FitsWhen what p → KeptWith p b e
    → KeptWith (partner_when what p) (chain_writes (Act.Reads n ∷ happening_acts n what e) e.layer b) (without_notes (does what (quieted e)))
happening_kept n what p b e fits k =
    let x = happening_explains n what e in
    let r = happens_kept what p b e fits k in
    subst (λ (y : Book). KeptWith (partner_when what p) y (without_notes (does what (quieted e)))) (sym (x.writes_ b))
    (same_layer (partner_when what p) (all_told Dce (does what (quieted e)).notes b) (does what (quieted e)) (without_notes (does what (quieted e))) refl refl r)

-- ---- one line

-- a step on line n
on_one : (n : ℕ) (f : SwitchLine → SwitchLine) (as_ : List Act) (ps ps' : Partners) (bs : Books) (ls : List SwitchLine) → AllOn n as_ → ((k : ℕ) → k ≢ n → ps' k ≡ ps k)
    → ((l : SwitchLine) → slice_get ls n ≡ Some l → KeptWith (ps n) (bs n) l.end → KeptWith (ps' n) (chain_writes as_ l.end.layer (bs n)) (f l).end)
    → AreKept ps bs ls → AreKept ps' (books_after_all as_ (layers_of ls) bs) (changed n f ls)
on_one n f as_ ps ps' bs ls on others one h k l' e = by_change (was_changed n f ls k l' e)
  where
    by_change : Changed n f ls k l' → KeptWith (ps' k) (books_after_all as_ (layers_of ls) bs k) l'.end
    by_change (here l is got to) =
        subst (λ (i : ℕ). KeptWith (ps' i) (books_after_all as_ (layers_of ls) bs i) l'.end) (sym is)
        (subst (λ (b : Book). KeptWith (ps' n) b l'.end) (sym (books_chain as_ n (layers_of ls) bs l.end.layer on (layer_got n ls l got)))
        (subst (λ (y : SwitchLine). KeptWith (ps' n) (chain_writes as_ l.end.layer (bs n)) y.end) to (one l got (h n l got))))
    by_change (apart ne got) =
        subst (λ (p : Partner). KeptWith p (books_after_all as_ (layers_of ls) bs k) l'.end) (sym (others k ne))
        (subst (λ (b : Book). KeptWith (ps k) b l'.end) (sym (books_apart as_ n k (layers_of ls) bs on ne)) (h k l' got))

-- a step that is the same on all lines
on_all : (f : PacketEnd → PacketEnd) (ps : Partners) (bs : Books) (ls : List SwitchLine) → ((p : Partner) (b : Book) (e : PacketEnd) → KeptWith p b e → KeptWith p b (f e)) → AreKept ps bs ls → AreKept ps bs (map (with_end f) ls)
on_all f ps bs ls one h k l' e = by_old (slice_get ls k) refl (sym (get_map (with_end f) ls k) ∙ e)
  where
    by_old : (o : Option SwitchLine) → slice_get ls k ≡ o → option_map (with_end f) o ≡ Some l' → KeptWith (ps k) (bs k) l'.end
    by_old None g is = absurd (none-some l' is)
    by_old (Some l) g is = subst (λ (y : SwitchLine). KeptWith (ps k) (bs k) y.end) (same_Some _ l' is) (one (ps k) (bs k) l.end (h k l g))

lines_on : (n : ℕ) (f : PacketEnd → List Act) (o : Option SwitchLine) → ((e : PacketEnd) → AllOn n (f e)) → AllOn n (on_line f o)
lines_on n f None on = tt
lines_on n f (Some l) on = on l.end

line_acts : (f : PacketEnd → List Act) (ls : List SwitchLine) (n : ℕ) (l : SwitchLine) → slice_get ls n ≡ Some l → on_line f (slice_get ls n) ≡ f l.end
line_acts f ls n l e = ap (λ (o : Option SwitchLine). on_line f o) e

same_partner : (what : Happening) (n k : ℕ) (ps : Partners) → k ≢ n → partners_after (Happens n what) ps k ≡ ps k
same_partner (Brings octets) n k ps ne = by_test (decided (k == n))
  where
    by_test : ((k == n) ≡ true) ⊎ ((k == n) ≡ false) → (if k == n then without_first (ps k) else ps k) ≡ ps k
    by_test (inl t) = absurd (ne (eqb-true k n t))
    by_test (inr f) = ap (λ (v : Bool). if v then without_first (ps k) else ps k) f
same_partner (RunsOut id) n k ps ne = refl
same_partner Relinks n k ps ne = refl

own_partner : (what : Happening) (n : ℕ) (ps : Partners) → partners_after (Happens n what) ps n ≡ partner_when what (ps n)
own_partner (Brings octets) n ps = ap (λ (v : Bool). if v then without_first (ps n) else ps n) (eq-eqb n n refl)
own_partner (RunsOut id) n ps = refl
own_partner Relinks n ps = refl

fits_when : (what : Happening) (n : ℕ) (ps : Partners) → IsFit (Happens n what) ps → FitsWhen what (ps n)
fits_when (Brings octets) n ps f = f
fits_when (RunsOut id) n ps f = tt
fits_when Relinks n ps f = tt

two_changes : (n : ℕ) (f g : SwitchLine → SwitchLine) (ls : List SwitchLine) → changed n f (changed n g ls) ≡ changed n (λ l. f (g l)) ls
two_changes n f g ls = changed_twice n f g ls

placed_kept : (p : Partner) (b : Book) (e : PacketEnd) (parts : CallParts) → CanBePlaced parts → KeptWith p b e → KeptWith p (placed_on Dce (channel_given e.layer e.layer.phase) parts b) (called e parts)
placed_kept p b e parts can k =
    subst (λ (y : Book). Kept p.setting y (line_with p (called e parts))) (written_seen p.role (Write.Placed (channel_given e.layer e.layer.phase) parts ∷ []) b)
    (call_own p.setting p.role (sight p.role b) e p.other p.up p.down parts can k)

pub silent_with : (p : Partner) (b : Book) (act : acts.Act) (e : PacketEnd) → IsSilent act → KeptWith p b e
    → Kept p.setting (sight p.role b) (line_of_ends p.role (acts.does act p.up e) (acts.other_after act p.other) (acts.coming_after act p.up) (acts.going_after act e p.down))
silent_with p b act e is k = silent_own p.setting p.role (sight p.role b) act e p.other p.up p.down is k

step_kept : (s : Step) (ps : Partners) (bs : Books) (ls : List SwitchLine) → IsFit s ps → AreKept ps bs ls → AreKept (partners_after s ps) (books_after_all (acts_of s ls) (layers_of ls) bs) (lines_after s ls)
step_kept (Asks p q) ps bs ls fits h =
    on_one p.line (λ l. record l { end = asked l.end p.channel q }) (Act.Asks p q ∷ []) ps ps bs ls (refl, tt) (λ k ne. refl) (λ l got k. asks_kept (ps p.line) (bs p.line) l.end p.channel q k) h
step_kept (Places n parts) ps bs ls fits h =
    on_one n (λ l. record l { end = called l.end parts }) (Act.Calls n parts ∷ []) ps ps bs ls (refl, tt) (λ k ne. refl)
    (λ l got k. placed_kept (ps n) (bs n) l.end parts fits k) h
step_kept (Keeps p o) ps bs ls fits h = on_one p.line _ [] ps ps bs ls tt (λ k ne. refl) (λ l got k. k) h
step_kept (Happens n what) ps bs ls fits h =
    subst (λ (ms : List SwitchLine). AreKept (partners_after (Happens n what) ps) (books_after_all (acts_of (Happens n what) ls) (layers_of ls) bs) ms)
    (sym (two_changes n (with_end without_notes) (with_end (λ e. does what (quieted e))) ls))
    (on_one n (λ l. with_end without_notes (with_end (λ e. does what (quieted e)) l)) (acts_of (Happens n what) ls) ps (partners_after (Happens n what) ps) bs ls
    (refl, lines_on n (λ e. happening_acts n what e) (slice_get ls n) (λ e. happening_on n what e)) (λ k ne. same_partner what n k ps ne)
    (λ l got k.
    subst (λ (p : Partner). KeptWith p (chain_writes (acts_of (Happens n what) ls) l.end.layer (bs n)) (without_notes (does what (quieted l.end)))) (sym (own_partner what n ps))
    (subst (λ (as_ : List Act). KeptWith (partner_when what (ps n)) (chain_writes (Act.Reads n ∷ as_) l.end.layer (bs n)) (without_notes (does what (quieted l.end)))) (sym (line_acts (λ e. happening_acts n what e) ls n l got))
    (happening_kept n what (ps n) (bs n) l.end (fits_when what n ps fits) k))) h)
step_kept (Offers n) ps bs ls fits h =
    on_one n (with_end all_offered) (acts_of (Offers n) ls) ps ps bs ls (lines_on n (λ e. offer_acts 7 n e) (slice_get ls n) (λ e. offers_on 7 n e)) (λ k ne. refl)
    (λ l got k.
    subst (λ (as_ : List Act). KeptWith (ps n) (chain_writes as_ l.end.layer (bs n)) (all_offered l.end)) (sym (line_acts (λ e. offer_acts 7 n e) ls n l got))
    (subst (λ (b : Book). KeptWith (ps n) b (all_offered l.end)) (sym (offer_writes 7 n l.end l.end.layer (bs n))) (silent_with (ps n) (bs n) acts.Offers l.end tt k))) h
step_kept Begins ps bs ls fits h = on_all begun ps bs ls (λ p b e k. silent_with p b acts.Begins e tt k) h
step_kept Settles ps bs ls fits h = on_all settled ps bs ls (λ p b e k. silent_with p b acts.Settles e tt k) h
step_kept (Elapses ticks) ps bs ls fits h = on_all (λ e. elapsed e ticks) ps bs ls (λ p b e k. silent_with p b (acts.Elapses ticks) e tt k) h

-- ---- the packet layers

-- on line n, whose layer the acts lead to its new one
layers_one : (n : ℕ) (f : SwitchLine → SwitchLine) (as_ : List Act) (ls : List SwitchLine) → AllOn n as_ → ((l : SwitchLine) → slice_get ls n ≡ Some l → chain as_ l.end.layer ≡ (f l).end.layer)
    → layers_of (changed n f ls) ≡ after_acts as_ (layers_of ls)
layers_one n f as_ ls on leads = by_line (slice_get ls n) refl
  where
    no_layer : (m : ℕ) (ks : List SwitchLine) → slice_get ks m ≡ None → slice_get (layers_of ks) m ≡ None
    no_layer m [] e = refl
    no_layer zero (k ∷ ks) e = absurd (none-some k (sym e))
    no_layer (suc m) (k ∷ ks) e = no_layer m ks e

    by_line : (o : Option SwitchLine) → slice_get ls n ≡ o → layers_of (changed n f ls) ≡ after_acts as_ (layers_of ls)
    by_line None e = ap (λ (ks : List SwitchLine). layers_of ks) (changed_none n f ls e) ∙ sym (layers_none as_ n (layers_of ls) on (no_layer n ls e))
    by_line (Some l) e =
        layers_changed n f ls l e ∙ (ap (λ (y : Layer). changed n (λ z. y) (layers_of ls)) (sym (leads l e)) ∙ sym (layers_chain as_ n (layers_of ls) l.end.layer on (layer_got n ls l e)))

layers_all : (f : PacketEnd → PacketEnd) (ls : List SwitchLine) → ((e : PacketEnd) → (f e).layer ≡ e.layer) → layers_of (map (with_end f) ls) ≡ layers_of ls
layers_all f [] e = refl
layers_all f (l ∷ ls) e = ap (λ (y : Layer). y ∷ layers_of (map (with_end f) ls)) (e l.end) ∙ ap (λ (ys : List Layer). l.end.layer ∷ ys) (layers_all f ls e)

pub step_layers : (s : Step) (ls : List SwitchLine) → layers_of (lines_after s ls) ≡ after_acts (acts_of s ls) (layers_of ls)
step_layers (Asks p q) ls = layers_one p.line (λ l. record l { end = asked l.end p.channel q }) (Act.Asks p q ∷ []) ls (refl, tt) (λ l got. refl)
step_layers (Places n parts) ls = layers_one n (λ l. record l { end = called l.end parts }) (Act.Calls n parts ∷ []) ls (refl, tt) (λ l got. refl)
step_layers (Keeps p o) ls = layers_one p.line _ [] ls tt (λ l got. refl)
step_layers (Happens n what) ls =
    ap (λ (ms : List SwitchLine). layers_of ms) (two_changes n (with_end without_notes) (with_end (λ e. does what (quieted e))) ls)
    ∙ layers_one n (λ l. with_end without_notes (with_end (λ e. does what (quieted e)) l)) (acts_of (Happens n what) ls) ls (refl, lines_on n (λ e. happening_acts n what e) (slice_get ls n) (λ e. happening_on n what e))
    (λ l got. ap (λ (as_ : List Act). chain (Act.Reads n ∷ as_) l.end.layer) (line_acts (λ e. happening_acts n what e) ls n l got) ∙ (happening_explains n what l.end).layer)
step_layers (Offers n) ls =
    layers_one n (with_end all_offered) (acts_of (Offers n) ls) ls (lines_on n (λ e. offer_acts 7 n e) (slice_get ls n) (λ e. offers_on 7 n e))
    (λ l got. ap (λ (as_ : List Act). chain as_ l.end.layer) (line_acts (λ e. offer_acts 7 n e) ls n l got) ∙ all_offer_layer n l.end)
step_layers Begins ls = layers_all begun ls (λ e. refl)
step_layers Settles ls = layers_all settled ls (λ e. refl)
step_layers (Elapses ticks) ls = layers_all (λ e. elapsed e ticks) ls (λ e. refl)

pub steps_kept : StepsLaw
steps_kept [] ps bs ls fits h = h
steps_kept (s ∷ more) ps bs ls fits h =
    subst (λ (x : Books). AreKept (partners_after_all (s ∷ more) ps) x (lines_after_all (s ∷ more) ls))
    (ap (λ (ys : List Layer). books_after_all (acts_of_all more (lines_after s ls)) ys (books_after_all (acts_of s ls) (layers_of ls) bs)) (step_layers s ls)
    ∙ sym (books_then (acts_of s ls) (acts_of_all more (lines_after s ls)) (layers_of ls) bs))
    (steps_kept more (partners_after s ps) (books_after_all (acts_of s ls) (layers_of ls) bs) (lines_after s ls) fits.1 (step_kept s ps bs ls fits.0 h))
