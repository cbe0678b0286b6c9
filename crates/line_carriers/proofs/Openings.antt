-- Before a line is open, an end hands over its hello and signs alone.
use Rattle.std.proofs.Common.{◌≡◌, ◌≢◌, ℕ, Bool, true, false, not, ◌&&◌, cond, eqb, ltb, length, List, [], ◌∷◌, ◌++◌, take, drop, Option, Some, None, Result, Ok, Err, refl, sym, ap, ◌∙◌, append_assoc, append-nil}
use Rattle.std.proofs.lemmas.List.{take-append-drop}
use Rattle.link_timers.specs.Timers.{lowered, is_due}
use Rattle.line_carriers.specs.declared.fault.CarrierFault.{CarrierFault}
use Rattle.line_carriers.specs.declared.fault.CarrierFault.TheVariants.{OutOfTurn, NoRoom}
use Rattle.line_carriers.specs.declared.sign.Sign.{Sign}
use Rattle.line_carriers.specs.declared.sign.Sign.TheVariants.{StillHere, Starting, Ready, Open}
use Rattle.line_carriers.specs.declared.wire.Item.{Item}
use Rattle.line_carriers.specs.declared.wire.Item.TheVariants as item
use Rattle.line_carriers.specs.declared.carrier.Carrier.{Carrier}
use Rattle.line_carriers.specs.declared.carrier.Partner.{Partner}
use Rattle.line_carriers.specs.declared.carrier.Connection.{Connection}
use Rattle.line_carriers.specs.declared.carrier.Connection.TheVariants.{Away, Greeting, Met}
use Rattle.line_carriers.specs.declared.carrier.Expiry.TheVariants.{Silence, Hold}
use Rattle.line_carriers.specs.declared.carrier.Heard.TheVariants as heard
use Rattle.line_carriers.specs.Wire.{sign_form, frame_form, is_frame}
use Rattle.line_carriers.specs.Reading.{first_item, answer_of, rest_after}
use Rattle.line_carriers.specs.Hello.{hello_form, hello_read}
use Rattle.line_carriers.specs.Carrier.{Told, told, Started, Elapsed, cut, first_sign, is_connection, stands, says_open, is_open, takes_frame, has_sign_room, with_sign, with_start, after_start, met_after, after_sign, with_item, read_by, closed_by, after_beat, after_ticks}
use Rattle.line_carriers.specs.Opening.{Handed, begun, Act, adds, reads, writes, comes, starts, passes, after_act, handed_by, after_acts, signs_form, HasNoOpen, IsQuiet, OpenLaw}

pub signs_form-append : (xs ys : List Sign) → signs_form (xs ++ ys) ≡ signs_form xs ++ signs_form ys
signs_form-append [] ys = refl
signs_form-append (x ∷ xs) ys =
    ap (λ t. sign_form x ++ t) (signs_form-append xs ys) ∙ sym (append_assoc (sign_form x) (signs_form xs) (signs_form ys))

pub no_open-append : (xs ys : List Sign) → HasNoOpen xs → HasNoOpen ys → HasNoOpen (xs ++ ys)
no_open-append [] ys first second = second
no_open-append (x ∷ xs) ys first second = (first.0, no_open-append xs ys first.1 second)

-- ---- what one act keeps

-- an end that is not open now was not open before, and said these signs
pub record Keeps (before after : Carrier) (said : List Sign) : Type 0 where
  pub output : after.output ≡ before.output ++ signs_form said
  pub standing : stands before ≡ true
  pub closed : is_open before ≡ false
  pub started : after.started ≡ false → before.started ≡ false
  pub not_open : after.started ≡ false → HasNoOpen said

abbrev pub Moves : (before after : Carrier) → Type 0
Moves before after = stands after ≡ true → is_open after ≡ false → (said : List Sign) × Keeps before after said

-- nothing of what matters changed
unchanged : (c d : Carrier) → d.output ≡ c.output → d.connection ≡ c.connection → d.started ≡ c.started → Moves c d
unchanged c d output connection started standing closed = (
  [],
  record {
    output = output ∙ sym (append-nil c.output);
    standing = sym (ap is_connection connection) ∙ standing;
    closed = (λ i. sym started i && says_open (sym connection i)) ∙ closed;
    started = λ s. sym started ∙ s;
    not_open = λ s. tt;
  },
)

-- one sign was said
said : (c d : Carrier) (it : Sign) → d.output ≡ c.output ++ sign_form it → d.connection ≡ c.connection → d.started ≡ c.started
    → it ≢ Open → Moves c d
said c d it output connection started other standing closed = (
  it ∷ [],
  record {
    output = output;
    standing = sym (ap is_connection connection) ∙ standing;
    closed = (λ i. sym started i && says_open (sym connection i)) ∙ closed;
    started = λ s. sym started ∙ s;
    not_open = λ s. (other, tt);
  },
)

-- the connection was closed
was_cut : (c d : Carrier) → Moves c (cut d)
was_cut c d standing closed = absurd (cc)

if-moves : (c : Carrier) (b : Bool) (x y : Carrier) → (b ≡ true → Moves c x) → (b ≡ false → Moves c y) → Moves c (cond b x y)
if-moves c true x y one two = one refl
if-moves c false x y one two = two refl

-- ---- reading

abbrev pub Tells : Carrier → Told → Type 0
Tells c t = Moves c (closed_by t.answer t.carrier)

if-tells : (c : Carrier) (b : Bool) (x y : Told) → Tells c x → Tells c y → Tells c (cond b x y)
if-tells c true x y one two = one
if-tells c false x y one two = two

and_false : (b : Bool) → (b && false) ≡ false
and_false true = refl
and_false false = refl

and_closed : (a b : Bool) → (a && true) ≡ false → (a && b) ≡ false
and_closed true b is = absurd (cc)
and_closed false b is = refl

pub and_right_false : (a b : Bool) → b ≡ false → (a && b) ≡ false
and_right_false a b is = ap (λ x. a && x) is ∙ and_false a

met-tells : (c : Carrier) (rest : List ℕ) (r : Result ℕ CarrierFault) → Greeting ≡ c.connection
    → Tells c (met_after (record c { input = rest }) r)
met-tells c rest (Err fault) is = was_cut c (record c { input = rest })
met-tells c rest (Ok start) is = λ standing closed. (
  [],
  record {
    output = sym (append-nil c.output);
    standing = sym (ap is_connection is);
    closed = ap (λ k. c.started && says_open k) (sym is) ∙ and_false c.started;
    started = λ s. s;
    not_open = λ s. tt;
  },
)

sign-tells : (c : Carrier) (rest : List ℕ) (partner : Partner) (it : Sign) → Met partner ≡ c.connection
    → Tells c (after_sign (record c { input = rest }) partner it)
sign-tells c rest partner StillHere is = unchanged c (record c { input = rest }) refl refl refl
sign-tells c rest partner Starting is =
    let d = record c { input = rest } in
    if-tells c partner.opened (told d (Err OutOfTurn))
    (cond (has_sign_room d) (told (with_sign d Ready) (Ok (heard.Sign Starting))) (told d (Err NoRoom)))
    (was_cut c d)
    (if-tells c (has_sign_room d) (told (with_sign d Ready) (Ok (heard.Sign Starting))) (told d (Err NoRoom))
    (said c (with_sign d Ready) Ready refl refl refl (λ e. cc)) (was_cut c d))
sign-tells c rest partner Ready is = λ standing closed. (
  [],
  record {
    output = sym (append-nil c.output);
    standing = sym (ap is_connection is);
    closed = ap (λ k. c.started && says_open k) (sym is) ∙ closed;
    started = λ s. s;
    not_open = λ s. tt;
  },
)
sign-tells c rest partner Open is = λ standing closed. (
  [],
  record {
    output = sym (append-nil c.output);
    standing = sym (ap is_connection is);
    closed = and_closed c.started (says_open c.connection) closed;
    started = λ s. s;
    not_open = λ s. tt;
  },
)

item-tells : (c : Carrier) (rest : List ℕ) (partner : Partner) (r : Result (Option Item) CarrierFault) → Met partner ≡ c.connection
    → Tells c (with_item (record c { input = rest }) partner r)
item-tells c rest partner (Ok None) is = unchanged c (record c { input = rest }) refl refl refl
item-tells c rest partner (Ok (Some (item.Sign it))) is = sign-tells c rest partner it is
item-tells c rest partner (Ok (Some item.Frame)) is = unchanged c (record c { input = rest }) refl refl refl
item-tells c rest partner (Err fault) is = was_cut c (record c { input = rest })

pub reads-by : (c : Carrier) (k : Connection) → k ≡ c.connection → Moves c (closed_by (read_by k c []).answer (read_by k c []).carrier)
reads-by c Away is = unchanged c c refl refl refl
reads-by c Greeting is =
    if-tells c (ltb (length c.input) 48) (told c (Ok heard.Nothing))
    (met_after (record c { input = drop 48 c.input }) (hello_read c.hello (take 48 c.input)))
    (unchanged c c refl refl refl) (met-tells c (drop 48 c.input) (hello_read c.hello (take 48 c.input)) is)
reads-by c (Met partner) is =
    item-tells c (rest_after c.input (first_item c.input)) partner (answer_of (first_item c.input)) is

-- ---- starting

abbrev pub Starts : Carrier → Started → Type 0
Starts c s = Moves c s.carrier

if-starts : (c : Carrier) (b : Bool) (x y : Started) → Starts c x → Starts c y → Starts c (cond b x y)
if-starts c true x y one two = one
if-starts c false x y one two = two

pub starts-moves : (c : Carrier) → Moves c (after_start c).carrier
starts-moves c =
    let d = record c { started = true } in
    let opening : Started = record { carrier = with_sign d Open; answer = Ok tt } in
    let closing : Started = record { carrier = cut d; answer = Err NoRoom } in
    let away : Started = record { carrier = d; answer = Ok tt } in
    if-starts c c.started (record { carrier = c; answer = Ok tt }) (with_start d) (unchanged c c refl refl refl)
    (if-starts c (not (stands d)) away (cond (has_sign_room d) opening closing)
    (λ standing closed. (
      [],
      record {
        output = sym (append-nil c.output);
        standing = standing;
        closed = and_right_false c.started (says_open c.connection) closed;
        started = λ s. absurd (cc);
        not_open = λ s. tt;
      },
    ))
    (if-starts c (has_sign_room d) opening closing
    (λ standing closed. (
      Open ∷ [],
      record {
        output = refl;
        standing = standing;
        closed = and_right_false c.started (says_open c.connection) closed;
        started = λ s. absurd (cc);
        not_open = λ s. absurd (cc);
      },
    ))
    (was_cut c d)))

-- ---- time

abbrev pub Passes : Carrier → Elapsed → Type 0
Passes c e = Moves c e.carrier

if-passes : (c : Carrier) (b : Bool) (x y : Elapsed) → Passes c x → Passes c y → Passes c (cond b x y)
if-passes c true x y one two = one
if-passes c false x y one two = two

beat-moves : (c d : Carrier) (b : Bool) (pulse : Option ℕ) → d.output ≡ c.output → d.connection ≡ c.connection → d.started ≡ c.started
    → Moves c (record d { pulse = pulse; output = cond b (d.output ++ sign_form StillHere) d.output })
beat-moves c d true pulse output connection started =
    said c (record d { pulse = pulse; output = d.output ++ sign_form StillHere }) StillHere
    (ap (λ o. o ++ sign_form StillHere) output) connection started (λ e. cc)
beat-moves c d false pulse output connection started = unchanged c (record d { pulse = pulse }) output connection started

pub passes-moves : (c : Carrier) (ticks : ℕ) → Moves c (after_ticks c ticks).carrier
passes-moves c ticks =
    let d = record c { left = lowered ticks c.left; absence = lowered ticks c.absence; pulse = lowered ticks c.pulse } in
    let given_up : Elapsed = record { carrier = record d { absence = None }; expiry = Some Hold } in
    let beaten : Elapsed = record { carrier = cond (is_due d.pulse) (after_beat d) d; expiry = None } in
    if-passes c (is_due d.left) (record { carrier = cut d; expiry = Some Silence }) (cond (is_due d.absence) given_up beaten)
    (was_cut c d)
    (if-passes c (is_due d.absence) given_up beaten (unchanged c (record d { absence = None }) refl refl refl)
    (if-moves c (is_due d.pulse) (after_beat d) d
    (λ _. beat-moves c d (eqb (length d.output) 0) _ refl refl refl) (λ _. unchanged c d refl refl refl)))

-- ---- all acts

and_left : (a b : Bool) → (a && b) ≡ true → a ≡ true
and_left true b is = refl
and_left false b is = is

and_right : (a b : Bool) → (a && b) ≡ true → b ≡ true
and_right true b is = is
and_right false b is = absurd (cc)

pub adds-moves : (c : Carrier) (frame : List ℕ) → Moves c (after_act c (adds frame))
adds-moves c frame =
    if-moves c (takes_frame c frame) (record c { output = c.output ++ frame_form frame }) c
    (λ takes standing closed.
    let open_now : is_open c ≡ true = and_left (is_open c) _ (and_right (is_frame frame) _ takes) in
    let never : true ≡ false = sym open_now ∙ closed in
    absurd (cc))
    (λ _. unchanged c c refl refl refl)

abbrev pub Holds : Carrier → Handed → Type 0
Holds c e = stands e.carrier ≡ true → is_open e.carrier ≡ false → IsQuiet c e

moved : (c : Carrier) (e : Handed) (after : Carrier) → Holds c e → Moves e.carrier after
    → Holds c (record { carrier = after; handed = e.handed ++ [] })
moved c e after so_far moves standing closed = by_signs (moves standing closed).0 (moves standing closed).1
  where
    by_signs : (said : List Sign) → Keeps e.carrier after said → IsQuiet c (record { carrier = after; handed = e.handed ++ [] })
    by_signs said keeps =
        let quiet : IsQuiet c e = so_far keeps.standing keeps.closed in
        record {
          signs = quiet.signs ++ said;
          octets =
              ap (λ h. h ++ after.output) (append-nil e.handed)
              ∙ ap (λ o. e.handed ++ o) keeps.output
              ∙ sym (append_assoc e.handed e.carrier.output (signs_form said))
              ∙ ap (λ t. t ++ signs_form said) quiet.octets
              ∙ append_assoc (hello_form c.hello) (signs_form quiet.signs) (signs_form said)
              ∙ ap (λ t. hello_form c.hello ++ t) (sym (signs_form-append quiet.signs said));
          not_open = λ s. no_open-append quiet.signs said (quiet.not_open (keeps.started s)) (keeps.not_open s);
        }

abbrev pub next : Handed → Act → Handed
next e act = record { carrier = after_act e.carrier act; handed = e.handed ++ handed_by e.carrier act }

holds-next : (c : Carrier) (e : Handed) (act : Act) → Holds c e → Holds c (next e act)
holds-next c e (adds frame) so_far = moved c e _ so_far (adds-moves e.carrier frame)
holds-next c e reads so_far = moved c e _ so_far (reads-by e.carrier e.carrier.connection refl)
holds-next c e (comes octets) so_far =
    moved c e _ so_far
    (if-moves e.carrier (stands e.carrier) (record e.carrier { input = e.carrier.input ++ octets; left = Some e.carrier.silence }) e.carrier
    (λ _. unchanged e.carrier _ refl refl refl) (λ _. unchanged e.carrier e.carrier refl refl refl))
holds-next c e starts so_far = moved c e _ so_far (starts-moves e.carrier)
holds-next c e (passes ticks) so_far = moved c e _ so_far (passes-moves e.carrier ticks)
holds-next c e (writes count) so_far = λ standing closed.
    let quiet : IsQuiet c e = so_far standing closed in
    record {
      signs = quiet.signs;
      octets =
          append_assoc e.handed (take count e.carrier.output) (drop count e.carrier.output)
          ∙ ap (λ o. e.handed ++ o) (take-append-drop count e.carrier.output) ∙ quiet.octets;
      not_open = quiet.not_open;
    }

holds-all : (c : Carrier) (e : Handed) (acts : List Act) → Holds c e → Holds c (after_acts e acts)
holds-all c e [] so_far = so_far
holds-all c e (act ∷ acts) so_far = holds-all c (next e act) acts (holds-next c e act so_far)

pub first_is_quiet : (started : Bool) → started ≡ false → HasNoOpen (cond started Open Starting ∷ [])
first_is_quiet true is = absurd (cc)
first_is_quiet false is = ((λ e. cc), tt)

pub open_law : OpenLaw
open_law c acts = holds-all c (begun c) acts (λ standing closed. record {
  signs = first_sign c ∷ [];
  octets = refl;
  not_open = first_is_quiet c.started;
})
