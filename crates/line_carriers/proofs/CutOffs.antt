-- While one end of a line has not started, signs alone are on the way between both.
use Rattle.std.proofs.Common.{◌≡◌, ℕ, ◌≤◌, Bool, true, false, not, ◌&&◌, cond, ltb, length, List, [], ◌∷◌, ◌++◌, take, drop, Some, None, Result, Ok, Err, refl, sym, ap, ◌∙◌, subst, append_assoc, append-nil, arith, length-append}
use Rattle.std.proofs.lemmas.Bool.Decides.{nat_tests}
use Rattle.std.proofs.lemmas.List.{take-append-drop, drop-append-le, drop_at}
use Rattle.std.specs.Int.{w16, w64, to_be_bytes}
use Rattle.link_timers.specs.Timers.{lowered, is_due}
use Rattle.line_carriers.specs.declared.fault.CarrierFault.{CarrierFault}
use Rattle.line_carriers.specs.declared.fault.CarrierFault.TheVariants.{OutOfTurn, NoRoom}
use Rattle.line_carriers.specs.declared.sign.Sign.{Sign}
use Rattle.line_carriers.specs.declared.sign.Sign.TheVariants.{StillHere, Starting, Ready, Open}
use Rattle.line_carriers.specs.declared.carrier.Carrier.{Carrier}
use Rattle.line_carriers.specs.declared.carrier.Partner.{Partner}
use Rattle.line_carriers.specs.declared.carrier.Connection.{Connection}
use Rattle.line_carriers.specs.declared.carrier.Connection.TheVariants.{Away, Greeting, Met}
use Rattle.line_carriers.specs.declared.carrier.Expiry.TheVariants.{Silence, Hold}
use Rattle.line_carriers.specs.declared.carrier.Heard.TheVariants as heard
use Rattle.line_carriers.specs.declared.hello.Hello.{Hello}
use Rattle.line_carriers.specs.Wire.{sign_form, frame_form}
use Rattle.line_carriers.specs.Reading.{First, part, frame, sign, broken, first_item, answer_of, rest_after}
use Rattle.line_carriers.specs.Hello.{hello_form, hello_read, role_octet}
use Rattle.line_carriers.specs.Carrier.{Told, told, Started, Elapsed, cut, first_sign, is_connection, stands, says_open, is_open, takes_frame, has_sign_room, with_sign, with_octets, with_start, after_start, met_after, after_sign, with_item, read_by, closed_by, after_beat, after_ticks}
use Rattle.line_carriers.specs.Laws.{Entry, a_frame, a_sign, forms, IsHello}
use Rattle.line_carriers.specs.Opening.{Act, adds, reads, writes, comes, starts, passes, after_act, handed_by, signs_form, HasNoOpen}
use Rattle.line_carriers.specs.CutOff.{Pair, met, after_own, Deed, at_starter, at_partner, brings_out, brings_back, after_deed, after_deeds, unread, IsCutOff, CutOffLaw}
use Rattle.line_carriers.proofs.Streams.{AreEntries, IsRight, first_right}
use Rattle.line_carriers.proofs.Openings.{signs_form-append, no_open-append, Moves, reads-by, starts-moves, passes-moves, adds-moves, and_right_false, first_is_quiet}

-- ---- what an act leaves of what came

-- an act that reads nothing leaves what came, and the connection
abbrev pub Still : (before after : Carrier) → Type 0
Still c d = stands d ≡ true → (d.input ≡ c.input) × (d.connection ≡ c.connection)

still : (c d : Carrier) → d.input ≡ c.input → d.connection ≡ c.connection → Still c d
still c d input connection = λ _. (input, connection)

still-cut : (c d : Carrier) → Still c (cut d)
still-cut c d standing = absurd (cc)

if-still : (c : Carrier) (b : Bool) (x y : Carrier) → Still c x → Still c y → Still c (cond b x y)
if-still c true x y one two = one
if-still c false x y one two = two

if-started : (c : Carrier) (b : Bool) (x y : Started) → Still c x.carrier → Still c y.carrier → Still c (cond b x y).carrier
if-started c true x y one two = one
if-started c false x y one two = two

if-elapsed : (c : Carrier) (b : Bool) (x y : Elapsed) → Still c x.carrier → Still c y.carrier → Still c (cond b x y).carrier
if-elapsed c true x y one two = one
if-elapsed c false x y one two = two

starts-still : (c : Carrier) → Still c (after_start c).carrier
starts-still c =
    let d = record c { started = true } in
    let opening : Started = record { carrier = with_sign d Open; answer = Ok tt } in
    let closing : Started = record { carrier = cut d; answer = Err NoRoom } in
    if-started c c.started (record { carrier = c; answer = Ok tt }) (with_start d) (still c c refl refl)
    (if-started c (not (stands d)) (record { carrier = d; answer = Ok tt }) (cond (has_sign_room d) opening closing)
    (still c d refl refl)
    (if-started c (has_sign_room d) opening closing (still c (with_sign d Open) refl refl) (still-cut c d)))

passes-still : (c : Carrier) (ticks : ℕ) → Still c (after_ticks c ticks).carrier
passes-still c ticks =
    let d = record c { left = lowered ticks c.left; absence = lowered ticks c.absence; pulse = lowered ticks c.pulse } in
    let given_up : Elapsed = record { carrier = record d { absence = None }; expiry = Some Hold } in
    let beaten : Elapsed = record { carrier = cond (is_due d.pulse) (after_beat d) d; expiry = None } in
    if-elapsed c (is_due d.left) (record { carrier = cut d; expiry = Some Silence }) (cond (is_due d.absence) given_up beaten)
    (still-cut c d)
    (if-elapsed c (is_due d.absence) given_up beaten (still c (record d { absence = None }) refl refl)
    (if-still c (is_due d.pulse) (after_beat d) d (still c (after_beat d) refl refl) (still c d refl refl)))

adds-still : (c : Carrier) (octets : List ℕ) → Still c (after_act c (adds octets))
adds-still c octets =
    if-still c (takes_frame c octets) (record c { output = c.output ++ frame_form octets }) c
    (still c (record c { output = c.output ++ frame_form octets }) refl refl) (still c c refl refl)

-- ---- what is read of signs

-- what is left to be read before the octets of the tail, and whether the other end has opened
pub record Left (hello : Hello) (tail : List ℕ) (signs : List Sign) (before after : Carrier) : Type 0 where
  pub left : List Sign
  pub same : after.input ++ tail ≡ unread after.connection hello ++ signs_form left
  pub quiet : HasNoOpen signs → HasNoOpen left
  pub opened : HasNoOpen signs → says_open before.connection ≡ false → says_open after.connection ≡ false

module _ (hello : Hello) (is_hello : IsHello hello) (tail : List ℕ) (signs : List Sign) (c : Carrier)
    (same : c.input ++ tail ≡ unread c.connection hello ++ signs_form signs) where
  left-still : (d : Carrier) → d.input ≡ c.input → d.connection ≡ c.connection → Left hello tail signs c d
  left-still d input connection = record {
    left = signs;
    same = ap (λ t. t ++ tail) input ∙ same ∙ ap (λ k. unread k hello ++ signs_form signs) (sym connection);
    quiet = λ q. q;
    opened = λ _ o. ap says_open connection ∙ o;
  }

  hello_size : length (hello_form hello) ≡ 48
  hello_size =
      omega (
        arith,
        is_hello.network,
        length-append hello.network (to_be_bytes w16 hello.line ++ role_octet hello.role ∷ to_be_bytes w64 hello.start),
      )

  abbrev Leaves : Told → Type 0
  Leaves t = stands (closed_by t.answer t.carrier) ≡ true → Left hello tail signs c (closed_by t.answer t.carrier)

  if-leaves : (b : Bool) (x y : Told) → (b ≡ true → Leaves x) → (b ≡ false → Leaves y) → Leaves (cond b x y)
  if-leaves true x y one two = one refl
  if-leaves false x y one two = two refl

  leaves-cut : (d : Carrier) (fault : CarrierFault) → Leaves (told d (Err fault))
  leaves-cut d fault standing = absurd (cc)

  met-leaves : (r : Result ℕ CarrierFault) → Greeting ≡ c.connection → 48 ≤ length c.input
      → Leaves (met_after (record c { input = drop 48 c.input }) r)
  met-leaves (Err fault) is enough = leaves-cut (record c { input = drop 48 c.input }) fault
  met-leaves (Ok start) is enough = λ standing. record {
    left = signs;
    same =
        sym (drop-append-le 48 c.input tail enough)
        ∙ ap (drop 48) (same ∙ ap (λ k. unread k hello ++ signs_form signs) (sym is))
        ∙ drop_at (hello_form hello) (signs_form signs) 48 hello_size;
    quiet = λ q. q;
    opened = λ _ _. refl;
  }

  -- a sign was read, and these are left
  sign-leaves : (partner : Partner) (it : Sign) (rest : List ℕ) (others : List Sign) → Met partner ≡ c.connection
      → rest ++ tail ≡ signs_form others → signs ≡ it ∷ others → Leaves (after_sign (record c { input = rest }) partner it)
  sign-leaves partner it rest others is same' signs_are = by_sign it signs_are
    where
      met_unread : [] ≡ unread c.connection hello
      met_unread = ap (λ k. unread k hello) is

      kept : (d : Carrier) (it : Sign) → signs ≡ it ∷ others → d.input ≡ rest → d.connection ≡ c.connection → Left hello tail signs c d
      kept d it signs_are input connection = record {
        left = others;
        same =
            ap (λ t. t ++ tail) input ∙ same' ∙ ap (λ t. t ++ signs_form others) (met_unread ∙ ap (λ k. unread k hello) (sym connection));
        quiet = λ q. (subst HasNoOpen signs_are q).1;
        opened = λ _ o. ap says_open connection ∙ o;
      }

      by_sign : (it : Sign) → signs ≡ it ∷ others → Leaves (after_sign (record c { input = rest }) partner it)
      by_sign StillHere signs_are = λ _. kept (record c { input = rest }) StillHere signs_are refl refl
      by_sign Starting signs_are =
          let d = record c { input = rest } in
          if-leaves partner.opened (told d (Err OutOfTurn))
          (cond (has_sign_room d) (told (with_sign d Ready) (Ok (heard.Sign Starting))) (told d (Err NoRoom)))
          (λ _. leaves-cut d OutOfTurn)
          (λ _. if-leaves (has_sign_room d) (told (with_sign d Ready) (Ok (heard.Sign Starting))) (told d (Err NoRoom))
          (λ _ _. kept (with_sign d Ready) Starting signs_are refl refl) (λ _. leaves-cut d NoRoom))
      by_sign Ready signs_are = λ _. record {
        left = others;
        same = same';
        quiet = λ q. (subst HasNoOpen signs_are q).1;
        opened = λ _ o. ap says_open is ∙ o;
      }
      by_sign Open signs_are = λ _. record {
        left = others;
        same = same';
        quiet = λ q. (subst HasNoOpen signs_are q).1;
        opened = λ q _. absurd ((subst HasNoOpen signs_are q).0 refl);
      }

-- signs are entries
abbrev pub entries_of : List Sign → List Entry
entries_of [] = []
entries_of (it ∷ signs) = a_sign it ∷ entries_of signs

entries_form : (signs : List Sign) → forms (entries_of signs) ≡ signs_form signs
entries_form [] = refl
entries_form (it ∷ signs) = ap (λ t. sign_form it ++ t) (entries_form signs)

are_entries : (signs : List Sign) → AreEntries (entries_of signs)
are_entries [] = tt
are_entries (it ∷ signs) = (refl, are_entries signs)

no_frame : (signs : List Sign) (octets : List ℕ) (more : List Entry) → entries_of signs ≡ a_frame octets ∷ more → ⊥
no_frame [] octets more is = cc
no_frame (it ∷ signs) octets more is = cc

-- the signs of which the first one is read
pub record IsFirst (it : Sign) (more : List Entry) (signs : List Sign) : Type 0 where
  pub others : List Sign
  pub signs_are : signs ≡ it ∷ others
  pub more_are : more ≡ entries_of others

first_of : (signs : List Sign) (it : Sign) (more : List Entry) → entries_of signs ≡ a_sign it ∷ more → IsFirst it more signs
first_of [] it more is = absurd (cc)
first_of (x ∷ signs) it more is =
    let same' : a_sign x ∷ entries_of signs ≡ a_sign it ∷ more = is in
    let x_is : x ≡ it = cc in
    let more_is : more ≡ entries_of signs = cc in
    record { others = signs; signs_are = ap (λ s. s ∷ signs) x_is; more_are = more_is }

item-leaves : (hello : Hello) (is_hello : IsHello hello) (tail : List ℕ) (signs : List Sign) (c : Carrier)
    (same : c.input ++ tail ≡ unread c.connection hello ++ signs_form signs) (partner : Partner) → Met partner ≡ c.connection
    → (first : First) → IsRight first tail (entries_of signs)
    → Leaves hello is_hello tail signs c same (with_item (record c { input = rest_after c.input first }) partner (answer_of first))
item-leaves hello is_hello tail signs c same partner is part right = λ _. left-still hello is_hello tail signs c same c refl refl
item-leaves hello is_hello tail signs c same partner is (frame octets rest) right = absurd (no_frame signs octets right.0 right.1)
item-leaves hello is_hello tail signs c same partner is (broken fault) right = absurd right
item-leaves hello is_hello tail signs c same partner is (sign it rest) right =
    let first : IsFirst it right.0 signs = first_of signs it right.0 right.1 in
    sign-leaves hello is_hello tail signs c same partner it rest first.others is
    (right.2 ∙ ap forms first.more_are ∙ entries_form first.others) first.signs_are

reads-leave : (hello : Hello) (is_hello : IsHello hello) (tail : List ℕ) (signs : List Sign) (c : Carrier)
    (same : c.input ++ tail ≡ unread c.connection hello ++ signs_form signs) (k : Connection) → k ≡ c.connection
    → stands (closed_by (read_by k c []).answer (read_by k c []).carrier) ≡ true
    → Left hello tail signs c (closed_by (read_by k c []).answer (read_by k c []).carrier)
reads-leave hello is_hello tail signs c same Away is = λ _. left-still hello is_hello tail signs c same c refl refl
reads-leave hello is_hello tail signs c same Greeting is =
    if-leaves hello is_hello tail signs c same (ltb (length c.input) 48) (told c (Ok heard.Nothing))
    (met_after (record c { input = drop 48 c.input }) (hello_read c.hello (take 48 c.input)))
    (λ _ _. left-still hello is_hello tail signs c same c refl refl)
    (λ long. met-leaves hello is_hello tail signs c same (hello_read c.hello (take 48 c.input)) is (enough c.input long))
  where
    enough : (octets : List ℕ) → ltb (length octets) 48 ≡ false → 48 ≤ length octets
    enough octets long = grind (arith, nat_tests)
reads-leave hello is_hello tail signs c same (Met partner) is =
    let bare : c.input ++ tail ≡ forms (entries_of signs) =
    same ∙ ap (λ k. unread k hello ++ signs_form signs) (sym is) ∙ sym (entries_form signs) in
    item-leaves hello is_hello tail signs c same partner is (first_item c.input)
    (first_right c.input tail (entries_of signs) (are_entries signs) bare)

by-still : (hello : Hello) (is_hello : IsHello hello) (tail : List ℕ) (signs : List Sign) (c d : Carrier)
    → c.input ++ tail ≡ unread c.connection hello ++ signs_form signs → (d.input ≡ c.input) × (d.connection ≡ c.connection)
    → Left hello tail signs c d
by-still hello is_hello tail signs c d same kept = left-still hello is_hello tail signs c same d kept.0 kept.1

act-leaves : (hello : Hello) (is_hello : IsHello hello) (tail : List ℕ) (signs : List Sign) (c : Carrier) (act : Act)
    → c.input ++ tail ≡ unread c.connection hello ++ signs_form signs → stands (after_own c act) ≡ true
    → Left hello tail signs c (after_own c act)
act-leaves hello is_hello tail signs c (adds octets) same standing = by-still hello is_hello tail signs c _ same (adds-still c octets standing)
act-leaves hello is_hello tail signs c reads same standing = reads-leave hello is_hello tail signs c same c.connection refl standing
act-leaves hello is_hello tail signs c (writes count) same standing = by-still hello is_hello tail signs c _ same (refl, refl)
act-leaves hello is_hello tail signs c (comes octets) same standing = by-still hello is_hello tail signs c c same (refl, refl)
act-leaves hello is_hello tail signs c starts same standing = by-still hello is_hello tail signs c _ same (starts-still c standing)
act-leaves hello is_hello tail signs c (passes ticks) same standing = by-still hello is_hello tail signs c _ same (passes-still c ticks standing)

-- ---- what an act says

pub record Says (before after : Carrier) (handed : List ℕ) : Type 0 where
  pub said : List Sign
  pub output : handed ++ after.output ≡ before.output ++ signs_form said
  pub started : after.started ≡ false → before.started ≡ false
  pub not_open : after.started ≡ false → HasNoOpen said

by-moves : (c d : Carrier) → Moves c d → stands d ≡ true → is_open d ≡ false → Says c d []
by-moves c d moves standing closed =
    let it = moves standing closed in
    record { said = it.0; output = it.1.output; started = it.1.started; not_open = it.1.not_open }

act-says : (c : Carrier) (act : Act) → stands (after_own c act) ≡ true → is_open (after_own c act) ≡ false
    → Says c (after_own c act) (handed_by c act)
act-says c (adds octets) standing closed = by-moves c _ (adds-moves c octets) standing closed
act-says c reads standing closed = by-moves c _ (reads-by c c.connection refl) standing closed
act-says c starts standing closed = by-moves c _ (starts-moves c) standing closed
act-says c (passes ticks) standing closed = by-moves c _ (passes-moves c ticks) standing closed
act-says c (comes octets) standing closed =
    record { said = []; output = sym (append-nil c.output); started = λ s. s; not_open = λ s. tt }
act-says c (writes count) standing closed = record {
  said = [];
  output = take-append-drop count c.output ∙ sym (append-nil c.output);
  started = λ s. s;
  not_open = λ s. tt;
}

-- no act makes a connection
reads-stood : (c : Carrier) (k : Connection) → k ≡ c.connection
    → stands (closed_by (read_by k c []).answer (read_by k c []).carrier) ≡ true → stands c ≡ true
reads-stood c Away is standing = standing
reads-stood c Greeting is standing = sym (ap is_connection is)
reads-stood c (Met partner) is standing = sym (ap is_connection is)

still-stood : (c d : Carrier) → Still c d → stands d ≡ true → stands c ≡ true
still-stood c d kept standing = sym (ap is_connection (kept standing).1) ∙ standing

act-stood : (c : Carrier) (act : Act) → stands (after_own c act) ≡ true → stands c ≡ true
act-stood c (adds octets) standing = still-stood c (after_own c (adds octets)) (adds-still c octets) standing
act-stood c reads standing = reads-stood c c.connection refl standing
act-stood c (writes count) standing = standing
act-stood c (comes octets) standing = standing
act-stood c starts standing = still-stood c (after_own c starts) (starts-still c) standing
act-stood c (passes ticks) standing = still-stood c (after_own c (passes ticks)) (passes-still c ticks) standing

-- ---- octets come

came-connection : (c : Carrier) (b : Bool) (d : Carrier) → d.connection ≡ c.connection → (cond b d c).connection ≡ c.connection
came-connection c true d same = same
came-connection c false d same = refl

came-output : (c : Carrier) (b : Bool) (d : Carrier) → d.output ≡ c.output → (cond b d c).output ≡ c.output
came-output c true d same = same
came-output c false d same = refl

came-started : (c : Carrier) (b : Bool) (d : Carrier) → d.started ≡ c.started → (cond b d c).started ≡ c.started
came-started c true d same = same
came-started c false d same = refl

came-input : (c : Carrier) (b : Bool) (d : Carrier) → b ≡ true → (cond b d c).input ≡ d.input
came-input c true d is = refl
came-input c false d is = absurd (cc)

pub record Came (before : Carrier) (octets : List ℕ) (after : Carrier) : Type 0 where
  pub input : stands before ≡ true → after.input ≡ before.input ++ octets
  pub output : after.output ≡ before.output
  pub connection : after.connection ≡ before.connection
  pub started : after.started ≡ before.started

came : (c : Carrier) (octets : List ℕ) → Came c octets (with_octets c octets)
came c octets =
    let d = record c { input = c.input ++ octets; left = Some c.silence } in
    record {
      input = came-input c (stands c) d;
      output = came-output c (stands c) d refl;
      connection = came-connection c (stands c) d refl;
      started = came-started c (stands c) d refl;
    }

-- ---- both ends

-- octets that go on the wire and signs that are said make the way longer
longer : (input wire output handed output' front : List ℕ) (signs said : List Sign) → handed ++ output' ≡ output ++ signs_form said
    → input ++ (wire ++ output) ≡ front ++ signs_form signs
    → input ++ ((wire ++ handed) ++ output') ≡ front ++ signs_form (signs ++ said)
longer input wire output handed output' front signs said is same =
    ap (λ t. input ++ t)
    (append_assoc wire handed output' ∙ ap (λ t. wire ++ t) is ∙ sym (append_assoc wire output (signs_form said)))
    ∙ sym (append_assoc input (wire ++ output) (signs_form said))
    ∙ ap (λ t. t ++ signs_form said) same
    ∙ append_assoc front (signs_form signs) (signs_form said)
    ∙ ap (λ t. front ++ t) (sym (signs_form-append signs said))

-- octets that come stay on the way
along : (input wire output : List ℕ) (count : ℕ)
    → (input ++ take count wire) ++ (drop count wire ++ output) ≡ input ++ (wire ++ output)
along input wire output count =
    append_assoc input (take count wire) (drop count wire ++ output)
    ∙ ap (λ t. input ++ t)
    (sym (append_assoc (take count wire) (drop count wire) output) ∙ ap (λ t. t ++ output) (take-append-drop count wire))

pub record Good (a b : Hello) (p : Pair) : Type 0 where
  pub out_signs : List Sign
  pub out : p.partner.input ++ (p.out ++ p.starter.output) ≡ unread p.partner.connection a ++ signs_form out_signs
  pub quiet : HasNoOpen out_signs
  pub back_signs : List Sign
  pub back : p.starter.input ++ (p.back ++ p.partner.output) ≡ unread p.starter.connection b ++ signs_form back_signs
  pub not_opened : says_open p.partner.connection ≡ false

abbrev pub Holds : (a b : Hello) → Pair → Type 0
Holds a b p = p.starter.started ≡ false → stands p.starter ≡ true → stands p.partner ≡ true → Good a b p

not_started : (c : Carrier) → c.started ≡ false → is_open c ≡ false
not_started c is = ap (λ s. s && says_open c.connection) is

module _ (a b : Hello) (is_a : IsHello a) (is_b : IsHello b) (p : Pair) (so_far : Holds a b p) where
  starter-acts : (act : Act) → Holds a b (after_deed p (at_starter act))
  starter-acts act started standing partner_stands =
      let says : Says p.starter (after_own p.starter act) (handed_by p.starter act) =
      act-says p.starter act standing (not_started (after_own p.starter act) started) in
      let good : Good a b p = so_far (says.started started) (act-stood p.starter act standing) partner_stands in
      let left : Left b (p.back ++ p.partner.output) good.back_signs p.starter (after_own p.starter act) =
      act-leaves b is_b (p.back ++ p.partner.output) good.back_signs p.starter act good.back standing in
      record {
        out_signs = good.out_signs ++ says.said;
        out = longer p.partner.input p.out p.starter.output (handed_by p.starter act) (after_own p.starter act).output
            (unread p.partner.connection a) good.out_signs says.said says.output good.out;
        quiet = no_open-append good.out_signs says.said good.quiet (says.not_open started);
        back_signs = left.left;
        back = left.same;
        not_opened = good.not_opened;
      }

  partner-acts : (act : Act) → Holds a b (after_deed p (at_partner act))
  partner-acts act started starter_stands standing =
      let good : Good a b p = so_far started starter_stands (act-stood p.partner act standing) in
      let left : Left a (p.out ++ p.starter.output) good.out_signs p.partner (after_own p.partner act) =
      act-leaves a is_a (p.out ++ p.starter.output) good.out_signs p.partner act good.out standing in
      let closed : says_open (after_own p.partner act).connection ≡ false = left.opened good.quiet good.not_opened in
      let says : Says p.partner (after_own p.partner act) (handed_by p.partner act) =
      act-says p.partner act standing (and_right_false (after_own p.partner act).started _ closed) in
      record {
        out_signs = left.left;
        out = left.same;
        quiet = left.quiet good.quiet;
        back_signs = good.back_signs ++ says.said;
        back = longer p.starter.input p.back p.partner.output (handed_by p.partner act) (after_own p.partner act).output
            (unread p.starter.connection b) good.back_signs says.said says.output good.back;
        not_opened = closed;
      }

  out-comes : (count : ℕ) → Holds a b (after_deed p (brings_out count))
  out-comes count started starter_stands standing =
      let c = came p.partner (take count p.out) in
      let stood : stands p.partner ≡ true = sym (ap is_connection c.connection) ∙ standing in
      let good : Good a b p = so_far started starter_stands stood in
      record {
        out_signs = good.out_signs;
        out = ap (λ t. t ++ (drop count p.out ++ p.starter.output)) (c.input stood)
            ∙ along p.partner.input p.out p.starter.output count ∙ good.out
            ∙ ap (λ k. unread k a ++ signs_form good.out_signs) (sym c.connection);
        quiet = good.quiet;
        back_signs = good.back_signs;
        back = ap (λ t. p.starter.input ++ (p.back ++ t)) c.output ∙ good.back;
        not_opened = ap says_open c.connection ∙ good.not_opened;
      }

  back-comes : (count : ℕ) → Holds a b (after_deed p (brings_back count))
  back-comes count started standing partner_stands =
      let c = came p.starter (take count p.back) in
      let stood : stands p.starter ≡ true = sym (ap is_connection c.connection) ∙ standing in
      let good : Good a b p = so_far (sym c.started ∙ started) stood partner_stands in
      record {
        out_signs = good.out_signs;
        out = ap (λ t. p.partner.input ++ (p.out ++ t)) c.output ∙ good.out;
        quiet = good.quiet;
        back_signs = good.back_signs;
        back = ap (λ t. t ++ (drop count p.back ++ p.partner.output)) (c.input stood)
            ∙ along p.starter.input p.back p.partner.output count ∙ good.back
            ∙ ap (λ k. unread k b ++ signs_form good.back_signs) (sym c.connection);
        not_opened = good.not_opened;
      }

  deed-holds : (deed : Deed) → Holds a b (after_deed p deed)
  deed-holds (at_starter act) = starter-acts act
  deed-holds (at_partner act) = partner-acts act
  deed-holds (brings_out count) = out-comes count
  deed-holds (brings_back count) = back-comes count

deeds-hold : (a b : Hello) → IsHello a → IsHello b → (p : Pair) (deeds : List Deed) → Holds a b p → Holds a b (after_deeds p deeds)
deeds-hold a b is_a is_b p [] so_far = so_far
deeds-hold a b is_a is_b p (deed ∷ deeds) so_far =
    deeds-hold a b is_a is_b (after_deed p deed) deeds (deed-holds a b is_a is_b p so_far deed)

begins : (a b : Carrier) → Holds a.hello b.hello (met a b)
begins a b started standing partner_stands = record {
  out_signs = first_sign a ∷ [];
  out = refl;
  quiet = first_is_quiet a.started started;
  back_signs = first_sign b ∷ [];
  back = refl;
  not_opened = refl;
}

is_cut_off : (a b : Hello) (p : Pair) → Good a b p → IsCutOff a b p
is_cut_off a b p good = record {
  out_signs = good.out_signs;
  out = good.out;
  back_signs = good.back_signs;
  back = good.back;
  closed = and_right_false p.partner.started (says_open p.partner.connection) good.not_opened;
}

pub cut_off_law : CutOffLaw
cut_off_law a b deeds is_a is_b started standing partner_stands =
    is_cut_off a.hello b.hello (after_deeds (met a b) deeds)
    (deeds-hold a.hello b.hello is_a is_b (met a b) deeds (begins a b) started standing partner_stands)
