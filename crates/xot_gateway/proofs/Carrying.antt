-- What goes out on a connection came in on its channel.
use Rattle.std.proofs.Common.{◌≡◌, ℕ, Bool, true, false, cond, List, [], ◌∷◌, ◌++◌, take, drop, slice_get, Some, Result, Ok, Err, zero, suc, refl, sym, ap, ◌∙◌, append_assoc, append-nil, take-append-drop, get_or}
use Rattle.std.specs.Prelude.{is_none}
use Rattle.std.proofs.lemmas.List.Quantifiers.{position-Some}
use Rattle.packet_codec.specs.declared.fault.PacketFault.{PacketFault}
use Rattle.packet_codec.specs.Packet.{PacketValue, ContentValue}
use Rattle.xot_gateway.specs.declared.states.Refusal.{Refusal}
use Rattle.xot_codec.specs.Facilities.{refusal}
use Rattle.xot_codec.specs.Xot as xot
use Rattle.xot_codec.specs.Xot.{First, part, whole, first_packet, packet_form, takes_packet}
use Rattle.xot_gateway.specs.declared.line.XotLine.{XotLine}
use Rattle.xot_gateway.specs.declared.states.Phase.{Phase}
use Rattle.xot_gateway.specs.declared.states.Phase.TheVariants.{DteWaiting, DceWaiting, DataTransfer, DteClear, DceClear}
use Rattle.xot_gateway.specs.declared.states.Move.{Move}
use Rattle.xot_gateway.specs.declared.states.Move.TheVariants.{Drops, Passes, Confirms, Refuses}
use Rattle.xot_gateway.specs.declared.states.FirstMove.{FirstMove}
use Rattle.xot_gateway.specs.declared.states.FirstMove.TheVariants as first_is
use Rattle.xot_gateway.specs.declared.connection.Connection.{Connection}
use Rattle.xot_gateway.specs.declared.connection.Socket.{Socket}
use Rattle.xot_gateway.specs.declared.connection.Socket.TheVariants.{Absent, Wanted, Opening, Standing}
use Rattle.xot_gateway.specs.declared.connection.ConnectionCall.{ConnectionCall}
use Rattle.xot_gateway.specs.declared.connection.ConnectionCall.TheVariants.{NoCall, Call, Cleared, Confirmed, Ending, Broken}
use Rattle.xot_gateway.specs.declared.connection.Wish.{Wish}
use Rattle.xot_gateway.specs.declared.connection.Wish.TheVariants.{Rests, Connects, Closes}
use Rattle.xot_gateway.specs.States.{line_move, connection_move, fault_move}
use Rattle.xot_gateway.specs.Packets.{read_on, prepared, accepted_facilities, over_connection, clear_on, confirmation_on}
use Rattle.xot_gateway.specs.Connections.{told, broken, heard_by, heard_in, served_by, faulty, refused, place_in, in_call, opened_by, first_move, served_in, by_first, next_connection, is_absent, is_end, is_on, opened_from, restarted_in, wished, granted, listens, in_phase, cause_at_connection, after_call, with_rest}
use Rattle.xot_gateway.specs.Laws as laws
use Rattle.xot_gateway.specs.Laws.{Said, Deed, Fate, passed, dropped, cleared, confirmed, forms, fate_form, IsCarried, CarryLaw, ChannelLaw, IsThere, after_deed, after_deeds, heard_if, heard_of, heard_when, written_of, all_heard, all_written}

-- what more comes and goes
pub record Grows (line : XotLine) (came : List Said) (gone : List ℕ) (c next : Connection) : Type 0 where
  pub more : List Fate
  pub heard : came ≡ laws.heard_in more
  pub octets : gone ++ next.stream.output ≡ c.stream.output ++ forms line more

nothing_more : (line : XotLine) (c next : Connection) → next.stream.output ≡ c.stream.output → Grows line [] [] c next
nothing_more line c next same = record { more = []; heard = refl; octets = same ∙ sym (append-nil c.stream.output) }

-- a packet that is told goes, or there is no room for it
told_octets : (line : XotLine) (fate : Fate) (c : Connection) (b : Bool)
    → (cond b (record c { stream = record c.stream { output = c.stream.output ++ fate_form line fate } }) (broken c)).stream.output
    ≡ c.stream.output ++ forms line (cond b (fate ∷ []) [])
told_octets line fate c true = ap (λ x. c.stream.output ++ x) (sym (append-nil (fate_form line fate)))
told_octets line fate c false = sym (append-nil c.stream.output)

own_heard : (fate : Fate) (b : Bool) → laws.heard_in (fate ∷ []) ≡ [] → [] ≡ laws.heard_in (cond b (fate ∷ []) [])
own_heard fate true none = sym none
own_heard fate false none = refl

clear_told : (line : XotLine) (c old : Connection) (place cause : ℕ) → c.stream ≡ old.stream
    → Grows line [] [] old (told c (clear_on line place cause))
clear_told line c old place cause same = record {
  more = cond (takes_packet c.stream (clear_on line place cause)) (cleared place cause ∷ []) [];
  heard = own_heard (cleared place cause) (takes_packet c.stream (clear_on line place cause)) refl;
  octets =
      told_octets line (cleared place cause) c (takes_packet c.stream (clear_on line place cause))
      ∙ ap (λ s. s.output ++ forms line (cond (takes_packet c.stream (clear_on line place cause)) (cleared place cause ∷ []) [])) same;
}

confirmation_told : (line : XotLine) (c old : Connection) (place : ℕ) → c.stream ≡ old.stream
    → Grows line [] [] old (told c (confirmation_on line place))
confirmation_told line c old place same = record {
  more = cond (takes_packet c.stream (confirmation_on line place)) (confirmed place ∷ []) [];
  heard = own_heard (confirmed place) (takes_packet c.stream (confirmation_on line place)) refl;
  octets =
      told_octets line (confirmed place) c (takes_packet c.stream (confirmation_on line place))
      ∙ ap (λ s. s.output ++ forms line (cond (takes_packet c.stream (confirmation_on line place)) (confirmed place ∷ []) [])) same;
}

-- ---- a packet of the line

abbrev passed_or_dropped : Said → Bool → Fate
passed_or_dropped p true = passed p
passed_or_dropped p false = dropped p

passed_heard : (p : Said) (b : Bool) → p ∷ [] ≡ laws.heard_in (passed_or_dropped p b ∷ [])
passed_heard p true = refl
passed_heard p false = refl

passed_octets : (line : XotLine) (p : Said) (c : Connection) (b : Bool)
    → (cond b (record c { stream = record c.stream { output = c.stream.output ++ packet_form (over_connection line.flow p.content p.octets) } }) (broken c)).stream.output
    ≡ c.stream.output ++ forms line (passed_or_dropped p b ∷ [])
passed_octets line p c true = ap (λ x. c.stream.output ++ x) (sym (append-nil (packet_form (over_connection line.flow p.content p.octets))))
passed_octets line p c false = sym (append-nil c.stream.output)

with_dropped : (line : XotLine) (p : Said) (c next : Connection) → Grows line [] [] c next → Grows line (p ∷ []) [] c next
with_dropped line p c next grows = record {
  more = dropped p ∷ grows.more;
  heard = ap (λ xs. p ∷ xs) grows.heard;
  octets = grows.octets;
}

hears_by : (line : XotLine) (p : Said) (place : ℕ) (c : Connection) (move : Move)
    → Grows line (p ∷ []) [] c (heard_by line p.content p.octets place c move).connection
hears_by line p place c (Passes phase) =
    let b = takes_packet c.stream (over_connection line.flow p.content p.octets) in record {
      more = passed_or_dropped p b ∷ [];
      heard = passed_heard p b;
      octets = passed_octets line p (in_phase c place phase) b;
    }
hears_by line p place c Confirms =
    with_dropped line p c _ (confirmation_told line (after_call c Confirmed) c place refl)
hears_by line p place c Drops = with_dropped line p c c (nothing_more line c c refl)
hears_by line p place c (Refuses refusal) = with_dropped line p c c (nothing_more line c c refl)

hears_in : (line : XotLine) (p : Said) (place : ℕ) (c : Connection) (state : ConnectionCall)
    → Grows line (p ∷ []) [] c (heard_in line p.content p.octets place c state).connection
hears_in line p place c (Call own phase) = hears_by line p place c (line_move phase p.content)
hears_in line p place c NoCall = with_dropped line p c c (nothing_more line c c refl)
hears_in line p place c Cleared = with_dropped line p c c (nothing_more line c c refl)
hears_in line p place c Confirmed = with_dropped line p c c (nothing_more line c c refl)
hears_in line p place c Ending = with_dropped line p c c (nothing_more line c c refl)
hears_in line p place c Broken = with_dropped line p c c (nothing_more line c c refl)

hears_if : (line : XotLine) (p : Said) (place : ℕ) (c : Connection) (own : Bool)
    → Grows line (heard_when own p) [] c (heard_if line p place c own)
hears_if line p place c true = hears_in line p place c c.call
hears_if line p place c false = nothing_more line c c refl

-- ---- a packet of the connection

-- one that has the same to write
from_same : (line : XotLine) (c same next : Connection) → same.stream.output ≡ c.stream.output → Grows line [] [] same next
    → Grows line [] [] c next
from_same line c same next is grows = record {
  more = grows.more;
  heard = grows.heard;
  octets = grows.octets ∙ ap (λ x. x ++ forms line grows.more) is;
}

refuses : (line : XotLine) (place : ℕ) (c : Connection) (refusal : Refusal)
    → Grows line [] [] c (refused line place c refusal).connection
refuses line place c refusal = clear_told line (after_call c Cleared) c place (cause_at_connection refusal) refl

serves_by : (line : XotLine) (content : ContentValue) (octets : List ℕ) (place : ℕ) (c : Connection) (move : Move)
    → Grows line [] [] c (served_by line content octets place c move).connection
serves_by line content octets place c Drops = nothing_more line c c refl
serves_by line content octets place c (Passes phase) = nothing_more line c _ refl
serves_by line content octets place c Confirms = nothing_more line c _ refl
serves_by line content octets place c (Refuses refusal) = refuses line place c refusal

serves_faulty : (line : XotLine) (place : ℕ) (c : Connection) (move : Move) → Grows line [] [] c (faulty line place c move).connection
serves_faulty line place c Drops = nothing_more line c c refl
serves_faulty line place c (Passes phase) = nothing_more line c c refl
serves_faulty line place c Confirms = nothing_more line c c refl
serves_faulty line place c (Refuses refusal) = refuses line place c refusal

serves_call : (line : XotLine) (place : ℕ) (phase : Phase) (octets : List ℕ) (c : Connection) (read : Result PacketValue PacketFault)
    → Grows line [] [] c (in_call line place phase octets c read).connection
serves_call line place phase octets c (Ok p) =
    serves_by line p.content octets place c (connection_move phase (is_none (refusal line.flow (accepted_facilities octets))) p.content)
serves_call line place phase octets c (Err fault) = serves_faulty line place c (fault_move phase)

serves_first : (line : XotLine) (octets : List ℕ) (c : Connection) (read : Result PacketValue PacketFault) (move : FirstMove)
    → Grows line [] [] c (opened_by line octets read c move).connection
serves_first line octets c (Ok p) (first_is.Calls place) = nothing_more line c _ refl
serves_first line octets c (Err fault) (first_is.Calls place) = nothing_more line c c refl
serves_first line octets c (Ok p) (first_is.Clears cause) = clear_told line (after_call c Cleared) c 0 cause refl
serves_first line octets c (Err fault) (first_is.Clears cause) = clear_told line (after_call c Cleared) c 0 cause refl
serves_first line octets c (Ok p) first_is.Confirms = confirmation_told line (after_call c Confirmed) c 0 refl
serves_first line octets c (Err fault) first_is.Confirms = confirmation_told line (after_call c Confirmed) c 0 refl

ends_if : (line : XotLine) (c : Connection) (b : Bool) → Grows line [] [] c (cond b (after_call c Ending) c)
ends_if line c true = nothing_more line c _ refl
ends_if line c false = nothing_more line c c refl

serves_in : (line : XotLine) (free : Result ℕ ℕ) (octets : List ℕ) (c : Connection) (state : ConnectionCall)
    → Grows line [] [] c (served_in line free octets c state).connection
serves_in line free octets c NoCall =
    serves_first line octets c (read_on line octets) (first_move line.flow free octets (read_on line octets))
serves_in line free octets c (Call place phase) = serves_call line place phase octets c (read_on line octets)
serves_in line free octets c Cleared = ends_if line c (is_end (read_on line octets))
serves_in line free octets c Confirmed = nothing_more line c c refl
serves_in line free octets c Ending = nothing_more line c c refl
serves_in line free octets c Broken = nothing_more line c c refl

takes_first : (line : XotLine) (free : Result ℕ ℕ) (c : Connection) (first : First)
    → Grows line [] [] c (next_connection c (by_first line free c first))
takes_first line free c part = nothing_more line c c refl
takes_first line free c (whole packet rest) =
    from_same line c (with_rest rest c) _ refl
    (serves_in line free (prepared (place_in free c.call) packet) (with_rest rest c) (with_rest rest c).call)
takes_first line free c (xot.broken fault) = nothing_more line c _ refl

-- ---- all else

comes_if : (line : XotLine) (octets : List ℕ) (c : Connection) (b : Bool)
    → Grows line [] [] c (cond b (record c { stream = record c.stream { input = c.stream.input ++ octets } }) c)
comes_if line octets c true = nothing_more line c _ refl
comes_if line octets c false = nothing_more line c c refl

stands_from : (line : XotLine) (c : Connection) (socket : Socket) → Grows line [] [] c (opened_from socket c)
stands_from line c Absent = nothing_more line c c refl
stands_from line c Wanted = nothing_more line c c refl
stands_from line c Opening = nothing_more line c _ refl
stands_from line c Standing = nothing_more line c c refl

restarts_in : (line : XotLine) (c : Connection) (state : ConnectionCall) → Grows line [] [] c (restarted_in line c state)
restarts_in line c (Call place DteWaiting) = clear_told line (after_call c Cleared) c place _ refl
restarts_in line c (Call place DceWaiting) = clear_told line (after_call c Cleared) c place _ refl
restarts_in line c (Call place DataTransfer) = clear_told line (after_call c Cleared) c place _ refl
restarts_in line c (Call place DteClear) = confirmation_told line (after_call c Confirmed) c place refl
restarts_in line c (Call place DceClear) = nothing_more line c _ refl
restarts_in line c NoCall = nothing_more line c c refl
restarts_in line c Cleared = nothing_more line c c refl
restarts_in line c Confirmed = nothing_more line c c refl
restarts_in line c Ending = nothing_more line c c refl
restarts_in line c Broken = nothing_more line c c refl

grants : (line : XotLine) (c : Connection) (wish : Wish) → is_absent (granted wish c).socket ≡ false
    → Grows line [] [] c (granted wish c)
grants line c Rests there = nothing_more line c c refl
grants line c Connects there = nothing_more line c _ refl
grants line c Closes there = absurd (cc)

writes_some : (line : XotLine) (c : Connection) (count : ℕ)
    → Grows line [] (take count c.stream.output) c (record c { stream = record c.stream { output = drop count c.stream.output } })
writes_some line c count = record {
  more = [];
  heard = refl;
  octets = take-append-drop count c.stream.output ∙ sym (append-nil c.stream.output);
}

pub grows : (line : XotLine) (c : Connection) (deed : Deed) → is_absent (after_deed line c deed).socket ≡ false
    → Grows line (heard_of c deed) (written_of c deed) c (after_deed line c deed)
grows line c (laws.calls p place) there = hears_by line p place c (Passes DceWaiting)
grows line c (laws.hears p place) there = hears_if line p place c (is_on place c)
grows line c (laws.takes free) there = takes_first line free c (first_packet c.stream.input)
grows line c (laws.comes octets) there = comes_if line octets c (listens c)
grows line c (laws.writes count) there = writes_some line c count
grows line c laws.stands there = stands_from line c c.socket
grows line c laws.restarts there = restarts_in line c c.call
grows line c (laws.waits ticks) there = nothing_more line c _ refl
grows line c laws.orders there = grants line c (wished c) there

-- ---- all deeds

heard_append : (xs ys : List Fate) → laws.heard_in (xs ++ ys) ≡ laws.heard_in xs ++ laws.heard_in ys
heard_append [] ys = refl
heard_append (passed p ∷ xs) ys = ap (λ r. p ∷ r) (heard_append xs ys)
heard_append (dropped p ∷ xs) ys = ap (λ r. p ∷ r) (heard_append xs ys)
heard_append (cleared place cause ∷ xs) ys = heard_append xs ys
heard_append (confirmed place ∷ xs) ys = heard_append xs ys

forms_append : (line : XotLine) (xs ys : List Fate) → forms line (xs ++ ys) ≡ forms line xs ++ forms line ys
forms_append line [] ys = refl
forms_append line (fate ∷ xs) ys =
    ap (λ r. fate_form line fate ++ r) (forms_append line xs ys)
    ∙ sym (append_assoc (fate_form line fate) (forms line xs) (forms line ys))

grown : (line : XotLine) (heard came : List Said) (written gone : List ℕ) (c next : Connection) → IsCarried line heard written c
    → Grows line came gone c next → IsCarried line (heard ++ came) (written ++ gone) next
grown line heard came written gone c next is more = record {
  fates = is.fates ++ more.more;
  came = ap (λ xs. xs ++ came) is.came ∙ ap (λ ys. laws.heard_in is.fates ++ ys) more.heard ∙ sym (heard_append is.fates more.more);
  went =
      append_assoc written gone next.stream.output
      ∙ ap (λ xs. written ++ xs) more.octets
      ∙ sym (append_assoc written c.stream.output (forms line more.more))
      ∙ ap (λ xs. xs ++ forms line more.more) is.went
      ∙ sym (forms_append line is.fates more.more);
}

there_now : (line : XotLine) (c : Connection) (deeds : List Deed) → IsThere line c deeds → is_absent c.socket ≡ false
there_now line c [] there = there
there_now line c (deed ∷ deeds) there = there.0

carried_on : (line : XotLine) (heard : List Said) (written : List ℕ) (c : Connection) (deeds : List Deed) → IsThere line c deeds
    → IsCarried line heard written c
    → IsCarried line (all_heard line heard c deeds) (all_written line written c deeds) (after_deeds line c deeds)
carried_on line heard written c [] there is = is
carried_on line heard written c (deed ∷ deeds) there is =
    let next = after_deed line c deed in
    carried_on line (heard ++ heard_of c deed) (written ++ written_of c deed) next deeds there.1
    (grown line heard (heard_of c deed) written (written_of c deed) c next is (grows line c deed (there_now line next deeds there.1)))

pub carry_law : CarryLaw
carry_law line c deeds nothing there =
    carried_on line [] [] c deeds there (record { fates = []; came = refl; went = nothing })

-- ---- the channel of a call

got : (xs : List Connection) (i : ℕ) (c d : Connection) → slice_get xs i ≡ Some c → get_or xs i d ≡ c
got [] i c d is = absurd (cc)
got (x ∷ xs) zero c d is = cc
got (x ∷ xs) (suc i) c d is = got xs i c d is

pub channel_law : ChannelLaw
channel_law place number connections c found there =
    let at = position-Some (is_on place) connections number c found in
    ap (is_on place) (sym (got connections number c c there)) ∙ at.1
