-- After any calls of a link its session agrees with it.
use Rattle.std.proofs.Common.{◌≡◌, ℕ, ◌+◌, ◌<◌, ◌≤◌, arith, Bool, true, false, not, ◌&&◌, nat_le, List, [], ◌∷◌, ◌++◌, length, drop, Result, Ok, Err, if◌then◌else◌, refl, sym, ap, subst, ◌∙◌, length-append}
use Rattle.std.proofs.lemmas.Bool.{and_parts, leb-false}
use Rattle.std.proofs.lemmas.List.{drop-append-le}
use Rattle.link_timers.specs.declared.role.Role.{Role}
use Rattle.frame_codec.specs.declared.fault.FrameFault.{FrameFault}
use Rattle.frame_codec.specs.Frame.{FrameValue}
use Rattle.frame_codec.specs.Reading.{reading}
use Rattle.lapb.specs.declared.phase.Phase.{Phase}
use Rattle.lapb.specs.declared.link.LinkParams.{LinkParams}
use Rattle.lapb.specs.Machine.{Octets, Link, is_up, is_full, can_offer, offer, new, remade, params_anew}
use Rattle.lapb.specs.Octets.{on_reading}
use Rattle.lapb.specs.Named.{Session, begun, Counts, Agrees, AreNamed, after_offer}
use Rattle.lapb.specs.NamedOctets.{NamesAfterReading}
use Rattle.lapb.specs.Calls.{Call, InSession, IsCounted, SessionLaw, HasOctets, HaveOctets, link_after, frames_by, session_read, session_by, after_all}
use Rattle.lapb.specs.Calls.Call.{Take, Offer, Expire, Relink, Settle, Restart}
use Rattle.lapb.proofs.Naming.{named_on_t1, named_relink, named_settle}
use Rattle.lapb.proofs.NamedCalls.{named_on_octets}
use Rattle.lapb.proofs.Links.{octets_keep_k, relink_keeps_k, t1_keeps_k, settle_keeps_k}

-- ---- the beginning: a link on a standing line has numbers 0 and nothing in its session

new_agrees : (role : Role) (params : LinkParams) → Agrees (new role params) begun
new_agrees role params up = record {
  oldest = refl;
  queue = refl;
  taken = omega arith;
  next = omega arith;
  top = omega arith;
  window = omega arith;
  expected = refl;
}

-- after a restart of its node no link is up
remade_down : (l : Link) (s : Session) → Agrees (remade l) s
remade_down l s up = absurd (cc)

-- ---- a packet is offered

not_full : (l : Link) → can_offer l ≡ true → length l.queue < l.k
not_full l may = go (is_full l) refl (and_parts (is_up l.phase) (not (is_full l)) may).1
  where
    go : (full : Bool) → is_full l ≡ full → not full ≡ true → length l.queue < l.k
    go true is none = absurd (cc)
    go false is none = leb-false l.k (length l.queue) is

taken_more : (l : Link) (packet : Octets) (s : Session) → length l.queue < 7 → Counts l s →
    Counts (record l { queue = l.queue ++ packet ∷ [] }) (record s { offered = s.offered ++ packet ∷ [] })
taken_more l packet s few c =
    let many = length-append l.queue (packet ∷ []) in
    let more = length-append s.offered (packet ∷ []) in
    record {
      oldest = c.oldest;
      queue =
          ap (λ (q : List Octets). q ++ packet ∷ []) c.queue
          ∙ sym (drop-append-le s.taken s.offered (packet ∷ []) c.taken);
      taken = omega (arith, more, c.taken);
      next = c.next;
      top = omega (arith, many, c.top);
      window = omega (arith, many, few);
      expected = c.expected;
    }

offer_agrees : (l : Link) (packet : Octets) (s : Session) → l.k ≤ 7 → Agrees l s →
    Agrees (offer l packet) (after_offer l packet s)
offer_agrees l packet s small agrees up = go (can_offer l) refl
  where
    go : (may : Bool) → can_offer l ≡ may →
        Counts (record l { queue = if may then l.queue ++ packet ∷ [] else l.queue })
        (record s { offered = if may then s.offered ++ packet ∷ [] else s.offered })
    go true may = let few = not_full l may in taken_more l packet s (omega (arith, few, small)) (agrees up)
    go false may = agrees up

-- ---- one call

read_agrees : (l : Link) (bytes : Octets) (read : Result FrameValue FrameFault) (s : Session) →
    NamesAfterReading l bytes read → Agrees l s →
    Agrees (on_reading l bytes read).link (session_read l read s)
    × AreNamed (session_read l read s) (on_reading l bytes read).frames
read_agrees l bytes (Ok frame) s names agrees = names s agrees
read_agrees l bytes (Err fault) s names agrees = names s agrees

one_call : (call : Call) (l : Link) (s : Session) → HasOctets call → l.k ≤ 7 → Agrees l s →
    Agrees (link_after call l) (session_by call l s) × AreNamed (session_by call l s) (frames_by call l)
one_call (Take bytes) l s octets small agrees =
    read_agrees l bytes (reading l.role l.info bytes) s (named_on_octets l bytes octets) agrees
one_call (Offer packet) l s octets small agrees = (offer_agrees l packet s small agrees, tt)
one_call Expire l s octets small agrees = named_on_t1 l s agrees
one_call Relink l s octets small agrees = named_relink l s agrees
one_call Settle l s octets small agrees = named_settle l s agrees
one_call Restart l s octets small agrees = (remade_down l s, tt)

keeps_k : (call : Call) (l : Link) → (link_after call l).k ≡ l.k
keeps_k (Take bytes) l = octets_keep_k l bytes
keeps_k (Offer packet) l = refl
keeps_k Expire l = t1_keeps_k l
keeps_k Relink l = relink_keeps_k l
keeps_k Settle l = settle_keeps_k l
keeps_k Restart l = refl

-- ---- all calls

counted_after : (calls : List Call) (x : InSession) → HaveOctets calls → x.link.k ≤ 7 → Agrees x.link x.session →
    IsCounted (after_all calls x)
counted_after [] x octets small agrees = record {
  agrees = agrees;
  named = λ call has. (one_call call x.link x.session has small agrees).1;
}
counted_after (call ∷ calls) x octets small agrees =
    let same = keeps_k call x.link in
    counted_after calls _ octets.1 (omega (arith, small, same)) (one_call call x.link x.session octets.0 small agrees).0

pub session_law : SessionLaw
session_law role params small calls octets =
    counted_after calls (record { link = new role params; session = begun }) octets small (new_agrees role params)
