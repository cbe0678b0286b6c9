-- One list of acts for the joins of a switch and for the books of its lines.
use Rattle.std.specs.Prelude.{◌≡◌, ℕ, List, [], ◌∷◌, map, slice_get, Option, Some}
use Rattle.std.proofs.Common.{refl, sym, ap, subst, ◌∙◌, option_map}
use Rattle.packet_layer.specs.Layer.{Layer}
use Rattle.packet_end.specs.PacketEnd.{PacketEnd}
use Rattle.line_end.specs.End.{without_frames}
use Rattle.packet_codec.specs.Address.{MayBeDigits}
use Rattle.packet_codec.specs.Digits.{digits_or_none}
use Rattle.switch_lines.specs.Lines.{SwitchLine, changed}
use Rattle.switch_lines.specs.Switch.{Switch, with_end, on_frame, on_expiry, relink, elapse, restart, without_joins, finished, acted, all_begun}
use Rattle.switch_laws.specs.World.{World, layers_of, world_after_all}
use Rattle.switch_laws.specs.Events.{SwitchHolds}
use Rattle.switch_laws.specs.Events.Event.{Arrives, SetsUp, Elapses, Restarts}
use Rattle.switch_laws.specs.Joined.{Reached}
use Rattle.switch_laws.specs.Steps.{Happening, does}
use Rattle.switch_laws.specs.Steps.Happening.{Brings, RunsOut, Relinks}
use Rattle.switch_laws.specs.EventSteps.{event_steps, event_acts}
use Rattle.switch_laws.proofs.Lists.{get_map, map_unchanged}
use Rattle.switch_laws.proofs.Leading.{event_leads}
use Rattle.switch_laws.proofs.SwitchAfterEvents.{events_hold, expiry_stays, steady_holds}
use Rattle.switched_call_laws.specs.SwitchRecords.Written.{books_after_all, HaveRecords}
use Rattle.switched_call_laws.specs.SwitchRecords.Kept.{EventIsKept, HaveAddresses, ReadsOctets, all_frames_out}
use Rattle.switched_call_laws.specs.SwitchRecords.Tied.{Histories, IsTied, happened, FrameTied, TimerTied, RelinkTied, ElapseTied, RestartTied, OutTied, TiedLaw}
use Rattle.switched_call_laws.proofs.SwitchRecords.Calming.{addresses, Addressed, addressed, addressed_then}
use Rattle.switched_call_laws.proofs.SwitchRecords.Events.{frame_event, timer_event, relink_event, elapse_event, restart_event, frames_out, legs_move}
use Rattle.switched_call_laws.proofs.SwitchRecords.Relaying.{joins_relay}
use Rattle.switched_call_laws.proofs.SwitchRecords.Turning.{restarts}

-- ---- addresses

have_addresses : (ls : List SwitchLine) → Addressed ls → HaveAddresses ls
have_addresses ls h n l e = h n l.address (get_map (λ (y : SwitchLine). y.address) ls n ∙ ap (λ (o : Option SwitchLine). option_map (λ (y : SwitchLine). y.address) o) e)

same_addresses : (ls ms : List SwitchLine) → addresses ms ≡ addresses ls → HaveAddresses ls → HaveAddresses ms
same_addresses ls ms e h = have_addresses ms (subst (λ (as_ : List (Option (List ℕ))). (n : ℕ) (a : Option (List ℕ)) → slice_get as_ n ≡ Some a → MayBeDigits (digits_or_none a)) (sym e) (addressed ls h))

-- ---- events on a line

event_tied : (n : ℕ) (what : Happening) (s t : Switch) (h : Histories) (world : World) → ReadsOctets what → IsTied s h
    → t.lines ≡ finished s.routes n (acted s.routes n (does what) (all_begun s.lines)) → Reached (event_acts s.routes n what s.lines) s.lines h.legs t.lines world → SwitchHolds t world
    → EventIsKept n what s h.partners h.books t.lines → IsTied t (happened n what s h)
event_tied n what s t h world reads i is moved holds kept =
    let as_ = event_acts s.routes n what s.lines in
    record {
      holds = subst (λ (v : World). SwitchHolds t v) moved.legs holds;
      kept = kept;
      records =
          subst (λ (ys : List Layer). HaveRecords ys (world_after_all as_ (layers_of s.lines) h.legs) (books_after_all as_ (layers_of s.lines) h.books)) (sym moved.layers)
          (legs_move n what s h.legs h.books reads i.addresses i.holds.joins.world i.records).records;
      addresses = have_addresses t.lines (addressed_then (event_steps s.routes n what s.lines) s.lines t.lines (event_leads s.routes n what s.lines ∙ sym is) (addressed s.lines i.addresses));
    }

frame_tied : FrameTied
frame_tied n octets s h are first i =
    let a = events_hold.stays (Arrives n octets) s h.legs i.holds in
    event_tied n (Brings octets) s (on_frame n octets s) h a.world are i refl a.moved a.holds (frame_event n octets s h.partners h.books are i.addresses first i.kept)

timer_tied : TimerTied
timer_tied n id s h i =
    let a = expiry_stays n id s h.legs i.holds in
    event_tied n (RunsOut id) s (on_expiry n id s) h a.world tt i refl a.moved a.holds (timer_event n id s h.partners h.books i.addresses i.kept)

relink_tied : RelinkTied
relink_tied n s h i =
    let a = events_hold.stays (SetsUp n) s h.legs i.holds in
    event_tied n Relinks s (relink n s) h a.world tt i refl a.moved a.holds (relink_event n s h.partners h.books i.addresses i.kept)

-- ---- the others

elapsed_addresses : (f : PacketEnd → PacketEnd) (ls : List SwitchLine) → addresses (map (with_end f) ls) ≡ addresses ls
elapsed_addresses f [] = refl
elapsed_addresses f (l ∷ ls) = ap (λ (as_ : List (Option (List ℕ))). l.address ∷ as_) (elapsed_addresses f ls)

elapse_tied : ElapseTied
elapse_tied ticks s h i =
    let a = events_hold.stays (Elapses ticks) s h.legs i.holds in
    record {
      holds = subst (λ (v : World). SwitchHolds (elapse ticks s) v) a.moved.legs a.holds;
      kept = elapse_event ticks s h.partners h.books i.kept;
      records = subst (λ (ys : List Layer). HaveRecords ys h.legs h.books) (sym a.moved.layers) i.records;
      addresses = same_addresses s.lines (elapse ticks s).lines (elapsed_addresses _ s.lines) i.addresses;
    }

restarted_addresses : (ls : List SwitchLine) → addresses (map without_joins ls) ≡ addresses ls
restarted_addresses [] = refl
restarted_addresses (l ∷ ls) = ap (λ (as_ : List (Option (List ℕ))). l.address ∷ as_) (restarted_addresses ls)

restart_tied : RestartTied
restart_tied s h i =
    let a = events_hold.stays Restarts s h.legs i.holds in
    record {
      holds = subst (λ (v : World). SwitchHolds (restart s) v) a.moved a.holds;
      kept = restart_event s h.partners h.books i.kept;
      records = restarts s h.legs h.books i.records;
      addresses = same_addresses s.lines (restart s).lines (restarted_addresses s.lines) i.addresses;
    }

out_tied : OutTied
out_tied n l kept s h got i = record {
  holds = steady_holds n (λ e. record e { line = without_frames e.line }) s h.legs (record { layer = λ e. refl; link = λ e. refl }) i.holds;
  kept = frames_out n l kept h.partners h.books s.lines got i.kept;
  records = subst (λ (ys : List Layer). HaveRecords ys h.legs h.books) (sym (map_unchanged (λ (y : SwitchLine). y.end.layer) all_frames_out n s.lines (λ y. refl))) i.records;
  addresses = same_addresses s.lines (changed n all_frames_out s.lines) (map_unchanged (λ (y : SwitchLine). y.address) all_frames_out n s.lines (λ y. refl)) i.addresses;
}

pub tied_holds : TiedLaw
tied_holds = record {
  begins = λ routes lines books partners is a k r. record { holds = events_hold.begins routes lines is; kept = k; records = r; addresses = a };
  frames = frame_tied;
  timers = timer_tied;
  relinks = relink_tied;
  elapses = elapse_tied;
  restarts = restart_tied;
  out = out_tied;
  joins = λ s h p j i e. joins_relay s.lines h.legs h.books i.holds.joins i.records p j e;
}
