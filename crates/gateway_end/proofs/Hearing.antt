-- What time and packets of the line leave as it is.
use Rattle.std.proofs.Common.{◌≡◌, ◌∙◌, ℕ, Bool, true, false, List, refl, ap, subst}
use Rattle.std.specs.Prelude.{Option, Some, None, Result, Ok, Err, if◌then◌else◌}
use Rattle.link_timers.specs.Timers.{is_due}
use Rattle.packet_codec.specs.declared.fault.PacketFault.{PacketFault}
use Rattle.packet_codec.specs.Packet.{PacketValue}
use Rattle.lapb.specs.declared.note.Note.{Note}
use Rattle.lapb.specs.Machine.{on_t1}
use Rattle.line_end.specs.End as ends
use Rattle.xot_gateway.specs.declared.calls.LineState.{LineState}
use Rattle.xot_gateway.specs.declared.calls.XotCalls.{XotCalls}
use Rattle.xot_gateway.specs.Calls.{Hears, HearsAt, HearsBy, RestartsBy, ends_calls, heard_place, state_after}
use Rattle.gateway_end.specs.GatewayEnd.{Elapses, GatewayEnd, Heeds, Waits, waiting_after}

pub hears_line : (octets : List ℕ) (read : Result PacketValue PacketFault) (before after : XotCalls)
    → Hears octets read before after → after.line ≡ before.line
hears_line octets (Err fault) before after same = ap (λ (calls : XotCalls). calls.line) same
hears_line octets (Ok p) before after hears = by (state_after before.state p.content) hears
  where
    restarts : (state : LineState) (ends : Bool) → RestartsBy ends state before after → after.line ≡ before.line
    restarts state true all = all.line
    restarts state false same = ap (λ (calls : XotCalls). calls.line) same

    on : (place : Option ℕ) → HearsAt place p.content octets before after → after.line ≡ before.line
    on None same = ap (λ (calls : XotCalls). calls.line) same
    on (Some place) hears = hears.line

    by : (state : Option LineState) → HearsBy state p.content p.channel octets before after → after.line ≡ before.line
    by (Some state) hears = restarts state (ends_calls before.state state) hears
    by None hears = on (heard_place before.state p.channel) hears

pub elapsed_quiet : (ticks : ℕ) (before after : GatewayEnd) → Waits ticks before.calls after.calls
    → is_due (ends.elapsed before.line ticks).t1 ≡ false → after.line ≡ ends.elapsed before.line ticks
    → after.waiting ≡ before.waiting → Elapses ticks before after
elapsed_quiet ticks before after waits quiet line waiting = record {
  middle = after.calls;
  waits = waits;
  heeds = rw quiet refl;
  line = rw quiet line;
  waiting = rw quiet waiting;
}

pub elapsed_due : (ticks : ℕ) (before after : GatewayEnd) (middle : XotCalls) (note : Note) → Waits ticks before.calls middle
    → is_due (ends.elapsed before.line ticks).t1 ≡ true → Heeds note middle after.calls
    → note ≡ (on_t1 (ends.elapsed before.line ticks).link).note
    → after.line ≡ ends.after_t1 (ends.elapsed before.line ticks) → after.waiting ≡ waiting_after note before.waiting
    → Elapses ticks before after
elapsed_due ticks before after middle note waits due heeds is line waiting = record {
  middle = middle;
  waits = waits;
  heeds = rw due (subst (λ (n : Note). Heeds n middle after.calls) is heeds);
  line = rw due line;
  waiting = rw due (waiting ∙ ap (λ (n : Note). waiting_after n before.waiting) is);
}

pub told : (runs : Bool) (note other : Note) → Some note ≡ (if runs then Some other else None) → note ≡ other
told true note other e = cc
told false note other e = absurd (cc)
