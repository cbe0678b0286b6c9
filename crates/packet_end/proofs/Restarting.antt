-- After a restart of its node the end of a line keeps nothing back: its link is down.
use Rattle.std.proofs.Common.{◌≡◌, true≢false, false, refl, sym, ap, ◌∙◌}
use Rattle.link_timers.specs.declared.role.Role.{Role}
use Rattle.link_timers.specs.declared.role.Role.TheVariants.{Dte, Dce}
use Rattle.lapb.specs.declared.phase.Phase.{Phase}
use Rattle.lapb.specs.Machine.{Link, is_up, params_anew}
use Rattle.line_end.specs.End as line
use Rattle.packet_end.specs.PacketEnd.{PacketEnd, restarted, KeepsNothingBack}

down : (role : Role) (l : Link) → is_up (line.made role (params_anew l)).link.phase ≡ false
down Dte l = refl
down Dce l = refl

pub restart_keeps : (e : PacketEnd) → KeepsNothingBack (restarted e)
restart_keeps e =
    let d = down e.line.link.role e.line.link in record {
      offered = λ up room. absurd (true≢false (sym (ap (λ (p : Phase). is_up p) up) ∙ d));
      sent = λ may. absurd (true≢false (sym (ap (λ (p : Phase). is_up p) may.up) ∙ d));
    }
