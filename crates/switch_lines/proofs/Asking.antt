-- A list of requests, asked of a channel of a line one after the other.
use Rattle.std.proofs.Common.{◌≡◌, ℕ, List, [], ◌∷◌, refl, sym, ◌∙◌}
use Rattle.packet_channel.specs.Channel.{Request}
use Rattle.packet_end.specs.PacketEnd.{asked}
use Rattle.switch_lines.specs.Lines.{SwitchChannel, SwitchLine, changed, ask, ask_all}
use Rattle.joined_line.specs.OfLine.{asked_on}
use Rattle.switch_lines.proofs.Calmer.{IsCalm, same_layer, layer_then, onward_calm}
use Rattle.switch_lines.proofs.Onward.{AreOnward}
use Rattle.switch_lines.proofs.Places.{fused, same_all}

-- at its place among the lines
pub asks_changed : (p : SwitchChannel) (qs : List Request) (ls : List SwitchLine) → changed p.line (asked_on p.channel qs) ls ≡ ask_all p qs ls
asks_changed p [] ls = same_all p.line ls
asks_changed p (q ∷ qs) ls =
    sym (fused (asked_on p.channel qs) (λ l. record l { end = asked l.end p.channel q }) p.line ls) ∙ asks_changed p qs (ask p q ls)

pub asked_joined : (c : ℕ) (qs : List Request) (l : SwitchLine) → (asked_on c qs l).joined ≡ l.joined
asked_joined c [] l = refl
asked_joined c (q ∷ qs) l = asked_joined c qs (record l { end = asked l.end c q })

-- what is asked to go on to the other leg is calm
pub asked_calm : (k : ℕ) (qs : List Request) (l : SwitchLine) (c : ℕ) → AreOnward qs → IsCalm l.end.layer (asked_on k qs l).end.layer c
asked_calm k [] l c are = same_layer l.end.layer c
asked_calm k (q ∷ qs) l c are =
    let m : SwitchLine = record l { end = asked l.end k q } in
    layer_then l.end.layer m.end.layer (asked_on k qs m).end.layer c (onward_calm l.end.layer k c q are.0) (asked_calm k qs m c are.1)
