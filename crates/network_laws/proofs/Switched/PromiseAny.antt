-- What holds of any network has, on faithful lines, all that it promises; and confirmed delivery is that all is covered.
use Rattle.std.proofs.Common.{◌≡◌, ℕ, sym, ap, ◌∙◌}
use Rattle.std.specs.Prelude.{slice_get}
use Rattle.packet_layer.specs.Layer.{confirmed}
use Rattle.user_nodes.specs.Node.{end_of}
use Rattle.frame_lines.specs.Lines.{LineService}
use Rattle.net_events.specs.Network.{PlacedNode}
use Rattle.net_events.proofs.Users.{same_user}
use Rattle.network_laws.specs.LinesPromise.{EndHolds}
use Rattle.network_laws.specs.Switched.InnerPromise.{NetworkPromise}
use Rattle.network_laws.specs.Switched.Laws.{PromiseLaw, DeliveredLaw}
use Rattle.network_laws.proofs.Switched.PromiseHeld.{promise_held}

pub promise_any : (L : LineService) → PromiseLaw L
promise_any L s n f = promise_held L s n.network n.addressed f

pub delivered_any : (L : LineService) → DeliveredLaw L
delivered_any L s any f place channel m there says line l role number r line_is place_is present record_is =
    let h : NetworkPromise s = promise_any L s any f in
    let e : EndHolds s line l role = h.inner.ends line l role line_is (m, ap (λ (i : ℕ). slice_get s.nodes i) place_is ∙ there) in
    let same : e.node ≡ m = same_user e.node m (sym e.node_there ∙ ap (λ (i : ℕ). slice_get s.nodes i) place_is ∙ there) in
    (e.confirmed channel number r present record_is).covered (ap (λ (x : PlacedNode). confirmed (end_of x.node).layer channel) same ∙ says)
