-- The nodes of a network of which the laws speak can be served.
use Rattle.std.proofs.Common.{◌≡◌, ◌≢◌, ℕ, Some, refl, sym, ap, ◌∙◌, subst, inl, inr}
use Rattle.std.specs.Prelude.{length, slice_get}
use Rattle.std.proofs.lemmas.Option.{same_Some}
use Rattle.link_timers.specs.declared.role.Role.{Role}
use Rattle.link_timers.specs.declared.role.Role.TheVariants.{Dte, Dce}
use Rattle.frame_lines.specs.Lines.{LineService}
use Rattle.node_laws.specs.Quiet.{IsQuiet}
use Rattle.user_nodes.specs.Node.{NodeState}
use Rattle.net_events.specs.Network.{NetNode, User, Switching, NetLine, Network, StandsAtLines, place_at, own_role}
use Rattle.network_laws.specs.Switched.IsSwitched.{IsEndOf, IsSwitched}
use Rattle.net_nodes.specs.Places.{EndStands, IsStanding}
use Rattle.line_sim.specs.Between.{IsBetweenEvents}

-- a node is at one end of a line
one_end : (l : NetLine) (place : ℕ) (role other : Role) → l.dte ≢ l.dce → place_at role l ≡ place → place_at other l ≡ place
    → role ≡ other
one_end l place Dte Dte apart e f = refl
one_end l place Dce Dce apart e f = refl
one_end l place Dte Dce apart e f = absurd (apart (e ∙ sym f))
one_end l place Dce Dte apart e f = absurd (apart (f ∙ sym e))

switched_stand : (L : LineService) (s : Network) → IsSwitched L s → length s.register.lines ≡ length s.lines
    → IsStanding s
switched_stand L s p r = record {
  nodes = p.nodes;
  ends =
      λ line l role at. let h = p.lines line l at in let e = h.there role in
      stands line l role at h.apart e.node (h.at role) e.there e.end (h.quiet role);
  registered = r;
}
  where
    stands : (line : ℕ) (l : NetLine) (role : Role) → slice_get s.lines line ≡ Some l → l.dte ≢ l.dce → (n : NetNode)
        (x : NodeState) → slice_get s.nodes (place_at role l) ≡ Some n → IsEndOf n line x → IsQuiet x
        → EndStands s line l role
    stands line l role at apart (User n) x there end quiet =
        inl (record { node = n; node_there = there; node_line = end.0; quiet = subst IsQuiet end.1 quiet })
    stands line l role at apart (Switching n) x there end quiet =
        let own_lines : StandsAtLines s.lines (place_at role l) n = p.nodes (place_at role l) (Switching n) there in
        let e = own_lines.each end.0 line end.2 in
        let same : e.line_is ≡ l = same_Some e.line_is l (sym e.there ∙ at) in
        let here : place_at (own_role n.switch end.0) l ≡ place_at role l
        = ap (place_at (own_role n.switch end.0)) (sym same) ∙ e.at_end in
        inr (record {
          node = n;
          node_there = there;
          own = end.0;
          own_line = end.2;
          role_is = one_end l (place_at role l) (own_role n.switch end.0) role apart here refl;
        })

pub standing : (L : LineService) (s : Network) → IsBetweenEvents L s → IsStanding s
standing L s b = switched_stand L s b.any.network b.registered
