-- The nodes of a network without records stand at their lines.
use Rattle.std.proofs.Common.{ℕ, inl, inr}
use Rattle.link_timers.specs.declared.role.Role.{Role}
use Rattle.call_records.specs.Register.{Register}
use Rattle.frame_lines.specs.Lines.{LineService}
use Rattle.net_events.specs.Network.{NetLine, Network}
use Rattle.net_nodes.specs.Places.{EndStands, IsStanding}
use Rattle.line_sim.proofs.CanBeServed.{standing}
use Rattle.live_laws.specs.Registers.{on}
use Rattle.live_laws.specs.Living.{IsLive}

-- what stands at an end does not depend on the register
end_stands : (g : Register) (s : Network) (line : ℕ) (l : NetLine) (role : Role) → EndStands (on g s) line l role
    → EndStands s line l role
end_stands g s line l role (inl u) = inl (record {
  node = u.node;
  node_there = u.node_there;
  node_line = u.node_line;
  quiet = u.quiet;
})
end_stands g s line l role (inr w) = inr (record {
  node = w.node;
  node_there = w.node_there;
  own = w.own;
  own_line = w.own_line;
  role_is = w.role_is;
})

pub live_standing : (L : LineService) (s : Network) → IsLive L s → IsStanding s
live_standing L s live =
    let st = standing L (on live.register s) live.between in
    record {
      nodes = st.nodes;
      ends = λ line l role at. end_stands live.register s line l role (st.ends line l role at);
      registered = live.registered;
    }
