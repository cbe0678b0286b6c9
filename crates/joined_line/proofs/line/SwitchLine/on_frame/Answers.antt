use Rattle.std.proofs.Common.{◌≡◌, List, [], ap, ap₂, ◌∙◌}
use Rattle.data_transfer.specs.Packets.{Note}
use Rattle.packet_end.specs.PacketEnd.{PacketEnd, received}
use Rattle.packet_end.specs.Pooled.{PooledEnd}
use Rattle.joined_line.specs.SwitchLine.{SwitchLine, with_end, quieted}
use Rattle.joined_line.specs.Pooled.{PooledLine}
use Rattle.joined_line.proofs.Sharing.{end_served, end_balances}
use Rattle.joined_line.proofs.line.SwitchLine.on_frame.Goals as goal

-- nothing is left to read
already_quiet : (e : PacketEnd) → e.layer.notes ≡ [] → e.notes ≡ [] → e ≡ quieted e
already_quiet e layer own =
    ap₂ (λ (ns ms : List Note). record e { layer = record e.layer { notes = ns }; notes = ms }) layer own

pub returns-clause-line : goal.returns-clause-line
returns-clause-line c =
    let a = c.self.inside in
    let own = ap (λ (p : PooledLine). p.line.end.notes) c.self.view_is ∙ c.requires.read in
    let with : PacketEnd → SwitchLine = λ e. record { end = received e c.args.octets.now; address = a.address; joined = a.joined.joined } in
    ap (λ (x : PooledEnd). record { end = x.end; address = a.address; joined = a.joined.joined }) c.on_frame.ensures.end
    ∙ (ap with (already_quiet a.end.end c.self.invariant.read own)
    ∙ ap (λ (p : PooledLine). with_end (λ e. received (quieted e) c.args.octets.now) p.line) c.self.view_is)

pub on_frame-requires-clause-pool : goal.on_frame-requires-clause-pool
on_frame-requires-clause-pool c = end_served c.self.inside c.args.self.now c.args.pool.now c.self.view_is c.self.invariant c.requires.pool

pub returns-clause-pool : goal.returns-clause-pool
returns-clause-pool c =
    end_balances c.self.inside c.args.self.now c.args.pool.now c.on_frame.new.pool c.on_frame.new.self c.self.view_is c.on_frame.ensures.pool
