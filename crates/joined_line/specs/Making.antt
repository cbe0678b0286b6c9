-- How a line is made.
use Rattle.std.specs.Prelude.{◌≡◌, ℕ, ◌+◌, false, replicate, None}
use Rattle.packet_end.specs.Params.{AreParams}
use Rattle.packet_end.specs.PacketEnd as end
use Rattle.packet_end.specs.Pooled.{share_with}
use Rattle.joined_line.specs.declared.config.SwitchLineConfig.{SwitchLineConfig}
use Rattle.joined_line.specs.SwitchLine.{SwitchLine}

-- the parameters are in their ranges, and the line does not stand
pub record IsLineConfig (c : SwitchLineConfig) : Type 0 where
  pub params : AreParams c.params
  pub not_standing : c.params.standing ≡ false

-- a line without joins, at which the switch has its role
abbrev pub made_line : SwitchLineConfig → SwitchLine
made_line c = record {
  end = end.made c.role c.params;
  address = c.address;
  joined = replicate c.params.channels None;
}

-- the share that a line has of the switch's pool: that of its end, and one buffer for each channel, for what is gathered
-- from there
abbrev pub line_share : SwitchLineConfig → ℕ
line_share c = share_with c.params + c.params.channels
