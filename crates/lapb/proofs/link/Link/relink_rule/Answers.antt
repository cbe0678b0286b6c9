use Rattle.std.proofs.Common.{rules, tests}
use Rattle.lapb.proofs.link.Link.relink_rule.Goals as goal

pub returns-in-Dte-SettingUp-clause-link : goal.returns-in-Dte-SettingUp-clause-link
returns-in-Dte-SettingUp-clause-link c = search (rules, tests)

pub returns-in-Dte-SettingUp-clause-out : goal.returns-in-Dte-SettingUp-clause-out
returns-in-Dte-SettingUp-clause-out c = search (rules, tests)

pub returns-in-Dte-SettingUp-clause-anew : goal.returns-in-Dte-SettingUp-clause-anew
returns-in-Dte-SettingUp-clause-anew c = search (rules, tests)
