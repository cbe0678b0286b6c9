-- What serving an event at a switch does.
use Rattle.std.proofs.Common.{◌≡◌, ℕ, Bool, List, length, sym, ap, ◌∙◌, subst}
use Rattle.call_records.specs.Register.{Register}
use Rattle.frame_lines.specs.Lines.{LineService}
use Rattle.switch_lines.specs.Switch.{Switch}
use Rattle.switch_joins.specs.declared.channels.NewJoin.{NewJoin}
use Rattle.net_events.specs.AtSwitch.{SwitchEvent, switched, joins_of, switch_drained, all_handed}
use Rattle.net_events.specs.Network.{PlacedSwitch, NetLine, own_role}
use Rattle.net_events.specs.declared.answer.Put.{Put}
use Rattle.node_events.specs.Switching.{all_puts, CanPut, LinesPut, is_anew, SwitchServed}
use Rattle.node_events.proofs.RolesStay.{own_role_stays}
use Rattle.node_events.proofs.SwitchSending.{switched_lines}

pub can_put_then : (event : SwitchEvent) (p : PlacedSwitch) (s : Switch) (lines : List NetLine) (puts : List Put) (places : ℕ) → s ≡ switched event p.switch
    → CanPut p.lines p.switch.lines lines puts places → CanPut p.lines s.lines lines puts places
can_put_then event p s lines puts places is can = record {
  count = can.count ∙ sym (switched_lines event p.switch) ∙ ap (λ (t : Switch). length t.lines) (sym is);
  apart = can.apart;
  there = can.there;
  room = can.room;
}

pub served_so : (L : LineService) (event : SwitchEvent) (p : PlacedSwitch) (joins : List NewJoin) (anew : Bool) (s t : Switch) (lines lines' : List NetLine) (g g' : Register) (puts : List Put)
    → joins ≡ joins_of event p.switch → s ≡ switched event p.switch → anew ≡ is_anew event → g' ≡ all_handed p.lines (own_role s) joins g
    → t ≡ switch_drained s → LinesPut L anew p.lines s lines lines' → puts ≡ all_puts p.lines s.lines
    → SwitchServed L event p lines g t lines' g' puts
served_so L event p joins anew s t lines lines' g g' puts joins_are is anew_is handed drained put listed =
    let A : Bool → Type 0 = λ x. LinesPut L x p.lines s lines lines' in
    let C : Switch → Type 0 = λ x. LinesPut L (is_anew event) p.lines x lines lines' in
    let roles : (at : ℕ) → own_role s at ≡ own_role p.switch at = λ at. ap (λ (x : Switch). own_role x at) is ∙ own_role_stays event p.switch at in
    record {
      switch_is = drained ∙ ap switch_drained is;
      lines_put = subst C is (subst A anew_is put);
      register_is = handed ∙ (λ i. all_handed p.lines (λ own. roles own i) (joins_are i) g);
      puts_are = listed ∙ (λ i. all_puts p.lines (is i).lines);
    }
