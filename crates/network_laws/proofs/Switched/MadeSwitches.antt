-- A switch of a network as it is made, at either end of each of its lines: it is tied to its histories, before its first
-- frames go and when they went.
use Rattle.std.proofs.Common.{◌≡◌, ℕ, zero, suc, ◌+◌, ◌<◌, Bool, false, List, [], ◌∷◌, length, map, Option, Some, None, refl, sym, ap, ◌∙◌, subst, arith}
use Rattle.std.specs.Prelude.{slice_get, option_and_then}
use Rattle.std.proofs.lemmas.List.{length-map}
use Rattle.link_timers.specs.declared.role.Role.{Role}
use Rattle.link_timers.specs.declared.role.Role.TheVariants.{Dte, Dce}
use Rattle.packet_codec.specs.Address.{MayBeDigits}
use Rattle.packet_codec.specs.Digits.{digits_or_none}
use Rattle.packet_end.specs.PacketEnd.{PacketEnd}
use Rattle.packet_end.specs.PacketEnd as end
use Rattle.data_transfer.specs.declared.flow.Flow.{Flow}
use Rattle.packet_layer.specs.Layer.{Layer}
use Rattle.packet_layer.specs.Layer as layers
use Rattle.address_routes.specs.Routes.{line_for}
use Rattle.call_records.specs.Book.{Book, new_book, made_book, address_of}
use Rattle.call_records.specs.Register.{LinePlan}
use Rattle.record_laws.proofs.Books.Basics.{get_there}
use Rattle.node_laws.specs.Lines.NodeLine.{made as made_ends}
use Rattle.node_laws.specs.LineRecords.Kept.{IsSetting, Kept, end_at}
use Rattle.node_laws.specs.LineRecords.Happens.{sent}
use Rattle.node_laws.proofs.LineRecords.LineLaw.{made_kept}
use Rattle.joined_line.specs.declared.config.SwitchLineConfig.{SwitchLineConfig}
use Rattle.switch_lines.specs.Lines.{SwitchLine}
use Rattle.switch_lines.specs.Making.{made_line, made}
use Rattle.switch_lines.specs.Switch.{Switch}
use Rattle.switch_laws.specs.Events.{new_legs}
use Rattle.switched_call_laws.specs.QuietSwitches.Quiet.{all_gone_out, drained}
use Rattle.switched_call_laws.proofs.QuietSwitches.Quieting.{gone-out}
use Rattle.switched_call_laws.specs.SwitchRecords.Records.{AreRecords}
use Rattle.switched_call_laws.specs.SwitchRecords.Turned.{sight}
use Rattle.switched_call_laws.specs.SwitchRecords.Kept.{AreKept, KeptWith, all_frames_out}
use Rattle.switched_call_laws.specs.SwitchRecords.Tied.{Histories, IsTied, gone_out, sent_out}
use Rattle.switched_call_laws.specs.JoinedCalls.Calls.{JoinedCall, AreCalls}
use Rattle.switched_call_laws.specs.SwitchPaths.Sight.{Switched, Standing, Lines, role_at, network_line, standing_with, partner_of, IsInSight}
use Rattle.switched_call_laws.specs.SwitchPaths.Network.{IsPlanned}
use Rattle.switched_call_laws.specs.SwitchPaths.SwitchPathLaws.{IsMadeAt}
use Rattle.switched_call_laws.proofs.SwitchRecords.Making.{made_records}
use Rattle.switched_call_laws.proofs.SwitchRecords.Tying.{tied_holds}
use Rattle.switched_call_laws.proofs.SwitchRecords.Turned.{sight_back}
use Rattle.switched_call_laws.proofs.JoinedCalls.CallsAfterEvents.{calls_hold}
use Rattle.record_laws.specs.CallPaths.World.{Plan}
use Rattle.record_laws.specs.CallPaths.Lines.{free_book}
use Rattle.net_config.specs.NetPlan.{NewSwitch, Planned, PlannedSwitch, NewLine, NetPlan, IsSwitchPlan, IsPlan}
use Rattle.net_events.specs.Opening.{role_on_line, line_config, own_configs, line_plan, placed_switch}
use Rattle.network_laws.proofs.Made.{setting-of}
use Rattle.network_laws.proofs.Mapped.{mapped, unmapped}
use Rattle.network_laws.proofs.Switched.MadePlan.{end_place, end_is_user, is_user, goes_on, address_on, digits_of, plan_of, OwnLine, Configs, configs, is_config}
use Rattle.network_laws.proofs.Switched.OwnLines.{line_named}

-- ---- the frames of all lines go out

-- where all of them are lost, nothing else changes
record Emptied (count n : ℕ) (s : Switch) (h : Histories) (cs : List JoinedCall) : Type 0 where
  histories : Histories
  legs : histories.legs ≡ h.legs
  books : histories.books ≡ h.books
  tied : IsTied (all_gone_out count n s) histories
  calls : AreCalls (all_gone_out count n s).lines histories.books cs

as_many : (ls : List SwitchLine) (n : ℕ) → length (Rattle.switch_lines.specs.Lines.changed n all_frames_out ls) ≡ length ls
as_many [] n = refl
as_many (l ∷ ls) zero = refl
as_many (l ∷ ls) (suc n) = ap suc (as_many ls n)

all_emptied : (count n : ℕ) (s : Switch) (h : Histories) (cs : List JoinedCall) → n + count ≡ length s.lines → IsTied s h → AreCalls s.lines h.books cs → Emptied count n s h cs
all_emptied zero n s h cs total tied calls = record { histories = h; legs = refl; books = refl; tied = tied; calls = calls }
all_emptied (suc count) n s h cs total tied calls =
    let l = get_there s.lines n (omega (arith, total)) in
    let rest = all_emptied count (suc n) (gone_out n s) (sent_out n l.0 [] h) cs (let same = as_many s.lines n in omega (arith, total, same))
    (tied_holds.out n l.0 [] s h l.1 tied) (calls_hold.out n s h cs tied calls) in
    record { histories = rest.histories; legs = rest.legs; books = rest.books; tied = rest.tied; calls = rest.calls }

-- so all frames of a switch may go, and what is at the other ends of its lines be as it may, if each line is kept then
pub record Drained (s : Switch) (h : Histories) (cs : List JoinedCall) : Type 0 where
  pub tied : IsTied (drained s) h
  pub calls : AreCalls (drained s).lines h.books cs

pub all_drained : (s : Switch) (h i : Histories) (cs : List JoinedCall) → IsTied s h → AreCalls s.lines h.books cs → i.legs ≡ h.legs → i.books ≡ h.books
    → AreKept i.partners i.books (drained s).lines → Drained s i cs
all_drained s h i cs tied calls legs books kept =
    let e = all_emptied (length s.lines) 0 s h cs (total s.lines) tied calls in
    let o = calls_hold.outside (drained s) e.histories i cs (record {
      legs = legs ∙ sym e.legs;
      written = λ line. record { writes = []; is = ap (λ (b : ℕ → Book). b line) (books ∙ sym e.books) };
      kept = kept;
    }) (subst (λ (x : Switch). IsTied x e.histories) (gone-out s) e.tied) (subst (λ (x : Switch). AreCalls x.lines e.histories.books cs) (gone-out s) e.calls) in
    record { tied = o.0; calls = o.1 }
  where
    total : (ls : List SwitchLine) → 0 + length ls ≡ length ls
    total ls = omega arith

-- ---- one end of a line

pub line_back : (role : Role) (x : Standing) (e : PacketEnd) → e ≡ end_at role x.line → standing_with (partner_of role x) e ≡ x
line_back Dte x e is = ap (λ (y : PacketEnd). record x { line = record x.line { dte = y } }) is
line_back Dce x e is = ap (λ (y : PacketEnd). record x { line = record x.line { dce = y } }) is

kept_own : (role : Role) (x : Standing) (b : Book) (e : PacketEnd) → e ≡ end_at role x.line → Kept x.setting b x.line → KeptWith (partner_of role x) (sight role b) e
kept_own role x b e is kept =
    subst (λ (y : Book). Kept x.setting y (standing_with (partner_of role x) e).line) (sym (sight_back role b))
    (subst (λ (y : Standing). Kept y.setting b y.line) (sym (line_back role x e is)) kept)

-- in its own sight a free book is one too
free_records : (role : Role) (channels : ℕ) (flow : Flow) (dte_node dce_node : ℕ) (legs : ℕ → Rattle.switch_laws.specs.Leg.Leg)
    → AreRecords Dce (layers.made role channels flow false) legs (sight role (made_book dte_node dce_node channels false))
free_records Dte channels flow dte_node dce_node legs = made_records Dce Dte channels flow dce_node dte_node legs
free_records Dce channels flow dte_node dce_node legs = made_records Dce Dce channels flow dte_node dce_node legs

-- ---- a line as it is made, and when the first frames went

abbrev pub plans_of : NetPlan → List LinePlan
plans_of plan = map line_plan plan.lines

abbrev pub standing_made : NewLine → Standing
standing_made l = record { setting = setting-of l.dte l.dce l.params; line = made_ends l.params l.params }

pub record WentOut (l : NewLine) (x : Standing) : Type 0 where
  pub ends : (role : Role) → end_at role x.line ≡ sent (end.made role l.params)
  pub kept : l.params.standing ≡ false → Kept x.setting (free_book (line_plan l)) x.line

made_end : (role : Role) (l : NewLine) → end_at role (standing_made l).line ≡ end.made role l.params
made_end Dte l = refl
made_end Dce l = refl

-- ---- a switch

abbrev pub role_there : (place : ℕ) → Option NewLine → Role
role_there place None = Dce
role_there place (Some l) = role_on_line place l

abbrev pub own_roles : NetPlan → (place : ℕ) → NewSwitch → (own : ℕ) → Role
own_roles plan place n own = role_there place (slice_get plan.lines (network_line n.lines own))

abbrev book_or : Option Book → Book
book_or None = new_book 0 0 0
book_or (Some b) = b

abbrev line_book : NetPlan → (line : ℕ) → Book
line_book plan line = book_or (slice_get (map free_book (plans_of plan)) line)

abbrev pub made_histories : NetPlan → (place : ℕ) → NewSwitch → Lines → Histories
made_histories plan place n lines = record {
  legs = new_legs (own_configs place n.lines plan.lines);
  books = λ own. sight (own_roles plan place n own) (line_book plan (network_line n.lines own));
  partners = λ own. partner_of (own_roles plan place n own) (lines (network_line n.lines own));
}

pub free_there : (plan : NetPlan) (line : ℕ) (l : NewLine) → slice_get plan.lines line ≡ Some l → slice_get (map free_book (plans_of plan)) line ≡ Some (free_book (line_plan l))
free_there plan line l at = mapped free_book (plans_of plan) line (line_plan l) (mapped line_plan plan.lines line l at)

-- an own line, by its number
record Own (plan : NetPlan) (place : ℕ) (n : NewSwitch) (own : ℕ) : Type 0 where
  line : ℕ
  at : slice_get n.lines own ≡ Some line
  o : OwnLine plan place line
  there : slice_get plan.lines (network_line n.lines own) ≡ Some o.l
  role : own_roles plan place n own ≡ role_on_line place o.l
  book : line_book plan (network_line n.lines own) ≡ free_book (line_plan o.l)

abbrev its_own : (plan : NetPlan) (place : ℕ) (n : NewSwitch) (own line : ℕ) → slice_get n.lines own ≡ Some line → (o : OwnLine plan place line) → Own plan place n own
its_own plan place n own line at o =
    let there : slice_get plan.lines (network_line n.lines own) ≡ Some o.l = ap (λ k. slice_get plan.lines k) (line_named n.lines own line at) ∙ o.there in
    record {
      line = line;
      at = at;
      o = o;
      there = there;
      role = ap (λ (x : Option NewLine). role_there place x) there;
      book = ap book_or (free_there plan (network_line n.lines own) o.l there);
    }

module _ (plan : NetPlan) (is : IsPlan plan) (place : ℕ) (n : NewSwitch) (at : slice_get plan.nodes place ≡ Some (PlannedSwitch n)) where
  abbrev configs_here : List SwitchLineConfig
  configs_here = own_configs place n.lines plan.lines

  abbrev switch_made : Switch
  switch_made = made n.routes configs_here

  c : Configs plan place n
  c = configs plan place n is at

  own_of : (own : ℕ) → own < length n.lines → Own plan place n own
  own_of own less = let x = get_there n.lines own less in its_own plan place n own x.0 x.1 (c.each own x.0 x.1).0

  -- an own line of the switch is made so
  record OwnMade (own : ℕ) (l : SwitchLine) : Type 0 where
    its : Own plan place n own
    so : l ≡ made_line (line_config place its.o.l)

  own_made : (own : ℕ) (l : SwitchLine) → slice_get switch_made.lines own ≡ Some l → OwnMade own l
  own_made own l got =
      let x = unmapped made_line configs_here own l got in
      let b = c.back own x.0 x.1 in
      record { its = its_own plan place n own b.0 b.2 b.1; so = x.2 ∙ ap made_line b.3 }

  -- ---- before its first frames go

  addresses : (own : ℕ) (l : SwitchLine) → slice_get switch_made.lines own ≡ Some l → MayBeDigits (digits_or_none l.address)
  addresses own l got =
      let m = own_made own l got in
      subst (λ (xs : List ℕ). MayBeDigits xs) (sym (ap (λ (y : SwitchLine). digits_or_none y.address) m.so ∙ digits_of m.its.o.l.address)) m.its.o.digits

  setting_of : (own : ℕ) (m : Own plan place n own) → IsSetting (standing_made m.o.l).setting
  setting_of own m = record { dte = m.o.is.params; dce = m.o.is.params; alike = record { channels = refl; flow = refl; standing = refl } }

  free_now : (l : NewLine) → l.params.standing ≡ false → made_book l.dte l.dce l.params.channels l.params.standing ≡ free_book (line_plan l)
  free_now l none = ap (λ (b : Bool). made_book l.dte l.dce l.params.channels b) none

  kept_new : (lines : Lines) → ((k : ℕ) (l : NewLine) → slice_get plan.lines k ≡ Some l → lines k ≡ standing_made l) → (own : ℕ) (l : SwitchLine)
      → slice_get switch_made.lines own ≡ Some l → KeptWith ((made_histories plan place n lines).partners own) ((made_histories plan place n lines).books own) l.end
  kept_new lines are own l got =
      let m = own_made own l got in
      let k : ℕ = network_line n.lines own in
      let is : lines k ≡ standing_made m.its.o.l = are k m.its.o.l m.its.there in
      kept_own (own_roles plan place n own) (lines k) (line_book plan k) l.end
      (ap (λ (y : SwitchLine). y.end) m.so ∙ sym (made_end (role_on_line place m.its.o.l) m.its.o.l)
      ∙ ap (λ (x : Standing). end_at (role_on_line place m.its.o.l) x.line) (sym is) ∙ ap (λ (r : Role). end_at r (lines k).line) (sym m.its.role))
      (subst (λ (b : Book). Kept (lines k).setting b (lines k).line) (sym m.its.book)
      (subst (λ (x : Standing). Kept x.setting (free_book (line_plan m.its.o.l)) x.line) (sym is)
      (subst (λ (b : Book). Kept (standing_made m.its.o.l).setting b (standing_made m.its.o.l).line) (free_now m.its.o.l m.its.o.free)
      (made_kept (standing_made m.its.o.l).setting (setting_of own m.its)))))

  records_new : (lines : Lines) (own : ℕ) (layer : Layer) → slice_get (map (λ (y : SwitchLine). y.end.layer) switch_made.lines) own ≡ Some layer
      → AreRecords Dce layer (λ k. (made_histories plan place n lines).legs (record { line = own; channel = k })) ((made_histories plan place n lines).books own)
  records_new lines own layer got =
      let x = unmapped (λ (y : SwitchLine). y.end.layer) switch_made.lines own layer got in
      let m = own_made own x.0 x.1 in
      let l : NewLine = m.its.o.l in
      let legs = λ (k : ℕ). new_legs configs_here (record { line = own; channel = k }) in
      subst (λ (r : Role). AreRecords Dce layer legs (sight r (line_book plan (network_line n.lines own)))) (sym m.its.role)
      (subst (λ (b : Book). AreRecords Dce layer legs (sight (role_on_line place l) b)) (sym m.its.book)
      (subst (λ (y : Layer). AreRecords Dce y legs (sight (role_on_line place l) (free_book (line_plan l)))) (sym (x.2 ∙ ap (λ (y : SwitchLine). y.end.layer) m.so))
      (subst (λ (v : Bool). AreRecords Dce (layers.made (role_on_line place l) l.params.channels l.params.flow v) legs (sight (role_on_line place l) (free_book (line_plan l)))) (sym m.its.o.free)
      (free_records (role_on_line place l) l.params.channels l.params.flow l.dte l.dce legs))))

  tied_new : (lines : Lines) → ((k : ℕ) (l : NewLine) → slice_get plan.lines k ≡ Some l → lines k ≡ standing_made l) → IsTied switch_made (made_histories plan place n lines)
  tied_new lines are =
      let h : Histories = made_histories plan place n lines in
      tied_holds.begins n.routes configs_here h.books h.partners (is_config plan place n is at) addresses (kept_new lines are) (records_new lines)

  -- ---- when they went

  abbrev switch_out : Switch
  switch_out = drained switch_made

  record OwnOut (own : ℕ) (l : SwitchLine) : Type 0 where
    its : Own plan place n own
    so : l ≡ all_frames_out (made_line (line_config place its.o.l))

  own_out : (own : ℕ) (l : SwitchLine) → slice_get switch_out.lines own ≡ Some l → OwnOut own l
  own_out own l got =
      let x = unmapped all_frames_out switch_made.lines own l got in
      let m = own_made own x.0 x.1 in
      record { its = m.its; so = x.2 ∙ ap all_frames_out m.so }

  module _ (lines : Lines) (went : (k : ℕ) (l : NewLine) → slice_get plan.lines k ≡ Some l → WentOut l (lines k)) where
    abbrev histories_out : Histories
    histories_out = made_histories plan place n lines

    abbrev its_out : Switched
    its_out = record { switch = switch_out; histories = histories_out }

    end_out : (own : ℕ) (l : SwitchLine) → slice_get switch_out.lines own ≡ Some l → l.end ≡ end_at (own_roles plan place n own) (lines (network_line n.lines own)).line
    end_out own l got =
        let m = own_out own l got in
        let k : ℕ = network_line n.lines own in
        let w : WentOut m.its.o.l (lines k) = went k m.its.o.l m.its.there in
        ap (λ (y : SwitchLine). y.end) m.so ∙ sym (w.ends (role_on_line place m.its.o.l)) ∙ ap (λ (r : Role). end_at r (lines k).line) (sym m.its.role)

    kept_out : (own : ℕ) (l : SwitchLine) → slice_get switch_out.lines own ≡ Some l → KeptWith (histories_out.partners own) (histories_out.books own) l.end
    kept_out own l got =
        let m = own_out own l got in
        let k : ℕ = network_line n.lines own in
        let w : WentOut m.its.o.l (lines k) = went k m.its.o.l m.its.there in
        kept_own (own_roles plan place n own) (lines k) (line_book plan k) l.end (end_out own l got)
        (subst (λ (b : Book). Kept (lines k).setting b (lines k).line) (sym m.its.book) (w.kept m.its.o.free))

    out_drained : (start : Lines) → ((k : ℕ) (l : NewLine) → slice_get plan.lines k ≡ Some l → start k ≡ standing_made l) → Drained switch_made histories_out []
    out_drained start are =
        let h : Histories = made_histories plan place n start in
        all_drained switch_made h histories_out [] (tied_new start are) (calls_hold.begins n.routes configs_here h.books (is_config plan place n is at)) refl refl kept_out

    sight_out : (own : ℕ) → own < length n.lines → IsInSight its_out own (network_line n.lines own) lines (map free_book (plans_of plan))
    sight_out own less =
        let m = own_of own less in
        let role : Role = own_roles plan place n own in
        record {
          book = free_there plan (network_line n.lines own) m.o.l m.there ∙ ap Some (sym m.book ∙ sym (sight_back role (line_book plan (network_line n.lines own))));
          line_is = λ l got. line_back role (lines (network_line n.lines own)) l.end (end_out own l got);
        }

    -- ---- in the plan

    abbrev plan_here : Plan
    plan_here = plan_of plan

    end_user : (nodes : List Planned) (l : NewLine) (role : Role) (places : ℕ) → end_is_user nodes (Some l) role ≡ is_user (slice_get nodes (end_place places (Some l) role))
    end_user nodes l Dte places = refl
    end_user nodes l Dce places = refl

    planned_out : IsPlanned plan_here place n.lines (role_at its_out) switch_out
    planned_out = record {
      lines = sym c.count ∙ sym (length-map configs_here made_line) ∙ sym (length-map switch_made.lines all_frames_out);
      apart = λ i j less within same.
          let x = get_there n.lines i less in
          let y = get_there n.lines j within in
          let one : y.0 ≡ x.0 = sym (line_named n.lines j y.0 y.1) ∙ sym same ∙ line_named n.lines i x.0 x.1 in
          sw.apart i j x.0 x.1 (y.1 ∙ ap Some one);
      switch_end = λ own less.
          let m = own_of own less in
          ap (λ (o : Option NewLine). end_is_user plan.nodes o (own_roles plan place n own)) m.there
          ∙ ap (λ (r : Role). end_is_user plan.nodes (Some m.o.l) r) m.role
          ∙ end_user plan.nodes m.o.l (role_on_line place m.o.l) (length plan.nodes) ∙ ap (λ k. is_user (slice_get plan.nodes k)) m.o.at_end ∙ ap is_user at;
      placed = λ own less.
          let m = own_of own less in
          ap (λ (o : Option NewLine). end_place (length plan.nodes) o (own_roles plan place n own)) m.there
          ∙ ap (λ (r : Role). end_place (length plan.nodes) (Some m.o.l) r) m.role ∙ m.o.at_end;
      address = λ own l got.
          let m = own_out own l got in
          ap (λ (y : SwitchLine). y.address) m.so ∙ ap (λ (o : Option NewLine). address_of (address_on o)) (sym m.its.there);
      route = λ called own less routed.
          let x = get_there n.lines own less in
          ap (λ (o : Option Planned). goes_on o (address_of called)) at
          ∙ ap (λ (xs : List ℕ). option_and_then (λ (k : ℕ). slice_get n.lines k) (line_for n.routes xs)) (digits_of called)
          ∙ (ap (λ (o : Option ℕ). option_and_then (λ (k : ℕ). slice_get n.lines k) o) routed ∙ (x.1 ∙ ap (λ (k : ℕ). Some k) (sym (line_named n.lines own x.0 x.1))));
    }
      where
        sw : IsSwitchPlan plan.lines place n
        sw = is.nodes place (PlannedSwitch n) at

    pub made_at : (start : Lines) → ((k : ℕ) (l : NewLine) → slice_get plan.lines k ≡ Some l → start k ≡ standing_made l)
        → IsMadeAt plan_here place n.lines (record { switch = (placed_switch place n plan.lines).switch; histories = histories_out }) lines (map free_book (plans_of plan))
    made_at start are =
        let d = out_drained start are in
        record { planned = planned_out; tied = d.tied; calls = d.calls; sight = sight_out }
