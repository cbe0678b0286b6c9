-- What holds of the paths of a network is what it promises of its calls, in words of its nodes' kinds and its register.
use Rattle.std.proofs.Common.{◌≡◌, ℕ, ◌<◌, ◌≤◌, true, true≢false, List, [], length, map, Option, Some, None, refl, sym, ap, ◌∙◌, arith}
use Rattle.std.specs.Prelude.{slice_get}
use Rattle.std.proofs.lemmas.List.{length-map}
use Rattle.std.proofs.lemmas.Option.{same_Some, slice_get_within}
use Rattle.link_timers.specs.declared.role.Role.{Role}
use Rattle.link_timers.specs.declared.role.Role.TheVariants.{Dte, Dce}
use Rattle.link_timers.specs.Role.{other_of}
use Rattle.call_records.specs.Records.{RecordValue, HopValue, PairValue}
use Rattle.call_records.specs.Book.{address_of}
use Rattle.call_records.specs.Register.{LineEnds, found_ends}
use Rattle.record_laws.specs.Words.{HasTyped}
use Rattle.record_laws.specs.CallPaths.PathPromise.{Plan, address_at, PathIsRight, PathHolds, PathsHold, IsPlacedAt, by_caller, by_switch}
use Rattle.record_laws.proofs.Books.Basics.{get_there}
use Rattle.user_nodes.specs.Node.{NodeState, Pad, Host}
use Rattle.net_events.specs.Network.{PlacedNode, NetNode, User, Switching, NetLine, Network, place_at}
use Rattle.network_laws.specs.LinesPromise.{PadsSend}
use Rattle.network_laws.specs.CallsPromise.{NodeKind, PadNode, SwitchNode, is_user, HasNoSwitch, IsPlanFor}
use Rattle.network_laws.specs.Switched.Plans.{has_users, IsPlanOf}
use Rattle.network_laws.specs.Switched.IsSwitched.{IsAddressed}
use Rattle.network_laws.specs.Switched.Histories.{HasUserAt}
use Rattle.network_laws.specs.Switched.InnerPromise.{user_kind, kind_of, PromisesCalls}
use Rattle.network_laws.proofs.Mapped.{mapped, unmapped}
use Rattle.network_laws.proofs.Switched.FarAddresses.{AreEnds, past, far_none}

user_so : (x : NodeState) → is_user (user_kind x) ≡ true
user_so (Pad p) = refl
user_so (Host e) = refl

same_kind : (n : NetNode) → has_users n ≡ is_user (kind_of n)
same_kind (User n) = sym (user_so n.node)
same_kind (Switching n) = refl

-- a call that is placed at an end with a user has no hop
by_itself : (plan : Plan) (caller : RecordValue) (first : ℕ) (hops : List HopValue) (line : ℕ) (role : Role) → plan.has_user line role ≡ true → IsPlacedAt plan caller first hops line role → hops ≡ []
by_itself plan caller first hops line role user (by_caller node own) = refl
by_itself plan caller first hops line role user (by_switch from end channel p same none route) = absurd (true≢false (sym user ∙ none))

abbrev onward_of : NodeKind → (List ℕ → Option ℕ) → List ℕ → Option ℕ
onward_of (SwitchNode onward) other = onward
onward_of kind other = other

module _ (s : Network) (plan : Plan) (plan_is : IsPlanOf s plan) (paths : PathsHold plan s.register) (a : IsAddressed s) (ends : AreEnds plan s)
    (users : (i : ℕ) (r : RecordValue) → slice_get s.register.records i ≡ Some r → (n : PlacedNode) × (slice_get s.nodes r.node ≡ Some (User n)))
    (node_there : (line : ℕ) (l : NetLine) (role : Role) → slice_get s.lines line ≡ Some l → (n : NetNode) × (slice_get s.nodes (place_at role l) ≡ Some n)) (pads : PadsSend s) where
  line_at : (line : ℕ) → line < length s.register.lines → (l : NetLine) × (slice_get s.lines line ≡ Some l)
  line_at line less = get_there s.lines line (let c = a.registered in omega arith)

  -- a line at an end of which the plan has a node that is there is a line of the network
  its_line : (line : ℕ) (role : Role) → plan.node line role < length s.nodes → (l : NetLine) × (slice_get s.lines line ≡ Some l)
  its_line line role less = by (slice_get s.lines line) refl
    where
      by : (o : Option NetLine) → slice_get s.lines line ≡ o → (l : NetLine) × (slice_get s.lines line ≡ Some l)
      by (Some l) e = (l, e)
      by None e = absurd (let far = plan_is.nowhere line role (past s.lines line e) in omega arith)

  -- where the plan has a user at an end of a line, one stands there
  user_there : (line : ℕ) (l : NetLine) (role : Role) → slice_get s.lines line ≡ Some l → plan.has_user line role ≡ true → HasUserAt s l role
  user_there line l role at user = let e = node_there line l role at in by e.0 e.1
    where
      by : (x : NetNode) → slice_get s.nodes (place_at role l) ≡ Some x → HasUserAt s l role
      by (User x) there = (x, there)
      by (Switching x) there = absurd (true≢false (sym user ∙ plan_is.user line l role (Switching x) at there))

  goes_on : (place : ℕ) (onward : List ℕ → Option ℕ) (called : List ℕ) (n : NetNode) → slice_get s.nodes place ≡ Some n → SwitchNode onward ≡ kind_of n
      → plan.route place (address_of called) ≡ onward called
  goes_on place onward called (User n) at e = absurd (true≢false (sym (ap is_user e ∙ user_so n.node)))
  goes_on place onward called (Switching n) at e = plan_is.route place n called at ∙ ap (λ k. onward_of k onward called) (sym e)

  ends_for : (line : ℕ) (e : LineEnds) → slice_get s.register.lines line ≡ Some e → (l : NetLine) × (slice_get s.lines line ≡ Some l)
      → (plan.node line Dte ≡ e.dte.node) × (plan.node line Dce ≡ e.dce.node) × (plan.address line ≡ e.dte.address)
  ends_for line e there l =
      let is : found_ends (slice_get s.register.lines line) ≡ e = ap (λ (o : Option LineEnds). found_ends o) there in (
        plan_is.node line l.0 Dte l.1 ∙ sym (ends.nodes line l.0 Dte l.1) ∙ ap (λ (x : LineEnds). x.dte.node) is,
        plan_is.node line l.0 Dce l.1 ∙ sym (ends.nodes line l.0 Dce l.1) ∙ ap (λ (x : LineEnds). x.dce.node) is,
        plan_is.address line l.0 l.1 ∙ ap (λ (x : LineEnds). x.dte.address) is,
      )

  plan_for : IsPlanFor (map kind_of s.nodes) s.register plan
  plan_for = record {
    line = λ line ends there. ends_for line ends there (line_at line (slice_get_within s.register.lines line ends there));
    nowhere = λ line role more.
        let far : length s.nodes ≤ plan.node line role = plan_is.nowhere line role (let c = a.registered in omega arith) in
        let count : length (map kind_of s.nodes) ≡ length s.nodes = length-map s.nodes kind_of in omega arith;
    user = λ line role kind at.
        let n = unmapped kind_of s.nodes (plan.node line role) kind at in
        let l = its_line line role (slice_get_within s.nodes (plan.node line role) n.0 n.1) in
        plan_is.user line l.0 role n.0 l.1 (ap (λ k. slice_get s.nodes k) (sym (plan_is.node line l.0 role l.1)) ∙ n.1) ∙ same_kind n.0 ∙ ap is_user (sym n.2);
    route = λ place onward called at. let n = unmapped kind_of s.nodes place (SwitchNode onward) at in goes_on place onward called n.0 n.1 n.2;
  }

  typed_at : (i : ℕ) (r : RecordValue) → slice_get s.register.records i ≡ Some r → (n : NetNode) → slice_get s.nodes r.node ≡ Some n → PadNode ≡ kind_of n → HasTyped r
  typed_at i r at (Switching n) there e = absurd (cc)
  typed_at i r at (User n) there e = by n.node refl e
    where
      by : (x : NodeState) → n.node ≡ x → PadNode ≡ user_kind x → HasTyped r
      by (Pad p) same e = ((pads r.node n p there same).sent i r at refl).typed
      by (Host x) same e = absurd (cc)

  -- without a switch a user is at each end of each line, so that each call was placed by its caller
  no_hops : HasNoSwitch (map kind_of s.nodes) → (i : ℕ) (pair : PairValue) (caller : RecordValue) → slice_get s.register.pairs i ≡ Some pair
      → slice_get s.register.records pair.caller ≡ Some caller → caller.path ≡ []
  no_hops none i pair caller there is =
      let h : PathHolds plan s.register pair = paths.pairs_hold i pair there in
      let r : PathIsRight plan h.caller h.callee = h.is_right in
      let same : h.caller ≡ caller = same_Some h.caller caller (sym h.caller_there ∙ is) in
      let callee = users pair.callee h.callee h.callee_there in
      let l = its_line r.line r.role (let within = slice_get_within s.nodes h.callee.node (User callee.0) callee.1 in let at = r.node in omega arith) in
      let n = node_there r.line l.0 (other_of r.role) l.1 in
      let user : plan.has_user r.line (other_of r.role) ≡ true =
      plan_is.user r.line l.0 (other_of r.role) n.0 l.1 n.1 ∙ same_kind n.0 ∙ none (place_at (other_of r.role) l.0) (kind_of n.0) (mapped kind_of s.nodes (place_at (other_of r.role) l.0) n.0 n.1) in
      ap (λ (x : RecordValue). x.path) (sym same) ∙ by_itself plan h.caller r.first h.caller.path r.line (other_of r.role) user r.placed

  own_address : (i : ℕ) (pair : PairValue) (caller : RecordValue) → slice_get s.register.pairs i ≡ Some pair → slice_get s.register.records pair.caller ≡ Some caller
      → (line : ℕ) × (role : Role) × (caller.node ≡ plan.node line role) × (caller.own ≡ address_of (address_at plan line role))
  own_address i pair caller there is =
      let o = a.own.pairs i pair there in
      let same : o.value ≡ caller = same_Some o.value caller (sym o.there ∙ is) in
      let l = line_at o.own.line o.own.within in (
        o.own.line,
        o.own.role,
        ap (λ (r : RecordValue). r.node) (sym same) ∙ o.own.at_end ∙ ends.nodes o.own.line l.0 o.own.role l.1 ∙ sym (plan_is.node o.own.line l.0 o.own.role l.1),
        ap (λ (r : RecordValue). r.own) (sym same) ∙ o.own.is ∙ ap address_of (ends.addresses o.own.line l.0 o.own.role l.1),
      )

  pub calls_promised : PromisesCalls s
  calls_promised = record {
    plan = plan;
    plan_is = plan_for;
    paths = paths;
    of_users = λ i r at.
        let n = users i r at in
        (kind_of (User n.0), mapped kind_of s.nodes r.node (User n.0) n.1, user_so n.0.node);
    typed = λ i r at pad. let n = unmapped kind_of s.nodes r.node PadNode pad in typed_at i r at n.0 n.1 n.2;
    own = own_address;
    far = λ i line role pair callee there is at user.
        let n = users pair.callee callee is in
        let l = its_line line role (let within = slice_get_within s.nodes callee.node (User n.0) n.1 in omega arith) in
        far_none s plan plan_is paths a ends i line pair callee l.0 role there is l.1 (at ∙ plan_is.node line l.0 role l.1) (user_there line l.0 Dce l.1 user);
    alone = no_hops;
  }
