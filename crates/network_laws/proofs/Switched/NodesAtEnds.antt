-- Which node stands at which end of each line of a network with switches: one node alone does, and where a node with
-- users changes at one line, all other lines stand as they stood.
use Rattle.std.proofs.Common.{◌≡◌, ◌≢◌, ℕ, List, length, set, Some, refl, sym, ap, ◌∙◌, subst, inl, inr}
use Rattle.std.specs.Prelude.{◌⊎◌, slice_get}
use Rattle.std.proofs.lemmas.Option.{same_Some}
use Rattle.std.proofs.lemmas.Bool.{cases_eq}
use Rattle.link_timers.specs.declared.role.Role.{Role}
use Rattle.link_timers.specs.declared.role.Role.TheVariants.{Dte, Dce}
use Rattle.record_laws.proofs.Books.Basics.{get_set, set_here, set_elsewhere, length_set}
use Rattle.user_nodes.specs.Node.{NodeState, Host}
use Rattle.switch_lines.specs.Lines.{SwitchLine}
use Rattle.net_events.specs.Network.{PlacedNode, PlacedSwitch, NetNode, User, Switching, NetLine, StandsAtLine, StandsAtLines, IsAtEnd, Stands, place_at, own_role}
use Rattle.net_events.proofs.Users.{user_is, same_user, not_switch, not_both}
use Rattle.network_laws.specs.Switched.IsSwitched.{IsEndOf, EndStands, IsUserThere, LineStands}

-- ---- one node stands at an end

-- no own line of a switch is another one of its lines too
abbrev pub AreApart : List NetNode → Type 0
AreApart nodes = (place : ℕ) (n : PlacedSwitch) → slice_get nodes place ≡ Some (Switching n) → (own other line : ℕ)
    → slice_get n.lines own ≡ Some line → slice_get n.lines other ≡ Some line → own ≡ other

end_is : (n : NetNode) (line : ℕ) (x y : NodeState)
    → ((s : PlacedSwitch) → n ≡ Switching s → (own other : ℕ) → slice_get s.lines own ≡ Some line → slice_get s.lines other ≡ Some line → own ≡ other)
    → IsEndOf n line x → IsEndOf n line y → x ≡ y
end_is (User n) line x y apart a b = a.1 ∙ sym b.1
end_is (Switching n) line x y apart a b =
    let same : a.0 ≡ b.0 = apart n refl a.0 b.0 a.2 b.2 in
    let lines : a.1 ≡ b.1 = same_Some a.1 b.1 (sym a.3 ∙ ap (λ k. slice_get n.switch.lines k) same ∙ b.3) in
    a.4 ∙ ap (λ (l : SwitchLine). Host l.end) lines ∙ sym b.4

pub same_end : (nodes : List NetNode) (line place : ℕ) (x y : NodeState) → AreApart nodes → EndStands nodes line place x → EndStands nodes line place y → x ≡ y
same_end nodes line place x y apart a b =
    let same : b.node ≡ a.node = same_Some b.node a.node (sym b.there ∙ a.there) in
    end_is a.node line x y (λ s is own other p q. apart place s (a.there ∙ ap Some is) own other line p q) a.end
    (subst (λ (n : NetNode). IsEndOf n line y) same b.end)

pub same_at : (nodes : List NetNode) (line : ℕ) (l : NetLine) → AreApart nodes → (a b : LineStands nodes line l) → a.at ≡ b.at
same_at nodes line l apart a b = λ i role. same_end nodes line (place_at role l) (a.at role) (b.at role) apart (a.there role) (b.there role) i

-- a node with users is at its line
pub record UserEnd (nodes : List NetNode) (line : ℕ) (l : NetLine) (h : LineStands nodes line l) (role : Role) (p : PlacedNode) : Type 0 where
  pub line_is : p.line ≡ line
  pub node_is : h.at role ≡ p.node

pub user_end : (nodes : List NetNode) (line : ℕ) (l : NetLine) (h : LineStands nodes line l) (role : Role) (p : PlacedNode)
    → slice_get nodes (place_at role l) ≡ Some (User p) → UserEnd nodes line l h role p
user_end nodes line l h role p at =
    let e : EndStands nodes line (place_at role l) (h.at role) = h.there role in
    let is : e.node ≡ User p = same_Some e.node (User p) (sym e.there ∙ at) in
    let end : IsEndOf (User p) line (h.at role) = subst (λ (n : NetNode). IsEndOf n line (h.at role)) is e.end in
    record { line_is = end.0; node_is = end.1 }

-- ---- a node with users changes

-- the nodes after it: those that stand at another line are the same, each stands where it stood, and a switch stays
pub record ChangesAt (nodes new : List NetNode) (line : ℕ) : Type 0 where
  pub count : length new ≡ length nodes
  pub others : (place : ℕ) (m : PlacedNode) → slice_get nodes place ≡ Some (User m) → m.line ≢ line → slice_get new place ≡ Some (User m)
  pub stood : (place : ℕ) (m : PlacedNode) → slice_get new place ≡ Some (User m) → (old : PlacedNode) × (slice_get nodes place ≡ Some (User old)) × (m.line ≡ old.line)
  pub switches : (place : ℕ) (m : PlacedSwitch) → slice_get new place ≡ Some (Switching m) → slice_get nodes place ≡ Some (Switching m)
  pub stay : (place : ℕ) (m : PlacedSwitch) → slice_get nodes place ≡ Some (Switching m) → slice_get new place ≡ Some (Switching m)

pub same_nodes : (nodes : List NetNode) (line : ℕ) → ChangesAt nodes nodes line
same_nodes nodes line = record {
  count = refl;
  others = λ k m there apart. there;
  stood = λ k m there. (m, there, refl);
  switches = λ k m there. there;
  stay = λ k m there. there;
}

pub one_set : (nodes : List NetNode) (place line : ℕ) (q x : PlacedNode) → slice_get nodes place ≡ Some (User q) → q.line ≡ line → x.line ≡ q.line
    → ChangesAt nodes (set nodes place (User x)) line
one_set nodes place line q x at is same = record {
  count = length_set nodes place (User x);
  others = λ k m there apart. set_elsewhere nodes place k (User x) (λ e. apart (ap (λ (y : PlacedNode). y.line) (same_user m q (sym there ∙ ap (λ i. slice_get nodes i) e ∙ at)) ∙ is)) ∙ there;
  stood = λ k m there. by k m (get_set nodes place (User x) k (User m) there);
  switches = λ k m there. switch_by k m (get_set nodes place (User x) k (Switching m) there);
  stay = λ k m there. set_elsewhere nodes place k (User x) (λ e. not_both q m (sym at ∙ ap (λ i. slice_get nodes i) (sym e) ∙ there)) ∙ there;
}
  where
    by : (k : ℕ) (m : PlacedNode) → ((k ≡ place) × (User m ≡ User x)) ⊎ ((k ≢ place) × (slice_get nodes k ≡ Some (User m))) → (o : PlacedNode) × (slice_get nodes k ≡ Some (User o)) × (m.line ≡ o.line)
    by k m (inl e) = (q, ap (λ i. slice_get nodes i) e.0 ∙ at, ap (λ (y : PlacedNode). y.line) (user_is m x e.1) ∙ same)
    by k m (inr e) = (m, e.1, refl)

    switch_by : (k : ℕ) (m : PlacedSwitch) → ((k ≡ place) × (Switching m ≡ User x)) ⊎ ((k ≢ place) × (slice_get nodes k ≡ Some (Switching m))) → slice_get nodes k ≡ Some (Switching m)
    switch_by k m (inl e) = absurd (not_switch x m (sym e.1))
    switch_by k m (inr e) = e.1

-- ---- other lines stand as they stood

pub end_moved : (nodes new : List NetNode) (line k place : ℕ) (x : NodeState) → ChangesAt nodes new line → k ≢ line → EndStands nodes k place x → EndStands new k place x
end_moved nodes new line k place x w apart h = by h.node h.there h.end
  where
    by : (n : NetNode) → slice_get nodes place ≡ Some n → IsEndOf n k x → EndStands new k place x
    by (User n) there end = record { node = User n; there = w.others place n there (λ e. apart (sym end.0 ∙ e)); end = end }
    by (Switching n) there end = record { node = Switching n; there = w.stay place n there; end = end }

pub users_moved : (nodes new : List NetNode) (line k : ℕ) (m : NetLine) → ChangesAt nodes new line → k ≢ line → LineStands nodes k m → IsUserThere new m.dce → IsUserThere new m.dte
users_moved nodes new line k m w apart h u =
    let was = w.stood m.dce u.0 u.1 in
    let v = h.users (was.0, was.1) in
    (v.0, w.others m.dte v.0 v.1 (λ e. apart (sym (user_end nodes k m h Dte v.0 v.1).line_is ∙ e)))

abbrev pub stands_moved : (nodes new : List NetNode) (line k : ℕ) (m : NetLine) → ChangesAt nodes new line → k ≢ line → LineStands nodes k m → LineStands new k m
stands_moved nodes new line k m w apart h = record {
  at = h.at;
  there = λ role. end_moved nodes new line k (place_at role m) (h.at role) w apart (h.there role);
  quiet = h.quiet;
  apart = h.apart;
  host = h.host;
  users = users_moved nodes new line k m w apart h;
}

-- ---- each node stands at its lines

pub same_place : (role : Role) (l l' : NetLine) → l'.dte ≡ l.dte → l'.dce ≡ l.dce → place_at role l' ≡ place_at role l
same_place Dte l l' dte dce = dte
same_place Dce l l' dte dce = dce

-- the frames in flight on one line change
pub end_after : (lines : List NetLine) (line : ℕ) (l l' : NetLine) → slice_get lines line ≡ Some l → l'.dte ≡ l.dte → l'.dce ≡ l.dce
    → (place : ℕ) (role : Role) (k : ℕ) → IsAtEnd lines place role k → IsAtEnd (set lines line l') place role k
end_after lines line l l' at dte dce place role k h = by (cases_eq k line)
  where
    by : (k ≡ line) ⊎ (k ≢ line) → IsAtEnd (set lines line l') place role k
    by (inl same) =
        let is : h.line_is ≡ l = same_Some h.line_is l (sym h.there ∙ ap (λ i. slice_get lines i) same ∙ at) in
        record {
          line_is = l';
          there = ap (λ i. slice_get (set lines line l') i) same ∙ set_here lines line l' l at;
          at_end = same_place role l l' dte dce ∙ ap (λ (x : NetLine). place_at role x) (sym is) ∙ h.at_end;
        }
    by (inr other) = record { line_is = h.line_is; there = set_elsewhere lines line k l' other ∙ h.there; at_end = h.at_end }

pub user_after : (lines : List NetLine) (line : ℕ) (l l' : NetLine) → slice_get lines line ≡ Some l → l'.dte ≡ l.dte → l'.dce ≡ l.dce
    → (place : ℕ) (m old : PlacedNode) → m.line ≡ old.line → StandsAtLine lines place old → StandsAtLine (set lines line l') place m
user_after lines line l l' at dte dce place m old was st = by (cases_eq m.line line)
  where
    by : (m.line ≡ line) ⊎ (m.line ≢ line) → StandsAtLine (set lines line l') place m
    by (inl same) =
        let is : st.line ≡ l = same_Some st.line l (sym st.there ∙ ap (λ k. slice_get lines k) (sym was ∙ same) ∙ at) in
        record {
          line = l';
          there = ap (λ k. slice_get (set lines line l') k) same ∙ set_here lines line l' l at;
          at_end = elim st.at_end [
            | inl e ↦ inl (dte ∙ ap (λ (x : NetLine). x.dte) (sym is) ∙ e)
            | inr e ↦ inr (dce ∙ ap (λ (x : NetLine). x.dce) (sym is) ∙ e)
          ];
        }
    by (inr other) = record {
      line = st.line;
      there = set_elsewhere lines line m.line l' other ∙ ap (λ k. slice_get lines k) was ∙ st.there;
      at_end = st.at_end;
    }

pub nodes_after : (lines : List NetLine) (nodes new : List NetNode) (line : ℕ) (l l' : NetLine) → slice_get lines line ≡ Some l → l'.dte ≡ l.dte → l'.dce ≡ l.dce
    → ChangesAt nodes new line → ((place : ℕ) (n : NetNode) → slice_get nodes place ≡ Some n → Stands lines place n)
    → (place : ℕ) (m : NetNode) → slice_get new place ≡ Some m → Stands (set lines line l') place m
nodes_after lines nodes new line l l' at dte dce w old place (User m) there =
    let was = w.stood place m there in user_after lines line l l' at dte dce place m was.0 was.2 (old place (User was.0) was.1)
nodes_after lines nodes new line l l' at dte dce w old place (Switching m) there =
    let st : StandsAtLines lines place m = old place (Switching m) (w.switches place m there) in
    record {
      count = st.count;
      apart = st.apart;
      each = λ own k there. end_after lines line l l' at dte dce place (own_role m.switch own) k (st.each own k there);
    }

pub are_apart : (lines : List NetLine) (nodes : List NetNode) → ((place : ℕ) (n : NetNode) → slice_get nodes place ≡ Some n → Stands lines place n) → AreApart nodes
are_apart lines nodes stand place n there own other line a b = (stand place (Switching n) there).apart own other line a b
