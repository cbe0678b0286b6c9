-- The first rule that does not hold: none is found exactly of a network that is served, and one that is does not hold.
use Rattle.std.proofs.Common.{◌≡◌, ℕ, ◌<◌, Bool, true, false, ◌&&◌, ◌||◌, not, cond, List, [], ◌∷◌, length, Option, Some, None}
use Rattle.std.proofs.Common.{refl, sym, ap, subst, ◌∙◌, arith, true≢false, ◌==◌}
use Rattle.std.specs.Prelude.{slice_get, find, is_none, IfSome, option_map, option_and_then, nat_lt, nat_le, string_bytes}
use Rattle.std.specs.List.{list_all, list_any, position, position_or_len, filter}
use Rattle.std.specs.Option.{option_or}
use Rattle.std.proofs.lemmas.List.Folds.{find_at}
use Rattle.std.proofs.lemmas.Option.{same_Some, slice_get_past}
use Rattle.std.proofs.lemmas.Bool.{ltb-false, and_parts, and_left, and_from}
use Rattle.std.proofs.lemmas.Grind.{common_steps}
use Rattle.net_config.specs.Served.{is_from, is_named, has_dte, has_end, exactly_one, is_accepted, most_lines, is_kind_served}
use Rattle.net_config.specs.Served.{is_route_of, is_node_served, same_text, is_dce_named, is_from_switch, is_at_switch}
use Rattle.net_config.specs.Served.{leads_back, is_numbered, is_sized, suits_pad, is_address, may_stand}
use Rattle.net_config.specs.Served.{is_line_served, is_switch_named, ends_at, same_route, is_route_served, is_served}
use Rattle.net_config.specs.Rules.{if_pad, node_keeps, node_rules, line_keeps, line_rules, route_keeps, route_rules, first_of, first_at}
use Rattle.net_config.specs.Rules.{broken_name, broken_line, broken_node, broken_route, broken_count, first_broken, Breaks, has_few_switches}
use Rattle.net_config.specs.declared.config.Config.{Config}
use Rattle.net_config.specs.declared.config.NodeConfig.{NodeConfig}
use Rattle.net_config.specs.declared.config.NodeKind.{NodeKind}
use Rattle.net_config.specs.declared.config.NodeKind.TheVariants as node_kind
use Rattle.net_config.specs.declared.config.LineConfig.{LineConfig}
use Rattle.net_config.specs.declared.config.RouteConfig.{RouteConfig}
use Rattle.net_config.specs.declared.rules.BrokenRule.TheVariants as broken
use Rattle.net_config.proofs.Naming.{node_is_served}
use Rattle.net_config.specs.declared.rules.NodeRule.TheVariants as node_rule

-- ---- the first that fails

pub found_or_all : {A : Type 0} (test : A → Bool) (xs : List A) → is_none (find (λ x. not (test x)) xs) ≡ list_all test xs
found_or_all test [] = refl
found_or_all test (x ∷ xs) = go (test x) (found_or_all test xs)
  where
    go : (b : Bool) → is_none (find (λ y. not (test y)) xs) ≡ list_all test xs
        → is_none (cond (not b) (Some x) (find (λ y. not (test y)) xs)) ≡ (b && list_all test xs)
    go true rest = rest
    go false rest = refl

found_fails : {A : Type 0} (test : A → Bool) (xs : List A) (x : A) → find (λ y. not (test y)) xs ≡ Some x → test x ≡ false
found_fails test [] x e = cc
found_fails test (y ∷ xs) x e = go (test y) refl (found_fails test xs x) e
  where
    go : (b : Bool) → test y ≡ b → (find (λ z. not (test z)) xs ≡ Some x → test x ≡ false)
        → cond (not b) (Some y) (find (λ z. not (test z)) xs) ≡ Some x → test x ≡ false
    go true is rest h = rest h
    go false is rest h = ap test (sym (same_Some y x h)) ∙ is

none_of_map : {A B : Type 0} (f : A → B) (o : Option A) → is_none (option_map f o) ≡ is_none o
none_of_map f None = refl
none_of_map f (Some x) = refl

-- what is made of the place of the first and of what stands there
at_first : {A B : Type 0} (test : A → Bool) (made : ℕ → A → Option B) (xs : List A)
    → option_and_then (λ i. option_and_then (made i) (slice_get xs i)) (position test xs)
    ≡ option_and_then (made (position_or_len test xs)) (slice_get xs (position_or_len test xs))
at_first test made xs = go (nat_lt (position_or_len test xs) (length xs)) refl
  where
    go : (b : Bool) → nat_lt (position_or_len test xs) (length xs) ≡ b
        → option_and_then (λ i. option_and_then (made i) (slice_get xs i)) (cond b (Some (position_or_len test xs)) None)
        ≡ option_and_then (made (position_or_len test xs)) (slice_get xs (position_or_len test xs))
    go true within = refl
    go false beyond =
        sym (ap (option_and_then (made (position_or_len test xs))) (slice_get_past xs (position_or_len test xs) (ltb-false _ _ beyond)))

module _ {A R B : Type 0} (passes : A → Bool) (keeps : A → R → Bool) (rules : List R) (made : ℕ → R → B) where
  broken_at : ℕ → A → Option B
  broken_at place x = option_map (made place) (first_of keeps rules x)

  fails : A → Bool
  fails x = not (passes x)

  -- none is found exactly if all pass, where one that does not pass breaks a rule
  pub none_at : ((x : A) → passes x ≡ false → list_all (keeps x) rules ≡ false) → (xs : List A)
      → is_none (first_at passes keeps rules made xs) ≡ list_all passes xs
  unfolding broken_at fails
  none_at some xs =
      ap is_none (at_first fails broken_at xs)
      ∙ go (slice_get xs (position_or_len fails xs)) (find_at fails xs)
      ∙ found_or_all passes xs
    where
      go : (o : Option A) → find fails xs ≡ o
          → is_none (option_and_then (broken_at (position_or_len fails xs)) o) ≡ is_none (find fails xs)
      go None e = sym (ap is_none e)
      go (Some x) e =
          none_of_map (made (position_or_len fails xs)) (first_of keeps rules x)
          ∙ found_or_all (keeps x) rules ∙ some x (found_fails passes xs x e) ∙ sym (ap is_none e)

  -- what is found is a rule that does not hold of what stands at the place
  pub some_at : (Broken : B → Type 0)
      → (xs : List A)
      → ((place : ℕ) (rule : R) (x : A) → slice_get xs place ≡ Some x → keeps x rule ≡ false → Broken (made place rule))
      → IfSome (first_at passes keeps rules made xs) Broken
  unfolding broken_at fails
  some_at Broken xs is =
      subst (λ o. IfSome o Broken) (sym (at_first fails broken_at xs)) (go (slice_get xs (position_or_len fails xs)) refl)
    where
      rule_of : (x : A) → slice_get xs (position_or_len fails xs) ≡ Some x → (o : Option R) → first_of keeps rules x ≡ o
          → IfSome (option_map (made (position_or_len fails xs)) o) Broken
      rule_of x there None e = tt
      rule_of x there (Some rule) e = is (position_or_len fails xs) rule x there (found_fails (keeps x) rules rule e)

      go : (o : Option A) → slice_get xs (position_or_len fails xs) ≡ o
          → IfSome (option_and_then (broken_at (position_or_len fails xs)) o) Broken
      go None there = tt
      go (Some x) there = rule_of x there (first_of keeps rules x) refl

-- ---- nodes

node_bools : (one at few terminals speed settings routes : Bool)
    → (one && (at && few) && (terminals && speed && settings) && routes) ≡ false
    → (one && (at && (few && (terminals && (speed && (settings && (routes && true))))))) ≡ false
node_bools one at few terminals speed settings routes h = grind (arith, common_steps)

node_breaks : (c : Config) (n : NodeConfig) → is_node_served c n ≡ false → list_all (node_keeps c n) node_rules ≡ false
node_breaks c n bad =
    go n.kind (node_keeps c n node_rule.NameOnce) (node_keeps c n node_rule.FewRoutes)
    (length (filter (has_end (string_bytes n.name)) c.lines.items)) bad
  where
    go : (k : NodeKind) (one routes : Bool) (count : ℕ)
        → (one && is_from 1 (most_lines k) count && is_kind_served k && routes) ≡ false
        → (one && (nat_le 1 count && (nat_le count (most_lines k) && (if_pad (λ p. is_from 1 16 p.terminals) k
        && (if_pad (λ p. nat_le p.speed 255) k && (if_pad (λ p. list_all is_accepted p.settings.items) k
        && (routes && true))))))) ≡ false
    go (node_kind.Pad p) one routes count h =
        node_bools one (nat_le 1 count) (nat_le count 1) (is_from 1 16 p.terminals) (nat_le p.speed 255)
        (list_all is_accepted p.settings.items) routes h
    go node_kind.Host one routes count h = node_bools one (nat_le 1 count) (nat_le count 1) true true true routes h
    go node_kind.Switch one routes count h = node_bools one (nat_le 1 count) (nat_le count 64) true true true routes h

name_breaks : (c : Config) (n : NodeConfig) → node_keeps c n node_rule.NameOnce ≡ false
    → list_all (node_keeps c n) node_rules ≡ false
name_breaks c n bad = and_left (node_keeps c n node_rule.NameOnce) _ bad

-- ---- lines

line_bools : (d e t p f s b o ch nu sz k n2 pad own none stand : Bool)
    → ((t && d && p) && ((not f || (s && b)) && o) && (ch && nu && sz && k && n2) && pad && cond (s && not f) own none && stand) ≡ false
    → (d && (e && (t && (p && ((not f || s) && ((not f || b) && (o && (ch && (nu && (sz && (k && (n2 && (pad
    && ((not (s && not f) || own) && (((s && not f) || none) && (stand && true)))))))))))))))) ≡ false
line_bools d e t p f s b o ch nu sz k n2 pad own none stand h = grind (arith, common_steps)

line_breaks : (c : Config) (l : LineConfig) → is_line_served c l ≡ false → list_all (line_keeps c l) line_rules ≡ false
line_breaks c l bad =
    line_bools (list_any (is_named (string_bytes l.dte)) c.nodes.items) (list_any (is_named (string_bytes l.dce)) c.nodes.items)
    (not (same_text (string_bytes l.dte) (string_bytes l.dce))) (list_any (is_dce_named (string_bytes l.dce)) c.nodes.items)
    (is_from_switch c.nodes.items l) (is_at_switch c.nodes.items l) (leads_back c.nodes.items l)
    (exactly_one (has_dte (string_bytes l.dte)) c.lines.items) (is_from 1 32 l.channels) (is_numbered l) (is_sized l)
    (is_from 1 7 l.k) (is_from 1 20 l.n2) (suits_pad c.nodes.items l) (is_address (string_bytes l.address))
    (length (string_bytes l.address) == 0) (not l.standing || may_stand c l) bad

-- ---- routes

route_bools : (of_switch prefix line once : Bool) → (of_switch && prefix && line && once) ≡ false
    → (of_switch && (prefix && (line && (once && true)))) ≡ false
route_bools of_switch prefix line once h = grind (arith, common_steps)

route_breaks : (c : Config) (r : RouteConfig) → is_route_served c r ≡ false → list_all (route_keeps c r) route_rules ≡ false
route_breaks c r bad =
    route_bools (list_any (is_switch_named (string_bytes r.switch)) c.nodes.items) (is_address (string_bytes r.prefix))
    (ends_at (string_bytes r.switch) (slice_get c.lines.items r.line)) (exactly_one (same_route r) c.routes.items) bad

-- ---- networks

pub none_of_or : {A : Type 0} (o p : Option A) → is_none (option_or o p) ≡ (is_none o && is_none p)
none_of_or None p = refl
none_of_or (Some x) p = refl

pub if_or : {A : Type 0} (P : A → Type 0) (o p : Option A) → IfSome o P → IfSome p P → IfSome (option_or o p) P
if_or P None p h g = g
if_or P (Some x) p h g = h

all_so : {A : Type 0} (p q : A → Bool) (xs : List A) → ((x : A) → p x ≡ true → q x ≡ true) → list_all p xs ≡ true
    → list_all q xs ≡ true
all_so p q [] so all = refl
all_so p q (x ∷ xs) so all =
    let parts = and_parts (p x) (list_all p xs) all in
    and_from (q x) (list_all q xs) (so x parts.0) (all_so p q xs so parts.1)

none_of_count : (b : Bool) → is_none (cond b None (Some broken.FewSwitches)) ≡ b
none_of_count true = refl
none_of_count false = refl

in_order : (names lines nodes routes few : Bool) → (nodes ≡ true → names ≡ true)
    → (names && (lines && (nodes && (routes && few)))) ≡ (nodes && lines && routes && few)
in_order true true true routes few h = refl
in_order true true false routes few h = refl
in_order true false true routes few h = refl
in_order true false false routes few h = refl
in_order false lines true routes few h = absurd (true≢false (sym (h refl)))
in_order false lines false routes few h = refl

pub none_broken : (c : Config) → is_none (first_broken c) ≡ is_served c
none_broken c =
    none_of_or (broken_name c) _
    ∙ ap (λ b. is_none (broken_name c) && b) (none_of_or (broken_line c) _
    ∙ ap (λ b. is_none (broken_line c) && b) (none_of_or (broken_node c) _
    ∙ ap (λ b. is_none (broken_node c) && b) (none_of_or (broken_route c) (broken_count c))))
    ∙ rw (
      none_at (λ n. node_keeps c n node_rule.NameOnce) (node_keeps c) node_rules broken.Node (name_breaks c) c.nodes.items,
      none_at (is_line_served c) (line_keeps c) line_rules broken.Line (line_breaks c) c.lines.items,
      none_at (is_node_served c) (node_keeps c) node_rules broken.Node (node_breaks c) c.nodes.items,
      none_at (is_route_served c) (route_keeps c) route_rules broken.Route (route_breaks c) c.routes.items,
      none_of_count (has_few_switches c),
    ) (in_order _ _ _ _ _ (all_so (is_node_served c) (λ n. node_keeps c n node_rule.NameOnce) c.nodes.items
    (λ n served. (node_is_served c n served).name)))

pub some_broken : (c : Config) → IfSome (first_broken c) (Breaks c)
some_broken c =
    if_or (Breaks c) (broken_name c) _ (some_at _ (node_keeps c) node_rules broken.Node (Breaks c) c.nodes.items (λ place rule n there bad. (n, there, bad)))
    (if_or (Breaks c) (broken_line c) _ (some_at _ (line_keeps c) line_rules broken.Line (Breaks c) c.lines.items (λ place rule l there bad. (l, there, bad)))
    (if_or (Breaks c) (broken_node c) _ (some_at _ (node_keeps c) node_rules broken.Node (Breaks c) c.nodes.items (λ place rule n there bad. (n, there, bad)))
    (if_or (Breaks c) (broken_route c) _ (some_at _ (route_keeps c) route_rules broken.Route (Breaks c) c.routes.items (λ place rule r there bad. (r, there, bad)))
    (count (has_few_switches c) refl))))
  where
    count : (b : Bool) → has_few_switches c ≡ b → IfSome (cond b None (Some broken.FewSwitches)) (Breaks c)
    count true is = tt
    count false is = is
