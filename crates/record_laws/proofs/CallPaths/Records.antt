-- Records and pairs, changed or added in both registers or in the whole one alone.
use Rattle.std.proofs.Common.{◌≡◌, ◌≢◌, ℕ, suc, ◌⊎◌, inl, inr, Bool, true, false, List, [], ◌∷◌, ◌++◌, length, Option, Some, refl, sym, ap, subst, ◌∙◌, arith, true≢false}
use Rattle.std.specs.Prelude.{slice_get, map, nat_le, if◌then◌else◌}
use Rattle.std.proofs.lemmas.Option.{same_Some, slice_get_within}
use Rattle.link_timers.specs.Role.{other_of}
use Rattle.call_records.specs.Records.{RecordValue, HopValue, PairValue, changed_at, with_hop}
use Rattle.record_laws.proofs.Books.Basics.{get_before, get_last, get_pushed, get_changed, length_changed, length_pushed, number_is}
use Rattle.record_laws.specs.Registers.Seen.{positions}
use Rattle.record_laws.proofs.Registers.Positions.{one_here, one_elsewhere}
use Rattle.record_laws.proofs.Registers.Steps.{IsBlind, changed_here, changed_elsewhere, same_place}
use Rattle.record_laws.specs.CallPaths.World.{Origin, placing, Join, Plan}
use Rattle.record_laws.specs.CallPaths.Seen.{kind, numbers, Begins, BeginsIf, own_of, shown, RecordIsShown, RecordsAreSeen, PairIsSeen, PairCame, PairsAreSeen}
use Rattle.record_laws.proofs.CallPaths.Ways.{numbered_user}
use Rattle.record_laws.proofs.CallPaths.Growing.{Extends, more_begins_if, more_join, more_pair, more_pair_came, numbers_user, numbers_switch, user_extends, switch_extends}

-- a change that leaves the number, the node, the addresses, the caller and the path of a record as they are, and looks at none
-- of them but the node and the far address
pub record IsMild (f : RecordValue → RecordValue) : Type 0 where
  pub blind : IsBlind f
  pub beside : (n : ℕ) (own : Option (List ℕ)) (caller : Option ℕ) (path : List HopValue) (r : RecordValue)
      → f (record r { number = n; own = own; caller = caller; path = path }) ≡ record (f r) { number = n; own = own; caller = caller; path = path }
  pub number : (r : RecordValue) → (f r).number ≡ r.number
  pub node : (r : RecordValue) → (f r).node ≡ r.node
  pub own : (r : RecordValue) → (f r).own ≡ r.own
  pub far : (r : RecordValue) → (f r).far ≡ r.far
  pub caller : (r : RecordValue) → (f r).caller ≡ r.caller
  pub path : (r : RecordValue) → (f r).path ≡ r.path

-- a change that leaves the node and the addresses
pub record KeepsHead (f : RecordValue → RecordValue) : Type 0 where
  pub node : (r : RecordValue) → (f r).node ≡ r.node
  pub own : (r : RecordValue) → (f r).own ≡ r.own
  pub far : (r : RecordValue) → (f r).far ≡ r.far

pub keeps_head : (f : RecordValue → RecordValue) → IsMild f → KeepsHead f
keeps_head f mild = record { node = mild.node; own = mild.own; far = mild.far }

-- one more hop leaves all but the path as it is
pub hop_path : (hop : HopValue) (r : RecordValue) → with_hop hop r ≡ record r { path = (with_hop hop r).path }
hop_path hop r = by_room (nat_le 16 (length r.path)) where
  by_room : (full : Bool) → (if full then r else record r { path = r.path ++ hop ∷ [] }) ≡ record r { path = (if full then r else record r { path = r.path ++ hop ∷ [] }).path }
  by_room true = refl
  by_room false = refl

pub hop_keeps_head : (hop : HopValue) → KeepsHead (with_hop hop)
hop_keeps_head hop = record {
  node = λ r. ap (λ (x : RecordValue). x.node) (hop_path hop r);
  own = λ r. ap (λ (x : RecordValue). x.own) (hop_path hop r);
  far = λ r. ap (λ (x : RecordValue). x.far) (hop_path hop r);
}

module _ (plan : Plan) (os : List Origin) (js : List Join) where
  -- ---- a record changes

  changed_nodes : (whole : List RecordValue) (k : ℕ) (f : RecordValue → RecordValue) → IsMild f
      → ((m : ℕ) (o : Origin) (r : RecordValue) → slice_get os m ≡ Some o → slice_get whole m ≡ Some r → r.node ≡ plan.node o.line o.role)
      → (m : ℕ) (o : Origin) (r : RecordValue) → slice_get os m ≡ Some o → slice_get (changed_at k f whole) m ≡ Some r → r.node ≡ plan.node o.line o.role
  changed_nodes whole k f mild h m o r origin at =
      let old = get_changed whole k f m r at in
      elim old.2 [
        | inl e ↦ ap (λ (x : RecordValue). x.node) e.1 ∙ mild.node old.0 ∙ h m o old.0 origin old.1
        | inr e ↦ ap (λ (x : RecordValue). x.node) e.1 ∙ h m o old.0 origin old.1
      ]

  changed_named : (whole : List RecordValue) (k : ℕ) (f : RecordValue → RecordValue) → IsMild f
      → ((m : ℕ) (o : Origin) (r : RecordValue) → slice_get os m ≡ Some o → slice_get whole m ≡ Some r → r.caller ≡ o.caller)
      → (m : ℕ) (o : Origin) (r : RecordValue) → slice_get os m ≡ Some o → slice_get (changed_at k f whole) m ≡ Some r → r.caller ≡ o.caller
  changed_named whole k f mild h m o r origin at =
      let old = get_changed whole k f m r at in
      elim old.2 [
        | inl e ↦ ap (λ (x : RecordValue). x.caller) e.1 ∙ mild.caller old.0 ∙ h m o old.0 origin old.1
        | inr e ↦ ap (λ (x : RecordValue). x.caller) e.1 ∙ h m o old.0 origin old.1
      ]

  changed_numbers : (seen : List RecordValue) (k : ℕ) (f : RecordValue → RecordValue) → IsMild f
      → ((n : ℕ) (r : RecordValue) → slice_get seen n ≡ Some r → r.number ≡ n) → (n : ℕ) (r : RecordValue) → slice_get (changed_at k f seen) n ≡ Some r → r.number ≡ n
  changed_numbers seen k f mild h n r at =
      let old = get_changed seen k f n r at in
      elim old.2 [
        | inl e ↦ ap (λ (x : RecordValue). x.number) e.1 ∙ mild.number old.0 ∙ h n old.0 old.1
        | inr e ↦ ap (λ (x : RecordValue). x.number) e.1 ∙ h n old.0 old.1
      ]

  changed_shown : (seen whole : List RecordValue) (f : RecordValue → RecordValue) (n m i k : ℕ) → IsMild f → slice_get (numbers plan os) n ≡ Some m → slice_get (numbers plan os) i ≡ Some k
      → (i ≡ n) ⊎ (i ≢ n) → RecordIsShown plan os js seen whole i k → RecordIsShown plan os js (changed_at n f seen) (changed_at m f whole) i k
  changed_shown seen whole f n m i k mild at there (inl e) h =
      let same : m ≡ k = same_Some m k (sym at ∙ ap (λ (x : ℕ). slice_get (numbers plan os) x) (sym e) ∙ there) in
      record {
        origin = h.origin;
        origin_there = h.origin_there;
        value = f h.value;
        whole_there = subst (λ (x : ℕ). slice_get (changed_at x f whole) k ≡ Some (f h.value)) (sym same) (changed_here whole k f h.value h.whole_there);
        caller = h.caller;
        path = h.path;
        begins = subst (λ (o : Option ℕ). BeginsIf plan os js h.caller o) (sym (mild.caller h.value)) h.begins;
        seen_there =
            subst (λ (x : ℕ). slice_get (changed_at x f seen) i ≡ Some (f (shown plan h.origin i h.caller h.path h.value))) e (changed_here seen i f (shown plan h.origin i h.caller h.path h.value) h.seen_there)
            ∙ ap (λ (r : RecordValue). Some r) (mild.beside i (own_of plan h.origin h.value.own) h.caller h.path h.value
            ∙ ap (λ (d : Option (List ℕ)). record (f h.value) { number = i; own = own_of plan h.origin d; caller = h.caller; path = h.path }) (sym (mild.own h.value)));
      }
  changed_shown seen whole f n m i k mild at there (inr e) h = record {
    origin = h.origin;
    origin_there = h.origin_there;
    value = h.value;
    whole_there = changed_elsewhere whole m k f (λ same. e (same_place 1 (map (kind plan) os) i n k there (at ∙ ap (λ (x : ℕ). Some x) (sym same)))) ∙ h.whole_there;
    caller = h.caller;
    path = h.path;
    begins = h.begins;
    seen_there = changed_elsewhere seen n i f e ∙ h.seen_there;
  }

  pub changed_both : (seen whole : List RecordValue) (f : RecordValue → RecordValue) (n m : ℕ) → IsMild f → slice_get (numbers plan os) n ≡ Some m
      → RecordsAreSeen plan os js seen whole → RecordsAreSeen plan os js (changed_at n f seen) (changed_at m f whole)
  changed_both seen whole f n m mild at h = record {
    count = h.count ∙ sym (length_changed whole m f);
    seen_count = length_changed seen n f ∙ h.seen_count;
    records = λ i k there. changed_shown seen whole f n m i k mild at there (number_is i n) (h.records i k there);
    numbered = changed_numbers seen n f mild h.numbered;
    nodes = changed_nodes whole m f mild h.nodes;
    named = changed_named whole m f mild h.named;
    callers = h.callers;
    joined = h.joined;
    joined_once = h.joined_once;
    placed_once = h.placed_once;
  }

  -- a path that the register alone has gets one more hop
  hop_shown : (seen whole : List RecordValue) (hop : HopValue) (n i k : ℕ) → (i ≡ n) ⊎ (i ≢ n) → RecordIsShown plan os js seen whole i k → RecordIsShown plan os js (changed_at n (with_hop hop) seen) whole i k
  hop_shown seen whole hop n i k (inl e) h =
      let r : RecordValue = shown plan h.origin i h.caller h.path h.value in
      record {
        origin = h.origin;
        origin_there = h.origin_there;
        value = h.value;
        whole_there = h.whole_there;
        caller = h.caller;
        path = (with_hop hop r).path;
        begins = h.begins;
        seen_there =
            subst (λ (x : ℕ). slice_get (changed_at x (with_hop hop) seen) i ≡ Some (with_hop hop r)) e (changed_here seen i (with_hop hop) r h.seen_there)
            ∙ ap (λ (x : RecordValue). Some x) (hop_path hop r);
      }
  hop_shown seen whole hop n i k (inr e) h = record {
    origin = h.origin;
    origin_there = h.origin_there;
    value = h.value;
    whole_there = h.whole_there;
    caller = h.caller;
    path = h.path;
    begins = h.begins;
    seen_there = changed_elsewhere seen n i (with_hop hop) e ∙ h.seen_there;
  }

  hop_numbers : (seen : List RecordValue) (hop : HopValue) (k : ℕ) → ((n : ℕ) (r : RecordValue) → slice_get seen n ≡ Some r → r.number ≡ n)
      → (n : ℕ) (r : RecordValue) → slice_get (changed_at k (with_hop hop) seen) n ≡ Some r → r.number ≡ n
  hop_numbers seen hop k h n r at =
      let old = get_changed seen k (with_hop hop) n r at in
      elim old.2 [
        | inl e ↦ ap (λ (x : RecordValue). x.number) (e.1 ∙ hop_path hop old.0) ∙ h n old.0 old.1
        | inr e ↦ ap (λ (x : RecordValue). x.number) e.1 ∙ h n old.0 old.1
      ]

  pub hop_seen : (seen whole : List RecordValue) (hop : HopValue) (n : ℕ) → RecordsAreSeen plan os js seen whole → RecordsAreSeen plan os js (changed_at n (with_hop hop) seen) whole
  hop_seen seen whole hop n h = record {
    count = h.count;
    seen_count = length_changed seen n (with_hop hop) ∙ h.seen_count;
    records = λ i k there. hop_shown seen whole hop n i k (number_is i n) (h.records i k there);
    numbered = hop_numbers seen hop n h.numbered;
    nodes = h.nodes;
    named = h.named;
    callers = h.callers;
    joined = h.joined;
    joined_once = h.joined_once;
    placed_once = h.placed_once;
  }

  pub changed_whole : (seen whole : List RecordValue) (f : RecordValue → RecordValue) (m : ℕ) (o : Origin) → IsMild f → slice_get os m ≡ Some o
      → plan.has_user o.line o.role ≡ false → RecordsAreSeen plan os js seen whole → RecordsAreSeen plan os js seen (changed_at m f whole)
  changed_whole seen whole f m o mild origin switch h = record {
    count = h.count ∙ sym (length_changed whole m f);
    seen_count = h.seen_count;
    records = λ i k there.
        let r : RecordIsShown plan os js seen whole i k = h.records i k there in
        record {
          origin = r.origin;
          origin_there = r.origin_there;
          value = r.value;
          whole_there = changed_elsewhere whole m k f (λ e. true≢false (sym (numbered_user plan os i k o there (ap (λ (x : ℕ). slice_get os x) e ∙ origin)) ∙ switch)) ∙ r.whole_there;
          caller = r.caller;
          path = r.path;
          begins = r.begins;
          seen_there = r.seen_there;
        };
    numbered = h.numbered;
    nodes = changed_nodes whole m f mild h.nodes;
    named = changed_named whole m f mild h.named;
    callers = h.callers;
    joined = h.joined;
    joined_once = h.joined_once;
    placed_once = h.placed_once;
  }

  -- ---- a record more

  -- where the call came in, it is one that the other end of the line placed
  abbrev pub CallerIsThere : Origin → Type 0
  CallerIsThere o = (x : ℕ) → o.caller ≡ Some x → slice_get os x ≡ Some (placing o.line (other_of o.role))

  added_callers : (o : Origin) → CallerIsThere o
      → ((m x : ℕ) (p : Origin) → slice_get os m ≡ Some p → p.caller ≡ Some x → slice_get os x ≡ Some (placing p.line (other_of p.role)))
      → (m x : ℕ) (p : Origin) → slice_get (os ++ o ∷ []) m ≡ Some p → p.caller ≡ Some x
      → slice_get (os ++ o ∷ []) x ≡ Some (placing p.line (other_of p.role))
  added_callers o there h m x p at came =
      elim (get_pushed os o m p at) [
        | inl before ↦ get_before os (o ∷ []) x (placing p.line (other_of p.role)) (h m x p before came)
        | inr last ↦ get_before os (o ∷ []) x (placing p.line (other_of p.role))
            (subst (λ (q : Origin). slice_get os x ≡ Some (placing q.line (other_of q.role))) (sym last.1)
            (there x (ap (λ (q : Origin). q.caller) (sym last.1) ∙ came)))
      ]

  added_nodes : (whole : List RecordValue) (o : Origin) (t : RecordValue) → length os ≡ length whole → t.node ≡ plan.node o.line o.role
      → ((m : ℕ) (p : Origin) (r : RecordValue) → slice_get os m ≡ Some p → slice_get whole m ≡ Some r → r.node ≡ plan.node p.line p.role)
      → (m : ℕ) (p : Origin) (r : RecordValue) → slice_get (os ++ o ∷ []) m ≡ Some p → slice_get (whole ++ t ∷ []) m ≡ Some r → r.node ≡ plan.node p.line p.role
  added_nodes whole o t count node h m p r at there =
      elim (get_pushed os o m p at) [
        | inl origin ↦ elim (get_pushed whole t m r there) [
          | inl before ↦ h m p r origin before
          | inr last ↦
              let less = slice_get_within os m p origin in let end = last.0 in absurd (omega arith)
        ]
        | inr new ↦ elim (get_pushed whole t m r there) [
          | inl before ↦
              let less = slice_get_within whole m r before in let end = new.0 in absurd (omega arith)
          | inr last ↦ ap (λ (x : RecordValue). x.node) last.1 ∙ node ∙ ap (λ (x : Origin). plan.node x.line x.role) (sym new.1)
        ]
      ]

  added_named : (whole : List RecordValue) (o : Origin) (t : RecordValue) → length os ≡ length whole → t.caller ≡ o.caller
      → ((m : ℕ) (p : Origin) (r : RecordValue) → slice_get os m ≡ Some p → slice_get whole m ≡ Some r → r.caller ≡ p.caller)
      → (m : ℕ) (p : Origin) (r : RecordValue) → slice_get (os ++ o ∷ []) m ≡ Some p → slice_get (whole ++ t ∷ []) m ≡ Some r → r.caller ≡ p.caller
  added_named whole o t count name h m p r at there =
      elim (get_pushed os o m p at) [
        | inl origin ↦ elim (get_pushed whole t m r there) [
          | inl before ↦ h m p r origin before
          | inr last ↦
              let less = slice_get_within os m p origin in let end = last.0 in absurd (omega arith)
        ]
        | inr new ↦ elim (get_pushed whole t m r there) [
          | inl before ↦
              let less = slice_get_within whole m r before in let end = new.0 in absurd (omega arith)
          | inr last ↦ ap (λ (x : RecordValue). x.caller) last.1 ∙ name ∙ ap (λ (x : Origin). x.caller) (sym new.1)
        ]
      ]

  added_shown : (seen whole : List RecordValue) (o : Origin) (r t : RecordValue) (c : Option ℕ) → plan.has_user o.line o.role ≡ true
      → r ≡ shown plan o (length seen) c [] t → BeginsIf plan os js c t.caller → RecordsAreSeen plan os js seen whole → (i k : ℕ)
      → (slice_get (numbers plan os) i ≡ Some k) ⊎ ((i ≡ length (numbers plan os)) × (k ≡ length os))
      → RecordIsShown plan (os ++ o ∷ []) js (seen ++ r ∷ []) (whole ++ t ∷ []) i k
  added_shown seen whole o r t c user is begins h i k (inl before) =
      let w : RecordIsShown plan os js seen whole i k = h.records i k before in
      record {
        origin = w.origin;
        origin_there = get_before os (o ∷ []) k w.origin w.origin_there;
        value = w.value;
        whole_there = get_before whole (t ∷ []) k w.value w.whole_there;
        caller = w.caller;
        path = w.path;
        begins = more_begins_if plan os js (os ++ o ∷ []) js (user_extends plan os js o user) w.caller w.value.caller w.begins;
        seen_there = get_before seen (r ∷ []) i (shown plan w.origin i w.caller w.path w.value) w.seen_there;
      }
  added_shown seen whole o r t c user is begins h i k (inr last) = record {
    origin = o;
    origin_there = ap (λ (x : ℕ). slice_get (os ++ o ∷ []) x) last.1 ∙ get_last os o;
    value = t;
    whole_there = ap (λ (x : ℕ). slice_get (whole ++ t ∷ []) x) (last.1 ∙ h.count) ∙ get_last whole t;
    caller = c;
    path = [];
    begins = more_begins_if plan os js (os ++ o ∷ []) js (user_extends plan os js o user) c t.caller begins;
    seen_there =
        ap (λ (x : ℕ). slice_get (seen ++ r ∷ []) x) (last.0 ∙ sym h.seen_count) ∙ get_last seen r
        ∙ ap (λ (x : RecordValue). Some x) (is ∙ ap (λ (n : ℕ). shown plan o n c [] t) (h.seen_count ∙ sym last.0));
  }

  pub added_both : (seen whole : List RecordValue) (o : Origin) (r t : RecordValue) (c : Option ℕ) → plan.has_user o.line o.role ≡ true → CallerIsThere o
      → r ≡ shown plan o (length seen) c [] t → BeginsIf plan os js c t.caller → t.node ≡ plan.node o.line o.role → t.caller ≡ o.caller
      → RecordsAreSeen plan os js seen whole → RecordsAreSeen plan (os ++ o ∷ []) js (seen ++ r ∷ []) (whole ++ t ∷ [])
  added_both seen whole o r t c user caller is begins node name h = record {
    count = length_pushed os o ∙ ap suc h.count ∙ sym (length_pushed whole t);
    seen_count = length_pushed seen r ∙ ap suc h.seen_count ∙ sym (length_pushed (numbers plan os) (length os)) ∙ ap (λ (ns : List ℕ). length ns) (sym (numbers_user plan os o user));
    records = λ i k there. added_shown seen whole o r t c user is begins h i k
        (get_pushed (numbers plan os) (length os) i k (ap (λ (ns : List ℕ). slice_get ns i) (sym (numbers_user plan os o user)) ∙ there));
    numbered = λ n x at. elim (get_pushed seen r n x at) [
      | inl before ↦ h.numbered n x before
      | inr last ↦ ap (λ (y : RecordValue). y.number) (last.1 ∙ is) ∙ sym last.0
    ];
    nodes = added_nodes whole o t h.count node h.nodes;
    named = added_named whole o t h.count name h.named;
    callers = added_callers o caller h.callers;
    joined = λ a b j. more_join plan os js (os ++ o ∷ []) js (user_extends plan os js o user) a b (h.joined a b j);
    joined_once = h.joined_once;
    placed_once = h.placed_once;
  }

  pub added_whole : (seen whole : List RecordValue) (o : Origin) (t : RecordValue) → plan.has_user o.line o.role ≡ false → CallerIsThere o
      → t.node ≡ plan.node o.line o.role → t.caller ≡ o.caller
      → RecordsAreSeen plan os js seen whole → RecordsAreSeen plan (os ++ o ∷ []) js seen (whole ++ t ∷ [])
  added_whole seen whole o t switch caller node name h = record {
    count = length_pushed os o ∙ ap suc h.count ∙ sym (length_pushed whole t);
    seen_count = h.seen_count ∙ ap (λ (ns : List ℕ). length ns) (sym (numbers_switch plan os o switch));
    records = λ i k there.
        let r : RecordIsShown plan os js seen whole i k = h.records i k (ap (λ (ns : List ℕ). slice_get ns i) (sym (numbers_switch plan os o switch)) ∙ there) in
        record {
          origin = r.origin;
          origin_there = get_before os (o ∷ []) k r.origin r.origin_there;
          value = r.value;
          whole_there = get_before whole (t ∷ []) k r.value r.whole_there;
          caller = r.caller;
          path = r.path;
          begins = more_begins_if plan os js (os ++ o ∷ []) js (switch_extends plan os js o switch) r.caller r.value.caller r.begins;
          seen_there = r.seen_there;
        };
    numbered = h.numbered;
    nodes = added_nodes whole o t h.count node h.nodes;
    named = added_named whole o t h.count name h.named;
    callers = added_callers o caller h.callers;
    joined = λ a b j. more_join plan os js (os ++ o ∷ []) js (switch_extends plan os js o switch) a b (h.joined a b j);
    joined_once = h.joined_once;
    placed_once = h.placed_once;
  }

  -- ---- pairs

  -- the whole register's pair, one more at the end
  last_came : (kinds : List ℕ) (whole : List PairValue) (o : Origin) (p : PairValue) → length kinds ≡ length whole → slice_get os p.callee ≡ Some o → o.caller ≡ Some p.caller
      → ((i : ℕ) (q : PairValue) → slice_get whole i ≡ Some q → PairCame plan os kinds i q)
      → (i : ℕ) (q : PairValue) → slice_get (whole ++ p ∷ []) i ≡ Some q → PairCame plan os (kinds ++ kind plan o ∷ []) i q
  last_came kinds whole o p count origin came h i q at =
      elim (get_pushed whole p i q at) [
        | inl before ↦
            let c : PairCame plan os kinds i q = h i q before in
            record { origin = c.origin; there = c.there; came = c.came; of_kind = get_before kinds (kind plan o ∷ []) i (kind plan c.origin) c.of_kind }
        | inr last ↦ record {
          origin = o;
          there = ap (λ (x : PairValue). slice_get os x.callee) last.1 ∙ origin;
          came = came ∙ ap (λ (x : PairValue). Some x.caller) (sym last.1);
          of_kind = ap (λ (k : ℕ). slice_get (kinds ++ kind plan o ∷ []) k) (last.0 ∙ sym count) ∙ get_last kinds (kind plan o);
        }
      ]

  last_seen : (kinds : List ℕ) (seen whole : List PairValue) (p q : PairValue) → length seen ≡ length (positions 1 kinds)
      → slice_get (numbers plan os) q.callee ≡ Some p.callee → Begins plan os js q.caller p.caller
      → ((i k : ℕ) → slice_get (positions 1 kinds) i ≡ Some k → PairIsSeen plan os js seen whole i k)
      → (i k : ℕ) → slice_get (positions 1 kinds ++ length whole ∷ []) i ≡ Some k → PairIsSeen plan os js (seen ++ q ∷ []) (whole ++ p ∷ []) i k
  last_seen kinds seen whole p q count callee caller h i k at =
      elim (get_pushed (positions 1 kinds) (length whole) i k at) [
        | inl before ↦
            let w : PairIsSeen plan os js seen whole i k = h i k before in
            record {
              seen_pair = w.seen_pair;
              whole_pair = w.whole_pair;
              seen_there = get_before seen (q ∷ []) i w.seen_pair w.seen_there;
              whole_there = get_before whole (p ∷ []) k w.whole_pair w.whole_there;
              callee = w.callee;
              caller = w.caller;
            }
        | inr last ↦ record {
          seen_pair = q;
          whole_pair = p;
          seen_there = ap (λ (x : ℕ). slice_get (seen ++ q ∷ []) x) (last.0 ∙ sym count) ∙ get_last seen q;
          whole_there = ap (λ (x : ℕ). slice_get (whole ++ p ∷ []) x) last.1 ∙ get_last whole p;
          callee = callee;
          caller = caller;
        }
      ]

  pub paired_both : (kinds : List ℕ) (seen whole : List PairValue) (o : Origin) (p q : PairValue) → slice_get os p.callee ≡ Some o → o.caller ≡ Some p.caller
      → kind plan o ≡ 1 → slice_get (numbers plan os) q.callee ≡ Some p.callee → Begins plan os js q.caller p.caller
      → PairsAreSeen plan os js kinds seen whole → PairsAreSeen plan os js (kinds ++ kind plan o ∷ []) (seen ++ q ∷ []) (whole ++ p ∷ [])
  paired_both kinds seen whole o p q origin came user callee caller h =
      let more : positions 1 (kinds ++ kind plan o ∷ []) ≡ positions 1 kinds ++ length whole ∷ [] =
      ap (λ (k : ℕ). positions 1 (kinds ++ k ∷ [])) user ∙ one_here 1 kinds ∙ ap (λ (k : ℕ). positions 1 kinds ++ k ∷ []) h.count in
      record {
        count = length_pushed kinds (kind plan o) ∙ ap suc h.count ∙ sym (length_pushed whole p);
        seen_count = length_pushed seen q ∙ ap suc h.seen_count ∙ sym (length_pushed (positions 1 kinds) (length whole)) ∙ ap (λ (ns : List ℕ). length ns) (sym more);
        pairs = λ i k at. last_seen kinds seen whole p q h.seen_count callee caller h.pairs i k (ap (λ (ns : List ℕ). slice_get ns i) (sym more) ∙ at);
        came = last_came kinds whole o p h.count origin came h.came;
      }

  pub paired_whole : (kinds : List ℕ) (seen whole : List PairValue) (o : Origin) (p : PairValue) → slice_get os p.callee ≡ Some o → o.caller ≡ Some p.caller
      → kind plan o ≡ 0
      → PairsAreSeen plan os js kinds seen whole → PairsAreSeen plan os js (kinds ++ kind plan o ∷ []) seen (whole ++ p ∷ [])
  paired_whole kinds seen whole o p origin came switch h =
      let same : positions 1 (kinds ++ kind plan o ∷ []) ≡ positions 1 kinds =
      ap (λ (k : ℕ). positions 1 (kinds ++ k ∷ [])) switch ∙ one_elsewhere 1 0 kinds (λ e. omega arith) in
      record {
        count = length_pushed kinds (kind plan o) ∙ ap suc h.count ∙ sym (length_pushed whole p);
        seen_count = h.seen_count ∙ ap (λ (ns : List ℕ). length ns) (sym same);
        pairs = λ i k at.
            let w : PairIsSeen plan os js seen whole i k = h.pairs i k (ap (λ (ns : List ℕ). slice_get ns i) (sym same) ∙ at) in
            record {
              seen_pair = w.seen_pair;
              whole_pair = w.whole_pair;
              seen_there = w.seen_there;
              whole_there = get_before whole (p ∷ []) k w.whole_pair w.whole_there;
              callee = w.callee;
              caller = w.caller;
            };
        came = last_came kinds whole o p h.count origin came h.came;
      }

-- all pairs are seen as before when records or joins are added
pub more_pairs_seen : (plan : Plan) (os : List Origin) (js : List Join) (ps : List Origin) (ks : List Join) → Extends plan os js ps ks → (kinds : List ℕ) (seen whole : List PairValue)
    → PairsAreSeen plan os js kinds seen whole → PairsAreSeen plan ps ks kinds seen whole
more_pairs_seen plan os js ps ks x kinds seen whole h = record {
  count = h.count;
  seen_count = h.seen_count;
  pairs = λ q p at. more_pair plan os js ps ks x seen whole q p (h.pairs q p at);
  came = λ p pair at. more_pair_came plan os js ps ks x kinds p pair (h.came p pair at);
}
