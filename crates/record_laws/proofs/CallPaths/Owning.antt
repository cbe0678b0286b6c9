-- Which line each record is of, after a write at one of them.
use Rattle.std.proofs.Common.{◌≡◌, ◌≢◌, ℕ, suc, inl, inr, Bool, List, [], ◌∷◌, ◌++◌, length, Option, Some, refl, sym, ap, subst, ◌∙◌, arith}
use Rattle.std.specs.Prelude.{slice_get, map}
use Rattle.std.proofs.lemmas.Option.{same_Some}
use Rattle.link_timers.specs.declared.role.Role.{Role}
use Rattle.call_records.specs.Book.{Book}
use Rattle.record_laws.proofs.Books.Basics.{get_before, get_last, get_pushed, length_pushed, number_is}
use Rattle.record_laws.specs.Registers.Seen.{positions, IsNumbered}
use Rattle.record_laws.proofs.Registers.Positions.{IsNth, is_place, place_of, one_here, one_elsewhere}
use Rattle.record_laws.proofs.Registers.Steps.{Beside, IsRight, Leads, more_numbered}
use Rattle.record_laws.specs.CallPaths.World.{Origin}
use Rattle.record_laws.specs.CallPaths.Lines.{OriginIsSeen, OriginsSeen}

list_same : {X : Type 0} (xs ys : List X) → length xs ≡ length ys → ((n : ℕ) (x y : X) → slice_get xs n ≡ Some x → slice_get ys n ≡ Some y → x ≡ y) → xs ≡ ys
list_same [] [] e h = refl
list_same [] (y ∷ ys) e h = absurd (omega arith)
list_same (x ∷ xs) [] e h = absurd (omega arith)
list_same (x ∷ xs) (y ∷ ys) e h =
    ap (λ z. z ∷ xs) (h 0 x y refl refl) ∙ ap (λ zs. y ∷ zs) (list_same xs ys (omega arith) (λ n a b. h (suc n) a b))

-- where the places of all other lines stay, so do all
owners_kept : (line : ℕ) (owners after : List ℕ) → ((k : ℕ) → k ≢ line → positions k after ≡ positions k owners) → length owners ≡ length after → after ≡ owners
owners_kept line owners after other count = sym (list_same owners after count one)
  where
    found : (xs ys : List ℕ) (k n : ℕ) → positions k xs ≡ positions k ys → slice_get xs n ≡ Some k → slice_get ys n ≡ Some k
    found xs ys k n same at =
        let p : IsNth (positions k xs) n = place_of k xs n at in
        is_place k ys p.place n (ap (λ (ns : List ℕ). slice_get ns p.place) (sym same) ∙ p.there)

    one : (n a b : ℕ) → slice_get owners n ≡ Some a → slice_get after n ≡ Some b → a ≡ b
    one n a b at there = elim (number_is a line) [
      | inl e ↦ elim (number_is b line) [
        | inl f ↦ e ∙ sym f
        | inr f ↦ same_Some a b (sym at ∙ found after owners b n (other b f) there)
      ]
      | inr e ↦ same_Some a b (sym (found owners after a n (sym (other a e)) at) ∙ there)
    ]

owners_more : (line : ℕ) (owners after : List ℕ) → ((k : ℕ) → k ≢ line → positions k after ≡ positions k owners) → length after ≡ suc (length owners)
    → after ≡ owners ++ line ∷ []
owners_more line owners after other count =
    owners_kept line (owners ++ line ∷ []) after (λ k h. other k h ∙ sym (one_elsewhere k line owners (λ e. h (sym e)))) (length_pushed owners line ∙ sym count)

map_pushed : {X Y : Type 0} (f : X → Y) (xs : List X) (x : X) → map f (xs ++ x ∷ []) ≡ map f xs ++ f x ∷ []
map_pushed f [] x = refl
map_pushed f (y ∷ ys) x = ap (λ zs. f y ∷ zs) (map_pushed f ys x)

length_map : {X Y : Type 0} (f : X → Y) (xs : List X) → length (map f xs) ≡ length xs
length_map f [] = refl
length_map f (x ∷ xs) = ap suc (length_map f xs)

module _ (lines line : ℕ) where
  -- the records of both books stay as many as they are
  pub kept : (x : Beside) (own seen : Book) (l : Leads lines line x own seen) (t os : List Origin) → IsRight lines line x
      → length seen.records ≡ length x.seen.records → OriginsSeen line x.owners t os → OriginsSeen line l.owners t os
  kept x own seen l t os h count o =
      let same : l.owners ≡ x.owners = owners_kept line x.owners l.owners l.leaves.owners (h.records_owned ∙ sym count ∙ sym l.is_right.records_owned) in
      subst (λ (ns : List ℕ). OriginsSeen line ns t os) (sym same) o

  -- one is added
  pub grown : (x : Beside) (own seen : Book) (l : Leads lines line x own seen) (t os : List Origin) (role : Role) (here : Bool) (a b : Option ℕ) → IsRight lines line x
      → length seen.records ≡ suc (length x.seen.records) → IsNumbered (positions line x.owners) a b → OriginsSeen line x.owners t os
      → OriginsSeen line l.owners (t ++ record { line = line; role = role; placed_here = here; caller = a } ∷ []) (os ++ record { line = line; role = role; placed_here = here; caller = b } ∷ [])
  grown x own seen l t os role here a b h count caller o =
      let same : l.owners ≡ x.owners ++ line ∷ [] = owners_more line x.owners l.owners l.leaves.owners (l.is_right.records_owned ∙ count ∙ ap suc (sym h.records_owned)) in
      subst (λ (ns : List ℕ). OriginsSeen line ns (t ++ mine ∷ []) (os ++ yours ∷ [])) (sym same) (record {
        owners_are = ap (λ (ns : List ℕ). ns ++ line ∷ []) o.owners_are ∙ sym (map_pushed (λ (p : Origin). p.line) os yours);
        count = length_pushed t mine ∙ ap suc o.count ∙ sym (length_pushed (positions line x.owners) (length x.owners)) ∙ ap (λ (ns : List ℕ). length ns) (sym (one_here line x.owners));
        origins = λ i n at. elim (get_pushed (positions line x.owners) (length x.owners) i n (ap (λ (ns : List ℕ). slice_get ns i) (sym (one_here line x.owners)) ∙ at)) [
          | inl before ↦ older i n (o.origins i n before)
          | inr last ↦ record {
            line = line;
            role = role;
            placed_here = here;
            own_caller = a;
            whole_caller = b;
            own_there = ap (λ (k : ℕ). slice_get (t ++ mine ∷ []) k) (last.0 ∙ sym o.count) ∙ get_last t mine;
            whole_there = ap (λ (k : ℕ). slice_get (os ++ yours ∷ []) k) (last.1 ∙ ap (λ (ns : List ℕ). length ns) o.owners_are ∙ length_map (λ (p : Origin). p.line) os) ∙ get_last os yours;
            caller = more_numbered line x.owners a b caller;
          }
        ];
      })
    where
      mine : Origin
      mine = record { line = line; role = role; placed_here = here; caller = a }

      yours : Origin
      yours = record { line = line; role = role; placed_here = here; caller = b }

      older : (i n : ℕ) → OriginIsSeen (positions line x.owners) t os i n
          → OriginIsSeen (positions line (x.owners ++ line ∷ [])) (t ++ mine ∷ []) (os ++ yours ∷ []) i n
      older i n s = record {
        line = s.line;
        role = s.role;
        placed_here = s.placed_here;
        own_caller = s.own_caller;
        whole_caller = s.whole_caller;
        own_there = get_before t (mine ∷ []) i (record { line = s.line; role = s.role; placed_here = s.placed_here; caller = s.own_caller }) s.own_there;
        whole_there = get_before os (yours ∷ []) n (record { line = s.line; role = s.role; placed_here = s.placed_here; caller = s.whole_caller }) s.whole_there;
        caller = more_numbered line x.owners s.own_caller s.whole_caller s.caller;
      }
