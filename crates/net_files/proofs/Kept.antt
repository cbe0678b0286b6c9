-- The commands of a script as they are kept: read back, one more, and those behind the first.
use Rattle.std.proofs.Common.{◌≡◌, ℕ, suc, ◌-◌, List, [], ◌∷◌, ◌++◌, Option, Some, None, option_map, length, take, drop, map, refl, sym, ap, ◌∙◌, subst, arith}
use Rattle.std.specs.List.{flat_map}
use Rattle.std.proofs.lemmas.Grind.{flat_map-append}
use Rattle.std.proofs.lemmas.List.{append-nil, length-append}
use Rattle.std.proofs.lemmas.Option.{same_Some}
use Rattle.net_events.specs.declared.event.Event.{Event as NetEvent}
use Rattle.net_files.specs.declared.commands.Entry.{Entry}
use Rattle.net_files.specs.declared.commands.Entry.TheVariants as entry
use Rattle.net_files.specs.Commands.{CommandView, Keys, Event, Flow, Tick, Trace, Check, read_commands, entry_of, events_of, octets_of, AreKept}

pub take_front : (xs ys : List ℕ) → take (length xs) (xs ++ ys) ≡ xs
take_front [] ys = refl
take_front (x ∷ xs) ys = ap (λ zs. x ∷ zs) (take_front xs ys)

drop_front : (xs ys : List ℕ) → drop (length xs) (xs ++ ys) ≡ ys
drop_front [] ys = refl
drop_front (x ∷ xs) ys = drop_front xs ys

-- what is kept of commands is read as these
pub read_back : (cs : List CommandView) → read_commands (map entry_of cs) (flat_map events_of cs) (flat_map octets_of cs) ≡ cs
read_back [] = refl
read_back (Keys node terminal octets ∷ cs) = rw (
  take_front octets (flat_map octets_of cs),
  drop_front octets (flat_map octets_of cs),
  read_back cs,
) refl
read_back (Event e ∷ cs) = ap (λ xs. Event e ∷ xs) (read_back cs)
read_back (Flow ∷ cs) = ap (λ xs. Flow ∷ xs) (read_back cs)
read_back (Tick ticks ∷ cs) = ap (λ xs. Tick ticks ∷ xs) (read_back cs)
read_back (Trace traces ∷ cs) = ap (λ xs. Trace traces ∷ xs) (read_back cs)
read_back (Check ∷ cs) = ap (λ xs. Check ∷ xs) (read_back cs)

-- the entries of commands with one more
map_more : (cs : List CommandView) (c : CommandView) → map entry_of (cs ++ c ∷ []) ≡ map entry_of cs ++ entry_of c ∷ []
map_more [] c = refl
map_more (x ∷ cs) c = ap (λ xs. entry_of x ∷ xs) (map_more cs c)

events_more : (cs : List CommandView) (c : CommandView) → flat_map events_of (cs ++ c ∷ []) ≡ flat_map events_of cs ++ events_of c
events_more cs c = flat_map-append events_of cs (c ∷ []) ∙ ap (λ xs. flat_map events_of cs ++ xs) (append-nil (events_of c))

octets_more : (cs : List CommandView) (c : CommandView) → flat_map octets_of (cs ++ c ∷ []) ≡ flat_map octets_of cs ++ octets_of c
octets_more cs c = flat_map-append octets_of cs (c ∷ []) ∙ ap (λ xs. flat_map octets_of cs ++ xs) (append-nil (octets_of c))

-- one command more is read behind the others
pub read_more : (es : List Entry) (vs : List NetEvent) (os : List ℕ) (c : CommandView) → AreKept es vs os
    → read_commands (es ++ entry_of c ∷ []) (vs ++ events_of c) (os ++ octets_of c) ≡ read_commands es vs os ++ c ∷ []
read_more es vs os c kept =
    let cs = read_commands es vs os in
    let e : es ++ entry_of c ∷ [] ≡ map entry_of (cs ++ c ∷ []) =
    ap (λ xs. xs ++ entry_of c ∷ []) kept.in_place ∙ sym (map_more cs c) in
    let v : vs ++ events_of c ≡ flat_map events_of (cs ++ c ∷ []) =
    ap (λ xs. xs ++ events_of c) kept.with_events ∙ sym (events_more cs c) in
    let o : os ++ octets_of c ≡ flat_map octets_of (cs ++ c ∷ []) =
    ap (λ xs. xs ++ octets_of c) kept.with_octets ∙ sym (octets_more cs c) in
    ap (λ xs. read_commands xs (vs ++ events_of c) (os ++ octets_of c)) e
    ∙ ap (λ xs. read_commands (map entry_of (cs ++ c ∷ [])) xs (os ++ octets_of c)) v
    ∙ ap (λ xs. read_commands (map entry_of (cs ++ c ∷ [])) (flat_map events_of (cs ++ c ∷ [])) xs) o
    ∙ read_back (cs ++ c ∷ [])

pub kept_more : (es : List Entry) (vs : List NetEvent) (os : List ℕ) (c : CommandView) → AreKept es vs os
    → AreKept (es ++ entry_of c ∷ []) (vs ++ events_of c) (os ++ octets_of c)
kept_more es vs os c kept =
    let cs = read_commands es vs os in
    let more = read_more es vs os c kept in
    record {
      in_place =
          ap (λ xs. xs ++ entry_of c ∷ []) kept.in_place ∙ sym (map_more cs c) ∙ ap (λ xs. map entry_of xs) (sym more);
      with_events =
          ap (λ xs. xs ++ events_of c) kept.with_events ∙ sym (events_more cs c) ∙ ap (λ xs. flat_map events_of xs) (sym more);
      with_octets =
          ap (λ xs. xs ++ octets_of c) kept.with_octets ∙ sym (octets_more cs c) ∙ ap (λ xs. flat_map octets_of xs) (sym more);
    }

-- as many entries as commands
length_map : (cs : List CommandView) → length (map entry_of cs) ≡ length cs
length_map [] = refl
length_map (c ∷ cs) = ap suc (length_map cs)

pub count_kept : (es : List Entry) (vs : List NetEvent) (os : List ℕ) → AreKept es vs os → length es ≡ length (read_commands es vs os)
count_kept es vs os kept = ap (λ (xs : List Entry). length xs) kept.in_place ∙ length_map (read_commands es vs os)

-- ---- behind the first

tail : {X : Type 0} → List X → List X
tail xs = drop 1 xs

-- ---- one more of each kind

pub with_keys : (es : List Entry) (vs : List NetEvent) (os : List ℕ) (node terminal : ℕ) (octets : List ℕ) → AreKept es vs os
    → AreKept (es ++ entry.Keys node terminal (length octets) ∷ []) vs (os ++ octets)
    × (read_commands (es ++ entry.Keys node terminal (length octets) ∷ []) vs (os ++ octets) ≡ read_commands es vs os ++ Keys node terminal octets ∷ [])
with_keys es vs os node terminal octets kept =
    let c = Keys node terminal octets in
    let P : List NetEvent → Type 0 = λ xs. AreKept (es ++ entry_of c ∷ []) xs (os ++ octets)
    × (read_commands (es ++ entry_of c ∷ []) xs (os ++ octets) ≡ read_commands es vs os ++ c ∷ []) in
    subst P (append-nil vs) (kept_more es vs os c kept, read_more es vs os c kept)

-- keys that a text spells
pub with_spelled : (es : List Entry) (vs : List NetEvent) (os : List ℕ) (node terminal count : ℕ) (new : List ℕ)
    (spelled : Option (List ℕ)) → AreKept es vs os → option_map (λ more. os ++ more) spelled ≡ Some new
    → count ≡ length new - length os
    → AreKept (es ++ entry.Keys node terminal count ∷ []) vs new
    × (option_map (λ octets. read_commands es vs os ++ Keys node terminal octets ∷ []) spelled
    ≡ Some (read_commands (es ++ entry.Keys node terminal count ∷ []) vs new))
with_spelled es vs os node terminal count new None kept h many = cc
with_spelled es vs os node terminal count new (Some octets) kept h many =
    let same : os ++ octets ≡ new = same_Some _ _ h in
    let n : count ≡ length octets =
    omega (arith, many, ap (λ (xs : List ℕ). length xs) same, length-append os octets) in
    let all = with_keys es vs os node terminal octets kept in
    rw (← same, n) (all.0, ap Some (sym all.1))

pub with_event : (es : List Entry) (vs : List NetEvent) (os : List ℕ) (e : NetEvent) → AreKept es vs os
    → AreKept (es ++ entry.Event ∷ []) (vs ++ e ∷ []) os
    × (read_commands (es ++ entry.Event ∷ []) (vs ++ e ∷ []) os ≡ read_commands es vs os ++ Event e ∷ [])
with_event es vs os e kept =
    let c = Event e in
    let P : List ℕ → Type 0 = λ xs. AreKept (es ++ entry_of c ∷ []) (vs ++ e ∷ []) xs
    × (read_commands (es ++ entry_of c ∷ []) (vs ++ e ∷ []) xs ≡ read_commands es vs os ++ c ∷ []) in
    subst P (append-nil os) (kept_more es vs os c kept, read_more es vs os c kept)

-- one that is neither keys nor an event
pub with_other : (es : List Entry) (vs : List NetEvent) (os : List ℕ) (c : CommandView) → events_of c ≡ [] → octets_of c ≡ []
    → AreKept es vs os
    → AreKept (es ++ entry_of c ∷ []) vs os × (read_commands (es ++ entry_of c ∷ []) vs os ≡ read_commands es vs os ++ c ∷ [])
with_other es vs os c no_events no_octets kept =
    let P : List NetEvent → List ℕ → Type 0 = λ xs ys. AreKept (es ++ entry_of c ∷ []) xs ys
    × (read_commands (es ++ entry_of c ∷ []) xs ys ≡ read_commands es vs os ++ c ∷ []) in
    let all : P (vs ++ events_of c) (os ++ octets_of c) = (kept_more es vs os c kept, read_more es vs os c kept) in
    let same_events : vs ++ events_of c ≡ vs = ap (λ xs. vs ++ xs) no_events ∙ append-nil vs in
    let same_octets : os ++ octets_of c ≡ os = ap (λ xs. os ++ xs) no_octets ∙ append-nil os in
    subst (λ ys. P vs ys) same_octets (subst (λ xs. P xs (os ++ octets_of c)) same_events all)
