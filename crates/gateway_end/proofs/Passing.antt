-- Packets that were given, one list after another, and what became of each.
use Rattle.std.proofs.Common.{◌≡◌, ◌∙◌, List, [], ◌∷◌, ◌++◌, refl, ap, sym, append_assoc}
use Rattle.std.proofs.lemmas.List.{append-nil}
use Rattle.lapb.specs.declared.note.Note.{Note}
use Rattle.lapb.specs.Machine.{Octets}
use Rattle.gateway_end.specs.GatewayEnd.{GatewayEnd, waiting_after}
use Rattle.gateway_end.specs.Laws.{Fate, IsPassed, PassLaw, Runs, begins, dropped, given_in, happens, passed, passes, taken_in}

given-append : (fates more : List Fate) → given_in (fates ++ more) ≡ given_in fates ++ given_in more
given-append [] more = refl
given-append (passed packet ∷ fates) more = ap (λ (rest : List Octets). packet ∷ rest) (given-append fates more)
given-append (dropped packet ∷ fates) more = ap (λ (rest : List Octets). packet ∷ rest) (given-append fates more)

taken-append : (fates more : List Fate) → taken_in (fates ++ more) ≡ taken_in fates ++ taken_in more
taken-append [] more = refl
taken-append (passed packet ∷ fates) more = ap (λ (rest : List Octets). packet ∷ rest) (taken-append fates more)
taken-append (dropped packet ∷ fates) more = taken-append fates more

abbrev all_passed : List Octets → List Fate
all_passed [] = []
all_passed (packet ∷ packets) = passed packet ∷ all_passed packets

given-passed : (packets : List Octets) → given_in (all_passed packets) ≡ packets
given-passed [] = refl
given-passed (packet ∷ packets) = ap (λ (rest : List Octets). packet ∷ rest) (given-passed packets)

taken-passed : (packets : List Octets) → taken_in (all_passed packets) ≡ packets
taken-passed [] = refl
taken-passed (packet ∷ packets) = ap (λ (rest : List Octets). packet ∷ rest) (taken-passed packets)

abbrev all_dropped : List Fate → List Fate
all_dropped [] = []
all_dropped (passed packet ∷ fates) = dropped packet ∷ all_dropped fates
all_dropped (dropped packet ∷ fates) = dropped packet ∷ all_dropped fates

given-dropped : (fates : List Fate) → given_in fates ≡ given_in (all_dropped fates)
given-dropped [] = refl
given-dropped (passed packet ∷ fates) = ap (λ (rest : List Octets). packet ∷ rest) (given-dropped fates)
given-dropped (dropped packet ∷ fates) = ap (λ (rest : List Octets). packet ∷ rest) (given-dropped fates)

taken-dropped : (fates : List Fate) → [] ≡ taken_in (all_dropped fates)
taken-dropped [] = refl
taken-dropped (passed packet ∷ fates) = taken-dropped fates
taken-dropped (dropped packet ∷ fates) = taken-dropped fates

-- what waited is dropped
record Drops (fates : List Fate) (sent : List Octets) : Type 0 where
  after : List Fate
  given : given_in fates ≡ given_in after
  taken : sent ≡ taken_in after

rest_dropped : (fates : List Fate) (sent waiting : List Octets) → sent ++ waiting ≡ taken_in fates → Drops fates sent
rest_dropped fates [] waiting e = record { after = all_dropped fates; given = given-dropped fates; taken = taken-dropped fates }
rest_dropped [] (first ∷ sent) waiting e = absurd (cc)
rest_dropped (passed packet ∷ fates) (first ∷ sent) waiting e =
    let tail : sent ++ waiting ≡ taken_in fates = cc in
    let head : first ≡ packet = cc in
    let rest = rest_dropped fates sent waiting tail in
    record {
      after = passed packet ∷ rest.after;
      given = ap (λ (more : List Octets). packet ∷ more) rest.given;
      taken = ap (λ (x : Octets). x ∷ sent) head ∙ ap (λ (more : List Octets). packet ∷ more) rest.taken;
    }
rest_dropped (dropped packet ∷ fates) (first ∷ sent) waiting e =
    let rest = rest_dropped fates (first ∷ sent) waiting e in
    record {
      after = dropped packet ∷ rest.after;
      given = ap (λ (more : List Octets). packet ∷ more) rest.given;
      taken = rest.taken;
    }

without_waiting : (given sent waiting after : List Octets) → IsPassed given sent waiting → after ≡ [] → IsPassed given sent after
without_waiting given sent waiting after so_far none =
    let rest = rest_dropped so_far.fates sent waiting so_far.took in
    record {
      fates = rest.after;
      gave = so_far.gave ∙ rest.given;
      took = ap (λ (w : List Octets). sent ++ w) none ∙ append-nil sent ∙ rest.taken;
    }

told : (given sent waiting after : List Octets) (note : Note) → IsPassed given sent waiting → after ≡ waiting_after note waiting
    → IsPassed given sent after
told given sent waiting after Note.Nothing so_far same =
    record { fates = so_far.fates; gave = so_far.gave; took = ap (λ (w : List Octets). sent ++ w) same ∙ so_far.took }
told given sent waiting after Note.Up so_far same = without_waiting given sent waiting after so_far same
told given sent waiting after Note.Down so_far same = without_waiting given sent waiting after so_far same

pub pass_law : PassLaw
pass_law first last given sent none runs = go runs
  where
    go : {given sent : List Octets} {last : GatewayEnd} → Runs first given sent last → IsPassed given sent last.waiting
    go begins = record { fates = []; gave = refl; took = none }
    go (passes given sent before after rest pass) =
        let so_far = go rest in
        record {
          fates = so_far.fates ++ all_passed pass.given;
          gave =
              ap (λ (packets : List Octets). packets ++ pass.given) so_far.gave
              ∙ ap (λ (packets : List Octets). given_in so_far.fates ++ packets) (sym (given-passed pass.given))
              ∙ sym (given-append so_far.fates (all_passed pass.given));
          took =
              append_assoc sent pass.sent after.waiting
              ∙ ap (λ (packets : List Octets). sent ++ packets) (sym pass.order)
              ∙ sym (append_assoc sent before.waiting pass.given)
              ∙ ap (λ (packets : List Octets). packets ++ pass.given) so_far.took
              ∙ ap (λ (packets : List Octets). taken_in so_far.fates ++ packets) (sym (taken-passed pass.given))
              ∙ sym (taken-append so_far.fates (all_passed pass.given));
        }
    go (happens given sent before after note rest same) = told given sent before.waiting after.waiting note (go rest) same
