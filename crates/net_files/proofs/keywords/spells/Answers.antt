-- Words of one length are the same where all their octets are.
use Rattle.std.proofs.Common.{rules, tests, ◌≡◌, ℕ, List, Bool, true, false, refl, sym}
use Rattle.std.specs.Bool.{Decides}
use Rattle.std.proofs.lemmas.Iterator.{YieldsList-from_slice, YieldsList-from_zip, same_from_all}
use Rattle.std.proofs.lemmas.Slice.Eq.{bytes_eq-Decides}
use Rattle.net_files.proofs.keywords.spells.Goals as goal

decides_same : (xs ys : List ℕ) (a b : Bool) → Decides a (xs ≡ ys) → Decides b (xs ≡ ys) → a ≡ b
decides_same xs ys true true d e = refl
decides_same xs ys false false d e = refl
decides_same xs ys true false d e = sym (e.1 (d.0 refl))
decides_same xs ys false true d e = d.1 (e.0 refl)

pub returns-then-word-name : goal.returns-then-word-name
returns-then-word-name c =
    let alike : Decides c.all.result (c.args.word.now ≡ c.args.name.now) =
    same_from_all c.all.new.self _ _ _ _ c.all.ensures.ran
    (YieldsList-from_zip (YieldsList-from_slice c.args.word.now cc) (YieldsList-from_slice c.args.name.now cc))
    (search rules) (λ x q k. search (rules, tests)) (λ x q k. search (rules, tests)) in
    decides_same c.args.word.now c.args.name.now _ _ alike (bytes_eq-Decides c.args.word.now c.args.name.now)
