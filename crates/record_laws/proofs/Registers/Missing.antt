-- Where nothing is missing in the lines' books, nothing is missing in the register.
use Rattle.std.proofs.Common.{◌≡◌, ℕ, Option, sym, ap, ◌∙◌}
use Rattle.std.proofs.lemmas.Option.{same_Some}
use Rattle.epochs.specs.Epoch.{sent_epoch, taken_epoch}
use Rattle.call_records.specs.Records.{RecordValue}
use Rattle.record_laws.specs.Books.BookRest.{TookAll}
use Rattle.record_laws.specs.Registers.Seen.{positions, renumbered, RecordIsSeen}
use Rattle.record_laws.specs.Registers.RegisterRest.{RestLaw}
use Rattle.record_laws.proofs.Registers.Promising.{PairOfLine, pair_of}

-- records of the register and those of the book of their line
took_seen : (m n : ℕ) (o p : Option ℕ) (a b x y : RecordValue) → a ≡ renumbered m o x → b ≡ renumbered n p y → TookAll x y → TookAll a b
took_seen m n o p a b x y mine yours h =
    ap (λ (r : RecordValue). taken_epoch r.taken) yours ∙ h ∙ ap (λ (r : RecordValue). sent_epoch r.sent) (sym mine)

pub rest_seen : RestLaw
rest_seen g books w none i pair caller callee at caller_there callee_there caller_open callee_open =
    let o : PairOfLine books w.owners w.pair_owners i pair = pair_of g books w i pair at in
    let seen = w.line o.j o.book o.there in
    let x : RecordIsSeen (positions o.j w.owners) o.book.records g.records o.pair.own.caller pair.caller = seen.records o.pair.own.caller pair.caller o.pair.caller in
    let y : RecordIsSeen (positions o.j w.owners) o.book.records g.records o.pair.own.callee pair.callee = seen.records o.pair.own.callee pair.callee o.pair.callee in
    let mine : caller ≡ renumbered pair.caller x.caller x.value = same_Some caller (renumbered pair.caller x.caller x.value) (sym caller_there ∙ x.seen_there) in
    let yours : callee ≡ renumbered pair.callee y.caller y.value = same_Some callee (renumbered pair.callee y.caller y.value) (sym callee_there ∙ y.seen_there) in
    let h = none o.j o.book o.there o.pair.place o.pair.own x.value y.value o.pair.own_there x.own_there y.own_there
    (ap (λ (r : RecordValue). r.closed) (sym mine) ∙ caller_open) (ap (λ (r : RecordValue). r.closed) (sym yours) ∙ callee_open) in (
      took_seen pair.caller pair.callee x.caller y.caller caller callee x.value y.value mine yours h.0,
      took_seen pair.callee pair.caller y.caller x.caller callee caller y.value x.value yours mine h.1,
    )
