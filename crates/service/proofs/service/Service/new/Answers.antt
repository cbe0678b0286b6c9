use Rattle.std.proofs.Common.{List, sym, subst}
use Rattle.service.specs.declared.place.Place.{Place}
use Rattle.service.specs.Places.{AreApart}
use Rattle.service.proofs.service.Service.new.Goals as goal

pub serve_terminals-requires-clause-apart : goal.serve_terminals-requires-clause-apart
serve_terminals-requires-clause-apart g c =
    subst (λ (places : List Place). AreApart places) (sym c.deref-2.ensures.value) c.in_ok-places.ensures.apart
