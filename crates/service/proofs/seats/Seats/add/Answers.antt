use Rattle.std.proofs.Common.{◌≡◌, false, List, [], ◌∷◌, ◌++◌, refl, sym, ap, ◌∙◌, subst}
use Rattle.service.specs.declared.place.Place.{Place}
use Rattle.service.specs.declared.terminal.Terminal.{Terminal}
use Rattle.service.specs.declared.terminal.Terms.{Terms}
use Rattle.service.specs.Places.{is_bound}
use Rattle.service.specs.Seats.{AreSeated}
use Rattle.service.specs.Terminals.{fresh}
use Rattle.service.proofs.Seated.{free_at, seated_more}
use Rattle.service.proofs.seats.Seats.add.Goals as goal

pub returns : goal.returns
returns c tables seated there =
    let binding = c.args.binding.now in
    let place : Place = record { node = binding.node; number = c.args.number } in
    let places = c.args.self.now.places.items in
    let p : Terminal = c.in_ok-new.field-0 in
    let none : is_bound place places ≡ false
    = ap (λ (ps : List Place). is_bound place ps) (sym c.deref.ensures.value) ∙ sym c.is_bound.ensures ∙ c.if-is_bound.false in
    let made = c.in_ok-new.ensures in
    let all = seated_more tables places c.args.self.now.terminals.items place p seated (free_at places place none) (
      c.args.table,
      binding,
      there,
      record {
        pad = refl;
        from = c.requires.from;
        to = c.requires.to;
        table_is = ap (λ (t : Terminal). t.terms.table) made;
        idle = ap (λ (t : Terminal). t.terms.idle) made;
        xon = ap (λ (t : Terminal). t.terms.has_xon) made;
        made = made ∙ ap (λ (terms : Terms). fresh binding.mode terms) (sym (ap (λ (t : Terminal). t.terms) made));
      },
    ) in
    subst (λ ps. AreSeated tables ps c.push.new.self.items) (sym c.in_ok-push-2.ensures.items)
    (subst (λ ts. AreSeated tables (places ++ place ∷ []) ts) (sym c.in_ok-push.ensures.items) all)
