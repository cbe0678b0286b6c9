-- The books of all lines move with the legs.
use Rattle.std.specs.Prelude.{◌≡◌, ℕ, ◌⊎◌, Bool, true, false, ◌==◌, if◌then◌else◌, List, [], ◌∷◌, slice_get, Option, Some, None}
use Rattle.std.proofs.Common.{inl, inr, refl, sym, ap, subst, ◌∙◌, option_map}
use Rattle.std.proofs.lemmas.Option.{none-some, same_Some}
use Rattle.std.proofs.lemmas.Bool.{eqb-true}
use Rattle.link_timers.specs.declared.role.Role.TheVariants.{Dce}
use Rattle.packet_layer.specs.Layer.{Layer}
use Rattle.switch_joins.specs.declared.channels.SwitchChannel.{SwitchChannel}
use Rattle.switch_laws.specs.Leg.{Leg}
use Rattle.switch_laws.specs.World.{World, IsWorld, shown_on, Act, MayHappen, line_of, after_act, world_after, layer_after, leg_after}
use Rattle.switch_laws.proofs.Lists.{get_changed, not_equal}
use Rattle.switch_laws.proofs.Layers.{LineAgrees, world_acts}
use Rattle.switched_call_laws.specs.SwitchRecords.Records.{AreRecords}
use Rattle.switched_call_laws.specs.SwitchRecords.Written.{Books, writes_at, books_after, HaveRecords}
use Rattle.switched_call_laws.specs.SwitchRecords.SwitchRecordLaws.{ActsLaw}
use Rattle.switched_call_laws.proofs.SwitchRecords.Lines.{line_writes}
use Rattle.switch_joins.proofs.Apart.{decided}
use Rattle.switch_lines.proofs.Places.{get_unchanged}

abbrev at : ℕ → ℕ → SwitchChannel
at n c = record { line = n; channel = c }

agrees : (n : ℕ) (l : Layer) (ys : List Layer) (w : World) → slice_get ys n ≡ Some l → IsWorld ys w → (c : ℕ) → LineAgrees l c (w (at n c))
agrees n l ys w e i c s q = i (at n c) s (ap (λ (o : Option Layer). shown_on o c) e ∙ q)

one_writes : (a : Act) (ys : List Layer) (w : World) (bs : Books) → MayHappen a → IsWorld ys w → HaveRecords ys w bs → HaveRecords (after_act a ys) (world_after a ys w) (books_after a ys bs)
one_writes a ys w bs m i h n l' e = by_line (decided (n == line_of a))
  where
    here : (o : Option Layer) → slice_get ys n ≡ o → slice_get (after_act a ys) n ≡ option_map (λ y. layer_after a y) o
        → ((c : ℕ) → world_after a ys w (at n c) ≡ leg_after a o c (w (at n c))) → AreRecords Dce l' (λ c. world_after a ys w (at n c)) (writes_at a o (bs n))
    here None f got leg = absurd (none-some l' (sym got ∙ e))
    here (Some l) f got leg =
        let is : layer_after a l ≡ l' = same_Some _ _ (sym got ∙ e) in
        let old = agrees n l ys w f i in
        let new : (c : ℕ) → LineAgrees (layer_after a l) c (leg_after a (Some l) c (w (at n c))) =
        λ c. subst (λ (g : Leg). LineAgrees (layer_after a l) c g) (leg c) (agrees n (layer_after a l) (after_act a ys) (world_after a ys w) got (world_acts a ys w m i) c) in
        subst (λ (y : Layer). AreRecords Dce y (λ c. world_after a ys w (at n c)) (writes_at a (Some l) (bs n))) is
        (subst (λ (legs : ℕ → Leg). AreRecords Dce (layer_after a l) legs (writes_at a (Some l) (bs n))) (λ k c. sym (leg c) k)
        (line_writes Dce a l (λ c. w (at n c)) (bs n) m old new (h n l f)))

    by_line : ((n == line_of a) ≡ true) ⊎ ((n == line_of a) ≡ false) → AreRecords Dce l' (λ c. world_after a ys w (at n c)) (books_after a ys bs n)
    by_line (inl t) =
        let same : n ≡ line_of a = eqb-true n (line_of a) t in
        let got : slice_get (after_act a ys) n ≡ option_map (λ y. layer_after a y) (slice_get ys n) =
        ap (λ (k : ℕ). slice_get (after_act a ys) k) same ∙ (get_changed (line_of a) (λ y. layer_after a y) ys ∙ ap (λ (k : ℕ). option_map (λ y. layer_after a y) (slice_get ys k)) (sym same)) in
        subst (λ (v : Bool). AreRecords Dce l' (λ c. world_after a ys w (at n c)) (if v then writes_at a (slice_get ys n) (bs n) else bs n)) (sym t)
        (here (slice_get ys n) refl got (λ c. ap (λ (v : Bool). if v then leg_after a (slice_get ys n) c (w (at n c)) else w (at n c)) t))
    by_line (inr f) =
        let got : slice_get (after_act a ys) n ≡ slice_get ys n = get_unchanged (line_of a) n (λ y. layer_after a y) ys (not_equal n (line_of a) f) in
        subst (λ (v : Bool). AreRecords Dce l' (λ c. if v then leg_after a (slice_get ys n) c (w (at n c)) else w (at n c)) (if v then writes_at a (slice_get ys n) (bs n) else bs n)) (sym f)
        (h n l' (sym got ∙ e))

pub acts_write : ActsLaw
acts_write [] ys w bs m i h = h
acts_write (a ∷ more) ys w bs m i h = acts_write more (after_act a ys) (world_after a ys w) (books_after a ys bs) m.1 (world_acts a ys w m.0 i) (one_writes a ys w bs m.0 i h)
