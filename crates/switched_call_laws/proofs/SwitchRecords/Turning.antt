-- Whole events of a switch.
use Rattle.std.specs.Prelude.{◌≡◌, ℕ, zero, suc, List, [], ◌∷◌, map, slice_get, Option, Some, None}
use Rattle.std.proofs.Common.{refl, sym, ap, subst, ◌∙◌, option_map}
use Rattle.std.proofs.lemmas.Option.{none-some, same_Some}
use Rattle.link_timers.specs.declared.role.Role.TheVariants.{Dce}
use Rattle.packet_layer.specs.Layer.{Layer, link_down, unread}
use Rattle.switch_lines.specs.Lines.{SwitchLine}
use Rattle.switch_laws.specs.World.{World, Act, layers_of, after_acts, closed}
use Rattle.switch_laws.specs.Joined.{IsSwitch, Becomes}
use Rattle.switch_laws.proofs.Finishing.{turns}
use Rattle.switched_call_laws.specs.SwitchRecords.Records.{AreRecords}
use Rattle.switched_call_laws.specs.SwitchRecords.Written.{Books, books_after_all, HaveRecords, restart_writes, restarted_books}
use Rattle.switched_call_laws.specs.SwitchRecords.SwitchRecordLaws.{Goes, FrameLaw, TimerLaw, RelinkLaw, ElapseLaw, RestartLaw}
use Rattle.switched_call_laws.proofs.SwitchRecords.Lines.{line_closes}
use Rattle.switched_call_laws.proofs.SwitchRecords.Acts.{acts_write}

goes : {acts : List Act} (ls ms : List SwitchLine) (w : World) (bs : Books) → IsSwitch ls w → HaveRecords (layers_of ls) w bs → Becomes acts ls w ms → Goes acts ls w bs ms
goes {acts} ls ms w bs i h b = record {
  world = b.world;
  reached = b.reached;
  right = b.right;
  records =
      subst (λ (ys : List Layer). HaveRecords ys b.world (books_after_all acts (layers_of ls) bs)) (sym b.reached.layers)
      (subst (λ (v : World). HaveRecords (after_acts acts (layers_of ls)) v (books_after_all acts (layers_of ls) bs)) (sym b.reached.legs)
      (acts_write acts (layers_of ls) w bs b.reached.may i.world h));
}

pub frame_goes : FrameLaw
frame_goes n octets s w bs are i h = goes s.lines _ w bs i h (turns.frame n octets s w i)

pub timer_goes : TimerLaw
timer_goes n id s w bs i h = goes s.lines _ w bs i h (turns.timer n id s w i)

pub relink_goes : RelinkLaw
relink_goes n s w bs i h = goes s.lines _ w bs i h (turns.relinks n s w i)

pub elapse_goes : ElapseLaw
elapse_goes ticks s w bs i h = goes s.lines _ w bs i h (turns.elapses ticks s w i)

-- ---- a restart

restarted_layer : (n : ℕ) (ls : List SwitchLine) (r : SwitchLine → SwitchLine) → ((l : SwitchLine) → (r l).end.layer ≡ unread (link_down l.end.layer)) → slice_get (layers_of (map r ls)) n ≡ option_map (λ l. unread (link_down l)) (slice_get (layers_of ls) n)
restarted_layer n [] r e = refl
restarted_layer zero (l ∷ ls) r e = ap (λ (y : Layer). Some y) (e l)
restarted_layer (suc n) (l ∷ ls) r e = restarted_layer n ls r e

pub restarts : RestartLaw
restarts s w bs h n l' e = by_layer (slice_get (layers_of s.lines) n) refl
  where
    by_layer : (o : Option Layer) → slice_get (layers_of s.lines) n ≡ o → AreRecords Dce l' (λ c. closed (w (record { line = n; channel = c }))) (restarted_books (layers_of s.lines) bs n)
    by_layer None f = absurd (none-some l' (sym (restarted_layer n s.lines _ (λ l. refl) ∙ ap (λ (o : Option Layer). option_map (λ l. unread (link_down l)) o) f) ∙ e))
    by_layer (Some l) f =
        let is : unread (link_down l) ≡ l' = same_Some _ _ (sym (restarted_layer n s.lines _ (λ x. refl) ∙ ap (λ (o : Option Layer). option_map (λ x. unread (link_down x)) o) f) ∙ e) in
        subst (λ (y : Layer). AreRecords Dce y (λ c. closed (w (record { line = n; channel = c }))) (restarted_books (layers_of s.lines) bs n)) is
        (subst (λ (o : Option Layer). AreRecords Dce (unread (link_down l)) (λ c. closed (w (record { line = n; channel = c }))) (restart_writes o (bs n))) (sym f)
        (line_closes Dce l (unread (link_down l)) _ (λ c. w (record { line = n; channel = c })) (bs n) refl (h n l f)))
