-- Whole runs of two links, computed: set-up, stale answers, full windows, losses, polls without an answer, FRMR.
use Rattle.std.specs.Prelude.{◌≡◌, ℕ, true, false, List, [], ◌∷◌, ◌++◌, replicate}
use Rattle.std.proofs.Common.{refl, sym, ap, ◌∙◌}
use Rattle.link_timers.specs.declared.role.Role.{Role}
use Rattle.link_timers.specs.declared.role.Role.TheVariants.{Dte, Dce}
use Rattle.frame_codec.specs.Spelling.{control_of}
use Rattle.frame_codec.specs.Frame.Content.{Rr, Sabm, Ua, Frmr}
use Rattle.lapb.specs.declared.phase.Phase.{Phase}
use Rattle.lapb.specs.declared.note.Note.{Note}
use Rattle.lapb.specs.declared.note.Timing.{Timing}
use Rattle.lapb.specs.Machine.{Octets, Link, Step, UndefinedControl, InformationNotAllowed, InformationTooLong}
use Rattle.lapb.specs.Machine.{no_report, command, response, on_frame, on_defect, on_t1, timing, can_offer, is_full}
use Rattle.lapb.specs.Machine.{at_rest}
use Rattle.lapb.specs.World.{Sent, World, Event, Offer, Deliver, Lose, Expire, Relink, Settle, run, opening, widest, is_sabm}
use Rattle.lapb.specs.World.{AllQuiet, happens, answer_to, MayCarry}

abbrev controls : List Sent → List ℕ
controls [] = []
controls (s ∷ rest) = control_of s.frame.content s.frame.pf ∷ controls rest

-- an event at a link, with the end of its node's event
abbrev at_end : Role → Event → List Event
at_end role event = event ∷ Settle role [] ∷ []

-- the next frame comes to this end; so often
abbrev comes : Role → List Event
comes role = at_end role (Deliver role [])

abbrev come : ℕ → Role → List Event
come n role = repeated (replicate n 0) (comes role)
  where
    repeated : List ℕ → List Event → List Event
    repeated [] events = []
    repeated (_ ∷ rest) events = events ++ repeated rest events

-- packets offered at this end, at the end of an event
abbrev offers : Role → List Octets → List Event
offers role [] = Settle role [] ∷ []
offers role (packet ∷ packets) = Offer role packet ∷ offers role packets

abbrev first : World
first = opening false widest widest

abbrev letters : List Octets
letters = (65 ∷ []) ∷ (66 ∷ []) ∷ (67 ∷ []) ∷ (68 ∷ []) ∷ (69 ∷ []) ∷ (70 ∷ []) ∷ (71 ∷ []) ∷ []

-- ---- set-up, with a packet from each end

abbrev started : World
started = run (at_end Dte (Relink Dte []) ++ at_end Dce (Relink Dce [])) first

started_is : (controls started.up ≡ 0x3F ∷ []) × (controls started.down ≡ 0x0F ∷ [])
started_is = (refl, refl)

abbrev answered : World
answered = run (comes Dce ++ offers Dce ((0x10 ∷ []) ∷ []) ++ comes Dte ++ comes Dte ++ offers Dte ((0x20 ∷ []) ∷ []))
    started

-- neither end sends its packet yet
answered_is : (controls answered.up ≡ 0x11 ∷ []) × (controls answered.down ≡ [])
answered_is = (refl, refl)

abbrev joined : World
joined = run (comes Dce) answered

joined_is : (controls joined.up ≡ []) × (controls joined.down ≡ 0x11 ∷ 0x00 ∷ [])
joined_is = (refl, refl)

abbrev carried : World
carried = run (come 2 Dte ++ come 2 Dce ++ comes Dte) joined

carried_is : (controls (run (come 2 Dte) joined).up ≡ 0x00 ∷ 0x21 ∷ []) × (carried.dte_accepted 1 ≡ (0x10 ∷ []) ∷ [])
    ×
    (carried.dce_accepted 1 ≡ (0x20 ∷ []) ∷ []) × (at_rest carried.dte ≡ true) × (at_rest carried.dce ≡ true)
carried_is = (refl, refl, refl, refl, refl)

-- ---- a stale answer

-- T1 sends the SABM again; the first is answered, the second answered too, and the DTE begins another act
abbrev twice : World
twice = run (at_end Dte (Relink Dte []) ++ at_end Dte (Expire Dte [])) first

twice_is : controls twice.up ≡ 0x3F ∷ 0x3F ∷ []
twice_is = refl

abbrev stale : World
stale = run (comes Dce ++ comes Dte ++ comes Dce ++ at_end Dte (Relink Dte [])) twice

stale_is : (controls stale.up ≡ 0x11 ∷ 0x2F ∷ []) × (controls stale.down ≡ 0x73 ∷ []) × (stale.dte.phase ≡
    Phase.SettingUp)
stale_is = (refl, refl, refl)

-- the stale UA is ignored, and the next SABM answered
abbrev renewed : World
renewed = run (comes Dte ++ come 2 Dce) stale

renewed_is : (renewed.dte.phase ≡ Phase.SettingUp) × (controls renewed.down ≡ 0x11 ∷ 0x63 ∷ [])
renewed_is = (refl, refl)

renewed_up : ((run (come 2 Dte) renewed).dte.phase ≡ Phase.Up) × (controls (run (come 2 Dte) renewed).up ≡ 0x11 ∷ [])
    ×
    ((run (come 2 Dte) renewed).own ≡ 2)
renewed_up = (refl, refl, refl)

-- ---- a repeated SABM, with a packet offered before it

abbrev repeated_set_up : World
repeated_set_up = run (comes Dce ++ comes Dte ++ offers Dce ((99 ∷ []) ∷ []) ++ comes Dce ++ Lose Dte ∷ []) twice

-- the packet is given up unsent
repeated_is : (controls repeated_set_up.up ≡ 0x11 ∷ []) × (controls repeated_set_up.down ≡ []) ×
    (repeated_set_up.dce.queue ≡ [])
repeated_is = (refl, refl, refl)

abbrev exchanged : World
exchanged = run (comes Dce ++ comes Dte ++ offers Dce letters ++ offers Dte letters ++ come 7 Dce ++ come 14 Dte ++
    come 7 Dce ++ offers Dte ((72 ∷ []) ∷ []) ++ offers Dce ((72 ∷ []) ∷ []) ++ comes Dce ++ come 2 Dte ++ comes Dce)
    repeated_set_up

exchanged_is : (exchanged.dte_accepted 1 ≡ letters ++ (72 ∷ []) ∷ []) × (exchanged.dce_accepted 1 ≡ letters ++ (72 ∷
    []) ∷ []) ×
    (at_rest exchanged.dte ≡ true) × (at_rest exchanged.dce ≡ true)
exchanged_is = (refl, refl, refl, refl)

-- ---- a full window, and an answer to a poll

abbrev up_both : World
up_both = run (comes Dce ++ come 2 Dte ++ comes Dce ++ comes Dte) started

abbrev full : World
full = run (offers Dte letters) up_both

full_is : (controls full.up ≡ 0x00 ∷ 0x02 ∷ 0x04 ∷ 0x06 ∷ 0x08 ∷ 0x0A ∷ 0x0C ∷ []) × (is_full full.dte ≡ true) ×
    (can_offer full.dte ≡ false)
full_is = (refl, refl, refl)

abbrev lost_answers : World
lost_answers = run (come 7 Dce ++ replicate 7 (Lose Dte) ++ at_end Dte (Expire Dte [])) full

lost_answers_is : (controls lost_answers.up ≡ 0x11 ∷ []) × (controls (run (comes Dce) lost_answers).down ≡ 0xF1 ∷ [])
lost_answers_is = (refl, refl)

abbrev two_more : World
two_more = run (comes Dce ++ comes Dte ++ offers Dte ((72 ∷ []) ∷ (73 ∷ []) ∷ [])) lost_answers

two_more_is : (controls two_more.up ≡ 0x0E ∷ 0x00 ∷ []) × (controls (run (come 2 Dce) two_more).down ≡ 0x01 ∷ 0x21 ∷
    [])
two_more_is = (refl, refl)

-- ---- a second session

-- the DTE sets the link up again: its second act begins, both ends stand in the first session
abbrev asks_again : World
asks_again = run (at_end Dte (Relink Dte [])) up_both

asks_again_is : (asks_again.own ≡ 1) × (asks_again.session ≡ 1) × (asks_again.act ≡ 2) ×
    (controls asks_again.up ≡ 0x2F ∷ [])
asks_again_is = (refl, refl, refl, refl)

-- the DCE takes the SABM, and then the DTE the UA
abbrev entered : World
entered = run (comes Dce) asks_again

entered_is : (entered.own ≡ 1) × (entered.session ≡ 2) × (entered.act ≡ 2)
entered_is = (refl, refl, refl)

abbrev up_again : World
up_again = run (comes Dte) entered

up_again_is : (up_again.own ≡ 2) × (up_again.session ≡ 2) × (up_again.act ≡ 2) × (up_again.dte.phase ≡ Phase.Up)
up_again_is = (refl, refl, refl, refl)

-- ---- a lost I frame

abbrev gap : World
gap = run (offers Dte ((65 ∷ []) ∷ (66 ∷ []) ∷ (67 ∷ []) ∷ []) ++ Lose Dce ∷ [] ++ come 2 Dce) up_both

gap_is : (controls gap.down ≡ 0x09 ∷ []) × (controls (run (comes Dte) gap).up ≡ 0x00 ∷ 0x02 ∷ 0x04 ∷ []) ×
    (controls (run (comes Dte ++ come 3 Dce) gap).down ≡ 0x21 ∷ 0x41 ∷ 0x61 ∷ [])
gap_is = (refl, refl, refl)

-- ---- polls without an answer

abbrev polled : World
polled = run (offers Dte ((65 ∷ []) ∷ []) ++ at_end Dte (Expire Dte []) ++ at_end Dte (Expire Dte []) ++ at_end Dte
    (Expire Dte [])) up_both

polled_is : controls polled.up ≡ 0x00 ∷ 0x11 ∷ 0x11 ∷ 0x11 ∷ []
polled_is = refl

polled_out : ((on_t1 polled.dte).note ≡ Note.Down) × (controls (run (at_end Dte (Expire Dte [])) polled).up ≡ 0x00 ∷
    0x11 ∷ 0x11 ∷ 0x11 ∷ 0x2F ∷ [])
polled_out = (refl, refl)

-- ---- frames that a DCE cannot take: the report, and FRMR again at a command

abbrev heard : Link
heard = up_both.dce

abbrev undefined : Step
undefined = on_defect heard UndefinedControl 0xFF false

undefined_is : (undefined.frames ≡ response (Frmr (record no_report { control = 0xFF; w = true })) true ∷ []) ×
    (undefined.note ≡ Note.Down) × (undefined.link.phase ≡ Phase.Rejecting) × (timing heard undefined ≡ Timing.Start)
undefined_is = (refl, refl, refl, refl)

again_is : (on_frame undefined.link (record { content = Rr 0; response = false; pf = true })).frames ≡
    response (Frmr (record no_report { control = 0xFF; w = true })) true ∷ []
again_is = refl

not_allowed_is : (on_defect heard InformationNotAllowed 0x3F false).frames ≡
    response (Frmr (record no_report { control = 0x3F; w = true; x = true })) true ∷ []
not_allowed_is = refl

too_long_is : (on_defect heard InformationTooLong 0x00 false).frames ≡
    response (Frmr (record no_report { y = true })) false ∷ []
too_long_is = refl

wrong_number_is : (on_frame heard (record { content = Rr 1; response = false; pf = false })).frames ≡
    response (Frmr (record no_report { control = 0x21; z = true })) false ∷ []
wrong_number_is = refl

-- ---- a standing line

abbrev standing : World
standing = run (offers Dte ((65 ∷ []) ∷ []) ++ Lose Dce ∷ [] ++ at_end Dte (Expire Dte []) ++ comes Dce ++ comes Dte
    ++ comes Dce ++ comes Dte)
    (opening true widest widest)

standing_is : (standing.dce_accepted 0 ≡ (65 ∷ []) ∷ []) × (at_rest standing.dte ≡ true) × (at_rest standing.dce ≡
    true)
standing_is = (refl, refl, refl)

-- ---- any packet each way

abbrev exchange : Octets → Octets → List Event
exchange to_dce to_dte =
    at_end Dte (Relink Dte []) ++ at_end Dce (Relink Dce []) ++ comes Dce ++ offers Dce (to_dte ∷ []) ++ comes Dte ++
    comes Dte ++
    offers Dte (to_dce ∷ []) ++ comes Dce ++ come 2 Dte ++ come 2 Dce ++ comes Dte

abbrev done : Octets → Octets → World
done to_dce to_dte = run (exchange to_dce to_dte) first

done_act : (p q : Octets) → (done p q).act ≡ 1
done_act p q = refl

done_own : (p q : Octets) → (done p q).own ≡ 1
done_own p q = refl

done_session : (p q : Octets) → (done p q).session ≡ 1
done_session p q = refl

done_up : (p q : Octets) → ((done p q).dte.phase ≡ Phase.Up) × ((done p q).dce.phase ≡ Phase.Up)
done_up p q = (refl, refl)

done_at_dce : (p q : Octets) → (done p q).dce_accepted 1 ≡ p ∷ []
done_at_dce p q = refl

done_at_dte : (p q : Octets) → (done p q).dte_accepted 1 ≡ q ∷ []
done_at_dte p q = refl

pub may_carry : MayCarry
may_carry p q = (
  exchange p q,
  record {
    are_up = record {
      dte = (done_up p q).0;
      dce = (done_up p q).1;
      own = done_own p q ∙ sym (done_act p q);
      session = done_session p q ∙ sym (done_act p q);
    };
    at_dce = ap (done p q).dce_accepted (done_act p q) ∙ done_at_dce p q;
    at_dte = ap (done p q).dte_accepted (done_act p q) ∙ done_at_dte p q;
  },
)

-- the premises of coming up are met: as the SABM comes, a DM is on the way to the DTE; it is lost, while packets are
-- offered and events end
abbrev asked : Sent
asked = record { frame = command Sabm true; act = 1 }

abbrev between : List Event
between = Settle Dce [] ∷ Lose Dte ∷ offers Dce letters

met : (started.up ≡ asked ∷ []) × (is_sabm asked.frame.content ≡ true) × (asked.act ≡ started.act) × AllQuiet between ×
    ((run between (happens started (Deliver Dce []))).down ≡ answer_to asked ∷ [])
met = (refl, refl, refl, (tt, (tt, (tt, (tt, (tt, (tt, (tt, (tt, (tt, (tt, tt)))))))))), refl)

-- and those of a fresh beginning, at both ends
begun_dce : is_sabm (command Sabm true).content ≡ true
begun_dce = refl

begun_dte : (on_frame started.dte (response Ua true)).note ≡ Note.Up
begun_dte = refl
