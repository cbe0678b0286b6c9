-- Which session an end stands in after it took a frame, and that it begins fresh.
use Rattle.std.specs.Prelude.{◌≡◌, ℕ, Bool, false, not, List, [], ◌∷◌, if◌then◌else◌}
use Rattle.std.proofs.Common.{refl, sym, ap, ◌∙◌, subst, inl, inr}
use Rattle.link_timers.specs.declared.role.Role.{Role}
use Rattle.link_timers.specs.declared.role.Role.TheVariants.{Dte, Dce}
use Rattle.frame_codec.specs.Frame.{FrameValue, Content, I, Rr, Rnr, Rej, Sabm, Disc, Dm, Ua, Frmr}
use Rattle.frame_codec.specs.Spelling.{spelling}
use Rattle.lapb.specs.declared.phase.Phase.{Phase}
use Rattle.lapb.specs.declared.note.Note.{Note}
use Rattle.lapb.specs.Machine.{Octets, Link, Step}
use Rattle.lapb.specs.Machine.{on_content, on_frame}
use Rattle.lapb.specs.World.{Sent, World, Deliver, logged, emptied, is_sabm, is_up_note, to_dte, happens}
use Rattle.lapb.specs.Octets.{on_octets}
use Rattle.lapb.specs.Fits.{AllSpelt, octets_of}
use Rattle.lapb.specs.LinkLine.{StandsIn}
use Rattle.lapb.proofs.Notes.{begins_by}
use Rattle.lapb.proofs.Reach.{reached_inv, reached_begins_fresh}
use Rattle.lapb.proofs.Fitting.{octets_taken}

-- ---- a DCE begins a session by a SABM, and by nothing else

no-up : (note : Note) → (note ≡ Note.Up → ⊥) → is_up_note note ≡ false
no-up Note.Nothing not = refl
no-up Note.Up not = absurd (not refl)
no-up Note.Down not = refl

quiet-else : (l : Link) (content : Content) (r p : Bool) → (l.phase ≡ Phase.SettingUp → ⊥) → (content ≡ Sabm → ⊥)
    → is_up_note (on_content content Dce l r p).note ≡ false
quiet-else l content r p off other = no-up (on_content content Dce l r p).note
    (λ note. elim (begins_by l content Dce r p note) [ inl sabm ↦ other sabm.0 | inr answer ↦ off answer.0 ])

dce_content : (l : Link) (content : Content) (r p : Bool) → (l.phase ≡ Phase.SettingUp → ⊥) →
    is_up_note (on_content content Dce l r p).note ≡ is_sabm content
dce_content l Sabm r p off = refl
dce_content l Disc r p off = quiet-else l Disc r p off (λ e. cc)
dce_content l Dm r p off = quiet-else l Dm r p off (λ e. cc)
dce_content l (I ns nr packet) r p off = quiet-else l (I ns nr packet) r p off (λ e. cc)
dce_content l (Rr nr) r p off = quiet-else l (Rr nr) r p off (λ e. cc)
dce_content l (Rnr nr) r p off = quiet-else l (Rnr nr) r p off (λ e. cc)
dce_content l (Rej nr) r p off = quiet-else l (Rej nr) r p off (λ e. cc)
dce_content l Ua r p off = quiet-else l Ua r p off (λ e. cc)
dce_content l (Frmr report) r p off = quiet-else l (Frmr report) r p off (λ e. cc)

pub dce_begins : (l : Link) (frame : FrameValue) → l.role ≡ Dce → (l.phase ≡ Phase.SettingUp → ⊥) →
    is_up_note (on_frame l frame).note ≡ is_sabm frame.content
dce_begins l frame role off =
    subst (λ (r : Role). is_up_note (on_content frame.content r l frame.response frame.pf).note
    ≡ is_sabm frame.content) (sym role)
    (dce_content l frame.content frame.response frame.pf off)

-- ---- what taking octets makes of the sessions of a line

-- the DTE takes them
pub record TakenAtDte (before after : World) (step : Step) : Type 0 where
  pub own : after.own ≡ (if is_up_note step.note then before.act else before.own)
  pub session : after.session ≡ before.session
  pub accepted : after.dte_accepted ≡ logged before.dte_accepted before.own step.accepted
  pub offered : after.dte_offered ≡ before.dte_offered
  pub dce_accepted : after.dce_accepted ≡ before.dce_accepted
  pub dce_offered : after.dce_offered ≡ before.dce_offered
  pub fresh : step.note ≡ Note.Up → (before.dte_accepted before.act ≡ []) × (before.dce_accepted before.act ≡ []) ×
      (before.dte_offered before.act ≡ [])

-- the DCE takes them, of a frame that was sent in act t
pub record TakenAtDce (before after : World) (step : Step) (t : ℕ) : Type 0 where
  pub own : after.own ≡ before.own
  pub session : after.session ≡ (if is_up_note step.note then t else before.session)
  pub accepted : after.dce_accepted ≡ logged
      (emptied (is_up_note step.note) before.dce_accepted t) after.session step.accepted
  pub offered : after.dce_offered ≡ emptied (is_up_note step.note) before.dce_offered t
  pub dte_accepted : after.dte_accepted ≡ before.dte_accepted
  pub dte_offered : after.dte_offered ≡ before.dte_offered
  pub fresh : step.note ≡ Note.Up → (before.dte_accepted t ≡ []) × (before.dce_accepted t ≡ [])

pub taken_at_dte : (w : World) (dte dce : Link) (up down : List Octets) (bytes : Octets) (kept : List Bool) →
    StandsIn w dte dce up (bytes ∷ down) → TakenAtDte w (happens w (Deliver Dte kept)) (on_octets dte bytes)
taken_at_dte w dte dce up down bytes kept s = go w.down refl s.fit.down s.down_is
  where
    go : (flow : List Sent) → w.down ≡ flow → AllSpelt s.fit.info flow → octets_of Dce flow ≡ bytes ∷ down →
        TakenAtDte w (to_dte w kept flow) (on_octets dte bytes)
    go [] is all e = absurd (cc)
    go (x ∷ flow) is all e =
        let role : w.dte.role ≡ Dte = (reached_inv w s.reached).dte_role in
        let head : spelling Dce x.frame ≡ bytes = cc in
        let step : on_frame w.dte x.frame ≡ on_octets dte bytes =
        sym (octets_taken s.fit.info w.dte Dce x.frame role s.fit.dte all.0) ∙ ap (on_octets w.dte) head ∙ ap
        (λ l. on_octets l bytes) s.dte_is in
        record {
          own = ap (λ (t : Step). if is_up_note t.note then w.act else w.own) step;
          session = refl;
          accepted = ap (λ (t : Step). logged w.dte_accepted w.own t.accepted) step;
          offered = refl;
          dce_accepted = refl;
          dce_offered = refl;
          fresh = λ n. (reached_begins_fresh w s.reached).dte x flow is (ap (λ (t : Step). t.note) step ∙ n);
        }
