-- What the calls of the nodes, losses and restarts make of a line: each is an event of two links, and the line stands
-- on.
use Rattle.std.specs.Prelude.{◌≡◌, ℕ, ◌≤◌, Bool, true, false, List, [], ◌∷◌, ◌++◌, length, map}
use Rattle.std.proofs.Common.{refl, sym, ap, ◌∙◌, subst}
use Rattle.link_timers.specs.declared.role.Role.{Role}
use Rattle.link_timers.specs.declared.role.Role.TheVariants.{Dte, Dce}
use Rattle.frame_codec.specs.Frame.{FrameValue}
use Rattle.frame_codec.specs.Spelling.{spelling}
use Rattle.lapb.specs.Machine.{Octets, Link, Step, on_frame, on_t1, relink, settle, offer, new, remade}
use Rattle.lapb.specs.World.{Sent, World, Event, Offer, Deliver, Lose, Expire, Relink, Settle, Restart, stamped}
use Rattle.lapb.specs.World.{kept_of, dte_does, dce_does, dce_enters, to_dte, to_dce, without_first}
use Rattle.lapb.specs.World.{opening, happens, act_after}
use Rattle.lapb.specs.declared.link.LinkParams.{LinkParams}
use Rattle.lapb.specs.Octets.{on_octets}
use Rattle.lapb.specs.Fits.{AllSpelt, IsShort, octets_of}
use Rattle.lapb.specs.LinkLine.{chosen, StandsIn}
use Rattle.lapb.proofs.Reach.{reached_opening, reached_happens, reached_inv}
use Rattle.lapb.proofs.Fitting.{fit_opening, fit_happens, octets_taken, octets-sent}

-- ---- what is put onto the line

map-kept : (f : FrameValue → Octets) (kept : List Bool) (frames : List FrameValue) → map f (kept_of kept frames)
    ≡ chosen kept (map f frames)
map-kept f [] frames = refl
map-kept f (true ∷ kept) [] = refl
map-kept f (false ∷ kept) [] = refl
map-kept f (true ∷ kept) (x ∷ frames) = ap (λ (xs : List Octets). f x ∷ xs) (map-kept f kept frames)
map-kept f (false ∷ kept) (x ∷ frames) = map-kept f kept frames

put : (from : Role) (flow : List Sent) (octets : List Octets) (t : ℕ) (kept : List Bool) (frames : List FrameValue) →
    octets_of from flow ≡ octets →
    octets_of from (flow ++ stamped t (kept_of kept frames)) ≡ octets ++ chosen kept (map (spelling from) frames)
put from flow octets t kept frames e =
    octets-sent from flow t kept frames ∙ ap (λ (xs : List Octets). octets_of from flow ++ xs)
    (map-kept (spelling from) kept frames) ∙
    ap (λ (xs : List Octets). xs ++ chosen kept (map (spelling from) frames)) e

-- the head of the octets on the way is the spelling of the frame at the head
head_spelt : (from : Role) (s : Sent) (rest : List Sent) (bytes : Octets) (octets : List Octets) → octets_of from
    (s ∷ rest) ≡ bytes ∷ octets →
    (spelling from s.frame ≡ bytes) × (octets_of from rest ≡ octets)
head_spelt from s rest bytes octets e = (cc, cc)

-- a line as it is made
pub stands_opening : (standing : Bool) (dte dce : LinkParams) → dte.k ≤ 7 → dce.k ≤ 7 → dte.info ≡ dce.info →
    StandsIn (opening standing dte dce) (new Dte (record dte { standing = standing }))
    (new Dce (record dce { standing = standing })) [] []
stands_opening standing dte dce few few' same = record {
  reached = reached_opening standing dte dce few few';
  fit = fit_opening standing dte dce same;
  dte_is = refl;
  dce_is = refl;
  up_is = refl;
  down_is = refl;
}

-- ---- calls that take no frame

module _ (w : World) (dte dce : Link) (up down : List Octets) where
  pub stands_offer_dte : (packet : Octets) → length packet ≤ dte.info → StandsIn w dte dce up down →
      StandsIn (happens w (Offer Dte packet)) (offer dte packet) dce up down
  stands_offer_dte packet short s = record {
    reached = reached_happens w (Offer Dte packet) s.reached;
    fit = fit_happens w (Offer Dte packet) s.fit (fits short);
    dte_is = ap (λ l. offer l packet) s.dte_is;
    dce_is = s.dce_is;
    up_is = s.up_is;
    down_is = s.down_is;
  }
    where
      fits : length packet ≤ dte.info → length packet ≤ s.fit.info
      fits short = subst (λ n. length packet ≤ n) (sym (ap (λ l. l.info) s.dte_is) ∙ s.fit.dte.info_is) short

  pub stands_offer_dce : (packet : Octets) → length packet ≤ dce.info → StandsIn w dte dce up down →
      StandsIn (happens w (Offer Dce packet)) dte (offer dce packet) up down
  stands_offer_dce packet short s = record {
    reached = reached_happens w (Offer Dce packet) s.reached;
    fit = fit_happens w (Offer Dce packet) s.fit (fits short);
    dte_is = s.dte_is;
    dce_is = ap (λ l. offer l packet) s.dce_is;
    up_is = s.up_is;
    down_is = s.down_is;
  }
    where
      fits : length packet ≤ dce.info → length packet ≤ s.fit.info
      fits short = subst (λ n. length packet ≤ n) (sym (ap (λ l. l.info) s.dce_is) ∙ s.fit.dce.info_is) short

  dte_stands : (kept : List Bool) (call : Link → Step) (event : Event) → happens w event ≡ dte_does w kept
      (call w.dte) → ((info : ℕ) → IsShort info event) →
      StandsIn w dte dce up down →
      StandsIn (happens w event) (call dte).link dce (up ++ chosen kept (map (spelling Dte) (call dte).frames)) down
  dte_stands kept call event is short s = record {
    reached = reached_happens w event s.reached;
    fit = fit_happens w event s.fit (short s.fit.info);
    dte_is = ap (λ v. v.dte) is ∙ ap (λ l. (call l).link) s.dte_is;
    dce_is = ap (λ v. v.dce) is ∙ s.dce_is;
    up_is = ap (λ v. octets_of Dte v.up) is ∙ put Dte w.up up (act_after w (call w.dte)) kept
        (call w.dte).frames s.up_is ∙
        ap (λ l. up ++ chosen kept (map (spelling Dte) (call l).frames)) s.dte_is;
    down_is = ap (λ v. octets_of Dce v.down) is ∙ s.down_is;
  }

  dce_stands : (kept : List Bool) (call : Link → Step) (event : Event) → happens w event ≡ dce_does w kept
      (call w.dce) → ((info : ℕ) → IsShort info event) →
      StandsIn w dte dce up down →
      StandsIn (happens w event) dte (call dce).link up (down ++ chosen kept (map (spelling Dce) (call dce).frames))
  dce_stands kept call event is short s = record {
    reached = reached_happens w event s.reached;
    fit = fit_happens w event s.fit (short s.fit.info);
    dte_is = ap (λ v. v.dte) is ∙ s.dte_is;
    dce_is = ap (λ v. v.dce) is ∙ ap (λ l. (call l).link) s.dce_is;
    up_is = ap (λ v. octets_of Dte v.up) is ∙ s.up_is;
    down_is = ap (λ v. octets_of Dce v.down) is ∙ put Dce w.down down w.session kept (call w.dce).frames s.down_is ∙
        ap (λ l. down ++ chosen kept (map (spelling Dce) (call l).frames)) s.dce_is;
  }

  pub stands_t1_dte : (kept : List Bool) → StandsIn w dte dce up down →
      StandsIn (happens w (Expire Dte kept)) (on_t1 dte).link dce
      (up ++ chosen kept (map (spelling Dte) (on_t1 dte).frames)) down
  stands_t1_dte kept s = dte_stands kept on_t1 (Expire Dte kept) refl (λ _. tt) s

  pub stands_t1_dce : (kept : List Bool) → StandsIn w dte dce up down →
      StandsIn (happens w (Expire Dce kept)) dte (on_t1 dce).link up
      (down ++ chosen kept (map (spelling Dce) (on_t1 dce).frames))
  stands_t1_dce kept s = dce_stands kept on_t1 (Expire Dce kept) refl (λ _. tt) s

  pub stands_relink_dte : (kept : List Bool) → StandsIn w dte dce up down →
      StandsIn (happens w (Relink Dte kept)) (relink dte).link dce
      (up ++ chosen kept (map (spelling Dte) (relink dte).frames)) down
  stands_relink_dte kept s = dte_stands kept relink (Relink Dte kept) refl (λ _. tt) s

  pub stands_relink_dce : (kept : List Bool) → StandsIn w dte dce up down →
      StandsIn (happens w (Relink Dce kept)) dte (relink dce).link up
      (down ++ chosen kept (map (spelling Dce) (relink dce).frames))
  stands_relink_dce kept s = dce_stands kept relink (Relink Dce kept) refl (λ _. tt) s

  pub stands_settle_dte : (kept : List Bool) → StandsIn w dte dce up down →
      StandsIn (happens w (Settle Dte kept)) (settle dte).link dce
      (up ++ chosen kept (map (spelling Dte) (settle dte).frames)) down
  stands_settle_dte kept s = dte_stands kept settle (Settle Dte kept) refl (λ _. tt) s

  pub stands_settle_dce : (kept : List Bool) → StandsIn w dte dce up down →
      StandsIn (happens w (Settle Dce kept)) dte (settle dce).link up
      (down ++ chosen kept (map (spelling Dce) (settle dce).frames))
  stands_settle_dce kept s = dce_stands kept settle (Settle Dce kept) refl (λ _. tt) s

  -- ---- restarts

  pub stands_restart_dte : StandsIn w dte dce up down → StandsIn (happens w (Restart Dte)) (remade dte) dce [] []
  stands_restart_dte s = record {
    reached = reached_happens w (Restart Dte) s.reached;
    fit = fit_happens w (Restart Dte) s.fit tt;
    dte_is = ap remade s.dte_is;
    dce_is = s.dce_is;
    up_is = refl;
    down_is = refl;
  }

  pub stands_restart_dce : StandsIn w dte dce up down → StandsIn (happens w (Restart Dce)) dte (remade dce) [] []
  stands_restart_dce s = record {
    reached = reached_happens w (Restart Dce) s.reached;
    fit = fit_happens w (Restart Dce) s.fit tt;
    dte_is = s.dte_is;
    dce_is = ap remade s.dce_is;
    up_is = refl;
    down_is = refl;
  }

  -- ---- losses

  pub stands_lose_up : (bytes : Octets) → StandsIn w dte dce (bytes ∷ up) down → StandsIn
      (happens w (Lose Dce)) dte dce up down
  stands_lose_up bytes s = record {
    reached = reached_happens w (Lose Dce) s.reached;
    fit = fit_happens w (Lose Dce) s.fit tt;
    dte_is = s.dte_is;
    dce_is = s.dce_is;
    up_is = rest w.up s.up_is;
    down_is = s.down_is;
  }
    where
      rest : (flow : List Sent) → octets_of Dte flow ≡ bytes ∷ up → octets_of Dte (without_first flow) ≡ up
      rest [] e = absurd (cc)
      rest (x ∷ flow) e = (head_spelt Dte x flow bytes up e).1

  pub stands_lose_down : (bytes : Octets) → StandsIn w dte dce up (bytes ∷ down) → StandsIn
      (happens w (Lose Dte)) dte dce up down
  stands_lose_down bytes s = record {
    reached = reached_happens w (Lose Dte) s.reached;
    fit = fit_happens w (Lose Dte) s.fit tt;
    dte_is = s.dte_is;
    dce_is = s.dce_is;
    up_is = s.up_is;
    down_is = rest w.down s.down_is;
  }
    where
      rest : (flow : List Sent) → octets_of Dce flow ≡ bytes ∷ down → octets_of Dce (without_first flow) ≡ down
      rest [] e = absurd (cc)
      rest (x ∷ flow) e = (head_spelt Dce x flow bytes down e).1

  -- ---- a frame is taken

  pub stands_frame_dte : (bytes : Octets) (kept : List Bool) → StandsIn w dte dce up (bytes ∷ down) →
      StandsIn (happens w (Deliver Dte kept)) (on_octets dte bytes).link dce
      (up ++ chosen kept (map (spelling Dte) (on_octets dte bytes).frames)) down
  stands_frame_dte bytes kept s =
      let taken = go w.down s.fit.down s.down_is in
      record {
        reached = reached_happens w (Deliver Dte kept) s.reached;
        fit = fit_happens w (Deliver Dte kept) s.fit tt;
        dte_is = taken.0;
        dce_is = taken.1;
        up_is = taken.2;
        down_is = taken.3;
      }
    where
      role : w.dte.role ≡ Dte
      role = (reached_inv w s.reached).dte_role

      go : (flow : List Sent) → AllSpelt s.fit.info flow → octets_of Dce flow ≡ bytes ∷ down →
          ((to_dte w kept flow).dte ≡ (on_octets dte bytes).link) × ((to_dte w kept flow).dce ≡ dce) ×
          (octets_of Dte (to_dte w kept flow).up ≡ up ++ chosen kept
          (map (spelling Dte) (on_octets dte bytes).frames)) ×
          (octets_of Dce (to_dte w kept flow).down ≡ down)
      go [] all e = absurd (cc)
      go (x ∷ flow) all e =
          let head = head_spelt Dce x flow bytes down e in
          let step : on_frame w.dte x.frame ≡ on_octets dte bytes =
          sym (octets_taken s.fit.info w.dte Dce x.frame role s.fit.dte all.0) ∙ ap (on_octets w.dte) head.0 ∙ ap
          (λ l. on_octets l bytes) s.dte_is in (
            ap (λ t. t.link) step,
            s.dce_is,
            put Dte w.up up (act_after (record w { down = flow }) (on_frame w.dte x.frame)) kept
                (on_frame w.dte x.frame).frames s.up_is ∙
                ap (λ t. up ++ chosen kept (map (spelling Dte) t.frames)) step,
            head.1,
          )

  pub stands_frame_dce : (bytes : Octets) (kept : List Bool) → StandsIn w dte dce (bytes ∷ up) down →
      StandsIn (happens w (Deliver Dce kept)) dte (on_octets dce bytes).link up
      (down ++ chosen kept (map (spelling Dce) (on_octets dce bytes).frames))
  stands_frame_dce bytes kept s =
      let taken = go w.up s.fit.up s.up_is in
      record {
        reached = reached_happens w (Deliver Dce kept) s.reached;
        fit = fit_happens w (Deliver Dce kept) s.fit tt;
        dte_is = taken.0;
        dce_is = taken.1;
        up_is = taken.2;
        down_is = taken.3;
      }
    where
      role : w.dce.role ≡ Dce
      role = (reached_inv w s.reached).dce_role

      go : (flow : List Sent) → AllSpelt s.fit.info flow → octets_of Dte flow ≡ bytes ∷ up →
          ((to_dce w kept flow).dte ≡ dte) × ((to_dce w kept flow).dce ≡ (on_octets dce bytes).link) ×
          (octets_of Dte (to_dce w kept flow).up ≡ up) ×
          (octets_of Dce (to_dce w kept flow).down ≡ down ++ chosen kept
          (map (spelling Dce) (on_octets dce bytes).frames))
      go [] all e = absurd (cc)
      go (x ∷ flow) all e =
          let head = head_spelt Dte x flow bytes up e in
          let step : on_frame w.dce x.frame ≡ on_octets dce bytes =
          sym (octets_taken s.fit.info w.dce Dte x.frame role s.fit.dce all.0) ∙ ap (on_octets w.dce) head.0 ∙ ap
          (λ l. on_octets l bytes) s.dce_is in (
            s.dte_is,
            ap (λ t. t.link) step,
            head.1,
            put Dce w.down down (dce_enters (record w { up = flow }) x).session kept
                (on_frame w.dce x.frame).frames s.down_is ∙
                ap (λ t. down ++ chosen kept (map (spelling Dce) t.frames)) step,
          )
