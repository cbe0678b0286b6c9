-- What each call at an end makes of a world of two links, as the end and the other one see it.
use Rattle.std.specs.Prelude.{◌≡◌, ℕ, zero, suc, ◌≤◌, Bool, true, false, not, ◌&&◌, ◌==◌, if◌then◌else◌, List, [], ◌∷◌, ◌++◌, length, map, take, slice_get, Option, Some, None}
use Rattle.std.proofs.Common.{refl, sym, ap, ◌∙◌, subst, arith, append_assoc, append-nil}
use Rattle.std.proofs.lemmas.Bool.{eq-eqb, eqb-true}
use Rattle.link_timers.specs.declared.role.Role.{Role}
use Rattle.link_timers.specs.declared.role.Role.TheVariants.{Dte, Dce}
use Rattle.link_timers.specs.Role.{other_of}
use Rattle.frame_codec.specs.Spelling.{spelling}
use Rattle.lapb.specs.declared.phase.Phase.{Phase}
use Rattle.lapb.specs.declared.note.Note.{Note}
use Rattle.lapb.specs.declared.note.Note.TheVariants.{Nothing, Up, Down}
use Rattle.lapb.specs.Machine.{Octets, Link, Step, is_up, can_offer, is_full, on_frame, on_t1, relink, relink_as, settle, settle_in, send_all, sendable, offer, remade}
use Rattle.lapb.specs.Octets.{on_octets}
use Rattle.lapb.specs.Out.{with_frames}
use Rattle.lapb.specs.World.{Sent, World, Offer, Deliver, Lose, Expire, Relink, Settle, Restart, IsPrefix, happens, dte_does, dce_does, to_dce, logged, emptied, is_sabm, is_up_note, offered}
use Rattle.lapb.specs.Fits.{AllSpelt, octets_of}
use Rattle.lapb.specs.LinkLine.{chosen, StandsIn}
use Rattle.lapb.specs.Rising.{AsksInOrder, Tells, IsPlain}
use Rattle.lapb.proofs.Rising.{tells_on_octets, plain_on_t1, plain_relink, plain_settle, reached_rise, later_at_dte}
use Rattle.lapb.proofs.Lines.{stands_offer_dte, stands_offer_dce, stands_t1_dte, stands_t1_dce, stands_relink_dte, stands_relink_dce, stands_settle_dte, stands_settle_dce, stands_restart_dte, stands_restart_dce, stands_lose_up, stands_lose_down, stands_frame_dte, stands_frame_dce}
use Rattle.lapb.proofs.Inv.{Inv}
use Rattle.lapb.proofs.Reach.{reached_inv, reached_in_order, reached_up, reached_begins_fresh}
use Rattle.lapb.proofs.Fitting.{octets_taken}
use Rattle.lapb.proofs.Sessions.{TakenAtDte, TakenAtDce, taken_at_dte, dce_begins}
use Rattle.node_laws.specs.Lines.Joint.{Side, side, coming_session, first_act, Stands}
use Rattle.node_laws.proofs.Lines.Thinning.{thin, stands_thin}

-- ---- a world in which the links and the octets stand, with these sides of the two ends

pub record Goes (role : Role) (mine yours : Link) (going coming : List Octets) (x y : Side) : Type 0 where
  pub world : World
  pub stands : Stands role world mine yours going coming
  pub mine_is : side role world mine ≡ x
  pub yours_is : side (other_of role) world yours ≡ y

pub role_of : (role : Role) (w : World) (mine yours : Link) (going coming : List Octets) → Stands role w mine yours going coming → mine.role ≡ role
role_of Dte w mine yours going coming s = ap (λ (l : Link). l.role) (sym s.dte_is) ∙ (reached_inv w s.reached).dte_role
role_of Dce w mine yours going coming s = ap (λ (l : Link). l.role) (sym s.dce_is) ∙ (reached_inv w s.reached).dce_role

-- the I frames of both links of a line carry as many octets
pub same_info : (role : Role) (w : World) (mine yours : Link) (going coming : List Octets) → Stands role w mine yours going coming → mine.info ≡ yours.info
same_info Dte w mine yours going coming s =
    ap (λ (l : Link). l.info) (sym s.dte_is) ∙ s.fit.dte.info_is ∙ sym s.fit.dce.info_is ∙ ap (λ (l : Link). l.info) s.dce_is
same_info Dce w mine yours going coming s =
    ap (λ (l : Link). l.info) (sym s.dce_is) ∙ s.fit.dce.info_is ∙ sym s.fit.dte.info_is ∙ ap (λ (l : Link). l.info) s.dte_is

-- ---- frames that are dropped

abbrev over : {A : Type 0} → List A → List Bool → List Bool
over [] kept = kept
over (x ∷ xs) kept = true ∷ over xs kept

over-is : {A : Type 0} (xs ys : List A) (kept : List Bool) → chosen (over xs kept) (xs ++ ys) ≡ xs ++ chosen kept ys
over-is {A} [] ys kept = refl
over-is {A} (x ∷ xs) ys kept = ap (λ (zs : List A). x ∷ zs) (over-is xs ys kept)

abbrev cut : {A : Type 0} → ℕ → List A → List Bool
cut n [] = []
cut zero (x ∷ xs) = false ∷ cut zero xs
cut (suc n) (x ∷ xs) = true ∷ cut n xs

cut-none : {A : Type 0} (xs : List A) → chosen (cut zero xs) xs ≡ []
cut-none [] = refl
cut-none {A} (x ∷ xs) = cut-none xs

cut-is : {A : Type 0} (n : ℕ) (xs : List A) → chosen (cut n xs) xs ≡ take n xs
cut-is {A} zero [] = refl
cut-is {A} (suc n) [] = refl
cut-is {A} zero (x ∷ xs) = cut-none xs
cut-is {A} (suc n) (x ∷ xs) = ap (λ (ys : List A). x ∷ ys) (cut-is n xs)

pub goes_thin : (role : Role) (mine yours : Link) (front waiting coming : List Octets) (x y : Side) (kept : List Bool) →
    Goes role mine yours (front ++ waiting) coming x y → Goes role mine yours (front ++ chosen kept waiting) coming x y
goes_thin Dte mine yours front waiting coming x y kept g = record {
  world = thin (over front kept) [] g.world;
  stands = subst (λ (q : List Octets). StandsIn (thin (over front kept) [] g.world) mine yours q coming) (over-is front waiting kept)
      (stands_thin g.world mine yours (front ++ waiting) coming (over front kept) [] g.stands);
  mine_is = g.mine_is;
  yours_is = g.yours_is;
}
goes_thin Dce mine yours front waiting coming x y kept g = record {
  world = thin [] (over front kept) g.world;
  stands = subst (λ (q : List Octets). StandsIn (thin [] (over front kept) g.world) yours mine coming q) (over-is front waiting kept)
      (stands_thin g.world yours mine coming (front ++ waiting) [] (over front kept) g.stands);
  mine_is = g.mine_is;
  yours_is = g.yours_is;
}

pub goes_none : (role : Role) (mine yours : Link) (front waiting coming : List Octets) (x y : Side) →
    Goes role mine yours (front ++ waiting) coming x y → Goes role mine yours (front ++ []) coming x y
goes_none role mine yours front waiting coming x y g =
    subst (λ (q : List Octets). Goes role mine yours (front ++ q) coming x y) (cut-none waiting) (goes_thin role mine yours front waiting coming x y (cut zero waiting) g)

-- frames that come behind those that wait, as far as there is room
pub goes_behind : (role : Role) (mine yours : Link) (front waiting new coming : List Octets) (x y : Side) →
    Goes role mine yours ((front ++ waiting) ++ new) coming x y → Goes role mine yours (front ++ with_frames waiting new) coming x y
goes_behind role mine yours front waiting [] coming x y g =
    subst (λ (q : List Octets). Goes role mine yours q coming x y) (append-nil (front ++ waiting)) g
goes_behind role mine yours front waiting (frame ∷ new) coming x y g =
    subst (λ (q : List Octets). Goes role mine yours (front ++ q) coming x y) (cut-is 9 (waiting ++ frame ∷ new))
    (goes_thin role mine yours front (waiting ++ frame ∷ new) coming x y (cut 9 (waiting ++ frame ∷ new))
    (subst (λ (q : List Octets). Goes role mine yours q coming x y) (append_assoc {A = Octets} front waiting (frame ∷ new)) g))

-- ---- calls that begin no session and accept nothing

dte_same : (w : World) (step : Step) (l : Link) → IsPlain step → side Dte (dte_does w [] step) l ≡ side Dte w l
dte_same w step l p = λ i. record {
  up = is_up l.phase;
  session = if p.begins i then w.act else w.own;
  offered = w.dte_offered;
  accepted = logged w.dte_accepted w.own (p.accepts i);
}

dce_same : (w : World) (step : Step) (l : Link) → IsPlain step → side Dce (dce_does w [] step) l ≡ side Dce w l
dce_same w step l p = λ i. record {
  up = is_up l.phase;
  session = w.session;
  offered = w.dce_offered;
  accepted = logged w.dce_accepted w.session (p.accepts i);
}

-- the same side, up or not as this link is
abbrev pub at_link : Side → Link → Side
at_link x l = record x { up = is_up l.phase }

module _ (mine yours : Link) (going coming : List Octets) (x y : Side) where
  pub goes_t1 : (role : Role) → Goes role mine yours going coming x y →
      Goes role (on_t1 mine).link yours (going ++ map (spelling role) (on_t1 mine).frames) coming (at_link x (on_t1 mine).link) y
  goes_t1 Dte g = record {
    world = happens g.world (Expire Dte []);
    stands = stands_t1_dte g.world mine yours going coming [] g.stands;
    mine_is = dte_same g.world (on_t1 g.world.dte) (on_t1 mine).link (plain_on_t1 g.world.dte) ∙ ap (λ (z : Side). at_link z (on_t1 mine).link) g.mine_is;
    yours_is = g.yours_is;
  }
  goes_t1 Dce g = record {
    world = happens g.world (Expire Dce []);
    stands = stands_t1_dce g.world yours mine coming going [] g.stands;
    mine_is = dce_same g.world (on_t1 g.world.dce) (on_t1 mine).link (plain_on_t1 g.world.dce) ∙ ap (λ (z : Side). at_link z (on_t1 mine).link) g.mine_is;
    yours_is = g.yours_is;
  }

  pub goes_relink : (role : Role) → Goes role mine yours going coming x y →
      Goes role (relink mine).link yours (going ++ map (spelling role) (relink mine).frames) coming (at_link x (relink mine).link) y
  goes_relink Dte g = record {
    world = happens g.world (Relink Dte []);
    stands = stands_relink_dte g.world mine yours going coming [] g.stands;
    mine_is = dte_same g.world (relink g.world.dte) (relink mine).link (plain_relink g.world.dte) ∙ ap (λ (z : Side). at_link z (relink mine).link) g.mine_is;
    yours_is = g.yours_is;
  }
  goes_relink Dce g = record {
    world = happens g.world (Relink Dce []);
    stands = stands_relink_dce g.world yours mine coming going [] g.stands;
    mine_is = dce_same g.world (relink g.world.dce) (relink mine).link (plain_relink g.world.dce) ∙ ap (λ (z : Side). at_link z (relink mine).link) g.mine_is;
    yours_is = g.yours_is;
  }

  pub goes_settle : (role : Role) → Goes role mine yours going coming x y →
      Goes role (settle mine).link yours (going ++ map (spelling role) (settle mine).frames) coming (at_link x (settle mine).link) y
  goes_settle Dte g = record {
    world = happens g.world (Settle Dte []);
    stands = stands_settle_dte g.world mine yours going coming [] g.stands;
    mine_is = dte_same g.world (settle g.world.dte) (settle mine).link (plain_settle g.world.dte) ∙ ap (λ (z : Side). at_link z (settle mine).link) g.mine_is;
    yours_is = g.yours_is;
  }
  goes_settle Dce g = record {
    world = happens g.world (Settle Dce []);
    stands = stands_settle_dce g.world yours mine coming going [] g.stands;
    mine_is = dce_same g.world (settle g.world.dce) (settle mine).link (plain_settle g.world.dce) ∙ ap (λ (z : Side). at_link z (settle mine).link) g.mine_is;
    yours_is = g.yours_is;
  }

  pub goes_restart : (role : Role) → Goes role mine yours going coming x y → Goes role (remade mine) yours [] [] (at_link x (remade mine)) y
  goes_restart Dte g = record {
    world = happens g.world (Restart Dte);
    stands = stands_restart_dte g.world mine yours going coming g.stands;
    mine_is = ap (λ (z : Side). at_link z (remade mine)) g.mine_is;
    yours_is = g.yours_is;
  }
  goes_restart Dce g = record {
    world = happens g.world (Restart Dce);
    stands = stands_restart_dce g.world yours mine coming going g.stands;
    mine_is = ap (λ (z : Side). at_link z (remade mine)) g.mine_is;
    yours_is = g.yours_is;
  }

  -- a packet is offered to a link that takes it
  pub goes_offer : (role : Role) (packet : Octets) → can_offer mine ≡ true → length packet ≤ mine.info → Goes role mine yours going coming x y →
      Goes role (offer mine packet) yours going coming (record x { offered = logged x.offered x.session (Some packet) }) y
  goes_offer Dte packet room short g = record {
    world = happens g.world (Offer Dte packet);
    stands = stands_offer_dte g.world mine yours going coming packet short g.stands;
    mine_is =
        ap (λ (o : Option Octets). record (side Dte g.world mine) { offered = logged g.world.dte_offered g.world.own o })
        (ap (λ (l : Link). offered l packet) g.stands.dte_is ∙ ap (λ (b : Bool). if b then Some packet else None) room)
        ∙ ap (λ (z : Side). record z { offered = logged z.offered z.session (Some packet) }) g.mine_is;
    yours_is = g.yours_is;
  }
  goes_offer Dce packet room short g = record {
    world = happens g.world (Offer Dce packet);
    stands = stands_offer_dce g.world yours mine coming going packet short g.stands;
    mine_is =
        ap (λ (o : Option Octets). record (side Dce g.world mine) { offered = logged g.world.dce_offered g.world.session o })
        (ap (λ (l : Link). offered l packet) g.stands.dce_is ∙ ap (λ (b : Bool). if b then Some packet else None) room)
        ∙ ap (λ (z : Side). record z { offered = logged z.offered z.session (Some packet) }) g.mine_is;
    yours_is = g.yours_is;
  }

  -- the first frame on the way to the end is lost
  pub goes_lose : (role : Role) (octets : Octets) → Goes role mine yours going (octets ∷ coming) x y → Goes role mine yours going coming x y
  goes_lose Dte octets g = record {
    world = happens g.world (Lose Dte);
    stands = stands_lose_down g.world mine yours going coming octets g.stands;
    mine_is = g.mine_is;
    yours_is = g.yours_is;
  }
  goes_lose Dce octets g = record {
    world = happens g.world (Lose Dce);
    stands = stands_lose_up g.world yours mine coming going octets g.stands;
    mine_is = g.mine_is;
    yours_is = g.yours_is;
  }

-- a relink leaves no session
pub relink_not_up : (l : Link) → is_up (relink l).link.phase ≡ false
relink_not_up l = by l.role l.phase refl
  where
    by : (role : Role) (phase : Phase) → l.phase ≡ phase → is_up (relink_as role phase l).link.phase ≡ false
    by Dte Phase.SettingUp e = ap is_up e
    by Dte Phase.Down e = refl
    by Dte Phase.Up e = refl
    by Dte Phase.Rejecting e = refl
    by Dce phase e = refl

pub settle_as_up : (l : Link) → is_up (settle l).link.phase ≡ is_up l.phase
settle_as_up l = by l.phase
  where
    sent : (packets : List Octets) → is_up (send_all l packets).link.phase ≡ is_up l.phase
    sent [] = refl
    sent (packet ∷ packets) = refl

    by : (phase : Phase) → is_up (settle_in phase l).link.phase ≡ is_up l.phase
    by Phase.Up = sent (sendable l)
    by Phase.Down = refl
    by Phase.SettingUp = refl
    by Phase.Rejecting = refl

and_left : (a b : Bool) → (a && b) ≡ true → a ≡ true
and_left true b e = refl
and_left false b e = absurd (cc)

pub takes_up : (l : Link) → can_offer l ≡ true → is_up l.phase ≡ true
takes_up l room = and_left (is_up l.phase) (not (is_full l)) room

-- ---- a step, as its end sees it: it enters session n, leaves its session, stays as it is, or takes the next packet

pub data Takes (note : Note) (accepted : Option Octets) (n : ℕ) (x after y : Side) : Type 0 where
  enters : note ≡ Up → accepted ≡ None → 1 ≤ n → x.session ≤ n → x.accepted n ≡ [] → y.accepted n ≡ [] →
      after ≡ record x { up = true; session = n; offered = emptied true x.offered n } → Takes note accepted n x after y
  leaves : note ≡ Down → accepted ≡ None → after ≡ record x { up = false } → Takes note accepted n x after y
  stays : note ≡ Nothing → accepted ≡ None → after ≡ x → Takes note accepted n x after y
  takes : (packet : Octets) → note ≡ Nothing → accepted ≡ Some packet → x.up ≡ true → y.session ≤ x.session →
      slice_get (y.offered x.session) (length (x.accepted x.session)) ≡ Some packet →
      after ≡ record x { accepted = logged x.accepted x.session (Some packet) } → Takes note accepted n x after y

down_is : (phase : Phase) → (phase ≡ Phase.Up → ⊥) → is_up phase ≡ false
down_is Phase.Up h = absurd (h refl)
down_is Phase.Down h = refl
down_is Phase.SettingUp h = refl
down_is Phase.Rejecting h = refl

-- a step that begins no session and accepts nothing
pub plain_takes : (l : Link) (step : Step) (n : ℕ) (x y : Side) → x.up ≡ is_up l.phase → Tells l step → IsPlain step → Takes step.note None n x (at_link x step.link) y
plain_takes l step n x y was t p = by step.note refl
  where
    by : (note : Note) → step.note ≡ note → Takes step.note None n x (at_link x step.link) y
    by Up e = absurd (let b = ap is_up_note e in let c = p.begins in let d : true ≡ false = sym b ∙ c in cc)
    by Down e = leaves e refl (ap (λ (b : Bool). record x { up = b }) (down_is step.link.phase (t.ends e).1))
    by Nothing e = stays e refl (ap (λ (b : Bool). record x { up = b }) (t.stays e ∙ sym was))

get_behind : (front : List Octets) (packet : Octets) (rest : List Octets) → slice_get ((front ++ packet ∷ []) ++ rest) (length front) ≡ Some packet
get_behind [] packet rest = refl
get_behind (z ∷ front) packet rest = get_behind front packet rest

logged_now : (lists : ℕ → List Octets) (s : ℕ) (packet : Octets) → logged lists s (Some packet) s ≡ lists s ++ packet ∷ []
logged_now lists s packet = ap (λ (b : Bool). if b then lists s ++ packet ∷ [] else lists s) (eq-eqb s s refl)

next_is : (lists : ℕ → List Octets) (whole : List Octets) (s : ℕ) (packet : Octets) → IsPrefix (logged lists s (Some packet) s) whole →
    slice_get whole (length (lists s)) ≡ Some packet
next_is lists whole s packet prefix =
    ap (λ (q : List Octets). slice_get q (length (lists s))) (sym prefix.1 ∙ ap (λ (q : List Octets). q ++ prefix.0) (logged_now lists s packet))
    ∙ get_behind (lists s) packet prefix.0

pub frame_takes : (l : Link) (step : Step) (n : ℕ) (x after y : Side) → x.up ≡ is_up l.phase → after.up ≡ is_up step.link.phase → Tells l step
    → after.session ≡ (if is_up_note step.note then n else x.session)
    → after.offered ≡ emptied (is_up_note step.note) x.offered n
    → after.accepted ≡ logged x.accepted x.session step.accepted
    → (step.note ≡ Up → (1 ≤ n) × (x.session ≤ n) × (x.accepted n ≡ []) × (y.accepted n ≡ []))
    → (l.phase ≡ Phase.Up → y.session ≤ x.session)
    → ((s : ℕ) → IsPrefix (after.accepted s) (y.offered s))
    → Takes step.note step.accepted n x after y
frame_takes l step n x after y was is t session offered_is accepted_is fresh before order = by step.note refl step.accepted refl
  where
    same : (note : Note) → step.note ≡ note → (accepted : Option Octets) → step.accepted ≡ accepted → (up : Bool) → is_up step.link.phase ≡ up →
        after ≡ record { up = up; session = if is_up_note note then n else x.session; offered = emptied (is_up_note note) x.offered n; accepted = logged x.accepted x.session accepted }
    same note e accepted f up u = λ i. record {
      up = (is ∙ u) i;
      session = (session ∙ ap (λ (q : Note). if is_up_note q then n else x.session) e) i;
      offered = (offered_is ∙ ap (λ (q : Note). emptied (is_up_note q) x.offered n) e) i;
      accepted = (accepted_is ∙ ap (λ (q : Option Octets). logged x.accepted x.session q) f) i;
    }

    by : (note : Note) → step.note ≡ note → (accepted : Option Octets) → step.accepted ≡ accepted → Takes step.note step.accepted n x after y
    by Up e None f = let h = fresh e in enters e f h.0 h.1 h.2 h.3 (same Up e None f true (ap is_up (t.begins e).0))
    by Up e (Some packet) f = absurd (let g = (t.begins e).1 in let h : None ≡ Some packet = sym g ∙ f in cc)
    by Down e None f = leaves e f (same Down e None f false (down_is step.link.phase (t.ends e).1))
    by Down e (Some packet) f = absurd (let g = (t.ends e).2 in let h : None ≡ Some packet = sym g ∙ f in cc)
    by Nothing e None f = stays e f (same Nothing e None f x.up (t.stays e ∙ sym was))
    by Nothing e (Some packet) f =
        let a = t.accepts packet f in
        let here = same Nothing e (Some packet) f x.up (t.stays e ∙ sym was) in
        takes packet e f (was ∙ ap is_up a.1) (before a.1)
        (next_is x.accepted (y.offered x.session) x.session packet
        (subst (λ (z : Side). IsPrefix (z.accepted x.session) (y.offered x.session)) here (order x.session))) here

-- ---- a frame arrives

emptied_same : (lists : ℕ → List Octets) (n : ℕ) → lists n ≡ [] → lists ≡ emptied true lists n
emptied_same lists n none = λ i s. at s (s == n) refl i
  where
    at : (s : ℕ) (b : Bool) → (s == n) ≡ b → lists s ≡ (if true && b then [] else lists s)
    at s true e = ap lists (eqb-true s n e) ∙ none
    at s false e = refl

emptied_if : (lists : ℕ → List Octets) (n : ℕ) (due : Bool) → (due ≡ true → lists n ≡ []) → lists ≡ emptied due lists n
emptied_if lists n true none = emptied_same lists n (none refl)
emptied_if lists n false none = refl

up_note : (note : Note) → is_up_note note ≡ true → note ≡ Up
up_note Up e = refl
up_note Down e = absurd (cc)
up_note Nothing e = absurd (cc)

pub goes_frame_dte : (w : World) (mine yours : Link) (going coming : List Octets) (octets : Octets) → Stands Dte w mine yours going (octets ∷ coming) →
    (after : Side) × Takes (on_octets mine octets).note (on_octets mine octets).accepted (coming_session Dte w) (side Dte w mine) after (side Dce w yours)
    × Goes Dte (on_octets mine octets).link yours (going ++ map (spelling Dte) (on_octets mine octets).frames) coming after (side Dce w yours)
goes_frame_dte w mine yours going coming octets s = (
  side Dte (happens w (Deliver Dte [])) (on_octets mine octets).link,
  frame_takes mine (on_octets mine octets) w.act (side Dte w mine) (side Dte (happens w (Deliver Dte [])) (on_octets mine octets).link) (side Dce w yours)
      refl refl (tells_on_octets mine octets) t.own
      (t.offered ∙ emptied_if w.dte_offered w.act (is_up_note (on_octets mine octets).note) (λ e. (t.fresh (up_note (on_octets mine octets).note e)).2))
      t.accepted
      (λ e. let f = t.fresh e in let r = later_at_dte w mine yours going coming octets s e in (omega arith, omega arith, f.0, f.1))
      (λ e. let u = reached_up w s.reached (ap (λ (l : Link). l.phase) s.dte_is ∙ e) in let a = u.0 in let b = u.1 in omega arith)
      (λ n. subst (λ (q : ℕ → List Octets). IsPrefix ((happens w (Deliver Dte [])).dte_accepted n) (q n)) t.dce_offered ((reached_in_order (happens w (Deliver Dte [])) g.reached).at_dte n)),
  record {
    world = happens w (Deliver Dte []);
    stands = g;
    mine_is = refl;
    yours_is = λ i. record { up = is_up yours.phase; session = t.session i; offered = t.dce_offered i; accepted = t.dce_accepted i };
  },
)
  where
    t : TakenAtDte w (happens w (Deliver Dte [])) (on_octets mine octets)
    t = taken_at_dte w mine yours going coming octets [] s

    g : StandsIn (happens w (Deliver Dte [])) (on_octets mine octets).link yours (going ++ map (spelling Dte) (on_octets mine octets).frames) coming
    g = stands_frame_dte w mine yours going coming octets [] s

-- what the DCE makes of the frame that comes first
pub record TakenFirst (before after : World) (step : Step) (n : ℕ) : Type 0 where
  pub taken : TakenAtDce before after step n
  pub rises : step.note ≡ Up → (1 ≤ n) × (before.session ≤ n)

taken_first : (w : World) (dte dce : Link) (up down : List Octets) (bytes : Octets) → StandsIn w dte dce (bytes ∷ up) down →
    TakenFirst w (happens w (Deliver Dce [])) (on_octets dce bytes) (first_act w.up)
taken_first w dte dce up down bytes s = go w.up refl s.fit.up s.up_is
  where
    go : (flow : List Sent) → w.up ≡ flow → AllSpelt s.fit.info flow → octets_of Dte flow ≡ bytes ∷ up →
        TakenFirst w (to_dce w [] flow) (on_octets dce bytes) (first_act flow)
    go [] is all e = absurd (cc)
    go (x ∷ flow) is all e =
        let i : Inv w = reached_inv w s.reached in
        let head : spelling Dte x.frame ≡ bytes = cc in
        let step : on_frame w.dce x.frame ≡ on_octets dce bytes =
        sym (octets_taken s.fit.info w.dce Dte x.frame i.dce_role s.fit.dce all.0) ∙ ap (on_octets w.dce) head ∙ ap (λ l. on_octets l bytes) s.dce_is in
        let set : is_sabm x.frame.content ≡ is_up_note (on_octets dce bytes).note =
        sym (dce_begins w.dce x.frame i.dce_role i.dce_set) ∙ ap (λ (t : Step). is_up_note t.note) step in
        let asks : AsksInOrder w (x ∷ flow) = subst (λ (q : List Sent). AsksInOrder w q) is (reached_rise w s.reached).asked in
        record {
          taken = record {
            own = refl;
            session = ap (λ b. if b then x.act else w.session) set;
            accepted =
                ap (λ b. logged (emptied b w.dce_accepted x.act) (if is_sabm x.frame.content then x.act else w.session) (on_frame w.dce x.frame).accepted) set
                ∙ ap (λ (t : Step). logged (emptied (is_up_note (on_octets dce bytes).note) w.dce_accepted x.act)
                (if is_sabm x.frame.content then x.act else w.session) t.accepted) step;
            offered = ap (λ b. emptied b w.dce_offered x.act) set;
            dte_accepted = refl;
            dte_offered = refl;
            fresh = λ n. (reached_begins_fresh w s.reached).dce x flow is (set ∙ ap is_up_note n);
          };
          rises = λ n. let a = asks.0 (set ∙ ap is_up_note n) in (a.0, a.1);
        }

pub goes_frame_dce : (w : World) (mine yours : Link) (going coming : List Octets) (octets : Octets) → Stands Dce w mine yours going (octets ∷ coming) →
    (after : Side) × Takes (on_octets mine octets).note (on_octets mine octets).accepted (coming_session Dce w) (side Dce w mine) after (side Dte w yours)
    × Goes Dce (on_octets mine octets).link yours (going ++ map (spelling Dce) (on_octets mine octets).frames) coming after (side Dte w yours)
goes_frame_dce w mine yours going coming octets s = (
  side Dce (happens w (Deliver Dce [])) (on_octets mine octets).link,
  frame_takes mine (on_octets mine octets) (first_act w.up) (side Dce w mine) (side Dce (happens w (Deliver Dce [])) (on_octets mine octets).link) (side Dte w yours)
      refl refl tells t.session t.offered
      (t.accepted ∙ accepted_same (is_up_note (on_octets mine octets).note) (happens w (Deliver Dce [])).session (on_octets mine octets).accepted
      (λ e. let n = up_note (on_octets mine octets).note e in ((t.fresh n).1, (tells.begins n).1))
      (λ e. t.session ∙ ap (λ (b : Bool). if b then first_act w.up else w.session) e))
      (λ e. let f = t.fresh e in let r = first.rises e in (r.0, r.1, f.1, f.0))
      (λ e. (reached_rise w s.reached).own)
      (λ n. subst (λ (q : ℕ → List Octets). IsPrefix ((happens w (Deliver Dce [])).dce_accepted n) (q n)) t.dte_offered ((reached_in_order (happens w (Deliver Dce [])) g.reached).at_dce n)),
  record {
    world = happens w (Deliver Dce []);
    stands = g;
    mine_is = refl;
    yours_is = λ i. record { up = is_up yours.phase; session = t.own i; offered = t.dte_offered i; accepted = t.dte_accepted i };
  },
)
  where
    first : TakenFirst w (happens w (Deliver Dce [])) (on_octets mine octets) (first_act w.up)
    first = taken_first w yours mine coming going octets s

    t : TakenAtDce w (happens w (Deliver Dce [])) (on_octets mine octets) (first_act w.up)
    t = first.taken

    tells : Tells mine (on_octets mine octets)
    tells = tells_on_octets mine octets

    g : StandsIn (happens w (Deliver Dce [])) yours (on_octets mine octets).link coming (going ++ map (spelling Dce) (on_octets mine octets).frames)
    g = stands_frame_dce w yours mine coming going octets [] s

    accepted_same : (due : Bool) (session : ℕ) (accepted : Option Octets) → (due ≡ true → (w.dce_accepted (first_act w.up) ≡ []) × (accepted ≡ None)) → (due ≡ false → session ≡ w.session) →
        logged (emptied due w.dce_accepted (first_act w.up)) session accepted ≡ logged w.dce_accepted w.session accepted
    accepted_same true session accepted h k =
        ap (λ (o : Option Octets). logged (emptied true w.dce_accepted (first_act w.up)) session o) (h refl).1
        ∙ sym (emptied_same w.dce_accepted (first_act w.up) (h refl).0)
        ∙ ap (λ (o : Option Octets). logged w.dce_accepted w.session o) (sym (h refl).1)
    accepted_same false session accepted h k = ap (λ (n : ℕ). logged w.dce_accepted n accepted) (k refl)

pub goes_frame : (role : Role) (w : World) (mine yours : Link) (going coming : List Octets) (octets : Octets) → Stands role w mine yours going (octets ∷ coming) →
    (after : Side) × Takes (on_octets mine octets).note (on_octets mine octets).accepted (coming_session role w) (side role w mine) after (side (other_of role) w yours)
    × Goes role (on_octets mine octets).link yours (going ++ map (spelling role) (on_octets mine octets).frames) coming after (side (other_of role) w yours)
goes_frame Dte w mine yours going coming octets s = goes_frame_dte w mine yours going coming octets s
goes_frame Dce w mine yours going coming octets s = goes_frame_dce w mine yours going coming octets s
