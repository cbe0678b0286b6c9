-- What each end's expiry of T1 brings about, and that every step of an end keeps it where nothing is lost.
use Rattle.std.specs.Prelude.{◌≡◌, ℕ, ◌+◌, ◌<◌, ◌≤◌, Bool, true, false, not, ◌&&◌, ◌⊎◌, List, [], ◌∷◌, ◌++◌, length, drop}
use Rattle.std.specs.Prelude.{if◌then◌else◌}
use Rattle.std.proofs.Common.{refl, sym, ap, ◌∙◌, subst, inl, inr, append-nil}
use Rattle.frame_codec.specs.Frame.{FrameValue, Content}
use Rattle.frame_codec.specs.Frame.Content.{I, Rr, Rnr, Rej, Sabm, Disc, Dm, Ua, Frmr}
use Rattle.lapb.specs.declared.phase.Phase.{Phase}
use Rattle.lapb.specs.Machine.{Octets, Link, Step, ahead, response, command, is_same, still, sends, cleared, set_up}
use Rattle.lapb.specs.Machine.{come_up, poll, numbered, send_all}
use Rattle.lapb.specs.World.{Sent, stamped}
use Rattle.arrival_laws.proofs.Frames.{cond_by, is_poll_of, is_poll, sets, is_dm, sets_in, sets_with, accepts_in, Any}
use Rattle.arrival_laws.proofs.Frames.{NotAny, any-more, any-new, any-rest, none-more, none-front, NoneOf, none-stamped}
use Rattle.arrival_laws.proofs.Frames.{PollLast, last-more, last-new, read, reads, tells, tells-more}
use Rattle.arrival_laws.proofs.Took.{Took}
use Rattle.arrival_laws.proofs.Ways.{Way, way-x_takes, way-y_takes, way-y_answers, way-y_polls, way-y_sends, way-x_sends}

abbrev pub WayOf : Link → Link → List Sent → List Sent → Type 0
WayOf x y flow back = Way x.polling x.oldest x.next y.expected y.owed flow back

-- After T1 of the DTE: where it sets up, a SABM of its act is on the way, or the UA; where it is up, a poll is, with no
-- SABM behind it, or no SABM is and what it sends goes its way.
pub record GoesDte (x y : Link) (ups downs : List Sent) : Type 0 where
  pub setting : x.phase ≡ Phase.SettingUp → Any (sets_in x.bit) ups ⊎ Any (accepts_in x.bit) downs
  pub up : x.phase ≡ Phase.Up → PollLast ups ⊎ (NotAny sets ups × (y.phase ≡ Phase.Up → WayOf x y ups downs))

-- After T1 of the DCE: where it is down beside a DTE that is up, a DM is on the way, or a poll to it; where both are up
-- and no SABM is on the way, a poll is on the way to the DTE, or what the DCE sends goes its way.
pub record GoesDce (x y : Link) (ups downs : List Sent) : Type 0 where
  pub out : y.phase ≡ Phase.Down → x.phase ≡ Phase.Up → Any is_dm downs ⊎ Any is_poll ups
  pub up : y.phase ≡ Phase.Up → x.phase ≡ Phase.Up → NotAny sets ups → Any is_poll downs ⊎ WayOf y x downs ups

abbrev pub StartedDte : Link → Type 0
StartedDte x = x.phase ≡ Phase.Down → ⊥

abbrev pub StartedDce : Link → Type 0
StartedDce y = y.phase ≡ Phase.Down → y.repeats ≡ true

pub record Kept (x y : Link) (up down : List Sent) (x' y' : Link) (up' down' : List Sent) : Type 0 where
  pub started_dte : StartedDte x → StartedDte x'
  pub started_dce : StartedDce y → StartedDce y'
  pub dte : StartedDte x → GoesDte x y up down → GoesDte x' y' up' down'
  pub dce : StartedDte x → GoesDce x y up down → GoesDce x' y' up' down'

-- ---- phases and bits

up-not_down : Phase.Up ≡ Phase.Down → ⊥
up-not_down e = cc

up-not_setting : Phase.Up ≡ Phase.SettingUp → ⊥
up-not_setting e = cc

same-self : (b : Bool) → is_same b b ≡ true
same-self true = refl
same-self false = refl

not-set : (bit : Bool) (content : Content) (p : Bool) → (content ≡ Sabm → ⊥) → sets_with bit content p ≡ false
not-set bit Sabm p off = absurd (off refl)
not-set bit (I ns nr packet) p off = refl
not-set bit (Rr nr) p off = refl
not-set bit (Rnr nr) p off = refl
not-set bit (Rej nr) p off = refl
not-set bit Disc p off = refl
not-set bit Dm p off = refl
not-set bit Ua p off = refl
not-set bit (Frmr report) p off = refl

no_sabm : (content : Content) (r p : Bool) → sets (record { content = content; response = r; pf = p }) ≡ false →
    content ≡ Sabm → ⊥
no_sabm content r p off e = let x : true ≡ false = sym (ap (λ c. sets (record { content = c; response = r; pf = p })) e) ∙
    off in cc

-- ---- both ends

pub kept-same : (x y : Link) (up down : List Sent) → Kept x y up down x y up down
kept-same x y up down =
    record { started_dte = λ s. s; started_dce = λ s. s; dte = λ s g. g; dce = λ s g. g }

-- ---- the DTE

pub kept-dte_takes : (x y : Link) (s : Sent) (up rest : List Sent) (step : Step) (t : ℕ) → x.phase ≡ Phase.Up →
    Took x s.frame.content s.frame.response s.frame.pf (read x.expected s.frame.content) step → x.oldest < 8 →
    step.link.oldest < 8 → is_dm s.frame ≡ false →
    Kept x y up (s ∷ rest) step.link y (up ++ stamped t step.frames) rest
kept-dte_takes x y s up rest step t is_up took low low' off =
    let new : List Sent = stamped t step.frames in
    record {
      started_dte = λ _ e. up-not_down (sym took.phase ∙ e);
      started_dce = λ f. f;
      dte = λ _ g. record {
        setting = λ e. absurd (up-not_setting (sym took.phase ∙ e));
        up = λ _. elim (g.up is_up) [
          | inl l ↦ inl (last-more up new (none-stamped sets t step.frames took.plain.no_sabm) l)
          | inr n ↦ inr (
            none-more sets up new n.0 (none-stamped sets t step.frames took.plain.no_sabm),
            λ f. way-x_takes x s step (read x.expected s.frame.content) t y.expected y.owed up rest took low low' (n.1 f),
          )
        ];
      };
      dce = λ _ g. record {
        out = λ f _. elim (g.out f is_up) [
          | inl a ↦ inl (any-rest is_dm s rest off a)
          | inr b ↦ inr (any-more is_poll up new b)
        ];
        up = λ f _ none. elim (g.up f is_up (none-front sets up new none)) [
          | inl a ↦ elim a [
            | inl e ↦ inr (way-y_answers x s step (read x.expected s.frame.content) t y.polling y.oldest y.next rest up
                took e)
            | inr behind ↦ inl behind
          ]
          | inr w ↦ inr (way-y_takes x s step t y.polling y.oldest y.next rest up took w)
        ];
      };
    }

pub goes-set_up : (x y : Link) (up down : List Sent) (t : ℕ) →
    GoesDte (set_up x).link y (up ++ stamped t (set_up x).frames) down
goes-set_up x y up down t = record {
  setting = λ _. inl (any-new (sets_in (not x.bit)) up (stamped t (set_up x).frames) (inl (same-self (not x.bit))));
  up = λ e. absurd (cc);
}

pub kept-dte_sets_up : (x y : Link) (up down down' : List Sent) (t : ℕ) →
    Kept x y up down (set_up x).link y (up ++ stamped t (set_up x).frames) down'
kept-dte_sets_up x y up down down' t = record {
  started_dte = λ _ e. cc;
  started_dce = λ f. f;
  dte = λ _ g. goes-set_up x y up down' t;
  dce = λ _ g. record { out = λ f e. absurd (cc); up = λ f e none. absurd (cc) };
}

pub kept-dte_comes_up : (x y : Link) (s : Sent) (up rest : List Sent) (t : ℕ) →
    (y.phase ≡ Phase.Up → (y.polling ≡ false) × (y.next ≡ 0)) →
    Kept x y up (s ∷ rest) (come_up x).link y (up ++ stamped t (come_up x).frames) rest
kept-dte_comes_up x y s up rest t mute =
    let new : List Sent = stamped t (come_up x).frames in
    record {
      started_dte = λ _ e. cc;
      started_dce = λ f. f;
      dte = λ _ g. record {
        setting = λ e. absurd (cc);
        up = λ _. inl (last-new up (record { frame = command (Rr 0) true; act = t }) refl);
      };
      dce = λ _ g. record {
        out = λ f _. inr (any-new is_poll up new (inl refl));
        up = λ f _ none. inr (record {
          told = inl (tells-more y.oldest up new);
          sure = inr (record { quiet = (mute f).0; comes = inl (mute f).1 });
        });
      };
    }

-- a DTE that sets up ignores what does not accept its act
pub kept-dte_waits : (x y : Link) (s : Sent) (up rest : List Sent) → x.phase ≡ Phase.SettingUp →
    accepts_in x.bit s.frame ≡ false → Kept x y up (s ∷ rest) x y (up ++ []) rest
kept-dte_waits x y s up rest setting off =
    subst (λ (flow : List Sent). Kept x y up (s ∷ rest) x y flow rest) (sym (append-nil up)) (record {
      started_dte = λ f. f;
      started_dce = λ f. f;
      dte = λ _ g. record {
        setting = λ e. elim (g.setting e) [ inl a ↦ inl a | inr b ↦ inr (any-rest (accepts_in x.bit) s rest off b) ];
        up = λ e. absurd (up-not_setting (sym e ∙ setting));
      };
      dce = λ _ g. record {
        out = λ f e. absurd (up-not_setting (sym e ∙ setting));
        up = λ f e none. absurd (up-not_setting (sym e ∙ setting));
      };
    })

pub goes-again : (x y : Link) (up down : List Sent) (t : ℕ) → x.phase ≡ Phase.SettingUp →
    GoesDte x y (up ++ stamped t (command Sabm x.bit ∷ [])) down
goes-again x y up down t setting = record {
  setting = λ _. inl (any-new (sets_in x.bit) up (stamped t (command Sabm x.bit ∷ [])) (inl (same-self x.bit)));
  up = λ e. absurd (up-not_setting (sym e ∙ setting));
}

pub kept-dte_asks_again : (x y : Link) (up down : List Sent) (t : ℕ) → x.phase ≡ Phase.SettingUp →
    Kept x y up down x y (up ++ stamped t (command Sabm x.bit ∷ [])) down
kept-dte_asks_again x y up down t setting = record {
  started_dte = λ f. f;
  started_dce = λ f. f;
  dte = λ _ g. goes-again x y up down t setting;
  dce = λ _ g. record {
    out = λ f e. absurd (up-not_setting (sym e ∙ setting));
    up = λ f e none. absurd (up-not_setting (sym e ∙ setting));
  };
}

pub goes-dte_polls : (x y : Link) (up down : List Sent) (t : ℕ) → x.phase ≡ Phase.Up →
    GoesDte (poll x).link y (up ++ stamped t (poll x).frames) down
goes-dte_polls x y up down t is_up = record {
  setting = λ e. absurd (up-not_setting (sym is_up ∙ e));
  up = λ _. inl (last-new up (record { frame = command (Rr x.expected) true; act = t }) refl);
}

pub kept-dte_polls : (x y : Link) (up down : List Sent) (t : ℕ) → x.phase ≡ Phase.Up →
    Kept x y up down (poll x).link y (up ++ stamped t (poll x).frames) down
kept-dte_polls x y up down t is_up =
    let new : List Sent = stamped t (poll x).frames in
    record {
      started_dte = λ f. f;
      started_dce = λ f. f;
      dte = λ _ g. goes-dte_polls x y up down t is_up;
      dce = λ _ g. record {
        out = λ f _. elim (g.out f is_up) [ inl a ↦ inl a | inr b ↦ inr (any-more is_poll up new b) ];
        up = λ f _ none. elim (g.up f is_up (none-front sets up new none)) [
          | inl a ↦ inl a
          | inr w ↦ inr (way-y_polls x.expected t y.polling y.oldest y.next x.owed down up w)
        ];
      };
    }

-- ---- ends of events

none-numbered : (f : FrameValue → Bool) → ((ns nr : ℕ) (packet : Octets) → f (command (I ns nr packet) false) ≡ false) →
    (ns nr : ℕ) (packets : List Octets) → NoneOf f (numbered ns nr packets)
none-numbered f off ns nr [] = tt
none-numbered f off ns nr (packet ∷ packets) = (off _ nr packet, none-numbered f off (ns + 1) nr packets)

pub none-sent : (f : FrameValue → Bool) → ((ns nr : ℕ) (packet : Octets) → f (command (I ns nr packet) false) ≡ false) →
    ((nr : ℕ) → f (response (Rr nr) false) ≡ false) → (l : Link) (packets : List Octets) →
    NoneOf f (send_all l packets).frames
none-sent f off off' l [] = cond_by (λ b. NoneOf f (if b then response (Rr l.expected) false ∷ [] else [])) l.owed
    (λ _. (off' l.expected, tt)) (λ _. tt)
none-sent f off off' l (packet ∷ packets) = none-numbered f off (l.oldest + l.next) l.expected (packet ∷ packets)

pub sent-phase : (l : Link) (packets : List Octets) → (send_all l packets).link.phase ≡ l.phase
sent-phase l [] = refl
sent-phase l (packet ∷ packets) = refl

-- what is known of V(S), the queue and what the other end will have accepted
pub record Bounds (x : Link) (expected : ℕ) (flow : List Sent) : Type 0 where
  pub next : x.next ≤ length x.queue
  pub few : length x.queue ≤ 7
  pub oldest : x.oldest < 8
  pub small : reads expected flow < 8
  pub between : ahead x.oldest (reads expected flow) ≤ length x.queue

pub kept-dte_ends : (x y : Link) (packets : List Octets) (up down : List Sent) (t : ℕ) → x.phase ≡ Phase.Up →
    packets ≡ [] ⊎ (packets ≡ drop x.next x.queue) →
    (y.phase ≡ Phase.Up → NotAny sets up → Bounds x y.expected up) →
    Kept x y up down (send_all x packets).link y (up ++ stamped t (send_all x packets).frames) down
kept-dte_ends x y packets up down t is_up which bounds =
    let new : List Sent = stamped t (send_all x packets).frames in
    let still_up : (send_all x packets).link.phase ≡ Phase.Up = sent-phase x packets ∙ is_up in
    let none : NotAny sets new = none-stamped sets t (send_all x packets).frames (none-sent sets (λ ns nr packet. refl)
    (λ nr. refl) x packets) in
    record {
      started_dte = λ _ e. up-not_down (sym still_up ∙ e);
      started_dce = λ f. f;
      dte = λ _ g. record {
        setting = λ e. absurd (up-not_setting (sym still_up ∙ e));
        up = λ _. elim (g.up is_up) [
          | inl l ↦ inl (last-more up new none l)
          | inr n ↦ inr (
            none-more sets up new n.0 none,
            λ f. let b = bounds f n.0 in
                way-x_sends x packets t y.expected y.owed up down which b.next b.few b.oldest b.small b.between (n.1 f),
          )
        ];
      };
      dce = λ _ g. record {
        out = λ f _. elim (g.out f is_up) [ inl a ↦ inl a | inr b ↦ inr (any-more is_poll up new b) ];
        up = λ f _ off. elim (g.up f is_up (none-front sets up new off)) [
          | inl a ↦ inl a
          | inr w ↦ inr (way-y_sends x packets t y.polling y.oldest y.next down up w)
        ];
      };
    }

pub kept-dce_ends : (x y : Link) (packets : List Octets) (up down : List Sent) (t : ℕ) → y.phase ≡ Phase.Up →
    packets ≡ [] ⊎ (packets ≡ drop y.next y.queue) → (x.phase ≡ Phase.Up → Bounds y x.expected down) →
    Kept x y up down x (send_all y packets).link up (down ++ stamped t (send_all y packets).frames)
kept-dce_ends x y packets up down t is_up which bounds =
    let new : List Sent = stamped t (send_all y packets).frames in
    let still_up : (send_all y packets).link.phase ≡ Phase.Up = sent-phase y packets ∙ is_up in
    record {
      started_dte = λ f. f;
      started_dce = λ _ e. absurd (up-not_down (sym still_up ∙ e));
      dte = λ _ g. record {
        setting = λ e. elim (g.setting e) [ inl a ↦ inl a | inr b ↦ inr (any-more (accepts_in x.bit) down new b) ];
        up = λ e. elim (g.up e) [
          | inl l ↦ inl l
          | inr n ↦ inr (n.0, λ _. way-y_sends y packets t x.polling x.oldest x.next up down (n.1 is_up))
        ];
      };
      dce = λ _ g. record {
        out = λ e _. absurd (up-not_down (sym still_up ∙ e));
        up = λ _ f none. elim (g.up is_up f none) [
          | inl a ↦ inl (any-more is_poll down new a)
          | inr w ↦ inr (let b = bounds f in
              way-x_sends y packets t x.expected x.owed down up which b.next b.few b.oldest b.small b.between w)
        ];
      };
    }

-- ---- the DCE

pub kept-dce_takes : (x y : Link) (s : Sent) (rest down : List Sent) (step : Step) (t : ℕ) → y.phase ≡ Phase.Up →
    Took y s.frame.content s.frame.response s.frame.pf (read y.expected s.frame.content) step → y.oldest < 8 →
    step.link.oldest < 8 → sets s.frame ≡ false →
    Kept x y (s ∷ rest) down x step.link rest (down ++ stamped t step.frames)
kept-dce_takes x y s rest down step t is_up took low low' off =
    let new : List Sent = stamped t step.frames in
    let v : ℕ = read y.expected s.frame.content in
    record {
      started_dte = λ f. f;
      started_dce = λ _ e. absurd (up-not_down (sym took.phase ∙ e));
      dte = λ _ g. record {
        setting = λ e. elim (g.setting e) [
          | inl a ↦ inl (any-rest (sets_in x.bit) s rest (not-set x.bit s.frame.content s.frame.pf
              (no_sabm s.frame.content s.frame.response s.frame.pf off)) a)
          | inr b ↦ inr (any-more (accepts_in x.bit) down new b)
        ];
        up = λ e. elim (g.up e) [
          | inl l ↦ elim l [
            | inl p ↦ inr (p.1, λ _. way-y_answers y s step v t x.polling x.oldest x.next rest down took p.0)
            | inr behind ↦ inl behind
          ]
          | inr n ↦ inr (n.0.1, λ _. way-y_takes y s step t x.polling x.oldest x.next rest down took (n.1 is_up))
        ];
      };
      dce = λ _ g. record {
        out = λ e _. absurd (up-not_down (sym took.phase ∙ e));
        up = λ _ f none. elim (g.up is_up f (off, none)) [
          | inl a ↦ inl (any-more is_poll down new a)
          | inr w ↦ inr (way-x_takes y s step v t x.expected x.owed down rest took low low' w)
        ];
      };
    }

-- by a SABM
pub kept-dce_enters : (x y y' : Link) (r p : Bool) (u t : ℕ) (rest down : List Sent) →
    (x.phase ≡ Phase.Up → tells 0 rest ≡ x.expected) →
    Kept x y (record { frame = record { content = Sabm; response = r; pf = p }; act = u } ∷ rest) down x
    (cleared y' Phase.Up) rest (down ++ stamped t (response Ua p ∷ []))
kept-dce_enters x y y' r p u t rest down told =
    let new : List Sent = stamped t (response Ua p ∷ []) in
    record {
      started_dte = λ f. f;
      started_dce = λ _ e. absurd (cc);
      dte = λ _ g. record {
        setting = λ e. elim (g.setting e) [
          | inl a ↦ elim a [
            | inl same ↦ inr (any-new (accepts_in x.bit) down new (inl same))
            | inr later ↦ inl later
          ]
          | inr b ↦ inr (any-more (accepts_in x.bit) down new b)
        ];
        up = λ e. elim (g.up e) [
          | inl l ↦ elim l [ inl a ↦ absurd (let z = a.0 in cc) | inr behind ↦ inl behind ]
          | inr n ↦ absurd (let z = n.0.0 in cc)
        ];
      };
      dce = λ _ g. record {
        out = λ e _. absurd (cc);
        up = λ _ e none. inr (record { told = inl (told e); sure = inr (record { quiet = refl; comes = inl refl }) });
      };
    }

pub poll-due : (content : Content) (r p : Bool) → is_poll_of content r p ≡ true → p && not r ≡ true
poll-due (Rr nr) r p e = e
poll-due (I ns nr packet) r p e = absurd (cc)
poll-due (Rnr nr) r p e = absurd (cc)
poll-due (Rej nr) r p e = absurd (cc)
poll-due Sabm r p e = absurd (cc)
poll-due Disc r p e = absurd (cc)
poll-due Dm r p e = absurd (cc)
poll-due Ua r p e = absurd (cc)
poll-due (Frmr report) r p e = absurd (cc)

-- a DCE that is down answers a command with P = 1 by DM
pub kept-dce_declines : (x y : Link) (s : Sent) (due : Bool) (rest down : List Sent) (t : ℕ) → y.phase ≡ Phase.Down →
    sets s.frame ≡ false → (is_poll s.frame ≡ true → due ≡ true) →
    Kept x y (s ∷ rest) down x (if due then sends y (response Dm true) else still y).link rest
    (down ++ stamped t (if due then sends y (response Dm true) else still y).frames)
kept-dce_declines x y s due rest down t is_down off answers = by due answers
  where
    not_poll : (is_poll s.frame ≡ true → false ≡ true) → is_poll s.frame ≡ false
    not_poll f = cond_by (λ b. (b ≡ true → false ≡ true) → b ≡ false) (is_poll s.frame) (λ _ g. absurd (let z = g refl in
        cc)) (λ _ g. refl) f

    of_dte : (new : List Sent) → GoesDte x y (s ∷ rest) down → GoesDte x y rest (down ++ new)
    of_dte new g = record {
      setting = λ e. elim (g.setting e) [
        | inl a ↦ inl (any-rest (sets_in x.bit) s rest (not-set x.bit s.frame.content s.frame.pf
            (no_sabm s.frame.content s.frame.response s.frame.pf off)) a)
        | inr b ↦ inr (any-more (accepts_in x.bit) down new b)
      ];
      up = λ e. elim (g.up e) [
        | inl l ↦ elim l [
          | inl p ↦ inr (p.1, λ f. absurd (up-not_down (sym f ∙ is_down)))
          | inr behind ↦ inl behind
        ]
        | inr n ↦ inr (n.0.1, λ f. absurd (up-not_down (sym f ∙ is_down)))
      ];
    }

    by : (b : Bool) → (is_poll s.frame ≡ true → b ≡ true) →
        Kept x y (s ∷ rest) down x (if b then sends y (response Dm true) else still y).link rest
        (down ++ stamped t (if b then sends y (response Dm true) else still y).frames)
    by true f = record {
      started_dte = λ h. h;
      started_dce = λ h. h;
      dte = λ _ g. of_dte (stamped t (response Dm true ∷ [])) g;
      dce = λ _ g. record {
        out = λ h e. inl (any-new is_dm down (stamped t (response Dm true ∷ [])) (inl refl));
        up = λ h e none. absurd (up-not_down (sym h ∙ is_down));
      };
    }
    by false f = record {
      started_dte = λ h. h;
      started_dce = λ h. h;
      dte = λ _ g. of_dte [] g;
      dce = λ _ g. record {
        out = λ h e. elim (g.out h e) [
          | inl a ↦ inl (any-more is_dm down [] a)
          | inr b ↦ inr (any-rest is_poll s rest (not_poll f) b)
        ];
        up = λ h e none. absurd (up-not_down (sym h ∙ is_down));
      };
    }

pub goes-dce_asks : (x y : Link) (up down : List Sent) (t : ℕ) → y.phase ≡ Phase.Down →
    GoesDce x y up (down ++ stamped t (response Dm false ∷ []))
goes-dce_asks x y up down t is_down = record {
  out = λ h e. inl (any-new is_dm down (stamped t (response Dm false ∷ [])) (inl refl));
  up = λ h e none. absurd (up-not_down (sym h ∙ is_down));
}

-- a DCE that is down, or comes to be, sends a DM
pub kept-dce_asks : (x y y' : Link) (up down : List Sent) (t : ℕ) → y'.phase ≡ Phase.Down → (StartedDce y →
    y'.repeats ≡ true) → Kept x y up down x y' up (down ++ stamped t (response Dm false ∷ []))
kept-dce_asks x y y' up down t is_down repeats = record {
  started_dte = λ h. h;
  started_dce = λ h _. repeats h;
  dte = λ _ g. record {
    setting = λ e. elim (g.setting e) [
      | inl a ↦ inl a
      | inr b ↦ inr (any-more (accepts_in x.bit) down (stamped t (response Dm false ∷ [])) b)
    ];
    up = λ e. elim (g.up e) [ inl l ↦ inl l | inr n ↦ inr (n.0, λ f. absurd (up-not_down (sym f ∙ is_down))) ];
  };
  dce = λ _ g. goes-dce_asks x y' up down t is_down;
}

pub goes-dce_polls : (x y : Link) (up down : List Sent) (t : ℕ) → y.phase ≡ Phase.Up →
    GoesDce x (poll y).link up (down ++ stamped t (poll y).frames)
goes-dce_polls x y up down t is_up = record {
  out = λ e _. absurd (up-not_down (sym is_up ∙ e));
  up = λ _ e none. inl (any-new is_poll down (stamped t (poll y).frames) (inl refl));
}

pub kept-dce_polls : (x y : Link) (up down : List Sent) (t : ℕ) → y.phase ≡ Phase.Up →
    Kept x y up down x (poll y).link up (down ++ stamped t (poll y).frames)
kept-dce_polls x y up down t is_up =
    let new : List Sent = stamped t (poll y).frames in
    record {
      started_dte = λ h. h;
      started_dce = λ h. h;
      dte = λ _ g. record {
        setting = λ e. elim (g.setting e) [ inl a ↦ inl a | inr b ↦ inr (any-more (accepts_in x.bit) down new b) ];
        up = λ e. elim (g.up e) [
          | inl l ↦ inl l
          | inr n ↦ inr (n.0, λ f. way-y_polls y.expected t x.polling x.oldest x.next y.owed up down (n.1 f))
        ];
      };
      dce = λ _ g. goes-dce_polls x y up down t is_up;
    }
