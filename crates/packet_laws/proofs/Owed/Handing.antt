-- What is handed to the link was owed, or is traffic where nothing is owed.
use Rattle.std.proofs.Common.{◌≡◌, ℕ, ◌≤◌, Bool, true, false, cond, ◌||◌, ◌==◌, List, [], ◌∷◌, ◌++◌, length, Option, Some, None, refl, sym, ap, subst, ◌∙◌, arith, true≢false, inl, inr}
use Rattle.std.proofs.lemmas.Bool.{ne_eqb, cases_eq}
use Rattle.link_timers.specs.declared.role.Role.{Role}
use Rattle.data_transfer.specs.declared.flow.Flow.{Flow}
use Rattle.data_transfer.specs.Packets.{Body, Packet}
use Rattle.data_transfer.specs.Traffic.{says}
use Rattle.packet_channel.specs.Channel.{ChannelState, Channel, has_flow, moved}
use Rattle.packet_channel.specs.Channel.ChannelState.{Ready, OwnWaiting, FarWaiting, Transfer, Collision, OwnClear}
use Rattle.packet_layer.specs.Layer.{Layer, Next, ChannelNext, channel_of, with_nth, next_packet, next_of, next_owed, packet_of}
use Rattle.packet_laws.proofs.Handshakes.Handshake.{Kind}
use Rattle.packet_laws.proofs.Handshakes.Handshake.Kind.{Payload, Request, Confirmation}
use Rattle.packet_laws.proofs.Call.Levels.{reset_kind}
use Rattle.packet_laws.proofs.Line.Lines.{belongs, on_c, nth_same, nth_other}
use Rattle.packet_laws.proofs.Line.Outcomes.{some_same}
use Rattle.packet_laws.proofs.Line.Offering.{Found, next_every, not_restart_channel, one_packet}
use Rattle.packet_laws.proofs.Handshakes.Counting.{counted}
use Rattle.packet_laws.proofs.Owed.MayCome.{is_accepted, has_accepted, AllCome, AfterAccepted, Placing, Fits, ended_tail}
use Rattle.packet_laws.proofs.Owed.Draining.{FitsIn}
use Rattle.packet_laws.proofs.Owed.Loosening.{NoMore, Looser, all_looser}
use Rattle.packet_laws.proofs.Owed.Growing.{is_r1, FitsAt, ComesTo, Grown, same_grown}

-- ---- the first packet owed goes

second : (u v : Bool) → (u || v) ≡ false → v ≡ false
second true v p = absurd (true≢false p)
second false v p = p

no_cons : (b : Body) (o : List Body) → b ∷ o ≡ [] → ⊥
no_cons b o e = let l = ap (λ (q : List Body). length q) e in let n : ⊥ = omega arith in n

counted_small : (k : Kind) → counted k ≤ 1
counted_small Payload = omega arith
counted_small Request = omega arith
counted_small Confirmation = omega arith

abbrev tail_of : List Body → List Body
tail_of [] = []
tail_of (b ∷ o) = o

no_more_tail : (b : Body) (o : List Body) → NoMore (b ∷ o) o
no_more_tail b o = (λ e. second (is_accepted b) (has_accepted o) e, omega arith)

after_fits : (rs : Bool) (t : List Body) → AfterAccepted rs t → Fits Transfer rs t
after_fits rs t h = let a = h.short in let b = h.counted in inl (record { no_acceptance = h.no_other; short = omega arith; few = omega arith })

placing_tail : (b : Body) (o : List Body) → Placing (b ∷ o) → Placing o
placing_tail b o f = let a = f.no_resets in let l = f.short in record { no_acceptance = second (is_accepted b) (has_accepted o) f.no_acceptance; no_resets = omega arith; short = omega arith }

fits_tail : (s : ChannelState) (rs : Bool) (b : Body) (o : List Body) → Fits s rs (b ∷ o) → Fits s rs o
fits_tail Ready false b o f = let l = f.0 in (omega arith, ended_tail b o f.1)
fits_tail OwnClear false b o f = let l = f.0 in (omega arith, ended_tail b o f.1)
fits_tail OwnWaiting false b o f = placing_tail b o f
fits_tail Collision false b o f = placing_tail b o f
fits_tail FarWaiting false b o f = absurd (no_cons b o f)
fits_tail Transfer rs b o (inl h) =
    let a = h.short in
    let q = h.few in
    let k = counted_small (reset_kind b) in
    inl (record { no_acceptance = second (is_accepted b) (has_accepted o) h.no_acceptance; short = omega arith; few = omega arith })
fits_tail Transfer rs b o (inr (t, (h, inl e))) = subst (λ (q : List Body). Fits Transfer rs q) (sym (ap (λ (q : List Body). tail_of q) e)) (after_fits rs t h)
fits_tail Transfer rs b o (inr (t, (h, inr e))) = inr (t, (h, inl (ap (λ (q : List Body). tail_of q) e.1)))
fits_tail Ready true b o f = absurd f
fits_tail OwnClear true b o f = absurd f
fits_tail OwnWaiting true b o f = absurd f
fits_tail Collision true b o f = absurd f
fits_tail FarWaiting true b o f = absurd f

looser_tail : (r : Role) (s : ChannelState) (rs : Bool) (b : Body) (o : List Body) → Looser r s rs (b ∷ o) s rs o
looser_tail r Ready rs b o = λ e. absurd (no_cons b o e)
looser_tail r OwnClear rs b o = λ e. absurd (no_cons b o e)
looser_tail r OwnWaiting rs b o = (refl, no_more_tail b o)
looser_tail r Collision rs b o = (refl, no_more_tail b o)
looser_tail r FarWaiting rs b o = tt
looser_tail r Transfer true b o = no_more_tail b o
looser_tail r Transfer false b o = no_more_tail b o

fits_in_tail : (ready : Bool) (s : ChannelState) (rs : Bool) (b : Body) (o : List Body) → FitsIn ready s rs (b ∷ o) → FitsIn ready s rs o
fits_in_tail true s rs b o f = fits_tail s rs b o f
fits_in_tail false s rs b o f = absurd (no_cons b o f.2)

all_tail : (r : Role) (ready : Bool) (s : ChannelState) (rs : Bool) (b : Body) (o ts : List Body) → FitsIn ready s rs (b ∷ o) → AllCome r ready s rs (b ∷ o) ts → AllCome r ready s rs o ts
all_tail r true s rs b o ts f h = all_looser r s rs (b ∷ o) s rs o ts (looser_tail r s rs b o) h
all_tail r false s rs b o ts f h = absurd (no_cons b o f.2)

-- ---- the next packet

abbrev pub given : Option Packet → List Packet
given None = []
given (Some p) = p ∷ []

pub record Handed (role : Role) (l : Layer) (c : ℕ) (ch : Channel) (n : Next) : Type 0 where
  pub quiet : n.layer.relink ≡ l.relink
  pub phase : n.layer.phase ≡ l.phase
  pub next : Channel
  pub found : channel_of n.layer c ≡ Some next
  pub fits : FitsAt l.phase next
  pub comes : (ts : List Body) → ComesTo role l.phase ch ts → ComesTo role l.phase next ts
  pub grown : Grown (l.owed ++ ch.owed) (on_c c (given n.packet) ++ (n.layer.owed ++ next.owed))

handed_none : (role : Role) (l : Layer) (c : ℕ) (ch : Channel) → channel_of l c ≡ Some ch → FitsAt l.phase ch → Handed role l c ch (record { layer = l; packet = None })
handed_none role l c ch found f = record { quiet = refl; phase = refl; next = ch; found = found; fits = f; comes = λ ts h. h; grown = same_grown (l.owed ++ ch.owed) }

handed_restart : (role : Role) (l : Layer) (c : ℕ) (ch : Channel) → channel_of l c ≡ Some ch → FitsAt l.phase ch → (q : Body) (qs : List Body) → l.owed ≡ q ∷ qs → Handed role l c ch (record { layer = record l { owed = qs }; packet = packet_of 0 (Some q) })
handed_restart role l c ch found f q qs e = record {
  quiet = refl;
  phase = refl;
  next = ch;
  found = found;
  fits = f;
  comes = λ ts h. h;
  grown = subst (λ (o : List Body). Grown (o ++ ch.owed) ((q ∷ []) ++ (qs ++ ch.owed))) (sym e) (same_grown ((q ∷ qs) ++ ch.owed));
}

handed_other : (role : Role) (l : Layer) (c : ℕ) (ch : Channel) → channel_of l c ≡ Some ch → FitsAt l.phase ch → (d : ℕ) (q : Body) (ch' : Channel) → (c ≡ d → ⊥) → (d == 0) ≡ false → Handed role l c ch (record { layer = record l { channels = with_nth l.channels d ch'; served_last = d }; packet = Some (record { channel = d; body = q }) })
handed_other role l c ch found f d q ch' ne nz =
    let none : belongs c (record { channel = d; body = q }) ≡ false = ap (λ (v : Bool). v || (d == c)) nz ∙ ne_eqb d c (λ e. ne (sym e)) in
    record {
      quiet = refl;
      phase = refl;
      next = ch;
      found = nth_other l.channels c d ch' ne ∙ found;
      fits = f;
      comes = λ ts h. h;
      grown = subst (λ (v : Bool). Grown (l.owed ++ ch.owed) (cond v (q ∷ []) [] ++ (l.owed ++ ch.owed))) (sym none) (same_grown (l.owed ++ ch.owed));
    }

-- of this channel: a packet owed, or traffic
handed_owed : (role : Role) (l : Layer) (c : ℕ) (ch : Channel) → channel_of l c ≡ Some ch → (b : Body) (bs : List Body) → ch.owed ≡ b ∷ bs → FitsAt l.phase ch → l.owed ≡ []
    → Handed role l c ch (record { layer = record l { channels = with_nth l.channels c (record ch { owed = bs }); served_last = c }; packet = Some (record { channel = c; body = b }) })
handed_owed role l c ch found b bs is f e = record {
  quiet = refl;
  phase = refl;
  next = record ch { owed = bs };
  found = nth_same l.channels c ch (record ch { owed = bs }) found;
  fits = fits_in_tail (is_r1 l.phase) ch.state ch.resetting b bs (subst (λ (o : List Body). FitsIn (is_r1 l.phase) ch.state ch.resetting o) is f);
  comes = λ ts h. all_tail role (is_r1 l.phase) ch.state ch.resetting b bs ts (subst (λ (o : List Body). FitsIn (is_r1 l.phase) ch.state ch.resetting o) is f) (subst (λ (o : List Body). AllCome role (is_r1 l.phase) ch.state ch.resetting o ts) is h);
  grown = subst (λ (o : List Body). Grown (o ++ ch.owed) (on_c c (record { channel = c; body = b } ∷ []) ++ (o ++ bs))) (sym e)
      (subst (λ (o : List Body). Grown o (on_c c (record { channel = c; body = b } ∷ []) ++ bs)) (sym is)
      (subst (λ (o : List Body). Grown (b ∷ bs) (o ++ bs)) (sym (one_packet c b)) (same_grown (b ∷ bs))));
}

pushed_grown : (q : Body) → Grown [] ((q ∷ []) ++ [])
pushed_grown q = record { keep = []; cut = []; pushed = Some q; before = refl; after = refl }

handed_traffic : (role : Role) (l : Layer) (c : ℕ) (ch ch' : Channel) (q : Body) → channel_of l c ≡ Some ch → ch.owed ≡ [] → ch'.owed ≡ [] → ch'.state ≡ ch.state → ch'.resetting ≡ ch.resetting → FitsAt l.phase ch → l.owed ≡ []
    → Handed role l c ch (record { layer = record l { channels = with_nth l.channels c ch'; served_last = c }; packet = Some (record { channel = c; body = q }) })
handed_traffic role l c ch ch' q found is is' e_s e_r f e = record {
  quiet = refl;
  phase = refl;
  next = ch';
  found = nth_same l.channels c ch ch' found;
  fits = turn (λ s rs o. FitsIn (is_r1 l.phase) s rs o) f;
  comes = λ ts h. turn (λ s rs o. AllCome role (is_r1 l.phase) s rs o ts) h;
  grown = subst (λ (o : List Body). Grown (o ++ ch.owed) (on_c c (record { channel = c; body = q } ∷ []) ++ (o ++ ch'.owed))) (sym e)
      (subst (λ (o : List Body). Grown o (on_c c (record { channel = c; body = q } ∷ []) ++ ch'.owed)) (sym is)
      (subst (λ (o : List Body). Grown [] (on_c c (record { channel = c; body = q } ∷ []) ++ o)) (sym is')
      (subst (λ (o : List Body). Grown [] (o ++ [])) (sym (one_packet c q)) (pushed_grown q))));
}
  where
    turn : (P : ChannelState → Bool → List Body → Type 0) → P ch.state ch.resetting ch.owed → P ch'.state ch'.resetting ch'.owed
    turn P h = subst (λ (s : ChannelState). P s ch'.resetting ch'.owed) (sym e_s) (subst (λ (v : Bool). P ch.state v ch'.owed) (sym e_r) (subst (λ (o : List Body). P ch.state ch.resetting o) (is ∙ sym is') h))

-- the channel's next packet
abbrev here_next : Layer → ℕ → ChannelNext → Next
here_next l c n = record { layer = record l { channels = with_nth l.channels c n.channel; served_last = c }; packet = packet_of c n.body }

flow_next : (flow : Flow) (ch : Channel) (v : Bool) (q : Body) → let n : ChannelNext = cond v (record { channel = moved (says flow ch.traffic).traffic ch; body = (says flow ch.traffic).body }) (record { channel = ch; body = None }) in
    n.body ≡ Some q → (n.channel.owed ≡ ch.owed) × ((n.channel.state ≡ ch.state) × (n.channel.resetting ≡ ch.resetting))
flow_next flow ch true q e = (refl, (refl, refl))
flow_next flow ch false q e = (refl, (refl, refl))

handed_next : (role : Role) (l : Layer) (c : ℕ) (ch : Channel) (o : List Body) (q : Body) → channel_of l c ≡ Some ch → ch.owed ≡ o → FitsAt l.phase ch → l.owed ≡ [] → (next_owed l.flow o ch).body ≡ Some q → Handed role l c ch (here_next l c (next_owed l.flow o ch))
handed_next role l c ch (b ∷ bs) q found is f e body = handed_owed role l c ch found b bs is f e
handed_next role l c ch [] q found is f e body =
    let n : ChannelNext = next_owed l.flow [] ch in
    let s = flow_next l.flow ch (has_flow ch) q body in
    subst (λ (z : Option Body). Handed role l c ch (record { layer = record l { channels = with_nth l.channels c n.channel; served_last = c }; packet = packet_of c z })) (sym body)
    (handed_traffic role l c ch n.channel q found is (s.0 ∙ is) s.1.0 s.1.1 f e)

handed_found : (role : Role) (l : Layer) (c : ℕ) (ch : Channel) → channel_of l c ≡ Some ch → FitsAt l.phase ch → l.owed ≡ [] → Found (λ n. Handed role l c ch n) l
handed_found role l c ch found f e d there q is body =
    elim (cases_eq c d) [
      | inl k ↦
          let found' : channel_of l d ≡ Some ch = subst (λ (j : ℕ). channel_of l j ≡ Some ch) k found in
          let same : there ≡ ch = some_same there ch (sym is ∙ found') in
          subst (λ (z : Channel). Handed role l c ch (here_next l d (next_of l.flow z))) (sym same)
          (subst (λ (j : ℕ). Handed role l c ch (here_next l j (next_of l.flow ch))) k
          (handed_next role l c ch ch.owed q found refl f e (subst (λ (z : Channel). (next_of l.flow z).body ≡ Some q) same body)))
      | inr ne ↦
          subst (λ (z : Option Body). Handed role l c ch (record { layer = record l { channels = with_nth l.channels d (next_of l.flow there).channel; served_last = d }; packet = packet_of d z })) (sym body)
          (handed_other role l c ch found f d q (next_of l.flow there).channel ne (not_restart_channel l d there is))
    ]

pub handed : (role : Role) (l : Layer) (c : ℕ) (ch : Channel) → channel_of l c ≡ Some ch → FitsAt l.phase ch → Handed role l c ch (next_packet l)
handed role l c ch found f =
    next_every (λ n. Handed role l c ch n) l (handed_none role l c ch found f) (λ q qs rl e. handed_restart role l c ch found f q qs e) (λ rl e. handed_found role l c ch found f e)
