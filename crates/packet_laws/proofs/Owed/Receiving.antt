-- What an arriving packet makes of what a layer owes, and of what may come to it next.
use Rattle.std.proofs.Common.{◌≡◌, ℕ, ◌≤◌, Bool, true, false, cond, ◌||◌, ◌==◌, List, [], ◌∷◌, ◌++◌, length, Option, Some, None, refl, sym, ap, subst, ◌∙◌, arith, true≢false}
use Rattle.std.proofs.lemmas.Bool.{eqb-true, eqb-false}
use Rattle.link_timers.specs.declared.role.Role.{Role}
use Rattle.link_timers.specs.declared.role.Role.TheVariants.{Dte, Dce}
use Rattle.data_transfer.specs.declared.flow.Flow.{Flow}
use Rattle.data_transfer.specs.Packets.{Body, Packet, Received, Reason}
use Rattle.data_transfer.specs.Packets.Body.{Call, Accepted, Clear, ClearConfirmation, Data, Interrupt, InterruptConfirmation, ReceiveReady, ReceiveNotReady, Reset, ResetConfirmation, Restart, RestartConfirmation}
use Rattle.data_transfer.specs.Traffic.{Traffic, Heard, hears}
use Rattle.data_transfer.specs.Traffic.Heard.{Keeps, Confirms, Wrong}
use Rattle.packet_channel.specs.Channel.{ChannelState, Channel, Step, received, after_heard, closed_channel}
use Rattle.packet_channel.specs.Channel.ChannelState.{Ready, OwnWaiting, FarWaiting, Transfer, Collision, OwnClear}
use Rattle.packet_layer.specs.Layer.{Phase, Layer, channel_of, on_found, on_channel, restart_packet, on_packet, unread, set_if, owes_restart, all_closed}
use Rattle.packet_layer.specs.Layer.Phase.{NoSession, OwnRestart, PacketReady}
use Rattle.packet_laws.specs.LayerLineLaw.{is_request, is_fault_on, is_channel_fault, is_restart_fault}
use Rattle.packet_laws.proofs.Handshakes.Handshake.{Kind, said}
use Rattle.packet_laws.proofs.Handshakes.Handshake.Kind.{Payload, Request, Confirmation}
use Rattle.packet_laws.proofs.Call.Levels.{restart_kind}
use Rattle.packet_laws.proofs.Line.Stored.{phase_of}
use Rattle.packet_laws.proofs.Line.Lines.{IsRestart, WellOf, nth_map}
use Rattle.packet_laws.proofs.Owed.MayCome.{Comes, Hears, AllCome, Fits}
use Rattle.packet_laws.proofs.Owed.Fitting.{channel_with, After, fits_comes, received_comes}
use Rattle.packet_laws.proofs.Owed.Draining.{FitsIn}
use Rattle.packet_laws.proofs.Owed.Growing.{FitsAt, ComesTo, Turned, ActsAt, same_turned, same_grown, other_turned, act_turned, acts_limit, closed_grown, not_full}

-- ---- a packet of the channel

heard_owed : (role : Role) (c : ℕ) (o : List Body) (tr : Traffic) (h : Heard) → (after_heard role c (channel_with Transfer false o tr) h).channel.owed ≡ o
heard_owed role c o tr (Keeps n t) = refl
heard_owed role c o tr (Confirms t) = refl
heard_owed role c o tr (Wrong d) = refl

received_owed : (role : Role) (flow : Flow) (c : ℕ) (s : ChannelState) (rs : Bool) (o : List Body) (tr : Traffic) (b : Body) → (received role flow c (channel_with s rs o tr) b).channel.owed ≡ o
received_owed role flow c Ready rs o tr (Call p) = refl
received_owed role flow c Ready rs o tr (Clear x y) = refl
received_owed role flow c Ready rs o tr _ = refl
received_owed role flow c OwnWaiting rs o tr (Call p) = refl
received_owed role flow c OwnWaiting rs o tr Accepted = refl
received_owed role flow c OwnWaiting rs o tr (Clear x y) = refl
received_owed role flow c OwnWaiting rs o tr _ = refl
received_owed role flow c FarWaiting rs o tr (Clear x y) = refl
received_owed role flow c FarWaiting rs o tr _ = refl
received_owed Dte flow c Collision rs o tr Accepted = refl
received_owed Dce flow c Collision rs o tr Accepted = refl
received_owed role flow c Collision rs o tr (Clear x y) = refl
received_owed role flow c Collision rs o tr _ = refl
received_owed role flow c OwnClear rs o tr (Clear x y) = refl
received_owed role flow c OwnClear rs o tr ClearConfirmation = refl
received_owed role flow c OwnClear rs o tr _ = refl
received_owed role flow c Transfer true o tr (Clear x y) = refl
received_owed role flow c Transfer true o tr (Reset x y) = refl
received_owed role flow c Transfer true o tr ResetConfirmation = refl
received_owed role flow c Transfer true o tr _ = refl
received_owed role flow c Transfer false o tr (Clear x y) = refl
received_owed role flow c Transfer false o tr (Reset x y) = refl
received_owed role flow c Transfer false o tr ResetConfirmation = refl
received_owed role flow c Transfer false o tr (Data s n d) = heard_owed role c o tr (hears flow tr (Data s n d))
received_owed role flow c Transfer false o tr (Interrupt q) = heard_owed role c o tr (hears flow tr (Interrupt q))
received_owed role flow c Transfer false o tr InterruptConfirmation = heard_owed role c o tr (hears flow tr InterruptConfirmation)
received_owed role flow c Transfer false o tr (ReceiveReady n) = heard_owed role c o tr (hears flow tr (ReceiveReady n))
received_owed role flow c Transfer false o tr (ReceiveNotReady n) = heard_owed role c o tr (hears flow tr (ReceiveNotReady n))
received_owed role flow c Transfer false o tr _ = refl

arrival_acts : (role : Role) (flow : Flow) (c : ℕ) (ch : Channel) (b : Body) (ts : List Body) → restart_kind b ≡ Payload → Fits ch.state ch.resetting ch.owed → is_request (received role flow c ch b).owes ≡ false
    → AllCome role true ch.state ch.resetting ch.owed (b ∷ ts) → ActsAt role PacketReady ch (received role flow c ch b) (b ∷ ts) ts
arrival_acts role flow c ch b ts plain f fault h =
    let st : Step = received role flow c ch b in
    let is : st.channel.owed ≡ ch.owed = received_owed role flow c ch.state ch.resetting ch.owed ch.traffic b in
    let comes : Comes role ch.state ch.resetting ch.owed b (λ s rs o. AllCome role true s rs o ts) =
    subst (λ (k : Kind). Hears role k true ch.state ch.resetting ch.owed b (λ q s rs o. AllCome role q s rs o ts)) plain h in
    let after : After st (λ s rs o. Fits s rs o × AllCome role true s rs o ts) =
    received_comes role flow c ch.state ch.resetting ch.owed ch.traffic b (λ s rs o. Fits s rs o × AllCome role true s rs o ts) fault
    (fits_comes role ch.state ch.resetting ch.owed b (λ s rs o. AllCome role true s rs o ts) f comes) in
    let here = subst (λ (o : List Body). Fits st.channel.state st.channel.resetting (said st.owes o) × AllCome role true st.channel.state st.channel.resetting (said st.owes o) ts) is after in
    record { owed_is = is; fits = here.0; comes = λ h'. here.1 }

-- ---- a restart packet

closed_fits : (s : ChannelState) (rs : Bool) (o : List Body) → FitsIn false s rs o → Fits s rs o
closed_fits s rs o f =
    subst (λ (q : ChannelState). Fits q rs o) (sym f.0) (subst (λ (q : Bool). Fits Ready q o) (sym f.1) (subst (λ (q : List Body). Fits Ready false q) (sym f.2) (omega arith, tt)))

closed_comes : (role : Role) (s : ChannelState) (rs : Bool) (o ts : List Body) → FitsIn false s rs o → AllCome role true Ready false [] ts → AllCome role true s rs o ts
closed_comes role s rs o ts f h =
    subst (λ (q : ChannelState). AllCome role true q rs o ts) (sym f.0) (subst (λ (q : Bool). AllCome role true Ready q o ts) (sym f.1) (subst (λ (q : List Body). AllCome role true Ready false q ts) (sym f.2) h))

restart_hears : (role : Role) (s : ChannelState) (rs : Bool) (o ts : List Body) (t : Body) → IsRestart t → AllCome role false s rs o (t ∷ ts) → AllCome role true Ready false [] ts
restart_hears role s rs o ts (Restart a d) r h = h
restart_hears role s rs o ts RestartConfirmation r h = h
restart_hears role s rs o ts _ r h = absurd r

confirmed_turned : (role : Role) (l : Layer) (t : Body) (c : ℕ) (ch : Channel) (ts : List Body) → IsRestart t → l.phase ≡ OwnRestart → FitsAt l.phase ch → channel_of l c ≡ Some ch → Turned role l (record l { phase = PacketReady; served_last = 0 }) c ch (t ∷ ts) ts
confirmed_turned role l t c ch ts r e f found =
    let closed = subst (λ (p : Phase). FitsAt p ch) e f in
    record {
      next = ch;
      found = found;
      fits = closed_fits ch.state ch.resetting ch.owed closed;
      comes = λ h. closed_comes role ch.state ch.resetting ch.owed ts closed (restart_hears role ch.state ch.resetting ch.owed ts t r (subst (λ (p : Phase). ComesTo role p ch (t ∷ ts)) e h));
      grown = same_grown (l.owed ++ ch.owed);
    }

learnt_turned : (role : Role) (l : Layer) (a d : ℕ) (c : ℕ) (ch : Channel) (ts : List Body) → l.phase ≡ PacketReady → length l.owed ≤ 2 → channel_of l c ≡ Some ch
    → Turned role l (owes_restart (Some RestartConfirmation) (record (all_closed Reason.FarRestart l) { served_last = 0 })) c ch (Restart a d ∷ ts) ts
learnt_turned role l a d c ch ts e few found = record {
  next = closed_channel;
  found = nth_map l.channels c ch closed_channel found;
  fits = subst (λ (p : Phase). FitsAt p closed_channel) (sym e) (omega arith, tt);
  comes = λ h. subst (λ (p : Phase). ComesTo role p closed_channel ts) (sym e) (subst (λ (p : Phase). ComesTo role p ch (Restart a d ∷ ts)) e h);
  grown = closed_grown l.owed ch.owed RestartConfirmation few;
}

restart_turned : (role : Role) (l : Layer) (own : Bool) (t : Body) (c : ℕ) (ch : Channel) (ts : List Body) → IsRestart t → l.phase ≡ phase_of own → is_restart_fault (phase_of own) t ≡ false → FitsAt l.phase ch → length l.owed ≤ 2 → channel_of l c ≡ Some ch
    → Turned role l (restart_packet (phase_of own) t l) c ch (t ∷ ts) ts
restart_turned role l true (Restart a d) c ch ts r e fault f few found = confirmed_turned role l (Restart a d) c ch ts r e f found
restart_turned role l true RestartConfirmation c ch ts r e fault f few found = confirmed_turned role l RestartConfirmation c ch ts r e f found
restart_turned role l false (Restart a d) c ch ts r e fault f few found = learnt_turned role l a d c ch ts e few found
restart_turned role l false RestartConfirmation c ch ts r e fault f few found = absurd (true≢false fault)
restart_turned role l own _ c ch ts r e fault f few found = absurd r

restart_quiet : (l : Layer) (own : Bool) (t : Body) → IsRestart t → is_restart_fault (phase_of own) t ≡ false → l.relink ≡ false → length l.owed ≤ 2 → (restart_packet (phase_of own) t l).relink ≡ false
restart_quiet l true (Restart a d) r fault rl few = rl
restart_quiet l true RestartConfirmation r fault rl few = rl
restart_quiet l false (Restart a d) r fault rl few = ap (λ (v : Bool). set_if v l.relink) (not_full l.owed (omega arith)) ∙ rl
restart_quiet l false RestartConfirmation r fault rl few = absurd (true≢false fault)
restart_quiet l own _ r fault rl few = absurd r

-- ---- any packet

abbrev heard_step : Role → Layer → Packet → Channel → Step
heard_step role l p ch = received role l.flow p.channel ch p.body

ignored_comes : (role : Role) (k : Kind) (s : ChannelState) (rs : Bool) (o ts : List Body) (b : Body) → k ≡ Payload → Hears role k false s rs o b (λ q a v c. AllCome role q a v c ts) → AllCome role false s rs o ts
ignored_comes role Payload s rs o ts b e h = h
ignored_comes role Request s rs o ts b e h = absurd cc
ignored_comes role Confirmation s rs o ts b e h = absurd cc

here_acts : (role : Role) (l : Layer) (p : Packet) (ch : Channel) (ts : List Body) → restart_kind p.body ≡ Payload → l.phase ≡ PacketReady → is_channel_fault PacketReady (record l { role = role }) p ≡ false → FitsAt l.phase ch → channel_of l p.channel ≡ Some ch
    → ComesTo role l.phase ch (p.body ∷ ts) → ActsAt role l.phase ch (heard_step role l p ch) (p.body ∷ ts) ts
here_acts role l p ch ts plain e fault f found h =
    subst (λ (ph : Phase). ActsAt role ph ch (heard_step role l p ch) (p.body ∷ ts) ts) (sym e)
    (arrival_acts role l.flow p.channel ch p.body ts plain (subst (λ (ph : Phase). FitsAt ph ch) e f)
    (subst (λ (o : Option Channel). is_fault_on (record l { role = role }) p o ≡ false) found fault)
    (subst (λ (ph : Phase). ComesTo role ph ch (p.body ∷ ts)) e h))

-- a packet of this channel
here_turned : (role : Role) (l : Layer) (own : Bool) (p : Packet) (ch : Channel) (ts : List Body) → restart_kind p.body ≡ Payload → l.phase ≡ phase_of own → is_channel_fault (phase_of own) (record l { role = role }) p ≡ false → FitsAt l.phase ch → channel_of l p.channel ≡ Some ch
    → ComesTo role l.phase ch (p.body ∷ ts) → Turned role l (on_channel (phase_of own) l p.channel (λ q. heard_step role l p q)) p.channel ch (p.body ∷ ts) ts
here_turned role l true p ch ts plain e fault f found h = record {
  next = ch;
  found = found;
  fits = f;
  comes = λ h'. subst (λ (ph : Phase). ComesTo role ph ch ts) (sym e)
      (ignored_comes role (restart_kind p.body) ch.state ch.resetting ch.owed ts p.body plain (subst (λ (ph : Phase). ComesTo role ph ch (p.body ∷ ts)) e h'));
  grown = same_grown (l.owed ++ ch.owed);
}
here_turned role l false p ch ts plain e fault f found h =
    subst (λ (o : Option Channel). Turned role l (on_found l p.channel (λ q. heard_step role l p q) o) p.channel ch (p.body ∷ ts) ts) (sym found)
    (act_turned role l p.channel ch (heard_step role l p ch) (p.body ∷ ts) ts found (here_acts role l p ch ts plain e fault f found h))

-- a packet of another channel
there_turned : (role : Role) (l : Layer) (own : Bool) (p : Packet) (c : ℕ) (ch : Channel) (ts : List Body) (F : Channel → Step) → (c ≡ p.channel → ⊥) → FitsAt l.phase ch → channel_of l c ≡ Some ch → Turned role l (on_channel (phase_of own) l p.channel F) c ch ts ts
there_turned role l true p c ch ts F ne f found = same_turned role l l c ch ts refl refl found f
there_turned role l false p c ch ts F ne f found = there_found (channel_of l p.channel)
  where
    there_found : (o : Option Channel) → Turned role l (on_found l p.channel F o) c ch ts ts
    there_found None = same_turned role l l c ch ts refl refl found f
    there_found (Some q) = other_turned role l c p.channel ch (F q) ts ne found f

unread_turned : (role : Role) (l l' : Layer) (c : ℕ) (ch : Channel) (before after : List Body) → Turned role (unread l) l' c ch before after → Turned role l l' c ch before after
unread_turned role l l' c ch before after t = record { next = t.next; found = t.found; fits = t.fits; comes = t.comes; grown = t.grown }

abbrev pub NoFaultAt : Phase → Layer → Packet → Bool → Type 0
NoFaultAt ph l p true = is_restart_fault ph p.body ≡ false
NoFaultAt ph l p false = is_channel_fault ph l p ≡ false

arrives_at : (role : Role) (l : Layer) (own : Bool) (p : Packet) (c : ℕ) (ch : Channel) (ts : List Body) (v0 v1 : Bool) → (p.channel == 0) ≡ v0 → (p.channel == c) ≡ v1 → WellOf v0 v1 p.body → l.phase ≡ phase_of own → NoFaultAt (phase_of own) (record l { role = role }) p v0
    → FitsAt l.phase ch → length l.owed ≤ 2 → channel_of l c ≡ Some ch → ComesTo role l.phase ch (cond (v0 || v1) (p.body ∷ ts) ts)
    → Turned role l (cond v0 (restart_packet (phase_of own) p.body l) (on_channel (phase_of own) l p.channel (λ q. heard_step role l p q))) c ch (cond (v0 || v1) (p.body ∷ ts) ts) ts
arrives_at role l own p c ch ts true v1 e0 e1 well e fault f few found h = restart_turned role l own p.body c ch ts well e fault f few found
arrives_at role l own p c ch ts false true e0 e1 well e fault f few found h =
    let here : p.channel ≡ c = eqb-true p.channel c e1 in
    subst (λ (k : ℕ). Turned role l (on_channel (phase_of own) l p.channel (λ q. heard_step role l p q)) k ch (p.body ∷ ts) ts) here
    (here_turned role l own p ch ts well e fault f (subst (λ (k : ℕ). channel_of l k ≡ Some ch) (sym here) found) h)
arrives_at role l own p c ch ts false false e0 e1 well e fault f few found h = there_turned role l own p c ch ts (λ q. heard_step role l p q) (λ q. eqb-false p.channel c e1 (sym q)) f found

fault_again_on : (l : Layer) (p : Packet) (o : Option Channel) → is_fault_on l p o ≡ false → is_fault_on (record (unread l) { role = l.role }) p o ≡ false
fault_again_on l p None q = q
fault_again_on l p (Some ch) q = q

fault_again : (l : Layer) (p : Packet) (ph : Phase) → is_channel_fault ph l p ≡ false → is_channel_fault ph (record (unread l) { role = l.role }) p ≡ false
fault_again l p PacketReady q = fault_again_on l p (channel_of l p.channel) q
fault_again l p OwnRestart q = q
fault_again l p NoSession q = q

fault_role : (role : Role) (l : Layer) (own : Bool) (p : Packet) (v : Bool) → l.role ≡ role → l.phase ≡ phase_of own → NoFaultAt l.phase l p v → NoFaultAt (phase_of own) (record (unread l) { role = role }) p v
fault_role role l own p true is e q = subst (λ (ph : Phase). is_restart_fault ph p.body ≡ false) e q
fault_role role l own p false is e q =
    subst (λ (ph : Phase). is_channel_fault ph (record (unread l) { role = role }) p ≡ false) e
    (subst (λ (r : Role). is_channel_fault l.phase (record (unread l) { role = r }) p ≡ false) is (fault_again l p l.phase q))

pub arrival_turned : (role : Role) (l : Layer) (own : Bool) (p : Packet) (c : ℕ) (ch : Channel) (ts : List Body) → l.role ≡ role → WellOf (p.channel == 0) (p.channel == c) p.body → l.phase ≡ phase_of own → NoFaultAt l.phase l p (p.channel == 0)
    → FitsAt l.phase ch → length l.owed ≤ 2 → channel_of l c ≡ Some ch → ComesTo role l.phase ch (cond ((p.channel == 0) || (p.channel == c)) (p.body ∷ ts) ts)
    → Turned role l (on_packet l (Received.Whole p)) c ch (cond ((p.channel == 0) || (p.channel == c)) (p.body ∷ ts) ts) ts
arrival_turned role l own p c ch ts is well e fault f few found h =
    unread_turned role l (on_packet l (Received.Whole p)) c ch (cond ((p.channel == 0) || (p.channel == c)) (p.body ∷ ts) ts) ts
    (subst (λ (r : Role). Turned role (unread l) (cond (p.channel == 0) (restart_packet l.phase p.body (unread l)) (on_channel l.phase (unread l) p.channel (λ q. received r l.flow p.channel q p.body))) c ch (cond ((p.channel == 0) || (p.channel == c)) (p.body ∷ ts) ts) ts) (sym is)
    (subst (λ (ph : Phase). Turned role (unread l) (cond (p.channel == 0) (restart_packet ph p.body (unread l)) (on_channel ph (unread l) p.channel (λ q. received role l.flow p.channel q p.body))) c ch (cond ((p.channel == 0) || (p.channel == c)) (p.body ∷ ts) ts) ts) (sym e)
    (arrives_at role (unread l) own p c ch ts (p.channel == 0) (p.channel == c) refl refl well e (fault_role role l own p (p.channel == 0) is e fault) f few found h)))

-- ---- the limit is not passed

channel_quiet : (role : Role) (l : Layer) (own : Bool) (p : Packet) (o : Option Channel) → channel_of l p.channel ≡ o → l.phase ≡ phase_of own → is_channel_fault (phase_of own) (record l { role = role }) p ≡ false → l.relink ≡ false
    → ((ch : Channel) → channel_of l p.channel ≡ Some ch → (restart_kind p.body ≡ Payload) × (FitsAt l.phase ch × ((ts : List Body) × ComesTo role l.phase ch (p.body ∷ ts))))
    → (on_channel (phase_of own) l p.channel (λ q. heard_step role l p q)).relink ≡ false
channel_quiet role l true p o found e fault rl h = rl
channel_quiet role l false p None found e fault rl h = subst (λ (q : Option Channel). (on_found l p.channel (λ z. heard_step role l p z) q).relink ≡ false) (sym found) rl
channel_quiet role l false p (Some ch) found e fault rl h =
    let q = h ch found in
    let a = here_acts role l p ch q.1.1.0 q.0 e fault q.1.0 found q.1.1.1 in
    subst (λ (z : Option Channel). (on_found l p.channel (λ v. heard_step role l p v) z).relink ≡ false) (sym found)
    (ap (λ (v : Bool). set_if v l.relink) (acts_limit role l.phase ch (heard_step role l p ch) (p.body ∷ q.1.1.0) q.1.1.0 a) ∙ rl)

-- what is known of the packet: a restart packet, or one of a channel to which it may come
abbrev pub Known : Role → Layer → Packet → Bool → Type 0
Known role l p true = IsRestart p.body
Known role l p false = (ch : Channel) → channel_of l p.channel ≡ Some ch → (restart_kind p.body ≡ Payload) × (FitsAt l.phase ch × ((ts : List Body) × ComesTo role l.phase ch (p.body ∷ ts)))

quiet_at : (role : Role) (l : Layer) (own : Bool) (p : Packet) (v : Bool) → l.phase ≡ phase_of own → NoFaultAt (phase_of own) (record l { role = role }) p v → l.relink ≡ false → length l.owed ≤ 2 → Known role l p v
    → (cond v (restart_packet (phase_of own) p.body l) (on_channel (phase_of own) l p.channel (λ q. heard_step role l p q))).relink ≡ false
quiet_at role l own p true e fault rl few k = restart_quiet l own p.body k fault rl few
quiet_at role l own p false e fault rl few k = channel_quiet role l own p (channel_of l p.channel) refl e fault rl k

known_unread : (role : Role) (l : Layer) (p : Packet) (v : Bool) → Known role l p v → Known role (unread l) p v
known_unread role l p true k = k
known_unread role l p false k = k

pub arrival_quiet : (role : Role) (l : Layer) (own : Bool) (p : Packet) → l.role ≡ role → l.phase ≡ phase_of own → NoFaultAt l.phase l p (p.channel == 0) → l.relink ≡ false → length l.owed ≤ 2 → Known role l p (p.channel == 0) → (on_packet l (Received.Whole p)).relink ≡ false
arrival_quiet role l own p is e fault rl few k =
    subst (λ (r : Role). (cond (p.channel == 0) (restart_packet l.phase p.body (unread l)) (on_channel l.phase (unread l) p.channel (λ q. received r l.flow p.channel q p.body))).relink ≡ false) (sym is)
    (subst (λ (ph : Phase). (cond (p.channel == 0) (restart_packet ph p.body (unread l)) (on_channel ph (unread l) p.channel (λ q. received role l.flow p.channel q p.body))).relink ≡ false) (sym e)
    (quiet_at role (unread l) own p (p.channel == 0) e (fault_role role l own p (p.channel == 0) is e fault) rl few (known_unread role l p (p.channel == 0) k)))
