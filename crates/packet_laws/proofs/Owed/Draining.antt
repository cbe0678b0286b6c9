-- A packet put last into the pipe to an end may come to it in its turn: the end, with all packets before it heard, has nothing owed
-- that bars it.
use Rattle.std.proofs.Common.{◌≡◌, ℕ, Bool, true, false, not, List, [], ◌∷◌, ◌++◌, Option, Some, None, refl, sym, subst, append-nil, arith}
use Rattle.link_timers.specs.declared.role.Role.{Role}
use Rattle.data_transfer.specs.declared.flow.Flow.{Flow}
use Rattle.data_transfer.specs.Packets.{Body}
use Rattle.data_transfer.specs.Packets.Body.{Restart, RestartConfirmation}
use Rattle.packet_channel.specs.Channel.{ChannelState, Channel, Step, received}
use Rattle.packet_channel.specs.Channel.ChannelState.{Ready}
use Rattle.packet_laws.proofs.Handshakes.Handshake.{said, advanced, confirmed_side, AllPayload, SaysPayload}
use Rattle.packet_laws.proofs.Handshakes.Handshake.Kind.{Payload}
use Rattle.packet_laws.proofs.Call.Levels.{restart_kind, Uses, Whole, first_use, GoodWhole, whole_hears, whole_heard, whole_learns}
use Rattle.packet_laws.proofs.Line.Stored.{stored, stored_whole, shown, Settled, SettledWhole}
use Rattle.packet_laws.proofs.Line.Lines.{IsRestart, payload_append, said_append}
use Rattle.packet_laws.proofs.Line.Arriving.{confirm_good, discard_good, says_plain, settled_first, confirmation_unexpected, ties_of}
use Rattle.packet_laws.proofs.Owed.MayCome.{Comes, Hears, AllCome, Fits}
use Rattle.packet_laws.proofs.Owed.Fitting.{After, fits_comes, received_comes, received_back}
use Rattle.packet_laws.proofs.Owed.Barred.{may_come}

-- outside r1 a channel is in p1 and owes nothing
abbrev pub FitsIn : Bool → ChannelState → Bool → List Body → Type 0
FitsIn true s rs o = Fits s rs o
FitsIn false s rs o = (s ≡ Ready) × (rs ≡ false) × (o ≡ [])

-- the end after the packet, and what was claimed of it
pub record Next (flow : Flow) (role : Role) (y : Whole) (ts : List Body) (now : Type 0) (rest rest2 : Bool → ChannelState → Bool → List Body → Type 0) : Type 0 where
  pub next : Whole
  pub front : List Body
  pub owed : List Body
  pub ready : Bool
  pub good : GoodWhole flow role (record { me = next; you = y; out = front ++ owed; back = ts })
  pub own_is : next.own ≡ not ready
  pub plain : AllPayload restart_kind owed
  pub settled : Settled next
  pub fits : FitsIn ready (stored next).state (stored next).resetting owed
  pub comes : rest ready (stored next).state (stored next).resetting owed
  pub turned : rest2 ready (stored next).state (stored next).resetting owed → now

said_payload : (owed : List Body) (o : Option Body) → AllPayload restart_kind owed → SaysPayload restart_kind o → AllPayload restart_kind (said o owed)
said_payload owed None a e = a
said_payload owed (Some b) a e = payload_append owed b a e

fits_first : (s : Uses) → s ≡ first_use → Fits (stored_whole false s).state (stored_whole false s).resetting []
fits_first s e = subst (λ (u : Uses). Fits (stored_whole false u).state (stored_whole false u).resetting []) (sym e) (omega arith, tt)

-- the own restart is confirmed
confirmed_next : (flow : Flow) (role : Role) (x y : Whole) (out : List Body) (t : Body) (ts : List Body) (now : Type 0) (rest rest2 : Bool → ChannelState → Bool → List Body → Type 0) → IsRestart t → x.own ≡ true
    → GoodWhole flow role (record { me = x; you = y; out = out; back = t ∷ ts }) → Settled x → rest true Ready false [] → (rest2 true Ready false [] → now) → Next flow role y ts now rest rest2
confirmed_next flow role x y out t ts now rest rest2 r e g s h f =
    let first : x.now ≡ first_use = subst (λ (v : Bool). SettledWhole v x.now) e s in
    record {
      next = confirmed_side x;
      front = out;
      owed = [];
      ready = true;
      good = subst (λ (o : List Body). GoodWhole flow role (record { me = confirmed_side x; you = y; out = o; back = ts })) (sym (append-nil out)) (confirm_good flow role x y out ts t r e g);
      own_is = refl;
      plain = tt;
      settled = settled_first x.now first;
      fits = fits_first x.now first;
      comes = subst (λ (u : Uses). rest true (stored_whole false u).state (stored_whole false u).resetting []) (sym first) h;
      turned = λ h'. f (subst (λ (u : Uses). rest2 true (stored_whole false u).state (stored_whole false u).resetting []) first h');
    }

-- the other end's restart is learnt
learnt_next : (flow : Flow) (role : Role) (x y : Whole) (front owed : List Body) (c d : ℕ) (ts : List Body) (now : Type 0) (rest rest2 : Bool → ChannelState → Bool → List Body → Type 0) → x.own ≡ false → AllPayload restart_kind owed
    → GoodWhole flow role (record { me = x; you = y; out = front ++ owed; back = Restart c d ∷ ts }) → rest true Ready false [] → (rest2 true Ready false [] → now) → Next flow role y ts now rest rest2
learnt_next flow role x y front owed c d ts now rest rest2 e plain g h f = record {
  next = advanced first_use false x;
  front = front ++ RestartConfirmation ∷ [];
  owed = [];
  ready = true;
  good = subst (λ (o : List Body). GoodWhole flow role (record { me = advanced first_use false x; you = y; out = o; back = ts })) (sym (append-nil (front ++ RestartConfirmation ∷ [])))
      (whole_learns flow role c d x y front owed ts plain e g);
  own_is = refl;
  plain = tt;
  settled = tt;
  fits = (omega arith, tt);
  comes = h;
  turned = f;
}

discard_next : (flow : Flow) (role : Role) (x y : Whole) (front owed : List Body) (t : Body) (ts : List Body) (now : Type 0) (rest rest2 : Bool → ChannelState → Bool → List Body → Type 0) → restart_kind t ≡ Payload → x.own ≡ true
    → GoodWhole flow role (record { me = x; you = y; out = front ++ owed; back = t ∷ ts }) → AllPayload restart_kind owed → Settled x → FitsIn false (stored x).state (stored x).resetting owed
    → rest false (stored x).state (stored x).resetting owed → (rest2 false (stored x).state (stored x).resetting owed → now) → Next flow role y ts now rest rest2
discard_next flow role x y front owed t ts now rest rest2 k e g plain s fits h f =
    record { next = x; front = front; owed = owed; ready = false; good = discard_good flow role x y (front ++ owed) ts t k e g; own_is = e; plain = plain; settled = s; fits = fits; comes = h; turned = f }

-- a packet of the channel
channel_next : (flow : Flow) (role : Role) (x y : Whole) (front owed : List Body) (t : Body) (ts : List Body) (now : Type 0) (rest rest2 : Bool → ChannelState → Bool → List Body → Type 0) → restart_kind t ≡ Payload → x.own ≡ false
    → GoodWhole flow role (record { me = x; you = y; out = front ++ owed; back = t ∷ ts }) → AllPayload restart_kind owed → Settled x → Fits (stored x).state (stored x).resetting owed
    → Comes role (stored x).state (stored x).resetting owed t (λ s rs o. rest true s rs o) → (Comes role (stored x).state (stored x).resetting owed t (λ s rs o. rest2 true s rs o) → now) → Next flow role y ts now rest rest2
channel_next flow role x y front owed t ts now rest rest2 k e g plain s fits h f =
    let ch : Channel = shown (stored x) owed in
    let st : Step = received role flow 0 ch t in
    let ties = ties_of flow role x y (front ++ owed) ts 0 owed t k e s g in
    let says : Option Body = (whole_hears flow role x t).says in
    let x' : Whole = (whole_hears flow role x t).end_ in
    let there : After st (λ s' rs' o'. Fits s' rs' o' × rest true s' rs' o') =
    received_comes role flow 0 (stored x).state (stored x).resetting owed (stored x).traffic t (λ s' rs' o'. Fits s' rs' o' × rest true s' rs' o') ties.no_fault
    (fits_comes role (stored x).state (stored x).resetting owed t (λ s' rs' o'. rest true s' rs' o') fits h) in
    let here : Fits (stored x').state (stored x').resetting (said says owed) × rest true (stored x').state (stored x').resetting (said says owed) =
    subst (λ (o : Option Body). Fits (stored x').state (stored x').resetting (said o owed) × rest true (stored x').state (stored x').resetting (said o owed)) ties.owes_is
    (subst (λ (q : Channel). Fits q.state q.resetting (said st.owes q.owed) × rest true q.state q.resetting (said st.owes q.owed)) ties.channel_is there) in
    record {
      next = x';
      front = front;
      owed = said says owed;
      ready = true;
      good = subst (λ (o : List Body). GoodWhole flow role (record { me = x'; you = y; out = o; back = ts })) (said_append front owed says) (whole_heard flow role (record { me = x; you = y; out = front ++ owed; back = [] }) t ts g).1;
      own_is = ties.ready;
      plain = said_payload owed says plain (says_plain flow role x t k);
      settled = ties.settled;
      fits = here.0;
      comes = here.1;
      turned = λ h'. f (received_back role flow 0 (stored x).state (stored x).resetting owed (stored x).traffic t (λ s' rs' o'. rest true s' rs' o') (λ s' rs' o'. rest2 true s' rs' o') ties.no_fault h
          (subst (λ (q : Channel). rest2 true q.state q.resetting (said st.owes q.owed)) (sym ties.channel_is)
          (subst (λ (o : Option Body). rest2 true (stored x').state (stored x').resetting (said o owed)) (sym ties.owes_is) h')));
    }

hears_next : (flow : Flow) (role : Role) (ready : Bool) (x y : Whole) (front owed : List Body) (t : Body) (ts : List Body) (rest rest2 : Bool → ChannelState → Bool → List Body → Type 0) → x.own ≡ not ready
    → GoodWhole flow role (record { me = x; you = y; out = front ++ owed; back = t ∷ ts }) → AllPayload restart_kind owed → Settled x → FitsIn ready (stored x).state (stored x).resetting owed
    → Hears role (restart_kind t) ready (stored x).state (stored x).resetting owed t rest → Next flow role y ts (Hears role (restart_kind t) ready (stored x).state (stored x).resetting owed t rest2) rest rest2
hears_next flow role true x y front owed (Restart c d) ts rest rest2 e g plain s fits h = learnt_next flow role x y front owed c d ts _ rest rest2 e plain g h (λ h'. h')
hears_next flow role true x y front owed RestartConfirmation ts rest rest2 e g plain s fits h = absurd h
hears_next flow role true x y front owed t ts rest rest2 e g plain s fits h = channel_next flow role x y front owed t ts _ rest rest2 refl e g plain s fits h (λ h'. h')
hears_next flow role false x y front owed (Restart c d) ts rest rest2 e g plain s fits h = confirmed_next flow role x y (front ++ owed) (Restart c d) ts _ rest rest2 tt e g s h (λ h'. h')
hears_next flow role false x y front owed RestartConfirmation ts rest rest2 e g plain s fits h = confirmed_next flow role x y (front ++ owed) RestartConfirmation ts _ rest rest2 tt e g s h (λ h'. h')
hears_next flow role false x y front owed t ts rest rest2 e g plain s fits h = discard_next flow role x y front owed t ts _ rest rest2 refl e g plain s fits h (λ h'. h')

last_comes : (flow : Flow) (role : Role) (ready : Bool) (x y : Whole) (front owed : List Body) (b : Body) → x.own ≡ not ready → GoodWhole flow role (record { me = x; you = y; out = front ++ owed; back = b ∷ [] })
    → AllPayload restart_kind owed → Settled y → FitsIn ready (stored x).state (stored x).resetting owed → AllCome role ready (stored x).state (stored x).resetting owed (b ∷ [])
last_comes flow role true x y front owed (Restart c d) e g plain z fits = tt
last_comes flow role true x y front owed RestartConfirmation e g plain z fits = absurd (confirmation_unexpected flow role x y (front ++ owed) [] e g)
last_comes flow role true x y front owed b e g plain z fits = may_come flow role x y front owed b g e refl plain z fits
last_comes flow role false x y front owed (Restart c d) e g plain z fits = tt
last_comes flow role false x y front owed RestartConfirmation e g plain z fits = tt
last_comes flow role false x y front owed b e g plain z fits = tt

pub push : (flow : Flow) (role : Role) (keep : List Body) (ready : Bool) (x y : Whole) (front owed : List Body) (b : Body) → x.own ≡ not ready → GoodWhole flow role (record { me = x; you = y; out = front ++ owed; back = keep ++ b ∷ [] })
    → AllPayload restart_kind owed → Settled x → Settled y → FitsIn ready (stored x).state (stored x).resetting owed → AllCome role ready (stored x).state (stored x).resetting owed keep
    → AllCome role ready (stored x).state (stored x).resetting owed (keep ++ b ∷ [])
push flow role [] ready x y front owed b e g plain s z fits h = last_comes flow role ready x y front owed b e g plain z fits
push flow role (t ∷ ts) ready x y front owed b e g plain s z fits h =
    let n = hears_next flow role ready x y front owed t (ts ++ b ∷ []) (λ q a v o. AllCome role q a v o ts) (λ q a v o. AllCome role q a v o (ts ++ b ∷ [])) e g plain s fits h in
    n.turned (push flow role ts n.ready n.next y n.front n.owed b n.own_is n.good n.plain n.settled z n.fits n.comes)
