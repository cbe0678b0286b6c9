-- What a call of the link keeps: its role, its parameters and the bound of its queue. It sends one frame at most, at
-- the end of an event no more than the queue has.
use Rattle.std.specs.Prelude.{
  ◌≡◌,
  ℕ,
  ◌+◌,
  ◌%◌,
  ◌≤◌,
  Bool,
  true,
  false,
  not,
  ◌&&◌,
  List,
  [],
  ◌∷◌,
  ◌++◌,
  length,
  drop,
  Result,
  Ok,
  Err,
  if◌then◌else◌,
  nat_le,
  nat_lt,
  ◌==◌,
}
use Rattle.std.proofs.Common.{refl, arith, length-drop, length-append}
use Rattle.std.proofs.lemmas.Bool.{leb-false}
use Rattle.link_timers.specs.declared.role.Role.{Role}
use Rattle.link_timers.specs.declared.role.Role.TheVariants.{Dte, Dce}
use Rattle.frame_codec.specs.declared.fault.FrameFault.{FrameFault}
use Rattle.frame_codec.specs.declared.fault.FrameFault.TheVariants.{
  TooShort,
  WrongAddress,
  UnknownControl,
  InfoNotAllowed,
  InfoTooLong,
}
use Rattle.frame_codec.specs.Frame.{FrameValue, Content, Report}
use Rattle.frame_codec.specs.Frame.Content.{I, Rr, Rnr, Rej, Sabm, Disc, Dm, Ua, Frmr}
use Rattle.frame_codec.specs.Reading.{reading}
use Rattle.lapb.specs.declared.phase.Phase.{Phase}
use Rattle.lapb.specs.Machine.{
  Octets,
  Link,
  Step,
  Defect,
  UndefinedControl,
  InformationNotAllowed,
  InformationTooLong,
  response,
  answers,
  still,
  sends,
  set_up,
  relink,
  relink_as,
  come_up,
  reject_as,
  reject_number,
  is_same,
  is_valid,
  ahead,
  acknowledged,
  on_supervisory,
  accept,
  discard,
  on_information,
  checked,
  in_up,
  in_setting_up,
  in_down,
  in_rejecting,
  in_phase,
  on_content,
  on_defect_in,
  on_t1,
  runs,
  expire_in,
  poll,
  numbered,
  send_all,
  settle_in,
  settle,
  offer,
  is_full,
  is_up,
}
use Rattle.lapb.specs.Octets.{on_fault, on_reading, on_octets}

cond_by : (P : Bool → Type 0) (b : Bool) → (b ≡ true → P true) → (b ≡ false → P false) → P b
cond_by P true holds fails = holds refl
cond_by P false holds fails = fails refl

-- the role and the parameters stay, and the queue grows no longer
pub record Keeps (l link : Link) : Type 0 where
  pub role : link.role ≡ l.role
  pub k : link.k ≡ l.k
  pub n2 : link.n2 ≡ l.n2
  pub info : link.info ≡ l.info
  pub queue : length link.queue ≤ length l.queue

-- and one frame is sent at most
pub record Sends (l : Link) (step : Step) : Type 0 where
  pub keeps : Keeps l step.link
  pub few : length step.frames ≤ 1

same : (l : Link) → Keeps l l
same l = record { role = refl; k = refl; n2 = refl; info = refl; queue = omega arith }

sends_still : (l : Link) → Sends l (still l)
sends_still l = record { keeps = same l; few = omega arith }

sends_one : (l : Link) (frame : FrameValue) → Sends l (sends l frame)
sends_one l frame = record { keeps = same l; few = omega arith }

sends_set_up : (l : Link) → Sends l (set_up l)
sends_set_up l = record { keeps = record { role = refl; k = refl; n2 = refl; info = refl; queue = omega arith }; few = omega arith }

sends_asked : (l : Link) (frame : FrameValue) (due : Bool) → Sends l (if due then sends l frame else still l)
sends_asked l frame true = sends_one l frame
sends_asked l frame false = sends_still l

sends_unless : (l : Link) (frame : FrameValue) (due : Bool) → Sends l (if due then still l else sends l frame)
sends_unless l frame true = sends_still l
sends_unless l frame false = sends_one l frame

sends_reject : (role : Role) (l : Link) (report : Report) (p : Bool) → Sends l (reject_as role l report p)
sends_reject Dte l report p = sends_set_up l
sends_reject Dce l report p =
    record { keeps = record { role = refl; k = refl; n2 = refl; info = refl; queue = omega arith }; few = omega arith }

few_answers : (due : Bool) (nr : ℕ) → length (answers due nr) ≤ 1
few_answers true nr = omega arith
few_answers false nr = omega arith

-- ---- the information transfer phase

shorter : (l : Link) (n : ℕ) → length (drop n l.queue) ≤ length l.queue
shorter l n = omega (arith, length-drop n l.queue)

-- behind the acknowledgement of N(R)
sends_behind : (l : Link) (nr : ℕ) (step : Step) → Sends (acknowledged l nr) step → Sends l step
sends_behind l nr step s = record {
  keeps = record {
    role = s.keeps.role;
    k = s.keeps.k;
    n2 = s.keeps.n2;
    info = s.keeps.info;
    queue = omega (arith, s.keeps.queue, shorter l (ahead l.oldest nr));
  };
  few = s.few;
}

sends_supervisory : (l : Link) (busy back r p : Bool) → Sends l (on_supervisory l busy back r p)
sends_supervisory l busy back r p = record {
  keeps = record { role = refl; k = refl; n2 = refl; info = refl; queue = omega arith };
  few = few_answers (p && not r) l.expected;
}

sends_accept : (l : Link) (p : Bool) (packet : Octets) → Sends l (accept l p packet)
sends_accept l p packet = record {
  keeps = record { role = refl; k = refl; n2 = refl; info = refl; queue = omega arith };
  few = few_answers p ((l.expected + 1) % 8);
}

sends_discard : (l : Link) (p : Bool) → Sends l (discard l p)
sends_discard l p = record {
  keeps = record { role = refl; k = refl; n2 = refl; info = refl; queue = omega arith };
  few = cond_by (λ b. length (if b then answers p l.expected else response (Rej l.expected) p ∷ []) ≤ 1) l.rejecting
      (λ _. few_answers p l.expected) (λ _. omega arith);
}

sends_information : (l : Link) (ns : ℕ) (p : Bool) (packet : Octets) → Sends l (on_information l ns p packet)
sends_information l ns p packet =
    cond_by (λ b. Sends l (if b then accept l p packet else discard l p)) (ns == l.expected)
    (λ _. sends_accept l p packet)
    (λ _. sends_discard l p)

sends_checked : (l : Link) (content : Content) (r p : Bool) (nr : ℕ) (taken : Step) → Sends (acknowledged l nr) taken →
    Sends l (checked l content r p nr taken)
sends_checked l content r p nr taken s =
    cond_by (λ b. Sends l (if b then record taken { anew = nat_lt 0 (ahead l.oldest nr) } else reject_number l content
    r p))
    (is_valid l nr) (λ _. again (sends_behind l nr taken s)) (λ _. sends_reject l.role l _ _)
  where
    again : Sends l taken → Sends l (record taken { anew = nat_lt 0 (ahead l.oldest nr) })
    again s = record { keeps = s.keeps; few = s.few }

sends_in_up : (role : Role) (l : Link) (content : Content) (r p : Bool) → Sends l (in_up role l content r p)
sends_in_up role l (I ns nr packet) r p =
    sends_checked l (I ns nr packet) r p nr _ (sends_information (acknowledged l nr) ns p packet)
sends_in_up role l (Rr nr) r p =
    sends_checked l (Rr nr) r p nr _ (sends_supervisory (acknowledged l nr) false false r p)
sends_in_up role l (Rnr nr) r p =
    sends_checked l (Rnr nr) r p nr _ (sends_supervisory (acknowledged l nr) true false r p)
sends_in_up role l (Rej nr) r p =
    sends_checked l (Rej nr) r p nr _ (sends_supervisory (acknowledged l nr) false true r p)
sends_in_up role l Disc r p =
    record { keeps = record { role = refl; k = refl; n2 = refl; info = refl; queue = omega arith }; few = omega arith }
sends_in_up role l Ua r p = sends_still l
sends_in_up Dte l Sabm r p = sends_set_up l
sends_in_up Dte l Dm r p = sends_set_up l
sends_in_up Dte l (Frmr report) r p = sends_set_up l
sends_in_up Dce l Sabm r p = sends_still l
sends_in_up Dce l Dm r p = sends_still l
sends_in_up Dce l (Frmr report) r p =
    record { keeps = record { role = refl; k = refl; n2 = refl; info = refl; queue = omega arith }; few = omega arith }

-- ---- the other phases

sends_in_setting_up : (l : Link) (content : Content) (r p : Bool) → Sends l (in_setting_up l content r p)
sends_in_setting_up l Ua r p =
    cond_by (λ b. Sends l (if b then come_up l else still l)) (is_same p l.bit)
    (λ _. record { keeps = record { role = refl; k = refl; n2 = refl; info = refl; queue = omega arith }; few = omega arith })
    (λ _. sends_still l)
sends_in_setting_up l Disc r p = sends_one l _
sends_in_setting_up l (I ns nr packet) r p = sends_still l
sends_in_setting_up l (Rr nr) r p = sends_still l
sends_in_setting_up l (Rnr nr) r p = sends_still l
sends_in_setting_up l (Rej nr) r p = sends_still l
sends_in_setting_up l Sabm r p = sends_still l
sends_in_setting_up l Dm r p = sends_still l
sends_in_setting_up l (Frmr report) r p = sends_still l

sends_in_down : (role : Role) (l : Link) (content : Content) (r p : Bool) → Sends l (in_down role l content r p)
sends_in_down Dte l Sabm r p = sends_set_up l
sends_in_down Dte l Dm r p = sends_set_up l
sends_in_down Dce l Sabm r p = sends_asked l _ (p && not r)
sends_in_down Dce l Dm r p = sends_asked l _ (p && not r)
sends_in_down Dte l Disc r p = sends_one l _
sends_in_down Dce l Disc r p = sends_one l _
sends_in_down Dte l (I ns nr packet) r p = sends_asked l _ (p && not r)
sends_in_down Dce l (I ns nr packet) r p = sends_asked l _ (p && not r)
sends_in_down Dte l (Rr nr) r p = sends_asked l _ (p && not r)
sends_in_down Dce l (Rr nr) r p = sends_asked l _ (p && not r)
sends_in_down Dte l (Rnr nr) r p = sends_asked l _ (p && not r)
sends_in_down Dce l (Rnr nr) r p = sends_asked l _ (p && not r)
sends_in_down Dte l (Rej nr) r p = sends_asked l _ (p && not r)
sends_in_down Dce l (Rej nr) r p = sends_asked l _ (p && not r)
sends_in_down Dte l Ua r p = sends_asked l _ (p && not r)
sends_in_down Dce l Ua r p = sends_asked l _ (p && not r)
sends_in_down Dte l (Frmr report) r p = sends_asked l _ (p && not r)
sends_in_down Dce l (Frmr report) r p = sends_asked l _ (p && not r)

sends_in_rejecting : (l : Link) (content : Content) (r p : Bool) → Sends l (in_rejecting l content r p)
sends_in_rejecting l Disc r p =
    record { keeps = record { role = refl; k = refl; n2 = refl; info = refl; queue = omega arith }; few = omega arith }
sends_in_rejecting l (I ns nr packet) r p = sends_unless l _ r
sends_in_rejecting l (Rr nr) r p = sends_unless l _ r
sends_in_rejecting l (Rnr nr) r p = sends_unless l _ r
sends_in_rejecting l (Rej nr) r p = sends_unless l _ r
sends_in_rejecting l Sabm r p = sends_unless l _ r
sends_in_rejecting l Dm r p = sends_unless l _ r
sends_in_rejecting l Ua r p = sends_unless l _ r
sends_in_rejecting l (Frmr report) r p = sends_unless l _ r

sends_in_phase : (phase : Phase) (role : Role) (l : Link) (content : Content) (r p : Bool) → Sends l
    (in_phase phase role l content r p)
sends_in_phase Phase.Down role l content r p = sends_in_down role l content r p
sends_in_phase Phase.SettingUp role l content r p = sends_in_setting_up l content r p
sends_in_phase Phase.Up role l content r p = sends_in_up role l content r p
sends_in_phase Phase.Rejecting role l content r p = sends_in_rejecting l content r p

sends_on_content : (content : Content) (role : Role) (l : Link) (r p : Bool) → Sends l (on_content content role l r p)
sends_on_content Sabm Dce l r p =
    record { keeps = record { role = refl; k = refl; n2 = refl; info = refl; queue = omega arith }; few = omega arith }
sends_on_content Sabm Dte l r p = sends_in_phase l.phase Dte l Sabm r p
sends_on_content (I ns nr packet) role l r p =
    sends_in_phase l.phase role l (I ns nr packet) r p
sends_on_content (Rr nr) role l r p = sends_in_phase l.phase role l (Rr nr) r p
sends_on_content (Rnr nr) role l r p = sends_in_phase l.phase role l (Rnr nr) r p
sends_on_content (Rej nr) role l r p = sends_in_phase l.phase role l (Rej nr) r p
sends_on_content Disc role l r p = sends_in_phase l.phase role l Disc r p
sends_on_content Dm role l r p = sends_in_phase l.phase role l Dm r p
sends_on_content Ua role l r p = sends_in_phase l.phase role l Ua r p
sends_on_content (Frmr report) role l r p = sends_in_phase l.phase role l (Frmr report) r p

sends_on_defect : (phase : Phase) (l : Link) (defect : Defect) (control : ℕ) (r : Bool) → Sends l
    (on_defect_in phase l defect control r)
sends_on_defect Phase.Down l defect control r = sends_still l
sends_on_defect Phase.SettingUp l defect control r = sends_still l
sends_on_defect Phase.Up l defect control r = sends_reject l.role l _ _
sends_on_defect Phase.Rejecting l defect control r = sends_still l

sends_on_fault : (l : Link) (fault : FrameFault) (octets : Octets) → Sends l (on_fault l fault octets)
sends_on_fault l TooShort octets = sends_still l
sends_on_fault l WrongAddress octets = sends_still l
sends_on_fault l UnknownControl octets = sends_on_defect l.phase l UndefinedControl _ _
sends_on_fault l InfoNotAllowed octets = sends_on_defect l.phase l InformationNotAllowed _ _
sends_on_fault l InfoTooLong octets = sends_on_defect l.phase l InformationTooLong _ _

sends_on_reading : (l : Link) (octets : Octets) (read : Result FrameValue FrameFault) →
    Sends l (on_reading l octets read)
sends_on_reading l octets (Ok frame) = sends_on_content frame.content l.role l frame.response frame.pf
sends_on_reading l octets (Err fault) = sends_on_fault l fault octets

pub sends_on_octets : (l : Link) (octets : Octets) → Sends l (on_octets l octets)
sends_on_octets l octets = sends_on_reading l octets (reading l.role l.info octets)

-- ---- relinks and expiries

sends_relink_as : (role : Role) (phase : Phase) (l : Link) → Sends l (relink_as role phase l)
sends_relink_as Dte Phase.SettingUp l = sends_still l
sends_relink_as Dte Phase.Down l = sends_set_up l
sends_relink_as Dte Phase.Up l = sends_set_up l
sends_relink_as Dte Phase.Rejecting l = sends_set_up l
sends_relink_as Dce phase l =
    record { keeps = record { role = refl; k = refl; n2 = refl; info = refl; queue = omega arith }; few = omega arith }

pub sends_relink : (l : Link) → Sends l (relink l)
sends_relink l = sends_relink_as l.role l.phase l

sends_expire : (phase : Phase) (l : Link) → Sends l (expire_in phase l)
sends_expire Phase.Down l = record { keeps = same l; few = omega arith }
sends_expire Phase.SettingUp l = record { keeps = same l; few = omega arith }
sends_expire Phase.Up l =
    cond_by (λ b. Sends l (if b then relink l else poll l)) (nat_le l.n2 l.polls) (λ _. sends_relink l)
    (λ _. record { keeps = record { role = refl; k = refl; n2 = refl; info = refl; queue = omega arith }; few = omega arith })
sends_expire Phase.Rejecting l = record { keeps = same l; few = omega arith }

pub sends_on_t1 : (l : Link) → Sends l (on_t1 l)
sends_on_t1 l =
    cond_by (λ b. Sends l (if b then expire_in l.phase l else still l)) (runs l) (λ _. sends_expire l.phase l)
    (λ _. sends_still l)

-- ---- the end of an event, and offers

length-numbered : (ns nr : ℕ) (packets : List Octets) → length (numbered ns nr packets) ≡ length packets
length-numbered ns nr [] = refl
length-numbered ns nr (packet ∷ packets) = omega (arith, length-numbered (ns + 1) nr packets)

-- the packets stay, and no more frames than packets are sent, or one
pub record Settles (l : Link) (step : Step) : Type 0 where
  pub keeps : Keeps l step.link
  pub packets : step.link.queue ≡ l.queue
  pub few : (n : ℕ) → length l.queue ≤ n → 1 ≤ n → length step.frames ≤ n

settles_owed : (due : Bool) (frame : FrameValue) (n : ℕ) → 1 ≤ n → length (if due then frame ∷ [] else []) ≤ n
settles_owed true frame n one = omega arith
settles_owed false frame n one = omega arith

settles_all : (l : Link) (packets : List Octets) → length packets ≤ length l.queue → Settles l (send_all l packets)
settles_all l [] within = record {
  keeps = record { role = refl; k = refl; n2 = refl; info = refl; queue = omega arith };
  packets = refl;
  few = λ n most one. settles_owed l.owed _ n one;
}
settles_all l (packet ∷ packets) within = record {
  keeps = record { role = refl; k = refl; n2 = refl; info = refl; queue = omega arith };
  packets = refl;
  few = λ n most one. omega (arith, length-numbered (l.oldest + l.next) l.expected (packet ∷ packets));
}

settles_still : (l : Link) → Settles l (still l)
settles_still l = record { keeps = same l; packets = refl; few = λ n most one. omega arith }

settles_in : (phase : Phase) (l : Link) → Settles l (settle_in phase l)
settles_in Phase.Down l = settles_still l
settles_in Phase.SettingUp l = settles_still l
settles_in Phase.Up l =
    cond_by (λ b. Settles l (send_all l (if b then drop l.next l.queue else [])))
    (l.heard && not l.polling && not l.busy)
    (λ _. settles_all l (drop l.next l.queue) (shorter l l.next)) (λ _. settles_all l [] (omega arith))
settles_in Phase.Rejecting l = settles_still l

pub settles : (l : Link) → Settles l (settle l)
settles l = settles_in l.phase l

-- a packet is taken only where the queue has room for it
pub offer_fits : (l : Link) (packet : Octets) → length l.queue ≤ l.k → length (offer l packet).queue ≤ l.k
offer_fits l packet fits = go (is_up l.phase) (is_full l) refl
  where
    go : (up full : Bool) → is_full l ≡ full → length (if up && not full then l.queue ++ packet ∷ [] else l.queue) ≤ l.k
    go false full e = fits
    go true true e = fits
    go true false e = omega (arith, length-append l.queue (packet ∷ []), leb-false l.k (length l.queue) e)
