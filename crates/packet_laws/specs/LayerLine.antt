-- A line: two packet layers and, session by session, the packets that each end handed to the link and how many of them
-- the other end accepted. The link keeps its promise: in a session an end accepts the next packet that the other end
-- offered.
use Rattle.std.specs.Prelude.{ℕ, zero, suc, ◌+◌, Bool, true, false, if◌then◌else◌, not, ◌&&◌, ◌==◌, List, [], ◌∷◌, ◌++◌}
use Rattle.std.specs.Prelude.{slice_get, Option, Some, None}
use Rattle.link_timers.specs.declared.role.Role.{Role}
use Rattle.link_timers.specs.declared.role.Role.TheVariants.{Dte, Dce}
use Rattle.data_transfer.specs.declared.flow.Flow.{Flow}
use Rattle.data_transfer.specs.Packets.{CallParts, Packet}
use Rattle.data_transfer.specs.Packets.Received.{Whole}
use Rattle.packet_channel.specs.Channel.{Request}
use Rattle.packet_layer.specs.Layer.{Layer, Timer, made, link_up, link_down, on_packet, on_timer, next_packet, call}
use Rattle.packet_layer.specs.Layer.{channel_given, request}
use Rattle.packet_laws.specs.History.{History, new_history, placed, call_accepted, call_history, request_history}
use Rattle.packet_laws.specs.History.{packet_history, timer_history}

-- one end: its layer, the session in which its link is up, and by session what it handed to the link, how many of the
-- other end's packets it accepted, and the histories of its channels
pub record End : Type 0 where
  pub layer : Layer
  pub session : Option ℕ
  pub offered : ℕ → List Packet
  pub accepted : ℕ → ℕ
  pub histories : ℕ → ℕ → History

pub record Line : Type 0 where
  pub me : End
  pub you : End

abbrev pub turned : Line → Line
turned w = record { me = w.you; you = w.me }

-- a standing line is made with session 0 up
abbrev pub start_session : Bool → Option ℕ
start_session true = Some 0
start_session false = None

-- its standing call, on channel 1, counts as one that the DTE placed, with nothing in it, and the DCE accepted
abbrev pub no_parts : CallParts
no_parts = record { called = []; calling = []; facilities = []; user_part = [] }

abbrev pub standing_history : Role → History
standing_history Dte = placed no_parts new_history
standing_history Dce = call_accepted new_history

abbrev pub start_history : Role → Bool → ℕ → ℕ → History
start_history role true zero (suc zero) = standing_history role
start_history role standing s c = new_history

abbrev pub start_end : Role → ℕ → Flow → Bool → End
start_end role channels flow standing = record {
  layer = made role channels flow standing;
  session = start_session standing;
  offered = λ s. [];
  accepted = λ s. 0;
  histories = λ s c. start_history role standing s c;
}

abbrev pub start_line : ℕ → Flow → Bool → Line
start_line channels flow standing = record {
  me = start_end Dte channels flow standing;
  you = start_end Dce channels flow standing;
}

-- what happens at an end
pub data Event : Type 0 where
  -- the link notes a new session, or that it is down
  Up : (session : ℕ) → Event
  Down : Event
  -- the user's calls, the expiry of a timer
  Calls : CallParts → Event
  Requests : (channel : ℕ) → Request → Event
  Expires : Timer → Event
  -- the next packet is handed to the link; the link accepted the other end's next packet of the session
  Offers : Event
  Arrives : Event

abbrev pub is_session : Option ℕ → ℕ → Bool
is_session None s = false
is_session (Some now) s = s == now

-- the histories of the present session go on
abbrev pub told : (ℕ → History → History) → End → End
told f e = record e {
  histories = λ s c. if is_session e.session s then f c (e.histories s c) else e.histories s c;
}

abbrev pub with_layer : Layer → End → End
with_layer l e = record e { layer = l }

-- when an end comes up in a session, neither end accepted anything in it before; what it offered in it is given up
abbrev pub begun : ℕ → End → End
begun s e = record e {
  layer = link_up e.layer;
  session = Some s;
  offered = λ k. if k == s then [] else e.offered k;
}

abbrev pub may_begin : ℕ → Line → Bool
may_begin s w = not (s == 0) && ((w.me.accepted s == 0) && (w.you.accepted s == 0))

abbrev pub handed_over : ℕ → Option Packet → (ℕ → List Packet) → ℕ → List Packet
handed_over s None offered = offered
handed_over s (Some p) offered = λ k. if k == s then offered k ++ p ∷ [] else offered k

abbrev pub offers : Option ℕ → End → End
offers None e = e
offers (Some s) e = record e {
  layer = (next_packet e.layer).layer;
  offered = handed_over s (next_packet e.layer).packet e.offered;
}

abbrev pub accepts : ℕ → Option Packet → End → End
accepts s None e = e
accepts s (Some p) e = record (told (λ c st. packet_history e.layer p c st) e) {
  layer = on_packet e.layer (Whole p);
  accepted = λ k. if k == s then e.accepted k + 1 else e.accepted k;
}

abbrev pub next_of_session : Line → ℕ → Option Packet
next_of_session w s = slice_get (w.you.offered s) (w.me.accepted s)

abbrev pub arrives_in : Option ℕ → Line → Line
arrives_in None w = w
arrives_in (Some s) w = record w { me = accepts s (next_of_session w s) w.me }

-- at `me`
abbrev pub happens : Event → Line → Line
happens (Up s) w = if may_begin s w then record w { me = begun s w.me } else w
happens Down w = record w { me = record w.me { layer = link_down w.me.layer; session = None } }
happens (Calls parts) w =
    record w {
      me =
          with_layer (call w.me.layer parts)
          (told (λ d st. call_history parts (channel_given w.me.layer w.me.layer.phase) d st) w.me);
    }
happens (Requests c r) w = record w {
  me = with_layer (request w.me.layer c r) (told (λ d st. request_history w.me.layer c r d st) w.me);
}
happens (Expires t) w = record w {
  me = with_layer (on_timer w.me.layer t) (told (λ d st. timer_history w.me.layer t d st) w.me);
}
happens Offers w = record w { me = offers w.me.session w.me }
happens Arrives w = arrives_in w.me.session w

-- at which end it happens
pub data Happening : Type 0 where
  Here : Event → Happening
  There : Event → Happening

abbrev pub after_one : Happening → Line → Line
after_one (Here e) w = happens e w
after_one (There e) w = turned (happens e (turned w))

abbrev pub after : List Happening → Line → Line
after [] w = w
after (h ∷ hs) w = after hs (after_one h w)
