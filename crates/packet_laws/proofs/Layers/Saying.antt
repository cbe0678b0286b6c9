-- What goes to the link from a channel is named in its epoch.
use Rattle.std.proofs.Common.{◌≡◌, ℕ, ◌<◌, Bool, true, false, not, List, [], ◌∷◌, ◌++◌, length, slice_get, Option, Some, None, refl, sym, ap, ◌∙◌, arith, true≢false}
use Rattle.data_transfer.specs.Flow.{modulus, shown}
use Rattle.data_transfer.specs.declared.flow.Flow.{Flow}
use Rattle.data_transfer.specs.Packets.{Datum, Body}
use Rattle.data_transfer.specs.Packets.Body.{Data, ReceiveReady, ReceiveNotReady}
use Rattle.data_transfer.specs.Traffic.{Traffic, Said, says, says_interrupt, says_data, says_flow, flow_told, window_open, ready_or_not}
use Rattle.packet_channel.specs.Channel.{ChannelState, Channel, in_transfer, has_flow, ChannelNext, next_of}
use Rattle.packet_laws.specs.History.{Epoch}
use Rattle.packet_laws.specs.Counts.{NamesCounts}
use Rattle.packet_laws.specs.Readable.{IfAny}
use Rattle.packet_laws.proofs.Naming.{counts_hold}
use Rattle.packet_laws.proofs.Numbers.{shown_is}
use Rattle.packet_laws.proofs.Call.Saying.{by_cond, and_parts}
use Rattle.packet_laws.specs.Layers.Counts.{IsNamed, HasNoNumber, Counts, Agrees}
use Rattle.packet_laws.proofs.Layers.Channels.{channel_in}

pub no_number : (flow : Flow) (e : Epoch) (b : Body) → HasNoNumber b → IsNamed flow e b
no_number flow e (Data send receive d) p = absurd p
no_number flow e (ReceiveReady receive) p = absurd p
no_number flow e (ReceiveNotReady receive) p = absurd p
no_number flow e _ p = tt

behind : (xs ys : List Datum) (d : Datum) → slice_get (xs ++ d ∷ ys) (length xs) ≡ Some d
behind [] ys d = refl
behind (x ∷ xs) ys d = behind xs ys d

abbrev SaysNamed : Flow → Epoch → Said → Type 0
SaysNamed flow e s = IfAny (λ b. IsNamed flow e b) s.body

says_ready : (stop : Bool) (flow : Flow) (t : Traffic) (e : Epoch) → NamesCounts flow t e → IsNamed flow e (ready_or_not stop (shown flow.numbering t.released))
says_ready true flow t e k = shown_is flow.numbering t.released e.released k.released
says_ready false flow t e k = shown_is flow.numbering t.released e.released k.released

says_flow_named : (flow : Flow) (t : Traffic) (e : Epoch) → NamesCounts flow t e → SaysNamed flow e (says_flow flow t)
says_flow_named flow t e k = by_cond (λ (s : Said). SaysNamed flow e s) (flow_told t) _ _ (λ h. tt) (λ h. says_ready t.stopped flow t e k)

says_datum : (flow : Flow) (d : Datum) (ds : List Datum) (t : Traffic) (e : Epoch) → flow.window < modulus flow.numbering → t.waiting ≡ d ∷ ds → NamesCounts flow t e → IsNamed flow e (Data (shown flow.numbering t.send_number) (shown flow.numbering t.released) d)
says_datum flow d ds t e le waits k =
    let sent : k.gone ++ (d ∷ ds) ≡ e.sent = ap (λ (l : List Datum). k.gone ++ l) (sym waits) ∙ k.sent in
    let within = k.went_within in
    let below = le in
    ((length k.gone, shown_is flow.numbering t.send_number (length k.gone) k.send, k.covered_went, omega arith, ap (λ (l : List Datum). slice_get l (length k.gone)) (sym sent) ∙ behind k.gone ds d), shown_is flow.numbering t.released e.released k.released)

says_data_named : (flow : Flow) (ds : List Datum) (t : Traffic) (e : Epoch) → flow.window < modulus flow.numbering → t.waiting ≡ ds → NamesCounts flow t e → SaysNamed flow e (says_data flow ds t)
says_data_named flow [] t e le waits k = says_flow_named flow t e k
says_data_named flow (d ∷ ds) t e le waits k =
    by_cond (λ (s : Said). SaysNamed flow e s) (window_open flow t) _ _ (λ h. says_datum flow d ds t e le waits k) (λ h. says_flow_named flow t e k)

says_interrupt_named : (flow : Flow) (q : Option (List ℕ)) (t : Traffic) (e : Epoch) → flow.window < modulus flow.numbering → NamesCounts flow t e → SaysNamed flow e (says_interrupt flow q t)
says_interrupt_named flow (Some octets) t e le k = tt
says_interrupt_named flow None t e le k = says_data_named flow t.waiting t e le refl k

says_named : (flow : Flow) (t : Traffic) (e : Epoch) → flow.window < modulus flow.numbering → NamesCounts flow t e → SaysNamed flow e (says flow t)
says_named flow t e le k =
    by_cond (λ (s : Said). SaysNamed flow e s) t.confirmation_due _ _ (λ h. tt) (λ h. says_interrupt_named flow t.interrupt_waiting t e le k)

-- ---- a control packet, or what the traffic says

abbrev pub NextAgrees : Flow → Epoch → ChannelNext → Type 0
NextAgrees flow e n = Agrees flow n.channel e × IfAny (λ b. IsNamed flow e b) n.body

next_by : (flow : Flow) (s : ChannelState) (rs : Bool) (o : List Body) (t : Traffic) (e : Epoch) → flow.window < modulus flow.numbering → Counts flow s rs o t e → NextAgrees flow e (next_of flow (channel_in s rs o t))
next_by flow s rs (b ∷ bs) t e le k = (record { names = k.names; unused = k.unused; controls = k.controls.1 }, no_number flow e b k.controls.0)
next_by flow s rs [] t e le k =
    by_cond (λ (n : ChannelNext). NextAgrees flow e n) (has_flow (channel_in s rs [] t)) _ _
    (λ h.
    let is = (and_parts (in_transfer s) (not rs) h).0 in (
      record {
        names = (counts_hold.said flow le t e k.names).0;
        unused = λ out. absurd (true≢false (sym is ∙ out));
        controls = tt;
      },
      says_named flow t e le k.names,
    )) (λ h. (k, tt))

pub next_agrees : (flow : Flow) (ch : Channel) (e : Epoch) → flow.window < modulus flow.numbering → Agrees flow ch e → NextAgrees flow e (next_of flow ch)
next_agrees flow ch e le k = next_by flow ch.state ch.resetting ch.owed ch.traffic e le k
