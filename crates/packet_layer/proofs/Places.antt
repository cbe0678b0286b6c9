-- Channels by their places: what a step of the channel at a place makes of the layer.
use Rattle.std.proofs.Common.{◌≡◌, ℕ, zero, suc, ◌+◌, ◌<◌, Bool, true, false, List, [], ◌∷◌, ◌++◌, length, set, get_or, refl, sym, ap, subst, ◌∙◌, arith}
use Rattle.std.specs.Prelude.{Option, Some, None, Result, Ok, Err, MatchResult, slice_get, ◌&&◌, ◌==◌}
use Rattle.std.proofs.lemmas.List.{append-nil}
use Rattle.link_timers.specs.declared.role.Role.{Role}
use Rattle.data_transfer.specs.Packets.{Body, CallParts, Call, Note}
use Rattle.data_transfer.specs.Traffic.{front}
use Rattle.packet_channel.specs.Channel.ChannelState.{Ready, OwnWaiting, FarWaiting, Transfer, Collision, OwnClear}
use Rattle.packet_channel.specs.Channel.{ChannelState, Channel, Step, Request, Refusal, unless, refusal, requested, carried_out, received, unreadable, clear_error}
use Rattle.packet_channel.specs.Channel.Request.{Accept, Clearing, Resetting, Sending, Interrupting, Stopping, Taking, Releasing, Confirming}
use Rattle.packet_layer.specs.Layer as machine
use Rattle.packet_channel.specs.Done.{IsDone}
use Rattle.packet_layer.specs.Layer.Phase.{PacketReady}
use Rattle.packet_layer.specs.Layer.{Layer, Phase, on_channel, is_ready, is_free, free_channel, placing, nth_channel, channel_of, on_found, owing, passes_limit, set_if}
use Rattle.packet_channel.specs.Answers.{CarriedOut, Refused, BufAnswers, sending}
use Rattle.data_transfer.specs.Held.{Kept}
use Rattle.packet_channel.specs.RequestView.{refusal_of}
use Rattle.data_transfer.specs.Octets.{unreadable_as}
use Rattle.packet_codec.specs.Diagnostic.{no_information}
use Rattle.data_transfer.specs.declared.flow.Flow.{Flow}
use Rattle.packet_layer.specs.Events.{after_hearing}
use Rattle.packet_channel.specs.declared.fault.ChannelFault.{ChannelFault}
use Rattle.packet_channel.specs.declared.fault.RefusedBuf.{RefusedBuf}

pub channel_at : (chs : List Channel) (c place : ℕ) → place + 1 ≡ c → nth_channel chs c ≡ slice_get chs place
channel_at chs zero place e = absurd (omega arith)
channel_at chs (suc i) place e = let same : i ≡ place = omega arith in ap (λ (n : ℕ). slice_get chs n) same

pub step_at : (l : Layer) (c place : ℕ) (ch : Channel) (f : Channel → Step) → place + 1 ≡ c → slice_get l.channels place ≡ Some ch → on_found l c f (channel_of l c) ≡ record l { channels = set l.channels place (owing (f ch)); relink = set_if (passes_limit (f ch).channel.owed (f ch).owes) l.relink; notes = l.notes ++ (f ch).notes }
step_at l zero place ch f e h = absurd (omega arith)
step_at l (suc i) place ch f e h = let same : i ≡ place = omega arith in rw (same, h) refl

-- what is written back unchanged changes nothing
pub set_same : {X : Type 0} (xs : List X) (i : ℕ) (x : X) → slice_get xs i ≡ Some x → set xs i x ≡ xs
set_same [] i x h = refl
set_same (y ∷ ys) zero x h = let e : y ≡ x = cc in ap (λ w. w ∷ ys) (sym e)
set_same (y ∷ ys) (suc i) x h = ap (λ zs. y ∷ zs) (set_same ys i x h)

no_notes : (ch : Channel) (r : Request) → (carried_out ch r).notes ≡ []
no_notes ch Accept = refl
no_notes ch (Clearing cause diagnostic) = refl
no_notes ch (Resetting cause diagnostic) = refl
no_notes ch (Sending d) = refl
no_notes ch (Interrupting octets) = refl
no_notes ch (Stopping b) = refl
no_notes ch Taking = refl
no_notes ch (Releasing n) = refl
no_notes ch Confirming = refl

same_owed : (ch : Channel) (r : Request) → (carried_out ch r).channel.owed ≡ ch.owed
same_owed ch Accept = refl
same_owed ch (Clearing cause diagnostic) = refl
same_owed ch (Resetting cause diagnostic) = refl
same_owed ch (Sending d) = refl
same_owed ch (Interrupting octets) = refl
same_owed ch (Stopping b) = refl
same_owed ch Taking = refl
same_owed ch (Releasing n) = refl
same_owed ch Confirming = refl

-- what a request comes to, as the layer keeps it
abbrev pub kept : Layer → ℕ → Channel → Bool → Layer
kept l place new relink = record l { channels = set l.channels place new; relink = set_if relink l.relink }

step_done : (l : Layer) (place : ℕ) (ch : Channel) (st : Step) (new : Channel) (relink : Bool) → st.notes ≡ [] → st.channel.owed ≡ ch.owed → new ≡ owing st → relink ≡ passes_limit ch.owed st.owes → record l { channels = set l.channels place (owing st); relink = set_if (passes_limit st.channel.owed st.owes) l.relink; notes = l.notes ++ st.notes } ≡ kept l place new relink
step_done l place ch st new relink n o e p = rw (e, p, n, o, append-nil l.notes) refl

pub request_done : (l : Layer) (c place : ℕ) (ch new : Channel) (r : Request) (relink : Bool) → place + 1 ≡ c → slice_get l.channels place ≡ Some ch → CarriedOut l.role l.flow ch r relink new → kept l place new relink ≡ machine.request l c r
request_done l c place ch new r relink e h done =
    sym (step_at l c place ch (λ x. requested l.role l.flow x r) e h
    ∙ ap (λ (o : Option Refusal). let st = unless o (carried_out ch r) ch in record l { channels = set l.channels place (owing st); relink = set_if (passes_limit st.channel.owed st.owes) l.relink; notes = l.notes ++ st.notes }) done.allowed
    ∙ step_done l place ch (carried_out ch r) new relink (no_notes ch r) (same_owed ch r) done.channel done.passes)

pub request_refused : (l : Layer) (c place : ℕ) (ch new : Channel) (r : Request) (fault : ChannelFault) → place + 1 ≡ c → slice_get l.channels place ≡ Some ch → Refused l.role l.flow ch r fault new → record l { channels = set l.channels place new } ≡ machine.request l c r
request_refused l c place ch new r fault e h refused =
    sym (step_at l c place ch (λ x. requested l.role l.flow x r) e h
    ∙ ap (λ (o : Option Refusal). let st = unless o (carried_out ch r) ch in record l { channels = set l.channels place (owing st); relink = set_if (passes_limit st.channel.owed st.owes) l.relink; notes = l.notes ++ st.notes }) refused.first
    ∙ rw (append-nil l.notes, refused.same) refl)

pub refused_at : (l : Layer) (c place : ℕ) (ch : Channel) (r : Request) → place + 1 ≡ c → slice_get l.channels place ≡ Some ch → machine.request_refusal l c r ≡ refusal l.role l.flow ch r
refused_at l c place ch r e h = rw (channel_at l.channels c place e, h) refl

-- an element of a list, by its place
pub at_place : {X : Type 0} (xs : List X) (i : ℕ) (x : X) → i < length xs → x ≡ get_or xs i x → slice_get xs i ≡ Some x
at_place [] i x h e = absurd (omega arith)
at_place (y ∷ ys) zero x h e = ap Some (sym e)
at_place (y ∷ ys) (suc i) x h e = at_place ys i x (omega arith) e

-- what comes to a channel, from the link or by its timer
step_taken : (l : Layer) (c place : ℕ) (ch new : Channel) (relink : Bool) (notes : List Note) (f : Channel → Step) →
    place + 1 ≡ c → slice_get l.channels place ≡ Some ch → l.notes ≡ [] → IsDone (f ch) new relink notes →
    record l { channels = set l.channels place new; relink = set_if relink l.relink; notes = notes }
    ≡ on_found l c f (channel_of l c)
step_taken l c place ch new relink notes f e h unread done =
    rw (done.channel_is, done.relink_is)
    (ap (λ (ns : List Note). record l {
      channels = set l.channels place (owing (f ch));
      relink = set_if (passes_limit (f ch).channel.owed (f ch).owes) l.relink;
      notes = ns;
    }) (done.notes_are ∙ ap (λ (ns : List Note). ns ++ (f ch).notes) (sym unread))
    ∙ sym (step_at l c place ch f e h))

-- a packet that comes on a channel
pub packet_taken : (l : Layer) (c place : ℕ) (ch new : Channel) (b : Body) (relink : Bool) (notes : List Note)
    (role : Role) (flow : Flow) (channel : ℕ) → l.phase ≡ PacketReady → place + 1 ≡ c → slice_get l.channels place ≡ Some ch →
    l.notes ≡ [] → role ≡ l.role → flow ≡ l.flow → channel ≡ place + 1 →
    IsDone (received role flow channel ch b) new relink notes →
    record l { channels = set l.channels place new; relink = set_if relink l.relink; notes = notes }
    ≡ on_channel l.phase l c (λ x. received l.role l.flow c x b)
packet_taken l c place ch new b relink notes role flow channel ready e h unread same_role same_flow same_channel done =
    let as_end : received role flow channel ch b ≡ received l.role l.flow c ch b =
    ap (λ (r : Role). received r flow channel ch b) same_role
    ∙ ap (λ (f : Flow). received l.role f channel ch b) same_flow
    ∙ ap (λ (n : ℕ). received l.role l.flow n ch b) (same_channel ∙ e) in
    step_taken l c place ch new relink notes (λ x. received l.role l.flow c x b) e h unread
    (subst (λ (st : Step). IsDone st new relink notes) as_end done)
    ∙ ap (λ (p : Phase). on_channel p l c (λ x. received l.role l.flow c x b)) (sym ready)

-- a channel that is left as it is
pub unchanged : (l : Layer) (place : ℕ) (ch new : Channel) → slice_get l.channels place ≡ Some ch → new ≡ ch → record l { channels = set l.channels place new } ≡ l
unchanged l place ch new h e = rw (e, set_same l.channels place ch h) refl

-- what is taken owes nothing
step_of_taking : (role : Role) (flow : Flow) (ch : Channel) → ((requested role flow ch Taking).notes ≡ []) × (((requested role flow ch Taking).owes ≡ None) × ((requested role flow ch Taking).channel.owed ≡ ch.owed))
step_of_taking role flow ch = taken_by (refusal role flow ch Taking) where
  taken_by : (o : Option Refusal) → let st = unless o (carried_out ch Taking) ch in (st.notes ≡ []) × ((st.owes ≡ None) × (st.channel.owed ≡ ch.owed))
  taken_by None = (refl, (refl, refl))
  taken_by (Some r) = (refl, (refl, refl))

pub taking_done : (l : Layer) (c place : ℕ) (ch new : Channel) → place + 1 ≡ c → slice_get l.channels place ≡ Some ch → new ≡ owing (requested l.role l.flow ch Taking) → record l { channels = set l.channels place new } ≡ machine.request l c Taking
taking_done l c place ch new e h is_new =
    let facts = step_of_taking l.role l.flow ch in
    sym (step_at l c place ch (λ x. requested l.role l.flow x Taking) e h
    ∙ rw (is_new, facts.0, facts.1.0, append-nil l.notes) refl)

ready_of : (s : ChannelState) (b : Bool) → is_ready s && b ≡ true → s ≡ Ready
ready_of Ready b h = refl
ready_of OwnWaiting b h = absurd (cc)
ready_of FarWaiting b h = absurd (cc)
ready_of Transfer b h = absurd (cc)
ready_of Collision b h = absurd (cc)
ready_of OwnClear b h = absurd (cc)

pub free_ready : (ch : Channel) → is_free ch ≡ true → ch.state ≡ Ready
free_ready ch h = ready_of ch.state (length ch.owed == 0) h

call_given : (l : Layer) (parts : CallParts) (c : ℕ) → l.phase ≡ PacketReady → free_channel l.role l.channels ≡ Some c → machine.call l parts ≡ on_found l c (λ x. placing parts x) (channel_of l c)
call_given l parts c ready free = rw (ready, free) refl

pub call_done : (l : Layer) (place : ℕ) (ch new : Channel) (parts : CallParts) (relink : Bool) → l.phase ≡ PacketReady → free_channel l.role l.channels ≡ Some (place + 1) → slice_get l.channels place ≡ Some ch → new ≡ owing (placing parts ch) → relink ≡ passes_limit ch.owed (Some (Call parts)) → kept l place new relink ≡ machine.call l parts
call_done l place ch new parts relink ready free h e p =
    sym (call_given l parts (place + 1) ready free
    ∙ step_at l (place + 1) place ch (λ x. placing parts x) refl h
    ∙ step_done l place ch (placing parts ch) new relink refl refl e p)

-- octets that are no packet come on a channel
pub unreadable_taken : (l : Layer) (unknown : Bool) (c place : ℕ) (ch new : Channel) (relink : Bool) (notes : List Note)
    (role : Role) (channel : ℕ) → l.phase ≡ PacketReady → place + 1 ≡ c → slice_get l.channels place ≡ Some ch →
    l.notes ≡ [] → role ≡ l.role → channel ≡ place + 1 → IsDone (unreadable role channel unknown ch) new relink notes →
    record l { channels = set l.channels place new; relink = set_if relink l.relink; notes = notes }
    ≡ after_hearing l (unreadable_as unknown (Some c))
unreadable_taken l unknown c place ch new relink notes role channel ready e h unread same_role same_channel done =
    let as_end : unreadable role channel unknown ch ≡ unreadable l.role c unknown ch =
    ap (λ (r : Role). unreadable r channel unknown ch) same_role
    ∙ ap (λ (n : ℕ). unreadable l.role n unknown ch) (same_channel ∙ e) in
    step_taken l c place ch new relink notes (λ x. unreadable l.role c unknown x) e h unread
    (subst (λ (st : Step). IsDone st new relink notes) as_end done)
    ∙ ap (λ (p : Phase). on_channel p l c (λ x. unreadable l.role c unknown x)) (sym ready)
    ∙ heard_of_kind unknown
  where
    heard_of_kind : (b : Bool) → on_channel l.phase l c (λ x. unreadable l.role c b x) ≡ after_hearing l (unreadable_as b (Some c))
    heard_of_kind true = refl
    heard_of_kind false = refl

-- a timer of a call or a reset expires
pub expiry_taken : (l : Layer) (c place : ℕ) (ch new : Channel) (relink : Bool) (notes : List Note) (role : Role)
    (channel : ℕ) → place + 1 ≡ c → slice_get l.channels place ≡ Some ch → l.notes ≡ [] → role ≡ l.role →
    channel ≡ place + 1 → IsDone (clear_error role channel no_information true ch) new relink notes →
    record l { channels = set l.channels place new; relink = set_if relink l.relink; notes = notes }
    ≡ machine.expired l (machine.Timer.CallTimer c)
expiry_taken l c place ch new relink notes role channel e h unread same_role same_channel done =
    let as_end : clear_error role channel no_information true ch ≡ clear_error l.role c no_information true ch =
    ap (λ (r : Role). clear_error r channel no_information true ch) same_role
    ∙ ap (λ (n : ℕ). clear_error l.role n no_information true ch) (same_channel ∙ e) in
    step_taken l c place ch new relink notes (λ x. clear_error l.role c no_information true x) e h unread
    (subst (λ (st : Step). IsDone st new relink notes) as_end done)

pub front_there : (l : Layer) (c place : ℕ) (ch : Channel) → place + 1 ≡ c → slice_get l.channels place ≡ Some ch → machine.front_on l c ≡ front ch.traffic
front_there l c place ch e h = rw (channel_at l.channels c place e, h) refl

-- ---- a packet is sent in its buffer

pub sent : (l : Layer) (c place : ℕ) (ch new : Channel) (p : Kept) (result : Result Unit RefusedBuf) → place + 1 ≡ c →
    slice_get l.channels place ≡ Some ch → BufAnswers l.role l.flow ch p result new →
    record l { channels = set l.channels place new } ≡ machine.request l c (sending p)
sent l c place ch new p (Ok _) e found done = request_done l c place ch new (sending p) false e found done
sent l c place ch new p (Err given) e found done =
    request_refused l c place ch new (sending p) given.fault e found done.refused

pub sent_answer : (l : Layer) (c place : ℕ) (ch new : Channel) (p : Kept) (result : Result Unit RefusedBuf) →
    place + 1 ≡ c → slice_get l.channels place ≡ Some ch → BufAnswers l.role l.flow ch p result new →
    MatchResult result (λ _. machine.request_refusal l c (sending p) ≡ None)
    (λ given. machine.request_refusal l c (sending p) ≡ Some (refusal_of given.fault))
sent_answer l c place ch new p (Ok _) e found done = refused_at l c place ch (sending p) e found ∙ done.allowed
sent_answer l c place ch new p (Err given) e found done = refused_at l c place ch (sending p) e found ∙ done.refused.first

pub sent_back : (role : Role) (flow : Flow) (ch new : Channel) (p : Kept) (result : Result Unit RefusedBuf) →
    BufAnswers role flow ch p result new → MatchResult result (λ _. Unit {0}) (λ given. given.packet ≡ p)
sent_back role flow ch new p (Ok _) done = tt
sent_back role flow ch new p (Err given) done = done.back
