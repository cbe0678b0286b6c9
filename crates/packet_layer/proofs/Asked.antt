-- What a request of the call on the channel at a place comes to.
use Rattle.std.proofs.Common.{◌≡◌, ℕ, ◌+◌, ◌*◌, ◌<◌, Bool, length, set, get_or, Some, None, refl, sym, ap, subst, ◌∙◌}
use Rattle.std.proofs.lemmas.List.{length-set}
use Rattle.std.specs.Prelude.{slice_get, List, Result, Ok, Err, MatchResult, OnErr}
use Rattle.std.specs.Result.{IsErrAnd}
use Rattle.packet_channel.specs.Answers.{Answers, CarriedOut, Refused, WhenSending}
use Rattle.packet_channel.specs.Channel.{Request}
use Rattle.packet_channel.specs.Held.{Channel as Holder}
use Rattle.packet_channel.specs.RequestView.{refusal_of}
use Rattle.packet_channel.specs.declared.fault.ChannelFault.{ChannelFault}
use Rattle.packet_layer.specs.declared.layer.Layer.TheInside.{Inside}
use Rattle.packet_layer.specs.Held.{Layer as Held, plain, buffers, most_held}
use Rattle.packet_layer.specs.Answered.{IsPassedOn}
use Rattle.packet_layer.specs.Layer as machine
use Rattle.packet_layer.specs.Layer.{Layer, set_if}
use Rattle.packet_layer.specs.LayerView.{holding, layer_of}
use Rattle.packet_layer.proofs.Placed.{placed, plain_at, plain_set, plain_length, buffers_same}
use Rattle.packet_layer.proofs.Places.{request_done, request_refused, refused_at, set_same}

-- the channel of this number is at this place
pub record IsAt (a : Inside) (x : Held) (c place : ℕ) (old : Holder) : Type 0 where
  pub view : holding a ≡ x
  pub number : place + 1 ≡ c
  pub there : slice_get a.channels.items place ≡ Some old

pub is_at : (a : Inside) (x : Held) (c place : ℕ) (old : Holder) → holding a ≡ x → place + 1 ≡ c →
    place < length x.layer.channels → old ≡ get_or a.channels.items place old → IsAt a x c place old
is_at a x c place old view number within e =
    record { view = view; number = number; there = placed a x place old view within e }

-- the layer with another channel at this place
abbrev changed : Inside → ℕ → Holder → Layer
changed a place new = record (layer_of a) { channels = plain (set a.channels.items place new) }

pub done : (a : Inside) (x : Held) (c place : ℕ) (old new : Holder) (r : Request) (relink : Bool) →
    IsAt a x c place old → CarriedOut a.role a.flow old.channel r relink new.channel →
    record (changed a place new) { relink = set_if relink a.relink } ≡ machine.request x.layer c r
done a x c place old new r relink at is =
    ap (λ chs. record (layer_of a) { channels = chs; relink = set_if relink a.relink })
    (plain_set a.channels.items place new)
    ∙ request_done (layer_of a) c place old.channel new.channel r relink at.number
    (plain_at a.channels.items place old at.there) is
    ∙ ap (λ (x : Held). machine.request x.layer c r) at.view

pub allowed : (a : Inside) (x : Held) (c place : ℕ) (old new : Holder) (r : Request) (relink : Bool) →
    IsAt a x c place old → CarriedOut a.role a.flow old.channel r relink new.channel →
    machine.request_refusal x.layer c r ≡ None
allowed a x c place old new r relink at is =
    ap (λ (x : Held). machine.request_refusal x.layer c r) (sym at.view)
    ∙ refused_at (layer_of a) c place old.channel r at.number (plain_at a.channels.items place old at.there)
    ∙ is.allowed

pub refused : (a : Inside) (x : Held) (c place : ℕ) (old new : Holder) (r : Request) (fault : ChannelFault) →
    IsAt a x c place old → Refused a.role a.flow old.channel r fault new.channel →
    changed a place new ≡ machine.request x.layer c r
refused a x c place old new r fault at is =
    ap (λ chs. record (layer_of a) { channels = chs }) (plain_set a.channels.items place new)
    ∙ request_refused (layer_of a) c place old.channel new.channel r fault at.number
    (plain_at a.channels.items place old at.there) is
    ∙ ap (λ (x : Held). machine.request x.layer c r) at.view

pub told : (a : Inside) (x : Held) (c place : ℕ) (old new : Holder) (r : Request) (fault : ChannelFault)
    (result : Result Unit ChannelFault) → IsErrAnd result (λ e. e ≡ fault) → IsAt a x c place old →
    Refused a.role a.flow old.channel r fault new.channel →
    MatchResult result (λ _. machine.request_refusal x.layer c r ≡ None)
    (λ fault. machine.request_refusal x.layer c r ≡ Some (refusal_of fault))
told a x c place old new r fault (Ok _) same at is = absurd same
told a x c place old new r fault (Err e) same at is =
    ap (λ (x : Held). machine.request_refusal x.layer c r) (sym at.view)
    ∙ refused_at (layer_of a) c place old.channel r at.number (plain_at a.channels.items place old at.there)
    ∙ is.first ∙ ap (λ f. Some (refusal_of f)) (sym same)

-- where the channel is as it was, so is the layer
pub same_layer : (a : Inside) (x : Held) (c place : ℕ) (old new : Holder) → IsAt a x c place old → new ≡ old →
    record { layer = changed a place new; held = buffers (set a.channels.items place new) } ≡ x
same_layer a x c place old new at same =
    ap (λ (chs : List Holder). record {
      layer = record (layer_of a) { channels = plain chs };
      held = buffers chs;
    })
    (ap (λ (ch : Holder). set a.channels.items place ch) same ∙ set_same a.channels.items place old at.there)
    ∙ at.view

-- what holds at an error holds of what tells it on
pub on_err : {T E : Type 0} {P : Type 0} (result : Result T E) → P → OnErr result P
on_err (Ok x) p = tt
on_err (Err e) p = p

-- a request that touches no packet
pub same_held : (a : Inside) (x : Held) (c place : ℕ) (old new : Holder) → IsAt a x c place old →
    new.held ≡ old.held → buffers (set a.channels.items place new) ≡ x.held
same_held a x c place old new at same =
    buffers_same a.channels.items place old new at.there same ∙ ap (λ (x : Held). x.held) at.view

-- all that is told of it
pub record IsAsked (x new : Held) (c : ℕ) (r : Request) (result : Result Unit ChannelFault) : Type 0 where
  pub answer : MatchResult result (λ _. machine.request_refusal x.layer c r ≡ None)
      (λ fault. machine.request_refusal x.layer c r ≡ Some (refusal_of fault))
  pub layer : new.layer ≡ machine.request x.layer c r
  pub held : new.held ≡ x.held
  pub most : most_held new.layer ≡ most_held x.layer
  pub kept : OnErr result (new ≡ x)

most_as_before : (a : Inside) (x : Held) (place : ℕ) (new : Holder) → holding a ≡ x →
    length (plain (set a.channels.items place new)) * (a.flow.window + 8) ≡ most_held x.layer
most_as_before a x place new view =
    ap (λ (n : ℕ). n * (a.flow.window + 8))
    (plain_length (set a.channels.items place new) ∙ length-set a.channels.items place new ∙ sym (plain_length a.channels.items))
    ∙ ap (λ (x : Held). most_held x.layer) view

pub asked : (a : Inside) (x : Held) (c place : ℕ) (old new : Holder) (r : Request) (answer : Result Bool ChannelFault)
    (after : Held) (result : Result Unit ChannelFault) → IsAt a x c place old →
    Answers a.role a.flow old.channel r answer new.channel → new.held ≡ old.held → OnErr answer (new ≡ old) →
    IsPassedOn (record { layer = changed a place new; held = buffers (set a.channels.items place new) }) answer after result →
    IsAsked x after c r result
asked a x c place old new r (Ok relink) after result at is same kept passed =
    subst (λ (result : Result Unit ChannelFault). IsAsked x after c r result) (sym passed.0)
    (record {
      answer = allowed a x c place old new r relink at is;
      layer = ap (λ (x : Held). x.layer) passed.1 ∙ done a x c place old new r relink at is;
      held = ap (λ (x : Held). x.held) passed.1 ∙ same_held a x c place old new at same;
      most = ap (λ (x : Held). most_held x.layer) passed.1 ∙ most_as_before a x place new at.view;
      kept = tt;
    })
asked a x c place old new r (Err fault) after result at is same kept passed =
    subst (λ (result : Result Unit ChannelFault). IsAsked x after c r result) (sym passed.0)
    (record {
      answer = told a x c place old new r fault (Err fault) refl at is;
      layer = ap (λ (x : Held). x.layer) passed.1 ∙ refused a x c place old new r fault at is;
      held = ap (λ (x : Held). x.held) passed.1 ∙ same_held a x c place old new at same;
      most = ap (λ (x : Held). most_held x.layer) passed.1 ∙ most_as_before a x place new at.view;
      kept = passed.1 ∙ same_layer a x c place old new at kept;
    })

-- ---- what a packet that is to go asks of the pool

pub when_sending : {P Q : Type 0} (r : Request) → (P → Q) → WhenSending r P → WhenSending r Q
when_sending Request.Accept f p = p
when_sending (Request.Clearing cause diagnostic) f p = p
when_sending (Request.Resetting cause diagnostic) f p = p
when_sending (Request.Sending d) f p = f p
when_sending (Request.Interrupting octets) f p = p
when_sending (Request.Stopping stopped) f p = p
when_sending Request.Taking f p = p
when_sending (Request.Releasing count) f p = p
when_sending Request.Confirming f p = p

pub if_sending : {P : Type 0} (r : Request) → P → WhenSending r P
if_sending Request.Accept p = tt
if_sending (Request.Clearing cause diagnostic) p = tt
if_sending (Request.Resetting cause diagnostic) p = tt
if_sending (Request.Sending d) p = p
if_sending (Request.Interrupting octets) p = tt
if_sending (Request.Stopping stopped) p = tt
if_sending Request.Taking p = tt
if_sending (Request.Releasing count) p = tt
if_sending Request.Confirming p = tt
