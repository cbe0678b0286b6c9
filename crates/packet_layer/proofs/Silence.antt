-- Channels that have nothing for the link, and those that may have something.
use Rattle.std.proofs.Common.{◌≡◌, ℕ, zero, suc, ◌+◌, Bool, true, false, List, [], ◌∷◌, ◌||◌, ◌&&◌, ◌==◌, ◌⊎◌, inl, inr}
use Rattle.std.proofs.Common.{not, set, map, refl, sym, ap, subst, ◌∙◌, arith}
use Rattle.std.specs.Prelude.{Option, Some, None, is_some, slice_get, replicate, if◌then◌else◌}
use Rattle.std.specs.Vec.{with_item}
use Rattle.std.proofs.lemmas.List.{length-set}
use Rattle.std.proofs.lemmas.Bool.{eq-eqb, ne_eqb, cases_eq}
use Rattle.number_set.specs.NumberSet.{has}
use Rattle.number_set.specs.declared.NumberSet.{NumberSet}
use Rattle.data_transfer.specs.Packets.{Note}
use Rattle.packet_channel.specs.Channel.{Channel, Step, closed_channel, entered, next_of}
use Rattle.packet_channel.specs.Done.{IsDone}
use Rattle.packet_channel.specs.Channel.ChannelState.{Transfer}
use Rattle.packet_channel.specs.Held.{Channel as Holder, Fits}
use Rattle.data_transfer.specs.declared.flow.Flow.{Flow}
use Rattle.packet_layer.specs.Held.{plain, AllFit}
use Rattle.packet_layer.specs.Layer.{Layer, Next, channel_of, serve, standing_channels}
use Rattle.packet_layer.specs.Silence.{OthersAreSilent}
use Rattle.packet_layer.specs.LayerView.{IsLayer}
use Rattle.packet_layer.specs.declared.layer.Layer.TheInside.{Inside}
use Rattle.packet_layer.proofs.Places.{channel_at, set_same}
use Rattle.packet_layer.proofs.Placed.{plain_at, plain_set, fits_after}
use Rattle.packet_layer.proofs.Serving.{silent_at}

-- what a write of one place leaves at the others, and puts there
other_item : {X : Type 0} (xs : List X) (i j : ℕ) (x : X) → (i ≡ j → ⊥) → slice_get (set xs j x) i ≡ slice_get xs i
other_item [] i j x apart = refl
other_item (y ∷ ys) zero zero x apart = absurd (apart refl)
other_item (y ∷ ys) zero (suc j) x apart = refl
other_item (y ∷ ys) (suc i) zero x apart = refl
other_item (y ∷ ys) (suc i) (suc j) x apart = other_item ys i j x (λ e. apart (ap (λ (n : ℕ). suc n) e))

-- a number that is not in the set was not there before, and is not the one that was put in
put_in : (a b : Bool) → (a || b) ≡ false → (a ≡ false) × (b ≡ false)
put_in true b h = absurd (cc)
put_in false b h = (refl, h)

differs : (p place : ℕ) → (p == place) ≡ false → p ≡ place → ⊥
differs p place other e = absurd (let same : (p == place) ≡ true = eq-eqb p place e in cc)

-- a channel that is put into the set may have anything from then on
pub touched : (flow : Flow) (old new : NumberSet) (chs : List Channel) (place : ℕ) (ch : Channel) →
    OthersAreSilent flow old chs → ((n : ℕ) → has new n ≡ (has old n || n == place)) →
    OthersAreSilent flow new (set chs place ch)
touched flow old new chs place ch others is = record {
  silent = λ p x there out.
      let parts = put_in (has old p) (p == place) (sym (is p) ∙ out) in
      others.silent p x (sym (other_item chs p place ch (differs p place parts.1)) ∙ there) parts.0;
}

-- of a whole layer
pub layer_touched : (a : Inside) (new : NumberSet) (place : ℕ) (old ch : Holder) (relink : Bool) → IsLayer a →
    ((n : ℕ) → has new n ≡ (has a.to_serve n || n == place)) → slice_get a.channels.items place ≡ Some old →
    (Fits a.flow old → Fits a.flow ch) →
    IsLayer (record a { channels = with_item a.channels place ch; to_serve = new; relink = relink })
layer_touched a new place old ch relink is puts_in there fits = record {
  flow = is.flow;
  channels = omega (arith, is.channels, length-set a.channels.items place ch);
  others = subst (OthersAreSilent a.flow new) (sym (plain_set a.channels.items place ch))
      (touched a.flow a.to_serve new (plain a.channels.items) place ch.channel is.others puts_in);
  notes = is.notes;
  fits = fits_after a.flow a.channels.items place old ch is.fits there fits;
}

-- also where the step of its channel notes something
pub layer_stepped : (a : Inside) (new : NumberSet) (place : ℕ) (old ch : Holder) (st : Step) (relink : Bool)
    (notes : List Note) → IsLayer a → ((n : ℕ) → has new n ≡ (has a.to_serve n || n == place)) →
    slice_get a.channels.items place ≡ Some old → (Fits a.flow old → Fits a.flow ch) →
    IsDone st ch.channel relink notes →
    IsLayer (record a { channels = with_item a.channels place ch; to_serve = new; notes = notes })
layer_stepped a new place old ch st relink notes is puts_in there fits done =
    let touched = layer_touched a new place old ch a.relink is puts_in there fits in
    record {
      flow = touched.flow;
      channels = touched.channels;
      others = touched.others;
      notes = let few = done.few in omega (arith, few);
      fits = touched.fits;
    }

pub taken_out : (a b : Bool) → (a && not b) ≡ false → (b ≡ true) ⊎ (a ≡ false)
taken_out a true h = inl refl
taken_out true false h = absurd (cc)
taken_out false false h = inr refl

pub equal : (p place : ℕ) → (p == place) ≡ true → p ≡ place
equal p place same = go (cases_eq p place)
  where
    go : (p ≡ place) ⊎ (p ≡ place → ⊥) → p ≡ place
    go (inl e) = e
    go (inr apart) = absurd (let other = ne_eqb p place apart in cc)

-- one that has nothing can be taken out
pub quieted : (flow : Flow) (old new : NumberSet) (chs : List Channel) (place : ℕ) (ch : Channel) →
    OthersAreSilent flow old chs → ((n : ℕ) → has new n ≡ (has old n && not (n == place))) →
    slice_get chs place ≡ Some ch → is_some (next_of flow ch).body ≡ false → OthersAreSilent flow new chs
quieted flow old new chs place ch others is found silent = record {
  silent = λ p x there out. by_place p x there (taken_out (has old p) (p == place) (sym (is p) ∙ out));
}
  where
    by_place : (p : ℕ) (x : Channel) → slice_get chs p ≡ Some x → ((p == place) ≡ true) ⊎ (has old p ≡ false) →
        is_some (next_of flow x).body ≡ false
    by_place p x there (inl here) =
        let found_there : slice_get chs p ≡ Some ch = ap (λ (n : ℕ). slice_get chs n) (equal p place here) ∙ found in
        let same : ch ≡ x = cc in
        subst (λ (y : Channel). is_some (next_of flow y).body ≡ false) same silent
    by_place p x there (inr out) = others.silent p x there out

pub layer_quieted : (a : Inside) (rest : NumberSet) (place : ℕ) (ch new : Holder) → IsLayer a →
    ((n : ℕ) → has rest n ≡ (has a.to_serve n && not (n == place))) → slice_get a.channels.items place ≡ Some ch →
    is_some (next_of a.flow ch.channel).body ≡ false → new ≡ ch →
    IsLayer (record a { channels = with_item a.channels place new; to_serve = rest })
layer_quieted a rest place ch new is takes_out found silent same =
    let as_before = sym (set_same a.channels.items place ch found)
    ∙ ap (λ (x : Holder). set a.channels.items place x) (sym same) in
    record {
      flow = is.flow;
      channels = omega (arith, is.channels, length-set a.channels.items place new);
      others = subst (λ (cs : List Holder). OthersAreSilent a.flow rest (plain cs)) as_before
          (quieted a.flow a.to_serve rest (plain a.channels.items) place ch.channel is.others takes_out
          (plain_at a.channels.items place ch found) silent);
      notes = is.notes;
      fits = subst (AllFit a.flow) as_before is.fits;
    }

-- one that is in the set exactly if it has something
kept_there : {X : Type 0} (xs : List X) (i : ℕ) (old x : X) → slice_get xs i ≡ Some old → slice_get (set xs i x) i ≡ Some x
kept_there [] i old x h = absurd (cc)
kept_there (y ∷ ys) zero old x h = refl
kept_there (y ∷ ys) (suc i) old x h = kept_there ys i old x h

chosen : (b x y : Bool) → b ≡ true → (if b then x else y) ≡ x
chosen true x y h = refl
chosen false x y h = absurd (cc)

other_chosen : (b x y : Bool) → b ≡ false → (if b then x else y) ≡ y
other_chosen true x y h = absurd (cc)
other_chosen false x y h = refl

pub asked : (flow : Flow) (old new : NumberSet) (chs : List Channel) (place : ℕ) (before ch : Channel) (kept : Bool) →
    OthersAreSilent flow old chs → ((n : ℕ) → has new n ≡ (if n == place then kept else has old n)) →
    slice_get chs place ≡ Some before → kept ≡ is_some (next_of flow ch).body → OthersAreSilent flow new (set chs place ch)
asked flow old new chs place before ch kept others is found says = record {
  silent = λ p x there out. by_place p x there out (cases_eq p place);
}
  where
    by_place : (p : ℕ) (x : Channel) → slice_get (set chs place ch) p ≡ Some x → has new p ≡ false →
        (p ≡ place) ⊎ (p ≡ place → ⊥) → is_some (next_of flow x).body ≡ false
    by_place p x there out (inl e) =
        let here : slice_get (set chs place ch) p ≡ Some ch =
        ap (λ (n : ℕ). slice_get (set chs place ch) n) e ∙ kept_there chs place before ch found in
        let same : ch ≡ x = cc in
        let taken : kept ≡ false = sym (chosen (p == place) kept (has old p) (eq-eqb p place e)) ∙ sym (is p) ∙ out in
        subst (λ (y : Channel). is_some (next_of flow y).body ≡ false) same (sym says ∙ taken)
    by_place p x there out (inr apart) =
        others.silent p x (sym (other_item chs p place ch apart) ∙ there)
        (sym (other_chosen (p == place) kept (has old p) (ne_eqb p place apart)) ∙ sym (is p) ∙ out)

-- of a whole layer
pub layer_asked : (a : Inside) (new : NumberSet) (place : ℕ) (old ch : Holder) (kept : Bool) (served : ℕ) → IsLayer a →
    ((n : ℕ) → has new n ≡ (if n == place then kept else has a.to_serve n)) →
    slice_get a.channels.items place ≡ Some old → kept ≡ is_some (next_of a.flow ch.channel).body →
    (Fits a.flow old → Fits a.flow ch) →
    IsLayer (record a { channels = with_item a.channels place ch; to_serve = new; served_last = served })
layer_asked a new place old ch kept served is keeps there says fits = record {
  flow = is.flow;
  channels = omega (arith, is.channels, length-set a.channels.items place ch);
  others = subst (OthersAreSilent a.flow new) (sym (plain_set a.channels.items place ch))
      (asked a.flow a.to_serve new (plain a.channels.items) place old.channel ch.channel kept is.others keeps
      (plain_at a.channels.items place old there) says);
  notes = is.notes;
  fits = fits_after a.flow a.channels.items place old ch is.fits there fits;
}

-- also where the step of its channel notes something
pub layer_heard : (a : Inside) (new : NumberSet) (place : ℕ) (old ch : Holder) (st : Step) (relink kept : Bool)
    (notes : List Note) → IsLayer a → ((n : ℕ) → has new n ≡ (if n == place then kept else has a.to_serve n)) →
    slice_get a.channels.items place ≡ Some old → kept ≡ is_some (next_of a.flow ch.channel).body →
    (Fits a.flow old → Fits a.flow ch) → IsDone st ch.channel relink notes →
    IsLayer (record a { channels = with_item a.channels place ch; to_serve = new; notes = notes })
layer_heard a new place old ch st relink kept notes is keeps there says fits done =
    let after = layer_asked a new place old ch kept a.served_last is keeps there says fits in
    record {
      flow = after.flow;
      channels = after.channels;
      others = after.others;
      notes = let few = done.few in omega (arith, few);
      fits = after.fits;
    }

-- closed channels have nothing
each_closed : (chs : List Channel) (p : ℕ) (x : Channel) →
    slice_get (map (λ ch. closed_channel) chs) p ≡ Some x → closed_channel ≡ x
each_closed [] p x h = absurd (cc)
each_closed (ch ∷ chs) zero x h = cc
each_closed (ch ∷ chs) (suc p) x h = each_closed chs p x h

pub closed_are_silent : (flow : Flow) (s : NumberSet) (chs : List Channel) →
    OthersAreSilent flow s (map (λ ch. closed_channel) chs)
closed_are_silent flow s chs = record {
  silent = λ p x there out.
      subst (λ (y : Channel). is_some (next_of flow y).body ≡ false) (each_closed chs p x there) refl;
}

replicated_closed : (n p : ℕ) (x : Channel) → slice_get (replicate n closed_channel) p ≡ Some x → closed_channel ≡ x
replicated_closed zero p x h = absurd (cc)
replicated_closed (suc n) zero x h = cc
replicated_closed (suc n) (suc p) x h = replicated_closed n p x h

-- so have the channels of a layer as it is made
pub made_silent : (flow : Flow) (s : NumberSet) (standing : Bool) (n : ℕ) →
    OthersAreSilent flow s (standing_channels standing (replicate n closed_channel))
made_silent flow s standing n = record { silent = λ p x there out. at_place standing n p x there }
  where
    at_place : (standing : Bool) (n p : ℕ) (x : Channel) →
        slice_get (standing_channels standing (replicate n closed_channel)) p ≡ Some x →
        is_some (next_of flow x).body ≡ false
    at_place true zero p x h = absurd (cc)
    at_place true (suc n) zero x h =
        let e : entered Transfer closed_channel ≡ x = cc in
        subst (λ (y : Channel). is_some (next_of flow y).body ≡ false) e refl
    at_place true (suc n) (suc p) x h =
        subst (λ (y : Channel). is_some (next_of flow y).body ≡ false) (replicated_closed n p x h) refl
    at_place false n p x h =
        subst (λ (y : Channel). is_some (next_of flow y).body ≡ false) (replicated_closed n p x h) refl

-- a channel that is not in the set has nothing
nowhere : (l : Layer) (c : ℕ) → channel_of l c ≡ None → is_some (serve 1 l c).packet ≡ false
nowhere l c e = rw e refl

pub silent_there : (l : Layer) (s : NumberSet) (p : ℕ) → OthersAreSilent l.flow s l.channels → has s p ≡ false →
    is_some (serve 1 l (p + 1)).packet ≡ false
silent_there l s p others out = go (slice_get l.channels p) refl
  where
    go : (o : Option Channel) → slice_get l.channels p ≡ o → is_some (serve 1 l (p + 1)).packet ≡ false
    go None e = nowhere l (p + 1) (channel_at l.channels (p + 1) p refl ∙ e)
    go (Some ch) e = ap (λ (n : Next). is_some n.packet)
        (silent_at l (p + 1) p ch refl e (others.silent p ch e out))
