-- What is owed, in another spelling of its packets.
use Rattle.std.proofs.Common.{◌≡◌, Bool, true, false, List, [], ◌∷◌, ◌++◌, refl}
use Rattle.std.specs.Prelude.{Some, map, if◌then◌else◌}
use Rattle.std.proofs.lemmas.List.{map-append, length-map}
use Rattle.packet_channel.specs.Channel.{is_full, with_owed, passes_limit}

kept_or_added : {A B : Type 0} (f : A → B) (owed : List A) (p : A) (b : Bool) →
    map f (if b then owed else owed ++ p ∷ []) ≡ (if b then map f owed else map f owed ++ f p ∷ [])
kept_or_added f owed p true = refl
kept_or_added f owed p false = map-append f owed (p ∷ [])

pub map_with_owed : {A B : Type 0} (f : A → B) (owed : List A) (p : A) →
    map f (with_owed owed (Some p)) ≡ with_owed (map f owed) (Some (f p))
map_with_owed f owed p = rw (length-map owed f) (kept_or_added f owed p (is_full owed))

pub map_passes : {A B : Type 0} (f : A → B) (owed : List A) (p : A) →
    passes_limit owed (Some p) ≡ passes_limit (map f owed) (Some (f p))
map_passes f owed p = rw (length-map owed f) refl
