-- A call's lists of packets and interrupts, cut where its epochs ended, as they grow and as they are read.
use Rattle.std.proofs.Common.{◌≡◌, ℕ, zero, suc, ◌-◌, ◌≤◌, List, [], ◌∷◌, ◌++◌, length, take, drop, refl, sym, ap, subst, ◌∙◌, arith}
use Rattle.std.specs.Prelude.{Option, Some, None, slice_get, option_map, unwrap_or}
use Rattle.std.proofs.lemmas.List.{length_push, length-drop, take_rest, take-append-le, drop-append-le, drop_all}
use Rattle.std.proofs.lemmas.Option.{same_Some}
use Rattle.epochs.specs.Item.{DataPacket}
use Rattle.epochs.specs.Counted.{counted}
use Rattle.epochs.specs.Passed.{Part, Epochs, first_epoch, with_packet, with_interrupt, with_counted, with_end}
use Rattle.epochs.specs.EpochEnds.{outset, end_of, part_between, part_since, parts_from, epochs_of, IsWithin, AreInOrder}
use Rattle.epochs.specs.declared.passed.EpochEnd.{EpochEnd}

-- ---- ends in order

begins_within : (from : EpochEnd) (ends : List EpochEnd) (p i : ℕ) → AreInOrder from ends p i → IsWithin p i from
begins_within from [] p i h = h
begins_within from (end ∷ ends) p i h =
    let rest = begins_within end ends p i h.1 in
    record {
      packets = omega (arith, h.0.packets, rest.packets);
      interrupts = omega (arith, h.0.interrupts, rest.interrupts);
    }

pub ends_within : (from : EpochEnd) (ends : List EpochEnd) (p i : ℕ) → AreInOrder from ends p i → IsWithin p i (end_of from ends)
ends_within from [] p i h = h
ends_within from (end ∷ ends) p i h = ends_within end ends p i h.1

pub in_order_at : (from : EpochEnd) (ends : List EpochEnd) (n : ℕ) (end : EpochEnd) (p i : ℕ) → AreInOrder from ends p i → slice_get ends n ≡ Some end
    → IsWithin end.packets end.interrupts (end_of from (take n ends)) × IsWithin p i end
in_order_at from [] n end p i h e = absurd (cc)
in_order_at from (x ∷ ends) zero end p i h e =
    let same : x ≡ end = same_Some x end e in
    let P : EpochEnd → Type 0 = λ y. IsWithin y.packets y.interrupts from × IsWithin p i y in
    subst P same (h.0, begins_within x ends p i h.1)
in_order_at from (x ∷ ends) (suc n) end p i h e = in_order_at x ends n end p i h.1 e

-- more has passed since
later : (from : EpochEnd) (ends : List EpochEnd) (p i q j : ℕ) → p ≤ q → i ≤ j → AreInOrder from ends p i → AreInOrder from ends q j
later from [] p i q j more_packets more_interrupts h = record {
  packets = omega (arith, more_packets, h.packets);
  interrupts = omega (arith, more_interrupts, h.interrupts);
}
later from (end ∷ ends) p i q j more_packets more_interrupts h = (h.0, later end ends p i q j more_packets more_interrupts h.1)

-- one more of them, up to which all passed
one_more : (from : EpochEnd) (ends : List EpochEnd) (here : EpochEnd) → AreInOrder from ends here.packets here.interrupts
    → AreInOrder from (ends ++ here ∷ []) here.packets here.interrupts
one_more from [] here h = (h, record { packets = omega arith; interrupts = omega arith })
one_more from (end ∷ ends) here h = (h.0, one_more end ends here h.1)

-- ---- the first epoch

abbrev epochs : List Part → Part → Epochs
epochs before last = record { before = before; last = last }

abbrev part : List DataPacket → List (List ℕ) → ℕ → Part
part ps is c = record { packets = ps; interrupts = is; counted = c }

pub first_is : (ends : List EpochEnd) (ps : List DataPacket) (is : List (List ℕ)) → ends ≡ [] → ps ≡ [] → is ≡ [] → epochs_of ends 0 ps is ≡ first_epoch
first_is ends ps is e p i =
    ap (λ (es : List EpochEnd). epochs_of es 0 ps is) e
    ∙ ap (λ (xs : List DataPacket). epochs [] (part xs is 0)) p
    ∙ ap (λ (xs : List (List ℕ)). epochs [] (part [] xs 0)) i

-- ---- a packet, an interrupt, a count

between_more : {X : Type 0} (n m : ℕ) (xs ys : List X) → n ≤ m → m ≤ length xs → take (m - n) (drop n (xs ++ ys)) ≡ take (m - n) (drop n xs)
between_more {X} n m xs ys h k =
    let fits : m - n ≤ length (drop n xs) = omega (arith, length-drop n xs, h, k) in
    ap (λ (zs : List X). take (m - n) zs) (drop-append-le n xs ys (omega (arith, h, k))) ∙ take-append-le (m - n) (drop n xs) ys fits

packets_behind : (from : EpochEnd) (ends : List EpochEnd) (ps qs : List DataPacket) (is : List (List ℕ)) → AreInOrder from ends (length ps) (length is)
    → parts_from from ends (ps ++ qs) is ≡ parts_from from ends ps is
packets_behind from [] ps qs is h = refl
packets_behind from (end ∷ ends) ps qs is h =
    let within = begins_within end ends (length ps) (length is) h.1 in
    let others = take (end.interrupts - from.interrupts) (drop from.interrupts is) in
    ap (λ (xs : List DataPacket). part xs others end.counted ∷ parts_from end ends (ps ++ qs) is)
    (between_more from.packets end.packets ps qs h.0.packets within.packets)
    ∙ ap (λ (rest : List Part). part_between from end ps is ∷ rest) (packets_behind end ends ps qs is h.1)

interrupts_behind : (from : EpochEnd) (ends : List EpochEnd) (ps : List DataPacket) (is js : List (List ℕ)) → AreInOrder from ends (length ps) (length is)
    → parts_from from ends ps (is ++ js) ≡ parts_from from ends ps is
interrupts_behind from [] ps is js h = refl
interrupts_behind from (end ∷ ends) ps is js h =
    let within = begins_within end ends (length ps) (length is) h.1 in
    let others = take (end.packets - from.packets) (drop from.packets ps) in
    ap (λ (xs : List (List ℕ)). part others xs end.counted ∷ parts_from end ends ps (is ++ js))
    (between_more from.interrupts end.interrupts is js h.0.interrupts within.interrupts)
    ∙ ap (λ (rest : List Part). part_between from end ps is ∷ rest) (interrupts_behind end ends ps is js h.1)

module _ (ends : List EpochEnd) (c : ℕ) (ps : List DataPacket) (is : List (List ℕ)) where
  -- where the last epoch began
  abbrev since : EpochEnd
  since = end_of outset ends

  pub packet_passed : (p : DataPacket) (new : List DataPacket) → AreInOrder outset ends (length ps) (length is) → new ≡ ps ++ p ∷ []
      → epochs_of ends c new is ≡ with_packet p (epochs_of ends c ps is)
  packet_passed p new h e =
      let within = ends_within outset ends (length ps) (length is) h in
      ap (λ (xs : List DataPacket). epochs_of ends c xs is) e
      ∙ ap (λ (before : List Part). epochs before (part_since since c (ps ++ p ∷ []) is)) (packets_behind outset ends ps (p ∷ []) is h)
      ∙ ap (λ (xs : List DataPacket). epochs (parts_from outset ends ps is) (part xs (drop since.interrupts is) c)) (drop-append-le since.packets ps (p ∷ []) within.packets)

  pub in_order_packet : (p : DataPacket) (new : List DataPacket) → AreInOrder outset ends (length ps) (length is) → new ≡ ps ++ p ∷ []
      → AreInOrder outset ends (length new) (length is)
  in_order_packet p new h e =
      let more : length ps ≤ length new = omega (arith, ap (λ (xs : List DataPacket). length xs) e, length_push ps p) in
      later outset ends (length ps) (length is) (length new) (length is) more (omega arith) h

  pub interrupt_passed : (i : List ℕ) (new : List (List ℕ)) → AreInOrder outset ends (length ps) (length is) → new ≡ is ++ i ∷ []
      → epochs_of ends c ps new ≡ with_interrupt i (epochs_of ends c ps is)
  interrupt_passed i new h e =
      let within = ends_within outset ends (length ps) (length is) h in
      ap (λ (xs : List (List ℕ)). epochs_of ends c ps xs) e
      ∙ ap (λ (before : List Part). epochs before (part_since since c ps (is ++ i ∷ []))) (interrupts_behind outset ends ps is (i ∷ []) h)
      ∙ ap (λ (xs : List (List ℕ)). epochs (parts_from outset ends ps is) (part (drop since.packets ps) xs c)) (drop-append-le since.interrupts is (i ∷ []) within.interrupts)

  pub in_order_interrupt : (i : List ℕ) (new : List (List ℕ)) → AreInOrder outset ends (length ps) (length is) → new ≡ is ++ i ∷ []
      → AreInOrder outset ends (length ps) (length new)
  in_order_interrupt i new h e =
      let more : length is ≤ length new = omega (arith, ap (λ (xs : List (List ℕ)). length xs) e, length_push is i) in
      later outset ends (length ps) (length is) (length ps) (length new) (omega arith) more h

  pub more_counted : (n new : ℕ) → new ≡ counted (length ps - since.packets) c n → epochs_of ends new ps is ≡ with_counted n (epochs_of ends c ps is)
  more_counted n new e =
      ap (λ (k : ℕ). epochs_of ends k ps is) (e ∙ ap (λ (all : ℕ). counted all c n) (sym (length-drop since.packets ps)))

-- ---- an epoch ends

parts_end : (from : EpochEnd) (ends : List EpochEnd) (here : EpochEnd) (ps : List DataPacket) (is : List (List ℕ))
    → parts_from from (ends ++ here ∷ []) ps is ≡ parts_from from ends ps is ++ part_between (end_of from ends) here ps is ∷ []
parts_end from [] here ps is = refl
parts_end from (end ∷ ends) here ps is = ap (λ (rest : List Part). part_between from end ps is ∷ rest) (parts_end end ends here ps is)

end_of_end : (from : EpochEnd) (ends : List EpochEnd) (here : EpochEnd) → end_of from (ends ++ here ∷ []) ≡ here
end_of_end from [] here = refl
end_of_end from (end ∷ ends) here = end_of_end end ends here

-- where so much passed by now
abbrev pub now_at : ℕ → List DataPacket → List (List ℕ) → EpochEnd
now_at c ps is = record { packets = length ps; interrupts = length is; counted = c }

-- all that passed since lies behind
pub up_to_now : (from : EpochEnd) (c : ℕ) (ps : List DataPacket) (is : List (List ℕ)) → part_between from (now_at c ps is) ps is ≡ part_since from c ps is
up_to_now from c ps is =
    ap (λ (xs : List DataPacket). part xs (take (length is - from.interrupts) (drop from.interrupts is)) c) (take_rest ps from.packets)
    ∙ ap (λ (xs : List (List ℕ)). part (drop from.packets ps) xs c) (take_rest is from.interrupts)

nothing_since : (c : ℕ) (ps : List DataPacket) (is : List (List ℕ)) → part_since (now_at c ps is) 0 ps is ≡ part [] [] 0
nothing_since c ps is =
    ap (λ (xs : List DataPacket). part xs (drop (length is) is) 0) (drop_all (length ps) ps (omega arith))
    ∙ ap (λ (xs : List (List ℕ)). part [] xs 0) (drop_all (length is) is (omega arith))

pub epoch_ended : (ends : List EpochEnd) (c : ℕ) (ps : List DataPacket) (is : List (List ℕ)) (here : EpochEnd) (new : List EpochEnd)
    → here ≡ now_at c ps is → new ≡ ends ++ here ∷ [] → epochs_of new 0 ps is ≡ with_end (epochs_of ends c ps is)
epoch_ended ends c ps is here new h e =
    let now = now_at c ps is in
    let before = parts_from outset ends ps is in
    let from = end_of outset ends in
    ap (λ (es : List EpochEnd). epochs_of es 0 ps is) (e ∙ ap (λ (x : EpochEnd). ends ++ x ∷ []) h)
    ∙ ap (λ (parts : List Part). epochs parts (part_since (end_of outset (ends ++ now ∷ [])) 0 ps is)) (parts_end outset ends now ps is)
    ∙ ap (λ (x : Part). epochs (before ++ x ∷ []) (part_since (end_of outset (ends ++ now ∷ [])) 0 ps is)) (up_to_now from c ps is)
    ∙ ap (λ (x : EpochEnd). epochs (before ++ part_since from c ps is ∷ []) (part_since x 0 ps is)) (end_of_end outset ends now)
    ∙ ap (λ (x : Part). epochs (before ++ part_since from c ps is ∷ []) x) (nothing_since c ps is)

pub in_order_end : (ends : List EpochEnd) (c : ℕ) (ps : List DataPacket) (is : List (List ℕ)) (here : EpochEnd) (new : List EpochEnd)
    → here ≡ now_at c ps is → new ≡ ends ++ here ∷ [] → AreInOrder outset ends (length ps) (length is) → AreInOrder outset new (length ps) (length is)
in_order_end ends c ps is here new h e order =
    let P : List EpochEnd → Type 0 = λ es. AreInOrder outset es (length ps) (length is) in
    subst P (sym (e ∙ ap (λ (x : EpochEnd). ends ++ x ∷ []) h)) (one_more outset ends (now_at c ps is) order)

-- ---- epochs that are read

pub parts_length : (from : EpochEnd) (ends : List EpochEnd) (ps : List DataPacket) (is : List (List ℕ)) → length (parts_from from ends ps is) ≡ length ends
parts_length from [] ps is = refl
parts_length from (end ∷ ends) ps is = ap suc (parts_length end ends ps is)

nth_part : (from : EpochEnd) (ends : List EpochEnd) (n : ℕ) (ps : List DataPacket) (is : List (List ℕ))
    → slice_get (parts_from from ends ps is) n ≡ option_map (λ (end : EpochEnd). part_between (end_of from (take n ends)) end ps is) (slice_get ends n)
nth_part from [] n ps is = refl
nth_part from (end ∷ ends) zero ps is = refl
nth_part from (end ∷ ends) (suc n) ps is = nth_part end ends n ps is

pub part_there : (ends : List EpochEnd) (n : ℕ) (end : EpochEnd) (ps : List DataPacket) (is : List (List ℕ)) → slice_get ends n ≡ Some end
    → Some (part_between (end_of outset (take n ends)) end ps is) ≡ slice_get (parts_from outset ends ps is) n
part_there ends n end ps is there =
    sym (nth_part outset ends n ps is
    ∙ ap (λ (o : Option EpochEnd). option_map (λ (x : EpochEnd). part_between (end_of outset (take n ends)) x ps is) o) there)

pub no_part_there : (ends : List EpochEnd) (n : ℕ) (ps : List DataPacket) (is : List (List ℕ)) → slice_get ends n ≡ None
    → None ≡ slice_get (parts_from outset ends ps is) n
no_part_there ends n ps is beyond =
    sym (nth_part outset ends n ps is
    ∙ ap (λ (o : Option EpochEnd). option_map (λ (x : EpochEnd). part_between (end_of outset (take n ends)) x ps is) o) beyond)

last_behind : (d x : EpochEnd) (ends : List EpochEnd) → unwrap_or (slice_get (x ∷ ends) (length ends)) d ≡ end_of x ends
last_behind d x [] = refl
last_behind d x (y ∷ ends) = last_behind d y ends

pub last_is : (from : EpochEnd) (ends : List EpochEnd) → unwrap_or (slice_get ends (length ends - 1)) from ≡ end_of from ends
last_is from [] = refl
last_is from (x ∷ ends) =
    let less : length (x ∷ ends) - 1 ≡ length ends = omega arith in
    ap (λ (k : ℕ). unwrap_or (slice_get (x ∷ ends) k) from) less ∙ last_behind from x ends
