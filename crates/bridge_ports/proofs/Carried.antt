-- Octets are carried in order, each once, whatever is done at a bridge.
use Rattle.std.proofs.Common.{◌≡◌, ℕ, Bool, true, false, not, ◌&&◌, List, [], ◌∷◌, ◌++◌, refl, sym, ap, ◌∙◌, append_assoc, append-nil, cond, eqb, length, flat_map, take, min, ◌-◌, arith}
use Rattle.std.proofs.Math.Nat.{min_comm}
use Rattle.std.proofs.lemmas.Bool.{eqb-true}
use Rattle.std.proofs.lemmas.List.{take-append-drop, take_min}
use Rattle.bridge_ports.specs.declared.phases.Phases.{Phases}
use Rattle.bridge_ports.specs.Bridges.{BridgeState, fits, is_end, is_taking, listens}
use Rattle.bridge_ports.specs.Laws.{Deed, hears, says, takes, writes, turns, after_deed, after_deeds, heard_by, said_by, taken_by, written_by, all_by, OctetsInAreSaid, OctetsTakenAreWritten, IsBeginning, BridgesCarry, BlocksAreWritten}

heard_input : (is : Bool) (octets : List ℕ) (b : BridgeState)
    → (cond is (record b { input = b.input ++ octets }) b).input ≡ b.input ++ cond is octets []
heard_input true octets b = refl
heard_input false octets b = sym (append-nil b.input)

heard_output : (is : Bool) (octets : List ℕ) (b : BridgeState)
    → (cond is (record b { input = b.input ++ octets }) b).output ≡ b.output ++ []
heard_output true octets b = sym (append-nil b.output)
heard_output false octets b = sym (append-nil b.output)

taken_input : (is fit end : Bool) (p ended on : Phases) (octets : List ℕ) (b : BridgeState)
    → (cond (not is) b (cond (not fit) (record b { phases = p }) (cond end (record b { phases = ended })
    (record b { output = b.output ++ octets; phases = on })))).input ≡ b.input ++ []
taken_input true true true p ended on octets b = sym (append-nil b.input)
taken_input true true false p ended on octets b = sym (append-nil b.input)
taken_input true false end p ended on octets b = sym (append-nil b.input)
taken_input false fit end p ended on octets b = sym (append-nil b.input)

taken_output : (is fit end : Bool) (p ended on : Phases) (octets : List ℕ) (b : BridgeState) → (end ≡ true → octets ≡ [])
    → (cond (not is) b (cond (not fit) (record b { phases = p }) (cond end (record b { phases = ended })
    (record b { output = b.output ++ octets; phases = on })))).output ≡ b.output ++ cond (is && fit) octets []
taken_output true true true p ended on octets b none = sym (ap (λ xs. b.output ++ xs) (none refl) ∙ append-nil b.output)
taken_output true true false p ended on octets b none = refl
taken_output true false end p ended on octets b none = sym (append-nil b.output)
taken_output false fit end p ended on octets b none = sym (append-nil b.output)

first_holds : (a b : Bool) → (a && b) ≡ true → a ≡ true
first_holds true b is = refl
first_holds false b is = is

empty_if : (octets : List ℕ) → length octets ≡ 0 → octets ≡ []
empty_if [] none = refl
empty_if (octet ∷ octets) none = absurd (omega arith)

end_is_empty : (octets : List ℕ) (more : Bool) (p : Phases) → is_end more octets p ≡ true → octets ≡ []
end_is_empty octets more p is =
    empty_if octets (eqb-true (length octets) 0
    (first_holds (eqb (length octets) 0) (not more) (first_holds (eqb (length octets) 0 && not more) (not p.in_message) is)))

in_step : (deed : Deed) (b : BridgeState) → said_by deed b ++ (after_deed deed b).input ≡ b.input ++ heard_by deed b
in_step (hears octets) b = heard_input (listens b) octets b
in_step (says count) b = take-append-drop count b.input ∙ sym (append-nil b.input)
in_step (takes octets more) b = taken_input (is_taking b) (fits octets b) (is_end more octets b.phases) _ _ _ octets b
in_step (writes count) b = sym (append-nil b.input)
in_step (turns phases) b = sym (append-nil b.input)

out_step : (deed : Deed) (b : BridgeState)
    → written_by deed b ++ (after_deed deed b).output ≡ b.output ++ taken_by deed b
out_step (hears octets) b = heard_output (listens b) octets b
out_step (says count) b = sym (append-nil b.output)
out_step (takes octets more) b =
    taken_output (is_taking b) (fits octets b) (is_end more octets b.phases) _ _ _ octets b (end_is_empty octets more b.phases)
out_step (writes count) b = take-append-drop count b.output ∙ sym (append-nil b.output)
out_step (turns phases) b = sym (append-nil b.output)

-- one thing that is done, before others
joined : (gone later left mid first came coming : List ℕ) → later ++ left ≡ mid ++ coming → gone ++ mid ≡ first ++ came
    → (gone ++ later) ++ left ≡ first ++ (came ++ coming)
joined gone later left mid first came coming on step =
    append_assoc gone later left ∙ ap (λ xs. gone ++ xs) on ∙ sym (append_assoc gone mid coming)
    ∙ ap (λ xs. xs ++ coming) step ∙ append_assoc first came coming

pub in_are_said : OctetsInAreSaid
in_are_said [] b = sym (append-nil b.input)
in_are_said (deed ∷ deeds) b =
    joined (said_by deed b) (all_by said_by deeds (after_deed deed b)) (after_deeds deeds (after_deed deed b)).input
    (after_deed deed b).input b.input (heard_by deed b) (all_by heard_by deeds (after_deed deed b))
    (in_are_said deeds (after_deed deed b)) (in_step deed b)

pub taken_are_written : OctetsTakenAreWritten
taken_are_written [] b = sym (append-nil b.output)
taken_are_written (deed ∷ deeds) b =
    joined (written_by deed b) (all_by written_by deeds (after_deed deed b)) (after_deeds deeds (after_deed deed b)).output
    (after_deed deed b).output b.output (taken_by deed b) (all_by taken_by deeds (after_deed deed b))
    (taken_are_written deeds (after_deed deed b)) (out_step deed b)

-- octets that fill a ring that is empty
pub filled : (octets before after : List ℕ) (count : ℕ) → before ≡ [] → count ≡ min (length octets) (65536 - length before)
    → after ≡ before ++ take count octets → after ≡ take 65536 octets
filled octets before after count none is then =
    then ∙ ap (λ xs. xs ++ take count octets) none
    ∙ ap (λ n. take n octets) (is ∙ ap (λ xs. min (length octets) (65536 - length xs)) none ∙ min_comm (length octets) 65536)
    ∙ take_min 65536 octets

-- what is written is the beginning of anything of which what was taken is
written_beginning : (far : List Deed) (c : BridgeState) (sent : List ℕ) → IsBeginning (all_by taken_by far c) sent
    → IsBeginning (all_by written_by far c) (c.output ++ sent)
written_beginning far c sent (rest, is) =
    let written = all_by written_by far c in
    let left = (after_deeds far c).output in
    let taken_all = all_by taken_by far c in (
      left ++ rest,
      sym (append_assoc written left rest) ∙ ap (λ xs. xs ++ rest) (taken_are_written far c)
          ∙ append_assoc c.output taken_all rest ∙ ap (λ xs. c.output ++ xs) is,
    )

pub bridges_carry : BridgesCarry
bridges_carry near far b c (rest, is) =
    let said_all = all_by said_by near b in
    let left = (after_deeds near b).input in
    written_beginning far c (b.input ++ all_by heard_by near b)
    (rest ++ left, sym (append_assoc (all_by taken_by far c) rest left) ∙ ap (λ xs. xs ++ left) is ∙ in_are_said near b)

pub blocks_are_written : BlocksAreWritten
blocks_are_written far c blocks taken_first = written_beginning far c (flat_map (λ block. block) blocks) taken_first
