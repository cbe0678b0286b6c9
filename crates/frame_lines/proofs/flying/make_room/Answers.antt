use Rattle.std.proofs.Common.{◌≡◌, ◌+◌, ◌-◌, ◌≤◌, drop, take, length, ap, ◌∙◌, sym, arith, length-drop}
use Rattle.std.proofs.lemmas.List.{drop-take, take-append-le}
use Rattle.frame_lines.proofs.flying.make_room.Goals as goal

pub returns-clause-frames : goal.returns-clause-frames
returns-clause-frames c =
    let places = c.args.places.now in
    let taken = c.args.taken.now in
    let count = c.args.end.now - taken in
    let long = length-drop taken places in
    let within : count ≤ length (drop taken places) = omega (arith, long, c.requires.places, c.requires.end) in
    let all : taken + count ≡ c.args.end.now = omega (arith, c.requires.taken) in
    ap (take count) c.rotate_left.ensures.after
    ∙ take-append-le count (drop taken places) (take taken places) within
    ∙ sym (drop-take taken count places)
    ∙ ap (λ n. drop taken (take n places)) all
