use Rattle.std.proofs.Common.{append_assoc, ◌∙◌, length, length-append, arith, ap}
use Rattle.line_carriers.proofs.hello.Hello.say.Goals as goal

pub returns-clause-form : goal.returns-clause-form
returns-clause-form c =
    c.extend-6.ensures ∙ simp (
      c.extend-5.ensures,
      c.extend-4.ensures,
      c.extend-3.ensures,
      c.extend-2.ensures,
      c.extend.ensures,
      c.requires,
      append_assoc,
      c.to_be_bytes.ensures,
      c.to_be_bytes-2.ensures,
      c.role_octet.ensures,
    )

pub returns-clause-size : goal.returns-clause-size
returns-clause-size c =
    let first = simp length-append at (ap length c.extend.ensures) in
    let second = simp length-append at (ap length c.extend-2.ensures) in
    let third = simp length-append at (ap length c.extend-3.ensures) in
    let fourth = simp (length-append, c.to_be_bytes.ensures) at (ap length c.extend-4.ensures) in
    let fifth = simp length-append at (ap length c.extend-5.ensures) in
    let sixth = simp (length-append, c.to_be_bytes-2.ensures) at (ap length c.extend-6.ensures) in
    let empty = ap length c.requires in
    omega (arith, first, second, third, fourth, fifth, sixth, empty)
