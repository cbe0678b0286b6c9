use Rattle.std.proofs.Common.{◌≡◌, ◌+◌, ◌<◌, length, arith, ap, vec_len}
use Rattle.octet_streams.proofs.WholeRead.{read_whole}
use Rattle.octet_streams.proofs.reading.read_all.Goals as goal

pub returns-in-Ok-clause-whole : goal.returns-in-Ok-clause-whole
returns-in-Ok-clause-whole g c =
    let read = rw (c.in-Ok.is, c.take.ensures.limit, ap (λ r. r.now) c.take.ensures.inner, c.new-text.ensures.items) at c.read_to_end.ensures.bytes in
    let counted : vec_len c.read_to_end.new.buf ≡ vec_len c.new-text.result + c.in-Ok.count = rw c.in-Ok.is at c.read_to_end.ensures.ok in
    let less : length c.read_to_end.new.buf.items < c.args.most + 1 = omega (arith, counted, c.read_to_end.new.buf.ok.0, c.new-text.ensures.len, c.if-count-most.true) in
    read_whole (g.R.Read.remaining c.args.input.now) _ _ read less

pub returns-in-Ok-clause-size : goal.returns-in-Ok-clause-size
returns-in-Ok-clause-size g c =
    let counted : vec_len c.read_to_end.new.buf ≡ vec_len c.new-text.result + c.in-Ok.count = rw c.in-Ok.is at c.read_to_end.ensures.ok in
    omega (arith, counted, c.read_to_end.new.buf.ok.0, c.new-text.ensures.len, c.if-count-most.true)
