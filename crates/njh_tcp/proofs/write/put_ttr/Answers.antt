use Rattle.std.proofs.Common.{◌+◌, [], ◌∷◌, length, arith}
use Rattle.njh_tcp.proofs.WrittenLaws.{framed_put, length_framed}
use Rattle.njh_tcp.proofs.write.put_ttr.Goals as goal

pub returns-clause-ok : goal.returns-clause-ok
returns-clause-ok c =
    let text = c.args.text.now in
    rw (
      c.put_bytes-4.ensures.items,
      c.put_bytes-3.ensures.items,
      c.put_bytes-2.ensures.items,
      c.put_head-2.ensures.items,
      c.put_bytes.ensures.items,
      c.put_head.ensures.items,
      c.in_ok-reserve.ensures.items,
    )
    (framed_put c.args.out.now.items (c.args.first ∷ c.args.second ∷ []) text (16 + (2 + length text)) (2 + length text)
    (omega arith) (omega arith))

pub returns-in_err-reserve-clause-in_place : goal.returns-in_err-reserve-clause-in_place
returns-in_err-reserve-clause-in_place c = λ room.
    absurd (omega (
      arith,
      room,
      length_framed (c.args.first ∷ c.args.second ∷ c.args.text.now),
      c.in_err-reserve.ensures.full,
    ))
