use Rattle.std.proofs.Common.{◌≡◌, ◌+◌, ◌-◌, ◌∙◌, ◌<◌, ◌≤◌, List, length, take, ap, arith, length-append, ℕ}
use Rattle.std.proofs.lemmas.List.{length-take-le}
use Rattle.std.specs.Prelude.{IsTrue}
use Rattle.njh_tcp.specs.code.Room.{has_room_at}
use Rattle.njh_tcp.specs.Limits.{ttr_head}
use Rattle.njh_tcp.specs.Reading.{Rest, Open, InTtrHead}
use Rattle.njh_tcp.specs.code.Scanner.{heard_rest, hearing_on}
use Rattle.njh_tcp.specs.declared.place.Place.TheVariants.{Ttr}
use Rattle.njh_tcp.proofs.RunLaws.{takes-data, takes-heard, head_is_empty, held_is_less}
use Rattle.njh_tcp.proofs.scanner.Scanner.take_data.Goals as goal

pub returns-then-len-size-clause-goes_on : goal.returns-then-len-size-clause-goes_on
returns-then-len-size-clause-goes_on c =
    let scanner = c.args.self.now in
    let count = c.min-count.result in
    let within : count ≤ length c.args.bytes.now = omega arith in
    let room : length scanner.held.items + count < c.args.size =
    omega (
      arith,
      length-take-le count c.args.bytes.now within,
      length-append scanner.held.items
          (take count c.args.bytes.now),
      ap (length {A = ℕ}) c.append.ensures.items,
    ) in
    rw (c.requires.place, c.append.ensures.items)
    (takes-data scanner.contact c.args.behind c.args.size scanner.held.items c.args.bytes.now count within room)

pub returns-clause-goes_on : goal.returns-clause-goes_on
returns-clause-goes_on c =
    let scanner = c.args.self.now in
    let piece = c.args.bytes.now in
    let count = c.min-count.result in
    let fits : IsTrue (has_room_at (Ttr c.args.behind c.args.size) scanner.head.items scanner.held.items) =
    rw c.requires.place at scanner.fits in
    let empty = head_is_empty c.args.behind c.args.size scanner.head.items scanner.held.items fits in
    let behind_it : List ℕ → Rest = λ head. heard_rest (hearing_on scanner.contact c.hear.result)
    (Open scanner.contact (InTtrHead (c.args.behind - ttr_head) head)) in
    let less = held_is_less c.args.behind c.args.size scanner.head.items scanner.held.items fits in
    let within : count ≤ length piece = omega arith in
    let full : length scanner.held.items + count ≡ c.args.size =
    omega (
      arith,
      length-take-le count piece within,
      length-append scanner.held.items (take count piece),
      ap (length {A = ℕ}) c.append.ensures.items,
    ) in
    let some : 0 < count = omega arith in
    rw c.requires.place
    (takes-heard scanner.contact c.args.behind c.args.size scanner.held.items c.append.new.held.items piece count _
    (hearing_on scanner.contact c.hear.result) _ within full some c.append.ensures.items c.hear.ensures.outcome
    c.hear.ensures.hearing (c.hear.ensures.rest ∙ ap behind_it empty))
