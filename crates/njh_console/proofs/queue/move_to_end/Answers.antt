use Rattle.std.proofs.Common.{◌++◌, ◌∙◌, [], ◌∷◌, List, ap, sym}
use Rattle.std.specs.List.{remove}
use Rattle.std.proofs.lemmas.List.{get_or_read}
use Rattle.njh_console.specs.Seats.{Seat}
use Rattle.njh_console.proofs.queue.move_to_end.Goals as goal

pub returns-clause-seats : goal.returns-clause-seats
returns-clause-seats g c =
    let one = c.remove-visitor.result in record {
      one = one;
      one_is = λ d. sym (get_or_read c.args.seats.now.items c.args.place one c.requires c.remove-visitor.ensures.value d);
      after_is = c.push_reserved.ensures.items
          ∙ (ap (λ (seats : List (Seat g.row.V.Denot)). seats ++ c.note_answer.new.self ∷ []) c.remove-visitor.ensures.items
          ∙ ap (λ (last : Seat g.row.V.Denot). remove c.args.seats.now.items c.args.place ++ last ∷ [])
          c.note_answer.ensures);
    }
