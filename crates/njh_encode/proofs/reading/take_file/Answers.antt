use Rattle.std.proofs.Common.{◌≡◌, ◌∙◌, Ok, Err, ap, refl, rules}
use Rattle.njh_encode.specs.declared.fault.Reason.TheVariants.{NoFile, NoLine}
use Rattle.njh_encode.specs.Encoded.{IsAppended}
use Rattle.njh_encode.specs.Scripts.{file_taken, reason_of}
use Rattle.njh_encode.proofs.LineLaws.{answered, answered_gives, are_answered, some_answered, some_texts}
use Rattle.njh_encode.proofs.reading.take_file.Goals as goal

pub returns-in_default : goal.returns-in_default
unfolding file_taken
returns-in_default g c =
    let known = g.L.Letters.texts c.args.letters.now in
    let texts = some_texts known in
    let refused : file_taken texts c.args.encoder.now c.args.line.now ≡ Err NoLine = search rules in
    (texts, some_answered known, λ other. (refused, refl, refl))

pub returns-in_default-posting_of : goal.returns-in_default-posting_of
unfolding file_taken
returns-in_default-posting_of g c =
    let known = g.L.Letters.texts c.args.letters.now in
    let texts = some_texts known in
    let refused : file_taken texts c.args.encoder.now c.args.line.now ≡ Err NoFile = search rules in
    (texts, some_answered known, λ other. (refused, refl, refl))

pub returns-in_default-letter_of : goal.returns-in_default-letter_of
unfolding file_taken
returns-in_default-letter_of g c =
    let known = g.L.Letters.texts c.args.letters.now in
    let texts = some_texts known in
    let refused : file_taken texts c.args.encoder.now c.args.line.now ≡ Err NoFile = search rules in
    (texts, some_answered known, λ other. (refused, refl, refl))

pub returns-in-Ok : goal.returns-in-Ok
unfolding file_taken
returns-in-Ok g c =
    let known = g.L.Letters.texts c.args.letters.now in
    let given = Ok c.in-Ok.text.items in
    let texts = answered known given in
    let name = c.in-Some-letter_of.letter.now in
    let gives : texts name ≡ given = answered_gives known name given (λ k is. c.in-Ok.ensures k is) in
    let done : IsAppended c.take_file.result (file_taken texts c.args.encoder.now c.args.line.now) c.args.encoder.now
    c.take_file.new.self c.args.script.now.items c.take_file.new.script.items = search (rules, gives) in
    (texts, are_answered known given, done)

pub returns-in-Err : goal.returns-in-Err
unfolding file_taken
returns-in-Err g c =
    let known = g.L.Letters.texts c.args.letters.now in
    let given = Err c.in-Err.fault in
    let texts = answered known given in
    let name = c.in-Some-letter_of.letter.now in (
      texts,
      are_answered known given,
      λ other.
          let gives : texts name ≡ given = answered_gives known name given
          (λ k is. c.in-Err.ensures k is (λ memory. other (c.reason.ensures ∙ ap reason_of memory))) in
          let refused : file_taken texts c.args.encoder.now c.args.line.now ≡ Err c.reason.result =
          search (rules, gives) in
          (refused, refl, refl),
    )
