use Rattle.std.proofs.Common.{rules}
use Rattle.njh_encode.specs.Encoded.{IsAppended}
use Rattle.njh_encode.specs.Scripts.{words_taken}
use Rattle.njh_encode.proofs.LineLaws.{some_answered, some_texts}
use Rattle.njh_encode.proofs.reading.take_words.Goals as goal

pub returns-else-is_of_file : goal.returns-else-is_of_file
unfolding words_taken
returns-else-is_of_file g c =
    let known = g.L.Letters.texts c.args.letters.now in
    let texts = some_texts known in
    let done : IsAppended c.take_line.result (words_taken texts c.args.encoder.now c.args.line.now) c.args.encoder.now
    c.take_line.new.self c.args.script.now.items c.take_line.new.script.items = search rules in
    (texts, some_answered known, done)
