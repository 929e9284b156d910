use Rattle.std.proofs.Common.{Result, refl, subst, sym}
use Rattle.njh_encode.specs.declared.fault.Reason.{Reason}
use Rattle.njh_encode.specs.Encoded.{IsAppended, Outcome}
use Rattle.njh_encode.proofs.LineLaws.{no_text_taken, some_answered, some_texts, text_taken}
use Rattle.njh_encode.proofs.reading.take_bytes.Goals as goal

pub returns-in-Ok : goal.returns-in-Ok
returns-in-Ok g c =
    let texts = c.take_words.ensures.0 in (
      texts,
      c.take_words.ensures.1,
      subst
          (λ (o : Result Outcome Reason). IsAppended c.take_words.result o c.args.encoder.now c.take_words.new.encoder
          c.args.script.now.items c.take_words.new.script.items)
          (sym (text_taken texts c.args.encoder.now c.args.line.now c.in-Ok.words.now c.in-Ok.ensures.cases.0
          c.in-Ok.ensures.cases.1))
          c.take_words.ensures.2,
    )

pub returns-in-Err : goal.returns-in-Err
returns-in-Err g c =
    let known = g.L.Letters.texts c.args.letters.now in
    let texts = some_texts known in (
      texts,
      some_answered known,
      λ other. (
        no_text_taken texts c.args.encoder.now c.args.line.now (λ text. c.in-Err.ensures.cases.0 text),
        refl,
        refl,
      ),
    )
