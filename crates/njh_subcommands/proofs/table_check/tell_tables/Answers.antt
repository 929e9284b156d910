use Rattle.std.proofs.Common.{◌≡◌, None, Some, false, inr, refl, rules}
use Rattle.std.proofs.lemmas.Bool.{false_from_ne_true}
use Rattle.std.proofs.lemmas.Str.{IsUtf8-from_is_utf8}
use Rattle.njh_subcommands.specs.TableChecks.{no_text_words}
use Rattle.njh_subcommands.proofs.CheckLaws.{begun_of, begun_whole, no_text-begun, told_fault, told_right}
use Rattle.njh_subcommands.proofs.table_check.tell_tables.Goals as goal

pub returns-in-Ok-None-clause-right : goal.returns-in-Ok-None-clause-right
returns-in-Ok-None-clause-right g c =
    let is : c.in-Ok-None.field-0 ≡ None = search rules in
    told_right c.args.bytes.now c.in-Ok.text.now c.in-Ok-None.field-0 (g.W.Write.contents c.args.out.now)
    (g.W.Write.contents c.check.new.out) c.in-Ok.ensures.cases.0 c.in-Ok.ensures.cases.1 is c.in-Ok-None.ensures.told

pub returns-in-Ok-Some-clause-found : goal.returns-in-Ok-Some-clause-found
returns-in-Ok-Some-clause-found g c = λ same.
    let is : c.in-Ok-Some.field-0 ≡ Some c.in-Ok-Some.field-0-0 = search rules in
    told_fault c.args.bytes.now c.in-Ok.text.now c.in-Ok-Some.field-0 c.in-Ok-Some.field-0-0
    (g.W.Write.contents c.args.out.now)
    (g.W.Write.contents c.check.new.out) c.in-Ok.ensures.cases.0 c.in-Ok.ensures.cases.1 is c.in-Ok-Some.ensures.told

pub returns-in-Ok-Some-clause-begun : goal.returns-in-Ok-Some-clause-begun
returns-in-Ok-Some-clause-begun g c =
    let is : c.in-Ok-Some.field-0 ≡ Some c.in-Ok-Some.field-0-0 = search rules in
    let old = g.W.Write.contents c.args.out.now in
    let new = g.W.Write.contents c.check.new.out in
    inr (begun_whole false c.args.bytes.now old new
    (told_fault c.args.bytes.now c.in-Ok.text.now c.in-Ok-Some.field-0 c.in-Ok-Some.field-0-0 old new
    c.in-Ok.ensures.cases.0
    c.in-Ok.ensures.cases.1 is c.in-Ok-Some.ensures.told))

pub returns-in-Err-Device-clause-begun : goal.returns-in-Err-Device-clause-begun
returns-in-Err-Device-clause-begun g c =
    let said = c.check.ensures.device (search rules) in
    inr (begun_of c.args.bytes.now c.in-Ok.text.now said.0 said.1 (g.W.Write.contents c.args.out.now)
    (g.W.Write.contents c.check.new.out) c.in-Ok.ensures.cases.0 c.in-Ok.ensures.cases.1 said.2 said.3)

pub returns-in-Err-clause-found : goal.returns-in-Err-clause-found
returns-in-Err-clause-found g c = λ same.
    let broken = false_from_ne_true _ (λ text. c.in-Err.ensures.cases.0 (IsUtf8-from_is_utf8 c.args.bytes.now text)) in
    (no_text_words, inr (broken, refl), c.tell_no_text.ensures.found same)

pub returns-in-Err-clause-begun : goal.returns-in-Err-clause-begun
returns-in-Err-clause-begun g c =
    let broken = false_from_ne_true _ (λ text. c.in-Err.ensures.cases.0 (IsUtf8-from_is_utf8 c.args.bytes.now text)) in
    no_text-begun c.tell_no_text.result c.args.bytes.now (g.W.Write.contents c.args.out.now)
    (g.W.Write.contents c.tell_no_text.new.out) broken c.tell_no_text.ensures.fault
