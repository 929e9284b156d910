use Rattle.std.proofs.Common.{◌≡◌, ◌<◌, ◌∷◌, ◌∙◌, [], List, Ok, Err, Result, ap, length, rules, subst, sym, ℕ}
use Rattle.std.specs.Prelude.{MatchResult}
use Rattle.njh_encode.specs.declared.fault.Reason.{Reason}
use Rattle.njh_encode.proofs.PostedLaws.{record_blank, record_no_text, record_text}
use Rattle.njh_encode.proofs.posted.record_of_line.Goals as goal

pub returns-then-is_empty-clause-taken : goal.returns-then-is_empty-clause-taken
returns-then-is_empty-clause-taken c =
    let none : length c.args.line.now ≡ 0 = search rules in
    let bytes : c.push.new.self.items ≡ 0x40 ∷ [] = search rules in
    record_blank c.args.line.now none ∙ ap (λ (xs : List ℕ). Ok xs) (sym bytes)

pub returns-in-Ok-clause-taken : goal.returns-in-Ok-clause-taken
returns-in-Ok-clause-taken c =
    let some : 0 < length c.args.line.now = search rules in
    subst
    (λ (v : Result (List ℕ) Reason). MatchResult c.bytes_of_text.result (λ taken. v ≡ Ok taken.items)
    (λ reason. v ≡ Err reason))
    (sym (record_text c.args.line.now c.in-Ok.text.now some c.in-Ok.ensures.cases.0 c.in-Ok.ensures.cases.1))
    c.bytes_of_text.ensures.bytes

pub returns-in-Err-clause-taken : goal.returns-in-Err-clause-taken
returns-in-Err-clause-taken c =
    let some : 0 < length c.args.line.now = search rules in
    record_no_text c.args.line.now some (λ text. c.in-Err.ensures.cases.0 text)
