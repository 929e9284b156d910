use Rattle.std.proofs.Common.{◌≡◌, ◌+◌, ◌∷◌, [], Err, rules, Some, subst, sym, ℕ}
use Rattle.njh_encode.specs.declared.fault.EncodeFault.{EncodeFault}
use Rattle.njh_encode.specs.Encoded.{IsDone}
use Rattle.njh_encode.specs.Scripts.{LinesBecome, outcome_in_text}
use Rattle.njh_encode.proofs.LineLaws.{bad-becomes}
use Rattle.njh_encode.proofs.ReadingLaws.{line_taken}
use Rattle.njh_encode.proofs.reading.Reading.take_front.Goals as goal

pub returns-in-Err-clause-bad : goal.returns-in-Err-clause-bad
returns-in-Err-clause-bad g c = λ fault same.
    let known = g.L.Letters.texts c.args.letters.now in
    let front = c.args.self.now.front in
    let states = c.args.self.now.states in
    let at = c.end_at.ensures fault (cc same) in
    let texts = c.in-Err.ensures.0 in
    let bad = c.in-Err.ensures.2 at.1 in
    let fault_is : record { line = c.args.self.now.number; reason = c.in-Err.reason } ≡ fault = search (rules, at.0) in
    let is : outcome_in_text texts states front ≡ Err c.in-Err.reason = search (rules, bad.0) in (
      bad.2,
      λ rest.
          let P : EncodeFault → Type 0 = λ f. LinesBecome known states c.args.self.now.number (front ∷ rest)
          (record { script = []; bad = Some f }) in
          subst P fault_is
          (bad-becomes known texts states c.args.self.now.number front rest c.in-Err.reason c.in-Err.ensures.1 is),
    )

pub returns-clause-taken : goal.returns-clause-taken
returns-clause-taken g c =
    let known = g.L.Letters.texts c.args.letters.now in
    let texts = c.in-Ok.ensures.0 in
    let all = c.in-Ok.ensures.2 in
    let done : IsDone (outcome_in_text texts c.args.self.now.states c.args.self.now.front) c.take_short.new.encoder
    c.args.script.now.items c.take_short.new.script.items = search (rules, all) in
    let taken = line_taken known texts c.args.self.now.states c.take_short.new.encoder c.args.self.now.number
    c.args.self.now.front c.args.script.now.items c.take_short.new.script.items c.in-Ok.ensures.1 done in
    let next : c.args.self.now.number + 1 ≡ c.in-Some.number = search rules in (
      taken.0,
      taken.1,
      λ rest e b.
          let P : ℕ → Type 0 = λ n. LinesBecome known c.take_short.new.encoder n rest e in
          taken.2 rest e (subst P (sym next) b),
    )
