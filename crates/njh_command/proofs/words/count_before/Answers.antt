-- The byte stands at the place, or nowhere.
use Rattle.std.proofs.Common.{ℕ, Bool, ◌==◌, arith, sym, ◌∙◌}
use Rattle.njh_command.proofs.SplitLaws.{found, missing, position_within}
use Rattle.njh_command.proofs.words.count_before.Goals as goal

pub returns-in-Some : goal.returns-in-Some
returns-in-Some c =
    let sought : ℕ → Bool = λ (b : ℕ). b == c.args.sought in
    let e = found sought c.args.bytes.now c.in-Some.place (sym c.place_of.ensures ∙ c.in-Some.is) in
    record { place = sym e; within = omega (arith, e, position_within sought c.args.bytes.now) }

pub returns-in-None : goal.returns-in-None
returns-in-None c =
    let sought : ℕ → Bool = λ (b : ℕ). b == c.args.sought in
    record {
      place = sym (missing sought c.args.bytes.now (sym c.place_of.ensures ∙ c.in-None.is));
      within = omega
          arith;
    }
