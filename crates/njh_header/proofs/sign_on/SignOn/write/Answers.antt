use Rattle.std.proofs.Common.{◌≡◌, List, ℕ, ◌++◌, ap, ◌∙◌, arith, rules}
use Rattle.std.proofs.lemmas.Grind.{common_steps}
use Rattle.njh_header.specs.SignOns.{sign_on, sign_on_bytes}
use Rattle.njh_header.proofs.SignOnBack.{read_back}
use Rattle.njh_header.proofs.sign_on.SignOn.write.Goals as goal

pub returns-clause-reads_back : goal.returns-clause-reads_back
returns-clause-reads_back c rest =
    let written : c.put_bytes-6.new.out.items ≡ sign_on_bytes c.args.self.now = grind (arith, common_steps) in
    ap (λ (bytes : List ℕ). sign_on (bytes ++ rest)) written
    ∙ read_back c.args.self.now rest (search rules) (search rules) (search rules) (search rules)
