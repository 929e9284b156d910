use Rattle.std.proofs.Common.{◌≡◌, ◌∙◌, Some, None, codes, option_map, sym, rules}
use Rattle.clap.specs.Words.{found_of, rows_of}
use Rattle.njh_arguments.proofs.ArgumentLaws.{first_value-rows, unclear-into}
use Rattle.njh_arguments.proofs.files_options.files_in.Goals as goal

pub compacted_in-requires : goal.compacted_in-requires
compacted_in-requires c =
    let none : option_map (λ s. s.now) c.get_str.result ≡ None = search rules in
    sym (first_value-rows c.args.options.now (codes "into")) ∙ (sym c.get_str.ensures ∙ none)

pub returns-then-not-is_given-clause-refused : goal.returns-then-not-is_given-clause-refused
returns-then-not-is_given-clause-refused c =
    let rows = rows_of (found_of c.args.options.now) in
    let found : option_map (λ s. s.now) c.get_str.result ≡ Some c.in-Some.into.now = search rules in
    unclear-into rows c.in-Some.into.now
    (sym (first_value-rows c.args.options.now (codes "into")) ∙ (sym c.get_str.ensures ∙ found))
    (λ prints compact customer. elim c.then-not-is_given.branch [
      | goal.then-not-is_given-via-then-not-is_given w ↦ search rules
      | goal.then-not-is_given-via-else-not-is_given+then-is_given w ↦ search rules
      | goal.then-not-is_given-via-else-not-is_given+else-is_given+then-is_printing w ↦
          w.is_printing.ensures.something (search rules) prints
    ])

pub copied_in-requires : goal.copied_in-requires
copied_in-requires c =
    let found : option_map (λ s. s.now) c.get_str.result ≡ Some c.in-Some.into.now = search rules in (
      c.is_printing.ensures.nothing c.if-is_printing.false,
      sym (first_value-rows c.args.options.now (codes "into")) ∙ (sym c.get_str.ensures ∙ found),
      search rules,
      search rules,
    )
