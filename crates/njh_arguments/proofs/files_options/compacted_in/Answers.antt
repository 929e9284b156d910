use Rattle.std.proofs.Common.{◌≡◌, ◌∙◌, Some, None, codes, option_map, sym, rules}
use Rattle.clap.specs.Words.{found_of, rows_of}
use Rattle.njh_arguments.proofs.ArgumentLaws.{first_value-rows, unclear-new}
use Rattle.njh_arguments.proofs.files_options.compacted_in.Goals as goal

pub printed_in-requires-clause-compact : goal.printed_in-requires-clause-compact
printed_in-requires-clause-compact c =
    let none : option_map (λ s. s.now) c.get_str.result ≡ None = search rules in
    sym (first_value-rows c.args.options.now (codes "compact")) ∙ (sym c.get_str.ensures ∙ none)

pub returns-then-is_printing-clause-refused : goal.returns-then-is_printing-clause-refused
returns-then-is_printing-clause-refused c =
    let rows = rows_of (found_of c.args.options.now) in
    let found : option_map (λ s. s.now) c.get_str.result ≡ Some c.in-Some.into.now = search rules in
    unclear-new rows c.in-Some.into.now c.requires
    (sym (first_value-rows c.args.options.now (codes "compact")) ∙ (sym c.get_str.ensures ∙ found))
    (c.is_printing.ensures.something c.if-is_printing.true)

pub copied_in-requires : goal.copied_in-requires
copied_in-requires c =
    let found : option_map (λ s. s.now) c.get_str.result ≡ Some c.in-Some.into.now = search rules in (
      c.is_printing.ensures.nothing c.if-is_printing.false,
      c.requires,
      sym (first_value-rows c.args.options.now (codes "compact")) ∙ (sym c.get_str.ensures ∙ found),
    )
