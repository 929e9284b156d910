use Rattle.std.proofs.Common.{◌≡◌, ℕ, List, ◌++◌, ap, sym, ◌∙◌, string_bytes}
use Rattle.std.specs.List.{flat_map}
use Rattle.toml.specs.View.{members_view}
use Rattle.njh_check.specs.Warnings.{key_warning, names_of}
use Rattle.njh_check.proofs.Loops.{told_first}
use Rattle.njh_check.proofs.unknown_keys.put_keys.Goals as goal

pub loop-name-preserved : goal.loop-name-preserved
loop-name-preserved c =
    let told : List ℕ → List ℕ = key_warning c.args.part c.args.place.now in
    let name = string_bytes c.in-Some.name.now in
    let text : c.as_str-in-loop-name.result.now ≡ told name =
    c.as_str-in-loop-name.ensures.value ∙ c.in_ok-text.ensures ∙ ap told c.as_str.ensures.value in
    told_first told name (names_of (members_view c.next.new.self)) c.loop-name.report.items
    c.as_str-in-loop-name.result.now c.put.new.report.items c.in_ok-put.ensures text
    ∙ ap (λ es. c.loop-name.report.items ++ flat_map told (names_of (members_view es)))
    (sym c.in-Some.ensures.steps)
    ∙ c.loop-name.invariant
