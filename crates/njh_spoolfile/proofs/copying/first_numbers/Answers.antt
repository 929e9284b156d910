use Rattle.std.proofs.Common.{map, option_map, refl, ap, sym, ◌∙◌}
use Rattle.njh_spoolfile.specs.Kept.{entry_of}
use Rattle.njh_spoolfile.proofs.CopiedFiles.{all_below, has_none, has_some}
use Rattle.njh_spoolfile.proofs.CopyFaults.{below_files, lacks_any}
use Rattle.njh_spoolfile.proofs.copying.first_numbers.Goals as goal

pub returns-then-has_asked-clause-fault : goal.returns-then-has_asked-clause-fault
returns-then-has_asked-clause-fault g c clean spool before held =
    has_some (option_map (λ c'. c'.now) c.args.customer) before c.as_slice.result.now
    (ap (map entry_of) c.as_slice.ensures.value ∙ c.in_ok-files.ensures.files clean before held)
    (sym c.has_asked.ensures ∙ c.if-has_asked.true)

pub returns-in-Some-clause-behind : goal.returns-in-Some-clause-behind
returns-in-Some-clause-behind g c clean before held = (
  all_below c.in-Some.first.id c.in-Some.first.key before c.as_slice-2.result.now
      (ap (map entry_of) c.as_slice-2.ensures.value ∙ c.in_ok-files.ensures.files clean before held)
      c.in-Some.ensures.behind,
  has_none (option_map (λ c'. c'.now) c.args.customer) before c.as_slice.result.now
      (ap (map entry_of) c.as_slice.ensures.value ∙ c.in_ok-files.ensures.files clean before held)
      (sym c.has_asked.ensures ∙ c.if-has_asked.false),
)

pub returns-in-Some-clause-least : goal.returns-in-Some-clause-least
returns-in-Some-clause-least g c clean before held id key some low =
    c.in-Some.ensures.least id key some (below_files id key before c.as_slice-2.result.now
    (ap (map entry_of) c.as_slice-2.ensures.value ∙ c.in_ok-files.ensures.files clean before held) low)

pub returns-clause-fault : goal.returns-clause-fault
returns-clause-fault g c clean spool before held = (
  has_none (option_map (λ c'. c'.now) c.args.customer) before c.as_slice.result.now
      (ap (map entry_of) c.as_slice.ensures.value ∙ c.in_ok-files.ensures.files clean before held)
      (sym c.has_asked.ensures ∙ c.if-has_asked.false),
  λ room. lacks_any room.id room.key _ (c.in-None.ensures.none refl room.id room.key
      (below_files room.id room.key before c.as_slice-2.result.now
      (ap (map entry_of) c.as_slice-2.ensures.value ∙ c.in_ok-files.ensures.files clean before held) room.behind))
      room.low,
)
