use Rattle.std.proofs.Common.{◌≡◌, ◌∙◌, List, ap, arith, inl, length, sym}
use Rattle.njh_lines.specs.Attention.{watch_at}
use Rattle.njh_lines.specs.declared.attention.Watch.{Watch}
use Rattle.njh_lines.proofs.exchange.Exchange.new.Goals as goal

-- no line is there
pub invariant_of-result : goal.invariant_of-result
invariant_of-result g c =
    let none : length c.new-2.result.items ≡ 0 = ap length c.new-2.ensures.items in record {
      many_marks = ap length c.new-3.ensures.items ∙ sym none;
      many_watches = ap length c.new-4.ensures.items ∙ sym none;
      many_groups = omega (arith, none);
      covered = λ group place within before. let no : ⊥ = omega (arith, before, none) in absurd no;
      waits = λ place before. let no : ⊥ = omega (arith, before, none) in absurd no;
      due = λ group place within before its. let no : ⊥ = omega (arith, before, none) in absurd no;
      wanted = λ group. inl (ap (λ (groups : List Watch). (watch_at groups group).is_due) c.new-5.ensures.items);
    }
