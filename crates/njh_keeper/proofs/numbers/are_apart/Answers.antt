use Rattle.std.{proofs.Common.{ℕ, List, sym, ap, subst, ◌∙◌}, specs.Prelude.IsPermutation}
use Rattle.njh_keeper.{proofs.OpeningApart.apart_by_rising, specs.code.Apart.rises}
use Rattle.njh_keeper.proofs.numbers.are_apart.Goals as goal

pub returns : goal.returns
returns c is =
    apart_by_rising c.args.files.now c.sort_unstable.new.self.items
    (subst (λ (keys : List ℕ). IsPermutation keys c.sort_unstable.new.self.items) c.in_ok-keys.ensures
    c.sort_unstable.ensures.permutation) (sym (ap (rises 0) c.deref.ensures.value) ∙ sym c.do_rise-apart.ensures ∙ is)
