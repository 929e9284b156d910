use Rattle.std.proofs.Common.{ℕ, ◌<◌, arith, sym, ◌∙◌, ap, subst}
use Rattle.njh_log.specs.Spells.{is_due, spell_at}
use Rattle.njh_log.specs.declared.spells.Spell.{Spell}
use Rattle.njh_log.proofs.SpellLaws.{lines_more, told_more}
use Rattle.njh_log.proofs.limited.LimitedLog.tell_spells.Goals as goal

-- one more is told
pub loop-index-preserved : goal.loop-index-preserved
loop-index-preserved g c =
    let i = c.loop-index.index in
    let first = c.args.self.now in
    let old = c.loop-index.self in
    let new = c.tell_spell.new.self in
    let inv = c.loop-index.invariant in
    let told = c.tell_spell.ensures in
    let same = ap (λ (s : Spell). is_due s c.args.now) (inv.rest i (omega arith)) in
    record {
      told = λ p below. told_more i p c.args.now first.spells old.spells new.spells inv.told inv.rest told.own told.others
          below;
      rest = λ p above. told.others p (omega arith) ∙ inv.rest p (omega (arith, above));
      many = told.many ∙ inv.many;
      places = told.places ∙ inv.places;
      again = told.again ∙ inv.again;
      lines = lines_more g.L.Write.contents first.spells.spells i c.args.now first.log old.log new.log
          (is_due (spell_at i old.spells) c.args.now) (subst (λ (n : ℕ). i < n) c.count-index-end.ensures c.loop-index-test.true) (sym same)
          inv.lines told.written told.silent;
    }
