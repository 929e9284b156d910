use Rattle.std.proofs.Common.{◌≡◌, ◌<◌, ◌≤◌, ℕ, length, take}
use Rattle.std.specs.Prelude.{count_by}
use Rattle.njh_log.specs.Limiting.{AreWritten}
use Rattle.njh_log.specs.Spells.{after_telling, is_due, spell_at}
use Rattle.njh_log.proofs.limited.LimitedLog.tell_spells.Given as goal

-- of the spells so far what was counted is told, those behind are as they were, and so many lines were written
abbrev pub invariant-loop-index : goal.invariant-loop-index
invariant-loop-index g l = record {
  told : (p : ℕ) → p < l.index → spell_at p l.self.spells ≡ after_telling (spell_at p l.fn.self.spells) l.now;
  rest : (p : ℕ) → l.index ≤ p → spell_at p l.self.spells ≡ spell_at p l.fn.self.spells;
  many : length l.self.spells.spells ≡ length l.fn.self.spells.spells;
  places : l.self.spells.places ≡ l.fn.self.spells.places;
  again : l.self.again ≡ l.fn.self.again;
  lines : AreWritten g.L.Write.contents (count_by (λ spell. is_due spell l.now) (take l.index l.fn.self.spells.spells))
      l.fn.self.log l.self.log;
}
