use Rattle.std.proofs.Common.{IfErr, length, option_map, rules, sym, subst}
use Rattle.sqlite.specs.Effect.{Database}
use Rattle.njh_spoolfile.specs.Kept.{Holds, SpoolContents}
use Rattle.njh_spoolfile.specs.Copies.{HaveControlBytes, asked}
use Rattle.njh_spoolfile.specs.Shelf.{shown}
use Rattle.njh_spoolfile.specs.code.CopySteps.{FitsStep, LacksRoom}
use Rattle.njh_spoolfile.specs.declared.copying.CopyFault.{CopyFault}
use Rattle.njh_spoolfile.proofs.CopiedFiles.{copied_there, crash_there}
use Rattle.njh_spoolfile.proofs.CopyFaults.{all_fits, if_err}
use Rattle.njh_spoolfile.proofs.CopyLaws.{clean_before}
use Rattle.njh_spoolfile.proofs.copying.copy_files.Goals as goal

pub returns-clause-copied : goal.returns-clause-copied
returns-clause-copied g c clean_from clean spool before held held_into =
    let clean_mid = clean_before c.commit.ensures.crash clean in
    let clean_first = clean_before c.copy_behind.ensures.crash clean_mid in
    let kept = c.in_ok-commit.ensures.kept clean in
    let there = copied_there (option_map (λ c'. c'.now) c.args.customer) c.in_ok-first.first.id c.in_ok-first.first.key
    c.in_ok-count.count spool before (shown g.T.Store c.args.into.now) (shown g.T.Store c.first_numbers.new.into)
    (shown g.T.Store c.copy_behind.new.into) (c.in_ok-first.ensures.same clean_first)
    (c.in_ok-first.ensures.behind clean_first before held_into)
    (c.in_ok-count.ensures.copied clean_from clean_mid spool held)
    (c.in_ok-count.ensures.room c.in_ok-first.ensures.low) held_into in
    record {
      after = there.0;
      stands = record {
        is_open = kept.is_open;
        now = subst (λ (d : Database). Holds there.0 d.trees) (sym kept.now) there.1;
        kept = subst (λ (d : Database). Holds there.0 d.trees) (sym kept.committed) there.1;
      };
      copied = there.2;
      how_many = (c.in_ok-count.ensures.copied clean_from clean_mid spool held).0;
    }

pub returns-clause-crash : goal.returns-clause-crash
returns-clause-crash g c =
    crash_there (option_map (λ c'. c'.now) c.args.customer) c.in_ok-first.first.id c.in_ok-first.first.key
    c.in_ok-count.count (shown g.S.Store c.args.from.now) (shown g.S.Store c.copy_behind.new.from)
    (shown g.T.Store c.args.into.now) (shown g.T.Store c.first_numbers.new.into)
    (shown g.T.Store c.copy_behind.new.into) (shown g.T.Store c.commit.new.self) c.first_numbers.ensures.crash
    c.copy_behind.ensures.crash c.commit.ensures.crash c.in_ok-first.ensures.same c.in_ok-first.ensures.behind
    c.in_ok-count.ensures.copied (c.in_ok-count.ensures.room c.in_ok-first.ensures.low)

pub returns-in_err-commit-clause-crash : goal.returns-in_err-commit-clause-crash
returns-in_err-commit-clause-crash g c =
    crash_there (option_map (λ c'. c'.now) c.args.customer) c.in_ok-first.first.id c.in_ok-first.first.key
    c.in_ok-count.count (shown g.S.Store c.args.from.now) (shown g.S.Store c.copy_behind.new.from)
    (shown g.T.Store c.args.into.now) (shown g.T.Store c.first_numbers.new.into)
    (shown g.T.Store c.copy_behind.new.into) (shown g.T.Store c.commit.new.self) c.first_numbers.ensures.crash
    c.copy_behind.ensures.crash c.commit.ensures.crash c.in_ok-first.ensures.same c.in_ok-first.ensures.behind
    c.in_ok-count.ensures.copied (c.in_ok-count.ensures.room c.in_ok-first.ensures.low)

pub returns-in_err-count-clause-fault : goal.returns-in_err-count-clause-fault
returns-in_err-count-clause-fault g c clean_from clean =
    let customer = option_map (λ c'. c'.now) c.args.customer in
    let first = c.in_ok-first.first in
    let early = clean_before c.copy_behind.ensures.crash clean in
    let P = λ (fault : CopyFault). (spool : SpoolContents) → Holds spool (shown g.S.Store c.args.from.now).now.trees
    → FitsStep (LacksRoom first (length (asked customer spool))) (¬ HaveControlBytes (asked customer spool)) fault
    in
    let fault : IfErr c.from_residual-in_err-count.result P = search rules in
    if_err P _ (λ fault fits spool before held held_into. all_fits customer spool before first
    (c.in_ok-first.ensures.behind early before held_into).1 (c.in_ok-first.ensures.least early before held_into) fault
    (fits spool held)) c.from_residual-in_err-count.result fault
