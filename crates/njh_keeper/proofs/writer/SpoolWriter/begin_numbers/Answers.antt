use Rattle.{std.proofs.Common.{◌≡◌, ap, subst, sym, arith}, njh_spoolfile.proofs.ReadingLaws.ok_then}
use Rattle.njh_spoolfile.specs.{CommitState.Stands, Shelf.shown}
use Rattle.{std.proofs.Common.{nat_lt, ◌+◌}, sqlite.{proofs.StateLemmas.survives_then, specs.State.{State, Survives}}}
use Rattle.njh_spoolfile.specs.Kept.{Holds}
use Rattle.njh_keeper.proofs.{LeadingLaws.clean_before, OpeningApart.few_unused, OpeningNumbers.are_below}
use Rattle.njh_keeper.proofs.WriterLaws.{stands_kept}
use Rattle.njh_keeper.specs.code.Writing.{emptied_at, key_behind, LackUnused, shows_kept, without_keys}
use Rattle.njh_keeper.specs.declared.writer.SpoolWriter.{SpoolWriter}
use Rattle.njh_keeper.proofs.writer.SpoolWriter.begin_numbers.Goals as goal

pub empty_others-requires : goal.empty_others-requires
empty_others-requires g c =
    let next = c.args.self.now.next_key in
    let end = c.go_behind.new.self.next_key in
    let is : end ≡ key_behind next c.args.files.now =
    ap (λ (x : SpoolWriter g.row.S.Denot). x.next_key) c.go_behind.ensures in
    record { below = λ few. are_below next c.args.files.now end (omega (arith, is)) few }

pub returns-clause-begun : goal.returns-clause-begun
returns-clause-begun g c clean =
    let next = c.args.self.now.next_key in
    let files = c.args.files.now in
    let first = shown g.S.Store c.go_behind.new.self.store in
    let mid = shown g.S.Store c.empty_others.new.self.store in
    let new = shown g.S.Store c.commit.new.self.store in
    let is : c.go_behind.new.self.next_key ≡ key_behind next files =
    ap (λ (x : SpoolWriter g.row.S.Denot). x.next_key) c.go_behind.ensures in
    let same : first ≡ shown g.S.Store c.args.self.now.store =
    ap (λ (x : SpoolWriter g.row.S.Denot). shown g.S.Store x.store) c.go_behind.ensures in
    ok_then c.commit.result _ _ (λ by s at.
    let there = c.in_ok-empty_others.ensures.emptied (clean_before c.commit.ensures.crash clean) s
    (subst (Stands s) (sym same) at) in
    subst (λ end. Stands (shows_kept (without_keys (emptied_at files end)) s) new) is
    (stands_kept _ mid new by there.1)) (c.commit.ensures.kept clean)

pub returns-in_err-empty_others-clause-crash : goal.returns-in_err-empty_others-clause-crash
returns-in_err-empty_others-clause-crash g c =
    let same = ap (λ (x : SpoolWriter g.row.S.Denot). shown g.S.Store x.store) c.go_behind.ensures in
    subst (λ (x : State). Survives x (shown g.S.Store c.empty_others.new.self.store) (LackUnused c.args.files.now x))
    same c.empty_others.ensures.crash

pub returns-clause-crash : goal.returns-clause-crash
returns-clause-crash g c =
    let files = c.args.files.now in
    let end = c.go_behind.new.self.next_key in
    let mid = shown g.S.Store c.empty_others.new.self.store in
    let same = ap (λ (x : SpoolWriter g.row.S.Denot). shown g.S.Store x.store) c.go_behind.ensures in
    subst (λ (x : State). Survives x (shown g.S.Store c.commit.new.self.store) (LackUnused files x)) same
    (survives_then _ mid _ _ _ _ (λ clean db made. made) (λ clean db is. (
      emptied_at files end,
      few_unused files (nat_lt 200000 end) (end + 64),
      λ s at. subst (Holds (without_keys (emptied_at files end) s.now)) (sym is)
          (c.in_ok-empty_others.ensures.emptied (clean_before c.commit.ensures.crash clean) s at).1.now,
    )) c.empty_others.ensures.crash c.commit.ensures.crash)
