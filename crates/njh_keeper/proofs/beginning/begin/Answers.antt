use Rattle.njh_keeper.proofs.Words
use Words.{◌≡◌, ◌++◌, length, map, sym, ap, subst, ◌∙◌, arith, length-map, HasCleanDisk, State, Survives, Stands}
use Words.{shown, AreFilesApart, have_low_ids, numbers_of, own_of, AreRemembered, HasBegun, entries, emptied_at}
use Words.{free_at, key_behind, Leads, without_keys, SpoolWriter, survives_as, survives_both}
use Rattle.njh_keeper.proofs.{KeptLaws.begun_commits, KnownLaws.stood_still, OpeningBegun.has_begun}
use Rattle.njh_keeper.{proofs.RowLaws.is_ordered, specs.code.Opening.RememberingAll}
use Rattle.njh_keeper.specs.code.Writing.{LackUnused}
use Rattle.njh_keeper.proofs.beginning.begin.Goals as goal

pub returns-clause-begun : goal.returns-clause-begun
returns-clause-begun g c clean s stands distinct found reads =
    let old = shown g.S.Store c.args.writer.now.store in
    let first = shown g.S.Store c.files.new.self in
    let second = shown g.S.Store c.remember_all.new.writer.store in
    let third = shown g.S.Store c.forget_numbers.new.self.store in
    let items = c.in_ok-files.files.items in
    let files = c.deref-3.result.now in
    let names = c.args.names.now in
    let hub = c.args.hub.now in
    let owns = map own_of c.in_ok-owns.owns.items in
    let w = numbers_of c.begin_numbers.new.self in
    let same : third ≡ second = ap (λ (x : SpoolWriter g.row.S.Denot). shown g.S.Store x.store)
    c.forget_numbers.ensures.others in
    let clean_third : HasCleanDisk third = omega (arith, clean, c.begin_numbers.ensures.crash.clean) in
    let clean_second : HasCleanDisk second = subst HasCleanDisk same clean_third in
    let clean_first : HasCleanDisk first = omega (arith, clean_second, c.remember_all.ensures.crash.clean) in
    let read : entries items ≡ s.now.files = c.in_ok-files.ensures.files clean_first s.now stands.now in
    let rows : entries files ≡ s.now.files = ap entries c.deref-3.ensures.value ∙ read in
    let same_files : c.deref.result.now ≡ files = c.deref.ensures.value ∙ sym c.deref-3.ensures.value in
    let led = (c.in_ok-owns.ensures.led found clean_second).leads s
    (stood_still s old first (c.in_ok-files.ensures.same clean_first) stands) in
    let all : AreRemembered names hub owns s.now led.0 =
    led.2 (is_ordered s.now old.now.trees stands.now) (ap entries c.deref-2.ensures.value ∙ read) distinct reads in
    let long : length owns ≡ length names =
    (let a = length-map c.in_ok-owns.owns.items own_of in let b = length-map c.in_ok-owns.owns.items (λ own. own.name)
    in let d = ap length c.in_ok-owns.ensures.names in omega (arith, a, b, d)) in
    let key = c.forget_numbers.new.self.next_key in
    let id = c.forget_numbers.new.self.next_id in
    let numbers = c.in_ok-begin_numbers.ensures.numbers in
    let free : w.free_keys ≡ free_at files w.next_key =
    numbers.2 ∙ ap (λ xs. xs ++ free_at files w.next_key) c.forget_numbers.ensures.none in
    let begun : HasBegun names hub owns w (without_keys (emptied_at files (key_behind key files)) led.0) =
    has_begun files names hub owns s.now led.0 w id key (subst AreFilesApart same_files c.in_ok-check_numbers.ensures.0)
    (sym (ap have_low_ids same_files) ∙ c.in_ok-check_numbers.ensures.1) rows distinct long all free numbers.1
    numbers.0 in
    let moved : Stands (record s { now = led.0 }) third =
    subst (λ (x : State). Stands (record s { now = led.0 }) x) (sym same) led.1 in (
      without_keys (emptied_at files (key_behind key files)) led.0,
      begun,
      c.in_ok-begin_numbers.ensures.begun clean (record s { now = led.0 }) moved,
    )

pub returns-in_err-owns-clause-crash : goal.returns-in_err-owns-clause-crash
returns-in_err-owns-clause-crash g c =
    survives_as (λ clean db none. absurd none) (survives_both c.files.ensures.crash c.remember_all.ensures.crash)

pub returns-in_err-begin_numbers-clause-crash : goal.returns-in_err-begin_numbers-clause-crash
returns-in_err-begin_numbers-clause-crash g c =
    let first = shown g.S.Store c.files.new.self in
    let second = shown g.S.Store c.remember_all.new.writer.store in
    let new = shown g.S.Store c.begin_numbers.new.self.store in
    let names = c.args.names.now in
    let hub = c.args.hub.now in
    let owns = map own_of c.in_ok-owns.owns.items in
    begun_commits c.in_ok-files.files.items names hub owns _ first second new
    (omega (
      arith,
      length-map c.in_ok-owns.owns.items own_of,
      length-map c.in_ok-owns.owns.items (λ own. own.name),
      ap length c.in_ok-owns.ensures.names,
    ))
    c.in_ok-files.ensures.files c.in_ok-files.ensures.same
    (λ found clean. subst (λ fs. Leads (RememberingAll names hub (entries fs) owns) first second)
    c.deref-2.ensures.value (c.in_ok-owns.ensures.led found clean))
    c.files.ensures.crash c.remember_all.ensures.crash
    (subst (λ (x : State). Survives x new (LackUnused c.in_ok-files.files.items x))
    (ap (λ (x : SpoolWriter g.row.S.Denot). shown g.S.Store x.store) c.forget_numbers.ensures.others)
    (subst (λ fs. Survives (shown g.S.Store c.forget_numbers.new.self.store) new
    (LackUnused fs (shown g.S.Store c.forget_numbers.new.self.store))) c.deref-3.ensures.value
    c.begin_numbers.ensures.crash))

pub returns-clause-crash : goal.returns-clause-crash
returns-clause-crash g c =
    let first = shown g.S.Store c.files.new.self in
    let second = shown g.S.Store c.remember_all.new.writer.store in
    let new = shown g.S.Store c.begin_numbers.new.self.store in
    let names = c.args.names.now in
    let hub = c.args.hub.now in
    let owns = map own_of c.in_ok-owns.owns.items in
    begun_commits c.in_ok-files.files.items names hub owns _ first second new
    (omega (
      arith,
      length-map c.in_ok-owns.owns.items own_of,
      length-map c.in_ok-owns.owns.items (λ own. own.name),
      ap length c.in_ok-owns.ensures.names,
    ))
    c.in_ok-files.ensures.files c.in_ok-files.ensures.same
    (λ found clean. subst (λ fs. Leads (RememberingAll names hub (entries fs) owns) first second)
    c.deref-2.ensures.value (c.in_ok-owns.ensures.led found clean))
    c.files.ensures.crash c.remember_all.ensures.crash
    (subst (λ (x : State). Survives x new (LackUnused c.in_ok-files.files.items x))
    (ap (λ (x : SpoolWriter g.row.S.Denot). shown g.S.Store x.store) c.forget_numbers.ensures.others)
    (subst (λ fs. Survives (shown g.S.Store c.forget_numbers.new.self.store) new
    (LackUnused fs (shown g.S.Store c.forget_numbers.new.self.store))) c.deref-3.ensures.value
    c.begin_numbers.ensures.crash))
