use Rattle.std.proofs.Common.{option_map}
use Rattle.sqlite.proofs.StateLemmas.{survives_then}
use Rattle.njh_spoolfile.specs.Shelf.{shown}
use Rattle.njh_listing.proofs.MovedLaws.{clean_before, moved}
use Rattle.njh_listing.proofs.moving.copy.Goals as goal

pub returns-in-Ok-clause-moved : goal.returns-in-Ok-clause-moved
returns-in-Ok-clause-moved g c = λ clean_from clean_into.
    let clean = clean_before c.print_files.ensures.crash clean_into in
    moved c.print_files.result (option_map (λ c'. c'.now) c.args.customer) c.in-Ok.field-0
    (shown g.S.Store c.args.from.now) (shown g.T.Store c.args.into.now) (shown g.T.Store c.copy_files.new.into)
    (shown g.T.Store c.print_files.new.store) (g.W.Write.contents c.args.out.now)
    (g.W.Write.contents c.print_files.new.out)
    (λ from before. c.in-Ok.ensures.copied clean_from clean from before)
    (c.print_files.ensures.same clean_into)
    (c.print_files.ensures.kept clean_into)

pub returns-in-Ok-clause-crash : goal.returns-in-Ok-clause-crash
returns-in-Ok-clause-crash g c =
    survives_then _ _ _ _ _ _ (λ clean db made. made) (λ clean db none. absurd none) c.copy_files.ensures.crash
    c.print_files.ensures.crash
