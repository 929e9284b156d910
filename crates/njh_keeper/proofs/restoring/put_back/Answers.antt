use Rattle.njh_keeper.proofs.Words
use Words.{◌≡◌, map, Some, Option, Err, refl, sym, ap, subst, ◌∙◌, contents_of, file_of, part, Refused, FileFault}
use Words.{file_in, kind_of_word}
use Rattle.{std.proofs.Common.{MatchOption, Result, false, true}}
use Rattle.{njh_keeper.proofs.FileLaws.{as_kept, by_restore, is_file}}
use Rattle.njh_keeper.proofs.FileLaws.{this_fault}
use Rattle.njh_keeper.proofs.restoring.put_back.Goals as goal

pub returns-clause-fault : goal.returns-clause-fault
returns-clause-fault c =
    let file = file_of c.args.file.now in
    let records = map contents_of c.args.records.items in
    let kind = c.in-Some.kind in
    let f = as_kept file kind c.in-Some-of.contents in
    let word : kind_of_word file.kind ≡ Some kind =
    ap kind_of_word (sym c.as_str.ensures.value) ∙ sym c.kind_of_word.ensures ∙ c.in-Some.is in
    let is : file_in file records ≡ Some f =
    is_file file records kind c.in-Some-of.contents word c.in-Some-of.ensures in
    let p = part c.args.customer c.args.hub.now in
    let told = this_fault _ c.restore.result c.in-Err.fault c.restore.ensures.fault c.in-Err.is in
    subst (λ (o : Option FileFault). MatchOption o (false ≡ true) (λ fault.
    ◌≡◌ {A = Result (Unit {0}) FileFault} (Err (Refused c.in-Err.fault)) (Err fault)))
    (sym (by_restore p file records f (Some c.in-Err.fault) is told)) refl
