use Rattle.std.proofs.Common.{refl}
use Rattle.std.proofs.lemmas.Bool.{false_from_ne_true}
use Rattle.std.proofs.lemmas.Str.{is_utf8-from_IsUtf8, IsUtf8-from_is_utf8}
use Rattle.njh_subcommands.specs.TableBytes.{tables_in}
use Rattle.njh_subcommands.proofs.table_file.tables_in.Goals as goal

pub returns-in-Ok : goal.returns-in-Ok
unfolding tables_in
returns-in-Ok c =
    let text = is_utf8-from_IsUtf8 c.args.bytes.now c.in-Ok.ensures.cases.1 in
    record {
      read = rw (text, ← c.in-Ok.ensures.cases.0) c.read.ensures.read;
      fault = rw (text, ← c.in-Ok.ensures.cases.0) c.read.ensures.fault;
    }

pub returns-in-Err : goal.returns-in-Err
unfolding tables_in
returns-in-Err c =
    let broken = false_from_ne_true _ (λ text. c.in-Err.ensures.cases.0 (IsUtf8-from_is_utf8 c.args.bytes.now text)) in
    record { read = tt; fault = λ other. rw broken refl }
