-- The record names a node, and is rewritten, or names none and stays.
use Rattle.std.proofs.Common.{ℕ, List, sym, ap, ◌∙◌, slice_set}
use Rattle.njh_record.specs.Stored.{Stored}
use Rattle.njh_spool.specs.CustomerSpool.{WholeFile}
use Rattle.njh_spool.specs.Spools.{spool_at}
use Rattle.njh_header.specs.Redirecting.{destination_place}
use Rattle.njh_command.specs.Files.{file_at, with_file, with_records}
use Rattle.njh_command.proofs.RecordLaws.{redirected_here, redirected_nowhere}
use Rattle.njh_command.proofs.WalkLaws.{unmoved, same_file}
use Rattle.njh_command.proofs.rerouting.redirect_record.Goals as goal

pub returns-in-Some : goal.returns-in-Some
returns-in-Some c =
    let r : Stored = record { srcb = c.read-srcb.result; bytes = c.read-srcb.new.into.items } in
    let of : List ℕ → Stored = λ (b : List ℕ). record { srcb = c.read-srcb.result; bytes = b } in
    let e = redirected_here c.args.to.now.kind c.args.before c.args.to.now.node c.args.at.n c.in-Some.place
    (file_at c.args.at.index (spool_at c.args.at.customer c.args.spool.now)).records r c.read-srcb.ensures.record
    (ap (λ b. destination_place c.args.to.now.kind c.args.before (of b)) (sym c.deref.ensures.0)
    ∙ sym c.destination_place.ensures.place ∙
    c.in-Some.is) in
    record { spool = cc (e, c.rewrite.ensures, c.read-srcb.ensures.same, c.bytes.ensures.same) }

pub returns-in_default : goal.returns-in_default
returns-in_default c =
    let r : Stored = record { srcb = c.read-srcb.result; bytes = c.read-srcb.new.into.items } in
    let of : List ℕ → Stored = λ (b : List ℕ). record { srcb = c.read-srcb.result; bytes = b } in
    let f : WholeFile = file_at c.args.at.index (spool_at c.args.at.customer c.args.spool.now) in
    let e = redirected_nowhere c.args.to.now.kind c.args.before c.args.to.now.node c.args.at.n f.records r
    c.read-srcb.ensures.record
    (ap (λ b. destination_place c.args.to.now.kind c.args.before (of b)) (sym c.deref.ensures.0)
    ∙ sym c.destination_place.ensures.place ∙
    c.in_default.is) in
    record {
      spool =
          c.read-srcb.ensures.same
          ∙ unmoved c.args.spool.now c.args.at.customer
          ∙ ap (slice_set c.args.spool.now c.args.at.customer) (
          same_file (spool_at c.args.at.customer c.args.spool.now) c.args.at.index
          ∙ ap (λ records. with_file c.args.at.index (with_records records f)
          (spool_at c.args.at.customer c.args.spool.now)) e
          );
    }
