use Rattle.std.proofs.Common.{◌≡◌, ◌+◌, ◌-◌, Err, take, drop, inl, inr, sym, ap, ◌∙◌, arith}
use Rattle.std.proofs.lemmas.Result.{err_from_is_err_and}
use Rattle.njh_nmr.proofs.Nodes.{nodal_of-bad_name, node_of-named}
use Rattle.njh_nmr.proofs.Places.{record_of-parts}
use Rattle.njh_nmr.proofs.nmr.Nmr.read.Goals as goal

pub returns-in_err-to-clause-read : goal.returns-in_err-to-clause-read
returns-in_err-to-clause-read c =
    let told = err_from_is_err_and c.from_residual.result c.from_residual.ensures.1 in
    told.1 ∙ nodal_of-bad_name c.args.bytes.now told.0 (omega arith) (omega arith) (omega arith)
    (inl (ap Err told.2 ∙ (sym c.in_err-to.was ∙ c.name_at.ensures)))

pub returns-in_err-origin-clause-read : goal.returns-in_err-origin-clause-read
returns-in_err-origin-clause-read c =
    let told = err_from_is_err_and c.from_residual-in_err-origin.result c.from_residual-in_err-origin.ensures.1 in
    told.1 ∙ nodal_of-bad_name c.args.bytes.now told.0 (omega arith) (omega arith) (omega arith)
    (inr (ap Err told.2 ∙ (sym c.in_err-origin.was ∙ c.name_at-2.ensures)))

pub returns-clause-sent_on : goal.returns-clause-sent_on
returns-clause-sent_on c =
    let bytes = c.args.bytes.now in
    let len = c.from-length.result in
    let size : (30 + len) - 30 ≡ len = omega arith in
    record_of-parts bytes len c.in_ok-to.to c.field_at.result c.in_ok-origin.origin c.message_of.result.items
    (omega arith) c.from-length.ensures
    (node_of-named _ _ (sym c.in_ok-to.was ∙ c.name_at.ensures)) c.field_at.ensures
    (node_of-named _ _ (sym c.in_ok-origin.was ∙ c.name_at-2.ensures))
    (c.message_of.ensures ∙ ap (λ n. take n (drop 30 bytes)) size)
