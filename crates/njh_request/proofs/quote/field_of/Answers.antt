use Rattle.njh_request.proofs.QuoteLaws.{quote-overlay}
use Rattle.njh_request.proofs.quote.field_of.Goals as goal

pub returns : goal.returns
returns c =
    quote-overlay c.args.text.now c.copy_from_slice.new.self c.min-count.result c.min-count.ensures
    c.copy_from_slice.ensures.after
