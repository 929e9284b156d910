use Rattle.std.proofs.Common.{sym, ap, ◌∙◌}
use Rattle.std.specs.Prelude.{string_bytes}
use Rattle.njh_spoolfile.specs.declared.kept.StoredFile.{StoredFile}
use Rattle.njh_listing.proofs.MapLaws.{appends_other}
use Rattle.njh_listing.proofs.OrderLaws.{first_all, first_none}
use Rattle.njh_listing.proofs.order.put_first.Goals as goal

pub returns-then-has_customer : goal.returns-then-has_customer
returns-then-has_customer c =
    first_none c.args.files.now c.args.at c.index-files-at.result c.as_str-customer.result.now _ c.requires
    c.index-files-at.is
    (c.as_str-customer.ensures.value
    ∙ ap (λ (s : StoredFile). string_bytes s.file.customer) (sym c.index-files-at.is)) cc

pub returns : goal.returns
returns c =
    appends_other c.put_customer.result _ _ _ _
    (first_all c.args.files.now c.args.at c.index-files-at.result c.as_str-customer.result.now c.requires
    c.index-files-at.is
    (c.as_str-customer.ensures.value
    ∙ ap (λ (s : StoredFile). string_bytes s.file.customer) (sym c.index-files-at.is)) cc) c.put_customer.ensures
