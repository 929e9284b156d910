use Rattle.std.proofs.Common.{ℕ, ap, ◌∙◌}
use Rattle.std.specs.Borrow.{Bor}
use Rattle.std.specs.List.{flat_map}
use Rattle.njh_spoolfile.specs.Kept.{File, entry_of}
use Rattle.njh_spoolfile.specs.declared.kept.StoredFile.{StoredFile}
use Rattle.njh_listing.specs.Listed.{file_line}
use Rattle.njh_listing.specs.code.Lent.{entries_of}
use Rattle.njh_listing.proofs.MapLaws.{flat_map_mapped, ok_other}
use Rattle.njh_listing.proofs.listing.listing_text.Goals as goal

pub returns : goal.returns
returns c =
    ok_other (λ v. v.items) c.lines_of.result _ _
    (flat_map_mapped (λ (e : ℕ × File). file_line e.1) (λ (s : Bor StoredFile). entry_of s.now) c.as_slice.result.now
    ∙ ap (flat_map (λ (e : ℕ × File). file_line e.1))
    (ap entries_of c.as_slice.ensures.value ∙ c.in_ok-list.ensures)) c.lines_of.ensures
