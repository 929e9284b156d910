use Rattle.std.proofs.Common.{◌≡◌, List, refl, subst}
use Rattle.std.specs.Bool.{Decides}
use Rattle.std.proofs.lemmas.Slice.Eq.{slice_eq-Decides}
use Rattle.njh_table.specs.declared.address_range.AddressRange.{AddressRange}
use Rattle.njh_table.proofs.SameRanges.{ranges_decide}
use Rattle.njh_table.proofs.address_ranges.AddressRanges.is_same.Goals as goal

pub returns : goal.returns
returns c =
    let decides = slice_eq-Decides (ranges_decide _ (record {
      four = λ x y m n. refl;
      six = λ x y m n. refl;
      four_six = λ x y m n. refl;
      six_four = λ x y m n. refl;
    })) c.as_slice.result.now c.as_slice-2.result.now c.eq.result c.eq.ensures in
    subst (λ (own : List AddressRange). Decides c.eq.result (own ≡ c.args.other.now)) c.as_slice.ensures
    (subst (λ (its : List AddressRange). Decides c.eq.result (c.as_slice.result.now ≡ its)) c.as_slice-2.ensures decides)
