use Rattle.std.proofs.Common.{ap, subst}
use Rattle.std.specs.Prelude.{string_bytes}
use Rattle.serde_json.specs.Data.{Data}
use Rattle.njh_request.specs.declared.refusal.RequestRefusal.TheVariants.{TooLong}
use Rattle.njh_answer.specs.Answers.{refusal_data, Told}
use Rattle.njh_console.specs.Rounds.{IsTextOf}
use Rattle.njh_console.proofs.PageLaws.{too_long_fits}
use Rattle.njh_console.proofs.page.too_long.Goals as goal

pub returns : goal.returns
returns c =
    let told = c.in_ok-status.ensures in
    let text = string_bytes c.in_ok-text.text in
    let written : IsTextOf (refusal_data c.args.since TooLong) text =
    subst (λ (json : Data). IsTextOf json text) (ap (λ (t : Told). t.json) told)
    (c.in_ok-text.ensures.order, c.in_ok-text.ensures.text) in record {
      status_is = ap (λ (t : Told). t.status) told;
      text_is = written;
      text_fits = too_long_fits c.args.since text c.ranges.since.fits written;
      deed_is = ap (λ (t : Told). t.deed) told;
    }
