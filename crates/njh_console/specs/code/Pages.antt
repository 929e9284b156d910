-- An answer as it is written.
use Rattle.std.specs.Prelude.{◌≡◌, ℕ, ◌≤◌, length, string_bytes}
use Rattle.njh_answer.specs.Answers.{Told}
use Rattle.njh_console.specs.Rounds.{IsTextOf, IsToldFor}
use Rattle.njh_console.specs.declared.page.Page.{Page}

-- it is a text of what is told, and not too long
pub record IsPageOf (t : Told) (page : Page) : Type 0 where
  pub status_is : page.status ≡ t.status
  pub text_is : IsTextOf t.json (string_bytes page.text)
  pub text_fits : length (string_bytes page.text) ≤ 65536
  pub deed_is : page.deed ≡ t.deed

-- of what is told in place of an answer
abbrev pub IsPageFor : ℕ → Told → Page → Type 0
IsPageFor since whole page = (t : Told) × IsToldFor since whole t × IsPageOf t page
