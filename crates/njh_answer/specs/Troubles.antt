-- What is told of what is wrong, and of moments.
use Rattle.std.specs.Prelude.{ℕ, codes, string_bytes, Option, Some, None}
use Rattle.serde_json.specs.Data.{Data, null, number, unsigned, string, object, member, no_members}
use Rattle.njh_answer.specs.declared.views.Trouble.{Trouble}

abbrev pub moment_number : ℕ → Data
moment_number moment = number (unsigned moment)

abbrev pub moment_data : Option ℕ → Data
moment_data None = null
moment_data (Some moment) = moment_number moment

-- a sentence
abbrev pub text_data : Trouble → Data
text_data t = string (string_bytes t.text)

-- {"severity":"warning","since":1790650000,"text":"ACME a1: no connection to 10.1.2.3:175"}
abbrev pub trouble_data : Trouble → Data
trouble_data t = object (
    member (codes "severity") (string (string_bytes t.severity))
    (member (codes "since") (moment_data t.since)
    (member (codes "text") (text_data t) no_members)))

abbrev pub trouble_where : Option Trouble → Data
trouble_where None = null
trouble_where (Some t) = trouble_data t
