-- How far a text was read and encoded.
use Rattle.std.proofs.Common.{◌≡◌, ℕ, List, [], ◌++◌, Option, refl, sym, ap, ◌∙◌, append_assoc, append-nil}
use Rattle.std.proofs.Common.{subst, Result, Ok, Err, OnOk, OnErr, None, Some}
use Rattle.std.specs.Prelude.{IfSome}
use Rattle.std.specs.Io.KnownBytes.{Appends, Consumes, IsAtEnd}
use Rattle.std.proofs.KnownBytes.{Appends-trans, Consumes-trans, Consumes-whole}
use Rattle.njh_io.specs.Written.{AppendsBeginning}
use Rattle.njh_encode.specs.declared.fault.EncodeFault.{EncodeFault}
use Rattle.njh_io.specs.Lines.{lines_from}
use Rattle.njh_encode.specs.Scripts.{Becomes, Encoding, IsEncodedInPart, IsEncodedTo, Texts, behind_script}
use Rattle.njh_encode.specs.Scripts.{encoding_of_lines}
use Rattle.njh_encode.specs.code.Reading.{BecomesBehind, EndsBad, IsWritten, IsWrittenInPart, Progress, Takes}
use Rattle.njh_encode.proofs.LineLaws.{becomes, some_texts}
use Rattle.njh_encode.proofs.ReadingLaws.{known_then, Takes-bad, Takes-then, text-as}
use Rattle.njh_io.proofs.Beginnings.{beginning-after, beginning-none}

abbrev pub start : Progress
start = record { states = []; number = 1; front = [] }

-- these bytes were read, and what their lines become was written
pub record IsEncoded (known : Option Texts) (first now old new : Option (List ℕ)) (at : Progress) : Type 0 where
  pub seen : List ℕ
  pub lines : List ℕ
  pub read : Consumes first now seen
  pub written : Appends old new lines
  pub takes : Takes known start seen lines at

-- a piece more
pub IsEncoded-more : (known : Option Texts) (first now later old then new : Option (List ℕ)) (a b : Progress)
    (piece lines : List ℕ)
    → IsEncoded known first now old then a → Consumes now later piece → Appends then new lines
    → Takes known a piece lines b
    → IsEncoded known first later old new b
IsEncoded-more known first now later old then new a b piece lines x read written takes = record {
  seen = x.seen ++ piece;
  lines = x.lines ++ lines;
  read = Consumes-trans first now later x.seen piece x.read read;
  written = Appends-trans old then new x.lines lines x.written written;
  takes = Takes-then known start a b x.seen piece x.lines lines x.takes takes;
}

-- a whole text, by what still becomes of it
whole-of : (known : Option Texts) (old then new : Option (List ℕ)) (bad : Option EncodeFault) (text lines : List ℕ)
    (e : Encoding)
    → Becomes known text (behind_script lines e) → Appends old then lines → e.bad ≡ bad → Appends then new e.script
    → IsEncodedTo known bad old new text
whole-of known old then new bad text lines e is before ended after =
    (behind_script lines e, is, ended, Appends-trans old then new lines e.script before after)

begun-of : (known : Option Texts) (old then new : Option (List ℕ)) (text lines : List ℕ) (e : Encoding)
    → Becomes known text (behind_script lines e) → Appends old then lines → AppendsBeginning then new e.script
    → IsEncodedInPart known old new text
begun-of known old then new text lines e is before after = (
  behind_script lines e,
  is,
  beginning-after old then new lines e.script [] (lines ++ e.script) before after
      (ap (λ (xs : List ℕ). lines ++ xs) (append-nil e.script)),
)

-- what all that was read becomes
all-of : (known : Option Texts) (at : Progress) (seen lines : List ℕ) (e : Encoding) → Takes known start seen lines at
    → BecomesBehind known at [] e → Becomes known seen (behind_script lines e)
all-of known at seen lines e takes last =
    text-as known start (seen ++ []) seen (behind_script lines e) (append-nil seen) (takes [] e last)

-- all was read, and then the last line was taken
pub IsEncoded-whole : (known : Option Texts) (first now old then new : Option (List ℕ)) (bad : Option EncodeFault)
    (at : Progress)
    → IsEncoded known first now old then at → IsAtEnd now → IsWritten known bad at then new
    → IfSome first (IsEncodedTo known bad old new)
IsEncoded-whole known first now old then new bad at x end last =
    Consumes-whole first now x.seen (IsEncodedTo known bad old new) x.read end
    (whole-of known old then new bad x.seen x.lines last.0 (all-of known at x.seen x.lines last.0 x.takes last.1)
    x.written
    last.2 last.3)

-- the last line was written in part
pub IsEncoded-last_part : (known : Option Texts) (first now old then new : Option (List ℕ)) (at : Progress)
    → IsEncoded known first now old then at → IsAtEnd now → IsWrittenInPart known at then new []
    → IfSome first (IsEncodedInPart known old new)
IsEncoded-last_part known first now old then new at x end begun =
    Consumes-whole first now x.seen (IsEncodedInPart known old new) x.read end
    (begun-of known old then new x.seen x.lines begun.0 (all-of known at x.seen x.lines begun.0 x.takes begun.1)
    x.written begun.2)

-- a piece has a bad line
pub IsEncoded-bad : (known : Option Texts) (first now later old then new : Option (List ℕ)) (at : Progress)
    (piece lines : List ℕ)
    (fault : EncodeFault) → IsEncoded known first now old then at → Consumes now later piece → Appends then new lines
    → EndsBad known at piece (record { script = lines; bad = Some fault })
    → IfSome first (IsEncodedTo known (Some fault) old new)
IsEncoded-bad known first now later old then new at piece lines fault x read written bad =
    let e : Encoding = record { script = lines; bad = Some fault } in
    known_then first later (x.seen ++ piece) (IsEncodedTo known (Some fault) old new)
    (Consumes-trans first now later x.seen piece x.read read)
    (λ more. whole-of known old then new (Some fault) ((x.seen ++ piece) ++ more) x.lines e
    (Takes-bad known start at x.seen piece x.lines e x.takes bad more) x.written refl written)

-- a piece was written in part
pub IsEncoded-part : (known : Option Texts) (first now later old then new : Option (List ℕ)) (at : Progress)
    (piece : List ℕ)
    → IsEncoded known first now old then at → Consumes now later piece
    → ((more : List ℕ) → IsWrittenInPart known at then new (piece ++ more))
    → IfSome first (IsEncodedInPart known old new)
IsEncoded-part known first now later old then new at piece x read begun =
    known_then first later (x.seen ++ piece) (IsEncodedInPart known old new)
    (Consumes-trans first now later x.seen piece x.read read)
    (λ more.
    let part = begun more in
    begun-of known old then new ((x.seen ++ piece) ++ more) x.lines part.0
    (text-as known start (x.seen ++ (piece ++ more)) ((x.seen ++ piece) ++ more) (behind_script x.lines part.0)
    (sym (append_assoc x.seen piece more)) (x.takes (piece ++ more) part.0 part.1)) x.written part.2)

-- something becomes of what follows
pub rest_becomes : (known : Option Texts) (at : Progress) (text : List ℕ)
    → (e : Encoding) × BecomesBehind known at text e
rest_becomes known at text = (
  encoding_of_lines (some_texts known) at.states at.number (lines_from at.front text),
  becomes known
      (lines_from at.front text) at.states at.number,
)

-- it ended where all that was read is written
pub IsEncoded-begun : (known : Option Texts) (first now old new : Option (List ℕ)) (at : Progress)
    → IsEncoded known first now old new at
    → IfSome first (IsEncodedInPart known old new)
IsEncoded-begun known first now old new at x =
    known_then first now x.seen (IsEncodedInPart known old new) x.read
    (λ more.
    let rest = rest_becomes known at more in
    (behind_script x.lines rest.0, x.takes more rest.0 rest.1, (x.lines, rest.0.script, refl, x.written)))

-- nothing is a beginning of what becomes of the rest
pub none_written : (known : Option Texts) (at : Progress) (held : Option (List ℕ)) (text : List ℕ)
    → IsWrittenInPart known at held held text
none_written known at held text =
    let rest = rest_becomes known at text in
    (rest.0, rest.1, beginning-none held rest.0.script)

-- or was written in part
pub written_part : (known : Option Texts) (old new : Option (List ℕ)) (a b : Progress)
    (piece before after written : List ℕ)
    → before ≡ [] → written ≡ after → ((lines : List ℕ) × (after ≡ before ++ lines) × Takes known a piece lines b)
    → AppendsBeginning old new written → (more : List ℕ) → IsWrittenInPart known a old new (piece ++ more)
written_part known old new a b piece before after written empty same t begun more =
    let rest = rest_becomes known b more in
    let later = rest.0.script in
    let is : written ≡ t.0 = same ∙ t.1 ∙ ap (λ (xs : List ℕ). xs ++ t.0) empty in (
      behind_script t.0 rest.0,
      t.2 more rest.0 rest.1,
      (
        begun.0,
        begun.1 ++ later,
        sym (append_assoc begun.0 begun.1 later) ∙ ap (λ (xs : List ℕ). xs ++ later) (begun.2 ∙ is),
        begun.3,
      ),
    )

pub bad_part : (known : Option Texts) (old new : Option (List ℕ)) (a : Progress) (piece before after written : List ℕ)
    (fault : EncodeFault)
    → before ≡ [] → written ≡ after
    → ((lines : List ℕ) × (after ≡ before ++ lines)
    × EndsBad known a piece (record { script = lines; bad = Some fault }))
    → AppendsBeginning old new written → (more : List ℕ) → IsWrittenInPart known a old new (piece ++ more)
bad_part known old new a piece before after written fault empty same t begun more =
    let is : written ≡ t.0 = same ∙ t.1 ∙ ap (λ (xs : List ℕ). xs ++ t.0) empty in
    (record { script = t.0; bad = Some fault }, t.2 more, subst (AppendsBeginning old new) is begun)

-- on Ok, and on Err, of the last line
pub whole-on_ok : {T E : Type 0} (known : Option Texts) (r : Result T E) (first now old then new : Option (List ℕ))
    (at : Progress)
    → IsEncoded known first now old then at → IsAtEnd now → OnOk r (IsWritten known None at then new)
    → OnOk r (IfSome first (IsEncodedTo known None old new))
whole-on_ok known (Ok x) first now old then new at read end last =
    IsEncoded-whole known first now old then new None at read end last
whole-on_ok known (Err e) first now old then new at read end last = tt

pub part-on_err : {T E : Type 0} (known : Option Texts) (r : Result T E) (first now old then new : Option (List ℕ))
    (at : Progress)
    → IsEncoded known first now old then at → IsAtEnd now → OnErr r (IsWrittenInPart known at then new [])
    → OnErr r (IfSome first (IsEncodedInPart known old new))
part-on_err known (Ok x) first now old then new at read end last = tt
part-on_err known (Err e) first now old then new at read end last =
    IsEncoded-last_part known first now old then new at read end last

-- a bad last line: nothing came of it
pub last_bad_whole : (known : Option Texts) (at : Progress) (old new : Option (List ℕ)) (before after written : List ℕ)
    (fault : EncodeFault)
    → before ≡ [] → written ≡ after → after ≡ before
    → BecomesBehind known at [] (record { script = []; bad = Some fault })
    → Appends old new written → IsWritten known (Some fault) at old new
last_bad_whole known at old new before after written fault empty same kept becomes wrote =
    (record { script = []; bad = Some fault }, becomes, refl, subst (Appends old new) (same ∙ kept ∙ empty) wrote)

pub last_bad_part : (known : Option Texts) (at : Progress) (old new : Option (List ℕ)) (before after written : List ℕ)
    (fault : EncodeFault)
    → before ≡ [] → written ≡ after → after ≡ before
    → BecomesBehind known at [] (record { script = []; bad = Some fault })
    → AppendsBeginning old new written → IsWrittenInPart known at old new []
last_bad_part known at old new before after written fault empty same kept becomes wrote =
    (record { script = []; bad = Some fault }, becomes, subst (AppendsBeginning old new) (same ∙ kept ∙ empty) wrote)
