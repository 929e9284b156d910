-- How far a trace was read and told.
use Rattle.std.proofs.Common.{◌≡◌, ℕ, Bool, List, [], ◌++◌, Option, sym, ap, ◌∙◌, append_assoc, append-nil}
use Rattle.std.proofs.Common.{true, Result, Ok, Err, OnOk, OnErr}
use Rattle.std.specs.Prelude.{IfSome}
use Rattle.std.specs.List.{list_any}
use Rattle.std.specs.Io.KnownBytes.{Appends, Consumes, IsAtEnd}
use Rattle.std.proofs.KnownBytes.{Appends-trans, Consumes-trans, Consumes-whole}
use Rattle.njh_io.specs.Written.{AppendsBeginning}
use Rattle.njh_io.specs.Lines.{is_long_line, lines_from}
use Rattle.njh_trace.specs.Trace.{has_long_line, trace_told}
use Rattle.njh_trace.specs.code.Reading.{Progress, Takes, told_behind}
use Rattle.njh_trace.proofs.ReadingLaws.{known_then, Takes-any_long, Takes-tells, Takes-then}
use Rattle.njh_io.proofs.Beginnings.{beginning-after}

abbrev pub start : Progress
start = record { sources = []; front = [] }

-- these bytes were read, and what their lines say was written
pub record IsTraced (hex : Bool) (first now old new : Option (List ℕ)) (at : Progress) : Type 0 where
  pub seen : List ℕ
  pub told : List ℕ
  pub read : Consumes first now seen
  pub written : Appends old new told
  pub takes : Takes hex start seen told at

-- a piece more
pub IsTraced-more : (hex : Bool) (first now later old then new : Option (List ℕ)) (a b : Progress) (piece told : List ℕ)
    → IsTraced hex first now old then a → Consumes now later piece → Appends then new told → Takes hex a piece told b
    → IsTraced hex first later old new b
IsTraced-more hex first now later old then new a b piece told x read written takes = record {
  seen = x.seen ++ piece;
  told = x.told ++ told;
  read = Consumes-trans first now later x.seen piece x.read read;
  written = Appends-trans old then new x.told told x.written written;
  takes = Takes-then hex start a b x.seen piece x.told told x.takes takes;
}

-- all was read, and then the last line was told
pub IsTraced-whole : (hex : Bool) (first now old then new : Option (List ℕ)) (at : Progress)
    → IsTraced hex first now old then at
    → IsAtEnd now → Appends then new (told_behind hex at [])
    → IfSome first (λ text. Appends old new (trace_told hex text))
IsTraced-whole hex first now old then new at x end last =
    Consumes-whole first now x.seen (λ text. Appends old new (trace_told hex text)) x.read end
    (let all : trace_told hex x.seen ≡ x.told ++ told_behind hex at [] =
    ap (λ (text : List ℕ). told_behind hex start text) (sym (append-nil x.seen))
    ∙ Takes-tells hex start at x.seen x.told x.takes [] in
    rw all (Appends-trans old then new x.told (told_behind hex at []) x.written last))

-- the last line was told in part
pub IsTraced-last_part : (hex : Bool) (first now old then new : Option (List ℕ)) (at : Progress)
    → IsTraced hex first now old then at
    → IsAtEnd now → AppendsBeginning then new (told_behind hex at [])
    → IfSome first (λ text. AppendsBeginning old new (trace_told hex text))
IsTraced-last_part hex first now old then new at x end begun =
    Consumes-whole first now x.seen (λ text. AppendsBeginning old new (trace_told hex text)) x.read end
    (beginning-after old then new x.told (told_behind hex at []) [] (trace_told hex x.seen) x.written begun
    (ap (λ (text : List ℕ). x.told ++ text) (append-nil (told_behind hex at []))
    ∙ sym (Takes-tells hex start at x.seen x.told x.takes [])
    ∙ ap (λ (text : List ℕ). told_behind hex start text) (append-nil x.seen)))

-- a piece has a line that is too long
pub IsTraced-long : (hex : Bool) (first now later old new : Option (List ℕ)) (at : Progress) (piece : List ℕ)
    → IsTraced hex first now old new at → Consumes now later piece
    → ((more : List ℕ) → list_any is_long_line (lines_from at.front (piece ++ more)) ≡ true)
    → IfSome first (λ text. has_long_line text ≡ true)
IsTraced-long hex first now later old new at piece x read long =
    known_then first later (x.seen ++ piece) (λ text. has_long_line text ≡ true)
    (Consumes-trans first now later x.seen piece x.read read)
    (λ more. ap (λ (text : List ℕ). list_any is_long_line (lines_from [] text)) (append_assoc x.seen piece more)
    ∙ Takes-any_long hex start at x.seen x.told x.takes (piece ++ more) ∙ long more)

-- a piece was told in part
pub IsTraced-part : (hex : Bool) (first now later old then new : Option (List ℕ)) (at : Progress) (piece : List ℕ)
    → IsTraced hex first now old then at → Consumes now later piece
    → ((more : List ℕ) → AppendsBeginning then new (told_behind hex at (piece ++ more)))
    → IfSome first (λ text. AppendsBeginning old new (trace_told hex text))
IsTraced-part hex first now later old then new at piece x read begun =
    known_then first later (x.seen ++ piece) (λ text. AppendsBeginning old new (trace_told hex text))
    (Consumes-trans first now later x.seen piece x.read read)
    (λ more.
    beginning-after old then new x.told (told_behind hex at (piece ++ more)) []
    (trace_told hex ((x.seen ++ piece) ++ more))
    x.written (begun more)
    (ap (λ (text : List ℕ). x.told ++ text) (append-nil (told_behind hex at (piece ++ more)))
    ∙ sym (Takes-tells hex start at x.seen x.told x.takes (piece ++ more))
    ∙ ap (λ (text : List ℕ). told_behind hex start text) (sym (append_assoc x.seen piece more))))

-- it ended where all that was read is told
pub IsTraced-begun : (hex : Bool) (first now old new : Option (List ℕ)) (at : Progress)
    → IsTraced hex first now old new at
    → IfSome first (λ text. AppendsBeginning old new (trace_told hex text))
IsTraced-begun hex first now old new at x =
    known_then first now x.seen (λ text. AppendsBeginning old new (trace_told hex text)) x.read
    (λ more. (x.told, told_behind hex at more, sym (Takes-tells hex start at x.seen x.told x.takes more), x.written))

-- or was written in part
pub written_part : (hex : Bool) (old new : Option (List ℕ)) (a b : Progress) (piece before after written : List ℕ)
    → before ≡ [] → written ≡ after → ((told : List ℕ) × (after ≡ before ++ told) × Takes hex a piece told b)
    → AppendsBeginning old new written → (more : List ℕ) → AppendsBeginning old new (told_behind hex a (piece ++ more))
written_part hex old new a b piece before after written empty same t begun more =
    let later = told_behind hex b more in
    let told : written ≡ t.0 = same ∙ t.1 ∙ ap (λ (xs : List ℕ). xs ++ t.0) empty in (
      begun.0,
      begun.1 ++ later,
      sym (append_assoc begun.0 begun.1 later) ∙ ap (λ (xs : List ℕ). xs ++ later) (begun.2 ∙ told)
          ∙ sym (Takes-tells hex a b piece t.0 t.2 more),
      begun.3,
    )

-- on Ok, and on Err, of the last line
pub whole-on_ok : {T E : Type 0} (r : Result T E) (hex : Bool) (first now old then new : Option (List ℕ))
    (at : Progress)
    → IsTraced hex first now old then at → IsAtEnd now → OnOk r (Appends then new (told_behind hex at []))
    → OnOk r (IfSome first (λ text. Appends old new (trace_told hex text)))
whole-on_ok (Ok x) hex first now old then new at traced end last =
    IsTraced-whole hex first now old then new at traced end last
whole-on_ok (Err e) hex first now old then new at traced end last = tt

pub part-on_err : {T E : Type 0} (r : Result T E) (hex : Bool) (first now old then new : Option (List ℕ))
    (at : Progress)
    → IsTraced hex first now old then at → IsAtEnd now → OnErr r (AppendsBeginning then new (told_behind hex at []))
    → OnErr r (IfSome first (λ text. AppendsBeginning old new (trace_told hex text)))
part-on_err (Ok x) hex first now old then new at traced end last = tt
part-on_err (Err e) hex first now old then new at traced end last =
    IsTraced-last_part hex first now old then new at traced end last
