-- Texts and beginnings of texts, one after another.
use Rattle.std.proofs.Common.{◌≡◌, Result, Ok, Err, OnErr, OnOk, ℕ, List, [], ◌∷◌, ◌++◌, Option, refl, sym, ap, ◌∙◌}
use Rattle.std.proofs.Common.{append_assoc, append-nil}
use Rattle.std.specs.Io.KnownBytes.{Appends}
use Rattle.std.proofs.KnownBytes.{Appends-nil, Appends-trans}
use Rattle.njh_table.specs.declared.LineId.{LineId}
use Rattle.hex.specs.Hex.{encode_lower}
use Rattle.njh_io.specs.Written.{AppendsBeginning}
use Rattle.njh_replay.specs.Printed.{frame_text, pair_text, frames_text, IsPrinted, IsPrintedInPart}
use Rattle.njh_replay.specs.code.PrintedLaws.{text_of-append}

-- nothing, or all, is a beginning
pub beginning-none : (known : Option (List ℕ)) (whole : List ℕ) → AppendsBeginning known known whole
beginning-none known whole = ([], whole, refl, Appends-nil known)

pub beginning-all : (old new : Option (List ℕ)) (whole : List ℕ) → Appends old new whole
    → AppendsBeginning old new whole
beginning-all old new whole written = (whole, [], append-nil whole, written)

-- a text, and then a beginning of the next
pub beginning-after : (a b c : Option (List ℕ)) (front text more whole : List ℕ) → Appends a b front
    → AppendsBeginning b c text
    → front ++ (text ++ more) ≡ whole → AppendsBeginning a c whole
beginning-after a b c front text more whole written begun all =
    let begin = begun.0 in
    let rest = begun.1 in (
      front ++ begin,
      rest ++ more,
      append_assoc front begin (rest ++ more) ∙ ap (λ (s : List ℕ). front ++ s)
          (sym (append_assoc begin rest more) ∙ ap (λ (s : List ℕ). s ++ more) begun.2) ∙ all,
      Appends-trans a b c front begin written begun.3,
    )

-- some frames, and then a frame in part, begin the text of a list that begins with all of them
pub beginning-part : (names later : List (List (List ℕ))) (a b c : Option (List ℕ)) (front : List (LineId × List ℕ))
    (last : LineId × List ℕ) (more whole : List (LineId × List ℕ))
    → IsPrinted names later a b front → (final : List (List (List ℕ))) → IsPrintedInPart later final b c last
    → (front ++ last ∷ []) ++ more ≡ whole
    → AppendsBeginning a c (frames_text names whole)
beginning-part names later a b c front last more whole printed final begun all =
    let part : AppendsBeginning b c (pair_text names last) = rw printed.0 at begun.1 in
    beginning-after a b c (frames_text names front) (pair_text names last) (frames_text names more)
    (frames_text names whole) printed.1 part
    (sym (text_of-append names front (last ∷ more))
    ∙ ap (frames_text names) (sym (append_assoc front (last ∷ []) more) ∙ all))

-- the parts of a frame's text
pub frame-parts : (name frame : List ℕ) → name ++ (32 ∷ (encode_lower frame ++ 10 ∷ [])) ≡ frame_text name frame
frame-parts name frame =
    sym (append_assoc (name ++ 32 ∷ []) (encode_lower frame) (10 ∷ [])
    ∙ append_assoc name (32 ∷ []) (encode_lower frame ++ 10 ∷ []))

-- on Ok alone, and on Err alone
pub on_ok_of : {A E : Type 0} (r : Result A E) (P : Type 0) → P → OnOk r P
on_ok_of (Ok x) P so = so
on_ok_of (Err e) P so = tt

pub on_ok_then : {A E : Type 0} (r : Result A E) (P Q : Type 0) → (P → Q) → OnOk r P → OnOk r Q
on_ok_then (Ok x) P Q then so = then so
on_ok_then (Err e) P Q then so = tt

pub on_err_of : {A E : Type 0} (r : Result A E) (P : Type 0) → P → OnErr r P
on_err_of (Ok x) P so = tt
on_err_of (Err e) P so = so

pub on_err_then : {A E : Type 0} (r : Result A E) (P Q : Type 0) → (P → Q) → OnErr r P → OnErr r Q
on_err_then (Ok x) P Q then so = tt
on_err_then (Err e) P Q then so = then so
