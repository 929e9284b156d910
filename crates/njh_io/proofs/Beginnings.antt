-- Texts and beginnings of texts, one after another.
use Rattle.std.proofs.Common.{◌≡◌, List, [], ◌++◌, ℕ, Option, Result, Ok, Err, OnErr, refl, sym, ap, ◌∙◌}
use Rattle.std.proofs.Common.{append_assoc}
use Rattle.std.specs.Io.KnownBytes.{Appends}
use Rattle.std.proofs.KnownBytes.{Appends-nil, Appends-trans}
use Rattle.njh_io.specs.Written.{AppendsBeginning}

-- nothing is a beginning
pub beginning-none : (known : Option (List ℕ)) (whole : List ℕ) → AppendsBeginning known known whole
beginning-none known whole = ([], whole, refl, Appends-nil known)

-- a text, and then a beginning of the next
pub beginning-after : (a b c : Option (List ℕ)) (front text more whole : List ℕ) → Appends a b front
    → AppendsBeginning b c text
    → front ++ (text ++ more) ≡ whole → AppendsBeginning a c whole
beginning-after a b c front text more whole written begun all =
    let begin = begun.0 in
    let rest = begun.1 in (
      front ++ begin,
      rest ++ more,
      append_assoc front begin (rest ++ more) ∙ ap (λ (s : List ℕ). front ++ s)
          (sym (append_assoc begin rest more) ∙ ap (λ (s : List ℕ). s ++ more) begun.2) ∙ all,
      Appends-trans a b c front begin written begun.3,
    )

-- on Err alone
pub on_err_of : {T E : Type 0} (r : Result T E) (P : Type 0) → P → OnErr r P
on_err_of (Ok x) P so = tt
on_err_of (Err e) P so = so
