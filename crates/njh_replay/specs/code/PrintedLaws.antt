-- The laws that a sink that prints owes. An `impl` takes its proofs from specs/ alone, so they are here.
use Rattle.std.proofs.Common.{◌≡◌, ℕ, List, [], ◌∷◌, ◌++◌, Option, refl, sym, ap, ◌∙◌, append_assoc}
use Rattle.std.specs.Io.KnownBytes.{Appends}
use Rattle.std.proofs.KnownBytes.{Appends-nil, Appends-trans}
use Rattle.njh_table.specs.declared.LineId.{LineId}
use Rattle.njh_replay.specs.Printed.{pair_text, frames_text, IsPrinted}

-- the text of some frames and then of more
pub text_of-append : (names : List (List (List ℕ))) (xs ys : List (LineId × List ℕ))
    → frames_text names (xs ++ ys) ≡ frames_text names xs ++ frames_text names ys
text_of-append names [] ys = refl
text_of-append names (x ∷ xs) ys =
    ap (λ (text : List ℕ). pair_text names x ++ text) (text_of-append names xs ys)
    ∙ sym (append_assoc (pair_text names x) (frames_text names xs) (frames_text names ys))

pub IsPrinted-none : (names : List (List (List ℕ))) (known : Option (List ℕ)) → IsPrinted names names known known []
IsPrinted-none names known = (refl, Appends-nil known)

pub IsPrinted-more : (names then last : List (List (List ℕ))) (a b c : Option (List ℕ))
    (xs ys : List (LineId × List ℕ)) →
    IsPrinted names then a b xs → IsPrinted then last b c ys → IsPrinted names last a c (xs ++ ys)
IsPrinted-more names then last a b c xs ys front back =
    let more : Appends b c (frames_text names ys) = rw front.0 at back.1 in (
      back.0 ∙ front.0,
      rw (text_of-append names xs ys)
          (Appends-trans a b c (frames_text names xs) (frames_text names ys) front.1 more),
    )

-- a printer keeps its place
pub same_then : {first then last : ℕ} → then ≡ first → last ≡ then → last ≡ first
same_then front back = back ∙ front
