-- A trace that was read in pieces.
use Rattle.std.proofs.Common.{◌≡◌, ℕ, Bool, true, false, ◌||◌, List, [], ◌∷◌, ◌++◌, refl, sym, ap, ◌∙◌}
use Rattle.std.proofs.Common.{append_assoc, append-nil, subst, Option, None, Some}
use Rattle.std.specs.Prelude.{IfSome}
use Rattle.std.specs.List.{list_any}
use Rattle.std.specs.Io.KnownBytes.{Consumes}
use Rattle.std.proofs.lemmas.Bool.{false≢true}
use Rattle.std.proofs.lemmas.List.Folds.{list_any-append}
use Rattle.njh_trace.specs.Sources.{SourceView}
use Rattle.njh_io.specs.Lines.{is_first_long, is_long_line, lines_from, lines_of}
use Rattle.njh_trace.specs.Trace.{line_told, lines_told, sources_behind}
use Rattle.njh_trace.specs.code.Reading.{Progress, Takes, sources_behind_lines, told_behind}

pub lines_told-append : (hex : Bool) (sources : List SourceView) (xs ys : List (List ℕ))
    → lines_told hex sources (xs ++ ys) ≡ lines_told hex sources xs ++ lines_told hex (sources_behind_lines sources xs)
    ys
lines_told-append hex sources [] ys = refl
lines_told-append hex sources (x ∷ xs) ys =
    ap (λ (text : List ℕ). line_told hex sources x ++ text) (lines_told-append hex (sources_behind sources x) xs ys)
    ∙ sym (append_assoc (line_told hex sources x) (lines_told hex (sources_behind sources x) xs) _)

sources_behind_lines-append : (sources : List SourceView) (xs ys : List (List ℕ))
    → sources_behind_lines sources (xs ++ ys) ≡ sources_behind_lines (sources_behind_lines sources xs) ys
sources_behind_lines-append sources [] ys = refl
sources_behind_lines-append sources (x ∷ xs) ys = sources_behind_lines-append (sources_behind sources x) xs ys

neither : (a b : Bool) → a ≡ false → b ≡ false → (a || b) ≡ false
neither a b p q = rw p q

-- a piece, and then the next
pub Takes-then : (hex : Bool) (a b c : Progress) (piece next told more_told : List ℕ) → Takes hex a piece told b
    → Takes hex b next more_told c
    → Takes hex a (piece ++ next) (told ++ more_told) c
Takes-then hex a b c piece next told more_told x y = record {
  done = x.done ++ y.done;
  lines = λ more.
      ap (lines_from a.front) (append_assoc piece next more) ∙ x.lines (next ++ more)
      ∙ ap (λ (ls : List (List ℕ)). x.done ++ ls) (y.lines more)
      ∙ sym (append_assoc x.done y.done (lines_from c.front more));
  short = list_any-append is_long_line x.done y.done ∙ neither _ _ x.short y.short;
  told_is =
      ap (λ (text : List ℕ). text ++ more_told) x.told_is
      ∙ ap (λ (text : List ℕ). lines_told hex a.sources x.done ++ text)
      (y.told_is ∙ ap (λ (s : List SourceView). lines_told hex s y.done) x.sources_are)
      ∙ sym (lines_told-append hex a.sources x.done y.done);
  sources_are =
      y.sources_are ∙ ap (λ (s : List SourceView). sources_behind_lines s y.done) x.sources_are
      ∙ sym (sources_behind_lines-append a.sources x.done y.done);
}

-- what is told of a text of which a piece came
pub Takes-tells : (hex : Bool) (a b : Progress) (piece told : List ℕ) → Takes hex a piece told b → (more : List ℕ)
    → told_behind hex a (piece ++ more) ≡ told ++ told_behind hex b more
Takes-tells hex a b piece told x more =
    ap (lines_told hex a.sources) (x.lines more) ∙ lines_told-append hex a.sources x.done (lines_from b.front more)
    ∙ ap (λ (text : List ℕ). text ++ lines_told hex (sources_behind_lines a.sources x.done) (lines_from b.front more))
    (sym x.told_is)
    ∙ ap (λ (s : List SourceView). told ++ lines_told hex s (lines_from b.front more)) (sym x.sources_are)

-- a line is too long if one of what is left is
pub Takes-any_long : (hex : Bool) (a b : Progress) (piece told : List ℕ) → Takes hex a piece told b → (more : List ℕ)
    → list_any is_long_line (lines_from a.front (piece ++ more)) ≡ list_any is_long_line (lines_from b.front more)
Takes-any_long hex a b piece told x more =
    ap (list_any is_long_line) (x.lines more) ∙ list_any-append is_long_line x.done (lines_from b.front more)
    ∙ ap (λ (t : Bool). t || list_any is_long_line (lines_from b.front more)) x.short

-- what holds of all texts that begin with these bytes holds of what a reader had that gave them
pub known_then : (first now : Option (List ℕ)) (seen : List ℕ) (P : List ℕ → Type 0) → Consumes first now seen
    → ((more : List ℕ) → P (seen ++ more)) → IfSome first P
known_then None now seen P taken holds = tt
known_then (Some xs) None seen P taken holds = absurd taken
known_then (Some xs) (Some ys) seen P taken holds = subst P (sym taken) (holds ys)

-- ---- how far a piece was read

-- These lines of it are done, and what is left comes after what was kept.
pub record IsReadUpTo (hex : Bool) (a : Progress) (piece old_lines left lines : List ℕ) (b : Progress) : Type 0 where
  pub done : List (List ℕ)
  pub parts : (more : List ℕ) → lines_from a.front (piece ++ more) ≡ done ++ lines_from b.front (left ++ more)
  pub short : list_any is_long_line done ≡ false
  pub grown : lines ≡ old_lines ++ lines_told hex a.sources done
  pub sources_are : b.sources ≡ sources_behind_lines a.sources done

pub read-none : (hex : Bool) (a : Progress) (piece lines : List ℕ) → IsReadUpTo hex a piece lines piece lines a
read-none hex a piece lines =
    record { done = []; parts = λ more. refl; short = refl; grown = sym (append-nil lines); sources_are = refl }

-- a line more
pub read-line : (hex : Bool) (a b kept c : Progress) (piece old_lines left lines behind new_lines : List ℕ)
    → IsReadUpTo hex a piece old_lines left lines b
    → ((more : List ℕ) → lines_from b.front (left ++ more) ≡ kept.front ∷ lines_of (behind ++ more))
    → kept.sources ≡ b.sources → is_long_line kept.front ≡ false
    → new_lines ≡ lines ++ line_told hex kept.sources kept.front
    → c ≡ record { sources = sources_behind kept.sources kept.front; front = [] }
    → IsReadUpTo hex a piece old_lines behind new_lines c
read-line hex a b kept c piece old_lines left lines behind new_lines x line same short told ended =
    let known : kept.sources ≡ sources_behind_lines a.sources x.done = same ∙ x.sources_are in
    let front : [] ≡ c.front = sym (ap (λ (at : Progress). at.front) ended) in
    record {
      done = x.done ++ kept.front ∷ [];
      parts = λ more.
          x.parts more ∙ ap (λ (ls : List (List ℕ)). x.done ++ ls) (line more)
          ∙ sym (append_assoc x.done (kept.front ∷ []) (lines_of (behind ++ more)))
          ∙ ap (λ (f : List ℕ). (x.done ++ kept.front ∷ []) ++ lines_from f (behind ++ more)) front;
      short = list_any-append is_long_line x.done (kept.front ∷ [])
          ∙ neither _ _ x.short (ap (λ (t : Bool). t || false) short);
      grown =
          told ∙ ap (λ (text : List ℕ). text ++ line_told hex kept.sources kept.front) x.grown
          ∙ append_assoc old_lines (lines_told hex a.sources x.done) (line_told hex kept.sources kept.front)
          ∙ ap (λ (text : List ℕ). old_lines ++ (lines_told hex a.sources x.done ++ text))
          (sym (append-nil (line_told hex kept.sources kept.front))
          ∙ ap (λ (s : List SourceView). lines_told hex s (kept.front ∷ [])) known)
          ∙ ap (λ (text : List ℕ). old_lines ++ text) (sym (lines_told-append hex a.sources x.done (kept.front ∷ [])));
      sources_are =
          ap (λ (at : Progress). at.sources) ended ∙ ap (λ (s : List SourceView). sources_behind s kept.front) known
          ∙ sym (sources_behind_lines-append a.sources x.done (kept.front ∷ []));
    }

-- all of it, the last part without an end
pub read-all : (hex : Bool) (a b new : Progress) (piece old_lines left lines : List ℕ)
    → IsReadUpTo hex a piece old_lines left lines b
    → ((more : List ℕ) → lines_from b.front (left ++ more) ≡ lines_from new.front more) → new.sources ≡ b.sources
    → (told : List ℕ) × (lines ≡ old_lines ++ told) × Takes hex a piece told new
read-all hex a b new piece old_lines left lines x kept same = (
  lines_told hex a.sources x.done,
  x.grown,
  record {
    done = x.done;
    lines = λ more. x.parts more ∙ ap (λ (ls : List (List ℕ)). x.done ++ ls) (kept more);
    short = x.short;
    told_is = refl;
    sources_are = same ∙ x.sources_are;
  },
)

any_long : (lines : List (List ℕ)) → is_first_long lines ≡ true → list_any is_long_line lines ≡ true
any_long [] long = absurd (false≢true long)
any_long (line ∷ lines) long = rw long refl

-- the first line of what is left is too long
pub any_long-later : (hex : Bool) (a b : Progress) (piece old_lines left lines more : List ℕ)
    → IsReadUpTo hex a piece old_lines left lines b → is_first_long (lines_from b.front (left ++ more)) ≡ true
    → list_any is_long_line (lines_from a.front (piece ++ more)) ≡ true
any_long-later hex a b piece old_lines left lines more x long =
    ap (list_any is_long_line) (x.parts more) ∙ list_any-append is_long_line x.done (lines_from b.front (left ++ more))
    ∙ ap (λ (t : Bool). t || list_any is_long_line (lines_from b.front (left ++ more))) x.short
    ∙ any_long (lines_from b.front (left ++ more)) long
